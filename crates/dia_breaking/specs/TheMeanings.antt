-- The AVPs of a command's messages that break nothing by their data and are read as another format.
use Rattle.std.specs.Prelude.{◌≡◌, ℕ, ◌<◌, List, length, map, Contains}
use Rattle.dia_wire.specs.declared.Key.{Key}
use Rattle.dia_wire.specs.Wire.{PlainAvp, key_of}
use Rattle.dia_book.specs.Dictionary.{PlainDefinition, definitions}
use Rattle.dia_breaking_sites.specs.Sent.{IsSent}
use Rattle.dia_breaking_sites.specs.Sites.{AboutLevels, AreAsked}
use Rattle.dia_breaking.specs.declared.line.Cause.TheVariants as causes
use Rattle.dia_breaking.specs.declared.line.Line.{Line}
use Rattle.dia_breaking.specs.declared.line.Site.{Site}
use Rattle.dia_breaking.specs.Listing.{Recorded, meanings_of, records}
use Rattle.dia_breaking.specs.Meanings.{IsReadAsOther}
use Rattle.dia_breaking.specs.Corrected.{IsLevelAt}
use Rattle.dia_breaking.specs.Sides.{Sides, Answer}
use Rattle.dia_breaking.specs.TheLines.{AreListedFor}

-- these are the sites of the command c, and the AVPs of its messages that are read as another format: each key once, at the site
-- to which the shortest way leads
abbrev pub AreTheMeanings : Sides → ℕ → List Site → List Recorded → Type 0
AreTheMeanings s c sites recorded = AreListedFor meanings_of s c sites recorded

-- these lines report them, with the sites of the answer
abbrev pub AreMeaningsOf : Sides → Answer → List Line → Type 0
AreMeaningsOf s answer meanings = ∥ AreTheMeanings s answer.command answer.sites (map records meanings) ∥₁

-- ---- they are all

-- an AVP of the key is reported
abbrev pub IsMeant : List Line → Key → Type 0
IsMeant meanings key = (line : Line) × Contains meanings line × (line.cause ≡ causes.Meaning key)

-- of the AVPs of a level those are reported that B's side reads as another format
abbrev pub AreMeant : Sides → List Line → AboutLevels
AreMeant s meanings x y avps = (v : PlainAvp) → Contains avps v → IsReadAsOther s (key_of v) → IsMeant meanings (key_of v)

-- B's side reads no AVP of a level as another format: no leaf, no group as a leaf, and no leaf as a group. Groups of both are
-- levels of their own. `IsReadAsOther` says what is left out
abbrev pub IsReadAsSent : Sides → AboutLevels
IsReadAsSent s x y avps = (v : PlainAvp) → Contains avps v → ¬ IsReadAsOther s (key_of v)

-- in each message of the command that A's side sends, each level is so that both sides read by the definitions of a site of the
-- command
abbrev pub HoldsOfLevels : Sides → Answer → AboutLevels → Type 0
HoldsOfLevels s answer Asked = (bytes : List ℕ) (sent : IsSent s.sender s.sends bytes answer.command) (app : ℕ) (site : Site) (other : PlainDefinition)
    → IsLevelAt s answer.sites answer.command app site sent.command other → AreAsked s.sender s.receiver Asked sent.command other sent.avps

-- ---- they are unique

-- two lists of sites and of meanings of one command are the same
abbrev pub TheMeaningsAreOne : Type 0
TheMeaningsAreOne = (s : Sides) (c : ℕ) (sites others : List Site) (recorded meanings : List Recorded) → c < length (definitions s.sender)
    → AreTheMeanings s c sites recorded → AreTheMeanings s c others meanings → (sites ≡ others) × (recorded ≡ meanings)
