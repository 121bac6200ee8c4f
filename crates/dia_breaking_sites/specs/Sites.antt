-- Sites: two definitions by which one level is read, that of the sender's dictionary A and that of the receiver's B.
use Rattle.std.specs.Prelude.{◌≡◌, ℕ, ◌≤◌, ◌⊎◌, Bool, List, length, map, Some, IsSome, IsTrue, Contains}
use Rattle.dia_wire.specs.Wire.{PlainAvp, key_of, SpellsAll}
use Rattle.dia_book.specs.declared.DRule.{DRule}
use Rattle.dia_book.specs.Dictionary.{Dictionary, PlainDefinition}
use Rattle.dia_terms.specs.declared.Unknown.{Unknown}
use Rattle.dia_terms.specs.declared.Levels.TheVariants as levels
use Rattle.dia_valid.specs.Valid.{Placed, IsLevel, FitsBy, Fits, AllFit}
use Rattle.dia_valid.specs.Valid.{group_at}
use Rattle.dia_terms.specs.declared.sends.Sends.{Sends}
use Rattle.dia_breaking_sites.specs.Sent.{StandAsSent, AreSentAvps, AreBytes}

-- a level that is read so has room for this many bytes
pub record Site : Type 0 where
  pub a : PlainDefinition
  pub b : PlainDefinition
  pub room : ℕ

-- the AVPs are a level of A's definition that can be sent, and that has room
pub record IsLevelOf (da : Dictionary) (who : Sends) (rules : List DRule) (room : ℕ) (avps : List PlainAvp) : Type 0 where
  pub bytes : List ℕ
  pub are_bytes : AreBytes bytes
  pub spelled : SpellsAll avps bytes
  pub has_room : length bytes ≤ room
  pub stand : StandAsSent who rules (map key_of avps)
  pub sent : AreSentAvps da who avps

-- by itself the AVP fits B: as B's entry says, but for the level that both dictionaries see in it
abbrev pub FitsAlone : Dictionary → Dictionary → Unknown → PlainAvp → Type 0
FitsAlone da db u v = (n : ℕ) × FitsBy db u (λ rules bytes. IsSome (group_at da v) ⊎ IsLevel (Fits db u n) rules bytes) v

-- a site of these two definitions has room for this many bytes
abbrev pub HasSite : List Site → PlainDefinition → PlainDefinition → ℕ → Type 0
HasSite sites x y size = (site : Site) × Contains sites site × (site.a ≡ x) × (site.b ≡ y) × (size ≤ site.room)

-- what may be asked of a level, with the definition of each dictionary by which it is read
abbrev pub AboutLevels : Type 1
AboutLevels = PlainDefinition → PlainDefinition → List PlainAvp → Type 0

-- a test of levels
abbrev pub LevelTest : Type 0
LevelTest = PlainDefinition → PlainDefinition → List PlainAvp → Bool

abbrev pub Passes : LevelTest → AboutLevels
Passes test a b avps = IsTrue (test a b avps)

-- the inner level lies in another: it is that one, or lies in data of it that both dictionaries see a level in
pub data LiesIn (da db : Dictionary) (a b : PlainDefinition) (inner : List PlainAvp) : PlainDefinition → PlainDefinition → List PlainAvp → Type 0 where
  same : LiesIn da db a b inner a b inner
  inside : {x y : PlainDefinition} {avps : List PlainAvp} (v : PlainAvp) (g h : PlainDefinition) (next : List PlainAvp) → Contains avps v → group_at da v ≡ Some g → group_at db v ≡ Some h
      → SpellsAll next v.bytes → LiesIn da db a b inner g h next → LiesIn da db a b inner x y avps

-- each level that lies in this one is as asked
abbrev pub AreAsked : Dictionary → Dictionary → AboutLevels → PlainDefinition → PlainDefinition → List PlainAvp → Type 0
AreAsked da db Asked x y avps = (a b : PlainDefinition) (inner : List PlainAvp) → LiesIn da db a b inner x y avps → Asked a b inner

-- the level is as B's rules say, and by itself each AVP of it fits B
abbrev pub IsReadAlone : Dictionary → Dictionary → Unknown → AboutLevels
IsReadAlone da db u x y avps = Placed y.rules (map key_of avps) × ((v : PlainAvp) → Contains avps v → FitsAlone da db u v)

-- where this holds of each level that lies in a level of AVPs that can be sent, that one is a level of B's, at every depth
abbrev pub LevelsAreRead : Type 0
LevelsAreRead = (da db : Dictionary) (who : Sends) (u : Unknown) (x y : PlainDefinition) (avps : List PlainAvp) → AreSentAvps da who avps → AreAsked da db (IsReadAlone da db u) x y avps
    → Placed y.rules (map key_of avps) × AllFit db u levels.Any avps

-- nothing breaks in the levels of the site that are as asked, and what both dictionaries see a level in is at one of the sites
pub record IsSafeSite (da db : Dictionary) (who : Sends) (u : Unknown) (Asked : AboutLevels) (sites : List Site) (site : Site) : Type 0 where
  pub placed : (avps : List PlainAvp) → IsLevelOf da who site.a.rules site.room avps → Asked site.a site.b avps → Placed site.b.rules (map key_of avps)
  pub alone : (avps : List PlainAvp) (v : PlainAvp) → IsLevelOf da who site.a.rules site.room avps → Asked site.a site.b avps → Contains avps v → FitsAlone da db u v
  pub groups : (avps : List PlainAvp) (v : PlainAvp) (x y : PlainDefinition) → IsLevelOf da who site.a.rules site.room avps → Asked site.a site.b avps → Contains avps v
      → group_at da v ≡ Some x → group_at db v ≡ Some y → HasSite sites x y (length v.bytes)

abbrev pub AreSafe : Dictionary → Dictionary → Sends → Unknown → AboutLevels → List Site → Type 0
AreSafe da db who u Asked sites = (site : Site) → Contains sites site → IsSafeSite da db who u Asked sites site

-- each level of a site that can be sent is a level of B's, at every depth, where each level that lies in it is as asked
abbrev pub AreLevelsOfB : Dictionary → Dictionary → Sends → Unknown → AboutLevels → List Site → Type 0
AreLevelsOfB da db who u Asked sites = (site : Site) (avps : List PlainAvp) → Contains sites site → IsLevelOf da who site.a.rules site.room avps
    → AreAsked da db Asked site.a site.b avps → Placed site.b.rules (map key_of avps) × AllFit db u levels.Any avps
