-- Which AVPs and commands of two dictionaries correspond: those of one key, and of the others those of one name.
use Rattle.std.specs.Prelude.{◌≡◌, ◌<◌, ℕ, nat_lt, if◌then◌else◌, nat_eq, Bool, ◌&&◌, List, length, map, Option, Some, None, is_some, option_and_then}
use Rattle.std.specs.Prelude.{slice_get, slice_set, position}
use Rattle.std.specs.Bool.{beq}
use Rattle.std.specs.Borrow.{Bor}
use Rattle.std.specs.HashMap.{HashMap, get, get_by}
use Rattle.std.specs.Option.{option_eq, option_or}
use Rattle.std.specs.Str.{bytes_eq}
use Rattle.dia_book.specs.Keys.{same_key}
use Rattle.dia_book.specs.Dictionary.{Dictionary, DictEntry, PlainDefinition}
use Rattle.dia_differences.specs.declared.partners.Partners.{Partners}
use Rattle.dia_differences.specs.Headers.{messages}

-- the one at a place, if its key isn't found
abbrev pub unless_in : {X : Type 0} → (X → Option ℕ) → List X → ℕ → Option ℕ
unless_in found ys j = option_and_then (λ y. if is_some (found y) then None else Some j) (slice_get ys j)

-- the one at a place of the second list, if the first has none of its key
abbrev pub unless_known : {X : Type 0} → (X → X → Bool) → List X → List X → ℕ → Option ℕ
unless_known same xs ys = unless_in (λ y. position (same y) xs) ys

-- the place of what corresponds to a member of the first list: of the one with its key; if there is none, of the one with its name,
-- whose key is new
abbrev pub partner : {X : Type 0} → (X → X → Bool) → (X → X → Bool) → List X → List X → X → Option ℕ
partner same same_name xs ys x = option_or (position (same x) ys) (option_and_then (unless_known same xs ys) (position (same_name x) ys))

-- ---- AVPs: by their code and vendor

abbrev pub has_key : DictEntry → DictEntry → Bool
has_key x y = same_key x.key y.key

abbrev pub has_name : DictEntry → DictEntry → Bool
has_name x y = bytes_eq x.name y.name

abbrev pub avp_partner : Dictionary → Dictionary → DictEntry → Option ℕ
avp_partner a b x = partner has_key has_name a.entries b.entries x

-- ---- commands: by the messages that they are for

abbrev pub same_messages : Option ℕ × Bool × Option ℕ → Option ℕ × Bool × Option ℕ → Bool
same_messages x y = (option_eq nat_eq x.0 y.0 && beq x.1 y.1) && option_eq nat_eq x.2 y.2

abbrev pub has_messages : PlainDefinition → PlainDefinition → Bool
has_messages x y = same_messages (messages x.head) (messages y.head)

abbrev pub has_command_name : PlainDefinition → PlainDefinition → Bool
has_command_name x y = bytes_eq x.name y.name

abbrev pub command_partner : Dictionary → Dictionary → PlainDefinition → Option ℕ
command_partner a b x = partner has_messages has_command_name a.commands b.commands x

-- ---- all of two dictionaries

-- of each AVP and each command, in their order, the place of the one that corresponds
pub record Matches : Type 0 where
  pub avps : List (Option ℕ)
  pub avps_back : List (Option ℕ)
  pub commands : List (Option ℕ)
  pub commands_back : List (Option ℕ)

abbrev pub matches_of : Dictionary → Dictionary → Matches
matches_of a b = record {
  avps = map (avp_partner a b) a.entries;
  avps_back = map (avp_partner b a) b.entries;
  commands = map (command_partner a b) a.commands;
  commands_back = map (command_partner b a) b.commands;
}

abbrev pub paired : Partners → Matches
paired p = record { avps = p.avps.there.items; avps_back = p.avps.back.items; commands = p.commands.there.items; commands_back = p.commands.back.items }

-- ---- look-ups

-- AVPs are found at their places by their names
abbrev pub FindsAvps : {S : Type 0} → Dictionary → HashMap (Bor (List ℕ)) ℕ S → Type 0
FindsAvps d found = (q : List ℕ) → get_by (λ k. bytes_eq q k.now) found ≡ position (λ e. bytes_eq q e.name) d.entries

-- commands by theirs
abbrev pub FindsNames : {S : Type 0} → Dictionary → HashMap (Bor (List ℕ)) ℕ S → Type 0
FindsNames d found = (q : List ℕ) → get_by (λ k. bytes_eq q k.now) found ≡ position (λ c. bytes_eq q c.name) d.commands

-- commands by the messages that they are for
abbrev pub FindsCommands : {S : Type 0} → Dictionary → HashMap (Option ℕ × Bool × Option ℕ) ℕ S → Type 0
FindsCommands d found = (q : Option ℕ × Bool × Option ℕ) → get same_messages found q ≡ position (λ c. same_messages q (messages c.head)) d.commands

-- ---- pairs the other way

abbrev pub linked : List (Option ℕ) → ℕ → Option ℕ → List (Option ℕ)
linked back index None = back
linked back index (Some place) = if nat_lt place (length back) then slice_set back place (Some index) else back

-- no place of the second list is named where the first names none, and each that is named is
pub record AreBothWays (there back : List (Option ℕ)) (count : ℕ) : Type 0 where
  pub many : length back ≡ count
  pub back_of : (i j : ℕ) → slice_get back j ≡ Some (Some i) → slice_get there i ≡ Some (Some j)
  pub there_of : (i j : ℕ) → slice_get there i ≡ Some (Some j) → j < count → (k : ℕ) × (slice_get back j ≡ Some (Some k))

-- no place names one
pub record AreNone (made : List (Option ℕ)) (count : ℕ) : Type 0 where
  pub many : length made ≡ count
  pub none : (i j : ℕ) → slice_get made j ≡ Some (Some i) → ⊥
