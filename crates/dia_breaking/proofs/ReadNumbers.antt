-- The definitions by which a level is read, by their numbers.
use Rattle.std.proofs.Common.{◌≡◌, ℕ, ◌<◌, length, Option, Some, None, refl, sym, ap, subst, ◌∙◌}
use Rattle.std.specs.Prelude.{IfSome, slice_get, option_and_then}
use Rattle.std.proofs.lemmas.Option.{none-some, same_Some}
use Rattle.dia_wire.specs.declared.Key.{Key}
use Rattle.dia_book.specs.Dictionary.{Dictionary, DictEntry, PlainDefinition, definitions, entry_of, group_place, selected}
use Rattle.dia_valid.specs.Valid.{known}
use Rattle.dia_valid.specs.Rules.{rules_in}
use Rattle.dia_valid.proofs.GroupNumbers.{group_number as number_there}
use Rattle.dia_valid.proofs.Members.{there_is}
use Rattle.dia_breaking_avps.specs.Sent.{group_of}
use Rattle.dia_breaking_shortest.proofs.FloorsOfLengths.{entry_at}
use Rattle.dia_breaking.specs.declared.heads.Head.{Head}
use Rattle.dia_breaking.specs.declared.line.Place.{Place}
use Rattle.dia_breaking.specs.declared.line.Place.TheVariants as places
use Rattle.dia_breaking.specs.Free.{IsReadBy}
use Rattle.dia_breaking.specs.Headers.{head_in}
use Rattle.dia_breaking.specs.Messages.{group_number, read_number, sent_number}
use Rattle.dia_breaking.specs.Sides.{Sides}
use Rattle.dia_breaking.proofs.InRange.{command_within}
use Rattle.dia_breaking.proofs.PlacedLevels.{rules_of_def}

-- a group of this number
group_read : (d : Dictionary) (key : Key) (n : ℕ) → group_number d key ≡ Some n → (x : PlainDefinition) × (group_of d key ≡ Some x) × (slice_get (definitions d) n ≡ Some x)
group_read d key n is = by (entry_of d key) refl is
  where
    by : (o : Option ℕ) → entry_of d key ≡ o → option_and_then (group_place d) o ≡ Some n → (x : PlainDefinition) × (group_of d key ≡ Some x) × (slice_get (definitions d) n ≡ Some x)
    by None e at = absurd (none-some n at)
    by (Some i) e at =
        let h = entry_at d key i e in
        let (x, group, there) = number_there d i n h.entry h.at at in
        let knows : known d key ≡ Some h.entry = ap (λ (o : Option ℕ). option_and_then (λ (j : ℕ). slice_get d.entries j) o) e ∙ h.at in
        (x, ap (λ (o : Option DictEntry). option_and_then (λ (entry : DictEntry). entry.group) o) knows ∙ group, there)

-- the definitions of these numbers
pub record AreRead (s : Sides) (c : ℕ) (place : Place) (sent read : ℕ) : Type 0 where
  pub own : PlainDefinition
  pub other : PlainDefinition
  pub are_read : IsReadBy s.sender s.receiver c place own other
  pub own_rules : rules_in s.sender sent ≡ own.rules
  pub other_rules : rules_in s.receiver read ≡ other.rules

pub read_by_numbers : (s : Sides) (c : ℕ) (place : Place) (sent read : ℕ) → sent_number s c place ≡ Some sent → read_number s c place ≡ Some read → AreRead s c place sent read
read_by_numbers s c (places.Group key outer) sent read is_sent is_read =
    let (x, x_group, x_at) = group_read s.sender key sent is_sent in
    let (y, y_group, y_at) = group_read s.receiver key read is_read in
    record { own = x; other = y; are_read = (x_group, y_group); own_rules = rules_of_def s.sender sent x x_at; other_rules = rules_of_def s.receiver read y y_at }
read_by_numbers s c (places.Command app read_as recorded proxiable) sent read is_sent is_read = by_own (slice_get (definitions s.sender) c) refl is_read
  where
    by_head : (x : PlainDefinition) → slice_get (definitions s.sender) c ≡ Some x → (o : Option Head) → head_in x.head ≡ o → option_and_then (λ (head : Head). selected s.receiver head.code head.class read_as) o ≡ Some read
        → AreRead s c (places.Command app read_as recorded proxiable) sent read
    by_head x at None e is = absurd (none-some read is)
    by_head x at (Some head) e is =
        let within = subst (λ (o : Option ℕ). IfSome o (λ n. n < length (definitions s.receiver))) is
        (command_within s.receiver head.code head.class read_as (selected s.receiver head.code head.class read_as) refl) in
        let (y, y_at) = there_is (definitions s.receiver) read within in
        let same : c ≡ sent = same_Some c sent is_sent in
        record {
          own = x;
          other = y;
          are_read = (at, (head, read, e, is, y_at));
          own_rules = ap (rules_in s.sender) (sym same) ∙ rules_of_def s.sender c x at;
          other_rules = rules_of_def s.receiver read y y_at;
        }

    by_own : (o : Option PlainDefinition) → slice_get (definitions s.sender) c ≡ o
        → option_and_then (λ (head : Head). selected s.receiver head.code head.class read_as) (option_and_then (λ (x : PlainDefinition). head_in x.head) o) ≡ Some read
        → AreRead s c (places.Command app read_as recorded proxiable) sent read
    by_own None at is = absurd (none-some read is)
    by_own (Some x) at is = by_head x at (head_in x.head) refl is
