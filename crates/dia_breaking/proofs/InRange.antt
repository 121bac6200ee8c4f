-- The definitions that a dictionary answers are in range.
use Rattle.std.proofs.Common.{◌≡◌, ℕ, ◌+◌, ◌<◌, length, Option, Some, None, refl, sym, ap, inl, inr, ◌∙◌}
use Rattle.std.specs.Prelude.{◌⊎◌, IfSome, is_some, option_and_then, slice_get, take}
use Rattle.std.specs.List.{filter_map}
use Rattle.std.specs.Option.{option_map}
use Rattle.std.proofs.lemmas.Option.{same_Some, slice_get_within}
use Rattle.dia_wire.specs.declared.Key.{Key}
use Rattle.dia_book.specs.declared.Class.{Class}
use Rattle.dia_breaking_avps.specs.Sent.{group_of}
use Rattle.dia_book.specs.Dictionary.{Dictionary, DictEntry, PlainDefinition, definitions, groups, entry_of, group_place, selected}
use Rattle.dia_book.proofs.Members.{into_right}
use Rattle.dia_valid.proofs.SelectedCommands.{Choice, NoChoice, choose}
use Rattle.dia_valid.proofs.KnownKeys.{known_by_entry}
use Rattle.dia_valid.proofs.GroupNumbers.{group_number}
use Rattle.dia_valid.proofs.Members.{when_some}

pub group_within : (d : Dictionary) (key : Key) (i : ℕ) (o : Option ℕ) → entry_of d key ≡ Some i → group_place d i ≡ o → IfSome o (λ n. n < length (definitions d))
group_within d key i o at is = when_some (λ (n : ℕ). n < length (definitions d)) o (λ n e.
    let k = known_by_entry d key i at in
    let r = group_number d i n k.0 k.1 (is ∙ e) in
    slice_get_within (definitions d) n r.0 r.2)

pub command_within : (d : Dictionary) (code : ℕ) (class : Class) (app : ℕ) (o : Option ℕ) → selected d code class app ≡ o → IfSome o (λ n. n < length (definitions d))
command_within d code class app o is = when_some (λ (n : ℕ). n < length (definitions d)) o (λ n e. by n e (choose d code class app))
  where
    by : (n : ℕ) → o ≡ Some n → Choice d code class app ⊎ NoChoice d code class app → n < length (definitions d)
    by n e (inl x) =
        let same : length (groups d) + x.place ≡ n = same_Some (length (groups d) + x.place) n (sym x.is_selected ∙ is ∙ e) in
        slice_get_within (definitions d) n x.command (ap (slice_get (definitions d)) (sym same) ∙ into_right (groups d) d.commands x.place x.command x.at)
    by n e (inr x) = absurd (let f : None ≡ Some n = sym x.is_none ∙ is ∙ e in cc)

-- ---- groups

pub group_known : (d : Dictionary) (key : Key) (i : ℕ) (o : Option ℕ) → entry_of d key ≡ Some i → group_place d i ≡ o → is_some o ≡ is_some (group_of d key)
group_known d key i o at is =
    let k = known_by_entry d key i at in
    let n : ℕ = length (filter_map (λ y. y.group) (take i d.entries)) in
    let place : group_place d i ≡ option_map (λ _. n) k.0.group = ap (λ (x : Option DictEntry). option_and_then (λ e. option_map (λ _. n) e.group) x) k.1 in
    let own : group_of d key ≡ k.0.group = ap (λ (x : Option DictEntry). option_and_then (λ e. e.group) x) k.2 in
    sym (ap (λ (x : Option ℕ). is_some x) is) ∙ ap (λ (x : Option ℕ). is_some x) place ∙ same k.0.group n ∙ sym (ap (λ (x : Option PlainDefinition). is_some x) own)
  where
    same : (x : Option PlainDefinition) (n : ℕ) → is_some (option_map (λ _. n) x) ≡ is_some x
    same None n = refl
    same (Some x) n = refl
