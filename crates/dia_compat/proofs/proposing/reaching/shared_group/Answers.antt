use Rattle.std.proofs.Common.{◌≡◌, ◌<◌, ℕ, length, take, Some, None, sym, ap, subst, ◌∙◌}
use Rattle.std.specs.Prelude.{filter_map, option_and_then, slice_get}
use Rattle.std.specs.Option.{option_map}
use Rattle.std.proofs.lemmas.Option.{none-some, slice_get_within}
use Rattle.dia_wire.specs.declared.Key.{Key}
use Rattle.dia_data.specs.Plain.{plain_format}
use Rattle.dia_book.specs.Dictionary.{Dictionary, DictEntry, PlainDefinition, definitions, entry_of, group_place}
use Rattle.dia_valid.specs.Valid.{known}
use Rattle.dia_compat.specs.ReachedKeys.{IsSharedGroup}
use Rattle.dia_valid.proofs.KnownKeys.{known_by_entry}
use Rattle.dia_valid.proofs.GroupNumbers.{group_number}
use Rattle.dia_valid.proofs.Members.{when_some, at_some}
use Rattle.dia_compat.proofs.proposing.reaching.shared_group.Goals as goal

-- the entry of a group has a place for it
no_group : (d : Dictionary) (key : Key) (i : ℕ) (e : DictEntry) (group : PlainDefinition) → entry_of d key ≡ Some i → group_place d i ≡ None → known d key ≡ Some e → e.group ≡ Some group → ⊥
no_group d key i e group at none here is =
    let there : slice_get d.entries i ≡ Some e = sym (ap (option_and_then (λ (k : ℕ). slice_get d.entries k)) at) ∙ here in
    let n = length (filter_map (λ (x : DictEntry). x.group) (take i d.entries)) in
    let place : group_place d i ≡ Some n =
    ap (option_and_then (λ (x : DictEntry). option_map (λ (_ : PlainDefinition). n) x.group)) there ∙ ap (option_map (λ (_ : PlainDefinition). n)) is in
    none-some n (sym none ∙ place)

pub returns-then-is_grouped-2-clause-within : goal.returns-then-is_grouped-2-clause-within
returns-then-is_grouped-2-clause-within g c =
    let da = g.A.Book.meaning c.first-a.result.now in
    when_some (λ (n : ℕ). n < length (definitions c.args.sides.now.first)) c.group.result (λ n e.
    let k = known_by_entry da c.args.key c.in_ok-entry.entry (sym c.avp.ensures ∙ c.in_ok-entry.was) in
    let r = group_number da c.in_ok-entry.entry n k.0 k.1 (sym c.group.ensures ∙ e) in
    subst (λ (d : Dictionary). n < length (definitions d)) c.first-a.ensures.meaning (slice_get_within (definitions da) n r.0 r.2))

pub returns-then-is_grouped-2-clause-some : goal.returns-then-is_grouped-2-clause-some
returns-then-is_grouped-2-clause-some g c =
    let sides = c.args.sides.now in
    let da = g.A.Book.meaning c.first-a.result.now in
    let db = g.B.Book.meaning c.second-b.result.now in
    when_some (λ (n : ℕ). (d : PlainDefinition) × (slice_get (definitions sides.first) n ≡ Some d) × IsSharedGroup sides c.args.key d) c.group.result (λ n e.
    let k = known_by_entry da c.args.key c.in_ok-entry.entry (sym c.avp.ensures ∙ c.in_ok-entry.was) in
    let l = known_by_entry db c.args.key c.in_ok-other.other (sym c.avp-2.ensures ∙ c.in_ok-other.was) in
    let r = group_number da c.in_ok-entry.entry n k.0 k.1 (sym c.group.ensures ∙ e) in
    let first = at_some (λ (x : DictEntry). plain_format c.format.result.now ≡ x.format) (slice_get da.entries c.in_ok-entry.entry) k.0 c.format.ensures k.1 in
    let second = at_some (λ (x : DictEntry). plain_format c.format-then-is_grouped.result.now ≡ x.format) (slice_get db.entries c.in_ok-other.other) l.0 c.format-then-is_grouped.ensures l.1 in (
      r.0,
      subst (λ (d : Dictionary). slice_get (definitions d) n ≡ Some r.0) c.first-a.ensures.meaning r.2,
      record {
        e = k.0;
        f = l.0;
        at_a = subst (λ (d : Dictionary). known d c.args.key ≡ Some k.0) c.first-a.ensures.meaning k.2;
        at_b = subst (λ (d : Dictionary). known d c.args.key ≡ Some l.0) c.second-b.ensures.meaning l.2;
        both = (sym first ∙ c.is_grouped.ensures.0 c.if-is_grouped.true, sym second ∙ c.is_grouped-then-is_grouped.ensures.0 c.if-is_grouped-2.true);
        is_group = r.1;
      },
    ))

pub returns-then-is_grouped-2-clause-none : goal.returns-then-is_grouped-2-clause-none
returns-then-is_grouped-2-clause-none g c = λ none d shared.
    let da = g.A.Book.meaning c.first-a.result.now in
    let here = subst (λ (x : Dictionary). known x c.args.key ≡ Some shared.e) (sym c.first-a.ensures.meaning) shared.at_a in
    no_group da c.args.key c.in_ok-entry.entry shared.e d (sym c.avp.ensures ∙ c.in_ok-entry.was) (sym c.group.ensures ∙ none) here shared.is_group
