use Rattle.std.proofs.Common.{◌≡◌, ◌≢◌, ◌<◌, ◌≤◌, ℕ, Bool, true, Option, Some, None, length, arith, ap, subst, ◌∙◌}
use Rattle.std.proofs.lemmas.Option.{none-some}
use Rattle.dia_dict.specs.Dictionary.{DictEntry}
use Rattle.dia_mask.specs.Choosing.{masked_by_format, masks}
use Rattle.dia_mask_text.specs.Names.{is_masked_by, masks_entry, masks_unknown, unknown_name}
use Rattle.dia_mask_text.proofs.Chosen.{all_chosen, masked_as, none_yet, one_more, still_left}
use Rattle.dia_mask_text.proofs.Naming.{at_entry, there_is}
use Rattle.dia_mask_text.proofs.choosing.NameLists.choice.Goals as goal

pub loop-index-init : goal.loop-index-init
loop-index-init g c = record {
  size = c.in_ok-choice.ensures.size;
  first = λ lists are. none_yet (masks_entry lists) (masks_unknown lists) (g.B.Book.meaning c.args.book.now) c.in_ok-choice.choice;
  left = λ k later. c.in_ok-choice.ensures.choice (Some k);
  unknown = c.in_ok-choice.ensures.choice None;
}

pub loop-index-preserved : goal.loop-index-preserved
loop-index-preserved g c =
    let d = g.B.Book.meaning c.args.book.now in
    let n = c.loop-index.index in
    let old = c.loop-index.choice in
    let new = c.set.new.self in
    let h = c.loop-index.invariant in
    let at_n : c.entry_at-entry.result ≡ n = c.entry_at-entry.ensures in
    let within : n < length d.entries = omega (arith, c.loop-index-test.true, c.entries-index-end.ensures.count) in
    let room : c.entry_at-entry.result < length old.masked.items = omega (arith, within, h.size, at_n) in
    let this = subst (λ (k : ℕ). masks new (Some k) ≡ c.masks-masked.result) at_n (c.set.ensures.this room) in
    let others = subst (λ (k : ℕ). (avp : Option ℕ) → avp ≢ Some k → masks new avp ≡ masks old avp) at_n c.set.ensures.others in
    let (e, at) = there_is d.entries n within in
    let name : c.entry_name.result.now ≡ e.name =
    at_entry (λ (x : DictEntry). c.entry_name.result.now ≡ x.name) d.entries n c.entry_at-entry.result e at_n c.entry_name.ensures at in
    record {
      size = c.set.ensures.size ∙ h.size;
      first = λ lists are. one_more d old new n c.masks-masked.result this others (masks_entry lists) (masks_unknown lists) e at
          (masked_as lists d old n c.entry_at-entry.result e c.masks-masked.result c.masks.result c.entry_name.result.now at_n at (c.masks-masked.ensures lists are) c.masks.ensures h.left name)
          (h.first lists are);
      left = still_left d old new n c.masks-masked.result this others masked_by_format true h.left;
      unknown = others None (none-some n) ∙ h.unknown;
    }

pub returns : goal.returns
returns g c = λ l are.
    let h = c.loop-index.invariant in
    let d = g.B.Book.meaning c.args.book.now in
    let end : length d.entries ≤ c.loop-index.index = omega (arith, c.loop-index-test.false, c.entries-index-end.ensures.count) in
    all_chosen d c.loop-index.choice c.set_unknown.new.self c.loop-index.index (masks_entry l) masked_by_format (masks_unknown l) true end (h.first l are) h.left c.set_unknown.ensures.others
    (c.set_unknown.ensures.this ∙ c.masks-masked-2.ensures l are ∙ ap (λ (b : Bool). is_masked_by l b unknown_name) (c.masks_unknown.ensures ∙ h.unknown))
