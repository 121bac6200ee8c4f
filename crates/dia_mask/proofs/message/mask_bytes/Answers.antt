use Rattle.std.proofs.Common.{ℕ, ◌-◌, ◌++◌, length, take, drop, sym, ap, subst, ◌∙◌}
use Rattle.dia_mask.specs.declared.texts.Masking.{Masking}
use Rattle.dia_mask.specs.Masked.{Adds, IsMasked, zeros}
use Rattle.dia_mask.specs.Texts.{Agrees}
use Rattle.dia_mask.specs.Words.{Grows}
use Rattle.dia_mask.proofs.Messages.{message_masked, on_ok_map}
use Rattle.dia_mask.proofs.message.mask_bytes.Goals as goal

pub returns-in_ok-mask_level-in-Ok-clause-grows : goal.returns-in_ok-mask_level-in-Ok-clause-grows
returns-in_ok-mask_level-in-Ok-clause-grows g c =
    on_ok_map c.push_zeros.result (λ added. subst (λ (m : Masking). Grows c.args.run.now.masking.words m.words) (sym c.push_zeros.ensures.masking) c.in_ok-mask_level-in-Ok.ensures.grows) c.push_zeros.ensures.added

pub returns-in_ok-mask_level-in-Ok-clause-masked : goal.returns-in_ok-mask_level-in-Ok-clause-masked
returns-in_ok-mask_level-in-Ok-clause-masked g c =
    let bytes = c.args.bytes.now in
    let d = g.B.Book.meaning c.args.book.now in
    on_ok_map c.push_zeros.result (λ added numbers agrees.
    let level = c.in_ok-mask_level-in-Ok.ensures.masked numbers (subst (λ (m : Masking). Agrees m.words numbers) c.push_zeros.ensures.masking agrees) in
    let body = subst (λ (end : ℕ). Adds (IsMasked c.args.choice.now numbers d (take (end - 20) (drop 20 bytes))) c.extend_from_slice.new.self.items c.mask_level.new.out.items)
    c.min-end.ensures level in
    message_masked c.args.choice.now numbers d bytes c.in-Ok.length c.args.out.now.items c.extend_from_slice.new.self.items
    c.mask_level.new.out.items c.push_zeros.new.out.items (c.in-Ok.field-0-0, c.in-Ok.ensures.head, c.in-Ok.ensures.long) c.in_ok-extend_from_slice-in-Ok.ensures.items body
    (added ∙ ap (λ (end : ℕ). c.mask_level.new.out.items ++ zeros (length bytes - end)) c.min-end.ensures)) c.push_zeros.ensures.added
