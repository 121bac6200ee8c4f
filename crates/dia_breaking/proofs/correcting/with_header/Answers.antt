use Rattle.std.proofs.Common.{List, ℕ, rules, sym, subst}
use Rattle.dia_wire.specs.Number.{IsField}
use Rattle.dia_wire.specs.Wire.{IsMessage}
use Rattle.dia_breaking.proofs.CorrectedHeaders.{app_field, corrected_message, parts_written}
use Rattle.dia_breaking.proofs.correcting.with_header.Goals as goal

pub returns : goal.returns
returns c = λ old avps message code hop e2e.
    let bytes = c.args.bytes.now in
    let header = c.args.header.now in
    let is = parts_written bytes c.big_endian.result header.flags c.new-corrected.result.items c.extend_from_slice.new.self.items c.push.new.self.items c.extend_from_slice-2.new.self.items
    c.extend_from_slice-3.new.self.items c.extend_from_slice-4.new.self.items c.new-corrected.ensures.items c.in_ok-extend_from_slice.ensures.items c.in_ok-push.ensures.items
    c.in_ok-extend_from_slice-2.ensures.items c.in_ok-extend_from_slice-3.ensures.items c.in_ok-extend_from_slice-4.ensures.items in
    let field = subst (λ (xs : List ℕ). IsField 4 header.app xs) (sym c.big_endian.ensures) (app_field header.app (search rules)) in
    subst (λ (xs : List ℕ). IsMessage header avps xs) (sym is) (corrected_message old header avps bytes c.big_endian.result code hop e2e field message)
