use Rattle.std.proofs.Common.{◌∙◌, ap, sym, arith}
use Rattle.std.proofs.lemmas.List.{length-append}
use Rattle.std.specs.Prelude.{slice_get}
use Rattle.dia_book.proofs.NumberedGroups.{slice_get-append_right}
use Rattle.dia_book.specs.Dictionary.{plain_definition, groups, definitions}
use Rattle.dia_text.specs.LineTexts.{names_header}
use Rattle.dia_text.proofs.Found.{find_here, find_next}
use Rattle.dia_text.proofs.header_lines.named_by.Goals as goal

pub def-definition-requires : goal.def-definition-requires
def-definition-requires g c =
    let d = g.B.Book.meaning c.args.book.now in
    omega (arith, c.loop-index-test.true, c.commands-index-end.ensures, c.command_at.ensures, length-append (groups d) d.commands)

pub returns-then-names_header : goal.returns-then-names_header
returns-then-names_header g c =
    let d = g.B.Book.meaning c.args.book.now in
    let at = sym (slice_get-append_right (groups d) d.commands c.loop-index.index) ∙ ap (slice_get (definitions d)) (sym c.command_at.ensures) ∙ c.def-definition.ensures in
    sym (c.loop-index.invariant
    ∙ find_here (names_header c.args.header.now) d.commands c.loop-index.index (plain_definition c.def-definition.result.now) at (sym c.names_header.ensures ∙ c.if-names_header.true))

pub loop-index-preserved : goal.loop-index-preserved
loop-index-preserved g c =
    let d = g.B.Book.meaning c.args.book.now in
    let at = sym (slice_get-append_right (groups d) d.commands c.loop-index.index) ∙ ap (slice_get (definitions d)) (sym c.command_at.ensures) ∙ c.def-definition.ensures in
    c.loop-index.invariant
    ∙ find_next (names_header c.args.header.now) d.commands c.loop-index.index (plain_definition c.def-definition.result.now) at (sym c.names_header.ensures ∙ c.if-names_header.false)
