use Rattle.std.proofs.Common.{Some, ℕ, List, map, ap, sym, ◌∙◌, arith}
use Rattle.std.proofs.lemmas.List.{length-append}
use Rattle.std.specs.Prelude.{slice_get}
use Rattle.dia_book.specs.Dictionary.{PlainDefinition, plain_definition, groups, definitions}
use Rattle.dia_book.proofs.Members.{into_map}
use Rattle.dia_book.proofs.NumberedGroups.{slice_get-append_right}
use Rattle.dia_text.proofs.SetsOfNames.{one_more, distinct_names}
use Rattle.dia_text.proofs.names.insert_commands.Goals as goal

pub def-requires : goal.def-requires
def-requires g c =
    let d = g.B.Book.meaning c.args.book.now in
    omega (arith, c.loop-index-test.true, c.commands-index-end.ensures, c.command_at.ensures, length-append (groups d) d.commands)

pub loop-index-preserved : goal.loop-index-preserved
loop-index-preserved g c =
    let d = g.B.Book.meaning c.args.book.now in
    let name = λ (x : PlainDefinition). x.name in
    let i = c.loop-index.index in
    let x = plain_definition c.def.result.now in
    let at = sym (slice_get-append_right (groups d) d.commands i) ∙ ap (slice_get (definitions d)) (sym c.command_at.ensures) ∙ c.def.ensures in
    one_more (map name d.commands) c.loop-index.names.keys c.insert.new.self.keys i c.as_bytes.result
    (distinct_names name d.commands (g.met.B.Book.sound c.args.book.now).distinct_commands)
    (into_map name d.commands i x at ∙ ap (λ (y : List ℕ). Some y) (sym c.as_bytes.ensures.value))
    c.loop-index.invariant c.in_ok-insert.ensures.keys
