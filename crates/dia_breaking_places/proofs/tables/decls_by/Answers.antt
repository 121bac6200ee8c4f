use Rattle.std.proofs.Common.{ap, string_bytes, ◌∙◌}
use Rattle.dia_breaking_places.specs.Texts.{decl_text}
use Rattle.dia_breaking_places.proofs.Firsts.{more_first}
use Rattle.dia_breaking_places.proofs.tables.decls_by.Goals as goal

pub loop-place-preserved : goal.loop-place-preserved
loop-place-preserved c =
    more_first (decl_text c.args.by) c.args.decls.now c.loop-place.place c.index-decls-place.result c.loop-place-test.true c.loop-place.places c.add_first.new.places
    (string_bytes c.in_ok-text.text) (c.in_ok-text.ensures ∙ ap (decl_text c.args.by) c.index-decls-place.is) c.in_ok-add_first.ensures c.loop-place.invariant
