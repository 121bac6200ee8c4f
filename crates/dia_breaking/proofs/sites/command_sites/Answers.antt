use Rattle.std.proofs.Common.{◌++◌, ◌∷◌, [], List, map, ap, ap₂, sym, ◌∙◌, arith}
use Rattle.std.proofs.lemmas.List.{map_more, take_all}
use Rattle.dia_breaking.specs.declared.line.Site.{Site}
use Rattle.dia_breaking.specs.Sites.{command_site}
use Rattle.dia_breaking.proofs.sites.command_sites.Goals as goal

pub loop-reading-preserved : goal.loop-reading-preserved
loop-reading-preserved g c =
    c.in_ok-push.ensures.items ∙ ap₂ (λ (xs : List Site) (x : Site). xs ++ x ∷ []) c.loop-reading.invariant c.command_site.ensures
    ∙ sym (map_more (command_site (g.B.Book.meaning c.args.b.now) c.args.head.now) c.args.readings.now c.loop-reading.reading-index _ (omega arith))

pub returns : goal.returns
returns g c =
    c.loop-reading.invariant
    ∙ ap (map (command_site (g.B.Book.meaning c.args.b.now) c.args.head.now)) (take_all c.loop-reading.reading-index c.args.readings.now c.loop-reading-test.false)
