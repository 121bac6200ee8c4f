use Rattle.std.proofs.Common.{◌∙◌}
use Rattle.dia_breaking.specs.Headers.{apps_of}
use Rattle.dia_breaking.proofs.FoundApps.{unnamed_of}
use Rattle.dia_breaking.proofs.headers.unnamed_app.Goals as goal

pub returns : goal.returns
returns c =
    unnamed_of c.least_unnamed.result c.deref.result.now c.deref-2.result.now (apps_of c.args.both.now.first c.args.head.now.code c.args.head.now.class)
    (apps_of c.args.both.now.second c.args.head.now.code c.args.head.now.class) (c.deref.ensures.value ∙ c.in_ok-first.ensures)
    (c.deref-2.ensures.value ∙ c.in_ok-second.ensures) c.least_unnamed.ensures
