use Rattle.std.proofs.Common.{Bool, ap, ◌∙◌}
use Rattle.std.proofs.Math.Path.{fun_ext}
use Rattle.std.proofs.lemmas.Result.{IfOk-weaker}
use Rattle.dia_wire.specs.declared.Key.{Key}
use Rattle.dia_diff.specs.Ignored.{ignored_unless, is_broken}
use Rattle.dia_diff.specs.Origins.{found_of}
use Rattle.dia_diff.specs.Routes.{route_of}
use Rattle.dia_diff.proofs.ignored.ignored_of.Goals as goal

pub returns : goal.returns
returns g c =
    IfOk-weaker c.ignored_unless.result _ _ (λ found is. is
    ∙ ap (λ (broken : Key → Bool). ignored_unless (route_of g.A.Book.meaning g.B.Book.meaning c.args.traffic.now) (found_of c.args.index c.args.breaks.now) broken) (fun_ext c.in_ok-broken.ensures ∙ ap is_broken c.deref.ensures.value)) c.ignored_unless.ensures
