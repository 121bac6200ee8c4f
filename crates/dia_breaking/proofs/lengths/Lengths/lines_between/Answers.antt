use Rattle.std.proofs.Common.{sym, subst}
use Rattle.std.specs.Prelude.{IfOk}
use Rattle.dia_valid.specs.Rules.{rules_in}
use Rattle.dia_breaking_levels.specs.Exact.{AreLevelLines}
use Rattle.dia_breaking_levels.specs.Levels.{FirstIsShortest}
use Rattle.dia_breaking.specs.Lengths.{Prices}
use Rattle.dia_breaking.specs.Sender.{sender_in}
use Rattle.dia_breaking.proofs.lengths.Lengths.lines_between.Goals as goal

pub level_lines-requires-clause-shortest : goal.level_lines-requires-clause-shortest
level_lines-requires-clause-shortest g c =
    let own = rules_in (sender_in c.args.self.now) c.args.def in
    let its = rules_in (g.B.Book.meaning c.args.b.now) c.args.other in
    subst (λ (p : Prices). FirstIsShortest p.other p.others own its) (sym c.of_level-level.ensures) (c.requires.shortest c.args.def c.args.other)

pub returns : goal.returns
returns g c =
    let own = rules_in (sender_in c.args.self.now) c.args.def in
    let its = rules_in (g.B.Book.meaning c.args.b.now) c.args.other in
    subst (λ (p : Prices). IfOk c.level_lines.result (λ lines. AreLevelLines p.listed p.other p.others own its lines.items)) c.of_level-level.ensures c.level_lines.ensures.exact
