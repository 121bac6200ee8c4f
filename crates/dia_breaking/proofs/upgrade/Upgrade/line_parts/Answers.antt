use Rattle.std.proofs.Common.{subst}
use Rattle.std.specs.Prelude.{IfOk}
use Rattle.dia_valid.specs.Rules.{rules_in}
use Rattle.dia_breaking_levels.specs.Chosen.{IsLineLevel, reads_between}
use Rattle.dia_breaking.specs.Lengths.{Prices}
use Rattle.dia_breaking.specs.Upgrades.{sides_of}
use Rattle.dia_breaking.proofs.upgrade.Upgrade.line_parts.Goals as goal

pub returns : goal.returns
returns g c =
    let s = sides_of c.args.self.now in
    let own = rules_in s.sender c.args.def in
    let its = rules_in s.receiver c.args.other in
    subst (λ (p : Prices). IfOk c.line_level.result (λ parts. IsLineLevel (reads_between own its p.listed p.other p.others) c.args.line.now parts.items)) c.of_level-level.ensures c.line_level.ensures
