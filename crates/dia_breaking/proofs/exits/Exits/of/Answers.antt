use Rattle.std.proofs.Common.{◌≡◌, List, ap, ◌∙◌}
use Rattle.std.specs.List.{filter_map}
use Rattle.dia_book.specs.declared.DRule.{DRule}
use Rattle.dia_valid.specs.Rules.{rules_in}
use Rattle.dia_breaking.specs.declared.levels.LevelCost.{LevelCost}
use Rattle.dia_breaking.specs.Exits.{exit_by}
use Rattle.dia_breaking.specs.Lengths.{Prices}
use Rattle.dia_breaking.specs.LevelCosts.{cost_in, cost_of}
use Rattle.dia_breaking.specs.Sender.{costs_of, sender_in}
use Rattle.dia_breaking.proofs.exits.Exits.of.Goals as goal

pub returns : goal.returns
returns g c =
    let k = costs_of c.args.lengths.now in
    let own = rules_in (sender_in c.args.lengths.now) c.args.def in
    let exit = exit_by c.args.recording.now k.listed in
    let same : c.new-cost.result ≡ cost_in k own = c.new-cost.ensures.exact ∙ ap (λ (p : Prices). cost_of p.listed p.other p.others own) c.of_level-level.ensures in
    record {
      base = ap (λ (x : LevelCost). x.base) same;
      listed_are = c.in_ok-listed.ensures ∙ ap (λ (rs : List DRule). filter_map (exit c.new-cost.result) rs) c.rules_of.ensures ∙ ap (λ (x : LevelCost). filter_map (exit x) own) same;
      beside = ap (λ (x : LevelCost). x.beside) same;
    }
