use Rattle.std.proofs.Common.{ap, map, refl, ◌∙◌}
use Rattle.dia_upgrades.specs.UnderWay.{plain_first}
use Rattle.dia_upgrades.proofs.Rows.{no_firsts}
use Rattle.dia_upgrades.proofs.seen.Seen.new.Goals as goal

pub returns : goal.returns
returns c = λ asked forgets place. record {
  judged = record { accepting = c.in_ok-new.ensures; lines_are = refl; accepted_are = refl; is_some_is = refl };
  are_kept = record { causes = c.new-2.ensures forgets place; meanings = c.new-4.ensures forgets place; firsts = ap (map plain_first) c.new-3.ensures.items ∙ no_firsts asked };
}
