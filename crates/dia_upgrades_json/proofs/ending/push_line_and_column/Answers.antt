use Rattle.std.proofs.Common.{codes}
use Rattle.std.proofs.lemmas.Result.{on_ok_weaker}
use Rattle.dia_upgrades_json.specs.Members.{unsigned_field}
use Rattle.dia_upgrades_json.proofs.Added.{both_added}
use Rattle.dia_upgrades_json.proofs.ending.push_line_and_column.Goals as goal

pub returns : goal.returns
returns c =
    on_ok_weaker c.push_unsigned-2.result
    (λ e. both_added (unsigned_field (codes "line") c.args.line) (unsigned_field (codes "column") c.args.column) _ _ _ c.in_ok-push_unsigned.ensures e) c.push_unsigned-2.ensures
