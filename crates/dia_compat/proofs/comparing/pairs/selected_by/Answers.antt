use Rattle.std.proofs.Common.{List, map, ap, ◌∙◌}
use Rattle.std.proofs.lemmas.Result.{IfOk-weaker}
use Rattle.std.specs.List.{list_any}
use Rattle.std.specs.Prelude.{String}
use Rattle.std.specs.Global.{Global}
use Rattle.dia_compat.specs.TableText.{plain_pair}
use Rattle.dia_compat.specs.PairTests.{plain_names, is_pair}
use Rattle.dia_compat.proofs.CommandsBeside.{same_selected}
use Rattle.dia_compat.proofs.comparing.pairs.selected_by.Goals as goal

pub returns : goal.returns
returns g c =
    let same = same_selected c.args.sides.now (map plain_names c.in_ok-beside.beside.keys) (map plain_pair c.args.table.now.commands.items)
    (λ x y. c.in_ok-beside.ensures x y ∙ ap (λ (ps : List (String Global × String Global)). list_any (is_pair x y) (map plain_pair ps)) c.deref.ensures.value) c.args.sides.now.first.commands in
    IfOk-weaker c.all_selected.result _ _ (λ all is. is ∙ same) c.all_selected.ensures
