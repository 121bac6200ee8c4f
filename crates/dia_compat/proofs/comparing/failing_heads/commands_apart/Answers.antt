use Rattle.std.proofs.Common.{ℕ, List, map, ap, ◌∙◌}
use Rattle.std.proofs.lemmas.Result.{IfOk-weaker}
use Rattle.std.specs.Prelude.{String}
use Rattle.std.specs.Global.{Global}
use Rattle.std.specs.List.{list_any, filter_map, enumerate_from}
use Rattle.dia_book.specs.Dictionary.{PlainDefinition, plain_definition}
use Rattle.dia_compat.specs.declared.reasons.Failing.TheVariants.{NotBeside}
use Rattle.dia_compat.specs.TableText.{PlainTable, plain_pair}
use Rattle.dia_compat.specs.Sides.{Sides}
use Rattle.dia_compat.specs.PairTests.{plain_names, is_pair, is_ready}
use Rattle.dia_compat.specs.Failings.{unless}
use Rattle.dia_compat.proofs.ListsOfFailings.{same_apart}
use Rattle.dia_compat.proofs.comparing.failing_heads.commands_apart.Goals as goal

pub returns : goal.returns
returns g c =
    let all = c.args.cover.now in
    let x = plain_definition c.args.command.now in
    let ps = map plain_names c.in_ok-beside.beside.keys in
    let same = ap (λ (s : Sides). filter_map (λ (p : ℕ × PlainDefinition). unless (is_ready s ps x p.1) (NotBeside p.0)) (enumerate_from 0 s.second.commands)) c.sides.ensures
    ∙ same_apart all.sides ps all.table.commands
    (λ a b. c.in_ok-beside.ensures a b ∙ ap (λ (zs : List (String Global × String Global)). list_any (is_pair a b) (map plain_pair zs)) c.deref.ensures.value
    ∙ ap (λ (t : PlainTable). list_any (is_pair a b) t.commands) c.table.ensures)
    x (enumerate_from 0 all.sides.second.commands) in
    IfOk-weaker c.apart_from.result _ _ (λ all is. is ∙ same) c.apart_from.ensures
