use Rattle.std.proofs.Common.{List, ℕ, ◌≡◌, ◌<◌, length, subst, sym, arith}
use Rattle.std.specs.Prelude.{string_bytes}
use Rattle.std.specs.Str.{IsUtf8}
use Rattle.dia_compat.specs.declared.TableFault.TheVariants as table
use Rattle.dia_compat.specs.TableText.{IsTable, max_table, plain_table}
use Rattle.dia_c_calls.specs.Comparisons.{IsCompared}
use Rattle.dia_c_calls.proofs.NoTables.{has_fault}
use Rattle.dia_c_calls.proofs.Recorded.{if_ok}
use Rattle.dia_c_calls.proofs.comparison.outcome_of.Goals as goal

pub returns-in-Ok-parse_table-clause-done : goal.returns-in-Ok-parse_table-clause-done
returns-in-Ok-parse_table-clause-done g c =
    let same = c.in-Ok.ensures.cases.0 in
    let is_table = subst (λ (t : List ℕ). IsTable t (plain_table c.in-Ok-parse_table.table)) same c.in-Ok-parse_table.ensures.found in
    if_ok {Q = λ outcome. IsCompared _ _ c.args.unknown c.args.text.now (string_bytes outcome.text) outcome.exit} c.outcome_by.result
    (λ outcome by. (c.in-Ok.ensures.cases.1, plain_table c.in-Ok-parse_table.table, is_table, by)) c.outcome_by.ensures.done

pub returns-in-Err-clause-problem : goal.returns-in-Err-clause-problem
returns-in-Err-clause-problem g c p is =
    let same = c.in-Ok.ensures.cases.0 in
    let recorded = c.refusal_of.ensures p is in
    let long : max_table < length c.in-Ok.words.now → c.in-Err.fault ≡ table.Limit 0 = λ more. grind (arith, c.in-Err.ensures.too_long more) in
    rw (← same) (has_fault c.in-Ok.words.now c.in-Err.fault p (subst IsUtf8 (sym same) c.in-Ok.ensures.cases.1) long c.in-Err.ensures.fault recorded.0 recorded.1)
