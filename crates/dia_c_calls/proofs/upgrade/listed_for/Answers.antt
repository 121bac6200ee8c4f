use Rattle.std.proofs.Common.{◌∙◌}
use Rattle.dia_c_calls.specs.Upgrades.{IsUnlisted}
use Rattle.dia_c_calls.proofs.WhatBreaks.{no_list, same_problem, recorded, unnamed}
use Rattle.dia_c_calls.proofs.upgrade.listed_for.Goals as goal

pub line_of_unknown-requires : goal.line_of_unknown-requires
line_of_unknown-requires g c = unnamed _ _ _ _ _ _ _ c.in-NoCommand.is c.in_ok-text.ensures

pub returns-in_ok-answer_bytes-in-Listed-clause-done : goal.returns-in_ok-answer_bytes-in-Listed-clause-done
returns-in_ok-answer_bytes-in-Listed-clause-done g c =
    recorded _ _ _ _ _ _ _ c.in-Listed.unused c.in-Listed.stale c.in-Listed.lines c.in-Listed.accepted c.in-Listed.causes c.in-Listed.meanings c.in-Listed.is _ _ c.in_ok-answer_bytes-in-Listed.ensures.text
    c.in_ok-answer_bytes-in-Listed.ensures.holds c.in_ok-text.ensures

pub returns-in-NoList-clause-problem : goal.returns-in-NoList-clause-problem
returns-in-NoList-clause-problem g c p is = no_list _ _ _ _ _ _ _ c.in-NoList.bad p c.in-NoList.is (same_problem c.list_problem.result p is ∙ c.list_problem.ensures) c.in_ok-text.ensures

pub returns-in_ok-line-in-NoCommand-clause-problem : goal.returns-in_ok-line-in-NoCommand-clause-problem
returns-in_ok-line-in-NoCommand-clause-problem g c p is =
    IsUnlisted.no_command c.in_ok-line-in-NoCommand.line c.in_ok-line-in-NoCommand.ensures (same_problem c.no_command.result p is ∙ c.no_command.ensures)
