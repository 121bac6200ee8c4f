use Rattle.std.proofs.Common.{List, ℕ, subst, Some}
use Rattle.dia_c_calls.specs.Held.{text_in}
use Rattle.dia_c_calls.specs.Upgrades.{IsNotListed, IsUnlisted}
use Rattle.dia_c_calls.proofs.Recorded.{if_err, if_ok}
use Rattle.dia_c_calls.proofs.WhatBreaks.{if_some, is_asked}
use Rattle.dia_c_calls.proofs.upgrade.listed.Goals as goal

pub returns-clause-done : goal.returns-clause-done
returns-clause-done g c =
    let asked = is_asked c.args.wanted c.args.commands.now _ c.as_slice-names.result _ c.as_slice-names.ensures.value c.in_ok-names.ensures c.in-Ok.ensures.cases.0 in
    if_ok c.listed_for.result (λ found is. if_some (text_in (Some found.text.value)) (λ text recorded. record {
      asked = _;
      input = c.in_ok-list.list;
      utf8 = c.in-Ok.ensures.cases.1;
      is_asked = asked;
      is_list = c.in_ok-list.ensures;
      recorded = recorded;
    }) is) c.listed_for.ensures.done

pub returns-clause-problem : goal.returns-clause-problem
returns-clause-problem g c =
    let asked = is_asked c.args.wanted c.args.commands.now _ c.as_slice-names.result _ c.as_slice-names.ensures.value c.in_ok-names.ensures c.in-Ok.ensures.cases.0 in
    if_err c.listed_for.result (λ e problem p is. IsNotListed.unlisted c.in_ok-list.list c.in-Ok.ensures.cases.1 c.in_ok-list.ensures
    (subst (λ (names : List (List ℕ)). IsUnlisted (g.A.Book.meaning c.args.a.now) c.in_ok-list.list names p) asked.names (problem p is))) c.listed_for.ensures.problem
