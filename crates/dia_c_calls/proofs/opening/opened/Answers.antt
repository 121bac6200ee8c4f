use Rattle.std.proofs.Common.{List, ℕ, ◌≡◌, ◌<◌, Some, length, refl, subst, arith}
use Rattle.std.specs.Prelude.{IfSome, IsSome}
use Rattle.dia_ccf.specs.declared.fault.CcfFault.TheVariants as ccf
use Rattle.dia_ccf.specs.Limits.{max_text}
use Rattle.dia_ccf.specs.Plain.{plain_source}
use Rattle.dia_ccf.specs.Tokens.{tokens}
use Rattle.dia_ccf.specs.Grammar.{Derives}
use Rattle.dia_c_calls.specs.declared.opening.Problem.{Problem}
use Rattle.dia_c_calls.specs.declared.opening.Refused.TheVariants.{Bad}
use Rattle.dia_c_calls.specs.Held.{dict_in}
use Rattle.dia_c_calls.specs.Openings.{HasProblem, IsTextOf}
use Rattle.dia_c_calls.proofs.Recorded.{if_err, if_ok, has_fault}
use Rattle.dia_c_calls.proofs.opening.opened.Goals as goal

pub returns-in-Ok-parse-clause-text : goal.returns-in-Ok-parse-clause-text
returns-in-Ok-parse-clause-text c =
    let derived = subst (λ (t : List ℕ). Derives (tokens t) (plain_source c.in-Ok-parse.source)) c.in-Ok.ensures.cases.0 c.in-Ok-parse.ensures.found in
    if_ok {Q = λ held. IfSome (dict_in (Some held.value)) (IsTextOf c.args.text.now)} c.named.result
    (λ held is. rw is.1 (c.in-Ok.ensures.cases.1, plain_source c.in-Ok-parse.source, derived, is.0, refl)) c.named.ensures.text

pub returns-in-Ok-parse-clause-is_dict : goal.returns-in-Ok-parse-clause-is_dict
returns-in-Ok-parse-clause-is_dict c = if_ok {Q = λ held. IsSome (dict_in (Some held.value))} c.named.result (λ held is. rw is.1 refl) c.named.ensures.text

pub returns-in-Ok-parse-clause-problem : goal.returns-in-Ok-parse-clause-problem
returns-in-Ok-parse-clause-problem c =
    let same = c.in-Ok.ensures.cases.0 in
    let derived = subst (λ (t : List ℕ). Derives (tokens t) (plain_source c.in-Ok-parse.source)) same c.in-Ok-parse.ensures.found in
    if_err {Q = λ e. (p : Problem) → e ≡ Bad p → HasProblem c.args.text.now p} c.named.result
    (λ e recorded p is. HasProblem.wrong_source (plain_source c.in-Ok-parse.source) derived (recorded p is)) c.named.ensures.problem

pub returns-in-Err-clause-problem : goal.returns-in-Err-clause-problem
returns-in-Err-clause-problem c p is =
    let recorded = c.problem_of.ensures p is in
    let long : max_text < length c.in-Ok.words.now → c.in-Err.fault ≡ ccf.Limit 0 = λ more. grind (arith, c.in-Err.ensures.too_long more) in
    HasProblem.unread (rw (← c.in-Ok.ensures.cases.0) (has_fault c.in-Ok.words.now c.in-Err.fault p long c.in-Err.ensures.fault recorded.0 recorded.1))
