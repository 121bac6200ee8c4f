use Rattle.std.proofs.Common.{List, ℕ, ◌≡◌, ◌<◌, length, Some, ap, subst, arith, ◌∙◌}
use Rattle.std.specs.Global.{Vec}
use Rattle.dia_ccf.specs.declared.fault.CcfFault.TheVariants as ccf
use Rattle.dia_ccf.specs.Limits.{max_text}
use Rattle.std.specs.Prelude.{IfSome}
use Rattle.dia_ccf.specs.Plain.{plain_source}
use Rattle.dia_ccf.specs.Tokens.{tokens}
use Rattle.dia_ccf.specs.Grammar.{Derives}
use Rattle.dia_c_calls.specs.Held.{text_in}
use Rattle.dia_c_calls.specs.Openings.{IsRenderedOf}
use Rattle.dia_c_calls.proofs.Recorded.{if_ok, has_fault}
use Rattle.dia_c_calls.proofs.opening.canonical.Goals as goal

pub returns-in_ok-rendered-in-Ok-parse-clause-text : goal.returns-in_ok-rendered-in-Ok-parse-clause-text
returns-in_ok-rendered-in-Ok-parse-clause-text c =
    let same = c.in-Ok.ensures.cases.0 in
    let derived = subst (λ (t : List ℕ). Derives (tokens t) (plain_source c.in-Ok-parse.source)) same c.in-Ok-parse.ensures.found in
    if_ok {Q = λ held. IfSome (text_in (Some held.value)) (IsRenderedOf c.args.text.now)} c.boxed.result
    (λ held is. rw is (c.in-Ok.ensures.cases.1, plain_source c.in-Ok-parse.source, derived, ap (λ (v : Vec ℕ). v.items) c.into_bytes.ensures.value ∙ c.in_ok-rendered-in-Ok-parse.ensures.text)) c.boxed.ensures.value

pub returns-in-Err-clause-problem : goal.returns-in-Err-clause-problem
returns-in-Err-clause-problem c p is =
    let recorded = c.problem_of.ensures p is in
    let long : max_text < length c.in-Ok.words.now → c.in-Err.fault ≡ ccf.Limit 0 = λ more. grind (arith, c.in-Err.ensures.too_long more) in
    rw (← c.in-Ok.ensures.cases.0) (has_fault c.in-Ok.words.now c.in-Err.fault p long c.in-Err.ensures.fault recorded.0 recorded.1)
