use Rattle.std.proofs.Common.{length, ap, arith, sym, ◌∙◌}
use Rattle.std.specs.Prelude.{unwrap_or}
use Rattle.std.specs.Option.{option_or}
use Rattle.dia_lint_text.specs.Lists.{after_first_place}
use Rattle.dia_lint_text.proofs.Colons.{from_here, next_colon, none_left, shorter_rest}
use Rattle.dia_lint_text.proofs.form.without_place.Goals as goal

pub returns : goal.returns
returns c = sym (ap (λ o. unwrap_or o c.args.entry.now) (c.loop.invariant.1.0 ∙ none_left c.loop.rest.now c.loop.counter (length c.args.entry.now) (omega (arith, c.loop-test.false)) c.loop.invariant.1.1))

pub returns-in-Some : goal.returns-in-Some
returns-in-Some c =
    let rest = c.after_colon-rest.result.now in
    sym (ap (λ o. unwrap_or o c.args.entry.now)
    (c.loop.invariant.1.0 ∙ next_colon c.loop.rest.now ∙ ap from_here (sym c.after_colon-rest.ensures) ∙ ap (λ o. option_or o (after_first_place rest)) (sym c.in-Some.ensures)))

pub loop-preserved : goal.loop-preserved
loop-preserved c =
    let rest = c.after_colon-rest.result.now in (
      c.after_colon-rest.utf8,
      (
        c.loop.invariant.1.0 ∙ next_colon c.loop.rest.now ∙ ap from_here (sym c.after_colon-rest.ensures) ∙ ap (λ o. option_or o (after_first_place rest)) (sym c.in_default.ensures),
        (let e = ap length c.after_colon-rest.ensures in let s = shorter_rest c.loop.rest.now c.loop.counter (length c.args.entry.now) c.loop.invariant.1.1 in omega (arith, e, s)),
      ),
    )
