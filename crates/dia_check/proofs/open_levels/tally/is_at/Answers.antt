use Rattle.std.proofs.Common.{◌∙◌, ◌==◌, Some, ap, sym, arith}
use Rattle.std.proofs.lemmas.Bool.{both_ways, eq-eqb, eqb-true, false≢true}
use Rattle.std.proofs.lemmas.Option.{same_Some, slice_get-get_or, slice_get_within}
use Rattle.dia_check.specs.declared.open_levels.tally.Met.{Met}
use Rattle.dia_check.proofs.open_levels.tally.is_at.Goals as goal

pub returns-in-Some-clause-yes : goal.returns-in-Some-clause-yes
returns-in-Some-clause-yes c is =
    let (inside, got, some, (within, each), rest) = c.in-Some.ensures.lookup in
    (c.in-Some.met.now, slice_get-get_or c.args.tally.now c.args.place c.in-Some.met.now within ∙ ap (λ (m : Met). Some m) (sym got), eqb-true c.in-Some.met.now.rule c.args.rule is)

pub returns-in-Some-clause-no : goal.returns-in-Some-clause-no
returns-in-Some-clause-no c other m at same =
    let (inside, got, some, (within, each), rest) = c.in-Some.ensures.lookup in
    let here = slice_get-get_or c.args.tally.now c.args.place c.in-Some.met.now within ∙ ap (λ (m : Met). Some m) (sym got) in
    let rule = ap (λ (x : Met). x.rule) (same_Some c.in-Some.met.now m (sym here ∙ at)) in
    both_ways (c.in-Some.met.now.rule == c.args.rule) other (eq-eqb c.in-Some.met.now.rule c.args.rule (rule ∙ same))

pub returns-in-None-clause-yes : goal.returns-in-None-clause-yes
returns-in-None-clause-yes c is = absurd (false≢true is)

pub returns-in-None-clause-no : goal.returns-in-None-clause-no
returns-in-None-clause-no c other m at =
    let (outside, none, some, past, rest) = c.in-None.ensures.lookup in
    absurd (omega (arith, past, slice_get_within c.args.tally.now c.args.place m at))
