use Rattle.std.proofs.Common.{arith, List, ◌∷◌, drop, map, ap, ◌∙◌}
use Rattle.std.specs.Prelude.{slice_get}
use Rattle.dia_ccf.specs.Tokens.{Token, Placed}
use Rattle.dia_ccf.specs.Faults.{token_place}
use Rattle.dia_ccf.specs.LexerTokens.{capped, left_from}
use Rattle.dia_ccf.proofs.reading.look.Goals as goal

pub returns-in-Some-clause-within : goal.returns-in-Some-clause-within
returns-in-Some-clause-within c = let found = c.in-Some.ensures in (found.begins, omega (arith, found.long), found.within)

pub returns-in-Some-clause-same : goal.returns-in-Some-clause-same
returns-in-Some-clause-same c = c.in-Some.ensures.first

pub returns-in-Some-clause-rest : goal.returns-in-Some-clause-rest
returns-in-Some-clause-rest c = ap (drop 1) c.in-Some.ensures.rest

pub returns-in-Some-clause-placed : goal.returns-in-Some-clause-placed
returns-in-Some-clause-placed c = ap (λ (ps : List Placed). token_place c.args.text.now (slice_get ps 0)) c.in-Some.ensures.rest

pub returns-in-Some-clause-begins : goal.returns-in-Some-clause-begins
returns-in-Some-clause-begins c =
    ap (map (λ (p : Placed). capped p.token)) c.in-Some.ensures.rest
    ∙ ap (λ (t : Token). t ∷ left_from c.args.text.now c.in-Some.found.end) c.in-Some.ensures.same
