use Rattle.dia_compared_json.proofs.comparing.found_of.Goals as goal

pub recorded_of-requires-clause-answer : goal.recorded_of-requires-clause-answer
recorded_of-requires-clause-answer g c = c.in_ok-verdict.ensures.answer

pub recorded_of-requires-clause-failings : goal.recorded_of-requires-clause-failings
recorded_of-requires-clause-failings g c = c.in_ok-verdict.ensures.failings

pub recorded_of-requires-clause-none : goal.recorded_of-requires-clause-none
recorded_of-requires-clause-none g c = c.in_ok-verdict.ensures.none
