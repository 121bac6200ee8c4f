use Rattle.std.proofs.Common.{refl, ◌∙◌}
use Rattle.dia_ccf.proofs.ReaderAdvances.{wants_next, before_next, earlier_next, few_next, reached_next, counted_next, left_next, taken_next}
use Rattle.dia_ccf.proofs.reading.Reader.advance.Goals as goal

pub invariant_of-self-clause-wants : goal.invariant_of-self-clause-wants
invariant_of-self-clause-wants c =
    let old = c.args.self.now in
    c.wanted_after-self.ensures ∙ wants_next old.text.now old.taken old.at old.end old.token old.wanted c.requires old.counted old.begins old.wants

pub invariant_of-self-clause-before : goal.invariant_of-self-clause-before
invariant_of-self-clause-before c =
    let old = c.args.self.now in
    before_next old.text.now old.taken old.at old.end old.token c.requires old.counted old.begins old.placed

pub invariant_of-self-clause-before_that : goal.invariant_of-self-clause-before_that
invariant_of-self-clause-before_that c = let old = c.args.self.now in earlier_next old.text.now old.taken old.last old.before

pub invariant_of-self-clause-few : goal.invariant_of-self-clause-few
invariant_of-self-clause-few c =
    let old = c.args.self.now in
    few_next old.taken old.at old.end c.look-at.result.1 old.token c.requires old.few old.long c.look-at.ensures.within.0

pub invariant_of-self-clause-reached : goal.invariant_of-self-clause-reached
invariant_of-self-clause-reached c =
    let old = c.args.self.now in
    reached_next old.text.now old.taken old.at old.end old.token c.requires old.counted old.begins

pub invariant_of-self-clause-counted : goal.invariant_of-self-clause-counted
invariant_of-self-clause-counted c =
    let old = c.args.self.now in
    counted_next old.text.now old.taken old.at old.end c.look-at.result.1 old.token c.requires old.counted old.rest c.look-at.ensures.same

pub returns : goal.returns
returns c =
    let old = c.args.self.now in
    (left_next old.text.now old.at old.end c.look-at.result.1 old.token c.requires old.begins c.look-at.ensures.same, refl, taken_next old.taken old.token c.requires)
