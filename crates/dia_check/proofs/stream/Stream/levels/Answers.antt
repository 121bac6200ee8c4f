use Rattle.std.proofs.Common.{◌+◌, ◌<◌, refl, subst, arith}
use Rattle.std.proofs.Math.Logic.{∥∥₁_elim}
use Rattle.std.specs.Coded.{le_prop}
use Rattle.std.specs.Prelude.{◌^◌}
use Rattle.dia_book.specs.Dictionary.{definitions}
use Rattle.dia_check.specs.declared.stream.stages.Stage.{Stage}
use Rattle.dia_check.specs.Streaming.{HasTaken, IsStage}
use Rattle.dia_check.proofs.StreamLevels.{counts_body, counts_zero, few_levels}
use Rattle.dia_check.proofs.stream.Stream.levels.Goals as goal

pub overflow_add-result : goal.overflow_add-result
overflow_add-result g c =
    let s = c.args.self.now in
    let d = g.B.Book.meaning s.basis.book.now in
    let small : c.depth.result + 1 < 2 ^ 32 = ∥∥₁_elim s.holds le_prop (λ x.
    let (bytes, h) = subst (λ (t : Stage). IsStage d s.basis.unknown s.basis.levels s.taken s.wanted s.body t) c.in-InBody.is x in
    few_levels d h.sound s.basis.unknown s.basis.levels bytes s.body s.taken s.wanted h c.depth.result (λ message good outer level now. c.depth.ensures (definitions d) outer level now)) in
    omega (arith, small)

pub returns-in-InBody-clause-count : goal.returns-in-InBody-clause-count
returns-in-InBody-clause-count g c live d u most bytes occurs =
    let s = c.args.self.now in
    counts_body d occurs.taken.sound u most bytes s.body s.taken s.wanted (subst (λ (t : Stage). HasTaken d u most s.taken s.wanted s.body t bytes) c.in-InBody.is occurs.taken)
    c.depth.result (λ message good outer level now. c.depth.ensures (definitions d) outer level now)

pub returns-in_default : goal.returns-in_default
returns-in_default g c =
    let s = c.args.self.now in
    record {
      count = λ live d u most bytes occurs. counts_zero d occurs.taken.sound u most bytes s.body s.stage c.in_default.not-InBody live s.taken s.wanted occurs.taken;
      spent = λ x. refl;
    }
