use Rattle.std.proofs.Common.{◌≡◌, ℕ, List, [], ◌++◌, length, subst, ap, arith, ◌∙◌}
use Rattle.std.proofs.Math.Logic.{∥∥₁_elim}
use Rattle.std.proofs.lemmas.List.{append-nil}
use Rattle.dia_check.specs.declared.stream.stages.Stage.{Stage}
use Rattle.dia_check.specs.Faults.{IsAnswer}
use Rattle.dia_check.specs.Streaming.{HasRead, IsStage, IsWholeAnswer, wanted}
use Rattle.dia_check.proofs.stream.Stream.finish.Goals as goal

pub returns-in-Over-clause-answer : goal.returns-in-Over-clause-answer
returns-in-Over-clause-answer g c fresh d u most bytes occurs =
    let (long, whole, however) = subst (λ (s : Stage). HasRead d u most bytes c.args.self.body s) c.in-Over.is occurs.taken.read in
    let end = append-nil bytes in
    let size : length (bytes ++ []) ≡ _ = ap length end ∙ (let n = occurs.taken.count in let w = occurs.taken.wants in let t = c.if-self.true in omega (arith, n, w, t)) in
    subst (λ (b : List ℕ). IsAnswer d u most b c.in-Over.answer) end (however [] size)

pub returns-in-Over-clause-memory : goal.returns-in-Over-clause-memory
returns-in-Over-clause-memory g c is = ∥∥₁_elim c.args.self.holds (λ x y. absurd x) (λ x.
    let (bytes, taken) = subst (λ (s : Stage). IsStage (g.B.Book.meaning c.args.self.basis.book.now) c.args.self.basis.unknown c.args.self.basis.levels c.args.self.taken c.args.self.wanted c.args.self.body s) c.in-Over.is x in
    subst (IsWholeAnswer (length bytes) (wanted bytes)) is taken.read.1)

pub returns-in-Over-clause-trailing : goal.returns-in-Over-clause-trailing
returns-in-Over-clause-trailing g c is = ∥∥₁_elim c.args.self.holds (λ x y. absurd x) (λ x.
    let (bytes, taken) = subst (λ (s : Stage). IsStage (g.B.Book.meaning c.args.self.basis.book.now) c.args.self.basis.unknown c.args.self.basis.levels c.args.self.taken c.args.self.wanted c.args.self.body s) c.in-Over.is x in
    subst (IsWholeAnswer (length bytes) (wanted bytes)) is taken.read.1)
