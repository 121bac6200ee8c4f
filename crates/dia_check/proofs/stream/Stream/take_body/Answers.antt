use Rattle.std.proofs.Common.{◌+◌, ◌<◌, ◌≤◌, ◌++◌, length, take, drop, refl, sym, subst, arith, inl, inr, ⊎_elim}
use Rattle.std.proofs.Math.Logic.{∥∥₁_elim, ∥∥₁_map}
use Rattle.std.proofs.lemmas.Bool.{cases_lt}
use Rattle.std.specs.Coded.{le_prop}
use Rattle.std.specs.Prelude.{◌^◌}
use Rattle.dia_book.specs.Dictionary.{Dictionary}
use Rattle.dia_terms.specs.declared.Unknown.{Unknown}
use Rattle.dia_terms.specs.declared.Levels.{Levels}
use Rattle.dia_check.specs.Streaming.{HasTaken, IsSpentStage, OpensAfter, OpensLevel, taken_of}
use Rattle.dia_check.proofs.StreamStages.{body_opens, body_taken, has_taken, is_stage, live_stage, may_read, memory_of, moved, taken_within}
use Rattle.dia_check.proofs.stream.Stream.take_body.Goals as goal

pub overflow_sub-self : goal.overflow_sub-self
overflow_sub-self g c =
    let s = c.args.self.now in
    let d = g.B.Book.meaning s.basis.book.now in
    let e : s.taken ≤ s.wanted = ∥∥₁_elim s.holds le_prop (λ x.
    let (bytes, h) = has_taken d s.basis.unknown s.basis.levels s.taken s.wanted s.body s.stage c.requires.not_spent x in
    taken_within d s.basis.unknown s.basis.levels s.taken s.wanted s.body s.stage bytes c.args.piece.now h) in
    e

pub read_stage-stage-requires : goal.read_stage-stage-requires
read_stage-stage-requires g c =
    let s = c.args.self.now in
    let d = g.B.Book.meaning s.basis.book.now in
    let m = c.min-count.ensures in
    ∥∥₁_map s.holds (λ x.
    let (bytes, h) = has_taken d s.basis.unknown s.basis.levels s.taken s.wanted s.body s.stage c.requires.not_spent x in
    (bytes, may_read d s.basis.unknown s.basis.levels s.taken s.wanted s.body s.stage bytes c.args.piece.now h c.requires.header c.min-count.result (omega (arith, m)) (omega (arith, m))))

pub overflow_add-self : goal.overflow_add-self
overflow_add-self g c =
    let s = c.args.self.now in
    let d = g.B.Book.meaning s.basis.book.now in
    let m = c.min-count.ensures in
    let small : s.taken + c.min-count.result < 2 ^ 32 = ∥∥₁_elim s.holds le_prop (λ x.
    let (bytes, h) = has_taken d s.basis.unknown s.basis.levels s.taken s.wanted s.body s.stage c.requires.not_spent x in
    let w = taken_within d s.basis.unknown s.basis.levels s.taken s.wanted s.body s.stage bytes c.args.piece.now h in let f = h.few in omega (arith, m, w, f)) in
    omega (arith, small)

pub invariant_of-self : goal.invariant_of-self
invariant_of-self g c =
    let s = c.args.self.now in
    let d = g.B.Book.meaning s.basis.book.now in
    let n = c.min-count.result in
    let m = c.min-count.ensures in
    record {
      holds = ∥∥₁_map s.holds (λ x.
          let (bytes, h) = has_taken d s.basis.unknown s.basis.levels s.taken s.wanted s.body s.stage c.requires.not_spent x in
          let may = may_read d s.basis.unknown s.basis.levels s.taken s.wanted s.body s.stage bytes c.args.piece.now h c.requires.header n (omega (arith, m)) (omega (arith, m)) in
          is_stage d s.basis.unknown s.basis.levels (s.taken + n) s.wanted c.read_stage-stage.new.body c.read_stage-stage.result (bytes ++ take n c.args.piece.now) (λ live.
          body_taken d s.basis.unknown s.basis.levels s.taken s.wanted s.body s.stage bytes c.args.piece.now h c.requires.header n (omega (arith, m)) (omega (arith, m))
          (OpensAfter d s.basis.levels s.taken (bytes ++ take n c.args.piece.now)) c.read_stage-stage.new.body c.read_stage-stage.result (c.read_stage-stage.ensures bytes may) live));
    }

pub returns-in_default-clause-within : goal.returns-in_default-clause-within
returns-in_default-clause-within g c = let m = c.min-count.ensures in omega (arith, m)

pub returns-in_default-clause-taken : goal.returns-in_default-clause-taken
returns-in_default-clause-taken g c d u most bytes occurs =
    let s = c.args.self.now in
    let e = g.B.Book.meaning s.basis.book.now in
    let n = c.min-count.result in
    let m = c.min-count.ensures in
    let h = moved (λ (x : Dictionary) (y : Unknown) (z : Levels). HasTaken x y z s.taken s.wanted s.body s.stage bytes) d e u s.basis.unknown most s.basis.levels
    (sym occurs.book) (sym occurs.unknown) (sym occurs.levels) occurs.taken in
    let may = may_read e s.basis.unknown s.basis.levels s.taken s.wanted s.body s.stage bytes c.args.piece.now h c.requires.header n (omega (arith, m)) (omega (arith, m)) in
    let new = body_taken e s.basis.unknown s.basis.levels s.taken s.wanted s.body s.stage bytes c.args.piece.now h c.requires.header n (omega (arith, m)) (omega (arith, m))
    (OpensAfter e s.basis.levels s.taken (bytes ++ take n c.args.piece.now)) c.read_stage-stage.new.body c.read_stage-stage.result
    (c.read_stage-stage.ensures bytes may) (live_stage c.read_stage-stage.result c.in_default.not-NoMemory) in
    record {
      book = occurs.book;
      unknown = occurs.unknown;
      levels = occurs.levels;
      taken = moved (λ (x : Dictionary) (y : Unknown) (z : Levels). HasTaken x y z (s.taken + n) s.wanted c.read_stage-stage.new.body c.read_stage-stage.result (bytes ++ take n c.args.piece.now))
          e d s.basis.unknown u s.basis.levels most occurs.book occurs.unknown occurs.levels new;
    }

pub returns-in_default-clause-all : goal.returns-in_default-clause-all
returns-in_default-clause-all g c =
    let s = c.args.self.now in
    let d = g.B.Book.meaning s.basis.book.now in
    let m = c.min-count.ensures in
    let w : s.taken ≤ s.wanted = ∥∥₁_elim s.holds le_prop (λ x.
    let (bytes, h) = has_taken d s.basis.unknown s.basis.levels s.taken s.wanted s.body s.stage c.requires.not_spent x in
    taken_within d s.basis.unknown s.basis.levels s.taken s.wanted s.body s.stage bytes c.args.piece.now h) in
    ⊎_elim (λ less. inr (omega (arith, m, w, less))) (λ more. inl (omega (arith, m, more))) (cases_lt c.min-count.result (length c.args.piece.now))

pub returns-in_default-clause-goes_on : goal.returns-in_default-clause-goes_on
returns-in_default-clause-goes_on g c = live_stage c.read_stage-stage.result c.in_default.not-NoMemory

pub returns-in-NoMemory-clause-no_memory : goal.returns-in-NoMemory-clause-no_memory
returns-in-NoMemory-clause-no_memory g c d u most bytes occurs =
    let s = c.args.self.now in
    let e = g.B.Book.meaning s.basis.book.now in
    let n = c.min-count.result in
    let m = c.min-count.ensures in
    let h = moved (λ (x : Dictionary) (y : Unknown) (z : Levels). HasTaken x y z s.taken s.wanted s.body s.stage bytes) d e u s.basis.unknown most s.basis.levels
    (sym occurs.book) (sym occurs.unknown) (sym occurs.levels) occurs.taken in
    let may = may_read e s.basis.unknown s.basis.levels s.taken s.wanted s.body s.stage bytes c.args.piece.now h c.requires.header n (omega (arith, m)) (omega (arith, m)) in
    let memory = memory_of (OpensAfter e s.basis.levels s.taken (bytes ++ take n c.args.piece.now)) e s.basis.unknown s.basis.levels
    (bytes ++ take n c.args.piece.now) c.read_stage-stage.new.body c.read_stage-stage.result (subst IsSpentStage (sym c.in-NoMemory.is) tt) (c.read_stage-stage.ensures bytes may) in
    moved (λ (x : Dictionary) (y : Unknown) (z : Levels). OpensLevel x z bytes (drop (length bytes) (taken_of (bytes ++ c.args.piece.now))))
    e d s.basis.unknown u s.basis.levels most occurs.book occurs.unknown occurs.levels
    (body_opens e s.basis.unknown s.basis.levels s.taken s.wanted s.body s.stage bytes c.args.piece.now h c.requires.header n (omega (arith, m)) (omega (arith, m)) (λ less. omega (arith, m, less)) memory)

pub returns-in-NoMemory-clause-err : goal.returns-in-NoMemory-clause-err
returns-in-NoMemory-clause-err g c = (refl, subst IsSpentStage (sym c.in-NoMemory.is) tt)
