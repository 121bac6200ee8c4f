use Rattle.std.proofs.Common.{◌≡◌, ℕ, ◌-◌, ◌≤◌, List, ◌++◌, length, take, drop, refl, sym, subst, arith}
use Rattle.std.proofs.Math.Logic.{∥∥₁_elim, ∥∥₁_map}
use Rattle.std.proofs.lemmas.List.{append-nil}
use Rattle.std.specs.Coded.{le_prop}
use Rattle.dia_book.specs.Dictionary.{Dictionary}
use Rattle.dia_terms.specs.declared.Unknown.{Unknown}
use Rattle.dia_terms.specs.declared.Levels.{Levels}
use Rattle.dia_check.specs.declared.stream.stages.Stage.{Stage}
use Rattle.dia_check.specs.declared.stream.stages.Stage.TheVariants.{Header}
use Rattle.dia_check.specs.Front.{front_bytes}
use Rattle.dia_check.specs.Streaming.{BeginsGood, HasTaken, IsSpentStage, IsStage, OpensLevel, taken_of}
use Rattle.dia_check.specs.Streams.{Denotes}
use Rattle.dia_check.proofs.StreamStages.{after_header, front_grows, front_size, front_taken, front_takes_all, has_taken, header_now, header_opens, is_stage, live_stage, memory_of, moved}
use Rattle.dia_check.proofs.stream.Stream.take_header.Goals as goal

pub overflow_sub-count : goal.overflow_sub-count
overflow_sub-count g c =
    let grows = front_grows c.in-Header.front c.take_from.new.self c.args.piece.now c.take_from.ensures (front_size c.in-Header.front c.in-Header.front.within) in
    let a = c.len.ensures in let b = c.len-2.ensures in omega (arith, grows, a, b)

pub invariant_of-self : goal.invariant_of-self
invariant_of-self g c =
    let s = c.args.self.now in
    let d = g.B.Book.meaning s.basis.book.now in
    let front = c.in-Header.front in
    let after = c.take_from.new.self in
    record {
      holds = ∥∥₁_map s.holds (λ x.
          let (bytes, h) = subst (λ (t : Stage). IsStage d s.basis.unknown s.basis.levels s.taken s.wanted s.body t) c.in-Header.is x in
          let k = length (front_bytes after) - length (front_bytes front) in
          is_stage d s.basis.unknown s.basis.levels c.len-self.result c.read_front-wanted.result.0 c.read_front-wanted.new.body c.read_front-wanted.result.1 (bytes ++ take k c.args.piece.now) (λ live.
          header_now front after c.args.piece.now c.take_from.ensures (front_size front front.within) d s.basis.unknown s.basis.levels s.taken s.wanted s.body bytes h
          k c.len-self.result c.read_front-wanted.result.0 c.read_front-wanted.new.body c.read_front-wanted.result.1 refl c.len-self.ensures c.read_front-wanted.ensures.wants
          (c.read_front-wanted.ensures.read s.basis.unknown s.basis.levels) live));
    }

pub returns-in_default-stage-clause-within : goal.returns-in_default-stage-clause-within
returns-in_default-stage-clause-within g c =
    let le = front_taken c.in-Header.front c.take_from.new.self c.args.piece.now c.take_from.ensures (front_size c.in-Header.front c.in-Header.front.within) in
    let a = c.len.ensures in let b = c.len-2.ensures in omega (arith, le, a, b)

pub returns-in_default-stage-clause-taken : goal.returns-in_default-stage-clause-taken
returns-in_default-stage-clause-taken g c d u most bytes occurs =
    let s = c.args.self.now in
    let e = g.B.Book.meaning s.basis.book.now in
    let front = c.in-Header.front in
    let after = c.take_from.new.self in
    let there = subst (λ (t : Stage). HasTaken d u most s.taken s.wanted s.body t bytes) c.in-Header.is occurs.taken in
    let own = moved (λ (x : Dictionary) (y : Unknown) (z : Levels). HasTaken x y z s.taken s.wanted s.body (Header front) bytes)
    d e u s.basis.unknown most s.basis.levels (sym occurs.book) (sym occurs.unknown) (sym occurs.levels) there in
    let k = c.len.result - c.len-2.result in
    let a = c.len.ensures in let b = c.len-2.ensures in
    let is_k : k ≡ length (front_bytes after) - length (front_bytes front) = omega (arith, a, b) in
    let new = header_now front after c.args.piece.now c.take_from.ensures (front_size front front.within) e s.basis.unknown s.basis.levels s.taken s.wanted s.body bytes own
    k c.len-self.result c.read_front-wanted.result.0 c.read_front-wanted.new.body c.read_front-wanted.result.1 is_k c.len-self.ensures c.read_front-wanted.ensures.wants (c.read_front-wanted.ensures.read s.basis.unknown s.basis.levels)
    (live_stage c.read_front-wanted.result.1 c.in_default-stage.not-NoMemory) in
    record {
      book = occurs.book;
      unknown = occurs.unknown;
      levels = occurs.levels;
      taken = moved (λ (x : Dictionary) (y : Unknown) (z : Levels). HasTaken x y z c.len-self.result c.read_front-wanted.result.0 c.read_front-wanted.new.body c.read_front-wanted.result.1 (bytes ++ take k c.args.piece.now))
          e d s.basis.unknown u s.basis.levels most occurs.book occurs.unknown occurs.levels new;
    }

pub returns-in_default-stage-clause-all : goal.returns-in_default-stage-clause-all
returns-in_default-stage-clause-all g c less =
    let a = c.len.ensures in let b = c.len-2.ensures in let n = c.len-self.ensures in
    let all = front_takes_all c.in-Header.front c.take_from.new.self c.args.piece.now c.take_from.ensures (front_size c.in-Header.front c.in-Header.front.within) (omega (arith, less, n)) in
    omega (arith, a, b, all)

pub returns-in_default-stage-clause-goes_on : goal.returns-in_default-stage-clause-goes_on
returns-in_default-stage-clause-goes_on g c = live_stage c.read_front-wanted.result.1 c.in_default-stage.not-NoMemory

pub returns-in-NoMemory-clause-no_memory : goal.returns-in-NoMemory-clause-no_memory
returns-in-NoMemory-clause-no_memory g c d u most bytes occurs =
    let s = c.args.self.now in
    let e = g.B.Book.meaning s.basis.book.now in
    let front = c.in-Header.front in
    let after = c.take_from.new.self in
    let there = subst (λ (t : Stage). HasTaken d u most s.taken s.wanted s.body t bytes) c.in-Header.is occurs.taken in
    let own = moved (λ (x : Dictionary) (y : Unknown) (z : Levels). HasTaken x y z s.taken s.wanted s.body (Header front) bytes)
    d e u s.basis.unknown most s.basis.levels (sym occurs.book) (sym occurs.unknown) (sym occurs.levels) there in
    let good = memory_of (BeginsGood e (front_bytes after)) e s.basis.unknown s.basis.levels (front_bytes after) c.read_front-wanted.new.body c.read_front-wanted.result.1
    (subst IsSpentStage (sym c.in-NoMemory.is) tt) (c.read_front-wanted.ensures.read s.basis.unknown s.basis.levels) in
    moved (λ (x : Dictionary) (y : Unknown) (z : Levels). OpensLevel x z bytes (drop (length bytes) (taken_of (bytes ++ c.args.piece.now))))
    e d s.basis.unknown u s.basis.levels most occurs.book occurs.unknown occurs.levels
    (header_opens front after c.args.piece.now c.take_from.ensures (front_size front front.within) e s.basis.unknown s.basis.levels s.taken s.wanted s.body bytes own good)

pub returns-in-NoMemory-clause-err : goal.returns-in-NoMemory-clause-err
returns-in-NoMemory-clause-err g c = (refl, subst IsSpentStage (sym c.in-NoMemory.is) tt)

pub returns-in_default-clause-taken : goal.returns-in_default-clause-taken
returns-in_default-clause-taken g c d u most bytes occurs =
    subst (λ (b : List ℕ). Denotes g.B.Book.meaning c.args.self.now d u most b) (sym (append-nil bytes)) occurs

pub returns-in_default-clause-all : goal.returns-in_default-clause-all
returns-in_default-clause-all g c less =
    let s = c.args.self.now in
    let d = g.B.Book.meaning s.basis.book.now in
    let long : 20 ≤ s.taken = ∥∥₁_elim s.holds le_prop (λ x.
    let (bytes, h) = has_taken d s.basis.unknown s.basis.levels s.taken s.wanted s.body s.stage c.requires x in
    after_header d s.basis.unknown s.basis.levels s.taken s.wanted s.body s.stage bytes c.in_default.not-Header c.requires h) in
    absurd (omega (arith, long, less))
