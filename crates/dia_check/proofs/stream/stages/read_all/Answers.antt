use Rattle.std.proofs.Common.{◌≡◌, ◌+◌, ◌<◌, ℕ, List, length, drop, refl, sym, subst, ap, arith}
use Rattle.std.proofs.Math.Logic.{∥∥₁_elim, ∥∥₁_map}
use Rattle.std.proofs.lemmas.List.{take_rest, length-drop}
use Rattle.std.proofs.lemmas.Result.{err_from_is_err_and}
use Rattle.std.specs.Coded.{le_prop}
use Rattle.std.specs.Prelude.{◌^◌}
use Rattle.dia_check.specs.Faults.{HasGoodHeader}
use Rattle.dia_check.specs.Reading.{IsInPart, LiesAt}
use Rattle.dia_check.specs.Streaming.{IsReading}
use Rattle.dia_check.proofs.PartsOfPieces.{lies_later, lies_on}
use Rattle.dia_check.proofs.DataInPieces.{stop_for}
use Rattle.dia_check.proofs.stream.stages.read_all.Goals as goal

pub loop-taken-init : goal.loop-taken-init
loop-taken-init g c =
    let d = g.B.Book.meaning c.args.basis.now.book.now in
    let e : c.args.from ≡ c.args.from + 0 = omega arith in (
      omega arith,
      refl,
      ∥∥₁_map c.requires (λ x. subst (λ (n : ℕ). (bytes : List ℕ)
          × (length bytes < 2 ^ 32) × IsReading d c.args.basis.now.unknown c.args.basis.now.levels c.args.body.now n bytes × LiesAt bytes n c.args.piece.now) e x),
      λ bytes good h lies. subst (λ (n : ℕ). IsInPart d c.args.basis.now.unknown c.args.basis.now.levels bytes good c.args.body.now.open_levels c.args.body.now.part n) e h,
    )

pub overflow_add-from : goal.overflow_add-from
overflow_add-from g c =
    let small : c.args.from + c.loop-taken.taken < 2 ^ 32 = ∥∥₁_elim c.loop-taken.invariant.2 le_prop (λ x. let (bytes, few, reading, lies) = x in let w = lies.1 in omega (arith, few, w)) in
    omega (arith, small)

pub read_part-requires-clause-part : goal.read_part-requires-clause-part
read_part-requires-clause-part g c = ∥∥₁_map c.loop-taken.invariant.2 (λ x. let (bytes, few, (good, is, h), lies) = x in
    (bytes, good, few, h, subst (LiesAt bytes (c.args.from + c.loop-taken.taken)) (sym (take_rest c.args.piece.now c.loop-taken.taken)) lies))

pub returns-in_err-done-clause-next : goal.returns-in_err-done-clause-next
returns-in_err-done-clause-next g c bytes good h lies =
    let d = g.B.Book.meaning c.args.basis.now.book.now in
    let rest = take_rest c.args.piece.now c.loop-taken.taken in
    let later = subst (LiesAt bytes (c.args.from + c.loop-taken.taken)) (sym rest) (lies_later bytes c.args.piece.now c.args.from c.loop-taken.taken c.loop-taken.invariant.0 lies) in
    let size = ap length rest in let more = length-drop c.loop-taken.taken c.args.piece.now in let within = c.loop-taken.invariant.0 in
    let p = err_from_is_err_and c.from_residual.result c.from_residual.ensures.1 in
    rw (p.1, p.2) (stop_for d c.args.basis.now.unknown c.args.basis.now.levels bytes good _ _
    (λ begins. record {
      level = begins.level;
      is_open = begins.is_open;
      following = (let b = begins.following in omega (arith, b));
      within = (let b = begins.within in omega (arith, b, size, more, within));
    })
    c.in_err-done.field-0.0 (c.in_err-done.ensures.next bytes good (c.loop-taken.invariant.3 bytes good h lies) later))

pub returns-in_default-clause-next : goal.returns-in_default-clause-next
returns-in_default-clause-next g c bytes good h lies =
    let rest = take_rest c.args.piece.now c.loop-taken.taken in
    let later = subst (LiesAt bytes (c.args.from + c.loop-taken.taken)) (sym rest) (lies_later bytes c.args.piece.now c.args.from c.loop-taken.taken c.loop-taken.invariant.0 lies) in
    let (walk, end) = rw c.in_default.is at (c.in_ok-done.ensures.next bytes good (c.loop-taken.invariant.3 bytes good h lies) later) in
    let size = ap length rest in let more = length-drop c.loop-taken.taken c.args.piece.now in
    let count = c.in_ok-done.ensures.count.1 in let within = c.loop-taken.invariant.0 in let room = lies.1 in
    (walk, omega (arith, end, size, more, count, within, room))

pub loop-taken-preserved : goal.loop-taken-preserved
loop-taken-preserved g c =
    let d = g.B.Book.meaning c.args.basis.now.book.now in
    let rest = take_rest c.args.piece.now c.loop-taken.taken in
    let size = ap length rest in let more = length-drop c.loop-taken.taken c.args.piece.now in
    let count = c.in_ok-done.ensures.count.1 in let within = c.loop-taken.invariant.0 in
    let e : (c.args.from + c.loop-taken.taken) + c.in_ok-done.done.taken ≡ c.args.from + (c.loop-taken.taken + c.in_ok-done.done.taken) = omega arith in
    let part : (bytes : List ℕ) (good : HasGoodHeader d bytes)
    → IsInPart d c.args.basis.now.unknown c.args.basis.now.levels bytes good c.loop-taken.body.open_levels c.loop-taken.body.part (c.args.from + c.loop-taken.taken)
    → LiesAt bytes (c.args.from + c.loop-taken.taken) (drop c.loop-taken.taken c.args.piece.now)
    → IsInPart d c.args.basis.now.unknown c.args.basis.now.levels bytes good c.read_part.new.open_levels c.in-Some.part
    (c.args.from + (c.loop-taken.taken + c.in_ok-done.done.taken)) =
    λ bytes good it lies. subst (λ (n : ℕ). IsInPart d c.args.basis.now.unknown c.args.basis.now.levels bytes good c.read_part.new.open_levels c.in-Some.part n) e
    (rw c.in-Some.is at (c.in_ok-done.ensures.next bytes good it (subst (LiesAt bytes (c.args.from + c.loop-taken.taken)) (sym rest) lies))) in (
      omega (arith, count, size, more, within),
      c.loop-taken.invariant.1,
      ∥∥₁_map c.loop-taken.invariant.2 (λ x. let (bytes, few, (good, is, h), lies) = x in
          (bytes, few, (good, is, part bytes good h lies), lies_on bytes c.args.piece.now c.args.from c.loop-taken.taken c.in_ok-done.done.taken (omega (arith, count, size)) lies)),
      λ bytes good h lies. part bytes good (c.loop-taken.invariant.3 bytes good h lies) (lies_later bytes c.args.piece.now c.args.from c.loop-taken.taken c.loop-taken.invariant.0 lies),
    )

pub returns-clause-next : goal.returns-clause-next
returns-clause-next g c bytes good h lies =
    let within = c.loop-taken.invariant.0 in
    let e : c.args.from + c.loop-taken.taken ≡ c.args.from + length c.args.piece.now = omega (arith, within, c.loop-taken-test.false) in
    subst (λ (n : ℕ). IsInPart (g.B.Book.meaning c.args.basis.now.book.now) c.args.basis.now.unknown
    c.args.basis.now.levels bytes good c.loop-taken.body.open_levels c.loop-taken.body.part n) e (c.loop-taken.invariant.3 bytes good h lies)
