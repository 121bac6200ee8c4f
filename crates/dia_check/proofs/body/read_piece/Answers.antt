use Rattle.std.proofs.Common.{ℕ, ◌+◌, ◌-◌, ◌≤◌, List, Ok, length, take, drop, ap, arith}
use Rattle.std.proofs.Math.Logic.{∥∥₁_map}
use Rattle.std.proofs.lemmas.Result.{err_from_is_err_and}
use Rattle.dia_check.specs.Faults.{HasGoodHeader}
use Rattle.dia_check.specs.UnderWay.{IsUnderWay}
use Rattle.dia_check.specs.Reading.{BeginsLevel, LiesAt}
use Rattle.dia_check.proofs.DataInPieces.{stop_for}
use Rattle.dia_check.proofs.AvpsInPieces as avps
use Rattle.dia_check.proofs.body.read_piece.Goals as goal

pub read_avps-requires : goal.read_avps-requires
read_avps-requires g c =
    let d = g.B.Book.meaning c.args.basis.now.book.now in let u = c.args.basis.now.unknown in let m = c.args.basis.now.levels in let from = c.args.from in let piece = c.args.piece.now in
    let start = c.loop-at.start in let (le, reached, some, on) = c.loop-at.invariant in
    ∥∥₁_map some (λ x. let (bytes, good, small, w, lies) = x in (bytes, good, small, w, avps.lies_from bytes piece from start le reached lies))

pub returns-in_err-at-clause-next : goal.returns-in_err-at-clause-next
returns-in_err-at-clause-next g c bytes good old lies =
    let d = g.B.Book.meaning c.args.basis.now.book.now in let u = c.args.basis.now.unknown in let m = c.args.basis.now.levels in let from = c.args.from in let piece = c.args.piece.now in
    let start = c.loop-at.start in let (le, reached, some, on) = c.loop-at.invariant in
    let left = avps.size_from piece from start in
    let p = err_from_is_err_and c.from_residual.result c.from_residual.ensures.1 in
    rw (p.1, p.2) (stop_for d u m bytes good
    (BeginsLevel d m bytes start (start + length (take (length piece - (start - from)) (drop (start - from) piece)))) (BeginsLevel d m bytes from (from + length piece))
    (λ begins. record {
      level = begins.level;
      is_open = begins.is_open;
      following = (let b = begins.following in omega (arith, b, le));
      within = (let b = begins.within in omega (arith, b, left, le, reached));
    })
    _ (c.in_err-at.ensures.next bytes good (on bytes good old lies) (avps.lies_from bytes piece from start le reached lies)))

pub returns-in_default-clause-next : goal.returns-in_default-clause-next
returns-in_default-clause-next g c bytes good old lies =
    let d = g.B.Book.meaning c.args.basis.now.book.now in let u = c.args.basis.now.unknown in let m = c.args.basis.now.levels in let from = c.args.from in let piece = c.args.piece.now in
    let start = c.loop-at.start in let (le, reached, some, on) = c.loop-at.invariant in
    let left = avps.size_from piece from start in
    let (walk, end) = rw c.in_default.is at (c.in_ok-at.ensures.next bytes good (on bytes good old lies) (avps.lies_from bytes piece from start le reached lies)) in
    (walk, omega (arith, end, left, le, reached))

pub enter_at-requires : goal.enter_at-requires
enter_at-requires g c =
    let d = g.B.Book.meaning c.args.basis.now.book.now in let u = c.args.basis.now.unknown in let m = c.args.basis.now.levels in let from = c.args.from in let piece = c.args.piece.now in
    let start = c.loop-at.start in let (le, reached, some, on) = c.loop-at.invariant in
    let left = avps.size_from piece from start in
    let now : (bytes : List ℕ) (good : HasGoodHeader d bytes) → IsUnderWay d u m bytes good c.loop-at.open_levels start → LiesAt bytes from piece
    → IsUnderWay d u m bytes good c.read_avps.new.open_levels c.in-Some.at =
    λ bytes good w lies. rw c.in-Some.is at (c.in_ok-at.ensures.next bytes good w (avps.lies_from bytes piece from start le reached lies)) in
    let (following, within) = rw c.in-Some.is at c.in_ok-at.ensures.within in
    let to : c.in-Some.at ≤ from + length piece = omega (arith, within, left, le, reached) in
    let up : from ≤ c.in-Some.at = omega (arith, following, le) in
    ∥∥₁_map some (λ x. let (bytes, good, small, w, lies) = x in (bytes, good, small, now bytes good w lies, avps.lies_from bytes piece from c.in-Some.at up to lies))

pub returns-in_err-inner-clause-next : goal.returns-in_err-inner-clause-next
returns-in_err-inner-clause-next g c bytes good old lies =
    let d = g.B.Book.meaning c.args.basis.now.book.now in let u = c.args.basis.now.unknown in let m = c.args.basis.now.levels in let from = c.args.from in let piece = c.args.piece.now in
    let start = c.loop-at.start in let (le, reached, some, on) = c.loop-at.invariant in
    let left = avps.size_from piece from start in
    let now : (bytes : List ℕ) (good : HasGoodHeader d bytes) → IsUnderWay d u m bytes good c.loop-at.open_levels start → LiesAt bytes from piece
    → IsUnderWay d u m bytes good c.read_avps.new.open_levels c.in-Some.at =
    λ bytes good w lies. rw c.in-Some.is at (c.in_ok-at.ensures.next bytes good w (avps.lies_from bytes piece from start le reached lies)) in
    let (following, within) = rw c.in-Some.is at c.in_ok-at.ensures.within in
    let to : c.in-Some.at ≤ from + length piece = omega (arith, within, left, le, reached) in
    let up : from ≤ c.in-Some.at = omega (arith, following, le) in
    let p = err_from_is_err_and c.from_residual-in_err-inner.result c.from_residual-in_err-inner.ensures.1 in
    let at = c.in-Some.at in
    let ahead = avps.size_from piece from at in
    rw (p.1, p.2) (stop_for d u m bytes good
    (BeginsLevel d m bytes at (at + length (take (length piece - (at - from)) (drop (at - from) piece)))) (BeginsLevel d m bytes from (from + length piece))
    (λ begins. record {
      level = begins.level;
      is_open = begins.is_open;
      following = (let b = begins.following in omega (arith, b, up));
      within = (let b = begins.within in omega (arith, b, ahead, up, to));
    })
    _ (c.in_err-inner.ensures.next bytes good (now bytes good (on bytes good old lies) lies) (avps.lies_from bytes piece from at up to lies)))

pub returns-in_default-2-clause-within : goal.returns-in_default-2-clause-within
returns-in_default-2-clause-within g c =
    let d = g.B.Book.meaning c.args.basis.now.book.now in let u = c.args.basis.now.unknown in let m = c.args.basis.now.levels in let from = c.args.from in let piece = c.args.piece.now in
    let start = c.loop-at.start in let (le, reached, some, on) = c.loop-at.invariant in
    let left = avps.size_from piece from start in
    let (following, within) = rw c.in-Some.is at c.in_ok-at.ensures.within in
    (omega (arith, following, le), omega (arith, within, left, le, reached))

pub returns-in_default-2-clause-goes_on : goal.returns-in_default-2-clause-goes_on
returns-in_default-2-clause-goes_on g c =
    let d = g.B.Book.meaning c.args.basis.now.book.now in let u = c.args.basis.now.unknown in let m = c.args.basis.now.levels in let from = c.args.from in let piece = c.args.piece.now in
    let start = c.loop-at.start in let (le, reached, some, on) = c.loop-at.invariant in
    let left = avps.size_from piece from start in
    let more = rw c.in-Some.is at c.in_ok-at.ensures.goes_on in
    rw (c.in_ok-inner.ensures.kept (ap (λ o. Ok o) c.in_default-2.is)) (omega (arith, more, left, le, reached))

pub returns-in_default-2-clause-next : goal.returns-in_default-2-clause-next
returns-in_default-2-clause-next g c bytes good old lies =
    let d = g.B.Book.meaning c.args.basis.now.book.now in let u = c.args.basis.now.unknown in let m = c.args.basis.now.levels in let from = c.args.from in let piece = c.args.piece.now in
    let start = c.loop-at.start in let (le, reached, some, on) = c.loop-at.invariant in
    let left = avps.size_from piece from start in
    let now : (bytes : List ℕ) (good : HasGoodHeader d bytes) → IsUnderWay d u m bytes good c.loop-at.open_levels start → LiesAt bytes from piece
    → IsUnderWay d u m bytes good c.read_avps.new.open_levels c.in-Some.at =
    λ bytes good w lies. rw c.in-Some.is at (c.in_ok-at.ensures.next bytes good w (avps.lies_from bytes piece from start le reached lies)) in
    let (following, within) = rw c.in-Some.is at c.in_ok-at.ensures.within in
    let to : c.in-Some.at ≤ from + length piece = omega (arith, within, left, le, reached) in
    let up : from ≤ c.in-Some.at = omega (arith, following, le) in
    rw (c.in_ok-inner.ensures.kept (ap (λ o. Ok o) c.in_default-2.is)) (now bytes good (on bytes good old lies) lies)

pub loop-at-smaller : goal.loop-at-smaller
loop-at-smaller g c =
    let d = g.B.Book.meaning c.args.basis.now.book.now in let u = c.args.basis.now.unknown in let m = c.args.basis.now.levels in let from = c.args.from in let piece = c.args.piece.now in
    let start = c.loop-at.start in let (le, reached, some, on) = c.loop-at.invariant in
    let left = avps.size_from piece from start in
    let now : (bytes : List ℕ) (good : HasGoodHeader d bytes) → IsUnderWay d u m bytes good c.loop-at.open_levels start → LiesAt bytes from piece
    → IsUnderWay d u m bytes good c.read_avps.new.open_levels c.in-Some.at =
    λ bytes good w lies. rw c.in-Some.is at (c.in_ok-at.ensures.next bytes good w (avps.lies_from bytes piece from start le reached lies)) in
    let (following, within) = rw c.in-Some.is at c.in_ok-at.ensures.within in
    let to : c.in-Some.at ≤ from + length piece = omega (arith, within, left, le, reached) in
    let up : from ≤ c.in-Some.at = omega (arith, following, le) in
    let ahead = avps.size_from piece from c.in-Some.at in
    let (farther, last) = rw c.in-Some-2.is at c.in_ok-inner.ensures.within in
    omega (arith, farther, last, ahead, following, up, to)

pub loop-at-preserved : goal.loop-at-preserved
loop-at-preserved g c =
    let d = g.B.Book.meaning c.args.basis.now.book.now in let u = c.args.basis.now.unknown in let m = c.args.basis.now.levels in let from = c.args.from in let piece = c.args.piece.now in
    let start = c.loop-at.start in let (le, reached, some, on) = c.loop-at.invariant in
    let left = avps.size_from piece from start in
    let now : (bytes : List ℕ) (good : HasGoodHeader d bytes) → IsUnderWay d u m bytes good c.loop-at.open_levels start → LiesAt bytes from piece
    → IsUnderWay d u m bytes good c.read_avps.new.open_levels c.in-Some.at =
    λ bytes good w lies. rw c.in-Some.is at (c.in_ok-at.ensures.next bytes good w (avps.lies_from bytes piece from start le reached lies)) in
    let (following, within) = rw c.in-Some.is at c.in_ok-at.ensures.within in
    let to : c.in-Some.at ≤ from + length piece = omega (arith, within, left, le, reached) in
    let up : from ≤ c.in-Some.at = omega (arith, following, le) in
    let ahead = avps.size_from piece from c.in-Some.at in
    let (farther, last) = rw c.in-Some-2.is at c.in_ok-inner.ensures.within in
    let next : (bytes : List ℕ) (good : HasGoodHeader d bytes) → IsUnderWay d u m bytes good c.loop-at.open_levels start → LiesAt bytes from piece
    → IsUnderWay d u m bytes good c.enter_at.new.open_levels c.in-Some-2.inner =
    λ bytes good w lies. rw c.in-Some-2.is at (c.in_ok-inner.ensures.next bytes good (now bytes good w lies) (avps.lies_from bytes piece from c.in-Some.at up to lies)) in (
      omega (arith, farther, up),
      omega (arith, last, ahead, up, to),
      ∥∥₁_map some (λ x. let (bytes, good, small, w, lies) = x in (bytes, good, small, next bytes good w lies, lies)),
      λ bytes good old lies. next bytes good (on bytes good old lies) lies,
    )
