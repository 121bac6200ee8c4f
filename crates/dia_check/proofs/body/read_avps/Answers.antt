use Rattle.std.proofs.Common.{ℕ, ◌+◌, ◌-◌, ◌<◌, ◌≤◌, List, length, map, refl, sym, ap, subst, arith}
use Rattle.std.proofs.Math.Logic.{∥∥₁_elim, ∥∥₁_map}
use Rattle.std.proofs.lemmas.Result.{err_from_is_err_and}
use Rattle.std.specs.Coded.{le_prop}
use Rattle.std.specs.Prelude.{◌^◌}
use Rattle.dia_wire.specs.Wire.{plain_avp, key_of, BeginsWithNone}
use Rattle.dia_book.specs.Dictionary.{definitions}
use Rattle.dia_check.specs.declared.open_levels.OpenLevel.{OpenLevel}
use Rattle.dia_check.specs.Basis.{plain_basis}
use Rattle.dia_check.specs.OpenLevels.{and_key}
use Rattle.dia_check.specs.Faults.{HasGoodHeader}
use Rattle.dia_check.specs.UnderWay.{so_far, IsUnderWay}
use Rattle.dia_check.specs.Reading.{LiesAt}
use Rattle.dia_check.proofs.UnderWay.{few, passed, entered, done, all_done, found_wrong, found_missing, found_broken, number_within}
use Rattle.dia_check.proofs.BodyContinuations.{at_within, end_few, are_open, all_reached}
use Rattle.dia_check.proofs.AvpsInPieces as avps
use Rattle.dia_check.proofs.body.read_avps.Goals as goal

pub overflow_add-stop : goal.overflow_add-stop
overflow_add-stop g c =
    let small : c.args.from + length c.args.piece.now < 2 ^ 32 = ∥∥₁_elim c.requires le_prop (λ x. let (bytes, good, few, w, lies) = x in let r = lies.1 in omega (arith, few, r)) in
    omega (arith, small)

pub overflow_sub-until : goal.overflow_sub-until
overflow_sub-until g c =
    let d = g.B.Book.meaning c.args.basis.now.book.now in let u = c.args.basis.now.unknown in let m = c.args.basis.now.levels in let o = c.loop-avp.open_levels in
    let at = c.loop-avp.at in let from = c.args.from in let piece = c.args.piece.now in let kept = c.innermost-end.result in let until = c.min-until.result in
    let same = c.innermost-end.ensures in let is = c.min-until.ensures in let (le, reached, some, on) = c.loop-avp.invariant in
    let in_level = at_within d (g.met.B.Book.sound c.args.basis.now.book.now) o at (avps.sound_levels (plain_basis g.B.Book.meaning c.args.basis.now) o from at piece some) in let end = ap (λ (k : OpenLevel). k.end) same in
    let (low, high, last) = avps.up_to at kept.end (from + length piece) until (omega (arith, in_level, end)) reached is in
    omega (arith, le, low)

pub slice_bounds-next_avp-count : goal.slice_bounds-next_avp-count
slice_bounds-next_avp-count g c =
    let d = g.B.Book.meaning c.args.basis.now.book.now in let u = c.args.basis.now.unknown in let m = c.args.basis.now.levels in let o = c.loop-avp.open_levels in
    let at = c.loop-avp.at in let from = c.args.from in let piece = c.args.piece.now in let kept = c.innermost-end.result in let until = c.min-until.result in
    let same = c.innermost-end.ensures in let is = c.min-until.ensures in let (le, reached, some, on) = c.loop-avp.invariant in
    let in_level = at_within d (g.met.B.Book.sound c.args.basis.now.book.now) o at (avps.sound_levels (plain_basis g.B.Book.meaning c.args.basis.now) o from at piece some) in let end = ap (λ (k : OpenLevel). k.end) same in
    let (low, high, last) = avps.up_to at kept.end (from + length piece) until (omega (arith, in_level, end)) reached is in
    omega (arith, le, low)

pub slice_bounds-next_avp-start : goal.slice_bounds-next_avp-start
slice_bounds-next_avp-start g c =
    let d = g.B.Book.meaning c.args.basis.now.book.now in let u = c.args.basis.now.unknown in let m = c.args.basis.now.levels in let o = c.loop-avp.open_levels in
    let at = c.loop-avp.at in let from = c.args.from in let piece = c.args.piece.now in let kept = c.innermost-end.result in let until = c.min-until.result in
    let same = c.innermost-end.ensures in let is = c.min-until.ensures in let (le, reached, some, on) = c.loop-avp.invariant in
    let in_level = at_within d (g.met.B.Book.sound c.args.basis.now.book.now) o at (avps.sound_levels (plain_basis g.B.Book.meaning c.args.basis.now) o from at piece some) in let end = ap (λ (k : OpenLevel). k.end) same in
    let (low, high, last) = avps.up_to at kept.end (from + length piece) until (omega (arith, in_level, end)) reached is in
    omega (arith, le, low, last)

pub check_avp-requires : goal.check_avp-requires
check_avp-requires g c =
    let d = g.B.Book.meaning c.args.basis.now.book.now in let u = c.args.basis.now.unknown in let m = c.args.basis.now.levels in let o = c.loop-avp.open_levels in
    let at = c.loop-avp.at in let from = c.args.from in let piece = c.args.piece.now in let kept = c.innermost-end.result in let until = c.min-until.result in
    let same = c.innermost-end.ensures in let is = c.min-until.ensures in let (le, reached, some, on) = c.loop-avp.invariant in
    ∥∥₁_map some (λ x. let (bytes, good, small, w, lies) = x in
    let room = few d (g.met.B.Book.sound c.args.basis.now.book.now) u m bytes good o at w in (map so_far w.rests, so_far w.s, w.occurs, omega (arith, room, small)))

pub open_group-requires-clause-def : goal.open_group-requires-clause-def
open_group-requires-clause-def g c =
    let d = g.B.Book.meaning c.args.basis.now.book.now in let u = c.args.basis.now.unknown in let m = c.args.basis.now.levels in let o = c.loop-avp.open_levels in
    let at = c.loop-avp.at in let from = c.args.from in let piece = c.args.piece.now in let kept = c.innermost-end.result in let until = c.min-until.result in
    let same = c.innermost-end.ensures in let is = c.min-until.ensures in let (le, reached, some, on) = c.loop-avp.invariant in
    ∥∥₁_elim some le_prop (λ x. let (bytes, good, small, w, lies) = x in
    let says = c.in-Ok-Some-check_avp.ensures (map so_far w.rests) (so_far w.s) w.occurs in
    number_within d (g.met.B.Book.sound c.args.basis.now.book.now) u m bytes good o at w (plain_avp c.in-Ok-Some.avp) c.in-Ok-Some-check_avp.group (rw c.in-Ok-Some-check_avp.field-0-is at says.0))

pub open_group-requires-clause-open : goal.open_group-requires-clause-open
open_group-requires-clause-open g c =
    let d = g.B.Book.meaning c.args.basis.now.book.now in let u = c.args.basis.now.unknown in let m = c.args.basis.now.levels in let o = c.loop-avp.open_levels in
    let at = c.loop-avp.at in let from = c.args.from in let piece = c.args.piece.now in let kept = c.innermost-end.result in let until = c.min-until.result in
    let same = c.innermost-end.ensures in let is = c.min-until.ensures in let (le, reached, some, on) = c.loop-avp.invariant in
    ∥∥₁_map some (λ x. let (bytes, good, small, w, lies) = x in
    let says = c.in-Ok-Some-check_avp.ensures (map so_far w.rests) (so_far w.s) w.occurs in
    (map so_far w.rests, and_key (so_far w.s) (key_of (plain_avp c.in-Ok-Some.avp)), says.1))

pub returns-in_err-open_group-in-Ok-Some-check_avp-clause-next : goal.returns-in_err-open_group-in-Ok-Some-check_avp-clause-next
returns-in_err-open_group-in-Ok-Some-check_avp-clause-next g c bytes good old lies =
    let d = g.B.Book.meaning c.args.basis.now.book.now in let u = c.args.basis.now.unknown in let m = c.args.basis.now.levels in let o = c.loop-avp.open_levels in
    let at = c.loop-avp.at in let from = c.args.from in let piece = c.args.piece.now in let kept = c.innermost-end.result in let until = c.min-until.result in
    let same = c.innermost-end.ensures in let is = c.min-until.ensures in let (le, reached, some, on) = c.loop-avp.invariant in
    let w = on bytes good old lies in
    let says = c.in-Ok-Some-check_avp.ensures (map so_far w.rests) (so_far w.s) w.occurs in
    let p = err_from_is_err_and c.from_residual.result c.from_residual.ensures.1 in
    rw (p.1, p.2) (avps.group_begins d (g.met.B.Book.sound c.args.basis.now.book.now) u m bytes good o at w kept same from piece lies until is le reached
    (plain_avp c.in-Ok-Some.avp) c.in-Ok-Some.rest.now c.in-Ok-Some-check_avp.group
    (rw c.in-Ok-Some.field-0-is at c.in-Ok-Some.ensures.avp) (rw c.in-Ok-Some-check_avp.field-0-is at says.0))

pub loop-avp-smaller-in-Ok-Some-check_avp : goal.loop-avp-smaller-in-Ok-Some-check_avp
loop-avp-smaller-in-Ok-Some-check_avp g c =
    let d = g.B.Book.meaning c.args.basis.now.book.now in let u = c.args.basis.now.unknown in let m = c.args.basis.now.levels in let o = c.loop-avp.open_levels in
    let at = c.loop-avp.at in let from = c.args.from in let piece = c.args.piece.now in let kept = c.innermost-end.result in let until = c.min-until.result in
    let same = c.innermost-end.ensures in let is = c.min-until.ensures in let (le, reached, some, on) = c.loop-avp.invariant in
    let v = plain_avp c.in-Ok-Some.avp in let to = at + (c.length-length.result - length c.in-Ok-Some.avp.bytes.now) in let e = c.length-length.ensures in
    ∥∥₁_elim some le_prop (λ x. let (bytes, good, small, w, lies) = x in
    let says = c.in-Ok-Some-check_avp.ensures (map so_far w.rests) (so_far w.s) w.occurs in
    avps.less_entered d (g.met.B.Book.sound c.args.basis.now.book.now) u m bytes good o at w kept same from piece lies until is le reached v c.in-Ok-Some.rest.now c.in-Ok-Some-check_avp.group
    c.open_group.new.open_levels
    (at + c.length-length.result) to (rw c.in-Ok-Some.field-0-is at c.in-Ok-Some.ensures.avp) (rw c.in-Ok-Some-check_avp.field-0-is at says.0)
    (λ definition number. c.in_ok-open_group-in-Ok-Some-check_avp.ensures definition (map so_far w.rests) (and_key (so_far w.s) (key_of v)) number says.1) (omega (arith, e)))

pub loop-avp-preserved-in-Ok-Some-check_avp : goal.loop-avp-preserved-in-Ok-Some-check_avp
loop-avp-preserved-in-Ok-Some-check_avp g c =
    let d = g.B.Book.meaning c.args.basis.now.book.now in let u = c.args.basis.now.unknown in let m = c.args.basis.now.levels in let o = c.loop-avp.open_levels in
    let at = c.loop-avp.at in let from = c.args.from in let piece = c.args.piece.now in let kept = c.innermost-end.result in let until = c.min-until.result in
    let same = c.innermost-end.ensures in let is = c.min-until.ensures in let (le, reached, some, on) = c.loop-avp.invariant in
    let v = plain_avp c.in-Ok-Some.avp in let to = at + (c.length-length.result - length c.in-Ok-Some.avp.bytes.now) in let e = c.length-length.ensures in
    let next : (bytes : List ℕ) (good : HasGoodHeader d bytes) (w : IsUnderWay d u m bytes good o at) → LiesAt bytes from piece
    → IsUnderWay d u m bytes good c.open_group.new.open_levels to × (to ≤ from + length piece) = λ bytes good w lies.
    let says = c.in-Ok-Some-check_avp.ensures (map so_far w.rests) (so_far w.s) w.occurs in
    let begins = (rw c.in-Ok-Some.field-0-is at c.in-Ok-Some.ensures.avp) in
    let (place, whole, eight) =
    avps.whole_here d (g.met.B.Book.sound c.args.basis.now.book.now) u m bytes good o at w kept same from piece lies until is le reached v c.in-Ok-Some.rest.now
    begins in let last = avps.until_last d (g.met.B.Book.sound c.args.basis.now.book.now) u m bytes good o at w kept same from piece lies until is le reached in (
      entered d (g.met.B.Book.sound c.args.basis.now.book.now) u m bytes good o at w v _ c.in-Ok-Some-check_avp.group c.open_group.new.open_levels (at + c.length-length.result) to
          (avps.begins d (g.met.B.Book.sound c.args.basis.now.book.now) u m bytes good o at w kept same from piece lies until is le reached v c.in-Ok-Some.rest.now begins)
          (rw c.in-Ok-Some-check_avp.field-0-is at says.0)
          (λ definition number. c.in_ok-open_group-in-Ok-Some-check_avp.ensures definition (map so_far w.rests)
          (and_key (so_far w.s) (key_of v)) number says.1) (ap (λ (n : ℕ). at + n) e) (omega (arith, e)),
      omega (arith, e, whole, last),
    ) in (
      omega (arith, le),
      ∥∥₁_elim some le_prop (λ x. let (bytes, good, small, w, lies) = x in (next bytes good w lies).1),
      ∥∥₁_map some (λ x. let (bytes, good, small, w, lies) = x in (bytes, good, small, (next bytes good w lies).0, lies)),
      λ bytes good old lies. (next bytes good (on bytes good old lies) lies).0,
    )

pub loop-avp-smaller-in-Ok-None-check_avp : goal.loop-avp-smaller-in-Ok-None-check_avp
loop-avp-smaller-in-Ok-None-check_avp g c =
    let d = g.B.Book.meaning c.args.basis.now.book.now in let u = c.args.basis.now.unknown in let m = c.args.basis.now.levels in let o = c.loop-avp.open_levels in
    let at = c.loop-avp.at in let from = c.args.from in let piece = c.args.piece.now in let kept = c.innermost-end.result in let until = c.min-until.result in
    let same = c.innermost-end.ensures in let is = c.min-until.ensures in let (le, reached, some, on) = c.loop-avp.invariant in
    let v = plain_avp c.in-Ok-Some.avp in
    ∥∥₁_elim some le_prop (λ x. let (bytes, good, small, w, lies) = x in
    let says = c.in-Ok-None-check_avp.ensures (map so_far w.rests) (so_far w.s) w.occurs in
    avps.less_passed d (g.met.B.Book.sound c.args.basis.now.book.now) u m bytes good o at w kept same from piece lies until is le reached v c.in-Ok-Some.rest.now
    c.check_avp.new.open_levels (and_key (so_far w.s) (key_of v)) (rw c.in-Ok-Some.field-0-is at c.in-Ok-Some.ensures.avp) says.1)

pub loop-avp-preserved-in-Ok-None-check_avp : goal.loop-avp-preserved-in-Ok-None-check_avp
loop-avp-preserved-in-Ok-None-check_avp g c =
    let d = g.B.Book.meaning c.args.basis.now.book.now in let u = c.args.basis.now.unknown in let m = c.args.basis.now.levels in let o = c.loop-avp.open_levels in
    let at = c.loop-avp.at in let from = c.args.from in let piece = c.args.piece.now in let kept = c.innermost-end.result in let until = c.min-until.result in
    let same = c.innermost-end.ensures in let is = c.min-until.ensures in let (le, reached, some, on) = c.loop-avp.invariant in
    let v = plain_avp c.in-Ok-Some.avp in let to = until - length c.in-Ok-Some.rest.now in
    let next : (bytes : List ℕ) (good : HasGoodHeader d bytes) (w : IsUnderWay d u m bytes good o at) → LiesAt bytes from piece
    → IsUnderWay d u m bytes good c.check_avp.new.open_levels to × (from ≤ to) × (to ≤ from + length piece) = λ bytes good w lies.
    let says = c.in-Ok-None-check_avp.ensures (map so_far w.rests) (so_far w.s) w.occurs in
    let begins = (rw c.in-Ok-Some.field-0-is at c.in-Ok-Some.ensures.avp) in
    let (place, whole, eight) =
    avps.whole_here d (g.met.B.Book.sound c.args.basis.now.book.now) u m bytes good o at w kept same from piece lies until is le reached v c.in-Ok-Some.rest.now
    begins in let last = avps.until_last d (g.met.B.Book.sound c.args.basis.now.book.now) u m bytes good o at w kept same from piece lies until is le reached in (
      passed d (g.met.B.Book.sound c.args.basis.now.book.now) u m bytes good o at w v _ c.check_avp.new.open_levels to
          (avps.begins d (g.met.B.Book.sound c.args.basis.now.book.now) u m bytes good o at w kept same from piece lies until is le reached v c.in-Ok-Some.rest.now begins)
          (rw c.in-Ok-None-check_avp.field-0-is at says.0) says.1 place,
      omega (arith, place, le),
      omega (arith, last),
    ) in (
      ∥∥₁_elim some le_prop (λ x. let (bytes, good, small, w, lies) = x in (next bytes good w lies).1),
      ∥∥₁_elim some le_prop (λ x. let (bytes, good, small, w, lies) = x in (next bytes good w lies).2),
      ∥∥₁_map some (λ x. let (bytes, good, small, w, lies) = x in (bytes, good, small, (next bytes good w lies).0, lies)),
      λ bytes good old lies. (next bytes good (on bytes good old lies) lies).0,
    )

pub fault-requires : goal.fault-requires
fault-requires g c =
    let d = g.B.Book.meaning c.args.basis.now.book.now in let u = c.args.basis.now.unknown in let m = c.args.basis.now.levels in let o = c.loop-avp.open_levels in
    let at = c.loop-avp.at in let from = c.args.from in let piece = c.args.piece.now in let kept = c.innermost-end.result in let until = c.min-until.result in
    let same = c.innermost-end.ensures in let is = c.min-until.ensures in let (le, reached, some, on) = c.loop-avp.invariant in
    let small : from + length piece < 2 ^ 32 = ∥∥₁_elim c.requires le_prop (λ x. let (bytes, good, few, w, lies) = x in let r = lies.1 in omega (arith, few, r)) in
    omega (arith, small, reached)

pub returns-in-Err-clause-next : goal.returns-in-Err-clause-next
returns-in-Err-clause-next g c bytes good old lies =
    let d = g.B.Book.meaning c.args.basis.now.book.now in let u = c.args.basis.now.unknown in let m = c.args.basis.now.levels in let o = c.loop-avp.open_levels in
    let at = c.loop-avp.at in let from = c.args.from in let piece = c.args.piece.now in let kept = c.innermost-end.result in let until = c.min-until.result in
    let same = c.innermost-end.ensures in let is = c.min-until.ensures in let (le, reached, some, on) = c.loop-avp.invariant in
    let w = on bytes good old lies in let v = plain_avp c.in-Ok-Some.avp in
    rw c.fault.ensures (found_wrong d (g.met.B.Book.sound c.args.basis.now.book.now) u m bytes good o at w v _ c.in-Err.wrong (avps.begins d (g.met.B.Book.sound c.args.basis.now.book.now) u m bytes
    good o at w kept same from piece lies until is le reached v c.in-Ok-Some.rest.now (rw c.in-Ok-Some.field-0-is at c.in-Ok-Some.ensures.avp))
    (c.in-Err.ensures (map so_far w.rests) (so_far w.s) w.occurs))

pub missing_at_end-requires : goal.missing_at_end-requires
missing_at_end-requires g c =
    let d = g.B.Book.meaning c.args.basis.now.book.now in let u = c.args.basis.now.unknown in let m = c.args.basis.now.levels in let o = c.loop-avp.open_levels in
    let at = c.loop-avp.at in let from = c.args.from in let piece = c.args.piece.now in let kept = c.innermost-end.result in let until = c.min-until.result in
    let same = c.innermost-end.ensures in let is = c.min-until.ensures in let (le, reached, some, on) = c.loop-avp.invariant in
    are_open d (g.met.B.Book.sound c.args.basis.now.book.now) o at (avps.sound_levels (plain_basis g.B.Book.meaning c.args.basis.now) o from at piece some)

pub close-requires : goal.close-requires
close-requires g c =
    let d = g.B.Book.meaning c.args.basis.now.book.now in let u = c.args.basis.now.unknown in let m = c.args.basis.now.levels in let o = c.loop-avp.open_levels in
    let at = c.loop-avp.at in let from = c.args.from in let piece = c.args.piece.now in let kept = c.innermost-end.result in let until = c.min-until.result in
    let same = c.innermost-end.ensures in let is = c.min-until.ensures in let (le, reached, some, on) = c.loop-avp.invariant in
    ∥∥₁_map (are_open d (g.met.B.Book.sound c.args.basis.now.book.now) o at (avps.sound_levels (plain_basis g.B.Book.meaning c.args.basis.now) o from at piece some)) (λ x. let (outer, level, now) = x in (definitions d, outer, level, now))

pub fault-requires-in-Some : goal.fault-requires-in-Some
fault-requires-in-Some g c =
    let d = g.B.Book.meaning c.args.basis.now.book.now in let u = c.args.basis.now.unknown in let m = c.args.basis.now.levels in let o = c.loop-avp.open_levels in
    let at = c.loop-avp.at in let from = c.args.from in let piece = c.args.piece.now in let kept = c.innermost-end.result in let until = c.min-until.result in
    let same = c.innermost-end.ensures in let is = c.min-until.ensures in let (le, reached, some, on) = c.loop-avp.invariant in
    let few = end_few d (g.met.B.Book.sound c.args.basis.now.book.now) o at (avps.sound_levels (plain_basis g.B.Book.meaning c.args.basis.now) o from at piece some) in let end = ap (λ (k : OpenLevel). k.end) same in
    omega (arith, few, end)

pub returns-in-Some-clause-next : goal.returns-in-Some-clause-next
returns-in-Some-clause-next g c bytes good old lies =
    let d = g.B.Book.meaning c.args.basis.now.book.now in let u = c.args.basis.now.unknown in let m = c.args.basis.now.levels in let o = c.loop-avp.open_levels in
    let at = c.loop-avp.at in let from = c.args.from in let piece = c.args.piece.now in let kept = c.innermost-end.result in let until = c.min-until.result in
    let same = c.innermost-end.ensures in let is = c.min-until.ensures in let (le, reached, some, on) = c.loop-avp.invariant in
    let w = on bytes good old lies in
    let none = avps.nothing_left d (g.met.B.Book.sound c.args.basis.now.book.now) u m bytes good o at w kept same from piece lies until is le reached
    (omega (arith, c.if-stop-end.false)) (c.in-Ok-None.ensures.end.0 (rw c.in-Ok-None.field-0-is refl)) in
    let place = ap (λ (k : OpenLevel). k.end) (sym same) in
    rw (c.fault-in-Some.ensures, ← place) (found_missing d (g.met.B.Book.sound c.args.basis.now.book.now) u m bytes good o at w c.in-Some.wrong none
    (c.in-Some.ensures (map so_far w.rests) (so_far w.s) w.occurs))

pub returns-then-not-close-clause-next : goal.returns-then-not-close-clause-next
returns-then-not-close-clause-next g c bytes good old lies =
    let d = g.B.Book.meaning c.args.basis.now.book.now in let u = c.args.basis.now.unknown in let m = c.args.basis.now.levels in let o = c.loop-avp.open_levels in
    let at = c.loop-avp.at in let from = c.args.from in let piece = c.args.piece.now in let kept = c.innermost-end.result in let until = c.min-until.result in
    let same = c.innermost-end.ensures in let is = c.min-until.ensures in let (le, reached, some, on) = c.loop-avp.invariant in
    let w = on bytes good old lies in
    let none = avps.nothing_left d (g.met.B.Book.sound c.args.basis.now.book.now) u m bytes good o at w kept same from piece lies until is le reached
    (omega (arith, c.if-stop-end.false)) (c.in-Ok-None.ensures.end.0 (rw c.in-Ok-None.field-0-is refl)) in
    let alone = c.if-not-close.ensures.last refl (definitions d) (map so_far w.rests) (so_far w.s) w.occurs in
    let end = all_reached d (g.met.B.Book.sound c.args.basis.now.book.now) u m bytes good o at w none alone in let room = lies.1 in (
      all_done d (g.met.B.Book.sound c.args.basis.now.book.now) u m bytes good o at w none (c.in_default.ensures (map so_far w.rests) (so_far w.s) w.occurs) alone,
      omega (arith, end, reached, room),
    )

pub loop-avp-smaller : goal.loop-avp-smaller
loop-avp-smaller g c =
    let d = g.B.Book.meaning c.args.basis.now.book.now in let u = c.args.basis.now.unknown in let m = c.args.basis.now.levels in let o = c.loop-avp.open_levels in
    let at = c.loop-avp.at in let from = c.args.from in let piece = c.args.piece.now in let kept = c.innermost-end.result in let until = c.min-until.result in
    let same = c.innermost-end.ensures in let is = c.min-until.ensures in let (le, reached, some, on) = c.loop-avp.invariant in
    ∥∥₁_elim some le_prop (λ x. let (bytes, good, small, w, lies) = x in
    let (others, next, parts, now) = c.if-not-close.ensures.inner refl (definitions d) (map so_far w.rests) (so_far w.s) w.occurs in
    avps.less_done d (g.met.B.Book.sound c.args.basis.now.book.now) u m bytes good o at w kept same from piece lies until is le reached c.close.new.self others next parts now)

pub loop-avp-preserved : goal.loop-avp-preserved
loop-avp-preserved g c =
    let d = g.B.Book.meaning c.args.basis.now.book.now in let u = c.args.basis.now.unknown in let m = c.args.basis.now.levels in let o = c.loop-avp.open_levels in
    let at = c.loop-avp.at in let from = c.args.from in let piece = c.args.piece.now in let kept = c.innermost-end.result in let until = c.min-until.result in
    let same = c.innermost-end.ensures in let is = c.min-until.ensures in let (le, reached, some, on) = c.loop-avp.invariant in
    let closed : (bytes : List ℕ) (good : HasGoodHeader d bytes) → IsUnderWay d u m bytes good o at → LiesAt bytes from piece
    → IsUnderWay d u m bytes good c.close.new.self at = λ bytes good w lies.
    let none = avps.nothing_left d (g.met.B.Book.sound c.args.basis.now.book.now) u m bytes good o at w kept same from piece lies until is le reached
    (omega (arith, c.if-stop-end.false)) (c.in-Ok-None.ensures.end.0 (rw c.in-Ok-None.field-0-is refl)) in
    let (others, next, parts, now) = c.if-not-close.ensures.inner refl (definitions d) (map so_far w.rests) (so_far w.s) w.occurs in
    done d (g.met.B.Book.sound c.args.basis.now.book.now) u m bytes good o at w c.close.new.self none (c.in_default.ensures (map so_far w.rests) (so_far w.s) w.occurs) others next parts now in (
      le,
      reached,
      ∥∥₁_map some (λ x. let (bytes, good, small, w, lies) = x in (bytes, good, small, closed bytes good w lies, lies)),
      λ bytes good old lies. closed bytes good (on bytes good old lies) lies,
    )

pub broken-requires : goal.broken-requires
broken-requires g c =
    let d = g.B.Book.meaning c.args.basis.now.book.now in let u = c.args.basis.now.unknown in let m = c.args.basis.now.levels in let o = c.loop-avp.open_levels in
    let at = c.loop-avp.at in let from = c.args.from in let piece = c.args.piece.now in let kept = c.innermost-end.result in let until = c.min-until.result in
    let same = c.innermost-end.ensures in let is = c.min-until.ensures in let (le, reached, some, on) = c.loop-avp.invariant in
    let small : from + length piece < 2 ^ 32 = ∥∥₁_elim c.requires le_prop (λ x. let (bytes, good, few, w, lies) = x in let r = lies.1 in omega (arith, few, r)) in
    omega (arith, small, reached)

pub returns-in-Err-Length-clause-next : goal.returns-in-Err-Length-clause-next
returns-in-Err-Length-clause-next g c bytes good old lies =
    let d = g.B.Book.meaning c.args.basis.now.book.now in let u = c.args.basis.now.unknown in let m = c.args.basis.now.levels in let o = c.loop-avp.open_levels in
    let at = c.loop-avp.at in let from = c.args.from in let piece = c.args.piece.now in let kept = c.innermost-end.result in let until = c.min-until.result in
    let same = c.innermost-end.ensures in let is = c.min-until.ensures in let (le, reached, some, on) = c.loop-avp.invariant in
    let w = on bytes good old lies in
    let here = avps.all_here d (g.met.B.Book.sound c.args.basis.now.book.now) u m bytes good o at w kept same from piece lies until is le reached (omega (arith, c.if-stop-end-2.false)) in
    rw c.broken.ensures (found_broken d (g.met.B.Book.sound c.args.basis.now.book.now) u m bytes good o at w (subst (λ (t : List ℕ). 0 < length t) here c.in-Err-Length.ensures.fault.0)
    (subst BeginsWithNone here c.in-Err-Length.ensures.fault.1))

pub loop-avp-init : goal.loop-avp-init
loop-avp-init g c = (omega arith, omega arith, c.requires, λ bytes good w lies. w)

pub returns-then-stop-end-clause-within : goal.returns-then-stop-end-clause-within
returns-then-stop-end-clause-within g c = let (le, reached, some, on) = c.loop-avp.invariant in (le, reached)

pub returns-then-stop-end-clause-goes_on : goal.returns-then-stop-end-clause-goes_on
returns-then-stop-end-clause-goes_on g c = let end = ap (λ (k : OpenLevel). k.end) c.innermost-end.ensures in omega (arith, c.if-stop-end.true, end)

pub returns-then-stop-end-clause-next : goal.returns-then-stop-end-clause-next
returns-then-stop-end-clause-next g c bytes good old lies = let (le, reached, some, on) = c.loop-avp.invariant in on bytes good old lies

pub returns-then-stop-end-2-clause-within : goal.returns-then-stop-end-2-clause-within
returns-then-stop-end-2-clause-within g c = let (le, reached, some, on) = c.loop-avp.invariant in (le, reached)

pub returns-then-stop-end-2-clause-goes_on : goal.returns-then-stop-end-2-clause-goes_on
returns-then-stop-end-2-clause-goes_on g c = let end = ap (λ (k : OpenLevel). k.end) c.innermost-end.ensures in omega (arith, c.if-stop-end-2.true, end)

pub returns-then-stop-end-2-clause-next : goal.returns-then-stop-end-2-clause-next
returns-then-stop-end-2-clause-next g c bytes good old lies = let (le, reached, some, on) = c.loop-avp.invariant in on bytes good old lies
