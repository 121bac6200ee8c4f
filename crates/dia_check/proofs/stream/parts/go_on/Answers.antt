use Rattle.std.proofs.Common.{ℕ, List, map, sym, ap, refl, arith}
use Rattle.std.proofs.Math.Logic.{∥∥₁_elim, ∥∥₁_map}
use Rattle.std.proofs.lemmas.Result.{err_from_is_err_and}
use Rattle.std.specs.Coded.{le_prop}
use Rattle.dia_book.specs.Dictionary.{definitions}
use Rattle.dia_check.specs.declared.open_levels.OpenLevel.{OpenLevel}
use Rattle.dia_terms.specs.declared.Unknown.{Unknown}
use Rattle.dia_terms.specs.declared.Levels.{Levels}
use Rattle.dia_check.specs.Faults.{HasGoodHeader}
use Rattle.dia_check.specs.UnderWay.{so_far, IsUnderWay}
use Rattle.dia_check.proofs.UnderWay.{done, all_done, found_missing}
use Rattle.dia_check.proofs.BodyContinuations.{at_within, end_few, are_open, all_read, all_reached, fewer}
use Rattle.dia_check.proofs.stream.parts.go_on.Goals as goal

pub begin_head-requires-clause-few : goal.begin_head-requires-clause-few
begin_head-requires-clause-few g c =
    let few = end_few (g.B.Book.meaning c.args.book.now) (g.met.B.Book.sound c.args.book.now) c.loop-open_levels.open_levels c.args.at c.loop-open_levels.invariant.0 in
    let same = ap (λ (k : OpenLevel). k.end) c.innermost-end.ensures in
    omega (arith, few, same, c.if-at-end.true)

pub returns-in_err-part : goal.returns-in_err-part
returns-in_err-part g c u most bytes good from =
    let p = err_from_is_err_and c.from_residual.result c.from_residual.ensures.1 in
    rw (p.1, p.2) (c.in_err-part.ensures (g.B.Book.meaning c.args.book.now) u most bytes good (g.met.B.Book.sound c.args.book.now) (c.loop-open_levels.invariant.1 u most bytes good from))

pub returns-then-at-end : goal.returns-then-at-end
returns-then-at-end g c u most bytes good from =
    c.in_ok-part.ensures (g.B.Book.meaning c.args.book.now) u most bytes good (g.met.B.Book.sound c.args.book.now) (c.loop-open_levels.invariant.1 u most bytes good from)

pub missing_at_end-requires : goal.missing_at_end-requires
missing_at_end-requires g c = are_open (g.B.Book.meaning c.args.book.now) (g.met.B.Book.sound c.args.book.now) c.loop-open_levels.open_levels c.args.at c.loop-open_levels.invariant.0

pub close-requires : goal.close-requires
close-requires g c = ∥∥₁_map (are_open (g.B.Book.meaning c.args.book.now) (g.met.B.Book.sound c.args.book.now) c.loop-open_levels.open_levels c.args.at c.loop-open_levels.invariant.0)
    (λ x. let (outer, level, now) = x in (definitions (g.B.Book.meaning c.args.book.now), outer, level, now))

pub fault-requires : goal.fault-requires
fault-requires g c =
    let few = end_few (g.B.Book.meaning c.args.book.now) (g.met.B.Book.sound c.args.book.now) c.loop-open_levels.open_levels c.args.at c.loop-open_levels.invariant.0 in
    let same = ap (λ (k : OpenLevel). k.end) c.innermost-end.ensures in
    omega (arith, few, same)

pub returns-in-Some : goal.returns-in-Some
returns-in-Some g c u most bytes good from =
    let d = g.B.Book.meaning c.args.book.now in
    let w = c.loop-open_levels.invariant.1 u most bytes good from in
    let within = at_within d (g.met.B.Book.sound c.args.book.now) c.loop-open_levels.open_levels c.args.at c.loop-open_levels.invariant.0 in
    let same = ap (λ (k : OpenLevel). k.end) c.innermost-end.ensures in
    let place = sym same in
    let none = all_read d (g.met.B.Book.sound c.args.book.now) u most bytes good c.loop-open_levels.open_levels c.args.at w (omega (arith, within, same, c.if-at-end.false)) in
    rw (c.fault.ensures, ← place) (found_missing d (g.met.B.Book.sound c.args.book.now) u most bytes good c.loop-open_levels.open_levels c.args.at w c.in-Some.wrong none
    (c.in-Some.ensures (map so_far w.rests) (so_far w.s) w.occurs))

pub returns-then-not-close : goal.returns-then-not-close
returns-then-not-close g c u most bytes good from =
    let d = g.B.Book.meaning c.args.book.now in
    let w = c.loop-open_levels.invariant.1 u most bytes good from in
    let within = at_within d (g.met.B.Book.sound c.args.book.now) c.loop-open_levels.open_levels c.args.at c.loop-open_levels.invariant.0 in
    let same = ap (λ (k : OpenLevel). k.end) c.innermost-end.ensures in
    let none = all_read d (g.met.B.Book.sound c.args.book.now) u most bytes good c.loop-open_levels.open_levels c.args.at w (omega (arith, within, same, c.if-at-end.false)) in
    let alone = c.if-not-close.ensures.last refl (definitions d) (map so_far w.rests) (so_far w.s) w.occurs in (
      all_done d (g.met.B.Book.sound c.args.book.now) u most bytes good c.loop-open_levels.open_levels c.args.at w none (c.in_default.ensures (map so_far w.rests) (so_far w.s) w.occurs) alone,
      all_reached d (g.met.B.Book.sound c.args.book.now) u most bytes good c.loop-open_levels.open_levels c.args.at w none alone,
    )

pub loop-open_levels-smaller : goal.loop-open_levels-smaller
loop-open_levels-smaller g c =
    let d = g.B.Book.meaning c.args.book.now in
    ∥∥₁_elim c.loop-open_levels.invariant.0 le_prop (λ x. let (u, most, bytes, good, few, w) = x in
    let (others, next, parts, now) = c.if-not-close.ensures.inner refl (definitions d) (map so_far w.rests) (so_far w.s) w.occurs in
    fewer d (g.met.B.Book.sound c.args.book.now) u most bytes good c.loop-open_levels.open_levels c.args.at w c.close.new.self others next parts now)

pub loop-open_levels-preserved : goal.loop-open_levels-preserved
loop-open_levels-preserved g c =
    let d = g.B.Book.meaning c.args.book.now in
    let within = at_within d (g.met.B.Book.sound c.args.book.now) c.loop-open_levels.open_levels c.args.at c.loop-open_levels.invariant.0 in
    let same = ap (λ (k : OpenLevel). k.end) c.innermost-end.ensures in
    let closed : (u : Unknown) (most : Levels) (bytes : List ℕ) (good : HasGoodHeader d bytes)
    → IsUnderWay d u most bytes good c.loop-open_levels.open_levels c.args.at → IsUnderWay d u most bytes good c.close.new.self c.args.at = λ u most bytes good w.
    let none = all_read d (g.met.B.Book.sound c.args.book.now) u most bytes good c.loop-open_levels.open_levels c.args.at w (omega (arith, within, same, c.if-at-end.false)) in
    let (others, next, parts, now) = c.if-not-close.ensures.inner refl (definitions d) (map so_far w.rests) (so_far w.s) w.occurs in
    done d (g.met.B.Book.sound c.args.book.now) u most bytes good c.loop-open_levels.open_levels c.args.at w c.close.new.self none
    (c.in_default.ensures (map so_far w.rests) (so_far w.s) w.occurs) others next parts now in (
      ∥∥₁_map c.loop-open_levels.invariant.0 (λ x. let (u, most, bytes, good, few, w) = x in (u, most, bytes, good, few, closed u most bytes good w)),
      λ u most bytes good from. closed u most bytes good (c.loop-open_levels.invariant.1 u most bytes good from),
    )
