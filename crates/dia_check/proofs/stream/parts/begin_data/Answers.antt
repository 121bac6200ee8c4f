use Rattle.std.proofs.Common.{◌+◌, ◌<◌, map, ap, refl, ◌∙◌, arith}
use Rattle.std.proofs.Math.Logic.{∥∥₁_elim, ∥∥₁_map}
use Rattle.std.proofs.lemmas.Result.{err_from_is_err_and}
use Rattle.std.specs.Coded.{le_prop}
use Rattle.std.specs.Prelude.{◌^◌, Ok}
use Rattle.dia_check.specs.UnderWay.{so_far}
use Rattle.dia_check.proofs.UnderWay.{few}
use Rattle.dia_check.proofs.DataInPieces.{same_key, head_in, avp_within, head_few, not_admitted, data_begun, next_is_here}
use Rattle.dia_check.proofs.stream.parts.begin_data.Goals as goal

pub returns-in_err-start : goal.returns-in_err-start
returns-in_err-start g c bytes good h =
    let p = err_from_is_err_and c.from_residual.result c.from_residual.ensures.1 in
    rw (p.1, p.2) (c.in_err-start.ensures.next bytes good h)

pub go_on-requires : goal.go_on-requires
go_on-requires g c =
    ∥∥₁_map c.requires (λ x. let (bytes, good, small, h) = x in
    (c.args.basis.now.unknown, c.args.basis.now.levels, bytes, good, small, rw c.in-Some.is at (c.in_ok-start.ensures.next bytes good h)))

pub returns-in-Some : goal.returns-in-Some
returns-in-Some g c bytes good h =
    let d = g.B.Book.meaning c.args.basis.now.book.now in
    next_is_here d c.args.basis.now.unknown c.args.basis.now.levels bytes good _ _ c.go_on.result _ _ (λ x. absurd x) (rw c.in-Some.is at c.in_ok-start.ensures.start)
    (c.go_on.ensures c.args.basis.now.unknown c.args.basis.now.levels bytes good (rw c.in-Some.is at (c.in_ok-start.ensures.next bytes good h)))

pub admit-requires-clause-open_levels : goal.admit-requires-clause-open_levels
admit-requires-clause-open_levels g c =
    let kept = c.in_ok-start.ensures.kept (ap (λ o. Ok o) c.in_default.is) in
    ∥∥₁_map c.requires (λ x. let (bytes, good, small, h) = x in
    let room = few (g.B.Book.meaning c.args.basis.now.book.now) (g.met.B.Book.sound c.args.basis.now.book.now) c.args.basis.now.unknown c.args.basis.now.levels bytes good c.args.open_levels.now c.args.at h.under_way in
    (map so_far h.under_way.rests, so_far h.under_way.s, rw kept h.under_way.occurs, omega (arith, room, small)))

pub fault-requires : goal.fault-requires
fault-requires g c =
    let small : c.args.at + c.args.head.now.length < 2 ^ 32 = ∥∥₁_elim c.requires le_prop (λ x. let (bytes, good, small, h) = x in
    let p = avp_within (g.B.Book.meaning c.args.basis.now.book.now) (g.met.B.Book.sound c.args.basis.now.book.now) c.args.basis.now.unknown c.args.basis.now.levels bytes good c.args.open_levels.now c.args.at c.args.head.now h in
    omega (arith, p, small)) in
    omega (arith, small)

pub returns-in-Some-admit : goal.returns-in-Some-admit
returns-in-Some-admit g c bytes good h =
    let d = g.B.Book.meaning c.args.basis.now.book.now in
    let kept = c.in_ok-start.ensures.kept (ap (λ o. Ok o) c.in_default.is) in
    let key = c.head_key-key.ensures ∙ same_key d (g.met.B.Book.sound c.args.basis.now.book.now) c.args.basis.now.unknown c.args.basis.now.levels bytes good c.args.open_levels.now c.args.at c.args.head.now h _ refl in
    rw c.fault.ensures (not_admitted d (g.met.B.Book.sound c.args.basis.now.book.now) c.args.basis.now.unknown c.args.basis.now.levels bytes good c.args.open_levels.now c.args.at c.args.head.now h _ key c.in-Some-admit.wrong
    (c.in-Some-admit.ensures (map so_far h.under_way.rests) (so_far h.under_way.s) (rw kept h.under_way.occurs)))

pub overflow_add-end : goal.overflow_add-end
overflow_add-end g c =
    let small : c.args.at + c.args.head.now.length < 2 ^ 32 = ∥∥₁_elim c.requires le_prop (λ x. let (bytes, good, small, h) = x in
    let p = avp_within (g.B.Book.meaning c.args.basis.now.book.now) (g.met.B.Book.sound c.args.basis.now.book.now) c.args.basis.now.unknown c.args.basis.now.levels bytes good c.args.open_levels.now c.args.at c.args.head.now h in
    omega (arith, p, small)) in
    omega (arith, small)

pub next_multiple_of-requires-clause-fits : goal.next_multiple_of-requires-clause-fits
next_multiple_of-requires-clause-fits g c =
    let small : c.args.at + c.args.head.now.length < 2 ^ 32 = ∥∥₁_elim c.requires le_prop (λ x. let (bytes, good, small, h) = x in
    let p = avp_within (g.B.Book.meaning c.args.basis.now.book.now) (g.met.B.Book.sound c.args.basis.now.book.now) c.args.basis.now.unknown c.args.basis.now.levels bytes good c.args.open_levels.now c.args.at c.args.head.now h in
    omega (arith, p, small)) in
    omega (arith, small)

pub overflow_add-at : goal.overflow_add-at
overflow_add-at g c =
    let small : c.args.at + c.args.head.now.length < 2 ^ 32 = ∥∥₁_elim c.requires le_prop (λ x. let (bytes, good, small, h) = x in
    let p = avp_within (g.B.Book.meaning c.args.basis.now.book.now) (g.met.B.Book.sound c.args.basis.now.book.now) c.args.basis.now.unknown c.args.basis.now.levels bytes good c.args.open_levels.now c.args.at c.args.head.now h in
    omega (arith, p, small)) in
    let head = head_few c.args.head.now.vendor in let e = c.head_length.ensures in
    omega (arith, small, head, e)

pub returns-then-at-head_length : goal.returns-then-at-head_length
returns-then-at-head_length g c bytes good h =
    let d = g.B.Book.meaning c.args.basis.now.book.now in
    let kept = c.in_ok-start.ensures.kept (ap (λ o. Ok o) c.in_default.is) in
    let key = c.head_key-key.ensures ∙ same_key d (g.met.B.Book.sound c.args.basis.now.book.now) c.args.basis.now.unknown c.args.basis.now.levels bytes good c.args.open_levels.now c.args.at c.args.head.now h _ refl in
    let admits = c.in_default-admit.ensures (map so_far h.under_way.rests) (so_far h.under_way.s) (rw kept h.under_way.occurs) in
    let none = c.in_ok-start.ensures.no_group (ap (λ o. Ok o) c.in_default.is) in
    let begun = data_begun d (g.met.B.Book.sound c.args.basis.now.book.now)
    c.args.basis.now.unknown c.args.basis.now.levels bytes good c.args.open_levels.now c.args.at c.args.head.now h _ key c.admit.new.open_levels admits.0 admits.1
    _ c.next_multiple_of.result c.start_leaf.result refl (let e = c.next_multiple_of.ensures in omega (arith, e)) (c.start_leaf.ensures (rw c.head_key-key.ensures none)) in
    (begun, (let e = c.head_length.ensures in omega (arith, e, c.if-at-head_length.true)))

pub end_data-requires : goal.end_data-requires
end_data-requires g c =
    let d = g.B.Book.meaning c.args.basis.now.book.now in
    let kept = c.in_ok-start.ensures.kept (ap (λ o. Ok o) c.in_default.is) in
    ∥∥₁_map c.requires (λ x. let (bytes, good, small, h) = x in
    let key = c.head_key-key.ensures ∙ same_key d (g.met.B.Book.sound c.args.basis.now.book.now) c.args.basis.now.unknown c.args.basis.now.levels bytes good c.args.open_levels.now c.args.at c.args.head.now h _ refl in
    let admits = c.in_default-admit.ensures (map so_far h.under_way.rests) (so_far h.under_way.s) (rw kept h.under_way.occurs) in
    let none = c.in_ok-start.ensures.no_group (ap (λ o. Ok o) c.in_default.is) in
    let begun = data_begun d (g.met.B.Book.sound c.args.basis.now.book.now)
    c.args.basis.now.unknown c.args.basis.now.levels bytes good c.args.open_levels.now c.args.at c.args.head.now h _ key c.admit.new.open_levels admits.0 admits.1
    _ c.next_multiple_of.result c.start_leaf.result refl (let e = c.next_multiple_of.ensures in omega (arith, e)) (c.start_leaf.ensures (rw c.head_key-key.ensures none)) in
    (c.args.basis.now.unknown, c.args.basis.now.levels, bytes, good, small, _, begun, (let e = c.head_length.ensures in omega (arith, e, c.if-at-head_length.false))))

pub returns-else-at-head_length : goal.returns-else-at-head_length
returns-else-at-head_length g c bytes good h =
    let d = g.B.Book.meaning c.args.basis.now.book.now in
    let kept = c.in_ok-start.ensures.kept (ap (λ o. Ok o) c.in_default.is) in
    let key = c.head_key-key.ensures ∙ same_key d (g.met.B.Book.sound c.args.basis.now.book.now) c.args.basis.now.unknown c.args.basis.now.levels bytes good c.args.open_levels.now c.args.at c.args.head.now h _ refl in
    let admits = c.in_default-admit.ensures (map so_far h.under_way.rests) (so_far h.under_way.s) (rw kept h.under_way.occurs) in
    let none = c.in_ok-start.ensures.no_group (ap (λ o. Ok o) c.in_default.is) in
    let begun = data_begun d (g.met.B.Book.sound c.args.basis.now.book.now)
    c.args.basis.now.unknown c.args.basis.now.levels bytes good c.args.open_levels.now c.args.at c.args.head.now h _ key c.admit.new.open_levels admits.0 admits.1
    _ c.next_multiple_of.result c.start_leaf.result refl (let e = c.next_multiple_of.ensures in omega (arith, e)) (c.start_leaf.ensures (rw c.head_key-key.ensures none)) in
    let e = c.head_length.ensures in let m = c.next_multiple_of.ensures in let l =
    head_in d (g.met.B.Book.sound c.args.basis.now.book.now) c.args.basis.now.unknown c.args.basis.now.levels bytes good c.args.open_levels.now c.args.at c.args.head.now h in
    next_is_here d c.args.basis.now.unknown c.args.basis.now.levels bytes good _ _ c.end_data.result _ _ (λ x. absurd x) (omega (arith, e, m, l, c.if-at-head_length.false))
    (c.end_data.ensures c.args.basis.now.unknown c.args.basis.now.levels bytes good _ begun (omega (arith, e, c.if-at-head_length.false)))
