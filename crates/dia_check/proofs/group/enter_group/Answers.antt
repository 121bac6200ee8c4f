use Rattle.std.proofs.Common.{ℕ, ◌+◌, ◌<◌, map, ap, refl, ◌∙◌, arith}
use Rattle.std.proofs.Math.Logic.{∥∥₁_elim, ∥∥₁_map}
use Rattle.std.proofs.lemmas.Bool.{both_ways}
use Rattle.std.proofs.lemmas.Result.{err_from_is_err_and}
use Rattle.std.specs.Coded.{le_prop}
use Rattle.std.specs.Prelude.{◌^◌}
use Rattle.dia_book.specs.Dictionary.{definitions}
use Rattle.dia_check.specs.OpenLevels.{and_key}
use Rattle.dia_check.specs.UnderWay.{so_far}
use Rattle.dia_check.proofs.UnderWay.{few}
use Rattle.dia_check.proofs.DataInPieces.{same_key, avp_within, head_few, not_admitted, group_number, level_begins, group_entered, not_entered}
use Rattle.dia_check.proofs.group.enter_group.Goals as goal

pub returns-in_default-clause-no_group : goal.returns-in_default-clause-no_group
returns-in_default-clause-no_group g c is = rw (c.in_default.is, c.head_key-key.ensures) at c.known_group.ensures

pub admit-requires-clause-open_levels : goal.admit-requires-clause-open_levels
admit-requires-clause-open_levels g c = ∥∥₁_map c.requires (λ x. let (bytes, good, small, h) = x in
    let room = few (g.B.Book.meaning c.args.basis.now.book.now) (g.met.B.Book.sound c.args.basis.now.book.now) c.args.basis.now.unknown c.args.basis.now.levels bytes good c.args.open_levels.now c.args.at h.under_way in
    (map so_far h.under_way.rests, so_far h.under_way.s, h.under_way.occurs, omega (arith, room, small)))

pub fault-requires : goal.fault-requires
fault-requires g c =
    let small : c.args.at + c.args.head.now.length < 2 ^ 32 = ∥∥₁_elim c.requires le_prop (λ x. let (bytes, good, small, h) = x in
    let p = avp_within (g.B.Book.meaning c.args.basis.now.book.now) (g.met.B.Book.sound c.args.basis.now.book.now) c.args.basis.now.unknown c.args.basis.now.levels bytes good c.args.open_levels.now c.args.at c.args.head.now h in
    omega (arith, p, small)) in
    omega (arith, small)

pub returns-in-Some-admit-clause-next : goal.returns-in-Some-admit-clause-next
returns-in-Some-admit-clause-next g c bytes good h =
    let d = g.B.Book.meaning c.args.basis.now.book.now in
    let key = c.head_key-key.ensures ∙ same_key d (g.met.B.Book.sound c.args.basis.now.book.now) c.args.basis.now.unknown c.args.basis.now.levels bytes good c.args.open_levels.now c.args.at c.args.head.now h _ refl in
    rw c.fault.ensures (not_admitted d (g.met.B.Book.sound c.args.basis.now.book.now) c.args.basis.now.unknown c.args.basis.now.levels bytes good c.args.open_levels.now c.args.at c.args.head.now h _ key c.in-Some-admit.wrong
    (c.in-Some-admit.ensures (map so_far h.under_way.rests) (so_far h.under_way.s) h.under_way.occurs))

pub fault-requires-then-not-may_open : goal.fault-requires-then-not-may_open
fault-requires-then-not-may_open g c =
    let small : c.args.at + c.args.head.now.length < 2 ^ 32 = ∥∥₁_elim c.requires le_prop (λ x. let (bytes, good, small, h) = x in
    let p = avp_within (g.B.Book.meaning c.args.basis.now.book.now) (g.met.B.Book.sound c.args.basis.now.book.now) c.args.basis.now.unknown c.args.basis.now.levels bytes good c.args.open_levels.now c.args.at c.args.head.now h in
    omega (arith, p, small)) in
    omega (arith, small)

pub returns-then-not-may_open-clause-next : goal.returns-then-not-may_open-clause-next
returns-then-not-may_open-clause-next g c bytes good h =
    let d = g.B.Book.meaning c.args.basis.now.book.now in
    let key = c.head_key-key.ensures ∙ same_key d (g.met.B.Book.sound c.args.basis.now.book.now) c.args.basis.now.unknown c.args.basis.now.levels bytes good c.args.open_levels.now c.args.at c.args.head.now h _ refl in
    let admits = c.in_default-admit.ensures (map so_far h.under_way.rests) (so_far h.under_way.s) h.under_way.occurs in
    rw (c.fault-then-not-may_open.ensures, c.avp.ensures)
    (not_entered d (g.met.B.Book.sound c.args.basis.now.book.now) c.args.basis.now.unknown c.args.basis.now.levels bytes good c.args.open_levels.now c.args.at c.args.head.now h _ key c.depth-depth.result c.in-Some.group
    (c.depth-depth.ensures (definitions d) (map so_far h.under_way.rests) (so_far h.under_way.s) h.under_way.occurs) admits.0 c.in-Some.ensures
    (λ may. both_ways c.may_open.result c.if-not-may_open.true (c.may_open.ensures.1 may)))

pub overflow_add-end : goal.overflow_add-end
overflow_add-end g c =
    let small : c.args.at + c.args.head.now.length < 2 ^ 32 = ∥∥₁_elim c.requires le_prop (λ x. let (bytes, good, small, h) = x in
    let p = avp_within (g.B.Book.meaning c.args.basis.now.book.now) (g.met.B.Book.sound c.args.basis.now.book.now) c.args.basis.now.unknown c.args.basis.now.levels bytes good c.args.open_levels.now c.args.at c.args.head.now h in
    omega (arith, p, small)) in
    omega (arith, small)

pub open_group-requires-clause-def : goal.open_group-requires-clause-def
open_group-requires-clause-def g c = group_number (g.B.Book.meaning c.args.basis.now.book.now) (g.met.B.Book.sound c.args.basis.now.book.now) _ c.in-Some.group c.in-Some.ensures

pub open_group-requires-clause-open : goal.open_group-requires-clause-open
open_group-requires-clause-open g c = ∥∥₁_map c.requires (λ x. let (bytes, good, small, h) = x in
    let admits = c.in_default-admit.ensures (map so_far h.under_way.rests) (so_far h.under_way.s) h.under_way.occurs in
    (map so_far h.under_way.rests, and_key (so_far h.under_way.s) c.head_key-key.result, admits.1))

pub returns-in_err-open_group-clause-next : goal.returns-in_err-open_group-clause-next
returns-in_err-open_group-clause-next g c bytes good h =
    let d = g.B.Book.meaning c.args.basis.now.book.now in
    let key = c.head_key-key.ensures ∙ same_key d (g.met.B.Book.sound c.args.basis.now.book.now) c.args.basis.now.unknown c.args.basis.now.levels bytes good c.args.open_levels.now c.args.at c.args.head.now h _ refl in
    let admits = c.in_default-admit.ensures (map so_far h.under_way.rests) (so_far h.under_way.s) h.under_way.occurs in
    let p = err_from_is_err_and c.from_residual.result c.from_residual.ensures.1 in
    rw (p.1, p.2) (level_begins d (g.met.B.Book.sound c.args.basis.now.book.now)
    c.args.basis.now.unknown c.args.basis.now.levels bytes good c.args.open_levels.now c.args.at c.args.head.now h _ key c.admit.new.open_levels admits.0 admits.1
    c.in-Some.group c.depth-depth.result (c.depth-depth.ensures (definitions d) (map so_far h.under_way.rests) (so_far h.under_way.s) h.under_way.occurs)
    c.in-Some.ensures (c.may_open.ensures.0 c.if-not-may_open.false))

pub overflow_add-result : goal.overflow_add-result
overflow_add-result g c =
    let small : c.args.at + c.args.head.now.length < 2 ^ 32 = ∥∥₁_elim c.requires le_prop (λ x. let (bytes, good, small, h) = x in
    let p = avp_within (g.B.Book.meaning c.args.basis.now.book.now) (g.met.B.Book.sound c.args.basis.now.book.now) c.args.basis.now.unknown c.args.basis.now.levels bytes good c.args.open_levels.now c.args.at c.args.head.now h in
    omega (arith, p, small)) in
    let head = head_few c.args.head.now.vendor in let e = c.head_length.ensures in
    omega (arith, small, head, e)

pub returns-clause-start : goal.returns-clause-start
returns-clause-start g c = ap (λ (n : ℕ). c.args.at + n) c.head_length.ensures

pub returns-clause-next : goal.returns-clause-next
returns-clause-next g c bytes good h =
    let d = g.B.Book.meaning c.args.basis.now.book.now in
    let key = c.head_key-key.ensures ∙ same_key d (g.met.B.Book.sound c.args.basis.now.book.now) c.args.basis.now.unknown c.args.basis.now.levels bytes good c.args.open_levels.now c.args.at c.args.head.now h _ refl in
    let admits = c.in_default-admit.ensures (map so_far h.under_way.rests) (so_far h.under_way.s) h.under_way.occurs in
    rw c.head_length.ensures (group_entered d (g.met.B.Book.sound c.args.basis.now.book.now) c.args.basis.now.unknown
    c.args.basis.now.levels bytes good c.args.open_levels.now c.args.at c.args.head.now h _ key c.admit.new.open_levels admits.0 admits.1
    c.in-Some.group c.depth-depth.result (c.depth-depth.ensures (definitions d) (map so_far h.under_way.rests) (so_far h.under_way.s) h.under_way.occurs)
    c.in-Some.ensures (c.may_open.ensures.0 c.if-not-may_open.false) c.open_group.new.open_levels _
    (λ definition here. c.in_ok-open_group.ensures definition (map so_far h.under_way.rests) (and_key (so_far h.under_way.s) _) here admits.1) refl)
