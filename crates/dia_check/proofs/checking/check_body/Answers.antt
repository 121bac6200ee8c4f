use Rattle.std.proofs.Common.{◌+◌, ◌-◌, ◌<◌, ◌≤◌, ℕ, List, None, length, take, drop, refl, ap, subst, sym, arith}
use Rattle.std.proofs.Math.Logic.{∥∥₁_elim, ∥∥₁_map}
use Rattle.std.proofs.Props.{props}
use Rattle.std.proofs.lemmas.List.{take_rest, length-drop}
use Rattle.std.proofs.lemmas.Option.{slice_get_within}
use Rattle.std.proofs.lemmas.Result.{err_from_is_err_and}
use Rattle.std.specs.Coded.{le_prop}
use Rattle.dia_book.specs.Dictionary.{definitions}
use Rattle.dia_valid.specs.Valid.{IsValidOf}
use Rattle.dia_check.specs.Reading.{LiesAt}
use Rattle.dia_check.proofs.AvpsInPieces.{found_at_stop, opens_body}
use Rattle.dia_check.proofs.CheckAnswers.{walk_answers}
use Rattle.dia_check.proofs.HeaderAnswers.{found_answers}
use Rattle.dia_check.proofs.PartsOfPieces.{lies_whole}
use Rattle.dia_check.proofs.UnderWay.{place}
use Rattle.dia_check.proofs.checking.check_body.Goals as goal

pub open_body-requires : goal.open_body-requires
open_body-requires g c =
    let d = g.B.Book.meaning c.args.basis.now.book.now in
    ∥∥₁_elim c.requires le_prop (λ x. let (good, is, sized, few) = x in
    subst (λ (n : ℕ). n < length (definitions d)) is (slice_get_within (definitions d) good.c good.command good.is_command))

pub slice_bounds-body-count : goal.slice_bounds-body-count
slice_bounds-body-count g c = ∥∥₁_elim c.requires le_prop (λ x. let (good, is, sized, few) = x in sized.long)

pub slice_bounds-body-start : goal.slice_bounds-body-start
slice_bounds-body-start g c = ∥∥₁_elim c.requires le_prop (λ x. let (good, is, sized, few) = x in sized.long)

-- the body, after the header
lies_after : (bytes : List ℕ) → 20 ≤ length bytes → LiesAt bytes 20 (take (length bytes - 20) (drop 20 bytes))
lies_after bytes long = subst (LiesAt bytes 20) (sym (take_rest bytes 20)) (lies_whole bytes 20 long)

pub read_avps-requires : goal.read_avps-requires
read_avps-requires g c =
    let d = g.B.Book.meaning c.args.basis.now.book.now in
    ∥∥₁_map c.requires (λ x. let (good, is, sized, few) = x in (
      c.args.bytes.now,
      good,
      few,
      opens_body d (g.met.B.Book.sound c.args.basis.now.book.now) c.args.basis.now.unknown c.args.basis.now.levels c.args.bytes.now c.open_body.new.open_levels c.args.def (length c.args.bytes.now) good is refl
          c.in_ok-open_body.ensures,
      lies_after c.args.bytes.now sized.long,
    ))

pub returns-in_err-open_body : goal.returns-in_err-open_body
returns-in_err-open_body g c good is sized =
    let p = err_from_is_err_and c.from_residual.result c.from_residual.ensures.1 in
    rw (p.1, p.2) tt

pub returns-in_err-read_avps : goal.returns-in_err-read_avps
returns-in_err-read_avps g c good is sized =
    let d = g.B.Book.meaning c.args.basis.now.book.now in
    let bytes = c.args.bytes.now in
    let way = opens_body d (g.met.B.Book.sound c.args.basis.now.book.now) c.args.basis.now.unknown c.args.basis.now.levels bytes c.open_body.new.open_levels c.args.def (length bytes) good is refl c.in_ok-open_body.ensures in
    let p = err_from_is_err_and c.from_residual-in_err-read_avps.result c.from_residual-in_err-read_avps.ensures.1 in
    rw (p.1, p.2)
    (found_answers d (g.met.B.Book.sound c.args.basis.now.book.now) c.args.basis.now.unknown c.args.basis.now.levels bytes sized good c.in_err-read_avps.field-0.0
    (found_at_stop d c.args.basis.now.unknown c.args.basis.now.levels bytes good _ c.in_err-read_avps.field-0.0 (c.in_err-read_avps.ensures.next bytes good way (lies_after bytes sized.long))))

pub unreachable-requires : goal.unreachable-requires
unreachable-requires g c = ∥∥₁_elim c.requires (hlevel props) (λ x. let (good, is, sized, few) = x in
    let d = g.B.Book.meaning c.args.basis.now.book.now in
    let bytes = c.args.bytes.now in
    let way = opens_body d (g.met.B.Book.sound c.args.basis.now.book.now) c.args.basis.now.unknown c.args.basis.now.levels bytes c.open_body.new.open_levels c.args.def (length bytes) good is refl c.in_ok-open_body.ensures in
    let now = rw c.in-Some.is at (c.in_ok-read_avps.ensures.next bytes good way (lies_after bytes sized.long)) in
    let end = (place d (g.met.B.Book.sound c.args.basis.now.book.now) c.args.basis.now.unknown c.args.basis.now.levels bytes good c.read_avps.new.open_levels c.in-Some.field-0 now).1 in
    let following : 20 + length (take (length bytes - 20) (drop 20 bytes)) < c.read_avps.new.open_levels.innermost.end = rw c.in-Some.is at c.in_ok-read_avps.ensures.goes_on in
    let size = ap length (take_rest bytes 20) in
    let left = length-drop 20 bytes in
    omega (arith, end, following, size, left, sized.long))

pub returns : goal.returns
returns g c good is sized =
    let d = g.B.Book.meaning c.args.basis.now.book.now in
    let bytes = c.args.bytes.now in
    let way = opens_body d (g.met.B.Book.sound c.args.basis.now.book.now) c.args.basis.now.unknown c.args.basis.now.levels bytes c.open_body.new.open_levels c.args.def (length bytes) good is refl c.in_ok-open_body.ensures in
    let (walk, end) = rw c.in-None.is at (c.in_ok-read_avps.ensures.next bytes good way (lies_after bytes sized.long)) in
    subst (IsValidOf d c.args.basis.now.unknown c.args.basis.now.levels bytes) is (walk_answers d (g.met.B.Book.sound c.args.basis.now.book.now) c.args.basis.now.unknown c.args.basis.now.levels bytes sized good None walk)
