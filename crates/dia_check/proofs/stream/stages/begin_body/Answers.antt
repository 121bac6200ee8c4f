use Rattle.std.proofs.Common.{◌≡◌, ◌<◌, ℕ, [], None, length, subst}
use Rattle.std.proofs.Math.Logic.{∥∥₁_elim, ∥∥₁_map}
use Rattle.std.proofs.lemmas.Option.{slice_get_within}
use Rattle.std.specs.Prelude.{slice_get, Some}
use Rattle.std.specs.Coded.{le_prop}
use Rattle.std.proofs.lemmas.Result.{err_from_is_err_and}
use Rattle.dia_book.specs.Dictionary.{definitions}
use Rattle.dia_valid.specs.Valid.{IsValidOf}
use Rattle.dia_check.proofs.CheckAnswers.{walk_answers}
use Rattle.dia_check.proofs.HeaderAnswers.{found_answers}
use Rattle.dia_terms.specs.declared.Unknown.TheVariants.{Kept}
use Rattle.dia_terms.specs.declared.Levels.TheVariants.{Any}
use Rattle.dia_check.specs.OpenLevels.{AreOpenUnder, begun}
use Rattle.dia_check.proofs.UnderWay.{started}
use Rattle.dia_check.proofs.AvpsInPieces.{found_at_stop, opens_body}
use Rattle.dia_check.proofs.stream.stages.begin_body.Goals as goal

pub open_body-requires : goal.open_body-requires
open_body-requires g c =
    let d = g.B.Book.meaning c.args.book.now in
    ∥∥₁_elim c.requires le_prop (λ x. let (bytes, few, long, head, is_end) = x in
    let (good, is) = c.in_ok-def.ensures.answer Kept Any bytes long head in
    subst (λ (n : ℕ). n < length (definitions d)) is (slice_get_within (definitions d) good.c good.command good.is_command))

pub go_on-requires : goal.go_on-requires
go_on-requires g c =
    let d = g.B.Book.meaning c.args.book.now in
    ∥∥₁_map c.requires (λ x. let (bytes, few, long, head, is_end) = x in
    let (good, is) = c.in_ok-def.ensures.answer Kept Any bytes long head in (
      Kept,
      Any,
      bytes,
      good,
      few,
      started d (g.met.B.Book.sound c.args.book.now) Kept Any bytes good c.open_body.new.open_levels
          (subst (λ (n : ℕ). AreOpenUnder d c.open_body.new.open_levels [] (begun good.command.rules n)) is_end
          (c.in_ok-open_body.ensures good.command (subst (λ (n : ℕ). slice_get (definitions d) n ≡ Some good.command) is good.is_command))),
    ))

pub returns-in_err-def : goal.returns-in_err-def
returns-in_err-def g c u most bytes long head is_end =
    let p = err_from_is_err_and c.from_residual.result c.from_residual.ensures.1 in
    rw (p.1, p.2) (c.in_err-def.ensures.answer u most bytes long head, λ memory. absurd (c.in_err-def.ensures.memory memory))

pub returns-in_err-part : goal.returns-in_err-part
returns-in_err-part g c u most bytes long head is_end =
    let d = g.B.Book.meaning c.args.book.now in
    let (good, is) = c.in_ok-def.ensures.answer u most bytes long head in
    let w = opens_body d (g.met.B.Book.sound c.args.book.now) u most bytes c.open_body.new.open_levels c.in_ok-def.def c.args.end good is is_end c.in_ok-open_body.ensures in
    let p = err_from_is_err_and c.from_residual-in_err-part.result c.from_residual-in_err-part.ensures.1 in
    rw (p.1, p.2) (
      found_answers d (g.met.B.Book.sound c.args.book.now) u most bytes long good c.in_err-part.field-0.0
          (found_at_stop d u most bytes good ⊥ c.in_err-part.field-0.0 (c.in_err-part.ensures u most bytes good w)),
      λ memory. good,
    )

pub returns-in-Some : goal.returns-in-Some
returns-in-Some g c u most bytes long head is_end =
    let d = g.B.Book.meaning c.args.book.now in
    let (good, is) = c.in_ok-def.ensures.answer u most bytes long head in
    let w = opens_body d (g.met.B.Book.sound c.args.book.now) u most bytes c.open_body.new.open_levels c.in_ok-def.def c.args.end good is is_end c.in_ok-open_body.ensures in
    (good, is, rw c.in-Some.is at (c.in_ok-part.ensures u most bytes good w))

pub returns-in-None : goal.returns-in-None
returns-in-None g c u most bytes long head is_end =
    let d = g.B.Book.meaning c.args.book.now in
    let (good, is) = c.in_ok-def.ensures.answer u most bytes long head in
    let w = opens_body d (g.met.B.Book.sound c.args.book.now) u most bytes c.open_body.new.open_levels c.in_ok-def.def c.args.end good is is_end c.in_ok-open_body.ensures in
    let (walk, end) = rw c.in-None.is at (c.in_ok-part.ensures u most bytes good w) in
    (end, subst (IsValidOf d u most bytes) is (walk_answers d (g.met.B.Book.sound c.args.book.now) u most bytes long good None walk))

pub returns-in_err-open_body : goal.returns-in_err-open_body
returns-in_err-open_body g c u most bytes long head is_end =
    let (good, is) = c.in_ok-def.ensures.answer u most bytes long head in
    let p = err_from_is_err_and c.from_residual-in_err-open_body.result c.from_residual-in_err-open_body.ensures.1 in
    rw (p.1, p.2) (tt, λ memory. good)
