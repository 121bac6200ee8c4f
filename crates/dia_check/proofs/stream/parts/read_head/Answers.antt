use Rattle.std.proofs.Common.{ℕ, ◌+◌, ◌<◌, ◌≤◌, length, ap, sym, subst, arith, refl, ◌∙◌}
use Rattle.std.proofs.Math.Logic.{∥∥₁_elim, ∥∥₁_map}
use Rattle.std.proofs.lemmas.Bool.{false≢true}
use Rattle.std.proofs.lemmas.Result.{err_from_is_err_and}
use Rattle.std.specs.Coded.{le_prop}
use Rattle.std.specs.Prelude.{◌^◌}
use Rattle.dia_wire.specs.Wire.{head_length}
use Rattle.dia_check.specs.declared.open_levels.OpenLevel.{OpenLevel}
use Rattle.dia_check.specs.Front.{front_bytes}
use Rattle.dia_check.specs.Reading.{IsNext}
use Rattle.dia_check.proofs.UnderWay.{place, found_broken}
use Rattle.dia_check.proofs.DataInPieces.{stop_for}
use Rattle.dia_check.proofs.HeadsInPieces.{front_size, none_here, at_avp, head_there, head_was_not, still_head, not_refused}
use Rattle.dia_check.proofs.stream.parts.read_head.Goals as goal

pub overflow_sub-innermost : goal.overflow_sub-innermost
overflow_sub-innermost g c =
    let same = ap (λ (k : OpenLevel). k.end) c.innermost.ensures in
    let e : c.args.part.at ≤ c.args.open_levels.now.innermost.end = ∥∥₁_elim c.requires.part le_prop (λ x. let (bytes, good, few, h, lies) = x in
    (place (g.B.Book.meaning c.args.basis.now.book.now) (g.met.B.Book.sound c.args.basis.now.book.now) c.args.basis.now.unknown c.args.basis.now.levels bytes good c.args.open_levels.now c.args.part.at h.under_way).0) in
    omega (arith, e, same)

pub overflow_sub-taken : goal.overflow_sub-taken
overflow_sub-taken g c =
    let has = rw c.in-Ok-Some.field-0-is at c.in-Ok-Some.ensures.head in
    let same = ap (λ (k : OpenLevel). k.end) c.innermost.ensures in
    let fits = not_refused c.as_slice.result.now c.innermost.result.end c.args.open_levels.now.innermost.end c.args.part.at same (λ bad. false≢true (c.in-Ok-Some.ensures.refused.1 bad)) in
    let wide = c.head_length.ensures in let kept = c.len.ensures in
    let less : length (front_bytes c.args.part.front) < head_length c.in-Ok-Some.head.vendor = ∥∥₁_elim c.requires.part le_prop (λ x. let (bytes, good, few, h, lies) = x in
    head_was_not (g.B.Book.meaning c.args.basis.now.book.now) (g.met.B.Book.sound c.args.basis.now.book.now)
    c.args.basis.now.unknown c.args.basis.now.levels bytes good c.args.open_levels.now c.args.part c.args.from h c.args.piece.now lies c.as_slice.result.now 20
    (c.as_slice.ensures ∙ c.take_from.ensures) c.in-Ok-Some.head has.0 has.1
    fits) in
    omega (arith, less, wide, kept)

pub begin_data-requires : goal.begin_data-requires
begin_data-requires g c =
    let has = rw c.in-Ok-Some.field-0-is at c.in-Ok-Some.ensures.head in
    let same = ap (λ (k : OpenLevel). k.end) c.innermost.ensures in
    let fits = not_refused c.as_slice.result.now c.innermost.result.end c.args.open_levels.now.innermost.end c.args.part.at same (λ bad. false≢true (c.in-Ok-Some.ensures.refused.1 bad)) in
    ∥∥₁_map c.requires.part (λ x. let (bytes, good, few, h, lies) = x in (
      bytes,
      good,
      few,
      at_avp (g.B.Book.meaning c.args.basis.now.book.now) (g.met.B.Book.sound c.args.basis.now.book.now)
          c.args.basis.now.unknown c.args.basis.now.levels bytes good c.args.open_levels.now c.args.part c.args.from h c.args.piece.now lies c.as_slice.result.now 20
          (c.as_slice.ensures ∙ c.take_from.ensures) c.in-Ok-Some.head has.0 has.1
          fits,
    ))

pub broken-requires : goal.broken-requires
broken-requires g c =
    let e : c.args.part.at < 2 ^ 32 = ∥∥₁_elim c.requires.part le_prop (λ x. let (bytes, good, few, h, lies) = x in
    let p = place (g.B.Book.meaning c.args.basis.now.book.now) (g.met.B.Book.sound c.args.basis.now.book.now) c.args.basis.now.unknown c.args.basis.now.levels bytes good c.args.open_levels.now c.args.part.at h.under_way in
    omega (arith, p.0, p.1, few)) in
    omega (arith, e)

pub returns-in_ok-next-in-Ok-Some-clause-count : goal.returns-in_ok-next-in-Ok-Some-clause-count
returns-in_ok-next-in-Ok-Some-clause-count g c =
    let has = rw c.in-Ok-Some.field-0-is at c.in-Ok-Some.ensures.head in
    let same = ap (λ (k : OpenLevel). k.end) c.innermost.ensures in
    let fits = not_refused c.as_slice.result.now c.innermost.result.end c.args.open_levels.now.innermost.end c.args.part.at same (λ bad. false≢true (c.in-Ok-Some.ensures.refused.1 bad)) in
    let wide = c.head_length.ensures in let kept = c.len.ensures in
    let less : length (front_bytes c.args.part.front) < head_length c.in-Ok-Some.head.vendor = ∥∥₁_elim c.requires.part le_prop (λ x. let (bytes, good, few, h, lies) = x in
    head_was_not (g.B.Book.meaning c.args.basis.now.book.now) (g.met.B.Book.sound c.args.basis.now.book.now)
    c.args.basis.now.unknown c.args.basis.now.levels bytes good c.args.open_levels.now c.args.part c.args.from h c.args.piece.now lies c.as_slice.result.now 20
    (c.as_slice.ensures ∙ c.take_from.ensures) c.in-Ok-Some.head has.0 has.1
    fits) in
    let most : head_length c.in-Ok-Some.head.vendor ≤ length (front_bytes c.args.part.front) + length c.args.piece.now = ∥∥₁_elim c.requires.part le_prop (λ x. let (bytes, good, few, h, lies) = x in
    let there = head_there (g.B.Book.meaning c.args.basis.now.book.now) (g.met.B.Book.sound c.args.basis.now.book.now)
    c.args.basis.now.unknown c.args.basis.now.levels bytes good c.args.open_levels.now c.args.part c.args.from h c.args.piece.now lies c.as_slice.result.now 20
    (c.as_slice.ensures ∙ c.take_from.ensures) c.in-Ok-Some.head has.0 has.1
    fits in
    let size = front_size (g.B.Book.meaning c.args.basis.now.book.now) (g.met.B.Book.sound c.args.basis.now.book.now)
    c.args.basis.now.unknown c.args.basis.now.levels bytes good c.args.open_levels.now c.args.part c.args.from h c.args.piece.now lies c.as_slice.result.now 20
    (c.as_slice.ensures ∙ c.take_from.ensures) in omega (arith, there, size)) in
    (omega (arith, less, wide, kept), omega (arith, most, wide, kept))

pub returns-in_ok-next-in-Ok-Some-clause-next : goal.returns-in_ok-next-in-Ok-Some-clause-next
returns-in_ok-next-in-Ok-Some-clause-next g c bytes good h lies =
    let has = rw c.in-Ok-Some.field-0-is at c.in-Ok-Some.ensures.head in
    let same = ap (λ (k : OpenLevel). k.end) c.innermost.ensures in
    let fits = not_refused c.as_slice.result.now c.innermost.result.end c.args.open_levels.now.innermost.end c.args.part.at same (λ bad. false≢true (c.in-Ok-Some.ensures.refused.1 bad)) in
    let wide = c.head_length.ensures in let kept = c.len.ensures in
    let less = head_was_not (g.B.Book.meaning c.args.basis.now.book.now) (g.met.B.Book.sound c.args.basis.now.book.now)
    c.args.basis.now.unknown c.args.basis.now.levels bytes good c.args.open_levels.now c.args.part c.args.from h c.args.piece.now lies c.as_slice.result.now 20
    (c.as_slice.ensures ∙ c.take_from.ensures) c.in-Ok-Some.head has.0 has.1
    fits in
    let avp = at_avp (g.B.Book.meaning c.args.basis.now.book.now) (g.met.B.Book.sound c.args.basis.now.book.now)
    c.args.basis.now.unknown c.args.basis.now.levels bytes good c.args.open_levels.now c.args.part c.args.from h c.args.piece.now lies c.as_slice.result.now 20
    (c.as_slice.ensures ∙ c.take_from.ensures) c.in-Ok-Some.head has.0 has.1
    fits in
    let r = h.reached in
    subst (λ (n : ℕ). IsNext (g.B.Book.meaning c.args.basis.now.book.now) c.args.basis.now.unknown
    c.args.basis.now.levels bytes good c.begin_data.new.open_levels c.in_ok-next-in-Ok-Some.next n) (omega (arith, r, less, wide, kept))
    (c.in_ok-next-in-Ok-Some.ensures bytes good avp)

pub returns-in_err-next-in-Ok-Some-clause-next : goal.returns-in_err-next-in-Ok-Some-clause-next
returns-in_err-next-in-Ok-Some-clause-next g c bytes good h lies =
    let has = rw c.in-Ok-Some.field-0-is at c.in-Ok-Some.ensures.head in
    let same = ap (λ (k : OpenLevel). k.end) c.innermost.ensures in
    let fits = not_refused c.as_slice.result.now c.innermost.result.end c.args.open_levels.now.innermost.end c.args.part.at same (λ bad. false≢true (c.in-Ok-Some.ensures.refused.1 bad)) in
    let less = head_was_not (g.B.Book.meaning c.args.basis.now.book.now) (g.met.B.Book.sound c.args.basis.now.book.now)
    c.args.basis.now.unknown c.args.basis.now.levels bytes good c.args.open_levels.now c.args.part c.args.from h c.args.piece.now lies c.as_slice.result.now 20
    (c.as_slice.ensures ∙ c.take_from.ensures) c.in-Ok-Some.head has.0 has.1
    fits in
    let there = head_there (g.B.Book.meaning c.args.basis.now.book.now) (g.met.B.Book.sound c.args.basis.now.book.now)
    c.args.basis.now.unknown c.args.basis.now.levels bytes good c.args.open_levels.now c.args.part c.args.from h c.args.piece.now lies c.as_slice.result.now 20
    (c.as_slice.ensures ∙ c.take_from.ensures) c.in-Ok-Some.head has.0 has.1
    fits in
    let size = front_size (g.B.Book.meaning c.args.basis.now.book.now) (g.met.B.Book.sound c.args.basis.now.book.now) c.args.basis.now.unknown c.args.basis.now.levels bytes good
    c.args.open_levels.now c.args.part c.args.from h c.args.piece.now lies c.as_slice.result.now 20 (c.as_slice.ensures ∙ c.take_from.ensures) in
    let avp = at_avp (g.B.Book.meaning c.args.basis.now.book.now) (g.met.B.Book.sound c.args.basis.now.book.now)
    c.args.basis.now.unknown c.args.basis.now.levels bytes good c.args.open_levels.now c.args.part c.args.from h c.args.piece.now lies c.as_slice.result.now 20
    (c.as_slice.ensures ∙ c.take_from.ensures) c.in-Ok-Some.head has.0 has.1
    fits in
    let r = h.reached in
    let p = err_from_is_err_and c.from_residual.result c.from_residual.ensures.1 in
    rw (p.1, p.2) (stop_for (g.B.Book.meaning c.args.basis.now.book.now) c.args.basis.now.unknown c.args.basis.now.levels bytes good _ _
    (λ begins. record {
      level = begins.level;
      is_open = begins.is_open;
      following = (let s = begins.start in omega (arith, s, r, less));
      within = (let s = begins.start in omega (arith, s, r, there, size));
    })
    c.in_err-next-in-Ok-Some.field-0.0 (c.in_err-next-in-Ok-Some.ensures bytes good avp))

pub returns-in-Ok-None-clause-next : goal.returns-in-Ok-None-clause-next
returns-in-Ok-None-clause-next g c bytes good h lies =
    let same = ap (λ (k : OpenLevel). k.end) c.innermost.ensures in
    let fits = not_refused c.as_slice.result.now c.innermost.result.end c.args.open_levels.now.innermost.end c.args.part.at same (λ bad. false≢true (c.in-Ok-None.ensures.refused.1 bad)) in
    let not_whole = c.avp_head.ensures.none (rw c.in-Ok-None.field-0-is at c.in-Ok-None.is) in
    still_head (g.B.Book.meaning c.args.basis.now.book.now) (g.met.B.Book.sound c.args.basis.now.book.now) c.args.basis.now.unknown
    c.args.basis.now.levels bytes good c.args.open_levels.now c.args.part c.args.from h c.args.piece.now lies c.as_slice.result.now 20
    (c.as_slice.ensures ∙ c.take_from.ensures) (omega arith) (record { at = c.args.part.at; front = c.take_from.new.self }) refl
    (sym c.as_slice.ensures) not_whole
    fits

pub returns-in-Err-Length-clause-next : goal.returns-in-Err-Length-clause-next
returns-in-Err-Length-clause-next g c bytes good h lies =
    let same = ap (λ (k : OpenLevel). k.end) c.innermost.ensures in
    let bad = c.avp_head.ensures.refused.0 (rw c.in-Err-Length.is refl) in
    let none = none_here (g.B.Book.meaning c.args.basis.now.book.now) (g.met.B.Book.sound c.args.basis.now.book.now) c.args.basis.now.unknown c.args.basis.now.levels bytes good c.args.open_levels.now
    c.args.part c.args.from h c.args.piece.now lies c.as_slice.result.now 20 (c.as_slice.ensures ∙ c.take_from.ensures) (rw same at bad) in
    rw c.broken.ensures (found_broken (g.B.Book.meaning c.args.basis.now.book.now) (g.met.B.Book.sound c.args.basis.now.book.now)
    c.args.basis.now.unknown c.args.basis.now.levels bytes good c.args.open_levels.now c.args.part.at h.under_way none.0 none.1)
