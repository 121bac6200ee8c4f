use Rattle.std.proofs.Common.{List, ℕ, refl, sym, subst}
use Rattle.dia_valid.specs.Valid.{IsValid, IsValidOf}
use Rattle.dia_answer.specs.Dictionaries.{opaque}
use Rattle.dia_answer.proofs.Attempts.{not_valid}
use Rattle.dia_answer.proofs.answering.if_valid.Goals as goal

pub returns-in-Ok : goal.returns-in-Ok
returns-in-Ok g c =
    let u = c.args.contents.now.unknown in
    let most = c.args.contents.now.levels in
    let def = c.in-Ok.field-0.def in (
      refl,
      (
        def,
        subst (λ (x : List ℕ). IsValidOf (opaque (g.B.Book.meaning c.args.book.now)) u most x def) c.deref.ensures.value
            (subst (λ b. IsValidOf (opaque (g.B.Book.meaning b)) u most c.deref.result.now def) c.new-opaque.ensures c.in-Ok.ensures.answer),
      ),
    )

pub returns-in-Err-Fault : goal.returns-in-Err-Fault
returns-in-Err-Fault g c valid =
    let u = c.args.contents.now.unknown in
    let most = c.args.contents.now.levels in
    let here = subst (λ (x : List ℕ). IsValid (opaque (g.B.Book.meaning c.args.book.now)) u most x) (sym c.deref.ensures.value) valid in
    not_valid (opaque (g.B.Book.meaning c.new-opaque.result.book.now)) u most c.deref.result.now c.in-Err-Fault.field-0 (λ e. let f = c.in-Err-Fault.field-0-is in cc) c.in-Err-Fault.ensures.valid
    (subst (λ b. IsValid (opaque (g.B.Book.meaning b)) u most c.deref.result.now) (sym c.new-opaque.ensures) here)

pub returns-in-Err-Truncated : goal.returns-in-Err-Truncated
returns-in-Err-Truncated g c valid =
    let u = c.args.contents.now.unknown in
    let most = c.args.contents.now.levels in
    let here = subst (λ (x : List ℕ). IsValid (opaque (g.B.Book.meaning c.args.book.now)) u most x) (sym c.deref.ensures.value) valid in
    not_valid (opaque (g.B.Book.meaning c.new-opaque.result.book.now)) u most c.deref.result.now c.in-Err-Truncated.field-0 (λ e. let f = c.in-Err-Truncated.field-0-is in cc) c.in-Err-Truncated.ensures.valid
    (subst (λ b. IsValid (opaque (g.B.Book.meaning b)) u most c.deref.result.now) (sym c.new-opaque.ensures) here)

pub returns-in-Err-Trailing : goal.returns-in-Err-Trailing
returns-in-Err-Trailing g c valid =
    let u = c.args.contents.now.unknown in
    let most = c.args.contents.now.levels in
    let here = subst (λ (x : List ℕ). IsValid (opaque (g.B.Book.meaning c.args.book.now)) u most x) (sym c.deref.ensures.value) valid in
    not_valid (opaque (g.B.Book.meaning c.new-opaque.result.book.now)) u most c.deref.result.now c.in-Err-Trailing.field-0 (λ e. let f = c.in-Err-Trailing.field-0-is in cc) c.in-Err-Trailing.ensures.valid
    (subst (λ b. IsValid (opaque (g.B.Book.meaning b)) u most c.deref.result.now) (sym c.new-opaque.ensures) here)
