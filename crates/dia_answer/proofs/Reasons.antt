-- Why a request gets no answer, by what the check of it answers.
use Rattle.std.proofs.Common.{◌≡◌, ◌≢◌, ℕ, ◌<◌, ◌≤◌, List, length, Result, Ok, Err, Option, Some, None, get_or, refl, sym, ap, subst, ◌∙◌, arith}
use Rattle.dia_wire.specs.Wire.{HasR}
use Rattle.dia_book.specs.Dictionary.{Dictionary, IsDictionary}
use Rattle.dia_terms.specs.declared.Unknown.{Unknown}
use Rattle.dia_terms.specs.declared.Levels.{Levels}
use Rattle.dia_check.specs.declared.Selected.{Selected}
use Rattle.dia_check.specs.declared.Refusal.{Refusal}
use Rattle.dia_check.specs.declared.Refusal.TheVariants as refusal
use Rattle.dia_check.specs.declared.Fault.{Fault}
use Rattle.dia_check.specs.Faults.{IsAnswer, IsRecorded}
use Rattle.dia_check.proofs.OneAnswer.{one_answer}
use Rattle.dia_answer.specs.declared.forms.Made.{Made}
use Rattle.dia_answer.specs.declared.forms.NoAnswer.{NoAnswer}
use Rattle.dia_answer.specs.declared.forms.NoAnswer.TheVariants as no_answer
use Rattle.dia_answer.specs.Reports.{IsNoAnswer}

-- what is answered of a request where there is no fault to report
abbrev pub why_of : Result Selected Refusal → Option NoAnswer
why_of (Ok found) = Some no_answer.Valid
why_of (Err (refusal.Fault f)) = None
why_of (Err refusal.Truncated) = Some no_answer.Truncated
why_of (Err refusal.Trailing) = Some no_answer.Trailing
why_of (Err refusal.NoMemory) = None
why_of (Err refusal.Spent) = None

abbrev pub unmade : NoAnswer → Result Made NoAnswer
unmade why = Err why

pub the_reason : (d : Dictionary) (u : Unknown) (most : Levels) (bytes : List ℕ) (r : Result Selected Refusal) (why : NoAnswer) → IsDictionary d → IsAnswer d u most bytes r → r ≢ Err refusal.NoMemory → 20 ≤ length bytes
    → HasR (get_or bytes 4 0) → why ≢ no_answer.TooLong → IsNoAnswer d u most bytes why → why_of r ≡ Some why
the_reason d u most bytes r no_answer.Short sound a memory long is_request other h = absurd (omega (arith, long, h))
the_reason d u most bytes r no_answer.Answer sound a memory long is_request other (head, reads, none) = absurd (none (subst HasR (sym reads.flags) is_request))
the_reason d u most bytes r no_answer.Truncated sound a memory long is_request other (request, b) = ap why_of (one_answer d u most bytes r (Err refusal.Truncated) sound a b memory (λ e. absurd cc))
the_reason d u most bytes r no_answer.Trailing sound a memory long is_request other (request, b) = ap why_of (one_answer d u most bytes r (Err refusal.Trailing) sound a b memory (λ e. absurd cc))
the_reason d u most bytes r no_answer.Valid sound a memory long is_request other (request, (def, valid)) =
    ap why_of (one_answer d u most bytes r (Ok (record { def = def })) sound a valid memory (λ e. absurd cc))
the_reason d u most bytes r no_answer.TooLong sound a memory long is_request other h = absurd (other refl)

-- a request that is checked, by what the check answers
pub one_reason : (d : Dictionary) (u : Unknown) (most : Levels) (bytes : List ℕ) (r : Result Selected Refusal) (a : NoAnswer) → IsDictionary d → IsAnswer d u most bytes r → r ≢ Err refusal.NoMemory → 20 ≤ length bytes → HasR (get_or bytes 4 0)
    → why_of r ≡ Some a → (why : NoAnswer) → why ≢ no_answer.TooLong → IsNoAnswer d u most bytes why → unmade a ≡ unmade why
one_reason d u most bytes r a sound answer memory long is_request is why other h = let e : Some a ≡ Some why = sym is ∙ the_reason d u most bytes r why sound answer memory long is_request other h in cc

-- where a fault is reported there is no such reason
pub no_reason : (d : Dictionary) (u : Unknown) (most : Levels) (bytes : List ℕ) (f : Fault) → IsDictionary d → IsRecorded d u most bytes f → 20 ≤ length bytes → HasR (get_or bytes 4 0)
    → (why : NoAnswer) → why ≢ no_answer.TooLong → IsNoAnswer d u most bytes why → ⊥
no_reason d u most bytes f sound recorded long is_request why other h =
    let e : None ≡ Some why = the_reason d u most bytes (Err (refusal.Fault f)) why sound recorded (λ q. absurd cc) long is_request other h in cc

-- too few bytes for a header
pub short_reason : (d : Dictionary) (u : Unknown) (most : Levels) (bytes : List ℕ) → length bytes < 20 → (why : NoAnswer) → why ≢ no_answer.TooLong → IsNoAnswer d u most bytes why → unmade no_answer.Short ≡ unmade why
short_reason d u most bytes few no_answer.Short other h = refl
short_reason d u most bytes few no_answer.Answer other (head, reads, none) = absurd (omega (arith, few, reads.long))
short_reason d u most bytes few no_answer.Truncated other ((head, reads, is_request), a) = absurd (omega (arith, few, reads.long))
short_reason d u most bytes few no_answer.Trailing other ((head, reads, is_request), a) = absurd (omega (arith, few, reads.long))
short_reason d u most bytes few no_answer.Valid other ((head, reads, is_request), a) = absurd (omega (arith, few, reads.long))
short_reason d u most bytes few no_answer.TooLong other h = absurd (other refl)

-- no request
pub answer_reason : (d : Dictionary) (u : Unknown) (most : Levels) (bytes : List ℕ) → 20 ≤ length bytes → ¬ HasR (get_or bytes 4 0) → (why : NoAnswer) → why ≢ no_answer.TooLong → IsNoAnswer d u most bytes why
    → unmade no_answer.Answer ≡ unmade why
answer_reason d u most bytes long none no_answer.Short other h = absurd (omega (arith, long, h))
answer_reason d u most bytes long none no_answer.Answer other h = refl
answer_reason d u most bytes long none no_answer.Truncated other ((head, reads, is_request), a) = absurd (none (subst HasR reads.flags is_request))
answer_reason d u most bytes long none no_answer.Trailing other ((head, reads, is_request), a) = absurd (none (subst HasR reads.flags is_request))
answer_reason d u most bytes long none no_answer.Valid other ((head, reads, is_request), a) = absurd (none (subst HasR reads.flags is_request))
answer_reason d u most bytes long none no_answer.TooLong other h = absurd (other refl)
