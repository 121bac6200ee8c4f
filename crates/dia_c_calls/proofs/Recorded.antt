-- What is known of an answer passes to what is said of it.
use Rattle.std.proofs.Common.{◌≡◌, ◌≢◌, ℕ, ◌<◌, ◌≤◌, List, length, Result, Ok, Err, inl, inr, ap, ◌∙◌}
use Rattle.std.specs.Prelude.{IfOk, IfErr, OnErr, OnOk}
use Rattle.std.proofs.lemmas.Bool.{cases_lt}
use Rattle.dia_ccf.specs.declared.fault.CcfFault.{CcfFault}
use Rattle.dia_ccf.specs.declared.fault.CcfFault.TheVariants as ccf
use Rattle.dia_ccf.specs.Faults.{IsFault}
use Rattle.dia_ccf.specs.Limits.{max_text}
use Rattle.dia_c_calls.specs.declared.opening.Problem.{Problem}
use Rattle.dia_c_calls.specs.Openings.{IsUnread, problem_of}

pub if_ok : {A E : Type 0} {P Q : A → Type 0} (r : Result A E) → ((x : A) → P x → Q x) → IfOk r P → IfOk r Q
if_ok (Ok x) f p = f x p
if_ok (Err e) f p = tt

pub if_err : {A E : Type 0} {P Q : E → Type 0} (r : Result A E) → ((e : E) → P e → Q e) → IfErr r P → IfErr r Q
if_err (Ok x) f p = tt
if_err (Err e) f p = f e p

pub on_ok : {A E : Type 0} {P Q : Type 0} (r : Result A E) → (P → Q) → OnOk r P → OnOk r Q
on_ok (Ok x) f p = f p
on_ok (Err e) f p = tt

pub on_err : {A E : Type 0} {P Q : Type 0} (r : Result A E) → (P → Q) → OnErr r P → OnErr r Q
on_err (Ok x) f p = tt
on_err (Err e) f p = f p

-- the fault of a text is its problem
pub has_fault : (text : List ℕ) (fault : CcfFault) (p : Problem) → (max_text < length text → fault ≡ ccf.Limit 0) → (length text ≤ max_text → IsFault text fault)
    → fault ≢ ccf.NoMemory → p ≡ problem_of fault → IsUnread text p
has_fault text fault p long short live is =
    elim (cases_lt max_text (length text)) [
      | inl more ↦ IsUnread.too_long more (is ∙ ap problem_of (long more))
      | inr within ↦ IsUnread.fault fault (short within) live is
    ]
