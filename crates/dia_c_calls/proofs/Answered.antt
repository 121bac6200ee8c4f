-- The answer to a request, from its parts.
use Rattle.std.proofs.Common.{◌≡◌, ℕ, List, Option, Some, Ok, Err, refl, subst, sym}
use Rattle.std.specs.Prelude.{IfSome}
use Rattle.dia_book.specs.Dictionary.{Dictionary}
use Rattle.dia_terms.specs.declared.Unknown.{Unknown}
use Rattle.dia_terms.specs.declared.Levels.{Levels}
use Rattle.dia_check.specs.declared.fault.Refusal.TheVariants as refusal
use Rattle.dia_check.specs.Faults.{IsRecorded}
use Rattle.dia_answer.specs.declared.forms.Made.{Made}
use Rattle.dia_answer.specs.Reports as reports
use Rattle.dia_c_calls.specs.declared.reply.Answered.{Answered}
use Rattle.dia_c_calls.specs.declared.reply.Reply.TheVariants as reply
use Rattle.dia_c_calls.specs.Held.{text_in}
use Rattle.dia_c_calls.specs.Replies.{IsAnswered, IsUnanswered, form_number}
use Rattle.dia_c_calls.specs.Verdicts.{IsVerdictOn, fault_verdict}

same_answer : (a b : Answered) → reply.Made a ≡ reply.Made b → a ≡ b
same_answer a b is = cc

-- the text of the answer that was made
pub is_answered : (d : Dictionary) (u : Unknown) (most : Levels) (host realm request : List ℕ) (made : Made) (a b : Answered)
    → reports.IsAnswered d u most host realm request (Ok made)
    → text_in (Some a.text.value) ≡ Some made.bytes.items → a.form ≡ form_number made.form → a.verdict ≡ fault_verdict made.fault
    → reply.Made a ≡ reply.Made b → IfSome (text_in (Some b.text.value)) (λ bytes. IsAnswered d u most host realm request bytes b.form b.verdict)
is_answered d u most host realm request made a b is_due text form verdict same =
    subst (λ (x : Answered). IfSome (text_in (Some x.text.value)) (λ bytes. IsAnswered d u most host realm request bytes x.form x.verdict)) (same_answer a b same)
    (subst (λ (found : Option (List ℕ)). IfSome found (λ bytes. IsAnswered d u most host realm request bytes a.form a.verdict)) (sym text)
    (made, is_due, refl, form, verdict))

-- its verdict is that of a check
pub is_checked : (d : Dictionary) (u : Unknown) (most : Levels) (request : List ℕ) (made : Made) (a b : Answered) → IsRecorded d u most request made.fault
    → a.verdict ≡ fault_verdict made.fault → reply.Made a ≡ reply.Made b → IsVerdictOn d u most request b.verdict
is_checked d u most request made a b recorded verdict same =
    subst (λ (x : Answered). IsVerdictOn d u most request x.verdict) (same_answer a b same) (Err (refusal.Fault made.fault), recorded, verdict)

-- no answer by equal policies, limits and names
pub same_unanswered : (d : Dictionary) (u v : Unknown) (m n : Levels) (host other realm second request : List ℕ) → u ≡ v → m ≡ n → host ≡ other → realm ≡ second
    → IsUnanswered d u m host realm request → IsUnanswered d v n other second request
same_unanswered d u v m n host other realm second request policy limit is_host is_realm is =
    subst (λ x. IsUnanswered d x n other second request) policy
    (subst (λ x. IsUnanswered d u x other second request) limit
    (subst (λ x. IsUnanswered d u m x second request) is_host
    (subst (λ x. IsUnanswered d u m host x request) is_realm is)))
