use Rattle.std.proofs.Common.{◌≡◌, ◌≢◌, ◌↔◌, IsTrue, ℕ, List, false, sym, subst}
use Rattle.dia_dict.specs.Base.{base}
use Rattle.dia_book.specs.Dictionary.{Dictionary}
use Rattle.dia_check.specs.declared.Unknown.TheVariants.{Kept}
use Rattle.dia_check.specs.declared.Levels.TheVariants.{Any}
use Rattle.dia_check.specs.declared.Refusal.{Refusal}
use Rattle.dia_check.specs.declared.Refusal.TheVariants as refusal
use Rattle.dia_valid.specs.Valid.{IsValid, IsValidOf}
use Rattle.dia_peer.proofs.base_book.BaseBook.is_valid.Goals as goal

-- a valid message is refused only by an allocation failure
refused : (d : Dictionary) (bytes : List ℕ) (e : Refusal) → d ≡ base → e ≢ refusal.NoMemory → ((c : ℕ) → IsValidOf d Kept Any bytes c → e ≡ refusal.NoMemory)
    → IsTrue false ↔ IsValid base Kept Any bytes
refused d bytes e is other only = (λ (f : IsTrue false). absurd cc, λ valid. absurd (other (only valid.0 (subst (λ (x : Dictionary). IsValidOf x Kept Any bytes valid.0) (sym is) valid.1))))

pub returns-in-Err-Fault : goal.returns-in-Err-Fault
returns-in-Err-Fault c = refused _ _ c.in-Err-Fault.field-0 c.args.self.now.is_base (λ e. let f = c.in-Err-Fault.field-0-is in cc) c.in-Err-Fault.ensures.valid

pub returns-in-Err-Truncated : goal.returns-in-Err-Truncated
returns-in-Err-Truncated c = refused _ _ c.in-Err-Truncated.field-0 c.args.self.now.is_base (λ e. let f = c.in-Err-Truncated.field-0-is in cc) c.in-Err-Truncated.ensures.valid

pub returns-in-Err-Trailing : goal.returns-in-Err-Trailing
returns-in-Err-Trailing c = refused _ _ c.in-Err-Trailing.field-0 c.args.self.now.is_base (λ e. let f = c.in-Err-Trailing.field-0-is in cc) c.in-Err-Trailing.ensures.valid
