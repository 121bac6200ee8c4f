-- An AVP by itself: the message that holds it alone is valid where it fits.
use Rattle.std.proofs.Common.{◌≡◌, ◌≢◌, ℕ, zero, suc, ◌+◌, Bool, false, List, [], ◌∷◌, length, map, inr, refl, sym, ap, subst, arith}
use Rattle.std.specs.Prelude.{IsTrue, ◌↔◌}
use Rattle.std.specs.List.{AllByRecursion}
use Rattle.dia_wire.specs.declared.Header.{Header}
use Rattle.dia_wire.specs.Wire.{PlainAvp, key_of, IsMessage, IsTooLong}
use Rattle.dia_book.specs.Dictionary.{Dictionary, groups}
use Rattle.dia_book.proofs.Members.{into_right}
use Rattle.dia_terms.specs.declared.Unknown.{Unknown}
use Rattle.dia_terms.specs.declared.Levels.{Levels}
use Rattle.dia_terms.specs.declared.Levels.TheVariants as levels
use Rattle.dia_valid.specs.Valid.{Fits, FitsBy, IsLevel, AllFit, Placed, IsValid, IsValidOf, HasR, HasE}
use Rattle.dia_check.specs.declared.Refusal.{Refusal}
use Rattle.dia_check.specs.declared.Refusal.TheVariants as refusal
use Rattle.dia_answer.specs.Dictionaries.{alone, any_command}
use Rattle.dia_answer.specs.Stocks.{IsFit}
use Rattle.dia_answer.proofs.Messages.{one_message}

-- a valid message is refused for no other reason than memory
pub refused : (d : Dictionary) (u : Unknown) (most : Levels) (bytes : List ℕ) (e : Refusal) → e ≢ refusal.NoMemory → ((c : ℕ) → IsValidOf d u most bytes c → e ≡ refusal.NoMemory)
    → IsTrue false ↔ IsValid d u most bytes
refused d u most bytes e other only = (λ (f : IsTrue false). absurd cc, λ valid. absurd (other (only valid.0 valid.1)))

-- an AVP fits by the entries of a dictionary alone
pub same_fits : (d : Dictionary) (u : Unknown) (n : ℕ) → Fits (alone d) u n ≡ Fits d u n
same_fits d u zero = refl
same_fits d u (suc n) = ap (λ (P : PlainAvp → Type 0). FitsBy d u (IsLevel P)) (same_fits d u n)

pub same_all : (d : Dictionary) (u : Unknown) (most : Levels) (vs : List PlainAvp) → AllFit (alone d) u most vs ↔ AllFit d u most vs
same_all d u levels.Any vs =
    (λ h. (h.0, subst (λ (P : PlainAvp → Type 0). AllByRecursion P vs) (same_fits d u h.0) h.1), λ h. (h.0, subst (λ (P : PlainAvp → Type 0). AllByRecursion P vs) (sym (same_fits d u h.0)) h.1))
same_all d u (levels.AtMost n) vs =
    (λ h. subst (λ (P : PlainAvp → Type 0). AllByRecursion P vs) (same_fits d u n) h, λ h. subst (λ (P : PlainAvp → Type 0). AllByRecursion P vs) (sym (same_fits d u n)) h)

-- the header of the message
abbrev pub any_header : Header
any_header = record { flags = 32; code = 0; app = 0; hop = 0; e2e = 0 }

lone_placed : (v : PlainAvp) → Placed any_command.rules (map key_of (v ∷ []))
lone_placed v = record { rest = key_of v ∷ []; runs = refl; loose = (inr (refl, refl), tt); counts = ((omega arith, tt), tt) }

no_request : HasR 32 → ¬ HasE 32
no_request h = absurd (h refl)

pub lone_valid : (d : Dictionary) (u : Unknown) (most : Levels) (v : PlainAvp) (bytes : List ℕ) → IsMessage any_header (v ∷ []) bytes → IsValid (alone d) u most bytes ↔ AllFit d u most (v ∷ [])
lone_valid d u most v bytes message = (fits, valid)
  where
    fits : IsValid (alone d) u most bytes → AllFit d u most (v ∷ [])
    fits h = let o = one_message h.1.header any_header h.1.avps (v ∷ []) bytes h.1.message message in (same_all d u most (v ∷ [])).0 (subst (AllFit (alone d) u most) o.1 h.1.fit)

    valid : AllFit d u most (v ∷ []) → IsValid (alone d) u most bytes
    valid h = (
      length (groups d) + 0,
      record {
        header = any_header;
        avps = v ∷ [];
        command = any_command;
        message = message;
        no_error_request = no_request;
        no_repeated_answer = λ t. absurd (t refl);
        select = refl;
        is_command = into_right (groups d) (any_command ∷ []) 0 any_command refl;
        proxiable = tt;
        placed = lone_placed v;
        fit = (same_all d u most (v ∷ [])).1 h;
      },
    )

pub is_fit : (d : Dictionary) (u : Unknown) (most : Levels) (v : PlainAvp) (bytes : List ℕ) → ¬ IsTooLong (v ∷ []) → IsMessage any_header (v ∷ []) bytes → (ok : Bool) → IsTrue ok ↔ IsValid (alone d) u most bytes
    → IsTrue ok ↔ IsFit d u most v
is_fit d u most v bytes room message ok same =
    (λ h. record { room = room; fits = (lone_valid d u most v bytes message).0 (same.0 h) }, λ f. same.1 ((lone_valid d u most v bytes message).1 f.fits))
