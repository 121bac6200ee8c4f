-- The header of a message, and what is answered of it.
use Rattle.std.proofs.Common.{◌≡◌, ℕ, Bool, true, false, List, length, take, Option, Some, None, refl, sym, ap, subst, ◌∙◌, inr}
use Rattle.std.specs.Prelude.{slice_get, Err, ◌⊎◌}
use Rattle.dia_wire.specs.declared.Header.{Header}
use Rattle.dia_wire.specs.Wire.{IsHead, IsMessageLength}
use Rattle.dia_wire.proofs.OneHeader.{head_says}
use Rattle.dia_book.specs.declared.Class.{Class}
use Rattle.dia_book.specs.Dictionary.{Dictionary, IsDictionary, PlainDefinition, definitions, selected, has_command}
use Rattle.dia_terms.specs.declared.Unknown.{Unknown}
use Rattle.dia_terms.specs.declared.Levels.{Levels}
use Rattle.dia_check.specs.declared.fault.Fault.{Fault}
use Rattle.dia_check.specs.declared.fault.Reason.TheVariants as reason
use Rattle.dia_check.specs.declared.fault.Refusal.{Refusal}
use Rattle.dia_check.specs.declared.fault.Refusal.TheVariants as refusal
use Rattle.dia_valid.specs.Valid.{HasR, HasE, HasT, class_of, AllowsP}
use Rattle.dia_check.specs.Faults.{HasGoodHeader, HasHeader, HasLength, IsAnswer, simple}
use Rattle.dia_check.specs.Walks.{IsFoundIn, whole}
use Rattle.dia_check.proofs.CheckAnswers.{bits_first, proxiable_first, command_first, application_first, walk_answers}

pub has_length : (h : Header) (n : ℕ) (bytes : List ℕ) → IsHead h n (take 20 bytes) → IsMessageLength n → HasLength bytes n
has_length h n bytes head sound = let says = head_says h n bytes head in record { long = says.0; version = says.1; is_length = sym says.2; sound = sound }

abbrev GoodBits : Header → Type 0
GoodBits h = (HasR h.flags → ¬ HasE h.flags) × (HasT h.flags → HasR h.flags)

module _ (d : Dictionary) (sound : IsDictionary d) (u : Unknown) (most : Levels) (bytes : List ℕ) (sized : HasLength bytes (length bytes)) (h : Header) (is : HasHeader bytes h) where
  pub bad_bits : (HasR h.flags × HasE h.flags) ⊎ (HasT h.flags × (¬ HasR h.flags)) → IsAnswer d u most bytes (Err (refusal.Fault (simple 4 reason.Bits)))
  bad_bits bad = inr (inr (sized, bits_first d sound u most bytes h is bad))

  module _ (bits : GoodBits h) (class : Class) (same : class ≡ class_of h.flags) where
    selected_of : (o : Option ℕ) → o ≡ selected d h.code class h.app → selected d h.code (class_of h.flags) h.app ≡ o
    selected_of o e = ap (λ (c : Class). selected d h.code c h.app) (sym same) ∙ sym e

    pub good : (c : ℕ) (command : PlainDefinition) → Some c ≡ selected d h.code class h.app → slice_get (definitions d) c ≡ Some command → AllowsP command.head h.flags
        → (g : HasGoodHeader d bytes) × (g.c ≡ c)
    good c command select is_command allows =
        (record { header = h; is_header = is; bits = bits; c = c; select = selected_of (Some c) select; command = command; is_command = is_command; proxiable = allows }, refl)

    pub not_proxiable : (c : ℕ) (command : PlainDefinition) → Some c ≡ selected d h.code class h.app → slice_get (definitions d) c ≡ Some command → ¬ AllowsP command.head h.flags
        → IsAnswer d u most bytes (Err (refusal.Fault (simple 4 reason.Proxiable)))
    not_proxiable c command select is_command bad = inr (inr (sized, proxiable_first d sound u most bytes h c command is bits (selected_of (Some c) select) is_command bad))

    pub no_command : (found : Bool) → found ≡ has_command d h.code class → found ≡ false → IsAnswer d u most bytes (Err (refusal.Fault (simple 5 reason.Command)))
    no_command found e none = inr (inr (sized, command_first d sound u most bytes h is bits (ap (λ (c : Class). has_command d h.code c) (sym same) ∙ sym e ∙ none)))

    pub no_application : (found : Bool) → found ≡ has_command d h.code class → found ≡ true → None ≡ selected d h.code class h.app
        → IsAnswer d u most bytes (Err (refusal.Fault (simple 8 reason.Application)))
    no_application found e some none = inr (inr (
      sized,
      application_first d sound u most bytes h is bits (ap (λ (c : Class). has_command d h.code c) (sym same) ∙ sym e
          ∙ some) (selected_of None none),
    ))

module _ (d : Dictionary) (sound : IsDictionary d) (u : Unknown) (most : Levels) (bytes : List ℕ) (sized : HasLength bytes (length bytes)) (good : HasGoodHeader d bytes) where
  pub found_answers : (e : Refusal) → IsFoundIn d u most (whole good.command.rules bytes) e → IsAnswer d u most bytes (Err e)
  found_answers (refusal.Fault f) (h, walk, is) = subst (λ (x : Fault). IsAnswer d u most bytes (Err (refusal.Fault x))) (sym is) (walk_answers d sound u most bytes sized good (Some h) walk)
  found_answers refusal.NoMemory h = tt
  found_answers refusal.Truncated h = absurd h
  found_answers refusal.Trailing h = absurd h
  found_answers refusal.Spent h = absurd h
