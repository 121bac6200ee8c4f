-- What is wrong with a header, and with the body of the command that it selects.
use Rattle.std.proofs.Common.{◌≡◌, ℕ, Bool, true, false, List, [], ◌∷◌, ◌++◌, length, map, take, Option, Some, None, refl, sym, ap, subst, ◌∙◌}
use Rattle.std.specs.Prelude.{slice_get}
use Rattle.std.proofs.lemmas.List.{map-append}
use Rattle.dia_wire.specs.declared.Header.{Header}
use Rattle.dia_wire.specs.Wire.{IsHead, IsMessageLength}
use Rattle.dia_book.specs.declared.Class.{Class}
use Rattle.dia_book.specs.Dictionary.{Dictionary, PlainDefinition, definitions, has_command, selected}
use Rattle.dia_terms.specs.declared.Unknown.{Unknown}
use Rattle.dia_terms.specs.declared.Levels.{Levels}
use Rattle.dia_valid.specs.Valid.{class_of}
use Rattle.dia_check.specs.declared.fault.Reason.TheVariants as reason
use Rattle.dia_check.specs.Walks.{Found, fault_of, whole}
use Rattle.dia_check.proofs.HeaderAnswers.{has_length}
use Rattle.dia_faults.specs.declared.collector.Collector.{Collector}
use Rattle.dia_faults.specs.Collecting.{Adds}
use Rattle.dia_faults.specs.Levels.{IsListing}
use Rattle.dia_faults.specs.Messages.{AreAll, HasBits, HasBody, HasProxiable, body, no_application, no_command, of_header, whole_message}
use Rattle.dia_faults.proofs.Collecting.{adds_both}

-- two lists, one after the other
pub adds_found : (a b c : Collector) (xs ys : List Found) → Adds a b (map fault_of xs) → Adds b c (map fault_of ys) → Adds a c (map fault_of (xs ++ ys))
adds_found a b c xs ys first second = subst (Adds a c) (sym (map-append fault_of xs ys)) (adds_both a b c (map fault_of xs) (map fault_of ys) first second)

module _ (d : Dictionary) (u : Unknown) (most : Levels) (bytes : List ℕ) (h : Header) (class : Class) (same : class ≡ class_of h.flags) where
  selected_of : (o : Option ℕ) → o ≡ selected d h.code class h.app → selected d h.code (class_of h.flags) h.app ≡ o
  selected_of o e = ap (λ (c : Class). selected d h.code c h.app) (sym same) ∙ sym e

  commanded : (found b : Bool) → found ≡ has_command d h.code class → found ≡ b → has_command d h.code (class_of h.flags) ≡ b
  commanded found b e is = ap (λ (c : Class). has_command d h.code c) (sym same) ∙ sym e ∙ is

  pub without_command : (found : Bool) → found ≡ has_command d h.code class → found ≡ false → None ≡ selected d h.code class h.app → HasBody d u most bytes h (of_header 5 reason.Command ∷ [])
  without_command found e is none = no_command (commanded found false e is) (selected_of None none)

  pub without_application : (found : Bool) → found ≡ has_command d h.code class → found ≡ true → None ≡ selected d h.code class h.app → HasBody d u most bytes h (of_header 8 reason.Application ∷ [])
  without_application found e is none = no_application (commanded found true e is) (selected_of None none)

  pub with_command : (c : ℕ) (command : PlainDefinition) → Some c ≡ selected d h.code class h.app → slice_get (definitions d) c ≡ Some command → (a b e : Collector)
      → (p : List Found) × HasProxiable command h p × Adds a b (map fault_of p) → (fs : List Found) × IsListing d u most (whole command.rules bytes) fs × Adds b e (map fault_of fs)
      → (fs : List Found) × HasBody d u most bytes h fs × Adds a e (map fault_of fs)
  with_command c command select is_command a b e (p, is_p, first) (fs, listing, second) =
      (p ++ fs, body c command p fs (selected_of (Some c) select) is_command is_p listing refl, adds_found a b e p fs first second)

pub all_of_message : (d : Dictionary) (u : Unknown) (most : Levels) (bytes : List ℕ) (h : Header) → IsHead h (length bytes) (take 20 bytes) → IsMessageLength (length bytes) → (a b e : Collector)
    → (bits : List Found) × HasBits h bits × Adds a b (map fault_of bits) → (fs : List Found) × HasBody d u most bytes h fs × Adds b e (map fault_of fs)
    → (fs : List Found) × AreAll d u most bytes fs × Adds a e (map fault_of fs)
all_of_message d u most bytes h head sound a b e (bits, is_bits, first) (fs, is_body, second) =
    (bits ++ fs, whole_message h bits fs (has_length h (length bytes) bytes head sound) head is_bits is_body refl, adds_found a b e bits fs first second)
