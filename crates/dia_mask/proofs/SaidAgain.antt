-- New data of which a format says what it says of those that they replace.
use Rattle.std.proofs.Common.{◌≡◌, ℕ, ◌≤◌, List, ◌++◌, length, take, drop, Option, Some, None, refl, sym, ap, subst, ◌∙◌, arith, inl, inr}
use Rattle.std.specs.Prelude.{◌↔◌}
use Rattle.std.proofs.lemmas.List.{length-append, length-drop, length-replicate, length-take, take_at}
use Rattle.dia_data.specs.Number.{number}
use Rattle.dia_data.specs.Leaf.{IsAddress}
use Rattle.dia_data.specs.Plain.{AnyName, PlainFormat, AnyBytes, FourBytes, EightBytes, Grouped, Address, Utf8String, DiameterIdentity, DiameterUri, Enumerated, OctetString, IpFilterRule, QosFilterRule}
use Rattle.dia_data.proofs.Addresses.{address_from_long, long_from_address}
use Rattle.dia_data.proofs.Leaves.{IsSame, IsLeafAnswer-same}
use Rattle.dia_mask.specs.Replaced.{IsByWay, IsNewData, IsSameSaid, IsText, IsTextWay, Numbering, new_bytes, new_utf8, text_start, way}
use Rattle.dia_mask.proofs.Replacing.{accepted_utf8}
use Rattle.dia_mask.proofs.SameLengths.{bytes_size, rule_size, utf8_size}
use Rattle.dia_mask.proofs.TextsAgain.{identity_again, uri_again, utf8_again}

-- ---- formats

flip : (f : PlainFormat) (bytes new : List ℕ) → IsSame f bytes new → IsSame f new bytes
flip f bytes new s = record { leaf = (s.leaf.1, s.leaf.0); fits = (s.fits.1, s.fits.0) }

said : (f : PlainFormat) (bytes new : List ℕ) → length new ≡ length bytes → IsSame f bytes new → IsSameSaid (Some f) bytes new
said f bytes new size s = (size, λ says. (IsLeafAnswer-same says f bytes new s, IsLeafAnswer-same says f new bytes (flip f bytes new s)))

same_data : (f : PlainFormat) (bytes new : List ℕ) → new ≡ bytes → IsSameSaid (Some f) bytes new
same_data f bytes new is = subst (IsSameSaid (Some f) bytes) (sym is) (refl, λ says. (λ x. x, λ x. x))

any : (name : AnyName) (bytes new : List ℕ) → length new ≡ length bytes → IsSameSaid (Some (AnyBytes name)) bytes new
any name bytes new size = said (AnyBytes name) bytes new size (record { leaf = (λ x. x, λ x. x); fits = (λ x. x, λ x. x) })

-- the same front of two bytes, and the same length
long_again : (bytes new : List ℕ) → length new ≡ length bytes → take 2 new ≡ take 2 bytes → IsAddress bytes → IsAddress new
long_again bytes new size front a =
    let l = long_from_address bytes a in
    address_from_long new (record {
      family = omega (arith, size, l.family);
      ipv4 = λ e. size ∙ l.ipv4 (ap number (sym front) ∙ e);
      ipv6 = λ e. size ∙ l.ipv6 (ap number (sym front) ∙ e);
    })

module _ (numbers : Numbering) (bytes new : List ℕ) where
  new_size : new ≡ new_bytes numbers bytes → length new ≡ length bytes
  new_size is = ap length is ∙ bytes_size numbers bytes

  address_size : new ≡ take 2 bytes ++ new_bytes numbers (drop 2 bytes) → length new ≡ length bytes
  address_size is =
      ap length is ∙ length-append (take 2 bytes) (new_bytes numbers (drop 2 bytes))
      ∙ omega (arith, bytes_size numbers (drop 2 bytes), length-take 2 bytes, length-drop 2 bytes)

  -- an address has a family
  address_front : new ≡ take 2 bytes ++ new_bytes numbers (drop 2 bytes) → 2 ≤ length bytes → take 2 new ≡ take 2 bytes
  address_front is long =
      ap (take 2) is ∙ take_at (take 2 bytes) (new_bytes numbers (drop 2 bytes)) 2 (omega (arith, long, length-take 2 bytes))

  address_too : new ≡ take 2 bytes ++ new_bytes numbers (drop 2 bytes) → IsAddress bytes ↔ IsAddress new
  address_too is = (
    λ a. let l = long_from_address bytes a in long_again bytes new (address_size is) (address_front is l.family) a,
    λ a. let l = long_from_address new a in
        let long : 2 ≤ length bytes = omega (arith, l.family, address_size is) in
        long_again new bytes (sym (address_size is)) (sym (address_front is long)) a,
  )

  text_size : (f : PlainFormat) (refused : ℕ) → IsTextWay f → IsText numbers f refused bytes new → length new ≡ length bytes
  text_size f refused text (inl (leaf, is)) =
      let at = text_start f bytes in
      ap length is ∙ length-append (take at bytes) (new_utf8 numbers (drop at bytes))
      ∙ omega (arith, utf8_size numbers (drop at bytes) (accepted_utf8 f bytes text leaf), length-take at bytes, length-drop at bytes)
  text_size f refused text (inr (no_leaf, is)) = ap length is ∙ length-replicate (length bytes) refused

  pub said_again : (f : PlainFormat) → IsByWay numbers f (way f) bytes new → IsSameSaid (Some f) bytes new
  said_again (AnyBytes OctetString) is = any OctetString bytes new (new_size is)
  said_again (AnyBytes IpFilterRule) rule = any IpFilterRule bytes new (rule_size numbers bytes new rule)
  said_again (AnyBytes QosFilterRule) rule = any QosFilterRule bytes new (rule_size numbers bytes new rule)
  said_again (FourBytes name) is =
      let size = new_size is in said (FourBytes name) bytes new size (record { leaf = (λ e. size ∙ e, λ e. sym size ∙ e); fits = (λ e. size ∙ e, λ e. sym size ∙ e) })
  said_again (EightBytes name) is =
      let size = new_size is in said (EightBytes name) bytes new size (record { leaf = (λ e. size ∙ e, λ e. sym size ∙ e); fits = (λ e. size ∙ e, λ e. sym size ∙ e) })
  said_again Grouped is = same_data Grouped bytes new is
  said_again Address is = said Address bytes new (address_size is) (record { leaf = address_too is; fits = address_too is })
  said_again Utf8String text = said Utf8String bytes new (text_size Utf8String 255 (255, refl) text) (record { leaf = utf8_again numbers bytes new text; fits = (λ x. x, λ x. x) })
  said_again DiameterIdentity text =
      said DiameterIdentity bytes new (text_size DiameterIdentity 32 (32, refl) text) (record { leaf = identity_again numbers bytes new text; fits = (λ x. x, λ x. x) })
  said_again DiameterUri text = said DiameterUri bytes new (text_size DiameterUri 120 (120, refl) text) (record { leaf = uri_again numbers bytes new text; fits = (λ x. x, λ x. x) })
  said_again (Enumerated None) is =
      let size = new_size is in
      said (Enumerated None) bytes new size (record { leaf = (λ h. (size ∙ h.0, tt), λ h. (sym size ∙ h.0, tt)); fits = (λ e. size ∙ e, λ e. sym size ∙ e) })
  said_again (Enumerated (Some ranges)) is = same_data (Enumerated (Some ranges)) bytes new is

  pub unknown_again : new ≡ new_bytes numbers bytes → IsSameSaid None bytes new
  unknown_again is = new_size is

-- a format says the same of new data, where there is a format
pub new_said : (numbers : Numbering) (f : Option PlainFormat) (bytes new : List ℕ) → IsNewData numbers f bytes new → IsSameSaid f bytes new
new_said numbers None bytes new is = unknown_again numbers bytes new is
new_said numbers (Some f) bytes new is = said_again numbers bytes new f is
