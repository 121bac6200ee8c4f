-- An AVP of the dictionary's own: its bytes, and that it has the flags that the dictionary wants.
use Rattle.std.proofs.Common.{◌≡◌, ℕ, ◌+◌, ◌<◌, ◌^◌, ◌↔◌, Bool, true, false, nat_lt, if◌then◌else◌, List, ◌++◌, length, Option, Some, None, is_some, IsSome, IfSome, Ok, Err, refl, sym, ap, subst, ◌∙◌, append_assoc, arith, inl, inr}
use Rattle.std.specs.Prelude.{◌⊎◌}
use Rattle.std.specs.Option.{option_map}
use Rattle.std.proofs.lemmas.Bool.{ltb-true}
use Rattle.dia_wire.specs.Wire.{PlainAvp, Spells, IsVendorField, HasVendorFlag, Agrees}
use Rattle.dia_wire.specs.Written.{vendor_bytes, padding}
use Rattle.dia_wire.proofs.Written.{avp_spelled, four}
use Rattle.dia_terms.specs.declared.MRule.{MRule}
use Rattle.dia_terms.specs.declared.MRule.TheVariants.{Must, MustNot, Any}
use Rattle.dia_book.specs.Dictionary.{Dictionary, DictEntry}
use Rattle.dia_valid.specs.Valid.{MHolds}
use Rattle.dia_text.specs.declared.fault.Kind.TheVariants.{Limit}
use Rattle.dia_text.specs.declared.line.Head.{Head}
use Rattle.dia_text.specs.Keys.{m_flag}
use Rattle.dia_text.specs.Drafts.{front_bytes, full_length, avp_of}
use Rattle.dia_text.specs.ValidTexts.{IsOwn}
use Rattle.dia_text.proofs.ValidFields.{CodeFits}

-- the AVP of a line's head and data
abbrev pub drawn : Head → List ℕ → PlainAvp
drawn head bytes = record { code = head.code.code; flags = head.flags; vendor = head.code.vendor; bytes = bytes }

-- ---- the flags that a line doesn't say

abbrev flags_by : Option ℕ → Option MRule → ℕ
flags_by vendor rule = (if is_some vendor then 128 else 0) + m_flag rule

v_flag : (vendor : Option ℕ) (rule : MRule) → HasVendorFlag (flags_by vendor (Some rule)) ↔ IsSome vendor
v_flag None Must = (λ h. absurd (h refl), λ e. absurd (let f : false ≡ true = e in cc))
v_flag None MustNot = (λ h. absurd (h refl), λ e. absurd (let f : false ≡ true = e in cc))
v_flag None Any = (λ h. absurd (h refl), λ e. absurd (let f : false ≡ true = e in cc))
v_flag (Some n) Must = (λ h. refl, λ e z. omega (arith, z))
v_flag (Some n) MustNot = (λ h. refl, λ e z. omega (arith, z))
v_flag (Some n) Any = (λ h. refl, λ e z. omega (arith, z))

m_holds : (vendor : Option ℕ) (rule : MRule) → MHolds rule (flags_by vendor (Some rule))
m_holds None Must = λ z. omega (arith, z)
m_holds None MustNot = λ h. h refl
m_holds None Any = tt
m_holds (Some n) Must = λ z. omega (arith, z)
m_holds (Some n) MustNot = λ h. h refl
m_holds (Some n) Any = tt

flags_are : (d : Dictionary) (head : Head) (e : DictEntry) → IsOwn d head e → head.flags ≡ flags_by head.code.vendor (Some e.rule)
flags_are d head e own = own.flags ∙ ap (λ (o : Option DictEntry). flags_by head.code.vendor (option_map (λ x. x.rule) o)) own.known

pub own_agrees : (d : Dictionary) (head : Head) (e : DictEntry) (bytes : List ℕ) → IsOwn d head e → Agrees (drawn head bytes)
own_agrees d head e bytes own = subst (λ (f : ℕ). HasVendorFlag f ↔ IsSome head.code.vendor) (sym (flags_are d head e own)) (v_flag head.code.vendor e.rule)

pub own_m : (d : Dictionary) (head : Head) (e : DictEntry) → IsOwn d head e → MHolds e.rule head.flags
own_m d head e own = subst (MHolds e.rule) (sym (flags_are d head e own)) (m_holds head.code.vendor e.rule)

-- ---- its bytes

vendor_field : (o : Option ℕ) → IfSome o (λ n. n < 2 ^ 32) → IsVendorField o (vendor_bytes o)
vendor_field None h = refl
vendor_field (Some n) h = four n h

-- the bytes that a line adds
abbrev pub bytes_drawn : Head → List ℕ → List ℕ
bytes_drawn head bytes = front_bytes head (full_length head (length bytes)) ++ (bytes ++ padding (full_length head (length bytes)))

pub own_spells : (d : Dictionary) (head : Head) (e : DictEntry) (bytes : List ℕ) → IsOwn d head e → CodeFits head.code → full_length head (length bytes) < 2 ^ 24 → Spells (drawn head bytes) (bytes_drawn head bytes)
own_spells d head e bytes own fits small =
    let v = drawn head bytes in
    let len = full_length head (length bytes) in
    subst (Spells v) (append_assoc (front_bytes head len) bytes (padding len))
    (avp_spelled v (own_agrees d head e bytes own) small (four head.code.code fits.0) (vendor_field head.code.vendor fits.1)).spells

-- it is added, or too long
pub added_or_long : (d : Dictionary) (head : Head) (e : DictEntry) (bytes : List ℕ) → IsOwn d head e → CodeFits head.code
    → (avp_of head bytes None ≡ Err Limit) ⊎ ((avp_of head bytes None ≡ Ok (bytes_drawn head bytes)) × Spells (drawn head bytes) (bytes_drawn head bytes))
unfolding avp_of
added_or_long d head entry bytes own fits = by (nat_lt len (2 ^ 24)) refl
  where
    len : ℕ
    len = full_length head (length bytes)

    by : (b : Bool) → nat_lt len (2 ^ 24) ≡ b → (avp_of head bytes None ≡ Err Limit) ⊎ ((avp_of head bytes None ≡ Ok (bytes_drawn head bytes)) × Spells (drawn head bytes) (bytes_drawn head bytes))
    by false e = inl (rw (own.length, e) refl)
    by true e = inr (rw (own.length, e) refl, own_spells d head entry bytes own fits (ltb-true len (2 ^ 24) e))
