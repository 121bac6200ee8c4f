-- AVP Flags without the V flag.
use Rattle.std.proofs.Common.{◌≡◌, ℕ, true, false, Option, Some, None, ap, ◌∙◌, refl}
use Rattle.std.specs.Prelude.{bit_and, IsSome, ◌↔◌}
use Rattle.std.specs.Option.{option_map_or}
use Rattle.std.specs.Int.Bits.{and_zero_r}
use Rattle.std.proofs.lemmas.Nat.{and_assoc}
use Rattle.dia_wire.specs.Wire.{HasVendorFlag}
use Rattle.dia_book.specs.declared.MRule.{MRule}
use Rattle.dia_book.specs.declared.MRule.TheVariants.{Must, MustNot, Any}
use Rattle.dia_book.specs.Dictionary.{Dictionary, DictEntry}
use Rattle.dia_wire.specs.declared.Key.{Key}
use Rattle.dia_valid.specs.Valid.{known}
use Rattle.dia_answer.specs.Stocks.{m_flag, rule_flag}

without_flag : (flags : ℕ) → bit_and flags 128 ≡ 0 → HasVendorFlag flags ↔ IsSome {T = ℕ} None
without_flag flags none = (λ h. absurd (h none), λ (h : false ≡ true). absurd cc)

-- the V flag taken out
pub cleared : (flags : ℕ) → HasVendorFlag (bit_and flags 127) ↔ IsSome {T = ℕ} None
cleared flags = without_flag (bit_and flags 127) (and_assoc 128 flags 127 ∙ and_zero_r flags)

rule_plain : (rule : MRule) → bit_and (rule_flag rule) 128 ≡ 0
rule_plain Must = refl
rule_plain MustNot = refl
rule_plain Any = refl

pub made_flags : (d : Dictionary) (key : Key) (flags : ℕ) → flags ≡ m_flag d key → HasVendorFlag flags ↔ IsSome {T = ℕ} None
made_flags d key flags is = without_flag flags (ap (λ n. bit_and n 128) is ∙ by (known d key))
  where
    by : (o : Option DictEntry) → bit_and (option_map_or (λ e. rule_flag e.rule) o 64) 128 ≡ 0
    by None = refl
    by (Some e) = rule_plain e.rule
