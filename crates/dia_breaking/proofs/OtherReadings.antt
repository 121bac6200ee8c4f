-- AVPs that are read as another format, as it is found.
use Rattle.std.proofs.Common.{◌≡◌, ℕ, Bool, false, Some, refl, sym, subst, ◌∙◌, arith, inl, inr}
use Rattle.std.specs.Prelude.{◌↔◌, IsTrue}
use Rattle.std.proofs.lemmas.Bool.{both_ways}
use Rattle.std.proofs.lemmas.Option.{same_Some}
use Rattle.dia_wire.specs.declared.Key.{Key}
use Rattle.dia_book.specs.declared.MRule.{MRule}
use Rattle.dia_book.specs.declared.MRule.TheVariants.{Must, MustNot, Any as AnyM}
use Rattle.dia_book.specs.Dictionary.{Dictionary}
use Rattle.dia_terms.specs.declared.Unknown.{Unknown}
use Rattle.dia_terms.specs.declared.Sends.{Sends}
use Rattle.dia_valid.specs.Valid.{MHolds}
use Rattle.dia_breaking_avps.specs.declared.breaking.DataBreak.{DataBreak}
use Rattle.dia_breaking_avps.specs.declared.breaking.DataBreak.TheVariants.{Groups}
use Rattle.dia_breaking_avps.specs.Breaks.{IsDataBreak, IsSilentData}
use Rattle.dia_breaking.specs.Meanings.{IsReadAsOther, ShareFlags, m_rule_in, share_flag}
use Rattle.dia_breaking.specs.Sides.{sides}
use Rattle.dia_breaking.proofs.Lists.{not_so}
use Rattle.dia_breaking.proofs.OwnBreaks.{has_group, silent_by_taken}

-- ---- flags

-- some M flag meets both rules
abbrev Meet : MRule → MRule → Type 0
Meet sent read = (flags : ℕ) × MHolds sent flags × MHolds read flags

met : (sent read : MRule) → IsTrue (share_flag sent read) → Meet sent read
met Must MustNot h = absurd (both_ways false refl h)
met MustNot Must h = absurd (both_ways false refl h)
met Must Must h = (64, (λ e. let bad : 64 ≡ 0 = e in omega (arith, bad)), (λ e. let bad : 64 ≡ 0 = e in omega (arith, bad)))
met Must AnyM h = (64, (λ e. let bad : 64 ≡ 0 = e in omega (arith, bad)), tt)
met AnyM Must h = (64, tt, (λ e. let bad : 64 ≡ 0 = e in omega (arith, bad)))
met MustNot MustNot h = (0, (λ m. m refl), (λ m. m refl))
met MustNot AnyM h = (0, (λ m. m refl), tt)
met AnyM MustNot h = (0, tt, (λ m. m refl))
met AnyM AnyM h = (0, tt, tt)

meet : (sent read : MRule) → Meet sent read → IsTrue (share_flag sent read)
meet Must MustNot (flags, is, not) = absurd (not is)
meet MustNot Must (flags, not, is) = absurd (not is)
meet Must Must h = refl
meet Must AnyM h = refl
meet AnyM Must h = refl
meet MustNot MustNot h = refl
meet MustNot AnyM h = refl
meet AnyM MustNot h = refl
meet AnyM AnyM h = refl

module _ (da db : Dictionary) (key : Key) where
  pub flags_shared : (sent read : MRule) (b : Bool) → m_rule_in da key ≡ Some sent → m_rule_in db key ≡ Some read → b ≡ share_flag sent read → IsTrue b ↔ ShareFlags da db key
  flags_shared sent read b in_a in_b is = (
    λ yes. let m = met sent read (sym is ∙ yes) in record { sent = sent; read = read; sent_is = in_a; read_is = in_b; flags = m.0; is_sent = m.1; is_read = m.2 },
    λ share.
        let first = subst (λ (r : MRule). MHolds r share.flags) (same_Some share.sent sent (sym share.sent_is ∙ in_a)) share.is_sent in
        let second = subst (λ (r : MRule). MHolds r share.flags) (same_Some share.read read (sym share.read_is ∙ in_b)) share.is_read in
        is ∙ meet sent read (share.flags, first, second),
  )

-- ---- data

module _ (da db : Dictionary) (who : Sends) (u : Unknown) (key : Key) where
  -- what both read level by level isn't read as another format
  pub groups_alike : (a b : ℕ) → IsDataBreak da db who u key (Groups a b) → IsTrue false ↔ IsReadAsOther (sides da db who u) key
  groups_alike a b both = not_so (IsReadAsOther (sides da db who u) key) (λ is. is.formats.other (inl (has_group da key a both.0, has_group db key b both.1)))

  -- what breaks by its data is reported as such
  pub broken_apart : (found : DataBreak) → IsDataBreak da db who u key found → (IsSilentData found → ⊥) → IsTrue false ↔ IsReadAsOther (sides da db who u) key
  broken_apart found content breaks = not_so (IsReadAsOther (sides da db who u) key) (λ is. breaks (silent_by_taken da db who u key found content (inr is.accepted)))
