-- M flags that are sent and not accepted.
use Rattle.std.proofs.Common.{◌≡◌, ℕ, zero, suc, Bool, true, false, Option, Some, None, refl, sym, subst, ◌∙◌, arith, inl, inr, bit_and}
use Rattle.std.specs.Prelude.{◌⊎◌, IsTrue, IsSome}
use Rattle.dia_wire.specs.declared.Key.{Key}
use Rattle.dia_wire.specs.Wire.{HasM}
use Rattle.dia_book.specs.Dictionary.{Dictionary, DictEntry, entry_of}
use Rattle.dia_terms.specs.declared.Unknown.{Unknown}
use Rattle.dia_terms.specs.declared.sends.Sends.{Sends}
use Rattle.dia_valid.specs.Valid.{known}
use Rattle.dia_valid.specs.Valid.{HasFlags}
use Rattle.dia_valid.proofs.Entries.{entry_here, not_known}
use Rattle.dia_breaking_sites.specs.Sent.{own_policy}
use Rattle.dia_breaking_avps.specs.declared.flags.MFlags.{MFlags}
use Rattle.dia_breaking_avps.specs.declared.breaking.HeadBreak.TheVariants.{Unknown as UnknownAvp, MBit}
use Rattle.dia_breaking_avps.specs.Breaks.{AcceptsFlags, RefusesFirst, IsRefusedHead}
use Rattle.dia_breaking_avps.specs.Answers.{IsAllowed, IsLeft, IsLeftFlag}

is_set : (flags : ℕ) → HasM flags ⊎ (¬ HasM flags)
is_set flags = by (bit_and flags 64) refl
  where
    by : (n : ℕ) → bit_and flags 64 ≡ n → HasM flags ⊎ (¬ HasM flags)
    by zero e = inr (λ some. some e)
    by (suc n) e = inl (λ none. let f : suc n ≡ 0 = sym e ∙ none in omega (arith, f))

not_both : (b : Bool) → b ≡ false → IsTrue b → ⊥
not_both b e f = absurd (let h : false ≡ true = sym e ∙ f in cc)

some_known : (d : Dictionary) (key : Key) (i : ℕ) → Some i ≡ entry_of d key → IsSome (known d key)
some_known d key i is = let (e, at, here) = entry_here d key i is in subst (λ (o : Option DictEntry). IsSome o) (sym here) refl

module _ (da db : Dictionary) (who : Sends) (u : Unknown) (key : Key) (sent accepted : MFlags) (own : Unknown) (is_own : own ≡ own_policy who) (sent_clear : IsAllowed da own key false sent.clear)
    (sent_set : IsAllowed da own key true sent.set) (accepted_clear : IsAllowed db u key false accepted.clear) (accepted_set : IsAllowed db u key true accepted.set) where
  ours : (flags : ℕ) → HasFlags da (own_policy who) key flags → HasFlags da own key flags
  ours flags h = subst (λ (p : Unknown). HasFlags da p key flags) (sym is_own) h

  theirs : (flags : ℕ) → HasFlags da own key flags → HasFlags da (own_policy who) key flags
  theirs flags h = subst (λ (p : Unknown). HasFlags da p key flags) is_own h

  pub accepts : IsLeftFlag sent accepted None → AcceptsFlags da db who u key
  accepts (clear, set) flags h = elim (is_set flags) [
    | inl m ↦ (accepted_set flags m).0 (set ((sent_set flags m).1 (ours flags h)))
    | inr n ↦ (accepted_clear flags n).0 (clear ((sent_clear flags n).1 (ours flags h)))
  ]

  pub refuses : (m : Bool) → IsLeft sent accepted m → RefusesFirst da db who u key m
  refuses false (some, none) = (
    λ flags n. (theirs flags ((sent_clear flags n).0 some), λ h. not_both accepted.clear none ((accepted_clear flags n).1 h)),
    λ e. absurd (let h : false ≡ true = e in cc),
  )
  refuses true (some, none, clear) = (
    λ flags m. (theirs flags ((sent_set flags m).0 some), λ h. not_both accepted.set none ((accepted_set flags m).1 h)),
    λ e flags n h. (accepted_clear flags n).0 (clear ((sent_clear flags n).1 (ours flags h))),
  )

  pub head_known : (m : Bool) → IsLeft sent accepted m → (i : ℕ) → Some i ≡ entry_of db key → IsRefusedHead da db who u key (MBit m)
  head_known m left i is = (some_known db key i is, refuses m left)

  pub head_unknown : (m : Bool) → IsLeft sent accepted m → None ≡ entry_of db key → IsRefusedHead da db who u key (UnknownAvp m)
  head_unknown m left is = (not_known db key is, refuses m left)
