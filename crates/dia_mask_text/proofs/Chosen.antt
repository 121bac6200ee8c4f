-- A choice that is made entry by entry.
use Rattle.std.proofs.Common.{◌≡◌, ◌≢◌, ℕ, ◌+◌, ◌<◌, ◌≤◌, Bool, true, false, List, length, Option, Some, None, sym, ap, ◌∙◌, arith, inl, inr}
use Rattle.std.specs.Prelude.{◌⊎◌, slice_get}
use Rattle.std.specs.Option.{option_map_or}
use Rattle.std.proofs.lemmas.Bool.{cases_lt}
use Rattle.std.proofs.lemmas.Option.{same_Some, slice_get_past}
use Rattle.dia_dict.specs.Dictionary.{Dictionary, DictEntry}
use Rattle.dia_mask.specs.declared.choice.Choice.{Choice}
use Rattle.dia_mask.specs.Choosing.{IsChosen, chosen, masked_by_format, masks}
use Rattle.dia_mask_text.specs.Names.{Lists, is_masked_by, masks_entry}

-- the first entries are chosen by a test, and the others
abbrev pub AreFirst : (DictEntry → Bool) → Bool → Dictionary → Choice → ℕ → Type 0
AreFirst f unknown d choice n = (k : ℕ) → k < n → masks choice (Some k) ≡ chosen f unknown d (Some k)

abbrev pub AreLeft : (DictEntry → Bool) → Bool → Dictionary → Choice → ℕ → Type 0
AreLeft f unknown d choice n = (k : ℕ) → n ≤ k → masks choice (Some k) ≡ chosen f unknown d (Some k)

module _ (d : Dictionary) (old new : Choice) (n : ℕ) (masked : Bool) (this : masks new (Some n) ≡ masked) (others : (avp : Option ℕ) → avp ≢ Some n → masks new avp ≡ masks old avp) where
  pub still_left : (f : DictEntry → Bool) (unknown : Bool) → AreLeft f unknown d old n → AreLeft f unknown d new (n + 1)
  still_left f unknown left k later = others (Some k) (λ same. let e : k ≡ n = same_Some k n same in omega (arith, later, e)) ∙ left k (omega (arith, later))

  pub one_more : (f : DictEntry → Bool) (unknown : Bool) (e : DictEntry) → slice_get d.entries n ≡ Some e → masked ≡ f e → AreFirst f unknown d old n → AreFirst f unknown d new (n + 1)
  one_more f unknown e at is first k less = by (cases_lt k n)
    where
      by : (k < n) ⊎ (n ≤ k) → masks new (Some k) ≡ chosen f unknown d (Some k)
      by (inl before) = others (Some k) (λ same. let e : k ≡ n = same_Some k n same in omega (arith, before, e)) ∙ first k before
      by (inr last) =
          let same : k ≡ n = omega (arith, less, last) in
          ap (λ (i : ℕ). masks new (Some i)) same ∙ this ∙ is ∙ sym (ap (λ (o : Option DictEntry). option_map_or f o false) (ap (slice_get d.entries) same ∙ at))

-- all entries are chosen, and nothing past them
pub all_chosen : (d : Dictionary) (old new : Choice) (n : ℕ) (f g : DictEntry → Bool) (unknown before : Bool) → length d.entries ≤ n → AreFirst f unknown d old n → AreLeft g before d old n
    → ((k : ℕ) → masks new (Some k) ≡ masks old (Some k)) → masks new None ≡ unknown → IsChosen f unknown d new
all_chosen d old new n f g unknown before all first left same is None = is
all_chosen d old new n f g unknown before all first left same is (Some k) = by (cases_lt k n)
  where
    past : n ≤ k → (t : DictEntry → Bool) → option_map_or t (slice_get d.entries k) false ≡ false
    past later t = ap (λ (o : Option DictEntry). option_map_or t o false) (slice_get_past d.entries k (omega (arith, all, later)))

    by : (k < n) ⊎ (n ≤ k) → masks new (Some k) ≡ chosen f unknown d (Some k)
    by (inl less) = same k ∙ first k less
    by (inr later) = same k ∙ left k later ∙ past later g ∙ sym (past later f)

pub none_yet : (f : DictEntry → Bool) (unknown : Bool) (d : Dictionary) (choice : Choice) → AreFirst f unknown d choice 0
none_yet f unknown d choice k less = absurd (omega (arith, less))

-- an entry is masked as the lists say, by its name and as its format was
pub masked_as : (l : Lists) (d : Dictionary) (old : Choice) (n entry : ℕ) (e : DictEntry) (masked by_format : Bool) (name : List ℕ) → entry ≡ n → slice_get d.entries n ≡ Some e
    → masked ≡ is_masked_by l by_format name → by_format ≡ masks old (Some entry) → AreLeft masked_by_format true d old n → name ≡ e.name → masked ≡ masks_entry l e
masked_as l d old n entry e masked by_format name same at is was left is_name =
    is
    ∙ ap (λ (b : Bool). is_masked_by l b name) (was ∙ ap (λ (k : ℕ). masks old (Some k)) same ∙ left n (omega arith) ∙ ap (λ (o : Option DictEntry). option_map_or masked_by_format o false) at)
    ∙ ap (is_masked_by l (masked_by_format e)) is_name
