-- The AVPs of a dictionary, kept one by one by what lines call them.
use Rattle.std.proofs.Common.{◌≡◌, ◌∙◌, ℕ, ◌+◌, ◌<◌, ◌≤◌, ◌⊎◌, Bool, true, false, cond, List, [], ◌∷◌, ◌++◌, Option, Some, None, String, length, take, get_or, refl, sym, ap, subst, arith, inl, inr}
use Rattle.std.specs.BTreeMap.{BTreeMap, get_by_text}
use Rattle.std.specs.Global.{Global}
use Rattle.std.specs.Prelude.{IfSome, ◌||◌, find, slice_get}
use Rattle.std.specs.Option.{option_map, option_or}
use Rattle.std.specs.Str.{bytes_eq}
use Rattle.std.proofs.lemmas.List.{take_more}
use Rattle.std.proofs.lemmas.List.Folds.{find-append}
use Rattle.std.proofs.lemmas.Option.{same_Some, slice_get-get_or, slice_get_cases, slice_get_within}
use Rattle.dia_wire.specs.declared.Key.{Key}
use Rattle.dia_book.specs.Dictionary.{DictEntry}
use Rattle.dia_names.specs.Names.{key_text}
use Rattle.dia_upgrades_json.specs.Keys.{is_called}

abbrev key_of : DictEntry → Key
key_of e = e.key

-- the keys of these first AVPs are kept
abbrev pub AreKept : List DictEntry → ℕ → BTreeMap (String Global) Key → Type 0
AreKept xs i kept = (text : List ℕ) → get_by_text kept text ≡ option_map key_of (find (is_called text) (take i xs))

-- a text more, with this key, where there was none
abbrev pub IsFirstOf : List ℕ → Key → BTreeMap (String Global) Key → BTreeMap (String Global) Key → Type 0
IsFirstOf text key old new = (q : List ℕ) → get_by_text new q ≡ option_or (get_by_text old q) (cond (bytes_eq text q) (Some key) None)

-- one text and then another is either of both
either_is : (e : DictEntry) (o : Option DictEntry) (a b : Bool)
    → option_or (option_or (option_map key_of o) (cond a (Some e.key) None)) (cond b (Some e.key) None) ≡ option_map key_of (option_or o (cond (a || b) (Some e) None))
either_is e (Some x) a b = refl
either_is e None true b = refl
either_is e None false true = refl
either_is e None false false = refl

-- one AVP more
one_kept : (xs : List DictEntry) (i : ℕ) (e : DictEntry) → slice_get xs i ≡ Some e → (old mid new : BTreeMap (String Global) Key)
    → IsFirstOf e.name e.key old mid → IsFirstOf (key_text e.key) e.key mid new → AreKept xs i old → AreKept xs (i + 1) new
one_kept xs i e at old mid new named numbered kept q =
    numbered q ∙ (λ j. option_or (named q j) (cond (bytes_eq (key_text e.key) q) (Some e.key) None))
    ∙ (λ j. option_or (option_or (kept q j) (cond (bytes_eq e.name q) (Some e.key) None)) (cond (bytes_eq (key_text e.key) q) (Some e.key) None))
    ∙ either_is e (find (is_called q) (take i xs)) (bytes_eq e.name q) (bytes_eq (key_text e.key) q)
    ∙ sym (ap (option_map key_of) (ap (find (is_called q)) one_longer ∙ find-append (is_called q) (take i xs) (e ∷ [])))
  where
    one_longer : take (i + 1) xs ≡ take i xs ++ e ∷ []
    one_longer =
        let within = slice_get_within xs i e at in
        let here : get_or xs i e ≡ e = same_Some (get_or xs i e) e (sym (slice_get-get_or xs i e within) ∙ at) in
        take_more xs i e within ∙ ap (λ (x : DictEntry). take i xs ++ x ∷ []) here

-- the same, of the AVP that is read there
pub more_kept : (xs : List DictEntry) (i j : ℕ) (name number : List ℕ) (key : Key) (old mid new : BTreeMap (String Global) Key) → i < length xs → j ≡ i
    → IfSome (slice_get xs j) (λ x. name ≡ x.name) → IfSome (slice_get xs j) (λ x. key ≡ x.key) → number ≡ key_text key
    → IsFirstOf name key old mid → IsFirstOf number key mid new → AreKept xs i old → AreKept xs (i + 1) new
more_kept xs i j name number key old mid new within same is key_is number_is named numbered kept = by (slice_get_cases xs i).1
  where
    by : ((e : DictEntry) × (i < length xs) × (slice_get xs i ≡ Some e) × (get_or xs i e ≡ e)) ⊎ ((length xs ≤ i) × (slice_get xs i ≡ None)) → AreKept xs (i + 1) new
    by (inr (past, none)) = absurd (omega (arith, within, past))
    by (inl (e, less, at, got)) =
        let there : slice_get xs j ≡ Some e = ap (slice_get xs) same ∙ at in
        let n : name ≡ e.name = subst (λ (o : Option DictEntry). IfSome o (λ x. name ≡ x.name)) there is in
        let k : key ≡ e.key = subst (λ (o : Option DictEntry). IfSome o (λ x. key ≡ x.key)) there key_is in
        one_kept xs i e at old mid new
        (subst (λ (t : List ℕ). IsFirstOf t e.key old mid) n (subst (λ (x : Key). IsFirstOf name x old mid) k named))
        (subst (λ (t : List ℕ). IsFirstOf t e.key mid new) (number_is ∙ ap key_text k) (subst (λ (x : Key). IsFirstOf number x mid new) k numbered))
        kept
