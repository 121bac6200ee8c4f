-- What is recorded of the keys that are sent is all that there is to report.
use Rattle.std.proofs.Common.{◌≡◌, ℕ, zero, suc, Bool, true, false, List, [], ◌∷◌, ◌++◌, length, Option, Some, None, refl, sym, ap, subst, ◌∙◌, arith, inl, inr}
use Rattle.std.specs.Prelude.{◌⊎◌, ◌&&◌, is_some, IsSome, MatchOption, ⊤, Contains, slice_get, option_and_then, if◌then◌else◌}
use Rattle.std.specs.HashMap.{get}
use Rattle.std.proofs.lemmas.Bool.{both_ways}
use Rattle.std.proofs.lemmas.Option.{none-some}
use Rattle.dia_wire.specs.declared.Key.{Key}
use Rattle.dia_data.specs.Leaf.{IsLeaf}
use Rattle.dia_book.specs.Keys.{same_key}
use Rattle.dia_book.specs.Dictionary.{Dictionary, DictEntry, entry_of}
use Rattle.dia_book.proofs.SameKeys.{same_key-refl, same_key-true}
use Rattle.dia_terms.specs.declared.Unknown.{Unknown}
use Rattle.dia_terms.specs.declared.Sends.{Sends}
use Rattle.dia_valid.specs.Valid.{Fits as AvpFits, IsAccepted, IsLevel, MHolds, known}
use Rattle.dia_valid.specs.Valid.{HasFlags}
use Rattle.dia_breaking_sites.specs.Sent.{own_policy}
use Rattle.dia_breaking_avps.specs.declared.breaking.AvpBreaks.{AvpBreaks}
use Rattle.dia_breaking_avps.specs.declared.breaking.HeadBreak.{HeadBreak}
use Rattle.dia_breaking_avps.specs.Sent.{IsAcceptedData, group_of}
use Rattle.dia_breaking_avps.specs.Breaks.{AcceptsFlags, IsHeadBreak, IsSilent}
use Rattle.dia_breaking_avps.specs.Laws.{FitKeyAlone}
use Rattle.dia_valid.proofs.Members.{IsIn, in_contains, contains_in, in_append}
use Rattle.dia_breaking.specs.declared.keys.Own.{Own}
use Rattle.dia_breaking.specs.declared.keys.Recording.{Recording}
use Rattle.dia_breaking.specs.SentKeys.{IsStrange}
use Rattle.dia_breaking.specs.Recording.{Adds, AreRecorded, IsRecordedOf, is_news}
use Rattle.dia_breaking.specs.Sides.{sides}

-- ---- keys that a dictionary doesn't know

known_none : (d : Dictionary) (key : Key) → entry_of d key ≡ None → known d key ≡ None
known_none d key e = ap (λ (o : Option ℕ). option_and_then (λ i. slice_get d.entries i) o) e

flags_none : (d : Dictionary) (u : Unknown) (key : Key) (flags : ℕ) → entry_of d key ≡ None → HasFlags d u key flags → IsAccepted u flags
flags_none d u key flags none h = subst (λ (o : Option DictEntry). MatchOption o (IsAccepted u flags) (λ e. MHolds e.rule flags)) (known_none d key none) h

none_flags : (d : Dictionary) (u : Unknown) (key : Key) (flags : ℕ) → entry_of d key ≡ None → IsAccepted u flags → HasFlags d u key flags
none_flags d u key flags none h = subst (λ (o : Option DictEntry). MatchOption o (IsAccepted u flags) (λ e. MHolds e.rule flags)) (sym (known_none d key none)) h

pub no_group : (d : Dictionary) (key : Key) → entry_of d key ≡ None → IsSome (group_of d key) → ⊥
no_group d key none h = both_ways (is_some (group_of d key)) (ap (λ (o : Option DictEntry). is_some (option_and_then (λ e. e.group) o)) (known_none d key none)) h

-- one that it doesn't know may have any data
pub any_data : (d : Dictionary) (u : Unknown) (key : Key) (bytes : List ℕ) → entry_of d key ≡ None → IsAcceptedData d u key bytes
any_data d u key bytes none =
    subst (λ (o : Option DictEntry). MatchOption o ⊤ (λ e. MatchOption e.group (IsLeaf e.format bytes) (λ group. (n : ℕ) × IsLevel (AvpFits d u n) group.rules bytes)))
    (sym (known_none d key none)) tt

-- strange keys have the flags of one another
pub strange_flags : (da db : Dictionary) (who : Sends) (u : Unknown) (own key : Key) → IsStrange da db own → IsStrange da db key → AcceptsFlags da db who u own → AcceptsFlags da db who u key
strange_flags da db who u own key (none_a, none_b) (key_a, key_b) accepts flags h =
    none_flags db u key flags key_b (flags_none db u own flags none_b (accepts flags (none_flags da (own_policy who) own flags none_a (flags_none da (own_policy who) key flags key_a h))))

-- where nothing breaks, B accepts the flags
pub silent_of : (da db : Dictionary) (who : Sends) (u : Unknown) (key : Key) (breaks : AvpBreaks) → IsHeadBreak da db who u key breaks.head → (IsSilent breaks → FitKeyAlone da db who u key)
    → IsSilent breaks
    → AcceptsFlags da db who u key × FitKeyAlone da db who u key
silent_of da db who u key breaks is_head alone silent = (subst (λ (o : Option HeadBreak). IsHeadBreak da db who u key o) silent.0 is_head, alone silent)

-- ---- one key after the other

module _ (da db : Dictionary) (who : Sends) (u : Unknown) where
  module _ (keys : List Key) (key : Key) (own : Own) (old new : Recording) (recorded : AreRecorded (sides da db who u) keys old) (is : IsRecordedOf (sides da db who u) key own) (adds : Adds own old new) where
    own_alike : IsRecordedOf (sides da db who u) own.key own
    own_alike = subst (λ (k : Key). IsRecordedOf (sides da db who u) k own) (sym is.key_is) is

    placed_more : (q : Key) (place : ℕ) → (b c : Bool) → new.own.items ≡ (if b then old.own.items ++ own ∷ [] else old.own.items) → same_key own.key q ≡ c
        → (if b && c then Some (length old.own.items) else get same_key old.places q) ≡ Some place → (o : Own) × (slice_get new.own.items place ≡ Some o) × (o.key ≡ q)
    placed_more q place true true items same e =
        (own, ap (λ xs. slice_get xs place) items ∙ at_last old.own.items own place (ap (λ (o : Option ℕ). place_or o) e), same_key-true own.key q same)
      where
        place_or : Option ℕ → ℕ
        place_or None = place
        place_or (Some n) = n

        at_last : (xs : List Own) (x : Own) (n : ℕ) → length xs ≡ n → slice_get (xs ++ x ∷ []) n ≡ Some x
        at_last [] x zero e = refl
        at_last [] x (suc n) e = absurd (let bad : 0 ≡ suc n = e in omega (arith, bad))
        at_last (y ∷ xs) x zero e = absurd (let bad : suc (length xs) ≡ 0 = e in omega (arith, bad))
        at_last (y ∷ xs) x (suc n) e = at_last xs x n (let same : suc (length xs) ≡ suc n = e in omega (arith, same))
    placed_more q place true false items same e =
        let (o, at, k) = recorded.placed q place e in
        (o, ap (λ xs. slice_get xs place) items ∙ at_front old.own.items (own ∷ []) place o at, k)
      where
        at_front : (xs ys : List Own) (n : ℕ) (o : Own) → slice_get xs n ≡ Some o → slice_get (xs ++ ys) n ≡ Some o
        at_front [] ys n o at = absurd (none-some o at)
        at_front (x ∷ xs) ys zero o at = at
        at_front (x ∷ xs) ys (suc n) o at = at_front xs ys n o at
    placed_more q place false c items same e = let (o, at, k) = recorded.placed q place e in (o, ap (λ xs. slice_get xs place) items ∙ at, k)

    each_more : (b : Bool) → new.own.items ≡ (if b then old.own.items ++ own ∷ [] else old.own.items) → (o : Own) → Contains new.own.items o → IsRecordedOf (sides da db who u) o.key o
    each_more false items o i = recorded.each o (subst (λ xs. Contains xs o) items i)
    each_more true items o i = by (in_append old.own.items (own ∷ []) o (in_contains (old.own.items ++ own ∷ []) o (subst (λ xs. Contains xs o) items i)))
      where
        by : IsIn o old.own.items ⊎ IsIn o (own ∷ []) → IsRecordedOf (sides da db who u) o.key o
        by (inl j) = recorded.each o (contains_in old.own.items o j)
        by (inr (inl e)) = subst (λ (x : Own). IsRecordedOf (sides da db who u) x.key x) (sym e) own_alike
        by (inr (inr j)) = absurd j

    -- a key that has no place had none
    had_none : (q : Key) (b c : Bool) → (if b && c then Some (length old.own.items) else get same_key old.places q) ≡ None → (get same_key old.places q ≡ None) × ((b && c) ≡ false)
    had_none q true true e = absurd (let bad : Some (length old.own.items) ≡ None = e in cc)
    had_none q true false e = (e, refl)
    had_none q false c e = (e, refl)

    rest_more : (q : Key) → Contains (keys ++ key ∷ []) q → get same_key new.places q ≡ None → (o : Own) × IsRecordedOf (sides da db who u) q o × (is_news o ≡ false)
    rest_more q i e = by (in_append keys (key ∷ []) q (in_contains (keys ++ key ∷ []) q i)) (had_none q (is_news own) (same_key own.key q) (sym (adds.places q) ∙ e))
      where
        by : IsIn q keys ⊎ IsIn q (key ∷ []) → (get same_key old.places q ≡ None) × ((is_news own && same_key own.key q) ≡ false) → (o : Own) × IsRecordedOf (sides da db who u) q o × (is_news o ≡ false)
        by (inl j) none = recorded.rest q (contains_in keys q j) none.0
        by (inr (inr j)) none = absurd j
        by (inr (inl same)) none =
            let alike : same_key own.key q ≡ true = ap (same_key own.key) (same ∙ sym is.key_is) ∙ same_key-refl own.key in
            (own, subst (λ (k : Key). IsRecordedOf (sides da db who u) k own) (sym same) is, unrecorded (is_news own) (same_key own.key q) alike none.1)
          where
            unrecorded : (b c : Bool) → c ≡ true → (b && c) ≡ false → b ≡ false
            unrecorded false c e h = refl
            unrecorded true c e h = absurd (both_ways c h e)

    pub one_more_recorded : AreRecorded (sides da db who u) (keys ++ key ∷ []) new
    one_more_recorded = record {
      placed = λ q place e. placed_more q place (is_news own) (same_key own.key q) adds.items refl (sym (adds.places q) ∙ e);
      each = λ o i. each_more (is_news own) adds.items o i;
      rest = rest_more;
    }
