-- The first items of texts.
use Rattle.std.proofs.Common.{◌≡◌, ◌<◌, ◌+◌, ◌∙◌, ℕ, Bool, true, false, cond, List, Option, Some, None, String, string_bytes, Bor, nat_lt, length, take, get_or, refl, sym, ap, subst, arith}
use Rattle.std.specs.Prelude.{IfSome, position, slice_get, option_and_then}
use Rattle.std.specs.Global.{Global}
use Rattle.std.specs.BTreeMap.{BTreeMap, UpdatesBy, get_by_text}
use Rattle.std.specs.String.{string_cmp}
use Rattle.std.specs.Option.{is_some, option_map, option_or}
use Rattle.std.proofs.lemmas.Bool.{ltb-false, ltb-true}
use Rattle.std.proofs.lemmas.Option.{slice_get-get_or, slice_get_past}
use Rattle.std.specs.Str.{bytes_eq}
use Rattle.std.proofs.lemmas.List.{take_more, length-take-le}
use Rattle.std.proofs.lemmas.Map.Text.{btree_map_updates_text}
use Rattle.std.proofs.lemmas.Slice.Eq.{bytes_eq-Decides}
use Rattle.dia_book.proofs.LookUpsByName.{find-place}
use Rattle.dia_dict.proofs.Indexing.Places.{position-push}
use Rattle.dia_breaking_places.specs.Tables.{IsIndexOf, first_by, has_text}

or_none : {X : Type 0} (o : Option X) → option_or o None ≡ o
or_none None = refl
or_none (Some x) = refl

-- what `get` answers
pub looked_up : {X : Type 0} (r : Option (Bor X)) (xs : List X) (i : ℕ) → is_some r ≡ nat_lt i (length xs) → IfSome r (λ x. x.now ≡ get_or xs i x.now) → option_map (λ x. x.now) r ≡ slice_get xs i
looked_up None xs i past found = sym (slice_get_past xs i (ltb-false i (length xs) (sym past)))
looked_up (Some x) xs i within found = ap (λ (y : _). Some y) found ∙ sym (slice_get-get_or xs i x.now (ltb-true i (length xs) (sym within)))

pub none_of : {X : Type 0} (o : Option X) → false ≡ is_some o → o ≡ None
none_of None e = refl
none_of (Some x) e = absurd (let f : false ≡ true = e in cc)

module _ {X : Type 0} (f : X → List ℕ) where
  -- what is found at the place of a text
  pub found_first : (xs : List X) (places : BTreeMap (String Global) ℕ) (text : List ℕ) → IsIndexOf f xs places → option_and_then (slice_get xs) (get_by_text places text) ≡ first_by f xs text
  found_first xs places text is = ap (option_and_then (slice_get xs)) (is text) ∙ sym (find-place (has_text f text) xs)

  -- an item more
  pub more_first : (xs : List X) (i : ℕ) (d : X) → i < length xs → (old new : BTreeMap (String Global) ℕ) (text : List ℕ) → text ≡ f (get_or xs i d)
      → ((q : List ℕ) → get_by_text new q ≡ option_or (get_by_text old q) (cond (bytes_eq text q) (Some i) None))
      → IsIndexOf f (take i xs) old → IsIndexOf f (take (i + 1) xs) new
  more_first xs i d less old new text is added before q =
      added q ∙ (λ j. option_or (before q j) (cond (bytes_eq (is j) q) (Some i) None))
      ∙ sym (ap (position (has_text f q)) (take_more xs i d less) ∙ position-push (has_text f q) (take i xs) (get_or xs i d)
      ∙ ap (λ (k : ℕ). option_or (position (has_text f q) (take i xs)) (cond (has_text f q (get_or xs i d)) (Some k) None)) (length-take-le i xs (omega (arith, less))))

-- a text that had no place has this one
pub added_first : {V : Type 0} (key : String Global) (place : V) (old new : BTreeMap (String Global) V) → get_by_text old (string_bytes key) ≡ None
    → UpdatesBy string_cmp (string_cmp key) old new (Some place)
    → (q : List ℕ) → get_by_text new q ≡ option_or (get_by_text old q) (cond (bytes_eq (string_bytes key) q) (Some place) None)
added_first {V} key place old new none updates q = by (bytes_eq (string_bytes key) q) refl
  where
    got : get_by_text new q ≡ cond (bytes_eq (string_bytes key) q) (Some place) (get_by_text old q)
    got = btree_map_updates_text (string_bytes key) old new (Some place) updates q

    by : (b : Bool) → bytes_eq (string_bytes key) q ≡ b → get_by_text new q ≡ option_or (get_by_text old q) (cond (bytes_eq (string_bytes key) q) (Some place) None)
    by true e =
        let same : string_bytes key ≡ q = (bytes_eq-Decides (string_bytes key) q).0 e in
        let nothing : get_by_text old q ≡ None = subst (λ (t : List ℕ). get_by_text old t ≡ None) same none in
        got ∙ ap (λ (b : Bool). cond b (Some place) (get_by_text old q)) e
        ∙ sym ((λ i. option_or (nothing i) (cond (e i) (Some place) None)))
    by false e = got ∙ ap (λ (b : Bool). cond b (Some place) (get_by_text old q)) e
        ∙ sym (ap (λ (b : Bool). option_or (get_by_text old q) (cond b (Some place) None)) e ∙ or_none (get_by_text old q))

-- a text that has a place keeps it
pub kept_first : {V : Type 0} (text : List ℕ) (place : V) (old : BTreeMap (String Global) V) (at : V) → get_by_text old text ≡ Some at
    → (q : List ℕ) → get_by_text old q ≡ option_or (get_by_text old q) (cond (bytes_eq text q) (Some place) None)
kept_first {V} text place old at some q = by (bytes_eq text q) refl
  where
    by : (b : Bool) → bytes_eq text q ≡ b → get_by_text old q ≡ option_or (get_by_text old q) (cond (bytes_eq text q) (Some place) None)
    by true e =
        let same : text ≡ q = (bytes_eq-Decides text q).0 e in
        let has : get_by_text old q ≡ Some at = subst (λ (t : List ℕ). get_by_text old t ≡ Some at) same some in
        has ∙ sym (ap (λ (o : Option V). option_or o (cond (bytes_eq text q) (Some place) None)) has)
    by false e = sym (ap (λ (b : Bool). option_or (get_by_text old q) (cond b (Some place) None)) e ∙ or_none (get_by_text old q))
