-- Members that are added one by one.
use Rattle.std.proofs.Common.{◌≡◌, ◌∙◌, ℕ, ◌+◌, ◌<◌, true, Bor, get_or, length, map, take, List, [], ◌∷◌, ◌++◌, Bool, cond, Result, Ok, Err, append_assoc, ap, subst, refl, sym, codes}
use Rattle.std.specs.Prelude.{OnOk}
use Rattle.std.specs.List.{flat_map}
use Rattle.std.proofs.lemmas.Grind.{flat_map-append}
use Rattle.std.proofs.lemmas.List.{append-nil, map-append, take_more}
use Rattle.json.specs.Print.{quoted}
use Rattle.serde_json.specs.Data.{Data, array}
use Rattle.serde_json.specs.Written.{compact_text, items_text, members_text}
use Rattle.dia_upgrades_json.specs.Fields.{Field, after_comma, field_text, fields_text, members_of, name_text, object_of, strings}

-- ---- members

pub none_added : (old : List ℕ) → old ≡ old ++ fields_text []
none_added old = sym (append-nil old)

pub one_added : (old new name written value : List ℕ) (value_is : Data) → written ≡ quoted name → value ≡ compact_text value_is → new ≡ old ++ (codes "," ++ (written ++ (codes ":" ++ value)))
    → new ≡ old ++ fields_text ((name, value_is) ∷ [])
one_added old new name written value value_is is_name is_value is =
    is ∙ ap (λ (t : List ℕ). old ++ t) ((λ i. codes "," ++ (is_name i ++ (codes ":" ++ is_value i))) ∙ sym (append-nil (field_text (name, value_is))))

pub both_added : (xs ys : List Field) (old mid new : List ℕ) → mid ≡ old ++ fields_text xs → new ≡ mid ++ fields_text ys → new ≡ old ++ fields_text (xs ++ ys)
both_added xs ys old mid new first second =
    second ∙ ap (λ (t : List ℕ). t ++ fields_text ys) first ∙ append_assoc old (fields_text xs) (fields_text ys) ∙ ap (λ (t : List ℕ). old ++ t) (sym (flat_map-append field_text xs ys))

-- where the last call may fail
pub last_added : {U E : Type 0} (r : Result U E) (xs ys : List Field) (old mid new : List ℕ)
    → mid ≡ old ++ fields_text xs → OnOk r (new ≡ mid ++ fields_text ys) → OnOk r (new ≡ old ++ fields_text (xs ++ ys))
last_added (Ok u) xs ys old mid new first second = both_added xs ys old mid new first second
last_added (Err e) xs ys old mid new first second = tt

-- and adds a member of which the text of the value is known
pub field_added : {U E : Type 0} (r : Result U E) (xs : List Field) (name : List ℕ) (recorded : Data) (old mid new value : List ℕ) → mid ≡ old ++ fields_text xs → value ≡ compact_text recorded
    → OnOk r ((d : Data) → value ≡ compact_text d → new ≡ mid ++ fields_text ((name, d) ∷ [])) → OnOk r (new ≡ old ++ fields_text (xs ++ ((name, recorded) ∷ [])))
field_added (Ok u) xs name recorded old mid new value first is more = both_added xs ((name, recorded) ∷ []) old mid new first (more recorded is)
field_added (Err e) xs name recorded old mid new value first is more = tt

-- either members or others
pub chosen_added : {U E : Type 0} (r : Result U E) (by chosen : Bool) (xs ys zs : List Field) (old new : List ℕ) → by ≡ chosen → zs ≡ cond chosen xs ys → OnOk r (new ≡ old ++ fields_text zs)
    → OnOk r (new ≡ old ++ fields_text (cond by xs ys))
chosen_added r by chosen xs ys zs old new is are added = subst (λ (fields : List Field). OnOk r (new ≡ old ++ fields_text fields)) (are ∙ sym (ap (λ (b : Bool). cond b xs ys) is)) added

-- a name more
pub names_more : (names : List (Bor (List ℕ))) (i : ℕ) (d : Bor (List ℕ)) → i < length names → (old new : List ℕ) → old ≡ flat_map name_text (map (λ m. m.now) (take i names))
    → new ≡ old ++ name_text (get_or names i d).now → new ≡ flat_map name_text (map (λ m. m.now) (take (i + 1) names))
names_more names i d less old new before added =
    let now = λ (m : Bor (List ℕ)). m.now in
    let n = get_or names i d in
    let more : map now (take (i + 1) names) ≡ map now (take i names) ++ n.now ∷ [] =
    ap (map now) (take_more names i d less) ∙ map-append now (take i names) (n ∷ []) in
    added ∙ ap (λ (o : List ℕ). o ++ name_text n.now) before ∙ ap (λ (o : List ℕ). flat_map name_text (map now (take i names)) ++ o) (sym (append-nil (name_text n.now)))
    ∙ sym (flat_map-append name_text (map now (take i names)) (n.now ∷ [])) ∙ ap (flat_map name_text) (sym more)

-- where nothing was there before
pub from_nothing : (old new : List ℕ) (xs : List Field) → old ≡ [] → new ≡ old ++ fields_text xs → new ≡ fields_text xs
from_nothing old new xs none is = is ∙ ap (λ (t : List ℕ). t ++ fields_text xs) none

-- ---- objects

members_end : (xs : List Field) → members_text true (members_of xs) ≡ fields_text xs ++ codes "}"
members_end [] = refl
members_end (x ∷ xs) =
    ap (λ (t : List ℕ). codes "," ++ (quoted x.0 ++ (codes ":" ++ (compact_text x.1 ++ t)))) (members_end xs) ∙ regroup (quoted x.0) (compact_text x.1) (fields_text xs) (codes "}")
  where
    regroup : (n v t e : List ℕ) → codes "," ++ (n ++ (codes ":" ++ (v ++ (t ++ e)))) ≡ ((codes "," ++ (n ++ (codes ":" ++ v))) ++ t) ++ e
    regroup n v t e = simp append_assoc

pub object_is : (fields text : List ℕ) (xs : List Field) → fields ≡ fields_text xs → text ≡ codes "{" ++ (after_comma fields ++ codes "}") → text ≡ compact_text (object_of xs)
object_is fields text xs are is = is ∙ ap (λ (t : List ℕ). codes "{" ++ (after_comma t ++ codes "}")) are ∙ by xs
  where
    by : (xs : List Field) → codes "{" ++ (after_comma (fields_text xs) ++ codes "}") ≡ compact_text (object_of xs)
    by [] = refl
    by (x ∷ xs) = sym (ap (λ (t : List ℕ). codes "{" ++ (quoted x.0 ++ (codes ":" ++ (compact_text x.1 ++ t)))) (members_end xs) ∙ regroup (quoted x.0) (compact_text x.1) (fields_text xs) (codes "}"))
      where
        regroup : (n v t e : List ℕ) → codes "{" ++ (n ++ (codes ":" ++ (v ++ (t ++ e)))) ≡ codes "{" ++ (((n ++ (codes ":" ++ v)) ++ t) ++ e)
        regroup n v t e = simp append_assoc

-- ---- arrays of names

items_end : (names : List (List ℕ)) → items_text true (strings names) ≡ flat_map name_text names ++ codes "]"
items_end [] = refl
items_end (n ∷ names) = ap (λ (t : List ℕ). codes "," ++ (quoted n ++ t)) (items_end names) ∙ regroup (quoted n) (flat_map name_text names) (codes "]")
  where
    regroup : (n t e : List ℕ) → codes "," ++ (n ++ (t ++ e)) ≡ ((codes "," ++ n) ++ t) ++ e
    regroup n t e = simp append_assoc

pub array_is : (written text : List ℕ) (names : List (List ℕ)) → written ≡ flat_map name_text names → text ≡ codes "[" ++ (after_comma written ++ codes "]") → text ≡ compact_text (array (strings names))
array_is written text names are is = is ∙ ap (λ (t : List ℕ). codes "[" ++ (after_comma t ++ codes "]")) are ∙ by names
  where
    by : (names : List (List ℕ)) → codes "[" ++ (after_comma (flat_map name_text names) ++ codes "]") ≡ compact_text (array (strings names))
    by [] = refl
    by (n ∷ names) = sym (ap (λ (t : List ℕ). codes "[" ++ (quoted n ++ t)) (items_end names) ∙ regroup (quoted n) (flat_map name_text names) (codes "]"))
      where
        regroup : (n t e : List ℕ) → codes "[" ++ (n ++ (t ++ e)) ≡ codes "[" ++ ((n ++ t) ++ e)
        regroup n t e = simp append_assoc
