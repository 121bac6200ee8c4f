-- Which places lines show.
use Rattle.std.proofs.Common.{◌≡◌, ℕ, suc, ◌+◌, ◌<◌, ◌≤◌, Bool, true, false, List, [], ◌∷◌, ◌++◌, length, take, Option, Some, None, refl, sym, ap, ◌∙◌, arith, inl, inr}
use Rattle.std.specs.Prelude.{◌⊎◌, codes, flat_map, slice_get, if◌then◌else◌}
use Rattle.std.specs.Option.{option_map_or}
use Rattle.std.proofs.lemmas.Bool.{cases_lt}
use Rattle.std.proofs.lemmas.List.{flat_map_more, length-append}
use Rattle.dia_wire.specs.declared.Key.{Key}
use Rattle.dia_book.specs.Dictionary.{Dictionary}
use Rattle.dia_book.proofs.Members.{IsAt, append-none, at_Contains, flat_map-none_at}
use Rattle.dia_valid.proofs.Members.{contains_in, in_at, taken}
use Rattle.dia_places.specs.declared.places.By.{By}
use Rattle.dia_places.specs.declared.places.By.TheVariants.{Rule, Wildcard}
use Rattle.dia_places.specs.Names.{names_of}
use Rattle.dia_places.specs.Paths.{ArePaths, Path, rules_at}
use Rattle.dia_places.specs.Places.{by_of}
use Rattle.dia_uses.specs.Lines.{avp_of, by_object, by_text, is_rule, is_wildcard, line_at, line_of, lines_of, path_object, path_text}
use Rattle.dia_uses.specs.Outcome.{HaveNoPlace, HaveSomePlace, all_lines}

-- ---- lists

pub flat_map_taken : {X A : Type 0} (f : X → List A) (xs : List X) (i : ℕ) (x : X) → slice_get xs i ≡ Some x → flat_map f (take (i + 1) xs) ≡ flat_map f (take i xs) ++ f x
flat_map_taken f xs i x at = ap (flat_map f) (taken xs i x at) ∙ sym (flat_map_more f [] (take i xs) x)

some_part : {X A : Type 0} (f : X → List A) (xs : List X) → 0 < length (flat_map f xs) → (i : ℕ) × (x : X) × (slice_get xs i ≡ Some x) × (0 < length (f x))
some_part f [] some = absurd (omega arith)
some_part {X} f (x ∷ xs) some = by (cases_lt 0 (length (f x))) (some_part f xs)
  where
    by : (0 < length (f x)) ⊎ (length (f x) ≤ 0) → (0 < length (flat_map f xs) → (i : ℕ) × (y : X) × (slice_get xs i ≡ Some y) × (0 < length (f y)))
        → (i : ℕ) × (y : X) × (slice_get (x ∷ xs) i ≡ Some y) × (0 < length (f y))
    by (inl here) later = (0, x, refl, here)
    by (inr none) later = let r = later (omega (arith, length-append (f x) (flat_map f xs))) in (suc r.0, r.1, r.2, r.3)

-- ---- one line

line_some : (json : Bool) (names : List (List ℕ)) (avp : List ℕ) (by : By) → line_of json names avp by ≡ [] → ⊥
line_some true names avp by e =
    let f : codes "{\"avp\":" ++ avp ++ path_object names ++ by_object by ++ codes "}\n" ≡ [] = e in
    let g = append-none (codes "{\"avp\":" ++ avp ++ path_object names ++ by_object by) (codes "}\n") f in
    let h : 125 ∷ 10 ∷ [] ≡ [] = g.1 in cc
line_some false names avp by e = let f = append-none (path_text names ++ codes ": " ++ avp ++ by_text by) (codes "\n") e in let g : 10 ∷ [] ≡ [] = f.1 in cc

-- what a line is by
place_of_line : (json : Bool) (d : Dictionary) (is_kind : By → Bool) (key : Key) (path : Path) (o : Option By)
    → 0 < length (option_map_or (λ (by : By). if is_kind by then line_of json (names_of d path) (avp_of json d key) by else []) o []) → (by : By) × (o ≡ Some by)
place_of_line json d is_kind key path None some = absurd (omega arith)
place_of_line json d is_kind key path (Some by) some = (by, refl)

-- what lets in an AVP has a line of its kind
line_of_place : (json : Bool) (d : Dictionary) (is_kind : By → Bool) (key : Key) (path : Path) (by : By)
    → by_of (rules_at d path.def) key ≡ Some by → is_kind by ≡ true → line_at json d is_kind key path ≡ [] → ⊥
line_of_place json d is_kind key path by is kind e =
    line_some json (names_of d path) (avp_of json d key) by
    (sym (ap (λ (o : Option By). option_map_or (λ (b : By). if is_kind b then line_of json (names_of d path) (avp_of json d key) b else []) o []) is
    ∙ ap (λ (b : Bool). if b then line_of json (names_of d path) (avp_of json d key) by else []) kind) ∙ e)

-- ---- all lines

pub some_place : (json : Bool) (d : Dictionary) (paths : List Path) (keys : List Key) → ArePaths d paths → 0 < length (all_lines json d paths keys) → HaveSomePlace d keys
some_place json d paths keys are some = by (some_part (lines_of json d paths) keys some)
  where
    at_path : (is_kind : By → Bool) (i : ℕ) (key : Key) → slice_get keys i ≡ Some key → 0 < length (flat_map (line_at json d is_kind key) paths) → HaveSomePlace d keys
    at_path is_kind i key at more =
        let part = some_part (line_at json d is_kind key) paths more in
        let by = place_of_line json d is_kind key part.1 (by_of (rules_at d part.1.def) key) part.3 in
        (key, part.1, by.0, contains_in keys key (in_at keys i key at), (are.each part.0 part.1 part.2).0, by.1)

    either : (i : ℕ) (key : Key) → slice_get keys i ≡ Some key → (0 < length (flat_map (line_at json d is_rule key) paths)) ⊎ (length (flat_map (line_at json d is_rule key) paths) ≤ 0)
        → 0 < length (lines_of json d paths key) → HaveSomePlace d keys
    either i key at (inl rules) more = at_path is_rule i key at rules
    either i key at (inr none) more =
        at_path is_wildcard i key at (omega (arith, more, length-append (flat_map (line_at json d is_rule key) paths) (flat_map (line_at json d is_wildcard key) paths)))

    by : (i : ℕ) × (key : Key) × (slice_get keys i ≡ Some key) × (0 < length (lines_of json d paths key)) → HaveSomePlace d keys
    by (i, key, at, more) = either i key at (cases_lt 0 (length (flat_map (line_at json d is_rule key) paths))) more

pub no_place : (json : Bool) (d : Dictionary) (paths : List Path) (keys : List Key) → ArePaths d paths → all_lines json d paths keys ≡ [] → HaveNoPlace d keys
no_place json d paths keys are none key path among is = by (by_of (rules_at d path.def) key) refl
  where
    at : IsAt keys key
    at = at_Contains keys key among

    both : (flat_map (line_at json d is_rule key) paths ≡ []) × (flat_map (line_at json d is_wildcard key) paths ≡ [])
    both = append-none (flat_map (line_at json d is_rule key) paths) (flat_map (line_at json d is_wildcard key) paths) (flat_map-none_at (lines_of json d paths) keys none at.place key at.at)

    found : (i : ℕ) × (other : Path) × (slice_get paths i ≡ Some other) × (other.def ≡ path.def)
    found = are.all path is

    same : by_of (rules_at d found.1.def) key ≡ by_of (rules_at d path.def) key
    same = ap (λ (n : ℕ). by_of (rules_at d n) key) found.3

    by : (o : Option By) → by_of (rules_at d path.def) key ≡ o → o ≡ None
    by None e = refl
    by (Some (Rule rule)) e =
        absurd (line_of_place json d is_rule key found.1 (Rule rule) (same ∙ e) refl (flat_map-none_at (line_at json d is_rule key) paths both.0 found.0 found.1 found.2))
    by (Some (Wildcard rule)) e =
        absurd (line_of_place json d is_wildcard key found.1 (Wildcard rule) (same ∙ e) refl (flat_map-none_at (line_at json d is_wildcard key) paths both.1 found.0 found.1 found.2))
