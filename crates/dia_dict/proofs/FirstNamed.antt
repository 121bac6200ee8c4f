-- A map that retains the first part of each name.
use Rattle.std.proofs.Common.{◌≡◌, ℕ, ◌+◌, ◌<◌, Bool, true, false, cond, List, [], ◌∷◌, ◌++◌, length, map, take, get_or, find, Option, Some, None, refl, sym, ap, ◌∙◌, Bor}
use Rattle.std.specs.Prelude.{if◌then◌else◌, is_some}
use Rattle.std.specs.Cmp.Lexicographic.{nat_list_eq_equiv}
use Rattle.std.specs.List.{list_any}
use Rattle.std.specs.Map.{lookup, values_of}
use Rattle.std.specs.Option.{option_map}
use Rattle.std.proofs.lemmas.List.{append-nil, map-append}
use Rattle.std.proofs.lemmas.Simd.{map-map}
use Rattle.dia_terms.specs.Names.{same_bytes}
use Rattle.dia_book.proofs.Members.{find-is_some}
use Rattle.dia_dict.specs.declared.findings.Part.{Part}
use Rattle.dia_dict.specs.declared.resolving.parts.Placed.{Placed}
use Rattle.dia_dict.specs.Resolution.{firsts, placed}
use Rattle.dia_dict.specs.SourceChecks.{named_part}
use Rattle.dia_dict.proofs.Firsts.{firsts-append, firsts-map, find-firsts}
use Rattle.dia_dict.proofs.Placing.{placed-map, placed-next}

lookup-map : {K L P Q : Type 0} (f : K → L) (g : P → Q) (test : L → Bool) (es : List (K × P))
    → lookup test (map {B = L × Q} (λ e. (f e.0, g e.1)) es) ≡ option_map g (lookup (λ k. test (f k)) es)
lookup-map f g test [] = refl
lookup-map {K} {L} {P} {Q} f g test (e ∷ es) = by (test (f e.0)) (lookup-map f g test es)
  where
    by : (b : Bool) → lookup test (map {B = L × Q} (λ d. (f d.0, g d.1)) es) ≡ option_map g (lookup (λ k. test (f k)) es)
        → cond b (Some (g e.1)) (lookup test (map {B = L × Q} (λ d. (f d.0, g d.1)) es)) ≡ option_map g (cond b (Some e.1) (lookup (λ k. test (f k)) es))
    by true so = refl
    by false so = so

lookup-labels : {K D : Type 0} (label : D → K) (test : K → Bool) (ds : List D) → lookup test (map {B = K × D} (λ d. (label d, d)) ds) ≡ find (λ d. test (label d)) ds
lookup-labels label test [] = refl
lookup-labels {K} {D} label test (d ∷ ds) = ap (λ (o : Option D). cond (test (label d)) (Some d) o) (lookup-labels label test ds)

labels-members : {K D : Type 0} (label : D → K) (ds : List D) → map (λ (e : K × D). e.1) (map (λ d. (label d, d)) ds) ≡ ds
labels-members label [] = refl
labels-members label (d ∷ ds) = ap (λ es. d ∷ es) (labels-members label ds)

some-map : {P Q : Type 0} (g : P → Q) (o : Option P) → is_some (option_map g o) ≡ is_some o
some-map g (Some p) = refl
some-map g None = refl

module _ {P D : Type 0} (view : P → D) (label : D → List ℕ) where
  abbrev seen : Bor (List ℕ) × P → List ℕ × D
  seen e = (e.0.now, view e.1)

  abbrev labelled : D → List ℕ × D
  labelled d = (label d, d)

  abbrev like : D → D → Bool
  like a b = same_bytes (label a) (label b)

  module _ (all : List D) (entries : List (Bor (List ℕ) × P))
      (kept : map {B = List ℕ × D} (λ e. (e.0.now, view e.1)) entries ≡ map (λ d. (label d, d)) (firsts (λ a b. same_bytes (label a) (label b)) [] all)) where
    -- what the map has for a name is what is found by it among all
    pub found_first : (text : List ℕ) → option_map view (lookup (λ (k : Bor (List ℕ)). same_bytes text k.now) entries) ≡ find (λ d. same_bytes text (label d)) all
    found_first text =
        sym (lookup-map (λ (k : Bor (List ℕ)). k.now) view (same_bytes text) entries) ∙ ap (lookup (same_bytes text)) kept
        ∙ lookup-labels label (same_bytes text) (firsts like [] all) ∙ find-firsts label same_bytes nat_list_eq_equiv text all

    pub any_first : (text : List ℕ) → is_some (lookup (λ (k : Bor (List ℕ)). same_bytes text k.now) entries) ≡ list_any (λ d. same_bytes text (label d)) all
    any_first text =
        sym (some-map view (lookup (λ (k : Bor (List ℕ)). same_bytes text k.now) entries)) ∙ ap (λ (o : Option D). is_some o) (found_first text)
        ∙ find-is_some (λ d. same_bytes text (label d)) all

    -- its values are the first of all
    pub values_first : map view (values_of entries) ≡ firsts (λ a b. same_bytes (label a) (label b)) [] all
    values_first =
        map-map view (λ (e : Bor (List ℕ) × P). e.1) entries ∙ sym (map-map (λ (e : List ℕ × D). e.1) seen entries)
        ∙ ap (map (λ (e : List ℕ × D). e.1)) kept ∙ labels-members label (firsts like [] all)

    -- a loop with one part more
    pub first-more : (next : List (Bor (List ℕ) × P)) (n : Bor (List ℕ)) (p : P) → n.now ≡ label (view p)
        → next ≡ (if is_some (lookup (λ (k : Bor (List ℕ)). same_bytes n.now k.now) entries) then entries else entries ++ (n, p) ∷ [])
        → map {B = List ℕ × D} (λ e. (e.0.now, view e.1)) next ≡ map (λ d. (label d, d)) (firsts (λ a b. same_bytes (label a) (label b)) [] (all ++ view p ∷ []))
    first-more next n p name step =
        ap (map seen) step ∙ by (is_some (lookup (λ (k : Bor (List ℕ)). same_bytes n.now k.now) entries))
        ∙ ap (λ b. map seen entries ++ cond b [] ((n.now, view p) ∷ [])) (any_first n.now)
        ∙ ap (λ (t : List ℕ). map seen entries ++ cond (list_any (λ d. same_bytes t (label d)) all) [] ((t, view p) ∷ [])) name
        ∙ ap (λ (es : List (List ℕ × D)). es ++ cond (list_any (like (view p)) all) [] (labelled (view p) ∷ [])) kept
        ∙ one (list_any (like (view p)) all)
        ∙ sym (ap (map labelled) (firsts-append like [] all (view p ∷ [])))
      where
        by : (b : Bool) → map seen (if b then entries else entries ++ (n, p) ∷ []) ≡ map seen entries ++ cond b [] ((n.now, view p) ∷ [])
        by true = sym (append-nil (map seen entries))
        by false = map-append seen entries ((n, p) ∷ [])

        one : (b : Bool) → map labelled (firsts like [] all) ++ cond b [] (labelled (view p) ∷ []) ≡ map labelled (firsts like [] all ++ cond b [] (view p ∷ []))
        one true = sym (map-append labelled (firsts like [] all) [])
        one false = sym (map-append labelled (firsts like [] all) (view p ∷ []))

-- the same for a list in memory
pub parts-more : {X : Type 0} (name : X → List ℕ) (at : ℕ → Part) (xs : List X) (i : ℕ) (x : X) → i < length xs → x ≡ get_or xs i x
    → (entries : List (Bor (List ℕ) × Placed (Bor X)))
    → map named_part entries ≡ map (λ (d : Part × X). (name d.1, d)) (firsts (λ (a b : Part × X). same_bytes (name a.1) (name b.1)) [] (placed at (take i xs)))
    → (next : List (Bor (List ℕ) × Placed (Bor X))) (n : Bor (List ℕ)) (p : Placed (Bor X)) → n.now ≡ name x → ◌≡◌ {A = Part × X} (p.part, p.item.now) (at i, x)
    → next ≡ (if is_some (lookup (λ (k : Bor (List ℕ)). same_bytes n.now k.now) entries) then entries else entries ++ (n, p) ∷ [])
    → map named_part next ≡ map (λ (d : Part × X). (name d.1, d)) (firsts (λ (a b : Part × X). same_bytes (name a.1) (name b.1)) [] (placed at (take (i + 1) xs)))
parts-more {X} name at xs i x within read entries kept next n p label here step =
    first-more (λ (q : Placed (Bor X)). (q.part, q.item.now)) (λ (d : Part × X). name d.1) (placed at (take i xs)) entries kept next n p
    (label ∙ ap (λ (d : Part × X). name d.1) (sym here)) step
    ∙ ap (λ (ds : List (Part × X)). map (λ (d : Part × X). (name d.1, d)) (firsts (λ (a b : Part × X). same_bytes (name a.1) (name b.1)) [] ds))
    (ap (λ (d : Part × X). placed at (take i xs) ++ d ∷ []) here ∙ sym (placed-next at xs i x within read))

-- the same of parts of another form
module _ {X Y : Type 0} (f : X → Y) (label : Y → List ℕ) (at : ℕ → Part) (items : List X) where
  abbrev moved : Part × X → Part × Y
  moved p = (p.0, f p.1)

  abbrev kept_parts : List (Part × X)
  kept_parts = firsts (λ (a b : Part × X). same_bytes (label (f a.1)) (label (f b.1))) [] (placed at items)

  pub firsts-moved : {E : Type 0} (view : E → List ℕ × (Part × X)) (entries : List E)
      → map view entries ≡ map (λ (d : Part × X). (label (f d.1), d)) (firsts (λ (a b : Part × X). same_bytes (label (f a.1)) (label (f b.1))) [] (placed at items))
      → map {B = List ℕ × (Part × Y)} (λ e. ((view e).0, ((view e).1.0, f (view e).1.1))) entries
      ≡ map (λ (d : Part × Y). (label d.1, d)) (firsts (λ (a b : Part × Y). same_bytes (label a.1) (label b.1)) [] (placed at (map f items)))
  firsts-moved view entries kept =
      let move : List ℕ × (Part × X) → List ℕ × (Part × Y) = λ e. (e.0, moved e.1) in
      let like : Part × Y → Part × Y → Bool = λ a b. same_bytes (label a.1) (label b.1) in
      let named : Part × Y → List ℕ × (Part × Y) = λ d. (label d.1, d) in
      sym (map-map move view entries) ∙ ap (map move) kept ∙ map-map move (λ (d : Part × X). (label (f d.1), d)) kept_parts ∙ sym (map-map named moved kept_parts)
      ∙ ap (map named) (sym (firsts-map moved like [] (placed at items)) ∙ ap (firsts like []) (sym (placed-map at f items)))
