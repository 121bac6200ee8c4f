-- A loop that adds what is reported of each item that is equal to one before it.
use Rattle.std.proofs.Common.{◌≡◌, ℕ, ◌+◌, ◌<◌, Bool, true, false, cond, List, [], ◌∷◌, ◌++◌, length, map, find, take, get_or, Option, Some, None, refl, sym, ap, ◌∙◌}
use Rattle.std.specs.Prelude.{if◌then◌else◌, is_some}
use Rattle.std.specs.Cmp.{IsEquivalence}
use Rattle.std.specs.Map.{lookup}
use Rattle.std.specs.Option.{option_map, option_map_or}
use Rattle.std.proofs.lemmas.List.{append_assoc, append-nil, map-append, take_more}
use Rattle.std.proofs.lemmas.Simd.{map-map}
use Rattle.std.proofs.lemmas.Option.{none-some}
use Rattle.indexmap.specs.IndexMap.{insert_entry}
use Rattle.dia_book.proofs.Members.{find-is_some}
use Rattle.dia_dict.specs.declared.findings.Part.{Part}
use Rattle.dia_dict.specs.Resolution.{Wrong, PlainFinding, finding, repeats, firsts, again, placed}
use Rattle.dia_dict.proofs.Repeats.{both, repeats-append, repeats-map}
use Rattle.dia_dict.proofs.Firsts.{firsts-append, find-firsts}
use Rattle.dia_dict.proofs.Placing.{placed-map}

module _ {X T : Type 0} (key : X → T) (part : X → Part) (fault : X → Part → PlainFinding) (eq : T → T → Bool) where
  abbrev alike : X → X → Bool
  alike a b = eq (key a) (key b)

  abbrev records : X × X → PlainFinding
  records p = fault p.0 (part p.1)

  abbrev entry : X → T × Part
  entry x = (key x, part x)

  -- what was reported of the items before a place, and the first items of each key that were seen there
  pub record AreFound (before findings : List PlainFinding) (items : List X) (entries : List (T × Part)) (place : ℕ) : Type 0 where
    pub all : findings ≡ before ++ map (λ p. fault p.0 (part p.1)) (repeats (λ a b. eq (key a) (key b)) [] (take place items))
    pub seen : entries ≡ map (λ x. (key x, part x)) (firsts (λ a b. eq (key a) (key b)) [] (take place items))

  lookup-entries : (k : T) (xs : List X) → lookup (eq k) (map entry xs) ≡ option_map part (find (λ x. eq k (key x)) xs)
  lookup-entries k [] = refl
  lookup-entries k (x ∷ xs) = by (eq k (key x)) (lookup-entries k xs)
    where
      by : (b : Bool) → lookup (eq k) (map entry xs) ≡ option_map part (find (λ y. eq k (key y)) xs)
          → cond b (Some (part x)) (lookup (eq k) (map entry xs)) ≡ option_map part (cond b (Some x) (find (λ y. eq k (key y)) xs))
      by true e = refl
      by false e = e

  module _ (laws : IsEquivalence eq) (before findings next : List PlainFinding) (items : List X) (entries more : List (T × Part)) (place : ℕ) (x : X)
      (d : AreFound before findings items entries place) (within : place < length items) (read : x ≡ get_or items place x)
      (recorded : next ≡ findings ++ option_map_or (λ first. fault x first ∷ []) (lookup (eq (key x)) entries) [])
      (kept : more ≡ (if is_some (lookup (eq (key x)) entries) then entries else entries ++ (key x, part x) ∷ [])) where
    abbrev before_it : List X
    before_it = take place items

    abbrev first : Option X
    first = find (alike x) before_it

    longer : take (place + 1) items ≡ before_it ++ x ∷ []
    longer = take_more items place x within ∙ ap (λ y. take place items ++ y ∷ []) (sym read)

    known : lookup (eq (key x)) entries ≡ option_map part first
    known = ap (lookup (eq (key x))) d.seen ∙ lookup-entries (key x) (firsts alike [] before_it) ∙ ap (option_map part) (find-firsts key eq laws (key x) before_it)

    abbrev repeat : Option X → List (X × X)
    repeat o = option_map_or (λ y. (x, y) ∷ []) o []

    repeats-longer : repeats alike [] (take (place + 1) items) ≡ repeats alike [] before_it ++ repeat first
    repeats-longer = ap (repeats alike []) longer ∙ repeats-append alike [] before_it (x ∷ [])

    recorded-by : (o : Option X) → option_map_or (λ y. fault x y ∷ []) (option_map part o) [] ≡ map records (repeat o)
    recorded-by (Some y) = refl
    recorded-by None = refl

    all-more : next ≡ before ++ map records (repeats alike [] (take (place + 1) items))
    all-more =
        recorded ∙ ap (λ (o : Option Part). findings ++ option_map_or (λ y. fault x y ∷ []) o []) known ∙ ap (λ (fs : List PlainFinding). findings ++ fs) (recorded-by first)
        ∙ ap (λ (fs : List PlainFinding). fs ++ map records (repeat first)) d.all ∙ append_assoc before (map records (repeats alike [] before_it)) (map records (repeat first))
        ∙ ap (λ (fs : List PlainFinding). before ++ fs) (sym (ap (map records) repeats-longer ∙ map-append records (repeats alike [] before_it) (repeat first)))

    entries-by : (o : Option X) → (if is_some (option_map part o) then entries else entries ++ entry x ∷ []) ≡ entries ++ map entry (if is_some o then [] else x ∷ [])
    entries-by (Some y) = sym (append-nil entries)
    entries-by None = refl

    abbrev fresh : List X
    fresh = if is_some first then [] else x ∷ []

    firsts-longer : firsts alike [] (take (place + 1) items) ≡ firsts alike [] before_it ++ fresh
    firsts-longer = ap (firsts alike []) longer ∙ firsts-append alike [] before_it (x ∷ []) ∙ ap (λ b. firsts alike [] before_it ++ (if b then [] else x ∷ [])) (sym (find-is_some (alike x) before_it))

    seen-more : more ≡ map entry (firsts alike [] (take (place + 1) items))
    seen-more =
        kept ∙ ap (λ (o : Option Part). if is_some o then entries else entries ++ entry x ∷ []) known ∙ entries-by first
        ∙ ap (λ (es : List (T × Part)). es ++ map entry fresh) d.seen ∙ sym (ap (map entry) firsts-longer ∙ map-append entry (firsts alike [] before_it) fresh)

    pub AreFound-more : AreFound before next items more (place + 1)
    AreFound-more = record { all = all-more; seen = seen-more }

-- an entry with a new key goes last
pub insert-fresh : {T V : Type 0} (eq : T → T → Bool) (k : T) (v : V) (es : List (T × V)) → lookup (eq k) es ≡ None → insert_entry eq es k v ≡ es ++ (k, v) ∷ []
insert-fresh eq k v [] none = refl
insert-fresh {T} {V} eq k v (e ∷ es) none = by (eq k e.0) none (insert-fresh eq k v es)
  where
    by : (b : Bool) → cond b (Some e.1) (lookup (eq k) es) ≡ None → (lookup (eq k) es ≡ None → insert_entry eq es k v ≡ es ++ (k, v) ∷ [])
        → (if b then (e.0, v) ∷ es else e ∷ insert_entry eq es k v) ≡ e ∷ (es ++ (k, v) ∷ [])
    by true found rest = absurd (none-some e.1 (sym found))
    by false none rest = ap (λ (ys : List (T × V)). e ∷ ys) (rest none)

-- what is reported of the items is what is wrong with the parts that they were made of
pub repeats-recorded : {X T P K : Type 0} (key : X → T) (part : X → Part) (recorded : X → Wrong) (eq : T → T → Bool) (name : T → K) (same : K → K → Bool) → ((a b : T) → eq a b ≡ same (name a) (name b))
    → (label : P → K) (bad : P → Wrong) (items : List X) (parts : List (Part × P))
    → map {A = X} {B = Part × (K × Wrong)} (λ x. (part x, (name (key x), recorded x))) items ≡ map {A = Part × P} {B = Part × (K × Wrong)} (λ p. (p.0, (label p.1, bad p.1))) parts
    → map (λ (p : X × X). finding (recorded p.0) (part p.0) (Some (part p.1))) (repeats (λ a b. eq (key a) (key b)) [] items) ≡ again (λ a b. same (label a) (label b)) bad parts
repeats-recorded {X} {T} {P} {K} key part recorded eq name same agree label bad items parts made =
    let of : X → Part × (K × Wrong) = λ x. (part x, (name (key x), recorded x)) in
    let at : Part × P → Part × (K × Wrong) = λ p. (p.0, (label p.1, bad p.1)) in
    let like : Part × (K × Wrong) → Part × (K × Wrong) → Bool = λ u v. same u.1.0 v.1.0 in
    let deliver : (Part × (K × Wrong)) × (Part × (K × Wrong)) → PlainFinding = λ p. finding p.0.1.1 p.0.0 (Some p.1.0) in
    ap (λ (e : X → X → Bool). map (λ (p : X × X). finding (recorded p.0) (part p.0) (Some (part p.1))) (repeats e [] items)) (λ i a b. agree (key a) (key b) i)
    ∙ sym (map-map deliver (both of) (repeats (λ a b. same (name (key a)) (name (key b))) [] items))
    ∙ ap (map deliver) (sym (repeats-map of like [] items) ∙ ap (repeats like []) made ∙ repeats-map at like [] parts)
    ∙ map-map deliver (both at) (repeats (λ a b. same (label a.1) (label b.1)) [] parts)

-- what is reported of the labels of parts is what is reported of the parts
pub again-labels : {X Y K : Type 0} (f : X → Y) (label : Y → K) (same : K → K → Bool) (bad : K → Wrong) (at : ℕ → Part) (xs : List X)
    → again same bad (placed at (map (λ x. label (f x)) xs)) ≡ again (λ a b. same (label a) (label b)) (λ y. bad (label y)) (placed at (map f xs))
again-labels {X} {Y} {K} f label same bad at xs =
    let deliver : (Part × K) × (Part × K) → PlainFinding = λ p. finding (bad p.0.1) p.0.0 (Some p.1.0) in
    let labelled : Part × Y → Part × K = λ p. (p.0, label p.1) in
    let parts = placed at (map f xs) in
    ap (again same bad) (ap (placed at) (sym (map-map label f xs)) ∙ placed-map at label (map f xs))
    ∙ ap (map deliver) (repeats-map labelled (λ (a b : Part × K). same a.1 b.1) [] parts)
    ∙ map-map deliver (both labelled) (repeats (λ (a b : Part × Y). same (label a.1) (label b.1)) [] parts)
