-- The sites from the command's to one of them, taken from that one outwards.
use Rattle.std.proofs.Common.{◌≡◌, ℕ, zero, suc, ◌<◌, ◌≤◌, Bool, true, false, List, [], ◌∷◌, ◌++◌, reverse, Option, Some, None, refl, sym, ap, subst, ◌∙◌, append_assoc, arith}
use Rattle.std.specs.Prelude.{slice_get, ◌==◌, if◌then◌else◌, unwrap_or}
use Rattle.std.specs.Option.{option_map_or}
use Rattle.std.proofs.lemmas.Bool.{eq-eqb, eqb-true, ne_eqb}
use Rattle.std.proofs.lemmas.List.{reverse-append}
use Rattle.dia_breaking.specs.declared.line.Site.{Site}
use Rattle.dia_breaking.specs.Words.{outer_of, with_outer, path_below}

past : (sites : List Site) (most n : ℕ) → (n ≡ most → ⊥) → path_below sites (suc most) n ≡ path_below sites most n
past sites most n other = ap (λ b. if b then option_map_or (with_outer (path_below sites most)) (slice_get sites n) [] else path_below sites most n) (ne_eqb n most other)

here : (sites : List Site) (most : ℕ) (s : Site) → slice_get sites most ≡ Some s → path_below sites (suc most) most ≡ with_outer (path_below sites most) s
here sites most s at =
    ap (λ b. if b then option_map_or (with_outer (path_below sites most)) (slice_get sites most) [] else path_below sites most most) (eq-eqb most most refl)
    ∙ ap (λ (o : Option Site). option_map_or (with_outer (path_below sites most)) o []) at

-- no site has a number that is not below
pub none_below : (sites : List Site) (most n : ℕ) → most ≤ n → path_below sites most n ≡ []
none_below sites zero n le = refl
none_below sites (suc most) n le = past sites most n (λ e. omega (arith, e)) ∙ none_below sites most n (omega arith)

-- a site below is the last of its path
last_of : (sites : List Site) (most n : ℕ) (s : Site) → n < most → slice_get sites n ≡ Some s → path_below sites most n ≡ with_outer (path_below sites n) s
last_of sites zero n s less at = absurd (omega (arith, less))
last_of sites (suc most) n s less at = by (n == most) refl (λ below. last_of sites most n s below at)
  where
    by : (b : Bool) → (n == most) ≡ b → (n < most → path_below sites most n ≡ with_outer (path_below sites n) s) → path_below sites (suc most) n ≡ with_outer (path_below sites n) s
    by true e rest =
        let same : n ≡ most = eqb-true n most e in
        ap (path_below sites (suc most)) same ∙ here sites most s (subst (λ (k : ℕ). slice_get sites k ≡ Some s) same at) ∙ ap (λ (k : ℕ). with_outer (path_below sites k) s) (sym same)
    by false e rest =
        let other : n ≡ most → ⊥ = λ same. absurd (let z : true ≡ false = sym (eq-eqb n most same) ∙ e in cc) in
        past sites most n other ∙ rest (omega (arith, less, other))

-- what precedes it, where `o` is its outer site
before_it : (sites : List Site) (n : ℕ) (o : Option ℕ) → path_below sites n (unwrap_or o n) ≡ option_map_or (path_below sites n) o []
before_it sites n None = none_below sites n n (omega arith)
before_it sites n (Some outer) = refl

-- a step of the walk
pub steps_out : (sites : List Site) (below wanted next : ℕ) (s : Site) (path more all : List Site) → wanted < below → slice_get sites wanted ≡ Some s
    → next ≡ unwrap_or (outer_of s.place) wanted → more ≡ path ++ s ∷ [] → path_below sites below wanted ++ reverse path ≡ all → path_below sites wanted next ++ reverse more ≡ all
steps_out sites below wanted next s path more all less at next_is more_is was =
    let before = option_map_or (path_below sites wanted) (outer_of s.place) [] in
    ap (λ front. front ++ reverse more) (ap (path_below sites wanted) next_is ∙ before_it sites wanted (outer_of s.place))
    ∙ ap (λ back. before ++ back) (ap reverse more_is ∙ reverse-append path (s ∷ []))
    ∙ sym (append_assoc before (s ∷ []) (reverse path))
    ∙ ap (λ front. front ++ reverse path) (sym (last_of sites below wanted s less at))
    ∙ was

-- its end
pub steps_end : (sites : List Site) (below wanted : ℕ) (path all : List Site) → below ≤ wanted → path_below sites below wanted ++ reverse path ≡ all → reverse path ≡ all
steps_end sites below wanted path all le was = ap (λ front. front ++ reverse path) (sym (none_below sites below wanted le)) ∙ was
