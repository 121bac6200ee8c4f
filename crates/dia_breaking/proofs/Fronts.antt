-- What precedes and what follows the groups of a path, site by site.
use Rattle.std.proofs.Common.{◌≡◌, ℕ, ◌+◌, ◌<◌, ◌≤◌, List, ◌++◌, Option, Some, length, get_or, drop, sym, ap, ◌∙◌, append_assoc}
use Rattle.std.proofs.lemmas.List.{append-nil, drop_all, drop_more}
use Rattle.dia_breaking_levels.specs.declared.line.Part.{Part}
use Rattle.dia_breaking.specs.declared.line.Site.{Site}
use Rattle.dia_breaking.specs.Messages.{Stock}
use Rattle.dia_breaking.specs.Nested.{fronts, rests, site_front, site_rest}
use Rattle.dia_breaking.specs.Sides.{Sides}

module _ (s : Sides) (k : Stock) (c : ℕ) (path : List Site) where
  pub front_more : (size : ℕ) (outer : Option Site) (old new all : List ℕ) (i : ℕ) (d : Site) → i < length path → new ≡ old ++ site_front s k c size outer (get_or path i d)
      → old ++ fronts s k c size outer (drop i path) ≡ all → new ++ fronts s k c size (Some (get_or path i d)) (drop (i + 1) path) ≡ all
  front_more size outer old new all i d within is before =
      let site = get_or path i d in
      let others = fronts s k c size (Some site) (drop (i + 1) path) in
      ap (λ (bytes : List ℕ). bytes ++ others) is ∙ append_assoc old (site_front s k c size outer site) others
      ∙ ap (λ (sites : List Site). old ++ fronts s k c size outer sites) (sym (drop_more path i d within)) ∙ before

  pub front_all : (size : ℕ) (outer : Option Site) (old all : List ℕ) (i : ℕ) → length path ≤ i → old ++ fronts s k c size outer (drop i path) ≡ all → old ≡ all
  front_all size outer old all i past before = sym (append-nil old) ∙ ap (λ (sites : List Site). old ++ fronts s k c size outer sites) (sym (drop_all i path past)) ∙ before

  pub rest_more : (outer : Option Site) (old new all : List Part) (i : ℕ) (d : Site) → i < length path → new ≡ site_rest s k c outer (get_or path i d) ++ old
      → rests s k c outer (drop i path) ++ old ≡ all → rests s k c (Some (get_or path i d)) (drop (i + 1) path) ++ new ≡ all
  rest_more outer old new all i d within is before =
      let site = get_or path i d in
      let others = rests s k c (Some site) (drop (i + 1) path) in
      ap (λ (parts : List Part). others ++ parts) is ∙ sym (append_assoc others (site_rest s k c outer site) old)
      ∙ ap (λ (sites : List Site). rests s k c outer sites ++ old) (sym (drop_more path i d within)) ∙ before

  pub rest_all : (outer : Option Site) (old all : List Part) (i : ℕ) → length path ≤ i → rests s k c outer (drop i path) ++ old ≡ all → old ≡ all
  rest_all outer old all i past before = ap (λ (sites : List Site). rests s k c outer sites ++ old) (sym (drop_all i path past)) ∙ before
