-- The applications of a list that are retained, one after the other.
use Rattle.std.proofs.Common.{◌≡◌, ℕ, ◌+◌, ◌<◌, Bool, true, false, cond, List, [], ◌∷◌, ◌++◌, length, map, filter, take, get_or, sym, ap, ◌∙◌}
use Rattle.std.proofs.lemmas.List.{append-nil, map-append}
use Rattle.std.proofs.lemmas.List.Elements.{filter-append}
use Rattle.std.proofs.lemmas.Grind.{take_at_read}
use Rattle.dia_peer.specs.declared.config.Kind.{Kind}
use Rattle.std.proofs.Math.Logic.{∥∥₁_elim}
use Rattle.std.proofs.Props.{props}
use mathlib.Core.Sum.{⊎_set}
use Rattle.dia_peer.specs.declared.config.App.{App}
use Rattle.dia_peer.specs.Core.{Pair, pair_of, the_pair, pairs_of, sorted_pairs}

pub kept_yes : (q : Pair → Bool) (old new : List (Kind × ℕ)) (x : Kind × ℕ) → q (the_pair x) ≡ true → new ≡ old ++ x ∷ [] → pairs_of new ≡ pairs_of old ++ filter q (the_pair x ∷ [])
kept_yes q old new x is e = ap pairs_of e ∙ map-append the_pair old (x ∷ []) ∙ (λ i. pairs_of old ++ cond (sym is i) (the_pair x ∷ []) [])

pub kept_no : (q : Pair → Bool) (old : List (Kind × ℕ)) (x : Kind × ℕ) → q (the_pair x) ≡ false → pairs_of old ≡ pairs_of old ++ filter q (the_pair x ∷ [])
kept_no q old x is = sym (append-nil (pairs_of old)) ∙ (λ i. pairs_of old ++ cond (sym is i) (the_pair x ∷ []) [])

pub kept_step : (q : Pair → Bool) (apps old new : List (Kind × ℕ)) (i : ℕ) (d : Kind × ℕ) → i < length apps → pairs_of old ≡ filter q (pairs_of (take i apps))
    → pairs_of new ≡ pairs_of old ++ filter q (the_pair (get_or apps i d) ∷ []) → pairs_of new ≡ filter q (pairs_of (take (i + 1) apps))
kept_step q apps old new i d lt e f =
    let x = get_or apps i d in
    f ∙ ap (λ (ps : List Pair). ps ++ filter q (the_pair x ∷ [])) e ∙ sym (filter-append q (pairs_of (take i apps)) (the_pair x ∷ []))
    ∙ ap (filter q) (sym (map-append the_pair (take i apps) (x ∷ [])) ∙ ap pairs_of (sym (take_at_read apps i d lt).1))

-- the applications of a configuration, in order
pub in_order : (items : List (Kind × ℕ)) (apps : List App) → ∥ pairs_of items ≡ sorted_pairs (map pair_of apps) ∥₁ → pairs_of items ≡ sorted_pairs (map pair_of apps)
in_order items apps t = ∥∥₁_elim t (hlevel (props, ⊎_set)) (λ e. e)
