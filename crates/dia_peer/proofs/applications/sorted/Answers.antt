use Rattle.std.proofs.Common.{◌≡◌, ℕ, ◌+◌, ◌<◌, List, ◌∷◌, length, map, drop, get_or, Option, None, sym, ap, subst, ◌∙◌, add-one}
use Rattle.std.specs.Prelude.{position, unwrap_or}
use Rattle.std.proofs.Math.Seq.{drop-cons}
use Rattle.std.specs.List.{insert}
use Rattle.dia_peer.specs.declared.config.App.{App}
use Rattle.dia_peer.specs.declared.config.Kind.{Kind}
use Rattle.dia_peer.specs.declared.config.Kind.TheVariants.{Auth}
use Rattle.dia_peer.specs.Core.{Pair, pair_of, the_pair, pairs_of, comes_before, insert_pair}
use Rattle.dia_peer.proofs.PlacesOfPairs.{Sorts, put_in_place}
use Rattle.dia_peer.proofs.applications.sorted.Goals as goal

-- the application at a place
abbrev app_at : List App → ℕ → App
app_at apps i = get_or apps i (record { kind = Auth; id = 0; vendor = None })

abbrev of : App → Kind × ℕ
of a = (a.kind, a.id)

abbrev So : List App → ℕ → List (Kind × ℕ) → Type 0
So apps i items = Sorts (map pair_of apps) (pairs_of items) (map pair_of (drop i apps))

opened : (apps : List App) (i : ℕ) (items : List (Kind × ℕ)) → i < length apps → So apps i items → Sorts (map pair_of apps) (pairs_of items) (pair_of (app_at apps i) ∷ map pair_of (drop (i + 1) apps))
opened apps i items lt s =
    subst (λ (rest : List App). Sorts (map pair_of apps) (pairs_of items) (map pair_of rest)) (drop-cons apps i (record { kind = Auth; id = 0; vendor = None }) lt
    ∙ (λ k. app_at apps i ∷ drop (sym (add-one i) k) apps)) s

step : (apps : List App) (i : ℕ) (items scanned new : List (Kind × ℕ)) (place : Option ℕ) (at : ℕ) → i < length apps → So apps i items
    → place ≡ position (λ other. comes_before (the_pair (of (app_at apps i))) (the_pair other)) scanned → scanned ≡ items → at ≡ unwrap_or place (length items)
    → new ≡ insert items at (of (app_at apps i)) → So apps (i + 1) new
step apps i items scanned new place at lt s is scanned_is at_is new_is =
    let p = the_pair (of (app_at apps i)) in
    let where_is : at ≡ unwrap_or (position (λ other. comes_before p (the_pair other)) items) (length items) =
    at_is ∙ ap (λ (o : Option ℕ). unwrap_or o (length items)) (is ∙ ap (λ (xs : List (Kind × ℕ)). position (λ other. comes_before p (the_pair other)) xs) scanned_is) in
    let put : pairs_of new ≡ insert_pair p (pairs_of items) = ap pairs_of (new_is ∙ ap (λ (n : ℕ). insert items n (of (app_at apps i))) where_is) ∙ put_in_place (of (app_at apps i)) items in
    subst (λ (sorted : List Pair). Sorts (map pair_of apps) sorted (map pair_of (drop (i + 1) apps))) (sym put) (opened apps i items lt s)

pub loop-app-preserved : goal.loop-app-preserved
loop-app-preserved c =
    let size : c.len.result ≡ length c.loop-app.pairs.items = c.len.ensures ∙ c.loop-app.pairs.ok.0 in
    step c.args.apps.now c.loop-app.app-index c.loop-app.pairs.items c.deref.result.now
    c.insert.new.self.items c.place_of.result c.unwrap_or-place.result c.loop-app-test.true
    c.loop-app.invariant c.place_of.ensures.place c.deref.ensures.value
    (c.unwrap_or-place.ensures ∙ ap (λ (n : ℕ). unwrap_or c.place_of.result n) size) c.in_ok-insert.ensures.items
