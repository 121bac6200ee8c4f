-- What is held of a key, once another offer was put in.
use Rattle.std.proofs.Common.{◌≡◌, ℕ, ◌+◌, ◌≤◌, List, length, Option, Some, None, sym, ap, subst, ◌∙◌, arith}
use Rattle.std.specs.Prelude.{min}
use Rattle.std.specs.Option.{option_map_or}
use Rattle.dia_wire.specs.declared.Key.{Key}
use Rattle.dia_book.specs.declared.DRule.{DRule}
use Rattle.dia_valid.specs.Rules.{rule_of}
use Rattle.dia_breaking_levels.specs.declared.offers.Offer.{Offer}
use Rattle.dia_breaking_levels.specs.Offers.{lesser, node_at, weight, weight_at}
use Rattle.dia_breaking_levels.specs.Places.{place}
use Rattle.dia_breaking_levels.proofs.LeastNodes.{lesser_weight}

module _ (a : List DRule) where
  abbrev held_in : List Offer → Offer → Key → Option DRule → Offer
  held_in nodes other x rule = option_map_or (λ r. node_at nodes (length a + 1 + place a x)) rule other

  -- a key that the definition lists
  pub offered_put : (nodes : List Offer) (other : Offer) (x : Key) (rule : DRule) (leaf n : ℕ) → rule_of a x ≡ Some rule → leaf ≡ length a + 1 + place a x → weight_at nodes leaf ≤ n
      → weight (held_in nodes other x (rule_of a x)) ≤ n
  offered_put nodes other x rule leaf n is at le =
      subst (λ (o : Option DRule). weight (held_in nodes other x o) ≤ n) (sym is) (subst (λ (i : ℕ). weight_at nodes i ≤ n) at le)

  pub less_put : (new old : List Offer) (other : Offer) → ((i : ℕ) → weight_at new i ≤ weight_at old i) → (x : Key)
      → weight (held_in new other x (rule_of a x)) ≤ weight (held_in old other x (rule_of a x))
  less_put new old other below x = by (rule_of a x)
    where
      by : (o : Option DRule) → weight (held_in new other x o) ≤ weight (held_in old other x o)
      by (Some rule) = below (length a + 1 + place a x)
      by None = omega arith

  -- a key that it doesn't list
  pub offered_other : (nodes : List Offer) (old new offer : Offer) (x : Key) → rule_of a x ≡ None → new ≡ lesser old offer → weight (held_in nodes new x (rule_of a x)) ≤ weight offer
  offered_other nodes old new offer x none is =
      let less : weight new ≡ min (weight old) (weight offer) = ap weight is ∙ lesser_weight old offer in
      subst (λ (o : Option DRule). weight (held_in nodes new x o) ≤ weight offer) (sym none) (omega (arith, less))

  pub less_other : (nodes : List Offer) (old new offer : Offer) → new ≡ lesser old offer → (x : Key) → weight (held_in nodes new x (rule_of a x)) ≤ weight (held_in nodes old x (rule_of a x))
  less_other nodes old new offer is x = by (rule_of a x)
    where
      less : weight new ≡ min (weight old) (weight offer)
      less = ap weight is ∙ lesser_weight old offer

      by : (o : Option DRule) → weight (held_in nodes new x o) ≤ weight (held_in nodes old x o)
      by (Some rule) = omega arith
      by None = omega (arith, less)
