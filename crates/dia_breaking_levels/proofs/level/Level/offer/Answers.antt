use Rattle.std.proofs.Common.{◌≡◌, ℕ, ◌+◌, ◌/◌, ◌≤◌, List, ◌++◌, take, drop, length, sym, ap, subst, ◌∙◌, arith}
use Rattle.std.specs.Prelude.{◌⊎◌}
use Rattle.std.proofs.lemmas.List.{drop_all, take_all, append-nil}
use Rattle.dia_valid.specs.Rules.{rules_in}
use Rattle.dia_breaking_levels.specs.declared.offers.Offer.{Offer}
use Rattle.dia_breaking_levels.specs.Offers.{lesser, node_at, offer_of, weight, weight_at, AreLeast, AreAttained, AreHeldFrom, IsOtherFrom}
use Rattle.dia_breaking_levels.proofs.HeldOffers.{less_other, less_put, offered_other, offered_put}
use Rattle.dia_breaking_levels.proofs.OfferedKeys.{held_put, other_put}
use Rattle.dia_breaking_levels.proofs.level.Level.offer.Goals as goal

-- all of a list is written
put_whole : (n : ℕ) (xs ys : List Offer) → length xs ≡ length ys → length xs ≡ n → take n (xs ++ drop (length xs) ys) ≡ xs
put_whole n xs ys same is = ap (λ (zs : List Offer). take n (xs ++ zs)) (drop_all (length xs) ys (omega (arith, same))) ∙ ap (take n) (append-nil xs) ∙ take_all n xs (omega (arith, is))

pub returns-in-Some-clause-true_still : goal.returns-in-Some-clause-true_still
returns-in-Some-clause-true_still g c = λ outer from before may late.
    let self = c.args.self.now in
    let a = rules_in (g.A.Book.meaning self.a.book.now) self.a.def in
    let b = rules_in (g.B.Book.meaning self.b.book.now) self.b.def in
    let listed = g.C.Costs.listed_length self.costs.now in
    let other = g.C.Costs.other_length self.costs.now in
    let x = c.args.x in
    let new = c.put.new.nodes in
    let old = c.deref_mut.result.now in
    let items = c.args.offers.now.nodes.items in
    let leaf = c.len.result / 2 + c.place.result in
    let size : length new ≡ length old = c.put.ensures.size in
    let whole = put_whole c.args.offers.now.nodes.len new items (size ∙ ap length c.deref_mut.ensures.value) (size ∙ c.deref_mut.ensures.len) in
    let here : (node_at new leaf ≡ node_at old leaf) ⊎ (node_at new leaf ≡ offer_of listed other a b x) =
    subst (λ (o : Offer). (node_at new leaf ≡ node_at old leaf) ⊎ (node_at new leaf ≡ o)) c.offer_of-offer.ensures c.put.ensures.either in
    let held = held_put listed other a b outer from leaf new old x c.in-Some.field-0 (omega (arith, c.len.ensures, c.place.ensures, c.requires.0)) (c.deref_mut.ensures.len ∙ c.requires.0) here
    c.put.ensures.others
    (sym c.rule.ensures ∙ c.in-Some.is) may late (subst (AreHeldFrom listed other a b outer from) (sym c.deref_mut.ensures.value) before.0) in
    (subst (AreHeldFrom listed other a b outer from) (sym whole) held, before.1)

pub returns-in-Some-clause-offers : goal.returns-in-Some-clause-offers
returns-in-Some-clause-offers g c =
    let size : length c.put.new.nodes ≡ length c.deref_mut.result.now = c.put.ensures.size in
    let whole = put_whole c.args.offers.now.nodes.len c.put.new.nodes c.args.offers.now.nodes.items (size ∙ ap length c.deref_mut.ensures.value) (size ∙ c.deref_mut.ensures.len) in
    (c.requires.0, subst AreLeast (sym whole) c.put.ensures.tree, subst AreAttained (sym whole) c.put.ensures.attained)

pub returns-in-Some-clause-less : goal.returns-in-Some-clause-less
returns-in-Some-clause-less g c =
    let self = c.args.self.now in
    let a = rules_in (g.A.Book.meaning self.a.book.now) self.a.def in
    let new = c.put.new.nodes in
    let items = c.args.offers.now.nodes.items in
    let size : length new ≡ length c.deref_mut.result.now = c.put.ensures.size in
    let whole = put_whole c.args.offers.now.nodes.len new items (size ∙ ap length c.deref_mut.ensures.value) (size ∙ c.deref_mut.ensures.len) in
    let below : (i : ℕ) → weight_at new i ≤ weight_at items i = λ i. subst (λ (k : List Offer). weight_at new i ≤ weight_at k i) c.deref_mut.ensures.value (c.put.ensures.below i) in
    less_put a _ items c.args.offers.now.other (λ i. subst (λ (k : List Offer). weight_at k i ≤ weight_at items i) (sym whole) (below i))

pub returns-in-Some-clause-offered : goal.returns-in-Some-clause-offered
returns-in-Some-clause-offered g c =
    let self = c.args.self.now in
    let a = rules_in (g.A.Book.meaning self.a.book.now) self.a.def in
    let b = rules_in (g.B.Book.meaning self.b.book.now) self.b.def in
    let offered = offer_of (g.C.Costs.listed_length self.costs.now) (g.C.Costs.other_length self.costs.now) a b c.args.x in
    let new = c.put.new.nodes in
    let leaf = c.len.result / 2 + c.place.result in
    let size : length new ≡ length c.deref_mut.result.now = c.put.ensures.size in
    let whole = put_whole c.args.offers.now.nodes.len new c.args.offers.now.nodes.items (size ∙ ap length c.deref_mut.ensures.value) (size ∙ c.deref_mut.ensures.len) in
    let there : weight_at new leaf ≤ weight offered = subst (λ (o : Offer). weight_at new leaf ≤ weight o) c.offer_of-offer.ensures c.put.ensures.there in
    offered_put a _ c.args.offers.now.other c.args.x c.in-Some.field-0 leaf (weight offered) (sym c.rule.ensures ∙ c.in-Some.is)
    (omega (arith, c.len.ensures, c.place.ensures, c.requires.0)) (subst (λ (k : List Offer). weight_at k leaf ≤ weight offered) (sym whole) there)

pub returns-in-None-clause-offers : goal.returns-in-None-clause-offers
returns-in-None-clause-offers g c = c.requires

pub returns-in-None-clause-less : goal.returns-in-None-clause-less
returns-in-None-clause-less g c =
    let self = c.args.self.now in
    less_other (rules_in (g.A.Book.meaning self.a.book.now) self.a.def) c.args.offers.now.nodes.items c.args.offers.now.other _ c.offer_of-offer.result c.lesser-offers.ensures

pub returns-in-None-clause-offered : goal.returns-in-None-clause-offered
returns-in-None-clause-offered g c =
    let self = c.args.self.now in
    let a = rules_in (g.A.Book.meaning self.a.book.now) self.a.def in
    let b = rules_in (g.B.Book.meaning self.b.book.now) self.b.def in
    let offered = offer_of (g.C.Costs.listed_length self.costs.now) (g.C.Costs.other_length self.costs.now) a b c.args.x in
    let old = c.args.offers.now.other in
    offered_other a c.args.offers.now.nodes.items old _ offered c.args.x (sym c.rule.ensures ∙ c.in-None.is) (c.lesser-offers.ensures ∙ ap (lesser old) c.offer_of-offer.ensures)

pub returns-in-None-clause-true_still : goal.returns-in-None-clause-true_still
returns-in-None-clause-true_still g c = λ outer from before may late.
    let self = c.args.self.now in
    let a = rules_in (g.A.Book.meaning self.a.book.now) self.a.def in
    let b = rules_in (g.B.Book.meaning self.b.book.now) self.b.def in
    let listed = g.C.Costs.listed_length self.costs.now in
    let other = g.C.Costs.other_length self.costs.now in
    let old = c.args.offers.now.other in (
      before.0,
      subst (IsOtherFrom listed other a b outer from) (sym (c.lesser-offers.ensures ∙ ap (lesser old) c.offer_of-offer.ensures))
          (other_put listed other a b outer from old c.args.x (sym c.rule.ensures ∙ c.in-None.is) may late before.1),
    )
