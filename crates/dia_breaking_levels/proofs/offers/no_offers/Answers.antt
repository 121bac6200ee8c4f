use Rattle.std.proofs.Common.{◌≡◌, ℕ, ◌+◌, ◌*◌, ◌-◌, ◌<◌, List, length, ◌++◌, replicate, sym, ap, subst, ◌∙◌, arith}
use Rattle.std.specs.Prelude.{vec_len}
use Rattle.std.proofs.lemmas.List.{take_all}
use Rattle.dia_breaking_levels.specs.declared.offers.Offer.{Offer}
use Rattle.dia_breaking_levels.specs.Offers.{node_at, nothing}
use Rattle.dia_breaking_levels.proofs.LeastNodes.{nothing_twice, nothing_least, nothing_attained}
use Rattle.dia_breaking_levels.proofs.offers.no_offers.Goals as goal

pub returns : goal.returns
returns c =
    let n = c.args.places in
    let half = c.in_ok-nodes.nodes.items in
    let all : ℕ = c.len.result * 2 in
    let first : half ≡ replicate n nothing = c.in_ok-nodes.ensures.items_if_clones_equal (λ y q. q) ∙ ap (replicate n) c.no_offer.ensures in
    let fits = take_all all half (omega (arith, c.len.ensures, c.in_ok-nodes.nodes.ok.0)) in
    let more : ℕ = all - c.in_ok-nodes.nodes.len in
    let nodes = c.resize.new.self.items in
    let is : nodes ≡ replicate n nothing ++ replicate more nothing =
    c.in_ok-resize.ensures.items ∙ ap (λ (xs : List Offer). xs ++ replicate more c.no_offer-2.result) (fits ∙ first)
    ∙ ap (λ (o : Offer). replicate n nothing ++ replicate more o) c.no_offer-2.ensures in
    let none : (i : ℕ) → i < n + n → node_at nodes i ≡ nothing =
    λ i below. subst (λ (xs : List Offer). node_at xs i ≡ nothing) (sym is) (nothing_twice n more i (omega (arith, c.len.ensures, c.in_ok-nodes.ensures.len))) in
    let size : vec_len c.resize.new.self ≡ n + n = omega (arith, c.in_ok-resize.ensures.len, c.len.ensures, c.in_ok-nodes.ensures.len) in
    let own = c.resize.new.self.ok.0 in
    let each : (i : ℕ) → i < length nodes → node_at nodes i ≡ nothing = λ i below. none i (omega (arith, size, own)) in
    record { size = size; tree = nothing_least nodes each; attained = nothing_attained nodes each; empty = none; other = c.no_offer-3.ensures }
