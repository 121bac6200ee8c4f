use Rattle.std.proofs.Common.{◌≡◌, ℕ, ◌++◌, List, map, ap, sym, ◌∙◌, rules}
use Rattle.std.proofs.lemmas.Simd.{map-map}
use Rattle.std.proofs.lemmas.Map.Iter.{iter_end}
use Rattle.std.specs.Map.Iter.{deref}
use Rattle.dia_peer.specs.Core.{Pair, pair, pairs_of}
use Rattle.dia_peer.proofs.named_apps.push_all.Goals as goal

pub returns : goal.returns
returns c =
    let all : map deref c.loop-id.yielded ≡ c.args.ids.now.keys = search (rules, iter_end) in
    c.loop-id.invariant ∙ ap (λ (ps : List Pair). pairs_of c.args.pairs.now.items ++ ps) (sym (map-map (λ (id : ℕ). pair c.args.kind id) deref c.loop-id.yielded) ∙ ap (map (λ (id : ℕ). pair c.args.kind id)) all)
