use Rattle.std.proofs.Common.{rules, subst}
use Rattle.std.specs.List.Sorted.{IsPermutation}
use Rattle.std.proofs.lemmas.List.Sorted.{IsNonDecreasingBy-from_sort_by_key}
use Rattle.dia_breaking_shortest.specs.Lengths.{length_of}
use Rattle.dia_lint.proofs.costs.in_order.Goals as goal

pub returns : goal.returns
returns g c =
    let length = length_of (g.B.Book.meaning c.args.book.now) c.args.least.now.sends c.args.least.now.lengths.items in
    record {
      sorted = IsNonDecreasingBy-from_sort_by_key length _ c.in_ok-sort_by_key.ensures.sorted (λ a r q k. search rules);
      all = subst (λ keys. IsPermutation keys c.sort_by_key.new.self.items) c.in_ok-keys.ensures c.sort_by_key.ensures.permutation;
    }
