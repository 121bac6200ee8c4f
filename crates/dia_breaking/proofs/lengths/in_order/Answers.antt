use Rattle.std.proofs.Common.{◌≡◌, rules, subst}
use Rattle.std.specs.List.Sorted.{IsPermutation, IsStableByKey}
use Rattle.std.specs.Ordering.{nat_cmp}
use Rattle.std.proofs.lemmas.Fn.{always_returns_same}
use Rattle.std.proofs.lemmas.List.Sorted.{IsNonDecreasingBy-from_sort_by_key}
use Rattle.dia_terms.specs.declared.Sends.TheVariants.{Known}
use Rattle.dia_breaking.specs.Lengths.{listed_length}
use Rattle.dia_breaking.proofs.lengths.in_order.Goals as goal

pub returns : goal.returns
returns g c =
    let length = listed_length (g.A.Book.meaning c.args.book.now) Known c.args.entries.now in
    record {
      sorted = IsNonDecreasingBy-from_sort_by_key length _ c.in_ok-sort_by_key.ensures.sorted (λ a r q k. search rules);
      all = subst (λ keys. IsPermutation keys c.sort_by_key.new.self.items) c.in_ok-keys.ensures c.sort_by_key.ensures.permutation;
      stable = subst (λ keys. IsStableByKey length nat_cmp keys c.sort_by_key.new.self.items) c.in_ok-keys.ensures
          (c.sort_by_key.ensures.stable length (always_returns_same _ (λ a r. r ≡ length a.0.now) _ (λ a r q k. search rules)));
    }
