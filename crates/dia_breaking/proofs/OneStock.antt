-- What messages are made of is one, and so are the messages.
use Rattle.std.proofs.Common.{◌≡◌, ℕ, List, sym, ap, subst, ◌∙◌}
use Rattle.std.proofs.Math.Logic.{∥∥₁_elim}
use Rattle.std.proofs.Props.{props}
use Rattle.dia_wire.specs.declared.Key.{Key}
use Rattle.dia_breaking_shortest.proofs.OneLeast.{one_least_avp}
use Rattle.dia_breaking_shortest.proofs.OneSolution.{lengths_are_one}
use Rattle.dia_breaking.specs.Lengths.{AreEntryLengths, AreExactlyOthers, IsLeastFor, costs_by}
use Rattle.dia_breaking.specs.Messages.{Stock, shortest_avp}
use Rattle.dia_breaking.specs.Sides.{Sides}
use Rattle.dia_breaking.specs.Stocks.{IsStockOf, StocksMakeOneMessage}
use Rattle.dia_breaking.proofs.OneMessage.{one_by}
use Rattle.dia_breaking.proofs.OneSolution.{one_list_of_others}
use Rattle.dia_breaking.proofs.TheOneList.{one_list_of_lengths}

module _ (s : Sides) (lengths others_lengths : List ℕ) (k l : Stock) (is : IsStockOf s lengths k) (are : IsStockOf s others_lengths l)
    (own : IsLeastFor s.sender s.sends k.least lengths) (other : IsLeastFor s.sender s.sends l.least others_lengths)
    (own_others : AreExactlyOthers s.sender s.receiver s.sends lengths k.costs.others) (other_others : AreExactlyOthers s.sender s.receiver s.sends others_lengths l.costs.others) where
  same_avps : shortest_avp s k ≡ shortest_avp s l
  same_avps = λ i key. one_least_avp s.sender s.sends k.least l.least own.is_least other.is_least key i

  same_lengths : lengths ≡ others_lengths
  same_lengths =
      let least = lengths_are_one s.sender s.sends k.least.lengths.items l.least.lengths.items own.is_least.lengths other.is_least.lengths in
      one_list_of_lengths s.sender l.least.lengths.items lengths others_lengths (subst (λ (xs : List ℕ). AreEntryLengths s.sender xs lengths) least own.are_lengths) other.are_lengths

  same_others : k.costs.others ≡ l.costs.others
  same_others =
      one_list_of_others s.sender s.receiver s.sends lengths k.costs.others l.costs.others own_others
      (subst (λ (xs : List ℕ). AreExactlyOthers s.sender s.receiver s.sends xs l.costs.others) (sym same_lengths) other_others)

  same_costs : k.costs ≡ l.costs
  same_costs =
      is.costs_are ∙ ap (λ (xs : List ℕ). costs_by s.sender s.sends xs k.costs.others) same_lengths ∙ ap (λ (keys : List Key). costs_by s.sender s.sends others_lengths keys) same_others ∙ sym are.costs_are

pub one_of_stocks : StocksMakeOneMessage
one_of_stocks s lengths others_lengths k l c sites line bytes others is are first second =
    ∥∥₁_elim is.least_is (hlevel props) (λ own. ∥∥₁_elim are.least_is (hlevel props) (λ other.
    ∥∥₁_elim is.others_are (hlevel props) (λ own_others. ∥∥₁_elim are.others_are (hlevel props) (λ other_others.
    one_by s k l c (same_avps s lengths others_lengths k l is are own other own_others other_others) (same_costs s lengths others_lengths k l is are own other own_others other_others)
    sites line bytes others first second))))
