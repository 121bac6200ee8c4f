-- What messages are made of is unique for two sides.
use Rattle.std.specs.Prelude.{◌≡◌, ℕ, List}
use Rattle.dia_breaking.specs.declared.line.Line.{Line}
use Rattle.dia_breaking.specs.declared.line.Site.{Site}
use Rattle.dia_breaking.specs.Lengths.{AreExactlyOthers, IsLeastFor, costs_by}
use Rattle.dia_breaking.specs.Messages.{IsLineMessage, Stock}
use Rattle.dia_breaking.specs.Sides.{Sides}

-- where A's entries have these lengths: the shortest AVPs that A's side sends, what AVPs take in A's levels, and which of them a
-- wildcard lets in
pub record IsStockOf (s : Sides) (lengths : List ℕ) (k : Stock) : Type 0 where
  pub least_is : ∥ IsLeastFor s.sender s.sends k.least lengths ∥₁
  pub costs_are : k.costs ≡ costs_by s.sender s.sends lengths k.costs.others
  pub others_are : ∥ AreExactlyOthers s.sender s.receiver s.sends lengths k.costs.others ∥₁

-- messages are made of what the two sides have
abbrev pub IsStock : Sides → Stock → Type 0
IsStock s k = ∥ ((lengths : List ℕ) × IsStockOf s lengths k) ∥₁

-- a line has one message at most, whatever it is made of
abbrev pub StocksMakeOneMessage : Type 0
StocksMakeOneMessage = (s : Sides) (lengths others_lengths : List ℕ) (k l : Stock) (c : ℕ) (sites : List Site) (line : Line) (bytes others : List ℕ) → IsStockOf s lengths k → IsStockOf s others_lengths l
    → IsLineMessage s k c sites line bytes → IsLineMessage s l c sites line others → bytes ≡ others
