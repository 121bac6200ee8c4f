-- What the messages of an upgrade are made of is what its two sides have.
use Rattle.std.proofs.Common.{refl}
use Rattle.std.proofs.Math.Logic.{∥∥₁_map}
use Rattle.dia_book.specs.declared.book.Book.{Ghosts as Reads}
use Rattle.dia_breaking.specs.declared.upgrade.Upgrade.{Upgrade}
use Rattle.dia_breaking.specs.Stocks.{IsStock}
use Rattle.dia_breaking.specs.Upgrades.{facts_of, sides_of, stock_of}

pub stock_is : {A B : Type 0} {a : Reads A} {b : Reads B} (up : Upgrade A B a b) → IsStock (sides_of up) (stock_of up)
stock_is up = ∣ ((facts_of up).lengths, record { least_is = up.lengths.exact; costs_are = refl; others_are = ∥∥₁_map up.known (λ known. known.are_others) }) ∣₁
