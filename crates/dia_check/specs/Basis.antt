-- What a check uses.
use Rattle.dia_book.specs.Dictionary.{Dictionary}
use Rattle.dia_terms.specs.declared.Unknown.{Unknown}
use Rattle.dia_terms.specs.declared.Levels.{Levels}
use Rattle.dia_check.specs.declared.basis.Basis.{Basis}

pub record PlainBasis : Type 0 where
  pub dictionary : Dictionary
  pub unknown : Unknown
  pub levels : Levels

abbrev pub plain_basis : {B : Type 0} → (B → Dictionary) → Basis B → PlainBasis
plain_basis meaning basis = record { dictionary = meaning basis.book.now; unknown = basis.unknown; levels = basis.levels }
