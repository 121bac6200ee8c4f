-- Numbers in network byte order (RFC 6733 section 3).
use Rattle.std.specs.Prelude.{◌≡◌, ℕ, List, length}
pub use Rattle.dia_terms.specs.Number.{number}

-- the n bytes of the field that holds x
pub record IsField (n x : ℕ) (bytes : List ℕ) : Type 0 where
  pub width : length bytes ≡ n
  pub value : number bytes ≡ x
