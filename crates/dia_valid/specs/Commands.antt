-- What the head of a command says: its code and class, or that it is the definition for errors (RFC 6733 sections 3 and 7.2).
use Rattle.std.specs.Prelude.{◌≡◌, ℕ, Option, Contains}
use Rattle.dia_book.specs.declared.Class.{Class}
use Rattle.dia_book.specs.declared.Pxy.{Pxy}
use Rattle.dia_book.specs.declared.DefHead.TheVariants.{Command, Error}
use Rattle.dia_book.specs.Dictionary.{Dictionary, PlainDefinition}

-- code and class of a command that has a number
pub record HasCode (c : PlainDefinition) (code : ℕ) (class : Class) (app : Option ℕ) : Type 0 where
  pub p : Pxy
  pub head : c.head ≡ Command code class app p

abbrev pub IsError : PlainDefinition → Type 0
IsError c = (p : Pxy) × (c.head ≡ Error p)

-- some command of the dictionary is this code's, class's and application's
abbrev pub NamesApp : Dictionary → ℕ → Class → Option ℕ → Type 0
NamesApp d code class app = (c : PlainDefinition) × Contains d.commands c × HasCode c code class app
