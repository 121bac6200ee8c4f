-- When a table of pairs shows that each valid message of one dictionary is valid under another.
use Rattle.std.specs.Prelude.{◌≡◌, ℕ, ◌<◌, ◌⊎◌, List, length, Option, Some, None, IfSome, Contains, slice_get, ⊤}
use Rattle.dia_wire.specs.declared.Key.{Key}
use Rattle.dia_data.specs.Plain.{Grouped}
use Rattle.dia_data.specs.Below.{FormatBelow}
use Rattle.dia_book.specs.declared.MRule.TheVariants.{Any}
use Rattle.dia_book.specs.declared.Class.{Class}
use Rattle.dia_book.specs.declared.DefHead.{DefHead}
use Rattle.dia_book.specs.declared.DefHead.TheVariants.{Group, Command, Error}
use Rattle.dia_book.specs.Dictionary.{Dictionary, DictEntry, PlainDefinition}
use Rattle.dia_terms.specs.declared.Unknown.{Unknown}
use Rattle.dia_valid.specs.Valid.{AllowsP}
use Rattle.dia_compat.specs.declared.checking.Answer.{Answer}
use Rattle.dia_compat.specs.declared.checking.Answer.TheVariants.{Yes, No}
use Rattle.dia_compat.specs.declared.checking.PairKind.{PairKind}
use Rattle.dia_compat.specs.declared.checking.PairKind.TheVariants as kind
use Rattle.dia_compat.specs.declared.checking.Test.{Test}
use Rattle.dia_compat.specs.declared.checking.Test.TheVariants.{N1, N2, N3, N4, N5, N6, N7, N8, N9, N10}
pub use Rattle.dia_valid.specs.Commands.{HasCode, IsError, NamesApp}
pub use Rattle.dia_valid.specs.Inclusion.{IsBeside, IsIncluded}
use Rattle.dia_compat.specs.TableText.{PlainTable}
use Rattle.dia_compat.specs.Below.{Passes}

-- ---- names

abbrev pub NamesEntry : Dictionary → List ℕ → DictEntry → Type 0
NamesEntry d name e = Contains d.entries e × (e.name ≡ name)

abbrev pub NamesCommand : Dictionary → List ℕ → PlainDefinition → Type 0
NamesCommand d name c = Contains d.commands c × (c.name ≡ name)

-- the key that both names of some pair have
abbrev pub IsPairKey : Dictionary → Dictionary → PlainTable → Key → Type 0
IsPairKey da db table key = (p : List ℕ × List ℕ) × Contains table.avps p × (e f : DictEntry) × NamesEntry da p.0 e × NamesEntry db p.1 f × (e.key ≡ key) × (f.key ≡ key)

-- ---- commands

-- a definition of B that may be selected for a message of A's command
pub data IsWanted (da db : Dictionary) (c d : PlainDefinition) : Type 0 where
  error : Contains db.commands d → IsError c → IsError d → IsWanted da db c d
  -- for its application, or else for none
  same_app : (code app : ℕ) (class : Class) → Contains db.commands d → HasCode c code class (Some app) → HasCode d code class (Some app) → IsWanted da db c d
  no_app : (code app : ℕ) (class : Class) → Contains db.commands d → HasCode c code class (Some app) → HasCode d code class None → ¬ NamesApp db code class (Some app) → IsWanted da db c d
  -- for all that A has no definition of
  both_none : (code : ℕ) (class : Class) → Contains db.commands d → HasCode c code class None → HasCode d code class None → IsWanted da db c d
  other_app : (code app : ℕ) (class : Class) → Contains db.commands d → HasCode c code class None → HasCode d code class (Some app) → ¬ NamesApp da code class (Some app) → IsWanted da db c d

-- what A's command may be selected for, some definition of B is selected for
abbrev pub IsServed : Dictionary → Dictionary → PlainDefinition → DefHead → Type 0
IsServed da db c (Group key) = ⊥
IsServed da db c (Error p) = (d : PlainDefinition) × Contains db.commands d × IsError d
IsServed da db c (Command code class None p) = NamesApp db code class None
IsServed da db c (Command code class (Some app) p) = NamesApp db code class (Some app) ⊎ NamesApp db code class None

abbrev pub SameCodeAndClass : PlainDefinition → PlainDefinition → Type 0
SameCodeAndClass c d = (IsError c × IsError d) ⊎ ((code : ℕ) × (class : Class) × (x y : Option ℕ) × HasCode c code class x × HasCode d code class y)

-- the pair of two commands
pub record CommandPair (da db : Dictionary) (table : PlainTable) (c d : PlainDefinition) : Type 0 where
  pub same : SameCodeAndClass c d
  pub proxiable : (flags : ℕ) → AllowsP c.head flags → AllowsP d.head flags
  pub served : IsServed da db c c.head
  pub selection : (e : PlainDefinition) → IsWanted da db c e → IsBeside table c e

-- ---- AVPs

abbrev pub BothGrouped : DictEntry → DictEntry → Type 0
BothGrouped e f = (e.format ≡ Grouped) × (f.format ≡ Grouped)

pub record AvpPair (e f : DictEntry) : Type 0 where
  pub same_key : e.key ≡ f.key
  pub m_rule : (f.rule ≡ Any) ⊎ (f.rule ≡ e.rule)
  pub format : FormatBelow e.format f.format ⊎ BothGrouped e f

-- ---- the tests of a pair

-- two names are those of commands whose definitions have P, or of groups whose definitions have P
abbrev pub CommandTest : Dictionary → Dictionary → PlainTable → Unknown → Test → List ℕ × List ℕ → Type 0
CommandTest da db table u N10 p = (c d : PlainDefinition) × NamesCommand da p.0 c × NamesCommand db p.1 d × CommandPair da db table c d
CommandTest da db table u test p = (c d : PlainDefinition) → NamesCommand da p.0 c → NamesCommand db p.1 d → Passes test da db u (IsPairKey da db table) c.rules d.rules

abbrev pub AvpTest : Dictionary → Dictionary → PlainTable → Unknown → Test → List ℕ × List ℕ → Type 0
AvpTest da db table u N10 p = (e f : DictEntry) × NamesEntry da p.0 e × NamesEntry db p.1 f × AvpPair e f
AvpTest da db table u test p = (e f : DictEntry) (a b : PlainDefinition) → NamesEntry da p.0 e
    → NamesEntry db p.1 f → BothGrouped e f → e.group ≡ Some a → f.group ≡ Some b → Passes test da db u (IsPairKey da db table) a.rules b.rules

-- a test of the pair at a place of the table
abbrev pub PassesAt : Dictionary → Dictionary → Unknown → PlainTable → PairKind → ℕ → Test → Type 0
PassesAt da db u table kind.Command i test = IfSome (slice_get table.commands i) (CommandTest da db table u test)
PassesAt da db u table kind.Avp i test = IfSome (slice_get table.avps i) (AvpTest da db table u test)

-- every pair passes every test
abbrev pub IsClosed : Dictionary → Dictionary → Unknown → PlainTable → Type 0
IsClosed da db u table = (k : PairKind) (i : ℕ) (test : Test) → PassesAt da db u table k i test

-- ---- what is reported

-- the tenth test is looked at first
abbrev pub test_number : Test → ℕ
test_number N10 = 0
test_number N1 = 1
test_number N2 = 2
test_number N3 = 3
test_number N4 = 4
test_number N5 = 5
test_number N6 = 6
test_number N7 = 7
test_number N8 = 8
test_number N9 = 9

abbrev pub pairs_of : PairKind → PlainTable → ℕ
pairs_of kind.Command table = length table.commands
pairs_of kind.Avp table = length table.avps

-- commands come before AVPs
abbrev pub PairBefore : PairKind → ℕ → PairKind → ℕ → Type 0
PairBefore kind.Command i kind.Command j = i < j
PairBefore kind.Command i kind.Avp j = ⊤
PairBefore kind.Avp i kind.Avp j = i < j
PairBefore kind.Avp i kind.Command j = ⊥

-- the pair is the first that fails a test, and this is the first test that it fails
pub record IsFirstFailure (da db : Dictionary) (u : Unknown) (table : PlainTable) (k : PairKind) (i : ℕ) (test : Test) : Type 0 where
  pub within : i < pairs_of k table
  pub fails : ¬ PassesAt da db u table k i test
  pub first_test : (other : Test) → test_number other < test_number test → PassesAt da db u table k i other
  pub first_pair : (l : PairKind) (j : ℕ) (other : Test) → PairBefore l j k i → PassesAt da db u table l j other

abbrev pub IsTableAnswer : Dictionary → Dictionary → Unknown → PlainTable → Answer → Type 0
IsTableAnswer da db u table Yes = IsClosed da db u table
IsTableAnswer da db u table (No k i test) = IsFirstFailure da db u table k i test
