-- The sites of the readings of a command, and the heads of the definitions that these are by.
use Rattle.std.proofs.Common.{◌≡◌, ℕ, zero, suc, ◌+◌, List, [], ◌∷◌, length, Option, Some, None, refl, sym, subst, ◌∙◌, inl, inr}
use Rattle.std.specs.Prelude.{◌⊎◌, slice_get}
use Rattle.std.specs.Option.{option_map_or}
use Rattle.std.proofs.lemmas.Option.{none-some, same_Some}
use Rattle.dia_book.specs.declared.Class.{Class}
use Rattle.dia_book.specs.declared.DefHead.{DefHead}
use Rattle.dia_book.specs.declared.DefHead.TheVariants.{Group, Command, Error}
use Rattle.dia_book.specs.Dictionary.{Dictionary, PlainDefinition, IsDictionary, IsCommandHead, definitions, groups, selected}
use Rattle.dia_valid.proofs.Members.{all_of, in_at}
use Rattle.dia_valid.proofs.SelectedCommands.{Choice, NoChoice, choose, command_at}
use Rattle.dia_breaking_levels.specs.declared.line.Line.{Line as LevelLine}
use Rattle.dia_breaking.specs.declared.heads.Head.{Head}
use Rattle.dia_breaking.specs.declared.readings.Reading.{Reading}
use Rattle.dia_breaking.specs.Free.{IsReadBy, IsSelectedFor}
use Rattle.dia_breaking.specs.Headers.{IsCommandPlace, head_in}
use Rattle.dia_breaking.specs.Sites.{read_site, refused_site}
use Rattle.dia_breaking.specs.TheLines.{AreLevels}

-- ---- lists

pub levels_at : (P : Reading → List LevelLine → Type 0) (readings : List Reading) (all : List (List LevelLine)) → AreLevels P readings all → (i : ℕ) (r : Reading) → slice_get readings i ≡ Some r
    → (found : List LevelLine) × (slice_get all i ≡ Some found) × P r found
levels_at P [] all are i r at = absurd (none-some r at)
levels_at P (q ∷ readings) [] are i r at = absurd are
levels_at P (q ∷ readings) (found ∷ all) are zero r at = (found, refl, subst (λ (z : Reading). P z found) (same_Some q r at) are.0)
levels_at P (q ∷ readings) (found ∷ all) are (suc i) r at = levels_at P readings all are.1 i r at

-- ---- a definition of a command has a head

head_of : (h : DefHead) → IsCommandHead h → (its : Head) × (head_in h ≡ Some its)
head_of (Group key) is = absurd is
head_of (Command code class app p) is = (_, refl)
head_of (Error p) is = (_, refl)

pub command_head : (d : Dictionary) → IsDictionary d → (code : ℕ) (class : Class) (app n : ℕ) (y : PlainDefinition) → selected d code class app ≡ Some n → slice_get (definitions d) n ≡ Some y
    → (its : Head) × (head_in y.head ≡ Some its)
command_head d sound code class app n y select at = by (choose d code class app)
  where
    by : Choice d code class app ⊎ NoChoice d code class app → (its : Head) × (head_in y.head ≡ Some its)
    by (inl ch) =
        let place : length (groups d) + ch.place ≡ n = same_Some _ n (sym ch.is_selected ∙ select) in
        let here = command_at d ch.place n y (sym place) at in
        head_of y.head (all_of (λ (z : PlainDefinition). IsCommandHead z.head) d.commands y sound.command_heads (in_at d.commands ch.place y here))
    by (inr none) = absurd (none-some n (sym none.is_none ∙ select))

-- ---- the sites of readings

pub place_of : (head : Head) (r : Reading) (o : Option Head) → IsCommandPlace r.read_as (option_map_or (read_site head r) o (refused_site head r)).place
place_of head r None = refl
place_of head r (Some other) = refl

pub read_by : (da db : Dictionary) (c : ℕ) (head : Head) (r : Reading) (x y : PlainDefinition) (o : Option Head) → IsReadBy da db c (option_map_or (read_site head r) o (refused_site head r)).place x y
    → IsSelectedFor db x.head r.read_as y
read_by da db c head r x y None read = read.1
read_by da db c head r x y (Some other) read = read.1

-- a reading by this definition of B
pub record IsReadingOf (db : Dictionary) (head : Head) (readings : List Reading) (y : PlainDefinition) : Type 0 where
  pub place : ℕ
  pub reading : Reading
  pub at : slice_get readings place ≡ Some reading
  pub number : ℕ
  pub select : selected db head.code head.class reading.read_as ≡ Some number
  pub is_other : slice_get (definitions db) number ≡ Some y
  pub its : Head
  pub is_its : head_in y.head ≡ Some its
