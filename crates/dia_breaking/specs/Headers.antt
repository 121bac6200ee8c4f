-- The headers of a command's messages that represent all, as they are found.
use Rattle.std.specs.Prelude.{◌≡◌, ◌⊎◌, ℕ, ◌==◌, nat_eq, Bool, true, not, List, [], Option, Some, None, if◌then◌else◌, unwrap_or, slice_get, Contains}
use Rattle.std.specs.List.{filter_map}
use Rattle.std.specs.Option.{option_map}
use Rattle.std.specs.HashMap.{get}
use Rattle.dia_book.specs.declared.Class.{Class}
use Rattle.dia_book.specs.declared.Class.TheVariants as classes
use Rattle.dia_book.specs.declared.Pxy.{Pxy}
use Rattle.dia_book.specs.declared.Pxy.TheVariants as pxy
use Rattle.dia_book.specs.declared.DefHead.{DefHead}
use Rattle.dia_book.specs.declared.DefHead.TheVariants.{Group, Command, Error}
use Rattle.dia_book.specs.Dictionary.{Dictionary, PlainDefinition, definitions, same_class}
use Rattle.dia_breaking.specs.declared.apps.Apps.{Apps}
use Rattle.dia_breaking.specs.declared.apps.BothApps.{BothApps}
use Rattle.dia_breaking.specs.declared.heads.Head.{Head}
use Rattle.dia_breaking.specs.declared.line.Cause.TheVariants as causes
use Rattle.dia_breaking.specs.declared.line.Line.{Line}
use Rattle.dia_breaking.specs.declared.line.Place.{Place}
use Rattle.dia_breaking.specs.declared.line.Place.TheVariants as places

-- ---- the applications that commands name

-- the class and the application of a command of this code that names one
abbrev pub app_row : ℕ → DefHead → Option (Class × ℕ)
app_row code (Group key) = None
app_row code (Command own class None p) = None
app_row code (Command own class (Some app) p) = if code == own then Some (class, app) else None
app_row code (Error p) = None

abbrev pub rows_of : Apps → ℕ → List (Class × ℕ)
rows_of apps code = unwrap_or (option_map (λ v. v.items) (get nat_eq apps.by_code code)) []

-- of each code those of the dictionary's commands
abbrev pub AreApps : Dictionary → Apps → Type 0
AreApps d apps = (code : ℕ) → rows_of apps code ≡ filter_map (λ c. app_row code c.head) d.commands

abbrev pub row_app : Class → Class × ℕ → Option ℕ
row_app class row = if same_class row.0 class then Some row.1 else None

-- the applications that commands of the code and the class name
abbrev pub apps_of : Apps → ℕ → Class → List ℕ
apps_of apps code class = filter_map (row_app class) (rows_of apps code)

abbrev pub both_apps : Apps → Apps → BothApps
both_apps first second = record { first = first; second = second }

-- ---- the definitions of B

-- what the header says, with the code 0 and the application 0 for errors
abbrev pub head_in : DefHead → Option Head
head_in (Group key) = None
head_in (Command code class app p) = Some (record { code = code; class = class; app = app; p = p })
head_in (Error p) = Some (record { code = 0; class = classes.Error; app = Some 0; p = p })

-- the definition of this number is of a command with this head
abbrev pub HasHead : Dictionary → ℕ → Head → Type 0
HasHead d c head = (x : PlainDefinition) × (slice_get (definitions d) c ≡ Some x) × (head_in x.head ≡ Some head)

-- a line reports that B selects no definition
abbrev pub RecordsRefusal : List Line → Type 0
RecordsRefusal lines = (line : Line) × Contains lines line × ((line.cause ≡ causes.Command) ⊎ (line.cause ≡ causes.Application))

-- the place is the command's own level, and B's definition for this application reads it
abbrev pub IsCommandPlace : ℕ → Place → Type 0
IsCommandPlace app (places.Command own read_as is_recorded proxiable) = read_as ≡ app
IsCommandPlace app (places.Group key outer) = ⊥

-- whether the P flag may have this value
abbrev pub allows : Pxy → Bool → Bool
allows pxy.Clear set = not set
allows pxy.Set set = set
allows pxy.Either set = true
