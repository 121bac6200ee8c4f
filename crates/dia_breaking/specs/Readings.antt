-- By which definitions of B the levels of a command are read: by that for the application of the messages; and where B refuses
-- that application, by the one that B alone names.
use Rattle.std.specs.Prelude.{◌≡◌, ℕ, ◌==◌, nat_eq, Bool, false, not, ◌&&◌, if◌then◌else◌, List, [], ◌∷◌, ◌++◌, map, Option, Some, None, is_some, option_and_then, option_to_list, unwrap_or}
use Rattle.std.specs.List.{filter_map}
use Rattle.std.specs.Option.{option_eq, option_map, option_map_or}
use Rattle.std.specs.HashMap.{get}
use Rattle.dia_book.specs.declared.Class.{Class}
use Rattle.dia_book.specs.declared.Class.TheVariants as classes
use Rattle.dia_book.specs.declared.DefHead.{DefHead}
use Rattle.dia_book.specs.Dictionary.{Dictionary, same_class, selected}
use Rattle.dia_breaking.specs.declared.apps.BothApps.{BothApps}
use Rattle.dia_breaking.specs.declared.heads.Head.{Head}
use Rattle.dia_breaking.specs.declared.readings.NewApps.{NewApps}
use Rattle.dia_breaking.specs.declared.readings.OtherApps.{OtherApps}
use Rattle.dia_breaking.specs.declared.readings.Reading.{Reading}
use Rattle.dia_breaking.specs.Headers.{head_in}
use Rattle.dia_breaking.specs.Sites.{other_head}
use Rattle.dia_breaking.specs.RecordedApps.{AreRecordedApps}

-- ---- the applications that B alone names

-- A's definition for messages of B's command names the application that B's does
abbrev pub names : Dictionary → Head → Bool
names da other = option_map_or (λ app. option_eq nat_eq (option_and_then (λ own. own.app) (other_head da other app)) (Some app)) other.app false

-- the application that a command of B names, if it is of this code and this class, and A names the application for none
abbrev pub new_app : Dictionary → ℕ → Class → DefHead → Option ℕ
new_app da code class h = option_and_then (λ other. if (code == other.code) && same_class class other.class && not (names da other) then other.app else None) (head_in h)

-- those of all commands of B
abbrev pub new_apps : Dictionary → Dictionary → ℕ → Class → List ℕ
new_apps da db code class = filter_map (λ c. new_app da code class c.head) db.commands

-- the only member of a list
abbrev pub only : List ℕ → Option ℕ
only [] = None
only (x ∷ []) = Some x
only (x ∷ y ∷ xs) = None

-- the one application that B alone names for the code and the class of the head; none, where there are more, or none
abbrev pub one_other : Dictionary → Dictionary → Head → Option ℕ
one_other da db head = only (new_apps da db head.code head.class)

-- ---- readings

-- messages of an application are read by B's definition for it
abbrev pub as_sent : ℕ → Reading
as_sent app = record { app = app; read_as = app }

-- or by that for another
abbrev pub as_other : ℕ → ℕ → Reading
as_other app other = record { app = app; read_as = other }

-- where the head names an application and B selects no definition for it: messages of it are read by the one other
abbrev pub reading_after : Dictionary → Dictionary → Head → Option Reading
reading_after da db head = option_and_then (λ app. if is_some (selected db head.code head.class app) then None else option_map (as_other app) (one_other da db head)) head.app

-- the readings of a command with this head: its applications as they are sent, and the one after them
abbrev pub AreReadings : Dictionary → Dictionary → BothApps → ℕ → Head → List Reading → Type 0
AreReadings da db both c head readings = (apps : List ℕ) × AreRecordedApps da both c head apps × (readings ≡ map as_sent apps ++ option_to_list (reading_after da db head))

-- ---- as they are found

abbrev pub apps_by : NewApps → ℕ → List ℕ
apps_by apps code = unwrap_or (option_map (λ v. v.items) (get nat_eq apps.by_code code)) []

abbrev pub of_class : OtherApps → Class → NewApps
of_class all classes.Request = all.requests
of_class all classes.Answer = all.answers
of_class all classes.Error = all.errors

-- of each code and each class those that B alone names
abbrev pub AreOtherApps : Dictionary → Dictionary → OtherApps → Type 0
AreOtherApps da db all = (code : ℕ) (class : Class) → apps_by (of_class all class) code ≡ new_apps da db code class
