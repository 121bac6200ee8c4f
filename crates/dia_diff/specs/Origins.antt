-- What a line of `breaking` is about.
use Rattle.std.specs.Prelude.{ℕ, nat_eq, if◌then◌else◌, List, Option, Some, None, position, slice_get}
use Rattle.std.specs.Option.{option_eq, option_map, option_or}
use Rattle.dia_book.specs.declared.definition.Class.{Class}
use Rattle.dia_book.specs.Dictionary.{Dictionary, entry_of, is_command}
use Rattle.dia_breaking_levels.specs.declared.line.Line.{Line as LevelLine}
use Rattle.dia_breaking.specs.declared.line.Breaks.{Breaks}
use Rattle.dia_breaking.specs.declared.line.Cause.{Cause}
use Rattle.dia_breaking.specs.declared.line.Cause.TheVariants as causes
use Rattle.dia_breaking.specs.declared.line.Line.{Line}
use Rattle.dia_breaking.specs.declared.line.Place.{Place}
use Rattle.dia_breaking.specs.declared.line.Place.TheVariants as places
use Rattle.dia_breaking.specs.declared.line.Site.{Site}
use Rattle.dia_breaking.specs.Sides.{Answer, Sides, answer_of}
use Rattle.dia_differences.specs.declared.lines.AvpField.TheVariants as avps
use Rattle.dia_differences.specs.declared.lines.HeadField.TheVariants as heads
use Rattle.dia_differences.specs.declared.owner.Owner.TheVariants as owners
use Rattle.dia_differences.specs.declared.sides.Side.{Side}
use Rattle.dia_diff.specs.declared.origins.Origin.{Origin}
use Rattle.dia_diff.specs.declared.origins.Origin.TheVariants.{Header, Level, Avp}

-- messages of one side, the sender, that the other reads; of each command of the sender, in their order, the place of the one of
-- the receiver that corresponds
pub record Route : Type 0 where
  pub between : Sides
  pub side : Side
  pub commands : List (Option ℕ)

-- what breaks the command at a place of the sender's, the AVPs that are read as another format, and the command's code and class
pub record Found : Type 0 where
  pub place : ℕ
  pub answer : Answer
  pub meanings : List Line
  pub code : ℕ
  pub class : Class

abbrev pub found_of : ℕ → Breaks → Found
found_of i breaks = record { place = i; answer = answer_of breaks; meanings = breaks.meanings.items; code = breaks.code; class = breaks.class }

-- the place of the command that a header selects (RFC 6733 section 3)
abbrev pub command_for : Dictionary → ℕ → Class → ℕ → Option ℕ
command_for d code class app = option_or (position (λ c. is_command code class (Some app) c.head) d.commands) (position (λ c. is_command code class None c.head) d.commands)

-- the place of a site
abbrev pub place_at : List Site → ℕ → Option Place
place_at sites n = option_map (λ site. site.place) (slice_get sites n)

-- the place of the command by which a dictionary reads the level of a command of this code and class
abbrev pub reader_at : Dictionary → ℕ → Class → Option Place → Option ℕ
reader_at d code class (Some (places.Command app read_as is_recorded proxiable)) = command_for d code class read_as
reader_at d code class (Some (places.Group key outer)) = None
reader_at d code class None = None

-- ---- levels

-- of a command: if the two commands correspond; else it is about the headers
abbrev pub command_level : List (Option ℕ) → ℕ → LevelLine → Option ℕ → Origin
command_level commands i line None = Header i None None
command_level commands i line (Some j) = if option_eq (option_eq nat_eq) (slice_get commands i) (Some (Some j)) then Level (owners.Command i) (owners.Command j) line else Header i (Some j) None

-- of an AVP that both know, by its places
abbrev pub group_level : ℕ → LevelLine → Option ℕ → Option ℕ → Origin
group_level i line (Some own) (Some other) = Level (owners.Avp own) (owners.Avp other) line
group_level i line own other = Header i None None

abbrev pub level : Route → Found → LevelLine → Option Place → Origin
level r f line (Some (places.Group key outer)) = group_level f.place line (entry_of r.between.sender key) (entry_of r.between.receiver key)
level r f line (Some (places.Command app read_as is_recorded proxiable)) = command_level r.commands f.place line (command_for r.between.receiver f.code f.class read_as)
level r f line None = Header f.place None None

-- ---- lines

-- by what breaks, and at which place
abbrev pub origin_by : Route → Found → Option Place → Cause → Origin
origin_by r f place causes.Command = Header f.place None None
origin_by r f place causes.Application = Header f.place None None
origin_by r f place (causes.Proxiable set) = Header f.place (reader_at r.between.receiver f.code f.class place) (Some heads.Proxiable)
origin_by r f place (causes.Level line) = level r f line place
origin_by r f place (causes.Unknown key m) = Avp key avps.Code
origin_by r f place (causes.MBit key m) = Avp key avps.MRule
origin_by r f place (causes.Format key found) = Avp key avps.Format
origin_by r f place (causes.LevelAsLeaf key) = Avp key avps.Format
origin_by r f place (causes.Meaning key) = Avp key avps.Format

abbrev pub origin : Route → Found → Line → Origin
origin r f line = origin_by r f (place_at f.answer.sites line.site) line.cause
