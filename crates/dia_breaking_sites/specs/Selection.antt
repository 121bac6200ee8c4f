-- The definitions of the receiver's dictionary that a command's messages select.
use Rattle.std.specs.Prelude.{◌≡◌, ◌⊎◌, ℕ, ◌<◌, ◌^◌, Bool, List, Some, None, slice_get, Contains, IsTrue, IsSome}
use Rattle.dia_wire.specs.declared.Header.{Header}
use Rattle.dia_wire.specs.Lengths.{three_bytes}
use Rattle.dia_wire.specs.Wire.{PlainAvp}
use Rattle.dia_book.specs.declared.Class.{Class}
use Rattle.dia_book.specs.declared.Class.TheVariants as classes
use Rattle.dia_book.specs.declared.DefHead.{DefHead}
use Rattle.dia_book.specs.declared.DefHead.TheVariants.{Group, Command, Error}
use Rattle.dia_book.specs.Dictionary.{Dictionary, PlainDefinition, definitions, selected, is_command}
use Rattle.dia_terms.specs.declared.Unknown.{Unknown}
use Rattle.dia_terms.specs.declared.Levels.TheVariants as levels
use Rattle.dia_valid.specs.Valid.{AllowsP, IsValid, class_of}
use Rattle.dia_terms.specs.declared.sends.Sends.{Sends}
use Rattle.dia_breaking_sites.specs.Sent.{IsSent}
use Rattle.dia_breaking_sites.specs.Sites.{Site, HasSite, AboutLevels, AreAsked}

-- the most bytes of a message after its header: Message Length is of three bytes and a multiple of four (RFC 6733 section 3)
abbrev pub max_body : ℕ
max_body = 16777192

-- what may be reported of a definition of B and of P flags: that it forbids them
abbrev pub AboutFlags : Type 1
AboutFlags = PlainDefinition → ℕ → Type 0

-- a test of them
abbrev pub FlagTest : Type 0
FlagTest = PlainDefinition → ℕ → Bool

abbrev pub IsForbidden : FlagTest → AboutFlags
IsForbidden test other flags = IsTrue (test other flags)

-- of the P flags that the command allows, B's definition of this number allows each, and then the site of the two is one of
-- these; or it is reported that it forbids them
pub record IsMetAt (db : Dictionary) (sites : List Site) (Forbids : AboutFlags) (command : PlainDefinition) (number : ℕ) : Type 0 where
  pub other : PlainDefinition
  pub is_other : slice_get (definitions db) number ≡ Some other
  pub each : (flags : ℕ) → AllowsP command.head flags
      → (AllowsP other.head flags × HasSite sites command other max_body) ⊎ ((¬ AllowsP other.head flags) × Forbids other flags)

-- for this header B selects a definition, or it is reported that it refuses one; and any that it selects is met
pub record IsMet (db : Dictionary) (sites : List Site) (Refuses : Type 0) (Forbids : AboutFlags) (command : PlainDefinition) (code : ℕ) (class : Class) (app : ℕ) : Type 0 where
  pub selects : IsSome (selected db code class app) ⊎ Refuses
  pub each : (number : ℕ) → selected db code class app ≡ Some number → IsMetAt db sites Forbids command number

-- so for each header that A selects the command c for
abbrev pub AreMet : Dictionary → Dictionary → List Site → Type 0 → AboutFlags → ℕ → PlainDefinition → Type 0
AreMet da db sites Refuses Forbids c command = (code : ℕ) (class : Class) (app : ℕ) → code < three_bytes → app < 2 ^ 32 → selected da code class app ≡ Some c
    → IsMet db sites Refuses Forbids command code class app

-- some command of the dictionary is this code's, class's and application's
abbrev pub NamesApp : Dictionary → ℕ → Class → ℕ → Type 0
NamesApp d code class app = (x : PlainDefinition) × Contains d.commands x × IsTrue (is_command code class (Some app) x.head)

-- the headers that represent all, by the command's head: that of its application; without one, those of the applications that B
-- alone names, and that of one that neither names; and for errors any one
abbrev pub IsMetBy : Dictionary → Dictionary → List Site → Type 0 → AboutFlags → PlainDefinition → DefHead → Type 0
IsMetBy da db sites Refuses Forbids command (Group key) = ⊥
IsMetBy da db sites Refuses Forbids command (Command code class (Some app) p) = IsMet db sites Refuses Forbids command code class app
IsMetBy da db sites Refuses Forbids command (Command code class None p) =
    ((app : ℕ) → app < 2 ^ 32 → (¬ NamesApp da code class app) → NamesApp db code class app → IsMet db sites Refuses Forbids command code class app)
    × ((app : ℕ) × (¬ NamesApp da code class app) × (¬ NamesApp db code class app) × IsMet db sites Refuses Forbids command code class app)
IsMetBy da db sites Refuses Forbids command (Error p) = (code : ℕ) × (app : ℕ) × IsMet db sites Refuses Forbids command code classes.Error app

-- B selects this definition for the header
abbrev pub IsSelected : Dictionary → Header → PlainDefinition → Type 0
IsSelected db header other = (number : ℕ) × (selected db header.code (class_of header.flags) header.app ≡ Some number) × (slice_get (definitions db) number ≡ Some other)

-- the message is as asked: where it is reported that B refuses headers, B doesn't refuse this one; where it is reported that B
-- forbids P flags, B allows this one; and each level of it is as asked
pub record IsAsked (da db : Dictionary) (Asked : AboutLevels) (Refuses : Type 0) (Forbids : AboutFlags) (header : Header) (command : PlainDefinition) (avps : List PlainAvp) : Type 0 where
  pub selects : Refuses → IsSome (selected db header.code (class_of header.flags) header.app)
  pub proxiable : (other : PlainDefinition) → IsSelected db header other → Forbids other header.flags → AllowsP other.head header.flags
  pub levels : (other : PlainDefinition) → IsSelected db header other → AreAsked da db Asked command other avps

-- each message of the command that A's side sends, and that is as asked, is valid under B
abbrev pub AreValidWhere : Dictionary → Dictionary → Sends → Unknown → AboutLevels → Type 0 → AboutFlags → ℕ → Type 0
AreValidWhere da db who u Asked Refuses Forbids c = (bytes : List ℕ) (sent : IsSent da who bytes c) → IsAsked da db Asked Refuses Forbids sent.header sent.command sent.avps
    → IsValid db u levels.Any bytes

-- each message of the command that A's side sends is valid under B
abbrev pub AreValid : Dictionary → Dictionary → Sends → Unknown → ℕ → Type 0
AreValid da db who u c = (bytes : List ℕ) → IsSent da who bytes c → IsValid db u levels.Any bytes
