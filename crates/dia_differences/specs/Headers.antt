-- The fields of headers.
use Rattle.std.specs.Prelude.{ℕ, Bool, true, false, Option, Some, None}
use Rattle.dia_book.specs.declared.definition.Class.{Class}
use Rattle.dia_book.specs.declared.definition.Class.TheVariants as classes
use Rattle.dia_book.specs.declared.definition.DefHead.{DefHead}
use Rattle.dia_book.specs.declared.definition.DefHead.TheVariants.{Group, Command, Error}
use Rattle.dia_terms.specs.declared.Pxy.{Pxy}
use Rattle.dia_terms.specs.declared.Pxy.TheVariants as pxy

-- which messages a command is for: a code, a class and an application
abbrev pub selector : DefHead → Option ℕ × Class × Option ℕ
selector (Group key) = (None, classes.Error, None)
selector (Command code class app p) = (Some code, class, app)
selector (Error p) = (None, classes.Error, None)

-- what the P flag of its messages may be
abbrev pub pxy_of : DefHead → Pxy
pxy_of (Group key) = pxy.Clear
pxy_of (Command code class app p) = p
pxy_of (Error p) = p

abbrev pub is_request : Class → Bool
is_request classes.Request = true
is_request classes.Answer = false
is_request classes.Error = false

-- the same messages by a code, none for errors, whether they are requests, and an application
abbrev pub messages : DefHead → Option ℕ × Bool × Option ℕ
messages head = ((selector head).0, is_request (selector head).1, (selector head).2)
