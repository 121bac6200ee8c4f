-- What commands are looked up by: the messages that they are for.
use Rattle.std.specs.Prelude.{ℕ, ◌+◌, ◌*◌, ◌++◌, Bool, true, false, List, [], Option, unwrap_or, is_some}
use Rattle.std.specs.Hash as fed
use Rattle.dia_book.specs.declared.Class.{Class}
use Rattle.dia_book.specs.declared.Class.TheVariants as classes
use Rattle.dia_book.specs.declared.DefHead.{DefHead}
use Rattle.dia_book.specs.declared.DefHead.TheVariants as head
use Rattle.dia_dict.specs.declared.selectors.Selector.{Selector}
use Rattle.dia_dict.specs.declared.selectors.Selector.TheVariants as selectors

-- all messages of the class Error have one selector (RFC 6733 section 7.2)
abbrev pub selector : ℕ → Class → Option ℕ → Selector
selector code classes.Request app = selectors.Command code true app
selector code classes.Answer app = selectors.Command code false app
selector code classes.Error app = selectors.Error

-- a group, which no message selects, is taken as one for errors
abbrev pub selector_of : DefHead → Selector
selector_of (head.Command code class app p) = selector code class app
selector_of head = selectors.Error

-- the number of the messages of a code and a class, whatever their application
abbrev pub service : ℕ → Class → ℕ
service code classes.Request = 2 * code + 1
service code classes.Answer = 2 * code + 2
service code classes.Error = 0

abbrev pub service_of : DefHead → ℕ
service_of (head.Command code class app p) = service code class
service_of head = 0

-- a command for one application
abbrev pub is_for_app : DefHead → Bool
is_for_app (head.Command code class app p) = is_some app
is_for_app head = false

-- what is hashed of a selector
abbrev pub hashed : Selector → List (List ℕ)
hashed (selectors.Command code request app) = fed.u32 code ++ fed.u32 (unwrap_or app 0)
hashed selectors.Error = []
