-- What RFC 6733 asks of a request and its answer: a finding where it isn't so.
use Rattle.std.specs.Prelude.{◌≢◌, ℕ, zero, suc, ◌+◌, ◌<◌, nat_eq, Bool, true, false, not, ◌&&◌, ◌||◌, if◌then◌else◌, List, [], ◌++◌, length, Option, Some, None, is_some, option_and_then, option_to_list, position, slice_get, unwrap_or}
use Rattle.std.specs.Option.{option_eq, option_map, option_map_or, option_or}
use Rattle.dia_book.specs.declared.Class.{Class}
use Rattle.dia_book.specs.declared.Class.TheVariants as classes
use Rattle.dia_book.specs.declared.DefHead.{DefHead}
use Rattle.dia_book.specs.declared.DefHead.TheVariants.{Group, Command, Error}
use Rattle.dia_book.specs.declared.DRule.{DRule}
use Rattle.dia_book.specs.declared.Pxy.{Pxy}
use Rattle.dia_book.specs.declared.Pxy.TheVariants.{Clear, Set, Either}
use Rattle.dia_book.specs.Dictionary.{Dictionary, definitions, groups, has_command, is_command, selected}
use Rattle.dia_valid.specs.Rules.{rules_in}
use Rattle.dia_lint.specs.declared.base_avps.BaseAvp.TheVariants as base
use Rattle.dia_lint.specs.declared.commands.Request.{Request}
use Rattle.dia_lint.specs.declared.detail.Detail.{Detail}
use Rattle.dia_lint.specs.declared.detail.Detail.TheVariants as detail
use Rattle.dia_lint.specs.declared.finding.Finding.{Finding}
use Rattle.dia_lint.specs.declared.guidelines.Head.{Head}
use Rattle.dia_lint.specs.declared.guidelines.firsts.Which.{Which}
use Rattle.dia_lint.specs.declared.guidelines.firsts.Which.TheVariants.{Any, Unlike, Session}
use Rattle.dia_lint.specs.declared.rule.Rule.TheVariants as rule
use Rattle.dia_lint.specs.Guidelines.{at_head, at_rule, command_head, is_request, lists, only_if}

-- ---- the answer to a request

-- the Application-ID that a command is for, if it is for one
abbrev pub app_of : DefHead → Option ℕ
app_of (Group key) = None
app_of (Command code class app p) = app
app_of (Error p) = None

-- the application of the definition with this number
abbrev pub app_in : Dictionary → ℕ → Option ℕ
app_in d def = option_and_then (λ x. app_of x.head) (slice_get (definitions d) def)

-- no command is for this Application-ID
abbrev pub IsUnnamed : Dictionary → ℕ → Type 0
IsUnnamed d app = (i : ℕ) → i < length d.commands → app_in d (length (groups d) + i) ≢ Some app

-- the command of this code and class that is for no application
abbrev pub general : Dictionary → ℕ → Class → Option ℕ
general d code class = option_map (λ i. length (groups d) + i) (position (λ c. is_command code class None c.head) d.commands)

-- the command of a message: what its application selects, and without an application the one for none (RFC 6733 section 3.2)
abbrev pub command_for : Dictionary → ℕ → Class → Option ℕ → Option ℕ
command_for d code class None = general d code class
command_for d code class (Some app) = selected d code class app

abbrev pub answer_to : Dictionary → Head → Option ℕ
answer_to d head = option_and_then (λ code. command_for d code classes.Answer head.app) head.code

abbrev pub is_answer_to : Dictionary → ℕ → Head → Bool
is_answer_to d def head = option_eq nat_eq (answer_to d head) (Some def)

-- ---- the first of some requests

-- the first value of those of n numbers
abbrev pub first_among : {X : Type 0} → (ℕ → Option X) → ℕ → Option X
first_among get zero = None
first_among get (suc n) = option_or (first_among get n) (get n)

-- the head of the command with this number
abbrev pub head_in : Dictionary → ℕ → Option Head
head_in d def = option_and_then (λ x. command_head x.head) (slice_get (definitions d) def)

-- a command as a request, if it is one and the test holds
abbrev pub request_if : Bool → ℕ → Head → Option Request
request_if test def head = if is_request head && test then Some (record { def = def; p = head.p }) else None

-- the command with this number, if it is a request that passes the test
abbrev pub request_in : Dictionary → (Head → List DRule → Bool) → ℕ → Option Request
request_in d test def = option_and_then (λ head. request_if (test head (rules_in d def)) def head) (head_in d def)

-- of the first n commands
abbrev pub request_among : Dictionary → (Head → List DRule → Bool) → ℕ → Option Request
request_among d test n = first_among (λ i. request_in d test (length (groups d) + i)) n

-- the first request of the dictionary that passes the test
abbrev pub first_request : Dictionary → (Head → List DRule → Bool) → Option Request
first_request d test = request_among d test (length d.commands)

-- ---- what requests may be

abbrev pub is_any : Head → List DRule → Bool
is_any head rules = true

abbrev pub same_p : Pxy → Pxy → Bool
same_p Clear Clear = true
same_p Set Set = true
same_p Either Either = true
same_p a b = false

-- the P flag of the command with this number is another one
abbrev pub is_unlike : Dictionary → ℕ → Pxy → Bool
is_unlike d def p = option_map_or (λ head. not (same_p head.p p)) (head_in d def) false

abbrev pub has_session : Head → List DRule → Bool
has_session head rules = lists rules base.SessionId

-- of the requests that the command with this number answers, all count, those with another P flag, or those with Session-Id
abbrev pub counts : Dictionary → Which → ℕ → Head → List DRule → Bool
counts d Any def head rules = true
counts d Unlike def head rules = is_unlike d def head.p
counts d Session def head rules = has_session head rules

abbrev pub is_answered : Dictionary → Which → ℕ → Head → List DRule → Bool
is_answered d which def head rules = is_answer_to d def head && counts d which def head rules

-- messages with this P flag are answers to those with the other
abbrev pub allows : Pxy → Pxy → Bool
allows own theirs = same_p own Either || same_p own theirs

abbrev pub is_not_allowed : Pxy → Head → List DRule → Bool
is_not_allowed own head rules = not (allows own head.p)

-- ---- findings

abbrev pub selector : Head → Detail
selector head = detail.Selector (unwrap_or head.code 0) head.app

-- each request has an answer, and each answer a request (RFC 6733 section 3.1)
abbrev pub no_answer : Dictionary → ℕ → Head → Option Finding
no_answer d def head = only_if (not (is_some (answer_to d head))) (at_head def rule.NoAnswer (selector head))

abbrev pub no_request : ℕ → Head → Option Request → Option Finding
no_request def head request = only_if (not (is_some request)) (at_head def rule.NoRequest (selector head))

abbrev pub is_of : ℕ → Request → Bool
is_of def request = nat_eq request.def def

-- where there are requests there is a definition of errors (RFC 6733 section 7.2); the first request is named
abbrev pub no_error : Dictionary → ℕ → Option Finding
no_error d def = only_if (option_map_or (is_of def) (first_request d is_any) false && not (has_command d 0 classes.Error)) (at_head def rule.NoError detail.NoErrors)

-- an answer has the P flag of its request, and errors allow that of each request (RFC 6733 sections 6.2 and 7.2)
abbrev pub p_differs : ℕ → Head → Option Request → Option Finding
p_differs def head request = option_map (λ r. at_head def rule.PDiffers (detail.Proxiable head.p r.def r.p)) request

-- an answer has the Session-Id of its request (RFC 6733 section 6.2)
abbrev pub session_lost : ℕ → List DRule → Option Request → Option Finding
session_lost def rules request =
    if lists rules base.SessionId then None else option_map (λ r. at_rule def rules rule.SessionLost base.SessionId (detail.HasSession r.def)) request

-- ---- those of a command beside the others

abbrev pub request_pairs : Dictionary → ℕ → Head → List Finding
request_pairs d def head = [] ++ option_to_list (no_answer d def head) ++ option_to_list (no_error d def)

abbrev pub answer_pairs : Dictionary → ℕ → Head → List DRule → List Finding
answer_pairs d def head rules =
    [] ++ option_to_list (no_request def head (first_request d (is_answered d Any def))) ++ option_to_list (p_differs def head (first_request d (is_answered d Unlike def)))
    ++ option_to_list (session_lost def rules (first_request d (is_answered d Session def)))

abbrev pub error_pairs : Dictionary → ℕ → Head → List DRule → List Finding
error_pairs d def head rules =
    [] ++ option_to_list (p_differs def head (first_request d (is_not_allowed head.p))) ++ option_to_list (session_lost def rules (first_request d has_session))

abbrev pub pairs_of : Dictionary → ℕ → Head → List DRule → List Finding
pairs_of d def head rules = elim head.class [ classes.Request ↦ request_pairs d def head | classes.Answer ↦ answer_pairs d def head rules | classes.Error ↦ error_pairs d def head rules ]

-- those of the definition with a number, if it is a command
abbrev pub pair_lines : Dictionary → ℕ → List Finding
pair_lines d def = option_map_or (λ x. option_map_or (λ head. pairs_of d def head x.rules) (command_head x.head) []) (slice_get (definitions d) def) []
