-- What the functions of the reader do, in terms of the machine.
use Rattle.std.specs.Prelude.{◌≡◌, ℕ, ◌+◌, ◌<◌, ◌≤◌, Bool, true, false, IsTrue, List, [], ◌∷◌, ◌++◌, Option, Some, None, Result, Ok, Err, MatchBool, is_some, length, drop, codes, string_bytes}
use Rattle.std.specs.Option.{option_map}
use Rattle.dia_ccf.specs.declared.reading.refusal.Refusal.{Refusal}
use Rattle.dia_ccf.specs.declared.reading.refusal.Refusal.TheVariants as refusal
use Rattle.dia_ccf.specs.declared.reading.Reader.{Reader}
use Rattle.dia_ccf.specs.declared.source.Source.{Source}
use Rattle.dia_ccf.specs.declared.fault.CcfFault.{CcfFault}
use Rattle.dia_ccf.specs.declared.fault.CcfFault.TheVariants as faults
use Rattle.dia_ccf.specs.declared.refused.Refused.{Refused}
use Rattle.dia_ccf.specs.declared.refused.Refused.TheVariants as refuseds
use Rattle.dia_ccf.specs.Tokens.{Token, Comma, Close_bracket, line_at, tokens}
use Rattle.dia_ccf.specs.Faults.{place_of}
use Rattle.dia_ccf.specs.Places.{Spans, opened}
use Rattle.dia_terms.specs.declared.Pxy.{Pxy}
use Rattle.dia_terms.specs.declared.Pxy.TheVariants.{Either}
use Rattle.dia_ccf.specs.declared.source.Head.{Head}
use Rattle.dia_ccf.specs.declared.source.Head.TheVariants.{Group, Command, Error}
use Rattle.dia_ccf.specs.Limits.{max_number, max_command_code}
use Rattle.dia_terms.specs.Formats.{format_word}
use Rattle.dia_ccf.specs.Grammar.{Tokens, ◌then◌, one, nothing, either, keyword, comma, flag, application, group_vendor, error_proxy, name, number, vendor, word, values, rule_word, rule as rule_tokens}
use Rattle.dia_ccf.specs.LexerTokens.{left_from}
use Rattle.dia_ccf.specs.declared.reading.definitions.Opening.{Opening}
use Rattle.dia_ccf.specs.declared.reading.definitions.After.{After}
use Rattle.dia_ccf.specs.declared.reading.definitions.After.TheVariants as afters
use Rattle.dia_terms.specs.declared.RuleKind.TheVariants.{Fixed}
use Rattle.dia_ccf.specs.Names.{is_name}
use Rattle.dia_ccf.specs.Plain.{PlainSource, PlainDecl, PlainDef, plain_source, plain_rule}
use Rattle.dia_ccf.specs.Machine.{State, Place, Between, Def_assign, Rules, add_def, with_rule, Outcome, Reads, Stops, outcome, next, whole, refused, why, is_keyword, same_sign}

-- the tokens from the one ahead on
abbrev pub left : Reader → List Token
left reader = left_from reader.text.now reader.at

-- new has gone past these tokens
abbrev pub Passes : Reader → List Token → Reader → Type 0
Passes old tokens new = (left old ≡ tokens ++ left new) × (old.text.now ≡ new.text.now) × (new.taken ≡ old.taken + length tokens)

-- whether a token is ahead that passes the test
abbrev pub begins_with : (Token → Bool) → List Token → Bool
begins_with test [] = false
begins_with test (token ∷ tokens) = test token

-- a token that passes the test was passed, or none is ahead
abbrev pub Takes : (Token → Bool) → Reader → Bool → Reader → Type 0
Takes test old true new = (token : Token) × (test token ≡ true) × Passes old (token ∷ []) new
Takes test old false new = (begins_with test (left old) ≡ false) × (new ≡ old)

-- a flag was taken, and a comma after it or none; or none is ahead, and whether a comma was read stays as it was
abbrev pub Flags_read : List ℕ → Bool → Reader → Bool × Bool → Reader → Type 0
Flags_read text comma old found new = (mid : Reader) × Takes (is_keyword text) old found.0 mid × MatchBool found.0 (Takes (same_sign Comma) mid found.1 new) ((found.1 ≡ comma) × (new ≡ mid))

abbrev pub why_ahead : Bool → Bool → List Token → Refusal
why_ahead numbers names [] = refusal.Syntax
why_ahead numbers names (token ∷ tokens) = why numbers names token

-- what is read of the one token ahead, `numbers` and `names` are whether some number or name would fit
abbrev pub AcceptsUnless : Bool → Bool → {Y : Type 0} → (Token → Option Y) → Reader → Refusal → Reader → Type 0
AcceptsUnless numbers names read old refusal.NoMemory new = Unit {0}
AcceptsUnless numbers names read old error new = (new ≡ old) × (begins_with (λ token. is_some (read token)) (left old) ≡ false) × (error ≡ why_ahead numbers names (left old))

abbrev pub Accepts : Bool → Bool → {X Y : Type 0} → (Token → Option Y) → (X → Y) → Reader → Result X Refusal → Reader → Type 0
Accepts numbers names read view old (Ok x) new = (token : Token) × (read token ≡ Some (view x)) × Passes old (token ∷ []) new
Accepts numbers names read view old (Err error) new = AcceptsUnless numbers names read old error new

-- the text, and where reading on from a state leads
abbrev pub Course : Type 0
Course = List ℕ × Outcome

abbrev pub course : State → Reader → Course
course state reader = (reader.text.now, outcome state (left reader))

-- the reader is where the machine stops
abbrev pub StopsAt : Course → Refusal → Reader → Type 0
StopsAt from refusal.NoMemory new = Unit {0}
StopsAt from error new = from ≡ (new.text.now, Stops error (left new))

-- what was read leads to a state, unless the machine stops
abbrev pub Leads : {X : Type 0} → Course → (X → State) → Result X Refusal → Reader → Type 0
Leads from to (Ok x) new = from ≡ course (to x) new
Leads from to (Err error) new = StopsAt from error new

-- what the machine does with the token ahead, and whether some number or name would fit in its place
abbrev pub Wants : Bool → Bool → (Token → Option State) → State → List Token → Type 0
Wants numbers names to state [] = whole state ≡ None
Wants numbers names to state (token ∷ tokens) = (next state token ≡ to token) × (refused state token ≡ why numbers names token)

-- the same for every token
pub record Reads_by {Y : Type 0} (numbers names : Bool) (read : Token → Option Y) (to : Y → State) (state : State) : Type 0 where
  pub next_is : (token : Token) → next state token ≡ option_map to (read token)
  pub refused_is : (token : Token) → refused state token ≡ why numbers names token
  pub unfinished : whole state ≡ None

-- the place after a definition and the name of the next one, if it was read
abbrev pub following : Option Opening → Place
following None = Between
following (Some opening) = Def_assign (string_bytes opening.name)

-- the state after some rules of a definition and what follows them
abbrev pub after_rules : PlainSource → PlainDef → After → State
after_rules done d (afters.Rule rule) = (done, Rules (with_rule d (plain_rule rule)))
after_rules done d (afters.Definition opening) = (add_def done d, Def_assign (string_bytes opening.name))
after_rules done d afters.Nothing = (add_def done d, Between)

-- a fixed rule follows only fixed ones
abbrev pub KeepsOrder : After → Bool → Type 0
KeepsOrder (afters.Rule rule) fixed = rule.kind ≡ Fixed → fixed ≡ true
KeepsOrder found fixed = Unit {0}

abbrev pub NamesNext : After → Type 0
NamesNext (afters.Definition opening) = IsTrue (is_name (string_bytes opening.name))
NamesNext found = Unit {0}

-- a rule has a token at least
abbrev pub Goes : After → ℕ → ℕ → Type 0
Goes (afters.Rule rule) old new = old < new
Goes found old new = old ≤ new

-- the whole text was read, or the machine stops
abbrev pub Finishes : Course → Result Source Refusal → Reader → Type 0
Finishes from (Ok source) new = from ≡ (new.text.now, Reads (plain_source source))
Finishes from (Err error) new = StopsAt from error new

-- the tokens of the text from the one ahead on
abbrev pub still : Reader → List Token
still reader = drop reader.taken (tokens reader.text.now)

-- the tokens that were passed are of the class
abbrev pub Derived : Tokens → Reader → Reader → Type 0
Derived class old new = (front : List Token) × (still old ≡ front ++ still new) × class front × (old.text.now ≡ new.text.now)

-- a declaration after its `%avp`
abbrev pub declaring : PlainDecl → Tokens
declaring d = name d.name then number max_number d.code then vendor d.vendor then word (format_word d.format) then word (rule_word d.rule) then values d.format d.values

-- a comma that was read and belongs to what comes next
abbrev pub pending : Bool → Tokens
pending false = nothing
pending true = one Comma

-- the words that begin a head: whether it is that of a group
abbrev pub header_words : Bool → Tokens
header_words true = either (keyword (codes "avp") then keyword (codes "header")) (keyword (codes "avp-header"))
header_words false = either (keyword (codes "diameter") then keyword (codes "header")) (keyword (codes "diameter-header"))

-- a head of each kind, after its colon and, with errors, its `code`
abbrev pub group_of : Head → Tokens
group_of (Group code n) = number max_number code then group_vendor n
group_of head = λ ts. ⊥

abbrev pub command_of : Head → Tokens
command_of (Command code request pxy app) = number max_command_code code then flag request (codes "req") then flag pxy (codes "pxy") then application app
command_of head = λ ts. ⊥

abbrev pub error_of : Head → Tokens
error_of (Error pxy) = comma then keyword (codes "err") then error_proxy pxy
error_of head = λ ts. ⊥

-- a proxiable flag after its `[`
abbrev pub in_brackets : Pxy → Tokens
in_brackets Either = comma then keyword (codes "pxy") then one Close_bracket
in_brackets pxy = λ ts. ⊥

-- the tokens from the place up to the one ahead are of the class
abbrev pub From : ℕ → Tokens → Reader → Type 0
From at class reader = (k : ℕ) × Spans reader.text.now k class reader.taken × (place_of reader.text.now k ≡ at)

-- what follows some rules was passed: a rule, or the name of the next definition
abbrev pub Passed_after : After → Reader → Reader → Type 0
Passed_after (afters.Rule rule) old new = Derived (rule_tokens (plain_rule rule)) old new
Passed_after (afters.Definition opening) old new = Derived (opened (string_bytes opening.name)) old new
Passed_after afters.Nothing old new = Unit {0}

-- it begins at the token that was ahead
abbrev pub Placed_after : After → Reader → Type 0
Placed_after (afters.Rule rule) old = rule.at ≡ old.at
Placed_after (afters.Definition opening) old = opening.at ≡ old.at
Placed_after afters.Nothing old = Unit {0}

-- the place where what isn't in the source yet begins
abbrev pub unread : Option Opening → Reader → ℕ
unread None reader = reader.at
unread (Some opening) reader = opening.at

-- nothing has been read
abbrev pub nothing_read : PlainSource
nothing_read = record { avps = []; groups = []; commands = [] }

-- what is reported where the reader is
abbrev pub recorded_at : Reader → CcfFault → Refused
recorded_at reader fault = refuseds.At (record { fault = fault; at = reader.at; wanted = reader.wanted; last = reader.last; earlier = reader.earlier })

abbrev pub IsRecordedAt : Refusal → Reader → Refused → Type 0
IsRecordedAt refusal.Syntax reader refused = refused ≡ recorded_at reader (faults.Syntax (reader.taken + 1) (line_at reader.text.now reader.at))
IsRecordedAt refusal.Number reader refused = refused ≡ recorded_at reader (faults.Number (line_at reader.text.now reader.at))
IsRecordedAt refusal.Limit reader refused = refused ≡ recorded_at reader (faults.Limit (line_at reader.text.now reader.at))
IsRecordedAt refusal.NoMemory reader refused = refused ≡ refuseds.NoMemory
