-- The words of a line: `PATH: REASON SUBJECT: DETAIL`. A is the sender's dictionary, B the receiver's.
use Rattle.std.specs.Prelude.{◌≡◌, ℕ, zero, suc, Bool, true, false, not, ◌&&◌, ◌==◌, nat_lt, nat_le, if◌then◌else◌, List, [], ◌∷◌, ◌++◌, length, codes, string_bytes}
use Rattle.std.specs.Prelude.{Option, Some, None, option_and_then, slice_get}
use Rattle.std.specs.List.{flat_map}
use Rattle.std.specs.Option.{option_map, option_map_or}
use Rattle.std.specs.declared.string.String.{String}
use Rattle.std.specs.Borrow.{Bor}
use Rattle.std.specs.Fmt.{decimal}
use Rattle.dia_wire.specs.declared.Key.{Key}
use Rattle.dia_data.specs.declared.Format.{Format}
use Rattle.dia_data.specs.Plain.{PlainFormat, plain_format, word_of}
use Rattle.dia_breaking.specs.Runs.{canonical, lacking_of, ranges_in}
use Rattle.dia_book.specs.declared.DRule.{DRule}
use Rattle.dia_book.specs.Dictionary.{Dictionary, definitions, groups, selected}
use Rattle.dia_terms.specs.declared.Sends.{Sends}
use Rattle.dia_terms.specs.declared.Unknown.{Unknown}
use Rattle.dia_terms.specs.declared.Unknown.TheVariants.{Kept, Refused}
use Rattle.dia_valid.specs.Valid.{known}
use Rattle.dia_valid.specs.Rules.{rule_of, rules_in, wildcard_of}
use Rattle.dia_breaking_sites.specs.Sent.{is_open}
use Rattle.dia_names.specs.Names as names
use Rattle.dia_breaking_levels.specs.declared.line.Line.{Line as LevelLine}
use Rattle.dia_breaking_levels.specs.declared.line.Reason.{Reason}
use Rattle.dia_breaking_levels.specs.declared.line.Reason.TheVariants.{Missing, TooMany, NotAllowed, NotAllowedOther, MissingOthers, TooManyOthers, Order}
use Rattle.dia_breaking_levels.specs.LevelTests.{too_long}
use Rattle.dia_breaking_levels.specs.Words.{reason_word}
use Rattle.dia_breaking.specs.declared.bounds.Bounds.{Bounds}
use Rattle.dia_breaking.specs.declared.heads.Head.{Head}
use Rattle.dia_breaking.specs.declared.line.Cause.{Cause}
use Rattle.dia_breaking.specs.declared.line.Cause.TheVariants as causes
use Rattle.dia_breaking.specs.declared.line.Line.{Line}
use Rattle.dia_breaking.specs.declared.line.Place.{Place}
use Rattle.dia_breaking.specs.declared.line.Place.TheVariants as places
use Rattle.dia_breaking.specs.declared.line.Site.{Site}
use Rattle.dia_breaking.specs.declared.line.Standing.{Standing}
use Rattle.dia_breaking.specs.declared.line.Standing.TheVariants.{Confirmed, Unchecked, Undecided}
use Rattle.dia_breaking.specs.Headers.{head_in}
use Rattle.dia_breaking.specs.Outlooks.{group_rules}
use Rattle.dia_breaking.specs.Sides.{Sides}

-- the text is added
abbrev pub Writes : {Z : Type 0} → String Z → String Z → List ℕ → Type 0
Writes old new text = string_bytes new ≡ string_bytes old ++ text

-- ---- names

-- the name in A, else in B, or `CODE:VENDOR` where A has another AVP of that name, else `AVP`
abbrev pub avp_name : Sides → Key → List ℕ
avp_name s key = names.avp_name s.sender s.receiver key

-- `AVP` also where the wildcard counts
abbrev pub subject_name : Sides → Option Key → List ℕ
subject_name s key = option_map_or (avp_name s) key (codes "AVP")

abbrev pub definition_name : Dictionary → ℕ → List ℕ
definition_name d def = option_map_or (λ x. x.name) (slice_get (definitions d) def) []

-- ---- the path

-- the site whose level holds the level at the place; none for the level of a command
abbrev pub outer_of : Place → Option ℕ
outer_of (places.Command app read_as is_recorded proxiable) = None
outer_of (places.Group key outer) = Some outer

abbrev pub with_outer : (ℕ → List Site) → Site → List Site
with_outer path_to site = option_map_or path_to (outer_of site.place) [] ++ site ∷ []

-- the sites from the command's to this one, which lies below `most`: an outer site has a lower number
abbrev pub path_below : List Site → ℕ → ℕ → List Site
path_below sites zero n = []
path_below sites (suc most) n = if n == most then option_map_or (with_outer (path_below sites most)) (slice_get sites n) [] else path_below sites most n

abbrev pub path_to : List Site → ℕ → List Site
path_to sites n = path_below sites (length sites) n

abbrev pub application_text : Bool → ℕ → List ℕ
application_text true app = codes "[application " ++ decimal app ++ codes "]"
application_text false app = []

abbrev pub place_text : Sides → ℕ → Place → List ℕ
place_text s c (places.Command app read_as is_recorded proxiable) = definition_name s.sender c ++ application_text is_recorded read_as
place_text s c (places.Group key outer) = codes "/" ++ avp_name s key

abbrev pub path_text : Sides → ℕ → List Site → List ℕ
path_text s c path = flat_map (λ site. place_text s c site.place) path

-- ---- counts

-- none at all
abbrev pub no_bounds : Bounds
no_bounds = record { min = 0; max = Some 0 }

abbrev pub rule_bounds : DRule → Bounds
rule_bounds rule = record { min = rule.min; max = rule.max }

abbrev pub bounds_of : Option DRule → Bounds
bounds_of rule = option_map_or rule_bounds rule no_bounds

-- an AVP that only the wildcard lets in, where any is sent
abbrev pub wild_bounds : Bool → DRule → Bounds
wild_bounds true wildcard = record { min = 0; max = wildcard.max }
wild_bounds false wildcard = no_bounds

-- how often A's rules let the AVP occur that A's side sends, or all that they don't list; `other` is what an AVP takes that comes
-- by a wildcard
abbrev pub sent_bounds : Sends → (Key → ℕ) → List DRule → Option Key → Bounds
sent_bounds who other rules None = bounds_of (wildcard_of rules)
sent_bounds who other rules (Some key) =
    option_map_or rule_bounds (rule_of rules key) (option_map_or (wild_bounds (is_open who rules && nat_lt (other key) too_long)) (wildcard_of rules) no_bounds)

-- how often B's rules do
abbrev pub accepted_bounds : List DRule → Option Key → Bounds
accepted_bounds rules None = bounds_of (wildcard_of rules)
accepted_bounds rules (Some key) = bounds_of (rule_of rules key)

-- `3`, `0..1` or `1..*`
abbrev pub max_text : ℕ → Option ℕ → List ℕ
max_text min None = codes "..*"
max_text min (Some max) = if max == min then [] else codes ".." ++ decimal max

abbrev pub bounds_text : Bounds → List ℕ
bounds_text bounds = decimal bounds.min ++ max_text bounds.min bounds.max

-- ---- levels

-- the rules of A by which the level at a place is read, in messages of the command c
abbrev pub sent_rules : Dictionary → ℕ → Place → List DRule
sent_rules da c (places.Command app read_as is_recorded proxiable) = rules_in da c
sent_rules da c (places.Group key outer) = group_rules da key

abbrev pub head_at : Dictionary → ℕ → Option Head
head_at d def = option_and_then (λ x. head_in x.head) (slice_get (definitions d) def)

-- and those of B
abbrev pub accepted_rules : Sides → ℕ → Place → List DRule
accepted_rules s c (places.Command app read_as is_recorded proxiable) =
    option_map_or (rules_in s.receiver) (option_and_then (λ head. selected s.receiver head.code head.class read_as) (head_at s.sender c)) []
accepted_rules s c (places.Group key outer) = group_rules s.receiver key

-- of these counts, and of the preceding AVP
abbrev pub counts_text : Reason → Bounds → Bounds → List ℕ → List ℕ
counts_text Missing sent accepted following = bounds_text sent ++ codes " sent, " ++ bounds_text accepted ++ codes " accepted"
counts_text TooMany sent accepted following = bounds_text sent ++ codes " sent, " ++ bounds_text accepted ++ codes " accepted"
counts_text NotAllowed sent accepted following = bounds_text sent ++ codes " sent"
counts_text NotAllowedOther sent accepted following = bounds_text sent ++ codes " sent"
counts_text MissingOthers sent accepted following = bounds_text accepted ++ codes " accepted"
counts_text TooManyOthers sent accepted following = bounds_text accepted ++ codes " accepted"
counts_text Order sent accepted following = codes "behind " ++ following ++ codes " sent"

abbrev pub level_detail : Sides → (Key → ℕ) → ℕ → LevelLine → Place → List ℕ
level_detail s other c line place =
    counts_text line.reason (sent_bounds s.sends other (sent_rules s.sender c place) line.key) (accepted_bounds (accepted_rules s c place) line.key) (subject_name s line.following)

abbrev pub level_text : Sides → (Key → ℕ) → ℕ → Option Site → LevelLine → List ℕ
level_text s other c site line = reason_word line.reason ++ codes " " ++ subject_name s line.key ++ codes ": "
    ++ option_map_or (λ at. level_detail s other c line at.place) site []

abbrev pub plain_of : Option (Bor Format) → Option PlainFormat
plain_of format = option_map (λ f. plain_format f.now) format

abbrev pub format_in : Dictionary → Key → Option PlainFormat
format_in d key = option_map (λ e. e.format) (known d key)

-- `3`, or `0..1`
abbrev pub range_text : ℕ × ℕ → List ℕ
range_text range = if range.0 == range.1 then decimal range.0 else decimal range.0 ++ codes ".." ++ decimal range.1

-- each followed by a space
abbrev pub ranges_text : List (ℕ × ℕ) → List ℕ
ranges_text ranges = flat_map (λ range. range_text range ++ codes " ") ranges

-- the numbers of a list, if there is one: ` ( 0..1 3 )`
abbrev pub list_text : Option (List (ℕ × ℕ)) → List ℕ
list_text ranges = option_map_or (λ numbers. codes " ( " ++ ranges_text numbers ++ codes ")") (option_map canonical ranges) []

-- the word of a format, and all numbers of its list
abbrev pub whole_format : PlainFormat → List ℕ
whole_format format = word_of format ++ list_text (ranges_in format)

abbrev pub formats_text : Option PlainFormat → Option PlainFormat → List ℕ
formats_text sent accepted =
    option_map_or whole_format sent (codes "any data") ++ codes " sent, " ++ option_map_or whole_format accepted (codes "nothing") ++ codes " accepted"

abbrev pub ranges_at : Option PlainFormat → Option (List (ℕ × ℕ))
ranges_at format = option_and_then ranges_in format

-- where both formats have a list, all numbers of the first that the second lacks; else both formats
abbrev pub format_detail : Option PlainFormat → Option PlainFormat → List ℕ
format_detail sent accepted =
    option_map_or (λ numbers. ranges_text numbers ++ codes "sent, not in the list") (lacking_of (ranges_at sent) (ranges_at accepted)) (formats_text sent accepted)

-- what is sent, and as what it is read
abbrev pub readings_text : Option PlainFormat → Option PlainFormat → List ℕ
readings_text sent read = option_map_or whole_format sent (codes "any data") ++ codes " sent, " ++ option_map_or whole_format read (codes "nothing") ++ codes " read"

-- ---- lines

abbrev pub flag_word : Bool → List ℕ
flag_word true = codes "set"
flag_word false = codes "clear"

abbrev pub unknown_detail : Unknown → Bool → List ℕ
unknown_detail Kept true = codes "M set sent, not known"
unknown_detail Kept false = codes "sent, not known"
unknown_detail Refused m = codes "sent, not known"

abbrev pub m_bit_text : Sides → Key → Bool → List ℕ
m_bit_text s key m = codes "m-bit " ++ avp_name s key ++ codes ": M " ++ flag_word m ++ codes " sent, M " ++ flag_word (not m) ++ codes " accepted"

abbrev pub format_text : Sides → Key → List ℕ
format_text s key = codes "format " ++ avp_name s key ++ codes ": " ++ format_detail (format_in s.sender key) (format_in s.receiver key)

abbrev pub meaning_text : Sides → Key → List ℕ
meaning_text s key = codes "meaning " ++ avp_name s key ++ codes ": " ++ readings_text (format_in s.sender key) (format_in s.receiver key)

abbrev pub refused_application : Place → List ℕ
refused_application (places.Command app read_as is_recorded proxiable) = codes "application " ++ decimal app ++ codes ": not accepted"
refused_application (places.Group key outer) = []

-- where a line is: the command, its sites, and the number of one
pub record Spot : Type 0 where
  pub command : ℕ
  pub sites : List Site
  pub site : ℕ

abbrev pub spot : ℕ → List Site → ℕ → Spot
spot c sites site = record { command = c; sites = sites; site = site }

-- the reason, the subject and the detail
abbrev pub cause_text : Sides → (Key → ℕ) → Spot → Cause → List ℕ
cause_text s other at causes.Command = codes "command -: not accepted"
cause_text s other at causes.Application = option_map_or (λ site. refused_application site.place) (slice_get (path_to at.sites at.site) 0) []
cause_text s other at (causes.Proxiable set) = codes "proxiable -: P " ++ flag_word set ++ codes " sent"
cause_text s other at (causes.Level line) = level_text s other at.command (slice_get at.sites at.site) line
cause_text s other at (causes.Unknown key m) = codes "unknown " ++ avp_name s key ++ codes ": " ++ unknown_detail s.unknown m
cause_text s other at (causes.MBit key m) = m_bit_text s key m
cause_text s other at (causes.Format key found) = format_text s key
cause_text s other at (causes.LevelAsLeaf key) = avp_name s key ++ codes ": " ++ formats_text (format_in s.sender key) (format_in s.receiver key)
cause_text s other at (causes.Meaning key) = meaning_text s key

abbrev pub standing_text : Standing → List ℕ
standing_text Confirmed = []
standing_text Unchecked = []
standing_text Undecided = codes "undecided "

-- the number is that of a command of the dictionary
abbrev pub is_command : Dictionary → ℕ → Bool
is_command d c = nat_le (length (groups d)) c && nat_lt c (length (definitions d))

-- a line about the command c of A: where A has no such command, nothing
abbrev pub words_of : Sides → (Key → ℕ) → ℕ → List Site → Line → List ℕ
words_of s other c sites line = if is_command s.sender c
    then path_text s c (path_to sites line.site) ++ codes ": " ++ standing_text line.standing ++ cause_text s other (spot c sites line.site) line.cause
    else []
