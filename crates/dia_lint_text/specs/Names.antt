-- The words of a finding: those of its subject and of its detail.
use Rattle.std.specs.Prelude.{ℕ, ◌==◌, if◌then◌else◌, List, [], ◌++◌, Option, Some, None, slice_get, codes}
use Rattle.std.specs.Option.{option_map_or}
use Rattle.std.specs.Fmt.{decimal}
use Rattle.dia_wire.specs.declared.Key.{Key}
use Rattle.dia_terms.specs.Formats.{format_word}
use Rattle.dia_terms.specs.MRules.{rule_word}
use Rattle.dia_book.specs.Dictionary.{Dictionary, definitions, entry_of}
use Rattle.dia_book.specs.declared.Pxy.{Pxy}
use Rattle.dia_book.specs.declared.Pxy.TheVariants.{Clear, Set, Either}
use Rattle.dia_lint.specs.BaseAvps.{base_name}
use Rattle.dia_lint.specs.BaseTable.{base_rows}
use Rattle.dia_lint.specs.declared.detail.Detail.{Detail}
use Rattle.dia_lint.specs.declared.detail.Detail.TheVariants as detail
use Rattle.dia_lint.specs.declared.finding.Named.{Named}
use Rattle.dia_lint.specs.declared.finding.Named.TheVariants as named
use Rattle.dia_lint.specs.declared.finding.Subject.{Subject}
use Rattle.dia_lint.specs.declared.finding.Subject.TheVariants as subject

-- ---- names

-- the name of the definition with a number
abbrev pub def_name : Dictionary → ℕ → List ℕ
def_name d n = option_map_or (λ x. x.name) (slice_get (definitions d) n) []

-- that of an entry
abbrev pub avp_name : Dictionary → ℕ → List ℕ
avp_name d e = option_map_or (λ x. x.name) (slice_get d.entries e) []

-- that of a key
abbrev pub key_name : Dictionary → Key → List ℕ
key_name d key = option_map_or (avp_name d) (entry_of d key) []

abbrev pub named_text : Dictionary → Named → List ℕ
named_text d (named.Key key) = key_name d key
named_text d named.Others = codes "AVP"
named_text d (named.Base avp) = base_name avp

-- SUBJECT
abbrev pub subject_text : Dictionary → Subject → List ℕ
subject_text d (subject.Definition n) = def_name d n
subject_text d (subject.Avp e) = avp_name d e
subject_text d (subject.Within n who) = def_name d n ++ codes "/" ++ named_text d who

-- ---- details

abbrev pub p_word : Pxy → List ℕ
p_word Clear = codes "clear"
p_word Set = codes "set"
p_word Either = codes "either"

abbrev pub code_text : Key → List ℕ
code_text key = if key.vendor == 0 then codes "code " ++ decimal key.code else codes "code " ++ decimal key.code ++ codes ":" ++ decimal key.vendor

abbrev pub selector_text : ℕ → Option ℕ → List ℕ
selector_text code None = codes "code " ++ decimal code
selector_text code (Some app) = codes "code " ++ decimal code ++ codes ", application " ++ decimal app

abbrev pub other_text : List ℕ → List ℕ → List ℕ
other_text own base = own ++ codes ", not " ++ base

-- by the row of the base protocol's AVP
abbrev pub name_of_text : ℕ → List ℕ
name_of_text row = option_map_or (λ base. codes "code " ++ decimal base.code ++ codes " is " ++ base.name) (slice_get base_rows row) []

abbrev pub code_of_text : Key → ℕ → List ℕ
code_of_text key row = option_map_or (λ base. code_text key ++ codes ", not " ++ decimal base.code) (slice_get base_rows row) []

-- those of guidelines that are the same for all subjects
abbrev pub guideline_text : Detail → List ℕ
guideline_text detail.NoErrors = codes "no code, ERR"
guideline_text detail.NotRequired = codes "it isn't required"
guideline_text detail.NotProxiable = codes "the request isn't proxiable"
guideline_text detail.AnswerHasNone = codes "an answer has none"
guideline_text detail.NotAnyNumber = codes "not any number of it"
guideline_text detail.NoResult = codes "neither Result-Code nor Experimental-Result"
guideline_text detail.NoFailedAvp = codes "it takes no Failed-AVP"
guideline_text detail.NotFirst = codes "Session-Id isn't the first"
guideline_text detail.NoSession = codes "neither Session-Id nor Auth-Session-State"
guideline_text detail.NoOthers = codes "it takes no other AVPs"
guideline_text other = []

-- the others that are
abbrev pub plain_text : Detail → List ℕ
plain_text detail.NeedsItself = codes "it needs itself"
plain_text detail.NeedsOthers = codes "no AVP is left for its wildcard"
plain_text detail.TooLong = codes "it needs more bytes than a message has"
plain_text detail.NoneLeft = codes "no AVP is left for it"
plain_text detail.NoRoom = codes "no message has room for it"
plain_text detail.NotHeld = codes "no valid message has it"
plain_text detail.WildcardSaysIt = codes "the wildcard says it"
plain_text detail.NothingLetsItIn = codes "nothing lets it in"
plain_text detail.OnlyWildcards = codes "only wildcards let it in"
plain_text detail.NotByRulesAlone = codes "no valid message has it without an AVP by a wildcard"
plain_text detail.OfRelays = codes "application 4294967295 is that of relays"
plain_text other = guideline_text other

-- those with names of the base protocol
abbrev pub base_text : Detail → List ℕ
base_text (detail.BaseNotRequired avp) = base_name avp ++ codes " isn't required"
base_text (detail.NameOf row) = name_of_text row
base_text (detail.CodeOf key row) = code_of_text key row
base_text (detail.Format own base) = other_text (format_word own) (format_word base)
base_text (detail.M own base) = other_text (rule_word own) (rule_word base)
base_text other = plain_text other

-- those with numbers
abbrev pub number_text : Detail → List ℕ
number_text (detail.Number n) = decimal n
number_text (detail.Selector code app) = selector_text code app
number_text (detail.Others min max) = codes "it takes " ++ decimal min ++ codes ".." ++ decimal max ++ codes " other AVPs"
number_text (detail.ForExperiments code) = codes "code " ++ decimal code ++ codes " is for experiments"
number_text other = base_text other

-- DETAIL
abbrev pub detail_text : Dictionary → Detail → List ℕ
detail_text d (detail.Needs key) = codes "it needs " ++ key_name d key ++ codes ", and there is none"
detail_text d (detail.ThereIsNo key) = codes "there is no " ++ key_name d key
detail_text d (detail.As n) = codes "as " ++ def_name d n
detail_text d (detail.HasSession n) = def_name d n ++ codes " has Session-Id"
detail_text d (detail.Proxiable own n theirs) = codes "P " ++ p_word own ++ codes ", that of " ++ def_name d n ++ codes " is " ++ p_word theirs
detail_text d other = number_text other
