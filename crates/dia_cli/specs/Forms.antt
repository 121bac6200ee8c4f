-- The commands: the forms of each, the words of these, and what they ask for.
use Rattle.std.specs.Prelude.{◌≡◌, ⊤, Bool, true, false, List, [], ◌∷◌, ◌++◌, map, Option, Some, None, Result, Ok, Err, codes, string_bytes, unwrap_or}
use Rattle.std.specs.List.{list_all}
use Rattle.clap.specs.Walk.{Text}
use Rattle.dia_io.specs.declared.Command.TheVariants as command
use Rattle.dia_cli.specs.declared.task.Answering.{Answering}
use Rattle.dia_cli.specs.declared.task.Task.{Task}
use Rattle.dia_cli.specs.declared.task.Task.TheVariants.{Whole, Make, ShowText, ShowNamed, ShowLines, Breaking, CheckLines, RefuteLines, CheckStream, CheckAll, Answer, AnswerLines, Follow, Mask, Uses, Diff, Lint, Examples}
use Rattle.dia_terms.specs.declared.Sends.{Sends}
use Rattle.dia_terms.specs.declared.Unknown.{Unknown}
use Rattle.dia_cli.specs.InputWords.{AreNamed, InputTexts, one_text, pair_texts}
use Rattle.dia_cli.specs.Origins.{reads_twice}
use Rattle.dia_cli.specs.Rows.{CommandRow, answer_row, breaking_row, check_row, compare_row, diff_row, examples_row, follow_row, lint_row, make_row, mask_row, propose_row, refute_row, render_row, show_row, uses_row}
use Rattle.dia_cli.specs.Slots.{Slot, choice, flag, is_given_slot, is_plain_slot, number, pair_slots, sender_given, text, unknown_slot, word, words, words_of_slots}
use Rattle.dia_cli.specs.Words.{IsLimitOf}
use Rattle.dia_cli.specs.declared.ending.Ending.{Ending}
use Rattle.dia_cli.specs.declared.ending.Ending.TheVariants as ending
use Rattle.dia_cli.specs.declared.request.Request.{Request}

-- how `check` reads its messages: one, each line, or those of a stream; or one, of which it prints every fault
pub data Manner : Type 0 where
  alone : Manner
  in_lines : Manner
  in_stream : Manner
  in_full : Manner

-- how `show` writes a message: as a text; or as JSON, or as a listing, each with `--lines`, `--names` and `--values` or without
pub data Recording : Type 0 where
  as_text : Recording
  as_json : Bool → Bool → Option Text → Recording
  as_listing : Bool → Bool → Option Text → Recording

-- which AVPs `mask` replaces: the words of `--keep` and `--mask`, or that of `--only`
pub data Masked : Type 0 where
  masked : Option Text → Option Text → Masked
  masked_only : Text → Masked

-- how `examples` writes its vectors: in columns, as texts, or as JSON
pub data Layout : Type 0 where
  in_columns : Layout
  in_texts : Layout
  in_objects : Layout

-- a command with its options and the words of its inputs. `--levels`, `--dict`, `--values` and `--accepted` are their words; `check`, `compare`
-- and `propose` have `--json`, `refute` has `--lines` and `--json`, and `breaking` has `--json`, `--messages`, `--once`, `--meaning`,
-- `--stale-allowed` and `--explain`, or not; `answer` has `--lines`, or not, and the words of `--levels`, `--host` and `--realm`, and `follow` has `--json`, `--middle` and
-- `--check`, or not, and the words of `--levels` and `--dict`; `mask`, `uses`, `diff` and `lint` have `--json`, or not, and `lint` the words
-- of `--only`, `--except` and `--accepted`
pub data Form : Type 0 where
  show : Recording → Option Text → Text → Form
  make : Option Text → Option Text → Text → Form
  check : Manner → Bool → Unknown → Option Text → Text → Text → Form
  render : Text → Form
  compare : Bool → Unknown → Text → Text → Text → Form
  refute : Bool → Bool → Unknown → Option Text → Text → Text → Text → Form
  propose : Bool → Unknown → Text → Text → Text → List Text → Form
  breaking : Bool → Sends → Unknown → Bool → Bool → Bool → Bool → Bool → Option Text → Text → Text → List Text → Form
  answer : Bool → Unknown → Option Text → Option Text → Option Text → Text → Text → Form
  follow : Bool → Bool → Bool → Unknown → Option Text → Option Text → Text → Form
  mask : Masked → Bool → Text → Text → Form
  uses : Bool → Text → Text → List Text → Form
  diff : Bool → Sends → Unknown → Text → Text → Form
  lint : Bool → Unknown → Option Text → Option Text → Option Text → Text → Form
  examples : Layout → Unknown → Text → List Text → Form

-- its row
abbrev pub form_row : Form → CommandRow
form_row (show recording dictionary message) = show_row
form_row (make dictionary values written) = make_row
form_row (check manner json unknown levels dictionary message) = check_row
form_row (render dictionary) = render_row
form_row (compare json unknown first second table) = compare_row
form_row (refute many json unknown levels first second message) = refute_row
form_row (propose json unknown first second name names) = propose_row
form_row (breaking json sends unknown messages once meaning allowed explained accepted first second names) = breaking_row
form_row (answer many unknown levels host realm dictionary message) = answer_row
form_row (follow json middle judged unknown levels dictionary connection) = follow_row
form_row (mask avps json dictionary messages) = mask_row
form_row (uses json dictionary avp avps) = uses_row
form_row (diff json sends unknown first second) = diff_row
form_row (lint json unknown only except accepted dictionary) = lint_row
form_row (examples layout unknown dictionary names) = examples_row

abbrev pub form_name : Form → Text
form_name form = (form_row form).name

abbrev pub is_lines : Manner → Bool
is_lines in_lines = true
is_lines manner = false

abbrev pub is_stream : Manner → Bool
is_stream in_stream = true
is_stream manner = false

abbrev pub is_full : Manner → Bool
is_full in_full = true
is_full manner = false

-- `--json` goes with every manner but `--all`
abbrev pub json_of : Manner → Bool → Bool
json_of in_full json = false
json_of manner json = json

abbrev pub is_text : Recording → Bool
is_text as_text = true
is_text recording = false

abbrev pub is_json : Recording → Bool
is_json (as_json many names values) = true
is_json recording = false

abbrev pub has_names : Recording → Bool
has_names (as_json many names values) = names
has_names (as_listing many names values) = names
has_names recording = false

abbrev pub values_given : Recording → Option Text
values_given (as_json many names values) = values
values_given (as_listing many names values) = values
values_given recording = None

abbrev pub has_lines : Recording → Bool
has_lines (as_json many names values) = many
has_lines (as_listing many names values) = many
has_lines recording = false

abbrev pub keep_given : Masked → Option Text
keep_given (masked keep more) = keep
keep_given (masked_only only) = None

abbrev pub mask_given : Masked → Option Text
mask_given (masked keep more) = more
mask_given (masked_only only) = None

abbrev pub only_given : Masked → Option Text
only_given (masked keep more) = None
only_given (masked_only only) = Some only

abbrev pub is_texts : Layout → Bool
is_texts in_texts = true
is_texts layout = false

abbrev pub is_objects : Layout → Bool
is_objects in_objects = true
is_objects layout = false

abbrev pub form_options : Form → List Slot
form_options (show recording dictionary message) =
    text (codes "dict") dictionary ∷ flag (codes "as-text") (is_text recording) ∷ flag (codes "names") (has_names recording)
    ∷ text (codes "values") (values_given recording) ∷ flag (codes "lines") (has_lines recording) ∷ flag (codes "json") (is_json recording) ∷ []
form_options (make dictionary values written) = text (codes "dict") dictionary ∷ text (codes "values") values ∷ []
form_options (check manner json unknown levels dictionary message) =
    unknown_slot unknown ∷ flag (codes "lines") (is_lines manner) ∷ flag (codes "stream") (is_stream manner)
    ∷ flag (codes "all") (is_full manner) ∷ flag (codes "json") (json_of manner json) ∷ number (codes "levels") levels ∷ []
form_options (render dictionary) = []
form_options (compare json unknown first second table) = unknown_slot unknown ∷ flag (codes "json") json ∷ []
form_options (refute many json unknown levels first second message) =
    unknown_slot unknown ∷ flag (codes "lines") many ∷ flag (codes "json") json ∷ number (codes "levels") levels ∷ []
form_options (propose json unknown first second name names) = unknown_slot unknown ∷ flag (codes "json") json ∷ []
form_options (breaking json sends unknown messages once meaning allowed explained accepted first second names) =
    unknown_slot unknown ∷ choice (codes "sends") (sender_given sends) ∷ flag (codes "messages") messages
    ∷ flag (codes "once") once ∷ flag (codes "meaning") meaning ∷ flag (codes "stale-allowed") allowed ∷ flag (codes "explain") explained ∷ flag (codes "json") json
    ∷ text (codes "accepted") accepted ∷ []
form_options (answer many unknown levels host realm dictionary message) =
    unknown_slot unknown ∷ text (codes "host") host ∷ text (codes "realm") realm ∷ flag (codes "lines") many ∷ number (codes "levels") levels ∷ []
form_options (follow json middle judged unknown levels dictionary connection) =
    text (codes "dict") dictionary ∷ flag (codes "middle") middle ∷ flag (codes "check") judged ∷ unknown_slot unknown
    ∷ flag (codes "json") json ∷ number (codes "levels") levels ∷ []
form_options (mask avps json dictionary messages) =
    text (codes "keep") (keep_given avps) ∷ text (codes "mask") (mask_given avps) ∷ text (codes "only") (only_given avps)
    ∷ flag (codes "json") json ∷ []
form_options (uses json dictionary avp avps) = flag (codes "json") json ∷ []
form_options (diff json sends unknown first second) =
    unknown_slot unknown ∷ choice (codes "sends") (sender_given sends) ∷ flag (codes "json") json ∷ []
form_options (lint json unknown only except accepted dictionary) =
    unknown_slot unknown ∷ text (codes "only") only ∷ text (codes "except") except ∷ text (codes "accepted") accepted
    ∷ flag (codes "json") json ∷ []
form_options (examples layout unknown dictionary names) =
    unknown_slot unknown ∷ flag (codes "text") (is_texts layout) ∷ flag (codes "json") (is_objects layout) ∷ []

abbrev pub form_inputs : Form → List Slot
form_inputs (show recording dictionary message) = word (codes "MESSAGE") message ∷ []
form_inputs (make dictionary values written) = word (codes "TEXT") written ∷ []
form_inputs (check manner json unknown levels dictionary message) = word (codes "D") dictionary ∷ word (codes "MESSAGE") message ∷ []
form_inputs (render dictionary) = word (codes "D") dictionary ∷ []
form_inputs (compare json unknown first second table) = pair_slots first second (word (codes "TABLE") table)
form_inputs (refute many json unknown levels first second message) = pair_slots first second (word (codes "MESSAGE") message)
form_inputs (propose json unknown first second name names) = pair_slots first second (words (codes "COMMAND") (name ∷ names))
form_inputs (breaking json sends unknown messages once meaning allowed explained accepted first second names) = pair_slots first second (words (codes "COMMAND") names)
form_inputs (answer many unknown levels host realm dictionary message) = word (codes "D") dictionary ∷ word (codes "MESSAGE") message ∷ []
form_inputs (follow json middle judged unknown levels dictionary connection) = word (codes "CONNECTION") connection ∷ []
form_inputs (mask avps json dictionary messages) = word (codes "D") dictionary ∷ word (codes "MESSAGES") messages ∷ []
form_inputs (uses json dictionary avp avps) = word (codes "D") dictionary ∷ words (codes "AVP") (avp ∷ avps) ∷ []
form_inputs (diff json sends unknown first second) = word (codes "A") first ∷ word (codes "B") second ∷ []
form_inputs (lint json unknown only except accepted dictionary) = word (codes "D") dictionary ∷ []
form_inputs (examples layout unknown dictionary names) = word (codes "D") dictionary ∷ words (codes "COMMAND") names ∷ []

-- ---- its task, and the words of its inputs

-- by what `answer` makes an answer
abbrev pub IsAnsweringOf : Unknown → (levels host realm : Option Text) → Answering → Type 0
IsAnsweringOf unknown levels host realm asked =
    (asked.unknown ≡ unknown) × IsLimitOf levels asked.levels × (string_bytes asked.host ≡ unwrap_or host (codes "host.invalid"))
    × (string_bytes asked.realm ≡ unwrap_or realm (codes "invalid"))

-- the task is the form's
abbrev pub IsTaskOfForm : Form → Task → Type 0
IsTaskOfForm (show as_text dictionary message) ShowText = ⊤
IsTaskOfForm (show (as_json false false values) dictionary message) (Whole command.Show) = ⊤
IsTaskOfForm (show (as_json false true values) dictionary message) ShowNamed = ⊤
IsTaskOfForm (show (as_json true names values) dictionary messages) (ShowLines named) = named ≡ names
IsTaskOfForm (show (as_listing false false values) dictionary message) (Whole command.Show) = ⊤
IsTaskOfForm (show (as_listing false true values) dictionary message) ShowNamed = ⊤
IsTaskOfForm (show (as_listing true names values) dictionary messages) (ShowLines named) = named ≡ names
IsTaskOfForm (make dictionary values written) Make = ⊤
IsTaskOfForm (check alone json unknown levels dictionary message) (Whole (command.Check policy limit)) =
    (policy ≡ unknown) × IsLimitOf levels limit
IsTaskOfForm (check in_lines json unknown levels dictionary messages) (CheckLines policy limit) =
    (policy ≡ unknown) × IsLimitOf levels limit
IsTaskOfForm (check in_stream json unknown levels dictionary bytes) (CheckStream policy limit) =
    (policy ≡ unknown) × IsLimitOf levels limit
IsTaskOfForm (check in_full json unknown levels dictionary message) (CheckAll policy limit) =
    (policy ≡ unknown) × IsLimitOf levels limit
IsTaskOfForm (render dictionary) (Whole command.Render) = ⊤
IsTaskOfForm (compare json unknown first second table) (Whole (command.Compare policy)) = policy ≡ unknown
IsTaskOfForm (refute false json unknown levels first second message) (Whole (command.Refute policy limit)) =
    (policy ≡ unknown) × IsLimitOf levels limit
IsTaskOfForm (refute true json unknown levels first second messages) (RefuteLines policy limit) =
    (policy ≡ unknown) × IsLimitOf levels limit
IsTaskOfForm (propose json unknown first second name names) (Whole (command.Propose policy commands)) =
    (policy ≡ unknown) × (map string_bytes commands.items ≡ name ∷ names)
IsTaskOfForm (breaking json sends unknown messages once meaning allowed explained accepted first second names) (Breaking asked) =
    (asked.sends ≡ sends) × (asked.unknown ≡ unknown) × (asked.messages ≡ messages) × (asked.once ≡ once) × (asked.meaning ≡ meaning)
    × (asked.stale_allowed ≡ allowed) × (asked.explain ≡ explained) × (map string_bytes asked.names.items ≡ names)
IsTaskOfForm (answer false unknown levels host realm dictionary message) (Answer asked) = IsAnsweringOf unknown levels host realm asked
IsTaskOfForm (answer true unknown levels host realm dictionary messages) (AnswerLines asked) = IsAnsweringOf unknown levels host realm asked
IsTaskOfForm (follow json middle judged unknown levels dictionary connection) (Follow asked) =
    (asked.middle ≡ middle) × (asked.check ≡ judged) × (asked.unknown ≡ unknown) × IsLimitOf levels asked.levels
IsTaskOfForm (mask avps json dictionary messages) (Mask asked) =
    (string_bytes asked.keep ≡ unwrap_or (keep_given avps) (codes "@none")) × (string_bytes asked.mask ≡ unwrap_or (mask_given avps) (codes "@none"))
    × (string_bytes asked.only ≡ unwrap_or (only_given avps) (codes "@none"))
IsTaskOfForm (uses json dictionary avp avps) (Uses named) = map string_bytes named.items ≡ avp ∷ avps
IsTaskOfForm (diff json sends unknown first second) (Diff sender policy) = (sender ≡ sends) × (policy ≡ unknown)
IsTaskOfForm (lint json unknown only except accepted dictionary) (Lint asked) =
    (asked.unknown ≡ unknown) × (string_bytes asked.only ≡ unwrap_or only (codes "exact,guidelines"))
    × (string_bytes asked.except ≡ unwrap_or except (codes "@none"))
IsTaskOfForm (examples layout unknown dictionary names) (Examples asked) =
    (asked.unknown ≡ unknown) × (asked.text ≡ is_texts layout) × (map string_bytes asked.names.items ≡ names)
IsTaskOfForm form task = ⊥

-- the words of its inputs
abbrev pub form_words : Form → InputTexts
form_words (show as_text dictionary message) =
    record (one_text (unwrap_or dictionary (codes "@base"))) { message = Some message }
form_words (show (as_json true names values) dictionary messages) =
    record (one_text (unwrap_or dictionary (codes "@base"))) { table = Some (unwrap_or values (codes "@none")); messages = Some messages }
form_words (show (as_listing true names values) dictionary messages) =
    record (one_text (unwrap_or dictionary (codes "@base"))) { table = Some (unwrap_or values (codes "@none")); messages = Some messages }
form_words (show recording dictionary message) =
    record (one_text (unwrap_or dictionary (codes "@base"))) { table = Some (unwrap_or (values_given recording) (codes "@none")); message = Some message }
form_words (make dictionary values written) =
    record (one_text (unwrap_or dictionary (codes "@base"))) { table = Some (unwrap_or values (codes "@none")); message = Some written }
form_words (check alone json unknown levels dictionary message) = record (one_text dictionary) { message = Some message }
form_words (check in_lines json unknown levels dictionary messages) = record (one_text dictionary) { messages = Some messages }
form_words (check in_stream json unknown levels dictionary bytes) = record (one_text dictionary) { messages = Some bytes }
form_words (check in_full json unknown levels dictionary message) = record (one_text dictionary) { message = Some message }
form_words (render dictionary) = one_text dictionary
form_words (compare json unknown first second table) = record (pair_texts first second) { table = Some table }
form_words (refute false json unknown levels first second message) = record (pair_texts first second) { message = Some message }
form_words (refute true json unknown levels first second messages) = record (pair_texts first second) { messages = Some messages }
form_words (propose json unknown first second name names) = pair_texts first second
form_words (breaking json sends unknown messages once meaning allowed explained accepted first second names) =
    record (pair_texts first second) { table = Some (unwrap_or accepted (codes "@none")) }
form_words (answer false unknown levels host realm dictionary message) = record (one_text dictionary) { message = Some message }
form_words (answer true unknown levels host realm dictionary messages) = record (one_text dictionary) { messages = Some messages }
form_words (follow json middle judged unknown levels dictionary connection) =
    record (one_text (unwrap_or dictionary (codes "@base"))) { messages = Some connection }
form_words (mask avps json dictionary messages) = record (one_text dictionary) { messages = Some messages }
form_words (uses json dictionary avp avps) = one_text dictionary
form_words (diff json sends unknown first second) = pair_texts first second
form_words (lint json unknown only except accepted dictionary) =
    record (one_text dictionary) { table = Some (unwrap_or accepted (codes "@none")) }
form_words (examples layout unknown dictionary names) = one_text dictionary

-- ---- what the words of a form ask for

-- the words after the command's name, with `--quiet` or without it
abbrev pub words_of : Bool → Form → List Text
words_of quiet form = words_of_slots (flag (codes "quiet") quiet ∷ form_options form ++ form_inputs form)

abbrev pub is_plain_form : Form → Bool
is_plain_form form = list_all is_plain_slot (form_options form ++ form_inputs form)

-- `--json`, or not. A command that doesn't have it isn't given it
abbrev pub form_json : Form → Bool
form_json form = is_given_slot (codes "json") (form_options form)

-- the request is the form's, and its inputs come from where the words say
abbrev pub IsOfForm : Form → Request → Type 0
IsOfForm form request = IsTaskOfForm form request.task × AreNamed (form_words form) request.origins

-- the words are accepted, and ask for the form's task. They are refused only where they name standard input twice, or where
-- memory is
abbrev pub IsAccepted : Bool → Form → Result Request Ending → Type 0
IsAccepted quiet form (Ok request) = IsOfForm form request × (request.quiet ≡ quiet) × (request.json ≡ form_json form)
IsAccepted quiet form (Err ending.ReadTwice) =
    (request : Request) × IsOfForm form request × (reads_twice request.origins ≡ true)
IsAccepted quiet form (Err ending.NoMemory) = ⊤
IsAccepted quiet form (Err made) = ⊥
