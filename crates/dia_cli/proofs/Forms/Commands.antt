-- The proofs that each command has of its own: how a parse takes the words of its forms, what is found of them, and that this
-- asks for the form's task.
use Rattle.std.proofs.Common.{◌≡◌, ◌∙◌, Bool, true, false, List, [], ◌∷◌, ◌++◌, Some, refl, sym, codes}
use Rattle.std.specs.Prelude.{option_map, unwrap_or}
use Rattle.std.specs.Borrow.{Bor}
use Rattle.clap.specs.Simple.{built}
use Rattle.clap.specs.Walk.{Row, Text, all_of, first_of, texts}
use Rattle.clap.specs.declared.parser.matches.ValueSource.TheVariants.{CommandLine}
use Rattle.clap.proofs.OnLiterals.{clap_on_literals}
use Rattle.dia_io.specs.declared.Command.TheVariants as command
use Rattle.dia_cli.specs.declared.task.Task.{Task}
use Rattle.dia_cli.specs.declared.task.Task.TheVariants.{Whole, Make, ShowText, ShowNamed, ShowLines, Breaking, CheckLines, RefuteLines, CheckStream, CheckAll, Answer, AnswerLines, Follow, Mask, Uses, Diff, Lint, Examples}
use Rattle.dia_terms.specs.declared.Sends.TheVariants.{Any, Known, Filled, Listed}
use Rattle.dia_terms.specs.declared.Unknown.{Unknown}
use Rattle.dia_terms.specs.declared.Unknown.TheVariants.{Kept, Refused}
use Rattle.dia_cli.specs.Asking.{line_shape}
use Rattle.dia_cli.specs.Forms.{Form, IsTaskOfForm, alone, answer, as_json, as_listing, as_text, breaking, check, compare, diff, examples, follow, form_inputs, form_json, form_name, form_options, form_row, form_words, has_lines, has_names, in_full, in_lines, in_stream, is_full, is_json, is_lines, is_objects, is_plain_form, is_stream, is_text, is_texts, json_of, keep_given, lint, make, mask, mask_given, only_given, propose, refute, render, show, uses, values_given}
use Rattle.dia_cli.specs.FoundTasks.{HasOptionsOf, arguments_of, has_arguments, task_name}
use Rattle.dia_cli.specs.InputWords.{AreFound, AreNamed}
use Rattle.dia_cli.specs.Rows.{answer_row, breaking_row, check_row, compare_row, diff_row, examples_row, follow_row, lint_row, make_row, mask_row, propose_row, refute_row, render_row, show_row, uses_row}
use Rattle.dia_cli.specs.Slots.{Slot, flag, number, text, unknown_slot}
use Rattle.dia_cli.specs.Words.{flag_word, is_given, policy_word, sends_word}
use Rattle.dia_cli.specs.declared.origin.Origins.{Origins}
use Rattle.dia_cli.proofs.Forms.Ends.{IsRow}
use Rattle.dia_cli.proofs.Forms.FormRows.{policy_passes, row_fits, sender_passes, shape}
use Rattle.dia_cli.proofs.Forms.Lookup.{Found, default_found, or_found, values_from}
use Rattle.dia_cli.proofs.Forms.Named.{also, has_flag, has_limit, has_policy, has_sender, has_some, later_plain, listing_named, listings_named, message_named, messages_named, not_false, not_true, number_passes, one_named, one_table_named, other_flag, other_given, pair_message_named, pair_messages_named, pair_named, pair_passes, same_flag, same_given, same_limit, same_names, same_policy, same_sender, same_value, table_named, unlike}
use Rattle.dia_cli.proofs.Forms.Says.{first_value, flag_found, flag_given, names_found, not_given, number_found, policy_found, sender_found, some_names, text_found}
use Rattle.dia_cli.proofs.Forms.Steps.{values_of}
use Rattle.dia_cli.proofs.Forms.Walked.{Names_at}
use Rattle.dia_cli.proofs.Forms.Walks.{following}

-- the options with `--quiet` or without it
abbrev pub all_options : Bool → Form → List Slot
all_options quiet form = flag (codes "quiet") quiet ∷ form_options form

module _ (policies senders : Bor (List (Bor Text))) (two : texts policies.now ≡ policy_word Kept ∷ policy_word Refused ∷ [])
    (four : texts senders.now ≡ sends_word Any ∷ sends_word Known ∷ sends_word Filled ∷ sends_word Listed ∷ []) where
  pub form_fits : (quiet : Bool) (form : Form) → IsRow (shape policies senders (form_row form)) (all_options quiet form) (form_inputs form)
  form_fits quiet (show recording dictionary message) =
      row_fits policies senders two four show_row _ _ refl (refl, tt, (refl, tt, (refl, tt, (refl, tt, (refl, tt, (refl, tt, (refl, tt, tt))))))) (record { by_index = refl; by_id = refl; next = refl }, tt) refl refl refl refl
  form_fits quiet (make dictionary values written) =
      row_fits policies senders two four make_row _ _ refl (refl, tt, (refl, tt, (refl, tt, tt))) (record { by_index = refl; by_id = refl; next = refl }, tt) refl refl refl refl
  form_fits quiet (check manner json unknown levels dictionary message) =
      row_fits policies senders two four check_row _ _ refl (refl, tt, (refl, policy_passes policies senders two four unknown, (refl, tt, (refl, tt, (refl, tt, (refl, tt, (refl, tt, tt)))))))
      (record { by_index = refl; by_id = refl; next = refl }, (record { by_index = refl; by_id = refl; next = refl }, tt)) refl refl refl refl
  form_fits quiet (render dictionary) = row_fits policies senders two four render_row _ _ refl (refl, tt, tt) (record { by_index = refl; by_id = refl; next = refl }, tt) refl refl refl refl
  form_fits quiet (compare json unknown first second table) =
      row_fits policies senders two four compare_row _ _ refl (refl, tt, (refl, policy_passes policies senders two four unknown, (refl, tt, tt)))
      (record { by_index = refl; by_id = refl; next = refl }, (record { by_index = refl; by_id = refl; next = refl }, (record { by_index = refl; by_id = refl; next = refl }, tt)))
      refl refl refl refl
  form_fits quiet (refute many json unknown levels first second message) =
      row_fits policies senders two four refute_row _ _ refl (refl, tt, (refl, policy_passes policies senders two four unknown, (refl, tt, (refl, tt, (refl, tt, tt)))))
      (record { by_index = refl; by_id = refl; next = refl }, (record { by_index = refl; by_id = refl; next = refl }, (record { by_index = refl; by_id = refl; next = refl }, tt)))
      refl refl refl refl
  form_fits quiet (propose json unknown first second name names) =
      row_fits policies senders two four propose_row _ _ refl (refl, tt, (refl, policy_passes policies senders two four unknown, (refl, tt, tt)))
      (record { by_index = refl; by_id = refl; next = refl }, (record { by_index = refl; by_id = refl; next = refl }, (true, record { by_index = refl; by_id = refl; next = refl })))
      refl refl refl refl
  form_fits quiet (breaking json sends unknown messages once meaning allowed explained accepted first second names) =
      row_fits policies senders two four breaking_row _ _ refl (refl, tt, (refl, policy_passes policies senders two four unknown, (refl, sender_passes policies senders two four sends, (refl, tt, (refl, tt, (refl, tt, (refl, tt, (refl, tt, (refl, tt, (refl, tt, tt))))))))))
      (record { by_index = refl; by_id = refl; next = refl }, (record { by_index = refl; by_id = refl; next = refl }, (false, record { by_index = refl; by_id = refl; next = refl })))
      refl refl refl refl
  form_fits quiet (answer many unknown levels host realm dictionary message) =
      row_fits policies senders two four answer_row _ _ refl (refl, tt, (refl, policy_passes policies senders two four unknown, (refl, tt, (refl, tt, (refl, tt, (refl, tt, tt))))))
      (record { by_index = refl; by_id = refl; next = refl }, (record { by_index = refl; by_id = refl; next = refl }, tt)) refl refl refl refl
  form_fits quiet (follow json middle judged unknown levels dictionary connection) =
      row_fits policies senders two four follow_row _ _ refl (refl, tt, (refl, tt, (refl, tt, (refl, tt, (refl, policy_passes policies senders two four unknown, (refl, tt, (refl, tt, tt)))))))
      (record { by_index = refl; by_id = refl; next = refl }, tt) refl refl refl refl
  form_fits quiet (mask avps json dictionary messages) =
      row_fits policies senders two four mask_row _ _ refl (refl, tt, (refl, tt, (refl, tt, (refl, tt, (refl, tt, tt)))))
      (record { by_index = refl; by_id = refl; next = refl }, (record { by_index = refl; by_id = refl; next = refl }, tt)) refl refl refl refl
  form_fits quiet (uses json dictionary avp avps) =
      row_fits policies senders two four uses_row _ _ refl (refl, tt, (refl, tt, tt)) (record { by_index = refl; by_id = refl; next = refl }, (true, record { by_index = refl; by_id = refl; next = refl })) refl refl refl refl
  form_fits quiet (diff json sends unknown first second) =
      row_fits policies senders two four diff_row _ _ refl (refl, tt, (refl, policy_passes policies senders two four unknown, (refl, sender_passes policies senders two four sends, (refl, tt, tt))))
      (record { by_index = refl; by_id = refl; next = refl }, (record { by_index = refl; by_id = refl; next = refl }, tt)) refl refl refl refl
  form_fits quiet (lint json unknown only except accepted dictionary) =
      row_fits policies senders two four lint_row _ _ refl (refl, tt, (refl, policy_passes policies senders two four unknown, (refl, tt, (refl, tt, (refl, tt, (refl, tt, tt))))))
      (record { by_index = refl; by_id = refl; next = refl }, tt) refl refl refl refl
  form_fits quiet (examples layout unknown dictionary names) =
      row_fits policies senders two four examples_row _ _ refl (refl, tt, (refl, policy_passes policies senders two four unknown, (refl, tt, (refl, tt, tt))))
      (record { by_index = refl; by_id = refl; next = refl }, (false, record { by_index = refl; by_id = refl; next = refl })) refl refl refl refl

  -- the name of its command is that of its row
  pub form_named : (form : Form) → Names_at (built (line_shape policies senders)) (form_name form) (shape policies senders (form_row form)) × ((shape policies senders (form_row form)).name ≡ form_name form)
  unfolding clap_on_literals
  form_named (show recording dictionary message) = (record { stops = refl; fine = refl; finds = refl; rest = refl }, refl)
  form_named (make dictionary values written) = (record { stops = refl; fine = refl; finds = refl; rest = refl }, refl)
  form_named (check manner json unknown levels dictionary message) = (record { stops = refl; fine = refl; finds = refl; rest = refl }, refl)
  form_named (render dictionary) = (record { stops = refl; fine = refl; finds = refl; rest = refl }, refl)
  form_named (compare json unknown first second table) = (record { stops = refl; fine = refl; finds = refl; rest = refl }, refl)
  form_named (refute many json unknown levels first second message) = (record { stops = refl; fine = refl; finds = refl; rest = refl }, refl)
  form_named (propose json unknown first second name names) = (record { stops = refl; fine = refl; finds = refl; rest = refl }, refl)
  form_named (breaking json sends unknown messages once meaning allowed explained accepted first second names) = (record { stops = refl; fine = refl; finds = refl; rest = refl }, refl)
  form_named (answer many unknown levels host realm dictionary message) = (record { stops = refl; fine = refl; finds = refl; rest = refl }, refl)
  form_named (follow json middle judged unknown levels dictionary connection) = (record { stops = refl; fine = refl; finds = refl; rest = refl }, refl)
  form_named (mask avps json dictionary messages) = (record { stops = refl; fine = refl; finds = refl; rest = refl }, refl)
  form_named (uses json dictionary avp avps) = (record { stops = refl; fine = refl; finds = refl; rest = refl }, refl)
  form_named (diff json sends unknown first second) = (record { stops = refl; fine = refl; finds = refl; rest = refl }, refl)
  form_named (lint json unknown only except accepted dictionary) = (record { stops = refl; fine = refl; finds = refl; rest = refl }, refl)
  form_named (examples layout unknown dictionary names) = (record { stops = refl; fine = refl; finds = refl; rest = refl }, refl)

abbrev SaysPair : Unknown → Text → Text → List Row → Type 0
SaysPair unknown first second rows = (first_of (codes "unknown") rows ≡ Some (policy_word unknown)) × (first_of (codes "A") rows ≡ Some first)
    × (first_of (codes "B") rows ≡ Some second)

-- what is found of the options and inputs of a form
abbrev pub SaysForm : Form → List Row → Type 0
SaysForm (show recording dictionary message) rows =
    (first_of (codes "dict") rows ≡ Some (unwrap_or dictionary (codes "@base"))) × (first_of (codes "MESSAGE") rows ≡ Some message)
    × (first_of (codes "as-text") rows ≡ Some (flag_word (is_text recording))) × (first_of (codes "names") rows ≡ Some (flag_word (has_names recording)))
    × (first_of (codes "values") rows ≡ Some (unwrap_or (values_given recording) (codes "@none"))) × (first_of (codes "lines") rows ≡ Some (flag_word (has_lines recording)))
SaysForm (make dictionary values written) rows =
    (first_of (codes "dict") rows ≡ Some (unwrap_or dictionary (codes "@base"))) × (first_of (codes "TEXT") rows ≡ Some written)
    × (first_of (codes "values") rows ≡ Some (unwrap_or values (codes "@none")))
SaysForm (check manner json unknown levels dictionary message) rows =
    (first_of (codes "lines") rows ≡ Some (flag_word (is_lines manner))) × (first_of (codes "stream") rows ≡ Some (flag_word (is_stream manner)))
    × (first_of (codes "unknown") rows ≡ Some (policy_word unknown)) × (first_of (codes "levels") rows ≡ levels)
    × (first_of (codes "D") rows ≡ Some dictionary) × (first_of (codes "MESSAGE") rows ≡ Some message)
    × (first_of (codes "all") rows ≡ Some (flag_word (is_full manner))) × (first_of (codes "json") rows ≡ Some (flag_word (json_of manner json)))
SaysForm (render dictionary) rows = first_of (codes "D") rows ≡ Some dictionary
SaysForm (compare json unknown first second table) rows = SaysPair unknown first second rows × (first_of (codes "TABLE") rows ≡ Some table)
SaysForm (refute many json unknown levels first second message) rows =
    SaysPair unknown first second rows × (first_of (codes "lines") rows ≡ Some (flag_word many)) × (first_of (codes "levels") rows ≡ levels)
    × (first_of (codes "MESSAGE") rows ≡ Some message)
SaysForm (propose json unknown first second name names) rows = SaysPair unknown first second rows × (all_of (codes "COMMAND") rows ≡ Some (name ∷ names))
SaysForm (breaking json sends unknown messages once meaning allowed explained accepted first second names) rows =
    SaysPair unknown first second rows × (first_of (codes "sends") rows ≡ Some (sends_word sends)) × (first_of (codes "messages") rows ≡ Some (flag_word messages))
    × (all_of (codes "COMMAND") rows ≡ some_names names) × (first_of (codes "accepted") rows ≡ Some (unwrap_or accepted (codes "@none")))
    × (first_of (codes "once") rows ≡ Some (flag_word once)) × (first_of (codes "meaning") rows ≡ Some (flag_word meaning))
    × (first_of (codes "stale-allowed") rows ≡ Some (flag_word allowed)) × (first_of (codes "explain") rows ≡ Some (flag_word explained))
SaysForm (answer many unknown levels host realm dictionary message) rows =
    (first_of (codes "unknown") rows ≡ Some (policy_word unknown)) × (first_of (codes "levels") rows ≡ levels)
    × (first_of (codes "D") rows ≡ Some dictionary) × (first_of (codes "MESSAGE") rows ≡ Some message)
    × (first_of (codes "host") rows ≡ Some (unwrap_or host (codes "host.invalid"))) × (first_of (codes "realm") rows ≡ Some (unwrap_or realm (codes "invalid")))
    × (first_of (codes "lines") rows ≡ Some (flag_word many))
SaysForm (follow json middle judged unknown levels dictionary connection) rows =
    (first_of (codes "unknown") rows ≡ Some (policy_word unknown)) × (first_of (codes "levels") rows ≡ levels)
    × (first_of (codes "middle") rows ≡ Some (flag_word middle)) × (first_of (codes "check") rows ≡ Some (flag_word judged))
    × (first_of (codes "dict") rows ≡ Some (unwrap_or dictionary (codes "@base"))) × (first_of (codes "CONNECTION") rows ≡ Some connection)
SaysForm (mask avps json dictionary messages) rows =
    (first_of (codes "D") rows ≡ Some dictionary) × (first_of (codes "MESSAGES") rows ≡ Some messages)
    × (first_of (codes "keep") rows ≡ Some (unwrap_or (keep_given avps) (codes "@none"))) × (first_of (codes "mask") rows ≡ Some (unwrap_or (mask_given avps) (codes "@none")))
    × (first_of (codes "only") rows ≡ Some (unwrap_or (only_given avps) (codes "@none")))
SaysForm (uses json dictionary avp avps) rows = (first_of (codes "D") rows ≡ Some dictionary) × (all_of (codes "AVP") rows ≡ Some (avp ∷ avps))
SaysForm (diff json sends unknown first second) rows = SaysPair unknown first second rows × (first_of (codes "sends") rows ≡ Some (sends_word sends))
SaysForm (lint json unknown only except accepted dictionary) rows =
    (first_of (codes "unknown") rows ≡ Some (policy_word unknown)) × (first_of (codes "D") rows ≡ Some dictionary)
    × (first_of (codes "accepted") rows ≡ Some (unwrap_or accepted (codes "@none"))) × (first_of (codes "only") rows ≡ Some (unwrap_or only (codes "exact,guidelines")))
    × (first_of (codes "except") rows ≡ Some (unwrap_or except (codes "@none")))
SaysForm (examples layout unknown dictionary names) rows =
    (first_of (codes "unknown") rows ≡ Some (policy_word unknown)) × (first_of (codes "D") rows ≡ Some dictionary)
    × (first_of (codes "text") rows ≡ Some (flag_word (is_texts layout))) × (first_of (codes "json") rows ≡ Some (flag_word (is_objects layout)))
    × (all_of (codes "COMMAND") rows ≡ some_names names)

abbrev pub Says : Bool → Form → List Row → Type 0
Says quiet form rows = (first_of (codes "quiet") rows ≡ Some (flag_word quiet)) × SaysForm form rows
    × (form_json form ≡ is_given (first_of (codes "json") rows))

module _ (policies senders : Bor (List (Bor Text))) (quiet : Bool) (rows : List Row) where
  pub form_says : (form : Form) → ((id : Text) → first_of id rows ≡ first_value (or_found (values_from CommandLine (values_of id (following (all_options quiet form ++ form_inputs form) [])))
      (default_found id (shape policies senders (form_row form)).rules)))
      → ((id : Text) → all_of id rows ≡ option_map (λ (f : Found). f.0) (or_found (values_from CommandLine (values_of id (following (all_options quiet form ++ form_inputs form) [])))
      (default_found id (shape policies senders (form_row form)).rules)))
      → Says quiet form rows
  form_says (show recording dictionary message) first all = (
    first (codes "quiet") ∙ flag_found quiet,
    (
      first (codes "dict") ∙ text_found dictionary (codes "@base"),
      first (codes "MESSAGE"),
      first (codes "as-text") ∙ flag_found (is_text recording),
      first (codes "names") ∙ flag_found (has_names recording),
      first (codes "values") ∙ text_found (values_given recording) (codes "@none"),
      first (codes "lines") ∙ flag_found (has_lines recording),
    ),
    flag_given (is_json recording) (first (codes "json") ∙ flag_found (is_json recording)),
  )
  form_says (make dictionary values written) first all = (
    first (codes "quiet") ∙ flag_found quiet,
    (first (codes "dict") ∙ text_found dictionary (codes "@base"), first (codes "TEXT"), first (codes "values") ∙ text_found values (codes "@none")),
    not_given (first (codes "json")),
  )
  form_says (check manner json unknown levels dictionary message) first all = (
    first (codes "quiet") ∙ flag_found quiet,
    (
      first (codes "lines") ∙ flag_found (is_lines manner),
      first (codes "stream") ∙ flag_found (is_stream manner),
      first (codes "unknown") ∙ policy_found unknown,
      first (codes "levels") ∙ number_found levels,
      first (codes "D"),
      first (codes "MESSAGE"),
      first (codes "all") ∙ flag_found (is_full manner),
      first (codes "json") ∙ flag_found (json_of manner json),
    ),
    flag_given (json_of manner json) (first (codes "json") ∙ flag_found (json_of manner json)),
  )
  form_says (render dictionary) first all = (first (codes "quiet") ∙ flag_found quiet, first (codes "D"), not_given (first (codes "json")))
  form_says (compare json unknown one two table) first all = (
    first (codes "quiet") ∙ flag_found quiet,
    ((first (codes "unknown") ∙ policy_found unknown, first (codes "A"), first (codes "B")), first (codes "TABLE")),
    flag_given json (first (codes "json") ∙ flag_found json),
  )
  form_says (refute many json unknown levels one two message) first all = (
    first (codes "quiet") ∙ flag_found quiet,
    (
      (first (codes "unknown") ∙ policy_found unknown, first (codes "A"), first (codes "B")),
      first (codes "lines") ∙ flag_found many,
      first (codes "levels") ∙ number_found levels,
      first (codes "MESSAGE"),
    ),
    flag_given json (first (codes "json") ∙ flag_found json),
  )
  form_says (propose json unknown one two name names) first all = (
    first (codes "quiet") ∙ flag_found quiet,
    ((first (codes "unknown") ∙ policy_found unknown, first (codes "A"), first (codes "B")), all (codes "COMMAND")),
    flag_given json (first (codes "json") ∙ flag_found json),
  )
  form_says (breaking json sends unknown messages once meaning allowed explained accepted one two names) first all = (
    first (codes "quiet") ∙ flag_found quiet,
    (
      (first (codes "unknown") ∙ policy_found unknown, first (codes "A"), first (codes "B")),
      first (codes "sends") ∙ sender_found sends,
      first (codes "messages") ∙ flag_found messages,
      all (codes "COMMAND") ∙ names_found names,
      first (codes "accepted") ∙ text_found accepted (codes "@none"),
      first (codes "once") ∙ flag_found once,
      first (codes "meaning") ∙ flag_found meaning,
      first (codes "stale-allowed") ∙ flag_found allowed,
      first (codes "explain") ∙ flag_found explained,
    ),
    flag_given json (first (codes "json") ∙ flag_found json),
  )
  form_says (answer many unknown levels host realm dictionary message) first all = (
    first (codes "quiet") ∙ flag_found quiet,
    (
      first (codes "unknown") ∙ policy_found unknown,
      first (codes "levels") ∙ number_found levels,
      first (codes "D"),
      first (codes "MESSAGE"),
      first (codes "host") ∙ text_found host (codes "host.invalid"),
      first (codes "realm") ∙ text_found realm (codes "invalid"),
      first (codes "lines") ∙ flag_found many,
    ),
    not_given (first (codes "json")),
  )
  form_says (follow json middle judged unknown levels dictionary connection) first all = (
    first (codes "quiet") ∙ flag_found quiet,
    (
      first (codes "unknown") ∙ policy_found unknown,
      first (codes "levels") ∙ number_found levels,
      first (codes "middle") ∙ flag_found middle,
      first (codes "check") ∙ flag_found judged,
      first (codes "dict") ∙ text_found dictionary (codes "@base"),
      first (codes "CONNECTION"),
    ),
    flag_given json (first (codes "json") ∙ flag_found json),
  )
  form_says (mask avps json dictionary messages) first all = (
    first (codes "quiet") ∙ flag_found quiet,
    (
      first (codes "D"),
      first (codes "MESSAGES"),
      first (codes "keep") ∙ text_found (keep_given avps) (codes "@none"),
      first (codes "mask") ∙ text_found (mask_given avps) (codes "@none"),
      first (codes "only") ∙ text_found (only_given avps) (codes "@none"),
    ),
    flag_given json (first (codes "json") ∙ flag_found json),
  )
  form_says (uses json dictionary avp avps) first all =
      (first (codes "quiet") ∙ flag_found quiet, (first (codes "D"), all (codes "AVP")), flag_given json (first (codes "json") ∙ flag_found json))
  form_says (diff json sends unknown one two) first all = (
    first (codes "quiet") ∙ flag_found quiet,
    ((first (codes "unknown") ∙ policy_found unknown, first (codes "A"), first (codes "B")), first (codes "sends") ∙ sender_found sends),
    flag_given json (first (codes "json") ∙ flag_found json),
  )
  form_says (lint json unknown only except accepted dictionary) first all = (
    first (codes "quiet") ∙ flag_found quiet,
    (
      first (codes "unknown") ∙ policy_found unknown,
      first (codes "D"),
      first (codes "accepted") ∙ text_found accepted (codes "@none"),
      first (codes "only") ∙ text_found only (codes "exact,guidelines"),
      first (codes "except") ∙ text_found except (codes "@none"),
    ),
    flag_given json (first (codes "json") ∙ flag_found json),
  )
  form_says (examples layout unknown dictionary names) first all = (
    first (codes "quiet") ∙ flag_found quiet,
    (
      first (codes "unknown") ∙ policy_found unknown,
      first (codes "D"),
      first (codes "text") ∙ flag_found (is_texts layout),
      first (codes "json") ∙ flag_found (is_objects layout),
      all (codes "COMMAND") ∙ names_found names,
    ),
    flag_given (is_objects layout) (first (codes "json") ∙ flag_found (is_objects layout)),
  )

-- ---- what is asked for

-- the arguments of its command are there
pub form_has : (form : Form) (rows : List Row) → is_plain_form form ≡ true → SaysForm form rows → has_arguments (form_name form) rows ≡ true
form_has (show recording dictionary message) rows plain says =
    also (has_some _ (unwrap_or dictionary (codes "@base")) says.0) (also (has_some _ message says.1) (has_some _ (unwrap_or (values_given recording) (codes "@none")) says.4))
form_has (make dictionary values written) rows plain says =
    also (has_some _ (unwrap_or dictionary (codes "@base")) says.0) (also (has_some _ written says.1) (has_some _ (unwrap_or values (codes "@none")) says.2))
form_has (check manner json unknown levels first second) rows plain says =
    also (has_flag _ (is_lines manner) says.0) (also (has_flag _ (is_stream manner) says.1)
    (also (has_flag _ (is_full manner) says.6) (also (has_flag _ (json_of manner json) says.7)
    (also (also (also (has_policy _ unknown says.2) (has_limit _ levels says.3 (number_passes levels (form_inputs (check manner json unknown levels first second)) plain)))
    (has_some _ first says.4)) (has_some _ second says.5)))))
form_has (render first) rows plain says =
    has_some _ first says
form_has (compare json unknown first second table) rows plain says =
    also (has_policy _ unknown says.0.0) (also (pair_passes first second rows says.0.1 says.0.2) (has_some _ table says.1))
form_has (refute many json unknown levels first second third) rows plain says =
    also (also (has_policy _ unknown says.0.0) (has_limit _ levels says.2 (number_passes levels (form_inputs (refute many json unknown levels first second third)) plain)))
    (also (pair_passes first second rows says.0.1 says.0.2) (also (has_flag _ many says.1) (has_some _ third says.3)))
form_has (propose json unknown first second name names) rows plain says =
    also (has_policy _ unknown says.0.0) (also (pair_passes first second rows says.0.1 says.0.2) (has_some _ (name ∷ names) says.1))
form_has (breaking json sends unknown messages once meaning allowed explained accepted first second names) rows plain says =
    also (has_policy _ unknown says.0.0) (also (pair_passes first second rows says.0.1 says.0.2)
    (also (has_sender _ sends says.1)
    (also (also (has_flag _ messages says.2) (also (has_flag _ once says.5) (also (has_flag _ meaning says.6) (also (has_flag _ allowed says.7) (has_flag _ explained says.8))))) (has_some _ (unwrap_or accepted (codes "@none")) says.4))))
form_has (answer many unknown levels host realm dictionary message) rows plain says =
    also (has_flag _ many says.6)
    (also (also (also (has_policy _ unknown says.0) (has_limit _ levels says.1 (number_passes levels (form_inputs (answer many unknown levels host realm dictionary message))
    (later_plain (text (codes "realm") realm) (flag (codes "lines") many ∷ number (codes "levels") levels ∷ form_inputs (answer many unknown levels host realm dictionary message))
    (later_plain (text (codes "host") host) (text (codes "realm") realm ∷ flag (codes "lines") many ∷ number (codes "levels") levels ∷ form_inputs (answer many unknown levels host realm dictionary message)) plain)))))
    (has_some _ dictionary says.2)) (also (has_some _ message says.3) (also (has_some _ (unwrap_or host (codes "host.invalid")) says.4) (has_some _ (unwrap_or realm (codes "invalid")) says.5))))
form_has (follow json middle judged unknown levels dictionary connection) rows plain says =
    also (also (has_policy _ unknown says.0) (has_limit _ levels says.1 (number_passes levels (form_inputs (follow json middle judged unknown levels dictionary connection)) (later_plain (text (codes "dict") dictionary)
    (flag (codes "middle") middle ∷ flag (codes "check") judged ∷ unknown_slot unknown ∷ flag (codes "json") json ∷ number (codes "levels") levels ∷ form_inputs (follow json middle judged unknown levels dictionary connection)) plain))))
    (also (has_flag _ middle says.2) (also (has_flag _ judged says.3) (also (has_some _ (unwrap_or dictionary (codes "@base")) says.4) (has_some _ connection says.5))))
form_has (mask avps json dictionary messages) rows plain says =
    also (has_some _ dictionary says.0) (also (has_some _ messages says.1) (also (has_some _ (unwrap_or (keep_given avps) (codes "@none")) says.2)
    (also (has_some _ (unwrap_or (mask_given avps) (codes "@none")) says.3) (has_some _ (unwrap_or (only_given avps) (codes "@none")) says.4))))
form_has (uses json dictionary avp avps) rows plain says = also (has_some _ dictionary says.0) (has_some _ (avp ∷ avps) says.1)
form_has (diff json sends unknown first second) rows plain says =
    also (has_policy _ unknown says.0.0) (also (pair_passes first second rows says.0.1 says.0.2) (has_sender _ sends says.1))
form_has (lint json unknown only except accepted dictionary) rows plain says =
    also (has_policy _ unknown says.0) (also (has_some _ dictionary says.1) (also (has_some _ (unwrap_or accepted (codes "@none")) says.2)
    (also (has_some _ (unwrap_or only (codes "exact,guidelines")) says.3) (has_some _ (unwrap_or except (codes "@none")) says.4))))
form_has (examples layout unknown dictionary names) rows plain says =
    also (has_policy _ unknown says.0) (also (has_some _ dictionary says.1) (has_flag _ (is_texts layout) says.2))

-- what the words of a form ask for
abbrev IsAskedOf : Form → Task → Origins → Type 0
IsAskedOf form task origins = IsTaskOfForm form task × AreNamed (form_words form) origins

pub asked_is : (form : Form) (rows : List Row) (task : Task) (origins : Origins) → SaysForm form rows → form_name form ≡ task_name task → HasOptionsOf task rows
    → AreFound (arguments_of task) origins rows
    → IsAskedOf form task origins
asked_is (show as_text dictionary message) rows ShowText origins says named is found =
    (tt, message_named origins rows (codes "dict") (unwrap_or dictionary (codes "@base")) (codes "MESSAGE") message says.0 says.1 found)
asked_is (show (as_json false false values) dictionary message) rows (Whole command.Show) origins says named is found =
    (tt, listing_named origins rows (unwrap_or dictionary (codes "@base")) (codes "MESSAGE") message (unwrap_or values (codes "@none")) says.0 says.1 says.4 found)
asked_is (show (as_json false true values) dictionary message) rows ShowNamed origins says named is found =
    (tt, listing_named origins rows (unwrap_or dictionary (codes "@base")) (codes "MESSAGE") message (unwrap_or values (codes "@none")) says.0 says.1 says.4 found)
asked_is (show (as_listing false false values) dictionary message) rows (Whole command.Show) origins says named is found =
    (tt, listing_named origins rows (unwrap_or dictionary (codes "@base")) (codes "MESSAGE") message (unwrap_or values (codes "@none")) says.0 says.1 says.4 found)
asked_is (show (as_listing false true values) dictionary message) rows ShowNamed origins says named is found =
    (tt, listing_named origins rows (unwrap_or dictionary (codes "@base")) (codes "MESSAGE") message (unwrap_or values (codes "@none")) says.0 says.1 says.4 found)
asked_is (show (as_json true names values) dictionary messages) rows (ShowLines many) origins says named is found =
    (same_given _ names many says.3 is.1, listings_named origins rows (unwrap_or dictionary (codes "@base")) messages (unwrap_or values (codes "@none")) says.0 says.1 says.4 found)
asked_is (show (as_listing true names values) dictionary messages) rows (ShowLines many) origins says named is found =
    (same_given _ names many says.3 is.1, listings_named origins rows (unwrap_or dictionary (codes "@base")) messages (unwrap_or values (codes "@none")) says.0 says.1 says.4 found)
asked_is (show as_text dictionary message) rows (Whole command.Show) origins says named is found = other_given _ true false says.2 is.0 not_true
asked_is (show as_text dictionary message) rows ShowNamed origins says named is found = other_given _ true false says.2 is.0 not_true
asked_is (show as_text dictionary message) rows (ShowLines names) origins says named is found = other_given _ true false says.2 is.0 not_true
asked_is (show (as_json false false values) dictionary message) rows ShowText origins says named is found = other_given _ false true says.2 is.0 not_false
asked_is (show (as_json false false values) dictionary message) rows ShowNamed origins says named is found = other_given _ false true says.3 is.1 not_false
asked_is (show (as_json false false values) dictionary message) rows (ShowLines names) origins says named is found = other_given _ false true says.5 is.2 not_false
asked_is (show (as_json false true values) dictionary message) rows (Whole command.Show) origins says named is found = other_given _ true false says.3 is.1 not_true
asked_is (show (as_json false true values) dictionary message) rows ShowText origins says named is found = other_given _ false true says.2 is.0 not_false
asked_is (show (as_json false true values) dictionary message) rows (ShowLines names) origins says named is found = other_given _ false true says.5 is.2 not_false
asked_is (show (as_listing false false values) dictionary message) rows ShowText origins says named is found = other_given _ false true says.2 is.0 not_false
asked_is (show (as_listing false false values) dictionary message) rows ShowNamed origins says named is found = other_given _ false true says.3 is.1 not_false
asked_is (show (as_listing false false values) dictionary message) rows (ShowLines names) origins says named is found = other_given _ false true says.5 is.2 not_false
asked_is (show (as_listing false true values) dictionary message) rows (Whole command.Show) origins says named is found = other_given _ true false says.3 is.1 not_true
asked_is (show (as_listing false true values) dictionary message) rows ShowText origins says named is found = other_given _ false true says.2 is.0 not_false
asked_is (show (as_listing false true values) dictionary message) rows (ShowLines names) origins says named is found = other_given _ false true says.5 is.2 not_false
asked_is (show (as_json true names values) dictionary message) rows (Whole command.Show) origins says named is found = other_given _ true false says.5 is.2 not_true
asked_is (show (as_listing true names values) dictionary message) rows (Whole command.Show) origins says named is found = other_given _ true false says.5 is.2 not_true
asked_is (show (as_json true names values) dictionary message) rows ShowText origins says named is found = other_given _ false true says.2 is.0 not_false
asked_is (show (as_listing true names values) dictionary message) rows ShowText origins says named is found = other_given _ false true says.2 is.0 not_false
asked_is (show (as_json true names values) dictionary message) rows ShowNamed origins says named is found = other_given _ true false says.5 is.2 not_true
asked_is (show (as_listing true names values) dictionary message) rows ShowNamed origins says named is found = other_given _ true false says.5 is.2 not_true
asked_is (make dictionary values written) rows Make origins says named is found =
    (tt, listing_named origins rows (unwrap_or dictionary (codes "@base")) (codes "TEXT") written (unwrap_or values (codes "@none")) says.0 says.1 says.2 found)
asked_is (render dictionary) rows (Whole command.Render) origins says named is found = (tt, one_named origins rows (codes "D") dictionary says found)
asked_is (check alone json unknown levels first second) rows (Whole (command.Check policy limit)) origins says named is found =
    ((same_policy _ _ _ is.2.0 says.2, same_limit _ _ limit says.3 is.2.1), message_named origins rows (codes "D") first (codes "MESSAGE") second says.4 says.5 found)
asked_is (check in_lines json unknown levels first second) rows (CheckLines policy limit) origins says named is found =
    ((same_policy _ _ _ is.2.0 says.2, same_limit _ _ limit says.3 is.2.1), messages_named origins rows (codes "D") first (codes "MESSAGE") second says.4 says.5 found)
asked_is (check in_stream json unknown levels first second) rows (CheckStream policy limit) origins says named is found =
    ((same_policy _ _ _ is.2.0 says.2, same_limit _ _ limit says.3 is.2.1), messages_named origins rows (codes "D") first (codes "MESSAGE") second says.4 says.5 found)
asked_is (check in_full json unknown levels first second) rows (CheckAll policy limit) origins says named is found =
    ((same_policy _ _ _ is.2.0 says.2, same_limit _ _ limit says.3 is.2.1), message_named origins rows (codes "D") first (codes "MESSAGE") second says.4 says.5 found)
asked_is (check alone json unknown levels first second) rows (CheckAll policy limit) origins says named is found = other_flag _ true false is.3 says.6 not_false
asked_is (check in_lines json unknown levels first second) rows (CheckAll policy limit) origins says named is found = other_flag _ true false is.3 says.6 not_false
asked_is (check in_stream json unknown levels first second) rows (CheckAll policy limit) origins says named is found = other_flag _ true false is.3 says.6 not_false
asked_is (check in_full json unknown levels first second) rows (Whole (command.Check policy limit)) origins says named is found = other_flag _ false true is.3 says.6 not_true
asked_is (check in_full json unknown levels first second) rows (CheckLines policy limit) origins says named is found = other_flag _ false true is.3 says.6 not_true
asked_is (check in_full json unknown levels first second) rows (CheckStream policy limit) origins says named is found = other_flag _ false true is.3 says.6 not_true
asked_is (check alone json unknown levels first second) rows (CheckLines policy limit) origins says named is found = other_flag _ true false is.0 says.0 not_false
asked_is (check alone json unknown levels first second) rows (CheckStream policy limit) origins says named is found = other_flag _ true false is.1 says.1 not_false
asked_is (check in_lines json unknown levels first second) rows (Whole (command.Check policy limit)) origins says named is found = other_flag _ false true is.0 says.0 not_true
asked_is (check in_lines json unknown levels first second) rows (CheckStream policy limit) origins says named is found = other_flag _ false true is.0 says.0 not_true
asked_is (check in_stream json unknown levels first second) rows (Whole (command.Check policy limit)) origins says named is found = other_flag _ false true is.1 says.1 not_true
asked_is (check in_stream json unknown levels first second) rows (CheckLines policy limit) origins says named is found = other_flag _ false true is.1 says.1 not_true
asked_is (compare json unknown first second table) rows (Whole (command.Compare policy)) origins says named is found =
    (same_policy _ _ _ is says.0.0, table_named origins rows first second says.0.1 says.0.2 (codes "TABLE") table says.1 found)
asked_is (refute false json unknown levels first second third) rows (Whole (command.Refute policy limit)) origins says named is found =
    ((same_policy _ _ _ is.1.0 says.0.0, same_limit _ _ limit says.2 is.1.1), pair_message_named origins rows first second says.0.1 says.0.2 third says.3 found)
asked_is (refute true json unknown levels first second third) rows (RefuteLines policy limit) origins says named is found =
    ((same_policy _ _ _ is.1.0 says.0.0, same_limit _ _ limit says.2 is.1.1), pair_messages_named origins rows first second says.0.1 says.0.2 third says.3 found)
asked_is (refute false json unknown levels first second third) rows (RefuteLines policy limit) origins says named is found = other_flag _ true false is.0 says.1 not_false
asked_is (refute true json unknown levels first second third) rows (Whole (command.Refute policy limit)) origins says named is found = other_flag _ false true is.0 says.1 not_true
asked_is (propose json unknown first second name names) rows (Whole (command.Propose policy commands)) origins says named is found =
    ((same_policy _ _ _ is.0 says.0.0, sym (same_value _ _ _ says.1 is.1)), pair_named origins rows first second says.0.1 says.0.2 found)
asked_is (breaking json sends unknown messages once meaning allowed explained accepted first second names) rows (Breaking asked) origins says named is found = (
  (
    same_sender _ _ _ is.1 says.1,
    same_policy _ _ _ is.0 says.0.0,
    same_flag _ _ _ is.2 says.2,
    same_flag _ _ _ is.3 says.5,
    same_flag _ _ _ is.4 says.6,
    same_flag _ _ _ is.5 says.7,
    same_flag _ _ _ is.6 says.8,
    same_names _ _ names says.3 is.7,
  ),
  table_named origins rows first second says.0.1 says.0.2 (codes "accepted") (unwrap_or accepted (codes "@none")) says.4 found,
)
asked_is (answer false unknown levels host realm dictionary message) rows (Answer asked) origins says named is found = (
  (
    same_policy _ _ _ is.0.0 says.0,
    same_limit _ _ asked.levels says.1 is.0.1,
    same_value _ _ _ is.1 says.4,
    same_value _ _ _ is.2 says.5,
  ),
  message_named origins rows (codes "D") dictionary (codes "MESSAGE") message says.2 says.3 found,
)
asked_is (answer true unknown levels host realm dictionary messages) rows (AnswerLines asked) origins says named is found = (
  (
    same_policy _ _ _ is.0.0 says.0,
    same_limit _ _ asked.levels says.1 is.0.1,
    same_value _ _ _ is.1 says.4,
    same_value _ _ _ is.2 says.5,
  ),
  messages_named origins rows (codes "D") dictionary (codes "MESSAGE") messages says.2 says.3 found,
)
asked_is (answer false unknown levels host realm dictionary message) rows (AnswerLines asked) origins says named is found = other_flag _ true false is.3 says.6 not_false
asked_is (answer true unknown levels host realm dictionary message) rows (Answer asked) origins says named is found = other_flag _ false true is.3 says.6 not_true
asked_is (follow json middle judged unknown levels dictionary connection) rows (Follow asked) origins says named is found = (
  (
    same_flag _ _ _ is.1 says.2,
    same_flag _ _ _ is.2 says.3,
    same_policy _ _ _ is.0.0 says.0,
    same_limit _ _ asked.levels says.1 is.0.1,
  ),
  messages_named origins rows (codes "dict") (unwrap_or dictionary (codes "@base")) (codes "CONNECTION") connection says.4 says.5 found,
)
asked_is (mask avps json dictionary messages) rows (Mask asked) origins says named is found = (
  (same_value _ _ _ is.0 says.2, same_value _ _ _ is.1 says.3, same_value _ _ _ is.2 says.4),
  messages_named origins rows (codes "D") dictionary (codes "MESSAGES") messages says.0 says.1 found,
)
asked_is (uses json dictionary avp avps) rows (Uses names) origins says named is found =
    (sym (same_value _ _ _ says.1 is), one_named origins rows (codes "D") dictionary says.0 found)
asked_is (diff json sends unknown first second) rows (Diff sender policy) origins says named is found =
    ((same_sender _ _ _ is.1 says.1, same_policy _ _ _ is.0 says.0.0), pair_named origins rows first second says.0.1 says.0.2 found)
asked_is (lint json unknown only except accepted dictionary) rows (Lint asked) origins says named is found = (
  (same_policy _ _ _ is.0 says.0, same_value _ _ _ is.1 says.3, same_value _ _ _ is.2 says.4),
  one_table_named origins rows (codes "D") dictionary (codes "accepted") (unwrap_or accepted (codes "@none")) says.1 says.2 found,
)
asked_is (examples layout unknown dictionary names) rows (Examples asked) origins says named is found = (
  (same_policy _ _ _ is.0 says.0, same_flag _ _ _ is.1 says.2, same_names _ _ names says.4 is.2),
  one_named origins rows (codes "D") dictionary says.1 found,
)
asked_is (breaking json sends unknown messages once meaning allowed explained accepted first second names) rows (Whole command.Show) origins says named is found = unlike (codes "breaking") (codes "show") refl named
asked_is (make dictionary values written) rows (Whole command.Show) origins says named is found = unlike (codes "make") (codes "show") refl named
asked_is (answer many unknown levels host realm dictionary message) rows (Whole command.Show) origins says named is found = unlike (codes "answer") (codes "show") refl named
asked_is (follow json middle judged unknown levels dictionary connection) rows (Whole command.Show) origins says named is found = unlike (codes "follow") (codes "show") refl named
asked_is (mask avps json dictionary messages) rows (Whole command.Show) origins says named is found = unlike (codes "mask") (codes "show") refl named
asked_is (uses json dictionary avp avps) rows (Whole command.Show) origins says named is found = unlike (codes "uses") (codes "show") refl named
asked_is (diff json sends unknown first second) rows (Whole command.Show) origins says named is found = unlike (codes "diff") (codes "show") refl named
asked_is (lint json unknown only except accepted dictionary) rows (Whole command.Show) origins says named is found = unlike (codes "lint") (codes "show") refl named
asked_is (examples layout unknown dictionary names) rows (Whole command.Show) origins says named is found = unlike (codes "examples") (codes "show") refl named
asked_is form rows task origins says named is found = unlike (form_name form) (task_name task) refl named
