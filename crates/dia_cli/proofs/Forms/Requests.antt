-- What is found of the words of a form is a subcommand with its arguments, and the request that is made of it is the form's.
use Rattle.std.proofs.Common.{◌≡◌, ◌∙◌, Bool, true, false, List, [], ◌∷◌, ◌++◌, Some, None, refl, sym, ap, codes}
use Rattle.std.specs.Borrow.{Bor}
use Rattle.std.specs.Prelude.{unwrap_or}
use Rattle.clap.specs.Walk.{Row, Text, first_of, texts}
use Rattle.dia_terms.specs.declared.Sends.TheVariants.{Any, Known, Filled, Listed}
use Rattle.dia_terms.specs.declared.Unknown.TheVariants.{Kept, Refused}
use Rattle.dia_cli.specs.Apart.{mask_apart, show_apart}
use Rattle.dia_cli.specs.Asking.{IsApart, IsCheckWithBoth, IsRequestOf, IsWithBoth, is_asked, line_shape}
use Rattle.dia_cli.specs.Forms.{Form, IsOfForm, Masked, Recording, alone, as_json, as_listing, as_text, check, examples, form_inputs, form_json, form_name, form_row, has_lines, has_names, in_columns, in_full, in_lines, in_objects, in_stream, in_texts, is_json, is_plain_form, is_text, keep_given, mask, mask_given, masked, masked_only, only_given, show, values_given, words_of}
use Rattle.dia_cli.specs.Words.{apart_in, flag_word, is_file, is_given, masked_apart_in, policy_word, sends_word}
use Rattle.dia_cli.specs.declared.apart.Apart.{Apart}
use Rattle.dia_cli.specs.declared.apart.Apart.TheVariants.{LinesAndStream, AllAndLines, AllAndStream, AllAndJson, AsTextAndNames, AsTextAndValues, AsTextAndLines, AsTextAndJson, OnlyAndKeep, OnlyAndMask, TextAndJson}
use Rattle.dia_cli.specs.declared.request.Request.{Request}
use Rattle.dia_cli.proofs.Forms.Commands.{Says, all_options, asked_is, form_fits, form_has, form_named, form_says}
use Rattle.dia_cli.proofs.Forms.Ends.{Finds, row_taken}
use Rattle.dia_cli.proofs.Forms.FormRows.{shape}
use Rattle.dia_cli.proofs.Forms.Named.{also, has_flag, same_flag, same_given, unlike}
use Rattle.dia_cli.proofs.Forms.Says.{all_are, first_is}
use Rattle.dia_cli.proofs.Forms.Walked.{IsTaken}

module _ (policies senders : Bor (List (Bor Text))) (two : texts policies.now ≡ policy_word Kept ∷ policy_word Refused ∷ [])
    (four : texts senders.now ≡ sends_word Any ∷ sends_word Known ∷ sends_word Filled ∷ sends_word Listed ∷ []) where
  -- the words of a form are taken
  pub form_taken : (program : Text) (quiet : Bool) (form : Form) → is_plain_form form ≡ true
      → (rows : List Row) × IsTaken (line_shape policies senders) program (form_name form) (words_of quiet form) rows × Finds (shape policies senders (form_row form)) (all_options quiet form ++ form_inputs form) rows
  form_taken program quiet form plain =
      row_taken (line_shape policies senders) program (form_name form) (shape policies senders (form_row form)) (all_options quiet form) (form_inputs form) refl (form_named policies senders two four form).1 (form_named policies senders two four form).0
      (form_fits policies senders two four quiet form) plain

module _ (policies senders : Bor (List (Bor Text))) (quiet : Bool) (rows : List Row) where
  pub found_says : (form : Form) → Finds (shape policies senders (form_row form)) (all_options quiet form ++ form_inputs form) rows → Says quiet form rows
  found_says form finds =
      let s = shape policies senders (form_row form) in
      let slots = all_options quiet form ++ form_inputs form in form_says policies senders quiet rows form (first_is s slots rows finds) (all_are s slots rows finds)

pub form_is_asked : (quiet : Bool) (form : Form) (rows : List Row) → is_plain_form form ≡ true → Says quiet form rows → is_asked (Some (form_name form, rows)) ≡ true
form_is_asked quiet form rows plain says = also (has_flag _ quiet says.0) (form_has form rows plain says.1)

-- no form has two of `--lines`, `--stream` and `--all`, nor `--all` and `--json`
module _ (quiet : Bool) (rows : List Row) where
  not_lines_and_stream : (form : Form) → Says quiet form rows → IsCheckWithBoth (codes "lines") (codes "stream") (form_name form, rows) → ⊥
  not_lines_and_stream (check alone json unknown levels first second) says bad = let lines = sym says.1.0 ∙ bad.1 in absurd cc
  not_lines_and_stream (check in_lines json unknown levels first second) says bad = let stream = sym says.1.1 ∙ bad.2 in absurd cc
  not_lines_and_stream (check in_stream json unknown levels first second) says bad = let lines = sym says.1.0 ∙ bad.1 in absurd cc
  not_lines_and_stream (check in_full json unknown levels first second) says bad = let lines = sym says.1.0 ∙ bad.1 in absurd cc
  not_lines_and_stream form says bad = unlike (form_name form) (codes "check") refl bad.0

  not_all_and_lines : (form : Form) → Says quiet form rows → IsCheckWithBoth (codes "all") (codes "lines") (form_name form, rows) → ⊥
  not_all_and_lines (check alone json unknown levels first second) says bad = let all = sym says.1.6 ∙ bad.1 in absurd cc
  not_all_and_lines (check in_lines json unknown levels first second) says bad = let all = sym says.1.6 ∙ bad.1 in absurd cc
  not_all_and_lines (check in_stream json unknown levels first second) says bad = let all = sym says.1.6 ∙ bad.1 in absurd cc
  not_all_and_lines (check in_full json unknown levels first second) says bad = let lines = sym says.1.0 ∙ bad.2 in absurd cc
  not_all_and_lines form says bad = unlike (form_name form) (codes "check") refl bad.0

  not_all_and_stream : (form : Form) → Says quiet form rows → IsCheckWithBoth (codes "all") (codes "stream") (form_name form, rows) → ⊥
  not_all_and_stream (check alone json unknown levels first second) says bad = let all = sym says.1.6 ∙ bad.1 in absurd cc
  not_all_and_stream (check in_lines json unknown levels first second) says bad = let all = sym says.1.6 ∙ bad.1 in absurd cc
  not_all_and_stream (check in_stream json unknown levels first second) says bad = let all = sym says.1.6 ∙ bad.1 in absurd cc
  not_all_and_stream (check in_full json unknown levels first second) says bad = let stream = sym says.1.1 ∙ bad.2 in absurd cc
  not_all_and_stream form says bad = unlike (form_name form) (codes "check") refl bad.0

  not_all_and_json : (form : Form) → Says quiet form rows → IsCheckWithBoth (codes "all") (codes "json") (form_name form, rows) → ⊥
  not_all_and_json (check alone json unknown levels first second) says bad = let all = sym says.1.6 ∙ bad.1 in absurd cc
  not_all_and_json (check in_lines json unknown levels first second) says bad = let all = sym says.1.6 ∙ bad.1 in absurd cc
  not_all_and_json (check in_stream json unknown levels first second) says bad = let all = sym says.1.6 ∙ bad.1 in absurd cc
  not_all_and_json (check in_full json unknown levels first second) says bad = let given = sym says.1.7 ∙ bad.2 in absurd cc
  not_all_and_json form says bad = unlike (form_name form) (codes "check") refl bad.0

-- what a form says of `show` goes together
module _ (rows : List Row) where
  recorded_together : (recording : Recording) → show_apart (is_text recording) (has_names recording) (is_file (Some (unwrap_or (values_given recording) (codes "@none")))) (has_lines recording) (is_json recording) ≡ None
  recorded_together as_text = refl
  recorded_together (as_json many names values) = refl
  recorded_together (as_listing many names values) = refl

  shown_together : (recording : Recording) → first_of (codes "as-text") rows ≡ Some (flag_word (is_text recording)) → first_of (codes "names") rows ≡ Some (flag_word (has_names recording))
      → first_of (codes "values") rows ≡ Some (unwrap_or (values_given recording) (codes "@none")) → first_of (codes "lines") rows ≡ Some (flag_word (has_lines recording))
      → is_json recording ≡ is_given (first_of (codes "json") rows) → apart_in rows ≡ None
  shown_together recording text names values lines json =
      let t = same_given (first_of (codes "as-text") rows) (is_text recording) (is_given (first_of (codes "as-text") rows)) text refl in
      let n = same_given (first_of (codes "names") rows) (has_names recording) (is_given (first_of (codes "names") rows)) names refl in
      let l = same_given (first_of (codes "lines") rows) (has_lines recording) (is_given (first_of (codes "lines") rows)) lines refl in
      let v = ap is_file values in (λ i. show_apart (t i) (n i) (v i) (l i) (sym json i)) ∙ recorded_together recording

  show_goes_together : (quiet : Bool) (form : Form) (apart : Apart) → Says quiet form rows → (form_name form ≡ codes "show") × (apart_in rows ≡ Some apart) → ⊥
  show_goes_together quiet (show recording dictionary message) apart says bad =
      let none = sym (shown_together recording says.1.2 says.1.3 says.1.4 says.1.5 says.2) ∙ bad.1 in absurd cc
  show_goes_together quiet form apart says bad = unlike (form_name form) (codes "show") refl bad.0

-- what a form says of `mask` goes together
module _ (rows : List Row) where
  without_others : (only : Bool) → mask_apart false false only ≡ None
  without_others true = refl
  without_others false = refl

  given_together : (avps : Masked) → mask_apart (is_file (Some (unwrap_or (keep_given avps) (codes "@none")))) (is_file (Some (unwrap_or (mask_given avps) (codes "@none"))))
      (is_file (Some (unwrap_or (only_given avps) (codes "@none")))) ≡ None
  given_together (masked keep more) = refl
  given_together (masked_only only) = without_others (is_file (Some only))

  masked_together : (avps : Masked) → first_of (codes "keep") rows ≡ Some (unwrap_or (keep_given avps) (codes "@none")) → first_of (codes "mask") rows ≡ Some (unwrap_or (mask_given avps) (codes "@none"))
      → first_of (codes "only") rows ≡ Some (unwrap_or (only_given avps) (codes "@none")) → masked_apart_in rows ≡ None
  masked_together avps keep more only =
      let k = ap is_file keep in
      let m = ap is_file more in
      let o = ap is_file only in (λ i. mask_apart (k i) (m i) (o i)) ∙ given_together avps

  mask_goes_together : (quiet : Bool) (form : Form) (apart : Apart) → Says quiet form rows → (form_name form ≡ codes "mask") × (masked_apart_in rows ≡ Some apart) → ⊥
  mask_goes_together quiet (mask avps json dictionary messages) apart says bad =
      let none = sym (masked_together avps says.1.2 says.1.3 says.1.4) ∙ bad.1 in absurd cc
  mask_goes_together quiet form apart says bad = unlike (form_name form) (codes "mask") refl bad.0

  examples_go_together : (quiet : Bool) (form : Form) → Says quiet form rows → IsWithBoth (codes "examples") (codes "text") (codes "json") (form_name form, rows) → ⊥
  examples_go_together quiet (examples in_columns unknown dictionary names) says bad = let text = sym says.1.2 ∙ bad.1 in absurd cc
  examples_go_together quiet (examples in_texts unknown dictionary names) says bad = let json = sym says.1.3 ∙ bad.2 in absurd cc
  examples_go_together quiet (examples in_objects unknown dictionary names) says bad = let text = sym says.1.2 ∙ bad.1 in absurd cc
  examples_go_together quiet form says bad = unlike (form_name form) (codes "examples") refl bad.0

-- no form has two options that don't go together
pub form_goes_together : (quiet : Bool) (form : Form) (rows : List Row) → Says quiet form rows → (apart : Apart) → IsApart apart (form_name form, rows) → ⊥
form_goes_together quiet form rows says LinesAndStream bad = not_lines_and_stream quiet rows form says bad
form_goes_together quiet form rows says AllAndLines bad = not_all_and_lines quiet rows form says bad
form_goes_together quiet form rows says AllAndStream bad = not_all_and_stream quiet rows form says bad
form_goes_together quiet form rows says AllAndJson bad = not_all_and_json quiet rows form says bad
form_goes_together quiet form rows says AsTextAndNames bad = show_goes_together rows quiet form AsTextAndNames says bad
form_goes_together quiet form rows says AsTextAndValues bad = show_goes_together rows quiet form AsTextAndValues says bad
form_goes_together quiet form rows says AsTextAndLines bad = show_goes_together rows quiet form AsTextAndLines says bad
form_goes_together quiet form rows says AsTextAndJson bad = show_goes_together rows quiet form AsTextAndJson says bad
form_goes_together quiet form rows says OnlyAndKeep bad = mask_goes_together rows quiet form OnlyAndKeep says bad
form_goes_together quiet form rows says OnlyAndMask bad = mask_goes_together rows quiet form OnlyAndMask says bad
form_goes_together quiet form rows says TextAndJson bad = examples_go_together rows quiet form says bad

pub request_is : (quiet : Bool) (form : Form) (rows : List Row) (request : Request) → Says quiet form rows → IsRequestOf request (form_name form, rows)
    → IsOfForm form request × (request.quiet ≡ quiet) × (request.json ≡ form_json form)
request_is quiet form rows request says is =
    (asked_is form rows request.task request.origins says.1 is.0.0.0 is.0.0.1 is.0.1, same_flag (first_of (codes "quiet") rows) request.quiet quiet is.1 says.0, is.2 ∙ sym says.2)
