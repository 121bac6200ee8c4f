-- The words of a form are accepted.
use Rattle.std.proofs.Common.{◌≡◌, ◌∙◌, Bool, true, List, [], ◌∷◌, Option, Some, Result, Ok, Err, sym, ap, subst, inl, inr}
use Rattle.std.specs.Prelude.{IfErr, IfOk, IsSomeAnd}
use Rattle.clap.specs.Walk.{Row, Text}
use Rattle.clap.specs.Words.{App, IsAmong, Kinds, fault_of, kind_of, subcommand_of}
use Rattle.clap.specs.declared.error.kind.ErrorKind.{ErrorKind}
use Rattle.dia_cli.specs.Asking.{IsApart, IsAskedBy, IsProgram, IsRefused, IsRequestOf, is_asked}
use Rattle.dia_cli.specs.Forms.{Form, IsAccepted, IsOfForm, form_json, form_name, is_plain_form, words_of}
use Rattle.dia_cli.specs.declared.ending.Ending.{Ending}
use Rattle.dia_cli.specs.declared.ending.Ending.TheVariants as ending
use Rattle.dia_cli.specs.declared.request.Request.{Request}
use Rattle.dia_cli.proofs.Forms.Requests.{form_goes_together, form_is_asked, form_taken, found_says, request_is}
use Rattle.dia_cli.proofs.Forms.Commands.{Says}
use Rattle.dia_cli.proofs.Forms.Walked.{IsTaken}

abbrev Taken : App → Text → Bool → Form → Type 0
Taken line program quiet form = (rows : List Row) × IsTaken line program (form_name form) (words_of quiet form) rows × Says quiet form rows

program_taken : (line : App) (program : Text) (quiet : Bool) (form : Form) → IsProgram line → is_plain_form form ≡ true → Taken line program quiet form
program_taken line program quiet form is plain =
    let taken = form_taken is.policies is.senders is.two is.four program quiet form plain in
    subst (λ (l : App). Taken l program quiet form) (sym is.shape) (taken.0, taken.1, found_says is.policies is.senders quiet taken.0 form taken.2)

none_among : {X : Type 0} (kinds : Kinds) → kinds ≡ [] → (kind : ErrorKind) → IsAmong kind kinds → X
none_among [] is kind among = absurd among
none_among (k ∷ ks) is kind among = absurd cc

-- where a parse takes the words of a form
module _ (line : App) (words : List Text) (quiet : Bool) (form : Form) (rows : List Row) (fine : fault_of line words ≡ [])
    (finds : subcommand_of line words ≡ Some (form_name form, rows)) (plain : is_plain_form form ≡ true) (found : Says quiet form rows) where
  request_of_form : (request : Request) → IsSomeAnd (subcommand_of line words) (IsRequestOf request) → IsOfForm form request × (request.quiet ≡ quiet) × (request.json ≡ form_json form)
  request_of_form request is =
      request_is quiet form rows request found (subst (λ (s : Option (Text × List Row)). IsSomeAnd s (IsRequestOf request)) finds is)

pub accepted : (words : List Text) (program : Text) (quiet : Bool) (form : Form) (result : Result Request Ending)
    → words ≡ program ∷ form_name form ∷ words_of quiet form → is_plain_form form ≡ true → IfOk result (IsAskedBy words) → IfErr result (IsRefused words)
    → IsAccepted quiet form result
accepted words program quiet form (Ok request) are plain asked refused =
    let t = program_taken asked.0 program quiet form asked.1 plain in
    request_of_form asked.0 words quiet form t.0 (ap (fault_of asked.0) are ∙ t.1.fine) (ap (subcommand_of asked.0) are ∙ t.1.finds) plain t.2 request asked.3
accepted words program quiet form (Err (ending.Recorded error)) are plain asked refused =
    let t = program_taken refused.0 program quiet form refused.1 plain in
    elim refused.2 [
      | inl among ↦ none_among (fault_of refused.0 words) (ap (fault_of refused.0) are ∙ t.1.fine) (kind_of error) among
      | inr unasked ↦
          let whole = form_is_asked quiet form t.0 plain t.2 in
          let found = ap (λ (w : List Text). is_asked (subcommand_of refused.0 w)) are ∙ ap is_asked t.1.finds in
          absurd cc
    ]
accepted words program quiet form (Err ending.NotText) are plain asked refused = elim refused.2 [ inl bad ↦ bad | inr bad ↦ bad ]
accepted words program quiet form (Err ending.ReadTwice) are plain asked refused =
    let t = program_taken refused.0 program quiet form refused.1 plain in
    elim refused.2 [
      | inl bad ↦ absurd bad
      | inr twice ↦
          let is = request_of_form refused.0 words quiet form t.0 (ap (fault_of refused.0) are ∙ t.1.fine) (ap (subcommand_of refused.0) are ∙ t.1.finds) plain t.2 twice.0 twice.1 in
          (twice.0, is.0, twice.2)
    ]
accepted words program quiet form (Err (ending.Apart apart)) are plain asked refused =
    let t = program_taken refused.0 program quiet form refused.1 plain in
    elim refused.2 [
      | inl bad ↦ bad
      | inr both ↦
          let found = ap (subcommand_of refused.0) are ∙ t.1.finds in
          form_goes_together quiet form t.0 t.2 apart (subst (λ (s : Option (Text × List Row)). IsSomeAnd s (IsApart apart)) found both)
    ]
accepted words program quiet form (Err (ending.Device name error)) are plain asked refused = elim refused.2 [ inl bad ↦ bad | inr bad ↦ bad ]
accepted words program quiet form (Err ending.NoMemory) are plain asked refused = tt
