-- A command has one text and one end for its inputs.
use Rattle.std.proofs.Common.{◌≡◌, ◌≢◌, ℕ, List, ◌++◌, sym, ap, subst, ◌∙◌, codes}
use Rattle.std.specs.Prelude.{map, string_bytes, Result, Ok, Err}
use Rattle.std.proofs.lemmas.Option.{same_Some}
use Rattle.dia_ccf.specs.CanonicalText.{canonical}
use Rattle.dia_dict.specs.Dictionary.{Dictionary, IsDictionary, PlainDefinition}
use Rattle.dia_check.specs.declared.Unknown.{Unknown}
use Rattle.dia_check.specs.declared.Levels.{Levels}
use Rattle.dia_check.specs.declared.Selected.{Selected}
use Rattle.dia_check.specs.declared.Refusal.{Refusal}
use Rattle.dia_check.specs.declared.Refusal.TheVariants as refusal
use Rattle.dia_check.proofs.OneAnswer.{one_answer}
use Rattle.dia_io.specs.declared.Command.{Command}
use Rattle.dia_io.specs.declared.Command.TheVariants as command
use Rattle.dia_io.specs.declared.Inputs.{Inputs}
use Rattle.dia_io.specs.declared.Exit.{Exit}
use Rattle.dia_report.specs.Refusals.{dictionary_line}
use Rattle.dia_run.specs.Texts.{line}
use Rattle.dia_run.specs.Verdict.{IsVerdict}
use Rattle.dia_run.specs.Listing.{IsPlainRow}
use Rattle.dia_run.specs.Outcome.{IsMessageShown}
use Rattle.dia_run.specs.Outcome.{IsMessageOutcome, ended, no_dictionary, no_message, IsJudged, IsRenderOutcome, rendered}
use Rattle.dia_run.specs.Outcome.{no_source, IsOutcome}
use Rattle.dia_run.proofs.OneMessage.{plain_writes_one, written_once}
use Rattle.dia_run.proofs.OneInput.{Same, refused_once, one_source_text, source_or_not, one_reason, one_dictionary, dictionary_or_not, one_reason_for_dictionary, one_message, message_or_not}
use Rattle.dia_run.proofs.OneInput.{one_message_reason}
use Rattle.dia_run.proofs.OnePairOutcome.{compare_once, refute_once, propose_once}

-- ---- commands

-- P says one thing of a dictionary and a message
abbrev pub HasOne : (Dictionary → List ℕ → List ℕ → Exit → Type 0) → Type 0
HasOne P = (d : Dictionary) (bytes t u : List ℕ) (x y : Exit) → IsDictionary d → P d bytes t x → P d bytes u y → Same t u x y

of_message_once : (P : Dictionary → List ℕ → List ℕ → Exit → Type 0) → HasOne P → (inputs : Inputs) (t u : List ℕ) (x y : Exit) → IsMessageOutcome P inputs t x → IsMessageOutcome P inputs u y
    → Same t u x y
of_message_once P one inputs t u x y (ended d a is_d is_a made) (ended e b is_e is_b made') =
    let same_book = one_dictionary inputs.first d e is_d is_e in
    let same_bytes = one_message inputs.message a b is_a is_b in
    one d a t u x y is_d.4 made (rw (same_book, same_bytes) made')
of_message_once P one inputs t u x y (ended d a is_d is_a made) (no_dictionary why none refuses) = absurd (dictionary_or_not inputs.first d why is_d none)
of_message_once P one inputs t u x y (ended d a is_d is_a made) (no_message e recorded is_e none refuses) = absurd (message_or_not inputs.message a recorded is_a none)
of_message_once P one inputs t u x y (no_dictionary why none refuses) (ended e b is_e is_b made) = absurd (dictionary_or_not inputs.first e why is_e none)
of_message_once P one inputs t u x y (no_dictionary why none refuses) (no_dictionary why' none' refuses') =
    refused_once (dictionary_line 1 why) (dictionary_line 1 why') t u x y (ap (dictionary_line 1) (one_reason_for_dictionary inputs.first why why' none none')) refuses refuses'
of_message_once P one inputs t u x y (no_dictionary why none refuses) (no_message e recorded is_e none' refuses') = absurd (dictionary_or_not inputs.first e why is_e none)
of_message_once P one inputs t u x y (no_message d recorded is_d none refuses) (ended e b is_e is_b made) = absurd (message_or_not inputs.message b recorded is_b none)
of_message_once P one inputs t u x y (no_message d recorded is_d none refuses) (no_dictionary why none' refuses') = absurd (dictionary_or_not inputs.first d why is_d none')
of_message_once P one inputs t u x y (no_message d recorded is_d none refuses) (no_message e recorded' is_e none' refuses') =
    refused_once recorded recorded' t u x y (one_message_reason inputs.message recorded recorded' none none') refuses refuses'

verdict_once : (d : Dictionary) (answer : Result Selected Refusal) (t u : List ℕ) (x y : Exit) → IsVerdict d answer t x → IsVerdict d answer u y → Same t u x y
verdict_once d (Ok found) t u x y (c, is_c, is_t, is_x) (e, is_e, is_u, is_y) =
    (is_t ∙ ap (λ (k : PlainDefinition). line (codes "valid " ++ k.name)) (same_Some c e (sym is_c ∙ is_e)) ∙ sym is_u, is_x ∙ sym is_y)
verdict_once d (Err (refusal.Fault f)) t u x y (is_t, is_x) (is_u, is_y) = (is_t ∙ sym is_u, is_x ∙ sym is_y)
verdict_once d (Err refusal.Truncated) t u x y (is_t, is_x) (is_u, is_y) = (is_t ∙ sym is_u, is_x ∙ sym is_y)
verdict_once d (Err refusal.Trailing) t u x y (is_t, is_x) (is_u, is_y) = (is_t ∙ sym is_u, is_x ∙ sym is_y)
verdict_once d (Err refusal.NoMemory) t u x y h k = absurd h
verdict_once d (Err refusal.Spent) t u x y h k = absurd h

-- an answer with a verdict doesn't say that memory was refused
is_known : (d : Dictionary) (answer : Result Selected Refusal) (t : List ℕ) (x : Exit) → IsVerdict d answer t x → answer ≢ Err refusal.NoMemory
is_known d answer t x h none = subst (λ (a : Result Selected Refusal). IsVerdict d a t x) none h

pub judged_once : (policy : Unknown) (most : Levels) → HasOne (IsJudged policy most)
judged_once policy most d bytes t u x y sound (a, is_a, verdict) (b, is_b, verdict') =
    let same : a ≡ b = one_answer d policy most bytes a b sound is_a is_b (is_known d a t x verdict) (is_known d b u y verdict') in
    verdict_once d a t u x y verdict (subst (λ (r : Result Selected Refusal). IsVerdict d r u y) (sym same) verdict')

render_once : (inputs : Inputs) (t u : List ℕ) (x y : Exit) → IsRenderOutcome inputs t x → IsRenderOutcome inputs u y → Same t u x y
render_once inputs t u x y (rendered s is_s is_t is_x) (rendered r is_r is_u is_y) = (is_t ∙ ap canonical (one_source_text inputs.first s r is_s is_r) ∙ sym is_u, is_x ∙ sym is_y)
render_once inputs t u x y (rendered s is_s is_t is_x) (no_source why none refuses) = absurd (source_or_not inputs.first s why is_s none)
render_once inputs t u x y (no_source why none refuses) (rendered r is_r is_u is_y) = absurd (source_or_not inputs.first r why is_r none)
render_once inputs t u x y (no_source why none refuses) (no_source why' none' refuses') =
    refused_once (dictionary_line 1 why) (dictionary_line 1 why') t u x y (ap (dictionary_line 1) (one_reason inputs.first why why' none none')) refuses refuses'

pub one_outcome : (c : Command) (inputs : Inputs) (t u : List ℕ) (x y : Exit) → IsOutcome c inputs t x → IsOutcome c inputs u y → (t ≡ u) × (x ≡ y)
one_outcome command.Show inputs t u x y first second = of_message_once IsMessageShown (λ d bytes t u x y sound. written_once IsPlainRow plain_writes_one d bytes t u x y) inputs t u x y first second
one_outcome (command.Check policy most) inputs t u x y first second = of_message_once (IsJudged policy most) (judged_once policy most) inputs t u x y first second
one_outcome command.Render inputs t u x y first second = render_once inputs t u x y first second
one_outcome (command.Compare policy) inputs t u x y first second = compare_once policy inputs t u x y first second
one_outcome (command.Refute policy most) inputs t u x y first second = refute_once policy most inputs t u x y first second
one_outcome (command.Propose policy names) inputs t u x y first second = propose_once policy (map (λ name. string_bytes name) names.items) inputs t u x y first second
