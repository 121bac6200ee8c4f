-- For its inputs `show` writes one text, and so it does for a text of lines.
use Rattle.std.proofs.Common.{◌≡◌, ℕ, ◌<◌, Bool, List, [], length, refl, sym, ap, subst, ◌∙◌, arith, inl, inr}
use Rattle.std.specs.Prelude.{◌⊎◌, if◌then◌else◌}
use Rattle.std.specs.Str.{IsUtf8}
use Rattle.std.proofs.lemmas.Option.{same_Some}
use Rattle.dia_dict.specs.Dictionary.{Dictionary}
use Rattle.dia_io.specs.declared.Exit.{Exit}
use Rattle.dia_io.specs.declared.Exit.TheVariants as exits
use Rattle.dia_io.specs.declared.Input.{Input}
use Rattle.dia_io.specs.declared.Input.TheVariants.{Bytes, TooLong}
use Rattle.dia_io.specs.declared.Inputs.{Inputs}
use Rattle.dia_io.specs.Inputs.{Holds, IsOver}
use Rattle.dia_streams.specs.Lines.{IsLineInput, LineHasOneAnswer, recorded_lines}
use Rattle.dia_streams.proofs.OneAnswer.{text_once}
use Rattle.dia_terms.specs.Limits.{max_message_text}
use Rattle.dia_report.specs.Refusals.{dictionary_line}
use Rattle.dia_run.specs.Texts.{IsMessageText, IsNoMessageText, too_long, not_hexadecimal}
use Rattle.dia_run.proofs.OneInput.{Same, refused_once, one_dictionary, dictionary_or_not, one_reason_for_dictionary, one_message, message_or_not, one_message_reason, held_once, not_over}
use Rattle.dia_run.proofs.OneMessage.{written_once}
use Rattle.dia_show.specs.declared.reading.BadValues.{BadValues}
use Rattle.dia_show.specs.declared.reading.BadValues.TheVariants as bads
use Rattle.dia_show.specs.declared.words.ValuesFault.{ValuesFault}
use Rattle.dia_show.specs.declared.words.ValuesFault.TheVariants as fault
use Rattle.dia_show.specs.Lines.{Answer, IsLinesOutcome, OfLine, RefusesInputs, each_whole, numbered, refused as refused_input, shown as all_shown}
use Rattle.dia_show.specs.Listing.{IsNamedRow}
use Rattle.dia_show.specs.Outcome.{IsNamedOutcome, IsShown, shown, no_dictionary, no_values, no_message}
use Rattle.dia_show.specs.Words.{HasFault, IsNoValuesText, IsValuesText, Word, max_values, values_fault, values_line, words_of}
use Rattle.dia_show.proofs.OneShown.{one_row}
use Rattle.dia_show.proofs.ShownLines.{values_or_not}

-- ---- the words of values

one_words : (input : Input) (words others : List Word) → IsValuesText input words → IsValuesText input others → words ≡ others
one_words input words others (text, held, utf8, fine, is) (other, held', utf8', fine', is') =
    is ∙ ap words_of (held_once input max_values text other held held') ∙ sym is'

-- what is told of a fault
abbrev fault_line : ValuesFault → List ℕ
fault_line (fault.Syntax n) = values_line (bads.Syntax n)
fault_line (fault.Duplicate n) = values_line (bads.Duplicate n)
fault_line (fault.Limit n) = values_line (bads.Limit n)
fault_line fault.NoMemory = []

-- why a text is none of words, and what is told of it
abbrev IsRefusedWith : Input → List ℕ → Type 0
IsRefusedWith input recorded = (IsOver input max_values × (recorded ≡ values_line bads.TooLong))
    ⊎ (((text : List ℕ) × Holds input max_values text × (¬ IsUtf8 text) × (recorded ≡ values_line (bads.NotText 0)))
    ⊎ ((f : ValuesFault) × HasFault input f × (recorded ≡ fault_line f)))

refused_with : (input : Input) (bad : BadValues) → IsNoValuesText input bad → IsRefusedWith input (values_line bad)
refused_with input bads.TooLong over = inl (over, refl)
refused_with input (bads.NotText at) (text, held, lacks, there) = inr (inl (text, held, lacks, refl))
refused_with input (bads.Syntax n) has = inr (inr (fault.Syntax n, has, refl))
refused_with input (bads.Duplicate n) has = inr (inr (fault.Duplicate n, has, refl))
refused_with input (bads.Limit n) has = inr (inr (fault.Limit n, has, refl))

one_fault_of : (input : Input) (f g : ValuesFault) → HasFault input f → HasFault input g → f ≡ g
one_fault_of input f g (text, held, utf8, is) (other, held', utf8', is') =
    same_Some f g (sym is ∙ ap values_fault (held_once input max_values text other held held') ∙ is')

recorded_once : (input : Input) (a b : List ℕ) → IsRefusedWith input a → IsRefusedWith input b → a ≡ b
recorded_once input a b (inl (over, is)) (inl (over', is')) = is ∙ sym is'
recorded_once input a b (inl (over, is)) (inr (inl (text, held, lacks, is'))) = absurd (not_over input max_values text held over)
recorded_once input a b (inl (over, is)) (inr (inr (f, (text, held, utf8, wrong), is'))) = absurd (not_over input max_values text held over)
recorded_once input a b (inr (inl (text, held, lacks, is))) (inl (over, is')) = absurd (not_over input max_values text held over)
recorded_once input a b (inr (inl (text, held, lacks, is))) (inr (inl (other, held', lacks', is'))) = is ∙ sym is'
recorded_once input a b (inr (inl (text, held, lacks, is))) (inr (inr (f, (other, held', utf8, wrong), is'))) = absurd (lacks (subst IsUtf8 (held_once input max_values other text held' held) utf8))
recorded_once input a b (inr (inr (f, (text, held, utf8, wrong), is))) (inl (over, is')) = absurd (not_over input max_values text held over)
recorded_once input a b (inr (inr (f, (text, held, utf8, wrong), is))) (inr (inl (other, held', lacks, is'))) = absurd (lacks (subst IsUtf8 (held_once input max_values text other held held') utf8))
recorded_once input a b (inr (inr (f, has, is))) (inr (inr (g, has', is'))) = is ∙ ap fault_line (one_fault_of input f g has has') ∙ sym is'

one_bad : (input : Input) (bad other : BadValues) → IsNoValuesText input bad → IsNoValuesText input other → values_line bad ≡ values_line other
one_bad input bad other h k = recorded_once input (values_line bad) (values_line other) (refused_with input bad h) (refused_with input other k)

-- ---- the inputs

pub one_named : (names : Bool) (inputs : Inputs) (t u : List ℕ) (x y : Exit) → IsNamedOutcome names inputs t x → IsNamedOutcome names inputs u y → Same t u x y
one_named names inputs t u x y (shown d words bytes is_d are is h) (shown e others other is_e are' is' k) =
    written_once (IsNamedRow (record { words = words; names = names })) (one_row (record { words = words; names = names })) d bytes t u x y h
    (subst (λ (b : List ℕ). IsShown (record { words = words; names = names }) d b u y) (sym (one_message inputs.message bytes other is is'))
    (subst (λ (w : List Word). IsShown (record { words = w; names = names }) d other u y) (sym (one_words inputs.table words others are are'))
    (subst (λ (c : Dictionary). IsShown (record { words = others; names = names }) c other u y) (sym (one_dictionary inputs.first d e is_d is_e)) k)))
one_named names inputs t u x y (shown d words bytes is_d are is h) (no_dictionary why none recorded) = absurd (dictionary_or_not inputs.first d why is_d none)
one_named names inputs t u x y (shown d words bytes is_d are is h) (no_values e bad is_e none recorded) = absurd (values_or_not inputs.table words bad are none)
one_named names inputs t u x y (shown d words bytes is_d are is h) (no_message e others why is_e are' none recorded) = absurd (message_or_not inputs.message bytes why is none)
one_named names inputs t u x y (no_dictionary why none recorded) (shown e others other is_e are' is' k) = absurd (dictionary_or_not inputs.first e why is_e none)
one_named names inputs t u x y (no_dictionary why none recorded) (no_dictionary why' none' recorded') =
    refused_once (dictionary_line 1 why) (dictionary_line 1 why') t u x y (ap (dictionary_line 1) (one_reason_for_dictionary inputs.first why why' none none')) recorded recorded'
one_named names inputs t u x y (no_dictionary why none recorded) (no_values e bad is_e none' recorded') = absurd (dictionary_or_not inputs.first e why is_e none)
one_named names inputs t u x y (no_dictionary why none recorded) (no_message e others why' is_e are' none' recorded') = absurd (dictionary_or_not inputs.first e why is_e none)
one_named names inputs t u x y (no_values d bad is_d none recorded) (shown e others other is_e are' is' k) = absurd (values_or_not inputs.table others bad are' none)
one_named names inputs t u x y (no_values d bad is_d none recorded) (no_dictionary why none' recorded') = absurd (dictionary_or_not inputs.first d why is_d none')
one_named names inputs t u x y (no_values d bad is_d none recorded) (no_values e bad' is_e none' recorded') =
    refused_once (values_line bad) (values_line bad') t u x y (one_bad inputs.table bad bad' none none') recorded recorded'
one_named names inputs t u x y (no_values d bad is_d none recorded) (no_message e others why is_e are' none' recorded') = absurd (values_or_not inputs.table others bad are' none)
one_named names inputs t u x y (no_message d words why is_d are none recorded) (shown e others other is_e are' is' k) = absurd (message_or_not inputs.message other why is' none)
one_named names inputs t u x y (no_message d words why is_d are none recorded) (no_dictionary why' none' recorded') = absurd (dictionary_or_not inputs.first d why' is_d none')
one_named names inputs t u x y (no_message d words why is_d are none recorded) (no_values e bad is_e none' recorded') = absurd (values_or_not inputs.table words bad are none')
one_named names inputs t u x y (no_message d words why is_d are none recorded) (no_message e others why' is_e are' none' recorded') =
    refused_once why why' t u x y (one_message_reason inputs.message why why' none none') recorded recorded'

-- ---- a line is one input

text_of : (a b : Input) (bytes message : List ℕ) → IsLineInput a bytes → IsLineInput b bytes → IsMessageText a message → IsMessageText b message
text_of (Bytes v) (Bytes w) bytes message h k (text, held, spells) = (text, (k.0 ∙ sym h.0 ∙ held.0, held.1), spells)
text_of (Bytes v) TooLong bytes message h k (text, held, spells) = absurd (omega (arith, h.1, k))
text_of TooLong b bytes message h k (text, held, spells) = absurd held

none_of : (a b : Input) (bytes recorded : List ℕ) → IsLineInput a bytes → IsLineInput b bytes → IsNoMessageText a recorded → IsNoMessageText b recorded
none_of (Bytes v) (Bytes w) bytes recorded h k (too_long over is) = too_long (subst (λ (x : List ℕ). max_message_text < length x) (h.0 ∙ sym k.0) over) is
none_of (Bytes v) (Bytes w) bytes recorded h k (not_hexadecimal text held none is) = not_hexadecimal text (k.0 ∙ sym h.0 ∙ held.0, held.1) none is
none_of (Bytes v) TooLong bytes recorded h k none = absurd (omega (arith, h.1, k))
none_of TooLong (Bytes w) bytes recorded h k none = absurd (omega (arith, h, k.1))
none_of TooLong TooLong bytes recorded h k none = none

same_input : (names : Bool) (inputs : Inputs) (a b : Input) (bytes : List ℕ) (answer : Answer) → IsLineInput a bytes → IsLineInput b bytes → OfLine names inputs a answer → OfLine names inputs b answer
same_input names inputs a b bytes answer h k (shown d words message is_d are is recorded) = shown d words message is_d are (text_of a b bytes message h k is) recorded
same_input names inputs a b bytes answer h k (no_dictionary why none recorded) = no_dictionary why none recorded
same_input names inputs a b bytes answer h k (no_values d bad is_d none recorded) = no_values d bad is_d none recorded
same_input names inputs a b bytes answer h k (no_message d words why is_d are none recorded) = no_message d words why is_d are (none_of a b bytes why h k none) recorded

same_answer : (a b : Answer) → Same a.0 b.0 a.1 b.1 → a ≡ b
same_answer (t, x) (u, y) (same_text, same_exit) = ap (λ (s : List ℕ). (s, x)) same_text ∙ ap (λ (e : Exit). (u, e)) same_exit

pub one_answer : (names : Bool) (inputs : Inputs) → LineHasOneAnswer (OfLine names inputs)
one_answer names inputs bytes a b answer other h k is is' =
    let same = one_named names (record { first = inputs.first; second = inputs.second; table = inputs.table; message = b }) answer.0 other.0 answer.1 other.1
    (same_input names inputs a b bytes answer h k is) is' in
    same_answer answer other same

-- ---- a text of lines

one_refusal : (inputs : Inputs) (a b : List ℕ) → RefusesInputs inputs a → RefusesInputs inputs b → a ≡ b
one_refusal inputs a b (inl (why, none, is)) (inl (why', none', is')) = is ∙ ap (dictionary_line 1) (one_reason_for_dictionary inputs.first why why' none none') ∙ sym is'
one_refusal inputs a b (inl (why, none, is)) (inr (e, bad, is_e, none', is')) = absurd (dictionary_or_not inputs.first e why is_e none)
one_refusal inputs a b (inr (d, bad, is_d, none, is)) (inl (why, none', is')) = absurd (dictionary_or_not inputs.first d why is_d none')
one_refusal inputs a b (inr (d, bad, is_d, none, is)) (inr (e, bad', is_e, none', is')) = is ∙ one_bad inputs.table bad bad' none none' ∙ sym is'

pub one_text : (names : Bool) (inputs : Inputs) (bytes t u : List ℕ) (x y : Exit) → IsLinesOutcome names inputs bytes t x → IsLinesOutcome names inputs bytes u y → Same t u x y
one_text names inputs bytes t u x y (all_shown answers sound h is_t is_x) (all_shown others sound' k is_u is_y) =
    let same = text_once (OfLine names inputs) (one_answer names inputs) bytes answers others h k in (
      is_t ∙ ap (λ (a : List Answer). recorded_lines numbered a) same ∙ sym is_u,
      is_x ∙ ap (λ (a : List Answer). if each_whole a then exits.Yes else exits.No) same ∙ sym is_y,
    )
one_text names inputs bytes t u x y (all_shown answers sound h is_t is_x) (refused_input recorded refuses is_u) = absurd (sound recorded refuses)
one_text names inputs bytes t u x y (refused_input recorded refuses is_t) (all_shown answers sound h is_u is_y) = absurd (sound recorded refuses)
one_text names inputs bytes t u x y (refused_input recorded refuses is_t) (refused_input recorded' refuses' is_u) = refused_once recorded recorded' t u x y (one_refusal inputs recorded recorded' refuses refuses') is_t is_u
