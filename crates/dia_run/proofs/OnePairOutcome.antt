-- A command of two dictionaries has one text and one end for its inputs.
use Rattle.std.proofs.Common.{◌≡◌, ℕ, zero, suc, ◌<◌, List, [], ◌∷◌, ◌++◌, take, sym, ap, subst, ◌∙◌, arith, codes, inl, inr, Some}
use Rattle.std.specs.Prelude.{◌⊎◌, Contains, slice_get}
use Rattle.std.proofs.lemmas.Bool.{cases_order}
use Rattle.std.proofs.lemmas.Option.{none-some, same_Some}
use Rattle.std.proofs.lemmas.List.Elements.{Contains-push_cases}
use Rattle.dia_dict.specs.Dictionary.{Dictionary, IsDictionary, PlainDefinition}
use Rattle.dia_check.specs.declared.Unknown.{Unknown}
use Rattle.dia_check.specs.declared.Levels.{Levels}
use Rattle.dia_compat.specs.declared.Answer.{Answer}
use Rattle.dia_compat.specs.declared.Answer.TheVariants as answer
use Rattle.dia_compat.specs.declared.PairKind.TheVariants as pair
use Rattle.dia_compat.specs.declared.Test.{Test}
use Rattle.dia_compat.specs.TableText.{PlainTable, IsTable}
use Rattle.dia_compat.specs.Closed.{NamesCommand}
use Rattle.dia_compat.specs.Proposed.{AreCommandPairs, IsProposal, IsFirstUnknown}
use Rattle.dia_compat.specs.WrittenTable.{table_text}
use Rattle.dia_valid.proofs.Members.{IsIn, contains_in}
use Rattle.dia_compat.proofs.TableLines.{one_table_of, one_fault, fault_or_table}
use Rattle.dia_compat.proofs.OneAnswer.{one_comparison}
use Rattle.dia_compat.proofs.OneProposal.{one_proposal}
use Rattle.std.specs.Str.Lines.{lines}
use Rattle.dia_io.specs.declared.Input.{Input}
use Rattle.dia_io.specs.declared.Inputs.{Inputs}
use Rattle.dia_io.specs.declared.Exit.{Exit}
use Rattle.dia_report.specs.Refusals.{dictionary_line, table_line}
use Rattle.dia_compat.specs.TableText.{max_table}
use Rattle.dia_run.specs.Pairs.{IsTableText, IsNoTableText, too_long, not_text, fault, table_fault_text, IsFailureText, failure_line, IsAnswerText}
use Rattle.dia_run.specs.Outcome.{IsPairOutcome, ended, no_first, no_second, IsComparison, compared, no_table, IsCompareOutcome, IsRefutation, refutes, does_not, no_message, IsRefuteOutcome}
use Rattle.dia_run.specs.Outcome.{IsProposed, proposed, no_command, no_command_line, IsProposeOutcome}
use Rattle.dia_run.proofs.OneInput.{Same, refused_once, held_once, not_over, one_dictionary, dictionary_or_not, one_reason_for_dictionary, one_message, message_or_not, one_message_reason}

-- an end of two dictionaries is one
abbrev HasOneOfPair : (Dictionary → Dictionary → List ℕ → Exit → Type 0) → Type 0
HasOneOfPair P = (a b : Dictionary) (t u : List ℕ) (x y : Exit) → IsDictionary a → IsDictionary b → P a b t x → P a b u y → Same t u x y

of_pair_once : (P : Dictionary → Dictionary → List ℕ → Exit → Type 0) → HasOneOfPair P → (inputs : Inputs) (t u : List ℕ) (x y : Exit) → IsPairOutcome P inputs t x → IsPairOutcome P inputs u y
    → Same t u x y
of_pair_once P one inputs t u x y (ended a b is_a is_b made) (ended c d is_c is_d made') =
    let same_first = one_dictionary inputs.first a c is_a is_c in
    let same_second = one_dictionary inputs.second b d is_b is_d in
    one a b t u x y is_a.4 is_b.4 made (rw (same_first, same_second) made')
of_pair_once P one inputs t u x y (ended a b is_a is_b made) (no_first why none refuses) = absurd (dictionary_or_not inputs.first a why is_a none)
of_pair_once P one inputs t u x y (ended a b is_a is_b made) (no_second c why is_c none refuses) = absurd (dictionary_or_not inputs.second b why is_b none)
of_pair_once P one inputs t u x y (no_first why none refuses) (ended c d is_c is_d made) = absurd (dictionary_or_not inputs.first c why is_c none)
of_pair_once P one inputs t u x y (no_first why none refuses) (no_first why' none' refuses') =
    refused_once (dictionary_line 1 why) (dictionary_line 1 why') t u x y (ap (dictionary_line 1) (one_reason_for_dictionary inputs.first why why' none none')) refuses refuses'
of_pair_once P one inputs t u x y (no_first why none refuses) (no_second c why' is_c none' refuses') = absurd (dictionary_or_not inputs.first c why is_c none)
of_pair_once P one inputs t u x y (no_second a why is_a none refuses) (ended c d is_c is_d made) = absurd (dictionary_or_not inputs.second d why is_d none)
of_pair_once P one inputs t u x y (no_second a why is_a none refuses) (no_first why' none' refuses') = absurd (dictionary_or_not inputs.first a why' is_a none')
of_pair_once P one inputs t u x y (no_second a why is_a none refuses) (no_second c why' is_c none' refuses') =
    refused_once (dictionary_line 2 why) (dictionary_line 2 why') t u x y (ap (dictionary_line 2) (one_reason_for_dictionary inputs.second why why' none none')) refuses refuses'

-- ---- tables

one_table_text : (input : Input) (s t : PlainTable) → IsTableText input s → IsTableText input t → s ≡ t
one_table_text input s t (a, held, utf8, is_s) (b, held', utf8', is_t) =
    one_table_of (lines a) s t is_s (subst (λ (text : List ℕ). IsTable text t) (sym (held_once input max_table a b held held')) is_t)

table_or_not : (input : Input) (t : PlainTable) (recorded : List ℕ) → IsTableText input t → IsNoTableText input recorded → ⊥
table_or_not input t recorded (a, held, utf8, is_t) (too_long over is_recorded) = not_over input max_table a held over
table_or_not input t recorded (a, held, utf8, is_t) (not_text b held' no_utf8 is_recorded) = no_utf8 (rw (held_once input max_table b a held' held) utf8)
table_or_not input t recorded (a, held, utf8, is_t) (fault b f held' utf8' is_fault no_memory is_recorded) =
    fault_or_table b f t is_fault no_memory (rw (held_once input max_table b a held' held) is_t)

one_table_reason : (input : Input) (m n : List ℕ) → IsNoTableText input m → IsNoTableText input n → m ≡ n
one_table_reason input m n (too_long over is_m) (too_long over' is_n) = is_m ∙ sym is_n
one_table_reason input m n (too_long over is_m) (not_text b held no_utf8 is_n) = absurd (not_over input max_table b held over)
one_table_reason input m n (too_long over is_m) (fault b f held utf8 is_fault no_memory is_n) = absurd (not_over input max_table b held over)
one_table_reason input m n (not_text a held no_utf8 is_m) (too_long over is_n) = absurd (not_over input max_table a held over)
one_table_reason input m n (not_text a held no_utf8 is_m) (not_text b held' no_utf8' is_n) = is_m ∙ sym is_n
one_table_reason input m n (not_text a held no_utf8 is_m) (fault b f held' utf8 is_fault no_memory is_n) = absurd (no_utf8 (rw (held_once input max_table a b held held') utf8))
one_table_reason input m n (fault a f held utf8 is_fault no_memory is_m) (too_long over is_n) = absurd (not_over input max_table a held over)
one_table_reason input m n (fault a f held utf8 is_fault no_memory is_m) (not_text b held' no_utf8 is_n) = absurd (no_utf8 (rw (held_once input max_table b a held' held) utf8))
one_table_reason input m n (fault a f held utf8 is_fault no_memory is_m) (fault b g held' utf8' is_fault' no_memory' is_n) =
    is_m ∙ ap (λ k. table_line (table_fault_text k)) (one_fault a f g is_fault (rw (held_once input max_table a b held held') is_fault') no_memory no_memory') ∙ sym is_n

-- ---- `compare`

failure_once : (word : List ℕ) (pairs : List (List ℕ × List ℕ)) (i : ℕ) (test : Test) (t u : List ℕ) (x y : Exit) → IsFailureText word pairs i test t x → IsFailureText word pairs i test u y
    → Same t u x y
failure_once word pairs i test t u x y (p, is_p, is_t, is_x) (q, is_q, is_u, is_y) =
    (is_t ∙ ap (λ (r : List ℕ × List ℕ). failure_line word r test) (same_Some p q (sym is_p ∙ is_q)) ∙ sym is_u, is_x ∙ sym is_y)

answer_once : (table : PlainTable) (answer : Answer) (t u : List ℕ) (x y : Exit) → IsAnswerText table answer t x → IsAnswerText table answer u y → Same t u x y
answer_once table answer.Yes t u x y (is_t, is_x) (is_u, is_y) = (is_t ∙ sym is_u, is_x ∙ sym is_y)
answer_once table (answer.No pair.Command i test) t u x y first second = failure_once (codes "command") table.commands i test t u x y first second
answer_once table (answer.No pair.Avp i test) t u x y first second = failure_once (codes "avp") table.avps i test t u x y first second

comparison_once : (policy : Unknown) (input : Input) → HasOneOfPair (IsComparison policy input)
comparison_once policy input a b t u x y sa sb (compared s answer is_s is_answer recorded) (compared r other is_r is_other recorded') =
    let same_table = one_table_text input s r is_s is_r in
    let same_answer = one_comparison a b policy s answer other is_answer (rw same_table is_other) in
    answer_once s answer t u x y recorded (rw (same_table, same_answer) recorded')
comparison_once policy input a b t u x y sa sb (compared s answer is_s is_answer recorded) (no_table why none refuses) = absurd (table_or_not input s why is_s none)
comparison_once policy input a b t u x y sa sb (no_table why none refuses) (compared r other is_r is_other recorded') = absurd (table_or_not input r why is_r none)
comparison_once policy input a b t u x y sa sb (no_table why none refuses) (no_table why' none' refuses') = refused_once why why' t u x y (one_table_reason input why why' none none') refuses refuses'

pub compare_once : (policy : Unknown) (inputs : Inputs) (t u : List ℕ) (x y : Exit) → IsCompareOutcome policy inputs t x → IsCompareOutcome policy inputs u y → Same t u x y
compare_once policy inputs = of_pair_once (IsComparison policy inputs.table) (comparison_once policy inputs.table) inputs

-- ---- `refute`

refuted_once : (policy : Unknown) (most : Levels) (input : Input) → HasOneOfPair (IsRefutation policy most input)
refuted_once policy most input a b t u x y sa sb (refutes m is_m holds is_t is_x) (refutes n is_n holds' is_u is_y) = (is_t ∙ sym is_u, is_x ∙ sym is_y)
refuted_once policy most input a b t u x y sa sb (refutes m is_m holds is_t is_x) (does_not n is_n fails is_u is_y) = absurd (fails (rw (one_message input n m is_n is_m) holds))
refuted_once policy most input a b t u x y sa sb (refutes m is_m holds is_t is_x) (no_message recorded none refuses) = absurd (message_or_not input m recorded is_m none)
refuted_once policy most input a b t u x y sa sb (does_not m is_m fails is_t is_x) (refutes n is_n holds is_u is_y) = absurd (fails (rw (one_message input m n is_m is_n) holds))
refuted_once policy most input a b t u x y sa sb (does_not m is_m fails is_t is_x) (does_not n is_n fails' is_u is_y) = (is_t ∙ sym is_u, is_x ∙ sym is_y)
refuted_once policy most input a b t u x y sa sb (does_not m is_m fails is_t is_x) (no_message recorded none refuses) = absurd (message_or_not input m recorded is_m none)
refuted_once policy most input a b t u x y sa sb (no_message recorded none refuses) (refutes n is_n holds is_u is_y) = absurd (message_or_not input n recorded is_n none)
refuted_once policy most input a b t u x y sa sb (no_message recorded none refuses) (does_not n is_n fails is_u is_y) = absurd (message_or_not input n recorded is_n none)
refuted_once policy most input a b t u x y sa sb (no_message recorded none refuses) (no_message recorded' none' refuses') =
    refused_once recorded recorded' t u x y (one_message_reason input recorded recorded' none none') refuses refuses'

pub refute_once : (policy : Unknown) (most : Levels) (inputs : Inputs) (t u : List ℕ) (x y : Exit) → IsRefuteOutcome policy most inputs t x → IsRefuteOutcome policy most inputs u y → Same t u x y
refute_once policy most inputs = of_pair_once (IsRefutation policy most inputs.message) (refuted_once policy most inputs.message) inputs

-- ---- `propose`

abbrev IsKnown : Dictionary → List ℕ → Type 0
IsKnown d name = (c : PlainDefinition) × NamesCommand d name c

-- where there are pairs for the names, each is that of a command
known_at : (a b : Dictionary) (names earlier : List (List ℕ)) (pairs : List (List ℕ × List ℕ)) → ((name : List ℕ) → Contains earlier name → IsKnown a name) → AreCommandPairs a b earlier names pairs
    → (i : ℕ) (name : List ℕ) → slice_get names i ≡ Some name → IsKnown a name
known_at a b [] earlier pairs before are i name at = absurd (none-some name at)
known_at a b (n ∷ names) earlier pairs before (inl (again, rest)) zero name at = subst (IsKnown a) (same_Some n name at) (before n again)
known_at a b (n ∷ names) earlier pairs before (inl (again, rest)) (suc i) name at = known_at a b names earlier pairs before rest i name at
known_at a b (n ∷ names) earlier pairs before (inr (fresh, c, beside, more, is, are, parts, rest)) zero name at = subst (IsKnown a) (same_Some n name at) (c, is)
known_at a b (n ∷ names) earlier pairs before (inr (fresh, c, beside, more, is, are, parts, rest)) (suc i) name at = known_at a b names (earlier ++ n ∷ []) more known rest i name at
  where
    by : (m : List ℕ) → Contains earlier m ⊎ (n ≡ m) → IsKnown a m
    by m (inl h) = before m h
    by m (inr e) = subst (IsKnown a) e (c, is)

    known : (m : List ℕ) → Contains (earlier ++ n ∷ []) m → IsKnown a m
    known m h = by m (Contains-push_cases earlier n m h)

proposal_or_not : (policy : Unknown) (names : List (List ℕ)) (a b : Dictionary) (table : PlainTable) (name : List ℕ) → IsProposal a b policy names table → IsFirstUnknown a names name → ⊥
proposal_or_not policy names a b table name is first =
    let known = known_at a b names [] table.commands (λ n h. absurd (omega (arith, h.1))) is.commands first.place name first.is_name in
    first.unknown known.0 known.1

-- an item stands in each front that is longer than its place
in_front : (names : List (List ℕ)) (i n : ℕ) (name : List ℕ) → slice_get names i ≡ Some name → i < n → IsIn name (take n names)
in_front [] i n name at less = absurd (none-some name at)
in_front (m ∷ names) i zero name at less = absurd (omega (arith, less))
in_front (m ∷ names) zero (suc n) name at less = inl (sym (same_Some m name at))
in_front (m ∷ names) (suc i) (suc n) name at less = inr (in_front names i n name at (omega (arith, less)))

no_earlier : (a : Dictionary) (names : List (List ℕ)) (m n : List ℕ) (first : IsFirstUnknown a names m) (second : IsFirstUnknown a names n) → first.place < second.place → ⊥
no_earlier a names m n first second less =
    let known = second.before m (contains_in (take second.place names) m (in_front names first.place second.place m first.is_name less)) in
    first.unknown known.0 known.1

one_unknown : (a : Dictionary) (names : List (List ℕ)) (m n : List ℕ) → IsFirstUnknown a names m → IsFirstUnknown a names n → m ≡ n
one_unknown a names m n first second = by (cases_order first.place second.place)
  where
    by : (first.place ≡ second.place) ⊎ ((first.place < second.place) ⊎ (second.place < first.place)) → m ≡ n
    by (inl same) = same_Some m n (sym first.is_name ∙ ap (slice_get names) same ∙ second.is_name)
    by (inr (inl less)) = absurd (no_earlier a names m n first second less)
    by (inr (inr more)) = absurd (no_earlier a names n m second first more)

proposed_once : (policy : Unknown) (names : List (List ℕ)) → HasOneOfPair (IsProposed policy names)
proposed_once policy names a b t u x y sa sb (proposed s is_s is_t is_x) (proposed r is_r is_u is_y) =
    (is_t ∙ ap table_text (one_proposal a b sa sb policy names s r is_s is_r) ∙ sym is_u, is_x ∙ sym is_y)
proposed_once policy names a b t u x y sa sb (proposed s is_s is_t is_x) (no_command name first refuses) = absurd (proposal_or_not policy names a b s name is_s first)
proposed_once policy names a b t u x y sa sb (no_command name first refuses) (proposed r is_r is_u is_y) = absurd (proposal_or_not policy names a b r name is_r first)
proposed_once policy names a b t u x y sa sb (no_command name first refuses) (no_command name' first' refuses') =
    refused_once (no_command_line name) (no_command_line name') t u x y (ap no_command_line (one_unknown a names name name' first first')) refuses refuses'

pub propose_once : (policy : Unknown) (names : List (List ℕ)) (inputs : Inputs) (t u : List ℕ) (x y : Exit) → IsProposeOutcome policy names inputs t x → IsProposeOutcome policy names inputs u y
    → Same t u x y
propose_once policy names inputs = of_pair_once (IsProposed policy names) (proposed_once policy names) inputs
