-- How `breaking` ends.
use Rattle.std.proofs.Common.{◌≡◌, ℕ, false, true, List, [], ◌++◌, length, Some, None, refl, sym, ap, subst, ◌∙◌, arith}
use Rattle.std.specs.Prelude.{◌↔◌, Contains, IfSome, IsNone, Option}
use Rattle.std.specs.Global.{Vec}
use Rattle.std.specs.Str.{IsUtf8}
use Rattle.std.proofs.lemmas.List.{append-nil}
use Rattle.std.proofs.lemmas.List.Elements.{All-contains}
use Rattle.dia_book.specs.Dictionary.{Dictionary, PlainDefinition}
use Rattle.dia_breaking_sites.proofs.Members.{in_at, contains_in}
use Rattle.dia_compat.specs.Closed.{NamesCommand}
use Rattle.dia_compat.specs.Proposed.{IsFirstUnknown}
use Rattle.dia_io.specs.declared.Input.{Input}
use Rattle.dia_io.specs.declared.Input.TheVariants as inputs
use Rattle.dia_io.specs.declared.Inputs.{Inputs}
use Rattle.dia_io.specs.declared.Exit.{Exit}
use Rattle.dia_io.specs.declared.Exit.TheVariants.{Yes, No, Bad}
use Rattle.dia_io.specs.Inputs.{Holds, IsOver}
use Rattle.dia_accepted.specs.Accepted.{AreEntries, IsListFault, PlainEntry, max_list}
use Rattle.dia_accepted.proofs.Lists.{no_list_fault}
use Rattle.dia_accepted.specs.declared.Entry.{Entry}
use Rattle.dia_accepted.specs.declared.Recorded.{Recorded}
use Rattle.dia_accepted.specs.declared.ListFault.{ListFault}
use Rattle.dia_accepted.specs.declared.ListFault.TheVariants as faults
use Rattle.dia_run.specs.Texts.{IsDictionaryText, line}
use Rattle.dia_run.specs.Outcome.{ended, no_first, no_second}
use Rattle.dia_run.proofs.OneInput.{one_dictionary, dictionary_or_not}
use Rattle.dia_upgrades.specs.declared.asked.Asked.{Asked}
use Rattle.dia_upgrades.specs.declared.list.BadList.{BadList}
use Rattle.dia_upgrades.specs.declared.list.BadList.TheVariants as lists
use Rattle.dia_upgrades.specs.declared.reporting.Findings.{Findings}
use Rattle.dia_upgrades.specs.declared.reporting.Findings.TheVariants as founds
use Rattle.dia_upgrades.specs.Asking.{names_of}
use Rattle.dia_upgrades.specs.InWords.{in_words, nothing_for}
use Rattle.dia_upgrades.specs.Lists.{IsListText, IsNoListText}
use Rattle.dia_upgrades.specs.Outcome.{AreAllRecorded, AreLeft, AreRead, CanAsk, CannotAnswer, HasLines, HasNoLines, IsAnswerable, IsBreakingOutcome, IsListed, NoneIsStale, RecordsFound, counted}
use Rattle.dia_upgrades.specs.Stale.{AreStale, failing}
use Rattle.dia_upgrades.specs.Outcome.{nothing, nothing_else, lines, bad_list, no_commands, no_command}
use Rattle.dia_upgrades.specs.Outcome.{AreRefused, bad_first, bad_second, bad_accepted, none_there, bad_name, IsSafeUpgrade, safe, accepted, IsUnsafeUpgrade}
use Rattle.dia_upgrades.specs.Recorded.{answer_written}
use Rattle.dia_upgrades.specs.Rows.{Row, left_of}
use Rattle.dia_upgrades.specs.Writing.{Writing, stale_text}

-- ---- a list, or none

same_held : (input : Input) (most : ℕ) (text other : List ℕ) → Holds input most text → Holds input most other → text ≡ other
same_held (inputs.Bytes v) most text other h k = sym h.0 ∙ k.0
same_held inputs.TooLong most text other h k = absurd h

held_or_over : (input : Input) (most : ℕ) (text : List ℕ) → Holds input most text → IsOver input most → ⊥
held_or_over (inputs.Bytes v) most text h over = let same = ap length h.0 in omega (arith, h.1, over, same)
held_or_over inputs.TooLong most text h over = h

no_fault : (text other : List ℕ) (list : List PlainEntry) (fault : ListFault) → text ≡ other → AreEntries text list → IsListFault other fault → ⊥
no_fault text other list fault same are is = no_list_fault text list fault are (subst (λ (t : List ℕ). IsListFault t fault) (sym same) is)

list_or_not : (input : Input) (list : List PlainEntry) (bad : BadList) → IsListText input list → IsNoListText input bad → ⊥
list_or_not input list lists.TooLong (text, holds, utf8, are) over = held_or_over input max_list text holds over
list_or_not input list (lists.NotText at) (text, holds, utf8, are) (other, held, not_utf8, there) = not_utf8 (subst IsUtf8 (same_held input max_list text other holds held) utf8)
list_or_not input list (lists.Syntax n at) (text, holds, utf8, are) (other, held, also, fault) = no_fault text other list (faults.Syntax n at) (same_held input max_list text other holds held) are fault
list_or_not input list (lists.Limit n) (text, holds, utf8, are) (other, held, also, fault) = no_fault text other list (faults.Limit n) (same_held input max_list text other holds held) are fault

-- ---- how much is left

module _ (asked : Asked) (input : Input) (a b : Dictionary) (text : List ℕ) (exit : Exit) (is : Findings) (unused old : Vec Entry) (n known : ℕ) (causes meanings : Vec Recorded) where
  same_lines : (list : List PlainEntry) (recorded apart : List Row) (stale : List PlainEntry) → is ≡ founds.Listed unused old n known causes meanings → RecordsFound list recorded apart stale is → n ≡ counted (length (left_of list recorded))
  same_lines list recorded apart stale e f =
      let z : founds.Listed unused old n known causes meanings ≡ founds.Listed f.unused f.stale_ones f.lines f.accepted f.causes f.meanings = sym e ∙ f.is_listed in let same : n ≡ f.lines = cc in same ∙ f.lines_are

  left_by : (list : List PlainEntry) (recorded apart : List Row) (stale : List PlainEntry) → is ≡ founds.Listed unused old n known causes meanings → IsAnswerable asked input a b list recorded apart stale is → AreLeft asked input a b n
  left_by list recorded apart stale e can = (list, recorded, apart, can.list_is, can.all_recorded, same_lines list recorded apart stale e can.records)

  pub lines_are_left : IsListed in_words asked input a b text exit is → is ≡ founds.Listed unused old n known causes meanings → AreLeft asked input a b n
  lines_are_left (nothing list apart stale can breaks differs none is_text is_exit) e = left_by list [] apart stale e can
  lines_are_left (nothing_else list recorded apart stale can left some breaks none is_text is_exit) e = left_by list recorded apart stale e can
  lines_are_left (lines list recorded apart stale can left is_text is_exit) e = left_by list recorded apart stale e can
  lines_are_left (bad_list bad none refuses what) e = absurd (let z : founds.NoList bad ≡ founds.Listed unused old n known causes meanings = sym what ∙ e in cc)
  lines_are_left (no_commands list is_list none refuses what) e = absurd (let z : founds.NoCommands ≡ founds.Listed unused old n known causes meanings = sym what ∙ e in cc)
  lines_are_left (no_command list name is_list some first refuses what) e = absurd (let z : founds.NoCommand ≡ founds.Listed unused old n known causes meanings = sym what ∙ e in cc)

pub left_in : (asked : Asked) (input : Input) (a b : Dictionary) (text : List ℕ) (exit : Exit) (is : Findings) (r : Option ℕ) → IsListed in_words asked input a b text exit is
    → IfSome r (HasLines is) → IfSome r (AreLeft asked input a b)
left_in asked input a b text exit is None listed has = tt
left_in asked input a b text exit is (Some n) listed (unused, old, known, causes, meanings, e) = lines_are_left asked input a b text exit is unused old n known causes meanings listed e

-- where the lines could be told, no answer is a refusal
module _ (asked : Asked) (input : Input) (a b : Dictionary) (list : List PlainEntry) (recorded apart : List Row) (stale : List PlainEntry) (has : Findings) (can : IsAnswerable asked input a b list recorded apart stale has) where
  pub answered_or_not : (text : List ℕ) (is : Findings) → IsListed in_words asked input a b text Bad is → ⊥
  answered_or_not text is (nothing list' apart' stale' can' breaks differs none is_text is_exit) = absurd (let e : Bad ≡ Yes = is_exit in cc)
  answered_or_not text is (nothing_else list' recorded' apart' stale' can' left some breaks none is_text is_exit) = absurd (let e : Bad ≡ Yes = is_exit in cc)
  answered_or_not text is (lines list' recorded' apart' stale' can' left is_text is_exit) = absurd (let e : Bad ≡ No = is_exit in cc)
  answered_or_not text is (bad_list bad none refuses what) = list_or_not input list bad can.list_is none
  answered_or_not text is (no_commands list' is_list none refuses what) = can.can_ask.some none
  answered_or_not text is (no_command list' name is_list some first refuses what) =
      let (command, names) = All-contains (λ n. (c : PlainDefinition) × NamesCommand a n c) (names_of asked) name can.can_ask.known (contains_in (names_of asked) name (in_at (names_of asked) first.place name first.is_name)) in
      first.unknown command names

module _ (asked : Asked) (input : Input) (a b : Dictionary) (text : List ℕ) (exit : Exit) (is : Findings) where
  -- without lines it ends so
  refused_by : IsListed in_words asked input a b text exit is → HasNoLines is → CannotAnswer asked input a b
  refused_by (nothing list apart stale can breaks differs none_fails is_text is_exit) none = absurd (subst HasNoLines can.records.is_listed none)
  refused_by (nothing_else list recorded apart stale can left some breaks none_fails is_text is_exit) none = absurd (subst HasNoLines can.records.is_listed none)
  refused_by (lines list recorded apart stale can left is_text is_exit) none = absurd (subst HasNoLines can.records.is_listed none)
  refused_by (bad_list bad un refuses what) none = (text, is, bad_list bad un (refuses.0, refl) what)
  refused_by (no_commands list is_list un refuses what) none = (text, is, no_commands list is_list un (refuses.0, refl) what)
  refused_by (no_command list name is_list some first refuses what) none = (text, is, no_command list name is_list some first (refuses.0, refl) what)

  -- and where it ends so, it has no lines
  never_refused : (n : ℕ) → IsListed in_words asked input a b text exit is → HasLines is n → CannotAnswer asked input a b → ⊥
  never_refused n (nothing list apart stale can breaks differs none is_text is_exit) has (t, f, cannot) = answered_or_not asked input a b list [] apart stale is can t f cannot
  never_refused n (nothing_else list recorded apart stale can left some breaks none is_text is_exit) has (t, f, cannot) = answered_or_not asked input a b list recorded apart stale is can t f cannot
  never_refused n (lines list recorded apart stale can left is_text is_exit) has (t, f, cannot) = answered_or_not asked input a b list recorded apart stale is can t f cannot
  never_refused n (bad_list bad none refuses what) (unused, old, known, causes, meanings, e) cannot = absurd (let z : founds.NoList bad ≡ founds.Listed unused old n known causes meanings = sym what ∙ e in cc)
  never_refused n (no_commands list is_list none refuses what) (unused, old, known, causes, meanings, e) cannot = absurd (let z : founds.NoCommands ≡ founds.Listed unused old n known causes meanings = sym what ∙ e in cc)
  never_refused n (no_command list name is_list some first refuses what) (unused, old, known, causes, meanings, e) cannot = absurd (let z : founds.NoCommand ≡ founds.Listed unused old n known causes meanings = sym what ∙ e in cc)

  pub none_where_refused : (r : Option ℕ) → IsListed in_words asked input a b text exit is → IfSome r (HasLines is) → (IsNone r → HasNoLines is) → (r ≡ None) ↔ CannotAnswer asked input a b
  none_where_refused None listed some none = (λ e. refused_by listed (none refl), λ cannot. refl)
  none_where_refused (Some n) listed some none = (λ e. absurd (let z : Some n ≡ None = e in cc), λ cannot. absurd (never_refused n listed some cannot))

-- ---- how it ends

module _ (asked : Asked) (inputs : Inputs) (text : List ℕ) (exit : Exit) where
  read : (a b : Dictionary) (list : List PlainEntry) → IsDictionaryText inputs.first a → IsDictionaryText inputs.second b → IsListText inputs.table list → CanAsk asked a → AreRead asked inputs a b list
  read a b list is_a is_b is_list can = record { first = is_a; second = is_b; list_is = is_list; can_ask = can }

  -- where each stale entry fails, and none does, none is stale
  none_stale : (a b : Dictionary) (list : List PlainEntry) (recorded apart : List Row) (stale : List PlainEntry) → failing asked.stale stale ≡ [] → AreAllRecorded asked a b recorded apart
      → AreStale asked a b list recorded apart stale → NoneIsStale asked a b list
  none_stale a b list recorded apart stale none all are fails =
      (recorded, apart, all, subst (AreStale asked a b list recorded apart) (ap (λ s. failing s stale) (sym fails) ∙ none) are)

  -- a yes says that nothing breaks, or nothing else
  pub yes_is_safe : IsBreakingOutcome asked inputs text exit → exit ≡ Yes → IsSafeUpgrade asked inputs text
  yes_is_safe (ended a b is_a is_b (is, nothing list apart stale can breaks differs none is_text is_exit)) is_yes = safe a b list (read a b list is_a is_b can.list_is can.can_ask) breaks differs (none_stale a b list [] apart stale none can.all_recorded can.are_stale)
      (is_text ∙ append-nil (line (nothing_for asked.meaning false)))
  yes_is_safe (ended a b is_a is_b (is, nothing_else list recorded apart stale can left some breaks none is_text is_exit)) is_yes =
      accepted a b list (read a b list is_a is_b can.list_is can.can_ask) breaks (none_stale a b list recorded apart stale none can.all_recorded can.are_stale) (is_text ∙ append-nil (line (nothing_for asked.meaning true)))
  yes_is_safe (ended a b is_a is_b (is, lines list recorded apart stale can left is_text is_exit)) is_yes = absurd (let e : No ≡ Yes = sym is_exit ∙ is_yes in cc)
  yes_is_safe (ended a b is_a is_b (is, bad_list bad none refuses what)) is_yes = absurd (let e : Bad ≡ Yes = sym refuses.1 ∙ is_yes in cc)
  yes_is_safe (ended a b is_a is_b (is, no_commands list is_list none refuses what)) is_yes = absurd (let e : Bad ≡ Yes = sym refuses.1 ∙ is_yes in cc)
  yes_is_safe (ended a b is_a is_b (is, no_command list name is_list some first refuses what)) is_yes = absurd (let e : Bad ≡ Yes = sym refuses.1 ∙ is_yes in cc)
  yes_is_safe (no_first why none refuses) is_yes = absurd (let e : Bad ≡ Yes = sym refuses.1 ∙ is_yes in cc)
  yes_is_safe (no_second a why is_a none refuses) is_yes = absurd (let e : Bad ≡ Yes = sym refuses.1 ∙ is_yes in cc)

  -- a no says which lines are left
  pub no_is_unsafe : IsBreakingOutcome asked inputs text exit → exit ≡ No → IsUnsafeUpgrade asked inputs text
  no_is_unsafe (ended a b is_a is_b (is, lines list recorded apart stale can left is_text is_exit)) is_no = (
    a,
    b,
    list,
    recorded,
    apart,
    stale,
    read a b list is_a is_b can.list_is can.can_ask,
    can.all_recorded,
    can.are_stale,
    left,
    is_text ∙ ap (λ (x : List ℕ). answer_written in_words asked (left_of list recorded) ++ x) (append-nil (stale_text in_words (failing asked.stale stale))),
  )
  no_is_unsafe (ended a b is_a is_b (is, nothing list apart stale can breaks differs none is_text is_exit)) is_no = absurd (let e : Yes ≡ No = sym is_exit ∙ is_no in cc)
  no_is_unsafe (ended a b is_a is_b (is, nothing_else list recorded apart stale can left some breaks none is_text is_exit)) is_no = absurd (let e : Yes ≡ No = sym is_exit ∙ is_no in cc)
  no_is_unsafe (ended a b is_a is_b (is, bad_list bad none refuses what)) is_no = absurd (let e : Bad ≡ No = sym refuses.1 ∙ is_no in cc)
  no_is_unsafe (ended a b is_a is_b (is, no_commands list is_list none refuses what)) is_no = absurd (let e : Bad ≡ No = sym refuses.1 ∙ is_no in cc)
  no_is_unsafe (ended a b is_a is_b (is, no_command list name is_list some first refuses what)) is_no = absurd (let e : Bad ≡ No = sym refuses.1 ∙ is_no in cc)
  no_is_unsafe (no_first why none refuses) is_no = absurd (let e : Bad ≡ No = sym refuses.1 ∙ is_no in cc)
  no_is_unsafe (no_second a why is_a none refuses) is_no = absurd (let e : Bad ≡ No = sym refuses.1 ∙ is_no in cc)

  -- inputs that were read aren't refused
  read_or_refused : (a b : Dictionary) (list : List PlainEntry) → AreRead asked inputs a b list → AreRefused asked inputs → ⊥
  read_or_refused a b list is (bad_first why none) = dictionary_or_not inputs.first a why is.first none
  read_or_refused a b list is (bad_second why none) = dictionary_or_not inputs.second b why is.second none
  read_or_refused a b list is (bad_accepted bad none) = list_or_not inputs.table list bad is.list_is none
  read_or_refused a b list is (none_there d is_d none) = is.can_ask.some (subst (λ (e : Dictionary). e.commands ≡ []) (sym (one_dictionary inputs.first a d is.first is_d)) none)
  read_or_refused a b list is (bad_name d name is_d inside unknown) =
      let (command, names) = All-contains (λ n. (c : PlainDefinition) × NamesCommand a n c) (names_of asked) name is.can_ask.known inside in
      unknown command (subst (λ (e : Dictionary). NamesCommand e name command) (one_dictionary inputs.first a d is.first is_d) names)

  first_unknown : (a : Dictionary) (names : List (List ℕ)) (name : List ℕ) → IsFirstUnknown a names name → Contains names name
  first_unknown a names name first = contains_in names name (in_at names first.place name first.is_name)

  refused : IsBreakingOutcome asked inputs text exit → exit ≡ Bad → AreRefused asked inputs
  refused (ended a b is_a is_b (is, nothing list apart stale can breaks differs none is_text is_exit)) is_bad = absurd (let e : Yes ≡ Bad = sym is_exit ∙ is_bad in cc)
  refused (ended a b is_a is_b (is, nothing_else list recorded apart stale can left some breaks none is_text is_exit)) is_bad = absurd (let e : Yes ≡ Bad = sym is_exit ∙ is_bad in cc)
  refused (ended a b is_a is_b (is, lines list recorded apart stale can left is_text is_exit)) is_bad = absurd (let e : No ≡ Bad = sym is_exit ∙ is_bad in cc)
  refused (ended a b is_a is_b (is, bad_list bad none refuses what)) is_bad = bad_accepted bad none
  refused (ended a b is_a is_b (is, no_commands list is_list none refuses what)) is_bad = none_there a is_a none
  refused (ended a b is_a is_b (is, no_command list name is_list some first refuses what)) is_bad = bad_name a name is_a (first_unknown a (names_of asked) name first) first.unknown
  refused (no_first why none refuses) is_bad = bad_first why none
  refused (no_second a why is_a none refuses) is_bad = bad_second why none

  bad_exit : IsBreakingOutcome asked inputs text exit → AreRefused asked inputs → exit ≡ Bad
  bad_exit (ended a b is_a is_b (is, nothing list apart stale can breaks differs none is_text is_exit)) none_read = absurd (read_or_refused a b list (read a b list is_a is_b can.list_is can.can_ask) none_read)
  bad_exit (ended a b is_a is_b (is, nothing_else list recorded apart stale can left some breaks none is_text is_exit)) none_read =
      absurd (read_or_refused a b list (read a b list is_a is_b can.list_is can.can_ask) none_read)
  bad_exit (ended a b is_a is_b (is, lines list recorded apart stale can left is_text is_exit)) none_read = absurd (read_or_refused a b list (read a b list is_a is_b can.list_is can.can_ask) none_read)
  bad_exit (ended a b is_a is_b (is, bad_list bad none refuses what)) none_read = refuses.1
  bad_exit (ended a b is_a is_b (is, no_commands list is_list none refuses what)) none_read = refuses.1
  bad_exit (ended a b is_a is_b (is, no_command list name is_list some first refuses what)) none_read = refuses.1
  bad_exit (no_first why none refuses) none_read = refuses.1
  bad_exit (no_second a why is_a none refuses) none_read = refuses.1

  pub bad_is_refused : IsBreakingOutcome asked inputs text exit → (exit ≡ Bad) ↔ AreRefused asked inputs
  bad_is_refused outcome = (refused outcome, bad_exit outcome)

-- ---- in words

-- what any writer writes an answer with, the same answer is written with words
pub listed_in_words : (w : Writing) (asked : Asked) (input : Input) (a b : Dictionary) (text : List ℕ) (exit : Exit) (is : Findings) → IsListed w asked input a b text exit is
    → (words : List ℕ) × IsListed in_words asked input a b words exit is
listed_in_words w asked input a b text exit is (nothing list apart stale can breaks differs none is_text is_exit) = (_, nothing list apart stale can breaks differs none refl is_exit)
listed_in_words w asked input a b text exit is (nothing_else list recorded apart stale can left some breaks none is_text is_exit) =
    (_, nothing_else list recorded apart stale can left some breaks none refl is_exit)
listed_in_words w asked input a b text exit is (lines list recorded apart stale can left is_text is_exit) = (_, lines list recorded apart stale can left refl is_exit)
listed_in_words w asked input a b text exit is (bad_list bad none refuses what) = (_, bad_list bad none (refl, refuses.1) what)
listed_in_words w asked input a b text exit is (no_commands list is_list none refuses what) = (_, no_commands list is_list none (refl, refuses.1) what)
listed_in_words w asked input a b text exit is (no_command list name is_list some first refuses what) = (_, no_command list name is_list some first (refl, refuses.1) what)
