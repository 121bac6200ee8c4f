-- What `lint` writes, and how it ends.
use Rattle.std.specs.Prelude.{◌≡◌, ℕ, Bool, true, false, List, ◌++◌, length, map, flat_map, Some, None, codes}
use Rattle.json.specs.Print.{quoted}
use Rattle.dia_accepted.specs.Accepted.{PlainEntry}
use Rattle.dia_ccf.specs.declared.source.Source.{Source}
use Rattle.dia_ccf.specs.declared.source.Def.{Def}
use Rattle.dia_ccf.specs.Plain.{plain_source}
use Rattle.dia_book.specs.Dictionary.{Dictionary}
use Rattle.dia_io.specs.declared.Exit.{Exit}
use Rattle.dia_io.specs.declared.Exit.TheVariants as exits
use Rattle.dia_io.specs.declared.Input.{Input}
use Rattle.dia_io.specs.declared.Inputs.{Inputs}
use Rattle.dia_terms.specs.declared.Unknown.{Unknown}
use Rattle.dia_report.specs.declared.bad_input.BadInput.{BadInput}
use Rattle.dia_report.specs.Refusals.{bad_input_text}
use Rattle.dia_run.specs.RefusedDictionaries.{RefusesFirst}
use Rattle.dia_run.specs.Texts.{IsDictionaryText, IsPlacedIn, IsSourceText}
use Rattle.dia_refused_json.specs.Recording.{refused_text}
use Rattle.dia_refused_json.specs.Refusals.{text_of}
use Rattle.dia_lint.specs.Exact.{AreAscending, AreNumbered, AreOf, AreOfMessages, NoLevelIsExact, NoMessageIsExact, OthersHaveAvps, OthersHaveMessages, is_no_level, is_no_message, reported}
use Rattle.dia_lint.specs.ExactLines.{AreExactLines}
use Rattle.dia_lint.specs.GuidelineLines.{guideline_lines}
use Rattle.dia_lint.specs.Held.{NeverHeldIsTrue, NeverListedIsTrue, NeverStandsIsTrue, NoOthersIsTrue, OthersAreHeld, OthersAreListed, OthersStand, OtherWildcardsStand}
use Rattle.dia_lint.specs.OwnRules.{says_nothing_lines}
use Rattle.dia_lint.specs.SameCommands.{AreSameCommands}
use Rattle.dia_lint.specs.TwiceListed.{AreTwiceListed}
use Rattle.dia_lint.specs.declared.finding.Finding.{Finding}
use Rattle.dia_lint.specs.declared.rule.Rule.TheVariants as rule
use Rattle.dia_lint_text.specs.Asking.{asks, is_asked, Question, stranger}
use Rattle.dia_lint_text.specs.Lists.{IsListText, IsNoListText, bad_list_json, bad_list_text}
use Rattle.dia_lint_text.specs.Rows.{AreInOrder, AreSorted, PlainRow, asked_rows}
use Rattle.dia_lint_text.specs.Lines.{accepted_of, ending, exit_of, left_of, line_of, stale_of}
use Rattle.dia_lint_text.specs.declared.accepted.BadList.{BadList}

-- ---- the findings

-- those that aren't about valid messages: of `same-command` and of `twice-listed`, and then of `says-nothing` and of the guidelines
pub record AreOthers (d : Dictionary) (found : List Finding) : Type 0 where
  pub same_commands : List Finding
  pub ranges : List Finding
  pub all : found ≡ ((same_commands ++ ranges) ++ says_nothing_lines d) ++ guideline_lines d
  pub of_commands : AreOf rule.SameCommand same_commands
  pub same_command : AreSameCommands d (length d.commands) same_commands
  pub of_ranges : AreOf rule.TwiceListed ranges
  pub twice_listed : AreTwiceListed d (length d.entries) ranges

-- all findings of a dictionary: those about valid messages, and the others
pub record AreFindings (d : Dictionary) (u : Unknown) (found : List Finding) : Type 0 where
  pub exact : List Finding
  pub others : List Finding
  pub all : found ≡ exact ++ others
  pub are_others : AreOthers d others
  pub lines : AreExactLines d u exact
  pub rules : AreOfMessages exact
  pub no_message : NoMessageIsExact d u exact
  pub no_level : NoLevelIsExact d u exact
  pub others_have_messages : OthersHaveMessages d u exact
  pub others_have_avps : OthersHaveAvps d u exact
  pub messages_once : AreAscending (reported is_no_message exact)
  pub levels_once : AreAscending (reported is_no_level exact)
  pub never_held : NeverHeldIsTrue d u exact
  pub never_listed : NeverListedIsTrue d exact
  pub never_stands : NeverStandsIsTrue d u exact
  pub no_others : NoOthersIsTrue d u exact
  pub others_are_held : OthersAreHeld d u exact
  pub others_are_listed : OthersAreListed d u exact
  pub others_stand : OthersStand d u exact
  pub other_wildcards_stand : OtherWildcardsStand d u exact

-- ---- inputs that are refused

-- the line of a word that names no rule
abbrev pub no_rule_text : Bool → List ℕ → List ℕ
no_rule_text true word = codes "{\"error\":\"lint\",\"kind\":\"no rule\",\"name\":" ++ quoted word ++ codes "}\n"
no_rule_text false word = codes "lint: no rule " ++ word ++ codes "\n"

-- the line where no rule is asked for
abbrev pub unasked_text : Bool → List ℕ
unasked_text true = codes "{\"error\":\"lint\",\"kind\":\"no rule\"}\n"
unasked_text false = codes "lint: no rule\n"

-- the line of a list that is refused, by its text
abbrev pub bad_text : Bool → List ℕ → BadList → List ℕ
bad_text true text bad = bad_list_json text bad
bad_text false text bad = codes "accepted: " ++ bad_list_text bad ++ codes "\n"

abbrev pub no_list_text : Bool → Input → BadList → List ℕ
no_list_text json input bad = bad_text json (text_of input) bad

-- ---- what is written

-- for these findings, by the rows that are asked for in their order: a line for each that the list doesn't accept, and what follows
pub record IsListing (q : Question) (d : Dictionary) (source : Source) (text : List ℕ) (found : List Finding) (list : List PlainEntry)
    (written : List ℕ) (exit : Exit) : Type 0 where
  pub groups : List Def
  pub rows : List PlainRow
  pub are_groups : AreInOrder d source groups
  pub are_rows : AreSorted (asked_rows (is_asked q) d source groups text found) rows
  pub written_is : written ≡ flat_map (line_of q d text found) (left_of list found rows)
      ++ ending q.json (map (λ row. row.rule) (left_of list found rows)) (accepted_of list found rows) (stale_of list found rows)
  pub exit_is : exit ≡ exit_of (map (λ row. row.rule) (left_of list found rows)) (stale_of list found rows)

-- the findings are listed, by the lines and columns of the dictionary's text; or a word names no rule, no rule is left, or the dictionary or the list is refused
pub data IsLintOutcome (q : Question) (inputs : Inputs) (written : List ℕ) (exit : Exit) : Type 0 where
  listed : (source : Source) (d : Dictionary) (found : List Finding) (list : List PlainEntry) → stranger q ≡ None → asks q ≡ true
      → IsSourceText inputs.first (plain_source source) → IsPlacedIn inputs.first source → IsDictionaryText inputs.first d → AreNumbered d → AreFindings d q.unknown found
      → IsListText (is_asked q) inputs.table list → IsListing q d source (text_of inputs.first) found list written exit → IsLintOutcome q inputs written exit
  no_rule : (word : List ℕ) → stranger q ≡ Some word → written ≡ no_rule_text q.json word → exit ≡ exits.Bad → IsLintOutcome q inputs written exit
  nothing_asked : stranger q ≡ None → asks q ≡ false → written ≡ unasked_text q.json → exit ≡ exits.Bad → IsLintOutcome q inputs written exit
  no_dictionary : (bad : BadInput) → stranger q ≡ None → asks q ≡ true → RefusesFirst inputs (bad_input_text bad)
      → written ≡ refused_text q.json inputs.first bad → exit ≡ exits.Bad → IsLintOutcome q inputs written exit
  no_list : (d : Dictionary) (bad : BadList) → stranger q ≡ None → asks q ≡ true → IsDictionaryText inputs.first d → IsNoListText inputs.table bad
      → written ≡ no_list_text q.json inputs.table bad → exit ≡ exits.Bad → IsLintOutcome q inputs written exit
