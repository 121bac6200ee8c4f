-- What is written, from its parts.
use Rattle.std.proofs.Common.{◌≡◌, ℕ, ◌-◌, ◌++◌, Bool, true, false, List, Result, Ok, Err, flat_map, length, map, sym, ap, subst, arith, ◌∙◌}
use Rattle.std.proofs.lemmas.List.{length-map}
use Rattle.std.specs.List.{list_any}
use Rattle.dia_book.proofs.Lists.{list_any-map}
use Rattle.dia_lint.specs.declared.rule.Rule.{Rule}
use Rattle.std.specs.Prelude.{IfOk, None, string_bytes}
use Rattle.dia_accepted.specs.Accepted.{PlainEntry, plain_entry}
use Rattle.dia_book.specs.Dictionary.{Dictionary}
use Rattle.dia_ccf.specs.declared.source.Def.{Def}
use Rattle.dia_ccf.specs.declared.source.Source.{Source}
use Rattle.dia_ccf.specs.Plain.{plain_source}
use Rattle.dia_io.specs.declared.Exit.TheVariants as exits
use Rattle.dia_io.specs.declared.Inputs.{Inputs}
use Rattle.dia_lint.specs.Words.{rules}
use Rattle.dia_lint.specs.declared.finding.Finding.{Finding}
use Rattle.dia_refused_json.specs.Recording.{refused_text}
use Rattle.dia_refused_json.specs.Refusals.{text_of}
use Rattle.dia_report.specs.declared.reporting.Answered.{Answered}
use Rattle.dia_report.specs.declared.BadInput.{BadInput}
use Rattle.dia_report.specs.declared.Refused.TheVariants.{Bad}
use Rattle.dia_report.specs.Refusals.{RecordsOf, dictionary_line}
use Rattle.dia_run.specs.Texts.{IsDictionaryText, IsNoDictionaryText, IsPlacedIn, IsSourceText}
use Rattle.dia_lint_text.specs.Asking.{Question, asks, has_in, is_asked, stranger}
use Rattle.dia_lint_text.specs.Lines.{accepted_of, ending, exit_of, left_of, line_of, stale_of}
use Rattle.dia_lint_text.specs.Listed.{IsListed}
use Rattle.dia_lint_text.specs.Lists.{IsListText, IsNoListText}
use Rattle.dia_lint_text.proofs.Numbered.{commands_numbered}
use Rattle.dia_lint_text.specs.Outcome.{AreFindings, IsLintOutcome, IsListing, listed, no_dictionary, no_list, no_list_text, nothing_asked, unasked_text}
use Rattle.dia_lint_text.specs.Rows.{AreInOrder, AreSorted, PlainRow, asked_rows}
use Rattle.dia_lint_text.specs.declared.accepted.BadList.{BadList}
use Rattle.dia_lint_text.specs.declared.listing.Listing.{Listing}
use Rattle.dia_lint_text.proofs.Chosen.{table_is}
use Rattle.dia_lint_text.proofs.Left.{both}

-- the listing of rows in their order
pub listing_is : (q : Question) (d : Dictionary) (source : Source) (groups : List Def) (chosen : List Bool) (text : List ℕ) (found : List Finding) (list : List PlainEntry)
    (rows : List PlainRow) (listing : Listing) → chosen ≡ map (is_asked q) rules → AreInOrder d source groups
    → AreSorted (asked_rows (has_in chosen) d source groups text found) rows → IsListed q d text found list rows listing
    → IsListing q d source text found list (string_bytes listing.text) (exit_of (map (λ s. s.rule) listing.shown.items) (map plain_entry listing.stale.items))
listing_is q d source groups chosen text found list rows listing table ordered sorted is = record {
  groups = groups;
  rows = rows;
  are_groups = ordered;
  are_rows = subst (λ test. AreSorted (asked_rows test d source groups text found) rows) (table_is (is_asked q) chosen table) sorted;
  written_is = is.text_is;
  exit_is = ap (λ numbers. exit_of numbers (map plain_entry listing.stale.items)) is.shown_is ∙ ap (exit_of _) is.stale_is;
}

-- the lines, and what follows them
pub is_listed : (q : Question) (d : Dictionary) (text : List ℕ) (found : List Finding) (list : List PlainEntry) (rows : List PlainRow) (listing : Listing)
    (left numbers : List ℕ) (accepted nrows nleft : ℕ) (stale : List PlainEntry) → string_bytes listing.text ≡ left ++ ending q.json numbers accepted stale
    → map (λ s. s.rule) listing.shown.items ≡ numbers → map plain_entry listing.stale.items ≡ stale → left ≡ flat_map (line_of q d text found) (left_of list found rows)
    → numbers ≡ map (λ (r : PlainRow). r.rule) (left_of list found rows) → stale ≡ stale_of list found rows → accepted ≡ nrows - nleft → nrows ≡ length rows → nleft ≡ length numbers
    → IsListed q d text found list rows listing
is_listed q d text found list rows listing left numbers accepted nrows nleft stale written shown is_stale left_is numbers_are stale_are count all_rows all_left =
    let long = ap length numbers_are ∙ length-map (left_of list found rows) (λ (r : PlainRow). r.rule) in
    let sum = both list found rows in
    let counted : accepted ≡ accepted_of list found rows = omega (arith, count, all_rows, all_left, long, sum) in
    record {
      text_is = written ∙ (λ i. left_is i ++ ending q.json (numbers_are i) (counted i) (stale_are i));
      shown_is = shown ∙ numbers_are;
      stale_is = is_stale ∙ stale_are;
    }

-- what is known of one listing is known of an equal one
pub same_sorted : (test : Rule → Bool) (groups : List Def) (d d' : Dictionary) (source source' : Source) (text text' : List ℕ) (found found' : List Finding) (rows rows' : List PlainRow)
    → d ≡ d' → source ≡ source' → text ≡ text' → found ≡ found' → rows ≡ rows' → AreSorted (asked_rows test d source groups text found) rows
    → AreSorted (asked_rows test d' source' groups text' found') rows'
same_sorted test groups d d' source source' text text' found found' rows rows' e1 e2 e3 e4 e5 sorted =
    subst (λ (p : Dictionary × Source × List ℕ × List Finding × List PlainRow). AreSorted (asked_rows test p.0 p.1 groups p.2 p.3) p.4) (λ i. (e1 i, e2 i, e3 i, e4 i, e5 i)) sorted

pub same_listed : (q : Question) (list : List PlainEntry) (listing : Listing) (d d' : Dictionary) (text text' : List ℕ) (found found' : List Finding) (rows rows' : List PlainRow)
    → d ≡ d' → text ≡ text' → found ≡ found' → rows ≡ rows' → IsListed q d text found list rows listing → IsListed q d' text' found' list rows' listing
same_listed q list listing d d' text text' found found' rows rows' e1 e2 e3 e4 is =
    subst (λ (p : Dictionary × List ℕ × List Finding × List PlainRow). IsListed q p.0 p.1 p.2 list p.3 listing) (λ i. (e1 i, e2 i, e3 i, e4 i)) is

-- three lists of findings after the first
pub all_others : (first second third fourth m n all x y z : List Finding) → m ≡ first ++ x → n ≡ m ++ y → all ≡ n ++ z → x ≡ second → y ≡ third → z ≡ fourth
    → all ≡ ((first ++ second) ++ third) ++ fourth
all_others first second third fourth m n all x y z to_m to_n to_all is_x is_y is_z = cc

-- the outcome of a listing
pub listed_outcome : (q : Question) (inputs : Inputs) (source : Source) (d : Dictionary) (chosen : List Bool) (found : List Finding) (list : List PlainEntry)
    (listing : Listing) (a : Answered) → chosen ≡ map (is_asked q) rules → stranger q ≡ None → asks q ≡ true → IsSourceText inputs.first (plain_source source)
    → IsPlacedIn inputs.first source → IsDictionaryText inputs.first d → AreFindings d q.unknown found → IsListText (has_in chosen) inputs.table list
    → IsListing q d source (text_of inputs.first) found list (string_bytes listing.text) (exit_of (map (λ s. s.rule) listing.shown.items) (map plain_entry listing.stale.items))
    → a.text ≡ listing.text → a.exit ≡ exit_of (map (λ s. s.rule) listing.shown.items) (map plain_entry listing.stale.items) → IsLintOutcome q inputs (string_bytes a.text) a.exit
listed_outcome q inputs source d chosen found list listing a table known some read placed is findings are lists text exit =
    listed source d found list known some read placed is (commands_numbered inputs.first d is) findings (subst (λ test. IsListText test inputs.table list) (table_is (is_asked q) chosen table) are)
    (subst (λ e. IsListing q d source (text_of inputs.first) found list (string_bytes a.text) e) (sym exit)
    (subst (λ t. IsListing q d source (text_of inputs.first) found list (string_bytes t) (exit_of (map (λ s. s.rule) listing.shown.items) (map plain_entry listing.stale.items))) (sym text) lists))

-- the list is refused
pub bad_list : {E : Type 0} (q : Question) (inputs : Inputs) (d : Dictionary) (bad : BadList) (r : Result Answered E) → stranger q ≡ None → asks q ≡ true → IsDictionaryText inputs.first d
    → IsNoListText inputs.table bad → IfOk r (λ a. string_bytes a.text ≡ no_list_text q.json inputs.table bad) → IfOk r (λ a. a.exit ≡ exits.Bad)
    → IfOk r (λ a. IsLintOutcome q inputs (string_bytes a.text) a.exit)
bad_list q inputs d bad (Ok a) known some is why text exit = no_list d bad known some is why text exit
bad_list q inputs d bad (Err e) known some is why text exit = tt

-- the dictionary is
pub bad_dictionary : {E : Type 0} (q : Question) (inputs : Inputs) (why : BadInput) (r : Result Answered E) → stranger q ≡ None → asks q ≡ true
    → RecordsOf (λ recorded. (w : List ℕ) × IsNoDictionaryText inputs.first w × (recorded ≡ dictionary_line 1 w)) (Bad why)
    → IfOk r (λ a. string_bytes a.text ≡ refused_text q.json inputs.first why) → IfOk r (λ a. a.exit ≡ exits.Bad)
    → IfOk r (λ a. IsLintOutcome q inputs (string_bytes a.text) a.exit)
bad_dictionary q inputs why (Ok a) known some lacks text exit = no_dictionary why known some lacks text exit
bad_dictionary q inputs why (Err e) known some lacks text exit = tt

-- some rule is asked for where the table has one
pub any_asked : (q : Question) (chosen : List Bool) (any : Bool) → chosen ≡ map (is_asked q) rules → any ≡ list_any (λ (b : Bool). b) chosen → any ≡ asks q
any_asked q chosen any table is = is ∙ ap (list_any (λ (b : Bool). b)) table ∙ list_any-map (is_asked q) (λ (b : Bool). b) rules

-- no rule is asked for
pub unasked : {E : Type 0} (q : Question) (inputs : Inputs) (chosen : List Bool) (any : Bool) (r : Result Answered E) → chosen ≡ map (is_asked q) rules → stranger q ≡ None
    → any ≡ list_any (λ (b : Bool). b) chosen → any ≡ false → IfOk r (λ a. string_bytes a.text ≡ unasked_text q.json) → IfOk r (λ a. a.exit ≡ exits.Bad)
    → IfOk r (λ a. IsLintOutcome q inputs (string_bytes a.text) a.exit)
unasked q inputs chosen any (Ok a) table known is none text exit = nothing_asked known (sym (any_asked q chosen any table is) ∙ none) text exit
unasked q inputs chosen any (Err e) table known is none text exit = tt
