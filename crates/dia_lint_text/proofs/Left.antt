-- What the list leaves of one row more.
use Rattle.std.proofs.Common.{◌≡◌, ℕ, Bool, true, false, cond, List, [], ◌∷◌, ◌++◌, filter, flat_map, map, not, Some, refl, sym, ap, ◌∙◌}
use Rattle.std.specs.Prelude.{slice_get, ◌+◌, length, if◌then◌else◌}
use Rattle.std.proofs.Common.{take}
use Rattle.dia_valid.proofs.Members.{taken}
use Rattle.std.proofs.lemmas.Grind.{flat_map-append}
use Rattle.std.proofs.lemmas.List.{append-nil, map-append}
use Rattle.std.proofs.lemmas.List.Elements.{filter-append}
use Rattle.std.proofs.lemmas.List.Filters.{length-filter_both}
use Rattle.std.proofs.lemmas.List.Sums.{length-filter}
use Rattle.dia_accepted.specs.Accepted.{PlainEntry}
use Rattle.dia_lint.specs.declared.finding.Finding.{Finding}
use Rattle.dia_lint_text.specs.Lines.{accepted_of, is_accepted, left_of, recorded_of}
use Rattle.dia_lint_text.specs.Rows.{PlainRow}

-- the row, unless the list accepts it
abbrev pub kept : Bool → PlainRow → List PlainRow
kept accepted row = cond accepted [] (row ∷ [])

one : (p : PlainRow → Bool) (row : PlainRow) → filter (λ r. not (p r)) (row ∷ []) ≡ kept (p row) row
one p row = by (p row)
  where
    by : (b : Bool) → cond (not b) (row ∷ []) [] ≡ cond b [] (row ∷ [])
    by true = refl
    by false = refl

pub left_more : (list : List PlainEntry) (found : List Finding) (done : List PlainRow) (row : PlainRow)
    → left_of list found (done ++ row ∷ []) ≡ left_of list found done ++ kept (is_accepted list found row) row
left_more list found done row =
    filter-append (λ r. not (is_accepted list found r)) done (row ∷ []) ∙ ap (λ rs. left_of list found done ++ rs) (one (is_accepted list found) row)

lines_of_kept : (line : PlainRow → List ℕ) (b : Bool) (row : PlainRow) → flat_map line (kept b row) ≡ (if b then [] else line row)
lines_of_kept line true row = refl
lines_of_kept line false row = append-nil (line row)

numbers_of_kept : (b : Bool) (row : PlainRow) → map (λ (r : PlainRow). r.rule) (kept b row) ≡ (if b then [] else row.rule ∷ [])
numbers_of_kept true row = refl
numbers_of_kept false row = refl

pub lines_more : (line : PlainRow → List ℕ) (list : List PlainEntry) (found : List Finding) (done : List PlainRow) (row : PlainRow)
    → flat_map line (left_of list found (done ++ row ∷ [])) ≡ flat_map line (left_of list found done) ++ (if is_accepted list found row then [] else line row)
lines_more line list found done row =
    ap (flat_map line) (left_more list found done row) ∙ flat_map-append line (left_of list found done) (kept (is_accepted list found row) row)
    ∙ ap (λ cs. flat_map line (left_of list found done) ++ cs) (lines_of_kept line (is_accepted list found row) row)

pub numbers_more : (list : List PlainEntry) (found : List Finding) (done : List PlainRow) (row : PlainRow)
    → map (λ (r : PlainRow). r.rule) (left_of list found (done ++ row ∷ [])) ≡ map (λ (r : PlainRow). r.rule) (left_of list found done) ++ (if is_accepted list found row then [] else row.rule ∷ [])
numbers_more list found done row =
    ap (map (λ (r : PlainRow). r.rule)) (left_more list found done row) ∙ map-append (λ (r : PlainRow). r.rule) (left_of list found done) (kept (is_accepted list found row) row)
    ∙ ap (λ ns. map (λ (r : PlainRow). r.rule) (left_of list found done) ++ ns) (numbers_of_kept (is_accepted list found row) row)

-- what is left of the first rows
pub record AreLeft (line : PlainRow → List ℕ) (found : List Finding) (list : List PlainEntry) (done : List PlainRow) (text numbers : List ℕ) : Type 0 where
  pub text_is : text ≡ flat_map line (left_of list found done)
  pub numbers_are : numbers ≡ map (λ (r : PlainRow). r.rule) (left_of list found done)

pub more_left : (line : PlainRow → List ℕ) (found : List Finding) (list : List PlainEntry) (rows : List PlainRow) (i : ℕ) (row : PlainRow) (text numbers text' numbers' : List ℕ)
    → slice_get rows i ≡ Some row → AreLeft line found list (take i rows) text numbers → text' ≡ text ++ (if is_accepted list found row then [] else line row)
    → numbers' ≡ numbers ++ (if is_accepted list found row then [] else row.rule ∷ []) → AreLeft line found list (take (i + 1) rows) text' numbers'
more_left line found list rows i row text numbers text' numbers' at before is_text are_numbers = record {
  text_is = is_text ∙ ap (λ t. t ++ (if is_accepted list found row then [] else line row)) before.text_is ∙ sym (lines_more line list found (take i rows) row)
      ∙ ap (λ rs. flat_map line (left_of list found rs)) (sym (taken rows i row at));
  numbers_are = are_numbers ∙ ap (λ t. t ++ (if is_accepted list found row then [] else row.rule ∷ [])) before.numbers_are ∙ sym (numbers_more list found (take i rows) row)
      ∙ ap (λ rs. map (λ (r : PlainRow). r.rule) (left_of list found rs)) (sym (taken rows i row at));
}

pub more_recorded : (found : List Finding) (rows : List PlainRow) (i : ℕ) (row : PlainRow) → slice_get rows i ≡ Some row
    → map (recorded_of found) (take i rows) ++ recorded_of found row ∷ [] ≡ map (recorded_of found) (take (i + 1) rows)
more_recorded found rows i row at = sym (map-append (recorded_of found) (take i rows) (row ∷ [])) ∙ ap (map (recorded_of found)) (sym (taken rows i row at))

-- how many rows it accepts, and how many it leaves
pub both : (list : List PlainEntry) (found : List Finding) (rows : List PlainRow) → accepted_of list found rows + length (left_of list found rows) ≡ length rows
both list found rows = ap (λ n. n + length (left_of list found rows)) (sym (length-filter (is_accepted list found) rows)) ∙ length-filter_both _ _ (λ r. refl) rows

-- a part that is added unless the test holds
pub without_it : (old part : List ℕ) (b : Bool) → b ≡ true → old ≡ old ++ (if b then [] else part)
without_it old part b is = sym (append-nil old) ∙ ap (λ b. old ++ (if b then [] else part)) (sym is)

pub with_it : (old part : List ℕ) (b : Bool) → b ≡ false → old ++ part ≡ old ++ (if b then [] else part)
with_it old part b is = ap (λ b. old ++ (if b then [] else part)) (sym is)
