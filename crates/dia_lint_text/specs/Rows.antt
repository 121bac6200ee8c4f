-- Where findings are in the text of a dictionary, and the order of their lines.
use Rattle.std.specs.Prelude.{ℕ, ◌-◌, nat_le, Bool, List, length, map, filter, Option, slice_get, unwrap_or, string_bytes}
use Rattle.std.specs.List.{enumerate_from}
use Rattle.std.specs.List.Sorted.{IsPermutation, IsNonDecreasingBy, IsSorted}
use Rattle.std.specs.Option.{option_map, option_map_or, option_or}
use Rattle.std.specs.Ordering.{nat_cmp, ordering_then}
use Rattle.std.specs.declared.cmp.Ordering.{Ordering}
use Rattle.std.specs.Cmp.Lexicographic.{slice_cmp}
use Rattle.dia_ccf.specs.declared.source.Source.{Source}
use Rattle.dia_ccf.specs.declared.source.Def.{Def}
use Rattle.dia_book.specs.Dictionary.{Dictionary, entry_of}
use Rattle.dia_dict.specs.Resolution.{group_key}
use Rattle.dia_explain_places.specs.Places.{name_place}
use Rattle.dia_lint.specs.Words.{rule_number}
use Rattle.dia_lint.specs.declared.finding.Finding.{Finding}
use Rattle.dia_lint.specs.declared.finding.Place.{Place}
use Rattle.dia_lint.specs.declared.finding.Place.TheVariants as place
use Rattle.dia_lint.specs.declared.rule.Rule.{Rule}
use Rattle.dia_lint_text.specs.Names.{detail_text, subject_text}
use Rattle.dia_lint_text.specs.declared.sorting.Row.{Row}

-- ---- the parts of a source by the numbers of the dictionary

-- the number of the entry of a group's AVP
abbrev pub entry_number : Dictionary → Def → ℕ
entry_number d g = unwrap_or (entry_of d (group_key g.head)) 0

-- the groups without a declaration: their entries follow those of the declarations
abbrev pub is_bare : Dictionary → Source → Def → Bool
is_bare d source g = nat_le (length source.avps.items) (entry_number d g)

abbrev pub bare_groups : Dictionary → Source → List Def
bare_groups d source = filter (is_bare d source) source.groups.items

-- the groups in the order of their entries, as definitions are numbered
pub record AreInOrder (d : Dictionary) (source : Source) (groups : List Def) : Type 0 where
  pub all : IsPermutation source.groups.items groups
  pub order : IsNonDecreasingBy (entry_number d) groups

-- ---- where a part begins

-- an AVP: its declaration, and else its group
abbrev pub start_of_avp : Dictionary → Source → ℕ → ℕ
start_of_avp d source e =
    unwrap_or (option_or (option_map (λ x. x.at) (slice_get source.avps.items e))
    (slice_get (map (λ g. g.at) (bare_groups d source)) (e - length source.avps.items))) 0

-- the definition with a number: a group, and else a command
abbrev pub def_at : Source → List Def → ℕ → Option Def
def_at source groups n = option_or (slice_get groups n) (slice_get source.commands.items (n - length groups))

abbrev pub start_of_rule : ℕ → Def → ℕ
start_of_rule i def = unwrap_or (option_map (λ r. r.at) (slice_get def.rules.items i)) def.at

abbrev pub start_of : Dictionary → Source → List Def → Place → ℕ
start_of d source groups (place.Avp e) = start_of_avp d source e
start_of d source groups (place.Head n) = option_map_or (λ x. x.at) (def_at source groups n) 0
start_of d source groups (place.Rule n i) = option_map_or (start_of_rule i) (def_at source groups n) 0

-- ---- rows

-- the line of a finding: the offset of its place, the number of its rule, its words, and its place in the list
pub record PlainRow : Type 0 where
  pub at : ℕ
  pub rule : ℕ
  pub subject : List ℕ
  pub detail : List ℕ
  pub finding : ℕ

abbrev pub plain_row : Row → PlainRow
plain_row r = record { at = r.at; rule = r.rule; subject = string_bytes r.subject; detail = string_bytes r.detail; finding = r.finding }

abbrev pub row_of : Dictionary → Source → List Def → List ℕ → ℕ × Finding → PlainRow
row_of d source groups text x = record {
  at = name_place text (start_of d source groups x.1.place);
  rule = rule_number x.1.rule;
  subject = subject_text d x.1.subject;
  detail = detail_text d x.1.detail;
  finding = x.0;
}

-- those of findings of rules that are asked for
abbrev pub rows_among : (Rule → Bool) → Dictionary → Source → List Def → List ℕ → List (ℕ × Finding) → List PlainRow
rows_among is d source groups text numbered = map (row_of d source groups text) (filter (λ x. is x.1.rule) numbered)

abbrev pub asked_rows : (Rule → Bool) → Dictionary → Source → List Def → List ℕ → List Finding → List PlainRow
asked_rows is d source groups text found = rows_among is d source groups text (enumerate_from 0 found)

-- lines are ordered by place, then by rule, then by words
abbrev pub row_cmp : PlainRow → PlainRow → Ordering
row_cmp a b =
    ordering_then (nat_cmp a.at b.at) (ordering_then (nat_cmp a.rule b.rule) (ordering_then (slice_cmp nat_cmp a.subject b.subject)
    (ordering_then (slice_cmp nat_cmp a.detail b.detail) (nat_cmp a.finding b.finding))))

pub record AreSorted (unsorted rows : List PlainRow) : Type 0 where
  pub all : IsPermutation unsorted rows
  pub order : IsSorted row_cmp rows
