-- What the rows of a plain book mean, where its groups are numbered in the order of the rows.
use Rattle.std.proofs.Common.{◌≡◌, ℕ, zero, suc, ◌+◌, ◌<◌, ◌≤◌, List, [], ◌∷◌, ◌++◌, length, map, take, Option, Some, None, refl, sym, ap, ◌∙◌, subst, get_or, arith}
use Rattle.std.specs.Prelude.{slice_get, option_and_then, position, IfSome}
use Rattle.std.specs.Option.{option_map, option_or}
use Rattle.std.specs.List.{filter_map, range_with_len, list_any}
use Rattle.std.proofs.lemmas.List.{take-map, length-map, length-append, map-append}
use Rattle.std.proofs.lemmas.List.FromFn.{length-range_with_len}
use Rattle.std.proofs.lemmas.Option.{slice_get-map, none-some, same_Some, slice_get_read}
use Rattle.dia_book.specs.Dictionary.{PlainDefinition, DictEntry, Dictionary, groups as groups_of, definitions, group_place, entry_of, selected, has_command, is_command, has_class, plain_definition}
use Rattle.dia_dict.specs.PlainMeaning.{entry_of_row, dictionary_of, numbers}
use Rattle.dia_wire.specs.declared.Key.{Key}
use Rattle.dia_book.specs.Keys.{same_key}
use Rattle.dia_book.specs.declared.Class.{Class}
use Rattle.dia_book.specs.declared.Definition.{Definition}
use Rattle.dia_dict.specs.declared.entry_list.Row.{Row}
use Rattle.dia_book.proofs.Lists.{filter_map-map, position-map, list_any-map, length-filter_map}
use Rattle.dia_book.proofs.NumberedGroups.{slice_get-append_left, slice_get-append_right, filter_map-numbered, length-filter_map-numbered, number_at}

first_member : {X : Type 0} (xs : List X) (k : ℕ) → k < length xs → (x : X) × (slice_get xs k ≡ Some x)
first_member [] k h = absurd (omega arith)
first_member (x ∷ xs) zero h = (x, refl)
first_member (x ∷ xs) (suc k) h = first_member xs k (omega arith)

-- what holds of a row's entry holds of the entry at its place
pub at_row : (P : DictEntry → Type 0) (gs : List PlainDefinition) (rows : List Row) (i entry : ℕ) (row : Row) → i ≡ entry → entry < length (map (entry_of_row gs) rows) → row ≡ get_or rows i row
    → P (entry_of_row gs row) → IfSome (slice_get (map (entry_of_row gs) rows) entry) P
at_row P gs rows i entry row same within read holds =
    let there = slice_get_read rows (length rows) entry row refl (omega (arith, within, length-map rows (entry_of_row gs))) (read ∙ ap (λ n. get_or rows n row) same) in
    subst (λ (o : Option DictEntry). IfSome o P) (sym (slice_get-map (entry_of_row gs) rows entry ∙ ap (option_map (entry_of_row gs)) there)) holds

module _ (rows : List Row) (gs cs : List PlainDefinition) (numbered : numbers rows ≡ range_with_len 0 (length gs)) where
  pub groups-dictionary_of : groups_of (dictionary_of rows gs cs) ≡ gs
  groups-dictionary_of = filter_map-map (entry_of_row gs) (λ e. e.group) rows ∙ filter_map-numbered (λ r. r.group) rows gs numbered

  groups_before : (i : ℕ) → length (filter_map (λ (e : DictEntry). e.group) (take i (map (entry_of_row gs) rows))) ≡ length (filter_map (λ (r : Row). r.group) (take i rows))
  groups_before i =
      ap (λ es. length (filter_map (λ (e : DictEntry). e.group) es)) (take-map (entry_of_row gs) i rows)
      ∙ ap length (filter_map-map (entry_of_row gs) (λ e. e.group) (take i rows))
      ∙ length-filter_map-numbered (λ r. r.group) rows gs i numbered

  group_of-at : (i : ℕ) (row : Row) → slice_get rows i ≡ Some row
      → group_place (dictionary_of rows gs cs) i ≡ option_map (λ (_ : PlainDefinition). length (filter_map (λ (e : DictEntry). e.group) (take i (map (entry_of_row gs) rows))))
      (option_and_then (slice_get gs) row.group)
  group_of-at i row at =
      ap (option_and_then (λ (x : DictEntry). option_map (λ (_ : PlainDefinition). length (filter_map (λ (e : DictEntry). e.group) (take i (map (entry_of_row gs) rows)))) x.group))
      (slice_get-map (entry_of_row gs) rows i ∙ ap (option_map (entry_of_row gs)) at)

  pub group_of-none : (i : ℕ) (row : Row) → slice_get rows i ≡ Some row → row.group ≡ None → group_place (dictionary_of rows gs cs) i ≡ None
  group_of-none i row at none = rw none at (group_of-at i row at)

  pub group_of-some : (i k : ℕ) (row : Row) → slice_get rows i ≡ Some row → row.group ≡ Some k → (group_place (dictionary_of rows gs cs) i ≡ Some k) × (k < length gs)
  group_of-some i k row at some =
      let named = number_at (λ (r : Row). r.group) rows 0 (length gs) i k row numbered at some in
      let within : k < length gs = omega (arith, named.1) in
      let d = first_member gs k within in
      let number : length (filter_map (λ (e : DictEntry). e.group) (take i (map (entry_of_row gs) rows))) ≡ k = omega (arith, groups_before i, named.0) in
      let group : option_and_then (slice_get gs) row.group ≡ Some d.0 = ap (option_and_then (slice_get gs)) some ∙ d.1 in (
        group_of-at i row at ∙ ap (option_map (λ (_ : PlainDefinition). length (filter_map (λ (e : DictEntry). e.group) (take i (map (entry_of_row gs) rows))))) group
            ∙ ap (λ (n : ℕ). Some n) number,
        within,
      )

-- the dictionary of what a book holds
abbrev pub held : List Row → List Definition → List Definition → Dictionary
held rows groups commands = dictionary_of rows (map plain_definition groups) (map plain_definition commands)

module _ (rows : List Row) (groups commands : List Definition) where
  pub entry_of-held : (key : Key) → entry_of (held rows groups commands) key ≡ position (λ (row : Row). same_key key row.key) rows
  entry_of-held key = position-map (entry_of_row (map plain_definition groups)) (λ (e : DictEntry). same_key key e.key) rows

  pub has_command-held : (code : ℕ) (class : Class) → has_command (held rows groups commands) code class ≡ list_any (λ (d : Definition). has_class code class d.head) commands
  has_command-held code class = list_any-map plain_definition (λ (c : PlainDefinition). has_class code class c.head) commands

  module _ (numbered : numbers rows ≡ range_with_len 0 (length groups)) where
    plainly : numbers rows ≡ range_with_len 0 (length (map plain_definition groups))
    plainly = rw length-map numbered

    pub groups-held : groups_of (held rows groups commands) ≡ map plain_definition groups
    groups-held = groups-dictionary_of rows (map plain_definition groups) (map plain_definition commands) plainly

    pub length-groups-held : length (groups_of (held rows groups commands)) ≡ length groups
    length-groups-held = ap length groups-held ∙ length-map groups plain_definition

    pub selected-held : (code : ℕ) (class : Class) (app : ℕ) → selected (held rows groups commands) code class app
        ≡ option_map (λ (i : ℕ). length groups + i) (option_or (position (λ (d : Definition). is_command code class (Some app) d.head) commands)
        (position (λ (d : Definition). is_command code class None d.head) commands))
    selected-held code class app =
        ap (λ (n : ℕ). option_map (λ (i : ℕ). n + i) (option_or (position (λ (c : PlainDefinition). is_command code class (Some app) c.head) (map plain_definition commands))
        (position (λ (c : PlainDefinition). is_command code class None c.head) (map plain_definition commands)))) length-groups-held
        ∙ rw (
          position-map plain_definition (λ (c : PlainDefinition). is_command code class (Some app) c.head) commands,
          position-map plain_definition (λ (c : PlainDefinition). is_command code class None c.head) commands,
        ) refl

    pub definitions-held : (k : ℕ) → slice_get (definitions (held rows groups commands)) k ≡ option_map plain_definition (slice_get (groups ++ commands) k)
    definitions-held k = ap (λ (ds : List PlainDefinition). slice_get (ds ++ map plain_definition commands) k) groups-held
        ∙ ap (λ (ds : List PlainDefinition). slice_get ds k) (sym (map-append plain_definition groups commands)) ∙ slice_get-map plain_definition (groups ++ commands) k

-- each group is that of a row
pub groups_fit : (rows : List Row) (groups : List Definition) → numbers rows ≡ range_with_len 0 (length groups) → length groups ≤ length rows
groups_fit rows groups numbered = omega (arith, ap length numbered, length-range_with_len 0 (length groups), length-filter_map (λ (r : Row). r.group) rows)

pub group_of-held : (rows : List Row) (groups commands : List Definition) → numbers rows ≡ range_with_len 0 (length groups) → (i : ℕ) (row : Row) → slice_get rows i ≡ Some row
    → (group_place (held rows groups commands) i ≡ row.group) × ((k : ℕ) → row.group ≡ Some k → k < length groups)
group_of-held rows groups commands numbered i row at = by row.group refl
  where
    by : (o : Option ℕ) → row.group ≡ o → (group_place (held rows groups commands) i ≡ o) × ((k : ℕ) → o ≡ Some k → k < length groups)
    by None none = (group_of-none rows (map plain_definition groups) (map plain_definition commands) (plainly rows groups commands numbered) i row at none, λ k e. absurd (none-some k e))
    by (Some j) some =
        let found = group_of-some rows (map plain_definition groups) (map plain_definition commands) (plainly rows groups commands numbered) i j row at some in
        (found.0, λ k e. omega (arith, same_Some j k e, found.1, length-map groups plain_definition))

pub length-definitions-held : (rows : List Row) (groups commands : List Definition) → numbers rows ≡ range_with_len 0 (length groups)
    → length (definitions (held rows groups commands)) ≡ length groups + length commands
length-definitions-held rows groups commands numbered =
    omega (arith, length-append (groups_of (held rows groups commands)) (map plain_definition commands), length-groups-held rows groups commands numbered, length-map commands plain_definition)

-- ---- what a read of a list gives

pub read_row : (rows : List Row) (groups : List Definition) (entry i : ℕ) (row : Row) → i ≡ entry
    → entry < length (map (entry_of_row (map plain_definition groups)) rows) → row ≡ get_or rows i row → slice_get rows entry ≡ Some row
read_row rows groups entry i row same within read =
    slice_get_read rows (length rows) entry row refl (omega (arith, within, length-map rows (entry_of_row (map plain_definition groups)))) (subst (λ (k : ℕ). row ≡ get_or rows k row) same read)

pub group_at : (groups commands : List Definition) (def i : ℕ) (d : Definition) → i ≡ def → i < length groups → d ≡ get_or groups i d → slice_get (groups ++ commands) def ≡ Some d
group_at groups commands def i d same within read =
    ap (slice_get (groups ++ commands)) (sym same) ∙ slice_get-append_left groups commands i within ∙ slice_get_read groups (length groups) i d refl within read

pub command_at : (groups commands : List Definition) (def i : ℕ) (d : Definition) → length groups + i ≡ def
    → def < length groups + length commands → d ≡ get_or commands i d → slice_get (groups ++ commands) def ≡ Some d
command_at groups commands def i d same within read =
    let inside : i < length commands = omega arith in
    ap (slice_get (groups ++ commands)) (sym same) ∙ slice_get-append_right groups commands i ∙ slice_get_read commands (length commands) i d refl inside read
