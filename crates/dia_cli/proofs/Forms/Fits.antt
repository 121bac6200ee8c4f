-- The options and inputs of a row are those of the command that is built of it.
use Rattle.std.proofs.Common.{◌≡◌, ◌∙◌, ℕ, Bool, true, false, List, [], ◌∷◌, ◌++◌, Option, Some, None, refl, sym, ap, ap₂, subst, not, map}
use Rattle.std.specs.Prelude.{find, is_some, if◌then◌else◌, ◌&&◌, ⊤, IsSomeAnd, codes, unwrap_or}
use Rattle.std.specs.Option.{option_map_or}
use Rattle.std.specs.Str.{bytes_eq}
use Rattle.std.specs.Borrow.{Bor}
use Rattle.std.proofs.lemmas.Slice.Eq.{bytes_eq-Decides}
use Rattle.clap.specs.Faults.{default_fault}
use Rattle.clap.specs.Lexer.{long_of}
use Rattle.clap.specs.Simple.{Shape, filled, filled_from, help_rule, index_after, with_index}
use Rattle.clap.specs.ValueTests.{accepts}
use Rattle.clap.specs.Walk.{Rule, Text, arg_by_id, arg_by_long}
use Rattle.clap.specs.declared.builder.value_parser.ValueParser.TheVariants as vp
use Rattle.clap.proofs.WalkLemmas.{both}
use Rattle.dia_cli.specs.Slots.{Slot, choice, flag, long_word, number, slot_id, text}
use Rattle.dia_cli.specs.Rows.{Count, InputRow, OptionRow, Value, a_number, any, any_word, input_rule, no_value, one, option_rule, policy, sender, some}
use Rattle.dia_cli.proofs.Forms.Ends.{HasFineDefaults}
use Rattle.dia_cli.proofs.Forms.Walks.{FitOptions, FitsOption, IsFlag, IsName, IsOption, Passes}

-- ---- names of options

abbrev pub is_name : Text → Bool
is_name id = option_map_or (λ (p : Text × Option Text). bytes_eq p.0 id && not (is_some p.1)) (long_of (long_word id)) false && not (bytes_eq (long_word id) (45 ∷ 45 ∷ []))

not_is : (b : Bool) → not b ≡ true → b ≡ false
not_is false e = refl
not_is true e = absurd cc

name_is : (id : Text) → is_name id ≡ true → IsName id
name_is id e =
    let parts = both _ (not (bytes_eq (long_word id) (45 ∷ 45 ∷ []))) e in
    record { long = go (long_of (long_word id)) parts.0; dashes = not_is _ parts.1 }
  where
    none : (o : Option Text) → not (is_some o) ≡ true → o ≡ None
    none None e = refl
    none (Some x) e = absurd cc

    go : (o : Option (Text × Option Text)) → option_map_or (λ (p : Text × Option Text). bytes_eq p.0 id && not (is_some p.1)) o false ≡ true → o ≡ Some (id, None)
    go None e = absurd cc
    go (Some p) e =
        let parts = both (bytes_eq p.0 id) (not (is_some p.1)) e in
        let name = (bytes_eq-Decides p.0 id).0 parts.0 in
        let rest = none p.1 parts.1 in
        ap₂ (λ (n : Text) (v : Option Text). Some (n, v)) name rest

inputs_default : (inputs : List InputRow) (n : ℕ) → HasFineDefaults (filled_from n (map input_rule inputs ++ help_rule ∷ []))
inputs_default [] n = (refl, tt)
inputs_default (row ∷ rest) n = (go row.count, inputs_default rest (index_after n (input_rule row)))
  where
    go : (count : Count) → default_fault [] (with_index n (filled (input_rule (record { id = row.id; count = count })))) ≡ []
    go one = refl
    go some = refl
    go any = refl

module _ (policies senders : Bor (List (Bor Text))) where
  abbrev pub option_built : OptionRow → Rule
  option_built row = filled (option_rule policies senders row)

  -- ---- slots of a row

  -- a slot is of an option with this value
  abbrev pub MatchesValue : Value → Slot → Type 0
  MatchesValue no_value (flag id given) = ⊤
  MatchesValue policy (choice id given) = Passes (Some (vp.Names policies)) given
  MatchesValue sender (choice id given) = Passes (Some (vp.Names senders)) given
  MatchesValue (any_word default) (text id given) = ⊤
  MatchesValue a_number (number id given) = ⊤
  MatchesValue value slot = ⊥

  -- each slot is one of the options
  abbrev pub MatchOptions : List OptionRow → List Slot → Type 0
  MatchOptions rows [] = ⊤
  MatchOptions rows (slot ∷ rest) =
      (is_name (slot_id slot) ≡ true) × IsSomeAnd (find (λ (row : OptionRow). bytes_eq row.id (slot_id slot)) rows) (λ row. MatchesValue row.value slot) × MatchOptions rows rest

  -- what is looked up by this id is this rule
  abbrev LooksUp : List Rule → Text → Rule → Type 0
  LooksUp c id a = (arg_by_long c id ≡ Some a) × (arg_by_id c id ≡ Some a)

  looks_first : (t : Bool) (row : OptionRow) (c : List Rule) (id : Text) (found : OptionRow) → bytes_eq row.id id ≡ t
      → (if t then Some row else None) ≡ Some found → (row.id ≡ id) × LooksUp (option_built row ∷ c) id (option_built found)
  looks_first true row c id found is same =
      let built = ap (λ (o : Option OptionRow). option_map_or (λ r. Some (option_built r)) o None) same in
      ((bytes_eq-Decides row.id id).0 is, (rw is built, rw is built))
  looks_first false row c id found is same = absurd cc

  looks_later : (row : OptionRow) (c : List Rule) (id : Text) (a : Rule) → bytes_eq row.id id ≡ false → LooksUp c id a → LooksUp (option_built row ∷ c) id a
  looks_later row c id a is looks = (rw is looks.0, rw is looks.1)

  looks_up : (rows : List OptionRow) (rest : List Rule) (id : Text) (found : OptionRow) → find (λ (row : OptionRow). bytes_eq row.id id) rows ≡ Some found
      → (found.id ≡ id) × LooksUp (map option_built rows ++ rest) id (option_built found)
  looks_up [] rest id found is = absurd cc
  looks_up (row ∷ rows) rest id found is = go (bytes_eq row.id id) refl (looks_up rows rest id found)
    where
      go : (t : Bool) → bytes_eq row.id id ≡ t
          → (find (λ (row : OptionRow). bytes_eq row.id id) rows ≡ Some found → (found.id ≡ id) × LooksUp (map option_built rows ++ rest) id (option_built found))
          → (found.id ≡ id) × LooksUp (option_built row ∷ map option_built rows ++ rest) id (option_built found)
      go true t more =
          let same : Some row ≡ Some found = rw t at is in
          let first = looks_first true row (map option_built rows ++ rest) id found t same in
          let found_is : row ≡ found = ap (λ (o : Option OptionRow). unwrap_or o row) same in
          (ap (λ (r : OptionRow). r.id) (sym found_is) ∙ first.0, first.1)
      go false t more =
          let later = more (rw t at is) in
          let looks = looks_later row (map option_built rows ++ rest) id (option_built found) t later.1 in (later.0, looks)

  fits_one : (s : Shape) (id : Text) (value : Value) (slot : Slot) → slot_id slot ≡ id → IsName id → LooksUp s.rules id (option_built (record { id = id; value = value }))
      → MatchesValue value slot → FitsOption s slot
  fits_one s id no_value (flag i given) same name looks matches = subst (IsFlag s) (sym same) (record { name = name; by_long = looks.0 })
  fits_one s id policy (choice i given) same name looks matches = (
    codes "kept" ∷ [],
    Some (vp.Names policies),
    subst (λ (n : Text). IsOption s n (codes "kept" ∷ []) (Some (vp.Names policies))) (sym same) (record { name = name; by_long = looks.0; by_id = looks.1 }),
    matches,
  )
  fits_one s id sender (choice i given) same name looks matches = (
    codes "any" ∷ [],
    Some (vp.Names senders),
    subst (λ (n : Text). IsOption s n (codes "any" ∷ []) (Some (vp.Names senders))) (sym same) (record { name = name; by_long = looks.0; by_id = looks.1 }),
    matches,
  )
  fits_one s id (any_word default) (text i given) same name looks matches =
      (default ∷ [], subst (λ (n : Text). IsOption s n (default ∷ []) None) (sym same) (record { name = name; by_long = looks.0; by_id = looks.1 }))
  fits_one s id a_number (number i given) same name looks matches =
      ([], subst (λ (n : Text). IsOption s n [] (Some (vp.Unsigned 0 4294967295))) (sym same) (record { name = name; by_long = looks.0; by_id = looks.1 }))
  fits_one s id value slot same name looks matches = absurd matches

  fits_found : (s : Shape) (rows : List OptionRow) (rest : List Rule) (slot : Slot) (found : Option OptionRow) → s.rules ≡ map option_built rows ++ rest
      → find (λ (row : OptionRow). bytes_eq row.id (slot_id slot)) rows ≡ found → is_name (slot_id slot) ≡ true → IsSomeAnd found (λ row. MatchesValue row.value slot) → FitsOption s slot
  fits_found s rows rest slot None rules is name matches = absurd matches
  fits_found s rows rest slot (Some row) rules is name matches =
      let found = looks_up rows rest (slot_id slot) row is in
      let looks = subst (λ (c : List Rule). LooksUp c (slot_id slot) (option_built row)) (sym rules) found.1 in
      fits_one s row.id row.value slot (sym found.0) (name_is row.id (ap is_name found.0 ∙ name)) (subst (λ (i : Text). LooksUp s.rules i (option_built row)) (sym found.0) looks) matches

  -- the slots are options of the command
  pub options_fit : (s : Shape) (rows : List OptionRow) (rest : List Rule) (slots : List Slot) → s.rules ≡ map option_built rows ++ rest → MatchOptions rows slots
      → FitOptions s slots
  options_fit s rows rest [] rules matches = tt
  options_fit s rows rest (slot ∷ slots) rules matches = (fits_found s rows rest slot _ rules refl matches.0 matches.1, options_fit s rows rest slots rules matches.2)

  -- ---- defaults

  abbrev pub default_passes : Type 0
  default_passes = (accepts false (vp.Names policies) (codes "kept") ≡ true) × (accepts false (vp.Names senders) (codes "any") ≡ true)

  option_default : (id : Text) (value : Value) → default_passes → default_fault [] (option_built (record { id = id; value = value })) ≡ []
  option_default id no_value passes = refl
  option_default id policy passes = rw passes.0 refl
  option_default id sender passes = rw passes.1 refl
  option_default id (any_word default) passes = refl
  option_default id a_number passes = refl

  pub defaults_pass : (options : List OptionRow) (inputs : List InputRow) → default_passes
      → HasFineDefaults (map option_built options ++ filled_from 1 (map input_rule inputs ++ help_rule ∷ []))
  defaults_pass [] inputs passes = inputs_default inputs 1
  defaults_pass (row ∷ rest) inputs passes = (option_default row.id row.value passes, defaults_pass rest inputs passes)
