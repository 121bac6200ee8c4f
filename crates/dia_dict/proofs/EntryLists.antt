-- Rows that are added to a list of entries.
use Rattle.std.proofs.Common.{◌≡◌, ℕ, zero, suc, ◌+◌, Bool, true, false, List, [], ◌∷◌, ◌++◌, length, map, Option, Some, None, refl, sym, ap, ◌∙◌, arith}
use Rattle.std.specs.Prelude.{slice_get, option_and_then, if◌then◌else◌}
use Rattle.std.specs.List.{range_with_len, cons_option}
use Rattle.std.proofs.lemmas.List.{map_push, append-nil, length-map, length_push}
use Rattle.std.proofs.lemmas.List.Elements.{filter_map-append}
use Rattle.dia_book.specs.Dictionary.{PlainDefinition, plain_definition}
use Rattle.dia_dict.specs.PlainMeaning.{entry_of_row, entries_of, numbers}
use Rattle.dia_book.specs.declared.Definition.{Definition}
use Rattle.dia_dict.specs.declared.entry_list.Row.{Row}
use Rattle.dia_book.proofs.Lists.{map-agree}
use Rattle.dia_book.proofs.NumberedGroups.{number_at, slice_get-append_left, slice_get-append_at}

range-more : (start n : ℕ) → range_with_len start n ++ (start + n) ∷ [] ≡ range_with_len start (suc n)
range-more start zero = ap (λ k. k ∷ []) (let e : start + 0 ≡ start = omega arith in e)
range-more start (suc n) =
    ap (λ k. start ∷ (range_with_len (start + 1) n ++ k ∷ [])) (let e : start + suc n ≡ (start + 1) + n = omega arith in e)
    ∙ ap (λ ks. start ∷ ks) (range-more (start + 1) n)

module _ (rows : List Row) (groups : List Definition) (row : Row) where
  pub numbers-push_none : row.group ≡ None → numbers rows ≡ range_with_len 0 (length groups) → numbers (rows ++ row ∷ []) ≡ range_with_len 0 (length groups)
  numbers-push_none none numbered =
      filter_map-append (λ (r : Row). r.group) rows (row ∷ []) ∙ ap (λ o. numbers rows ++ cons_option o []) none ∙ append-nil (numbers rows) ∙ numbered

  -- the row was added, or there was no memory
  pub numbers-pushed : (b : Bool) (next : List Row) → next ≡ (if b then rows ++ row ∷ [] else rows) → row.group ≡ None
      → numbers rows ≡ range_with_len 0 (length groups) → numbers next ≡ range_with_len 0 (length groups)
  numbers-pushed true next e none numbered = ap numbers e ∙ numbers-push_none none numbered
  numbers-pushed false next e none numbered = ap numbers e ∙ numbered

  module _ (definition : Definition) (some : row.group ≡ Some (length groups)) (numbered : numbers rows ≡ range_with_len 0 (length groups)) where
    pub numbers-push_some : numbers (rows ++ row ∷ []) ≡ range_with_len 0 (length (groups ++ definition ∷ []))
    numbers-push_some =
        filter_map-append (λ (r : Row). r.group) rows (row ∷ []) ∙ ap (λ o. numbers rows ++ cons_option o []) some ∙ ap (λ ks. ks ++ length groups ∷ []) numbered
        ∙ ap (λ k. range_with_len 0 (length groups) ++ k ∷ []) (let e : length groups ≡ 0 + length groups = omega arith in e) ∙ range-more 0 (length groups)
        ∙ ap (range_with_len 0) (let e : suc (length groups) ≡ length (groups ++ definition ∷ []) = omega (arith, length_push groups definition) in e)

    grown : (i : ℕ) (r : Row) → slice_get rows i ≡ Some r → entry_of_row (map plain_definition groups ++ plain_definition definition ∷ []) r ≡ entry_of_row (map plain_definition groups) r
    grown i r at = by r.group refl
      where
        by : (o : Option ℕ) → r.group ≡ o → entry_of_row (map plain_definition groups ++ plain_definition definition ∷ []) r ≡ entry_of_row (map plain_definition groups) r
        by None none = ap (λ (p : Option PlainDefinition). record (entry_of_row [] r) { group = p })
            (ap (option_and_then (slice_get (map plain_definition groups ++ plain_definition definition ∷ []))) none ∙ sym (ap (option_and_then (slice_get (map plain_definition groups))) none))
        by (Some k) here =
            let within = (number_at (λ (x : Row). x.group) rows 0 (length groups) i k r numbered at here).1 in
            ap (λ (p : Option PlainDefinition). record (entry_of_row [] r) { group = p })
            (ap (option_and_then (slice_get (map plain_definition groups ++ plain_definition definition ∷ []))) here
            ∙ slice_get-append_left (map plain_definition groups) (plain_definition definition ∷ []) k (omega (arith, within, length-map groups plain_definition))
            ∙ sym (ap (option_and_then (slice_get (map plain_definition groups))) here))

    pub entries_of-push_some : entries_of (rows ++ row ∷ []) (groups ++ definition ∷ []) ≡ entries_of rows groups ++ record (entry_of_row [] row) { group = Some (plain_definition definition) } ∷ []
    entries_of-push_some =
        ap (λ gs. map (entry_of_row gs) (rows ++ row ∷ [])) (map_push plain_definition groups definition)
        ∙ map_push (entry_of_row (map plain_definition groups ++ plain_definition definition ∷ [])) rows row
        ∙ ap (λ es. es ++ entry_of_row (map plain_definition groups ++ plain_definition definition ∷ []) row ∷ [])
        (map-agree (entry_of_row (map plain_definition groups ++ plain_definition definition ∷ [])) (entry_of_row (map plain_definition groups)) rows grown)
        ∙ ap (λ (p : Option PlainDefinition). entries_of rows groups ++ record (entry_of_row [] row) { group = p } ∷ [])
        (ap (option_and_then (slice_get (map plain_definition groups ++ plain_definition definition ∷ []))) (some ∙ ap (λ (n : ℕ). Some n) (sym (length-map groups plain_definition)))
        ∙ slice_get-append_at (map plain_definition groups) [] (plain_definition definition))
