-- Copies of the lists of a book.
use Rattle.std.proofs.Common.{◌≡◌, ◌+◌, ◌≤◌, List, [], ◌∷◌, length, map, refl, ap, ◌∙◌, arith}
use Rattle.std.specs.List.{AllZip, cons_option, range_with_len}
use Rattle.std.proofs.lemmas.List.{length-map}
use Rattle.std.proofs.lemmas.List.Elements.{length_all_zip}
use Rattle.dia_book.specs.declared.Definition.{Definition}
use Rattle.dia_book.specs.Limits.{max_parts}
use Rattle.dia_book.specs.Dictionary.{PlainDefinition, plain_definition}
use Rattle.dia_dict.specs.declared.entry_list.Row.{Row}
use Rattle.dia_dict.specs.PlainMeaning.{entry_of_row, entries_of, dictionary_of, numbers, IsCopyOfRow}

-- lists whose members are copies of one another, by what a function gives of each
pub map_copied : {X Y : Type 0} (f : X → Y) (xs ys : List X) → AllZip (λ x y. f y ≡ f x) xs ys → map f ys ≡ map f xs
map_copied f [] [] same = refl
map_copied f [] (y ∷ ys) same = absurd same
map_copied f (x ∷ xs) [] same = absurd same
map_copied f (x ∷ xs) (y ∷ ys) same = λ i. same.0 i ∷ map_copied f xs ys same.1 i

rows_copied : (groups : List PlainDefinition) (rows others : List Row) → AllZip IsCopyOfRow rows others → map (entry_of_row groups) others ≡ map (entry_of_row groups) rows
rows_copied groups [] [] same = refl
rows_copied groups [] (y ∷ ys) same = absurd same
rows_copied groups (x ∷ xs) [] same = absurd same
rows_copied groups (x ∷ xs) (y ∷ ys) same = λ i. same.0.1 groups i ∷ rows_copied groups xs ys same.1 i

numbers_copied : (rows others : List Row) → AllZip IsCopyOfRow rows others → numbers others ≡ numbers rows
numbers_copied [] [] same = refl
numbers_copied [] (y ∷ ys) same = absurd same
numbers_copied (x ∷ xs) [] same = absurd same
numbers_copied (x ∷ xs) (y ∷ ys) same = λ i. cons_option (same.0.0 i) (numbers_copied xs ys same.1 i)

module _ (rows others : List Row) (groups definitions : List Definition) (same : AllZip IsCopyOfRow rows others)
    (alike : AllZip (λ old new. plain_definition new ≡ plain_definition old) groups definitions) where
  pub entries_copied : entries_of others definitions ≡ entries_of rows groups
  entries_copied =
      ap (λ (gs : List PlainDefinition). map (entry_of_row gs) others) (map_copied plain_definition groups definitions alike) ∙ rows_copied (map plain_definition groups) rows others same

  pub numbered_copied : numbers rows ≡ range_with_len 0 (length groups) → numbers others ≡ range_with_len 0 (length definitions)
  numbered_copied numbered =
      numbers_copied rows others same ∙ numbered
      ∙ ap (range_with_len 0) (length_all_zip (λ (old new : Definition). plain_definition new ≡ plain_definition old) groups definitions alike)

-- copies of the lists of a book mean the same
module _ (rows others : List Row) (groups definitions : List Definition) (commands copies : List Definition) (entries : entries_of others definitions ≡ entries_of rows groups)
    (alike : AllZip (λ old new. plain_definition new ≡ plain_definition old) commands copies) where
  pub dictionary_copied : dictionary_of others (map plain_definition definitions) (map plain_definition copies) ≡ dictionary_of rows (map plain_definition groups) (map plain_definition commands)
  dictionary_copied = let same = map_copied plain_definition commands copies alike in λ i. record { entries = entries i; commands = same i }

  pub few_copied : length rows + length commands ≤ max_parts → length others + length copies ≤ max_parts
  few_copied few =
      omega (
        arith,
        few,
        ap length entries,
        length-map others (entry_of_row (map plain_definition definitions)),
        length-map rows (entry_of_row (map plain_definition groups)),
        length_all_zip (λ (old new : Definition). plain_definition new ≡ plain_definition old) commands copies alike,
      )
