-- What is found in tables of words, in which the first text for a key counts.
use Rattle.std.proofs.Common.{◌≡◌, ℕ, suc, ◌<◌, Bool, true, false, cond, List, [], ◌∷◌, ◌++◌, length, map, take, get_or, Option, Some, None, refl, sym, ap, subst, ◌∙◌}
use Rattle.std.specs.List.{flat_map}
use Rattle.std.specs.Map.{lookup}
use Rattle.std.specs.Option.{option_or}
use Rattle.std.proofs.Math.Seq.{take-suc}
use Rattle.std.proofs.lemmas.Bool.{and_parts}
use Rattle.std.proofs.lemmas.Grind.{flat_map-append}
use Rattle.std.proofs.lemmas.List.{append-nil, map-append}
use Rattle.std.proofs.lemmas.Slice.Eq.{bytes_eq-Decides}
use Rattle.dia_io.specs.declared.Input.{Input}
use Rattle.dia_io.specs.declared.Input.TheVariants.{Bytes, TooLong}
use Rattle.dia_io.specs.Inputs.{Holds}
use Rattle.dia_show.specs.Words.{IsValuesText, Word, after_part, front_part, is_key, is_skipped, max_values, words_by, words_of}
use Rattle.dia_make.specs.declared.tables.Table.{Table}
use Rattle.dia_make.specs.declared.tables.Tables.{Tables}
use Rattle.dia_make.specs.Numbered.{by_word}
use Rattle.dia_make.specs.Tables.{AreTablesOf, IsTableOf, entries_of}

lookup-append : (q : List ℕ × List ℕ → Bool) (xs ys : List Word) → lookup q (xs ++ ys) ≡ option_or (lookup q xs) (lookup q ys)
lookup-append q [] ys = refl
lookup-append q (x ∷ xs) ys = by (q x.0) (lookup-append q xs ys)
  where
    by : (b : Bool) → lookup q (xs ++ ys) ≡ option_or (lookup q xs) (lookup q ys)
        → cond b (Some x.1) (lookup q (xs ++ ys)) ≡ option_or (cond b (Some x.1) (lookup q xs)) (lookup q ys)
    by true rest = refl
    by false rest = rest

or_nothing : (o : Option (List ℕ)) → o ≡ option_or o None
or_nothing None = refl
or_nothing (Some x) = refl

-- one text more, at the end of both
pub entry_more : (old new : Table) (words : List Word) (e : Word) → entries_of new ≡ entries_of old ++ e ∷ [] → IsTableOf old words → IsTableOf new (words ++ e ∷ [])
entry_more old new words e is same = λ name key.
    let q = is_key name key in
    ap (lookup q) is ∙ lookup-append q (entries_of old) (e ∷ []) ∙ ap (λ (o : Option (List ℕ)). option_or o (lookup q (e ∷ []))) (same name key)
    ∙ sym (lookup-append q words (e ∷ []))

-- a text for a key that has one
pub entry_again : (table : Table) (words : List Word) (n k t v : List ℕ) → lookup (is_key n k) (entries_of table) ≡ Some v → IsTableOf table words
    → IsTableOf table (words ++ ((n, k), t) ∷ [])
entry_again table words n k t v found same = λ name key.
    same name key ∙ by name key (is_key name key (n, k)) refl ∙ sym (lookup-append (is_key name key) words (((n, k), t) ∷ []))
  where
    has : lookup (is_key n k) words ≡ Some v
    has = sym (same n k) ∙ found

    by : (name key : List ℕ) (b : Bool) → is_key name key (n, k) ≡ b
        → lookup (is_key name key) words ≡ option_or (lookup (is_key name key) words) (cond (is_key name key (n, k)) (Some t) None)
    by name key true e =
        let parts = and_parts _ _ e in
        let one : name ≡ n = (bytes_eq-Decides name n).0 parts.0 in
        let two : key ≡ k = (bytes_eq-Decides key k).0 parts.1 in
        let here : lookup (is_key name key) words ≡ Some v = ap (λ (m : List ℕ). lookup (is_key m key) words) one ∙ ap (λ (m : List ℕ). lookup (is_key n m) words) two ∙ has in
        here ∙ sym (ap (λ (o : Option (List ℕ)). option_or o (cond (is_key name key (n, k)) (Some t) None)) here)
    by name key false e =
        or_nothing (lookup (is_key name key) words) ∙ ap (λ (b : Bool). option_or (lookup (is_key name key) words) (cond b (Some t) None)) (sym e)

-- ---- lines

pub line_skipped : (tables : Tables) (words : List Word) (line : List ℕ) → is_skipped line ≡ true → AreTablesOf tables words → AreTablesOf tables (words ++ words_by line)
line_skipped tables words line skipped are =
    subst (AreTablesOf tables) (sym (append-nil words) ∙ ap (λ (b : Bool). words ++ cond b [] (((front_part line, front_part (after_part line)), after_part (after_part line)) ∷ [])) (sym skipped)) are

pub line_added : (new : Tables) (words : List Word) (line name rest number word : List ℕ) → is_skipped line ≡ false → name ≡ front_part line → rest ≡ after_part line
    → number ≡ front_part rest → word ≡ after_part rest → IsTableOf new.words.value (words ++ ((name, number), word) ∷ [])
    → IsTableOf new.numbers.value (map by_word words ++ ((name, word), number) ∷ []) → AreTablesOf new (words ++ words_by line)
line_added new words line name rest number word not_skipped name_is rest_is number_is word_is words_are numbers_are =
    let e : Word = ((name, number), word) in
    let number_in : number ≡ front_part (after_part line) = number_is ∙ ap front_part rest_is in
    let word_in : word ≡ after_part (after_part line) = word_is ∙ ap after_part rest_is in
    let same : e ∷ [] ≡ ((front_part line, front_part (after_part line)), after_part (after_part line)) ∷ [] =
    ap (λ (n : List ℕ). ((n, number), word) ∷ []) name_is ∙ ap (λ (n : List ℕ). ((front_part line, n), word) ∷ []) number_in
    ∙ ap (λ (w : List ℕ). ((front_part line, front_part (after_part line)), w) ∷ []) word_in in
    let by_line : e ∷ [] ≡ words_by line =
    same ∙ ap (λ (b : Bool). cond b [] (((front_part line, front_part (after_part line)), after_part (after_part line)) ∷ [])) (sym not_skipped) in
    let both : AreTablesOf new (words ++ e ∷ []) =
    record { words_are = words_are; numbers_are = subst (IsTableOf new.numbers.value) (sym (map-append by_word words (e ∷ []))) numbers_are } in
    subst (λ (ws : List Word). AreTablesOf new (words ++ ws)) by_line both

-- the words of one line more
pub lines_more : (ts : List (List ℕ)) (k m : ℕ) (line : List ℕ) → m ≡ suc k → k < length ts → line ≡ get_or ts k line → flat_map words_by (take k ts) ++ words_by line ≡ flat_map words_by (take m ts)
lines_more ts k m line next within is =
    let one : words_by line ≡ flat_map words_by (line ∷ []) = sym (append-nil (words_by line)) in
    ap (λ (ws : List Word). flat_map words_by (take k ts) ++ ws) one ∙ sym (flat_map-append words_by (take k ts) (line ∷ []))
    ∙ ap (λ (l : List ℕ). flat_map words_by (take k ts ++ l ∷ [])) is ∙ ap (flat_map words_by) (sym (take-suc ts k line within))
    ∙ ap (λ (n : ℕ). flat_map words_by (take n ts)) (sym next)

-- the tables of an input's text are those of its words
pub same_values : (input : Input) (tables : Tables) (words : List Word) (bytes text : List ℕ) → IsValuesText input words → Holds input max_values bytes → text ≡ bytes
    → AreTablesOf tables (words_of text) → AreTablesOf tables words
same_values (Bytes v) tables words bytes text (t, held, utf8, none, is) holds same are =
    let e : text ≡ t = same ∙ sym holds.0 ∙ held.0 in
    subst (AreTablesOf tables) (ap words_of e ∙ sym is) are
same_values TooLong tables words bytes text (t, held, utf8, none, is) holds same are = absurd held
