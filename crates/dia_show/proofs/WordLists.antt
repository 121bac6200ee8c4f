-- The words of a text, line by line, and what a look-up finds.
use Rattle.std.proofs.Common.{◌≡◌, ℕ, zero, suc, ◌+◌, ◌<◌, ◌≤◌, Bool, true, false, cond, List, [], ◌∷◌, ◌++◌, length, map, take, get_or, Option, Some, None, Bor, refl, sym, ap, ◌∙◌, append_assoc, arith}
use Rattle.std.specs.Prelude.{nat_lt, not, is_some, option_copied, option_map, slice_get}
use Rattle.std.specs.List.{flat_map}
use Rattle.std.specs.Map.{lookup}
use Rattle.std.specs.Option.{option_or}
use Rattle.std.proofs.lemmas.List.{append-nil}
use Rattle.dia_show.specs.declared.words.ValuesFault.{ValuesFault}
use Rattle.dia_show.specs.declared.words.ValuesFault.TheVariants.{Syntax, Duplicate, Limit}
use Rattle.indexmap.specs.IndexMap.{insert_entry}
use Rattle.dia_show.specs.Words.{Word, fault_from, front_part, after_part, has_form, is_key, is_skipped, line_fault, max_lines, plain_word, word_of, words_by}

-- ---- look-ups

abbrev pub Entry : Type 0
Entry = (Bor (List ℕ) × Bor (List ℕ)) × Bor (List ℕ)

-- what a look-up in the plain words finds is what one in the entries does
pub lookup_plain : (name number : List ℕ) (es : List Entry) → option_map (λ (w : Bor (List ℕ)). w.now) (lookup (λ (k : Bor (List ℕ) × Bor (List ℕ)). is_key name number (k.0.now, k.1.now)) es)
    ≡ lookup (is_key name number) (map plain_word es)
lookup_plain name number [] = refl
lookup_plain name number (e ∷ es) = by (is_key name number (e.0.0.now, e.0.1.now)) (lookup_plain name number es)
  where
    by : (b : Bool) → option_map (λ (w : Bor (List ℕ)). w.now) (lookup (λ (k : Bor (List ℕ) × Bor (List ℕ)). is_key name number (k.0.now, k.1.now)) es) ≡ lookup (is_key name number) (map plain_word es)
        → option_map (λ (w : Bor (List ℕ)). w.now) (cond b (Some e.1) (lookup (λ (k : Bor (List ℕ) × Bor (List ℕ)). is_key name number (k.0.now, k.1.now)) es))
        ≡ cond b (Some e.1.now) (lookup (is_key name number) (map plain_word es))
    by true rest = refl
    by false rest = rest

abbrev pub look_up : List ℕ → List ℕ → List Entry → Option (Bor (List ℕ))
look_up name number es = lookup (λ (k : Bor (List ℕ) × Bor (List ℕ)). is_key name number (k.0.now, k.1.now)) es

pub found_some : (name number : List ℕ) (es : List Entry) (r : Option (Bor (Bor (List ℕ)))) (w : Bor (Bor (List ℕ))) → r ≡ Some w → option_copied r ≡ look_up name number es
    → Some w.now.now ≡ lookup (is_key name number) (map plain_word es)
found_some name number es r w is found =
    ap (λ (o : Option (Bor (List ℕ))). option_map (λ (b : Bor (List ℕ)). b.now) o) (sym (ap option_copied is) ∙ found) ∙ lookup_plain name number es

pub found_none : (name number : List ℕ) (es : List Entry) (r : Option (Bor (Bor (List ℕ)))) → r ≡ None → option_copied r ≡ look_up name number es
    → None ≡ lookup (is_key name number) (map plain_word es)
found_none name number es r is found =
    ap (λ (o : Option (Bor (List ℕ))). option_map (λ (b : Bor (List ℕ)). b.now) o) (sym (ap option_copied is) ∙ found) ∙ lookup_plain name number es

abbrev pub same_key : Bor (List ℕ) × Bor (List ℕ) → Bor (List ℕ) × Bor (List ℕ) → Bool
same_key k j = is_key k.0.now k.1.now (j.0.now, j.1.now)

-- what is inserted where nothing was found stands last
pub insert_plain : (es : List Entry) (k : Bor (List ℕ) × Bor (List ℕ)) (w : Bor (List ℕ)) → lookup (is_key k.0.now k.1.now) (map plain_word es) ≡ None
    → map plain_word (insert_entry same_key es k w) ≡ map plain_word es ++ plain_word (k, w) ∷ []
insert_plain [] k w none = refl
insert_plain (e ∷ es) k w none = by (same_key k e.0) (insert_plain es k w) none
  where
    by : (b : Bool) → (lookup (is_key k.0.now k.1.now) (map plain_word es) ≡ None → map plain_word (insert_entry same_key es k w) ≡ map plain_word es ++ plain_word (k, w) ∷ [])
        → cond b (Some e.1.now) (lookup (is_key k.0.now k.1.now) (map plain_word es)) ≡ None
        → map plain_word (cond b ((e.0, w) ∷ es) (e ∷ insert_entry same_key es k w)) ≡ plain_word e ∷ (map plain_word es ++ plain_word (k, w) ∷ [])
    by true rest n = absurd (let z : Some e.1.now ≡ None = n in cc)
    by false rest n = ap (λ (ws : List Word). plain_word e ∷ ws) (rest n)

-- ---- lines

pub line_at : (ts : List (List ℕ)) (i : ℕ) (line : List ℕ) → i < length ts → line ≡ get_or ts i line → slice_get ts i ≡ Some line
line_at [] i line within is = absurd (omega arith)
line_at (t ∷ ts) zero line within is = ap (λ (x : List ℕ). Some x) (sym is)
line_at (t ∷ ts) (suc i) line within is = line_at ts i line (omega arith) is

-- one line more
taken : (ts : List (List ℕ)) (k m : ℕ) (line : List ℕ) → m ≡ suc k → slice_get ts k ≡ Some line → take m ts ≡ take k ts ++ line ∷ []
taken ts k m line next at = ap (λ (n : ℕ). take n ts) next ∙ by ts k at
  where
    by : (ts : List (List ℕ)) (k : ℕ) → slice_get ts k ≡ Some line → take (suc k) ts ≡ take k ts ++ line ∷ []
    by [] k e = absurd (let z : None ≡ Some line = e in cc)
    by (t ∷ ts) zero e = let same : t ≡ line = (let f : Some t ≡ Some line = e in cc) in ap (λ (x : List ℕ). x ∷ []) same
    by (t ∷ ts) (suc k) e = ap (λ (xs : List (List ℕ)). t ∷ xs) (by ts k e)

words_more : (xs : List (List ℕ)) (line : List ℕ) → flat_map words_by (xs ++ line ∷ []) ≡ flat_map words_by xs ++ words_by line
words_more [] line = append-nil (words_by line)
words_more (x ∷ xs) line = ap (λ (ws : List Word). words_by x ++ ws) (words_more xs line) ∙ sym (append_assoc (words_by x) (flat_map words_by xs) (words_by line))

or_none : (a b : Option ValuesFault) → option_or a b ≡ None → (a ≡ None) × (b ≡ None)
or_none None b e = (refl, e)
or_none (Some f) b e = absurd (let z : Some f ≡ None = e in cc)

no_faults : (n : ℕ) (before : List Word) (xs : List (List ℕ)) (line : List ℕ) → fault_from n before xs ≡ None
    → line_fault (n + length xs) (before ++ flat_map words_by xs) line ≡ None → fault_from n before (xs ++ line ∷ []) ≡ None
no_faults n before [] line none here =
    let same : n ≡ n + 0 = omega arith in
    ap (λ (o : Option ValuesFault). option_or o None)
    (ap (λ (k : ℕ). line_fault k before line) same ∙ ap (λ (ws : List Word). line_fault (n + 0) ws line) (sym (append-nil before)) ∙ here)
no_faults n before (x ∷ xs) line none here =
    let both = or_none (line_fault n before x) (fault_from (n + 1) (before ++ words_by x) xs) none in
    let same : n + 1 + length xs ≡ n + suc (length xs) = omega arith in
    let rest = no_faults (n + 1) (before ++ words_by x) xs line both.1
    (ap (λ (k : ℕ). line_fault k ((before ++ words_by x) ++ flat_map words_by xs) line) same
    ∙ ap (λ (ws : List Word). line_fault (n + suc (length xs)) ws line) (append_assoc before (words_by x) (flat_map words_by xs)) ∙ here) in
    ap (λ (o : Option ValuesFault). option_or o (fault_from (n + 1) (before ++ words_by x) (xs ++ line ∷ []))) both.0 ∙ rest

-- the first line that has a fault
first_fault : (n : ℕ) (before : List Word) (ts : List (List ℕ)) (k : ℕ) (line : List ℕ) (fault : ValuesFault) → slice_get ts k ≡ Some line → fault_from n before (take k ts) ≡ None
    → line_fault (n + k) (before ++ flat_map words_by (take k ts)) line ≡ Some fault → fault_from n before ts ≡ Some fault
first_fault n before [] k line fault at none here = absurd (let z : None ≡ Some line = at in cc)
first_fault n before (t ∷ ts) zero line fault at none here =
    let same : t ≡ line = (let f : Some t ≡ Some line = at in cc) in
    let index : n ≡ n + 0 = omega arith in
    ap (λ (o : Option ValuesFault). option_or o (fault_from (n + 1) (before ++ words_by t) ts))
    (ap (line_fault n before) same ∙ ap (λ (m : ℕ). line_fault m before line) index ∙ ap (λ (ws : List Word). line_fault (n + 0) ws line) (sym (append-nil before)) ∙ here)
first_fault n before (t ∷ ts) (suc k) line fault at none here =
    let both = or_none (line_fault n before t) (fault_from (n + 1) (before ++ words_by t) (take k ts)) none in
    let index : n + 1 + k ≡ n + suc k = omega arith in
    ap (λ (o : Option ValuesFault). option_or o (fault_from (n + 1) (before ++ words_by t) ts)) both.0
    ∙ first_fault (n + 1) (before ++ words_by t) ts k line fault at both.1
    (ap (λ (m : ℕ). line_fault m ((before ++ words_by t) ++ flat_map words_by (take k ts)) line) index
    ∙ ap (λ (ws : List Word). line_fault (n + suc k) ws line) (append_assoc before (words_by t) (flat_map words_by (take k ts))) ∙ here)

-- a line without fault is within the limit
within_limit : (n : ℕ) (before : List Word) (line : List ℕ) → line_fault n before line ≡ None → n ≤ max_lines
within_limit n before line none = by (nat_lt max_lines n) refl none
  where
    by : (b : Bool) → nat_lt max_lines n ≡ b
        → cond b (Some (Limit n)) (cond (is_skipped line) None (cond (not (has_form line)) (Some (Syntax n))
        (cond (is_some (word_of before (front_part line) (front_part (after_part line)))) (Some (Duplicate n)) None))) ≡ None
        → n ≤ max_lines
    by true e f = absurd (let z : Some (Limit n) ≡ None = f in cc)
    by false e f = grind arith

-- ---- what is known of the lines that were read

pub record AreRead (ts : List (List ℕ)) (k number : ℕ) (words : List Word) : Type 0 where
  pub number_is : number ≡ k
  pub within : number ≤ max_lines
  pub words_are : words ≡ flat_map words_by (take k ts)
  pub none : fault_from 1 [] (take k ts) ≡ None

taken_length : (ts : List (List ℕ)) (k : ℕ) (line : List ℕ) → slice_get ts k ≡ Some line → length (take k ts) ≡ k
taken_length [] k line at = absurd (let z : None ≡ Some line = at in cc)
taken_length (t ∷ ts) zero line at = refl
taken_length (t ∷ ts) (suc k) line at = ap suc (taken_length ts k line at)

pub read_more : (ts : List (List ℕ)) (k m number next : ℕ) (line : List ℕ) (old new : List Word) → m ≡ suc k → next ≡ number + 1 → slice_get ts k ≡ Some line → AreRead ts k number old
    → new ≡ old ++ words_by line → line_fault next old line ≡ None → AreRead ts m next new
read_more ts k m number next line old new is_next counted at before added none =
    let place : next ≡ 1 + length (take k ts) = (let l = taken_length ts k line at in omega (arith, before.number_is, counted, l)) in
    let here : line_fault (1 + length (take k ts)) (flat_map words_by (take k ts)) line ≡ None =
    ap (λ (n : ℕ). line_fault n (flat_map words_by (take k ts)) line) (sym place) ∙ ap (λ (ws : List Word). line_fault next ws line) (sym before.words_are) ∙ none in
    let more = taken ts k m line is_next at in
    record {
      number_is = omega (arith, before.number_is, counted, is_next);
      within = within_limit next old line none;
      words_are = added ∙ ap (λ (ws : List Word). ws ++ words_by line) before.words_are ∙ sym (words_more (take k ts) line) ∙ ap (flat_map words_by) (sym more);
      none = ap (fault_from 1 []) more ∙ no_faults 1 [] (take k ts) line before.none here;
    }

pub read_fault : (ts : List (List ℕ)) (k number next : ℕ) (line : List ℕ) (old : List Word) (fault : ValuesFault) → next ≡ number + 1 → slice_get ts k ≡ Some line → AreRead ts k number old
    → line_fault next old line ≡ Some fault → fault_from 1 [] ts ≡ Some fault
read_fault ts k number next line old fault counted at before here =
    let place : next ≡ 1 + k = omega (arith, before.number_is, counted) in
    first_fault 1 [] ts k line fault at before.none
    (ap (λ (n : ℕ). line_fault n (flat_map words_by (take k ts)) line) (sym place) ∙ ap (λ (ws : List Word). line_fault next ws line) (sym before.words_are) ∙ here)
