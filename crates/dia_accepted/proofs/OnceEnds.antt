-- The end of a line of `--once`, which is read from the last commas of a text.
use Rattle.std.proofs.Common.{◌≡◌, inl, inr, ℕ, suc, ◌+◌, ◌-◌, ◌<◌, ◌≤◌, Bool, true, false, cond, List, [], ◌∷◌, ◌++◌}
use Rattle.std.proofs.Common.{length, take, drop, get_or, reverse, Option, Some, None, refl, sym, ap, ◌∙◌, append_assoc}
use Rattle.std.proofs.Common.{arith}
use Rattle.std.specs.Prelude.{nat_lt, ◌==◌, ◌&&◌, codes, not}
use Rattle.std.specs.Char.{is_ascii_digit}
use Rattle.std.specs.List.{list_all, prefix_len}
use Rattle.std.specs.Str.{bytes_eq}
use Rattle.std.proofs.lemmas.Bool.{and_from, and_parts, both_ways, eq-eqb, eqb-true, ltb-true, lt-ltb, not-false, or_cases}
use Rattle.std.proofs.lemmas.List.{append-nil, drop_all, drop_at, drop_more, get_or-append-add, get_or-reverse, get_or_at}
use Rattle.std.proofs.lemmas.List.{length-append, length-drop, length-reverse, length-take-le, take_all, take_at}
use Rattle.std.proofs.lemmas.List.{take-append-drop}
use Rattle.std.proofs.lemmas.List.Folds.{length-prefix_len, list_all-append, list_all_at, prefix_len-append}
use Rattle.std.proofs.lemmas.List.Sums.{prefix_len-le-length, prefix_len_stops, suffix_len_is}
use Rattle.std.proofs.lemmas.Slice.Eq.{bytes_eq-Decides}
use Rattle.dia_accepted.specs.LineReader.{before_last, detail_read, is_count, is_counting, is_noun, is_of_part, is_path}
use Rattle.dia_accepted.specs.LineReader.{is_placing, last_part}
use Rattle.dia_accepted.specs.Lines.{Form, IsCount, counts, detail, one, path, ◌then◌}
use Rattle.dia_accepted.specs.Words.{begins, is_name_byte, is_path_byte}
use Rattle.dia_accepted.proofs.Forms.{Stops}
use Rattle.dia_accepted.proofs.LineParts.{begins_parts}

-- ---- the last comma

has_none : (xs : List ℕ) (k : ℕ) → list_all is_of_part xs ≡ true → k < length xs → is_of_part (get_or xs k 0) ≡ true
has_none xs k all less = by (is_of_part (get_or xs k 0)) refl
  where
    by : (b : Bool) → is_of_part (get_or xs k 0) ≡ b → is_of_part (get_or xs k 0) ≡ true
    by true e = e
    by false e = absurd (both_ways (list_all is_of_part xs) (list_all_at is_of_part xs k 0 less e) all)

module _ (front back : List ℕ) (none : list_all is_of_part back ≡ true) where
  abbrev joined_text : List ℕ
  joined_text = front ++ 44 ∷ back

  total : length joined_text ≡ length front + suc (length back)
  total = length-append front (44 ∷ back)

  passes : (k : ℕ) → length front + 1 ≤ k → k < length joined_text → is_of_part (get_or joined_text k 0) ≡ true
  passes k low high =
      let j = k - (length front + 1) in
      let at : length front + suc j ≡ k = omega arith in
      let less : j < length back = omega (arith, total) in
      ap (λ (n : ℕ). is_of_part (get_or joined_text n 0)) (sym at) ∙ ap is_of_part (get_or-append-add front (44 ∷ back) (suc j) 0) ∙ has_none back j none less

  comma : 0 < length front + 1 → is_of_part (get_or joined_text (length front + 1 - 1) 0) ≡ false
  comma some = let at : length front ≡ length front + 1 - 1 = omega arith in ap is_of_part (get_or_at front 44 back 0 (length front + 1 - 1) at)

  after : prefix_len is_of_part (reverse joined_text) ≡ length joined_text - (length front + 1)
  after = suffix_len_is is_of_part joined_text (length front + 1) 0 (omega (arith, total)) passes comma

  pub last_is : last_part joined_text ≡ back
  last_is =
      let at : length joined_text - prefix_len is_of_part (reverse joined_text) ≡ length front + 1 = omega (arith, after, total) in
      let joined : (front ++ 44 ∷ []) ++ back ≡ joined_text = append_assoc front (44 ∷ []) back in
      let long : length (front ++ 44 ∷ []) ≡ length front + 1 = length-append front (44 ∷ []) in
      ap (λ (n : ℕ). drop n joined_text) at ∙ ap (drop (length front + 1)) (sym joined) ∙ drop_at (front ++ 44 ∷ []) back (length front + 1) long

  pub before_is : before_last joined_text ≡ front
  before_is =
      let at : length joined_text - prefix_len is_of_part (reverse joined_text) - 1 ≡ length front = omega (arith, after, total) in
      ap (λ (n : ℕ). take n joined_text) at ∙ take_at front (44 ∷ back) (length front) refl

last_comma : (text : List ℕ) → 0 < length (before_last text) → text ≡ before_last text ++ 44 ∷ last_part text
last_comma text some =
    let n = prefix_len is_of_part (reverse text) in
    let i = length text - n - 1 in
    let short = length-take-le i text (omega arith) in
    let within : n + 1 < length text = omega (arith, short) in
    let back = length-reverse text in
    let stops = prefix_len_stops is_of_part (reverse text) 0 (omega (arith, within, back)) in
    let here : length text - 1 - n ≡ i = omega arith in
    let comma : get_or text i 0 ≡ 44 = ap (λ (k : ℕ). get_or text k 0) (sym here) ∙ sym (get_or-reverse text n 0 (omega (arith, within)))
    ∙ eqb-true (get_or (reverse text) n 0) 44 (not-false (get_or (reverse text) n 0 == 44) stops) in
    let next : i + 1 ≡ length text - n = omega (arith, within) in
    sym (take-append-drop i text) ∙ ap (λ (xs : List ℕ). take i text ++ xs) (drop_more text i 0 (omega (arith, within)) ∙ (λ j. comma j ∷ drop (next j) text))

-- ---- runs

prefix_taken : (p : ℕ → Bool) (xs : List ℕ) → prefix_len p (take (prefix_len p xs) xs) ≡ prefix_len p xs
prefix_taken p [] = refl
prefix_taken p (x ∷ xs) = by (p x) refl (prefix_taken p xs)
  where
    by : (b : Bool) → p x ≡ b → prefix_len p (take (prefix_len p xs) xs) ≡ prefix_len p xs → prefix_len p (take (cond b (1 + prefix_len p xs) 0) (x ∷ xs)) ≡ cond b (1 + prefix_len p xs) 0
    by true e rest =
        let next : 1 + prefix_len p xs ≡ suc (prefix_len p xs) = omega arith in
        ap (λ (n : ℕ). prefix_len p (take n (x ∷ xs))) next ∙ ap (λ (b : Bool). cond b (1 + prefix_len p (take (prefix_len p xs) xs)) 0) e ∙ ap (λ (n : ℕ). 1 + n) rest
    by false e rest = refl

-- the whole text is of these bytes
whole_run : (p : ℕ → Bool) (xs : List ℕ) → prefix_len p xs ≡ length xs → (xs ≡ take (prefix_len p xs) xs) × ([] ≡ drop (prefix_len p xs) xs)
whole_run p xs e = let most : length xs ≤ prefix_len p xs = omega (arith, e) in (sym (take_all (prefix_len p xs) xs most), sym (drop_all (prefix_len p xs) xs most))

run_whole : (p : ℕ → Bool) (xs : List ℕ) → [] ≡ drop (prefix_len p xs) xs → prefix_len p xs ≡ length xs
run_whole p xs e = let l = ap length e ∙ length-drop (prefix_len p xs) xs in let m = prefix_len-le-length p xs in omega (arith, l, m)

all_of : (p q : ℕ → Bool) → ((c : ℕ) → p c ≡ true → q c ≡ true) → (xs : List ℕ) → prefix_len p xs ≡ length xs → list_all q xs ≡ true
all_of p q from [] e = refl
all_of p q from (x ∷ xs) e = by (p x) refl e (all_of p q from xs)
  where
    by : (b : Bool) → p x ≡ b → cond b (1 + prefix_len p xs) 0 ≡ suc (length xs) → (prefix_len p xs ≡ length xs → list_all q xs ≡ true) → (q x && list_all q xs) ≡ true
    by true is len rest = and_from (q x) (list_all q xs) (from x is) (rest (omega (arith, len)))
    by false is len rest = absurd (omega (arith, len))

-- a comma is of none
no_comma : (p : ℕ → Bool) → p 44 ≡ false → (c : ℕ) → p c ≡ true → is_of_part c ≡ true
no_comma p none c is = by (c == 44) refl
  where
    by : (b : Bool) → (c == 44) ≡ b → not b ≡ true
    by true e = absurd (both_ways (p 44) none (ap p (sym (eqb-true c 44 e)) ∙ is))
    by false e = refl

-- ---- the end of the line

abbrev pub End : List ℕ → Form
End d = one (detail d) then one counts

-- the end with ` command` or ` commands`
abbrev ended : List ℕ → List ℕ → List ℕ → List ℕ
ended n noun names = (44 ∷ (codes " in " ++ (n ++ noun))) ++ 44 ∷ (codes " first in " ++ names)

ended_is : (n noun names : List ℕ) → ended n noun names ≡ codes ", in " ++ (n ++ (noun ++ 44 ∷ (codes " first in " ++ names)))
ended_is n noun names = ap (λ (xs : List ℕ). codes ", in " ++ xs) (append_assoc n noun (44 ∷ (codes " first in " ++ names)))

module _ (text : List ℕ) (placing : is_placing (last_part text) ≡ true) (counting : is_counting (last_part (before_last text)) ≡ true) (some : 0 < length (before_last (before_last text))) where
  abbrev p : List ℕ
  p = last_part text

  abbrev f : List ℕ
  f = before_last text

  abbrev q : List ℕ
  q = last_part f

  abbrev d : List ℕ
  d = before_last f

  abbrev names : List ℕ
  names = drop 10 p

  abbrev m : List ℕ
  m = drop 4 q

  abbrev k : ℕ
  k = prefix_len is_ascii_digit m

  abbrev n : List ℕ
  n = take k m

  placed : (begins p (codes " first in ") ≡ true) × (is_path names ≡ true)
  placed = and_parts (begins p (codes " first in ")) (is_path names) placing

  counted : (begins q (codes " in ") ≡ true) × (is_count m ≡ true)
  counted = and_parts (begins q (codes " in ")) (is_count m) counting

  digits : (nat_lt 0 k ≡ true) × (is_noun (drop k m) ≡ true)
  digits = and_parts (nat_lt 0 k) (is_noun (drop k m)) counted.1

  path_parts : (nat_lt 0 (prefix_len is_name_byte names) ≡ true) × ((prefix_len is_path_byte names == length names) ≡ true)
  path_parts = and_parts (nat_lt 0 (prefix_len is_name_byte names)) (prefix_len is_path_byte names == length names) placed.1

  is_named_path : path (Some names) names []
  is_named_path =
      let less = ltb-true 0 (prefix_len is_name_byte names) path_parts.0 in
      let all = eqb-true (prefix_len is_path_byte names) (length names) path_parts.1 in
      let l = prefix_len-le-length is_name_byte names in
      let w = whole_run is_path_byte names all in
      (less, (omega (arith, less, all, l), w.0, w.1))

  is_number : IsCount n
  is_number =
      let less = ltb-true 0 k digits.0 in
      let same = prefix_taken is_ascii_digit m in
      let w = whole_run is_ascii_digit n (same ∙ sym (length-prefix_len is_ascii_digit m)) in
      (omega (arith, less, same), w.0, w.1)

  abbrev mid : List ℕ
  mid = (44 ∷ q) ++ 44 ∷ p

  parts : text ≡ d ++ mid
  parts =
      let whole_front = take-append-drop (length f - prefix_len is_of_part (reverse f) - 1) f in
      let long : 0 < length f = (let e = ap length whole_front in let l = length-append d (drop (length f - prefix_len is_of_part (reverse f) - 1) f) in omega (arith, e, l, some)) in
      last_comma text long ∙ ap (λ (xs : List ℕ). xs ++ 44 ∷ p) (last_comma f some) ∙ append_assoc d (44 ∷ q) (44 ∷ p)

  mid_is : (noun : List ℕ) → drop k m ≡ noun → mid ≡ codes ", in " ++ (n ++ (noun ++ 44 ∷ (codes " first in " ++ names)))
  mid_is noun e =
      let m_is : m ≡ n ++ noun = sym (take-append-drop k m) ∙ ap (λ (xs : List ℕ). n ++ xs) e in
      let q_is : q ≡ codes " in " ++ (n ++ noun) = (begins_parts q (codes " in ")).0 counted.0 ∙ ap (λ (xs : List ℕ). codes " in " ++ xs) m_is in
      let p_is : p ≡ codes " first in " ++ names = (begins_parts p (codes " first in ")).0 placed.0 in
      (λ i. (44 ∷ q_is i) ++ 44 ∷ p_is i) ∙ ended_is n noun names

  not_empty : d ≡ [] → ⊥
  not_empty e = let l = ap length e in omega (arith, l, some)

  pub ends_so : (End d).derives text []
  ends_so = elim (or_cases (bytes_eq (drop k m) (codes " command")) (bytes_eq (drop k m) (codes " commands")) digits.1) [
    | inl singular ↦ (mid, (parts, not_empty), (n, names, is_number, is_named_path, refl, inl (mid_is (codes " command") ((bytes_eq-Decides (drop k m) (codes " command")).0 singular))))
    | inr plural ↦ (mid, (parts, not_empty), (n, names, is_number, is_named_path, refl, inr (mid_is (codes " commands") ((bytes_eq-Decides (drop k m) (codes " commands")).0 plural))))
  ]

-- ---- a text that ends so is read so

module _ (text d n noun names : List ℕ) (is : text ≡ d ++ (codes ", in " ++ (n ++ (noun ++ 44 ∷ (codes " first in " ++ names))))) (some : d ≡ [] → ⊥)
    (count : IsCount n) (placed : path (Some names) names []) (noun_is : is_noun noun ≡ true) (no_digit : prefix_len is_ascii_digit noun ≡ 0) (whole : list_all is_of_part noun ≡ true) where
  abbrev number_part : List ℕ
  number_part = codes " in " ++ (n ++ noun)

  abbrev path_part : List ℕ
  path_part = codes " first in " ++ names

  abbrev before_path : List ℕ
  before_path = d ++ 44 ∷ number_part

  text_is : text ≡ before_path ++ 44 ∷ path_part
  text_is = is ∙ ap (λ (xs : List ℕ). d ++ xs) (sym (ended_is n noun names)) ∙ sym (append_assoc d (44 ∷ number_part) (44 ∷ path_part))

  all_path : prefix_len is_path_byte names ≡ length names
  all_path = run_whole is_path_byte names placed.1.2

  all_digits : prefix_len is_ascii_digit n ≡ length n
  all_digits = run_whole is_ascii_digit n count.2

  p_whole : list_all is_of_part path_part ≡ true
  p_whole = all_of is_path_byte is_of_part (no_comma is_path_byte refl) names all_path

  q_whole : list_all is_of_part number_part ≡ true
  q_whole = list_all-append is_of_part n noun
      ∙ and_from (list_all is_of_part n) (list_all is_of_part noun) (all_of is_ascii_digit is_of_part (no_comma is_ascii_digit refl) n all_digits) whole

  reads_placing : is_placing (last_part text) ≡ true
  reads_placing =
      let path = and_from (nat_lt 0 (prefix_len is_name_byte names)) (prefix_len is_path_byte names == length names) (lt-ltb 0 (prefix_len is_name_byte names) placed.0)
      (eq-eqb (prefix_len is_path_byte names) (length names) all_path) in
      ap is_placing (ap last_part text_is ∙ last_is before_path path_part p_whole) ∙ and_from (begins path_part (codes " first in ")) (is_path names) ((begins_parts path_part (codes " first in ")).1 names refl) path

  reads_before : before_last text ≡ before_path
  reads_before = ap before_last text_is ∙ before_is before_path path_part p_whole

  digits_are : prefix_len is_ascii_digit (n ++ noun) ≡ length n
  digits_are =
      prefix_len-append is_ascii_digit n noun
      ∙ ap (λ (b : Bool). cond b (length n + prefix_len is_ascii_digit noun) (prefix_len is_ascii_digit n)) (eq-eqb (prefix_len is_ascii_digit n) (length n) all_digits)
      ∙ (omega (arith, no_digit))

  reads_counting : is_counting (last_part (before_last text)) ≡ true
  reads_counting =
      let less : 0 < prefix_len is_ascii_digit (n ++ noun) = omega (arith, digits_are, all_digits, count.0) in
      let rest = drop_at n noun (prefix_len is_ascii_digit (n ++ noun)) (sym digits_are) in
      let number = and_from (nat_lt 0 (prefix_len is_ascii_digit (n ++ noun))) (is_noun (drop (prefix_len is_ascii_digit (n ++ noun)) (n ++ noun)))
      (lt-ltb 0 (prefix_len is_ascii_digit (n ++ noun)) less) (ap is_noun rest ∙ noun_is) in
      ap is_counting (ap last_part reads_before ∙ last_is d number_part q_whole) ∙ and_from (begins number_part (codes " in ")) (is_count (n ++ noun)) ((begins_parts number_part (codes " in ")).1 (n ++ noun) refl) number

  reads_detail : nat_lt 0 (length (before_last (before_last text))) ≡ true
  reads_detail = ap (λ (xs : List ℕ). nat_lt 0 (length xs)) (ap before_last reads_before ∙ before_is d number_part q_whole) ∙ by d some
    where
      by : (xs : List ℕ) → (xs ≡ [] → ⊥) → nat_lt 0 (length xs) ≡ true
      by [] h = absurd (h refl)
      by (x ∷ xs) h = lt-ltb 0 (suc (length xs)) (omega arith)

  pub read_so : (is_placing (last_part text) && (is_counting (last_part (before_last text)) && nat_lt 0 (length (before_last (before_last text))))) ≡ true
  read_so = and_from (is_placing (last_part text)) (is_counting (last_part (before_last text)) && nat_lt 0 (length (before_last (before_last text)))) reads_placing
      (and_from (is_counting (last_part (before_last text))) (nat_lt 0 (length (before_last (before_last text)))) reads_counting reads_detail)

abbrev pub is_once_end : List ℕ → Bool
is_once_end text = is_placing (last_part text) && (is_counting (last_part (before_last text)) && nat_lt 0 (length (before_last (before_last text))))

end_is_read : (text d rest : List ℕ) → (End d).derives text rest → is_once_end text ≡ true
end_is_read text d rest e = elim e.2.5 [
  | inl singular ↦ read_so text d e.2.0 (codes " command") e.2.1 (e.1.0 ∙ ap (λ (xs : List ℕ). d ++ xs) singular) e.1.1 e.2.2 e.2.3 refl refl refl
  | inr plural ↦ read_so text d e.2.0 (codes " commands") e.2.1 (e.1.0 ∙ ap (λ (xs : List ℕ). d ++ xs) plural) e.1.1 e.2.2 e.2.3 refl refl refl
]

-- the detail is read; else no line of `--once` ends so, and one may go on after the text
abbrev pub EndRead : List ℕ → Option (List ℕ) → Type 0
EndRead text None = Stops End text []
EndRead text (Some d) = (End d).derives text []

pub detail_is : (text : List ℕ) → EndRead text (detail_read text)
detail_is text = by (is_once_end text) refl
  where
    reached : (xs : List ℕ) → (d : List ℕ) × (End d).reaches xs []
    reached [] = ([], inl (inl refl))
    reached (x ∷ xs) = (x ∷ xs, inl (inr (sym (append-nil (x ∷ xs)), (λ e. let z : x ∷ xs ≡ [] = e in cc))))

    by : (b : Bool) → is_once_end text ≡ b → EndRead text (cond b (Some (before_last (before_last text))) None)
    by true e =
        let first = and_parts (is_placing (last_part text)) (is_counting (last_part (before_last text)) && nat_lt 0 (length (before_last (before_last text)))) e in
        let second = and_parts (is_counting (last_part (before_last text))) (nat_lt 0 (length (before_last (before_last text)))) first.1 in
        ends_so text first.0 second.0 (ltb-true 0 (length (before_last (before_last text))) second.1)
    by false e = record {
      none = λ d rest ended. both_ways (is_once_end text) e (end_is_read text d rest ended);
      value = (reached text).0;
      reached = (reached text).1;
      furthest = λ d rest r. omega arith;
      ends = (text, sym (append-nil text));
    }
