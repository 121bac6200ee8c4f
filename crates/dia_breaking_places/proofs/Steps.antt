-- Lines and columns after one byte more.
use Rattle.std.proofs.Common.{◌≡◌, ◌⊎◌, ◌<◌, ◌≤◌, ◌+◌, ◌-◌, ◌*◌, inl, inr, ◌∙◌, ℕ, Bool, true, false, cond, List, ◌∷◌, ◌++◌, [], Some, not, length, take, drop, get_or, sym, ap, subst, arith}
use Rattle.std.specs.Prelude.{◌==◌, ◌^◌, min, slice_get}
use Rattle.std.specs.List.{suffix_len}
use Rattle.std.proofs.lemmas.List.{drop-append-le, drop_all, length-take-le, take_more}
use Rattle.std.proofs.lemmas.List.Sums.{count_by_more_no, count_by_more_yes, suffix_len-le-length, suffix_len-take_no, suffix_len-take_yes, sum_by-append}
use Rattle.std.proofs.lemmas.Option.{same_Some, slice_get-get_or, slice_get_within}
use Rattle.std.proofs.lemmas.Bool.{ne_eqb}
use Rattle.dia_explain_places.specs.declared.place.Place.{Place}
use Rattle.dia_book.proofs.Members.{at_append}
use Rattle.dia_breaking_places.specs.Marks.{AreMarks, IsPlaceAt}
use Rattle.dia_explain_places.specs.Places.{characters, column_at, is_inner, line_at, line_front}

abbrev pub is_feed : ℕ → Bool
is_feed c = c == 10

abbrev pub no_feed : ℕ → Bool
no_feed c = not (c == 10)

module _ (text : List ℕ) (at byte : ℕ) (here : slice_get text at ≡ Some byte) where
  within : at < length text
  within = slice_get_within text at byte here

  got : get_or text at byte ≡ byte
  got = same_Some (get_or text at byte) byte (sym (slice_get-get_or text at byte within) ∙ here)

  pub line_after_feed : byte ≡ 10 → line_at text (at + 1) ≡ line_at text at + 1
  line_after_feed is =
      let feeds = count_by_more_yes (λ c. c == 10) text at byte within (ap (λ c. c == 10) (got ∙ is)) in
      omega (arith, feeds)

  pub line_after_other : is_feed byte ≡ false → line_at text (at + 1) ≡ line_at text at
  line_after_other other =
      let feeds = count_by_more_no (λ c. c == 10) text at byte within (ap (λ c. c == 10) got ∙ other) in
      omega (arith, feeds)

  before : at + 1 - 1 ≡ at
  before = omega arith

  pub column_after_feed : byte ≡ 10 → column_at text (at + 1) ≡ 1
  column_after_feed is =
      let line = take (at + 1) text in
      let ends : no_feed (get_or text (at + 1 - 1) byte) ≡ false = ap (λ (n : ℕ). no_feed (get_or text n byte)) before ∙ ap no_feed (got ∙ is) in
      let none : suffix_len no_feed line ≡ 0 = suffix_len-take_no no_feed text (at + 1) byte (omega arith) (omega (arith, within)) ends in
      ap (λ (s : ℕ). 1 + characters (drop (length line - s) line)) none
      ∙ ap (λ (rest : List ℕ). 1 + characters rest) (drop_all (length line - 0) line (omega arith))

  front_after_other : is_feed byte ≡ false → line_front text (at + 1) ≡ line_front text at ++ byte ∷ []
  front_after_other other =
      let line = take (at + 1) text in
      let old = take at text in
      let s = suffix_len no_feed old in
      let passes : no_feed (get_or text (at + 1 - 1) byte) ≡ true = ap (λ (n : ℕ). no_feed (get_or text n byte)) before ∙ ap no_feed got ∙ ap not other in
      let one : suffix_len no_feed line ≡ 1 + s =
      suffix_len-take_yes no_feed text (at + 1) byte (omega arith) (omega (arith, within)) passes ∙ ap (λ (n : ℕ). 1 + suffix_len no_feed (take n text)) before in
      let more : line ≡ old ++ byte ∷ [] = take_more text at byte within ∙ ap (λ (b : ℕ). old ++ b ∷ []) got in
      let long : length line ≡ at + 1 = length-take-le (at + 1) text (omega (arith, within)) in
      let short : length old ≡ at = length-take-le at text (omega (arith, within)) in
      let few : s ≤ length old = suffix_len-le-length no_feed old in
      let from : length line - (1 + s) ≡ length old - s = omega (arith, long, short, few) in
      ap (λ (n : ℕ). drop (length line - n) line) one ∙ ap (λ (n : ℕ). drop n line) from ∙ ap (drop (length old - s)) more
      ∙ drop-append-le (length old - s) old (byte ∷ []) (omega (arith, few))

  characters_after : is_feed byte ≡ false → characters (line_front text (at + 1)) ≡ characters (line_front text at) + characters (byte ∷ [])
  characters_after other = ap characters (front_after_other other) ∙ sum_by-append (λ c. cond (not (is_inner c)) 1 0) (line_front text at) (byte ∷ [])

  pub column_after_inner : is_feed byte ≡ false → is_inner byte ≡ true → column_at text (at + 1) ≡ column_at text at
  column_after_inner other inner =
      let none : characters (byte ∷ []) ≡ 0 = ap (λ (b : Bool). 0 + cond (not b) 1 0) inner in
      let all = characters_after other in
      omega (arith, all, none)

  pub column_after_other : is_feed byte ≡ false → is_inner byte ≡ false → column_at text (at + 1) ≡ column_at text at + 1
  column_after_other other outer =
      let one : characters (byte ∷ []) ≡ 1 = ap (λ (b : Bool). 0 + cond (not b) 1 0) outer in
      let all = characters_after other in
      omega (arith, all, one)

no_feed_is : (byte : ℕ) → (byte ≡ 10 → ⊥) → is_feed byte ≡ false
no_feed_is byte other = ne_eqb byte 10 other

module _ (text : List ℕ) (at byte : ℕ) (here : slice_get text at ≡ Some byte) (small : at < 2 ^ 63) (place : Place) where
  pub after_feed : (line : ℕ) → byte ≡ 10 → line ≡ min (place.line + 1) 18446744073709551615 → IsPlaceAt text at place → IsPlaceAt text (at + 1) (record { line = line; column = 1 })
  after_feed line feed added is =
      let next : line ≡ place.line + 1 = omega (arith, added, is.few_lines, small) in
      let more = line_after_feed text at byte here feed in
      record {
        line_is = omega (arith, next, is.line_is, more);
        column_is = sym (column_after_feed text at byte here feed);
        few_lines = omega (arith, next, is.few_lines);
        few_columns = omega arith;
      }

  pub after_inner : (byte ≡ 10 → ⊥) → true ≡ is_inner byte → IsPlaceAt text at place → IsPlaceAt text (at + 1) place
  after_inner other inner is =
      let apart = no_feed_is byte other in
      record {
        line_is = is.line_is ∙ sym (line_after_other text at byte here apart);
        column_is = is.column_is ∙ sym (column_after_inner text at byte here apart (sym inner));
        few_lines = omega (arith, is.few_lines);
        few_columns = omega (arith, is.few_columns);
      }

  pub after_other : (column : ℕ) → (byte ≡ 10 → ⊥) → false ≡ is_inner byte → column ≡ min (place.column + 1) 18446744073709551615 → IsPlaceAt text at place
      → IsPlaceAt text (at + 1) (record { line = place.line; column = column })
  after_other column other outer added is =
      let apart = no_feed_is byte other in
      let next : column ≡ place.column + 1 = omega (arith, added, is.few_columns, small) in
      let more = column_after_other text at byte here apart (sym outer) in
      record {
        line_is = is.line_is ∙ sym (line_after_other text at byte here apart);
        column_is = omega (arith, next, is.column_is, more);
        few_lines = omega (arith, is.few_lines);
        few_columns = omega (arith, next, is.few_columns);
      }

-- ---- marks

one_there : (new place : Place) (j : ℕ) → slice_get (new ∷ []) j ≡ Some place → (j ≡ 0) × (new ≡ place)
one_there new place j there =
    let first : j ≡ 0 = let within = slice_get_within (new ∷ []) j place there in omega (arith, within) in
    (first, same_Some new place (subst (λ (n : ℕ). slice_get (new ∷ []) n ≡ Some place) first there))

-- a mark more
pub marks_more : (text : List ℕ) (marks : List Place) (i : ℕ) (new : Place) → length marks ≡ i + 1 → IsPlaceAt text (i * 64 + 64) new → AreMarks text marks → AreMarks text (marks ++ new ∷ [])
marks_more text marks i new long is are index place at = by (at_append marks (new ∷ []) index place at)
  where
    by : (slice_get marks index ≡ Some place) ⊎ ((j : ℕ) × (index ≡ length marks + j) × (slice_get (new ∷ []) j ≡ Some place)) → IsPlaceAt text (index * 64) place
    by (inl old) = are index place old
    by (inr (j, last, there)) =
        let (first, same) = one_there new place j there in
        let offset : i * 64 + 64 ≡ index * 64 = omega (arith, last, first, long) in
        subst (λ (p : Place). IsPlaceAt text (index * 64) p) same (subst (λ (n : ℕ). IsPlaceAt text n new) offset is)

pub next_mark : (text : List ℕ) (i : ℕ) (place : Place) → IsPlaceAt text (i * 64 + 64) place → IsPlaceAt text ((i + 1) * 64) place
next_mark text i place is = subst (λ (n : ℕ). IsPlaceAt text n place) (omega arith) is
