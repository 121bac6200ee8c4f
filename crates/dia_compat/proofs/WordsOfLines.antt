-- A line is read word by word: which words a pair's line has, and that these words make it one.
use Rattle.std.proofs.Common.{◌≡◌, ℕ, suc, ◌+◌, ◌<◌, Bool, true, false, not, ◌==◌, ◌&&◌, ◌||◌, List, []}
use Rattle.std.proofs.Common.{◌∷◌, ◌++◌, length, take, drop, codes, refl, sym, ap, subst, ◌∙◌, inl, inr, ⊎_elim, arith}
use Rattle.std.specs.Prelude.{◌⊎◌, Option, Some, None, is_some, cond}
use Rattle.std.specs.List.{list_all, list_any, prefix_len, take_while}
use Rattle.std.specs.Char.{is_ascii_alphanumeric, is_ascii_alphabetic}
use Rattle.std.specs.Str.{IsAscii, IsUtf8, bytes_eq}
use Rattle.std.proofs.lemmas.Bool.{and_parts, and_from, or_left, or_right, or_parts, not-true, not_from_true, both_ways, eqb-true}
use Rattle.std.proofs.lemmas.Bool.Decides.{nat_tests}
use Rattle.std.proofs.lemmas.List.{take-append-drop, append_assoc, drop_at, take_at, nil_from_length}
use Rattle.std.proofs.lemmas.Slice.Eq.{bytes_eq-Decides}
use Rattle.std.proofs.lemmas.Str.{IsUtf8-from_ascii}
use Rattle.std.proofs.lemmas.Str.Ascii.{IsAscii-nil, IsAscii-cons}
use Rattle.dia_compat.specs.TableText.{is_blank, is_run_byte, is_name_run, IsSpace, IsGap, IsTail, IsPair}
use Rattle.dia_compat.specs.declared.table.words.PairPart.{PairPart}
use Rattle.dia_compat.specs.declared.table.words.PairPart.TheVariants.{Kind, First, Sign, Second, After}
use Rattle.dia_compat.specs.Words.{is_word_byte, unblanked, first_word, after_word, ArePairWords, PlainWords, words_in, fits, wrong_part}

-- ---- the longest front that passes

abbrev begins : (ℕ → Bool) → List ℕ → Bool
begins p [] = false
begins p (c ∷ cs) = p c

prefix_len-all : (p : ℕ → Bool) (r b : List ℕ) → list_all p r ≡ true → begins p b ≡ false → prefix_len p (r ++ b) ≡ length r
prefix_len-all p [] [] all ends = refl
prefix_len-all p [] (c ∷ b) all ends = rw ends refl
prefix_len-all p (c ∷ r) b all ends =
    let parts = and_parts (p c) (list_all p r) all in
    let first = parts.0 in
    let rest = prefix_len-all p r b parts.1 ends in
    rw (first, rest) (omega arith)

prefix_all : (p : ℕ → Bool) (xs : List ℕ) → list_all p (take (prefix_len p xs) xs) ≡ true
prefix_all p [] = refl
prefix_all p (c ∷ xs) =
    elim (p c) as (λ t. p c ≡ t → list_all p (take (prefix_len p (c ∷ xs)) (c ∷ xs)) ≡ true) [
      | true ↦ λ e. let s : 1 + prefix_len p xs ≡ suc (prefix_len p xs) = omega arith in rw (e, s) (and_from (p c) (list_all p (take (prefix_len p xs) xs)) e (prefix_all p xs))
      | false ↦ λ e. rw e refl
    ] refl

prefix_ends : (p : ℕ → Bool) (xs : List ℕ) → begins p (drop (prefix_len p xs) xs) ≡ false
prefix_ends p [] = refl
prefix_ends p (c ∷ xs) =
    elim (p c) as (λ t. p c ≡ t → begins p (drop (prefix_len p (c ∷ xs)) (c ∷ xs)) ≡ false) [
      | true ↦ λ e. let s : 1 + prefix_len p xs ≡ suc (prefix_len p xs) = omega arith in rw (e, s) (prefix_ends p xs)
      | false ↦ λ e. rw e e
    ] refl

-- ---- the first word and what follows it

-- of a gap, a word and what follows, where the word ends there
pub word_is : (gap word rest : List ℕ) → list_all is_blank gap ≡ true → begins is_blank (word ++ rest) ≡ false → list_all is_word_byte word ≡ true → begins is_word_byte rest ≡ false
    → (first_word (gap ++ (word ++ rest)) ≡ word) × (after_word (gap ++ (word ++ rest)) ≡ rest)
word_is gap word rest blank ends word_bytes stops =
    let same : unblanked (gap ++ (word ++ rest)) ≡ word ++ rest = ap (λ n. drop n (gap ++ (word ++ rest))) (prefix_len-all is_blank gap (word ++ rest) blank ends)
    ∙ drop_at gap (word ++ rest) (length gap) refl in
    let long : prefix_len is_word_byte (word ++ rest) ≡ length word = prefix_len-all is_word_byte word rest word_bytes stops in (
      ap (take_while is_word_byte) same ∙ take_at word rest (prefix_len is_word_byte (word ++ rest)) (sym long),
      ap (λ (t : List ℕ). drop (prefix_len is_word_byte t) t) same ∙ drop_at word rest (prefix_len is_word_byte (word ++ rest)) (sym long),
    )

-- the blanks before the first word
abbrev gap_of : List ℕ → List ℕ
gap_of text = take (prefix_len is_blank text) text

parts_of : (text : List ℕ) → text ≡ gap_of text ++ (first_word text ++ after_word text)
parts_of text =
    sym (take-append-drop (prefix_len is_blank text) text)
    ∙ ap (λ (t : List ℕ). gap_of text ++ t) (sym (take-append-drop (prefix_len is_word_byte (unblanked text)) (unblanked text)))

gap_is_space : (text : List ℕ) → IsSpace (gap_of text)
gap_is_space text = prefix_all is_blank text

stops_after : (text : List ℕ) → begins is_word_byte (after_word text) ≡ false
stops_after text = prefix_ends is_word_byte (unblanked text)

-- ---- bytes

blank_is_no_word : (c : ℕ) → is_blank c ≡ true → is_word_byte c ≡ false
blank_is_no_word c blank = not_from_true (is_blank c || c == 59) (or_left (is_blank c) (c == 59) blank)

word_is_no_blank : (c : ℕ) → is_word_byte c ≡ true → is_blank c ≡ false
word_is_no_blank c word = (or_parts (is_blank c) (c == 59) (not-true (is_blank c || c == 59) word)).0

run_is_word : (c : ℕ) → is_run_byte c ≡ true → is_word_byte c ≡ true
run_is_word c run = grind (arith, nat_tests)

runs_are_words : (r : List ℕ) → list_all is_run_byte r ≡ true → list_all is_word_byte r ≡ true
runs_are_words [] all = refl
runs_are_words (c ∷ r) all =
    let parts = and_parts (is_run_byte c) (list_all is_run_byte r) all in
    and_from (is_word_byte c) (list_all is_word_byte r) (run_is_word c parts.0) (runs_are_words r parts.1)

-- a word with a byte in it
pub record IsWord (word : List ℕ) : Type 0 where
  pub some : 0 < length word
  pub bytes : list_all is_word_byte word ≡ true

pub name_is_word : (name : List ℕ) → is_name_run name ≡ true → IsWord name
name_is_word [] named = cc
name_is_word (c ∷ cs) named =
    let parts = and_parts (is_ascii_alphanumeric c && list_all is_run_byte cs) (list_any is_ascii_alphabetic (c ∷ cs)) named in
    let front = and_parts (is_ascii_alphanumeric c) (list_all is_run_byte cs) parts.0 in
    record {
      some = omega arith;
      bytes = and_from (is_word_byte c) (list_all is_word_byte cs) (run_is_word c (or_left (is_ascii_alphanumeric c) (c == 45) front.0)) (runs_are_words cs front.1);
    }

-- a word begins with no blank, whatever follows it
word_begins : (word rest : List ℕ) → IsWord word → begins is_blank (word ++ rest) ≡ false
word_begins [] rest is = absurd (let h : 0 < length {A = ℕ} [] = is.some in omega arith)
word_begins (c ∷ cs) rest is = word_is_no_blank c (and_parts (is_word_byte c) (list_all is_word_byte cs) is.bytes).0

-- a gap ends a word
gap_stops : (gap rest : List ℕ) → IsGap gap → begins is_word_byte (gap ++ rest) ≡ false
gap_stops [] rest is = absurd (let h : 0 < length {A = ℕ} [] = is.0 in omega arith)
gap_stops (c ∷ cs) rest is = blank_is_no_word c (and_parts (is_blank c) (list_all is_blank cs) is.1).0

-- one word more
word_then : (gap word rest : List ℕ) → IsSpace gap → IsWord word → begins is_word_byte rest ≡ false → (first_word (gap ++ (word ++ rest)) ≡ word) × (after_word (gap ++ (word ++ rest)) ≡ rest)
word_then gap word rest space is stops = word_is gap word rest space (word_begins word rest is) is.bytes stops

-- ---- the end of a line

comment_begins : (comment : List ℕ) → (comment ≡ []) ⊎ ((rest : List ℕ) × (comment ≡ 59 ∷ rest)) → (begins is_blank comment ≡ false) × (begins is_word_byte comment ≡ false)
comment_begins comment (inl e) = (ap (begins is_blank) e, ap (begins is_word_byte) e)
comment_begins comment (inr (rest, e)) = (ap (begins is_blank) e, ap (begins is_word_byte) e)

pub tail_has_no_word : (text : List ℕ) → IsTail text → first_word text ≡ []
tail_has_no_word text (space, comment, is_space, parts, ends) =
    let stops = comment_begins comment ends in
    ap first_word parts ∙ (word_is space [] comment is_space stops.0 refl stops.1).0

tail_stops : (text : List ℕ) → IsTail text → begins is_word_byte text ≡ false
tail_stops text ([], comment, is_space, parts, ends) = ap (begins is_word_byte) parts ∙ (comment_begins comment ends).1
tail_stops text (c ∷ cs, comment, is_space, parts, ends) = ap (begins is_word_byte) parts ∙ gap_stops (c ∷ cs) comment (omega arith, is_space)

ends_of : (rest : List ℕ) → begins is_blank rest ≡ false → begins is_word_byte rest ≡ false → (rest ≡ []) ⊎ ((more : List ℕ) × (rest ≡ 59 ∷ more))
ends_of [] no_blank no_word = inl refl
ends_of (c ∷ cs) no_blank no_word = inr (cs, ap (λ (x : ℕ). x ∷ cs) (eqb-true c 59 (by (is_blank c) (c == 59) no_blank no_word)))
  where
    by : (a b : Bool) → a ≡ false → not (a || b) ≡ false → b ≡ true
    by true b e f = cc
    by false true e f = refl
    by false false e f = cc

pub no_word_is_tail : (text : List ℕ) → first_word text ≡ [] → IsTail text
no_word_is_tail text none =
    let same : unblanked text ≡ after_word text = sym (take-append-drop (prefix_len is_word_byte (unblanked text)) (unblanked text)) ∙ ap (λ (w : List ℕ). w ++ after_word text) none in
    let no_blank : begins is_blank (after_word text) ≡ false = ap (begins is_blank) (sym same) ∙ prefix_ends is_blank text in
    (gap_of text, after_word text, gap_is_space text, parts_of text ∙ ap (λ (w : List ℕ). gap_of text ++ (w ++ after_word text)) none, ends_of (after_word text) no_blank (stops_after text))

-- ---- a pair's line

pub regroup : (a b c d e f g h i : List ℕ) → a ++ b ++ c ++ d ++ e ++ f ++ g ++ h ++ i ≡ a ++ (b ++ (c ++ (d ++ (e ++ (f ++ (g ++ (h ++ i)))))))
regroup a b c d e f g h i = simp append_assoc

sign_is_word : IsWord (codes "=")
sign_is_word = record { some = omega arith; bytes = refl }

-- the words of a pair's line
pub pair_words : (word a b line : List ℕ) → IsWord word → IsPair word a b line → (first_word line ≡ word) × ArePairWords a b (after_word line)
pair_words word a b line is pair =
    let named_a = name_is_word a pair.names.0 in
    let named_b = name_is_word b pair.names.1 in
    let tail = pair.tail in
    let r3 = pair.third ++ (b ++ tail) in
    let r2 = pair.second ++ (codes "=" ++ r3) in
    let r1 = pair.first ++ (a ++ r2) in
    let parts : line ≡ pair.front ++ (word ++ r1) = pair.parts ∙ regroup pair.front word pair.first a pair.second (codes "=") pair.third b tail in
    let w0 = word_then pair.front word r1 pair.is_front is (gap_stops pair.first (a ++ r2) pair.gaps.0) in
    let w1 = word_then pair.first a r2 pair.gaps.0.1 named_a (gap_stops pair.second (codes "=" ++ r3) pair.gaps.1) in
    let w2 = word_then pair.second (codes "=") r3 pair.gaps.1.1 sign_is_word (gap_stops pair.third (b ++ tail) pair.gaps.2) in
    let w3 = word_then pair.third b tail pair.gaps.2.1 named_b (tail_stops tail pair.is_tail) in
    let b0 : after_word line ≡ r1 = ap after_word parts ∙ w0.1 in
    let b1 : after_word (after_word line) ≡ r2 = ap after_word b0 ∙ w1.1 in
    let b2 : after_word (after_word (after_word line)) ≡ r3 = ap after_word b1 ∙ w2.1 in
    let b3 : after_word (after_word (after_word (after_word line))) ≡ tail = ap after_word b2 ∙ w3.1 in (
      ap first_word parts ∙ w0.0,
      record {
        first = ap first_word b0 ∙ w1.0;
        sign = ap first_word b1 ∙ w2.0;
        second = ap first_word b2 ∙ w3.0;
        more = ap first_word b3 ∙ tail_has_no_word tail pair.is_tail;
        names = pair.names;
      },
    )

-- where a word follows another, blanks are between
gap_between : (text word : List ℕ) → begins is_word_byte text ≡ false → first_word text ≡ word → IsWord word → IsGap (gap_of text)
gap_between text word stops e is = by (gap_of text) refl
  where
    by : (gap : List ℕ) → gap_of text ≡ gap → IsGap gap
    by [] none = absurd (clash word (after_word text) is (sym (ap (begins is_word_byte)
        (parts_of text ∙ ap (λ (g : List ℕ). g ++ (first_word text ++ after_word text)) none ∙ ap (λ (w : List ℕ). w ++ after_word text) e)) ∙ stops))
      where
        clash : (w rest : List ℕ) → IsWord w → begins is_word_byte (w ++ rest) ≡ false → ⊥
        clash [] rest is f = let h : 0 < length {A = ℕ} [] = is.some in omega arith
        clash (c ∷ cs) rest is f = both_ways (is_word_byte c) f (and_parts (is_word_byte c) (list_all is_word_byte cs) is.bytes).0
    by (c ∷ cs) some = (omega arith, subst IsSpace some (gap_is_space text))

-- words that make a pair's line
pub words_pair : (word a b line : List ℕ) → first_word line ≡ word → ArePairWords a b (after_word line) → IsPair word a b line
words_pair word a b line e words =
    let t1 = after_word line in
    let t2 = after_word t1 in
    let t3 = after_word t2 in
    let t4 = after_word t3 in
    let p0 : line ≡ gap_of line ++ (word ++ t1) = parts_of line ∙ ap (λ (w : List ℕ). gap_of line ++ (w ++ t1)) e in
    let p1 : t1 ≡ gap_of t1 ++ (a ++ t2) = parts_of t1 ∙ ap (λ (w : List ℕ). gap_of t1 ++ (w ++ t2)) words.first in
    let p2 : t2 ≡ gap_of t2 ++ (codes "=" ++ t3) = parts_of t2 ∙ ap (λ (w : List ℕ). gap_of t2 ++ (w ++ t3)) words.sign in
    let p3 : t3 ≡ gap_of t3 ++ (b ++ t4) = parts_of t3 ∙ ap (λ (w : List ℕ). gap_of t3 ++ (w ++ t4)) words.second in
    record {
      front = gap_of line;
      first = gap_of t1;
      second = gap_of t2;
      third = gap_of t3;
      tail = t4;
      parts = p0 ∙ ap (λ (t : List ℕ). gap_of line ++ (word ++ t)) (p1 ∙ ap (λ (t : List ℕ). gap_of t1 ++ (a ++ t)) (p2 ∙ ap (λ (t : List ℕ). gap_of t2 ++ (codes "=" ++ t)) p3))
          ∙ sym (regroup (gap_of line) word (gap_of t1) a (gap_of t2) (codes "=") (gap_of t3) b t4);
      is_front = gap_is_space line;
      gaps = (
        gap_between t1 a (stops_after line) words.first (name_is_word a words.names.0),
        gap_between t2 (codes "=") (stops_after t1) words.sign sign_is_word,
        gap_between t3 b (stops_after t2) words.second (name_is_word b words.names.1),
      );
      is_tail = no_word_is_tail t4 words.more;
      names = words.names;
    }

-- ---- which part doesn't fit

-- each part of a pair's line has a word that fits there
pub record AllFit (words : PlainWords) : Type 0 where
  pub kind : fits words Kind ≡ true
  pub first : fits words First ≡ true
  pub sign : fits words Sign ≡ true
  pub second : fits words Second ≡ true
  pub following : fits words After ≡ true

pub none_wrong : (words : PlainWords) → AllFit words → wrong_part words ≡ None
none_wrong words all = rw (all.kind, all.first, all.sign, all.second, all.following) refl

-- the first part that doesn't fit, by which do
abbrev misfit : (kind first sign second following : Bool) → Option PairPart
misfit kind first sign second following =
    cond (not kind) (Some Kind) (cond (not first) (Some First) (cond (not sign) (Some Sign) (cond (not second) (Some Second) (cond (not following) (Some After) None))))

five_fit : (kind first sign second following : Bool) → misfit kind first sign second following ≡ None → (kind ≡ true) × (first ≡ true) × (sign ≡ true) × (second ≡ true) × (following ≡ true)
five_fit false first sign second following none = absurd cc
five_fit true false sign second following none = absurd cc
five_fit true true false second following none = absurd cc
five_fit true true true false following none = absurd cc
five_fit true true true true false none = absurd cc
five_fit true true true true true none = (refl, refl, refl, refl, refl)

pub all_fit : (words : PlainWords) → wrong_part words ≡ None → AllFit words
all_fit words none =
    let five = five_fit (fits words Kind) (fits words First) (fits words Sign) (fits words Second) (fits words After) none in
    record { kind = five.0; first = five.1; sign = five.2; second = five.3; following = five.4 }

-- a line whose words all fit is a pair's
pub fit_pair : (line : List ℕ) (words : PlainWords) → words ≡ words_in line → AllFit words → ArePairWords words.first.text words.second.text (after_word line)
fit_pair line words is all = record {
  first = sym (ap (λ (w : PlainWords). w.first.text) is);
  sign = sym (ap (λ (w : PlainWords). w.sign.text) is) ∙ (bytes_eq-Decides words.sign.text (codes "=")).0 all.sign;
  second = sym (ap (λ (w : PlainWords). w.second.text) is);
  more = sym (ap (λ (w : PlainWords). w.more.text) is) ∙ nil_from_length words.more.text (eqb-true (length words.more.text) 0 all.following);
  names = (all.first, all.second);
}

-- and the words of a pair's line all fit
pub pair_fits : (line a b : List ℕ) (words : PlainWords) → words ≡ words_in line → ((first_word line ≡ codes "command") ⊎ (first_word line ≡ codes "avp")) → ArePairWords a b (after_word line) → AllFit words
pair_fits line a b words is kind pair =
    let word : words.kind.text ≡ first_word line = ap (λ (w : PlainWords). w.kind.text) is in
    record {
      kind = ⊎_elim
          (λ e. or_left (bytes_eq words.kind.text (codes "command")) (bytes_eq words.kind.text (codes "avp")) ((bytes_eq-Decides words.kind.text (codes "command")).1 (word ∙ e)))
          (λ e. or_right (bytes_eq words.kind.text (codes "command")) (bytes_eq words.kind.text (codes "avp")) ((bytes_eq-Decides words.kind.text (codes "avp")).1 (word ∙ e)))
          kind;
      first = ap is_name_run (ap (λ (w : PlainWords). w.first.text) is ∙ pair.first) ∙ pair.names.0;
      sign = (bytes_eq-Decides words.sign.text (codes "=")).1 (ap (λ (w : PlainWords). w.sign.text) is ∙ pair.sign);
      second = ap is_name_run (ap (λ (w : PlainWords). w.second.text) is ∙ pair.second) ∙ pair.names.1;
      following = ap (λ (text : List ℕ). length text == 0) (ap (λ (w : PlainWords). w.more.text) is ∙ pair.more);
    }

-- the other of two words
pub other_word : (a b : Bool) → a ≡ false → (a || b) ≡ true → b ≡ true
other_word false b unlike either = either
other_word true b unlike either = absurd cc

pub no_part : (part : Option PairPart) → is_some part ≡ false → part ≡ None
no_part None none = refl
no_part (Some part) none = absurd cc

-- ---- names

run_is_ascii : (c : ℕ) → is_run_byte c ≡ true → c < 128
run_is_ascii c run = grind (arith, nat_tests)

runs_are_ascii : (r : List ℕ) → list_all is_run_byte r ≡ true → IsAscii r
runs_are_ascii [] all = IsAscii-nil
runs_are_ascii (c ∷ r) all =
    let parts = and_parts (is_run_byte c) (list_all is_run_byte r) all in
    IsAscii-cons c r (run_is_ascii c parts.0) (runs_are_ascii r parts.1)

pub name_is_text : (name : List ℕ) → is_name_run name ≡ true → IsUtf8 name
name_is_text [] named = cc
name_is_text (c ∷ cs) named =
    let parts = and_parts (is_ascii_alphanumeric c && list_all is_run_byte cs) (list_any is_ascii_alphabetic (c ∷ cs)) named in
    let front = and_parts (is_ascii_alphanumeric c) (list_all is_run_byte cs) parts.0 in
    IsUtf8-from_ascii (c ∷ cs) (IsAscii-cons c cs (run_is_ascii c (or_left (is_ascii_alphanumeric c) (c == 45) front.0)) (runs_are_ascii cs front.1))
