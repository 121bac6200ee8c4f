-- A part of a line has a byte or more: so a group on one line has no more parts than bytes.
use Rattle.std.proofs.Common.{◌≡◌, ℕ, zero, suc, ◌+◌, ◌<◌, ◌≤◌, ◌^◌, ◌==◌, ◌&&◌, Bool, true, false, if◌then◌else◌, List, [], ◌∷◌, length, take, drop, Option, Some, None, IfSome, Result, Ok, Err, codes, refl, sym, subst, arith}
use Rattle.std.specs.Prelude.{IfOk, ⊤}
use Rattle.std.specs.Option.{option_map}
use Rattle.std.specs.List.{prefix_len, slice_split}
use Rattle.std.proofs.lemmas.Bool.{and_parts}
use Rattle.std.proofs.lemmas.List.{length-drop}
use Rattle.dia_terms.specs.Names.{same_bytes}
use Rattle.dia_data.specs.Plain.{PlainFormat}
use Rattle.dia_book.specs.Dictionary.{Dictionary}
use Rattle.dia_book.proofs.LookUpsByName.{same_bytes-true}
use Rattle.dia_text.specs.declared.fault.Kind.{Kind}
use Rattle.dia_text.specs.declared.fault.Kind.TheVariants.{Syntax, Value}
use Rattle.dia_text.specs.declared.fault.Misfit.{Misfit}
use Rattle.dia_text.specs.declared.fault.Wanted.{Wanted}
use Rattle.dia_text.specs.declared.fault.Wanted.TheVariants as want
use Rattle.dia_text.specs.declared.line.Head.{Head}
use Rattle.dia_text.specs.Words.{is_blank, unblanked, word_length, first_word, after_word, after_letter}
use Rattle.dia_text.specs.Numbers.{number_below, any_below}
use Rattle.dia_text.specs.Reading.{◌>>=◌, some_or, at_word}
use Rattle.dia_text.specs.Fields.{flags_of, flags_field, length_field, bytes_of, padding_field}
use Rattle.dia_text.specs.Keys.{code_of, default_flags, format_at}
use Rattle.dia_text.specs.Values.{number_bytes, family_at, is_no_quote, unescaped, text_at, may_be_text, is_address, value_of, format_wanted, value_wanted, words_at, value_or_text, value_at, takes_remark, is_remark, after_remark, is_time, is_date_of, after_note}
use Rattle.dia_text.specs.PlainLines.{PlainLine, Blank, Leaf, Open, Close}
use Rattle.dia_text.specs.Drafts.{Level, added}
use Rattle.dia_text.specs.Avps.{avp_letters, no_more, head_at, data_at, close_at, avp_at, part_at, in_line}
use Rattle.dia_text.specs.Groups.{member_at, separated, after_part, is_last, padding_of, group_from}
use Rattle.dia_text.proofs.ValidFields.{reads, any, some_fits, at_fits, if_ok}

-- ---- what follows is no longer than the text, or shorter

abbrev Within : {A : Type 0} → List ℕ → Result (A × List ℕ) Misfit → Type 0
Within text r = IfOk r (λ x. length x.1 ≤ length text)

abbrev Shorter : {A : Type 0} → List ℕ → Result (A × List ℕ) Misfit → Type 0
Shorter text r = IfOk r (λ x. length x.1 < length text)

word_within : (text : List ℕ) → length (after_word text) ≤ length text
word_within text = omega (arith, length-drop (prefix_len is_blank text) text, length-drop (word_length (unblanked text)) (unblanked text))

taken_some : (k : ℕ) (text : List ℕ) → 0 < length (take k text) → length (drop k text) < length text
taken_some zero text some = absurd (omega (arith, some))
taken_some (suc k) [] some = absurd (omega (arith, some))
taken_some (suc k) (c ∷ text) some = omega (arith, length-drop k text)

word_shorter : (text : List ℕ) → 0 < length (first_word text) → length (after_word text) < length text
word_shorter text some = omega (arith, length-drop (prefix_len is_blank text) text, taken_some (word_length (unblanked text)) (unblanked text) some)

named_shorter : (text w : List ℕ) → 0 < length w → same_bytes (first_word text) w ≡ true → length (after_word text) < length text
named_shorter text w some e = word_shorter text (subst (λ (t : List ℕ). 0 < length t) (sym (same_bytes-true (first_word text) w e)) some)

two_within : (text : List ℕ) → length (after_word (after_word text)) ≤ length text
two_within text = omega (arith, word_within text, word_within (after_word text))

cut_within : (b : Bool) (text : List ℕ) → length (if b then after_word text else text) ≤ length text
cut_within true text = word_within text
cut_within false text = omega arith

-- ---- values

letter_shorter : (letter : ℕ) (text : List ℕ) → IfSome (after_letter letter text) (λ rest. length rest < length text)
letter_shorter letter [] = tt
letter_shorter letter (c ∷ cs) = by (c == letter)
  where
    by : (b : Bool) → IfSome (if b then Some cs else None) (λ rest. length rest < length (c ∷ cs))
    by true = omega arith
    by false = tt

mapped : {A B : Type 0} (P : B → Type 0) (f : A → B) (o : Option A) → ((x : A) → P (f x)) → IfSome (option_map f o) P
mapped P f (Some x) h = h x
mapped P f None h = tt

weaker : {A : Type 0} (P Q : A → Type 0) (o : Option A) → ((x : A) → P x → Q x) → IfSome o P → IfSome o Q
weaker P Q (Some x) more h = more x h
weaker P Q None more h = tt

longer : {A : Type 0} (P Q : A → Type 0) (r : Result A Misfit) → ((x : A) → P x → Q x) → IfOk r P → IfOk r Q
longer P Q (Ok x) more h = more x h
longer P Q (Err m) more h = tt

text_within : (text : List ℕ) → IfSome (text_at text) (λ x. length x.1 ≤ length text)
text_within text = by (prefix_len is_no_quote text == length text)
  where
    at : ℕ
    at = prefix_len is_no_quote text

    by : (b : Bool) → IfSome {T = List ℕ × List ℕ} (if b then None else option_map (λ bytes. (bytes, drop (at + 1) text)) (unescaped (slice_split (λ c. c == 92) (take at text)))) (λ x. length x.1 ≤ length text)
    by true = tt
    by false = mapped (λ x. length x.1 ≤ length text) (λ bytes. (bytes, drop (at + 1) text)) (unescaped (slice_split (λ c. c == 92) (take at text))) (λ bytes. omega (arith, length-drop (at + 1) text))

family_within : (text : List ℕ) → Within text (family_at text)
unfolding family_at
family_within text =
    reads (λ _. ⊤) (λ x. length x.1 ≤ length text) (at_word text want.Family (number_bytes 2 (number_below (2 ^ 16) (first_word text)))) _ (any (at_word text want.Family (number_bytes 2 (number_below (2 ^ 16) (first_word text)))))
    (λ family u. reads (λ _. ⊤) (λ x. length x.1 ≤ length text) (at_word (after_word text) want.Bytes (bytes_of (first_word (after_word text)))) _ (any (at_word (after_word text) want.Bytes (bytes_of (first_word (after_word text)))))
    (λ address v. two_within text))

value_some : (format : Option PlainFormat) (w : List ℕ) → IfOk (value_of format w) (λ bytes. 0 < length w)
value_some format [] = tt
value_some format (c ∷ cs) = by (value_of format (c ∷ cs))
  where
    by : (r : Result (List ℕ) Kind) → IfOk r (λ bytes. 0 < length (c ∷ cs))
    by (Ok bytes) = omega arith
    by (Err k) = tt

words_shorter : (format : Option PlainFormat) (text : List ℕ) → Shorter text (words_at format text)
unfolding words_at
words_shorter format text = by (is_address format && same_bytes (first_word text) (codes "family")) refl
  where
    read : Result (List ℕ) Misfit
    read = at_word text (value_wanted format (first_word text)) (value_of format (first_word text))

    by : (b : Bool) → (is_address format && same_bytes (first_word text) (codes "family")) ≡ b → Shorter text (if b then family_at (after_word text) else (read >>= λ bytes. Ok (bytes, after_word text)))
    by true e =
        let short = named_shorter text (codes "family") (omega arith) (and_parts (is_address format) (same_bytes (first_word text) (codes "family")) e).1 in
        longer (λ x. length x.1 ≤ length (after_word text)) (λ x. length x.1 < length text) (family_at (after_word text)) (λ x h. omega (arith, h, short)) (family_within (after_word text))
    by false e =
        reads (λ _. 0 < length (first_word text)) (λ x. length x.1 < length text) read _
        (at_fits (λ _. 0 < length (first_word text)) text (value_wanted format (first_word text)) (value_of format (first_word text)) (value_some format (first_word text))) (λ bytes some. word_shorter text some)

value_shorter : (format : Option PlainFormat) (text : List ℕ) → Shorter text (value_at format text)
unfolding value_at
value_shorter format text = by (after_letter 34 (unblanked text)) (letter_shorter 34 (unblanked text))
  where
    by : (o : Option (List ℕ)) → IfSome o (λ rest. length rest < length (unblanked text)) → Shorter text (value_or_text format text o)
    by None h = words_shorter format text
    by (Some rest) h =
        let short : length rest < length text = omega (arith, h, length-drop (prefix_len is_blank text) text) in
        at_fits (λ x. length x.1 < length text) text (format_wanted format) (if may_be_text format then some_or (text_at rest) Value else Err Value)
        (if_ok (λ x. length x.1 < length text) (may_be_text format) (some_or (text_at rest) Value) (Err Value)
        (some_fits (λ x. length x.1 < length text) (text_at rest) Value (weaker (λ x. length x.1 ≤ length rest) (λ x. length x.1 < length text) (text_at rest) (λ x k. omega (arith, k, short)) (text_within rest))) tt)

note_within : (format : Option PlainFormat) (bytes text : List ℕ) → length (after_note format bytes text) ≤ length text
note_within format bytes text =
    let first = cut_within (takes_remark format && is_remark (first_word text)) text in
    let second = cut_within (is_time format && is_date_of bytes (first_word (after_remark format text))) (after_remark format text) in
    omega (arith, first, second)

-- ---- fields

flags_within : (letters : List (ℕ × ℕ)) (flags : Wanted) (default : Option ℕ) (wanted : Wanted) (text : List ℕ) → Within text (flags_field letters flags default wanted text)
unfolding flags_field
flags_within letters flags default wanted text =
    if_ok (λ x. length x.1 ≤ length text) (same_bytes (first_word text) (codes "flags")) _ _
    (reads (λ _. ⊤) (λ x. length x.1 ≤ length text) (at_word (after_word text) flags (some_or (flags_of letters (first_word (after_word text))) Value)) _
    (any (at_word (after_word text) flags (some_or (flags_of letters (first_word (after_word text))) Value))) (λ n u. two_within text))
    (reads (λ _. ⊤) (λ x. length x.1 ≤ length text) (at_word text wanted (some_or default Syntax)) _ (any (at_word text wanted (some_or default Syntax))) (λ n u. omega arith))

length_within : (text : List ℕ) → Within text (length_field text)
unfolding length_field
length_within text =
    if_ok (λ x. length x.1 ≤ length text) (same_bytes (first_word text) (codes "length")) _ _
    (reads (λ _. ⊤) (λ x. length x.1 ≤ length text) (at_word (after_word text) want.AvpLength (some_or (any_below (2 ^ 24) (first_word (after_word text))) Value)) _
    (any (at_word (after_word text) want.AvpLength (some_or (any_below (2 ^ 24) (first_word (after_word text))) Value))) (λ n u. two_within text))
    (omega arith)

padding_within : (text : List ℕ) → Within text (padding_field text)
unfolding padding_field
padding_within text =
    if_ok (λ x. length x.1 ≤ length text) (same_bytes (first_word text) (codes "pad")) _ _
    (reads (λ _. ⊤) (λ x. length x.1 ≤ length text) (at_word (after_word text) want.Bytes (bytes_of (first_word (after_word text)))) _
    (any (at_word (after_word text) want.Bytes (bytes_of (first_word (after_word text))))) (λ n u. two_within text))
    (omega arith)

-- ---- parts

head_within : (d : Dictionary) (text : List ℕ) → Within text (head_at d text)
unfolding head_at
head_within d text =
    reads (λ _. ⊤) (λ x. length x.1 ≤ length text) (at_word text want.AvpName (code_of d (first_word text))) _ (any (at_word text want.AvpName (code_of d (first_word text))))
    (λ code u. reads (λ x. length x.1 ≤ length (after_word text)) (λ x. length x.1 ≤ length text) (flags_field avp_letters want.AvpFlags (Some (default_flags d code)) want.AvpFlags (after_word text)) _
    (flags_within avp_letters want.AvpFlags (Some (default_flags d code)) want.AvpFlags (after_word text))
    (λ flags f. reads (λ x. length x.1 ≤ length flags.1) (λ x. length x.1 ≤ length text) (length_field flags.1) _ (length_within flags.1) (λ len l. omega (arith, word_within text, f, l))))

data_shorter : (d : Dictionary) (head : Head) (text : List ℕ) → Shorter text (data_at d head text)
unfolding data_at
data_shorter d head text =
    reads (λ x. length x.1 < length text) (λ x. length x.1 < length text) (value_at (format_at d head.code) text) _ (value_shorter (format_at d head.code) text)
    (λ value v. reads (λ x. length x.1 ≤ length (after_note (format_at d head.code) value.0 value.1)) (λ x. length x.1 < length text) (padding_field (after_note (format_at d head.code) value.0 value.1)) _
    (padding_within (after_note (format_at d head.code) value.0 value.1)) (λ pad p. omega (arith, v, p, note_within (format_at d head.code) value.0 value.1)))

close_within : (text : List ℕ) → Within text (close_at text)
unfolding close_at
close_within text = reads (λ x. length x.1 ≤ length text) (λ x. length x.1 ≤ length text) (padding_field text) _ (padding_within text) (λ pad p. p)

avp_shorter : (d : Dictionary) (text : List ℕ) → Shorter text (avp_at d text)
unfolding avp_at
avp_shorter d text =
    reads (λ x. length x.1 ≤ length text) (λ x. length x.1 < length text) (head_at d text) _ (head_within d text) (λ head h. by head.0 head.1 h (same_bytes (first_word head.1) (codes "{")) refl)
  where
    by : (head : Head) (rest : List ℕ) → length rest ≤ length text → (b : Bool) → same_bytes (first_word rest) (codes "{") ≡ b → Shorter text (if b then Ok (Open head, after_word rest) else data_at d head rest)
    by head rest h true e = omega (arith, h, named_shorter rest (codes "{") (omega arith) e)
    by head rest h false e = longer (λ x. length x.1 < length rest) (λ x. length x.1 < length text) (data_at d head rest) (λ x k. omega (arith, h, k)) (data_shorter d head rest)

part_shorter : (d : Dictionary) (text : List ℕ) → Shorter text (part_at d text)
unfolding part_at
part_shorter d text = by (same_bytes (first_word text) (codes "}")) refl
  where
    by : (b : Bool) → same_bytes (first_word text) (codes "}") ≡ b → Shorter text (if b then close_at (after_word text) else avp_at d text)
    by true e =
        let short = named_shorter text (codes "}") (omega arith) e in
        longer (λ x. length x.1 ≤ length (after_word text)) (λ x. length x.1 < length text) (close_at (after_word text)) (λ x h. omega (arith, h, short)) (close_within (after_word text))
    by false e = avp_shorter d text

member_shorter : (d : Dictionary) (text : List ℕ) → Shorter text (member_at d text)
unfolding member_at
member_shorter d text = if_ok (λ x. length x.1 < length text) (length (first_word text) == 0) _ (part_at d text) tt (part_shorter d text)

separated_within : (text : List ℕ) → IfOk (separated text) (λ rest. length rest ≤ length text)
unfolding separated
separated_within text =
    if_ok (λ rest. length rest ≤ length text) (same_bytes (first_word text) (codes ",")) (Ok (after_word text)) _ (word_within text)
    (if_ok (λ rest. length rest ≤ length text) (same_bytes (first_word text) (codes "}")) (Ok text) _ (omega arith) tt)

after_within : (part : PlainLine) (text : List ℕ) → IfOk (after_part part text) (λ rest. length rest ≤ length text)
after_within Blank text = omega arith
after_within (Open head) text = omega arith
after_within (Leaf head bytes pad) text = separated_within text
after_within (Close pad) text = separated_within text

-- ---- groups

-- what is read of shorter texts doesn't depend on the bound
abbrev AreAlike : ℕ → ℕ → Dictionary → Head → List ℕ → Type 0
AreAlike n m d head text = (next : Level) (following : List ℕ) → length following < length text → group_from n d head next following ≡ group_from m d head next following

abbrev more : ℕ → Dictionary → Head → PlainLine → List ℕ → Level → Result PlainLine Misfit
more k d head part rest next = after_part part rest >>= λ following. group_from k d head next following

goes : (n m : ℕ) (d : Dictionary) (head : Head) (text rest : List ℕ) (next : Level) → AreAlike n m d head text → length rest < length text → (r : Result (List ℕ) Misfit) → IfOk r (λ following. length following ≤ length rest)
    → (r >>= λ following. group_from n d head next following) ≡ (r >>= λ following. group_from m d head next following)
goes n m d head text rest next alike short (Ok following) h = alike next following (omega (arith, short, h))
goes n m d head text rest next alike short (Err k) h = refl

adds : (n m : ℕ) (d : Dictionary) (head : Head) (text rest : List ℕ) (part : PlainLine) → AreAlike n m d head text → length rest < length text → (r : Result Level Misfit)
    → (r >>= λ next. more n d head part rest next) ≡ (r >>= λ next. more m d head part rest next)
adds n m d head text rest part alike short (Ok next) = goes n m d head text rest next alike short (after_part part rest) (after_within part rest)
adds n m d head text rest part alike short (Err k) = refl

last : (n m : ℕ) (d : Dictionary) (head : Head) (text rest : List ℕ) (part : PlainLine) (ended : Result PlainLine Misfit) (added : Result Level Misfit) → AreAlike n m d head text → length rest < length text → (b : Bool)
    → (if b then ended else (added >>= λ next. more n d head part rest next)) ≡ (if b then ended else (added >>= λ next. more m d head part rest next))
last n m d head text rest part ended added alike short true = refl
last n m d head text rest part ended added alike short false = adds n m d head text rest part alike short added

abbrev taken : ℕ → Dictionary → Head → Level → List ℕ → PlainLine × List ℕ → Result PlainLine Misfit
taken k d head level text part =
    if is_last part.0 level.outer then (no_more part.1 >>= λ end. Ok (Leaf head level.bytes (padding_of part.0)))
    else (in_line d text part.0 (added level part.0) >>= λ next. more k d head part.0 part.1 next)

read : (n m : ℕ) (d : Dictionary) (head : Head) (level : Level) (text : List ℕ) → AreAlike n m d head text → (r : Result (PlainLine × List ℕ) Misfit) → Shorter text r
    → (r >>= taken n d head level text) ≡ (r >>= taken m d head level text)
read n m d head level text alike (Ok part) short =
    last n m d head text part.1 part.0 (no_more part.1 >>= λ end. Ok (Leaf head level.bytes (padding_of part.0))) (in_line d text part.0 (added level part.0)) alike short (is_last part.0 level.outer)
read n m d head level text alike (Err k) short = refl

pub same_group : (n m : ℕ) (d : Dictionary) (head : Head) (level : Level) (text : List ℕ) → length text ≤ n → length text ≤ m → group_from n d head level text ≡ group_from m d head level text
unfolding group_from member_at
same_group zero zero d head level text a b = refl
same_group zero (suc m) d head level [] a b = refl
same_group zero (suc m) d head level (c ∷ text) a b = absurd (omega (arith, a))
same_group (suc n) zero d head level [] a b = refl
same_group (suc n) zero d head level (c ∷ text) a b = absurd (omega (arith, b))
same_group (suc n) (suc m) d head level text a b =
    read n m d head level text (λ next following short. same_group n m d head next following (omega (arith, a, short)) (omega (arith, b, short))) (member_at d text) (member_shorter d text)
