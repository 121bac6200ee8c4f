-- The text of a message, as the one message of a text: `make` writes the message.
use Rattle.std.proofs.Common.{◌≡◌, ℕ, ◌+◌, ◌^◌, ◌==◌, nat_lt, Bool, true, false, if◌then◌else◌, List, [], ◌∷◌, ◌++◌, length, Option, Some, None, Result, Ok, Err, refl, sym, ap, subst, ◌∙◌, append-nil, arith}
use Rattle.std.specs.List.{AllByRecursion, slice_split}
use Rattle.std.proofs.lemmas.Bool.{true≢false, ne_eqb}
use Rattle.std.proofs.lemmas.List.Elements.{All-from_recursion}
use Rattle.dia_wire.specs.declared.Header.{Header}
use Rattle.dia_dict.specs.Dictionary.{Dictionary, IsDictionary}
use Rattle.dia_wire.specs.Written.{header_bytes}
use Rattle.dia_text.specs.declared.fault.Misfit.{Misfit}
use Rattle.dia_text.specs.declared.fault.Wanted.TheVariants.{HeaderLine, ClosingBrace, ShorterMessage}
use Rattle.dia_text.specs.declared.fault.Kind.TheVariants.{Syntax, Braces, Limit}
use Rattle.dia_text.specs.declared.fault.Fault.{Fault}
use Rattle.dia_text.specs.Words.{first_word}
use Rattle.dia_text.specs.Reading.{◌>>=◌}
use Rattle.dia_text.specs.PlainLines.{PlainLine, Blank, Leaf, Open, Close}
use Rattle.dia_text.specs.Lines.{line_of, header_at, header_of}
use Rattle.dia_text.specs.Drafts.{Frame, Level}
use Rattle.dia_text.specs.Made.{lines, made_lines, message_from, body_from, begin, step, finished, line_added, fault_in, fault_at, is_empty, has_word, digits_line, part_text, parts_text}
use Rattle.dia_text.specs.Drafts.{no_level}
use Rattle.dia_text.specs.LineTexts.{leaf_line, open_line, close_line, header_line}
use Rattle.dia_text.specs.TextOf.{IsLevelText, end, leaf, group, IsTextOf, after_data}
use Rattle.dia_text.proofs.Bytes.{AreBytes, bytes_split, bytes_take, bytes_drop, parts_of, fields_of}
use Rattle.dia_text.proofs.WordsBack.{HasNoFeed, lines_back}
use Rattle.dia_text.proofs.HeadersBack.{header_back}
use Rattle.dia_text.proofs.LinesBack.{leaf_back, open_back, blank, blank_added}
use Rattle.dia_text.proofs.TextsBack.{text_back}
use Rattle.dia_text.proofs.Parts.{then_nothing, part_added}

-- ---- lines that say something aren't empty

abbrev says_nothing : Result PlainLine Misfit → Bool
says_nothing (Ok Blank) = true
says_nothing (Ok (Leaf head bytes pad)) = false
says_nothing (Ok (Open head)) = false
says_nothing (Ok (Close pad)) = false
says_nothing (Err kind) = false

line_some : (d : Dictionary) (l : List ℕ) (p : PlainLine) → line_of d l ≡ Ok p → says_nothing (Ok p) ≡ false → is_empty l ≡ false
line_some d [] p is other = absurd (true≢false (ap says_nothing (sym (blank d) ∙ is) ∙ other))
line_some d (c ∷ l) p is other = ne_eqb (length (c ∷ l)) 0 (λ e. omega (arith, e))

-- what a header's line begins with
header_word : (d : Dictionary) (l : List ℕ) (h : Header) → header_of d l ≡ Ok (Some h) → (length (first_word l) == 0) ≡ false
unfolding header_of
header_word d l h is = by (length (first_word l) == 0) refl
  where
    has_none : Result (Option Header) Misfit → Bool
    has_none (Ok None) = true
    has_none (Ok (Some g)) = false
    has_none (Err kind) = false

    by : (b : Bool) → (length (first_word l) == 0) ≡ b → b ≡ false
    by true e = absurd (true≢false (sym (ap (λ (c : Bool). has_none (if c then Ok None else (header_at d l >>= λ header. Ok (Some header)))) e) ∙ ap has_none is))
    by false e = refl

header_some : (d : Dictionary) (l : List ℕ) (h : Header) → header_of d l ≡ Ok (Some h) → is_empty l ≡ false
header_some d [] h is = absurd (true≢false (header_word d [] h is))
header_some d (c ∷ l) h is = ne_eqb (length (c ∷ l)) 0 (λ e. omega (arith, e))

-- a line that isn't empty, and holds no line feed
abbrev pub IsFull : List ℕ → Type 0
IsFull l = HasNoFeed l × (is_empty l ≡ false)

full_both : (a b : List (List ℕ)) → AllByRecursion IsFull a → AllByRecursion IsFull b → AllByRecursion IsFull (a ++ b)
full_both [] b h k = k
full_both (l ∷ a) b (first, h) k = (first, full_both a b h k)

level_full : (d : Dictionary) (level : List ℕ) (ls : List (List ℕ)) → IsDictionary d → IsLevelText d level ls → AreBytes level → AllByRecursion IsFull ls
level_full d level ls sound (end none no_lines) bytes = subst (AllByRecursion IsFull) (sym no_lines) tt
level_full d level ls sound (leaf v front rest word more s parts no_group is_word text is_lines) bytes =
    let (here, there) = bytes_split front rest (subst AreBytes parts bytes) in
    let back = leaf_back d v front word sound (parts_of v front s here) is_word in
    subst (AllByRecursion IsFull) (sym is_lines) ((back.feeds, line_some d (leaf_line d v word (after_data v front)) _ back.reads refl), level_full d rest more sound text there)
level_full d level ls sound (group v front rest members more s parts is_group inner text is_lines) bytes =
    let (here, there) = bytes_split front rest (subst AreBytes parts bytes) in
    let p = parts_of v front s here in
    let back = open_back d v front sound p in
    subst (AllByRecursion IsFull) (sym is_lines) (
      (back.feeds, line_some d (open_line d v) _ back.reads refl),
      full_both members (close_line ∷ more) (level_full d v.bytes members sound inner p.bytes) (((refl, tt), refl), level_full d rest more sound text there),
    )

feeds : (ls : List (List ℕ)) → AllByRecursion IsFull ls → AllByRecursion HasNoFeed ls
feeds [] all = tt
feeds (l ∷ ls) (h, all) = (h.0, feeds ls all)

somes : (ls : List (List ℕ)) → AllByRecursion IsFull ls → AllByRecursion (λ (l : List ℕ). is_empty l ≡ false) ls
somes [] all = tt
somes (l ∷ ls) (h, all) = (h.1, somes ls all)

-- ---- an empty line at the end adds nothing

abbrev is_made : Result (List ℕ) Fault → Bool
is_made (Ok bytes) = true
is_made (Err fault) = false

no_fault : (r : Result (List ℕ) Fault) (f : Fault) (m : List ℕ) → r ≡ Err f → r ≡ Ok m → ⊥
no_fault r f m bad is = true≢false (sym (ap is_made is) ∙ ap is_made bad)

ends_same : (h : Header) (outer : List Frame) (bytes m : List ℕ) (n k : ℕ) → finished h outer bytes n ≡ Ok m → finished h outer bytes k ≡ Ok m
ends_same h (f ∷ outer) bytes m n k is = absurd (no_fault (finished h (f ∷ outer) bytes n) (fault_at n Braces ClosingBrace) m refl is)
ends_same h [] bytes m n k is = by (nat_lt (20 + length bytes) (2 ^ 24)) refl
  where
    whole : List ℕ
    whole = header_bytes h (20 + length bytes) ++ bytes

    by : (b : Bool) → nat_lt (20 + length bytes) (2 ^ 24) ≡ b → finished h [] bytes k ≡ Ok m
    by true e = ap (λ (c : Bool). if c then Ok whole else Err (fault_at k Limit ShorterMessage)) e ∙ sym (ap (λ (c : Bool). if c then Ok whole else Err (fault_at n Limit ShorterMessage)) e) ∙ is
    by false e = absurd (no_fault (finished h [] bytes n) (fault_at n Limit ShorterMessage) m (ap (λ (c : Bool). if c then Ok whole else Err (fault_at n Limit ShorterMessage)) e) is)

-- what follows a line, where what follows is the same with an empty line behind it
line_ends : (d : Dictionary) (h : Header) (l : List ℕ) (ls : List (List ℕ)) (n : ℕ) (m : List ℕ) (r : Result Level Misfit)
    → ((at : Level) → body_from d h (n + 1) (ls ++ ([] ∷ [])) at ≡ Ok m → body_from d h (n + 1) ls at ≡ Ok m)
    → step r l (n + 1) (body_from d h (n + 1) (ls ++ ([] ∷ []))) ≡ Ok m → step r l (n + 1) (body_from d h (n + 1) ls) ≡ Ok m
line_ends d h l ls n m (Ok next) more is = more next is
line_ends d h l ls n m (Err e) more is = absurd (no_fault (Err (fault_in l (n + 1) e)) (fault_in l (n + 1) e) m refl is)

body_ends : (d : Dictionary) (h : Header) (ls : List (List ℕ)) (n : ℕ) (at : Level) (m : List ℕ) → body_from d h n (ls ++ ([] ∷ [])) at ≡ Ok m → body_from d h n ls at ≡ Ok m
body_ends d h [] n at m is =
    ends_same h at.outer at.bytes m (n + 1) n (sym (ap (λ (r : Result Level Misfit). step r [] (n + 1) (body_from d h (n + 1) [])) (blank_added d at)) ∙ is)
body_ends d h (l ∷ ls) n at m is = line_ends d h l ls n m (line_added d l at) (λ next k. body_ends d h ls (n + 1) next m k) is

begun : (d : Dictionary) (h : Header) (l : List ℕ) (ls : List (List ℕ)) → header_of d l ≡ Ok (Some h) → message_from d 0 (l ∷ ls) ≡ body_from d h (0 + 1) ls no_level
begun d h l ls is = ap (λ (r : Result (Option Header) Misfit). begin r l (0 + 1) (message_from d (0 + 1) ls) (λ header. body_from d header (0 + 1) ls no_level)) is

message_ends : (d : Dictionary) (h : Header) (l : List ℕ) (ls : List (List ℕ)) (m : List ℕ) → header_of d l ≡ Ok (Some h) → message_from d 0 (l ∷ (ls ++ ([] ∷ []))) ≡ Ok m → message_from d 0 (l ∷ ls) ≡ Ok m
message_ends d h l ls m head is = begun d h l ls head ∙ body_ends d h ls (0 + 1) no_level m (sym (begun d h l (ls ++ ([] ∷ [])) head) ∙ is)

-- ---- the one message of a text

word_first : (l : List ℕ) (ls : List (List ℕ)) → (length (first_word l) == 0) ≡ false → has_word (l ∷ ls) ≡ true
word_first l ls some = rw some refl

part_is : (d : Dictionary) (ls : List (List ℕ)) (m : List ℕ) → has_word ls ≡ true → message_from d 0 ls ≡ Ok m → part_text d 0 ls ≡ Ok (digits_line m)
part_is d ls m word is = rw (word, is) refl

pub one_made : (d : Dictionary) (message text : List ℕ) → IsDictionary d → AreBytes message → IsTextOf d message text → made_lines d text ≡ Ok (digits_line message)
one_made d message text sound bytes t =
    let h = t.header in
    let first = header_line d h in
    let ls : List (List ℕ) = first ∷ t.lines in
    let back = header_back d h (length message) _ sound (fields_of h (length message) _ t.is_head (bytes_take 20 message bytes)) in
    let full : AllByRecursion IsFull ls = ((back.feeds, header_some d first h back.reads), level_full d _ t.lines sound t.is_body (bytes_drop 20 message bytes)) in
    let all : lines text ≡ ls ++ ([] ∷ []) = ap lines t.is_text ∙ lines_back ls (feeds ls full) in
    let word = header_word d first h back.reads in
    let whole : message_from d 0 (ls ++ ([] ∷ [])) ≡ Ok message = sym (ap (message_from d 0) all) ∙ text_back d message text sound bytes t in
    let part = part_is d ls message (word_first first t.lines word) (message_ends d h first t.lines message back.reads whole) in
    let digits = digits_line message in
    let parts : parts_text d 0 (slice_split is_empty (ls ++ ([] ∷ []))) ≡ Ok digits =
    sym (then_nothing (parts_text d 0 (slice_split is_empty (ls ++ ([] ∷ [])))))
    ∙ part_added d 0 (0 + length ls + 1) [] digits digits (ls ++ ([] ∷ [])) ls [] refl (All-from_recursion (λ (l : List ℕ). is_empty l ≡ false) ls (somes ls full)) part refl refl
    ∙ ap Ok (append-nil digits) in
    ap (λ (xs : List (List ℕ)). if has_word xs then parts_text d 0 (slice_split is_empty xs) else Err (fault_at (length xs) Syntax HeaderLine)) all
    ∙ rw (word_first first (t.lines ++ ([] ∷ [])) word) parts
