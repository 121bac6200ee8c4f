-- A message's text, read back: `make` answers the message.
use Rattle.std.proofs.Common.{◌≡◌, ℕ, ◌+◌, ◌%◌, ◌^◌, ◌<◌, ◌≤◌, List, [], ◌∷◌, ◌++◌, length, take, drop, Option, Some, Result, Ok, refl, sym, ap, subst, ◌∙◌, append_assoc, append-nil, arith}
use Rattle.std.specs.List.{AllByRecursion}
use Rattle.std.proofs.lemmas.Bool.{lt-ltb}
use Rattle.std.proofs.lemmas.List.{length-append, length-drop, take-append-drop}
use Rattle.dia_wire.specs.declared.Header.{Header}
use Rattle.dia_wire.specs.Written.{header_bytes}
use Rattle.dia_wire.proofs.OneHeader.{head_says}
use Rattle.dia_book.specs.Dictionary.{Dictionary, IsDictionary}
use Rattle.dia_text.specs.declared.fault.Misfit.{Misfit}
use Rattle.dia_text.specs.Lines.{header_of}
use Rattle.dia_text.specs.Drafts.{Frame, Level}
use Rattle.dia_text.specs.Made.{lines, made, message_from, body_from, begin, step, finished, line_added}
use Rattle.dia_text.specs.Drafts.{no_level}
use Rattle.dia_text.specs.LineTexts.{leaf_line, open_line, close_line, header_line}
use Rattle.dia_text.specs.TextOf.{IsLevelText, end, leaf, group, IsTextOf, after_data}
use Rattle.dia_text.proofs.Bytes.{AreBytes, bytes_split, bytes_take, bytes_drop, parts_of, fields_of}
use Rattle.dia_text.proofs.WordsBack.{HasNoFeed, lines_back}
use Rattle.dia_text.proofs.HeadersBack.{header_back}
use Rattle.dia_text.proofs.LinesBack.{leaf_back, open_back, leaf_added, open_added, close_added, blank_added, group_ends, framed}

-- ---- levels

line_step : (d : Dictionary) (h : Header) (n : ℕ) (l : List ℕ) (ls : List (List ℕ)) (at next : Level) → line_added d l at ≡ Ok next → body_from d h n (l ∷ ls) at ≡ body_from d h (n + 1) ls next
line_step d h n l ls at next is = ap (λ (r : Result Level Misfit). step r l (n + 1) (body_from d h (n + 1) ls)) is

same_place : (d : Dictionary) (h : Header) (n m : ℕ) (ls : List (List ℕ)) (outer : List Frame) (a b : List ℕ) → n ≡ m → a ≡ b
    → body_from d h n ls (record { outer = outer; bytes = a }) ≡ body_from d h m ls (record { outer = outer; bytes = b })
same_place d h n m ls outer a b lines bytes =
    ap (λ (k : ℕ). body_from d h k ls (record { outer = outer; bytes = a })) lines ∙ ap (λ (t : List ℕ). body_from d h m ls (record { outer = outer; bytes = t })) bytes

both_aligned : (level front rest : List ℕ) → level ≡ front ++ rest → length front % 4 ≡ 0 → length rest % 4 ≡ 0 → length level % 4 ≡ 0
both_aligned level front rest parts a b = omega (arith, ap length parts, length-append front rest, a, b)

pub level_aligned : (d : Dictionary) (level : List ℕ) (ls : List (List ℕ)) → IsLevelText d level ls → length level % 4 ≡ 0
level_aligned d level ls (end none no_lines) = omega (arith, ap length none)
level_aligned d level ls (leaf v front rest word more s parts no_group is_word text is_lines) = both_aligned level front rest parts s.aligned (level_aligned d rest more text)
level_aligned d level ls (group v front rest members more s parts is_group inner text is_lines) = both_aligned level front rest parts s.aligned (level_aligned d rest more text)

level_feeds : (d : Dictionary) (level : List ℕ) (ls : List (List ℕ)) → IsDictionary d → IsLevelText d level ls → AreBytes level → AllByRecursion HasNoFeed ls
level_feeds d level ls sound (end none no_lines) bytes = subst (AllByRecursion HasNoFeed) (sym no_lines) tt
level_feeds d level ls sound (leaf v front rest word more s parts no_group is_word text is_lines) bytes =
    let (here, there) = bytes_split front rest (subst AreBytes parts bytes) in
    subst (AllByRecursion HasNoFeed) (sym is_lines) ((leaf_back d v front word sound (parts_of v front s here) is_word).feeds, level_feeds d rest more sound text there)
level_feeds d level ls sound (group v front rest members more s parts is_group inner text is_lines) bytes =
    let (here, there) = bytes_split front rest (subst AreBytes parts bytes) in
    let p = parts_of v front s here in
    subst (AllByRecursion HasNoFeed) (sym is_lines)
    ((open_back d v front sound p).feeds, feeds_both members (close_line ∷ more) (level_feeds d v.bytes members sound inner p.bytes) ((refl, tt), level_feeds d rest more sound text there))
  where
    feeds_both : (a b : List (List ℕ)) → AllByRecursion HasNoFeed a → AllByRecursion HasNoFeed b → AllByRecursion HasNoFeed (a ++ b)
    feeds_both [] b h k = k
    feeds_both (l ∷ a) b (first, h) k = (first, feeds_both a b h k)

level_back : (d : Dictionary) (h : Header) (level : List ℕ) (ls : List (List ℕ)) → IsDictionary d → IsLevelText d level ls → AreBytes level → (n : ℕ) (at : Level) (after : List (List ℕ))
    → body_from d h n (ls ++ after) at ≡ body_from d h (n + length ls) after (record { outer = at.outer; bytes = at.bytes ++ level })
level_back d h level ls sound (end none no_lines) bytes n at after =
    ap (λ (xs : List (List ℕ)). body_from d h n (xs ++ after) at) no_lines
    ∙ same_place d h n (n + length ls) after at.outer at.bytes (at.bytes ++ level) (omega (arith, ap length no_lines)) (sym (append-nil at.bytes) ∙ ap (λ (t : List ℕ). at.bytes ++ t) (sym none))
level_back d h level ls sound (leaf v front rest word more s parts no_group is_word text is_lines) bytes n at after =
    let (here, there) = bytes_split front rest (subst AreBytes parts bytes) in
    let next : Level = record { outer = at.outer; bytes = at.bytes ++ front } in
    ap (λ (xs : List (List ℕ)). body_from d h n (xs ++ after) at) is_lines
    ∙ line_step d h n (leaf_line d v word (after_data v front)) (more ++ after) at next (leaf_added d v front word at sound (parts_of v front s here) is_word)
    ∙ level_back d h rest more sound text there (n + 1) next after
    ∙ same_place d h (n + 1 + length more) (n + length ls) after at.outer ((at.bytes ++ front) ++ rest) (at.bytes ++ level) (omega (arith, ap length is_lines))
    (append_assoc at.bytes front rest ∙ ap (λ (t : List ℕ). at.bytes ++ t) (sym parts))
level_back d h level ls sound (group v front rest members more s parts is_group inner text is_lines) bytes n at after =
    let (here, there) = bytes_split front rest (subst AreBytes parts bytes) in
    let p = parts_of v front s here in
    let next : Level = record { outer = at.outer; bytes = at.bytes ++ front } in
    let inside : Level = record { outer = (framed v at).outer; bytes = v.bytes } in
    ap (λ (xs : List (List ℕ)). body_from d h n (xs ++ after) at) is_lines
    ∙ line_step d h n (open_line d v) ((members ++ (close_line ∷ more)) ++ after) at (framed v at) (open_added d v front at sound p)
    ∙ ap (λ (xs : List (List ℕ)). body_from d h (n + 1) xs (framed v at)) (append_assoc members (close_line ∷ more) after)
    ∙ level_back d h v.bytes members sound inner p.bytes (n + 1) (framed v at) (close_line ∷ (more ++ after))
    ∙ line_step d h (n + 1 + length members) close_line (more ++ after) inside next (close_added d v front at p (group_ends v front s p (level_aligned d v.bytes members inner)))
    ∙ level_back d h rest more sound text there (n + 1 + length members + 1) next after
    ∙ same_place d h (n + 1 + length members + 1 + length more) (n + length ls) after at.outer ((at.bytes ++ front) ++ rest) (at.bytes ++ level)
    (omega (arith, ap length is_lines, length-append members (close_line ∷ more)))
    (append_assoc at.bytes front rest ∙ ap (λ (t : List ℕ). at.bytes ++ t) (sym parts))

-- ---- messages

begun : (d : Dictionary) (h : Header) (l : List ℕ) (ls : List (List ℕ)) → header_of d l ≡ Ok (Some h) → message_from d 0 (l ∷ ls) ≡ body_from d h (0 + 1) ls no_level
begun d h l ls is = ap (λ (r : Result (Option Header) Misfit). begin r l (0 + 1) (message_from d (0 + 1) ls) (λ header. body_from d header (0 + 1) ls no_level)) is

ends : (h : Header) (message : List ℕ) (n : ℕ) → 20 ≤ length message → length message < 2 ^ 24 → take 20 message ≡ header_bytes h (length message)
    → finished h [] (drop 20 message) n ≡ Ok message
ends h message n long small head =
    let size : 20 + length (drop 20 message) ≡ length message = omega (arith, length-drop 20 message, long) in
    let less : 20 + length (drop 20 message) < 2 ^ 24 = omega (arith, size, small) in
    rw (lt-ltb (20 + length (drop 20 message)) (2 ^ 24) less)
    (ap (λ (k : ℕ). Ok (header_bytes h k ++ drop 20 message)) size ∙ ap (λ (t : List ℕ). Ok (t ++ drop 20 message)) (sym head) ∙ ap Ok (take-append-drop 20 message))

-- the law: the text of a message is made into this message
pub text_back : (d : Dictionary) (message text : List ℕ) → IsDictionary d → AreBytes message → IsTextOf d message text → made d text ≡ Ok message
text_back d message text sound bytes t =
    let h = t.header in
    let body = drop 20 message in
    let head = fields_of h (length message) (take 20 message) t.is_head (bytes_take 20 message bytes) in
    let first = header_back d h (length message) (take 20 message) sound head in
    let body_bytes = bytes_drop 20 message bytes in
    let feeds : AllByRecursion HasNoFeed (header_line d h ∷ t.lines) = (first.feeds, level_feeds d body t.lines sound t.is_body body_bytes) in
    let says = head_says h (length message) message t.is_head in
    ap (λ (x : List ℕ). message_from d 0 (lines x)) t.is_text ∙ ap (message_from d 0) (lines_back (header_line d h ∷ t.lines) feeds)
    ∙ begun d h (header_line d h) (t.lines ++ ([] ∷ [])) first.reads
    ∙ level_back d h body t.lines sound t.is_body body_bytes (0 + 1) no_level ([] ∷ [])
    ∙ line_step d h (0 + 1 + length t.lines) [] [] (record { outer = []; bytes = body }) (record { outer = []; bytes = body }) (blank_added d (record { outer = []; bytes = body }))
    ∙ ends h message (0 + 1 + length t.lines + 1) says.0 head.len head.is
