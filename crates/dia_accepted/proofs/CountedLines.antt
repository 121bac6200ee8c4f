-- What counts of a line of an answer is what counts of an entry with the same parts.
use Rattle.std.proofs.Common.{◌≡◌, inl, inr, ℕ, suc, ◌+◌, ◌<◌, Bool, true, false, cond, List, [], ◌∷◌, ◌++◌, length}
use Rattle.std.proofs.Common.{take, drop, Option, Some, None, refl, sym, ap, subst, ◌∙◌, append_assoc, arith}
use Rattle.std.specs.Prelude.{◌==◌, ◌||◌, codes, not}
use Rattle.std.specs.List.{prefix_len}
use Rattle.std.specs.Str.{bytes_eq}
use Rattle.std.proofs.lemmas.Bool.{both_ways, eq-eqb, eqb-true}
use Rattle.std.proofs.lemmas.List.{append-nil, append_cancel_left, drop_at, take-append-drop, take_at}
use Rattle.std.proofs.lemmas.List.Folds.{prefix_len-append}
use Rattle.std.proofs.lemmas.Slice.Eq.{bytes_eq-Decides}
use Rattle.dia_accepted.specs.declared.line.Reason.{Reason}
use Rattle.dia_accepted.specs.declared.line.Reason.TheVariants as reasons
use Rattle.dia_accepted.specs.declared.line.Verdict.{Verdict}
use Rattle.dia_accepted.specs.declared.line.Verdict.TheVariants.{Breaks, Undecided}
use Rattle.dia_accepted.specs.Accepted.{accepts, entry}
use Rattle.dia_accepted.specs.Lines.{IsAnswer, PlainLine, cause_words, counted_of, everywhere, is_about_level, is_level_reason}
use Rattle.dia_accepted.specs.Lines.{path, path_words, reason_word, verdict, verdict_words, word}
use Rattle.dia_accepted.specs.Words.{anywhere, begins, cause_of, counted, is_name_byte, subject_len}
use Rattle.dia_accepted.specs.Words.{is_of_level, is_of_path, is_path_byte, path_of, scope}
use Rattle.dia_accepted.proofs.LineParts.{begins_parts}
use Rattle.dia_accepted.proofs.Sets.{or_true}

-- ---- the path

-- no colon is in a path
path_front : (p : Option (List ℕ)) (words rest : List ℕ) → path p words rest → (words ≡ path_words p ++ rest) × (prefix_len is_of_path (path_words p) ≡ length (path_words p))
path_front None words rest is = (is, refl)
path_front (Some names) words rest is =
    let n = prefix_len is_path_byte words in
    let joined = sym (take-append-drop n words) ∙ (λ i. sym is.1.1 i ++ sym is.1.2 i) in
    (joined, ap (prefix_len is_of_path) is.1.1 ∙ by words ∙ sym (ap length is.1.1))
  where
    no_colon : (c : ℕ) → is_path_byte c ≡ true → is_of_path c ≡ true
    no_colon c is = byte (c == 58) refl
      where
        byte : (b : Bool) → (c == 58) ≡ b → not b ≡ true
        byte true e = absurd (both_ways (is_path_byte 58) refl (ap is_path_byte (sym (eqb-true c 58 e)) ∙ is))
        byte false e = refl

    by : (xs : List ℕ) → prefix_len is_of_path (take (prefix_len is_path_byte xs) xs) ≡ length (take (prefix_len is_path_byte xs) xs)
    by [] = refl
    by (x ∷ xs) = step (is_path_byte x) refl (by xs)
      where
        step : (b : Bool) → is_path_byte x ≡ b → prefix_len is_of_path (take (prefix_len is_path_byte xs) xs) ≡ length (take (prefix_len is_path_byte xs) xs)
            → prefix_len is_of_path (take (cond b (1 + prefix_len is_path_byte xs) 0) (x ∷ xs)) ≡ length (take (cond b (1 + prefix_len is_path_byte xs) 0) (x ∷ xs))
        step true e rest =
            let next : 1 + prefix_len is_path_byte xs ≡ suc (prefix_len is_path_byte xs) = omega arith in
            let more : prefix_len is_of_path (x ∷ take (prefix_len is_path_byte xs) xs) ≡ length (x ∷ take (prefix_len is_path_byte xs) xs)
            = ap (λ (b : Bool). cond b (1 + prefix_len is_of_path (take (prefix_len is_path_byte xs) xs)) 0) (no_colon x e) ∙ ap (λ (n : ℕ). 1 + n) rest
            ∙ (let s : 1 + length (take (prefix_len is_path_byte xs) xs) ≡ suc (length (take (prefix_len is_path_byte xs) xs)) = omega arith in s) in
            ap (λ (n : ℕ). prefix_len is_of_path (take n (x ∷ xs))) next ∙ more ∙ ap (λ (n : ℕ). length (take n (x ∷ xs))) (sym next)
        step false e rest = refl

module _ (front rest : List ℕ) (whole : prefix_len is_of_path front ≡ length front) where
  to_colon : prefix_len is_of_path (front ++ 58 ∷ rest) ≡ length front
  to_colon =
      prefix_len-append is_of_path front (58 ∷ rest)
      ∙ ap (λ (b : Bool). cond b (length front + 0) (prefix_len is_of_path front)) (eq-eqb (prefix_len is_of_path front) (length front) whole)
      ∙ (let e : length front + 0 ≡ length front = omega arith in e)

  path_is : path_of (front ++ 58 ∷ rest) ≡ front
  path_is = take_at front (58 ∷ rest) (prefix_len is_of_path (front ++ 58 ∷ rest)) (sym to_colon)

  cause_is : cause_of (front ++ 58 ∷ rest) ≡ 58 ∷ rest
  cause_is = drop_at front (58 ∷ rest) (prefix_len is_of_path (front ++ 58 ∷ rest)) (sym to_colon)

-- ---- the cause

word_then : (letters text next : List ℕ) → word letters text next → (next ≡ [] → ⊥) → text ≡ letters ++ 32 ∷ next
word_then letters text next (inl e) some = e
word_then letters text next (inr e) some = absurd (some e.1)

-- a verdict with a space after it, where a subject follows
verdict_front : (v : Verdict) (text next : List ℕ) → (verdict v).derives text next → (next ≡ [] → ⊥) → text ≡ verdict_words v ++ 32 ∷ next
verdict_front (Breaks reason) text next is some = word_then (reason_word reason) text next is some
verdict_front (Undecided None) text next is some = word_then (codes "undecided") text next (same is.0 is.1 is.2.0) some
  where
    same : (mid : List ℕ) → word (codes "undecided") text mid → next ≡ mid → word (codes "undecided") text next
    same mid w e = subst (word (codes "undecided") text) (sym e) w
verdict_front (Undecided (Some reason)) text next is some =
    let second = word_then (reason_word reason) is.0 next is.2 some in
    let first = word_then (codes "undecided") text is.0 is.1 (λ none. empty (reason_word reason) (sym second ∙ none)) in
    first ∙ ap (λ (xs : List ℕ). codes "undecided " ++ xs) second
  where
    empty : (xs : List ℕ) → xs ++ 32 ∷ next ≡ [] → ⊥
    empty [] e = let z : 32 ∷ next ≡ [] = e in cc
    empty (x ∷ xs) e = let z : x ∷ (xs ++ 32 ∷ next) ≡ [] = e in cc

-- ---- whether it is about a level

abbrev Spaced : Verdict → List ℕ → List ℕ
Spaced v next = codes ": " ++ (verdict_words v ++ 32 ∷ next)

reason_level : (reason : Reason) (next : List ℕ) → is_of_level (Spaced (Breaks reason) next) ≡ is_level_reason reason
reason_level reasons.Command next = refl
reason_level reasons.Application next = refl
reason_level reasons.Proxiable next = refl
reason_level reasons.Missing next = refl
reason_level reasons.TooMany next = refl
reason_level reasons.NotAllowed next = refl
reason_level reasons.Order next = refl
reason_level reasons.Unknown next = refl
reason_level reasons.MBit next = refl
reason_level reasons.Format next = refl
reason_level reasons.Meaning next = refl

undecided_level : (reason : Reason) (next : List ℕ) → is_of_level (Spaced (Undecided (Some reason)) next) ≡ is_level_reason reason
undecided_level reasons.Command next = refl
undecided_level reasons.Application next = refl
undecided_level reasons.Proxiable next = refl
undecided_level reasons.Missing next = refl
undecided_level reasons.TooMany next = refl
undecided_level reasons.NotAllowed next = refl
undecided_level reasons.Order next = refl
undecided_level reasons.Unknown next = refl
undecided_level reasons.MBit next = refl
undecided_level reasons.Format next = refl
undecided_level reasons.Meaning next = refl

module _ (next : List ℕ) (none : (reason : Reason) (other : List ℕ) → ¬ word (reason_word reason) next other) where
  -- no reason of a level comes
  not_this : (reason : Reason) → begins (Spaced (Undecided None) next) (codes ": undecided " ++ (reason_word reason ++ codes " ")) ≡ false
  not_this reason = by (begins (Spaced (Undecided None) next) letters) refl
    where
      letters : List ℕ
      letters = codes ": undecided " ++ (reason_word reason ++ codes " ")

      by : (b : Bool) → begins (Spaced (Undecided None) next) letters ≡ b → b ≡ false
      by true e =
          let rest = drop (length letters) (Spaced (Undecided None) next) in
          let parts : Spaced (Undecided None) next ≡ letters ++ rest = (begins_parts (Spaced (Undecided None) next) letters).0 e in
          let cut : next ≡ (reason_word reason ++ codes " ") ++ rest = append_cancel_left (codes ": undecided ") next ((reason_word reason ++ codes " ") ++ rest) parts in
          absurd (none reason rest (inl (cut ∙ append_assoc (reason_word reason) (codes " ") rest)))
      by false e = refl

  none_level : is_of_level (Spaced (Undecided None) next) ≡ false
  none_level =
      let missing = not_this reasons.Missing in
      let too_many = not_this reasons.TooMany in
      let not_allowed = not_this reasons.NotAllowed in
      let order = not_this reasons.Order in
      (λ i. missing i || (too_many i || (not_allowed i || order i)))

level_is : (v : Verdict) (text next : List ℕ) → (verdict v).derives text next → is_of_level (Spaced v next) ≡ is_about_level v
level_is (Breaks reason) text next is = reason_level reason next
level_is (Undecided None) text next is = none_level next (λ reason other w. is.2.1 reason other (subst (λ (t : List ℕ). word (reason_word reason) t other) is.2.0 w))
level_is (Undecided (Some reason)) text next is = undecided_level reason next

-- ---- the line

module _ (words : List ℕ) (l : PlainLine) (is : IsAnswer words l) where
  abbrev mid : List ℕ
  mid = is.0

  abbrev text : List ℕ
  text = is.2.0

  abbrev next : List ℕ
  next = is.2.2.1.0

  front : (words ≡ path_words l.path ++ mid) × (prefix_len is_of_path (path_words l.path) ≡ length (path_words l.path))
  front = path_front l.path words mid is.1

  words_are : words ≡ path_words l.path ++ 58 ∷ (32 ∷ text)
  words_are = front.0 ∙ ap (λ (xs : List ℕ). path_words l.path ++ xs) is.2.1

  some : next ≡ [] → ⊥
  some none = let z : 0 < prefix_len is_name_byte [] = subst (λ (t : List ℕ). 0 < prefix_len is_name_byte t) none is.2.2.1.2.1.0 in omega (arith, z)

  text_is : text ≡ verdict_words l.verdict ++ 32 ∷ next
  text_is = verdict_front l.verdict text next is.2.2.1.1 some

  next_is : next ≡ l.subject ++ (codes ": " ++ l.detail)
  next_is =
      let subject = is.2.2.1.2.1 in
      let n = subject_len next in
      sym (take-append-drop n next) ∙ (λ i. sym subject.1 i ++ sym subject.2 i)
      ∙ ap (λ (xs : List ℕ). l.subject ++ xs) (is.2.2.1.2.2 ∙ ap (λ (xs : List ℕ). codes ": " ++ xs) (is.2.2.2.0 ∙ append-nil l.detail))

  cause_of_line : cause_of words ≡ cause_words l
  cause_of_line =
      ap cause_of words_are ∙ cause_is (path_words l.path) (32 ∷ text) front.1
      ∙ ap (λ (xs : List ℕ). codes ": " ++ xs) (text_is ∙ ap (λ (xs : List ℕ). verdict_words l.verdict ++ 32 ∷ xs) next_is)
      ∙ sym grouped
    where
      grouped : cause_words l ≡ codes ": " ++ (verdict_words l.verdict ++ 32 ∷ (l.subject ++ (codes ": " ++ l.detail)))
      grouped =
          append_assoc (codes ": " ++ verdict_words l.verdict ++ codes " " ++ l.subject) (codes ": ") l.detail
          ∙ append_assoc (codes ": " ++ verdict_words l.verdict ++ codes " ") l.subject (codes ": " ++ l.detail)
          ∙ append_assoc (codes ": " ++ verdict_words l.verdict) (codes " ") (l.subject ++ (codes ": " ++ l.detail))

  level : is_of_level (cause_of words) ≡ is_about_level l.verdict
  level = ap is_of_level (ap cause_of words_are ∙ cause_is (path_words l.path) (32 ∷ text) front.1 ∙ ap (λ (xs : List ℕ). codes ": " ++ xs) text_is)
      ∙ level_is l.verdict text next is.2.2.1.1

  counted_is : counted words ≡ counted_of l
  counted_is =
      (λ i. scope (level i) (path_of words) ++ cause_of_line i)
      ∙ ap (λ (p : List ℕ). scope (is_about_level l.verdict) p ++ cause_words l) (ap path_of words_are ∙ path_is (path_words l.path) (32 ∷ text) front.1)

  anywhere_is : anywhere words ≡ counted_of (everywhere l)
  anywhere_is = λ i. scope (level i) (codes "*") ++ cause_of_line i

  pub own_accepts : (n : ℕ) (entry_words : List ℕ) → accepts words (entry n entry_words l) ≡ true
  own_accepts n entry_words = ap (λ (b : Bool). b || bytes_eq (anywhere words) (counted_of l)) ((bytes_eq-Decides (counted words) (counted_of l)).1 counted_is)

  pub everywhere_accepts : (n : ℕ) (entry_words : List ℕ) → accepts words (entry n entry_words (everywhere l)) ≡ true
  everywhere_accepts n entry_words =
      ap (λ (b : Bool). bytes_eq (counted words) (counted_of (everywhere l)) || b) ((bytes_eq-Decides (anywhere words) (counted_of (everywhere l))).1 anywhere_is)
      ∙ or_true (bytes_eq (counted words) (counted_of (everywhere l)))
