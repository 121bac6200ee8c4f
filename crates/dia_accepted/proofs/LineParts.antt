-- What the reader takes from the front of a text is what the parts of a line are there.
use Rattle.std.proofs.Common.{◌≡◌, ◌⊎◌, inl, inr, ℕ, ◌+◌, ◌<◌, ◌≤◌, Bool, true, false, cond, List, [], ◌∷◌, ◌++◌, length}
use Rattle.std.proofs.Common.{take, drop, get_or, Option, Some, None, refl, sym, ap, subst, ◌∙◌, arith}
use Rattle.std.specs.Prelude.{nat_lt, ◌==◌, ◌||◌, codes, unwrap_or}
use Rattle.std.specs.List.{find, prefix_len}
use Rattle.std.specs.Str.{bytes_eq}
use Rattle.std.proofs.lemmas.Bool.{both_ways, eq-eqb, eqb-true, ltb-false, ltb-true, not-false}
use Rattle.std.proofs.lemmas.List.{append_cancel_left, drop_all, drop_at, drop_more, drop-drop, take_all, take_at}
use Rattle.std.proofs.lemmas.List.{take-append-drop}
use Rattle.std.proofs.lemmas.List.Folds.{prefix_len-append}
use Rattle.std.proofs.lemmas.List.Sums.{prefix_len_stops}
use Rattle.std.proofs.lemmas.Slice.Eq.{bytes_eq-Decides, starts_is}
use Rattle.dia_accepted.specs.declared.line.Reason.{Reason}
use Rattle.dia_accepted.specs.declared.line.Reason.TheVariants as reasons
use Rattle.dia_accepted.specs.declared.line.Verdict.{Verdict}
use Rattle.dia_accepted.specs.declared.line.Verdict.TheVariants.{Breaks, Undecided}
use Rattle.dia_accepted.specs.LineReader.{after_word, all_reasons, colon_read, first_word, is_named, is_of_word, path_read}
use Rattle.dia_accepted.specs.LineReader.{reason_named, subject_read, undecided_by, undecided_read, verdict_by, verdict_read}
use Rattle.dia_accepted.specs.Lines.{Form, colon, literal, one, path, reason_word, run, subject, undecided, verdict, word}
use Rattle.dia_accepted.specs.Words.{begins, is_name_byte, is_path_byte, subject_len}
use Rattle.dia_accepted.proofs.Forms.{Both, Ends, Reads, Stops, ends_length, part_reads, part_stops, reads_then, whole}

-- what is read, or that the form stops at once
abbrev pub Found : {V : Type 0} → (V → Form) → List ℕ → Option (V × List ℕ) → Type 0
Found f text None = Stops f text text
Found f text (Some p) = Reads f text p.0 p.1

some_same : {X : Type 0} (a b : X) → Some a ≡ Some b → a ≡ b
some_same a b e = ap (λ o. unwrap_or o a) e

none_some : {X : Type 0} (a : X) → None ≡ Some a → ⊥
none_some a e = let z : None ≡ Some a = e in cc

pub begins_parts : (text front : List ℕ) → (begins text front ≡ true → text ≡ front ++ drop (length front) text) × ((rest : List ℕ) → text ≡ front ++ rest → begins text front ≡ true)
begins_parts text front = starts_is (λ a b. (eqb-true a b, eq-eqb a b)) text front (begins text front) refl

dropped : (n : ℕ) (text : List ℕ) → Ends text (drop n text)
dropped n text = (take n text, sym (take-append-drop n text))

-- ---- a colon

abbrev pub Colon : Unit {0} → Form
Colon u = colon

pub colon_is : (text : List ℕ) → Found Colon text (elim (colon_read text) as (λ o. Option (Unit {0} × List ℕ)) [ None ↦ None | Some rest ↦ Some (tt, rest) ])
colon_is text = by (begins text (codes ": ")) refl
  where
    as_found : Option (List ℕ) → Option (Unit {0} × List ℕ)
    as_found o = elim o as (λ p. Option (Unit {0} × List ℕ)) [ None ↦ None | Some rest ↦ Some (tt, rest) ]

    by : (b : Bool) → begins text (codes ": ") ≡ b → Found Colon text (as_found (cond b (Some (drop 2 text)) None))
    by true e =
        let here = (begins_parts text (codes ": ")).0 e in
        part_reads (λ (u : Unit {0}). literal (codes ": ")) text tt (drop 2 text) here (λ w r d. (refl, append_cancel_left (codes ": ") r (drop 2 text) (sym d ∙ here))) (dropped 2 text)
    by false e = part_stops (λ (u : Unit {0}). literal (codes ": ")) text tt (λ w r d. both_ways (begins text (codes ": ")) e ((begins_parts text (codes ": ")).1 r d))

-- ---- a subject

abbrev pub Subject : List ℕ → Form
Subject letters = one (subject letters)

pub subject_is : (text : List ℕ) → Found Subject text (subject_read text)
subject_is text = by (nat_lt 0 n) refl
  where
    n : ℕ
    n = prefix_len is_name_byte text

    m : ℕ
    m = subject_len text

    by : (b : Bool) → nat_lt 0 n ≡ b → Found Subject text (cond b (Some (take m text, drop m text)) None)
    by true e = part_reads subject text (take m text) (drop m text) (ltb-true 0 n e, refl, refl) (λ w r d. (d.1, d.2)) (dropped m text)
    by false e = part_stops subject text [] (λ w r d. let l = ltb-false 0 n e in omega (arith, l, d.0))

-- ---- a path

abbrev pub Path : Option (List ℕ) → Form
Path p = one (path p)

no_star : (text rest : List ℕ) → text ≡ codes "*" ++ rest → 0 < prefix_len is_name_byte text → ⊥
no_star text rest e less = let z : 0 < prefix_len is_name_byte (codes "*" ++ rest) = subst (λ (t : List ℕ). 0 < prefix_len is_name_byte t) e less in omega (arith, z)

-- a byte of a name is one of a path
name_in_path : (text : List ℕ) → 0 < prefix_len is_name_byte text → 0 < prefix_len is_path_byte text
name_in_path [] less = less
name_in_path (c ∷ cs) less = by (is_name_byte c) (c == 47 || (c == 91 || (c == 93 || c == 32))) less
  where
    by : (a b : Bool) → 0 < cond a (1 + prefix_len is_name_byte cs) 0 → 0 < cond (a || b) (1 + prefix_len is_path_byte cs) 0
    by true b h = omega arith
    by false b h = absurd (omega (arith, h))

pub path_is : (text : List ℕ) → Found Path text (path_read text)
path_is text = by (begins text (codes "*")) (nat_lt 0 n) refl refl
  where
    n : ℕ
    n = prefix_len is_name_byte text

    m : ℕ
    m = prefix_len is_path_byte text

    by : (a b : Bool) → begins text (codes "*") ≡ a → nat_lt 0 n ≡ b → Found Path text (cond a (Some (None, drop 1 text)) (cond b (Some (Some (take m text), drop m text)) None))
    by true b star name =
        let here = (begins_parts text (codes "*")).0 star in
        part_reads path text None (drop 1 text) here (others here) (dropped 1 text)
      where
        others : text ≡ codes "*" ++ drop 1 text → (w : Option (List ℕ)) (r : List ℕ) → path w text r → (w ≡ None) × (r ≡ drop 1 text)
        others here None r d = (refl, append_cancel_left (codes "*") r (drop 1 text) (sym d ∙ here))
        others here (Some names) r d = absurd (no_star text (drop 1 text) here d.0)
    by false true star name =
        let less = ltb-true 0 n name in
        part_reads path text (Some (take m text)) (drop m text) (less, (name_in_path text less, refl, refl)) others (dropped m text)
      where
        others : (w : Option (List ℕ)) (r : List ℕ) → path w text r → (w ≡ Some (take m text)) × (r ≡ drop m text)
        others None r d = absurd (both_ways (begins text (codes "*")) star ((begins_parts text (codes "*")).1 r d))
        others (Some names) r d = (ap (λ (x : List ℕ). Some x) d.1.1, d.1.2)
    by false false star name = part_stops path text None others
      where
        others : (w : Option (List ℕ)) (r : List ℕ) → path w text r → ⊥
        others None r d = both_ways (begins text (codes "*")) star ((begins_parts text (codes "*")).1 r d)
        others (Some names) r d = let l = ltb-false 0 n name in omega (arith, l, d.0)

-- ---- words

pub word_here : (text : List ℕ) → word (first_word text) text (after_word text)
word_here text = elim (cases n (length text)) [ inl less ↦ inl (goes_on less) | inr most ↦ inr (sym (take_all n text most), ap (drop 1) (drop_all n text most)) ]
  where
    n : ℕ
    n = prefix_len is_of_word text

    cases : (a b : ℕ) → (a < b) ⊎ (b ≤ a)
    cases a b = by (nat_lt a b) refl
      where
        by : (t : Bool) → nat_lt a b ≡ t → (a < b) ⊎ (b ≤ a)
        by true e = inl (ltb-true a b e)
        by false e = inr (ltb-false a b e)

    goes_on : n < length text → text ≡ first_word text ++ 32 ∷ after_word text
    goes_on less =
        let space : get_or text n 0 ≡ 32 = eqb-true (get_or text n 0) 32 (not-false (get_or text n 0 == 32) (prefix_len_stops is_of_word text 0 less)) in
        sym (take-append-drop n text)
        ∙ ap (λ (xs : List ℕ). take n text ++ xs) (drop_more text n 0 less ∙ (λ i. space i ∷ sym (drop-drop 1 n text) i))

abbrev IsPlain : List ℕ → Type 0
IsPlain letters = prefix_len is_of_word letters ≡ length letters

before_space : (letters rest : List ℕ) → IsPlain letters → prefix_len is_of_word (letters ++ 32 ∷ rest) ≡ length letters
before_space letters rest plain =
    prefix_len-append is_of_word letters (32 ∷ rest)
    ∙ ap (λ (b : Bool). cond b (length letters + 0) (prefix_len is_of_word letters)) (eq-eqb (prefix_len is_of_word letters) (length letters) plain)
    ∙ (let e : length letters + 0 ≡ length letters = omega arith in e)

pub word_is : (letters text rest : List ℕ) → IsPlain letters → word letters text rest → (first_word text ≡ letters) × (after_word text ≡ rest)
word_is letters text rest plain (inl e) =
    let n = before_space letters rest plain in
    let taken = take_at letters (32 ∷ rest) (prefix_len is_of_word (letters ++ 32 ∷ rest)) (sym n) in
    let left = drop_at letters (32 ∷ rest) (prefix_len is_of_word (letters ++ 32 ∷ rest)) (sym n) in
    (ap first_word e ∙ taken, ap after_word e ∙ ap (drop 1) left)
word_is letters text rest plain (inr e) =
    let most : length letters ≤ prefix_len is_of_word letters = omega (arith, plain) in (
      ap first_word e.0 ∙ take_all (prefix_len is_of_word letters) letters most,
      ap after_word e.0 ∙ ap (drop 1) (drop_all (prefix_len is_of_word letters) letters most) ∙ sym e.1,
    )

-- ---- reasons

plain_reason : (reason : Reason) → IsPlain (reason_word reason)
plain_reason reasons.Command = refl
plain_reason reasons.Application = refl
plain_reason reasons.Proxiable = refl
plain_reason reasons.Missing = refl
plain_reason reasons.TooMany = refl
plain_reason reasons.NotAllowed = refl
plain_reason reasons.Order = refl
plain_reason reasons.Unknown = refl
plain_reason reasons.MBit = refl
plain_reason reasons.Format = refl
plain_reason reasons.Meaning = refl

named_word : (reason : Reason) → reason_named (reason_word reason) ≡ Some reason
named_word reasons.Command = refl
named_word reasons.Application = refl
named_word reasons.Proxiable = refl
named_word reasons.Missing = refl
named_word reasons.TooMany = refl
named_word reasons.NotAllowed = refl
named_word reasons.Order = refl
named_word reasons.Unknown = refl
named_word reasons.MBit = refl
named_word reasons.Format = refl
named_word reasons.Meaning = refl

found_passes : (p : Reason → Bool) (xs : List Reason) (x : Reason) → find p xs ≡ Some x → p x ≡ true
found_passes p [] x e = absurd (none_some x e)
found_passes p (y ∷ ys) x e = by (p y) refl e (found_passes p ys x)
  where
    by : (b : Bool) → p y ≡ b → cond b (Some y) (find p ys) ≡ Some x → (find p ys ≡ Some x → p x ≡ true) → p x ≡ true
    by true is same rest = ap p (sym (some_same y x same)) ∙ is
    by false is same rest = rest same

named_is : (letters : List ℕ) (reason : Reason) → reason_named letters ≡ Some reason → letters ≡ reason_word reason
named_is letters reason e = (bytes_eq-Decides letters (reason_word reason)).0 (found_passes (is_named letters) all_reasons reason e)

-- of which reason the first word of a text is
reason_at : (text : List ℕ) (reason : Reason) (rest : List ℕ) → word (reason_word reason) text rest → (reason_named (first_word text) ≡ Some reason) × (after_word text ≡ rest)
reason_at text reason rest d = let w = word_is (reason_word reason) text rest (plain_reason reason) d in (ap reason_named w.0 ∙ named_word reason, w.1)

reason_here : (text : List ℕ) (reason : Reason) → reason_named (first_word text) ≡ Some reason → word (reason_word reason) text (after_word text)
reason_here text reason e = subst (λ (letters : List ℕ). word letters text (after_word text)) (named_is (first_word text) reason e) (word_here text)

word_ends : (letters text rest : List ℕ) → word letters text rest → Ends text rest
word_ends letters text rest (inl e) = (letters ++ 32 ∷ [], e ∙ sym (spaced letters))
  where
    spaced : (xs : List ℕ) → (xs ++ 32 ∷ []) ++ rest ≡ xs ++ 32 ∷ rest
    spaced [] = refl
    spaced (x ∷ xs) = ap (λ (ys : List ℕ). x ∷ ys) (spaced xs)
word_ends letters text rest (inr e) = (text, sym (nil text) ∙ ap (λ (xs : List ℕ). text ++ xs) (sym e.1))
  where
    nil : (xs : List ℕ) → xs ++ [] ≡ xs
    nil [] = refl
    nil (x ∷ xs) = ap (λ (ys : List ℕ). x ∷ ys) (nil xs)

-- ---- what follows `undecided`

abbrev After : Option Reason → Form
After reason = one (undecided reason)

undecided_is : (text : List ℕ) (o : Option Reason) → reason_named (first_word text) ≡ o → Reads After text o (undecided_by text o).1
undecided_is text None none = part_reads undecided text None text (refl, no_reason) others (whole text)
  where
    no_reason : (reason : Reason) (other : List ℕ) → ¬ word (reason_word reason) text other
    no_reason reason other d = none_some reason (sym none ∙ (reason_at text reason other d).0)

    others : (w : Option Reason) (r : List ℕ) → undecided w text r → (w ≡ None) × (r ≡ text)
    others None r d = (refl, d.0)
    others (Some reason) r d = absurd (no_reason reason r d)
undecided_is text (Some x) some = part_reads undecided text (Some x) (after_word text) here others (word_ends (reason_word x) text (after_word text) here)
  where
    here : word (reason_word x) text (after_word text)
    here = reason_here text x some

    others : (w : Option Reason) (r : List ℕ) → undecided w text r → (w ≡ Some x) × (r ≡ after_word text)
    others None r d = absurd (d.1 x (after_word text) here)
    others (Some reason) r d = let at = reason_at text reason r d in (sym at.0 ∙ some, sym at.1)

-- ---- a verdict

abbrev Undecided_word : Unit {0} → Form
Undecided_word u = one (word (codes "undecided"))

undecided_at : (text rest : List ℕ) → word (codes "undecided") text rest → (first_word text ≡ codes "undecided") × (after_word text ≡ rest)
undecided_at text rest d = word_is (codes "undecided") text rest refl d

-- `undecided` is no reason
not_reason : (text rest : List ℕ) (x : Reason) → word (codes "undecided") text rest → reason_named (first_word text) ≡ Some x → ⊥
not_reason text rest x d e = none_some x (sym (ap reason_named (undecided_at text rest d).0) ∙ e)

breaks_is : (text : List ℕ) (x : Reason) → reason_named (first_word text) ≡ Some x → Reads verdict text (Breaks x) (after_word text)
breaks_is text x some = record { derives = here; only = only; reach = reach; ends = ends }
  where
    here : word (reason_word x) text (after_word text)
    here = reason_here text x some

    ends : Ends text (after_word text)
    ends = word_ends (reason_word x) text (after_word text) here

    only : (w : Verdict) (r : List ℕ) → (verdict w).derives text r → (w ≡ Breaks x) × (r ≡ after_word text)
    only (Breaks y) r d = let at = reason_at text y r d in (ap Breaks (some_same y x (sym at.0 ∙ some)), sym at.1)
    only (Undecided o) r d = absurd (not_reason text d.0 x d.1 some)

    short : (r : List ℕ) → r ≡ text → length (after_word text) ≤ length r
    short r same = let l = ends_length text (after_word text) ends in let e = ap length same in omega (arith, l, e)

    reach : (w : Verdict) (r : List ℕ) → (verdict w).reaches text r → length (after_word text) ≤ length r
    reach (Breaks y) r (inl same) = short r same
    reach (Breaks y) r (inr d) = let e = ap length (reason_at text y r d).1 in omega (arith, e)
    reach (Undecided o) r (inl (inl same)) = short r same
    reach (Undecided o) r (inl (inr d)) = absurd (not_reason text r x d some)
    reach (Undecided o) r (inr late) = absurd (not_reason text late.0 x late.1 some)

module _ (text : List ℕ) (none : reason_named (first_word text) ≡ None) where
  no_reason_here : (y : Reason) (r : List ℕ) → word (reason_word y) text r → ⊥
  no_reason_here y r d = none_some y (sym none ∙ (reason_at text y r d).0)

  word_reads : first_word text ≡ codes "undecided" → Reads Undecided_word text tt (after_word text)
  word_reads same =
      let here : word (codes "undecided") text (after_word text) = subst (λ (letters : List ℕ). word letters text (after_word text)) same (word_here text) in
      part_reads (λ (u : Unit {0}). word (codes "undecided")) text tt (after_word text) here (λ w r d. (refl, sym (undecided_at text r d).1)) (word_ends (codes "undecided") text (after_word text) here)

  undecided_verdict : first_word text ≡ codes "undecided" → (o : Option Reason) → reason_named (first_word (after_word text)) ≡ o
      → Reads verdict text (Undecided o) (undecided_by (after_word text) o).1
  undecided_verdict same o named = record { derives = both.derives; only = only; reach = reach; ends = both.ends }
    where
      rest : List ℕ
      rest = (undecided_by (after_word text) o).1

      both : Reads (Both Undecided_word After) text (tt, o) rest
      both = reads_then Undecided_word After text tt (after_word text) o rest (word_reads same) (undecided_is (after_word text) o named)

      only : (w : Verdict) (r : List ℕ) → (verdict w).derives text r → (w ≡ Undecided o) × (r ≡ rest)
      only (Breaks y) r d = absurd (no_reason_here y r d)
      only (Undecided p) r d = let is = both.only (tt, p) r d in ((λ i. Undecided (is.0 i).1), is.1)

      reach : (w : Verdict) (r : List ℕ) → (verdict w).reaches text r → length rest ≤ length r
      reach (Breaks y) r (inl e) = let l = ends_length text rest both.ends in let m = ap length e in omega (arith, l, m)
      reach (Breaks y) r (inr d) = absurd (no_reason_here y r d)
      reach (Undecided p) r d = both.reach (tt, p) r d

  no_verdict : bytes_eq (first_word text) (codes "undecided") ≡ false → Stops verdict text text
  no_verdict other = record { none = nothing; value = Breaks reasons.Command; reached = inl refl; furthest = furthest; ends = whole text }
    where
      not_undecided : (r : List ℕ) → word (codes "undecided") text r → ⊥
      not_undecided r d = both_ways (bytes_eq (first_word text) (codes "undecided")) other ((bytes_eq-Decides (first_word text) (codes "undecided")).1 (undecided_at text r d).0)

      nothing : (w : Verdict) (r : List ℕ) → (verdict w).derives text r → ⊥
      nothing (Breaks y) r d = no_reason_here y r d
      nothing (Undecided o) r d = not_undecided d.0 d.1

      furthest : (w : Verdict) (r : List ℕ) → (verdict w).reaches text r → length text ≤ length r
      furthest (Breaks y) r (inl same) = let e = ap length same in omega (arith, e)
      furthest (Breaks y) r (inr d) = absurd (no_reason_here y r d)
      furthest (Undecided o) r (inl (inl same)) = let e = ap length same in omega (arith, e)
      furthest (Undecided o) r (inl (inr d)) = absurd (not_undecided r d)
      furthest (Undecided o) r (inr late) = absurd (not_undecided late.0 late.1)

pub verdict_is : (text : List ℕ) → Found verdict text (verdict_read text)
verdict_is text = by (reason_named (first_word text)) refl
  where
    undecided_found : reason_named (first_word text) ≡ None → (o : Option Reason) → reason_named (first_word (after_word text)) ≡ o
        → first_word text ≡ codes "undecided" → Found verdict text (Some (undecided_by (after_word text) o))
    undecided_found none None named same = undecided_verdict text none same None named
    undecided_found none (Some x) named same = undecided_verdict text none same (Some x) named

    by_word : reason_named (first_word text) ≡ None → (b : Bool) → bytes_eq (first_word text) (codes "undecided") ≡ b → Found verdict text (cond b (Some (undecided_read (after_word text))) None)
    by_word none true e = undecided_found none (reason_named (first_word (after_word text))) refl ((bytes_eq-Decides (first_word text) (codes "undecided")).0 e)
    by_word none false e = no_verdict text none e

    by : (o : Option Reason) → reason_named (first_word text) ≡ o → Found verdict text (verdict_by text o)
    by (Some x) e = breaks_is text x e
    by None e = by_word e (bytes_eq (first_word text) (codes "undecided")) refl
