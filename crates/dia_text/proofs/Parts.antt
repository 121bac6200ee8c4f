-- The messages of a text, one part behind the other.
use Rattle.std.proofs.Common.{◌≡◌, ℕ, ◌+◌, ◌-◌, ◌<◌, ◌≤◌, ◌==◌, Bool, true, false, not, List, [], ◌∷◌, ◌++◌, length, map, take, drop, get_or, All, Bor, Result, Ok, Err, refl, sym, ap, subst, ◌∙◌, append_assoc, append-nil, arith}
use Rattle.std.specs.List.{slice_split}
use Rattle.std.proofs.lemmas.Bool.{eqb-true, or_from}
use Rattle.std.proofs.lemmas.List.{length-append, length-drop, length-map, length-take, get_or-map, take-map, drop-map, drop-drop, take_all, take_at, take-append-drop}
use Rattle.std.proofs.lemmas.List.Elements.{All-append, All-cons, All-nil}
use Rattle.std.proofs.lemmas.List.Folds.{list_any_more, list_any_at}
use Rattle.std.proofs.lemmas.List.Splits.{slice_split_at, slice_split_none}
use Rattle.dia_book.specs.Dictionary.{Dictionary}
use Rattle.dia_text.specs.declared.fault.Fault.{Fault}
use Rattle.dia_text.specs.declared.fault.NotMade.{NotMade}
use Rattle.dia_text.specs.declared.fault.NotMade.TheVariants as not_made
use Rattle.dia_text.specs.Words.{first_word}
use Rattle.dia_text.specs.Made.{is_empty, has_word, then_text, part_text, parts_text, message_from, recorded_after, digits_line, after_lines, IsWithin, IsPartAdded, Misses}
use Rattle.dia_text.proofs.LinesOfTexts.{front}

pub then_nothing : (r : Result (List ℕ) Fault) → then_text (Ok []) r ≡ r
then_nothing (Ok a) = refl
then_nothing (Err f) = refl

then_both : (a b : List ℕ) (r : Result (List ℕ) Fault) → then_text (Ok a) (then_text (Ok b) r) ≡ then_text (Ok (a ++ b)) r
then_both a b (Ok c) = ap Ok (sym (append_assoc a b c))
then_both a b (Err f) = refl

-- the part in front of an empty line
split_at : (d : Dictionary) (n : ℕ) (rest part more : List (List ℕ)) → rest ≡ part ++ ([] ∷ more) → All (λ l. is_empty l ≡ false) part
    → parts_text d n (slice_split is_empty rest) ≡ then_text (part_text d n part) (parts_text d (n + length part + 1) (slice_split is_empty more))
split_at d n rest part more is all = ap (λ (ls : List (List ℕ)). parts_text d n (slice_split is_empty ls)) is ∙ ap (parts_text d n) (slice_split_at is_empty part [] more all refl)

-- the last part
split_last : (d : Dictionary) (n : ℕ) (rest : List (List ℕ)) → All (λ l. is_empty l ≡ false) rest → parts_text d n (slice_split is_empty rest) ≡ then_text (part_text d n rest) (Ok [])
split_last d n rest all = ap (parts_text d n) (slice_split_none is_empty rest all)

pub part_added : (d : Dictionary) (n m : ℕ) (out new t : List ℕ) (rest part more : List (List ℕ)) → rest ≡ part ++ ([] ∷ more) → All (λ l. is_empty l ≡ false) part → part_text d n part ≡ Ok t
    → new ≡ out ++ t → m ≡ n + length part + 1
    → then_text (Ok out) (parts_text d n (slice_split is_empty rest)) ≡ then_text (Ok new) (parts_text d m (slice_split is_empty more))
part_added d n m out new t rest part more is all made is_new next =
    let tail = parts_text d (n + length part + 1) (slice_split is_empty more) in
    ap (then_text (Ok out)) (split_at d n rest part more is all ∙ ap (λ (r : Result (List ℕ) Fault). then_text r tail) made) ∙ then_both out t tail
    ∙ ap (λ (x : List ℕ). then_text (Ok x) tail) (sym is_new) ∙ ap (λ (k : ℕ). then_text (Ok new) (parts_text d k (slice_split is_empty more))) (sym next)

pub last_added : (d : Dictionary) (n : ℕ) (out new t : List ℕ) (rest : List (List ℕ)) → All (λ l. is_empty l ≡ false) rest → part_text d n rest ≡ Ok t → new ≡ out ++ t
    → then_text (Ok out) (parts_text d n (slice_split is_empty rest)) ≡ Ok new
last_added d n out new t rest all made is_new =
    ap (then_text (Ok out)) (split_last d n rest all ∙ ap (λ (r : Result (List ℕ) Fault). then_text r (Ok [])) made) ∙ ap (λ (x : List ℕ). Ok (out ++ x)) (append-nil t) ∙ ap Ok (sym is_new)

missed : (e : NotMade) (out : List ℕ) (r whole more : Result (List ℕ) Fault) → Misses e r → whole ≡ then_text r more → Misses e (then_text (Ok out) whole)
missed not_made.NoMemory out r whole more h is = tt
missed (not_made.Fault f) out r whole more h is = ap (then_text (Ok out)) (is ∙ ap (λ (q : Result (List ℕ) Fault). then_text q more) h)

pub part_missed : (d : Dictionary) (n : ℕ) (out : List ℕ) (e : NotMade) (rest part more : List (List ℕ)) → rest ≡ part ++ ([] ∷ more) → All (λ l. is_empty l ≡ false) part → Misses e (part_text d n part)
    → Misses e (then_text (Ok out) (parts_text d n (slice_split is_empty rest)))
part_missed d n out e rest part more is all h =
    missed e out (part_text d n part) (parts_text d n (slice_split is_empty rest)) (parts_text d (n + length part + 1) (slice_split is_empty more)) h (split_at d n rest part more is all)

pub last_missed : (d : Dictionary) (n : ℕ) (out : List ℕ) (e : NotMade) (rest : List (List ℕ)) → All (λ l. is_empty l ≡ false) rest → Misses e (part_text d n rest)
    → Misses e (then_text (Ok out) (parts_text d n (slice_split is_empty rest)))
last_missed d n out e rest all h = missed e out (part_text d n rest) (parts_text d n (slice_split is_empty rest)) (Ok []) h (split_last d n rest all)

-- ---- one part

pub recorded_fault : (n : ℕ) (e : NotMade) (r : Result (List ℕ) Fault) → Misses e r → Misses (after_lines n e) (recorded_after n r)
recorded_fault n not_made.NoMemory r h = tt
recorded_fault n (not_made.Fault f) r h = ap (recorded_after n) h

pub within_more : (n m : ℕ) (e : NotMade) → n ≤ m → IsWithin n e → IsWithin m e
within_more n m not_made.NoMemory le h = tt
within_more n m (not_made.Fault f) le h = omega (arith, le, h)

-- ---- lines, one after the other

abbrev pub texts : List (Bor (List ℕ)) → List (List ℕ)
texts ls = map (λ (x : Bor (List ℕ)). x.now) ls

abbrev has_some : List ℕ → Bool
has_some l = not (length (first_word l) == 0)

mapped : (ls : List (Bor (List ℕ))) (i : ℕ) → i < length ls → i < length (texts ls)
mapped ls i lt = omega (arith, lt, length-map ls (λ (x : Bor (List ℕ)). x.now))

pub no_word_more : (ls : List (Bor (List ℕ))) (i : ℕ) (d : Bor (List ℕ)) → i < length ls → has_word (take i (texts ls)) ≡ false → not (length (first_word (get_or ls i d).now) == 0) ≡ false
    → has_word (take (i + 1) (texts ls)) ≡ false
no_word_more ls i d lt none empty =
    let here : has_some (get_or (texts ls) i d.now) ≡ false = ap has_some (get_or-map (λ (x : Bor (List ℕ)). x.now) ls i d d.now lt) ∙ empty in
    list_any_more has_some (texts ls) i d.now (mapped ls i lt) ∙ or_from (has_word (take i (texts ls))) (has_some (get_or (texts ls) i d.now)) none here

pub word_found : (ls : List (Bor (List ℕ))) (i : ℕ) (d : Bor (List ℕ)) → i < length ls → not (length (first_word (get_or ls i d).now) == 0) ≡ true → has_word (texts ls) ≡ true
word_found ls i d lt some = list_any_at has_some (texts ls) i d.now (mapped ls i lt) (ap has_some (get_or-map (λ (x : Bor (List ℕ)). x.now) ls i d d.now lt) ∙ some)

all_taken : (ls : List (Bor (List ℕ))) (i : ℕ) → length ls ≤ i → take i (texts ls) ≡ texts ls
all_taken ls i ends = take_all i (texts ls) (omega (arith, ends, length-map ls (λ (x : Bor (List ℕ)). x.now)))

pub no_word_at_all : (ls : List (Bor (List ℕ))) (i : ℕ) → length ls ≤ i → has_word (take i (texts ls)) ≡ false → has_word (texts ls) ≡ false
no_word_at_all ls i ends none = ap has_word (sym (all_taken ls i ends)) ∙ none

pub same_count : (ls : List (Bor (List ℕ))) → length (texts ls) ≡ length ls
same_count ls = length-map ls (λ (x : Bor (List ℕ)). x.now)

nothing : (l : List ℕ) → is_empty l ≡ true → l ≡ []
nothing [] h = refl
nothing (c ∷ l) h = absurd (omega (arith, eqb-true (length (c ∷ l)) 0 h))

-- ---- parts between empty lines

abbrev pub AreFull : List (List ℕ) → Type 0
AreFull ls = All (λ (l : List ℕ). is_empty l ≡ false) ls

-- the lines from s up to i
abbrev pub between : ℕ → ℕ → List (List ℕ) → List (List ℕ)
between s i ls = take (i - s) (drop s ls)

between_texts : (s i : ℕ) (ls : List (Bor (List ℕ))) → texts (take (i - s) (drop s ls)) ≡ between s i (texts ls)
between_texts s i ls = sym (take-map (λ (x : Bor (List ℕ)). x.now) (i - s) (drop s ls)) ∙ ap (take (i - s)) (sym (drop-map (λ (x : Bor (List ℕ)). x.now) s ls))

cut : (ls : List (List ℕ)) (s i : ℕ) (l : List ℕ) (more : List (List ℕ)) → s ≤ i → drop i ls ≡ l ∷ more → drop s ls ≡ between s i ls ++ (l ∷ more)
cut ls s i l more le is =
    let same : s + (i - s) ≡ i = omega (arith, le) in
    sym (take-append-drop (i - s) (drop s ls)) ∙ ap (λ (t : List (List ℕ)). between s i ls ++ t) (drop-drop (i - s) s ls ∙ ap (λ (n : ℕ). drop n ls) same ∙ is)

size : (ls : List (List ℕ)) (s i : ℕ) → s ≤ i → i ≤ length ls → length (between s i ls) ≡ i - s
size ls s i le within = omega (arith, length-take (i - s) (drop s ls), length-drop s ls, le, within)

full_more : (ls : List (List ℕ)) (s i : ℕ) (l : List ℕ) → s ≤ i → i < length ls → drop i ls ≡ l ∷ drop (i + 1) ls → AreFull (between s i ls) → is_empty l ≡ false → AreFull (between s (i + 1) ls)
full_more ls s i l le lt is full here =
    let xs = between s i ls in
    let more = drop (i + 1) ls in
    let count : length (xs ++ (l ∷ [])) ≡ i + 1 - s = omega (arith, length-append xs (l ∷ []), size ls s i le (omega (arith, lt)), le) in
    let grown : between s (i + 1) ls ≡ xs ++ (l ∷ []) =
    ap (take (i + 1 - s)) (cut ls s i l more le is ∙ sym (append_assoc xs (l ∷ []) more)) ∙ take_at (xs ++ (l ∷ [])) more (i + 1 - s) count in
    subst AreFull (sym grown)
    (All-append (λ (t : List ℕ). is_empty t ≡ false) xs (l ∷ []) full (All-cons (λ (t : List ℕ). is_empty t ≡ false) l [] here (All-nil (λ (t : List ℕ). is_empty t ≡ false))))

no_line : (i : ℕ) (ls : List (List ℕ)) → AreFull (between i i ls)
no_line i ls = let none : i - i ≡ 0 = omega arith in subst (λ (n : ℕ). AreFull (take n (drop i ls))) (sym none) (All-nil (λ (t : List ℕ). is_empty t ≡ false))

-- the lines from s on, as a slice has them
rest_texts : (s : ℕ) (ls : List (Bor (List ℕ))) → texts (take (length ls - s) (drop s ls)) ≡ drop s (texts ls)
rest_texts s ls =
    ap (λ (t : List (Bor (List ℕ))). texts t) (take_all (length ls - s) (drop s ls) (omega (arith, length-drop s ls))) ∙ sym (drop-map (λ (x : Bor (List ℕ)). x.now) s ls)

-- what was read, and what is still to be read from s on
abbrev pub IsReadTo : Dictionary → List (Bor (List ℕ)) → ℕ → ℕ → List ℕ → Type 0
IsReadTo d ls s i out =
    (parts_text d 0 (slice_split is_empty (texts ls)) ≡ then_text (Ok out) (parts_text d s (slice_split is_empty (drop s (texts ls)))))
    × (s ≤ i) × AreFull (between s i (texts ls))

pub read_none : (d : Dictionary) (ls : List (Bor (List ℕ))) (out : List ℕ) → out ≡ [] → IsReadTo d ls 0 0 out
read_none d ls out none = (
  sym (then_nothing (parts_text d 0 (slice_split is_empty (texts ls)))) ∙ ap (λ (x : List ℕ). then_text (Ok x) (parts_text d 0 (slice_split is_empty (texts ls)))) (sym none),
  omega arith,
  no_line 0 (texts ls),
)

pub read_full : (d : Dictionary) (ls : List (Bor (List ℕ))) (s i : ℕ) (b : Bor (List ℕ)) (out : List ℕ) → i < length ls → IsReadTo d ls s i out → is_empty (get_or ls i b).now ≡ false → IsReadTo d ls s (i + 1) out
read_full d ls s i b out lt (so_far, le, full) here = (so_far, omega (arith, le), full_more (texts ls) s i (get_or ls i b).now le (mapped ls i lt) (front ls i b lt) full here)

-- a part that an empty line ends
ended_at : (ls : List (Bor (List ℕ))) (s i : ℕ) (b : Bor (List ℕ)) → i < length ls → s ≤ i → is_empty (get_or ls i b).now ≡ true
    → drop s (texts ls) ≡ between s i (texts ls) ++ ([] ∷ drop (i + 1) (texts ls))
ended_at ls s i b lt le empty =
    cut (texts ls) s i (get_or ls i b).now (drop (i + 1) (texts ls)) le (front ls i b lt)
    ∙ ap (λ (l : List ℕ). between s i (texts ls) ++ (l ∷ drop (i + 1) (texts ls))) (nothing (get_or ls i b).now empty)

pub read_part : (d : Dictionary) (ls : List (Bor (List ℕ))) (s i : ℕ) (b : Bor (List ℕ)) (out new : List ℕ) → i < length ls → IsReadTo d ls s i out → is_empty (get_or ls i b).now ≡ true
    → IsPartAdded (part_text d s (texts (take (i - s) (drop s ls)))) (Ok tt) out new → IsReadTo d ls (i + 1) (i + 1) new
read_part d ls s i b out new lt (so_far, le, full) empty (t, is, is_new) = (
  so_far
      ∙ part_added d s (i + 1) out new t (drop s (texts ls)) (between s i (texts ls)) (drop (i + 1) (texts ls)) (ended_at ls s i b lt le empty) full
      (ap (part_text d s) (sym (between_texts s i ls)) ∙ is) is_new (omega (arith, size (texts ls) s i le (omega (arith, mapped ls i lt)), le)),
  omega arith,
  no_line (i + 1) (texts ls),
)

pub part_failed : (d : Dictionary) (ls : List (Bor (List ℕ))) (s i : ℕ) (b : Bor (List ℕ)) (out : List ℕ) (e : NotMade) → i < length ls → IsReadTo d ls s i out → is_empty (get_or ls i b).now ≡ true
    → Misses e (part_text d s (texts (take (i - s) (drop s ls)))) → Misses e (parts_text d 0 (slice_split is_empty (texts ls)))
part_failed d ls s i b out e lt (so_far, le, full) empty h =
    subst (Misses e) (sym so_far) (part_missed d s out e (drop s (texts ls)) (between s i (texts ls)) (drop (i + 1) (texts ls)) (ended_at ls s i b lt le empty) full
    (subst (λ (p : List (List ℕ)). Misses e (part_text d s p)) (between_texts s i ls) h))

-- the last part
last_is : (ls : List (Bor (List ℕ))) (s i : ℕ) → length ls ≤ i → s ≤ i → AreFull (between s i (texts ls)) → AreFull (drop s (texts ls))
last_is ls s i ends le full =
    subst AreFull (take_all (i - s) (drop s (texts ls)) (omega (arith, length-drop s (texts ls), same_count ls, ends, le))) full

pub read_last : (d : Dictionary) (ls : List (Bor (List ℕ))) (s i : ℕ) (out new : List ℕ) → length ls ≤ i → IsReadTo d ls s i out → IsPartAdded (part_text d s (texts (take (length ls - s) (drop s ls)))) (Ok tt) out new
    → parts_text d 0 (slice_split is_empty (texts ls)) ≡ Ok new
read_last d ls s i out new ends (so_far, le, full) (t, is, is_new) =
    so_far ∙ last_added d s out new t (drop s (texts ls)) (last_is ls s i ends le full) (ap (part_text d s) (sym (rest_texts s ls)) ∙ is) is_new

pub last_failed : (d : Dictionary) (ls : List (Bor (List ℕ))) (s i : ℕ) (out : List ℕ) (e : NotMade) → length ls ≤ i → IsReadTo d ls s i out → Misses e (part_text d s (texts (take (length ls - s) (drop s ls))))
    → Misses e (parts_text d 0 (slice_split is_empty (texts ls)))
last_failed d ls s i out e ends (so_far, le, full) h =
    subst (Misses e) (sym so_far) (last_missed d s out e (drop s (texts ls)) (last_is ls s i ends le full)
    (subst (λ (p : List (List ℕ)). Misses e (part_text d s p)) (rest_texts s ls) h))

-- ---- one part

pub no_part : (d : Dictionary) (n : ℕ) (ls : List (List ℕ)) (old : List ℕ) → has_word ls ≡ false → IsPartAdded (part_text d n ls) (Ok tt) old old
no_part d n ls old none = ([], rw none refl, sym (append-nil old))

pub some_part : (d : Dictionary) (n : ℕ) (ls : List (List ℕ)) (old new : List ℕ) (r : Result (Unit {0}) NotMade) → has_word ls ≡ true → IsPartAdded (recorded_after n (message_from d 0 ls)) r old new
    → IsPartAdded (part_text d n ls) r old new
some_part d n ls old new r some h = rw some h

pub message_added : (n : ℕ) (read : Result (List ℕ) Fault) (bytes old new : List ℕ) → read ≡ Ok bytes → new ≡ old ++ digits_line bytes → IsPartAdded (recorded_after n read) (Ok tt) old new
message_added n read bytes old new is is_new = (digits_line bytes, ap (recorded_after n) is, is_new)
