-- The lines of a list, one after another.
use Rattle.std.proofs.Common.{◌≡◌, inl, inr, ℕ, zero, suc, ◌+◌, ◌<◌, ◌≤◌, true, false, List, [], ◌∷◌, ◌++◌, length, map, take}
use Rattle.std.proofs.Common.{drop, get_or, Some, None, refl, sym, ap, subst, ◌∙◌, append_assoc, arith}
use Rattle.std.specs.Prelude.{slice_get, string_bytes}
use Rattle.std.specs.Str.Lines.{lines}
use Rattle.std.proofs.lemmas.List.{map-append}
use Rattle.dia_accepted.specs.declared.list.Entry.{Entry}
use Rattle.dia_accepted.specs.declared.list.ListFault.{ListFault}
use Rattle.dia_accepted.specs.declared.list.ListFault.TheVariants.{Limit, NoMemory, Syntax}
use Rattle.dia_accepted.specs.Accepted.{AreEntries, AreEntriesFrom, HasEntries, IsLineFault, IsListFault, PlainEntry, entry}
use Rattle.dia_accepted.specs.Accepted.{plain_entry, max_lines}
use Rattle.dia_accepted.specs.Lines.{PlainLine, counted_of}

pub line_at : (ts : List (List ℕ)) (i : ℕ) (words : List ℕ) → i < length ts → words ≡ get_or ts i words → slice_get ts i ≡ Some words
line_at [] i words within is = absurd (omega arith)
line_at (t ∷ ts) zero words within is = ap (λ (x : List ℕ). Some x) (sym is)
line_at (t ∷ ts) (suc i) words within is = line_at ts i words (omega arith) is

-- one line more
pub taken : (ts : List (List ℕ)) (k m : ℕ) (words : List ℕ) → m ≡ suc k → slice_get ts k ≡ Some words → take m ts ≡ take k ts ++ words ∷ []
taken ts k m words next at = ap (λ (n : ℕ). take n ts) next ∙ by ts k at
  where
    by : (ts : List (List ℕ)) (k : ℕ) → slice_get ts k ≡ Some words → take (suc k) ts ≡ take k ts ++ words ∷ []
    by [] k e = absurd (let z : None ≡ Some words = e in cc)
    by (t ∷ ts) zero e = let same : t ≡ words = (let f : Some t ≡ Some words = e in cc) in ap (λ (x : List ℕ). x ∷ []) same
    by (t ∷ ts) (suc k) e = ap (λ (xs : List (List ℕ)). t ∷ xs) (by ts k e)

-- the line between those before it and those after it
pub parted : (ts : List (List ℕ)) (k : ℕ) (words : List ℕ) → slice_get ts k ≡ Some words → ts ≡ take k ts ++ words ∷ drop (suc k) ts
parted [] k words e = absurd (let z : None ≡ Some words = e in cc)
parted (t ∷ ts) zero words e = let same : t ≡ words = (let f : Some t ≡ Some words = e in cc) in ap (λ (x : List ℕ). x ∷ ts) same
parted (t ∷ ts) (suc k) words e = ap (λ (xs : List (List ℕ)). t ∷ xs) (parted ts k words e)

pub taken_length : (ts : List (List ℕ)) (k : ℕ) (words : List ℕ) → slice_get ts k ≡ Some words → length (take k ts) ≡ k
taken_length [] k words at = absurd (let z : None ≡ Some words = at in cc)
taken_length (t ∷ ts) zero words at = refl
taken_length (t ∷ ts) (suc k) words at = ap suc (taken_length ts k words at)

-- ---- entries

-- one line more
entries_more : (n : ℕ) (xs : List (List ℕ)) (words : List ℕ) (old found : List PlainEntry) → AreEntriesFrom n xs old → HasEntries (n + length xs) words found → AreEntriesFrom n (xs ++ words ∷ []) (old ++ found)
entries_more n [] words old found are here =
    let same : n + 0 ≡ n = omega arith in
    let joined : old ++ found ≡ found ++ [] = ap (λ (es : List PlainEntry). es ++ found) are ∙ sym (nil found) in
    (found, [], joined, subst (λ (k : ℕ). HasEntries k words found) same here, refl)
  where
    nil : (es : List PlainEntry) → es ++ [] ≡ es
    nil [] = refl
    nil (e ∷ es) = ap (λ (xs : List PlainEntry). e ∷ xs) (nil es)
entries_more n (x ∷ xs) words old found are here =
    let same : n + suc (length xs) ≡ n + 1 + length xs = omega arith in
    let joined : old ++ found ≡ are.0 ++ (are.1 ++ found) = ap (λ (es : List PlainEntry). es ++ found) are.2 ∙ append_assoc are.0 are.1 found in
    (are.0, are.1 ++ found, joined, are.3, entries_more (n + 1) xs words are.1 found are.4 (subst (λ (k : ℕ). HasEntries k words found) same here))

-- one entry more
pub entry_pushed : (old new : List Entry) (made : Entry) (n : ℕ) (words : List ℕ) (line : PlainLine) → new ≡ old ++ made ∷ [] → made.line ≡ n → string_bytes made.words ≡ words
    → made.counted.items ≡ counted_of line → map plain_entry new ≡ map plain_entry old ++ entry n words line ∷ []
entry_pushed old new made n words line pushed line_is words_are counted_is =
    ap (map plain_entry) pushed ∙ map-append plain_entry old (made ∷ [])
    ∙ (λ i. let e : PlainEntry = record { line = line_is i; words = words_are i; counted = counted_is i } in map plain_entry old ++ e ∷ [])

-- ---- what is known of the lines that were read

pub record AreRead (ts : List (List ℕ)) (k line : ℕ) (entries : List PlainEntry) : Type 0 where
  pub line_is : line ≡ k
  pub within : line ≤ max_lines
  pub entries_are : AreEntriesFrom 1 (take k ts) entries

pub read_more : (ts : List (List ℕ)) (k m line next : ℕ) (words : List ℕ) (old new : List PlainEntry) → m ≡ suc k → next ≡ line + 1 → slice_get ts k ≡ Some words → AreRead ts k line old
    → (found : List PlainEntry) × HasEntries next words found × (new ≡ old ++ found) → AreRead ts m next new
read_more ts k m line next words old new is_next counted at before added =
    let number : next ≡ 1 + length (take k ts) = (let l = taken_length ts k words at in omega (arith, before.line_is, counted, l)) in
    let here = subst (λ (n : ℕ). HasEntries n words added.0) number added.1 in
    let more = entries_more 1 (take k ts) words old added.0 before.entries_are here in
    record {
      line_is = omega (arith, before.line_is, counted, is_next);
      within = added.1.0;
      entries_are = subst (AreEntriesFrom 1 (take m ts)) (sym added.2)
          (subst (λ (xs : List (List ℕ)). AreEntriesFrom 1 xs (old ++ added.0)) (sym (taken ts k m words is_next at)) more);
    }

-- ---- faults

pub read_fault : (text : List ℕ) (k line next : ℕ) (words : List ℕ) (old : List PlainEntry) (fault : ListFault) → next ≡ line + 1 → slice_get (lines text) k ≡ Some words → AreRead (lines text) k line old
    → IsLineFault next words fault → IsListFault text fault
read_fault text k line next words old fault counted at before here =
    let ts = lines text in
    let number : next ≡ 1 + length (take k ts) = (let l = taken_length ts k words at in omega (arith, before.line_is, counted, l)) in
    (take k ts, words, drop (suc k) ts, old, parted ts k words at, before.entries_are, subst (λ (n : ℕ). IsLineFault n words fault) number here)

-- a line with entries has no fault
no_line_fault : (n : ℕ) (words : List ℕ) (found : List PlainEntry) (fault : ListFault) → HasEntries n words found → IsLineFault n words fault → ⊥
no_line_fault n words found (Limit k) has is = omega (arith, has.0, is.1)
no_line_fault n words found NoMemory has is = is
no_line_fault n words found (Syntax k at) has is = elim has.1 [
  | inl none ↦ (let e : true ≡ false = sym none.0 ∙ is.2 in cc)
  | inr some ↦ is.3.none some.0 some.2
]

entries_here : (n : ℕ) (before : List (List ℕ)) (words : List ℕ) (after : List (List ℕ)) (list : List PlainEntry) → AreEntriesFrom n (before ++ words ∷ after) list
    → (found : List PlainEntry) × HasEntries (n + length before) words found
entries_here n [] words after list are = let same : n ≡ n + 0 = omega arith in (are.0, subst (λ (k : ℕ). HasEntries k words are.0) same are.3)
entries_here n (t ∷ ts) words after list are =
    let same : n + 1 + length ts ≡ n + suc (length ts) = omega arith in
    let here = entries_here (n + 1) ts words after are.1 are.4 in
    (here.0, subst (λ (k : ℕ). HasEntries k words here.0) same here.1)

-- a list has no fault
pub no_list_fault : (text : List ℕ) (list : List PlainEntry) (fault : ListFault) → AreEntries text list → IsListFault text fault → ⊥
no_list_fault text list fault are is =
    let all = subst (λ (ts : List (List ℕ)). AreEntriesFrom 1 ts list) is.4 are in
    let here = entries_here 1 is.0 is.1 is.2 list all in
    no_line_fault (1 + length is.0) is.1 here.0 fault here.1 is.6
