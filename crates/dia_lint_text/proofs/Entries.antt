-- The lines of a list, one after another.
use Rattle.std.proofs.Common.{◌≡◌, ℕ, zero, suc, ◌+◌, ◌≤◌, Bool, true, false, cond, List, [], ◌∷◌, ◌++◌, length, map, take, Option, Some, None, refl, sym, ap, ◌∙◌, append_assoc, arith}
use Rattle.std.specs.Prelude.{nat_lt, slice_get, string_bytes, ◌-◌, is_some}
use Rattle.std.specs.Option.{option_or}
use Rattle.std.proofs.lemmas.List.{append-nil, map-append}
use Rattle.std.proofs.lemmas.Option.{none-some, same_Some}
use Rattle.dia_accepted.specs.declared.list.Entry.{Entry}
use Rattle.dia_accepted.specs.Accepted.{PlainEntry, max_lines, plain_entry}
use Rattle.dia_accepted.specs.Words.{entry_text}
use Rattle.dia_explain_places.specs.Tables.{start_of_line}
use Rattle.dia_lint.specs.declared.rule.Rule.{Rule}
use Rattle.dia_lint_text.specs.declared.accepted.BadList.{BadList}
use Rattle.dia_lint_text.specs.declared.accepted.BadList.TheVariants.{Limit, Syntax}
use Rattle.dia_lint_text.specs.Lists.{Form, counted_words, entries_by, entries_from, entry_by, fault_from, faulty_rest, form_of, is_skipped, line_fault}

-- one line more
taken : (ts : List (List ℕ)) (k m : ℕ) (words : List ℕ) → m ≡ suc k → slice_get ts k ≡ Some words → take m ts ≡ take k ts ++ words ∷ []
taken ts k m words next at = ap (λ (n : ℕ). take n ts) next ∙ by ts k at
  where
    by : (ts : List (List ℕ)) (k : ℕ) → slice_get ts k ≡ Some words → take (suc k) ts ≡ take k ts ++ words ∷ []
    by [] k e = absurd (none-some words e)
    by (t ∷ ts) zero e = ap (λ (x : List ℕ). x ∷ []) (same_Some t words e)
    by (t ∷ ts) (suc k) e = ap (λ (xs : List (List ℕ)). t ∷ xs) (by ts k e)

taken_length : (ts : List (List ℕ)) (k : ℕ) (words : List ℕ) → slice_get ts k ≡ Some words → length (take k ts) ≡ k
taken_length [] k words at = absurd (none-some words at)
taken_length (t ∷ ts) zero words at = refl
taken_length (t ∷ ts) (suc k) words at = ap suc (taken_length ts k words at)

-- ---- entries

entries_more : (is : Rule → Bool) (n : ℕ) (xs : List (List ℕ)) (words : List ℕ)
    → entries_from is n (xs ++ words ∷ []) ≡ entries_from is n xs ++ entries_by is (n + length xs) words
entries_more is n [] words = append-nil (entries_by is n words) ∙ ap (λ (k : ℕ). entries_by is k words) (let e : n ≡ n + 0 = omega arith in e)
entries_more is n (x ∷ xs) words =
    ap (λ (es : List PlainEntry). entries_by is n x ++ es) (entries_more is (n + 1) xs words)
    ∙ ap (λ (k : ℕ). entries_by is n x ++ (entries_from is (n + 1) xs ++ entries_by is k words)) (let e : n + 1 + length xs ≡ n + suc (length xs) = omega arith in e)
    ∙ sym (append_assoc (entries_by is n x) (entries_from is (n + 1) xs) (entries_by is (n + suc (length xs)) words))

-- one entry more
pub entry_pushed : (old new : List Entry) (made : Entry) (n : ℕ) (words : List ℕ) (form : Form) → new ≡ old ++ made ∷ [] → made.line ≡ n → string_bytes made.words ≡ words
    → made.counted.items ≡ counted_words form.rule form.subject form.detail → map plain_entry new ≡ map plain_entry old ++ entry_by n words form ∷ []
entry_pushed old new made n words form pushed line_is words_are counted_is =
    ap (map plain_entry) pushed ∙ map-append plain_entry old (made ∷ [])
    ∙ (λ i. let e : PlainEntry = record { line = line_is i; words = words_are i; counted = counted_is i } in map plain_entry old ++ e ∷ [])

-- ---- faults

or_none : (a b : Option BadList) → option_or a b ≡ None → (a ≡ None) × (b ≡ None)
or_none None b e = (refl, e)
or_none (Some f) b e = absurd (let z : Some f ≡ None = e in cc)

no_faults : (text : List ℕ) (n : ℕ) (xs : List (List ℕ)) (words : List ℕ) → fault_from text n xs ≡ None → line_fault text (n + length xs) words ≡ None
    → fault_from text n (xs ++ words ∷ []) ≡ None
no_faults text n [] words none here =
    let same : n ≡ n + 0 = omega arith in
    ap (λ (o : Option BadList). option_or o None) (ap (λ (k : ℕ). line_fault text k words) same ∙ here)
no_faults text n (x ∷ xs) words none here =
    let both = or_none (line_fault text n x) (fault_from text (n + 1) xs) none in
    let same : n + 1 + length xs ≡ n + suc (length xs) = omega arith in
    let rest = no_faults text (n + 1) xs words both.1 (ap (λ (k : ℕ). line_fault text k words) same ∙ here) in
    ap (λ (o : Option BadList). option_or o (fault_from text (n + 1) (xs ++ words ∷ []))) both.0 ∙ rest

-- the first line that has a fault
first_fault : (text : List ℕ) (n : ℕ) (ts : List (List ℕ)) (k : ℕ) (words : List ℕ) (fault : BadList) → slice_get ts k ≡ Some words
    → fault_from text n (take k ts) ≡ None → line_fault text (n + k) words ≡ Some fault → fault_from text n ts ≡ Some fault
first_fault text n [] k words fault at none here = absurd (none-some words at)
first_fault text n (t ∷ ts) zero words fault at none here =
    let same : t ≡ words = same_Some t words at in
    let index : n ≡ n + 0 = omega arith in
    ap (λ (o : Option BadList). option_or o (fault_from text (n + 1) ts)) (ap (line_fault text n) same ∙ ap (λ (m : ℕ). line_fault text m words) index ∙ here)
first_fault text n (t ∷ ts) (suc k) words fault at none here =
    let both = or_none (line_fault text n t) (fault_from text (n + 1) (take k ts)) none in
    let index : n + 1 + k ≡ n + suc k = omega arith in
    ap (λ (o : Option BadList). option_or o (fault_from text (n + 1) ts)) both.0
    ∙ first_fault text (n + 1) ts k words fault at both.1 (ap (λ (m : ℕ). line_fault text m words) index ∙ here)

-- a line without fault is within the limit
within_limit : (text : List ℕ) (n : ℕ) (words : List ℕ) → line_fault text n words ≡ None → n ≤ max_lines
within_limit text n words none = by (nat_lt max_lines n) refl none
  where
    by : (b : Bool) → nat_lt max_lines n ≡ b → cond b (Some (Limit n)) (cond (is_skipped words) None (cond (is_some (form_of (entry_text words))) None
        (Some (Syntax n (start_of_line text n + (length (entry_text words) - length (faulty_rest (entry_text words)))))))) ≡ None → n ≤ max_lines
    by true e f = absurd (let z : Some (Limit n) ≡ None = f in cc)
    by false e f = grind arith

-- ---- what is known of the lines that were read

pub record AreRead (is : Rule → Bool) (text : List ℕ) (ts : List (List ℕ)) (k line : ℕ) (entries : List PlainEntry) : Type 0 where
  pub line_is : line ≡ k
  pub within : line ≤ max_lines
  pub entries_are : entries ≡ entries_from is 1 (take k ts)
  pub none : fault_from text 1 (take k ts) ≡ None

pub read_more : (is : Rule → Bool) (text : List ℕ) (ts : List (List ℕ)) (k m line next : ℕ) (words : List ℕ) (old new : List PlainEntry) → m ≡ suc k → next ≡ line + 1
    → slice_get ts k ≡ Some words → AreRead is text ts k line old → new ≡ old ++ entries_by is next words → line_fault text next words ≡ None → AreRead is text ts m next new
read_more is text ts k m line next words old new is_next counted at before added none =
    let number : next ≡ 1 + length (take k ts) = (let l = taken_length ts k words at in omega (arith, before.line_is, counted, l)) in
    let here : line_fault text (1 + length (take k ts)) words ≡ None = ap (λ (n : ℕ). line_fault text n words) (sym number) ∙ none in
    let more = taken ts k m words is_next at in
    record {
      line_is = omega (arith, before.line_is, counted, is_next);
      within = within_limit text next words none;
      entries_are = added ∙ ap (λ (es : List PlainEntry). es ++ entries_by is next words) before.entries_are
          ∙ ap (λ (n : ℕ). entries_from is 1 (take k ts) ++ entries_by is n words) number ∙ sym (entries_more is 1 (take k ts) words) ∙ ap (entries_from is 1) (sym more);
      none = ap (fault_from text 1) more ∙ no_faults text 1 (take k ts) words before.none here;
    }

pub read_fault : (is : Rule → Bool) (text : List ℕ) (ts : List (List ℕ)) (k line next : ℕ) (words : List ℕ) (old : List PlainEntry) (fault : BadList) → next ≡ line + 1
    → slice_get ts k ≡ Some words → AreRead is text ts k line old → line_fault text next words ≡ Some fault → fault_from text 1 ts ≡ Some fault
read_fault is text ts k line next words old fault counted at before here =
    let number : next ≡ 1 + k = omega (arith, before.line_is, counted) in
    first_fault text 1 ts k words fault at before.none (ap (λ (n : ℕ). line_fault text n words) (sym number) ∙ here)
