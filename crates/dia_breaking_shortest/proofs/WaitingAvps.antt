-- AVPs that wait, and what a step makes of them.
use Rattle.std.proofs.Common.{◌≡◌, ℕ, zero, suc, ◌+◌, ◌*◌, ◌<◌, ◌≤◌, Bool, true, false, List, [], ◌∷◌, ◌++◌, length, map, take, get_or, Option, Some, None, refl, sym, ap, ◌∙◌, arith, append_assoc}
use Rattle.std.specs.Prelude.{if◌then◌else◌, MatchOption, reverse, sum_by, vec_len}
use Rattle.std.specs.List.{flat_map}
use Rattle.std.proofs.Math.Nat.{suc-mul}
use Rattle.std.proofs.lemmas.Grind.{flat_map-append}
use Rattle.std.proofs.lemmas.List.{append-nil, map-append, reverse-append, take_all, take_more}
use Rattle.std.proofs.lemmas.List.Concat.{flat_map-cons}
use Rattle.std.proofs.lemmas.List.Sums.{sum_by-append, sum_by-cons}
use Rattle.dia_wire.specs.declared.Key.{Key}
use Rattle.dia_book.specs.Dictionary.{Dictionary}
use Rattle.dia_breaking_levels.specs.declared.line.Part.{Part}
use Rattle.dia_breaking_shortest.specs.declared.lookup.Least.{Least}
use Rattle.dia_breaking_shortest.specs.declared.writing.Waiting.{Waiting}
use Rattle.dia_breaking_shortest.specs.Bytes.{avp_within, front_bytes, inner_parts, is_short, least_avp, part_of, parts_bytes, repeated}
use Rattle.dia_breaking_shortest.specs.Waiting.{bytes_of, bytes_waiting, steps_of, steps_waiting, steps_within, waiting_parts}

repeated_none : (n : ℕ) → repeated n [] ≡ []
repeated_none zero = refl
repeated_none (suc n) = repeated_none n

abbrev waits : ℕ → Part → Waiting
waits n part = record { part = part; levels = n }

abbrev waiting_of : Key → ℕ → ℕ → Waiting
waiting_of key count n = waits n (part_of key count)

-- where nothing is taken from a list
pub popped_none : (r : Option Waiting) (n m : ℕ) → MatchOption r ((n ≡ 0) × (m ≡ 0)) (λ _. m + 1 ≡ n) → ((x : Waiting) → r ≡ Some x → ⊥) → n ≡ 0
popped_none None n m is other = is.0
popped_none (Some x) n m is other = absurd (other x refl)

-- one part more waits
pub waits_more : (n : ℕ) (start old new : List Waiting) (parts : List Part) (i : ℕ) (d : Part) → i < length parts → old ≡ start ++ waiting_parts (suc n) (take i parts)
    → new ≡ old ++ waits n (get_or parts i d) ∷ [] → new ≡ start ++ waiting_parts (suc n) (take (i + 1) parts)
waits_more n start old new parts i d within before is =
    let part = get_or parts i d in
    is ∙ ap (λ (ws : List Waiting). ws ++ waits n part ∷ []) before ∙ append_assoc start (map (waits n) (take i parts)) (waits n part ∷ [])
    ∙ ap (λ (ws : List Waiting). start ++ ws) (sym (map-append (waits n) (take i parts) (part ∷ []))) ∙ ap (λ (ps : List Part). start ++ map (waits n) ps) (sym (take_more parts i d within))

pub waits_all : (n : ℕ) (start all : List Waiting) (parts : List Part) (i : ℕ) → length parts ≤ i → all ≡ start ++ waiting_parts (suc n) (take i parts) → all ≡ start ++ waiting_parts (suc n) parts
waits_all n start all parts i end is = is ∙ ap (λ (ps : List Part). start ++ waiting_parts (suc n) ps) (take_all i parts end)

-- where no levels are left
pub none_put : (n : ℕ) (stack : List Waiting) (parts : List Part) → n ≡ 0 → stack ≡ stack ++ waiting_parts n parts
none_put n stack parts none = sym (append-nil stack) ∙ ap (λ (k : ℕ). stack ++ waiting_parts k parts) (sym none)

-- where some are
pub some_put : (n less : ℕ) (old new : List Waiting) (inner turned parts : List Part) → n ≡ suc less → inner ≡ parts → turned ≡ reverse inner → new ≡ old ++ waiting_parts (suc less) turned
    → new ≡ old ++ waiting_parts n (reverse parts)
some_put n less old new inner turned parts is same turns more =
    more ∙ ap (λ (ps : List Part). old ++ waiting_parts (suc less) ps) (turns ∙ ap reverse same) ∙ ap (λ (k : ℕ). old ++ waiting_parts k (reverse parts)) (sym is)

module _ (d : Dictionary) (least : Least) where
  -- ---- bytes

  none_waiting : (parts : List Part) → parts_bytes (avp_within d least zero) parts ≡ []
  none_waiting [] = refl
  none_waiting (part ∷ parts) =
      flat_map-cons (λ (p : Part). repeated p.count []) part parts ∙ ap (λ (bs : List ℕ). bs ++ parts_bytes (avp_within d least zero) parts) (repeated_none part.count) ∙ none_waiting parts

  bytes_onto : (xs ys : List Waiting) → bytes_waiting d least (xs ++ ys) ≡ bytes_waiting d least ys ++ bytes_waiting d least xs
  bytes_onto xs ys = ap (flat_map (bytes_of d least)) (reverse-append xs ys) ∙ flat_map-append (bytes_of d least) (reverse ys) (reverse xs)

  bytes_one : (x : Waiting) → bytes_waiting d least (x ∷ []) ≡ bytes_of d least x
  bytes_one x = flat_map-cons (bytes_of d least) x [] ∙ append-nil (bytes_of d least x)

  -- the parts of a level, the first of them last
  bytes_within : (n : ℕ) (parts : List Part) → bytes_waiting d least (waiting_parts n (reverse parts)) ≡ parts_bytes (avp_within d least n) parts
  bytes_within zero parts = sym (none_waiting parts)
  bytes_within (suc n) [] = refl
  bytes_within (suc n) (part ∷ parts) =
      ap (λ (xs : List Part). bytes_waiting d least (map (waits n) xs)) (reverse-append (part ∷ []) parts)
      ∙ ap (bytes_waiting d least) (map-append (waits n) (reverse parts) (part ∷ []))
      ∙ bytes_onto (map (waits n) (reverse parts)) (waits n part ∷ [])
      ∙ ap (λ (bs : List ℕ). bs ++ bytes_waiting d least (map (waits n) (reverse parts))) (bytes_one (waits n part))
      ∙ ap (λ (bs : List ℕ). bytes_of d least (waits n part) ++ bs) (bytes_within (suc n) parts)
      ∙ sym (flat_map-cons (λ (p : Part). repeated p.count (avp_within d least (suc n) p.key)) part parts)

  regrouped : (old front inner again rest : List ℕ) → (old ++ front) ++ (inner ++ (again ++ rest)) ≡ old ++ (((front ++ inner) ++ again) ++ rest)
  regrouped old front inner again rest =
      append_assoc old front (inner ++ (again ++ rest))
      ∙ ap (λ (bs : List ℕ). old ++ bs)
      (sym (append_assoc front inner (again ++ rest)) ∙ sym (append_assoc (front ++ inner) again rest))

  abbrev within : Key → List Part
  within key = inner_parts d least key

  -- one is written, but for the AVPs within it, which wait before the others
  pub bytes_next : (key : Key) (count less n : ℕ) (old new : List ℕ) (stack pushed all : List Waiting) → count ≡ suc less → pushed ≡ stack ++ waiting_of key less n ∷ []
      → new ≡ old ++ front_bytes d least key → all ≡ pushed ++ waiting_parts n (reverse (within key))
      → new ++ bytes_waiting d least all ≡ old ++ (bytes_of d least (waiting_of key count n) ++ bytes_waiting d least stack)
  bytes_next key count less n old new stack pushed all is_count is_pushed is_new is_all =
      let again = waiting_of key less n in
      let inner = parts_bytes (avp_within d least n) (within key) in
      let stacked : bytes_waiting d least pushed ≡ bytes_of d least again ++ bytes_waiting d least stack =
      ap (bytes_waiting d least) is_pushed ∙ bytes_onto stack (again ∷ []) ∙ ap (λ (bs : List ℕ). bs ++ bytes_waiting d least stack) (bytes_one again) in
      let whole : bytes_waiting d least all ≡ inner ++ (bytes_of d least again ++ bytes_waiting d least stack) =
      ap (bytes_waiting d least) is_all ∙ bytes_onto pushed (waiting_parts n (reverse (within key)))
      ∙ ap (λ (bs : List ℕ). bs ++ bytes_waiting d least pushed) (bytes_within n (within key)) ∙ ap (λ (bs : List ℕ). inner ++ bs) stacked in
      ap (λ (bs : List ℕ). bs ++ bytes_waiting d least all) is_new ∙ ap (λ (bs : List ℕ). (old ++ front_bytes d least key) ++ bs) whole
      ∙ regrouped old (front_bytes d least key) inner (bytes_of d least again) (bytes_waiting d least stack)
      ∙ ap (λ (m : ℕ). old ++ (bytes_of d least (waiting_of key m n) ++ bytes_waiting d least stack)) (sym is_count)

  -- where none of it is left
  pub bytes_same : (next : Waiting) (old : List ℕ) (stack : List Waiting) → next.part.count ≡ 0 → old ++ bytes_waiting d least stack ≡ old ++ (bytes_of d least next ++ bytes_waiting d least stack)
  bytes_same next old stack none =
      ap (λ (m : ℕ). old ++ (repeated m (avp_within d least (suc next.levels) next.part.key) ++ bytes_waiting d least stack)) (sym none)

  -- ---- steps

  steps_inner : (n : ℕ) (parts : List Part) → steps_waiting d least (waiting_parts n parts) ≤ sum_by (λ (p : Part). 1 + p.count * steps_within d least n p.key) parts
  steps_inner zero parts = omega arith
  steps_inner (suc n) [] = omega arith
  steps_inner (suc n) (part ∷ parts) =
      let ih = steps_inner (suc n) parts in
      omega (
        arith,
        ih,
        sum_by-cons (steps_of d least) (waits n part) (map (waits n) parts),
        sum_by-cons (λ (p : Part). 1 + p.count * steps_within d least (suc n) p.key) part parts,
      )

  turned : (f : Part → ℕ) (parts : List Part) → sum_by f (reverse parts) ≡ sum_by f parts
  turned f [] = refl
  turned f (part ∷ parts) =
      let ih = turned f parts in
      let one : sum_by f (part ∷ []) ≡ f part + 0 = sum_by-cons f part [] in
      ap (sum_by f) (reverse-append (part ∷ []) parts) ∙ omega (arith, ih, one, sum_by-append f (reverse parts) (part ∷ []), sum_by-cons f part parts)

  pub steps_next : (key : Key) (count less n : ℕ) (stack pushed all : List Waiting) → count ≡ suc less → pushed ≡ stack ++ waiting_of key less n ∷ []
      → all ≡ pushed ++ waiting_parts n (reverse (within key)) → steps_waiting d least all < steps_of d least (waiting_of key count n) + steps_waiting d least stack
  steps_next key count less n stack pushed all is_count is_pushed is_all =
      let f : Part → ℕ = λ p. 1 + p.count * steps_within d least n p.key in
      let first = ap (steps_waiting d least) is_all ∙ sum_by-append (steps_of d least) pushed (waiting_parts n (reverse (within key))) in
      let second = ap (steps_waiting d least) is_pushed ∙ sum_by-append (steps_of d least) stack (waiting_of key less n ∷ []) in
      let third = sum_by-cons (steps_of d least) (waiting_of key less n) [] in
      let inner = steps_inner n (reverse (within key)) in
      let same = turned f (within key) in
      let product = ap (λ (m : ℕ). m * steps_within d least (suc n) key) is_count ∙ suc-mul less (steps_within d least (suc n) key) in
      omega (arith, first, second, third, inner, same, product)

  pub steps_same : (next : Waiting) (stack : List Waiting) → steps_waiting d least stack < steps_of d least next + steps_waiting d least stack
  steps_same next stack = omega arith

  -- ---- the end

  pub bytes_done : (old out target : List ℕ) (stack : List Waiting) → stack ≡ [] → out ++ bytes_waiting d least stack ≡ old ++ target → out ≡ old ++ target
  bytes_done old out target stack none is = sym (append-nil out) ∙ ap (λ (xs : List Waiting). out ++ bytes_waiting d least xs) (sym none) ∙ is

  -- one more step from a list whose last is taken
  pub bytes_on : (old target out new : List ℕ) (next : Waiting) (stack taken all : List Waiting) → stack ≡ taken ++ next ∷ [] → out ++ bytes_waiting d least stack ≡ old ++ target
      → new ++ bytes_waiting d least all ≡ out ++ (bytes_of d least next ++ bytes_waiting d least taken) → new ++ bytes_waiting d least all ≡ old ++ target
  bytes_on old target out new next stack taken all is so_far step =
      step ∙ ap (λ (bs : List ℕ). out ++ bs)
      (sym (ap (bytes_waiting d least) is ∙ bytes_onto taken (next ∷ []) ∙ ap (λ (bs : List ℕ). bs ++ bytes_waiting d least taken) (bytes_one next))) ∙ so_far

  pub steps_on : (next : Waiting) (stack taken all : List Waiting) → stack ≡ taken ++ next ∷ [] → steps_waiting d least all < steps_of d least next + steps_waiting d least taken
      → steps_waiting d least all < steps_waiting d least stack
  steps_on next stack taken all is less =
      let whole = ap (steps_waiting d least) is ∙ sum_by-append (steps_of d least) taken (next ∷ []) in
      omega (arith, less, whole, sum_by-cons (steps_of d least) next [])

  -- at the start one waits
  pub bytes_begun : (key : Key) (n m : ℕ) (old : List ℕ) (first stack : List Waiting) → n ≡ m → first ≡ [] → stack ≡ first ++ waiting_of key 1 n ∷ []
      → old ++ bytes_waiting d least stack ≡ old ++ avp_within d least (suc m) key
  bytes_begun key n m old first stack same none is =
      let one : stack ≡ waiting_of key 1 n ∷ [] = is ∙ ap (λ (xs : List Waiting). xs ++ waiting_of key 1 n ∷ []) none in
      ap (λ (bs : List ℕ). old ++ bs)
      (ap (bytes_waiting d least) one ∙ bytes_one (waiting_of key 1 n) ∙ append-nil (avp_within d least (suc n) key) ∙ ap (λ (k : ℕ). avp_within d least (suc k) key) same)

  -- where no message has room for one
  pub none_written : (key : Key) (old : List ℕ) → is_short d least key ≡ false → old ≡ old ++ least_avp d least key
  none_written key old long = sym (append-nil old) ∙ ap (λ (b : Bool). old ++ (if b then avp_within d least (suc (vec_len least.lengths)) key else [])) (sym long)

  no_more : (stack : List Waiting) → length stack ≡ 0 → stack ≡ []
  no_more [] none = refl
  no_more (x ∷ stack) none = absurd (omega (arith, none))

  -- where none waits any more
  pub all_written : (key : Key) (old out : List ℕ) (stack : List Waiting) → is_short d least key ≡ true → length stack ≡ 0
      → out ++ bytes_waiting d least stack ≡ old ++ avp_within d least (suc (vec_len least.lengths)) key → out ≡ old ++ least_avp d least key
  all_written key old out stack short none is =
      bytes_done old out (avp_within d least (suc (vec_len least.lengths)) key) stack (no_more stack none) is
      ∙ ap (λ (b : Bool). old ++ (if b then avp_within d least (suc (vec_len least.lengths)) key else [])) (sym short)
