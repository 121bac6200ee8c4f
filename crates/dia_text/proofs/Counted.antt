-- All faults of a text, counted line by line.
use Rattle.std.proofs.Common.{◌≡◌, ℕ, ◌+◌, ◌^◌, ◌<◌, ◌≤◌, ◌==◌, nat_lt, Bool, true, false, if◌then◌else◌, List, [], ◌∷◌, ◌++◌, length, drop, Option, Some, None, Result, Ok, Err, refl, sym, ap, subst, ◌∙◌, append_assoc, append-nil, arith}
use Rattle.std.proofs.lemmas.Bool.{true≢false, eqb-true, lt-ltb, le-ltb}
use Rattle.std.proofs.lemmas.List.{length-append, take_all, take-append-le, drop_all}
use Rattle.dia_wire.specs.declared.Header.{Header}
use Rattle.dia_book.specs.Dictionary.{Dictionary}
use Rattle.dia_text.specs.declared.fault.Kind.TheVariants.{Braces, Limit}
use Rattle.dia_text.specs.declared.fault.Wanted.TheVariants as want
use Rattle.dia_text.specs.declared.fault.Misfit.{Misfit}
use Rattle.dia_text.specs.declared.fault.Fault.{Fault}
use Rattle.dia_text.specs.declared.draft.Opened.{Opened}
use Rattle.dia_text.specs.Lines.{header_of}
use Rattle.dia_text.specs.Drafts.{Level, Frame, Occurs}
use Rattle.dia_text.specs.Made.{fault_at, line_added, is_empty}
use Rattle.dia_text.specs.AllFaults.{begun, judged, line_step, unfinished, end_faults, step_of, faults_from, AreCounted, IsAt}

-- ---- one more

one_longer : (faults : List Fault) (x : Fault) → length (faults ++ x ∷ []) ≡ length faults + 1
one_longer faults x = length-append faults (x ∷ [])

pub counted_more : (faults first : List Fault) (count : ℕ) (x : Fault) → AreCounted faults first count → count < 20 → AreCounted (faults ++ x ∷ []) (first ++ x ∷ []) (count + 1)
counted_more faults first count x (is, n) few = (
  ap (λ (t : List Fault). t ++ x ∷ []) (is ∙ take_all 20 faults (omega (arith, n, few))) ∙ sym (take_all 20 (faults ++ x ∷ []) (omega (arith, n, few, one_longer faults x))),
  omega (arith, n, one_longer faults x),
)

pub counted_past : (faults first : List Fault) (count : ℕ) (x : Fault) → AreCounted faults first count → 20 ≤ count → AreCounted (faults ++ x ∷ []) first (count + 1)
counted_past faults first count x (is, n) many = (is ∙ sym (take-append-le 20 faults (x ∷ []) (omega (arith, n, many))), omega (arith, n, one_longer faults x))

-- ---- where a message ends

no_groups : (rest : List Opened) (g : Opened) (groups : List Opened) → groups ≡ rest ++ g ∷ [] → length groups ≡ 0 → ⊥
no_groups rest g groups is none = omega (arith, none, ap length is, length-append rest (g ∷ []))

pub ends_open : (n : ℕ) (at : Option Level) (h : Bool) (out : List ℕ) (groups : List Opened) → IsAt at h out groups → (length groups ≡ 0 → ⊥) → end_faults n at ≡ fault_at n Braces want.ClosingBrace ∷ []
ends_open n None h out groups (is, same, none) some = absurd (some (ap length none))
ends_open n (Some level) h out groups (is, occurs) some = by level.outer occurs
  where
    by : (fs : List Frame) → Occurs fs level.bytes out groups → unfinished fs level.bytes n ≡ fault_at n Braces want.ClosingBrace ∷ []
    by [] (same, none) = absurd (some (ap length none))
    by (f ∷ fs) s = refl

pub ends_long : (n : ℕ) (at : Option Level) (h : Bool) (out : List ℕ) (groups : List Opened) → IsAt at h out groups → length groups ≡ 0 → h ≡ true → 2 ^ 24 ≤ 20 + length out → end_faults n at ≡ fault_at n Limit want.ShorterMessage ∷ []
ends_long n None h out groups (is, same, none) empty has long = absurd (true≢false (sym has ∙ is))
ends_long n (Some level) h out groups (is, occurs) empty has long = by level.outer occurs
  where
    by : (fs : List Frame) → Occurs fs level.bytes out groups → unfinished fs level.bytes n ≡ fault_at n Limit want.ShorterMessage ∷ []
    by [] (same, none) = ap (λ (b : Bool). if b then [] else fault_at n Limit want.ShorterMessage ∷ []) (le-ltb (20 + length level.bytes) (2 ^ 24) (omega (arith, long, ap length same)))
    by (f ∷ fs) (o, rest, p, q, s) = absurd (no_groups rest _ groups p empty)

pub ends_fine : (n : ℕ) (at : Option Level) (h : Bool) (out : List ℕ) (groups : List Opened) → IsAt at h out groups → length groups ≡ 0 → (h ≡ true → 20 + length out < 2 ^ 24) → end_faults n at ≡ []
ends_fine n None h out groups s empty short = refl
ends_fine n (Some level) h out groups (is, occurs) empty short = by level.outer occurs
  where
    by : (fs : List Frame) → Occurs fs level.bytes out groups → unfinished fs level.bytes n ≡ []
    by [] (same, none) = ap (λ (b : Bool). if b then [] else fault_at n Limit want.ShorterMessage ∷ []) (lt-ltb (20 + length level.bytes) (2 ^ 24) (omega (arith, short is, ap length same)))
    by (f ∷ fs) (o, rest, p, q, s) = absurd (no_groups rest _ groups p empty)

pub counted_same : (faults more : List Fault) (first : List Fault) (count : ℕ) → more ≡ [] → AreCounted faults first count → AreCounted (faults ++ more) first count
counted_same faults more first count none h = subst (λ (fs : List Fault). AreCounted fs first count) (sym (ap (λ (t : List Fault). faults ++ t) none ∙ append-nil faults)) h

-- ---- the place in a text

pub at_start : (at : Option Level) (h : Bool) (out : List ℕ) (groups : List Opened) → IsAt at h out groups → h ≡ false → at ≡ None
at_start None h out groups s other = refl
at_start (Some level) h out groups (is, occurs) other = absurd (true≢false (sym is ∙ other))

pub at_level : (at : Option Level) (h : Bool) (out : List ℕ) (groups : List Opened) → IsAt at h out groups → h ≡ true → (level : Level) × (at ≡ Some level)
at_level None h out groups (is, same, none) has = absurd (true≢false (sym has ∙ is))
at_level (Some level) h out groups s has = (level, refl)

-- ---- each line

begun_few : (l : List ℕ) (n : ℕ) (r : Result (Option Header) Misfit) → length (begun l n r).faults ≤ 1
begun_few l n (Ok None) = omega arith
begun_few l n (Ok (Some header)) = omega arith
begun_few l n (Err m) = omega arith

judged_few : (l : List ℕ) (n : ℕ) (level : Level) (r : Result Level Misfit) → length (judged l n level r).faults ≤ 1
judged_few l n level (Ok next) = omega arith
judged_few l n level (Err m) = omega arith

line_few : (d : Dictionary) (l : List ℕ) (n : ℕ) (at : Option Level) → length (line_step d l n at).faults ≤ 1
line_few d l n None = begun_few l n (header_of d l)
line_few d l n (Some level) = judged_few l n level (line_added d l level)

end_few : (n : ℕ) (at : Option Level) → length (end_faults n at) ≤ 1
end_few n None = omega arith
end_few n (Some level) = by level.outer
  where
    one : (b : Bool) → length (if b then [] else fault_at n Limit want.ShorterMessage ∷ []) ≤ 1
    one true = omega arith
    one false = omega arith

    by : (fs : List Frame) → length (unfinished fs level.bytes n) ≤ 1
    by [] = one (nat_lt (20 + length level.bytes) (2 ^ 24))
    by (f ∷ fs) = omega arith

step_few : (d : Dictionary) (l : List ℕ) (n : ℕ) (at : Option Level) → length (step_of d l n at).faults ≤ 1
step_few d l n at = by (is_empty l)
  where
    by : (b : Bool) → length (if b then record { next = None; faults = end_faults n at } else line_step d l (n + 1) at).faults ≤ 1
    by true = end_few n at
    by false = line_few d l (n + 1) at

-- the lines up to a place were judged
pub record IsJudged (d : Dictionary) (ls : List (List ℕ)) (i : ℕ) (has : Bool) (out : List ℕ) (groups : List Opened) (first : List Fault) (count : ℕ) : Type 0 where
  pub at : Option Level
  pub faults : List Fault
  pub is_at : IsAt at has out groups
  pub counted : AreCounted faults first count
  pub few : length faults ≤ i
  pub goes_on : faults ++ faults_from d i at (drop i ls) ≡ faults_from d 0 None ls

pub judged_none : (d : Dictionary) (ls : List (List ℕ)) (has : Bool) (out : List ℕ) (groups : List Opened) (first : List Fault) (count : ℕ) → has ≡ false → out ≡ [] → groups ≡ [] → AreCounted [] first count
    → IsJudged d ls 0 has out groups first count
judged_none d ls has out groups first count other none empty counted = record { at = None; faults = []; is_at = (other, none, empty); counted = counted; few = omega arith; goes_on = refl }

pub judged_more : (d : Dictionary) (ls : List (List ℕ)) (i : ℕ) (l : List ℕ) (has has' : Bool) (out out' : List ℕ) (groups groups' : List Opened) (first first' : List Fault) (count count' : ℕ)
    → (j : IsJudged d ls i has out groups first count) → drop i ls ≡ l ∷ drop (i + 1) ls → IsAt (step_of d l i j.at).next has' out' groups' → AreCounted (j.faults ++ (step_of d l i j.at).faults) first' count'
    → IsJudged d ls (i + 1) has' out' groups' first' count'
judged_more d ls i l has has' out out' groups groups' first first' count count' j parts is_at counted =
    let s = step_of d l i j.at in
    record {
      at = s.next;
      faults = j.faults ++ s.faults;
      is_at = is_at;
      counted = counted;
      few = omega (arith, length-append j.faults s.faults, step_few d l i j.at, j.few);
      goes_on = append_assoc j.faults s.faults (faults_from d (i + 1) s.next (drop (i + 1) ls)) ∙ ap (λ (xs : List (List ℕ)). j.faults ++ faults_from d i j.at xs) (sym parts) ∙ j.goes_on;
    }

pub judged_all : (d : Dictionary) (ls : List (List ℕ)) (i : ℕ) (has : Bool) (out : List ℕ) (groups : List Opened) (first : List Fault) (count : ℕ) (j : IsJudged d ls i has out groups first count) → length ls ≡ i
    → j.faults ++ end_faults i j.at ≡ faults_from d 0 None ls
judged_all d ls i has out groups first count j ends = ap (λ (xs : List (List ℕ)). j.faults ++ faults_from d i j.at xs) (sym (drop_all i ls (omega (arith, ends)))) ∙ j.goes_on

pub few_counted : (d : Dictionary) (ls : List (List ℕ)) (i : ℕ) (has : Bool) (out : List ℕ) (groups : List Opened) (first : List Fault) (count : ℕ) → IsJudged d ls i has out groups first count → count ≤ i
few_counted d ls i has out groups first count j = omega (arith, j.few, j.counted.1)

pub not_none : (n k : ℕ) → false ≡ (n == 0) → n ≡ k → k ≡ 0 → ⊥
not_none n k some same zero = true≢false (sym (some ∙ ap (λ (m : ℕ). m == 0) (same ∙ zero)))

pub is_none : (n k : ℕ) → true ≡ (n == 0) → n ≡ k → k ≡ 0
is_none n k none same = sym same ∙ eqb-true n 0 (sym none)
