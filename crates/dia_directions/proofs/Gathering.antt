-- What waits when a segment came, and when a gap was given up.
use Rattle.std.proofs.Common.{◌≡◌, ℕ, ◌+◌, ◌-◌, ◌%◌, ◌^◌, ◌<◌, ◌≤◌, Bool, true, false, List, [], ◌∷◌, ◌++◌, length, map, min, Option, Some, None, inl, inr, refl, ap, sym, subst, ◌∙◌, arith}
use Rattle.std.specs.List.{list_all}
use Rattle.std.specs.Prelude.{nat_lt, ◌&&◌, ◌⊎◌, IsSome}
use Rattle.std.proofs.lemmas.Bool.{cases_lt, le-ltb, lt-ltb}
use Rattle.std.proofs.lemmas.List.{append-nil, map-append}
use Rattle.std.proofs.lemmas.List.Folds.{list_all-append}
use Rattle.std.proofs.lemmas.List.Sums.{sum_by-append}
use Rattle.dia_directions.specs.declared.waiting.Resumed.{Resumed}
use Rattle.dia_directions.specs.declared.waiting.Waiting.{Waiting}
use Rattle.dia_directions.specs.Bytes.{piece_bytes}
use Rattle.dia_directions.specs.Gaps.{GivesUp, PlainResumed, Resumes, plain_resumed}
use Rattle.dia_directions.specs.Order.{IsRun, Order, Placed, TakesBytes, ahead, byte_at, byte_in, is_from, is_left, left, nearer, placed}
use Rattle.dia_directions.specs.Waits.{AreAhead, all_placed, counted, placed_of}
use Rattle.dia_directions.proofs.Left.{all_placed-nearer, byte_at-ahead, byte_at-nearer, left-push, left_zero, next_out}
use Rattle.dia_directions.proofs.Placing.{both_true, byte_at-push_empty, byte_at-push_none, byte_at_gap}

-- ---- a segment came

pub is_left_ahead : (p : Placed) → 0 < p.place → 0 < length p.bytes → is_left 0 p ≡ true
is_left_ahead p far some = both_true (nat_lt 0 p.place) (nat_lt 0 (length p.bytes)) (lt-ltb 0 p.place far) (lt-ltb 0 (length p.bytes) some)

pub AreAhead-push : (next : ℕ) (ws : List Waiting) (w : Waiting) → AreAhead next ws → is_left 0 (placed_of next w) ≡ true → AreAhead next (ws ++ w ∷ [])
AreAhead-push next ws w ahead here =
    ap (λ ps. list_all (is_left 0) ps) (map-append (placed_of next) ws (w ∷ []))
    ∙ list_all-append (is_left 0) (all_placed next ws) (placed_of next w ∷ [])
    ∙ both_true (list_all (is_left 0) (all_placed next ws)) (list_all (is_left 0) (placed_of next w ∷ [])) ahead (both_true (is_left 0 (placed_of next w)) true here refl)

pub counted-push : (ws : List Waiting) (w : Waiting) (n : ℕ) → length (piece_bytes w.piece) ≡ n → counted (ws ++ w ∷ []) ≡ min (counted ws + n) (2 ^ 64 - 1)
counted-push ws w n same = omega (arith, sum_by-append (λ (v : Waiting). length (piece_bytes v.piece)) ws (w ∷ []), same)

-- it waits
pub waits : (next : ℕ) (ws now : List Waiting) (w : Waiting) (bytes : List (Option ℕ)) → AreAhead next ws → now ≡ ws ++ w ∷ [] → piece_bytes w.piece ≡ bytes → is_left 0 (placed_of next w) ≡ true
    → all_placed next now ≡ left 0 (all_placed next ws ++ record { place = ahead next w.number; bytes = bytes } ∷ [])
waits next ws now w bytes ahead_all pushed same here =
    let is : all_placed next now ≡ all_placed next ws ++ placed_of next w ∷ [] = ap (λ vs. all_placed next vs) pushed ∙ map-append (placed_of next) ws (w ∷ []) in
    let all : list_all (is_left 0) (all_placed next now) ≡ true = ap (λ vs. list_all (is_left 0) (all_placed next vs)) pushed ∙ AreAhead-push next ws w ahead_all here in
    sym (left_zero (all_placed next now) all)
    ∙ ap (λ ps. left 0 ps) (is ∙ ap (λ bs. all_placed next ws ++ record { place = ahead next w.number; bytes = bs } ∷ []) same)

-- one without bytes doesn't
pub waits_not : (next place : ℕ) (ws : List Waiting) (bytes : List (Option ℕ)) → AreAhead next ws → length bytes ≡ 0
    → all_placed next ws ≡ left 0 (all_placed next ws ++ record { place = place; bytes = bytes } ∷ [])
waits_not next place ws bytes ahead_all none =
    sym (left-push 0 (all_placed next ws) (record { place = place; bytes = bytes }) (second_false (nat_lt 0 place) (nat_lt 0 (length bytes)) (le-ltb 0 (length bytes) (omega (arith, none))))
    ∙ left_zero (all_placed next ws) ahead_all)
  where
    second_false : (a b : Bool) → b ≡ false → (a && b) ≡ false
    second_false true b is = is
    second_false false b is = refl

-- nor one that is next
pub waits_not_next : (next place : ℕ) (ws : List Waiting) (bytes : List (Option ℕ)) → AreAhead next ws → place ≡ 0
    → all_placed next ws ≡ left 0 (all_placed next ws ++ record { place = place; bytes = bytes } ∷ [])
waits_not_next next place ws bytes ahead_all here =
    sym (left-push 0 (all_placed next ws) (record { place = place; bytes = bytes }) (ap (λ n. is_left 0 (record { place = n; bytes = bytes })) here ∙ next_out 0 bytes)
    ∙ left_zero (all_placed next ws) ahead_all)

-- a segment came that isn't next
pub takes_ahead : (old new : Order) (number : ℕ) (bytes run : List (Option ℕ)) (p : Placed) → placed old.next number bytes ≡ Some p → old.next < 2 ^ 32
    → list_all (is_left 0) old.waiting ≡ true → byte_in p 0 ≡ None → new ≡ record { next = old.next; waiting = left 0 (old.waiting ++ p ∷ []) } → run ≡ []
    → TakesBytes old number bytes run new
takes_ahead old new number bytes run p near small all none is empty =
    subst (λ (bs : List (Option ℕ)). TakesBytes old number bytes bs new) (sym empty) (record {
      arrived = p;
      is_placed = near;
      is_run = record { has = λ (i : ℕ) few. absurd (omega (arith, few)); ends = byte_at-push_none old.waiting p 0 (byte_at-ahead old.waiting all) none };
      next = ap (λ (o : Order). o.next) is ∙ (let same : old.next ≡ (old.next + 0) % 2 ^ 32 = omega (arith, small) in same);
      waiting = ap (λ (o : Order). o.waiting) is;
    })

-- ---- a gap was given up

pub resumed : (next m n : ℕ) (ws : List Waiting) (run bytes : List (Option ℕ)) (new : Order) → next < 2 ^ 32 → list_all (is_from m) (all_placed next ws) ≡ true
    → (b : Option ℕ) × (byte_at (all_placed next ws) m ≡ Some b) → IsRun (all_placed ((next + m) % 2 ^ 32) ws ++ record { place = 0; bytes = bytes } ∷ []) run → bytes ≡ []
    → n ≡ length run → new.next ≡ (next + (m + n)) % 2 ^ 32 → new.waiting ≡ left (m + n) (all_placed next ws)
    → Resumes (record { next = next; waiting = all_placed next ws }) (record { missing = m; run = run }) new
resumed next m n ws run bytes new small from some is empty sized next_is left_is = record {
  gap = λ (i : ℕ) few. byte_at_gap m i (all_placed next ws) from few;
  is_run = record { has = λ (i : ℕ) few. there i ∙ is.has i few; ends = there (length run) ∙ is.ends };
  found = cases (cases_lt 0 (length run)) some;
  next = next_is ∙ ap (λ k. (next + (m + k)) % 2 ^ 32) sized;
  waiting = left_is ∙ ap (λ k. left (m + k) (all_placed next ws)) sized;
}
  where
    there : (i : ℕ) → byte_at (map (nearer m) (all_placed next ws)) i ≡ byte_at (all_placed ((next + m) % 2 ^ 32) ws ++ record { place = 0; bytes = bytes } ∷ []) i
    there i = ap (λ ps. byte_at ps i) (sym (all_placed-nearer next m ws small from))
        ∙ sym (byte_at-push_empty (all_placed ((next + m) % 2 ^ 32) ws) (record { place = 0; bytes = bytes }) i empty)

    cases : (0 < length run) ⊎ (length run ≤ 0) → (b : Option ℕ) × (byte_at (all_placed next ws) m ≡ Some b) → 0 < length run
    cases (inl some) found = some
    cases (inr none) (b, e) =
        let nil : length run ≡ 0 = omega (arith, none) in
        let sum : m + 0 ≡ m = omega arith in
        let f : None ≡ Some b = sym is.ends ∙ sym (there (length run)) ∙ ap (λ i. byte_at (map (nearer m) (all_placed next ws)) i) nil
        ∙ byte_at-nearer m 0 (all_placed next ws) from ∙ ap (λ i. byte_at (all_placed next ws) i) sum ∙ e in
        cc

-- the byte that is there
pub some_byte : {X : Type 0} (o : Option X) → IsSome o → (b : X) × (o ≡ Some b)
some_byte None is = absurd (let f : false ≡ true = is in cc)
some_byte (Some b) is = (b, refl)

-- ---- all gaps were given up

pub gives_all : (parts : List Resumed) (old now new : Order) → ((rest : List PlainResumed) (end : Order) → GivesUp now rest end → GivesUp old (map plain_resumed parts ++ rest) end)
    → now.waiting ≡ [] → now ≡ new → GivesUp old (map plain_resumed parts) new
gives_all parts old now new before none same =
    subst (λ (ps : List PlainResumed). GivesUp old ps new) (append-nil (map plain_resumed parts)) (before [] new (none, same))
