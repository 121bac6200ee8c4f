use Rattle.std.proofs.Common.{◌≡◌, ℕ, ◌<◌, ◌≤◌, List, length, sym, ap, ◌∙◌, arith}
use Rattle.std.proofs.lemmas.Bool.{both_ways}
use Rattle.dia_data.specs.Plain.{plain_format}
use Rattle.dia_breaking_data.specs.Shortest.{witness_bytes}
use Rattle.dia_breaking_avps.proofs.NoLevels.{of_letter, of_eight, of_none, of_short}
use Rattle.dia_breaking_avps.proofs.forms.shortest_no_level.Goals as goal

-- the length that was tested is that of the data
tested : (n : ℕ) (slice bytes : List ℕ) → slice ≡ bytes → length slice ≡ n → length bytes ≡ n
tested n slice bytes e h = sym (ap length e) ∙ h

not_eight : (slice bytes : List ℕ) → slice ≡ bytes → ¬ (length slice ≡ 8) → ¬ (length bytes ≡ 8)
not_eight slice bytes e other eight = other (ap length e ∙ eight)

no_more : (slice bytes : List ℕ) → slice ≡ bytes → length slice ≤ 0 → length bytes ≡ 0
no_more slice bytes e le = let same = ap length e in omega (arith, le, same)

some_more : (slice bytes : List ℕ) → slice ≡ bytes → 0 < length slice → 0 < length bytes
some_more slice bytes e less = let same = ap length e in omega (arith, less, same)

pub returns-then-length-eq8 : goal.returns-then-length-eq8
returns-then-length-eq8 c d u =
    rw c.new.ensures
    (of_eight d u c.args.rules.now (plain_format c.args.format.now) (witness_bytes c.in_ok-least.least) c.in_ok-least.ensures.some
    (tested 8 c.as_slice-length.result.now (witness_bytes c.in_ok-least.least) c.as_slice-length.ensures c.if-length-eq8.true))

pub returns-then-length-gt0 : goal.returns-then-length-gt0
returns-then-length-gt0 c d u =
    of_short d u c.args.rules.now (plain_format c.args.format.now) (witness_bytes c.in_ok-least.least) c.in_ok-least.ensures.some
    (some_more c.as_slice-length.result.now (witness_bytes c.in_ok-least.least) c.as_slice-length.ensures c.if-length-gt0.true)
    (not_eight c.as_slice-length.result.now (witness_bytes c.in_ok-least.least) c.as_slice-length.ensures c.if-length-eq8.false)

pub returns-then-asks_for_none : goal.returns-then-asks_for_none
returns-then-asks_for_none c d u =
    rw c.new-then-asks_for_none.ensures
    (of_letter d u c.args.rules.now (plain_format c.args.format.now) (witness_bytes c.in_ok-least.least) c.in_ok-least.ensures.some
    (no_more c.as_slice-length.result.now (witness_bytes c.in_ok-least.least) c.as_slice-length.ensures c.if-length-gt0.false) (c.asks_for_none.ensures.0 c.if-asks_for_none.true))

pub returns-else-asks_for_none : goal.returns-else-asks_for_none
returns-else-asks_for_none c d u =
    of_none d u c.args.rules.now (plain_format c.args.format.now) (witness_bytes c.in_ok-least.least) c.in_ok-least.ensures.some
    (no_more c.as_slice-length.result.now (witness_bytes c.in_ok-least.least) c.as_slice-length.ensures c.if-length-gt0.false)
    (λ all. both_ways c.asks_for_none.result c.if-asks_for_none.false (c.asks_for_none.ensures.1 all))
