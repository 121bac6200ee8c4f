-- What AVPs of the sender's side take is above 0, and the lines of a command are made by it.
use Rattle.std.proofs.Common.{◌≡◌, ℕ, ◌<◌, Bool, true, false, List, Option, Some, None, ap, subst, ◌∙◌, arith}
use Rattle.std.specs.Prelude.{if◌then◌else◌, min, max, slice_get}
use Rattle.std.specs.Option.{option_map_or}
use Rattle.dia_wire.specs.declared.Key.{Key}
use Rattle.dia_wire.specs.Wire.{head_length}
use Rattle.dia_book.specs.declared.DRule.{DRule}
use Rattle.dia_book.specs.Dictionary.{Dictionary, entry_of}
use Rattle.dia_terms.specs.declared.Sends.{Sends}
use Rattle.dia_terms.specs.declared.Sends.TheVariants.{Any, Known, Filled, Listed}
use Rattle.dia_breaking_sites.specs.Sent.{is_open}
use Rattle.dia_breaking_levels.specs.LevelTests.{too_long}
use Rattle.dia_breaking_levels.specs.Showing.{HaveLengths}
use Rattle.dia_breaking_shortest.specs.Exact.{AreExact}
use Rattle.dia_breaking_shortest.proofs.OneSolution.{lengths_are_one}
use Rattle.dia_breaking.specs.Lengths.{Costs, costs_by, length_of_entry, listed_length, other_in, other_length, unknown_length, AreEntryLengths, AreExactlyOthers}
use Rattle.dia_breaking.specs.Sides.{Sides}
use Rattle.dia_breaking.specs.TheLines.{AreFacts, Facts, costs_in}
use Rattle.dia_breaking.proofs.OneSolution.{one_list_of_others}
use Rattle.dia_breaking.proofs.TheOneList.{one_list_of_lengths}

some_head : (vendor : Option ℕ) → 0 < head_length vendor
some_head None = omega arith
some_head (Some v) = omega arith

pub have_listed : (d : Dictionary) (who : Sends) (lengths : List ℕ) → HaveLengths (listed_length d who lengths)
have_listed d who lengths key = by (entry_of d key)
  where
    unknown : (who : Sends) → 0 < unknown_length who key
    unknown Any = some_head _
    unknown Known = omega arith
    unknown Filled = omega arith
    unknown Listed = omega arith

    entry : (o : Option ℕ) → 0 < option_map_or (λ n. min (max n 8) too_long) o too_long
    entry None = omega arith
    entry (Some n) = omega arith

    by : (o : Option ℕ) → 0 < option_map_or (length_of_entry lengths) o (unknown_length who key)
    by None = unknown who
    by (Some e) = entry (slice_get lengths e)

pub have_other : (d : Dictionary) (who : Sends) (lengths : List ℕ) → HaveLengths (other_length d who lengths)
have_other d Any lengths key = have_listed d Any lengths key
have_other d Known lengths key = have_listed d Known lengths key
have_other d Filled lengths key = have_listed d Filled lengths key
have_other d Listed lengths key = omega arith

-- also by the wildcard of these rules
pub have_other_in : (d : Dictionary) (who : Sends) (lengths : List ℕ) (others : List Key) (rules : List DRule) → HaveLengths (other_in (costs_by d who lengths others) rules)
have_other_in d who lengths others rules key = by (is_open who rules)
  where
    by : (b : Bool) → 0 < (if b then other_length d who lengths key else too_long)
    by true = have_other d who lengths key
    by false = omega arith

-- these are what the AVPs of the sender's side take
abbrev pub AreCostsOf : Sides → Costs → Type 0
AreCostsOf s k = (least : List ℕ) × (lengths : List ℕ) × (others : List Key) × AreExact s.sender s.sends least × AreEntryLengths s.sender least lengths
    × AreExactlyOthers s.sender s.receiver s.sends lengths others × (k ≡ costs_by s.sender s.sends lengths others)

-- those that the lines were made by are those of the sender's side
pub one_costs : (s : Sides) (made : Facts) (k : Costs) → AreFacts s made → AreCostsOf s k → k ≡ costs_in s made
one_costs s made k facts (least, lengths, others, exact, are, keys, is) =
    let same = lengths_are_one s.sender s.sends least facts.least exact facts.are_least in
    let by_least = subst (λ (xs : List ℕ). AreEntryLengths s.sender xs lengths) same are in
    let lengths_same : lengths ≡ made.lengths = one_list_of_lengths s.sender facts.least lengths made.lengths by_least facts.are_lengths in
    let by_lengths = subst (λ (xs : List ℕ). AreExactlyOthers s.sender s.receiver s.sends xs others) lengths_same keys in
    let keys_same : others ≡ made.others = one_list_of_others s.sender s.receiver s.sends made.lengths others made.others by_lengths facts.are_others in
    is ∙ ap (λ (xs : List ℕ). costs_by s.sender s.sends xs others) lengths_same ∙ ap (λ (qs : List Key). costs_by s.sender s.sends made.lengths qs) keys_same
