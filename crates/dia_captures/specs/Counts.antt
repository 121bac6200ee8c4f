-- The verdicts of a run, counted.
use Rattle.std.specs.Prelude.{◌≡◌, ℕ, suc, ◌+◌, ◌==◌, min, not, ◌&&◌, Bool, true, false, if◌then◌else◌, List, [], ◌∷◌, length, map, filter, take, slice_index, Option, None, Some, option_to_list}
use Rattle.std.specs.List.{count_by, flat_map, list_any}
use Rattle.dia_check.specs.declared.Subject.{Subject}
use Rattle.dia_check.specs.declared.Subject.TheVariants.{Nothing, Avp, Wildcard}
use Rattle.dia_check.specs.Reasons.{row_of}
use Rattle.dia_io.specs.declared.Exit.{Exit}
use Rattle.dia_captures.specs.declared.verdicts.Checked.{Checked}
use Rattle.dia_captures.specs.declared.verdicts.Checked.TheVariants.{Valid, Wrong}
use Rattle.dia_captures.specs.declared.verdicts.Flaw.{Flaw}
use Rattle.dia_captures.specs.declared.verdicts.Flaw.TheVariants as flaw
use Rattle.dia_captures.specs.declared.verdicts.Refuted.{Refuted}
use Rattle.dia_captures.specs.declared.reasons.Seen.{Seen}
use Rattle.dia_captures.specs.declared.reasons.Met.{Met}
use Rattle.dia_captures.specs.declared.reasons.Reasons.{Reasons}
use Rattle.dia_captures.specs.declared.tally.Tally.{Tally}
use Rattle.dia_captures.specs.Ending.{ended_of, is_yes}
use Rattle.dia_captures.specs.Verdicts.{checked_exit, refuted_exit, unless_refused}

-- counts, and the numbers of lines, stop at this number
abbrev pub most_counted : ℕ
most_counted = 18446744073709551615

abbrev pub counted : ℕ → ℕ
counted n = min n most_counted

-- how often something was met at these places, and where first
abbrev pub seen : List ℕ → Seen
seen places = record { times = counted (length places); first = slice_index places 0 }

-- nothing is reported of what was never met
abbrev pub seen_if_any : List ℕ → Option Seen
seen_if_any [] = None
seen_if_any (first ∷ others) = Some (seen (first ∷ others))

-- met once
abbrev pub once : ℕ → Seen
once place = record { times = 1; first = place }

-- met once more
abbrev pub again : Seen → Seen
again earlier = record { times = counted (earlier.times + 1); first = earlier.first }

abbrev pub seen_more : ℕ → Option Seen → Option Seen
seen_more place None = Some (once place)
seen_more place (Some earlier) = Some (again earlier)

-- ---- reasons, each with the place where it was met. `same` says which count as one

-- each of them once, in the order in which they come first
abbrev pub once_each : {R : Type 0} → (R → R → Bool) → List R → List R
once_each same [] = []
once_each same (r ∷ rs) = r ∷ filter (λ s. not (same r s)) (once_each same rs)

-- where a reason was met
abbrev pub places : {R : Type 0} → (R → R → Bool) → List (ℕ × R) → R → List ℕ
places same mets r = map (λ m. m.0) (filter (λ m. same r m.1) mets)

-- so many reasons have a line of their own, the first ones
abbrev pub most_reasons : ℕ
most_reasons = 100

abbrev pub recorded_reasons : {R : Type 0} → (R → R → Bool) → List (ℕ × R) → List R
recorded_reasons same mets = take most_reasons (once_each same (map (λ m. m.1) mets))

-- where all others were met
abbrev pub other_places : {R : Type 0} → (R → R → Bool) → List (ℕ × R) → List ℕ
other_places same mets = map (λ m. m.0) (filter (λ m. not (list_any (λ r. same r m.1) (recorded_reasons same mets))) mets)

-- ---- flaws as reasons

-- a flaw as if it were at the front of its message: flaws that differ in their place alone are one reason
abbrev pub reason_of : Flaw → Flaw
reason_of (flaw.Fault fault) = flaw.Fault (record { place = 0; code = fault.code; reason = fault.reason; subject = fault.subject })
reason_of flaw.Truncated = flaw.Truncated
reason_of flaw.Trailing = flaw.Trailing
reason_of flaw.TooLong = flaw.TooLong
reason_of flaw.NotHexadecimal = flaw.NotHexadecimal

abbrev pub is_same_subject : Subject → Subject → Bool
is_same_subject Nothing Nothing = true
is_same_subject (Avp a) (Avp b) = (a.code == b.code) && (a.vendor == b.vendor)
is_same_subject Wildcard Wildcard = true
is_same_subject a b = false

-- equality as a test
abbrev pub is_same : Flaw → Flaw → Bool
is_same (flaw.Fault a) (flaw.Fault b) = (a.place == b.place) && ((a.code == b.code) && ((row_of a.reason == row_of b.reason) && is_same_subject a.subject b.subject))
is_same flaw.Truncated flaw.Truncated = true
is_same flaw.Trailing flaw.Trailing = true
is_same flaw.TooLong flaw.TooLong = true
is_same flaw.NotHexadecimal flaw.NotHexadecimal = true
is_same a b = false

-- the reasons with a line of their own, counted
abbrev pub recorded_mets : List (ℕ × Flaw) → List Met
recorded_mets mets = map (λ r. record { flaw = r; seen = seen (places is_same mets r) }) (recorded_reasons is_same mets)

-- all others
abbrev pub others_seen : List (ℕ × Flaw) → Option Seen
others_seen mets = seen_if_any (other_places is_same mets)

-- once more, where it is this reason
abbrev pub again_if : Flaw → Met → Met
again_if r met = if is_same met.flaw r then (record { flaw = met.flaw; seen = again met.seen }) else met

-- these were met, unless memory was refused
abbrev pub AreCounted : Reasons → List (ℕ × Flaw) → Type 0
AreCounted reasons mets = reasons.refused ≡ None → (reasons.kept.items ≡ recorded_mets mets) × (reasons.others ≡ others_seen mets)

-- ---- verdicts

-- what is counted of a message: its place, how it ended, and what is wrong with it
pub record Item : Type 0 where
  pub at : ℕ
  pub exit : Exit
  pub flaw : Option Flaw

abbrev pub mets_at : ℕ → Option Flaw → List (ℕ × Flaw)
mets_at at flaw = map (λ f. (at, reason_of f)) (option_to_list flaw)

abbrev pub mets_of : List Item → List (ℕ × Flaw)
mets_of items = flat_map (λ (i : Item). mets_at i.at i.flaw) items

-- how many are valid, or refute
abbrev pub yes_of : List Item → ℕ
yes_of items = count_by (λ (i : Item). is_yes i.exit) items

-- these were counted
pub record HasCounted (tally : Tally) (items : List Item) : Type 0 where
  pub ended : tally.ended ≡ ended_of (map (λ (i : Item). i.exit) items)
  pub all : tally.all ≡ counted (length items)
  pub yes : tally.yes ≡ counted (yes_of items)
  pub reasons : AreCounted tally.reasons (mets_of items)

-- lines from this number on
abbrev pub in_lines : {V : Type 0} → (V → Exit) → (V → Option Flaw) → ℕ → List V → List Item
in_lines exit_of flaw_of n [] = []
in_lines exit_of flaw_of n (v ∷ vs) = (record { at = counted n; exit = exit_of v; flaw = flaw_of v }) ∷ in_lines exit_of flaw_of (suc n) vs

-- what is wrong with a message that isn't valid
abbrev pub checked_flaw : Checked → Option Flaw
checked_flaw (Valid found) = None
checked_flaw (Wrong flaw) = Some flaw

-- of `refute` a text that spells no message is reported
abbrev pub refuted_flaw : Refuted → Option Flaw
refuted_flaw verdict = unless_refused (Some flaw.TooLong) (Some flaw.NotHexadecimal) None verdict.first

abbrev pub checked_items : List Checked → List Item
checked_items verdicts = in_lines checked_exit checked_flaw 1 verdicts

abbrev pub refuted_items : List Refuted → List Item
refuted_items verdicts = in_lines refuted_exit refuted_flaw 1 verdicts

-- messages of a stream, each at its place
abbrev pub placed_item : ℕ × Checked → Item
placed_item verdict = record { at = verdict.0; exit = checked_exit verdict.1; flaw = checked_flaw verdict.1 }

abbrev pub placed_items : List (ℕ × Checked) → List Item
placed_items verdicts = map placed_item verdicts
