-- Ranges of Enumerated AVPs of which a range before them has a number (RFC 6733 section 4.3.1, and our profile for lists): a
-- finding for each.
use Rattle.std.specs.Prelude.{◌≡◌, ℕ, List, [], length, flat_map, option_and_then, option_to_list, Option, Some, None, slice_get, MatchOption}
use Rattle.std.specs.Option.{option_map}
use Rattle.dia_data.specs.Plain.{PlainFormat, Enumerated}
use Rattle.dia_book.specs.Dictionary.{Dictionary, DictEntry}
use Rattle.dia_lint.specs.declared.detail.Detail.TheVariants as detail
use Rattle.dia_lint.specs.declared.finding.Finding.{Finding}
use Rattle.dia_lint.specs.declared.finding.Place.TheVariants as place
use Rattle.dia_lint.specs.declared.finding.Subject.TheVariants as subject
use Rattle.dia_lint.specs.declared.rule.Rule.TheVariants as rule
use Rattle.dia_lint.specs.Gathered.{gathered}
use Rattle.dia_lint.specs.Overlaps.{AreTwice}

-- the finding of a range of the entry, if it has such a number: the least is reported
abbrev pub twice_finding : ℕ → Option ℕ → Option Finding
twice_finding e least = option_map (λ n. record { rule = rule.TwiceListed; place = place.Avp e; subject = subject.Avp e; detail = detail.Number n }) least

abbrev pub twice_part : ℕ → List (Option ℕ) → ℕ → List Finding
twice_part e numbers i = option_to_list (option_and_then (twice_finding e) (slice_get numbers i))

-- the ranges of a format as they were written, if it has a list
abbrev pub ranges_in : PlainFormat → Option (List (ℕ × ℕ))
ranges_in (Enumerated ranges) = ranges
ranges_in format = None

-- one for each such range of an AVP, in the order of its list
abbrev pub AreOfRanges : ℕ → List (ℕ × ℕ) → List Finding → Type 0
AreOfRanges e list found = (numbers : List (Option ℕ)) × AreTwice list (length list) numbers × (found ≡ gathered (twice_part e numbers) (length numbers))

abbrev pub AreOfEntry : ℕ → DictEntry → List Finding → Type 0
AreOfEntry e x found = MatchOption (ranges_in x.format) (found ≡ []) (λ list. AreOfRanges e list found)

-- those of the first n AVPs of a dictionary, in their order
pub record AreTwiceListed (d : Dictionary) (n : ℕ) (found : List Finding) : Type 0 where
  pub parts : List (List Finding)
  pub count : length parts ≡ n
  pub each : (e : ℕ) (x : DictEntry) (part : List Finding) → slice_get d.entries e ≡ Some x → slice_get parts e ≡ Some part → AreOfEntry e x part
  pub all : found ≡ flat_map (λ (part : List Finding). part) parts
