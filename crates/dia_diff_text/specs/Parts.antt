-- What a line says of each dictionary.
use Rattle.std.specs.Prelude.{◌≡◌, ℕ, Bool, true, false, not, List, [], Option, Some, None, codes, slice_get, MatchOption}
use Rattle.std.specs.Option.{option_map_or}
use Rattle.dia_book.specs.Dictionary.{Dictionary}
use Rattle.dia_differences.specs.declared.owner.Owner.{Owner}
use Rattle.dia_differences.specs.declared.owner.Owner.TheVariants as owners
use Rattle.dia_differences.specs.Owners.{name_of}
use Rattle.dia_differences.specs.declared.lines.AvpField.{AvpField}
use Rattle.dia_differences.specs.declared.lines.AvpField.TheVariants as avps
use Rattle.dia_differences.specs.declared.lines.HeadField.{HeadField}
use Rattle.dia_differences.specs.declared.lines.HeadField.TheVariants as heads
use Rattle.dia_differences.specs.declared.lines.What.{What}
use Rattle.dia_differences.specs.declared.lines.What.TheVariants as kinds
use Rattle.dia_differences.specs.declared.sides.Side.{Side}
use Rattle.dia_differences.specs.declared.sides.Side.TheVariants as sides
use Rattle.dia_diff_text.specs.Words.{IsAvpWords, command_words, place_rule_words}

-- the AVP or command that a line is about: that of A, if A has it
abbrev pub subject_of : What → Side × Owner
subject_of (kinds.Avp side i) = (side, owners.Avp i)
subject_of (kinds.AvpField i j field) = (sides.First, owners.Avp i)
subject_of (kinds.Command side i) = (side, owners.Command i)
subject_of (kinds.HeadField i j field) = (sides.First, owners.Command i)
subject_of (kinds.Rule side place) = (side, place.of)
subject_of (kinds.NewRule own place) = (sides.First, own)
subject_of (kinds.RuleChange first second) = (sides.First, first.of)

abbrev pub is_command : Owner → Bool
is_command (owners.Avp i) = false
is_command (owners.Command i) = true

abbrev pub name_in : Dictionary → Dictionary → Side × Owner → List ℕ
name_in a b (sides.First, of) = name_of a of
name_in a b (sides.Second, of) = name_of b of

abbrev pub avp_word : AvpField → List ℕ
avp_word avps.Name = codes "name"
avp_word avps.Code = codes "code"
avp_word avps.Vendor = codes "vendor"
avp_word avps.Format = codes "format"
avp_word avps.MRule = codes "M"

abbrev pub head_word : HeadField → List ℕ
head_word heads.Name = codes "name"
head_word heads.Code = codes "code"
head_word heads.Class = codes "class"
head_word heads.Application = codes "application"
head_word heads.Proxiable = codes "P"

abbrev pub rule_field : List ℕ
rule_field = codes "rule"

-- what differs of it; nothing where one dictionary alone has it
abbrev pub field_of : What → Option (List ℕ)
field_of (kinds.Avp side i) = None
field_of (kinds.AvpField i j field) = Some (avp_word field)
field_of (kinds.Command side i) = None
field_of (kinds.HeadField i j field) = Some (head_word field)
field_of (kinds.Rule side place) = Some rule_field
field_of (kinds.NewRule own place) = Some rule_field
field_of (kinds.RuleChange first second) = Some rule_field

-- ---- the words of one dictionary

abbrev pub is_same_side : Side → Side → Bool
is_same_side sides.First sides.First = true
is_same_side sides.Second sides.Second = true
is_same_side sides.First sides.Second = false
is_same_side sides.Second sides.First = false

-- the dictionary of this side lacks what differs
abbrev pub is_without : What → Side → Bool
is_without (kinds.Avp own i) side = not (is_same_side own side)
is_without (kinds.AvpField i j field) side = false
is_without (kinds.Command own i) side = not (is_same_side own side)
is_without (kinds.HeadField i j field) side = false
is_without (kinds.Rule own place) side = not (is_same_side own side)
is_without (kinds.NewRule own place) side = not (is_same_side sides.Second side)
is_without (kinds.RuleChange first second) side = false

abbrev pub pick : {X : Type 0} → Side → X → X → X
pick sides.First first second = first
pick sides.Second first second = second

abbrev pub IsAvpAt : Dictionary → ℕ → Option AvpField → List ℕ → Type 0
IsAvpAt d i field text = MatchOption (slice_get d.entries i) (text ≡ []) (λ e. IsAvpWords field e text)

abbrev pub command_at : Dictionary → ℕ → Option HeadField → List ℕ
command_at d i field = option_map_or (command_words field) (slice_get d.commands i) []

abbrev pub IsWords : Dictionary → Side → What → List ℕ → Type 0
IsWords d side (kinds.Avp own i) text = IsAvpAt d i None text
IsWords d side (kinds.AvpField i j field) text = IsAvpAt d (pick side i j) (Some field) text
IsWords d side (kinds.Command own i) text = text ≡ command_at d i None
IsWords d side (kinds.HeadField i j field) text = text ≡ command_at d (pick side i j) (Some field)
IsWords d side (kinds.Rule own place) text = text ≡ place_rule_words d place
IsWords d side (kinds.NewRule own place) text = text ≡ place_rule_words d place
IsWords d side (kinds.RuleChange first second) text = text ≡ place_rule_words d (pick side first second)

-- the words of the dictionary of this side, if it has what differs
abbrev pub IsSide : Dictionary → Side → What → Option (List ℕ) → Type 0
IsSide d side w None = is_without w side ≡ true
IsSide d side w (Some text) = (is_without w side ≡ false) × IsWords d side w text
