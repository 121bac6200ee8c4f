-- The differences of two dictionaries: all of them, in their order. Each definition is a set of lists, and has one at most.
use Rattle.std.specs.Prelude.{◌≡◌, ◌⊎◌, ℕ, zero, suc, false, IfSome, IsSome, List, [], ◌∷◌, ◌++◌, length, map, Option, Some, None, slice_get}
use Rattle.dia_book.specs.declared.definition.DRule.{DRule}
use Rattle.dia_book.specs.Dictionary.{Dictionary}
use Rattle.dia_differences.specs.declared.owner.Owner.{Owner}
use Rattle.dia_differences.specs.declared.owner.Owner.TheVariants as owners
use Rattle.dia_differences.specs.Owners.{rules_of}
use Rattle.dia_differences.specs.declared.lines.AvpField.{AvpField}
use Rattle.dia_differences.specs.declared.lines.AvpField.TheVariants as avps
use Rattle.dia_differences.specs.declared.lines.Effects.{Effects}
use Rattle.dia_differences.specs.declared.lines.HeadField.{HeadField}
use Rattle.dia_differences.specs.declared.lines.HeadField.TheVariants as heads
use Rattle.dia_differences.specs.declared.lines.Line.{Line}
use Rattle.dia_differences.specs.declared.lines.RulePlace.{RulePlace}
use Rattle.dia_differences.specs.declared.lines.What.{What}
use Rattle.dia_differences.specs.declared.lines.What.TheVariants as kinds
use Rattle.dia_differences.specs.declared.sides.Side.{Side}
use Rattle.dia_differences.specs.declared.sides.Side.TheVariants as sides
use Rattle.dia_differences.specs.Partners.{Matches, matches_of}
use Rattle.dia_differences.specs.Matching.{At, IsSameAt, IsSameField, IsSameHeadField, partner_of, rule_place}

-- ---- lists

-- one difference
abbrev pub Only : What → List What → Type 0
Only w ws = ws ≡ w ∷ []

-- a difference, but none where P holds
abbrev pub Unless : Type 0 → What → List What → Type 0
Unless P w ws = (P × (ws ≡ [])) ⊎ ((¬ P) × (ws ≡ w ∷ []))

-- those of R, and then those of S
abbrev pub Then : (List What → Type 0) → (List What → Type 0) → List What → Type 0
Then R S ws = (first : List What) × (rest : List What) × R first × S rest × (ws ≡ first ++ rest)

-- those of R at each place below a count, one after the other
abbrev pub Each : ℕ → (ℕ → List What → Type 0) → List What → Type 0
Each zero R ws = ws ≡ []
Each (suc n) R ws = Then (Each n R) (R n) ws

-- ---- rules

abbrev pub place_of : Owner → ℕ → RulePlace
place_of of i = record { of = of; rule = i }

-- all rules of a definition that one dictionary alone has
abbrev pub AllRules : Side → Owner → ℕ → List What → Type 0
AllRules side of count = Each count (λ i. Only (kinds.Rule side (place_of of i)))

-- a rule of A, by the place of the one that corresponds: removed, or changed, or the same
abbrev pub RuleLine : Owner → Owner → ℕ → DRule → List DRule → Option ℕ → List What → Type 0
RuleLine own other i rule others None = Only (kinds.Rule sides.First (place_of own i))
RuleLine own other i rule others (Some j) = Unless (IsSameAt rule i others j) (kinds.RuleChange (place_of own i) (place_of other j))

abbrev pub OwnRuleAt : Dictionary → Dictionary → List (Option ℕ) → Owner → Owner → ℕ → List What → Type 0
OwnRuleAt a b pairs own other i ws = IfSome (slice_get (rules_of a own) i) (λ rule. RuleLine own other i rule (rules_of b other) (rule_place a b pairs other rule) ws)

abbrev pub OwnRules : Dictionary → Dictionary → List (Option ℕ) → Owner → Owner → List What → Type 0
OwnRules a b pairs own other = Each (length (rules_of a own)) (OwnRuleAt a b pairs own other)

-- a rule of B: added, if A has none that corresponds
abbrev pub OtherRuleAt : Dictionary → Dictionary → List (Option ℕ) → Owner → Owner → ℕ → List What → Type 0
OtherRuleAt a b back own other j ws = IfSome (slice_get (rules_of b other) j) (λ rule. Unless (IsSome (rule_place b a back own rule)) (kinds.NewRule own (place_of other j)) ws)

abbrev pub OtherRules : Dictionary → Dictionary → List (Option ℕ) → Owner → Owner → List What → Type 0
OtherRules a b back own other = Each (length (rules_of b other)) (OtherRuleAt a b back own other)

abbrev pub RuleLines : Dictionary → Dictionary → Matches → Owner → Owner → List What → Type 0
RuleLines a b m own other = Then (OwnRules a b m.avps own other) (OtherRules a b m.avps_back own other)

-- ---- AVPs

abbrev pub AloneAvp : Side → Dictionary → ℕ → List What → Type 0
AloneAvp side d i = Then (Only (kinds.Avp side i)) (AllRules side (owners.Avp i) (length (rules_of d (owners.Avp i))))

abbrev pub FieldLine : Dictionary → Dictionary → ℕ → ℕ → AvpField → List What → Type 0
FieldLine a b i j field = Unless (At (IsSameField field) a.entries b.entries i j) (kinds.AvpField i j field)

abbrev pub FieldLines : Dictionary → Dictionary → ℕ → ℕ → List What → Type 0
FieldLines a b i j =
    Then (Then (Then (Then (FieldLine a b i j avps.Name) (FieldLine a b i j avps.Code)) (FieldLine a b i j avps.Vendor)) (FieldLine a b i j avps.Format)) (FieldLine a b i j avps.MRule)

-- the lines of an AVP of A, by the place of its partner
abbrev pub AvpLines : Dictionary → Dictionary → Matches → ℕ → Option ℕ → List What → Type 0
AvpLines a b m i None = AloneAvp sides.First a i
AvpLines a b m i (Some j) = Then (FieldLines a b i j) (RuleLines a b m (owners.Avp i) (owners.Avp j))

-- those of an AVP of B, by that of its partner
abbrev pub AddedAvp : Dictionary → ℕ → Option ℕ → List What → Type 0
AddedAvp b j None = AloneAvp sides.Second b j
AddedAvp b j (Some i) = λ ws. ws ≡ []

-- ---- commands

abbrev pub AloneCommand : Side → Dictionary → ℕ → List What → Type 0
AloneCommand side d i = Then (Only (kinds.Command side i)) (AllRules side (owners.Command i) (length (rules_of d (owners.Command i))))

abbrev pub HeadLine : Dictionary → Dictionary → ℕ → ℕ → HeadField → List What → Type 0
HeadLine a b i j field = Unless (At (IsSameHeadField field) a.commands b.commands i j) (kinds.HeadField i j field)

abbrev pub HeadLines : Dictionary → Dictionary → ℕ → ℕ → List What → Type 0
HeadLines a b i j =
    Then (Then (Then (Then (HeadLine a b i j heads.Name) (HeadLine a b i j heads.Code)) (HeadLine a b i j heads.Class)) (HeadLine a b i j heads.Application)) (HeadLine a b i j heads.Proxiable)

abbrev pub CommandLines : Dictionary → Dictionary → Matches → ℕ → Option ℕ → List What → Type 0
CommandLines a b m i None = AloneCommand sides.First a i
CommandLines a b m i (Some j) = Then (HeadLines a b i j) (RuleLines a b m (owners.Command i) (owners.Command j))

abbrev pub AddedCommand : Dictionary → ℕ → Option ℕ → List What → Type 0
AddedCommand b j None = AloneCommand sides.Second b j
AddedCommand b j (Some i) = λ ws. ws ≡ []

-- ---- all

abbrev pub AvpAt : Dictionary → Dictionary → Matches → ℕ → List What → Type 0
AvpAt a b m i = AvpLines a b m i (partner_of m.avps i (length b.entries))

abbrev pub AvpsOfFirst : Dictionary → Dictionary → Matches → List What → Type 0
AvpsOfFirst a b m = Each (length a.entries) (AvpAt a b m)

abbrev pub AddedAvpAt : Dictionary → ℕ → List (Option ℕ) → ℕ → List What → Type 0
AddedAvpAt b count back j = AddedAvp b j (partner_of back j count)

abbrev pub AvpsAdded : Dictionary → ℕ → List (Option ℕ) → List What → Type 0
AvpsAdded b count back = Each (length b.entries) (AddedAvpAt b count back)

abbrev pub CommandAt : Dictionary → Dictionary → Matches → ℕ → List What → Type 0
CommandAt a b m i = CommandLines a b m i (partner_of m.commands i (length b.commands))

abbrev pub CommandsOfFirst : Dictionary → Dictionary → Matches → List What → Type 0
CommandsOfFirst a b m = Each (length a.commands) (CommandAt a b m)

abbrev pub AddedCommandAt : Dictionary → ℕ → List (Option ℕ) → ℕ → List What → Type 0
AddedCommandAt b count back j = AddedCommand b j (partner_of back j count)

abbrev pub CommandsAdded : Dictionary → ℕ → List (Option ℕ) → List What → Type 0
CommandsAdded b count back = Each (length b.commands) (AddedCommandAt b count back)

-- the AVPs of A in A's order, and those that B alone has in B's; then commands in the same way
abbrev pub AreLinesBy : Dictionary → Dictionary → Matches → List What → Type 0
AreLinesBy a b m =
    Then (Then (Then (AvpsOfFirst a b m) (AvpsAdded b (length a.entries) m.avps_back)) (CommandsOfFirst a b m)) (CommandsAdded b (length a.commands) m.commands_back)

abbrev pub AreDifferences : Dictionary → Dictionary → List What → Type 0
AreDifferences a b = AreLinesBy a b (matches_of a b)

-- ---- lines

abbrev pub no_effects : Effects
no_effects = record { breaks = false; other_format = false; ignored = false }

-- a difference of which nothing is known to come
abbrev pub unmarked : What → Line
unmarked w = record { what = w; there = no_effects; back = no_effects }

-- the lines of R are added
abbrev pub Adds : List Line → List Line → (List What → Type 0) → Type 0
Adds old new R = (ws : List What) × (new ≡ old ++ map unmarked ws) × R ws
