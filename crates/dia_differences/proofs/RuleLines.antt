-- The lines of rules.
use Rattle.std.proofs.Common.{◌≡◌, ℕ, List, [], ◌∷◌, ◌++◌, Bool, cond, Option, Some, None, sym, subst, ◌∙◌}
use Rattle.std.specs.Prelude.{◌↔◌, IfSome, IsSome, IsTrue, is_some, slice_get}
use Rattle.std.proofs.lemmas.Option.{same_Some}
use Rattle.dia_valid.proofs.Members.{when_some}
use Rattle.dia_book.specs.declared.definition.DRule.{DRule}
use Rattle.dia_book.specs.Dictionary.{Dictionary}
use Rattle.dia_differences.specs.declared.owner.Owner.{Owner}
use Rattle.dia_differences.specs.Owners.{rules_of}
use Rattle.dia_differences.specs.declared.lines.Line.{Line}
use Rattle.dia_differences.specs.declared.lines.What.{What}
use Rattle.dia_differences.specs.declared.lines.What.TheVariants as kinds
use Rattle.dia_differences.specs.declared.sides.Side.TheVariants as sides
use Rattle.dia_differences.specs.declared.partners.Partners.{Partners}
use Rattle.dia_differences.specs.Partners.{paired}
use Rattle.dia_differences.specs.Matching.{IsSameAt, rule_place}
use Rattle.dia_differences.specs.Lines.{Adds, OtherRuleAt, OtherRules, OwnRules, RuleLine, RuleLines, Unless, place_of, unmarked}
use Rattle.dia_differences.proofs.Chains.{adds_for, adds_only, adds_then, adds_unless}
use Rattle.dia_differences.proofs.PartLines.{adds_by}

pub one_rule : (rules : List DRule) (L : DRule → List What → Type 0) (i : ℕ) (r : DRule) (xs ys : List Line) → slice_get rules i ≡ Some r → Adds xs ys (L r) → Adds xs ys (λ ws. IfSome (slice_get rules i) (λ s. L s ws))
one_rule rules L i r xs ys at added =
    adds_for (L r) (λ ws. IfSome (slice_get rules i) (λ s. L s ws)) xs ys (λ ws h. when_some (λ (s : DRule). L s ws) (slice_get rules i) (λ s there.
    let P : DRule → Type 0 = λ t. L t ws in
    subst P (same_Some r s (sym at ∙ there)) h)) added

pub rule_missing : (own other : Owner) (i : ℕ) (r : DRule) (others : List DRule) (o : Option ℕ) (xs ys : List Line) → None ≡ o → ys ≡ xs ++ unmarked (kinds.Rule sides.First (place_of own i)) ∷ []
    → Adds xs ys (RuleLine own other i r others o)
rule_missing own other i r others o xs ys none is = adds_by (RuleLine own other i r others) None o xs ys none (adds_only (kinds.Rule sides.First (place_of own i)) xs ys is)

pub rule_found : (own other : Owner) (i j : ℕ) (r : DRule) (others slice : List DRule) (o : Option ℕ) (same : Bool) (xs ys : List Line) → Some j ≡ o → slice ≡ others → (IsTrue same) ↔ IsSameAt r i slice j
    → ys ≡ cond same xs (xs ++ unmarked (kinds.RuleChange (place_of own i) (place_of other j)) ∷ []) → Adds xs ys (RuleLine own other i r others o)
rule_found own other i j r others slice o same xs ys some read iff is =
    adds_by (RuleLine own other i r others) (Some j) o xs ys some
    (adds_unless (IsSameAt r i others j) (kinds.RuleChange (place_of own i) (place_of other j)) same xs ys (subst (λ (rs : List DRule). (IsTrue same) ↔ IsSameAt r i rs j) read iff) is)

-- a rule of B that A may have no place for
pub other_rule : (a b : Dictionary) (back : List (Option ℕ)) (own other : Owner) (j : ℕ) (r : DRule) (o : Option ℕ) (xs ys : List Line) → slice_get (rules_of b other) j ≡ Some r → o ≡ rule_place b a back own r
    → ys ≡ cond (is_some o) xs (xs ++ unmarked (kinds.NewRule own (place_of other j)) ∷ []) → Adds xs ys (OtherRuleAt a b back own other j)
other_rule a b back own other j r o xs ys at place is =
    let w = kinds.NewRule own (place_of other j) in
    one_rule (rules_of b other) (λ s. Unless (IsSome (rule_place b a back own s)) w) j r xs ys at
    (adds_by (λ (p : Option ℕ). Unless (IsSome p) w) o (rule_place b a back own r) xs ys place (adds_unless (IsSome o) w (is_some o) xs ys (λ h. h, λ h. h) is))

-- by the slices of the pairs
pub both_rules : (a b : Dictionary) (p : Partners) (own other : Owner) (there back : List (Option ℕ)) (xs ys zs : List Line) → there ≡ p.avps.there.items → back ≡ p.avps.back.items
    → Adds xs ys (OwnRules a b there own other) → Adds ys zs (OtherRules a b back own other) → Adds xs zs (RuleLines a b (paired p) own other)
both_rules a b p own other there back xs ys zs first second f g =
    adds_then (OwnRules a b p.avps.there.items own other) (OtherRules a b p.avps.back.items own other) xs ys zs
    (adds_by (λ (ps : List (Option ℕ)). OwnRules a b ps own other) there p.avps.there.items xs ys first f)
    (adds_by (λ (ps : List (Option ℕ)). OtherRules a b ps own other) back p.avps.back.items ys zs second g)
