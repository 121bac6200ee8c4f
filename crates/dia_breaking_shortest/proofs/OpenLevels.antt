-- Rules that say nothing of the AVPs of their level ask for none.
use Rattle.std.proofs.Common.{◌≡◌, ℕ, ◌+◌, ◌*◌, ◌≤◌, List, [], ◌∷◌, Option, ap, ◌∙◌, arith, inl, inr, refl}
use Rattle.std.specs.Prelude.{IfSome, fold, IsTrue}
use Rattle.std.specs.Option.{option_map_or}
use Rattle.dia_wire.specs.declared.Key.{Key}
use Rattle.dia_book.specs.declared.DRule.{DRule}
use Rattle.dia_book.specs.Dictionary.{AreRules}
use Rattle.dia_breaking_levels.specs.LevelTests.{base_length, capped, many}
use Rattle.dia_breaking_sites.specs.Sent.{say_nothing}
use Rattle.dia_breaking_sites.proofs.Members.{IsIn, all_of}
use Rattle.dia_breaking_sites.proofs.OpenLevels.{open_asks}

-- rules that ask for none take nothing
base_none : (f : Key → ℕ) (filler : ℕ) (rules : List DRule) → ((rule : DRule) → IsIn rule rules → rule.min ≡ 0) → base_length f filler rules ≡ 0
base_none f filler [] none = refl
base_none f filler (r ∷ rules) none =
    let own = option_map_or f r.key filler in
    let here : capped (0 + many r.min own) ≡ 0 = ap (λ (n : ℕ). capped (0 + many n own)) (none r (inl refl)) ∙ (let zero_long : 0 * own ≡ 0 = omega arith in omega (arith, zero_long)) in
    ap (λ (n : ℕ). fold (λ sum rule. capped (sum + many rule.min (option_map_or f rule.key filler))) n rules) here ∙ base_none f filler rules (λ q i. none q (inr i))

pub open_base : (f : Key → ℕ) (filler : ℕ) (rules : List DRule) → AreRules rules → IsTrue (say_nothing rules) → base_length f filler rules ≡ 0
open_base f filler rules are silent =
    base_none f filler rules (λ r i. open_asks rules silent r i (all_of (λ (r : DRule). IfSome r.max (λ max. r.min ≤ max)) rules r are.bounds i))
