-- The findings about valid messages are added.
use Rattle.std.proofs.Common.{◌≡◌, ℕ, ◌+◌, [], ◌++◌, List, length, Option, Some, Result, Ok, Err, refl, sym, ap, ◌∙◌, append_assoc}
use Rattle.std.specs.Prelude.{OnOk, find, slice_get}
use Rattle.std.specs.Option.{option_map_or}
use Rattle.dia_book.specs.declared.DRule.{DRule}
use Rattle.dia_book.specs.Dictionary.{Dictionary, PlainDefinition, definitions}
use Rattle.dia_terms.specs.declared.Unknown.{Unknown}
use Rattle.dia_valid.specs.Rules.{rules_in}
use Rattle.dia_lint.specs.declared.detail.Detail.TheVariants as detail
use Rattle.dia_lint.specs.declared.finding.Finding.{Finding}
use Rattle.dia_lint.specs.declared.levels.LevelCost.{LevelCost}
use Rattle.dia_lint.specs.declared.reached.Reached.{Reached}
use Rattle.dia_lint.specs.Costs.{sender_of}
use Rattle.dia_lint.specs.ExactLines.{AddsAvpLines, AreExactLines, With_commands, avp_lines, command_lines, group_lines, is_unmet, rule_lines, stands_lines, unmet, unmet_by, unmet_in}
use Rattle.dia_lint.specs.Gathered.{gathered}
use Rattle.dia_lint.specs.WayLines.{IsListedReached}
use Rattle.dia_lint.specs.Ways.{Side, AreOfSide, IsReached, cost_of}
use Rattle.dia_lint.proofs.Added.{one_part_more}
use Rattle.dia_lint.proofs.FoundWays.{rules_at}

-- one part more
pub part_added : (part : ℕ → List Finding) (i : ℕ) (old mid new xs : List Finding) → mid ≡ old ++ gathered part i → new ≡ mid ++ xs → xs ≡ part i → new ≡ old ++ gathered part (i + 1)
part_added part i old mid new xs before is same =
    is ∙ ap (λ (ys : List Finding). mid ++ ys) same ∙ ap (λ (ys : List Finding). ys ++ part i) before ∙ append_assoc old (gathered part i) (part i)
    ∙ ap (λ (ys : List Finding). old ++ ys) (one_part_more part i)

-- two lists, one after the other
pub both_added : {T E : Type 0} (old mid new xs ys a b : List Finding) (res : Result T E) → mid ≡ old ++ xs → xs ≡ a → OnOk res (new ≡ mid ++ ys) → ys ≡ b → OnOk res (new ≡ old ++ (a ++ b))
both_added old mid new xs ys a b (Ok x) first same is other =
    is ∙ ap (λ (zs : List Finding). mid ++ zs) other ∙ ap (λ (zs : List Finding). zs ++ b) (first ∙ ap (λ (zs : List Finding). old ++ zs) same) ∙ append_assoc old a b
both_added old mid new xs ys a b (Err e) first same is other = tt

-- that of a rule at a place
pub stands_at : (s : Side) (n way i : ℕ) (rules : List DRule) (cost : LevelCost) (x : DRule) → slice_get rules i ≡ Some x → cost ≡ cost_of s rules → stands_lines s cost n way i x ≡ rule_lines s n way rules i
stands_at s n way i rules cost x at is =
    ap (λ (k : LevelCost). stands_lines s k n way i x) is ∙ sym (ap (λ (o : Option DRule). option_map_or (stands_lines s (cost_of s rules) n way i) o []) at)

-- why no message has room for a level
pub is_unmet_by : (s : Side) (n : ℕ) (def : PlainDefinition) (cost : LevelCost) (o : Option DRule) → slice_get (definitions s.book) n ≡ Some def → cost ≡ cost_of s (rules_in s.book n)
    → o ≡ find (is_unmet s cost.filler) def.rules → option_map_or (unmet_by def.head) o detail.TooLong ≡ unmet_in s n
is_unmet_by s n def cost o at is found =
    let rules = is ∙ ap (cost_of s) (rules_at s.book n def at) in
    ap (λ (q : Option DRule). option_map_or (unmet_by def.head) q detail.TooLong) (found ∙ ap (λ (k : LevelCost). find (is_unmet s k.filler) def.rules) rules)
    ∙ sym (ap (λ (q : Option PlainDefinition). option_map_or (unmet s) q detail.TooLong) at)

pub with_commands : {T E : Type 0} (s : Side) (r listed : Reached) (old new : List Finding) (res : Result T E) → IsListedReached s.book listed
    → OnOk res (new ≡ old ++ gathered (avp_lines s r listed) (length s.book.entries)) → OnOk res (AddsAvpLines s r old new)
with_commands s r listed old new (Ok x) is added = (gathered (avp_lines s r listed) (length s.book.entries), With_commands listed is refl, added)
with_commands s r listed old new (Err e) is added = tt

pub exact_lines : (d : Dictionary) (u : Unknown) (s : Side) → s.book ≡ d → s.sends ≡ sender_of u → AreOfSide s → (r : Reached) → IsReached s r → (none first second found : List Finding) → none ≡ []
    → first ≡ none ++ gathered (group_lines s r) (length s.book.entries) → second ≡ first ++ gathered (command_lines s r) (length s.book.commands) → AddsAvpLines s r second found → AreExactLines d u found
exact_lines d u s book sends are r reached none first second found is_none of_groups of_commands (lines, of_avps, all) =
    let groups = gathered (group_lines s r) (length s.book.entries) in
    let commands = gathered (command_lines s r) (length s.book.commands) in
    record {
      side = s;
      of_book = book;
      sends = sends;
      are_lengths = are;
      reached = r;
      is_reached = reached;
      avps = lines;
      are_avps = of_avps;
      all = all ∙ ap (λ (xs : List Finding). xs ++ lines) (of_commands ∙ ap (λ (xs : List Finding). xs ++ commands) (of_groups ∙ ap (λ (xs : List Finding). xs ++ groups) is_none));
    }
