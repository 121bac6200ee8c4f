use Rattle.std.proofs.Common.{◌≡◌, ℕ, List, true, drop, sym, ap, ◌∙◌, arith, rules}
use Rattle.std.proofs.lemmas.Grind.{common_steps}
use Rattle.std.proofs.lemmas.List.{take_rest}
use Rattle.dia_segments.specs.Links.{is_tag, untagged}
use Rattle.dia_segments.proofs.Untagged.{untagged_tag}
use Rattle.dia_segments.proofs.link.next_tag.Goals as goal

pub returns-clause-tag : goal.returns-clause-tag
returns-clause-tag c =
    let is : is_tag c.args.kind ≡ true = first_of (search rules, cc (c.is_tag.ensures, c.if-not-is_tag.false), grind (arith, common_steps)) in
    untagged_tag c.args.kind c.args.bytes.now is (omega arith)
    ∙ ap (λ (k : ℕ). untagged k (drop 4 c.args.bytes.now)) (sym c.u16_at.ensures)
    ∙ ap (λ (b : List ℕ). untagged c.u16_at.result b) (sym (take_rest c.args.bytes.now 4))
