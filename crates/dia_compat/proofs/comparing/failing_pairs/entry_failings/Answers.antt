use Rattle.std.proofs.Common.{◌≡◌, ◌<◌, ℕ, Option, length, sym, ap, subst, ◌∙◌}
use Rattle.std.specs.Prelude.{IfSome}
use Rattle.dia_book.specs.Dictionary.{Dictionary, definitions, group_place}
use Rattle.dia_compat.specs.Sides.{Sides}
use Rattle.dia_valid.proofs.GroupNumbers.{group_within}
use Rattle.dia_compat.proofs.comparing.failing_pairs.entry_failings.Goals as goal

pub group_failings-requires-clause-first : goal.group_failings-requires-clause-first
group_failings-requires-clause-first g c =
    let all = c.args.cover.now in
    let ea : g.A.Book.meaning c.first-a.result.now ≡ all.sides.first = c.first-a.ensures.meaning ∙ ap (λ (s : Sides). s.first) c.sides.ensures in
    subst (λ (o : Option ℕ). IfSome o (λ x. x < length (definitions all.sides.first))) (sym (c.group.ensures ∙ ap (λ (d : Dictionary). group_place d c.args.first) ea))
    (group_within all.sides.first c.args.first)

pub group_failings-requires-clause-second : goal.group_failings-requires-clause-second
group_failings-requires-clause-second g c =
    let all = c.args.cover.now in
    let eb : g.B.Book.meaning c.second-b.result.now ≡ all.sides.second = c.second-b.ensures.meaning ∙ ap (λ (s : Sides). s.second) c.sides-2.ensures in
    subst (λ (o : Option ℕ). IfSome o (λ x. x < length (definitions all.sides.second))) (sym (c.group-else-is_tenth.ensures ∙ ap (λ (d : Dictionary). group_place d c.args.second) eb))
    (group_within all.sides.second c.args.second)
