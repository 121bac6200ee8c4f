use Rattle.std.proofs.Common.{◌≡◌, ◌<◌, ℕ, Option, true, false, refl, inl, inr, length, sym, ap, subst, ◌∙◌}
use Rattle.std.specs.Prelude.{IfSome, slice_get}
use Rattle.dia_book.specs.Dictionary.{Dictionary, definitions, group_place}
use Rattle.dia_compat.specs.Sides.{Sides}
use Rattle.dia_compat.specs.PairTests.{failed_groups}
use Rattle.dia_valid.proofs.GroupNumbers.{group_within}
use Rattle.dia_compat.proofs.comparing.pair_tests.failed_avps.Goals as goal

pub failed_groups-requires-clause-first : goal.failed_groups-requires-clause-first
failed_groups-requires-clause-first g c =
    let all = c.args.cover.now in
    let ea : g.A.Book.meaning c.first-a.result.now ≡ all.sides.first = c.first-a.ensures.meaning ∙ ap (λ (s : Sides). s.first) c.sides.ensures in
    let eb : g.B.Book.meaning c.second-b.result.now ≡ all.sides.second = c.second-b.ensures.meaning ∙ ap (λ (s : Sides). s.second) c.sides-2.ensures in
    subst (λ (o : Option ℕ). IfSome o (λ x. x < length (definitions all.sides.first))) (sym (c.group.ensures ∙ ap (λ (d : Dictionary). group_place d c.args.first) ea))
    (group_within all.sides.first c.args.first)

pub failed_groups-requires-clause-second : goal.failed_groups-requires-clause-second
failed_groups-requires-clause-second g c =
    let all = c.args.cover.now in
    let ea : g.A.Book.meaning c.first-a.result.now ≡ all.sides.first = c.first-a.ensures.meaning ∙ ap (λ (s : Sides). s.first) c.sides.ensures in
    let eb : g.B.Book.meaning c.second-b.result.now ≡ all.sides.second = c.second-b.ensures.meaning ∙ ap (λ (s : Sides). s.second) c.sides-2.ensures in
    subst (λ (o : Option ℕ). IfSome o (λ x. x < length (definitions all.sides.second))) (sym (c.group-2.ensures ∙ ap (λ (d : Dictionary). group_place d c.args.second) eb))
    (group_within all.sides.second c.args.second)

pub returns : goal.returns
returns g c = λ e f at at'.
    let all = c.args.cover.now in
    let ea : g.A.Book.meaning c.first-a.result.now ≡ all.sides.first = c.first-a.ensures.meaning ∙ ap (λ (s : Sides). s.first) c.sides.ensures in
    let eb : g.B.Book.meaning c.second-b.result.now ≡ all.sides.second = c.second-b.ensures.meaning ∙ ap (λ (s : Sides). s.second) c.sides-2.ensures in
    let is = c.is_avp_pair.ensures e f (ap (λ (d : Dictionary). slice_get d.entries c.args.first) ea ∙ at) (ap (λ (d : Dictionary). slice_get d.entries c.args.second) eb ∙ at') in
    inl (
      is.0 c.if-not-is_avp_pair.false,
      c.failed_groups.ensures ∙ ap (λ (o : Option ℕ). failed_groups all o c.group-2.result) (c.group.ensures ∙ ap (λ (d : Dictionary). group_place d c.args.first) ea)
          ∙ ap (failed_groups all (group_place all.sides.first c.args.first)) (c.group-2.ensures ∙ ap (λ (d : Dictionary). group_place d c.args.second) eb),
    )

pub returns-then-not-is_avp_pair : goal.returns-then-not-is_avp_pair
returns-then-not-is_avp_pair g c = λ e f at at'.
    let all = c.args.cover.now in
    let ea : g.A.Book.meaning c.first-a.result.now ≡ all.sides.first = c.first-a.ensures.meaning ∙ ap (λ (s : Sides). s.first) c.sides.ensures in
    let eb : g.B.Book.meaning c.second-b.result.now ≡ all.sides.second = c.second-b.ensures.meaning ∙ ap (λ (s : Sides). s.second) c.sides-2.ensures in
    let is = c.is_avp_pair.ensures e f (ap (λ (d : Dictionary). slice_get d.entries c.args.first) ea ∙ at) (ap (λ (d : Dictionary). slice_get d.entries c.args.second) eb ∙ at') in
    inr ((λ pair. let w : false ≡ true = sym c.if-not-is_avp_pair.true ∙ is.1 pair in cc), refl)
