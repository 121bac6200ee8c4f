use Rattle.std.proofs.Common.{◌<◌, ◌^◌, map, ap, sym, ◌∙◌, subst}
use Rattle.std.specs.Prelude.{All}
use Rattle.std.proofs.lemmas.Option.{none-some}
use Rattle.std.proofs.lemmas.Result.{IfOk-weaker}
use Rattle.dia_valid.proofs.Members.{some_of}
use Rattle.dia_breaking_ways.specs.declared.graph.Step.{Step}
use Rattle.dia_breaking_ways.specs.Walks.{plain_node}
use Rattle.dia_places.specs.Records.{reached_by}
use Rattle.dia_places.proofs.WalkOfBook.{found, numbers, walked, within}
use Rattle.dia_places.proofs.graph.all_reached.Goals as goal

pub by_steps-requires : goal.by_steps-requires
by_steps-requires g c =
    let d = g.B.Book.meaning c.args.book.now in
    let walk = rw c.in-Some.is at c.in_ok-walk.ensures.ways in
    subst (All (λ (step : Step). step.place < 2 ^ 32)) (sym c.deref-in-Some.ensures.value)
    (numbers d (g.met.B.Book.sound c.args.book.now) c.deref.result.now c.in_ok-start.start (ap (map plain_node) c.deref.ensures.value ∙ c.in_ok-nodes.ensures) c.in_ok-start.ensures _ _ walk)

pub returns-in-Some-clause-paths : goal.returns-in-Some-clause-paths
returns-in-Some-clause-paths g c =
    let d = g.B.Book.meaning c.args.book.now in
    let walk = rw c.in-Some.is at c.in_ok-walk.ensures.ways in
    IfOk-weaker c.by_steps.result _ _ (λ reached is.
    walked d (g.met.B.Book.sound c.args.book.now) c.deref.result.now c.in_ok-start.start (ap (map plain_node) c.deref.ensures.value ∙ c.in_ok-nodes.ensures) c.in_ok-start.ensures _ _ walk reached.items
    (is ∙ ap (map reached_by) c.deref-in-Some.ensures.value)) c.by_steps.ensures

pub returns-in-Some-clause-within : goal.returns-in-Some-clause-within
returns-in-Some-clause-within g c =
    let d = g.B.Book.meaning c.args.book.now in
    let walk = rw c.in-Some.is at c.in_ok-walk.ensures.ways in
    IfOk-weaker c.by_steps.result _ _ (λ reached is.
    within d (g.met.B.Book.sound c.args.book.now) c.deref.result.now c.in_ok-start.start (ap (map plain_node) c.deref.ensures.value ∙ c.in_ok-nodes.ensures) c.in_ok-start.ensures _ _ walk reached.items
    (is ∙ ap (map reached_by) c.deref-in-Some.ensures.value)) c.by_steps.ensures

pub returns-clause-paths : goal.returns-clause-paths
returns-clause-paths g c =
    let d = g.B.Book.meaning c.args.book.now in
    let some = some_of c.in_ok-walk.field-0 (c.in_ok-walk.ensures.found
    (found d (g.met.B.Book.sound c.args.book.now) c.deref.result.now c.in_ok-start.start (ap (map plain_node) c.deref.ensures.value ∙ c.in_ok-nodes.ensures) c.in_ok-start.ensures)) in
    absurd (none-some some.0 (sym c.in-None.is ∙ some.1))
