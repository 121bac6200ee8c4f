use Rattle.std.proofs.Common.{◌≡◌, ◌+◌, ◌∙◌, ◌∷◌, [], ap, length, subst, sym}
use Rattle.std.proofs.lemmas.List.{length-append}
use Rattle.dia_breaking_places.specs.Marks.{AreMarks}
use Rattle.dia_breaking_places.proofs.Steps.{marks_more, next_mark}
use Rattle.dia_breaking_places.proofs.marks.marks_of.Goals as goal

pub loop-index-preserved : goal.loop-index-preserved
loop-index-preserved c =
    let text = c.args.text.now in
    let old = c.loop-index.marks.items in
    let i = c.loop-index.index in
    let new = c.place_from-place.result in
    let (is, are, long) = c.loop-index.invariant in
    let items = c.in_ok-push-2.ensures.items in
    let more = length-append old (new ∷ []) in
    let longer : length c.push-in-loop-index.new.self.items ≡ i + 1 + 1 = ap length items ∙ more ∙ ap (λ n. n + 1) long in (
      next_mark text i new c.place_from-place.ensures,
      subst (AreMarks text) (sym items) (marks_more text old i new long c.place_from-place.ensures are),
      longer,
    )
