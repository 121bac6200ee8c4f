use Rattle.std.proofs.Common.{◌≡◌, take, subst, ◌∙◌}
use Rattle.std.specs.Prelude.{All}
use Rattle.dia_data.specs.Plain.{plain_format}
use Rattle.dia_data.specs.Leaf.{IsLeafAnswer, IsGraphic}
use Rattle.dia_data.specs.State.{IsSeen}
use Rattle.dia_data.proofs.Leaves.{IsLeafAnswer-same, front_decides, graphic_front_decides}
use Rattle.dia_data.proofs.leaf_state.LeafState.finish.Goals as goal

pub returns-in-Nothing : goal.returns-in-Nothing
returns-in-Nothing c = λ kind bytes before.
    let answer = c.accepts-by_front.result in
    let seen = subst (λ s. IsSeen s kind bytes) c.in-Nothing.is before.seen in
    let front : c.as_slice.result.now ≡ take 20 bytes = c.as_slice.ensures ∙ before.front in
    let by_front : IsLeafAnswer answer kind (take 20 bytes) = subst (λ k. IsLeafAnswer answer k (take 20 bytes)) before.format
    (subst (IsLeafAnswer answer (plain_format c.args.self.format.now)) front c.accepts-by_front.ensures) in
    IsLeafAnswer-same answer kind (take 20 bytes) bytes (front_decides kind bytes seen.0 seen.1 seen.2) by_front

pub returns-then-graphic : goal.returns-then-graphic
returns-then-graphic c = λ kind bytes before.
    let answer = c.accepts-by_front.result in
    let seen = subst (λ s. IsSeen s kind bytes) c.in-Graphic.is before.seen in
    let front : c.as_slice.result.now ≡ take 20 bytes = c.as_slice.ensures ∙ before.front in
    let by_front : IsLeafAnswer answer kind (take 20 bytes) = subst (λ k. IsLeafAnswer answer k (take 20 bytes)) before.format
    (subst (IsLeafAnswer answer (plain_format c.args.self.format.now)) front c.accepts-by_front.ensures) in
    let all : All IsGraphic bytes = seen.1.0 c.if-graphic.true in
    IsLeafAnswer-same answer kind (take 20 bytes) bytes (graphic_front_decides kind bytes seen.0 all) by_front
