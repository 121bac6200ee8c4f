use Rattle.std.proofs.Common.{◌++◌, sym, subst, ◌∙◌}
use Rattle.dia_data.specs.Front.{front_bytes}
use Rattle.dia_data.specs.State.{IsSeen}
use Rattle.dia_data.proofs.Fronts.{take-kept}
use Rattle.dia_data.proofs.Graphics.{graphic_fed, graphic_no_more}
use Rattle.dia_data.proofs.leaf_state.LeafState.feed.Goals as goal
use Rattle.dia_data.proofs.leaf_state.LeafState.feed.Goals.{then-graphic, else-graphic}

pub returns-in-Nothing : goal.returns-in-Nothing
returns-in-Nothing c = λ kind bytes before.
    let piece = c.args.piece.now in
    let seen = subst (λ s. IsSeen s kind bytes) c.in-Nothing.is before.seen in
    record {
      format = before.format;
      front = take-kept 20 (front_bytes c.args.self.now.front) bytes piece _ before.front c.take_from.ensures;
      seen = subst (λ s. IsSeen s kind (bytes ++ piece)) (sym c.in-Nothing.is) seen;
    }

pub returns-after-graphic : goal.returns-after-graphic
returns-after-graphic c = λ kind bytes before.
    let piece = c.args.piece.now in
    let seen = subst (λ s. IsSeen s kind bytes) c.in-Graphic.is before.seen in
    record {
      format = before.format;
      front = take-kept 20 (front_bytes c.args.self.now.front) bytes piece _ before.front c.take_from.ensures;
      seen = (
        seen.0,
        elim c.if-graphic.branch [
          | then-graphic w ↦ graphic_fed c.in-Graphic.graphic w.is_graphic.result _ bytes piece seen.1 w.if-graphic.true w.is_graphic.ensures w.self-is
          | else-graphic w ↦ graphic_no_more c.in-Graphic.graphic _ bytes piece seen.1 w.if-graphic.false (w.self-is ∙ w.if-graphic.false)
        ],
      );
    }

pub returns-in-Characters : goal.returns-in-Characters
returns-in-Characters c = λ kind bytes before.
    let piece = c.args.piece.now in
    let seen = subst (λ s. IsSeen s kind bytes) c.in-Characters.is before.seen in
    record {
      format = before.format;
      front = take-kept 20 (front_bytes c.args.self.now.front) bytes piece _ before.front c.take_from.ensures;
      seen = (seen.0, c.fed.ensures bytes seen.1);
    }
