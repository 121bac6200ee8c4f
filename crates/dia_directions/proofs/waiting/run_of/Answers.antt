use Rattle.std.proofs.Common.{◌≡◌, ℕ, ◌∙◌, ap, sym, length, ◌++◌, [], arith}
use Rattle.std.specs.Prelude.{slice_get}
use Rattle.std.proofs.lemmas.List.{flat_map_more, length-append}
use Rattle.dia_directions.specs.Bytes.{part_bytes, piece_bytes, run_bytes}
use Rattle.dia_directions.specs.Order.{byte_at}
use Rattle.dia_directions.specs.Waits.{all_then}
use Rattle.dia_directions.proofs.Gets.{slice_get_joined}
use Rattle.dia_directions.proofs.waiting.run_of.Goals as goal

pub loop-part-preserved : goal.loop-part-preserved
loop-part-preserved c =
    let before = run_bytes c.loop-part.pieces.items in
    let part = part_bytes c.in-Some.part in
    let joined : run_bytes c.push.new.self.items ≡ before ++ part =
    ap run_bytes c.in_ok-push.ensures.items
    ∙ sym (flat_map_more piece_bytes [] c.loop-part.pieces.items c.in_ok-new.field-0)
    ∙ ap (λ bs. before ++ bs) c.in_ok-new.ensures in
    record {
      fits = omega (arith, c.in-Some.ensures.fits);
      sized = omega (arith, ap length joined, length-append before part);
      has = λ (i : ℕ) few. slice_get_joined (λ k. byte_at (all_then c.args.next c.args.waiting.now (part_bytes c.args.arrived)) k) before part c.loop-part.size c.loop-part.invariant.sized
          c.loop-part.invariant.has c.in-Some.ensures.found i (omega (arith, few))
          ∙ ap (λ bs. slice_get bs i) (sym joined);
    }
