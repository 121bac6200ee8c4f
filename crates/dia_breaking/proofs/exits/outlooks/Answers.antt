use Rattle.std.proofs.Common.{false, List, refl, sym, ap, ◌∙◌, arith}
use Rattle.std.specs.Prelude.{slice_get}
use Rattle.std.proofs.lemmas.Option.{slice_get-get_or}
use Rattle.dia_breaking.specs.declared.keys.Own.{Own}
use Rattle.dia_breaking.specs.Sender.{costs_of, sender_in}
use Rattle.dia_breaking.specs.TheLines.{HasLevelLines}
use Rattle.dia_breaking.proofs.FoundExits.{all_outlooks, one_outlook_more}
use Rattle.dia_breaking.proofs.Lists.{all_more}
use Rattle.dia_breaking.proofs.exits.outlooks.Goals as goal

pub loop-own-preserved : goal.loop-own-preserved
loop-own-preserved g c =
    let da = sender_in c.args.lengths.now in
    let db = g.B.Book.meaning c.args.b.now in
    let k = costs_of c.args.lengths.now in
    let recording = c.args.recording.now in
    let i = c.loop-own.own-index in (
      all_more (HasLevelLines da db k) c.loop-own.outlooks.items _ _ c.in_ok-push.ensures.items c.loop-own.invariant.0 c.in_ok-inner.ensures.levels,
      one_outlook_more da db recording k i _ _ c.loop-own.outlooks.items _ c.in_ok-push.ensures.items
          (ap (λ (xs : List Own). slice_get xs i) (sym c.deref-own-items.ensures.value)
          ∙ slice_get-get_or c.deref-own-items.result.now i (record { key = record { code = 0; vendor = 0 }; is_group = false; breaks = false; is_other = false }) (omega arith)) refl c.loop-own.invariant.1
          (record { other_is = c.other.ensures; inner_is = c.in_ok-inner.ensures.exact }),
    )

pub returns : goal.returns
returns g c = record {
  exact = all_outlooks (sender_in c.args.lengths.now) (g.B.Book.meaning c.args.b.now) c.args.recording.now (costs_of c.args.lengths.now) c.loop-own.own-index c.loop-own.outlooks.items (omega arith)
      c.loop-own.invariant.1;
  levels = c.loop-own.invariant.0;
}
