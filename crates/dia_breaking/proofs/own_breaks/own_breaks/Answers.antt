use Rattle.std.proofs.Common.{◌++◌, ◌∷◌, [], List, map, ap, ap₂, sym, subst, ◌∙◌, arith}
use Rattle.std.proofs.lemmas.List.{map_push, map_more, take_all}
use Rattle.dia_wire.specs.declared.Key.{Key}
use Rattle.dia_breaking.specs.declared.keys.Own.{Own}
use Rattle.dia_breaking.specs.declared.own_breaks.OwnBreaks.{OwnBreaks}
use Rattle.dia_breaking.specs.Sender.{costs_of, sender_in}
use Rattle.dia_breaking.specs.OwnBreaks.{AreOwnBreaks, IsOwnBreaks}
use Rattle.dia_breaking.specs.Sides.{sides}
use Rattle.dia_breaking.proofs.Lists.{all_more}
use Rattle.dia_breaking.proofs.own_breaks.own_breaks.Goals as goal

pub loop-one-preserved : goal.loop-one-preserved
loop-one-preserved g c =
    let lengths = c.args.lengths.now in
    let own = c.args.own.now in
    let old = c.loop-one.found.items in
    let key = λ (one : OwnBreaks). one.key in
    let items = c.in_ok-push.ensures.items in record {
      keys = ap (map key) items ∙ map_push key old c.breaks_of.result ∙ ap₂ (λ (keys : List Key) (k : Key). keys ++ k ∷ []) c.loop-one.invariant.keys c.breaks_of.ensures.key
          ∙ sym (map_more (λ (one : Own). one.key) own c.loop-one.one-index _ (omega arith));
      each = all_more (IsOwnBreaks (sides (sender_in lengths) (g.B.Book.meaning c.args.b.now) lengths.sends c.args.unknown) (costs_of lengths).listed)
          old c.breaks_of.result _ items c.loop-one.invariant.each c.breaks_of.ensures.breaks;
    }

pub returns : goal.returns
returns g c =
    let lengths = c.args.lengths.now in
    subst (λ (own : List Own). AreOwnBreaks (sides (sender_in lengths) (g.B.Book.meaning c.args.b.now) lengths.sends c.args.unknown) (costs_of lengths).listed own c.loop-one.found.items)
    (take_all c.loop-one.one-index c.args.own.now c.loop-one-test.false) c.loop-one.invariant
