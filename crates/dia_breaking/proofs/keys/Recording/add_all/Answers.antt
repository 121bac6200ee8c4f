use Rattle.std.proofs.Common.{List, sym, subst, take, arith}
use Rattle.std.proofs.lemmas.List.{take_all, take_more}
use Rattle.dia_wire.specs.declared.Key.{Key}
use Rattle.dia_breaking.specs.Recording.{AreExactlyRecorded, AreRecorded}
use Rattle.dia_breaking.specs.Sides.{sides}
use Rattle.dia_breaking.proofs.Tellings.{one_more_recorded}
use Rattle.dia_breaking.proofs.RecordingPlaces.{one_more_exactly}
use Rattle.dia_breaking.proofs.keys.Recording.add_all.Goals as goal

pub loop-key-init : goal.loop-key-init
loop-key-init g c = (c.requires.recorded, c.requires.exact)

pub returns : goal.returns
returns g c =
    let s = sides (g.A.Book.meaning c.args.a.now) (g.B.Book.meaning c.args.b.now) c.args.sends c.args.unknown in
    let all = take_all c.loop-key.key-index c.args.keys.now (omega (arith, c.loop-key-test.false)) in
    record {
      recorded = subst (λ (ks : List Key). AreRecorded s ks c.loop-key.self) all c.loop-key.invariant.0;
      exact = subst (λ (ks : List Key). AreExactlyRecorded s ks c.loop-key.self) all c.loop-key.invariant.1;
    }

pub loop-key-preserved : goal.loop-key-preserved
loop-key-preserved g c =
    let da = g.A.Book.meaning c.args.a.now in
    let db = g.B.Book.meaning c.args.b.now in
    let keys = c.args.keys.now in
    let i = c.loop-key.key-index in
    let more = sym (take_more keys i (record { code = 0; vendor = 0 }) c.loop-key-test.true) in (
      subst (λ ks. AreRecorded (sides da db c.args.sends c.args.unknown) ks c.add.new.self) more
          (one_more_recorded da db c.args.sends c.args.unknown (take i keys) _ c.own_of.result c.loop-key.self c.add.new.self c.loop-key.invariant.0 c.own_of.ensures.recorded c.in_ok-add.ensures),
      subst (λ ks. AreExactlyRecorded (sides da db c.args.sends c.args.unknown) ks c.add.new.self) more
          (one_more_exactly da db c.args.sends c.args.unknown (take i keys) _ c.own_of.result c.loop-key.self c.add.new.self c.loop-key.invariant.1 c.own_of.ensures.recorded.key_is c.own_of.ensures.exact
          c.in_ok-add.ensures),
    )
