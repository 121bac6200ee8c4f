use Rattle.std.proofs.Common.{List, ℕ, arith, length, refl, subst, take}
use Rattle.std.proofs.Math.Logic.{∥∥₁_map}
use Rattle.std.proofs.lemmas.List.{length-take, take_all}
use Rattle.std.proofs.lemmas.Result.{err_from_is_err_and}
use Rattle.dia_breaking.specs.Upgrades.{facts_of, sides_of, stock_of}
use Rattle.dia_upgrades.specs.declared.lines.Listing.{Listing}
use Rattle.dia_breaking.specs.Stocks.{IsStockOf}
use Rattle.dia_upgrades.specs.Recorded.{AreShortest}
use Rattle.dia_upgrades.specs.UnderWay.{AreUnderWay}
use Rattle.dia_upgrades.proofs.Commands.{all_some, goes_next, none_yet, stops_there}
use Rattle.dia_upgrades.proofs.Listings.{sound_ok}
use Rattle.dia_upgrades.proofs.lines.put_commands.Goals as goal

pub loop-place-init : goal.loop-place-init
loop-place-init g c = record {
  sound = c.requires.sound;
  some = λ list begun place new all way. none_yet (g.W.LineWriter.writes c.args.writer.now) (sides_of c.args.upgrade.now) (stock_of c.args.upgrade.now) c.args.asked (facts_of c.args.upgrade.now).lengths c.args.forgets list begun (g.S.Sink.written c.args.sink.now) c.args.listing.now place all way;
}

pub loop-place-preserved : goal.loop-place-preserved
loop-place-preserved g c =
    let up = c.args.upgrade.now in
    let s = sides_of up in
    let asked = c.args.asked in
    let lengths = (facts_of up).lengths in
    let places = c.args.places.now in
    let i = c.loop-place.place-index in
    let d : ℕ = 0 in
    let old = c.loop-place.listing in
    let begin : Listing = record { seen = c.begin.new.self; pending = old.pending; budget = old.budget } in
    let new = c.put_command.new.listing in
    record {
      sound = sound_ok _ _ c.in_ok-put_command.ensures.device;
      some = λ list begun place each all way.
          let some = c.loop-place.invariant.some list begun place each all way in
          let (recorded, apart, is, goes) = c.in_ok-put_command.ensures.all in
          let is_here = is in
          let goes_here = goes in
          goes_next (g.W.LineWriter.writes c.args.writer.now) s (stock_of up) asked lengths c.args.forgets list begun places i d c.loop-place-test.true (g.S.Sink.written c.loop-place.sink) (g.S.Sink.written c.put_command.new.sink) old begin new some
          (λ known others none are. c.begin.ensures asked list some.place _ (length (take i places)) known others none are) refl refl each (omega (arith, length-take i places, c.loop-place-test.true, c.type_inv.places)) recorded apart is_here goes_here;
    }

pub returns-in_err-put_command-clause-stops : goal.returns-in_err-put_command-clause-stops
returns-in_err-put_command-clause-stops g c =
    let p = err_from_is_err_and c.from_residual.result c.from_residual.ensures.1 in
    let up = c.args.upgrade.now in
    let s = sides_of up in
    let asked = c.args.asked in
    let lengths = (facts_of up).lengths in
    let places = c.args.places.now in
    let i = c.loop-place.place-index in
    let d : ℕ = 0 in
    let old = c.loop-place.listing in
    let begin : Listing = record { seen = c.begin.new.self; pending = old.pending; budget = old.budget } in
    let new = c.put_command.new.listing in
    rw (p.1, p.2)
    (λ list begun place each all way.
    let some = c.loop-place.invariant.some list begun place each all way in
    let shortest : AreShortest s.sender s.sends (facts_of up).lengths = ∥∥₁_map up.known (λ known. (known.least, known.are_least, known.are_lengths)) in
    let is_stock : IsStockOf s (facts_of up).lengths (stock_of up) = record { least_is = up.lengths.exact; costs_are = refl; others_are = ∥∥₁_map up.known (λ known. known.are_others) } in
    let stops = c.in_err-put_command.ensures.stops in
    stops_there (g.W.LineWriter.writes c.args.writer.now) s (stock_of up) asked lengths c.args.forgets list begun places i d c.loop-place-test.true (g.S.Sink.written c.loop-place.sink) (g.S.Sink.written c.put_command.new.sink) old begin new some
    (λ known others none are. c.begin.ensures asked list some.place _ (length (take i places)) known others none are) refl refl each (omega (arith, length-take i places, c.loop-place-test.true, c.type_inv.places)) shortest is_stock
    c.in_err-put_command.field-0.0 stops)

pub returns-clause-all : goal.returns-clause-all
returns-clause-all g c = λ list begun place each all way.
    let up = c.args.upgrade.now in
    let s = sides_of up in
    let some = c.loop-place.invariant.some list begun place each all way in
    let shortest : AreShortest s.sender s.sends (facts_of up).lengths = ∥∥₁_map up.known (λ known. (known.least, known.are_least, known.are_lengths)) in
    let is_stock : IsStockOf s (facts_of up).lengths (stock_of up) = record { least_is = up.lengths.exact; costs_are = refl; others_are = ∥∥₁_map up.known (λ known. known.are_others) } in
    let whole = take_all c.loop-place.place-index c.args.places.now c.loop-place-test.false in
    subst (λ (ps : List ℕ). AreUnderWay (g.W.LineWriter.writes c.args.writer.now) s c.args.asked c.args.forgets list ps begun (g.S.Sink.written c.loop-place.sink) c.loop-place.listing) whole
    (all_some (g.W.LineWriter.writes c.args.writer.now) s (stock_of up) c.args.asked (facts_of up).lengths c.args.forgets list begun (take c.loop-place.place-index c.args.places.now) (g.S.Sink.written c.loop-place.sink) c.loop-place.listing shortest is_stock some)
