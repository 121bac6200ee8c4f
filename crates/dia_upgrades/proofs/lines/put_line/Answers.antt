use Rattle.std.proofs.Common.{refl}
use Rattle.std.proofs.lemmas.Result.{err_from_is_err_and}
use Rattle.dia_breaking.proofs.MessageBytes.{some_bytes}
use Rattle.dia_breaking.specs.Upgrades.{other_length_of, sides_of, stock_of}
use Rattle.dia_upgrades.specs.declared.lines.Listing.{Listing}
use Rattle.dia_upgrades.specs.Recorded.{says_of}
use Rattle.dia_upgrades.specs.UnderWay.{IsMessageIn, shown_text}
use Rattle.dia_upgrades.proofs.Listings.{line_goes, line_stops, stops_before_line, stops_in_line}
use Rattle.dia_upgrades.proofs.lines.put_line.Goals as goal

pub returns-in_err-shown-clause-stops : goal.returns-in_err-shown-clause-stops
returns-in_err-shown-clause-stops g c =
    let p = err_from_is_err_and c.from_residual.result c.from_residual.ensures.1 in
    let up = c.args.upgrade.now in
    let says = says_of (sides_of up) (other_length_of up) c.args.breaks.now.command c.args.breaks.now.sites.items in
    let some = some_bytes (sides_of up) (stock_of up) c.args.breaks.now.command c.args.breaks.now.sites.items in
    let new : Listing = record { seen = c.see_line.new.seen; pending = c.args.listing.now.pending; budget = c.args.listing.now.budget } in
    rw (p.1, p.2) (stops_before_line (g.W.LineWriter.writes c.args.writer.now) c.args.asked c.args.place c.args.asked.messages says (IsMessageIn up c.args.breaks.now) some (g.S.Sink.written c.args.sink.now) c.args.listing.now new c.args.line.now refl)

pub returns-in_err-add_shown-clause-stops : goal.returns-in_err-add_shown-clause-stops
returns-in_err-add_shown-clause-stops g c =
    let p = err_from_is_err_and c.from_residual-in_err-add_shown.result c.from_residual-in_err-add_shown.ensures.1 in
    let up = c.args.upgrade.now in
    let says = says_of (sides_of up) (other_length_of up) c.args.breaks.now.command c.args.breaks.now.sites.items in
    let some = some_bytes (sides_of up) (stock_of up) c.args.breaks.now.command c.args.breaks.now.sites.items in
    let (t, is_t, sees) = c.in_ok-shown.ensures in
    let new : Listing = record { seen = c.see_line.new.seen; pending = c.add_shown.new.pending; budget = c.args.listing.now.budget } in
    let stops = line_stops (g.W.LineWriter.writes c.args.writer.now) c.args.asked c.args.place (g.S.Sink.written c.args.sink.now) _ c.args.listing.now new c.see_line.new.seen t (shown_text c.in_ok-shown.shown) sees (c.in_err-add_shown.ensures.front refl) in
    rw (p.1, p.2) (stops_in_line (g.W.LineWriter.writes c.args.writer.now) c.args.asked c.args.place c.args.asked.messages says (IsMessageIn up c.args.breaks.now) some (g.S.Sink.written c.args.sink.now) _ c.args.listing.now new c.args.line.now t is_t stops)

pub returns-clause-all : goal.returns-clause-all
returns-clause-all g c =
    let (t, is_t, sees) = c.in_ok-shown.ensures in
    let new : Listing = record { seen = c.see_line.new.seen; pending = c.add_shown.new.pending; budget = c.args.listing.now.budget } in
    (t, is_t, line_goes (g.W.LineWriter.writes c.args.writer.now) c.args.asked c.args.place (g.S.Sink.written c.args.sink.now) _ c.args.listing.now new t (shown_text c.in_ok-shown.shown) sees c.in_ok-add_shown.ensures.added)
