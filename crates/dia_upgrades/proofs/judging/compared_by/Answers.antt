use Rattle.std.proofs.Common.{All, map, refl, subst, sym, ◌<◌, ℕ, length}
use Rattle.std.proofs.lemmas.Result.{err_from_is_err_and}
use Rattle.dia_accepted.specs.Accepted.{plain_entry}
use Rattle.dia_breaking.specs.Sides.{Sides}
use Rattle.dia_upgrades.specs.Outcome.{sides_in}
use Rattle.dia_upgrades.specs.UnderWay.{AreAllPut, AreFirstLines, Ends}
use Rattle.dia_upgrades.specs.declared.lines.Listing.{Listing}
use Rattle.dia_upgrades.proofs.Answered.{all_answered, are_stale_by, first_answered, no_memory_answered, unused_by}
use Rattle.dia_upgrades.proofs.judging.compared_by.Goals as goal

pub put_lines-requires-clause-places : goal.put_lines-requires-clause-places
put_lines-requires-clause-places g c = subst (λ (s : Sides). All (λ (place : ℕ). place < length s.sender.commands) c.args.commands.now) (sym c.requires.between) c.requires.places

pub returns-in_err-listing-clause-answers : goal.returns-in_err-listing-clause-answers
returns-in_err-listing-clause-answers g c = λ input is_list can places_are.
    let p = err_from_is_err_and c.from_residual.result c.from_residual.ensures.1 in
    let asked = c.args.asked in
    let list = map plain_entry c.args.list.now in
    let (first, are, occurs) = c.in_err-listing.ensures.front in
    let are_first = subst (λ (s : Sides). AreFirstLines s asked list c.args.commands.now first) c.requires.between are in
    rw (p.1, p.2) (first_answered (g.W.LineWriter.writes c.args.writer.now) asked input (g.A.Book.meaning c.args.a.now) (g.B.Book.meaning c.args.b.now) list is_list can c.args.commands.now (g.S.Sink.written c.args.sink.now) _ places_are _ first are_first occurs)

pub returns-in_err-unused-clause-answers : goal.returns-in_err-unused-clause-answers
returns-in_err-unused-clause-answers g c = λ input is_list can places_are.
    let p = err_from_is_err_and c.from_residual-in_err-unused.result c.from_residual-in_err-unused.ensures.1 in
    let asked = c.args.asked in
    let list = map plain_entry c.args.list.now in
    let all = subst (λ (s : Sides). AreAllPut (g.W.LineWriter.writes c.args.writer.now) s asked list c.args.commands.now (g.S.Sink.written c.args.sink.now) (g.S.Sink.written c.put_lines.new.sink)
    c.in_ok-listing.listing.value.seen) c.requires.between c.in_ok-listing.ensures.all in
    rw (p.1, p.2) (no_memory_answered (g.W.LineWriter.writes c.args.writer.now) asked input (g.A.Book.meaning c.args.a.now) (g.B.Book.meaning c.args.b.now) list is_list can c.args.commands.now (g.S.Sink.written c.args.sink.now) _
    c.in_ok-listing.listing.value.seen places_are all)

pub returns-in_err-stale-clause-answers : goal.returns-in_err-stale-clause-answers
returns-in_err-stale-clause-answers g c = λ input is_list can places_are.
    let p = err_from_is_err_and c.from_residual-in_err-stale.result c.from_residual-in_err-stale.ensures.1 in
    let asked = c.args.asked in
    let list = map plain_entry c.args.list.now in
    let all = subst (λ (s : Sides). AreAllPut (g.W.LineWriter.writes c.args.writer.now) s asked list c.args.commands.now (g.S.Sink.written c.args.sink.now) (g.S.Sink.written c.put_lines.new.sink)
    c.in_ok-listing.listing.value.seen) c.requires.between c.in_ok-listing.ensures.all in
    rw (p.1, p.2) (no_memory_answered (g.W.LineWriter.writes c.args.writer.now) asked input (g.A.Book.meaning c.args.a.now) (g.B.Book.meaning c.args.b.now) list is_list can c.args.commands.now (g.S.Sink.written c.args.sink.now) _
    c.in_ok-listing.listing.value.seen places_are all)

pub returns-clause-answers : goal.returns-clause-answers
returns-clause-answers g c = λ input is_list can places_are.
    let asked = c.args.asked in
    let da = g.A.Book.meaning c.args.a.now in
    let db = g.B.Book.meaning c.args.b.now in
    let list = map plain_entry c.args.list.now in
    let all = subst (λ (s : Sides). AreAllPut (g.W.LineWriter.writes c.args.writer.now) s asked list c.args.commands.now (g.S.Sink.written c.args.sink.now) (g.S.Sink.written c.put_lines.new.sink)
    c.in_ok-listing.listing.value.seen) c.requires.between c.in_ok-listing.ensures.all in
    let unused = unused_by (g.W.LineWriter.writes c.args.writer.now) asked list (sides_in asked da db) c.args.commands.now _ _ c.in_ok-listing.listing.value.seen all (map plain_entry c.in_ok-unused.unused.items) (rw c.deref.ensures at c.in_ok-unused.ensures) in
    let stale = are_stale_by asked da db list all.recorded all.apart (map plain_entry c.in_ok-stale.stale.items) c.in_ok-unused.unused c.as_slice.result.now c.as_slice.ensures.value unused (c.in_ok-stale.ensures places_are) in
    let ends = subst (λ (l : Listing). Ends (g.W.LineWriter.writes c.args.writer.now) asked l.seen c.in_ok-unused.unused c.in_ok-stale.stale (g.S.Sink.written c.put_lines.new.sink) (g.S.Sink.written c.ended.new.sink) c.ended.result) c.deref-2.ensures c.ended.ensures.ends in
    all_answered (g.W.LineWriter.writes c.args.writer.now) asked input da db list is_list (g.met.A.Book.sound c.args.a.now) can all.apart (map plain_entry c.in_ok-stale.stale.items) c.args.commands.now (g.S.Sink.written c.args.sink.now) (g.S.Sink.written c.put_lines.new.sink)
    c.in_ok-listing.listing.value.seen places_are
    all refl c.in_ok-unused.unused c.in_ok-stale.stale refl unused stale _ c.ended.result ends
