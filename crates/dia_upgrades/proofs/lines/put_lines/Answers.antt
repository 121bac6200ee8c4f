use Rattle.std.proofs.Common.{◌≡◌, ℕ, List, [], Option, Err, ap, map, refl, subst, sym, ◌∙◌}
use Rattle.std.specs.Io.KnownBytes.{Appends}
use Rattle.std.proofs.Math.Logic.{∥∥₁_map}
use Rattle.std.proofs.lemmas.Result.{err_from_is_err_and, IfErr-weaker, on_ok_weaker}
use Rattle.dia_accepted.specs.Accepted.{plain_entry}
use Rattle.dia_breaking.specs.Upgrades.{facts_of, sides_of, stock_of}
use Rattle.dia_breaking.specs.Confirmed.{most_checked_together}
use Rattle.dia_breaking.specs.Stocks.{IsStockOf}
use Rattle.dia_upgrades.specs.Recorded.{AreShortest}
use Rattle.dia_upgrades.specs.UnderWay.{AreAllPut, IsPut, IsUnderWay, OccursAfter}
use Rattle.dia_upgrades.specs.declared.lines.Listing.{Listing}
use Rattle.dia_upgrades.proofs.Commands.{all_put, none_first, rest_occurs}
use Rattle.dia_upgrades.proofs.Listings.{device_of}
use Rattle.dia_upgrades.proofs.lines.put_lines.Goals as goal

pub returns-in_err-forgets-clause-front : goal.returns-in_err-forgets-clause-front
returns-in_err-forgets-clause-front g c =
    let p = err_from_is_err_and c.from_residual.result c.from_residual.ensures.1 in
    let up = c.args.upgrade.now in
    let shortest : AreShortest (sides_of up).sender (sides_of up).sends (facts_of up).lengths = ∥∥₁_map up.known (λ known. (known.least, known.are_least, known.are_lengths)) in
    let is_stock : IsStockOf (sides_of up) (facts_of up).lengths (stock_of up) = record { least_is = up.lengths.exact; costs_are = refl; others_are = ∥∥₁_map up.known (λ known. known.are_others) } in
    rw (p.1, p.2) (none_first (g.W.LineWriter.writes c.args.writer.now) (sides_of up) (stock_of up) c.args.asked (map plain_entry c.args.list.now) (facts_of up).lengths c.args.places.now (g.S.Sink.written c.args.sink.now) shortest is_stock)

pub returns-in_err-listing-clause-front : goal.returns-in_err-listing-clause-front
returns-in_err-listing-clause-front g c =
    let p = err_from_is_err_and c.from_residual-in_err-listing.result c.from_residual-in_err-listing.ensures.1 in
    let up = c.args.upgrade.now in
    let shortest : AreShortest (sides_of up).sender (sides_of up).sends (facts_of up).lengths = ∥∥₁_map up.known (λ known. (known.least, known.are_least, known.are_lengths)) in
    let is_stock : IsStockOf (sides_of up) (facts_of up).lengths (stock_of up) = record { least_is = up.lengths.exact; costs_are = refl; others_are = ∥∥₁_map up.known (λ known. known.are_others) } in
    rw (p.1, p.2) (none_first (g.W.LineWriter.writes c.args.writer.now) (sides_of up) (stock_of up) c.args.asked (map plain_entry c.args.list.now) (facts_of up).lengths c.args.places.now (g.S.Sink.written c.args.sink.now) shortest is_stock)

pub returns-in_err-put_rest-clause-front : goal.returns-in_err-put_rest-clause-front
returns-in_err-put_rest-clause-front g c =
    let p = err_from_is_err_and c.from_residual-in_err-put_rest.result c.from_residual-in_err-put_rest.ensures.1 in
    let up = c.args.upgrade.now in
    let list = map plain_entry c.args.list.now in
    let put = g.S.Sink.written c.args.sink.now in
    let new = c.put_commands-found.new.listing in
    let same = sym c.deref_mut.ensures.value in
    let way = subst (λ (l : Listing). IsUnderWay (g.W.LineWriter.writes c.args.writer.now) c.args.asked c.in_ok-forgets.forgets list 0 0 put put l [] []) same (c.in_ok-listing.ensures.way (g.W.LineWriter.writes c.args.writer.now) c.args.asked c.in_ok-forgets.forgets put) in
    let budget = subst (λ (l : Listing). l.budget ≡ most_checked_together) same c.in_ok-listing.ensures.budget in
    let all = on_ok_weaker c.put_commands-found.result (λ f. f list put 0 c.in_ok-forgets.ensures budget way) c.put_commands-found.ensures.all in
    let stops = IfErr-weaker c.put_commands-found.result _ _ (λ fault f. f list put 0 c.in_ok-forgets.ensures budget way) c.put_commands-found.ensures.stops in
    let pending = c.deref_mut-2.ensures.value in
    let front = subst
    (λ (l : Listing). OccursAfter c.put_commands-found.result c.in_err-put_rest.field-0.0 (g.S.Sink.written c.put_commands-found.new.sink) (g.S.Sink.written c.put_rest.new.sink) l.pending)
    pending c.in_err-put_rest.ensures.front in
    rw (p.1, p.2) (rest_occurs (g.W.LineWriter.writes c.args.writer.now) (sides_of up) c.args.asked c.in_ok-forgets.forgets list c.args.places.now put (g.S.Sink.written c.put_commands-found.new.sink) (g.S.Sink.written c.put_rest.new.sink) new c.put_commands-found.result
    all stops _ front)

pub returns-clause-all : goal.returns-clause-all
returns-clause-all g c =
    let up = c.args.upgrade.now in
    let list = map plain_entry c.args.list.now in
    let put = g.S.Sink.written c.args.sink.now in
    let new = c.put_commands-found.new.listing in
    let same = sym c.deref_mut.ensures.value in
    let way = subst (λ (l : Listing). IsUnderWay (g.W.LineWriter.writes c.args.writer.now) c.args.asked c.in_ok-forgets.forgets list 0 0 put put l [] []) same (c.in_ok-listing.ensures.way (g.W.LineWriter.writes c.args.writer.now) c.args.asked c.in_ok-forgets.forgets put) in
    let budget = subst (λ (l : Listing). l.budget ≡ most_checked_together) same c.in_ok-listing.ensures.budget in
    let all = on_ok_weaker c.put_commands-found.result (λ f. f list put 0 c.in_ok-forgets.ensures budget way) c.put_commands-found.ensures.all in
    let pending = c.deref_mut-2.ensures.value in
    let rest = subst (λ (l : Listing). (begun : Option (List ℕ)) (text : List ℕ) → IsPut begun (g.S.Sink.written c.put_commands-found.new.sink) l.pending text
    → Appends begun (g.S.Sink.written c.put_rest.new.sink) text) pending c.in_ok-put_rest.ensures.all.1 in
    subst (λ (l : Listing). AreAllPut (g.W.LineWriter.writes c.args.writer.now) (sides_of up) c.args.asked list c.args.places.now put (g.S.Sink.written c.put_rest.new.sink) l.seen) (sym pending)
    (all_put (g.W.LineWriter.writes c.args.writer.now) (sides_of up) c.args.asked c.in_ok-forgets.forgets list c.args.places.now put (g.S.Sink.written c.put_commands-found.new.sink) (g.S.Sink.written c.put_rest.new.sink) new
    c.put_commands-found.result c.in_ok-put_rest.ensures.all.0 all rest)

pub returns-in_err-put_rest-clause-device : goal.returns-in_err-put_rest-clause-device
returns-in_err-put_rest-clause-device g c =
    let p = err_from_is_err_and c.from_residual-in_err-put_rest.result c.from_residual-in_err-put_rest.ensures.1 in
    device_of c.from_residual-in_err-put_rest.result (Err c.in_err-put_rest.field-0.0) c.in_err-put_rest.field-0.0 _ (p.1 ∙ ap (λ f. Err f) p.2) refl c.in_err-put_rest.ensures.device
