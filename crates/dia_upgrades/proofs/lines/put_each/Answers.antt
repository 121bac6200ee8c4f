use Rattle.std.proofs.Common.{[], List, refl, subst, ◌∷◌, ◌++◌, ◌∙◌}
use Rattle.std.proofs.lemmas.List.{take_all}
use Rattle.std.proofs.lemmas.Result.{err_from_is_err_and}
use Rattle.dia_breaking.specs.declared.line.Line.{Line}
use Rattle.dia_breaking.specs.Upgrades.{other_length_of, sides_of, stock_of}
use Rattle.dia_breaking.proofs.MessageBytes.{some_bytes}
use Rattle.dia_upgrades.specs.Recorded.{AreParts, says_of}
use Rattle.dia_upgrades.specs.UnderWay.{IsMessageIn, IsRecordedIn}
use Rattle.dia_upgrades.proofs.Listings.{goes_both, goes_nothing, sound_ok, stops_at}
use Rattle.dia_upgrades.proofs.Parts.{one_more}
use Rattle.dia_upgrades.proofs.lines.put_each.Goals as goal

pub loop-line-init : goal.loop-line-init
loop-line-init g c = record { sound = c.requires; budget = refl; recorded = ([], refl, goes_nothing (g.W.LineWriter.writes c.args.writer.now) c.args.asked c.args.place (g.S.Sink.written c.args.sink.now) c.args.listing.now) }

pub loop-line-preserved : goal.loop-line-preserved
loop-line-preserved g c =
    let up = c.args.upgrade.now in
    let is = IsRecordedIn up c.args.breaks.now c.args.place c.args.asked.messages in
    let (recorded, parts, goes) = c.loop-line.invariant.recorded in
    let (t, is_t, one) = c.in_ok-put_line.ensures.all in
    let here = subst (λ (x : Line). is x (t ∷ [])) c.line-item.is is_t in
    record {
      sound = sound_ok _ _ c.in_ok-put_line.ensures.device;
      budget = c.in_ok-put_line.ensures.budget ∙ c.loop-line.invariant.budget;
      recorded = (
        recorded ++ t ∷ [],
        one_more is c.args.lines.now c.loop-line.line-index c.line-item.result recorded (t ∷ []) c.loop-line-test.true parts here,
        goes_both (g.W.LineWriter.writes c.args.writer.now) c.args.asked c.args.place _ _ _ c.args.listing.now c.loop-line.listing c.put_line.new.listing recorded (t ∷ []) [] [] goes one,
      );
    }

pub returns-in_err-put_line-clause-stops : goal.returns-in_err-put_line-clause-stops
returns-in_err-put_line-clause-stops g c =
    let p = err_from_is_err_and c.from_residual.result c.from_residual.ensures.1 in
    let up = c.args.upgrade.now in
    let says = says_of (sides_of up) (other_length_of up) c.args.breaks.now.command c.args.breaks.now.sites.items in
    let some = some_bytes (sides_of up) (stock_of up) c.args.breaks.now.command c.args.breaks.now.sites.items in
    let (recorded, parts, goes) = c.loop-line.invariant.recorded in
    rw (p.1, p.2)
    (stops_at (g.W.LineWriter.writes c.args.writer.now) c.args.asked c.args.place c.args.asked.messages says (IsMessageIn up c.args.breaks.now) some _ _ _ _ c.args.listing.now c.loop-line.listing c.put_line.new.listing c.args.lines.now c.loop-line.line-index c.line-item.result recorded
    c.loop-line-test.true c.line-item.is parts goes c.in_err-put_line.ensures.stops)

pub returns-clause-all : goal.returns-clause-all
returns-clause-all g c =
    let up = c.args.upgrade.now in
    let (recorded, parts, goes) = c.loop-line.invariant.recorded in
    let all = take_all c.loop-line.line-index c.args.lines.now c.loop-line-test.false in
    (recorded, subst (λ (lines : List Line). AreParts (IsRecordedIn up c.args.breaks.now c.args.place c.args.asked.messages) lines recorded) all parts, goes)
