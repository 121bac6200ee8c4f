use Rattle.std.proofs.lemmas.Result.{err_from_is_err_and}
use Rattle.dia_run.specs.FedTexts.{IsNoHexadecimal}
use Rattle.dia_run.proofs.RefusedInputs.{RecordsOf-map}
use Rattle.dia_run.proofs.FedTexts.{none_after, spells_more, spells_none_yet, nothing_follows}
use Rattle.dia_run.proofs.commands.check.feeding.feed_text.Goals as goal

pub loop-stream-init : goal.loop-stream-init
loop-stream-init g c = rw c.requires.empty (record {
  live = c.requires.live;
  spelled = spells_none_yet c.args.text.now;
  fed = λ d u most occurs. record { occurs = occurs; follow = nothing_follows };
})

pub returns-in_err-fed-clause-recorded : goal.returns-in_err-fed-clause-recorded
returns-in_err-fed-clause-recorded g c =
    let p = err_from_is_err_and c.from_residual.result c.from_residual.ensures.1 in
    rw (p.1, p.2) (RecordsOf-map (IsNoHexadecimal c.loop-stream.fed.rest.now) (IsNoHexadecimal c.args.text.now) _
    (λ recorded no. (none_after c.args.text.now c.loop-stream.bytes.items c.loop-stream.fed.rest.now c.loop-stream.invariant.spelled no.0, no.1)) c.in_err-fed.ensures.recorded)

pub loop-stream-preserved : goal.loop-stream-preserved
loop-stream-preserved g c =
    let (piece, next, is, feeds) = c.in_ok-fed.ensures.fed in rw is (record {
      live = c.in_ok-fed.ensures.goes_on;
      spelled = spells_more c.args.text.now c.loop-stream.bytes.items c.loop-stream.fed.rest.now piece c.in_ok-fed.fed.rest.now c.loop-stream.invariant.spelled next;
      fed = λ d u most occurs. feeds d u most c.loop-stream.bytes.items (c.loop-stream.invariant.fed d u most occurs);
    })
