use Rattle.std.proofs.Common.{ap, length, map, refl, subst, sym, ◌∙◌}
use Rattle.std.proofs.lemmas.List.{length-map}
use Rattle.std.proofs.lemmas.Result.{err_from_is_err_and}
use Rattle.std.specs.Io.KnownBytes.{Appends}
use Rattle.dia_accepted.specs.Accepted.{plain_entry}
use Rattle.dia_io.specs.Writing.{AppendsFront}
use Rattle.dia_upgrades.specs.Stale.{failing}
use Rattle.dia_upgrades.specs.declared.reporting.Findings.{Findings}
use Rattle.dia_upgrades.specs.declared.reporting.Findings.TheVariants.{Listed}
use Rattle.dia_upgrades.specs.UnderWay.{Finds, end_text, exit_of}
use Rattle.dia_upgrades.proofs.ending.ended.Goals as goal

pub returns-in_err-put_all-clause-ends : goal.returns-in_err-put_all-clause-ends
returns-in_err-put_all-clause-ends g c =
    let p = err_from_is_err_and c.from_residual-in_err-put_all.result c.from_residual-in_err-put_all.ensures.1 in
    let w = g.W.LineWriter.writes c.args.writer.now in
    let seen = c.args.seen.now in
    let asked = c.args.asked in
    let is : Findings = Listed c.args.unused c.args.stale seen.lines seen.accepted c.in_ok-causes.causes c.in_ok-meanings.meanings in
    let finds : Finds seen c.args.unused c.args.stale is = record {
      causes = c.in_ok-causes.causes;
      meanings = c.in_ok-meanings.meanings;
      found_is = refl;
      causes_are = c.in_ok-causes.ensures;
      meanings_are = c.in_ok-meanings.ensures;
    } in
    let fails = c.failing-fails.ensures ∙ ap (λ es. failing asked.stale (map plain_entry es)) c.as_slice.ensures.value in
    let (causes, are_causes, text_is) = c.in_ok-text.ensures in
    let whole = c.as_bytes.ensures.value ∙ text_is ∙ (λ i. end_text w asked.meaning seen.is_some causes (c.counts_in-counts.ensures i) (fails i)) in
    rw (p.1, p.2) (is, causes, are_causes, finds, subst (AppendsFront (g.S.Sink.written c.args.sink.now) (g.S.Sink.written c.put_all.new.sink)) whole c.put_all.ensures.front)

pub returns-clause-ends : goal.returns-clause-ends
returns-clause-ends g c =
    let w = g.W.LineWriter.writes c.args.writer.now in
    let seen = c.args.seen.now in
    let asked = c.args.asked in
    let is : Findings = Listed c.args.unused c.args.stale seen.lines seen.accepted c.in_ok-causes.causes c.in_ok-meanings.meanings in
    let finds : Finds seen c.args.unused c.args.stale is = record {
      causes = c.in_ok-causes.causes;
      meanings = c.in_ok-meanings.meanings;
      found_is = refl;
      causes_are = c.in_ok-causes.ensures;
      meanings_are = c.in_ok-meanings.ensures;
    } in
    let fails = c.failing-fails.ensures ∙ ap (λ es. failing asked.stale (map plain_entry es)) c.as_slice.ensures.value in
    let (causes, are_causes, text_is) = c.in_ok-text.ensures in
    let whole = c.as_bytes.ensures.value ∙ text_is ∙ (λ i. end_text w asked.meaning seen.is_some causes (c.counts_in-counts.ensures i) (fails i)) in
    let count = sym (length-map c.failing-fails.result.now plain_entry) ∙ ap length fails in (
      causes,
      are_causes,
      finds,
      c.exit_of-exit.ensures ∙ ap (λ n. exit_of seen.lines n) count,
      subst (Appends (g.S.Sink.written c.args.sink.now) (g.S.Sink.written c.put_all.new.sink)) whole c.in_ok-put_all.ensures.ok,
    )
