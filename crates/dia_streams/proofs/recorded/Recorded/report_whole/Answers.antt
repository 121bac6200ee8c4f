use Rattle.std.proofs.Common.{◌≡◌, ℕ, ◌+◌, ◌≤◌, List, length, Err, refl, sym, ap, subst, ◌∙◌, arith, rules}
use Rattle.dia_streams.specs.declared.fault.LinesFault.TheVariants.{Endless}
use Rattle.dia_streams.specs.Streams.{most_places}
use Rattle.std.proofs.lemmas.List.{length-append}
use Rattle.std.specs.Prelude.{IfErr, string_bytes}
use Rattle.dia_streams.proofs.StreamsUnderWay.{RecordsWhole-nothing, RecordsWhole-more}
use Rattle.dia_streams.proofs.recorded.Recorded.report_whole.Goals as goal

pub loop-message-init : goal.loop-message-init
loop-message-init g c = record { records = RecordsWhole-nothing (g.J.MessageJudge.says c.args.judge.now) (g.J.MessageJudge.recorded c.args.judge.now) g.W.Watch.saw c.args.self.now c.args.watch.now c.args.bytes.now; counts = refl }

pub loop-message-preserved : goal.loop-message-preserved
loop-message-preserved g c =
    let (verdict, says, adds) = c.in_ok-deliver.ensures in
    let lengths = ap (λ (b : List ℕ). length b) c.in-Some.ensures.parts ∙ length-append c.in-Some.message.now c.in-Some.following.now in
    record {
      records = RecordsWhole-more (g.J.MessageJudge.says c.args.judge.now) (g.J.MessageJudge.recorded c.args.judge.now) g.W.Watch.saw c.args.self.now c.loop-message.self
          c.deliver.new.self c.pass.new.self c.args.watch.now c.loop-message.watch c.deliver.new.watch c.args.bytes.now
          c.loop-message.rest.now c.in-Some.message.now c.in-Some.following.now verdict c.loop-message.invariant.records
          c.in-Some.ensures.parts c.in-Some.ensures.message says adds c.in_ok-pass.ensures.at (ap string_bytes c.in_ok-pass.ensures.text);
      counts = omega (arith, c.loop-message.invariant.counts, lengths, adds.at, c.in_ok-pass.ensures.at);
    }

pub returns-in_err-pass-clause-endless : goal.returns-in_err-pass-clause-endless
returns-in_err-pass-clause-endless g c =
    let (verdict, says, adds) = c.in_ok-deliver.ensures in
    let lengths = ap (λ (b : List ℕ). length b) c.in-Some.ensures.parts ∙ length-append c.in-Some.message.now c.in-Some.following.now in
    let same : c.from_residual-in_err-pass.result ≡ Err c.in_err-pass.field-0.0 = search rules in
    subst (λ r. IfErr r (λ fault. fault ≡ Endless → most_places ≤ c.args.self.now.at + length c.args.bytes.now)) (sym same)
    (λ _. omega (arith, c.loop-message.invariant.counts, lengths, adds.at, c.in_err-pass.ensures.many))
