use Rattle.std.proofs.Common.{◌≡◌, ℕ, ◌≤◌, Bool, List, ◌++◌, length, Some, Err, refl, sym, ap, subst, arith, rules}
use Rattle.std.specs.Prelude.{IfErr}
use Rattle.dia_streams.specs.declared.fault.LinesFault.TheVariants.{Endless}
use Rattle.dia_streams.specs.StreamUnderWay.{IsUnderWay, Takes, RecordsWhole}
use Rattle.dia_streams.specs.Streams.{most_places}
use Rattle.dia_streams.proofs.StreamsUnderWay.{many_read, Reads-endless, Reads-stopped, Reads-on, is_part, all_left}
use Rattle.dia_streams.proofs.streamed.Streamed.read.Goals as goal

pub returns-in-Some-clause-reads : goal.returns-in-Some-clause-reads
returns-in-Some-clause-reads g c =
    let P = g.J.MessageJudge.says c.args.judge.now in
    let T = g.J.MessageJudge.recorded c.args.judge.now in
    let S = g.W.Watch.saw in
    let old = c.args.self.now in
    let all = c.take.new.self.bytes.items in
    let rest = c.in_ok-rest.rest.now in
    let records = subst (λ (b : List ℕ). RecordsWhole P T S old.recorded c.report_whole.new.self c.args.watch.now c.report_whole.new.watch b rest) c.as_slice-bytes.ensures.value c.in_ok-rest.ensures.recorded in
    let (verdict, says, adds) = c.in_ok-deliver.ensures in
    Reads-endless P T S c.in_ok-hexadecimal.hexadecimal c.take.new.self.half all c.args.piece.now rest old c.report_whole.new.self c.args.watch.now c.report_whole.new.watch
    c.in_ok-hexadecimal.ensures records _ _ verdict c.in-Some.ensures.bad (subst (λ (b : List ℕ). P (Some b) verdict) c.in-Some.ensures.header says) adds

pub returns-then-not-hexadecimal-clause-reads : goal.returns-then-not-hexadecimal-clause-reads
returns-then-not-hexadecimal-clause-reads g c =
    let P = g.J.MessageJudge.says c.args.judge.now in
    let T = g.J.MessageJudge.recorded c.args.judge.now in
    let S = g.W.Watch.saw in
    let old = c.args.self.now in
    let all = c.take.new.self.bytes.items in
    let rest = c.in_ok-rest.rest.now in
    let records = subst (λ (b : List ℕ). RecordsWhole P T S old.recorded c.report_whole.new.self c.args.watch.now c.report_whole.new.watch b rest) c.as_slice-bytes.ensures.value c.in_ok-rest.ensures.recorded in
    let takes = subst (λ (good : Bool). Takes good old.digits.half c.take.new.self.half old.digits.bytes.items all c.args.piece.now) c.if-not-hexadecimal.true
    c.in_ok-hexadecimal.ensures in
    let (verdict, says, adds) = c.in_ok-report_no_digits.ensures in
    Reads-stopped P T S c.take.new.self.half all c.args.piece.now rest old _ c.report_whole.new.self c.args.watch.now c.report_whole.new.watch _ verdict takes records
    (is_part rest c.in_ok-rest.ensures.none (c.in_default.ensures.none refl)) says adds

pub returns-in_ok-self-clause-reads : goal.returns-in_ok-self-clause-reads
returns-in_ok-self-clause-reads g c =
    let P = g.J.MessageJudge.says c.args.judge.now in
    let T = g.J.MessageJudge.recorded c.args.judge.now in
    let S = g.W.Watch.saw in
    let old = c.args.self.now in
    let all = c.take.new.self.bytes.items in
    let rest = c.in_ok-rest.rest.now in
    let records = subst (λ (b : List ℕ). RecordsWhole P T S old.recorded c.report_whole.new.self c.args.watch.now c.report_whole.new.watch b rest) c.as_slice-bytes.ensures.value c.in_ok-rest.ensures.recorded in
    let takes = subst (λ (good : Bool). Takes good old.digits.half c.take.new.self.half old.digits.bytes.items all c.args.piece.now) c.if-not-hexadecimal.false
    c.in_ok-hexadecimal.ensures in
    Reads-on P T S c.take.new.self.half all c.args.piece.now rest old _ c.report_whole.new.self c.args.watch.now c.report_whole.new.watch takes records
    (is_part rest c.in_ok-rest.ensures.none (c.in_default.ensures.none refl)) refl c.in_ok-self.ensures.items refl

pub returns-else-rest-bytes-clause-reads : goal.returns-else-rest-bytes-clause-reads
returns-else-rest-bytes-clause-reads g c =
    let P = g.J.MessageJudge.says c.args.judge.now in
    let T = g.J.MessageJudge.recorded c.args.judge.now in
    let S = g.W.Watch.saw in
    let old = c.args.self.now in
    let all = c.take.new.self.bytes.items in
    let rest = c.in_ok-rest.rest.now in
    let records = subst (λ (b : List ℕ). RecordsWhole P T S old.recorded c.report_whole.new.self c.args.watch.now c.report_whole.new.watch b rest) c.as_slice-bytes.ensures.value c.in_ok-rest.ensures.recorded in
    let takes = subst (λ (good : Bool). Takes good old.digits.half c.take.new.self.half old.digits.bytes.items all c.args.piece.now) c.if-not-hexadecimal.false
    c.in_ok-hexadecimal.ensures in
    Reads-on P T S c.take.new.self.half all c.args.piece.now rest old _ c.report_whole.new.self c.args.watch.now c.report_whole.new.watch takes records
    (is_part rest c.in_ok-rest.ensures.none (c.in_default.ensures.none refl)) refl
    (all_left all records.whole rest records.parts (let value = ap (λ (b : List ℕ). length b) c.as_slice-bytes.ensures.value in omega (arith, value, c.if-rest-bytes.false))) refl

pub returns-in_err-rest-clause-endless : goal.returns-in_err-rest-clause-endless
returns-in_err-rest-clause-endless g c =
    let P = g.J.MessageJudge.says c.args.judge.now in
    let old = c.args.self.now in
    let all = c.take.new.self.bytes.items in
    let long = ap (λ (b : List ℕ). length b) c.as_slice-bytes.ensures.value in
    let same : c.from_residual-in_err-rest.result ≡ Err c.in_err-rest.field-0.0 = search rules in
    subst (λ r. IfErr r (λ fault. fault ≡ Endless → (read : List ℕ) (verdicts : List (ℕ × _)) → IsUnderWay P old read verdicts → most_places ≤ length (read ++ c.args.piece.now))) (sym same)
    (λ is. many_read P old c.in_ok-hexadecimal.hexadecimal c.take.new.self.half all c.args.piece.now most_places
    c.in_ok-hexadecimal.ensures (omega (arith, long, c.in_err-rest.ensures.endless is)))
