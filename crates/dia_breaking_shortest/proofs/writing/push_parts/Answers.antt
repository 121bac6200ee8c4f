use Rattle.std.proofs.Common.{sym}
use Rattle.std.proofs.lemmas.List.{append-nil}
use Rattle.dia_breaking_levels.specs.declared.line.Part.{Part}
use Rattle.dia_breaking_shortest.proofs.WaitingAvps.{waits_all, waits_more}
use Rattle.dia_breaking_shortest.proofs.writing.push_parts.Goals as goal

pub loop-part-init : goal.loop-part-init
loop-part-init c = sym (append-nil c.args.waiting.now.items)

pub loop-part-preserved : goal.loop-part-preserved
loop-part-preserved c =
    let none : Part = record { key = record { code = 0; vendor = 0 }; count = 0 } in
    waits_more c.args.levels c.args.waiting.now.items c.loop-part.waiting.items c.push.new.self.items c.args.parts.now c.loop-part.part-index none c.loop-part-test.true c.loop-part.invariant
    c.in_ok-push.ensures.items

pub returns : goal.returns
returns c = waits_all c.args.levels c.args.waiting.now.items c.loop-part.waiting.items c.args.parts.now c.loop-part.part-index c.loop-part-test.false c.loop-part.invariant
