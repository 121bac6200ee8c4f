use Rattle.dia_breaking_levels.specs.declared.line.Part.{Part}
use Rattle.dia_breaking_shortest.specs.Bytes.{parts_bytes, repeated}
use Rattle.dia_breaking.specs.Messages.{shortest_avp}
use Rattle.dia_breaking.specs.Upgrades.{sides_of, stock_of}
use Rattle.dia_breaking.proofs.Lists.{written_more}
use Rattle.std.proofs.Common.{List, ◌++◌, ap, ◌∙◌}
use Rattle.std.proofs.lemmas.List.{take_all}
use Rattle.dia_breaking.proofs.upgrade.Upgrade.push_parts.Goals as goal

pub loop-part-preserved : goal.loop-part-preserved
loop-part-preserved g c =
    let self = c.args.self.now in
    written_more (λ (part : Part). repeated part.count (shortest_avp (sides_of self) (stock_of self) part.key)) c.args.out.now.items c.loop-part.out.items _ c.args.parts.now
    c.loop-part.part-index _ c.loop-part-test.true c.in_ok-push_part.ensures c.loop-part.invariant

pub returns : goal.returns
returns g c =
    let self = c.args.self.now in
    c.loop-part.invariant
    ∙ ap (λ (parts : List Part). c.args.out.now.items ++ parts_bytes (shortest_avp (sides_of self) (stock_of self)) parts) (take_all c.loop-part.part-index c.args.parts.now c.loop-part-test.false)
