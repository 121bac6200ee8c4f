use Rattle.std.proofs.Common.{◌≡◌, ◌+◌, ◌-◌, ℕ, take, drop, true, ap, arith, rules}
use Rattle.std.proofs.lemmas.Grind.{common_steps}
use Rattle.dia_packets.specs.Blocks.{fits}
use Rattle.dia_packets.proofs.BlocksRead.{says_packet}
use Rattle.dia_packets.proofs.sections.packet_in.Goals as goal

pub returns-clause-says : goal.returns-clause-says
returns-clause-says c = λ n.
    let fields = c.fields_of-fields.result in
    let fit : fits c.args.size fields ≡ true = first_of (search rules, cc (c.fits.ensures, c.if-not-fits.false), grind (arith, common_steps)) in
    let size : (fields.start + fields.kept) - fields.start ≡ fields.kept = omega arith in
    says_packet c.args.kind c.args.order c.args.size c.args.interfaces.now c.args.bytes.now fields c.in-Some.interface n c.time_at.result _ c.fields_of-fields.ensures fit c.in-Some.ensures
    c.time_at.ensures (ap (λ (k : ℕ). take k (drop fields.start c.args.bytes.now)) size)
