use Rattle.std.proofs.Common.{◌↔◌, ℕ, false, sym, subst}
use Rattle.dia_wire.specs.Wire.{SpellsAll}
use Rattle.dia_peer.specs.Core.{Pair}
use Rattle.dia_peer.specs.Messages.{IsGood}
use Rattle.dia_peer.specs.Incoming.{Has, Records, SaidBy}
use Rattle.dia_peer.proofs.ValidMessageAvps.{reads, answer_good, third}
use Rattle.dia_peer.proofs.RecordedApplications.{rest_of, advertised, has_result}
use Rattle.dia_peer.proofs.ResultCode.{cea_placed, cea_has_result}
use Rattle.dia_peer.proofs.receiving.answer.Goals as goal

pub returns-then-header-eq-DEVICE_WATCHDOG : goal.returns-then-header-eq-DEVICE_WATCHDOG
returns-then-header-eq-DEVICE_WATCHDOG c =
    let h = c.args.header.now in let b = c.args.bytes.now in let r = reads h b c.requires.head c.requires.valid in (
      r.avps,
      subst (λ (n : ℕ). IsGood b n false false c.ids_of-ids.result r.avps) c.if-header-eq-DEVICE_WATCHDOG.true
          (answer_good h b c.ids_of-ids.result r c.requires.valid c.requires.clear c.ids_of-ids.ensures),
    )

pub returns : goal.returns
returns c =
    let h = c.args.header.now in let b = c.args.bytes.now in let r = reads h b c.requires.head c.requires.valid in (
      r.avps,
      subst (λ (n : ℕ). IsGood b n false false c.ids_of-ids.result r.avps) (third h.code c.requires.code c.if-header-eq-CAPABILITIES_EXCHANGE.false c.if-header-eq-DEVICE_WATCHDOG.false)
          (answer_good h b c.ids_of-ids.result r c.requires.valid c.requires.clear c.ids_of-ids.ensures),
    )

pub returns-then-header-eq-CAPABILITIES_EXCHANGE : goal.returns-then-header-eq-CAPABILITIES_EXCHANGE
returns-then-header-eq-CAPABILITIES_EXCHANGE c =
    let h = c.args.header.now in let b = c.args.bytes.now in let r = reads h b c.requires.head c.requires.valid in
    let good = answer_good h b c.ids_of-ids.result r c.requires.valid c.requires.clear c.ids_of-ids.ensures in
    let body = subst (SpellsAll r.avps) (sym (rest_of b)) r.body in
    let named : (p : Pair) → Has c.in_ok-named.named p ↔ SaidBy Records r.avps p = c.in_ok-named.ensures.recorded r.avps body r.readable in (
      r.avps,
      subst (λ (n : ℕ). IsGood b n false false c.ids_of-ids.result r.avps) c.if-header-eq-CAPABILITIES_EXCHANGE.true good,
      has_result r.avps c.in-Some.result_code (c.in-Some.ensures r.avps body r.coded),
      advertised c.in_ok-named.named r.avps named c.in_ok-named.ensures.ordered,
    )

pub unreachable-requires : goal.unreachable-requires
unreachable-requires c =
    let h = c.args.header.now in let b = c.args.bytes.now in let r = reads h b c.requires.head c.requires.valid in
    let (n, s) = cea_has_result r.avps (cea_placed h r.avps b r.message c.requires.valid c.if-header-eq-CAPABILITIES_EXCHANGE.true c.requires.clear) in
    c.in_default.ensures r.avps (subst (SpellsAll r.avps) (sym (rest_of b)) r.body) r.coded n s
