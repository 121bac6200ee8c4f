use Rattle.std.proofs.Common.{◌↔◌, ℕ, true, false, refl, sym, subst}
use Rattle.dia_wire.specs.Wire.{SpellsAll}
use Rattle.dia_peer.specs.Core.{Pair}
use Rattle.dia_peer.specs.Messages.{IsGood}
use Rattle.dia_peer.specs.Incoming.{Has, Records, SaidBy}
use Rattle.dia_peer.proofs.ValidMessageAvps.{reads, request_good, third}
use Rattle.dia_peer.proofs.RecordedApplications.{rest_of, advertised}
use Rattle.dia_peer.proofs.receiving.request.Goals as goal

pub returns-then-header-eq-CAPABILITIES_EXCHANGE : goal.returns-then-header-eq-CAPABILITIES_EXCHANGE
returns-then-header-eq-CAPABILITIES_EXCHANGE c =
    let h = c.args.header.now in let b = c.args.bytes.now in let r = reads h b c.requires.head c.requires.valid in
    let good = request_good h b c.ids_of-ids.result r c.requires.valid c.requires.set c.ids_of-ids.ensures in
    let named : (p : Pair) → Has c.in_ok-named.named p ↔ SaidBy Records r.avps p = c.in_ok-named.ensures.recorded r.avps (subst (SpellsAll r.avps) (sym (rest_of b)) r.body) r.readable in
    (r.avps, subst (λ (n : ℕ). IsGood b n true false c.ids_of-ids.result r.avps) c.if-header-eq-CAPABILITIES_EXCHANGE.true good, refl, advertised c.in_ok-named.named r.avps named c.in_ok-named.ensures.ordered)

pub returns-then-header-eq-DEVICE_WATCHDOG : goal.returns-then-header-eq-DEVICE_WATCHDOG
returns-then-header-eq-DEVICE_WATCHDOG c =
    let h = c.args.header.now in let b = c.args.bytes.now in let r = reads h b c.requires.head c.requires.valid in (
      r.avps,
      subst (λ (n : ℕ). IsGood b n true false c.ids_of-ids.result r.avps) c.if-header-eq-DEVICE_WATCHDOG.true
          (request_good h b c.ids_of-ids.result r c.requires.valid c.requires.set c.ids_of-ids.ensures),
    )

pub returns : goal.returns
returns c =
    let h = c.args.header.now in let b = c.args.bytes.now in let r = reads h b c.requires.head c.requires.valid in (
      r.avps,
      subst (λ (n : ℕ). IsGood b n true false c.ids_of-ids.result r.avps) (third h.code c.requires.code c.if-header-eq-CAPABILITIES_EXCHANGE.false c.if-header-eq-DEVICE_WATCHDOG.false)
          (request_good h b c.ids_of-ids.result r c.requires.valid c.requires.set c.ids_of-ids.ensures),
    )
