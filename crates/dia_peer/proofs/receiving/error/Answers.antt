use Rattle.std.proofs.Common.{ℕ, true, false, subst}
use Rattle.dia_peer.specs.Messages.{IsGood}
use Rattle.dia_peer.proofs.ValidMessageAvps.{reads, error_good, third}
use Rattle.dia_peer.proofs.receiving.error.Goals as goal

pub returns-then-header-eq-CAPABILITIES_EXCHANGE : goal.returns-then-header-eq-CAPABILITIES_EXCHANGE
returns-then-header-eq-CAPABILITIES_EXCHANGE c b head clear set valid =
    let h = c.args.header.now in let r = reads h b head valid in (
      r.avps,
      subst (λ (n : ℕ). IsGood b n false true c.ids_of-ids.result r.avps) c.if-header-eq-CAPABILITIES_EXCHANGE.true (error_good h b c.ids_of-ids.result r valid clear set c.ids_of-ids.ensures),
    )

pub returns-then-header-eq-DEVICE_WATCHDOG : goal.returns-then-header-eq-DEVICE_WATCHDOG
returns-then-header-eq-DEVICE_WATCHDOG c b head clear set valid =
    let h = c.args.header.now in let r = reads h b head valid in (
      r.avps,
      subst (λ (n : ℕ). IsGood b n false true c.ids_of-ids.result r.avps) c.if-header-eq-DEVICE_WATCHDOG.true (error_good h b c.ids_of-ids.result r valid clear set c.ids_of-ids.ensures),
    )

pub returns : goal.returns
returns c b head clear set valid =
    let h = c.args.header.now in let r = reads h b head valid in (
      c.ids_of-ids.result,
      r.avps,
      subst (λ (n : ℕ). IsGood b n false true c.ids_of-ids.result r.avps) (third h.code c.requires c.if-header-eq-CAPABILITIES_EXCHANGE.false c.if-header-eq-DEVICE_WATCHDOG.false)
          (error_good h b c.ids_of-ids.result r valid clear set c.ids_of-ids.ensures),
    )
