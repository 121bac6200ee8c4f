use Rattle.std.proofs.Common.{None, refl, sym, subst}
use Rattle.std.proofs.lemmas.Result.{IfOk-weaker}
use Rattle.dia_peer.specs.declared.event.Event.{Event}
use Rattle.dia_peer.specs.Table.{Gets, Stops}
use Rattle.dia_peer.specs.Machine.{IsStep}
use Rattle.dia_peer.proofs.connection.Core.happens.Goals as goal

pub returns-in-Bytes-clause-ok : goal.returns-in-Bytes-clause-ok
returns-in-Bytes-clause-ok c =
    IfOk-weaker c.takes_bytes.result _ _
    (λ outputs h. subst (λ (e : Event). IsStep c.args.self.now e outputs.items c.takes_bytes.new.self) (sym c.in-Bytes.is) (Gets h.0, (h.0, h.1, refl), h.2, h.3)) c.takes_bytes.ensures.ok

pub returns-in-Stop-clause-ok : goal.returns-in-Stop-clause-ok
returns-in-Stop-clause-ok c =
    IfOk-weaker c.stops.result _ _
    (λ outputs h. subst (λ (e : Event). IsStep c.args.self.now e outputs.items c.stops.new.self) (sym c.in-Stop.is) (Stops c.in-Stop.cause, refl, h.0, (None, refl, h.1))) c.stops.ensures.ok
