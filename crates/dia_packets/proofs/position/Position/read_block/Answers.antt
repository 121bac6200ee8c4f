use Rattle.std.proofs.Common.{◌+◌, ◌-◌, ◌∙◌, ℕ, List, ap, subst, refl}
use Rattle.std.proofs.lemmas.List.{take_rest}
use Rattle.dia_packets.specs.declared.interfaces.Interface.{Interface as OneInterface}
use Rattle.dia_packets.specs.declared.sections.Front.{Front}
use Rattle.dia_packets.specs.Sections.{HasRoom, IsFront, IsRefusedBlock, SaysAs}
use Rattle.dia_packets.specs.Fields.{counted}
use Rattle.dia_packets.proofs.BlocksUnderWay.{Reads-block, Reads-begun, Stops-block}
use Rattle.dia_packets.proofs.UnderWayRead.{refused_with}
use Rattle.dia_packets.proofs.position.Position.read_block.Goals as goal

pub returns-in_ok-add-in-Ok-Whole-clause-reads : goal.returns-in_ok-add-in-Ok-Whole-clause-reads
returns-in_ok-add-in-Ok-Whole-clause-reads c =
    let old = c.args.self.now in
    let is = subst (λ (f : Front). IsFront c.args.order c.as_slice.result.now c.args.bytes.now f) c.in-Ok-Whole.field-0-is c.in-Ok-Whole.ensures.front in
    let says = subst (λ (i : List OneInterface). SaysAs c.in-Ok-Whole.head i c.args.bytes.now c.in-Ok-Whole.said) c.as_slice.ensures.value is.2 in
    Reads-block c.args.order old _ c.args.packets.now.items c.add.new.packets.items c.args.bytes.now _ c.in-Ok-Whole.head c.in-Ok-Whole.said c.requires is.0 is.1 says refl
    (c.saturating_add-self.ensures ∙ ap (λ (k : ℕ). counted (k + c.from.result)) c.in_ok-add-in-Ok-Whole.ensures.at
    ∙ ap (λ (k : ℕ). counted (c.args.self.now.at + k)) c.from.ensures)
    c.in_ok-add-in-Ok-Whole.ensures.number c.in_ok-add-in-Ok-Whole.ensures.interfaces c.in_ok-add-in-Ok-Whole.ensures.packets (take_rest c.args.bytes.now c.in-Ok-Whole.head.size)

pub returns-in-Ok-PassedOver-clause-reads : goal.returns-in-Ok-PassedOver-clause-reads
returns-in-Ok-PassedOver-clause-reads c =
    let is = subst (λ (f : Front). IsFront c.args.order c.as_slice.result.now c.args.bytes.now f) c.in-Ok-PassedOver.field-0-is c.in-Ok-PassedOver.ensures.front in
    let room = subst (λ (f : Front). HasRoom c.args.bytes.now f) c.in-Ok-PassedOver.field-0-is c.in-Ok-PassedOver.ensures.room in
    Reads-begun c.args.order c.args.self.now _ c.args.packets.now.items c.args.bytes.now _ c.in-Ok-PassedOver.head
    (record { order = c.args.order; size = c.in-Ok-PassedOver.head.size; left = c.in-Ok-PassedOver.head.size - 12 }) c.requires is.0 is.1 is.2 room.0 room.1 refl refl refl refl refl
    (take_rest c.args.bytes.now 8)

pub returns-in-Err-clause-stops : goal.returns-in-Err-clause-stops
returns-in-Err-clause-stops c =
    let why = subst (λ (i : List OneInterface). IsRefusedBlock c.args.order i c.args.bytes.now c.in-Err.cause) c.as_slice.ensures.value c.in-Err.ensures.refused in
    refused_with c.refused.result c.in-Err.cause c.in-Err.cause c.args.self.now.at _ c.refused.ensures refl
    (Stops-block c.args.order c.args.self.now c.args.packets.now.items c.args.bytes.now c.in-Err.cause c.requires why)
