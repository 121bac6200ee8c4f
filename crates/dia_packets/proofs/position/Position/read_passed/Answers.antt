use Rattle.std.proofs.Common.{◌+◌, ◌∙◌, ℕ, refl, sym, ap, arith}
use Rattle.std.proofs.lemmas.List.{take_rest}
use Rattle.dia_packets.specs.declared.fault.Cause.TheVariants.{Length}
use Rattle.dia_packets.specs.Fields.{counted}
use Rattle.dia_packets.proofs.BlocksUnderWay.{Reads-passed_end, Stops-passed}
use Rattle.dia_packets.proofs.UnderWayRead.{refused_with}
use Rattle.dia_packets.proofs.position.Position.read_passed.Goals as goal

pub returns-then-u32_at-passed-clause-stops : goal.returns-then-u32_at-passed-clause-stops
returns-then-u32_at-passed-clause-stops c =
    refused_with c.refused.result Length Length c.args.self.now.at _ c.refused.ensures refl
    (λ packets. Stops-passed c.args.passed c.args.self.now packets c.args.bytes.now c.requires (omega arith) (omega arith) (λ e. c.if-u32_at-passed.true (c.u32_at.ensures ∙ e)))

pub returns-clause-reads : goal.returns-clause-reads
returns-clause-reads c = λ packets.
    Reads-passed_end c.args.passed c.args.self.now _ packets c.args.bytes.now _ c.requires (omega arith) (omega arith) (sym c.u32_at.ensures ∙ c.if-u32_at-passed.false) refl
    (c.saturating_add-self.ensures ∙ ap (λ (k : ℕ). counted (c.args.self.now.at + k)) c.from.ensures) refl refl (take_rest c.args.bytes.now 4)
