use Rattle.std.proofs.Common.{◌≡◌, true, false, Some, refl, sym, ◌∙◌}
use Rattle.std.specs.Prelude.{slice_get}
use Rattle.dia_book.specs.Dictionary.{PlainDefinition, definitions}
use Rattle.dia_valid.proofs.Members.{there_is, at_some}
use Rattle.dia_breaking.specs.Headers.{head_in}
use Rattle.dia_breaking.specs.Upgrades.{sides_of}
use Rattle.dia_breaking.proofs.CorrectedLines.{corrected_at}
use Rattle.dia_breaking.proofs.OnceCorrected.{none_corrected}
use Rattle.dia_breaking.proofs.upgrade.Upgrade.corrected_header.Goals as goal

pub returns-then-selects-clause-some : goal.returns-then-selects-clause-some
returns-then-selects-clause-some g c =
    let s = sides_of c.args.self.now in
    let def = c.in_ok-def.def in
    let x = there_is (definitions s.sender) c.args.command c.requires in
    let y = there_is (definitions s.receiver) def c.in_ok-def.ensures.within in
    corrected_at s.sender s.receiver s.sends s.unknown c.args.command c.args.place c.in-Command.app c.in-Command.read_as def c.in-Command.is_recorded c.in-Command.proxiable x.0 y.0
    c.in_ok-own.own c.in_ok-other.other c.args.header.now _ c.in-Command.is x.1
    (sym (at_some (λ (d : PlainDefinition). Some c.in_ok-own.own ≡ head_in d.head) (slice_get (definitions s.sender) c.args.command) x.0 c.in_ok-own.ensures x.1))
    (sym c.in_ok-def.ensures.selected) y.1
    (sym (at_some (λ (d : PlainDefinition). Some c.in_ok-other.other ≡ head_in d.head) (slice_get (definitions s.receiver) def) y.0 c.in_ok-other.ensures y.1))
    refl refl c.corrected_flags.ensures.others refl refl (c.selects.ensures.0 c.if-selects.true) c.corrected_flags.ensures.holds

pub returns-else-selects-clause-none : goal.returns-else-selects-clause-none
returns-else-selects-clause-none g c = λ none.
    let s = sides_of c.args.self.now in
    let def = c.in_ok-def.def in
    let x = there_is (definitions s.sender) c.args.command c.requires in
    let y = there_is (definitions s.receiver) def c.in_ok-def.ensures.within in
    none_corrected s.sender s.receiver s.sends s.unknown (g.met.A.Book.sound c.args.self.now.lengths.book.now) (g.met.B.Book.sound c.args.self.now.b.now) c.args.command c.args.place
    c.in-Command.app c.in-Command.read_as def c.corrected_flags.result c.in-Command.is_recorded c.in-Command.proxiable x.0 y.0 c.in_ok-own.own c.args.header.now c.in-Command.is x.1
    (sym (at_some (λ (d : PlainDefinition). Some c.in_ok-own.own ≡ head_in d.head) (slice_get (definitions s.sender) c.args.command) x.0 c.in_ok-own.ensures x.1))
    (sym c.in_ok-def.ensures.selected) y.1 c.corrected_flags.ensures.others
    (λ selects. absurd (let e : false ≡ true = sym c.if-selects.false ∙ c.selects.ensures.1 selects in cc))
