use Rattle.std.proofs.Common.{List, arith, refl, ◌∙◌, ℕ, Bool, map, ap}
use Rattle.std.specs.List.{filter_map, enumerate_from}
use Rattle.std.proofs.lemmas.List.{take_all}
use Rattle.dia_book.specs.Dictionary.{Dictionary, PlainDefinition, plain_definition}
use Rattle.dia_compat.specs.declared.reasons.Failing.TheVariants.{NotBeside}
use Rattle.dia_compat.specs.PairTests.{plain_names, is_ready}
use Rattle.dia_compat.specs.Failings.{unless}
use Rattle.dia_valid.proofs.SelectedCommands.{command_at}
use Rattle.dia_compat.proofs.PlacesOfCommands.{within}
use Rattle.dia_compat.proofs.ListsOfFailings.{numbered_more}
use Rattle.dia_compat.proofs.comparing.failing_heads.apart_from.Goals as goal

pub loop-index-preserved : goal.loop-index-preserved
loop-index-preserved g c =
    let d = g.B.Book.meaning c.second-b.result.now in
    let i = c.loop-index.index in
    let x = plain_definition c.def-other.result.now in
    let fails = λ (p : ℕ × PlainDefinition). unless (is_ready c.args.sides.now (map plain_names c.args.beside.now.keys) (plain_definition c.args.command.now) p.1) (NotBeside p.0) in
    numbered_more fails d.commands i x c.loop-index.all.items c.push_unless.new.all.items (unless c.is_ready-ready.result (NotBeside i))
    (command_at d i c.command_at.result x c.command_at.ensures c.def-other.ensures) (ap (λ (b : Bool). unless b (NotBeside i)) c.is_ready-ready.ensures)
    c.loop-index.invariant c.in_ok-push_unless.ensures

pub returns : goal.returns
returns g c =
    let d = g.B.Book.meaning c.second-b.result.now in
    let fails = λ (p : ℕ × PlainDefinition). unless (is_ready c.args.sides.now (map plain_names c.args.beside.now.keys) (plain_definition c.args.command.now) p.1) (NotBeside p.0) in
    c.loop-index.invariant ∙ ap (λ (cs : List PlainDefinition). filter_map fails (enumerate_from 0 cs))
    (take_all c.loop-index.index d.commands (omega (arith, c.loop-index-test.false, c.commands-index-end.ensures)) ∙ ap (λ (x : Dictionary). x.commands) c.second-b.ensures.meaning)

pub command_at-requires : goal.command_at-requires
command_at-requires g c = omega (arith, c.loop-index-test.true, c.commands-index-end.ensures)

pub def-other-requires : goal.def-other-requires
def-other-requires g c =
    let d = g.B.Book.meaning c.second-b.result.now in
    within d d c.command_at.result c.loop-index.index refl c.command_at.ensures (omega (arith, c.loop-index-test.true, c.commands-index-end.ensures))
