use Rattle.std.proofs.Common.{ℕ, List, Some, ap, cond, ◌∙◌, arith}
use Rattle.std.specs.HashMap.{get}
use Rattle.std.specs.Map.{lookup}
use Rattle.dia_book.specs.Dictionary.{PlainDefinition, plain_definition}
use Rattle.dia_valid.proofs.SelectedCommands.{command_at}
use Rattle.dia_differences.specs.Headers.{messages}
use Rattle.dia_differences.specs.Partners.{same_messages}
use Rattle.dia_differences.proofs.CommandMessages.{Messages, messages_decides}
use Rattle.dia_differences.proofs.FoundKeys.{found_all, found_more, found_none}
use Rattle.dia_differences.proofs.Pairing.{distinct_messages}
use Rattle.dia_differences.proofs.partners.all_messages.Goals as goal

pub loop-index-init : goal.loop-index-init
loop-index-init g c =
    let d = g.B.Book.meaning c.args.book.now in
    found_none (λ (x : PlainDefinition). messages x.head) same_messages messages_decides d.commands (distinct_messages d (g.met.B.Book.sound c.args.book.now)) (get same_messages c.new-found.result)
    (λ q. ap (λ (es : List (Messages × ℕ)). lookup (same_messages q) es) c.new-found.ensures.empty)

pub loop-index-preserved : goal.loop-index-preserved
loop-index-preserved g c =
    let d = g.B.Book.meaning c.args.book.now in
    let n = c.loop-index.index in
    let x = plain_definition c.def.result.now in
    found_more (λ (y : PlainDefinition). messages y.head) same_messages messages_decides d.commands (distinct_messages d (g.met.B.Book.sound c.args.book.now)) (get same_messages c.loop-index.found) (get same_messages c.insert.new.self) n x
    (command_at d n c.command_at.result x c.command_at.ensures c.def.ensures)
    (λ q. c.in_ok-insert.ensures.updates.0 q ∙ ap (λ (k : Messages). cond (same_messages k q) (Some n) (get same_messages c.loop-index.found q)) c.messages_of-messages.ensures) c.loop-index.invariant

pub returns : goal.returns
returns g c =
    let d = g.B.Book.meaning c.args.book.now in
    found_all (λ (x : PlainDefinition). messages x.head) same_messages messages_decides d.commands (distinct_messages d (g.met.B.Book.sound c.args.book.now)) (get same_messages c.loop-index.found) c.loop-index.index
    (omega (arith, c.loop-index-test.false, c.commands-index-end.ensures)) c.loop-index.invariant
