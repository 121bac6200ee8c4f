use Rattle.std.specs.Prelude.{None, Some, string_bytes}
use Rattle.dia_examples_text.proofs.Answers.{none_begun, none_put}
use Rattle.dia_examples_text.proofs.command.examples_of.Goals as goal

pub returns-then-commands-eq0-clause-answered : goal.returns-then-commands-eq0-clause-answered
returns-then-commands-eq0-clause-answered g c =
    none_put c.args.form c.args.unknown (g.B.Book.meaning c.args.book.now) None c.refuse.result (g.S.Sink.written c.args.sink.now) (g.S.Sink.written c.refuse.new.sink)
    c.no_commands_text.result.now c.no_commands_text.ensures c.refuse.ensures.put

pub returns-then-commands-eq0-clause-begun : goal.returns-then-commands-eq0-clause-begun
returns-then-commands-eq0-clause-begun g c =
    none_begun c.args.form c.args.unknown (g.B.Book.meaning c.args.book.now) None c.refuse.result (g.S.Sink.written c.args.sink.now) (g.S.Sink.written c.refuse.new.sink)
    c.no_commands_text.result.now c.no_commands_text.ensures c.refuse.ensures.begun

pub returns-in_ok-text-in-Err-clause-answered : goal.returns-in_ok-text-in-Err-clause-answered
returns-in_ok-text-in-Err-clause-answered g c =
    none_put c.args.form c.args.unknown (g.B.Book.meaning c.args.book.now) (Some c.in-Err.name.now) c.refuse-in-Err.result (g.S.Sink.written c.args.sink.now) (g.S.Sink.written c.refuse-in-Err.new.sink)
    (string_bytes c.in_ok-text-in-Err.text) c.in_ok-text-in-Err.ensures (rw c.as_str.ensures.value at c.refuse-in-Err.ensures.put)

pub returns-in_ok-text-in-Err-clause-begun : goal.returns-in_ok-text-in-Err-clause-begun
returns-in_ok-text-in-Err-clause-begun g c =
    none_begun c.args.form c.args.unknown (g.B.Book.meaning c.args.book.now) (Some c.in-Err.name.now) c.refuse-in-Err.result (g.S.Sink.written c.args.sink.now) (g.S.Sink.written c.refuse-in-Err.new.sink)
    (string_bytes c.in_ok-text-in-Err.text) c.in_ok-text-in-Err.ensures (rw c.as_str.ensures.value at c.refuse-in-Err.ensures.begun)
