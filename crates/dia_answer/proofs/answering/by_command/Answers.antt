use Rattle.std.proofs.Common.{refl}
use Rattle.dia_book.specs.Dictionary.{plain_definition}
use Rattle.dia_answer.specs.declared.forms.Made.{Made}
use Rattle.dia_answer.proofs.Answers.{answered_by}
use Rattle.dia_answer.proofs.Attempts.{none_by, some_by}
use Rattle.dia_answer.proofs.answering.by_command.Goals as goal

pub returns-in_default-2-clause-tried : goal.returns-in_default-2-clause-tried
returns-in_default-2-clause-tried g c =
    none_by (g.B.Book.meaning c.args.book.now) c.args.contents.now c.args.form c.args.extent c.class_of.result c.in-Some.def (plain_definition c.def.result.now) c.deref.result.now c.class_of.ensures c.in-Some.ensures c.def.ensures
    c.deref.ensures.value (rw c.in_default-2.is at c.in_ok-bytes.ensures)

pub returns-clause-made : goal.returns-clause-made
returns-clause-made g c =
    let contents = c.args.contents.now in
    let made : Made = record { bytes = c.in-Some-2.bytes; form = c.args.form; fault = contents.fault } in
    let written = rw c.in-Some-2.is at c.in_ok-bytes.ensures in (
      answered_by (g.B.Book.meaning c.args.book.now) contents c.args.form c.args.extent made c.class_of.result c.in-Some.def (plain_definition c.def.result.now) c.deref.result.now (g.met.B.Book.sound c.args.book.now) refl refl c.requires
          c.class_of.ensures c.in-Some.ensures c.def.ensures c.deref.ensures.value written,
      refl,
    )

pub returns-clause-tried : goal.returns-clause-tried
returns-clause-tried g c =
    let contents = c.args.contents.now in
    let made : Made = record { bytes = c.in-Some-2.bytes; form = c.args.form; fault = contents.fault } in
    let written = rw c.in-Some-2.is at c.in_ok-bytes.ensures in
    some_by (g.B.Book.meaning c.args.book.now) contents c.args.form c.args.extent made c.class_of.result c.in-Some.def (plain_definition c.def.result.now) c.deref.result.now refl refl c.class_of.ensures c.in-Some.ensures c.def.ensures
    c.deref.ensures.value written
