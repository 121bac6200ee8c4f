use Rattle.std.proofs.Common.{inl, inr}
use Rattle.std.specs.Prelude.{string_bytes}
use Rattle.std.proofs.KnownBytes.{Appends-nil}
use Rattle.dia_mask_text.specs.Names.{lists}
use Rattle.dia_mask_text.proofs.Refused.{refused_dictionary}
use Rattle.dia_mask_text.proofs.running.refuse.Goals as goal

pub returns-in_err-answered-clause-front : goal.returns-in_err-answered-clause-front
returns-in_err-answered-clause-front g c = λ _. inr (Appends-nil (g.S.Sink.written c.args.sink.now))

pub returns-in_err-put_all-clause-front : goal.returns-in_err-put_all-clause-front
returns-in_err-put_all-clause-front g c = λ _.
    let a = c.in_ok-answered.answered in inl (
      string_bytes a.text,
      a.exit,
      refused_dictionary (lists c.args.options.now) c.args.dictionary.now c.args.refused a c.requires.records c.in_ok-answered.ensures.refused,
      rw c.as_bytes.ensures.value at c.put_all.ensures.front,
    )

pub returns-clause-put : goal.returns-clause-put
returns-clause-put g c =
    let a = c.in_ok-answered.answered in (
      string_bytes a.text,
      refused_dictionary (lists c.args.options.now) c.args.dictionary.now c.args.refused a c.requires.records c.in_ok-answered.ensures.refused,
      rw c.as_bytes.ensures.value at c.in_ok-put_all.ensures.ok,
    )
