use Rattle.std.proofs.Common.{inl, inr, refl}
use Rattle.std.specs.Prelude.{string_bytes}
use Rattle.std.proofs.KnownBytes.{Appends-nil}
use Rattle.dia_io.specs.declared.Exit.TheVariants.{Bad}
use Rattle.dia_mask_text.specs.Outcome.{bad_name}
use Rattle.dia_mask_text.proofs.running.refuse_name.Goals as goal

pub returns-in_err-text-clause-front : goal.returns-in_err-text-clause-front
returns-in_err-text-clause-front g c = λ _. inr (Appends-nil (g.S.Sink.written c.args.sink.now))

pub returns-in_err-put_all-clause-front : goal.returns-in_err-put_all-clause-front
returns-in_err-put_all-clause-front g c = λ _.
    inl (string_bytes c.in_ok-text.text, Bad, bad_name c.args.bad.name.now c.args.bad.why c.requires.named c.in_ok-text.ensures refl, rw c.as_bytes.ensures.value at c.put_all.ensures.front)

pub returns-clause-put : goal.returns-clause-put
returns-clause-put g c =
    (string_bytes c.in_ok-text.text, bad_name c.args.bad.name.now c.args.bad.why c.requires.named c.in_ok-text.ensures refl, rw c.as_bytes.ensures.value at c.in_ok-put_all.ensures.ok)
