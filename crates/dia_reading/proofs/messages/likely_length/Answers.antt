use Rattle.std.proofs.Common.{ℕ, List, ◌-◌, drop, sym, subst, arith}
use Rattle.std.proofs.lemmas.List.{take_rest}
use Rattle.dia_reading.specs.Messages.{BeginsAvp}
use Rattle.dia_reading.proofs.Likely.{message_of, no_message, says}
use Rattle.dia_reading.proofs.messages.likely_length.Goals.{then-length-lt-LEAST_LENGTH-via-then-length-lt-LEAST_LENGTH, then-length-lt-LEAST_LENGTH-via-else-length-lt-LEAST_LENGTH+then-length-gt-MOST_LENGTH, then-length-lt-LEAST_LENGTH-via-else-length-lt-LEAST_LENGTH+else-length-gt-MOST_LENGTH+then-not-are_command_flags}
use Rattle.dia_reading.proofs.messages.likely_length.Goals as goal

pub returns-in_default-clause-none : goal.returns-in_default-clause-none
returns-in_default-clause-none c = λ n like.
    no_message c.args.bytes.now n c.read_header.result c.in_default.not-Ok c.read_header.ensures.short c.read_header.ensures.version c.read_header.ensures.length_fault
    (message_of c.args.bytes.now n like)

pub returns-then-length-lt-LEAST_LENGTH-clause-none : goal.returns-then-length-lt-LEAST_LENGTH-clause-none
returns-then-length-lt-LEAST_LENGTH-clause-none c = λ n like.
    let s = says c.args.bytes.now c.in-Ok.header c.in-Ok.length n c.in-Ok.ensures.head like in
    elim c.then-length-lt-LEAST_LENGTH.branch [
      | then-length-lt-LEAST_LENGTH-via-then-length-lt-LEAST_LENGTH w ↦ absurd (omega (arith, s.least))
      | then-length-lt-LEAST_LENGTH-via-else-length-lt-LEAST_LENGTH+then-length-gt-MOST_LENGTH w ↦ absurd (omega (arith, s.most))
      | then-length-lt-LEAST_LENGTH-via-else-length-lt-LEAST_LENGTH+else-length-gt-MOST_LENGTH+then-not-are_command_flags w ↦
          let yes = w.are_command_flags.ensures.1 s.flags in absurd cc
    ]

pub returns-else-begins_avp-clause-none : goal.returns-else-begins_avp-clause-none
returns-else-begins_avp-clause-none c = λ n like.
    let s = says c.args.bytes.now c.in-Ok.header c.in-Ok.length n c.in-Ok.ensures.head like in
    let yes = c.begins_avp.ensures.1 (subst (λ (f : List ℕ). BeginsAvp f (c.in-Ok.length - 20)) (sym (take_rest c.args.bytes.now 20)) s.avp) in absurd cc
