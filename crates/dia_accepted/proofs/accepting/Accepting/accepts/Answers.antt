use Rattle.std.proofs.Common.{ap, sym, ◌∙◌}
use Rattle.std.specs.Prelude.{◌||◌}
use Rattle.dia_accepted.specs.Words.{anywhere, counted}
use Rattle.dia_accepted.proofs.Sets.{accepted_by, line_marked}
use Rattle.dia_accepted.proofs.accepting.Accepting.accepts.Goals as goal

pub returns-then-own-clause-accepted : goal.returns-then-own-clause-accepted
returns-then-own-clause-accepted c = λ list recorded seen.
    let words = c.as_bytes-words.ensures.value in
    accepted_by list recorded c.args.words.now c.in_ok-counted.field-0.items c.in_ok-anywhere.field-0.items c.args.self.now.texts.entries c.mark_known.new.texts.entries c.in_ok-own.own c.in_ok-any.any
    c.in_ok-own.own (c.in_ok-counted.ensures ∙ ap counted words) (c.in_ok-anywhere.ensures ∙ ap anywhere words) seen.marks_are c.in_ok-own.ensures.marked c.in_ok-own.ensures.known c.in_ok-any.ensures.known
    (c.if-own.true ∙ sym (ap (λ b. b || c.in_ok-any.any) c.if-own.true))

pub returns-then-own-clause-come : goal.returns-then-own-clause-come
returns-then-own-clause-come c = λ list recorded t same seen.
    let words = c.as_bytes-words.ensures.value ∙ sym same in
    record {
      list_is = seen.list_is;
      marks_are = line_marked list recorded t c.in_ok-counted.field-0.items c.in_ok-anywhere.field-0.items c.args.self.now.texts.entries c.mark_known.new.texts.entries c.mark_known-2.new.texts.entries
          (c.in_ok-counted.ensures ∙ ap counted words) (c.in_ok-anywhere.ensures ∙ ap anywhere words) seen.marks_are c.in_ok-own.ensures.marked c.in_ok-any.ensures.marked;
    }

pub returns-else-own-clause-accepted : goal.returns-else-own-clause-accepted
returns-else-own-clause-accepted c = λ list recorded seen.
    let words = c.as_bytes-words.ensures.value in
    accepted_by list recorded c.args.words.now c.in_ok-counted.field-0.items c.in_ok-anywhere.field-0.items c.args.self.now.texts.entries c.mark_known.new.texts.entries c.in_ok-own.own c.in_ok-any.any
    c.in_ok-any.any (c.in_ok-counted.ensures ∙ ap counted words) (c.in_ok-anywhere.ensures ∙ ap anywhere words) seen.marks_are c.in_ok-own.ensures.marked c.in_ok-own.ensures.known c.in_ok-any.ensures.known
    (sym (ap (λ b. b || c.in_ok-any.any) c.if-own.false))

pub returns-else-own-clause-come : goal.returns-else-own-clause-come
returns-else-own-clause-come c = λ list recorded t same seen.
    let words = c.as_bytes-words.ensures.value ∙ sym same in
    record {
      list_is = seen.list_is;
      marks_are = line_marked list recorded t c.in_ok-counted.field-0.items c.in_ok-anywhere.field-0.items c.args.self.now.texts.entries c.mark_known.new.texts.entries c.mark_known-2.new.texts.entries
          (c.in_ok-counted.ensures ∙ ap counted words) (c.in_ok-anywhere.ensures ∙ ap anywhere words) seen.marks_are c.in_ok-own.ensures.marked c.in_ok-any.ensures.marked;
    }
