use Rattle.std.proofs.Common.{◌≡◌, ℕ, List, Ok, Some, ap, subst, sym, ◌∙◌}
use Rattle.hex.specs.Hex.{decode_of}
use Rattle.dia_follow_text.specs.Entries.{PlainEntry, entry_of}
use Rattle.std.specs.Prelude.{string_bytes}
use Rattle.dia_streams.proofs.LinesUnderWay.{on_ok_map}
use Rattle.dia_follow.specs.declared.Line.{Line}
use Rattle.dia_follow.specs.Connections.{after}
use Rattle.dia_follow_text.specs.Judging.{IsJudgedAs}
use Rattle.dia_follow_text.specs.Outcome.{Captured}
use Rattle.dia_follow_text.proofs.UnderWay.{message_answered}
use Rattle.dia_follow_text.proofs.answering.answer_message.Goals as goal

pub returns : goal.returns
returns g c =
    let line : Line = record { number = c.args.number; time = c.entry.inside.time; bytes = c.args.bytes; seen = c.in_ok-seen.seen; judged = c.in_ok-said.said.judged } in
    let m : Captured = record { end = c.entry.inside.end; line = line; verdict = c.as_str-verdict.result.now } in
    on_ok_map c.advance.result
    (λ h. (
      m,
      λ words entry spells. record {
        digits = c.entry.inside.digits.now;
        entry = subst (λ (e : PlainEntry). entry_of words ≡ Ok (Some e)) (sym c.entry.view_is) entry;
        spells = subst (λ (digits : List ℕ). decode_of digits ≡ Ok c.args.bytes.now) (sym (ap (λ (e : PlainEntry). e.digits) c.entry.view_is)) spells;
        seen = c.in_ok-seen.ensures;
        judged = subst
            (λ v. IsJudgedAs (g.B.Book.meaning c.args.manner.now.book.now) c.args.manner.now.options.check c.args.bytes.now c.in_ok-seen.seen c.in_ok-said.said.judged v)
            (sym c.as_str-verdict.ensures.value) c.in_ok-said.ensures;
      },
      message_answered (g.B.Book.meaning c.args.manner.now.book.now) c.args.manner.now.options.json c.args.number c.args.state.now
          (record { connection = c.advance.new.self; counts = c.push_answer.new.state.counts; departs = c.push_answer.new.state.departs }) (string_bytes c.args.text.now)
          (string_bytes c.push_answer.new.text) m (h ∙ ap (λ k. after k c.entry.inside.end line) c.in_ok-push_answer.ensures.connection)
          c.in_ok-push_answer.ensures.departs c.in_ok-push_answer.ensures.text,
    ))
    c.advance.ensures
