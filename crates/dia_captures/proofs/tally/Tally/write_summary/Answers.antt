use Rattle.std.proofs.Common.{List, ℕ, ◌++◌, ap, ◌∙◌}
use Rattle.std.specs.Prelude.{string_bytes}
use Rattle.std.specs.List.{flat_map}
use Rattle.dia_captures.specs.declared.reasons.Met.{Met}
use Rattle.dia_captures.specs.Summaries.{first_line, met_line}
use Rattle.dia_captures.proofs.Summed.{summary_of}
use Rattle.dia_captures.proofs.tally.Tally.write_summary.Goals as goal

pub returns : goal.returns
returns g c = λ items h live.
    let first = c.in_ok-push_first_line.ensures ∙ ap (λ (t : List ℕ). t ++ first_line c.args.lines c.args.self.yes c.args.self.all) c.new-text.ensures.bytes in
    let mets = c.in_ok-push_mets.ensures
    ∙ ap (λ (ms : List Met). string_bytes c.push_first_line.new.text ++ flat_map (met_line (g.B.Book.meaning c.args.book.now) c.args.lines) ms) c.as_slice.ensures.value in
    summary_of (g.B.Book.meaning c.args.book.now) c.args.lines c.args.self items c.put_in_order.new.mets.items _ _ _ h live c.in_ok-put_in_order.ensures first mets
    c.in_ok-push_others.ensures
