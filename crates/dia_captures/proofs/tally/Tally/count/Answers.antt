use Rattle.std.proofs.Common.{Bool, ◌+◌, ap, ◌∙◌}
use Rattle.std.specs.Prelude.{if◌then◌else◌}
use Rattle.dia_captures.specs.Counts.{counted}
use Rattle.dia_captures.proofs.Tallies.{HasCounted-more}
use Rattle.dia_captures.proofs.tally.Tally.count.Goals as goal

pub returns : goal.returns
returns c = λ items h.
    let yes = c.more_if-self.ensures ∙ ap (λ (b : Bool). if b then counted (c.args.self.now.yes + 1) else c.args.self.now.yes) c.is_yes.ensures in
    HasCounted-more c.args.self.now _ items c.args.place c.unwrap_or.result c.args.exit c.args.flaw c.and-self.ensures c.saturating_add-self.ensures yes c.unwrap_or.ensures c.see.ensures h
