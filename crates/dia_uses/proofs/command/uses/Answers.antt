use Rattle.std.proofs.Common.{List, string_bytes, ap, ◌∙◌}
use Rattle.dia_places.specs.declared.graph.Reached.{Reached}
use Rattle.dia_places.specs.Records.{paths_of}
use Rattle.dia_uses.specs.Outcome.{all_lines}
use Rattle.dia_uses.proofs.Answers.{of_lines}
use Rattle.dia_uses.proofs.command.uses.Goals as goal

pub returns : goal.returns
returns g c =
    let d = g.B.Book.meaning c.args.book.now in
    of_lines c.args.json d c.args.keys.now (paths_of c.in_ok-reached.reached.items) (string_bytes c.in_ok-text.text) c.ended.result c.in_ok-reached.ensures.paths
    (c.in_ok-text.ensures ∙ ap (λ (rs : List Reached). all_lines c.args.json d (paths_of rs) c.args.keys.now) c.deref.ensures.value) c.ended.ensures
