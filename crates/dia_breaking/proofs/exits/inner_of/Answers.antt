use Rattle.std.proofs.Common.{rules}
use Rattle.dia_breaking.specs.Sender.{costs_of, sender_in}
use Rattle.dia_breaking.proofs.FoundExits.{groups_of, inner_found}
use Rattle.dia_breaking.proofs.Outlooks.{rules_of_group, has_level_lines}
use Rattle.dia_breaking.proofs.exits.inner_of.Goals as goal

pub returns-clause-levels : goal.returns-clause-levels
returns-clause-levels g c =
    let da = sender_in c.args.lengths.now in
    let db = g.B.Book.meaning c.args.b.now in
    has_level_lines da db (costs_of c.args.lengths.now) c.args.key c.in-Some.a_def c.in-Some-group_of.b_def
    c.in_ok-lines_between.field-0.items (rules_of_group da c.args.key c.in-Some.a_def c.group_of.result c.in-Some.is c.group_of.ensures.definition)
    (rules_of_group db c.args.key c.in-Some-group_of.b_def c.group_of-2.result c.in-Some-group_of.is c.group_of-2.ensures.definition) c.in_ok-lines_between.ensures

pub returns-clause-exact : goal.returns-clause-exact
returns-clause-exact g c =
    let da = sender_in c.args.lengths.now in
    let db = g.B.Book.meaning c.args.b.now in (
      groups_of da db c.args.key c.group_of.result c.group_of-2.result c.in-Some.a_def c.in-Some-group_of.b_def c.in-Some.is c.in-Some-group_of.is c.group_of.ensures.group c.group_of-2.ensures.group,
      inner_found da c.args.recording.now (costs_of c.args.lengths.now) c.args.key c.in-Some.a_def _
          (rules_of_group da c.args.key c.in-Some.a_def c.group_of.result c.in-Some.is c.group_of.ensures.definition) (search rules) (search rules),
    )
