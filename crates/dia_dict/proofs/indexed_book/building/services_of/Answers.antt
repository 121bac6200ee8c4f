use Rattle.std.proofs.Common.{ℕ, map, ap, ◌∙◌}
use Rattle.std.specs.Prelude.{◌==◌}
use Rattle.std.specs.List.{list_any}
use Rattle.std.proofs.lemmas.List.{take_all}
use Rattle.dia_book.specs.declared.Definition.{Definition}
use Rattle.dia_dict.specs.Selectors.{service_of}
use Rattle.dia_dict.proofs.Indexing.Selectors.{served-more}
use Rattle.dia_dict.proofs.indexed_book.building.services_of.Goals as goal

pub loop-command-preserved : goal.loop-command-preserved
loop-command-preserved c =
    served-more c.args.commands.now c.loop-command.command-index c.command-item.result c.loop-command-test.true c.command-item.is
    c.loop-command.services.keys c.insert.new.self.keys c.service_of.result c.service_of.ensures c.loop-command.invariant
    (λ n. c.in_ok-insert.ensures.updates.0 n)

pub returns : goal.returns
returns c = λ n.
    c.loop-command.invariant n ∙ ap (λ ds. list_any (λ (m : ℕ). n == m) (map (λ (d : Definition). service_of d.head) ds))
    (take_all c.loop-command.command-index c.args.commands.now c.loop-command-test.false)
