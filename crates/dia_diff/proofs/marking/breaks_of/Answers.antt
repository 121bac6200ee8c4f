use Rattle.std.proofs.Common.{ap, ◌+◌, ◌∙◌, length}
use Rattle.dia_book.specs.Dictionary.{groups}
use Rattle.dia_breaking.specs.Upgrades.{sides_of}
use Rattle.dia_diff.proofs.FoundMarks.{found, valid_if_none}
use Rattle.dia_diff.proofs.marking.breaks_of.Goals as goal

pub returns-clause-found : goal.returns-clause-found
returns-clause-found g c =
    found (sides_of c.args.upgrade.now) c.breaks.result c.args.index c.command_at-command.result
    (c.command_at-command.ensures ∙ ap (λ book. length (groups (g.A.Book.meaning book)) + c.args.index) c.sender.ensures) c.breaks.ensures.command c.breaks.ensures.head c.breaks.ensures.lines c.breaks.ensures.meanings

pub returns-clause-valid : goal.returns-clause-valid
returns-clause-valid g c = valid_if_none (sides_of c.args.upgrade.now) c.breaks.result c.args.index c.command_at-command.result c.breaks.ensures.command c.breaks.ensures.all
