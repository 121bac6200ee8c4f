use Rattle.dia_breaking.proofs.upgrade.Upgrade.refuses_level.Goals as goal

pub returns : goal.returns
returns g c = (c.in_ok-lines.lines.items, c.in_ok-lines.ensures, c.has_lines.ensures)
