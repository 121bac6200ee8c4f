use Rattle.dia_upgrades_json.proofs.ending.push_in_line.Goals as goal

pub returns : goal.returns
returns c = rw (c.from.ensures, c.place_of-place.ensures.column, c.line_from.ensures.line, c.start_of_line.ensures.start) at c.push_line_and_column.ensures
