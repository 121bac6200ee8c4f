use Rattle.dia_upgrades_json.proofs.ending.push_place.Goals as goal

pub returns : goal.returns
returns c = rw (c.place_of-place.ensures.line, c.place_of-place.ensures.column) at c.push_line_and_column.ensures
