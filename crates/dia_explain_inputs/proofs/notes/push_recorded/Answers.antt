use Rattle.std.specs.Prelude.{◌++◌, codes}
use Rattle.dia_explain_places.specs.Places.{place_text, excerpt}
use Rattle.dia_explain_places.proofs.Notes.{gains_more}
use Rattle.dia_explain_inputs.proofs.notes.push_recorded.Goals as goal

pub returns : goal.returns
returns c =
    let text = c.args.input.now.text.now in
    let place = place_text c.args.input.now.name.now text c.args.at in
    let recorded = c.args.recorded.now in
    let old = c.args.note.now in
    let after_recorded = gains_more old c.put_place.new.self c.put.new.self place recorded c.put_place.ensures c.put.ensures in
    let after_line = gains_more old c.put.new.self c.put-2.new.self (place ++ recorded) (codes "\n") after_recorded c.put-2.ensures in
    gains_more old c.put-2.new.self c.put_excerpt.new.self (place ++ recorded ++ codes "\n") (excerpt text c.args.at) after_line c.put_excerpt.ensures
