use Rattle.std.specs.Prelude.{◌++◌, codes}
use Rattle.dia_explain_places.specs.Places.{place_text}
use Rattle.dia_explain_inputs.proofs.Beginnings.{begins_note, begins_more}
use Rattle.dia_explain_inputs.proofs.notes.push_noted.Goals as goal

pub returns-in-Some : goal.returns-in-Some
returns-in-Some c =
    let name = c.args.input.now.name.now in
    let text = c.args.input.now.text.now in
    let old = c.args.note.now in
    let mid = c.push_recorded.new.note in
    begins_more (place_text name text c.args.at) (codes "hint: " ++ c.in-Some.hint.now ++ codes "\n") old mid c.put_hint.new.self
    (begins_note name text c.args.recorded.now c.args.at old mid c.push_recorded.ensures) c.put_hint.ensures
