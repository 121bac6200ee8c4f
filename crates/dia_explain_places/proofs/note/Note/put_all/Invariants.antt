use Rattle.std.proofs.Common.{take, flat_map}
use Rattle.dia_explain_places.specs.Notes.{Gains}
use Rattle.dia_explain_places.proofs.note.Note.put_all.Given as goal

abbrev pub invariant-loop-text : goal.invariant-loop-text
invariant-loop-text l = Gains l.initial.self l.self (flat_map (λ text. text.now) (take l.text-index l.texts))
