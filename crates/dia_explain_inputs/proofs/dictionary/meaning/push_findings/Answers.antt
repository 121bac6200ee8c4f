use Rattle.std.proofs.Common.{ℕ, List, Option, subst}
use Rattle.std.specs.Prelude.{IfSome}
use Rattle.dia_dict.specs.declared.findings.Finding.{Finding}
use Rattle.dia_explain_places.specs.Parts.{part_place}
use Rattle.dia_explain_places.specs.Places.{start_text}
use Rattle.dia_explain_inputs.specs.Beginnings.{BeginsWith}
use Rattle.dia_explain_inputs.proofs.dictionary.meaning.push_findings.Goals as goal

pub returns : goal.returns
returns c =
    let parts = c.args.parts.now in
    let name = parts.name.now in
    let text = parts.text.now in
    let old = c.args.note.now in
    let new = c.push_made.new.note in
    let in_text : BeginsWith (start_text name text c.at.result) old new =
    subst (λ (bytes : List ℕ). BeginsWith (start_text name bytes c.at.result) old new) c.as_bytes.ensures.value c.push_made.ensures in
    let at_first : BeginsWith (start_text name text (part_place text parts.source.now c.in-Some.first.now.part)) old new =
    subst (λ (at : Option ℕ). BeginsWith (start_text name text at) old new) c.at.ensures in_text in
    subst (λ (found : Option Finding). IfSome found (λ first. BeginsWith (start_text name text (part_place text parts.source.now first.part)) old new))
    c.in-Some.ensures.value at_first
