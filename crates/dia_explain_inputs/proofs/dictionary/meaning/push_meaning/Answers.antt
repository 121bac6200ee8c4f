use Rattle.std.proofs.Common.{List, ap, ◌∙◌, subst, slice_get}
use Rattle.std.specs.Prelude.{IfSome}
use Rattle.dia_ccf.specs.Plain.{plain_source}
use Rattle.dia_ccf.specs.declared.source.Source.{Source}
use Rattle.dia_dict.specs.declared.findings.Finding.{Finding}
use Rattle.dia_dict.specs.Resolution.{all_findings}
use Rattle.dia_explain_places.specs.Parts.{part_place}
use Rattle.dia_explain_places.specs.Places.{start_text}
use Rattle.dia_explain_inputs.specs.Beginnings.{BeginsWith}
use Rattle.dia_explain_inputs.proofs.Beginnings.{records_found, records_none}
use Rattle.dia_explain_inputs.proofs.dictionary.meaning.push_meaning.Goals as goal

pub returns-in-Ok : goal.returns-in-Ok
returns-in-Ok c =
    let name = c.args.name.now in
    let text = c.args.text.now in
    let old = c.args.note.now in
    let new = c.push_findings.new.note in
    records_found name text c.args.wrong.now c.in-Ok.findings.items old new
    (c.in-Ok.ensures ∙ ap (λ (s : Source). all_findings (plain_source s)) c.deref-source.ensures)
    (subst (λ (s : Source). IfSome (slice_get c.in-Ok.findings.items 0) (λ f. BeginsWith (start_text name text (part_place text s f.part)) old new)) c.deref-source.ensures
    (subst (λ (fs : List Finding). IfSome (slice_get fs 0) (λ f. BeginsWith (start_text name text (part_place text c.deref-source.result.now f.part)) old new))
    c.deref.ensures.value c.push_findings.ensures))

pub returns-in-Err : goal.returns-in-Err
returns-in-Err c = records_none c.args.name.now c.args.text.now c.args.wrong.now c.args.note.now c.keep.new.self c.keep.ensures.refused
