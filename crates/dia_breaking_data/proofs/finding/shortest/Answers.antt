use Rattle.std.proofs.Common.{◌∙◌}
use Rattle.dia_data.specs.Plain.{plain_format, Grouped}
use Rattle.dia_breaking_data.specs.Kinds.{Level, shown}
use Rattle.dia_breaking_data.proofs.Found.{none_found, shortest_leaf, some_found}
use Rattle.dia_breaking_data.proofs.TheData.{found_witness}
use Rattle.dia_breaking_data.proofs.finding.shortest.Goals as goal

pub returns-clause-exactly : goal.returns-clause-exactly
returns-clause-exactly c = c.data_of.ensures ∙ c.kind_of.ensures.least

pub returns-clause-some : goal.returns-clause-some
returns-clause-some c =
    let f = plain_format c.args.f.now in
    let k = shown c.kind_of.result in
    shortest_leaf f c.data_of.result
    (some_found f Grouped k Level c.data_of.result c.kind_of.ensures.same (λ bytes. (λ h. h, λ h. h)) (found_witness k c.data_of.result c.kind_of.ensures.apart c.data_of.ensures))

pub returns-clause-none : goal.returns-clause-none
returns-clause-none c =
    let f = plain_format c.args.f.now in
    let k = shown c.kind_of.result in
    none_found f Grouped k Level c.data_of.result c.kind_of.ensures.same (λ bytes. (λ h. h, λ h. h)) (found_witness k c.data_of.result c.kind_of.ensures.apart c.data_of.ensures)
