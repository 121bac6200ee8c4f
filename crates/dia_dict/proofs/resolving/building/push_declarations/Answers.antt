use Rattle.std.proofs.Common.{◌++◌, List, map, ap, ◌∙◌}
use Rattle.std.proofs.lemmas.List.{take_all}
use Rattle.dia_ccf.specs.declared.source.Decl.{Decl}
use Rattle.dia_ccf.specs.Plain.{plain_source, plain_decl}
use Rattle.dia_dict.specs.PlainMeaning.{entries_of}
use Rattle.dia_dict.specs.Resolution.{declared_entry}
use Rattle.dia_dict.proofs.Made.{added-more}
use Rattle.dia_dict.proofs.resolving.building.push_declarations.Goals as goal

pub loop-decl-preserved : goal.loop-decl-preserved
loop-decl-preserved c =
    added-more (declared_entry (plain_source c.args.names.now.source.now)) plain_decl c.args.decls.now c.loop-decl.decl-index c.decl-item.result
    c.loop-decl-test.true c.decl-item.is _ _ _ c.loop-decl.invariant c.in_ok-push_declared.ensures

pub returns : goal.returns
returns c =
    let old = c.args.entries.now in
    c.loop-decl.invariant ∙ ap (λ (ds : List Decl). entries_of old.rows.items old.groups.items ++ map (declared_entry (plain_source c.args.names.now.source.now)) (map plain_decl ds))
    (take_all c.loop-decl.decl-index c.args.decls.now c.loop-decl-test.false)
