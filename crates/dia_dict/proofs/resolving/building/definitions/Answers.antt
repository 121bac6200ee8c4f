use Rattle.std.proofs.Common.{List, map, ap, ◌∙◌}
use Rattle.std.proofs.lemmas.List.{take_all}
use Rattle.dia_ccf.specs.declared.source.Def.{Def}
use Rattle.dia_ccf.specs.Plain.{plain_source, plain_def}
use Rattle.dia_book.specs.Dictionary.{plain_definition}
use Rattle.dia_dict.specs.Resolution.{definition_of}
use Rattle.dia_dict.proofs.Made.{viewed-more}
use Rattle.dia_dict.proofs.resolving.building.definitions.Goals as goal

pub loop-def-preserved : goal.loop-def-preserved
loop-def-preserved c =
    viewed-more (definition_of (plain_source c.args.names.now.source.now)) plain_def c.args.defs.now c.loop-def.def-index c.def-item.result c.loop-def-test.true c.def-item.is
    plain_definition _ _ c.in_ok-definition.field-0 c.loop-def.invariant c.in_ok-definition.ensures c.in_ok-push.ensures.items

pub returns : goal.returns
returns c =
    c.loop-def.invariant ∙ ap (λ (ds : List Def). map (definition_of (plain_source c.args.names.now.source.now)) (map plain_def ds))
    (take_all c.loop-def.def-index c.args.defs.now c.loop-def-test.false)
