use Rattle.std.proofs.Common.{ℕ, ◌+◌, position, ap, ◌∙◌}
use Rattle.std.specs.Option.{option_map}
use Rattle.std.proofs.lemmas.List.{take_all}
use Rattle.indexmap.specs.IndexMap.{get}
use Rattle.dia_book.specs.declared.Definition.{Definition}
use Rattle.dia_dict.specs.Selectors.{selector_of}
use Rattle.dia_dict.specs.SameSelectors.{same_selector}
use Rattle.dia_dict.proofs.Indexing.Filling.{command_given-more}
use Rattle.dia_dict.proofs.indexed_book.building.commands_of.Goals as goal

pub loop-index-preserved : goal.loop-index-preserved
loop-index-preserved c =
    command_given-more c.args.commands.now c.args.groups c.loop-index.index c.index-commands-index.result c.of.result c.new.result
    (get same_selector c.loop-index.selected) (get same_selector c.keep_first.new.map)
    c.loop-index-test.true c.index-commands-index.is c.of.ensures c.new.ensures c.loop-index.invariant c.in_ok-keep_first.ensures

pub returns : goal.returns
returns c = λ s.
    c.loop-index.invariant s
    ∙ ap (λ ds. option_map (λ (i : ℕ). c.args.groups + i) (position (λ (d : Definition). same_selector s (selector_of d.head)) ds))
    (take_all c.loop-index.index c.args.commands.now c.loop-index-test.false)
