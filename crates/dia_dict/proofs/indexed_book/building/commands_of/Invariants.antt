use Rattle.std.proofs.Common.{◌≡◌}
use Rattle.indexmap.specs.IndexMap.{get}
use Rattle.dia_dict.specs.declared.selectors.Selector.{Selector}
use Rattle.dia_dict.specs.SameSelectors.{same_selector}
use Rattle.dia_dict.proofs.Indexing.Filling.{command_given}
use Rattle.dia_dict.proofs.indexed_book.building.commands_of.Given as goal

abbrev pub invariant-loop-index : goal.invariant-loop-index
invariant-loop-index l = (s : Selector) → get same_selector l.selected s ≡ command_given l.commands l.groups l.index s
