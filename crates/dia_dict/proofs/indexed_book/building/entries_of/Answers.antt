use Rattle.std.proofs.Common.{position, take, ap, ◌∙◌}
use Rattle.std.proofs.lemmas.Iterator.Adapters.{option_map_id}
use Rattle.std.proofs.lemmas.List.{take_all}
use Rattle.indexmap.specs.IndexMap.{get}
use Rattle.dia_book.specs.Keys.{same_key}
use Rattle.dia_dict.specs.declared.entry_list.Row.{Row}
use Rattle.dia_dict.proofs.Indexing.Filling.{row_given-more}
use Rattle.dia_dict.proofs.indexed_book.building.entries_of.Goals as goal

pub loop-index-preserved : goal.loop-index-preserved
loop-index-preserved c =
    row_given-more c.args.rows.now c.loop-index.index c.index-rows-index.result c.new.result
    (get same_key c.loop-index.entries) (get same_key c.keep_first.new.map) c.loop-index-test.true c.index-rows-index.is c.new.ensures
    c.loop-index.invariant c.in_ok-keep_first.ensures

pub returns : goal.returns
returns c = λ key.
    ap (λ entries. get same_key entries key) c.in_ok-keyed.ensures ∙ c.loop-index.invariant key
    ∙ option_map_id (position (λ (row : Row). same_key key row.key) (take c.loop-index.index c.args.rows.now))
    ∙ ap (position (λ (row : Row). same_key key row.key)) (take_all c.loop-index.index c.args.rows.now c.loop-index-test.false)
