-- What holds of a dictionary, said of the lists that a plain book holds.
use Rattle.std.proofs.Common.{List, map, get_or, ap, ◌∙◌}
use Rattle.std.specs.Prelude.{All}
use Rattle.std.specs.Option.{option_map}
use Rattle.std.proofs.lemmas.Option.{slice_get-map, slice_get-get_or}
use Rattle.dia_book.specs.Dictionary.{PlainDefinition, IsDictionary, IsCommandHead, plain_definition}
use Rattle.dia_book.specs.declared.Definition.{Definition}
use Rattle.dia_dict.specs.declared.entry_list.Row.{Row}
use Rattle.dia_dict.proofs.Indexing.Selectors.{All-at}
use Rattle.dia_dict.proofs.BookRows.{held}

module _ (rows : List Row) (groups commands : List Definition) (sound : IsDictionary (held rows groups commands)) where
  pub command_heads-held : All (λ (d : Definition). IsCommandHead d.head) commands
  command_heads-held k d short =
      let own = get_or commands k d in
      All-at (λ (p : PlainDefinition). IsCommandHead p.head) (map plain_definition commands) k
      (plain_definition own) sound.command_heads
      (slice_get-map plain_definition commands k ∙ ap (option_map plain_definition) (slice_get-get_or commands k d short))
