-- Where the parts of a dictionary are in the text that spells it.
use Rattle.std.specs.Prelude.{ℕ, List, Option, Some, None, slice_get}
use Rattle.std.specs.Option.{option_map, option_and_then}
use Rattle.dia_ccf.specs.declared.source.Source.{Source}
use Rattle.dia_ccf.specs.declared.source.Def.{Def}
use Rattle.dia_dict.specs.declared.findings.Part.{Part}
use Rattle.dia_dict.specs.declared.findings.PartKind.TheVariants as part
use Rattle.dia_explain_places.specs.Places.{name_place}

-- where a definition begins, or this rule of it
abbrev pub start_in : Def → Option ℕ → Option ℕ
start_in def None = Some def.at
start_in def (Some i) = option_map (λ r. r.at) (slice_get def.rules.items i)

-- where a part of a source begins, by the places that the source has
abbrev pub start_of : Source → Part → Option ℕ
start_of source p = elim p.kind [
  | part.Declaration ↦ option_map (λ d. d.at) (slice_get source.avps.items p.index)
  | part.Group ↦ option_and_then (λ d. start_in d p.rule) (slice_get source.groups.items p.index)
  | part.Command ↦ option_and_then (λ d. start_in d p.rule) (slice_get source.commands.items p.index)
]

-- the reported place of a part: that of its first name
abbrev pub part_place : List ℕ → Source → Option Part → Option ℕ
part_place text source p = option_map (name_place text) (option_and_then (start_of source) p)
