-- Which lines of an AVP.
use Rattle.std.specs.Prelude.{ℕ, ◌<◌, Bool, List, All, flat_map, length}
use Rattle.dia_wire.specs.declared.Key.{Key}
use Rattle.dia_book.specs.Dictionary.{Dictionary, definitions}
use Rattle.dia_places.specs.declared.graph.Reached.{Reached}
use Rattle.dia_places.specs.declared.places.By.{By}
use Rattle.dia_places.specs.Paths.{Path}
use Rattle.dia_uses.specs.declared.writing.Kind.{Kind}
use Rattle.dia_uses.specs.declared.writing.Kind.TheVariants.{Rules, Wildcards}
use Rattle.dia_uses.specs.Lines.{is_rule, is_wildcard, line_at}

abbrev pub is_kind : Kind → By → Bool
is_kind Rules by = is_rule by
is_kind Wildcards by = is_wildcard by

abbrev pub lines_by : Bool → Dictionary → Kind → Key → List Path → List ℕ
lines_by json d kind key paths = flat_map (line_at json d (is_kind kind) key) paths

-- the definitions are the dictionary's
abbrev pub AreWithin : Dictionary → List Reached → Type 0
AreWithin d reached = All (λ (r : Reached). r.def < length (definitions d)) reached
