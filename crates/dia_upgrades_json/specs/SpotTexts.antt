-- The texts of dictionaries, as they are in memory.
use Rattle.std.specs.Prelude.{ℕ, List}
use Rattle.dia_ccf.specs.declared.source.Source.{Source}
use Rattle.dia_upgrades_json.specs.declared.spots.Spelt.{Spelt}
use Rattle.dia_upgrades_json.specs.declared.spots.Texts.{Texts}
use Rattle.dia_upgrades_json.specs.Spots.{PlainSpelt, PlainTexts}
use Rattle.dia_breaking_places.specs.MarkedTexts.{text_in}
use Rattle.dia_breaking_places.specs.Parts.{parts_in, parts_of}

-- a text that says this
abbrev pub spelt : List ℕ → Source → PlainSpelt
spelt text source = record { text = text; parts = parts_of source }

abbrev pub spelt_in : Spelt → PlainSpelt
spelt_in s = record { text = text_in s.marks; parts = parts_in s.places }

abbrev pub both_in : Texts → PlainTexts
both_in texts = record { first = spelt_in texts.first; second = spelt_in texts.second }
