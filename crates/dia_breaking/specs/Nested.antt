-- The levels of a path taken apart: what precedes each group, and what follows it.
use Rattle.std.specs.Prelude.{ℕ, List, [], ◌∷◌, ◌++◌, Option, Some, None}
use Rattle.std.specs.Option.{option_map_or}
use Rattle.dia_wire.specs.declared.Key.{Key}
use Rattle.dia_breaking_levels.specs.declared.line.Part.{Part}
use Rattle.dia_breaking_shortest.specs.Bytes.{parts_bytes}
use Rattle.dia_breaking.specs.declared.line.Place.{Place}
use Rattle.dia_breaking.specs.declared.line.Site.{Site}
use Rattle.dia_breaking.specs.declared.shown.ShownAvp.{ShownAvp}
use Rattle.dia_breaking.specs.Messages.{Shown, Stock, front_parts, group_head, key_at, parts_round, rest_parts, shortest_avp, shown}
use Rattle.dia_breaking.specs.Sides.{Sides}

abbrev pub plain_shown : ShownAvp → Shown
plain_shown avp = shown avp.key avp.bytes.items

-- of a group in the level at a place: the bytes before its data, and the parts after them
abbrev pub group_front : Sides → Stock → ℕ → ℕ → Place → Site → Key → List ℕ
group_front s k c size outer site key = parts_bytes (shortest_avp s k) (front_parts key (parts_round s k c outer key)) ++ group_head s size site key

abbrev pub group_rest : Sides → Stock → ℕ → Place → Key → List Part
group_rest s k c outer key = rest_parts key (parts_round s k c outer key)

-- of the group of a site, if it is in the level of another
abbrev pub site_front : Sides → Stock → ℕ → ℕ → Option Site → Site → List ℕ
site_front s k c size None site = []
site_front s k c size (Some outer) site = option_map_or (group_front s k c size outer.place site) (key_at site.place) []

abbrev pub site_rest : Sides → Stock → ℕ → Option Site → Site → List Part
site_rest s k c None site = []
site_rest s k c (Some outer) site = option_map_or (group_rest s k c outer.place) (key_at site.place) []

-- of all
abbrev pub fronts : Sides → Stock → ℕ → ℕ → Option Site → List Site → List ℕ
fronts s k c size outer [] = []
fronts s k c size outer (site ∷ path) = site_front s k c size outer site ++ fronts s k c size (Some site) path

abbrev pub rests : Sides → Stock → ℕ → Option Site → List Site → List Part
rests s k c outer [] = []
rests s k c outer (site ∷ path) = rests s k c (Some site) path ++ site_rest s k c outer site
