-- The sites of a command: its own level, for each of its readings, and then the groups that a walk reaches.
use Rattle.std.specs.Prelude.{ℕ, ◌+◌, ◌-◌, ◌==◌, nat_eq, min, if◌then◌else◌, Bool, true, false, not, ◌&&◌, ◌||◌, is_none, is_some, List, map, Option, option_and_then, slice_get, position}
use Rattle.std.specs.List.{filter_map}
use Rattle.std.specs.Option.{option_map, option_map_or}
use Rattle.dia_wire.specs.declared.Key.{Key}
use Rattle.dia_book.specs.Dictionary.{Dictionary, selected}
use Rattle.dia_breaking_ways.specs.declared.graph.Step.{Step}
use Rattle.dia_breaking.specs.declared.heads.Head.{Head}
use Rattle.dia_breaking.specs.declared.line.Place.TheVariants as places
use Rattle.dia_breaking.specs.declared.line.Site.{Site}
use Rattle.dia_breaking.specs.declared.own_breaks.OwnBreaks.{OwnBreaks}
use Rattle.dia_breaking.specs.declared.readings.Reading.{Reading}
use Rattle.dia_breaking.specs.Headers.{allows}
use Rattle.dia_breaking.specs.Words.{head_at}

-- ---- the command's own level

-- the head of B's definition for messages with this head and this application
abbrev pub other_head : Dictionary → Head → ℕ → Option Head
other_head db head app = option_and_then (head_at db) (selected db head.code head.class app)

abbrev pub both_allow : Head → Head → Bool → Bool
both_allow head other set = allows head.p set && allows other.p set

-- B selects no definition
abbrev pub refused_site : Head → Reading → Site
refused_site head reading = record { place = places.Command reading.app reading.read_as false (not (allows head.p false)); way = 0; is_read = false }

-- B's definition is for another application than that of the messages, or for one alone where A's is for more
abbrev pub records_app : Head → Reading → Head → Bool
records_app head reading other = not (nat_eq reading.app reading.read_as) || (is_none head.app && is_some other.app)

-- P is set where it can't be clear; where no P flag is allowed by both, it is one that A allows
abbrev pub sets_p : Head → Head → Bool
sets_p head other = not (both_allow head other false) && (both_allow head other true || not (allows head.p false))

-- B selects a definition with this head
abbrev pub read_site : Head → Reading → Head → Site
read_site head reading other =
    record { place = places.Command reading.app reading.read_as (records_app head reading other) (sets_p head other); way = 0; is_read = true }

abbrev pub command_site : Dictionary → Head → Reading → Site
command_site db head reading = option_map_or (read_site head reading) (other_head db head reading.read_as) (refused_site head reading)

abbrev pub command_sites : Dictionary → Head → List Reading → List Site
command_sites db head readings = map (command_site db head) readings

-- the first site at which B's side reads a level
abbrev pub first_read : List Site → Option ℕ
first_read sites = position (λ site. site.is_read) sites

-- ---- groups

-- the number of the site of a level of the walk: the first that is read, where it starts, or one after the `count` sites of the
-- command; it fits 64 bits
abbrev pub site_number : ℕ → ℕ → ℕ → ℕ
site_number first count level = if level == 0 then first else min (count + (level - 1)) 18446744073709551615

abbrev pub group_site : ℕ → ℕ → Step → Key → Site
group_site first count step key = record { place = places.Group key (site_number first count step.outer); way = step.way; is_read = true }

abbrev pub group_sites : List OwnBreaks → ℕ → ℕ → List Step → List Site
group_sites own first count steps = filter_map (λ step. option_map (λ one. group_site first count step one.key) (slice_get own step.place)) steps
