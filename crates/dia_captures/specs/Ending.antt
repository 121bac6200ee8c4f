-- How many messages ended.
use Rattle.std.specs.Prelude.{◌&&◌, ◌||◌, Bool, true, false, List}
use Rattle.std.specs.List.{list_all, list_any}
use Rattle.dia_io.specs.declared.Exit.{Exit}
use Rattle.dia_io.specs.declared.Exit.TheVariants.{Yes, No, Bad}
use Rattle.dia_captures.specs.declared.ended.Ended.{Ended}

abbrev pub is_yes : Exit → Bool
is_yes Yes = true
is_yes No = false
is_yes Bad = false

-- each with yes, and some with yes
abbrev pub ended_of : List Exit → Ended
ended_of exits = record { each = list_all is_yes exits; some = list_any is_yes exits }

-- one more ended so
abbrev pub ended_with : Ended → Exit → Ended
ended_with ended exit = record { each = ended.each && is_yes exit; some = ended.some || is_yes exit }
