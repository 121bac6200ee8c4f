use Rattle.std.proofs.Common.{◌≡◌, ℕ, Bool, List, map, string_bytes, take}
use Rattle.std.specs.List.{flat_map}
use Rattle.dia_accepted.specs.Accepted.{PlainRecorded}
use Rattle.dia_accepted.specs.Seen.{AreCauses}
use Rattle.dia_upgrades.specs.Writing.{cause_in}
use Rattle.dia_upgrades.specs.Rows.{cause_among}
use Rattle.dia_upgrades.specs.UnderWay.{plain_first}
use Rattle.dia_upgrades.proofs.ending.causes_text.Given as goal

abbrev pub invariant-loop-first : goal.invariant-loop-first
invariant-loop-first g l =
    (forgets : Bool) (recorded : List PlainRecorded) (command visits : ℕ) → AreCauses forgets l.causes recorded command visits
    → string_bytes l.text ≡ flat_map (cause_in (g.W.LineWriter.writes l.writer)) (map (cause_among recorded) (map plain_first (take l.first-index l.firsts)))
