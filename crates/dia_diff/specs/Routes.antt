-- Messages of one side, from the values that the program passes.
use Rattle.dia_book.specs.Dictionary.{Dictionary}
use Rattle.dia_breaking.specs.Sides.{sides}
use Rattle.dia_diff.specs.declared.traffic.Traffic.{Traffic}
use Rattle.dia_diff.specs.Origins.{Route}

-- where these are the meanings of the books
abbrev pub route_of : {A B : Type 0} → (A → Dictionary) → (B → Dictionary) → Traffic A B → Route
route_of first second t = record { between = sides (first t.sender.now) (second t.receiver.now) t.sends t.unknown; side = t.side; commands = t.commands.now }
