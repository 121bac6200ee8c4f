use Rattle.dia_breaking_levels.proofs.RoomForLines.{lines_room}
use Rattle.dia_breaking_levels.proofs.laws.lines_have_room.Goals as goal

pub returns : goal.returns
returns c = lines_room
