-- What is known of one end of a connection.
use Rattle.std.specs.Prelude.{true, false, [], None}
use Rattle.dia_follow.specs.declared.side.Side.{Side}

-- nothing
abbrev pub new_side : Side
new_side = record {
  waits = [];
  apps = None;
  host = None;
  origin_state = None;
  dwr = None;
  dpr = false;
  dpa = false;
  gap = false;
  noted = false;
  forgot = false;
  strays = [];
}

-- messages may be missing: as at the beginning, but for its requests, its host and its Origin-State-Id
abbrev pub cut_off : Side → Side
cut_off s = record new_side { waits = s.waits; host = s.host; origin_state = s.origin_state; gap = true }

-- a message can't be read: as at the beginning, but for its host and its Origin-State-Id
abbrev pub emptied : Side → Side
emptied s = record new_side { host = s.host; origin_state = s.origin_state; gap = true }
