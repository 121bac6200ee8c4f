-- Levels and the groups around a place, as plain values.
use Rattle.std.specs.Prelude.{List, map}
use Rattle.dia_wire.specs.Wire.{plain_avp}
use Rattle.dia_answer.specs.declared.around.Inside.{Inside}
use Rattle.dia_answer.specs.declared.around.Level.{Level}
use Rattle.dia_answer.specs.declared.around.Step.{Step}
use Rattle.dia_answer.specs.Failed.{PlainInside, PlainLevel, PlainStep}
use Rattle.dia_answer.specs.Helds.{plains}

abbrev pub plain_level : Level → PlainLevel
plain_level l = record { rules = l.rules.now; bytes = l.bytes.now; avps = plains l.avps.items; place = l.place }

abbrev pub plain_step : Step → PlainStep
plain_step s = record { group = plain_avp s.group; level = plain_level s.level }

abbrev pub plain_way : List Step → List PlainStep
plain_way way = map plain_step way

abbrev pub plain_inside : Inside → PlainInside
plain_inside i = record { group = plain_avp i.group; rules = i.rules.now; place = i.place }
