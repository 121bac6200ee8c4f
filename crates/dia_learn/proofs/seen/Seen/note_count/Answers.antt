use Rattle.indexmap.specs.IndexMap.{get}
use Rattle.dia_learn.specs.Levels.{same_spot}
use Rattle.dia_learn.proofs.Counting.{replaced}
use Rattle.dia_learn.proofs.seen.Seen.note_count.Goals as goal

pub returns-clause-most : goal.returns-clause-most
returns-clause-most c = λ w k. replaced c.args.spot (record { place = w; key = k }) (get same_spot c.args.self.now.most) (get same_spot c.insert.new.self (record { place = w; key = k })) c.max.result c.args.count
    (rw c.most_of-most.ensures at c.max.ensures) (c.in_ok-insert.ensures.updates.0 (record { place = w; key = k }))
