use Rattle.std.specs.HashSet.{contains}
use Rattle.dia_book.specs.Keys.{same_key}
use Rattle.dia_diff.proofs.Tests.{put_step}
use Rattle.dia_diff.proofs.ignored.put.Goals as goal

pub returns : goal.returns
returns c = λ q. put_step (contains same_key c.insert.new.self q) (same_key c.args.key q) (contains same_key c.args.set.now q) (c.in_ok-insert.ensures.updates.0 q)
