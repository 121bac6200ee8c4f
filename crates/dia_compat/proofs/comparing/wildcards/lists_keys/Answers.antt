use Rattle.std.proofs.Common.{refl}
use Rattle.dia_valid.specs.Valid.{is_listed}
use Rattle.dia_compat.proofs.FilteredMembers.{all_more_at, all_stops_at}
use Rattle.dia_compat.proofs.comparing.wildcards.lists_keys.Goals as goal

pub returns-then-not-lists : goal.returns-then-not-lists
returns-then-not-lists g c =
    all_stops_at (is_listed c.args.a.now) c.args.keys.now c.loop-key.key-index _ _ c.lists.result
    c.loop-key-test.true refl c.lists.ensures c.if-not-lists.true

pub loop-key-preserved : goal.loop-key-preserved
loop-key-preserved g c =
    all_more_at (is_listed c.args.a.now) c.args.keys.now c.loop-key.key-index _ _ c.lists.result
    c.loop-key-test.true refl c.lists.ensures c.if-not-lists.false
    c.loop-key.invariant
