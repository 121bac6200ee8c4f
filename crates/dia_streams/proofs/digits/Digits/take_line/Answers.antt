use Rattle.std.proofs.Common.{Bool, true, false, ◌++◌, subst}
use Rattle.dia_streams.specs.StreamUnderWay.{Takes}
use Rattle.dia_streams.proofs.DigitsTaken.{Takes-both}
use Rattle.dia_streams.proofs.PairsTaken.{if_ok_map, of_parts, of_three, stopped_within}
use Rattle.dia_streams.proofs.digits.Digits.take_line.Goals as goal

pub returns-then-not-branch : goal.returns-then-not-branch
returns-then-not-branch c =
    let old = c.args.self.now in
    let new = c.take_each.new.self in
    let (first, following) = c.split_at.result in
    let parts = of_parts c.args.line.now first.now following.now c.lacking.result c.split_at.ensures.front c.split_at.ensures.back in
    let stopped = subst (λ (good : Bool). Takes good old.half new.half old.bytes.items new.bytes.items first.now) c.if-not-branch.true c.in_ok-take_each.ensures in
    stopped_within old.half new.half new.half old.bytes.items new.bytes.items first.now following.now c.args.line.now parts stopped

pub returns-then-not-branch-2 : goal.returns-then-not-branch-2
returns-then-not-branch-2 c =
    let old = c.args.self.now in
    let one = c.take_each.new.self in
    let new = c.take_pairs.new.self in
    let (first, following) = c.split_at.result in
    let (pairs, last) = c.split_at-2.result in
    let outer = of_parts c.args.line.now first.now following.now c.lacking.result c.split_at.ensures.front c.split_at.ensures.back in
    let inner = of_parts following.now pairs.now last.now _ c.split_at-2.ensures.front c.split_at-2.ensures.back in
    let parts = of_three c.args.line.now first.now following.now pairs.now last.now outer inner in
    let before = subst (λ (good : Bool). Takes good old.half one.half old.bytes.items one.bytes.items first.now) c.if-not-branch.false c.in_ok-take_each.ensures in
    let stopped = subst (λ (good : Bool). Takes good one.half new.half one.bytes.items new.bytes.items pairs.now) c.if-not-branch-2.true c.in_ok-take_pairs.ensures in
    stopped_within old.half new.half new.half old.bytes.items new.bytes.items (first.now ++ pairs.now) last.now c.args.line.now parts
    (Takes-both false old.half one.half new.half old.bytes.items one.bytes.items new.bytes.items first.now pairs.now before stopped)

pub returns : goal.returns
returns c =
    let old = c.args.self.now in
    let one = c.take_each.new.self in
    let two = c.take_pairs.new.self in
    let new = c.take_each-2.new.self in
    let (first, following) = c.split_at.result in
    let (pairs, last) = c.split_at-2.result in
    let outer = of_parts c.args.line.now first.now following.now c.lacking.result c.split_at.ensures.front c.split_at.ensures.back in
    let inner = of_parts following.now pairs.now last.now _ c.split_at-2.ensures.front c.split_at-2.ensures.back in
    let parts = of_three c.args.line.now first.now following.now pairs.now last.now outer inner in
    let before = subst (λ (good : Bool). Takes good old.half one.half old.bytes.items one.bytes.items first.now) c.if-not-branch.false c.in_ok-take_each.ensures in
    let next = subst (λ (good : Bool). Takes good one.half two.half one.bytes.items two.bytes.items pairs.now) c.if-not-branch-2.false c.in_ok-take_pairs.ensures in
    let both = Takes-both true old.half one.half two.half old.bytes.items one.bytes.items two.bytes.items first.now pairs.now before next in
    if_ok_map c.take_each-2.result
    (λ good taken. subst (Takes good old.half new.half old.bytes.items new.bytes.items) parts
    (Takes-both good old.half two.half new.half old.bytes.items two.bytes.items new.bytes.items (first.now ++ pairs.now) last.now both taken))
    c.take_each-2.ensures
