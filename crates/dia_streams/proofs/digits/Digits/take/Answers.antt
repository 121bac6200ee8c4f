use Rattle.std.proofs.Common.{Bool, true, false, ◌<◌, ◌+◌, ℕ, ◌++◌, ◌∷◌, [], List, length, take, drop, get_or, ◌∙◌, ap, subst, arith}
use Rattle.dia_streams.specs.StreamUnderWay.{Takes}
use Rattle.dia_streams.proofs.DigitsTaken.{Takes-both}
use Rattle.dia_streams.proofs.PairsTaken.{Takes-lines, if_ok_map, next_line, stopped_within}
use Rattle.dia_streams.proofs.digits.Digits.take.Goals as goal

pub returns-then-not-branch : goal.returns-then-not-branch
returns-then-not-branch c =
    let old = c.args.self.now in
    let now = c.loop-at.self in
    let new = c.take_line.new.self in
    let rest = c.loop-at.rest.now in
    let at = c.in-Some.at in
    let (front, parts, takes) = c.loop-at.invariant in
    let stopped = subst (λ (good : Bool). Takes good now.half new.half now.bytes.items new.bytes.items (take at rest)) c.if-not-branch.true c.in_ok-take_line.ensures in
    stopped_within old.half new.half new.half old.bytes.items new.bytes.items (front ++ take at rest) (drop at rest) c.args.text.now
    (next_line front rest c.args.text.now at parts)
    (Takes-both false old.half now.half new.half old.bytes.items now.bytes.items new.bytes.items front (take at rest) takes stopped)

pub returns-then-not-branch-2 : goal.returns-then-not-branch-2
returns-then-not-branch-2 c =
    let old = c.args.self.now in
    let now = c.loop-at.self in
    let one = c.take_line.new.self in
    let new = c.take_one.new.self in
    let rest = c.loop-at.rest.now in
    let at = c.in-Some.at in
    let (front, parts, takes) = c.loop-at.invariant in
    let less : at < length rest = let found = c.in-Some.ensures in omega (arith, found.0.high) in
    let line = subst (λ (good : Bool). Takes good now.half one.half now.bytes.items one.bytes.items (take at rest)) c.if-not-branch.false c.in_ok-take_line.ensures in
    let last = subst (λ (good : Bool). Takes good one.half new.half one.bytes.items new.bytes.items (get_or rest at 0 ∷ [])) c.if-not-branch-2.true c.in_ok-take_one.ensures in
    stopped_within old.half new.half new.half old.bytes.items new.bytes.items (front ++ take (at + 1) rest) (drop (at + 1) rest) c.args.text.now
    (next_line front rest c.args.text.now (at + 1) parts)
    (Takes-lines false old.half now.half one.half new.half old.bytes.items now.bytes.items one.bytes.items new.bytes.items front rest at less takes line last)

pub loop-at-preserved : goal.loop-at-preserved
loop-at-preserved c =
    let old = c.args.self.now in
    let now = c.loop-at.self in
    let one = c.take_line.new.self in
    let new = c.take_one.new.self in
    let rest = c.loop-at.rest.now in
    let at = c.in-Some.at in
    let (front, parts, takes) = c.loop-at.invariant in
    let less : at < length rest = let found = c.in-Some.ensures in omega (arith, found.0.high) in
    let line = subst (λ (good : Bool). Takes good now.half one.half now.bytes.items one.bytes.items (take at rest)) c.if-not-branch.false c.in_ok-take_line.ensures in
    let last = subst (λ (good : Bool). Takes good one.half new.half one.bytes.items new.bytes.items (get_or rest at 0 ∷ [])) c.if-not-branch-2.false c.in_ok-take_one.ensures in (
      front ++ take (at + 1) rest,
      ap (λ (r : List ℕ). (front ++ take (at + 1) rest) ++ r) c.split_at.ensures.back ∙ next_line front rest c.args.text.now (at + 1) parts,
      Takes-lines true old.half now.half one.half new.half old.bytes.items now.bytes.items one.bytes.items new.bytes.items front rest at less takes line last,
    )

pub returns : goal.returns
returns c =
    let old = c.args.self.now in
    let now = c.loop-at.self in
    let new = c.take_line-2.new.self in
    let (front, parts, takes) = c.loop-at.invariant in
    if_ok_map c.take_line-2.result
    (λ good taken. subst (Takes good old.half new.half old.bytes.items new.bytes.items) parts
    (Takes-both good old.half now.half new.half old.bytes.items now.bytes.items new.bytes.items front c.loop-at.rest.now takes taken))
    c.take_line-2.ensures
