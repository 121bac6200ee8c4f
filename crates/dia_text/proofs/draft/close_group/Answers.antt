use Rattle.std.proofs.Common.{◌+◌, ◌-◌, ◌≡◌, length, sym, arith}
use Rattle.dia_text.proofs.Drafting.{innermost, room, close_fails, close_adds}
use Rattle.dia_text.proofs.draft.close_group.Goals as goal

pub overflow_add-begin : goal.overflow_add-begin
overflow_add-begin c =
    let r = room _ _ _ _ _ (innermost _ _ _ _ _ _ c.requires.1 c.in-Some.ensures.items) in
    omega (arith, r, c.front_len.ensures.value, c.args.out.now.ok.0)

pub overflow_sub-count : goal.overflow_sub-count
overflow_sub-count c =
    let r = room _ _ _ _ _ (innermost _ _ _ _ _ _ c.requires.1 c.in-Some.ensures.items) in
    omega (arith, r, c.front_len.ensures.value, c.args.out.now.ok.0, c.len.ensures)

pub returns-in-Err-clause-added : goal.returns-in-Err-clause-added
returns-in-Err-clause-added c = λ level s.
    let i = innermost _ _ _ _ _ _ s c.in-Some.ensures.items in
    let r = room _ _ _ _ _ i in
    let is : c.len.result - (c.in-Some.group.place + c.front_len.result) ≡ length level.bytes = omega (arith, r, c.front_len.ensures.value, c.args.out.now.ok.0, c.len.ensures) in
    close_fails _ _ _ _ _ _ _ _ i is (sym c.in-Err.ensures.value)

pub write_front-requires-clause-within : goal.write_front-requires-clause-within
write_front-requires-clause-within c =
    let r = room _ _ _ _ _ (innermost _ _ _ _ _ _ c.requires.1 c.in-Some.ensures.items) in
    omega (arith, r, c.args.out.now.ok.0)

pub returns-clause-added : goal.returns-clause-added
returns-clause-added c = λ level s.
    let i = innermost _ _ _ _ _ _ s c.in-Some.ensures.items in
    let r = room _ _ _ _ _ i in
    let is : c.len.result - (c.in-Some.group.place + c.front_len.result) ≡ length level.bytes = omega (arith, r, c.front_len.ensures.value, c.args.out.now.ok.0, c.len.ensures) in
    close_adds _ _ _ _ _ _ _ _ _ _ i is (sym c.in-Ok.ensures.value) c.in_ok-write_front.ensures c.in_ok-push_end.ensures
