use Rattle.std.proofs.Common.{arith, length, sym, ◌∙◌}
use Rattle.std.proofs.lemmas.Result.{err_from_is_err_and}
use Rattle.dia_text.specs.Drafts.{no_level}
use Rattle.dia_text.proofs.GroupsRead.{part_fails, end_fails, group_read, add_fails, separate_fails, part_taken, none_read, none_left, last_bytes, same_leaf}
use Rattle.dia_text.proofs.groups.group_at.Goals as goal

pub loop-init : goal.loop-init
loop-init g c = (no_level, (c.new-out.ensures.items, c.new-groups.ensures.items), none_read (length c.args.text.now) _ _ _ _)

pub returns-in_err-part : goal.returns-in_err-part
returns-in_err-part g c =
    let inv = c.loop.invariant in
    let p = err_from_is_err_and c.from_residual.result c.from_residual.ensures.1 in
    rw (p.1, p.2) (part_fails (length c.args.text.now) c.loop.counter _ _ inv.0 _ _ _ (omega (arith, c.loop-test.true)) inv.2 c.in_err-part.ensures)

pub returns-in_err-no_more : goal.returns-in_err-no_more
returns-in_err-no_more g c =
    let inv = c.loop.invariant in
    let p = err_from_is_err_and c.from_residual-in_err-no_more.result c.from_residual-in_err-no_more.ensures.1 in
    rw (p.1, p.2) (end_fails (length c.args.text.now) c.loop.counter _ _ inv.0 _ _ _ _ _ (omega (arith, c.loop-test.true)) inv.2 c.in_ok-part.ensures
    (sym (c.is_last.ensures inv.0 _ inv.1) ∙ c.if-is_last.true) (sym c.in_err-no_more.ensures))

pub returns-then-is_last : goal.returns-then-is_last
returns-then-is_last g c =
    let inv = c.loop.invariant in
    let last = sym (c.is_last.ensures inv.0 _ inv.1) ∙ c.if-is_last.true in
    same_leaf _ _ _ _ _ _ (last_bytes _ _ _ _ _ last inv.1) c.padding_of.ensures
    (group_read (length c.args.text.now) c.loop.counter _ _ inv.0 _ _ _ _ (omega (arith, c.loop-test.true)) inv.2 c.in_ok-part.ensures last (sym c.in_ok-no_more.ensures))

pub returns-in_err-add_part : goal.returns-in_err-add_part
returns-in_err-add_part g c =
    let inv = c.loop.invariant in
    let p = err_from_is_err_and c.from_residual-in_err-add_part.result c.from_residual-in_err-add_part.ensures.1 in
    rw (p.1, p.2) (add_fails (length c.args.text.now) c.loop.counter _ _ inv.0 _ _ _ _ _ (omega (arith, c.loop-test.true)) inv.2 c.in_ok-part.ensures
    (sym (c.is_last.ensures inv.0 _ inv.1) ∙ c.if-is_last.false) (c.in_err-add_part.ensures.taken inv.0 inv.1))

pub returns-in_err-rest : goal.returns-in_err-rest
returns-in_err-rest g c =
    let inv = c.loop.invariant in
    let a = c.in_ok-add_part.ensures.taken inv.0 inv.1 in
    let p = err_from_is_err_and c.from_residual-in_err-rest.result c.from_residual-in_err-rest.ensures.1 in
    rw (p.1, p.2) (separate_fails (length c.args.text.now) c.loop.counter _ _ inv.0 a.0 _ _ _ _ _ (omega (arith, c.loop-test.true)) inv.2 c.in_ok-part.ensures
    (sym (c.is_last.ensures inv.0 _ inv.1) ∙ c.if-is_last.false) a.1 c.in_err-rest.ensures)

pub loop-preserved : goal.loop-preserved
loop-preserved g c =
    let inv = c.loop.invariant in
    let a = c.in_ok-add_part.ensures.taken inv.0 inv.1 in (
      a.0,
      a.2,
      part_taken (length c.args.text.now) c.loop.counter _ _ inv.0 a.0 _ _ _ _ _ (omega (arith, c.loop-test.true)) inv.2 c.in_ok-part.ensures
          (sym (c.is_last.ensures inv.0 _ inv.1) ∙ c.if-is_last.false) a.1 c.in_ok-rest.ensures,
    )

pub returns : goal.returns
returns g c =
    let inv = c.loop.invariant in
    none_left (length c.args.text.now) c.loop.counter _ _ inv.0 _ _ _ (omega (arith, c.loop-test.false)) inv.2 c.unclosed.ensures
