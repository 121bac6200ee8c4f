use Rattle.std.proofs.Common.{arith}
use Rattle.std.specs.Global.{Vec}
use Rattle.std.specs.HashSet.{contains}
use Rattle.dia_diff.specs.declared.subjects.Subject.{Subject}
use Rattle.dia_diff.specs.Subjects.{same_subject}
use Rattle.dia_diff.proofs.Tests.{list_fails, list_found, list_none}
use Rattle.dia_diff.proofs.marks.first_there.Goals as goal

pub loop-list-preserved : goal.loop-list-preserved
loop-list-preserved c =
    list_fails (contains same_subject c.args.present.now) c.args.lists.now (λ (v : Vec Subject). v.items) c.loop-list.list-index c.list-item.result c.any_of.result c.deref.result.now (omega arith) c.list-item.is c.any_of.ensures
    c.deref.ensures.value c.if-any_of.false c.loop-list.invariant

pub returns-then-any_of : goal.returns-then-any_of
returns-then-any_of c =
    list_found (contains same_subject c.args.present.now) c.args.lists.now (λ (v : Vec Subject). v.items) c.loop-list.list-index c.list-item.result c.any_of.result c.deref.result.now c.as_slice.result.now (omega arith)
    c.list-item.is c.any_of.ensures c.deref.ensures.value c.as_slice.ensures.value c.if-any_of.true c.loop-list.invariant

pub returns : goal.returns
returns c = list_none (contains same_subject c.args.present.now) c.args.lists.now (λ (v : Vec Subject). v.items) c.loop-list.list-index (omega arith) c.loop-list.invariant
