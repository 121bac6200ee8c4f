use Rattle.std.proofs.Common.{sym, subst, List, ℕ}
use Rattle.dia_follow.specs.declared.request.Request.{Request}
use Rattle.dia_follow.specs.Numbered.{AreListed}
use Rattle.dia_follow.proofs.waiting.table.Table.new.Goals as goal

pub invariant_of-result : goal.invariant_of-result
invariant_of-result c = subst (λ (es : List (ℕ × Request)). AreListed c.new-2.result es) (sym c.new.ensures.empty) c.new-2.ensures
