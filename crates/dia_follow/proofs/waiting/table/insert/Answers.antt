use Rattle.std.proofs.Common.{sym, subst, List, ℕ, ◌∙◌}
use Rattle.dia_follow.specs.declared.request.Request.{Request}
use Rattle.dia_follow.specs.Numbered.{AreListed}
use Rattle.dia_follow.proofs.Numbered.{insert_last}
use Rattle.dia_follow.proofs.waiting.table.insert.Goals as goal

pub returns-clause-entries : goal.returns-clause-entries
returns-clause-entries c = c.in_ok-insert.ensures.entries ∙ insert_last c.args.requests.now.entries c.args.number c.args.request c.requires.above

pub returns-clause-listed : goal.returns-clause-listed
returns-clause-listed c =
    let all = c.in_ok-insert.ensures.entries ∙ insert_last c.args.requests.now.entries c.args.number c.args.request c.requires.above in
    subst (λ (es : List (ℕ × Request)). AreListed c.add.new.self es) (sym all) (c.in_ok-add.ensures c.args.requests.now.entries c.requires.listed c.requires.above)
