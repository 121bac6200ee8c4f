use Rattle.std.proofs.Common.{◌≡◌, filter, map, take}
use Rattle.dia_ccf.specs.declared.source.Def.{Def}
use Rattle.dia_lint_text.specs.Rows.{is_bare}
use Rattle.dia_lint_text.proofs.parts.starts_of_bare.Given as goal

abbrev pub invariant-loop-group : goal.invariant-loop-group
invariant-loop-group g l =
    l.starts.items ≡ map (λ (x : Def). x.at) (filter (is_bare (g.B.Book.meaning l.book) l.source) (take l.group-index l.source.groups.items))
