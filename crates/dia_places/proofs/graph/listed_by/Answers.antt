use Rattle.std.proofs.Common.{ℕ, [], ◌∷◌, ◌++◌, Some, None, ap, sym, ◌∙◌, Vec}
use Rattle.std.specs.Global.{Global}
use Rattle.std.proofs.lemmas.List.{append-nil}
use Rattle.dia_places.proofs.Loops.{more_pushed}
use Rattle.dia_places.proofs.graph.listed_by.Goals as goal
use Rattle.dia_places.proofs.graph.listed_by.Goals.{in-Some+in_ok-push, in_default}

pub loop-rule-preserved : goal.loop-rule-preserved
loop-rule-preserved g c =
    let d = g.B.Book.meaning c.args.book.now in
    let rules = c.args.rules.now in
    let i = c.loop-rule.rule-index in
    let before = c.loop-rule.listed.items in
    elim c.match-group_by.branch [
      | in-Some+in_ok-push w ↦ more_pushed d rules i _ (Some w.in-Some.def) before c.match-group_by.listed.items c.loop-rule-test.true (sym w.in-Some.is ∙ c.group_by.ensures) c.loop-rule.invariant
          (ap (λ (v : Vec (ℕ × ℕ) Global). v.items) w.listed-is ∙ w.in_ok-push.ensures.items ∙ ap (λ (n : ℕ). before ++ (n, 1) ∷ []) w.index.ensures)
      | in_default w ↦ more_pushed d rules i _ None before c.match-group_by.listed.items c.loop-rule-test.true (sym w.in_default.is ∙ c.group_by.ensures) c.loop-rule.invariant
          (ap (λ (v : Vec (ℕ × ℕ) Global). v.items) w.listed-is ∙ sym (append-nil before))
    ]
