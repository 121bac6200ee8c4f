use Rattle.std.proofs.Common.{ap, sym, subst, ◌∙◌, ◌++◌, ◌∷◌, [], length, List, ℕ, OnErr, Result, Ok, Err}
use Rattle.std.specs.Map.{values_of}
use Rattle.dia_follow.specs.declared.request.Request.{Request}
use Rattle.dia_follow.specs.Numbered.{AreBelow}
use Rattle.dia_follow.proofs.Numbered.{below_dropped, below_length, values_moved}
use Rattle.dia_follow.proofs.waiting.renumber.Goals as goal

pub loop-request-preserved : goal.loop-request-preserved
loop-request-preserved c =
    let added = c.in_ok-insert.ensures.added in
    let others = c.in-Some.ensures.others in
    record {
      same =
          ap (λ l. values_of l ++ values_of c.take_first.new.self) added
          ∙ ap (λ l. values_of (c.loop-request.renumbered ++ (c.len-number.result, c.in-Some.request) ∷ []) ++ values_of l) others
          ∙ values_moved c.loop-request.table c.loop-request.renumbered c.len-number.result c.in-Some.request c.in-Some.ensures.first
          ∙ c.loop-request.invariant.same;
      above = subst (λ (l : List (ℕ × Request)). AreBelow l (length l)) (sym added)
          (below_length c.loop-request.renumbered c.len-number.result c.in-Some.request c.loop-request.invariant.above c.len-number.ensures.length);
      left = λ n below. subst (λ (l : List (ℕ × Request)). AreBelow l n) (sym others)
          (below_dropped c.loop-request.table n (c.loop-request.invariant.left n below));
    }

on_any : {T E : Type 0} (r : Result T E) (P : Type 0) → P → OnErr r P
on_any (Ok x) P holds = tt
on_any (Err e) P holds = holds

pub returns-in_err-insert-clause-left : goal.returns-in_err-insert-clause-left
returns-in_err-insert-clause-left c =
    on_any c.from_residual.result ((n : ℕ) → AreBelow c.args.table.now n → AreBelow c.take_first.new.self n)
    (λ n below. subst (λ (l : List (ℕ × Request)). AreBelow l n) (sym c.in-Some.ensures.others)
    (below_dropped c.loop-request.table n (c.loop-request.invariant.left n below)))
