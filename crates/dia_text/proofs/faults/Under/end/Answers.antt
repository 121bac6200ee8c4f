use Rattle.std.proofs.Common.{◌≡◌, List, [], ◌∷◌, ◌++◌, OnOk, ap, sym, ◌∙◌, subst, arith}
use Rattle.dia_text.specs.declared.fault.Fault.{Fault}
use Rattle.dia_text.specs.AllFaults.{AreCounted}
use Rattle.dia_text.proofs.Counted.{ends_open, ends_long, not_none, is_none}
use Rattle.dia_text.proofs.faults.Under.end.Goals as goal

pub returns-then-not-is_empty : goal.returns-then-not-is_empty
returns-then-not-is_empty c = λ at faults s h.
    let fault : c.fault_at.result ∷ [] ≡ _ = ap (λ (x : Fault). x ∷ []) c.fault_at.ensures in
    let some = not_none _ _ (sym c.if-not-is_empty.true ∙ c.is_empty.ensures) c.args.self.now.groups.ok.0 in
    subst (λ (fs : List Fault). OnOk c.push.result (AreCounted (faults ++ fs) c.push.new.self.first.items c.push.new.self.count))
    (fault ∙ sym (ends_open c.args.line at _ _ _ s some)) (c.push.ensures faults h)

pub returns-then-len : goal.returns-then-len
returns-then-len c = λ at faults s h.
    let fault : c.fault_at-then-len.result ∷ [] ≡ _ = ap (λ (x : Fault). x ∷ []) c.fault_at-then-len.ensures in
    let none = is_none _ _ (sym c.if-not-is_empty.false ∙ c.is_empty.ensures) c.args.self.now.groups.ok.0 in
    subst (λ (fs : List Fault). OnOk c.push-then-len.result (AreCounted (faults ++ fs) c.push-then-len.new.self.first.items c.push-then-len.new.self.count))
    (fault ∙ sym (ends_long c.args.line at _ _ _ s none c.if-self.true (omega (arith, c.if-len.true, c.len.ensures, c.args.self.now.out.ok.0))))
    (c.push-then-len.ensures faults h)
