use Rattle.std.proofs.Common.{◌≡◌, false, true, sym, ◌∙◌}
use Rattle.std.specs.Prelude.{nat_eq, ◌&&◌}
use Rattle.std.proofs.lemmas.Slice.Eq.{slice_eq-Decides}
use Rattle.dia_lint.proofs.NormalParts.{counts_decide, numbers_decide, option_decides, when_differ, when_two}
use Rattle.dia_lint.proofs.normal.Normal.asks_same.Goals as goal
use Rattle.dia_lint.proofs.normal.Normal.asks_same.Goals.{then-eq, else-eq}

pub returns-then-eq-2 : goal.returns-then-eq-2
returns-then-eq-2 c =
    let n = c.args.self.now in
    let m = c.args.other.now in
    elim c.if-eq.branch [
      | then-eq w ↦
          when_two n m c.eq-then-eq-2.result ((slice_eq-Decides counts_decide n.firsts.items m.firsts.items c.eq.result c.eq.ensures).0 w.if-eq.true)
          ((option_decides (λ p q. nat_eq p.0 q.0 && nat_eq p.1 q.1) numbers_decide n.others m.others).0 (sym w.eq-then-eq.ensures ∙ sym w.value-is ∙ c.if-eq-2.true))
          (slice_eq-Decides counts_decide n.anys.keys m.anys.keys c.eq-then-eq-2.result c.eq-then-eq-2.ensures)
      | else-eq w ↦ absurd (let f : true ≡ false = sym c.if-eq-2.true ∙ w.value-is ∙ w.if-eq.false in cc)
    ]

pub returns-else-eq-2 : goal.returns-else-eq-2
returns-else-eq-2 c =
    let n = c.args.self.now in
    let m = c.args.other.now in
    when_differ n m c.if-eq.value c.if-eq-2.false (λ e. elim c.if-eq.branch [
      | then-eq w ↦
          let holds = (option_decides (λ p q. nat_eq p.0 q.0 && nat_eq p.1 q.1) numbers_decide n.others m.others).1 e.1 in
          absurd (let f : true ≡ false = sym holds ∙ sym w.eq-then-eq.ensures ∙ sym w.value-is ∙ c.if-eq-2.false in cc)
      | else-eq w ↦
          let holds = (slice_eq-Decides counts_decide n.firsts.items m.firsts.items c.eq.result c.eq.ensures).1 e.0 in
          absurd (let f : true ≡ false = sym holds ∙ w.if-eq.false in cc)
    ])
