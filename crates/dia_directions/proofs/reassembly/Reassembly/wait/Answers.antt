use Rattle.std.proofs.Common.{◌≡◌, ◌<◌, ◌∙◌, ◌+◌, ◌-◌, ◌^◌, true, ap, sym, subst, min, length, List, arith}
use Rattle.dia_directions.specs.Bytes.{part_bytes, piece_bytes}
use Rattle.dia_directions.specs.Order.{Placed, ahead, is_left}
use Rattle.dia_directions.specs.Waits.{AreAhead, counted, placed_of}
use Rattle.dia_directions.specs.declared.waiting.Waiting.{Waiting}
use Rattle.dia_directions.proofs.Gathering.{AreAhead-push, counted-push, is_left_ahead, waits, waits_not, waits_not_next}
use Rattle.dia_directions.proofs.reassembly.Reassembly.wait.Goals as goal

pub invariant_of-self-then-size-gt0 : goal.invariant_of-self-then-size-gt0
invariant_of-self-then-size-gt0 c =
    let old = c.args.self.now in
    let w : Waiting = record { number = c.args.number; piece = c.in_ok-piece.piece } in
    let sized : length (piece_bytes w.piece) ≡ c.size-size.result = ap length c.in_ok-piece.ensures ∙ sym c.size-size.ensures.size in
    let far : 0 < ahead old.next c.args.number = omega arith in
    let here : is_left 0 (placed_of old.next w) ≡ true = is_left_ahead (placed_of old.next w) far (omega (arith, sized)) in
    record {
      ahead = subst (λ (ws : List Waiting). AreAhead old.next ws) (sym c.in_ok-push.ensures.items) (AreAhead-push old.next old.waiting.items w old.ahead here);
      sized = c.saturating_add-self.ensures
          ∙ (let same : min (old.size + c.size-size.result) (2 ^ 64 - 1) ≡ min (counted old.waiting.items + c.size-size.result) (2 ^ 64 - 1) = omega (arith, old.sized) in same)
          ∙ sym (counted-push old.waiting.items w c.size-size.result sized) ∙ ap counted (sym c.in_ok-push.ensures.items);
    }

pub returns-in_ok-push : goal.returns-in_ok-push
returns-in_ok-push c =
    let old = c.args.self.now in
    let w : Waiting = record { number = c.args.number; piece = c.in_ok-piece.piece } in
    let far : 0 < ahead old.next c.args.number = omega arith in
    let some : 0 < length (piece_bytes w.piece) = omega (arith, ap length c.in_ok-piece.ensures, c.size-size.ensures.size) in
    let here : is_left 0 (placed_of old.next w) ≡ true = is_left_ahead (placed_of old.next w) far some in
    ap (λ (ps : List Placed). record { next = old.next; waiting = ps })
    (waits old.next old.waiting.items c.push.new.self.items w (part_bytes c.args.part) old.ahead c.in_ok-push.ensures.items c.in_ok-piece.ensures here)

pub returns-else-size-gt0 : goal.returns-else-size-gt0
returns-else-size-gt0 c =
    let old = c.args.self.now in
    ap (λ (ps : List Placed). record { next = old.next; waiting = ps })
    (waits_not old.next (ahead old.next c.args.number) old.waiting.items (part_bytes c.args.part) old.ahead (omega (arith, c.size-size.ensures.size)))

pub returns-then-number-self : goal.returns-then-number-self
returns-then-number-self c =
    let old = c.args.self.now in
    let zero : ahead old.next c.args.number ≡ 0 = omega arith in
    ap (λ (ps : List Placed). record { next = old.next; waiting = ps })
    (waits_not_next old.next (ahead old.next c.args.number) old.waiting.items (part_bytes c.args.part) old.ahead zero)
