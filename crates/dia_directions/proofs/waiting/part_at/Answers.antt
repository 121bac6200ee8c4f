use Rattle.std.proofs.Common.{◌≡◌, ℕ, ◌+◌, ◌-◌, ◌<◌, ◌≤◌, ◌∙◌, [], ◌∷◌, ◌++◌, ap, sym, subst, length, get_or, take, drop, None, arith}
use Rattle.std.proofs.lemmas.List.{get_or_append_left, get_or_push, length-append, length-map, length-take, take_all}
use Rattle.dia_directions.specs.Bytes.{part_bytes}
use Rattle.dia_directions.specs.Order.{Placed, byte_at, byte_in}
use Rattle.dia_directions.specs.Waits.{all_placed, placed_of}
use Rattle.dia_directions.proofs.Gets.{get_or-map_read}
use Rattle.dia_directions.proofs.Placing.{byte_at-take_more, byte_at_part, byte_in_before, byte_in_behind}
use Rattle.dia_directions.proofs.waiting.part_at.Goals as goal
use Rattle.dia_directions.proofs.waiting.part_at.Goals.{then-place-first, else-place-first+else-place-first-2}

pub returns-then-place-first-2-clause-found : goal.returns-then-place-first-2-clause-found
returns-then-place-first-2-clause-found c i few =
    let next = c.args.next in
    let ps = all_placed next c.args.waiting.now in
    let last : Placed = record { place = 0; bytes = part_bytes c.args.arrived } in
    let k = c.loop-segment.segment-index in
    let p : Placed = placed_of next c.segment-item.result in
    let fewer : k < length ps = omega (arith, length-map c.args.waiting.now (placed_of next)) in
    let read : p ≡ get_or (ps ++ last ∷ []) k p = get_or-map_read (placed_of next) c.args.waiting.now k c.segment-item.result c.segment-item.is ∙ sym (get_or_append_left ps (last ∷ []) p k fewer) in
    let place = c.args.place in
    let skip = place - c.from-first.result in
    let most = c.loop-segment.end - place in
    let here : part_bytes c.up_to.result ≡ take most (drop skip p.bytes) =
    c.up_to.ensures ∙ ap (λ bs. take most bs) (c.after.ensures ∙ ap (λ bs. drop skip bs) c.as_part-part.ensures) in
    let bounded : length (part_bytes c.up_to.result) ≤ most = omega (arith, ap length here, length-take most (drop skip p.bytes)) in
    byte_at_part (ps ++ last ∷ []) k p place skip most i (part_bytes c.up_to.result)
    (omega (arith, fewer, length-append ps (last ∷ [])))
    (omega (arith, ap (λ (q : Placed). q.place) read))
    (here ∙ ap (λ (q : Placed). take most (drop skip q.bytes)) read)
    few
    (c.loop-segment.invariant.none (place + i) (omega arith) (omega (arith, few, bounded)))

pub loop-segment-preserved : goal.loop-segment-preserved
loop-segment-preserved c =
    let next = c.args.next in
    let ps = all_placed next c.args.waiting.now in
    let last : Placed = record { place = 0; bytes = part_bytes c.args.arrived } in
    let k = c.loop-segment.segment-index in
    let p : Placed = placed_of next c.segment-item.result in
    let few : k < length ps = omega (arith, length-map c.args.waiting.now (placed_of next)) in
    let within : k < length (ps ++ last ∷ []) = omega (arith, few, length-append ps (last ∷ [])) in
    let read : p ≡ get_or (ps ++ last ∷ []) k p = get_or-map_read (placed_of next) c.args.waiting.now k c.segment-item.result c.segment-item.is ∙ sym (get_or_append_left ps (last ∷ []) p k few) in
    let more : (i : ℕ) → byte_at (take k (ps ++ last ∷ [])) i ≡ None → byte_in p i ≡ None → byte_at (take (k + 1) (ps ++ last ∷ [])) i ≡ None =
    λ i none here. byte_at-take_more (ps ++ last ∷ []) k p i within none (subst (λ (q : Placed). byte_in q i ≡ None) read here) in
    record {
      later = elim c.if-place-first.branch [ then-place-first w ↦ omega arith | else-place-first+else-place-first-2 w ↦ omega arith ];
      none = λ (i : ℕ) from to. elim c.if-place-first.branch [
        | then-place-first w ↦ more i (c.loop-segment.invariant.none i from (omega (arith, to))) (byte_in_before p i (omega (arith, to)))
        | else-place-first+else-place-first-2 w ↦ more i (c.loop-segment.invariant.none i from (omega (arith, to))) (byte_in_behind p i (omega (arith, from, ap length c.as_part-part.ensures)))
      ];
    }

pub returns-then-place-size-clause-found : goal.returns-then-place-size-clause-found
returns-then-place-size-clause-found c i few =
    let ps = all_placed c.args.next c.args.waiting.now in
    let last : Placed = record { place = 0; bytes = part_bytes c.args.arrived } in
    let k = c.loop-segment.segment-index in
    let long : length ps ≡ k = omega (arith, length-map c.args.waiting.now (placed_of c.args.next)) in
    let read : get_or (ps ++ last ∷ []) k last ≡ last = get_or_push ps last last k long in
    let place = c.args.place in
    let most = c.loop-segment.end - place in
    let here : part_bytes c.up_to-then-place-size.result ≡ take most (drop place last.bytes) =
    c.up_to-then-place-size.ensures ∙ ap (λ bs. take most bs) c.after-then-place-size.ensures in
    let bounded : length (part_bytes c.up_to-then-place-size.result) ≤ most = omega (arith, ap length here, length-take most (drop place last.bytes)) in
    byte_at_part (ps ++ last ∷ []) k last place place most i (part_bytes c.up_to-then-place-size.result)
    (omega (arith, long, length-append ps (last ∷ [])))
    (omega (arith, ap (λ (q : Placed). q.place) read))
    (here ∙ ap (λ (q : Placed). take most (drop place q.bytes)) (sym read))
    few
    (c.loop-segment.invariant.none (place + i) (omega arith) (omega (arith, few, bounded)))

pub returns-clause-none : goal.returns-clause-none
returns-clause-none c =
    let ps = all_placed c.args.next c.args.waiting.now in
    let last : Placed = record { place = 0; bytes = part_bytes c.args.arrived } in
    let k = c.loop-segment.segment-index in
    let place = c.args.place in
    let long : length ps ≡ k = omega (arith, length-map c.args.waiting.now (placed_of c.args.next)) in
    let read : get_or (ps ++ last ∷ []) k last ≡ last = get_or_push ps last last k long in
    let all : take (k + 1) (ps ++ last ∷ []) ≡ ps ++ last ∷ [] = take_all (k + 1) (ps ++ last ∷ []) (omega (arith, long, length-append ps (last ∷ []))) in
    let here : byte_in last place ≡ None = byte_in_behind last place (omega (arith, c.size-2.ensures.size)) in
    ap (λ qs. byte_at qs place) (sym all)
    ∙ byte_at-take_more (ps ++ last ∷ []) k last place (omega (arith, long, length-append ps (last ∷ []))) (c.loop-segment.invariant.none place (omega arith) (omega arith))
    (subst (λ (q : Placed). byte_in q place ≡ None) (sym read) here)
