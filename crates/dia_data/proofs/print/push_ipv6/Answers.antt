use Rattle.std.proofs.Common.{◌≡◌, ◌+◌, ◌*◌, List, ℕ, [], ◌∷◌, ◌++◌, get_or, string_bytes, ap, ◌∙◌, append_assoc, arith}
use Rattle.dia_data.specs.Shown.{hex_byte}
use Rattle.dia_data.proofs.AddressGroups.{grouped, grouped_first, grouped_more}
use Rattle.dia_data.proofs.print.push_ipv6.Goals as goal
use Rattle.dia_data.proofs.print.push_ipv6.Goals.{then-i-gt0+in_ok-push, else-i-gt0}

pub loop-i-preserved : goal.loop-i-preserved
loop-i-preserved c =
    let bytes = c.args.bytes.now in
    let old = string_bytes c.args.out.now in
    let i = c.loop-i.i in
    let first = hex_byte (get_or bytes (2 * i) 0) in
    let second = hex_byte (get_or bytes (2 * i + 1) 0) in
    let pushed : (front : List ℕ) → string_bytes c.if-i-gt0.out ≡ old ++ front → string_bytes c.push_hex_byte-in-loop-i.new.out ≡ old ++ ((front ++ first) ++ second) =
    λ front e. c.in_ok-push_hex_byte-2.ensures ∙ ap (λ (s : List ℕ). s ++ second) (c.in_ok-push_hex_byte.ensures ∙ ap (λ (s : List ℕ). s ++ first) e ∙ append_assoc old front first)
    ∙ append_assoc old (front ++ first) second in
    elim c.if-i-gt0.branch [
      | then-i-gt0+in_ok-push w ↦ (
          let colon : string_bytes c.if-i-gt0.out ≡ old ++ (grouped bytes i ++ 58 ∷ []) =
          ap string_bytes w.out-is ∙ w.in_ok-push.ensures.bytes ∙ ap (λ (s : List ℕ). string_bytes c.loop-i.out ++ s) (w.in_ok-push.ensures.ascii (omega arith))
          ∙ ap (λ (s : List ℕ). s ++ 58 ∷ []) c.loop-i.invariant
          ∙ append_assoc old (grouped bytes i) (58 ∷ []) in
          pushed (grouped bytes i ++ 58 ∷ []) colon ∙ ap (λ (s : List ℕ). old ++ s) (grouped_more bytes i w.if-i-gt0.true (omega arith)))
      | else-i-gt0 w ↦ pushed (grouped bytes i) (ap string_bytes w.out-is ∙ c.loop-i.invariant) ∙ ap (λ (s : List ℕ). old ++ s) (grouped_first bytes i (omega arith) (omega arith))
    ]
