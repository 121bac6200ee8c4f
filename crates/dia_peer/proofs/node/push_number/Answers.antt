use Rattle.std.proofs.Common.{◌≡◌, ℕ, List, ◌∷◌, ◌++◌, ap, ◌∙◌, append_assoc}
use Rattle.dia_peer.proofs.node.push_number.Goals as goal

three : (out a b d x y z : List ℕ) → x ≡ out ++ a → y ≡ x ++ b → z ≡ y ++ d → z ≡ out ++ (a ++ (b ++ d))
three out a b d x y z e f g = g ∙ ap (λ (l : List ℕ). l ++ d) (f ∙ ap (λ (l : List ℕ). l ++ b) e) ∙ append_assoc (out ++ a) b d ∙ append_assoc out a (b ++ d)

pub returns : goal.returns
returns c =
    three _ _ _ _ _ _ _ c.in_ok-extend_from_slice.ensures.items c.in_ok-extend_from_slice-2.ensures.items c.in_ok-extend_from_slice-3.ensures.items
    ∙ (λ i. c.args.out.now.items ++ (c.four_bytes.ensures i ++ (64 ∷ 0 ∷ 0 ∷ 12 ∷ c.four_bytes-2.ensures i)))
