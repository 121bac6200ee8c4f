-- The pieces of a text, one after another.
use Rattle.std.proofs.Common.{◌≡◌, ℕ, suc, ◌+◌, ◌-◌, ◌<◌, ◌≤◌, Bool, true, false, cond, List, [], ◌∷◌, ◌++◌, length, take, drop, get_or, sym, ap, ◌∙◌, append_assoc, arith, length-drop}
use Rattle.std.specs.List.{flat_map}
use Rattle.std.proofs.Math.Seq.{take-suc, drop-cons}
use Rattle.std.proofs.lemmas.List.{append-nil, drop_all, get_or-drop}
use Rattle.dia_show.specs.Words.{Word}
use Rattle.dia_make.specs.Numbered.{ends_piece, lacked, numbered, numbered_piece, pieces, quoted_after, with_lacked}

module _ (words : List Word) where
  -- a byte that ends a piece
  pub piece_ended : (made piece rest : List ℕ) (quoted : Bool) (c : ℕ) → ends_piece quoted c ≡ true
      → ((made ++ with_lacked piece (lacked words piece)) ++ c ∷ []) ++ flat_map (numbered_piece words) (pieces [] (quoted_after quoted c) rest)
      ≡ made ++ flat_map (numbered_piece words) (pieces piece quoted (c ∷ rest))
  piece_ended made piece rest quoted c ends =
      let p = with_lacked piece (lacked words piece) in
      let more = flat_map (numbered_piece words) (pieces [] (quoted_after quoted c) rest) in
      ap (λ (x : List ℕ). x ++ more) (append_assoc made p (c ∷ [])) ∙ append_assoc made (p ++ c ∷ []) more
      ∙ ap (λ (b : Bool). made ++ flat_map (numbered_piece words) (cond b ((piece, c ∷ []) ∷ []) [] ++ pieces (cond b [] (piece ++ c ∷ [])) (quoted_after quoted c) rest)) (sym ends)

  -- another byte
  pub piece_goes_on : (made piece rest : List ℕ) (quoted : Bool) (c : ℕ) → ends_piece quoted c ≡ false
      → made ++ flat_map (numbered_piece words) (pieces (piece ++ c ∷ []) (quoted_after quoted c) rest)
      ≡ made ++ flat_map (numbered_piece words) (pieces piece quoted (c ∷ rest))
  piece_goes_on made piece rest quoted c ends =
      ap (λ (b : Bool). made ++ flat_map (numbered_piece words) (cond b ((piece, c ∷ []) ∷ []) [] ++ pieces (cond b [] (piece ++ c ∷ [])) (quoted_after quoted c) rest)) (sym ends)

  -- the last piece
  pub piece_left : (made piece : List ℕ) (quoted : Bool) → made ++ with_lacked piece (lacked words piece) ≡ made ++ flat_map (numbered_piece words) (pieces piece quoted [])
  piece_left made piece quoted =
      let p = with_lacked piece (lacked words piece) in
      ap (λ (x : List ℕ). made ++ x) (sym (append-nil p) ∙ sym (append-nil (p ++ [])))

-- one byte more of a slice
slice_more : (xs : List ℕ) (a b : ℕ) → a ≤ b → b < length xs → take (b - a) (drop a xs) ++ get_or xs b 0 ∷ [] ≡ take ((b + 1) - a) (drop a xs)
slice_more xs a b within below =
    let inside : b - a < length (drop a xs) = (let l = length-drop a xs in omega (arith, l)) in
    let place : a + (b - a) ≡ b = omega arith in
    let same : get_or (drop a xs) (b - a) 0 ≡ get_or xs b 0 = get_or-drop a xs (b - a) 0 ∙ ap (λ (k : ℕ). get_or xs k 0) place in
    let next : suc (b - a) ≡ (b + 1) - a = omega arith in
    ap (λ (x : ℕ). take (b - a) (drop a xs) ++ x ∷ []) (sym same) ∙ sym (take-suc (drop a xs) (b - a) 0 inside) ∙ ap (λ (k : ℕ). take k (drop a xs)) next

-- nothing is between a place and itself
slice_none : (xs : List ℕ) (a : ℕ) → take (a - a) (drop a xs) ≡ []
slice_none xs a = let none : a - a ≡ 0 = omega arith in ap (λ (k : ℕ). take k (drop a xs)) none

-- what begins at a place
rest_from : (xs : List ℕ) (i : ℕ) → i < length xs → drop i xs ≡ get_or xs i 0 ∷ drop (i + 1) xs
rest_from xs i within = let next : suc i ≡ i + 1 = omega arith in drop-cons xs i 0 within ∙ ap (λ (k : ℕ). get_or xs i 0 ∷ drop k xs) next

-- ---- what is made of the bytes in front of a place, of which the last piece begins at `start`

module _ (words : List Word) (text : List ℕ) where
  abbrev pub IsMadeUpTo : List ℕ → ℕ → Bool → ℕ → Type 0
  IsMadeUpTo made start quoted i = made ++ flat_map (numbered_piece words) (pieces (take (i - start) (drop start text)) quoted (drop i text)) ≡ numbered words text

  pub up_to_end : (made next : List ℕ) (start i : ℕ) (quoted after : Bool) → i < length text → ends_piece quoted (get_or text i 0) ≡ true
      → after ≡ quoted_after quoted (get_or text i 0)
      → next ≡ (made ++ with_lacked (take (i - start) (drop start text)) (lacked words (take (i - start) (drop start text)))) ++ get_or text i 0 ∷ []
      → IsMadeUpTo made start quoted i → IsMadeUpTo next (i + 1) after (i + 1)
  up_to_end made next start i quoted after within ends is_after is_next before =
      let c = get_or text i 0 in
      let piece = take (i - start) (drop start text) in
      let rest = drop (i + 1) text in
      ap (λ (x : List ℕ). x ++ flat_map (numbered_piece words) (pieces (take ((i + 1) - (i + 1)) (drop (i + 1) text)) after rest)) is_next
      ∙ ap (λ (p : List ℕ). ((made ++ with_lacked piece (lacked words piece)) ++ c ∷ []) ++ flat_map (numbered_piece words) (pieces p after rest)) (slice_none text (i + 1))
      ∙ ap (λ (q : Bool). ((made ++ with_lacked piece (lacked words piece)) ++ c ∷ []) ++ flat_map (numbered_piece words) (pieces [] q rest)) is_after
      ∙ piece_ended words made piece rest quoted c ends
      ∙ ap (λ (x : List ℕ). made ++ flat_map (numbered_piece words) (pieces piece quoted x)) (sym (rest_from text i within)) ∙ before

  pub up_to_more : (made : List ℕ) (start i : ℕ) (quoted after : Bool) → start ≤ i → i < length text → ends_piece quoted (get_or text i 0) ≡ false
      → after ≡ quoted_after quoted (get_or text i 0) → IsMadeUpTo made start quoted i → IsMadeUpTo made start after (i + 1)
  up_to_more made start i quoted after inside within goes is_after before =
      let c = get_or text i 0 in
      let piece = take (i - start) (drop start text) in
      let rest = drop (i + 1) text in
      ap (λ (p : List ℕ). made ++ flat_map (numbered_piece words) (pieces p after rest)) (sym (slice_more text start i inside within))
      ∙ ap (λ (q : Bool). made ++ flat_map (numbered_piece words) (pieces (piece ++ c ∷ []) q rest)) is_after
      ∙ piece_goes_on words made piece rest quoted c goes
      ∙ ap (λ (x : List ℕ). made ++ flat_map (numbered_piece words) (pieces piece quoted x)) (sym (rest_from text i within)) ∙ before

  pub made_of_all : (made next : List ℕ) (start i : ℕ) (quoted : Bool) → i ≡ length text
      → next ≡ made ++ with_lacked (take (length text - start) (drop start text)) (lacked words (take (length text - start) (drop start text)))
      → IsMadeUpTo made start quoted i → next ≡ numbered words text
  made_of_all made next start i quoted at_end is_next before =
      let none : drop i text ≡ [] = drop_all i text (omega (arith, at_end)) in
      is_next ∙ piece_left words made (take (length text - start) (drop start text)) quoted
      ∙ ap (λ (n : ℕ). made ++ flat_map (numbered_piece words) (pieces (take (n - start) (drop start text)) quoted [])) (sym at_end)
      ∙ ap (λ (x : List ℕ). made ++ flat_map (numbered_piece words) (pieces (take (i - start) (drop start text)) quoted x)) (sym none) ∙ before
