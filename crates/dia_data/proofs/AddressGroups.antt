-- The groups of an address, one by one.
use Rattle.std.proofs.Common.{◌≡◌, ℕ, ◌+◌, ◌*◌, ◌-◌, ◌<◌, ◌≤◌, List, [], ◌∷◌, ◌++◌, length, take, get_or, refl, sym, ap, ◌∙◌, subst, append_assoc, arith}
use Rattle.std.specs.List.{join_with_byte}
use Rattle.std.proofs.lemmas.List.{take_more, length-take}
use Rattle.dia_data.specs.Shown.{groups, hex_byte}

-- one piece more
join_with_byte-push : (c : ℕ) (pieces : List (List ℕ)) (x : List ℕ) → 0 < length pieces → join_with_byte c (pieces ++ x ∷ []) ≡ join_with_byte c pieces ++ (c ∷ x)
join_with_byte-push c [] x some = absurd (omega arith)
join_with_byte-push c (p ∷ []) x some = refl
join_with_byte-push c (p ∷ q ∷ pieces) x some =
    ap (λ (r : List ℕ). p ++ (c ∷ r)) (join_with_byte-push c (q ∷ pieces) x (omega arith)) ∙ sym (append_assoc p (c ∷ join_with_byte c (q ∷ pieces)) (c ∷ x))

-- two bytes more are a group more
groups-push : (bytes : List ℕ) (k a b : ℕ) → length bytes ≡ 2 * k → groups (bytes ++ a ∷ b ∷ []) ≡ groups bytes ++ (hex_byte a ++ hex_byte b) ∷ []
groups-push [] k a b even = refl
groups-push (x ∷ []) k a b even = absurd (omega arith)
groups-push (x ∷ y ∷ bytes) k a b even = ap (λ (gs : List (List ℕ)). (hex_byte x ++ hex_byte y) ∷ gs) (groups-push bytes (k - 1) a b (omega arith))

length-groups : (bytes : List ℕ) → 2 ≤ length bytes → 0 < length (groups bytes)
length-groups [] two = omega arith
length-groups (x ∷ []) two = omega arith
length-groups (x ∷ y ∷ bytes) two = omega arith

take_two : (bytes : List ℕ) (i : ℕ) → 2 * i + 1 < length bytes → take (2 * (i + 1)) bytes ≡ take (2 * i) bytes ++ get_or bytes (2 * i) 0 ∷ get_or bytes (2 * i + 1) 0 ∷ []
take_two bytes i lt =
    let n : 2 * (i + 1) ≡ 2 * i + 1 + 1 = omega arith in
    let b : ℕ = get_or bytes (2 * i + 1) 0 in
    ap (λ (k : ℕ). take k bytes) n ∙ take_more bytes (2 * i + 1) 0 lt ∙ ap (λ (f : List ℕ). f ++ b ∷ []) (take_more bytes (2 * i) 0 (omega arith))
    ∙ append_assoc (take (2 * i) bytes) (get_or bytes (2 * i) 0 ∷ []) (b ∷ [])

-- the groups of the first i pairs of bytes
abbrev pub grouped : List ℕ → ℕ → List ℕ
grouped bytes i = join_with_byte 58 (groups (take (2 * i) bytes))

grouped_once : (bytes : List ℕ) → 1 < length bytes → (grouped bytes 0 ++ hex_byte (get_or bytes 0 0)) ++ hex_byte (get_or bytes 1 0) ≡ grouped bytes 1
grouped_once [] lt = absurd (omega arith)
grouped_once (a ∷ []) lt = absurd (omega arith)
grouped_once (a ∷ b ∷ bytes) lt = refl

-- the first group has no colon before it
pub grouped_first : (bytes : List ℕ) (i : ℕ) → i ≡ 0 → 2 * i + 1 < length bytes
    → (grouped bytes i ++ hex_byte (get_or bytes (2 * i) 0)) ++ hex_byte (get_or bytes (2 * i + 1) 0) ≡ grouped bytes (i + 1)
grouped_first bytes i zero_ lt =
    subst (λ (k : ℕ). (grouped bytes k ++ hex_byte (get_or bytes (2 * k) 0)) ++ hex_byte (get_or bytes (2 * k + 1) 0) ≡ grouped bytes (k + 1)) (sym zero_) (grouped_once bytes (omega arith))

-- each later one follows a colon
pub grouped_more : (bytes : List ℕ) (i : ℕ) → 0 < i → 2 * i + 1 < length bytes
    → ((grouped bytes i ++ 58 ∷ []) ++ hex_byte (get_or bytes (2 * i) 0)) ++ hex_byte (get_or bytes (2 * i + 1) 0) ≡ grouped bytes (i + 1)
grouped_more bytes i some lt =
    let a : List ℕ = hex_byte (get_or bytes (2 * i) 0) in
    let b : List ℕ = hex_byte (get_or bytes (2 * i + 1) 0) in
    let more : grouped bytes (i + 1) ≡ grouped bytes i ++ (58 ∷ (a ++ b)) =
    ap (λ (f : List ℕ). join_with_byte 58 (groups f)) (take_two bytes i lt)
    ∙ ap (join_with_byte 58) (groups-push (take (2 * i) bytes) i _ _ (omega (arith, length-take (2 * i) bytes)))
    ∙ join_with_byte-push 58 (groups (take (2 * i) bytes)) (a ++ b) (length-groups (take (2 * i) bytes) (omega (arith, length-take (2 * i) bytes))) in
    append_assoc (grouped bytes i ++ 58 ∷ []) a b ∙ append_assoc (grouped bytes i) (58 ∷ []) (a ++ b) ∙ sym more
