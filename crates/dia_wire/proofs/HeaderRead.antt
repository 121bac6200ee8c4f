-- A header as it is read from the front of bytes.
use Rattle.std.proofs.Common.{◌≡◌, ℕ, ◌+◌, ◌≤◌, List, ◌∷◌, ◌++◌, length, take, drop, get_or, ◌-◌, ◌<◌, refl, ap, ◌∙◌, arith}
use Rattle.std.proofs.Math.Seq.{take-add}
use Rattle.std.proofs.lemmas.List.{length-drop, drop_more, take_rest, get_or-drop}
use Rattle.byteorder.specs.Endian.{big_from}
use Rattle.byteorder.specs.Numbers.{big_from-lt}
use Rattle.dia_wire.specs.declared.header.Header.{Header}
use Rattle.dia_wire.specs.Number.{IsField}
use Rattle.dia_wire.specs.Lengths.{three_bytes}
use Rattle.dia_wire.specs.Wire.{IsHead}
use Rattle.dia_wire.proofs.Fields.{field}

-- a number that was read from a place on, as a field
field_from : (i n x : ℕ) (xs : List ℕ) → i + n ≤ length xs → x ≡ big_from 0 n (take (length xs - i) (drop i xs)) → IsField n x (take n (drop i xs))
field_from i n x xs h e = rw (e, take_rest) (field n (drop i xs) (omega (arith, length-drop i xs)))

-- a number of three bytes that was read from a place on
pub below_three_bytes : (i x : ℕ) (xs : List ℕ) → ((k : ℕ) → get_or xs k 0 < 256) → x ≡ big_from 0 3 (take (length xs - i) (drop i xs)) → x < three_bytes
below_three_bytes i x xs bytes e = rw (e, take_rest) (big_from-lt 0 3 (drop i xs) (λ k. rw get_or-drop (bytes (i + k))))

head_parts : (xs : List ℕ) → 20 ≤ length xs
    → take 20 xs ≡ (get_or xs 0 0 ∷ take 3 (drop 1 xs)) ++ (get_or xs 4 0 ∷ take 3 (drop 5 xs)) ++ take 4 (drop 8 xs) ++ take 4 (drop 12 xs) ++ take 4 (drop 16 xs)
head_parts xs h =
    take-add 16 4 xs ∙ ap (λ (f : List ℕ). f ++ take 4 (drop 16 xs)) (
    take-add 12 4 xs ∙ ap (λ (f : List ℕ). f ++ take 4 (drop 12 xs)) (
    take-add 8 4 xs ∙ ap (λ (f : List ℕ). f ++ take 4 (drop 8 xs)) (
    take-add 4 4 xs ∙ ap (λ (f : List ℕ). take 4 xs ++ take 4 f) (drop_more xs 4 0 (omega arith))
    ∙ ap (λ (f : List ℕ). take 4 f ++ (get_or xs 4 0 ∷ take 3 (drop 5 xs))) (drop_more xs 0 0 (omega arith)))))

pub head_at : (xs : List ℕ) (h : Header) (n : ℕ) → 20 ≤ length xs → get_or xs 0 0 ≡ 1 → n ≡ big_from 0 3 (take (length xs - 1) (drop 1 xs))
    → h.flags ≡ get_or xs 4 0 → h.code ≡ big_from 0 3 (take (length xs - 5) (drop 5 xs))
    → h.app ≡ big_from 0 4 (take (length xs - 8) (drop 8 xs)) → h.hop ≡ big_from 0 4 (take (length xs - 12) (drop 12 xs))
    → h.e2e ≡ big_from 0 4 (take (length xs - 16) (drop 16 xs)) → IsHead h n (take 20 xs)
head_at xs h n long one is_len is_flags is_code is_app is_hop is_e2e = record {
  len = take 3 (drop 1 xs);
  code = take 3 (drop 5 xs);
  app = take 4 (drop 8 xs);
  hop = take 4 (drop 12 xs);
  e2e = take 4 (drop 16 xs);
  parts = head_parts xs long ∙ rw (one, ← is_flags) refl;
  length_field = field_from 1 3 n xs (omega arith) is_len;
  code_field = field_from 5 3 h.code xs (omega arith) is_code;
  app_field = field_from 8 4 h.app xs (omega arith) is_app;
  hop_field = field_from 12 4 h.hop xs (omega arith) is_hop;
  e2e_field = field_from 16 4 h.e2e xs (omega arith) is_e2e;
}
