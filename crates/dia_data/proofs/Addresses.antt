-- Addresses, by their first two bytes and their length.
use Rattle.std.proofs.Common.{◌≡◌, ℕ, ◌+◌, ◌≤◌, List, ◌++◌, length, take, drop, sym, ap, ◌∙◌, arith, length-append}
use Rattle.std.proofs.Math.Seq.{take-append_seam}
use Rattle.std.proofs.lemmas.List.{take-append-drop, length-take, length-drop}
use Rattle.dia_data.specs.Number.{number}
use Rattle.dia_data.specs.Leaf.{IsAddress}

-- what an address says of the offset at which it is cut
pub record IsLong (bytes : List ℕ) : Type 0 where
  pub family : 2 ≤ length bytes
  pub ipv4 : number (take 2 bytes) ≡ 1 → length bytes ≡ 6
  pub ipv6 : number (take 2 bytes) ≡ 2 → length bytes ≡ 18

pub long_from_address : (bytes : List ℕ) → IsAddress bytes → IsLong bytes
long_from_address bytes a =
    let front : take 2 bytes ≡ a.family = ap (take 2) a.parts ∙ ap (λ (n : ℕ). take n (a.family ++ a.rest)) (sym a.width) ∙ take-append_seam a.family a.rest in
    let len : length bytes ≡ 2 + length a.rest = omega (arith, ap length a.parts, length-append a.family a.rest, a.width) in
    record {
      family = omega arith;
      ipv4 = λ e. omega (arith, a.ipv4 (ap number (sym front) ∙ e));
      ipv6 = λ e. omega (arith, a.ipv6 (ap number (sym front) ∙ e));
    }

pub address_from_long : (bytes : List ℕ) → IsLong bytes → IsAddress bytes
address_from_long bytes l = record {
  family = take 2 bytes;
  rest = drop 2 bytes;
  parts = sym (take-append-drop 2 bytes);
  width = omega (arith, length-take 2 bytes, l.family);
  ipv4 = λ e. omega (arith, length-drop 2 bytes, l.ipv4 e);
  ipv6 = λ e. omega (arith, length-drop 2 bytes, l.ipv6 e);
}
