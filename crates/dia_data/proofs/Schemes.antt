-- Bytes that name a scheme, by their front.
use Rattle.std.proofs.Common.{◌≡◌, ℕ, ◌<◌, List, ◌++◌, length, take, drop, map, sym, ap, ◌∙◌, arith, length-append}
use Rattle.std.specs.Char.{to_ascii_lowercase}
use Rattle.std.proofs.Math.Seq.{take-append_seam}
use Rattle.std.proofs.lemmas.List.{take-append-drop, length-drop, length-map}
use Rattle.dia_data.specs.Leaf.{NamesScheme}

pub scheme_from_front : (scheme bytes : List ℕ) → length scheme < length bytes → map to_ascii_lowercase (take (length scheme) bytes) ≡ map to_ascii_lowercase scheme → NamesScheme scheme bytes
scheme_from_front scheme bytes more spelled = record {
  front = take (length scheme) bytes;
  rest = drop (length scheme) bytes;
  parts = sym (take-append-drop (length scheme) bytes);
  spelled = spelled;
  more = omega (arith, length-drop (length scheme) bytes);
}

-- the front of bytes that name a scheme, and that there is more
pub front_from_scheme : (scheme bytes : List ℕ) → NamesScheme scheme bytes → (length scheme < length bytes) × (map to_ascii_lowercase (take (length scheme) bytes) ≡ map to_ascii_lowercase scheme)
front_from_scheme scheme bytes n =
    let width : length n.front ≡ length scheme = sym (length-map n.front to_ascii_lowercase) ∙ ap length n.spelled ∙ length-map scheme to_ascii_lowercase in
    let front : take (length scheme) bytes ≡ n.front = ap (take (length scheme)) n.parts ∙ ap (λ (k : ℕ). take k (n.front ++ n.rest)) (sym width) ∙ take-append_seam n.front n.rest in
    (omega (arith, ap length n.parts, length-append n.front n.rest, n.more), ap (map to_ascii_lowercase) front ∙ n.spelled)
