-- The bytes of `CODE:VENDOR`.
use Rattle.std.proofs.Common.{◌≡◌, ◌∙◌, ℕ, ◌+◌, ◌-◌, ◌<◌, ◌≤◌, Bool, true, false, List, ◌++◌, length, drop, sym, ap, arith}
use Rattle.std.specs.Prelude.{◌&&◌, codes, nat_lt}
use Rattle.std.specs.Char.{is_ascii_digit}
use Rattle.std.specs.List.{prefix_len}
use Rattle.std.proofs.lemmas.List.{length-append, length-drop}
use Rattle.std.proofs.lemmas.List.Sums.{prefix_len-le-length}
use Rattle.dia_accepted.specs.Words.{after_code, begins, begins_key, digits_in, key_len}
use Rattle.dia_accepted.proofs.LineParts.{begins_parts}

both : (a b : Bool) → (a && b) ≡ true → (a ≡ true) × (b ≡ true)
both true b e = (let r : true ≡ true = (λ i. true) in r, e)
both false b e = absurd (let f : false ≡ true = e in cc)

-- they are no longer than the text
pub key_within : (text : List ℕ) → begins_key text ≡ true → key_len text ≤ length text
key_within text is =
    let first = both (nat_lt 0 (digits_in text)) (begins (after_code text) (codes ":") && nat_lt 0 (digits_in (drop 1 (after_code text)))) is in
    let second = both (begins (after_code text) (codes ":")) (nat_lt 0 (digits_in (drop 1 (after_code text)))) first.1 in
    let colon : after_code text ≡ codes ":" ++ drop 1 (after_code text) = (begins_parts (after_code text) (codes ":")).0 second.0 in
    let long : length (after_code text) ≡ 1 + length (drop 1 (after_code text)) = ap length colon ∙ length-append (codes ":") (drop 1 (after_code text)) in
    let code = length-drop (digits_in text) text in
    let most = prefix_len-le-length is_ascii_digit text in
    let vendor = prefix_len-le-length is_ascii_digit (drop 1 (after_code text)) in
    omega (arith, long, code, most, vendor)
