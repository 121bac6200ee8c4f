-- What is seen of a text, piece by piece.
use Rattle.std.proofs.Common.{◌≡◌, ℕ, ◌+◌, ◌-◌, ◌≤◌, List, ◌++◌, length, take, drop, sym, ap, ◌∙◌, subst, append_assoc, arith}
use Rattle.std.specs.Str.{IsUtf8, StartsWithNoChar}
use Rattle.std.proofs.Math.Seq.{take-append-add}
use Rattle.std.proofs.lemmas.List.{take-append-drop, take-take, nil_from_length}
use Rattle.std.proofs.lemmas.Str.{IsUtf8-append, IsUtf8-nil}
use Rattle.dia_data.specs.declared.seen_text.Text.{Text}
use Rattle.dia_data.specs.declared.seen_text.Text.TheVariants.{Open, Broken}
use Rattle.dia_data.specs.State.{IsOpen, IsSeenOfText}
use Rattle.dia_data.proofs.Texts.{IsUtf8-following, length-no_char, StartsWithNoChar-from_take, no_text_within}

-- bytes with none pending are a text, and others are none
pub text_from_open : (pending bytes : List ℕ) → IsOpen pending bytes → length pending ≡ 0 → IsUtf8 bytes
text_from_open pending bytes seen none =
    let empty : IsUtf8 pending = subst IsUtf8 (sym (nil_from_length pending none)) IsUtf8-nil in
    subst IsUtf8 (sym seen.parts) (IsUtf8-append seen.whole pending seen.text empty)

pub length-pending : (pending bytes : List ℕ) → IsOpen pending bytes → IsUtf8 bytes → length pending ≡ 0
length-pending pending bytes seen text =
    length-no_char pending seen.unfinished (IsUtf8-following seen.whole pending seen.text (subst IsUtf8 seen.parts text))

-- what is seen of bytes is seen of them after a text
pub IsSeenOfText-following : (t : Text) (a b : List ℕ) → IsUtf8 a → IsSeenOfText t b → IsSeenOfText t (a ++ b)
IsSeenOfText-following (Open pending) a b text seen = record {
  whole = a ++ seen.whole;
  parts = ap (λ (r : List ℕ). a ++ r) seen.parts ∙ sym (append_assoc a seen.whole _);
  text = IsUtf8-append a seen.whole text seen.text;
  short = seen.short;
  unfinished = seen.unfinished;
}
IsSeenOfText-following Broken a b text seen = λ more u. seen more (IsUtf8-following a (b ++ more) text (subst IsUtf8 (append_assoc a b more) u))

-- a piece with which the pending bytes begin a text: what is seen of the rest of it
pub IsSeenOfText-past : (t : Text) (pending bytes piece : List ℕ) (n : ℕ) → IsOpen pending bytes → n ≤ 4 → IsUtf8 (take n (take 4 (pending ++ piece))) → length pending ≤ n
    → IsSeenOfText t (drop (n - length pending) piece) → IsSeenOfText t (bytes ++ piece)
IsSeenOfText-past t pending bytes piece n seen most front held rest =
    let k : ℕ = n - length pending in
    let joined : take n (take 4 (pending ++ piece)) ≡ pending ++ take k piece =
    take-take n 4 (pending ++ piece) most ∙ ap (λ (m : ℕ). take m (pending ++ piece)) (let e : n ≡ length pending + k = omega arith in e) ∙ take-append-add pending piece k in
    let whole : IsUtf8 (seen.whole ++ (pending ++ take k piece)) = IsUtf8-append seen.whole _ seen.text (subst IsUtf8 joined front) in
    let parts : (seen.whole ++ (pending ++ take k piece)) ++ drop k piece ≡ bytes ++ piece =
    ap (λ (f : List ℕ). f ++ drop k piece) (sym (append_assoc seen.whole pending (take k piece)) ∙ ap (λ (f : List ℕ). f ++ take k piece) (sym seen.parts))
    ∙ append_assoc bytes (take k piece) (drop k piece) ∙ ap (λ (r : List ℕ). bytes ++ r) (take-append-drop k piece) in
    subst (IsSeenOfText t) parts (IsSeenOfText-following t _ (drop k piece) whole rest)

-- a piece with which they begin none
pub IsSeenOfText-within : (t : Text) (pending bytes piece : List ℕ) → IsOpen pending bytes → IsSeenOfText t (pending ++ piece) → IsSeenOfText t (bytes ++ piece)
IsSeenOfText-within t pending bytes piece seen rest =
    let parts : seen.whole ++ (pending ++ piece) ≡ bytes ++ piece = sym (append_assoc seen.whole pending piece) ∙ ap (λ (f : List ℕ). f ++ piece) (sym seen.parts) in
    subst (IsSeenOfText t) parts (IsSeenOfText-following t seen.whole (pending ++ piece) seen.text rest)

pub StartsWithNoChar-within : (pending bytes piece : List ℕ) (n : ℕ) → IsOpen pending bytes → n ≤ length pending → IsUtf8 (take n (take 4 (pending ++ piece)))
    → StartsWithNoChar (drop n (take 4 (pending ++ piece))) → StartsWithNoChar (pending ++ piece)
StartsWithNoChar-within pending bytes piece n seen within front rest =
    let none : n ≡ 0 = no_text_within pending piece n seen.unfinished (subst IsUtf8 (take-take n 4 (pending ++ piece) (omega (arith, seen.short))) front) within in
    StartsWithNoChar-from_take (pending ++ piece) (subst (λ (m : ℕ). StartsWithNoChar (drop m (take 4 (pending ++ piece)))) none rest)
