-- Words and the keys that they name.
use Rattle.std.proofs.Common.{◌≡◌, ℕ, zero, suc, ◌<◌, List, [], ◌∷◌, length, get_or, map, take, Option, Some, refl, sym, ap, ◌∙◌, arith, String}
use Rattle.std.specs.Prelude.{IsSome, is_some, slice_get, string_bytes}
use Rattle.std.specs.Global.{Global}
use Rattle.std.proofs.lemmas.List.{take-map}
use Rattle.std.proofs.lemmas.Option.{slice_get_read}
use Rattle.dia_wire.specs.declared.Key.{Key}
use Rattle.dia_book.specs.Dictionary.{Dictionary}
use Rattle.dia_book.proofs.Members.{at_map, into_map}
use Rattle.dia_places.specs.Asked.{AreKeysOf, key_of}

pub slice_get-take : {X : Type 0} (n : ℕ) (xs : List X) (i : ℕ) → i < n → slice_get (take n xs) i ≡ slice_get xs i
slice_get-take zero xs i lt = absurd (omega arith)
slice_get-take (suc n) [] i lt = refl
slice_get-take (suc n) (x ∷ xs) zero lt = refl
slice_get-take (suc n) (x ∷ xs) (suc i) lt = slice_get-take n xs i (omega arith)

abbrev pub bytes_of : String Global → List ℕ
bytes_of word = string_bytes word

pub word_at : (words : List (String Global)) (i : ℕ) (x : String Global) → i < length words → x ≡ get_or words i x → slice_get (map bytes_of words) i ≡ Some (bytes_of x)
word_at words i x lt is = into_map bytes_of words i x (slice_get_read words (length words) i x refl lt is)

pub known_before : (d : Dictionary) (words : List (String Global)) (n i : ℕ) (other : List ℕ) (keys : List Key) → AreKeysOf d (map bytes_of (take n words)) keys → i < n
    → slice_get (map bytes_of words) i ≡ Some other → IsSome (key_of d other)
known_before d words n i other keys are lt at =
    let here : slice_get (map bytes_of (take n words)) i ≡ Some other = ap (λ (xs : List (List ℕ)). slice_get xs i) (sym (take-map bytes_of n words)) ∙ slice_get-take n (map bytes_of words) i lt ∙ at in
    let named : slice_get (map (λ (key : Key). Some key) keys) i ≡ Some (key_of d other) =
    ap (λ (xs : List (Option Key)). slice_get xs i) (sym are) ∙ into_map (key_of d) (map bytes_of (take n words)) i other here in
    let key = at_map (λ (key : Key). Some key) keys i (key_of d other) named in
    ap is_some (sym key.2)
