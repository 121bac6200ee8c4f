-- Hexadecimal text that is decoded a piece at a time.
use Rattle.std.proofs.Common.{◌≡◌, ℕ, ◌+◌, ◌*◌, ◌-◌, ◌/◌, ◌%◌, ◌⊎◌, ⊎_elim, Option, Some, None, true, Result, Ok, Err, List, [], ◌∷◌, ◌++◌, length, take, drop, refl, sym, ap, subst, ◌∙◌, arith, not}
use Rattle.std.specs.Prelude.{IsOk, MatchResult}
use Rattle.std.specs.List.{AllPass}
use Rattle.std.specs.Result.{result_unwrap_or}
use Rattle.std.proofs.Math.Seq.{take-append_seam}
use Rattle.std.proofs.lemmas.List.{length-append, length-drop, take-append-drop, take_all}
use Rattle.std.proofs.lemmas.List.Elements.{All-tail, All-take, filter-append}
use Rattle.hex.specs.Hex.{decode_of, decode_pairs, decode_sized, digit_or_error, hex_digit_value, is_hex_digit, pair_value, ◌>>=◌}
use Rattle.hex.specs.declared.error.FromHexError.{FromHexError}
use Rattle.hex.proofs.HexLemmas.{decode_of-digits, decode_of-even, decode_of-ok, decode_sized-ok, decode_sized-twice, IsOk-decode_sized, IsOk-written}
use Rattle.hex.proofs.Pairs.{cons_byte, decode_pairs-err_pair, decode_pairs-ok_pair}
use Rattle.dia_ccf.specs.Tokens.{is_white}
use Rattle.dia_run.specs.Texts.{SpellsFirst, SpellsNone, digits_of}

-- ---- digits behind others

-- what two digits mean doesn't stand on their place
pair_moved : (a b i j v : ℕ) (high low : Option ℕ) → (digit_or_error a i high >>= (λ h. digit_or_error b (i + 1) low >>= (λ l. Ok (h * 16 + l)))) ≡ Ok v
    → (digit_or_error a j high >>= (λ h. digit_or_error b (j + 1) low >>= (λ l. Ok (h * 16 + l)))) ≡ Ok v
pair_moved a b i j v (Some h) (Some l) e = e
pair_moved a b i j v (Some h) None e = cc e
pair_moved a b i j v None low e = cc e

-- the first byte of what was decoded, and the bytes behind it
first_byte : (i a b : ℕ) (rest bytes : List ℕ) → decode_pairs i (a ∷ b ∷ rest) ≡ Ok bytes
    → (v : ℕ) × (more : List ℕ) × (pair_value a b i ≡ Ok v) × (decode_pairs (i + 2) rest ≡ Ok more) × (bytes ≡ v ∷ more)
first_byte i a b rest bytes h = by_pair (pair_value a b i) refl
  where
    by_rest : (v : ℕ) → pair_value a b i ≡ Ok v → (r : Result (List ℕ) FromHexError) → decode_pairs (i + 2) rest ≡ r
        → (v : ℕ) × (more : List ℕ) × (pair_value a b i ≡ Ok v) × (decode_pairs (i + 2) rest ≡ Ok more) × (bytes ≡ v ∷ more)
    by_rest v e (Ok more) f =
        (v, more, e, f, ap (λ (r : Result (List ℕ) FromHexError). result_unwrap_or r []) (sym h ∙ decode_pairs-ok_pair i a b v rest e ∙ ap (cons_byte v) f))
    by_rest v e (Err x) f = cc (sym h ∙ decode_pairs-ok_pair i a b v rest e ∙ ap (cons_byte v) f)

    by_pair : (r : Result ℕ FromHexError) → pair_value a b i ≡ r
        → (v : ℕ) × (more : List ℕ) × (pair_value a b i ≡ Ok v) × (decode_pairs (i + 2) rest ≡ Ok more) × (bytes ≡ v ∷ more)
    by_pair (Ok v) e = by_rest v e (decode_pairs (i + 2) rest) refl
    by_pair (Err x) e = cc (sym h ∙ decode_pairs-err_pair i a b x rest e)

-- pairs at another place
pairs_moved : (i j : ℕ) (s bytes : List ℕ) → decode_pairs i s ≡ Ok bytes → decode_pairs j s ≡ Ok bytes
unfolding decode_pairs
pairs_moved i j [] bytes h = h
pairs_moved i j (a ∷ []) bytes h = cc h
pairs_moved i j (a ∷ b ∷ rest) bytes h =
    let (v, more, is_v, is_more, is) = first_byte i a b rest bytes h in
    decode_pairs-ok_pair j a b v rest (pair_moved a b i j v (hex_digit_value a) (hex_digit_value b) is_v)
    ∙ ap (cons_byte v) (pairs_moved (i + 2) (j + 2) rest more is_more) ∙ ap Ok (sym is)

-- pairs behind others
pairs_both : (i j : ℕ) (s t a b : List ℕ) → decode_pairs i s ≡ Ok a → decode_pairs j t ≡ Ok b → decode_pairs i (s ++ t) ≡ Ok (a ++ b)
unfolding decode_pairs
pairs_both i j [] t a b h k =
    let none : [] ≡ a = ap (λ (r : Result (List ℕ) FromHexError). result_unwrap_or r []) h in
    pairs_moved j i t b k ∙ ap (λ (x : List ℕ). Ok (x ++ b)) none
pairs_both i j (x ∷ []) t a b h k = cc h
pairs_both i j (x ∷ y ∷ rest) t a b h k =
    let (v, more, is_v, is_more, is) = first_byte i x y rest a h in
    decode_pairs-ok_pair i x y v (rest ++ t) is_v ∙ ap (cons_byte v) (pairs_both (i + 2) j rest t more b is_more k) ∙ ap (λ (z : List ℕ). Ok (z ++ b)) (sym is)

pub decoded_both : (s t a b : List ℕ) → decode_of s ≡ Ok a → decode_of t ≡ Ok b → decode_of (s ++ t) ≡ Ok (a ++ b)
decoded_both s t a b h k =
    let even = (decode_of-ok s a h).0 in
    let even' = (decode_of-ok t b k).0 in
    let both = length-append s t in
    decode_of-even (s ++ t) (omega (arith, even, even', both))
    ∙ pairs_both 0 0 s t a b (sym (decode_of-even s even) ∙ h) (sym (decode_of-even t even') ∙ k)

-- ---- text that is no hexadecimal

ok_value : (r : Result (List ℕ) FromHexError) → IsOk r → (bytes : List ℕ) × (r ≡ Ok bytes)
ok_value (Ok bytes) h = (bytes, refl)
ok_value (Err e) h = cc h

abbrev holds : ℕ → Type 0
holds c = is_hex_digit c ≡ true

digits_after : (s t : List ℕ) → AllPass is_hex_digit (s ++ t) → AllPass is_hex_digit t
digits_after [] t all = all
digits_after (c ∷ s) t all = digits_after s t (All-tail holds c (s ++ t) all)

-- an even number of digits is left in front of and behind an even number
pub decoded_after : (s t : List ℕ) → length s % 2 ≡ 0 → IsOk (decode_of (s ++ t)) → IsOk (decode_of t)
decoded_after s t even ok =
    let (bytes, is) = ok_value (decode_of (s ++ t)) ok in
    let (all_even, digits, twice, small) = decode_of-ok (s ++ t) bytes is in
    let both = length-append s t in
    let (found, is_found) = decode_of-digits t (omega (arith, even, all_even, both)) (digits_after s t digits) in
    rw is_found refl

-- ---- the digits in front of a place of a text

-- what a slice was decoded to
abbrev Answers : Result (List ℕ) FromHexError → Result Unit FromHexError → List ℕ → Type 0
Answers d r out = MatchResult d (λ bytes. (r ≡ Ok tt) × (out ≡ bytes)) (λ e. r ≡ Err e)

out_of : (d : Result (List ℕ) FromHexError) (r : Result Unit FromHexError) (out : List ℕ) → IsOk r → Answers d r out → d ≡ Ok out
out_of (Ok bytes) r out ok h = ap Ok (sym h.1)
out_of (Err e) r out ok h = let none = (IsOk-written (Err e) r out h).0 ok in cc none

pub written : (s out : List ℕ) (n : ℕ) (r : Result Unit FromHexError) → IsOk r → Answers (decode_sized s n) r out → decode_of s ≡ Ok out
written s out n r ok h =
    let e = out_of (decode_sized s n) r out ok h in
    sym (decode_sized-twice s n (decode_sized-ok s n out e)) ∙ e

pub split_at : (text : List ℕ) (n : ℕ) → digits_of text ≡ digits_of (take n text) ++ digits_of (drop n text)
split_at text n = ap digits_of (sym (take-append-drop n text)) ∙ filter-append (λ c. not (is_white c)) (take n text) (drop n text)

pub spells : (text out more : List ℕ) (n taken : ℕ) → decode_of (digits_of (take taken text)) ≡ Ok out → length out ≡ n
    → SpellsFirst text (take n (out ++ more)) (take (length text - taken) (drop taken text))
spells text out more n taken is size =
    let following = take_all (length text - taken) (drop taken text) (omega (arith, length-drop taken text)) in
    let front : take n (out ++ more) ≡ out = ap (λ (k : ℕ). take k (out ++ more)) (sym size) ∙ take-append_seam out more in
    record {
      digits = digits_of (take taken text);
      parts = split_at text taken ∙ ap (λ (t : List ℕ). digits_of (take taken text) ++ digits_of t) (sym following);
      spells = is ∙ ap Ok (sym front);
    }

digits_before : (s t : List ℕ) → AllPass is_hex_digit (s ++ t) → AllPass is_hex_digit s
digits_before s t all = subst (AllPass is_hex_digit) (take-append_seam s t) (All-take holds (length s) (s ++ t) all)

-- digits that aren't decoded stand in no hexadecimal text, where they are an even number, or all of it
pub spells_none : (text digits out : List ℕ) (n taken : ℕ) (r : Result Unit FromHexError) → digits ≡ digits_of (take taken text)
    → (length digits ≡ 8192) ⊎ (taken ≡ length text) → n ≡ length digits / 2 → ¬ IsOk r → Answers (decode_sized digits n) r out
    → SpellsNone text
spells_none text digits out n taken r are stops half bad h ok =
    let (bytes, is) = ok_value (decode_of (digits_of text)) ok in
    let (even, all, twice, small) = decode_of-ok (digits_of text) bytes is in
    let parts : digits_of text ≡ digits ++ digits_of (drop taken text) = split_at text taken ∙ ap (λ (t : List ℕ). t ++ digits_of (drop taken text)) (sym are) in
    let here = digits_before digits (digits_of (drop taken text)) (subst (AllPass is_hex_digit) parts all) in
    let even_here : length digits % 2 ≡ 0 = ⊎_elim
    (λ (full : length digits ≡ 8192). omega (arith, full))
    (λ (end : taken ≡ length text). let same : digits ≡ digits_of text = are ∙ ap digits_of (take_all taken text (omega (arith, end))) in
    omega (arith, even, ap length same)) stops in
    bad ((IsOk-written (decode_sized digits n) r out h).1 ((IsOk-decode_sized digits n).1 (omega (arith, even_here, half), here)))
