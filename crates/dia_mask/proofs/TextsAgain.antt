-- New texts that their formats accept as they accept the old ones.
use Rattle.std.proofs.Common.{◌≡◌, ℕ, ◌+◌, ◌==◌, false, get_or, ◌-◌, ◌<◌, ◌≤◌, ◌/◌, ◌%◌, ◌&&◌, Bool, true, List, [], ◌∷◌, ◌++◌, length, map, take, drop, reverse, replicate, All, Option, Some, None, refl, sym, ap, subst, ◌∙◌, inl, inr, arith, rules, tests, encode_utf8_all, IsUtf8, mod-lt, suc, zero, min, codes}
use Rattle.std.specs.Prelude.{◌↔◌, if◌then◌else◌}
use Rattle.std.specs.Char.{IsScalar, to_ascii_lowercase}
use Rattle.std.specs.Str.{all_scalars, is_utf8, chars}
use Rattle.std.proofs.lemmas.Bool.Decides.{nat_tests}
use Rattle.std.proofs.lemmas.List.{length-map, length-replicate, replicate_more, reverse-append, take_at, drop_at}
use Rattle.std.proofs.lemmas.List.Elements.{All-append, All-cons, All-drop, All-head, All-nil, All-replicate, All-same, All-tail, All-take}
use Rattle.std.proofs.lemmas.Str.{IsUtf8-drop, chars-IsAscii, encodes-IsAscii, is_utf8-from_IsUtf8, scalars-chars}
use Rattle.dia_data.specs.Leaf.{IsGraphic, IsIdentity, IsUri, NamesScheme}
use Rattle.dia_data.specs.Plain.{DiameterIdentity, DiameterUri, Utf8String}
use Rattle.dia_mask.specs.declared.kinds.Kind.{Kind}
use Rattle.dia_mask.specs.declared.kinds.Kind.TheVariants.{Digit, Small, Capital, Two, Three, Four}
use Rattle.dia_mask.specs.Kinds.{character_at, from_last, kind_of, size_of, word_at}
use Rattle.dia_mask.specs.Replaced.{IsText, Numbering, behind_slashes, kinds_of, new_text, new_utf8, new_word}
use Rattle.dia_mask.proofs.Backwards.{some_size}
use Rattle.dia_mask.proofs.Characters.{after_other, kinds_more}
use Rattle.dia_mask.proofs.Replacing.{graphic_ascii, graphic_utf8}
use Rattle.dia_mask.proofs.SameLengths.{after_kind, utf8_size}

reverse_all : {A : Type 0} (P : A → Type 0) (xs : List A) → All P xs → All P (reverse xs)
reverse_all P [] h = h
reverse_all P (x ∷ xs) h =
    All-same P (reverse (x ∷ xs)) (reverse xs ++ x ∷ []) (reverse-append (x ∷ []) xs)
    (All-append P (reverse xs) (x ∷ []) (reverse_all P xs (All-tail P x xs h)) (All-cons P x [] (All-head P x xs h) (All-nil P)))

-- ---- characters of new texts

module _ (P : ℕ → Type 0) where
  -- each character of a kind
  abbrev AllOf : Kind → Type 0
  AllOf k = (i : ℕ) → i < size_of k → P (character_at k i)

  from_last_all : (ks : List Kind) (n : ℕ) → All AllOf ks → All P (from_last ks n)
  from_last_all [] n h = All-nil P
  from_last_all (k ∷ ks) n h =
      All-cons P (character_at k (n % size_of k)) (from_last ks (n / size_of k)) (All-head AllOf k ks h (n % size_of k) (mod-lt n (some_size k)))
      (from_last_all ks (n / size_of k) (All-tail AllOf k ks h))

  word_all : (kinds : List Kind) (n : ℕ) → All AllOf kinds → All P (word_at kinds n)
  word_all kinds n h = reverse_all P (from_last (reverse kinds) n) (from_last_all (reverse kinds) n (reverse_all AllOf kinds h))

  module _ (numbers : Numbering) (close : (c : ℕ) (k : Kind) → kind_of c ≡ Some k → P c → AllOf k) where
    text_step : (word cs : List ℕ) (c : ℕ) → (o : Option Kind) → kind_of c ≡ o → P c → All AllOf (kinds_of word)
        → (All AllOf (kinds_of (word ++ c ∷ [])) → All P (new_text numbers (word ++ c ∷ []) cs)) → All P (new_text numbers [] cs) → All P (new_text numbers word (c ∷ cs))
    text_step word cs c (Some k) is here h longer rest =
        All-same P (new_text numbers word (c ∷ cs)) (new_text numbers (word ++ c ∷ []) cs) (after_kind numbers word cs c k is)
        (longer (All-same AllOf (kinds_of (word ++ c ∷ [])) (kinds_of word ++ k ∷ []) (kinds_more word c k is)
        (All-append AllOf (kinds_of word) (k ∷ []) h (All-cons AllOf k [] (close c k is here) (All-nil AllOf)))))
    text_step word cs c None is here h longer rest =
        All-same P (new_text numbers word (c ∷ cs)) (new_word numbers word ++ c ∷ new_text numbers [] cs) (after_other numbers word cs c is)
        (All-append P (new_word numbers word) (c ∷ new_text numbers [] cs) (word_all (kinds_of word) (numbers.texts word) h) (All-cons P c (new_text numbers [] cs) here rest))

    text_all : (word cs : List ℕ) → All AllOf (kinds_of word) → All P cs → All P (new_text numbers word cs)
    text_all word [] h all = word_all (kinds_of word) (numbers.texts word) h
    text_all word (c ∷ cs) h all =
        text_step word cs c (kind_of c) refl (All-head P c cs all) h (λ more. text_all (word ++ c ∷ []) cs more (All-tail P c cs all)) (text_all [] cs (All-nil AllOf) (All-tail P c cs all))

-- ---- scalar values

all_of_scalars : (cs : List ℕ) → all_scalars cs ≡ true → All IsScalar cs
all_of_scalars [] h = All-nil IsScalar
all_of_scalars (c ∷ cs) h = All-cons IsScalar c cs (let e : IsScalar c = search (rules, tests) in e) (all_of_scalars cs (search (rules, tests)))

scalars_of_all : (cs : List ℕ) → All IsScalar cs → all_scalars cs ≡ true
scalars_of_all [] h = refl
scalars_of_all (c ∷ cs) h = ap (λ (b : Bool). b && all_scalars cs) (All-head IsScalar c cs h) ∙ scalars_of_all cs (All-tail IsScalar c cs h)

each_scalar : (k : Kind) (i : ℕ) → i < size_of k → IsScalar (character_at k i)
each_scalar Digit i small = let h : i < 10 = small in grind (arith, nat_tests, h)
each_scalar Small i small = let h : i < 26 = small in grind (arith, nat_tests, h)
each_scalar Capital i small = let h : i < 26 = small in grind (arith, nat_tests, h)
each_scalar Two i small = let h : i < 1920 = small in grind (arith, nat_tests, h)
each_scalar Three i small = let h : i < 61440 = small in grind (arith, nat_tests, h)
each_scalar Four i small = let h : i < 1048576 = small in grind (arith, nat_tests, h)

pub text_utf8 : (numbers : Numbering) (bytes : List ℕ) → IsUtf8 bytes → IsUtf8 (new_utf8 numbers bytes)
text_utf8 numbers bytes u =
    let new = new_text numbers [] (chars bytes) in
    (new, (scalars_of_all new (text_all IsScalar numbers (λ c k is here. each_scalar k) [] (chars bytes) (All-nil (AllOf IsScalar)) (all_of_scalars (chars bytes) (scalars-chars bytes u))), refl))

-- ---- graphic characters

graphic_kind : (c : ℕ) (k : Kind) → kind_of c ≡ Some k → IsGraphic c → (i : ℕ) → i < size_of k → IsGraphic (character_at k i)
graphic_kind c Digit is here i small = let h : i < 10 = small in (omega arith, omega arith)
graphic_kind c Small is here i small = let h : i < 26 = small in (omega arith, omega arith)
graphic_kind c Capital is here i small = let h : i < 26 = small in (omega arith, omega arith)
graphic_kind c Two is here i small = absurd (grind (arith, is, here.1))
graphic_kind c Three is here i small = absurd (grind (arith, is, here.1))
graphic_kind c Four is here i small = absurd (grind (arith, is, here.1))

pub text_graphic : (numbers : Numbering) (bytes : List ℕ) → All IsGraphic bytes → All IsGraphic (new_utf8 numbers bytes)
text_graphic numbers bytes all =
    let new = new_text numbers [] (chars bytes) in
    let graphic = text_all IsGraphic numbers graphic_kind [] (chars bytes) (All-nil (AllOf IsGraphic)) (All-same IsGraphic (chars bytes) bytes (chars-IsAscii bytes (graphic_ascii bytes all)) all) in
    All-same IsGraphic (encode_utf8_all new) new (encodes-IsAscii new (graphic_ascii new graphic)) graphic

-- ---- identities

all_spaces : (n : ℕ) → IsIdentity (replicate n 32) → ⊥
all_spaces zero h = omega (arith, h.0)
all_spaces (suc n) h = let g : IsGraphic 32 = All-head IsGraphic 32 (replicate n 32) h.1 in omega (arith, g.0)

pub identity_again : (numbers : Numbering) (bytes new : List ℕ) → IsText numbers DiameterIdentity 32 bytes new → IsIdentity bytes ↔ IsIdentity new
identity_again numbers bytes new (inl (leaf, is)) =
    let same : new_utf8 numbers bytes ≡ new = sym is in
    (λ _. subst IsIdentity same (subst (λ (n : ℕ). 0 < n) (sym (utf8_size numbers bytes (graphic_utf8 0 bytes leaf.1))) leaf.0, text_graphic numbers bytes leaf.1), λ _. leaf)
identity_again numbers bytes new (inr (no_leaf, is)) = (λ h. absurd (no_leaf h), λ h. absurd (all_spaces (length bytes) (subst IsIdentity is h)))

-- ---- texts in UTF-8

no_text : is_utf8 (255 ∷ []) ≡ false
unfolding is_utf8 chars
no_text = refl

-- bytes ff are no text
all_ff : (n : ℕ) → IsUtf8 (replicate n 255) → n ≡ 0
all_ff zero u = refl
all_ff (suc n) u =
    let bytes : List ℕ = replicate (suc n) 255 in
    let long : n ≤ length bytes = omega (arith, length-replicate {A = ℕ} (suc n) 255) in
    let each = All-replicate (λ (b : ℕ). b ≡ 255) (suc n) 255 refl in
    let last : drop n bytes ≡ 255 ∷ [] = ap (drop n) (ap (λ (k : ℕ). replicate {A = ℕ} k 255) (let e : suc n ≡ n + 1 = omega arith in e) ∙ sym (replicate_more n 255))
    ∙ drop_at (replicate {A = ℕ} n 255) (255 ∷ []) n (length-replicate {A = ℕ} n 255) in
    let whole = IsUtf8-drop bytes n u (long, λ within high. let e = each n 0 within in omega (arith, e)) in
    true_false (is_utf8 (255 ∷ [])) (is_utf8-from_IsUtf8 (255 ∷ []) (subst IsUtf8 last whole)) no_text
  where
    true_false : (b : Bool) → b ≡ true → b ≡ false → suc n ≡ 0
    true_false b t f = absurd (let z : true ≡ false = sym t ∙ f in cc)

pub utf8_again : (numbers : Numbering) (bytes new : List ℕ) → IsText numbers Utf8String 255 bytes new → IsUtf8 bytes ↔ IsUtf8 new
utf8_again numbers bytes new (inl (leaf, is)) = (λ _. subst IsUtf8 (sym is) (text_utf8 numbers bytes leaf), λ _. leaf)
utf8_again numbers bytes new (inr (no_leaf, is)) =
    (λ h. absurd (no_leaf h), λ h. absurd (no_leaf (none bytes (all_ff (length bytes) (subst IsUtf8 is h)))))
  where
    none : (bytes : List ℕ) → length bytes ≡ 0 → IsUtf8 bytes
    none [] is = ([], (refl, refl))
    none (b ∷ bs) is = absurd (omega (arith, is))

-- ---- URIs

lower_colon : (c : ℕ) → to_ascii_lowercase c ≡ 58 → c ≡ 58
lower_colon c is = grind (arith, nat_tests, is)

lower_s : (c : ℕ) → to_ascii_lowercase c ≡ 115 → (c == 58) ≡ false
lower_s c is = grind (arith, nat_tests, is)

abbrev lower : List ℕ → List ℕ
lower xs = map to_ascii_lowercase xs

fourth : (xs ys : List ℕ) → xs ≡ ys → get_or xs 3 0 ≡ get_or ys 3 0
fourth xs ys is = ap (λ (t : List ℕ). get_or t 3 0) is

-- the text of a URI begins behind its scheme
pub behind_aaa : (front rest : List ℕ) → lower front ≡ lower (codes "aaa://") → behind_slashes (front ++ rest) ≡ 6
behind_aaa (a ∷ b ∷ c ∷ d ∷ e ∷ f ∷ []) rest is =
    let colon : d ≡ 58 = lower_colon d (fourth _ _ is) in
    ap (λ (x : ℕ). min (length (a ∷ b ∷ c ∷ d ∷ e ∷ f ∷ rest)) (if x == 58 then 6 else 7)) colon ∙ omega arith
behind_aaa [] rest is = absurd (omega (arith, ap length is))
behind_aaa (a ∷ []) rest is = absurd (omega (arith, ap length is))
behind_aaa (a ∷ b ∷ []) rest is = absurd (omega (arith, ap length is))
behind_aaa (a ∷ b ∷ c ∷ []) rest is = absurd (omega (arith, ap length is))
behind_aaa (a ∷ b ∷ c ∷ d ∷ []) rest is = absurd (omega (arith, ap length is))
behind_aaa (a ∷ b ∷ c ∷ d ∷ e ∷ []) rest is = absurd (omega (arith, ap length is))
behind_aaa (a ∷ b ∷ c ∷ d ∷ e ∷ f ∷ g ∷ more) rest is = absurd (omega (arith, ap length is))

pub behind_aaas : (front rest : List ℕ) → lower front ≡ lower (codes "aaas://") → behind_slashes (front ++ rest) ≡ 7
behind_aaas (a ∷ b ∷ c ∷ d ∷ e ∷ f ∷ g ∷ []) rest is =
    let other : (d == 58) ≡ false = lower_s d (fourth _ _ is) in
    ap (λ (x : Bool). min (length (a ∷ b ∷ c ∷ d ∷ e ∷ f ∷ g ∷ rest)) (if x then 6 else 7)) other ∙ omega arith
behind_aaas [] rest is = absurd (omega (arith, ap length is))
behind_aaas (a ∷ []) rest is = absurd (omega (arith, ap length is))
behind_aaas (a ∷ b ∷ []) rest is = absurd (omega (arith, ap length is))
behind_aaas (a ∷ b ∷ c ∷ []) rest is = absurd (omega (arith, ap length is))
behind_aaas (a ∷ b ∷ c ∷ d ∷ []) rest is = absurd (omega (arith, ap length is))
behind_aaas (a ∷ b ∷ c ∷ d ∷ e ∷ []) rest is = absurd (omega (arith, ap length is))
behind_aaas (a ∷ b ∷ c ∷ d ∷ e ∷ f ∷ []) rest is = absurd (omega (arith, ap length is))
behind_aaas (a ∷ b ∷ c ∷ d ∷ e ∷ f ∷ g ∷ h ∷ more) rest is = absurd (omega (arith, ap length is))

module _ (numbers : Numbering) (bytes new : List ℕ) (graphic : All IsGraphic bytes)
    (is : new ≡ take (behind_slashes bytes) bytes ++ new_utf8 numbers (drop (behind_slashes bytes) bytes)) where
  rest_graphic : All IsGraphic new
  rest_graphic =
      let n = behind_slashes bytes in
      All-same IsGraphic new (take n bytes ++ new_utf8 numbers (drop n bytes)) is
      (All-append IsGraphic (take n bytes) (new_utf8 numbers (drop n bytes)) (All-take IsGraphic n bytes graphic) (text_graphic numbers (drop n bytes) (All-drop IsGraphic n bytes graphic)))

  -- the scheme stays, and something stays behind it
  scheme_again : (scheme : List ℕ) (n : NamesScheme scheme bytes) → behind_slashes bytes ≡ length n.front → NamesScheme scheme new
  scheme_again scheme n place =
      let here : take (behind_slashes bytes) bytes ≡ n.front = ap (λ (k : ℕ). take k bytes) place ∙ ap (take (length n.front)) n.parts ∙ take_at n.front n.rest (length n.front) refl in
      let there : drop (behind_slashes bytes) bytes ≡ n.rest = ap (λ (k : ℕ). drop k bytes) place ∙ ap (drop (length n.front)) n.parts ∙ drop_at n.front n.rest (length n.front) refl in
      let size = utf8_size numbers (drop (behind_slashes bytes) bytes) (graphic_utf8 (behind_slashes bytes) bytes graphic) in
      record {
        front = n.front;
        rest = new_utf8 numbers (drop (behind_slashes bytes) bytes);
        parts = is ∙ ap (λ (t : List ℕ). t ++ new_utf8 numbers (drop (behind_slashes bytes) bytes)) here;
        spelled = n.spelled;
        more = omega (arith, size, ap length there, n.more);
      }

-- `x` begins no scheme
no_scheme : (n : ℕ) (scheme : List ℕ) (s : ℕ) → s ≡ 97 → NamesScheme (s ∷ scheme) (replicate n 120) → ⊥
no_scheme n scheme s first h = front_of n h.front h.rest h.parts (h.spelled)
  where
    front_of : (n : ℕ) (front rest : List ℕ) → replicate n 120 ≡ front ++ rest → lower front ≡ to_ascii_lowercase s ∷ lower scheme → ⊥
    front_of n [] rest parts spelled = omega (arith, ap length spelled)
    front_of zero (f ∷ fs) rest parts spelled = omega (arith, ap length parts)
    front_of (suc n) (f ∷ fs) rest parts spelled =
        let x : 120 ≡ f = ap (λ (t : List ℕ). get_or t 0 0) parts in
        let a : to_ascii_lowercase f ≡ to_ascii_lowercase s = ap (λ (t : List ℕ). get_or t 0 0) spelled in
        let e : to_ascii_lowercase 120 ≡ to_ascii_lowercase 97 = ap to_ascii_lowercase x ∙ a ∙ ap to_ascii_lowercase first in
        omega (arith, e)

pub uri_again : (numbers : Numbering) (bytes new : List ℕ) → IsText numbers DiameterUri 120 bytes new → IsUri bytes ↔ IsUri new
uri_again numbers bytes new (inl ((inl n, graphic), is)) =
    let place = ap behind_slashes n.parts ∙ behind_aaa n.front n.rest n.spelled ∙ sym (sym (length-map n.front to_ascii_lowercase) ∙ ap length n.spelled) in
    (λ _. (inl (scheme_again numbers bytes new graphic is (codes "aaa://") n place), rest_graphic numbers bytes new graphic is), λ _. (inl n, graphic))
uri_again numbers bytes new (inl ((inr n, graphic), is)) =
    let place = ap behind_slashes n.parts ∙ behind_aaas n.front n.rest n.spelled ∙ sym (sym (length-map n.front to_ascii_lowercase) ∙ ap length n.spelled) in
    (λ _. (inr (scheme_again numbers bytes new graphic is (codes "aaas://") n place), rest_graphic numbers bytes new graphic is), λ _. (inr n, graphic))
uri_again numbers bytes new (inr (no_leaf, is)) = (
  λ h. absurd (no_leaf h),
  λ h. let u = subst IsUri is h in elim u.0 [
    | inl n ↦ absurd (no_scheme (length bytes) (codes "aa://") 97 refl n)
    | inr n ↦ absurd (no_scheme (length bytes) (codes "aas://") 97 refl n)
  ],
)
