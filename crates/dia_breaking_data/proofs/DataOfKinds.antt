-- Shortest data of one kind that is none of another, where no number is sought.
use Rattle.std.proofs.Common.{◌≡◌, ℕ, zero, suc, ◌+◌, ◌*◌, ◌<◌, ◌≤◌, Bool, true, false, ◌&&◌, List, [], ◌∷◌, length, get_or, Option, Some, None, All, refl, sym, ap, ◌∙◌, arith, inl, inr}
use Rattle.std.specs.Prelude.{⊤, nat_lt, ◌==◌, codes}
use Rattle.std.specs.Str.{IsUtf8, is_utf8, chars}
use Rattle.std.proofs.lemmas.Str.{IsUtf8-nil, is_utf8-from_IsUtf8}
use Rattle.std.proofs.lemmas.Bool.{ltb-true, ltb-false}
use Rattle.dia_data.specs.Plain.{Utf8String, DiameterIdentity, DiameterUri}
use Rattle.dia_data.specs.Leaf.{IsAddress, IsGraphic, IsIdentity, IsUri, NamesScheme}
use Rattle.dia_data.proofs.Addresses.{long_from_address, address_from_long}
use Rattle.dia_data.proofs.Schemes.{front_from_scheme}
use Rattle.dia_data.proofs.FormatsBelow.{leaf_below}
use Rattle.dia_breaking_data.specs.Shortest.{AreBytes}
use Rattle.dia_breaking_data.specs.Kinds.{Kind, Octets, Four, Eight, Level, Host, Text, Identity, Link, Listed, IsOf, IsShortestOf}

-- shortest data of the first kind that is none of the second, where no number is sought
abbrev pub of_kinds : Kind → Kind → Option (List ℕ)
of_kinds f Octets = None
of_kinds Level g = None
of_kinds (Listed ranges) g = None
of_kinds Octets Text = Some (255 ∷ [])
of_kinds Octets g = Some []
of_kinds Text Text = None
of_kinds Text g = Some []
of_kinds Four Four = None
of_kinds Four Text = Some (255 ∷ 255 ∷ 255 ∷ 255 ∷ [])
of_kinds Four Host = Some (0 ∷ 1 ∷ 0 ∷ 0 ∷ [])
of_kinds Four g = Some (0 ∷ 0 ∷ 0 ∷ 0 ∷ [])
of_kinds Eight Eight = None
of_kinds Eight Text = Some (255 ∷ 255 ∷ 255 ∷ 255 ∷ 255 ∷ 255 ∷ 255 ∷ 255 ∷ [])
of_kinds Eight Host = Some (0 ∷ 1 ∷ 0 ∷ 0 ∷ 0 ∷ 0 ∷ 0 ∷ 0 ∷ [])
of_kinds Eight g = Some (0 ∷ 0 ∷ 0 ∷ 0 ∷ 0 ∷ 0 ∷ 0 ∷ 0 ∷ [])
of_kinds Host Host = None
of_kinds Host Text = Some (255 ∷ 255 ∷ [])
of_kinds Host g = Some (0 ∷ 0 ∷ [])
of_kinds Identity Identity = None
of_kinds Identity Text = None
of_kinds Identity g = Some (97 ∷ [])
of_kinds Link Link = None
of_kinds Link Identity = None
of_kinds Link Text = None
of_kinds Link Host = None
of_kinds Link g = Some (97 ∷ 97 ∷ 97 ∷ 58 ∷ 47 ∷ 47 ∷ 97 ∷ [])

-- ---- what data of a kind cannot be without

lt_true : (a b : ℕ) → a < b → nat_lt a b ≡ true
lt_true a b h = by (nat_lt a b) refl
  where
    by : (t : Bool) → nat_lt a b ≡ t → t ≡ true
    by true e = refl
    by false e = let le = ltb-false a b e in absurd (omega (arith, h, le))

-- the first byte is graphic
abbrev begins : List ℕ → Bool
begins [] = false
begins (b ∷ bs) = nat_lt 32 b

all_begin : (bytes : List ℕ) → 0 < length bytes → All IsGraphic bytes → begins bytes ≡ true
all_begin [] some all = absurd (omega (arith, some))
all_begin (b ∷ bs) some all = let g = (all 0 0 (omega arith)).0 in lt_true 32 b (omega (arith, g))

abbrev may_be : Kind → List ℕ → Bool
may_be Octets bytes = true
may_be Four bytes = length bytes == 4
may_be Eight bytes = length bytes == 8
may_be Level bytes = false
may_be Host bytes = nat_lt 1 (length bytes)
may_be Text bytes = is_utf8 bytes
may_be Identity bytes = begins bytes
may_be Link bytes = nat_lt 6 (length bytes) && begins bytes
may_be (Listed ranges) bytes = length bytes == 4

both_true : (a b : Bool) → a ≡ true → b ≡ true → a && b ≡ true
both_true true true e f = refl
both_true a b e f = absurd (cc)

uri_long : (bytes : List ℕ) → IsUri bytes → 6 < length bytes
uri_long bytes (inl n, all) = let f = (front_from_scheme (codes "aaa://") bytes n).0 in omega (arith, f)
uri_long bytes (inr n, all) = let f = (front_from_scheme (codes "aaas://") bytes n).0 in omega (arith, f)

may_be_of : (g : Kind) (bytes : List ℕ) → IsOf g bytes → may_be g bytes ≡ true
may_be_of Octets bytes h = refl
may_be_of Four bytes h = ap (λ (n : ℕ). n == 4) h
may_be_of Eight bytes h = ap (λ (n : ℕ). n == 8) h
may_be_of Level bytes h = absurd h
may_be_of Host bytes h = let long = (long_from_address bytes h).family in lt_true 1 (length bytes) (omega (arith, long))
may_be_of Text bytes h = is_utf8-from_IsUtf8 bytes h
may_be_of Identity bytes h = all_begin bytes h.0 h.1
may_be_of Link bytes h = let long = uri_long bytes h in both_true (nat_lt 6 (length bytes)) (begins bytes) (lt_true 6 (length bytes) long) (all_begin bytes (omega (arith, long)) h.1)
may_be_of (Listed ranges) bytes h = ap (λ (n : ℕ). n == 4) h.0

never : false ≡ true → ⊥
never e = absurd (cc)

-- ---- shortest data of a kind

-- no data of the kind is shorter
abbrev pub floor : Kind → ℕ
floor Octets = 0
floor Four = 4
floor Eight = 8
floor Level = 0
floor Host = 2
floor Text = 0
floor Identity = 1
floor Link = 7
floor (Listed ranges) = 4

long_enough : (f : Kind) (bytes : List ℕ) → IsOf f bytes → floor f ≤ length bytes
long_enough Octets bytes h = omega arith
long_enough Four bytes h = omega (arith, h)
long_enough Eight bytes h = omega (arith, h)
long_enough Level bytes h = omega arith
long_enough Host bytes h = (long_from_address bytes h).family
long_enough Text bytes h = omega arith
long_enough Identity bytes h = h.0
long_enough Link bytes h = uri_long bytes h
long_enough (Listed ranges) bytes h = let four = h.0 in omega (arith, four)

pub shortest_of : (f g : Kind) (bytes : List ℕ) → AreBytes bytes → IsOf f bytes → ¬ IsOf g bytes → length bytes ≡ floor f → IsShortestOf f g bytes
shortest_of f g bytes are sent refused size = record {
  are_bytes = are;
  sent = sent;
  refused = refused;
  least = λ other h n. let long = long_enough f other h in omega (arith, long, size);
}

plain : (f g : Kind) (bytes : List ℕ) → AreBytes bytes → IsOf f bytes → may_be g bytes ≡ false → length bytes ≡ floor f → IsShortestOf f g bytes
plain f g bytes are sent is_not size = shortest_of f g bytes are sent (λ h. never (sym is_not ∙ may_be_of g bytes h)) size

-- ---- the cases

non_empty : (bytes : List ℕ) → ¬ IsUtf8 bytes → 1 ≤ length bytes
non_empty [] h = absurd (h IsUtf8-nil)
non_empty (b ∷ bs) h = omega arith

no_text_1 : is_utf8 (255 ∷ []) ≡ false
unfolding is_utf8 chars
no_text_1 = refl

no_text_2 : is_utf8 (255 ∷ 255 ∷ []) ≡ false
unfolding is_utf8 chars
no_text_2 = refl

no_text_4 : is_utf8 (255 ∷ 255 ∷ 255 ∷ 255 ∷ []) ≡ false
unfolding is_utf8 chars
no_text_4 = refl

no_text_8 : is_utf8 (255 ∷ 255 ∷ 255 ∷ 255 ∷ 255 ∷ 255 ∷ 255 ∷ 255 ∷ []) ≡ false
unfolding is_utf8 chars
no_text_8 = refl

octets_text : IsShortestOf Octets Text (255 ∷ [])
octets_text = record {
  are_bytes = (omega arith, tt);
  sent = tt;
  refused = λ h. never (sym no_text_1 ∙ is_utf8-from_IsUtf8 (255 ∷ []) h);
  least = λ other h n. non_empty other n;
}

pub no_family : (a b : ℕ) (bs : List ℕ) → 33 ≤ a → IsAddress (a ∷ b ∷ bs)
no_family a b bs g = address_from_long (a ∷ b ∷ bs) (record {
  family = omega arith;
  ipv4 = λ e. let p : a * 256 + (b * 1 + 0) ≡ 1 = e in absurd (omega (arith, p, g));
  ipv6 = λ e. let p : a * 256 + (b * 1 + 0) ≡ 2 = e in absurd (omega (arith, p, g));
})

graphic_host : (bytes : List ℕ) → 6 < length bytes → All IsGraphic bytes → IsAddress bytes
graphic_host [] long all = absurd (omega (arith, long))
graphic_host (a ∷ []) long all = absurd (omega (arith, long))
graphic_host (a ∷ b ∷ bs) long all = no_family a b bs (all 0 0 (omega arith)).0

link_scheme : NamesScheme (codes "aaa://") (97 ∷ 97 ∷ 97 ∷ 58 ∷ 47 ∷ 47 ∷ 97 ∷ [])
link_scheme = record {
  front = 97 ∷ 97 ∷ 97 ∷ 58 ∷ 47 ∷ 47 ∷ [];
  rest = 97 ∷ [];
  parts = refl;
  spelled = refl;
  more = omega arith;
}

graphic_nil : All IsGraphic []
graphic_nil = λ k d lt. absurd (omega (arith, lt))

graphic_cons : (b : ℕ) (bs : List ℕ) → IsGraphic b → All IsGraphic bs → All IsGraphic (b ∷ bs)
graphic_cons b bs g all = λ k d lt. at k d lt
  where
    at : (k d : ℕ) → k < length (b ∷ bs) → IsGraphic (get_or (b ∷ bs) k d)
    at zero d lt = g
    at (suc k) d lt = all k d (omega (arith, lt))

first_true : (a b : Bool) → a && b ≡ true → a ≡ true
first_true true b e = refl
first_true false b e = e

second_true : (a b : Bool) → a && b ≡ true → b ≡ true
second_true true b e = e
second_true false b e = absurd (never e)

-- whether the bytes are all graphic
abbrev are_graphic : List ℕ → Bool
are_graphic [] = true
are_graphic (b ∷ bs) = nat_lt 32 b && nat_lt b 127 && are_graphic bs

graphic_from : (bytes : List ℕ) → are_graphic bytes ≡ true → All IsGraphic bytes
graphic_from [] e = graphic_nil
graphic_from (b ∷ bs) e =
    let front = first_true (nat_lt 32 b && nat_lt b 127) (are_graphic bs) e in
    let low = ltb-true 32 b (first_true (nat_lt 32 b) (nat_lt b 127) front) in
    let high = ltb-true b 127 (second_true (nat_lt 32 b) (nat_lt b 127) front) in
    graphic_cons b bs (omega (arith, low), omega (arith, high)) (graphic_from bs (second_true (nat_lt 32 b && nat_lt b 127) (are_graphic bs) e))

abbrev test_bytes : List ℕ → Bool
test_bytes [] = true
test_bytes (b ∷ bs) = nat_lt b 256 && test_bytes bs

pub from_test : (bytes : List ℕ) → test_bytes bytes ≡ true → AreBytes bytes
from_test [] e = tt
from_test (b ∷ bs) e = (ltb-true b 256 (first_true (nat_lt b 256) (test_bytes bs) e), from_test bs (second_true (nat_lt b 256) (test_bytes bs) e))

graphic_link : All IsGraphic (97 ∷ 97 ∷ 97 ∷ 58 ∷ 47 ∷ 47 ∷ 97 ∷ [])
graphic_link = graphic_from (97 ∷ 97 ∷ 97 ∷ 58 ∷ 47 ∷ 47 ∷ 97 ∷ []) refl

pub identity_a : IsIdentity (97 ∷ [])
identity_a = (omega arith, graphic_cons 97 [] (omega arith, omega arith) graphic_nil)

pub host_zero : IsAddress (0 ∷ 0 ∷ [])
host_zero = address_from_long (0 ∷ 0 ∷ []) (record { family = omega arith; ipv4 = λ e. let p : 0 ≡ 1 = e in absurd (omega (arith, p)); ipv6 = λ e. let p : 0 ≡ 2 = e in absurd (omega (arith, p)) })

short_host : (bs : List ℕ) → ¬ (length bs ≡ 4) → ¬ IsAddress (0 ∷ 1 ∷ bs)
short_host bs other h = let p : suc (suc (length bs)) ≡ 6 = (long_from_address (0 ∷ 1 ∷ bs) h).ipv4 refl in other (omega (arith, p))

abbrev pub Answer : Kind → Kind → Option (List ℕ) → Type 0
Answer f g None = (bytes : List ℕ) → IsOf f bytes → IsOf g bytes
Answer f g (Some bytes) = IsShortestOf f g bytes

pub link_a : IsUri (97 ∷ 97 ∷ 97 ∷ 58 ∷ 47 ∷ 47 ∷ 97 ∷ [])
link_a = (inl link_scheme, graphic_link)

-- no numbers are sought for the two
abbrev pub IsEasy : Kind → Kind → Type 0
IsEasy (Listed ranges) g = ⊥
IsEasy Four (Listed ranges) = ⊥
IsEasy f g = ⊤

pub answers : (f g : Kind) → IsEasy f g → Answer f g (of_kinds f g)
answers f Octets p = λ bytes h. tt
answers Level g p = λ bytes h. absurd h
answers Octets Text p = octets_text
answers Octets g p = plain Octets g [] tt tt refl refl
answers Text Text p = λ bytes h. h
answers Text g p = plain Text g [] tt IsUtf8-nil refl refl
answers Four Four p = λ bytes h. h
answers Four Text p = plain Four Text (255 ∷ 255 ∷ 255 ∷ 255 ∷ []) (from_test (255 ∷ 255 ∷ 255 ∷ 255 ∷ []) refl) refl no_text_4 refl
answers Four Host p = shortest_of Four Host (0 ∷ 1 ∷ 0 ∷ 0 ∷ []) (from_test (0 ∷ 1 ∷ 0 ∷ 0 ∷ []) refl) refl (short_host (0 ∷ 0 ∷ []) (λ e. omega (arith, e))) refl
answers Four (Listed ranges) p = absurd p
answers Four g p = plain Four g (0 ∷ 0 ∷ 0 ∷ 0 ∷ []) (from_test (0 ∷ 0 ∷ 0 ∷ 0 ∷ []) refl) refl refl refl
answers Eight Eight p = λ bytes h. h
answers Eight Text p = plain Eight Text (255 ∷ 255 ∷ 255 ∷ 255 ∷ 255 ∷ 255 ∷ 255 ∷ 255 ∷ []) (from_test (255 ∷ 255 ∷ 255 ∷ 255 ∷ 255 ∷ 255 ∷ 255 ∷ 255 ∷ []) refl) refl no_text_8 refl
answers Eight Host p =
    shortest_of Eight Host (0 ∷ 1 ∷ 0 ∷ 0 ∷ 0 ∷ 0 ∷ 0 ∷ 0 ∷ []) (from_test (0 ∷ 1 ∷ 0 ∷ 0 ∷ 0 ∷ 0 ∷ 0 ∷ 0 ∷ []) refl) refl
    (short_host (0 ∷ 0 ∷ 0 ∷ 0 ∷ 0 ∷ 0 ∷ []) (λ e. omega (arith, e))) refl
answers Eight g p = plain Eight g (0 ∷ 0 ∷ 0 ∷ 0 ∷ 0 ∷ 0 ∷ 0 ∷ 0 ∷ []) (from_test (0 ∷ 0 ∷ 0 ∷ 0 ∷ 0 ∷ 0 ∷ 0 ∷ 0 ∷ []) refl) refl refl refl
answers Host Host p = λ bytes h. h
answers Host Text p = plain Host Text (255 ∷ 255 ∷ []) (from_test (255 ∷ 255 ∷ []) refl) (no_family 255 255 [] (omega arith)) no_text_2 refl
answers Host g p = plain Host g (0 ∷ 0 ∷ []) (from_test (0 ∷ 0 ∷ []) refl) host_zero refl refl
answers Identity Identity p = λ bytes h. h
answers Identity Text p = λ bytes h. leaf_below DiameterIdentity Utf8String tt bytes h
answers Identity g p = plain Identity g (97 ∷ []) (from_test (97 ∷ []) refl) identity_a refl refl
answers Link Link p = λ bytes h. h
answers Link Identity p = λ bytes h. (let long = uri_long bytes h in omega (arith, long), h.1)
answers Link Text p = λ bytes h. leaf_below DiameterUri Utf8String tt bytes h
answers Link Host p = λ bytes h. graphic_host bytes (uri_long bytes h) h.1
answers Link g p = plain Link g (97 ∷ 97 ∷ 97 ∷ 58 ∷ 47 ∷ 47 ∷ 97 ∷ []) (from_test (97 ∷ 97 ∷ 97 ∷ 58 ∷ 47 ∷ 47 ∷ 97 ∷ []) refl) (inl link_scheme, graphic_link) refl refl
answers (Listed ranges) g p = absurd p
