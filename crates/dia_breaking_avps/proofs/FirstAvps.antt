-- The AVPs that bytes spell, by the bytes of their AVP Lengths.
use Rattle.std.proofs.Common.{◌≡◌, ℕ, suc, ◌+◌, ◌*◌, ◌<◌, ◌≤◌, List, [], ◌∷◌, ◌++◌, length, All, Option, Some, None, sym, ap, subst, arith, inl, inr}
use Rattle.std.specs.Prelude.{◌/◌, ◌⊎◌}
use Rattle.std.specs.List.{AllByRecursion}
use Rattle.std.proofs.lemmas.List.{length-append}
use Rattle.dia_wire.specs.Number.{number}
use Rattle.dia_wire.specs.Wire.{PlainAvp, Spells, SpellsAll, head_length, avp_length}
use Rattle.dia_wire.proofs.Spelling.{opened, at_least_8}
use Rattle.dia_data.specs.Plain.{PlainFormat, DiameterIdentity, DiameterUri}
use Rattle.dia_data.specs.Leaf.{IsGraphic, IsLeaf, NamesScheme}
use Rattle.dia_breaking_sites.proofs.Members.{IsIn, in_contains, all_parts}
use Rattle.dia_breaking_avps.specs.Levels.{IsOrdinary, empty, short, inside, RefusesOrdinaryLevels, graphic_length}

pub each : {X : Type 0} (P : X → Type 0) (xs : List X) → All P xs → AllByRecursion P xs
each P [] all = tt
each P (x ∷ xs) all = (all 0 x (omega arith), each P xs (λ k d lt. all (suc k) d (omega (arith, lt))))

-- an AVP has at least 8 bytes
front_long : (v : PlainAvp) (front : List ℕ) → Spells v front → 8 ≤ length front
front_long v front s =
    let whole = (opened v front [] s).front_length in
    let head = at_least_8 v.vendor in
    let most : avp_length v ≤ (avp_length v + 3) / 4 * 4 = omega arith in
    omega (arith, whole, head, most)

pub some_long : (v : PlainAvp) (avps : List PlainAvp) (bytes : List ℕ) → SpellsAll (v ∷ avps) bytes → 8 ≤ length bytes
some_long v avps bytes (front, rest, s, parts, later) = let long = front_long v front s in omega (arith, ap length parts, length-append front rest, long)

-- a level is empty, or has at least 8 bytes
pub level_long : (avps : List PlainAvp) (bytes : List ℕ) → SpellsAll avps bytes → (bytes ≡ []) ⊎ (8 ≤ length bytes)
level_long [] bytes h = inl h
level_long (v ∷ avps) bytes h = inr (some_long v avps bytes h)

-- what holds of each byte holds of the three of the AVP Length and of the data
module _ (P : ℕ → Type 0) (v : PlainAvp) (front : List ℕ) (s : Spells v front) (all : AllByRecursion P front) where
  split : AllByRecursion P (s.code ++ (v.flags ∷ s.len) ++ s.vendor ++ v.bytes ++ s.padding)
  split = subst (AllByRecursion P) s.parts all

  len_bytes : AllByRecursion P s.len
  len_bytes =
      let a = (all_parts P (s.code ++ (v.flags ∷ s.len) ++ s.vendor ++ v.bytes) s.padding split).0 in
      let b = (all_parts P (s.code ++ (v.flags ∷ s.len) ++ s.vendor) v.bytes a).0 in
      let d = (all_parts P (s.code ++ (v.flags ∷ s.len)) s.vendor b).0 in
      (all_parts P s.code (v.flags ∷ s.len) d).1.1

  pub data_bytes : AllByRecursion P v.bytes
  data_bytes =
      let a = (all_parts P (s.code ++ (v.flags ∷ s.len) ++ s.vendor ++ v.bytes) s.padding split).0 in
      (all_parts P (s.code ++ (v.flags ∷ s.len) ++ s.vendor) v.bytes a).1

three : (P : ℕ → Type 0) (Q : ℕ → Type 0) → ((a b c : ℕ) → P a → P b → P c → Q (a * 65536 + (b * 256 + (c * 1 + 0)))) → (len : List ℕ) → length len ≡ 3 → AllByRecursion P len → Q (number len)
three P Q f (a ∷ b ∷ c ∷ []) size all = f a b c all.0 all.1.0 all.1.1.0
three P Q f [] size all = absurd (omega (arith, size))
three P Q f (a ∷ []) size all = absurd (omega (arith, size))
three P Q f (a ∷ b ∷ []) size all = absurd (omega (arith, size))
three P Q f (a ∷ b ∷ c ∷ d ∷ rest) size all = absurd (omega (arith, size))

-- ---- zero bytes

zeros : (len : List ℕ) → length len ≡ 3 → AllByRecursion (λ b. b ≡ 0) len → number len ≡ 0
zeros len size all = three (λ b. b ≡ 0) (λ n. n ≡ 0) (λ a b c p q r. omega (arith, p, q, r)) len size all

-- no level is made of zero bytes alone
pub no_zeros : (avps : List PlainAvp) (bytes : List ℕ) → SpellsAll avps bytes → 0 < length bytes → AllByRecursion (λ b. b ≡ 0) bytes → ⊥
no_zeros [] bytes h some all = let none = ap length h in omega (arith, none, some)
no_zeros (v ∷ avps) bytes (front, rest, s, parts, later) some all =
    let here = (all_parts (λ b. b ≡ 0) front rest (subst (AllByRecursion (λ b. b ≡ 0)) parts all)).0 in
    let none = zeros s.len s.length_field.width (len_bytes (λ b. b ≡ 0) v front s here) in
    omega (arith, none, s.length_field.value, at_least_8 v.vendor)

-- ---- graphic bytes

graphic_number : (len : List ℕ) → length len ≡ 3 → AllByRecursion IsGraphic len → graphic_length ≤ number len
graphic_number len size all = three IsGraphic (λ n. graphic_length ≤ n) (λ a b c p q r. let x = p.0 in let y = q.0 in let z = r.0 in omega (arith, x, y, z)) len size all

record IsLongAvp (v : PlainAvp) : Type 0 where
  long : graphic_length ≤ avp_length v
  graphic : AllByRecursion IsGraphic v.bytes

member_long : (avps : List PlainAvp) (bytes : List ℕ) (v : PlainAvp) → SpellsAll avps bytes → AllByRecursion IsGraphic bytes → IsIn v avps → IsLongAvp v
member_long [] bytes v h all i = absurd i
member_long (w ∷ avps) bytes v (front, rest, s, parts, later) all (inl e) =
    let here = (all_parts IsGraphic front rest (subst (AllByRecursion IsGraphic) parts all)).0 in
    subst IsLongAvp (sym e) (record {
      long = subst (λ n. graphic_length ≤ n) s.length_field.value (graphic_number s.len s.length_field.width (len_bytes IsGraphic w front s here));
      graphic = data_bytes IsGraphic w front s here;
    })
member_long (w ∷ avps) bytes v (front, rest, s, parts, later) all (inr i) = member_long avps rest v later (all_parts IsGraphic front rest (subst (AllByRecursion IsGraphic) parts all)).1 i

head_few : (vendor : Option ℕ) → head_length vendor ≤ 12
head_few None = omega arith
head_few (Some n) = omega arith

not_graphic : (avps : List PlainAvp) → IsOrdinary avps → (bytes : List ℕ) → SpellsAll avps bytes → 0 < length bytes → AllByRecursion IsGraphic bytes → ⊥
not_graphic avps empty bytes h some all = let none = ap length h in omega (arith, none, some)
not_graphic avps (short xs v is less) bytes h some all = let long = (member_long avps bytes v h all (in_contains avps v is)).long in omega (arith, long, less)
not_graphic avps (inside xs v inner is spelled ordinary) bytes h some all =
    let m = member_long avps bytes v h all (in_contains avps v is) in
    let long = m.long in
    not_graphic inner ordinary v.bytes spelled (omega (arith, long, head_few v.vendor)) m.graphic

-- ---- formats

not_four : (avps : List PlainAvp) (bytes : List ℕ) → SpellsAll avps bytes → length bytes ≡ 4 → ⊥
not_four avps bytes h four = elim (level_long avps bytes h) [
  | inl e ↦ (let none = ap length e in omega (arith, none, four))
  | inr long ↦ omega (arith, long, four)
]

scheme_some : (scheme bytes : List ℕ) → NamesScheme scheme bytes → 0 < length bytes
scheme_some scheme bytes n = let more = n.more in omega (arith, ap length n.parts, length-append n.front n.rest, more)

pub four_refuses : (f : PlainFormat) → ((bytes : List ℕ) → IsLeaf f bytes → length bytes ≡ 4) → RefusesOrdinaryLevels f
four_refuses f four avps bytes h ordinary leaf = not_four avps bytes h (four bytes leaf)

pub identity_refuses : RefusesOrdinaryLevels DiameterIdentity
identity_refuses avps bytes h ordinary leaf = not_graphic avps ordinary bytes h leaf.0 (each IsGraphic bytes leaf.1)

pub uri_refuses : RefusesOrdinaryLevels DiameterUri
uri_refuses avps bytes h ordinary (inl n, all) = not_graphic avps ordinary bytes h (scheme_some _ bytes n) (each IsGraphic bytes all)
uri_refuses avps bytes h ordinary (inr n, all) = not_graphic avps ordinary bytes h (scheme_some _ bytes n) (each IsGraphic bytes all)
