-- What a format says of data, by the first bytes of it.
use Rattle.std.proofs.Common.{◌≡◌, ◌≢◌, ℕ, ◌<◌, List, length, take, map, All, Option, sym, ap, ◌∙◌, subst, refl, inl, inr, ◌⊎◌, ⊎_elim, arith}
use Rattle.std.specs.Prelude.{◌↔◌, codes}
use Rattle.std.specs.Char.{to_ascii_lowercase}
use Rattle.std.proofs.lemmas.List.{length-take, take-take, take_all}
use Rattle.std.proofs.lemmas.List.Elements.{All-take}
use Rattle.dia_data.specs.Plain.{PlainFormat, AnyBytes, FourBytes, EightBytes, Grouped, Address, Utf8String, DiameterIdentity, DiameterUri, Enumerated}
use Rattle.dia_data.specs.declared.accept.Leaf.{Leaf}
use Rattle.dia_data.specs.declared.accept.Leaf.TheVariants.{Fine, BadLength, BadValue}
use Rattle.dia_data.specs.Number.{number}
use Rattle.dia_data.specs.Leaf.{IsLeaf, LengthFits, IsLeafAnswer, IsListed, IsGraphic, IsAddress, IsUri, NamesScheme}
use Rattle.dia_data.proofs.Addresses.{IsLong, long_from_address, address_from_long}
use Rattle.dia_data.proofs.Schemes.{scheme_from_front, front_from_scheme}

-- a leaf has a length that its format can have
pub leaf_fits : (f : PlainFormat) (bytes : List ℕ) → IsLeaf f bytes → LengthFits f bytes
leaf_fits (AnyBytes name) bytes leaf = tt
leaf_fits (FourBytes name) bytes leaf = leaf
leaf_fits (EightBytes name) bytes leaf = leaf
leaf_fits Grouped bytes leaf = tt
leaf_fits Address bytes leaf = leaf
leaf_fits Utf8String bytes leaf = tt
leaf_fits DiameterIdentity bytes leaf = tt
leaf_fits DiameterUri bytes leaf = tt
leaf_fits (Enumerated ranges) bytes leaf = leaf.0

-- a format answers the same for two lists of bytes
pub record IsSame (kind : PlainFormat) (xs ys : List ℕ) : Type 0 where
  pub leaf : IsLeaf kind xs ↔ IsLeaf kind ys
  pub fits : LengthFits kind xs ↔ LengthFits kind ys

pub IsLeafAnswer-same : (answer : Leaf) (kind : PlainFormat) (xs ys : List ℕ) → IsSame kind xs ys → IsLeafAnswer answer kind xs → IsLeafAnswer answer kind ys
IsLeafAnswer-same Fine kind xs ys same (inl leaf) = inl (same.leaf.0 leaf)
IsLeafAnswer-same Fine kind xs ys same (inr grouped) = inr grouped
IsLeafAnswer-same BadLength kind xs ys same h = λ fits. h (same.fits.1 fits)
IsLeafAnswer-same BadValue kind xs ys same h = (same.fits.0 h.0, λ leaf. h.1 (same.leaf.1 leaf), h.2)

-- a length below 20 is that of the first 20 bytes
length-front : (n : ℕ) (bytes : List ℕ) → n < 20 → (length (take 20 bytes) ≡ n) ↔ (length bytes ≡ n)
length-front n bytes small = (λ e. omega (arith, length-take 20 bytes), λ e. omega (arith, length-take 20 bytes))

long_front : (bytes : List ℕ) → IsLong (take 20 bytes) ↔ IsLong bytes
long_front bytes =
    let family : take 2 (take 20 bytes) ≡ take 2 bytes = take-take 2 20 bytes (omega arith) in (
      λ l. record {
        family = omega (arith, length-take 20 bytes, l.family);
        ipv4 = λ e. omega (arith, length-take 20 bytes, l.ipv4 (ap number family ∙ e));
        ipv6 = λ e. omega (arith, length-take 20 bytes, l.ipv6 (ap number family ∙ e));
      },
      λ l. record {
        family = omega (arith, length-take 20 bytes, l.family);
        ipv4 = λ e. omega (arith, length-take 20 bytes, l.ipv4 (ap number (sym family) ∙ e));
        ipv6 = λ e. omega (arith, length-take 20 bytes, l.ipv6 (ap number (sym family) ∙ e));
      },
    )

address_front : (bytes : List ℕ) → IsAddress (take 20 bytes) ↔ IsAddress bytes
address_front bytes = (
  λ a. address_from_long bytes ((long_front bytes).0 (long_from_address (take 20 bytes) a)),
  λ a. address_from_long (take 20 bytes) ((long_front bytes).1 (long_from_address bytes a)),
)

listed_front : (ranges : Option (List (ℕ × ℕ))) (bytes : List ℕ) → ((length (take 20 bytes) ≡ 4) × IsListed ranges (number (take 20 bytes))) ↔ ((length bytes ≡ 4) × IsListed ranges (number bytes))
listed_front ranges bytes = (
  λ h. let whole : take 20 bytes ≡ bytes = take_all 20 bytes (omega (arith, length-take 20 bytes, h.0)) in
      ((length-front 4 bytes (omega arith)).0 h.0, subst (λ b. IsListed ranges (number b)) whole h.1),
  λ h. let whole : take 20 bytes ≡ bytes = take_all 20 bytes (omega (arith, h.0)) in
      ((length-front 4 bytes (omega arith)).1 h.0, subst (λ b. IsListed ranges (number b)) (sym whole) h.1),
)

-- the first 20 bytes decide, but for texts, identities and URIs
pub front_decides : (kind : PlainFormat) (bytes : List ℕ) → kind ≢ Utf8String → kind ≢ DiameterIdentity → kind ≢ DiameterUri → IsSame kind (take 20 bytes) bytes
front_decides (AnyBytes name) bytes t i u = record { leaf = (λ h. tt, λ h. tt); fits = (λ h. tt, λ h. tt) }
front_decides (FourBytes name) bytes t i u = record { leaf = length-front 4 bytes (omega arith); fits = length-front 4 bytes (omega arith) }
front_decides (EightBytes name) bytes t i u = record { leaf = length-front 8 bytes (omega arith); fits = length-front 8 bytes (omega arith) }
front_decides Grouped bytes t i u = record { leaf = (λ h. h, λ h. h); fits = (λ h. tt, λ h. tt) }
front_decides Address bytes t i u = record { leaf = address_front bytes; fits = address_front bytes }
front_decides Utf8String bytes t i u = absurd (t refl)
front_decides DiameterIdentity bytes t i u = absurd (i refl)
front_decides DiameterUri bytes t i u = absurd (u refl)
front_decides (Enumerated ranges) bytes t i u = record { leaf = listed_front ranges bytes; fits = length-front 4 bytes (omega arith) }

scheme_front : (scheme bytes : List ℕ) → length scheme < 20 → NamesScheme scheme (take 20 bytes) ↔ NamesScheme scheme bytes
scheme_front scheme bytes short =
    let front : take (length scheme) (take 20 bytes) ≡ take (length scheme) bytes = take-take (length scheme) 20 bytes (omega arith) in (
      λ n. let f = front_from_scheme scheme (take 20 bytes) n in
          scheme_from_front scheme bytes (omega (arith, length-take 20 bytes, f.0)) (ap (map to_ascii_lowercase) (sym front) ∙ f.1),
      λ n. let f = front_from_scheme scheme bytes n in
          scheme_from_front scheme (take 20 bytes) (omega (arith, length-take 20 bytes, f.0)) (ap (map to_ascii_lowercase) front ∙ f.1),
    )

uri_front : (bytes : List ℕ) → All IsGraphic bytes → IsUri (take 20 bytes) ↔ IsUri bytes
uri_front bytes all =
    let aaa = scheme_front (codes "aaa://") bytes (omega arith) in
    let aaas = scheme_front (codes "aaas://") bytes (omega arith) in (
      λ u. (⊎_elim (λ n. inl (aaa.0 n)) (λ n. inr (aaas.0 n)) u.0, all),
      λ u. (⊎_elim (λ n. inl (aaa.1 n)) (λ n. inr (aaas.1 n)) u.0, All-take IsGraphic 20 bytes all),
    )

-- of graphic bytes, they decide for identities and URIs too
pub graphic_front_decides : (kind : PlainFormat) (bytes : List ℕ) → (kind ≡ DiameterIdentity) ⊎ (kind ≡ DiameterUri) → All IsGraphic bytes → IsSame kind (take 20 bytes) bytes
graphic_front_decides kind bytes (inl identity) all = subst (λ k. IsSame k (take 20 bytes) bytes) (sym identity) (record {
  leaf = (λ h. (omega (arith, length-take 20 bytes, h.0), all), λ h. (omega (arith, length-take 20 bytes, h.0), All-take IsGraphic 20 bytes all));
  fits = (λ h. tt, λ h. tt);
})
graphic_front_decides kind bytes (inr uri) all = subst (λ k. IsSame k (take 20 bytes) bytes) (sym uri) (record {
  leaf = uri_front bytes all;
  fits = (λ h. tt, λ h. tt);
})
