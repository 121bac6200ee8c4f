-- What the levels take that are sent, by lengths that no AVP is below.
use Rattle.std.proofs.Common.{ℕ, zero, suc, ◌+◌, ◌≤◌, List, [], ◌∷◌, length, map, Option, Some, None, refl, sym, subst, arith, inl, inr}
use Rattle.std.specs.Prelude.{Contains, unwrap_or, sum_by}
use Rattle.std.proofs.lemmas.List.Sums.{sum_by-cons}
use Rattle.dia_wire.specs.declared.Key.{Key}
use Rattle.dia_wire.specs.Wire.{PlainAvp, key_of, head_length, avp_length, padded_length}
use Rattle.dia_book.specs.declared.DRule.{DRule}
use Rattle.dia_book.specs.Dictionary.{Dictionary}
use Rattle.dia_terms.specs.declared.Unknown.{Unknown}
use Rattle.dia_terms.specs.declared.Sends.{Sends}
use Rattle.dia_breaking_sites.specs.Sent.{IsSentWithin}
use Rattle.dia_breaking_sites.specs.Sites.{IsLevelOf}
use Rattle.dia_breaking_sites.proofs.Members.{IsIn, in_contains, contains_in, in_all}
use Rattle.dia_breaking_sites.proofs.Room.{keeps}
use Rattle.dia_breaking_shortest.specs.Floors.{AreFloors, padded, shortest_head, vendor_field, total}
use Rattle.dia_breaking_shortest.proofs.BytesOfAvps.{data_bytes}
use Rattle.dia_breaking_shortest.proofs.FloorsOfAvps.{no_shorter, rounded_more, rounded_up}
use Rattle.dia_breaking_shortest.proofs.FloorsOfLengths.{in_map}
use Rattle.dia_breaking.specs.SentLevels.{IsSentKeys}

-- ---- lengths

head_at_least : (v : PlainAvp) → shortest_head (key_of v) ≤ head_length v.vendor
head_at_least v = by v.vendor
  where
    by : (vendor : Option ℕ) → head_length (vendor_field (unwrap_or vendor 0)) ≤ head_length vendor
    by None = omega arith
    by (Some zero) = omega arith
    by (Some (suc n)) = omega arith

-- an AVP has room for its data after the shortest head
data_within : (v : PlainAvp) → length v.bytes + shortest_head (key_of v) ≤ padded_length v
data_within v = let head = head_at_least v in let more = rounded_up (avp_length v) in omega (arith, head, more)

-- and so have data, with their padding
padded_within : (v : PlainAvp) → padded (shortest_head (key_of v) + length v.bytes) ≤ padded_length v
padded_within v = let head = head_at_least v in rounded_more (shortest_head (key_of v) + length v.bytes) (avp_length v) (omega (arith, head))

module _ (f : Key → ℕ) where
  -- no AVP is shorter than its key's length
  abbrev pub AreLong : List PlainAvp → Type 0
  AreLong avps = (v : PlainAvp) → IsIn v avps → f (key_of v) ≤ padded_length v

  pub all_within : (avps : List PlainAvp) → AreLong avps → total f (map key_of avps) ≤ sum_by padded_length avps
  all_within [] long = omega arith
  all_within (v ∷ avps) long = omega (arith, long v (inl refl), all_within avps (λ w i. long w (inr i)), sum_by-cons padded_length v avps)

  -- what one of them takes more than its key's length, all take more
  pub beside_within : (avps : List PlainAvp) (v : PlainAvp) → AreLong avps → IsIn v avps → padded_length v + total f (map key_of avps) ≤ sum_by padded_length avps + f (key_of v)
  beside_within [] v long i = absurd i
  beside_within (w ∷ avps) v long (inl same) =
      subst (λ (x : PlainAvp). padded_length x + total f (map key_of (w ∷ avps)) ≤ sum_by padded_length (w ∷ avps) + f (key_of x)) (sym same)
      (omega (arith, all_within avps (λ x i. long x (inr i)), sum_by-cons padded_length w avps))
  beside_within (w ∷ avps) v long (inr i) = omega (arith, long w (inl refl), beside_within avps v (λ x j. long x (inr j)) i, sum_by-cons padded_length w avps)

-- ---- keys

pub key_contained : (avps : List PlainAvp) (v : PlainAvp) → Contains avps v → Contains (map key_of avps) (key_of v)
key_contained avps v is = contains_in (map key_of avps) (key_of v) (in_map key_of avps v (in_contains avps v is))

-- ---- sites

module _ (da db : Dictionary) (who : Sends) (u : Unknown) (f : Key → ℕ) (floors : AreFloors da who f) where
  long_in : (rules : List DRule) (room : ℕ) (avps : List PlainAvp) → IsLevelOf da who rules room avps → AreLong f avps
  long_in rules room avps level v i =
      no_shorter da who f floors v (data_bytes avps level.bytes v level.spelled level.are_bytes i) (level.sent.0, in_all (IsSentWithin da who level.sent.0) avps v level.sent.1 i)

  -- the keys of a level
  pub sent_keys : (rules : List DRule) (room : ℕ) (avps : List PlainAvp) → IsLevelOf da who rules room avps → IsSentKeys who f rules room (map key_of avps)
  sent_keys rules room avps level = (
    level.stand,
    let within = all_within f avps (long_in rules room avps level) in let kept = keeps da who rules room avps level in omega (arith, within, kept),
  )

  -- a group of a level leaves this much to the other AVPs
  pub group_within : (rules : List DRule) (room : ℕ) (avps : List PlainAvp) (v : PlainAvp) → IsLevelOf da who rules room avps → Contains avps v
      → length v.bytes + shortest_head (key_of v) + total f (map key_of avps) ≤ room + f (key_of v)
  group_within rules room avps v level is =
      omega (arith, data_within v, beside_within f avps v (long_in rules room avps level) (in_contains avps v is), keeps da who rules room avps level)

  -- so does an AVP with such data
  pub data_beside : (rules : List DRule) (room : ℕ) (avps : List PlainAvp) (v : PlainAvp) → IsLevelOf da who rules room avps → Contains avps v
      → padded (shortest_head (key_of v) + length v.bytes) + total f (map key_of avps) ≤ room + f (key_of v)
  data_beside rules room avps v level is =
      omega (arith, padded_within v, beside_within f avps v (long_in rules room avps level) (in_contains avps v is), keeps da who rules room avps level)
