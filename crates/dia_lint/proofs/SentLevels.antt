-- The levels of messages that are sent: what they take, and the levels in their AVPs.
use Rattle.std.proofs.Common.{◌≡◌, ℕ, zero, suc, ◌+◌, ◌<◌, ◌≤◌, ◌≢◌, Bool, true, false, List, [], ◌∷◌, ◌++◌, length, map, Option, Some, None, refl, sym, ap, subst, ◌∙◌, arith, inl, inr}
use Rattle.std.specs.Prelude.{◌⊎◌, IsTrue, if◌then◌else◌, sum_by, unwrap_or, MatchOption, slice_get, option_and_then}
use Rattle.std.proofs.lemmas.List.{append_cancel_left, length-append}
use Rattle.std.proofs.lemmas.List.Sums.{sum_by-cons}
use Rattle.std.proofs.lemmas.Option.{none-some}
use Rattle.dia_wire.specs.declared.Key.{Key}
use Rattle.dia_wire.specs.Wire.{PlainAvp, key_of, head_length, avp_length, padded_length, Spells, SpellsAll}
use Rattle.dia_wire.proofs.Spelling.{opened, rounded-le, at_least_8, one_spelling}
use Rattle.dia_data.specs.Leaf.{IsLeaf}
use Rattle.dia_book.specs.declared.DRule.{DRule}
use Rattle.dia_book.specs.Dictionary.{Dictionary, DictEntry, PlainDefinition, definitions, entry_of, group_place}
use Rattle.dia_terms.specs.declared.Sends.{Sends}
use Rattle.dia_terms.specs.declared.Sends.TheVariants.{Any, Known, Filled, Listed}
use Rattle.dia_valid.specs.Valid.{IsAccepted, MHolds, Placed, is_listed, known}
use Rattle.dia_valid.proofs.GroupNumbers.{group_number as group_by}
use Rattle.dia_valid.proofs.Members.{IsIn, in_all}
use Rattle.dia_breaking_levels.specs.LevelTests.{too_long, price}
use Rattle.dia_breaking_sites.specs.Sent.{is_open, own_policy, AreListed, IsSentLevel, IsSentWithin, StandAsSent}
use Rattle.dia_breaking_shortest.specs.Floors.{shortest_head, total, vendor_field}
use Rattle.dia_breaking_shortest.proofs.FloorsOfAvps.{rounded_up}
use Rattle.dia_breaking_shortest.specs.Lengths.{length_of}
use Rattle.dia_breaking_shortest.proofs.FloorsOfLengths.{entry_at}
use Rattle.dia_breaking_ways.specs.Walks.{IsNoLater}
use Rattle.dia_breaking_ways.specs.declared.graph.Reach.{Reach}
use Rattle.dia_lint.specs.Costs.{other_length}
use Rattle.dia_lint.specs.Held.{group_number}

-- ---- the AVPs of bytes

begun : (v : PlainAvp) (front : List ℕ) → Spells v front → 0 < length front
begun v front s = let o = opened v front [] s in omega (arith, o.front_length, rounded-le (avp_length v), at_least_8 v.vendor)

pub one_list : (vs ws : List PlainAvp) (b : List ℕ) → SpellsAll vs b → SpellsAll ws b → vs ≡ ws
one_list [] [] b h k = refl
one_list [] (w ∷ ws) b h (front, rest, s, parts, all) = absurd (omega (arith, begun w front s, ap length h, ap length parts, length-append front rest))
one_list (v ∷ vs) [] b (front, rest, s, parts, all) k = absurd (omega (arith, begun v front s, ap length k, ap length parts, length-append front rest))
one_list (v ∷ vs) (w ∷ ws) b (f, x, s, p, all) (g, y, t, q, also) =
    let o = one_spelling v w f g x y s t (sym p ∙ q) in
    let rests : x ≡ y = append_cancel_left f x y (sym p ∙ q ∙ ap (λ (z : List ℕ). z ++ y) (sym o.1)) in
    let later : vs ≡ ws = one_list vs ws x all (subst (SpellsAll ws) (sym rests) also) in
    λ i. o.0 i ∷ later i

-- ---- lengths

head_at_least : (v : PlainAvp) → shortest_head (key_of v) ≤ head_length v.vendor
head_at_least v = by v.vendor
  where
    by : (vendor : Option ℕ) → head_length (vendor_field (unwrap_or vendor 0)) ≤ head_length vendor
    by None = omega arith
    by (Some zero) = omega arith
    by (Some (suc n)) = omega arith

-- an AVP has room for its data after the shortest head
pub data_within : (v : PlainAvp) → length v.bytes + shortest_head (key_of v) ≤ padded_length v
data_within v = let head = head_at_least v in let more = rounded_up (avp_length v) in omega (arith, head, more)

module _ (f : Key → ℕ) where
  -- no AVP is shorter than its key's length
  abbrev pub AreLong : List PlainAvp → Type 0
  AreLong avps = (v : PlainAvp) → IsIn v avps → f (key_of v) ≤ padded_length v

  pub all_within : (avps : List PlainAvp) → AreLong avps → total f (map key_of avps) ≤ sum_by padded_length avps
  all_within [] long = omega arith
  all_within (v ∷ avps) long = omega (arith, long v (inl refl), all_within avps (λ w i. long w (inr i)), sum_by-cons padded_length v avps)

  -- what one of them takes more than its key's length, all take more
  pub beside_within : (avps : List PlainAvp) (v : PlainAvp) → AreLong avps → IsIn v avps → padded_length v + total f (map key_of avps) ≤ sum_by padded_length avps + f (key_of v)
  beside_within [] v long i = absurd i
  beside_within (w ∷ avps) v long (inl same) =
      subst (λ (x : PlainAvp). padded_length x + total f (map key_of (w ∷ avps)) ≤ sum_by padded_length (w ∷ avps) + f (key_of x)) (sym same)
      (omega (arith, all_within avps (λ x i. long x (inr i)), sum_by-cons padded_length w avps))
  beside_within (w ∷ avps) v long (inr i) = omega (arith, long w (inl refl), beside_within avps v (λ x j. long x (inr j)) i, sum_by-cons padded_length w avps)

  pub total_has : (keys : List Key) (key : Key) → IsIn key keys → f key ≤ total f keys
  total_has [] key i = absurd i
  total_has (q ∷ keys) key (inl e) = let same : f key ≡ f q = ap f e in omega (arith, same)
  total_has (q ∷ keys) key (inr i) = let more = total_has keys key i in omega (arith, more)

-- ---- what the AVPs of a level take that is sent

total_same : (f g : Key → ℕ) (keys : List Key) → ((q : Key) → IsIn q keys → f q ≡ g q) → total f keys ≡ total g keys
total_same f g [] same = refl
total_same f g (q ∷ keys) same =
    let here = same q (inl refl) in
    let ih = total_same f g keys (λ k i. same k (inr i)) in
    omega (arith, here, ih)

either : (b : Bool) (m n : ℕ) → n ≡ m → (if b then m else n) ≡ m
either true m n e = refl
either false m n e = e

-- what is sent is where the rules place it
pub stand_placed : (sends : Sends) (rules : List DRule) (keys : List Key) → StandAsSent sends rules keys → Placed rules keys
stand_placed sends rules keys h = h.0

-- and each of its AVPs takes what one by a rule does
pub stand_price : (d : Dictionary) (sends : Sends) (lengths : List ℕ) (rules : List DRule) (keys : List Key) → sends ≢ Filled → StandAsSent sends rules keys
    → total (price (length_of d sends lengths) (other_length d sends lengths) rules) keys ≡ total (length_of d sends lengths) keys
stand_price d Any lengths rules keys other h =
    total_same (price (length_of d Any lengths) (other_length d Any lengths) rules) (length_of d Any lengths) keys
    (λ q i. either (is_listed rules q) (length_of d Any lengths q) (length_of d Any lengths q) refl)
stand_price d Known lengths rules keys other h =
    total_same (price (length_of d Known lengths) (other_length d Known lengths) rules) (length_of d Known lengths) keys
    (λ q i. either (is_listed rules q) (length_of d Known lengths q) (length_of d Known lengths q) refl)
stand_price d Filled lengths rules keys other h = absurd (other refl)
stand_price d Listed lengths rules keys other h = by h.1
  where
    by : IsTrue (is_open Listed rules) ⊎ AreListed rules keys → total (price (length_of d Listed lengths) (other_length d Listed lengths) rules) keys ≡ total (length_of d Listed lengths) keys
    by (inl never) = absurd (let bad : false ≡ true = never in cc)
    by (inr all) =
        total_same (price (length_of d Listed lengths) (other_length d Listed lengths) rules) (length_of d Listed lengths) keys
        (λ q i. ap (λ (b : Bool). if b then length_of d Listed lengths q else too_long) (in_all (λ key. is_listed rules key ≡ true) q keys all i))

-- ---- the level in an AVP

module _ (d : Dictionary) (sends : Sends) (v : PlainAvp) (x : PlainDefinition) where
  level_by : (P : List DRule → List ℕ → Type 0) (o : Option DictEntry) → option_and_then (λ (e : DictEntry). e.group) o ≡ Some x
      → MatchOption o (IsAccepted (own_policy sends) v.flags) (λ e. MHolds e.rule v.flags × MatchOption e.group (IsLeaf e.format v.bytes) (λ group. P group.rules v.bytes)) → P x.rules v.bytes
  level_by P None is h = absurd (none-some x is)
  level_by P (Some e) is h = subst (λ (o : Option PlainDefinition). MatchOption o (IsLeaf e.format v.bytes) (λ group. P group.rules v.bytes)) is h.1

  pub sent_inside : (n : ℕ) → option_and_then (λ (e : DictEntry). e.group) (known d (key_of v)) ≡ Some x → IsSentWithin d sends n v → (m : ℕ) × IsSentLevel sends (IsSentWithin d sends m) x.rules v.bytes
  sent_inside zero is h = absurd (level_by (λ rules bytes. ⊥) (known d (key_of v)) is h)
  sent_inside (suc n) is h = (n, level_by (IsSentLevel sends (IsSentWithin d sends n)) (known d (key_of v)) is h)

-- the group of a key with this number
pub record GroupOf (d : Dictionary) (key : Key) (n : ℕ) : Type 0 where
  pub place : ℕ
  pub entry : DictEntry
  pub group : PlainDefinition
  pub is_place : entry_of d key ≡ Some place
  pub number : group_place d place ≡ Some n
  pub at : slice_get d.entries place ≡ Some entry
  pub own : entry.key ≡ key
  pub is_group : entry.group ≡ Some group
  pub is_def : slice_get (definitions d) n ≡ Some group
  pub knows : option_and_then (λ (e : DictEntry). e.group) (known d key) ≡ Some group

pub group_of : (d : Dictionary) (key : Key) (n : ℕ) → group_number d key ≡ Some n → GroupOf d key n
group_of d key n is = by (entry_of d key) refl is
  where
    by : (o : Option ℕ) → entry_of d key ≡ o → option_and_then (group_place d) o ≡ Some n → GroupOf d key n
    by None e h = absurd (none-some n h)
    by (Some i) e h =
        let own = entry_at d key i e in
        let (g, is_group, is_def) = group_by d i n own.entry own.at h in
        record {
          place = i;
          entry = own.entry;
          group = g;
          is_place = e;
          number = h;
          at = own.at;
          own = own.own;
          is_group = is_group;
          is_def = is_def;
          knows = ap (λ (o : Option ℕ). option_and_then (λ (x : DictEntry). x.group) (option_and_then (λ i. slice_get d.entries i) o)) e
              ∙ ap (λ (o : Option DictEntry). option_and_then (λ (x : DictEntry). x.group) o) own.at ∙ is_group;
        }

-- a shortest way is no longer
pub no_longer : (reach : Reach) (number total : ℕ) (wild : Bool) → IsNoLater reach number total wild → reach.length ≤ total
no_longer reach number total wild (inl less) = omega (arith, less)
no_longer reach number total wild (inr same) = let e = same.0 in omega (arith, e)
