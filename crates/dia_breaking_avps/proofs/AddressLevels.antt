-- Levels that are Addresses: they aren't empty, and begin with the code of no family.
use Rattle.std.proofs.Common.{◌≡◌, ◌≢◌, ℕ, ◌+◌, ◌*◌, ◌<◌, true, false, List, [], ◌∷◌, ◌++◌, length, map, All, Option, Some, None, refl, sym, ap, subst, arith, inl, inr}
use Rattle.std.specs.Prelude.{◌⊎◌, is_some, not, option_and_then, slice_get, IsTrue, MatchOption}
use Rattle.std.specs.List.{AllByRecursion}
use Rattle.std.proofs.lemmas.Bool.{both_ways}
use Rattle.dia_wire.specs.declared.Key.{Key}
use Rattle.dia_wire.specs.Wire.{PlainAvp, Spells, key_of}
use Rattle.dia_data.specs.Leaf.{IsAddress, IsLeaf}
use Rattle.dia_data.specs.Number.{number}
use Rattle.dia_book.specs.declared.DRule.{DRule}
use Rattle.dia_book.specs.Dictionary.{Dictionary, DictEntry, is_fixed}
use Rattle.dia_book.specs.Keys.{same_key}
use Rattle.dia_book.proofs.SameKeys.{same_key-true}
use Rattle.dia_terms.specs.declared.sends.Sends.{Sends}
use Rattle.dia_terms.specs.declared.sends.Sends.TheVariants.{Any, Known, Filled, Listed}
use Rattle.dia_valid.specs.Valid.{Placed, fixed_rules, has_wildcard, is_listed, is_wildcard, known, loose_rules}
use Rattle.dia_valid.proofs.Members.{IsIn, all_of, any_in, in_at, in_filter}
use Rattle.dia_valid.proofs.RulesOfKeys.{IsRunKey, all_middle, listed}
use Rattle.dia_valid.proofs.Searches.{Found, NotFound, found_or_not}
use Rattle.dia_breaking_sites.specs.Sent.{is_open, AreBytes, AreListed, IsSentLevel, IsSentWithin, StandAsSent}
use Rattle.dia_breaking_sites.proofs.Members.{all_parts}
use Rattle.dia_breaking_avps.specs.Levels.{AreAddresses, HasNoFamily, HaveNoFamilies, IsFamily, OthersHaveNone}
use Rattle.dia_breaking_avps.proofs.Alone.{sent_data}
use Rattle.dia_breaking_avps.proofs.EmptyLevels.{none_placed}

-- ---- bytes that begin with a code

by_code : (code x vendor bytes padding rest : List ℕ) (n : ℕ) → length code ≡ 4 → number code ≡ n → AllByRecursion (λ b. b < 256) code → ¬ IsFamily n
    → IsAddress (code ++ x ++ vendor ++ bytes ++ padding ++ rest)
by_code (a ∷ b ∷ c ∷ d ∷ []) x vendor bytes padding rest n size value all other =
    let value : a * 16777216 + (b * 65536 + (c * 256 + (d * 1 + 0))) ≡ n = value in
    let c_byte = all.1.1.0 in
    let d_byte = all.1.1.1.0 in
    record {
      family = a ∷ b ∷ [];
      rest = (c ∷ d ∷ []) ++ x ++ vendor ++ bytes ++ padding ++ rest;
      parts = refl;
      width = refl;
      ipv4 = λ e. let one : a * 256 + (b * 1 + 0) ≡ 1 = e in absurd (other (omega (arith, value, one), omega (arith, value, one, c_byte, d_byte)));
      ipv6 = λ e. let two : a * 256 + (b * 1 + 0) ≡ 2 = e in absurd (other (omega (arith, value, two), omega (arith, value, two, c_byte, d_byte)));
    }
by_code [] x vendor bytes padding rest n size value all other = absurd (omega (arith, size))
by_code (a ∷ []) x vendor bytes padding rest n size value all other = absurd (omega (arith, size))
by_code (a ∷ b ∷ []) x vendor bytes padding rest n size value all other = absurd (omega (arith, size))
by_code (a ∷ b ∷ c ∷ []) x vendor bytes padding rest n size value all other = absurd (omega (arith, size))
by_code (a ∷ b ∷ c ∷ d ∷ e ∷ more) x vendor bytes padding rest n size value all other = absurd (omega (arith, size))

by_front : (v : PlainAvp) (front rest : List ℕ) → Spells v front → AreBytes front → ¬ IsFamily v.code → IsAddress (front ++ rest)
by_front v front rest s are other =
    let bytes = subst AreBytes s.parts are in
    let head = (all_parts (λ b. b < 256) (s.code ++ (v.flags ∷ s.len) ++ s.vendor ++ v.bytes) s.padding bytes).0 in
    let fields = (all_parts (λ b. b < 256) (s.code ++ (v.flags ∷ s.len) ++ s.vendor) v.bytes head).0 in
    let first = (all_parts (λ b. b < 256) (s.code ++ (v.flags ∷ s.len)) s.vendor fields).0 in
    let code = (all_parts (λ b. b < 256) s.code (v.flags ∷ s.len) first).0 in
    subst (λ (f : List ℕ). IsAddress (f ++ rest)) (sym s.parts) (by_code s.code (v.flags ∷ s.len) s.vendor v.bytes s.padding rest v.code s.code_field.width s.code_field.value code other)

-- ---- the first AVP of a level

-- what comes first has a rule, or comes through a wildcard
abbrev IsLetIn : List DRule → Key → Type 0
IsLetIn rules key = ((rule : DRule) × IsIn rule rules × (rule.key ≡ Some key)) ⊎ ((is_listed rules key ≡ false) × IsTrue (has_wildcard rules))

first_placed : (rules : List DRule) (key : Key) (keys : List Key) → Placed rules (key ∷ keys) → IsLetIn rules key
first_placed rules key keys placed = by m.0 m.1 m.2
  where
    m : (middle : List Key) × (key ∷ keys ≡ middle ++ placed.rest) × AllByRecursion (IsRunKey (fixed_rules rules) []) middle
    m = all_middle (fixed_rules rules) (key ∷ keys) placed.rest placed.runs

    head : List Key → Key
    head [] = key
    head (k ∷ ks) = k

    loose : (rest : List Key) → key ∷ keys ≡ rest → AllByRecursion (λ k. IsTrue (is_listed (loose_rules rules) k) ⊎ ((is_listed rules k ≡ false) × IsTrue (has_wildcard rules))) rest → IsLetIn rules key
    loose [] e all = absurd (let n = ap length e in omega (arith, n))
    loose (k ∷ ks) e all = of_loose (subst (λ (q : Key). IsTrue (is_listed (loose_rules rules) q) ⊎ ((is_listed rules q ≡ false) × IsTrue (has_wildcard rules))) (sym (ap head e)) all.0)
      where
        of_loose : IsTrue (is_listed (loose_rules rules) key) ⊎ ((is_listed rules key ≡ false) × IsTrue (has_wildcard rules)) → IsLetIn rules key
        of_loose (inl is) = let r = listed (loose_rules rules) key is in inl (r.0, (in_filter (λ (x : DRule). not (is_fixed x)) rules r.0 r.1).0, r.2)
        of_loose (inr other) = inr other

    by : (middle : List Key) → key ∷ keys ≡ middle ++ placed.rest → AllByRecursion (IsRunKey (fixed_rules rules) []) middle → IsLetIn rules key
    by [] e all = loose placed.rest e placed.loose
    by (k ∷ middle) e all =
        let run = subst (IsRunKey (fixed_rules rules) []) (sym (ap head e)) all.0 in
        inl (run.rule, (in_filter is_fixed rules run.rule run.is_rule).0, run.is_key)

-- an AVP that A knows has an entry of its key
of_entries : (d : Dictionary) (who : Sends) (v : PlainAvp) (n : ℕ) → who ≢ Any → IsSentWithin d who n v → All (λ e. ¬ IsFamily e.key.code) d.entries → HasNoFamily (key_of v)
of_entries d who v n other sent all = by (found_or_not (λ (e : DictEntry). same_key (key_of v) e.key) d.entries)
  where
    unknown : known d (key_of v) ≡ None → ⊥
    unknown none =
        other (subst (λ (o : Option DictEntry). MatchOption o (who ≡ Any) (λ e. MatchOption e.group (IsLeaf e.format v.bytes) (λ group. (n : ℕ) × IsSentLevel who (IsSentWithin d who n) group.rules v.bytes))) none
        (sent_data d who n v sent))

    by : Found (λ (e : DictEntry). same_key (key_of v) e.key) d.entries ⊎ NotFound (λ (e : DictEntry). same_key (key_of v) e.key) d.entries → HasNoFamily (key_of v)
    by (inl f) =
        subst HasNoFamily (sym (same_key-true (key_of v) f.item.key f.passes)) (all_of (λ (e : DictEntry). ¬ IsFamily e.key.code) d.entries f.item all (in_at d.entries f.place f.item f.at))
    by (inr none) = absurd (unknown (ap (λ (o : Option ℕ). option_and_then (λ i. slice_get d.entries i) o) none.is_none))

-- what no rule lists
unlisted : (d : Dictionary) (who : Sends) (v : PlainAvp) (n : ℕ) (rules : List DRule) (keys : List Key) → StandAsSent who rules (key_of v ∷ keys) → IsSentWithin d who n v
    → is_listed rules (key_of v) ≡ false → OthersHaveNone d who rules → HasNoFamily (key_of v)
unlisted d Any v n rules keys stand sent other none = absurd none
unlisted d Known v n rules keys stand sent other none = of_entries d Known v n (λ e. absurd (let bad : Known ≡ Any = e in cc)) sent none
unlisted d Filled v n rules keys stand sent other none = by stand.1
  where
    by : IsTrue (is_open Filled rules) ⊎ AreListed rules (key_of v ∷ keys) → HasNoFamily (key_of v)
    by (inl lets) = of_entries d Filled v n (λ e. absurd (let bad : Filled ≡ Any = e in cc)) sent (none lets)
    by (inr all) = absurd (both_ways (is_listed rules (key_of v)) other all.0)
unlisted d Listed v n rules keys stand sent other none = by stand.1
  where
    by : IsTrue (is_open Listed rules) ⊎ AreListed rules (key_of v ∷ keys) → HasNoFamily (key_of v)
    by (inl never) = absurd (let bad : false ≡ true = never in cc)
    by (inr all) = absurd (both_ways (is_listed rules (key_of v)) other all.0)

wildcard_none : (d : Dictionary) (who : Sends) (rules : List DRule) → IsTrue (has_wildcard rules) → HaveNoFamilies d who rules → OthersHaveNone d who rules
wildcard_none d who rules has all =
    let r = any_in is_wildcard rules has in
    of_rule r.0.key (all_of (λ (rule : DRule). MatchOption rule.key (OthersHaveNone d who rules) HasNoFamily) rules r.0 all r.1) r.2
  where
    of_rule : (o : Option Key) → MatchOption o (OthersHaveNone d who rules) HasNoFamily → not (is_some o) ≡ true → OthersHaveNone d who rules
    of_rule None h is = h
    of_rule (Some key) h is = absurd (let e : false ≡ true = is in cc)

placed_of : (who : Sends) (rules : List DRule) (keys : List Key) → StandAsSent who rules keys → Placed rules keys
placed_of who rules keys h = h.0

first_none : (d : Dictionary) (who : Sends) (v : PlainAvp) (n : ℕ) (rules : List DRule) (keys : List Key) → StandAsSent who rules (key_of v ∷ keys) → IsSentWithin d who n v → HaveNoFamilies d who rules
    → HasNoFamily (key_of v)
first_none d who v n rules keys stand sent all = by (first_placed rules (key_of v) keys (placed_of who rules (key_of v ∷ keys) stand))
  where
    by : IsLetIn rules (key_of v) → HasNoFamily (key_of v)
    by (inl (rule, is, names)) =
        subst (λ (o : Option Key). MatchOption o (OthersHaveNone d who rules) HasNoFamily) names (all_of (λ (r : DRule). MatchOption r.key (OthersHaveNone d who rules) HasNoFamily) rules rule all is)
    by (inr (other, has)) = unlisted d who v n rules keys stand sent other (wildcard_none d who rules has all)

-- ---- the level

pub level_is_address : (d : Dictionary) (who : Sends) (rules : List DRule) → AreAddresses d who rules → (n : ℕ) (bytes : List ℕ) → AreBytes bytes → IsSentLevel who (IsSentWithin d who n) rules bytes
    → IsAddress bytes
level_is_address d who rules (some, none) n bytes are ([], spelled, stand, sent) = absurd (some (none_placed rules (placed_of who rules [] stand)))
level_is_address d who rules (some, none) n bytes are (v ∷ avps, (front, rest, s, parts, later), stand, sent) =
    let front_bytes = (all_parts (λ b. b < 256) front rest (subst AreBytes parts are)).0 in
    subst IsAddress (sym parts) (by_front v front rest s front_bytes (first_none d who v n rules (map key_of avps) stand sent.0 none))
