-- AVPs that are sent, with heads that are as short as their keys allow.
use Rattle.std.proofs.Common.{◌≡◌, ℕ, zero, suc, ◌+◌, ◌^◌, ◌<◌, List, [], ◌∷◌, ◌++◌, length, Option, Some, None, refl, sym, ap, subst, ◌∙◌, arith, length-append}
use Rattle.std.specs.Prelude.{◌↔◌, map, MatchOption, unwrap_or, IsSome, true, false}
use Rattle.std.specs.List.{AllByRecursion}
use Rattle.dia_wire.specs.declared.Key.{Key}
use Rattle.dia_wire.specs.Wire.{PlainAvp, key_of, HasVendorFlag, IsVendorField, SpellsAll, head_length}
use Rattle.dia_wire.specs.Written.{avp_bytes, vendor_bytes}
use Rattle.dia_wire.proofs.Written.{avp_spelled, four}
use Rattle.dia_data.specs.Leaf.{IsLeaf}
use Rattle.dia_book.specs.declared.MRule.{MRule}
use Rattle.dia_book.specs.declared.MRule.TheVariants.{Must, MustNot, Any as AnyM}
use Rattle.dia_book.specs.declared.DRule.{DRule}
use Rattle.dia_book.specs.Dictionary.{Dictionary, DictEntry, PlainDefinition}
use Rattle.dia_valid.specs.Valid.{IsAccepted, MHolds, known}
use Rattle.dia_terms.specs.declared.Sends.{Sends}
use Rattle.dia_terms.specs.declared.Sends.TheVariants.{Any}
use Rattle.dia_breaking_sites.specs.Sent.{own_policy, StandAsSent, IsSentLevel, IsSentWithin}
use Rattle.dia_breaking_levels.specs.LeastLevels.{total}
use Rattle.dia_breaking_shortest.specs.Floors.{shortest_head, vendor_field, padded, IsAttained, IsSpellable}
use Rattle.dia_breaking_shortest.proofs.FloorsOfAvps.{spelled_length}

-- ---- flags

abbrev flags : MRule → Option ℕ → ℕ
flags Must None = 64
flags Must (Some n) = 192
flags MustNot None = 0
flags MustNot (Some n) = 128
flags AnyM None = 0
flags AnyM (Some n) = 128

m_holds : (rule : MRule) (vendor : Option ℕ) → MHolds rule (flags rule vendor)
m_holds Must None = λ e. let p : 64 ≡ 0 = e in omega (arith, p)
m_holds Must (Some n) = λ e. let p : 64 ≡ 0 = e in omega (arith, p)
m_holds MustNot None = λ h. h refl
m_holds MustNot (Some n) = λ h. h refl
m_holds AnyM None = tt
m_holds AnyM (Some n) = tt

v_agrees : (rule : MRule) (vendor : Option ℕ) → HasVendorFlag (flags rule vendor) ↔ IsSome vendor
v_agrees Must None = (λ h. absurd (h refl), λ s. absurd (let p : false ≡ true = s in cc))
v_agrees MustNot None = (λ h. absurd (h refl), λ s. absurd (let p : false ≡ true = s in cc))
v_agrees AnyM None = (λ h. absurd (h refl), λ s. absurd (let p : false ≡ true = s in cc))
v_agrees Must (Some n) = (λ h. refl, λ s e. let p : 128 ≡ 0 = e in omega (arith, p))
v_agrees MustNot (Some n) = (λ h. refl, λ s e. let p : 128 ≡ 0 = e in omega (arith, p))
v_agrees AnyM (Some n) = (λ h. refl, λ s e. let p : 128 ≡ 0 = e in omega (arith, p))

-- ---- an AVP with these data

abbrev avp_of : Key → MRule → List ℕ → PlainAvp
avp_of key rule bytes = record { code = key.code; flags = flags rule (vendor_field key.vendor); vendor = vendor_field key.vendor; bytes = bytes }

vendor_is : (n : ℕ) → unwrap_or (vendor_field n) 0 ≡ n
vendor_is zero = refl
vendor_is (suc n) = refl

key_is : (key : Key) (rule : MRule) (bytes : List ℕ) → key_of (avp_of key rule bytes) ≡ key
key_is key rule bytes = ap (λ (n : ℕ). let k : Key = record { code = key.code; vendor = n } in k) (vendor_is key.vendor)

vendor_spelled : (n : ℕ) → n < 2 ^ 32 → IsVendorField (vendor_field n) (vendor_bytes (vendor_field n))
vendor_spelled zero small = refl
vendor_spelled (suc n) small = four (suc n) small

-- it is spelled, if it is not too long
is_spelled : (d : Dictionary) (sends : Sends) (key : Key) (rule : MRule) (bytes : List ℕ) (n : ℕ) → IsSpellable key → shortest_head key + length bytes < 2 ^ 24
    → IsSentWithin d sends n (avp_of key rule bytes)
    → IsAttained d sends key (padded (shortest_head key + length bytes))
is_spelled d sends key rule bytes n small short fit =
    let v = avp_of key rule bytes in
    let spelled = (avp_spelled v (v_agrees rule (vendor_field key.vendor)) short (four key.code small.0) (vendor_spelled key.vendor small.1)).spells in
    (v, avp_bytes v, key_is key rule bytes, (n, fit), spelled, spelled_length v (avp_bytes v) spelled)

abbrev FitsEntry : Dictionary → Sends → (List DRule → List ℕ → Type 0) → PlainAvp → Option DictEntry → Type 0
FitsEntry d sends Inner v entry =
    MatchOption entry (IsAccepted (own_policy sends) v.flags) (λ e. MHolds e.rule v.flags × MatchOption e.group (IsLeaf e.format v.bytes) (λ group. Inner group.rules v.bytes))

pub leaf_attained : (d : Dictionary) (sends : Sends) (key : Key) (entry : DictEntry) (bytes : List ℕ) → IsSpellable key → known d key ≡ Some entry → entry.group ≡ None → IsLeaf entry.format bytes
    → shortest_head key + length bytes < 2 ^ 24 → IsAttained d sends key (padded (shortest_head key + length bytes))
leaf_attained d sends key entry bytes small is none leaf short =
    let v = avp_of key entry.rule bytes in
    let data_fit = subst (λ (g : Option PlainDefinition). MatchOption g (IsLeaf entry.format bytes) (λ group. ⊥)) (sym none) leaf in
    let fit = subst (FitsEntry d sends (λ rules b. ⊥) v) (sym (ap (known d) (key_is key entry.rule bytes) ∙ is)) (m_holds entry.rule (vendor_field key.vendor), data_fit) in
    is_spelled d sends key entry.rule bytes 0 small short fit

pub unknown_attained : (d : Dictionary) (key : Key) → IsSpellable key → known d key ≡ None → IsAttained d Any key (padded (shortest_head key))
unknown_attained d key small none =
    let v = avp_of key MustNot [] in
    let fit = subst (FitsEntry d Any (λ rules b. ⊥) v) (sym (ap (known d) (key_is key MustNot []) ∙ none)) (m_holds MustNot (vendor_field key.vendor)) in
    let none_more : shortest_head key + 0 ≡ shortest_head key = omega arith in
    subst (λ (n : ℕ). IsAttained d Any key (padded n)) none_more (is_spelled d Any key MustNot [] 0 small (short_head key.vendor) fit)
  where
    short_head : (n : ℕ) → head_length (vendor_field n) + 0 < 2 ^ 24
    short_head zero = omega arith
    short_head (suc n) = omega arith

-- ---- more levels

all_of : {P Q : PlainAvp → Type 0} → ((v : PlainAvp) → P v → Q v) → (avps : List PlainAvp) → AllByRecursion P avps → AllByRecursion Q avps
all_of each [] all = tt
all_of each (v ∷ vs) all = (each v all.0, all_of each vs all.1)

of_group : (Inner Other : List DRule → List ℕ → Type 0) → ((rules : List DRule) (bytes : List ℕ) → Inner rules bytes → Other rules bytes)
    → (Leaf : Type 0) (bytes : List ℕ) (group : Option PlainDefinition) → MatchOption group Leaf (λ g. Inner g.rules bytes) → MatchOption group Leaf (λ g. Other g.rules bytes)
of_group Inner Other inside Leaf bytes None leaf = leaf
of_group Inner Other inside Leaf bytes (Some g) level = inside g.rules bytes level

of_fit : (u : Type 0) (Inner Other : List DRule → List ℕ → Type 0) → ((rules : List DRule) (bytes : List ℕ) → Inner rules bytes → Other rules bytes)
    → (v : PlainAvp) (entry : Option DictEntry) → MatchOption entry u (λ e. MHolds e.rule v.flags × MatchOption e.group (IsLeaf e.format v.bytes) (λ group. Inner group.rules v.bytes))
    → MatchOption entry u (λ e. MHolds e.rule v.flags × MatchOption e.group (IsLeaf e.format v.bytes) (λ group. Other group.rules v.bytes))
of_fit u Inner Other inside v None accepted = accepted
of_fit u Inner Other inside v (Some e) fit = (fit.0, of_group Inner Other inside (IsLeaf e.format v.bytes) v.bytes e.group fit.1)

-- as many levels more
abbrev more : ℕ → ℕ → ℕ
more zero n = n
more (suc m) n = suc (more m n)

level_in : (d : Dictionary) (sends : Sends) (m n : ℕ) → ((v : PlainAvp) → IsSentWithin d sends m v → IsSentWithin d sends n v) → (v : PlainAvp) → IsSentWithin d sends (suc m) v
    → IsSentWithin d sends (suc n) v
level_in d sends m n each v fit =
    of_fit (IsAccepted (own_policy sends) v.flags) (IsSentLevel sends (IsSentWithin d sends m)) (IsSentLevel sends (IsSentWithin d sends n))
    (λ rules bytes level. (level.0, level.1, level.2, all_of each level.0 level.3)) v (known d (key_of v)) fit

no_level : (d : Dictionary) (sends : Sends) (n : ℕ) (v : PlainAvp) → IsSentWithin d sends zero v → IsSentWithin d sends n v
no_level d sends zero v fit = fit
no_level d sends (suc n) v fit =
    of_fit (IsAccepted (own_policy sends) v.flags) (λ rules bytes. ⊥) (IsSentLevel sends (IsSentWithin d sends n)) (λ rules bytes none. absurd none) v (known d (key_of v)) fit

one_deeper : (d : Dictionary) (sends : Sends) (n : ℕ) (v : PlainAvp) → IsSentWithin d sends n v → IsSentWithin d sends (suc n) v
one_deeper d sends zero v fit = no_level d sends 1 v fit
one_deeper d sends (suc n) v fit = level_in d sends n (suc n) (one_deeper d sends n) v fit

deeper : (d : Dictionary) (sends : Sends) (m n : ℕ) (v : PlainAvp) → IsSentWithin d sends n v → IsSentWithin d sends (more m n) v
deeper d sends zero n v fit = fit
deeper d sends (suc m) n v fit = one_deeper d sends (more m n) v (deeper d sends m n v fit)

as_deep : (d : Dictionary) (sends : Sends) (m n : ℕ) (v : PlainAvp) → IsSentWithin d sends m v → IsSentWithin d sends (more m n) v
as_deep d sends zero n v fit = no_level d sends n v fit
as_deep d sends (suc m) n v fit = level_in d sends m (more m n) (as_deep d sends m n) v fit

-- ---- a group

-- AVPs of the keys, one after the other
record AreBuilt (d : Dictionary) (sends : Sends) (cost : Key → ℕ) (keys : List Key) : Type 0 where
  depth : ℕ
  avps : List PlainAvp
  bytes : List ℕ
  keys_are : map key_of avps ≡ keys
  spelled : SpellsAll avps bytes
  fit : AllByRecursion (IsSentWithin d sends depth) avps
  size : length bytes ≡ total cost keys

built : (d : Dictionary) (sends : Sends) (cost : Key → ℕ) (keys : List Key) → AllByRecursion (λ k. IsAttained d sends k (cost k)) keys → AreBuilt d sends cost keys
built d sends cost [] all = record { depth = 0; avps = []; bytes = []; keys_are = refl; spelled = refl; fit = tt; size = refl }
built d sends cost (k ∷ ks) ((v, bytes, is, (m, fit), s, size), all) =
    let rest = built d sends cost ks all in
    let rest_size = rest.size in
    record {
      depth = more m rest.depth;
      avps = v ∷ rest.avps;
      bytes = bytes ++ rest.bytes;
      keys_are = ap (λ (x : Key). x ∷ map key_of rest.avps) is ∙ ap (λ (xs : List Key). k ∷ xs) rest.keys_are;
      spelled = (bytes, rest.bytes, s, refl, rest.spelled);
      fit = (as_deep d sends m rest.depth v fit, all_of (deeper d sends m rest.depth) rest.avps rest.fit);
      size = omega (arith, length-append bytes rest.bytes, size, rest_size);
    }

pub group_attained : (d : Dictionary) (sends : Sends) (cost : Key → ℕ) (key : Key) (entry : DictEntry) (group : PlainDefinition) (keys : List Key) → IsSpellable key → known d key ≡ Some entry
    → entry.group ≡ Some group → StandAsSent sends group.rules keys → AllByRecursion (λ k. IsAttained d sends k (cost k)) keys
    → shortest_head key + total cost keys < 2 ^ 24 → IsAttained d sends key (padded (shortest_head key + total cost keys))
group_attained d sends cost key entry group keys small is some sent all short =
    let b = built d sends cost keys all in
    let v = avp_of key entry.rule b.bytes in
    let Inner : List DRule → List ℕ → Type 0 = IsSentLevel sends (IsSentWithin d sends b.depth) in
    let level : Inner group.rules b.bytes =
    (b.avps, b.spelled, subst (StandAsSent sends group.rules) (sym b.keys_are) sent, b.fit) in
    let data_fit = subst (λ (g : Option PlainDefinition). MatchOption g (IsLeaf entry.format b.bytes) (λ x. Inner x.rules b.bytes)) (sym some) level in
    let fit = subst (FitsEntry d sends Inner v) (sym (ap (known d) (key_is key entry.rule b.bytes) ∙ is)) (m_holds entry.rule (vendor_field key.vendor), data_fit) in
    subst (λ (n : ℕ). IsAttained d sends key (padded (shortest_head key + n))) b.size
    (is_spelled d sends key entry.rule b.bytes (suc b.depth) small (subst (λ (n : ℕ). shortest_head key + n < 2 ^ 24) (sym b.size) short) fit)
