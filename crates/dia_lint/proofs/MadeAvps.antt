-- AVPs in bytes that are sent, with heads that are as short as their keys allow.
use Rattle.std.proofs.Common.{◌≡◌, ℕ, zero, suc, ◌+◌, ◌^◌, ◌<◌, Bool, false, List, [], ◌∷◌, ◌++◌, length, Option, Some, None, refl, sym, ap, subst, ◌∙◌, arith, inl, inr, length-append}
use Rattle.std.specs.Prelude.{map, if◌then◌else◌, MatchOption}
use Rattle.std.specs.List.{AllByRecursion}
use Rattle.dia_wire.specs.declared.Key.{Key}
use Rattle.dia_wire.specs.Wire.{PlainAvp, key_of, Spells, SpellsAll, head_length}
use Rattle.dia_data.specs.Leaf.{IsLeaf}
use Rattle.dia_book.specs.declared.MRule.{MRule}
use Rattle.dia_book.specs.declared.MRule.TheVariants.{Must, MustNot, Any as AnyM}
use Rattle.dia_book.specs.declared.DRule.{DRule}
use Rattle.dia_book.specs.Dictionary.{Dictionary, DictEntry, PlainDefinition}
use Rattle.dia_valid.specs.Valid.{IsAccepted, MHolds, known}
use Rattle.dia_valid.proofs.Members.{IsIn}
use Rattle.dia_terms.specs.declared.Sends.{Sends}
use Rattle.dia_terms.specs.declared.Sends.TheVariants.{Any}
use Rattle.dia_breaking_sites.specs.Sent.{own_policy, StandAsSent, IsSentAvp, IsSentLevel, IsSentWithin, AreBytes}
use Rattle.dia_breaking_sites.proofs.Members.{all_map}
use Rattle.dia_breaking_sites.proofs.SafeLevels.{body_more}
use Rattle.dia_breaking_levels.specs.LeastLevels.{total}
use Rattle.dia_breaking_shortest.specs.Bytes.{avp_bytes, avp_flags, demands_m}
use Rattle.dia_breaking_shortest.specs.Floors.{shortest_head, vendor_field, padded, IsSpellable}
use Rattle.dia_breaking_shortest.proofs.LeastBytes.{joined, avp_are}
use Rattle.dia_breaking_shortest.proofs.SpelledBytes.{said_avp, said_key, avp_size, avp_spelled, flags_there}

-- an AVP of the key that is sent is spelled in n bytes
abbrev pub IsMade : Dictionary → Sends → Key → ℕ → Type 0
IsMade d sends key n = (v : PlainAvp) × (bytes : List ℕ) × (key_of v ≡ key) × IsSentAvp d sends v × Spells v bytes × AreBytes bytes × (length bytes ≡ n)

-- ---- flags

m_of_none : (rule : MRule) → MHolds rule (avp_flags 0 (demands_m rule))
m_of_none Must = λ e. let p : 64 ≡ 0 = e in omega (arith, p)
m_of_none MustNot = λ h. h refl
m_of_none AnyM = tt

m_of_some : (rule : MRule) → MHolds rule (if demands_m rule then 192 else 128)
m_of_some Must = λ e. let p : 64 ≡ 0 = e in omega (arith, p)
m_of_some MustNot = λ h. h refl
m_of_some AnyM = tt

m_holds : (rule : MRule) (vendor : ℕ) → MHolds rule (avp_flags vendor (demands_m rule))
m_holds rule zero = m_of_none rule
m_holds rule (suc n) = subst (MHolds rule) (sym (flags_there n (demands_m rule))) (m_of_some rule)

-- ---- one AVP

abbrev FitsEntry : Dictionary → Sends → (List DRule → List ℕ → Type 0) → PlainAvp → Option DictEntry → Type 0
FitsEntry d sends Inner v entry =
    MatchOption entry (IsAccepted (own_policy sends) v.flags) (λ e. MHolds e.rule v.flags × MatchOption e.group (IsLeaf e.format v.bytes) (λ group. Inner group.rules v.bytes))

is_made : (d : Dictionary) (sends : Sends) (key : Key) (m : Bool) (bytes : List ℕ) (n : ℕ) → IsSpellable key → AreBytes bytes → shortest_head key + length bytes < 2 ^ 24
    → IsSentWithin d sends n (said_avp key m bytes) → IsMade d sends key (padded (shortest_head key + length bytes))
is_made d sends key m bytes n small are short fit =
    (said_avp key m bytes, avp_bytes key m bytes, said_key key m bytes small, (n, fit), avp_spelled key m bytes short, avp_are key m bytes are, avp_size key m bytes)

pub leaf_made : (d : Dictionary) (sends : Sends) (key : Key) (entry : DictEntry) (bytes : List ℕ) → IsSpellable key → known d key ≡ Some entry → entry.group ≡ None → AreBytes bytes
    → IsLeaf entry.format bytes → shortest_head key + length bytes < 2 ^ 24 → IsMade d sends key (padded (shortest_head key + length bytes))
leaf_made d sends key entry bytes small is none are leaf short =
    let m = demands_m entry.rule in
    let v = said_avp key m bytes in
    let data_fit = subst (λ (g : Option PlainDefinition). MatchOption g (IsLeaf entry.format bytes) (λ group. ⊥)) (sym none) leaf in
    let fit = subst (FitsEntry d sends (λ rules b. ⊥) v) (sym (ap (known d) (said_key key m bytes small) ∙ is)) (m_holds entry.rule key.vendor, data_fit) in
    is_made d sends key m bytes 0 small are short fit

pub unknown_made : (d : Dictionary) (key : Key) → IsSpellable key → known d key ≡ None → IsMade d Any key (padded (shortest_head key))
unknown_made d key small none =
    let v = said_avp key false [] in
    let fit = subst (FitsEntry d Any (λ rules b. ⊥) v) (sym (ap (known d) (said_key key false [] small) ∙ none)) (m_holds MustNot key.vendor) in
    let none_more : shortest_head key + 0 ≡ shortest_head key = omega arith in
    subst (λ (n : ℕ). IsMade d Any key (padded n)) none_more (is_made d Any key false [] 0 small tt (short_head key.vendor) fit)
  where
    short_head : (n : ℕ) → head_length (vendor_field n) + 0 < 2 ^ 24
    short_head zero = omega arith
    short_head (suc n) = omega arith

-- ---- more levels

-- as many levels more
abbrev pub more : ℕ → ℕ → ℕ
more zero n = n
more (suc m) n = suc (more m n)

-- AVPs of the keys, one after the other, in n bytes
pub record AreMade (d : Dictionary) (sends : Sends) (keys : List Key) (n : ℕ) : Type 0 where
  pub depth : ℕ
  pub avps : List PlainAvp
  pub bytes : List ℕ
  pub keys_are : map key_of avps ≡ keys
  pub spelled : SpellsAll avps bytes
  pub fit : AllByRecursion (IsSentWithin d sends depth) avps
  pub are : AreBytes bytes
  pub size : length bytes ≡ n

-- and the first with this key is this AVP, which takes so many bytes
pub record AreMadeWith (d : Dictionary) (sends : Sends) (cost : Key → ℕ) (v : PlainAvp) (size : ℕ) (keys : List Key) : Type 0 where
  pub n : ℕ
  pub made : AreMade d sends keys n
  pub has : IsIn v made.avps
  pub n_is : n + cost (key_of v) ≡ total cost keys + size

-- an AVP of the key that is sent, with these AVPs in its data, in n bytes
pub record IsGroupOf (d : Dictionary) (sends : Sends) (key : Key) (avps : List PlainAvp) (n : ℕ) : Type 0 where
  pub depth : ℕ
  pub v : PlainAvp
  pub bytes : List ℕ
  pub own : key_of v ≡ key
  pub fit : IsSentWithin d sends depth v
  pub spelled : Spells v bytes
  pub are : AreBytes bytes
  pub size : length bytes ≡ n
  pub inner : SpellsAll avps v.bytes

module _ (d : Dictionary) (sends : Sends) where
  level_in : (m n : ℕ) → ((v : PlainAvp) → IsSentWithin d sends m v → IsSentWithin d sends n v) → (v : PlainAvp) → IsSentWithin d sends (suc m) v → IsSentWithin d sends (suc n) v
  level_in m n each v fit =
      body_more (own_policy sends) (IsSentLevel sends (IsSentWithin d sends m)) (IsSentLevel sends (IsSentWithin d sends n)) v (known d (key_of v))
      (λ rules level. (level.0, level.1, level.2, all_map (IsSentWithin d sends m) (IsSentWithin d sends n) level.0 each level.3)) fit

  no_level : (n : ℕ) (v : PlainAvp) → IsSentWithin d sends zero v → IsSentWithin d sends n v
  no_level zero v fit = fit
  no_level (suc n) v fit = body_more (own_policy sends) (λ rules bytes. ⊥) (IsSentLevel sends (IsSentWithin d sends n)) v (known d (key_of v)) (λ rules none. absurd none) fit

  one_deeper : (n : ℕ) (v : PlainAvp) → IsSentWithin d sends n v → IsSentWithin d sends (suc n) v
  one_deeper zero v fit = no_level 1 v fit
  one_deeper (suc n) v fit = level_in n (suc n) (one_deeper n) v fit

  deeper : (m n : ℕ) (v : PlainAvp) → IsSentWithin d sends n v → IsSentWithin d sends (more m n) v
  deeper zero n v fit = fit
  deeper (suc m) n v fit = one_deeper (more m n) v (deeper m n v fit)

  as_deep : (m n : ℕ) (v : PlainAvp) → IsSentWithin d sends m v → IsSentWithin d sends (more m n) v
  as_deep zero n v fit = no_level n v fit
  as_deep (suc m) n v fit = level_in m (more m n) (as_deep m n) v fit

  -- ---- AVPs of the keys, one after the other

  -- one AVP, and then others
  abbrev one_before : (v : PlainAvp) (bytes : List ℕ) (m : ℕ) (keys : List Key) (n : ℕ) → IsSentWithin d sends m v → Spells v bytes → AreBytes bytes → AreMade d sends keys n
      → AreMade d sends (key_of v ∷ keys) (length bytes + n)
  one_before v bytes m keys n fit s are rest = record {
    depth = more m rest.depth;
    avps = v ∷ rest.avps;
    bytes = bytes ++ rest.bytes;
    keys_are = ap (λ (xs : List Key). key_of v ∷ xs) rest.keys_are;
    spelled = (bytes, rest.bytes, s, refl, rest.spelled);
    fit = (as_deep m rest.depth v fit, all_map (IsSentWithin d sends rest.depth) (IsSentWithin d sends (more m rest.depth)) rest.avps (deeper m rest.depth) rest.fit);
    are = joined bytes rest.bytes are rest.are;
    size = let size = rest.size in omega (arith, length-append bytes rest.bytes, size);
  }

  pub made : (cost : Key → ℕ) (keys : List Key) → AllByRecursion (λ k. IsMade d sends k (cost k)) keys → AreMade d sends keys (total cost keys)
  made cost [] all = record { depth = 0; avps = []; bytes = []; keys_are = refl; spelled = refl; fit = tt; are = tt; size = refl }
  made cost (k ∷ ks) ((v, bytes, is, (m, fit), s, are, size), all) =
      subst (λ (n : ℕ). AreMade d sends (k ∷ ks) (n + total cost ks)) size
      (subst (λ (q : Key). AreMade d sends (q ∷ ks) (length bytes + total cost ks)) is (one_before v bytes m ks (total cost ks) fit s are (made cost ks all)))

  -- and the first of a key is replaced by this AVP
  pub made_with : (cost : Key → ℕ) (v : PlainAvp) (bytes : List ℕ) (m : ℕ) → IsSentWithin d sends m v → Spells v bytes → AreBytes bytes → (keys : List Key)
      → AllByRecursion (λ k. IsMade d sends k (cost k)) keys → IsIn (key_of v) keys → AreMadeWith d sends cost v (length bytes) keys
  made_with cost v bytes m fit s are [] all i = absurd i
  made_with cost v bytes m fit s are (k ∷ ks) (first, all) (inl e) =
      subst (λ (q : Key). AreMadeWith d sends cost v (length bytes) (q ∷ ks)) e (record {
        n = length bytes + total cost ks;
        made = one_before v bytes m ks (total cost ks) fit s are (made cost ks all);
        has = inl refl;
        n_is = omega arith;
      })
  made_with cost v bytes m fit s are (k ∷ ks) ((w, other, is, (depth, goes), spells, bytes_are, size), all) (inr i) =
      let rest = made_with cost v bytes m fit s are ks all i in
      let n_is = rest.n_is in
      let own : cost (key_of w) ≡ cost k = ap cost is in
      subst (λ (q : Key). AreMadeWith d sends cost v (length bytes) (q ∷ ks)) is (record {
        n = length other + rest.n;
        made = one_before w other depth ks rest.n goes spells bytes_are rest.made;
        has = inr rest.has;
        n_is = omega (arith, n_is, own, size);
      })

  -- ---- a group

  pub group_of_level : (key : Key) (entry : DictEntry) (group : PlainDefinition) (avps : List PlainAvp) (bytes : List ℕ) (depth : ℕ) → IsSpellable key → known d key ≡ Some entry → entry.group ≡ Some group
      → SpellsAll avps bytes → AreBytes bytes → StandAsSent sends group.rules (map key_of avps) → AllByRecursion (IsSentWithin d sends depth) avps → shortest_head key + length bytes < 2 ^ 24
      → IsGroupOf d sends key avps (padded (shortest_head key + length bytes))
  group_of_level key entry group avps bytes depth small is some spelled are stand sent short =
      let m = demands_m entry.rule in
      let v = said_avp key m bytes in
      let Inner : List DRule → List ℕ → Type 0 = IsSentLevel sends (IsSentWithin d sends depth) in
      let level : Inner group.rules bytes = (avps, spelled, stand, sent) in
      let data_fit = subst (λ (g : Option PlainDefinition). MatchOption g (IsLeaf entry.format bytes) (λ x. Inner x.rules bytes)) (sym some) level in
      record {
        depth = suc depth;
        v = v;
        bytes = avp_bytes key m bytes;
        own = said_key key m bytes small;
        fit = subst (FitsEntry d sends Inner v) (sym (ap (known d) (said_key key m bytes small) ∙ is)) (m_holds entry.rule key.vendor, data_fit);
        spelled = avp_spelled key m bytes short;
        are = avp_are key m bytes are;
        size = avp_size key m bytes;
        inner = spelled;
      }

  pub group_made : (cost : Key → ℕ) (key : Key) (entry : DictEntry) (group : PlainDefinition) (keys : List Key) → IsSpellable key → known d key ≡ Some entry → entry.group ≡ Some group
      → StandAsSent sends group.rules keys → AllByRecursion (λ k. IsMade d sends k (cost k)) keys → shortest_head key + total cost keys < 2 ^ 24
      → IsMade d sends key (padded (shortest_head key + total cost keys))
  group_made cost key entry group keys small is some sent all short =
      let b = made cost keys all in
      let g = group_of_level key entry group b.avps b.bytes b.depth small is some b.spelled b.are (subst (StandAsSent sends group.rules) (sym b.keys_are) sent) b.fit
      (subst (λ (n : ℕ). shortest_head key + n < 2 ^ 24) (sym b.size) short) in
      subst (λ (n : ℕ). IsMade d sends key (padded (shortest_head key + n))) b.size (g.v, g.bytes, g.own, (g.depth, g.fit), g.spelled, g.are, g.size)
