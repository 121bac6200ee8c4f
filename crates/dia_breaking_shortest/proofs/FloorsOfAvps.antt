-- No AVP that is sent is shorter than its key's floor.
use Rattle.std.proofs.Common.{◌≡◌, ℕ, zero, suc, ◌+◌, ◌*◌, ◌<◌, ◌≤◌, List, [], ◌∷◌, ◌++◌, length, Option, Some, None, refl, ap, arith, inl, inr, length-append}
use Rattle.std.specs.Prelude.{◌/◌, ◌%◌, map, MatchOption, unwrap_or}
use Rattle.std.specs.List.{AllByRecursion}
use Rattle.std.proofs.Math.Nat.{mod-lt, div-add-mod}
use Rattle.dia_wire.specs.declared.Header.{Header}
use Rattle.dia_wire.specs.declared.Key.{Key}
use Rattle.dia_wire.specs.Wire.{PlainAvp, key_of, IsHead, Spells, SpellsAll, head_length, avp_length, padded_length}
use Rattle.dia_wire.proofs.Spelling.{opened}
use Rattle.dia_data.specs.Leaf.{IsLeaf}
use Rattle.dia_book.specs.declared.DRule.{DRule}
use Rattle.dia_book.specs.Dictionary.{Dictionary, DictEntry, PlainDefinition}
use Rattle.dia_valid.specs.Valid.{IsAccepted, MHolds, known}
use Rattle.dia_terms.specs.declared.Sends.{Sends}
use Rattle.dia_terms.specs.declared.Sends.TheVariants.{Any, Known, Filled, Listed}
use Rattle.dia_breaking_sites.specs.Sent.{own_policy, StandAsSent, IsSentLevel, IsSentWithin, IsSent, IsSentAvp, AreBytes}
use Rattle.dia_breaking_sites.proofs.Members.{IsIn}
use Rattle.dia_breaking_levels.specs.LeastLevels.{total}
use Rattle.dia_breaking_shortest.specs.Floors.{shortest_head, vendor_field, AreFloors}
use Rattle.dia_breaking_shortest.proofs.BytesOfAvps.{data_bytes, body_bytes}

-- ---- lengths

pub rounded_up : (n : ℕ) → n ≤ (n + 3) / 4 * 4
rounded_up n =
    let parts : 4 * ((n + 3) / 4) + (n + 3) % 4 ≡ n + 3 = div-add-mod (n + 3) 4 in
    let small : (n + 3) % 4 < 4 = mod-lt (n + 3) (omega arith) in
    omega (arith, parts, small)

pub rounded_more : (n m : ℕ) → n ≤ m → (n + 3) / 4 * 4 ≤ (m + 3) / 4 * 4
rounded_more n m le =
    let parts : 4 * ((n + 3) / 4) + (n + 3) % 4 ≡ n + 3 = div-add-mod (n + 3) 4 in
    let others : 4 * ((m + 3) / 4) + (m + 3) % 4 ≡ m + 3 = div-add-mod (m + 3) 4 in
    let small : (m + 3) % 4 < 4 = mod-lt (m + 3) (omega arith) in
    omega (arith, parts, others, small, le)

-- no head is shorter
head_at_least : (v : PlainAvp) → shortest_head (key_of v) ≤ head_length v.vendor
head_at_least v = by v.vendor
  where
    by : (vendor : Option ℕ) → head_length (vendor_field (unwrap_or vendor 0)) ≤ head_length vendor
    by None = omega arith
    by (Some zero) = omega arith
    by (Some (suc n)) = omega arith

pub spelled_length : (v : PlainAvp) (b : List ℕ) → Spells v b → length b ≡ padded_length v
spelled_length v b s = (opened v b [] s).front_length

-- ---- a level

level_length : (d : Dictionary) (sends : Sends) (floor : Key → ℕ) (n : ℕ) (avps : List PlainAvp) → ((v : PlainAvp) → IsIn v avps → IsSentWithin d sends n v → floor (key_of v) ≤ padded_length v)
    → (bytes : List ℕ) → SpellsAll avps bytes → AllByRecursion (IsSentWithin d sends n) avps → total floor (map key_of avps) ≤ length bytes
level_length d sends floor n [] each bytes spelled fit = omega arith
level_length d sends floor n (v ∷ vs) each bytes (front, rest, s, parts, all) fit =
    omega (arith, each v (inl refl) fit.0, spelled_length v front s, ap length parts, length-append front rest, level_length d sends floor n vs (λ w i. each w (inr i)) rest all fit.1)

-- ---- an AVP

-- the data are a level of these keys, and no shorter than their floors
record HasFloor (sends : Sends) (floor : Key → ℕ) (rules : List DRule) (bytes : List ℕ) : Type 0 where
  keys : List Key
  sent : StandAsSent sends rules keys
  long : total floor keys ≤ length bytes

only_any : (sends : Sends) (flags : ℕ) → IsAccepted (own_policy sends) flags → sends ≡ Any
only_any Any flags a = refl
only_any Known flags a = absurd a
only_any Filled flags a = absurd a
only_any Listed flags a = absurd a

of_entry : (d : Dictionary) (sends : Sends) (floor : Key → ℕ) → AreFloors d sends floor → (Inner : List DRule → List ℕ → Type 0)
    → ((rules : List DRule) (bytes : List ℕ) → AreBytes bytes → Inner rules bytes → HasFloor sends floor rules bytes)
    → (v : PlainAvp) (entry : DictEntry) → AreBytes v.bytes → known d (key_of v) ≡ Some entry → (group : Option PlainDefinition) → entry.group ≡ group
    → MatchOption group (IsLeaf entry.format v.bytes) (λ g. Inner g.rules v.bytes) → floor (key_of v) ≤ padded_length v
of_entry d sends floor are Inner inside v entry every is None none leaf =
    let least = are.leaves (key_of v) entry v.bytes is none every leaf in
    let head = head_at_least v in
    let more = rounded_more (shortest_head (key_of v) + length v.bytes) (avp_length v) (omega (arith, head)) in
    omega (arith, least, more)
of_entry d sends floor are Inner inside v entry every is (Some group) some level =
    let h = inside group.rules v.bytes every level in
    let least = are.groups (key_of v) entry group h.keys is some h.sent in
    let long = h.long in
    let more = rounded_more (shortest_head (key_of v) + total floor h.keys) (avp_length v) (omega (arith, long, head_at_least v)) in
    omega (arith, least, more)

of_fit : (d : Dictionary) (sends : Sends) (floor : Key → ℕ) → AreFloors d sends floor → (Inner : List DRule → List ℕ → Type 0)
    → ((rules : List DRule) (bytes : List ℕ) → AreBytes bytes → Inner rules bytes → HasFloor sends floor rules bytes)
    → (v : PlainAvp) → AreBytes v.bytes → (entry : Option DictEntry) → known d (key_of v) ≡ entry
    → MatchOption entry (IsAccepted (own_policy sends) v.flags) (λ e. MHolds e.rule v.flags × MatchOption e.group (IsLeaf e.format v.bytes) (λ group. Inner group.rules v.bytes))
    → floor (key_of v) ≤ padded_length v
of_fit d sends floor are Inner inside v every None none accepted =
    omega (arith, are.unknown (key_of v) none (only_any sends v.flags accepted), head_at_least v, rounded_up (avp_length v))
of_fit d sends floor are Inner inside v every (Some entry) is fit = of_entry d sends floor are Inner inside v entry every is entry.group refl fit.1

at_depth : (d : Dictionary) (sends : Sends) (floor : Key → ℕ) → AreFloors d sends floor → (n : ℕ) (v : PlainAvp) → AreBytes v.bytes → IsSentWithin d sends n v → floor (key_of v) ≤ padded_length v
at_depth d sends floor are zero v every fit = of_fit d sends floor are (λ rules bytes. ⊥) (λ rules bytes all none. absurd none) v every (known d (key_of v)) refl fit
at_depth d sends floor are (suc n) v every fit =
    of_fit d sends floor are (IsSentLevel sends (IsSentWithin d sends n))
    (λ rules bytes all level. record {
      keys = map key_of level.0;
      sent = level.2;
      long = level_length d sends floor n level.0 (λ w i. at_depth d sends floor are n w (data_bytes level.0 bytes w level.1 all i)) bytes level.1 level.3;
    })
    v every (known d (key_of v)) refl fit

pub no_shorter : (d : Dictionary) (sends : Sends) (floor : Key → ℕ) → AreFloors d sends floor → (v : PlainAvp) → AreBytes v.bytes → IsSentAvp d sends v → floor (key_of v) ≤ padded_length v
no_shorter d sends floor are v every sent = at_depth d sends floor are sent.0 v every sent.1

-- ---- a message

header_is_long : (h : Header) (n : ℕ) (b : List ℕ) → IsHead h n b → length b ≡ 20
header_is_long h n b s =
    let front = 1 ∷ s.len in
    let middle = h.flags ∷ s.code in
    omega (
      arith,
      ap length s.parts,
      length-append (front ++ middle ++ s.app ++ s.hop) s.e2e,
      length-append (front ++ middle ++ s.app) s.hop,
      length-append (front ++ middle) s.app,
      length-append front middle,
      s.length_field.width,
      s.code_field.width,
      s.app_field.width,
      s.hop_field.width,
      s.e2e_field.width,
    )

pub no_message : (d : Dictionary) (sends : Sends) (floor : Key → ℕ) → AreFloors d sends floor → (bytes : List ℕ) (c : ℕ) (sent : IsSent d sends bytes c)
    → 20 + total floor (map key_of sent.avps) ≤ length bytes
no_message d sends floor are bytes c sent =
    let m = sent.message in
    let every = body_bytes sent.header sent.avps bytes m sent.are_bytes in
    let body = level_length d sends floor sent.sent.0 sent.avps (λ v i. at_depth d sends floor are sent.sent.0 v (data_bytes sent.avps m.body v m.is_body every i)) m.body m.is_body sent.sent.1 in
    omega (arith, ap length m.parts, length-append m.head m.body, header_is_long sent.header (length bytes) m.head m.is_head, body)
