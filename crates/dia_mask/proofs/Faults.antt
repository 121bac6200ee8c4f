-- Messages that differ only in padding and in data of which the format says the same have the same faults.
use Rattle.std.proofs.Common.{◌≡◌, ◌≢◌, ℕ, suc, ◌+◌, ◌-◌, ◌<◌, ◌≤◌, List, [], ◌∷◌, ◌++◌, Option, Some, length, map, take, drop, refl, sym, ap, subst, ◌∙◌, append_assoc, arith, inl, inr}
use Rattle.std.specs.Prelude.{IsSome}
use Rattle.std.proofs.lemmas.List.{length-append, length-take, length-drop, length-map, take_all}
use Rattle.std.proofs.lemmas.Option.{none-some, same_Some}
use Rattle.dia_wire.specs.declared.Header.{Header}
use Rattle.dia_wire.specs.declared.Key.{Key}
use Rattle.dia_wire.specs.Wire.{PlainAvp, key_of, head_length, avp_length, IsHead, SpellsAll, BeginsWith, BeginsWithNone}
use Rattle.dia_wire.proofs.Spelling.{at_least_8, opened, rounded-le}
use Rattle.dia_data.specs.declared.accept.Leaf.TheVariants.{BadLength, BadValue}
use Rattle.dia_data.specs.Plain.{PlainFormat, Grouped}
use Rattle.dia_data.specs.Leaf.{IsLeaf, LengthFits}
use Rattle.dia_book.specs.Dictionary.{Dictionary, DictEntry, IsDictionary, PlainDefinition}
use Rattle.dia_terms.specs.declared.Unknown.{Unknown}
use Rattle.dia_terms.specs.declared.Levels.{Levels}
use Rattle.dia_valid.specs.Valid.{group_at, known}
use Rattle.dia_valid.specs.LongestRuns.{run_end, loose_start, met}
use Rattle.dia_check.specs.declared.fault.Reason.{Reason}
use Rattle.dia_check.specs.declared.fault.Reason.TheVariants as reason
use Rattle.dia_check.specs.declared.fault.Subject.{Subject}
use Rattle.dia_check.specs.declared.fault.Subject.TheVariants.{Avp}
use Rattle.dia_check.specs.Levels.{Level, IsMember, IsOpen, between}
use Rattle.dia_check.specs.Levels as levels
use Rattle.dia_check.specs.Faults.{HasGoodHeader, HasHeader, IsFirstMissing, IsFirstShort, IsWrong, Looks, Occurs, Spot, keys_to}
use Rattle.dia_check.specs.Faults as faults
use Rattle.dia_check.proofs.FaultlessLevels.{entry_of_group, grouped_at}
use Rattle.dia_check.proofs.FirstFaults.{open_bounds}
use Rattle.dia_check.proofs.FoundFaultsStand.{between-split, first_part, length-between, second_part}
use Rattle.dia_mask.proofs.Alike.{AreAlike, flip, head_of, head_size, with_data, no_avps, leaves, groups}
use Rattle.dia_mask.proofs.Spelled.{AreDataAlike, front_too, spelled_too}

-- ---- the places of an AVP

fits_in : (bytes : List ℕ) (at end : ℕ) (v : PlainAvp) (rest : List ℕ) → end ≤ length bytes → BeginsWith v (between bytes at end) rest → at + avp_length v ≤ end
fits_in bytes at end v rest within (front, spells, parts) =
    let o = opened v front [] spells in
    let all : length (between bytes at end) ≡ length front + length rest = ap length parts ∙ length-append front rest in
    let cut = length-take (end - at) (drop at bytes) in
    let left = length-drop at bytes in
    let round = rounded-le (avp_length v) in
    omega (arith, all, o.front_length, cut, left, round, at_least_8 v.vendor, within)

data_between : (bytes : List ℕ) (at end : ℕ) (v : PlainAvp) (rest : List ℕ) → end ≤ length bytes → BeginsWith v (between bytes at end) rest
    → between bytes (at + head_length v.vendor) (at + avp_length v) ≡ v.bytes
data_between bytes at end v rest within (front, s, parts) =
    let h = head_of s in
    let last = fits_in bytes at end v rest within (front, s, parts) in
    let is : between bytes at end ≡ h ++ ((v.bytes ++ s.padding) ++ rest) = parts ∙ ap (λ (t : List ℕ). t ++ rest) (s.parts ∙ append_assoc h v.bytes s.padding) ∙ append_assoc h (v.bytes ++ s.padding) rest in
    let rest_is = second_part bytes h ((v.bytes ++ s.padding) ++ rest) at (at + head_length v.vendor) end (omega arith) (omega (arith, last)) within is (omega (arith, head_size v front s)) in
    first_part bytes v.bytes (s.padding ++ rest) (at + head_length v.vendor) (at + avp_length v) end (omega arith) last within (rest_is ∙ append_assoc v.bytes s.padding rest) (omega arith)

-- ---- what is wrong with an AVP

module _ (d : Dictionary) (sound : IsDictionary d) (u : Unknown) (most : Levels) where
  is_grouped : (v : PlainAvp) (e : DictEntry) (g : PlainDefinition) → known d (key_of v) ≡ Some e → group_at d v ≡ Some g → e.format ≡ Grouped
  is_grouped v e g h is =
      let (entry, is_known, is_group) = entry_of_group d sound u most v g (known d (key_of v)) refl is in
      let some : IsSome entry.group = subst (λ (x : Option PlainDefinition). IsSome x) (sym is_group) refl in
      ap (λ (x : DictEntry). x.format) (same_Some e entry (sym h ∙ is_known)) ∙ (grouped_at d sound u most v entry is_known).1 some

  fits_grouped : (format : PlainFormat) (bytes : List ℕ) → format ≡ Grouped → LengthFits format bytes
  fits_grouped format bytes is = subst (λ (f : PlainFormat). LengthFits f bytes) (sym is) tt

  module _ (level : Level) (earlier avps : List PlainAvp) (v : PlainAvp) (bytes : List ℕ) (keys : map key_of avps ≡ map key_of earlier) where
    same : keys_to avps (with_data v bytes) ≡ keys_to earlier v
    same = ap (λ (ks : List Key). ks ++ key_of v ∷ []) keys

    count : length avps ≡ length earlier
    count = sym (length-map avps key_of) ∙ ap length keys ∙ length-map earlier key_of

    bad_length : (e : DictEntry) → known d (key_of v) ≡ Some e → ¬ LengthFits e.format v.bytes → AreDataAlike d v bytes
        → IsWrong d u most level avps (with_data v bytes) reason.LeafLength (Avp (key_of v))
    bad_length e h bad (inl (is_leaf, says)) = faults.leaf_length e h ((says e BadLength h).0 bad)
    bad_length e h bad (inr (g, is, inner)) = absurd (bad (fits_grouped e.format v.bytes (is_grouped v e g h is)))

    bad_value : (e : DictEntry) → known d (key_of v) ≡ Some e → LengthFits e.format v.bytes → ¬ IsLeaf e.format v.bytes → e.format ≢ Grouped → AreDataAlike d v bytes
        → IsWrong d u most level avps (with_data v bytes) reason.LeafValue (Avp (key_of v))
    bad_value e h fits bad other (inl (is_leaf, says)) = let p = (says e BadValue h).0 (fits, bad, other) in faults.leaf_value e h p.0 p.1 p.2
    bad_value e h fits bad other (inr (g, is, inner)) = absurd (other (is_grouped v e g h is))

    wrong_too : (r : Reason) (t : Subject) → AreDataAlike d v bytes → IsWrong d u most level earlier v r t → IsWrong d u most level avps (with_data v bytes) r t
    wrong_too r t alike (faults.unknown h bad) = faults.unknown h bad
    wrong_too r t alike (faults.m_bit e h bad) = faults.m_bit e h bad
    wrong_too r t alike (faults.missing i rule first ends) =
        faults.missing i rule (subst (λ (ks : List Key). IsFirstShort level.rules ks i rule) (sym same) first) (ap (run_end level.rules i) same ∙ ends ∙ sym count)
    wrong_too r t alike (faults.not_allowed from which) =
        faults.not_allowed (let e = ap (loose_start level.rules) same in omega (arith, from, e, count)) which
    wrong_too r t alike (faults.too_many i rule p) =
        faults.too_many i rule (record {
          is_rule = p.is_rule;
          max = p.max;
          is_max = p.is_max;
          before = ap (λ (ks : List Key). met level.rules ks i rule) keys ∙ p.before;
          now = ap (λ (ks : List Key). met level.rules ks i rule) same ∙ p.now;
        })
    wrong_too r t alike (faults.leaf_length e h bad) = bad_length e h bad alike
    wrong_too r t alike (faults.leaf_value e h fits bad other) = bad_value e h fits bad other alike
    wrong_too r t alike (faults.depth e h is may) = faults.depth e h is may

-- ---- levels

pub record AreMessagesAlike (d : Dictionary) (bytes new : List ℕ) : Type 0 where
  pub long : length bytes ≡ length new
  pub front : take 20 bytes ≡ take 20 new
  pub body : AreAlike d (drop 20 bytes) (drop 20 new)

pub flip_message : (d : Dictionary) (bytes new : List ℕ) → AreMessagesAlike d bytes new → AreMessagesAlike d new bytes
flip_message d bytes new m = record { long = sym m.long; front = sym m.front; body = flip d (drop 20 bytes) (drop 20 new) m.body }

pub header_too : (bytes new : List ℕ) (h : Header) → length bytes ≡ length new → take 20 bytes ≡ take 20 new → HasHeader bytes h → HasHeader new h
header_too bytes new h long front is = subst (λ (n : ℕ). IsHead h n (take 20 new)) long (subst (IsHead h (length bytes)) front is)

abbrev pub good_too : (d : Dictionary) (bytes new : List ℕ) → length bytes ≡ length new → take 20 bytes ≡ take 20 new → HasGoodHeader d bytes → HasGoodHeader d new
good_too d bytes new long front good = record {
  header = good.header;
  is_header = header_too bytes new good.header long front good.is_header;
  bits = good.bits;
  c = good.c;
  select = good.select;
  command = good.command;
  is_command = good.is_command;
  proxiable = good.proxiable;
}

module _ (d : Dictionary) (most : Levels) (bytes new : List ℕ) (same : AreMessagesAlike d bytes new) where
  abbrev AreLevelsAlike : Level → Type 0
  AreLevelsAlike l = AreAlike d (between bytes l.start l.end) (between new l.start l.end)

  -- the AVPs before a place of a level, and the rest of it
  record UpToPlace (l : Level) (earlier : List PlainAvp) (at : ℕ) : Type 0 where
    avps : List PlainAvp
    before : SpellsAll avps (between new l.start at)
    keys : map key_of avps ≡ map key_of earlier
    alike : AreAlike d (between bytes at l.end) (between new at l.end)

  up_to : (l : Level) (earlier : List PlainAvp) (at : ℕ) → l.start ≤ at → at ≤ l.end → l.end ≤ length bytes → AreLevelsAlike l → SpellsAll earlier (between bytes l.start at) → UpToPlace l earlier at
  up_to l earlier at from to within alike before =
      let s = spelled_too d earlier (between bytes l.start at) (between bytes at l.end) (between bytes l.start l.end) (between new l.start l.end) alike before (between-split bytes l.start at l.end from to) in
      let long = same.long in
      let size : length s.front_too ≡ at - l.start = s.size ∙ length-between bytes l.start at from (omega (arith, to, within)) in
      let within' : l.end ≤ length new = omega (arith, within, long) in
      record {
        avps = s.avps;
        before = subst (SpellsAll s.avps) (sym (first_part new s.front_too s.rest_too l.start at l.end from to within' s.parts size)) s.spelled;
        keys = s.keys;
        alike = subst (AreAlike d (between bytes at l.end)) (sym (second_part new s.front_too s.rest_too l.start at l.end from to within' s.parts size)) s.alike;
      }

  -- the AVP at a place of a level
  record AtPlace (l : Level) (earlier : List PlainAvp) (v : PlainAvp) (at : ℕ) : Type 0 where
    avps : List PlainAvp
    data_too : List ℕ
    member : IsMember new l avps (with_data v data_too) at
    keys : map key_of avps ≡ map key_of earlier
    size : length v.bytes ≡ length data_too
    alike : AreDataAlike d v data_too

  at_place : (l : Level) (earlier : List PlainAvp) (v : PlainAvp) (at : ℕ) → l.end ≤ length bytes → AreLevelsAlike l → IsMember bytes l earlier v at → AtPlace l earlier v at
  at_place l earlier v at within alike m =
      let fits = fits_in bytes at l.end v m.rest within m.here in
      let u = up_to l earlier at m.inside (omega (arith, fits)) within alike m.before in
      let f = front_too d v (between bytes at l.end) m.rest (between new at l.end) u.alike m.here in
      record {
        avps = u.avps;
        data_too = f.bytes;
        member = record { inside = m.inside; before = u.before; rest = f.more; here = f.here };
        keys = u.keys;
        size = f.size;
        alike = f.alike;
      }

  no_leaf : (v : PlainAvp) (g : PlainDefinition) (data_too : List ℕ) → group_at d v ≡ Some g → AreDataAlike d v data_too → AreAlike d v.bytes data_too
  no_leaf v g data_too is (inl (is_leaf, says)) = absurd (none-some g (sym is_leaf ∙ is))
  no_leaf v g data_too is (inr (h, is', inner)) = inner

  body_between : (xs : List ℕ) (n : ℕ) → n ≡ length xs → between xs 20 n ≡ drop 20 xs
  body_between xs n is = let e = length-drop 20 xs in take_all (n - 20) (drop 20 xs) (omega (arith, e, is))

  module _ (u : Unknown) (good : HasGoodHeader d bytes) where
    open_too : (l : Level) → IsOpen d most bytes l → IsOpen d most new l × AreLevelsAlike l
    open_too l (levels.body c command is) = (
      subst (λ (n : ℕ). IsOpen d most new (record { rules = command.rules; start = 20; end = n; depth = 0 })) (sym same.long)
          (levels.body c command (record { header = is.header; head = header_too bytes new is.header same.long same.front is.head; select = is.select; is_command = is.is_command })),
      subst (λ (t : List ℕ). AreAlike d t (between new 20 (length bytes))) (sym (body_between bytes (length bytes) refl))
          (subst (AreAlike d (drop 20 bytes)) (sym (body_between new (length bytes) same.long)) same.body),
    )
    open_too l (levels.group p earlier v at g op m is may) =
        let ih = open_too p op in
        let within = (open_bounds d u most bytes good p op).1 in
        let a = at_place p earlier v at within ih.1 m in
        let long = same.long in
        let within' : p.end ≤ length new = omega (arith, within, long) in
        let there = data_between new at p.end (with_data v a.data_too) a.member.rest within' a.member.here in (
          subst (λ (n : ℕ). IsOpen d most new (record { rules = g.rules; start = at + head_length v.vendor; end = at + (head_length v.vendor + n); depth = suc p.depth })) (sym a.size)
              (levels.group p a.avps (with_data v a.data_too) at g ih.0 a.member is may),
          subst (λ (t : List ℕ). AreAlike d t (between new (at + head_length v.vendor) (at + avp_length v))) (sym (data_between bytes at p.end v m.rest within m.here))
              (subst (AreAlike d v.bytes) (sym (ap (λ (n : ℕ). between new (at + head_length v.vendor) (at + (head_length v.vendor + n))) a.size ∙ there)) (no_leaf v g a.data_too is a.alike)),
        )

-- ---- faults

module _ (d : Dictionary) (sound : IsDictionary d) (u : Unknown) (most : Levels) (bytes new : List ℕ) (same : AreMessagesAlike d bytes new) where
  looks_too : (l : Level) → Looks d most bytes l → Looks d most new l
  looks_too l looks = record { good = good_too d bytes new same.long same.front looks.good; open_level = (open_too d most bytes new same u looks.good l looks.open_level).0 }

  nothing_there : (level other : List ℕ) → 0 < length level → BeginsWithNone level → AreAlike d level other → BeginsWithNone other
  nothing_there level other some none (no_avps size none' there) = there
  nothing_there level other some none (leaves v more rest after begins begins' size is_leaf says next) = absurd (none v rest begins)
  nothing_there level other some none (groups v more rest after g begins begins' size is_group inner next) = absurd (none v rest begins)

  pub occurs_too : (other : Spot) (r : Reason) (t : Subject) → Occurs d u most bytes other r t → Occurs d u most new other r t
  occurs_too other r t (faults.bits h is bad) = faults.bits h (header_too bytes new h same.long same.front is) bad
  occurs_too other r t (faults.command h is none) = faults.command h (header_too bytes new h same.long same.front is) none
  occurs_too other r t (faults.application h is some none) = faults.application h (header_too bytes new h same.long same.front is) some none
  occurs_too other r t (faults.proxiable h c command is select is_command bad) =
      faults.proxiable h c command (header_too bytes new h same.long same.front is) select is_command bad
  occurs_too other r t (faults.avp_length level earlier at looks from less before none) =
      let within = (open_bounds d u most bytes looks.good level looks.open_level).1 in
      let alike = (open_too d most bytes new same u looks.good level looks.open_level).1 in
      let p = up_to d most bytes new same level earlier at from (omega (arith, less)) within alike before in
      let size = length-between bytes at level.end (omega (arith, less)) within in
      faults.avp_length level p.avps at (looks_too level looks) from less p.before
      (nothing_there (between bytes at level.end) (between new at level.end) (omega (arith, size, less)) none p.alike)
  occurs_too other r t (faults.avp level earlier v at q w meets bad) =
      let looks = meets.looks in
      let within = (open_bounds d u most bytes looks.good level looks.open_level).1 in
      let alike = (open_too d most bytes new same u looks.good level looks.open_level).1 in
      let a = at_place d most bytes new same level earlier v at within alike meets.member in
      faults.avp level a.avps (with_data v a.data_too) at q w (record { looks = looks_too level looks; member = a.member })
      (wrong_too d sound u most level earlier a.avps v a.data_too a.keys q w a.alike bad)
  occurs_too other r t (faults.missing_at_end level avps i rule looks spells first) =
      let bounds = open_bounds d u most bytes looks.good level looks.open_level in
      let alike = (open_too d most bytes new same u looks.good level looks.open_level).1 in
      let p = up_to d most bytes new same level avps level.end bounds.0 (omega arith) bounds.1 alike spells in
      faults.missing_at_end level p.avps i rule (looks_too level looks) p.before (subst (λ (ks : List Key). IsFirstMissing level.rules ks i rule) (sym p.keys) first)
