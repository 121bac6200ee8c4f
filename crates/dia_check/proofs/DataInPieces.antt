-- An AVP whose head is there, and whose data comes in pieces.
use Rattle.std.proofs.Common.{◌≡◌, ◌≢◌, ℕ, suc, ◌+◌, ◌-◌, ◌*◌, ◌/◌, ◌%◌, ◌<◌, ◌≤◌, List, [], ◌∷◌, ◌++◌, length, map, take, drop, Option, Some, None, refl, sym, ap, subst, ◌∙◌, arith, inl, inr}
use Rattle.std.specs.Prelude.{min, ◌⊎◌, ◌↔◌, slice_get, MatchOption, MatchResult, IfOk, IfSome, Result, Ok, Err, IsSome, unwrap_or, option_and_then, option_map, filter_map, true, false}
use Rattle.std.proofs.Math.Seq.{take-add}
use Rattle.std.proofs.lemmas.List.{take_all, take-take, drop-take, drop-drop, drop_all, length-take}
use Rattle.std.proofs.lemmas.Option.{none-some, same_Some, slice_get_within}
use Rattle.dia_wire.specs.declared.Key.{Key}
use Rattle.dia_wire.specs.declared.AvpHead.{AvpHead}
use Rattle.dia_wire.specs.Wire.{PlainAvp, key_of, head_length, avp_length, BeginsWith}
use Rattle.dia_wire.proofs.Spelling.{rounded-le, opened}
use Rattle.dia_data.specs.Plain.{Grouped}
use Rattle.dia_data.specs.declared.LeafState.{LeafState}
use Rattle.dia_book.specs.Dictionary.{Dictionary, DictEntry, IsDictionary, PlainDefinition, definitions, entry_of, group_place}
use Rattle.dia_terms.specs.declared.Unknown.{Unknown}
use Rattle.dia_terms.specs.declared.Levels.{Levels}
use Rattle.dia_check.specs.declared.fault.Reason.{Reason}
use Rattle.dia_check.specs.declared.fault.Reason.TheVariants as reason
use Rattle.dia_check.specs.declared.fault.Subject.TheVariants.{Avp}
use Rattle.dia_check.specs.declared.fault.Refusal.TheVariants as refusal
use Rattle.dia_check.specs.declared.open_levels.OpenLevels.{OpenLevels}
use Rattle.dia_check.specs.declared.open_levels.Wrong.{Wrong}
use Rattle.dia_check.specs.declared.fault.Refusal.{Refusal}
use Rattle.dia_check.specs.declared.stream.parts.Part.{Part}
use Rattle.dia_check.specs.declared.stream.parts.DataPart.{DataPart}
use Rattle.dia_valid.specs.Valid.{known}
use Rattle.dia_check.specs.Levels.{between, MayOpen}
use Rattle.dia_check.specs.Faults.{HasGoodHeader}
use Rattle.dia_check.specs.Reasons.{code_of}
use Rattle.dia_check.specs.OpenLevels.{begun, and_key, AreOpen}
use Rattle.dia_check.specs.Admission.{IsAdmitted, IsFirstRefused, IsFineAvp, IsFineData, IsWrongData}
use Rattle.dia_check.specs.Walks.{Rest, inside, whole, IsFoundIn}
use Rattle.dia_check.specs.UnderWay.{so_far, Lies, AreNested, IsUnderWay}
use Rattle.dia_check.specs.Reading.{HasSeen, IsGoodLeaf, IsBadLeaf, IsNoGroup, IsGroupOf, BeginsLevelAt, IsInData, IsAtAvp, IsNext, IsStop, IsEntered, LiesAt}
use Rattle.dia_valid.proofs.Entries.{all_at}
use Rattle.dia_check.proofs.FaultlessLevels.{opens}
use Rattle.dia_check.proofs.AvpFaults.{no_number, is_grouped, group_data, too_deep}
use Rattle.dia_valid.proofs.Entries.{entry_here, group_of_entry, group_definition}
use Rattle.dia_check.proofs.FoundFaultsStand.{lies_inside}
use Rattle.dia_check.proofs.FirstFaults.{begun_room}
use Rattle.dia_check.proofs.Uniqueness.{nat_cases}
use Rattle.dia_check.proofs.RestOfLevels.{is_fine, group_is}
use Rattle.dia_check.proofs.UnderWay.{place, deep, before_end, passed, entered, found_wrong}

-- ---- groups and leaves by their entries

none_of : (o : Option PlainDefinition) → (IsSome o → ⊥) → o ≡ None
none_of None h = refl
none_of (Some x) h = absurd (h refl)

module _ (d : Dictionary) (sound : IsDictionary d) where
  grouped_entry : (key : Key) (e : DictEntry) → known d key ≡ Some e → (e.format ≡ Grouped) ↔ IsSome e.group
  grouped_entry key e is = by (entry_of d key) refl
    where
      by : (o : Option ℕ) → entry_of d key ≡ o → (e.format ≡ Grouped) ↔ IsSome e.group
      by None none = absurd (none-some e (sym (ap (λ (o : Option ℕ). option_and_then (λ j. slice_get d.entries j) o) none) ∙ is))
      by (Some i) some = all_at (λ (x : DictEntry). (x.format ≡ Grouped) ↔ IsSome x.group) d.entries i e sound.grouped
          (sym (ap (λ (o : Option ℕ). option_and_then (λ j. slice_get d.entries j) o) some) ∙ is)

  no_definition : (key : Key) (e : DictEntry) → known d key ≡ Some e → e.format ≢ Grouped → e.group ≡ None
  no_definition key e is single = none_of e.group (λ some. single ((grouped_entry key e is).1 some))

  -- a known AVP without a definition is no group
  no_group : (key : Key) (i : ℕ) → Some i ≡ entry_of d key → None ≡ group_place d i → IsNoGroup d key
  no_group key i is none e some grouped =
      let (x, at, here) = entry_here d key i is in
      let same = same_Some x e (sym here ∙ some) in
      by e.group refl (none ∙ group_of_entry d i e (at ∙ ap (λ (y : DictEntry). Some y) same)) ((grouped_entry key e some).0 grouped)
    where
      by : (o : Option PlainDefinition) → e.group ≡ o → None ≡ option_map (λ _. length (filter_map (λ y. y.group) (take i d.entries))) o → IsSome o → ⊥
      by None has h some = absurd (let f : false ≡ true = some in cc)
      by (Some g) has h some = none-some (length (filter_map (λ (y : DictEntry). y.group) (take i d.entries))) h

  -- what the book says of an entry
  pub group_said : (key : Key) (i : ℕ) (group : Option ℕ) → Some i ≡ entry_of d key → group ≡ group_place d i → MatchOption group (IsNoGroup d key) (IsGroupOf d key)
  group_said key i None is says = no_group key i is says
  group_said key i (Some g) is says = (i, is, says)

  group_definition_of : (key : Key) (g : ℕ) → IsGroupOf d key g → (definition : PlainDefinition) × (slice_get (definitions d) g ≡ Some definition)
  group_definition_of key g (i, is, number) =
      let (e, there, some) = entry_here d key i is in
      let (definition, its, here) = group_definition d i e there g number in (definition, here)

  pub group_number : (key : Key) (g : ℕ) → IsGroupOf d key g → g < length (definitions d)
  group_number key g is = let (definition, here) = group_definition_of key g is in slice_get_within (definitions d) g definition here

pub head_few : (vendor : Option ℕ) → head_length vendor ≤ 12
head_few None = omega arith
head_few (Some x) = omega arith

-- ---- one message

-- what memory is taken for
pub stop_for : (d : Dictionary) (u : Unknown) (most : Levels) (bytes : List ℕ) (good : HasGoodHeader d bytes) (Less Memory : Type 0) → (Less → Memory) → (e : Refusal)
    → IsStop d u most bytes good Less e → IsStop d u most bytes good Memory e
stop_for d u most bytes good Less Memory more (refusal.Fault f) h = h
stop_for d u most bytes good Less Memory more refusal.NoMemory h = more h
stop_for d u most bytes good Less Memory more refusal.Truncated h = h
stop_for d u most bytes good Less Memory more refusal.Trailing h = h
stop_for d u most bytes good Less Memory more refusal.Spent h = h

-- of the place at which the data of a group begins
pub each_entered : (P Q : ℕ → Type 0) (r : Result (Option ℕ) Refusal) → ((n : ℕ) → P n → Q n) → IfOk r (λ next. IfSome next P) → IfOk r (λ next. IfSome next Q)
each_entered P Q (Ok (Some n)) more h = more n h
each_entered P Q (Ok None) more h = tt
each_entered P Q (Err e) more h = tt

pub stop_ahead : (d : Dictionary) (u : Unknown) (most : Levels) (bytes : List ℕ) (good : HasGoodHeader d bytes) (o : OpenLevels) (Less Memory : Type 0) (r : Result (Option ℕ) Refusal)
    → (Less → Memory) → MatchResult r (IsEntered d u most bytes good o) (IsStop d u most bytes good Less) → MatchResult r (IsEntered d u most bytes good o) (IsStop d u most bytes good Memory)
stop_ahead d u most bytes good o Less Memory (Ok next) more h = h
stop_ahead d u most bytes good o Less Memory (Err e) more h = stop_for d u most bytes good Less Memory more e h

-- where the next part is, and what memory is taken for
pub next_is_here : (d : Dictionary) (u : Unknown) (most : Levels) (bytes : List ℕ) (good : HasGoodHeader d bytes) (o : OpenLevels) (Memory : Type 0) (r : Result (Option Part) Refusal)
    (Less : Type 0) (at : ℕ) {n : ℕ} → (Less → Memory) → at ≡ n
    → MatchResult r (λ next. IsNext d u most bytes good o next at) (IsStop d u most bytes good Less) → MatchResult r (λ next. IsNext d u most bytes good o next n) (IsStop d u most bytes good Memory)
next_is_here d u most bytes good o Memory (Ok next) Less at more is h = subst (λ (n : ℕ). IsNext d u most bytes good o next n) is h
next_is_here d u most bytes good o Memory (Err (refusal.Fault f)) Less at more is h = h
next_is_here d u most bytes good o Memory (Err refusal.NoMemory) Less at more is h = more h
next_is_here d u most bytes good o Memory (Err refusal.Truncated) Less at more is h = h
next_is_here d u most bytes good o Memory (Err refusal.Trailing) Less at more is h = h
next_is_here d u most bytes good o Memory (Err refusal.Spent) Less at more is h = h

module _ (d : Dictionary) (sound : IsDictionary d) (u : Unknown) (most : Levels) (bytes : List ℕ) (good : HasGoodHeader d bytes) where
  innermost_at : (depth next : ℕ) (rs : List Rest) (s : Rest) → AreNested d u most bytes good depth next rs s → Lies d u most bytes good s × (s.at % 4 ≡ 0)
  innermost_at depth next [] s h = (h.lies, h.aligned)
  innermost_at depth next (r ∷ rs) s (here, h) = innermost_at (suc depth) r.at rs s h

  leaf_fine : (v : PlainAvp) (depth : ℕ) → IsGoodLeaf d (key_of v) v.bytes → MatchOption (known d (key_of v)) (no_number ≡ no_number) (λ e. IsFineData d most depth e v.bytes None)
  leaf_fine v depth leaf = by (known d (key_of v)) refl
    where
      by : (o : Option DictEntry) → known d (key_of v) ≡ o → MatchOption o (no_number ≡ no_number) (λ e. IsFineData d most depth e v.bytes None)
      by None is = refl
      by (Some e) is = let l = leaf e is in record { leaf = inl l.1; opens = λ g. absurd (l.0 g); definition = no_definition d sound (key_of v) e is l.0 }

  -- ---- after the data

  module _ (o : OpenLevels) (part : DataPart) (n : ℕ) (h : IsInData d u most bytes good o part n) (over : part.next ≤ n) where
    all_seen : take (n - (part.at + head_length h.avp.vendor)) h.avp.bytes ≡ h.avp.bytes
    all_seen = take_all (n - (part.at + head_length h.avp.vendor)) h.avp.bytes (let e = h.is_next in omega (arith, e, over, rounded-le (avp_length h.avp)))

    pub data_seen : HasSeen d part.leaf part.key h.avp.bytes
    data_seen = subst (HasSeen d part.leaf part.key) all_seen h.seen

    pub data_passed : IsGoodLeaf d part.key h.avp.bytes → IsUnderWay d u most bytes good o part.next
    data_passed leaf = passed d sound u most bytes good h.before part.at h.under_way h.avp h.rest o part.next h.begins
        (h.admitted, leaf_fine h.avp (length (map so_far h.under_way.rests)) (subst (λ (k : Key). IsGoodLeaf d k h.avp.bytes) h.is_key leaf)) h.occurs h.is_next

    pub data_wrong : (r : Reason) → IsBadLeaf d part.key h.avp.bytes r
        → IsFoundIn d u most (whole good.command.rules bytes) (refusal.Fault (record { place = part.at; code = code_of r; reason = r; subject = Avp part.key }))
    data_wrong r (e, some, bad) =
        subst (λ (k : Key). IsFoundIn d u most (whole good.command.rules bytes) (refusal.Fault (record { place = part.at; code = code_of r; reason = r; subject = Avp k }))) (sym h.is_key)
        (found_wrong d sound u most bytes good h.before part.at h.under_way h.avp h.rest (record { reason = r; subject = Avp (key_of h.avp) }) h.begins
        (inr (h.admitted, refl, (e, ap (λ (k : Key). known d k) (sym h.is_key) ∙ some, bad most (length (map so_far h.under_way.rests))))))

    pub place_few : part.at ≤ length bytes
    place_few = let p = place d sound u most bytes good h.before part.at h.under_way in omega (arith, p.0, p.1)

  -- ---- after the head

  module _ (o : OpenLevels) (at : ℕ) (head : AvpHead) (h : IsAtAvp d u most bytes good o at head) where
    pub same_key : (vendor : ℕ) → vendor ≡ unwrap_or head.vendor 0 → record { code = head.code; vendor = vendor } ≡ key_of h.avp
    same_key vendor is =
        ap (λ (x : ℕ). record { code = head.code; vendor = x }) (is ∙ ap (λ (x : Option ℕ). unwrap_or x 0) (sym h.is_head.vendor))
        ∙ ap (λ (x : ℕ). record { code = x; vendor = unwrap_or h.avp.vendor 0 }) (sym h.is_head.code)

    pub same_head : head_length h.avp.vendor ≡ head_length head.vendor
    same_head = ap head_length h.is_head.vendor

    pub head_in : head_length head.vendor ≤ head.length
    head_in = let e = h.is_head.len in let s = same_head in omega (arith, e, s)

    pub avp_within : at + head.length ≤ length bytes
    avp_within = let p = (before_end d sound u most bytes good o at h.under_way h.avp h.rest h.begins).1 in let e = h.is_head.len in omega (arith, p, e)

    module _ (key : Key) (is_key : key ≡ key_of h.avp) where
      pub not_admitted : (x : Wrong) → IsFirstRefused d u h.under_way.s.level.rules (map key_of h.under_way.s.earlier) key head.flags x
          → IsFoundIn d u most (whole good.command.rules bytes) (refusal.Fault (record { place = at; code = code_of x.reason; reason = x.reason; subject = x.subject }))
      not_admitted x first = found_wrong d sound u most bytes good o at h.under_way h.avp h.rest x h.begins
          (inl (subst (λ (k : Key). IsFirstRefused d u h.under_way.s.level.rules (map key_of h.under_way.s.earlier) k h.avp.flags x) is_key
          (subst (λ (f : ℕ). IsFirstRefused d u h.under_way.s.level.rules (map key_of h.under_way.s.earlier) key f x) (sym h.is_head.flags) first)))

      module _ (next : OpenLevels) (admits : IsAdmitted d u h.under_way.s.level.rules (map key_of h.under_way.s.earlier) key head.flags)
          (now : AreOpen (definitions d) next (map so_far h.under_way.rests) (and_key (so_far h.under_way.s) key)) where
        admits_it : IsAdmitted d u h.under_way.s.level.rules (map key_of h.under_way.s.earlier) (key_of h.avp) h.avp.flags
        admits_it = subst (λ (k : Key). IsAdmitted d u h.under_way.s.level.rules (map key_of h.under_way.s.earlier) k h.avp.flags) is_key
            (subst (λ (f : ℕ). IsAdmitted d u h.under_way.s.level.rules (map key_of h.under_way.s.earlier) key f) (sym h.is_head.flags) admits)

        pub data_begun : (end to : ℕ) (leaf : Option LeafState) → end ≡ at + head.length → to ≡ (end + 3) / 4 * 4 → HasSeen d leaf key []
            → IsInData d u most bytes good next (record { at = at; key = key; end = end; next = to; leaf = leaf }) (at + head_length head.vendor)
        data_begun end to leaf is_end is_next seen = record {
          before = o;
          under_way = h.under_way;
          avp = h.avp;
          rest = h.rest;
          begins = h.begins;
          is_key = is_key;
          is_end = is_end ∙ ap (λ (n : ℕ). at + n) (sym h.is_head.len);
          is_next = let a = (innermost_at 0 ((length bytes + 3) / 4 * 4) h.under_way.rests h.under_way.s h.under_way.nested).1 in let e = h.under_way.here in let l = h.is_head.len in
              omega (arith, a, e, l, is_end, is_next);
          admitted = admits_it;
          occurs = subst (λ (k : Key). AreOpen (definitions d) next (map so_far h.under_way.rests) (and_key (so_far h.under_way.s) k)) is_key now;
          from = let e = same_head in omega (arith, e);
          seen = let e : (at + head_length head.vendor) - (at + head_length h.avp.vendor) ≡ 0 = (let s = same_head in omega (arith, s)) in
              subst (λ (n : ℕ). HasSeen d leaf key (take n h.avp.bytes)) (sym e) seen;
        }

        -- ---- a group

        module _ (g : ℕ) (depth : ℕ) (is_depth : depth ≡ length (map so_far h.under_way.rests)) (group : IsGroupOf d key g) (may : MayOpen most depth) where
          says : IsFineAvp d u most (length (map so_far h.under_way.rests)) h.under_way.s.level.rules (map key_of h.under_way.s.earlier) h.avp (Some g)
          says =
              let (i, is, number) = group in
              let (e, there, some) = entry_here d key i is in
              let here : known d (key_of h.avp) ≡ Some e = ap (λ (k : Key). known d k) (sym is_key) ∙ some in
              let fine = group_data d sound most depth i e there h.avp.bytes g (inr (is_grouped d sound most depth i e there h.avp.bytes g number)) number may in (
                admits_it,
                subst (λ (x : Option DictEntry). MatchOption x (Some g ≡ None) (λ (e : DictEntry). IsFineData d most (length (map so_far h.under_way.rests)) e h.avp.bytes (Some g))) (sym here)
                    (subst (λ (n : ℕ). IsFineData d most n e h.avp.bytes (Some g)) is_depth fine),
              )

          pub level_begins : BeginsLevelAt d most bytes (at + head_length head.vendor)
          level_begins =
              let s = h.under_way.s in
              let fine = subst (λ (n : ℕ). IsFineAvp d u most n s.level.rules (map key_of s.earlier) h.avp (Some g)) (deep d sound u most bytes good o at h.under_way) says in
              let (definition, is_group, number) = group_is d u most s h.avp g fine in
              let lies = (innermost_at 0 ((length bytes + 3) / 4 * 4) h.under_way.rests s h.under_way.nested).0 in
              let inner = lies_inside d u most bytes good s h.avp h.rest definition lies h.begins is_group
              (opens d sound u most s h.avp definition (is_fine d u most s h.avp (Some g) fine) is_group) in
              let e = h.under_way.here in let k = same_head in
              record { level = (inside s h.avp definition).level; is_open = inner.open_level; start = omega (arith, e, k) }

          pub group_entered : (after : OpenLevels) (end : ℕ)
              → ((definition : PlainDefinition) → slice_get (definitions d) g ≡ Some definition
              → AreOpen (definitions d) after (map so_far h.under_way.rests ++ and_key (so_far h.under_way.s) key ∷ []) (begun definition.rules end))
              → end ≡ at + head.length → IsUnderWay d u most bytes good after (at + head_length head.vendor)
          group_entered after end opened is_end = entered d sound u most bytes good o at h.under_way h.avp h.rest g after end (at + head_length head.vendor) h.begins says
              (λ definition number. subst (λ (k : Key). AreOpen (definitions d) after (map so_far h.under_way.rests
              ++ and_key (so_far h.under_way.s) k ∷ []) (begun definition.rules end)) is_key (opened definition number))
              (is_end ∙ ap (λ (n : ℕ). at + n) (sym h.is_head.len)) (ap (λ (n : ℕ). at + n) (sym same_head))

      pub not_entered : (depth g : ℕ) → depth ≡ length (map so_far h.under_way.rests)
          → IsAdmitted d u h.under_way.s.level.rules (map key_of h.under_way.s.earlier) key head.flags → IsGroupOf d key g → ¬ MayOpen most depth
          → IsFoundIn d u most (whole good.command.rules bytes) (refusal.Fault (record { place = at; code = code_of reason.Depth; reason = reason.Depth; subject = Avp key }))
      not_entered depth g is_depth admits (i, is, number) deep =
          let (e, there, some) = entry_here d key i is in
          let here : known d (key_of h.avp) ≡ Some e = ap (λ (k : Key). known d k) (sym is_key) ∙ some in
          let it = subst (λ (k : Key). IsAdmitted d u h.under_way.s.level.rules (map key_of h.under_way.s.earlier) k h.avp.flags) is_key
          (subst (λ (f : ℕ). IsAdmitted d u h.under_way.s.level.rules (map key_of h.under_way.s.earlier) key f) (sym h.is_head.flags) admits) in
          let bad = too_deep d sound most depth i e there h.avp.bytes g (inr (is_grouped d sound most depth i e there h.avp.bytes g number)) number deep in
          subst (λ (k : Key). IsFoundIn d u most (whole good.command.rules bytes)
          (refusal.Fault (record { place = at; code = code_of reason.Depth; reason = reason.Depth; subject = Avp k }))) (sym is_key)
          (found_wrong d sound u most bytes good o at h.under_way h.avp h.rest (record { reason = reason.Depth; subject = Avp (key_of h.avp) }) h.begins
          (inr (it, refl, (e, here, subst (λ (n : ℕ). IsWrongData most n e h.avp.bytes reason.Depth) is_depth bad))))

-- ---- reading on

-- the first bytes of a part, and how many more of it
more_seen : (L a t m : ℕ) (S : List ℕ) → m ≤ t → m ≤ L - a → (t ≤ m) ⊎ (L - a ≤ m) → take (a + t) (take L S) ≡ take a (take L S) ++ take m (drop a S)
more_seen L a t m S le within least = take-add a t (take L S) ∙ ap (λ (x : List ℕ). take a (take L S) ++ x) (by (nat_cases L a))
  where
    inside : a ≤ L → take t (drop a (take L S)) ≡ take m (drop a S)
    inside le' =
        let e : a + (L - a) ≡ L = omega (arith, le') in
        let d : drop a (take L S) ≡ take (L - a) (drop a S) = ap (λ (n : ℕ). drop a (take n S)) (sym e) ∙ drop-take a (L - a) S in
        ap (take t) d ∙ least_of least
      where
        least_of : (t ≤ m) ⊎ (L - a ≤ m) → take t (take (L - a) (drop a S)) ≡ take m (drop a S)
        least_of (inl all) = let e : t ≡ m = omega (arith, all, le) in ap (λ (n : ℕ). take n (take (L - a) (drop a S))) e ∙ take-take m (L - a) (drop a S) within
        least_of (inr all) = let e : L - a ≡ m = omega (arith, all, within) in
            take_all t (take (L - a) (drop a S)) (omega (arith, length-take (L - a) (drop a S), e, le)) ∙ ap (λ (n : ℕ). take n (drop a S)) e

    by : (L < a) ⊎ ((a < L) ⊎ (L ≡ a)) → take t (drop a (take L S)) ≡ take m (drop a S)
    by (inl over) =
        let none : m ≡ 0 = omega (arith, within, over) in
        let gone = drop_all a (take L S) (omega (arith, over, length-take L S)) in
        ap (take t) gone ∙ take_all t [] (omega arith) ∙ ap (λ (n : ℕ). take n (drop a S)) (sym none)
    by (inr (inl less)) = inside (omega (arith, less))
    by (inr (inr same)) = inside (omega (arith, same))

module _ (d : Dictionary) (sound : IsDictionary d) (u : Unknown) (most : Levels) (bytes : List ℕ) (good : HasGoodHeader d bytes) where
  -- the data of an AVP lies in the message
  pub avp_bytes : (o : OpenLevels) (at : ℕ) (w : IsUnderWay d u most bytes good o at) (v : PlainAvp) (rest : List ℕ) → BeginsWith v w.s.bytes rest
      → v.bytes ≡ take (length v.bytes) (drop (at + head_length v.vendor) bytes)
  avp_bytes o at w v rest begins =
      let (front, spells, parts) = begins in
      let opens = opened v front rest spells in
      let l = (innermost_at d sound u most bytes good 0 ((length bytes + 3) / 4 * 4) w.rests w.s w.nested).0 in
      let room = begun_room d u most w.s v rest begins in
      let size = l.size in
      let h = head_length v.vendor in
      let e : h + (w.s.level.end - w.s.at - h) ≡ w.s.level.end - w.s.at = omega (arith, room, size, rounded-le (avp_length v)) in
      let le : length v.bytes ≤ w.s.level.end - w.s.at - h = omega (arith, room, size, rounded-le (avp_length v)) in
      let tail : drop h (between bytes w.s.at w.s.level.end) ≡ take (w.s.level.end - w.s.at - h) (drop h (drop w.s.at bytes)) =
      ap (λ (n : ℕ). drop h (take n (drop w.s.at bytes))) (sym e) ∙ drop-take h (w.s.level.end - w.s.at - h) (drop w.s.at bytes) in
      opens.bytes
      ∙ ap (λ (t : List ℕ). take (length v.bytes) (drop h t)) (sym parts ∙ sym l.here)
      ∙ ap (take (length v.bytes)) tail
      ∙ take-take (length v.bytes) (w.s.level.end - w.s.at - h) (drop h (drop w.s.at bytes)) le
      ∙ ap (take (length v.bytes)) (drop-drop h w.s.at bytes ∙ ap (λ (n : ℕ). drop (n + h) bytes) w.here)

  -- more of the data and the padding is read
  module _ (o : OpenLevels) (part : DataPart) (n : ℕ) (h : IsInData d u most bytes good o part n) (piece : List ℕ) (lies : LiesAt bytes n piece) where
    pub data_more : (taken count : ℕ) (leaf : Option LeafState) → taken ≤ length piece → count ≤ taken → count ≤ part.end - n → (taken ≤ count) ⊎ (part.end - n ≤ count)
        → ((read : List ℕ) → HasSeen d part.leaf part.key read → HasSeen d leaf part.key (read ++ take count piece))
        → IsInData d u most bytes good o (record { at = part.at; key = part.key; end = part.end; next = part.next; leaf = leaf }) (n + taken)
    data_more taken count leaf few le within least fed = record {
      before = h.before;
      under_way = h.under_way;
      avp = h.avp;
      rest = h.rest;
      begins = h.begins;
      is_key = h.is_key;
      is_end = h.is_end;
      is_next = h.is_next;
      admitted = h.admitted;
      occurs = h.occurs;
      from = let f = h.from in omega (arith, f);
      seen = subst (HasSeen d leaf part.key) same (fed (take (n - start) h.avp.bytes) h.seen);
    }
      where
        start : ℕ
        start = part.at + head_length h.avp.vendor

        is_bytes : h.avp.bytes ≡ take (length h.avp.bytes) (drop start bytes)
        is_bytes = avp_bytes h.before part.at h.under_way h.avp h.rest h.begins

        here : take count piece ≡ take count (drop (n - start) (drop start bytes))
        here =
            let f = h.from in
            let e : (n + length piece) - n ≡ length piece = omega arith in
            let to : start + (n - start) ≡ n = omega (arith, f) in
            ap (take count) (sym lies.0 ∙ ap (λ (k : ℕ). take k (drop n bytes)) e) ∙ take-take count (length piece) (drop n bytes) (omega (arith, le, few))
            ∙ ap (λ (t : List ℕ). take count t) (sym (drop-drop (n - start) start bytes ∙ ap (λ (k : ℕ). drop k bytes) to))

        same : take (n - start) h.avp.bytes ++ take count piece ≡ take ((n + taken) - start) h.avp.bytes
        same =
            let f = h.from in let end = h.is_end in
            let L = length h.avp.bytes in
            let e : (n - start) + taken ≡ (n + taken) - start = omega (arith, f) in
            let rest : part.end - n ≡ L - (n - start) = omega (arith, f, end) in
            let more = more_seen L (n - start) taken count (drop start bytes) le (omega (arith, within, rest)) (either least rest) in
            ap (λ (t : List ℕ). take (n - start) t ++ take count piece) is_bytes ∙ ap (λ (t : List ℕ). take (n - start) (take L (drop start bytes)) ++ t) here
            ∙ sym more ∙ ap (λ (t : List ℕ). take ((n - start) + taken) t) (sym is_bytes) ∙ ap (λ (k : ℕ). take k h.avp.bytes) e
          where
            either : (taken ≤ count) ⊎ (part.end - n ≤ count) → part.end - n ≡ length h.avp.bytes - (n - start) → (taken ≤ count) ⊎ (length h.avp.bytes - (n - start) ≤ count)
            either (inl all) rest = inl all
            either (inr all) rest = inr (omega (arith, all, rest))

-- how much of a piece lies in the data
pub least_count : (taken room count : ℕ) → count ≡ min taken room → (count ≤ taken) × (count ≤ room) × ((taken ≤ count) ⊎ (room ≤ count))
least_count taken room count is = by (nat_cases taken room)
  where
    by : (taken < room) ⊎ ((room < taken) ⊎ (taken ≡ room)) → (count ≤ taken) × (count ≤ room) × ((taken ≤ count) ⊎ (room ≤ count))
    by (inl less) = (omega (arith, is, less), omega (arith, is, less), inl (omega (arith, is, less)))
    by (inr (inl less)) = (omega (arith, is, less), omega (arith, is, less), inr (omega (arith, is, less)))
    by (inr (inr same)) = (omega (arith, is, same), omega (arith, is, same), inl (omega (arith, is, same)))
