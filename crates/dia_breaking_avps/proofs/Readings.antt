-- Data of one form that is read as another.
use Rattle.std.proofs.Common.{◌≡◌, ℕ, List, [], Option, Some, None, refl, sym, ap, subst, ◌∙◌, inl, inr}
use Rattle.std.specs.Prelude.{is_some, slice_get, option_and_then, MatchOption, IfSome, ⊤}
use Rattle.std.specs.Option.{option_map, option_map_or}
use Rattle.dia_wire.specs.declared.Key.{Key}
use Rattle.dia_data.specs.Plain.{PlainFormat, AnyBytes, EightBytes, OctetString}
use Rattle.dia_data.specs.Leaf.{IsLeaf}
use Rattle.dia_book.specs.declared.DRule.{DRule}
use Rattle.dia_book.specs.Dictionary.{Dictionary, DictEntry, PlainDefinition, IsDictionary, definitions, entry_of, group_place}
use Rattle.dia_terms.specs.declared.Unknown.{Unknown}
use Rattle.dia_terms.specs.declared.sends.Sends.{Sends}
use Rattle.dia_terms.specs.declared.sends.Sends.TheVariants as senders
use Rattle.dia_valid.specs.Valid.{Fits, IsLevel, known}
use Rattle.dia_valid.proofs.Entries.{not_known}
use Rattle.dia_breaking_sites.specs.Sent.{IsSentLevel, IsSentWithin}
use Rattle.dia_breaking_data.specs.declared.short_data.Witness.{Witness}
use Rattle.dia_breaking_data.specs.Shortest.{AreBytes as AreWitnessBytes, IsShortest, witness_bytes}
use Rattle.dia_breaking_avps.specs.declared.breaking.DataBreak.{DataBreak}
use Rattle.dia_breaking_avps.specs.declared.breaking.DataBreak.TheVariants as found
use Rattle.dia_breaking_avps.specs.Sent.{IsSentData, IsAcceptedData, IsShortestRefused, group_of}
use Rattle.dia_breaking_avps.specs.Breaks.{IsDataBreak, IsLevelForLeaf}
use Rattle.dia_breaking_avps.specs.Levels.{HasEightBytes, IsUndecided, RefusesLeastLevel}
use Rattle.dia_breaking_avps.specs.Answers.{IsShortestBreak, IsEntryData, IsLeafBreak, IsLevelAsLeaf, IsLevelBreak, break_of}
use Rattle.dia_breaking_avps.proofs.Entries.{group_here, no_group}
use Rattle.dia_breaking_avps.proofs.AddressLevels.{level_is_address}
use Rattle.dia_breaking_avps.proofs.ShortLevels.{level_of}
use Rattle.dia_breaking_avps.proofs.NoLevels.{bytes_of, of_bytes}

-- ---- the same data, said otherwise

shortest_same : (S T P Q : List ℕ → Type 0) → ((bytes : List ℕ) → S bytes → T bytes) → ((bytes : List ℕ) → T bytes → S bytes) → ((bytes : List ℕ) → P bytes → Q bytes)
    → ((bytes : List ℕ) → Q bytes → P bytes) → (bytes : List ℕ) → IsShortestRefused S P bytes → IsShortestRefused T Q bytes
shortest_same S T P Q st ts pq qp bytes h = record {
  are_bytes = h.are_bytes;
  sent = st bytes h.sent;
  refused = λ q. h.refused (qp bytes q);
  least = λ other sent refused. h.least other (ts other sent) (λ p. refused (pq other p));
}

pub same_break : (S T P Q : List ℕ → Type 0) → ((bytes : List ℕ) → S bytes → T bytes) → ((bytes : List ℕ) → T bytes → S bytes) → ((bytes : List ℕ) → P bytes → Q bytes)
    → ((bytes : List ℕ) → Q bytes → P bytes) → (r : DataBreak) → IsLeafBreak S P r → IsLeafBreak T Q r
same_break S T P Q st ts pq qp found.Fits h = λ bytes are sent. pq bytes (h bytes are (ts bytes sent))
same_break S T P Q st ts pq qp (found.Data w) h = shortest_same S T P Q st ts pq qp (witness_bytes w) h
same_break S T P Q st ts pq qp (found.Groups a b) h = absurd h
same_break S T P Q st ts pq qp found.LeastLevel h = absurd h
same_break S T P Q st ts pq qp found.EightBytes h = absurd h
same_break S T P Q st ts pq qp found.Undecided h = absurd h

-- ---- what B's entry accepts

pub entry_format : (d : Dictionary) (i : ℕ) (e : DictEntry) (f : PlainFormat) → slice_get d.entries i ≡ Some e → IfSome (slice_get d.entries i) (λ x. f ≡ x.format) → f ≡ e.format
entry_format d i e f at h = subst (λ (o : Option DictEntry). IfSome o (λ x. f ≡ x.format)) at h

leaf_data : (d : Dictionary) (u : Unknown) (e : DictEntry) (g : PlainFormat) → e.group ≡ None → g ≡ e.format → (bytes : List ℕ) → IsLeaf g bytes → IsEntryData d u e bytes
leaf_data d u e g none same bytes h =
    subst (λ (o : Option PlainDefinition). MatchOption o (IsLeaf e.format bytes) (λ group. (n : ℕ) × IsLevel (Fits d u n) group.rules bytes)) (sym none)
    (subst (λ (f : PlainFormat). IsLeaf f bytes) same h)

data_leaf : (d : Dictionary) (u : Unknown) (e : DictEntry) (g : PlainFormat) → e.group ≡ None → g ≡ e.format → (bytes : List ℕ) → IsEntryData d u e bytes → IsLeaf g bytes
data_leaf d u e g none same bytes h =
    subst (λ (f : PlainFormat). IsLeaf f bytes) (sym same)
    (subst (λ (o : Option PlainDefinition). MatchOption o (IsLeaf e.format bytes) (λ group. (n : ℕ) × IsLevel (Fits d u n) group.rules bytes)) none h)

level_data : (d : Dictionary) (u : Unknown) (e : DictEntry) (x : PlainDefinition) → e.group ≡ Some x → (bytes : List ℕ) → ((n : ℕ) × IsLevel (Fits d u n) x.rules bytes) → IsEntryData d u e bytes
level_data d u e x some bytes h =
    subst (λ (o : Option PlainDefinition). MatchOption o (IsLeaf e.format bytes) (λ group. (n : ℕ) × IsLevel (Fits d u n) group.rules bytes)) (sym some) h

data_level : (d : Dictionary) (u : Unknown) (e : DictEntry) (x : PlainDefinition) → e.group ≡ Some x → (bytes : List ℕ) → IsEntryData d u e bytes → (n : ℕ) × IsLevel (Fits d u n) x.rules bytes
data_level d u e x some bytes h = subst (λ (o : Option PlainDefinition). MatchOption o (IsLeaf e.format bytes) (λ group. (n : ℕ) × IsLevel (Fits d u n) group.rules bytes)) some h

pub answer_break : (S P : List ℕ → Type 0) (o : Option Witness) → IsShortestBreak S P (option_map witness_bytes o) → IsLeafBreak S P (break_of o)
answer_break S P None h = h
answer_break S P (Some w) h = h

of_witness : (f g : PlainFormat) (o : Option Witness) → IfSome o (λ w. IsShortest f g (witness_bytes w)) → (o ≡ None → (bytes : List ℕ) → AreWitnessBytes bytes → IsLeaf f bytes → IsLeaf g bytes)
    → IsLeafBreak (IsLeaf f) (IsLeaf g) (break_of o)
of_witness f g None some none = λ bytes are leaf. none refl bytes (of_bytes bytes are) leaf
of_witness f g (Some w) some none = record {
  are_bytes = bytes_of (witness_bytes w) some.are_bytes;
  sent = some.sent;
  refused = some.refused;
  least = some.least;
}

-- a leaf that is read as a leaf
pub leaf_as_leaf : (d : Dictionary) (u : Unknown) (i : ℕ) (e : DictEntry) (f g : PlainFormat) (o : Option Witness) → slice_get d.entries i ≡ Some e → None ≡ group_place d i
    → IfSome (slice_get d.entries i) (λ x. g ≡ x.format) → IfSome o (λ w. IsShortest f g (witness_bytes w))
    → (o ≡ None → (bytes : List ℕ) → AreWitnessBytes bytes → IsLeaf f bytes → IsLeaf g bytes) → IsLeafBreak (IsLeaf f) (IsEntryData d u e) (break_of o)
leaf_as_leaf d u i e f g o at none says some nothing =
    let is = no_group d i e at none in
    let same = entry_format d i e g at says in
    same_break (IsLeaf f) (IsLeaf f) (IsLeaf g) (IsEntryData d u e) (λ bytes k. k) (λ bytes k. k) (leaf_data d u e g is same) (data_leaf d u e g is same) (break_of o) (of_witness f g o some nothing)

-- a leaf that is read as a level
pub leaf_as_level : (d : Dictionary) (u : Unknown) (i n : ℕ) (e : DictEntry) (x : PlainDefinition) (f : PlainFormat) (o : Option Witness) → IsDictionary d → slice_get d.entries i ≡ Some e
    → Some n ≡ group_place d i → slice_get (definitions d) n ≡ Some x → IsShortestBreak (IsLeaf f) (λ bytes. (n : ℕ) × IsLevel (Fits d u n) x.rules bytes) (option_map witness_bytes o)
    → IsLeafBreak (IsLeaf f) (IsEntryData d u e) (break_of o)
leaf_as_level d u i n e x f o sound at is def h =
    let (y, some, here) = group_here d i n e sound at is in
    let same : e.group ≡ Some x = some ∙ sym here ∙ def in
    same_break (IsLeaf f) (IsLeaf f) (λ bytes. (n : ℕ) × IsLevel (Fits d u n) x.rules bytes) (IsEntryData d u e) (λ bytes k. k) (λ bytes k. k) (level_data d u e x same) (data_level d u e x same) (break_of o)
    (answer_break (IsLeaf f) (λ bytes. (n : ℕ) × IsLevel (Fits d u n) x.rules bytes) o h)

-- a level that is read as a level
pub level_as_level : (d : Dictionary) (a i n : ℕ) (e : DictEntry) → IsDictionary d → slice_get d.entries i ≡ Some e → Some n ≡ group_place d i
    → (a ≡ a) × ((group : PlainDefinition) × (e.group ≡ Some group) × (slice_get (definitions d) n ≡ Some group))
level_as_level d a i n e sound at is = (refl, group_here d i n e sound at is)

-- a level that is read as a leaf
pub level_as_its_leaf : (da d : Dictionary) (who : Sends) (a i : ℕ) (rules : List DRule) (e : DictEntry) (g : PlainFormat) (r : DataBreak) → slice_get d.entries i ≡ Some e → None ≡ group_place d i
    → IfSome (slice_get d.entries i) (λ x. g ≡ x.format) → IsLevelAsLeaf da who rules g r → IsLevelBreak da d who a rules e r
level_as_its_leaf da d who a i rules e g r at none says h = by r (subst (λ (f : PlainFormat). IsLevelAsLeaf da who rules f r) (entry_format d i e g at says) h)
  where
    by : (r : DataBreak) → IsLevelAsLeaf da who rules e.format r → IsLevelBreak da d who a rules e r
    by found.Fits k = (no_group d i e at none, k)
    by found.LeastLevel k = (no_group d i e at none, k)
    by found.EightBytes k = (no_group d i e at none, k)
    by found.Undecided k = (no_group d i e at none, k)
    by (found.Groups x y) k = absurd k
    by (found.Data w) k = absurd k

-- ---- what is sent

module _ (da db : Dictionary) (who : Sends) (u : Unknown) (key : Key) (e : DictEntry) (is : known db key ≡ Some e) where
  accepted : (bytes : List ℕ) → IsEntryData db u e bytes → IsAcceptedData db u key bytes
  accepted bytes h = subst (λ (o : Option DictEntry). MatchOption o ⊤ (λ x. IsEntryData db u x bytes)) (sym is) h

  accepts : (bytes : List ℕ) → IsAcceptedData db u key bytes → IsEntryData db u e bytes
  accepts bytes h = subst (λ (o : Option DictEntry). MatchOption o ⊤ (λ x. IsEntryData db u x bytes)) is h

  leaf_break : (r : DataBreak) → group_of da key ≡ None → IsLeafBreak (IsSentData da who key) (IsEntryData db u e) r → IsDataBreak da db who u key r
  leaf_break r none h =
      by r (same_break (IsSentData da who key) (IsSentData da who key) (IsEntryData db u e) (IsAcceptedData db u key) (λ bytes k. k) (λ bytes k. k) accepted accepts r h)
    where
      by : (r : DataBreak) → IsLeafBreak (IsSentData da who key) (IsAcceptedData db u key) r → IsDataBreak da db who u key r
      by found.Fits k = k
      by (found.Data w) k = (none, k)
      by (found.Groups a b) k = absurd k
      by found.LeastLevel k = absurd k
      by found.EightBytes k = absurd k
      by found.Undecided k = absurd k

  -- A doesn't know the AVP
  pub from_unknown : known da key ≡ None → (r : DataBreak) → who ≡ senders.Any → IsLeafBreak (IsLeaf (AnyBytes OctetString)) (IsEntryData db u e) r → IsDataBreak da db who u key r
  from_unknown none r any h = leaf_break r (ap (λ (o : Option DictEntry). option_and_then (λ x. x.group) o) none)
      (same_break (IsLeaf (AnyBytes OctetString)) (IsSentData da who key) (IsEntryData db u e) (IsEntryData db u e) (λ bytes k. sent bytes) (λ bytes k. tt) (λ bytes k. k) (λ bytes k. k) r h)
    where
      sent : (bytes : List ℕ) → IsSentData da who key bytes
      sent bytes = subst
          (λ (o : Option DictEntry). MatchOption o (who ≡ senders.Any) (λ x. MatchOption x.group (IsLeaf x.format bytes) (λ group. (n : ℕ) × IsSentLevel who (IsSentWithin da who n) group.rules bytes)))
          (sym none) any

  -- A's AVP is a leaf
  module _ (own : DictEntry) (is_own : known da key ≡ Some own) where
    abbrev OwnData : DictEntry → List ℕ → Type 0
    OwnData x bytes = MatchOption x.group (IsLeaf x.format bytes) (λ group. (n : ℕ) × IsSentLevel who (IsSentWithin da who n) group.rules bytes)

    own_group : (o : Option PlainDefinition) → own.group ≡ o → group_of da key ≡ o
    own_group o h = ap (λ (x : Option DictEntry). option_and_then (λ y. y.group) x) is_own ∙ h

    pub from_leaf : (f : PlainFormat) → own.group ≡ None → f ≡ own.format → (r : DataBreak) → IsLeafBreak (IsLeaf f) (IsEntryData db u e) r → IsDataBreak da db who u key r
    from_leaf f none same r h = leaf_break r (own_group None none)
        (same_break (IsLeaf f) (IsSentData da who key) (IsEntryData db u e) (IsEntryData db u e) sent leaf (λ bytes k. k) (λ bytes k. k) r h)
      where
        sent : (bytes : List ℕ) → IsLeaf f bytes → IsSentData da who key bytes
        sent bytes k = subst (λ (o : Option DictEntry). MatchOption o (who ≡ senders.Any) (λ x. OwnData x bytes)) (sym is_own)
            (subst (λ (o : Option PlainDefinition). MatchOption o (IsLeaf own.format bytes) (λ group. (n : ℕ) × IsSentLevel who (IsSentWithin da who n) group.rules bytes)) (sym none)
            (subst (λ (x : PlainFormat). IsLeaf x bytes) same k))

        leaf : (bytes : List ℕ) → IsSentData da who key bytes → IsLeaf f bytes
        leaf bytes k = subst (λ (x : PlainFormat). IsLeaf x bytes) (sym same)
            (subst (λ (o : Option PlainDefinition). MatchOption o (IsLeaf own.format bytes) (λ group. (n : ℕ) × IsSentLevel who (IsSentWithin da who n) group.rules bytes)) none
            (subst (λ (o : Option DictEntry). MatchOption o (who ≡ senders.Any) (λ x. OwnData x bytes)) is_own k))

    -- A's AVP is a group
    for_leaf : (x : PlainDefinition) → own.group ≡ Some x → (P : List DRule → PlainFormat → Type 0) → e.group ≡ None → P x.rules e.format → IsLevelForLeaf da db key P
    for_leaf x some P none h =
        let has = own_group (Some x) some in (
          ap (λ (o : Option PlainDefinition). is_some o) has,
          (e, is, none, subst (λ (o : Option PlainDefinition). P (option_map_or (λ (y : PlainDefinition). y.rules) o []) e.format) (sym has) h),
        )

    pub from_level : (a : ℕ) (x : PlainDefinition) → own.group ≡ Some x → slice_get (definitions da) a ≡ Some x → (r : DataBreak) → IsLevelBreak da db who a x.rules e r → IsDataBreak da db who u key r
    from_level a x some def found.Fits (none, inl all) = λ bytes are sent. accepted bytes (leaf_data db u e e.format none refl bytes (all bytes))
    from_level a x some def found.Fits (none, inr (address, ours)) = λ bytes are sent.
        let level = level_of da who key bytes x (own_group (Some x) some) sent in
        accepted bytes (leaf_data db u e e.format none refl bytes (subst (λ (f : PlainFormat). IsLeaf f bytes) (sym address) (level_is_address da who x.rules ours level.0 bytes are level.1)))
    from_level a x some def (found.Groups first second) (same, (group, has, here)) = (
      (x, own_group (Some x) some, subst (λ (n : ℕ). slice_get (definitions da) n ≡ Some x) (sym same) def),
      (group, ap (λ (o : Option DictEntry). option_and_then (λ y. y.group) o) is ∙ has, here),
    )
    from_level a x some def (found.Data w) (none, bad) = absurd bad
    from_level a x some def found.LeastLevel (none, h) = for_leaf x some RefusesLeastLevel none h
    from_level a x some def found.EightBytes (none, h) = for_leaf x some (λ rules format. HasEightBytes format) none h
    from_level a x some def found.Undecided (none, h) = for_leaf x some (IsUndecided da who) none h

-- nothing is sent
pub from_silent : (da db : Dictionary) (who : Sends) (u : Unknown) (key : Key) → known da key ≡ None → ¬ (who ≡ senders.Any) → IsDataBreak da db who u key found.Fits
from_silent da db who u key none other = λ bytes are sent. absurd (other (any bytes sent))
  where
    any : (bytes : List ℕ) → IsSentData da who key bytes → who ≡ senders.Any
    any bytes sent = subst
        (λ (o : Option DictEntry). MatchOption o (who ≡ senders.Any) (λ x. MatchOption x.group (IsLeaf x.format bytes) (λ group. (n : ℕ) × IsSentLevel who (IsSentWithin da who n) group.rules bytes)))
        none sent

-- B doesn't know the AVP
pub to_unknown : (da db : Dictionary) (who : Sends) (u : Unknown) (key : Key) → None ≡ entry_of db key → IsDataBreak da db who u key found.Fits
to_unknown da db who u key is = λ bytes are sent. subst (λ (o : Option DictEntry). MatchOption o ⊤ (λ x. IsEntryData db u x bytes)) (sym (not_known db key is)) tt
