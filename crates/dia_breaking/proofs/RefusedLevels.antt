-- Where a line of the format reports so, B refuses the data of the shortest AVP.
use Rattle.std.proofs.Common.{◌≡◌, ℕ, zero, suc, ◌+◌, ◌-◌, ◌<◌, ◌≤◌, List, [], ◌∷◌, ◌++◌, drop, length, Option, Some, None, refl, sym, ap, subst, ◌∙◌, arith, length-append, inl, inr, true≢false}
use Rattle.std.specs.Prelude.{⊤, Contains, IsSome, MatchOption, max, min, option_and_then, slice_get}
use Rattle.std.specs.Option.{option_map_or}
use Rattle.std.proofs.lemmas.Bool.{eq-eqb}
use Rattle.std.proofs.lemmas.Option.{slice_get_within}
use Rattle.dia_wire.specs.declared.Key.{Key}
use Rattle.dia_wire.specs.Wire.{PlainAvp, SpellsAll}
use Rattle.dia_data.specs.Leaf.{IsLeaf}
use Rattle.dia_data.specs.Plain.{PlainFormat, AnyBytes, FourBytes, EightBytes, Grouped, Address, Utf8String, DiameterIdentity, DiameterUri, Enumerated}
use Rattle.dia_book.specs.declared.DRule.{DRule}
use Rattle.dia_book.specs.Dictionary.{DictEntry, PlainDefinition}
use Rattle.dia_valid.specs.Valid.{Fits, IsLevel, known}
use Rattle.dia_valid.proofs.Members.{contains_in}
use Rattle.dia_breaking_avps.specs.Levels.{HasEightBytes, IsOrdinary, RefusesLeastLevel, graphic_length}
use Rattle.dia_breaking_avps.specs.Sent.{IsAcceptedData, group_of, group_rules}
use Rattle.dia_breaking_levels.specs.LevelTests.{too_long}
use Rattle.dia_breaking_shortest.specs.declared.lookup.Least.{Least}
use Rattle.dia_breaking_shortest.specs.Bytes.{least_avp, parts_bytes}
use Rattle.dia_breaking_shortest.specs.Floors.{shortest_head}
use Rattle.dia_breaking_shortest.specs.Laws.{IsOneGroup}
use Rattle.dia_breaking_shortest.specs.Lengths.{entry_length, length_of, unknown_length}
use Rattle.dia_breaking_shortest.proofs.FloorsOfAvps.{spelled_length}
use Rattle.dia_breaking_shortest.proofs.FloorsOfLengths.{of_known}
use Rattle.dia_breaking_shortest.proofs.OneLeast.{one_least_avp}
use Rattle.dia_breaking_shortest.proofs.OneSolution.{lengths_are_one}
use Rattle.dia_breaking.specs.Lengths.{IsLeastFor, length_of_entry, listed_length, unknown_length as unlisted_length}
use Rattle.dia_breaking.specs.declared.line.Place.{Place}
use Rattle.dia_breaking.specs.declared.line.Site.{Site}
use Rattle.dia_breaking.specs.Messages.{Stock, front_parts, group_head, key_at, level_round, levels_from, levels_on, parts_round, rest_parts, shortest_avp}
use Rattle.dia_breaking.specs.OwnBreaks.{RefusesShortest}
use Rattle.dia_breaking.specs.Sides.{Sides}
use Rattle.dia_breaking.proofs.Lists.{all_in}

-- ---- levels

-- a level of so few bytes has a short AVP, or none
ordinary : (avps : List PlainAvp) (bytes : List ℕ) → SpellsAll avps bytes → length bytes < graphic_length → IsOrdinary avps
ordinary [] bytes is small = IsOrdinary.empty
ordinary (v ∷ vs) bytes (front, rest, own, is, later) small =
    let cut = length-append front rest in
    let all = ap length is in
    let size = spelled_length v front own in
    IsOrdinary.short (v ∷ vs) v (contains_in (v ∷ vs) v (inl refl)) (omega (arith, cut, all, size, small))

module _ (rules : List DRule) (bytes : List ℕ) (avps : List PlainAvp) (spelled : SpellsAll avps bytes) (own : IsOrdinary avps) (nothing : ((r : DRule) → Contains rules r → r.min ≡ 0) → bytes ≡ []) where
  level_refused : (format : PlainFormat) → RefusesLeastLevel rules format → ¬ IsLeaf format bytes
  level_refused Address asks leaf =
      let none = ap length (nothing (λ r i. all_in (λ (rule : DRule). rule.min ≡ 0) rules r asks i)) in
      let size = ap length leaf.parts in
      let cut = length-append leaf.family leaf.rest in
      let two = leaf.width in
      absurd (omega (arith, none, size, cut, two))
  level_refused (AnyBytes name) h leaf = h avps bytes spelled own leaf
  level_refused (FourBytes name) h leaf = h avps bytes spelled own leaf
  level_refused (EightBytes name) h leaf = h avps bytes spelled own leaf
  level_refused Grouped h leaf = h avps bytes spelled own leaf
  level_refused Utf8String h leaf = h avps bytes spelled own leaf
  level_refused DiameterIdentity h leaf = h avps bytes spelled own leaf
  level_refused DiameterUri h leaf = h avps bytes spelled own leaf
  level_refused (Enumerated ranges) h leaf = h avps bytes spelled own leaf

eight_long : (format : PlainFormat) (bytes : List ℕ) → HasEightBytes format → IsLeaf format bytes → length bytes ≡ 8
eight_long (EightBytes name) bytes has leaf = leaf
eight_long (AnyBytes name) bytes has leaf = absurd has
eight_long (FourBytes name) bytes has leaf = absurd has
eight_long Grouped bytes has leaf = absurd has
eight_long Address bytes has leaf = absurd has
eight_long Utf8String bytes has leaf = absurd has
eight_long DiameterIdentity bytes has leaf = absurd has
eight_long DiameterUri bytes has leaf = absurd has
eight_long (Enumerated ranges) bytes has leaf = absurd has

eight_or_more : (vendor code n : ℕ) → 8 ≤ shortest_head (record { code = code; vendor = vendor }) + n
eight_or_more zero code n = omega arith
eight_or_more (suc v) code n = omega arith

-- ---- the data of a shortest AVP

module _ (s : Sides) (least : Least) (lengths : List ℕ) (are : IsLeastFor s.sender s.sends least lengths) (key : Key) (entry : DictEntry) (group : PlainDefinition)
    (knows : known s.sender key ≡ Some entry) (some : entry.group ≡ Some group) (short : length_of s.sender s.sends least.lengths.items key < too_long)
    (one : IsOneGroup group.rules key (length_of s.sender s.sends least.lengths.items key) (least_avp s.sender least key)) where
  abbrev content : List ℕ
  content = one.avp.bytes

  abbrev Accepts : List ℕ → Option DictEntry → Type 0
  Accepts bytes o = MatchOption o ⊤ (λ e. MatchOption e.group (IsLeaf e.format bytes) (λ group. (n : ℕ) × IsLevel (Fits s.receiver s.unknown n) group.rules bytes))

  as_leaf : (e : DictEntry) → known s.receiver key ≡ Some e → e.group ≡ None → IsAcceptedData s.receiver s.unknown key content → IsLeaf e.format content
  as_leaf e is leaf accepted =
      let own : Accepts content (Some e) = subst (Accepts content) is accepted in
      subst (λ (o : Option PlainDefinition). MatchOption o (IsLeaf e.format content) (λ group. (n : ℕ) × IsLevel (Fits s.receiver s.unknown n) group.rules content)) leaf own

  rules_are : group_rules s.sender key ≡ group.rules
  rules_are = ap (λ (o : Option DictEntry). option_map_or (λ (g : PlainDefinition). g.rules) (option_and_then (λ (e : DictEntry). e.group) o) []) knows
      ∙ ap (λ (o : Option PlainDefinition). option_map_or (λ (g : PlainDefinition). g.rules) o []) some

  -- every list of the lengths has this one
  listed_is : (other : Least) (others : List ℕ) → IsLeastFor s.sender s.sends other others → listed_length s.sender s.sends others key ≡ length_of s.sender s.sends least.lengths.items key
  listed_is other others is =
      let h = (of_known s.sender key entry knows).0 in
      let same : other.lengths.items ≡ least.lengths.items = lengths_are_one s.sender s.sends other.lengths.items least.lengths.items is.is_least.lengths are.is_least.lengths in
      let own : length_of s.sender s.sends least.lengths.items key ≡ entry_length least.lengths.items h.place =
      ap (λ (o : Option ℕ). option_map_or (entry_length least.lengths.items) o (unknown_length s.sends key)) h.is_place in
      let listed : listed_length s.sender s.sends others key ≡ length_of_entry others h.place =
      ap (λ (o : Option ℕ). option_map_or (length_of_entry others) o (unlisted_length s.sends key)) h.is_place in
      let kept = is.are_lengths.1 h.place (slice_get_within s.sender.entries h.place h.entry h.at) in
      let moved : entry_length other.lengths.items h.place ≡ entry_length least.lengths.items h.place = ap (λ (xs : List ℕ). entry_length xs h.place) same in
      let low = eight_or_more key.vendor key.code (length content) in
      let sum = one.sum in
      listed ∙ by h.place (slice_get others h.place) refl (kept ∙ moved ∙ sym own) (omega (arith, low, sum))
    where
      by : (i : ℕ) (o : Option ℕ) → slice_get others i ≡ o → option_map_or (λ n. n) o too_long ≡ length_of s.sender s.sends least.lengths.items key
          → 8 ≤ length_of s.sender s.sends least.lengths.items key → option_map_or (λ n. min (max n 8) too_long) o too_long ≡ length_of s.sender s.sends least.lengths.items key
      by i None at kept low = absurd (omega (arith, kept, short))
      by i (Some n) at kept low = omega (arith, kept, low, short)

  pub refused : length content < graphic_length → RefusesShortest s key → ¬ IsAcceptedData s.receiver s.unknown key content
  refused small (inl (sent, (e, is, leaf, refuses))) accepted =
      level_refused (group_rules s.sender key) content one.avps one.level (ordinary one.avps content one.level small)
      (subst (λ (rs : List DRule). ((r : DRule) → Contains rs r → r.min ≡ 0) → content ≡ []) (sym rules_are) one.empty) e.format refuses (as_leaf e is leaf accepted)
  refused small (inr (inl ((sent, (e, is, leaf, eight)), (other, others, its, not_eight)))) accepted =
      let long = eight_long e.format content eight (as_leaf e is leaf accepted) in
      let sum = one.sum in
      let all = listed_is other others its in
      let left : listed_length s.sender s.sends others key - shortest_head key ≡ 8 = omega (arith, long, sum, all) in
      true≢false (sym (eq-eqb (listed_length s.sender s.sends others key - shortest_head key) 8 left) ∙ not_eight)
  refused small (inr (inr (undecided, (other, others, its, (low, not))))) accepted =
      let same = one_least_avp s.sender s.sends other least its.is_least are.is_least key in
      not (subst (IsAcceptedData s.receiver s.unknown key) (sym (ap (λ (bs : List ℕ). drop (shortest_head key) bs) same ∙ one.following)) accepted)

-- ---- groups that a line reports

-- the sender's AVPs of the key are groups
pub record HasOwnGroup (s : Sides) (key : Key) : Type 0 where
  pub entry : DictEntry
  pub group : PlainDefinition
  pub knows : known s.sender key ≡ Some entry
  pub some : entry.group ≡ Some group

own_group : (s : Sides) (key : Key) → IsSome (group_of s.sender key) → HasOwnGroup s key
own_group s key has = by (known s.sender key) refl has
  where
    of_entry : (e : DictEntry) → known s.sender key ≡ Some e → (o : Option PlainDefinition) → e.group ≡ o → IsSome o → HasOwnGroup s key
    of_entry e is None none some = absurd (true≢false (sym some))
    of_entry e is (Some group) same some = record { entry = e; group = group; knows = is; some = same }

    by : (o : Option DictEntry) → known s.sender key ≡ o → IsSome (option_and_then (λ (e : DictEntry). e.group) o) → HasOwnGroup s key
    by None is some = absurd (true≢false (sym some))
    by (Some e) is some = of_entry e is e.group refl some

pub refused_group : (s : Sides) (key : Key) → RefusesShortest s key → HasOwnGroup s key
refused_group s key (inl (sent, rest)) = own_group s key sent
refused_group s key (inr (inl ((sent, rest), of))) = own_group s key sent
refused_group s key (inr (inr ((sent, rest), of))) = own_group s key sent

-- ---- what is in a level is no longer than the level

module _ (s : Sides) (k : Stock) (c : ℕ) where
  pub round_long : (place : Place) (key : Key) (bytes : List ℕ) → length bytes ≤ length (level_round s k c place key bytes)
  round_long place key bytes =
      let first = parts_bytes (shortest_avp s k) (front_parts key (parts_round s k c place key)) in
      let last = parts_bytes (shortest_avp s k) (rest_parts key (parts_round s k c place key)) in
      let all = length-append (first ++ bytes) last in
      let front = length-append first bytes in
      omega (arith, all, front)

  from_long : (size : ℕ) (outer : Site) (path : List Site) (bytes : List ℕ) → length bytes ≤ length (levels_from s k c size outer path bytes)
  from_long size outer [] bytes = omega arith
  from_long size outer (site ∷ path) bytes = by (key_at site.place) (from_long size site path bytes)
    where
      inner : List ℕ
      inner = levels_from s k c size site path bytes

      by : (o : Option Key) → length bytes ≤ length inner → length bytes ≤ length (option_map_or (λ key. level_round s k c outer.place key (group_head s size site key ++ inner)) o inner)
      by None within = within
      by (Some key) within =
          let round = round_long outer.place key (group_head s size site key ++ inner) in
          let front = length-append (group_head s size site key) inner in
          omega (arith, within, round, front)

  pub on_long : (size : ℕ) (path : List Site) (bytes : List ℕ) → length bytes ≤ length (levels_on s k c size path bytes)
  on_long size [] bytes = omega arith
  on_long size (site ∷ path) bytes = from_long size site path bytes
