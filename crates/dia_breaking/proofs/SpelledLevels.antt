-- What is written for a level spells AVPs, among them the one that its line reports.
use Rattle.std.proofs.Common.{◌≡◌, ℕ, zero, suc, ◌+◌, ◌<◌, ◌≤◌, Bool, true, false, List, [], ◌∷◌, ◌++◌, length, take, Option, Some, None, refl, sym, ap, subst, ◌∙◌, arith, inl, inr}
use Rattle.std.specs.Prelude.{◌⊎◌, Contains, min, max, if◌then◌else◌, slice_get, slice_index, slice_set}
use Rattle.std.specs.Option.{option_map_or}
use Rattle.std.proofs.lemmas.Bool.{lt-ltb}
use Rattle.std.proofs.lemmas.List.{length-take}
use Rattle.std.proofs.lemmas.Option.{slice_get_within}
use Rattle.dia_wire.specs.declared.Key.{Key}
use Rattle.dia_wire.specs.Wire.{PlainAvp, Spells, SpellsAll, key_of}
use Rattle.dia_breaking_data.specs.declared.short_data.Witness.{Witness}
use Rattle.dia_breaking_data.specs.Shortest.{witness_bytes}
use Rattle.dia_book.specs.Dictionary.{entry_of}
use Rattle.dia_terms.specs.declared.Sends.{Sends}
use Rattle.dia_terms.specs.declared.Sends.TheVariants.{Any, Known, Filled, Listed}
use Rattle.dia_valid.proofs.Members.{contains_in, in_left, in_right}
use Rattle.dia_breaking_avps.specs.Sent.{HasThisM}
use Rattle.dia_breaking_levels.specs.LevelTests.{too_long}
use Rattle.dia_breaking_shortest.specs.Bytes.{avp_bytes, avp_flags, parts_bytes}
use Rattle.dia_breaking_shortest.specs.Floors.{IsSpellable, shortest_head}
use Rattle.dia_breaking_shortest.specs.Least.{IsLeastOf}
use Rattle.dia_breaking_shortest.specs.Lengths.{entry_length, length_of, unknown_length}
use Rattle.dia_breaking_shortest.proofs.FloorsOfLengths.{entry_at}
use Rattle.dia_breaking_shortest.proofs.SpelledBytes.{avp_size, avp_spelled, flags_there, said_avp, said_key}
use Rattle.dia_breaking_shortest.proofs.SpelledLeast.{IsWhole, least_either, least_whole}
use Rattle.dia_breaking_shortest.proofs.SpelledParts.{IsSpelled, parts_spelled, spells_both, spells_one}
use Rattle.dia_breaking.specs.declared.line.Place.{Place}
use Rattle.dia_breaking.specs.Lengths.{IsLeastFor, length_of_entry, listed_length, unknown_length as unlisted_length}
use Rattle.dia_breaking.specs.Messages.{Stock, flags_with, front_parts, level_round, parts_round, rest_parts, shortest_avp, with_m}
use Rattle.dia_breaking.specs.Sides.{Sides}

-- ---- the M flag

flags_turned : (vendor : ℕ) (b m : Bool) → flags_with m (avp_flags vendor b) ≡ avp_flags vendor m
flags_turned zero true true = refl
flags_turned zero true false = refl
flags_turned zero false true = refl
flags_turned zero false false = refl
flags_turned (suc n) b m = ap (flags_with m) (flags_there n b) ∙ by b m ∙ sym (flags_there n m)
  where
    by : (b m : Bool) → flags_with m (if b then 192 else 128) ≡ (if m then 192 else 128)
    by true true = refl
    by true false = refl
    by false true = refl
    by false false = refl

pub flags_have : (vendor : ℕ) (m : Bool) → HasThisM m (avp_flags vendor m)
flags_have zero true = λ e. let p : 64 ≡ 0 = e in omega (arith, p)
flags_have zero false = λ h. h refl
flags_have (suc n) true = subst (HasThisM true) (sym (flags_there n true)) (λ e. let p : 64 ≡ 0 = e in omega (arith, p))
flags_have (suc n) false = subst (HasThisM false) (sym (flags_there n false)) (λ h. h refl)

head_long : (vendor : ℕ) (code n : ℕ) → 8 ≤ shortest_head (record { code = code; vendor = vendor }) + n
head_long zero code n = omega arith
head_long (suc v) code n = omega arith

-- where the flag of an AVP is turned, the bytes are those of the AVP with that flag
turned : (key : Key) (b m : Bool) (content : List ℕ) → with_m m (avp_bytes key b content) ≡ avp_bytes key m content
turned key b m content =
    let size = avp_size key b content in
    let long = head_long key.vendor key.code (length content) in
    ap (λ (t : Bool). if t then slice_set (avp_bytes key b content) 4 (flags_with m (slice_index (avp_bytes key b content) 4)) else avp_bytes key b content)
    (lt-ltb 4 (length (avp_bytes key b content)) (omega (arith, size, long)))
    ∙ ap (slice_set (avp_bytes key b content) 4) (flags_turned key.vendor b m)

-- ---- a level round an AVP

module _ (s : Sides) (k : Stock) (is : IsLeastOf s.sender s.sends k.least) where
  one_spelled : (key : Key) → IsSpelled (shortest_avp s k key)
  one_spelled key = by (least_either s.sender s.sends k.least is key)
    where
      by : (shortest_avp s k key ≡ []) ⊎ ((n : ℕ) × (n < too_long) × IsWhole key n (shortest_avp s k key)) → IsSpelled (shortest_avp s k key)
      by (inl none) = ([], none)
      by (inr (n, short, w)) =
          let own = said_avp key w.m w.content in
          let takes = w.takes in
          (own ∷ [], spells_one own (shortest_avp s k key) (subst (Spells own) (sym w.are) (avp_spelled key w.m w.content (omega (arith, takes, short)))))

  -- the level has the AVP that these bytes spell
  pub round_spelled : (c : ℕ) (place : Place) (key : Key) (v : PlainAvp) (bytes : List ℕ) → Spells v bytes
      → (avps : List PlainAvp) × SpellsAll avps (level_round s k c place key bytes) × Contains avps v
  round_spelled c place key v bytes own =
      let front = parts_spelled (shortest_avp s k) (front_parts key (parts_round s k c place key)) (λ p i. one_spelled p.key) in
      let rest = parts_spelled (shortest_avp s k) (rest_parts key (parts_round s k c place key)) (λ p i. one_spelled p.key) in
      let first = parts_bytes (shortest_avp s k) (front_parts key (parts_round s k c place key)) in
      let last = parts_bytes (shortest_avp s k) (rest_parts key (parts_round s k c place key)) in (
        (front.0 ++ v ∷ []) ++ rest.0,
        spells_both (front.0 ++ v ∷ []) rest.0 (first ++ bytes) last (spells_both front.0 (v ∷ []) first bytes front.1 (spells_one v bytes own)) rest.1,
        contains_in ((front.0 ++ v ∷ []) ++ rest.0) v (in_left (front.0 ++ v ∷ []) rest.0 v (in_right front.0 (v ∷ []) v (inl refl))),
      )

  -- ---- the AVP of a line

  pub short_there : (lengths : List ℕ) → IsLeastFor s.sender s.sends k.least lengths → (key : Key) → listed_length s.sender s.sends lengths key < too_long
      → length_of s.sender s.sends k.least.lengths.items key < too_long
  short_there lengths are key = by (entry_of s.sender key) refl
    where
      unlisted : (who : Sends) → unlisted_length who key < too_long → unknown_length who key < too_long
      unlisted Any short = short
      unlisted Known short = short
      unlisted Filled short = short
      unlisted Listed short = short

      entry : (n : Option ℕ) → option_map_or (λ m. min (max m 8) too_long) n too_long < too_long → option_map_or (λ m. m) n too_long < too_long
      entry None short = short
      entry (Some n) short = omega (arith, short)

      by : (o : Option ℕ) → entry_of s.sender key ≡ o → option_map_or (length_of_entry lengths) o (unlisted_length s.sends key) < too_long
          → option_map_or (entry_length k.least.lengths.items) o (unknown_length s.sends key) < too_long
      by None e short = unlisted s.sends short
      by (Some i) e short =
          let own = entry (slice_get lengths i) short in
          let same = are.are_lengths.1 i (within i e) in
          omega (arith, own, same)
        where
          within : (i : ℕ) → entry_of s.sender key ≡ Some i → i < length s.sender.entries
          within i e = let h = entry_at s.sender key i e in slice_get_within s.sender.entries h.place h.entry h.at

  -- a shortest AVP of the key, with this M flag
  pub flag_spelled : (lengths : List ℕ) → IsLeastFor s.sender s.sends k.least lengths → (key : Key) (m : Bool) → IsSpellable key → listed_length s.sender s.sends lengths key < too_long
      → (v : PlainAvp) × Spells v (with_m m (shortest_avp s k key)) × (key_of v ≡ key) × (v.flags ≡ avp_flags key.vendor m)
  flag_spelled lengths are key m small short =
      let w = least_whole s.sender s.sends k.least is key (short_there lengths are key short) in
      let takes = w.takes in
      let room = short_there lengths are key short in (
        said_avp key m w.content,
        subst (Spells (said_avp key m w.content)) (sym (ap (with_m m) w.are ∙ turned key w.m m w.content)) (avp_spelled key m w.content (omega (arith, takes, room))),
        said_key key m w.content small,
        refl,
      )

-- one with data that are reported
pub data_spelled : (key : Key) (m : Bool) (found : Witness) → IsSpellable key
    → (v : PlainAvp) × Spells v (avp_bytes key m (witness_bytes found)) × (key_of v ≡ key) × (v.bytes ≡ witness_bytes found)
data_spelled key m found small =
    let eight = few found.count found.bytes in
    let within = found.within in
    let head = head_few key.vendor key.code in
    (said_avp key m (witness_bytes found), avp_spelled key m (witness_bytes found) (omega (arith, eight, within, head)), said_key key m (witness_bytes found) small, refl)
  where
    few : (n : ℕ) (xs : List ℕ) → length (take n xs) ≤ n
    few n xs = let size = length-take n xs in omega (arith, size)

    head_few : (vendor : ℕ) (code : ℕ) → shortest_head (record { code = code; vendor = vendor }) ≤ 12
    head_few zero code = omega arith
    head_few (suc v) code = omega arith
