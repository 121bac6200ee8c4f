-- The messages of lines of AVPs by themselves have the AVP at the line's site.
use Rattle.std.proofs.Common.{◌≡◌, ℕ, ◌<◌, ◌≤◌, Bool, false, List, [], length, map, Option, Some, None, sym, ap, subst, ◌∙◌, arith, length-append, inl, inr}
use Rattle.std.proofs.lemmas.List.{length-drop}
use Rattle.std.specs.Prelude.{◌⊎◌, MatchOption, slice_get, Contains}
use Rattle.std.proofs.lemmas.Bool.{cases_lt}
use Rattle.std.proofs.lemmas.Option.{none-some}
use Rattle.dia_wire.specs.declared.Key.{Key}
use Rattle.dia_wire.specs.Wire.{PlainAvp, Spells, SpellsAll, key_of}
use Rattle.dia_breaking_data.specs.declared.short_data.Witness.{Witness}
use Rattle.dia_breaking_data.specs.Shortest.{witness_bytes}
use Rattle.dia_breaking_sites.specs.Selection.{max_body}
use Rattle.dia_valid.proofs.Members.{in_contains, there_is}
use Rattle.dia_breaking_avps.specs.Breaks.{RefusesFlag}
use Rattle.dia_breaking_avps.specs.Sent.{HasThisM, IsAcceptedData}
use Rattle.dia_breaking_shortest.specs.Bytes.{avp_bytes}
use Rattle.dia_breaking_shortest.specs.Floors.{IsSpellable, shortest_head}
use Rattle.dia_breaking_shortest.proofs.FloorsOfLengths.{in_map}
use Rattle.dia_breaking_shortest.proofs.OneSolution.{lengths_are_one}
use Rattle.dia_breaking_shortest.proofs.SpelledLeast.{levels_spelled}
use Rattle.dia_breaking.specs.declared.heads.Head.{Head}
use Rattle.dia_breaking.specs.declared.line.Cause.{Cause}
use Rattle.dia_breaking.specs.declared.line.Cause.TheVariants as causes
use Rattle.dia_breaking.specs.declared.line.Line.{Line}
use Rattle.dia_breaking.specs.declared.line.Site.{Site}
use Rattle.dia_breaking.specs.Lengths.{AreEntryLengths, IsLeastFor, listed_length}
use Rattle.dia_breaking.specs.Listing.{subject, records}
use Rattle.dia_breaking.specs.Corrected.{BreaksOnceCorrected, is_of_header}
use Rattle.dia_breaking.specs.Messages.{IsAlone, IsInnermost, IsMessageFor, Shown, Stock, command_head, header_bytes, level_round, levels_on, shortest_avp, shown, shown_avp, wants_m, with_m}
use Rattle.dia_breaking.specs.OwnBreaks.{RefusesShortest, RecordsData}
use Rattle.dia_breaking.specs.ShownLines.{HasAvpAt, HasRefusedData, HasRefusedFlags, HasRefusedLevel, HasSpellableKey}
use Rattle.dia_breaking.specs.Sides.{Sides}
use Rattle.dia_breaking.specs.TheLines.{AreFacts, AreTheLines, Facts}
use Rattle.dia_breaking.specs.RecordedMessages.{BreaksAsRecorded}
use Rattle.dia_breaking.specs.Words.{path_to}
use Rattle.dia_breaking.proofs.OwnRecorded.{IsOwnLine, RefusesRecorded, own_key, own_recorded}
use Rattle.dia_breaking.proofs.Paths.{none_below}
use Rattle.dia_breaking.proofs.RefusedLevels.{on_long, refused, refused_group, round_long}
use Rattle.dia_breaking.proofs.SpelledLevels.{data_spelled, flag_spelled, flags_have, round_spelled, short_there}

-- where a path has a site, its last one is there
site_there : (sites : List Site) (n : ℕ) (first : Site) → slice_get (path_to sites n) 0 ≡ Some first → (site : Site) × (slice_get sites n ≡ Some site)
site_there sites n first at = by (cases_lt n (length sites))
  where
    by : (n < length sites) ⊎ (length sites ≤ n) → (site : Site) × (slice_get sites n ≡ Some site)
    by (inl lt) = there_is sites n lt
    by (inr le) = absurd (none-some first (sym (ap (λ (path : List Site). slice_get path 0) (none_below sites (length sites) n le)) ∙ at))

module _ (s : Sides) (k : Stock) (c : ℕ) (sites : List Site) (line : Line) (bytes : List ℕ) (broken : BreaksAsRecorded s k c sites line bytes) (lengths : List ℕ)
    (least : IsLeastFor s.sender s.sends k.least lengths) where
  -- the message has the AVP that these bytes spell
  avp_at : is_of_header line.cause ≡ false → (key : Key) (avp : List ℕ) → shown_avp s k line.cause ≡ Some (shown key avp) → (v : PlainAvp) → Spells v avp → key_of v ≡ key
      → (IsSuch : PlainAvp → Type 0) → (length avp ≤ length bytes → IsSuch v) → HasAvpAt s k c sites line bytes key IsSuch
  avp_at inner_line key avp is v spells its_key IsSuch such = by (command_head s.sender c) broken.message
    where
      following : (site : Site) × (slice_get (path_to sites line.site) 0 ≡ Some site) × BreaksOnceCorrected s c site.place bytes
      following = broken.following inner_line

      here : (site : Site) × (slice_get sites line.site ≡ Some site)
      here = site_there sites line.site following.0 following.1

      of_message : (head : Head) → IsMessageFor s k c sites line head bytes → HasAvpAt s k c sites line bytes key IsSuch
      of_message head (level, innermost, bytes_are) =
          let at = subst (λ (o : Option Site). IsInnermost s k c line.cause o level) here.1 innermost in
          let level_is : level ≡ level_round s k c here.0.place key avp =
          subst (λ (o : Option Shown). MatchOption o (IsAlone s k c here.0.place line.cause level) (λ found. level ≡ level_round s k c here.0.place found.key found.bytes)) is at in
          let (avps, spelled, inside) = round_spelled s k least.is_least c here.0.place key v avp spells in
          record {
            head = head;
            site = here.0;
            level = level;
            avps = avps;
            avp = v;
            is_site = here.1;
            message = bytes_are;
            spelled = subst (SpellsAll avps) (sym level_is) spelled;
            inside = inside;
            is_key = its_key;
            is_such = such (
                let round = round_long s k c here.0.place key avp in
                let own = ap length level_is in
                let on = on_long s k c line.length (path_to sites line.site) level in
                let all = ap length bytes_are in
                let front = length-append (header_bytes head line (slice_get (path_to sites line.site) 0)) (levels_on s k c line.length (path_to sites line.site) level) in
                omega (arith, round, own, on, all, front));
          }

      by : (o : Option Head) → MatchOption o (bytes ≡ []) (λ head. IsMessageFor s k c sites line head bytes) → HasAvpAt s k c sites line bytes key IsSuch
      by None none = let size = broken.size in let empty : length bytes ≡ 0 = ap length none in absurd (omega (arith, size, empty))
      by (Some head) message = of_message head message

  flag_at : (key : Key) (m : Bool) → is_of_header line.cause ≡ false → shown_avp s k line.cause ≡ Some (shown key (with_m m (shortest_avp s k key))) → IsSpellable key
      → listed_length s.sender s.sends lengths key ≤ max_body → RefusesFlag s.sender s.receiver s.sends s.unknown key m → HasAvpAt s k c sites line bytes key (HasRefusedFlags s key m)
  flag_at key m inner_line is small room refuses =
      let (v, spells, its_key, flags) = flag_spelled s k least.is_least lengths least key m small (omega (arith, room)) in
      let has = subst (HasThisM m) (sym flags) (flags_have key.vendor m) in
      avp_at inner_line key (with_m m (shortest_avp s k key)) is v spells its_key (HasRefusedFlags s key m) (λ fits. (has, (refuses v.flags has).1))

  data_at : (key : Key) (found : Witness) → is_of_header line.cause ≡ false → shown_avp s k line.cause ≡ Some (shown key (avp_bytes key (wants_m s key) (witness_bytes found))) → IsSpellable key
      → (¬ IsAcceptedData s.receiver s.unknown key (witness_bytes found)) → HasAvpAt s k c sites line bytes key (HasRefusedData s key found)
  data_at key found inner_line is small refused =
      let (v, spells, its_key, same) = data_spelled key (wants_m s key) found small in
      avp_at inner_line key (avp_bytes key (wants_m s key) (witness_bytes found)) is v spells its_key (HasRefusedData s key found)
      (λ fits. (same, subst (λ (bs : List ℕ). ¬ IsAcceptedData s.receiver s.unknown key bs) (sym same) refused))

  least_at : (key : Key) → is_of_header line.cause ≡ false → shown_avp s k line.cause ≡ Some (shown key (shortest_avp s k key)) → IsSpellable key
      → listed_length s.sender s.sends lengths key ≤ max_body → RefusesShortest s key → HasAvpAt s k c sites line bytes key (HasRefusedLevel s line key)
  least_at key inner_line is small room refuses =
      let own = refused_group s key refuses in
      let short = short_there s k least.is_least lengths least key (omega (arith, room)) in
      let one = levels_spelled s.sender s.sends k.least least.is_least key own.entry own.group own.knows own.some short in
      let within = length-drop (shortest_head key) (shortest_avp s k key) in
      let rest = ap length one.following in
      avp_at inner_line key (shortest_avp s k key) is one.avp one.spells (one.is_key small) (HasRefusedLevel s line key) (λ fits checked.
      let size = broken.size in
      refused s k.least lengths least key own.entry own.group own.knows own.some short one (omega (arith, fits, checked, size, within, rest)) refuses)

-- the lengths that the lines report are those of what messages are made of
least_for : (s : Sides) (k : Stock) (lengths : List ℕ) (made : Facts) → IsLeastFor s.sender s.sends k.least lengths → AreFacts s made → IsLeastFor s.sender s.sends k.least made.lengths
least_for s k lengths made least facts = record {
  is_least = least.is_least;
  are_lengths = subst (λ (xs : List ℕ). AreEntryLengths s.sender xs made.lengths)
      (lengths_are_one s.sender s.sends facts.least k.least.lengths.items facts.are_least least.is_least.lengths) facts.are_lengths;
}

module _ (s : Sides) (k : Stock) (c : ℕ) (sites : List Site) (lines : List Line) (line : Line) (bytes : List ℕ) (broken : BreaksAsRecorded s k c sites line bytes) (lengths : List ℕ)
    (made_least : IsLeastFor s.sender s.sends k.least lengths) (all : AreTheLines s c sites (map records lines)) (inside : Contains lines line) where
  least : IsLeastFor s.sender s.sends k.least all.made.lengths
  least = least_for s k lengths all.made made_least all.facts

  own : (key : Key) → own_key (subject line.cause) ≡ Some key → IsOwnLine s all.made (subject line.cause) key
  own key is = own_recorded s.sender s.receiver s.sends s.unknown all.made all.start c sites (map records lines) all.facts all.is_start all.is_listing (records line) key
      (in_map records lines line (in_contains lines line inside)) is

  pub unknown_shown : (key : Key) (m : Bool) → line.cause ≡ causes.Unknown key m → HasSpellableKey line.cause → HasAvpAt s k c sites line bytes key (HasRefusedFlags s key m)
  unknown_shown key m is spellable =
      let small = subst HasSpellableKey is spellable in
      let recorded = own key (ap (λ (q : Cause). own_key (subject q)) is) in
      flag_at s k c sites line bytes broken all.made.lengths least key m (ap is_of_header is) (ap (shown_avp s k) is) small.0 recorded.room (subst (λ (q : Cause). RefusesRecorded s (subject q)) is recorded.refuses)

  pub m_bit_shown : (key : Key) (m : Bool) → line.cause ≡ causes.MBit key m → HasSpellableKey line.cause → HasAvpAt s k c sites line bytes key (HasRefusedFlags s key m)
  m_bit_shown key m is spellable =
      let small = subst HasSpellableKey is spellable in
      let recorded = own key (ap (λ (q : Cause). own_key (subject q)) is) in
      flag_at s k c sites line bytes broken all.made.lengths least key m (ap is_of_header is) (ap (shown_avp s k) is) small.0 recorded.room (subst (λ (q : Cause). RefusesRecorded s (subject q)) is recorded.refuses)

  pub data_shown : (key : Key) (found : Witness) → line.cause ≡ causes.Format key (Some found) → HasSpellableKey line.cause → RecordsData s line.cause
      → HasAvpAt s k c sites line bytes key (HasRefusedData s key found)
  data_shown key found is spellable recorded =
      let small = subst HasSpellableKey is spellable in
      data_at s k c sites line bytes broken all.made.lengths least key found (ap is_of_header is) (ap (shown_avp s k) is) small.1 (subst (RecordsData s) is recorded).1.refused

  pub format_shown : (key : Key) → line.cause ≡ causes.Format key None → HasSpellableKey line.cause → RecordsData s line.cause → HasAvpAt s k c sites line bytes key (HasRefusedLevel s line key)
  format_shown key is spellable records_data =
      let small = subst HasSpellableKey is spellable in
      let recorded = own key (ap (λ (q : Cause). own_key (subject q)) is) in
      least_at s k c sites line bytes broken all.made.lengths least key (ap is_of_header is) (ap (shown_avp s k) is) small.1 recorded.room (subst (RecordsData s) is records_data)
