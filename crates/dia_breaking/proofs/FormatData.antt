-- What lines report about data.
use Rattle.std.proofs.Common.{◌≡◌, ℕ, zero, suc, ◌+◌, Bool, true, false, get_or, List, [], ◌∷◌, ◌++◌, length, map, Option, Some, None, Result, Ok, Err, refl, sym, ap, subst, ◌∙◌, arith, inl, inr}
use Rattle.std.specs.Prelude.{◌⊎◌, ◌==◌, min, All, IfSome, OnOk, slice_get, if◌then◌else◌}
use Rattle.std.specs.List.{cons_option, filter_map}
use Rattle.std.specs.Option.{option_map, option_map_or}
use Rattle.std.proofs.lemmas.Bool.{eq-eqb}
use Rattle.std.proofs.lemmas.Option.{slice_get-get_or}
use Rattle.std.proofs.lemmas.List.{get_or-map, length-map}
use Rattle.std.proofs.lemmas.List.Elements.{All-append, All-map, All-nil, All-push}
use Rattle.dia_wire.specs.declared.Key.{Key}
use Rattle.dia_book.specs.Dictionary.{Dictionary, has_command}
use Rattle.dia_book.proofs.Members.{at_filter, into_filter}
use Rattle.dia_terms.specs.declared.Unknown.{Unknown}
use Rattle.dia_terms.specs.declared.Sends.{Sends}
use Rattle.dia_breaking_avps.specs.declared.breaking.HeadBreak.{HeadBreak}
use Rattle.dia_breaking_avps.specs.declared.breaking.HeadBreak.TheVariants as head_breaks
use Rattle.dia_breaking_avps.specs.declared.breaking.DataBreak.TheVariants.{EightBytes, Undecided}
use Rattle.dia_breaking_avps.specs.Breaks.{IsDataBreak}
use Rattle.dia_breaking_avps.specs.Sent.{IsAcceptedData}
use Rattle.dia_breaking_shortest.specs.declared.lookup.Least.{Least}
use Rattle.dia_breaking_shortest.specs.Bytes.{least_avp}
use Rattle.dia_breaking_levels.specs.declared.line.Line.{Line as LevelLine}
use Rattle.dia_breaking_ways.specs.declared.graph.Step.{Step}
use Rattle.dia_breaking.specs.declared.heads.Head.{Head}
use Rattle.dia_breaking.specs.declared.line.Cause.{Cause}
use Rattle.dia_breaking.specs.declared.line.Cause.TheVariants as causes
use Rattle.dia_breaking.specs.declared.line.Line.{Line}
use Rattle.dia_breaking.specs.declared.own_breaks.OwnBreaks.{OwnBreaks}
use Rattle.dia_breaking.specs.declared.own_lines.Kind.{Kind}
use Rattle.dia_breaking.specs.declared.own_lines.Kind.TheVariants as kinds
use Rattle.dia_breaking.specs.declared.readings.Reading.{Reading}
use Rattle.dia_breaking.specs.Listing.{Recorded, command_levels, flag_causes, group_levels, head_cause, header_causes, header_line, header_lines, level_lines, new_line, refusal, subject, records, unchecked, with_room}
use Rattle.dia_breaking.specs.Orders.{IsInOrderOf, joined, of_each}
use Rattle.dia_breaking.specs.Lengths.{IsLeastFor, listed_length}
use Rattle.dia_breaking.specs.OwnBreaks.{HasLeast, HaveDataBreaks, IsOwnBreaks, OfLeast, ReportData, RecordsData, eight_cause, leaves_eight}
use Rattle.dia_breaking.specs.Sites.{other_head}
use Rattle.dia_breaking.specs.Sides.{sides}
use Rattle.dia_breaking.specs.Tried.{IsRefusedBy, IsRecordedOfTry, TakesAsLeaf, data_of}
use Rattle.dia_breaking.proofs.Lists.{all_in, all_more, contains_at, same_image}
use Rattle.dia_breaking.proofs.Tried.{accepted_taken, left_open}

-- ---- members

all_from : {X : Type 0} (P : X → Type 0) (xs : List X) → ((i : ℕ) (x : X) → slice_get xs i ≡ Some x → P x) → All P xs
all_from P xs each i d within = each i (get_or xs i d) (slice_get-get_or xs i d within)

-- a list in order has the members of the other
pub all_in_order : {X : Type 0} (P : X → Type 0) (number : X → ℕ) (all sorted : List X) → IsInOrderOf number all sorted → All P all → All P sorted
all_in_order {X} P number all sorted order have = all_from P sorted (λ i x at.
    let r = into_filter (λ (y : X). number y == number x) sorted i x at (eq-eqb (number x) (number x) refl) in
    let back = at_filter (λ (y : X). number y == number x) all r.place x (ap (λ (zs : List X). slice_get zs r.place) (sym (order.each (number x))) ∙ r.at) in
    all_in P all x have (contains_at all back.0 x back.1))

all_filter_map : {X Y : Type 0} (P : Y → Type 0) (f : X → Option Y) → ((x : X) → IfSome (f x) P) → (xs : List X) → All P (filter_map f xs)
all_filter_map P f each [] = All-nil P
all_filter_map {X} {Y} P f each (x ∷ xs) = by (f x) (each x) (all_filter_map P f each xs)
  where
    by : (o : Option Y) → IfSome o P → All P (filter_map f xs) → All P (cons_option o (filter_map f xs))
    by None own rest = rest
    by (Some y) own rest = All-append P (y ∷ []) (filter_map f xs) (All-push P [] y (All-nil P) own) rest

all_joined : {X : Type 0} (P : X → Type 0) (part : ℕ → List X) → ((i : ℕ) → All P (part i)) → (n : ℕ) → All P (joined part n)
all_joined P part each zero = All-nil P
all_joined P part each (suc n) = All-append P (joined part n) (part n) (all_joined P part each n) (each n)

all_each : {X Y : Type 0} (P : Y → Type 0) (f : ℕ → X → List Y) → ((i : ℕ) (x : X) → All P (f i x)) → (xs : List X) → All P (of_each f xs)
all_each {X} {Y} P f each xs = all_joined P (λ i. option_map_or (f i) (slice_get xs i) []) (λ i. at i (slice_get xs i)) (length xs)
  where
    at : (i : ℕ) (o : Option X) → All P (option_map_or (f i) o [])
    at i None = All-nil P
    at i (Some x) = each i x

-- ---- reports about headers and levels report nothing about data

abbrev IsOther : Cause → Type 0
IsOther cause = (key : Key) → cause ≡ causes.Format key None → ⊥

abbrev IsPlain : Recorded → Type 0
IsPlain recorded = IsOther recorded.cause

one_other : (cause : Cause) → IsOther cause → All IsOther (cause ∷ [])
one_other cause own = All-push IsOther [] cause (All-nil IsOther) own

flag_other : (set b : Bool) → All IsOther (if b then causes.Proxiable set ∷ [] else [])
flag_other set true = one_other (causes.Proxiable set) (λ key e. absurd cc)
flag_other set false = All-nil IsOther

refusal_other : (b : Bool) → IsOther (if b then causes.Application else causes.Command)
refusal_other true key e = absurd cc
refusal_other false key e = absurd cc

module _ (db : Dictionary) (head : Head) where
  header_other : (o : Option Head) → All IsOther (option_map_or (λ other. flag_causes head other false ++ flag_causes head other true) o (refusal db head ∷ []))
  header_other None = one_other (refusal db head) (refusal_other (has_command db head.code head.class))
  header_other (Some other) = All-append IsOther (flag_causes head other false) (flag_causes head other true) (flag_other false _) (flag_other true _)

  header_plain : (base site : ℕ) (reading : Reading) → All IsPlain (header_lines db head base site reading)
  header_plain base site reading = All-map IsPlain (header_line base site) (header_causes db head reading.read_as) (header_other (other_head db head reading.read_as))

room_plain : (recorded : Recorded) → IsPlain recorded → (b : Bool) → IfSome (if b then Some recorded else None) IsPlain
room_plain recorded own true = own
room_plain recorded own false = tt

levels_plain : (site way : ℕ) (lines : List LevelLine) → All IsPlain (level_lines site way lines)
levels_plain site way lines = all_filter_map IsPlain (λ (line : LevelLine). with_room site (way + line.length) (causes.Level line)) (λ line. room_plain _ (λ key e. absurd cc) _) lines

group_plain : (count : ℕ) (groups : List (List LevelLine)) (i : ℕ) (step : Step) → All IsPlain (group_levels count groups i step)
group_plain count groups i step = by (slice_get groups step.place)
  where
    by : (o : Option (List LevelLine)) → All IsPlain (option_map_or (level_lines (min (count + i) 18446744073709551615) step.way) o [])
    by None = All-nil IsPlain
    by (Some lines) = levels_plain (min (count + i) 18446744073709551615) step.way lines

pub found_plain : (db : Dictionary) (head : Head) (base : ℕ) (readings : List Reading) (levels groups : List (List LevelLine)) (count : ℕ) (steps : List Step)
    → All IsPlain (of_each (header_lines db head base) readings ++ of_each command_levels levels ++ of_each (group_levels count groups) steps)
found_plain db head base readings levels groups count steps =
    All-append IsPlain (of_each (header_lines db head base) readings ++ of_each command_levels levels) (of_each (group_levels count groups) steps)
    (All-append IsPlain (of_each (header_lines db head base) readings) (of_each command_levels levels)
    (all_each IsPlain (header_lines db head base) (header_plain db head base) readings)
    (all_each IsPlain command_levels (λ site lines. levels_plain site 0 lines) levels))
    (all_each IsPlain (group_levels count groups) (group_plain count groups) steps)

-- ---- lines

module _ (da db : Dictionary) (who : Sends) (u : Unknown) where
  abbrev Records : Line → Type 0
  Records line = RecordsData (sides da db who u) line.cause

  plain : (cause : Cause) → IsOther (subject cause) → RecordsData (sides da db who u) cause
  plain (causes.Format key found) other = absurd (other key refl)
  plain (causes.LevelAsLeaf key) other = absurd (other key refl)
  plain causes.Command other = tt
  plain causes.Application other = tt
  plain (causes.Proxiable set) other = tt
  plain (causes.Level line) other = tt
  plain (causes.Unknown key m) other = tt
  plain (causes.MBit key m) other = tt
  plain (causes.Meaning key) other = tt

  -- where nothing is reported about data
  pub plain_lines : (lines : List Line) (recorded : List Recorded) → map records lines ≡ recorded → All IsPlain recorded → ReportData (sides da db who u) lines
  plain_lines lines recorded is all i d within =
      let same = get_or-map records lines i d (records d) within in
      plain (get_or lines i d).cause (subst IsPlain same (subst (All IsPlain) (sym is) all i (records d) (omega (arith, within, length-map lines records))))

  -- one line more, or none
  pub data_more : (old new : List Line) (site : ℕ) (cause : Cause) (takes : ℕ) → (new ≡ old) ⊎ (new ≡ old ++ new_line site cause takes ∷ []) → RecordsData (sides da db who u) cause
      → ReportData (sides da db who u) old → ReportData (sides da db who u) new
  data_more old new site cause takes (inl same) own all = subst (All Records) (sym same) all
  data_more old new site cause takes (inr adds) own all = all_more Records old (new_line site cause takes) new adds all own

  pub data_in_order : (all sorted : List Line) → IsInOrderOf (λ (line : Line). line.site) all sorted → ReportData (sides da db who u) all → ReportData (sides da db who u) sorted
  data_in_order all sorted order have = all_in_order Records (λ (line : Line). line.site) all sorted order have

  -- where only what is known of lines changes
  pub data_kept : (old new : List Line) → map unchecked new ≡ map unchecked old → ReportData (sides da db who u) old → ReportData (sides da db who u) new
  data_kept old new same all = all_from Records new (λ i line at.
      let r = same_image unchecked new old line same (contains_at new i line at) in
      subst (RecordsData (sides da db who u)) (ap (λ (l : Line). l.cause) r.2) (all_in Records old r.0 all r.1))

  -- ---- what AVPs break by themselves

  pub head_records : (kind : Kind) (key : Key) (found : HeadBreak) → IfSome (head_cause kind key found) (RecordsData (sides da db who u))
  head_records kinds.Unknown key (head_breaks.Unknown m) = tt
  head_records kinds.Unknown key (head_breaks.MBit m) = tt
  head_records kinds.MBit key (head_breaks.Unknown m) = tt
  head_records kinds.MBit key (head_breaks.MBit m) = tt
  head_records kinds.Data key (head_breaks.Unknown m) = tt
  head_records kinds.Data key (head_breaks.MBit m) = tt
  head_records kinds.Meaning key (head_breaks.Unknown m) = tt
  head_records kinds.Meaning key (head_breaks.MBit m) = tt

  -- that data are read as another format reports no data that break
  pub meaning_records : (key : Key) (found : Option (Cause × ℕ)) → IfSome found (λ (pair : Cause × ℕ). pair.0 ≡ causes.Meaning key) → IfSome found (λ (pair : Cause × ℕ). RecordsData (sides da db who u) pair.0)
  meaning_records key None is = tt
  meaning_records key (Some pair) is = subst (RecordsData (sides da db who u)) (sym is) tt

  pub with_size : (o : Option Cause) (size : ℕ) → IfSome o (RecordsData (sides da db who u)) → IfSome (option_map (λ (cause : Cause). (cause, size)) o) (λ (pair : Cause × ℕ). RecordsData (sides da db who u) pair.0)
  with_size None size own = tt
  with_size (Some cause) size own = own

  pub have_data : (least : Least) (lengths : List ℕ) → IsLeastFor da who least lengths → (own : List OwnBreaks) → All (IsOwnBreaks (sides da db who u) (listed_length da who lengths)) own
      → HaveDataBreaks (sides da db who u) least lengths own
  have_data least lengths is_least own all i d within = let is = all i d within in (is.content, (is_least, is.least))

  -- of a level that B reads as a leaf, where the data of a shortest AVP may have been tried
  pub tried_records : (least : Least) (lengths : List ℕ) (own : OwnBreaks) (cause : Cause)
      → IsRecordedOfTry (TakesAsLeaf db own.key) own.key (least_avp da least own.key) (listed_length da who lengths own.key) cause → IsDataBreak da db who u own.key Undecided
      → HasLeast (sides da db who u) least lengths own → RecordsData (sides da db who u) cause
  tried_records least lengths own cause (inl (is, (short, not))) content of =
      let refused : IsRefusedBy (IsAcceptedData db u own.key) own.key (least_avp da least own.key) (listed_length da who lengths own.key) =
      (short, λ accepted. not (accepted_taken da db who u own.key content (data_of own.key (least_avp da least own.key)) accepted)) in
      subst (RecordsData (sides da db who u)) (sym is) (inr (inr (content, (least, lengths, of.0, refused))))
  tried_records least lengths own cause (inr (is, left)) content of =
      let unsure = left_open da db who u own.key content (least_avp da least own.key) (listed_length da who lengths own.key) left in
      subst (RecordsData (sides da db who u)) (sym is) (inr (content, (least, lengths, of.0, unsure)))

  -- of a level that B reads as a leaf of eight bytes
  pub eight_records : (least : Least) (lengths : List ℕ) (own : OwnBreaks) (cause : Cause) → cause ≡ eight_cause own → IsDataBreak da db who u own.key EightBytes
      → HasLeast (sides da db who u) least lengths own → RecordsData (sides da db who u) cause
  eight_records least lengths own cause is content of = subst (RecordsData (sides da db who u)) (sym is) (by (leaves_eight own.key own.least) refl)
    where
      has : (b : Bool) → leaves_eight own.key own.least ≡ b → OfLeast (sides da db who u) own.key (λ bytes n. leaves_eight own.key n ≡ b)
      has b e = (least, lengths, of.0, ap (leaves_eight own.key) (sym of.1) ∙ e)

      by : (b : Bool) → leaves_eight own.key own.least ≡ b → RecordsData (sides da db who u) (if b then causes.LevelAsLeaf own.key else causes.Format own.key None)
      by true e = inl (content, has true e)
      by false e = inr (inl (content, has false e))

pub when_on_ok : {X E : Type 0} (P Q : Type 0) (r : Result X E) → (P → Q) → OnOk r P → OnOk r Q
when_on_ok P Q (Ok x) f h = f h
when_on_ok P Q (Err e) f h = tt
