-- What AVPs break by themselves.
use Rattle.std.specs.Prelude.{◌≡◌, ◌==◌, ◌⊎◌, ◌-◌, ⊤, ℕ, Bool, true, false, if◌then◌else◌, List, map, All, Option, Some, None, IfSome, IsSome, IsTrue, ◌↔◌}
use Rattle.dia_wire.specs.declared.Key.{Key}
use Rattle.dia_breaking_avps.specs.Breaks.{IsDataBreak, IsHeadBreak, TakesLevels}
use Rattle.dia_breaking_avps.specs.Sent.{IsAcceptedData, group_of}
use Rattle.dia_breaking_avps.specs.declared.breaking.DataBreak.TheVariants.{Fits, Data, LeastLevel, EightBytes, Undecided}
use Rattle.dia_breaking_shortest.specs.declared.lookup.Least.{Least}
use Rattle.dia_breaking_shortest.specs.Bytes.{least_avp}
use Rattle.dia_breaking_shortest.specs.Floors.{shortest_head}
use Rattle.dia_breaking.specs.declared.keys.Own.{Own}
use Rattle.dia_breaking.specs.declared.line.Cause.{Cause}
use Rattle.dia_breaking.specs.declared.line.Cause.TheVariants as causes
use Rattle.dia_breaking.specs.declared.line.Line.{Line}
use Rattle.dia_breaking.specs.declared.own_breaks.OwnBreaks.{OwnBreaks}
use Rattle.dia_breaking.specs.Lengths.{IsLeastFor, listed_length}
use Rattle.dia_breaking.specs.Meanings.{IsReadAsOther}
use Rattle.dia_breaking.specs.Sides.{Sides}
use Rattle.dia_breaking.specs.Tried.{IsLeftOpenBy, IsRefusedBy}

-- AVPs of the key break so, and have this length at least, where a rule lists them; where A sees levels in them and the data fit,
-- B accepts any data, or each level is an Address of B's; and it is known whether they are read as another format
pub record IsOwnBreaks (s : Sides) (length : Key → ℕ) (own : OwnBreaks) : Type 0 where
  pub least : own.least ≡ length own.key
  pub head : IsHeadBreak s.sender s.receiver s.sends s.unknown own.key own.breaks.head
  pub content : IsDataBreak s.sender s.receiver s.sends s.unknown own.key own.breaks.data
  pub taken : IsSome (group_of s.sender own.key) → own.breaks.data ≡ Fits → TakesLevels s.sender s.receiver s.sends own.key
  pub other : IsTrue own.is_other ↔ IsReadAsOther s own.key

-- so do those of which there is something to report
pub record AreOwnBreaks (s : Sides) (length : Key → ℕ) (recorded : List Own) (own : List OwnBreaks) : Type 0 where
  pub keys : map (λ one. one.key) own ≡ map (λ one. one.key) recorded
  pub each : All (IsOwnBreaks s length) own

-- so it is with the bytes of a shortest AVP of the key that the sender's side sends, and with its length, where a rule lists it
abbrev pub OfLeast : Sides → Key → (List ℕ → ℕ → Type 0) → Type 0
OfLeast s key Holds =
    (least : Least) × (lengths : List ℕ) × IsLeastFor s.sender s.sends least lengths × Holds (least_avp s.sender least key) (listed_length s.sender s.sends lengths key)

-- shortest AVPs that the sender's side sends are made of this, A's entries have these lengths, and so this AVP has its own
abbrev pub HasLeast : Sides → Least → List ℕ → OwnBreaks → Type 0
HasLeast s least lengths own = IsLeastFor s.sender s.sends least lengths × (own.least ≡ listed_length s.sender s.sends lengths own.key)

-- the data of AVPs of the key break so, and a shortest one has its length
abbrev pub HasDataBreak : Sides → Least → List ℕ → OwnBreaks → Type 0
HasDataBreak s least lengths own = IsDataBreak s.sender s.receiver s.sends s.unknown own.key own.breaks.data × HasLeast s least lengths own

abbrev pub HaveDataBreaks : Sides → Least → List ℕ → List OwnBreaks → Type 0
HaveDataBreaks s least lengths own = All (HasDataBreak s least lengths) own

-- ---- what lines report about data

-- whether the data of an AVP of this length, whose head is a shortest one, have eight bytes
abbrev pub leaves_eight : Key → ℕ → Bool
leaves_eight key n = n - shortest_head key == 8

-- B reads levels as leaves of eight bytes, and this says whether those of shortest AVPs have as many
abbrev pub ReadsEight : Sides → Key → Bool → Type 0
ReadsEight s key has = IsDataBreak s.sender s.receiver s.sends s.unknown key EightBytes × OfLeast s key (λ bytes n. leaves_eight key n ≡ has)

-- it isn't known whether B accepts all levels. A shortest AVP isn't too long to be tried, and B refuses its data
abbrev pub ReadsRefused : Sides → Key → Type 0
ReadsRefused s key =
    IsDataBreak s.sender s.receiver s.sends s.unknown key Undecided × OfLeast s key (IsRefusedBy (IsAcceptedData s.receiver s.unknown key) key)

-- it isn't known whether B accepts all levels. A shortest AVP is too long to be tried, or B accepts its data
abbrev pub ReadsOpen : Sides → Key → Type 0
ReadsOpen s key =
    IsDataBreak s.sender s.receiver s.sends s.unknown key Undecided × OfLeast s key (IsLeftOpenBy (IsAcceptedData s.receiver s.unknown key) key)

-- B reads levels as leaves, and refuses those of shortest AVPs: each ordinary level; or the empty one, where a level may be
-- empty; or it reads leaves of eight bytes, and those data have another length; or it isn't known whether it accepts all levels,
-- and those data are tried and refused
abbrev pub RefusesShortest : Sides → Key → Type 0
RefusesShortest s key = IsDataBreak s.sender s.receiver s.sends s.unknown key LeastLevel ⊎ (ReadsEight s key false ⊎ ReadsRefused s key)

-- B reads levels as leaves, and it isn't known whether it refuses any: the least ones have eight bytes, as its leaves; or it
-- isn't known whether it accepts all, and a shortest AVP is too long to be tried, or its data are accepted
abbrev pub LeavesOpen : Sides → Key → Type 0
LeavesOpen s key = ReadsEight s key true ⊎ ReadsOpen s key

-- the reported data are shortest that break. Where none are reported, B refuses those of shortest AVPs, or it isn't known whether
-- B refuses any
abbrev pub RecordsData : Sides → Cause → Type 0
RecordsData s (causes.Format key (Some found)) = IsDataBreak s.sender s.receiver s.sends s.unknown key (Data found)
RecordsData s (causes.Format key None) = RefusesShortest s key
RecordsData s (causes.LevelAsLeaf key) = LeavesOpen s key
RecordsData s cause = ⊤

-- so each line does
abbrev pub ReportData : Sides → List Line → Type 0
ReportData s lines = All (λ line. RecordsData s line.cause) lines

-- where the old ones do, the new ones do
abbrev pub KeepsData : Sides → List Line → List Line → Type 0
KeepsData s old new = ReportData s old → ReportData s new

-- what is found reports data that break, if those of the AVP do
abbrev pub RecordsIfBreaks : Sides → Least → List ℕ → OwnBreaks → Option (Cause × ℕ) → Type 0
RecordsIfBreaks s least lengths own found = IsDataBreak s.sender s.receiver s.sends s.unknown own.key own.breaks.data → HasLeast s least lengths own
    → IfSome found (λ pair. RecordsData s pair.0)

-- the cause for levels that are read as leaves of eight bytes: B refuses the data of a shortest AVP, unless these have eight
-- bytes
abbrev pub eight_cause : OwnBreaks → Cause
eight_cause own = if leaves_eight own.key own.least then causes.LevelAsLeaf own.key else causes.Format own.key None
