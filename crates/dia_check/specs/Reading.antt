-- How far a stream has read a body, for each way in which its message may go on.
use Rattle.std.specs.Prelude.{◌≡◌, ◌≢◌, ℕ, ◌+◌, ◌-◌, ◌<◌, ◌≤◌, List, length, take, drop, map, Option, Some, None, MatchOption, IfSome, slice_index, ◌^◌}
use Rattle.dia_wire.specs.declared.Key.{Key}
use Rattle.dia_wire.specs.Number.{number}
use Rattle.dia_wire.specs.Wire.{PlainAvp, key_of, head_length, avp_length, padded_length, BeginsWith, HasWholeHead, HasHead, IsBadLength}
use Rattle.dia_wire.specs.declared.AvpHead.{AvpHead}
use Rattle.dia_data.specs.Plain.{Grouped}
use Rattle.dia_data.specs.Leaf.{IsLeaf}
use Rattle.dia_data.specs.State.{DenotesData}
use Rattle.dia_data.specs.declared.LeafState.{LeafState}
use Rattle.dia_book.specs.Dictionary.{Dictionary, DictEntry, definitions, entry_of, group_place}
use Rattle.dia_terms.specs.declared.Unknown.{Unknown}
use Rattle.dia_terms.specs.declared.Levels.{Levels}
use Rattle.dia_check.specs.declared.fault.Reason.{Reason}
use Rattle.dia_check.specs.declared.fault.Refusal.{Refusal}
use Rattle.dia_check.specs.declared.fault.Refusal.TheVariants as refusal
use Rattle.dia_check.specs.declared.open_levels.OpenLevels.{OpenLevels}
use Rattle.dia_check.specs.declared.stream.parts.Part.{Part}
use Rattle.dia_check.specs.declared.stream.parts.Part.TheVariants.{Head, Data}
use Rattle.dia_check.specs.declared.stream.parts.HeadPart.{HeadPart}
use Rattle.dia_check.specs.declared.stream.parts.DataPart.{DataPart}
use Rattle.dia_check.specs.Basis.{PlainBasis}
use Rattle.dia_valid.specs.Valid.{known}
use Rattle.dia_check.specs.Levels.{Level, IsOpen, between}
use Rattle.dia_check.specs.Faults.{HasGoodHeader}
use Rattle.dia_check.specs.OpenLevels.{AreOpen, and_key}
use Rattle.dia_check.specs.Admission.{IsAdmitted, IsWrongData}
use Rattle.dia_check.specs.Walks.{Found, Walks, whole, fault_of}
use Rattle.dia_check.specs.Front.{front_bytes}
use Rattle.dia_check.specs.UnderWay.{IsUnderWay, so_far}

-- ---- the data of one AVP

-- what was seen of the data of an AVP that is no known group
abbrev pub HasSeen : Dictionary → Option LeafState → Key → List ℕ → Type 0
HasSeen d leaf key read = MatchOption leaf (known d key ≡ None)
    (λ state. (e : DictEntry) × (known d key ≡ Some e) × (e.format ≢ Grouped) × DenotesData state e.format read)

-- an unknown AVP may have any data, and a known one a leaf of its format
abbrev pub IsGoodLeaf : Dictionary → Key → List ℕ → Type 0
IsGoodLeaf d key read = (e : DictEntry) → known d key ≡ Some e → (e.format ≢ Grouped) × IsLeaf e.format read

abbrev pub IsBadLeaf : Dictionary → Key → List ℕ → Reason → Type 0
IsBadLeaf d key read reason = (e : DictEntry) × (known d key ≡ Some e) × ((most : Levels) (depth : ℕ) → IsWrongData most depth e read reason)

-- an AVP of this key is no known group
abbrev pub IsNoGroup : Dictionary → Key → Type 0
IsNoGroup d key = (e : DictEntry) → known d key ≡ Some e → e.format ≢ Grouped

-- it is a known group, and this is the number of its definition
abbrev pub IsGroupOf : Dictionary → Key → ℕ → Type 0
IsGroupOf d key g = (i : ℕ) × (Some i ≡ entry_of d key) × (Some g ≡ group_place d i)

-- ---- one message

-- the piece is at a place of the message
abbrev pub LiesAt : List ℕ → ℕ → List ℕ → Type 0
LiesAt bytes from piece = (between bytes from (from + length piece) ≡ piece) × (from + length piece ≤ length bytes)

-- a level begins at a place
pub record BeginsLevelAt (d : Dictionary) (most : Levels) (bytes : List ℕ) (at : ℕ) : Type 0 where
  pub level : Level
  pub is_open : IsOpen d most bytes level
  pub start : level.start ≡ at

-- a level begins after one place and goes up to another
pub record BeginsLevel (d : Dictionary) (most : Levels) (bytes : List ℕ) (from to : ℕ) : Type 0 where
  pub level : Level
  pub is_open : IsOpen d most bytes level
  pub following : from < level.start
  pub within : level.start ≤ to

module _ (d : Dictionary) (u : Unknown) (most : Levels) (bytes : List ℕ) (good : HasGoodHeader d bytes) where
  -- the first bytes of the AVP at a place are retained, up to where the message was read; they are no whole head yet
  pub record IsInHead (open_levels : OpenLevels) (part : HeadPart) (n : ℕ) : Type 0 where
    pub under_way : IsUnderWay d u most bytes good open_levels part.at
    pub kept : front_bytes part.front ≡ between bytes part.at n
    pub reached : part.at + length (front_bytes part.front) ≡ n
    pub room : 8 ≤ open_levels.innermost.end - part.at
    pub not_whole : ¬ HasWholeHead (front_bytes part.front)
    pub may_be : 8 ≤ length (front_bytes part.front)
        → ¬ IsBadLength (slice_index (front_bytes part.front) 4) (number (take 3 (drop 5 (front_bytes part.front)))) (open_levels.innermost.end - part.at)

  -- the AVP at a place was admitted, and its data and padding are read up to a place
  pub record IsInData (open_levels : OpenLevels) (part : DataPart) (n : ℕ) : Type 0 where
    pub before : OpenLevels
    pub under_way : IsUnderWay d u most bytes good before part.at
    pub avp : PlainAvp
    pub rest : List ℕ
    pub begins : BeginsWith avp under_way.s.bytes rest
    pub is_key : part.key ≡ key_of avp
    pub is_end : part.end ≡ part.at + avp_length avp
    pub is_next : part.next ≡ part.at + padded_length avp
    pub admitted : IsAdmitted d u under_way.s.level.rules (map key_of under_way.s.earlier) (key_of avp) avp.flags
    pub occurs : AreOpen (definitions d) open_levels (map so_far under_way.rests) (and_key (so_far under_way.s) (key_of avp))
    pub from : part.at + head_length avp.vendor ≤ n
    pub seen : HasSeen d part.leaf part.key (take (n - (part.at + head_length avp.vendor)) avp.bytes)

  -- an AVP with this head is at a place
  pub record IsAtAvp (open_levels : OpenLevels) (at : ℕ) (head : AvpHead) : Type 0 where
    pub under_way : IsUnderWay d u most bytes good open_levels at
    pub avp : PlainAvp
    pub rest : List ℕ
    pub begins : BeginsWith avp under_way.s.bytes rest
    pub is_head : HasHead head avp

  -- a part of the body that isn't read wholly
  abbrev pub IsInPart : OpenLevels → Part → ℕ → Type 0
  IsInPart open_levels (Head part) n = IsInHead open_levels part n
  IsInPart open_levels (Data part) n = IsInData open_levels part n × (n < part.next)

  -- a part of the body, or none where the message ended with it and nothing was found
  abbrev pub IsNext : OpenLevels → Option Part → ℕ → Type 0
  IsNext open_levels next n = MatchOption next (Walks d u most (whole good.command.rules bytes) None × (n ≡ length bytes)) (λ part. IsInPart open_levels part n)

  -- the body has a fault, or memory was refused where this type holds
  abbrev pub IsStop : Type 0 → Refusal → Type 0
  IsStop Memory (refusal.Fault f) = (h : Found) × Walks d u most (whole good.command.rules bytes) (Some h) × (f ≡ fault_of h)
  IsStop Memory refusal.NoMemory = Memory
  IsStop Memory refusal.Truncated = ⊥
  IsStop Memory refusal.Trailing = ⊥
  IsStop Memory refusal.Spent = ⊥

  -- the AVPs of a piece that ends at a place were read: up to an AVP that goes on after it, or to the end of the message
  abbrev pub IsReadTo : OpenLevels → ℕ → Option ℕ → Type 0
  IsReadTo open_levels stop next = MatchOption next (Walks d u most (whole good.command.rules bytes) None × (stop ≡ length bytes))
      (λ at. IsUnderWay d u most bytes good open_levels at)

  -- the group whose data begins at a place was entered, if there is one
  abbrev pub IsEntered : OpenLevels → Option ℕ → Type 0
  IsEntered open_levels next = IfSome next (λ start. IsUnderWay d u most bytes good open_levels start)

-- the place, if there is one, lies in a piece that begins at another, or at its end
abbrev pub IsInPiece : ℕ → List ℕ → Option ℕ → Type 0
IsInPiece from piece next = IfSome next (λ at. (from ≤ at) × (at ≤ from + length piece))

-- ---- some message, of which nothing is known but what was read

abbrev pub AreSound : Dictionary → OpenLevels → ℕ → Type 0
AreSound d open_levels at = (u : Unknown) × (most : Levels) × (bytes : List ℕ) × (good : HasGoodHeader d bytes)
    × (length bytes < 2 ^ 32) × IsUnderWay d u most bytes good open_levels at

abbrev pub IsReadData : Dictionary → OpenLevels → DataPart → Type 0
IsReadData d open_levels part = (u : Unknown) × (most : Levels) × (bytes : List ℕ) × (good : HasGoodHeader d bytes)
    × (length bytes < 2 ^ 32) × (n : ℕ) × IsInData d u most bytes good open_levels part n × (part.next ≤ n)

abbrev pub IsAtSomeAvp : PlainBasis → OpenLevels → ℕ → AvpHead → Type 0
IsAtSomeAvp b open_levels at head = (bytes : List ℕ) × (good : HasGoodHeader b.dictionary bytes)
    × (length bytes < 2 ^ 32) × IsAtAvp b.dictionary b.unknown b.levels bytes good open_levels at head

abbrev pub GoesOn : PlainBasis → OpenLevels → Part → ℕ → List ℕ → Type 0
GoesOn b open_levels part from piece = (bytes : List ℕ) × (good : HasGoodHeader b.dictionary bytes)
    × (length bytes < 2 ^ 32) × IsInPart b.dictionary b.unknown b.levels bytes good open_levels part from × LiesAt bytes from piece

-- a piece is read up to a place
abbrev pub ReadsOn : PlainBasis → OpenLevels → ℕ → ℕ → List ℕ → Type 0
ReadsOn b open_levels from at piece = (bytes : List ℕ) × (good : HasGoodHeader b.dictionary bytes)
    × (length bytes < 2 ^ 32) × IsUnderWay b.dictionary b.unknown b.levels bytes good open_levels at × LiesAt bytes from piece
