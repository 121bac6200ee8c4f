-- The keys of which there is something to report: AVPs that break by themselves, in which both dictionaries see a level, or that
-- are read as another format.
use Rattle.std.specs.Prelude.{◌≡◌, ◌⊎◌, ℕ, Bool, false, ◌&&◌, ◌||◌, if◌then◌else◌, List, [], ◌∷◌, ◌++◌, length, Some, None, is_some, IsSome, slice_get, Contains, All, map, filter, position, IsTrue, ◌↔◌}
use Rattle.std.specs.HashMap.{get}
use Rattle.dia_wire.specs.declared.Key.{Key}
use Rattle.dia_book.specs.Keys.{same_key}
use Rattle.dia_book.specs.Dictionary.{Dictionary}
use Rattle.dia_terms.specs.declared.Unknown.{Unknown}
use Rattle.dia_terms.specs.declared.Sends.{Sends}
use Rattle.dia_breaking_avps.specs.Sent.{group_of}
use Rattle.dia_breaking_avps.specs.Breaks.{AcceptsFlags}
use Rattle.dia_breaking_avps.specs.Laws.{FitKeyAlone}
use Rattle.dia_breaking.specs.declared.keys.Own.{Own}
use Rattle.dia_breaking.specs.declared.keys.Recording.{Recording}
use Rattle.dia_breaking.specs.Meanings.{IsReadAsOther}
use Rattle.dia_breaking.specs.SentKeys.{AreSentInOrder}
use Rattle.dia_breaking.specs.Sides.{Sides}
use Rattle.dia_breaking.specs.Taken.{AreGroups, IsDataTaken}

-- what is found of a key, where nothing breaks, is that B accepts each M flag of its AVPs, and that they fit alone
pub record IsRecordedOf (s : Sides) (key : Key) (own : Own) : Type 0 where
  pub key_is : own.key ≡ key
  pub silent : own.breaks ≡ false → AcceptsFlags s.sender s.receiver s.sends s.unknown key × FitKeyAlone s.sender s.receiver s.sends s.unknown key
  pub group : own.is_group ≡ (is_some (group_of s.sender key) && is_some (group_of s.receiver key))

-- there is something to report: it breaks by itself, has a level of both, or is read as another format
abbrev pub is_news : Own → Bool
is_news own = (own.breaks || own.is_group) || own.is_other

-- one more is recorded, if there is something to report
pub record Adds (own : Own) (old new : Recording) : Type 0 where
  pub items : new.own.items ≡ (if is_news own then old.own.items ++ own ∷ [] else old.own.items)
  pub places : (key : Key) → get same_key new.places key ≡ (if is_news own && same_key own.key key then Some (length old.own.items) else get same_key old.places key)

-- of these keys all is recorded that there is to report
pub record AreRecorded (s : Sides) (keys : List Key) (recording : Recording) : Type 0 where
  pub placed : (key : Key) (place : ℕ) → get same_key recording.places key ≡ Some place → (own : Own) × (slice_get recording.own.items place ≡ Some own) × (own.key ≡ key)
  pub each : (own : Own) → Contains recording.own.items own → IsRecordedOf s own.key own
  pub rest : (key : Key) → Contains keys key → get same_key recording.places key ≡ None → (own : Own) × IsRecordedOf s key own × (is_news own ≡ false)

-- ---- exactly these

-- no AVP of the key breaks by itself: B accepts each M flag that is sent, and the data, or both dictionaries see a level in it
abbrev pub BreaksNothing : Dictionary → Dictionary → Sends → Unknown → Key → Type 0
BreaksNothing da db who u key = AcceptsFlags da db who u key × (AreGroups da db key ⊎ IsDataTaken da db who u key)

-- what there is to report of its key
pub record IsExactlyOwn (s : Sides) (own : Own) : Type 0 where
  pub group : own.is_group ≡ (is_some (group_of s.sender own.key) && is_some (group_of s.receiver own.key))
  pub silent : (own.breaks ≡ false) ↔ BreaksNothing s.sender s.receiver s.sends s.unknown own.key
  pub other : IsTrue own.is_other ↔ IsReadAsOther s own.key

-- what there is to report of each of these keys, in their order
abbrev pub AreOwnOf : Sides → List Key → List Own → Type 0
AreOwnOf s keys all = (map (λ own. own.key) all ≡ keys) × All (IsExactlyOwn s) all

-- the record has exactly those of these keys of which there is something to report, in their order; what has a place is recorded,
-- and what is recorded has a place
pub record AreExactlyRecorded (s : Sides) (keys : List Key) (recording : Recording) : Type 0 where
  pub all : List Own
  pub each : AreOwnOf s keys all
  pub recorded_are : recording.own.items ≡ filter is_news all
  pub have_places : (own : Own) → Contains recording.own.items own → IsSome (get same_key recording.places own.key)

-- the record has exactly those keys of AVPs that A's side may send of which there is something to report, in their order, with
-- places
pub record IsExactRecording (s : Sides) (recording : Recording) : Type 0 where
  pub keys : List Key
  pub all : List Own
  pub sent : AreSentInOrder s.sender s.receiver s.sends keys
  pub each : AreOwnOf s keys all
  pub recorded_are : recording.own.items ≡ filter is_news all
  pub places : (key : Key) → get same_key recording.places key ≡ position (λ own. same_key own.key key) recording.own.items
