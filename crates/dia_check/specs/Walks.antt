-- How a checker goes through a message, AVP by AVP, the members of a group before what follows it, and what it finds first.
use Rattle.std.proofs.Common.{◌≡◌, ℕ, suc, ◌+◌, ◌<◌, ◌≤◌, List, [], ◌∷◌, ◌++◌, length, map, drop, Option, Some, None}
use Rattle.std.specs.Prelude.{◌⊎◌, ⊤}
use Rattle.dia_wire.specs.Wire.{PlainAvp, key_of, head_length, avp_length, padded_length, BeginsWith, BeginsWithNone}
use Rattle.dia_data.specs.Plain.{Grouped}
use Rattle.dia_data.specs.Leaf.{IsLeaf}
use Rattle.dia_book.specs.declared.DRule.{DRule}
use Rattle.dia_book.specs.Dictionary.{Dictionary, DictEntry, PlainDefinition}
use Rattle.dia_terms.specs.declared.Unknown.{Unknown}
use Rattle.dia_terms.specs.declared.Levels.{Levels}
use Rattle.dia_check.specs.declared.fault.Reason.{Reason}
use Rattle.dia_check.specs.declared.fault.Reason.TheVariants as reason
use Rattle.dia_check.specs.declared.fault.Subject.{Subject}
use Rattle.dia_check.specs.declared.fault.Subject.TheVariants.{Nothing}
use Rattle.dia_check.specs.declared.fault.Fault.{Fault}
use Rattle.dia_check.specs.declared.fault.Refusal.{Refusal}
use Rattle.dia_check.specs.declared.fault.Refusal.TheVariants as refusal
use Rattle.dia_valid.specs.Valid.{known, group_at}
use Rattle.dia_check.specs.Levels.{Level}
use Rattle.dia_check.specs.Faults.{Spot, End, spot, subject_of, IsFirstMissing, IsWrong}
use Rattle.dia_check.specs.Reasons.{row_of, code_of}

pub record Found : Type 0 where
  pub spot : Spot
  pub reason : Reason
  pub subject : Subject

-- the rest of a level: its first AVPs, the place after them, and the bytes from there to its end
pub record Rest : Type 0 where
  pub level : Level
  pub earlier : List PlainAvp
  pub at : ℕ
  pub bytes : List ℕ

abbrev pub following : Rest → PlainAvp → List ℕ → Rest
following s v rest = record { level = s.level; earlier = s.earlier ++ v ∷ []; at = s.at + padded_length v; bytes = rest }

abbrev pub inside : Rest → PlainAvp → PlainDefinition → Rest
inside s v group = record {
  level = record { rules = group.rules; start = s.at + head_length v.vendor; end = s.at + avp_length v; depth = suc s.level.depth };
  earlier = [];
  at = s.at + head_length v.vendor;
  bytes = v.bytes;
}

-- nothing is wrong with an AVP; and its data is a leaf of its format or a level, which follows only by a decision
pub record IsFine (d : Dictionary) (u : Unknown) (most : Levels) (s : Rest) (v : PlainAvp) : Type 0 where
  pub none_wrong : (r : Reason) (t : Subject) → ¬ IsWrong d u most s.level s.earlier v r t
  pub leaf : (e : DictEntry) → known d (key_of v) ≡ Some e → IsLeaf e.format v.bytes ⊎ (e.format ≡ Grouped)

-- the first thing that is wrong with an AVP
pub record IsFirstWrong (d : Dictionary) (u : Unknown) (most : Levels) (s : Rest) (v : PlainAvp) (r : Reason) (t : Subject) : Type 0 where
  pub wrong : IsWrong d u most s.level s.earlier v r t
  pub none_sooner : (q : Reason) (w : Subject) → IsWrong d u most s.level s.earlier v q w → row_of r ≤ row_of q

-- what is found first in the rest of a level, and in the groups in it
pub data Walks (d : Dictionary) (u : Unknown) (most : Levels) : Rest → Option Found → Type 0 where
  ended : {s : Rest} {f : Option Found} → s.bytes ≡ [] → ((i : ℕ) (rule : DRule) → ¬ IsFirstMissing s.level.rules (map key_of s.earlier) i rule) → f ≡ None → Walks d u most s f
  missing : {s : Rest} {f : Option Found} (i : ℕ) (rule : DRule) → s.bytes ≡ [] → IsFirstMissing s.level.rules (map key_of s.earlier) i rule
      → f ≡ Some (record { spot = record { place = s.level.end; row = End s.level.depth }; reason = reason.Missing; subject = subject_of rule.key }) → Walks d u most s f
  broken : {s : Rest} {f : Option Found} → 0 < length s.bytes → BeginsWithNone s.bytes
      → f ≡ Some (record { spot = spot s.at reason.AvpLength; reason = reason.AvpLength; subject = Nothing }) → Walks d u most s f
  wrong : {s : Rest} {f : Option Found} (v : PlainAvp) (rest : List ℕ) (r : Reason) (t : Subject) → BeginsWith v s.bytes rest → IsFirstWrong d u most s v r t
      → f ≡ Some (record { spot = spot s.at r; reason = r; subject = t }) → Walks d u most s f
  leaf : {s : Rest} {f : Option Found} (v : PlainAvp) (rest : List ℕ) → BeginsWith v s.bytes rest → IsFine d u most s v → group_at d v ≡ None → Walks d u most (following s v rest) f → Walks d u most s f
  group : {s : Rest} {f : Option Found} (v : PlainAvp) (rest : List ℕ) (g : PlainDefinition) → BeginsWith v s.bytes rest → IsFine d u most s v → group_at d v ≡ Some g
      → Walks d u most (inside s v g) None → Walks d u most (following s v rest) f → Walks d u most s f
  bad_group : {s : Rest} {f : Option Found} (v : PlainAvp) (rest : List ℕ) (g : PlainDefinition) (h : Found) → BeginsWith v s.bytes rest → IsFine d u most s v → group_at d v ≡ Some g
      → Walks d u most (inside s v g) (Some h) → f ≡ Some h → Walks d u most s f

abbrev pub whole : List DRule → List ℕ → Rest
whole rules bytes = record { level = record { rules = rules; start = 20; end = length bytes; depth = 0 }; earlier = []; at = 20; bytes = drop 20 bytes }

-- the fault that is reported for what is found
abbrev pub fault_of : Found → Fault
fault_of h = record { place = h.spot.place; code = code_of h.reason; reason = h.reason; subject = h.subject }

-- a check of the body that found nothing, or found this, unless memory ran out
abbrev pub IsFoundIn : Dictionary → Unknown → Levels → Rest → Refusal → Type 0
IsFoundIn d u most s (refusal.Fault f) = (h : Found) × Walks d u most s (Some h) × (f ≡ fault_of h)
IsFoundIn d u most s refusal.NoMemory = ⊤
IsFoundIn d u most s refusal.Truncated = ⊥
IsFoundIn d u most s refusal.Trailing = ⊥
IsFoundIn d u most s refusal.Spent = ⊥
