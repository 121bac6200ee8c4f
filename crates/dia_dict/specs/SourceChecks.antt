-- What a check of a source answers.
use Rattle.std.specs.Prelude.{◌≡◌, ℕ, List, [], Option, Some, None, slice_get, string_bytes, ⊤}
use Rattle.std.specs.Borrow.{Bor}
use Rattle.dia_wire.specs.declared.Key.{Key}
use Rattle.dia_ccf.specs.declared.source.Decl.{Decl}
use Rattle.dia_ccf.specs.declared.source.Def.{Def}
use Rattle.dia_ccf.specs.Plain.{PlainDecl, PlainDef, plain_decl, plain_def}
use Rattle.dia_dict.specs.declared.resolving.finding.repeats.Keyed.{Keyed}
use Rattle.dia_dict.specs.declared.resolving.parts.Placed.{Placed}
use Rattle.dia_dict.specs.declared.fault.DictFault.{DictFault}
use Rattle.dia_dict.specs.declared.fault.DictFault.TheVariants as fault
use Rattle.dia_dict.specs.declared.findings.Part.{Part}
use Rattle.dia_dict.specs.declared.findings.Recorded.{Recorded}
use Rattle.dia_dict.specs.declared.findings.Finding.{Finding}
use Rattle.dia_dict.specs.declared.resolving.refusal.Refusal.{Refusal}
use Rattle.dia_dict.specs.declared.resolving.refusal.Refusal.TheVariants as refusal
use Rattle.dia_dict.specs.declared.fault.DictKind.TheVariants as kind
use Rattle.dia_dict.specs.declared.selectors.Selector.{Selector}
use Rattle.dia_dict.specs.Selectors.{selector_of}
use Rattle.dia_dict.specs.Resolution.{Wrong, wrong, PlainFinding, head_of}

abbrev pub recorded : Recorded → Wrong
recorded t = wrong t.kind t.name.now t.slot.now

abbrev pub plain_finding : Finding → PlainFinding
plain_finding f = record { wrong = recorded f.recorded; part = f.part; other = f.other }

-- ---- parts as they lie in memory

abbrev pub PlacedDecl : Type 0
PlacedDecl = Placed (Bor Decl)

abbrev pub PlacedDef : Type 0
PlacedDef = Placed (Bor Def)

abbrev pub placed_decl : PlacedDecl → Part × PlainDecl
placed_decl d = (d.part, plain_decl d.item.now)

abbrev pub placed_def : PlacedDef → Part × PlainDef
placed_def d = (d.part, plain_def d.item.now)

-- parts with their names
abbrev pub named_part : {X : Type 0} → Bor (List ℕ) × Placed (Bor X) → List ℕ × (Part × X)
named_part e = (e.0.now, (e.1.part, e.1.item.now))

abbrev pub named_decl : Bor (List ℕ) × PlacedDecl → List ℕ × (Part × PlainDecl)
named_decl e = (e.0.now, placed_decl e.1)

abbrev pub named_def : Bor (List ℕ) × PlacedDef → List ℕ × (Part × PlainDef)
named_def e = (e.0.now, placed_def e.1)

-- ---- what is compared, and what is reported where it repeats

abbrev pub keyed_text : Keyed (Bor (List ℕ)) → Part × (List ℕ × Wrong)
keyed_text i = (i.part, (i.key.now, recorded i.recorded))

abbrev pub keyed_key : Keyed Key → Part × (Key × Wrong)
keyed_key i = (i.part, (i.key, recorded i.recorded))

abbrev pub recorded_key : Part × (List ℕ × Key) → Part × (Key × Wrong)
recorded_key n = (n.0, (n.1.1, wrong kind.DuplicateKey n.1.0 []))

abbrev pub keyed_selector : Keyed Selector → Part × (Selector × Wrong)
keyed_selector i = (i.part, (i.key, recorded i.recorded))

abbrev pub recorded_selector : Part × PlainDef → Part × (Selector × Wrong)
recorded_selector d = (d.0, (selector_of (head_of d.1.head), wrong kind.DuplicateCommand d.1.name []))

-- ---- answers

-- the first of what is wrong is reported
abbrev pub IsRefused : List Wrong → Refusal → Type 0
IsRefused ws (refusal.Occurs t) = slice_get ws 0 ≡ Some (recorded t)
IsRefused ws refusal.NoMemory = ⊤

abbrev pub wrong_of : DictFault → Option Wrong
wrong_of (fault.Stands kind name slot) = Some (wrong kind (string_bytes name) (string_bytes slot))
wrong_of fault.NoMemory = None
