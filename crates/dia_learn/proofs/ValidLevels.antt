-- The levels of a valid message: their AVPs are where the rules say, and their M flags as the entries say.
use Rattle.std.proofs.Common.{◌≡◌, ℕ, zero, suc, List, [], ◌∷◌, Option, Some, None, length, map, take, drop, refl, sym, ap, subst, ◌∙◌, inl}
use Rattle.std.specs.Prelude.{MatchOption, option_and_then, slice_get}
use Rattle.std.specs.List.{AllByRecursion}
use Rattle.std.proofs.lemmas.List.{take_at, drop_at}
use Rattle.std.proofs.lemmas.Option.{none-some}
use Rattle.dia_wire.specs.Wire.{PlainAvp, key_of, SpellsAll}
use Rattle.dia_wire.specs.Wire.{IsHead}
use Rattle.dia_data.specs.Leaf.{IsLeaf}
use Rattle.dia_book.specs.declared.Class.{Class}
use Rattle.dia_book.specs.declared.Class.TheVariants.{Request, Answer, Error}
use Rattle.dia_book.specs.declared.DRule.{DRule}
use Rattle.dia_book.specs.Dictionary.{DictEntry, Dictionary, PlainDefinition, definitions, entry_of, group_place}
use Rattle.dia_terms.specs.declared.Unknown.{Unknown}
use Rattle.dia_terms.specs.declared.Levels.{Levels}
use Rattle.dia_terms.specs.declared.Levels.TheVariants as levels
use Rattle.dia_valid.specs.Valid.{AllFit, Fits, FitsBy, IsAccepted, IsLevel, IsValidOf, MHolds, Placed, class_of, known}
use Rattle.dia_valid.proofs.GroupNumbers.{group_number as group_of_number}
use Rattle.dia_valid.proofs.KnownKeys.{known_by_entry}
use Rattle.dia_valid.proofs.Members.{IsIn, all_map, in_all, in_contains}
use Rattle.dia_check.proofs.FaultlessMessages.{head_size}
use Rattle.dia_learn.specs.declared.place.Place.{Place}
use Rattle.dia_learn.specs.Levels.{IsLevelOf, LiesIn, PlainLevel, Reads, group_number, inside, itself, of_command, of_group}
use Rattle.dia_learn.specs.Placed.{HasFlagsOf, IsRead}
use Rattle.dia_learn.proofs.Messages.{lies_of}
use Rattle.dia_learn.proofs.Reading.{one_reading}

reads_spelled : (avps : List PlainAvp) (bytes : List ℕ) → SpellsAll avps bytes → Reads avps bytes
reads_spelled [] bytes e = inl (ap length e)
reads_spelled (v ∷ vs) bytes (front, rest, spells, parts, more) = (rest, (front, spells, parts), reads_spelled vs rest more)

def_of : (c : ℕ) (class : Class) (app : ℕ) → (of_command c class app).def ≡ c
def_of c Request app = refl
def_of c Answer app = refl
def_of c Error app = refl

any_depth : (d : Dictionary) (u : Unknown) (most : Levels) (avps : List PlainAvp) → AllFit d u most avps → (n : ℕ) × AllByRecursion (Fits d u n) avps
any_depth d u levels.Any avps fits = fits
any_depth d u (levels.AtMost n) avps fits = (n, fits)

module _ (d : Dictionary) (u : Unknown) where
  -- what a known group has for its data
  abbrev IsInner : (List DRule → List ℕ → Type 0) → PlainAvp → ℕ → Type 0
  IsInner Inner v n = (g : PlainDefinition) × (slice_get (definitions d) n ≡ Some g) × Inner g.rules v.bytes

  fit_inside : (Inner : List DRule → List ℕ → Type 0) (v : PlainAvp) (n : ℕ) → group_number d v ≡ Some n → FitsBy d u Inner v → IsInner Inner v n
  fit_inside Inner v n number fits = by (entry_of d (key_of v)) refl number
    where
      of_entry : (i : ℕ) → entry_of d (key_of v) ≡ Some i → group_place d i ≡ Some n → IsInner Inner v n
      of_entry i here place =
          let (e, at, is_known) = known_by_entry d (key_of v) i here in
          let (g, is_group, is_def) = group_of_number d i n e at place in
          let known_fits = subst
          (λ (o : Option DictEntry). MatchOption o (IsAccepted u v.flags) (λ (x : DictEntry). MHolds x.rule v.flags × MatchOption x.group (IsLeaf x.format v.bytes) (λ group. Inner group.rules v.bytes)))
          is_known fits in
          (g, is_def, subst (λ (o : Option PlainDefinition). MatchOption o (IsLeaf e.format v.bytes) (λ group. Inner group.rules v.bytes)) is_group known_fits.1)

      by : (o : Option ℕ) → entry_of d (key_of v) ≡ o → option_and_then (group_place d) o ≡ Some n → IsInner Inner v n
      by None here place = absurd (none-some n place)
      by (Some i) here place = of_entry i here place

  flags_by : (Inner : List DRule → List ℕ → Type 0) (v : PlainAvp) → FitsBy d u Inner v → HasFlagsOf d u v
  flags_by Inner v fits = by (known d (key_of v)) fits
    where
      by : (o : Option DictEntry) → MatchOption o (IsAccepted u v.flags) (λ (x : DictEntry). MHolds x.rule v.flags × MatchOption x.group (IsLeaf x.format v.bytes) (λ group. Inner group.rules v.bytes))
          → MatchOption o (IsAccepted u v.flags) (λ (x : DictEntry). MHolds x.rule v.flags)
      by None h = h
      by (Some x) h = h.0

  flags_of_fit : (n : ℕ) (v : PlainAvp) → Fits d u n v → HasFlagsOf d u v
  flags_of_fit zero v fits = flags_by (λ rules bytes. ⊥) v fits
  flags_of_fit (suc n) v fits = flags_by (IsLevel (Fits d u n)) v fits

  -- the level that a valid one is, and those that lie in it
  read : (l : PlainLevel) (w : Place) (bytes : List ℕ) (n : ℕ) (def : PlainDefinition) → slice_get (definitions d) w.def ≡ Some def → (avps : List PlainAvp) → SpellsAll avps bytes
      → Placed def.rules (map key_of avps) → AllByRecursion (Fits d u n) avps → LiesIn d l w bytes → IsRead d u l
  read l w bytes n def at avps spelled placed fits (itself e r) =
      let same = one_reading avps l.avps bytes (reads_spelled avps bytes spelled) r in
      record {
        placed = (
          def,
          subst (λ (p : Place). slice_get (definitions d) p.def ≡ Some def) (sym e) at,
          subst (λ (xs : List PlainAvp). Placed def.rules (map key_of xs)) same placed,
        );
        flags = subst (λ (xs : List PlainAvp). AllByRecursion (HasFlagsOf d u) xs) same (all_map (Fits d u n) (HasFlagsOf d u) (flags_of_fit n) avps fits);
      }
  read l w bytes zero def at avps spelled placed fits (inside around v g r has number lies) =
      let same = one_reading around avps bytes r (reads_spelled avps bytes spelled) in
      let i = subst (IsIn v) same (in_contains around v has) in
      let (x, at', none) = fit_inside (λ rules b. ⊥) v g number (in_all (Fits d u zero) v avps fits i) in
      absurd none
  read l w bytes (suc n) def at avps spelled placed fits (inside around v g r has number lies) =
      let same = one_reading around avps bytes r (reads_spelled avps bytes spelled) in
      let i = subst (IsIn v) same (in_contains around v has) in
      let (x, at', (avps', spelled', placed', fits')) = fit_inside (IsLevel (Fits d u n)) v g number (in_all (Fits d u (suc n)) v avps fits i) in
      read l (of_group g) v.bytes n x at' avps' spelled' placed' fits' lies

pub valid_levels : (d : Dictionary) (u : Unknown) (most : Levels) (bytes : List ℕ) (c : ℕ) (l : PlainLevel) → IsValidOf d u most bytes c → IsLevelOf d bytes l → IsRead d u l
valid_levels d u most bytes c l valid level =
    let m = valid.message in
    let size = head_size valid.header (length bytes) m.head m.is_head in
    let head : m.head ≡ take 20 bytes = sym (ap (take 20) m.parts ∙ take_at m.head m.body 20 size) in
    let body : m.body ≡ drop 20 bytes = sym (ap (drop 20) m.parts ∙ drop_at m.head m.body 20 size) in
    let is_head = subst (IsHead valid.header (length bytes)) head m.is_head in
    let lies = lies_of d bytes valid.header is_head c valid.select l level in
    let (n, fits) = any_depth d u most valid.avps valid.fit in
    let class = class_of valid.header.flags in
    read d u l (of_command c class valid.header.app) (drop 20 bytes) n valid.command
    (subst (λ (k : ℕ). slice_get (definitions d) k ≡ Some valid.command) (sym (def_of c class valid.header.app)) valid.is_command)
    valid.avps (subst (SpellsAll valid.avps) body m.is_body) valid.placed fits lies
