-- Where what corresponds is the same: it has no lines.
use Rattle.std.proofs.Common.{◌≡◌, ℕ, List, length, Option, Some}
use Rattle.std.specs.Prelude.{IsSome, slice_get}
use Rattle.dia_book.specs.declared.definition.DRule.{DRule}
use Rattle.dia_book.specs.Dictionary.{Dictionary}
use Rattle.dia_differences.specs.declared.owner.Owner.{Owner}
use Rattle.dia_differences.specs.declared.owner.Owner.TheVariants.{Avp, Command}
use Rattle.dia_differences.specs.Owners.{rules_of}
use Rattle.dia_differences.specs.declared.lines.AvpField.TheVariants as avps
use Rattle.dia_differences.specs.declared.lines.HeadField.TheVariants as heads
use Rattle.dia_differences.specs.Partners.{Matches}
use Rattle.dia_differences.specs.Matching.{At, IsSameAt, IsSameField, IsSameHeadField, partner_of, rule_place}

pub record HaveSameFields (a b : Dictionary) (i j : ℕ) : Type 0 where
  pub name : At (IsSameField avps.Name) a.entries b.entries i j
  pub code : At (IsSameField avps.Code) a.entries b.entries i j
  pub vendor : At (IsSameField avps.Vendor) a.entries b.entries i j
  pub format : At (IsSameField avps.Format) a.entries b.entries i j
  pub m_rule : At (IsSameField avps.MRule) a.entries b.entries i j

pub record HaveSameHeads (a b : Dictionary) (i j : ℕ) : Type 0 where
  pub name : At (IsSameHeadField heads.Name) a.commands b.commands i j
  pub code : At (IsSameHeadField heads.Code) a.commands b.commands i j
  pub class : At (IsSameHeadField heads.Class) a.commands b.commands i j
  pub app : At (IsSameHeadField heads.Application) a.commands b.commands i j
  pub p : At (IsSameHeadField heads.Proxiable) a.commands b.commands i j

abbrev pub HasSameRule : Dictionary → Dictionary → List (Option ℕ) → Owner → ℕ → DRule → Type 0
HasSameRule a b pairs of i r = (j : ℕ) × (rule_place a b pairs of r ≡ Some j) × IsSameAt r i (rules_of b of) j

pub record HaveSameRules (a b : Dictionary) (m : Matches) (own other : Owner) : Type 0 where
  pub rules : (i : ℕ) (r : DRule) → slice_get (rules_of a own) i ≡ Some r → HasSameRule a b m.avps other i r
  pub others : (j : ℕ) (r : DRule) → slice_get (rules_of b other) j ≡ Some r → IsSome (rule_place b a m.avps_back own r)

pub record HasSameAvp (a b : Dictionary) (m : Matches) (i : ℕ) : Type 0 where
  pub place : ℕ
  pub is : partner_of m.avps i (length b.entries) ≡ Some place
  pub fields : HaveSameFields a b i place
  pub rules : HaveSameRules a b m (Avp i) (Avp place)

pub record HasSameCommand (a b : Dictionary) (m : Matches) (i : ℕ) : Type 0 where
  pub place : ℕ
  pub is : partner_of m.commands i (length b.commands) ≡ Some place
  pub fields : HaveSameHeads a b i place
  pub rules : HaveSameRules a b m (Command i) (Command place)
