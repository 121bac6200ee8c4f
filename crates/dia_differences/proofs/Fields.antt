-- The lines of fields.
use Rattle.std.proofs.Common.{◌≡◌, ℕ, ◌+◌, List, [], ◌∷◌, ◌++◌, Bool, cond, Some, subst}
use Rattle.std.specs.Prelude.{◌↔◌, IsTrue, length, slice_get}
use Rattle.dia_book.specs.Dictionary.{Dictionary, PlainDefinition, definitions, groups}
use Rattle.dia_valid.proofs.SelectedCommands.{command_at}
use Rattle.dia_differences.specs.declared.lines.AvpField.{AvpField}
use Rattle.dia_differences.specs.declared.lines.HeadField.{HeadField}
use Rattle.dia_differences.specs.declared.lines.Line.{Line}
use Rattle.dia_differences.specs.declared.lines.What.TheVariants as kinds
use Rattle.dia_differences.specs.Matching.{At, IsSameField, IsSameHeadField}
use Rattle.dia_differences.specs.Lines.{Adds, FieldLine, HeadLine, unmarked}
use Rattle.dia_differences.proofs.Chains.{adds_unless}
use Rattle.dia_differences.proofs.Paired.{at_both, both_at}

pub field_line : (a b : Dictionary) (field : AvpField) (i j m n : ℕ) (same : Bool) (xs ys : List Line) → m ≡ i → n ≡ j → (IsTrue same) ↔ At (IsSameField field) a.entries b.entries m n
    → ys ≡ cond same xs (xs ++ unmarked (kinds.AvpField i j field) ∷ []) → Adds xs ys (FieldLine a b i j field)
field_line a b field i j m n same xs ys first second iff is =
    let P : ℕ → ℕ → Type 0 = λ p q. (IsTrue same) ↔ At (IsSameField field) a.entries b.entries p q in
    adds_unless (At (IsSameField field) a.entries b.entries i j) (kinds.AvpField i j field) same xs ys (subst (λ (p : ℕ). P p j) first (subst (P m) second iff)) is

pub head_line : (a b : Dictionary) (field : HeadField) (i j m n : ℕ) (x y : PlainDefinition) (same : Bool) (xs ys : List Line)
    → m ≡ length (groups a) + i → slice_get (definitions a) m ≡ Some x → n ≡ length (groups b) + j → slice_get (definitions b) n ≡ Some y
    → (IsTrue same) ↔ IsSameHeadField field x y → ys ≡ cond same xs (xs ++ unmarked (kinds.HeadField i j field) ∷ []) → Adds xs ys (HeadLine a b i j field)
head_line a b field i j m n x y same xs ys first at second there iff is =
    let own = command_at a i m x first at in
    let other = command_at b j n y second there in
    adds_unless (At (IsSameHeadField field) a.commands b.commands i j) (kinds.HeadField i j field) same xs ys
    (λ h. both_at (IsSameHeadField field) a.commands b.commands i j x y own other (iff.0 h), λ h. iff.1 (at_both (IsSameHeadField field) a.commands b.commands i j x y own other h)) is
