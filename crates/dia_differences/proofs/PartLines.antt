-- The lines of an AVP or a command, from those of its fields and those of its rules.
use Rattle.std.proofs.Common.{◌≡◌, ℕ, List, length, Option, Some, None, refl, sym, subst, ap, ◌∙◌}
use Rattle.dia_book.specs.Dictionary.{Dictionary}
use Rattle.dia_differences.specs.declared.owner.Owner.TheVariants as owners
use Rattle.dia_differences.specs.declared.lines.Line.{Line}
use Rattle.dia_differences.specs.declared.lines.What.{What}
use Rattle.dia_differences.specs.declared.sides.Side.TheVariants as sides
use Rattle.dia_differences.specs.Partners.{Matches}
use Rattle.dia_differences.specs.Matching.{partner_of}
use Rattle.dia_differences.specs.Lines.{AddedAvp, AddedCommand, Adds, AloneAvp, AloneCommand, AvpAt, AvpLines, CommandAt, CommandLines, FieldLines, HeadLines, RuleLines}
use Rattle.dia_differences.proofs.Chains.{adds_nothing, adds_then}

pub partner_is : (pairs others : List (Option ℕ)) (i n m : ℕ) (o : Option ℕ) → o ≡ partner_of pairs i n → pairs ≡ others → n ≡ m → partner_of others i m ≡ o
partner_is pairs others i n m o is same count = sym (is ∙ ap (λ (ps : List (Option ℕ)). partner_of ps i n) same ∙ ap (partner_of others i) count)

-- by what a value is
pub adds_by : {X : Type 0} (R : X → List What → Type 0) (x y : X) (xs ys : List Line) → x ≡ y → Adds xs ys (R x) → Adds xs ys (R y)
adds_by {X} R x y xs ys same h = let P : X → Type 0 = λ z. Adds xs ys (R z) in subst P same h

module _ (a b : Dictionary) (m : Matches) (i : ℕ) (xs ys zs : List Line) where
  pub avp_found : (j : ℕ) → partner_of m.avps i (length b.entries) ≡ Some j → Adds xs ys (FieldLines a b i j) → Adds ys zs (RuleLines a b m (owners.Avp i) (owners.Avp j)) → Adds xs zs (AvpAt a b m i)
  avp_found j is fields rules =
      adds_by (AvpLines a b m i) (Some j) (partner_of m.avps i (length b.entries)) xs zs (sym is)
      (adds_then (FieldLines a b i j) (RuleLines a b m (owners.Avp i) (owners.Avp j)) xs ys zs fields rules)

  pub command_found : (j : ℕ) → partner_of m.commands i (length b.commands) ≡ Some j → Adds xs ys (HeadLines a b i j) → Adds ys zs (RuleLines a b m (owners.Command i) (owners.Command j))
      → Adds xs zs (CommandAt a b m i)
  command_found j is fields rules =
      adds_by (CommandLines a b m i) (Some j) (partner_of m.commands i (length b.commands)) xs zs (sym is)
      (adds_then (HeadLines a b i j) (RuleLines a b m (owners.Command i) (owners.Command j)) xs ys zs fields rules)

pub avp_missing : (a b : Dictionary) (m : Matches) (i : ℕ) (xs ys : List Line) → partner_of m.avps i (length b.entries) ≡ None → Adds xs ys (AloneAvp sides.First a i) → Adds xs ys (AvpAt a b m i)
avp_missing a b m i xs ys none added = adds_by (AvpLines a b m i) None (partner_of m.avps i (length b.entries)) xs ys (sym none) added

pub command_missing : (a b : Dictionary) (m : Matches) (i : ℕ) (xs ys : List Line) → partner_of m.commands i (length b.commands) ≡ None → Adds xs ys (AloneCommand sides.First a i) → Adds xs ys (CommandAt a b m i)
command_missing a b m i xs ys none added = adds_by (CommandLines a b m i) None (partner_of m.commands i (length b.commands)) xs ys (sym none) added

-- ---- those that B alone has

pub avp_listed : (b : Dictionary) (j i : ℕ) (o : Option ℕ) (xs : List Line) → o ≡ Some i → Adds xs xs (AddedAvp b j o)
avp_listed b j i o xs is = adds_by (AddedAvp b j) (Some i) o xs xs (sym is) (adds_nothing (AddedAvp b j (Some i)) xs refl)

pub avp_added : (b : Dictionary) (j : ℕ) (o : Option ℕ) (xs ys : List Line) → o ≡ None → Adds xs ys (AloneAvp sides.Second b j) → Adds xs ys (AddedAvp b j o)
avp_added b j o xs ys none added = adds_by (AddedAvp b j) None o xs ys (sym none) added

pub command_listed : (b : Dictionary) (j i : ℕ) (o : Option ℕ) (xs : List Line) → o ≡ Some i → Adds xs xs (AddedCommand b j o)
command_listed b j i o xs is = adds_by (AddedCommand b j) (Some i) o xs xs (sym is) (adds_nothing (AddedCommand b j (Some i)) xs refl)

pub command_added : (b : Dictionary) (j : ℕ) (o : Option ℕ) (xs ys : List Line) → o ≡ None → Adds xs ys (AloneCommand sides.Second b j) → Adds xs ys (AddedCommand b j o)
command_added b j o xs ys none added = adds_by (AddedCommand b j) None o xs ys (sym none) added

pub named_line : (R : Option ℕ → List What → Type 0) (others pairs : List (Option ℕ)) (j n : ℕ) (o : Option ℕ) (xs ys : List Line) → pairs ≡ others → o ≡ partner_of pairs j n → Adds xs ys (R o) → Adds xs ys (R (partner_of others j n))
named_line R others pairs j n o xs ys same is added = adds_by R o (partner_of others j n) xs ys (is ∙ ap (λ (ps : List (Option ℕ)). partner_of ps j n) same) added
