-- Whether a command of an application exists, as the definition shows that is selected for it.
use Rattle.std.proofs.Common.{◌≡◌, ℕ, ◌+◌, Bool, true, false, length, Option, Some, None, refl, sym, ap, ◌∙◌}
use Rattle.std.specs.Prelude.{nat_eq, ◌&&◌, ◌==◌, position, slice_get, is_some}
use Rattle.std.specs.List.{list_any}
use Rattle.std.specs.Option.{option_map, option_or}
use Rattle.std.proofs.lemmas.Bool.{and_parts, eqb-true, eq-eqb}
use Rattle.std.proofs.lemmas.List.Quantifiers.{position-Some}
use Rattle.std.proofs.lemmas.Option.{none-some, same_Some, get_or_from_slice_get}
use Rattle.dia_book.specs.declared.Class.{Class}
use Rattle.dia_book.specs.declared.DefHead.{DefHead}
use Rattle.dia_book.specs.declared.DefHead.TheVariants.{Group, Command, Error}
use Rattle.dia_book.specs.Dictionary.{Dictionary, PlainDefinition, groups, definitions, selected, is_command, same_class}
use Rattle.dia_book.proofs.Members.{list_any-none_at, position-is_some}
use Rattle.dia_compat.specs.PairTests.{names_app, is_of_app}
use Rattle.dia_valid.proofs.Members.{any_in, in_any, in_at, at_in}
use Rattle.dia_valid.proofs.SelectedCommands.{command_at}

module _ (d : Dictionary) (code : ℕ) (class : Class) (app : ℕ) where
  abbrev own : PlainDefinition → Bool
  own c = is_command code class (Some app) c.head

  abbrev open_to : PlainDefinition → Bool
  open_to c = is_command code class None c.head

  own_app : (h : DefHead) → is_command code class (Some app) h ≡ true → is_of_app h app ≡ true
  own_app (Group key) e = absurd (let f : false ≡ true = e in cc)
  own_app (Error p) e = refl
  own_app (Command c cl None p) e = let q = and_parts ((code == c) && same_class class cl) false e in absurd (let f : false ≡ true = q.1 in cc)
  own_app (Command c cl (Some a) p) e =
      let q = and_parts ((code == c) && same_class class cl) (nat_eq app a) e in
      let same : app ≡ a = eqb-true app a q.1 in
      eq-eqb a app (sym same)

  no_app : (h : DefHead) → is_command code class None h ≡ true → is_command code class (Some app) h ≡ false → is_of_app h app ≡ false
  no_app (Group key) e f = refl
  no_app (Error p) e f = absurd (let g : true ≡ false = sym e ∙ f in cc)
  no_app (Command c cl None p) e f = refl
  no_app (Command c cl (Some a) p) e f = let q = and_parts ((code == c) && same_class class cl) false e in absurd (let g : false ≡ true = q.1 in cc)

  passes_at : (p : PlainDefinition → Bool) (i : ℕ) (x : PlainDefinition) → position p d.commands ≡ Some i → slice_get d.commands i ≡ Some x → p x ≡ true
  passes_at p i x e at = ap p (sym (get_or_from_slice_get d.commands i x x at)) ∙ (position-Some p d.commands i x e).1

  none_passes : (p : PlainDefinition → Bool) → position p d.commands ≡ None → list_any p d.commands ≡ false
  none_passes p e = by (list_any p d.commands) refl
    where
      by : (b : Bool) → list_any p d.commands ≡ b → b ≡ false
      by false f = refl
      by true f =
          let r = any_in p d.commands f in
          let q = at_in d.commands r.0 r.1 in
          let s : is_some (position p d.commands) ≡ true = position-is_some p d.commands q.place r.0 q.at r.2 in
          absurd (let w : false ≡ true = ap (λ (o : Option ℕ). is_some o) (sym e) ∙ s in cc)

  pub names_own : (x : PlainDefinition) (n : ℕ) → slice_get (definitions d) n ≡ Some x → Some n ≡ selected d code class app → is_of_app x.head app ≡ names_app d code class app
  names_own x n at found = by (position own d.commands) (position open_to d.commands) refl refl found
    where
      by : (o p : Option ℕ) → position own d.commands ≡ o → position open_to d.commands ≡ p → Some n ≡ option_map (λ i. length (groups d) + i) (option_or o p)
          → is_of_app x.head app ≡ names_app d code class app
      by None None e f h = absurd (none-some n (sym h))
      by (Some i) p e f h =
          let here = command_at d i n x (same_Some n (length (groups d) + i) h) at in
          let pass = passes_at own i x e here in
          own_app x.head pass ∙ sym (in_any own d.commands x (in_at d.commands i x here) pass)
      by None (Some j) e f h =
          let here = command_at d j n x (same_Some n (length (groups d) + j) h) at in
          let none = none_passes own e in
          no_app x.head (passes_at open_to j x f here) (list_any-none_at own d.commands none j x here) ∙ sym none

  pub names_none : None ≡ selected d code class app → false ≡ names_app d code class app
  names_none found = by (position own d.commands) (position open_to d.commands) refl found
    where
      by : (o p : Option ℕ) → position own d.commands ≡ o → None ≡ option_map (λ i. length (groups d) + i) (option_or o p) → false ≡ names_app d code class app
      by None p e h = sym (none_passes own e)
      by (Some i) p e h = absurd (none-some (length (groups d) + i) h)
