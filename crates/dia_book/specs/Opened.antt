-- A dictionary's facts out of a truncation: each of them has one proof at most, or can be found again.
use Rattle.std.proofs.Common.{◌≡◌, ℕ, ◌≤◌, Bool, true, false, cond, List, [], ◌∷◌, ◌++◌, Option, Some, None, refl, sym, ap, subst}
use Rattle.std.proofs.Math.Logic.{∥∥₁_elim, ∥∥₁_prop}
use Rattle.std.proofs.Props.{props}
use Rattle.std.specs.Prelude.{IfSome}
use Rattle.std.specs.List.{list_any, list_all}
use Rattle.std.proofs.lemmas.Bool.{or_parts, and_parts}
use mathlib.Core.Sum.{⊎_set}
use Rattle.dia_wire.specs.declared.Key.{Key}
use Rattle.dia_data.specs.Plain.{PlainFormat, Grouped}
use Rattle.dia_terms.specs.declared.RuleKind.{RuleKind}
use Rattle.dia_terms.specs.declared.RuleKind.TheVariants.{Fixed, Required, Optional}
use Rattle.dia_book.specs.declared.definition.DRule.{DRule}
use Rattle.dia_book.specs.declared.definition.DefHead.{DefHead}
use Rattle.dia_book.specs.declared.definition.DefHead.TheVariants.{Group, Command, Error}
use Rattle.dia_book.specs.Dictionary.{PlainDefinition, Dictionary, IsDictionary, AreRules, IsLeast, IsCommandHead, is_fixed}

-- a list as the members of its front that pass a test and what follows them
abbrev pub front : {X : Type 0} → (X → Bool) → List X → List X
front p [] = []
front p (x ∷ xs) = cond (p x) (x ∷ front p xs) []

abbrev pub rest : {X : Type 0} → (X → Bool) → List X → List X
rest p [] = []
rest p (x ∷ xs) = cond (p x) (rest p xs) (x ∷ xs)

pub front-append-rest : {X : Type 0} (p : X → Bool) (xs : List X) → xs ≡ front p xs ++ rest p xs
front-append-rest p [] = refl
front-append-rest p (x ∷ xs) = by (p x) (front-append-rest p xs)
  where
    by : (b : Bool) → xs ≡ front p xs ++ rest p xs → x ∷ xs ≡ cond b (x ∷ front p xs) [] ++ cond b (rest p xs) (x ∷ xs)
    by true e = ap (λ ys. x ∷ ys) e
    by false e = refl

pub list_all-front : {X : Type 0} (p : X → Bool) (xs : List X) → list_all p (front p xs) ≡ true
list_all-front p [] = refl
list_all-front p (x ∷ xs) = by (p x) refl (list_all-front p xs)
  where
    by : (b : Bool) → p x ≡ b → list_all p (front p xs) ≡ true → list_all p (cond b (x ∷ front p xs) []) ≡ true
    by true here e = rw here e
    by false here e = refl

-- where some members that pass come first and no others pass
pub list_any-rest : {X : Type 0} (p : X → Bool) (xs ys : List X) → list_all p xs ≡ true → list_any p ys ≡ false → list_any p (rest p (xs ++ ys)) ≡ false
list_any-rest p [] [] all none = refl
list_any-rest p [] (y ∷ ys) all none = rw ((or_parts (p y) (list_any p ys) none).0) none
list_any-rest p (x ∷ xs) ys all none = let parts = and_parts (p x) (list_all p xs) all in rw (parts.0) (list_any-rest p xs ys parts.1 none)

IsLeast-prop : (kind : RuleKind) (n : ℕ) → IsProp (IsLeast kind n)
IsLeast-prop Fixed n = hlevel props
IsLeast-prop Required n = hlevel props
IsLeast-prop Optional n = hlevel props

within-prop : (o : Option ℕ) (n : ℕ) → IsProp (IfSome o (λ max. n ≤ max))
within-prop None n = hlevel props
within-prop (Some m) n = hlevel props

opened_rules : (rules : List DRule) → ∥ AreRules rules ∥₁ → AreRules rules
opened_rules rules t = record {
  fixed_first = (
    front is_fixed rules,
    rest is_fixed rules,
    front-append-rest is_fixed rules,
    list_all-front is_fixed rules,
    ∥∥₁_elim t (hlevel props) (λ s. let f = s.fixed_first in subst (λ rs. list_any is_fixed (rest is_fixed rs) ≡ false) (sym f.2) (list_any-rest is_fixed f.0 f.1 f.3 f.4)),
  );
  distinct = λ i j a b p q e. ∥∥₁_elim t (hlevel props) (λ s. s.distinct i j a b p q e);
  fixed_keys = λ k r h e. ∥∥₁_elim t (hlevel props) (λ s. s.fixed_keys k r h e);
  bounds = λ k r h. ∥∥₁_elim t (within-prop _ _) (λ s. s.bounds k r h);
  least = λ k r h. ∥∥₁_elim t (IsLeast-prop _ _) (λ s. s.least k r h);
  few = ∥∥₁_elim t (hlevel props) (λ s. s.few);
}

grouped-prop : (format : PlainFormat) → IsProp (format ≡ Grouped)
grouped-prop format = hlevel (props, ⊎_set)

heads-prop : (o : Option PlainDefinition) (name : List ℕ) (key : Key) → IsProp (IfSome o (λ g. (g.name ≡ name) × (g.head ≡ Group key)))
heads-prop None name key = hlevel props
heads-prop (Some g) name key = hlevel (props, ⊎_set)

command_head-prop : (head : DefHead) → IsProp (IsCommandHead head)
command_head-prop (Group key) = hlevel props
command_head-prop (Command code class app p) = hlevel props
command_head-prop (Error p) = hlevel props

pub opened : (d : Dictionary) → ∥ IsDictionary d ∥₁ → IsDictionary d
opened d t = record {
  distinct_keys = λ i j x y p q e. ∥∥₁_elim t (hlevel props) (λ s. s.distinct_keys i j x y p q e);
  distinct_names = λ i j x y p q e. ∥∥₁_elim t (hlevel props) (λ s. s.distinct_names i j x y p q e);
  distinct_commands = λ i j x y p q e. ∥∥₁_elim t (hlevel props) (λ s. s.distinct_commands i j x y p q e);
  distinct_selectors = λ i j x y p q e. ∥∥₁_elim t (hlevel props) (λ s. s.distinct_selectors i j x y p q e);
  entry_names = λ k x h. ∥∥₁_elim t (hlevel props) (λ s. s.entry_names k x h);
  command_names = λ k c h. ∥∥₁_elim t (hlevel props) (λ s. s.command_names k c h);
  grouped = λ k x h. (λ e. ∥∥₁_elim t (hlevel props) (λ s. (s.grouped k x h).0 e), λ e. ∥∥₁_elim t (grouped-prop _) (λ s. (s.grouped k x h).1 e));
  group_heads = λ k x h. ∥∥₁_elim t (heads-prop _ _ _) (λ s. s.group_heads k x h);
  command_heads = λ k x h. ∥∥₁_elim t (command_head-prop _) (λ s. s.command_heads k x h);
  known_keys = λ def r key p q e. ∥∥₁_elim t (hlevel props) (λ s. s.known_keys def r key p q e);
  rules = λ k def h. opened_rules _ (∥∥₁_elim t ∥∥₁_prop (λ s. ∣ s.rules k def h ∣₁));
  few = ∥∥₁_elim t (hlevel props) (λ s. s.few);
}
