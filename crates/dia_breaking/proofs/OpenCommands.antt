-- Applications that commands name are listed.
use Rattle.std.proofs.Common.{◌≡◌, ◌≢◌, ℕ, Bool, true, false, ◌==◌, ◌&&◌, nat_eq, List, [], ◌∷◌, Option, Some, None, refl, sym, ap, subst, ◌∙◌, inl, inr}
use Rattle.std.specs.Prelude.{Contains, if◌then◌else◌}
use Rattle.std.specs.List.{filter_map, cons_option}
use Rattle.std.proofs.lemmas.Bool.{and_parts, eqb-true}
use Rattle.std.proofs.lemmas.Option.{none-some, same_Some}
use Rattle.dia_book.specs.declared.Class.{Class}
use Rattle.dia_book.specs.declared.Class.TheVariants as classes
use Rattle.dia_book.specs.declared.DefHead.{DefHead}
use Rattle.dia_book.specs.declared.DefHead.TheVariants.{Group, Command, Error}
use Rattle.dia_book.specs.Dictionary.{Dictionary, PlainDefinition, is_command, same_class}
use Rattle.dia_valid.proofs.Members.{IsIn, in_contains, contains_in}
use Rattle.dia_valid.proofs.SelectedCommands.{class_same}
use Rattle.dia_breaking_sites.specs.Selection.{NamesApp}
use Rattle.dia_breaking.specs.declared.apps.Apps.{Apps}
use Rattle.dia_breaking.specs.Headers.{app_row, row_app, rows_of, apps_of, AreApps}

-- ---- the applications that commands name

into_filter_map : {X Y : Type 0} (f : X → Option Y) (xs : List X) (x : X) (y : Y) → IsIn x xs → f x ≡ Some y → IsIn y (filter_map f xs)
into_filter_map f [] x y i e = absurd i
into_filter_map {X} {Y} f (z ∷ xs) x y (inl same) e = by (f z) (ap f (sym same) ∙ e)
  where
    by : (o : Option Y) → o ≡ Some y → IsIn y (cons_option o (filter_map f xs))
    by None g = absurd (none-some y g)
    by (Some w) g = inl (sym (same_Some w y g))
into_filter_map {X} {Y} f (z ∷ xs) x y (inr i) e = by (f z) (into_filter_map f xs x y i e)
  where
    by : (o : Option Y) → IsIn y (filter_map f xs) → IsIn y (cons_option o (filter_map f xs))
    by None g = g
    by (Some w) g = inr g

same_self : (class : Class) → same_class class class ≡ true
same_self classes.Request = refl
same_self classes.Answer = refl
same_self classes.Error = refl

module _ (code : ℕ) (class : Class) (app : ℕ) (other : class ≢ classes.Error) where
  row_of : (h : DefHead) → is_command code class (Some app) h ≡ true → app_row code h ≡ Some (class, app)
  row_of (Group key) e = absurd (let f : false ≡ true = e in cc)
  row_of (Error p) e = absurd (other (class_same class classes.Error e))
  row_of (Command own kind None p) e = absurd (let f : false ≡ true = (and_parts ((code == own) && same_class class kind) false e).1 in cc)
  row_of (Command own kind (Some a) p) e =
      let outer = and_parts ((code == own) && same_class class kind) (nat_eq app a) e in
      let inner = and_parts (code == own) (same_class class kind) outer.0 in
      ap (λ (b : Bool). if b then Some (kind, a) else None) inner.0
      ∙ ap (λ (k : Class). Some (k, a)) (sym (class_same class kind inner.1))
      ∙ ap (λ (n : ℕ). Some (class, n)) (sym (eqb-true app a outer.1))

  pub named_listed : (d : Dictionary) (apps : Apps) → AreApps d apps → NamesApp d code class app → Contains (apps_of apps code class) app
  named_listed d apps are (y, inside, is) =
      let row = into_filter_map (λ (z : PlainDefinition). app_row code z.head) d.commands y (class, app) (in_contains d.commands y inside) (row_of y.head is) in
      let here : IsIn (class, app) (rows_of apps code) = subst (λ (rows : List (Class × ℕ)). IsIn (class, app) rows) (sym (are code)) row in
      contains_in (apps_of apps code class) app
      (into_filter_map (row_app class) (rows_of apps code) (class, app) app here (ap (λ (b : Bool). if b then Some app else None) (same_self class)))
