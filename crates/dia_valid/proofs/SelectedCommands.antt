-- Which command a header selects.
use Rattle.std.proofs.Common.{◌≡◌, ◌≢◌, ℕ, ◌+◌, Bool, true, false, ◌&&◌, List, [], ◌∷◌, length, Option, Some, None, refl, sym, ap, ◌∙◌, inl, inr}
use Rattle.std.specs.Prelude.{◌⊎◌, ◌==◌, nat_eq, slice_get, position}
use Rattle.std.specs.Option.{option_map, option_or, option_eq}
use Rattle.std.proofs.lemmas.Bool.{and_parts, and_from, eqb-true, eq-eqb}
use Rattle.std.proofs.lemmas.Option.{same_Some}
use Rattle.dia_book.specs.declared.Class.{Class}
use Rattle.dia_book.specs.declared.Class.TheVariants as classes
use Rattle.dia_book.specs.declared.DefHead.{DefHead}
use Rattle.dia_book.specs.declared.DefHead.TheVariants.{Group, Command, Error}
use Rattle.dia_book.specs.Dictionary.{Dictionary, PlainDefinition, IsDictionary, AreRules, IsCommandHead, groups, definitions, selected, is_command, same_class}
use Rattle.dia_book.proofs.NumberedGroups.{slice_get-append_right}
use Rattle.dia_valid.specs.Commands.{HasCode, IsError, NamesApp}
use Rattle.dia_valid.proofs.Members.{IsIn, at_in, in_contains, in_right, all_of}
use Rattle.dia_valid.proofs.Searches.{Found, NotFound, found_or_not}

-- ---- the command of a header

pub record Choice (d : Dictionary) (code : ℕ) (class : Class) (app : ℕ) : Type 0 where
  pub place : ℕ
  pub command : PlainDefinition
  pub at : slice_get d.commands place ≡ Some command
  pub is_selected : selected d code class app ≡ Some (length (groups d) + place)
  pub how : (is_command code class (Some app) command.head ≡ true) ⊎ ((is_command code class None command.head ≡ true) ×
      ((x : PlainDefinition) → IsIn x d.commands → is_command code class (Some app) x.head ≡ false))

pub record NoChoice (d : Dictionary) (code : ℕ) (class : Class) (app : ℕ) : Type 0 where
  pub is_none : selected d code class app ≡ None
  pub no_own : (x : PlainDefinition) → IsIn x d.commands → is_command code class (Some app) x.head ≡ false
  pub no_common : (x : PlainDefinition) → IsIn x d.commands → is_command code class None x.head ≡ false

pub choose : (d : Dictionary) (code : ℕ) (class : Class) (app : ℕ) → Choice d code class app ⊎ NoChoice d code class app
choose d code class app = by (found_or_not own d.commands) (found_or_not common d.commands)
  where
    own : PlainDefinition → Bool
    own c = is_command code class (Some app) c.head

    common : PlainDefinition → Bool
    common c = is_command code class None c.head

    number : Option ℕ → Option ℕ → Option ℕ
    number x y = option_map (λ i. length (groups d) + i) (option_or x y)

    by : Found own d.commands ⊎ NotFound own d.commands → Found common d.commands ⊎ NotFound common d.commands → Choice d code class app ⊎ NoChoice d code class app
    by (inl f) other = inl (record { place = f.place; command = f.item; at = f.at; is_selected = ap (λ (o : Option ℕ). number o (position common d.commands)) f.is_place; how = inl f.passes })
    by (inr n) (inl f) = inl (record {
      place = f.place;
      command = f.item;
      at = f.at;
      is_selected = ap (λ (o : Option ℕ). number o (position common d.commands)) n.is_none ∙ ap (λ (o : Option ℕ). number None o) f.is_place;
      how = inr (f.passes, n.none);
    })
    by (inr n) (inr m) = inr (record {
      is_none = ap (λ (o : Option ℕ). number o (position common d.commands)) n.is_none ∙ ap (λ (o : Option ℕ). number None o) m.is_none;
      no_own = n.none;
      no_common = m.none;
    })

-- ---- headers

pub class_same : (a b : Class) → same_class a b ≡ true → a ≡ b
class_same classes.Request classes.Request h = refl
class_same classes.Answer classes.Answer h = refl
class_same classes.Error classes.Error h = refl
class_same a b h = absurd cc

same_class_self : (a : Class) → same_class a a ≡ true
same_class_self classes.Request = refl
same_class_self classes.Answer = refl
same_class_self classes.Error = refl

app_same : (a b : Option ℕ) → option_eq nat_eq a b ≡ true → a ≡ b
app_same None None h = refl
app_same (Some m) (Some n) h = ap (λ (k : ℕ). Some k) (eqb-true m n h)
app_same a b h = absurd cc

same_app_self : (a : Option ℕ) → option_eq nat_eq a a ≡ true
same_app_self None = refl
same_app_self (Some n) = eq-eqb n n refl

-- the definition for errors, or one of this code, class and application
abbrev pub Reads : PlainDefinition → ℕ → Class → Option ℕ → Type 0
Reads c code class app = (IsError c × (class ≡ classes.Error)) ⊎ (HasCode c code class app × (class ≢ classes.Error))

read_head : (c : PlainDefinition) (code : ℕ) (class : Class) (app : Option ℕ) (h : DefHead) → c.head ≡ h → IsCommandHead h → is_command code class app h ≡ true → Reads c code class app
read_head c code class app (Group key) e heads h = absurd (let f : false ≡ true = h in cc)
read_head c code class app (Error p) e heads h = inl ((p, e), class_same class classes.Error h)
read_head c code class app (Command code' class' app' p) e heads h =
    let outer = and_parts ((code == code') && same_class class class') (option_eq nat_eq app app') h in
    let inner = and_parts (code == code') (same_class class class') outer.0 in
    let same_code = eqb-true code code' inner.0 in
    let same = class_same class class' inner.1 in
    let apps = app_same app app' outer.1 in
    inr (
      record {
        p = p;
        head = e ∙ ap (λ (n : ℕ). Command n class' app' p) (sym same_code) ∙ ap (λ (k : Class). Command code k app' p) (sym same) ∙ ap (λ (o : Option ℕ). Command code class o p) (sym apps);
      },
      λ f. heads (sym same ∙ f),
    )

pub reads : (d : Dictionary) (c : PlainDefinition) (code : ℕ) (class : Class) (app : Option ℕ) → IsDictionary d → IsIn c d.commands → is_command code class app c.head ≡ true → Reads c code class app
reads d c code class app sound i h = read_head c code class app c.head refl (all_of (λ (x : PlainDefinition). IsCommandHead x.head) d.commands c sound.command_heads i) h

pub is_of_code : (c : PlainDefinition) (code : ℕ) (class : Class) (app : Option ℕ) → HasCode c code class app → is_command code class app c.head ≡ true
is_of_code c code class app h = ap (is_command code class app) h.head ∙ and_from ((code == code) && same_class class class) (option_eq nat_eq app app)
    (and_from (code == code) (same_class class class) (eq-eqb code code refl) (same_class_self class)) (same_app_self app)

pub is_of_errors : (c : PlainDefinition) (code : ℕ) (class : Class) (app : Option ℕ) → IsError c → class ≡ classes.Error → is_command code class app c.head ≡ true
is_of_errors c code class app (p, h) e = ap (is_command code class app) h ∙ ap (λ (k : Class). same_class k classes.Error) e

pub no_app_named : (d : Dictionary) (code : ℕ) (class : Class) (app : Option ℕ) → ((x : PlainDefinition) → IsIn x d.commands → is_command code class app x.head ≡ false) → ¬ NamesApp d code class app
no_app_named d code class app none = λ n. let yes_it = is_of_code n.0 code class app n.2 in absurd (let e : true ≡ false = sym yes_it ∙ none n.0 (in_contains d.commands n.0 n.1) in cc)

pub one_command : (d : Dictionary) (c e : PlainDefinition) → IsDictionary d → IsIn c d.commands → IsIn e d.commands → c.name ≡ e.name → c ≡ e
one_command d c e sound i j h =
    let p = at_in d.commands c i in
    let q = at_in d.commands e j in
    let place : p.place ≡ q.place = sound.distinct_commands p.place q.place c e p.at q.at h in
    same_Some c e (sym p.at ∙ ap (λ (n : ℕ). slice_get d.commands n) place ∙ q.at)

pub command_rules : (d : Dictionary) (c : PlainDefinition) → IsDictionary d → IsIn c d.commands → AreRules c.rules
command_rules d c sound i = all_of (λ (x : PlainDefinition). AreRules x.rules) (definitions d) c sound.rules (in_right (groups d) d.commands c i)

-- ---- the command at a place

pub command_at : (d : Dictionary) (i n : ℕ) (x : PlainDefinition) → n ≡ length (groups d) + i → slice_get (definitions d) n ≡ Some x → slice_get d.commands i ≡ Some x
command_at d i n x e at = sym (slice_get-append_right (groups d) d.commands i) ∙ ap (λ (k : ℕ). slice_get (definitions d) k) (sym e) ∙ at
