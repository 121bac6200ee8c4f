-- The test of a pair of commands, decided.
use Rattle.std.proofs.Common.{◌≡◌, ◌≢◌, ℕ, true, false, List, Option, Some, None, refl, sym, ap, subst, ◌∙◌, arith, inl, inr, Decides}
use Rattle.std.specs.Prelude.{◌||◌, ◌&&◌, ◌==◌, not, nat_eq, Contains}
use Rattle.std.specs.List.{list_any, list_all}
use Rattle.std.specs.Option.{option_eq}
use Rattle.std.specs.Str.{bytes_eq}
use Rattle.std.proofs.lemmas.Bool.{and_parts, and_from, eqb-true, eq-eqb}
use Rattle.std.proofs.lemmas.Bool.Decides.{Decides-and, Decides-not, Decides-like, Decides-eqb, Decides-at}
use Rattle.std.proofs.lemmas.Option.{none-some, same_Some}
use Rattle.std.proofs.lemmas.Slice.Eq.{bytes_eq-Decides}
use Rattle.dia_book.specs.declared.Class.{Class}
use Rattle.dia_book.specs.declared.Class.TheVariants as classes
use Rattle.dia_book.specs.declared.Pxy.{Pxy}
use Rattle.dia_book.specs.declared.Pxy.TheVariants.{Clear, Set, Either}
use Rattle.dia_book.specs.declared.DefHead.{DefHead}
use Rattle.dia_book.specs.declared.DefHead.TheVariants.{Group, Command, Error}
use Rattle.dia_book.specs.Dictionary.{Dictionary, PlainDefinition, IsDictionary, IsCommandHead, is_command, same_class}
use Rattle.dia_valid.specs.Valid.{AllowsP, PHolds, HasP}
use Rattle.dia_compat.specs.Sides.{Sides}
use Rattle.dia_compat.specs.TableText.{PlainTable}
use Rattle.dia_compat.specs.Closed.{HasCode, IsError, IsBeside, NamesApp, IsWanted, error, same_app, no_app, both_none, other_app, IsServed, SameCodeAndClass, CommandPair}
use Rattle.dia_compat.specs.PairTests.{NamePair, is_pair, names_app, wants_app, is_wanted, serves, serves_app, same_code_and_class, p_of, p_within, is_proxiable, is_selected}
use Rattle.dia_valid.proofs.Members.{IsIn, in_contains, contains_in, any_in, in_any, all_of}
use Rattle.dia_compat.proofs.DecidedTests.{all_in_decides, implied}

-- ---- classes, applications and heads

class_decides : (a b : Class) → Decides (same_class a b) (a ≡ b)
class_decides classes.Request classes.Request = (λ e. refl, λ h. refl)
class_decides classes.Answer classes.Answer = (λ e. refl, λ h. refl)
class_decides classes.Error classes.Error = (λ e. refl, λ h. refl)
class_decides classes.Request classes.Answer = (λ e. absurd (let f : false ≡ true = e in cc), λ h. absurd cc)
class_decides classes.Request classes.Error = (λ e. absurd (let f : false ≡ true = e in cc), λ h. absurd cc)
class_decides classes.Answer classes.Request = (λ e. absurd (let f : false ≡ true = e in cc), λ h. absurd cc)
class_decides classes.Answer classes.Error = (λ e. absurd (let f : false ≡ true = e in cc), λ h. absurd cc)
class_decides classes.Error classes.Request = (λ e. absurd (let f : false ≡ true = e in cc), λ h. absurd cc)
class_decides classes.Error classes.Answer = (λ e. absurd (let f : false ≡ true = e in cc), λ h. absurd cc)

app_decides : (a b : Option ℕ) → Decides (option_eq nat_eq a b) (a ≡ b)
app_decides None None = (λ e. refl, λ h. refl)
app_decides None (Some n) = (λ e. absurd (let f : false ≡ true = e in cc), λ h. absurd (none-some n h))
app_decides (Some m) None = (λ e. absurd (let f : false ≡ true = e in cc), λ h. absurd (none-some m (sym h)))
app_decides (Some m) (Some n) = Decides-like (nat_eq m n) (λ e. ap (λ (k : ℕ). Some k) e) (λ h. same_Some m n h) (Decides-eqb m n)

-- what commands are for, as parts
pub record IsFor (code : ℕ) (class : Class) (app : Option ℕ) (other : ℕ) (other_class : Class) (own : Option ℕ) : Type 0 where
  pub codes : code ≡ other
  pub sorts : class ≡ other_class
  pub apps : app ≡ own

of_head : (c : PlainDefinition) (code own : ℕ) (class kind : Class) (app app' : Option ℕ) (p : Pxy) → c.head ≡ Command own kind app' p → HasCode c code class app → IsFor code class app own kind app'
of_head c code own class kind app app' p e h = let f : Command code class app h.p ≡ Command own kind app' p = sym h.head ∙ e in record { codes = cc; sorts = cc; apps = cc }

no_code : (c : PlainDefinition) (code : ℕ) (class : Class) (app : Option ℕ) (p : Pxy) → c.head ≡ Error p → HasCode c code class app → ⊥
no_code c code class app p e h = let f : Command code class app h.p ≡ Error p = sym h.head ∙ e in cc

no_error : (c : PlainDefinition) (code : ℕ) (class : Class) (app : Option ℕ) (p : Pxy) → c.head ≡ Command code class app p → IsError c → ⊥
no_error c code class app p e h = let f : Error h.0 ≡ Command code class app p = sym h.1 ∙ e in cc

-- ---- the selector

code_and_class_decide : (c d : PlainDefinition) (x y : DefHead) → c.head ≡ x → d.head ≡ y → IsCommandHead x → IsCommandHead y → Decides (same_code_and_class x y) (SameCodeAndClass c d)
code_and_class_decide c d (Group k) y e f i j = absurd i
code_and_class_decide c d x (Group k) e f i j = absurd j
code_and_class_decide c d (Error p) (Error q) e f i j = (λ g. inl ((p, e), (q, f)), λ h. refl)
code_and_class_decide c d (Error p) (Command code class app q) e f i j = (λ g. absurd (let h : false ≡ true = g in cc), wrong)
  where
    wrong : SameCodeAndClass c d → same_code_and_class (Error p) (Command code class app q) ≡ true
    wrong (inl h) = absurd (no_error d code class app q f h.1)
    wrong (inr (n, cl, a, b, h, k)) = absurd (no_code c n cl a p e h)
code_and_class_decide c d (Command code class app p) (Error q) e f i j = (λ g. absurd (let h : false ≡ true = g in cc), wrong)
  where
    wrong : SameCodeAndClass c d → same_code_and_class (Command code class app p) (Error q) ≡ true
    wrong (inl h) = absurd (no_error c code class app p e h.0)
    wrong (inr (n, cl, a, b, h, k)) = absurd (no_code d n cl b q f k)
code_and_class_decide c d (Command code class app p) (Command own kind app' q) e f i j = (right, back)
  where
    right : ((code == own) && same_class class kind) ≡ true → SameCodeAndClass c d
    right g =
        let s = and_parts (code == own) (same_class class kind) g in
        let codes : code ≡ own = eqb-true code own s.0 in
        let sorts : class ≡ kind = (class_decides class kind).0 s.1 in
        inr (
          code,
          class,
          app,
          app',
          record { p = p; head = e },
          record { p = q; head = f ∙ ap (λ (n : ℕ). Command n kind app' q) (sym codes) ∙ ap (λ (k : Class). Command code k app' q) (sym sorts) },
        )

    back : SameCodeAndClass c d → ((code == own) && same_class class kind) ≡ true
    back (inl h) = absurd (no_error c code class app p e h.0)
    back (inr (n, cl, a, b, h, k)) =
        let s = of_head c n code cl class a app p e h in
        let t = of_head d n own cl kind b app' q f k in
        and_from (code == own) (same_class class kind) (eq-eqb code own (sym s.codes ∙ t.codes)) ((class_decides class kind).1 (sym s.sorts ∙ t.sorts))

-- ---- P

allows : (h : DefHead) (p : Pxy) → p_of h ≡ Some p → (flags : ℕ) → (AllowsP h flags → PHolds p flags) × (PHolds p flags → AllowsP h flags)
allows (Group k) p e flags = absurd (none-some p e)
allows (Command code class app q) p e flags = let s = same_Some q p e in (λ h. subst (λ (r : Pxy). PHolds r flags) s h, λ h. subst (λ (r : Pxy). PHolds r flags) (sym s) h)
allows (Error q) p e flags = let s = same_Some q p e in (λ h. subst (λ (r : Pxy). PHolds r flags) s h, λ h. subst (λ (r : Pxy). PHolds r flags) (sym s) h)

pub no_p : ¬ HasP 0
no_p h = h refl

pub with_p : HasP 64
with_p e = absurd (let f : 64 ≡ 0 = e in omega (arith, f))

p_decides : (p q : Pxy) → Decides (p_within p q) ((flags : ℕ) → PHolds p flags → PHolds q flags)
p_decides Clear Clear = (λ e flags h. h, λ h. refl)
p_decides Set Set = (λ e flags h. h, λ h. refl)
p_decides Clear Either = (λ e flags h. tt, λ h. refl)
p_decides Set Either = (λ e flags h. tt, λ h. refl)
p_decides Either Either = (λ e flags h. tt, λ h. refl)
p_decides Clear Set = (λ e. absurd (let f : false ≡ true = e in cc), λ h. absurd (no_p (h 0 no_p)))
p_decides Set Clear = (λ e. absurd (let f : false ≡ true = e in cc), λ h. absurd (h 64 with_p with_p))
p_decides Either Clear = (λ e. absurd (let f : false ≡ true = e in cc), λ h. absurd (h 64 tt with_p))
p_decides Either Set = (λ e. absurd (let f : false ≡ true = e in cc), λ h. absurd (no_p (h 0 tt)))

p_there : (h : DefHead) → IsCommandHead h → (p : Pxy) × (p_of h ≡ Some p)
p_there (Group k) i = absurd i
p_there (Command code class app p) i = (p, refl)
p_there (Error p) i = (p, refl)

proxiable_decides : (x y : DefHead) → IsCommandHead x → IsCommandHead y → Decides (is_proxiable x y) ((flags : ℕ) → AllowsP x flags → AllowsP y flags)
proxiable_decides x y i j =
    let p = p_there x i in
    let q = p_there y j in
    Decides-at (is_proxiable x y) (p_within p.0 q.0) (rw (p.1, q.1) refl)
    (Decides-like (p_within p.0 q.0) (λ h flags a. (allows y q.0 q.1 flags).1 (h flags ((allows x p.0 p.1 flags).0 a)))
    (λ h flags a. (allows y q.0 q.1 flags).0 (h flags ((allows x p.0 p.1 flags).1 a)))
    (p_decides p.0 q.0))

-- ---- what is selected

class_of_head : (d : Dictionary) (c : PlainDefinition) (code : ℕ) (class : Class) (app : Option ℕ) (p : Pxy) → IsDictionary d → IsIn c d.commands → c.head ≡ Command code class app p
    → class ≢ classes.Error
class_of_head d c code class app p sound i e = subst IsCommandHead e (all_of (λ (x : PlainDefinition). IsCommandHead x.head) d.commands c sound.command_heads i)

-- a command of this code, this class and this application, or none
is_one : (c : PlainDefinition) (x : DefHead) (code : ℕ) (class : Class) (app : Option ℕ) → c.head ≡ x → class ≢ classes.Error → Decides (is_command code class app x) (HasCode c code class app)
is_one c (Group k) code class app e other = (λ g. absurd (let f : false ≡ true = g in cc), λ h. absurd (let f : Group k ≡ Command code class app h.p = sym e ∙ h.head in cc))
is_one c (Error p) code class app e other = (λ g. absurd (other ((class_decides class classes.Error).0 g)), λ h. absurd (no_code c code class app p e h))
is_one c (Command own kind app' p) code class app e other = (right, back)
  where
    right : ((code == own) && same_class class kind && option_eq nat_eq app app') ≡ true → HasCode c code class app
    right g =
        let s = and_parts ((code == own) && same_class class kind) (option_eq nat_eq app app') g in
        let t = and_parts (code == own) (same_class class kind) s.0 in
        let codes : code ≡ own = eqb-true code own t.0 in
        let sorts : class ≡ kind = (class_decides class kind).0 t.1 in
        let apps : app ≡ app' = (app_decides app app').0 s.1 in
        record {
          p = p;
          head = e ∙ ap (λ (n : ℕ). Command n kind app' p) (sym codes) ∙ ap (λ (k : Class). Command code k app' p) (sym sorts)
              ∙ ap (λ (a : Option ℕ). Command code class a p) (sym apps);
        }

    back : HasCode c code class app → ((code == own) && same_class class kind && option_eq nat_eq app app') ≡ true
    back h =
        let s = of_head c code own class kind app app' p e h in
        and_from ((code == own) && same_class class kind) (option_eq nat_eq app app')
        (and_from (code == own) (same_class class kind) (eq-eqb code own s.codes) ((class_decides class kind).1 s.sorts)) ((app_decides app app').1 s.apps)

-- some command is
some_one : (d : Dictionary) (code : ℕ) (class : Class) (app : Option ℕ) → class ≢ classes.Error → Decides (list_any (λ c. is_command code class app c.head) d.commands) (NamesApp d code class app)
some_one d code class app other = (
  λ g. let r = any_in (λ (c : PlainDefinition). is_command code class app c.head) d.commands g in (r.0, contains_in d.commands r.0 r.1, (is_one r.0 r.0.head code class app refl other).0 r.2),
  λ h. in_any (λ (c : PlainDefinition). is_command code class app c.head) d.commands h.0 (in_contains d.commands h.0 h.1) ((is_one h.0 h.0.head code class app refl other).1 h.2),
)

-- ---- what is wanted

pub wanted_in : (da db : Dictionary) (c d : PlainDefinition) → IsWanted da db c d → Contains db.commands d
wanted_in da db c d (error i x y) = i
wanted_in da db c d (same_app code app class i x y) = i
wanted_in da db c d (no_app code app class i x y z) = i
wanted_in da db c d (both_none code class i x y) = i
wanted_in da db c d (other_app code app class i x y z) = i

module _ (sides : Sides) (sa : IsDictionary sides.first) (sb : IsDictionary sides.second) where
  -- a definition of an application, by the parts that two heads share
  fits_apps : (code own : ℕ) (class kind : Class) (app app' a a' : Option ℕ) (n : ℕ) (cl : Class) → IsFor n cl a code class app → IsFor n cl a' own kind app' → wants_app sides n cl a a' ≡ true
      → ((code == own) && same_class class kind && wants_app sides code class app app') ≡ true
  fits_apps code own class kind app app' a a' n cl s t w =
      and_from ((code == own) && same_class class kind) (wants_app sides code class app app')
      (and_from (code == own) (same_class class kind) (eq-eqb code own (sym s.codes ∙ t.codes)) ((class_decides class kind).1 (sym s.sorts ∙ t.sorts)))
      (subst (λ (m : ℕ). wants_app sides m class app app' ≡ true) s.codes
      (subst (λ (k : Class). wants_app sides n k app app' ≡ true) s.sorts
      (subst (λ (z : Option ℕ). wants_app sides n cl z app' ≡ true) s.apps (subst (λ (z : Option ℕ). wants_app sides n cl a z ≡ true) t.apps w))))

  not_named : (d : Dictionary) (n : ℕ) (cl : Class) (a : ℕ) → cl ≢ classes.Error → (¬ NamesApp d n cl (Some a)) → not (names_app d n cl a) ≡ true
  not_named d n cl a ne none = (Decides-not (names_app d n cl a) (some_one d n cl (Some a) ne)).1 none

  wanted_right : (c d : PlainDefinition) (code : ℕ) (class : Class) (app app' : Option ℕ) → Contains sides.second.commands d → class ≢ classes.Error → HasCode c code class app
      → HasCode d code class app' → wants_app sides code class app app' ≡ true → IsWanted sides.first sides.second c d
  wanted_right c d code class None None i ne h k w = both_none code class i h k
  wanted_right c d code class None (Some a) i ne h k w = other_app code a class i h k ((Decides-not (names_app sides.first code class a) (some_one sides.first code class (Some a) ne)).0 w)
  wanted_right c d code class (Some a) None i ne h k w = no_app code a class i h k ((Decides-not (names_app sides.second code class a) (some_one sides.second code class (Some a) ne)).0 w)
  wanted_right c d code class (Some a) (Some b) i ne h k w = same_app code a class i h (subst (λ (n : ℕ). HasCode d code class (Some n)) (sym (eqb-true a b w)) k)

  wanted_decides : (c d : PlainDefinition) (x y : DefHead) → c.head ≡ x → d.head ≡ y → IsIn c sides.first.commands → IsIn d sides.second.commands → Decides (is_wanted sides x y) (IsWanted sides.first sides.second c d)
  wanted_decides c d (Group k) y e f i j = (
    λ g. absurd (let h : false ≡ true = g in cc),
    λ w. absurd
        (subst IsCommandHead e (all_of (λ (z : PlainDefinition). IsCommandHead z.head) sides.first.commands c sa.command_heads i)),
  )
  wanted_decides c d (Error p) (Group k) e f i j = (
    λ g. absurd (let h : false ≡ true = g in cc),
    λ w. absurd
        (subst IsCommandHead f (all_of (λ (z : PlainDefinition). IsCommandHead z.head) sides.second.commands d sb.command_heads j)),
  )
  wanted_decides c d (Command code class app p) (Group k) e f i j = (
    λ g. absurd (let h : false ≡ true = g in cc),
    λ w. absurd
        (subst IsCommandHead f (all_of (λ (z : PlainDefinition). IsCommandHead z.head) sides.second.commands d sb.command_heads j)),
  )
  wanted_decides c d (Error p) (Error q) e f i j = (λ g. error (contains_in sides.second.commands d j) (p, e) (q, f), λ w. refl)
  wanted_decides c d (Error p) (Command code class app q) e f i j = (λ g. absurd (let h : false ≡ true = g in cc), wrong)
    where
      wrong : IsWanted sides.first sides.second c d → is_wanted sides (Error p) (Command code class app q) ≡ true
      wrong (error m h k) = absurd (no_error d code class app q f k)
      wrong (same_app n a cl m h k) = absurd (no_code c n cl (Some a) p e h)
      wrong (no_app n a cl m h k none) = absurd (no_code c n cl (Some a) p e h)
      wrong (both_none n cl m h k) = absurd (no_code c n cl None p e h)
      wrong (other_app n a cl m h k none) = absurd (no_code c n cl None p e h)
  wanted_decides c d (Command code class app p) (Error q) e f i j = (λ g. absurd (let h : false ≡ true = g in cc), wrong)
    where
      wrong : IsWanted sides.first sides.second c d → is_wanted sides (Command code class app p) (Error q) ≡ true
      wrong (error m h k) = absurd (no_error c code class app p e h)
      wrong (same_app n a cl m h k) = absurd (no_code d n cl (Some a) q f k)
      wrong (no_app n a cl m h k none) = absurd (no_code d n cl None q f k)
      wrong (both_none n cl m h k) = absurd (no_code d n cl None q f k)
      wrong (other_app n a cl m h k none) = absurd (no_code d n cl (Some a) q f k)
  wanted_decides c d (Command code class app p) (Command own kind app' q) e f i j = (right, back)
    where
      right : ((code == own) && same_class class kind && wants_app sides code class app app') ≡ true → IsWanted sides.first sides.second c d
      right g =
          let s = and_parts ((code == own) && same_class class kind) (wants_app sides code class app app') g in
          let t = and_parts (code == own) (same_class class kind) s.0 in
          let codes : code ≡ own = eqb-true code own t.0 in
          let sorts : class ≡ kind = (class_decides class kind).0 t.1 in
          wanted_right c d code class app app' (contains_in sides.second.commands d j) (class_of_head sides.first c code class app p sa i e) (record { p = p; head = e })
          (record { p = q; head = f ∙ ap (λ (n : ℕ). Command n kind app' q) (sym codes) ∙ ap (λ (k : Class). Command code k app' q) (sym sorts) }) s.1

      sort_of : (n : ℕ) (cl : Class) (a : Option ℕ) → HasCode c n cl a → cl ≢ classes.Error
      sort_of n cl a h = class_of_head sides.first c n cl a h.p sa i h.head

      back : IsWanted sides.first sides.second c d → ((code == own) && same_class class kind && wants_app sides code class app app') ≡ true
      back (error m h k) = absurd (no_error c code class app p e h)
      back (same_app n a cl m h k) = fits_apps code own class kind app app' (Some a) (Some a) n cl (of_head c n code cl class (Some a) app p e h)
          (of_head d n own cl kind (Some a) app' q f k) (eq-eqb a a refl)
      back (no_app n a cl m h k none) =
          fits_apps code own class kind app app' (Some a) None n cl (of_head c n code cl class (Some a) app p e h) (of_head d n own cl kind None app' q f k)
          (not_named sides.second n cl a (sort_of n cl (Some a) h) none)
      back (both_none n cl m h k) = fits_apps code own class kind app app' None None n cl (of_head c n code cl class None app p e h) (of_head d n own cl kind None app' q f k) refl
      back (other_app n a cl m h k none) =
          fits_apps code own class kind app app' None (Some a) n cl (of_head c n code cl class None app p e h) (of_head d n own cl kind (Some a) app' q f k)
          (not_named sides.first n cl a (sort_of n cl None h) none)

  -- ---- what is served

  served_app : (code : ℕ) (class : Class) (app other : Option ℕ) (d : PlainDefinition) → Contains sides.second.commands d → HasCode d code class other → (p : Pxy) → serves_app app other ≡ true
      → (c : PlainDefinition) → IsServed sides.first sides.second c (Command code class app p)
  served_app code class None None d i h p s c = (d, i, h)
  served_app code class (Some a) None d i h p s c = inr (d, i, h)
  served_app code class None (Some b) d i h p s c = absurd (let f : false ≡ true = s in cc)
  served_app code class (Some a) (Some b) d i h p s c = inl (d, i, subst (λ (n : ℕ). HasCode d code class (Some n)) (sym (eqb-true a b s)) h)

  served_by : (c d : PlainDefinition) (x y : DefHead) → d.head ≡ y → IsIn d sides.second.commands → serves x y ≡ true → IsServed sides.first sides.second c x
  served_by c d (Group k) y f j g = absurd (let h : false ≡ true = g in cc)
  served_by c d (Error p) (Group k) f j g = absurd (let h : false ≡ true = g in cc)
  served_by c d (Error p) (Command code class app q) f j g = absurd (let h : false ≡ true = g in cc)
  served_by c d (Error p) (Error q) f j g = (d, contains_in sides.second.commands d j, (q, f))
  served_by c d (Command code class app p) (Group k) f j g = absurd (let h : false ≡ true = g in cc)
  served_by c d (Command code class app p) (Error q) f j g = absurd (let h : false ≡ true = g in cc)
  served_by c d (Command code class app p) (Command own kind app' q) f j g =
      let s = and_parts ((code == own) && same_class class kind) (serves_app app app') g in
      let t = and_parts (code == own) (same_class class kind) s.0 in
      let codes : code ≡ own = eqb-true code own t.0 in
      let sorts : class ≡ kind = (class_decides class kind).0 t.1 in
      served_app code class app app' d (contains_in sides.second.commands d j)
      (record { p = q; head = f ∙ ap (λ (n : ℕ). Command n kind app' q) (sym codes) ∙ ap (λ (k : Class). Command code k app' q) (sym sorts) }) p s.1 c

  serves_one : (code : ℕ) (class : Class) (app other : Option ℕ) (p : Pxy) (d : PlainDefinition) → HasCode d code class other → serves_app app other ≡ true
      → serves (Command code class app p) d.head ≡ true
  serves_one code class app other p d h s =
      subst (λ (y : DefHead). serves (Command code class app p) y ≡ true) (sym h.head)
      (and_from ((code == code) && same_class class class) (serves_app app other) (and_from (code == code) (same_class class class) (eq-eqb code code refl) ((class_decides class class).1 refl)) s)

  served_decides : (c : PlainDefinition) (x : DefHead) → Decides (list_any (λ d. serves x d.head) sides.second.commands) (IsServed sides.first sides.second c x)
  served_decides c x = (right, back x)
    where
      right : list_any (λ d. serves x d.head) sides.second.commands ≡ true → IsServed sides.first sides.second c x
      right g = let r = any_in (λ (d : PlainDefinition). serves x d.head) sides.second.commands g in served_by c r.0 x r.0.head refl r.1 r.2

      found : (y : DefHead) (d : PlainDefinition) → Contains sides.second.commands d → serves y d.head ≡ true → list_any (λ (z : PlainDefinition). serves y z.head) sides.second.commands ≡ true
      found y d i s = in_any (λ (z : PlainDefinition). serves y z.head) sides.second.commands d (in_contains sides.second.commands d i) s

      back : (y : DefHead) → IsServed sides.first sides.second c y → list_any (λ (z : PlainDefinition). serves y z.head) sides.second.commands ≡ true
      back (Group k) h = absurd h
      back (Error p) h = found (Error p) h.0 h.1 (subst (λ (y : DefHead). serves (Error p) y ≡ true) (sym h.2.1) refl)
      back (Command code class None p) h = found (Command code class None p) h.0 h.1 (serves_one code class None None p h.0 h.2 refl)
      back (Command code class (Some a) p) (inl h) = found (Command code class (Some a) p) h.0 h.1 (serves_one code class (Some a) (Some a) p h.0 h.2 (eq-eqb a a refl))
      back (Command code class (Some a) p) (inr h) = found (Command code class (Some a) p) h.0 h.1 (serves_one code class (Some a) None p h.0 h.2 refl)

  -- ---- what is paired

  module _ (table : PlainTable) (pairs : List NamePair) (beside : (a b : List ℕ) → list_any (is_pair a b) pairs ≡ list_any (is_pair a b) table.commands) where
    beside_decides : (c d : PlainDefinition) → Decides (list_any (is_pair c.name d.name) pairs) (IsBeside table c d)
    beside_decides c d = (right, back)
      where
        right : list_any (is_pair c.name d.name) pairs ≡ true → IsBeside table c d
        right g =
            let r = any_in (is_pair c.name d.name) table.commands (sym (beside c.name d.name) ∙ g) in
            let s = and_parts (bytes_eq c.name r.0.0) (bytes_eq d.name r.0.1) r.2 in
            let first : c.name ≡ r.0.0 = (bytes_eq-Decides c.name r.0.0).0 s.0 in
            let second : d.name ≡ r.0.1 = (bytes_eq-Decides d.name r.0.1).0 s.1 in
            subst (λ (z : List ℕ). Contains table.commands (z, d.name)) (sym first) (subst (λ (z : List ℕ). Contains table.commands (r.0.0, z)) (sym second) (contains_in table.commands r.0 r.1))

        back : IsBeside table c d → list_any (is_pair c.name d.name) pairs ≡ true
        back h = beside c.name d.name ∙ in_any (is_pair c.name d.name) table.commands (c.name, d.name) (in_contains table.commands (c.name, d.name) h)
            (and_from (bytes_eq c.name c.name) (bytes_eq d.name d.name) ((bytes_eq-Decides c.name c.name).1 refl) ((bytes_eq-Decides d.name d.name).1 refl))

    selection_decides : (c : PlainDefinition) → IsIn c sides.first.commands
        → Decides (list_all (λ d. not (is_wanted sides c.head d.head) || list_any (is_pair c.name d.name) pairs) sides.second.commands) ((e : PlainDefinition) → IsWanted sides.first sides.second c e → IsBeside table c e)
    selection_decides c i =
        Decides-like (list_all (λ d. not (is_wanted sides c.head d.head) || list_any (is_pair c.name d.name) pairs) sides.second.commands)
        (λ h e w. h e (in_contains sides.second.commands e (wanted_in sides.first sides.second c e w)) w) (λ h e j w. h e w)
        (all_in_decides (λ d. not (is_wanted sides c.head d.head) || list_any (is_pair c.name d.name) pairs) (λ d. IsWanted sides.first sides.second c d → IsBeside table c d) sides.second.commands
        (λ d j. implied (is_wanted sides c.head d.head) (list_any (is_pair c.name d.name) pairs) (wanted_decides c d c.head d.head refl refl i j) (beside_decides c d)))

    pub command_pair_decides : (c d : PlainDefinition) → IsIn c sides.first.commands → IsIn d sides.second.commands → Decides (same_code_and_class c.head d.head && is_proxiable c.head d.head && is_selected sides pairs c) (CommandPair sides.first sides.second table c d)
    command_pair_decides c d i j =
        let x = all_of (λ (z : PlainDefinition). IsCommandHead z.head) sides.first.commands c sa.command_heads i in
        let y = all_of (λ (z : PlainDefinition). IsCommandHead z.head) sides.second.commands d sb.command_heads j in
        Decides-like (same_code_and_class c.head d.head && is_proxiable c.head d.head && is_selected sides pairs c) (λ h. record { same = h.0.0; proxiable = h.0.1; served = h.1.0; selection = h.1.1 }) (λ h. ((h.same, h.proxiable), (h.served, h.selection)))
        (Decides-and (same_code_and_class c.head d.head && is_proxiable c.head d.head) (is_selected sides pairs c)
        (Decides-and (same_code_and_class c.head d.head) (is_proxiable c.head d.head) (code_and_class_decide c d c.head d.head refl refl x y) (proxiable_decides c.head d.head x y))
        (Decides-and (list_any (λ e. serves c.head e.head) sides.second.commands) (list_all (λ e. not (is_wanted sides c.head e.head) || list_any (is_pair c.name e.name) pairs) sides.second.commands)
        (served_decides c c.head) (selection_decides c i)))
