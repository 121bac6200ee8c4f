-- The heads of a sound source are distinct, and its rules are those of a dictionary.
use Rattle.std.proofs.Common.{◌≡◌, ◌≢◌, ℕ, ◌≤◌, Bool, true, false, cond, List, [], ◌∷◌, map, Option, Some, None, refl, sym, ap, ◌∙◌, subst, arith}
use Rattle.std.specs.Prelude.{is_some, IfSome, not, ◌==◌, nat_eq, nat_lt, if◌then◌else◌}
use Rattle.std.specs.List.{list_any, list_all}
use Rattle.std.specs.Option.{option_map, option_map_or, option_eq}
use Rattle.dia_wire.specs.declared.Key.{Key}
use Rattle.dia_data.specs.Plain.{Grouped, format_of}
use Rattle.dia_data.proofs.NamedFormats.{name_of-grouped}
use Rattle.dia_terms.specs.declared.FormatName.{FormatName}
use Rattle.dia_terms.specs.declared.FormatName.TheVariants as name
use Rattle.dia_ccf.specs.declared.source.Head.{Head}
use Rattle.dia_ccf.specs.declared.source.Qual.{Qual}
use Rattle.dia_terms.specs.declared.RuleKind.{RuleKind}
use Rattle.dia_terms.specs.declared.RuleKind.TheVariants.{Fixed, Required, Optional}
use Rattle.dia_dict.specs.declared.fault.DictKind.TheVariants as kind
use Rattle.dia_ccf.specs.declared.source.Head.TheVariants as head
use Rattle.dia_terms.specs.Names.{same_bytes}
use Rattle.dia_ccf.specs.Names.{is_group, is_fixed as is_fixed_kind, fixed_first}
use Rattle.dia_ccf.specs.Plain.{PlainSource, PlainDecl, PlainDef, PlainRule}
use Rattle.dia_book.specs.declared.Class.TheVariants as classes
use Rattle.dia_book.specs.declared.DefHead.{DefHead}
use Rattle.dia_book.specs.declared.DefHead.TheVariants.{Group, Command, Error}
use Rattle.dia_book.specs.Dictionary.{DictEntry, IsSameSelector, IsCommandHead, IsLeast, is_fixed}
use Rattle.dia_dict.specs.Resolution.{rule_of, head_of, key_of_decl, group_key}
use Rattle.dia_dict.specs.Resolution.{repeats, same_selector, is_grouped, class_of, is_bad, least, greatest}
use Rattle.std.proofs.lemmas.Bool.{and_from, and_parts, eq-eqb, not-true, or_from, ltb-false, eqb-false}
use Rattle.dia_book.proofs.LookUpsByName.{same_bytes-Decides}
use Rattle.dia_book.proofs.Members.{AreApart, into_map}
use Rattle.dia_dict.proofs.Distinct.{repeats-distinct}
use Rattle.dia_book.specs.Opened.{rest}

pub same_bytes-equal : (a b : List ℕ) → a ≡ b → same_bytes a b ≡ true
same_bytes-equal a b = (same_bytes-Decides a b).1

option_eq-refl : (a : Option ℕ) → option_eq nat_eq a a ≡ true
option_eq-refl None = refl
option_eq-refl (Some n) = eq-eqb n n refl

option_eq-equal : (a b : Option ℕ) → a ≡ b → option_eq nat_eq a b ≡ true
option_eq-equal a b e = subst (λ o. option_eq nat_eq a o ≡ true) e (option_eq-refl a)

pub is_some-map : {X Y : Type 0} (f : X → Y) (o : Option X) → is_some (option_map f o) ≡ is_some o
is_some-map f None = refl
is_some-map f (Some x) = refl

-- ---- headers

pub same_selector-true : (g h : Head) → IsSameSelector (head_of g) (head_of h) → same_selector g h ≡ true
same_selector-true (head.Command c true p a) (head.Command d true q b) e = and_from _ _ (and_from (c == d) true (eq-eqb c d e.0) refl) (option_eq-equal a b e.2)
same_selector-true (head.Command c false p a) (head.Command d false q b) e = and_from _ _ (and_from (c == d) true (eq-eqb c d e.0) refl) (option_eq-equal a b e.2)
same_selector-true (head.Command c true p a) (head.Command d false q b) e = absurd (let x : classes.Request ≡ classes.Answer = e.1 in cc)
same_selector-true (head.Command c false p a) (head.Command d true q b) e = absurd (let x : classes.Answer ≡ classes.Request = e.1 in cc)
same_selector-true (head.Error p) (head.Error q) e = refl
same_selector-true (head.Group c v) h e = absurd e
same_selector-true (head.Command c r p a) (head.Group d w) e = absurd e
same_selector-true (head.Command c r p a) (head.Error q) e = absurd e
same_selector-true (head.Error p) (head.Group d w) e = absurd e
same_selector-true (head.Error p) (head.Command d t q b) e = absurd e

pub IsSameSelector-sym : (g h : DefHead) → IsSameSelector g h → IsSameSelector h g
IsSameSelector-sym (Command c r a p) (Command d t b q) e = (sym e.0, sym e.1, sym e.2)
IsSameSelector-sym (Error p) (Error q) e = e
IsSameSelector-sym (Group k) h e = absurd e
IsSameSelector-sym (Command c r a p) (Group k) e = absurd e
IsSameSelector-sym (Command c r a p) (Error q) e = absurd e
IsSameSelector-sym (Error p) (Group k) e = absurd e
IsSameSelector-sym (Error p) (Command d t b q) e = absurd e

pub head_of-group : (h : Head) → is_group h ≡ true → head_of h ≡ Group (group_key h)
head_of-group (head.Group c v) e = refl
head_of-group (head.Command c r p a) e = absurd (let x : false ≡ true = e in cc)
head_of-group (head.Error p) e = absurd (let x : false ≡ true = e in cc)

class_of-error : (request : Bool) → class_of request ≢ classes.Error
class_of-error true e = cc
class_of-error false e = cc

pub head_of-command : (h : Head) → not (is_group h) ≡ true → IsCommandHead (head_of h)
head_of-command (head.Group c v) e = absurd (let x : false ≡ true = e in cc)
head_of-command (head.Command c r p a) e = class_of-error r
head_of-command (head.Error p) e = tt

named_grouped : (f : FormatName) → is_grouped f ≡ true → f ≡ name.Grouped
named_grouped name.Grouped e = refl
named_grouped f e = absurd cc

pub format_of-grouped : (f : FormatName) (values : Option (List (ℕ × ℕ))) → format_of f values ≡ Grouped → is_grouped f ≡ true
format_of-grouped f values e = ap is_grouped (name_of-grouped f values e)

pub grouped_format : (f : FormatName) (values : Option (List (ℕ × ℕ))) → is_grouped f ≡ true → format_of f values ≡ Grouped
grouped_format f values e = ap (λ (g : FormatName). format_of g values) (named_grouped f e)

-- ---- rules

pub fixed_kind : (s : PlainSource) (r : PlainRule) → is_fixed (rule_of s r) ≡ is_fixed_kind r.kind
fixed_kind s r = by r.kind
  where
    by : (k : RuleKind) → (elim k [ Fixed ↦ true | Required ↦ false | Optional ↦ false ]) ≡ is_fixed_kind k
    by Fixed = refl
    by Required = refl
    by Optional = refl

none_fixed : (s : PlainSource) (rs : List PlainRule) → list_all (λ k. not (is_fixed_kind k)) (map (λ (r : PlainRule). r.kind) rs) ≡ true → list_any is_fixed (map (rule_of s) rs) ≡ false
none_fixed s [] e = refl
none_fixed s (r ∷ rs) e =
    let parts = and_parts (not (is_fixed_kind r.kind)) (list_all (λ k. not (is_fixed_kind k)) (map (λ (x : PlainRule). x.kind) rs)) e in
    or_from (is_fixed (rule_of s r)) _ (fixed_kind s r ∙ not-true _ parts.0) (none_fixed s rs parts.1)

fixed_rest_by : (s : PlainSource) (r : PlainRule) (rs : List PlainRule) (b : Bool) → is_fixed_kind r.kind ≡ b
    → (if b then fixed_first (map (λ (x : PlainRule). x.kind) rs) else list_all (λ k. not (is_fixed_kind k)) (map (λ (x : PlainRule). x.kind) rs)) ≡ true
    → (fixed_first (map (λ (x : PlainRule). x.kind) rs) ≡ true → list_any is_fixed (rest is_fixed (map (rule_of s) rs)) ≡ false)
    → list_any is_fixed (rest is_fixed (rule_of s r ∷ map (rule_of s) rs)) ≡ false
fixed_rest_by s r rs true here e later = ap (λ b. list_any is_fixed (cond b (rest is_fixed (map (rule_of s) rs)) (rule_of s r ∷ map (rule_of s) rs))) (fixed_kind s r ∙ here) ∙ later e
fixed_rest_by s r rs false here e later =
    ap (λ b. list_any is_fixed (cond b (rest is_fixed (map (rule_of s) rs)) (rule_of s r ∷ map (rule_of s) rs))) (fixed_kind s r ∙ here)
    ∙ or_from (is_fixed (rule_of s r)) _ (fixed_kind s r ∙ here) (none_fixed s rs e)

pub fixed_rest : (s : PlainSource) (rs : List PlainRule) → fixed_first (map (λ (r : PlainRule). r.kind) rs) ≡ true → list_any is_fixed (rest is_fixed (map (rule_of s) rs)) ≡ false
fixed_rest s [] e = refl
fixed_rest s (r ∷ rs) e = fixed_rest_by s r rs (is_fixed_kind r.kind) refl e (fixed_rest s rs)

pub bounded_rule : (s : PlainSource) (r : PlainRule) → is_bad kind.MinOverMax s r ≡ false → IfSome (rule_of s r).max (λ max. (rule_of s r).min ≤ max)
bounded_rule s r fine = by (greatest r.qual) refl
  where
    by : (o : Option ℕ) → greatest r.qual ≡ o → IfSome o (λ max. least r.kind r.qual ≤ max)
    by None here = tt
    by (Some max) here = ltb-false max (least r.kind r.qual) (ap (λ (m : Option ℕ). option_map_or (λ n. nat_lt n (least r.kind r.qual)) m false) (sym here) ∙ fine)

pub least_rule : (s : PlainSource) (r : PlainRule) → is_bad kind.RequiredMin s r ≡ false → is_bad kind.OptionalMin s r ≡ false → IsLeast r.kind (least r.kind r.qual)
least_rule s r required optional = by r.kind r.qual required optional
  where
    by : (k : RuleKind) (q : Option Qual) → (elim k [ Fixed ↦ false | Required ↦ least Required q == 0 | Optional ↦ false ]) ≡ false
        → (elim k [ Fixed ↦ false | Required ↦ false | Optional ↦ nat_lt 0 (least Optional q) ]) ≡ false → IsLeast k (least k q)
    by Fixed q e f = tt
    by Required q e f = let p = eqb-false (least Required q) 0 e in omega arith
    by Optional q e f = let p = ltb-false 0 (least Optional q) f in omega arith

-- distinct names distinguish members
pub apart_by_name : {X : Type 0} (name : X → List ℕ) (xs : List X) → repeats same_bytes [] (map name xs) ≡ [] → AreApart name xs
apart_by_name name xs none i j x y at at' same =
    repeats-distinct same_bytes (map name xs) none i j (name x) (name y) (into_map name xs i x at) (into_map name xs j y at')
    (same_bytes-equal (name x) (name y) same) (same_bytes-equal (name y) (name x) (sym same))

abbrev pub name_and_key : DictEntry → List ℕ × Key
name_and_key x = (x.name, x.key)

abbrev pub decl_name : PlainDecl → List ℕ × Key
decl_name d = (d.name, key_of_decl d)

abbrev pub bare_name : PlainDef → List ℕ × Key
bare_name g = (g.name, group_key g.head)
