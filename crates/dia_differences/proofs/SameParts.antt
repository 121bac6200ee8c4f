-- AVPs and commands that have the same fields and rules are the same.
use Rattle.std.proofs.Common.{◌≡◌, ℕ, List, [], Option, Some, None, refl, sym, ap, subst, ◌∙◌, inl, inr}
use Rattle.dia_data.specs.Below.{ValuesBelow}
use Rattle.std.specs.Prelude.{option_and_then, slice_get}
use Rattle.std.specs.Option.{option_map_or}
use Rattle.std.proofs.lemmas.Option.{none-some, same_Some}
use Rattle.dia_wire.specs.declared.Key.{Key}
use Rattle.dia_terms.specs.declared.Pxy.{Pxy}
use Rattle.dia_data.specs.Plain.{PlainFormat, Enumerated}
use Rattle.dia_book.specs.declared.definition.Class.{Class}
use Rattle.dia_book.specs.declared.definition.DRule.{DRule}
use Rattle.dia_book.specs.declared.definition.DefHead.{DefHead}
use Rattle.dia_book.specs.declared.definition.DefHead.TheVariants.{Group, Command, Error}
use Rattle.dia_book.specs.Dictionary.{Dictionary, DictEntry, PlainDefinition, IsCommandHead, IsSameSelector}
use Rattle.dia_differences.specs.declared.owner.Owner.TheVariants as of
use Rattle.dia_differences.specs.Owners.{rules_of}
use Rattle.dia_differences.specs.declared.lines.AvpField.TheVariants as avps
use Rattle.dia_differences.specs.declared.lines.HeadField.TheVariants as heads
use Rattle.dia_differences.specs.Headers.{pxy_of, selector}
use Rattle.dia_differences.specs.Same.{AreSameRules, IsSameAvp, IsSameCommand, IsSameFormat, avp_rules}
use Rattle.dia_differences.specs.Matching.{IsSameField, IsSameHeadField}
use Rattle.dia_differences.proofs.SameThings.{HaveSameFields, HaveSameHeads}
use Rattle.dia_differences.proofs.Paired.{at_both, both_at}

key_same : (k l : Key) → k.code ≡ l.code → k.vendor ≡ l.vendor → k ≡ l
key_same k l code vendor =
    let f : ℕ → Key = λ n. record { code = n; vendor = k.vendor } in
    let g : ℕ → Key = λ n. record { code = l.code; vendor = n } in
    ap f code ∙ ap g vendor

values_own : (v : Option (List (ℕ × ℕ))) → ValuesBelow v v
values_own None = inl refl
values_own (Some v) = inr (refl, λ n h. h)

format_own : (f : PlainFormat) → IsSameFormat f f
format_own (Enumerated v) = (values_own v, values_own v)
format_own f = refl

from_same : (f g : PlainFormat) → f ≡ g → IsSameFormat g f
from_same f g e = let P : PlainFormat → Type 0 = λ h. IsSameFormat h f in subst P e (format_own f)

pub format_sym : (f g : PlainFormat) → IsSameFormat f g → IsSameFormat g f
format_sym (Enumerated v) (Enumerated w) h = (h.1, h.0)
format_sym (Enumerated v) g h = from_same (Enumerated v) g h
format_sym f g h = from_same f g h

pub rules_sym : (xs ys : List DRule) → AreSameRules xs ys → AreSameRules ys xs
rules_sym xs ys h = (h.1, h.0)

pub avp_sym : (x y : DictEntry) → IsSameAvp x y → IsSameAvp y x
avp_sym x y h = record { name = sym h.name; key = sym h.key; format = format_sym x.format y.format h.format; m_rule = sym h.m_rule; rules = rules_sym _ _ h.rules }

pub command_sym : (x y : PlainDefinition) → IsSameCommand x y → IsSameCommand y x
command_sym x y h = record { name = sym h.name; head = sym h.head; rules = rules_sym _ _ h.rules }

rules_at : (d : Dictionary) (i : ℕ) (x : DictEntry) → slice_get d.entries i ≡ Some x → rules_of d (of.Avp i) ≡ avp_rules x
rules_at d i x at = ap (λ (o : Option DictEntry). option_map_or (λ (def : PlainDefinition). def.rules) (option_and_then (λ e. e.group) o) []) at

command_rules_at : (d : Dictionary) (i : ℕ) (x : PlainDefinition) → slice_get d.commands i ≡ Some x → rules_of d (of.Command i) ≡ x.rules
command_rules_at d i x at = ap (λ (o : Option PlainDefinition). option_map_or (λ (def : PlainDefinition). def.rules) o []) at

along : (xs ys us vs : List DRule) → xs ≡ us → ys ≡ vs → AreSameRules xs ys → AreSameRules us vs
along xs ys us vs e f h = subst (λ (ws : List DRule). AreSameRules us ws) f (subst (λ (ws : List DRule). AreSameRules ws ys) e h)

module _ (a b : Dictionary) (i j : ℕ) (x y : DictEntry) (at : slice_get a.entries i ≡ Some x) (there : slice_get b.entries j ≡ Some y) where
  pub avp_key : HaveSameFields a b i j → x.key ≡ y.key
  avp_key f =
      key_same x.key y.key (at_both (IsSameField avps.Code) a.entries b.entries i j x y at there f.code) (at_both (IsSameField avps.Vendor) a.entries b.entries i j x y at there f.vendor)

  pub avp_same : HaveSameFields a b i j → AreSameRules (rules_of a (of.Avp i)) (rules_of b (of.Avp j)) → IsSameAvp x y
  avp_same f rules = record {
    name = at_both (IsSameField avps.Name) a.entries b.entries i j x y at there f.name;
    key = avp_key f;
    format = at_both (IsSameField avps.Format) a.entries b.entries i j x y at there f.format;
    m_rule = at_both (IsSameField avps.MRule) a.entries b.entries i j x y at there f.m_rule;
    rules = along _ _ (avp_rules x) (avp_rules y) (rules_at a i x at) (rules_at b j y there) rules;
  }

  pub avp_fields : IsSameAvp x y → HaveSameFields a b i j
  avp_fields h = record {
    name = both_at (IsSameField avps.Name) a.entries b.entries i j x y at there h.name;
    code = both_at (IsSameField avps.Code) a.entries b.entries i j x y at there (ap (λ (k : Key). k.code) h.key);
    vendor = both_at (IsSameField avps.Vendor) a.entries b.entries i j x y at there (ap (λ (k : Key). k.vendor) h.key);
    format = both_at (IsSameField avps.Format) a.entries b.entries i j x y at there h.format;
    m_rule = both_at (IsSameField avps.MRule) a.entries b.entries i j x y at there h.m_rule;
  }

  pub avp_rules_same : IsSameAvp x y → AreSameRules (rules_of a (of.Avp i)) (rules_of b (of.Avp j))
  avp_rules_same h = along (avp_rules x) (avp_rules y) _ _ (sym (rules_at a i x at)) (sym (rules_at b j y there)) h.rules

head_same : (h g : DefHead) → IsCommandHead h → IsCommandHead g → (selector h).0 ≡ (selector g).0 → (selector h).1 ≡ (selector g).1 → (selector h).2 ≡ (selector g).2 → pxy_of h ≡ pxy_of g → h ≡ g
head_same (Group key) g sound other code class app p = absurd sound
head_same h (Group key) sound other code class app p = absurd other
head_same (Error p) (Error q) sound other code class app pxy = ap (λ (r : Pxy). Error r) pxy
head_same (Error p) (Command c cl ap q) sound other code class app pxy = absurd (none-some c code)
head_same (Command c cl ap q) (Error p) sound other code class app pxy = absurd (none-some c (sym code))
head_same (Command c cl ap p) (Command d dl dp q) sound other code class app pxy = commands c d cl dl ap dp p q (same_Some c d code) class app pxy
  where
    commands : (c d : ℕ) (cl dl : Class) (ap dp : Option ℕ) (p q : Pxy) → c ≡ d → cl ≡ dl → ap ≡ dp → p ≡ q → Command c cl ap p ≡ Command d dl dp q
    commands c d cl dl ap dp p q e f g h = cc

pub selector_same : (h g : DefHead) → IsCommandHead h → h ≡ g → IsSameSelector h g
selector_same h g sound e = subst (IsSameSelector h) e (own h sound)
  where
    own : (h : DefHead) → IsCommandHead h → IsSameSelector h h
    own (Group key) sound = absurd sound
    own (Command c cl ap p) sound = (refl, refl, refl)
    own (Error p) sound = tt

module _ (a b : Dictionary) (i j : ℕ) (x y : PlainDefinition) (at : slice_get a.commands i ≡ Some x) (there : slice_get b.commands j ≡ Some y) where
  pub command_same : IsCommandHead x.head → IsCommandHead y.head → HaveSameHeads a b i j → AreSameRules (rules_of a (of.Command i)) (rules_of b (of.Command j)) → IsSameCommand x y
  command_same sound other f rules = record {
    name = at_both (IsSameHeadField heads.Name) a.commands b.commands i j x y at there f.name;
    head = head_same x.head y.head sound other
        (at_both (IsSameHeadField heads.Code) a.commands b.commands i j x y at there f.code)
        (at_both (IsSameHeadField heads.Class) a.commands b.commands i j x y at there f.class)
        (at_both (IsSameHeadField heads.Application) a.commands b.commands i j x y at there f.app)
        (at_both (IsSameHeadField heads.Proxiable) a.commands b.commands i j x y at there f.p);
    rules = along _ _ x.rules y.rules (command_rules_at a i x at) (command_rules_at b j y there) rules;
  }

  pub command_fields : IsSameCommand x y → HaveSameHeads a b i j
  command_fields h = record {
    name = both_at (IsSameHeadField heads.Name) a.commands b.commands i j x y at there h.name;
    code = both_at (IsSameHeadField heads.Code) a.commands b.commands i j x y at there (ap (λ (g : DefHead). (selector g).0) h.head);
    class = both_at (IsSameHeadField heads.Class) a.commands b.commands i j x y at there (ap (λ (g : DefHead). (selector g).1) h.head);
    app = both_at (IsSameHeadField heads.Application) a.commands b.commands i j x y at there (ap (λ (g : DefHead). (selector g).2) h.head);
    p = both_at (IsSameHeadField heads.Proxiable) a.commands b.commands i j x y at there (ap pxy_of h.head);
  }

  pub command_rules_same : IsSameCommand x y → AreSameRules (rules_of a (of.Command i)) (rules_of b (of.Command j))
  command_rules_same h = along x.rules y.rules _ _ (sym (command_rules_at a i x at)) (sym (command_rules_at b j y there)) h.rules
