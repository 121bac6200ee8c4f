-- Worked texts, computed: AVPs X, Y and G of a request T, of its only level or of levels of G in it.
use Rattle.std.proofs.Common.{◌≡◌, ℕ, Bool, true, false, List, [], ◌∷◌, Option, Some, None, refl}
use Rattle.std.specs.Prelude.{◌==◌, ◌&&◌, nat_lt, codes, if◌then◌else◌}
use Rattle.dia_terms.specs.declared.MRule.{MRule}
use Rattle.dia_terms.specs.declared.MRule.TheVariants as m_rule
use Rattle.dia_terms.specs.declared.Pxy.TheVariants.{Set, Either}
use Rattle.dia_terms.specs.declared.FormatName.TheVariants as format
use Rattle.dia_terms.specs.declared.RuleKind.{RuleKind}
use Rattle.dia_terms.specs.declared.RuleKind.TheVariants.{Fixed, Required, Optional}
use Rattle.dia_ccf.specs.declared.Head.TheVariants as head
use Rattle.dia_ccf.specs.declared.Qual.{Qual}
use Rattle.dia_ccf.specs.Plain.{PlainDecl, PlainDef, PlainRule, PlainSource}
use Rattle.dia_dict.specs.Resolution.{resolved}
use Rattle.dia_learn.specs.Facts.{PlainFacts}
use Rattle.dia_learn.specs.Learnt.{learnt_source}

abbrev decl : List ℕ → ℕ → MRule → PlainDecl
decl name code rule = record { name = name; code = code; vendor = 0; format = format.Unsigned32; values = None; rule = rule }

abbrev group_decl : MRule → PlainDecl
group_decl rule = record { name = codes "G"; code = 9100; vendor = 0; format = format.Grouped; values = None; rule = rule }

abbrev rule : RuleKind → List ℕ → Option Qual → PlainRule
rule kind name qual = record { kind = kind; name = Some name; qual = qual }

abbrev wildcard : RuleKind → Option Qual → PlainRule
wildcard kind qual = record { kind = kind; name = None; qual = qual }

abbrev from : Option ℕ → Option ℕ → Option Qual
from min max = Some (record { min = min; max = max })

abbrev request : Option ℕ → List PlainRule → PlainDef
request app rules = record { name = codes "T"; head = head.Command 302 true false app; rules = rules }

abbrev group : List PlainRule → PlainDef
group rules = record { name = codes "G"; head = head.Group 9100 0; rules = rules }

abbrev x_any : PlainDecl
x_any = decl (codes "X") 9002 m_rule.Any

abbrev y_any : PlainDecl
y_any = decl (codes "Y") 9003 m_rule.Any

abbrev text : List PlainRule → PlainSource
text rules = record { avps = x_any ∷ y_any ∷ []; groups = []; commands = request None rules ∷ [] }

-- so many X and Y at most in one level of T, and whether some X has M set, and some has it clear
abbrev counts : ℕ → ℕ → Bool → Bool → PlainFacts
counts x y set clear = record {
  most = λ w k. if k.code == 9002 then x else if k.code == 9003 then y else 0;
  set = λ k. k.code == 9002 && set;
  clear = λ k. if k.code == 9002 then nat_lt 0 x && clear else k.code == 9003 && nat_lt 0 y;
  proxied = false;
  direct = false;
  places = (0, 0) ∷ [];
  unknown = [];
}

abbrev learnt_of : List PlainRule → PlainFacts → PlainSource
learnt_of rules f = learnt_source (text rules) (resolved (text rules)) f

abbrev made : List PlainDecl → List PlainRule → PlainSource
made avps rules = record { avps = avps; groups = []; commands = request (Some 0) rules ∷ [] }

abbrev x_rule : PlainRule
x_rule = rule Optional (codes "X") None

abbrev y_rule : PlainRule
y_rule = rule Optional (codes "Y") None

abbrev x_clear : PlainDecl
x_clear = decl (codes "X") 9002 m_rule.MustNot

abbrev y_clear : PlainDecl
y_clear = decl (codes "Y") 9003 m_rule.MustNot

-- what a rule lists keeps its counts; an AVP that isn't seen goes
listed : learnt_of (x_rule ∷ y_rule ∷ []) (counts 1 0 false true) ≡ made (x_clear ∷ []) (x_rule ∷ [])
listed = refl

-- M set and clear, and always set
both_flags : learnt_of (x_rule ∷ []) (counts 1 0 true true) ≡ made (x_any ∷ []) (x_rule ∷ [])
both_flags = refl

always_set : learnt_of (x_rule ∷ []) (counts 1 0 true false) ≡ made (decl (codes "X") 9002 m_rule.Must ∷ []) (x_rule ∷ [])
always_set = refl

-- by the wildcard, once at most, and more than once
once : learnt_of (wildcard Optional (from None None) ∷ []) (counts 1 0 false true) ≡ made (x_clear ∷ []) (x_rule ∷ [])
once = refl

twice : learnt_of (wildcard Optional (from None None) ∷ []) (counts 2 0 false true) ≡ made (x_clear ∷ []) (rule Optional (codes "X") (from None None) ∷ [])
twice = refl

-- rules would allow more than the wildcard's count; they don't
would : learnt_of (wildcard Optional None ∷ []) (counts 1 1 false true) ≡ made (x_clear ∷ y_clear ∷ []) (wildcard Optional None ∷ [])
would = refl

would_not : learnt_of (wildcard Optional None ∷ []) (counts 1 0 false true) ≡ made (x_clear ∷ []) (x_rule ∷ [])
would_not = refl

-- a wildcard that wants an AVP stays
wants : learnt_of (wildcard Required (from (Some 1) None) ∷ []) (counts 1 1 false true) ≡ made (x_clear ∷ y_clear ∷ []) (wildcard Required (from (Some 1) None) ∷ [])
wants = refl

-- fixed rules; one that isn't seen goes
fixed : learnt_of (rule Fixed (codes "X") (from None (Some 2)) ∷ rule Fixed (codes "Y") None ∷ []) (counts 1 1 false true)
    ≡ made (x_clear ∷ y_clear ∷ []) (rule Fixed (codes "X") (from None (Some 2)) ∷ rule Fixed (codes "Y") None ∷ [])
fixed = refl

fixed_unseen : learnt_of (rule Fixed (codes "X") (from None (Some 2)) ∷ rule Fixed (codes "Y") None ∷ []) (counts 0 1 false true) ≡ made (y_clear ∷ []) (rule Fixed (codes "Y") None ∷ [])
fixed_unseen = refl

-- where the wildcard stays, rules without AVPs exclude those that are seen elsewhere: an X in the request U
abbrev two : PlainSource
two = record {
  avps = x_any ∷ y_any ∷ [];
  groups = [];
  commands = request None (x_rule ∷ wildcard Required (from (Some 1) None) ∷ []) ∷ record { name = codes "U"; head = head.Command 303 true false None; rules = x_rule ∷ [] } ∷ [];
}

abbrev of_two : PlainFacts
of_two = record {
  most = λ w k. if w.def == 0 then (if k.code == 9003 then 1 else 0) else if k.code == 9002 then 1 else 0;
  set = λ k. false;
  clear = λ k. true;
  proxied = false;
  direct = false;
  places = (0, 0) ∷ (1, 0) ∷ [];
  unknown = [];
}

elsewhere : learnt_source two (resolved two) of_two ≡ record {
  avps = x_clear ∷ y_clear ∷ [];
  groups = [];
  commands = request (Some 0) (rule Optional (codes "X") (from None (Some 0)) ∷ wildcard Required (from (Some 1) None) ∷ [])
      ∷ record { name = codes "U"; head = head.Command 303 true false (Some 0); rules = x_rule ∷ [] } ∷ [];
}
elsewhere = refl

-- a group in itself, without a declaration, whose AVPs have M set and clear, or set
abbrev nested : PlainSource
nested = record { avps = x_any ∷ []; groups = group (wildcard Optional (from None None) ∷ []) ∷ []; commands = request None (rule Optional (codes "G") None ∷ []) ∷ [] }

abbrev of_nested : Bool → PlainFacts
of_nested clear = record {
  most = λ w k. if k.code == 9100 then 1 else if k.code == 9002 then (if w.def == 0 then 1 else 0) else 0;
  set = λ k. k.code == 9100;
  clear = λ k. if k.code == 9100 then clear else k.code == 9002;
  proxied = false;
  direct = false;
  places = (0, 0) ∷ (1, 0) ∷ [];
  unknown = [];
}

in_itself : learnt_source nested (resolved nested) (of_nested true) ≡ record {
  avps = x_clear ∷ [];
  groups = group (x_rule ∷ rule Optional (codes "G") None ∷ []) ∷ [];
  commands = request (Some 0) (rule Optional (codes "G") None ∷ []) ∷ [];
}
in_itself = refl

declared_now : learnt_source nested (resolved nested) (of_nested false) ≡ record {
  avps = x_clear ∷ group_decl m_rule.Must ∷ [];
  groups = group (x_rule ∷ rule Optional (codes "G") None ∷ []) ∷ [];
  commands = request (Some 0) (rule Optional (codes "G") None ∷ []) ∷ [];
}
declared_now = refl

-- the P flag of errors
abbrev errors : PlainSource
errors = record { avps = x_any ∷ []; groups = []; commands = record { name = codes "ERR"; head = head.Error Either; rules = x_rule ∷ [] } ∷ [] }

abbrev of_errors : Bool → PlainFacts
of_errors direct = record { most = λ w k. 1; set = λ k. false; clear = λ k. true; proxied = true; direct = direct; places = (0, 0) ∷ []; unknown = [] }

proxied : learnt_source errors (resolved errors) (of_errors false) ≡ record {
  avps = x_clear ∷ [];
  groups = [];
  commands = record { name = codes "ERR"; head = head.Error Set; rules = x_rule ∷ [] } ∷ [];
}
proxied = refl

either : learnt_source errors (resolved errors) (of_errors true) ≡ record {
  avps = x_clear ∷ [];
  groups = [];
  commands = record { name = codes "ERR"; head = head.Error Either; rules = x_rule ∷ [] } ∷ [];
}
either = refl
