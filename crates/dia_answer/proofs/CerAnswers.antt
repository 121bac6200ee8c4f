-- By the base dictionary no answer to a CER is the command's own.
use Rattle.std.proofs.Common.{◌≡◌, ◌≢◌, ℕ, zero, suc, ◌≤◌, Bool, true, false, cond, List, [], ◌∷◌, map, Option, Some, None, refl, sym, ap, subst, ◌∙◌, arith}
use Rattle.std.specs.Prelude.{◌==◌, bit_and, bit_or, count_by, slice_get}
use Rattle.std.specs.Option.{option_map}
use Rattle.std.specs.Int.Bits.{and_zero_r, or_zero_r}
use Rattle.std.proofs.lemmas.Nat.{and_assoc}
use Rattle.std.proofs.lemmas.List.Sums.{sum_by-cons}
use Rattle.std.proofs.lemmas.Option.{same_Some}
use Rattle.dia_wire.specs.declared.Header.{Header}
use Rattle.dia_wire.specs.declared.Key.{Key}
use Rattle.dia_wire.specs.Wire.{PlainAvp, key_of, IsMessage}
use Rattle.dia_dict.specs.Base.{base}
use Rattle.dia_book.specs.declared.Class.TheVariants.{Request, Answer, Error as ErrorClass}
use Rattle.dia_book.specs.declared.DRule.{DRule}
use Rattle.dia_book.specs.Dictionary.{Dictionary, PlainDefinition, definitions, selected}
use Rattle.dia_book.specs.Keys.{same_key}
use Rattle.dia_book.proofs.SameKeys.{same_key-true}
use Rattle.dia_terms.specs.declared.Unknown.{Unknown}
use Rattle.dia_terms.specs.declared.Levels.{Levels}
use Rattle.dia_valid.specs.Valid.{IsValid, Placed, class_of}
use Rattle.dia_answer.specs.declared.forms.Form.{Form}
use Rattle.dia_answer.specs.declared.forms.Form.TheVariants as form
use Rattle.dia_answer.specs.declared.forms.Made.{Made}
use Rattle.dia_answer.specs.Dictionaries.{base_key, opaque}
use Rattle.dia_answer.specs.Requests.{IsRequestHead}
use Rattle.dia_answer.specs.Bodies.{IsStock, Parts, in_order, of_key}
use Rattle.dia_answer.specs.Sources.{in_extent}
use Rattle.dia_answer.specs.Reports.{HasBody, IsCommandOf, IsValidBy, answer_header, form_dictionary}
use Rattle.dia_answer.proofs.Messages.{one_message}
use Rattle.dia_answer.proofs.Orders.{order_lacks}
use Rattle.dia_answer.proofs.Stocks.{by_parts}

never : {X : Type 0} → false ≡ true → X
never e = absurd cc

-- ---- the rules of CEA

abbrev rules_at : Dictionary → ℕ → Option (List DRule)
rules_at d n = option_map (λ (def : PlainDefinition). def.rules) (slice_get (definitions d) n)

abbrev or_none : Option (List DRule) → List DRule
or_none None = []
or_none (Some rules) = rules

abbrev cea_rules : List DRule
cea_rules = or_none (rules_at base 5)

of_base : rules_at base 5 ≡ Some cea_rules
of_base = refl

of_opaque : rules_at (opaque base) 4 ≡ Some cea_rules
of_opaque = refl

by_base : (app : ℕ) → selected base 257 Answer app ≡ Some 5
by_base app = refl

by_opaque : (app : ℕ) → selected (opaque base) 257 Answer app ≡ Some 4
by_opaque app = refl

-- the rules of the definition that is selected
rules_are : (d : Dictionary) (n c : ℕ) (def : PlainDefinition) (o : Option ℕ) → o ≡ Some n → rules_at d n ≡ Some cea_rules → o ≡ Some c → slice_get (definitions d) c ≡ Some def → cea_rules ≡ def.rules
rules_are d n c def o is_n are is_c at =
    same_Some cea_rules def.rules (sym are ∙ ap (rules_at d) (same_Some n c (sym is_n ∙ is_c)) ∙ ap (option_map (λ (x : PlainDefinition). x.rules)) at)

-- ---- Host-IP-Address

abbrev address : Key
address = base_key 257

-- the test of the rule
abbrev is_address : Key → Bool
is_address key = same_key key address

no_count : (avps : List PlainAvp) → of_key address avps ≡ [] → count_by is_address (map key_of avps) ≡ 0
no_count [] h = refl
no_count (v ∷ avps) h = by (same_key address (key_of v)) (is_address (key_of v)) refl refl h (no_count avps)
  where
    by : (s t : Bool) → same_key address (key_of v) ≡ s → is_address (key_of v) ≡ t → cond s (v ∷ of_key address avps) (of_key address avps) ≡ [] → (of_key address avps ≡ [] → count_by is_address (map key_of avps) ≡ 0)
        → count_by is_address (key_of v ∷ map key_of avps) ≡ 0
    by true t e f g ih = absurd cc
    by false true e f g ih = never (sym e ∙ ap (λ (k : Key). same_key address k) (same_key-true (key_of v) address f))
    by false false e f g ih =
        let all = sum_by-cons (λ (key : Key). cond (is_address key) 1 0) (key_of v) (map key_of avps) in
        let none : cond (is_address (key_of v)) (suc zero) zero ≡ zero = ap (λ (c : Bool). cond c (suc zero) zero) f in
        omega (arith, all, none, ih g)

-- a CEA has one
has_address : (avps : List PlainAvp) → Placed cea_rules (map key_of avps) → 1 ≤ count_by is_address (map key_of avps)
has_address avps placed =
    let all : map key_of avps ≡ placed.rest = placed.runs in
    let one : 1 ≤ count_by is_address placed.rest = placed.counts.1.1.1.0.0 in
    subst (λ (keys : List Key). 1 ≤ count_by is_address keys) (sym all) one

-- ---- the class of an answer

own_class : (flags : ℕ) → class_of (bit_or (bit_and flags 64) 0) ≡ Answer
own_class flags =
    ap class_of (or_zero_r (bit_and flags 64))
    ∙ (λ i. cond (and_assoc 128 flags 64 i == 0) (cond (and_assoc 32 flags 64 i == 0) Answer ErrorClass) Request)
    ∙ (λ i. cond (and_zero_r flags i == 0) (cond (and_zero_r flags i == 0) Answer ErrorClass) Request)

-- ---- all

own_lacks : (u : Unknown) (most : Levels) (p : Parts) (k : Header) (command : PlainDefinition) (avps : List PlainAvp) (bytes : List ℕ) → k.code ≡ 257 → IsCommandOf base k form.Own command
    → IsStock base form.Own command.rules p avps → IsMessage (answer_header k form.Own) (in_order command.rules avps) bytes → IsValid (opaque base) u most bytes → ⊥
own_lacks u most p k command avps bytes code (c, select, at) stock message (n, v) =
    let own_header = answer_header k form.Own in
    let is_command : selected base k.code Answer k.app ≡ Some 5 = ap (λ (x : ℕ). selected base x Answer k.app) code ∙ by_base k.app in
    let rules : cea_rules ≡ command.rules = rules_are base 5 c command (selected base k.code Answer k.app) is_command of_base select at in
    let same = one_message v.header own_header v.avps (in_order command.rules avps) bytes v.message message in
    let chosen : selected (opaque base) k.code (class_of own_header.flags) k.app ≡ Some n = ap (λ (h : Header). selected (opaque base) h.code (class_of h.flags) h.app) (sym same.0) ∙ v.select in
    let is_opaque : selected (opaque base) k.code (class_of own_header.flags) k.app ≡ Some 4 = (λ i. selected (opaque base) (code i) (own_class k.flags i) k.app) ∙ by_opaque k.app in
    let also : cea_rules ≡ v.command.rules = rules_are (opaque base) 4 n v.command (selected (opaque base) k.code (class_of own_header.flags) k.app) is_opaque of_opaque chosen v.is_command in
    let placed : Placed cea_rules (map key_of (in_order command.rules avps)) =
    subst (λ (vs : List PlainAvp). Placed cea_rules (map key_of vs)) same.1 (subst (λ (rs : List DRule). Placed rs (map key_of v.avps)) (sym also) v.placed) in
    let none : of_key address avps ≡ [] = by_parts base form.Own command.rules p avps stock address refl refl refl in
    let count = no_count (in_order command.rules avps) (order_lacks address command.rules avps none) in
    let some = has_address (in_order command.rules avps) placed in
    omega (arith, count, some)

pub cer_form : (u : Unknown) (most : Levels) (host realm request : List ℕ) (made : Made) (h : Header) → IsRequestHead h request → h.code ≡ 257 → HasBody base u most host realm request made → IsValidBy base u most made.form made.bytes.items → made.form ≢ form.Own
cer_form u most host realm request made h reads code body valid own =
    let k = body.header in
    let bytes = made.bytes.items in
    let is_code : k.code ≡ 257 = body.reads.code ∙ sym reads.code ∙ code in
    let command = body.command in
    let p = in_extent body.extent body.parts in
    let is_command = subst (λ (f : Form). IsCommandOf (form_dictionary f base) k f command) own body.is_command in
    let stock = subst (λ (f : Form). IsStock (form_dictionary f base) f command.rules p body.avps) own body.are_avps in
    let message = subst (λ (f : Form). IsMessage (answer_header k f) (in_order command.rules body.avps) bytes) own body.message.message in
    let is_valid = subst (λ (f : Form). IsValid (opaque (form_dictionary f base)) u most bytes) own valid in
    own_lacks u most p k command body.avps bytes is_code is_command stock message is_valid
