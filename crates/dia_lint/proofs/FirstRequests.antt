-- The first requests, one command after the other.
use Rattle.std.proofs.Common.{◌≡◌, ℕ, zero, suc, ◌+◌, ◌<◌, ◌≤◌, Bool, true, false, List, [], ◌++◌, append_assoc, length, length-append, replicate, Option, Some, None, refl, sym, ap, subst, ◌∙◌, arith}
use Rattle.std.specs.Prelude.{◌&&◌, if◌then◌else◌, nat_eq, option_and_then, option_to_list, slice_get}
use Rattle.std.specs.Option.{option_eq, option_map_or, option_or}
use Rattle.std.proofs.lemmas.Bool.{eqb-true}
use Rattle.dia_book.specs.declared.DRule.{DRule}
use Rattle.dia_book.specs.Dictionary.{Dictionary, definitions, groups}
use Rattle.dia_valid.specs.Rules.{rules_in}
use Rattle.dia_lint.specs.declared.commands.Request.{Request}
use Rattle.dia_lint.specs.declared.guidelines.Head.{Head}
use Rattle.dia_lint.specs.declared.guidelines.firsts.Which.{Which}
use Rattle.dia_lint.specs.declared.finding.Finding.{Finding}
use Rattle.dia_lint.specs.Firsts.{AreFirstOf, put_at}
use Rattle.dia_lint.specs.Guidelines.{is_request}
use Rattle.dia_lint.specs.Pairs.{answer_to, counts, head_in, is_answered, request_among, request_if, request_in}

pub or_none : {X : Type 0} (o : Option X) → option_or o None ≡ o
or_none None = refl
or_none (Some x) = refl

-- a test that is there only after another
pub and_when : (t a b : Bool) → (t ≡ true → a ≡ b) → (t && a) ≡ (t && b)
and_when true a b same = same refl
and_when false a b same = refl

if_nested : {X : Type 0} (t r extra : Bool) (x : Option X) → (if t then (if r && extra then x else None) else None) ≡ (if r && (t && extra) then x else None)
if_nested true true extra x = refl
if_nested true false extra x = refl
if_nested false true extra x = refl
if_nested false false extra x = refl

pub among_more : (d : Dictionary) (test : Head → List DRule → Bool) (def n : ℕ) → def ≡ length (groups d) + n → request_among d test (suc n) ≡ option_or (request_among d test n) (request_in d test def)
among_more d test def n is = ap (λ (k : ℕ). option_or (request_among d test n) (request_in d test k)) (sym is)

-- the number that follows
pub among_next : (d : Dictionary) (test : Head → List DRule → Bool) (n : ℕ) → request_among d test (suc n) ≡ request_among d test (n + 1)
among_next d test n = ap (request_among d test) (let same : suc n ≡ n + 1 = omega arith in same)

-- none, of a group
pub among_same : (d : Dictionary) (test : Head → List DRule → Bool) (def n : ℕ) → def ≡ length (groups d) + n → head_in d def ≡ None → request_among d test n ≡ request_among d test (suc n)
among_same d test def n is none =
    sym (among_more d test def n is ∙ ap (λ (o : Option Head). option_or (request_among d test n) (option_and_then (λ head. request_if (test head (rules_in d def)) def head) o)) none
    ∙ or_none (request_among d test n))

module _ (d : Dictionary) (def : ℕ) (head : Head) (rules : List DRule) (at : head_in d def ≡ Some head) (is : rules_in d def ≡ rules) where
  pub request_here : (test : Head → List DRule → Bool) → request_in d test def ≡ request_if (test head rules) def head
  request_here test = ap (option_and_then (λ h. request_if (test h (rules_in d def)) def h)) at ∙ ap (λ rs. request_if (test head rs) def head) is

  -- the first of those that the command k answers; the test need only be that of the command that is the answer
  pub answered_step : (which : Which) (n k answer : ℕ) (slot new : Option (Option Request)) → def ≡ length (groups d) + n → answer_to d head ≡ Some answer
      → slot ≡ Some (request_among d (is_answered d which k) n) → new ≡ put_at answer (request_if (counts d which answer head rules) def head) k slot
      → new ≡ Some (request_among d (is_answered d which k) (suc n))
  answered_step which n k answer slot new same answers was put =
      let before = request_among d (is_answered d which k) n in
      let one : Request = record { def = def; p = head.p } in
      let extra = counts d which answer head rules in
      let tests : (nat_eq answer k && extra) ≡ is_answered d which k head rules =
      and_when (nat_eq answer k) extra (counts d which k head rules) (λ (e : nat_eq answer k ≡ true). ap (λ (a : ℕ). counts d which a head rules) (eqb-true answer k e))
      ∙ ap (λ (o : Option ℕ). option_eq nat_eq o (Some k) && counts d which k head rules) (sym answers) in
      put ∙ ap (put_at answer (request_if extra def head) k) was
      ∙ ap (λ (o : Option Request). Some (option_or before o)) (if_nested (nat_eq answer k) (is_request head) extra (Some one))
      ∙ ap (λ (t : Bool). Some (option_or before (request_if t def head))) tests
      ∙ ap (λ (o : Option Request). Some (option_or before o)) (sym (request_here (is_answered d which k)))
      ∙ ap (λ (o : Option Request). Some o) (sym (among_more d (is_answered d which k) def n same))

  -- none answers it
  pub unanswered_step : (which : Which) (n k : ℕ) → def ≡ length (groups d) + n → answer_to d head ≡ None
      → request_among d (is_answered d which k) n ≡ request_among d (is_answered d which k) (suc n)
  unanswered_step which n k same none =
      let before = request_among d (is_answered d which k) n in
      sym (among_more d (is_answered d which k) def n same ∙ ap (option_or before) (request_here (is_answered d which k))
      ∙ ap (λ (o : Option ℕ). option_or before (request_if (option_eq nat_eq o (Some k) && counts d which k head rules) def head)) none
      ∙ ap (option_or before) (no_request (is_request head) (Some (record { def = def; p = head.p }))) ∙ or_none before)
    where
      no_request : (r : Bool) (x : Option Request) → (if r && false then x else None) ≡ None
      no_request true x = refl
      no_request false x = refl

-- ---- lists of first requests

pub first_at : (d : Dictionary) (which : Which) (n def : ℕ) (items shown : List (Option Request)) (r : Option Request) → AreFirstOf d which n items → length (groups d) ≤ def → def < length (definitions d)
    → shown ≡ items → r ≡ option_map_or (λ (first : Option Request). first) (slice_get shown def) None → r ≡ request_among d (is_answered d which def) n
first_at d which n def items shown r are command within same is =
    is ∙ ap (λ (xs : List (Option Request)). option_map_or (λ (first : Option Request). first) (slice_get xs def) None) same
    ∙ ap (λ (o : Option (Option Request)). option_map_or (λ (first : Option Request). first) o None) (are def command within)

replicated : {X : Type 0} (n k : ℕ) (x : X) → k < n → slice_get (replicate n x) k ≡ Some x
replicated zero k x lt = absurd (omega (arith, lt))
replicated (suc n) zero x lt = refl
replicated (suc n) (suc k) x lt = replicated n k x (omega (arith, lt))

pub start_first : (d : Dictionary) (which : Which) (count : ℕ) (items : List (Option Request)) → (0 < length d.commands → count ≡ length (definitions d)) → items ≡ replicate count None
    → AreFirstOf d which 0 items
start_first d which count items counted is = λ k from within.
    let all = length-append (groups d) d.commands in
    let more : 0 < length d.commands = omega (arith, all, from, within) in
    let less : k < count = omega (arith, counted more, within) in
    ap (λ (xs : List (Option Request)). slice_get xs k) is ∙ replicated count k None less

pub next_first : (d : Dictionary) (which : Which) (n : ℕ) (items : List (Option Request)) → AreFirstOf d which (suc n) items → AreFirstOf d which (n + 1) items
next_first d which n items are = subst (λ (m : ℕ). AreFirstOf d which m items) (let same : suc n ≡ n + 1 = omega arith in same) are

-- ---- findings that are pushed one after the other

pub three_pushed : (old m n new : List Finding) (x y z a b c : Option Finding) → old ≡ [] → m ≡ old ++ option_to_list x → n ≡ m ++ option_to_list y → new ≡ n ++ option_to_list z
    → x ≡ a → y ≡ b → z ≡ c → new ≡ [] ++ option_to_list a ++ option_to_list b ++ option_to_list c
three_pushed old m n new x y z a b c none first second third is_x is_y is_z =
    let all : new ≡ (([] ++ option_to_list a) ++ option_to_list b) ++ option_to_list c = cc in
    all ∙ simp append_assoc

pub two_pushed : (old m new : List Finding) (x y a b : Option Finding) → old ≡ [] → m ≡ old ++ option_to_list x → new ≡ m ++ option_to_list y → x ≡ a → y ≡ b
    → new ≡ [] ++ option_to_list a ++ option_to_list b
two_pushed old m new x y a b none first second is_x is_y =
    let all : new ≡ ([] ++ option_to_list a) ++ option_to_list b = cc in
    all ∙ simp append_assoc
