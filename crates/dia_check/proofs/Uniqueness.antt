-- What is wrong with an AVP is one thing for each reason, and a walk goes on from the front of a level in one way.
use Rattle.std.proofs.Common.{◌≡◌, ◌≢◌, ℕ, suc, ◌+◌, ◌<◌, ◌≤◌, Bool, true, false, ◌&&◌, List, ◌++◌, length, get_or, Option, Some, None, refl, sym, ap, subst, ◌∙◌, arith, inl, inr, ⊎_elim}
use Rattle.std.specs.Prelude.{nat_lt, nat_eq, ◌⊎◌, ◌==◌, if◌then◌else◌, slice_get, position}
use Rattle.std.specs.Option.{option_or, option_map, option_eq}
use Rattle.std.proofs.lemmas.Bool.{ltb-false, ltb-true}
use Rattle.std.proofs.lemmas.List.{length-append, append_cancel_left}
use Rattle.std.proofs.lemmas.List.Quantifiers.{position-Some}
use Rattle.std.proofs.lemmas.Option.{same_Some, none-some, slice_get-get_or}
use Rattle.dia_wire.specs.declared.Key.{Key}
use Rattle.dia_wire.specs.Wire.{PlainAvp, key_of, avp_length, BeginsWith}
use Rattle.dia_wire.proofs.Spelling.{opened, rounded-le, at_least_8, one_spelling}
use Rattle.dia_book.specs.declared.Class.{Class}
use Rattle.dia_book.specs.declared.DefHead.{DefHead}
use Rattle.dia_book.specs.declared.DefHead.TheVariants.{Group, Command, Error}
use Rattle.dia_book.specs.declared.DRule.{DRule}
use Rattle.dia_book.specs.Dictionary.{Dictionary, PlainDefinition, groups, selected, has_command, is_command, has_class}
use Rattle.dia_terms.specs.declared.Unknown.{Unknown}
use Rattle.dia_terms.specs.declared.Levels.{Levels}
use Rattle.dia_check.specs.declared.fault.Reason.{Reason}
use Rattle.dia_check.specs.declared.fault.Reason.TheVariants as reason
use Rattle.dia_check.specs.declared.fault.Subject.{Subject}
use Rattle.dia_check.specs.declared.fault.Subject.TheVariants.{Avp}
use Rattle.dia_valid.specs.Valid.{fixed_rules}
use Rattle.dia_check.specs.Levels.{Level}
use Rattle.dia_check.specs.Faults.{Row, End, At, Sooner, Spot, spot, IsBefore, subject_of, keys_to, IsFirstShort, IsFirstMissing, IsWrong}
use Rattle.dia_check.specs.Reasons.{row_of}
pub use Rattle.dia_check.specs.Reasons.{reason_at}
use Rattle.dia_check.specs.Faults as faults
use Rattle.dia_check.proofs.FaultlessFronts.{at_any}
use Rattle.dia_check.specs.Walks.{Found, Rest, following, inside, IsFine, IsFirstWrong, Walks, ended, missing, broken, wrong, leaf, group, bad_group}
use Rattle.dia_valid.specs.Valid.{group_at}

-- ---- numbers

pub nat_cases : (i j : ℕ) → (i < j) ⊎ ((j < i) ⊎ (i ≡ j))
nat_cases i j = by (nat_lt i j) (nat_lt j i) refl refl
  where
    by : (b c : Bool) → nat_lt i j ≡ b → nat_lt j i ≡ c → (i < j) ⊎ ((j < i) ⊎ (i ≡ j))
    by true c e f = inl (ltb-true i j e)
    by false true e f = inr (inl (ltb-true j i f))
    by false false e f = let le = ltb-false i j e in let ge = ltb-false j i f in inr (inr (omega (arith, le, ge)))

pub le_split : (i j : ℕ) → i ≤ j → (i < j) ⊎ (i ≡ j)
le_split i j le = ⊎_elim (λ h. inl h) (λ h. ⊎_elim (λ more. absurd (omega (arith, le, more))) (λ e. inr e) h) (nat_cases i j)

-- ---- one thing is wrong, and of one AVP

pub reason_at-row : (r : Reason) → reason_at (row_of r) ≡ r
reason_at-row reason.Version = refl
reason_at-row r = refl

pub one_reason : (q r : Reason) → row_of q ≡ row_of r → q ≡ r
one_reason q r e = sym (reason_at-row q) ∙ ap reason_at e ∙ reason_at-row r

pub short_unique : (rules : List DRule) (keys : List Key) (i j : ℕ) (a b : DRule) → IsFirstShort rules keys i a → IsFirstShort rules keys j b → a ≡ b
short_unique rules keys i j a b x y = by (nat_cases i j)
  where
    by : (i < j) ⊎ ((j < i) ⊎ (i ≡ j)) → a ≡ b
    by (inl less) = let least = y.first i a less x.is_rule in let short = x.short in absurd (omega (arith, least, short))
    by (inr (inl more)) = let least = x.first j b more y.is_rule in let short = y.short in absurd (omega (arith, least, short))
    by (inr (inr same)) = same_Some a b (sym x.is_rule ∙ ap (λ (n : ℕ). slice_get (fixed_rules rules) n) same ∙ y.is_rule)

pub missing_unique : (rules : List DRule) (keys : List Key) (i j : ℕ) (a b : DRule) → IsFirstMissing rules keys i a → IsFirstMissing rules keys j b → a ≡ b
missing_unique rules keys i j a b x y = by (nat_cases i j)
  where
    by : (i < j) ⊎ ((j < i) ⊎ (i ≡ j)) → a ≡ b
    by (inl less) = let least = y.first i a less x.is_rule in let short = x.short in absurd (omega (arith, least, short))
    by (inr (inl more)) = let least = x.first j b more y.is_rule in let short = y.short in absurd (omega (arith, least, short))
    by (inr (inr same)) = same_Some a b (sym x.is_rule ∙ ap (λ (n : ℕ). slice_get rules n) same ∙ y.is_rule)

-- the subject is the AVP's key, but of a missing AVP the key of the first short rule
abbrev pub Subjects : Level → List PlainAvp → PlainAvp → Reason → Subject → Type 0
Subjects level earlier v r t = ((row_of r ≢ 9) × (t ≡ Avp (key_of v))) ⊎ ((row_of r ≡ 9) × ((i : ℕ) × (rule : DRule) × IsFirstShort level.rules (keys_to earlier v) i rule × (t ≡ subject_of rule.key)))

pub subjects : (d : Dictionary) (u : Unknown) (most : Levels) (level : Level) (earlier : List PlainAvp) (v : PlainAvp) (r : Reason) (t : Subject) → IsWrong d u most level earlier v r t
    → Subjects level earlier v r t
subjects d u most level earlier v r t (faults.missing i rule first ends) = inr (refl, (i, rule, first, refl))
subjects d u most level earlier v r t other = inl ((λ e. omega (arith, e)), refl)

pub one_subject : (d : Dictionary) (u : Unknown) (most : Levels) (level : Level) (earlier : List PlainAvp) (v : PlainAvp) (q r : Reason) (s t : Subject)
    → IsWrong d u most level earlier v q s → IsWrong d u most level earlier v r t → q ≡ r → s ≡ t
one_subject d u most level earlier v q r s t x y same = by (subjects d u most level earlier v q s x) (subjects d u most level earlier v r t y)
  where
    by : Subjects level earlier v q s → Subjects level earlier v r t → s ≡ t
    by (inl a) (inl b) = a.1 ∙ sym b.1
    by (inl a) (inr b) = absurd (a.0 (ap row_of same ∙ b.0))
    by (inr a) (inl b) = absurd (b.0 (sym (ap row_of same) ∙ a.0))
    by (inr (n, (i, a, first, is))) (inr (m, (j, b, first', is'))) =
        is ∙ ap (λ (x : DRule). subject_of x.key) (short_unique level.rules (keys_to earlier v) i j a b first first') ∙ sym is'

-- ---- the front of a rest

pub one_front : (level : List ℕ) (v w : PlainAvp) (rest more : List ℕ) → BeginsWith v level rest → BeginsWith w level more → (v ≡ w) × (rest ≡ more)
one_front level v w rest more (a, s, p) (b, t, q) =
    let o = one_spelling v w a b rest more s t (sym p ∙ q) in
    (o.0, append_cancel_left a rest more (sym p ∙ q ∙ ap (λ (f : List ℕ). f ++ more) (sym o.1)))

pub begins_some : (v : PlainAvp) (level rest : List ℕ) → BeginsWith v level rest → 0 < length level
begins_some v level rest (front, s, p) =
    let o = opened v front rest s in
    let all : length level ≡ length front + length rest = ap length p ∙ length-append front rest in
    omega (arith, all, o.front_length, rounded-le (avp_length v), at_least_8 v.vendor)

abbrev pub found_at : ℕ → Reason → Subject → Found
found_at at r t = record { spot = spot at r; reason = r; subject = t }

-- how a walk goes on at an AVP: it stops there, or goes past it, or finds something in it
pub data Goes (d : Dictionary) (u : Unknown) (most : Levels) (s : Rest) (v : PlainAvp) (rest : List ℕ) (f : Option Found) : Type 0 where
  stops : (r : Reason) (t : Subject) → IsFirstWrong d u most s v r t → f ≡ Some (found_at s.at r t) → Goes d u most s v rest f
  passes : IsFine d u most s v → ((g : PlainDefinition) → group_at d v ≡ Some g → Walks d u most (inside s v g) None) → Walks d u most (following s v rest) f → Goes d u most s v rest f
  finds : (g : PlainDefinition) (h : Found) → IsFine d u most s v → group_at d v ≡ Some g → Walks d u most (inside s v g) (Some h) → f ≡ Some h → Goes d u most s v rest f

pub goes : (d : Dictionary) (u : Unknown) (most : Levels) (s : Rest) (f : Option Found) (v : PlainAvp) (rest : List ℕ) → Walks d u most s f → BeginsWith v s.bytes rest → Goes d u most s v rest f
goes d u most s f v rest (ended done none is) begins = absurd (omega (arith, begins_some v s.bytes rest begins, ap length done))
goes d u most s f v rest (missing i rule done first is) begins = absurd (omega (arith, begins_some v s.bytes rest begins, ap length done))
goes d u most s f v rest (broken some none is) begins = absurd (none v rest begins)
goes d u most s f v rest (wrong w more r t begins' first is) begins =
    let o = one_front s.bytes w v more rest begins' begins in
    stops r t (subst (λ (x : PlainAvp). IsFirstWrong d u most s x r t) o.0 first) is
goes d u most s f v rest (leaf w more begins' fine is_leaf walk) begins =
    let o = one_front s.bytes w v more rest begins' begins in
    let leaf_too : group_at d v ≡ None = subst (λ (x : PlainAvp). group_at d x ≡ None) o.0 is_leaf in
    passes (subst (λ (x : PlainAvp). IsFine d u most s x) o.0 fine) (λ g h. absurd (none-some g (sym leaf_too ∙ h)))
    (subst (λ (x : PlainAvp). Walks d u most (following s x rest) f) o.0 (subst (λ (y : List ℕ). Walks d u most (following s w y) f) o.1 walk))
goes d u most s f v rest (group w more g begins' fine is_group inner walk) begins =
    let o = one_front s.bytes w v more rest begins' begins in
    let group_too : group_at d v ≡ Some g = subst (λ (x : PlainAvp). group_at d x ≡ Some g) o.0 is_group in
    passes (subst (λ (x : PlainAvp). IsFine d u most s x) o.0 fine)
    (λ k h. subst (λ (y : PlainDefinition). Walks d u most (inside s v y) None) (same_Some g k (sym group_too ∙ h)) (subst (λ (x : PlainAvp). Walks d u most (inside s x g) None) o.0 inner))
    (subst (λ (x : PlainAvp). Walks d u most (following s x rest) f) o.0 (subst (λ (y : List ℕ). Walks d u most (following s w y) f) o.1 walk))
goes d u most s f v rest (bad_group w more g h begins' fine is_group inner is) begins =
    let o = one_front s.bytes w v more rest begins' begins in
    finds g h (subst (λ (x : PlainAvp). IsFine d u most s x) o.0 fine) (subst (λ (x : PlainAvp). group_at d x ≡ Some g) o.0 is_group)
    (subst (λ (x : PlainAvp). Walks d u most (inside s x g) (Some h)) o.0 inner) is

-- ---- where a walk finds something

-- before the place, or there at the end of a level that lies so deep
abbrev pub UpTo : Found → ℕ → ℕ → Type 0
UpTo h n at = (h.spot.place < at) ⊎ ((h.spot.place ≡ at) × ((deep : ℕ) × (h.spot.row ≡ End deep) × (n ≤ deep)))

pub up_more : (h : Found) (n m at to : ℕ) → UpTo h n at → at ≤ to → m ≤ n → UpTo h m to
up_more h n m at to (inl less) le le' = inl (omega (arith, less, le))
up_more h n m at to (inr (same, (deep, is, more))) le le' = ⊎_elim (λ lt. inl (omega (arith, lt, same))) (λ e. inr (same ∙ e, (deep, is, omega (arith, more, le')))) (le_split at to le)

pub up_later : (h : Found) (n m at to : ℕ) → UpTo h n at → at < to → UpTo h m to
up_later h n m at to (inl less) lt = inl (omega (arith, less, lt))
up_later h n m at to (inr (same, other)) lt = inl (omega (arith, same, lt))

pub up_row : (h : Found) (n at : ℕ) (r : Reason) → UpTo h n at → IsBefore h.spot (spot at r)
up_row h n at r (inl less) = inl less
up_row h n at r (inr (same, (deep, is, more))) = inr (same, subst (λ (x : Row). Sooner x (At (row_of r))) (sym is) tt)

pub up_end : (h : Found) (n at : ℕ) → UpTo h (suc n) at → IsBefore h.spot (record { place = at; row = End n })
up_end h n at (inl less) = inl less
up_end h n at (inr (same, (deep, is, more))) = inr (same, subst (λ (x : Row). Sooner x (End n)) (sym is) (omega (arith, more)))

-- ---- spots

pub sooner_both : (a b : Row) → Sooner a b → Sooner b a → ⊥
sooner_both (End n) (End m) h k = omega (arith, h, k)
sooner_both (End n) (At m) h k = absurd k
sooner_both (At n) (End m) h k = absurd h
sooner_both (At n) (At m) h k = omega (arith, h, k)

pub before_both : (a b : Spot) → IsBefore a b → IsBefore b a → ⊥
before_both a b (inl h) (inl k) = omega (arith, h, k)
before_both a b (inl h) (inr k) = omega (arith, h, k.0)
before_both a b (inr h) (inl k) = omega (arith, h.0, k)
before_both a b (inr h) (inr k) = sooner_both a.row b.row h.1 k.1

-- ---- the command of a header

pub and_first : (a b : Bool) → (a && b) ≡ true → a ≡ true
and_first true b h = refl
and_first false b h = absurd cc

pub class_too : (code : ℕ) (class : Class) (app : Option ℕ) (head : DefHead) → is_command code class app head ≡ true → has_class code class head ≡ true
class_too code class app (Group key) h = absurd (let e : false ≡ true = h in cc)
class_too code class app (Command c cl a p) h = and_first (has_class code class (Command c cl a p)) (option_eq nat_eq app a) h
class_too code class app (Error p) h = h

pub command_at : (d : Dictionary) (code : ℕ) (class : Class) (app : Option ℕ) (some : PlainDefinition) (i : ℕ)
    → position (λ (c : PlainDefinition). is_command code class app c.head) d.commands ≡ Some i → has_command d code class ≡ true
command_at d code class app some i h =
    let p = position-Some (λ (c : PlainDefinition). is_command code class app c.head) d.commands i some h in
    at_any (λ (c : PlainDefinition). has_class code class c.head) d.commands i (get_or d.commands i some) (slice_get-get_or d.commands i some p.0)
    (class_too code class app (get_or d.commands i some).head p.1)

pub either : (a b : Option ℕ) (n c : ℕ) (P : Type 0) → option_map (λ (i : ℕ). n + i) (option_or a b) ≡ Some c → ((i : ℕ) → a ≡ Some i → P) → ((i : ℕ) → b ≡ Some i → P) → P
either None None n c P h x y = absurd (none-some c h)
either None (Some j) n c P h x y = y j refl
either (Some i) b n c P h x y = x i refl

pub selected_command : (d : Dictionary) (code : ℕ) (class : Class) (app c : ℕ) (some : PlainDefinition) → selected d code class app ≡ Some c → has_command d code class ≡ true
selected_command d code class app c some h =
    either (position (λ (x : PlainDefinition). is_command code class (Some app) x.head) d.commands) (position (λ (x : PlainDefinition). is_command code class None x.head) d.commands)
    (length (groups d)) c (has_command d code class ≡ true) h
    (command_at d code class (Some app) some) (command_at d code class None some)
