-- Steps of the reader in a head.
use Rattle.std.proofs.Common.{◌≡◌, ℕ, ◌≤◌, arith, Bool, true, false, cond, List, [], ◌∷◌, Option, Some, None, refl, sym, ap, subst, ◌∙◌}
use Rattle.std.specs.Prelude.{◌||◌, ◌&&◌, ◌+◌, codes, map, nat_lt, Err}
use Rattle.std.proofs.lemmas.Bool.{lt-ltb}
use Rattle.std.specs.Option.{option_map}
use Rattle.std.specs.Char.{to_ascii_lowercase}
use Rattle.dia_ccf.specs.declared.reading.Reader.{Reader}
use Rattle.dia_ccf.specs.declared.reading.refusal.Refusal.{Refusal}
use Rattle.dia_ccf.specs.declared.source.Head.{Head}
use Rattle.dia_ccf.specs.declared.source.Head.TheVariants.{Command, Group, Error}
use Rattle.dia_terms.specs.declared.Pxy.TheVariants.{Either}
use Rattle.dia_ccf.specs.Plain.{PlainSource}
use Rattle.dia_ccf.specs.Tokens.{Token, Greater, Colon, Comma, Close_bracket, Number, Name}
use Rattle.dia_ccf.specs.Limits.{max_number, max_command_code}
use Rattle.dia_ccf.specs.Machine.{State, HeadPlace, Rules, In_head, Avp_colon, Diameter_colon, Command_code, Group_code, Group_vendor, Error_word, Error_flags, Error_either, Error_close, Flags}
use Rattle.dia_ccf.specs.Machine.{Head_end, next, next_flag, refused, whole, why, outcome, is_keyword, is_number, same_sign, sign_at, number_at, keyword_at}
use Rattle.dia_ccf.specs.ReaderFunctions.{left, Passes, begins_with, Takes, AcceptsUnless, Flags_read, Course, StopsAt, course, Wants}
use Rattle.dia_ccf.proofs.TokenTests.{number_at-is, keyword-is, keyword_at-is}
use Rattle.dia_ccf.proofs.MachineRuns.{outcome_same}
use Rattle.dia_ccf.proofs.ReaderSteps.{passes_one, takes_sign, accepted, map_twice}

-- a number was passed
pub number_passed : (state : State) (to : ℕ → State) (least most n : ℕ) (old new : Reader) → (t : Token) × (number_at least most t ≡ Some n) × Passes old (t ∷ []) new
    → ((m : ℕ) → next state (Number m) ≡ option_map to (number_at least most (Number m))) → course state old ≡ course (to n) new
number_passed state to least most n old new (t, read, passes) h =
    let e = (number_at-is least most t n read).0 in
    passes_one state (to n) t old new passes (subst (λ (u : Token). next state u ≡ Some (to n)) (sym e) (h n ∙ ap (option_map to) (ap (number_at least most) (sym e) ∙ read)))

-- a keyword was passed
pub keyword_passed : (text : List ℕ) (p q : State) (t : Token) (old new : Reader) → is_keyword text t ≡ true → Passes old (t ∷ []) new
    → ((w : List ℕ) → map to_ascii_lowercase w ≡ text → next p (Name w) ≡ Some q) → course p old ≡ course q new
keyword_passed text p q t old new e passes h =
    let w = keyword-is text t e in
    passes_one p q t old new passes (subst (λ (u : Token). next p u ≡ Some q) (sym w.2) (h w.0 w.1))

abbrev no_comma : List Token → Type 0
no_comma ts = begins_with (same_sign Comma) ts ≡ false

-- a comma or none
pub comma_step : (at : Bool → State) (old new : Reader) (b : Bool) → Takes (same_sign Comma) old b new
    → next (at false) Comma ≡ Some (at true) → (course (at false) old ≡ course (at b) new) × (b ≡ false → no_comma (left new))
comma_step at old new true taken h = (takes_sign (at false) (at true) Comma old new taken h, λ e. absurd cc)
comma_step at old new false (none, same) h = (ap (course (at false)) (sym same), λ e. subst (λ (r : Reader). no_comma (left r)) (sym same) none)

-- a comma or none, and a keyword
pub comma_then : (at : Bool → State) (q : State) (text : List ℕ) (old mid new : Reader) (b : Bool) → Takes (same_sign Comma) old b mid
    → (t : Token) × (keyword_at text t ≡ Some tt) × Passes mid (t ∷ []) new → next (at false) Comma ≡ Some (at true)
    → ((c : Bool) (w : List ℕ) → map to_ascii_lowercase w ≡ text → next (at c) (Name w) ≡ Some q) → course (at false) old ≡ course q new
comma_then at q text old mid new b taken (t, read, passes) h k =
    let w = keyword_at-is text t tt read in
    (comma_step at old mid b taken h).0 ∙ passes_one (at b) q t mid new passes (subst (λ (u : Token). next (at b) u ≡ Some q) (sym w.2) (k b w.0 w.1))

-- ---- the flags of a command

abbrev pub flags_at : PlainSource → List ℕ → ℕ → Bool → Bool → Bool → State
flags_at done name code request pxy comma = (done, In_head name (Flags code request pxy comma))

abbrev pub command_at : PlainSource → List ℕ → ℕ → Bool → Bool → Option ℕ → State
command_at done name code request pxy app = (done, In_head name (Head_end (Command code request pxy app)))

-- what is not ahead after the flags
pub record Settled (request pxy comma : Bool) (ts : List Token) : Type 0 where
  pub comma_free : comma ≡ false → no_comma ts
  pub request_free : request ≡ false → pxy ≡ false → begins_with (is_keyword (codes "req")) ts ≡ false
  pub proxy_free : pxy ≡ false → begins_with (is_keyword (codes "pxy")) ts ≡ false

request_step : (done : PlainSource) (name : List ℕ) (code : ℕ) (comma : Bool) (old new : Reader) (found : Bool × Bool)
    → Flags_read (codes "req") comma old found new → (comma ≡ false → no_comma (left old))
    → (course (flags_at done name code false false comma) old ≡ course (flags_at done name code found.0 false found.1) new)
    × (found.1 ≡ false → no_comma (left new)) × (found.0 ≡ false → begins_with (is_keyword (codes "req")) (left new) ≡ false)
request_step done name code comma old new (true, b) (mid, (t, e, passes), taken) free =
    let s = comma_step (flags_at done name code true false) mid new b taken refl in
    (keyword_passed (codes "req") (flags_at done name code false false comma) (flags_at done name code true false false) t old mid e passes (by_comma comma) ∙ s.0, s.1, λ k. absurd cc)
  where
    by_comma : (c : Bool) (w : List ℕ) → map to_ascii_lowercase w ≡ codes "req" → next (flags_at done name code false false c) (Name w) ≡ Some (flags_at done name code true false false)
    by_comma c w k = rw k refl
request_step done name code comma old new (false, b) (mid, (none, same), (is, same2)) free =
    let all : new ≡ old = same2 ∙ same in (
      ap (λ (c : Bool). course (flags_at done name code false false c) old) (sym is) ∙ ap (course (flags_at done name code false false b)) (sym all),
      λ k. subst (λ (r : Reader). no_comma (left r)) (sym all) (free (sym is ∙ k)),
      λ k. subst (λ (r : Reader). begins_with (is_keyword (codes "req")) (left r) ≡ false) (sym all) none,
    )

proxy_step : (done : PlainSource) (name : List ℕ) (code : ℕ) (request comma : Bool) (old new : Reader) (found : Bool × Bool) → Flags_read (codes "pxy") comma old found new
    → (comma ≡ false → no_comma (left old)) → (request ≡ false → begins_with (is_keyword (codes "req")) (left old) ≡ false)
    → (course (flags_at done name code request false comma) old ≡ course (flags_at done name code request found.0 found.1) new) × Settled request found.0 found.1 (left new)
proxy_step done name code request comma old new (true, b) (mid, (t, e, passes), taken) free unasked =
    let s = comma_step (flags_at done name code request true) mid new b taken refl in (
      keyword_passed (codes "pxy") (flags_at done name code request false comma) (flags_at done name code request true false) t old mid e passes (λ w k. rw k refl) ∙ s.0,
      record { comma_free = s.1; request_free = λ r k. absurd cc; proxy_free = λ k. absurd cc },
    )
proxy_step done name code request comma old new (false, b) (mid, (none, same), (is, same2)) free unasked =
    let all : new ≡ old = same2 ∙ same in (
      ap (λ (c : Bool). course (flags_at done name code request false c) old) (sym is) ∙ ap (course (flags_at done name code request false b)) (sym all),
      record {
        comma_free = λ k. subst (λ (r : Reader). no_comma (left r)) (sym all) (free (sym is ∙ k));
        request_free = λ r k. subst (λ (x : Reader). begins_with (is_keyword (codes "req")) (left x) ≡ false) (sym all) (unasked r);
        proxy_free = λ k. subst (λ (r : Reader). begins_with (is_keyword (codes "pxy")) (left r) ≡ false) (sym all) none;
      },
    )

-- the comma and the two flags after a command's code
pub flags_read : (done : PlainSource) (name : List ℕ) (code : ℕ) (first second third last : Reader) (comma : Bool) (asked proxied : Bool × Bool)
    → Takes (same_sign Comma) first comma second → Flags_read (codes "req") comma second asked third → Flags_read (codes "pxy") asked.1 third proxied last
    → (course (flags_at done name code false false false) first ≡ course (flags_at done name code asked.0 proxied.0 proxied.1) last) × Settled asked.0 proxied.0 proxied.1 (left last)
flags_read done name code first second third last comma asked proxied a b c =
    let s = comma_step (flags_at done name code false false) first second comma a refl in
    let r = request_step done name code comma second third asked b s.1 in
    let p = proxy_step done name code asked.0 asked.1 third last proxied c r.1 r.2 in
    (s.0 ∙ r.0 ∙ p.0, p.1)

no_flag : (code : ℕ) (request pxy : Bool) (w : List ℕ) → (request ≡ false → pxy ≡ false → is_keyword (codes "req") (Name w) ≡ false)
    → (pxy ≡ false → is_keyword (codes "pxy") (Name w) ≡ false) → next_flag code request pxy (Name w) ≡ None
no_flag code true true w a b = both_none (is_keyword (codes "req") (Name w)) (is_keyword (codes "pxy") (Name w))
  where
    both_none : (x y : Bool) → ◌≡◌ {A = Option HeadPlace} (cond x None (cond y None None)) None
    both_none true y = refl
    both_none false true = refl
    both_none false false = refl
no_flag code false true w a b = both_none (is_keyword (codes "req") (Name w)) (is_keyword (codes "pxy") (Name w))
  where
    both_none : (x y : Bool) → ◌≡◌ {A = Option HeadPlace} (cond x None (cond y None None)) None
    both_none true y = refl
    both_none false true = refl
    both_none false false = refl
no_flag code true false w a b = one_none (is_keyword (codes "req") (Name w)) (is_keyword (codes "pxy") (Name w)) (b refl)
  where
    one_none : (x y : Bool) → y ≡ false → ◌≡◌ {A = Option HeadPlace} (cond x None (cond y (Some (Flags code true true false)) None)) None
    one_none true y e = refl
    one_none false y e = rw e refl
no_flag code false false w a b = rw (a refl refl, b refl) refl

-- after a comma a number has to follow, where no flag does
pub number_wanted : (done : PlainSource) (name : List ℕ) (code : ℕ) (request pxy comma : Bool) (ts : List Token) → Settled request pxy comma ts → (comma || begins_with is_number ts) ≡ true
    → Wants true false (λ t. option_map (λ n. command_at done name code request pxy (Some n)) (number_at 0 max_number t)) (flags_at done name code request pxy comma) ts
number_wanted done name code request pxy comma [] s h = refl
number_wanted done name code request pxy true (Name w ∷ us) s h = (rw (no_flag code request pxy w s.request_free s.proxy_free) refl, refl)
number_wanted done name code request pxy true (Number n ∷ us) s h =
    (map_twice (λ to. (done, In_head name to)) (λ n. Head_end (Command code request pxy (Some n))) (number_at 0 max_number (Number n)), refl)
number_wanted done name code request pxy true (t ∷ us) s h = (refl, refl)
number_wanted done name code request pxy false (Number n ∷ us) s h =
    (map_twice (λ to. (done, In_head name to)) (λ n. Head_end (Command code request pxy (Some n))) (number_at 0 max_number (Number n)), refl)
number_wanted done name code request pxy false (t ∷ us) s h = absurd cc

-- where neither a comma nor a flag nor a number is ahead the head ends
pub command_ends : (done : PlainSource) (name : List ℕ) (code : ℕ) (request pxy comma : Bool) (ts : List Token) → Settled request pxy comma ts → (comma || begins_with is_number ts) ≡ false
    → outcome (flags_at done name code request pxy comma) ts ≡ outcome (command_at done name code request pxy None) ts
command_ends done name code request pxy true ts s h = absurd cc
command_ends done name code request pxy false ts s h = outcome_same (flags_at done name code request pxy false) (command_at done name code request pxy None) ts
    (λ t us e. at_token t us (subst (λ (f : List Token). Settled request pxy false f) e s) (ap (begins_with is_number) (sym e) ∙ h)) (λ e. refl)
  where
    at_token : (t : Token) (us : List Token) → Settled request pxy false (t ∷ us) → is_number t ≡ false
        → (next (flags_at done name code request pxy false) t ≡ next (command_at done name code request pxy None) t)
        × (refused (flags_at done name code request pxy false) t ≡ refused (command_at done name code request pxy None) t)
    at_token (Number n) us k free = absurd cc
    at_token Comma us k free = absurd (let e = k.comma_free refl in cc)
    at_token (Name w) us k free = (rw (no_flag code request pxy w k.request_free k.proxy_free) refl, refl)
    at_token t us k free = (refl, refl)

-- a command from its code to its flags
pub command_begun : (done : PlainSource) (name : List ℕ) (code : ℕ) (start first second third last : Reader) (comma : Bool) (asked proxied : Bool × Bool)
    → (t : Token) × (number_at 0 max_command_code t ≡ Some code) × Passes start (t ∷ []) first
    → Takes (same_sign Comma) first comma second → Flags_read (codes "req") comma second asked third → Flags_read (codes "pxy") asked.1 third proxied last
    → (course (done, In_head name Command_code) start ≡ course (flags_at done name code asked.0 proxied.0 proxied.1) last) × Settled asked.0 proxied.0 proxied.1 (left last)
command_begun done name code start first second third last comma asked proxied n a b c =
    let k = number_passed (done, In_head name Command_code) (λ m. flags_at done name m false false false) 0 max_command_code code start first n
    (λ m. map_twice (λ to. (done, In_head name to)) (λ m. Flags m false false false) (number_at 0 max_command_code (Number m))) in
    let f = flags_read done name code first second third last comma asked proxied a b c in
    (k ∙ f.0, f.1)

pub takes_farther : (test : Token → Bool) (old new : Reader) (b : Bool) → Takes test old b new → old.taken ≤ new.taken
takes_farther test old new true (t, e, passes) = omega (arith, passes.2)
takes_farther test old new false (none, same) = subst (λ (r : Reader). old.taken ≤ r.taken) (sym same) (omega arith)

-- ---- numbers in bounds

pub number_small : (most n : ℕ) (t : Token) → number_at 0 most t ≡ Some n → nat_lt n (most + 1) ≡ true
number_small most n t h = let is = number_at-is 0 most t n h in lt-ltb n (most + 1) (omega (arith, is.2))

pub both_hold : (a b : Bool) → a ≡ true → b ≡ true → (a && b) ≡ true
both_hold a b h k = rw (h, k) refl

-- ---- the number of a command

pub code_wanted : (done : PlainSource) (name : List ℕ) (ts : List Token) → begins_with (is_keyword (codes "code")) ts ≡ false
    → Wants true false (λ t. option_map (λ n. flags_at done name n false false false) (number_at 0 max_command_code t)) (done, In_head name Command_code) ts
code_wanted done name [] h = refl
code_wanted done name (Number n ∷ us) h = (map_twice (λ to. (done, In_head name to)) (λ m. Flags m false false false) (number_at 0 max_command_code (Number n)), refl)
code_wanted done name (Name w ∷ us) h = (rw h refl, refl)
code_wanted done name (t ∷ us) h = (refl, refl)

-- ---- the numbers of a group

abbrev pub group_at : PlainSource → List ℕ → ℕ → Bool → State
group_at done name code comma = (done, In_head name (Group_vendor code comma))

abbrev pub group_end : PlainSource → List ℕ → ℕ → ℕ → State
group_end done name code vendor = (done, In_head name (Head_end (Group code vendor)))

pub group_wanted : (done : PlainSource) (name : List ℕ) (ts : List Token)
    → Wants true false (λ t. option_map (λ n. group_at done name n false) (number_at 0 max_number t)) (done, In_head name Group_code) ts
group_wanted done name [] = refl
group_wanted done name (Number n ∷ us) = (map_twice (λ to. (done, In_head name to)) (λ m. Group_vendor m false) (number_at 0 max_number (Number n)), refl)
group_wanted done name (t ∷ us) = (refl, refl)

-- a group from its code to its comma
pub group_begun : (done : PlainSource) (name : List ℕ) (code : ℕ) (start first second : Reader) (comma : Bool)
    → (t : Token) × (number_at 0 max_number t ≡ Some code) × Passes start (t ∷ []) first → Takes (same_sign Comma) first comma second
    → (course (done, In_head name Group_code) start ≡ course (group_at done name code comma) second) × (comma ≡ false → no_comma (left second))
group_begun done name code start first second comma n a =
    let k = number_passed (done, In_head name Group_code) (λ m. group_at done name m false) 0 max_number code start first n
    (λ m. map_twice (λ to. (done, In_head name to)) (λ m. Group_vendor m false) (number_at 0 max_number (Number m))) in
    let s = comma_step (group_at done name code) first second comma a refl in
    (k ∙ s.0, s.1)

-- after a comma a number has to follow
pub vendor_wanted : (done : PlainSource) (name : List ℕ) (code : ℕ) (comma : Bool) (ts : List Token) → (comma || begins_with is_number ts) ≡ true
    → Wants true false (λ t. option_map (group_end done name code) (number_at 0 max_number t)) (group_at done name code comma) ts
vendor_wanted done name code comma [] h = refl
vendor_wanted done name code comma (Number n ∷ us) h = (map_twice (λ to. (done, In_head name to)) (λ n. Head_end (Group code n)) (number_at 0 max_number (Number n)), refl)
vendor_wanted done name code true (t ∷ us) h = (refl, refl)
vendor_wanted done name code false (t ∷ us) h = absurd cc

-- where neither a comma nor a number is ahead the head ends
pub group_ends : (done : PlainSource) (name : List ℕ) (code : ℕ) (comma : Bool) (ts : List Token) → (comma ≡ false → no_comma ts) → (comma || begins_with is_number ts) ≡ false
    → outcome (group_at done name code comma) ts ≡ outcome (group_end done name code 0) ts
group_ends done name code true ts s h = absurd cc
group_ends done name code false ts s h = outcome_same (group_at done name code false) (group_end done name code 0) ts
    (λ t us e. at_token t us (subst (λ (f : List Token). no_comma f) e (s refl)) (ap (begins_with is_number) (sym e) ∙ h)) (λ e. refl)
  where
    at_token : (t : Token) (us : List Token) → no_comma (t ∷ us) → is_number t ≡ false
        → (next (group_at done name code false) t ≡ next (group_end done name code 0) t) × (refused (group_at done name code false) t ≡ refused (group_end done name code 0) t)
    at_token (Number n) us k free = absurd cc
    at_token Comma us k free = absurd cc
    at_token t us k free = (refl, refl)

-- ---- a keyword after a comma or none, where the keyword is refused

abbrev Expects : State → State → List ℕ → Token → Type 0
Expects state to text t = (next state t ≡ option_map (λ u. to) (keyword_at text t)) × (refused state t ≡ why false false t)

keyword_stops : (at : Bool → State) (to : State) (text : List ℕ) (old mid new : Reader) (b : Bool) (k : Refusal) → next (at false) Comma ≡ Some (at true)
    → ((c : Bool) → whole (at c) ≡ None) → ((c : Bool) (t : Token) → (c ≡ false → same_sign Comma t ≡ false) → Expects (at c) to text t)
    → Takes (same_sign Comma) old b mid → AcceptsUnless false false (keyword_at text) mid k new → StopsAt (course (at false) old) k new
keyword_stops at to text old mid new b k begins unfinished expects taken recorded =
    let s = comma_step at old mid b taken begins in
    subst (λ (from : Course). StopsAt from k new) (sym s.0)
    (accepted {X = Unit {0}} false false (keyword_at text) (λ u. tt) (λ u. to) (at b) mid new (Err k) (wanted (left mid) s.1) recorded)
  where
    wanted : (ts : List Token) → (b ≡ false → no_comma ts) → Wants false false (λ t. option_map (λ u. to) (keyword_at text t)) (at b) ts
    wanted [] f = unfinished b
    wanted (t ∷ us) f = expects b t f

-- `PXY` in the brackets of the head for errors
pub proxy_stops : (done : PlainSource) (name : List ℕ) (old mid new : Reader) (b : Bool) (k : Refusal) → Takes (same_sign Comma) old b mid
    → AcceptsUnless false false (keyword_at (codes "pxy")) mid k new → StopsAt (course (done, In_head name (Error_either false)) old) k new
proxy_stops done name old mid new b k taken recorded =
    keyword_stops (λ c. (done, In_head name (Error_either c))) (done, In_head name Error_close) (codes "pxy") old mid new b k refl (λ c. refl) expects taken recorded
  where
    expects : (c : Bool) (t : Token) → (c ≡ false → same_sign Comma t ≡ false) → Expects (done, In_head name (Error_either c)) (done, In_head name Error_close) (codes "pxy") t
    expects c (Name w) f = (map_twice (λ to. (done, In_head name to)) (λ u. Error_close) (keyword_at (codes "pxy") (Name w)), refl)
    expects true t f = (refl, refl)
    expects false Comma f = absurd (let e = f refl in cc)
    expects false t f = (refl, refl)

-- `ERR`
pub error_stops : (done : PlainSource) (name : List ℕ) (old mid new : Reader) (b : Bool) (k : Refusal) → Takes (same_sign Comma) old b mid
    → AcceptsUnless false false (keyword_at (codes "err")) mid k new → StopsAt (course (done, In_head name (Error_word false)) old) k new
error_stops done name old mid new b k taken recorded =
    keyword_stops (λ c. (done, In_head name (Error_word c))) (done, In_head name (Error_flags false)) (codes "err") old mid new b k refl (λ c. refl) expects taken recorded
  where
    expects : (c : Bool) (t : Token) → (c ≡ false → same_sign Comma t ≡ false) → Expects (done, In_head name (Error_word c)) (done, In_head name (Error_flags false)) (codes "err") t
    expects c (Name w) f = (map_twice (λ to. (done, In_head name to)) (λ u. Error_flags false) (keyword_at (codes "err") (Name w)), refl)
    expects true t f = (refl, refl)
    expects false Comma f = absurd (let e = f refl in cc)
    expects false t f = (refl, refl)

-- the closing bracket of `PXY`
pub either_closes : (done : PlainSource) (name : List ℕ) (ts : List Token)
    → Wants false false (λ t. option_map (λ u. (done, In_head name (Head_end (Error Either)))) (sign_at Close_bracket t)) (done, In_head name Error_close) ts
either_closes done name [] = refl
either_closes done name (Close_bracket ∷ us) = (refl, refl)
either_closes done name (t ∷ us) = (refl, refl)

-- the `>` of a head
pub head_closed : (done : PlainSource) (name : List ℕ) (head : Head) (t : Token)
    → next (done, In_head name (Head_end head)) t ≡ option_map (λ u. (done, Rules (record { name = name; head = head; rules = [] }))) (sign_at Greater t)
head_closed done name head Greater = refl
head_closed done name head t = refl

-- the colon of a head
pub avp_colon : (done : PlainSource) (name : List ℕ) (t : Token) → next (done, In_head name Avp_colon) t ≡ option_map (λ u. (done, In_head name Group_code)) (sign_at Colon t)
avp_colon done name Greater = refl
avp_colon done name Colon = refl
avp_colon done name t = refl

pub diameter_colon : (done : PlainSource) (name : List ℕ) (t : Token) → next (done, In_head name Diameter_colon) t ≡ option_map (λ u. (done, In_head name Command_code)) (sign_at Colon t)
diameter_colon done name Greater = refl
diameter_colon done name Colon = refl
diameter_colon done name t = refl
