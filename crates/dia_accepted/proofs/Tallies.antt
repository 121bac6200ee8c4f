-- Lines of which each cause is recorded once, and how often causes were counted.
use Rattle.std.proofs.Common.{◌≡◌, ℕ, ◌+◌, ◌^◌, ◌<◌, ◌≤◌, Bool, true, false, cond, List, [], ◌∷◌, ◌++◌, map, take, get_or, length, string_bytes, Bor, Result, Ok, Err, refl, sym, ap, subst, ◌∙◌, append_assoc, arith, inl, inr}
use Rattle.std.specs.declared.string.String.{String}
use Rattle.std.specs.Prelude.{◌≢◌, ◌==◌, ◌⊎◌, ◌&&◌, ◌||◌, IfOk, drop, filter, is_some, nat_eq, not, Some, None, Option, unwrap_or}
use Rattle.std.specs.Cmp.{IsEquivalence}
use Rattle.std.specs.List.{count_by, list_any}
use Rattle.std.specs.Global.{Vec}
use Rattle.std.specs.Option.{MatchOption}
use Rattle.std.specs.Str.{bytes_eq}
use Rattle.std.specs.Str.Pattern.{FindsCharPrefix}
use Rattle.std.proofs.lemmas.Bool.{eqb-true}
use Rattle.std.proofs.lemmas.Cmp.{nat_eq_equiv}
use Rattle.std.proofs.lemmas.List.{append-nil, map-append, take_more}
use Rattle.std.proofs.lemmas.List.Elements.{filter-append}
use Rattle.std.proofs.lemmas.List.Folds.{list_any-append}
use Rattle.std.proofs.lemmas.List.Sums.{sum_by_push}
use Rattle.std.proofs.lemmas.Map.Steps.{list_any_congr}
use Rattle.std.proofs.lemmas.Slice.Eq.{bytes_eq-Decides}
use Rattle.std.proofs.lemmas.Str.Pattern.{strip_prefix_char}
use Rattle.indexmap.specs.IndexMap.{insert_entry}
use Rattle.indexmap.specs.IndexSet.{insert_key}
use Rattle.dia_accepted.specs.declared.counting.Causes.{Causes}
use Rattle.dia_accepted.specs.declared.recorded.Recorded.{Recorded}
use Rattle.dia_accepted.specs.Accepted.{PlainRecorded, plain_recorded}
use Rattle.dia_accepted.specs.Causes.{causes_of, each_once, has_cause, once_line, once_of, same_cause, same_cause_of_command}
use Rattle.dia_accepted.specs.Seen.{AreCauses, HaveCome, IsKeyOf, is_command, is_of, next_count, same_key}
use Rattle.dia_accepted.specs.Sets.{bytes_of, found, has, tally}
use Rattle.dia_accepted.specs.Words.{after_space, cause_text}
use Rattle.dia_accepted.proofs.Sets.{found_insert, or_false, or_true, same_vec}
use Rattle.dia_accepted.proofs.CauseLaws.{either_way, cause_laws, command_laws}

-- ---- each once

module _ {X : Type 0} {same : X → X → Bool} (laws : IsEquivalence same) where
  pub once_more : (xs : List X) (x : X) → each_once same (xs ++ x ∷ []) ≡ each_once same xs ++ cond (list_any (same x) xs) [] (x ∷ [])
  once_more [] x = refl
  once_more (y ∷ ys) x =
      let other = λ (z : X). not (same y z) in
      ap (λ (zs : List X). y ∷ filter other zs) (once_more ys x)
      ∙ ap (λ (zs : List X). y ∷ zs) (filter-append other (each_once same ys) (cond (list_any (same x) ys) [] (x ∷ [])))
      ∙ ap (λ (zs : List X). y ∷ (filter other (each_once same ys) ++ zs)) (last (list_any (same x) ys))
    where
      new : (b : Bool) → cond (not b) (x ∷ []) [] ≡ cond (b || false) [] (x ∷ [])
      new true = refl
      new false = refl

      last : (c : Bool) → filter (λ (z : X). not (same y z)) (cond c [] (x ∷ [])) ≡ cond (same x y || c) [] (x ∷ [])
      last true = sym (ap (λ (b : Bool). cond b [] (x ∷ [])) (or_true (same x y)))
      last false = new (same y x) ∙ ap (λ (b : Bool). cond (b || false) [] (x ∷ [])) (sym (laws.symm x y))

-- ---- lines and their keys

module _ {K : Type 0} {eq : K → K → Bool} {same : PlainRecorded → PlainRecorded → Bool} (laws : IsEquivalence same) (is_key : K → PlainRecorded → Type 0)
    (alike : (k j : K) (x y : PlainRecorded) → is_key k x → is_key j y → eq k j ≡ same x y) where
  -- what these keys have is what these lines have
  abbrev pub AreKeys : List K → List PlainRecorded → Type 0
  AreKeys keys xs = (k : K) (x : PlainRecorded) → is_key k x → list_any (eq k) keys ≡ list_any (same x) xs

  key_more : (keys : List K) (k : K) (xs : List PlainRecorded) (x : PlainRecorded) → is_key k x → AreKeys keys xs → AreKeys (insert_key eq keys k) (xs ++ x ∷ [])
  key_more keys k xs x made before = λ j y is_y. by j y is_y (list_any (eq k) keys) refl ∙ sym (list_any-append (same y) xs (x ∷ []))
    where
      kept : (y : PlainRecorded) (b : Bool) → same y x ≡ b → list_any (eq k) keys ≡ true → list_any (same y) xs ≡ (list_any (same y) xs || (same y x || false))
      kept y true e inside =
          let here = list_any_congr laws y x xs e ∙ sym (before k x made) ∙ inside in here ∙ sym (ap (λ (b : Bool). b || (same y x || false)) here)
      kept y false e inside = sym (ap (λ (b : Bool). list_any (same y) xs || (b || false)) e ∙ or_false (list_any (same y) xs))

      by : (j : K) (y : PlainRecorded) → is_key j y → (b : Bool) → list_any (eq k) keys ≡ b → list_any (eq j) (insert_key eq keys k) ≡ (list_any (same y) xs || (same y x || false))
      by j y is_y true e = ap (λ (b : Bool). list_any (eq j) (cond b keys (keys ++ k ∷ []))) e ∙ before j y is_y ∙ kept y (same y x) refl e
      by j y is_y false e =
          ap (λ (b : Bool). list_any (eq j) (cond b keys (keys ++ k ∷ []))) e ∙ list_any-append (eq j) keys (k ∷ [])
          ∙ (λ i. (before j y is_y i || (alike j k y x is_y made i || false)))

pub keys_alike : (k j : ℕ × Vec ℕ) (x y : PlainRecorded) → IsKeyOf k x → IsKeyOf j y → same_key k j ≡ same_cause_of_command x y
keys_alike k j x y e f = λ i. (nat_eq (e.0 i) (f.0 i) && bytes_eq (e.1 i) (f.1 i))

-- ---- counts

count_more : {X : Type 0} (p : X → Bool) (xs : List X) (x : X) → count_by p (xs ++ x ∷ []) ≡ cond (p x) (count_by p xs + 1) (count_by p xs)
count_more p xs x = sum_by_push (λ y. cond (p y) 1 0) xs x ∙ by (p x) (count_by p xs)
  where
    by : (b : Bool) (n : ℕ) → n + cond b 1 0 ≡ cond b (n + 1) n
    by true n = refl
    by false n = omega arith

-- an empty map has nothing
pub has_insert : (es new : List (Vec ℕ × ℕ)) (k : Vec ℕ) (v : ℕ) (cause x : List ℕ) → bytes_of k ≡ cause → new ≡ insert_entry same_vec es k v → has new x ≡ (bytes_eq x cause || has es x)
has_insert es new k v cause x is inserted =
    ap (λ (o : List (Vec ℕ × ℕ)). has o x) inserted ∙ ap is_some (found_insert k v x es) ∙ by (bytes_eq x (bytes_of k)) (found es x) ∙ ap (λ (c : List ℕ). bytes_eq x c || has es x) is
  where
    by : (b : Bool) (o : Option ℕ) → is_some (cond b (Some v) o) ≡ (b || is_some o)
    by true o = refl
    by false o = refl

pub tally_insert : (es new : List (Vec ℕ × ℕ)) (k : Vec ℕ) (v : ℕ) (cause x : List ℕ) → bytes_of k ≡ cause → new ≡ insert_entry same_vec es k v → tally new x ≡ cond (bytes_eq x cause) v (tally es x)
tally_insert es new k v cause x is inserted =
    ap (λ (o : List (Vec ℕ × ℕ)). tally o x) inserted ∙ ap (λ (o : Option ℕ). unwrap_or o 0) (found_insert k v x es) ∙ by (bytes_eq x (bytes_of k)) (found es x)
    ∙ ap (λ (c : List ℕ). cond (bytes_eq x c) v (tally es x)) is
  where
    by : (b : Bool) (o : Option ℕ) → unwrap_or (cond b (Some v) o) 0 ≡ cond b v (unwrap_or o 0)
    by true o = refl
    by false o = refl

-- ---- a line that comes

-- where no line of the command came before
none_of_command : (done : List PlainRecorded) (t : PlainRecorded) → list_any (is_command t.command) done ≡ false → list_any (same_cause_of_command t) done ≡ false
none_of_command [] t none = refl
none_of_command (s ∷ done) t none =
    by (nat_eq t.command s.command) none (none_of_command done t)
  where
    by : (b : Bool) → (b || list_any (is_command t.command) done) ≡ false → (list_any (is_command t.command) done ≡ false → list_any (same_cause_of_command t) done ≡ false)
        → ((b && same_cause t s) || list_any (same_cause_of_command t) done) ≡ false
    by true e more = absurd (let z : true ≡ false = e in cc)
    by false e more = more e

small_next : (n visits : ℕ) → n + 1 ≤ visits + 1 → visits < 2 ^ 63 → next_count true n ≡ n + 1
small_next n visits less small = omega (arith, less, small)

module _ (done own : List PlainRecorded) (t : PlainRecorded) (visits : ℕ) (old new : Causes) (key : ℕ × Vec ℕ) (cause : List ℕ) (before : Bool) (cause_is : cause ≡ cause_text t.words)
    (others : list_any (is_command t.command) done ≡ false) (came : HaveCome old done own t.command visits) (before_is : list_any (same_cause_of_command t) own ≡ before)
    (counted : (x : List ℕ) → tally new.counts.entries x ≡ cond (bytes_eq x cause) (next_count (not before) (tally old.counts.entries cause)) (tally old.counts.entries x)) where
  abbrev both : List PlainRecorded
  both = done ++ own

  abbrev count : List ℕ → ℕ
  count x = count_by (has_cause x) (each_once same_cause_of_command both)

  abbrev bound : List ℕ → Type 0
  bound x = tally new.counts.entries x + cond (list_any (is_of t.command x) (own ++ t ∷ [])) 0 1 ≤ visits + 1

  same_here : (x : List ℕ) → bytes_eq x cause ≡ true → x ≡ cause_text t.words
  same_here x e = (bytes_eq-Decides x cause).0 e ∙ cause_is

  -- of the cause itself a line of the command has come before or not
  own_cause : (x : List ℕ) → bytes_eq x cause ≡ true → list_any (is_of t.command x) own ≡ before
  own_cause x e = ap (λ (c : List ℕ). list_any (is_of t.command c) own) (same_here x e) ∙ before_is

  once_line_more : each_once same_cause_of_command (both ++ t ∷ []) ≡ each_once same_cause_of_command both ++ cond before [] (t ∷ [])
  once_line_more =
      once_more command_laws both t
      ∙ ap (λ (b : Bool). each_once same_cause_of_command both ++ cond b [] (t ∷ [])) (list_any-append (same_cause_of_command t) done own
      ∙ ap (λ (b : Bool). b || list_any (same_cause_of_command t) own) (none_of_command done t others) ∙ before_is)

  count_here : (x : List ℕ) → count_by (has_cause x) (each_once same_cause_of_command (both ++ t ∷ [])) ≡ cond before (count x) (cond (has_cause x t) (count x + 1) (count x))
  count_here x = ap (count_by (has_cause x)) once_line_more ∙ by before
    where
      by : (b : Bool) → count_by (has_cause x) (each_once same_cause_of_command both ++ cond b [] (t ∷ [])) ≡ cond b (count x) (cond (has_cause x t) (count x + 1) (count x))
      by true = ap (count_by (has_cause x)) (append-nil (each_once same_cause_of_command both))
      by false = count_more (has_cause x) (each_once same_cause_of_command both) t

  counts_more : (x : List ℕ) → visits < 2 ^ 63 → tally new.counts.entries x ≡ count_by (has_cause x) (each_once same_cause_of_command (both ++ t ∷ []))
  counts_more x small = counted x ∙ by (bytes_eq x cause) before refl refl ∙ sym (count_here x)
    where
      by : (b c : Bool) → bytes_eq x cause ≡ b → before ≡ c
          → cond b (next_count (not c) (tally old.counts.entries cause)) (tally old.counts.entries x) ≡ cond c (count x) (cond (has_cause x t) (count x + 1) (count x))
      by true true e f = ap (tally old.counts.entries) (sym ((bytes_eq-Decides x cause).0 e)) ∙ came.counts_are x
      by true false e f =
          let here : bytes_eq x (cause_text t.words) ≡ true = ap (bytes_eq x) (sym cause_is) ∙ e in
          let bounded = subst (λ (b : Bool). tally old.counts.entries x + cond b 0 1 ≤ visits + 1) (own_cause x e ∙ f) (came.bounded x) in
          ap (λ (y : List ℕ). next_count true (tally old.counts.entries y)) (sym ((bytes_eq-Decides x cause).0 e)) ∙ small_next (tally old.counts.entries x) visits bounded small
          ∙ ap (λ (n : ℕ). n + 1) (came.counts_are x) ∙ sym (ap (λ (b : Bool). cond b (count x + 1) (count x)) here)
      by false true e f = came.counts_are x
      by false false e f =
          let here : bytes_eq x (cause_text t.words) ≡ false = ap (bytes_eq x) (sym cause_is) ∙ e in came.counts_are x ∙ sym (ap (λ (b : Bool). cond b (count x + 1) (count x)) here)

  bounded_more : (x : List ℕ) → bound x
  bounded_more x = by (bytes_eq x cause) before refl refl
    where
      at_most : (b : Bool) (n m : ℕ) → n ≤ m → n + cond (b || true) 0 1 ≤ m
      at_most true n m le = omega (arith, le)
      at_most false n m le = omega (arith, le)

      below : (b : Bool) (n m : ℕ) → n + cond b 0 1 ≤ m → n ≤ m
      below true n m le = omega (arith, le)
      below false n m le = omega (arith, le)

      next_below : (n m : ℕ) → n + 1 ≤ m → next_count true n ≤ m
      next_below n m le = omega (arith, le)

      following : (b : Bool) → has_cause x t ≡ b → list_any (is_of t.command x) (own ++ t ∷ []) ≡ (list_any (is_of t.command x) own || b)
      following b e =
          list_any-append (is_of t.command x) own (t ∷ [])
          ∙ ap (λ (c : Bool). list_any (is_of t.command x) own || ((c && has_cause x t) || false)) (nat_eq_equiv.refl t.command) ∙ ap (λ (c : Bool). list_any (is_of t.command x) own || (c || false)) e
          ∙ ap (λ (c : Bool). list_any (is_of t.command x) own || c) (or_false b)

      old_bound : (b : Bool) → list_any (is_of t.command x) own ≡ b → tally old.counts.entries x + cond b 0 1 ≤ visits + 1
      old_bound b e = subst (λ (c : Bool). tally old.counts.entries x + cond c 0 1 ≤ visits + 1) e (came.bounded x)

      with_tally : (n : ℕ) (b : Bool) → tally new.counts.entries x ≡ n → list_any (is_of t.command x) (own ++ t ∷ []) ≡ b → n + cond b 0 1 ≤ visits + 1 → bound x
      with_tally n b e f le = subst (λ (c : Bool). tally new.counts.entries x + cond c 0 1 ≤ visits + 1) (sym f) (subst (λ (m : ℕ). m + cond b 0 1 ≤ visits + 1) (sym e) le)

      by : (b c : Bool) → bytes_eq x cause ≡ b → before ≡ c → bound x
      by true true e f =
          let here : has_cause x t ≡ true = ap (bytes_eq x) (sym cause_is) ∙ e in
          let is : tally new.counts.entries x ≡ tally old.counts.entries x =
          counted x ∙ (λ i. cond (e i) (next_count (not (f i)) (tally old.counts.entries cause)) (tally old.counts.entries x)) ∙ ap (tally old.counts.entries) (sym ((bytes_eq-Decides x cause).0 e)) in
          with_tally (tally old.counts.entries x) (list_any (is_of t.command x) own || true) is (following true here)
          (at_most (list_any (is_of t.command x) own) (tally old.counts.entries x) (visits + 1) (below (list_any (is_of t.command x) own) (tally old.counts.entries x) (visits + 1) (came.bounded x)))
      by true false e f =
          let here : has_cause x t ≡ true = ap (bytes_eq x) (sym cause_is) ∙ e in
          let is : tally new.counts.entries x ≡ next_count true (tally old.counts.entries x) =
          counted x ∙ (λ i. cond (e i) (next_count (not (f i)) (tally old.counts.entries cause)) (tally old.counts.entries x))
          ∙ ap (λ (y : List ℕ). next_count true (tally old.counts.entries y)) (sym ((bytes_eq-Decides x cause).0 e)) in
          with_tally (next_count true (tally old.counts.entries x)) (list_any (is_of t.command x) own || true) is (following true here)
          (at_most (list_any (is_of t.command x) own) (next_count true (tally old.counts.entries x)) (visits + 1) (next_below (tally old.counts.entries x) (visits + 1) (old_bound false (own_cause x e ∙ f))))
      by false c e f =
          let here : has_cause x t ≡ false = ap (bytes_eq x) (sym cause_is) ∙ e in
          let is : tally new.counts.entries x ≡ tally old.counts.entries x = counted x ∙ ap (λ (b : Bool). cond b (next_count (not before) (tally old.counts.entries cause)) (tally old.counts.entries x)) e in
          with_tally (tally old.counts.entries x) (list_any (is_of t.command x) own) is (following false here ∙ or_false (list_any (is_of t.command x) own)) (came.bounded x)

  -- all of it
  pub come_more : (known : Bool) (first : PlainRecorded) → IsKeyOf key t → visits < 2 ^ 63 → known ≡ has old.counts.entries cause → first.command ≡ t.command → first.words ≡ t.words
      → (t.message ≡ first.message) ⊎ (list_any (has_cause cause) both ≡ true) → map plain_recorded new.firsts.items ≡ map plain_recorded old.firsts.items ++ cond known [] (first ∷ [])
      → ((x : List ℕ) → has new.counts.entries x ≡ (bytes_eq x cause || has old.counts.entries x)) → new.own.keys ≡ insert_key same_key old.own.keys key
      → HaveCome new done (own ++ t ∷ []) t.command visits
  come_more known first is_key small known_is same_command same_words message pushed has_more inserted =
      let joined : done ++ (own ++ t ∷ []) ≡ both ++ t ∷ [] = sym (append_assoc done own (t ∷ [])) in
      let asked : known ≡ list_any (same_cause t) both = known_is ∙ came.known_are cause ∙ ap (λ (c : List ℕ). list_any (has_cause c) both) cause_is in record {
        firsts_are = pushed ∙ ap (λ (xs : List PlainRecorded). xs ++ cond known [] (first ∷ [])) came.firsts_are ∙ ap (λ (xs : List PlainRecorded). causes_of both ++ xs) (added known asked)
            ∙ ap (λ (b : Bool). causes_of both ++ cond b [] (t ∷ [])) asked ∙ sym (once_more cause_laws both t) ∙ ap causes_of (sym joined);
        known_are = λ x. has_more x ∙ ap (λ (b : Bool). bytes_eq x cause || b) (came.known_are x) ∙ either_way (bytes_eq x cause) (list_any (has_cause x) both)
            ∙ ap (λ (c : List ℕ). list_any (has_cause x) both || bytes_eq x c) cause_is ∙ ap (λ (b : Bool). list_any (has_cause x) both || b) (sym (or_false (has_cause x t)))
            ∙ sym (list_any-append (has_cause x) both (t ∷ [])) ∙ ap (list_any (has_cause x)) (sym joined);
        counts_are = λ x. counts_more x small ∙ ap (λ (xs : List PlainRecorded). count_by (has_cause x) (each_once same_cause_of_command xs)) (sym joined);
        own_are = subst (λ (keys : List (ℕ × Vec ℕ)). AreKeys command_laws IsKeyOf keys_alike keys (own ++ t ∷ [])) (sym inserted) (key_more command_laws IsKeyOf keys_alike old.own.keys key own t is_key came.own_are);
        bounded = bounded_more;
      }
    where
      with_message : (m : List ℕ) → first.message ≡ m → first ≡ record { command = t.command; words = t.words; message = m }
      with_message m e = (λ i. record { command = same_command i; words = same_words i; message = e i })

      added : (b : Bool) → b ≡ list_any (same_cause t) both → cond b [] (first ∷ []) ≡ cond b [] (t ∷ [])
      added true e = refl
      added false e = by message
        where
          by : (t.message ≡ first.message) ⊎ (list_any (has_cause cause) both ≡ true) → first ∷ [] ≡ t ∷ []
          by (inl same) = ap (λ (x : PlainRecorded). x ∷ []) (with_message t.message (sym same))
          by (inr inside) = absurd (let z : false ≡ true = e ∙ ap (λ (c : List ℕ). list_any (has_cause c) both) (sym cause_is) ∙ inside in cc)

pub pushed_recorded : (old new : List Recorded) (t : Recorded) (known : Bool) → new ≡ old ++ cond known [] (t ∷ []) → map plain_recorded new ≡ map plain_recorded old ++ cond known [] (plain_recorded t ∷ [])
pushed_recorded old new t known pushed = ap (map plain_recorded) pushed ∙ map-append plain_recorded old (cond known [] (t ∷ [])) ∙ ap (λ (xs : List PlainRecorded). map plain_recorded old ++ xs) (by known)
  where
    by : (b : Bool) → map plain_recorded (cond b [] (t ∷ [])) ≡ cond b [] (plain_recorded t ∷ [])
    by true = refl
    by false = refl

-- a line of a command comes
pub causes_more : (forgets : Bool) (old new : Causes) (recorded : List PlainRecorded) (t first : PlainRecorded) (command visits : ℕ) (words cause : List ℕ) (key : ℕ × Vec ℕ) (known is_new : Bool)
    → visits < 2 ^ 63 → t.command ≡ command → t.words ≡ words → cause ≡ cause_text words → first.command ≡ command → first.words ≡ words
    → (t.message ≡ first.message) ⊎ (list_any (has_cause (cause_text words)) recorded ≡ true) → key.0 ≡ command → bytes_of key.1 ≡ cause → known ≡ has old.counts.entries cause
    → is_new ≡ not (list_any (same_key key) old.own.keys) → map plain_recorded new.firsts.items ≡ map plain_recorded old.firsts.items ++ cond known [] (first ∷ [])
    → ((x : List ℕ) → has new.counts.entries x ≡ (bytes_eq x cause || has old.counts.entries x))
    → ((x : List ℕ) → tally new.counts.entries x ≡ cond (bytes_eq x cause) (next_count is_new (tally old.counts.entries cause)) (tally old.counts.entries x))
    → new.own.keys ≡ insert_key same_key old.own.keys key → AreCauses forgets old recorded command visits → AreCauses forgets new (recorded ++ t ∷ []) command visits
causes_more forgets old new recorded t first command visits words cause key known is_new small command_is words_is cause_is first_command first_words message key_command key_cause known_is new_is pushed has_more counted inserted are =
    let here = subst (λ (k : ℕ). AreCauses forgets old recorded k visits) (sym command_is) are in
    let of_t : cause ≡ cause_text t.words = cause_is ∙ ap cause_text (sym words_is) in
    let is_key : IsKeyOf key t = (key_command ∙ sym command_is, key_cause ∙ of_t) in
    let before = list_any (same_cause_of_command t) here.own in
    let new_so : is_new ≡ not before = new_is ∙ ap not (here.come.own_are key t is_key) in
    let counts = λ (x : List ℕ). counted x ∙ ap (λ (b : Bool). cond (bytes_eq x cause) (next_count b (tally old.counts.entries cause)) (tally old.counts.entries x)) new_so in
    let kept : (t.message ≡ first.message) ⊎ (list_any (has_cause cause) (here.done ++ here.own) ≡ true) = or_inside message here.recorded_are in
    let come = come_more here.done here.own t visits old new key cause before of_t here.others here.come refl counts known first is_key small known_is (first_command ∙ sym command_is)
    (first_words ∙ sym words_is) kept pushed has_more inserted in
    subst (λ (k : ℕ). AreCauses forgets new (recorded ++ t ∷ []) k visits) command_is (record {
      done = here.done;
      own = here.own ++ t ∷ [];
      recorded_are = ap (λ (xs : List PlainRecorded). xs ++ t ∷ []) here.recorded_are ∙ append_assoc here.done here.own (t ∷ []);
      none_forgotten = here.none_forgotten;
      come = come;
      others = here.others;
    })
  where
    or_inside : {P : Type 0} {all : List PlainRecorded} → P ⊎ (list_any (has_cause (cause_text words)) recorded ≡ true) → recorded ≡ all → P ⊎ (list_any (has_cause cause) all ≡ true)
    or_inside (inl p) same = inl p
    or_inside (inr inside) same = inr ((λ i. list_any (has_cause (cause_is i)) (sym same i)) ∙ inside)

-- ---- commands

-- nothing has come
pub none_come : (forgets : Bool) (causes : Causes) (command : ℕ) → causes.firsts.items ≡ [] → causes.counts.entries ≡ [] → causes.own.keys ≡ [] → AreCauses forgets causes [] command 0
none_come forgets causes command no_firsts no_counts no_own = record {
  done = [];
  own = [];
  recorded_are = refl;
  none_forgotten = λ e. refl;
  come = record {
    firsts_are = ap (map plain_recorded) no_firsts;
    known_are = λ x. ap (λ (es : List (Vec ℕ × ℕ)). has es x) no_counts;
    counts_are = λ x. ap (λ (es : List (Vec ℕ × ℕ)). tally es x) no_counts;
    own_are = λ key t is. ap (λ (ks : List (ℕ × Vec ℕ)). list_any (same_key key) ks) no_own;
    bounded = λ x. let e = ap (λ (es : List (Vec ℕ × ℕ)). tally es x) no_counts in subst (λ (n : ℕ). n + 1 ≤ 1) (sym e) (omega arith);
  };
  others = refl;
}

few : (b : Bool) (n visits : ℕ) → n + cond b 0 1 ≤ visits + 1 → (c : Bool) → n + cond c 0 1 ≤ (visits + 1) + 1
few true n visits le true = omega (arith, le)
few true n visits le false = omega (arith, le)
few false n visits le true = omega (arith, le)
few false n visits le false = omega (arith, le)

-- the commands so far are forgotten
pub forgotten : (old new : Causes) (recorded : List PlainRecorded) (before command visits : ℕ) → list_any (is_command command) recorded ≡ false → new.firsts ≡ old.firsts → new.counts ≡ old.counts → new.own.keys ≡ []
    → AreCauses true old recorded before visits → AreCauses true new recorded command (visits + 1)
forgotten old new recorded before command visits none firsts counts no_own are =
    let all : are.done ++ are.own ≡ recorded ++ [] = sym are.recorded_are ∙ sym (append-nil recorded) in record {
      done = recorded;
      own = [];
      recorded_are = sym (append-nil recorded);
      none_forgotten = λ e. absurd (let z : true ≡ false = e in cc);
      come = record {
        firsts_are = ap (λ (f : Vec Recorded). map plain_recorded f.items) firsts ∙ are.come.firsts_are ∙ ap causes_of all;
        known_are = λ x. ap (λ c. has c.entries x) counts ∙ are.come.known_are x ∙ ap (list_any (has_cause x)) all;
        counts_are = λ x. ap (λ c. tally c.entries x) counts ∙ are.come.counts_are x ∙ ap (λ (xs : List PlainRecorded). count_by (has_cause x) (each_once same_cause_of_command xs)) all;
        own_are = λ key t is. ap (λ (ks : List (ℕ × Vec ℕ)). list_any (same_key key) ks) no_own;
        bounded = λ x. subst (λ (n : ℕ). n + 1 ≤ (visits + 1) + 1) (sym (ap (λ c. tally c.entries x) counts))
            (few (list_any (is_of before x) are.own) (tally old.counts.entries x) visits (are.come.bounded x) false);
      };
      others = none;
    }

-- ---- the lines that are reported

-- the line of a cause, by what was counted
abbrev pub line_by : List (Vec ℕ × ℕ) → PlainRecorded → PlainRecorded
line_by entries t = once_line (tally entries (cause_text t.words)) t

-- one line more
pub line_more : (line : PlainRecorded → PlainRecorded) (firsts : List Recorded) (i : ℕ) (t made : Recorded) (old new : List Recorded) → i < length firsts → t ≡ get_or firsts i t
    → new ≡ old ++ made ∷ [] → plain_recorded made ≡ line (plain_recorded t) → map plain_recorded old ≡ map line (map plain_recorded (take i firsts))
    → map plain_recorded new ≡ map line (map plain_recorded (take (i + 1) firsts))
line_more line firsts i t made old new less is pushed one before =
    let xs = map plain_recorded (take i firsts) in
    let taken = ap (map plain_recorded) (take_more firsts i t less) ∙ map-append plain_recorded (take i firsts) (get_or firsts i t ∷ []) ∙ ap (λ (x : Recorded). xs ++ plain_recorded x ∷ []) (sym is) in
    ap (map plain_recorded) pushed ∙ map-append plain_recorded old (made ∷ []) ∙ ap (λ (ts : List PlainRecorded). ts ++ plain_recorded made ∷ []) before
    ∙ ap (λ (x : PlainRecorded). map line xs ++ x ∷ []) one ∙ sym (map-append line xs (plain_recorded t ∷ [])) ∙ ap (map line) (sym taken)

pub all_once : (forgets : Bool) (causes : Causes) (recorded once : List PlainRecorded) (command visits : ℕ) → once ≡ map (line_by causes.counts.entries) (map plain_recorded causes.firsts.items)
    → AreCauses forgets causes recorded command visits → once ≡ once_of recorded
all_once forgets causes recorded once command visits made are =
    let come = are.come in
    made ∙ (λ i. map (λ (t : PlainRecorded). once_line (come.counts_are (cause_text t.words) i) t) (come.firsts_are i)) ∙ ap once_of (sym are.recorded_are)

-- ---- the text of a cause

-- a text without the space that it begins with, if there is one
pub without_space : (rest : List ℕ) (r : Option (Bor (List ℕ))) (whole : Bor (List ℕ))
    → MatchOption r (FindsCharPrefix 32 rest None) (λ x. (n : ℕ) × FindsCharPrefix 32 rest (Some n) × (x.now ≡ drop n rest) × (length x.now + n ≡ length rest)) → whole.now ≡ rest
    → (unwrap_or r whole).now ≡ after_space rest
without_space rest r whole cases is = by r (strip_prefix_char 32 rest r cases (omega arith))
  where
    kept : (rest : List ℕ) → ((tail : List ℕ) → rest ≢ 32 ∷ tail) → rest ≡ after_space rest
    kept [] never = refl
    kept (c ∷ cs) never = test (c == 32) refl
      where
        test : (b : Bool) → (c == 32) ≡ b → c ∷ cs ≡ after_space (c ∷ cs)
        test true e = absurd (never cs (ap (λ (n : ℕ). n ∷ cs) (eqb-true c 32 e)))
        test false e = sym (ap (λ (b : Bool). cond b cs (c ∷ cs)) e)

    by : (o : Option (Bor (List ℕ))) → MatchOption o ((tail : List ℕ) → rest ≢ 32 ∷ tail) (λ x. rest ≡ 32 ∷ x.now) → (unwrap_or o whole).now ≡ after_space rest
    by None never = is ∙ kept rest never
    by (Some x) e = sym (ap after_space e)

-- a text of seven parts
pub seven : {E Z : Type 0} (a b c d e f g : List ℕ) (r : Result (String Z) E)
    → IfOk r (λ s. string_bytes s ≡ a ++ (b ++ (c ++ (d ++ (e ++ (f ++ g)))))) → IfOk r (λ s. string_bytes s ≡ a ++ b ++ c ++ d ++ e ++ f ++ g)
seven a b c d e f g (Err x) is = tt
seven a b c d e f g (Ok s) is =
    is ∙ sym (append_assoc a b (c ++ (d ++ (e ++ (f ++ g))))) ∙ sym (append_assoc (a ++ b) c (d ++ (e ++ (f ++ g)))) ∙ sym (append_assoc (a ++ b ++ c) d (e ++ (f ++ g)))
    ∙ sym (append_assoc (a ++ b ++ c ++ d) e (f ++ g)) ∙ sym (append_assoc (a ++ b ++ c ++ d ++ e) f g)
