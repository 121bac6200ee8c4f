-- For each command some header selects it.
use Rattle.std.proofs.Common.{◌≡◌, ◌≢◌, ℕ, zero, suc, ◌+◌, ◌<◌, ◌^◌, ◌≤◌, true, false, length, Option, Some, None, refl, sym, ap, subst, ◌∙◌, arith, inl, inr}
use Rattle.std.specs.Prelude.{◌⊎◌, map, slice_get}
use Rattle.std.proofs.lemmas.Bool.{cases_lt}
use Rattle.std.proofs.lemmas.List.{length-map}
use Rattle.dia_wire.specs.declared.Header.{Header}
use Rattle.dia_wire.specs.declared.Key.{Key}
use Rattle.dia_wire.specs.Lengths.{three_bytes}
use Rattle.dia_book.specs.Limits.{max_parts}
use Rattle.dia_book.specs.declared.Class.{Class}
use Rattle.dia_book.specs.declared.Class.TheVariants as classes
use Rattle.dia_book.specs.declared.Pxy.{Pxy}
use Rattle.dia_book.specs.declared.Pxy.TheVariants.{Clear, Set, Either}
use Rattle.dia_book.specs.declared.DefHead.{DefHead}
use Rattle.dia_book.specs.declared.DefHead.TheVariants.{Group, Command, Error}
use Rattle.dia_book.specs.Dictionary.{Dictionary, PlainDefinition, IsDictionary, IsCommandHead, IsSameSelector, groups, is_command, selected}
use Rattle.dia_valid.specs.Commands.{HasCode, IsError}
use Rattle.dia_valid.specs.Valid.{AllowsP, PHolds, HasR, HasE, HasT, class_of}
use Rattle.dia_valid.proofs.Members.{IsIn, all_of, in_at}
use Rattle.dia_valid.proofs.Searches.{Found, NotFound, found_or_not}
use Rattle.dia_valid.proofs.SelectedCommands.{Choice, NoChoice, Reads, choose, is_of_code, is_of_errors, reads}
use Rattle.dia_breaking_shortest.proofs.Strangers.{at_most, in_map, key_at}
use Rattle.dia_lint.specs.Exact.{IsNumbered}

-- ---- flags

-- the flags of a message of this class, whose P is as asked
pub record AreFlags (class : Class) (p : Pxy) (flags : ℕ) : Type 0 where
  pub is_class : class_of flags ≡ class
  pub is_p : PHolds p flags
  pub no_error_request : HasR flags → ¬ HasE flags
  pub no_repeated_answer : HasT flags → HasR flags
  pub small : flags < 256

some_flags : (class : Class) (p : Pxy) → (flags : ℕ) × AreFlags class p flags
some_flags classes.Request Clear = (128, record { is_class = refl; is_p = λ h. h refl; no_error_request = λ r e. e refl; no_repeated_answer = λ t. absurd (t refl); small = omega arith })
some_flags classes.Request Set =
    (192, record { is_class = refl; is_p = λ e. let q : 64 ≡ 0 = e in omega (arith, q); no_error_request = λ r e. e refl; no_repeated_answer = λ t. absurd (t refl); small = omega arith })
some_flags classes.Request Either = (128, record { is_class = refl; is_p = tt; no_error_request = λ r e. e refl; no_repeated_answer = λ t. absurd (t refl); small = omega arith })
some_flags classes.Answer Clear = (0, record { is_class = refl; is_p = λ h. h refl; no_error_request = λ r e. e refl; no_repeated_answer = λ t. absurd (t refl); small = omega arith })
some_flags classes.Answer Set =
    (64, record { is_class = refl; is_p = λ e. let q : 64 ≡ 0 = e in omega (arith, q); no_error_request = λ r e. e refl; no_repeated_answer = λ t. absurd (t refl); small = omega arith })
some_flags classes.Answer Either = (0, record { is_class = refl; is_p = tt; no_error_request = λ r e. e refl; no_repeated_answer = λ t. absurd (t refl); small = omega arith })
some_flags classes.Error Clear = (32, record { is_class = refl; is_p = λ h. h refl; no_error_request = λ r. absurd (r refl); no_repeated_answer = λ t. absurd (t refl); small = omega arith })
some_flags classes.Error Set =
    (96, record { is_class = refl; is_p = λ e. let q : 64 ≡ 0 = e in omega (arith, q); no_error_request = λ r. absurd (r refl); no_repeated_answer = λ t. absurd (t refl); small = omega arith })
some_flags classes.Error Either = (32, record { is_class = refl; is_p = tt; no_error_request = λ r. absurd (r refl); no_repeated_answer = λ t. absurd (t refl); small = omega arith })

-- ---- an application that no command names

abbrev app_of : DefHead → ℕ
app_of (Command code class (Some app) p) = app
app_of head = 0

abbrev app_key : PlainDefinition → Key
app_key x = key_at (app_of x.head)

module _ (d : Dictionary) (is : IsDictionary d) (code : ℕ) (class : Class) (other : class ≢ classes.Error) where
  abbrev IsUnnamed : ℕ → Type 0
  IsUnnamed app = (x : PlainDefinition) → IsIn x d.commands → is_command code class (Some app) x.head ≡ false

  named : (app : ℕ) (x : PlainDefinition) → IsIn x d.commands → is_command code class (Some app) x.head ≡ true → app_key x ≡ key_at app
  named app x i h = by (reads d x code class (Some app) is i h)
    where
      by : Reads x code class (Some app) → app_key x ≡ key_at app
      by (inl (e, error)) = absurd (other error)
      by (inr read) = ap (λ (head : DefHead). key_at (app_of head)) read.0.head

  unnamed_or_all : (n : ℕ) → ((app : ℕ) → app < n → IsIn (key_at app) (map app_key d.commands)) ⊎ ((app : ℕ) × (app < n) × IsUnnamed app)
  unnamed_or_all zero = inl (λ app lt. absurd (omega (arith, lt)))
  unnamed_or_all (suc n) = by (found_or_not (λ (x : PlainDefinition). is_command code class (Some n) x.head) d.commands) (unnamed_or_all n)
    where
      by : Found (λ (x : PlainDefinition). is_command code class (Some n) x.head) d.commands ⊎ NotFound (λ (x : PlainDefinition). is_command code class (Some n) x.head) d.commands
          → ((app : ℕ) → app < n → IsIn (key_at app) (map app_key d.commands)) ⊎ ((app : ℕ) × (app < n) × IsUnnamed app)
          → ((app : ℕ) → app < suc n → IsIn (key_at app) (map app_key d.commands)) ⊎ ((app : ℕ) × (app < suc n) × IsUnnamed app)
      by found (inr (app, lt, none)) = inr (app, omega (arith, lt), none)
      by (inr none) (inl all) = inr (n, omega arith, none.none)
      by (inl found) (inl all) = inl (λ app lt. one app lt (cases_lt app n))
        where
          own : IsIn (key_at n) (map app_key d.commands)
          own =
              let i = in_at d.commands found.place found.item found.at in
              subst (λ (k : Key). IsIn k (map app_key d.commands)) (named n found.item i found.passes) (in_map app_key d.commands found.item i)

          one : (app : ℕ) → app < suc n → (app < n) ⊎ (n ≤ app) → IsIn (key_at app) (map app_key d.commands)
          one app lt (inl less) = all app less
          one app lt (inr le) = let same : n ≡ app = omega (arith, le, lt) in subst (λ (k : ℕ). IsIn (key_at k) (map app_key d.commands)) same own

  some_unnamed : (app : ℕ) × (app < 2 ^ 32) × IsUnnamed app
  some_unnamed = by (unnamed_or_all (suc max_parts))
    where
      by : ((app : ℕ) → app < suc max_parts → IsIn (key_at app) (map app_key d.commands)) ⊎ ((app : ℕ) × (app < suc max_parts) × IsUnnamed app) → (app : ℕ) × (app < 2 ^ 32) × IsUnnamed app
      by (inr (app, lt, none)) = (app, omega (arith, lt), none)
      by (inl all) =
          let le = at_most (suc max_parts) (map app_key d.commands) all in
          let size = length-map d.commands app_key in
          let few = is.few in
          absurd (omega (arith, le, size, few))

-- ---- a header of a command

-- a header that selects the command
pub record IsHeaderOf (d : Dictionary) (c : ℕ) (head : DefHead) (h : Header) : Type 0 where
  pub select : selected d h.code (class_of h.flags) h.app ≡ Some c
  pub proxiable : AllowsP head h.flags
  pub no_error_request : HasR h.flags → ¬ HasE h.flags
  pub no_repeated_answer : HasT h.flags → HasR h.flags
  pub flags : h.flags < 256
  pub code : h.code < three_bytes
  pub app : h.app < 2 ^ 32
  pub hop : h.hop ≡ 0
  pub e2e : h.e2e ≡ 0

module _ (d : Dictionary) (is : IsDictionary d) (i : ℕ) (c : PlainDefinition) (at : slice_get d.commands i ≡ Some c) where
  one_of : (j : ℕ) (x : PlainDefinition) → slice_get d.commands j ≡ Some x → IsSameSelector x.head c.head → length (groups d) + j ≡ length (groups d) + i
  one_of j x is_x same = ap (λ (n : ℕ). length (groups d) + n) (is.distinct_selectors j i x c is_x at same)

  abbrev Selects : ℕ → Class → ℕ → Type 0
  Selects code class app = selected d code class app ≡ Some (length (groups d) + i)

  here : IsIn c d.commands
  here = in_at d.commands i c at

  same_codes : (x : PlainDefinition) (code : ℕ) (class : Class) (app : Option ℕ) (p : Pxy) → c.head ≡ Command code class app p → HasCode x code class app → IsSameSelector x.head c.head
  same_codes x code class app p own read =
      let same : IsSameSelector (Command code class app read.p) (Command code class app p) = (refl, refl, refl) in
      subst (λ (h : DefHead). IsSameSelector h c.head) (sym read.head) (subst (IsSameSelector (Command code class app read.p)) (sym own) same)

  by_app : (code : ℕ) (class : Class) (app : ℕ) (p : Pxy) → class ≢ classes.Error → c.head ≡ Command code class (Some app) p → Selects code class app
  by_app code class app p other own = by (choose d code class app)
    where
      passes : is_command code class (Some app) c.head ≡ true
      passes = is_of_code c code class (Some app) (record { p = p; head = own })

      read : (x : Choice d code class app) → Reads x.command code class (Some app) → Selects code class app
      read x (inl (e, error)) = absurd (other error)
      read x (inr has) = x.is_selected ∙ ap (λ (n : ℕ). Some n) (one_of x.place x.command x.at (same_codes x.command code class (Some app) p own has.0))

      how : (x : Choice d code class app) → (is_command code class (Some app) x.command.head ≡ true)
          ⊎ ((is_command code class None x.command.head ≡ true) × ((y : PlainDefinition) → IsIn y d.commands → is_command code class (Some app) y.head ≡ false)) → Selects code class app
      how x (inl h) = read x (reads d x.command code class (Some app) is (in_at d.commands x.place x.command x.at) h)
      how x (inr (h, none)) = absurd (let bad : true ≡ false = sym passes ∙ none c here in cc)

      by : Choice d code class app ⊎ NoChoice d code class app → Selects code class app
      by (inl x) = how x x.how
      by (inr x) = absurd (let bad : true ≡ false = sym passes ∙ x.no_own c here in cc)

  by_none : (code : ℕ) (class : Class) (app : ℕ) (p : Pxy) → class ≢ classes.Error → c.head ≡ Command code class None p
      → ((x : PlainDefinition) → IsIn x d.commands → is_command code class (Some app) x.head ≡ false) → Selects code class app
  by_none code class app p other own unnamed = by (choose d code class app)
    where
      passes : is_command code class None c.head ≡ true
      passes = is_of_code c code class None (record { p = p; head = own })

      read : (x : Choice d code class app) → Reads x.command code class None → Selects code class app
      read x (inl (e, error)) = absurd (other error)
      read x (inr has) = x.is_selected ∙ ap (λ (n : ℕ). Some n) (one_of x.place x.command x.at (same_codes x.command code class None p own has.0))

      how : (x : Choice d code class app) → (is_command code class (Some app) x.command.head ≡ true)
          ⊎ ((is_command code class None x.command.head ≡ true) × ((y : PlainDefinition) → IsIn y d.commands → is_command code class (Some app) y.head ≡ false)) → Selects code class app
      how x (inl h) = absurd (let bad : true ≡ false = sym h ∙ unnamed x.command (in_at d.commands x.place x.command x.at) in cc)
      how x (inr (h, none)) = read x (reads d x.command code class None is (in_at d.commands x.place x.command x.at) h)

      by : Choice d code class app ⊎ NoChoice d code class app → Selects code class app
      by (inl x) = how x x.how
      by (inr x) = absurd (let bad : true ≡ false = sym passes ∙ x.no_common c here in cc)

  by_error : (p : Pxy) → c.head ≡ Error p → Selects 0 classes.Error 0
  by_error p own = by (choose d 0 classes.Error 0)
    where
      same_errors : (x : PlainDefinition) → IsError x → IsSameSelector x.head c.head
      same_errors x (q, e) =
          let same : IsSameSelector (Error q) (Error p) = tt in
          subst (λ (h : DefHead). IsSameSelector h c.head) (sym e) (subst (IsSameSelector (Error q)) (sym own) same)

      read : (x : Choice d 0 classes.Error 0) (app : Option ℕ) → Reads x.command 0 classes.Error app → Selects 0 classes.Error 0
      read x app (inl (error, e)) = x.is_selected ∙ ap (λ (n : ℕ). Some n) (one_of x.place x.command x.at (same_errors x.command error))
      read x app (inr (has, other)) = absurd (other refl)

      how : (x : Choice d 0 classes.Error 0) → (is_command 0 classes.Error (Some 0) x.command.head ≡ true)
          ⊎ ((is_command 0 classes.Error None x.command.head ≡ true) × ((y : PlainDefinition) → IsIn y d.commands → is_command 0 classes.Error (Some 0) y.head ≡ false)) → Selects 0 classes.Error 0
      how x (inl h) = read x (Some 0) (reads d x.command 0 classes.Error (Some 0) is (in_at d.commands x.place x.command x.at) h)
      how x (inr (h, none)) = read x None (reads d x.command 0 classes.Error None is (in_at d.commands x.place x.command x.at) h)

      by : Choice d 0 classes.Error 0 ⊎ NoChoice d 0 classes.Error 0 → Selects 0 classes.Error 0
      by (inl x) = how x x.how
      by (inr x) = absurd (let bad : true ≡ false = sym (is_of_errors c 0 classes.Error (Some 0) (p, own) refl) ∙ x.no_own c here in cc)

  with_flags : (code : ℕ) (class : Class) (app : ℕ) (p : Pxy) → Selects code class app → code < three_bytes → app < 2 ^ 32
      → ((flags : ℕ) → PHolds p flags → AllowsP c.head flags) → (h : Header) × IsHeaderOf d (length (groups d) + i) c.head h
  with_flags code class app p selects small fits allows =
      let (flags, are) = some_flags class p in (
        record { flags = flags; code = code; app = app; hop = 0; e2e = 0 },
        record {
          select = ap (λ (k : Class). selected d code k app) are.is_class ∙ selects;
          proxiable = allows flags are.is_p;
          no_error_request = are.no_error_request;
          no_repeated_answer = are.no_repeated_answer;
          flags = are.small;
          code = small;
          app = fits;
          hop = refl;
          e2e = refl;
        },
      )

  pub some_header : IsNumbered c.head → (h : Header) × IsHeaderOf d (length (groups d) + i) c.head h
  some_header numbered = by c.head refl numbered (all_of (λ (x : PlainDefinition). IsCommandHead x.head) d.commands c is.command_heads here)
    where
      by : (head : DefHead) → c.head ≡ head → IsNumbered head → IsCommandHead head → (h : Header) × IsHeaderOf d (length (groups d) + i) c.head h
      by (Group key) own n h = absurd n
      by (Command code class (Some app) p) own n other =
          with_flags code class app p (by_app code class app p other own) n.0 n.1 (λ flags holds. subst (λ (x : DefHead). AllowsP x flags) (sym own) holds)
      by (Command code class None p) own n other =
          let (app, fits, unnamed) = some_unnamed d is code class other in
          with_flags code class app p (by_none code class app p other own unnamed) n.0 fits (λ flags holds. subst (λ (x : DefHead). AllowsP x flags) (sym own) holds)
      by (Error p) own n h = with_flags 0 classes.Error 0 p (by_error p own) (omega arith) (omega arith) (λ flags holds. subst (λ (x : DefHead). AllowsP x flags) (sym own) holds)
