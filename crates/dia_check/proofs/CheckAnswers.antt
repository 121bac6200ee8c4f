-- What a check answers, from the walk that it makes or from the fault of the header; and that a valid message is found to be one.
use Rattle.std.proofs.Common.{◌≡◌, ◌≢◌, ℕ, ◌≤◌, true, false, List, length, take, Option, Some, None, refl, sym, ap, subst, ◌∙◌, arith, inl, inr, ⊎_elim}
use Rattle.std.specs.Prelude.{◌⊎◌, slice_get, Result, Ok, Err, MatchResult}
use Rattle.std.proofs.lemmas.Bool.{both_ways}
use Rattle.std.proofs.lemmas.Option.{same_Some, none-some}
use Rattle.dia_wire.specs.declared.Header.{Header}
use Rattle.dia_wire.proofs.OneHeader.{one_header}
use Rattle.dia_book.specs.Dictionary.{Dictionary, IsDictionary, PlainDefinition, definitions, selected, has_command}
use Rattle.dia_terms.specs.declared.Unknown.{Unknown}
use Rattle.dia_terms.specs.declared.Levels.{Levels}
use Rattle.dia_check.specs.declared.fault.Reason.{Reason}
use Rattle.dia_check.specs.declared.fault.Reason.TheVariants as reason
use Rattle.dia_check.specs.declared.fault.Subject.{Subject}
use Rattle.dia_check.specs.declared.fault.Selected.{Selected}
use Rattle.dia_check.specs.declared.fault.Refusal.{Refusal}
use Rattle.dia_check.specs.declared.fault.Refusal.TheVariants as refusal
use Rattle.dia_valid.specs.Valid.{HasR, HasE, HasT, class_of, AllowsP, IsValidOf}
use Rattle.dia_check.specs.Faults.{At, Spot, spot, IsBefore, Occurs, HasGoodHeader, HasHeader, HasLength, IsFirst, IsAnswer, simple}
use Rattle.dia_check.specs.Reasons.{row_of}
use Rattle.dia_check.specs.Faults as faults
use Rattle.dia_check.specs.Walks.{Found, Walks, whole, fault_of}
use Rattle.dia_check.proofs.FoundFaultsStand.{walks_occurs}
use Rattle.dia_check.proofs.Uniqueness.{selected_command}
use Rattle.dia_check.proofs.FirstFaults.{walks_first}
use Rattle.dia_check.proofs.FaultlessMessages.{walk_valid}
use Rattle.dia_check.proofs.OneAnswer.{one_answer}
use Rattle.dia_check.proofs.ValidMeansFaultless.{some_definition}

module _ (d : Dictionary) (sound : IsDictionary d) (u : Unknown) (most : Levels) (bytes : List ℕ) where
  -- ---- of the body

  pub found_first : (good : HasGoodHeader d bytes) (h : Found) → Walks d u most (whole good.command.rules bytes) (Some h) → IsFirst d u most bytes (fault_of h)
  found_first good h walk = record {
    row = h.spot.row;
    occurs = walks_occurs d sound u most bytes good h walk;
    code = refl;
    none_before = walks_first d u most bytes good h walk;
  }

  -- what is answered of a walk
  abbrev pub answer_of : HasGoodHeader d bytes → Option Found → Result Selected Refusal
  answer_of good None = Ok (record { def = good.c })
  answer_of good (Some h) = Err (refusal.Fault (fault_of h))

  pub walk_answers : HasLength bytes (length bytes) → (good : HasGoodHeader d bytes) (f : Option Found) → Walks d u most (whole good.command.rules bytes) f → IsAnswer d u most bytes (answer_of good f)
  walk_answers sized good None walk = walk_valid d sound u most bytes good walk
  walk_answers sized good (Some h) walk = inr (inr (sized, found_first good h walk))

  -- ---- of the header

  -- the header's faults; a fault of the body wants a good header
  abbrev IsGood : Header → Type 0
  IsGood h = ((HasR h.flags → ¬ HasE h.flags) × (HasT h.flags → HasR h.flags))
      × ((c : ℕ) × (command : PlainDefinition) × (selected d h.code (class_of h.flags) h.app ≡ Some c) × (slice_get (definitions d) c ≡ Some command) × AllowsP command.head h.flags)

  same_header : (h k : Header) → HasHeader bytes h → HasHeader bytes k → h ≡ k
  same_header h k x y = (one_header h k (length bytes) (length bytes) (take 20 bytes) x y).0

  is_good : (h : Header) → HasHeader bytes h → HasGoodHeader d bytes → IsGood h
  is_good h is good = subst IsGood (same_header good.header h good.is_header is) (good.bits, (good.c, good.command, good.select, good.is_command, good.proxiable))

  -- the faults of a header, and that it isn't good where it has one
  abbrev OfHeader : Header → Spot → Reason → Type 0
  OfHeader h other r =
      ((other ≡ spot 4 reason.Bits) × ((HasR h.flags × HasE h.flags) ⊎ (HasT h.flags × (¬ HasR h.flags))))
      ⊎ ((other ≡ spot 5 reason.Command) × (has_command d h.code (class_of h.flags) ≡ false))
      ⊎ ((other ≡ spot 8 reason.Application) × (has_command d h.code (class_of h.flags) ≡ true) × (selected d h.code (class_of h.flags) h.app ≡ None))
      ⊎ ((other ≡ spot 4 reason.Proxiable) × ((c : ℕ) × (selected d h.code (class_of h.flags) h.app ≡ Some c)))
      ⊎ HasGoodHeader d bytes

  of_header : (h : Header) → HasHeader bytes h → (other : Spot) (r : Reason) (t : Subject) → Occurs d u most bytes other r t → OfHeader h other r
  of_header h is other r t (faults.bits k is' bad) = inl (refl, subst (λ (x : Header). (HasR x.flags × HasE x.flags) ⊎ (HasT x.flags × (¬ HasR x.flags))) (same_header k h is' is) bad)
  of_header h is other r t (faults.command k is' none) = inr (inl (refl, subst (λ (x : Header). has_command d x.code (class_of x.flags) ≡ false) (same_header k h is' is) none))
  of_header h is other r t (faults.application k is' some none) =
      inr (inr (inl (
        refl,
        subst (λ (x : Header). has_command d x.code (class_of x.flags) ≡ true) (same_header k h is' is) some,
        subst
            (λ (x : Header). selected d x.code (class_of x.flags) x.app ≡ None) (same_header k h is' is) none,
      )))
  of_header h is other r t (faults.proxiable k c command is' select is_command bad) =
      inr (inr (inr (inl (refl, (c, subst (λ (x : Header). selected d x.code (class_of x.flags) x.app ≡ Some c) (same_header k h is' is) select)))))
  of_header h is other r t (faults.avp_length level earlier at looks from lt before none) = inr (inr (inr (inr looks.good)))
  of_header h is other r t (faults.avp level earlier v at q w meets bad) = inr (inr (inr (inr meets.looks.good)))
  of_header h is other r t (faults.missing_at_end level avps i rule looks spells first) = inr (inr (inr (inr looks.good)))

  later : (other place : Spot) (a : Spot) → other ≡ a → ¬ IsBefore a place → ¬ IsBefore other place
  later other place a e none before = none (subst (λ (x : Spot). IsBefore x place) e before)

  not_before : (a b : ℕ) (q r : Reason) → b ≤ a → (a ≡ b → row_of r ≤ row_of q) → ¬ IsBefore (spot a q) (spot b r)
  not_before a b q r le rows (inl less) = omega (arith, le, less)
  not_before a b q r le rows (inr (same, less)) = let row = rows same in omega (arith, row, less)

  pub bits_first : (h : Header) → HasHeader bytes h → (HasR h.flags × HasE h.flags) ⊎ (HasT h.flags × (¬ HasR h.flags)) → IsFirst d u most bytes (simple 4 reason.Bits)
  bits_first h is bad = record {
    row = At (row_of reason.Bits);
    occurs = faults.bits h is bad;
    code = refl;
    none_before = λ other r t occurs. by other r (of_header h is other r t occurs);
  }
    where
      by : (other : Spot) (r : Reason) → OfHeader h other r → ¬ IsBefore other (spot 4 reason.Bits)
      by other r (inl x) = later other (spot 4 reason.Bits) (spot 4 reason.Bits) x.0 (not_before 4 4 reason.Bits reason.Bits (omega arith) (λ e. omega arith))
      by other r (inr (inl x)) = later other (spot 4 reason.Bits) (spot 5 reason.Command) x.0 (not_before 5 4 reason.Command reason.Bits (omega arith) (λ e. omega arith))
      by other r (inr (inr (inl x))) = later other (spot 4 reason.Bits) (spot 8 reason.Application) x.0 (not_before 8 4 reason.Application reason.Bits (omega arith) (λ e. omega arith))
      by other r (inr (inr (inr (inl x)))) = later other (spot 4 reason.Bits) (spot 4 reason.Proxiable) x.0 (not_before 4 4 reason.Proxiable reason.Bits (omega arith) (λ e. omega arith))
      by other r (inr (inr (inr (inr good)))) = let rules = (is_good h is good).0 in absurd (⊎_elim (λ b. rules.0 b.0 b.1) (λ b. b.1 (rules.1 b.0)) bad)

  abbrev GoodBits : Header → Type 0
  GoodBits h = (HasR h.flags → ¬ HasE h.flags) × (HasT h.flags → HasR h.flags)

  no_bad_bits : (h : Header) → GoodBits h → ¬ ((HasR h.flags × HasE h.flags) ⊎ (HasT h.flags × (¬ HasR h.flags)))
  no_bad_bits h rules bad = ⊎_elim (λ b. rules.0 b.0 b.1) (λ b. b.1 (rules.1 b.0)) bad

  pub proxiable_first : (h : Header) (c : ℕ) (command : PlainDefinition) → HasHeader bytes h → GoodBits h → selected d h.code (class_of h.flags) h.app ≡ Some c
      → slice_get (definitions d) c ≡ Some command → ¬ AllowsP command.head h.flags
      → IsFirst d u most bytes (simple 4 reason.Proxiable)
  proxiable_first h c command is rules select is_command bad = record {
    row = At (row_of reason.Proxiable);
    occurs = faults.proxiable h c command is select is_command bad;
    code = refl;
    none_before = λ other r t occurs. by other r (of_header h is other r t occurs);
  }
    where
      by : (other : Spot) (r : Reason) → OfHeader h other r → ¬ IsBefore other (spot 4 reason.Proxiable)
      by other r (inl x) = absurd (no_bad_bits h rules x.1)
      by other r (inr (inl x)) = later other (spot 4 reason.Proxiable) (spot 5 reason.Command) x.0 (not_before 5 4 reason.Command reason.Proxiable (omega arith) (λ e. omega arith))
      by other r (inr (inr (inl x))) = later other (spot 4 reason.Proxiable) (spot 8 reason.Application) x.0 (not_before 8 4 reason.Application reason.Proxiable (omega arith) (λ e. omega arith))
      by other r (inr (inr (inr (inl x)))) = later other (spot 4 reason.Proxiable) (spot 4 reason.Proxiable) x.0 (not_before 4 4 reason.Proxiable reason.Proxiable (omega arith) (λ e. omega arith))
      by other r (inr (inr (inr (inr good)))) =
          let (k, other_command, select', is_command', allows) = (is_good h is good).1 in
          let same : k ≡ c = same_Some k c (sym select' ∙ select) in
          let one : other_command ≡ command = same_Some other_command command (sym is_command' ∙ ap (λ (n : ℕ). slice_get (definitions d) n) same ∙ is_command) in
          absurd (bad (subst (λ (x : PlainDefinition). AllowsP x.head h.flags) one allows))

  pub command_first : (h : Header) → HasHeader bytes h → GoodBits h → has_command d h.code (class_of h.flags) ≡ false → IsFirst d u most bytes (simple 5 reason.Command)
  command_first h is rules none = record {
    row = At (row_of reason.Command);
    occurs = faults.command h is none;
    code = refl;
    none_before = λ other r t occurs. by other r (of_header h is other r t occurs);
  }
    where
      no_select : (c : ℕ) (command : PlainDefinition) → selected d h.code (class_of h.flags) h.app ≡ Some c → ⊥
      no_select c command select = both_ways (has_command d h.code (class_of h.flags)) none (selected_command d h.code (class_of h.flags) h.app c command select)

      by : (other : Spot) (r : Reason) → OfHeader h other r → ¬ IsBefore other (spot 5 reason.Command)
      by other r (inl x) = absurd (no_bad_bits h rules x.1)
      by other r (inr (inl x)) = later other (spot 5 reason.Command) (spot 5 reason.Command) x.0 (not_before 5 5 reason.Command reason.Command (omega arith) (λ e. omega arith))
      by other r (inr (inr (inl x))) = later other (spot 5 reason.Command) (spot 8 reason.Application) x.0 (not_before 8 5 reason.Application reason.Command (omega arith) (λ e. omega arith))
      by other r (inr (inr (inr (inl x)))) = absurd (no_select x.1.0 some_definition x.1.1)
      by other r (inr (inr (inr (inr good)))) = let (k, other_command, select', is_command', allows) = (is_good h is good).1 in absurd (no_select k other_command select')

  pub application_first : (h : Header) → HasHeader bytes h → GoodBits h → has_command d h.code (class_of h.flags) ≡ true → selected d h.code (class_of h.flags) h.app ≡ None
      → IsFirst d u most bytes (simple 8 reason.Application)
  application_first h is rules some none = record {
    row = At (row_of reason.Application);
    occurs = faults.application h is some none;
    code = refl;
    none_before = λ other r t occurs. by other r (of_header h is other r t occurs);
  }
    where
      by : (other : Spot) (r : Reason) → OfHeader h other r → ¬ IsBefore other (spot 8 reason.Application)
      by other r (inl x) = absurd (no_bad_bits h rules x.1)
      by other r (inr (inl x)) = absurd (both_ways (has_command d h.code (class_of h.flags)) x.1 some)
      by other r (inr (inr (inl x))) = later other (spot 8 reason.Application) (spot 8 reason.Application) x.0 (not_before 8 8 reason.Application reason.Application (omega arith) (λ e. omega arith))
      by other r (inr (inr (inr (inl x)))) = absurd (none-some x.1.0 (sym none ∙ x.1.1))
      by other r (inr (inr (inr (inr good)))) = let (k, other_command, select', is_command', allows) = (is_good h is good).1 in absurd (none-some k (sym none ∙ select'))

  -- ---- the clause `valid` follows from the clause `answer`

  abbrev kind : Result Selected Refusal → ℕ
  kind (Ok found) = 0
  kind (Err refusal.NoMemory) = 1
  kind (Err (refusal.Fault f)) = 2
  kind (Err refusal.Truncated) = 2
  kind (Err refusal.Trailing) = 2
  kind (Err refusal.Spent) = 2

  abbrev number_of : Result Selected Refusal → ℕ
  number_of (Ok found) = found.def
  number_of (Err e) = 0

  ok_is : (a : Result Selected Refusal) (c : ℕ) → kind a ≢ 1 → IsAnswer d u most bytes a → IsValidOf d u most bytes c → a ≡ Ok (record { def = c })
  ok_is a c other answer valid =
      one_answer d u most bytes a (Ok (record { def = c })) sound answer valid (λ p. other (ap kind p)) (λ p. let q : 0 ≡ 1 = ap kind p in omega (arith, q))

  refused : (a : Result Selected Refusal) (c : ℕ) → kind a ≡ 2 → IsAnswer d u most bytes a → IsValidOf d u most bytes c → ⊥
  refused a c two answer valid =
      let same : kind a ≡ 0 = ap kind (ok_is a c (λ one. omega (arith, one, two)) answer valid) in
      omega (arith, same, two)

  pub valid_answer : (a : Result Selected Refusal) (c : ℕ) → IsAnswer d u most bytes a → IsValidOf d u most bytes c
      → MatchResult a (λ (found : Selected). found.def ≡ c) (λ (e : Refusal). e ≡ refusal.NoMemory)
  valid_answer (Ok found) c answer valid = ap number_of (ok_is (Ok found) c (λ p. omega (arith, p)) answer valid)
  valid_answer (Err refusal.NoMemory) c answer valid = refl
  valid_answer (Err (refusal.Fault f)) c answer valid = absurd (refused (Err (refusal.Fault f)) c refl answer valid)
  valid_answer (Err refusal.Truncated) c answer valid = absurd (refused (Err refusal.Truncated) c refl answer valid)
  valid_answer (Err refusal.Trailing) c answer valid = absurd (refused (Err refusal.Trailing) c refl answer valid)
  valid_answer (Err refusal.Spent) c answer valid = absurd answer
