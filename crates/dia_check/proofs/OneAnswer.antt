-- Bytes have one answer. Bytes have a walk only up to double negation, as formats aren't decided; but answers are.
use Rattle.std.proofs.Common.{◌≡◌, ◌≢◌, ℕ, zero, suc, ◌+◌, ◌%◌, ◌<◌, ◌≤◌, Bool, true, false, List, [], ◌∷◌, length, take, drop, Option, Some, None, refl, sym, ap, subst, ◌∙◌, arith, inl, inr}
use Rattle.std.specs.Prelude.{nat_lt, ◌⊎◌, slice_index, Result, Ok, Err}
use Rattle.std.proofs.lemmas.Bool.{ltb-false, ltb-true}
use Rattle.std.proofs.lemmas.List.{length-append}
use Rattle.std.proofs.lemmas.Option.{same_Some, none-some}
use Rattle.dia_wire.specs.declared.Key.{Key}
use Rattle.dia_wire.specs.Number.{number}
use Rattle.dia_wire.specs.Wire.{PlainAvp, key_of, avp_length, SpellsAll, BeginsWith, IsMessageLength}
use Rattle.dia_wire.proofs.Spelling.{rounded-le, at_least_8}
use Rattle.dia_wire.proofs.OneHeader.{head_says}
use Rattle.dia_data.specs.Plain.{Grouped}
use Rattle.dia_data.specs.Leaf.{IsLeaf}
use Rattle.dia_book.specs.Dictionary.{Dictionary, DictEntry, IsDictionary, PlainDefinition}
use Rattle.dia_terms.specs.declared.Unknown.{Unknown}
use Rattle.dia_terms.specs.declared.Levels.{Levels}
use Rattle.dia_check.specs.declared.fault.Reason.{Reason}
use Rattle.dia_check.specs.declared.fault.Reason.TheVariants as reason
use Rattle.dia_check.specs.declared.fault.Subject.{Subject}
use Rattle.dia_check.specs.declared.fault.Subject.TheVariants.{Nothing, Avp, Wildcard}
use Rattle.dia_check.specs.declared.fault.Fault.{Fault}
use Rattle.dia_check.specs.declared.fault.Selected.{Selected}
use Rattle.dia_check.specs.declared.fault.Refusal.{Refusal}
use Rattle.dia_check.specs.declared.fault.Refusal.TheVariants as refusal
use Rattle.dia_valid.specs.Valid.{known, IsValidOf}
use Rattle.dia_check.specs.Faults.{Row, At, Spot, spot, IsBefore, IsWrong, Occurs, HasGoodHeader, HasLength, IsFirst, IsRecorded, IsAnswer, simple}
use Rattle.dia_check.specs.Reasons.{row_of, code_of}
use Rattle.dia_check.specs.Faults as faults
use Rattle.dia_check.specs.Walks.{Found, Rest, following, inside, whole, IsFine, IsFirstWrong, Walks, ended, missing, broken, wrong, leaf, group, bad_group}
use Rattle.dia_valid.specs.Valid.{group_at}
use Rattle.dia_check.proofs.FoundFaultsStand.{walks_occurs}
use Rattle.dia_check.proofs.Uniqueness.{nat_cases, one_reason, found_at}
use Rattle.dia_check.proofs.FirstFaults.{begun_room, OccursAfter, least}
use Rattle.dia_check.proofs.FaultlessMessages.{head_size, valid_good, valid_occurs, valid_command}

-- ---- any rest has a walk, but for a double negation

no_sooner : (n m : ℕ) → ¬ (n < m) → m ≤ n
no_sooner n m h = by (nat_lt n m) refl
  where
    by : (b : Bool) → nat_lt n m ≡ b → m ≤ n
    by true e = absurd (h (ltb-true n m e))
    by false e = ltb-false n m e

module _ (d : Dictionary) (u : Unknown) (most : Levels) where
  -- where nothing is wrong first, nothing is wrong
  none_wrong : (s : Rest) (v : PlainAvp) → ((r : Reason) (t : Subject) → ¬ IsFirstWrong d u most s v r t) → (n : ℕ) (r : Reason) (t : Subject) → row_of r < n
      → ¬ IsWrong d u most s.level s.earlier v r t
  none_wrong s v none zero r t lt bad = absurd (omega (arith, lt))
  none_wrong s v none (suc n) r t lt bad =
      none r t (record { wrong = bad; none_sooner = λ q w bad'. no_sooner (row_of q) (row_of r) (λ sooner. none_wrong s v none n q w (omega (arith, sooner, lt)) bad') })

  -- its data is one that its format accepts, or a level
  pub leaf_at : (s : Rest) (v : PlainAvp) (e : DictEntry) → ((r : Reason) (t : Subject) → ¬ IsWrong d u most s.level s.earlier v r t) → known d (key_of v) ≡ Some e
      → ¬ ¬ (IsLeaf e.format v.bytes ⊎ (e.format ≡ Grouped))
  leaf_at s v e none h not_so =
      none reason.LeafLength (Avp (key_of v)) (faults.leaf_length e h (λ long. none reason.LeafValue (Avp (key_of v)) (faults.leaf_value e h long (λ l. not_so (inl l)) (λ g. not_so (inr g)))))

  fine_at : (s : Rest) (v : PlainAvp) (o : Option DictEntry) → known d (key_of v) ≡ o → ((r : Reason) (t : Subject) → ¬ IsWrong d u most s.level s.earlier v r t) → ¬ ¬ IsFine d u most s v
  fine_at s v None h none not_so = not_so (record { none_wrong = none; leaf = λ e h'. absurd (none-some e (sym h ∙ h')) })
  fine_at s v (Some e) h none not_so =
      leaf_at s v e none h (λ l. not_so (record { none_wrong = none; leaf = λ e' h'. subst (λ (x : DictEntry). IsLeaf x.format v.bytes ⊎ (x.format ≡ Grouped)) (same_Some e e' (sym h ∙ h')) l }))

  abbrev NoWalk : Rest → Type 0
  NoWalk s = (f : Option Found) → ¬ Walks d u most s f

  in_group : (s : Rest) (v : PlainAvp) (rest : List ℕ) (g : PlainDefinition) → NoWalk s → BeginsWith v s.bytes rest → IsFine d u most s v → group_at d v ≡ Some g
      → ¬ NoWalk (following s v rest) → (f : Option Found) → ¬ Walks d u most (inside s v g) f
  in_group s v rest g not_so begins fine is next None inner = next (λ f walk. not_so f (group v rest g begins fine is inner walk))
  in_group s v rest g not_so begins fine is next (Some h) inner = not_so (Some h) (bad_group v rest g h begins fine is inner refl)

  at_fine : (s : Rest) (v : PlainAvp) (rest : List ℕ) (o : Option PlainDefinition) → group_at d v ≡ o → NoWalk s → BeginsWith v s.bytes rest → IsFine d u most s v
      → ¬ NoWalk (following s v rest) → ((g : PlainDefinition) → ¬ NoWalk (inside s v g)) → ⊥
  at_fine s v rest None is not_so begins fine next inner = next (λ f walk. not_so f (leaf v rest begins fine is walk))
  at_fine s v rest (Some g) is not_so begins fine next inner = inner g (in_group s v rest g not_so begins fine is next)

  at_avp : (s : Rest) (v : PlainAvp) (rest : List ℕ) → NoWalk s → BeginsWith v s.bytes rest → ¬ NoWalk (following s v rest) → ((g : PlainDefinition) → ¬ NoWalk (inside s v g)) → ⊥
  at_avp s v rest not_so begins next inner =
      fine_at s v (known d (key_of v)) refl
      (λ r t. none_wrong s v (λ q w first. not_so (Some (found_at s.at q w)) (wrong v rest q w begins first refl)) (suc (row_of r)) r t (omega arith))
      (λ fine. at_fine s v rest (group_at d v) refl not_so begins fine next inner)

  at_bytes : (s : Rest) (b : List ℕ) → s.bytes ≡ b → NoWalk s → ((v : PlainAvp) (rest : List ℕ) → ¬ BeginsWith v s.bytes rest) → ⊥
  at_bytes s [] is not_so none = not_so None (ended is (λ i rule first. not_so _ (missing i rule is first refl)) refl)
  at_bytes s (x ∷ xs) is not_so none = not_so _ (broken (let e : length s.bytes ≡ suc (length xs) = ap length is in omega (arith, e)) none refl)

  pub some_walk : (n : ℕ) (s : Rest) → length s.bytes < n → ¬ NoWalk s
  some_walk zero s lt not_so = absurd (omega (arith, lt))
  some_walk (suc n) s lt not_so = at_bytes s s.bytes refl not_so (λ v rest begins.
      let room = begun_room d u most s v rest begins in
      let round = rounded-le (avp_length v) in
      at_avp s v rest not_so begins
      (λ none. some_walk n (following s v rest) (omega (arith, lt, room, round, at_least_8 v.vendor)) none)
      (λ g none. some_walk n (inside s v g) (omega (arith, lt, room, round, at_least_8 v.vendor)) none))

-- ---- what is decided is not doubly negated

pub one_number : (n m : ℕ) → ¬ ¬ (n ≡ m) → n ≡ m
one_number n m h = by (nat_cases n m)
  where
    by : (n < m) ⊎ ((m < n) ⊎ (n ≡ m)) → n ≡ m
    by (inl less) = absurd (h (λ e. omega (arith, e, less)))
    by (inr (inl more)) = absurd (h (λ e. omega (arith, e, more)))
    by (inr (inr e)) = e

abbrev kind_of : Subject → ℕ
kind_of Nothing = 0
kind_of (Avp key) = 1
kind_of Wildcard = 2

abbrev key_in : Subject → Key
key_in Nothing = record { code = 0; vendor = 0 }
key_in (Avp key) = key
key_in Wildcard = record { code = 0; vendor = 0 }

abbrev subject_at : ℕ → Key → Subject
subject_at zero key = Nothing
subject_at (suc zero) key = Avp key
subject_at (suc (suc n)) key = Wildcard

subject_at-parts : (s : Subject) → subject_at (kind_of s) (key_in s) ≡ s
subject_at-parts Nothing = refl
subject_at-parts (Avp key) = refl
subject_at-parts Wildcard = refl

one_of_subjects : (s t : Subject) → ¬ ¬ (s ≡ t) → s ≡ t
one_of_subjects s t h =
    let kind = one_number (kind_of s) (kind_of t) (λ not_so. h (λ e. not_so (ap kind_of e))) in
    let code = one_number (key_in s).code (key_in t).code (λ not_so. h (λ e. not_so (ap (λ (x : Subject). (key_in x).code) e))) in
    let vendor = one_number (key_in s).vendor (key_in t).vendor (λ not_so. h (λ e. not_so (ap (λ (x : Subject). (key_in x).vendor) e))) in
    let key : key_in s ≡ key_in t = ap (λ (c : ℕ). record { code = c; vendor = (key_in s).vendor }) code ∙ ap (λ (w : ℕ). record { code = (key_in t).code; vendor = w }) vendor in
    sym (subject_at-parts s) ∙ ap (λ (n : ℕ). subject_at n (key_in s)) kind ∙ ap (subject_at (kind_of t)) key ∙ subject_at-parts t

same_fault : (f g : Fault) → f.place ≡ g.place → f.code ≡ code_of f.reason → g.code ≡ code_of g.reason → f.reason ≡ g.reason → f.subject ≡ g.subject → f ≡ g
same_fault f g place code code' why subject =
    ap (λ (x : ℕ). record { place = x; code = f.code; reason = f.reason; subject = f.subject }) place
    ∙ ap (λ (x : ℕ). record { place = g.place; code = x; reason = f.reason; subject = f.subject }) (code ∙ ap code_of why ∙ sym code')
    ∙ ap (λ (x : Reason). record { place = g.place; code = g.code; reason = x; subject = f.subject }) why
    ∙ ap (λ (x : Subject). record { place = g.place; code = g.code; reason = g.reason; subject = x }) subject

-- ---- a message has one first fault

module _ (d : Dictionary) (sound : IsDictionary d) (u : Unknown) (most : Levels) (bytes : List ℕ) where
  abbrev found_of : Fault → Row → Found
  found_of f row = record { spot = record { place = f.place; row = row }; reason = f.reason; subject = f.subject }

  -- the first fault is what a walk finds
  is_found : (good : HasGoodHeader d bytes) (o : Option Found) → Walks d u most (whole good.command.rules bytes) o → (f : Fault) (first : IsFirst d u most bytes f) → o ≡ Some (found_of f first.row)
  is_found good o walk f first = by (least d u most bytes good o walk (record { place = f.place; row = first.row }) f.reason f.subject first.occurs)
    where
      by : OccursAfter o (record { place = f.place; row = first.row }) f.reason f.subject → o ≡ Some (found_of f first.row)
      by (h, is, inl later) =
          absurd (first.none_before h.spot h.reason h.subject (walks_occurs d sound u most bytes good h
          (subst (λ (x : Option Found). Walks d u most (whole good.command.rules bytes) x) is walk)) later)
      by (h, is, inr same) = is ∙ ap (λ (x : Found). Some x) (sym same)

  same_found : (good : HasGoodHeader d bytes) (f g : Fault) (x : IsFirst d u most bytes f) (y : IsFirst d u most bytes g) → ¬ ¬ (found_of f x.row ≡ found_of g y.row)
  same_found good f g x y not_so = some_walk d u most (suc (length (whole good.command.rules bytes).bytes)) (whole good.command.rules bytes) (omega arith) (λ o walk.
      not_so (same_Some (found_of f x.row) (found_of g y.row) (sym (is_found good o walk f x) ∙ is_found good o walk g y)))

  one_by_walk : (good : HasGoodHeader d bytes) (f g : Fault) → IsFirst d u most bytes f → IsFirst d u most bytes g → f ≡ g
  one_by_walk good f g x y =
      let same = same_found good f g x y in
      same_fault f g
      (one_number f.place g.place (λ not_so. same (λ e. not_so (ap (λ (h : Found). h.spot.place) e)))) x.code y.code
      (one_reason f.reason g.reason (one_number (row_of f.reason) (row_of g.reason) (λ not_so. same (λ e. not_so (ap (λ (h : Found). row_of h.reason) e)))))
      (one_of_subjects f.subject g.subject (λ not_so. same (λ e. not_so (ap (λ (h : Found). h.subject) e))))

  -- a fault of the header, where the header isn't good
  good_or_header : (other : Spot) (r : Reason) (t : Subject) → Occurs d u most bytes other r t → HasGoodHeader d bytes ⊎ ((t ≡ Nothing) × (other.row ≡ At (row_of r)))
  good_or_header other r t (faults.avp_length level earlier at looks from lt before none) = inl looks.good
  good_or_header other r t (faults.avp level earlier v at q w meets bad) = inl meets.looks.good
  good_or_header other r t (faults.missing_at_end level avps i rule looks spells first) = inl looks.good
  good_or_header other r t of_header = inr (refl, refl)

  one_header_fault : (f g : Fault) (x : IsFirst d u most bytes f) (y : IsFirst d u most bytes g) → (f.subject ≡ Nothing) × (x.row ≡ At (row_of f.reason))
      → (g.subject ≡ Nothing) × (y.row ≡ At (row_of g.reason)) → f ≡ g
  one_header_fault f g x y h k = by (nat_cases f.place g.place) (nat_cases (row_of f.reason) (row_of g.reason))
    where
      forth : ¬ IsBefore (record { place = f.place; row = At (row_of f.reason) }) (record { place = g.place; row = At (row_of g.reason) })
      forth before = y.none_before (record { place = f.place; row = x.row }) f.reason f.subject x.occurs
          (subst (λ (a : Row). IsBefore (record { place = f.place; row = a }) (record { place = g.place; row = y.row })) (sym h.1)
          (subst (λ (b : Row). IsBefore (record { place = f.place; row = At (row_of f.reason) }) (record { place = g.place; row = b })) (sym k.1) before))

      back : ¬ IsBefore (record { place = g.place; row = At (row_of g.reason) }) (record { place = f.place; row = At (row_of f.reason) })
      back before = x.none_before (record { place = g.place; row = y.row }) g.reason g.subject y.occurs
          (subst (λ (a : Row). IsBefore (record { place = g.place; row = a }) (record { place = f.place; row = x.row })) (sym k.1)
          (subst (λ (b : Row). IsBefore (record { place = g.place; row = At (row_of g.reason) }) (record { place = f.place; row = b })) (sym h.1) before))

      by : (f.place < g.place) ⊎ ((g.place < f.place) ⊎ (f.place ≡ g.place)) → (row_of f.reason < row_of g.reason) ⊎ ((row_of g.reason < row_of f.reason) ⊎ (row_of f.reason ≡ row_of g.reason)) → f ≡ g
      by (inl less) rows = absurd (forth (inl less))
      by (inr (inl more)) rows = absurd (back (inl more))
      by (inr (inr same)) (inl less) = absurd (forth (inr (same, less)))
      by (inr (inr same)) (inr (inl more)) = absurd (back (inr (sym same, more)))
      by (inr (inr same)) (inr (inr e)) = same_fault f g same x.code y.code (one_reason f.reason g.reason e) (h.0 ∙ sym k.0)

  pub one_first : (f g : Fault) → IsFirst d u most bytes f → IsFirst d u most bytes g → f ≡ g
  one_first f g x y = by (good_or_header (record { place = f.place; row = x.row }) f.reason f.subject x.occurs) (good_or_header (record { place = g.place; row = y.row }) g.reason g.subject y.occurs)
    where
      by : HasGoodHeader d bytes ⊎ ((f.subject ≡ Nothing) × (x.row ≡ At (row_of f.reason))) → HasGoodHeader d bytes ⊎ ((g.subject ≡ Nothing) × (y.row ≡ At (row_of g.reason))) → f ≡ g
      by (inl good) k = one_by_walk good f g x y
      by (inr h) (inl good) = one_by_walk good f g x y
      by (inr h) (inr k) = one_header_fault f g x y h k

  -- ---- an answer, by the tests of the header in their order

  abbrev len : ℕ
  len = number (take 3 (drop 1 bytes))

  abbrev OfWhole : Result Selected Refusal → Type 0
  OfWhole a = ((found : Selected) × (a ≡ Ok found) × IsValidOf d u most bytes found.def) ⊎ ((f : Fault) × (a ≡ Err (refusal.Fault f)) × IsFirst d u most bytes f)

  abbrev OfSize : Result Selected Refusal → Type 0
  OfSize a = ((length bytes < len) × (a ≡ Err refusal.Truncated)) ⊎ (((len < length bytes) × (a ≡ Err refusal.Trailing)) ⊎ ((length bytes ≡ len) × OfWhole a))

  abbrev OfLength : Result Selected Refusal → Type 0
  OfLength a = ((¬ IsMessageLength len) × (a ≡ Err (refusal.Fault (simple 1 reason.Length)))) ⊎ (IsMessageLength len × OfSize a)

  abbrev OfVersion : Result Selected Refusal → Type 0
  OfVersion a = ((slice_index bytes 0 ≢ 1) × (a ≡ Err (refusal.Fault (simple 0 reason.Version)))) ⊎ ((slice_index bytes 0 ≡ 1) × OfLength a)

  abbrev OfBytes : Result Selected Refusal → Type 0
  OfBytes a = ((length bytes < 20) × (a ≡ Err refusal.Truncated)) ⊎ ((20 ≤ length bytes) × OfVersion a)

  sized : (a : Result Selected Refusal) (n : ℕ) → HasLength bytes n → OfSize a → OfBytes a
  sized a n h of = inr (h.long, inr (h.version, inr (subst IsMessageLength h.is_length h.sound, of)))

  all_aligned : (vs : List PlainAvp) (b : List ℕ) → SpellsAll vs b → length b % 4 ≡ 0
  all_aligned [] b h = let e : length b ≡ 0 = ap length h in omega (arith, e)
  all_aligned (v ∷ vs) b (front, rest, spells, parts, others) =
      let e : length b ≡ length front + length rest = ap length parts ∙ length-append front rest in
      let f = spells.aligned in
      let g = all_aligned vs rest others in
      omega (arith, e, f, g)

  pub valid_length : (c : ℕ) → IsValidOf d u most bytes c → HasLength bytes (length bytes)
  valid_length c v =
      let good = valid_good d sound u most bytes c v in
      let says = head_says good.header (length bytes) bytes good.is_header in
      let m = v.message in
      let size = head_size v.header (length bytes) m.head m.is_head in
      let all : length bytes ≡ length m.head + length m.body = ap length m.parts ∙ length-append m.head m.body in
      let rest = all_aligned v.avps m.body m.is_body in
      record { long = says.0; version = says.1; is_length = sym says.2; sound = record { no_less = says.0; aligned = omega (arith, size, all, rest) } }

  of_recorded : (f : Fault) → IsRecorded d u most bytes f → OfBytes (Err (refusal.Fault f))
  of_recorded f (inl (long, other, is)) = inr (long, inl (other, ap (λ (x : Fault). Err (refusal.Fault x)) is))
  of_recorded f (inr (inl (long, version, bad, is))) = inr (long, inr (version, inl (bad, ap (λ (x : Fault). Err (refusal.Fault x)) is)))
  of_recorded f (inr (inr (h, first))) = sized (Err (refusal.Fault f)) (length bytes) h (inr (inr (h.is_length, inr (f, refl, first))))

  of_answer : (a : Result Selected Refusal) → IsAnswer d u most bytes a → a ≢ Err refusal.NoMemory → OfBytes a
  of_answer (Ok found) v other = let h = valid_length found.def v in sized (Ok found) (length bytes) h (inr (inr (h.is_length, inl (found, refl, v))))
  of_answer (Err (refusal.Fault f)) recorded other = of_recorded f recorded
  of_answer (Err refusal.Truncated) (inl short) other = inl (short, refl)
  of_answer (Err refusal.Truncated) (inr (n, h, lt)) other = let is = h.is_length in sized (Err refusal.Truncated) n h (inl (omega (arith, is, lt), refl))
  of_answer (Err refusal.Trailing) (n, h, lt) other = let is = h.is_length in sized (Err refusal.Trailing) n h (inr (inl (omega (arith, is, lt), refl)))
  of_answer (Err refusal.NoMemory) h other = absurd (other refl)
  of_answer (Err refusal.Spent) h other = absurd h

  one_whole : (a b : Result Selected Refusal) → OfWhole a → OfWhole b → a ≡ b
  one_whole a b (inl (x, is, v)) (inl (y, is', w)) =
      is ∙ ap (λ (n : ℕ). Ok (record { def = n })) (valid_command d sound u most bytes y.def (valid_good d sound u most bytes x.def v) w) ∙ sym is'
  one_whole a b (inl (x, is, v)) (inr (g, is', first)) = absurd (valid_occurs d sound u most bytes x.def v (record { place = g.place; row = first.row }) g.reason g.subject first.occurs)
  one_whole a b (inr (f, is, first)) (inl (y, is', w)) = absurd (valid_occurs d sound u most bytes y.def w (record { place = f.place; row = first.row }) f.reason f.subject first.occurs)
  one_whole a b (inr (f, is, first)) (inr (g, is', first')) = is ∙ ap (λ (x : Fault). Err (refusal.Fault x)) (one_first f g first first') ∙ sym is'

  one_size : (a b : Result Selected Refusal) → OfSize a → OfSize b → a ≡ b
  one_size a b (inl x) (inl y) = x.1 ∙ sym y.1
  one_size a b (inl x) (inr (inl y)) = absurd (omega (arith, x.0, y.0))
  one_size a b (inl x) (inr (inr y)) = absurd (omega (arith, x.0, y.0))
  one_size a b (inr (inl x)) (inl y) = absurd (omega (arith, x.0, y.0))
  one_size a b (inr (inl x)) (inr (inl y)) = x.1 ∙ sym y.1
  one_size a b (inr (inl x)) (inr (inr y)) = absurd (omega (arith, x.0, y.0))
  one_size a b (inr (inr x)) (inl y) = absurd (omega (arith, x.0, y.0))
  one_size a b (inr (inr x)) (inr (inl y)) = absurd (omega (arith, x.0, y.0))
  one_size a b (inr (inr x)) (inr (inr y)) = one_whole a b x.1 y.1

  one_length : (a b : Result Selected Refusal) → OfLength a → OfLength b → a ≡ b
  one_length a b (inl x) (inl y) = x.1 ∙ sym y.1
  one_length a b (inl x) (inr y) = absurd (x.0 y.0)
  one_length a b (inr x) (inl y) = absurd (y.0 x.0)
  one_length a b (inr x) (inr y) = one_size a b x.1 y.1

  one_version : (a b : Result Selected Refusal) → OfVersion a → OfVersion b → a ≡ b
  one_version a b (inl x) (inl y) = x.1 ∙ sym y.1
  one_version a b (inl x) (inr y) = absurd (x.0 y.0)
  one_version a b (inr x) (inl y) = absurd (y.0 x.0)
  one_version a b (inr x) (inr y) = one_length a b x.1 y.1

  one_of_bytes : (a b : Result Selected Refusal) → OfBytes a → OfBytes b → a ≡ b
  one_of_bytes a b (inl x) (inl y) = x.1 ∙ sym y.1
  one_of_bytes a b (inl x) (inr y) = absurd (omega (arith, x.0, y.0))
  one_of_bytes a b (inr x) (inl y) = absurd (omega (arith, x.0, y.0))
  one_of_bytes a b (inr x) (inr y) = one_version a b x.1 y.1

-- bytes have one answer, unless memory was refused
pub one_answer : (d : Dictionary) (u : Unknown) (most : Levels) (bytes : List ℕ) (a b : Result Selected Refusal) → IsDictionary d → IsAnswer d u most bytes a → IsAnswer d u most bytes b
    → a ≢ Err refusal.NoMemory → b ≢ Err refusal.NoMemory → a ≡ b
one_answer d u most bytes a b sound x y no_memory no_memory' =
    one_of_bytes d sound u most bytes a b (of_answer d sound u most bytes a x no_memory) (of_answer d sound u most bytes b y no_memory')
