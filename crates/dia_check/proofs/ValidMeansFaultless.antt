-- A message is valid exactly where no fault occurs.
use Rattle.std.proofs.Common.{◌≡◌, ℕ, zero, suc, ◌+◌, ◌<◌, ◌≤◌, Bool, true, false, List, [], ◌∷◌, ◌++◌, length, take, drop, get_or, Option, Some, None, refl, sym, ap, subst, ◌∙◌, arith, inl, inr}
use Rattle.std.specs.Prelude.{◌⊎◌, ◌↔◌, slice_get, slice_index, position}
use Rattle.std.specs.Option.{option_or, option_map}
use Rattle.std.proofs.Math.Seq.{take-add}
use Rattle.std.proofs.lemmas.List.{length-take, length-drop, drop_more}
use Rattle.std.proofs.lemmas.List.Quantifiers.{position-Some}
use Rattle.std.proofs.lemmas.Option.{same_Some, none-some, slice_get-get_or}
use Rattle.dia_wire.specs.declared.Header.{Header}
use Rattle.dia_wire.specs.Number.{number, IsField}
use Rattle.dia_wire.specs.Wire.{PlainAvp, avp_length, SpellsAll, BeginsWith, BeginsWithNone}
use Rattle.dia_wire.proofs.Spelling.{rounded, rounded-le, at_least_8}
use Rattle.dia_wire.proofs.Decode.{is_bad, avp_of, len_of, bad_none, good_begins}
use Rattle.dia_book.specs.declared.Class.{Class}
use Rattle.dia_book.specs.declared.Pxy.{Pxy}
use Rattle.dia_book.specs.declared.Pxy.TheVariants.{Clear, Set, Either}
use Rattle.dia_book.specs.declared.DefHead.{DefHead}
use Rattle.dia_book.specs.declared.DefHead.TheVariants.{Group, Command, Error}
use Rattle.dia_book.specs.Dictionary.{Dictionary, IsDictionary, PlainDefinition, groups, definitions, selected, has_command, is_command}
use Rattle.dia_book.proofs.NumberedGroups.{slice_get-append_right}
use Rattle.dia_terms.specs.declared.Unknown.{Unknown}
use Rattle.dia_terms.specs.declared.Levels.{Levels}
use Rattle.dia_check.specs.declared.fault.Reason.{Reason}
use Rattle.dia_check.specs.declared.fault.Reason.TheVariants as reason
use Rattle.dia_check.specs.declared.fault.Subject.{Subject}
use Rattle.dia_check.specs.declared.fault.Subject.TheVariants.{Nothing}
use Rattle.dia_valid.specs.Valid.{class_of, AllowsP, PHolds, IsValid}
use Rattle.dia_check.specs.Levels.{MayOpen, between}
use Rattle.dia_check.specs.Faults.{Spot, spot, IsWrong, Occurs, HasGoodHeader, HasHeader, HasLength}
use Rattle.dia_check.specs.Faults as faults
use Rattle.dia_check.specs.Walks.{Rest, following, inside, whole, IsFine, Walks, ended, leaf, group}
use Rattle.dia_valid.specs.Valid.{group_at}
use Rattle.dia_check.proofs.FaultlessLevels.{opens}
use Rattle.dia_check.specs.UnderWay.{Lies}
use Rattle.dia_check.proofs.FoundFaultsStand.{looks, member, lies_after, lies_inside, body_lies}
use Rattle.dia_check.proofs.FirstFaults.{begun_room}
use Rattle.dia_check.proofs.FaultlessMessages.{valid_occurs, walk_valid}
use Rattle.dia_check.proofs.OneAnswer.{leaf_at}
use Rattle.dia_check.proofs.Formats.{leaf_or_level}

-- ---- the header of 20 bytes

head_parts : (xs : List ℕ) → 20 ≤ length xs → take 20 xs ≡ (get_or xs 0 0 ∷ take 3 (drop 1 xs)) ++ (get_or xs 4 0 ∷ take 3 (drop 5 xs)) ++ take 4 (drop 8 xs) ++ take 4
    (drop 12 xs) ++ take 4 (drop 16 xs)
head_parts xs h =
    take-add 16 4 xs ∙ ap (λ (f : List ℕ). f ++ take 4 (drop 16 xs)) (
    take-add 12 4 xs ∙ ap (λ (f : List ℕ). f ++ take 4 (drop 12 xs)) (
    take-add 8 4 xs ∙ ap (λ (f : List ℕ). f ++ take 4 (drop 8 xs)) (
    take-add 4 4 xs ∙ ap (λ (f : List ℕ). take 4 xs ++ take 4 f) (drop_more xs 4 0 (omega arith))
    ∙ ap (λ (f : List ℕ). take 4 f ++ (get_or xs 4 0 ∷ take 3 (drop 5 xs))) (drop_more xs 0 0 (omega arith)))))

read_field : (n i x : ℕ) (xs : List ℕ) → i + n ≤ length xs → number (take n (drop i xs)) ≡ x → IsField n x (take n (drop i xs))
read_field n i x xs h e = record { width = omega (arith, length-take n (drop i xs), length-drop i xs, h); value = e }

first_is : (xs : List ℕ) → 20 ≤ length xs → slice_index xs 0 ≡ 1 → get_or xs 0 0 ≡ 1
first_is [] h e = absurd (omega (arith, h))
first_is (x ∷ xs) h e = e

header_of : (bytes : List ℕ) → HasLength bytes (length bytes) → (h : Header) × HasHeader bytes h
header_of bytes h =
    let long = h.long in (
      record { flags = get_or bytes 4 0; code = number (take 3 (drop 5 bytes)); app = number (take 4 (drop 8 bytes)); hop = number (take 4 (drop 12 bytes)); e2e = number (take 4 (drop 16 bytes)) },
      record {
        len = take 3 (drop 1 bytes);
        code = take 3 (drop 5 bytes);
        app = take 4 (drop 8 bytes);
        hop = take 4 (drop 12 bytes);
        e2e = take 4 (drop 16 bytes);
        parts = head_parts bytes long ∙ ap (λ (x : ℕ). (x ∷ take 3 (drop 1 bytes)) ++ (get_or bytes 4 0 ∷ take 3 (drop 5 bytes)) ++ take 4 (drop 8 bytes) ++ take 4 (drop 12 bytes) ++ take 4
            (drop 16 bytes)) (first_is bytes long h.version);
        length_field = read_field 3 1 (length bytes) bytes (omega (arith, long)) (sym h.is_length);
        code_field = read_field 3 5 (number (take 3 (drop 5 bytes))) bytes (omega (arith, long)) refl;
        app_field = read_field 4 8 (number (take 4 (drop 8 bytes))) bytes (omega (arith, long)) refl;
        hop_field = read_field 4 12 (number (take 4 (drop 12 bytes))) bytes (omega (arith, long)) refl;
        e2e_field = read_field 4 16 (number (take 4 (drop 16 bytes))) bytes (omega (arith, long)) refl;
      },
    )

-- ---- the command that a header selects

pub some_definition : PlainDefinition
some_definition = record { name = []; head = Error Either; rules = [] }

either : (a b : Option ℕ) (n c : ℕ) (P : Type 0) → option_map (λ (i : ℕ). n + i) (option_or a b) ≡ Some c → ((i : ℕ) → a ≡ Some i → n + i ≡ c → P) → ((i : ℕ) → b ≡ Some i → n + i ≡ c → P) → P
either None None n c P h x y = absurd (none-some c h)
either None (Some j) n c P h x y = y j refl (same_Some (n + j) c h)
either (Some i) b n c P h x y = x i refl (same_Some (n + i) c h)

command_at : (d : Dictionary) (code : ℕ) (class : Class) (app : Option ℕ) (c i : ℕ) → position (λ (x : PlainDefinition). is_command code class app x.head) d.commands ≡ Some i
    → length (groups d) + i ≡ c → (command : PlainDefinition) × (slice_get (definitions d) c ≡ Some command)
command_at d code class app c i h e =
    let p = position-Some (λ (x : PlainDefinition). is_command code class app x.head) d.commands i some_definition h in
    (get_or d.commands i some_definition, ap (λ (n : ℕ). slice_get (definitions d) n) (sym e) ∙ slice_get-append_right (groups d) d.commands i ∙ slice_get-get_or d.commands i some_definition p.0)

selected_at : (d : Dictionary) (code : ℕ) (class : Class) (app c : ℕ) → selected d code class app ≡ Some c → (command : PlainDefinition) × (slice_get (definitions d) c ≡ Some command)
selected_at d code class app c h =
    either (position (λ (x : PlainDefinition). is_command code class (Some app) x.head) d.commands) (position (λ (x : PlainDefinition). is_command code class None x.head) d.commands)
    (length (groups d)) c
    ((command : PlainDefinition) × (slice_get (definitions d) c ≡ Some command)) h (λ i at e. command_at d code class (Some app) c i at e) (λ i at e. command_at d code class None c i at e)

p_holds : (p : Pxy) (flags : ℕ) → ¬ ¬ PHolds p flags → PHolds p flags
p_holds Clear flags h = λ z. h (λ m. m z)
p_holds Set flags h = λ z. h (λ m. m z)
p_holds Either flags h = tt

allows_p : (head : DefHead) (flags : ℕ) → ¬ ¬ AllowsP head flags → AllowsP head flags
allows_p (Group key) flags h = h (λ x. x)
allows_p (Command code class app p) flags h = p_holds p flags h
allows_p (Error p) flags h = p_holds p flags h

-- ---- the front of a rest

front_or_none : (xs : List ℕ) → ((v : PlainAvp) × (rest : List ℕ) × BeginsWith v xs rest) ⊎ BeginsWithNone xs
front_or_none xs = by (is_bad xs) refl
  where
    by : (b : Bool) → is_bad xs ≡ b → ((v : PlainAvp) × (rest : List ℕ) × BeginsWith v xs rest) ⊎ BeginsWithNone xs
    by true e = inr (bad_none xs e)
    by false e = inl (avp_of xs, drop (rounded (len_of xs)) xs, good_begins xs e)

-- ---- where no fault occurs

module _ (d : Dictionary) (sound : IsDictionary d) (u : Unknown) (most : Levels) (bytes : List ℕ) (none : (other : Spot) (r : Reason) (t : Subject) → ¬ Occurs d u most bytes other r t) where
  -- the header is good
  select_at : (h : Header) → HasHeader bytes h → (o : Option ℕ) → selected d h.code (class_of h.flags) h.app ≡ o → (c : ℕ) × (selected d h.code (class_of h.flags) h.app ≡ Some c)
  select_at h is (Some c) e = (c, e)
  select_at h is None e = absurd (by (has_command d h.code (class_of h.flags)) refl)
    where
      by : (b : Bool) → has_command d h.code (class_of h.flags) ≡ b → ⊥
      by true f = none (spot 8 reason.Application) reason.Application Nothing (faults.application h is f e)
      by false f = none (spot 5 reason.Command) reason.Command Nothing (faults.command h is f)

  good_of : (h : Header) → HasHeader bytes h → HasGoodHeader d bytes
  good_of h is =
      let (c, select) = select_at h is (selected d h.code (class_of h.flags) h.app) refl in
      let (command, is_command) = selected_at d h.code (class_of h.flags) h.app c select in
      record {
        header = h;
        is_header = is;
        bits = (
          λ r e. none (spot 4 reason.Bits) reason.Bits Nothing (faults.bits h is (inl (r, e))),
          λ t z. none (spot 4 reason.Bits) reason.Bits Nothing (faults.bits h is (inr (t, λ r. r z))),
        );
        c = c;
        select = select;
        command = command;
        is_command = is_command;
        proxiable = allows_p command.head h.flags (λ bad. none (spot 4 reason.Proxiable) reason.Proxiable Nothing (faults.proxiable h c command is select is_command bad));
      }

  -- a walk finds nothing
  module _ (good : HasGoodHeader d bytes) where
    abbrev Here : Rest → Type 0
    Here s = Lies d u most bytes good s

    quiet_wrong : (s : Rest) (v : PlainAvp) (rest : List ℕ) → Here s → BeginsWith v s.bytes rest → (r : Reason) (t : Subject) → ¬ IsWrong d u most s.level s.earlier v r t
    quiet_wrong s v rest l begins r t bad =
        none (spot s.at r) r t (faults.avp s.level s.earlier v s.at r t (record { looks = looks d u most bytes good s l; member = member d u most bytes good s v rest l begins }) bad)

    quiet_fine : (s : Rest) (v : PlainAvp) (rest : List ℕ) → Here s → BeginsWith v s.bytes rest → IsFine d u most s v
    quiet_fine s v rest l begins = record {
      none_wrong = quiet_wrong s v rest l begins;
      leaf = λ e h. leaf_or_level e.format v.bytes (leaf_at d u most s v e (quiet_wrong s v rest l begins) h);
    }

    quiet_end : (s : Rest) → Here s → (b : List ℕ) → s.bytes ≡ b → BeginsWithNone s.bytes → Walks d u most s None
    quiet_end s l [] is no_avp =
        let done : length s.bytes ≡ 0 = ap length is in
        let at_end : s.at ≡ s.level.end = omega (arith, l.size, done) in
        ended is (λ i rule first. none _ _ _ (faults.missing_at_end s.level s.earlier i rule (looks d u most bytes good s l)
        (subst (λ (n : ℕ). SpellsAll s.earlier (between bytes s.level.start n)) at_end l.before) first)) refl
    quiet_end s l (x ∷ xs) is no_avp =
        let some : length s.bytes ≡ suc (length xs) = ap length is in
        absurd (none _ _ _ (faults.avp_length s.level s.earlier s.at (looks d u most bytes good s l) l.from (omega (arith, l.size, some)) l.before (subst BeginsWithNone (sym l.here) no_avp)))

    quiet_avp : (s : Rest) (v : PlainAvp) (rest : List ℕ) (o : Option PlainDefinition) → group_at d v ≡ o → BeginsWith v s.bytes rest → IsFine d u most s v → Walks d u most (following s v rest) None
        → ((g : PlainDefinition) → group_at d v ≡ Some g → Walks d u most (inside s v g) None) → Walks d u most s None
    quiet_avp s v rest None is begins fine next inner = leaf v rest begins fine is next
    quiet_avp s v rest (Some g) is begins fine next inner = group v rest g begins fine is (inner g is) next

    quiet_front : (s : Rest) → Here s → ((v : PlainAvp) × (rest : List ℕ) × BeginsWith v s.bytes rest) ⊎ BeginsWithNone s.bytes
        → ((v : PlainAvp) (rest : List ℕ) → BeginsWith v s.bytes rest → Walks d u most (following s v rest) None)
        → ((v : PlainAvp) (rest : List ℕ) (g : PlainDefinition) → BeginsWith v s.bytes rest → group_at d v ≡ Some g → MayOpen most s.level.depth → Walks d u most (inside s v g) None)
        → Walks d u most s None
    quiet_front s l (inl (v, rest, begins)) next inner =
        let fine = quiet_fine s v rest l begins in
        quiet_avp s v rest (group_at d v) refl begins fine (next v rest begins) (λ g is. inner v rest g begins is (opens d sound u most s v g fine is))
    quiet_front s l (inr no_avp) next inner = quiet_end s l s.bytes refl no_avp

    quiet : (n : ℕ) (s : Rest) → Here s → length s.bytes < n → Walks d u most s None
    quiet zero s l lt = absurd (omega (arith, lt))
    quiet (suc n) s l lt = quiet_front s l (front_or_none s.bytes)
        (λ v rest begins. let room = begun_room d u most s v rest begins in let round = rounded-le (avp_length v) in
        quiet n (following s v rest) (lies_after d u most bytes good s v rest l begins) (omega (arith, lt, room, round, at_least_8 v.vendor)))
        (λ v rest g begins is may. let room = begun_room d u most s v rest begins in let round = rounded-le (avp_length v) in
        quiet n (inside s v g) (lies_inside d u most bytes good s v rest g l begins is may) (omega (arith, lt, room, round, at_least_8 v.vendor)))

  pub none_valid : HasLength bytes (length bytes) → IsValid d u most bytes
  none_valid h =
      let (header, is) = header_of bytes h in
      let good = good_of header is in (
        good.c,
        walk_valid d sound u most bytes good (quiet good (suc (length (whole good.command.rules bytes).bytes)) (whole good.command.rules bytes) (body_lies d sound u most bytes good)
            (omega arith)),
      )

pub validity : (d : Dictionary) (u : Unknown) (most : Levels) (bytes : List ℕ) → IsDictionary d → HasLength bytes (length bytes)
    → IsValid d u most bytes ↔ ((other : Spot) (r : Reason) (t : Subject) → ¬ Occurs d u most bytes other r t)
validity d u most bytes sound h = (λ v. valid_occurs d sound u most bytes v.0 v.1, λ none. none_valid d sound u most bytes none h)
