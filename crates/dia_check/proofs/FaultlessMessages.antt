-- A valid message has a walk that finds nothing, so no fault occurs in it; and where a walk finds nothing the message is valid.
use Rattle.std.proofs.Common.{◌≡◌, ℕ, zero, suc, ◌+◌, ◌≤◌, List, [], ◌∷◌, ◌++◌, length, map, take, drop, Option, Some, None, refl, sym, ap, subst, ◌∙◌, arith, inl, inr, ⊎_elim, append_assoc}
use Rattle.std.specs.Prelude.{◌⊎◌, slice_get, IsSome, MatchOption}
use Rattle.std.specs.List.{AllByRecursion}
use Rattle.std.proofs.lemmas.List.{length-append, length-map, append-nil, take_at, drop_at, take-append-drop}
use Rattle.std.proofs.lemmas.Option.{same_Some}
use Rattle.dia_wire.specs.declared.Header.{Header}
use Rattle.dia_wire.specs.declared.Key.{Key}
use Rattle.dia_wire.specs.Wire.{PlainAvp, key_of, SpellsAll, BeginsWith, IsHead}
use Rattle.dia_wire.proofs.OneHeader.{one_header}
use Rattle.dia_data.specs.Plain.{PlainFormat, Grouped}
use Rattle.dia_data.specs.Leaf.{IsLeaf, LengthFits}
use Rattle.dia_data.proofs.Leaves.{leaf_fits}
use Rattle.dia_book.specs.declared.DRule.{DRule}
use Rattle.dia_book.specs.Dictionary.{Dictionary, DictEntry, IsDictionary, AreRules, PlainDefinition, definitions, selected}
use Rattle.dia_terms.specs.declared.Unknown.{Unknown}
use Rattle.dia_terms.specs.declared.Levels.{Levels}
use Rattle.dia_terms.specs.declared.Levels.TheVariants.{Any, AtMost}
use Rattle.dia_check.specs.declared.fault.Reason.{Reason}
use Rattle.dia_check.specs.declared.fault.Subject.{Subject}
use Rattle.dia_valid.specs.Valid.{class_of, known, IsLevel, Fits, FitsBy, AllFit, MHolds, IsAccepted, IsValidOf}
use Rattle.dia_check.specs.Levels.{MayOpen}
use Rattle.dia_check.specs.Faults.{keys_to, Spot, IsWrong, Occurs, HasGoodHeader}
use Rattle.dia_check.specs.Faults as faults
use Rattle.dia_check.proofs.FaultlessFronts.{Says, placed_says, not_missing_at, allowed_at, few_at, may_be_allowed}
use Rattle.dia_check.specs.Walks.{Found, Rest, following, inside, whole, IsFine, Walks, ended, leaf, group}
use Rattle.dia_valid.specs.Valid.{group_at}
use Rattle.dia_check.proofs.FaultlessLevels.{AreEnough, grouped_at, group_rules, entry_of_group, more_keys, walks_level}
use Rattle.dia_valid.proofs.Entries.{all_at}
use Rattle.dia_check.proofs.FoundFaultsStand.{walks_occurs}
use Rattle.dia_check.proofs.FirstFaults.{none_occurs}

-- so many levels may still be opened at a depth
abbrev pub AreLeft : Levels → ℕ → ℕ → Type 0
AreLeft Any n depth = Unit {0}
AreLeft (AtMost most) n depth = depth + n ≤ most

left_open : (m : Levels) (k deep : ℕ) → AreLeft m (suc k) deep → MayOpen m deep × AreLeft m k (suc deep)
left_open Any k deep h = (tt, tt)
left_open (AtMost m) k deep h = (omega (arith, h), omega (arith, h))

module _ (d : Dictionary) (sound : IsDictionary d) (u : Unknown) (most : Levels) where
  -- ---- an AVP that fits where it is

  fits_none : (Inner : List DRule → List ℕ → Type 0) (v : PlainAvp) → FitsBy d u Inner v → known d (key_of v) ≡ None → IsAccepted u v.flags
  fits_none Inner v fits h =
      subst (λ (o : Option DictEntry). MatchOption o (IsAccepted u v.flags) (λ e. MHolds e.rule v.flags × MatchOption e.group (IsLeaf e.format v.bytes) (λ group. Inner group.rules v.bytes))) h fits

  fits_some : (Inner : List DRule → List ℕ → Type 0) (v : PlainAvp) (e : DictEntry) → FitsBy d u Inner v → known d (key_of v) ≡ Some e
      → MHolds e.rule v.flags × MatchOption e.group (IsLeaf e.format v.bytes) (λ group. Inner group.rules v.bytes)
  fits_some Inner v e fits h =
      subst (λ (o : Option DictEntry). MatchOption o (IsAccepted u v.flags) (λ e. MHolds e.rule v.flags × MatchOption e.group (IsLeaf e.format v.bytes) (λ group. Inner group.rules v.bytes))) h fits

  -- a leaf, or a group
  leaf_or_group : (Inner : List DRule → List ℕ → Type 0) (v : PlainAvp) (e : DictEntry) (o : Option PlainDefinition) → e.group ≡ o → known d (key_of v) ≡ Some e
      → MatchOption o (IsLeaf e.format v.bytes) (λ group. Inner group.rules v.bytes)
      → (IsLeaf e.format v.bytes × (e.group ≡ None)) ⊎ ((e.format ≡ Grouped) × ((g : PlainDefinition) × (e.group ≡ Some g) × Inner g.rules v.bytes))
  leaf_or_group Inner v e None is h data_fits = inl (data_fits, is)
  leaf_or_group Inner v e (Some g) is h data_fits =
      let some : IsSome e.group = subst (λ (x : Option PlainDefinition). IsSome x) (sym is) refl in
      inr ((grouped_at d sound u most v e h).1 some, (g, is, data_fits))

  data_of : (Inner : List DRule → List ℕ → Type 0) (v : PlainAvp) (e : DictEntry) → FitsBy d u Inner v → known d (key_of v) ≡ Some e
      → (IsLeaf e.format v.bytes × (e.group ≡ None)) ⊎ ((e.format ≡ Grouped) × ((g : PlainDefinition) × (e.group ≡ Some g) × Inner g.rules v.bytes))
  data_of Inner v e fits h = leaf_or_group Inner v e e.group refl h (fits_some Inner v e fits h).1

  none_wrong : (Inner : List DRule → List ℕ → Type 0) (s : Rest) (v : PlainAvp) (q : List Key) → ((g : PlainDefinition) → Inner g.rules v.bytes → MayOpen most s.level.depth) → AreRules s.level.rules
      → Says s.level.rules (keys_to s.earlier v ++ q) → FitsBy d u Inner v → (r : Reason) (t : Subject) → ¬ IsWrong d u most s.level s.earlier v r t
  none_wrong Inner s v q may are says fits r t (faults.unknown none bad) = bad (fits_none Inner v fits none)
  none_wrong Inner s v q may are says fits r t (faults.m_bit e is bad) = bad (fits_some Inner v e fits is).0
  none_wrong Inner s v q may are says fits r t (faults.missing i rule first ends) =
      not_missing_at s.level.rules (map key_of s.earlier) (key_of v) q says i rule first (ends ∙ sym (length-map s.earlier key_of))
  none_wrong Inner s v q may are says fits r t (faults.not_allowed after_runs bad) =
      may_be_allowed s.level.rules (key_of v) are (allowed_at s.level.rules (map key_of s.earlier) (key_of v) q says (let e = length-map s.earlier key_of in omega (arith, after_runs, e))) bad
  none_wrong Inner s v q may are says fits r t (faults.too_many i rule passes) =
      let few = few_at s.level.rules (keys_to s.earlier v) q says i rule passes.max passes.is_rule passes.is_max in
      let now = passes.now in
      omega (arith, few, now)
  none_wrong Inner s v q may are says fits r t (faults.leaf_length e is bad) =
      ⊎_elim (λ l. bad (leaf_fits e.format v.bytes l.0)) (λ g. bad (subst (λ (f : PlainFormat). LengthFits f v.bytes) (sym g.0) tt)) (data_of Inner v e fits is)
  none_wrong Inner s v q may are says fits r t (faults.leaf_value e is long bad single) =
      ⊎_elim (λ l. bad l.0) (λ g. single g.0) (data_of Inner v e fits is)
  none_wrong Inner s v q may are says fits r t (faults.depth e is is_group bad) =
      ⊎_elim (λ l. let some : IsSome e.group = (grouped_at d sound u most v e is).0 is_group in
      let none : IsSome {T = PlainDefinition} None = subst (λ (x : Option PlainDefinition). IsSome x) l.1 some in absurd cc)
      (λ g. bad (may g.1.0 g.1.2)) (data_of Inner v e fits is)

  is_fine : (Inner : List DRule → List ℕ → Type 0) (s : Rest) (v : PlainAvp) (q : List Key) → ((g : PlainDefinition) → Inner g.rules v.bytes → MayOpen most s.level.depth) → AreRules s.level.rules
      → Says s.level.rules (keys_to s.earlier v ++ q) → FitsBy d u Inner v → IsFine d u most s v
  is_fine Inner s v q may are says fits = record {
    none_wrong = none_wrong Inner s v q may are says fits;
    leaf = λ e h. ⊎_elim (λ l. inl l.0) (λ g. inr g.0) (data_of Inner v e fits h);
  }

  -- ---- a level of AVPs that fit

  abbrev start_of : PlainDefinition → ℕ → ℕ → ℕ → List ℕ → Rest
  start_of g start end deep bytes = record { level = record { rules = g.rules; start = start; end = end; depth = deep }; earlier = []; at = start; bytes = bytes }

  -- a group may be opened, and a walk finds nothing in it
  abbrev Inside : (List DRule → List ℕ → Type 0) → ℕ → Type 0
  Inside Inner deep = (g : PlainDefinition) (start end : ℕ) (bytes : List ℕ) → AreRules g.rules → Inner g.rules bytes → Walks d u most (start_of g start end (suc deep) bytes) None

  goes_by : (Inner : List DRule → List ℕ → Type 0) (s : Rest) (v : PlainAvp) (rest : List ℕ) (o : Option PlainDefinition) → group_at d v ≡ o → Inside Inner s.level.depth
      → FitsBy d u Inner v → BeginsWith v s.bytes rest → IsFine d u most s v
      → Walks d u most (following s v rest) None → Walks d u most s None
  goes_by Inner s v rest None is inner fits begins fine walk = leaf v rest begins fine is walk
  goes_by Inner s v rest (Some g) is inner fits begins fine walk =
      let (e, h, group_is) = entry_of_group d sound u most v g (known d (key_of v)) refl is in
      let fits_in : Inner g.rules v.bytes = subst (λ (x : Option PlainDefinition). MatchOption x (IsLeaf e.format v.bytes) (λ group. Inner group.rules v.bytes)) group_is
      (fits_some Inner v e fits h).1 in
      group v rest g begins fine is (inner g (inside s v g).level.start (inside s v g).level.end v.bytes (group_rules d sound u most v e g h group_is) fits_in) walk

  walk_avps : (Inner : List DRule → List ℕ → Type 0) (avps : List PlainAvp) (s : Rest) → ((g : PlainDefinition) (bytes : List ℕ) → Inner g.rules bytes → MayOpen most s.level.depth)
      → Inside Inner s.level.depth → AreRules s.level.rules
      → SpellsAll avps s.bytes → Says s.level.rules (map key_of s.earlier ++ map key_of avps) → AllByRecursion (FitsBy d u Inner) avps → Walks d u most s None
  walk_avps Inner [] s may inner are spells says fits =
      let all : Says s.level.rules (map key_of s.earlier) = subst (Says s.level.rules) (append-nil (map key_of s.earlier)) says in
      ended spells (λ i rule first. let least = (all.each i rule first.is_rule).0 in let short = first.short in omega (arith, least, short)) refl
  walk_avps Inner (v ∷ more) s may inner are (front, rest, spelled, parts, others) says fits =
      let here : Says s.level.rules (keys_to s.earlier v ++ map key_of more) = subst (Says s.level.rules) (sym (append_assoc (map key_of s.earlier) (key_of v ∷ []) (map key_of more))) says in
      let next : Says s.level.rules (map key_of (s.earlier ++ v ∷ []) ++ map key_of more) = subst (λ (ks : List Key). Says s.level.rules (ks ++ map key_of more))
      (sym (more_keys d sound u most s.earlier v)) here in
      let begins : BeginsWith v s.bytes rest = (front, spelled, parts) in
      let fine = is_fine Inner s v (map key_of more) (λ g h. may g v.bytes h) are here fits.0 in
      goes_by Inner s v rest (group_at d v) refl inner fits.0 begins fine (walk_avps Inner more (following s v rest) may inner are others next fits.1)

  pub level_walk : (n : ℕ) (g : PlainDefinition) (start end deep : ℕ) (bytes : List ℕ) → AreRules g.rules → AreLeft most n deep → IsLevel (Fits d u n) g.rules bytes
      → Walks d u most (start_of g start end deep bytes) None
  level_walk zero g start end deep bytes are left (avps, spells, is_placed, fits) =
      walk_avps (λ rules bytes. ⊥) avps (start_of g start end deep bytes) (λ k b h. absurd h) (λ k from to b sound_rules h. absurd h) are spells
      (placed_says g.rules (map key_of avps) are is_placed) fits
  level_walk (suc n) g start end deep bytes are left (avps, spells, is_placed, fits) =
      let may = left_open most n deep left in
      walk_avps (IsLevel (Fits d u n)) avps (start_of g start end deep bytes) (λ k b h. may.0)
      (λ k from to b sound_rules h. level_walk n k from to (suc deep) b sound_rules may.1 h) are spells (placed_says g.rules (map key_of avps) are is_placed) fits

-- ---- messages

pub head_size : (h : Header) (n : ℕ) (b : List ℕ) → IsHead h n b → length b ≡ 20
head_size h n b s =
    let a = length-append ((1 ∷ s.len) ++ (h.flags ∷ s.code) ++ s.app ++ s.hop) s.e2e in
    let c = length-append ((1 ∷ s.len) ++ (h.flags ∷ s.code) ++ s.app) s.hop in
    let e = length-append ((1 ∷ s.len) ++ (h.flags ∷ s.code)) s.app in
    let f = length-append (1 ∷ s.len) (h.flags ∷ s.code) in
    ap length s.parts ∙ omega (arith, a, c, e, f, s.length_field.width, s.code_field.width, s.app_field.width, s.hop_field.width, s.e2e_field.width)

all_left : (d : Dictionary) (u : Unknown) (m : Levels) (avps : List PlainAvp) → AllFit d u m avps → (n : ℕ) × AreLeft m n 0 × AllByRecursion (Fits d u n) avps
all_left d u Any avps (n, fits) = (n, tt, fits)
all_left d u (AtMost m) avps fits = (m, omega arith, fits)

all_fit : (d : Dictionary) (u : Unknown) (m : Levels) (avps : List PlainAvp) (n : ℕ) (bytes : List ℕ) → AreEnough m n 0 bytes → AllByRecursion (Fits d u n) avps → AllFit d u m avps
all_fit d u Any avps n bytes enough fits = (n, fits)
all_fit d u (AtMost m) avps n bytes enough fits = subst (λ (k : ℕ). AllByRecursion (Fits d u k) avps) (let e : n ≡ m = omega (arith, enough) in e) fits

enough_levels : (m : Levels) (bytes : List ℕ) → (n : ℕ) × AreEnough m n 0 bytes
enough_levels Any bytes = (length bytes, omega arith)
enough_levels (AtMost m) bytes = (m, omega arith)

module _ (d : Dictionary) (sound : IsDictionary d) (u : Unknown) (most : Levels) (bytes : List ℕ) where
  abbrev pub valid_good : (c : ℕ) → IsValidOf d u most bytes c → HasGoodHeader d bytes
  valid_good c v = record {
    header = v.header;
    is_header = let m = v.message in subst (λ (b : List ℕ). IsHead v.header (length bytes) b)
        (sym (ap (take 20) m.parts ∙ take_at m.head m.body 20 (head_size v.header (length bytes) m.head m.is_head))) m.is_head;
    bits = (v.no_error_request, v.no_repeated_answer);
    c = c;
    select = v.select;
    command = v.command;
    is_command = v.is_command;
    proxiable = v.proxiable;
  }

  command_rules : (c : ℕ) (command : PlainDefinition) → slice_get (definitions d) c ≡ Some command → AreRules command.rules
  command_rules c command is = all_at (λ (def : PlainDefinition). AreRules def.rules) (definitions d) c command sound.rules is

  -- a valid message has a walk that finds nothing
  pub valid_walk : (c : ℕ) (v : IsValidOf d u most bytes c) → Walks d u most (whole v.command.rules bytes) None
  valid_walk c v =
      let m = v.message in
      let (n, left, fits) = all_left d u most v.avps v.fit in
      let body : drop 20 bytes ≡ m.body = ap (drop 20) m.parts ∙ drop_at m.head m.body 20 (head_size v.header (length bytes) m.head m.is_head) in
      level_walk d sound u most n v.command 20 (length bytes) 0 (drop 20 bytes) (command_rules c v.command v.is_command) left (v.avps, subst (SpellsAll v.avps) (sym body) m.is_body, v.placed, fits)

  -- in a valid message no fault occurs
  pub valid_occurs : (c : ℕ) → IsValidOf d u most bytes c → (other : Spot) (r : Reason) (t : Subject) → ¬ Occurs d u most bytes other r t
  valid_occurs c v other r t occurs = none_occurs d u most bytes (valid_good c v) (valid_walk c v) other r t occurs

  -- so no walk finds something in it
  pub valid_finds : (c : ℕ) (f : Option Found) (good : HasGoodHeader d bytes) → IsValidOf d u most bytes c → Walks d u most (whole good.command.rules bytes) f → f ≡ None
  valid_finds c None good v walk = refl
  valid_finds c (Some h) good v walk = absurd (valid_occurs c v h.spot h.reason h.subject (walks_occurs d sound u most bytes good h walk))

  -- and it is of the command that its header selects
  pub valid_command : (c : ℕ) (good : HasGoodHeader d bytes) → IsValidOf d u most bytes c → good.c ≡ c
  valid_command c good v =
      let other = valid_good c v in
      let o = one_header good.header other.header (length bytes) (length bytes) (take 20 bytes) good.is_header other.is_header in
      same_Some good.c c (sym good.select ∙ ap (λ (x : Header). selected d x.code (class_of x.flags) x.app) o.0 ∙ v.select)

  -- where a walk finds nothing the message is valid
  pub walk_valid : (good : HasGoodHeader d bytes) → Walks d u most (whole good.command.rules bytes) None → IsValidOf d u most bytes good.c
  walk_valid good walk =
      let (n, enough) = enough_levels most (drop 20 bytes) in
      let (avps, spells, is_placed, fits) = walks_level d sound u most n good.command.rules 20 (length bytes) 0 (drop 20 bytes) (command_rules good.c good.command good.is_command) enough walk in
      record {
        header = good.header;
        avps = avps;
        command = good.command;
        message = record { head = take 20 bytes; body = drop 20 bytes; parts = sym (take-append-drop 20 bytes); is_head = good.is_header; is_body = spells };
        no_error_request = good.bits.0;
        no_repeated_answer = good.bits.1;
        select = good.select;
        is_command = good.is_command;
        proxiable = good.proxiable;
        placed = is_placed;
        fit = all_fit d u most avps n (drop 20 bytes) enough fits;
      }
