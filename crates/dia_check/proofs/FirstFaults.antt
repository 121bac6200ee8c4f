-- A fault of a message is what a walk finds first, or follows it.
use Rattle.std.proofs.Common.{◌≡◌, ℕ, suc, ◌+◌, ◌-◌, ◌<◌, ◌≤◌, true, List, [], ◌∷◌, ◌++◌, length, map, take, drop, Option, Some, None, refl, sym, ap, subst, ◌∙◌, arith, inl, inr, ⊎_elim, append_assoc}
use Rattle.std.specs.Prelude.{◌⊎◌, slice_get}
use Rattle.std.proofs.lemmas.Bool.{both_ways}
use Rattle.std.proofs.lemmas.List.{length-take, length-drop, length-append, append-nil, take_all}
use Rattle.std.proofs.lemmas.Option.{same_Some, none-some}
use Rattle.dia_wire.specs.declared.Header.{Header}
use Rattle.dia_wire.specs.Wire.{PlainAvp, key_of, head_length, avp_length, padded_length, SpellsAll, BeginsWith, BeginsWithNone}
use Rattle.dia_wire.proofs.Spelling.{opened, rounded-le, at_least_8}
use Rattle.dia_wire.proofs.OneHeader.{head_says, one_header}
use Rattle.dia_book.specs.declared.DRule.{DRule}
use Rattle.dia_book.specs.Dictionary.{Dictionary, IsDictionary, PlainDefinition, definitions, selected, has_command, is_command}
use Rattle.dia_terms.specs.declared.Unknown.{Unknown}
use Rattle.dia_terms.specs.declared.Levels.{Levels}
use Rattle.dia_check.specs.declared.fault.Reason.{Reason}
use Rattle.dia_check.specs.declared.fault.Reason.TheVariants as reason
use Rattle.dia_check.specs.declared.fault.Subject.{Subject}
use Rattle.dia_check.specs.declared.fault.Subject.TheVariants.{Nothing}
use Rattle.dia_valid.specs.Valid.{HasR, HasE, HasT, class_of, AllowsP}
use Rattle.dia_check.specs.Levels.{Level, IsMember, IsOpen, IsCommandOf, MayOpen, between}
use Rattle.dia_check.specs.Levels as levels
use Rattle.dia_check.specs.Faults.{End, Spot, spot, IsBefore, subject_of, IsFirstMissing, IsWrong, Occurs, HasGoodHeader, HasHeader}
use Rattle.dia_check.specs.Reasons.{row_of}
use Rattle.dia_check.specs.Faults as faults
use Rattle.dia_check.specs.Walks.{Found, Rest, following, inside, whole, Walks, ended, missing, broken, wrong, leaf, group, bad_group}
use Rattle.dia_valid.specs.Valid.{group_at}
use Rattle.dia_check.specs.UnderWay.{Lies}
use Rattle.dia_check.proofs.FoundFaultsStand.{walks_occurs, lies_after, lies_inside, between-split, second_part, length-between, nothing_between}
use Rattle.dia_check.proofs.Uniqueness.{le_split, one_reason, missing_unique, one_subject, begins_some, found_at, Goes, goes, UpTo}
use Rattle.dia_check.proofs.Uniqueness.{up_more, up_later, up_row, up_end, before_both, selected_command, stops, passes, finds}

-- the fault is what is found, or follows it
abbrev pub OccursAfter : Option Found → Spot → Reason → Subject → Type 0
OccursAfter f other r t = (h : Found) × (f ≡ Some h) × (IsBefore h.spot other ⊎ (record { spot = other; reason = r; subject = t } ≡ h))

module _ (d : Dictionary) (u : Unknown) (most : Levels) where
  pub begun_room : (s : Rest) (v : PlainAvp) (rest : List ℕ) → BeginsWith v s.bytes rest → padded_length v + length rest ≡ length s.bytes
  begun_room s v rest (front, spells, parts) =
      let o = opened v front [] spells in
      let all : length s.bytes ≡ length front + length rest = ap length parts ∙ length-append front rest in
      omega (arith, all, o.front_length)

  -- it lies in the level
  found_in : (s : Rest) (f : Option Found) (h : Found) → Walks d u most s f → f ≡ Some h → s.at + length s.bytes ≡ s.level.end → UpTo h s.level.depth s.level.end
  found_in s f h (ended done none is) same size = absurd (none-some h (sym is ∙ same))
  found_in s f h (missing i rule done first is) same size =
      subst (λ (x : Found). UpTo x s.level.depth s.level.end) (same_Some _ h (sym is ∙ same)) (inr (refl, (s.level.depth, refl, omega arith)))
  found_in s f h (broken some none is) same size =
      subst (λ (x : Found). UpTo x s.level.depth s.level.end) (same_Some _ h (sym is ∙ same)) (inl (omega (arith, some, size)))
  found_in s f h (wrong v rest r t begins first is) same size =
      let some = begins_some v s.bytes rest begins in
      subst (λ (x : Found). UpTo x s.level.depth s.level.end) (same_Some _ h (sym is ∙ same)) (inl (omega (arith, some, size)))
  found_in s f h (leaf v rest begins fine is_leaf more) same size =
      let room = begun_room s v rest begins in found_in (following s v rest) f h more same (omega (arith, room, size))
  found_in s f h (group v rest g begins fine is_group inner more) same size =
      let room = begun_room s v rest begins in found_in (following s v rest) f h more same (omega (arith, room, size))
  found_in s f h (bad_group v rest g k begins fine is_group inner is) same size =
      let room = begun_room s v rest begins in
      let round = rounded-le (avp_length v) in
      let up = found_in (inside s v g) (Some k) k inner refl (omega arith) in
      subst (λ (x : Found). UpTo x s.level.depth s.level.end) (same_Some k h (sym is ∙ same))
      (up_more k (suc s.level.depth) s.level.depth (s.at + avp_length v) s.level.end up (omega (arith, room, size, round)) (omega arith))

  -- ---- a walk comes by each place of each open level, or finds something before it

  module _ (bytes : List ℕ) (good : HasGoodHeader d bytes) where
    abbrev Here : Rest → Type 0
    Here s = Lies d u most bytes good s

    abbrev pos : Level → List PlainAvp → ℕ → Rest
    pos l earlier at = record { level = l; earlier = earlier; at = at; bytes = between bytes at l.end }

    pub open_bounds : (l : Level) → IsOpen d most bytes l → (l.start ≤ l.end) × (l.end ≤ length bytes)
    open_bounds l (levels.body c command is) = let says = head_says good.header (length bytes) bytes good.is_header in (says.0, omega arith)
    open_bounds l (levels.group level earlier v at definition may_be_open member is_group may) =
        let bounds = open_bounds level may_be_open in
        let (front, spells, parts) = member.here in
        let o = opened v front [] spells in
        let all : length (between bytes at level.end) ≡ length front + length member.rest = ap length parts ∙ length-append front member.rest in
        let cut = length-take (level.end - at) (drop at bytes) in
        let left = length-drop at bytes in
        let round = rounded-le (avp_length v) in
        (omega arith, omega (arith, all, o.front_length, cut, left, round, at_least_8 v.vendor, bounds.1))

    -- an AVP of a level begins before its end
    member_room : (l : Level) (earlier : List PlainAvp) (v : PlainAvp) (at : ℕ) → IsMember bytes l earlier v at → at < l.end
    member_room l earlier v at member =
        let some = begins_some v (between bytes at l.end) member.rest member.here in
        let cut = length-take (l.end - at) (drop at bytes) in
        omega (arith, some, cut)

    lies_at : (l : Level) (earlier : List PlainAvp) (at : ℕ) → IsOpen d most bytes l → l.start ≤ at → at ≤ l.end → SpellsAll earlier (between bytes l.start at) → Here (pos l earlier at)
    lies_at l earlier at is_open from to before =
        let bounds = open_bounds l is_open in
        let size = length-between bytes at l.end to bounds.1 in
        record { open_level = is_open; from = from; before = before; here = refl; size = omega (arith, size, to); within = bounds.1 }

    abbrev Goes_on : Option Found → Level → List PlainAvp → ℕ → Type 0
    Goes_on g l earlier at = Walks d u most (pos l earlier at) g ⊎ ((h : Found) × (g ≡ Some h) × UpTo h (suc l.depth) at)

    forward_at : (s : Rest) (g : Option Found) (v : PlainAvp) (rest : List ℕ) (more : List PlainAvp) (to : ℕ) → s.at + padded_length v ≤ to → Goes d u most s v rest g
        → (Walks d u most (following s v rest) g → Goes_on g s.level ((s.earlier ++ v ∷ []) ++ more) to) → Goes_on g s.level (s.earlier ++ v ∷ more) to
    forward_at s g v rest more to le (stops r t first is) ih = let round = rounded-le (avp_length v) in inr (found_at s.at r t, is, inl (omega (arith, le, round, at_least_8 v.vendor)))
    forward_at s g v rest more to le (passes fine inner walk) ih = subst (λ (vs : List PlainAvp). Goes_on g s.level vs to) (append_assoc s.earlier (v ∷ []) more) (ih walk)
    forward_at s g v rest more to le (finds def h fine is_group inner is) ih =
        let round = rounded-le (avp_length v) in
        inr (h, is, up_more h (suc s.level.depth) (suc s.level.depth) (s.at + avp_length v) to (found_in (inside s v def) (Some h) h inner refl (omega arith)) (omega (arith, le, round)) (omega arith))

    forward : (more : List PlainAvp) (s : Rest) (to : ℕ) (g : Option Found) → Here s → Walks d u most s g → s.at ≤ to → to ≤ s.level.end → SpellsAll more (between bytes s.at to)
        → Goes_on g s.level (s.earlier ++ more) to
    forward [] s to g l walk le le' spells =
        let size = length-between bytes s.at to le (omega (arith, le', l.within)) in
        let none : length (between bytes s.at to) ≡ 0 = ap length spells in
        let same : s.at ≡ to = omega (arith, size, none, le) in
        let moved : s ≡ pos s.level (s.earlier ++ []) to =
        ap (λ (e : List PlainAvp). record { level = s.level; earlier = e; at = s.at; bytes = s.bytes }) (sym (append-nil s.earlier))
        ∙ ap (λ (b : List ℕ). record { level = s.level; earlier = s.earlier ++ []; at = s.at; bytes = b }) (sym l.here)
        ∙ ap (λ (n : ℕ). pos s.level (s.earlier ++ []) n) same in
        inl (subst (λ (x : Rest). Walks d u most x g) moved walk)
    forward (v ∷ more) s to g l walk le le' (front, rest, spells, parts, others) =
        let after = between bytes to s.level.end in
        let begins : BeginsWith v s.bytes (rest ++ after) = (
          front,
          spells,
          sym l.here ∙ between-split bytes s.at to s.level.end le le' ∙ ap (λ (t : List ℕ). t ++ after) parts
              ∙ append_assoc front rest after,
        ) in
        let o = opened v front [] spells in
        let size = length-between bytes s.at to le (omega (arith, le', l.within)) in
        let all : length (between bytes s.at to) ≡ length front + length rest = ap length parts ∙ length-append front rest in
        let next : s.at + padded_length v ≤ to = omega (arith, size, all, o.front_length, le) in
        let cut = second_part bytes front rest s.at (s.at + padded_length v) to (omega arith) next (omega (arith, le', l.within)) parts (omega (arith, o.front_length)) in
        forward_at s g v (rest ++ after) more to next (goes d u most s g v (rest ++ after) walk begins)
        (λ walk'. forward more (following s v (rest ++ after)) to g (lies_after d u most bytes good s v (rest ++ after) l begins) walk' next le' (subst (SpellsAll more) (sym cut) others))

    -- the walk of the whole finds nothing there, or it is there, or has found something before
    abbrev Comes : Option Found → Level → List PlainAvp → ℕ → Type 0
    Comes f l earlier at = ((g : Option Found) × ((g ≡ None) ⊎ (g ≡ f)) × Walks d u most (pos l earlier at) g) ⊎ ((h : Found) × (f ≡ Some h) × UpTo h (suc l.depth) at)

    is_found : (g f : Option Found) (h : Found) → (g ≡ None) ⊎ (g ≡ f) → g ≡ Some h → f ≡ Some h
    is_found g f h (inl none) is = absurd (none-some h (sym none ∙ is))
    is_found g f h (inr same) is = sym same ∙ is

    from_start : (f g : Option Found) (l : Level) → IsOpen d most bytes l → (g ≡ None) ⊎ (g ≡ f) → Walks d u most (pos l [] l.start) g
        → (earlier : List PlainAvp) (at : ℕ) → l.start ≤ at → at ≤ l.end → SpellsAll earlier (between bytes l.start at) → Comes f l earlier at
    from_start f g l is_open which walk earlier at from to spells =
        let bounds = open_bounds l is_open in
        ⊎_elim (λ w. inl (g, which, w)) (λ p. inr (p.0, is_found g f p.0 which p.1, p.2))
        (forward earlier (pos l [] l.start) at g (lies_at l [] l.start is_open (omega arith) bounds.0 (nothing_between bytes l.start)) walk from to spells)

    -- into a group
    into : (f g : Option Found) (level : Level) (earlier0 : List PlainAvp) (v : PlainAvp) (at0 : ℕ) (rest : List ℕ) (definition : PlainDefinition) → Here (pos level earlier0 at0)
        → BeginsWith v (between bytes at0 level.end) rest
        → group_at d v ≡ Some definition → MayOpen most level.depth → (g ≡ None) ⊎ (g ≡ f) → Goes d u most (pos level earlier0 at0) v rest g
        → (earlier : List PlainAvp) (at : ℕ) → at0 + head_length v.vendor ≤ at → at ≤ at0 + avp_length v → SpellsAll earlier (between bytes (at0 + head_length v.vendor) at)
        → Comes f (record { rules = definition.rules; start = at0 + head_length v.vendor; end = at0 + avp_length v; depth = suc level.depth }) earlier at
    into f g level earlier0 v at0 rest definition l begins is_group may which (stops r t first is) earlier at from to spells =
        inr (found_at at0 r t, is_found g f (found_at at0 r t) which is, inl (omega (arith, from, at_least_8 v.vendor)))
    into f g level earlier0 v at0 rest definition l begins is_group may which (passes fine inner walk) earlier at from to spells =
        let lies = lies_inside d u most bytes good (pos level earlier0 at0) v rest definition l begins is_group may in
        from_start f None (record { rules = definition.rules; start = at0 + head_length v.vendor; end = at0 + avp_length v; depth = suc level.depth }) lies.open_level (inl refl)
        (subst (λ (b : List ℕ). Walks d u most (record {
          level = record { rules = definition.rules; start = at0 + head_length v.vendor; end = at0 + avp_length v; depth = suc level.depth };
          earlier = [];
          at = at0 + head_length v.vendor;
          bytes = b;
        }) None) (sym lies.here) (inner definition is_group))
        earlier at from to spells
    into f g level earlier0 v at0 rest definition l begins is_group may which (finds def h fine is_group' inner is) earlier at from to spells =
        let lies = lies_inside d u most bytes good (pos level earlier0 at0) v rest definition l begins is_group may in
        let same : def ≡ definition = same_Some def definition (sym is_group' ∙ is_group) in
        from_start f (Some h) (record { rules = definition.rules; start = at0 + head_length v.vendor; end = at0 + avp_length v; depth = suc level.depth }) lies.open_level
        (inr (sym (is_found g f h which is)))
        (subst (λ (b : List ℕ). Walks d u most (record {
          level = record { rules = definition.rules; start = at0 + head_length v.vendor; end = at0 + avp_length v; depth = suc level.depth };
          earlier = [];
          at = at0 + head_length v.vendor;
          bytes = b;
        }) (Some h)) (sym lies.here)
        (subst (λ (x : PlainDefinition). Walks d u most (inside (pos level earlier0 at0) v x) (Some h)) same inner))
        earlier at from to spells

    one_command : (c : ℕ) (command : PlainDefinition) → IsCommandOf d bytes c command → good.command ≡ command
    one_command c command is =
        let o = one_header good.header is.header (length bytes) (length bytes) (take 20 bytes) good.is_header is.head in
        let same : good.c ≡ c = same_Some good.c c (sym good.select ∙ ap (λ (x : Header). selected d x.code (class_of x.flags) x.app) o.0 ∙ is.select) in
        same_Some good.command command (sym good.is_command ∙ ap (λ (n : ℕ). slice_get (definitions d) n) same ∙ is.is_command)

    body_bytes : between bytes 20 (length bytes) ≡ drop 20 bytes
    body_bytes = let e = length-drop 20 bytes in take_all (length bytes - 20) (drop 20 bytes) (omega (arith, e))

    comes : (f : Option Found) → Walks d u most (whole good.command.rules bytes) f → (l : Level) → IsOpen d most bytes l
        → (earlier : List PlainAvp) (at : ℕ) → l.start ≤ at → at ≤ l.end → SpellsAll earlier (between bytes l.start at) → Comes f l earlier at
    comes f walk l (levels.body c command is) earlier at from to spells =
        let begun = subst (λ (x : PlainDefinition). Walks d u most (whole x.rules bytes) f) (one_command c command is) walk in
        from_start f f (record { rules = command.rules; start = 20; end = length bytes; depth = 0 }) (levels.body c command is) (inr refl)
        (subst (λ (b : List ℕ). Walks d u most (record { level = record { rules = command.rules; start = 20; end = length bytes; depth = 0 }; earlier = []; at = 20; bytes = b }) f)
        (sym body_bytes) begun)
        earlier at from to spells
    comes f walk l (levels.group level earlier0 v at0 definition is_open member is_group may) earlier at from to spells =
        let room = member_room level earlier0 v at0 member in
        let room' : at0 ≤ level.end = omega (arith, room) in
        ⊎_elim
        (λ p. into f p.0 level earlier0 v at0 member.rest definition (lies_at level earlier0 at0 is_open member.inside room' member.before) member.here is_group may p.1
        (goes d u most (pos level earlier0 at0) p.0 v member.rest p.2 member.here) earlier at from to spells)
        (λ p. inr (p.0, p.1, up_later p.0 (suc level.depth) (suc (suc level.depth)) at0 at p.2 (omega (arith, from, at_least_8 v.vendor))))
        (comes f walk level is_open earlier0 at0 member.inside room' member.before)

    -- ---- what occurs there

    broken_at : (s : Rest) (g : Option Found) → Walks d u most s g → 0 < length s.bytes → BeginsWithNone s.bytes → g ≡ Some (found_at s.at reason.AvpLength Nothing)
    broken_at s g (ended done none is) some no_avp = absurd (omega (arith, some, ap length done))
    broken_at s g (missing i rule done first is) some no_avp = absurd (omega (arith, some, ap length done))
    broken_at s g (broken some' none is) some no_avp = is
    broken_at s g (wrong v rest r t begins first is) some no_avp = absurd (no_avp v rest begins)
    broken_at s g (leaf v rest begins fine is_leaf more) some no_avp = absurd (no_avp v rest begins)
    broken_at s g (group v rest k begins fine is_group inner more) some no_avp = absurd (no_avp v rest begins)
    broken_at s g (bad_group v rest k h begins fine is_group inner is) some no_avp = absurd (no_avp v rest begins)

    abbrev missing_found : Level → DRule → Found
    missing_found l rule = record { spot = record { place = l.end; row = End l.depth }; reason = reason.Missing; subject = subject_of rule.key }

    end_at : (s : Rest) (g : Option Found) (i : ℕ) (rule : DRule) → Walks d u most s g → s.bytes ≡ [] → IsFirstMissing s.level.rules (map key_of s.earlier) i rule
        → g ≡ Some (missing_found s.level rule)
    end_at s g i rule (ended done none is) empty first = absurd (none i rule first)
    end_at s g i rule (missing j other done first' is) empty first =
        is ∙ ap (λ (x : DRule). Some (missing_found s.level x)) (missing_unique s.level.rules (map key_of s.earlier) j i other rule first' first)
    end_at s g i rule (broken some none is) empty first = absurd (omega (arith, some, ap length empty))
    end_at s g i rule (wrong v rest r t begins first' is) empty first = absurd (omega (arith, begins_some v s.bytes rest begins, ap length empty))
    end_at s g i rule (leaf v rest begins fine is_leaf more) empty first = absurd (omega (arith, begins_some v s.bytes rest begins, ap length empty))
    end_at s g i rule (group v rest k begins fine is_group inner more) empty first = absurd (omega (arith, begins_some v s.bytes rest begins, ap length empty))
    end_at s g i rule (bad_group v rest k h begins fine is_group inner is) empty first = absurd (omega (arith, begins_some v s.bytes rest begins, ap length empty))

    avp_at : (s : Rest) (g : Option Found) (v : PlainAvp) (rest : List ℕ) (r : Reason) (t : Subject) → Goes d u most s v rest g → IsWrong d u most s.level s.earlier v r t
        → OccursAfter g (spot s.at r) r t
    avp_at s g v rest r t (stops q w first is) bad = (
      found_at s.at q w,
      is,
      ⊎_elim (λ lt. inl (inr (refl, lt)))
          (λ e. let same = one_reason q r e in inr (ap (λ (x : Subject). found_at s.at r x) (sym (one_subject d u most s.level s.earlier v q r w t first.wrong bad same))
          ∙ ap (λ (x : Reason). found_at s.at x w) (sym same)))
          (le_split (row_of q) (row_of r) (first.none_sooner r t bad)),
    )
    avp_at s g v rest r t (passes fine inner walk) bad = absurd (fine.none_wrong r t bad)
    avp_at s g v rest r t (finds k h fine is_group inner is) bad = absurd (fine.none_wrong r t bad)

    found_too : (g f : Option Found) (other : Spot) (r : Reason) (t : Subject) → (g ≡ None) ⊎ (g ≡ f) → OccursAfter g other r t → OccursAfter f other r t
    found_too g f other r t which p = (p.0, is_found g f p.0 which p.1, p.2)

    same_header : (h : Header) → HasHeader bytes h → good.header ≡ h
    same_header h is = (one_header good.header h (length bytes) (length bytes) (take 20 bytes) good.is_header is).0

    pub least : (f : Option Found) → Walks d u most (whole good.command.rules bytes) f → (other : Spot) (r : Reason) (t : Subject) → Occurs d u most bytes other r t → OccursAfter f other r t
    least f walk other r t (faults.bits h is bad) =
        let rules = subst (λ (x : Header). (HasR x.flags → ¬ HasE x.flags) × (HasT x.flags → HasR x.flags)) (same_header h is) good.bits in
        absurd (⊎_elim (λ b. rules.0 b.0 b.1) (λ b. b.1 (rules.1 b.0)) bad)
    least f walk other r t (faults.command h is none) =
        let some = selected_command d good.header.code (class_of good.header.flags) good.header.app good.c good.command good.select in
        absurd (both_ways (has_command d h.code (class_of h.flags)) none (subst (λ (x : Header). has_command d x.code (class_of x.flags) ≡ true) (same_header h is) some))
    least f walk other r t (faults.application h is some none) =
        absurd (none-some good.c (sym none ∙ subst (λ (x : Header). selected d x.code (class_of x.flags) x.app ≡ Some good.c) (same_header h is) good.select))
    least f walk other r t (faults.proxiable h c command is select is_command bad) =
        let same = one_command c command (record { header = h; head = is; select = select; is_command = is_command }) in
        absurd (bad (subst (λ (x : Header). AllowsP command.head x.flags) (same_header h is) (subst (λ (x : PlainDefinition). AllowsP x.head good.header.flags) same good.proxiable)))
    least f walk other r t (faults.avp_length level earlier at looks from lt before none) =
        let to : at ≤ level.end = omega (arith, lt) in
        let bounds = open_bounds level looks.open_level in
        let size = length-between bytes at level.end to bounds.1 in
        ⊎_elim
        (λ p. (found_at at reason.AvpLength Nothing, is_found p.0 f (found_at at reason.AvpLength Nothing) p.1 (broken_at (pos level earlier at) p.0 p.2 (omega (arith, size, lt)) none), inr refl))
        (λ p. (p.0, p.1, inl (up_row p.0 (suc level.depth) at reason.AvpLength p.2)))
        (comes f walk level looks.open_level earlier at from to before)
    least f walk other r t (faults.avp level earlier v at q w meets bad) =
        let room = member_room level earlier v at meets.member in
        ⊎_elim
        (λ p. found_too p.0 f (spot at q) q w p.1 (avp_at (pos level earlier at) p.0 v meets.member.rest q w (goes d u most (pos level earlier at) p.0 v meets.member.rest p.2 meets.member.here) bad))
        (λ p. (p.0, p.1, inl (up_row p.0 (suc level.depth) at q p.2)))
        (comes f walk level meets.looks.open_level earlier at meets.member.inside (omega (arith, room)) meets.member.before)
    least f walk other r t (faults.missing_at_end level avps i rule looks spells first) =
        let bounds = open_bounds level looks.open_level in
        ⊎_elim
        (λ p. (missing_found level rule, is_found p.0 f (missing_found level rule) p.1 (end_at (pos level avps level.end) p.0 i rule p.2 (nothing_between bytes level.end) first), inr refl))
        (λ p. (p.0, p.1, inl (up_end p.0 level.depth level.end p.2)))
        (comes f walk level looks.open_level avps level.end bounds.0 (omega arith) spells)

-- no fault occurs before what is found
pub walks_first : (d : Dictionary) (u : Unknown) (most : Levels) (bytes : List ℕ) (good : HasGoodHeader d bytes) (f : Found) → Walks d u most (whole good.command.rules bytes) (Some f)
    → (other : Spot) (r : Reason) (t : Subject) → Occurs d u most bytes other r t → ¬ IsBefore other f.spot
walks_first d u most bytes good f walk other r t occurs = by (least d u most bytes good (Some f) walk other r t occurs)
  where
    by : OccursAfter (Some f) other r t → IsBefore other f.spot → ⊥
    by (h, is, inl later) before = before_both other f.spot before (subst (λ (x : Found). IsBefore x.spot other) (sym (same_Some f h is)) later)
    by (h, is, inr same) before =
        let e : other ≡ f.spot = ap (λ (x : Found). x.spot) (same ∙ sym (same_Some f h is)) in
        let self : IsBefore f.spot f.spot = subst (λ (x : Spot). IsBefore x f.spot) e before in
        before_both f.spot f.spot self self

-- where nothing is found, no fault occurs
pub none_occurs : (d : Dictionary) (u : Unknown) (most : Levels) (bytes : List ℕ) (good : HasGoodHeader d bytes) → Walks d u most (whole good.command.rules bytes) None
    → (other : Spot) (r : Reason) (t : Subject) → ¬ Occurs d u most bytes other r t
none_occurs d u most bytes good walk other r t occurs = let p = least d u most bytes good None walk other r t occurs in none-some p.0 p.1

same_spot : (h k : Found) → OccursAfter (Some h) k.spot k.reason k.subject → OccursAfter (Some k) h.spot h.reason h.subject → h ≡ k
same_spot h k (h', is, inr e) other = same_Some h h' is ∙ sym e
same_spot h k (h', is, inl later) (k', is', inr e) = e ∙ sym (same_Some k k' is')
same_spot h k (h', is, inl later) (k', is', inl sooner) =
    absurd (before_both h.spot k.spot (subst (λ (x : Found). IsBefore x.spot k.spot) (sym (same_Some h h' is)) later) (subst (λ (x : Found). IsBefore x.spot h.spot) (sym (same_Some k k' is')) sooner))

-- a message has one walk
pub one_walk : (d : Dictionary) (u : Unknown) (most : Levels) (bytes : List ℕ) (good : HasGoodHeader d bytes) → IsDictionary d → (f g : Option Found)
    → Walks d u most (whole good.command.rules bytes) f → Walks d u most (whole good.command.rules bytes) g → f ≡ g
one_walk d u most bytes good sound None None x y = refl
one_walk d u most bytes good sound None (Some k) x y = absurd (none_occurs d u most bytes good x k.spot k.reason k.subject (walks_occurs d sound u most bytes good k y))
one_walk d u most bytes good sound (Some h) None x y = absurd (none_occurs d u most bytes good y h.spot h.reason h.subject (walks_occurs d sound u most bytes good h x))
one_walk d u most bytes good sound (Some h) (Some k) x y =
    ap (λ (z : Found). Some z) (same_spot h k (least d u most bytes good (Some h) x k.spot k.reason k.subject (walks_occurs d sound u most bytes good k y))
    (least d u most bytes good (Some k) y h.spot h.reason h.subject (walks_occurs d sound u most bytes good h x)))
