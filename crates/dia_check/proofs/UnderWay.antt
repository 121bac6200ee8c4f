-- How the check of a body goes from step to step, over nested levels.
use Rattle.std.proofs.Common.{◌≡◌, ℕ, suc, ◌+◌, ◌-◌, ◌*◌, ◌/◌, ◌%◌, ◌<◌, ◌≤◌, List, [], ◌∷◌, ◌++◌, length, map, Option, Some, None, refl, sym, ap, subst, ◌∙◌, arith}
use Rattle.std.specs.Prelude.{slice_get}
use Rattle.std.proofs.lemmas.List.{length-append, length-map, map-append}
use Rattle.std.proofs.lemmas.Option.{slice_get_within}
use Rattle.dia_wire.specs.declared.Key.{Key}
use Rattle.dia_wire.specs.Wire.{PlainAvp, key_of, head_length, avp_length, padded_length, BeginsWith, BeginsWithNone}
use Rattle.dia_wire.proofs.Spelling.{rounded-le}
use Rattle.dia_book.specs.Dictionary.{Dictionary, IsDictionary, PlainDefinition, definitions}
use Rattle.dia_terms.specs.declared.Unknown.{Unknown}
use Rattle.dia_terms.specs.declared.Levels.{Levels}
use Rattle.dia_check.specs.declared.fault.Reason.{Reason}
use Rattle.dia_check.specs.declared.fault.Reason.TheVariants as reason
use Rattle.dia_check.specs.declared.fault.Subject.{Subject}
use Rattle.dia_check.specs.declared.fault.Subject.TheVariants.{Nothing}
use Rattle.dia_check.specs.declared.fault.Fault.{Fault}
use Rattle.dia_check.specs.declared.fault.Refusal.TheVariants as refusal
use Rattle.dia_check.specs.declared.open_levels.OpenLevel.{OpenLevel}
use Rattle.dia_check.specs.declared.open_levels.OpenLevels.{OpenLevels}
use Rattle.dia_check.specs.declared.open_levels.Wrong.{Wrong}
use Rattle.dia_check.specs.Levels.{between}
use Rattle.dia_check.specs.Reasons.{code_of}
use Rattle.dia_check.specs.Faults.{subject_of, spot, End, HasGoodHeader}
use Rattle.dia_check.specs.OpenLevels.{SoFar, begun, and_key, AreOpen, IsMetAtEnd, IsMissingAtEnd}
use Rattle.dia_check.specs.Admission.{IsFineAvp, IsWrongAvp}
use Rattle.dia_check.specs.Walks.{Found, Rest, following, inside, whole, fault_of, IsFoundIn, IsFine, Walks, ended, broken, wrong, leaf, group}
use Rattle.dia_valid.specs.Valid.{group_at}
use Rattle.dia_check.specs.Walks as walks
use Rattle.dia_check.proofs.FaultlessLevels.{more_keys, opens}
use Rattle.dia_check.proofs.Uniqueness.{begins_some}
use Rattle.dia_check.proofs.FirstFaults.{begun_room}
use Rattle.dia_check.specs.UnderWay.{so_far, Owes, IsRestAt, AreNested, IsUnderWay}
use Rattle.dia_check.proofs.FoundFaultsStand.{lies_after, lies_inside, body_lies}
use Rattle.dia_check.proofs.KeptLevels.{kept_many}
use Rattle.dia_check.proofs.RestOfLevels.{Owes-passed, Owes-entered, Owes-done, Owes-found, is_fine, group_is, no_group, first_wrong}

-- ---- nested levels

same_head : (a b : SoFar) (xs ys : List SoFar) → a ∷ xs ≡ b ∷ ys → (a ≡ b) × (xs ≡ ys)
same_head a b xs ys e = (cc, cc)

-- the last level of some, from what is met of them
last_of : (rs : List Rest) (others : List SoFar) (next : SoFar) → map so_far rs ≡ others ++ next ∷ []
    → (qs : List Rest) × (r : Rest) × (rs ≡ qs ++ r ∷ []) × (map so_far qs ≡ others) × (so_far r ≡ next)
last_of [] [] next e = absurd cc
last_of [] (o ∷ others) next e = absurd cc
last_of (r ∷ []) [] next e = ([], r, refl, refl, (same_head (so_far r) next [] [] e).0)
last_of (r ∷ q ∷ rs) [] next e = absurd (let k = (same_head (so_far r) next (map so_far (q ∷ rs)) [] e).1 in cc)
last_of (r ∷ rs) (o ∷ others) next e =
    let parts = same_head (so_far r) o (map so_far rs) (others ++ next ∷ []) e in
    let (qs, last, is, same, here) = last_of rs others next parts.1 in
    (r ∷ qs, last, ap (λ (t : List Rest). r ∷ t) is, ap (λ (t : List SoFar). so_far r ∷ t) same ∙ ap (λ (a : SoFar). a ∷ others) parts.0, here)

module _ (d : Dictionary) (u : Unknown) (most : Levels) (bytes : List ℕ) (good : HasGoodHeader d bytes) where
  nested_push : (depth next : ℕ) (rs : List Rest) (s t : Rest) → AreNested d u most bytes good depth next rs s
      → IsRestAt d u most bytes good (suc (depth + length rs)) s.at t → AreNested d u most bytes good depth next (rs ++ s ∷ []) t
  nested_push depth next [] s t h inner = (h, subst (λ (n : ℕ). IsRestAt d u most bytes good n s.at t) (let e : suc (depth + length {A = Rest} []) ≡ suc depth = omega arith in e) inner)
  nested_push depth next (r ∷ rs) s t (here, h) inner = (
    here,
    nested_push (suc depth) r.at rs s t h (subst (λ (n : ℕ). IsRestAt d u most bytes good n s.at t)
        (let e : suc (depth + length (r ∷ rs)) ≡ suc (suc depth + length rs) = omega arith in e) inner),
  )

  nested_pop : (depth next : ℕ) (rs : List Rest) (r s : Rest) → AreNested d u most bytes good depth next (rs ++ r ∷ []) s
      → AreNested d u most bytes good depth next rs r × IsRestAt d u most bytes good (suc (depth + length rs)) r.at s
  nested_pop depth next [] r s (here, inner) = (here, subst (λ (n : ℕ). IsRestAt d u most bytes good n r.at s) (let e : suc depth ≡ suc (depth + length {A = Rest} []) = omega arith in e) inner)
  nested_pop depth next (q ∷ rs) r s (here, h) =
      let (others, inner) = nested_pop (suc depth) q.at rs r s h in
      ((here, others), subst (λ (n : ℕ). IsRestAt d u most bytes good n r.at s) (let e : suc (suc depth + length rs) ≡ suc (depth + length (q ∷ rs)) = omega arith in e) inner)

  nested_last : (depth next : ℕ) (rs : List Rest) (s : Rest) → AreNested d u most bytes good depth next rs s → (n : ℕ) × IsRestAt d u most bytes good (depth + length rs) n s
  nested_last depth next [] s h = (next, subst (λ (n : ℕ). IsRestAt d u most bytes good n next s) (let e : depth ≡ depth + length {A = Rest} [] = omega arith in e) h)
  nested_last depth next (r ∷ rs) s (here, h) =
      let (n, last) = nested_last (suc depth) r.at rs s h in
      (n, subst (λ (k : ℕ). IsRestAt d u most bytes good k n s) (let e : suc depth + length rs ≡ depth + length (r ∷ rs) = omega arith in e) last)

  nested_new : (depth next : ℕ) (rs : List Rest) (s t : Rest) → AreNested d u most bytes good depth next rs s
      → ((k n : ℕ) → IsRestAt d u most bytes good k n s → IsRestAt d u most bytes good k n t) → AreNested d u most bytes good depth next rs t
  nested_new depth next [] s t h new = new depth next h
  nested_new depth next (r ∷ rs) s t (here, h) new = (here, nested_new (suc depth) r.at rs s t h new)

  -- ---- one AVP more

  rest_after : (s : Rest) (v : PlainAvp) (rest : List ℕ) (k n : ℕ) → BeginsWith v s.bytes rest → IsRestAt d u most bytes good k n s → IsRestAt d u most bytes good k n (following s v rest)
  rest_after s v rest k n begins h = record {
    lies = lies_after d u most bytes good s v rest h.lies begins;
    deep = h.deep;
    ends = h.ends;
    aligned = let a = h.aligned in omega (arith, a);
    few = let more = length-append s.earlier (v ∷ []) in let f = h.few in let size = head_least v.vendor in omega (arith, more, f, size);
  }
    where
      head_least : (o : Option ℕ) → 8 ≤ head_length o
      head_least None = omega arith
      head_least (Some x) = omega arith

module _ (d : Dictionary) (sound : IsDictionary d) (u : Unknown) (most : Levels) (bytes : List ℕ) (good : HasGoodHeader d bytes) where
  rest_inside : (s : Rest) (v : PlainAvp) (rest : List ℕ) (g : PlainDefinition) (k n : ℕ) → BeginsWith v s.bytes rest → IsFine d u most s v → group_at d v ≡ Some g → IsRestAt d u most bytes good k n s
      → IsRestAt d u most bytes good (suc k) (following s v rest).at (inside s v g)
  rest_inside s v rest g k n begins fine is h = record {
    lies = lies_inside d u most bytes good s v rest g h.lies begins is (opens d sound u most s v g fine is);
    deep = ap (λ (i : ℕ). suc i) h.deep;
    ends = let a = h.aligned in omega (arith, a);
    aligned = let a = h.aligned in by v.vendor a;
    few = omega arith;
  }
    where
      by : (o : Option ℕ) → s.at % 4 ≡ 0 → (s.at + head_length o) % 4 ≡ 0
      by None a = omega (arith, a)
      by (Some x) a = omega (arith, a)

  pub started : (open_levels : OpenLevels) → AreOpen (definitions d) open_levels [] (begun good.command.rules (length bytes)) → IsUnderWay d u most bytes good open_levels 20
  started open_levels now = record {
    rests = [];
    s = whole good.command.rules bytes;
    occurs = now;
    nested = record { lies = body_lies d sound u most bytes good; deep = refl; ends = refl; aligned = refl; few = omega arith };
    here = refl;
    goes_on = λ f h. h;
  }

  module _ (open_levels : OpenLevels) (at : ℕ) (w : IsUnderWay d u most bytes good open_levels at) where
    pub last : (n : ℕ) × IsRestAt d u most bytes good (length w.rests) n w.s
    last = let (n, h) = nested_last d u most bytes good 0 ((length bytes + 3) / 4 * 4) w.rests w.s w.nested in
        (n, subst (λ (k : ℕ). IsRestAt d u most bytes good k n w.s) (let e : 0 + length w.rests ≡ length w.rests = omega arith in e) h)

    -- the place lies in the innermost level, and that in the message
    pub place : (at ≤ open_levels.innermost.end) × (open_levels.innermost.end ≤ length bytes)
    place = let l = last.1.lies in (omega (arith, l.size, w.here, w.occurs.innermost.is_end), omega (arith, l.within, w.occurs.innermost.is_end))

    pub left : between bytes at open_levels.innermost.end ≡ w.s.bytes
    left = ap (λ (n : ℕ). between bytes n open_levels.innermost.end) (sym w.here) ∙ ap (λ (n : ℕ). between bytes w.s.at n) w.occurs.innermost.is_end ∙ last.1.lies.here

    pub few : 8 * length (map key_of w.s.earlier) ≤ length bytes
    few = let l = last.1.lies in let m = length-map w.s.earlier key_of in omega (arith, m, last.1.few, l.size, l.within)

    pub deep : length (map so_far w.rests) ≡ w.s.level.depth
    deep = length-map w.rests so_far ∙ sym last.1.deep

    fine_here : (v : PlainAvp) (n : Option ℕ) → IsFineAvp d u most (length (map so_far w.rests)) w.s.level.rules (map key_of w.s.earlier) v n
        → IsFineAvp d u most w.s.level.depth w.s.level.rules (map key_of w.s.earlier) v n
    fine_here v n h = subst (λ (k : ℕ). IsFineAvp d u most k w.s.level.rules (map key_of w.s.earlier) v n) deep h

    pub passed : (v : PlainAvp) (rest : List ℕ) (next : OpenLevels) (to : ℕ) → BeginsWith v w.s.bytes rest
        → IsFineAvp d u most (length (map so_far w.rests)) w.s.level.rules (map key_of w.s.earlier) v None
        → AreOpen (definitions d) next (map so_far w.rests) (and_key (so_far w.s) (key_of v)) → to ≡ at + padded_length v → IsUnderWay d u most bytes good next to
    passed v rest next to begins says now is =
        let known = fine_here v None says in
        record {
          rests = w.rests;
          s = following w.s v rest;
          occurs = subst (λ (keys : List Key). AreOpen (definitions d) next (map so_far w.rests) (record { rules = w.s.level.rules; end = w.s.level.end; keys = keys }))
              (sym (more_keys d sound u most w.s.earlier v)) now;
          nested = nested_new d u most bytes good 0 ((length bytes + 3) / 4 * 4) w.rests w.s (following w.s v rest) w.nested (λ k n h. rest_after d u most bytes good w.s v rest k n begins h);
          here = let e = w.here in omega (arith, e, is);
          goes_on = λ f h. w.goes_on f (Owes-passed d u most w.rests w.s (following w.s v rest) f
              (λ g walk. leaf v rest begins (is_fine d u most w.s v None known) (no_group d u most w.s v known) walk) h);
        }

    -- a group is entered
    pub entered : (v : PlainAvp) (rest : List ℕ) (n : ℕ) (next : OpenLevels) (end to : ℕ) → BeginsWith v w.s.bytes rest
        → IsFineAvp d u most (length (map so_far w.rests)) w.s.level.rules (map key_of w.s.earlier) v (Some n)
        → ((g : PlainDefinition) → slice_get (definitions d) n ≡ Some g → AreOpen (definitions d) next (map so_far w.rests ++ and_key (so_far w.s) (key_of v) ∷ []) (begun g.rules end))
        → end ≡ at + avp_length v → to ≡ at + head_length v.vendor → IsUnderWay d u most bytes good next to
    entered v rest n next end to begins says now is_end is =
        let known = fine_here v (Some n) says in
        let (g, is_group, at_number) = group_is d u most w.s v n known in
        let fine = is_fine d u most w.s v (Some n) known in
        let outside = following w.s v rest in
        let keys : and_key (so_far w.s) (key_of v) ≡ so_far outside = ap (λ (ks : List Key). record { rules = w.s.level.rules; end = w.s.level.end; keys = ks })
        (sym (more_keys d sound u most w.s.earlier v)) in
        let levels : map so_far w.rests ++ and_key (so_far w.s) (key_of v) ∷ [] ≡ map so_far (w.rests ++ outside ∷ []) = ap (λ (l : SoFar). map so_far w.rests ++ l ∷ []) keys
        ∙ sym (map-append so_far w.rests (outside ∷ [])) in
        let inner : begun g.rules end ≡ so_far (inside w.s v g) = ap (λ (e : ℕ). begun g.rules e) (is_end ∙ ap (λ (k : ℕ). k + avp_length v) (sym w.here)) in
        let nested = nested_new d u most bytes good 0 ((length bytes + 3) / 4 * 4) w.rests w.s outside w.nested (λ k n h. rest_after d u most bytes good w.s v rest k n begins h) in
        record {
          rests = w.rests ++ outside ∷ [];
          s = inside w.s v g;
          occurs = subst (λ (l : SoFar). AreOpen (definitions d) next (map so_far (w.rests ++ outside ∷ [])) l) inner
              (subst (λ (ls : List SoFar). AreOpen (definitions d) next ls (begun g.rules end)) levels (now g at_number));
          nested = nested_push d u most bytes good 0 ((length bytes + 3) / 4 * 4) w.rests outside (inside w.s v g) nested
              (subst (λ (k : ℕ). IsRestAt d u most bytes good (suc k) outside.at (inside w.s v g)) (let e : length w.rests ≡ 0 + length w.rests = omega arith in e)
              (rest_inside w.s v rest g (length w.rests) last.0 begins fine is_group last.1));
          here = ap (λ (k : ℕ). k + head_length v.vendor) w.here ∙ sym is;
          goes_on = λ f h. w.goes_on f (Owes-entered d u most w.rests w.s v rest g f begins fine is_group h);
        }

    -- the innermost level is done
    pub done : (next : OpenLevels) → w.s.bytes ≡ [] → IsMetAtEnd w.s.level.rules (map key_of w.s.earlier)
        → (others : List SoFar) (level : SoFar) → map so_far w.rests ≡ others ++ level ∷ [] → AreOpen (definitions d) next others level → IsUnderWay d u most bytes good next at
    done next none met others level is now =
        let (qs, r, is_rests, same, here) = last_of w.rests others level is in
        let (outer, inner) = nested_pop d u most bytes good 0 ((length bytes + 3) / 4 * 4) qs r w.s
        (subst (λ (rs : List Rest). AreNested d u most bytes good 0 ((length bytes + 3) / 4 * 4) rs w.s) is_rests w.nested) in
        let size = inner.lies.size in
        let empty = ap length none in
        record {
          rests = qs;
          s = r;
          occurs = subst (λ (ls : List SoFar). AreOpen (definitions d) next ls (so_far r)) (sym same) (subst (λ (l : SoFar). AreOpen (definitions d) next others l) (sym here) now);
          nested = outer;
          here = let a = inner.aligned in let e = inner.ends in omega (arith, a, e, size, empty, w.here);
          goes_on = λ f h. w.goes_on f (subst (λ (rs : List Rest). Owes d u most rs w.s f) (sym is_rests) (Owes-done d u most qs r w.s f (ended none met refl) h));
        }

    -- the body is done
    pub all_done : w.s.bytes ≡ [] → IsMetAtEnd w.s.level.rules (map key_of w.s.earlier) → map so_far w.rests ≡ [] → Walks d u most (whole good.command.rules bytes) None
    all_done none met is = w.goes_on None (by w.rests is)
      where
        by : (rs : List Rest) → map so_far rs ≡ [] → Owes d u most rs w.s None
        by [] e = ended none met refl
        by (r ∷ rs) e = absurd cc

    -- what is found
    found : (h : Found) (f : Fault) → Walks d u most w.s (Some h) → f ≡ fault_of h → IsFoundIn d u most (whole good.command.rules bytes) (refusal.Fault f)
    found h f walk is = (h, w.goes_on (Some h) (Owes-found d u most w.rests w.s h walk), is)

    pub found_wrong : (v : PlainAvp) (rest : List ℕ) (x : Wrong) → BeginsWith v w.s.bytes rest → IsWrongAvp d u most (length (map so_far w.rests)) w.s.level.rules (map key_of w.s.earlier) v x
        → IsFoundIn d u most (whole good.command.rules bytes) (refusal.Fault (record { place = at; code = code_of x.reason; reason = x.reason; subject = x.subject }))
    found_wrong v rest x begins is =
        let first = first_wrong d u most w.s v x (subst (λ (k : ℕ). IsWrongAvp d u most k w.s.level.rules (map key_of w.s.earlier) v x) deep is) in
        found (record { spot = spot w.s.at x.reason; reason = x.reason; subject = x.subject }) (record { place = at; code = code_of x.reason; reason = x.reason; subject = x.subject })
        (wrong v rest x.reason x.subject begins first refl) (ap (λ (n : ℕ). record { place = n; code = code_of x.reason; reason = x.reason; subject = x.subject }) (sym w.here))

    pub found_missing : (x : Wrong) → w.s.bytes ≡ [] → IsMissingAtEnd w.s.level.rules (map key_of w.s.earlier) x
        → IsFoundIn d u most (whole good.command.rules bytes) (refusal.Fault (record { place = open_levels.innermost.end; code = code_of x.reason; reason = x.reason; subject = x.subject }))
    found_missing x none (i, rule, first, is_missing, is_subject) =
        found (record { spot = record { place = w.s.level.end; row = End w.s.level.depth }; reason = reason.Missing; subject = subject_of rule.key }) _ (walks.missing i rule none first refl)
        (ap (λ (n : ℕ). record { place = n; code = code_of x.reason; reason = x.reason; subject = x.subject }) w.occurs.innermost.is_end
        ∙ ap (λ (r : Reason). record { place = w.s.level.end; code = code_of r; reason = r; subject = x.subject }) is_missing
        ∙ ap (λ (t : Subject). record { place = w.s.level.end; code = code_of reason.Missing; reason = reason.Missing; subject = t }) is_subject)

    pub found_broken : 0 < length w.s.bytes → BeginsWithNone w.s.bytes
        → IsFoundIn d u most (whole good.command.rules bytes) (refusal.Fault (record { place = at; code = code_of reason.AvpLength; reason = reason.AvpLength; subject = Nothing }))
    found_broken some none =
        found (record { spot = spot w.s.at reason.AvpLength; reason = reason.AvpLength; subject = Nothing }) _ (broken some none refl)
        (ap (λ (n : ℕ). record { place = n; code = code_of reason.AvpLength; reason = reason.AvpLength; subject = Nothing }) (sym w.here))

    -- how many levels are round the innermost
    pub many : length open_levels.outer.items ≡ length (map so_far w.rests)
    many = kept_many (definitions d) 0 open_levels.outer.items w.occurs.before (map so_far w.rests) w.occurs.are_outer

    -- ---- what the loop reads

    module _ (kept : OpenLevel) (same : kept ≡ open_levels.innermost) where
      pub left_of : between bytes at kept.end ≡ w.s.bytes
      left_of = ap (λ (k : OpenLevel). between bytes at k.end) same ∙ left

      pub place_of : (at ≤ kept.end) × (kept.end ≤ length bytes)
      place_of = subst (λ (k : OpenLevel). (at ≤ k.end) × (k.end ≤ length bytes)) (sym same) place

      pub nothing_left : length (between bytes at kept.end) ≡ 0 → w.s.bytes ≡ []
      nothing_left none = by w.s.bytes (ap length (sym left_of) ∙ none)
        where
          by : (xs : List ℕ) → length xs ≡ 0 → xs ≡ []
          by [] e = refl
          by (x ∷ xs) e = absurd (omega (arith, e))

      pub begins_here : (v : PlainAvp) (rest : List ℕ) → BeginsWith v (between bytes at kept.end) rest → BeginsWith v w.s.bytes rest
      begins_here v rest begins = subst (λ (t : List ℕ). BeginsWith v t rest) left_of begins

      pub next_place : (v : PlainAvp) (rest : List ℕ) → BeginsWith v w.s.bytes rest → kept.end - length rest ≡ at + padded_length v
      next_place v rest begins =
          let room = begun_room d u most w.s v rest begins in
          let size = last.1.lies.size in
          let to = ap (λ (k : OpenLevel). k.end) same ∙ w.occurs.innermost.is_end in
          omega (arith, room, size, to, w.here)

    pub before_end : (v : PlainAvp) (rest : List ℕ) → BeginsWith v w.s.bytes rest → (at < length bytes) × (at + avp_length v ≤ length bytes)
    before_end v rest begins =
        let room = begun_room d u most w.s v rest begins in
        let some = begins_some v w.s.bytes rest begins in
        let l = last.1.lies in
        (omega (arith, some, l.size, l.within, w.here), omega (arith, room, l.size, l.within, w.here, rounded-le (avp_length v)))

    pub number_within : (v : PlainAvp) (n : ℕ) → IsFineAvp d u most (length (map so_far w.rests)) w.s.level.rules (map key_of w.s.earlier) v (Some n) → n < length (definitions d)
    number_within v n says = let (g, is, at_number) = group_is d u most w.s v n (fine_here v (Some n) says) in slice_get_within (definitions d) n g at_number

    -- the loop ends

    abbrev Measure : OpenLevels → ℕ → ℕ
    Measure o place = 2 * (length bytes - place) + length o.outer.items

    outer_many : (o : OpenLevels) (outer : List SoFar) (level : SoFar) → AreOpen (definitions d) o outer level → length o.outer.items ≡ length outer
    outer_many o outer level now = kept_many (definitions d) 0 o.outer.items now.before outer now.are_outer

    head_some : (o : Option ℕ) → 8 ≤ head_length o
    head_some None = omega arith
    head_some (Some x) = omega arith

    pub smaller_passed : (v : PlainAvp) (rest : List ℕ) (next : OpenLevels) (level : SoFar) (to : ℕ) → BeginsWith v w.s.bytes rest → AreOpen (definitions d) next (map so_far w.rests) level
        → to ≡ at + padded_length v
        → Measure next to < Measure open_levels at
    smaller_passed v rest next level to begins now is =
        let old = many in let new = outer_many next (map so_far w.rests) level now in let before = before_end v rest begins in let size = head_some v.vendor in
        omega (arith, old, new, before, is, size)

    pub smaller_entered : (v : PlainAvp) (rest : List ℕ) (n : ℕ) (next : OpenLevels) (end to : ℕ) → BeginsWith v w.s.bytes rest
        → IsFineAvp d u most (length (map so_far w.rests)) w.s.level.rules (map key_of w.s.earlier) v (Some n)
        → ((g : PlainDefinition) → slice_get (definitions d) n ≡ Some g → AreOpen (definitions d) next (map so_far w.rests ++ and_key (so_far w.s) (key_of v) ∷ []) (begun g.rules end))
        → to ≡ at + head_length v.vendor
        → Measure next to < Measure open_levels at
    smaller_entered v rest n next end to begins says now is =
        let (g, is_group, at_number) = group_is d u most w.s v n (fine_here v (Some n) says) in
        let level = and_key (so_far w.s) (key_of v) in
        let old = many in let new = outer_many next (map so_far w.rests ++ level ∷ []) (begun g.rules end) (now g at_number) in let more = length-append (map so_far w.rests) (level ∷ []) in
        let before = before_end v rest begins in let size = head_some v.vendor in
        omega (arith, old, new, more, before, is, size)

    pub smaller_done : (next : OpenLevels) (others : List SoFar) (level : SoFar) → map so_far w.rests ≡ others ++ level ∷ [] → AreOpen (definitions d) next others level
        → Measure next at < Measure open_levels at
    smaller_done next others level is now =
        let old = many ∙ ap length is in let new = outer_many next others level now in let more = length-append others (level ∷ []) in
        omega (arith, old, new, more)
