-- The AVPs of a level and of the groups in it as they are listed, with the levels that are not done in a list, the outermost first.
use Rattle.std.proofs.Common.{◌≡◌, ℕ, ◌+◌, ◌-◌, ◌*◌, ◌^◌, ◌<◌, ◌≤◌, true, false, List, [], ◌∷◌, ◌++◌, length, take, drop, set, get_or, Option, None, Some, refl, sym, ap, subst, ◌∙◌, append_assoc, arith, inl, inr}
use Rattle.std.specs.Prelude.{sum_by, unwrap_or}
use Rattle.std.specs.Option.{option_or}
use Rattle.std.specs.List.{AllByRecursion}
use Rattle.std.proofs.lemmas.Bool.{cases_lt}
use Rattle.std.proofs.lemmas.List.{append-nil, drop_all, drop_more, length_push, nil_from_length, set_at, set_past, take_all, take-append-le, length-append, length-take, length-drop}
use Rattle.std.proofs.lemmas.List.Sums.{sum_by-append}
use Rattle.dia_wire.specs.declared.Header.{Header}
use Rattle.dia_wire.specs.Wire.{PlainAvp, avp_length, head_length, padded_length, BeginsWith, BeginsWithNone, IsHead, IsMessageLength}
use Rattle.dia_wire.proofs.Spelling.{at_least_8, opened, rounded-le}
use Rattle.dia_book.specs.Dictionary.{Dictionary}
use Rattle.dia_run.specs.Rows.{Level, Row, after, inside, is_group, known_avp, of_bad_length, row_of}
use Rattle.dia_c_calls.specs.declared.avp_list.Rest.{Rest}
use Rattle.dia_c_calls.specs.declared.avp_records.MessageAvp.{MessageAvp}
use Rattle.dia_c_calls.specs.Avps.{AreAllRows, AreFirst, AreLevelListed, AreListed, avp_record, avps_of, bad_length, bad_of, end, group, leaf}

-- ---- an array

pub none_first : (old : List MessageAvp) → AreFirst [] old old
none_first old = ap (λ (t : List MessageAvp). t ++ old) (sym (take_all (length old) [] (omega arith)))

length-first : (avps old new : List MessageAvp) → AreFirst avps old new → length new ≡ length old
length-first avps old new first =
    ap length first ∙ length-append (take (length old) avps) (drop (length avps) old) ∙ omega (arith, length-take (length old) avps, length-drop (length avps) old)

put_inside : (avps old now : List MessageAvp) (a : MessageAvp) → length avps < length old → AreFirst avps old now → AreFirst (avps ++ a ∷ []) old (set now (length avps) a)
put_inside avps old now a there first =
    let all : take (length old) avps ≡ avps = take_all (length old) avps (omega (arith, there)) in
    let more : take (length old) (avps ++ a ∷ []) ≡ avps ++ a ∷ [] = take_all (length old) (avps ++ a ∷ []) (omega (arith, there, length_push avps a)) in
    let next : drop (length avps) old ≡ get_or old (length avps) a ∷ drop (length avps + 1) old = drop_more old (length avps) a there in
    let is_now : now ≡ avps ++ get_or old (length avps) a ∷ drop (length avps + 1) old =
    first ∙ ap (λ (t : List MessageAvp). t ++ drop (length avps) old) all ∙ ap (λ (t : List MessageAvp). avps ++ t) next in
    ap (λ (t : List MessageAvp). set t (length avps) a) is_now ∙ set_at avps (get_or old (length avps) a) (drop (length avps + 1) old) a (length avps) refl
    ∙ sym (append_assoc avps (a ∷ []) (drop (length avps + 1) old)) ∙ ap (λ (n : ℕ). (avps ++ a ∷ []) ++ drop n old) (sym (length_push avps a))
    ∙ ap (λ (t : List MessageAvp). t ++ drop (length (avps ++ a ∷ [])) old) (sym more)

put_past : (avps old now : List MessageAvp) (a : MessageAvp) → length old ≤ length avps → AreFirst avps old now → AreFirst (avps ++ a ∷ []) old (set now (length avps) a)
put_past avps old now a past first =
    set_past now (length avps) a (omega (arith, past, length-first avps old now first)) ∙ first ∙ ap (λ (t : List MessageAvp). take (length old) avps ++ t) (drop_all (length avps) old past)
    ∙ ap (λ (t : List MessageAvp). take (length old) avps ++ t) (sym (drop_all (length (avps ++ a ∷ [])) old (omega (arith, past, length_push avps a))))
    ∙ ap (λ (t : List MessageAvp). t ++ drop (length (avps ++ a ∷ [])) old) (sym (take-append-le (length old) avps (a ∷ []) past))

pub one_more_first : (avps old now : List MessageAvp) (a : MessageAvp) (count : ℕ) → count ≡ length avps → AreFirst avps old now → AreFirst (avps ++ a ∷ []) old (set now count a)
one_more_first avps old now a count many first =
    subst (λ (n : ℕ). AreFirst (avps ++ a ∷ []) old (set now n a)) (sym many)
    (elim (cases_lt (length avps) (length old)) [
      | inl there ↦ put_inside avps old now a there first
      | inr past ↦ put_past avps old now a past first
    ])

-- ---- rows

abbrev pub row_record : Dictionary → Level → PlainAvp → MessageAvp
row_record d level v = avp_record level.place level.depth v (known_avp d v)

avps_of-push : (d : Dictionary) (level : Level) (v : PlainAvp) (rows : List Row) → avps_of (rows ++ row_of d level v ∷ []) ≡ avps_of rows ++ row_record d level v ∷ []
avps_of-push d level v [] = refl
avps_of-push d level v (Row.of_avp place depth w known ∷ rows) = ap (λ (t : List MessageAvp). avp_record place depth w known ∷ t) (avps_of-push d level v rows)
avps_of-push d level v (Row.of_header h len command ∷ rows) = avps_of-push d level v rows
avps_of-push d level v (of_bad_length place ∷ rows) = avps_of-push d level v rows

avps_of-bad : (place : ℕ) (rows : List Row) → avps_of (rows ++ of_bad_length place ∷ []) ≡ avps_of rows
avps_of-bad place [] = refl
avps_of-bad place (Row.of_avp at depth w known ∷ rows) = ap (λ (t : List MessageAvp). avp_record at depth w known ∷ t) (avps_of-bad place rows)
avps_of-bad place (Row.of_header h len command ∷ rows) = avps_of-bad place rows
avps_of-bad place (of_bad_length at ∷ rows) = avps_of-bad place rows

bad_of-push : (d : Dictionary) (level : Level) (v : PlainAvp) (rows : List Row) → bad_of (rows ++ row_of d level v ∷ []) ≡ bad_of rows
bad_of-push d level v [] = refl
bad_of-push d level v (Row.of_avp place depth w known ∷ rows) = bad_of-push d level v rows
bad_of-push d level v (Row.of_header h len command ∷ rows) = bad_of-push d level v rows
bad_of-push d level v (of_bad_length place ∷ rows) = refl

bad_of-bad : (place : ℕ) (rows : List Row) → bad_of (rows ++ of_bad_length place ∷ []) ≡ option_or (bad_of rows) (Some place)
bad_of-bad place [] = refl
bad_of-bad place (Row.of_avp at depth w known ∷ rows) = bad_of-bad place rows
bad_of-bad place (Row.of_header h len command ∷ rows) = bad_of-bad place rows
bad_of-bad place (of_bad_length at ∷ rows) = refl

-- ---- what is left of the levels

-- what is left of a level at a depth
abbrev pub left_of : ℕ → Rest → Level
left_of depth r = record { depth = depth; place = r.end - length r.bytes.now; bytes = r.bytes.now }

-- the rows of a level, and then of what is left of the levels round it, which begin at a depth
abbrev pub Owes : Dictionary → ℕ → List Rest → Level → List Row → Type 0
Owes d depth [] level rows = AreAllRows d level rows
Owes d depth (r ∷ rs) level rows = (inner : List Row) × (outer : List Row) × Owes d (depth + 1) rs level inner × AreAllRows d (left_of depth r) outer × (rows ≡ inner ++ outer)

-- what precedes the rows of a level precedes all
Owes-front : (d : Dictionary) (depth : ℕ) (rs : List Rest) (level next : Level) (front : Row) (rows : List Row)
    → ((t : List Row) → AreAllRows d next t → AreAllRows d level (front ∷ t)) → Owes d depth rs next rows → Owes d depth rs level (front ∷ rows)
Owes-front d depth [] level next front rows f h = f rows h
Owes-front d depth (r ∷ rs) level next front rows f (inner, outer, h, rest, parts) =
    (front ∷ inner, outer, Owes-front d (depth + 1) rs level next front inner f h, rest, ap (λ (t : List Row). front ∷ t) parts)

-- a group that is entered: its members come first, and then what follows it
Owes-group : (d : Dictionary) (depth : ℕ) (rs : List Rest) (r : Rest) (level : Level) (v : PlainAvp) (rest : List ℕ) (rows : List Row)
    → BeginsWith v level.bytes rest → is_group (known_avp d v) ≡ true
    → left_of (depth + length rs) r ≡ after level v rest → Owes d depth (rs ++ r ∷ []) (inside level v) rows
    → Owes d depth rs level (row_of d level v ∷ rows)
Owes-group d depth [] r level v rest rows begins grouped is_after (inner, outer, h, left, parts) =
    let here : left_of depth r ≡ after level v rest = ap (λ (n : ℕ). left_of n r) (omega arith) ∙ is_after in
    group v rest inner outer begins grouped h (subst (λ (l : Level). AreAllRows d l outer) here left) (ap (λ (t : List Row). row_of d level v ∷ t) parts)
Owes-group d depth (q ∷ rs) r level v rest rows begins grouped is_after (inner, outer, h, left, parts) =
    let here : left_of (depth + 1 + length rs) r ≡ after level v rest = ap (λ (n : ℕ). left_of n r) (omega arith) ∙ is_after in
    (row_of d level v ∷ inner, outer, Owes-group d (depth + 1) rs r level v rest inner begins grouped here h, left, ap (λ (t : List Row). row_of d level v ∷ t) parts)

-- a level that is done: what is left of the one round it comes next
Owes-end : (d : Dictionary) (depth : ℕ) (rs : List Rest) (r : Rest) (level : Level) (rows : List Row) → level.bytes ≡ []
    → Owes d depth rs (left_of (depth + length rs) r) rows → Owes d depth (rs ++ r ∷ []) level rows
Owes-end d depth [] r level rows none h =
    let same : depth + length {A = Rest} [] ≡ depth = omega arith in
    ([], rows, end none refl, subst (λ (n : ℕ). AreAllRows d (left_of n r) rows) same h, refl)
Owes-end d depth (q ∷ rs) r level rows none (inner, outer, h, left, parts) =
    let same : depth + length (q ∷ rs) ≡ depth + 1 + length rs = omega arith in
    (inner, outer, Owes-end d (depth + 1) rs r level inner none (subst (λ (n : ℕ). Owes d (depth + 1) rs (left_of n r) inner) same h), left, parts)

-- ---- bytes

abbrev pub bytes_left : List Rest → ℕ
bytes_left rs = sum_by (λ r. length r.bytes.now) rs

-- what is left to read, and how many levels wait
abbrev pub left_to_read : List ℕ → List Rest → ℕ
left_to_read rest outer = 2 * (length rest + bytes_left outer) + length outer

pub length-level : (v : PlainAvp) (level rest : List ℕ) → BeginsWith v level rest → length level ≡ padded_length v + length rest
length-level v level rest (front, s, parts) = ap length parts ∙ length-append front rest ∙ ap (λ (n : ℕ). n + length rest) (opened v front [] s).front_length

-- an AVP is no longer than the level
pub room : (v : PlainAvp) (level rest : List ℕ) → BeginsWith v level rest → avp_length v ≤ length level
room v level rest begins = omega (arith, length-level v level rest begins, rounded-le (avp_length v))

pub shorter : (v : PlainAvp) (level rest : List ℕ) → BeginsWith v level rest → length rest + length v.bytes < length level
shorter v level rest begins = omega (arith, length-level v level rest begins, rounded-le (avp_length v), at_least_8 v.vendor)

-- no bytes have no rows
no_rows : (d : Dictionary) (level : Level) (rows : List Row) → level.bytes ≡ [] → AreAllRows d level rows → rows ≡ []
no_rows d level rows none (end no_bytes is) = is
no_rows d level rows none (bad_length some begins is) = let no_length : length level.bytes ≡ 0 = ap length none in absurd (omega (arith, some, no_length))
no_rows d level rows none (leaf v rest more begins no_group h is) =
    let no_length : length level.bytes ≡ 0 = ap length none in absurd (omega (arith, shorter v level.bytes rest begins, no_length))
no_rows d level rows none (group v rest members more begins grouped h k is) =
    let no_length : length level.bytes ≡ 0 = ap length none in absurd (omega (arith, shorter v level.bytes rest begins, no_length))

pub less_after_avp : (v : PlainAvp) (level rest : List ℕ) (outer : List Rest) → BeginsWith v level rest → left_to_read rest outer < left_to_read level outer
less_after_avp v level rest outer begins = omega (arith, shorter v level rest begins)

pub less_inside : (v : PlainAvp) (level : List ℕ) (next : Rest) (outer waiting : List Rest) → BeginsWith v level next.bytes.now → waiting ≡ outer ++ next ∷ []
    → left_to_read v.bytes waiting < left_to_read level outer
less_inside v level next outer waiting begins is =
    rw is (omega (arith, sum_by-append (λ (r : Rest). length r.bytes.now) outer (next ∷ []), shorter v level next.bytes.now begins, length-append outer (next ∷ [])))

pub less_after_bad : (level : List ℕ) (outer : List Rest) → 0 < length level → left_to_read [] outer < left_to_read level outer
less_after_bad level outer some = omega (arith, some)

pub less_after_level : (level : List ℕ) (outer waiting : List Rest) (next : Rest) → outer ≡ waiting ++ next ∷ [] → left_to_read next.bytes.now waiting < left_to_read level outer
less_after_level level outer waiting next is = rw is (omega (arith, sum_by-append (λ (r : Rest). length r.bytes.now) waiting (next ∷ []), length-append waiting (next ∷ [])))

abbrev pub IsWithin : Rest → Type 0
IsWithin r = (length r.bytes.now ≤ r.end) × (r.end < 2 ^ 63)

AllByRecursion-push : (rs : List Rest) (r : Rest) → AllByRecursion IsWithin rs → IsWithin r → AllByRecursion IsWithin (rs ++ r ∷ [])
AllByRecursion-push [] r all h = (h, tt)
AllByRecursion-push (q ∷ rs) r (here, all) h = (here, AllByRecursion-push rs r all h)

AllByRecursion-pop : (rs : List Rest) (r : Rest) → AllByRecursion IsWithin (rs ++ r ∷ []) → AllByRecursion IsWithin rs × IsWithin r
AllByRecursion-pop [] r (h, all) = (tt, h)
AllByRecursion-pop (q ∷ rs) r (here, all) = let made = AllByRecursion-pop rs r all in ((here, made.0), made.1)

-- ---- the loop

-- the AVPs of the rows so far are listed, and those that are owed follow them in the whole level
pub record IsListing (d : Dictionary) (whole : Level) (old now : List MessageAvp) (count : ℕ) (bad : Option ℕ) (rs : List Rest) (r : Rest) : Type 0 where
  pub rows : List Row
  pub many : count ≡ length (avps_of rows)
  pub first : AreFirst (avps_of rows) old now
  pub first_bad : bad ≡ bad_of rows
  pub bounded : count + left_to_read r.bytes.now rs ≤ 2 * length whole.bytes
  pub within : IsWithin r
  pub all_within : AllByRecursion IsWithin rs
  pub goes_on : (more : List Row) → Owes d 0 rs (left_of (length rs) r) more → AreAllRows d whole (rows ++ more)

-- a level that begins at an offset ends after its bytes
pub level_at_place : (r : Rest) (place : ℕ) → r.end ≡ place + length r.bytes.now → left_of 0 r ≡ record { depth = 0; place = place; bytes = r.bytes.now }
level_at_place r place is_end = let begin : r.end - length r.bytes.now ≡ place = omega (arith, is_end) in ap (λ (n : ℕ). record { depth = 0; place = n; bytes = r.bytes.now }) begin

module _ (d : Dictionary) (whole : Level) (old : List MessageAvp) where
  pub begun : (r : Rest) → IsWithin r → left_of 0 r ≡ whole → IsListing d whole old old 0 None [] r
  begun r within same =
      let size : length r.bytes.now ≡ length whole.bytes = ap (λ (l : Level). length l.bytes) same in
      record {
        rows = [];
        many = refl;
        first = none_first old;
        first_bad = refl;
        bounded = omega (arith, size);
        within = within;
        all_within = tt;
        goes_on = λ more h. subst (λ (l : Level). AreAllRows d l more) same h;
      }

  module _ (now : List MessageAvp) (count : ℕ) (bad : Option ℕ) (rs : List Rest) (r : Rest) (u : IsListing d whole old now count bad rs r) where
    module _ (new : List MessageAvp) (next : Rest) (place depth : ℕ) (v : PlainAvp) (begins : BeginsWith v r.bytes.now next.bytes.now) (same_end : next.end ≡ r.end)
        (deep : depth ≡ length rs) (here : place ≡ r.end - length r.bytes.now) (is_new : new ≡ set now count (avp_record place depth v (known_avp d v))) where
      is_row : new ≡ set now count (row_record d (left_of (length rs) r) v)
      is_row = is_new ∙ ap (λ (n : ℕ). set now count (avp_record n depth v (known_avp d v))) here ∙ ap (λ (n : ℕ). set now count (avp_record (r.end - length r.bytes.now) n v (known_avp d v))) deep

      avps_more : avps_of (u.rows ++ row_of d (left_of (length rs) r) v ∷ []) ≡ avps_of u.rows ++ row_record d (left_of (length rs) r) v ∷ []
      avps_more = avps_of-push d (left_of (length rs) r) v u.rows

      first_more : AreFirst (avps_of (u.rows ++ row_of d (left_of (length rs) r) v ∷ [])) old new
      first_more =
          subst (λ (t : List MessageAvp). AreFirst t old new) (sym avps_more)
          (subst (AreFirst (avps_of u.rows ++ row_record d (left_of (length rs) r) v ∷ []) old) (sym is_row)
          (one_more_first (avps_of u.rows) old now (row_record d (left_of (length rs) r) v) count u.many u.first))

      many_more : count + 1 ≡ length (avps_of (u.rows ++ row_of d (left_of (length rs) r) v ∷ []))
      many_more = omega (arith, u.many, ap length avps_more, length_push (avps_of u.rows) (row_record d (left_of (length rs) r) v))

      same_bad : bad ≡ bad_of (u.rows ++ row_of d (left_of (length rs) r) v ∷ [])
      same_bad = u.first_bad ∙ sym (bad_of-push d (left_of (length rs) r) v u.rows)

      is_after : left_of (length rs) next ≡ after (left_of (length rs) r) v next.bytes.now
      is_after =
          let size = length-level v r.bytes.now next.bytes.now begins in
          let place_after : next.end - length next.bytes.now ≡ r.end - length r.bytes.now + padded_length v = omega (arith, size, u.within.0, same_end) in
          ap (λ (n : ℕ). record { depth = length rs; place = n; bytes = next.bytes.now }) place_after

      is_within : IsWithin next
      is_within = (omega (arith, length-level v r.bytes.now next.bytes.now begins, u.within.0, same_end), omega (arith, u.within.1, same_end))

      pub leaf_listed : is_group (known_avp d v) ≡ false → IsListing d whole old new (count + 1) bad rs next
      leaf_listed no_group = record {
        rows = u.rows ++ row_of d (left_of (length rs) r) v ∷ [];
        many = many_more;
        first = first_more;
        first_bad = same_bad;
        bounded = omega (arith, u.bounded, less_after_avp v r.bytes.now next.bytes.now rs begins);
        within = is_within;
        all_within = u.all_within;
        goes_on = λ more h. subst (λ (t : List Row). AreAllRows d whole t) (sym (append_assoc u.rows (row_of d (left_of (length rs) r) v ∷ []) more))
            (u.goes_on (row_of d (left_of (length rs) r) v ∷ more)
            (Owes-front d 0 rs (left_of (length rs) r) (left_of (length rs) next) (row_of d (left_of (length rs) r) v) more
            (λ t k. leaf v next.bytes.now t begins no_group (subst (λ (l : Level). AreAllRows d l t) is_after k) refl) h));
      }

      pub group_listed : (inner : Rest) → inner.bytes.now ≡ v.bytes → inner.end ≡ place + avp_length v → is_group (known_avp d v) ≡ true
          → IsListing d whole old new (count + 1) bad (rs ++ next ∷ []) inner
      group_listed inner is_data is_end grouped =
          let size = length-level v r.bytes.now next.bytes.now begins in
          let data_length : length inner.bytes.now ≡ length v.bytes = ap length is_data in
          let outside : left_of (0 + length rs) next ≡ after (left_of (length rs) r) v next.bytes.now = ap (λ (n : ℕ). left_of n next) (omega arith) ∙ is_after in
          let many_levels : length (rs ++ next ∷ []) ≡ length rs + 1 = length-append rs (next ∷ []) in
          let begin : inner.end - length inner.bytes.now ≡ r.end - length r.bytes.now + head_length v.vendor = omega (arith, is_end, here, data_length) in
          let inward : left_of (length (rs ++ next ∷ [])) inner ≡ inside (left_of (length rs) r) v =
          ap (λ (n : ℕ). left_of n inner) many_levels ∙ ap (λ (n : ℕ). record { depth = length rs + 1; place = n; bytes = inner.bytes.now }) begin
          ∙ ap (λ (b : List ℕ). record { depth = length rs + 1; place = r.end - length r.bytes.now + head_length v.vendor; bytes = b }) is_data in
          record {
            rows = u.rows ++ row_of d (left_of (length rs) r) v ∷ [];
            many = many_more;
            first = first_more;
            first_bad = same_bad;
            bounded = omega (arith, u.bounded, less_inside v r.bytes.now next rs (rs ++ next ∷ []) begins refl, data_length);
            within = (omega (arith, is_end, data_length), omega (arith, is_end, here, size, u.within.0, u.within.1, rounded-le (avp_length v)));
            all_within = AllByRecursion-push rs next u.all_within is_within;
            goes_on = λ more h. subst (λ (t : List Row). AreAllRows d whole t) (sym (append_assoc u.rows (row_of d (left_of (length rs) r) v ∷ []) more))
                (u.goes_on (row_of d (left_of (length rs) r) v ∷ more)
                (Owes-group d 0 rs next (left_of (length rs) r) v next.bytes.now more begins grouped outside
                (subst (λ (l : Level). Owes d 0 (rs ++ next ∷ []) l more) inward h)));
          }

    -- a bad length: nothing more is read of its level
    pub bad_listed : (now_bad : Option ℕ) (next : Rest) (place : ℕ) → now_bad ≡ option_or bad (Some place) → next.bytes.now ≡ [] → next.end ≡ r.end → 0 < length r.bytes.now → BeginsWithNone r.bytes.now
        → place ≡ r.end - length r.bytes.now → IsListing d whole old now count now_bad rs next
    bad_listed now_bad next place is_bad empty same_end some none here =
        let size : length next.bytes.now ≡ 0 = ap length empty in
        record {
          rows = u.rows ++ of_bad_length place ∷ [];
          many = u.many ∙ ap length (sym (avps_of-bad place u.rows));
          first = subst (λ (t : List MessageAvp). AreFirst t old now) (sym (avps_of-bad place u.rows)) u.first;
          first_bad = is_bad ∙ ap (λ (b : Option ℕ). option_or b (Some place)) u.first_bad ∙ sym (bad_of-bad place u.rows);
          bounded = omega (arith, u.bounded, size);
          within = (omega (arith, size), omega (arith, u.within.1, same_end));
          all_within = u.all_within;
          goes_on = λ more h. subst (λ (t : List Row). AreAllRows d whole t) (sym (append_assoc u.rows (of_bad_length place ∷ []) more))
              (u.goes_on (of_bad_length place ∷ more)
              (Owes-front d 0 rs (left_of (length rs) r) (left_of (length rs) next) (of_bad_length place) more
              (λ t k. bad_length some none
              (ap (λ (n : ℕ). of_bad_length n ∷ t) here ∙ ap (λ (rest : List Row). of_bad_length (r.end - length r.bytes.now) ∷ rest) (no_rows d (left_of (length rs) next) t empty k))) h));
        }

    -- a level is done
    pub level_listed : (outer : List Rest) (next : Rest) → rs ≡ outer ++ next ∷ [] → length r.bytes.now ≡ 0 → IsListing d whole old now count bad outer next
    level_listed outer next is_rs none =
        let left = AllByRecursion-pop outer next (subst (AllByRecursion IsWithin) is_rs u.all_within) in
        record {
          rows = u.rows;
          many = u.many;
          first = u.first;
          first_bad = u.first_bad;
          bounded = omega (arith, u.bounded, less_after_level r.bytes.now rs outer next is_rs);
          within = left.1;
          all_within = left.0;
          goes_on = λ more h.
              let deeper : left_of (length outer) next ≡ left_of (0 + length outer) next = ap (λ (n : ℕ). left_of n next) (omega arith) in
              let made = Owes-end d 0 outer next (left_of (length rs) r) more (nil_from_length r.bytes.now none) (subst (λ (l : Level). Owes d 0 outer l more) deeper h) in
              u.goes_on more (subst (λ (qs : List Rest). Owes d 0 qs (left_of (length rs) r) more) (sym is_rs) made);
        }

    -- all levels are done
    pub all_listed : (place : ℕ) → rs ≡ [] → length r.bytes.now ≡ 0 → place ≡ unwrap_or bad (whole.place + length whole.bytes)
        → AreLevelListed d whole old now count place
    all_listed place no_more none is_bad =
        let owed : Owes d 0 rs (left_of (length rs) r) [] =
        subst (λ (qs : List Rest). Owes d 0 qs (left_of (length qs) r) []) (sym no_more) (end (nil_from_length r.bytes.now none) refl) in
        record {
          rows = u.rows;
          are = subst (λ (t : List Row). AreAllRows d whole t) (append-nil u.rows) (u.goes_on [] owed);
          many = u.many;
          first = u.first;
          first_bad = is_bad ∙ ap (λ (b : Option ℕ). unwrap_or b (whole.place + length whole.bytes)) u.first_bad;
        }

-- the level is the body of a message
pub listed_message : (d : Dictionary) (bytes body : List ℕ) (old new : List MessageAvp) (count bad : ℕ) (h : Header) → IsHead h (length bytes) (take 20 bytes) → IsMessageLength (length bytes)
    → body ≡ drop 20 bytes → AreLevelListed d (record { depth = 0; place = 20; bytes = body }) old new count bad → AreListed d bytes old new count bad
listed_message d bytes body old new count bad h head long is_body l = record {
  message = (h, head, long);
  body = subst (λ (b : List ℕ). AreLevelListed d (record { depth = 0; place = 20; bytes = b }) old new count bad) is_body l;
}
