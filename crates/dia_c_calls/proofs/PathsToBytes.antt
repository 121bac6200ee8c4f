-- The AVPs that hold a byte are found one after the other, from the body inwards.
use Rattle.std.proofs.Common.{◌≡◌, ℕ, ◌+◌, ◌-◌, ◌^◌, ◌<◌, ◌≤◌, true, false, List, [], ◌∷◌, ◌++◌, length, set, Some, refl, sym, ap, subst, ◌∙◌, arith, inl, inr}
use Rattle.std.specs.Prelude.{◌⊎◌, ◌↔◌, slice_get}
use Rattle.std.proofs.lemmas.Bool.{both_ways}
use Rattle.std.proofs.lemmas.List.{append_cancel_left, length_push}
use Rattle.std.proofs.lemmas.Option.{none-some, same_Some, slice_get_within}
use Rattle.dia_wire.specs.Wire.{PlainAvp, avp_length, BeginsWith, BeginsWithNone}
use Rattle.dia_wire.proofs.Spelling.{at_least_8, one_spelling, rounded-le}
use Rattle.dia_book.specs.Dictionary.{Dictionary}
use Rattle.dia_book.proofs.Members.{at_append, into_left}
use Rattle.dia_book.proofs.NumberedGroups.{slice_get-append_at}
use Rattle.dia_run.specs.Rows.{Level, after, inside, is_group, known_avp}
use Rattle.dia_c_calls.specs.declared.avp_records.MessageAvp.{MessageAvp}
use Rattle.dia_c_calls.specs.Avps.{AreFirst, avp_record}
use Rattle.dia_c_calls.specs.HeldOffsets.{AreFoundIn, Holds, IsAvpIn, front, later, member}
use Rattle.dia_c_calls.proofs.ListedAvps.{length-level, none_first, one_more_first, room, row_record}

-- ---- the front of a level

one_front : (level : List ℕ) (v w : PlainAvp) (rest more : List ℕ) → BeginsWith v level rest → BeginsWith w level more → (v ≡ w) × (rest ≡ more)
one_front level v w rest more (a, s, p) (b, t, q) =
    let o = one_spelling v w a b rest more s t (sym p ∙ q) in
    (o.0, append_cancel_left a rest more (sym p ∙ q ∙ ap (λ (f : List ℕ). f ++ more) (sym o.1)))

-- ---- a list with one more

pushed : (found : List MessageAvp) (a : MessageAvp) (k : ℕ) (b : MessageAvp) → slice_get (found ++ a ∷ []) k ≡ Some b
    → (slice_get found k ≡ Some b) ⊎ ((k ≡ length found) × (b ≡ a))
pushed found a k b at =
    elim (at_append found (a ∷ []) k b at) [
      | inl before ↦ inl before
      | inr (j, is_k, last) ↦
          let first_one : j ≡ 0 = omega (arith, slice_get_within (a ∷ []) j b last) in
          let at_first : Some a ≡ Some b = subst (λ (i : ℕ). slice_get (a ∷ []) i ≡ Some b) first_one last in
          inr (omega (arith, is_k, first_one), sym (same_Some a b at_first))
    ]

module _ (d : Dictionary) where
  -- ---- where the AVPs of a level are

  pub bounds : (level : Level) (place depth : ℕ) (v : PlainAvp) → IsAvpIn d level place depth v
      → (level.place ≤ place) × (place + avp_length v ≤ level.place + length level.bytes) × (level.depth ≤ depth)
  bounds level place depth v (front rest begins is_place is_depth) =
      (omega (arith, is_place), omega (arith, is_place, room v level.bytes rest begins), omega (arith, is_depth))
  bounds level place depth v (later w rest begins h) =
      let b = bounds (after level w rest) place depth v h in
      let size = length-level w level.bytes rest begins in
      (omega (arith, b.0), omega (arith, b.1, size), b.2)
  bounds level place depth v (member w rest begins grouped h) =
      let b = bounds (inside level w) place depth v h in
      let size = room w level.bytes rest begins in
      (omega (arith, b.0), omega (arith, b.1, size), omega (arith, b.2))

  module _ (level : Level) (v : PlainAvp) (rest : List ℕ) (begins : BeginsWith v level.bytes rest) where
    -- an AVP of the level is the first, in what follows it, or in its data
    pub at_front : (place depth : ℕ) (w : PlainAvp) → IsAvpIn d level place depth w
        → ((place ≡ level.place) × (depth ≡ level.depth) × (w ≡ v))
        ⊎ (IsAvpIn d (after level v rest) place depth w ⊎ ((is_group (known_avp d v) ≡ true) × IsAvpIn d (inside level v) place depth w))
    at_front place depth w (front more begins' is_place is_depth) = inl (is_place, is_depth, (one_front level.bytes w v more rest begins' begins).0)
    at_front place depth w (later u more begins' h) =
        let o = one_front level.bytes u v more rest begins' begins in
        let same_after : after level u more ≡ after level v rest = ap (λ (x : PlainAvp). after level x more) o.0 ∙ ap (λ (r : List ℕ). after level v r) o.1 in
        inr (inl (subst (λ (l : Level). IsAvpIn d l place depth w) same_after h))
    at_front place depth w (member u more begins' grouped h) =
        let o = one_front level.bytes u v more rest begins' begins in
        inr (inr (
          subst (λ (x : PlainAvp). is_group (known_avp d x) ≡ true) o.0 grouped,
          subst (λ (x : PlainAvp). IsAvpIn d (inside level x) place depth w) o.0 h,
        ))

    module _ (offset k : ℕ) (a : MessageAvp) where
      -- what begins after the byte doesn't hold it, nor what follows
      pub all_after : offset < level.place → ¬ Holds d level offset k a
      all_after before h = let b = bounds level h.place k h.v h.within in omega (arith, before, b.0, h.from)

      -- past an AVP that ends before the byte
      pub past : level.place + avp_length v ≤ offset → Holds d level offset k a ↔ Holds d (after level v rest) offset k a
      past over = (
        λ h. elim (at_front h.place k h.v h.within) [
          | inl (is_place, is_depth, is_v) ↦ absurd (omega (arith, over, is_place, ap avp_length is_v, h.until))
          | inr (inl next) ↦ record { place = h.place; v = h.v; within = next; from = h.from; until = h.until; is = h.is }
          | inr (inr (grouped, inner)) ↦ let b = bounds (inside level v) h.place k h.v inner in absurd (omega (arith, over, b.1, h.until))
        ],
        λ h. record { place = h.place; v = h.v; within = later v rest begins h.within; from = h.from; until = h.until; is = h.is },
      )

      -- the AVP that holds the byte, and what is in it
      module _ (from : level.place ≤ offset) (until : offset < level.place + avp_length v) where
        here : (k ≡ level.depth) × (a ≡ row_record d level v) → Holds d level offset k a
        here (is_k, is_a) = record {
          place = level.place;
          v = v;
          within = front rest begins refl is_k;
          from = from;
          until = until;
          is = is_a ∙ ap (λ (n : ℕ). avp_record level.place n v (known_avp d v)) (sym is_k);
        }

        found_here : (h : Holds d level offset k a) → h.place ≡ level.place → k ≡ level.depth → h.v ≡ v → (k ≡ level.depth) × (a ≡ row_record d level v)
        found_here h is_place is_depth is_v = (
          is_depth,
          h.is ∙ ap (λ (x : PlainAvp). avp_record h.place k x (known_avp d x)) is_v ∙ ap (λ (n : ℕ). avp_record n k v (known_avp d v)) is_place
              ∙ ap (λ (n : ℕ). avp_record level.place n v (known_avp d v)) is_depth,
        )

        not_after : (h : Holds d level offset k a) → ¬ IsAvpIn d (after level v rest) h.place k h.v
        not_after h next = let b = bounds (after level v rest) h.place k h.v next in omega (arith, b.0, until, h.from, rounded-le (avp_length v))

        pub at_leaf : is_group (known_avp d v) ≡ false → Holds d level offset k a ↔ ((k ≡ level.depth) × (a ≡ row_record d level v))
        at_leaf no_group = (
          λ h. elim (at_front h.place k h.v h.within) [
            | inl (is_place, is_depth, is_v) ↦ found_here h is_place is_depth is_v
            | inr (inl next) ↦ absurd (not_after h next)
            | inr (inr (grouped, inner)) ↦ absurd (both_ways (is_group (known_avp d v)) no_group grouped)
          ],
          here,
        )

        pub at_group : is_group (known_avp d v) ≡ true → Holds d level offset k a ↔ (((k ≡ level.depth) × (a ≡ row_record d level v)) ⊎ Holds d (inside level v) offset k a)
        at_group is = (
          λ h. elim (at_front h.place k h.v h.within) [
            | inl (is_place, is_depth, is_v) ↦ inl (found_here h is_place is_depth is_v)
            | inr (inl next) ↦ absurd (not_after h next)
            | inr (inr (grouped, inner)) ↦ inr (record { place = h.place; v = h.v; within = inner; from = h.from; until = h.until; is = h.is })
          ],
          λ x. elim x [
            | inl is_here ↦ here is_here
            | inr h ↦ record { place = h.place; v = h.v; within = member v rest begins is h.within; from = h.from; until = h.until; is = h.is }
          ],
        )

  -- where no AVP begins, there is none
  pub none_in : (level : Level) → BeginsWithNone level.bytes → (place depth : ℕ) (v : PlainAvp) → ¬ IsAvpIn d level place depth v
  none_in level none place depth v (front rest begins is_place is_depth) = none v rest begins
  none_in level none place depth v (later w rest begins h) = none w rest begins
  none_in level none place depth v (member w rest begins grouped h) = none w rest begins

  -- and none holds the byte
  pub no_avps : (level : Level) → BeginsWithNone level.bytes → (offset k : ℕ) (a : MessageAvp) → ¬ Holds d level offset k a
  no_avps level none offset k a h = none_in level none h.place k h.v h.within

  -- ---- the loop

  -- the records so far, and the AVPs of the level that is reached, are those that hold the byte
  pub record IsOnWay (whole : Level) (offset : ℕ) (old now : List MessageAvp) (level : Level) : Type 0 where
    pub found : List MessageAvp
    pub many : level.depth ≡ length found
    pub put : AreFirst found old now
    pub bounded : level.place + length level.bytes < 2 ^ 63
    pub shallow : level.depth ≤ level.place
    pub split : (k : ℕ) (a : MessageAvp) → Holds d whole offset k a ↔ ((slice_get found k ≡ Some a) ⊎ Holds d level offset k a)

  module _ (whole : Level) (offset : ℕ) (old : List MessageAvp) where
    pub begun : whole.depth ≡ 0 → whole.place + length whole.bytes < 2 ^ 63 → IsOnWay whole offset old old whole
    begun outermost small = record {
      found = [];
      many = outermost;
      put = none_first old;
      bounded = small;
      shallow = omega (arith, outermost);
      split = λ k a. (λ h. inr h, λ x. elim x [ inl at ↦ absurd (none-some a at) | inr h ↦ h ]);
    }

    module _ (now : List MessageAvp) (level : Level) (u : IsOnWay whole offset old now level) where
      -- none of the level holds the byte
      pub ended : (count : ℕ) → count ≡ level.depth → ((k : ℕ) (a : MessageAvp) → ¬ Holds d level offset k a) → AreFoundIn d whole offset old now count
      ended count is_count none = record {
        found = u.found;
        are = λ k a. (λ at. (u.split k a).1 (inl at), λ h. elim ((u.split k a).0 h) [ inl at ↦ at | inr deeper ↦ absurd (none k a deeper) ]);
        many = is_count ∙ u.many;
        first = u.put;
      }

      module _ (v : PlainAvp) (rest : List ℕ) (begins : BeginsWith v level.bytes rest) where
        pub skipped : (next : Level) → next ≡ after level v rest → level.place + avp_length v ≤ offset → IsOnWay whole offset old now next
        skipped next is_next over =
            let size = length-level v level.bytes rest begins in
            subst (IsOnWay whole offset old now) (sym is_next) (record {
              found = u.found;
              many = u.many;
              put = u.put;
              bounded = omega (arith, u.bounded, size);
              shallow = omega (arith, u.shallow);
              split = λ k a. let p = past level v rest begins offset k a over in (
                λ h. elim ((u.split k a).0 h) [ inl at ↦ inl at | inr inside_it ↦ inr (p.0 inside_it) ],
                λ x. elim x [ inl at ↦ (u.split k a).1 (inl at) | inr follows ↦ (u.split k a).1 (inr (p.1 follows)) ],
              );
            })

        module _ (new : List MessageAvp) (is_new : new ≡ set now level.depth (row_record d level v)) (from : level.place ≤ offset) (until : offset < level.place + avp_length v) where
          more_put : AreFirst (u.found ++ row_record d level v ∷ []) old new
          more_put = subst (AreFirst (u.found ++ row_record d level v ∷ []) old) (sym is_new) (one_more_first u.found old now (row_record d level v) level.depth u.many u.put)

          at_last : (k : ℕ) (a : MessageAvp) → k ≡ level.depth → a ≡ row_record d level v → slice_get (u.found ++ row_record d level v ∷ []) k ≡ Some a
          at_last k a is_k is_a =
              ap (slice_get (u.found ++ row_record d level v ∷ [])) (is_k ∙ u.many) ∙ slice_get-append_at u.found [] (row_record d level v) ∙ ap (λ (b : MessageAvp). Some b) (sym is_a)

          pub leaf_found : (count : ℕ) → count ≡ level.depth + 1 → is_group (known_avp d v) ≡ false → AreFoundIn d whole offset old new count
          leaf_found count is_count no_group = record {
            found = u.found ++ row_record d level v ∷ [];
            are = λ k a. let leaf = at_leaf level v rest begins offset k a from until no_group in (
              λ at. elim (pushed u.found (row_record d level v) k a at) [
                | inl before ↦ (u.split k a).1 (inl before)
                | inr (is_k, is_a) ↦ (u.split k a).1 (inr (leaf.1 (is_k ∙ sym u.many, is_a)))
              ],
              λ h. elim ((u.split k a).0 h) [
                | inl at ↦ into_left u.found (row_record d level v ∷ []) k a at
                | inr held ↦ at_last k a (leaf.0 held).0 (leaf.0 held).1
              ],
            );
            many = omega (arith, is_count, u.many, length_push u.found (row_record d level v));
            first = more_put;
          }

          pub entered : (next : Level) → next ≡ inside level v → is_group (known_avp d v) ≡ true → IsOnWay whole offset old new next
          entered next is_next is =
              subst (IsOnWay whole offset old new) (sym is_next) (record {
                found = u.found ++ row_record d level v ∷ [];
                many = omega (arith, u.many, length_push u.found (row_record d level v));
                put = more_put;
                bounded = omega (arith, u.bounded, room v level.bytes rest begins);
                shallow = omega (arith, u.shallow, at_least_8 v.vendor);
                split = λ k a. let group = at_group level v rest begins offset k a from until is in (
                  λ h. elim ((u.split k a).0 h) [
                    | inl at ↦ inl (into_left u.found (row_record d level v ∷ []) k a at)
                    | inr held ↦ elim (group.0 held) [ inl (is_k, is_a) ↦ inl (at_last k a is_k is_a) | inr inner ↦ inr inner ]
                  ],
                  λ x. elim x [
                    | inl at ↦ elim (pushed u.found (row_record d level v) k a at) [
                      | inl before ↦ (u.split k a).1 (inl before)
                      | inr (is_k, is_a) ↦ (u.split k a).1 (inr (group.1 (inl (is_k ∙ sym u.many, is_a))))
                    ]
                    | inr inner ↦ (u.split k a).1 (inr (group.1 (inr inner)))
                  ],
                );
              })
