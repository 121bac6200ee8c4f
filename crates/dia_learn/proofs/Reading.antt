-- A level that is read AVP by AVP, and the levels that wait.
use Rattle.std.proofs.Common.{◌≡◌, ℕ, ◌+◌, ◌*◌, ◌<◌, ◌≤◌, ◌^◌, Bool, true, false, cond, List, [], ◌∷◌, ◌++◌, length, refl, sym, ap, subst, ◌∙◌, append_assoc, arith, inl, inr}
use Rattle.std.specs.Prelude.{◌⊎◌, unwrap_or}
use Rattle.std.specs.List.{filter_map}
use Rattle.std.specs.Map.{lookup}
use Rattle.std.proofs.lemmas.List.{append-nil, length-append}
use Rattle.std.proofs.lemmas.List.Elements.{filter_map-append}
use Rattle.indexmap.specs.IndexMap.{IndexMap}
use Rattle.dia_wire.specs.declared.Key.{Key}
use Rattle.dia_wire.specs.Wire.{PlainAvp, key_of, avp_length, BeginsWith, BeginsWithNone}
use Rattle.dia_wire.proofs.Spelling.{at_least_8, opened, rounded-le}
use Rattle.dia_book.specs.Keys.{same_key}
use Rattle.dia_book.proofs.SameKeys.{same_key-true}
use Rattle.dia_book.specs.Dictionary.{Dictionary}
use Rattle.dia_check.proofs.Uniqueness.{one_front}
use Rattle.dia_learn.specs.declared.place.Place.{Place}
use Rattle.dia_learn.specs.declared.seen.Seen.{Seen}
use Rattle.dia_learn.specs.Levels.{PlainLevel, Reads}
use Rattle.dia_learn.specs.Kept.{IsKept, count_of}
use Rattle.dia_learn.specs.Open.{count_in, group_in}
use Rattle.dia_learn.proofs.Counting.{count_more, count_within}

-- ---- lengths

pub shorter : (v : PlainAvp) (level rest : List ℕ) → BeginsWith v level rest → 8 + length v.bytes + length rest ≤ length level
shorter v level rest (front, s, parts) =
    let size : length level ≡ length front + length rest = ap length parts ∙ length-append front rest in
    let long = (opened v front [] s).front_length in
    let low = rounded-le (avp_length v) in
    let eight = at_least_8 v.vendor in
    omega (arith, size, long, low, eight)

-- ---- the AVPs of a level are its own

pub one_reading : (avps others : List PlainAvp) (bytes : List ℕ) → Reads avps bytes → Reads others bytes → avps ≡ others
one_reading [] [] bytes h k = refl
one_reading [] (w ∷ ws) bytes (inl none) (rest, begins, more) = let s = shorter w bytes rest begins in absurd (omega (arith, none, s))
one_reading [] (w ∷ ws) bytes (inr none) (rest, begins, more) = absurd (none w rest begins)
one_reading (v ∷ vs) [] bytes (rest, begins, more) (inl none) = let s = shorter v bytes rest begins in absurd (omega (arith, none, s))
one_reading (v ∷ vs) [] bytes (rest, begins, more) (inr none) = absurd (none v rest begins)
one_reading (v ∷ vs) (w ∷ ws) bytes (rest, begins, more) (rest', begins', more') =
    let one = one_front bytes v w rest rest' begins begins' in
    let others = one_reading vs ws rest more (subst (λ (t : List ℕ). Reads ws t) (sym one.1) more') in
    ap (λ (x : PlainAvp). x ∷ vs) one.0 ∙ ap (λ (xs : List PlainAvp). w ∷ xs) others

-- ---- a level that is being read: these AVPs of it were taken in

abbrev pub Kept : Place → List PlainAvp → Seen → Seen → Type 0
Kept place avps old new = (ls : List PlainLevel) → IsKept ls old → IsKept (record { place = place; avps = avps } ∷ ls) new

abbrev pub Follow : List PlainAvp → List ℕ → List ℕ → Type 0
Follow avps rest bytes = (tail : List PlainAvp) → Reads tail rest → Reads (avps ++ tail) bytes

follows : (avps tail : List PlainAvp) (v : PlainAvp) (rest next bytes : List ℕ) → Follow avps rest bytes → BeginsWith v rest next → Reads tail next → Reads ((avps ++ v ∷ []) ++ tail) bytes
follows avps tail v rest next bytes before begins reads = subst (λ (xs : List PlainAvp). Reads xs bytes) (sym (append_assoc avps (v ∷ []) tail)) (before (v ∷ tail) (next, begins, reads))

-- the level of a group waits, and none of what is no group
abbrev pub IsOpened : Dictionary → PlainAvp → List (Place × List ℕ) → List (Place × List ℕ) → Type 0
IsOpened d v old new = new ≡ old ++ filter_map (group_in d) (v ∷ [])

module _ {S : Type 0} (d : Dictionary) where
  pub record IsUnderWay (place : Place) (bytes : List ℕ) (old new : Seen) (before waits : List (Place × List ℕ)) (counts : IndexMap Key ℕ S) (rest : List ℕ) : Type 0 where
    pub avps : List PlainAvp
    pub follow : Follow avps rest bytes
    pub kept : Kept place avps old new
    pub groups : waits ≡ before ++ filter_map (group_in d) avps
    pub counted : (k : Key) → count_in counts k ≡ count_of k avps
    pub size : 8 * length avps + length rest ≤ length bytes

  pub begun : (place : Place) (bytes : List ℕ) (old new : Seen) (before : List (Place × List ℕ)) (counts : IndexMap Key ℕ S) → Kept place [] old new → counts.entries ≡ []
      → IsUnderWay place bytes old new before before counts bytes
  begun place bytes old new before counts kept none = record {
    avps = [];
    follow = λ tail reads. reads;
    kept = kept;
    groups = sym (append-nil before);
    counted = λ k. ap (λ (es : List (Key × ℕ)). unwrap_or (lookup (same_key k) es) 0) none;
    size = omega arith;
  }

  pub went_on : (place : Place) (bytes : List ℕ) (old now new : Seen) (before waits next_waits : List (Place × List ℕ)) (counts next_counts : IndexMap Key ℕ S) (rest next : List ℕ) (v : PlainAvp)
      → (u : IsUnderWay place bytes old now before waits counts rest) → BeginsWith v rest next
      → ((ls : List PlainLevel) → IsKept (record { place = place; avps = u.avps } ∷ ls) now → IsKept (record { place = place; avps = u.avps ++ v ∷ [] } ∷ ls) new)
      → IsOpened d v waits next_waits
      → ((k : Key) → count_in next_counts k ≡ cond (same_key (key_of v) k) (count_in counts (key_of v) + 1) (count_in counts k))
      → IsUnderWay place bytes old new before next_waits next_counts next
  went_on place bytes old now new before waits next_waits counts next_counts rest next v u begins kept is_opened counted =
      let s = shorter v rest next begins in
      let l = length-append u.avps (v ∷ []) in
      let z = u.size in
      record {
        avps = u.avps ++ v ∷ [];
        follow = λ tail reads. follows u.avps tail v rest next bytes u.follow begins reads;
        kept = λ ls h. kept ls (u.kept ls h);
        groups = is_opened ∙ ap (λ (xs : List (Place × List ℕ)). xs ++ filter_map (group_in d) (v ∷ [])) u.groups ∙ append_assoc before (filter_map (group_in d) u.avps) (filter_map (group_in d) (v ∷ []))
            ∙ ap (λ (xs : List (Place × List ℕ)). before ++ xs) (sym (filter_map-append (group_in d) u.avps (v ∷ [])));
        counted = λ k. counted k ∙ by k (same_key (key_of v) k) refl ∙ sym (count_more k u.avps v);
        size = omega (arith, s, l, z);
      }
    where
      by : (k : Key) (b : Bool) → same_key (key_of v) k ≡ b → cond b (count_in counts (key_of v) + 1) (count_in counts k) ≡ count_of k u.avps + cond b 1 0
      by k true e = ap (λ (n : ℕ). n + 1) (u.counted (key_of v)) ∙ ap (λ (q : Key). count_of q u.avps + 1) (same_key-true (key_of v) k e)
      by k false e = let c = u.counted k in omega (arith, c)

  pub ended : (place : Place) (bytes : List ℕ) (old new : Seen) (before waits : List (Place × List ℕ)) (counts : IndexMap Key ℕ S) (rest : List ℕ)
      → IsUnderWay place bytes old new before waits counts rest → (length rest ≡ 0) ⊎ BeginsWithNone rest
      → (avps : List PlainAvp) × Reads avps bytes × Kept place avps old new × (waits ≡ before ++ filter_map (group_in d) avps)
  ended place bytes old new before waits counts rest u none =
      (u.avps, subst (λ (xs : List PlainAvp). Reads xs bytes) (append-nil u.avps) (u.follow [] none), u.kept, u.groups)

  -- so few are counted that one more fits
  pub few : (place : Place) (bytes : List ℕ) (old new : Seen) (before waits : List (Place × List ℕ)) (counts : IndexMap Key ℕ S) (rest : List ℕ) (k : Key)
      → IsUnderWay place bytes old new before waits counts rest → length bytes < 2 ^ 32 → count_in counts k < 2 ^ 63
  few place bytes old new before waits counts rest k u low =
      let c = u.counted k in let w = count_within k u.avps in let s = u.size in
      let n : length u.avps < 2 ^ 32 = omega (arith, s, low) in
      let m : count_in counts k ≤ length u.avps = subst (λ (x : ℕ). x ≤ length u.avps) (sym c) w in
      omega (arith, n, m)
