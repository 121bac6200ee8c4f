-- The levels that wait, one in the other, and what is counted of each.
use Rattle.std.proofs.Common.{◌≡◌, ◌≢◌, ℕ, suc, ◌+◌, ◌<◌, ◌≤◌, List, [], ◌∷◌, ◌++◌, length, refl, ap, subst, ◌∙◌, arith}
use Rattle.std.proofs.lemmas.Option.{slice_get_within}
use Rattle.dia_book.specs.declared.DRule.{DRule}
use Rattle.dia_book.specs.Dictionary.{AreRules, Dictionary, IsDictionary}
use Rattle.dia_valid.proofs.Entries.{kept_rules}
use Rattle.dia_check.specs.Walks.{Rest as AnyRest}
use Rattle.dia_faults.specs.declared.listing.Rest.{Rest}
use Rattle.dia_faults.specs.States.{HasRules, IsCounted, count_of, rest_keys}

-- what is left of a level of this depth, as the code has it and as the definitions have it
pub record IsRestOf (d : Dictionary) (counts : List (ℕ × ℕ)) (depth : ℕ) (r : Rest) (s : AnyRest) : Type 0 where
  pub is_bytes : r.bytes.now ≡ s.bytes
  pub is_start : r.start ≡ s.level.start
  pub is_end : r.end ≡ s.level.end
  pub deep : s.level.depth ≡ depth
  pub size : s.at + length s.bytes ≡ s.level.end
  pub after_start : s.level.start ≤ s.at
  pub few : length s.earlier ≤ s.at
  pub within : s.level.end < 4294967296
  pub has : HasRules d r.def s.level.rules
  pub counted : IsCounted counts r.start r.run s.level.rules (rest_keys s)

-- the levels from the outermost to the innermost: each begins behind one place and ends up to another
abbrev pub AreNested : Dictionary → List (ℕ × ℕ) → (depth from limit : ℕ) → List Rest → Rest → List AnyRest → AnyRest → Type 0
AreNested d counts depth from limit [] r [] s = IsRestOf d counts depth r s × (from ≤ s.level.start) × (s.level.end ≤ limit)
AreNested d counts depth from limit [] r (q ∷ qs) s = ⊥
AreNested d counts depth from limit (o ∷ rs) r [] s = ⊥
AreNested d counts depth from limit (o ∷ rs) r (q ∷ qs) s =
    IsRestOf d counts depth o q × (from ≤ q.level.start) × (q.level.end ≤ limit) × AreNested d counts (suc depth) (suc q.level.start) q.at rs r qs s

pub few_rules : (d : Dictionary) → IsDictionary d → (def : ℕ) (rules : List DRule) → HasRules d def rules → length rules ≤ 1024
few_rules d sound def rules has = (subst AreRules has.is_rules (kept_rules d def has.definition sound has.is_definition)).few

module _ (d : Dictionary) where
  module _ (counts : List (ℕ × ℕ)) where
    pub nested_inner : (depth from limit : ℕ) (rs : List Rest) (r : Rest) (qs : List AnyRest) (s : AnyRest) → AreNested d counts depth from limit rs r qs s → IsRestOf d counts (depth + length rs) r s
    nested_inner depth from limit [] r [] s h = subst (λ (n : ℕ). IsRestOf d counts n r s) (let e : depth ≡ depth + length {A = Rest} [] = omega arith in e) h.0
    nested_inner depth from limit (o ∷ rs) r (q ∷ qs) s h =
        subst (λ (n : ℕ). IsRestOf d counts n r s) (let e : suc depth + length rs ≡ depth + length (o ∷ rs) = omega arith in e) (nested_inner (suc depth) (suc q.level.start) q.at rs r qs s h.3)
    nested_inner depth from limit [] r (q ∷ qs) s h = absurd h
    nested_inner depth from limit (o ∷ rs) r [] s h = absurd h

    pub nested_from : (depth from limit : ℕ) (rs : List Rest) (r : Rest) (qs : List AnyRest) (s : AnyRest) → AreNested d counts depth from limit rs r qs s → from ≤ s.level.start
    nested_from depth from limit [] r [] s h = h.1
    nested_from depth from limit (o ∷ rs) r (q ∷ qs) s h = let le = h.1 in let more = nested_from (suc depth) (suc q.level.start) q.at rs r qs s h.3 in omega (arith, le, more)
    nested_from depth from limit [] r (q ∷ qs) s h = absurd h
    nested_from depth from limit (o ∷ rs) r [] s h = absurd h

    pub nested_to : (depth from limit : ℕ) (rs : List Rest) (r : Rest) (qs : List AnyRest) (s : AnyRest) → AreNested d counts depth from limit rs r qs s → s.level.end ≤ limit
    nested_to depth from limit [] r [] s h = h.2
    nested_to depth from limit (o ∷ rs) r (q ∷ qs) s h =
        let le = h.2 in let size = h.0.size in let more = nested_to (suc depth) (suc q.level.start) q.at rs r qs s h.3 in omega (arith, le, size, more)
    nested_to depth from limit [] r (q ∷ qs) s h = absurd h
    nested_to depth from limit (o ∷ rs) r [] s h = absurd h

    pub nested_push : (depth from limit : ℕ) (rs : List Rest) (o : Rest) (qs : List AnyRest) (q : AnyRest) (r : Rest) (s : AnyRest) → AreNested d counts depth from limit rs o qs q
        → IsRestOf d counts (suc (depth + length rs)) r s → q.level.start < s.level.start → s.level.end ≤ q.at → AreNested d counts depth from limit (rs ++ o ∷ []) r (qs ++ q ∷ []) s
    nested_push depth from limit [] o [] q r s (here, low, high) inner up to =
        (here, low, high, (subst (λ (n : ℕ). IsRestOf d counts n r s) (let e : suc (depth + length {A = Rest} []) ≡ suc depth = omega arith in e) inner, omega (arith, up), to))
    nested_push depth from limit (p ∷ rs) o (t ∷ qs) q r s (here, low, high, h) inner up to = (
      here,
      low,
      high,
      nested_push (suc depth) (suc t.level.start) t.at rs o qs q r s h
          (subst (λ (n : ℕ). IsRestOf d counts n r s) (let e : suc (depth + length (p ∷ rs)) ≡ suc (suc depth + length rs) = omega arith in e) inner) up to,
    )
    nested_push depth from limit [] o (t ∷ qs) q r s h inner up to = absurd h
    nested_push depth from limit (p ∷ rs) o [] q r s h inner up to = absurd h

    abbrev pub Popped : (depth from limit : ℕ) → List Rest → Rest → List AnyRest → AnyRest → Type 0
    Popped depth from limit rs o qs s = (ps : List AnyRest) × (q : AnyRest) × (qs ≡ ps ++ q ∷ []) × AreNested d counts depth from limit rs o ps q × (s.level.end ≤ q.at)

    pub nested_pop : (depth from limit : ℕ) (rs : List Rest) (o r : Rest) (qs : List AnyRest) (s : AnyRest) → AreNested d counts depth from limit (rs ++ o ∷ []) r qs s
        → Popped depth from limit rs o qs s
    nested_pop depth from limit [] o r (q ∷ []) s (here, low, high, (inner, up, to)) = ([], q, refl, (here, low, high), to)
    nested_pop depth from limit [] o r (q ∷ t ∷ qs) s (here, low, high, h) = absurd h
    nested_pop depth from limit [] o r [] s h = absurd h
    nested_pop depth from limit (p ∷ rs) o r (t ∷ qs) s (here, low, high, h) =
        let (ps, q, is, others, to) = nested_pop (suc depth) (suc t.level.start) t.at rs o r qs s h in
        (t ∷ ps, q, ap (λ (l : List AnyRest). t ∷ l) is, (here, low, high, others), to)
    nested_pop depth from limit (p ∷ rs) o r [] s h = absurd h

  -- the innermost level changes, and only what is counted of it
  pub nested_renew : IsDictionary d → (old new : List (ℕ × ℕ)) (r next : Rest) (s t : AnyRest)
      → ((n i : ℕ) → i < 1024 → n ≢ s.level.start → count_of new n i ≡ count_of old n i) → ((k : ℕ) → IsRestOf d old k r s → IsRestOf d new k next t)
      → t.level ≡ s.level → (depth from limit : ℕ) (rs : List Rest) (qs : List AnyRest) → AreNested d old depth from limit rs r qs s → AreNested d new depth from limit rs next qs t
  nested_renew sound old new r next s t others renew same depth from limit [] [] h =
      let is_start = ap (λ l. l.start) same in let is_end = ap (λ l. l.end) same in let low = h.1 in let high = h.2 in
      (renew depth h.0, omega (arith, is_start, low), omega (arith, is_end, high))
  nested_renew sound old new r next s t others renew same depth from limit (o ∷ rs) (q ∷ qs) h =
      let below = nested_from old (suc depth) (suc q.level.start) q.at rs r qs s h.3 in
      let few = few_rules d sound o.def q.level.rules h.0.has in
      let is_start = h.0.is_start in
      let at_level : (n : ℕ) → n ≡ o.start → n ≢ s.level.start = λ n e f. omega (arith, below, is_start, e, f) in (
        record {
          is_bytes = h.0.is_bytes;
          is_start = h.0.is_start;
          is_end = h.0.is_end;
          deep = h.0.deep;
          size = h.0.size;
          after_start = h.0.after_start;
          few = h.0.few;
          within = h.0.within;
          has = h.0.has;
          counted = record {
            ends = h.0.counted.ends;
            counted = λ i rule at. let lt = slice_get_within q.level.rules i rule at in
                others o.start i (omega (arith, lt, few)) (at_level o.start refl) ∙ h.0.counted.counted i rule at;
          };
        },
        h.1,
        h.2,
        nested_renew sound old new r next s t others renew same (suc depth) (suc q.level.start) q.at rs qs h.3,
      )
  nested_renew sound old new r next s t others renew same depth from limit [] (q ∷ qs) h = absurd h
  nested_renew sound old new r next s t others renew same depth from limit (o ∷ rs) [] h = absurd h
