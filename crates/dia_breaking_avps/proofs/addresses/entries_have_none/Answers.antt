use Rattle.std.proofs.Common.{◌≡◌, ℕ, ◌+◌, ◌<◌, false, List, [], ◌∷◌, ◌++◌, length, take, All, Some, refl, sym, ap, subst, ◌∙◌, arith}
use Rattle.std.specs.Prelude.{slice_get}
use Rattle.std.proofs.lemmas.Bool.{both_ways}
use Rattle.std.proofs.lemmas.List.{take_all}
use Rattle.dia_wire.specs.declared.Key.{Key}
use Rattle.dia_book.specs.Dictionary.{DictEntry}
use Rattle.dia_valid.proofs.Members.{all_append, all_of, at_some, in_at, taken, there_is}
use Rattle.dia_breaking_avps.specs.Levels.{IsFamily}
use Rattle.dia_breaking_avps.proofs.EmptyLevels.{every}
use Rattle.dia_breaking_avps.proofs.FirstAvps.{each}
use Rattle.dia_breaking_avps.proofs.addresses.entries_have_none.Goals as goal

-- one entry more
one_more : {X : Type 0} (P : X → Type 0) (xs : List X) (i : ℕ) (x : X) → slice_get xs i ≡ Some x → All P (take i xs) → P x → All P (take (i + 1) xs)
one_more P xs i x at all own = subst (All P) (sym (taken xs i x at)) (every P (take i xs ++ x ∷ []) (all_append P (take i xs) (x ∷ []) (each P (take i xs) all) (own, tt)))

pub loop-index-preserved : goal.loop-index-preserved
loop-index-preserved g c =
    let d = g.A.Book.meaning c.args.a.now in
    let i = c.loop-index.index in
    let within : i < length d.entries = omega (arith, c.loop-index-test.true, c.entries-index-end.ensures.count) in
    let x = there_is d.entries i within in
    let key = at_some (λ (e : DictEntry). c.entry_key.result ≡ e.key) (slice_get d.entries c.entry_at.result) x.0 c.entry_key.ensures (ap (slice_get d.entries) c.entry_at.ensures ∙ x.1) in
    one_more (λ (e : DictEntry). ¬ IsFamily e.key.code) d.entries i x.0 x.1 c.loop-index.invariant
    (λ here. both_ways c.is_family.result c.if-is_family.false (c.is_family.ensures.1 (subst (λ (k : Key). IsFamily k.code) (sym key) here)))

pub returns-then-is_family : goal.returns-then-is_family
returns-then-is_family g c =
    let d = g.A.Book.meaning c.args.a.now in
    let i = c.loop-index.index in
    let within : i < length d.entries = omega (arith, c.loop-index-test.true, c.entries-index-end.ensures.count) in
    let x = there_is d.entries i within in
    let key = at_some (λ (e : DictEntry). c.entry_key.result ≡ e.key) (slice_get d.entries c.entry_at.result) x.0 c.entry_key.ensures (ap (slice_get d.entries) c.entry_at.ensures ∙ x.1) in (
      λ h. absurd (both_ways false refl h),
      λ none. absurd (all_of (λ (e : DictEntry). ¬ IsFamily e.key.code) d.entries x.0 none (in_at d.entries i x.0 x.1)
          (subst (λ (k : Key). IsFamily k.code) key (c.is_family.ensures.0 c.if-is_family.true))),
    )

pub returns : goal.returns
returns g c =
    let d = g.A.Book.meaning c.args.a.now in
    let all = subst (λ (es : List DictEntry). All (λ e. ¬ IsFamily e.key.code) es)
    (take_all c.loop-index.index d.entries (omega (arith, c.loop-index-test.false, c.entries-index-end.ensures.count))) c.loop-index.invariant in
    (λ h. all, λ h. refl)
