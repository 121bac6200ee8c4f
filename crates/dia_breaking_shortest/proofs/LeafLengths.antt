-- The lengths of leaves, one after the other.
use Rattle.std.proofs.Common.{◌≡◌, ℕ, zero, suc, ◌+◌, ◌<◌, ◌≤◌, List, [], ◌∷◌, ◌++◌, length, Option, Some, refl, sym, ap, subst, ◌∙◌, arith, inl, inr, length-append}
use Rattle.std.specs.Prelude.{◌⊎◌, ◌↔◌, IsSome, is_some, slice_get, map, take}
use Rattle.std.proofs.lemmas.Bool.{cases_lt}
use Rattle.std.proofs.lemmas.Option.{slice_get_within}
use Rattle.dia_wire.specs.declared.Key.{Key}
use Rattle.dia_data.specs.Leaf.{IsLeaf}
use Rattle.dia_data.specs.Plain.{PlainFormat, Grouped}
use Rattle.dia_breaking_data.specs.Shortest.{AreBytes}
use Rattle.dia_book.specs.Dictionary.{Dictionary, DictEntry, PlainDefinition, IsDictionary}
use Rattle.dia_valid.proofs.Entries.{all_at}
use Rattle.dia_valid.proofs.Members.{taken}
use Rattle.dia_breaking_levels.specs.LevelTests.{too_long}
use Rattle.dia_breaking_shortest.specs.declared.lookup.Least.{Least}
use Rattle.dia_breaking_shortest.specs.Exact.{AreSpellable}
use Rattle.dia_breaking_shortest.specs.Floors.{IsSpellable, shortest_head, padded}
use Rattle.dia_breaking_shortest.specs.declared.order.Ranked.{Ranked}
use Rattle.dia_breaking_shortest.specs.Least.{IsFirstUnknown}
use Rattle.dia_breaking_shortest.specs.Lengths.{entry_length, rank, IsLeafLength}
use Rattle.dia_breaking_shortest.specs.Passes.{AreKept}
use Rattle.dia_breaking_shortest.proofs.FloorsOfAvps.{rounded_up, rounded_more}

entry_before : (xs : List ℕ) (x e : ℕ) → e < length xs → entry_length (xs ++ x ∷ []) e ≡ entry_length xs e
entry_before [] x e within = absurd (omega (arith, within))
entry_before (y ∷ xs) x zero within = refl
entry_before (y ∷ xs) x (suc e) within = entry_before xs x e (omega (arith, within))

entry_last : (xs : List ℕ) (x e : ℕ) → e ≡ length xs → entry_length (xs ++ x ∷ []) e ≡ x
entry_last [] x zero is = refl
entry_last [] x (suc e) is = absurd (omega (arith, is))
entry_last (y ∷ xs) x zero is = absurd (omega (arith, is))
entry_last (y ∷ xs) x (suc e) is = entry_last xs x e (omega (arith, is))

pub entry_after : (xs : List ℕ) (e : ℕ) → length xs ≤ e → entry_length xs e ≡ too_long
entry_after [] e le = refl
entry_after (x ∷ xs) zero le = absurd (omega (arith, le))
entry_after (x ∷ xs) (suc e) le = entry_after xs e (omega (arith, le))

pub pushed_length : {X : Type 0} (new xs : List X) (x : X) (n : ℕ) → new ≡ xs ++ x ∷ [] → length xs ≡ n → length new ≡ n + 1
pushed_length new xs x n is size = let all = ap length is in let more = length-append xs (x ∷ []) in omega (arith, all, more, size)

-- the first entries have the lengths of leaves
abbrev pub AreLeafLengths : List DictEntry → List ℕ → ℕ → Type 0
AreLeafLengths entries lengths n = (e : ℕ) (entry : DictEntry) → e < n → slice_get entries e ≡ Some entry → IsLeafLength entry (entry_length lengths e)

pub one_leaf_more : (entries : List DictEntry) (lengths new : List ℕ) (n x : ℕ) → length lengths ≡ n → AreLeafLengths entries lengths n
    → ((entry : DictEntry) → slice_get entries n ≡ Some entry → IsLeafLength entry x) → new ≡ lengths ++ x ∷ [] → AreLeafLengths entries new (n + 1)
one_leaf_more entries lengths new n x size before here is = λ e entry within at. by e entry at (cases_lt e n) within
  where
    by : (e : ℕ) (entry : DictEntry) → slice_get entries e ≡ Some entry → (e < n) ⊎ (n ≤ e) → e < n + 1 → IsLeafLength entry (entry_length new e)
    by e entry at (inl lt) within = subst (IsLeafLength entry) (sym (ap (λ (xs : List ℕ). entry_length xs e) is ∙ entry_before lengths x e (omega (arith, lt, size)))) (before e entry lt at)
    by e entry at (inr le) within =
        let last : e ≡ n = omega (arith, le, within) in
        subst (IsLeafLength entry) (sym (ap (λ (xs : List ℕ). entry_length xs e) is ∙ entry_last lengths x e (omega (arith, last, size))))
        (here entry (subst (λ (k : ℕ). slice_get entries k ≡ Some entry) last at))

-- the keys of the first entries can be spelled
abbrev pub AreSpelled : List DictEntry → ℕ → Type 0
AreSpelled entries n = (e : ℕ) (entry : DictEntry) → e < n → slice_get entries e ≡ Some entry → IsSpellable entry.key

pub one_spelled_more : (entries : List DictEntry) (n : ℕ) → AreSpelled entries n → ((entry : DictEntry) → slice_get entries n ≡ Some entry → IsSpellable entry.key) → AreSpelled entries (n + 1)
one_spelled_more entries n before here = λ e entry within at. by e entry at (cases_lt e n) within
  where
    by : (e : ℕ) (entry : DictEntry) → slice_get entries e ≡ Some entry → (e < n) ⊎ (n ≤ e) → e < n + 1 → IsSpellable entry.key
    by e entry at (inl lt) within = before e entry lt at
    by e entry at (inr le) within = let last : e ≡ n = omega (arith, le, within) in here entry (subst (λ (k : ℕ). slice_get entries k ≡ Some entry) last at)

pub all_spelled : (d : Dictionary) (n : ℕ) → n ≡ length d.entries → AreSpelled d.entries n → AreSpellable d
all_spelled d n all spelled = λ e entry at. spelled e entry (let within = slice_get_within d.entries e entry at in omega (arith, within, all)) at

pub head_long : (key : Key) → 8 ≤ shortest_head key
head_long key = by key.vendor
  where
    by : (n : ℕ) → 8 ≤ shortest_head (record { code = key.code; vendor = n })
    by zero = omega arith
    by (suc n) = omega arith

pub leaf_within : (entry : DictEntry) (n : ℕ) → IsLeafLength entry n → (8 ≤ n) × (n ≤ too_long)
leaf_within entry n (inl (bytes, are, leaf, least, is)) =
    let long = head_long entry.key in
    let up = rounded_up (shortest_head entry.key + length bytes) in
    (omega (arith, is, long, up), omega (arith, is))
leaf_within entry n (inr (is, none)) = (omega (arith, is), omega (arith, is))

pub leaf_floor : (entry : DictEntry) (n : ℕ) (bytes : List ℕ) → IsLeafLength entry n → AreBytes bytes → IsLeaf entry.format bytes → n ≤ padded (shortest_head entry.key + length bytes)
leaf_floor entry n bytes (inl (own, are, leaf, least, is)) every some =
    let le = least bytes some in
    let more = rounded_more (shortest_head entry.key + length own) (shortest_head entry.key + length bytes) (omega (arith, le)) in
    omega (arith, is, more)
leaf_floor entry n bytes (inr (is, none)) every some = absurd (none bytes every some)

pub there : {X : Type 0} (xs : List X) (e : ℕ) → e < length xs → (x : X) × (slice_get xs e ≡ Some x)
there [] e within = absurd (omega (arith, within))
there (x ∷ xs) zero within = (x, refl)
there (x ∷ xs) (suc e) within = there xs e (omega (arith, within))

-- an entry with the length of a leaf, which is none
group_none : (entry : DictEntry) (n : ℕ) → entry.format ≡ Grouped → IsLeafLength entry n → n ≡ too_long
group_none entry n grouped (inl (bytes, are, leaf, least, is)) = absurd (subst (λ (f : PlainFormat). IsLeaf f bytes) grouped leaf)
group_none entry n grouped (inr (is, none)) = is

is_grouped : (d : Dictionary) (e : ℕ) (entry : DictEntry) (group : PlainDefinition) → IsDictionary d → slice_get d.entries e ≡ Some entry → entry.group ≡ Some group → entry.format ≡ Grouped
is_grouped d e entry group sound at some =
    (all_at (λ (x : DictEntry). (x.format ≡ Grouped) ↔ IsSome x.group) d.entries e entry sound.grouped at).1 (ap (λ (x : Option PlainDefinition). is_some x) some)

pub leaves_kept : (d : Dictionary) (least : Least) → IsDictionary d → length least.lengths.items ≡ length d.entries → IsFirstUnknown d least.unknown
    → AreLeafLengths d.entries least.lengths.items (length d.entries) → AreKept d least
leaves_kept d least sound size unknown all = record {
  whole = size;
  unknown = unknown;
  within = λ e. by e (cases_lt e (length d.entries));
  leaves = λ e entry at none. all e entry (slice_get_within d.entries e entry at) at;
  above = λ e entry group filler at some floor.
      let is = group_none entry (entry_length least.lengths.items e) (is_grouped d e entry group sound at some) (all e entry (slice_get_within d.entries e entry at) at) in
      omega (arith, is);
}
  where
    by : (e : ℕ) → (e < length d.entries) ⊎ (length d.entries ≤ e) → (8 ≤ entry_length least.lengths.items e) × (entry_length least.lengths.items e ≤ too_long)
    by e (inl lt) = let x = there d.entries e lt in leaf_within x.0 (entry_length least.lengths.items e) (all e x.0 lt x.1)
    by e (inr le) = let is = entry_after least.lengths.items e (omega (arith, le, size)) in (omega (arith, is), omega (arith, is))

-- ---- ranks, one after the other

map_append : {X Y : Type 0} (f : X → Y) (xs ys : List X) → map f (xs ++ ys) ≡ map f xs ++ map f ys
map_append f [] ys = refl
map_append f (x ∷ xs) ys = ap (λ zs. f x ∷ zs) (map_append f xs ys)

pub one_rank_more : (f : Key → ℕ) (entries : List DictEntry) (i : ℕ) (entry : DictEntry) (key : Key) (n : ℕ) → slice_get entries i ≡ Some entry → key ≡ entry.key → n ≡ f key
    → map (rank f) (take i entries) ++ (let r : Ranked = record { key = key; length = n } in r) ∷ [] ≡ map (rank f) (take (i + 1) entries)
one_rank_more f entries i entry key n at same is =
    let number = is ∙ ap f same in
    let first = ap (λ (k : Key). let r : Ranked = record { key = k; length = n } in r) same in
    let second = ap (λ (m : ℕ). let r : Ranked = record { key = entry.key; length = m } in r) number in
    ap (λ (r : Ranked). map (rank f) (take i entries) ++ r ∷ []) (first ∙ second) ∙ sym (ap (map (rank f)) (taken entries i entry at) ∙ map_append (rank f) (take i entries) (entry ∷ []))
