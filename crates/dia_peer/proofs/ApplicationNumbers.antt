-- The numbers of each kind, as sets in order.
use Rattle.std.proofs.Common.{◌≡◌, ℕ, Bool, true, false, List, [], ◌∷◌, ◌++◌, map, ◌⊎◌, inl, inr, ⊎_elim, refl, sym, ap, subst, ◌∙◌}
use Rattle.std.specs.Prelude.{Contains, ◌↔◌, IsTrue}
use Rattle.std.specs.List.{list_any}
use Rattle.std.specs.Ordering.{nat_cmp, match_ordering}
use Rattle.std.specs.declared.cmp.Ordering.{Ordering}
use Rattle.std.specs.declared.cmp.Ordering.TheVariants.{Less, Equal, Greater}
use Rattle.std.specs.BTreeSet.{insert_key}
use Rattle.std.proofs.lemmas.Map.Lookups.{exact_unsigned}
use Rattle.dia_peer.specs.declared.config.Kind.{Kind}
use Rattle.dia_peer.specs.declared.config.Kind.TheVariants.{Auth, Acct}
use Rattle.dia_peer.specs.Core.{Pair, pair, same_pair}
use Rattle.dia_peer.specs.Incoming.{pick}
use Rattle.dia_peer.proofs.Sets.{IsIn, to_in, of_in, in_cases, in_left, in_right, in_map, into_map, in_any, any_in}

-- ---- a number that is put into a set

in_ordering : (k x : ℕ) (xs more : List ℕ) (q : ℕ) (o : Ordering) → nat_cmp k x ≡ o → (IsIn more q ↔ (IsIn xs q ⊎ (k ≡ q)))
    → IsIn (match_ordering o (k ∷ x ∷ xs) (x ∷ xs) (x ∷ more)) q ↔ (IsIn (x ∷ xs) q ⊎ (k ≡ q))
in_ordering k x xs more q Less e h = (⊎_elim (λ l. inr l) (λ r. inl r), ⊎_elim (λ l. inr l) (λ r. inl r))
in_ordering k x xs more q Equal e h = ((λ m. inl m), ⊎_elim (λ l. l) (λ r. inl (sym (exact_unsigned k x e) ∙ r)))
in_ordering k x xs more q Greater e h = (
  ⊎_elim (λ l. inl (inl l)) (λ m. ⊎_elim (λ a. inl (inr a)) (λ b. inr b) (h.0 m)),
  ⊎_elim (λ l. ⊎_elim (λ a. inl a) (λ b. inr (h.1 (inl b))) l) (λ r. inr (h.1 (inr r))),
)

in_insert_key : (xs : List ℕ) (k q : ℕ) → IsIn (insert_key nat_cmp xs k) q ↔ (IsIn xs q ⊎ (k ≡ q))
in_insert_key [] k q = (⊎_elim (λ l. inr l) (λ r. absurd r), ⊎_elim (λ l. absurd l) (λ r. inl r))
in_insert_key (x ∷ xs) k q = in_ordering k x xs (insert_key nat_cmp xs k) q (nat_cmp k x) refl (in_insert_key xs k q)

grown : (xs new : List ℕ) (k q : ℕ) → new ≡ insert_key nat_cmp xs k → Contains new q ↔ (Contains xs q ⊎ (k ≡ q))
grown xs new k q e = (
  λ m. ⊎_elim (λ l. inl (of_in xs q l)) (λ r. inr r) ((in_insert_key xs k q).0 (subst (λ (l : List ℕ). IsIn l q) e (to_in new q m))),
  λ h. of_in new q (subst (λ (l : List ℕ). IsIn l q) (sym e) ((in_insert_key xs k q).1 (⊎_elim (λ l. inl (to_in xs q l)) (λ r. inr r) h))),
)

same_kept : (xs : List ℕ) (q : ℕ) (A : Type 0) → ¬ A → Contains xs q ↔ (Contains xs q ⊎ A)
same_kept xs q A no_a = ((λ m. inl m), ⊎_elim (λ l. l) (λ r. absurd (no_a r)))

pub insert_auth : (auth acct new : List ℕ) (id : ℕ) → new ≡ insert_key nat_cmp auth id → (p : Pair)
    → Contains (pick new acct p.kind) p.id ↔ (Contains (pick auth acct p.kind) p.id ⊎ (pair Auth id ≡ p))
insert_auth auth acct new id e p = by p.kind p.id
  where
    by : (kind : Kind) (n : ℕ) → Contains (pick new acct kind) n ↔ (Contains (pick auth acct kind) n ⊎ (pair Auth id ≡ pair kind n))
    by Auth n = let g = grown auth new id n e in
        ((λ m. ⊎_elim (λ l. inl l) (λ r. inr (λ i. pair Auth (r i))) (g.0 m)), λ h. g.1 (⊎_elim (λ l. inl l) (λ r. inr (ap (λ (x : Pair). x.id) r)) h))
    by Acct n = same_kept acct n (pair Auth id ≡ pair Acct n) (λ e. let k : Auth ≡ Acct = ap (λ (x : Pair). x.kind) e in absurd cc)

pub insert_acct : (auth acct new : List ℕ) (id : ℕ) → new ≡ insert_key nat_cmp acct id → (p : Pair)
    → Contains (pick auth new p.kind) p.id ↔ (Contains (pick auth acct p.kind) p.id ⊎ (pair Acct id ≡ p))
insert_acct auth acct new id e p = by p.kind p.id
  where
    by : (kind : Kind) (n : ℕ) → Contains (pick auth new kind) n ↔ (Contains (pick auth acct kind) n ⊎ (pair Acct id ≡ pair kind n))
    by Acct n = let g = grown acct new id n e in
        ((λ m. ⊎_elim (λ l. inl l) (λ r. inr (λ i. pair Acct (r i))) (g.0 m)), λ h. g.1 (⊎_elim (λ l. inl l) (λ r. inr (ap (λ (x : Pair). x.id) r)) h))
    by Auth n = same_kept auth n (pair Acct id ≡ pair Auth n) (λ e. let k : Acct ≡ Auth = ap (λ (x : Pair). x.kind) e in absurd cc)

-- ---- the list of what is named

abbrev pub listed : List ℕ → List ℕ → List Pair
listed auth acct = map (λ (id : ℕ). pair Auth id) auth ++ map (λ (id : ℕ). pair Acct id) acct

from_map : (kind other : Kind) (ids : List ℕ) (n : ℕ) → IsIn (map (λ (id : ℕ). pair kind id) ids) (pair other n) → (kind ≡ other) × IsIn ids n
from_map kind other ids n m =
    let (id, has, e) = in_map (λ (id : ℕ). pair kind id) ids (pair other n) m in
    (ap (λ (x : Pair). x.kind) e, subst (IsIn ids) (ap (λ (x : Pair). x.id) e) has)

pub from_listed : (auth acct : List ℕ) (p : Pair) → IsIn (listed auth acct) p → IsIn (pick auth acct p.kind) p.id
from_listed auth acct p m = by p.kind p.id m
  where
    by : (kind : Kind) (n : ℕ) → IsIn (listed auth acct) (pair kind n) → IsIn (pick auth acct kind) n
    by kind n m =
        ⊎_elim (λ l. (let r = from_map Auth kind auth n l in subst (λ (k : Kind). IsIn (pick auth acct k) n) r.0 r.1)) (λ l. (let r = from_map Acct kind acct n l in
        subst (λ (k : Kind). IsIn (pick auth acct k) n) r.0 r.1))
        (in_cases (map (λ (id : ℕ). pair Auth id) auth) (map (λ (id : ℕ). pair Acct id) acct) (pair kind n) m)

pub into_listed : (auth acct : List ℕ) (p : Pair) → IsIn (pick auth acct p.kind) p.id → IsIn (listed auth acct) p
into_listed auth acct p m = by p.kind p.id m
  where
    by : (kind : Kind) (n : ℕ) → IsIn (pick auth acct kind) n → IsIn (listed auth acct) (pair kind n)
    by Auth n m = in_left (map (λ (id : ℕ). pair Auth id) auth) (map (λ (id : ℕ). pair Acct id) acct) (pair Auth n) (into_map (λ (id : ℕ). pair Auth id) auth n m)
    by Acct n m = in_right (map (λ (id : ℕ). pair Auth id) auth) (map (λ (id : ℕ). pair Acct id) acct) (pair Acct n) (into_map (λ (id : ℕ). pair Acct id) acct n m)

-- a test that finds what is named, as a test of the list
pub test_of : (auth acct : List ℕ) (p : Pair) (b : Bool) → IsTrue b ↔ Contains (pick auth acct p.kind) p.id → list_any (same_pair p) (listed auth acct) ≡ b
test_of auth acct p true h = in_any p (listed auth acct) (into_listed auth acct p (to_in (pick auth acct p.kind) p.id (h.0 refl)))
test_of auth acct p false h = by (list_any (same_pair p) (listed auth acct)) refl
  where
    by : (t : Bool) → list_any (same_pair p) (listed auth acct) ≡ t → list_any (same_pair p) (listed auth acct) ≡ false
    by false e = e
    by true e = absurd (let f : false ≡ true = h.1 (of_in (pick auth acct p.kind) p.id (from_listed auth acct p (any_in p (listed auth acct) e))) in cc)
