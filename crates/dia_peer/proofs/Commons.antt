-- The applications that two lists have in common, where relays are among the ends.
use Rattle.std.proofs.Common.{◌≡◌, ℕ, Bool, true, false, cond, ◌&&◌, List, [], ◌∷◌, length, map, filter, Some, None, inl, inr, ⊎_elim, refl, sym, ap, subst, ◌∙◌}
use Rattle.std.specs.Prelude.{◌↔◌, ◌==◌, ◌||◌, Contains, IsTrue, nat_lt}
use Rattle.std.specs.List.{list_any}
use Rattle.std.proofs.lemmas.Bool.{or_left, or_right}
use Rattle.std.proofs.lemmas.Option.{same_Some, none-some}
use Rattle.dia_peer.specs.declared.config.Kind.{Kind}
use Rattle.dia_peer.specs.declared.config.Kind.TheVariants.{Auth, Acct}
use Rattle.dia_peer.specs.declared.config.Manner.{Manner}
use Rattle.dia_peer.specs.Core.{PlainConfig, Pair, Serves, plain, pair, pair_of, pairs_of, same_pair, sorted_pairs, all, is_relay, relays, common_by, common_of}
use Rattle.dia_peer.specs.World.{IsCommon}
use Rattle.dia_peer.proofs.Sets.{IsIn, to_in, of_in, eq_same, in_sorted, into_sorted, in_both, into_both}
use Rattle.dia_peer.specs.Incoming.{pick}
use Rattle.dia_peer.proofs.ApplicationNumbers.{listed, from_listed, into_listed}

abbrev Alike : List Pair → List Pair → Type 0
Alike apps others = (p : Pair) → IsIn apps p ↔ IsIn others p

-- ---- the number of relays

relay_at : (b : Bool) (q : Pair) (ps : List Pair) → (q.id == 4294967295) ≡ b → (b || is_relay ps) ≡ true → (is_relay ps ≡ true → (p : Pair) × IsIn ps p × ((p.id == 4294967295) ≡ true))
    → (p : Pair) × IsIn (q ∷ ps) p × ((p.id == 4294967295) ≡ true)
relay_at true q ps is h later = (q, inl refl, is)
relay_at false q ps is h later = let r = later h in (r.0, inr r.1, r.2)

the_relay : (ps : List Pair) → is_relay ps ≡ true → (p : Pair) × IsIn ps p × ((p.id == 4294967295) ≡ true)
the_relay [] h = absurd cc
the_relay (q ∷ ps) h = relay_at (q.id == 4294967295) q ps refl h (λ k. the_relay ps k)

by_relay : (ps : List Pair) (p : Pair) → IsIn ps p → (p.id == 4294967295) ≡ true → is_relay ps ≡ true
by_relay [] p m is = absurd m
by_relay (q ∷ ps) p (inl e) is = or_left (q.id == 4294967295) (is_relay ps) (ap (λ (x : Pair). x.id == 4294967295) e ∙ is)
by_relay (q ∷ ps) p (inr m) is = or_right (q.id == 4294967295) (is_relay ps) (by_relay ps p m is)

pub both_true : (a b : Bool) → (a ≡ true → b ≡ true) → (b ≡ true → a ≡ true) → a ≡ b
both_true true true f g = refl
both_true true false f g = sym (f refl)
both_true false true f g = g refl
both_true false false f g = refl

pub relay_same : (ps qs : List Pair) → Alike ps qs → is_relay ps ≡ is_relay qs
relay_same ps qs same =
    both_true (is_relay ps) (is_relay qs) (λ e. (let r = the_relay ps e in by_relay qs r.0 ((same r.0).0 r.1) r.2)) (λ e. (let r = the_relay qs e in by_relay ps r.0 ((same r.0).1 r.1) r.2))

pub sorted_relay : (ps : List Pair) → is_relay (sorted_pairs ps) ≡ is_relay ps
sorted_relay ps = relay_same (sorted_pairs ps) ps (λ p. ((λ m. in_sorted ps p m), (λ m. into_sorted ps p m)))

pub relays_same : (manner : Manner) (ps qs : List Pair) → Alike ps qs → relays manner ps ≡ relays manner qs
relays_same manner ps qs same = ap (λ (t : Bool). manner.relays && t) (relay_same ps qs same)

abbrev pub raw_relay : List (Kind × ℕ) → Bool
raw_relay apps = list_any (λ (x : Kind × ℕ). x.1 == 4294967295) apps

pub raw_relay_is : (apps : List (Kind × ℕ)) → raw_relay apps ≡ is_relay (pairs_of apps)
raw_relay_is [] = refl
raw_relay_is (x ∷ xs) = ap (λ (t : Bool). (x.1 == 4294967295) || t) (raw_relay_is xs)

pub raw_serves : (n : ℕ) (apps : List (Kind × ℕ)) → list_any (λ (x : Kind × ℕ). (x.1 == 4294967295) || (x.1 == n)) apps ≡ list_any (λ (p : Pair). (p.id == 4294967295) || (p.id == n)) (pairs_of apps)
raw_serves n [] = refl
raw_serves n (x ∷ xs) = ap (λ (t : Bool). ((x.1 == 4294967295) || (x.1 == n)) || t) (raw_serves n xs)

-- the number of relays among those of each kind
pub named_relay : (auth acct : List ℕ) (x y : Bool) → IsTrue x ↔ Contains auth 4294967295 → IsTrue y ↔ Contains acct 4294967295 → is_relay (listed auth acct) ≡ (x || y)
named_relay auth acct x y h k = both_true (is_relay (listed auth acct)) (x || y) (λ e. found (the_relay (listed auth acct) e)) given
  where
    by_kind : (kind : Kind) (n : ℕ) → IsIn (pick auth acct kind) n → n ≡ 4294967295 → (x || y) ≡ true
    by_kind Auth n m e = or_left x y (h.1 (of_in auth 4294967295 (subst (IsIn auth) e m)))
    by_kind Acct n m e = or_right x y (k.1 (of_in acct 4294967295 (subst (IsIn acct) e m)))

    found : (p : Pair) × IsIn (listed auth acct) p × ((p.id == 4294967295) ≡ true) → (x || y) ≡ true
    found (p, m, e) = by_kind p.kind p.id (from_listed auth acct p m) (eq_same p.id 4294967295 e)

    by_test : (a b : Bool) → x ≡ a → y ≡ b → (a || b) ≡ true → is_relay (listed auth acct) ≡ true
    by_test true b xe ye e = by_relay (listed auth acct) (pair Auth 4294967295) (into_listed auth acct (pair Auth 4294967295) (to_in auth 4294967295 (h.0 xe))) refl
    by_test false true xe ye e = by_relay (listed auth acct) (pair Acct 4294967295) (into_listed auth acct (pair Acct 4294967295) (to_in acct 4294967295 (k.0 ye))) refl
    by_test false false xe ye e = absurd cc

    given : (x || y) ≡ true → is_relay (listed auth acct) ≡ true
    given e = by_test x y refl refl e

pub auth_relay : (auth acct : List ℕ) → Contains auth 4294967295 → is_relay (listed auth acct) ≡ true
auth_relay auth acct h = by_relay (listed auth acct) (pair Auth 4294967295) (into_listed auth acct (pair Auth 4294967295) (to_in auth 4294967295 h)) refl

pub serves_is : (n : ℕ) (b : Bool) (common : List Pair) → b ≡ list_any (λ p. (p.id == 4294967295) || (p.id == n)) common → (n ≡ 0 → ⊥) → IsTrue b ↔ Serves common n
serves_is n b common e some = ((λ t. inr (subst IsTrue e t)), (λ s. ⊎_elim (λ z. absurd (some z)) (λ t. subst IsTrue (sym e) t) s))

-- ---- the table

none_of_all : (b : Bool) (theirs pairs : List Pair) → cond b None (Some theirs) ≡ Some pairs → theirs ≡ pairs
none_of_all true theirs pairs e = absurd (none-some pairs e)
none_of_all false theirs pairs e = same_Some theirs pairs e

pub common_is : (r s : Bool) (ours theirs others pairs : List Pair) → Alike theirs others → common_by r s ours theirs ≡ Some pairs → (p : Pair) → IsIn pairs p ↔ IsCommon r s ours others p
common_is true true ours theirs others pairs are is p =
    let e : all ≡ pairs = same_Some all pairs is in
    subst (λ (xs : List Pair). IsIn xs p ↔ (p ≡ pair Auth 4294967295)) e ((λ m. ⊎_elim (λ x. sym x) (λ n. absurd n) m), (λ x. inl (sym x)))
common_is true false ours theirs others pairs are is p =
    let e = none_of_all (nat_lt 1024 (length theirs)) theirs pairs is in
    subst (λ (xs : List Pair). IsIn xs p ↔ Contains others p) e ((λ m. of_in others p ((are p).0 m)), (λ h. (are p).1 (to_in others p h)))
common_is false true ours theirs others pairs are is p =
    subst (λ (xs : List Pair). IsIn xs p ↔ Contains ours p) (same_Some (sorted_pairs ours) pairs is)
    ((λ m. of_in ours p (in_sorted ours p m)), (λ h. into_sorted ours p (to_in ours p h)))
common_is false false ours theirs others pairs are is p =
    subst (λ (xs : List Pair). IsIn xs p ↔ (Contains ours p × Contains others p)) (same_Some (filter (λ q. list_any (same_pair q) theirs) (sorted_pairs ours)) pairs is) (
      (λ m. (let k = in_both ours theirs p m in (of_in ours p k.0, of_in others p ((are p).0 k.1)))),
      (λ h. into_both ours theirs p (to_in ours p h.0) ((are p).1 (to_in others p h.1))),
    )

and_false : (a b : Bool) → b ≡ false → (a && b) ≡ false
and_false true b e = e
and_false false b e = refl

-- where neither list has the number of relays, each manner reads them alike
pub same_common : (manner : Manner) (c : PlainConfig) (theirs : List Pair) → is_relay (map pair_of c.apps) ≡ false → is_relay theirs ≡ false → common_of manner c theirs ≡ common_of plain c theirs
same_common manner c theirs ours none =
    λ i. common_by (and_false manner.relays (is_relay (map pair_of c.apps)) ours i) (and_false manner.relays (is_relay theirs) none i) (map pair_of c.apps) theirs

-- what two lists have in common doesn't depend on whose each is
pub common_turns : (r s : Bool) (xs ys : List Pair) (p : Pair) → IsCommon r s xs ys p → IsCommon s r ys xs p
common_turns true true xs ys p h = h
common_turns true false xs ys p h = h
common_turns false true xs ys p h = h
common_turns false false xs ys p h = (h.1, h.0)
