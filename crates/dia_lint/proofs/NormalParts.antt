-- The numbers of two definitions are equal exactly if their rules have the same normal form.
use Rattle.std.proofs.Common.{◌≡◌, ℕ, zero, suc, ◌+◌, ◌-◌, ◌≤◌, Bool, true, false, cond, List, [], ◌∷◌, ◌++◌, length, map, filter, take, drop, Option, Some, None, refl, sym, ap, subst, ◌∙◌, arith, inl, inr}
use Rattle.std.specs.Prelude.{◌⊎◌, ◌↔◌, nat_eq, not, ◌&&◌, if◌then◌else◌, is_some, option_and_then, option_to_list, Contains, IsTrue}
use Rattle.std.specs.Bool.{Decides}
use Rattle.std.specs.Option.{option_eq, option_map}
use Rattle.std.specs.BTreeSet.{BTreeSet, IsOrdered, contains}
use Rattle.std.proofs.lemmas.Bool.{and_from, and_parts}
use Rattle.std.proofs.lemmas.Bool.Decides.{Decides-eqb}
use Rattle.std.proofs.lemmas.List.{append_cancel_left, drop-map, length-map, map-append, take-append-drop, take-map, take_all}
use Rattle.std.proofs.lemmas.List.Elements.{filter-append}
use Rattle.std.proofs.lemmas.Map.Views.{btree_set_contains_iff}
use Rattle.std.proofs.lemmas.Option.{none-some, same_Some, slice_get_within}
use Rattle.dia_wire.specs.declared.Key.{Key}
use Rattle.dia_book.specs.declared.DRule.{DRule}
use Rattle.dia_book.specs.Dictionary.{is_fixed}
use Rattle.dia_breaking_shortest.proofs.Strangers.{in_map}
use Rattle.dia_valid.proofs.Members.{IsIn, at_in, contains_in, in_at, in_contains, in_filter, in_left, in_right, into_filter, taken, there_is}
use Rattle.dia_lint.specs.Gathered.{gathered}
use Rattle.dia_lint.specs.Guidelines.{lets_in}
use Rattle.dia_lint.specs.LevelParts.{AreAlike, AreAmong, AskSame, Parts, bounds, is_any, is_first, is_needed, others_of, parts_of, settled, settled_by}
use Rattle.dia_lint.specs.NormalForms.{AreCountsOf, AreEqual, HasAny, HasParts, IsNormalOf, any_counts, counts_cmp, counts_of, first_counts, first_part, key_numbers, most_number, numbers}
use Rattle.dia_lint.specs.declared.normal.Normal.{Normal}
use Rattle.dia_lint.proofs.NormalSets.{counts_exact, counts_total, same_keys}
use Rattle.dia_lint.proofs.SameLevels.{same_test}
use Rattle.dia_lint.proofs.SamePartsFirsts.{fixed_kind}

abbrev Counts : Type 0
Counts = (ℕ × ℕ) × (ℕ × ℕ)

-- ---- the counts of the parts

one_first : (b : Bool) (r : DRule) → option_to_list (if b then Some (counts_of r) else None) ≡ map counts_of (cond b (r ∷ []) [])
one_first true r = refl
one_first false r = refl

first_rules : (rules : List DRule) (i : ℕ) → i ≤ length rules → gathered (first_part rules) i ≡ map counts_of (filter is_first (take i rules))
first_rules rules zero within = refl
first_rules rules (suc i) within =
    let (r, at) = there_is rules i (omega (arith, within)) in
    let here : first_part rules i ≡ map counts_of (filter is_first (r ∷ [])) = ap (λ (o : Option DRule). option_to_list (option_and_then first_counts o)) at ∙ one_first (is_first r) r in
    let next : take (suc i) rules ≡ take i rules ++ r ∷ [] = ap (λ (n : ℕ). take n rules) (let e : suc i ≡ i + 1 = omega arith in e) ∙ taken rules i r at in
    ap (λ (xs : List Counts). xs ++ first_part rules i) (first_rules rules i (omega (arith, within)))
    ∙ ap (λ (xs : List Counts). map counts_of (filter is_first (take i rules)) ++ xs) here
    ∙ sym (map-append counts_of (filter is_first (take i rules)) (filter is_first (r ∷ [])))
    ∙ ap (map counts_of) (sym (filter-append is_first (take i rules) (r ∷ [])))
    ∙ ap (λ (xs : List DRule). map counts_of (filter is_first xs)) (sym next)

pub firsts_are : (rules : List DRule) → gathered (first_part rules) (length rules) ≡ map counts_of (filter is_first rules)
firsts_are rules = first_rules rules (length rules) (omega arith) ∙ ap (λ (xs : List DRule). map counts_of (filter is_first xs)) (take_all (length rules) rules (omega arith))

one_any : (b : Bool) (k q : Counts) → (if b then Some k else None) ≡ Some q → (b ≡ true) × (k ≡ q)
one_any true k q e = (refl, same_Some k q e)
one_any false k q e = absurd (none-some q e)

pub anys_are : (rules : List DRule) (others : Option DRule) (set : BTreeSet Counts) → IsOrdered counts_cmp set
    → ((q : Counts) → IsTrue (contains counts_cmp set q) ↔ HasAny rules others (length rules) q) → AreCountsOf (filter (is_any others) rules) set
anys_are rules others set ordered has = record {
  ordered = ordered;
  to = λ q h.
      let (j, lt, e) = (has q).0 h in
      let (r, at) = there_is rules j lt in
      let (test, same) = one_any (is_any others r) (counts_of r) q (ap (option_and_then (any_counts others)) (sym at) ∙ e) in
      (r, contains_in (filter (is_any others) rules) r (into_filter (is_any others) rules r (in_at rules j r at) test), same);
  from = λ r h.
      let (i, test) = in_filter (is_any others) rules r (in_contains (filter (is_any others) rules) r h) in
      let p = at_in rules r i in
      (has (counts_of r)).1 (
        p.place,
        slice_get_within rules p.place r p.at,
        ap (option_and_then (any_counts others)) p.at ∙ ap (λ (b : Bool). if b then Some (counts_of r) else None) test,
      );
}

-- ---- the last of the first AVPs, where none follow

from_map : (xs : List DRule) (q : Counts) → IsIn q (map counts_of xs) → (r : DRule) × IsIn r xs × (counts_of r ≡ q)
from_map [] q h = absurd h
from_map (r ∷ xs) q (inl same) = (r, inl refl, sym same)
from_map (r ∷ xs) q (inr i) = let (t, it, e) = from_map xs q i in (t, inr it, e)

only_one : (o : Option Counts) (q : Counts) → IsIn q (option_to_list o) → o ≡ Some q
only_one None q h = absurd h
only_one (Some k) q (inl same) = ap (λ (x : Counts). Some x) (sym same)
only_one (Some k) q (inr i) = absurd i

nothing_in : (rules : List DRule) (set : BTreeSet Counts) → AreCountsOf rules set → set.keys ≡ [] → rules ≡ []
nothing_in [] set are none = refl
nothing_in (r ∷ rules) set are none =
    let some : contains counts_cmp set (counts_of r) ≡ true = are.from r (contains_in (r ∷ rules) r (inl refl)) in
    absurd (let e : true ≡ false = sym some ∙ ap (λ (ks : List Counts). contains counts_cmp (record { keys = ks }) (counts_of r)) none in cc)

pub last_follows : (p : Parts) (old new : List Counts) (last : Option Counts) (before after : BTreeSet Counts) (n : Normal) → old ≡ map counts_of p.firsts → AreCountsOf p.anys before → p.others ≡ None
    → before.keys ≡ [] → old ≡ new ++ option_to_list last → new ≡ take (length old - 1) old → IsOrdered counts_cmp after
    → ((q : Counts) → IsTrue (contains counts_cmp after q) ↔ (IsTrue (contains counts_cmp before q) ⊎ (last ≡ Some q)))
    → n.firsts.items ≡ new → n.anys ≡ after → n.others ≡ None → HasParts (settled p) n
last_follows p old new last before after n is are none empty split rest ordered more own_firsts own_anys own_others =
    subst (λ (s : Parts). HasParts s n) (sym here) (record {
      firsts = own_firsts ∙ rest ∙ ap (λ (xs : List Counts). take (length xs - 1) xs) is ∙ ap (λ (k : ℕ). take (k - 1) (map counts_of p.firsts)) size ∙ take-map counts_of (length p.firsts - 1) p.firsts;
      anys = subst (AreCountsOf lasts) (sym own_anys) (record {
        ordered = ordered;
        to = λ q h. to q ((more q).0 h);
        from = λ r h. (more (counts_of r)).1 (inr (only_one last (counts_of r) (subst (IsIn (counts_of r)) (sym last_is) (in_map counts_of lasts r (in_contains lasts r h)))));
      });
      others = own_others;
    })
  where
    size : length (map counts_of p.firsts) ≡ length p.firsts
    size = length-map p.firsts counts_of

    lasts : List DRule
    lasts = drop (length p.firsts - 1) p.firsts

    here : settled p ≡ record { firsts = take (length p.firsts - 1) p.firsts; anys = drop (length p.firsts - 1) p.firsts; others = None }
    here = ap (λ (xs : List DRule). settled_by p.firsts xs p.others) (nothing_in p.anys before are empty) ∙ ap (settled_by p.firsts []) none

    last_is : option_to_list last ≡ map counts_of lasts
    last_is =
        let cut : take (length old - 1) old ++ option_to_list last ≡ take (length old - 1) old ++ drop (length old - 1) old =
        ap (λ (xs : List Counts). xs ++ option_to_list last) (sym rest) ∙ sym split ∙ sym (take-append-drop (length old - 1) old) in
        append_cancel_left (take (length old - 1) old) (option_to_list last) (drop (length old - 1) old) cut
        ∙ ap (λ (xs : List Counts). drop (length xs - 1) xs) is ∙ ap (λ (k : ℕ). drop (k - 1) (map counts_of p.firsts)) size ∙ drop-map counts_of (length p.firsts - 1) p.firsts

    to : (q : Counts) → IsTrue (contains counts_cmp before q) ⊎ (last ≡ Some q) → (r : DRule) × Contains lasts r × (counts_of r ≡ q)
    to q (inl h) = absurd (let e : true ≡ false = sym h ∙ ap (λ (ks : List Counts). contains counts_cmp (record { keys = ks }) q) empty in cc)
    to q (inr e) =
        let one : IsIn q (option_to_list last) = subst (λ (o : Option Counts). IsIn q (option_to_list o)) (sym e) (inl refl) in
        let (r, i, same) = from_map lasts q (subst (IsIn q) last_is one) in
        (r, contains_in lasts r i, same)

-- ---- the others

something_in : (rules : List DRule) (set : BTreeSet Counts) → AreCountsOf rules set → (set.keys ≡ [] → ⊥) → rules ≡ [] → ⊥
something_in rules set are some none = by set.keys refl
  where
    by : (ks : List Counts) → set.keys ≡ ks → ⊥
    by [] e = some e
    by (k ∷ ks) e =
        let has : Contains set.keys k = subst (λ (xs : List Counts). Contains xs k) (sym e) (contains_in (k ∷ ks) k (inl refl)) in
        let (r, i, same) = are.to k ((btree_set_contains_iff counts_total counts_exact set k).1 has) in
        subst (IsIn r) none (in_contains rules r i)

stays : (firsts anys : List DRule) (others : Option DRule) → (is_some others ≡ true) ⊎ (anys ≡ [] → ⊥) → settled_by firsts anys others ≡ record { firsts = firsts; anys = anys; others = others }
stays firsts [] None (inl e) = absurd (let f : false ≡ true = e in cc)
stays firsts [] None (inr some) = absurd (some refl)
stays firsts [] (Some w) h = refl
stays firsts (r ∷ anys) others h = refl

pub parts_stay : (p : Parts) (firsts : List Counts) (set : BTreeSet Counts) (others : Option DRule) (n : Normal) → firsts ≡ map counts_of p.firsts → AreCountsOf p.anys set → others ≡ p.others
    → (is_some others ≡ true) ⊎ (set.keys ≡ [] → ⊥) → n.firsts.items ≡ firsts → n.anys ≡ set → n.others ≡ option_map numbers others → HasParts (settled p) n
parts_stay p firsts set others n is are same held own_firsts own_anys own_others =
    subst (λ (s : Parts). HasParts s n) (sym (stays p.firsts p.anys p.others (by held))) (record {
      firsts = own_firsts ∙ is;
      anys = subst (AreCountsOf p.anys) (sym own_anys) are;
      others = own_others ∙ ap (option_map numbers) same;
    })
  where
    by : (is_some others ≡ true) ⊎ (set.keys ≡ [] → ⊥) → (is_some p.others ≡ true) ⊎ (p.anys ≡ [] → ⊥)
    by (inl some) = inl (ap (λ (o : Option DRule). is_some o) (sym same) ∙ some)
    by (inr some) = inr (something_in p.anys set are some)

-- ---- rules with the same counts

abbrev AreFirsts : List DRule → Type 0
AreFirsts rules = (r : DRule) → IsIn r rules → is_first r ≡ true

abbrev AreKeyed : List DRule → Type 0
AreKeyed rules = (r : DRule) → IsIn r rules → is_some r.key ≡ true

same_key_by : (k l : Option Key) → is_some k ≡ true → is_some l ≡ true → key_numbers k ≡ key_numbers l → k ≡ l
same_key_by None l some other e = absurd (let f : false ≡ true = some in cc)
same_key_by (Some k) None some other e = absurd (let f : false ≡ true = other in cc)
same_key_by (Some k) (Some l) some other e =
    let code : k.code ≡ l.code = ap (λ (p : ℕ × ℕ). p.0) e in
    let vendor : k.vendor ≡ l.vendor = ap (λ (p : ℕ × ℕ). p.1) e in
    λ i. Some (record { code = code i; vendor = vendor i })

same_most : (a b : Option ℕ) → most_number a ≡ most_number b → a ≡ b
same_most None None e = refl
same_most None (Some n) e = absurd (omega (arith, e))
same_most (Some m) None e = absurd (omega (arith, e))
same_most (Some m) (Some n) e = ap (λ (k : ℕ). Some k) (let same : m ≡ n = omega (arith, e) in same)

same_bounds : (r t : DRule) → numbers r ≡ numbers t → bounds r ≡ bounds t
same_bounds r t e =
    let least : r.min ≡ t.min = ap (λ (p : ℕ × ℕ). p.0) e in
    let most : r.max ≡ t.max = same_most r.max t.max (ap (λ (p : ℕ × ℕ). p.1) e) in
    λ i. (least i, most i)

same_numbers : (r t : DRule) → bounds r ≡ bounds t → numbers r ≡ numbers t
same_numbers r t = ap (λ (b : ℕ × Option ℕ). (b.0, most_number b.1))

same_first : (r t : DRule) → is_first r ≡ true → is_first t ≡ true → counts_of r ≡ counts_of t → r ≡ t
same_first r t own other e =
    let (some, more) = and_parts (is_some r.key) (is_fixed r && lets_in r) own in
    let (some', more') = and_parts (is_some t.key) (is_fixed t && lets_in t) other in
    let kind : r.kind ≡ t.kind = fixed_kind r (and_parts (is_fixed r) (lets_in r) more).0 ∙ sym (fixed_kind t (and_parts (is_fixed t) (lets_in t) more').0) in
    let key : r.key ≡ t.key = same_key_by r.key t.key some some' (ap (λ (c : Counts). c.0) e) in
    let own_bounds : bounds r ≡ bounds t = same_bounds r t (ap (λ (c : Counts). c.1) e) in
    λ i. record { kind = kind i; key = key i; min = (own_bounds i).0; max = (own_bounds i).1 }

same_firsts : (xs ys : List DRule) → AreFirsts xs → AreFirsts ys → map counts_of xs ≡ map counts_of ys → xs ≡ ys
same_firsts [] [] own other e = refl
same_firsts [] (y ∷ ys) own other e = absurd (let f : [] ≡ counts_of y ∷ map counts_of ys = e in cc)
same_firsts (x ∷ xs) [] own other e = absurd (let f : counts_of x ∷ map counts_of xs ≡ [] = e in cc)
same_firsts (x ∷ xs) (y ∷ ys) own other e =
    let f : counts_of x ∷ map counts_of xs ≡ counts_of y ∷ map counts_of ys = e in
    let one : x ≡ y = same_first x y (own x (inl refl)) (other y (inl refl)) (let h : counts_of x ≡ counts_of y = cc in h) in
    let rest : xs ≡ ys = same_firsts xs ys (λ r i. own r (inr i)) (λ r i. other r (inr i)) (let t : map counts_of xs ≡ map counts_of ys = cc in t) in
    λ i. one i ∷ rest i

-- ---- the sets of those that follow

module _ (xs ys : List DRule) (s t : BTreeSet Counts) (own : AreCountsOf xs s) (other : AreCountsOf ys t) where
  among_from : AreKeyed xs → AreKeyed ys → s.keys ≡ t.keys → AreAmong xs ys
  among_from keyed keyed' same = λ r h.
      let there : contains counts_cmp t (counts_of r) ≡ true =
      ap (λ (ks : List Counts). contains counts_cmp (record { keys = ks }) (counts_of r)) (sym same) ∙ own.from r h in
      let (u, it, e) = other.to (counts_of r) there in
      (u, it, same_key_by r.key u.key (keyed r (in_contains xs r h)) (keyed' u (in_contains ys u it)) (ap (λ (c : Counts). c.0) (sym e)), same_bounds r u (ap (λ (c : Counts). c.1) (sym e)))

  among_to : AreAmong xs ys → (q : Counts) → contains counts_cmp s q ≡ true → contains counts_cmp t q ≡ true
  among_to among q h =
      let (r, ir, e) = own.to q h in
      let (u, iu, key, within) = among r ir in
      let keys : key_numbers u.key ≡ key_numbers r.key = ap key_numbers (sym key) in
      let counts : numbers u ≡ numbers r = same_numbers u r (sym within) in
      let same : counts_of u ≡ q = (λ i. (keys i, counts i)) ∙ e in
      subst (λ (k : Counts). contains counts_cmp t k ≡ true) same (other.from u iu)

-- ---- parts

record AreNamed (p : Parts) : Type 0 where
  firsts : AreFirsts p.firsts
  anys : AreKeyed p.anys

settled_named : (p : Parts) → AreNamed p → AreNamed (settled p)
settled_named p named = by p.firsts p.anys p.others named.firsts named.anys
  where
    by : (firsts anys : List DRule) (others : Option DRule) → AreFirsts firsts → AreKeyed anys → AreNamed (settled_by firsts anys others)
    by firsts [] None own keyed =
        let n = length firsts - 1 in
        record {
          firsts = λ r i. own r (subst (IsIn r) (take-append-drop n firsts) (in_left (take n firsts) (drop n firsts) r i));
          anys = λ r i. (and_parts (is_some r.key) (is_fixed r && lets_in r) (own r (subst (IsIn r) (take-append-drop n firsts) (in_right (take n firsts) (drop n firsts) r i)))).0;
        }
    by firsts [] (Some w) own keyed = record { firsts = own; anys = keyed }
    by firsts (r ∷ anys) others own keyed = record { firsts = own; anys = keyed }

rules_named : (rules : List DRule) → AreNamed (settled (parts_of rules))
rules_named rules = settled_named (parts_of rules) (record {
  firsts = λ r i. (in_filter is_first rules r i).1;
  anys = λ r i. (and_parts (is_some r.key) (not (is_fixed r && lets_in r) && is_needed (others_of rules) r) (in_filter (is_any (others_of rules)) rules r i).1).0;
})

same_others : (a b : Option DRule) → option_map numbers a ≡ option_map numbers b → option_map bounds a ≡ option_map bounds b
same_others None None e = refl
same_others None (Some w) e = absurd (none-some (numbers w) e)
same_others (Some v) None e = absurd (none-some (numbers v) (sym e))
same_others (Some v) (Some w) e = ap (λ (b : ℕ × Option ℕ). Some b) (same_bounds v w (same_Some (numbers v) (numbers w) e))

other_numbers : (a b : Option DRule) → option_map bounds a ≡ option_map bounds b → option_map numbers a ≡ option_map numbers b
other_numbers None None e = refl
other_numbers None (Some w) e = absurd (none-some (bounds w) e)
other_numbers (Some v) None e = absurd (none-some (bounds v) (sym e))
other_numbers (Some v) (Some w) e = ap (λ (b : ℕ × ℕ). Some b) (same_numbers v w (same_Some (bounds v) (bounds w) e))

module _ (p q : Parts) (named : AreNamed p) (named' : AreNamed q) (n m : Normal) (own : HasParts p n) (other : HasParts q m) where
  ask_same : AreEqual n m → AskSame p q
  ask_same (firsts, others, keys) = record {
    firsts = same_firsts p.firsts q.firsts named.firsts named'.firsts (sym own.firsts ∙ firsts ∙ other.firsts);
    anys = among_from p.anys q.anys n.anys m.anys own.anys other.anys named.anys named'.anys keys;
    back = among_from q.anys p.anys m.anys n.anys other.anys own.anys named'.anys named.anys (sym keys);
    others = same_others p.others q.others (sym own.others ∙ others ∙ other.others);
  }

  are_equal : AskSame p q → AreEqual n m
  are_equal same = (
    own.firsts ∙ ap (map counts_of) same.firsts ∙ sym other.firsts,
    own.others ∙ other_numbers p.others q.others same.others ∙ sym other.others,
    same_keys n.anys m.anys own.anys.ordered other.anys.ordered
        (λ k. same_test (contains counts_cmp n.anys k) (contains counts_cmp m.anys k)
        (among_to p.anys q.anys n.anys m.anys own.anys other.anys same.anys k)
        (among_to q.anys p.anys m.anys n.anys other.anys own.anys same.back k)),
  )

-- ---- tests

pair_decides : {A B : Type 0} (E : A → A → Bool) (F : B → B → Bool) → ((a b : A) → Decides (E a b) (a ≡ b)) → ((a b : B) → Decides (F a b) (a ≡ b)) → (p q : A × B)
    → Decides (E p.0 q.0 && F p.1 q.1) (p ≡ q)
pair_decides {A} {B} E F one other p q = (
  λ h. let parts = and_parts (E p.0 q.0) (F p.1 q.1) h in
      let first : p.0 ≡ q.0 = (one p.0 q.0).0 parts.0 in
      let second : p.1 ≡ q.1 = (other p.1 q.1).0 parts.1 in
      λ i. (first i, second i),
  λ e. and_from (E p.0 q.0) (F p.1 q.1) ((one p.0 q.0).1 (ap (λ (x : A × B). x.0) e)) ((other p.1 q.1).1 (ap (λ (x : A × B). x.1) e)),
)

pub numbers_decide : (p q : ℕ × ℕ) → Decides (nat_eq p.0 q.0 && nat_eq p.1 q.1) (p ≡ q)
numbers_decide = pair_decides nat_eq nat_eq Decides-eqb Decides-eqb

pub counts_decide : (p q : Counts) → Decides ((nat_eq p.0.0 q.0.0 && nat_eq p.0.1 q.0.1) && (nat_eq p.1.0 q.1.0 && nat_eq p.1.1 q.1.1)) (p ≡ q)
counts_decide = pair_decides (λ p q. nat_eq p.0 q.0 && nat_eq p.1 q.1) (λ p q. nat_eq p.0 q.0 && nat_eq p.1 q.1) numbers_decide numbers_decide

pub option_decides : {X : Type 0} (E : X → X → Bool) → ((a b : X) → Decides (E a b) (a ≡ b)) → (a b : Option X) → Decides (option_eq E a b) (a ≡ b)
option_decides E one None None = (λ h. refl, λ e. refl)
option_decides E one None (Some y) = (λ h. absurd (let f : false ≡ true = h in cc), λ e. absurd (none-some y e))
option_decides E one (Some x) None = (λ h. absurd (let f : false ≡ true = h in cc), λ e. absurd (none-some x (sym e)))
option_decides {X} E one (Some x) (Some y) = (λ h. ap (λ (z : X). Some z) ((one x y).0 h), λ e. (one x y).1 (same_Some x y e))

-- the first two are equal
pub when_two : (n m : Normal) (r : Bool) → n.firsts.items ≡ m.firsts.items → n.others ≡ m.others → Decides r (n.anys.keys ≡ m.anys.keys) → IsTrue r ↔ AreEqual n m
when_two n m r firsts others anys = (λ h. (firsts, others, anys.0 h), λ e. anys.1 e.2)

pub when_differ : (n m : Normal) (r : Bool) → r ≡ false → (AreEqual n m → ⊥) → IsTrue r ↔ AreEqual n m
when_differ n m r fails differ = (λ h. absurd (let f : true ≡ false = sym h ∙ fails in cc), λ e. absurd (differ e))

-- ---- definitions

pub equal_alike : (a b : List DRule) (n m : Normal) → IsNormalOf a n → IsNormalOf b m → AreEqual n m ↔ AreAlike a b
equal_alike a b n m own other = (
  ask_same (settled (parts_of a)) (settled (parts_of b)) (rules_named a) (rules_named b) n m own other,
  are_equal (settled (parts_of a)) (settled (parts_of b)) (rules_named a) (rules_named b) n m own other,
)
