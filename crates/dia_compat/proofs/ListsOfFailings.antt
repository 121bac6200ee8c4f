-- Lists of what fails that are made one by one.
use Rattle.std.proofs.Common.{◌≡◌, ℕ, zero, suc, ◌+◌, ◌<◌, Bool, List, [], ◌∷◌, ◌++◌, length, take, get_or, Option, Some, None, refl, sym, ap, subst, ◌∙◌, arith}
use Rattle.std.specs.Prelude.{◌||◌, not, slice_get, IfSome, option_to_list}
use Rattle.std.specs.List.{filter_map, enumerate_from, cons_option, list_any}
use Rattle.std.proofs.lemmas.List.Elements.{filter_map-append}
use Rattle.std.proofs.lemmas.Option.{slice_get-get_or}
use Rattle.dia_wire.specs.declared.Key.{Key}
use Rattle.dia_book.specs.declared.DRule.{DRule}
use Rattle.dia_book.specs.Dictionary.{DictEntry, PlainDefinition}
use Rattle.dia_compat.specs.declared.reasons.Failing.{Failing}
use Rattle.dia_compat.specs.declared.reasons.Failing.TheVariants.{NotBeside}
use Rattle.dia_compat.specs.Sides.{Sides}
use Rattle.dia_compat.specs.PairTests.{NamePair, is_pair, is_wanted, is_ready}
use Rattle.dia_compat.specs.Failings.{unless}
use Rattle.dia_compat.proofs.SetsOfNames.{get_none}
use Rattle.dia_compat.proofs.WantedDefinitions.{filter_map_more}

pub stranger_more : (test : DictEntry → Bool) (recorded : Key → Failing) (entries : List DictEntry) (i j : ℕ) (fits : Bool) (key : Key) (old new : List Failing) → i < length entries → j ≡ i
    → IfSome (slice_get entries j) (λ e. fits ≡ test e) → IfSome (slice_get entries j) (λ e. key ≡ e.key)
    → old ≡ filter_map (λ (e : DictEntry). unless (test e) (recorded e.key)) (take i entries) → new ≡ old ++ option_to_list (unless fits (recorded key))
    → new ≡ filter_map (λ (e : DictEntry). unless (test e) (recorded e.key)) (take (i + 1) entries)
stranger_more test recorded entries i j fits key old new within same h k before pushed =
    by (slice_get entries i) refl (subst (λ (n : ℕ). IfSome (slice_get entries n) (λ e. fits ≡ test e)) same h) (subst (λ (n : ℕ). IfSome (slice_get entries n) (λ e. key ≡ e.key)) same k)
  where
    by : (o : Option DictEntry) → slice_get entries i ≡ o → IfSome o (λ e. fits ≡ test e) → IfSome o (λ e. key ≡ e.key)
        → new ≡ filter_map (λ (e : DictEntry). unless (test e) (recorded e.key)) (take (i + 1) entries)
    by None at f g = absurd (let z = get_none entries i at in omega (arith, within, z))
    by (Some x) at f g =
        let fails = λ (e : DictEntry). unless (test e) (recorded e.key) in
        pushed ∙ ap (λ (ys : List Failing). ys ++ option_to_list (unless fits (recorded key))) before
        ∙ ap (λ (o : Option Failing). filter_map fails (take i entries) ++ option_to_list o) (ap (λ (b : Bool). unless b (recorded key)) f ∙ ap (λ (z : Key). unless (test x) (recorded z)) g)
        ∙ sym (filter_map_more fails entries i x at)

-- the last member with its number
last_numbered : {X : Type 0} (n i : ℕ) (xs : List X) (x : X) → slice_get xs i ≡ Some x → enumerate_from n (take (suc i) xs) ≡ enumerate_from n (take i xs) ++ (n + i, x) ∷ []
last_numbered n i [] x at = absurd (let e : None ≡ Some x = at in cc)
last_numbered {X} n zero (y ∷ xs) x at =
    let same : y ≡ x = let e : Some y ≡ Some x = at in cc in
    let here : n ≡ n + 0 = omega arith in
    ap (λ (z : X). (n, z) ∷ []) same ∙ ap (λ (k : ℕ). (k, x) ∷ []) here
last_numbered {X} n (suc i) (y ∷ xs) x at =
    let here : (n + 1) + i ≡ n + suc i = omega arith in
    ap (λ (zs : List (ℕ × X)). (n, y) ∷ zs) (last_numbered (n + 1) i xs x at ∙ ap (λ (k : ℕ). enumerate_from (n + 1) (take i xs) ++ (k, x) ∷ []) here)

pub numbered_more : {X : Type 0} (fails : ℕ × X → Option Failing) (xs : List X) (i : ℕ) (x : X) (old new : List Failing) (found : Option Failing) → slice_get xs i ≡ Some x → found ≡ fails (i, x)
    → old ≡ filter_map fails (enumerate_from 0 (take i xs)) → new ≡ old ++ option_to_list found → new ≡ filter_map fails (enumerate_from 0 (take (i + 1) xs))
numbered_more {X} fails xs i x old new found at is before pushed =
    let next : suc i ≡ i + 1 = omega arith in
    let here : 0 + i ≡ i = omega arith in
    let last : enumerate_from 0 (take (i + 1) xs) ≡ enumerate_from 0 (take i xs) ++ (i, x) ∷ [] =
    ap (λ (n : ℕ). enumerate_from 0 (take n xs)) (sym next) ∙ last_numbered 0 i xs x at ∙ ap (λ (k : ℕ). enumerate_from 0 (take i xs) ++ (k, x) ∷ []) here in
    pushed ∙ ap (λ (ys : List Failing). ys ++ option_to_list found) before
    ∙ ap (λ (o : Option Failing). filter_map fails (enumerate_from 0 (take i xs)) ++ option_to_list o) is
    ∙ ap (λ (ys : List Failing). filter_map fails (enumerate_from 0 (take i xs)) ++ ys) (one (fails (i, x)))
    ∙ sym (ap (filter_map fails) last ∙ filter_map-append fails (enumerate_from 0 (take i xs)) ((i, x) ∷ []))
  where
    one : (o : Option Failing) → option_to_list o ≡ cons_option o []
    one None = refl
    one (Some f) = refl

-- one member more of a slice
pub failing_more : {X : Type 0} (test : X → Bool) (recorded : X → Failing) (xs : List X) (i : ℕ) (d : X) (old new : List Failing) (passed : Bool) → i < length xs → passed ≡ test (get_or xs i d)
    → old ≡ filter_map (λ (x : X). unless (test x) (recorded x)) (take i xs) → new ≡ old ++ option_to_list (unless passed (recorded (get_or xs i d)))
    → new ≡ filter_map (λ (x : X). unless (test x) (recorded x)) (take (i + 1) xs)
failing_more {X} test recorded xs i d old new passed within is before pushed =
    let fails = λ (x : X). unless (test x) (recorded x) in
    let x = get_or xs i d in
    pushed ∙ ap (λ (ys : List Failing). ys ++ option_to_list (unless passed (recorded x))) before
    ∙ ap (λ (b : Bool). filter_map fails (take i xs) ++ option_to_list (unless b (recorded x))) is
    ∙ sym (filter_map_more fails xs i x (slice_get-get_or xs i d within))

-- one rule more of those that a test asks
pub asked_more : (fails : ℕ × DRule → Option Failing) (xs asked : List DRule) (i : ℕ) (d : DRule) (old new : List Failing) (found : Option Failing) → xs ≡ asked → i < length xs
    → found ≡ fails (i, get_or xs i d) → old ≡ filter_map fails (enumerate_from 0 (take i asked)) → new ≡ old ++ option_to_list found
    → new ≡ filter_map fails (enumerate_from 0 (take (i + 1) asked))
asked_more fails xs asked i d old new found same within is before pushed =
    numbered_more fails asked i (get_or asked i d) old new found (slice_get-get_or asked i d (subst (λ (zs : List DRule). i < length zs) same within))
    (subst (λ (zs : List DRule). found ≡ fails (i, get_or zs i d)) same is) before pushed

-- pairs in which the same are found
pub same_apart : (sides : Sides) (ps qs : List NamePair) → ((a b : List ℕ) → list_any (is_pair a b) ps ≡ list_any (is_pair a b) qs) → (x : PlainDefinition) (cs : List (ℕ × PlainDefinition))
    → filter_map (λ (p : ℕ × PlainDefinition). unless (is_ready sides ps x p.1) (NotBeside p.0)) cs ≡
    filter_map (λ (p : ℕ × PlainDefinition). unless (is_ready sides qs x p.1) (NotBeside p.0)) cs
same_apart sides ps qs same x [] = refl
same_apart sides ps qs same x (c ∷ cs) =
    let fails = λ (ns : List NamePair) (p : ℕ × PlainDefinition). unless (is_ready sides ns x p.1) (NotBeside p.0) in
    ap (λ (b : Bool). cons_option (unless (not (is_wanted sides x.head c.1.head) || b) (NotBeside c.0)) (filter_map (fails ps) cs)) (same x.name c.1.name)
    ∙ ap (cons_option (fails qs c)) (same_apart sides ps qs same x cs)
