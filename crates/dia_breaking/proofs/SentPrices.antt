-- What the AVPs of levels take that are sent.
use Rattle.std.proofs.Common.{◌≡◌, ℕ, ◌≤◌, Bool, true, false, List, [], ◌∷◌, Option, None, refl, ap, ◌∙◌, arith, inl, inr}
use Rattle.std.specs.Prelude.{◌⊎◌, Contains, IsTrue, if◌then◌else◌}
use Rattle.std.specs.Option.{option_map_or}
use Rattle.std.proofs.lemmas.Bool.{both_ways}
use Rattle.dia_wire.specs.declared.Key.{Key}
use Rattle.dia_book.specs.declared.DRule.{DRule}
use Rattle.dia_book.specs.Dictionary.{Dictionary, entry_of}
use Rattle.dia_terms.specs.declared.Sends.{Sends}
use Rattle.dia_terms.specs.declared.Sends.TheVariants.{Any, Known, Filled, Listed}
use Rattle.dia_valid.specs.Valid.{Placed, is_listed}
use Rattle.dia_breaking_sites.specs.Sent.{is_open, AreListed, StandAsSent}
use Rattle.dia_valid.proofs.Members.{IsIn, in_all, in_contains}
use Rattle.dia_breaking_shortest.specs.Floors.{shortest_head, total}
use Rattle.dia_breaking_levels.specs.LevelTests.{too_long, price}
use Rattle.dia_breaking.specs.Lengths.{length_of_entry, listed_length, other_length}
use Rattle.dia_breaking.proofs.Shortest.{any_least}

total_same : (f g : Key → ℕ) (keys : List Key) → ((q : Key) → IsIn q keys → f q ≡ g q) → total f keys ≡ total g keys
total_same f g [] same = refl
total_same f g (q ∷ keys) same =
    let here = same q (inl refl) in
    let ih = total_same f g keys (λ k i. same k (inr i)) in
    omega (arith, here, ih)

either : (b : Bool) (m n : ℕ) → n ≡ m → (if b then m else n) ≡ m
either true m n e = refl
either false m n e = e

-- what is sent is where the rules place it
pub stand_placed : (who : Sends) (rules : List DRule) (keys : List Key) → StandAsSent who rules keys → Placed rules keys
stand_placed who rules keys h = h.0

-- what comes by a wildcard takes what it does by a rule
open_other : (d : Dictionary) (who : Sends) (lengths : List ℕ) (rules : List DRule) (key : Key) → IsTrue (is_open who rules) → other_length d who lengths key ≡ listed_length d who lengths key
open_other d Any lengths rules key lets = refl
open_other d Known lengths rules key lets = refl
open_other d Filled lengths rules key lets = refl
open_other d Listed lengths rules key lets = absurd (let bad : false ≡ true = lets in cc)

-- by the wildcard of these rules
abbrev pub other_by : Dictionary → Sends → List ℕ → List DRule → Key → ℕ
other_by d who lengths rules key = if is_open who rules then other_length d who lengths key else too_long

pub other_open : (d : Dictionary) (who : Sends) (lengths : List ℕ) (rules : List DRule) (key : Key) → IsTrue (is_open who rules) → other_by d who lengths rules key ≡ other_length d who lengths key
other_open d who lengths rules key lets = ap (λ (b : Bool). if b then other_length d who lengths key else too_long) lets

-- and each of its AVPs takes what one by a rule does
pub stand_price : (d : Dictionary) (who : Sends) (lengths : List ℕ) (rules : List DRule) (keys : List Key) → StandAsSent who rules keys
    → total (price (listed_length d who lengths) (other_by d who lengths rules) rules) keys ≡ total (listed_length d who lengths) keys
stand_price d who lengths rules keys h = by h.1
  where
    by : IsTrue (is_open who rules) ⊎ AreListed rules keys → total (price (listed_length d who lengths) (other_by d who lengths rules) rules) keys ≡ total (listed_length d who lengths) keys
    by (inl lets) =
        total_same (price (listed_length d who lengths) (other_by d who lengths rules) rules) (listed_length d who lengths) keys (λ q i.
        either (is_listed rules q) (listed_length d who lengths q) (other_by d who lengths rules q) (other_open d who lengths rules q lets ∙ open_other d who lengths rules q lets))
    by (inr all) =
        total_same (price (listed_length d who lengths) (other_by d who lengths rules) rules) (listed_length d who lengths) keys (λ q i.
        ap (λ (b : Bool). if b then listed_length d who lengths q else other_by d who lengths rules q) (in_all (λ key. is_listed rules key ≡ true) q keys all i))

-- what no rule lists comes by a wildcard
pub stand_open : (who : Sends) (rules : List DRule) (keys : List Key) → StandAsSent who rules keys → (key : Key) → Contains keys key → is_listed rules key ≡ false → IsTrue (is_open who rules)
stand_open who rules keys h key comes none = by h.1
  where
    by : IsTrue (is_open who rules) ⊎ AreListed rules keys → IsTrue (is_open who rules)
    by (inl lets) = lets
    by (inr all) = absurd (both_ways (is_listed rules key) none (in_all (λ (k : Key). is_listed rules k ≡ true) key keys all (in_contains keys key comes)))

-- no strange key takes less than one without vendor
pub strange_least : (d : Dictionary) (who : Sends) (lengths : List ℕ) (own key : Key) → entry_of d own ≡ None → own.vendor ≡ 0 → entry_of d key ≡ None
    → other_length d who lengths own ≤ other_length d who lengths key
strange_least d Any lengths own key none vendor other =
    let length_own : listed_length d Any lengths own ≡ 8 = ap (λ (o : Option ℕ). option_map_or (length_of_entry lengths) o (shortest_head own)) none
    ∙ ap (λ (n : ℕ). shortest_head (record { code = own.code; vendor = n })) vendor in
    let least = any_least d lengths key in
    omega (arith, length_own, least)
strange_least d Known lengths own key none vendor other =
    let first : listed_length d Known lengths own ≡ too_long = ap (λ (o : Option ℕ). option_map_or (length_of_entry lengths) o too_long) none in
    let second : listed_length d Known lengths key ≡ too_long = ap (λ (o : Option ℕ). option_map_or (length_of_entry lengths) o too_long) other in
    omega (arith, first, second)
strange_least d Filled lengths own key none vendor other =
    let first : listed_length d Filled lengths own ≡ too_long = ap (λ (o : Option ℕ). option_map_or (length_of_entry lengths) o too_long) none in
    let second : listed_length d Filled lengths key ≡ too_long = ap (λ (o : Option ℕ). option_map_or (length_of_entry lengths) o too_long) other in
    omega (arith, first, second)
strange_least d Listed lengths own key none vendor other = omega arith
