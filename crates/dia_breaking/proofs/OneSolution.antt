-- What is reported of two dictionaries is unique: keys, applications and orders.
use Rattle.std.proofs.Common.{◌≡◌, ℕ, ◌<◌, Bool, true, false, List, [], ◌∷◌, ◌++◌, map, filter, Option, Some, None, refl, sym, ap, subst, ◌∙◌, arith, inl, inr}
use Rattle.std.specs.Prelude.{◌↔◌, ◌⊎◌, IsTrue, All, MatchOption, option_to_list, position}
use Rattle.std.specs.HashMap.{get}
use Rattle.std.proofs.lemmas.Bool.{cases_order}
use Rattle.std.proofs.lemmas.List.Elements.{All-head, All-tail}
use Rattle.dia_wire.specs.declared.Key.{Key}
use Rattle.dia_book.specs.Keys.{same_key}
use Rattle.dia_book.specs.Dictionary.{Dictionary}
use Rattle.dia_terms.specs.declared.Unknown.{Unknown}
use Rattle.dia_terms.specs.declared.Sends.{Sends}
use Rattle.dia_terms.specs.declared.Sends.TheVariants.{Any, Known, Filled, Listed}
use Rattle.dia_breaking.specs.declared.apps.Apps.{Apps}
use Rattle.dia_breaking.specs.declared.heads.Head.{Head}
use Rattle.dia_breaking.specs.declared.keys.Own.{Own}
use Rattle.dia_breaking.specs.declared.keys.Recording.{Recording}
use Rattle.dia_breaking.specs.Headers.{apps_of, both_apps}
use Rattle.dia_breaking.specs.Lengths.{AreExactlyOthers, listed_length}
use Rattle.dia_breaking.specs.SentKeys.{AreSentInOrder, IsStranger, entry_keys, keys_of_b_alone}
use Rattle.dia_breaking.specs.Recording.{AreOwnOf, IsExactlyOwn, IsExactRecording, is_news}
use Rattle.dia_breaking.specs.RecordedApps.{AreOpenApps, AreRecordedApps, IsLeastUnnamed, selects}
use Rattle.dia_breaking.specs.Sides.{sides}
use Rattle.dia_breaking_shortest.proofs.OneOrder.{one_sorted}

pub one_stranger : (da db : Dictionary) (key other : Key) → IsStranger da db key → IsStranger da db other → key ≡ other
one_stranger da db key other is are =
    let up = is.least other are.strange are.vendor in
    let down = are.least key is.strange is.vendor in
    let code : key.code ≡ other.code = omega (arith, up, down) in
    let vendor : key.vendor ≡ other.vendor = is.vendor ∙ sym are.vendor in
    λ i. record { code = code i; vendor = vendor i }

pub one_list_sent : (da db : Dictionary) (who : Sends) (keys others : List Key) → AreSentInOrder da db who keys → AreSentInOrder da db who others → keys ≡ others
one_list_sent da db Any keys others (s, is, are) (t, is_other, are_other) =
    are ∙ ap (λ (k : Key). (entry_keys da ++ keys_of_b_alone da db) ++ k ∷ []) (one_stranger da db s t is is_other) ∙ sym are_other
one_list_sent da db Known keys others are are_other = are ∙ sym are_other
one_list_sent da db Filled keys others are are_other = are ∙ sym are_other
one_list_sent da db Listed keys others are are_other = are ∙ sym are_other

-- two tests that are false alike
alike : {P : Type 0} (b c : Bool) → (b ≡ false) ↔ P → (c ≡ false) ↔ P → b ≡ c
alike true true first second = refl
alike false false first second = refl
alike true false first second = first.1 (second.0 refl)
alike false true first second = sym (second.1 (first.0 refl))

-- and two that are true alike
pub one_truth : {P : Type 0} (b c : Bool) → IsTrue b ↔ P → IsTrue c ↔ P → b ≡ c
one_truth true true first second = refl
one_truth false false first second = refl
one_truth true false first second = sym (second.1 (first.0 refl))
one_truth false true first second = first.1 (second.0 refl)

abbrev pub first_key : List Key → Key → Key
first_key [] key = key
first_key (k ∷ ks) key = k

abbrev pub rest_keys : List Key → List Key
rest_keys [] = []
rest_keys (k ∷ ks) = ks

module _ (da db : Dictionary) (who : Sends) (u : Unknown) where
  pub one_own : (own other : Own) → IsExactlyOwn (sides da db who u) own → IsExactlyOwn (sides da db who u) other → own.key ≡ other.key → own ≡ other
  one_own own other is are same =
      let moved = subst (λ (k : Key). IsExactlyOwn (sides da db who u) (record { key = k; is_group = own.is_group; breaks = own.breaks; is_other = own.is_other })) same is in
      let group : own.is_group ≡ other.is_group = moved.group ∙ sym are.group in
      let breaks : own.breaks ≡ other.breaks = alike own.breaks other.breaks moved.silent are.silent in
      let reads : own.is_other ≡ other.is_other = one_truth own.is_other other.is_other moved.other are.other in
      λ i. record { key = same i; is_group = group i; breaks = breaks i; is_other = reads i }

  one_list : (all others : List Own) → map (λ (own : Own). own.key) all ≡ map (λ (own : Own). own.key) others → All (IsExactlyOwn (sides da db who u)) all → All (IsExactlyOwn (sides da db who u)) others
      → all ≡ others
  one_list [] [] same each each_other = refl
  one_list [] (other ∷ others) same each each_other = absurd (let bad : [] ≡ other.key ∷ map (λ (own : Own). own.key) others = same in cc)
  one_list (own ∷ all) [] same each each_other = absurd (let bad : own.key ∷ map (λ (own : Own). own.key) all ≡ [] = same in cc)
  one_list (own ∷ all) (other ∷ others) same each each_other =
      let P = IsExactlyOwn (sides da db who u) in
      let here : own ≡ other = one_own own other (All-head P own all each) (All-head P other others each_other) (ap (λ (ks : List Key). first_key ks own.key) same) in
      let rest : all ≡ others = one_list all others (ap rest_keys same) (All-tail P own all each) (All-tail P other others each_other) in
      λ i. here i ∷ rest i

  pub one_list_recorded : (keys : List Key) (all others : List Own) → AreOwnOf (sides da db who u) keys all → AreOwnOf (sides da db who u) keys others → all ≡ others
  one_list_recorded keys all others are are_other = one_list all others (are.0 ∙ sym are_other.0) are.1 are_other.1

  pub one_recording : (recording other : Recording) → IsExactRecording (sides da db who u) recording → IsExactRecording (sides da db who u) other
      → (recording.own.items ≡ other.own.items) × ((key : Key) → get same_key recording.places key ≡ get same_key other.places key)
  one_recording recording other is are =
      let keys = one_list_sent da db who is.keys are.keys is.sent are.sent in
      let all = one_list_recorded are.keys is.all are.all (subst (λ (ks : List Key). AreOwnOf (sides da db who u) ks is.all) keys is.each) are.each in
      let items : recording.own.items ≡ other.own.items = is.recorded_are ∙ ap (filter is_news) all ∙ sym are.recorded_are in
      (items, λ key. is.places key ∙ ap (position (λ (own : Own). same_key own.key key)) items ∙ sym (are.places key))

-- ---- the applications of a command

pub one_unnamed : (first second : List ℕ) (found other : Option ℕ) → IsLeastUnnamed first second found → IsLeastUnnamed first second other → found ≡ other
one_unnamed first second None None all all_other = refl
one_unnamed first second None (Some app) all least = absurd (least.1 (all app least.0))
one_unnamed first second (Some app) None least all = absurd (least.1 (all app least.0))
one_unnamed first second (Some app) (Some other) least least_other = by (cases_order app other)
  where
    by : (app ≡ other) ⊎ ((app < other) ⊎ (other < app)) → Some app ≡ Some other
    by (inl same) = ap (λ (n : ℕ). Some n) same
    by (inr (inl lt)) = absurd (least.1 (least_other.2 app lt))
    by (inr (inr gt)) = absurd (least_other.1 (least.2 other gt))

pub one_list_of_apps : (da : Dictionary) (first second : Apps) (c : ℕ) (head : Head) (apps others : List ℕ) → AreRecordedApps da (both_apps first second) c head apps → AreRecordedApps da (both_apps first second) c head others
    → apps ≡ others
one_list_of_apps da first second c head apps others are are_other = by head.app are are_other
  where
    by : (o : Option ℕ) → MatchOption o (AreOpenApps da (both_apps first second) c head apps) (λ app. apps ≡ app ∷ []) → MatchOption o (AreOpenApps da (both_apps first second) c head others) (λ app. others ≡ app ∷ [])
        → apps ≡ others
    by (Some app) is is_other = is ∙ sym is_other
    by None (found, least, is) (other, least_other, is_other) =
        is ∙ ap (λ (o : Option ℕ). filter (selects da c head) (apps_of second head.code head.class) ++ option_to_list o)
        (one_unnamed (apps_of first head.code head.class) (apps_of second head.code head.class) found other least least_other)
        ∙ sym is_other

-- ---- the keys that a wildcard lets in

pub one_list_of_others : (da db : Dictionary) (who : Sends) (lengths : List ℕ) (keys others : List Key) → AreExactlyOthers da db who lengths keys → AreExactlyOthers da db who lengths others
    → keys ≡ others
one_list_of_others da db Any lengths keys others (s, is, are) (t, is_other, are_other) = are ∙ ap (λ (k : Key). k ∷ []) (one_stranger da db s t is is_other) ∙ sym are_other
one_list_of_others da db Known lengths keys others (up, all, stable) (up_other, all_other, stable_other) =
    one_sorted (listed_length da Known lengths) (entry_keys da) keys others up up_other stable stable_other
one_list_of_others da db Filled lengths keys others (up, all, stable) (up_other, all_other, stable_other) =
    one_sorted (listed_length da Filled lengths) (entry_keys da) keys others up up_other stable stable_other
one_list_of_others da db Listed lengths keys others are are_other = are ∙ sym are_other
