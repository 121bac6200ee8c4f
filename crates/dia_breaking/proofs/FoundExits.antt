-- Where the rules of a definition lead, as it is found.
use Rattle.std.proofs.Common.{◌≡◌, ℕ, ◌+◌, ◌-◌, ◌≤◌, List, [], ◌∷◌, ◌++◌, length, map, take, Option, Some, None, sym, ap, subst, ◌∙◌}
use Rattle.std.specs.Prelude.{All, is_some, option_to_list, slice_get}
use Rattle.std.specs.List.{filter_map}
use Rattle.std.proofs.lemmas.List.{map-append, take_all}
use Rattle.std.proofs.lemmas.List.Elements.{All-push}
use Rattle.dia_wire.specs.declared.Key.{Key}
use Rattle.dia_book.specs.Dictionary.{Dictionary}
use Rattle.dia_breaking_avps.specs.Sent.{group_of}
use Rattle.dia_breaking_shortest.specs.Floors.{shortest_head}
use Rattle.dia_book.specs.declared.DRule.{DRule}
use Rattle.dia_valid.specs.Rules.{rules_in}
use Rattle.dia_breaking.specs.declared.exits.Inner.{Inner}
use Rattle.dia_breaking.specs.declared.exits.Outlook.{Outlook}
use Rattle.dia_breaking.specs.declared.keys.Own.{Own}
use Rattle.dia_breaking.specs.declared.keys.Recording.{Recording}
use Rattle.dia_breaking.specs.Exits.{AreExits, AreOutlooks, IsInner, IsOutlook}
use Rattle.dia_breaking.specs.Outlooks.{group_rules}
use Rattle.dia_breaking.specs.Taken.{AreGroups}
use Rattle.dia_breaking.specs.Lengths.{Costs}
use Rattle.dia_breaking.proofs.Lists.{added, one_more}

one_option : {X Y : Type 0} (f : X → Option Y) (x : X) (o : Option Y) → f x ≡ o → option_to_list o ≡ filter_map f (x ∷ [])
one_option f x None is = sym (ap (λ (o : Option _). filter_map (λ _. o) (x ∷ [])) is)
one_option f x (Some y) is = sym (ap (λ (o : Option _). filter_map (λ _. o) (x ∷ [])) is)

-- one rule more
pub one_exit_more : {X Y : Type 0} (f : X → Option Y) (xs : List X) (i : ℕ) (x : X) (exit : Option Y) (old new : List Y) → new ≡ old ++ option_to_list exit → exit ≡ f x
    → old ≡ filter_map f (take i xs)
    → slice_get xs i ≡ Some x → new ≡ filter_map f (take (i + 1) xs)
one_exit_more {X} {Y} f xs i x exit old new is from before at = added f xs i x old new (is ∙ ap (λ (ys : List Y). old ++ ys) (one_option f x exit (sym from))) before at

-- ---- groups

pub groups_of : (da db : Dictionary) (key : Key) (first second : Option ℕ) (a b : ℕ) → first ≡ Some a → second ≡ Some b → is_some first ≡ is_some (group_of da key)
    → is_some second ≡ is_some (group_of db key)
    → AreGroups da db key
groups_of da db key first second a b is_a is_b some_a some_b = (sym some_a ∙ ap (λ (o : Option ℕ). is_some o) is_a, sym some_b ∙ ap (λ (o : Option ℕ). is_some o) is_b)

pub inner_found : (da : Dictionary) (recording : Recording) (k : Costs) (key : Key) (def : ℕ) (inner : Inner) → rules_in da def ≡ group_rules da key
    → inner.least ≡ k.listed key - shortest_head key
    → AreExits recording k (rules_in da def) inner.exits → IsInner da recording k key inner
inner_found da recording k key def inner are least exits = record {
  least = least;
  exits = subst (λ (rules : List DRule). AreExits recording k rules inner.exits) are exits;
}

-- ---- one outlook more

-- the outlooks of the first of what is recorded
abbrev pub AreFirstOutlooks : Dictionary → Dictionary → Recording → Costs → ℕ → List Outlook → Type 0
AreFirstOutlooks da db recording k i outlooks =
    (map (λ (o : Outlook). o.key) outlooks ≡ map (λ (own : Own). own.key) (take i recording.own.items)) × All (IsOutlook da db recording k) outlooks

module _ (da db : Dictionary) (recording : Recording) (k : Costs) (i : ℕ) where
  pub one_outlook_more : (own : Own) (outlook : Outlook) (old new : List Outlook) → new ≡ old ++ outlook ∷ [] → slice_get recording.own.items i ≡ Some own → outlook.key ≡ own.key
      → AreFirstOutlooks da db recording k i old → IsOutlook da db recording k outlook → AreFirstOutlooks da db recording k (i + 1) new
  one_outlook_more own outlook old new is at same (keys, each) found = (
    ap (map (λ (o : Outlook). o.key)) is ∙ map-append (λ (o : Outlook). o.key) old (outlook ∷ []) ∙ ap (λ (ks : List Key). ks ++ outlook.key ∷ []) keys
        ∙ ap (λ (q : Key). map (λ (own : Own). own.key) (take i recording.own.items) ++ q ∷ []) same
        ∙ sym (ap (map (λ (own : Own). own.key)) (one_more recording.own.items i own at) ∙ map-append (λ (own : Own). own.key) (take i recording.own.items) (own ∷ [])),
    subst (All (IsOutlook da db recording k)) (sym is) (All-push (IsOutlook da db recording k) old outlook each found),
  )

  pub all_outlooks : (outlooks : List Outlook) → length recording.own.items ≤ i → AreFirstOutlooks da db recording k i outlooks → AreOutlooks da db recording k outlooks
  all_outlooks outlooks past (keys, each) = (keys ∙ ap (map (λ (own : Own). own.key)) (take_all i recording.own.items past), each)
