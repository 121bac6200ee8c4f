-- The AVPs that a wildcard's least count is met with.
use Rattle.std.proofs.Common.{◌≡◌, ℕ, ◌<◌, ◌≤◌, Bool, true, false, List, [], ◌∷◌, Option, Some, None, refl, sym, ap, subst, ◌∙◌, arith, inl, inr}
use Rattle.std.specs.Prelude.{◌⊎◌, not, find, map, if◌then◌else◌}
use Rattle.std.specs.Option.{option_map_or}
use Rattle.std.proofs.lemmas.List.Sorted.{Contains-permutation}
use Rattle.std.proofs.lemmas.Option.{none-some, same_Some}
use Rattle.dia_wire.specs.declared.Key.{Key}
use Rattle.dia_book.specs.declared.DRule.{DRule}
use Rattle.dia_book.specs.Dictionary.{Dictionary, entry_of}
use Rattle.dia_valid.specs.Valid.{is_listed}
use Rattle.dia_terms.specs.declared.Sends.{Sends}
use Rattle.dia_terms.specs.declared.Sends.TheVariants.{Any, Known, Filled, Listed}
use Rattle.dia_valid.proofs.Members.{IsIn, all_of, contains_in, in_at, in_contains}
use Rattle.dia_breaking_levels.specs.LevelTests.{too_long, capped}
use Rattle.dia_breaking_shortest.specs.declared.order.Ranked.{Ranked}
use Rattle.dia_breaking_shortest.specs.Exact.{IsFillerLength}
use Rattle.dia_breaking_shortest.specs.Floors.{shortest_head}
use Rattle.dia_breaking_shortest.specs.Least.{IsFirstUnknown}
use Rattle.dia_breaking_shortest.specs.Lengths.{IsOrder, entry_length, filler_of, is_unlisted, length_of, rank}
use Rattle.dia_breaking_shortest.proofs.ExactLengths.{own_lengths}
use Rattle.dia_breaking_shortest.proofs.FloorsOfLengths.{entry_at, found_is_least, in_map}

find_in : (p : Ranked → Bool) (xs : List Ranked) (r : Ranked) → find p xs ≡ Some r → IsIn r xs × (p r ≡ true)
find_in p [] r e = absurd (none-some r e)
find_in p (x ∷ xs) r e = by (p x) refl e (find_in p xs r)
  where
    by : (b : Bool) → p x ≡ b → (if b then Some x else find p xs) ≡ Some r → (find p xs ≡ Some r → IsIn r xs × (p r ≡ true)) → IsIn r (x ∷ xs) × (p r ≡ true)
    by true t is ih = (inl (sym (same_Some x r is)), subst (λ (q : Ranked). p q ≡ true) (same_Some x r is) t)
    by false t is ih = let i = ih is in (inr i.0, i.1)

module _ (d : Dictionary) (lengths : List ℕ) (unknown : Key) (first : IsFirstUnknown d unknown) (order : List Ranked) (rules : List DRule) (a : ℕ) (short : a < too_long) where
  abbrev pub IsMet : Sends → Type 0
  IsMet who = (r : Ranked) × (filler_of who unknown order rules ≡ Some r) × (length_of d who lengths r.key ≡ a)

  -- an entry of this length is in the order
  ranked : IsOrder (length_of d Known lengths) d.entries order → (key : Key) → length_of d Known lengths key < too_long → (r : Ranked) × IsIn r order × (r.key ≡ key) × (r.length ≡ length_of d Known lengths key)
  ranked are key low = by (entry_of d key) refl low
    where
      f : Key → ℕ
      f = length_of d Known lengths

      by : (o : Option ℕ) → entry_of d key ≡ o → option_map_or (entry_length lengths) o too_long < too_long → (r : Ranked) × IsIn r order × (r.key ≡ key) × (r.length ≡ length_of d Known lengths key)
      by None e lt = absurd (omega (arith, lt))
      by (Some i) e lt =
          let h = entry_at d key i e in
          let own : Ranked = rank (length_of d Known lengths) h.entry in
          let all = map (rank (length_of d Known lengths)) d.entries in
          let there = in_contains order own (Contains-permutation all order own are.all (contains_in all own (in_map (rank (length_of d Known lengths)) d.entries h.entry (in_at d.entries h.place h.entry h.at)))) in
          (own, there, h.own, ap (length_of d Known lengths) h.own)

  pub met : (who : Sends) → IsOrder (length_of d who lengths) d.entries order → IsFillerLength d who lengths rules a → IsMet who
  met Any are is =
      let none = ap (λ (o : Option ℕ). option_map_or (entry_length lengths) o (shortest_head unknown)) first.unknown in
      let head = ap (λ (n : ℕ). shortest_head (record { code = unknown.code; vendor = n })) first.vendor in
      (record { key = unknown; length = shortest_head unknown }, refl, none ∙ head ∙ sym is)
  met Known are is = by (find (is_unlisted rules) order) refl is.one_is_as_short
    where
      least : (key : Key) → is_listed rules key ≡ false → a ≡ length_of d Known lengths key → (o : Option Ranked) → find (is_unlisted rules) order ≡ o → IsMet Known
      least key free same o e =
          let (r, there, own, size) = ranked are key (omega (arith, same, short)) in
          let unlisted : is_unlisted rules r ≡ true = ap (λ (k : Key). not (is_listed rules k)) own ∙ ap not free in
          let low = found_is_least (is_unlisted rules) order r are.sorted there unlisted in
          of o e (omega (arith, low, size, same))
        where
          of : (o : Option Ranked) → find (is_unlisted rules) order ≡ o → option_map_or (λ (q : Ranked). capped q.length) (find (is_unlisted rules) order) too_long ≤ a → IsMet Known
          of None e low = absurd (let high = ap (λ (o : Option Ranked). option_map_or (λ (q : Ranked). capped q.length) o too_long) e in omega (arith, low, high, short))
          of (Some r) e low =
              let here = find_in (is_unlisted rules) order r e in
              let size : r.length ≡ length_of d Known lengths r.key = own_length r here.0 in
              let high = ap (λ (o : Option Ranked). option_map_or (λ (q : Ranked). capped q.length) o too_long) e in
              let floor : a ≤ length_of d Known lengths r.key = is.none_is_shorter r.key (not_false (is_listed rules r.key) here.1) in
              (r, e, omega (arith, size, high, low, floor, short))
            where
              not_false : (b : Bool) → not b ≡ true → b ≡ false
              not_false true bad = absurd (let e : false ≡ true = bad in cc)
              not_false false ok = refl

              own_length : (r : Ranked) → IsIn r order → r.length ≡ length_of d Known lengths r.key
              own_length r i = all_of (λ (q : Ranked). q.length ≡ length_of d Known lengths q.key) order r (own_lengths (length_of d Known lengths) d.entries order are) i

      by : (o : Option Ranked) → find (is_unlisted rules) order ≡ o → (a ≡ too_long) ⊎ ((key : Key) × (is_listed rules key ≡ false) × (a ≡ length_of d Known lengths key)) → IsMet Known
      by o e (inl none) = absurd (omega (arith, none, short))
      by o e (inr (key, free, same)) = least key free same o e
  met Filled are is = absurd (let none : a ≡ too_long = is in omega (arith, none, short))
  met Listed are is = absurd (let none : a ≡ too_long = is in omega (arith, none, short))
