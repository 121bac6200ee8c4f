-- Parts of a level that are added one after the other.
use Rattle.std.proofs.Common.{◌≡◌, ℕ, ◌+◌, ◌<◌, Bool, List, [], ◌∷◌, ◌++◌, filter, get_or, length, take, Option, Some, None, sym, ap, ◌∙◌, add-one, append_assoc}
use Rattle.std.specs.Prelude.{slice_get}
use Rattle.std.specs.Option.{option_map_or}
use Rattle.std.proofs.lemmas.List.{append-nil}
use Rattle.std.proofs.lemmas.List.Elements.{filter-append}
use Rattle.std.proofs.lemmas.Option.{slice_get-get_or}
use Rattle.dia_book.specs.declared.DRule.{DRule}
use Rattle.dia_valid.proofs.Members.{taken}
use Rattle.dia_breaking_levels.specs.declared.line.Part.{Part}
use Rattle.dia_breaking_levels.specs.Chosen.{PlainDemand, extra_at, kind_parts, parts_at, parts_below, parts_by}

pub four_parts : (old a b c d second third fourth last : List Part) → second ≡ old ++ a → third ≡ second ++ b → fourth ≡ third ++ c → last ≡ fourth ++ d → last ≡ old ++ (a ++ b ++ c ++ d)
four_parts old a b c d second third fourth last w x y z =
    z ∙ ap (λ (r : List Part). r ++ d)
    (y ∙ ap (λ (r : List Part). r ++ c) (x ∙ ap (λ (r : List Part). r ++ b) w ∙ append_assoc old a b) ∙ append_assoc old (a ++ b) c) ∙ append_assoc old (a ++ b ++ c) d

-- the parts by the rule at a place
pub at_none : (rules : List DRule) (demand : PlainDemand) (fixed : Bool) (i : ℕ) (old : List Part) → slice_get rules i ≡ None → old ≡ old ++ parts_at rules demand fixed i
at_none rules demand fixed i old none = sym (append-nil old) ∙ ap (λ (o : Option DRule). old ++ option_map_or (parts_by rules demand fixed (extra_at demand i)) o []) (sym none)

pub at_some : (rules : List DRule) (demand : PlainDemand) (fixed : Bool) (i : ℕ) (rule : DRule) (extra : ℕ) (old new : List Part) → slice_get rules i ≡ Some rule → extra ≡ extra_at demand i
    → new ≡ old ++ parts_by rules demand fixed extra rule → new ≡ old ++ parts_at rules demand fixed i
at_some rules demand fixed i rule extra old new some same is =
    is ∙ ap (λ (n : ℕ). old ++ parts_by rules demand fixed n rule) same
    ∙ ap (λ (o : Option DRule). old ++ option_map_or (parts_by rules demand fixed (extra_at demand i)) o []) (sym some)

-- the parts by one rule more
pub parts_more : (rules : List DRule) (demand : PlainDemand) (fixed : Bool) (n : ℕ) (old new : List Part) → old ≡ parts_below rules demand fixed n → new ≡ old ++ parts_at rules demand fixed n
    → new ≡ parts_below rules demand fixed (n + 1)
parts_more rules demand fixed n old new is more =
    more ∙ ap (λ (r : List Part). r ++ parts_at rules demand fixed n) is ∙ ap (parts_below rules demand fixed) (sym (add-one n))

pub parts_all : (rules : List DRule) (demand : PlainDemand) (fixed : Bool) (n : ℕ) (all : List Part) → n ≡ length rules → all ≡ parts_below rules demand fixed n → all ≡ kind_parts rules demand fixed
parts_all rules demand fixed n all end is = is ∙ ap (parts_below rules demand fixed) end

-- those of the parts up to one more
pub parts_put : (p : Part → Bool) (start old new parts : List Part) (i : ℕ) (d : Part) → i < length parts → old ≡ start ++ filter p (take i parts) → new ≡ old ++ filter p (get_or parts i d ∷ [])
    → new ≡ start ++ filter p (take (i + 1) parts)
parts_put p start old new parts i d within before is =
    is ∙ ap (λ (r : List Part). r ++ filter p (get_or parts i d ∷ [])) before ∙ append_assoc start (filter p (take i parts)) (filter p (get_or parts i d ∷ []))
    ∙ ap (λ (r : List Part). start ++ r) (sym (filter-append p (take i parts) (get_or parts i d ∷ [])))
    ∙ ap (λ (r : List Part). start ++ filter p r) (sym (taken parts i (get_or parts i d) (slice_get-get_or parts i d within)))
