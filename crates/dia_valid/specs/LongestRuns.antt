-- The longest runs of the fixed rules of a level, and how often each rule is met by the keys of the level (RFC 6733 section 3.2).
use Rattle.std.specs.Prelude.{◌≡◌, ℕ, zero, suc, ◌<◌, List, [], ◌∷◌, length, take, drop, sum, slice_index, if◌then◌else◌}
use Rattle.std.specs.List.{prefix_len}
use Rattle.dia_wire.specs.declared.Key.{Key}
use Rattle.dia_book.specs.declared.DRule.{DRule}
use Rattle.dia_book.specs.Dictionary.{is_fixed, lists_key}
use Rattle.dia_valid.specs.Valid.{fixed_rules, counted}

-- each rule's run is the longest one of its key that begins where the run before it ends
abbrev pub runs : List DRule → List Key → List ℕ
runs [] keys = []
runs (rule ∷ rules) keys = let n = prefix_len (λ key. lists_key key rule) keys in n ∷ runs rules (drop n keys)

-- where the run of rule i ends, and where the loose part begins
abbrev pub run_end : List DRule → ℕ → List Key → ℕ
run_end rules i keys = sum (take (suc i) (runs (fixed_rules rules) keys))

abbrev pub loose_start : List DRule → List Key → ℕ
loose_start rules keys = sum (runs (fixed_rules rules) keys)

-- how often the rule at a place of the definition is met: by its run, or in the loose part
abbrev pub met : List DRule → List Key → ℕ → DRule → ℕ
met rules keys i rule = if is_fixed rule then slice_index (runs (fixed_rules rules) keys) i else counted rules rule (drop (loose_start rules keys) keys)

-- the keys end in the run of fixed rule m, where only a key enters a rule after the first; or they end after all the runs
abbrev pub IsAt : List DRule → ℕ → List Key → Type 0
IsAt [] m keys = m ≡ 0
IsAt (r ∷ rules) zero keys = prefix_len (λ key. lists_key key r) keys ≡ length keys
IsAt (r ∷ rules) (suc m) keys =
    let n = prefix_len (λ key. lists_key key r) keys in (n < length keys) × IsAt rules m (drop n keys)
