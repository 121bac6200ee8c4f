-- What is retained for the entries of a dictionary.
use Rattle.std.specs.Prelude.{◌≡◌, ℕ, List, Option, Some, slice_get, option_and_then, MatchOption}
use Rattle.dia_breaking_data.specs.declared.short_data.Witness.{Witness}
use Rattle.dia_breaking_data.specs.Shortest.{AreBytes, IsShortestLeaf, witness_bytes}
use Rattle.dia_data.specs.Leaf.{IsLeaf}
use Rattle.dia_book.specs.Dictionary.{Dictionary, DictEntry}

-- what is retained for an entry, if anything
abbrev pub kept_at : {X : Type 0} → List (Option X) → ℕ → Option X
kept_at kept e = option_and_then (λ x. x) (slice_get kept e)

-- shortest data of the entry as a leaf, or none where it has none
abbrev pub AreDataOf : DictEntry → Option Witness → Type 0
AreDataOf entry found = MatchOption found ((bytes : List ℕ) → AreBytes bytes → ¬ IsLeaf entry.format bytes) (λ witness. IsShortestLeaf entry.format (witness_bytes witness))

-- for each entry
abbrev pub AreData : Dictionary → List (Option Witness) → Type 0
AreData d found = (e : ℕ) (entry : DictEntry) → slice_get d.entries e ≡ Some entry → AreDataOf entry (kept_at found e)
