-- The words of one pattern, and their numbers: how many others came before (our profile).
use Rattle.std.specs.Prelude.{◌≡◌, ℕ, ◌+◌, ◌<◌, ◌⊎◌, List, Option, Some, None, bytes_eq}
use Rattle.std.specs.HashMap.{get_by, hash_map_len}
use Rattle.std.specs.Map.{update}
use Rattle.std.specs.Box.{boxed_slice_items}
use Rattle.dia_mask.specs.declared.words.Numbered.{Numbered}

-- the number of a word that came
abbrev pub number_in : Numbered → List ℕ → Option ℕ
number_in numbered word = get_by (λ k. bytes_eq word (boxed_slice_items k)) numbered.numbers

-- how many words came
abbrev pub count_of : Numbered → ℕ
count_of numbered = hash_map_len numbered.numbers

-- a word comes that came before
abbrev pub IsKnown : Numbered → List ℕ → ℕ → Numbered → Type 0
IsKnown old word n new = (number_in old word ≡ Some n) × (new ≡ old)

-- a word comes that is new: as many came before it
pub record IsNew (old : Numbered) (word : List ℕ) (n : ℕ) (new : Numbered) : Type 0 where
  pub unknown : number_in old word ≡ None
  pub next : n ≡ count_of old
  pub more : count_of new ≡ count_of old + 1
  pub numbers : (w : List ℕ) → number_in new w ≡ update bytes_eq (number_in old) word (Some n) w

abbrev pub IsNumber : Numbered → List ℕ → ℕ → Numbered → Type 0
IsNumber old word n new = IsKnown old word n new ⊎ IsNew old word n new

-- each word has a number of its own, below how many came
pub record AreNumbers (numbered : Numbered) : Type 0 where
  pub below : (w : List ℕ) (n : ℕ) → number_in numbered w ≡ Some n → n < count_of numbered
  pub apart : (v w : List ℕ) (n : ℕ) → number_in numbered v ≡ Some n → number_in numbered w ≡ Some n → v ≡ w

-- no word came
pub record IsFresh (numbered : Numbered) : Type 0 where
  pub none : (w : List ℕ) → number_in numbered w ≡ None
  pub empty : count_of numbered ≡ 0
