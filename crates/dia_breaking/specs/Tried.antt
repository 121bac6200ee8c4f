-- Levels that B reads as leaves, and of which it isn't known whether B accepts all: the data of a shortest AVP are tried.
use Rattle.std.specs.Prelude.{◌≡◌, ◌⊎◌, ℕ, ◌<◌, ◌≤◌, List, drop, None, IfSome}
use Rattle.dia_wire.specs.declared.Key.{Key}
use Rattle.dia_data.specs.Leaf.{IsLeafAnswer}
use Rattle.dia_data.specs.declared.accept.Leaf.TheVariants.{Fine}
use Rattle.dia_book.specs.Dictionary.{Dictionary}
use Rattle.dia_breaking_shortest.specs.Floors.{shortest_head}
use Rattle.dia_breaking.specs.declared.line.Cause.{Cause}
use Rattle.dia_breaking.specs.declared.line.Cause.TheVariants as causes
use Rattle.dia_breaking.specs.Words.{format_in}

-- the most bytes of a shortest AVP whose data are tried
abbrev pub most_tried : ℕ
most_tried = 65536

-- what follows the head of a shortest AVP of the key, which has these bytes
abbrev pub data_of : Key → List ℕ → List ℕ
data_of key bytes = drop (shortest_head key) bytes

-- such an AVP, whose length is n, isn't too long to be tried, and its data are refused
abbrev pub IsRefusedBy : (List ℕ → Type 0) → Key → List ℕ → ℕ → Type 0
IsRefusedBy Takes key bytes n = (n ≤ most_tried) × (¬ Takes (data_of key bytes))

-- it is too long to be tried, or its data are accepted
abbrev pub IsLeftOpenBy : (List ℕ → Type 0) → Key → List ℕ → ℕ → Type 0
IsLeftOpenBy Takes key bytes n = (most_tried < n) ⊎ Takes (data_of key bytes)

-- what a line reports of such an AVP: that its data are refused; else that levels are read as leaves
abbrev pub IsRecordedOfTry : (List ℕ → Type 0) → Key → List ℕ → ℕ → Cause → Type 0
IsRecordedOfTry Takes key bytes n cause =
    ((cause ≡ causes.Format key None) × IsRefusedBy Takes key bytes n) ⊎ ((cause ≡ causes.LevelAsLeaf key) × IsLeftOpenBy Takes key bytes n)

-- the dictionary's format for AVPs of the key, if it has one, accepts these data, or is that of levels
abbrev pub TakesAsLeaf : Dictionary → Key → List ℕ → Type 0
TakesAsLeaf d key bytes = IfSome (format_in d key) (λ format. IsLeafAnswer Fine format bytes)
