-- The least lengths, recorded as the entries' lengths, are floors.
use Rattle.std.proofs.Common.{◌≡◌, ℕ, List, subst}
use Rattle.dia_book.specs.Dictionary.{Dictionary}
use Rattle.dia_terms.specs.declared.Sends.{Sends}
use Rattle.dia_breaking_shortest.specs.declared.lookup.Least.{Least}
use Rattle.dia_breaking_shortest.specs.Floors.{AreFloors}
use Rattle.dia_breaking_shortest.specs.Lengths.{length_of}
use Rattle.dia_breaking_shortest.specs.Passes.{length_in}
use Rattle.dia_breaking.specs.Lengths.{listed_length, AreSameLengths}
use Rattle.dia_breaking.proofs.FloorsOfEntries.{floors_of_entries}

pub floors_kept : (d : Dictionary) (who : Sends) (least : Least) (entries : List ℕ) → least.sends ≡ who → AreFloors d who (length_in d least) → AreSameLengths d least.lengths.items entries
    → AreFloors d who (listed_length d who entries)
floors_kept d who least entries is floors same =
    floors_of_entries d who least.lengths.items entries same (subst (λ (s : Sends). AreFloors d who (length_of d s least.lengths.items)) is floors)
