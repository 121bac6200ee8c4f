-- Which entries of the list of accepted lines are stale, and what is done about them.
use Rattle.std.specs.Prelude.{◌≡◌, ◌⊎◌, false, List, [], ◌++◌, filter}
use Rattle.dia_accepted.specs.Accepted.{PlainEntry, is_about}
use Rattle.dia_book.specs.Dictionary.{Dictionary}
use Rattle.dia_breaking.specs.Sides.{sides}
use Rattle.dia_terms.specs.declared.Sends.{Sends}
use Rattle.dia_terms.specs.declared.Sends.TheVariants as sent
use Rattle.dia_terms.specs.declared.Unknown.{Unknown}
use Rattle.dia_terms.specs.declared.Unknown.TheVariants as unknowns
use Rattle.dia_upgrades.specs.declared.asked.Asked.{Asked}
use Rattle.dia_upgrades.specs.declared.asked.Stale.{Stale}
use Rattle.dia_upgrades.specs.declared.asked.Stale.TheVariants.{Fails, Allowed, Ignored}
use Rattle.dia_upgrades.specs.Asking.{names_of}
use Rattle.dia_upgrades.specs.Places.{asked_places}
use Rattle.dia_upgrades.specs.Recorded.{AreRecorded}
use Rattle.dia_upgrades.specs.Rows.{Row, unused_of}

-- ---- which they are

-- what is reported of the commands that are asked for, with these policies
abbrev pub AreRecordedWith : Asked → Dictionary → Dictionary → Sends → Unknown → List Row → List Row → Type 0
AreRecordedWith asked a b sends unknown recorded apart = AreRecorded (sides a b sends unknown) false asked.meaning (asked_places a (names_of asked)) recorded apart

-- of entries that accept no line of the answer, those that accept none with these policies, either. They are all, if these are the policies
-- that are asked for
abbrev pub AreUnusedWith : Asked → Dictionary → Dictionary → Sends → Unknown → List PlainEntry → List PlainEntry → Type 0
AreUnusedWith asked a b sends unknown list left =
    ((list ≡ []) × (left ≡ []))
    ⊎ (((sends ≡ asked.sends) × (unknown ≡ asked.unknown) × (left ≡ list))
    ⊎ ((recorded : List Row) × (apart : List Row) × AreRecordedWith asked a b sends unknown recorded apart × (left ≡ unused_of list (recorded ++ apart))))

-- with either `--unknown`
abbrev pub AreUnusedBy : Asked → Dictionary → Dictionary → Sends → List PlainEntry → List PlainEntry → Type 0
AreUnusedBy asked a b sends list left =
    (mid : List PlainEntry) × AreUnusedWith asked a b sends unknowns.Kept list mid × AreUnusedWith asked a b sends unknowns.Refused mid left

-- and any `--sends`
abbrev pub AreUnused : Asked → Dictionary → Dictionary → List PlainEntry → List PlainEntry → Type 0
AreUnused asked a b list left = (first : List PlainEntry) × (second : List PlainEntry) × AreUnusedBy asked a b sent.Any list first
    × AreUnusedBy asked a b sent.Known first second × AreUnusedBy asked a b sent.Listed second left

-- they are looked for, unless they are ignored
abbrev pub AreLookedFor : Stale → Asked → Dictionary → Dictionary → List PlainEntry → List PlainEntry → Type 0
AreLookedFor Fails asked a b list stale = AreUnused asked a b list stale
AreLookedFor Allowed asked a b list stale = AreUnused asked a b list stale
AreLookedFor Ignored asked a b list stale = stale ≡ []

-- an entry is stale if it is about a command that is asked for, and accepts none of these lines, which are reported, and no line that is reported with
-- any `--sends` and either `--unknown`
abbrev pub AreStale : Asked → Dictionary → Dictionary → List PlainEntry → List Row → List Row → List PlainEntry → Type 0
AreStale asked a b list recorded apart stale =
    AreLookedFor asked.stale asked a b (filter (is_about (names_of asked)) (unused_of list (recorded ++ apart))) stale

-- ---- what is done

-- those for which the answer is no
abbrev pub failing : Stale → List PlainEntry → List PlainEntry
failing Fails stale = stale
failing Allowed stale = []
failing Ignored stale = []
