-- `breaking` as the command line asks for it.
use Rattle.std.specs.Prelude.{IsTrue, ◌≡◌, ℕ, Bool, true, false, List, Result, Ok, Err, codes}
use Rattle.std.specs.Io.KnownBytes.{Appends}
use Rattle.dia_io.specs.Writing.{AppendsFront}
use Rattle.dia_io.specs.declared.Exit.{Exit}
use Rattle.dia_io.specs.declared.Inputs.{Inputs}
use Rattle.dia_report.specs.declared.reporting.Reported.{Reported}
use Rattle.dia_cli.specs.Ending.{Stream}
use Rattle.dia_cli.specs.declared.ending.Ending.{Ending}
use Rattle.dia_cli.specs.declared.ending.Ending.TheVariants as ending
use Rattle.dia_cli.specs.declared.task.Breaking.{Breaking}
use Rattle.dia_upgrades.specs.declared.asked.Asked.{Asked}
use Rattle.dia_upgrades.specs.declared.asked.Stale.{Stale}
use Rattle.dia_upgrades.specs.declared.asked.Stale.TheVariants.{Fails, Allowed}
use Rattle.dia_upgrades.specs.Outcome.{IsBreakingOutcome}
use Rattle.dia_upgrades.specs.Begun.{IsOutcomeBegun, IsOutcomeBegunOrWhole}
use Rattle.dia_upgrades_json.specs.Outcome.{IsBreakingJson}
use Rattle.dia_upgrades_json.specs.Begun.{IsJsonBegun, IsJsonBegunOrWhole}
use Rattle.dia_driver.specs.Endings.{Writes}

-- a stale entry of the list fails, unless that is allowed
abbrev pub stale_in : Bool → Stale
stale_in true = Allowed
stale_in false = Fails

-- the same is asked for
pub record AsksFor (breaking : Breaking) (asked : Asked) : Type 0 where
  pub sends : asked.sends ≡ breaking.sends
  pub unknown : asked.unknown ≡ breaking.unknown
  pub messages : asked.messages ≡ breaking.messages
  pub once : asked.once ≡ breaking.once
  pub meaning : asked.meaning ≡ breaking.meaning
  pub stale : asked.stale ≡ stale_in breaking.stale_allowed
  pub names : asked.names.now ≡ breaking.names.items

-- what is written, and how it ends: as JSON, if that is asked for
abbrev pub IsListed : Bool → Asked → Inputs → List ℕ → Exit → Type 0
IsListed true asked inputs text exit = IsBreakingJson asked inputs text exit
IsListed false asked inputs text exit = IsBreakingOutcome asked inputs text exit

-- a prefix of it: lines that were found
abbrev pub IsBegun : Bool → Asked → Inputs → List ℕ → Type 0
IsBegun true asked inputs text = IsJsonBegun asked inputs text
IsBegun false asked inputs text = IsOutcomeBegun asked inputs text

abbrev pub IsBegunOrWhole : Bool → Asked → Inputs → List ℕ → Type 0
IsBegunOrWhole true asked inputs text = IsJsonBegunOrWhole asked inputs text
IsBegunOrWhole false asked inputs text = IsOutcomeBegunOrWhole asked inputs text

-- where standard output failed, it has a prefix of that
abbrev pub IsPut : Bool → Asked → Inputs → Stream → Result Reported Ending → Type 0
IsPut json asked inputs out (Ok reported) = (¬ IsTrue out.failed) × Writes (IsListed json asked inputs) out reported.exit
IsPut json asked inputs out (Err (ending.Device name error)) = IsTrue out.failed × (name.now ≡ codes "standard output")
    × ((text : List ℕ) × IsBegunOrWhole json asked inputs text × AppendsFront out.old out.new text)
IsPut json asked inputs out (Err ending.NoMemory) = (¬ IsTrue out.failed) × ((text : List ℕ) × IsBegun json asked inputs text × Appends out.old out.new text)
IsPut json asked inputs out (Err made) = ⊥

-- of what the command line asks for
abbrev pub Breaks : Bool → Breaking → Inputs → Stream → Result Reported Ending → Type 0
Breaks json breaking inputs out ended = (asked : Asked) × AsksFor breaking asked × IsPut json asked inputs out ended
