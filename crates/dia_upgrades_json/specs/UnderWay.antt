-- What a call answers, and what it has written.
use Rattle.std.specs.Prelude.{◌≡◌, ℕ, List, Option, Result, Ok, Err}
use Rattle.std.specs.Io.KnownBytes.{Appends}
use Rattle.dia_book.specs.Dictionary.{Dictionary}
use Rattle.dia_dict.specs.declared.IndexedBook.{IndexedBook}
use Rattle.dia_io.specs.declared.Exit.TheVariants.{Bad}
use Rattle.dia_io.specs.declared.Input.{Input}
use Rattle.dia_io.specs.declared.Inputs.{Inputs}
use Rattle.dia_io.specs.declared.RunFault.{RunFault}
use Rattle.dia_io.specs.declared.RunFault.TheVariants.{Device, NoMemory}
use Rattle.dia_io.specs.Writing.{AppendsFront}
use Rattle.dia_refused_json.specs.Recording.{RecordsBad}
use Rattle.dia_report.specs.declared.bad_input.BadInput.{BadInput}
use Rattle.dia_report.specs.declared.refusing.Refused.{Refused}
use Rattle.dia_report.specs.declared.refusing.Refused.TheVariants as refused
use Rattle.dia_upgrades.specs.declared.asked.Asked.{Asked}
use Rattle.dia_upgrades.specs.declared.reporting.BreakingAnswer.{BreakingAnswer}
use Rattle.dia_upgrades.specs.declared.reporting.Report.TheVariants as report
use Rattle.dia_upgrades_json.specs.Begun.{IsJsonBegun, IsJsonBegunOrWhole}
use Rattle.dia_upgrades_json.specs.Outcome.{IsBreakingJson, IsJsonReport}

-- the object of an input that is refused is written; or why not
abbrev pub Refuses : Input → BadInput → Option (List ℕ) → Option (List ℕ) → Result BreakingAnswer RunFault → Type 0
Refuses input bad old new (Ok reported) = (reported.report ≡ report.Refused bad) × (text : List ℕ) × RecordsBad input (refused.Bad bad) text reported.exit × Appends old new text
Refuses input bad old new (Err Device) = (text : List ℕ) × RecordsBad input (refused.Bad bad) text Bad × AppendsFront old new text
Refuses input bad old new (Err NoMemory) = new ≡ old

-- the same for a dictionary that can't be read. Where memory was refused, nothing is written
abbrev pub RefusesFor : Input → Refused → Option (List ℕ) → Option (List ℕ) → Result BreakingAnswer RunFault → Type 0
RefusesFor input (refused.Bad bad) old new r = Refuses input bad old new r
RefusesFor input refused.NoMemory old new r = (r ≡ Err NoMemory) × (new ≡ old)

-- a call over the inputs
abbrev pub Reports : (IndexedBook → Dictionary) → Asked → Inputs → Option (List ℕ) → Option (List ℕ) → Result BreakingAnswer RunFault → Type 0
Reports meaning asked inputs old new (Ok reported) =
    (text : List ℕ) × IsBreakingJson asked inputs text reported.exit × IsJsonReport meaning asked inputs reported.report text reported.exit × Appends old new text
Reports meaning asked inputs old new (Err Device) = (text : List ℕ) × IsJsonBegunOrWhole asked inputs text × AppendsFront old new text
Reports meaning asked inputs old new (Err NoMemory) = (text : List ℕ) × IsJsonBegun asked inputs text × Appends old new text
