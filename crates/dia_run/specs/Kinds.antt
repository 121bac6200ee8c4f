-- Which reports a command has. They have its options, where they have any.
use Rattle.std.specs.Prelude.{◌≡◌, ◌≢◌, Err, ⊤}
use Rattle.dia_check.specs.declared.Unknown.{Unknown}
use Rattle.dia_check.specs.declared.Levels.{Levels}
use Rattle.dia_check.specs.declared.Refusal.TheVariants.{NoMemory}
use Rattle.dia_io.specs.declared.Command.{Command}
use Rattle.dia_io.specs.declared.Command.TheVariants.{Show, Render, Check, Compare, Refute, Propose}
use Rattle.dia_report.specs.declared.reporting.Answered.{Answered}
use Rattle.dia_report.specs.declared.reporting.Report.{Report}
use Rattle.dia_report.specs.declared.reporting.Report.TheVariants.{Done, Refused, NoCommand, Shown, Cut, Invalid, Unrefuting, Compared}

-- what was shown to its end, or cut
abbrev pub IsOfShow : Report → Type 0
IsOfShow (Refused bad) = ⊤
IsOfShow (Shown message) = ⊤
IsOfShow (Cut listing) = ⊤
IsOfShow report = ⊥

abbrev pub IsOfRender : Report → Type 0
IsOfRender (Refused bad) = ⊤
IsOfRender Done = ⊤
IsOfRender report = ⊥

abbrev pub IsOfCheck : Unknown → Levels → Report → Type 0
IsOfCheck u most (Refused bad) = ⊤
IsOfCheck u most Done = ⊤
IsOfCheck u most (Invalid found) = (found.unknown ≡ u) × (found.levels ≡ most)
IsOfCheck u most report = ⊥

abbrev pub IsOfCompare : Unknown → Report → Type 0
IsOfCompare u (Refused bad) = ⊤
IsOfCompare u (Compared found) = found.unknown ≡ u
IsOfCompare u report = ⊥

-- neither check was refused memory
abbrev pub IsOfRefute : Unknown → Levels → Report → Type 0
IsOfRefute u most (Refused bad) = ⊤
IsOfRefute u most Done = ⊤
IsOfRefute u most (Unrefuting found) = (found.unknown ≡ u) × (found.levels ≡ most)
    × (found.under_first ≢ Err NoMemory) × (found.under_second ≢ Err NoMemory)
IsOfRefute u most report = ⊥

abbrev pub IsOfPropose : Report → Type 0
IsOfPropose (Refused bad) = ⊤
IsOfPropose Done = ⊤
IsOfPropose (NoCommand both) = ⊤
IsOfPropose report = ⊥

-- the report is one of the command
abbrev pub IsReportOf : Command → Report → Type 0
IsReportOf Show report = IsOfShow report
IsReportOf Render report = IsOfRender report
IsReportOf (Check u most) report = IsOfCheck u most report
IsReportOf (Compare u) report = IsOfCompare u report
IsReportOf (Refute u most) report = IsOfRefute u most report
IsReportOf (Propose u names) report = IsOfPropose report

-- the report of what was answered is such a one
abbrev pub Reports : (Report → Type 0) → Answered → Type 0
Reports P answered = P answered.report
