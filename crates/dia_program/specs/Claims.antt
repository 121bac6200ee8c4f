-- What the end of a request says of its inputs.
use Rattle.std.specs.Prelude.{◌≡◌, ◌↔◌, ℕ, List, ⊤}
use Rattle.dia_io.specs.declared.Exit.{Exit}
use Rattle.dia_io.specs.declared.Exit.TheVariants.{Yes, No, Bad}
use Rattle.dia_io.specs.declared.Inputs.{Inputs}
use Rattle.dia_run.specs.Inclusion.{ShowsInclusion}
use Rattle.dia_upgrades.specs.declared.asked.Asked.{Asked}
use Rattle.dia_upgrades.specs.Outcome.{AreRefused, IsSafeUpgrade, IsUnsafeUpgrade}
use Rattle.dia_cli.specs.declared.task.Task.{Task}
use Rattle.dia_cli.specs.declared.task.Task.TheVariants as task
use Rattle.dia_program.specs.Breaking.{AsksFor}

-- of an upgrade: a yes that nothing breaks, or nothing but what the list accepts; a no that some lines are left; and 2 that an
-- input is refused
pub record SaysOfUpgrade (asked : Asked) (inputs : Inputs) (exit : Exit) : Type 0 where
  pub yes : exit ≡ Yes → (words : List ℕ) × IsSafeUpgrade asked inputs words
  pub no : exit ≡ No → (words : List ℕ) × IsUnsafeUpgrade asked inputs words
  pub bad : (exit ≡ Bad) ↔ AreRefused asked inputs

-- of `compare`, that a yes shows inclusion
abbrev pub Says : Task → Inputs → Exit → Type 0
Says (task.Whole command) inputs exit = ShowsInclusion command inputs exit
Says (task.Breaking breaking) inputs exit = (asked : Asked) × AsksFor breaking asked × SaysOfUpgrade asked inputs exit
Says other inputs exit = ⊤
