-- The status that the process ends with.
use Rattle.std.specs.Prelude.{ℕ}
use Rattle.dia_io.specs.declared.command.Exit.{Exit}
use Rattle.dia_io.specs.declared.command.Exit.TheVariants.{Yes, No, Bad}

abbrev pub status_of : Exit → ℕ
status_of Yes = 0
status_of No = 1
status_of Bad = 2
