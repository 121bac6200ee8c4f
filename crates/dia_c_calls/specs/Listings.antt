-- The lines of a message.
use Rattle.std.specs.Prelude.{◌≡◌, ◌≢◌, ℕ, List}
use Rattle.dia_book.specs.Dictionary.{Dictionary}
use Rattle.dia_io.specs.declared.Exit.{Exit}
use Rattle.dia_io.specs.declared.Exit.TheVariants.{Bad}
use Rattle.dia_run.specs.Outcome.{IsMessageShown}
use Rattle.dia_c_calls.specs.Comparisons.{holds_of}

-- what `diacmd show` writes of a message, and whether these are all its lines: a bad AVP length ends them
abbrev pub HasShown : Dictionary → List ℕ → List ℕ → ℕ → Type 0
HasShown d bytes text whole = (exit : Exit) × IsMessageShown d bytes text exit × (exit ≢ Bad) × (whole ≡ holds_of exit)
