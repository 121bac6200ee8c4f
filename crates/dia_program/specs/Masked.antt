-- What is written of the messages that `mask` replaces, and how it ends.
use Rattle.std.specs.Prelude.{◌≢◌, ℕ, List, Option, Result, string_bytes}
use Rattle.std.specs.Io.KnownBytes.{IsAtEnd}
use Rattle.dia_io.specs.declared.Exit.{Exit}
use Rattle.dia_io.specs.declared.Exit.TheVariants.{Bad}
use Rattle.dia_io.specs.declared.Inputs.{Inputs}
use Rattle.dia_report.specs.declared.reporting.Reported.{Reported}
use Rattle.dia_cli.specs.Ending.{Stream}
use Rattle.dia_cli.specs.declared.ending.Ending.{Ending}
use Rattle.dia_cli.specs.declared.task.Masking.{Masking}
use Rattle.dia_mask_text.specs.Names.{Lists}
use Rattle.dia_mask_text.specs.Runs.{IsMaskBegun, IsMaskOfAll, IsMaskPut}
use Rattle.dia_program.specs.Captures.{Ends, Fed}
use Rattle.dia_program.specs.Lints.{list_of}

-- the lists of AVPs that the options name
abbrev pub lists_of : Masking → Lists
lists_of asked = record {
  keep = list_of (string_bytes asked.keep);
  mask = list_of (string_bytes asked.mask);
  only = list_of (string_bytes asked.only);
}

-- the line of each message was put, and they were read to the end unless an input or a name is refused
pub record IsMaskedPut (asked : Masking) (inputs : Inputs) (feed : Fed) (out : Stream) (exit : Exit) : Type 0 where
  pub masked : IsMaskPut (lists_of asked) inputs.first feed.old feed.new out.old out.new exit
  pub whole : IsMaskOfAll (lists_of asked) inputs.first feed.old out.old out.new exit
  pub to_the_end : exit ≢ Bad → IsAtEnd feed.new

-- a prefix of it was put
abbrev pub IsMaskedBegun : Masking → Inputs → Fed → Stream → Type 0
IsMaskedBegun asked inputs feed out = IsMaskBegun (lists_of asked) inputs.first feed.old feed.new out.old out.new

-- `mask`
abbrev pub Masks : Masking → Inputs → Option (List ℕ) → List ℕ → Stream → Result Reported Ending → Type 0
Masks asked inputs known word out ended = Ends (IsMaskedPut asked inputs) (IsMaskedBegun asked inputs) known word out ended
