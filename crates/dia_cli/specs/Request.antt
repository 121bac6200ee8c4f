-- A request whose inputs are read once.
use Rattle.std.specs.Prelude.{if◌then◌else◌, Result, Ok, Err}
use Rattle.dia_cli.specs.declared.request.Request.{Request}
use Rattle.dia_cli.specs.declared.ending.Ending.{Ending}
use Rattle.dia_cli.specs.declared.ending.Ending.TheVariants.{ReadTwice}
use Rattle.dia_cli.specs.Origins.{reads_twice}

-- the request itself, unless it reads standard input twice
abbrev pub read_once : Request → Result Request Ending
read_once request = if reads_twice request.origins then Err ReadTwice else Ok request
