-- What a feed gives.
use Rattle.std.proofs.Common.{ℕ, List, refl}
use Rattle.std.specs.Prelude.{Option, None, Some}
use Rattle.dia_cli.specs.OpenedInputs.{Gives}

-- a feed that gives what is known
abbrev pub gives_itself : (known : Option (List ℕ)) → Gives known known
gives_itself None = tt
gives_itself (Some all) = refl
