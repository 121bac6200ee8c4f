-- What a device answers where the system answers a read or a write.
use Rattle.std.specs.Prelude.{◌≡◌, ℕ, ◌<◌, Option, Some, Result, Ok, Err, IfErr, IsErr}
use Rattle.std.specs.declared.io.Error.{Error}
use Rattle.std.specs.declared.io.ErrorKind.TheVariants.{WriteZero}
use Rattle.std.specs.IoError.{error_kind}
use Rattle.dia_io.specs.declared.streams.Failed.{Failed}

-- a count as it is; each error is a failure, that of an interrupted call too
abbrev pub answer_of : Result ℕ Error → Result ℕ Failed
answer_of (Ok count) = Ok count
answer_of (Err error) = Err (record {})

-- the failure that is retained: the last one
abbrev pub failure_after : Option Error → Result ℕ Error → Option Error
failure_after kept (Ok count) = kept
failure_after kept (Err error) = Some error

-- to take nothing of a piece that isn't empty is an error too
pub record IsTaken (written : Result ℕ Error) (len : ℕ) (said : Result ℕ Error) : Type 0 where
  pub nothing : written ≡ Ok 0 → 0 < len → IsErr said
  pub write_zero : written ≡ Ok 0 → 0 < len → IfErr said (λ e. error_kind e ≡ WriteZero)
  pub none : len ≡ 0 → said ≡ written
  pub some : ¬ (written ≡ Ok 0) → said ≡ written
