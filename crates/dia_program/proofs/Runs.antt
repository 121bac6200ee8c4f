-- Runs whose text was made first.
use Rattle.std.proofs.Common.{◌≡◌, ℕ, List, subst, sym}
use Rattle.std.specs.Prelude.{Result, Ok, Err, IfOk, string_bytes}
use Rattle.std.specs.declared.alloc.AllocError.{AllocError}
use Rattle.dia_io.specs.declared.Exit.{Exit}
use Rattle.dia_report.specs.declared.reporting.Answered.{Answered}
use Rattle.dia_report.specs.declared.reporting.Reported.{Reported}
use Rattle.dia_cli.specs.Ending.{Stream}
use Rattle.dia_cli.specs.declared.ending.Ending.{Ending}
use Rattle.dia_cli.specs.declared.ending.Ending.TheVariants as ending
use Rattle.dia_driver.specs.Endings.{Puts, Runs}

-- what holds of each text that P has
pub runs_weaker : (P Q : List ℕ → Exit → Type 0) (out : Stream) (ended : Result Reported Ending) → ((text : List ℕ) (exit : Exit) → P text exit → Q text exit)
    → Runs P out ended → Runs Q out ended
runs_weaker P Q out (Ok reported) more (live, (text, is, put)) = (live, (text, more text reported.exit is, put))
runs_weaker P Q out (Err (ending.Device name error)) more (named, failed, (text, exit, is, put)) = (named, failed, (text, exit, more text exit is, put))
runs_weaker P Q out (Err ending.NoMemory) more ended = ended
runs_weaker P Q out (Err made) more ended = absurd ended

-- what was made is what P says
pub runs_of_put : (P : List ℕ → Exit → Type 0) (made : Result Answered AllocError) (out : Stream) (ended : Result Reported Ending)
    → IfOk made (λ answered. P (string_bytes answered.text) answered.exit) → Puts made out ended → Runs P out ended
runs_of_put P (Ok answered) out ended is put =
    runs_weaker (λ text exit. (text ≡ string_bytes answered.text) × (exit ≡ answered.exit)) P out ended
    (λ text exit same. subst (λ (t : List ℕ). P t exit) (sym same.0) (subst (P (string_bytes answered.text)) (sym same.1) is)) put
runs_of_put P (Err refused) out ended is put = subst (Runs P out) (sym put.0) (put.1, put.2)
