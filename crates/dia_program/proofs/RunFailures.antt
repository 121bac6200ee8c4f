-- How the program ends where messages weren't answered to their end.
use Rattle.std.proofs.Common.{◌≡◌, ℕ, Bool, true, false, List, IsTrue, codes, arith, refl}
use Rattle.std.specs.Prelude.{Option, Result, Err, ◌↔◌, ◌⊎◌}
use Rattle.std.specs.Borrow.{Bor}
use Rattle.std.specs.declared.io.Error.{Error}
use Rattle.dia_streams.specs.declared.fault.LinesFault.{LinesFault}
use Rattle.dia_streams.specs.declared.fault.LinesFault.TheVariants as fault
use Rattle.dia_io.specs.declared.RunFault.{RunFault}
use Rattle.dia_io.specs.declared.RunFault.TheVariants as run
use Rattle.dia_io.specs.declared.Exit.{Exit}
use Rattle.dia_io.specs.Writing.{AppendsFront}
use Rattle.dia_cli.specs.Ending.{ending_of_run, stream}
use Rattle.dia_cli.specs.declared.ending.Ending.{Ending}
use Rattle.dia_cli.specs.declared.ending.Ending.TheVariants as ending
use Rattle.dia_program.specs.Captures.{IsEndingOf, IsFailure}
use Rattle.dia_driver.specs.Endings.{Breaks}

pub failure_of : {A : Type 0} (f : LinesFault) (word : List ℕ) (failed said : Bool) (P : Type 0) (made : Ending) (r : Result A LinesFault)
    → IsEndingOf f word said made → said ≡ failed → r ≡ Err f → ((r ≡ Err fault.Device) ↔ (P ⊎ IsTrue failed)) → IsFailure word failed made
failure_of fault.NoMemory word failed said P made r e same is iff = rw e (λ t. grind (arith, iff, is, t))
failure_of fault.Device word failed said P (ending.Device name error) r e same is iff = rw (← same) e
failure_of fault.Device word failed said P made r e same is iff = absurd e
failure_of fault.Endless word failed said P (ending.Device name error) r e same is iff = rw (← same) e
failure_of fault.Endless word failed said P made r e same is iff = absurd e

-- the same where a run over whole inputs wasn't answered
pub run_failure : {A : Type 0} (f : RunFault) (word : Bor (List ℕ)) (error : Option Error) (failed : Bool) (made : Ending) (r : Result A RunFault)
    → made ≡ ending_of_run f word error → r ≡ Err f → ((r ≡ Err run.Device) ↔ IsTrue failed) → word.now ≡ codes "standard output"
    → IsFailure (codes "standard output") failed made
run_failure run.NoMemory word error failed made r e is iff named = rw e (λ t. grind (arith, iff, is, t))
run_failure run.Device word error true made r e is iff named = rw e named
run_failure run.Device word error false made r e is iff named = rw e named

-- the same, with a prefix of an outcome on standard output
pub breaks : {A : Type 0} (P : List ℕ → Exit → Type 0) (f : RunFault) (word : Bor (List ℕ)) (error : Option Error) (old new : Option (List ℕ)) (failed : Bool) (made : Ending) (r : Result A RunFault)
    → made ≡ ending_of_run f word error → r ≡ Err f → ((r ≡ Err run.Device) ↔ IsTrue failed) → word.now ≡ codes "standard output"
    → (r ≡ Err run.Device → (text : List ℕ) × (exit : Exit) × P text exit × AppendsFront old new text) → (r ≡ Err run.NoMemory → new ≡ old)
    → Breaks P (stream old new failed) made
breaks P run.NoMemory word error old new failed made r e is iff named front same = rw e (λ t. grind (arith, iff, is, t), same is)
breaks P run.Device word error old new true made r e is iff named front same = rw e (named, refl, front is)
breaks P run.Device word error old new false made r e is iff named front same = let no : IsTrue false = iff.0 is in grind (arith, no)
