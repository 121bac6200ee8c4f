-- How help is shown, and why it isn't.
use Rattle.std.proofs.Common.{◌≡◌, ◌↔◌, refl, subst, sym, ℕ, List, Bool, true, false, Option, codes}
use Rattle.std.specs.Prelude.{IfErr, IsTrue, Result, Err}
use Rattle.std.specs.Borrow.{Bor}
use Rattle.std.specs.declared.io.Error.{Error}
use Rattle.dia_io.specs.declared.Exit.{Exit}
use Rattle.dia_io.specs.declared.RunFault.{RunFault}
use Rattle.dia_io.specs.declared.RunFault.TheVariants.{Device, NoMemory}
use Rattle.dia_cli.specs.Ending.{IsShown, IsRecorded, ShowsHelp, Stream, device, ending_of_run, no_memory}
use Rattle.dia_cli.specs.declared.ending.Ending.{Ending}

-- standard output failed, or memory was refused
pub shown_why : (fault : RunFault) (recorded : Result ℕ RunFault) (made : Ending) (name : Bor (List ℕ)) (why : Option Error) (out err : Stream) (is_quiet : Type 0) (status : ℕ)
    → recorded ≡ Err fault → (recorded ≡ Err Device) ↔ IsTrue out.failed → (recorded ≡ Err NoMemory → out.new ≡ out.old) → name.now ≡ codes "standard output"
    → made ≡ ending_of_run fault name why → IsRecorded made err status → IsShown out err is_quiet status
shown_why Device recorded made name why out err is_quiet status is broken kept named made_is err_recorded =
    device name why (broken.0 is) named (subst (λ m. IsRecorded m err status) made_is err_recorded)
shown_why NoMemory recorded made name why out err is_quiet status is broken kept named made_is err_recorded =
    no_memory (sound out.failed broken.1) (kept is) (subst (λ m. IsRecorded m err status) made_is err_recorded)
  where
    sound : (failed : Bool) → (IsTrue failed → recorded ≡ Err Device) → failed ≡ false
    sound false h = refl
    sound true h = let both = h refl in absurd cc

pub if_help : (ended : Result Exit Ending) (ending : Ending) (P : Type 0) → ended ≡ Err ending → P → IfErr ended (λ made. ShowsHelp made → P)
if_help ended ending P is p = subst (λ r. IfErr r (λ made. ShowsHelp made → P)) (sym is) (λ _. p)
