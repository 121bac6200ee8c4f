-- Why a request fails.
use Rattle.std.proofs.Common.{◌≡◌, ℕ, Bool, true, false, IsTrue, List, arith, inl, inr, refl, subst, sym}
use Rattle.std.specs.Prelude.{◌≢◌, ◌↔◌, codes}
use Rattle.dia_io.specs.declared.Exit.{Exit}
use Rattle.std.specs.IoError.{error_kind}
use Rattle.std.specs.declared.io.Error.{Error}
use Rattle.std.specs.declared.io.ErrorKind.{ErrorKind}
use Rattle.std.specs.declared.io.ErrorKind.TheVariants.{OutOfMemory, InvalidData}
use Rattle.dia_cli.specs.Ending.{EndsWith, IsDevice, IsEndingOfIo, IsShown, IsRecorded, ShowsHelp, Stream, device, no_memory, shown, recorded}
use Rattle.dia_cli.specs.OpenedInputs.{IsAnyUnread, IsFaultOf, IsUnread}
use Rattle.dia_cli.specs.declared.ending.Ending.{Ending}
use Rattle.dia_cli.specs.declared.ending.Ending.TheVariants as ending
use Rattle.dia_cli.specs.declared.origin.Origin.{Origin}
use Rattle.dia_cli.specs.declared.origin.Origin.TheVariants.{Nowhere, Base, Empty, StandardInput, File}
use Rattle.dia_cli.specs.declared.origin.Origins.{Origins}
use Rattle.dia_driver.specs.Endings.{Breaks}
use Rattle.dia_driver.specs.Program.{IsFailed, IsUntouched, Refuses, streams}

-- of a text that is made whole
pub whole_failed : (P : List ℕ → Exit → Type 0) (out : Stream) (made : Ending) → Breaks P out made → IsFailed made
whole_failed P out (ending.Device name error) b = tt
whole_failed P out ending.NoMemory b = tt
whole_failed P out made b = absurd b

fault_failed : (word : List ℕ) (made : Ending) → IsFaultOf word made → IsFailed made
fault_failed word (ending.Device name error) b = tt
fault_failed word ending.NoMemory b = tt
fault_failed word made b = absurd b

input_failed : (origin : Origin) (made : Ending) → IsUnread origin made → IsFailed made
input_failed Nowhere made b = subst IsFailed (sym b) tt
input_failed Base made b = subst IsFailed (sym b) tt
input_failed Empty made b = subst IsFailed (sym b) tt
input_failed (StandardInput limit) made b = fault_failed _ made b
input_failed (File path limit) made b = fault_failed _ made b

-- an input that can't be read
pub unread_failed : (origins : Origins) (made : Ending) → IsAnyUnread origins made → IsFailed made
unread_failed origins made (inl b) = input_failed origins.first made b
unread_failed origins made (inr (inl b)) = input_failed origins.second made b
unread_failed origins made (inr (inr (inl b))) = input_failed origins.table made b
unread_failed origins made (inr (inr (inr b))) = input_failed origins.message made b

-- words that can't be read ask for no help
device_is_no_help : (word : List ℕ) (error : Error) (made : Ending) → IsDevice word error made → ¬ ShowsHelp made
device_is_no_help word error (ending.Device name why) is = λ help. help
device_is_no_help word error made is = absurd is

kind_is_no_help : (kind : ErrorKind) (error : Error) (made : Ending) → (kind ≡ OutOfMemory → made ≡ ending.NoMemory) → (kind ≡ InvalidData → made ≡ ending.NotText)
    → (kind ≢ OutOfMemory → kind ≢ InvalidData → IsDevice (codes "command line") error made) → ¬ ShowsHelp made
kind_is_no_help OutOfMemory error made memory text failing = λ help. subst ShowsHelp (memory refl) help
kind_is_no_help InvalidData error made memory text failing = λ help. subst ShowsHelp (text refl) help
kind_is_no_help kind error made memory text failing = device_is_no_help (codes "command line") error made (failing (λ e. cc) (λ e. cc))

pub words_are_no_help : (error : Error) (made : Ending) → IsEndingOfIo error made → ¬ ShowsHelp made
words_are_no_help error made is = kind_is_no_help (error_kind error) error made is.memory is.text is.device

-- what fails ends with 3, whether that can be written or not
ends_with_3 : (made : Ending) (status : ℕ) → IsFailed made → EndsWith made status → status ≡ 3
ends_with_3 (ending.Device name error) status failed ends = ends
ends_with_3 ending.NoMemory status failed ends = ends
ends_with_3 made status failed ends = absurd failed

pub failed_with_3 : (made : Ending) (err : Stream) (status : ℕ) → IsFailed made → IsRecorded made err status → status ≡ 3
failed_with_3 made err status failed (recorded live ends text) = ends_with_3 made status failed ends
failed_with_3 made err status failed (no_memory live foreign is text) = is
failed_with_3 made err status failed (device broken is) = is

quiet_shown : (out err : Stream) (P Q : Type 0) (status : ℕ) → (P → Q) → IsShown out err P status → IsShown out err Q status
quiet_shown out err P Q status f (shown live quiet is) = shown live (f quiet) is
quiet_shown out err P Q status f (no_memory live same is) = no_memory live same is
quiet_shown out err P Q status f (device name why broken is_name is) = device name why broken is_name is

-- words that ask for nothing to run
pub refusal_of : (made : Ending) (out err : Stream) (P Q : Type 0) (status : ℕ) → (P → IsUntouched out) → (Q → IsUntouched err)
    → (¬ ShowsHelp made → P × IsRecorded made err status) → (ShowsHelp made → IsShown out err Q status) → Refuses made (streams out err) status
refusal_of made out err P Q status f h refusal help = record {
  help = λ asked. quiet_shown out err Q (IsUntouched err) status h (help asked);
  refusal = λ other. let (same, is) = refusal other in (f same, is);
}

-- a test that says whether P holds
pub by_true : (b : Bool) (P : Type 0) → (IsTrue b ↔ P) → b ≡ true → P
by_true b P same is = grind (arith, same, is)

pub by_false : (b : Bool) (P : Type 0) → (IsTrue b ↔ P) → b ≡ false → P → ⊥
by_false b P same is p = grind (arith, same, is, p)
