-- Runs over many messages.
use Rattle.std.proofs.Common.{◌≡◌, ◌≢◌, ◌⊎◌, ℕ, List, [], Option, Result, Ok, Err, refl, sym, subst, inl, inr}
use Rattle.std.specs.Prelude.{IsErr}
use Rattle.std.specs.Io.KnownBytes.{Appends}
use Rattle.std.proofs.KnownBytes.{Appends-nil, Consumes-nil}
use Rattle.std.proofs.lemmas.Bool.{false≢true}
use Rattle.dia_io.specs.declared.Input.{Input}
use Rattle.dia_io.specs.declared.Exit.{Exit}
use Rattle.dia_io.specs.declared.Exit.TheVariants as exits
use Rattle.dia_io.specs.Writing.{AppendsFront}
use Rattle.dia_streams.specs.declared.fault.LinesFault.{LinesFault}
use Rattle.dia_streams.specs.declared.fault.LinesFault.TheVariants as faults
use Rattle.dia_report.specs.declared.refusing.Refused.{Refused}
use Rattle.dia_report.specs.declared.refusing.Refused.TheVariants.{Bad, NoMemory}
use Rattle.dia_json.specs.Runs.{IsNothing, IsRefusalFront, IsRefusalPut}
use Rattle.dia_refused_json.specs.Recording.{RecordsBad}

-- ---- inputs that are refused

pub ends_badly : (input : Input) (refused : Refused) (text : List ℕ) (exit : Exit) → RecordsBad input refused text exit → exit ≡ exits.Bad
ends_badly input (Bad bad) text exit is = is.1
ends_badly input NoMemory text exit none = absurd none

pub nothing : (fed old new : Option (List ℕ)) → new ≡ old → IsNothing fed fed old new
nothing fed old new same = (Consumes-nil fed, subst (λ (p : Option (List ℕ)). Appends old p []) (sym same) (Appends-nil old))

-- R holds of the line of this refusal
module _ (R : List ℕ → Exit → Type 0) (input : Input) (why : Refused) (recorded : (text : List ℕ) (exit : Exit) → RecordsBad input why text exit → R text exit)
    (fed old new : Option (List ℕ)) {X : Type 0} where
  pub refusal_put : (exit : Exit) → (text : List ℕ) × RecordsBad input why text exit × Appends old new text → X ⊎ IsRefusalPut R fed fed old new exit
  refusal_put exit (text, is, put) = inr (text, recorded text exit is, Consumes-nil fed, put)

  pub refusal_whole : new ≡ old → X ⊎ IsNothing fed fed old new
  refusal_whole same = inr (nothing fed old new same)

  pub refusal_front : {T : Type 0} (r : Result T LinesFault) → (r ≡ Err faults.Device → (text : List ℕ) × RecordsBad input why text exits.Bad × AppendsFront old new text)
      → (r ≡ Err faults.NoMemory → new ≡ old) → r ≢ Err faults.Endless → IsErr r
      → X ⊎ (IsRefusalFront R fed fed old new ⊎ IsNothing fed fed old new)
  refusal_front (Ok x) front same counted err = absurd (false≢true err)
  refusal_front (Err faults.Device) front same counted err =
      let (text, is, put) = front refl in inr (inl (text, recorded text exits.Bad is, Consumes-nil fed, put))
  refusal_front (Err faults.NoMemory) front same counted err = inr (inr (nothing fed old new (same refl)))
  refusal_front (Err faults.Endless) front same counted err = absurd (counted refl)
