-- A dictionary or a name that is refused.
use Rattle.std.proofs.Common.{◌≡◌, ℕ, List, [], Option, Some, Result, Ok, Err, inl, inr, subst}
use Rattle.std.specs.Prelude.{IfErr, IfOk, string_bytes}
use Rattle.std.proofs.KnownBytes.{Appends-nil, Consumes-nil}
use Rattle.dia_io.specs.declared.Input.{Input}
use Rattle.dia_io.specs.declared.Exit.{Exit}
use Rattle.dia_io.specs.declared.Exit.TheVariants as exits
use Rattle.dia_streams.specs.declared.fault.LinesFault.{LinesFault}
use Rattle.dia_dict.specs.Dictionary.{Dictionary}
use Rattle.dia_report.specs.declared.refusing.Refused.{Refused}
use Rattle.dia_report.specs.declared.refusing.Refused.TheVariants.{Bad, NoMemory}
use Rattle.dia_report.specs.declared.reporting.Answered.{Answered}
use Rattle.dia_report.specs.declared.reporting.Reported.{Reported}
use Rattle.dia_report.specs.Refusals.{RecordsOf, bad_input_text}
use Rattle.dia_run.specs.Report.{RecordsRefusal}
use Rattle.dia_run.specs.Texts.{IsDictionaryText}
use Rattle.dia_mask.specs.declared.choice.Choice.{Choice}
use Rattle.dia_mask_text.specs.declared.choosing.BadName.{BadName}
use Rattle.dia_mask_text.specs.Names.{IsChoice, Lists, first_refused}
use Rattle.dia_mask_text.specs.Outcome.{IsRefusal, IsRefusedName, RefusesDictionary, no_dictionary}
use Rattle.dia_mask_text.specs.Runs.{AreAllMasked, FrontMasked, IsMaskBegun, IsMaskOfAll, IsMaskPut, IsRefusalBegun, IsRefusalPut}

pub refused_dictionary : (l : Lists) (input : Input) (r : Refused) (a : Answered) → RecordsOf (RefusesDictionary input) r → RecordsRefusal r a → IsRefusal l input (string_bytes a.text) a.exit
refused_dictionary l input (Bad bad) a records is = no_dictionary (bad_input_text bad) records is.1
refused_dictionary l input NoMemory a records none = absurd none

pub refused_badly : (r : Refused) (a : Answered) → RecordsRefusal r a → a.exit ≡ exits.Bad
refused_badly (Bad bad) a is = is.1.1
refused_badly NoMemory a none = absurd none

module _ (l : Lists) (input : Input) (fed put_old put : Option (List ℕ)) where
  pub all_refused : (r : Result Reported LinesFault) → IfOk r (λ x. IsRefusalPut l input put_old put x.exit) → IfOk r (λ x. IsMaskPut l input fed fed put_old put x.exit)
  all_refused (Ok x) (text, is, is_put) = record { bytes = []; text = text; consumed = Consumes-nil fed; outcome = inr is; is_put = is_put }
  all_refused (Err e) is = tt

  pub refusal_put : (r : Result Reported LinesFault) → IfOk r (λ x. IsRefusalPut l input put_old put x.exit) → IfOk r (λ x. IsMaskOfAll l input fed put_old put x.exit)
  refusal_put (Ok x) (text, is, is_put) = λ bytes is_bytes. (text, inr is, is_put)
  refusal_put (Err e) is = tt

  pub refusal_begun : IsRefusalBegun l input put_old put → IsMaskBegun l input fed fed put_old put
  refusal_begun is = inr (Consumes-nil fed, is)

-- a name is refused under the dictionary that was read
pub name_refused : (l : Lists) (input : Input) (d : Dictionary) (r : Result Choice BadName) (bad : BadName) → IsDictionaryText input d → r ≡ Err bad
    → IfErr r (λ b. first_refused l d ≡ Some (b.name.now, b.why)) → IsRefusedName l input bad.name.now bad.why
name_refused l input d r bad is_d is h = (d, is_d, subst (λ (x : Result Choice BadName). IfErr x (λ b. first_refused l d ≡ Some (b.name.now, b.why))) is h)

-- nothing was read or put
pub nothing_begun : (l : Lists) (input : Input) (fed put : Option (List ℕ)) → IsMaskBegun l input fed fed put put
nothing_begun l input fed put = inr (Consumes-nil fed, inr (Appends-nil put))

module _ (l : Lists) (input : Input) (d : Dictionary) (choice : Choice) (is_d : IsDictionaryText input d) (is_choice : IsChoice l d choice) (fed_old fed put_old put : Option (List ℕ)) where
  pub lines_put : (exit : Exit) → AreAllMasked choice d fed_old fed put_old put exit → IsMaskPut l input fed_old fed put_old put exit
  lines_put exit a = record { bytes = a.bytes; text = a.text; consumed = a.consumed; outcome = inl (d, choice, is_d, is_choice, a.outcome); is_put = a.is_put }

  pub answer_put : (exit : Exit) → AreAllMasked choice d fed_old fed put_old put exit → IsMaskOfAll l input fed_old put_old put exit
  answer_put exit a = λ bytes is_bytes. (a.text, inl (d, choice, is_d, is_choice, a.whole bytes is_bytes), a.is_put)

  pub front_begun : FrontMasked choice d fed_old fed put_old put → IsMaskBegun l input fed_old fed put_old put
  front_begun a = inl (d, choice, is_d, is_choice, a)
