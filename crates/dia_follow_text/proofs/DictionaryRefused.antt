-- A dictionary that is refused.
use Rattle.std.proofs.Common.{◌≡◌, ℕ, List, [], false, Option, Result, Ok, Err, inl, inr}
use Rattle.std.specs.Prelude.{IfOk, string_bytes}
use Rattle.std.proofs.KnownBytes.{Consumes-nil}
use Rattle.dia_io.specs.declared.Input.{Input}
use Rattle.dia_io.specs.declared.Exit.{Exit}
use Rattle.dia_io.specs.declared.Exit.TheVariants as exits
use Rattle.dia_streams.specs.declared.fault.LinesFault.{LinesFault}
use Rattle.dia_refused_json.specs.Recording.{RecordsBad}
use Rattle.dia_follow_text.specs.declared.running.Followed.{Followed}
use Rattle.dia_dict.specs.Dictionary.{Dictionary}
use Rattle.dia_report.specs.declared.refusing.Refused.{Refused}
use Rattle.dia_report.specs.declared.refusing.Refused.TheVariants.{Bad, NoMemory}
use Rattle.dia_report.specs.declared.reporting.Answered.{Answered}
use Rattle.dia_report.specs.Refusals.{RecordsOf, bad_input_text}
use Rattle.dia_run.specs.Report.{RecordsRefusal}
use Rattle.dia_run.specs.Texts.{IsDictionaryText}
use Rattle.dia_follow_text.specs.declared.options.Options.{Options}
use Rattle.dia_follow_text.specs.FollowOutcome.{IsDictionaryRefused, RefusesDictionary}
use Rattle.dia_follow_text.specs.Runs.{AreEnded, AreFollowed, FrontFollowed, IsAnswerPut, IsFollowBegun, IsRefusalBegun, IsRefusalPut}

-- as text
pub refused_text : (input : Input) (r : Refused) (a : Answered) → RecordsOf (RefusesDictionary input) r → RecordsRefusal r a → IsDictionaryRefused false input (string_bytes a.text) a.exit
refused_text input (Bad bad) a records is = (bad_input_text bad, records, is.1)
refused_text input NoMemory a records none = absurd none

pub refused_badly : (r : Refused) (a : Answered) → RecordsRefusal r a → a.exit ≡ exits.Bad
refused_badly (Bad bad) a is = is.1.1
refused_badly NoMemory a none = absurd none

-- as JSON
pub object_badly : (input : Input) (r : Refused) (text : List ℕ) (exit : Exit) → RecordsBad input r text exit → exit ≡ exits.Bad
object_badly input (Bad bad) text exit is = is.1
object_badly input NoMemory text exit none = absurd none

module _ (options : Options) (input : Input) (fed put_old put : Option (List ℕ)) where
  pub all_refused : (r : Result Followed LinesFault) → IfOk r (λ f. IsRefusalPut options input put_old put f.reported.exit)
      → IfOk r (λ f. AreFollowed options input fed fed put_old put f.reported.exit)
  all_refused (Ok f) (text, is, is_put) = record { bytes = []; text = text; consumed = Consumes-nil fed; outcome = inr is; is_put = is_put }
  all_refused (Err e) is = tt

  pub refusal_put : (r : Result Followed LinesFault) → IfOk r (λ f. IsRefusalPut options input put_old put f.reported.exit)
      → IfOk r (λ f. IsAnswerPut options input fed put_old put f.reported.exit)
  refusal_put (Ok f) (text, is, is_put) = λ bytes is_bytes. (text, inr is, is_put)
  refusal_put (Err e) is = tt

  pub refusal_begun : IsRefusalBegun options input put_old put → IsFollowBegun options input fed fed put_old put
  refusal_begun is = inr (Consumes-nil fed, is)

module _ (options : Options) (input : Input) (d : Dictionary) (is_d : IsDictionaryText input d) (fed_old fed put_old put : Option (List ℕ)) where
  pub all_followed : (exit : Exit) → AreEnded d options fed_old fed put_old put exit → AreFollowed options input fed_old fed put_old put exit
  all_followed exit a = record { bytes = a.bytes; text = a.text; consumed = a.consumed; outcome = inl (d, is_d, a.outcome); is_put = a.is_put }

  pub answer_put : (exit : Exit) → AreEnded d options fed_old fed put_old put exit → IsAnswerPut options input fed_old put_old put exit
  answer_put exit a = λ bytes is_bytes. (a.text, inl (d, is_d, a.whole bytes is_bytes), a.is_put)

  pub front_begun : FrontFollowed d options fed_old fed put_old put → IsFollowBegun options input fed_old fed put_old put
  front_begun a = inl (d, is_d, a)
