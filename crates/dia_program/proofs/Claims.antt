-- What the end of a request says of its inputs.
use Rattle.std.proofs.Common.{◌≡◌, ◌∙◌, ℕ, Bool, true, false, List, inl, inr, refl, subst, sym}
use Rattle.std.specs.Prelude.{Ok, codes}
use Rattle.dia_terms.specs.declared.Unknown.{Unknown}
use Rattle.dia_io.specs.declared.Command.{Command}
use Rattle.dia_io.specs.declared.Command.TheVariants as command
use Rattle.dia_io.specs.declared.Exit.{Exit}
use Rattle.dia_io.specs.declared.Exit.TheVariants.{Yes, No, Bad}
use Rattle.dia_io.specs.declared.Inputs.{Inputs}
use Rattle.dia_compat.specs.declared.Answer.TheVariants as answer
use Rattle.dia_run.specs.Inclusion.{ShowsInclusion, TextsInclude}
use Rattle.dia_run.specs.Outcome.{compared, ended}
use Rattle.dia_run.specs.Texts.{line}
use Rattle.dia_run.proofs.YesShowsInclusion.{shows_inclusion}
use Rattle.dia_refused_json.specs.Recording.{RefusedDictionaries}
use Rattle.dia_compared_json.specs.Compared.{IsCompareJson}
use Rattle.dia_upgrades.specs.declared.asked.Asked.{Asked}
use Rattle.dia_upgrades.specs.Outcome.{AreRefused, IsBreakingOutcome, bad_first, bad_second}
use Rattle.dia_upgrades.proofs.Outcomes.{bad_is_refused, listed_in_words, no_is_unsafe, yes_is_safe}
use Rattle.dia_upgrades_json.specs.Objects.{json_over}
use Rattle.dia_upgrades_json.specs.Outcome.{IsBreakingJson}
use Rattle.dia_cli.specs.Ending.{Stream}
use Rattle.dia_cli.specs.OpenedInputs.{IsReadOf}
use Rattle.dia_cli.specs.declared.origin.Origin.{Origin}
use Rattle.dia_cli.specs.declared.origin.Origins.{Origins}
use Rattle.dia_cli.specs.declared.request.Request.{Request}
use Rattle.dia_cli.specs.declared.task.Task.{Task}
use Rattle.dia_cli.specs.declared.task.Task.TheVariants as task
use Rattle.dia_program.specs.Answers.{IsAnswer}
use Rattle.dia_driver.specs.Tasks.{TaskEnds, World}
use Rattle.dia_program.specs.Tasks.{TaskRuns}
use Rattle.dia_program.specs.Breaking.{IsListed}
use Rattle.dia_program.specs.Claims.{Says, SaysOfUpgrade}
use Rattle.dia_driver.specs.Program.{RequestEnds, done, unread}

-- ---- `compare`

refused_badly : (inputs : Inputs) (text : List ℕ) (exit : Exit) → RefusedDictionaries inputs text exit → exit ≡ Bad
refused_badly inputs text exit (inl (bad, found, recorded, is_text, is_exit)) = is_exit
refused_badly inputs text exit (inr (bad, found, recorded, is_text, is_exit)) = is_exit

json_includes : (u : Unknown) (inputs : Inputs) (text : List ℕ) (exit : Exit) → IsCompareJson u inputs text exit → exit ≡ Yes → TextsInclude u inputs
json_includes u inputs text exit (inl (a, b, table, is_a, is_b, is_table, (answer.Yes, closed, recorded))) is_yes =
    shows_inclusion (command.Compare u) inputs (line (codes "yes")) Yes (ended a b is_a is_b (compared table answer.Yes is_table closed (refl, refl))) refl
json_includes u inputs text exit (inl (a, b, table, is_a, is_b, is_table, (answer.No kind place test, closed, recorded))) is_yes =
    absurd (let e : No ≡ Yes = sym recorded.is_exit ∙ is_yes in cc)
json_includes u inputs text exit (inr (inl refused)) is_yes = absurd (let e : Bad ≡ Yes = sym (refused_badly inputs text exit refused) ∙ is_yes in cc)
json_includes u inputs text exit (inr (inr (bad, recorded, is_text, is_exit))) is_yes = absurd (let e : Bad ≡ Yes = sym is_exit ∙ is_yes in cc)

whole_says : (json : Bool) (table : Origin) (c : Command) (inputs : Inputs) (text : List ℕ) (exit : Exit) → IsAnswer json table c inputs text exit → ShowsInclusion c inputs exit
whole_says true table (command.Compare u) inputs text exit is = json_includes u inputs text exit is
whole_says false table (command.Compare u) inputs text exit is = shows_inclusion (command.Compare u) inputs text exit is
whole_says json table command.Show inputs text exit is = tt
whole_says json table command.Render inputs text exit is = tt
whole_says json table (command.Check u most) inputs text exit is = tt
whole_says json table (command.Refute u most) inputs text exit is = tt
whole_says json table (command.Propose u names) inputs text exit is = tt

-- ---- `breaking`

module _ (asked : Asked) (inputs : Inputs) (text : List ℕ) (exit : Exit) where
  refused_dictionaries : RefusedDictionaries inputs text exit → AreRefused asked inputs
  refused_dictionaries (inl (bad, found, (why, none, e), is_text, is_exit)) = bad_first why none
  refused_dictionaries (inr (bad, found, (d, is_d, (why, none, e)), is_text, is_exit)) = bad_second why none

  text_says : IsBreakingOutcome asked inputs text exit → SaysOfUpgrade asked inputs exit
  text_says is = record {
    yes = λ is_yes. (text, yes_is_safe asked inputs text exit is is_yes);
    no = λ is_no. (text, no_is_unsafe asked inputs text exit is is_no);
    bad = bad_is_refused asked inputs text exit is;
  }

  json_says : IsBreakingJson asked inputs text exit → SaysOfUpgrade asked inputs exit
  json_says (inl (a, b, is_a, is_b, (is, listed))) =
      let (words, in_words) = listed_in_words (json_over a b listed.texts) asked inputs.table a b text exit is listed.listed in
      let outcome : IsBreakingOutcome asked inputs words exit = ended a b is_a is_b (is, in_words) in
      record {
        yes = λ is_yes. (words, yes_is_safe asked inputs words exit outcome is_yes);
        no = λ is_no. (words, no_is_unsafe asked inputs words exit outcome is_no);
        bad = bad_is_refused asked inputs words exit outcome;
      }
  json_says (inr refused) =
      let is_bad = refused_badly inputs text exit refused in
      record {
        yes = λ is_yes. absurd (let e : Bad ≡ Yes = sym is_bad ∙ is_yes in cc);
        no = λ is_no. absurd (let e : Bad ≡ No = sym is_bad ∙ is_no in cc);
        bad = (λ _. refused_dictionaries refused, λ _. is_bad);
      }

listed_says : (json : Bool) (asked : Asked) (inputs : Inputs) (text : List ℕ) (exit : Exit) → IsListed json asked inputs text exit → SaysOfUpgrade asked inputs exit
listed_says true asked inputs text exit is = json_says asked inputs text exit is
listed_says false asked inputs text exit is = text_says asked inputs text exit is

-- ---- a request

task_says : (t : Task) (json : Bool) (w : World) (origins : Origins) (inputs : Inputs) (out : Stream) (exit : Exit)
    → TaskEnds TaskRuns t json w origins inputs out (Ok exit) → Says t inputs exit
task_says (task.Breaking breaking) json w origins inputs out exit (reported, same, (asked, asks, (live, (text, is, put)))) =
    subst (λ (e : Exit). Says (task.Breaking breaking) inputs e) same (asked, asks, listed_says json asked inputs text reported.exit is)
task_says (task.Whole c) json w origins inputs out exit (reported, same, (live, (text, is, put))) =
    subst (λ (e : Exit). Says (task.Whole c) inputs e) same (whole_says json origins.table c inputs text reported.exit is)
task_says task.Make json w origins inputs out exit p = tt
task_says task.ShowText json w origins inputs out exit p = tt
task_says task.ShowNamed json w origins inputs out exit p = tt
task_says (task.ShowLines names) json w origins inputs out exit p = tt
task_says (task.CheckLines u most) json w origins inputs out exit p = tt
task_says (task.RefuteLines u most) json w origins inputs out exit p = tt
task_says (task.CheckStream u most) json w origins inputs out exit p = tt
task_says (task.CheckAll u most) json w origins inputs out exit p = tt
task_says (task.Answer asked) json w origins inputs out exit p = tt
task_says (task.AnswerLines asked) json w origins inputs out exit p = tt
task_says (task.Follow asked) json w origins inputs out exit p = tt
task_says (task.Mask asked) json w origins inputs out exit p = tt
task_says (task.Uses avps) json w origins inputs out exit p = tt
task_says (task.Diff sends unknown) json w origins inputs out exit p = tt
task_says (task.Lint asked) json w origins inputs out exit p = tt
task_says (task.Examples asked) json w origins inputs out exit p = tt

pub answers_say : (request : Request) (w : World) (out : Stream) (exit : Exit) → RequestEnds TaskRuns request w out (Ok exit)
    → (inputs : Inputs) × IsReadOf w.content w.standard request.origins inputs × Says request.task inputs exit
answers_say request w out exit (done inputs read ends) = (inputs, read, task_says request.task request.json w request.origins inputs out exit ends)
answers_say request w out exit (unread made is untouched same) = absurd cc
