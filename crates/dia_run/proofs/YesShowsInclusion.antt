-- A yes of `compare` shows inclusion.
use Rattle.std.proofs.Common.{◌≡◌, ℕ, List, refl}
use Rattle.dia_dict.specs.Dictionary.{Dictionary}
use Rattle.dia_check.specs.declared.Unknown.{Unknown}
use Rattle.dia_compat.specs.declared.Answer.{Answer}
use Rattle.dia_compat.specs.declared.Answer.TheVariants as answer
use Rattle.dia_compat.specs.declared.PairKind.TheVariants as pair
use Rattle.dia_compat.specs.TableText.{PlainTable}
use Rattle.dia_compat.specs.Closed.{IsTableAnswer}
use Rattle.dia_compat.proofs.IncludedMessages.{included}
use Rattle.dia_io.specs.declared.Command.{Command}
use Rattle.dia_io.specs.declared.Command.TheVariants as command
use Rattle.dia_io.specs.declared.Inputs.{Inputs}
use Rattle.dia_io.specs.declared.Exit.{Exit}
use Rattle.dia_io.specs.declared.Exit.TheVariants.{Yes, No, Bad}
use Rattle.dia_run.specs.Texts.{IsDictionaryText}
use Rattle.dia_run.specs.Pairs.{IsTableText, IsAnswerText}
use Rattle.dia_run.specs.Outcome.{ended, no_first, no_second, compared, no_table, IsCompareOutcome, IsOutcome}
use Rattle.dia_run.specs.Inclusion.{TextsInclude, ShowsInclusion}

not_no : (exit : Exit) → exit ≡ No → exit ≡ Yes → ⊥
not_no exit is_no is_yes = cc

not_bad : (exit : Exit) → exit ≡ Bad → exit ≡ Yes → ⊥
not_bad exit is_bad is_yes = cc

yes_includes : (u : Unknown) (inputs : Inputs) (a b : Dictionary) (table : PlainTable) (answer : Answer) (text : List ℕ) (exit : Exit) → IsDictionaryText inputs.first a
    → IsDictionaryText inputs.second b
    → IsTableText inputs.table table → IsTableAnswer a b u table answer → IsAnswerText table answer text exit → exit ≡ Yes → TextsInclude u inputs
yes_includes u inputs a b table answer.Yes text exit is_a is_b is_table closed recorded is_yes = record {
  a = a;
  b = b;
  table = table;
  is_first = is_a;
  is_second = is_b;
  is_table = is_table;
  inclusion = λ most bytes command name listed (c, is_c, valid).
      let shown = included a b is_a.4 is_b.4 u table closed most bytes c command (command.name, name) is_c listed refl valid in
      (shown.1, shown.3, (shown.0, shown.2, shown.4));
}
yes_includes u inputs a b table (answer.No pair.Command i test) text exit is_a is_b is_table failed recorded is_yes = absurd (not_no exit recorded.3 is_yes)
yes_includes u inputs a b table (answer.No pair.Avp i test) text exit is_a is_b is_table failed recorded is_yes = absurd (not_no exit recorded.3 is_yes)

compare_includes : (u : Unknown) (inputs : Inputs) (text : List ℕ) (exit : Exit) → IsCompareOutcome u inputs text exit → exit ≡ Yes → TextsInclude u inputs
compare_includes u inputs text exit (ended a b is_a is_b (compared table answer is_table is_answer recorded)) is_yes =
    yes_includes u inputs a b table answer text exit is_a is_b is_table is_answer recorded is_yes
compare_includes u inputs text exit (ended a b is_a is_b (no_table recorded none refuses)) is_yes = absurd (not_bad exit refuses.1 is_yes)
compare_includes u inputs text exit (no_first why none refuses) is_yes = absurd (not_bad exit refuses.1 is_yes)
compare_includes u inputs text exit (no_second a why is_a none refuses) is_yes = absurd (not_bad exit refuses.1 is_yes)

pub shows_inclusion : (c : Command) (inputs : Inputs) (text : List ℕ) (exit : Exit) → IsOutcome c inputs text exit → ShowsInclusion c inputs exit
shows_inclusion (command.Compare u) inputs text exit h = compare_includes u inputs text exit h
shows_inclusion command.Show inputs text exit h = tt
shows_inclusion command.Render inputs text exit h = tt
shows_inclusion (command.Check u most) inputs text exit h = tt
shows_inclusion (command.Refute u most) inputs text exit h = tt
shows_inclusion (command.Propose u names) inputs text exit h = tt
