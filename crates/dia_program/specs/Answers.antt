-- What is written for a command whose inputs are read whole, and how it ends.
use Rattle.std.specs.Prelude.{◌≡◌, ℕ, Bool, true, false, List, map, codes, string_bytes}
use Rattle.dia_io.specs.declared.Command.{Command}
use Rattle.dia_io.specs.declared.Command.TheVariants.{Show, Render, Check, Compare, Refute, Propose}
use Rattle.dia_io.specs.declared.Inputs.{Inputs}
use Rattle.dia_io.specs.declared.Exit.{Exit}
use Rattle.dia_io.specs.declared.Exit.TheVariants.{Bad}
use Rattle.dia_terms.specs.declared.Levels.{Levels}
use Rattle.dia_terms.specs.declared.Unknown.{Unknown}
use Rattle.dia_dict.specs.Dictionary.{Dictionary}
use Rattle.dia_answer.specs.Names.{IsName}
use Rattle.dia_answer.specs.declared.names.NameFault.{NameFault}
use Rattle.dia_answer.specs.declared.names.NameFault.TheVariants.{Host, Realm}
use Rattle.dia_answer.specs.Outcome.{IsAnswerText}
use Rattle.dia_cli.specs.declared.task.Answering.{Answering}
use Rattle.dia_cli.specs.declared.origin.Origin.{Origin}
use Rattle.dia_cli.specs.declared.origin.Origin.TheVariants.{Nowhere}
use Rattle.dia_make.specs.Outcome.{IsMade}
use Rattle.dia_run.specs.AllFaults.{IsAllRecorded}
use Rattle.dia_run.specs.Outcome.{IsMessageOutcome, IsOutcome, IsRenderOutcome}
use Rattle.dia_run.specs.Texts.{line}
use Rattle.dia_show.specs.Outcome.{IsNamedOutcome}
use Rattle.dia_json.specs.Runs.{IsCheckJson, IsRefuteJson}
use Rattle.dia_json.specs.Whole.{IsShowJson, IsProposeJson}
use Rattle.dia_compared_json.specs.Compared.{IsCompareJson}

-- as JSON, which `render` doesn't have
abbrev pub IsJson : Command → Inputs → List ℕ → Exit → Type 0
IsJson Show inputs text exit = IsShowJson false inputs text exit
IsJson Render inputs text exit = IsRenderOutcome inputs text exit
IsJson (Check u most) inputs text exit = IsCheckJson u most inputs text exit
IsJson (Compare u) inputs text exit = IsCompareJson u inputs text exit
IsJson (Refute u most) inputs text exit = IsRefuteJson u most inputs text exit
IsJson (Propose u names) inputs text exit = IsProposeJson u (map (λ name. string_bytes name) names.items) inputs text exit

-- `show` with words of values, where a table is named
abbrev pub IsShow : Origin → Inputs → List ℕ → Exit → Type 0
IsShow Nowhere inputs text exit = IsOutcome Show inputs text exit
IsShow table inputs text exit = IsNamedOutcome false inputs text exit

-- `make` with words of values, where a table is named
abbrev pub IsMadeBy : Origin → Inputs → List ℕ → Exit → Type 0
IsMadeBy Nowhere inputs text exit = IsMade false inputs text exit
IsMadeBy table inputs text exit = IsMade true inputs text exit

-- `show` with words of values, with `--names` or without: as JSON, if that is asked for
abbrev pub IsNamed : Bool → Bool → Inputs → List ℕ → Exit → Type 0
IsNamed true names inputs text exit = IsShowJson names inputs text exit
IsNamed false names inputs text exit = IsNamedOutcome names inputs text exit

-- as text
abbrev pub IsText : Origin → Command → Inputs → List ℕ → Exit → Type 0
IsText table Show inputs text exit = IsShow table inputs text exit
IsText table command inputs text exit = IsOutcome command inputs text exit

-- as JSON, if that is asked for
abbrev pub IsAnswer : Bool → Origin → Command → Inputs → List ℕ → Exit → Type 0
IsAnswer true table command inputs text exit = IsJson command inputs text exit
IsAnswer false table command inputs text exit = IsText table command inputs text exit

-- `check --all`: the faults of a message, at most 1,000
abbrev pub AreFaults : Unknown → Levels → Dictionary → List ℕ → List ℕ → Exit → Type 0
AreFaults u most d bytes text exit = IsAllRecorded d u most 1000 bytes text exit

abbrev pub IsAllFaults : Unknown → Levels → Inputs → List ℕ → Exit → Type 0
IsAllFaults u most inputs text exit = IsMessageOutcome (AreFaults u most) inputs text exit

-- the names of the node that answers
abbrev pub AreNames : Answering → Type 0
AreNames asked = IsName (string_bytes asked.host) × IsName (string_bytes asked.realm)

-- the first of these names that is none is refused
pub data IsNoName (asked : Answering) (text : List ℕ) (exit : Exit) : Type 0 where
  no_host : ¬ IsName (string_bytes asked.host) → text ≡ line (codes "answer: host") → exit ≡ Bad → IsNoName asked text exit
  no_realm : IsName (string_bytes asked.host) → ¬ IsName (string_bytes asked.realm) → text ≡ line (codes "answer: realm") → exit ≡ Bad
      → IsNoName asked text exit

-- `answer`: the answer that reports a request's first fault, or why there is none; or a name of the node is refused
pub data IsReplied (asked : Answering) (inputs : Inputs) (text : List ℕ) (exit : Exit) : Type 0 where
  named : AreNames asked → IsMessageOutcome (IsAnswerText (string_bytes asked.host) (string_bytes asked.realm) asked.unknown asked.levels) inputs text exit
      → IsReplied asked inputs text exit
  unnamed : IsNoName asked text exit → IsReplied asked inputs text exit

-- the line of a name that is none
abbrev pub name_line : NameFault → List ℕ
name_line Host = line (codes "answer: host")
name_line Realm = line (codes "answer: realm")
