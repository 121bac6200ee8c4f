use Rattle.dia_breaking.proofs.Confirmed.{none_breaks, none_confirmed}
use Rattle.dia_breaking.proofs.laws.included_commands_break_nothing.Goals as goal

pub returns : goal.returns
returns c = record {
  messages = λ da db who table c bytes included listed. none_breaks da db who table c bytes included listed;
  lines = λ da db who table c lines included listed each. none_confirmed da db who table c lines included listed each;
}
