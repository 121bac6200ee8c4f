use Rattle.std.proofs.Common.{◌≡◌, sym, subst}
use Rattle.std.specs.Prelude.{IfOk, string_bytes}
use Rattle.dia_refused_json.specs.Refusals.{dictionary_members}
use Rattle.dia_refused_json.specs.Members.{json_line}
use Rattle.dia_refused_json.proofs.refusals.dictionary_line.Goals as goal

pub returns-in-TooLong : goal.returns-in-TooLong
returns-in-TooLong c = subst (λ why. IfOk c.refused_line.result (λ text. string_bytes text ≡ json_line (dictionary_members c.args.input.now c.args.spelt.now why))) (sym c.in-TooLong.is) c.refused_line.ensures
