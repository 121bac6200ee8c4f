use Rattle.std.proofs.Common.{◌≡◌, ℕ, subst}
use Rattle.std.specs.Prelude.{IfOk, string_bytes}
use Rattle.dia_refused_json.specs.Refusals.{on_line}
use Rattle.dia_refused_json.specs.Members.{json_line, refused_members}
use Rattle.dia_refused_json.proofs.refusals.refused_at.Goals as goal

pub returns : goal.returns
returns c =
    subst (λ (n : ℕ). IfOk c.refused_on.result (λ text. string_bytes text ≡ json_line (refused_members c.args.input.now c.args.kind.now (on_line n c.args.spelt.now c.args.at))))
    c.place_of-line.ensures.line c.refused_on.ensures
