use Rattle.std.proofs.Common.{[], map, String, string_bytes, subst}
use Rattle.std.specs.Prelude.{IfOk, IfErr}
use Rattle.std.specs.Global.{Global}
use Rattle.dia_compat.specs.Sides.{Sides}
use Rattle.dia_compat.specs.NamedCommands.{NamedSoFar}
use Rattle.dia_compat.specs.Proposed.{IsRefusal}
use Rattle.dia_compat.proofs.proposing.named_commands.Goals as goal

pub returns-clause-ok : goal.returns-clause-ok
returns-clause-ok g c =
    let names = map (λ (n : String Global). string_bytes n) c.args.names.now in
    subst (λ (s : Sides). IfOk c.named_by.result (NamedSoFar s names [])) c.in_ok-commands.ensures c.named_by.ensures.ok

pub returns-clause-refusal : goal.returns-clause-refusal
returns-clause-refusal g c =
    let names = map (λ (n : String Global). string_bytes n) c.args.names.now in
    subst (λ (s : Sides). IfErr c.named_by.result (IsRefusal s.first names)) c.in_ok-commands.ensures c.named_by.ensures.refusal
