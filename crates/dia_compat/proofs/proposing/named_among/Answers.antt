use Rattle.std.proofs.Common.{rules, [], map, String, string_bytes, subst}
use Rattle.std.specs.Global.{Global}
use Rattle.dia_compat.specs.Sides.{Sides}
use Rattle.dia_compat.specs.NamedCommands.{NamedSoFar}
use Rattle.dia_compat.proofs.proposing.named_among.Goals as goal

pub add_all-requires-clause-new : goal.add_all-requires-clause-new
add_all-requires-clause-new g c =
    let names = map (λ (n : String Global). string_bytes n) c.args.names.now in
    let new : NamedSoFar c.sides-sides.result.now [] names c.in_ok-named.named = search rules in
    subst (λ (s : Sides). NamedSoFar s [] names c.in_ok-named.named) c.sides-sides.ensures.same new
