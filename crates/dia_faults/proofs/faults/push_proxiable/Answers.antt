use Rattle.std.proofs.Common.{[], sym, subst}
use Rattle.std.proofs.lemmas.Bool.{both_ways}
use Rattle.std.proofs.lemmas.Result.{on_ok_weaker}
use Rattle.dia_book.specs.declared.DefHead.{DefHead}
use Rattle.dia_valid.specs.Valid.{AllowsP}
use Rattle.dia_faults.specs.Messages as messages
use Rattle.dia_faults.proofs.Collecting.{adds_none}
use Rattle.dia_faults.proofs.faults.push_proxiable.Goals as goal

pub returns-then-allows_p : goal.returns-then-allows_p
returns-then-allows_p c command same = (
  [],
  messages.HasProxiable.fine (subst (λ (x : DefHead). AllowsP x c.args.header.now.flags) (sym same) (c.allows_p.ensures.0 c.if-allows_p.true)),
  adds_none c.args.found.now,
)

pub returns-else-allows_p : goal.returns-else-allows_p
returns-else-allows_p c =
    on_ok_weaker c.push.result (λ added command same. (
      _,
      messages.HasProxiable.wrong (λ allows. both_ways c.allows_p.result c.if-allows_p.false (c.allows_p.ensures.1 (subst (λ (x : DefHead). AllowsP x c.args.header.now.flags) same allows))),
      rw c.of_header.ensures at added,
    )) c.push.ensures
