use Rattle.std.proofs.Common.{List, ap, ◌∙◌}
use Rattle.std.specs.Prelude.{◌==◌, ◌||◌}
use Rattle.std.specs.List.{list_any}
use Rattle.dia_peer.specs.Core.{Pair, PlainCore, pairs_of}
use Rattle.dia_peer.proofs.Commons.{raw_serves, serves_is}
use Rattle.dia_peer.proofs.connection.Core.serves.Goals as goal

pub returns-else-id-eq0 : goal.returns-else-id-eq0
returns-else-id-eq0 c =
    let n = c.args.id in
    serves_is n c.is_among.result c.args.self.now.common
    (c.is_among.ensures ∙ raw_serves n c.deref.result.now
    ∙ ap (λ (ps : List Pair). list_any (λ p. (p.id == 4294967295) || (p.id == n)) ps) (ap pairs_of c.deref.ensures.value ∙ ap (λ (k : PlainCore). k.common) c.self.view_is)) c.if-id-eq0.false
