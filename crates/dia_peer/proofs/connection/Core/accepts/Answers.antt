use Rattle.std.proofs.Common.{◌≡◌, ℕ, zero, suc, ◌<◌, false, List, [], ◌∷◌, length, Option, Some, sym, ap, subst, arith}
use Rattle.std.specs.Prelude.{◌==◌}
use Rattle.std.proofs.lemmas.List.{length-map}
use Rattle.dia_peer.specs.declared.event.Output.{Output}
use Rattle.dia_peer.specs.declared.event.Output.TheVariants as output
use Rattle.dia_peer.specs.declared.event.State.TheVariants.{Open}
use Rattle.dia_peer.specs.declared.kept_requests.Ids.{Ids}
use Rattle.dia_peer.specs.Core.{Pair, PlainCore, the_pair, pairs_of}
use Rattle.std.specs.Option.{option_map}
use Rattle.dia_peer.specs.Incoming.{plain_pairs}
use Rattle.dia_peer.specs.Messages.{cea}
use Rattle.dia_peer.specs.Table.{Sends, accepts}
use Rattle.dia_peer.specs.Machine.{AreOutputs, IsOutput, Does}
use Rattle.dia_peer.proofs.connection.Core.accepts.Goals as goal

some : (n m : ℕ) → false ≡ (n == 0) → n ≡ m → 0 < m
some zero m h e = absurd cc
some (suc n) m h e = omega (arith, e)

does_accept : (c : PlainCore) (ids : Ids) (bytes : List ℕ) (found : Option (List Pair)) (pairs : List Pair) (new : PlainCore) (outputs : List Output) (o : Output) → found ≡ Some pairs → 0 < length pairs
    → new ≡ record c { state = Open; common = pairs; taken = Some (record { bytes = bytes; ids = ids }) } → outputs ≡ o ∷ [] → IsOutput (Sends (cea c.config ids 2001)) o
    → Does (accepts c ids bytes found) outputs new
does_accept c ids bytes found [] new outputs o f h e is m = absurd (omega (arith, h))
does_accept c ids bytes found (p ∷ ps) new outputs o f h e is m =
    subst (λ (x : Option (List Pair)). Does (accepts c ids bytes x) outputs new) (sym f) (e, subst (AreOutputs (Sends (cea c.config ids 2001) ∷ [])) (sym is) (m, tt))

pub returns-clause-ok : goal.returns-clause-ok
returns-clause-ok c =
    let pairs = pairs_of c.in-Some.common.items in
    let size = length-map c.in-Some.common.items the_pair in
    let any = some _ _ c.if-is_empty.ensures c.in-Some.common.ok.0 in
    let sent = output.Send c.in_ok-cea-2.field-0 in
    does_accept c.args.self.now c.args.ids c.args.bytes.now (option_map plain_pairs c.args.common) pairs _ c.in_ok-outputs.outputs.items sent (ap (option_map plain_pairs) c.in-Some.is) (omega (arith, size, any))
    (λ i. record (c.self-2.view_is i) { state = Open; common = pairs; taken = Some (record { bytes = c.in_ok-bytes.ensures.items i; ids = c.args.ids }) }) c.in_ok-outputs.ensures
    (subst (λ (core : PlainCore). IsOutput (Sends (cea core.config c.args.ids 2001)) sent) c.self-2.view_is c.in_ok-cea-2.ensures)
