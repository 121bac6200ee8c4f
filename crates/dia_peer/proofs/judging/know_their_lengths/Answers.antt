use Rattle.std.proofs.Common.{List, [], get_or, sym, subst}
use Rattle.std.specs.Prelude.{All}
use Rattle.std.proofs.lemmas.List.{take_all}
use Rattle.std.proofs.lemmas.List.Elements.{All-more}
use Rattle.dia_peer.specs.declared.config.Ip.{Ip}
use Rattle.dia_peer.specs.declared.config.Ip.TheVariants.{V4}
use Rattle.dia_peer.specs.Core.{IsIp}
use Rattle.dia_peer.proofs.judging.know_their_lengths.Goals.{in-V4, in-V6}
use Rattle.dia_peer.proofs.judging.know_their_lengths.Goals as goal

pub loop-address-preserved : goal.loop-address-preserved
loop-address-preserved c =
    let here : IsIp (get_or c.args.addresses.now c.loop-address.address-index (V4 [])) =
    elim c.match-address.branch [
      | in-V4 w ↦ subst IsIp (sym w.in-V4.is) w.has_length.ensures
      | in-V6 w ↦ subst IsIp (sym w.in-V6.is) w.has_length-in-V6.ensures
    ] in
    All-more IsIp c.args.addresses.now c.loop-address.address-index (V4 []) c.loop-address-test.true c.loop-address.invariant here

pub returns : goal.returns
returns c = subst (λ (xs : List Ip). All IsIp xs) (take_all _ c.args.addresses.now c.loop-address-test.false) c.loop-address.invariant
