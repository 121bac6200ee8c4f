use Rattle.std.proofs.Common.{◌≡◌, length, take, drop, sym, subst, refl}
use Rattle.std.proofs.lemmas.List.{take-append-drop}
use Rattle.dia_wire.specs.Number.{number}
use Rattle.dia_peer.specs.Messages.{IsOurCode}
use Rattle.dia_peer.proofs.Delivered.{code_in}
use Rattle.dia_peer.proofs.node.Node.received.Goals as goal

pub returns-then-not-is_our_code : goal.returns-then-not-is_our_code
returns-then-not-is_our_code c =
    let b = c.args.bytes.now in
    let at : number (take 3 (drop 5 b)) ≡ c.in-Some.header.code = code_in c.in-Some.header (length b) (take 20 b) (drop 20 b) b (sym (take-append-drop 20 b)) c.in-Some.ensures.some.0 in
    (c.in-Some.ensures.some.1, λ ours. (let f = c.if-not-is_our_code.ensures.1 (subst IsOurCode at ours) in absurd cc))

pub returns-then-not-branch : goal.returns-then-not-branch
returns-then-not-branch c =
    let b = c.args.bytes.now in
    let at : number (take 3 (drop 5 b)) ≡ c.in-Some.header.code = code_in c.in-Some.header (length b) (take 20 b) (drop 20 b) b (sym (take-append-drop 20 b)) c.in-Some.ensures.some.0 in
    (c.in-Some.ensures.some.1, subst IsOurCode (sym at) (c.if-not-is_our_code.ensures.0 refl), λ valid. (let f = (c.in_ok-is_valid.ensures).1 valid in let g = c.if-not-branch.true in absurd cc))
