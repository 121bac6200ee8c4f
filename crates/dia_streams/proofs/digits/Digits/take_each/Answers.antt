use Rattle.std.proofs.Common.{◌+◌, take, drop, true, false, Bool, ◌∷◌, [], get_or, sym, subst}
use Rattle.std.proofs.lemmas.List.{take_more, take_all, take-append-drop}
use Rattle.dia_streams.specs.StreamUnderWay.{Takes}
use Rattle.dia_streams.proofs.DigitsTaken.{Takes-nothing, Takes-both, Takes-stopped}
use Rattle.dia_streams.proofs.digits.Digits.take_each.Goals as goal

pub loop-byte-init : goal.loop-byte-init
loop-byte-init c = record { takes = Takes-nothing c.args.self.now.half c.args.self.now.bytes.items }

pub loop-byte-preserved : goal.loop-byte-preserved
loop-byte-preserved c =
    let i = c.loop-byte.byte-index in
    let text = c.args.text.now in
    let old = c.args.self.now in
    let now = c.loop-byte.self in
    let new = c.take_one.new.self in
    let one = subst (λ (good : Bool). Takes good now.half new.half now.bytes.items new.bytes.items (get_or text i 0 ∷ [])) c.if-not-branch.false c.in_ok-take_one.ensures in
    record {
      takes = subst (Takes true old.half new.half old.bytes.items new.bytes.items) (sym (take_more text i 0 c.loop-byte-test.true))
          (Takes-both true old.half now.half new.half old.bytes.items now.bytes.items new.bytes.items (take i text) (get_or text i 0 ∷ []) c.loop-byte.invariant.takes one);
    }

pub returns-then-not-branch : goal.returns-then-not-branch
returns-then-not-branch c =
    let i = c.loop-byte.byte-index in
    let text = c.args.text.now in
    let old = c.args.self.now in
    let now = c.loop-byte.self in
    let new = c.take_one.new.self in
    let one = subst (λ (good : Bool). Takes good now.half new.half now.bytes.items new.bytes.items (get_or text i 0 ∷ [])) c.if-not-branch.true c.in_ok-take_one.ensures in
    let all = subst (Takes false old.half new.half old.bytes.items new.bytes.items) (sym (take_more text i 0 c.loop-byte-test.true))
    (Takes-both false old.half now.half new.half old.bytes.items now.bytes.items new.bytes.items (take i text) (get_or text i 0 ∷ []) c.loop-byte.invariant.takes one) in
    subst (Takes false old.half new.half old.bytes.items new.bytes.items) (take-append-drop (i + 1) text)
    (Takes-stopped old.half new.half new.half old.bytes.items new.bytes.items (take (i + 1) text) (drop (i + 1) text) all)

pub returns : goal.returns
returns c =
    let old = c.args.self.now in
    let now = c.loop-byte.self in
    subst (Takes true old.half now.half old.bytes.items now.bytes.items) (take_all c.loop-byte.byte-index c.args.text.now c.loop-byte-test.false) c.loop-byte.invariant.takes
