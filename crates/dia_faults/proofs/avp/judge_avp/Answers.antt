use Rattle.std.proofs.Common.{sym, arith, refl}
use Rattle.std.proofs.Math.Logic.{∥∥₁_map}
use Rattle.std.proofs.lemmas.List.{length-map}
use Rattle.dia_wire.specs.Wire.{key_of, plain_avp}
use Rattle.dia_faults.specs.States.{rest_keys}
use Rattle.dia_faults.proofs.Own.{flagged, not_flagged, own}
use Rattle.dia_faults.proofs.avp.judge_avp.Goals.{in-Some+in_ok-push, in_default}
use Rattle.dia_faults.proofs.avp.judge_avp.Goals as goal

pub place-requires-clause-counted : goal.place-requires-clause-counted
place-requires-clause-counted g c =
    ∥∥₁_map c.requires.counted (λ x. let (s, has, counted, few) = x in (s.level.rules, rest_keys s, has, counted, omega (arith, few, length-map s.earlier key_of)))

pub returns-clause-judged : goal.returns-clause-judged
returns-clause-judged g c s deep has counted =
    let d = g.B.Book.meaning c.args.basis.now.book.now in let u = c.args.basis.now.unknown in let v = plain_avp c.args.avp.now in
    own d u v c.key-key.result c.key-key.ensures c.args.at c.args.basis.now.levels s c.args.depth deep c.args.found.now c.match-wrong_flags.found c.place.new.found c.judge_data.new.found
    c.place.new.counts.counts.entries c.args.level.start _ (elim c.match-wrong_flags.branch [
      | in-Some+in_ok-push w ↦ flagged d u v c.key-key.result c.key-key.ensures c.args.at c.args.found.now c.match-wrong_flags.found w.in-Some.wrong w.push.new.self w.in-Some.ensures w.found-is w.in_ok-push.ensures
      | in_default w ↦ not_flagged d u v c.key-key.result c.key-key.ensures c.args.at c.args.found.now c.match-wrong_flags.found w.in_default.ensures w.found-is
    ]) (c.in_ok-run.ensures.placed s.level.rules (rest_keys s) has counted) (c.in_ok-group.ensures.judged v (sym c.key-key.ensures) refl)
