use Rattle.std.proofs.Common.{◌≡◌, ℕ, ◌-◌, List, [], ◌∷◌, ◌++◌, Some, None, length, drop, refl, sym, ap, subst, ◌∙◌, arith}
use Rattle.std.proofs.lemmas.List.{length-drop, take_all}
use Rattle.dia_wire.specs.Wire.{plain_avp}
use Rattle.dia_faults.specs.declared.listing.Rest.{Rest}
use Rattle.dia_faults.specs.Levels.{IsOpened}
use Rattle.dia_faults.proofs.Bodies.{all_closed, broken_found, end_found, few, group_entered, inner, leaf_passed, less_following, less_closed, less_inside, level_closed, low, of_command, room, some_definition, started}
use Rattle.dia_faults.proofs.listing.list_body.Goals as goal

pub loop-avp-init : goal.loop-avp-init
loop-avp-init g c =
    let (command, is) = some_definition (g.B.Book.meaning c.args.basis.now.book.now) c.args.def c.requires.def in (
      command,
      is,
      rw c.new-outer.ensures.items (started _ (g.met.B.Book.sound c.args.basis.now.book.now) _ _ command c.args.bytes.now _ _ _ c.requires.low.0 c.requires.low.1 is (λ n i. c.new-counts.ensures n i)
          (let size = length-drop 20 c.args.bytes.now in take_all (length c.args.bytes.now - 20) (drop 20 c.args.bytes.now) (omega (arith, size))) refl refl refl),
    )

pub overflow_sub-at : goal.overflow_sub-at
overflow_sub-at g c =
    let (command, is, w) = c.loop-avp.invariant in
    (low _ _ _ _ _ _ _ _ _ _ _ w).0

pub judge_avp-requires-clause-low : goal.judge_avp-requires-clause-low
judge_avp-requires-clause-low g c =
    let (command, is, w) = c.loop-avp.invariant in
    let (a, b, e) = low _ _ _ _ _ _ _ _ _ _ _ w in
    rw c.level-level.ensures (omega (arith, b), omega (arith, b, e))

pub judge_avp-requires-clause-counted : goal.judge_avp-requires-clause-counted
judge_avp-requires-clause-counted g c =
    let (command, is, w) = c.loop-avp.invariant in
    let i = inner _ _ _ _ _ _ _ _ _ _ _ w in
    rw c.level-level.ensures (∣ (w.s, i.has, i.counted, few _ _ _ _ _ _ _ _ _ _ _ w _ _ (rw c.in-Ok-Some.field-0-is at c.in-Ok-Some.ensures.avp)) ∣₁)

pub inside-rest-requires : goal.inside-rest-requires
inside-rest-requires g c =
    let (command, is, w) = c.loop-avp.invariant in
    let (a, b, e) = low _ _ _ _ _ _ _ _ _ _ _ w in let (padded, longer, eight) = room _ _ _ _ _ _ _ _ _ _ _ w _ _ (rw c.in-Ok-Some.field-0-is at c.in-Ok-Some.ensures.avp) in
    omega (arith, a, b, padded, longer)

pub loop-avp-smaller-in-Some : goal.loop-avp-smaller-in-Some
loop-avp-smaller-in-Some g c =
    let (command, is, w) = c.loop-avp.invariant in
    less_inside _ _ _ _ _ _ _ _ _ _ _ w (plain_avp c.in-Ok-Some.avp) c.in-Ok-Some.following.now (record { bytes = c.in-Ok-Some.following; def = c.loop-avp.rest.def; start = c.loop-avp.rest.start; end = c.loop-avp.rest.end; run = c.in_ok-run-in-Ok-Some.run' }) c.inside-rest.result _ (rw c.in-Ok-Some.field-0-is at c.in-Ok-Some.ensures.avp)
    (c.push_reserved.ensures.items ∙ ap (λ (l : List Rest). l ++ (record { bytes = c.in-Ok-Some.following; def = c.loop-avp.rest.def; start = c.loop-avp.rest.start; end = c.loop-avp.rest.end; run = c.in_ok-run-in-Ok-Some.run' }) ∷ []) c.in_ok-reserve-in-Ok-Some.ensures.items) c.inside-rest.ensures.bytes c.inside-rest.ensures.end

pub loop-avp-preserved-in-Some : goal.loop-avp-preserved-in-Some
loop-avp-preserved-in-Some g c =
    let (command, is, w) = c.loop-avp.invariant in
    let i = inner _ _ _ _ _ _ _ _ _ _ _ w in
    let deep : w.s.level.depth ≡ c.len-waiting.result = i.deep ∙ sym (c.len-waiting.ensures ∙ c.loop-avp.outer.ok.0) in
    let (group, is_def, opened) = rw c.in-Some.is at c.in_ok-run-in-Ok-Some.ensures.opened in (
      command,
      is,
      rw (c.push_reserved.ensures.items ∙ ap (λ (l : List Rest). l ++ (record { bytes = c.in-Ok-Some.following; def = c.loop-avp.rest.def; start = c.loop-avp.rest.start; end = c.loop-avp.rest.end; run = c.in_ok-run-in-Ok-Some.run' }) ∷ []) c.in_ok-reserve-in-Ok-Some.ensures.items)
          (group_entered _ _ _ _ _ _ _ _ _ _ _ w (plain_avp c.in-Ok-Some.avp) c.in-Ok-Some.following.now (rw c.in-Ok-Some.field-0-is at c.in-Ok-Some.ensures.avp) (record { bytes = c.in-Ok-Some.following; def = c.loop-avp.rest.def; start = c.loop-avp.rest.start; end = c.loop-avp.rest.end; run = c.in_ok-run-in-Ok-Some.run' }) c.judge_avp.new.counts.counts.entries c.judge_avp.new.found refl refl refl refl
          (rw c.level-level.ensures at c.in_ok-run-in-Ok-Some.ensures.others) ((rw c.level-level.ensures at c.in_ok-run-in-Ok-Some.ensures.judged) w.s deep i.has i.counted) group c.in-Some.def is_def
          (subst (λ (n : ℕ). IsOpened (g.B.Book.meaning c.args.basis.now.book.now) c.args.basis.now.levels n (plain_avp c.in-Ok-Some.avp) (Some group)) (sym deep) opened) c.inside-rest.result
          c.inside-rest.ensures.bytes c.inside-rest.ensures.end c.inside-rest.ensures.start c.inside-rest.ensures.def c.inside-rest.ensures.run),
    )

pub loop-avp-smaller-in_default : goal.loop-avp-smaller-in_default
loop-avp-smaller-in_default g c =
    let (command, is, w) = c.loop-avp.invariant in
    less_following _ _ _ _ _ _ _ _ _ _ _ w (plain_avp c.in-Ok-Some.avp) (record { bytes = c.in-Ok-Some.following; def = c.loop-avp.rest.def; start = c.loop-avp.rest.start; end = c.loop-avp.rest.end; run = c.in_ok-run-in-Ok-Some.run' }) (rw c.in-Ok-Some.field-0-is at c.in-Ok-Some.ensures.avp) refl

pub loop-avp-preserved-in_default : goal.loop-avp-preserved-in_default
loop-avp-preserved-in_default g c =
    let (command, is, w) = c.loop-avp.invariant in
    let i = inner _ _ _ _ _ _ _ _ _ _ _ w in
    let deep : w.s.level.depth ≡ c.len-waiting.result = i.deep ∙ sym (c.len-waiting.ensures ∙ c.loop-avp.outer.ok.0) in
    let opened = rw c.in_default.is at c.in_ok-run-in-Ok-Some.ensures.opened in (
      command,
      is,
      leaf_passed _ _ _ _ _ _ _ _ _ _ _ w (plain_avp c.in-Ok-Some.avp) c.in-Ok-Some.following.now (rw c.in-Ok-Some.field-0-is at c.in-Ok-Some.ensures.avp) (record { bytes = c.in-Ok-Some.following; def = c.loop-avp.rest.def; start = c.loop-avp.rest.start; end = c.loop-avp.rest.end; run = c.in_ok-run-in-Ok-Some.run' }) c.judge_avp.new.counts.counts.entries c.judge_avp.new.found refl refl refl refl
          (rw c.level-level.ensures at c.in_ok-run-in-Ok-Some.ensures.others) ((rw c.level-level.ensures at c.in_ok-run-in-Ok-Some.ensures.judged) w.s deep i.has i.counted)
          (subst (λ (n : ℕ). IsOpened (g.B.Book.meaning c.args.basis.now.book.now) c.args.basis.now.levels n (plain_avp c.in-Ok-Some.avp) None) (sym deep) opened),
    )

pub push_missing_at_end-requires-clause-low : goal.push_missing_at_end-requires-clause-low
push_missing_at_end-requires-clause-low g c =
    let (command, is, w) = c.loop-avp.invariant in
    let (a, b, e) = low _ _ _ _ _ _ _ _ _ _ _ w in
    rw c.level-level.ensures (b, omega (arith, b, e))

pub push_missing_at_end-requires-clause-counted : goal.push_missing_at_end-requires-clause-counted
push_missing_at_end-requires-clause-counted g c =
    let (command, is, w) = c.loop-avp.invariant in
    let i = inner _ _ _ _ _ _ _ _ _ _ _ w in
    rw c.level-level.ensures (∣ (_, _, i.has, i.counted) ∣₁)

pub loop-avp-smaller-in-Some-pop : goal.loop-avp-smaller-in-Some-pop
loop-avp-smaller-in-Some-pop g c =
    let (command, is, w) = c.loop-avp.invariant in
    less_closed _ _ _ _ _ _ _ _ _ _ _ w _ _ c.in-Some-pop.ensures.items

pub loop-avp-preserved-in-Some-pop : goal.loop-avp-preserved-in-Some-pop
loop-avp-preserved-in-Some-pop g c =
    let (command, is, w) = c.loop-avp.invariant in
    let i = inner _ _ _ _ _ _ _ _ _ _ _ w in
    let done = end_found _ _ _ _ _ _ _ _ _ _ _ w c.push_missing_at_end.new.found (c.in-Ok-None.ensures.end.0 (rw c.in-Ok-None.field-0-is refl))
    (c.in_ok-push_missing_at_end-in-Ok-None.ensures w.s.level.rules _ (rw c.level-level.ensures i.has) (rw c.level-level.ensures i.counted)) in
    (command, is, level_closed _ _ _ _ _ _ _ _ _ _ _ w c.push_missing_at_end.new.found done _ _ c.in-Some-pop.ensures.items)

pub returns-in-None : goal.returns-in-None
returns-in-None g c other is_other =
    let (command, is, w) = c.loop-avp.invariant in
    let i = inner _ _ _ _ _ _ _ _ _ _ _ w in
    let done = end_found _ _ _ _ _ _ _ _ _ _ _ w c.push_missing_at_end.new.found (c.in-Ok-None.ensures.end.0 (rw c.in-Ok-None.field-0-is refl))
    (c.in_ok-push_missing_at_end-in-Ok-None.ensures w.s.level.rules _ (rw c.level-level.ensures i.has) (rw c.level-level.ensures i.counted)) in
    of_command (g.B.Book.meaning c.args.basis.now.book.now) c.args.basis.now.unknown c.args.basis.now.levels c.args.def c.args.bytes.now c.args.found.now c.push_missing_at_end.new.found command other is is_other
    (all_closed _ _ _ _ _ _ _ _ _ _ _ w c.push_missing_at_end.new.found done (sym c.loop-avp.outer.ok.0 ∙ c.in-None.ensures.cases.0))

pub push-requires : goal.push-requires
push-requires g c =
    let (command, is, w) = c.loop-avp.invariant in
    let (a, b, e) = low _ _ _ _ _ _ _ _ _ _ _ w in
    omega (arith, b)

pub loop-avp-smaller : goal.loop-avp-smaller
loop-avp-smaller g c =
    let (command, is, w) = c.loop-avp.invariant in
    less_closed _ _ _ _ _ _ _ _ _ _ _ w _ _ c.in-Some-pop-2.ensures.items

pub loop-avp-preserved : goal.loop-avp-preserved
loop-avp-preserved g c =
    let (command, is, w) = c.loop-avp.invariant in
    let done = broken_found _ _ _ _ _ _ _ _ _ _ _ w c.push.new.self c.in-Err-Length.ensures.fault.0 c.in-Err-Length.ensures.fault.1 c.in_ok-push-in-Err-Length.ensures in
    (command, is, level_closed _ _ _ _ _ _ _ _ _ _ _ w c.push.new.self done _ _ c.in-Some-pop-2.ensures.items)

pub returns-in-None-pop : goal.returns-in-None-pop
returns-in-None-pop g c other is_other =
    let (command, is, w) = c.loop-avp.invariant in
    let done = broken_found _ _ _ _ _ _ _ _ _ _ _ w c.push.new.self c.in-Err-Length.ensures.fault.0 c.in-Err-Length.ensures.fault.1 c.in_ok-push-in-Err-Length.ensures in
    of_command (g.B.Book.meaning c.args.basis.now.book.now) c.args.basis.now.unknown c.args.basis.now.levels c.args.def c.args.bytes.now c.args.found.now c.push.new.self command other is is_other
    (all_closed _ _ _ _ _ _ _ _ _ _ _ w c.push.new.self done (sym c.loop-avp.outer.ok.0 ∙ c.in-None-pop.ensures.cases.0))
