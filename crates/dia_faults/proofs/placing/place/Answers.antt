use Rattle.std.proofs.Common.{ℕ, List, Option, sym, subst, arith, inr}
use Rattle.std.proofs.Math.Logic.{∥∥₁_elim}
use Rattle.std.proofs.lemmas.Option.{slice_get_within, slice_get-get_or}
use Rattle.std.specs.Coded.{le_prop}
use Rattle.dia_book.specs.declared.DRule.{DRule}
use Rattle.dia_book.specs.Dictionary.{definitions}
use Rattle.dia_check.specs.OpenLevels.{Leads}
use Rattle.dia_faults.proofs.Counted.{counted_as_before, counted_more, is_not_allowed}
use Rattle.dia_faults.proofs.JudgedKeys.{Judged, are_rules, few_counted, judged, leads_of, runs_within, same_rules}
use Rattle.dia_faults.proofs.Missing.{no_rule}
use Rattle.dia_faults.proofs.placing.place.Goals as goal

pub def-definition-requires : goal.def-definition-requires
def-definition-requires g c =
    ∥∥₁_elim c.requires.counted le_prop (λ x. let (rules, keys, has, counted, few) = x in slice_get_within (definitions (g.B.Book.meaning c.args.book.now)) c.args.level.def has.definition has.is_definition)

pub slot-requires : goal.slot-requires
slot-requires g c =
    ∥∥₁_elim c.requires.counted le_prop (λ x. let (rules, keys, has, counted, few) = x in slice_get_within (definitions (g.B.Book.meaning c.args.book.now)) c.args.level.def has.definition has.is_definition)

pub push_missing-requires-clause-few : goal.push_missing-requires-clause-few
push_missing-requires-clause-few g c =
    (are_rules (g.B.Book.meaning c.args.book.now) (g.met.B.Book.sound c.args.book.now) c.args.level.def c.def-definition.result.now c.def-definition.ensures c.as_slice-rules.result.now
    c.as_slice-rules.ensures.value).few

pub push_missing-requires-clause-within : goal.push_missing-requires-clause-within
push_missing-requires-clause-within g c =
    let d = g.B.Book.meaning c.args.book.now in let sound = g.met.B.Book.sound c.args.book.now in
    let definition = c.def-definition.result.now in let slice = c.as_slice-rules.result.now in (
      ∥∥₁_elim c.requires.counted le_prop (λ x. let (rules, keys, has, counted, few) = x in
          let leads = (leads_of d sound c.args.level.def definition c.def-definition.ensures slice c.as_slice-rules.ensures.value c.args.counts.now.counts.entries c.args.level.start c.args.level.run c.args.key c.slot.result c.lead-run.result
          c.slot.ensures c.lead-run.ensures rules keys has counted).0 in
          (runs_within d sound c.args.level.def definition c.def-definition.ensures slice c.as_slice-rules.ensures.value keys c.args.key _ _ _ leads).0),
      ∥∥₁_elim c.requires.counted le_prop (λ x. let (rules, keys, has, counted, few) = x in
          let leads = (leads_of d sound c.args.level.def definition c.def-definition.ensures slice c.as_slice-rules.ensures.value c.args.counts.now.counts.entries c.args.level.start c.args.level.run c.args.key c.slot.result c.lead-run.result
          c.slot.ensures c.lead-run.ensures rules keys has counted).0 in
          (runs_within d sound c.args.level.def definition c.def-definition.ensures slice c.as_slice-rules.ensures.value keys c.args.key _ _ _ leads).1),
    )

pub count-requires-clause-within : goal.count-requires-clause-within
count-requires-clause-within g c =
    let d = g.B.Book.meaning c.args.book.now in let sound = g.met.B.Book.sound c.args.book.now in
    let definition = c.def-definition.result.now in let slice = c.as_slice-rules.result.now in
    ∥∥₁_elim c.requires.counted le_prop (λ x. let (rules, keys, has, counted, few) = x in
    let leads = (leads_of d sound c.args.level.def definition c.def-definition.ensures slice c.as_slice-rules.ensures.value c.args.counts.now.counts.entries c.args.level.start c.args.level.run c.args.key c.slot.result c.lead-run.result
    c.slot.ensures c.lead-run.ensures rules keys has counted).0 in
    (leads.counts c.in-Some.rule c.in-Some.is).0)

pub count-requires-clause-low : goal.count-requires-clause-low
count-requires-clause-low g c =
    let d = g.B.Book.meaning c.args.book.now in let sound = g.met.B.Book.sound c.args.book.now in
    let definition = c.def-definition.result.now in let slice = c.as_slice-rules.result.now in (
      c.requires.low.0,
      c.requires.low.1,
      ∥∥₁_elim c.requires.counted le_prop (λ x. let (rules, keys, has, counted, few) = x in
          let leads = (leads_of d sound c.args.level.def definition c.def-definition.ensures slice c.as_slice-rules.ensures.value c.args.counts.now.counts.entries c.args.level.start c.args.level.run c.args.key c.slot.result c.lead-run.result
          c.slot.ensures c.lead-run.ensures rules keys has counted).0 in
          let within = (leads.counts c.in-Some.rule c.in-Some.is).0 in
          let most = (are_rules d sound c.args.level.def definition c.def-definition.ensures slice c.as_slice-rules.ensures.value).few in
          omega (arith, within, most)),
    )

pub count-requires-clause-few : goal.count-requires-clause-few
count-requires-clause-few g c =
    let d = g.B.Book.meaning c.args.book.now in let sound = g.met.B.Book.sound c.args.book.now in
    let definition = c.def-definition.result.now in let slice = c.as_slice-rules.result.now in
    ∥∥₁_elim c.requires.counted le_prop (λ x. let (rules, keys, has, counted, few) = x in
    let (leads, here) = leads_of d sound c.args.level.def definition c.def-definition.ensures slice c.as_slice-rules.ensures.value c.args.counts.now.counts.entries c.args.level.start c.args.level.run c.args.key c.slot.result c.lead-run.result
    c.slot.ensures c.lead-run.ensures rules keys has counted in
    few_counted c.args.counts.now.counts.entries c.args.level.start c.args.level.run slice keys here c.in-Some.rule (leads.counts c.in-Some.rule c.in-Some.is).0 few)

pub returns-in_ok-count-in-Some-clause-placed : goal.returns-in_ok-count-in-Some-clause-placed
returns-in_ok-count-in-Some-clause-placed g c rules keys has counted =
    let d = g.B.Book.meaning c.args.book.now in let sound = g.met.B.Book.sound c.args.book.now in
    let definition = c.def-definition.result.now in let slice = c.as_slice-rules.result.now in
    let same = same_rules d sound c.args.level.def definition c.def-definition.ensures slice c.as_slice-rules.ensures.value rules has in
    let (leads, here) = leads_of d sound c.args.level.def definition c.def-definition.ensures slice c.as_slice-rules.ensures.value c.args.counts.now.counts.entries c.args.level.start c.args.level.run c.args.key c.slot.result c.lead-run.result
    c.slot.ensures c.lead-run.ensures rules keys has counted in
    let to = subst (λ (o : Option ℕ). Leads slice keys c.args.key c.args.level.run c.lead-run.result.0 o) c.in-Some.is leads in
    let within = (leads.counts c.in-Some.rule c.in-Some.is).0 in
    let at = slice_get-get_or slice c.in-Some.rule no_rule within in
    let most = (are_rules d sound c.args.level.def definition c.def-definition.ensures slice c.as_slice-rules.ensures.value).few in
    let (misput, is_misput, added) = c.in_ok-count-in-Some.ensures.judged keys c.args.level.run c.lead-run.result.0 to here in
    let after = counted_more slice keys c.args.key c.args.level.run c.lead-run.result.0 c.in-Some.rule to _ at c.args.counts.now.counts.entries c.count.new.counts.counts.entries c.args.level.start here
    c.in_ok-count-in-Some.ensures.counted (λ i lt ne. c.in_ok-count-in-Some.ensures.others c.args.level.start i (omega (arith, lt, most)) (inr ne)) (λ i q at_q. slice_get_within slice i q at_q) in
    subst (λ (rs : List DRule). Judged c.args.found.now c.count.new.found c.args.at c.count.new.counts.counts.entries c.args.level.start c.lead-run.result.0 rs keys c.args.key) (sym same)
    (judged c.args.at c.args.level.start c.args.counts.now.counts.entries slice c.args.found.now c.push_missing.new.found c.count.new.found c.count.new.counts.counts.entries keys c.args.key c.args.level.run
    c.lead-run.result.0 _ leads here after c.in_ok-push_missing.ensures misput is_misput added)

pub returns-in_ok-push-in-None-clause-placed : goal.returns-in_ok-push-in-None-clause-placed
returns-in_ok-push-in-None-clause-placed g c rules keys has counted =
    let d = g.B.Book.meaning c.args.book.now in let sound = g.met.B.Book.sound c.args.book.now in
    let definition = c.def-definition.result.now in let slice = c.as_slice-rules.result.now in
    let same = same_rules d sound c.args.level.def definition c.def-definition.ensures slice c.as_slice-rules.ensures.value rules has in
    let (leads, here) = leads_of d sound c.args.level.def definition c.def-definition.ensures slice c.as_slice-rules.ensures.value c.args.counts.now.counts.entries c.args.level.start c.args.level.run c.args.key c.slot.result c.lead-run.result
    c.slot.ensures c.lead-run.ensures rules keys has counted in
    let to = subst (λ (o : Option ℕ). Leads slice keys c.args.key c.args.level.run c.lead-run.result.0 o) c.in-None.is leads in
    subst (λ (rs : List DRule). Judged c.args.found.now c.push.new.self c.args.at c.args.counts.now.counts.entries c.args.level.start c.lead-run.result.0 rs keys c.args.key) (sym same)
    (judged c.args.at c.args.level.start c.args.counts.now.counts.entries slice c.args.found.now c.push_missing.new.found c.push.new.self c.args.counts.now.counts.entries keys c.args.key c.args.level.run
    c.lead-run.result.0 _ leads here (counted_as_before slice keys c.args.key c.args.level.run c.lead-run.result.0 to c.args.counts.now.counts.entries c.args.level.start here) c.in_ok-push_missing.ensures _
    (is_not_allowed slice keys c.args.key c.args.level.run c.lead-run.result.0 to) c.in_ok-push-in-None.ensures)
