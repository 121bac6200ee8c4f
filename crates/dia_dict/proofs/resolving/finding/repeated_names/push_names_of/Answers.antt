use Rattle.std.proofs.Common.{◌≡◌, ◌++◌, List, [], map, refl, ap, ◌∙◌, subst, OnOk, Bor, ℕ}
use Rattle.std.proofs.lemmas.List.{take_all}
use Rattle.dia_terms.specs.Names.{same_bytes}
use Rattle.dia_dict.specs.declared.fault.DictKind.TheVariants.{DuplicateName}
use Rattle.dia_dict.specs.declared.findings.Part.{Part}
use Rattle.dia_dict.specs.declared.resolving.finding.repeats.Keyed.{Keyed}
use Rattle.dia_dict.specs.Resolution.{Wrong, wrong, PlainFinding, part_at, placed}
use Rattle.dia_dict.specs.SourceChecks.{recorded, plain_finding, keyed_text}
use Rattle.dia_dict.proofs.Duplicates.{same_text, text_of}
use Rattle.dia_dict.proofs.Placing.{placed-made-by}
use Rattle.dia_dict.proofs.RepeatsRecorded.{repeats-recorded}
use Rattle.dia_dict.proofs.resolving.finding.repeated_names.push_names_of.Goals as goal

abbrev named_text : Part × List ℕ → Part × (List ℕ × Wrong)
named_text n = (n.0, (n.1, wrong DuplicateName n.1 []))

pub loop-index-preserved : goal.loop-index-preserved
loop-index-preserved g c =
    placed-made-by (part_at c.args.kind) keyed_text named_text g.T.Named.name c.args.items.now c.loop-index.index c.index-items-index.result _ _ c.named.result
    c.loop-index-test.true c.index-items-index.is c.loop-index.invariant (c.named.ensures ∙ (λ i. named_text (c.at.ensures i, c.name.ensures i))) c.in_ok-push.ensures.items

pub returns : goal.returns
returns g c =
    let parts = placed (part_at c.args.kind) (map g.T.Named.name c.args.items.now) in
    let made = ap (map keyed_text) c.deref.ensures.value ∙ c.loop-index.invariant
    ∙ ap (λ (xs : List g.row.T.Denot). map named_text (placed (part_at c.args.kind) (map g.T.Named.name xs))) (take_all c.loop-index.index c.args.items.now c.loop-index-test.false) in
    let same = repeats-recorded (λ (i : Keyed (Bor (List ℕ))). i.key) (λ (i : Keyed (Bor (List ℕ))). i.part) (λ (i : Keyed (Bor (List ℕ))). recorded i.recorded) same_text text_of same_bytes (λ a b. refl)
    (λ (n : List ℕ). n) (λ (n : List ℕ). wrong DuplicateName n []) c.deref.result.now parts made in
    subst (λ (fs : List PlainFinding). OnOk c.push_repeats.result (map plain_finding c.push_repeats.new.findings.items ≡ map plain_finding c.args.findings.now.items ++ fs)) same c.push_repeats.ensures
