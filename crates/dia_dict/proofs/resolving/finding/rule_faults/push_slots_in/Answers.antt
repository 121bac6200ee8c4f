use Rattle.std.proofs.Common.{◌≡◌, ◌++◌, List, map, refl, ap, ◌∙◌, subst, OnOk, Bor, ℕ}
use Rattle.dia_terms.specs.Names.{same_bytes}
use Rattle.dia_ccf.specs.Plain.{PlainRule}
use Rattle.dia_dict.specs.declared.fault.DictKind.TheVariants.{RepeatedSlot}
use Rattle.dia_dict.specs.declared.resolving.finding.repeats.Keyed.{Keyed}
use Rattle.dia_dict.specs.Resolution.{wrong, PlainFinding, placed_rules, slot_name}
use Rattle.dia_dict.specs.SourceChecks.{recorded, plain_finding, placed_def, keyed_text}
use Rattle.dia_dict.proofs.Duplicates.{same_text, text_of}
use Rattle.dia_dict.proofs.RepeatsRecorded.{repeats-recorded}
use Rattle.dia_dict.proofs.resolving.finding.rule_faults.push_slots_in.Goals as goal

pub returns : goal.returns
returns c =
    let def = placed_def c.args.def in
    let made = ap (map keyed_text) c.deref.ensures.value ∙ c.in_ok-slots.ensures in
    let same = repeats-recorded (λ (i : Keyed (Bor (List ℕ))). i.key) (λ (i : Keyed (Bor (List ℕ))). i.part) (λ (i : Keyed (Bor (List ℕ))). recorded i.recorded) same_text text_of same_bytes (λ a b. refl)
    slot_name (λ (r : PlainRule). wrong RepeatedSlot def.1.name (slot_name r)) c.deref.result.now (placed_rules def) made in
    subst (λ (fs : List PlainFinding). OnOk c.push_repeats.result (map plain_finding c.push_repeats.new.findings.items ≡ map plain_finding c.args.findings.now.items ++ fs)) same c.push_repeats.ensures
