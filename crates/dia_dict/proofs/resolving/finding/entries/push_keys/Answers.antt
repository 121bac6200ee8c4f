use Rattle.std.proofs.Common.{◌≡◌, ◌++◌, List, [], map, refl, ap, ◌∙◌, subst, OnOk, ℕ}
use Rattle.dia_wire.specs.declared.Key.{Key}
use Rattle.dia_ccf.specs.Plain.{plain_source}
use Rattle.dia_book.specs.Keys.{same_key}
use Rattle.dia_dict.specs.declared.fault.DictKind.TheVariants.{DuplicateKey}
use Rattle.dia_dict.specs.declared.resolving.finding.repeats.Keyed.{Keyed}
use Rattle.dia_dict.specs.Resolution.{wrong, PlainFinding, placed_names}
use Rattle.dia_dict.specs.SourceChecks.{recorded, plain_finding, keyed_key}
use Rattle.dia_dict.proofs.RepeatsRecorded.{repeats-recorded}
use Rattle.dia_dict.proofs.resolving.finding.entries.push_keys.Goals as goal

pub returns : goal.returns
returns c =
    let s = plain_source c.args.names.now.source.now in
    let made = ap (map keyed_key) c.deref.ensures.value ∙ c.in_ok-avps.ensures in
    let same = repeats-recorded (λ (i : Keyed Key). i.key) (λ (i : Keyed Key). i.part) (λ (i : Keyed Key). recorded i.recorded) same_key (λ (k : Key). k) same_key (λ a b. refl)
    (λ (n : List ℕ × Key). n.1) (λ (n : List ℕ × Key). wrong DuplicateKey n.0 []) c.deref.result.now (placed_names s) made in
    subst (λ (fs : List PlainFinding). OnOk c.push_repeats.result (map plain_finding c.push_repeats.new.findings.items ≡ map plain_finding c.args.findings.now.items ++ fs)) same c.push_repeats.ensures
