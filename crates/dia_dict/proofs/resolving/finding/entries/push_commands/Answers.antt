use Rattle.std.proofs.Common.{◌≡◌, ◌++◌, Bool, true, false, List, [], map, refl, sym, ap, ◌∙◌, subst, OnOk}
use Rattle.std.specs.Prelude.{not, nat_eq, ◌==◌}
use Rattle.std.specs.Option.{option_eq}
use Rattle.dia_book.proofs.Lists.{and_true, and_false}
use Rattle.dia_ccf.specs.declared.source.Head.{Head}
use Rattle.dia_ccf.specs.declared.source.Head.TheVariants.{Group, Command, Error}
use Rattle.dia_ccf.specs.Names.{is_group}
use Rattle.dia_ccf.specs.Plain.{PlainDef, plain_source}
use Rattle.dia_dict.specs.declared.selectors.Selector.{Selector}
use Rattle.dia_dict.specs.declared.fault.DictKind.TheVariants.{DuplicateCommand}
use Rattle.dia_dict.specs.declared.resolving.finding.repeats.Keyed.{Keyed}
use Rattle.dia_dict.specs.Resolution.{wrong, PlainFinding, first_defs, placed_commands, same_selector, head_of}
use Rattle.dia_dict.specs.Selectors.{selector_of}
use Rattle.dia_dict.specs.contracts.selectors.SelectorPartialEq.TheImpl as selectors
use Rattle.dia_dict.specs.SourceChecks.{recorded, plain_finding, keyed_selector, recorded_selector}
use Rattle.dia_dict.proofs.Duplicates.{first_commands-are, again-selectors}
use Rattle.dia_dict.proofs.RepeatsRecorded.{repeats-recorded}
use Rattle.dia_dict.proofs.resolving.finding.entries.push_commands.Goals as goal

abbrev eq : Selector → Selector → Bool
eq = (selectors.eq-value).it

same_answers : (a b : Head) → not (is_group a) ≡ true → not (is_group b) ≡ true → eq (selector_of (head_of a)) (selector_of (head_of b)) ≡ same_selector a b
same_answers (Command c true p a) (Command d true q b) f g = sym (and_true (c == d) (option_eq nat_eq a b))
same_answers (Command c true p a) (Command d false q b) f g = sym (and_false (c == d) (option_eq nat_eq a b))
same_answers (Command c false p a) (Command d true q b) f g = sym (and_false (c == d) (option_eq nat_eq a b))
same_answers (Command c false p a) (Command d false q b) f g = sym (and_true (c == d) (option_eq nat_eq a b))
same_answers (Command c true p a) (Error q) f g = refl
same_answers (Command c false p a) (Error q) f g = refl
same_answers (Error p) (Command d true q b) f g = refl
same_answers (Error p) (Command d false q b) f g = refl
same_answers (Error p) (Error q) f g = refl
same_answers (Group c v) b f g = absurd (let e : not true ≡ true = f in cc)
same_answers a (Group c v) f g = absurd (let e : not true ≡ true = g in cc)

pub returns : goal.returns
returns c =
    let names = c.args.names.now in
    let commands = first_defs (placed_commands (plain_source names.source.now)) in
    let made = ap (map keyed_selector) c.deref.ensures.value ∙ c.in_ok-commands.ensures ∙ ap (map recorded_selector) c.first_commands.ensures in
    let bad = λ (d : PlainDef). wrong DuplicateCommand d.name [] in
    let same = repeats-recorded (λ (i : Keyed Selector). i.key) (λ (i : Keyed Selector). i.part) (λ (i : Keyed Selector). recorded i.recorded) eq (λ (s : Selector). s) eq (λ a b. refl)
    (λ (d : PlainDef). selector_of (head_of d.head)) bad c.deref.result.now commands made in
    subst (λ (fs : List PlainFinding). OnOk c.push_repeats.result (map plain_finding c.push_repeats.new.findings.items ≡ map plain_finding c.args.findings.now.items ++ fs))
    (same ∙ again-selectors eq same_answers bad commands (first_commands-are names.source.now)) c.push_repeats.ensures
