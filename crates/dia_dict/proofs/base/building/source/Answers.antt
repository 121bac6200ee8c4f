use Rattle.std.proofs.Common.{◌≡◌, Bool, true, List, map, refl, ap, sym, ◌∙◌}
use Rattle.std.specs.Prelude.{not}
use Rattle.std.specs.List.{list_all}
use Rattle.std.proofs.lemmas.List.Folds.{list_all-map}
use Rattle.dia_ccf.specs.declared.Def.{Def}
use Rattle.dia_ccf.specs.Names.{is_group}
use Rattle.dia_ccf.specs.Plain.{PlainDef, plain_def}
use Rattle.dia_dict.specs.Base.{base_source}
use Rattle.dia_dict.proofs.base.building.source.Goals as goal

-- a test of definitions, by what they are without memory
list_all-plain : (p : PlainDef → Bool) (defs : List Def) (plain : List PlainDef) → map plain_def defs ≡ plain → list_all p plain ≡ true → list_all (λ d. p (plain_def d)) defs ≡ true
list_all-plain p defs plain same all = sym (list_all-map p plain_def defs) ∙ ap (list_all p) same ∙ all

pub invariant_of-result : goal.invariant_of-result
invariant_of-result c = record {
  grouped = list_all-plain (λ d. is_group d.head) c.in_ok-groups.field-0.items base_source.groups c.in_ok-groups.ensures refl;
  commanded = list_all-plain (λ d. not (is_group d.head)) c.in_ok-commands.field-0.items base_source.commands c.in_ok-commands.ensures refl;
}

pub returns : goal.returns
returns c = λ i. record { avps = c.in_ok-avps.ensures i; groups = c.in_ok-groups.ensures i; commands = c.in_ok-commands.ensures i }
