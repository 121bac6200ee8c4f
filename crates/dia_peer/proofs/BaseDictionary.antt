-- The base dictionary is a dictionary: each fact that a source has by its types is computed of its own.
use Rattle.std.proofs.Common.{◌≡◌, Bool, true, false, ◌||◌, not, map, None, refl}
use Rattle.std.specs.Prelude.{is_some}
use Rattle.std.specs.List.{list_all}
use Rattle.dia_terms.specs.Names.{is_name}
use Rattle.dia_ccf.specs.Names.{is_group, is_fixed, fixed_first}
use Rattle.dia_ccf.specs.Plain.{PlainDecl, PlainDef, PlainRule, PlainSource}
use Rattle.dia_book.specs.Dictionary.{IsDictionary}
use Rattle.dia_book.proofs.Members.{first-none, list_all_at}
use Rattle.dia_dict.specs.Base.{base, base_source}
use Rattle.dia_dict.specs.Resolution.{all_wrong, first_wrong, resolved}
use Rattle.dia_dict.proofs.BaseSound.{first_wrong-base_source}
use Rattle.dia_dict.proofs.FaultlessSources.{IsFormed, all_defs, clean}
use Rattle.dia_dict.proofs.SoundSources.{sound}

-- a fixed rule has a name
abbrev is_named : PlainRule → Bool
is_named r = not (is_fixed r.kind) || is_some r.name

named_if_fixed : (fixed named : Bool) → (not fixed || named) ≡ true → fixed ≡ true → named ≡ true
named_if_fixed true named e t = e
named_if_fixed false named e t = absurd cc

module _ (s : PlainSource) where
  formed : list_all (λ (d : PlainDecl). is_name d.name) s.avps ≡ true → list_all (λ (d : PlainDef). is_name d.name) (all_defs s) ≡ true → list_all (λ (g : PlainDef). is_group g.head) s.groups ≡ true
      → list_all (λ (c : PlainDef). not (is_group c.head)) s.commands ≡ true → list_all (λ (d : PlainDef). fixed_first (map (λ (r : PlainRule). r.kind) d.rules)) (all_defs s) ≡ true
      → list_all (λ (d : PlainDef). list_all is_named d.rules) (all_defs s) ≡ true → IsFormed s
  formed declared defined groups commands ordered named = record {
    declared_names = list_all_at (λ (d : PlainDecl). is_name d.name) s.avps declared;
    defined_names = list_all_at (λ (d : PlainDef). is_name d.name) (all_defs s) defined;
    groups = list_all_at (λ (g : PlainDef). is_group g.head) s.groups groups;
    commands = list_all_at (λ (c : PlainDef). not (is_group c.head)) s.commands commands;
    ordered = list_all_at (λ (d : PlainDef). fixed_first (map (λ (r : PlainRule). r.kind) d.rules)) (all_defs s) ordered;
    named = λ i j d r at here fixed.
        named_if_fixed (is_fixed r.kind) (is_some r.name) (list_all_at is_named d.rules (list_all_at (λ (x : PlainDef). list_all is_named x.rules) (all_defs s) named i d at) j r here) fixed;
  }

  of_source : IsFormed s → first_wrong s ≡ None → IsDictionary (resolved s)
  of_source is_formed none = sound s is_formed (clean s (first-none (all_wrong s) none))

pub base_is_dictionary : IsDictionary base
base_is_dictionary = of_source base_source (formed base_source refl refl refl refl refl refl) first_wrong-base_source
