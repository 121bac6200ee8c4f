use Rattle.std.proofs.Common.{◌++◌, List, map, filter, sym, ap, ◌∙◌, ℕ}
use Rattle.std.proofs.lemmas.List.{map-append}
use Rattle.dia_wire.specs.declared.Key.{Key}
use Rattle.dia_ccf.specs.Plain.{PlainDecl, PlainDef, plain_source}
use Rattle.dia_dict.specs.declared.findings.Part.{Part}
use Rattle.dia_dict.specs.declared.resolving.finding.repeats.Keyed.{Keyed}
use Rattle.dia_dict.specs.Resolution.{Wrong, is_bare, key_of_decl, group_key}
use Rattle.dia_dict.specs.SourceChecks.{placed_decl, placed_def, keyed_key, recorded_key}
use Rattle.dia_dict.proofs.resolving.finding.entries.keyed_avps.Goals as goal

abbrev declared : List (Part × PlainDecl) → List (Part × (List ℕ × Key))
declared ds = map (λ d. (d.0, (d.1.name, key_of_decl d.1))) ds

abbrev grouped : List (Part × PlainDef) → List (Part × (List ℕ × Key))
grouped gs = map (λ g. (g.0, (g.1.name, group_key g.1.head))) gs

pub returns : goal.returns
returns c =
    let names = c.args.names.now in
    let s = plain_source names.source.now in
    let avps = declared (map placed_decl c.first_avps.result.now) in
    let bare = grouped (filter (λ (g : Part × PlainDef). is_bare s g.1) (map placed_def c.first_groups.result.now)) in
    c.in_ok-push_bare.ensures ∙ ap (λ (ks : List (Part × (Key × Wrong))). ks ++ map recorded_key bare) c.in_ok-push_declared.ensures
    ∙ ap (λ (is : List (Keyed Key)). map keyed_key is ++ map recorded_key avps ++ map recorded_key bare) c.new-avps.ensures.items
    ∙ sym (map-append recorded_key avps bare) ∙ ap (map recorded_key) (λ i. declared (c.first_avps.ensures i) ++ grouped (filter (λ (g : Part × PlainDef). is_bare s g.1) (c.first_groups.ensures i)))
