use Rattle.std.proofs.Common.{◌≡◌, List, ◌++◌, length, map, filter, sym, ap, ◌∙◌, subst, arith}
use Rattle.std.proofs.lemmas.List.{length-map}
use Rattle.dia_ccf.specs.declared.source.Decl.{Decl}
use Rattle.dia_ccf.specs.declared.source.Def.{Def}
use Rattle.dia_ccf.specs.Plain.{plain_source, plain_decl, plain_def}
use Rattle.dia_book.specs.Dictionary.{DictEntry, Dictionary, IsDictionary, plain_definition}
use Rattle.dia_dict.specs.PlainMeaning.{dictionary_of, entry_of_row}
use Rattle.dia_dict.specs.Resolution.{resolved, declared_entry, bare_entry, is_bare, definition_of}
use Rattle.dia_dict.proofs.FaultlessSources.{formed, no_findings}
use Rattle.dia_dict.proofs.SoundSources.{sound, few}
use Rattle.dia_dict.proofs.resolving.building.book.Goals as goal
use Rattle.dia_dict.proofs.resolving.building.book.Goals.{In_ok-commands}

meant : (c : In_ok-commands) → dictionary_of c.push_groups.new.entries.rows.items (map plain_definition c.push_groups.new.entries.groups.items)
    (map plain_definition c.in_ok-commands.commands.items) ≡ resolved (plain_source c.args.names.now.source.now)
meant c =
    let s = plain_source c.args.names.now.source.now in
    let declared = c.in_ok-push_declarations.ensures ∙ ap (λ (es : List DictEntry). es ++ map (declared_entry s) (map plain_decl c.deref.result.now)) c.new-entries.ensures
    ∙ ap (λ (ds : List Decl). map (declared_entry s) (map plain_decl ds)) c.deref.ensures.value in
    let entries = c.in_ok-push_groups.ensures ∙ ap (λ (es : List DictEntry). es ++ map (bare_entry s) (filter (is_bare s) (map plain_def c.deref-2.result.now))) declared
    ∙ ap (λ (ds : List Def). map (declared_entry s) s.avps ++ map (bare_entry s) (filter (is_bare s) (map plain_def ds))) c.deref-2.ensures.value in
    let commands = c.in_ok-commands.ensures ∙ ap (λ (ds : List Def). map (definition_of s) (map plain_def ds)) c.deref-3.ensures.value in
    λ i. record { entries = entries i; commands = commands i }

pub new-requires-clause-few : goal.new-requires-clause-few
new-requires-clause-few c =
    let source = c.args.names.now.source.now in
    let s = plain_source source in
    let m = meant c in
    omega (
      arith,
      few s (formed source) (no_findings s c.requires),
      ap (λ (d : Dictionary). length d.entries) m,
      ap (λ (d : Dictionary). length d.commands) m,
      length-map c.push_groups.new.entries.rows.items (entry_of_row (map plain_definition c.push_groups.new.entries.groups.items)),
      length-map c.in_ok-commands.commands.items plain_definition,
    )

pub new-requires-clause-sound : goal.new-requires-clause-sound
new-requires-clause-sound c =
    let source = c.args.names.now.source.now in
    subst IsDictionary (sym (meant c)) (sound (plain_source source) (formed source) (no_findings (plain_source source) c.requires))
