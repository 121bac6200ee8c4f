use Rattle.std.proofs.Common.{length, refl, sym, ap, arith}
use Rattle.std.specs.Option.{option_map}
use Rattle.std.proofs.lemmas.Option.{slice_get_past, slice_get_read}
use Rattle.dia_ccf.specs.declared.source.Decl.{Decl}
use Rattle.dia_explain_places.proofs.sites.start_among_decls.Goals as goal

pub returns-in-Some : goal.returns-in-Some
returns-in-Some c =
    let decls = c.args.decls.now in
    let decl = c.in-Some.decl.now in
    let there = c.in-Some.ensures.lookup.3 in
    ap (option_map (λ (d : Decl). d.at)) (sym (slice_get_read decls (length decls) c.args.index decl refl there.0 (there.1 decl)))

pub returns-in-None : goal.returns-in-None
returns-in-None c = ap (option_map (λ (d : Decl). d.at)) (sym (slice_get_past c.args.decls.now c.args.index (omega (arith, c.in-None.ensures.lookup))))
