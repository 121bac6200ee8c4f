use Rattle.std.proofs.Common.{sym, subst, arith}
use Rattle.std.specs.Prelude.{IfOk}
use Rattle.std.proofs.Math.Logic.{∥∥₁_map₂}
use Rattle.dia_breaking.specs.Free.{AreValidWhereFree}
use Rattle.dia_breaking.specs.Headers.{HasHead}
use Rattle.dia_breaking.specs.Corrected.{AreValidOnceCorrected}
use Rattle.dia_breaking.specs.Sides.{answer}
use Rattle.dia_breaking.specs.TheLines.{HasTheLines, IsOfHead}
use Rattle.dia_breaking.specs.TheMeanings.{AreMeaningsOf, AreMeant, HoldsOfLevels}
use Rattle.dia_breaking.specs.Upgrades.{facts_of, sides_of}
use Rattle.dia_breaking.specs.declared.heads.Head.{Head}
use Rattle.dia_breaking.proofs.AllLines.{lines_free, lines_corrected}
use Rattle.dia_breaking.proofs.AllMeanings.{all_meant}
use Rattle.dia_breaking.proofs.FoundLines.{lines_found, meanings_found}
use Rattle.dia_breaking.proofs.Lists.{when_three, when_two}
use Rattle.dia_breaking.proofs.upgrade.Upgrade.found.Goals as goal

pub found_from-requires-clause-head : goal.found_from-requires-clause-head
found_from-requires-clause-head g c = subst (λ (head : Head). HasHead (sides_of c.args.self.now).sender c.args.command head) (sym c.in_ok-start.ensures.head) c.requires

pub found_from-requires-clause-start : goal.found_from-requires-clause-start
found_from-requires-clause-start g c = c.in_ok-start.ensures.start

pub returns-clause-head : goal.returns-clause-head
returns-clause-head g c = subst (λ (head : Head). IfOk c.found_from.result (λ breaks. IsOfHead breaks head)) c.in_ok-start.ensures.head c.found_from.ensures.head

pub returns-clause-free : goal.returns-clause-free
returns-clause-free g c =
    let up = c.args.self.now in
    let s = sides_of up in
    let head = subst (λ (head : Head). HasHead s.sender c.args.command head) (sym c.in_ok-start.ensures.head) c.requires in
    when_three _ _ _ _ c.found_from.result (λ breaks own few found. ∥∥₁_map₂ up.known up.lengths.floors (λ facts floors.
    let here = lines_free s.sender s.receiver s.sends s.unknown (facts_of up) c.in_ok-start.start c.args.command breaks.sites.items breaks.lines.items
    (g.met.A.Book.sound up.lengths.book.now) (g.met.B.Book.sound up.b.now) facts floors head c.in_ok-start.ensures.start found (omega (arith, few)) in
    subst (λ number. AreValidWhereFree s (answer number breaks.sites.items breaks.lines.items)) (sym own) here))
    c.found_from.ensures.command c.found_from.ensures.few c.found_from.ensures.listing

pub returns-clause-corrected : goal.returns-clause-corrected
returns-clause-corrected g c =
    let up = c.args.self.now in
    let s = sides_of up in
    let head = subst (λ (head : Head). HasHead s.sender c.args.command head) (sym c.in_ok-start.ensures.head) c.requires in
    when_three _ _ _ _ c.found_from.result (λ breaks own few found. ∥∥₁_map₂ up.known up.lengths.floors (λ facts floors.
    let here = lines_corrected s.sender s.receiver s.sends s.unknown (facts_of up) c.in_ok-start.start c.args.command breaks.sites.items breaks.lines.items
    (g.met.A.Book.sound up.lengths.book.now) (g.met.B.Book.sound up.b.now) facts floors head c.in_ok-start.ensures.start found (omega (arith, few)) in
    subst (λ number. AreValidOnceCorrected s (answer number breaks.sites.items breaks.lines.items)) (sym own) here))
    c.found_from.ensures.command c.found_from.ensures.few c.found_from.ensures.listing

pub returns-clause-lines : goal.returns-clause-lines
returns-clause-lines g c =
    let up = c.args.self.now in
    when_two _ _ _ c.found_from.result (λ breaks own found.
    let here = lines_found (sides_of up) c.args.command (facts_of up) c.in_ok-start.start c.args.head.now breaks.sites.items up.known c.in_ok-start.ensures.head breaks.lines.items
    c.in_ok-start.ensures.start c.requires found in
    subst (λ number. HasTheLines (sides_of up) (answer number breaks.sites.items breaks.lines.items)) (sym own) here)
    c.found_from.ensures.command c.found_from.ensures.listing

pub returns-clause-meanings : goal.returns-clause-meanings
returns-clause-meanings g c =
    let up = c.args.self.now in
    when_two _ _ _ c.found_from.result (λ breaks own found.
    let here = meanings_found (sides_of up) c.args.command (facts_of up) c.in_ok-start.start c.args.head.now breaks.sites.items up.known c.in_ok-start.ensures.head
    breaks.lines.items breaks.meanings.items c.in_ok-start.ensures.start c.requires found in
    subst (λ number. AreMeaningsOf (sides_of up) (answer number breaks.sites.items breaks.lines.items) breaks.meanings.items) (sym own) here)
    c.found_from.ensures.command c.found_from.ensures.meanings

pub returns-clause-all_meanings : goal.returns-clause-all_meanings
returns-clause-all_meanings g c =
    let up = c.args.self.now in
    let s = sides_of up in
    when_two _ _ _ c.found_from.result (λ breaks own found. ∥∥₁_map₂ up.known up.lengths.floors (λ facts floors.
    let here = all_meant s.sender s.receiver s.sends s.unknown (facts_of up) c.in_ok-start.start c.args.command breaks.sites.items breaks.lines.items breaks.meanings.items
    (g.met.A.Book.sound up.lengths.book.now) (g.met.B.Book.sound up.b.now) facts floors c.in_ok-start.ensures.start found in
    subst (λ number. HoldsOfLevels s (answer number breaks.sites.items breaks.lines.items) (AreMeant s breaks.meanings.items)) (sym own) here))
    c.found_from.ensures.command c.found_from.ensures.meanings
