use Rattle.std.proofs.Common.{map, refl, subst}
use Rattle.dia_breaking.specs.Exits.{AreExits}
use Rattle.std.proofs.lemmas.Option.{slice_get_within}
use Rattle.dia_book.specs.Dictionary.{definitions}
use Rattle.dia_valid.specs.Rules.{rules_in}
use Rattle.dia_breaking.specs.Sender.{costs_of}
use Rattle.dia_breaking.specs.TheLines.{AreLevels, IsCommandLevel}
use Rattle.dia_breaking.specs.Upgrades.{sides_of}
use Rattle.dia_breaking.proofs.Starts.{start_found}
use Rattle.dia_breaking.proofs.start.Start.of.Goals as goal

pub of-requires : goal.of-requires
of-requires g c = slice_get_within (definitions (sides_of c.args.upgrade.now).sender) c.args.command c.requires.0 c.requires.1

pub returns-clause-start : goal.returns-clause-start
returns-clause-start g c =
    let up = c.args.upgrade.now in
    let s = sides_of up in
    let k = costs_of up.lengths in
    start_found s.sender s.receiver up.recording.value k c.args.command _ up.apps.value c.in_ok-exits.exits up.first_apps up.second_apps
    (subst (λ recording. AreExits recording k (rules_in s.sender c.args.command) c.in_ok-exits.exits) c.deref.ensures c.in_ok-exits.ensures)
    refl c.in_ok-walk_exits.ensures c.in_ok-readings.ensures
    (subst (λ readings. AreLevels (IsCommandLevel s.sender s.receiver k c.args.head.now) readings (map (λ lines. lines.items) c.in_ok-levels.levels.items)) c.deref-2.ensures.value c.in_ok-levels.ensures)
