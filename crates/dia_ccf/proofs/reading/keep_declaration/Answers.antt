use Rattle.std.proofs.Common.{◌<◌}
use Rattle.dia_ccf.specs.Places.{DeclOccurs}
use Rattle.dia_ccf.specs.declared.source.Decl.{Decl}
use Rattle.dia_ccf.specs.declared.source.Def.{Def}
use Rattle.dia_ccf.proofs.ReaderPlaces.{all_pushed, rise_pushed, further}
use Rattle.dia_ccf.proofs.reading.keep_declaration.Goals as goal

pub returns-clause-placed : goal.returns-clause-placed
returns-clause-placed c = λ text at h one less.
    (let old = c.args.source.now in
    let d = c.args.decl in
    let more = c.push.new.self.items in
    let grown = c.in_ok-push.ensures.items in
    record {
      placed = record {
        avps = all_pushed (DeclOccurs text) old.avps.items more d grown h.placed.avps one;
        groups = h.placed.groups;
        commands = h.placed.commands;
        avps_rise = rise_pushed (λ (a : Decl). a.at) old.avps.items more d grown h.placed.avps_rise h.avps;
        groups_rise = h.placed.groups_rise;
        commands_rise = h.placed.commands_rise;
      };
      avps = all_pushed (λ (a : Decl). a.at < at) old.avps.items more d grown (further (λ (a : Decl). a.at) d.at at old.avps.items less h.avps) less;
      groups = further (λ (a : Def). a.at) d.at at old.groups.items less h.groups;
      commands = further (λ (a : Def). a.at) d.at at old.commands.items less h.commands;
    })
