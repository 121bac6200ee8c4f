use Rattle.std.proofs.Common.{◌<◌}
use Rattle.dia_ccf.specs.Places.{DefOccurs}
use Rattle.dia_ccf.specs.declared.source.Decl.{Decl}
use Rattle.dia_ccf.specs.declared.source.Def.{Def}
use Rattle.dia_ccf.proofs.ReaderPlaces.{all_pushed, rise_pushed, further, command_kept}
use Rattle.dia_ccf.proofs.reading.keep_definition.Goals as goal

pub returns-in_ok-push-in-Group-clause-placed : goal.returns-in_ok-push-in-Group-clause-placed
returns-in_ok-push-in-Group-clause-placed c = λ text at h one less.
    (let old = c.args.source.now in
    let d = c.args.def in
    let more = c.push.new.self.items in
    let grown = c.in_ok-push-in-Group.ensures.items in
    record {
      placed = record {
        avps = h.placed.avps;
        groups = all_pushed (DefOccurs text) old.groups.items more d grown h.placed.groups one;
        commands = h.placed.commands;
        avps_rise = h.placed.avps_rise;
        groups_rise = rise_pushed (λ (a : Def). a.at) old.groups.items more d grown h.placed.groups_rise h.groups;
        commands_rise = h.placed.commands_rise;
      };
      avps = further (λ (a : Decl). a.at) d.at at old.avps.items less h.avps;
      groups = all_pushed (λ (a : Def). a.at < at) old.groups.items more d grown (further (λ (a : Def). a.at) d.at at old.groups.items less h.groups) less;
      commands = further (λ (a : Def). a.at) d.at at old.commands.items less h.commands;
    })

pub returns-in_ok-push-in-Command-clause-kept : goal.returns-in_ok-push-in-Command-clause-kept
returns-in_ok-push-in-Command-clause-kept c = command_kept c.args.source.now c.args.def c.push-in-Command.new.self.items c.in-Command.is c.in_ok-push-in-Command.ensures.items

pub returns-in_ok-push-in-Command-clause-placed : goal.returns-in_ok-push-in-Command-clause-placed
returns-in_ok-push-in-Command-clause-placed c = λ text at h one less.
    (let old = c.args.source.now in
    let d = c.args.def in
    let more = c.push-in-Command.new.self.items in
    let grown = c.in_ok-push-in-Command.ensures.items in
    record {
      placed = record {
        avps = h.placed.avps;
        commands = all_pushed (DefOccurs text) old.commands.items more d grown h.placed.commands one;
        groups = h.placed.groups;
        avps_rise = h.placed.avps_rise;
        commands_rise = rise_pushed (λ (a : Def). a.at) old.commands.items more d grown h.placed.commands_rise h.commands;
        groups_rise = h.placed.groups_rise;
      };
      avps = further (λ (a : Decl). a.at) d.at at old.avps.items less h.avps;
      commands = all_pushed (λ (a : Def). a.at < at) old.commands.items more d grown (further (λ (a : Def). a.at) d.at at old.commands.items less h.commands) less;
      groups = further (λ (a : Def). a.at) d.at at old.groups.items less h.groups;
    })
