use Rattle.std.proofs.Common.{sym, subst, length, ◌∙◌}
use Rattle.dia_wire.specs.declared.Key.{Key}
use Rattle.dia_wire.specs.Wire.{plain_avp}
use Rattle.dia_book.specs.Dictionary.{definitions}
use Rattle.dia_check.specs.OpenLevels.{AreOpen, and_key}
use Rattle.dia_valid.proofs.Entries.{entry_within}
use Rattle.dia_check.proofs.AvpFaults.{fine_known, fine_unknown, wrong_refused, wrong_data}
use Rattle.dia_check.proofs.admission.check_avp.Goals as goal

pub returns-in-Some : goal.returns-in-Some
returns-in-Some g c outer level now =
    wrong_refused (g.B.Book.meaning c.args.basis.now.book.now) c.args.basis.now.unknown c.args.basis.now.levels level.rules level.keys (plain_avp c.args.avp.now) c.key-key.result c.key-key.ensures
    (length outer) c.in-Some.wrong (c.in-Some.ensures outer level now)

pub check_data-requires : goal.check_data-requires
check_data-requires g c =
    entry_within (g.B.Book.meaning c.args.basis.now.book.now) c.key-key.result c.in-Some-known.entry (sym c.in-Some-known.is ∙ c.avp-known.ensures)

pub returns-in-Ok : goal.returns-in-Ok
returns-in-Ok g c outer level now =
    let d = g.B.Book.meaning c.args.basis.now.book.now in
    let admits = c.in_default.ensures outer level now in (
      fine_known d c.args.basis.now.unknown c.args.basis.now.levels level.rules level.keys
          (plain_avp c.args.avp.now) c.key-key.result c.key-key.ensures c.depth-depth.result (length outer) c.in-Some-known.entry c.in-Ok.group
          (c.depth-depth.ensures (definitions d) outer level now) admits.0 (sym c.in-Some-known.is ∙ c.avp-known.ensures) c.in-Ok.ensures,
      subst (λ (x : Key). AreOpen (definitions d) c.admit.new.open_levels outer (and_key level x)) c.key-key.ensures admits.1,
    )

pub returns-in-Err : goal.returns-in-Err
returns-in-Err g c outer level now =
    let d = g.B.Book.meaning c.args.basis.now.book.now in
    let admits = c.in_default.ensures outer level now in
    rw c.avp.ensures
    (wrong_data d c.args.basis.now.unknown c.args.basis.now.levels level.rules level.keys
    (plain_avp c.args.avp.now) c.key-key.result c.key-key.ensures c.depth-depth.result (length outer) c.in-Some-known.entry c.in-Err.reason
    (c.depth-depth.ensures (definitions d) outer level now) admits.0 (sym c.in-Some-known.is ∙ c.avp-known.ensures) c.in-Err.ensures)

pub returns-in-None : goal.returns-in-None
returns-in-None g c outer level now =
    let d = g.B.Book.meaning c.args.basis.now.book.now in
    let admits = c.in_default.ensures outer level now in (
      fine_unknown d c.args.basis.now.unknown c.args.basis.now.levels level.rules level.keys (plain_avp c.args.avp.now) c.key-key.result c.key-key.ensures (length outer) admits.0 (sym c.in-None.is ∙ c.avp-known.ensures),
      subst (λ (x : Key). AreOpen (definitions d) c.admit.new.open_levels outer (and_key level x)) c.key-key.ensures admits.1,
    )
