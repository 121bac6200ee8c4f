use Rattle.std.proofs.Common.{ℕ, List, ◌++◌, map, ap, subst, ◌∙◌}
use Rattle.std.specs.Prelude.{option_to_list}
use Rattle.dia_breaking.specs.declared.apps.BothApps.{BothApps}
use Rattle.dia_breaking.specs.declared.readings.Reading.{Reading}
use Rattle.dia_breaking.specs.Readings.{as_sent, reading_after}
use Rattle.dia_breaking.specs.RecordedApps.{AreRecordedApps}
use Rattle.dia_breaking.specs.Upgrades.{sides_of}
use Rattle.dia_breaking.proofs.readings.readings_of.Goals as goal

pub returns : goal.returns
returns g c =
    let up = c.args.upgrade.now in
    let s = sides_of up in
    let head = c.args.head.now in
    let apps = c.in_ok-apps.apps.items in (
      apps,
      subst (λ (both : BothApps). AreRecordedApps s.sender both c.args.command head apps) c.deref.ensures c.in_ok-apps.ensures,
      c.in_ok-push_after.ensures ∙ ap (λ (readings : List Reading). readings ++ option_to_list (reading_after s.sender s.receiver head))
          (c.in_ok-readings.ensures ∙ ap (λ (apps : List ℕ). map as_sent apps) c.deref-2.ensures.value),
    )
