use Rattle.dia_upgrades_json.proofs.objects.push_subject.Goals as goal

pub returns-in-Application : goal.returns-in-Application
returns-in-Application c = rw c.in-Application.is c.push_u32.ensures
