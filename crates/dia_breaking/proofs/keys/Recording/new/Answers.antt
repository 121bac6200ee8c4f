use Rattle.std.proofs.Common.{[], rules, sym, subst, ◌∙◌}
use Rattle.dia_breaking.specs.Recording.{AreExactlyRecorded, AreRecorded}
use Rattle.dia_breaking.specs.Sides.{sides}
use Rattle.dia_breaking.proofs.RecordingPlaces.{exact_recording, none_exactly_recorded}
use Rattle.dia_breaking.proofs.keys.Recording.new.Goals as goal

pub add_all-requires-clause-recorded : goal.add_all-requires-clause-recorded
add_all-requires-clause-recorded g c =
    let s = sides (g.A.Book.meaning c.args.a.now) (g.B.Book.meaning c.args.b.now) c.args.sends c.args.unknown in
    let recorded : AreRecorded s [] c.empty.result = search rules in
    subst (AreRecorded s []) (sym (c.deref_mut.ensures.value ∙ c.in_ok-recording.ensures.ok)) recorded

pub add_all-requires-clause-exact : goal.add_all-requires-clause-exact
add_all-requires-clause-exact g c =
    let da = g.A.Book.meaning c.args.a.now in
    let db = g.B.Book.meaning c.args.b.now in
    subst (AreExactlyRecorded (sides da db c.args.sends c.args.unknown) []) (sym (c.deref_mut.ensures.value ∙ c.in_ok-recording.ensures.ok))
    (none_exactly_recorded da db c.args.sends c.args.unknown c.empty.result c.empty.ensures.items)

pub returns : goal.returns
returns g c =
    let da = g.A.Book.meaning c.args.a.now in
    let db = g.B.Book.meaning c.args.b.now in
    let s = sides da db c.args.sends c.args.unknown in
    exact_recording da db c.args.sends c.args.unknown c.in_ok-keys.keys.items c.add_all.new.self (g.met.A.Book.sound c.args.a.now) (g.met.B.Book.sound c.args.b.now) c.in_ok-keys.ensures
    (subst (λ keys. AreExactlyRecorded s keys c.add_all.new.self) c.deref.ensures.value c.in_ok-add_all.ensures.exact)
    (subst (λ keys. AreRecorded s keys c.add_all.new.self) c.deref.ensures.value c.in_ok-add_all.ensures.recorded).placed
