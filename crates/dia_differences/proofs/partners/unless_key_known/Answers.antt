use Rattle.dia_differences.proofs.PartnerPlaces.{key_known}
use Rattle.dia_differences.proofs.partners.unless_key_known.Goals as goal

pub returns-in-Some : goal.returns-in-Some
returns-in-Some g c = key_known (g.A.Book.meaning c.args.a.now) (g.B.Book.meaning c.args.b.now) c.args.place c.entry_at.result c.entry_key.result _ c.entry_at.ensures c.requires c.entry_key.ensures c.in-Some.ensures

pub returns-in-None : goal.returns-in-None
returns-in-None g c = key_known (g.A.Book.meaning c.args.a.now) (g.B.Book.meaning c.args.b.now) c.args.place c.entry_at.result c.entry_key.result _ c.entry_at.ensures c.requires c.entry_key.ensures c.in-None.ensures
