use Rattle.std.proofs.Common.{ℕ, Some, ap, ◌∙◌}
use Rattle.dia_differences.proofs.PartnerPlaces.{avp_by_key, avp_by_text}
use Rattle.dia_differences.proofs.partners.avp_there.Goals as goal

pub returns-in-Some : goal.returns-in-Some
returns-in-Some g c =
    avp_by_key (g.A.Book.meaning c.args.a.now) (g.B.Book.meaning c.args.b.now) c.args.entry c.entry_key.result c.entry_key.ensures c.index.result (ap (λ (n : ℕ). Some n) c.index.ensures ∙ c.in-Some.ensures)

pub returns-in-None : goal.returns-in-None
returns-in-None g c =
    avp_by_text (g.A.Book.meaning c.args.a.now) (g.B.Book.meaning c.args.b.now) c.args.entry c.entry_key.result c.entry_key.ensures c.entry_name.result.now c.avp_by_name.result c.in-None.ensures c.entry_name.ensures c.avp_by_name.ensures
