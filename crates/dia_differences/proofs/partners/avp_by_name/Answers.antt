use Rattle.std.proofs.Common.{ℕ, Option, ap, ◌∙◌}
use Rattle.std.specs.Prelude.{option_and_then}
use Rattle.std.specs.Str.{bytes_eq}
use Rattle.dia_book.specs.Dictionary.{DictEntry}
use Rattle.dia_differences.specs.Partners.{has_key, unless_known}
use Rattle.dia_differences.proofs.PartnerPlaces.{position_within}
use Rattle.dia_differences.proofs.partners.avp_by_name.Goals as goal

pub unless_key_known-requires : goal.unless_key_known-requires
unless_key_known-requires g c =
    position_within (λ (e : DictEntry). bytes_eq c.args.name.now e.name) (g.B.Book.meaning c.args.b.now).entries c.in-Some.place.now (c.in-Some.ensures.value ∙ c.requires c.args.name.now)

pub returns-in-Some : goal.returns-in-Some
returns-in-Some g c =
    c.unless_key_known.ensures ∙ ap (λ (p : Option ℕ). option_and_then (unless_known has_key (g.A.Book.meaning c.args.a.now).entries (g.B.Book.meaning c.args.b.now).entries) p) (c.in-Some.ensures.value ∙ c.requires c.args.name.now)

pub returns-in-None : goal.returns-in-None
returns-in-None g c = ap (λ (p : Option ℕ). option_and_then (unless_known has_key (g.A.Book.meaning c.args.a.now).entries (g.B.Book.meaning c.args.b.now).entries) p) (c.in-None.ensures.value ∙ c.requires c.args.name.now)
