use Rattle.std.proofs.Common.{ℕ, Option, ap, ◌∙◌}
use Rattle.std.specs.Prelude.{option_and_then}
use Rattle.std.specs.Str.{bytes_eq}
use Rattle.dia_book.specs.Dictionary.{PlainDefinition}
use Rattle.std.specs.HashMap.{get}
use Rattle.dia_differences.specs.Headers.{messages}
use Rattle.dia_differences.specs.Partners.{same_messages, unless_in}
use Rattle.dia_differences.proofs.PartnerPlaces.{position_within}
use Rattle.dia_differences.proofs.partners.command_by_name.Goals as goal

pub unless_messages_known-requires : goal.unless_messages_known-requires
unless_messages_known-requires g c =
    position_within (λ (e : PlainDefinition). bytes_eq c.args.name.now e.name) (g.B.Book.meaning c.args.b.now).commands c.in-Some.place.now (c.in-Some.ensures.value ∙ c.requires c.args.name.now)

pub returns-in-Some : goal.returns-in-Some
returns-in-Some g c =
    c.unless_messages_known.ensures ∙ ap (λ (p : Option ℕ). option_and_then (unless_in (λ (y : PlainDefinition). get same_messages c.args.own.now (messages y.head)) (g.B.Book.meaning c.args.b.now).commands) p) (c.in-Some.ensures.value ∙ c.requires c.args.name.now)

pub returns-in-None : goal.returns-in-None
returns-in-None g c = ap (λ (p : Option ℕ). option_and_then (unless_in (λ (y : PlainDefinition). get same_messages c.args.own.now (messages y.head)) (g.B.Book.meaning c.args.b.now).commands) p) (c.in-None.ensures.value ∙ c.requires c.args.name.now)
