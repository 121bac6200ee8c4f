use Rattle.std.proofs.Common.{◌≡◌, Option, subst, ◌∙◌}
use Rattle.std.specs.Prelude.{IfSome, slice_get}
use Rattle.dia_book.specs.Dictionary.{DictEntry}
use Rattle.dia_breaking.specs.Refusals.{IsRefusal}
use Rattle.dia_breaking.specs.Upgrades.{costs_in, sides_of}
use Rattle.dia_unsent.proofs.UnheldAvps.{at_place}
use Rattle.dia_unsent.proofs.unsent.described.Goals as goal

pub returns-clause-described : goal.returns-clause-described
returns-clause-described g c =
    let s = sides_of c.args.upgrade.now in
    let entries = s.sender.entries in
    let (e, at) = at_place entries c.args.entry c.requires in
    let is_key = subst (λ (o : Option DictEntry). IfSome o (λ x. c.entry_key.result ≡ x.key)) at
    (subst (λ book. IfSome (slice_get (g.A.Book.meaning book).entries c.args.entry) (λ x. c.entry_key.result ≡ x.key)) c.sender-book.ensures c.entry_key.ensures) in
    let is_name = subst (λ (o : Option DictEntry). IfSome o (λ x. c.entry_name.result.now ≡ x.name)) at
    (subst (λ book. IfSome (slice_get (g.A.Book.meaning book).entries c.args.entry) (λ x. c.entry_name.result.now ≡ x.name)) c.sender-book.ensures c.entry_name.ensures) in
    (e, at, c.in_ok-name.ensures.ok ∙ is_name, subst (λ key. IsRefusal s (costs_in c.args.upgrade.now) key c.in_ok-would_break.would_break) is_key c.in_ok-would_break.ensures)
