use Rattle.std.proofs.Common.{◌≡◌, Option, sym, ap, ◌∙◌}
use Rattle.std.specs.Prelude.{codes, slice_get}
use Rattle.std.specs.Option.{option_map_or}
use Rattle.dia_book.specs.Dictionary.{DictEntry}
use Rattle.dia_valid.proofs.Entries.{entry_here, not_known}
use Rattle.dia_valid.proofs.Members.{at_some}
use Rattle.dia_diff_text.proofs.rules.avp_name.Goals as goal

pub returns-in-Some : goal.returns-in-Some
returns-in-Some g c =
    let d = g.D.Book.meaning c.args.book.now in
    let (e, at, is) = entry_here d c.args.key c.in-Some.entry c.in-Some.ensures in
    at_some (λ (x : DictEntry). c.entry_name.result.now ≡ x.name) (slice_get d.entries c.in-Some.entry) e c.entry_name.ensures at
    ∙ sym (ap (λ (o : Option DictEntry). option_map_or (λ (x : DictEntry). x.name) o (codes "AVP")) is)

pub returns-in-None : goal.returns-in-None
returns-in-None g c =
    sym (ap (λ (o : Option DictEntry). option_map_or (λ (x : DictEntry). x.name) o (codes "AVP")) (not_known (g.D.Book.meaning c.args.book.now) c.args.key c.in-None.ensures))
