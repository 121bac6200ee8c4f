use Rattle.std.proofs.Common.{sym, ap, ◌∙◌}
use Rattle.dia_breaking_shortest.specs.Bytes.{demands_m}
use Rattle.dia_breaking_shortest.proofs.MandatoryFlags.{flag_needed}
use Rattle.dia_breaking_shortest.proofs.writing.needs_m.Goals as goal

pub returns-in-Must : goal.returns-in-Must
returns-in-Must g c = ap demands_m (sym c.in-Must.is) ∙ flag_needed (g.B.Book.meaning c.args.book.now) c.args.entry c.rule.result c.requires c.rule.ensures

pub returns-in-MustNot : goal.returns-in-MustNot
returns-in-MustNot g c = ap demands_m (sym c.in-MustNot.is) ∙ flag_needed (g.B.Book.meaning c.args.book.now) c.args.entry c.rule.result c.requires c.rule.ensures

pub returns-in-Any : goal.returns-in-Any
returns-in-Any g c = ap demands_m (sym c.in-Any.is) ∙ flag_needed (g.B.Book.meaning c.args.book.now) c.args.entry c.rule.result c.requires c.rule.ensures
