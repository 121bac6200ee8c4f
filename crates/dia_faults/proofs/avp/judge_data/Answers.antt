use Rattle.std.proofs.Common.{[], sym, ◌∙◌}
use Rattle.dia_faults.proofs.Collecting.{adds_none}
use Rattle.dia_faults.proofs.Data.{unknown_filled, unknown_opened, fine_filled, fine_opened, wrong_filled, wrong_opened}
use Rattle.dia_faults.proofs.avp.judge_data.Goals as goal

pub returns-in_default-clause-judged : goal.returns-in_default-clause-judged
returns-in_default-clause-judged g c v is_key is_bytes =
    ([], unknown_filled (g.B.Book.meaning c.args.basis.now.book.now) c.args.basis.now.levels c.args.depth c.args.key v is_key (sym c.in_default.is ∙ c.requires.known), adds_none c.args.found.now)

pub returns-in_default-clause-opened : goal.returns-in_default-clause-opened
returns-in_default-clause-opened g c v is_key is_bytes =
    unknown_opened (g.B.Book.meaning c.args.basis.now.book.now) c.args.basis.now.levels c.args.depth c.args.key v is_key (sym c.in_default.is ∙ c.requires.known)

pub returns-in-Ok-clause-judged : goal.returns-in-Ok-clause-judged
returns-in-Ok-clause-judged g c v is_key is_bytes = (
  [],
  fine_filled (g.B.Book.meaning c.args.basis.now.book.now) c.args.basis.now.levels c.args.depth c.args.key v is_key (g.met.B.Book.sound c.args.basis.now.book.now) c.in-Some.entry
      (sym c.in-Some.is ∙ c.requires.known) c.args.bytes.now is_bytes c.in-Ok.group c.in-Ok.ensures,
  adds_none c.args.found.now,
)

pub returns-in-Ok-clause-opened : goal.returns-in-Ok-clause-opened
returns-in-Ok-clause-opened g c v is_key is_bytes =
    fine_opened (g.B.Book.meaning c.args.basis.now.book.now) c.args.basis.now.levels c.args.depth c.args.key v is_key (g.met.B.Book.sound c.args.basis.now.book.now) c.in-Some.entry
    (sym c.in-Some.is ∙ c.requires.known) c.args.bytes.now is_bytes c.in-Ok.group c.in-Ok.ensures

pub returns-in_ok-push-in-Err-clause-judged : goal.returns-in_ok-push-in-Err-clause-judged
returns-in_ok-push-in-Err-clause-judged g c v is_key is_bytes = (
  _,
  wrong_filled (g.B.Book.meaning c.args.basis.now.book.now) c.args.basis.now.levels c.args.depth c.args.key v is_key (g.met.B.Book.sound c.args.basis.now.book.now) c.in-Some.entry
      (sym c.in-Some.is ∙ c.requires.known) c.args.bytes.now is_bytes c.in-Err.reason c.in-Err.ensures,
  c.in_ok-push-in-Err.ensures,
)

pub returns-in_ok-push-in-Err-clause-opened : goal.returns-in_ok-push-in-Err-clause-opened
returns-in_ok-push-in-Err-clause-opened g c v is_key is_bytes =
    wrong_opened (g.B.Book.meaning c.args.basis.now.book.now) c.args.basis.now.levels c.args.depth c.args.key v is_key (g.met.B.Book.sound c.args.basis.now.book.now) c.in-Some.entry
    (sym c.in-Some.is ∙ c.requires.known) c.args.bytes.now is_bytes c.in-Err.reason c.in-Err.ensures
