use Rattle.dia_answer.specs.Dictionaries.{alone}
use Rattle.dia_answer.proofs.LoneAvps.{refused}
use Rattle.dia_answer.proofs.alone.Judge.is_valid.Goals as goal

pub returns-in-Err-Fault : goal.returns-in-Err-Fault
returns-in-Err-Fault g c =
    refused (alone (g.B.Book.meaning c.args.self.now.book.book.now)) c.args.self.now.unknown c.args.self.now.levels c.args.bytes.now c.in-Err-Fault.field-0 (λ e. let f = c.in-Err-Fault.field-0-is in cc)
    c.in-Err-Fault.ensures.valid

pub returns-in-Err-Truncated : goal.returns-in-Err-Truncated
returns-in-Err-Truncated g c =
    refused (alone (g.B.Book.meaning c.args.self.now.book.book.now)) c.args.self.now.unknown c.args.self.now.levels c.args.bytes.now c.in-Err-Truncated.field-0 (λ e. let f = c.in-Err-Truncated.field-0-is in cc)
    c.in-Err-Truncated.ensures.valid

pub returns-in-Err-Trailing : goal.returns-in-Err-Trailing
returns-in-Err-Trailing g c =
    refused (alone (g.B.Book.meaning c.args.self.now.book.book.now)) c.args.self.now.unknown c.args.self.now.levels c.args.bytes.now c.in-Err-Trailing.field-0 (λ e. let f = c.in-Err-Trailing.field-0-is in cc)
    c.in-Err-Trailing.ensures.valid
