use Rattle.dia_breaking_shortest.proofs.LessLengths.{kept_on}
use Rattle.dia_breaking_shortest.proofs.search.reach_one.Goals as goal

pub returns-in_err-push-clause-kept : goal.returns-in_err-push-clause-kept
returns-in_err-push-clause-kept g c = kept_on (g.B.Book.meaning c.args.book.now) c.args.least.now c.lower.new.least c.lower.result c.requires.kept c.lower.ensures.less

pub returns-in_ok-push-clause-kept : goal.returns-in_ok-push-clause-kept
returns-in_ok-push-clause-kept g c = kept_on (g.B.Book.meaning c.args.book.now) c.args.least.now c.lower.new.least c.lower.result c.requires.kept c.lower.ensures.less

pub returns-else-length-lt-TOO_LONG-clause-kept : goal.returns-else-length-lt-TOO_LONG-clause-kept
returns-else-length-lt-TOO_LONG-clause-kept g c = kept_on (g.B.Book.meaning c.args.book.now) c.args.least.now c.lower.new.least c.lower.result c.requires.kept c.lower.ensures.less
