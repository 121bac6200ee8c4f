use Rattle.dia_mask_text.proofs.Runs.{all_put}
use Rattle.dia_mask_text.proofs.running.mask_all.Goals as goal

pub returns-clause-exact : goal.returns-clause-exact
returns-clause-exact g c =
    all_put c.args.manner.now.choice (g.B.Book.meaning c.args.manner.now.book.now) _ _ _ _ c.mask_lines.new.state.unread c.exit_by-exit.result
    c.in_ok-count.ensures.masked c.in_ok-count.ensures.all c.exit_by-exit.ensures
