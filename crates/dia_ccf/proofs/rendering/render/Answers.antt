use Rattle.dia_ccf.proofs.CanonicalTexts.{derives-canonical}
use Rattle.dia_ccf.proofs.rendering.render.Goals as goal

pub returns-in_err-put_declarations-clause-read_again : goal.returns-in_err-put_declarations-clause-read_again
returns-in_err-put_declarations-clause-read_again c = derives-canonical c.args.source.now

pub returns-in_err-put_definitions-clause-read_again : goal.returns-in_err-put_definitions-clause-read_again
returns-in_err-put_definitions-clause-read_again c = derives-canonical c.args.source.now

pub returns-in_err-put_definitions-2-clause-read_again : goal.returns-in_err-put_definitions-2-clause-read_again
returns-in_err-put_definitions-2-clause-read_again c = derives-canonical c.args.source.now

pub returns-clause-read_again : goal.returns-clause-read_again
returns-clause-read_again c = derives-canonical c.args.source.now
