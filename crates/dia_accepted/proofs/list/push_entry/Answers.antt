use Rattle.std.proofs.Common.{refl}
use Rattle.dia_accepted.specs.Lines.{plain_line}
use Rattle.dia_accepted.proofs.Lists.{entry_pushed}
use Rattle.dia_accepted.proofs.list.push_entry.Goals as goal

pub returns : goal.returns
returns c =
    entry_pushed c.args.list.now.items c.push.new.self.items _ c.args.line c.args.words.now (plain_line c.args.accepted.now) c.in_ok-push.ensures.items refl c.in_ok-words.ensures.ok c.in_ok-counted.ensures
