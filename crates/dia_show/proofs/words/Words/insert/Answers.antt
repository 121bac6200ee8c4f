use Rattle.dia_show.proofs.WordLists.{insert_plain}
use Rattle.std.proofs.Common.{ap, map, ◌∙◌}
use Rattle.dia_show.specs.Words.{plain_word}
use Rattle.dia_show.proofs.words.Words.insert.Goals as goal

pub returns : goal.returns
returns c = ap (map plain_word) c.in_ok-insert.ensures.entries ∙ insert_plain c.args.self.now.words.entries (c.args.name, c.args.number) c.args.word c.requires
