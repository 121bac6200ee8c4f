use Rattle.std.proofs.Common.{sym}
use Rattle.std.specs.Prelude.{string_bytes}
use Rattle.std.proofs.lemmas.List.{append-nil}
use Rattle.dia_upgrades.proofs.words.InWordsLineWriter.write_counts.Goals as goal

pub returns : goal.returns
returns c = sym (append-nil (string_bytes c.args._text.now))
