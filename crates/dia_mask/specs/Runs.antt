-- A run over messages.
use Rattle.dia_mask.specs.declared.message.Run.{Run}
use Rattle.dia_mask.specs.declared.words.Words.{Words}

-- the words that came
abbrev pub words_of : Run → Words
words_of run = run.masking.words
