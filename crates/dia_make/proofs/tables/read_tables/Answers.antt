use Rattle.dia_show.specs.Words.{plain_words}
use Rattle.dia_make.proofs.tables.read_tables.Goals as goal

pub tables_of-requires : goal.tables_of-requires
tables_of-requires c = (plain_words c.in-Ok.field-0.value.words, (rw c.in-Ok.is at c.in_ok-bad.ensures.words).0)
