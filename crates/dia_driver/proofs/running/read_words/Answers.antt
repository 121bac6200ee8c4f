use Rattle.dia_driver.proofs.Failures.{words_are_no_help}
use Rattle.dia_driver.proofs.running.read_words.Goals as goal

pub returns-in-Err : goal.returns-in-Err
returns-in-Err g c = words_are_no_help c.in-Err.error c.of_words.result c.of_words.ensures
