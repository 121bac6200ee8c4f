use Rattle.dia_program.proofs.showing.show_named.Goals as goal

pub returns-then-manner : goal.returns-then-manner
returns-then-manner g c = rw c.if-manner.true c.show_json.ensures

pub returns-else-manner : goal.returns-else-manner
returns-else-manner g c = rw c.if-manner.false c.show_words.ensures
