use Rattle.std.proofs.Common.{lit<}
use Rattle.std.proofs.lemmas.Iterator.Consumers.{map_from_collect}
use Rattle.std.proofs.lemmas.Iterator.Splits.{YieldsList-from_str_split}
use Rattle.dia_mask_text.proofs.choosing.names_of.Goals as goal

pub returns-in-Some : goal.returns-in-Some
returns-in-Some c = rw c.in-Some.is (map_from_collect _ c.collect.ensures.ran (YieldsList-from_str_split 44 c.in-Some.list.now (lit< tt) c.split.ensures.text c.split.ensures.has_more c.split.ensures.pattern))
