use Rattle.std.proofs.Common.{◌∙◌}
use Rattle.dia_dict.proofs.key_map.KeyMap.get.Goals as goal

pub returns-in_default : goal.returns-in_default
returns-in_default g c = c.copied.ensures ∙ c.get.ensures.value
