use Rattle.std.proofs.Common.{length, ap, arith}
use Rattle.std.proofs.lemmas.List.{length-take}
use Rattle.dia_data.proofs.Texts.{no_text}
use Rattle.dia_data.proofs.seen_text.Text.unfinished.Goals as goal

pub returns-else-as_slice-lt4 : goal.returns-else-as_slice-lt4
returns-else-as_slice-lt4 c = λ bytes front none more.
    no_text bytes more none (omega (arith, ap length c.as_slice.ensures, ap length front, length-take 4 bytes))
