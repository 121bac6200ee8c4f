use Rattle.dia_ccf.proofs.WordTests.{same_bytes_iff}
use Rattle.std.proofs.Common.{sym}
use Rattle.dia_ccf.proofs.names.is_same_word.Goals as goal

pub returns : goal.returns
returns c = sym (same_bytes_iff _ _ c.eq_ignore_ascii_case.result c.eq_ignore_ascii_case.ensures.test.0 c.eq_ignore_ascii_case.ensures.test.1)
