use Rattle.std.proofs.Common.{refl, [], sym, subst, arith}
use Rattle.std.proofs.lemmas.Str.{IsUtf8-nil}
use Rattle.dia_data.specs.State.{IsOpen}
use Rattle.dia_data.proofs.Texts.{StartsWithNoChar-empty}
use Rattle.dia_data.proofs.seen_text.Text.start.Goals as goal

pub returns : goal.returns
returns c = subst (λ pending. IsOpen pending []) (sym c.new.ensures) (record {
  whole = [];
  parts = refl;
  text = IsUtf8-nil;
  short = omega arith;
  unfinished = StartsWithNoChar-empty [] refl;
})
