use Rattle.std.proofs.Common.{arith, ◌∙◌, length, None, ap, sym}
use Rattle.std.proofs.lemmas.List.{take_rest, length-drop}
use Rattle.dia_ccf.specs.Front.{front}
use Rattle.dia_ccf.proofs.TokensFromPlaces.{tokens_from-front}
use Rattle.dia_ccf.proofs.lexer.skip_blanks.Goals as goal

pub loop-len-preserved : goal.loop-len-preserved
loop-len-preserved c =
    let bytes = c.args.bytes.now in
    let at = c.loop-len.at in
    let len = c.in-Some.len in
    let rest = take_rest bytes at in
    let fits = c.in-Some.ensures.within in
    let there = ap front (sym rest) ∙ c.in-Some.ensures.some in
    record {
      begins = omega arith;
      within = omega (arith, fits, ap length rest, length-drop at bytes);
      same = c.loop-len.invariant.same ∙ tokens_from-front bytes at len None there c.in-Some.ensures.long;
    }
