use Rattle.std.proofs.Common.{◌≡◌, ap, sym, ◌∙◌, length, arith, rules}
use Rattle.std.proofs.lemmas.Bool.Decides.{nat_tests}
use Rattle.std.proofs.lemmas.Map.Entries.{length-values_of}
use Rattle.dia_follow.proofs.waiting.Waiting.is_full.Goals as goal

pub returns : goal.returns
returns c =
    let all : c.len.result ≡ length c.args.self.now = c.len.ensures.length ∙ sym (length-values_of c.self.inside.table) ∙ ap length c.self.view_is in
    rw (sym all) (first_of (search rules, grind (arith, nat_tests)))
