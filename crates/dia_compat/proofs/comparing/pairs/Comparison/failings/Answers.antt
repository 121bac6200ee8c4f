use Rattle.std.proofs.Common.{◌≡◌, [], Option, sym, ap, subst, ◌∙◌}
use Rattle.std.specs.Prelude.{IfOk, MatchOption}
use Rattle.std.specs.Option.{option_map}
use Rattle.dia_compat.specs.PairTests.{NamePair, plain_names}
use Rattle.dia_compat.specs.Failings.{AreFailings}
use Rattle.dia_compat.proofs.comparing.pairs.Comparison.failings.Goals as goal

pub returns-in-Some : goal.returns-in-Some
returns-in-Some g c =
    let all = c.args.self.now in
    subst (λ (o : Option NamePair). IfOk c.failings_of.result (λ v. MatchOption o (v.items ≡ []) (λ p. AreFailings all c.args.kind c.args.test p v.items)))
    (sym (ap (option_map plain_names) c.in-Some.is) ∙ c.names_at.ensures) c.failings_of.ensures

pub returns-in-None : goal.returns-in-None
returns-in-None g c =
    let all = c.args.self.now in
    subst (λ (o : Option NamePair). MatchOption o (c.new.result.items ≡ []) (λ p. AreFailings all c.args.kind c.args.test p c.new.result.items))
    (sym (ap (option_map plain_names) c.in-None.is) ∙ c.names_at.ensures) c.new.ensures.items
