use Rattle.std.proofs.Common.{◌≡◌, ℕ, Option, arith}
use Rattle.std.specs.Prelude.{IfSome, slice_get}
use Rattle.dia_book.specs.Dictionary.{PlainDefinition}
use Rattle.dia_differences.specs.Partners.{command_partner}
use Rattle.dia_differences.proofs.Linked.{each_more}
use Rattle.dia_differences.proofs.Pairing.{mapped}
use Rattle.dia_differences.proofs.partners.commands_there.Goals as goal

pub loop-index-preserved : goal.loop-index-preserved
loop-index-preserved g c =
    each_more (λ (i : ℕ) (o : Option ℕ). IfSome (slice_get (g.A.Book.meaning c.args.a.now).commands i) (λ (x : PlainDefinition). o ≡ command_partner (g.A.Book.meaning c.args.a.now) (g.B.Book.meaning c.args.b.now) x)) c.loop-index.there.items c.push.new.self.items c.command_there.result c.loop-index.index c.in_ok-push.ensures.items c.loop-index.invariant
    c.command_there.ensures

pub returns : goal.returns
returns g c =
    mapped (command_partner (g.A.Book.meaning c.args.a.now) (g.B.Book.meaning c.args.b.now)) (g.A.Book.meaning c.args.a.now).commands c.loop-index.there.items c.loop-index.index (omega (arith, c.loop-index-test.false, c.commands-index-end.ensures)) c.loop-index.invariant
