use Rattle.std.proofs.Common.{◌≡◌, ℕ, Option, subst, arith}
use Rattle.std.specs.Prelude.{IfSome, slice_get}
use Rattle.dia_book.specs.Dictionary.{DictEntry}
use Rattle.dia_differences.specs.Partners.{avp_partner}
use Rattle.dia_differences.proofs.Linked.{each_more}
use Rattle.dia_differences.proofs.Pairing.{mapped}
use Rattle.dia_differences.proofs.partners.avps_there.Goals as goal

pub loop-index-preserved : goal.loop-index-preserved
loop-index-preserved g c =
    each_more (λ (i : ℕ) (o : Option ℕ). IfSome (slice_get (g.A.Book.meaning c.args.a.now).entries i) (λ (x : DictEntry). o ≡ avp_partner (g.A.Book.meaning c.args.a.now) (g.B.Book.meaning c.args.b.now) x)) c.loop-index.there.items c.push.new.self.items c.avp_there.result c.loop-index.index c.in_ok-push.ensures.items c.loop-index.invariant
    (subst (λ (n : ℕ). IfSome (slice_get (g.A.Book.meaning c.args.a.now).entries n) (λ (x : DictEntry). c.avp_there.result ≡ avp_partner (g.A.Book.meaning c.args.a.now) (g.B.Book.meaning c.args.b.now) x)) c.entry_at.ensures c.avp_there.ensures)

pub returns : goal.returns
returns g c =
    mapped (avp_partner (g.A.Book.meaning c.args.a.now) (g.B.Book.meaning c.args.b.now)) (g.A.Book.meaning c.args.a.now).entries c.loop-index.there.items c.loop-index.index (omega (arith, c.loop-index-test.false, c.entries-index-end.ensures.count)) c.loop-index.invariant
