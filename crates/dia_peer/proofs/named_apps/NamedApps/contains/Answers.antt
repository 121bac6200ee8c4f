use Rattle.std.proofs.Common.{◌↔◌, Bool, IsTrue, sym, subst}
use Rattle.std.proofs.lemmas.Cmp.{nat_cmp_total}
use Rattle.std.proofs.lemmas.Map.Lookups.{exact_unsigned}
use Rattle.std.proofs.lemmas.Map.Views.{btree_set_contains_iff}
use Rattle.dia_peer.specs.declared.config.Kind.{Kind}
use Rattle.dia_peer.specs.declared.config.Kind.TheVariants.{Auth, Acct}
use Rattle.dia_peer.specs.Core.{pair}
use Rattle.dia_peer.specs.Incoming.{Has}
use Rattle.dia_peer.proofs.named_apps.NamedApps.contains.Goals as goal

pub returns-in-Auth : goal.returns-in-Auth
returns-in-Auth c =
    let n = c.args.self.now in let id = c.args.id in
    subst (λ (k : Kind). IsTrue c.contains.result ↔ Has n (pair k id)) (sym c.in-Auth.is)
    (subst (λ (b : Bool). IsTrue b ↔ Has n (pair Auth id)) (sym c.contains.ensures) (btree_set_contains_iff nat_cmp_total exact_unsigned n.auth id))

pub returns-in-Acct : goal.returns-in-Acct
returns-in-Acct c =
    let n = c.args.self.now in let id = c.args.id in
    subst (λ (k : Kind). IsTrue c.contains-in-Acct.result ↔ Has n (pair k id)) (sym c.in-Acct.is)
    (subst (λ (b : Bool). IsTrue b ↔ Has n (pair Acct id)) (sym c.contains-in-Acct.ensures) (btree_set_contains_iff nat_cmp_total exact_unsigned n.acct id))
