use Rattle.std.proofs.Common.{◌≡◌, ◌⊎◌, ◌↔◌, sym, subst}
use Rattle.std.specs.Prelude.{Contains}
use Rattle.dia_peer.specs.declared.config.Kind.{Kind}
use Rattle.dia_peer.specs.Core.{pair}
use Rattle.dia_peer.specs.Incoming.{Has, pick}
use Rattle.dia_peer.proofs.ApplicationNumbers.{insert_auth, insert_acct}
use Rattle.dia_peer.proofs.named_apps.NamedApps.insert.Goals as goal

pub returns-in_ok-insert-in-Auth : goal.returns-in_ok-insert-in-Auth
returns-in_ok-insert-in-Auth c p =
    subst (λ (k : Kind). Contains (pick c.insert.new.self.keys c.args.self.now.acct.keys p.kind) p.id ↔ (Has c.args.self.now p ⊎ (pair k c.args.id ≡ p))) (sym c.in-Auth.is)
    (insert_auth c.args.self.now.auth.keys c.args.self.now.acct.keys _ c.args.id c.in_ok-insert-in-Auth.ensures.keys p)

pub returns-in_ok-insert-in-Acct : goal.returns-in_ok-insert-in-Acct
returns-in_ok-insert-in-Acct c p =
    subst (λ (k : Kind). Contains (pick c.args.self.now.auth.keys c.insert-in-Acct.new.self.keys p.kind) p.id ↔ (Has c.args.self.now p ⊎ (pair k c.args.id ≡ p))) (sym c.in-Acct.is)
    (insert_acct c.args.self.now.auth.keys c.args.self.now.acct.keys _ c.args.id c.in_ok-insert-in-Acct.ensures.keys p)
