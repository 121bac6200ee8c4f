-- A configuration's facts out of a truncation: each of them has one proof at most, or can be found again.
use Rattle.std.proofs.Common.{◌<◌, List}
use Rattle.std.proofs.Math.Logic.{∥∥₁_elim, ∥∥₁_prop}
use Rattle.std.proofs.Props.{props}
use Rattle.std.proofs.lemmas.Str.{IsUtf8-had}
use Rattle.std.specs.List.{AllByRecursion-prop}
use Rattle.dia_peer.specs.declared.config.App.{App}
use Rattle.dia_peer.specs.declared.config.Ip.{Ip}
use Rattle.dia_peer.specs.declared.config.Ip.TheVariants.{V4, V6}
use Rattle.dia_peer.specs.Core.{PlainConfig, IsConfig, IsIp, AreApps}

ip-prop : (ip : Ip) → IsProp (IsIp ip)
ip-prop (V4 bytes) = hlevel props
ip-prop (V6 bytes) = hlevel props

opened_apps : (apps : List App) → ∥ AreApps apps ∥₁ → AreApps apps
opened_apps apps t = record {
  some = ∥∥₁_elim t (hlevel props) (λ s. s.some);
  few = ∥∥₁_elim t (hlevel props) (λ s. s.few);
  numbers = ∥∥₁_elim t (AllByRecursion-prop (λ (a : App). a.id < 4294967296) (λ a. hlevel props) apps) (λ s. s.numbers);
  distinct = λ i j a b p q e. ∥∥₁_elim t (hlevel props) (λ s. s.distinct i j a b p q e);
}

pub opened : (c : PlainConfig) → ∥ IsConfig c ∥₁ → IsConfig c
opened c t = record {
  host = ∥∥₁_elim t (hlevel props) (λ s. s.host);
  realm = ∥∥₁_elim t (hlevel props) (λ s. s.realm);
  product = (IsUtf8-had c.product (∥∥₁_elim t ∥∥₁_prop (λ s. ∣ s.product.0 ∣₁)), ∥∥₁_elim t (hlevel props) (λ s. s.product.1));
  addresses = (
    ∥∥₁_elim t (hlevel props) (λ s. s.addresses.0),
    ∥∥₁_elim t (hlevel props) (λ s. s.addresses.1),
    ∥∥₁_elim t (AllByRecursion-prop IsIp ip-prop c.addresses) (λ s. s.addresses.2),
  );
  apps = opened_apps c.apps (∥∥₁_elim t ∥∥₁_prop (λ s. ∣ s.apps ∣₁));
}
