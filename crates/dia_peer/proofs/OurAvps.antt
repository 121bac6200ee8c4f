-- Each AVP of our messages fits the base dictionary.
use Rattle.std.proofs.Common.{ℕ, List, [], ◌∷◌, arith, inl, refl}
use Rattle.dia_dict.specs.Base.{base}
use Rattle.dia_book.specs.declared.DRule.{DRule}
use Rattle.dia_check.specs.declared.Unknown.TheVariants.{Kept}
use Rattle.dia_valid.specs.Valid.{Fits, FitsBy, IsLevel}
use Rattle.dia_peer.specs.declared.config.Kind.{Kind}
use Rattle.dia_peer.specs.declared.config.Kind.TheVariants.{Auth, Acct}
use Rattle.dia_peer.specs.declared.config.Ip.{Ip}
use Rattle.dia_peer.specs.declared.config.Ip.TheVariants.{V4, V6}
use Rattle.dia_peer.specs.declared.event.Cause.{Cause}
use Rattle.dia_peer.specs.declared.event.Cause.TheVariants.{Rebooting, Busy, DoNotWant}
use Rattle.dia_peer.specs.Core.{PlainConfig, IsConfig, IsIp}
use Rattle.dia_peer.specs.Messages.{avp, avp32, app_code, cause_number, address}
use Rattle.dia_peer.proofs.Advertised.{vendor_spells}
use Rattle.dia_peer.proofs.SentAvps.{OfEach, vendor_data}

-- whatever a group may hold
module _ (Inner : List DRule → List ℕ → Type 0) where
  app_fits : (kind : Kind) (n : ℕ) → FitsBy base Kept Inner (avp32 (app_code kind) n)
  app_fits Auth n = (tt, refl)
  app_fits Acct n = (tt, refl)

  vendor_fits : (n : ℕ) → FitsBy base Kept Inner (avp32 266 n)
  vendor_fits n = (tt, refl)

  address_fits : (ip : Ip) → IsIp ip → FitsBy base Kept Inner (avp 257 64 (address ip))
  address_fits (V4 bytes) h = (tt, record { family = 0 ∷ 1 ∷ []; rest = bytes; parts = refl; width = refl; ipv4 = λ e. h; ipv6 = λ e. absurd (omega (arith, e)) })
  address_fits (V6 bytes) h = (tt, record { family = 0 ∷ 2 ∷ []; rest = bytes; parts = refl; width = refl; ipv4 = λ e. absurd (omega (arith, e)); ipv6 = λ e. h })

  cause_fits : (cause : Cause) → FitsBy base Kept Inner (avp32 273 (cause_number cause))
  cause_fits Rebooting = (tt, (refl, (0, (0, 0), omega arith, refl, (omega arith, omega arith))))
  cause_fits Busy = (tt, (refl, (1, (1, 1), omega arith, refl, (omega arith, omega arith))))
  cause_fits DoNotWant = (tt, (refl, (2, (2, 2), omega arith, refl, (omega arith, omega arith))))

-- a Vendor-Specific-Application-Id: a Vendor-Id, and an application of one kind
group_fits : (n : ℕ) (kind : Kind) (id : ℕ) → Fits base Kept 1 (avp 260 64 (vendor_data n kind id))
group_fits n Auth id = (
  tt,
  (
    avp32 266 n ∷ avp32 258 id ∷ [],
    vendor_spells n Auth id,
    record { rest = _; runs = refl; loose = (inl refl, (inl refl, tt)); counts = ((omega arith, omega arith), ((omega arith, omega arith), ((omega arith, omega arith), tt))) },
    (vendor_fits (λ rules bytes. ⊥) n, (app_fits (λ rules bytes. ⊥) Auth id, tt)),
  ),
)
group_fits n Acct id = (
  tt,
  (
    avp32 266 n ∷ avp32 259 id ∷ [],
    vendor_spells n Acct id,
    record { rest = _; runs = refl; loose = (inl refl, (inl refl, tt)); counts = ((omega arith, omega arith), ((omega arith, omega arith), ((omega arith, omega arith), tt))) },
    (vendor_fits (λ rules bytes. ⊥) n, (app_fits (λ rules bytes. ⊥) Acct id, tt)),
  ),
)

-- what a group on the outer level may hold
abbrev Inside : List DRule → List ℕ → Type 0
Inside = IsLevel (Fits base Kept 0)

pub each_fits : (c : PlainConfig) → IsConfig c → OfEach (Fits base Kept 1) c
each_fits c ok = record {
  host = (tt, (ok.host.0, ok.host.2));
  realm = (tt, (ok.realm.0, ok.realm.2));
  product = (tt, ok.product.0);
  ip = address_fits Inside;
  vendor = (tt, refl);
  state = λ n. (tt, refl);
  apps = record { app = app_fits Inside; group = group_fits };
  result = λ n. (tt, refl);
  cause = cause_fits Inside;
}
