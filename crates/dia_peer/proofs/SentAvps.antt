-- What holds of each AVP of our messages, and that no message is too long.
use Rattle.std.proofs.Common.{ℕ, suc, ◌*◌, ◌≤◌, List, [], ◌∷◌, ◌++◌, length, map, Option, Some, None, inl, inr, subst, arith}
use Rattle.std.specs.Prelude.{sum_by}
use Rattle.std.specs.List.{filter_map, cons_option, AllByRecursion}
use Rattle.std.proofs.lemmas.List.{length-append, length-map}
use Rattle.std.proofs.lemmas.List.Sums.{sum_by-cons}
use Rattle.std.proofs.lemmas.List.Elements.{All-from_recursion}
use Rattle.dia_wire.specs.Wire.{PlainAvp, avp_length, padded_length, IsTooLong}
use Rattle.dia_peer.specs.declared.config.Kind.{Kind}
use Rattle.dia_peer.specs.declared.config.Kind.TheVariants.{Auth, Acct}
use Rattle.dia_peer.specs.declared.config.App.{App}
use Rattle.dia_peer.specs.declared.config.Ip.{Ip}
use Rattle.dia_peer.specs.declared.config.Ip.TheVariants.{V4, V6}
use Rattle.dia_peer.specs.declared.event.Cause.{Cause}
use Rattle.dia_peer.specs.Core.{PlainConfig, IsConfig, IsIp, Sent}
use Rattle.dia_peer.specs.Messages.{
  avp,
  avp32,
  address,
  app_code,
  spelled,
  origin,
  capabilities,
  applications,
  if_some,
  plain_app,
  vendor_app,
  IsOurs,
  is_cer,
  is_cea,
  is_dwr,
  is_dwa,
  is_dpr,
  is_dpa,
  cause_number,
}

pub all_append : {X : Type 0} (P : X → Type 0) (xs ys : List X) → AllByRecursion P xs → AllByRecursion P ys → AllByRecursion P (xs ++ ys)
all_append P [] ys h k = k
all_append P (x ∷ xs) ys h k = (h.0, all_append P xs ys h.1 k)

abbrev pub vendor_data : ℕ → Kind → ℕ → List ℕ
vendor_data n kind id = spelled (avp32 266 n) ++ spelled (avp32 (app_code kind) id)

-- what holds of the AVPs that advertise applications
pub record OfApps (P : PlainAvp → Type 0) : Type 0 where
  pub app : (kind : Kind) (n : ℕ) → P (avp32 (app_code kind) n)
  pub group : (n : ℕ) (kind : Kind) (id : ℕ) → P (avp 260 64 (vendor_data n kind id))

-- what holds of the AVPs of each kind
pub record OfEach (P : PlainAvp → Type 0) (c : PlainConfig) : Type 0 where
  pub host : P (avp 264 64 c.host)
  pub realm : P (avp 296 64 c.realm)
  pub product : P (avp 269 0 c.product)
  pub ip : (ip : Ip) → IsIp ip → P (avp 257 64 (address ip))
  pub vendor : P (avp32 266 c.vendor)
  pub state : (n : ℕ) → P (avp32 278 n)
  pub apps : OfApps P
  pub result : (n : ℕ) → P (avp32 268 n)
  pub cause : (cause : Cause) → P (avp32 273 (cause_number cause))

module _ (P : PlainAvp → Type 0) (of : OfApps P) where
  one_plain : (wanted kind : Kind) (id : ℕ) (vendor : Option ℕ) (vs : List PlainAvp) → AllByRecursion P vs
      → AllByRecursion P (cons_option (plain_app wanted (record { kind = kind; id = id; vendor = vendor })) vs)
  one_plain Auth Auth id None vs k = (of.app Auth id, k)
  one_plain Acct Acct id None vs k = (of.app Acct id, k)
  one_plain Auth Acct id None vs k = k
  one_plain Acct Auth id None vs k = k
  one_plain wanted kind id (Some n) vs k = k

  all_plain : (wanted : Kind) (apps : List App) → AllByRecursion P (filter_map (plain_app wanted) apps)
  all_plain wanted [] = tt
  all_plain wanted (a ∷ apps) = one_plain wanted a.kind a.id a.vendor (filter_map (plain_app wanted) apps) (all_plain wanted apps)

  one_vendor : (kind : Kind) (id : ℕ) (vendor : Option ℕ) (vs : List PlainAvp) → AllByRecursion P vs → AllByRecursion P (cons_option (vendor_app (record { kind = kind; id = id; vendor = vendor })) vs)
  one_vendor kind id None vs k = k
  one_vendor kind id (Some n) vs k = (of.group n kind id, k)

  all_vendor : (apps : List App) → AllByRecursion P (filter_map vendor_app apps)
  all_vendor [] = tt
  all_vendor (a ∷ apps) = one_vendor a.kind a.id a.vendor (filter_map vendor_app apps) (all_vendor apps)

  pub all_applications : (c : PlainConfig) → AllByRecursion P (applications c)
  all_applications c =
      all_append P (filter_map (plain_app Auth) c.apps ++ filter_map (plain_app Acct) c.apps) (filter_map vendor_app c.apps)
      (all_append P (filter_map (plain_app Auth) c.apps) (filter_map (plain_app Acct) c.apps) (all_plain Auth c.apps) (all_plain Acct c.apps)) (all_vendor c.apps)

module _ (P : PlainAvp → Type 0) (c : PlainConfig) (of : OfEach P c) where
  all_origin : AllByRecursion P (origin c)
  all_origin = (of.host, (of.realm, tt))

  all_state : (o : Option ℕ) → AllByRecursion P (if_some (avp32 278) o)
  all_state None = tt
  all_state (Some n) = (of.state n, tt)

  all_addresses : (ips : List Ip) → AllByRecursion IsIp ips → AllByRecursion P (map (λ ip. avp 257 64 (address ip)) ips)
  all_addresses [] h = tt
  all_addresses (ip ∷ ips) h = (of.ip ip h.0, all_addresses ips h.1)

  all_capabilities : AllByRecursion IsIp c.addresses → AllByRecursion P (capabilities c)
  all_capabilities ips =
      all_append P (map (λ ip. avp 257 64 (address ip)) c.addresses ++ avp32 266 c.vendor ∷ avp 269 0 c.product ∷ []) (if_some (avp32 278) c.state_id)
      (all_append P (map (λ ip. avp 257 64 (address ip)) c.addresses) (avp32 266 c.vendor ∷ avp 269 0 c.product ∷ []) (all_addresses c.addresses ips) (of.vendor, (of.product, tt)))
      (all_state c.state_id)

  all_exchange : AllByRecursion IsIp c.addresses → AllByRecursion P (origin c ++ capabilities c ++ applications c)
  all_exchange ips = all_append P (origin c ++ capabilities c) (applications c) (all_append P (origin c) (capabilities c) all_origin (all_capabilities ips)) (all_applications P of.apps c)

  pub all_ours : AllByRecursion IsIp c.addresses → (m : Sent) → IsOurs c m → AllByRecursion P m.avps
  all_ours ips m (is_cer ids) = all_exchange ips
  all_ours ips m (is_cea ids result) = (of.result result, all_exchange ips)
  all_ours ips m (is_dwr ids) = all_append P (origin c) (if_some (avp32 278) c.state_id) all_origin (all_state c.state_id)
  all_ours ips m (is_dwa ids) = (of.result 2001, all_append P (origin c) (if_some (avp32 278) c.state_id) all_origin (all_state c.state_id))
  all_ours ips m (is_dpr ids cause) = all_append P (origin c) (avp32 273 (cause_number cause) ∷ []) all_origin (of.cause cause, tt)
  all_ours ips m (is_dpa ids) = (of.result 2001, all_origin)

-- ---- lengths

abbrev IsShort : PlainAvp → Type 0
IsShort v = avp_length v ≤ 263

short_ip : (ip : Ip) → IsIp ip → IsShort (avp 257 64 (address ip))
short_ip (V4 bytes) h = omega (arith, h)
short_ip (V6 bytes) h = omega (arith, h)

short_each : (c : PlainConfig) → IsConfig c → OfEach IsShort c
short_each c ok = record {
  host = (let h = ok.host.1 in omega (arith, h));
  realm = (let h = ok.realm.1 in omega (arith, h));
  product = (let h = ok.product.1 in omega (arith, h));
  ip = short_ip;
  vendor = omega arith;
  state = λ n. omega arith;
  apps = record { app = λ kind n. omega arith; group = λ n kind id. omega arith };
  result = λ n. omega arith;
  cause = λ cause. omega arith;
}

few_option : (o : Option PlainAvp) (vs : List PlainAvp) → length (cons_option o vs) ≤ suc (length vs)
few_option None vs = omega arith
few_option (Some v) vs = omega arith

few_kept : (h : App → Option PlainAvp) (apps : List App) → length (filter_map h apps) ≤ length apps
few_kept h [] = omega arith
few_kept h (a ∷ apps) = omega (arith, few_option (h a) (filter_map h apps), few_kept h apps)

few_state : (o : Option ℕ) → length (if_some (avp32 278) o) ≤ 1
few_state None = omega arith
few_state (Some n) = omega arith

few_exchange : (c : PlainConfig) → IsConfig c → length (origin c ++ capabilities c ++ applications c) ≤ 4000
few_exchange c ok =
    let ips = map (λ (ip : Ip). avp 257 64 (address ip)) c.addresses in
    let two = avp32 266 c.vendor ∷ avp 269 0 c.product ∷ [] in
    let a = length-append (origin c ++ capabilities c) (applications c) in
    let b = length-append (origin c) (capabilities c) in
    let d = length-append (ips ++ two) (if_some (avp32 278) c.state_id) in
    let e = length-append ips two in
    let f = length-map c.addresses (λ (ip : Ip). avp 257 64 (address ip)) in
    let g = length-append (filter_map (plain_app Auth) c.apps ++ filter_map (plain_app Acct) c.apps) (filter_map vendor_app c.apps) in
    let h = length-append (filter_map (plain_app Auth) c.apps) (filter_map (plain_app Acct) c.apps) in
    omega (arith, a, b, d, e, f, g, h, few_kept (plain_app Auth) c.apps, few_kept (plain_app Acct) c.apps, few_kept vendor_app c.apps, few_state c.state_id, ok.addresses.1, ok.apps.few)

few_ours : (c : PlainConfig) (m : Sent) → IsConfig c → IsOurs c m → length m.avps ≤ 4001
few_ours c m ok (is_cer ids) = let h = few_exchange c ok in omega (arith, h)
few_ours c m ok (is_cea ids result) = let h = few_exchange c ok in omega (arith, h)
few_ours c m ok (is_dwr ids) = omega (arith, length-append (origin c) (if_some (avp32 278) c.state_id), few_state c.state_id)
few_ours c m ok (is_dwa ids) = omega (arith, length-append (origin c) (if_some (avp32 278) c.state_id), few_state c.state_id)
few_ours c m ok (is_dpr ids cause) = omega arith
few_ours c m ok (is_dpa ids) = omega arith

sums : (vs : List PlainAvp) → AllByRecursion IsShort vs → sum_by padded_length vs ≤ 267 * length vs
sums [] h = omega arith
sums (v ∷ vs) h = rw (sum_by-cons padded_length v vs) (let one = h.0 in omega (arith, one, sums vs h.1))

-- no message of an accepted configuration is longer than its field can say
pub not_too_long : (c : PlainConfig) (m : Sent) → IsConfig c → IsOurs c m → ¬ IsTooLong m.avps
not_too_long c m ok ours (inl (k, v, lt, at, long)) =
    let short = All-from_recursion IsShort m.avps (all_ours IsShort c (short_each c ok) ok.addresses.2 m ours) k v lt in
    let h : IsShort v = subst IsShort at short in
    omega (arith, h, long)
not_too_long c m ok ours (inr long) =
    let s = sums m.avps (all_ours IsShort c (short_each c ok) ok.addresses.2 m ours) in
    let n = few_ours c m ok ours in
    omega (arith, s, n, long)
