-- How often our messages have each AVP, and that their AVPs are as the rules of the base dictionary say.
use Rattle.std.proofs.Common.{◌≡◌, ℕ, zero, suc, ◌+◌, ◌≤◌, Bool, true, false, cond, List, [], ◌∷◌, ◌++◌, length, map, Option, Some, None, inl, inr, refl, ap, ◌∙◌, arith}
use Rattle.std.specs.Prelude.{count_by, slice_get, ⊤, IsTrue}
use Rattle.std.specs.List.{AllByRecursion}
use Rattle.std.proofs.lemmas.List.{map-append}
use Rattle.std.proofs.lemmas.List.Sums.{sum_by-cons, sum_by-append}
use Rattle.dia_wire.specs.declared.Key.{Key}
use Rattle.dia_wire.specs.Wire.{PlainAvp, key_of}
use Rattle.dia_dict.specs.Base.{base}
use Rattle.dia_book.specs.Keys.{same_key}
use Rattle.dia_book.specs.declared.DRule.{DRule}
use Rattle.dia_book.specs.declared.DefHead.TheVariants.{Error}
use Rattle.dia_book.specs.declared.Pxy.TheVariants.{Either}
use Rattle.dia_book.specs.Dictionary.{PlainDefinition, definitions}
use Rattle.dia_valid.specs.Valid.{Placed, MayBeLoose, is_listed, loose_rules, has_wildcard}
use Rattle.dia_peer.specs.declared.config.Ip.{Ip}
use Rattle.dia_peer.specs.declared.event.Cause.{Cause}
use Rattle.dia_peer.specs.Core.{PlainConfig, IsConfig}
use Rattle.dia_peer.specs.declared.config.Kind.{Kind}
use Rattle.dia_peer.specs.declared.config.Kind.TheVariants.{Auth, Acct}
use Rattle.dia_peer.specs.Messages.{avp, avp32, app_code, address, origin, capabilities, applications, if_some, cause_number}
use Rattle.dia_peer.proofs.ValidMessageAvps.{the_key}
use Rattle.dia_peer.proofs.SentAvps.{all_applications}

-- ---- counts

abbrev counts : (Key → Bool) → List PlainAvp → ℕ
counts p vs = count_by p (map key_of vs)

counts_append : (p : Key → Bool) (vs ws : List PlainAvp) → counts p (vs ++ ws) ≡ counts p vs + counts p ws
counts_append p vs ws = ap (count_by p) (map-append key_of vs ws) ∙ sum_by-append (λ (key : Key). cond (p key) 1 0) (map key_of vs) (map key_of ws)

none : (p : Key → Bool) (vs : List PlainAvp) → AllByRecursion (λ v. p (key_of v) ≡ false) vs → counts p vs ≡ 0
none p [] h = refl
none p (v ∷ vs) h =
    let all = sum_by-cons (λ (key : Key). cond (p key) 1 0) (key_of v) (map key_of vs) in
    let one : cond (p (key_of v)) (suc zero) zero ≡ zero = ap (λ (t : Bool). cond t (suc zero) zero) h.0 in
    omega (arith, all, one, none p vs h.1)

module _ (p : Key → Bool) where
  -- none of the AVPs that advertise applications
  abbrev IsElse : Type 0
  IsElse = (p (the_key 258 0) ≡ false) × (p (the_key 259 0) ≡ false) × (p (the_key 260 0) ≡ false)

  else_app : IsElse → (kind : Kind) (n : ℕ) → p (key_of (avp32 (app_code kind) n)) ≡ false
  else_app h Auth n = h.0
  else_app h Acct n = h.1

  no_applications : IsElse → (c : PlainConfig) → counts p (applications c) ≡ 0
  no_applications h c = none p (applications c) (all_applications (λ v. p (key_of v) ≡ false) (record { app = else_app h; group = λ n kind id. h.2 }) c)

  no_addresses : p (the_key 257 0) ≡ false → (ips : List Ip) → counts p (map (λ ip. avp 257 64 (address ip)) ips) ≡ 0
  no_addresses h [] = refl
  no_addresses h (ip ∷ ips) =
      let vs = map (λ (ip : Ip). avp 257 64 (address ip)) ips in
      let all = sum_by-cons (λ (key : Key). cond (p key) 1 0) (the_key 257 0) (map key_of vs) in
      let one : cond (p (the_key 257 0)) (suc zero) zero ≡ zero = ap (λ (t : Bool). cond t (suc zero) zero) h in
      omega (arith, all, one, no_addresses h ips)

  all_addresses : p (the_key 257 0) ≡ true → (ips : List Ip) → counts p (map (λ ip. avp 257 64 (address ip)) ips) ≡ length ips
  all_addresses h [] = refl
  all_addresses h (ip ∷ ips) =
      let vs = map (λ (ip : Ip). avp 257 64 (address ip)) ips in
      let all = sum_by-cons (λ (key : Key). cond (p key) 1 0) (the_key 257 0) (map key_of vs) in
      let one : cond (p (the_key 257 0)) (suc zero) zero ≡ suc zero = ap (λ (t : Bool). cond t (suc zero) zero) h in
      omega (arith, all, one, all_addresses h ips)

  no_state : p (the_key 278 0) ≡ false → (o : Option ℕ) → counts p (if_some (avp32 278) o) ≡ 0
  no_state h None = refl
  no_state h (Some n) = let one : cond (p (the_key 278 0)) (suc zero) zero ≡ zero = ap (λ (t : Bool). cond t (suc zero) zero) h in omega (arith, one)

  one_state : (b : Bool) → p (the_key 278 0) ≡ b → (o : Option ℕ) → counts p (if_some (avp32 278) o) ≤ 1
  one_state b h None = omega arith
  one_state true h (Some n) = let one : cond (p (the_key 278 0)) (suc zero) zero ≡ suc zero = ap (λ (t : Bool). cond t (suc zero) zero) h in omega (arith, one)
  one_state false h (Some n) = let one : cond (p (the_key 278 0)) (suc zero) zero ≡ zero = ap (λ (t : Bool). cond t (suc zero) zero) h in omega (arith, one)

-- ---- the counts of each rule

-- no vendor and this code
abbrev has_code : ℕ → Key → Bool
has_code code key = same_key key (the_key code 0)

free : (n : ℕ) → (0 ≤ n) × ⊤
free n = (omega arith, tt)

module _ (c : PlainConfig) (front : List PlainAvp) where
  abbrev two : List PlainAvp
  two = avp32 266 c.vendor ∷ avp 269 0 c.product ∷ []

  -- a CER or, after its result, a CEA
  abbrev exchange : List PlainAvp
  exchange = front ++ (origin c ++ capabilities c ++ applications c)

  -- a DWR or, after its result, a DWA
  abbrev watchdog : List PlainAvp
  watchdog = front ++ (origin c ++ if_some (avp32 278) c.state_id)

  abbrev of_addresses : (Key → Bool) → ℕ
  of_addresses p = counts p (map (λ ip. avp 257 64 (address ip)) c.addresses)

  abbrev of_state : (Key → Bool) → ℕ
  of_state p = counts p (if_some (avp32 278) c.state_id)

  in_exchange : (p : Key → Bool) → IsElse p → counts p exchange ≡ counts p front + (counts p (origin c) + (of_addresses p + counts p two + of_state p))
  in_exchange p other =
      let ips = map (λ (ip : Ip). avp 257 64 (address ip)) c.addresses in
      let a = counts_append p front (origin c ++ capabilities c ++ applications c) in
      let b = counts_append p (origin c ++ capabilities c) (applications c) in
      let d = counts_append p (origin c) (capabilities c) in
      let e = counts_append p (ips ++ two) (if_some (avp32 278) c.state_id) in
      let f = counts_append p ips two in
      omega (arith, a, b, d, e, f, no_applications p other c)

  once : (code : ℕ) → IsElse (has_code code) → has_code code (the_key 257 0) ≡ false → has_code code (the_key 278 0) ≡ false
      → counts (has_code code) front + counts (has_code code) (origin c) + counts (has_code code) two ≡ 1 → (1 ≤ counts (has_code code) exchange) × (counts (has_code code) exchange ≤ 1)
  once code other address state one =
      let all = in_exchange (has_code code) other in
      let a = no_addresses (has_code code) address c.addresses in let s = no_state (has_code code) state c.state_id in
      (omega (arith, all, a, s, one), omega (arith, all, a, s, one))

  few : (code : ℕ) → IsElse (has_code code) → has_code code (the_key 257 0) ≡ false
      → counts (has_code code) front + counts (has_code code) (origin c) + counts (has_code code) two ≡ 0 → (0 ≤ counts (has_code code) exchange) × (counts (has_code code) exchange ≤ 1)
  few code other address one =
      let all = in_exchange (has_code code) other in
      let a = no_addresses (has_code code) address c.addresses in let s = one_state (has_code code) (has_code code (the_key 278 0)) refl c.state_id in
      (omega arith, omega (arith, all, a, s, one))

  some_address : IsConfig c → (1 ≤ counts (has_code 257) exchange) × ⊤
  some_address ok =
      let all = in_exchange (has_code 257) (refl, refl, refl) in
      let a = all_addresses (has_code 257) refl c.addresses in
      (omega (arith, all, a, ok.addresses.0), tt)

  in_watchdog : (p : Key → Bool) → counts p watchdog ≡ counts p front + (counts p (origin c) + of_state p)
  in_watchdog p =
      let a = counts_append p front (origin c ++ if_some (avp32 278) c.state_id) in
      let b = counts_append p (origin c) (if_some (avp32 278) c.state_id) in
      omega (arith, a, b)

  watched_once : (code : ℕ) → has_code code (the_key 278 0) ≡ false → counts (has_code code) front + counts (has_code code) (origin c) ≡ 1
      → (1 ≤ counts (has_code code) watchdog) × (counts (has_code code) watchdog ≤ 1)
  watched_once code state one =
      let all = in_watchdog (has_code code) in let s = no_state (has_code code) state c.state_id in
      (omega (arith, all, s, one), omega (arith, all, s, one))

  watched_few : (code : ℕ) → counts (has_code code) front + counts (has_code code) (origin c) ≡ 0 → (0 ≤ counts (has_code code) watchdog) × (counts (has_code code) watchdog ≤ 1)
  watched_few code one =
      let all = in_watchdog (has_code code) in let s = one_state (has_code code) (has_code code (the_key 278 0)) refl c.state_id in
      (omega arith, omega (arith, all, s, one))

-- ---- the rules

abbrev or_empty : Option PlainDefinition → PlainDefinition
or_empty None = record { name = []; head = Error Either; rules = [] }
or_empty (Some d) = d

-- a definition of the base dictionary
abbrev pub definition : ℕ → PlainDefinition
definition n = or_empty (slice_get (definitions base) n)

-- where there is a wildcard and nothing is fixed, each key may be anywhere
may_stand : (rules : List DRule) → loose_rules rules ≡ rules → IsTrue (has_wildcard rules) → (key : Key) (b : Bool) → is_listed rules key ≡ b → MayBeLoose rules key
may_stand rules same wild key true e = inl (ap (λ (rs : List DRule). is_listed rs key) same ∙ e)
may_stand rules same wild key false e = inr (e, wild)

all_may_stand : (rules : List DRule) → loose_rules rules ≡ rules → IsTrue (has_wildcard rules) → (keys : List Key) → AllByRecursion (MayBeLoose rules) keys
all_may_stand rules same wild [] = tt
all_may_stand rules same wild (key ∷ keys) = (may_stand rules same wild key (is_listed rules key) refl, all_may_stand rules same wild keys)

abbrev rules_of : ℕ → List DRule
rules_of n = (definition n).rules

abbrev Stand : ℕ → List PlainAvp → Type 0
Stand n avps = Placed (rules_of n) (map key_of avps)

pub cer_occurs : (c : PlainConfig) → IsConfig c → Stand 4 (exchange c [])
cer_occurs c ok = record {
  rest = _;
  runs = refl;
  loose = all_may_stand (rules_of 4) refl refl (map key_of (exchange c []));
  counts = (
    once c [] 264 (refl, refl, refl) refl refl refl,
    (
      once c [] 296 (refl, refl, refl) refl refl refl,
      (
        some_address c [] ok,
        (
          once c [] 266 (refl, refl, refl) refl refl refl,
          (
            once c [] 269 (refl, refl, refl) refl refl refl,
            (
              few c [] 278 (refl, refl, refl) refl refl,
              (
                free _,
                (
                  free _,
                  (
                    free _,
                    (
                      free _,
                      (
                        free _,
                        (
                          few c [] 267 (refl, refl, refl) refl refl,
                          (free _, tt),
                        ),
                      ),
                    ),
                  ),
                ),
              ),
            ),
          ),
        ),
      ),
    ),
  );
}

pub cea_occurs : (c : PlainConfig) (n : ℕ) → IsConfig c → Stand 5 (exchange c (avp32 268 n ∷ []))
cea_occurs c n ok =
    let result = avp32 268 n ∷ [] in
    record {
      rest = _;
      runs = refl;
      loose = all_may_stand (rules_of 5) refl refl (map key_of (exchange c result));
      counts = (
        once c result 268 (refl, refl, refl) refl refl refl,
        (
          once c result 264 (refl, refl, refl) refl refl refl,
          (
            once c result 296 (refl, refl, refl) refl refl refl,
            (
              some_address c result ok,
              (
                once c result 266 (refl, refl, refl) refl refl refl,
                (
                  once c result 269 (refl, refl, refl) refl refl refl,
                  (
                    few c result 278 (refl, refl, refl) refl refl,
                    (
                      few c result 281 (refl, refl, refl) refl refl,
                      (
                        few c result 279 (refl, refl, refl) refl refl,
                        (
                          free _,
                          (
                            free _,
                            (
                              free _,
                              (
                                free _,
                                (
                                  free _,
                                  (
                                    few c result 267 (refl, refl, refl) refl refl,
                                    (free _, tt),
                                  ),
                                ),
                              ),
                            ),
                          ),
                        ),
                      ),
                    ),
                  ),
                ),
              ),
            ),
          ),
        ),
      );
    }

pub dwr_occurs : (c : PlainConfig) → Stand 6 (watchdog c [])
dwr_occurs c = record {
  rest = _;
  runs = refl;
  loose = all_may_stand (rules_of 6) refl refl (map key_of (watchdog c []));
  counts = (watched_once c [] 264 refl refl, (watched_once c [] 296 refl refl, (watched_few c [] 278 refl, (free _, tt))));
}

pub dwa_occurs : (c : PlainConfig) (n : ℕ) → Stand 7 (watchdog c (avp32 268 n ∷ []))
dwa_occurs c n =
    let result = avp32 268 n ∷ [] in
    record {
      rest = _;
      runs = refl;
      loose = all_may_stand (rules_of 7) refl refl (map key_of (watchdog c result));
      counts = (
        watched_once c result 268 refl refl,
        (
          watched_once c result 264 refl refl,
          (
            watched_once c result 296 refl refl,
            (
              watched_few c result 281 refl,
              (
                watched_few c result 279 refl,
                (
                  watched_few c result 278 refl,
                  (free _, tt),
                ),
              ),
            ),
          ),
        ),
      );
    }

pub dpr_occurs : (c : PlainConfig) (cause : Cause) → Stand 8 (origin c ++ avp32 273 (cause_number cause) ∷ [])
dpr_occurs c cause = record {
  rest = _;
  runs = refl;
  loose = all_may_stand (rules_of 8) refl refl (map key_of (origin c ++ avp32 273 (cause_number cause) ∷ []));
  counts = ((omega arith, omega arith), ((omega arith, omega arith), ((omega arith, omega arith), (free _, tt))));
}

pub dpa_occurs : (c : PlainConfig) (n : ℕ) → Stand 9 (avp32 268 n ∷ origin c)
dpa_occurs c n = record {
  rest = _;
  runs = refl;
  loose = all_may_stand (rules_of 9) refl refl (map key_of (avp32 268 n ∷ origin c));
  counts = ((omega arith, omega arith), ((omega arith, omega arith), ((omega arith, omega arith), ((omega arith, omega arith), ((omega arith, omega arith), (free _, tt))))));
}
