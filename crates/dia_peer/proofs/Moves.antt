use Rattle.std.proofs.Common.{◌≡◌, ◌≢◌, ℕ, ◌<◌, Bool, true, false, cond, List, [], ◌∷◌, length, Option, Some, None, inl, inr, refl, sym, ap, subst, ◌∙◌, arith}
use Rattle.std.specs.Prelude.{◌==◌, ◌&&◌, not, ⊤}
use Rattle.std.proofs.lemmas.Bool.{cond_both}
use Rattle.dia_peer.specs.declared.kept_requests.Ids.{Ids}
use Rattle.dia_peer.specs.declared.config.Role.{Role}
use Rattle.dia_peer.specs.declared.config.Role.TheVariants.{Initiator, Responder}
use Rattle.dia_peer.specs.declared.event.State.{State}
use Rattle.dia_peer.specs.declared.event.State.TheVariants.{Idle, WaitCea, WaitCer, Open, WaitDpa, Closed}
use Rattle.dia_peer.specs.declared.event.Cause.{Cause}
use Rattle.dia_peer.specs.declared.event.Why.{Why}
use Rattle.dia_peer.specs.declared.event.Why.TheVariants as why
use Rattle.dia_peer.specs.Core.{PlainConfig, PlainCore, PlainTaken, Pair, Sent, common_of}
use Rattle.dia_peer.specs.Messages.{Unreadable, Invalid, Cer, Dwr, Dpr, Cea, Refusal, Dwa, Dpa, cer, cea, dwr, dwa, dpr, dpa, after}
use Rattle.dia_peer.specs.Table.{
  Happening,
  Starts,
  Gets,
  Ticks,
  Stops,
  Breaks,
  Deed,
  Sends,
  Closes,
  Outcome,
  nothing,
  closed,
  closes,
  same_bytes,
  same_ids,
  starts,
  opens,
  answered,
  accepts,
  repeated,
  only_responder,
  ticks_open,
  stops_open,
  happens_in,
  happens,
}
use Rattle.dia_peer.specs.Life.{is_open, suspects, hears, lives, ends_wait}
use Rattle.dia_peer.specs.Values.{awaits_cea, awaits_cer, introduces}
use Rattle.dia_peer.specs.World.{IsPastOpen}
use Rattle.dia_peer.proofs.Sets.{eq_same}

-- the states that an end of this role has
abbrev pub Suits : Role → State → Type 0
Suits Initiator WaitCer = ⊥
Suits Responder WaitCea = ⊥
Suits role state = ⊤

-- what an end of this role, configuration and state has sent
pub data MaySend (role : Role) (c : PlainConfig) (state : State) (m : Sent) : Type 0 where
  asks : (ids : Ids) → role ≡ Initiator → m ≡ cer c ids → MaySend role c state m
  accepts_it : (ids : Ids) → role ≡ Responder → IsPastOpen state → m ≡ cea c ids 2001 → MaySend role c state m
  refuses_it : (ids : Ids) → role ≡ Responder → m ≡ cea c ids 5010 → MaySend role c state m
  watches : (ids : Ids) → m ≡ dwr c ids → MaySend role c state m
  is_there : (ids : Ids) → m ≡ dwa c ids → MaySend role c state m
  leaves : (ids : Ids) (cause : Cause) → m ≡ dpr c ids cause → MaySend role c state m
  lets_go : (ids : Ids) → m ≡ dpa c ids → MaySend role c state m

pub may_later : (role : Role) (c : PlainConfig) (s t : State) (m : Sent) → (IsPastOpen s → IsPastOpen t) → MaySend role c s m → MaySend role c t m
may_later role c s t m past (asks ids r e) = asks ids r e
may_later role c s t m past (accepts_it ids r p e) = accepts_it ids r (past p) e
may_later role c s t m past (refuses_it ids r e) = refuses_it ids r e
may_later role c s t m past (watches ids e) = watches ids e
may_later role c s t m past (is_there ids e) = is_there ids e
may_later role c s t m past (leaves ids cause e) = leaves ids cause e
may_later role c s t m past (lets_go ids e) = lets_go ids e

abbrev pub AllMay : Role → PlainConfig → State → List Deed → Type 0
AllMay role c state [] = ⊤
AllMay role c state (Sends m ∷ deeds) = MaySend role c state m × AllMay role c state deeds
AllMay role c state (Closes reason ∷ deeds) = AllMay role c state deeds

-- how a core that is open afterwards came to be so
pub data Opened (c : PlainCore) (h : Happening) (o : Outcome) : Type 0 where
  stays : c.state ≡ Open → o.core.common ≡ c.common → o.core.taken ≡ c.taken → Opened c h o
  by_answer : (ids : Ids) (apps : List Pair) → c.role ≡ Initiator → h ≡ Gets (Cea ids 2001 apps) → introduces c (Cea ids 2001 apps) ≡ true → common_of c.manner c.config apps ≡ Some o.core.common → 0 < length o.core.common → Opened c h o
  by_request : (ids : Ids) (bytes : List ℕ) (apps : List Pair) → c.role ≡ Responder → h ≡ Gets (Cer ids bytes apps) → introduces c (Cer ids bytes apps) ≡ true → common_of c.manner c.config apps ≡ Some o.core.common → 0 < length o.core.common
      → o.core.taken ≡ Some (record { bytes = bytes; ids = ids }) → o.deeds ≡ Sends (cea c.config ids 2001) ∷ [] → Opened c h o

pub record Moves (c : PlainCore) (h : Happening) (o : Outcome) : Type 0 where
  pub config : o.core.config ≡ c.config
  pub role : o.core.role ≡ c.role
  pub manner : o.core.manner ≡ c.manner
  pub met : o.core.met ≡ c.met
  pub suits : Suits c.role o.core.state
  pub past : IsPastOpen c.state → IsPastOpen o.core.state
  pub sends : AllMay c.role c.config o.core.state o.deeds
  pub opened : o.core.state ≡ Open → Opened c h o

-- ---- roles and states

suits_closed : (r : Role) → Suits r Closed
suits_closed Initiator = tt
suits_closed Responder = tt

suits_open : (r : Role) → Suits r Open
suits_open Initiator = tt
suits_open Responder = tt

suits_end : (r : Role) → Suits r WaitDpa
suits_end Initiator = tt
suits_end Responder = tt

is_initiator : (r : Role) → Suits r WaitCea → r ≡ Initiator
is_initiator Initiator h = refl
is_initiator Responder h = absurd h

is_responder : (r : Role) → Suits r WaitCer → r ≡ Responder
is_responder Initiator h = absurd h
is_responder Responder h = refl

past_open : IsPastOpen Open
past_open = inl refl

is_end : IsPastOpen WaitDpa
is_end = inr (inl refl)

pub is_closed : IsPastOpen Closed
is_closed = inr (inr refl)

not_past : (s : State) → IsPastOpen s → (s ≢ Open) → (s ≢ WaitDpa) → (s ≢ Closed) → ⊥
not_past s (inl e) x y z = x e
not_past s (inr (inl e)) x y z = y e
not_past s (inr (inr e)) x y z = z e

idle_not : IsPastOpen Idle → ⊥
idle_not h = not_past Idle h (λ e. absurd cc) (λ e. absurd cc) (λ e. absurd cc)

-- ---- single outcomes

m_nothing : (c : PlainCore) (h : Happening) → Suits c.role c.state → Moves c h (nothing c)
m_nothing c h s = record { config = refl; role = refl; manner = refl; met = refl; suits = s; past = λ p. p; sends = tt; opened = λ e. stays e refl refl }

m_closes : (c : PlainCore) (h : Happening) (reason : Why) → Moves c h (closes c [] reason)
m_closes c h reason = record { config = refl; role = refl; manner = refl; met = refl; suits = suits_closed c.role; past = λ p. is_closed; sends = tt; opened = λ e. absurd cc }

m_breaks : (c : PlainCore) (h : Happening) → Moves c h (record { core = closed c; deeds = [] })
m_breaks c h = record { config = refl; role = refl; manner = refl; met = refl; suits = suits_closed c.role; past = λ p. is_closed; sends = tt; opened = λ e. absurd cc }

m_answers : (c : PlainCore) (h : Happening) (m : Sent) (reason : Why) → MaySend c.role c.config Closed m → Moves c h (closes c (Sends m ∷ []) reason)
m_answers c h m reason may = record { config = refl; role = refl; manner = refl; met = refl; suits = suits_closed c.role; past = λ p. is_closed; sends = (may, tt); opened = λ e. absurd cc }

m_says : (c : PlainCore) (h : Happening) (m : Sent) → Suits c.role c.state → MaySend c.role c.config c.state m → Moves c h (record { core = c; deeds = Sends m ∷ [] })
m_says c h m s may = record { config = refl; role = refl; manner = refl; met = refl; suits = s; past = λ p. p; sends = (may, tt); opened = λ e. stays e refl refl }

m_starts : (r : Role) (c : PlainCore) (h : Happening) → c.role ≡ r → c.state ≡ Idle → Moves c h (starts c r)
m_starts Initiator c h e s =
    record {
      config = refl;
      role = refl;
      manner = refl;
      met = refl;
      suits = subst (λ r. Suits r WaitCea) (sym e) tt;
      past = λ p. absurd (idle_not (subst IsPastOpen s p));
      sends = (asks c.next e refl, tt);
      opened =
          λ o. absurd cc;
    }
m_starts Responder c h e s =
    record { config = refl; role = refl; manner = refl; met = refl; suits = subst (λ r. Suits r WaitCer) (sym e) tt; past = λ p. absurd (idle_not (subst IsPastOpen s p)); sends = tt; opened = λ o. absurd cc }

m_opens : (c : PlainCore) (h : Happening) (ids : Ids) (apps : List Pair) (found : Option (List Pair)) → c.role ≡ Initiator → h ≡ Gets (Cea ids 2001 apps) → introduces c (Cea ids 2001 apps) ≡ true → common_of c.manner c.config apps ≡ found
    → Moves c h (opens c found)
m_opens c h ids apps None r e met is = m_closes c h why.Invalid
m_opens c h ids apps (Some []) r e met is = m_closes c h why.NoCommon
m_opens c h ids apps (Some (p ∷ ps)) r e met is = record { config = refl; role = refl; manner = refl; met = refl; suits = suits_open c.role; past = λ x. past_open; sends = tt; opened = λ o. by_answer ids apps r e met is (omega arith) }

m_answered : (c : PlainCore) (h : Happening) (ids : Ids) (result : ℕ) (apps : List Pair) → c.role ≡ Initiator → h ≡ Gets (Cea ids result apps) → introduces c (Cea ids result apps) ≡ true → Moves c h (answered c result apps)
m_answered c h ids result apps r e met =
    cond_both (result == 2001) (opens c (common_of c.manner c.config apps)) (cond (result == 5010) (closes c [] why.NoCommon) (closes c [] why.Refused)) (Moves c h)
    (λ t. m_opens c h ids apps (common_of c.manner c.config apps) r (e ∙ ap (λ n. Gets (Cea ids n apps)) (eq_same result 2001 t)) met refl)
    (λ f. cond_both (result == 5010) (closes c [] why.NoCommon) (closes c [] why.Refused) (Moves c h) (λ t. m_closes c h why.NoCommon) (λ g. m_closes c h why.Refused))

m_accepts : (c : PlainCore) (h : Happening) (ids : Ids) (bytes : List ℕ) (apps : List Pair) (found : Option (List Pair)) → c.role ≡ Responder → h ≡ Gets (Cer ids bytes apps) → introduces c (Cer ids bytes apps) ≡ true
    → common_of c.manner c.config apps ≡ found → Moves c h (accepts c ids bytes found)
m_accepts c h ids bytes apps None r e met is = m_closes c h why.Invalid
m_accepts c h ids bytes apps (Some []) r e met is = m_answers c h (cea c.config ids 5010) why.NoCommon (refuses_it ids r refl)
m_accepts c h ids bytes apps (Some (p ∷ ps)) r e met is = record {
  config = refl;
  role = refl;
  manner = refl;
  met = refl;
  suits = suits_open c.role;
  past = λ x. past_open;
  sends = (accepts_it ids r past_open refl, tt);
  opened = λ o. by_request ids bytes apps r e met is (omega arith) refl refl;
}

m_repeated : (c : PlainCore) (h : Happening) (bytes : List ℕ) (taken : Option PlainTaken) → c.role ≡ Responder → c.state ≡ Open → Suits c.role c.state → Moves c h (repeated c bytes taken)
m_repeated c h bytes None r e s = m_nothing c h s
m_repeated c h bytes (Some taken) r e s =
    cond_both (same_bytes bytes taken.bytes) (record { core = c; deeds = Sends (cea c.config taken.ids 2001) ∷ [] }) (nothing c) (Moves c h)
    (λ t. m_says c h (cea c.config taken.ids 2001) s (accepts_it taken.ids r (subst IsPastOpen (sym e) past_open) refl)) (λ f. m_nothing c h s)

m_only : (r : Role) (c : PlainCore) (h : Happening) (bytes : List ℕ) → c.role ≡ r → c.state ≡ Open → Suits c.role c.state → Moves c h (only_responder r (repeated c bytes c.taken) (nothing c))
m_only Initiator c h bytes r e s = m_nothing c h s
m_only Responder c h bytes r e s = m_repeated c h bytes c.taken r e s

-- ---- what comes

m_waits : (c : PlainCore) (h : Happening) → Suits c.role c.state → Moves c h (record { core = record c { waits = false }; deeds = [] })
m_waits c h s = record { config = refl; role = refl; manner = refl; met = refl; suits = s; past = λ p. p; sends = tt; opened = λ e. stays e refl refl }

m_watch : (c : PlainCore) (h : Happening) → Suits c.role c.state
    → Moves c h (record { core = record c { next = after c.next; last_dwr = Some c.next; waits = true }; deeds = Sends (dwr c.config c.next) ∷ [] })
m_watch c h s = record { config = refl; role = refl; manner = refl; met = refl; suits = s; past = λ p. p; sends = (watches c.next refl, tt); opened = λ e. stays e refl refl }

m_ticks : (c : PlainCore) (h : Happening) → Suits c.role c.state → Moves c h (ticks_open c)
m_ticks c h s =
    cond_both c.waits (closes c [] why.Watchdog) (record { core = record c { next = after c.next; last_dwr = Some c.next; waits = true }; deeds = Sends (dwr c.config c.next) ∷ [] }) (Moves c h)
    (λ t. m_closes c h why.Watchdog) (λ f. m_watch c h s)

m_stops : (c : PlainCore) (h : Happening) (cause : Cause) → Moves c h (stops_open c cause)
m_stops c h cause = record { config = refl; role = refl; manner = refl; met = refl; suits = suits_end c.role; past = λ p. is_end; sends = (leaves c.next cause refl, tt); opened = λ e. absurd cc }

moves_in : (s : State) (c : PlainCore) (h : Happening) → c.state ≡ s → Suits c.role c.state → Moves c h (happens_in s c h)
moves_in Closed c h e s = m_nothing c h s
moves_in state c Breaks e s = m_breaks c Breaks
moves_in Idle c Starts e s = m_starts c.role c Starts refl e
moves_in Idle c (Stops cause) e s = m_closes c _ why.Stopped
moves_in Idle c h e s = m_nothing c h s
moves_in state c (Gets Unreadable) e s = m_closes c _ why.Invalid
moves_in state c (Gets Invalid) e s = m_closes c _ why.Invalid
moves_in WaitCea c (Gets (Cea ids result apps)) e s =
    cond_both (same_ids ids c.last_cer) (answered c result apps) (nothing c) (Moves c (Gets (Cea ids result apps)))
    (λ t. m_answered c (Gets (Cea ids result apps)) ids result apps (is_initiator c.role (subst (Suits c.role) e s)) refl (λ i. awaits_cea (e i) && t i)) (λ f. m_nothing c _ s)
moves_in WaitCea c (Gets (Refusal ids)) e s =
    cond_both (same_ids ids c.last_cer) (closes c [] why.Refused) (nothing c) (Moves c (Gets (Refusal ids))) (λ t. m_closes c _ why.Refused) (λ f. m_nothing c _ s)
moves_in WaitCea c Ticks e s = m_closes c _ why.Timeout
moves_in WaitCea c (Stops cause) e s = m_closes c _ why.Stopped
moves_in WaitCer c (Gets (Cer ids bytes apps)) e s =
    m_accepts c (Gets (Cer ids bytes apps)) ids bytes apps (common_of c.manner c.config apps) (is_responder c.role (subst (Suits c.role) e s)) refl (ap awaits_cer e) refl
moves_in WaitCer c Ticks e s = m_closes c _ why.Timeout
moves_in WaitCer c (Stops cause) e s = m_closes c _ why.Stopped
moves_in Open c (Gets (Cer ids bytes apps)) e s = m_only c.role c (Gets (Cer ids bytes apps)) bytes refl e s
moves_in Open c (Gets (Dwr ids)) e s = m_says c _ (dwa c.config ids) s (is_there ids refl)
moves_in Open c (Gets (Dwa ids)) e s =
    cond_both (same_ids ids c.last_dwr) (record { core = record c { waits = false }; deeds = [] }) (nothing c) (Moves c (Gets (Dwa ids))) (λ t. m_waits c _ s) (λ f. m_nothing c _ s)
moves_in Open c (Gets (Dpr ids)) e s = m_answers c _ (dpa c.config ids) why.PeerStopped (lets_go ids refl)
moves_in Open c Ticks e s = m_ticks c Ticks s
moves_in Open c (Stops cause) e s = m_stops c _ cause
moves_in WaitDpa c (Gets (Dwr ids)) e s = m_says c _ (dwa c.config ids) s (is_there ids refl)
moves_in WaitDpa c (Gets (Dpr ids)) e s = m_answers c _ (dpa c.config ids) why.PeerStopped (lets_go ids refl)
moves_in WaitDpa c (Gets (Dpa ids)) e s =
    cond_both (same_ids ids c.last_dpr) (closes c [] why.Stopped) (nothing c) (Moves c (Gets (Dpa ids))) (λ t. m_closes c _ why.Stopped) (λ f. m_nothing c _ s)
moves_in WaitDpa c Ticks e s = m_closes c _ why.Timeout
moves_in state c h e s = m_nothing c h s

moves : (c : PlainCore) (h : Happening) → Suits c.role c.state → Moves c h (happens c h)
moves c h s = moves_in c.state c h refl s

-- ---- by the manner

abbrev noted : Outcome → Bool → Bool → Outcome
noted o waits suspect = record { core = record o.core { waits = waits; suspect = suspect }; deeds = o.deeds }

still : (c : PlainCore) (h : Happening) (o : Outcome) (waits suspect : Bool) → Opened c h o → Opened c h (noted o waits suspect)
still c h o waits suspect (stays e common taken) = stays e common taken
still c h o waits suspect (by_answer ids apps role is met common some) = by_answer ids apps role is met common some
still c h o waits suspect (by_request ids bytes apps role is met common some taken deeds) = by_request ids bytes apps role is met common some taken deeds

m_noted : (c : PlainCore) (h : Happening) (o : Outcome) (waits suspect : Bool) → Moves c h o → Moves c h (noted o waits suspect)
m_noted c h o waits suspect m = record { config = m.config; role = m.role; manner = m.manner; met = m.met; suits = m.suits; past = m.past; sends = m.sends; opened = λ e. still c h o waits suspect (m.opened e) }

m_suspects : (c : PlainCore) (o : Outcome) → Suits c.role c.state → Moves c Ticks o → Moves c Ticks (suspects c o)
m_suspects c o s m =
    cond_both (is_open c.state && c.waits && not c.suspect) (record { core = record c { suspect = true }; deeds = [] }) o (Moves c Ticks)
    (λ t. m_noted c Ticks (nothing c) c.waits true (m_nothing c Ticks s)) (λ f. m)

pub lived : (c : PlainCore) (h : Happening) → Suits c.role c.state → Moves c h (lives c h)
lived c Starts s = moves c Starts s
lived c (Gets what) s =
    let o = happens c (Gets what) in let m = moves c (Gets what) s in
    cond_both c.manner.life (hears c what o) o (Moves c (Gets what)) (λ t. m_noted c (Gets what) o (cond (ends_wait c what) false o.core.waits) false m) (λ f. m)
lived c Ticks s =
    let o = happens c Ticks in let m = moves c Ticks s in
    cond_both c.manner.life (suspects c o) o (Moves c Ticks) (λ t. m_suspects c o s m) (λ f. m)
lived c (Stops cause) s = moves c (Stops cause) s
lived c Breaks s = moves c Breaks s
