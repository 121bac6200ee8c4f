-- A watchdog closes only after a `Tick` at which it waited, with nothing heard since.
use Rattle.std.proofs.Common.{◌≡◌, ℕ, Bool, true, false, cond, List, [], ◌∷◌, ◌++◌, Option, Some, None, inl, inr, refl, sym, ap, subst, ◌∙◌, append_assoc}
use Rattle.std.specs.Prelude.{◌==◌, ◌&&◌, ◌||◌, not, IsTrue}
use Rattle.std.specs.List.{AllByRecursion, list_any}
use Rattle.std.proofs.lemmas.Bool.{cond_both}
use Rattle.dia_peer.specs.declared.config.Role.{Role}
use Rattle.dia_peer.specs.declared.config.Role.TheVariants.{Initiator, Responder}
use Rattle.dia_peer.specs.declared.config.Manner.{Manner}
use Rattle.dia_peer.specs.declared.event.State.{State}
use Rattle.dia_peer.specs.declared.event.State.TheVariants.{Idle, WaitCea, WaitCer, Open, WaitDpa, Closed}
use Rattle.dia_peer.specs.declared.event.Why.TheVariants as why
use Rattle.dia_peer.specs.declared.kept_requests.Ids.{Ids}
use Rattle.dia_peer.specs.Core.{PlainConfig, PlainCore, PlainTaken, Pair, common_of}
use Rattle.dia_peer.specs.Messages.{Received, Cer, Cea, Refusal, Dwa, Dpa, cea, dwr, after}
use Rattle.dia_peer.specs.Table.{Happening, Starts, Gets, Ticks, Stops, Breaks, Deed, Sends, Closes, Outcome, nothing, closes, same_bytes, same_ids, starts, opens, answered, accepts, repeated, only_responder, ticks_open, happens_in, happens}
use Rattle.dia_peer.specs.World.{idle}
use Rattle.dia_peer.specs.Life.{is_open, suspects, hears, lives, Act, Does, Hears, TakesIds, Keeps, acts, after_all, IsSilent, AwaitsDwa, SilentSinceTick, ClosesInSilence}
use Rattle.dia_peer.proofs.Sets.{IsIn, to_in}
use Rattle.dia_peer.proofs.ResultCode.{never}

-- ---- the table

abbrev is_watchdog : Deed → Bool
is_watchdog (Closes why.Watchdog) = true
is_watchdog deed = false

-- the table leaves `suspect` and the manner, and a watchdog closes at a `Tick` while it waits
abbrev Framed : PlainCore → Happening → Outcome → Type 0
Framed c h o = (o.core.suspect ≡ c.suspect) × (o.core.manner ≡ c.manner) × (list_any is_watchdog o.deeds ≡ true → (h ≡ Ticks) × AwaitsDwa c)

either : (c : PlainCore) (h : Happening) (b : Bool) (x y : Outcome) → Framed c h x → Framed c h y → Framed c h (cond b x y)
either c h true x y f g = f
either c h false x y f g = g

by_opens : (c : PlainCore) (h : Happening) (found : Option (List Pair)) → Framed c h (opens c found)
by_opens c h None = (refl, refl, λ t. never t)
by_opens c h (Some []) = (refl, refl, λ t. never t)
by_opens c h (Some (p ∷ ps)) = (refl, refl, λ t. never t)

by_answered : (c : PlainCore) (h : Happening) (result : ℕ) (apps : List Pair) → Framed c h (answered c result apps)
by_answered c h result apps =
    either c h (result == 2001) (opens c (common_of c.manner c.config apps)) (cond (result == 5010) (closes c [] why.NoCommon) (closes c [] why.Refused))
    (by_opens c h (common_of c.manner c.config apps)) (either c h (result == 5010) (closes c [] why.NoCommon) (closes c [] why.Refused) (refl, refl, λ t. never t) (refl, refl, λ t. never t))

by_accepts : (c : PlainCore) (h : Happening) (ids : Ids) (bytes : List ℕ) (found : Option (List Pair)) → Framed c h (accepts c ids bytes found)
by_accepts c h ids bytes None = (refl, refl, λ t. never t)
by_accepts c h ids bytes (Some []) = (refl, refl, λ t. never t)
by_accepts c h ids bytes (Some (p ∷ ps)) = (refl, refl, λ t. never t)

by_repeated : (c : PlainCore) (h : Happening) (bytes : List ℕ) (taken : Option PlainTaken) → Framed c h (repeated c bytes taken)
by_repeated c h bytes None = (refl, refl, λ t. never t)
by_repeated c h bytes (Some taken) =
    either c h (same_bytes bytes taken.bytes) (record { core = c; deeds = Sends (cea c.config taken.ids 2001) ∷ [] }) (nothing c) (refl, refl, λ t. never t) (refl, refl, λ t. never t)

by_role : (c : PlainCore) (h : Happening) (role : Role) (o : Outcome) → Framed c h o → Framed c h (only_responder role o (nothing c))
by_role c h Initiator o f = (refl, refl, λ t. never t)
by_role c h Responder o f = f

by_start : (c : PlainCore) (role : Role) → Framed c Starts (starts c role)
by_start c Initiator = (refl, refl, λ t. never t)
by_start c Responder = (refl, refl, λ t. never t)

by_ticks : (c : PlainCore) → c.state ≡ Open → Framed c Ticks (ticks_open c)
by_ticks c e =
    cond_both c.waits (closes c [] why.Watchdog) (record { core = record c { next = after c.next; last_dwr = Some c.next; waits = true }; deeds = Sends (dwr c.config c.next) ∷ [] }) (Framed c Ticks)
    (λ t. (refl, refl, λ w. (refl, (e, t)))) (λ f. (refl, refl, λ w. never w))

in_state : (s : State) (c : PlainCore) (h : Happening) → c.state ≡ s → Framed c h (happens_in s c h)
in_state Idle c Starts e = by_start c c.role
in_state WaitCea c (Gets (Cea ids result apps)) e =
    either c (Gets (Cea ids result apps)) (same_ids ids c.last_cer) (answered c result apps) (nothing c) (by_answered c (Gets (Cea ids result apps)) result apps) (refl, refl, λ t. never t)
in_state WaitCea c (Gets (Refusal ids)) e =
    either c (Gets (Refusal ids)) (same_ids ids c.last_cer) (closes c [] why.Refused) (nothing c) (refl, refl, λ t. never t) (refl, refl, λ t. never t)
in_state WaitCer c (Gets (Cer ids bytes apps)) e = by_accepts c (Gets (Cer ids bytes apps)) ids bytes (common_of c.manner c.config apps)
in_state Open c (Gets (Cer ids bytes apps)) e = by_role c (Gets (Cer ids bytes apps)) c.role (repeated c bytes c.taken) (by_repeated c (Gets (Cer ids bytes apps)) bytes c.taken)
in_state Open c (Gets (Dwa ids)) e =
    either c (Gets (Dwa ids)) (same_ids ids c.last_dwr) (record { core = record c { waits = false }; deeds = [] }) (nothing c) (refl, refl, λ t. never t) (refl, refl, λ t. never t)
in_state Open c Ticks e = by_ticks c e
in_state WaitDpa c (Gets (Dpa ids)) e =
    either c (Gets (Dpa ids)) (same_ids ids c.last_dpr) (closes c [] why.Stopped) (nothing c) (refl, refl, λ t. never t) (refl, refl, λ t. never t)
in_state state c h e = (refl, refl, λ t. never t)

framed : (c : PlainCore) (h : Happening) → Framed c h (happens c h)
framed c h = in_state c.state c h refl

-- ---- the manner

at_true : (b : Bool) (x y : Outcome) → b ≡ true → cond b x y ≡ x
at_true b x y e = ap (λ (t : Bool). cond t x y) e

is_life : (c : PlainCore) (what : Received) → c.manner.life ≡ true → lives c (Gets what) ≡ hears c what (happens c (Gets what))
is_life c what e = at_true c.manner.life _ _ e

ticks_life : (c : PlainCore) → c.manner.life ≡ true → lives c Ticks ≡ suspects c (happens c Ticks)
ticks_life c e = at_true c.manner.life _ _ e

keeps_manner : (c : PlainCore) (h : Happening) → (lives c h).core.manner ≡ c.manner
keeps_manner c Starts = (framed c Starts).1
keeps_manner c (Gets what) =
    cond_both c.manner.life (hears c what (happens c (Gets what))) (happens c (Gets what)) (λ o. o.core.manner ≡ c.manner) (λ t. (framed c (Gets what)).1) (λ f. (framed c (Gets what)).1)
keeps_manner c Ticks =
    cond_both c.manner.life (suspects c (happens c Ticks)) (happens c Ticks) (λ o. o.core.manner ≡ c.manner)
    (λ t. cond_both (is_open c.state && c.waits && not c.suspect) (record { core = record c { suspect = true }; deeds = [] }) (happens c Ticks) (λ o. o.core.manner ≡ c.manner) (λ u. refl) (λ u. (framed c Ticks).1))
    (λ f. (framed c Ticks).1)
keeps_manner c (Stops cause) = (framed c (Stops cause)).1
keeps_manner c Breaks = (framed c Breaks).1

all_three : (s : State) (x y : Bool) → (is_open s && x && not y) ≡ true → (s ≡ Open) × (x ≡ true)
all_three Open true y e = (refl, refl)
all_three Open false y e = never e
all_three Idle x y e = never e
all_three WaitCea x y e = never e
all_three WaitCer x y e = never e
all_three WaitDpa x y e = never e
all_three Closed x y e = never e

then_suspect : (s : State) (x y : Bool) → s ≡ Open → x ≡ true → (is_open s && x && not y) ≡ false → y ≡ true
then_suspect s x true a b e = refl
then_suspect s x false a b e = never (sym e ∙ (λ i. is_open (a i) && b i && true))

-- ---- acts

joined : (c : PlainCore) (xs : List Act) (a : Act) → after_all c (xs ++ a ∷ []) ≡ acts (after_all c xs) a
joined c [] a = refl
joined c (x ∷ xs) a = joined (acts c x) xs a

all_last : (xs : List Act) (a : Act) → AllByRecursion IsSilent xs → IsSilent a → AllByRecursion IsSilent (xs ++ a ∷ [])
all_last [] a h s = (s, tt)
all_last (x ∷ xs) a h s = (h.0, all_last xs a h.1 s)

module _ (c : PlainCore) where
  -- with the manner, and suspect only in silence
  abbrev Holds : List Act → Type 0
  Holds all = ((after_all c all).manner.life ≡ true) × ((after_all c all).suspect ≡ true → SilentSinceTick c all)

  longer : (all : List Act) (a : Act) → IsSilent a → SilentSinceTick c all → SilentSinceTick c (all ++ a ∷ [])
  longer all a silent (x, y, e, awaits, quiet) =
      (x, y ++ a ∷ [], ap (λ (l : List Act). l ++ a ∷ []) e ∙ append_assoc x (Does Ticks ∷ y) (a ∷ []), awaits, all_last y a quiet silent)

  by_tick : (all : List Act) → Holds all → (suspects (after_all c all) (happens (after_all c all) Ticks)).core.suspect ≡ true → SilentSinceTick c (all ++ Does Ticks ∷ [])
  by_tick all hold =
      let k = after_all c all in
      cond_both (is_open k.state && k.waits && not k.suspect) (record { core = record k { suspect = true }; deeds = [] }) (happens k Ticks) (λ o. o.core.suspect ≡ true → SilentSinceTick c (all ++ Does Ticks ∷ []))
      (λ t s. (all, [], refl, all_three k.state k.waits k.suspect t, tt)) (λ f s. longer all (Does Ticks) tt (hold.1 (sym (framed k Ticks).0 ∙ s)))

  by_act : (all : List Act) (a : Act) → Holds all → (acts (after_all c all) a).suspect ≡ true → SilentSinceTick c (all ++ a ∷ [])
  by_act all (Does Starts) hold s = longer all (Does Starts) tt (hold.1 (sym (framed (after_all c all) Starts).0 ∙ s))
  by_act all (Does (Gets what)) hold s = never (ap (λ (o : Outcome). o.core.suspect) (sym (is_life (after_all c all) what hold.0)) ∙ s)
  by_act all (Does Ticks) hold s = by_tick all hold (ap (λ (o : Outcome). o.core.suspect) (sym (ticks_life (after_all c all) hold.0)) ∙ s)
  by_act all (Does (Stops cause)) hold s = longer all (Does (Stops cause)) tt (hold.1 (sym (framed (after_all c all) (Stops cause)).0 ∙ s))
  by_act all (Does Breaks) hold s = longer all (Does Breaks) tt (hold.1 (sym (framed (after_all c all) Breaks).0 ∙ s))
  by_act all Hears hold s = never s
  by_act all TakesIds hold s = longer all TakesIds tt (hold.1 s)
  by_act all (Keeps met left) hold s = longer all (Keeps met left) tt (hold.1 s)

  act_keeps : (k : PlainCore) (a : Act) → (acts k a).manner ≡ k.manner
  act_keeps k (Does h) = keeps_manner k h
  act_keeps k Hears = refl
  act_keeps k TakesIds = refl
  act_keeps k (Keeps met left) = refl

  one_more : (all : List Act) (a : Act) → Holds all → Holds (all ++ a ∷ [])
  one_more all a hold =
      let same = joined c all a in (
        ap (λ (k : PlainCore). k.manner.life) same ∙ ap (λ (m : Manner). m.life) (act_keeps (after_all c all) a) ∙ hold.0,
        λ s. by_act all a hold (ap (λ (k : PlainCore). k.suspect) (sym same) ∙ s),
      )

  goes : (before rest : List Act) → Holds before → Holds (before ++ rest)
  goes before [] hold = subst Holds (sym (nothing_more before)) hold
    where
      nothing_more : (xs : List Act) → xs ++ [] ≡ xs
      nothing_more [] = refl
      nothing_more (x ∷ xs) = ap (λ (l : List Act). x ∷ l) (nothing_more xs)
  goes before (a ∷ rest) hold = subst Holds (append_assoc before (a ∷ []) rest) (goes (before ++ a ∷ []) rest (one_more before a hold))

-- ---- the law

or_true : (a b : Bool) → b ≡ true → (a || b) ≡ true
or_true true b e = refl
or_true false b e = e

is_there : (deeds : List Deed) → IsIn deeds (Closes why.Watchdog) → list_any is_watchdog deeds ≡ true
is_there [] m = absurd m
is_there (d ∷ deeds) (inl e) = ap (λ (x : Deed). is_watchdog x || list_any is_watchdog deeds) e
is_there (d ∷ deeds) (inr m) = or_true (is_watchdog d) (list_any is_watchdog deeds) (is_there deeds m)

-- where a watchdog closes, it is suspect
closing : (k : PlainCore) (h : Happening) → k.manner.life ≡ true → list_any is_watchdog (lives k h).deeds ≡ true → (h ≡ Ticks) × AwaitsDwa k × (k.suspect ≡ true)
closing k Starts life w = absurd (let (e, rest) = (framed k Starts).2 w in cc)
closing k (Gets what) life w =
    let at = ap (λ (o : Outcome). list_any is_watchdog o.deeds) (is_life k what life) in
    absurd (let (e, rest) = (framed k (Gets what)).2 (sym at ∙ w) in cc)
closing k Ticks life w = by (ap (λ (o : Outcome). list_any is_watchdog o.deeds) (sym (ticks_life k life)) ∙ w)
  where
    by : list_any is_watchdog (suspects k (happens k Ticks)).deeds ≡ true → (Ticks ≡ Ticks) × AwaitsDwa k × (k.suspect ≡ true)
    by =
        cond_both (is_open k.state && k.waits && not k.suspect) (record { core = record k { suspect = true }; deeds = [] }) (happens k Ticks)
        (λ o. list_any is_watchdog o.deeds ≡ true → (Ticks ≡ Ticks) × AwaitsDwa k × (k.suspect ≡ true)) (λ t z. never z)
        (λ f z. (let awaits = ((framed k Ticks).2 z).1 in (refl, awaits, then_suspect k.state k.waits k.suspect awaits.0 awaits.1 f)))
closing k (Stops cause) life w = absurd (let (e, rest) = (framed k (Stops cause)).2 w in cc)
closing k Breaks life w = absurd (let (e, rest) = (framed k Breaks).2 w in cc)

pub in_silence : (c : PlainConfig) (role : Role) (manner : Manner) (all : List Act) (h : Happening) → IsTrue manner.life → ClosesInSilence (idle c role manner) all h
in_silence c role manner all h life at =
    let start = idle c role manner in
    let hold : Holds start all = goes start [] all (life, λ s. never s) in
    let (e, awaits, suspect) = closing (after_all start all) h hold.0 (is_there (lives (after_all start all) h).deeds (to_in (lives (after_all start all) h).deeds (Closes why.Watchdog) at)) in
    (e, awaits, hold.1 suspect)
