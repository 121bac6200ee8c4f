-- The keys that are taken one by one, and all that follow from them.
use Rattle.std.proofs.Common.{◌≡◌, ◌+◌, ◌<◌, true, not, List, [], ◌∷◌, ◌++◌}
use Rattle.std.proofs.Common.{length, refl, sym, ap, subst, ◌∙◌, arith, inl, inr}
use Rattle.std.specs.Prelude.{◌⊎◌, ◌↔◌, Contains, count_by}
use Rattle.std.proofs.lemmas.List.{length-append}
use Rattle.std.proofs.lemmas.Option.{same_Some}
use Rattle.dia_wire.specs.declared.Key.{Key}
use Rattle.dia_book.specs.Dictionary.{Dictionary, DictEntry, PlainDefinition}
use Rattle.dia_compat.specs.declared.proposing.reaching.Reached.{Reached}
use Rattle.dia_compat.specs.Sides.{Sides}
use Rattle.dia_compat.specs.ReachedKeys.{has, Waits, Admits, Wants, potential, Grew}
use Rattle.dia_compat.specs.ReachedKeys.{ComesToAll, Follows, root, in_group, IsSharedGroup, AllWait, AreRest}
use Rattle.dia_valid.proofs.Members.{IsIn, in_contains, contains_in, in_left, in_right, in_append}
use Rattle.dia_compat.proofs.ReachedKeys.{grew_none, rest_then}

-- the group of the key, if both have one, was gone through
abbrev IsDone : Sides → Reached → Key → Type 0
IsDone sides r key = (group : PlainDefinition) → IsSharedGroup sides key group → (other : Key) → Wants sides group.rules other → has r other ≡ true

pub record Following (sides : Sides) (roots r : Reached) : Type 0 where
  pub sound : (key : Key) → has r key ≡ true → Follows sides roots key
  pub keeps : (key : Key) → has roots key ≡ true → has r key ≡ true
  pub waiting : (key : Key) → Waits r key → has r key ≡ true
  pub done : (key : Key) → has r key ≡ true → Waits r key ⊎ IsDone sides r key
  pub rest : AreRest sides r

pub following_none : (sides : Sides) (roots : Reached) → AllWait roots → AreRest sides roots → Following sides roots roots
following_none sides roots all rest = record {
  sound = λ key h. root key h;
  keeps = λ key h. h;
  waiting = all.only;
  done = λ key h. inl (all.each key h);
  rest = rest;
}

-- a key is taken, and its group, if both have one, is gone through
pub following_more : (sides : Sides) (roots old mid new : Reached) (key : Key) → Following sides roots old → ((other : Key) → has mid other ≡ has old other)
    → old.waiting.items ≡ mid.waiting.items ++ key ∷ []
    → (P : Key → Type 0) → Grew sides.first P mid new → ((other : Key) → P other → Follows sides roots other) → IsDone sides new key → AreRest sides new → Following sides roots new
following_more sides roots old mid new key f same popped P grew follows is_done rest = record {
  sound = λ other h. sound other (grew.only other h);
  keeps = λ other h. grew.grows other (same other ∙ f.keeps other h);
  waiting = λ other w. waiting other (grew.waits other w);
  done = λ other h. done other (grew.queued other h);
  rest = rest;
}
  where
    sound : (other : Key) → (has mid other ≡ true) ⊎ P other → Follows sides roots other
    sound other (inl h) = f.sound other (sym (same other) ∙ h)
    sound other (inr p) = follows other p

    waits_old : (other : Key) → Waits mid other → Waits old other
    waits_old other w = subst (λ (xs : List Key). Contains xs other) (sym popped)
        (contains_in (mid.waiting.items ++ key ∷ []) other (in_left mid.waiting.items (key ∷ []) other (in_contains mid.waiting.items other w)))

    waiting : (other : Key) → Waits mid other ⊎ (has new other ≡ true) → has new other ≡ true
    waiting other (inl w) = grew.grows other (same other ∙ f.waiting other (waits_old other w))
    waiting other (inr h) = h

    left : (other : Key) → IsIn other mid.waiting.items ⊎ IsIn other (key ∷ []) → Waits new other ⊎ IsDone sides new other
    left other (inl i) = inl (grew.still other (contains_in mid.waiting.items other i))
    left other (inr (inl is)) = inr (subst (IsDone sides new) (sym is) is_done)
    left other (inr (inr none)) = absurd none

    before : (other : Key) → Waits old other ⊎ IsDone sides old other → Waits new other ⊎ IsDone sides new other
    before other (inl w) = left other (in_append mid.waiting.items (key ∷ []) other (in_contains (mid.waiting.items ++ key ∷ []) other (subst (λ (xs : List Key). Contains xs other) popped w)))
    before other (inr d) = inr (λ group is wanted w. grew.grows wanted (same wanted ∙ d group is wanted w))

    done : (other : Key) → (has mid other ≡ true) ⊎ Waits new other → Waits new other ⊎ IsDone sides new other
    done other (inr w) = inl w
    done other (inl h) = before other (f.done other (sym (same other) ∙ h))

-- where none waits, all that follows is there
pub following_all : (sides : Sides) (roots r : Reached) → Following sides roots r → r.waiting.items ≡ [] → (key : Key) → (has r key ≡ true) ↔ Follows sides roots key
following_all sides roots r f none key = (f.sound key, there key)
  where
    no_wait : (other : Key) → ¬ Waits r other
    no_wait other w = in_contains [] other (subst (λ (xs : List Key). Contains xs other) none w)

    by : (outer : Key) (group : PlainDefinition) (other : Key) → IsSharedGroup sides outer group → Wants sides group.rules other → Waits r outer ⊎ IsDone sides r outer → has r other ≡ true
    by outer group other is wants (inl w) = absurd (no_wait outer w)
    by outer group other is wants (inr d) = d group is other wants

    there : (other : Key) → Follows sides roots other → has r other ≡ true
    there other (root k h) = f.keeps other h
    there other (in_group outer k e x group up at_a at_b both is wants) =
        by outer group other (record { e = e; f = x; at_a = at_a; at_b = at_b; both = both; is_group = is }) wants (f.done outer (there outer up))

one_shared_group : (sides : Sides) (key : Key) (g h : PlainDefinition) → IsSharedGroup sides key g → IsSharedGroup sides key h → g ≡ h
one_shared_group sides key g h x y =
    let same : x.e ≡ y.e = same_Some x.e y.e (sym x.at_a ∙ y.at_a) in
    same_Some g h (sym x.is_group ∙ ap (λ (e : DictEntry). e.group) same ∙ y.is_group)

last_waits : (r : Reached) (front : List Key) (key : Key) → r.waiting.items ≡ front ++ key ∷ [] → Waits r key
last_waits r front key popped = subst (λ (xs : List Key). Contains xs key) (sym popped) (contains_in (front ++ key ∷ []) key (in_right front (key ∷ []) key (inl refl)))

-- a key is taken, and the group that both have is gone through
pub follow_group : (sides : Sides) (roots old mid new : Reached) (key : Key) (group : PlainDefinition) → Following sides roots old → ((other : Key) → has mid other ≡ has old other)
    → old.waiting.items ≡ mid.waiting.items ++ key ∷ []
    → IsSharedGroup sides key group → AreRest sides mid → ComesToAll sides (Admits group.rules) mid new → Following sides roots new
follow_group sides roots old mid new key group f same popped is rest all =
    following_more sides roots old mid new key f same popped (Wants sides group.rules) all.grew
    (λ other w. in_group key other is.e is.f group (f.sound key (f.waiting key (last_waits old mid.waiting.items key popped))) is.at_a is.at_b is.both is.is_group w)
    (λ other_group other_is other w. let e = one_shared_group sides key other_group group other_is is in let v = subst (λ (x : PlainDefinition). Wants sides x.rules other) e w in
    all.there other v.0 v.1)
    (rest_then sides (Admits group.rules) mid new rest all)

-- a key is taken that has no such group
pub follow_none : (sides : Sides) (roots old mid : Reached) (key : Key) → Following sides roots old → ((other : Key) → has mid other ≡ has old other)
    → old.waiting.items ≡ mid.waiting.items ++ key ∷ []
    → ((group : PlainDefinition) → ¬ IsSharedGroup sides key group) → AreRest sides mid → Following sides roots mid
follow_none sides roots old mid key f same popped none rest =
    following_more sides roots old mid mid key f same popped (λ _. ⊥) (grew_none sides.first (λ _. ⊥) mid) (λ other h. absurd h) (λ group is. absurd (none group is)) rest

pub taken_nearer : (da : Dictionary) (P : Key → Type 0) (old mid new : Reached) (key : Key) → count_by (λ e. not (has mid e.key)) da.entries ≡ count_by (λ e. not (has old e.key)) da.entries
    → old.waiting.items ≡ mid.waiting.items ++ key ∷ [] → Grew da P mid new → potential da new < potential da old
taken_nearer da P old mid new key same popped grew = let nearer = grew.nearer in omega (arith, ap length popped, length-append mid.waiting.items (key ∷ []))
