-- The groups around a place, found one after the other.
use Rattle.std.proofs.Common.{◌≡◌, ℕ, zero, suc, ◌+◌, ◌-◌, ◌<◌, ◌≤◌, Bool, true, false, List, [], ◌∷◌, ◌++◌, cond, length, get_or, drop, take, Option, Some, None, refl, sym, ap, subst, ◌∙◌, append_assoc, append-nil, arith}
use Rattle.std.specs.Prelude.{MatchOption, count_by, nat_le, nat_lt, slice_get, option_to_list, ◌&&◌, ⊤}
use Rattle.std.specs.Option.{option_map, option_map_or, option_or}
use Rattle.std.proofs.lemmas.Bool.{lt-ltb}
use Rattle.std.proofs.lemmas.List.{drop_all, drop_more, length-append, length-drop, map-append, take_all, take_more}
use Rattle.std.proofs.lemmas.Option.{get_or_from_slice_get, none-some, same_Some, slice_get-get_or, slice_get_within}
use Rattle.dia_wire.specs.Wire.{PlainAvp, SpellsAll, avp_length, head_length, padded_length}
use Rattle.dia_wire.proofs.Spelling.{at_least_8, opened, rounded-le}
use Rattle.dia_book.specs.declared.DRule.{DRule}
use Rattle.dia_book.specs.Dictionary.{Dictionary, PlainDefinition}
use Rattle.dia_book.proofs.NumberedGroups.{slice_get-append_at}
use Rattle.dia_valid.specs.Valid.{group_at}
use Rattle.dia_valid.proofs.Members.{count_cons}
use Rattle.dia_check.specs.declared.Fault.{Fault}
use Rattle.dia_answer.specs.declared.around.Step.{Step}
use Rattle.dia_answer.specs.declared.held.Held.{Held}
use Rattle.dia_answer.specs.Failed.{PlainInside, PlainLevel, PlainStep, IsAround, IsStep, IsWay, begun, entered, entered_in, heads_length, here, innermost, kept, may_have, up_to}
use Rattle.dia_answer.specs.Helds.{plain_held, plains}
use Rattle.dia_answer.specs.Levels.{plain_level, plain_step, plain_way}
use Rattle.dia_answer.specs.Requests.{AreFront}

-- what leads on from here
abbrev pub LeadsOn : Dictionary → Option PlainStep → List PlainStep → Type 0
LeadsOn d None rest = rest ≡ []
LeadsOn d (Some s) rest = (later : List PlainStep) × (rest ≡ s ∷ later) × IsWay d s.level later

-- the way so far, with whatever leads on, is the whole way
abbrev pub IsSoFar : Dictionary → PlainLevel → List PlainStep → Option PlainStep → Type 0
IsSoFar d outer way next = (rest : List PlainStep) → LeadsOn d next rest → IsWay d outer (way ++ rest)

-- what is found from a level
abbrev pub IsNext : Dictionary → PlainLevel → Option Step → Type 0
IsNext d l next = MatchOption next (entered_in d l.place l.avps ≡ None) (λ s. IsStep d l (plain_step s))

way_by : (d : Dictionary) (l : PlainLevel) (next : Option Step) (rest : List PlainStep) → IsNext d l next → LeadsOn d (option_map plain_step next) rest → IsWay d l rest
way_by d l None rest none h = subst (IsWay d l) (sym h) none
way_by d l (Some s) rest step (later, is, way) = subst (IsWay d l) (sym is) (step, way)

pub begin_way : (d : Dictionary) (l : PlainLevel) (way : List Step) (next : Option Step) → way ≡ [] → IsNext d l next → IsSoFar d l (plain_way way) (option_map plain_step next)
begin_way d l way next none is rest h = subst (λ (w : List Step). IsWay d l (plain_way w ++ rest)) (sym none) (way_by d l next rest is h)

pub more_way : (d : Dictionary) (outer : PlainLevel) (way new : List Step) (old next : Option Step) (s : Step) → old ≡ Some s → IsSoFar d outer (plain_way way) (option_map plain_step old) → IsNext d (plain_level s.level) next → new ≡ way ++ s ∷ []
    → IsSoFar d outer (plain_way new) (option_map plain_step next)
more_way d outer way new old next s found so_far is same rest h =
    let here : IsWay d outer (plain_way way ++ plain_step s ∷ rest) =
    so_far (plain_step s ∷ rest) (subst (λ (o : Option Step). LeadsOn d (option_map plain_step o) (plain_step s ∷ rest)) (sym found) (rest, refl, way_by d (plain_level s.level) next rest is h)) in
    let parts : plain_way new ++ rest ≡ plain_way way ++ plain_step s ∷ rest =
    ap (λ (w : List Step). plain_way w ++ rest) same ∙ ap (λ (w : List PlainStep). w ++ rest) (map-append plain_step way (s ∷ [])) ∙ append_assoc (plain_way way) (plain_step s ∷ []) rest in
    subst (IsWay d outer) (sym parts) here

pub end_way : (d : Dictionary) (outer : PlainLevel) (way : List Step) (next : Option Step) → next ≡ None → IsSoFar d outer (plain_way way) (option_map plain_step next) → IsWay d outer (plain_way way)
end_way d outer way next none so_far =
    subst (IsWay d outer) (append-nil (plain_way way)) (so_far [] (subst (λ (o : Option Step). LeadsOn d (option_map plain_step o) []) (sym none) refl))

-- ---- those up to the last that passes

pub last_fails : (p : PlainLevel → Bool) (way : List PlainStep) (s : PlainStep) → p s.level ≡ false → up_to p (way ++ s ∷ []) ≡ up_to p way
last_fails p [] s fails = ap (λ (b : Bool). kept b s []) fails
last_fails p (t ∷ way) s fails = ap (kept (p t.level) t) (last_fails p way s fails)

pub last_passes : (p : PlainLevel → Bool) (way : List PlainStep) (s : PlainStep) → p s.level ≡ true → up_to p (way ++ s ∷ []) ≡ way ++ s ∷ []
last_passes p [] s passes = ap (λ (b : Bool). kept b s []) passes
last_passes p (t ∷ way) s passes = ap (kept (p t.level) t) (last_passes p way s passes) ∙ by (p t.level) way
  where
    by : (b : Bool) (ws : List PlainStep) → kept b t (ws ++ s ∷ []) ≡ t ∷ (ws ++ s ∷ [])
    by true ws = refl
    by false [] = refl
    by false (w ∷ ws) = refl

-- ---- the groups that are left out

last_there : {X : Type 0} (xs : List X) (x : X) → slice_get (xs ++ x ∷ []) (length (xs ++ x ∷ []) - 1) ≡ Some x
last_there xs x =
    let e : length (xs ++ x ∷ []) - 1 ≡ length xs = omega (arith, length-append xs (x ∷ [])) in
    ap (λ (n : ℕ). slice_get (xs ++ x ∷ []) n) e ∙ slice_get-append_at xs [] x

pub leave_one : (p : PlainLevel → Bool) (all : List PlainStep) (way new : List Step) (s : Step) (popped : Option Step) → all ≡ up_to p (plain_way way) → Some s ≡ slice_get way (length way - 1) → way ≡ new ++ option_to_list popped
    → p (plain_level s.level) ≡ false → all ≡ up_to p (plain_way new)
leave_one p all way new s None so_far last parts fails = so_far ∙ ap (λ (w : List Step). up_to p (plain_way w)) (parts ∙ append-nil new)
leave_one p all way new s (Some t) so_far last parts fails =
    let is : s ≡ t = same_Some s t (last ∙ ap (λ (w : List Step). slice_get w (length w - 1)) parts ∙ last_there new t) in
    so_far ∙ ap (λ (w : List Step). up_to p (plain_way w)) parts ∙ ap (up_to p) (map-append plain_step new (t ∷ []))
    ∙ last_fails p (plain_way new) (plain_step t) (ap (λ (x : Step). p (plain_level x.level)) (sym is) ∙ fails)

split_last : {X : Type 0} (xs : List X) (x : X) → Some x ≡ slice_get xs (length xs - 1) → xs ≡ take (length xs - 1) xs ++ x ∷ []
split_last {X} xs x at =
    let within = slice_get_within xs (length xs - 1) x (sym at) in
    let size : length xs ≡ (length xs - 1) + 1 = omega (arith, within) in
    sym (take_all (length xs) xs (omega arith)) ∙ ap (λ (n : ℕ). take n xs) size ∙ take_more xs (length xs - 1) x within
    ∙ ap (λ (y : X). take (length xs - 1) xs ++ y ∷ []) (get_or_from_slice_get xs (length xs - 1) x x (sym at))

pub leave_end : (p : PlainLevel → Bool) (all : List PlainStep) (way : List Step) (s : Step) → all ≡ up_to p (plain_way way) → Some s ≡ slice_get way (length way - 1) → p (plain_level s.level) ≡ true → plain_way way ≡ all
leave_end p all way s so_far last passes =
    let front = take (length way - 1) way in
    let parts : plain_way way ≡ plain_way front ++ plain_step s ∷ [] = ap plain_way (split_last way s last) ∙ map-append plain_step front (s ∷ []) in
    parts ∙ sym (last_passes p (plain_way front) (plain_step s) passes) ∙ ap (up_to p) (sym parts) ∙ sym so_far

-- ---- how many bytes the groups take

entered_fits : (d : Dictionary) (n : ℕ) (v : PlainAvp) (x : PlainInside) → entered d n v ≡ Some x → x.group ≡ v
entered_fits d n v x e = by (nat_lt 0 n && nat_le n (avp_length v)) (group_at d v) e
  where
    by : (b : Bool) (o : Option PlainDefinition) → cond b (option_map (λ g. record { group = v; rules = g.rules; place = n - head_length v.vendor }) o) None ≡ Some x → x.group ≡ v
    by true (Some g) h = ap (λ (i : PlainInside). i.group) (sym (same_Some _ x h))
    by true None h = absurd cc
    by false o h = absurd cc

inside_fits : (d : Dictionary) (n : ℕ) (avps : List PlainAvp) (b : List ℕ) (x : PlainInside) → SpellsAll avps b → entered_in d n avps ≡ Some x → avp_length x.group ≤ length b
inside_fits d n [] b x h e = absurd cc
inside_fits d n (v ∷ avps) b x (front, rest, s, parts, all) e =
    by (entered d n v) refl e (λ h. inside_fits d (n - padded_length v) avps rest x all h)
  where
    size : length b ≡ length front + length rest
    size = ap length parts ∙ length-append front rest

    by : (o : Option PlainInside) → entered d n v ≡ o → option_or o (entered_in d (n - padded_length v) avps) ≡ Some x → (entered_in d (n - padded_length v) avps ≡ Some x → avp_length x.group ≤ length rest)
        → avp_length x.group ≤ length b
    by None is h ih = let later = ih h in omega (arith, later, size)
    by (Some i) is h ih =
        let group : x.group ≡ v = ap (λ (j : PlainInside). j.group) (sym (same_Some i x h)) ∙ entered_fits d n v i is in
        let long : avp_length v ≤ length front = let o = opened v front [] s in omega (arith, o.front_length, rounded-le (avp_length v)) in
        let same : avp_length x.group ≡ avp_length v = ap avp_length group in
        omega (arith, same, long, size)

-- a group is within its level
pub step_fits : (d : Dictionary) (l : PlainLevel) (s : PlainStep) → AreFront l.avps l.bytes → IsStep d l s → head_length s.group.vendor + length s.level.bytes ≤ length l.bytes
step_fits d l s f (inside, bytes, front) =
    let long = inside_fits d l.place l.avps f.front (record { group = s.group; rules = s.level.rules; place = s.level.place }) f.spelled inside in
    let size : length l.bytes ≡ length f.front + length f.rest = ap length f.parts ∙ length-append f.front f.rest in
    let same : length s.level.bytes ≡ length s.group.bytes = ap length bytes in
    omega (arith, long, size, same)

-- the groups up to the last that passes, and what is left of the innermost level
pub groups_fit : (d : Dictionary) (l : PlainLevel) (p : PlainLevel → Bool) (way : List PlainStep) → AreFront l.avps l.bytes → IsWay d l way → heads_length (up_to p way) + length (innermost l (up_to p way)).bytes ≤ length l.bytes
groups_fit d l p [] f h = omega arith
groups_fit d l p (s ∷ way) f (step, rest) = by (p s.level) (up_to p way) (groups_fit d s.level p way step.2 rest)
  where
    within : head_length s.group.vendor + length s.level.bytes ≤ length l.bytes
    within = step_fits d l s f step

    by : (b : Bool) (ws : List PlainStep) → heads_length ws + length (innermost s.level ws).bytes ≤ length s.level.bytes → heads_length (kept b s ws) + length (innermost l (kept b s ws)).bytes ≤ length l.bytes
    by true ws h = let w = within in omega (arith, h, w)
    by false [] h = omega arith
    by false (w ∷ ws) h = let w' = within in omega (arith, h, w')

-- the groups around a fault, and its level from the place on
pub around_fits : (d : Dictionary) (rules : List DRule) (body : List ℕ) (f : Fault) (outer : PlainLevel) (groups : List PlainStep) → IsAround d rules body f outer groups → heads_length groups + length (here (innermost outer groups)) ≤ length body
around_fits d rules body f outer groups a =
    let is_body : outer.bytes ≡ body = ap (λ (l : PlainLevel). l.bytes) a.is_outer in
    let p = may_have f.reason f.subject in
    let front = subst (AreFront outer.avps) (sym is_body) a.front in
    let all : heads_length groups + length (innermost outer groups).bytes ≤ length outer.bytes =
    subst (λ (ws : List PlainStep). heads_length ws + length (innermost outer ws).bytes ≤ length outer.bytes) (sym a.are_groups) (groups_fit d outer p a.way front a.is_way) in
    omega (arith, all, ap length is_body, length-drop (innermost outer groups).place (innermost outer groups).bytes)

-- ---- the innermost level

innermost_push : (l : PlainLevel) (way : List PlainStep) (s : PlainStep) → innermost l (way ++ s ∷ []) ≡ s.level
innermost_push l [] s = refl
innermost_push l (t ∷ way) s = innermost_push t.level way s

pub innermost_last : (l : PlainLevel) (way : List Step) (s : Step) → Some s ≡ slice_get way (length way - 1) → innermost l (plain_way way) ≡ plain_level s.level
innermost_last l way s last =
    let front = take (length way - 1) way in
    ap (innermost l) (ap plain_way (split_last way s last) ∙ map-append plain_step front (s ∷ [])) ∙ innermost_push l (plain_way front) (plain_step s)

-- ---- each group is within the one around it

abbrev pub HasFront : Option Step → Type 0
HasFront next = MatchOption next ⊤ (λ s. AreFront (plains s.level.avps.items) s.level.bytes.now)

pub front_next : (d : Dictionary) (l : PlainLevel) (next : Option Step) → IsNext d l next → HasFront next
front_next d l None h = tt
front_next d l (Some s) h = h.2

abbrev pub bytes_left : Option Step → ℕ
bytes_left next = option_map_or (λ s. suc (length s.level.bytes.now)) next 0

pub next_smaller : (d : Dictionary) (s : Step) (old next : Option Step) → old ≡ Some s → HasFront old → IsNext d (plain_level s.level) next → bytes_left next < bytes_left old
next_smaller d s old next found front is = subst (λ (o : Option Step). bytes_left next < bytes_left o) (sym found) (by next (subst HasFront found front) is)
  where
    by : (o : Option Step) → HasFront (Some s) → IsNext d (plain_level s.level) o → bytes_left o < suc (length s.level.bytes.now)
    by None f h = omega arith
    by (Some t) f h = let fits = step_fits d (plain_level s.level) (plain_step t) f h in omega (arith, fits, at_least_8 t.group.vendor)
