-- Segments of one stream.
use Rattle.std.proofs.Common.{◌≡◌, ℕ, suc, ◌+◌, ◌-◌, ◌%◌, ◌^◌, ◌<◌, ◌≤◌, Bool, true, false, List, [], ◌∷◌, ◌++◌, length, take, drop, get_or}
use Rattle.std.proofs.Common.{Option, Some, None, inl, inr, refl, ap, sym, subst, ◌∙◌, arith}
use Rattle.std.specs.Prelude.{slice_get, ◌⊎◌, nat_le}
use Rattle.std.proofs.lemmas.Bool.{cases_lt, le-leb}
use Rattle.std.proofs.lemmas.Bool.Decides.{leb_tells}
use Rattle.std.proofs.lemmas.List.{drop-drop, length-append, length-drop, length-take, take_all}
use Rattle.std.proofs.lemmas.Option.{same_Some, slice_get-get_or}
use Rattle.dia_directions.specs.Order.{Order, Placed, TakesBytes, ahead, byte_at, byte_in, first_order, placed, window}
use Rattle.dia_directions.specs.Streams.{AllIsRead, AreNear, AreTaken, Bring, FrontIsRead, Step, read_of}
use Rattle.dia_directions.proofs.Gets.{slice_get-drop, slice_get-take}
use Rattle.dia_directions.proofs.Left.{byte_at-left}
use Rattle.dia_directions.proofs.Placing.{byte_at-push, byte_at-push_first, byte_at-push_some, byte_in_before, byte_in_behind, byte_in_from}

-- ---- where a segment is

ahead_forward : (begins read at : ℕ) → read ≤ at → at ≤ read + window → ahead ((begins + read) % 2 ^ 32) ((begins + at) % 2 ^ 32) ≡ at - read
ahead_forward begins read at from near = omega (arith, from, near)

ahead_backward : (begins read at : ℕ) → at < read → read ≤ at + window → ahead ((begins + read) % 2 ^ 32) ((begins + at) % 2 ^ 32) ≡ 2 ^ 32 - (read - at)
ahead_backward begins read at before near = omega (arith, before, near)

placed_forward : (begins read at : ℕ) (bytes : List (Option ℕ)) → read ≤ at → at ≤ read + window
    → placed ((begins + read) % 2 ^ 32) ((begins + at) % 2 ^ 32) bytes ≡ Some (record { place = at - read; bytes = bytes })
placed_forward begins read at bytes from near = rw (ahead_forward begins read at from near, le-leb (at - read) window (omega (arith, near))) refl

not_le : (a b : ℕ) → b < a → nat_le a b ≡ false
not_le a b h = tells (nat_le a b) (leb_tells a b)
  where
    tells : (t : Bool) → ((t ≡ true) × (a ≤ b)) ⊎ ((t ≡ false) × (b < a)) → t ≡ false
    tells t (inl (is, low)) = absurd (omega (arith, low, h))
    tells t (inr (is, high)) = is

placed_backward : (begins read at : ℕ) (bytes : List (Option ℕ)) → at < read → read ≤ at + window
    → placed ((begins + read) % 2 ^ 32) ((begins + at) % 2 ^ 32) bytes ≡ Some (record { place = 0; bytes = drop (read - at) bytes })
placed_backward begins read at bytes before near =
    let behind : 2 ^ 32 - (2 ^ 32 - (read - at)) ≡ read - at = omega (arith, before, near) in
    rw (ahead_backward begins read at before near, not_le (2 ^ 32 - (read - at)) window (omega (arith, before, near)), behind, le-leb (read - at) window (omega (arith, near))) refl

-- ---- the bytes of a segment of the stream, when so many bytes were read

-- it has those of the stream, and no others
record Has (stream : List (Option ℕ)) (read at size : ℕ) (p : Placed) : Type 0 where
  pub inside : (i : ℕ) → at ≤ read + i → read + i < at + size → byte_in p i ≡ slice_get stream (read + i)
  pub before : (i : ℕ) → read + i < at → byte_in p i ≡ None
  pub behind : (i : ℕ) → at + size ≤ read + i → byte_in p i ≡ None

forward_has : (stream : List (Option ℕ)) (read at size : ℕ) → read ≤ at → Has stream read at size (record { place = at - read; bytes = take size (drop at stream) })
forward_has stream read at size from =
    let p : Placed = record { place = at - read; bytes = take size (drop at stream) } in
    record {
      inside = λ (i : ℕ) low high. byte_in_from p i (read + i - at) (omega (arith, from, low)) ∙ slice_get-take size (read + i - at) (drop at stream) (omega (arith, low, high))
          ∙ slice_get-drop at (read + i - at) stream ∙ (let same : at + (read + i - at) ≡ read + i = omega (arith, low) in ap (λ k. slice_get stream k) same);
      before = λ (i : ℕ) low. byte_in_before p i (omega (arith, low));
      behind = λ (i : ℕ) high. byte_in_behind p i (omega (arith, high, from, length-take size (drop at stream)));
    }

backward_has : (stream : List (Option ℕ)) (read at size : ℕ) → at < read → Has stream read at size (record { place = 0; bytes = drop (read - at) (take size (drop at stream)) })
backward_has stream read at size behind =
    let p : Placed = record { place = 0; bytes = drop (read - at) (take size (drop at stream)) } in
    record {
      inside = λ (i : ℕ) low high. byte_in_from p i i (omega arith) ∙ slice_get-drop (read - at) i (take size (drop at stream))
          ∙ slice_get-take size (read - at + i) (drop at stream) (omega (arith, high, behind))
          ∙ slice_get-drop at (read - at + i) stream ∙ (let same : at + (read - at + i) ≡ read + i = omega (arith, behind) in ap (λ k. slice_get stream k) same);
      before = λ (i : ℕ) low. absurd (omega (arith, low, behind));
      behind = λ (i : ℕ) high. byte_in_behind p i (omega (arith, high, behind, length-drop (read - at) (take size (drop at stream)), length-take size (drop at stream)));
    }

placed_has : (begins : ℕ) (stream : List (Option ℕ)) (read at size : ℕ) (p : Placed) → at ≤ read + window → read ≤ at + window
    → placed ((begins + read) % 2 ^ 32) ((begins + at) % 2 ^ 32) (take size (drop at stream)) ≡ Some p → Has stream read at size p
placed_has begins stream read at size p near far is = cases (cases_lt at read)
  where
    cases : (at < read) ⊎ (read ≤ at) → Has stream read at size p
    cases (inl behind) =
        let same : record { place = 0; bytes = drop (read - at) (take size (drop at stream)) } ≡ p =
        same_Some _ _ (sym (placed_backward begins read at (take size (drop at stream)) behind far) ∙ is) in
        subst (λ (q : Placed). Has stream read at size q) same (backward_has stream read at size behind)
    cases (inr from) =
        let same : record { place = at - read; bytes = take size (drop at stream) } ≡ p =
        same_Some _ _ (sym (placed_forward begins read at (take size (drop at stream)) from near) ∙ is) in
        subst (λ (q : Placed). Has stream read at size q) same (forward_has stream read at size from)

-- ---- what waits

-- a direction that read so many bytes of the stream: each byte that waits is that of the stream
record IsAt (begins : ℕ) (stream : List (Option ℕ)) (read : ℕ) (o : Order) : Type 0 where
  pub next : o.next ≡ (begins + read) % 2 ^ 32
  pub waits : (i : ℕ) (b : Option ℕ) → byte_at o.waiting i ≡ Some b → slice_get stream (read + i) ≡ Some b
  pub ends : byte_at o.waiting 0 ≡ None

-- ---- fronts

same_front : {X : Type 0} (xs ys : List X) → ((i : ℕ) → i < length ys → slice_get xs i ≡ slice_get ys i) → ys ≡ take (length ys) xs
same_front xs [] same = refl
same_front [] (y ∷ ys) same = let first : None ≡ Some y = same 0 (omega arith) in cc
same_front (x ∷ xs) (y ∷ ys) same =
    let first : Some x ≡ Some y = same 0 (omega arith) in
    let head : y ≡ x = cc in
    ap (λ z. z ∷ ys) head ∙ ap (λ zs. x ∷ zs) (same_front xs ys (λ i few. same (suc i) (omega (arith, few))))

joined_front : {X : Type 0} (xs ys zs : List X) → ys ≡ take (length ys) xs → zs ≡ take (length zs) (drop (length ys) xs) → ys ++ zs ≡ take (length (ys ++ zs)) xs
joined_front xs [] zs front rest = rest
joined_front [] (y ∷ ys) zs front rest = cc
joined_front (x ∷ xs) (y ∷ ys) zs front rest =
    let head : y ≡ x = cc in
    let tail : ys ≡ take (length ys) xs = cc in
    ap (λ w. w ∷ (ys ++ zs)) head ∙ ap (λ ws. x ∷ ws) (joined_front xs ys zs tail rest)

-- ---- one segment

module _ (begins : ℕ) (stream : List (Option ℕ)) where
  agrees : (read : ℕ) (old : Order) (at size : ℕ) (p : Placed) → IsAt begins stream read old → Has stream read at size p
      → (i : ℕ) (b : Option ℕ) → byte_at (old.waiting ++ p ∷ []) i ≡ Some b → slice_get stream (read + i) ≡ Some b
  agrees read old at size p here has i b is = cases (byte_at-push old.waiting p i b is)
    where
      inside : byte_in p i ≡ Some b → (read + i < at) ⊎ (at ≤ read + i) → (read + i < at + size) ⊎ (at + size ≤ read + i) → slice_get stream (read + i) ≡ Some b
      inside e (inl low) s = absurd (let f : None ≡ Some b = sym (has.before i low) ∙ e in cc)
      inside e (inr from) (inl less) = sym (has.inside i from less) ∙ e
      inside e (inr from) (inr high) = absurd (let f : None ≡ Some b = sym (has.behind i high) ∙ e in cc)

      cases : (byte_at old.waiting i ≡ Some b) ⊎ (byte_in p i ≡ Some b) → slice_get stream (read + i) ≡ Some b
      cases (inl e) = here.waits i b e
      cases (inr e) = inside e (cases_lt (read + i) at) (cases_lt (read + i) (at + size))

  step_has : (read : ℕ) (old new : Order) (s : Step) → IsAt begins stream read old → s.offset ≤ read + window → read ≤ s.offset + window
      → (t : TakesBytes old ((begins + s.offset) % 2 ^ 32) (take s.size (drop s.offset stream)) s.run new) → Has stream read s.offset s.size t.arrived
  step_has read old new s here near far t = placed_has begins stream read s.offset s.size t.arrived near far
      (ap (λ n. placed n ((begins + s.offset) % 2 ^ 32) (take s.size (drop s.offset stream))) (sym here.next) ∙ t.is_placed)

  step_left : (old new : Order) (s : Step) (t : TakesBytes old ((begins + s.offset) % 2 ^ 32) (take s.size (drop s.offset stream)) s.run new) (i : ℕ)
      → byte_at new.waiting i ≡ byte_at (old.waiting ++ t.arrived ∷ []) (length s.run + i)
  step_left old new s t i = ap (λ ws. byte_at ws i) t.waiting ∙ byte_at-left (length s.run) i (old.waiting ++ t.arrived ∷ []) t.is_run.ends

  step_at : (read : ℕ) (old new : Order) (s : Step) → IsAt begins stream read old → s.offset ≤ read + window → read ≤ s.offset + window
      → TakesBytes old ((begins + s.offset) % 2 ^ 32) (take s.size (drop s.offset stream)) s.run new → IsAt begins stream (read + length s.run) new
  step_at read old new s here near far t =
      let n = length s.run in
      let has = step_has read old new s here near far t in
      let same : n + 0 ≡ n = omega arith in
      record {
        next = omega (arith, t.next, here.next);
        waits = λ (i : ℕ) b is. (let sum : read + n + i ≡ read + (n + i) = omega arith in ap (λ k. slice_get stream k) sum)
            ∙ agrees read old s.offset s.size t.arrived here has (n + i) b (sym (step_left old new s t i) ∙ is);
        ends = step_left old new s t 0 ∙ ap (λ k. byte_at (old.waiting ++ t.arrived ∷ []) k) same ∙ t.is_run.ends;
      }

  step_run : (read : ℕ) (old new : Order) (s : Step) → IsAt begins stream read old → s.offset ≤ read + window → read ≤ s.offset + window
      → TakesBytes old ((begins + s.offset) % 2 ^ 32) (take s.size (drop s.offset stream)) s.run new → s.run ≡ take (length s.run) (drop read stream)
  step_run read old new s here near far t = same_front (drop read stream) s.run (λ (i : ℕ) few.
      let is : slice_get s.run i ≡ Some (get_or s.run i None) = slice_get-get_or s.run i None few in
      slice_get-drop read i stream
      ∙ agrees read old s.offset s.size t.arrived here (step_has read old new s here near far t) i (get_or s.run i None) (t.is_run.has i few ∙ is)
      ∙ sym is)

  -- ---- several

  front : (read : ℕ) (old end : Order) (steps : List Step) → IsAt begins stream read old → AreTaken begins stream old steps end → AreNear read steps
      → read_of steps ≡ take (length (read_of steps)) (drop read stream)
  front read old end [] here taken near = refl
  front read old end (s ∷ steps) here taken near =
      joined_front (drop read stream) s.run (read_of steps) (step_run read old taken.0 s here near.0 near.1 taken.1)
      (front (read + length s.run) taken.0 end steps (step_at read old taken.0 s here near.0 near.1 taken.1) taken.2 near.2
      ∙ ap (λ xs. take (length (read_of steps)) xs) (sym (drop-drop (length s.run) read stream)))

  last : (read : ℕ) (old end : Order) (steps : List Step) → IsAt begins stream read old → AreTaken begins stream old steps end → AreNear read steps
      → IsAt begins stream (read + length (read_of steps)) end
  last read old end [] here taken near =
      let same : read ≡ read + 0 = omega arith in
      subst (λ (o : Order). IsAt begins stream (read + 0) o) taken (subst (λ (n : ℕ). IsAt begins stream n old) same here)
  last read old end (s ∷ steps) here taken near =
      let same : read + length s.run + length (read_of steps) ≡ read + length (s.run ++ read_of steps) = omega (arith, length-append s.run (read_of steps)) in
      subst (λ (n : ℕ). IsAt begins stream n end) same
      (last (read + length s.run) taken.0 end steps (step_at read old taken.0 s here near.0 near.1 taken.1) taken.2 near.2)

  -- ---- what was brought

  -- the byte at an offset was read, or waits
  abbrev Known : ℕ → Order → ℕ → Type 0
  Known read o j = (j < read) ⊎ ((read ≤ j) × (b : Option ℕ) × (byte_at o.waiting (j - read) ≡ Some b))

  step_waits : (read : ℕ) (old new : Order) (s : Step) (t : TakesBytes old ((begins + s.offset) % 2 ^ 32) (take s.size (drop s.offset stream)) s.run new) (j : ℕ) (b : Option ℕ)
      → read ≤ j → byte_at (old.waiting ++ t.arrived ∷ []) (j - read) ≡ Some b → Known (read + length s.run) new j
  step_waits read old new s t j b from is = cases (cases_lt j (read + length s.run))
    where
      cases : (j < read + length s.run) ⊎ (read + length s.run ≤ j) → Known (read + length s.run) new j
      cases (inl less) = inl less
      cases (inr more) =
          let sum : length s.run + (j - (read + length s.run)) ≡ j - read = omega (arith, more) in
          inr (more, b, step_left old new s t (j - (read + length s.run)) ∙ ap (λ k. byte_at (old.waiting ++ t.arrived ∷ []) k) sum ∙ is)

  step_known : (read : ℕ) (old new : Order) (s : Step) (t : TakesBytes old ((begins + s.offset) % 2 ^ 32) (take s.size (drop s.offset stream)) s.run new) (j : ℕ)
      → Known read old j → Known (read + length s.run) new j
  step_known read old new s t j (inl less) = inl (omega (arith, less))
  step_known read old new s t j (inr (from, b, is)) = step_waits read old new s t j b from (byte_at-push_first old.waiting t.arrived (j - read) b is)

  step_brought : (read : ℕ) (old new : Order) (s : Step) → IsAt begins stream read old → s.offset ≤ read + window → read ≤ s.offset + window
      → TakesBytes old ((begins + s.offset) % 2 ^ 32) (take s.size (drop s.offset stream)) s.run new → (j : ℕ) → j < length stream → s.offset ≤ j → j < s.offset + s.size
      → Known (read + length s.run) new j
  step_brought read old new s here near far t j within low high = cases (cases_lt j read)
    where
      cases : (j < read) ⊎ (read ≤ j) → Known (read + length s.run) new j
      cases (inl less) = inl (omega (arith, less))
      cases (inr from) =
          let sum : read + (j - read) ≡ j = omega (arith, from) in
          let is : byte_in t.arrived (j - read) ≡ Some (get_or stream j None) =
          (step_has read old new s here near far t).inside (j - read) (omega (arith, low, from)) (omega (arith, high, from))
          ∙ ap (λ k. slice_get stream k) sum ∙ slice_get-get_or stream j None within in
          let some = byte_at-push_some old.waiting t.arrived (j - read) (get_or stream j None) is in
          step_waits read old new s t j some.0 from some.1

  all_known : (read : ℕ) (old end : Order) (steps : List Step) → IsAt begins stream read old → AreTaken begins stream old steps end → AreNear read steps
      → (j : ℕ) → j < length stream → Known read old j ⊎ Bring steps j → Known (read + length (read_of steps)) end j
  all_known read old end [] here taken near j within known = only known
    where
      same : read ≡ read + 0
      same = omega arith

      only : Known read old j ⊎ ⊥ → Known (read + 0) end j
      only (inl k) = subst (λ (o : Order). Known (read + 0) o j) taken (subst (λ (n : ℕ). Known n old j) same k)
      only (inr none) = absurd none
  all_known read old end (s ∷ steps) here taken near j within known =
      let same : read + length s.run + length (read_of steps) ≡ read + length (s.run ++ read_of steps) = omega (arith, length-append s.run (read_of steps)) in
      subst (λ (n : ℕ). Known n end j) same
      (all_known (read + length s.run) taken.0 end steps (step_at read old taken.0 s here near.0 near.1 taken.1) taken.2 near.2 j within (cases known))
    where
      cases : Known read old j ⊎ (((s.offset ≤ j) × (j < s.offset + s.size)) ⊎ Bring steps j) → Known (read + length s.run) taken.0 j ⊎ Bring steps j
      cases (inl k) = inl (step_known read old taken.0 s taken.1 j k)
      cases (inr (inl (low, high))) = inl (step_brought read old taken.0 s here near.0 near.1 taken.1 j within low high)
      cases (inr (inr rest)) = inr rest

-- ---- from the first byte on

first_at : (begins : ℕ) (stream : List (Option ℕ)) → begins < 2 ^ 32 → IsAt begins stream 0 (first_order begins)
first_at begins stream small = record {
  next = omega (arith, small);
  waits = λ (i : ℕ) b is. (let f : None ≡ Some b = is in cc);
  ends = refl;
}

pub front_is_read : FrontIsRead
front_is_read begins stream steps end small taken near = front begins stream 0 (first_order begins) end steps (first_at begins stream small) taken near

pub all_is_read : AllIsRead
all_is_read begins stream steps end small taken near brought = cases (cases_lt (length (read_of steps)) (length stream))
  where
    missing : Known begins stream (0 + length (read_of steps)) end (length (read_of steps)) → ⊥
    missing (inl less) = omega (arith, less)
    missing (inr (from, b, is)) =
        let here : length (read_of steps) - (0 + length (read_of steps)) ≡ 0 = omega arith in
        let f : None ≡ Some b = sym (last begins stream 0 (first_order begins) end steps (first_at begins stream small) taken near).ends
        ∙ ap (λ k. byte_at end.waiting k) (sym here) ∙ is in cc

    cases : (length (read_of steps) < length stream) ⊎ (length stream ≤ length (read_of steps)) → read_of steps ≡ stream
    cases (inl less) = absurd (missing (all_known begins stream 0 (first_order begins) end steps (first_at begins stream small) taken near
        (length (read_of steps)) less (inr (brought (length (read_of steps)) less))))
    cases (inr all) = front_is_read begins stream steps end small taken near ∙ take_all (length (read_of steps)) stream all
