-- A whole message that a stream is fed at once.
use Rattle.std.proofs.Common.{◌≡◌, ℕ, ◌-◌, List, [], ◌++◌, length, take, drop, refl, ap, subst, ◌∙◌, arith, inl, inr}
use Rattle.std.specs.Prelude.{◌⊎◌, Result, Ok, Err, IfOk, OnOk, replicate}
use Rattle.std.proofs.lemmas.List.{append-nil, length-take, take_all}
use Rattle.dia_wire.specs.Number.{number}
use Rattle.dia_book.specs.Dictionary.{Dictionary}
use Rattle.dia_terms.specs.declared.Levels.{Levels}
use Rattle.dia_check.specs.declared.stream.Progress.{Progress}
use Rattle.dia_check.specs.declared.stream.StreamFault.{StreamFault}
use Rattle.dia_check.specs.declared.stream.StreamFault.TheVariants as fault
use Rattle.dia_check.specs.Faults.{HasGoodHeader, HasLength}
use Rattle.dia_check.specs.Levels.{filled}
use Rattle.dia_check.specs.Streaming.{wanted, taken_of, IsRefused, OpensLevel, Takes, TakesAll}
use Rattle.dia_check.proofs.StreamMessages.{length_sound}

-- what holds of a piece that is taken, holds of all of it
pub of_all : (bytes : List ℕ) (P : Progress → Type 0) (fed : Result Progress StreamFault) → TakesAll bytes fed → IfOk fed P → (p : Progress) × (p.taken ≡ length bytes) × P p
of_all bytes P (Ok p) all h = (p, all, h)
of_all bytes P (Err e) all h = absurd all

pub on_all : (bytes : List ℕ) (P : Type 0) (fed : Result Progress StreamFault) → TakesAll bytes fed → OnOk fed P → P
on_all bytes P (Ok p) all h = h
on_all bytes P (Err e) all h = absurd all

pub is_refused : (fed : Result Progress StreamFault) → IsRefused fed → fed ≡ Err fault.NoMemory
is_refused (Err fault.NoMemory) h = refl
is_refused (Err fault.Spent) h = absurd h
is_refused (Ok p) h = absurd h

module _ (bytes : List ℕ) (sized : HasLength bytes (length bytes)) where
  is_wanted : wanted bytes ≡ length bytes
  is_wanted = let (is, e) = length_sound bytes (length bytes) sized in e

  is_taken : taken_of bytes ≡ bytes
  is_taken = take_all (wanted bytes) bytes (let w = is_wanted in omega (arith, w))

  is_filled : filled bytes ≡ bytes
  is_filled =
      let none : number (take 3 (drop 1 bytes)) - length bytes ≡ 0 = (let n = sized.is_length in omega (arith, n)) in
      ap (λ (k : ℕ). bytes ++ replicate k 0) none ∙ append-nil bytes

  -- it is taken wholly, unless memory was refused
  pub whole_taken : (P : Progress → Type 0) → ((p : Progress) → P p → Takes [] bytes p) → (fed : Result Progress StreamFault) → IfOk fed P
      → ¬ (fed ≡ Err fault.Spent) → TakesAll bytes fed ⊎ IsRefused fed
  whole_taken P says (Ok p) h live =
      let takes = says p h in
      let e : take p.taken bytes ≡ bytes = takes.front ∙ is_taken in
      let l = ap length e in let t = length-take p.taken bytes in let w = takes.within in
      inl (omega (arith, l, t, w))
  whole_taken P says (Err fault.NoMemory) h live = inr tt
  whole_taken P says (Err fault.Spent) h live = absurd (live refl)

  -- a level that it opens is in a message with a good header
  pub opens_good : (d : Dictionary) (most : Levels) → OpensLevel d most [] (taken_of bytes) → HasGoodHeader d bytes
  opens_good d most opens = subst (HasGoodHeader d) (ap filled is_taken ∙ is_filled) opens.header
