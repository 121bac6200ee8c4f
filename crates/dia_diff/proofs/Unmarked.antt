-- Each line of `breaking` comes from some difference; so where none is marked, nothing breaks.
use Rattle.std.proofs.Common.{◌≡◌, ℕ, zero, suc, ◌+◌, ◌<◌, Bool, true, false, List, [], ◌∷◌, ◌++◌, length, map, Option, Some, None, refl, sym, ap, subst, ◌∙◌, arith, inl, inr}
use Rattle.std.specs.Prelude.{◌⊎◌, find}
use Rattle.std.specs.List.{AllByRecursion, flat_map, list_any}
use Rattle.std.proofs.Math.Logic.{∥∥₁_map}
use Rattle.std.proofs.lemmas.Bool.{cases_eq, or_parts}
use Rattle.std.proofs.lemmas.Option.{none-some, same_Some, slice_get_within}
use Rattle.dia_book.specs.declared.definition.Class.{Class}
use Rattle.dia_book.specs.Dictionary.{Dictionary, groups, selected}
use Rattle.dia_valid.specs.Valid.{class_of}
use Rattle.dia_valid.proofs.Members.{IsIn, all_of, any_in, in_all, in_any, in_append, in_left, in_right}
use Rattle.dia_valid.proofs.SelectedCommands.{Choice, NoChoice, choose}
use Rattle.dia_breaking.specs.declared.line.Line.{Line as Breach}
use Rattle.dia_breaking.specs.Free.{AllAreValid}
use Rattle.dia_differences.specs.declared.lines.Effects.{Effects}
use Rattle.dia_differences.specs.declared.lines.What.{What}
use Rattle.dia_diff.specs.declared.subjects.Subject.{Subject}
use Rattle.dia_diff.specs.Candidates.{candidates}
use Rattle.dia_diff.specs.Marks.{AllAreRead, IsFound, breaks_by, comes_from, has, is_meant, is_of, is_there, places_below}
use Rattle.dia_diff.specs.Origins.{Found, Route, origin}
use Rattle.dia_diff.specs.Subjects.{same_subject, subjects}
use Rattle.dia_diff.specs.Unbroken.{AreSoundMarks, IsValidIfNone, MarksFound}
use Rattle.dia_diff.proofs.SameSubjects.{other_way}
use Rattle.dia_diff.proofs.Tests.{find_passes}

-- ---- each line comes from some difference

in_flat_map : {X Y : Type 0} (f : X → List Y) (xs : List X) (y : Y) → IsIn y (flat_map f xs) → (x : X) × IsIn x xs × IsIn y (f x)
in_flat_map f [] y h = absurd h
in_flat_map {X} {Y} f (x ∷ xs) y h = by (in_append (f x) (flat_map f xs) y h) (in_flat_map f xs y)
  where
    by : IsIn y (f x) ⊎ IsIn y (flat_map f xs) → (IsIn y (flat_map f xs) → (z : X) × IsIn z xs × IsIn y (f z)) → (z : X) × IsIn z (x ∷ xs) × IsIn y (f z)
    by (inl here) further = (x, inl refl, here)
    by (inr there) further = let (z, own, is) = further there in (z, inr own, is)

of_list : (ws : List What) (list : List Subject) → list_any (is_there ws) list ≡ true → (w : What) × IsIn w ws × (list_any (has list) (subjects w) ≡ true)
of_list ws list h =
    let (q, listed, there) = any_in (is_there ws) list h in
    let (k, own, same) = any_in (λ (k : Subject). same_subject k q) (flat_map subjects ws) there in
    let (w, member, of) = in_flat_map subjects ws k own in
    (w, member, in_any (has list) (subjects w) k of (in_any (λ (t : Subject). same_subject t k) list q listed (other_way k q same)))

head_of : (ws : List What) → (ws ≡ [] → ⊥) → (w : What) × IsIn w ws
head_of [] some = absurd (some refl)
head_of (w ∷ ws) some = (w, inl refl)

meant_some : (ws : List What) (lists : List (List Subject)) → (ws ≡ [] → ⊥) → (w : What) × IsIn w ws × (is_meant (is_there ws) lists w ≡ true)
meant_some ws lists some = by (find (list_any (is_there ws)) lists) refl
  where
    by : (o : Option (List Subject)) → find (list_any (is_there ws)) lists ≡ o → (w : What) × IsIn w ws × (is_of o w ≡ true)
    by None is = let (w, member) = head_of ws some in (w, member, refl)
    by (Some list) is = of_list ws list (find_passes (list_any (is_there ws)) lists list is)

-- ---- where none is marked

contradiction : (b : Bool) → b ≡ true → b ≡ false → ⊥
contradiction b passes fails = let e : true ≡ false = sym passes ∙ fails in cc

no_lines : (r : Route) (f : Found) (ws : List What) (lines : List Breach) → (ws ≡ [] → ⊥) → ((w : What) → IsIn w ws → list_any (comes_from (is_there ws) r f w) lines ≡ false) → lines ≡ []
no_lines r f ws [] some none = refl
no_lines r f ws (line ∷ lines) some none =
    let (w, member, meant) = meant_some ws (candidates r (origin r f line)) some in
    absurd (contradiction (comes_from (is_there ws) r f w line) meant (or_parts (comes_from (is_there ws) r f w line) (list_any (comes_from (is_there ws) r f w) lines) (none w member)).0)

none_of : {X : Type 0} (p : X → Bool) (xs : List X) (x : X) → list_any p xs ≡ false → IsIn x xs → p x ≡ false
none_of p [] x h i = absurd i
none_of p (y ∷ xs) x h (inl e) = ap p e ∙ (or_parts (p y) (list_any p xs) h).0
none_of p (y ∷ xs) x h (inr i) = none_of p xs x (or_parts (p y) (list_any p xs) h).1 i

-- ---- the command of a message

in_below : (n i : ℕ) → i < n → IsIn i (places_below n)
in_below zero i h = absurd (omega arith)
in_below (suc n) i h = by (cases_eq i n) (λ below. in_below n i below)
  where
    by : (i ≡ n) ⊎ ((i ≡ n) → ⊥) → (i < n → IsIn i (places_below n)) → IsIn i (places_below n ++ n ∷ [])
    by (inl e) further = in_right (places_below n) (n ∷ []) i (inl e)
    by (inr e) further = in_left (places_below n) (n ∷ []) i (further (omega arith))

from_map : {X Y : Type 0} (f : X → Y) (xs : List X) (y : Y) → IsIn y (map f xs) → (x : X) × IsIn x xs × (y ≡ f x)
from_map f [] y h = absurd h
from_map f (x ∷ xs) y (inl e) = (x, inl refl, e)
from_map f (x ∷ xs) y (inr h) = let (z, own, e) = from_map f xs y h in (z, inr own, e)

place_of : (d : Dictionary) (code app c : ℕ) (class : Class) → selected d code class app ≡ Some c → (i : ℕ) × (i < length d.commands) × (c ≡ length (groups d) + i)
place_of d code app c class is = by (choose d code class app)
  where
    by : Choice d code class app ⊎ NoChoice d code class app → (i : ℕ) × (i < length d.commands) × (c ≡ length (groups d) + i)
    by (inl choice) = (choice.place, slice_get_within d.commands choice.place choice.command choice.at, same_Some c (length (groups d) + choice.place) (sym is ∙ choice.is_selected))
    by (inr none) = absurd (none-some c (sym none.is_none ∙ is))

pub unbroken : (r : Route) (ws : List What) (effects : What → Effects) → MarksFound (is_there ws) r (length r.between.sender.commands) effects → (ws ≡ [] → ⊥) → AllByRecursion (λ w. (effects w).breaks ≡ false) ws → AllAreRead r.between
unbroken r ws effects m some none bytes c sent =
    let s = r.between in
    let (i, within, is_c) = place_of s.sender sent.header.code sent.header.app c (class_of sent.header.flags) sent.select in
    let P : List ℕ → Type 0 = λ places. IsIn i places in
    let (f, member, place) = from_map (λ (f : Found). f.place) m.founds i (subst P (sym m.are_found.places) (in_below (length s.sender.commands) i within)) in
    let found = all_of (IsFound s) m.founds f m.are_found.each member in
    let valid = all_of (IsValidIfNone s) m.founds f m.valid member in
    let is : f.answer.command ≡ c = found.command ∙ ap (λ (n : ℕ). length (groups s.sender) + n) (sym place) ∙ sym is_c in
    let empty : f.answer.lines ≡ [] = no_lines r f ws f.answer.lines some (λ w own. none_of (breaks_by (is_there ws) r w) m.founds f (sym (m.breaks w) ∙ in_all (λ (w : What). (effects w).breaks ≡ false) w ws none own) member) in
    let all : ∥ AllAreValid s c ∥₁ = subst (λ (n : ℕ). ∥ AllAreValid s n ∥₁) is (valid empty) in
    ∥∥₁_map all (λ (v : AllAreValid s c). v bytes sent)

pub sound_marks : (r : Route) (ws : List What) (there : Subject → Bool) (effects : What → Effects) → there ≡ is_there ws → MarksFound there r (length r.between.sender.commands) effects → AreSoundMarks r ws effects
sound_marks r ws there effects is found =
    let m : MarksFound (is_there ws) r (length r.between.sender.commands) effects = subst (λ (t : Subject → Bool). MarksFound t r (length r.between.sender.commands) effects) is found in
    record { marks = record { founds = m.founds; are_found = m.are_found; breaks = m.breaks; other_format = m.other_format; ignored = m.ignored }; unbroken = unbroken r ws effects m }
