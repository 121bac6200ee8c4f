-- Text that is put piece by piece.
use Rattle.std.proofs.Common.{◌≡◌, ℕ, List, [], ◌++◌, Option, Result, Ok, Err, refl, sym, ap, subst, ◌∙◌, append_assoc}
use Rattle.std.specs.Prelude.{IsErr, OnOk}
use Rattle.std.specs.Io.KnownBytes.{Appends}
use Rattle.std.proofs.KnownBytes.{Appends-nil, Appends-trans}
use Rattle.std.proofs.lemmas.List.{append-nil}
use Rattle.dia_io.specs.Writing.{AppendsFront}
use Rattle.dia_upgrades.specs.declared.pending.Pending.{Pending}
use Rattle.dia_upgrades.specs.UnderWay.{IsPut}

-- ---- a beginning

pub front_of_more : (old new : Option (List ℕ)) (x y : List ℕ) → AppendsFront old new x → AppendsFront old new (x ++ y)
front_of_more old new x y (front, rest, parts, is) = (front, rest ++ y, ap (λ (t : List ℕ). t ++ y) parts ∙ append_assoc front rest y, is)

pub whole_is_front : (old new : Option (List ℕ)) (x : List ℕ) → Appends old new x → AppendsFront old new x
whole_is_front old new x is = (x, [], sym (append-nil x), is)

pub front_after : (a b c : Option (List ℕ)) (x y : List ℕ) → Appends a b x → AppendsFront b c y → AppendsFront a c (x ++ y)
front_after a b c x y h (front, rest, parts, k) =
    (x ++ front, rest, ap (λ (t : List ℕ). x ++ t) parts ∙ sym (append_assoc x front rest), Appends-trans a b c x front h k)

-- a call that puts a text, or a beginning of it
pub front_of_put : {X E : Type 0} (r : Result X E) (old new : Option (List ℕ)) (x : List ℕ) → OnOk r (Appends old new x) → (IsErr r → AppendsFront old new x) → AppendsFront old new x
front_of_put (Ok v) old new x put front = whole_is_front old new x put
front_of_put (Err e) old new x put front = front refl

-- ---- what is pending

-- nothing is put, and nothing pending
pub none_put : (put : Option (List ℕ)) (pending : Pending) → pending.bytes.items ≡ [] → IsPut put put pending []
none_put put pending nothing = ([], Appends-nil put, sym nothing)

pub held : (begun put : Option (List ℕ)) (old new : Pending) (before text : List ℕ) → new.bytes.items ≡ old.bytes.items ++ text → IsPut begun put old before → IsPut begun put new (before ++ text)
held begun put old new before text is (out, appended, parts) =
    (out, appended, ap (λ (t : List ℕ). t ++ text) parts ∙ append_assoc out old.bytes.items text ∙ ap (λ (t : List ℕ). out ++ t) (sym is))

pub same_put : (begun put : Option (List ℕ)) (old new : Pending) (text : List ℕ) → new.bytes.items ≡ old.bytes.items → IsPut begun put old text → IsPut begun put new text
same_put begun put old new text is (out, appended, parts) = (out, appended, parts ∙ ap (λ (t : List ℕ). out ++ t) (sym is))

-- what was pending is put
pub all_out : (begun put next : Option (List ℕ)) (pending : Pending) (text bytes : List ℕ) → bytes ≡ pending.bytes.items → Appends put next bytes → IsPut begun put pending text → Appends begun next text
all_out begun put next pending text bytes is more (out, appended, parts) =
    subst (Appends begun next) (sym (parts ∙ ap (λ (t : List ℕ). out ++ t) (sym is))) (Appends-trans begun put next out bytes appended more)

pub front_out : (begun put next : Option (List ℕ)) (pending : Pending) (text bytes : List ℕ) → bytes ≡ pending.bytes.items → AppendsFront put next bytes → IsPut begun put pending text
    → AppendsFront begun next text
front_out begun put next pending text bytes is more (out, appended, parts) =
    subst (AppendsFront begun next) (sym (parts ∙ ap (λ (t : List ℕ). out ++ t) (sym is))) (front_after begun put next out bytes appended more)

-- and so is a text behind it
pub both_out : (begun put next : Option (List ℕ)) (pending : Pending) (before text : List ℕ) → pending.bytes.items ≡ [] → Appends begun put before → Appends put next text
    → IsPut begun next pending (before ++ text)
both_out begun put next pending before text nothing first second =
    (before ++ text, Appends-trans begun put next before text first second, sym (append-nil (before ++ text)) ∙ ap (λ (t : List ℕ). (before ++ text) ++ t) (sym nothing))

-- ---- three pieces

pub three : (before a b c : List ℕ) → ((before ++ a) ++ b) ++ c ≡ before ++ ((a ++ b) ++ c)
three before a b c = ap (λ (t : List ℕ). t ++ c) (append_assoc before a b) ∙ append_assoc before (a ++ b) c

pub first_of_three : (old new : Option (List ℕ)) (before a b c : List ℕ) → AppendsFront old new (before ++ a) → AppendsFront old new (before ++ ((a ++ b) ++ c))
first_of_three old new before a b c is =
    subst (AppendsFront old new) (append_assoc before a (b ++ c) ∙ ap (λ (t : List ℕ). before ++ t) (sym (append_assoc a b c))) (front_of_more old new (before ++ a) (b ++ c) is)

pub second_of_three : (old new : Option (List ℕ)) (before a b c : List ℕ) → AppendsFront old new ((before ++ a) ++ b) → AppendsFront old new (before ++ ((a ++ b) ++ c))
second_of_three old new before a b c is = subst (AppendsFront old new) (three before a b c) (front_of_more old new ((before ++ a) ++ b) c is)

pub third_of_three : (old new : Option (List ℕ)) (before a b c : List ℕ) → AppendsFront old new (((before ++ a) ++ b) ++ c) → AppendsFront old new (before ++ ((a ++ b) ++ c))
third_of_three old new before a b c is = subst (AppendsFront old new) (three before a b c) is

pub put_three : (begun put : Option (List ℕ)) (pending : Pending) (before a b c : List ℕ) → IsPut begun put pending (((before ++ a) ++ b) ++ c) → IsPut begun put pending (before ++ ((a ++ b) ++ c))
put_three begun put pending before a b c is = subst (IsPut begun put pending) (three before a b c) is
