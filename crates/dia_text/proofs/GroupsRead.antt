-- A group on one line, read part by part.
use Rattle.std.proofs.Common.{◌≡◌, ℕ, suc, ◌-◌, ◌<◌, ◌≤◌, ◌+◌, true, false, List, [], ◌∷◌, Option, Result, Ok, Err, refl, sym, ap, subst, ◌∙◌, arith}
use Rattle.std.proofs.lemmas.Bool.{true≢false}
use Rattle.dia_book.specs.Dictionary.{Dictionary}
use Rattle.dia_text.specs.declared.fault.Misfit.{Misfit}
use Rattle.dia_text.specs.declared.fault.NotRead.{NotRead}
use Rattle.dia_text.specs.declared.fault.NotRead.TheVariants as not_read
use Rattle.dia_text.specs.declared.line.Head.{Head}
use Rattle.dia_text.specs.declared.fault.Kind.TheVariants.{Braces}
use Rattle.dia_text.specs.declared.fault.Wanted.TheVariants as want
use Rattle.dia_text.specs.declared.draft.Opened.{Opened}
use Rattle.dia_text.specs.Reading.{FailsAt, misfit}
use Rattle.dia_text.specs.PlainLines.{PlainLine, Blank, Leaf, Open, Close}
use Rattle.dia_text.specs.Drafts.{Level, Frame, Occurs, added}
use Rattle.dia_text.specs.Avps.{no_more, in_line}
use Rattle.dia_text.specs.Groups.{member_at, after_part, is_last, padding_of, group_from}

-- of so many parts one is left, and the others
one_left : (n k : ℕ) → k < n → n - k ≡ suc (n - (k + 1))
one_left n k h = omega (arith, h)

goes_on : (k : ℕ) (d : Dictionary) (head : Head) (level next : Level) (text following rest : List ℕ) (part : PlainLine) → member_at d text ≡ Ok (part, following) → is_last part level.outer ≡ false
    → in_line d text part (added level part) ≡ Ok next → after_part part following ≡ Ok rest → group_from (suc k) d head level text ≡ group_from k d head next rest
unfolding group_from
goes_on k d head level next text following rest part a b c e = rw (a, b, c, e) refl

ends : (k : ℕ) (d : Dictionary) (head : Head) (level : Level) (text following : List ℕ) (part : PlainLine) → member_at d text ≡ Ok (part, following) → is_last part level.outer ≡ true
    → no_more following ≡ Ok tt → group_from (suc k) d head level text ≡ Ok (Leaf head level.bytes (padding_of part))
unfolding group_from
ends k d head level text following part a b c = rw (a, b, c) refl

bad_part : (k : ℕ) (d : Dictionary) (head : Head) (level : Level) (text : List ℕ) (m : Misfit) → member_at d text ≡ Err m → group_from (suc k) d head level text ≡ Err m
unfolding group_from
bad_part k d head level text m a = rw a refl

bad_end : (k : ℕ) (d : Dictionary) (head : Head) (level : Level) (text following : List ℕ) (part : PlainLine) (m : Misfit) → member_at d text ≡ Ok (part, following) → is_last part level.outer ≡ true
    → no_more following ≡ Err m → group_from (suc k) d head level text ≡ Err m
unfolding group_from
bad_end k d head level text following part m a b c = rw (a, b, c) refl

not_added : (k : ℕ) (d : Dictionary) (head : Head) (level : Level) (text following : List ℕ) (part : PlainLine) (m : Misfit) → member_at d text ≡ Ok (part, following) → is_last part level.outer ≡ false
    → in_line d text part (added level part) ≡ Err m → group_from (suc k) d head level text ≡ Err m
unfolding group_from
not_added k d head level text following part m a b c = rw (a, b, c) refl

not_separated : (k : ℕ) (d : Dictionary) (head : Head) (level next : Level) (text following : List ℕ) (part : PlainLine) (m : Misfit) → member_at d text ≡ Ok (part, following)
    → is_last part level.outer ≡ false → in_line d text part (added level part) ≡ Ok next → after_part part following ≡ Err m → group_from (suc k) d head level text ≡ Err m
unfolding group_from
not_separated k d head level next text following part m a b c e = rw (a, b, c, e) refl

-- ---- the program, at a part with so many parts left

at_part : (n k : ℕ) (d : Dictionary) (head : Head) (level : Level) (text : List ℕ) (whole read : Result PlainLine Misfit) → k < n → group_from (n - k) d head level text ≡ whole
    → group_from (suc (n - (k + 1))) d head level text ≡ read → whole ≡ read
at_part n k d head level text whole read h is one = sym is ∙ ap (λ (i : ℕ). group_from i d head level text) (one_left n k h) ∙ one

pub part_fails : (n k : ℕ) (d : Dictionary) (head : Head) (level : Level) (text : List ℕ) (e : NotRead) (whole : Result PlainLine Misfit) → k < n → group_from (n - k) d head level text ≡ whole
    → FailsAt e (member_at d text) → FailsAt e whole
part_fails n k d head level text not_read.NoMemory whole h is fails = tt
part_fails n k d head level text (not_read.Misfit m) whole h is fails = at_part n k d head level text whole (Err m) h is (bad_part (n - (k + 1)) d head level text m fails)

pub end_fails : (n k : ℕ) (d : Dictionary) (head : Head) (level : Level) (text following : List ℕ) (part : PlainLine) (m : Misfit) (whole : Result PlainLine Misfit) → k < n → group_from (n - k) d head level text ≡ whole
    → member_at d text ≡ Ok (part, following) → is_last part level.outer ≡ true → no_more following ≡ Err m → whole ≡ Err m
end_fails n k d head level text following part m whole h is a b c = at_part n k d head level text whole (Err m) h is (bad_end (n - (k + 1)) d head level text following part m a b c)

pub group_read : (n k : ℕ) (d : Dictionary) (head : Head) (level : Level) (text following : List ℕ) (part : PlainLine) (whole : Result PlainLine Misfit) → k < n → group_from (n - k) d head level text ≡ whole
    → member_at d text ≡ Ok (part, following) → is_last part level.outer ≡ true → no_more following ≡ Ok tt → whole ≡ Ok (Leaf head level.bytes (padding_of part))
group_read n k d head level text following part whole h is a b c = at_part n k d head level text whole (Ok (Leaf head level.bytes (padding_of part))) h is (ends (n - (k + 1)) d head level text following part a b c)

pub add_fails : (n k : ℕ) (d : Dictionary) (head : Head) (level : Level) (text following : List ℕ) (part : PlainLine) (e : NotRead) (whole : Result PlainLine Misfit) → k < n → group_from (n - k) d head level text ≡ whole
    → member_at d text ≡ Ok (part, following) → is_last part level.outer ≡ false → FailsAt e (in_line d text part (added level part)) → FailsAt e whole
add_fails n k d head level text following part not_read.NoMemory whole h is a b fails = tt
add_fails n k d head level text following part (not_read.Misfit m) whole h is a b fails = at_part n k d head level text whole (Err m) h is (not_added (n - (k + 1)) d head level text following part m a b fails)

pub separate_fails : (n k : ℕ) (d : Dictionary) (head : Head) (level next : Level) (text following : List ℕ) (part : PlainLine) (m : Misfit) (whole : Result PlainLine Misfit) → k < n → group_from (n - k) d head level text ≡ whole
    → member_at d text ≡ Ok (part, following) → is_last part level.outer ≡ false → in_line d text part (added level part) ≡ Ok next → after_part part following ≡ Err m → whole ≡ Err m
separate_fails n k d head level next text following part m whole h is a b c e = at_part n k d head level text whole (Err m) h is (not_separated (n - (k + 1)) d head level next text following part m a b c e)

pub part_taken : (n k : ℕ) (d : Dictionary) (head : Head) (level next : Level) (text following rest : List ℕ) (part : PlainLine) (whole : Result PlainLine Misfit) → k < n → group_from (n - k) d head level text ≡ whole
    → member_at d text ≡ Ok (part, following) → is_last part level.outer ≡ false → in_line d text part (added level part) ≡ Ok next → after_part part following ≡ Ok rest → group_from (n - (k + 1)) d head next rest ≡ whole
part_taken n k d head level next text following rest part whole h is a b c e =
    sym (at_part n k d head level text whole (group_from (n - (k + 1)) d head next rest) h is (goes_on (n - (k + 1)) d head level next text following rest part a b c e))

pub none_read : (n : ℕ) (d : Dictionary) (head : Head) (level : Level) (text : List ℕ) → group_from (n - 0) d head level text ≡ group_from n d head level text
none_read n d head level text = let whole : n - 0 ≡ n = omega arith in ap (λ (i : ℕ). group_from i d head level text) whole

pub none_left : (n k : ℕ) (d : Dictionary) (head : Head) (level : Level) (text : List ℕ) (e : NotRead) (whole : Result PlainLine Misfit) → n ≤ k → group_from (n - k) d head level text ≡ whole
    → e ≡ not_read.Misfit (misfit text want.ClosingBrace Braces) → FailsAt e whole
unfolding group_from
none_left n k d head level text e whole h is why =
    let none : n - k ≡ 0 = omega (arith, h) in
    subst (λ (x : NotRead). FailsAt x whole) (sym why) (sym is ∙ ap (λ (i : ℕ). group_from i d head level text) none)

-- the bytes of the group whose brace is the last are all that was written
pub last_bytes : (part : PlainLine) (outer : List Frame) (bytes out : List ℕ) (groups : List Opened) → is_last part outer ≡ true → Occurs outer bytes out groups → bytes ≡ out
last_bytes Blank outer bytes out groups e s = absurd (true≢false (sym e))
last_bytes (Leaf head inside pad) outer bytes out groups e s = absurd (true≢false (sym e))
last_bytes (Open head) outer bytes out groups e s = absurd (true≢false (sym e))
last_bytes (Close pad) [] bytes out groups e s = sym s.0
last_bytes (Close pad) (f ∷ fs) bytes out groups e s = absurd (true≢false (sym e))

pub same_leaf : (read : Result PlainLine Misfit) (head : Head) (a b : List ℕ) (p q : Option (List ℕ)) → a ≡ b → q ≡ p → read ≡ Ok (Leaf head a p) → read ≡ Ok (Leaf head b q)
same_leaf read head a b p q h k is =
    subst (λ (t : List ℕ). read ≡ Ok (Leaf head t q)) h (subst (λ (o : Option (List ℕ)). read ≡ Ok (Leaf head a o)) (sym k) is)
