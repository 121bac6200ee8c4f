-- Marks, by one line of `breaking` and by one command more.
use Rattle.std.proofs.Common.{◌≡◌, ℕ, ◌+◌, Bool, true, false, List, [], ◌∷◌, ◌++◌, length, Option, Some, None, Result, Ok, Err, refl, sym, ap, subst, ◌∙◌, add-one}
use Rattle.std.specs.Prelude.{◌||◌, IfOk, IfSome, IsSome}
use Rattle.std.specs.List.{list_any}
use Rattle.std.proofs.lemmas.List.{map-append}
use Rattle.std.proofs.lemmas.List.Elements.{All-nil, All-push}
use Rattle.std.proofs.lemmas.List.Folds.{list_any-append}
use Rattle.dia_book.specs.Dictionary.{groups}
use Rattle.dia_breaking.specs.Free.{AllAreValid}
use Rattle.dia_breaking.specs.Sides.{Sides, answer_of}
use Rattle.dia_breaking.specs.TheLines.{HasTheLines, IsOfHead}
use Rattle.dia_breaking.specs.TheMeanings.{AreMeaningsOf}
use Rattle.dia_breaking.specs.Words.{head_at}
use Rattle.dia_breaking.specs.declared.line.Breaks.{Breaks}
use Rattle.dia_differences.specs.declared.lines.Effects.{Effects}
use Rattle.dia_differences.specs.declared.lines.What.{What}
use Rattle.dia_diff.specs.declared.subjects.Subject.{Subject}
use Rattle.dia_diff.specs.Marks.{IsFound, breaks_by, has, ignores_by, is_of, is_other_by, places_below}
use Rattle.dia_diff.specs.Origins.{Found, Route, found_of}
use Rattle.dia_diff.specs.Subjects.{same_subject, subjects}
use Rattle.dia_diff.specs.Unbroken.{IsValidIfNone, MarksFound}
use Rattle.dia_diff.proofs.Tests.{all_marked, more_marked}

-- ---- one line

pub marked_some : (all : Bool) (old new : Subject → Bool) (list : List Subject) (o : Option (List Subject)) (w : What) → ((q : Subject) → new q ≡ (old q || has list q)) → Some list ≡ o
    → (all || list_any new (subjects w)) ≡ ((all || list_any old (subjects w)) || is_of o w)
marked_some all old new list o w added is = more_marked all old new (has list) (subjects w) added ∙ ap (λ (p : Option (List Subject)). (all || list_any old (subjects w)) || is_of p w) is

pub marked_all : (b : Bool) (o : Option (List Subject)) (w : What) → None ≡ o → true ≡ (b || is_of o w)
marked_all b o w is = all_marked b ∙ ap (λ (p : Option (List Subject)). b || is_of p w) is

pub none_marked : (keys list : List Subject) → keys ≡ [] → list_any (λ q. list_any (same_subject q) keys) list ≡ false
none_marked keys [] none = refl
none_marked keys (q ∷ list) none = ap (λ (ks : List Subject). list_any (same_subject q) ks || list_any (λ q. list_any (same_subject q) keys) list) none ∙ none_marked keys list none

-- ---- one command

pub found : {E : Type 0} (s : Sides) (r : Result Breaks E) (i c : ℕ) → c ≡ length (groups s.sender) + i → IfOk r (λ b. b.command ≡ c) → IfSome (head_at s.sender c) (λ own. IfOk r (λ b. IsOfHead b own))
    → IfOk r (λ b. IsSome (head_at s.sender c) → HasTheLines s (answer_of b)) → IfOk r (λ b. IsSome (head_at s.sender c) → AreMeaningsOf s (answer_of b) b.meanings.items) → IfOk r (λ b. IsFound s (found_of i b))
found s (Ok b) i c is same head lines meanings = record {
  command = same ∙ is;
  head = subst (λ (n : ℕ). IfSome (head_at s.sender n) (λ own. (b.code ≡ own.code) × (b.class ≡ own.class))) (sym same) head;
  lines = λ some. lines (subst (λ (n : ℕ). IsSome (head_at s.sender n)) same some);
  meanings = λ some. meanings (subst (λ (n : ℕ). IsSome (head_at s.sender n)) same some);
}
found s (Err e) i c is same head lines meanings = tt

pub valid_if_none : {E : Type 0} (s : Sides) (r : Result Breaks E) (i c : ℕ) → IfOk r (λ b. b.command ≡ c) → IfOk r (λ b. b.lines.items ≡ [] → ∥ AllAreValid s c ∥₁) → IfOk r (λ b. IsValidIfNone s (found_of i b))
valid_if_none s (Ok b) i c same valid = λ none. subst (λ (n : ℕ). ∥ AllAreValid s n ∥₁) (sym same) (valid none)
valid_if_none s (Err e) i c same valid = tt

-- ---- the first commands

pub no_marks : (there : Subject → Bool) (r : Route) (effects : What → Effects) → ((w : What) → (effects w).breaks ≡ false) → ((w : What) → (effects w).other_format ≡ false) → ((w : What) → (effects w).ignored ≡ false)
    → MarksFound there r 0 effects
no_marks there r effects none_breaks none_other none_ignored = record {
  founds = [];
  are_found = record { places = refl; each = All-nil (IsFound r.between) };
  valid = All-nil (IsValidIfNone r.between);
  breaks = none_breaks;
  other_format = none_other;
  ignored = none_ignored;
}

or_none : (a : Bool) → a ≡ (a || false)
or_none true = refl
or_none false = refl

-- one more passes
one_found_more : (p : Found → Bool) (founds : List Found) (f : Found) (old new : Bool) → old ≡ list_any p founds → new ≡ (old || p f) → new ≡ list_any p (founds ++ f ∷ [])
one_found_more p founds f old new before step =
    step ∙ ap (λ (b : Bool). b || p f) before ∙ ap (λ (b : Bool). list_any p founds || b) (or_none (p f)) ∙ sym (list_any-append p founds (f ∷ []))

pub marks_next : (there : Subject → Bool) (r : Route) (n : ℕ) (old new : What → Effects) (f : Found) → MarksFound there r n old → f.place ≡ n → IsFound r.between f → IsValidIfNone r.between f
    → ((w : What) → (new w).breaks ≡ ((old w).breaks || breaks_by there r w f)) → ((w : What) → (new w).other_format ≡ ((old w).other_format || is_other_by there r w f))
    → ((w : What) → (new w).ignored ≡ ((old w).ignored || ignores_by there r w f)) → MarksFound there r (n + 1) new
marks_next there r n old new f m place is valid breaks other ignored = record {
  founds = m.founds ++ f ∷ [];
  are_found = record {
    places = map-append (λ (x : Found). x.place) m.founds (f ∷ []) ∙ ap (λ (ps : List ℕ). ps ++ f.place ∷ []) m.are_found.places ∙ ap (λ (k : ℕ). places_below n ++ k ∷ []) place ∙ ap places_below (sym (add-one n));
    each = All-push (IsFound r.between) m.founds f m.are_found.each is;
  };
  valid = All-push (IsValidIfNone r.between) m.founds f m.valid valid;
  breaks = λ w. one_found_more (breaks_by there r w) m.founds f (old w).breaks (new w).breaks (m.breaks w) (breaks w);
  other_format = λ w. one_found_more (is_other_by there r w) m.founds f (old w).other_format (new w).other_format (m.other_format w) (other w);
  ignored = λ w. one_found_more (ignores_by there r w) m.founds f (old w).ignored (new w).ignored (m.ignored w) (ignored w);
}
