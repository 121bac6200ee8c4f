-- What is answered of two dictionaries is answered of the handles that hold them.
use Rattle.std.proofs.Common.{◌≡◌, ℕ, List, Option, Some, Result, Err, sym, ap, subst, ◌∙◌}
use Rattle.std.specs.Prelude.{IfSome, IfErr}
use Rattle.std.specs.Global.{Global}
use Rattle.std_alloc.specs.declared.arc.Arc.{Arc}
use Rattle.dia_terms.specs.declared.Unknown.{Unknown}
use Rattle.dia_book.specs.Dictionary.{Dictionary}
use Rattle.dia_dict.specs.declared.indexed_book.IndexedBook.{IndexedBook}
use Rattle.dia_dict.specs.contracts.indexed_book.IndexedBookBook.TheImpl.{ghosts}
use Rattle.dia_c_calls.specs.declared.held.Held.{Held}
use Rattle.dia_c_calls.specs.declared.held.Held.TheVariants.{Dict}
use Rattle.dia_c_calls.specs.declared.wanted.Wanted.{Wanted}
use Rattle.dia_c_calls.specs.Comparisons.{HasCompared}
use Rattle.dia_c_calls.specs.Held.{dict_in, text_in}
use Rattle.dia_c_calls.specs.Upgrades.{HasListed}

module _ {A E : Type 0} (P : E → Type 0) where
  -- what holds of an error holds of the one that there is
  pub of_err : (r : Result A E) (e : E) → r ≡ Err e → IfErr r P → P e
  of_err r e is p = subst (λ (s : Result A E). IfErr s P) is p

-- the dictionary that is lent by a handle
pub dict_of : (held lent : Held) (owner : Arc IndexedBook Global) (book : IndexedBook) → lent ≡ held → lent ≡ Dict owner tt → book ≡ owner.value
    → dict_in (Some held) ≡ Some (ghosts.meaning book)
dict_of held lent owner book same is at =
    ap (λ (h : Held). dict_in (Some h)) (sym same ∙ is) ∙ ap (λ (b : IndexedBook). Some (ghosts.meaning b)) (sym at)

module _ (P : Dictionary → List ℕ → Type 0) where
  pub in_one : (a l : Option Held) (first recorded : Held) (A : Dictionary) → a ≡ Some first → l ≡ Some recorded → dict_in (Some first) ≡ Some A
      → IfSome (text_in (Some recorded)) (P A) → IfSome (dict_in a) (λ x. IfSome (text_in l) (P x))
  in_one a l first recorded A is_a is_l is_A done =
      subst (λ (o : Option Dictionary). IfSome o (λ x. IfSome (text_in l) (P x))) (sym (ap dict_in is_a ∙ is_A))
      (subst (λ (o : Option Held). IfSome (text_in o) (P A)) (sym is_l) done)

module _ (P : Dictionary → Type 0) where
  pub in_dict : (a : Option Held) (first : Held) (A : Dictionary) → a ≡ Some first → dict_in (Some first) ≡ Some A → P A → IfSome (dict_in a) P
  in_dict a first A is_a is_A done = subst (λ (o : Option Dictionary). IfSome o P) (sym (ap dict_in is_a ∙ is_A)) done

module _ (P : Dictionary → Dictionary → List ℕ → Type 0) where
  pub in_two : (a b l : Option Held) (first second recorded : Held) (A B : Dictionary) → a ≡ Some first → b ≡ Some second → l ≡ Some recorded → dict_in (Some first) ≡ Some A
      → dict_in (Some second) ≡ Some B → IfSome (text_in (Some recorded)) (P A B) → IfSome (dict_in a) (λ x. IfSome (dict_in b) (λ y. IfSome (text_in l) (P x y)))
  in_two a b l first second recorded A B is_a is_b is_l is_A is_B done =
      in_dict (λ x. IfSome (dict_in b) (λ y. IfSome (text_in l) (P x y))) a first A is_a is_A
      (in_dict (λ y. IfSome (text_in l) (P A y)) b second B is_b is_B (subst (λ (o : Option Held). IfSome (text_in o) (P A B)) (sym is_l) done))

pub compared_in : (a b l : Option Held) (first second recorded : Held) (A B : Dictionary) (u v : Unknown) (text : List ℕ) (holds : ℕ)
    → a ≡ Some first → b ≡ Some second → l ≡ Some recorded → dict_in (Some first) ≡ Some A → dict_in (Some second) ≡ Some B → u ≡ v
    → IfSome (text_in (Some recorded)) (λ line. HasCompared A B u text line holds)
    → IfSome (dict_in a) (λ x. IfSome (dict_in b) (λ y. IfSome (text_in l) (λ line. HasCompared x y v text line holds)))
compared_in a b l first second recorded A B u v text holds is_a is_b is_l is_A is_B same done =
    in_two (λ x y line. HasCompared x y v text line holds) a b l first second recorded A B is_a is_b is_l is_A is_B
    (subst (λ (w : Unknown). IfSome (text_in (Some recorded)) (λ line. HasCompared A B w text line holds)) same done)

pub listed_in : (a b l : Option Held) (first second recorded : Held) (A B : Dictionary) (w v : Wanted) (commands accepted : List ℕ) (safe : ℕ)
    → a ≡ Some first → b ≡ Some second → l ≡ Some recorded → dict_in (Some first) ≡ Some A → dict_in (Some second) ≡ Some B → w ≡ v
    → IfSome (text_in (Some recorded)) (λ text. HasListed A B w commands accepted text safe)
    → IfSome (dict_in a) (λ x. IfSome (dict_in b) (λ y. IfSome (text_in l) (λ text. HasListed x y v commands accepted text safe)))
listed_in a b l first second recorded A B w v commands accepted safe is_a is_b is_l is_A is_B same done =
    in_two (λ x y text. HasListed x y v commands accepted text safe) a b l first second recorded A B is_a is_b is_l is_A is_B
    (subst (λ (z : Wanted). IfSome (text_in (Some recorded)) (λ text. HasListed A B z commands accepted text safe)) same done)
