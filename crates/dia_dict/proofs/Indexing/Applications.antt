-- Where no command is for an application, the look-up for a message's application finds what that without finds, or nothing.
use Rattle.std.proofs.Common.{◌≡◌, ℕ, ◌+◌, Bool, true, false, List, [], ◌∷◌, position, Option, Some, None, refl, sym, ap, ◌∙◌}
use Rattle.std.specs.Prelude.{◌==◌, ◌&&◌, All, slice_get}
use Rattle.std.specs.List.{list_any, position_from}
use Rattle.std.specs.Option.{option_or}
use Rattle.std.proofs.lemmas.Iterator.Adapters.{position_from-zero}
use Rattle.std.proofs.Math.Bool.{and-false}
use Rattle.dia_book.specs.declared.Class.{Class}
use Rattle.dia_book.specs.declared.Class.TheVariants.{Request, Answer, Error as Failure}
use Rattle.dia_book.specs.declared.DefHead.{DefHead}
use Rattle.dia_book.specs.declared.DefHead.TheVariants.{Group, Command, Error}
use Rattle.dia_book.specs.Dictionary.{is_command, same_class, IsCommandHead}
use Rattle.dia_book.specs.declared.Definition.{Definition}
use Rattle.dia_dict.specs.Selectors.{is_for_app}
use Rattle.dia_dict.proofs.Indexing.Selectors.{All-at, and_false_left}
use Rattle.dia_book.proofs.Lists.{position-map, map-agree}
use Rattle.dia_book.proofs.Members.{list_any-none_at}

option_or-same : (o : Option ℕ) → option_or o o ≡ o
option_or-same None = refl
option_or-same (Some n) = refl

position_from-none : (start : ℕ) (ds : List Definition) → position_from (λ (d : Definition). false) start ds ≡ None
position_from-none start [] = refl
position_from-none start (d ∷ ds) = position_from-none (start + 1) ds

position-none : (ds : List Definition) → position (λ (d : Definition). false) ds ≡ None
position-none ds = position_from-zero (λ (d : Definition). false) ds ∙ position_from-none 0 ds

-- a header for all applications is for none in particular
request-none : (code app : ℕ) (head : DefHead) → is_for_app head ≡ false → is_command code Request (Some app) head ≡ false
request-none code app (Group key) h = refl
request-none code app (Error p) h = refl
request-none code app (Command c class None p) h = and-false ((code == c) && same_class Request class)
request-none code app (Command c class (Some a) p) h = absurd (let e : true ≡ false = h in cc)

answer-none : (code app : ℕ) (head : DefHead) → is_for_app head ≡ false → is_command code Answer (Some app) head ≡ false
answer-none code app (Group key) h = refl
answer-none code app (Error p) h = refl
answer-none code app (Command c class None p) h = and-false ((code == c) && same_class Answer class)
answer-none code app (Command c class (Some a) p) h = absurd (let e : true ≡ false = h in cc)

-- a message of the class Error has one definition, whatever its application
failure-same : (code app : ℕ) (head : DefHead) → IsCommandHead head → is_command code Failure (Some app) head ≡ is_command code Failure None head
failure-same code app (Command c Request a p) h = and_false_left (code == c) _ ∙ sym (and_false_left (code == c) _)
failure-same code app (Command c Answer a p) h = and_false_left (code == c) _ ∙ sym (and_false_left (code == c) _)
failure-same code app (Command c Failure a p) h = absurd (h refl)
failure-same code app (Error p) h = refl
failure-same code app (Group key) h = absurd h

position-agree : (p q : Definition → Bool) (ds : List Definition) → ((i : ℕ) (d : Definition) → slice_get ds i ≡ Some d → p d ≡ q d) → position p ds ≡ position q ds
position-agree p q ds h = sym (position-map p (λ (b : Bool). b) ds) ∙ ap (position (λ (b : Bool). b)) (map-agree p q ds h) ∙ position-map q (λ (b : Bool). b) ds

module _ (ds : List Definition) (commands : All (λ (d : Definition). IsCommandHead d.head) ds) (none : list_any (λ (d : Definition). is_for_app d.head) ds ≡ false) where
  none-at : (i : ℕ) (d : Definition) → slice_get ds i ≡ Some d → is_for_app d.head ≡ false
  none-at = list_any-none_at (λ (d : Definition). is_for_app d.head) ds none

  pub selected-general : (code : ℕ) (class : Class) (app : ℕ)
      → position (λ (d : Definition). is_command code class None d.head) ds
      ≡ option_or (position (λ (d : Definition). is_command code class (Some app) d.head) ds) (position (λ (d : Definition). is_command code class None d.head) ds)
  selected-general code Request app =
      ap (λ (o : Option ℕ). option_or o (position (λ (d : Definition). is_command code Request None d.head) ds))
      (sym (position-agree (λ (d : Definition). is_command code Request (Some app) d.head) (λ (d : Definition). false) ds
      (λ i d at. request-none code app d.head (none-at i d at)) ∙ position-none ds))
  selected-general code Answer app =
      ap (λ (o : Option ℕ). option_or o (position (λ (d : Definition). is_command code Answer None d.head) ds))
      (sym (position-agree (λ (d : Definition). is_command code Answer (Some app) d.head) (λ (d : Definition). false) ds
      (λ i d at. answer-none code app d.head (none-at i d at)) ∙ position-none ds))
  selected-general code Failure app =
      sym (option_or-same _)
      ∙ ap (λ (o : Option ℕ). option_or o (position (λ (d : Definition). is_command code Failure None d.head) ds))
      (sym (position-agree (λ (d : Definition). is_command code Failure (Some app) d.head) (λ (d : Definition). is_command code Failure None d.head) ds
      (λ i d at. failure-same code app d.head (All-at (λ (e : Definition). IsCommandHead e.head) ds i d commands at))))
