-- The sites and the lines that are found are those of the one list.
use Rattle.std.proofs.Common.{◌≡◌, ℕ, List, Option, Some, None, map, sym, ap, subst, ◌∙◌}
use Rattle.std.specs.Prelude.{◌<◌, IfSome, length, option_and_then, slice_get}
use Rattle.std.proofs.Math.Logic.{∥∥₁_map}
use Rattle.dia_book.specs.Dictionary.{Dictionary, PlainDefinition, definitions}
use Rattle.dia_valid.proofs.Members.{there_is, at_some}
use Rattle.dia_breaking.specs.declared.heads.Head.{Head}
use Rattle.dia_breaking.specs.declared.line.Line.{Line}
use Rattle.dia_breaking.specs.declared.line.Site.{Site}
use Rattle.dia_breaking.specs.declared.start.Start.{Start}
use Rattle.dia_breaking.specs.Headers.{HasHead, head_in}
use Rattle.dia_breaking.specs.Listing.{Recorded, Listed, AreMeanings, IsListing, IsListingOf, basis_of, lines_of, meanings_of, records}
use Rattle.dia_breaking.specs.TheLines.{AreFacts, Facts, AreListedFor, HasTheLines, IsStartOf, costs_in}
use Rattle.dia_breaking.specs.TheMeanings.{AreMeaningsOf}
use Rattle.dia_breaking.specs.Words.{head_at}
use Rattle.dia_breaking.specs.Sides.{Sides, answer}

-- ---- of a command

pub head_there : (d : Dictionary) (c : ℕ) (found : Option Head) → c < length (definitions d) → IfSome (slice_get (definitions d) c) (λ (x : PlainDefinition). found ≡ head_in x.head) → head_at d c ≡ found
head_there d c found within is =
    let x = there_is (definitions d) c within in
    ap (option_and_then (λ (y : PlainDefinition). head_in y.head)) x.1 ∙ sym (at_some (λ (y : PlainDefinition). found ≡ head_in y.head) (slice_get (definitions d) c) x.0 is x.1)

pub none_there : {X : Type 0} (P : X → Type 0) (o : Option X) → o ≡ None → IfSome o P
none_there {X} P o none = subst (λ (r : Option X). IfSome r P) (sym none) tt

-- ---- the one list

module _ (s : Sides) (c : ℕ) (made : Facts) (start : Start) (head : Head) (sites : List Site) (shown : ∥ AreFacts s made ∥₁) (same : start.head ≡ head) where
  the_listed : (listed : Listed) (recorded : List Recorded) → IsStartOf s.sender s.receiver made.recording (costs_in s made) c start → HasHead s.sender c head
      → IsListingOf listed s.receiver (basis_of start made.own made.outlooks) sites recorded → ∥ AreListedFor listed s c sites recorded ∥₁
  the_listed listed recorded is_start (x, at, is) listing = ∥∥₁_map shown (λ facts. record { made = made; start = start; facts = facts; head_is = (x, at, is ∙ ap Some (sym same)); is_start = is_start; is_listing = listing })

  pub lines_found : (lines : List Line) → IsStartOf s.sender s.receiver made.recording (costs_in s made) c start → HasHead s.sender c head
      → IsListing s.receiver (basis_of start made.own made.outlooks) sites (map records lines) → HasTheLines s (answer c sites lines)
  lines_found lines begins in_a all = the_listed lines_of (map records lines) begins in_a all

  pub meanings_found : (lines meanings : List Line) → IsStartOf s.sender s.receiver made.recording (costs_in s made) c start → HasHead s.sender c head
      → AreMeanings s.receiver (basis_of start made.own made.outlooks) sites (map records meanings) → AreMeaningsOf s (answer c sites lines) meanings
  meanings_found lines meanings begins in_a all = the_listed meanings_of (map records meanings) begins in_a all
