-- The levels of a message, by its header.
use Rattle.std.proofs.Common.{◌≡◌, ◌≢◌, ℕ, ◌<◌, ◌≤◌, ◌^◌, List, [], Some, None, length, take, drop, refl, sym, ap, subst, ◌∙◌, arith}
use Rattle.std.specs.Prelude.{◌↔◌, slice_index, Result, Ok, Err, OnOk}
use Rattle.std.proofs.lemmas.List.{length-drop}
use Rattle.std.proofs.lemmas.Option.{none-some, same_Some}
use Rattle.dia_wire.specs.declared.header.Header.{Header}
use Rattle.dia_wire.specs.declared.header.MessageFault.{MessageFault}
use Rattle.dia_wire.specs.declared.header.MessageFault.TheVariants.{Short, Version, Length, Truncated, Trailing}
use Rattle.dia_wire.specs.Number.{number}
use Rattle.dia_wire.specs.Wire.{IsHead, IsMessageLength, BeginsMessage}
use Rattle.dia_wire.proofs.OneHeader.{one_header, head_says}
use Rattle.dia_wire.proofs.OneMessage.{one_length}
use Rattle.dia_book.specs.Dictionary.{Dictionary, selected}
use Rattle.dia_valid.specs.Valid.{class_of}
use Rattle.dia_valid.proofs.Members.{in_contains}
use Rattle.dia_learn.specs.declared.place.Place.{Place}
use Rattle.dia_learn.specs.Levels.{AreLevelsIn, AreLevelsOf, IsLevelOf, LiesIn, PlainLevel, of_command}

abbrev pub err : {X : Type 0} → MessageFault → Result X MessageFault
err e = Err e

-- bytes of which a fault is reported are no message
pub no_message : {X : Type 0} (bytes : List ℕ) (e : MessageFault) → ((err {X = X} e ≡ err Short) ↔ (length bytes < 20))
    → ((err {X = X} e ≡ err Version) ↔ ((20 ≤ length bytes) × (slice_index bytes 0 ≢ 1)))
    → ((err {X = X} e ≡ err Length) ↔ ((20 ≤ length bytes) × (slice_index bytes 0 ≡ 1) × ¬ IsMessageLength (number (take 3 (drop 1 bytes)))))
    → ((err {X = X} e ≡ err Truncated) ↔ ((n : ℕ) × BeginsMessage bytes n × (length bytes < n)))
    → ((err {X = X} e ≡ err Trailing) ↔ ((n : ℕ) × BeginsMessage bytes n × (n < length bytes)))
    → (h : Header) → IsHead h (length bytes) (take 20 bytes) → IsMessageLength (length bytes) → ⊥
no_message bytes Short short version long truncated trailing h is_head sound =
    let less = short.0 refl in let says = head_says h (length bytes) bytes is_head in omega (arith, less, says.0)
no_message bytes Version short version long truncated trailing h is_head sound = (version.0 refl).1 (head_says h (length bytes) bytes is_head).1
no_message bytes Length short version long truncated trailing h is_head sound = (long.0 refl).2 (subst IsMessageLength (sym (head_says h (length bytes) bytes is_head).2) sound)
no_message bytes Truncated short version long truncated trailing h is_head sound =
    let (n, begins, less) = truncated.0 refl in let same = one_length bytes h (length bytes) n is_head begins in omega (arith, less, same)
no_message bytes Trailing short version long truncated trailing h is_head sound =
    let (n, begins, less) = trailing.0 refl in let same = one_length bytes h (length bytes) n is_head begins in omega (arith, less, same)

-- the body of a message is short
pub body_fits : (bytes body : List ℕ) → body ≡ drop 20 bytes → length bytes < 2 ^ 24 → length body < 2 ^ 32
body_fits bytes body is low = let e = ap length is ∙ length-drop 20 bytes in omega (arith, e, low)

-- without a header and a command there are no levels
pub no_levels : (d : Dictionary) (bytes : List ℕ) → ((h : Header) → IsHead h (length bytes) (take 20 bytes) → IsMessageLength (length bytes) → selected d h.code (class_of h.flags) h.app ≡ None)
    → AreLevelsOf d bytes []
no_levels d bytes none l = (
  λ has. absurd (in_contains [] l has),
  λ is. absurd (none-some is.c (sym (none is.header is.is_head is.sound) ∙ is.select)),
)

module _ (d : Dictionary) (bytes : List ℕ) (header : Header) (is_head : IsHead header (length bytes) (take 20 bytes)) where
  pub no_command : selected d header.code (class_of header.flags) header.app ≡ None → AreLevelsOf d bytes []
  no_command none = no_levels d bytes (λ h other sound. subst (λ (k : Header). selected d k.code (class_of k.flags) k.app ≡ None) (one_header header h _ _ (take 20 bytes) is_head other).0 none)

  module _ (c : ℕ) (select : selected d header.code (class_of header.flags) header.app ≡ Some c) (l : PlainLevel) where
    same_lies : (h : Header) (n : ℕ) → h ≡ header → n ≡ c → LiesIn d l (of_command n (class_of h.flags) h.app) (drop 20 bytes) → LiesIn d l (of_command c (class_of header.flags) header.app) (drop 20 bytes)
    same_lies h n e f lies =
        subst (λ (m : ℕ). LiesIn d l (of_command m (class_of header.flags) header.app) (drop 20 bytes)) f
        (subst (λ (k : Header). LiesIn d l (of_command n (class_of k.flags) k.app) (drop 20 bytes)) e lies)

    pub lies_of : IsLevelOf d bytes l → LiesIn d l (of_command c (class_of header.flags) header.app) (drop 20 bytes)
    lies_of is =
        let e : is.header ≡ header = (one_header is.header header _ _ (take 20 bytes) is.is_head is_head).0 in
        let f : Some is.c ≡ Some c = sym is.select ∙ ap (λ (k : Header). selected d k.code (class_of k.flags) k.app) e ∙ select in
        same_lies is.header is.c e (same_Some is.c c f) is.lies

  pub levels_of : IsMessageLength (length bytes) → (c : ℕ) → selected d header.code (class_of header.flags) header.app ≡ Some c → (ls : List PlainLevel)
      → AreLevelsIn d (of_command c (class_of header.flags) header.app) (drop 20 bytes) ls → AreLevelsOf d bytes ls
  levels_of sound c select ls are l = (
    λ has. record { header = header; c = c; is_head = is_head; sound = sound; select = select; lies = (are l).0 has },
    λ is. (are l).1 (lies_of c select l is),
  )

-- the levels of a place and bytes that are written otherwise
pub are_levels : (d : Dictionary) (ls : List PlainLevel) {w x : Place} {bytes others : List ℕ} → w ≡ x → bytes ≡ others → AreLevelsIn d w bytes ls → AreLevelsIn d x others ls
are_levels d ls {w} {x} {bytes} {others} e f are = subst (λ (y : Place). AreLevelsIn d y others ls) e (subst (λ (b : List ℕ). AreLevelsIn d w b ls) f are)

pub on_ok : {X E : Type 0} {P Q : Type 0} (r : Result X E) → OnOk r P → (P → Q) → OnOk r Q
on_ok (Ok x) h f = f h
on_ok (Err e) h f = tt
