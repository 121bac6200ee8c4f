-- The text of a message from its parts, or why there is none.
use Rattle.std.proofs.Common.{◌≡◌, ◌≢◌, ℕ, zero, suc, ◌<◌, ◌≤◌, List, [], ◌∷◌, ◌++◌, length, take, drop, slice_index, Result, Err, flat_map, sym, ap, subst, ◌∙◌}
use Rattle.dia_wire.specs.declared.Header.{Header}
use Rattle.dia_wire.specs.declared.MessageFault.{MessageFault}
use Rattle.dia_wire.specs.declared.MessageFault.TheVariants.{Short, Version, Length, Truncated, Trailing}
use Rattle.dia_wire.specs.Number.{number}
use Rattle.dia_wire.specs.Wire.{IsHead, IsMessageLength, BeginsMessage}
use Rattle.dia_book.specs.Dictionary.{Dictionary}
use Rattle.dia_text.specs.declared.writing.NotWritten.{NotWritten}
use Rattle.dia_text.specs.declared.writing.NotWritten.TheVariants.{Message, Avps, NoMemory}
use Rattle.dia_text.specs.LineTexts.{header_line}
use Rattle.dia_text.specs.TextOf.{AreAvps, IsLevelText, IsTextOf, IsNoMessage, HasNoText, HasNoLines, AddsLevel, fed}
use Rattle.dia_text.proofs.Bytes.{AreBytes}

pub bytes_from : (bytes : List ℕ) → ((k : ℕ) → slice_index bytes k < 256) → AreBytes bytes
bytes_from [] h = tt
bytes_from (b ∷ bytes) h = (h zero, bytes_from bytes (λ k. h (suc k)))

pub no_message : {X : Type 0} (m : List ℕ) (r : Result X MessageFault) (why : MessageFault) → r ≡ Err why → (r ≡ Err Short → length m < 20)
    → (r ≡ Err Version → (20 ≤ length m) × (slice_index m 0 ≢ 1)) → (r ≡ Err Length → (20 ≤ length m) × (slice_index m 0 ≡ 1) × ¬ IsMessageLength (number (take 3 (drop 1 m))))
    → (r ≡ Err Truncated → (n : ℕ) × BeginsMessage m n × (length m < n)) → (r ≡ Err Trailing → (n : ℕ) × BeginsMessage m n × (n < length m)) → IsNoMessage why m
no_message m r Short is short version len truncated trailing = short is
no_message m r Version is short version len truncated trailing = version is
no_message m r Length is short version len truncated trailing = len is
no_message m r Truncated is short version len truncated trailing = truncated is
no_message m r Trailing is short version len truncated trailing = trailing is

pub no_level : (m body : List ℕ) (h : Header) (why : NotWritten) → IsHead h (length m) (take 20 m) → IsMessageLength (length m) → body ≡ drop 20 m → HasNoLines why body → HasNoText why m
no_level m body h (Message fault) is_head long is none = absurd none
no_level m body h Avps is_head long is none = ((h, is_head, long), λ all. none (subst AreAvps (sym is) all))
no_level m body h NoMemory is_head long is none = tt

pub text_of_parts : (d : Dictionary) (m body t0 t1 t2 : List ℕ) (h : Header) → IsHead h (length m) (take 20 m) → body ≡ drop 20 m → t0 ≡ [] → t1 ≡ t0 ++ fed (header_line d h) → AddsLevel d body t1 t2 → IsTextOf d m t2
text_of_parts d m body t0 t1 t2 h is_head is_body e0 e1 (lines, level, e2) = record {
  header = h;
  lines = lines;
  is_head = is_head;
  is_body = subst (λ (b : List ℕ). IsLevelText d b lines) is_body level;
  is_text = e2 ∙ ap (λ (t : List ℕ). t ++ flat_map fed lines) (e1 ∙ ap (λ (t : List ℕ). t ++ fed (header_line d h)) e0);
}
