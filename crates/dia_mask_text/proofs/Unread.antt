-- Lines that spell a message, and lines that spell none.
use Rattle.std.proofs.Common.{◌≡◌, ◌≢◌, ℕ, ◌==◌, Bool, true, false, ◌&&◌, List, [], ◌∷◌, ◌++◌, length, take, Option, Some, None, Result, Ok, Err, sym, ap, ◌∙◌, arith, codes, refl}
use Rattle.std.specs.Prelude.{IfOk, IfSome, OnOk, is_ok}
use Rattle.std.proofs.lemmas.Bool.{ne_eqb}
use Rattle.hex.specs.Hex.{decode_of, encode_lower}
use Rattle.dia_io.specs.declared.Input.{Input}
use Rattle.dia_io.specs.declared.Input.TheVariants.{Bytes, TooLong}
use Rattle.dia_io.specs.Inputs.{Holds, IsOver}
use Rattle.dia_terms.specs.Limits.{max_message_text}
use Rattle.dia_dict.specs.Dictionary.{Dictionary}
use Rattle.dia_run.specs.Texts.{IsMessageText, IsNoMessageText, digits_of, not_hexadecimal, too_long}
use Rattle.dia_run.proofs.HexTexts.{decoded}
use Rattle.dia_mask.specs.declared.choice.Choice.{Choice}
use Rattle.dia_mask.specs.declared.words.Words.{Words}
use Rattle.dia_mask.specs.Words.{Grows}
use Rattle.dia_mask.proofs.Characters.{agrees_before}
use Rattle.dia_streams.specs.FeedToSink.{Sees}
use Rattle.dia_mask_text.specs.declared.spelling.Unread.{Unread}
use Rattle.dia_mask_text.specs.Lines.{Counts, IsLineMasked, IsMaskedBy, MaskedLine, are_messages, line_text, why}

-- a text that is digits, but for white space at its end
pub digits_spelled : {E : Type 0} (r : Result (Option ℕ) E) (text digits items : List ℕ) → digits_of digits ≡ digits_of text → IfOk r (λ spelled. IfSome spelled (λ count. decode_of digits ≡ Ok (take count items)))
    → IfOk r (λ spelled. IfSome spelled (λ count. decode_of (digits_of text) ≡ Ok (take count items)))
digits_spelled (Ok None) text digits items same h = tt
digits_spelled (Ok (Some count)) text digits items same h = sym (ap decode_of same) ∙ decoded digits (take count items) h
digits_spelled (Err e) text digits items same h = tt

not_both : (input : Input) (text : List ℕ) → Holds input max_message_text text → IsOver input max_message_text → ⊥
not_both (Bytes v) text (is, fits) over = omega (arith, ap length is, fits, over)
not_both TooLong text held over = held

-- a line within the limit that spells no message isn't hexadecimal
pub no_hexadecimal : (line : Input) (text recorded : List ℕ) → Holds line max_message_text text → IsNoMessageText line recorded → IsNoMessageText line (codes "message: not hexadecimal")
no_hexadecimal line text recorded held (too_long over is) = absurd (not_both line text held over)
no_hexadecimal line text recorded held (not_hexadecimal given held' none is) = not_hexadecimal given held' none refl

-- ---- what is said of a line

-- each of them, and one more
all_push : (lines : List MaskedLine) (said : MaskedLine) → are_messages (lines ++ said ∷ []) ≡ (are_messages lines && is_ok said)
all_push [] (Ok new) = refl
all_push [] (Err u) = refl
all_push (Ok new ∷ lines) said = all_push lines said
all_push (Err u ∷ lines) said = refl

and_true : (b : Bool) → (b && true) ≡ b
and_true true = refl
and_true false = refl

and_false : (b : Bool) → (b && false) ≡ false
and_false true = refl
and_false false = refl

message_counted : (u v : ℕ) (new : List ℕ) → v ≡ u → Sees Counts u v (Ok new ∷ [])
message_counted u v new same lines counted = ap (λ (n : ℕ). n == 0) same ∙ counted ∙ sym (all_push lines (Ok new) ∙ and_true (are_messages lines))

unread_counted : (u v : ℕ) (unread : Unread) → v ≢ 0 → Sees Counts u v (Err unread ∷ [])
unread_counted u v unread some lines counted = ne_eqb v 0 some ∙ sym (all_push lines (Err unread) ∙ and_false (are_messages lines))

module _ (choice : Choice) (d : Dictionary) (line : Input) (old now : List ℕ) where
  abbrev pub Says : Words → ℕ → ℕ → Type 0
  Says words before after = (said : MaskedLine) × IsLineMasked choice words d line said × (now ≡ old ++ line_text said) × Sees Counts before after (said ∷ [])

  pub message_said : (after : Words) (bytes : List ℕ) (u v : ℕ) → IsMessageText line bytes → (new : List ℕ) × IsMaskedBy choice after d bytes new × (now ≡ old ++ (encode_lower new ++ codes "\n"))
      → v ≡ u → (words : Words) → Grows after words → Says words u v
  message_said after bytes u v text (new, masked, is) same words grows =
      (Ok new, (bytes, text, λ numbers agrees. masked numbers (agrees_before after words numbers grows agrees)), is, message_counted u v new same)

  pub unread_said : (unread : Unread) (u v : ℕ) → IsNoMessageText line (why unread) → now ≡ old ++ (why unread ++ codes "\n") → v ≢ 0 → (words : Words) → Says words u v
  unread_said unread u v none is some words = (Err unread, none, is, unread_counted u v unread some)

pub on_ok_both : {E A B C : Type 0} (r : Result (Unit {0}) E) → (A → B → C) → OnOk r A → OnOk r B → OnOk r C
on_ok_both (Ok u) f a b = f a b
on_ok_both (Err e) f a b = tt
