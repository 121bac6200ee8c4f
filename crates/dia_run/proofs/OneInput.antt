-- An input has one reading.
use Rattle.std.proofs.Common.{◌≡◌, ℕ, List, length, refl, sym, ap, subst, ◌∙◌, arith, inl, inr}
use Rattle.std.specs.Prelude.{Ok}
use Rattle.std.proofs.lemmas.Option.{none-some, same_Some}
use Rattle.hex.specs.Hex.{decode_of}
use Rattle.dia_ccf.specs.Limits.{max_text}
use Rattle.dia_ccf.specs.Plain.{PlainSource}
use Rattle.dia_ccf.specs.Tokens.{tokens}
use Rattle.dia_ccf.specs.Grammar.{Derives}
use Rattle.dia_ccf.proofs.OneFault.{one_fault, no_text_of}
use Rattle.dia_ccf.proofs.MachineCompleteness.{one_source}
use Rattle.dia_dict.specs.Dictionary.{Dictionary}
use Rattle.dia_dict.specs.Resolution.{first_wrong, resolved}
use Rattle.dia_io.specs.declared.Input.{Input}
use Rattle.dia_io.specs.declared.Input.TheVariants.{Bytes, TooLong}
use Rattle.dia_io.specs.declared.Exit.{Exit}
use Rattle.dia_io.specs.Inputs.{Holds, IsOver}
use Rattle.dia_terms.specs.Limits.{max_message_text}
use Rattle.dia_report.specs.Refusals.{fault_text, wrong_text}
use Rattle.dia_run.specs.Texts.{line, IsSourceText, IsNoSourceText, too_long, not_text, fault, IsDictionaryText, IsNoDictionaryText, IsMessageText, IsNoMessageText}
use Rattle.dia_run.specs.Texts.{not_hexadecimal, digits_of}
use Rattle.dia_run.specs.Outcome.{Refuses}

-- one text and one end
abbrev pub Same : List ℕ → List ℕ → Exit → Exit → Type 0
Same t u x y = (t ≡ u) × (x ≡ y)

pub refused_once : (m n t u : List ℕ) (x y : Exit) → m ≡ n → Refuses m t x → Refuses n u y → Same t u x y
refused_once m n t u x y same (is_t, is_x) (is_u, is_y) = (is_t ∙ ap line same ∙ sym is_u, is_x ∙ sym is_y)

pub held_once : (input : Input) (limit : ℕ) (a b : List ℕ) → Holds input limit a → Holds input limit b → a ≡ b
held_once (Bytes v) limit a b h k = sym h.0 ∙ k.0
held_once TooLong limit a b h k = absurd h

pub not_over : (input : Input) (limit : ℕ) (a : List ℕ) → Holds input limit a → IsOver input limit → ⊥
not_over (Bytes v) limit a h over = omega (arith, over, h.1, ap length h.0)
not_over TooLong limit a h over = h

pub one_source_text : (input : Input) (s t : PlainSource) → IsSourceText input s → IsSourceText input t → s ≡ t
one_source_text input s t (a, held, utf8, derives) (b, held', utf8', derives') =
    one_source (tokens a) s t derives (subst (λ (text : List ℕ). Derives (tokens text) t) (sym (held_once input max_text a b held held')) derives')

pub source_or_not : (input : Input) (s : PlainSource) (why : List ℕ) → IsSourceText input s → IsNoSourceText input why → ⊥
source_or_not input s why (a, held, utf8, derives) (too_long over is_why) = not_over input max_text a held over
source_or_not input s why (a, held, utf8, derives) (not_text b held' no_utf8 is_why) = no_utf8 (rw (held_once input max_text b a held' held) utf8)
source_or_not input s why (a, held, utf8, derives) (fault b f held' utf8' is_fault no_memory is_why) =
    no_text_of b f is_fault no_memory s (rw (held_once input max_text b a held' held) derives)

pub one_reason : (input : Input) (m n : List ℕ) → IsNoSourceText input m → IsNoSourceText input n → m ≡ n
one_reason input m n (too_long over is_m) (too_long over' is_n) = is_m ∙ sym is_n
one_reason input m n (too_long over is_m) (not_text b held no_utf8 is_n) = absurd (not_over input max_text b held over)
one_reason input m n (too_long over is_m) (fault b f held utf8 is_fault no_memory is_n) = absurd (not_over input max_text b held over)
one_reason input m n (not_text a held no_utf8 is_m) (too_long over is_n) = absurd (not_over input max_text a held over)
one_reason input m n (not_text a held no_utf8 is_m) (not_text b held' no_utf8' is_n) = is_m ∙ sym is_n
one_reason input m n (not_text a held no_utf8 is_m) (fault b f held' utf8 is_fault no_memory is_n) = absurd (no_utf8 (rw (held_once input max_text a b held held') utf8))
one_reason input m n (fault a f held utf8 is_fault no_memory is_m) (too_long over is_n) = absurd (not_over input max_text a held over)
one_reason input m n (fault a f held utf8 is_fault no_memory is_m) (not_text b held' no_utf8 is_n) = absurd (no_utf8 (rw (held_once input max_text b a held' held) utf8))
one_reason input m n (fault a f held utf8 is_fault no_memory is_m) (fault b g held' utf8' is_fault' no_memory' is_n) =
    is_m ∙ ap fault_text (one_fault a f g is_fault (rw (held_once input max_text a b held held') is_fault') no_memory no_memory') ∙ sym is_n

pub one_dictionary : (input : Input) (d e : Dictionary) → IsDictionaryText input d → IsDictionaryText input e → d ≡ e
one_dictionary input d e (s, is_s, sound, is_d, well) (t, is_t, sound', is_e, well') = is_d ∙ ap resolved (one_source_text input s t is_s is_t) ∙ sym is_e

pub dictionary_or_not : (input : Input) (d : Dictionary) (why : List ℕ) → IsDictionaryText input d → IsNoDictionaryText input why → ⊥
dictionary_or_not input d why (s, is_s, sound, is_d, well) (inl none) = source_or_not input s why is_s none
dictionary_or_not input d why (s, is_s, sound, is_d, well) (inr (t, w, is_t, wrong, is_why)) = none-some w (sym sound ∙ ap first_wrong (one_source_text input s t is_s is_t) ∙ wrong)

pub one_reason_for_dictionary : (input : Input) (m n : List ℕ) → IsNoDictionaryText input m → IsNoDictionaryText input n → m ≡ n
one_reason_for_dictionary input m n (inl none) (inl none') = one_reason input m n none none'
one_reason_for_dictionary input m n (inl none) (inr (t, w, is_t, wrong, is_n)) = absurd (source_or_not input t m is_t none)
one_reason_for_dictionary input m n (inr (s, w, is_s, wrong, is_m)) (inl none) = absurd (source_or_not input s n is_s none)
one_reason_for_dictionary input m n (inr (s, w, is_s, wrong, is_m)) (inr (t, x, is_t, wrong', is_n)) =
    is_m ∙ ap wrong_text (same_Some w x (sym wrong ∙ ap first_wrong (one_source_text input s t is_s is_t) ∙ wrong')) ∙ sym is_n

pub one_message : (input : Input) (a b : List ℕ) → IsMessageText input a → IsMessageText input b → a ≡ b
one_message input a b (t, held, is_a) (u, held', is_b) =
    let same : Ok a ≡ Ok b = sym is_a ∙ ap (λ (text : List ℕ). decode_of (digits_of text)) (held_once input max_message_text t u held held') ∙ is_b in cc

pub message_or_not : (input : Input) (a recorded : List ℕ) → IsMessageText input a → IsNoMessageText input recorded → ⊥
message_or_not input a recorded (t, held, is_a) (too_long over is_recorded) = not_over input max_message_text t held over
message_or_not input a recorded (t, held, is_a) (not_hexadecimal u held' none is_recorded) = none (rw (held_once input max_message_text u t held' held, is_a) refl)

pub one_message_reason : (input : Input) (m n : List ℕ) → IsNoMessageText input m → IsNoMessageText input n → m ≡ n
one_message_reason input m n (too_long over is_m) (too_long over' is_n) = is_m ∙ sym is_n
one_message_reason input m n (too_long over is_m) (not_hexadecimal u held none is_n) = absurd (not_over input max_message_text u held over)
one_message_reason input m n (not_hexadecimal t held none is_m) (too_long over is_n) = absurd (not_over input max_message_text t held over)
one_message_reason input m n (not_hexadecimal t held none is_m) (not_hexadecimal u held' none' is_n) = is_m ∙ sym is_n
