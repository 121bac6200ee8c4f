-- What `show --as-text` answers, from its parts.
use Rattle.std.proofs.Common.{◌≡◌, ℕ, List, [], ◌∷◌, ◌++◌, length, drop, Result, Ok, Err, refl, sym, ap, subst, ◌∙◌, append_assoc, append-nil, arith}
use Rattle.std.specs.Prelude.{IfOk, string_bytes}
use Rattle.dia_terms.specs.Limits.{max_message_text}
use Rattle.dia_io.specs.declared.Exit.{Exit}
use Rattle.dia_io.specs.declared.Exit.TheVariants as exits
use Rattle.dia_io.specs.declared.Inputs.{Inputs}
use Rattle.dia_io.specs.Inputs.{Holds}
use Rattle.dia_wire.specs.Wire.{PlainAvp, Spells, SpellsAll, BeginsWith}
use Rattle.dia_dict.specs.Dictionary.{Dictionary}
use Rattle.dia_text.specs.Made.{digits_line}
use Rattle.dia_text.specs.TextOf.{AreAvps, HasNoText}
use Rattle.dia_text.specs.declared.writing.NotWritten.TheVariants.{Avps}
use Rattle.dia_report.specs.declared.refusing.Refused.{Refused}
use Rattle.dia_report.specs.declared.refusing.Refused.TheVariants.{Bad, NoMemory}
use Rattle.dia_report.specs.declared.bad_input.BadInput.{BadInput}
use Rattle.dia_report.specs.Refusals.{RecordsOf, bad_input_text, dictionary_line}
use Rattle.dia_run.specs.Listing.{bad_length_line}
use Rattle.dia_run.specs.Outcome.{ended, no_dictionary, no_message}
use Rattle.dia_run.specs.Texts.{line, IsDictionaryText, IsNoDictionaryText, IsMessageText, IsNoMessageText}
use Rattle.dia_make.specs.declared.reporting.Answered.{Answered}
use Rattle.dia_make.specs.declared.reporting.Report.TheVariants as reports
use Rattle.dia_make.specs.Outcome.{IsMakeOutcome, made}
use Rattle.dia_make.specs.Shown.{IsCutAt, IsTextShown, written, cut, bad_message, IsShowTextOutcome, Gives}

-- ---- where a message ends

-- the message's AVPs were read up to what is left
pub record IsReadTo (body rest : List ℕ) : Type 0 where
  pub front : List ℕ
  pub parts : body ≡ front ++ rest
  pub is_front : AreAvps front

pub read_none : (body : List ℕ) → IsReadTo body body
read_none body = record { front = []; parts = refl; is_front = ([], refl) }

avps_more : (vs : List PlainAvp) (v : PlainAvp) (a b : List ℕ) → SpellsAll vs a → Spells v b → SpellsAll (vs ++ (v ∷ [])) (a ++ b)
avps_more [] v a b none s = subst (λ (t : List ℕ). SpellsAll (v ∷ []) (t ++ b)) (sym none) (b, [], s, sym (append-nil b), refl)
avps_more (w ∷ vs) v a b (front, rest, t, parts, all) s =
    (front, rest ++ b, t, ap (λ (x : List ℕ). x ++ b) parts ∙ append_assoc front rest b, avps_more vs v rest b all s)

pub read_more : (body rest following : List ℕ) (v : PlainAvp) → IsReadTo body rest → BeginsWith v rest following → IsReadTo body following
read_more body rest following v r (front, s, parts) = record {
  front = r.front ++ front;
  parts = r.parts ∙ ap (λ (x : List ℕ). r.front ++ x) parts ∙ sym (append_assoc r.front front following);
  is_front = (r.is_front.0 ++ (v ∷ []), avps_more r.is_front.0 v r.front front r.is_front.1 s);
}

pub read_all : (message rest : List ℕ) → HasNoText Avps message → IsReadTo (drop 20 message) rest → length rest ≡ 0 → ⊥
read_all message [] no_text r none = no_text.1 (subst AreAvps (sym (r.parts ∙ append-nil r.front)) r.is_front)
read_all message (b ∷ rest) no_text r none = omega (arith, none)

-- ---- what is answered

pub gives_refused : (inputs : Inputs) (why : Refused) → RecordsOf (λ recorded. (w : List ℕ) × IsNoDictionaryText inputs.first w × (recorded ≡ dictionary_line 1 w)) why → Gives (IsShowTextOutcome inputs) (Err why)
gives_refused inputs (Bad bad) (w, none, is) = no_dictionary w none (ap line is, refl)
gives_refused inputs NoMemory h = tt

pub gives_no_message : (inputs : Inputs) (d : Dictionary) (why : Refused) → IsDictionaryText inputs.first d → RecordsOf (IsNoMessageText inputs.message) why → Gives (IsShowTextOutcome inputs) (Err why)
gives_no_message inputs d (Bad bad) is_d none = no_message d _ is_d none (refl, refl)
gives_no_message inputs d NoMemory is_d h = tt

pub gives_for : (inputs : Inputs) (d : Dictionary) (message : List ℕ) (r : Result Answered Refused) → IsDictionaryText inputs.first d → IsMessageText inputs.message message → Gives (IsTextShown d message) r
    → Gives (IsShowTextOutcome inputs) r
gives_for inputs d message (Ok a) is_d is_m h = ended d message is_d is_m h
gives_for inputs d message (Err (Bad bad)) is_d is_m h = ended d message is_d is_m h
gives_for inputs d message (Err NoMemory) is_d is_m h = tt

-- the line of what is refused
pub refused_ends : {E : Type 0} (P : List ℕ → Exit → Type 0) (why : BadInput) (r : Result Answered E) → P (line (bad_input_text why)) exits.Bad → IfOk r (λ a. string_bytes a.text ≡ line (bad_input_text why))
    → IfOk r (λ a. a.exit ≡ exits.Bad) → IfOk r (λ a. P (string_bytes a.text) a.exit)
refused_ends P why (Ok a) h text exit = subst (λ x. P (string_bytes a.text) x) (sym exit) (subst (λ (t : List ℕ). P t exits.Bad) (sym text) h)
refused_ends P why (Err e) h text exit = tt

-- a message that is cut
pub cut_ends : (d : Dictionary) (message : List ℕ) (a : Answered) → HasNoText Avps message → (place : ℕ) × IsCutAt message place × (string_bytes a.text ≡ bad_length_line place) × (a.report ≡ reports.Cut place) → a.exit ≡ exits.No
    → IsTextShown d message (string_bytes a.text) a.exit
cut_ends d message a no_text (place, is_cut, is, report) exit = cut place no_text.0 is_cut is exit

-- ---- the law of the way back

pub law : (shown given : Inputs) (text : List ℕ) → IsShowTextOutcome shown text exits.Yes → given.first ≡ shown.first → Holds given.message max_message_text text
    → (bytes : List ℕ) × IsMessageText shown.message bytes × IsMakeOutcome given (digits_line bytes) exits.Yes
law s given text (ended d bytes is_d is_m (written is_text makes ends)) same holds =
    (bytes, is_m, made d (subst (λ i. IsDictionaryText i d) (sym same) is_d) (text, holds, makes) refl)
law s given text (ended d bytes is_d is_m (cut place begins is_cut is_line ends)) same holds = absurd (let e : exits.Yes ≡ exits.No = ends in cc)
law s given text (ended d bytes is_d is_m (bad_message why none (is_line, ends))) same holds = absurd (let e : exits.Yes ≡ exits.Bad = ends in cc)
law s given text (no_dictionary why none (is_line, ends)) same holds = absurd (let e : exits.Yes ≡ exits.Bad = ends in cc)
law s given text (no_message d recorded is_d none (is_line, ends)) same holds = absurd (let e : exits.Yes ≡ exits.Bad = ends in cc)
