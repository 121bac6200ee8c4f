-- The first finding reported of a dictionary, and its line.
use Rattle.std.proofs.Common.{◌≡◌, ℕ, ◌+◌, ◌<◌, ◌≤◌, List, [], ◌∷◌, ◌++◌, length, map, take, drop, Option, Some, None, slice_get, refl, sym, ap, subst, ◌∙◌, append_assoc, ⊎_elim, arith}
use Rattle.std.proofs.lemmas.Bool.{cases_order}
use Rattle.std.proofs.lemmas.List.{take-append-drop, take-take}
use Rattle.dia_ccf.specs.declared.fault.CcfFault.{CcfFault}
use Rattle.dia_ccf.specs.declared.fault.CcfFault.TheVariants as fault
use Rattle.dia_ccf.specs.declared.refused.Misfit.{Misfit}
use Rattle.dia_ccf.specs.Tokens.{Token, tokens}
use Rattle.dia_ccf.specs.Grammar.{Derives}
use Rattle.dia_ccf.specs.Faults.{CanBegin, IsFirstFault, IsFault, line_of}
use Rattle.dia_ccf.specs.Plain.{plain_source}
use Rattle.dia_ccf.specs.Refusals.{IsMisfit}
use Rattle.dia_dict.specs.declared.findings.Finding.{Finding}
use Rattle.dia_dict.specs.declared.findings.Part.{Part}
use Rattle.dia_dict.specs.Resolution.{PlainFinding, wrong, all_findings}
use Rattle.dia_dict.specs.SourceChecks.{plain_finding}
use Rattle.dia_report.specs.declared.wrong_source.WrongSource.{WrongSource}
use Rattle.std.specs.Prelude.{IfSome, codes, string_bytes}
use Rattle.dia_explain_places.specs.Notes.{Gains}
use Rattle.dia_explain_places.proofs.Notes.{gains_more}
use Rattle.dia_explain_places.specs.Parts.{part_place}
use Rattle.dia_explain_places.specs.Places.{line_at, place_text, start_text, excerpt}
use Rattle.dia_explain_inputs.specs.Beginnings.{recorded_line, note_text, BeginsWith, LineBegins, MisfitBegins, RecordsFirst}

-- ---- the line of a text that the grammar refuses

CanBegin-front : (xs ys : List Token) → CanBegin (xs ++ ys) → CanBegin xs
CanBegin-front xs ys (rest, source, derived) = (ys ++ rest, source, subst (λ ts. Derives ts source) (append_assoc xs ys rest) derived)

CanBegin-take : (m n : ℕ) (ts : List Token) → m ≤ n → CanBegin (take n ts) → CanBegin (take m ts)
CanBegin-take m n ts below can =
    subst CanBegin (take-take m n ts below) (CanBegin-front (take m (take n ts)) (drop m (take n ts)) (subst CanBegin (sym (take-append-drop m (take n ts))) can))

not_before : (ts : List Token) (k j : ℕ) → IsFirstFault ts k → IsFirstFault ts j → k < j → ⊥
not_before ts k j a b below = a.here (let w = b.within in omega arith) (CanBegin-take (k + 1) j ts (omega arith) b.before)

one_place : (ts : List Token) (k j : ℕ) → IsFirstFault ts k → IsFirstFault ts j → k ≡ j
one_place ts k j a b = ⊎_elim (λ same. same) (⊎_elim (λ below. absurd (not_before ts k j a b below)) (λ above. absurd (not_before ts j k b a above))) (cases_order k j)

-- the reported line is that of the first fault
line_of_fault : (text : List ℕ) (f : CcfFault) (n k : ℕ) → IsFault text f → recorded_line f ≡ Some n → IsFirstFault (tokens text) k → line_of text k ≡ n
line_of_fault text (fault.Syntax t l) n k (j, token, line, first, number, limit) recorded here =
    let same : l ≡ n = cc in ap (line_of text) (one_place (tokens text) k j here first) ∙ sym line ∙ same
line_of_fault text (fault.Number l) n k (j, line, first, number) recorded here =
    let same : l ≡ n = cc in ap (line_of text) (one_place (tokens text) k j here first) ∙ sym line ∙ same
line_of_fault text (fault.Limit l) n k (j, line, first, limit) recorded here =
    let same : l ≡ n = cc in ap (line_of text) (one_place (tokens text) k j here first) ∙ sym line ∙ same
line_of_fault text fault.NoMemory n k is recorded here = absurd cc

pub misfit_line : (text : List ℕ) (m : Misfit) (n : ℕ) → IsMisfit text m → recorded_line m.fault ≡ Some n → line_at text m.at ≡ n
misfit_line text m n is recorded = ap (line_at text) is.place ∙ line_of_fault text m.fault n is.token is.recorded recorded is.first

-- ---- what a diagnostic gains

gains_none : (old new : Option (List ℕ)) (text : List ℕ) → new ≡ None → Gains old new text
gains_none None new text none = none
gains_none (Some before) new text none = subst (λ (o : Option (List ℕ)). IfSome o (λ now. now ≡ before ++ text)) (sym none) tt

-- ---- how a diagnostic begins

-- where an allocation failed, it begins as any text does
begins_none : (front : List ℕ) (old new : Option (List ℕ)) → new ≡ None → BeginsWith front old new
begins_none front old new none = record { rest = []; added = gains_none old new (front ++ []) none }

-- with more after it, it begins as before
pub begins_more : (front more : List ℕ) (old mid new : Option (List ℕ)) → BeginsWith front old mid → Gains mid new more → BeginsWith front old new
begins_more front more old mid new begins then = record {
  rest = begins.rest ++ more;
  added = subst (λ (xs : List ℕ). Gains old new xs) (append_assoc front begins.rest more) (gains_more old mid new (front ++ begins.rest) more begins.added then);
}

-- a diagnostic about a place begins with it
pub begins_note : (name text recorded : List ℕ) (at : ℕ) (old new : Option (List ℕ)) → Gains old new (note_text name text at recorded) → BeginsWith (place_text name text at) old new
begins_note name text recorded at old new gains = record {
  rest = (recorded ++ codes "\n") ++ excerpt text at;
  added = subst (λ (xs : List ℕ). Gains old new xs) (simp append_assoc) gains;
}

-- and one about a word of a table's line on that line
pub line_begins : (name text : List ℕ) (n at : ℕ) (old new : Option (List ℕ)) → ((k : ℕ) → k ≤ length text → line_at text k ≡ n → line_at text at ≡ n)
    → BeginsWith (place_text name text at) old new → LineBegins name text n old new
line_begins name text n at old new there begins k within here = record { at = at; on_line = there k within here; begins = begins }

-- and one about a text that the grammar refuses on the reported line
pub misfit_begins : (name text : List ℕ) (m : Misfit) (old new : Option (List ℕ)) → BeginsWith (place_text name text m.at) old new → MisfitBegins name text m old new
misfit_begins name text m old new begins n is recorded = record { at = m.at; on_line = misfit_line text m n is recorded; begins = begins }

-- ---- the first finding

-- where an allocation failed, its diagnostic begins as any text does
first_none : (all : List PlainFinding) (front : Option Part → List ℕ) (old new : Option (List ℕ)) → new ≡ None → IfSome (slice_get all 0) (λ g. BeginsWith (front g.part) old new)
first_none [] front old new none = tt
first_none (g ∷ gs) front old new none = begins_none (front g.part) old new none

first_recorded : (findings : List Finding) (front : Option Part → List ℕ) (old new : Option (List ℕ)) → IfSome (slice_get findings 0) (λ f. BeginsWith (front f.part) old new)
    → IfSome (slice_get (map plain_finding findings) 0) (λ g. BeginsWith (front g.part) old new)
first_recorded [] front old new begins = tt
first_recorded (f ∷ fs) front old new begins = begins

records_first : (name text : List ℕ) (w : WrongSource) (all : List PlainFinding) (old new : Option (List ℕ)) → all ≡ all_findings (plain_source w.source.value)
    → slice_get (map (λ (g : PlainFinding). g.wrong) all) 0 ≡ Some (wrong w.kind (string_bytes w.name) (string_bytes w.slot))
    → IfSome (slice_get all 0) (λ g. BeginsWith (start_text name text (part_place text w.source.value g.part)) old new) → RecordsFirst name text w old new
records_first name text w [] old new are recorded begins = absurd cc
records_first name text w (g ∷ gs) old new are recorded begins = record { finding = g; first = ap (λ xs. slice_get xs 0) (sym are); same = cc; begins = begins }

-- the first of a source's findings is reported
pub records_found : (name text : List ℕ) (w : WrongSource) (findings : List Finding) (old new : Option (List ℕ)) → map plain_finding findings ≡ all_findings (plain_source w.source.value)
    → IfSome (slice_get findings 0) (λ f. BeginsWith (start_text name text (part_place text w.source.value f.part)) old new) → RecordsFirst name text w old new
records_found name text w findings old new are begins =
    records_first name text w (map plain_finding findings) old new are (ap (λ xs. slice_get (map (λ (g : PlainFinding). g.wrong) xs) 0) are ∙ w.first)
    (first_recorded findings (λ part. start_text name text (part_place text w.source.value part)) old new begins)

pub records_none : (name text : List ℕ) (w : WrongSource) (old new : Option (List ℕ)) → new ≡ None → RecordsFirst name text w old new
records_none name text w old new none =
    records_first name text w (all_findings (plain_source w.source.value)) old new refl w.first
    (first_none (all_findings (plain_source w.source.value)) (λ part. start_text name text (part_place text w.source.value part)) old new none)
