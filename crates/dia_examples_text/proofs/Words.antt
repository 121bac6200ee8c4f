-- The words of a verdict: its line without the line feed.
use Rattle.std.proofs.Common.{◌≡◌, ◌<◌, ◌+◌, ◌-◌, ℕ, List, [], ◌∷◌, ◌++◌, Some, Result, Ok, Err, codes, length, take, refl, sym, ap, subst, ◌∙◌, arith}
use Rattle.std.specs.Fmt.{decimal}
use Rattle.std.specs.Prelude.{slice_index}
use Rattle.std.proofs.lemmas.List.{length-append}
use Rattle.std.proofs.Math.Seq.{get_or-append_seam, take-append_seam}
use Rattle.dia_check.specs.declared.fault.Selected.{Selected}
use Rattle.dia_check.specs.declared.fault.Refusal.{Refusal}
use Rattle.dia_check.specs.declared.fault.Refusal.TheVariants as refusal
use Rattle.dia_check.specs.Reasons.{reason_word}
use Rattle.dia_dict.specs.Dictionary.{Dictionary}
use Rattle.dia_io.specs.declared.Exit.{Exit}
use Rattle.dia_run.specs.Texts.{line}
use Rattle.dia_run.specs.Verdict.{IsVerdict, subject_text}

verdict_is_line : (d : Dictionary) (answer : Result Selected Refusal) (text : List ℕ) (exit : Exit) → IsVerdict d answer text exit
    → (words : List ℕ) × (text ≡ line words)
verdict_is_line d (Ok s) text exit is = (codes "valid " ++ is.0.name, is.2)
verdict_is_line d (Err (refusal.Fault f)) text exit is =
    (codes "fault " ++ decimal f.code ++ codes " at " ++ decimal f.place ++ codes " " ++ reason_word f.reason ++ codes " " ++ subject_text d f.subject, is.0)
verdict_is_line d (Err refusal.Truncated) text exit is = (codes "truncated", is.0)
verdict_is_line d (Err refusal.Trailing) text exit is = (codes "trailing", is.0)
verdict_is_line d (Err refusal.NoMemory) text exit is = absurd is
verdict_is_line d (Err refusal.Spent) text exit is = absurd is

-- without its last byte a verdict is the words of its line
pub words_of_line : (d : Dictionary) (answer : Result Selected Refusal) (exit : Exit) (text short : List ℕ) (len : ℕ) → IsVerdict d answer text exit
    → len ≡ length text → (0 < len → slice_index text (len - 1) < 128 → short ≡ take (len - 1) text) → (e : Exit) × IsVerdict d answer (line short) e
words_of_line d answer exit text short len verdict long cut =
    let (words, is) = verdict_is_line d answer text exit verdict in
    let more : length text ≡ length words + 1 = ap (λ (t : List ℕ). length t) is ∙ length-append words (10 ∷ []) in
    let at : len - 1 ≡ length words = omega arith in
    let last : slice_index text (len - 1) ≡ 10 =
    ap (λ (t : List ℕ). slice_index t (len - 1)) is ∙ ap (λ (n : ℕ). slice_index (words ++ 10 ∷ []) n) at ∙ get_or-append_seam words 10 [] 0 in
    let same : short ≡ words =
    cut (omega arith) (omega arith) ∙ ap (λ (t : List ℕ). take (len - 1) t) is ∙ ap (λ (n : ℕ). take n (words ++ 10 ∷ [])) at ∙ take-append_seam words (10 ∷ []) in
    (exit, subst (λ (t : List ℕ). IsVerdict d answer t exit) (is ∙ ap line (sym same)) verdict)
