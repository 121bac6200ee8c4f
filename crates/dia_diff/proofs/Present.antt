-- What the first lines are about.
use Rattle.std.proofs.Common.{◌≡◌, ℕ, ◌+◌, ◌<◌, Bool, false, List, [], ◌∷◌, ◌++◌, length, take, get_or, sym, ap, ◌∙◌}
use Rattle.std.specs.Prelude.{◌||◌}
use Rattle.std.specs.List.{flat_map, list_any}
use Rattle.std.proofs.lemmas.List.{append-nil, map-append, take_more}
use Rattle.std.proofs.lemmas.List.Concat.{flat_map-append}
use Rattle.std.proofs.lemmas.List.Folds.{list_any-append}
use Rattle.dia_differences.specs.declared.lines.Line.{Line}
use Rattle.dia_differences.specs.declared.lines.What.{What}
use Rattle.dia_diff.specs.declared.subjects.Subject.{Subject}
use Rattle.dia_diff.specs.Marks.{has, is_there, whats}
use Rattle.dia_diff.specs.Subjects.{same_subject, subjects}

pub there_next : (lines : List Line) (i : ℕ) (d : Line) (list : List Subject) (q : Subject) (old new : Bool) → i < length lines → list ≡ subjects (get_or lines i d).what → new ≡ (old || has list q) → old ≡ is_there (whats (take i lines)) q
    → new ≡ is_there (whats (take (i + 1) lines)) q
there_next lines i d list q old new within is step before =
    let w = (get_or lines i d).what in
    let ws = whats (take i lines) in
    step ∙ ap (λ (b : Bool). b || has list q) before ∙ ap (λ (ls : List Subject). is_there ws q || has ls q) is ∙ sym (list_any-append (λ (k : Subject). same_subject k q) (flat_map subjects ws) (subjects w))
    ∙ ap (λ (ls : List Subject). has (flat_map subjects ws ++ ls) q) (sym (append-nil (subjects w))) ∙ ap (λ (ls : List Subject). has ls q) (sym (flat_map-append subjects ws (w ∷ [])))
    ∙ ap (λ (vs : List What). is_there vs q) (sym (map-append (λ (l : Line). l.what) (take i lines) (get_or lines i d ∷ []))) ∙ ap (λ (ls : List Line). is_there (whats ls) q) (sym (take_more lines i d within))

pub nothing_there : (keys : List Subject) (q : Subject) → keys ≡ [] → list_any (same_subject q) keys ≡ false
nothing_there keys q none = ap (list_any (same_subject q)) none
