-- What follows the lines.
use Rattle.std.proofs.Common.{◌≡◌, ◌∙◌, ℕ, ◌+◌, ◌<◌, List, [], ◌∷◌, ◌++◌, ap, append_assoc, codes, get_or, length, map, sym, take}
use Rattle.std.specs.List.{flat_map}
use Rattle.std.proofs.lemmas.Grind.{flat_map-append}
use Rattle.std.proofs.lemmas.List.{append-nil, map-append, take_more}
use Rattle.dia_accepted.specs.Accepted.{PlainEntry, plain_entry}
use Rattle.dia_accepted.specs.declared.list.Entry.{Entry}
use Rattle.dia_run.specs.Texts.{line}
use Rattle.dia_upgrades.specs.declared.seen.First.{First}
use Rattle.dia_upgrades.specs.Rows.{Cause, FirstLine}
use Rattle.dia_upgrades.specs.UnderWay.{plain_first}

-- what is written of a cause more
pub causes_more : (f : Cause → List ℕ) (cause : FirstLine → Cause) (firsts : List First) (i : ℕ) (t : First) → i < length firsts → t ≡ get_or firsts i t → (old new : List ℕ)
    → old ≡ flat_map f (map cause (map plain_first (take i firsts))) → new ≡ old ++ f (cause (plain_first t)) → new ≡ flat_map f (map cause (map plain_first (take (i + 1) firsts)))
causes_more f cause firsts i t less is old new before added =
    let here = map plain_first (take i firsts) in
    let more : map cause (map plain_first (take (i + 1) firsts)) ≡ map cause here ++ cause (plain_first t) ∷ [] =
    ap (λ (fs : List First). map cause (map plain_first fs)) (take_more firsts i t less ∙ ap (λ (x : First). take i firsts ++ x ∷ []) (sym is))
    ∙ ap (map cause) (map-append plain_first (take i firsts) (t ∷ [])) ∙ map-append cause here (plain_first t ∷ []) in
    added ∙ ap (λ (o : List ℕ). o ++ f (cause (plain_first t))) before ∙ ap (λ (o : List ℕ). flat_map f (map cause here) ++ o) (sym (append-nil (f (cause (plain_first t)))))
    ∙ sym (flat_map-append f (map cause here) (cause (plain_first t) ∷ [])) ∙ ap (flat_map f) (sym more)

-- what is written of an entry more
pub stale_more : (f : PlainEntry → List ℕ) (entries : List Entry) (i : ℕ) (e : Entry) → i < length entries → e ≡ get_or entries i e → (before old new : List ℕ)
    → old ≡ before ++ flat_map f (map plain_entry (take i entries)) → new ≡ old ++ f (plain_entry e) → new ≡ before ++ flat_map f (map plain_entry (take (i + 1) entries))
stale_more f entries i e less is before old new written added =
    let here = map plain_entry (take i entries) in
    let more : map plain_entry (take (i + 1) entries) ≡ here ++ plain_entry e ∷ [] =
    ap (map plain_entry) (take_more entries i e less ∙ ap (λ (x : Entry). take i entries ++ x ∷ []) (sym is)) ∙ map-append plain_entry (take i entries) (e ∷ []) in
    added ∙ ap (λ (o : List ℕ). o ++ f (plain_entry e)) written ∙ append_assoc before (flat_map f here) (f (plain_entry e))
    ∙ ap (λ (o : List ℕ). before ++ (flat_map f here ++ o)) (sym (append-nil (f (plain_entry e))))
    ∙ ap (λ (o : List ℕ). before ++ o) (sym (flat_map-append f here (plain_entry e ∷ [])) ∙ ap (flat_map f) (sym more))

-- three texts that were added to nothing
pub three_added : (a b c : List ℕ) (nothing one two three : List ℕ) → nothing ≡ [] → one ≡ nothing ++ a → two ≡ one ++ b → three ≡ two ++ c → three ≡ a ++ (b ++ c)
three_added a b c nothing one two three none first second third =
    third ∙ ap (λ (t : List ℕ). t ++ c) (second ∙ ap (λ (t : List ℕ). t ++ b) (first ∙ ap (λ (t : List ℕ). t ++ a) none)) ∙ append_assoc a b c

-- one text that was added to nothing
pub one_added : (a nothing one : List ℕ) → nothing ≡ [] → one ≡ nothing ++ a → one ≡ a
one_added a nothing one none first = first ∙ ap (λ (t : List ℕ). t ++ a) none

-- a text, and another one after two spaces, each on a line
pub two_lines : (words digits : List ℕ) → words ++ (codes "\n  " ++ (digits ++ codes "\n")) ≡ line words ++ line (codes "  " ++ digits)
two_lines words digits = sym (append_assoc words (10 ∷ []) (line (codes "  " ++ digits)))
