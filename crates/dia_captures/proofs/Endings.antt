-- How many messages ended.
use Rattle.std.proofs.Common.{◌≡◌, ◌&&◌, ◌||◌, List, [], ◌∷◌, ◌++◌, map, refl, sym, ap, ◌∙◌}
use Rattle.std.specs.List.{list_all, list_any}
use Rattle.std.proofs.lemmas.List.{map-append}
use Rattle.std.proofs.lemmas.List.Folds.{list_all-append, list_any-append}
use Rattle.dia_io.specs.declared.Exit.{Exit}
use Rattle.dia_io.specs.declared.Exit.TheVariants.{Yes, No, Bad}
use Rattle.dia_captures.specs.declared.ended.Ended.{Ended}
use Rattle.dia_captures.specs.Ending.{ended_of, ended_with, is_yes}

one_all : (exit : Exit) → list_all is_yes (exit ∷ []) ≡ is_yes exit
one_all Yes = refl
one_all No = refl
one_all Bad = refl

one_any : (exit : Exit) → list_any is_yes (exit ∷ []) ≡ is_yes exit
one_any Yes = refl
one_any No = refl
one_any Bad = refl

ended_one_more : (exits : List Exit) (exit : Exit) → ended_with (ended_of exits) exit ≡ ended_of (exits ++ exit ∷ [])
ended_one_more exits exit =
    let each = list_all-append is_yes exits (exit ∷ []) ∙ ap (λ b. list_all is_yes exits && b) (one_all exit) in
    let some = list_any-append is_yes exits (exit ∷ []) ∙ ap (λ b. list_any is_yes exits || b) (one_any exit) in
    ap (λ b. record { each = b; some = list_any is_yes exits || is_yes exit }) (sym each)
    ∙ ap (λ b. record { each = list_all is_yes (exits ++ exit ∷ []); some = b }) (sym some)

-- one more verdict
pub ended_one_verdict_more : {V : Type 0} (exit_of : V → Exit) (old new : Ended) (before : List V) (verdict : V) → old ≡ ended_of (map exit_of before)
    → new ≡ ended_with old (exit_of verdict) → new ≡ ended_of (map exit_of (before ++ verdict ∷ []))
ended_one_verdict_more exit_of old new before verdict h is = is ∙ ap (λ (e : Ended). ended_with e (exit_of verdict)) h
    ∙ ended_one_more (map exit_of before) (exit_of verdict) ∙ ap ended_of (sym (map-append exit_of before (verdict ∷ [])))
