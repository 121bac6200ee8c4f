-- The texts of tables.
use Rattle.std.proofs.Common.{◌≡◌, ◌∙◌, ℕ, List, ◌++◌, Result, Ok, Err, append_assoc, ap, ap₂, refl, sym, codes}
use Rattle.std.specs.Prelude.{IfOk}
use Rattle.json.specs.Print.{quoted}
use Rattle.serde_json.proofs.OnLiterals.{serde_json_on_literals}
use Rattle.dia_refused_json.specs.Members.{json_line}
use Rattle.dia_json.specs.Whole.{no_command_members, pair_json}

pub IfOk-both : {A E : Type 0} (r : Result A E) (P Q R : A → Type 0) → ((x : A) → P x → Q x → R x) → IfOk r P → IfOk r Q → IfOk r R
IfOk-both (Ok x) P Q R f p q = f x p q
IfOk-both (Err e) P Q R f p q = tt

-- ---- pairs of a table

abbrev pair_text : List ℕ → List ℕ → List ℕ → List ℕ → List ℕ
pair_text word first second rest = codes "{\"kind\":" ++ (word ++ (codes ",\"first\":" ++ (first ++ (codes ",\"second\":" ++ (second ++ rest)))))

pair_is : (word : List ℕ) (p : List ℕ × List ℕ) → pair_json word p ≡ pair_text (quoted word) (quoted p.0) (quoted p.1) (codes "}") ++ codes "\n"
unfolding serde_json_on_literals
pair_is word p = refl

pair_ends : (word first second : List ℕ) → pair_text word first second (codes "}\n") ≡ pair_text word first second (codes "}") ++ codes "\n"
pair_ends word first second = simp append_assoc

pub pair_recorded : (word : List ℕ) (p : List ℕ × List ℕ) (w first second old new : List ℕ) → w ≡ quoted word → first ≡ quoted p.0 → second ≡ quoted p.1
    → new ≡ old ++ pair_text w first second (codes "}\n") → new ≡ old ++ pair_json word p
pair_recorded word p w first second old new is_word is_first is_second is =
    is ∙ ap (λ (t : List ℕ). old ++ t)
    (ap (λ (t : List ℕ). pair_text t first second (codes "}\n")) is_word ∙ ap₂ (λ (x y : List ℕ). pair_text (quoted word) x y (codes "}\n")) is_first is_second
    ∙ pair_ends (quoted word) (quoted p.0) (quoted p.1) ∙ sym (pair_is word p))

-- ---- a name that is no command's

no_command_is : (name : List ℕ) → json_line (no_command_members name) ≡ (codes "{\"error\":\"propose\",\"kind\":\"no command\",\"name\":" ++ (quoted name ++ codes "}")) ++ codes "\n"
unfolding serde_json_on_literals
no_command_is name = refl

no_command_ends : (name : List ℕ) → codes "{\"error\":\"propose\",\"kind\":\"no command\",\"name\":" ++ (name ++ codes "}\n")
    ≡ (codes "{\"error\":\"propose\",\"kind\":\"no command\",\"name\":" ++ (name ++ codes "}")) ++ codes "\n"
no_command_ends name = simp append_assoc

pub no_command_recorded : (name written text : List ℕ) → written ≡ quoted name → text ≡ codes "{\"error\":\"propose\",\"kind\":\"no command\",\"name\":" ++ (written ++ codes "}\n")
    → text ≡ json_line (no_command_members name)
no_command_recorded name written text is_name is =
    is ∙ ap (λ (t : List ℕ). codes "{\"error\":\"propose\",\"kind\":\"no command\",\"name\":" ++ (t ++ codes "}\n")) is_name ∙ no_command_ends (quoted name) ∙ sym (no_command_is name)
