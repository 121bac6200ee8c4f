-- Texts that are added one after the other.
use Rattle.std.proofs.Common.{◌≡◌, ℕ, List, [], ◌++◌, Option, Some, None, Result, refl, sym, ap, subst, ◌∙◌, append-nil, append_assoc}
use Rattle.std.specs.Prelude.{IfSome, OnOk, slice_get}
use Rattle.std.specs.Prelude.{String, string_bytes}
use Rattle.dia_wire.specs.declared.Key.{Key}
use Rattle.dia_terms.specs.declared.MRule.{MRule}
use Rattle.dia_data.specs.Plain.{PlainFormat}
use Rattle.dia_data.specs.Ranges.{IsSetOf}
use Rattle.dia_book.specs.Dictionary.{DictEntry}
use Rattle.dia_valid.proofs.Members.{at_some, when_some}
use Rattle.dia_diff_text.specs.Words.{AddsText, After, IsAvpWords, IsDeclaration, IsListOf, list_words}

pub adds_text : {Z : Type 0} (R : List ℕ → Type 0) (old new : String Z) (text : List ℕ) → R text → string_bytes new ≡ string_bytes old ++ text → AddsText old new R
adds_text R old new text r e = (text, e, r)

pub adds_nothing : {Z : Type 0} (R : List ℕ → Type 0) (old : String Z) → R [] → AddsText old old R
adds_nothing R old r = ([], sym (append-nil (string_bytes old)), r)

pub adds_after : {Z : Type 0} (front : List ℕ) (R : List ℕ → Type 0) (old mid new : String Z) → string_bytes mid ≡ string_bytes old ++ front → AddsText mid new R → AddsText old new (After front R)
adds_after front R old mid new e h =
    (front ++ h.0, h.1 ∙ ap (λ (text : List ℕ). text ++ h.0) e ∙ append_assoc (string_bytes old) front h.0, (h.0, h.2, refl))

pub list_there : {Z : Type 0} (o : Option (List (ℕ × ℕ))) (numbers : List (ℕ × ℕ)) (old new : String Z) → IsSetOf numbers o → string_bytes new ≡ string_bytes old ++ list_words numbers → AddsText old new (IsListOf o)
list_there None numbers old new set e = absurd set
list_there (Some ranges) numbers old new set e = (list_words numbers, e, (numbers, set, refl))

pub no_list : {Z : Type 0} (o : Option (List (ℕ × ℕ))) (old : String Z) → o ≡ None → AddsText old old (IsListOf o)
no_list o old none = adds_nothing (IsListOf o) old (let P : Option (List (ℕ × ℕ)) → Type 0 = λ p. IsListOf p [] in subst P (sym none) refl)

-- what holds of a field that was read
pub of_field : {X : Type 0} (field : DictEntry → X) (Q : X → Type 0) (xs : List DictEntry) (i : ℕ) (u : X) → IfSome (slice_get xs i) (λ e. u ≡ field e) → Q u → IfSome (slice_get xs i) (λ e. Q (field e))
of_field {X} field Q xs i u read q = when_some (λ (e : DictEntry). Q (field e)) (slice_get xs i) (λ e at. subst Q (at_some (λ (z : DictEntry). u ≡ field z) (slice_get xs i) e read at) q)

-- two texts
pub then_text : (old first second x y : List ℕ) → first ≡ old ++ x → second ≡ first ++ y → second ≡ old ++ (x ++ y)
then_text old first second x y e f = f ∙ ap (λ (text : List ℕ). text ++ y) e ∙ append_assoc old x y

-- a declaration by what was read of the entry
pub declared : {Z E U : Type 0} (xs : List DictEntry) (i : ℕ) (key : Key) (format : PlainFormat) (rule : MRule) (r : Result U E) (old new : String Z) → IfSome (slice_get xs i) (λ e. key ≡ e.key) → IfSome (slice_get xs i) (λ e. format ≡ e.format)
    → IfSome (slice_get xs i) (λ e. rule ≡ e.rule) → OnOk r (AddsText old new (IsDeclaration key format rule)) → IfSome (slice_get xs i) (λ e. OnOk r (AddsText old new (IsAvpWords None e)))
declared xs i key format rule r old new keys formats rules added = when_some (λ (e : DictEntry). OnOk r (AddsText old new (IsAvpWords None e))) (slice_get xs i) (λ e at.
    let k : key ≡ e.key = at_some (λ (z : DictEntry). key ≡ z.key) (slice_get xs i) e keys at in
    let f : format ≡ e.format = at_some (λ (z : DictEntry). format ≡ z.format) (slice_get xs i) e formats at in
    let m : rule ≡ e.rule = at_some (λ (z : DictEntry). rule ≡ z.rule) (slice_get xs i) e rules at in
    let P : Key → PlainFormat → MRule → Type 0 = λ x y z. OnOk r (AddsText old new (IsDeclaration x y z)) in
    subst (P e.key e.format) m (subst (λ (y : PlainFormat). P e.key y rule) f (subst (λ (x : Key). P x format rule) k added)))
