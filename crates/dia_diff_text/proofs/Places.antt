-- What is written of the AVPs and commands at places.
use Rattle.std.proofs.Common.{◌≡◌, ℕ, ◌+◌, ◌<◌, ◌≤◌, Bool, true, false, cond, ltb, List, [], ◌++◌, length, Option, Some, None, Result, refl, sym, ap, subst}
use Rattle.std.specs.Prelude.{IfSome, MatchOption, OnOk, slice_get}
use Rattle.std.specs.Option.{option_map_or}
use Rattle.std.specs.Prelude.{String}
use Rattle.std.proofs.lemmas.Bool.{ltb-true, ltb-false}
use Rattle.std.proofs.lemmas.Option.{none-some, same_Some, slice_get_past}
use Rattle.std.proofs.lemmas.Result.{on_ok_weaker}
use Rattle.dia_book.specs.Dictionary.{Dictionary, DictEntry, PlainDefinition, definitions, groups}
use Rattle.dia_valid.proofs.Members.{at_some, there_is}
use Rattle.dia_valid.proofs.SelectedCommands.{command_at}
use Rattle.dia_differences.specs.declared.lines.AvpField.{AvpField}
use Rattle.dia_differences.specs.declared.lines.HeadField.{HeadField}
use Rattle.dia_diff_text.specs.Words.{AddsText, IsAvpWords, command_words}
use Rattle.dia_diff_text.specs.Parts.{IsAvpAt}
use Rattle.dia_diff_text.proofs.AddedTexts.{adds_nothing}

place_by : (i j n m : ℕ) (b : Bool) → ltb i n ≡ b → Some j ≡ cond b (Some m) None → (j ≡ m) × (i < n)
place_by i j n m true test e = (same_Some j m e, ltb-true i n test)
place_by i j n m false test e = absurd (none-some j (sym e))

pub place_is : (i j n m : ℕ) → Some j ≡ cond (ltb i n) (Some m) None → (j ≡ m) × (i < n)
place_is i j n m e = place_by i j n m (ltb i n) refl e

past_by : (i n m : ℕ) (b : Bool) → ltb i n ≡ b → None ≡ cond b (Some m) None → n ≤ i
past_by i n m true test e = absurd (none-some m e)
past_by i n m false test e = ltb-false i n test

pub place_past : (i n m : ℕ) → None ≡ cond (ltb i n) (Some m) None → n ≤ i
place_past i n m e = past_by i n m (ltb i n) refl e

pub entry_words : {Z E U : Type 0} (d : Dictionary) (i j : ℕ) (field : Option AvpField) (r : Result U E) (old new : String Z) → Some j ≡ cond (ltb i (length d.entries)) (Some i) None
    → IfSome (slice_get d.entries j) (λ e. OnOk r (AddsText old new (IsAvpWords field e))) → OnOk r (AddsText old new (IsAvpAt d i field))
entry_words d i j field r old new is added =
    let place = place_is i j (length d.entries) i is in
    let (e, at) = there_is d.entries i place.1 in
    let here = at_some (λ (x : DictEntry). OnOk r (AddsText old new (IsAvpWords field x))) (slice_get d.entries i) e
    (subst (λ (k : ℕ). IfSome (slice_get d.entries k) (λ (x : DictEntry). OnOk r (AddsText old new (IsAvpWords field x)))) place.0 added) at in
    on_ok_weaker r (λ h. (h.0, h.1, (let P : Option DictEntry → Type 0 = λ o. MatchOption o (h.0 ≡ []) (λ x. IsAvpWords field x h.0) in subst P (sym at) h.2))) here

pub no_entry_words : {Z : Type 0} (d : Dictionary) (i : ℕ) (field : Option AvpField) (old : String Z) → None ≡ cond (ltb i (length d.entries)) (Some i) None → AddsText old old (IsAvpAt d i field)
no_entry_words d i field old is =
    let none : List ℕ = [] in
    let P : Option DictEntry → Type 0 = λ o. MatchOption o (none ≡ []) (λ x. IsAvpWords field x none) in
    let empty : none ≡ [] = refl in
    adds_nothing (IsAvpAt d i field) old (subst P (sym (slice_get_past d.entries i (place_past i (length d.entries) i is))) empty)

pub definition_words : (d : Dictionary) (i n : ℕ) (field : Option HeadField) (x : PlainDefinition) (bytes : List ℕ) → Some n ≡ cond (ltb i (length d.commands)) (Some (length (groups d) + i)) None → slice_get (definitions d) n ≡ Some x
    → bytes ++ command_words field x ≡ bytes ++ option_map_or (command_words field) (slice_get d.commands i) []
definition_words d i n field x bytes is at =
    let place = place_is i n (length d.commands) (length (groups d) + i) is in
    sym (ap (λ (o : Option PlainDefinition). bytes ++ option_map_or (command_words field) o []) (command_at d i n x place.0 at))

pub no_definition_words : (d : Dictionary) (i : ℕ) (field : Option HeadField) → None ≡ cond (ltb i (length d.commands)) (Some (length (groups d) + i)) None
    → [] ≡ option_map_or (command_words field) (slice_get d.commands i) []
no_definition_words d i field is =
    sym (ap (λ (o : Option PlainDefinition). option_map_or (command_words field) o []) (slice_get_past d.commands i (place_past i (length d.commands) (length (groups d) + i) is)))
