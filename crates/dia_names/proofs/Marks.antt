-- The marks of the first AVPs, one by one.
use Rattle.std.proofs.Common.{◌≡◌, ℕ, ◌+◌, ◌<◌, List, [], ◌∷◌, ◌++◌, Option, Some, String, length, map, take, get_or, sym, ap, ◌∙◌}
use Rattle.std.specs.Prelude.{IfSome, slice_get, string_bytes}
use Rattle.std.specs.Global.{Global}
use Rattle.std.specs.Option.{option_map}
use Rattle.std.proofs.lemmas.List.{map-append, take_more}
use Rattle.std.proofs.lemmas.Option.{same_Some, slice_get-get_or}
use Rattle.dia_book.specs.Dictionary.{DictEntry, Dictionary}
use Rattle.dia_valid.proofs.Members.{at_some, there_is}
use Rattle.dia_names.specs.Names.{mark}

abbrev pub texts_of : List (Option (String Global)) → List (Option (List ℕ))
texts_of marks = map (option_map string_bytes) marks

pub marks_more : (da : Dictionary) (xs : List DictEntry) (n : ℕ) → n < length xs → (old new : List (Option (String Global))) (made : Option (String Global)) → new ≡ old ++ made ∷ []
    → IfSome (slice_get xs n) (λ e. option_map string_bytes made ≡ mark da e) → texts_of old ≡ map (mark da) (take n xs) → texts_of new ≡ map (mark da) (take (n + 1) xs)
marks_more da xs n within old new made pushed is before =
    let (x, at) = there_is xs n within in
    let here : get_or xs n x ≡ x = same_Some (get_or xs n x) x (sym (slice_get-get_or xs n x within) ∙ at) in
    let own = at_some (λ (e : DictEntry). option_map string_bytes made ≡ mark da e) (slice_get xs n) x is at in
    ap texts_of pushed ∙ map-append (option_map string_bytes) old (made ∷ []) ∙ (λ i. before i ++ own i ∷ [])
    ∙ sym (ap (map (mark da)) (take_more xs n x within ∙ ap (λ (e : DictEntry). take n xs ++ e ∷ []) here) ∙ map-append (mark da) (take n xs) (x ∷ []))
