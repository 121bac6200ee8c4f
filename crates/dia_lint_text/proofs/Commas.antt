-- The words of a list with commas between them, one after the other.
use Rattle.std.proofs.Common.{◌≡◌, ℕ, suc, ◌+◌, ◌<◌, ◌≤◌, Option, Some, None, Bool, true, false, cond, List, [], ◌∷◌, ◌++◌, length, take, drop, refl, sym, ap, ◌∙◌, append_assoc, arith}
use Rattle.std.specs.Prelude.{◌==◌, if◌then◌else◌, nat_lt, not}
use Rattle.std.specs.List.{after_first, before_first, position_or_len}
use Rattle.std.proofs.lemmas.List.{append-nil, length-drop}
use Rattle.std.proofs.lemmas.Option.{none-some, same_Some}
use Rattle.dia_lint_text.specs.Asking.{words_from, words_of}
use Rattle.dia_lint_text.specs.Lists.{split_at}

abbrev pub is_comma : ℕ → Bool
is_comma c = c == 44

pub words_cut : (word s : List ℕ) → position_or_len is_comma s < length s → words_from word s ≡ (word ++ before_first is_comma s) ∷ words_from [] (after_first is_comma s)
words_cut word [] within = absurd (omega (arith, within))
words_cut word (c ∷ cs) within = by (c == 44) within (words_cut (word ++ c ∷ []) cs)
  where
    by : (b : Bool) → cond (not b) (1 + position_or_len is_comma cs) 0 < length (c ∷ cs)
        → (position_or_len is_comma cs < length cs → words_from (word ++ c ∷ []) cs ≡ ((word ++ c ∷ []) ++ before_first is_comma cs) ∷ words_from [] (after_first is_comma cs))
        → (if b then word ∷ words_from [] cs else words_from (word ++ c ∷ []) cs)
        ≡ (word ++ take (cond (not b) (1 + position_or_len is_comma cs) 0) (c ∷ cs)) ∷ words_from [] (drop (cond (not b) (1 + position_or_len is_comma cs) 0 + 1) (c ∷ cs))
    by true w ih = ap (λ (x : List ℕ). x ∷ words_from [] cs) (sym (append-nil word))
    by false w ih =
        let front : c ∷ before_first is_comma cs ≡ take (1 + position_or_len is_comma cs) (c ∷ cs)
        = ap (λ n. take n (c ∷ cs)) (let e : suc (position_or_len is_comma cs) ≡ 1 + position_or_len is_comma cs = omega arith in e) in
        let back : after_first is_comma cs ≡ drop (1 + position_or_len is_comma cs + 1) (c ∷ cs)
        = ap (λ n. drop n (c ∷ cs)) (let e : suc (position_or_len is_comma cs + 1) ≡ 1 + position_or_len is_comma cs + 1 = omega arith in e) in
        ih (omega (arith, w)) ∙ ap (λ (x : List ℕ). x ∷ words_from [] (after_first is_comma cs)) (append_assoc word (c ∷ []) (before_first is_comma cs))
        ∙ ap (λ (x : List ℕ). (word ++ x) ∷ words_from [] (after_first is_comma cs)) front ∙ ap (λ (x : List ℕ). (word ++ take (1 + position_or_len is_comma cs) (c ∷ cs)) ∷ words_from [] x) back

pub words_whole : (word s : List ℕ) → position_or_len is_comma s ≡ length s → words_from word s ≡ (word ++ s) ∷ []
words_whole word [] whole = ap (λ (x : List ℕ). x ∷ []) (sym (append-nil word))
words_whole word (c ∷ cs) whole = by (c == 44) whole (words_whole (word ++ c ∷ []) cs)
  where
    by : (b : Bool) → cond (not b) (1 + position_or_len is_comma cs) 0 ≡ length (c ∷ cs)
        → (position_or_len is_comma cs ≡ length cs → words_from (word ++ c ∷ []) cs ≡ ((word ++ c ∷ []) ++ cs) ∷ [])
        → (if b then word ∷ words_from [] cs else words_from (word ++ c ∷ []) cs) ≡ (word ++ c ∷ cs) ∷ []
    by true w ih = absurd (omega (arith, w))
    by false w ih = ih (omega (arith, w)) ∙ ap (λ (x : List ℕ). x ∷ []) (append_assoc word (c ∷ []) cs)

-- a list that is cut, and one that isn't
pub when_cut : (list word rest : List ℕ) → ◌≡◌ {A = Option (List ℕ × List ℕ)} (Some (word, rest)) (split_at 44 list) → (words_from [] list ≡ word ∷ words_from [] rest) × (length rest < length list)
when_cut list word rest e = by (nat_lt (position_or_len is_comma list) (length list)) refl e
  where
    by : (b : Bool) → nat_lt (position_or_len is_comma list) (length list) ≡ b
        → ◌≡◌ {A = Option (List ℕ × List ℕ)} (Some (word, rest)) (if b then Some (before_first is_comma list, after_first is_comma list) else None) → (words_from [] list ≡ word ∷ words_from [] rest) × (length rest < length list)
    by true t e =
        let within : position_or_len is_comma list < length list = grind (arith, t) in
        let same : ◌≡◌ {A = List ℕ × List ℕ} (before_first is_comma list, after_first is_comma list) (word, rest) = same_Some _ _ (sym e) in
        let short = length-drop (position_or_len is_comma list + 1) list in
        let is_rest : length (after_first is_comma list) ≡ length rest = ap (λ (p : List ℕ × List ℕ). length p.1) same in
        (words_cut [] list within ∙ ap (λ (p : List ℕ × List ℕ). p.0 ∷ words_from [] p.1) same, omega (arith, within, short, is_rest))
    by false t e = absurd (none-some _ (sym e))

pub when_whole : (list : List ℕ) → ◌≡◌ {A = Option (List ℕ × List ℕ)} None (split_at 44 list) → words_from [] list ≡ list ∷ []
when_whole list e = by (nat_lt (position_or_len is_comma list) (length list)) refl e
  where
    few : (s : List ℕ) → position_or_len is_comma s ≤ length s
    few [] = omega arith
    few (c ∷ cs) = one (not (is_comma c)) (few cs)
      where
        one : (b : Bool) → position_or_len is_comma cs ≤ length cs → cond b (1 + position_or_len is_comma cs) 0 ≤ length (c ∷ cs)
        one true h = omega (arith, h)
        one false h = omega arith

    by : (b : Bool) → nat_lt (position_or_len is_comma list) (length list) ≡ b
        → ◌≡◌ {A = Option (List ℕ × List ℕ)} None (if b then Some (before_first is_comma list, after_first is_comma list) else None) → words_from [] list ≡ list ∷ []
    by true t e = absurd (none-some _ e)
    by false t e = words_whole [] list (let h = few list in let n : length list ≤ position_or_len is_comma list = grind (arith, t) in omega (arith, h, n))

-- the words so far, and those that are left
pub pushed_cut : (old : List (List ℕ)) (list word following : List ℕ) (rest : Option (List ℕ)) → rest ≡ Some list
    → ◌≡◌ {A = Option (List ℕ × List ℕ)} (Some (word, following)) (split_at 44 list) → (old ++ word ∷ []) ++ words_from [] following ≡ old ++ words_of rest
pushed_cut old list word following rest is cut =
    append_assoc old (word ∷ []) (words_from [] following) ∙ ap (λ ws. old ++ ws) (sym ((when_cut list word following cut).0) ∙ sym (ap words_of is))

pub pushed_whole : (old : List (List ℕ)) (list : List ℕ) (rest : Option (List ℕ)) → rest ≡ Some list → ◌≡◌ {A = Option (List ℕ × List ℕ)} None (split_at 44 list)
    → (old ++ list ∷ []) ++ [] ≡ old ++ words_of rest
pushed_whole old list rest is whole = append-nil (old ++ list ∷ []) ∙ ap (λ ws. old ++ ws) (sym (when_whole list whole) ∙ sym (ap words_of is))
