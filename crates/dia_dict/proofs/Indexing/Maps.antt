-- Maps that get the members of a list one by one, where a key keeps its first value.
use Rattle.std.proofs.Common.{◌≡◌, ℕ, ◌+◌, ◌<◌, Bool, true, false, cond, List, length, take, get_or, position, Option, Some, None, refl, sym, ap, ◌∙◌, arith, unwrap_or}
use Rattle.std.specs.Option.{option_map, option_or}
use Rattle.std.proofs.lemmas.List.{take_more, length-take-le}
use Rattle.dia_dict.proofs.Indexing.Places.{position-push}

pub option_map-or : {X Y : Type 0} (f : X → Y) (a b : Option X) → option_map f (option_or a b) ≡ option_or (option_map f a) (option_map f b)
option_map-or f None b = refl
option_map-or f (Some x) b = refl

option_map-cond : {X Y : Type 0} (f : X → Y) (b : Bool) (x : X) → option_map f (cond b (Some x) None) ≡ cond b (Some (f x)) None
option_map-cond f true x = refl
option_map-cond f false x = refl

option_or-none : {X : Type 0} (o : Option X) → option_or o None ≡ o
option_or-none None = refl
option_or-none (Some x) = refl

Some-unwrap_or : {X : Type 0} (o : Option X) (x : X) → Some (unwrap_or o x) ≡ option_or o (Some x)
Some-unwrap_or None x = refl
Some-unwrap_or (Some y) x = refl

module _ {X K V : Type 0} (eq : K → K → Bool) (has : K → X → Bool) (value : ℕ → V) (xs : List X) where
  -- what the first n members give a key
  abbrev pub given : ℕ → K → Option V
  given n key = option_map value (position (has key) (take n xs))

  module _ (i : ℕ) (x : X) (within : i < length xs) where
    given-more : (key : K) → given (i + 1) key ≡ option_or (given i key) (cond (has key (get_or xs i x)) (Some (value i)) None)
    given-more key =
        let here = has key (get_or xs i x) in
        ap (λ (ys : List X). option_map value (position (has key) ys)) (take_more xs i x within)
        ∙ ap (option_map value) (position-push (has key) (take i xs) (get_or xs i x))
        ∙ option_map-or value (position (has key) (take i xs)) (cond here (Some (length (take i xs))) None)
        ∙ ap (option_or (given i key)) (option_map-cond value here (length (take i xs)) ∙ ap (λ (k : ℕ). cond here (Some (value k)) None) (length-take-le i xs (omega arith)))

    -- the next member gives its key a value, unless the key has one
    pub given-kept : (own : K) (before after : K → Option V) → ((key : K) → has key (get_or xs i x) ≡ eq own key) → ((key : K) → eq own key ≡ true → own ≡ key)
        → ((key : K) → before key ≡ given i key) → ((key : K) → after key ≡ cond (eq own key) (Some (unwrap_or (before own) (value i))) (before key))
        → (key : K) → after key ≡ given (i + 1) key
    given-kept own before after owns same h step key =
        step key ∙ by (eq own key) refl
        ∙ ap (λ (b : Bool). option_or (before key) (cond b (Some (value i)) None)) (sym (owns key))
        ∙ ap (λ (o : Option V). option_or o (cond (has key (get_or xs i x)) (Some (value i)) None)) (h key) ∙ sym (given-more key)
      where
        by : (b : Bool) → eq own key ≡ b → cond b (Some (unwrap_or (before own) (value i))) (before key) ≡ option_or (before key) (cond b (Some (value i)) None)
        by true e = ap (λ (k : K). Some (unwrap_or (before k) (value i))) (same key e) ∙ Some-unwrap_or (before key) (value i)
        by false e = sym (option_or-none (before key))

    -- a member without a key gives none
    pub given-none : (key : K) → has key (get_or xs i x) ≡ false → given i key ≡ given (i + 1) key
    given-none key none =
        sym (option_or-none (given i key)) ∙ ap (λ (b : Bool). option_or (given i key) (cond b (Some (value i)) None)) (sym none)
        ∙ sym (given-more key)
