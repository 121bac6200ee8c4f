-- One rule further in a list of lines, or of the AVPs that rules have more.
use Rattle.std.proofs.Common.{◌≡◌, ℕ, ◌+◌, ◌<◌, ◌≤◌, List, [], ◌∷◌, ◌++◌, length, take, drop, get_or, Option, Some, None, sym, ap, ◌∙◌, append_assoc}
use Rattle.std.specs.Prelude.{filter_map, flat_map, Result, Ok, Err, IfOk, Vec}
use Rattle.std.proofs.lemmas.Option.{slice_get-get_or}
use Rattle.std.proofs.lemmas.List.{append-nil, drop_more, flat_map_more, take_all, take_more}
use Rattle.std.proofs.lemmas.List.Elements.{filter_map-append}
use Rattle.std.specs.List.{cons_option}
use Rattle.dia_book.specs.declared.DRule.{DRule}
use Rattle.dia_valid.proofs.Members.{taken}
use Rattle.dia_breaking_levels.specs.declared.cut.Cut.{Cut}
use Rattle.dia_breaking_levels.specs.declared.line.Line.{Line}
use Rattle.dia_breaking_levels.specs.declared.line.Reason.{Reason}
use Rattle.dia_breaking_levels.specs.declared.line.Reason.TheVariants.{Missing, TooMany, NotAllowed, NotAllowedOther, MissingOthers, TooManyOthers}
use Rattle.dia_breaking_levels.specs.Chosen.{Reads, cut_after, extra_of, extras_of}

one_further : {X Y : Type 0} (h : X → Option Y) (xs : List X) (i : ℕ) (d : X) → i < length xs → filter_map h (take (i + 1) xs) ≡ filter_map h (take i xs) ++ filter_map h (get_or xs i d ∷ [])
one_further h xs i d within = ap (filter_map h) (taken xs i (get_or xs i d) (slice_get-get_or xs i d within)) ∙ filter_map-append h (take i xs) (get_or xs i d ∷ [])

pub lines_more : {X Y : Type 0} (h : X → Option Y) (start out next : List Y) (xs : List X) (i : ℕ) (d : X) (found : Option Y) (y : Y) → i < length xs → found ≡ h (get_or xs i d) → found ≡ Some y
    → next ≡ out ++ y ∷ [] → out ≡ start ++ filter_map h (take i xs) → next ≡ start ++ filter_map h (take (i + 1) xs)
lines_more {X} {Y} h start out next xs i d found y within of is put so_far =
    put ∙ ap (λ (ys : List Y). ys ++ y ∷ []) so_far ∙ append_assoc start (filter_map h (take i xs)) (y ∷ [])
    ∙ ap (λ (o : Option Y). start ++ (filter_map h (take i xs) ++ cons_option o [])) (sym is ∙ of) ∙ ap (λ (ys : List Y). start ++ ys) (sym (one_further h xs i d within))

pub lines_same : {X Y : Type 0} (h : X → Option Y) (start out : List Y) (xs : List X) (i : ℕ) (d : X) (found : Option Y) → i < length xs → found ≡ h (get_or xs i d) → found ≡ None
    → out ≡ start ++ filter_map h (take i xs) → out ≡ start ++ filter_map h (take (i + 1) xs)
lines_same {X} {Y} h start out xs i d found within of is so_far =
    so_far ∙ ap (λ (ys : List Y). start ++ ys) (sym (append-nil (filter_map h (take i xs)))
    ∙ ap (λ (o : Option Y). filter_map h (take i xs) ++ cons_option o []) (sym is ∙ of) ∙ sym (one_further h xs i d within))

pub lines_all : {X Y : Type 0} (h : X → Option Y) (start out : List Y) (xs : List X) (i : ℕ) → length xs ≤ i → out ≡ start ++ filter_map h (take i xs) → out ≡ start ++ filter_map h xs
lines_all {X} {Y} h start out xs i end so_far = so_far ∙ ap (λ (ts : List X). start ++ filter_map h ts) (take_all i xs end)

-- the cut continues after each rule
pub extras_more : (r : Reads) (wanted : ℕ) (cut next : Cut) (rules : List DRule) (i : ℕ) (d : DRule) (n : ℕ) (old new all : List ℕ) → i < length rules → n ≡ extra_of r wanted cut (get_or rules i d)
    → next ≡ cut_after r wanted cut (get_or rules i d) → new ≡ old ++ n ∷ [] → old ++ extras_of r wanted cut (drop i rules) ≡ all → new ++ extras_of r wanted next (drop (i + 1) rules) ≡ all
extras_more r wanted cut next rules i d n old new all within extra following is before =
    let rest = drop (i + 1) rules in
    ap (λ (ns : List ℕ). ns ++ extras_of r wanted next rest) is ∙ append_assoc old (n ∷ []) (extras_of r wanted next rest)
    ∙ ap (λ (k : ℕ). old ++ k ∷ extras_of r wanted next rest) extra ∙ ap (λ (c : Cut). old ++ extra_of r wanted cut (get_or rules i d) ∷ extras_of r wanted c rest) following
    ∙ ap (λ (rs : List DRule). old ++ extras_of r wanted cut rs) (sym (drop_more rules i d within)) ∙ before

-- what each rule adds, one rule further
pub steps_more : {X Y : Type 0} (f : X → List Y) (old new : List Y) (xs : List X) (i : ℕ) (d : X) → i < length xs → old ≡ flat_map f (take i xs) → new ≡ old ++ f (get_or xs i d)
    → new ≡ flat_map f (take (i + 1) xs)
steps_more {X} {Y} f old new xs i d within before is =
    is ∙ ap (λ (ys : List Y). ys ++ f (get_or xs i d)) before ∙ flat_map_more f [] (take i xs) (get_or xs i d) ∙ ap (flat_map f) (sym (take_more xs i d within))

pub steps_all : {X Y : Type 0} (f : X → List Y) (all : List Y) (xs : List X) (i : ℕ) → length xs ≤ i → all ≡ flat_map f (take i xs) → all ≡ flat_map f xs
steps_all {X} {Y} f all xs i end is = is ∙ ap (flat_map f) (take_all i xs end)

-- the lines of each reason, one list after the other
module _ (line : Reason → DRule → Option Line) (a b own_a own_b : List DRule) where
  six_lists : (none one two three four five six : List Line) → own_a ≡ a → own_b ≡ b → none ≡ [] → one ≡ none ++ filter_map (line Missing) own_b → two ≡ one ++ filter_map (line TooMany) own_b
      → three ≡ two ++ filter_map (line NotAllowed) own_a → four ≡ three ++ filter_map (line NotAllowedOther) own_a → five ≡ four ++ filter_map (line MissingOthers) own_b
      → six ≡ five ++ filter_map (line TooManyOthers) own_b
      → six ≡ filter_map (line Missing) b ++ filter_map (line TooMany) b ++ filter_map (line NotAllowed) a ++ filter_map (line NotAllowedOther) a ++ filter_map (line MissingOthers) b
      ++ filter_map (line TooManyOthers) b
  six_lists none one two three four five six is_a is_b at_none at_one at_two at_three at_four at_five at_six =
      let more = λ (reason : Reason) (rules own : List DRule) (before all new : List Line) (is : own ≡ rules) (at : before ≡ all) (e : new ≡ before ++ filter_map (line reason) own).
      e ∙ ap (λ (r : List Line). r ++ filter_map (line reason) own) at ∙ ap (λ (rs : List DRule). all ++ filter_map (line reason) rs) is in
      more TooManyOthers b own_b five _ six is_b
      (more MissingOthers b own_b four _ five is_b
      (more NotAllowedOther a own_a three _ four is_a (more NotAllowed a own_a two _ three is_a
      (more TooMany b own_b one _ two is_b (more Missing b own_b none [] one is_b at_none at_one) at_two) at_three) at_four)
      at_five) at_six

  pub each_reason : {Z E : Type 0} (none one two three four five : List Line) (r : Result (Vec Line Z) E) → own_a ≡ a → own_b ≡ b → none ≡ [] → one ≡ none ++ filter_map (line Missing) own_b
      → two ≡ one ++ filter_map (line TooMany) own_b → three ≡ two ++ filter_map (line NotAllowed) own_a → four ≡ three ++ filter_map (line NotAllowedOther) own_a
      → five ≡ four ++ filter_map (line MissingOthers) own_b → IfOk r (λ all. all.items ≡ five ++ filter_map (line TooManyOthers) own_b)
      → IfOk r (λ all. all.items ≡ filter_map (line Missing) b ++ filter_map (line TooMany) b ++ filter_map (line NotAllowed) a ++ filter_map (line NotAllowedOther) a
      ++ filter_map (line MissingOthers) b ++ filter_map (line TooManyOthers) b)
  each_reason none one two three four five (Ok all) is_a is_b at_none at_one at_two at_three at_four at_five at_six =
      six_lists none one two three four five all.items is_a is_b at_none at_one at_two at_three at_four at_five at_six
  each_reason none one two three four five (Err e) is_a is_b at_none at_one at_two at_three at_four at_five at_six = tt
