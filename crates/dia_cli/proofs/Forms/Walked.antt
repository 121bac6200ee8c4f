-- How a parse walks words that are no options, and finds no fault in them.
use Rattle.std.proofs.Common.{◌≡◌, ◌∙◌, ℕ, Bool, true, false, List, [], ◌∷◌, ◌++◌, Option, Some, None, refl, sym, subst, ap, ap₂, codes, not, ◌==◌}
use Rattle.std.specs.Prelude.{find, fold, is_some, option_map, if◌then◌else◌}
use Rattle.std.specs.Option.{option_map_or}
use Rattle.std.specs.Str.{bytes_eq}
use Rattle.std.proofs.lemmas.Slice.Eq.{bytes_eq-Decides}
use Rattle.clap.specs.Lexer.{long_of, short_of, strip_byte}
use Rattle.std.proofs.lemmas.List.{append-nil, append_assoc}
use Rattle.clap.specs.Walk.{Held, Names, Row, Rule, Step, Text, Walk, option, plain_word, arg_by_index, after_step, answers_to}
use Rattle.clap.specs.Walk.{stop_after, idle, nothing_held, finished, settled, to_positional, value, walk, walk_from, walked, word_met}
use Rattle.clap.specs.Simple.{App, Shape, built, entered, label_of, names_of, rows_at, built_leaf, inherited, subcommand_of}
use Rattle.clap.specs.Faults.{built_fault, check_fault, defaults_fault, entered_fault, settle_fault, fault_of, level_fault, step_fault, turn_fault, walk_fault, word_fault}
use Rattle.clap.specs.Kinds.{Kinds, or_else}
use Rattle.dia_cli.specs.Slots.{is_plain}

abbrev pub walk_at : Held → ℕ → Walk
walk_at h n = record { held = h; waiting = idle; position = n; is_trailing = false; stopped = None }

abbrev pub placed : List Rule → ℕ → Text → Held → Walk
placed c n word h = to_positional c (arg_by_index c n) word (walk_at h n) h

-- a word that is no option
pub record IsNoOption (word : Text) : Type 0 where
  pub long : long_of word ≡ None
  pub short : short_of word ≡ None
  pub dashes : bytes_eq word (45 ∷ 45 ∷ []) ≡ false

met : (word : Text) (c : List Rule) (h : Held) (n : ℕ) → IsNoOption word → word_met c [] false idle n word h ≡ (h, value)
met word c h n plain = rw (plain.dashes, plain.long, plain.short) refl

no_word_fault : (word : Text) (s : Shape) (h : Held) → IsNoOption word → word_fault s [] false idle word h ≡ []
no_word_fault word s h plain = rw (plain.dashes, plain.long, plain.short) refl

walked_plain : (word : Text) (c : List Rule) (h : Held) (n : ℕ) → IsNoOption word → walked c [] (walk_at h n) word ≡ placed c n word h
unfolding walked
walked_plain word c h n plain = ap (λ (m : Held × Step). after_step c word (walk_at h n) m.0 m.1) (met word c h n plain)

turn_plain : (word : Text) (s : Shape) (h : Held) (n : ℕ) → IsNoOption word → turn_fault s [] (walk_at h n) word ≡ step_fault s n h value
turn_plain word s h n plain =
    ap₂ (λ (f : Kinds) (m : Held × Step). or_else f (step_fault s n m.0 m.1)) (no_word_fault word s h plain) (met word s.rules h n plain)

nothing_first : (a b : Kinds) → or_else a b ≡ [] → (a ≡ []) × (b ≡ [])
nothing_first [] b e = (refl, e)
nothing_first (k ∷ ks) b e = absurd cc

-- where a value of an option is awaited
abbrev pub awaits_at : Held → Text → ℕ → Walk
awaits_at h id n = record (walk_at h n) { waiting = option id }

met_value : (word id : Text) (c : List Rule) (h : Held) (n : ℕ) → IsNoOption word → word_met c [] false (option id) n word h ≡ plain_word c (option id) word h
met_value word id c h n plain = rw (plain.dashes, plain.long, plain.short) refl

no_value_fault : (word id : Text) (s : Shape) (h : Held) → IsNoOption word → word_fault s [] false (option id) word h ≡ []
no_value_fault word id s h plain = rw (plain.dashes, plain.long, plain.short) refl

-- how words are walked, from a place on: where the walk is then, without a fault
pub record Walks (s : Shape) (from : Walk) (words : List Text) (to : Walk) : Type 0 where
  pub ends : fold (walked s.rules []) from words ≡ to
  pub fine : walk_fault s [] from words ≡ []

-- the word goes to the argument of its place
pub walks_one : (s : Shape) (h : Held) (n : ℕ) (word : Text) → IsNoOption word → step_fault s n h value ≡ []
    → Walks s (walk_at h n) (word ∷ []) (placed s.rules n word h)
unfolding walk_fault
walks_one s h n word plain fine = record {
  ends = walked_plain word s.rules h n plain;
  fine = ap (λ (f : Kinds). or_else f []) (turn_plain word s h n plain ∙ fine);
}

-- the word is the value that is awaited
pub walks_value : (s : Shape) (h : Held) (id : Text) (n : ℕ) (word : Text) (to : Walk) → IsNoOption word
    → after_step s.rules word (awaits_at h id n) (plain_word s.rules (option id) word h).0 (plain_word s.rules (option id) word h).1 ≡ to
    → step_fault s n (plain_word s.rules (option id) word h).0 (plain_word s.rules (option id) word h).1 ≡ []
    → Walks s (awaits_at h id n) (word ∷ []) to
unfolding walk_fault walked
walks_value s h id n word to plain at fine = record {
  ends = ap (λ (m : Held × Step). after_step s.rules word (awaits_at h id n) m.0 m.1) (met_value word id s.rules h n plain) ∙ at;
  fine = ap (λ (f : Kinds). or_else f []) (ap₂ (λ (f : Kinds) (m : Held × Step). or_else f (step_fault s n m.0 m.1)) (no_value_fault word id s h plain) (met_value word id s.rules h n plain) ∙ fine);
}

-- one walk after another
pub walks_on : (s : Shape) (from by to : Walk) (words more : List Text) → Walks s from words by → Walks s by more to → Walks s from (words ++ more) to
unfolding walk_fault
walks_on s from by to [] more first second = record {
  ends = ap (λ (w : Walk). fold (walked s.rules []) w more) first.ends ∙ second.ends;
  fine = ap (λ (w : Walk). walk_fault s [] w more) first.ends ∙ second.fine;
}
walks_on s from by to (word ∷ rest) more first second =
    let parts = nothing_first (turn_fault s [] from word) (walk_fault s [] (walked s.rules [] from word) rest) first.fine in
    let on = walks_on s (walked s.rules [] from word) by to rest more (record { ends = first.ends; fine = parts.1 }) second in record {
      ends = on.ends;
      fine = ap (λ (f : Kinds). or_else f (walk_fault s [] (walked s.rules [] from word) (rest ++ more))) parts.0 ∙ on.fine;
    }

-- the line of a subcommand as a parse reads it
abbrev pub leaf_of : App → Shape → Shape
leaf_of line s = built_leaf (inherited line.top s)

-- what a level asks once its words are walked
abbrev pub rest_fault : Shape → Held → Bool → Kinds
rest_fault s end has_subcommand =
    or_else (settle_fault s.rules s.args_override_self end) (or_else (defaults_fault (settled s.rules end).rows s.rules)
    (check_fault s (finished s.rules end) has_subcommand))

-- a level whose words have plain fault, and end here
pub leaf_level : (s : Shape) (words : List Text) (w : Walk) → walk s.rules [] nothing_held words ≡ w → walk_fault s [] (walk_from nothing_held) words ≡ []
    → rest_fault s w.held false ≡ [] → level_fault s [] nothing_held words false [] ≡ []
leaf_level s words w walked_is no_fault rest =
    ap₂ (λ (f : Kinds) (v : Walk). or_else f (rest_fault s v.held false)) no_fault walked_is ∙ rest

-- a name was met, after which no word is read
met_then : (c : List Rule) (names : Names) (w : Walk) (name : Text) (before words : List Text)
    → fold (walked c names) (record w { stopped = Some (name, before) }) words ≡ record w { stopped = Some (name, before ++ words) }
unfolding walked
met_then c names w name before [] = ap (λ (ws : List Text). record w { stopped = Some (name, ws) }) (sym (append-nil before))
met_then c names w name before (word ∷ rest) =
    met_then c names w name (before ++ word ∷ []) rest ∙ ap (λ (ws : List Text). record w { stopped = Some (name, ws) }) (append_assoc before (word ∷ []) rest)

fine_then : (s : Shape) (names : Names) (w : Walk) (name : Text) (before words : List Text) → walk_fault s names (record w { stopped = Some (name, before) }) words ≡ []
unfolding walk_fault walked
fine_then s names w name before [] = refl
fine_then s names w name before (word ∷ rest) = fine_then s names w name (before ++ word ∷ []) rest

-- a built line, at a word that names a subcommand of it
pub record Names_at (a : App) (name : Text) (s : Shape) : Type 0 where
  pub stops : walked a.top.rules (names_of a) (walk_from nothing_held) name ≡ record (walk_from nothing_held) { stopped = Some (name, []) }
  pub fine : turn_fault a.top (names_of a) (walk_from nothing_held) name ≡ []
  pub finds : find (λ s. answers_to name (label_of s)) a.subs ≡ Some s
  pub rest : rest_fault a.top nothing_held true ≡ []

module _ (a : App) (name : Text) (s : Shape) (words : List Text) (at : Names_at a name s) where
  walks : walk a.top.rules (names_of a) nothing_held (name ∷ words) ≡ record (walk_from nothing_held) { stopped = Some (name, words) }
  walks = ap (λ (w : Walk). fold (walked a.top.rules (names_of a)) w words) at.stops ∙ met_then a.top.rules (names_of a) (walk_from nothing_held) name [] words

  no_fault : walk_fault a.top (names_of a) (walk_from nothing_held) (name ∷ words) ≡ []
  unfolding walk_fault
  no_fault = ap₂ (λ (f : Kinds) (w : Walk). or_else f (walk_fault a.top (names_of a) w words)) at.fine at.stops
      ∙ fine_then a.top (names_of a) (walk_from nothing_held) name [] words

  found : entered a (Some (name, words)) ≡ Some (rows_at s words)
  found = ap (option_map (λ s. rows_at s words)) at.finds

  -- what the parse finds is what it finds in the words after the name
  pub line_finds : entered a (stop_after a.top.rules (names_of a) (name ∷ words)) ≡ Some (rows_at s words)
  line_finds = ap (λ (w : Walk). entered a w.stopped) walks ∙ found

  -- and it has no fault where these have none
  pub line_fault : level_fault s [] nothing_held words false [] ≡ [] → built_fault a nothing_held (name ∷ words) ≡ []
  line_fault leaf =
      let below : entered_fault a (Some (name, words)) ≡ [] = ap (λ (o : Option Shape). option_map_or (λ s. level_fault s [] nothing_held words false []) o []) at.finds ∙ leaf in
      ap₂ (λ (f : Kinds) (w : Walk). or_else f (or_else (entered_fault a w.stopped) (rest_fault a.top w.held (is_some (entered a w.stopped))))) no_fault walks
      ∙ ap₂ (λ (has : Bool) (k : Kinds). or_else k (rest_fault a.top nothing_held has)) (ap (λ (o : Option (Text × List Row)). is_some o) found) below
      ∙ at.rest

-- words after the name of a subcommand that are walked to an end without a fault
pub record Ends (s : Shape) (words : List Text) (to : Walk) : Type 0 where
  pub walks : Walks s (walk_from nothing_held) words to
  pub rest : rest_fault s to.held false ≡ []

pub leaf_fault : (s : Shape) (words : List Text) (to : Walk) → Ends s words to → level_fault s [] nothing_held words false [] ≡ []
leaf_fault s words to e = leaf_level s words to e.walks.ends e.walks.fine e.rest

pub leaf_rows : (s : Shape) (words : List Text) (to : Walk) → Ends s words to → rows_at s words ≡ (s.name, finished s.rules to.held)
leaf_rows s words to e = ap (λ (w : Walk). (s.name, finished s.rules w.held)) e.walks.ends

-- what a parse of the program's line makes of such words
pub record IsTaken (line : App) (program name : Text) (words : List Text) (rows : List Row) : Type 0 where
  pub fine : fault_of line (program ∷ name ∷ words) ≡ []
  pub finds : subcommand_of line (program ∷ name ∷ words) ≡ Some (name, rows)

pub taken : (line : App) (program name : Text) (words : List Text) (s : Shape) (to : Walk) → line.top.no_binary_name ≡ false → s.name ≡ name
    → Names_at (built line) name s → Ends s words to → IsTaken line program name words (finished s.rules to.held)
taken line program name words s to skips named at e = record {
  fine = ap (λ (b : Bool). built_fault (built line) nothing_held (if b then program ∷ name ∷ words else name ∷ words)) skips
      ∙ line_fault (built line) name s words at (leaf_fault s words to e);
  finds = ap (λ (b : Bool). entered (built line) (stop_after (built line).top.rules (names_of (built line)) (if b then program ∷ name ∷ words else name ∷ words))) skips
      ∙ line_finds (built line) name s words at ∙ ap (λ (r : Text × List Row). Some r) (leaf_rows s words to e)
      ∙ ap (λ (n : Text). Some (n, finished s.rules to.held)) named;
}

-- the word is the argument's, and those before it are used
abbrev pub given : List Rule → Held → Text → Text → Held
given c h id word = record (settled c h) { pending = Some (id, word ∷ []) }

-- the value of an option that waits for it
pub walks_option : (s : Shape) (h : Held) (name id word : Text) → IsNoOption word
    → Walks s (walk_at h 1) (name ∷ []) (awaits_at (record (settled s.rules h) { pending = Some (id, []) }) id 1)
    → after_step s.rules word (awaits_at (record (settled s.rules h) { pending = Some (id, []) }) id 1)
    (plain_word s.rules (option id) word (record (settled s.rules h) { pending = Some (id, []) })).0
    (plain_word s.rules (option id) word (record (settled s.rules h) { pending = Some (id, []) })).1 ≡ walk_at (given s.rules h id word) 1
    → step_fault s 1 (plain_word s.rules (option id) word (record (settled s.rules h) { pending = Some (id, []) })).0
    (plain_word s.rules (option id) word (record (settled s.rules h) { pending = Some (id, []) })).1 ≡ []
    → Walks s (walk_at h 1) (name ∷ word ∷ []) (walk_at (given s.rules h id word) 1)
walks_option s h name id word plain named at fine =
    walks_on s (walk_at h 1) (awaits_at (record (settled s.rules h) { pending = Some (id, []) }) id 1) (walk_at (given s.rules h id word) 1) (name ∷ []) (word ∷ [])
    named (walks_value s (record (settled s.rules h) { pending = Some (id, []) }) id 1 word (walk_at (given s.rules h id word) 1) plain at fine)

-- a word that doesn't begin with `-` is no option, and neither is `-`
pub no_option : (word : Text) → is_plain word ≡ true → IsNoOption word
no_option word e = go (bytes_eq word (codes "-")) refl
  where
    begins : (w : Text) → not (is_some (strip_byte 45 w)) ≡ true → IsNoOption w
    begins [] e = record { long = refl; short = refl; dashes = refl }
    begins (x ∷ xs) e = other (x == 45) refl
      where
        other : (t : Bool) → (x == 45) ≡ t → IsNoOption (x ∷ xs)
        other true t = let bad : false ≡ true = rw t at e in absurd cc
        other false t = record {
          long = rw t refl;
          short = rw t refl;
          dashes = rw t refl;
        }

    go : (t : Bool) → bytes_eq word (codes "-") ≡ t → IsNoOption word
    go true t = subst IsNoOption (sym ((bytes_eq-Decides word (codes "-")).0 t)) (record { long = refl; short = refl; dashes = refl })
    go false t = begins word (rw t at e)
