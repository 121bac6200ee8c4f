-- How a parse walks words that are values of one argument.
use Rattle.std.proofs.Common.{◌≡◌, ◌∙◌, ◌≤◌, ℕ, Bool, true, false, List, [], ◌∷◌, ◌++◌, Some, length, refl, sym, ap, ap₂, arith, ◌==◌}
use Rattle.std.specs.Prelude.{fold, nat_lt, if◌then◌else◌}
use Rattle.std.specs.List.{list_all}
use Rattle.std.proofs.lemmas.Bool.{eqb-true, ltb-true}
use Rattle.std.proofs.lemmas.List.{append-nil, append_assoc}
use Rattle.clap.specs.Lexer.{usize_max}
use Rattle.clap.specs.Walk.{Held, Rule, Step, Text, Walk, after_step, arg_by_index, positional, to_positional, value, walked, word_met}
use Rattle.clap.specs.Simple.{Shape}
use Rattle.clap.specs.Faults.{step_fault, walk_fault, word_fault}
use Rattle.clap.specs.Kinds.{Kinds, or_else, range_kinds, values_kinds}
use Rattle.clap.specs.declared.builder.value_parser.ValueParser.TheVariants as vp
use Rattle.clap.specs.declared.error.kind.ErrorKind.TheVariants.{InvalidValue, TooFewValues, TooManyValues}
use Rattle.clap.proofs.WalkLemmas.{both}
use Rattle.dia_cli.specs.Slots.{is_plain}
use Rattle.dia_cli.proofs.Forms.Walked.{IsNoOption, Walks, no_option, walk_at}

-- where words go on to be values of the argument with this id
abbrev pub many_at : Held → Text → List Text → ℕ → Walk
many_at h id ws n = record (walk_at (record h { pending = Some (id, ws) }) n) { waiting = positional }

met_more : (word : Text) (c : List Rule) (h : Held) (n : ℕ) → IsNoOption word → word_met c [] false positional n word h ≡ (h, value)
met_more word c h n plain = rw (plain.dashes, plain.long, plain.short) refl

no_more_fault : (word : Text) (s : Shape) (h : Held) → IsNoOption word → word_fault s [] false positional word h ≡ []
no_more_fault word s h plain = rw (plain.dashes, plain.long, plain.short) refl

-- one more word is one more value, without a fault
pub record Collects (s : Shape) (h : Held) (id : Text) (n : ℕ) : Type 0 where
  pub takes : (ws : List Text) (w : Text) → to_positional s.rules (arg_by_index s.rules n) w (many_at h id ws n) (record h { pending = Some (id, ws) }) ≡ many_at h id (ws ++ w ∷ []) n
  pub fine : (ws : List Text) → step_fault s n (record h { pending = Some (id, ws) }) value ≡ []

pub walks_names : (s : Shape) (h : Held) (id : Text) (n : ℕ) (ws more : List Text) → Collects s h id n → list_all is_plain more ≡ true
    → Walks s (many_at h id ws n) more (many_at h id (ws ++ more) n)
unfolding walk_fault walked
walks_names s h id n ws [] collects plain = record { ends = ap (λ (xs : List Text). many_at h id xs n) (sym (append-nil ws)); fine = refl }
walks_names s h id n ws (word ∷ rest) collects plain =
    let parts = both (is_plain word) (list_all is_plain rest) plain in
    let word_is = no_option word parts.0 in
    let here = record h { pending = Some (id, ws) } in
    let one = ap (λ (m : Held × Step). after_step s.rules word (many_at h id ws n) m.0 m.1) (met_more word s.rules here n word_is) ∙ collects.takes ws word in
    let turn = ap₂ (λ (f : Kinds) (m : Held × Step). or_else f (step_fault s n m.0 m.1)) (no_more_fault word s here word_is) (met_more word s.rules here n word_is) ∙ collects.fine ws in
    let more = walks_names s h id n (ws ++ word ∷ []) rest collects parts.1 in record {
      ends = ap (λ (w : Walk). fold (walked s.rules []) w rest) one ∙ more.ends ∙ ap (λ (xs : List Text). many_at h id xs n) (append_assoc ws (word ∷ []) rest);
      fine = ap₂ (λ (f : Kinds) (w : Walk). or_else f (walk_fault s [] w rest)) turn one ∙ more.fine;
    }

-- any text passes
pub texts_pass : (ws : List Text) → values_kinds false vp.String ws ≡ []
texts_pass [] = refl
texts_pass (w ∷ ws) = texts_pass ws

-- one value or more, but no more than the most
pub some_pass : (name : Text) (names : List Text) → nat_lt (length names) usize_max ≡ true → range_kinds 1 usize_max (length (name ∷ names)) ≡ []
some_pass name names few = let less = ltb-true _ _ few in go (length (name ∷ names)) (omega arith) (omega arith)
  where
    not_less : (a b : ℕ) → b ≤ a → (t : Bool) → nat_lt a b ≡ t → nat_lt a b ≡ false
    not_less a b le true t = let less = ltb-true _ _ t in absurd (omega arith)
    not_less a b le false t = t

    not_none : (n : ℕ) → 1 ≤ n → (t : Bool) → (n == 0) ≡ t → (n == 0) ≡ false
    not_none n some true t = let none = eqb-true _ _ t in absurd (omega arith)
    not_none n some false t = t

    kinds_by : Bool → Bool → Bool → Kinds
    kinds_by none few many = if none then InvalidValue ∷ [] else (if few then TooFewValues ∷ [] else (if many then TooManyValues ∷ [] else []))

    go : (n : ℕ) → 1 ≤ n → n ≤ usize_max → range_kinds 1 usize_max n ≡ []
    go n some most = λ i. kinds_by (not_none n some _ refl i) (not_less n 1 some _ refl i) (not_less usize_max n most _ refl i)
