-- Lines at the front of a text are at the front of all of its lines.
use Rattle.std.proofs.Common.{◌≡◌, ◌≢◌, ℕ, List, [], ◌∷◌, ◌++◌, refl, sym, ap, subst, ◌∙◌, append_assoc, inl, inr}
use Rattle.std.specs.Prelude.{⊤, ◌⊎◌}
use Rattle.std.proofs.lemmas.List.{append-nil}
use Rattle.std.proofs.lemmas.List.Elements.{All-head, All-tail}
use Rattle.dia_io.specs.declared.Input.{Input}
use Rattle.dia_streams.specs.Lines.{AreAnswered, none, one_more, IsAnswered, IsLine, LineHasOneAnswer, line_feed}
use Rattle.dia_streams.proofs.OneAnswer.{text_once}

-- the last byte, if there is one, is a line feed
abbrev Ends : List ℕ → Type 0
Ends [] = ⊤
Ends (x ∷ []) = x ≡ line_feed
Ends (x ∷ y ∷ ys) = Ends (y ∷ ys)

Ends-line : (xs : List ℕ) → Ends (xs ++ line_feed ∷ [])
Ends-line [] = refl
Ends-line (x ∷ []) = refl
Ends-line (x ∷ y ∷ ys) = Ends-line (y ∷ ys)

Ends-tail : (x : ℕ) (xs : List ℕ) → Ends (x ∷ xs) → Ends xs
Ends-tail x [] e = tt
Ends-tail x (y ∷ ys) e = e

-- what ends in a line feed within a line is the whole line
whole_line : (x : ℕ) (front rest line : List ℕ) → Ends (x ∷ front) → IsLine line → (x ∷ front) ++ rest ≡ line ++ line_feed ∷ [] → x ∷ front ≡ line ++ line_feed ∷ []
whole_line x [] rest [] e h same = ap (λ z. z ∷ []) e
whole_line x [] rest (b ∷ line) e h same =
    let head : x ≡ b = cc in
    absurd (All-head (λ c. c ≢ line_feed) b line h (sym head ∙ e))
whole_line x (y ∷ front) rest [] e h same = absurd cc
whole_line x (y ∷ front) rest (b ∷ line) e h same =
    let head : x ≡ b = cc in
    let tail : (y ∷ front) ++ rest ≡ line ++ line_feed ∷ [] = cc in
    ap (λ z. z ∷ y ∷ front) head ∙ ap (λ (l : List ℕ). b ∷ l) (whole_line y front rest line e (All-tail (λ c. c ≢ line_feed) b line h) tail)

-- whole lines at the front are all of the lines, or don't reach the last one
front_or_all : (front rest before line : List ℕ) → Ends front → IsLine line → front ++ rest ≡ before ++ (line ++ line_feed ∷ [])
    → (front ≡ before ++ (line ++ line_feed ∷ [])) ⊎ ((more : List ℕ) × (before ≡ front ++ more))
front_or_all [] rest before line e h same = inr (before, refl)
front_or_all (x ∷ front) rest [] line e h same = inl (whole_line x front rest line e h same)
front_or_all (x ∷ front) rest (b ∷ before) line e h same =
    let head : x ≡ b = cc in
    let tail : front ++ rest ≡ before ++ (line ++ line_feed ∷ []) = cc in
    elim (front_or_all front rest before line (Ends-tail x front e) h tail) [
      | inl all ↦ inl (ap (λ z. z ∷ front) head ∙ ap (λ (l : List ℕ). b ∷ l) all)
      | inr part ↦ inr (part.0, ap (λ (l : List ℕ). b ∷ l) part.1 ∙ ap (λ z. z ∷ (front ++ part.0)) (sym head))
    ]

-- of two fronts of one text one is a front of the other
pub two_fronts : (a b x y : List ℕ) → a ++ x ≡ b ++ y → ((more : List ℕ) × (b ≡ a ++ more)) ⊎ ((more : List ℕ) × (a ≡ b ++ more))
two_fronts [] b x y same = inl (b, refl)
two_fronts (m ∷ a) [] x y same = inr (m ∷ a, refl)
two_fronts (m ∷ a) (n ∷ b) x y same =
    let head : m ≡ n = cc in
    let tail : a ++ x ≡ b ++ y = cc in
    elim (two_fronts a b x y tail) [
      | inl h ↦ inl (h.0, ap (λ (l : List ℕ). n ∷ l) h.1 ∙ ap (λ z. z ∷ (a ++ h.0)) (sym head))
      | inr h ↦ inr (h.0, ap (λ z. z ∷ a) head ∙ ap (λ (l : List ℕ). n ∷ l) h.1)
    ]

nothing_in_front : (front rest : List ℕ) → [] ≡ front ++ rest → front ≡ []
nothing_in_front [] rest same = refl
nothing_in_front (x ∷ front) rest same = absurd cc

module _ {V : Type 0} (P : Input → V → Type 0) (once : LineHasOneAnswer P) where
  Ends-answered : (lines : List ℕ) (verdicts : List V) → AreAnswered P lines verdicts → Ends lines
  Ends-answered _ _ none = tt
  Ends-answered _ _ (one_more before verdicts_before bytes input verdict h line is says lines verdicts) =
      subst Ends (sym (lines ∙ sym (append_assoc before bytes (line_feed ∷ [])))) (Ends-line (before ++ bytes))

  lines_once : (lines : List ℕ) (verdicts others : List V) → AreAnswered P lines verdicts → AreAnswered P lines others → verdicts ≡ others
  lines_once lines verdicts others h k = text_once P once lines verdicts others (inl h) (inl k)

  -- the verdicts on whole lines at the front are a prefix of all
  pub lines_front : (lines : List ℕ) (all : List V) → AreAnswered P lines all
      → (front rest : List ℕ) (verdicts : List V) → AreAnswered P front verdicts → lines ≡ front ++ rest → (more : List V) × (all ≡ verdicts ++ more)
  lines_front _ _ none front rest verdicts k parts =
      let no_verdicts = lines_once [] verdicts [] (subst (λ (l : List ℕ). AreAnswered P l verdicts) (nothing_in_front front rest parts) k) none in
      ([], sym no_verdicts ∙ sym (append-nil verdicts))
  lines_front lines all (one_more before verdicts_before bytes input verdict h line is says parts ends) front rest verdicts k cut =
      elim (front_or_all front rest before bytes (Ends-answered front verdicts k) line (sym cut ∙ parts)) [
        | inl same ↦ (
          [],
          lines_once lines all verdicts
              (one_more before verdicts_before bytes input verdict h line is says parts ends)
              (subst (λ (l : List ℕ). AreAnswered P l verdicts) (same ∙ sym parts) k) ∙ sym (append-nil verdicts),
        )
        | inr part ↦ (
          (lines_front before verdicts_before h front part.0 verdicts k part.1).0 ++ verdict ∷ [],
          ends ∙ ap (λ (t : List V). t ++ verdict ∷ []) (lines_front before verdicts_before h front part.0 verdicts k part.1).1
              ∙ append_assoc verdicts (lines_front before verdicts_before h front part.0 verdicts k part.1).0 (verdict ∷ []),
        )
      ]

  pub front_of_all : (front rest : List ℕ) (verdicts all : List V) → AreAnswered P front verdicts → IsAnswered P (front ++ rest) all → (more : List V) × (all ≡ verdicts ++ more)
  front_of_all front rest verdicts all k (inl h) = lines_front (front ++ rest) all h front rest verdicts k refl
  front_of_all front rest verdicts all k (inr h) =
      lines_front ((front ++ rest) ++ line_feed ∷ []) all h.1 front (rest ++ line_feed ∷ []) verdicts k (append_assoc front rest (line_feed ∷ []))
