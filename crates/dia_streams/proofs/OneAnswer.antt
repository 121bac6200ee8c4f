-- Where each line has one verdict, each text has one list of them.
use Rattle.std.proofs.Common.{◌≡◌, ◌≢◌, ℕ, suc, ◌<◌, List, [], ◌∷◌, ◌++◌, length, refl, sym, ap, subst, ◌∙◌, append_assoc, inl, inr, arith}
use Rattle.std.specs.Prelude.{⊤, ◌⊎◌}
use Rattle.std.proofs.lemmas.List.{append-nil, append_cancel_right}
use Rattle.std.proofs.lemmas.List.Elements.{All-head, All-tail}
use Rattle.dia_io.specs.declared.Input.{Input}
use Rattle.dia_streams.specs.FeedToSink.{FrontIsBeginning}
use Rattle.dia_streams.specs.Lines.{AreAnswered, none, one_more, EndsInLine, IsAnswered, IsLine, IsLineInput, LineHasOneAnswer, TextHasOneAnswer, line_feed, recorded_from, recorded_lines}
use Rattle.dia_streams.proofs.LineNumbers.{recorded_lines-append}

-- the last byte, if there is one, is a line feed
abbrev Ends : List ℕ → Type 0
Ends [] = ⊤
Ends (x ∷ []) = x ≡ line_feed
Ends (x ∷ y ∷ ys) = Ends (y ∷ ys)

Ends-line : (xs : List ℕ) → Ends (xs ++ line_feed ∷ [])
Ends-line [] = refl
Ends-line (x ∷ []) = refl
Ends-line (x ∷ y ∷ ys) = Ends-line (y ∷ ys)

Ends-tail : (x : ℕ) (xs : List ℕ) → Ends (x ∷ xs) → Ends xs
Ends-tail x [] e = tt
Ends-tail x (y ∷ ys) e = e

-- a line has no line feed
no_end : (x : ℕ) (xs ys : List ℕ) → Ends (x ∷ xs) → IsLine ((x ∷ xs) ++ ys) → ⊥
no_end x [] ys e line = All-head (λ c. c ≢ line_feed) x ys line e
no_end x (y ∷ xs) ys e line = no_end y xs ys e (All-tail (λ c. c ≢ line_feed) x ((y ∷ xs) ++ ys) line)

no_end_after : (front line : List ℕ) → 0 < length line → IsLine line → Ends (front ++ line) → ⊥
no_end_after [] [] some is_line e = omega arith
no_end_after [] (x ∷ xs) some is_line e = no_end x xs [] e (subst IsLine (sym (append-nil (x ∷ xs))) is_line)
no_end_after (x ∷ front) line some is_line e = no_end_after front line some is_line (Ends-tail x (front ++ line) e)

-- there is one place where the last line begins
one_cut : (front line other rest : List ℕ) → Ends front → Ends other → IsLine line → IsLine rest → front ++ line ≡ other ++ rest
    → (front ≡ other) × (line ≡ rest)
one_cut [] line [] rest e f h k same = (refl, same)
one_cut [] line (y ∷ other) rest e f h k same = absurd (no_end y other rest f (subst IsLine same h))
one_cut (x ∷ front) line [] rest e f h k same = absurd (no_end x front line e (subst IsLine (sym same) k))
one_cut (x ∷ front) line (y ∷ other) rest e f h k same =
    let head : x ≡ y = cc in
    let tail : front ++ line ≡ other ++ rest = cc in
    let both = one_cut front line other rest (Ends-tail x front e) (Ends-tail y other f) h k tail in
    (ap (λ z. z ∷ front) head ∙ ap (λ (l : List ℕ). y ∷ l) both.0, both.1)

no_lines : (front line : List ℕ) → [] ≡ front ++ (line ++ line_feed ∷ []) → ⊥
no_lines [] [] same = absurd cc
no_lines [] (x ∷ line) same = absurd cc
no_lines (x ∷ front) line same = absurd cc

-- what ends in a line feed within a line is the whole line
whole_line : (x : ℕ) (front rest line : List ℕ) → Ends (x ∷ front) → IsLine line → (x ∷ front) ++ rest ≡ line ++ line_feed ∷ []
    → x ∷ front ≡ line ++ line_feed ∷ []
whole_line x [] rest [] e h same = ap (λ z. z ∷ []) e
whole_line x [] rest (b ∷ line) e h same =
    let head : x ≡ b = cc in
    absurd (All-head (λ c. c ≢ line_feed) b line h (sym head ∙ e))
whole_line x (y ∷ front) rest [] e h same = absurd cc
whole_line x (y ∷ front) rest (b ∷ line) e h same =
    let head : x ≡ b = cc in
    let tail : (y ∷ front) ++ rest ≡ line ++ line_feed ∷ [] = cc in
    ap (λ z. z ∷ y ∷ front) head ∙ ap (λ (l : List ℕ). b ∷ l) (whole_line y front rest line e (All-tail (λ c. c ≢ line_feed) b line h) tail)

-- whole lines at the front are all of the lines, or don't reach the last one
front_or_all : (front rest before line : List ℕ) → Ends front → IsLine line → front ++ rest ≡ before ++ (line ++ line_feed ∷ [])
    → (front ≡ before ++ (line ++ line_feed ∷ [])) ⊎ ((more : List ℕ) × (before ≡ front ++ more))
front_or_all [] rest before line e h same = inr (before, refl)
front_or_all (x ∷ front) rest [] line e h same = inl (whole_line x front rest line e h same)
front_or_all (x ∷ front) rest (b ∷ before) line e h same =
    let head : x ≡ b = cc in
    let tail : front ++ rest ≡ before ++ (line ++ line_feed ∷ []) = cc in
    elim (front_or_all front rest before line (Ends-tail x front e) h tail) [
      | inl all ↦ inl (ap (λ z. z ∷ front) head ∙ ap (λ (l : List ℕ). b ∷ l) all)
      | inr part ↦ inr (part.0, ap (λ (l : List ℕ). b ∷ l) part.1 ∙ ap (λ z. z ∷ (front ++ part.0)) (sym head))
    ]

nothing_in_front : (front rest : List ℕ) → [] ≡ front ++ rest → front ≡ []
nothing_in_front [] rest same = refl
nothing_in_front (x ∷ front) rest same = absurd cc

module _ {V : Type 0} (P : Input → V → Type 0) (once : LineHasOneAnswer P) where
  Ends-answered : (lines : List ℕ) (verdicts : List V) → AreAnswered P lines verdicts → Ends lines
  Ends-answered _ _ none = tt
  Ends-answered _ _ (one_more before verdicts_before bytes input verdict h line is says lines verdicts) =
      subst Ends (sym (lines ∙ sym (append_assoc before bytes (line_feed ∷ [])))) (Ends-line (before ++ bytes))

  lines_once : (lines : List ℕ) (verdicts others : List V) → AreAnswered P lines verdicts → AreAnswered P lines others → verdicts ≡ others
  lines_once _ _ _ none none = refl
  lines_once _ _ _ none (one_more before verdicts_before bytes input verdict h line is says lines verdicts) = absurd (no_lines before bytes lines)
  lines_once _ _ _ (one_more before verdicts_before bytes input verdict h line is says lines verdicts) none = absurd (no_lines before bytes lines)
  lines_once _ _ _ (one_more before verdicts_before bytes input verdict h line is says lines verdicts)
      (one_more before' verdicts_before' bytes' input' verdict' h' line' is' says' lines' verdicts') =
      let same : before ++ bytes ≡ before' ++ bytes' = append_cancel_right (before ++ bytes) (before' ++ bytes') (line_feed ∷ [])
      (append_assoc before bytes (line_feed ∷ []) ∙ sym lines ∙ lines' ∙ sym (append_assoc before' bytes' (line_feed ∷ []))) in
      let cut = one_cut before bytes before' bytes' (Ends-answered before verdicts_before h) (Ends-answered before' verdicts_before' h') line line' same in
      let fronts = lines_once before verdicts_before verdicts_before' h (subst (λ (l : List ℕ). AreAnswered P l verdicts_before') (sym cut.0) h') in
      let last = once bytes input input' verdict verdict' is (subst (λ (l : List ℕ). IsLineInput input' l) (sym cut.1) is') says says' in
      verdicts ∙ ap (λ (t : List V). t ++ verdict ∷ []) fronts ∙ ap (λ v. verdicts_before' ++ v ∷ []) last ∙ sym verdicts'

  not_both : (bytes : List ℕ) (verdicts : List V) → AreAnswered P bytes verdicts → EndsInLine bytes → ⊥
  not_both bytes verdicts h u = no_end_after u.front u.line u.some u.is_line (subst Ends u.parts (Ends-answered bytes verdicts h))

  pub text_once : TextHasOneAnswer P
  text_once bytes verdicts others (inl h) (inl k) = lines_once bytes verdicts others h k
  text_once bytes verdicts others (inl h) (inr k) = absurd (not_both bytes verdicts h k.0)
  text_once bytes verdicts others (inr h) (inl k) = absurd (not_both bytes others k h.0)
  text_once bytes verdicts others (inr h) (inr k) = lines_once (bytes ++ line_feed ∷ []) verdicts others h.1 k.1

  -- the verdicts on whole lines at the front are a prefix of all
  lines_front : (lines : List ℕ) (all : List V) → AreAnswered P lines all
      → (front rest : List ℕ) (verdicts : List V) → AreAnswered P front verdicts → lines ≡ front ++ rest → (more : List V) × (all ≡ verdicts ++ more)
  lines_front _ _ none front rest verdicts k parts =
      let no_verdicts = lines_once [] verdicts [] (subst (λ (l : List ℕ). AreAnswered P l verdicts) (nothing_in_front front rest parts) k) none in
      ([], sym no_verdicts ∙ sym (append-nil verdicts))
  lines_front lines all (one_more before verdicts_before bytes input verdict h line is says parts ends) front rest verdicts k cut =
      elim (front_or_all front rest before bytes (Ends-answered front verdicts k) line (sym cut ∙ parts)) [
        | inl same ↦ (
          [],
          lines_once lines all verdicts
              (one_more before verdicts_before bytes input verdict h line is says parts ends)
              (subst (λ (l : List ℕ). AreAnswered P l verdicts) (same ∙ sym parts) k) ∙ sym (append-nil verdicts),
        )
        | inr part ↦ (
          (lines_front before verdicts_before h front part.0 verdicts k part.1).0 ++ verdict ∷ [],
          ends ∙ ap (λ (t : List V). t ++ verdict ∷ []) (lines_front before verdicts_before h front part.0 verdicts k part.1).1
              ∙ append_assoc verdicts (lines_front before verdicts_before h front part.0 verdicts k part.1).0 (verdict ∷ []),
        )
      ]

  front_of_all : (front rest : List ℕ) (verdicts all : List V) → AreAnswered P front verdicts → IsAnswered P (front ++ rest) all → (more : List V) × (all ≡ verdicts ++ more)
  front_of_all front rest verdicts all k (inl h) = lines_front (front ++ rest) all h front rest verdicts k refl
  front_of_all front rest verdicts all k (inr h) =
      lines_front ((front ++ rest) ++ line_feed ∷ []) all h.1 front (rest ++ line_feed ∷ []) verdicts k (append_assoc front rest (line_feed ∷ []))

  -- the verdicts on the front, where the call failed
  verdicts_in_front : (bytes left front rest : List ℕ) (verdicts all : List V) → bytes ≡ (front ++ rest) ++ left
      → (AreAnswered P front verdicts ⊎ ((left ≡ []) × (rest ≡ []) × IsAnswered P front verdicts)) → IsAnswered P bytes all
      → (more : List V) × (all ≡ verdicts ++ more)
  verdicts_in_front bytes left front rest verdicts all parts (inl k) h =
      front_of_all front (rest ++ left) verdicts all k (subst (λ (l : List ℕ). IsAnswered P l all) (parts ∙ append_assoc front rest left) h)
  verdicts_in_front bytes left front rest verdicts all parts (inr k) h =
      let same : bytes ≡ front = parts ∙ ap (λ (l : List ℕ). (front ++ rest) ++ l) k.0 ∙ append-nil (front ++ rest) ∙ ap (λ (l : List ℕ). front ++ l) k.1 ∙ append-nil front in
      ([], text_once front all verdicts (subst (λ (l : List ℕ). IsAnswered P l all) same h) k.2 ∙ sym (append-nil verdicts))

  pub put_is_beginning : (recorded : ℕ → V → List ℕ) → FrontIsBeginning P (recorded_lines recorded)
  put_is_beginning recorded bytes left before now all a h =
      let (put, unput, texts, is_put) = a.is_put in
      let more = verdicts_in_front bytes left a.front a.rest a.verdicts all a.consumed a.answered h in
      let following = recorded_from recorded (suc (length a.verdicts)) more.0 in
      let whole : recorded_lines recorded all ≡ recorded_lines recorded a.verdicts ++ following = ap (recorded_lines recorded) more.1 ∙ recorded_lines-append recorded a.verdicts more.0 in
      (put, unput ++ following, is_put, whole ∙ ap (λ (t : List ℕ). t ++ following) texts ∙ append_assoc put unput following)
