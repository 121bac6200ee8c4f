-- Lines that are known one after another, and their texts.
use Rattle.std.proofs.Common.{◌≡◌, ℕ, ◌+◌, ◌<◌, ◌^◌, Bool, true, false, cond, List, [], ◌∷◌, ◌++◌, Option, Some, None, length, map, refl, sym, ap, subst, ◌∙◌, arith}
use Rattle.std.specs.Prelude.{◌||◌, not}
use Rattle.std.specs.List.{list_any}
use Rattle.std.proofs.lemmas.Grind.{flat_map-append}
use Rattle.std.proofs.lemmas.List.{append-nil, length-append}
use Rattle.std.proofs.lemmas.List.Elements.{filter-append}
use Rattle.dia_accepted.specs.declared.counting.Causes.{Causes}
use Rattle.dia_accepted.specs.Accepted.{PlainEntry, accepts}
use Rattle.hex.specs.Hex.{encode_lower}
use Rattle.dia_breaking_sites.specs.Sent.{AreBytes}
use Rattle.dia_breaking.specs.declared.line.Standing.{Standing}
use Rattle.dia_breaking.specs.declared.line.Standing.TheVariants.{Confirmed, Unchecked, Undecided}
use Rattle.dia_upgrades.specs.declared.asked.Asked.{Asked}
use Rattle.dia_upgrades.specs.declared.seen.Seen.{Seen}
use Rattle.dia_upgrades.specs.Outcome.{accepted_of, counted}
use Rattle.dia_upgrades.specs.Recorded.{IsAfter, has_message, written}
use Rattle.dia_upgrades.specs.UnderWay.{AreJudged, Sees, SeesApart, firsts_in, is_any, lines_after, plain_first, text_shown}
use Rattle.dia_upgrades.proofs.Rows.{seen_after, seen_before}
use Rattle.dia_upgrades.specs.Rows.{AreCauses, HasSeen, Row, digits_line, is_accepted, is_command, left_of}
use Rattle.dia_upgrades.specs.Writing.{Writing, line_in}

-- ---- texts

-- where nothing is left, nothing is written
pub nothing_shown : (w : Writing) (asked : Asked) → text_shown w asked [] ≡ []
nothing_shown w asked = by asked.once
  where
    by : (b : Bool) → cond b [] (written w []) ≡ []
    by true = refl
    by false = refl

pub shown_more : (w : Writing) (asked : Asked) (xs ys : List Row) → text_shown w asked (xs ++ ys) ≡ text_shown w asked xs ++ text_shown w asked ys
shown_more w asked xs ys = by asked.once
  where
    by : (b : Bool) → cond b [] (written w (xs ++ ys)) ≡ cond b [] (written w xs) ++ cond b [] (written w ys)
    by true = refl
    by false = flat_map-append (line_in w) xs ys

-- the digits that follow a line whose message has these bytes, if any do
abbrev pub digits_after : Bool → List ℕ → Option (List ℕ)
digits_after has bytes = cond has (Some (encode_lower bytes)) None

pub occurs_after : (are : List ℕ → Type 0) (has : Bool) (bytes : List ℕ) → AreBytes bytes × are bytes → IsAfter are has (digits_line (digits_after has bytes))
occurs_after are true bytes is = (bytes, is.0, is.1, refl)
occurs_after are false bytes is = refl

-- a line whose messages aren't asked for has none
pub no_message : (are : List ℕ → Type 0) (s : Standing) → IsAfter are (has_message false s) []
no_message are Confirmed = refl
no_message are Unchecked = refl
no_message are Undecided = refl

-- ---- lines that are left

pub left_both : (list : List PlainEntry) (xs ys : List Row) → left_of list (xs ++ ys) ≡ left_of list xs ++ left_of list ys
left_both list xs ys = filter-append (λ (t : Row). not (is_accepted list t)) xs ys

pub left_one : (list : List PlainEntry) (t : Row) (known : Bool) → is_accepted list t ≡ known → left_of list (t ∷ []) ≡ cond known [] (t ∷ [])
left_one list t known e = ap (λ (b : Bool). cond (not b) (t ∷ []) []) e ∙ by known
  where
    by : (b : Bool) → cond (not b) (t ∷ []) [] ≡ cond b [] (t ∷ [])
    by true = refl
    by false = refl

pub left_more : (list : List PlainEntry) (recorded : List Row) (t : Row) (known : Bool) → is_accepted list t ≡ known → left_of list (recorded ++ t ∷ []) ≡ left_of list recorded ++ cond known [] (t ∷ [])
left_more list recorded t known e = left_both list recorded (t ∷ []) ∙ ap (λ (xs : List Row). left_of list recorded ++ xs) (left_one list t known e)

counted_more : (n : ℕ) → counted (n + 1) ≡ counted (counted n + 1)
counted_more n = omega arith

pub lines_more : (list : List PlainEntry) (recorded : List Row) (t : Row) (known : Bool) (old : ℕ) → is_accepted list t ≡ known → old ≡ counted (length (left_of list recorded))
    → lines_after known old ≡ counted (length (left_of list (recorded ++ t ∷ [])))
lines_more list recorded t known old e is =
    ap (lines_after known) is ∙ by known ∙ ap (λ (xs : List Row). counted (length xs)) (sym (left_more list recorded t known e))
  where
    by : (b : Bool) → lines_after b (counted (length (left_of list recorded))) ≡ counted (length (left_of list recorded ++ cond b [] (t ∷ [])))
    by true = ap (λ (xs : List Row). counted (length xs)) (sym (append-nil (left_of list recorded)))
    by false = sym (ap counted (length-append (left_of list recorded) (t ∷ [])) ∙ counted_more (length (left_of list recorded)))

-- ---- lines that are accepted

accepted_one : (list : List PlainEntry) (t : Row) (known : Bool) → is_accepted list t ≡ known → accepted_of list (t ∷ []) ≡ cond known (t ∷ []) []
accepted_one list t known e = ap (λ (b : Bool). cond b (t ∷ []) []) e

accepted_more : (list : List PlainEntry) (recorded : List Row) (t : Row) (known : Bool) → is_accepted list t ≡ known
    → accepted_of list (recorded ++ t ∷ []) ≡ accepted_of list recorded ++ cond known (t ∷ []) []
accepted_more list recorded t known e =
    filter-append (is_accepted list) recorded (t ∷ []) ∙ ap (λ (xs : List Row). accepted_of list recorded ++ xs) (accepted_one list t known e)

accepted_after : (list : List PlainEntry) (recorded : List Row) (t : Row) (known : Bool) (old : ℕ) → is_accepted list t ≡ known → old ≡ counted (length (accepted_of list recorded))
    → lines_after (not known) old ≡ counted (length (accepted_of list (recorded ++ t ∷ [])))
accepted_after list recorded t known old e is =
    ap (lines_after (not known)) is ∙ by known ∙ ap (λ (xs : List Row). counted (length xs)) (sym (accepted_more list recorded t known e))
  where
    by : (b : Bool) → lines_after (not b) (counted (length (accepted_of list recorded))) ≡ counted (length (accepted_of list recorded ++ cond b (t ∷ []) []))
    by true = sym (ap counted (length-append (accepted_of list recorded) (t ∷ [])) ∙ counted_more (length (accepted_of list recorded)))
    by false = ap (λ (xs : List Row). counted (length xs)) (sym (append-nil (accepted_of list recorded)))

any_more : (recorded : List Row) (t : Row) → is_any (recorded ++ t ∷ []) ≡ true
any_more [] t = refl
any_more (x ∷ recorded) t = refl

-- where no line is of a command, none that is left is
pub left_none : (list : List PlainEntry) (place : ℕ) (recorded : List Row) → list_any (is_command place) recorded ≡ false → list_any (is_command place) (left_of list recorded) ≡ false
left_none list place [] none = refl
left_none list place (t ∷ recorded) none =
    by (is_command place t) refl (is_accepted list t) none (left_none list place recorded)
  where
    by : (b : Bool) → is_command place t ≡ b → (c : Bool) → (b || list_any (is_command place) recorded) ≡ false → (list_any (is_command place) recorded ≡ false → list_any (is_command place) (left_of list recorded) ≡ false)
        → list_any (is_command place) (cond (not c) (t ∷ left_of list recorded) (left_of list recorded)) ≡ false
    by true e c none more = absurd (let z : true ≡ false = none in cc)
    by false e true none more = more none
    by false e false none more = ap (λ (b : Bool). b || list_any (is_command place) (left_of list recorded)) e ∙ more none

-- ---- a line that comes

module _ (list : List PlainEntry) (recorded apart : List Row) (t : Row) where
  pub judged_more : (old new : Seen) (known : Bool) → HasSeen new.accepting list ((recorded ++ apart) ++ t ∷ []) → is_accepted list t ≡ known → new.lines ≡ lines_after known old.lines
      → new.accepted ≡ lines_after (not known) old.accepted → new.is_some ≡ true
      → AreJudged list old recorded apart → AreJudged list new (recorded ++ t ∷ []) apart
  judged_more old new known seen e lines accepted some are = record {
    accepting = seen_before new.accepting list recorded apart t seen;
    lines_are = lines ∙ lines_more list recorded t known old.lines e are.lines_are;
    accepted_are = accepted ∙ accepted_after list recorded t known old.accepted e are.accepted_are;
    is_some_is = some ∙ sym (any_more recorded t);
  }

-- the same is known of lines by another name
pub judged_so : (list : List PlainEntry) (old new : Seen) (recorded apart : List Row) → new.accepting ≡ old.accepting → new.lines ≡ old.lines → new.accepted ≡ old.accepted → new.is_some ≡ old.is_some
    → AreJudged list old recorded apart → AreJudged list new recorded apart
judged_so list old new recorded apart same lines accepted some are = record {
  accepting = subst (λ a. HasSeen a list (recorded ++ apart)) (sym same) are.accepting;
  lines_are = lines ∙ are.lines_are;
  accepted_are = accepted ∙ are.accepted_are;
  is_some_is = some ∙ are.is_some_is;
}

same_firsts : (old new : Seen) → new.firsts ≡ old.firsts → map plain_first new.firsts.items ≡ map plain_first old.firsts.items
same_firsts old new same = ap (λ f. map plain_first f.items) same

module _ (w : Writing) (asked : Asked) (place : ℕ) (old mid : Seen) (t : Row) (words : List ℕ) (known : Bool) (words_are : t.words ≡ words)
    (accepted : (list : List PlainEntry) (recorded apart : List Row) → AreJudged list old recorded apart → known ≡ list_any (accepts words) list)
    (judged : (list : List PlainEntry) (recorded apart : List Row) (x : Row) → x.words ≡ words → AreJudged list old recorded apart → AreJudged list mid (recorded ++ x ∷ []) apart)
    (causes : mid.causes ≡ old.causes) (meanings : mid.meanings ≡ old.meanings) (firsts : mid.firsts ≡ old.firsts) where
  is_known : (list : List PlainEntry) (recorded apart : List Row) → AreJudged list old recorded apart → is_accepted list t ≡ known
  is_known list recorded apart are = ap (λ (w : List ℕ). list_any (accepts w) list) words_are ∙ sym (accepted list recorded apart are)

  -- the list accepts it
  pub sees_accepted : known ≡ true → Sees w asked place old mid t []
  sees_accepted is_yes = λ forgets list visits recorded apart small are.
      let e = is_known list recorded apart are.judged ∙ is_yes in
      let same : left_of list recorded ≡ left_of list (recorded ++ t ∷ []) = sym (left_more list recorded t true e ∙ append-nil (left_of list recorded)) in (
        record {
          judged = judged list recorded apart t words_are are.judged;
          are_kept = record {
            causes = subst (λ (c : Causes). AreCauses forgets c (left_of list (recorded ++ t ∷ [])) place visits) (sym causes)
                (subst (λ (xs : List Row). AreCauses forgets old.causes xs place visits) same are.are_kept.causes);
            meanings = subst (λ (c : Causes). AreCauses forgets c (left_of list apart) place visits) (sym meanings) are.are_kept.meanings;
            firsts = same_firsts old mid firsts ∙ are.are_kept.firsts ∙ ap (firsts_in asked) same;
          };
        },
        sym (ap (text_shown w asked) (left_one list t true e) ∙ nothing_shown w asked),
      )

  -- or it is left
  pub sees_left : (new : Seen) (text : List ℕ) → known ≡ false → new.accepting ≡ mid.accepting → new.meanings ≡ mid.meanings → new.lines ≡ mid.lines → new.accepted ≡ mid.accepted → new.is_some ≡ mid.is_some
      → ((forgets : Bool) (recorded : List Row) (visits : ℕ) → visits < 2 ^ 63 → AreCauses forgets mid.causes recorded place visits → AreCauses forgets new.causes (recorded ++ t ∷ []) place visits)
      → ((forgets : Bool) (recorded : List Row) (visits : ℕ) → AreCauses forgets mid.causes recorded place visits → map plain_first mid.firsts.items ≡ firsts_in asked recorded
      → map plain_first new.firsts.items ≡ firsts_in asked (recorded ++ t ∷ []))
      → text ≡ text_shown w asked (t ∷ []) → Sees w asked place old new t text
  sees_left new text is_no same_list same_meanings same_lines same_accepted same_some added stored text_is = λ forgets list visits recorded apart small are.
      let e = is_known list recorded apart are.judged ∙ is_no in
      let more : left_of list recorded ++ t ∷ [] ≡ left_of list (recorded ++ t ∷ []) = sym (left_more list recorded t false e) in
      let before = subst (λ (c : Causes). AreCauses forgets c (left_of list recorded) place visits) (sym causes) are.are_kept.causes in (
        record {
          judged = judged_so list mid new (recorded ++ t ∷ []) apart same_list same_lines same_accepted same_some (judged list recorded apart t words_are are.judged);
          are_kept = record {
            causes = subst (λ (xs : List Row). AreCauses forgets new.causes xs place visits) more (added forgets (left_of list recorded) visits small before);
            meanings = subst (λ (c : Causes). AreCauses forgets c (left_of list apart) place visits) (sym (same_meanings ∙ meanings)) are.are_kept.meanings;
            firsts = stored forgets (left_of list recorded) visits before (same_firsts old mid firsts ∙ are.are_kept.firsts) ∙ ap (firsts_in asked) more;
          };
        },
        text_is ∙ ap (text_shown w asked) (sym (left_one list t false e)),
      )

-- ---- a line of a meaning that comes

module _ (asked : Asked) (place : ℕ) (old new : Seen) (t : Row) (known : Bool)
    (accepted : (list : List PlainEntry) (recorded : List Row) → HasSeen old.accepting list recorded → known ≡ list_any (accepts t.words) list)
    (come : (list : List PlainEntry) (recorded : List Row) (x : Row) → x.words ≡ t.words → HasSeen old.accepting list recorded → HasSeen new.accepting list (recorded ++ x ∷ []))
    (causes : new.causes ≡ old.causes) (lines : new.lines ≡ old.lines) (same : new.accepted ≡ old.accepted) (some : new.is_some ≡ old.is_some)
    (firsts : new.firsts ≡ old.firsts) where
  judged_apart : (list : List PlainEntry) (recorded apart : List Row) → AreJudged list old recorded apart → AreJudged list new recorded (apart ++ t ∷ [])
  judged_apart list recorded apart are = record {
    accepting = seen_after new.accepting list recorded apart t (come list (recorded ++ apart) t refl are.accepting);
    lines_are = lines ∙ are.lines_are;
    accepted_are = same ∙ are.accepted_are;
    is_some_is = some ∙ are.is_some_is;
  }

  pub sees_apart : ((forgets : Bool) (recorded : List Row) (visits : ℕ) → visits < 2 ^ 63 → AreCauses forgets old.meanings recorded place visits
      → AreCauses forgets new.meanings (recorded ++ cond known [] (t ∷ [])) place visits) → SeesApart asked place old new (t ∷ [])
  sees_apart added = λ forgets list visits recorded apart small are.
      let e = sym (accepted list (recorded ++ apart) are.judged.accepting) in record {
        judged = judged_apart list recorded apart are.judged;
        are_kept = record {
          causes = subst (λ (c : Causes). AreCauses forgets c (left_of list recorded) place visits) (sym causes) are.are_kept.causes;
          firsts = same_firsts old new firsts ∙ are.are_kept.firsts;
          meanings = subst (λ (xs : List Row). AreCauses forgets new.meanings xs place visits) (sym (left_more list apart t known e))
              (added forgets (left_of list apart) visits small are.are_kept.meanings);
        };
      }
