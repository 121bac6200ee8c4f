-- The rows of a level and of the groups in it, with the levels that are not done in a list, the outermost first.
use Rattle.std.proofs.Common.{◌≡◌, ℕ, ◌+◌, ◌-◌, ◌*◌, ◌^◌, ◌<◌, ◌≤◌, Bool, true, false, List, [], ◌∷◌, ◌++◌, length, refl, sym, ap, subst, ◌∙◌, append_assoc, arith, inl, inr}
use Rattle.std.specs.Prelude.{◌⊎◌, sum_by}
use Rattle.std.specs.List.{AllByRecursion, concat}
use Rattle.std.proofs.lemmas.List.{append-nil, length-append}
use Rattle.std.proofs.lemmas.List.Folds.{concat-append}
use Rattle.std.proofs.lemmas.List.Sums.{sum_by-append}
use Rattle.dia_wire.specs.Wire.{PlainAvp, head_length, avp_length, padded_length, BeginsWith, BeginsWithNone}
use Rattle.dia_wire.proofs.Spelling.{at_least_8, opened, rounded-le}
use Rattle.dia_dict.specs.Dictionary.{Dictionary}
use Rattle.dia_run.specs.declared.walk.Rest.{Rest}
use Rattle.dia_run.specs.Rows.{AreRows, AreWritten, Level, Row, after, bad_group, bad_length, end, group, inside, is_group, known_avp, leaf, of_avp, of_bad_length, row_of}
use Rattle.dia_run.specs.Walk.{Adds, AddsAvp, AddsLevel}

-- what is left of a level at a depth
abbrev pub level_of : ℕ → Rest → Level
level_of depth r = record { depth = depth; place = r.end - length r.bytes.now; bytes = r.bytes.now }

-- the rows of a level, and then of what is left of the levels round it, which begin at a depth
abbrev pub Owes : Dictionary → ℕ → List Rest → Level → List Row → Bool → Type 0
Owes d depth [] level rows bad = AreRows d level rows bad
Owes d depth (r ∷ rs) level rows bad =
    ((inner : List Row) × (outer : List Row) × Owes d (depth + 1) rs level inner false × AreRows d (level_of depth r) outer bad × (rows ≡ inner ++ outer))
    ⊎ (Owes d (depth + 1) rs level rows true × (bad ≡ true))

-- what precedes the rows of a level precedes all
Owes-front : (d : Dictionary) (depth : ℕ) (rs : List Rest) (level next : Level) (front : Row) (rows : List Row) (bad : Bool)
    → ((t : List Row) (b : Bool) → AreRows d next t b → AreRows d level (front ∷ t) b) → Owes d depth rs next rows bad → Owes d depth rs level (front ∷ rows) bad
Owes-front d depth [] level next front rows bad f h = f rows bad h
Owes-front d depth (r ∷ rs) level next front rows bad f (inl (inner, outer, h, rest, parts)) =
    inl (front ∷ inner, outer, Owes-front d (depth + 1) rs level next front inner false f h, rest, ap (λ (t : List Row). front ∷ t) parts)
Owes-front d depth (r ∷ rs) level next front rows bad f (inr (h, is_bad)) = inr (Owes-front d (depth + 1) rs level next front rows true f h, is_bad)

-- a group that is entered: its members come first, and then what follows it
Owes-group : (d : Dictionary) (depth : ℕ) (rs : List Rest) (r : Rest) (level : Level) (v : PlainAvp) (rest : List ℕ) (rows : List Row) (bad : Bool)
    → BeginsWith v level.bytes rest → is_group (known_avp d v) ≡ true
    → level_of (depth + length rs) r ≡ after level v rest → Owes d depth (rs ++ r ∷ []) (inside level v) rows bad
    → Owes d depth rs level (row_of d level v ∷ rows) bad
Owes-group d depth [] r level v rest rows bad begins grouped is_after (inl (inner, outer, h, left, parts)) =
    let here : level_of depth r ≡ after level v rest = ap (λ (n : ℕ). level_of n r) (omega arith) ∙ is_after in
    group v rest inner outer begins grouped h (subst (λ (l : Level). AreRows d l outer bad) here left) (ap (λ (t : List Row). row_of d level v ∷ t) parts)
Owes-group d depth [] r level v rest rows bad begins grouped is_after (inr (h, is_bad)) = bad_group v rest rows begins grouped h refl is_bad
Owes-group d depth (q ∷ rs) r level v rest rows bad begins grouped is_after (inl (inner, outer, h, left, parts)) =
    let here : level_of (depth + 1 + length rs) r ≡ after level v rest = ap (λ (n : ℕ). level_of n r) (omega arith) ∙ is_after in
    inl (row_of d level v ∷ inner, outer, Owes-group d (depth + 1) rs r level v rest inner false begins grouped here h, left, ap (λ (t : List Row). row_of d level v ∷ t) parts)
Owes-group d depth (q ∷ rs) r level v rest rows bad begins grouped is_after (inr (h, is_bad)) =
    let here : level_of (depth + 1 + length rs) r ≡ after level v rest = ap (λ (n : ℕ). level_of n r) (omega arith) ∙ is_after in
    inr (Owes-group d (depth + 1) rs r level v rest rows true begins grouped here h, is_bad)

-- a level that is done: what is left of the one round it comes next
Owes-end : (d : Dictionary) (depth : ℕ) (rs : List Rest) (r : Rest) (level : Level) (rows : List Row) (bad : Bool) → level.bytes ≡ []
    → Owes d depth rs (level_of (depth + length rs) r) rows bad → Owes d depth (rs ++ r ∷ []) level rows bad
Owes-end d depth [] r level rows bad none h =
    let same : depth + length {A = Rest} [] ≡ depth = omega arith in
    inl ([], rows, end none refl refl, subst (λ (n : ℕ). AreRows d (level_of n r) rows bad) same h, refl)
Owes-end d depth (q ∷ rs) r level rows bad none (inl (inner, outer, h, left, parts)) =
    let same : depth + length (q ∷ rs) ≡ depth + 1 + length rs = omega arith in
    inl (inner, outer, Owes-end d (depth + 1) rs r level inner false none (subst (λ (n : ℕ). Owes d (depth + 1) rs (level_of n r) inner false) same h), left, parts)
Owes-end d depth (q ∷ rs) r level rows bad none (inr (h, is_bad)) =
    let same : depth + length (q ∷ rs) ≡ depth + 1 + length rs = omega arith in
    inr (Owes-end d (depth + 1) rs r level rows true none (subst (λ (n : ℕ). Owes d (depth + 1) rs (level_of n r) rows true) same h), is_bad)

-- a bad length ends it all
Owes-bad : (d : Dictionary) (depth : ℕ) (rs : List Rest) (level : Level) → 0 < length level.bytes → BeginsWithNone level.bytes
    → Owes d depth rs level (of_bad_length level.place ∷ []) true
Owes-bad d depth [] level some none = bad_length some none refl refl
Owes-bad d depth (r ∷ rs) level some none = inr (Owes-bad d (depth + 1) rs level some none, refl)

-- ---- their texts

one_more_text : (before : List ℕ) (texts : List (List ℕ)) (text : List ℕ) → (before ++ concat texts) ++ text ≡ before ++ concat (texts ++ text ∷ [])
one_more_text before texts text =
    append_assoc before (concat texts) text
    ∙ ap (λ (t : List ℕ). before ++ t) (ap (λ (t : List ℕ). concat texts ++ t) (sym (append-nil text)) ∙ sym (concat-append texts (text ∷ [])))

one_more_written : (P : Row → List ℕ → Type 0) (rows : List Row) (texts : List (List ℕ)) (row : Row) (text : List ℕ) → AreWritten P rows texts → P row text
    → AreWritten P (rows ++ row ∷ []) (texts ++ text ∷ [])
one_more_written P [] [] row text all h = (h, tt)
one_more_written P [] (t ∷ texts) row text all h = absurd all
one_more_written P (r ∷ rows) [] row text all h = absurd all
one_more_written P (r ∷ rows) (t ∷ texts) row text (first, all) h = (first, one_more_written P rows texts row text all h)

-- ---- the loop

abbrev pub bytes_left : List Rest → ℕ
bytes_left rs = sum_by (λ r. length r.bytes.now) rs

abbrev pub IsWithin : Rest → Type 0
IsWithin r = (length r.bytes.now ≤ r.end) × (r.end < 2 ^ 63)

-- the rows so far, and those that are owed, are those of the whole level
pub record IsUnderWay (P : Row → List ℕ → Type 0) (d : Dictionary) (whole : Level) (before now : List ℕ) (rs : List Rest) (r : Rest) : Type 0 where
  pub rows : List Row
  pub texts : List (List ℕ)
  pub written : AreWritten P rows texts
  pub text : now ≡ before ++ concat texts
  pub within : IsWithin r
  pub all_within : AllByRecursion IsWithin rs
  pub goes_on : (more : List Row) (bad : Bool) → Owes d 0 rs (level_of (length rs) r) more bad → AreRows d whole (rows ++ more) bad

AllByRecursion-push : (rs : List Rest) (r : Rest) → AllByRecursion IsWithin rs → IsWithin r → AllByRecursion IsWithin (rs ++ r ∷ [])
AllByRecursion-push [] r all h = (h, tt)
AllByRecursion-push (q ∷ rs) r (here, all) h = (here, AllByRecursion-push rs r all h)

AllByRecursion-pop : (rs : List Rest) (r : Rest) → AllByRecursion IsWithin (rs ++ r ∷ []) → AllByRecursion IsWithin rs × IsWithin r
AllByRecursion-pop [] r (h, all) = (tt, h)
AllByRecursion-pop (q ∷ rs) r (here, all) = let made = AllByRecursion-pop rs r all in ((here, made.0), made.1)

length-level : (v : PlainAvp) (level rest : List ℕ) → BeginsWith v level rest → length level ≡ padded_length v + length rest
length-level v level rest (front, s, parts) = ap length parts ∙ length-append front rest ∙ ap (λ (n : ℕ). n + length rest) (opened v front [] s).front_length

no_bytes : (bytes : List ℕ) → length bytes ≡ 0 → bytes ≡ []
no_bytes [] h = refl
no_bytes (b ∷ bytes) h = absurd (omega arith)

pub started : (P : Row → List ℕ → Type 0) (d : Dictionary) (whole : Level) (before : List ℕ) (r : Rest) → IsWithin r → level_of 0 r ≡ whole → IsUnderWay P d whole before before [] r
started P d whole before r within same = record {
  rows = [];
  texts = [];
  written = tt;
  text = sym (append-nil before);
  within = within;
  all_within = tt;
  goes_on = λ more bad h. subst (λ (l : Level). AreRows d l more bad) same h;
}

module _ (P : Row → List ℕ → Type 0) (d : Dictionary) (whole : Level) (before now : List ℕ) where
  pub leaf_added : (new : List ℕ) (rs : List Rest) (r next : Rest) (depth : ℕ) (v : PlainAvp) → IsUnderWay P d whole before now rs r
      → BeginsWith v r.bytes.now next.bytes.now → next.end ≡ r.end → depth ≡ length rs
      → AddsAvp P d (r.end - length r.bytes.now) depth v now new false → IsUnderWay P d whole before new rs next
  leaf_added new rs r next depth v u begins same_end deep (no_group, (row_text, is_written, added)) =
      let size = length-level v r.bytes.now next.bytes.now begins in
      let row = row_of d (level_of (length rs) r) v in
      let written : P row row_text = subst (λ (n : ℕ). P (of_avp (r.end - length r.bytes.now) n v (known_avp d v)) row_text) deep is_written in
      let place : next.end - length next.bytes.now ≡ r.end - length r.bytes.now + padded_length v = omega (arith, size, u.within.0, same_end) in
      let same : level_of (length rs) next ≡ after (level_of (length rs) r) v next.bytes.now = ap (λ (n : ℕ). record { depth = length rs; place = n; bytes = next.bytes.now }) place in
      record {
        rows = u.rows ++ row ∷ [];
        texts = u.texts ++ row_text ∷ [];
        written = one_more_written P u.rows u.texts row row_text u.written written;
        text = added ∙ ap (λ (t : List ℕ). t ++ row_text) u.text ∙ one_more_text before u.texts row_text;
        within = (omega (arith, size, u.within.0, same_end), omega (arith, u.within.1, same_end));
        all_within = u.all_within;
        goes_on = λ more bad h. subst (λ (t : List Row). AreRows d whole t bad) (sym (append_assoc u.rows (row ∷ []) more))
            (u.goes_on (row ∷ more) bad (Owes-front d 0 rs (level_of (length rs) r) (level_of (length rs) next) row more bad
            (λ t b k. leaf v next.bytes.now t begins (sym no_group) (subst (λ (l : Level). AreRows d l t b) same k) refl) h));
      }

  pub group_entered : (new : List ℕ) (rs : List Rest) (r next inner : Rest) (depth : ℕ) (v : PlainAvp) → IsUnderWay P d whole before now rs r
      → BeginsWith v r.bytes.now next.bytes.now → next.end ≡ r.end → inner.bytes.now ≡ v.bytes → inner.end ≡ r.end - length r.bytes.now + avp_length v
      → depth ≡ length rs → AddsAvp P d (r.end - length r.bytes.now) depth v now new true → IsUnderWay P d whole before new (rs ++ next ∷ []) inner
  group_entered new rs r next inner depth v u begins same_end is_data is_end deep (grouped, (row_text, is_written, added)) =
      let size = length-level v r.bytes.now next.bytes.now begins in
      let row = row_of d (level_of (length rs) r) v in
      let written : P row row_text = subst (λ (n : ℕ). P (of_avp (r.end - length r.bytes.now) n v (known_avp d v)) row_text) deep is_written in
      let place : next.end - length next.bytes.now ≡ r.end - length r.bytes.now + padded_length v = omega (arith, size, u.within.0, same_end) in
      let outside : level_of (0 + length rs) next ≡ after (level_of (length rs) r) v next.bytes.now =
      ap (λ (n : ℕ). level_of n next) (omega arith) ∙ ap (λ (n : ℕ). record { depth = length rs; place = n; bytes = next.bytes.now }) place in
      let many : length (rs ++ next ∷ []) ≡ length rs + 1 = length-append rs (next ∷ []) in
      let data_length : length inner.bytes.now ≡ length v.bytes = ap length is_data in
      let begin : inner.end - length inner.bytes.now ≡ r.end - length r.bytes.now + head_length v.vendor = omega (arith, is_end, data_length) in
      let inward : level_of (length (rs ++ next ∷ [])) inner ≡ inside (level_of (length rs) r) v =
      ap (λ (n : ℕ). level_of n inner) many ∙ ap (λ (n : ℕ). record { depth = length rs + 1; place = n; bytes = inner.bytes.now }) begin
      ∙ ap (λ (b : List ℕ). record { depth = length rs + 1; place = r.end - length r.bytes.now + head_length v.vendor; bytes = b }) is_data in
      record {
        rows = u.rows ++ row ∷ [];
        texts = u.texts ++ row_text ∷ [];
        written = one_more_written P u.rows u.texts row row_text u.written written;
        text = added ∙ ap (λ (t : List ℕ). t ++ row_text) u.text ∙ one_more_text before u.texts row_text;
        within = (omega (arith, is_end, data_length), omega (arith, is_end, size, u.within.0, u.within.1, rounded-le (avp_length v)));
        all_within = AllByRecursion-push rs next u.all_within (omega (arith, size, u.within.0, same_end), omega (arith, u.within.1, same_end));
        goes_on = λ more bad h. subst (λ (t : List Row). AreRows d whole t bad) (sym (append_assoc u.rows (row ∷ []) more))
            (u.goes_on (row ∷ more) bad (Owes-group d 0 rs next (level_of (length rs) r) v next.bytes.now more bad begins (sym grouped) outside
            (subst (λ (l : Level). Owes d 0 (rs ++ next ∷ []) l more bad) inward h)));
      }

  pub level_ended : (all rs : List Rest) (r next : Rest) → IsUnderWay P d whole before now all r → all ≡ rs ++ next ∷ [] → length r.bytes.now ≡ 0
      → IsUnderWay P d whole before now rs next
  level_ended all rs r next u is_all none =
      let left = AllByRecursion-pop rs next (subst (AllByRecursion IsWithin) is_all u.all_within) in
      record {
        rows = u.rows;
        texts = u.texts;
        written = u.written;
        text = u.text;
        within = left.1;
        all_within = left.0;
        goes_on = λ more bad h.
            let deeper : level_of (length rs) next ≡ level_of (0 + length rs) next = ap (λ (n : ℕ). level_of n next) (omega arith) in
            let made = Owes-end d 0 rs next (level_of (length all) r) more bad (no_bytes r.bytes.now none) (subst (λ (l : Level). Owes d 0 rs l more bad) deeper h) in
            u.goes_on more bad (subst (λ (qs : List Rest). Owes d 0 qs (level_of (length all) r) more bad) (sym is_all) made);
      }

  pub all_ended : (rs : List Rest) (r : Rest) → IsUnderWay P d whole before now rs r → length rs ≡ 0 → length r.bytes.now ≡ 0 → AddsLevel P d whole before now false
  all_ended (q ∷ rs) r u no_more none = absurd (omega arith)
  all_ended [] r u no_more none =
      (u.rows, u.texts, subst (λ (t : List Row). AreRows d whole t false) (append-nil u.rows) (u.goes_on [] false (end (no_bytes r.bytes.now none) refl refl)), u.written, u.text)

  pub bad_found : (new : List ℕ) (rs : List Rest) (r : Rest) → IsUnderWay P d whole before now rs r → 0 < length r.bytes.now → BeginsWithNone r.bytes.now
      → Adds (P (of_bad_length (r.end - length r.bytes.now))) now new → AddsLevel P d whole before new true
  bad_found new rs r u some none (row_text, is_written, added) =
      let row = of_bad_length (r.end - length r.bytes.now) in (
        u.rows ++ row ∷ [],
        u.texts ++ row_text ∷ [],
        u.goes_on (row ∷ []) true (Owes-bad d 0 rs (level_of (length rs) r) some none),
        one_more_written P u.rows u.texts row row_text u.written is_written,
        added ∙ ap (λ (t : List ℕ). t ++ row_text) u.text ∙ one_more_text before u.texts row_text,
      )

-- an AVP is no longer than the level
pub room : (v : PlainAvp) (level rest : List ℕ) → BeginsWith v level rest → avp_length v ≤ length level
room v level rest begins = omega (arith, length-level v level rest begins, rounded-le (avp_length v))

-- what is left to read, and how many levels wait
abbrev pub left_to_read : List ℕ → List Rest → ℕ
left_to_read rest outer = 2 * (length rest + bytes_left outer) + length outer

shorter : (v : PlainAvp) (level rest : List ℕ) → BeginsWith v level rest → length rest + length v.bytes < length level
shorter v level rest begins = omega (arith, length-level v level rest begins, rounded-le (avp_length v), at_least_8 v.vendor)

pub less_after_avp : (v : PlainAvp) (level rest : List ℕ) (outer : List Rest) → BeginsWith v level rest → left_to_read rest outer < left_to_read level outer
less_after_avp v level rest outer begins = omega (arith, shorter v level rest begins)

pub less_inside : (v : PlainAvp) (level : List ℕ) (next : Rest) (outer waiting : List Rest) → BeginsWith v level next.bytes.now → waiting ≡ outer ++ next ∷ []
    → left_to_read v.bytes waiting < left_to_read level outer
less_inside v level next outer waiting begins is =
    rw is (omega (arith, sum_by-append (λ (r : Rest). length r.bytes.now) outer (next ∷ []), shorter v level next.bytes.now begins, length-append outer (next ∷ [])))

pub less_after_level : (level : List ℕ) (outer waiting : List Rest) (next : Rest) → outer ≡ waiting ++ next ∷ [] → left_to_read next.bytes.now waiting < left_to_read level outer
less_after_level level outer waiting next is = rw is (omega (arith, sum_by-append (λ (r : Rest). length r.bytes.now) waiting (next ∷ []), length-append waiting (next ∷ [])))

-- a level that begins at an offset ends after its bytes
pub level_at_place : (r : Rest) (place : ℕ) → r.end ≡ place + length r.bytes.now → level_of 0 r ≡ record { depth = 0; place = place; bytes = r.bytes.now }
level_at_place r place is_end = let begin : r.end - length r.bytes.now ≡ place = omega (arith, is_end) in ap (λ (n : ℕ). record { depth = 0; place = n; bytes = r.bytes.now }) begin
