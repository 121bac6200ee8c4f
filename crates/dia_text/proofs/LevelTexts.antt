-- The lines of a level under way, with what is left of the levels round it in a list, the outermost first.
use Rattle.std.proofs.Common.{◌≡◌, ℕ, ◌+◌, ◌-◌, ◌*◌, ◌<◌, ◌≤◌, ◌↔◌, true, false, List, [], ◌∷◌, ◌++◌}
use Rattle.std.proofs.Common.{length, take, drop, Bor, flat_map, sum_by, refl, sym, ap, subst, ◌∙◌, append_assoc, append-nil, arith}
use Rattle.std.specs.List.{AllByRecursion}
use Rattle.std.proofs.lemmas.List.Sums.{sum_by-append}
use Rattle.std.proofs.lemmas.List.{length-append, length-drop, append_cancel_left, take_all, take_at, flat_map_more}
use Rattle.dia_wire.specs.Wire.{PlainAvp, Spells, SpellsAll, BeginsWith, BeginsWithNone, avp_length}
use Rattle.dia_wire.proofs.Spelling.{one_spelling, opened, rounded-le, at_least_8}
use Rattle.dia_book.specs.Dictionary.{Dictionary}
use Rattle.dia_book.proofs.Members.{append-none}
use Rattle.dia_text.specs.LineTexts.{leaf_line, open_line, close_line}
use Rattle.dia_text.specs.TextOf.{AreAvps, IsOpened, IsLevelText, end, leaf, group, after_data, fed, AfterData, AddsAvp, AddsLevel}

-- ---- levels that are AVPs to their end

pub avps_after : (v : PlainAvp) (level front rest : List ℕ) → Spells v front → level ≡ front ++ rest → AreAvps level → AreAvps rest
avps_after v level front rest s parts ([], none) = ([], (append-none front rest (sym parts ∙ none)).1)
avps_after v level front rest s parts (w ∷ ws, (f, r, t, parts', all)) =
    let joined : front ++ rest ≡ f ++ r = sym parts ∙ parts' in
    let fronts : front ≡ f = (one_spelling v w front f rest r s t joined).1 in
    let rests : rest ≡ r = append_cancel_left front rest r (joined ∙ ap (λ (x : List ℕ). x ++ r) (sym fronts)) in
    (ws, subst (SpellsAll ws) (sym rests) all)

pub avps_from : (v : PlainAvp) (level front rest : List ℕ) → Spells v front → level ≡ front ++ rest → AreAvps rest → AreAvps level
avps_from v level front rest s parts (vs, all) = (v ∷ vs, (front, rest, s, parts, all))

pub no_avps : (level : List ℕ) → 0 < length level → BeginsWithNone level → ¬ AreAvps level
no_avps level some none ([], is) = absurd (omega (arith, some, ap length is))
no_avps level some none (w ∷ ws, (f, r, s, parts, all)) = none w r (f, s, parts)

pub empty_avps : (level : List ℕ) → length level ≡ 0 → level ≡ []
empty_avps [] h = refl
empty_avps (b ∷ level) h = absurd (omega (arith, h))

pub empty_level : (level : List ℕ) → length level ≡ 0 → AreAvps level
empty_level level h = ([], empty_avps level h)

pub avps_step : (v : PlainAvp) (level rest : List ℕ) → BeginsWith v level rest → AreAvps rest ↔ AreAvps level
avps_step v level rest (front, s, parts) = (λ h. avps_from v level front rest s parts h, λ h. avps_after v level front rest s parts h)

pub length-level : (v : PlainAvp) (level front rest : List ℕ) → Spells v front → level ≡ front ++ rest → length level ≡ length front + length rest
length-level v level front rest s parts = ap length parts ∙ length-append front rest

-- where the data ends
pub room : (v : PlainAvp) (level rest : List ℕ) → BeginsWith v level rest → avp_length v + length rest ≤ length level
room v level rest (front, s, parts) = omega (arith, length-level v level front rest s parts, (opened v front [] s).front_length, rounded-le (avp_length v))

pub shorter : (v : PlainAvp) (level rest : List ℕ) → BeginsWith v level rest → length rest + length v.bytes < length level
shorter v level rest begins = omega (arith, room v level rest begins, at_least_8 v.vendor)

-- what is left to read, and how many levels wait
abbrev pub left_to_read : List ℕ → List (Bor (List ℕ)) → ℕ
left_to_read rest outer = 2 * (length rest + sum_by (λ (r : Bor (List ℕ)). length r.now) outer) + length outer

pub less_following : (v : PlainAvp) (level rest : List ℕ) (outer : List (Bor (List ℕ))) → BeginsWith v level rest → left_to_read rest outer < left_to_read level outer
less_following v level rest outer begins = omega (arith, shorter v level rest begins)

pub less_inside : (v : PlainAvp) (level : List ℕ) (rest : Bor (List ℕ)) (outer waiting : List (Bor (List ℕ))) → BeginsWith v level rest.now → waiting ≡ outer ++ rest ∷ []
    → left_to_read v.bytes waiting < left_to_read level outer
less_inside v level rest outer waiting begins is =
    let size = sum_by-append (λ (r : Bor (List ℕ)). length r.now) outer (rest ∷ []) in
    rw is (omega (arith, size, shorter v level rest.now begins, length-append outer (rest ∷ [])))

pub less_after : (level : List ℕ) (outer waiting : List (Bor (List ℕ))) (next : Bor (List ℕ)) → outer ≡ waiting ++ next ∷ [] → left_to_read next.now waiting < left_to_read level outer
less_after level outer waiting next is =
    let size = sum_by-append (λ (r : Bor (List ℕ)). length r.now) waiting (next ∷ []) in
    rw is (omega (arith, size, length-append waiting (next ∷ [])))

pub pad_of : (v : PlainAvp) (level rest part : List ℕ) (n : ℕ) → n ≡ avp_length v → part ≡ take (length level - length rest) level → AfterData v level rest (take (length part - n) (drop n part))
pad_of v level rest part n is_length is_part = λ front s parts.
    let size : length front ≡ length level - length rest = omega (arith, length-level v level front rest s parts) in
    let whole : part ≡ front = is_part ∙ ap (take (length level - length rest)) parts ∙ take_at front rest (length level - length rest) size in
    take_all (length part - n) (drop n part) (omega (arith, length-drop n part)) ∙ ap (λ (k : ℕ). drop k part) is_length ∙ ap (drop (avp_length v)) whole

-- ---- the lines that are still to come

-- the lines of a level, and behind them those of what is left of the levels round it
abbrev pub Owes : Dictionary → List (Bor (List ℕ)) → List ℕ → List (List ℕ) → Type 0
Owes d [] level lines = IsLevelText d level lines
Owes d (r ∷ rs) level lines = (inner : List (List ℕ)) × (after : List (List ℕ)) × Owes d rs level inner × IsLevelText d r.now after × (lines ≡ inner ++ (close_line ∷ after))

-- a line in front of those of a level is one in front of all
Owes-front : (d : Dictionary) (rs : List (Bor (List ℕ))) (level next l : List ℕ) (more : List (List ℕ)) → ((t : List (List ℕ)) → IsLevelText d next t → IsLevelText d level (l ∷ t)) → Owes d rs next more
    → Owes d rs level (l ∷ more)
Owes-front d [] level next l more f h = f more h
Owes-front d (r ∷ rs) level next l more f (inner, after, h, rest, parts) = (l ∷ inner, after, Owes-front d rs level next l inner f h, rest, ap (λ (t : List (List ℕ)). l ∷ t) parts)

Owes-group : (d : Dictionary) (rs : List (Bor (List ℕ))) (r : Bor (List ℕ)) (level front : List ℕ) (v : PlainAvp) (more : List (List ℕ)) → Spells v front → level ≡ front ++ r.now → IsOpened d v
    → Owes d (rs ++ (r ∷ [])) v.bytes more → Owes d rs level (open_line d v ∷ more)
Owes-group d [] r level front v more s parts is_opened (inner, after, h, rest, is) = group v front r.now inner after s parts is_opened h rest (ap (λ (t : List (List ℕ)). open_line d v ∷ t) is)
Owes-group d (q ∷ rs) r level front v more s parts is_opened (inner, after, h, rest, is) =
    (open_line d v ∷ inner, after, Owes-group d rs r level front v inner s parts is_opened h, rest, ap (λ (t : List (List ℕ)). open_line d v ∷ t) is)

Owes-end : (d : Dictionary) (rs : List (Bor (List ℕ))) (r : Bor (List ℕ)) (level : List ℕ) (more : List (List ℕ)) → level ≡ [] → Owes d rs r.now more → Owes d (rs ++ (r ∷ [])) level (close_line ∷ more)
Owes-end d [] r level more none h = ([], more, end none refl, h, refl)
Owes-end d (q ∷ rs) r level more none (inner, after, h, rest, is) =
    (close_line ∷ inner, after, Owes-end d rs r level inner none h, rest, ap (λ (t : List (List ℕ)). close_line ∷ t) is)

-- ---- the loop

abbrev pub AreRead : List (Bor (List ℕ)) → Type 0
AreRead rs = AllByRecursion (λ (r : Bor (List ℕ)). AreAvps r.now) rs

read_push : (rs : List (Bor (List ℕ))) (r : Bor (List ℕ)) → AreRead rs → AreAvps r.now → AreRead (rs ++ (r ∷ []))
read_push [] r all h = (h, tt)
read_push (q ∷ rs) r (here, all) h = (here, read_push rs r all h)

read_pop : (rs : List (Bor (List ℕ))) (r : Bor (List ℕ)) → AreRead (rs ++ (r ∷ [])) → AreRead rs × AreAvps r.now
read_pop [] r (h, all) = (tt, h)
read_pop (q ∷ rs) r (here, all) = let made = read_pop rs r all in ((here, made.0), made.1)

-- the lines so far, and those that are still to come, are those of the whole level; and each level is AVPs to its end, if the whole is
pub record IsUnderWay (d : Dictionary) (whole before now : List ℕ) (rs : List (Bor (List ℕ))) (rest : List ℕ) : Type 0 where
  pub lines : List (List ℕ)
  pub text : now ≡ before ++ flat_map fed lines
  pub reads : AreAvps whole → AreAvps rest × AreRead rs
  pub goes_on : (more : List (List ℕ)) → Owes d rs rest more → IsLevelText d whole (lines ++ more)

pub started : (d : Dictionary) (whole before : List ℕ) → IsUnderWay d whole before before [] whole
started d whole before = record { lines = []; text = sym (append-nil before); reads = λ h. (h, tt); goes_on = λ more h. h }

line_more : (lines : List (List ℕ)) (l before now new : List ℕ) → now ≡ before ++ flat_map fed lines → new ≡ now ++ fed l → new ≡ before ++ flat_map fed (lines ++ (l ∷ []))
line_more lines l before now new so_far is_new = is_new ∙ ap (λ (t : List ℕ). t ++ fed l) so_far ∙ flat_map_more fed before lines l

pub leaf_written : (d : Dictionary) (whole before now new : List ℕ) (rs : List (Bor (List ℕ))) (rest next pad : List ℕ) (v : PlainAvp) → IsUnderWay d whole before now rs rest → BeginsWith v rest next
    → AfterData v rest next pad → AddsAvp d v pad now new false → IsUnderWay d whole before new rs next
leaf_written d whole before now new rs rest next pad v u (front, s, parts) is_pad (not_opened, (word, is_word, is_new)) =
    let line = leaf_line d v word (after_data v front) in
    let added : new ≡ now ++ fed line = is_new ∙ ap (λ (t : List ℕ). now ++ fed (leaf_line d v word t)) (is_pad front s parts) in
    record {
      lines = u.lines ++ (line ∷ []);
      text = line_more u.lines line before now new u.text added;
      reads = λ h. let both = u.reads h in (avps_after v rest front next s parts both.0, both.1);
      goes_on = λ more h. subst (IsLevelText d whole) (sym (append_assoc u.lines (line ∷ []) more))
          (u.goes_on (line ∷ more) (Owes-front d rs rest next line more (λ t k. leaf v front next word t s parts not_opened is_word k refl) h));
    }

pub group_entered : (d : Dictionary) (whole before now new : List ℕ) (rs : List (Bor (List ℕ))) (rest pad inner : List ℕ) (next : Bor (List ℕ)) (v : PlainAvp) → IsUnderWay d whole before now rs rest
    → BeginsWith v rest next.now → inner ≡ v.bytes → AddsAvp d v pad now new true → IsUnderWay d whole before new (rs ++ (next ∷ [])) inner
group_entered d whole before now new rs rest pad inner next v u (front, s, parts) is_data (is_opened, is_new) =
    let line = open_line d v in
    record {
      lines = u.lines ++ (line ∷ []);
      text = line_more u.lines line before now new u.text is_new;
      reads = λ h. let both = u.reads h in (subst AreAvps (sym is_data) is_opened.1, read_push rs next both.1 (avps_after v rest front next.now s parts both.0));
      goes_on = λ more h. subst (IsLevelText d whole) (sym (append_assoc u.lines (line ∷ []) more))
          (u.goes_on (line ∷ more) (Owes-group d rs next rest front v more s parts is_opened (subst (λ (t : List ℕ). Owes d (rs ++ (next ∷ [])) t more) is_data h)));
    }

pub level_ended : (d : Dictionary) (whole before now new : List ℕ) (all rs : List (Bor (List ℕ))) (rest : List ℕ) (next : Bor (List ℕ)) → IsUnderWay d whole before now all rest → all ≡ rs ++ (next ∷ []) → length rest ≡ 0
    → new ≡ now ++ fed close_line → IsUnderWay d whole before new rs next.now
level_ended d whole before now new all rs rest next u is_all none is_new = record {
  lines = u.lines ++ (close_line ∷ []);
  text = line_more u.lines close_line before now new u.text is_new;
  reads = λ h. let both = read_pop rs next (subst AreRead is_all (u.reads h).1) in (both.1, both.0);
  goes_on = λ more h. subst (IsLevelText d whole) (sym (append_assoc u.lines (close_line ∷ []) more))
      (u.goes_on (close_line ∷ more) (subst (λ (qs : List (Bor (List ℕ))). Owes d qs rest (close_line ∷ more)) (sym is_all) (Owes-end d rs next rest more (empty_avps rest none) h)));
}

pub all_ended : (d : Dictionary) (whole before now : List ℕ) (rs : List (Bor (List ℕ))) (rest : List ℕ) → IsUnderWay d whole before now rs rest → length rs ≡ 0 → length rest ≡ 0 → AddsLevel d whole before now
all_ended d whole before now (q ∷ rs) rest u is_last none = absurd (omega (arith, is_last))
all_ended d whole before now [] rest u is_last none =
    (u.lines, subst (IsLevelText d whole) (append-nil u.lines) (u.goes_on [] (end (empty_avps rest none) refl)), u.text)

pub bad_found : (d : Dictionary) (whole before now : List ℕ) (rs : List (Bor (List ℕ))) (rest : List ℕ) → IsUnderWay d whole before now rs rest → 0 < length rest → BeginsWithNone rest → ¬ AreAvps whole
bad_found d whole before now rs rest u some none = λ h. no_avps rest some none (u.reads h).0
