-- What is kept of levels, where one more is opened, and where one of them has one more AVP.
use Rattle.std.proofs.Common.{◌≡◌, ℕ, ◌+◌, Bool, true, false, cond, List, [], ◌∷◌, ◌++◌, refl, sym, ap, ◌∙◌}
use Rattle.std.specs.Prelude.{max, not, ◌||◌, ◌&&◌, unwrap_or}
use Rattle.std.specs.List.{list_any}
use Rattle.std.proofs.lemmas.List.Folds.{list_any-append}
use Rattle.indexmap.specs.IndexMap.{get}
use Rattle.indexmap.specs.IndexSet.{contains}
use Rattle.dia_wire.specs.declared.Key.{Key}
use Rattle.dia_wire.specs.Wire.{PlainAvp, key_of}
use Rattle.dia_book.specs.Keys.{same_key}
use Rattle.dia_book.proofs.SameKeys.{same_key-true}
use Rattle.dia_learn.specs.declared.place.Place.{Place}
use Rattle.dia_learn.specs.declared.seen.Flags.{Flags}
use Rattle.dia_learn.specs.declared.seen.Seen.{Seen}
use Rattle.dia_learn.specs.Levels.{PlainLevel, has_m, same_place, same_spot}
use Rattle.dia_learn.specs.Kept.{IsKept, count_of, flags_of, greatest, has_clear, has_set, is_in, most_of, no_flags, with_flag}
use Rattle.dia_learn.proofs.Counting.{count_more, greatest_more, max_zero}

-- ---- a level is opened

added : (b x y : Bool) → x ≡ y → cond b true x ≡ (b || y)
added true x y e = refl
added false x y e = e

no_more : (b : Bool) (n : ℕ) → n ≡ cond b (max 0 n) n
no_more true n = max_zero n
no_more false n = refl

pub kept_opened : (place : Place) (ls : List PlainLevel) (old new : Seen) → ((w : Place) → is_in new w ≡ cond (same_place place w) true (is_in old w)) → new.flags ≡ old.flags → new.most ≡ old.most
    → IsKept ls old → IsKept (record { place = place; avps = [] } ∷ ls) new
kept_opened place ls old new places flags most before = record {
  places = λ w. places w ∙ added (same_place place w) _ _ (before.places w);
  most = λ w k. ap (λ m. unwrap_or (get same_spot m (record { place = w; key = k })) 0) most ∙ before.most w k ∙ no_more (same_place place w) (greatest ls w k);
  set = λ k. ap (λ m. (unwrap_or (get same_key m k) no_flags).set) flags ∙ before.set k;
  clear = λ k. ap (λ m. (unwrap_or (get same_key m k) no_flags).clear) flags ∙ before.clear k;
}

-- ---- a level has one more AVP

regrouped : (a m r : Bool) → ((a || r) || m) ≡ ((a || (m || false)) || r)
regrouped true m r = refl
regrouped false true true = refl
regrouped false true false = refl
regrouped false false true = refl
regrouped false false false = refl

one_flag : (same flag a r old : Bool) → old ≡ (a || r) → cond same (old || flag) old ≡ ((a || ((same && flag) || false)) || r)
one_flag true flag a r old e = ap (λ (b : Bool). b || flag) e ∙ regrouped a flag r
one_flag false flag true r old e = e
one_flag false flag false r old e = e

set_of : (same m : Bool) (f : Flags) → (cond same (with_flag m f) f).set ≡ cond same (f.set || m) f.set
set_of true m f = refl
set_of false m f = refl

clear_of : (same m : Bool) (f : Flags) → (cond same (with_flag m f) f).clear ≡ cond same (f.clear || not m) f.clear
clear_of true m f = refl
clear_of false m f = refl

pub kept_noted : (place : Place) (avps : List PlainAvp) (v : PlainAvp) (ls : List PlainLevel) (old new : Seen) (count : ℕ) → count ≡ count_of (key_of v) avps + 1 → new.places ≡ old.places
    → ((k : Key) → flags_of new k ≡ cond (same_key (key_of v) k) (with_flag (has_m v.flags) (flags_of old k)) (flags_of old k))
    → ((w : Place) (k : Key) → most_of new w k ≡ cond (same_spot (record { place = place; key = key_of v }) (record { place = w; key = k })) (max count (most_of old w k)) (most_of old w k))
    → IsKept (record { place = place; avps = avps } ∷ ls) old → IsKept (record { place = place; avps = avps ++ v ∷ [] } ∷ ls) new
kept_noted place avps v ls old new count is places flags most before = record {
  places = λ w. ap (λ s. contains same_place s w) places ∙ before.places w;
  most = λ w k. most w k ∙ greatest_more (same_place place w) (same_key (key_of v) k) count (count_of k avps) (count_of k (avps ++ v ∷ [])) (most_of old w k) (greatest ls w k) (before.most w k)
      (count_more k avps v) (λ e. is ∙ ap (λ (q : Key). count_of q avps + 1) (same_key-true (key_of v) k e));
  set = λ k.
      let test : PlainAvp → Bool = λ x. same_key (key_of x) k && has_m x.flags in
      ap (λ (f : Flags). f.set) (flags k) ∙ set_of (same_key (key_of v) k) (has_m v.flags) (flags_of old k)
      ∙ one_flag (same_key (key_of v) k) (has_m v.flags) (list_any test avps) (has_set ls k) (flags_of old k).set (before.set k) ∙ ap (λ (b : Bool). b || has_set ls k) (sym (list_any-append test avps (v ∷ [])));
  clear = λ k.
      let test : PlainAvp → Bool = λ x. same_key (key_of x) k && not (has_m x.flags) in
      ap (λ (f : Flags). f.clear) (flags k) ∙ clear_of (same_key (key_of v) k) (has_m v.flags) (flags_of old k)
      ∙ one_flag (same_key (key_of v) k) (not (has_m v.flags)) (list_any test avps) (has_clear ls k) (flags_of old k).clear (before.clear k) ∙ ap (λ (b : Bool). b || has_clear ls k) (sym (list_any-append test avps (v ∷ [])));
}
