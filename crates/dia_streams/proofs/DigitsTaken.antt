-- Digits that are taken one by one.
use Rattle.std.proofs.Common.{◌≡◌, ℕ, ◌+◌, ◌*◌, ◌<◌, Bool, true, false, List, [], ◌∷◌, ◌++◌, Option, None, Some, refl, sym, ap, subst, ◌∙◌, append_assoc, arith, not}
use Rattle.std.proofs.lemmas.Bool.Decides.{nat_tests}
use Rattle.std.proofs.lemmas.List.{append-nil, length-append}
use Rattle.std.proofs.lemmas.List.Elements.{filter-append}
use Rattle.hex.specs.Hex.{hex_digit_value}
use Rattle.dia_streams.specs.Streams.{AreSpelled, BeginsNoPair, IsPair, digits_of, is_white}
use Rattle.dia_streams.specs.StreamUnderWay.{IsHalf, AreDigits, AreStopped, AreTaken, Takes}

-- ---- digits

pub value_small : (c v : ℕ) → hex_digit_value c ≡ Some v → v < 16
value_small c v h = grind (arith, nat_tests)

pub no_white : (c v : ℕ) → hex_digit_value c ≡ Some v → is_white c ≡ false
no_white c v h = grind (arith, nat_tests)

-- digits after others
pub spelled_both : (s t a b : List ℕ) → AreSpelled s a → AreSpelled t b → AreSpelled (s ++ t) (a ++ b)
spelled_both [] t [] b h k = k
spelled_both [] t (byte ∷ a) b h k = absurd h
spelled_both (x ∷ []) t a b h k = absurd h
spelled_both (x ∷ y ∷ s) t [] b h k = absurd h
spelled_both (x ∷ y ∷ s) t (byte ∷ a) b h k = (h.0, spelled_both s t a b h.1 k)

no_pair_first : (c b byte : ℕ) → hex_digit_value c ≡ None → ¬ IsPair c b byte
no_pair_first c b byte none (x, y, is_x, is_y, is) = cc (sym none ∙ is_x)

no_pair_second : (a c byte : ℕ) → hex_digit_value c ≡ None → ¬ IsPair a c byte
no_pair_second a c byte none (x, y, is_x, is_y, is) = cc (sym none ∙ is_y)

stops_bad : (c : ℕ) (more : List ℕ) → hex_digit_value c ≡ None → BeginsNoPair (c ∷ more)
stops_bad c [] none = tt
stops_bad c (x ∷ more) none = λ byte. no_pair_first c x byte none

stops_after : (half : Option ℕ) (left more : List ℕ) (c : ℕ) → IsHalf half left → hex_digit_value c ≡ None → BeginsNoPair ((left ++ c ∷ []) ++ more)
stops_after None left more c is none = subst (λ (l : List ℕ). BeginsNoPair ((l ++ c ∷ []) ++ more)) (sym is) (stops_bad c more none)
stops_after (Some v) left more c (d, is, value) none =
    subst (λ (l : List ℕ). BeginsNoPair ((l ++ c ∷ []) ++ more)) (sym is) (λ byte. no_pair_second d c byte none)

pub stops_half : (half : Option ℕ) (left : List ℕ) → IsHalf half left → BeginsNoPair left
stops_half None left is = subst BeginsNoPair (sym is) tt
stops_half (Some v) left (d, is, value) = subst BeginsNoPair (sym is) tt

-- ---- one more digit

pub half_begun : (read before : List ℕ) (c v : ℕ) → hex_digit_value c ≡ Some v → AreDigits None read before → AreDigits (Some v) (read ++ c ∷ []) (before ++ [])
half_begun read before c v is a = record {
  digits = a.digits;
  left = c ∷ [];
  parts = ap (λ (r : List ℕ). r ++ c ∷ []) (a.parts ∙ ap (λ (l : List ℕ). a.digits ++ l) a.is_half ∙ append-nil a.digits);
  spelled = subst (AreSpelled a.digits) (sym (append-nil before)) a.spelled;
  is_half = (c, refl, is);
}

pub half_ended : (read before : List ℕ) (h c v byte : ℕ) → hex_digit_value c ≡ Some v → byte ≡ h * 16 + v → AreDigits (Some h) read before
    → AreDigits None (read ++ c ∷ []) (before ++ byte ∷ [])
half_ended read before h c v byte is is_byte a =
    let (d, left, value) = a.is_half in record {
      digits = a.digits ++ d ∷ c ∷ [];
      left = [];
      parts = ap (λ (r : List ℕ). r ++ c ∷ []) (a.parts ∙ ap (λ (l : List ℕ). a.digits ++ l) left) ∙ append_assoc a.digits (d ∷ []) (c ∷ [])
          ∙ sym (append-nil (a.digits ++ d ∷ c ∷ []));
      spelled = spelled_both a.digits (d ∷ c ∷ []) before (byte ∷ []) a.spelled ((h, v, value, is, is_byte), tt);
      is_half = refl;
    }

-- a digit's value fits its half of a byte
pub half_small : (half : ℕ) (read before : List ℕ) → AreDigits (Some half) read before → half < 16
half_small half read before a = let (d, left, value) = a.is_half in value_small d half value

-- ---- characters

pub Takes-nothing : (half : Option ℕ) (bytes : List ℕ) → Takes true half half bytes bytes []
Takes-nothing half bytes = record {
  more = [];
  grows = sym (append-nil bytes);
  taken = λ read before a. subst (λ (r : List ℕ). AreDigits half r (before ++ [])) (sym (append-nil read))
      (subst (AreDigits half read) (sym (append-nil before)) a);
}

pub Takes-white : (half : Option ℕ) (bytes : List ℕ) (c : ℕ) → is_white c ≡ true → Takes true half half bytes bytes (c ∷ [])
Takes-white half bytes c white = let none : digits_of (c ∷ []) ≡ [] = rw white refl in record {
  more = [];
  grows = sym (append-nil bytes);
  taken = λ read before a. subst (λ (t : List ℕ). AreDigits half (read ++ t) (before ++ [])) (sym none)
      (subst (λ (r : List ℕ). AreDigits half r (before ++ [])) (sym (append-nil read)) (subst (AreDigits half read) (sym (append-nil before)) a));
}

pub Takes-digit : (half_old half : Option ℕ) (bytes_old bytes more : List ℕ) (c v : ℕ) → hex_digit_value c ≡ Some v → bytes ≡ bytes_old ++ more
    → ((digit : ℕ) → hex_digit_value digit ≡ Some v → (read before : List ℕ) → AreDigits half_old read before → AreDigits half (read ++ digit ∷ []) (before ++ more))
    → Takes true half_old half bytes_old bytes (c ∷ [])
Takes-digit half_old half bytes_old bytes more c v is grows added = let some : digits_of (c ∷ []) ≡ c ∷ [] = rw (no_white c v is) refl in record {
  more = more;
  grows = grows;
  taken = λ read before a. subst (λ (t : List ℕ). AreDigits half (read ++ t) (before ++ more)) (sym some) (added c is read before a);
}

pub Takes-bad : (half half_new : Option ℕ) (bytes : List ℕ) (c : ℕ) → hex_digit_value c ≡ None → is_white c ≡ false → Takes false half half_new bytes bytes (c ∷ [])
Takes-bad half half_new bytes c none black = let some : digits_of (c ∷ []) ≡ c ∷ [] = rw black refl in record {
  more = [];
  grows = sym (append-nil bytes);
  taken = λ read before a. record {
    digits = a.digits;
    left = a.left ++ c ∷ [];
    parts = ap (λ (t : List ℕ). read ++ t) some ∙ ap (λ (r : List ℕ). r ++ c ∷ []) a.parts ∙ append_assoc a.digits a.left (c ∷ []);
    spelled = subst (AreSpelled a.digits) (sym (append-nil before)) a.spelled;
    some = let l = length-append a.left (c ∷ []) in omega (arith, l);
    stops = λ more. stops_after half a.left more c a.is_half none;
  };
}

pub digits_both : (s t : List ℕ) → digits_of (s ++ t) ≡ digits_of s ++ digits_of t
digits_both s t = filter-append (λ c. not (is_white c)) s t

AreTaken-at : (good : Bool) (half : Option ℕ) (r r' b b' : List ℕ) → r ≡ r' → b ≡ b' → AreTaken good half r b → AreTaken good half r' b'
AreTaken-at good half r r' b b' same_read same_bytes a = subst (λ (x : List ℕ). AreTaken good half x b') same_read (subst (λ (x : List ℕ). AreTaken good half r x) same_bytes a)

pub Takes-both : (good : Bool) (h0 h1 h2 : Option ℕ) (b0 b1 b2 s t : List ℕ) → Takes true h0 h1 b0 b1 s → Takes good h1 h2 b1 b2 t → Takes good h0 h2 b0 b2 (s ++ t)
Takes-both good h0 h1 h2 b0 b1 b2 s t x y = record {
  more = x.more ++ y.more;
  grows = y.grows ∙ ap (λ (b : List ℕ). b ++ y.more) x.grows ∙ append_assoc b0 x.more y.more;
  taken = λ read before a. AreTaken-at good h2 ((read ++ digits_of s) ++ digits_of t) (read ++ digits_of (s ++ t)) ((before ++ x.more) ++ y.more) (before ++ (x.more ++ y.more))
      (append_assoc read (digits_of s) (digits_of t) ∙ ap (λ (d : List ℕ). read ++ d) (sym (digits_both s t)))
      (append_assoc before x.more y.more)
      (y.taken (read ++ digits_of s) (before ++ x.more) (x.taken read before a));
}

-- what follows a character that is no digit is not looked at
pub AreStopped-more : (read before more : List ℕ) → AreStopped read before → AreStopped (read ++ more) before
AreStopped-more read before more a = record {
  digits = a.digits;
  left = a.left ++ more;
  parts = ap (λ (r : List ℕ). r ++ more) a.parts ∙ append_assoc a.digits a.left more;
  spelled = a.spelled;
  some = let l = length-append a.left more in let s = a.some in omega (arith, l, s);
  stops = λ rest. subst BeginsNoPair (sym (append_assoc a.left more rest)) (a.stops (more ++ rest));
}

pub Takes-stopped : (h0 h h' : Option ℕ) (b0 b s t : List ℕ) → Takes false h0 h b0 b s → Takes false h0 h' b0 b (s ++ t)
Takes-stopped h0 h h' b0 b s t x = record {
  more = x.more;
  grows = x.grows;
  taken = λ read before a. subst (λ (d : List ℕ). AreStopped d (before ++ x.more))
      (append_assoc read (digits_of s) (digits_of t) ∙ ap (λ (d : List ℕ). read ++ d) (sym (digits_both s t)))
      (AreStopped-more (read ++ digits_of s) (before ++ x.more) (digits_of t) (x.taken read before a));
}

-- ---- all digits

-- digits spell bytes up to some place
pub record SpelledFront (ds : List ℕ) : Type 0 where
  pub digits : List ℕ
  pub left : List ℕ
  pub bytes : List ℕ
  pub parts : ds ≡ digits ++ left
  pub spelled : AreSpelled digits bytes
  pub stops : BeginsNoPair left

nothing_spelled : (ds : List ℕ) → BeginsNoPair ds → SpelledFront ds
nothing_spelled ds stops = record { digits = []; left = ds; bytes = []; parts = refl; spelled = tt; stops = stops }

pub spelled_front : (ds : List ℕ) → SpelledFront ds
spelled_front [] = nothing_spelled [] tt
spelled_front (d ∷ []) = nothing_spelled (d ∷ []) tt
spelled_front (a ∷ b ∷ ds) = by (hex_digit_value a) (hex_digit_value b) refl refl (spelled_front ds)
  where
    by : (x y : Option ℕ) → hex_digit_value a ≡ x → hex_digit_value b ≡ y → SpelledFront ds → SpelledFront (a ∷ b ∷ ds)
    by None y is_x is_y rest = nothing_spelled (a ∷ b ∷ ds) (λ byte. no_pair_first a b byte is_x)
    by (Some h) None is_x is_y rest = nothing_spelled (a ∷ b ∷ ds) (λ byte. no_pair_second a b byte is_y)
    by (Some h) (Some l) is_x is_y rest = record {
      digits = a ∷ b ∷ rest.digits;
      left = rest.left;
      bytes = (h * 16 + l) ∷ rest.bytes;
      parts = ap (λ (t : List ℕ). a ∷ b ∷ t) rest.parts;
      spelled = ((h, l, is_x, is_y, refl), rest.spelled);
      stops = rest.stops;
    }

-- no digit
pub Takes-not : (good : Bool) (half half_new : Option ℕ) (bytes : List ℕ) (c : ℕ) → hex_digit_value c ≡ None → good ≡ is_white c → half_new ≡ half
    → Takes good half half_new bytes bytes (c ∷ [])
Takes-not true half half_new bytes c none white same = rw same (Takes-white half bytes c (sym white))
Takes-not false half half_new bytes c none black same = Takes-bad half half_new bytes c none (sym black)
