-- A stream that is reported as it is read.
use Rattle.std.proofs.Common.{◌≡◌, ◌≢◌, ℕ, ◌+◌, ◌<◌, Bool, true, false, not, cond, List, [], ◌∷◌, ◌++◌, length, take, Option, None, Some, refl, sym, ap, subst, ◌∙◌, append_assoc, arith, inl, inr, ◌≤◌}
use Rattle.std.specs.Prelude.{string_bytes, ◌==◌, is_some}
use Rattle.std.proofs.lemmas.Bool.{eqb-true}
use Rattle.std.specs.List.{flat_map}
use Rattle.std.proofs.lemmas.Grind.{flat_map-append}
use Rattle.std.proofs.lemmas.List.{append-nil, length-append, take-append-le}
use Rattle.std.proofs.lemmas.List.Concat.{flat_map-cons}
use Rattle.dia_streams.proofs.LinesUnderWay.{Sees-both, Sees-nothing}
use Rattle.dia_streams.specs.declared.recorded.Recorded.{Recorded}
use Rattle.dia_streams.specs.declared.streamed.Streamed.{Streamed}
use Rattle.dia_streams.specs.Streams.{AreSpelled, AreRecorded, none, message, IsEndRecorded, nothing, part, endless, no_digits, IsEndless, IsMessage, IsPart, IsStreamRecorded, Spells, digits_of, is_white}
use Rattle.dia_streams.specs.StreamUnderWay.{AreDigits, AreTaken, Takes, HasRecorded, Adds, RecordsWhole, BeginsNone, IsUnderWay, Reads, Ends}
use Rattle.dia_streams.proofs.DigitsTaken.{digits_both, spelled_both, spelled_front, stops_half}
use Rattle.dia_streams.proofs.Fronts.{endless_on}

-- the report of one verdict
one_recorded : {V : Type 0} (recorded : V → List ℕ) (verdict : V) (old new : List ℕ) → new ≡ old ++ recorded verdict → new ≡ old ++ flat_map recorded (verdict ∷ [])
one_recorded recorded verdict old new h = h ∙ ap (λ (t : List ℕ). old ++ t) (sym (flat_map-cons recorded verdict [] ∙ append-nil (recorded verdict)))

-- the report of verdicts, and then of more
both_recorded : {V : Type 0} (recorded : V → List ℕ) (xs ys : List V) (a b c : List ℕ) → b ≡ a ++ flat_map recorded xs → c ≡ b ++ flat_map recorded ys
    → c ≡ a ++ flat_map recorded (xs ++ ys)
both_recorded recorded xs ys a b c h k = k ∙ ap (λ (t : List ℕ). t ++ flat_map recorded ys) h ∙ append_assoc a (flat_map recorded xs) (flat_map recorded ys)
    ∙ ap (λ (t : List ℕ). a ++ t) (sym (flat_map-append recorded xs ys))

-- what digits that were taken spell
record SpelledSoFar (read bytes : List ℕ) : Type 0 where
  pub digits : List ℕ
  pub left : List ℕ
  pub parts : read ≡ digits ++ left
  pub spelled : AreSpelled digits bytes

so_far : (good : Bool) (half : Option ℕ) (read bytes : List ℕ) → AreTaken good half read bytes → SpelledSoFar read bytes
so_far true half read bytes a = record { digits = a.digits; left = a.left; parts = a.parts; spelled = a.spelled }
so_far false half read bytes a = record { digits = a.digits; left = a.left; parts = a.parts; spelled = a.spelled }

-- digits are no fewer than the bytes that they spell, and characters no fewer than their digits
spelled_long : (digits bytes : List ℕ) → AreSpelled digits bytes → length bytes ≤ length digits
spelled_long [] [] h = omega arith
spelled_long [] (byte ∷ bytes) h = absurd h
spelled_long (x ∷ []) bytes h = absurd h
spelled_long (x ∷ y ∷ digits) [] h = absurd h
spelled_long (x ∷ y ∷ digits) (byte ∷ bytes) h = let ih = spelled_long digits bytes h.1 in omega (arith, ih)

digits_short : (text : List ℕ) → length (digits_of text) ≤ length text
digits_short [] = omega arith
digits_short (c ∷ text) = by (not (is_white c)) (digits_short text)
  where
    by : (b : Bool) → length (digits_of text) ≤ length text → length (cond b (c ∷ digits_of text) (digits_of text)) ≤ length (c ∷ text)
    by true ih = omega (arith, ih)
    by false ih = omega (arith, ih)

-- the bytes before, those of a piece, and how they are reported
regroup : (whole kept more all w rest : List ℕ) → all ≡ kept ++ more → all ≡ w ++ rest → (whole ++ kept) ++ more ≡ (whole ++ w) ++ rest
regroup whole kept more all w rest grows parts =
    append_assoc whole kept more ∙ ap (λ (b : List ℕ). whole ++ b) (sym grows ∙ parts) ∙ sym (append_assoc whole w rest)

module _ {V : Type 0} (P : Option (List ℕ) → V → Type 0) where
  -- one message more
  AreRecorded-more : (at : ℕ) (whole : List ℕ) (verdicts : List (ℕ × V)) (first : List ℕ) (verdict : V) → AreRecorded P at whole verdicts → IsMessage first
      → P (Some first) verdict → AreRecorded P at (whole ++ first) (verdicts ++ (at + length whole, verdict) ∷ [])
  AreRecorded-more at _ _ first verdict none is says =
      let place : at + 0 ≡ at = omega arith in
      message first [] verdict [] is says none (sym (append-nil first)) (ap (λ (n : ℕ). (n, verdict) ∷ []) place)
  AreRecorded-more at whole verdicts first verdict (message a rest v others is_a says_a h bytes are) is says =
      let size = ap length bytes ∙ length-append a rest in
      let place : at + length whole ≡ (at + length a) + length rest = omega (arith, size) in
      message a (rest ++ first) v (others ++ ((at + length a) + length rest, verdict) ∷ []) is_a says_a
      (AreRecorded-more (at + length a) rest others first verdict h is says)
      (ap (λ (b : List ℕ). b ++ first) bytes ∙ append_assoc a rest first)
      (ap (λ (vs : List (ℕ × V)). vs ++ (at + length whole, verdict) ∷ []) are ∙ ap (λ (n : ℕ). (at, v) ∷ (others ++ (n, verdict) ∷ [])) place)

  HasRecorded-more : (now new : Recorded) (whole : List ℕ) (verdicts : List (ℕ × V)) (first : List ℕ) (verdict : V) → HasRecorded P now whole verdicts → IsMessage first
      → P (Some first) verdict → new.at ≡ now.at + length first → HasRecorded P new (whole ++ first) (verdicts ++ (now.at, verdict) ∷ [])
  HasRecorded-more now new whole verdicts first verdict h is says at =
      let here = h.at in
      let size = length-append whole first in
      let place : 0 + length whole ≡ now.at = omega (arith, here) in record {
        recorded = subst (λ (n : ℕ). AreRecorded P 0 (whole ++ first) (verdicts ++ (n, verdict) ∷ [])) place (AreRecorded-more 0 whole verdicts first verdict h.recorded is says);
        at = omega (arith, here, size, at);
      }

  -- the verdict on what follows whole messages
  whole_stream : (read bytes left rest : List ℕ) (verdict : V) (now : Recorded) (whole : List ℕ) (verdicts : List (ℕ × V)) → HasRecorded P now whole verdicts
      → Spells read bytes left → bytes ≡ whole ++ rest → IsEndRecorded P (length whole) rest left ((length whole, verdict) ∷ [])
      → IsStreamRecorded P read (verdicts ++ (now.at, verdict) ∷ [])
  whole_stream read bytes left rest verdict now whole verdicts h spells parts end = record {
    bytes = bytes;
    left = left;
    whole = whole;
    rest = rest;
    earlier = verdicts;
    last = (length whole, verdict) ∷ [];
    spells = spells;
    parts = parts;
    recorded = h.recorded;
    end_recorded = end;
    are = ap (λ (n : ℕ). verdicts ++ (n, verdict) ∷ []) h.at;
  }

  digits_end : (now : Streamed) (read : List ℕ) (verdicts : List (ℕ × V)) → (u : IsUnderWay P now read verdicts) → Spells read (u.whole ++ now.digits.bytes.items) u.digits.left
  digits_end now read verdicts u = record {
    digits = u.digits.digits;
    parts = u.digits.parts;
    spelled = u.digits.spelled;
    stops = stops_half now.digits.half u.digits.left u.digits.is_half;
  }

  module _ {W : Type 0} (text : ℕ × V → List ℕ) (saw : W → List (ℕ × V) → Type 0) where
    pub RecordsWhole-nothing : (now : Recorded) (w : W) (bytes : List ℕ) → RecordsWhole P text saw now now w w bytes bytes
    RecordsWhole-nothing now w bytes = record {
      whole = [];
      verdicts = [];
      parts = refl;
      lines = sym (append-nil (string_bytes now.text));
      seen = Sees-nothing saw w;
      recorded = λ before earlier h. subst (λ (b : List ℕ). HasRecorded P now b (earlier ++ [])) (sym (append-nil before))
          (subst (HasRecorded P now before) (sym (append-nil earlier)) h);
    }

    pub RecordsWhole-more : (old now mid new : Recorded) (w x y : W) (bytes rest first following : List ℕ) (verdict : V) → RecordsWhole P text saw old now w x bytes rest
        → rest ≡ first ++ following → IsMessage first → P (Some first) verdict → Adds text saw now mid x y verdict
        → new.at ≡ mid.at + length first → string_bytes new.text ≡ string_bytes mid.text → RecordsWhole P text saw old new w y bytes following
    RecordsWhole-more old now mid new w x y bytes rest first following verdict t parts is says adds at same =
        let stays = adds.at in
        let place : new.at ≡ now.at + length first = omega (arith, stays, at) in record {
          whole = t.whole ++ first;
          verdicts = t.verdicts ++ (now.at, verdict) ∷ [];
          parts = t.parts ∙ ap (λ (b : List ℕ). t.whole ++ b) parts ∙ sym (append_assoc t.whole first following);
          lines = both_recorded text t.verdicts ((now.at, verdict) ∷ []) (string_bytes old.text) (string_bytes now.text) (string_bytes new.text) t.lines
              (one_recorded text (now.at, verdict) (string_bytes now.text) (string_bytes new.text) (same ∙ adds.line));
          seen = Sees-both saw w x y t.verdicts ((now.at, verdict) ∷ []) t.seen adds.seen;
          recorded = λ before earlier h. subst (λ (b : List ℕ). HasRecorded P new b (earlier ++ (t.verdicts ++ (now.at, verdict) ∷ []))) (append_assoc before t.whole first)
              (subst (HasRecorded P new ((before ++ t.whole) ++ first)) (append_assoc earlier t.verdicts ((now.at, verdict) ∷ []))
              (HasRecorded-more now new (before ++ t.whole) (earlier ++ t.verdicts) first verdict (t.recorded before earlier h) is says place));
        }

    -- the digits of a piece were taken, and its messages reported
    module _ (good : Bool) (half : Option ℕ) (all piece rest : List ℕ) (old : Streamed) (mid : Recorded) (w x : W)
        (takes : Takes good old.digits.half half old.digits.bytes.items all piece) (records : RecordsWhole P text saw old.recorded mid w x all rest) where
      taken : (read : List ℕ) (earlier : List (ℕ × V)) → (u : IsUnderWay P old read earlier) → AreTaken good half (digits_of (read ++ piece)) ((u.whole ++ records.whole) ++ rest)
      taken read earlier u = subst (λ (d : List ℕ). AreTaken good half d ((u.whole ++ records.whole) ++ rest)) (sym (digits_both read piece))
          (subst (AreTaken good half (digits_of read ++ digits_of piece))
          (regroup u.whole old.digits.bytes.items takes.more all records.whole rest takes.grows records.parts)
          (takes.taken (digits_of read) (u.whole ++ old.digits.bytes.items) u.digits))

      -- the last verdict was reported
      over : (new : Streamed) (y : W) (verdict : V) → Adds text saw mid new.recorded x y verdict
          → ((read : List ℕ) (earlier : List (ℕ × V)) → (u : IsUnderWay P old read earlier) → (chars : List ℕ)
          → (bytes : List ℕ) × (left : List ℕ) × (following : List ℕ) × Spells ((read ++ piece) ++ chars) bytes left
          × (bytes ≡ (u.whole ++ records.whole) ++ following)
          × IsEndRecorded P (length (u.whole ++ records.whole)) following left ((length (u.whole ++ records.whole), verdict) ∷ []))
          → Reads P text saw false old new w y piece
      over new y verdict adds ends = record {
        verdicts = records.verdicts ++ (mid.at, verdict) ∷ [];
        lines = both_recorded text records.verdicts ((mid.at, verdict) ∷ []) (string_bytes old.recorded.text) (string_bytes mid.text) (string_bytes new.recorded.text) records.lines
            (one_recorded text (mid.at, verdict) (string_bytes mid.text) (string_bytes new.recorded.text) adds.line);
        seen = Sees-both saw w x y records.verdicts ((mid.at, verdict) ∷ []) records.seen adds.seen;
        reads = λ read earlier u chars.
            let (bytes, left, following, spells, parts, end) = ends read earlier u chars in
            subst (IsStreamRecorded P ((read ++ piece) ++ chars)) (append_assoc earlier records.verdicts ((mid.at, verdict) ∷ []))
            (whole_stream ((read ++ piece) ++ chars) bytes left following verdict mid (u.whole ++ records.whole) (earlier ++ records.verdicts)
            (records.recorded u.whole earlier u.recorded) spells parts end);
      }

      -- the first bytes that are left begin no message
      pub Reads-endless : (new : Streamed) (y : W) (verdict : V) → IsEndless rest → P (Some (take 20 rest)) verdict → Adds text saw mid new.recorded x y verdict
          → Reads P text saw false old new w y piece
      Reads-endless new y verdict bad says adds = over new y verdict adds (λ read earlier u chars.
          let s = so_far good half (digits_of (read ++ piece)) ((u.whole ++ records.whole) ++ rest) (taken read earlier u) in
          let f = spelled_front (s.left ++ digits_of chars) in (
            ((u.whole ++ records.whole) ++ rest) ++ f.bytes,
            f.left,
            rest ++ f.bytes,
            record {
              digits = s.digits ++ f.digits;
              parts = digits_both (read ++ piece) chars ∙ ap (λ (d : List ℕ). d ++ digits_of chars) s.parts ∙ append_assoc s.digits s.left (digits_of chars)
                  ∙ ap (λ (d : List ℕ). s.digits ++ d) f.parts ∙ sym (append_assoc s.digits f.digits f.left);
              spelled = spelled_both s.digits f.digits ((u.whole ++ records.whole) ++ rest) f.bytes s.spelled f.spelled;
              stops = f.stops;
            },
            append_assoc (u.whole ++ records.whole) rest f.bytes,
            endless verdict (endless_on rest f.bytes bad) (subst (λ (b : List ℕ). P (Some b) verdict) (sym (take-append-le 20 rest f.bytes bad.0)) says) refl,
          ))

    -- a character is no digit
    pub Reads-stopped : (half : Option ℕ) (all piece rest : List ℕ) (old new : Streamed) (mid : Recorded) (w x y : W) (verdict : V)
        → Takes false old.digits.half half old.digits.bytes.items all piece → RecordsWhole P text saw old.recorded mid w x all rest
        → IsPart rest → P None verdict → Adds text saw mid new.recorded x y verdict → Reads P text saw false old new w y piece
    Reads-stopped half all piece rest old new mid w x y verdict takes records few says adds =
        over false half all piece rest old mid w x takes records new y verdict adds (λ read earlier u chars.
        let s = taken false half all piece rest old mid w x takes records read earlier u in (
          (u.whole ++ records.whole) ++ rest,
          s.left ++ digits_of chars,
          rest,
          record {
            digits = s.digits;
            parts = digits_both (read ++ piece) chars ∙ ap (λ (d : List ℕ). d ++ digits_of chars) s.parts ∙ append_assoc s.digits s.left (digits_of chars);
            spelled = s.spelled;
            stops = s.stops (digits_of chars);
          },
          refl,
          no_digits verdict few (let some = s.some in let l = length-append s.left (digits_of chars) in omega (arith, some, l)) says refl,
        ))

    -- the next message goes on
    pub Reads-on : (half : Option ℕ) (all piece rest : List ℕ) (old new : Streamed) (mid : Recorded) (w x : W)
        → Takes true old.digits.half half old.digits.bytes.items all piece → RecordsWhole P text saw old.recorded mid w x all rest
        → IsPart rest → new.digits.half ≡ half → new.digits.bytes.items ≡ rest → new.recorded ≡ mid → Reads P text saw true old new w x piece
    Reads-on half all piece rest old new mid w x takes records few same_half same_bytes same_recorded = record {
      verdicts = records.verdicts;
      lines = ap (λ (t : Recorded). string_bytes t.text) same_recorded ∙ records.lines;
      seen = records.seen;
      reads = λ read earlier u. record {
        whole = u.whole ++ records.whole;
        digits = subst (λ (h : Option ℕ). AreDigits h (digits_of (read ++ piece)) ((u.whole ++ records.whole) ++ new.digits.bytes.items)) (sym same_half)
            (subst (λ (b : List ℕ). AreDigits half (digits_of (read ++ piece)) ((u.whole ++ records.whole) ++ b)) (sym same_bytes)
            (taken true half all piece rest old mid w x takes records read earlier u));
        is_part = subst IsPart (sym same_bytes) few;
        recorded = subst (λ (t : Recorded). HasRecorded P t (u.whole ++ records.whole) (earlier ++ records.verdicts)) (sym same_recorded) (records.recorded u.whole earlier u.recorded);
      };
    }

    -- ---- the end

    no_half : (half : Option ℕ) (read bytes : List ℕ) → half ≡ None → (a : AreDigits half read bytes) → a.left ≡ []
    no_half None read bytes is a = a.is_half
    no_half (Some v) read bytes is a = absurd cc

    some_half : (half : Option ℕ) (read bytes : List ℕ) → half ≢ None → (a : AreDigits half read bytes) → 0 < length a.left
    some_half None read bytes is a = absurd (is refl)
    some_half (Some v) read bytes is a = let (d, left, value) = a.is_half in let l = ap length left in omega (arith, l)

    no_bytes : (bytes : List ℕ) → length bytes ≡ 0 → bytes ≡ []
    no_bytes [] e = refl
    no_bytes (b ∷ bytes) e = absurd (omega (arith, e))

    -- nothing is under way
    pub Ends-nothing : (now : Streamed) (w : W) → now.digits.half ≡ None → length now.digits.bytes.items ≡ 0 → Ends P text saw now now w w
    Ends-nothing now w even empty = record {
      verdicts = [];
      lines = sym (append-nil (string_bytes now.recorded.text));
      seen = Sees-nothing saw w;
      ends = λ read earlier u. record {
        bytes = u.whole ++ now.digits.bytes.items;
        left = u.digits.left;
        whole = u.whole;
        rest = now.digits.bytes.items;
        earlier = earlier;
        last = [];
        spells = digits_end now read earlier u;
        parts = refl;
        recorded = u.recorded.recorded;
        end_recorded = nothing (no_bytes now.digits.bytes.items empty) (no_half now.digits.half (digits_of read) (u.whole ++ now.digits.bytes.items) even u.digits) refl;
        are = refl;
      };
    }

    -- the last verdict was reported
    last_recorded : (old new : Streamed) (w x : W) (verdict : V) → Adds text saw old.recorded new.recorded w x verdict
        → ((read : List ℕ) (earlier : List (ℕ × V)) → (u : IsUnderWay P old read earlier)
        → IsEndRecorded P (length u.whole) old.digits.bytes.items u.digits.left ((length u.whole, verdict) ∷ []))
        → Ends P text saw old new w x
    last_recorded old new w x verdict adds end = record {
      verdicts = (old.recorded.at, verdict) ∷ [];
      lines = one_recorded text (old.recorded.at, verdict) (string_bytes old.recorded.text) (string_bytes new.recorded.text) adds.line;
      seen = adds.seen;
      ends = λ read earlier u. whole_stream read (u.whole ++ old.digits.bytes.items) u.digits.left old.digits.bytes.items verdict old.recorded u.whole earlier u.recorded
          (digits_end old read earlier u) refl (end read earlier u);
    }

    -- a part of a message is under way
    pub Ends-part : (old new : Streamed) (w x : W) (verdict : V) → old.digits.half ≡ None → 0 < length old.digits.bytes.items
        → P (Some old.digits.bytes.items) verdict → Adds text saw old.recorded new.recorded w x verdict → Ends P text saw old new w x
    Ends-part old new w x verdict even some says adds = last_recorded old new w x verdict adds (λ read earlier u.
        part verdict some u.is_part (no_half old.digits.half (digits_of read) (u.whole ++ old.digits.bytes.items) even u.digits) says refl)

    -- a digit is, without its pair
    pub Ends-half : (old new : Streamed) (w x : W) (verdict : V) → old.digits.half ≢ None → P None verdict → Adds text saw old.recorded new.recorded w x verdict
        → Ends P text saw old new w x
    Ends-half old new w x verdict some says adds = last_recorded old new w x verdict adds (λ read earlier u.
        no_digits verdict u.is_part (some_half old.digits.half (digits_of read) (u.whole ++ old.digits.bytes.items) some u.digits) says refl)

-- no message can be found, or it isn't whole
pub is_part : (bytes : List ℕ) → BeginsNone bytes → ¬ IsEndless bytes → IsPart bytes
is_part bytes (inl few) not = few
is_part bytes (inr bad) not = absurd (not bad)

-- nothing was before it
pub all_left : (all whole rest : List ℕ) → all ≡ whole ++ rest → length all ≤ length rest → all ≡ rest
all_left all [] rest parts less = parts
all_left all (b ∷ whole) rest parts less = let l = ap length parts in let m = length-append whole rest in absurd (omega (arith, l, m, less))

pub has_half : (half : Option ℕ) → true ≡ is_some half → half ≢ None
has_half half some is = absurd cc

pub has_none : (half : Option ℕ) → false ≡ is_some half → half ≡ None
has_none None e = refl
has_none (Some v) e = absurd cc

pub empty_by : (bytes same : List ℕ) → same ≡ bytes → true ≡ (length same == 0) → length bytes ≡ 0
empty_by bytes same is e = ap length (sym is) ∙ eqb-true (length same) 0 (sym e)

pub some_by : (bytes same : List ℕ) → same ≡ bytes → false ≡ (length same == 0) → 0 < length bytes
some_by [] same is e = let no : (length same == 0) ≡ true = ap (λ (b : List ℕ). length b == 0) is in absurd cc
some_by (b ∷ bytes) same is e = omega arith

-- a place that can't be counted follows as many characters
pub many_read : {V : Type 0} (P : Option (List ℕ) → V → Type 0) (old : Streamed) (good : Bool) (half : Option ℕ) (all piece : List ℕ) (most : ℕ) → Takes good old.digits.half half old.digits.bytes.items all piece
    → most ≤ old.recorded.at + length all → (read : List ℕ) (verdicts : List (ℕ × V)) → IsUnderWay P old read verdicts → most ≤ length (read ++ piece)
many_read P old good half all piece most takes far read verdicts u =
    let kept = old.digits.bytes.items in
    let s = so_far good half (digits_of read ++ digits_of piece) ((u.whole ++ kept) ++ takes.more) (takes.taken (digits_of read) (u.whole ++ kept) u.digits) in
    let long = spelled_long s.digits ((u.whole ++ kept) ++ takes.more) s.spelled in
    let bytes = length-append (u.whole ++ kept) takes.more in
    let before = length-append u.whole kept in
    let grown = ap (λ (b : List ℕ). length b) takes.grows ∙ length-append kept takes.more in
    let digits = sym (length-append (digits_of read) (digits_of piece)) ∙ ap (λ (b : List ℕ). length b) s.parts ∙ length-append s.digits s.left in
    let both = length-append read piece in
    omega (arith, far, u.recorded.at, long, bytes, before, grown, digits, both, digits_short read, digits_short piece)
