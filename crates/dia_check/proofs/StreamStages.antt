-- What a stream means, as it takes bytes of the header and after it.
use Rattle.std.proofs.Common.{◌≡◌, ◌≢◌, ℕ, ◌+◌, ◌-◌, ◌<◌, ◌≤◌, Bool, true, false, List, ◌++◌, length, take, drop, refl, sym, ap, subst, ◌∙◌, arith, inl, inr, ⊎_elim}
use Rattle.std.specs.Prelude.{◌⊎◌, ◌↔◌, ◌^◌, IsTrue, replicate, Result, Ok, Err, ⊤}
use Rattle.std.proofs.Math.Seq.{take-append_seam, drop-append_seam, take-append-add}
use Rattle.std.proofs.lemmas.Bool.{cases_lt, cases_Bool}
use Rattle.std.proofs.lemmas.List.{append_assoc, drop-take, length-append, length-take, take-append-drop, take_all, take-take}
use Rattle.dia_wire.specs.Number.{number}
use Rattle.dia_book.specs.Dictionary.{Dictionary}
use Rattle.dia_terms.specs.declared.Unknown.{Unknown}
use Rattle.dia_terms.specs.declared.Levels.{Levels}
use Rattle.dia_check.specs.declared.stream.front.Front.{Front}
use Rattle.dia_check.specs.declared.stream.StreamFault.{StreamFault}
use Rattle.dia_check.specs.declared.stream.StreamFault.TheVariants as fault
use Rattle.dia_check.specs.declared.stream.stages.Body.{Body}
use Rattle.dia_check.specs.declared.stream.stages.Stage.{Stage}
use Rattle.dia_check.specs.declared.stream.stages.Stage.TheVariants.{Header, InBody, Over, NoMemory}
use Rattle.dia_check.specs.Faults.{HasGoodHeader}
use Rattle.dia_check.specs.Front.{front_bytes}
use Rattle.dia_check.specs.Levels.{IsOpen, filled}
use Rattle.dia_check.specs.Levels as levels
use Rattle.dia_check.specs.Reading.{BeginsLevel}
use Rattle.dia_check.specs.Streaming.{is_sound, wanted, taken_of, BeginsGood, Takes, OpensLevel, HasRead, HasReadUnless, HasTaken, IsSpentStage, IsStage, MayRead, OpensAfter}
use Rattle.dia_check.proofs.StreamMessages.{short_wants, sound_wants, unsound_wants, same_sound, same_wanted, sound_length, however_on, zeros_to_end, ends_with_zeros}
use Rattle.dia_check.proofs.HeadsInPieces.{prefix}

-- ---- stages

pub unless_read : (Memory : Type 0) (d : Dictionary) (u : Unknown) (most : Levels) (bytes : List ℕ) (body : Body) (stage : Stage)
    → ¬ IsSpentStage stage → HasReadUnless Memory d u most bytes body stage → HasRead d u most bytes body stage
unless_read Memory d u most bytes body (Header front) live h = h
unless_read Memory d u most bytes body InBody live h = h
unless_read Memory d u most bytes body (Over answer) live h = h
unless_read Memory d u most bytes body NoMemory live h = absurd (live tt)

pub memory_of : (Memory : Type 0) (d : Dictionary) (u : Unknown) (most : Levels) (bytes : List ℕ) (body : Body) (stage : Stage)
    → IsSpentStage stage → HasReadUnless Memory d u most bytes body stage → Memory
memory_of Memory d u most bytes body (Header front) spent h = absurd spent
memory_of Memory d u most bytes body InBody spent h = absurd spent
memory_of Memory d u most bytes body (Over answer) spent h = absurd spent
memory_of Memory d u most bytes body NoMemory spent h = h

pub live_stage : (stage : Stage) → stage ≢ NoMemory → ¬ IsSpentStage stage
live_stage (Header front) other spent = spent
live_stage InBody other spent = spent
live_stage (Over answer) other spent = spent
live_stage NoMemory other spent = other refl

pub is_stage : (d : Dictionary) (u : Unknown) (most : Levels) (taken all : ℕ) (body : Body) (stage : Stage) (bytes : List ℕ)
    → (¬ IsSpentStage stage → HasTaken d u most taken all body stage bytes) → IsStage d u most taken all body stage
is_stage d u most taken all body (Header front) bytes h = (bytes, h (λ x. x))
is_stage d u most taken all body InBody bytes h = (bytes, h (λ x. x))
is_stage d u most taken all body (Over answer) bytes h = (bytes, h (λ x. x))
is_stage d u most taken all body NoMemory bytes h = tt

-- the bytes that a stream has taken
pub has_taken : (d : Dictionary) (u : Unknown) (most : Levels) (taken all : ℕ) (body : Body) (stage : Stage)
    → ¬ IsSpentStage stage → IsStage d u most taken all body stage → (bytes : List ℕ) × HasTaken d u most taken all body stage bytes
has_taken d u most taken all body (Header front) live h = h
has_taken d u most taken all body InBody live h = h
has_taken d u most taken all body (Over answer) live h = h
has_taken d u most taken all body NoMemory live h = absurd (live tt)

-- a fact about one dictionary and policy holds of equal ones
pub moved : (P : Dictionary → Unknown → Levels → Type 0) (d e : Dictionary) (u v : Unknown) (m n : Levels) → d ≡ e → u ≡ v → m ≡ n → P d u m → P e v n
moved P d e u v m n is_d is_u is_m h = subst (λ (x : Dictionary). P x v n) is_d (subst (λ (x : Unknown). P d x n) is_u (subst (λ (x : Levels). P d u x) is_m h))

-- ---- how much is taken

pub least_wanted : (a : List ℕ) → 20 ≤ wanted a
least_wanted a = ⊎_elim
    (λ (short : length a < 20). let e = short_wants a short in omega (arith, e))
    (λ (long : 20 ≤ length a). ⊎_elim
    (λ (is : is_sound a ≡ true). let l = sound_length a long is in let least = l.sound.no_less in omega (arith, least))
    (λ (is : is_sound a ≡ false). let e = unsound_wants a long is in omega (arith, e)) (cases_Bool (is_sound a)))
    (cases_lt (length a) 20)

pub take_plus : (n m : ℕ) (xs : List ℕ) → take n xs ++ take m (drop n xs) ≡ take (n + m) xs
take_plus n m xs =
    ap (λ (t : List ℕ). t ++ take m (drop n xs)) (sym (take-take n (n + m) xs (omega arith)))
    ∙ ap (λ (t : List ℕ). take n (take (n + m) xs) ++ t) (sym (drop-take n m xs)) ∙ take-append-drop n (take (n + m) xs)

-- the rest of a piece after what was taken of it
pub rest_of : (bytes piece : List ℕ) (n : ℕ) → (bytes ++ take n piece) ++ drop n piece ≡ bytes ++ piece
rest_of bytes piece n = append_assoc bytes (take n piece) (drop n piece) ∙ ap (λ (t : List ℕ). bytes ++ t) (take-append-drop n piece)

whole_piece : (bytes piece : List ℕ) (n : ℕ) → n ≡ length piece → bytes ++ take n piece ≡ bytes ++ piece
whole_piece bytes piece n e = ap (λ (t : List ℕ). bytes ++ t) (take_all n piece (omega (arith, e)))

module _ (bytes piece : List ℕ) (n : ℕ) (stops : (n ≡ length piece) ⊎ ((20 ≤ length (bytes ++ take n piece)) × (length (bytes ++ take n piece) ≡ wanted (bytes ++ take n piece)))) where
  pub wants_more : wanted (bytes ++ piece) ≡ wanted (bytes ++ take n piece)
  wants_more = ⊎_elim
      (λ (e : n ≡ length piece). ap wanted (sym (whole_piece bytes piece n e)))
      (λ (full : (20 ≤ length (bytes ++ take n piece)) × (length (bytes ++ take n piece) ≡ wanted (bytes ++ take n piece))).
      ap wanted (sym (rest_of bytes piece n)) ∙ same_wanted (bytes ++ take n piece) (drop n piece) full.0) stops

  pub takes_front : length (bytes ++ take n piece) ≤ wanted (bytes ++ take n piece) → bytes ++ take n piece ≡ taken_of (bytes ++ piece)
  takes_front within = ⊎_elim
      (λ (e : n ≡ length piece). let same = whole_piece bytes piece n e in
      same ∙ sym (take_all (wanted (bytes ++ piece)) (bytes ++ piece) (subst (λ (t : List ℕ). length t ≤ wanted t) same within)))
      (λ (full : (20 ≤ length (bytes ++ take n piece)) × (length (bytes ++ take n piece) ≡ wanted (bytes ++ take n piece))).
      sym (ap (λ (k : ℕ). take k (bytes ++ piece)) (wants_more ∙ sym full.1) ∙ ap (take (length (bytes ++ take n piece))) (sym (rest_of bytes piece n))
      ∙ take-append_seam (bytes ++ take n piece) (drop n piece))) stops

pub takes : (d : Dictionary) (u : Unknown) (most : Levels) (taken all : ℕ) (body : Body) (stage : Stage) (bytes piece : List ℕ) (n : ℕ) (done : Bool)
    → HasTaken d u most taken all body stage (bytes ++ take n piece) → n ≤ length piece
    → (n ≡ length piece) ⊎ ((20 ≤ taken) × (taken ≡ all)) → (IsTrue done ↔ (taken ≡ all)) → Takes bytes piece (record { taken = n; done = done })
takes d u most taken all body stage bytes piece n done h le stops is_done = record {
  front = front;
  within = le;
  done = (
    λ is. ap length (sym front) ∙ sym h.count ∙ is_done.0 is ∙ h.wants ∙ sym (wants_more bytes piece n full),
    λ e. is_done.1 (h.count ∙ ap length front ∙ e ∙ wants_more bytes piece n full ∙ sym h.wants),
  );
}
  where
    full : (n ≡ length piece) ⊎ ((20 ≤ length (bytes ++ take n piece)) × (length (bytes ++ take n piece) ≡ wanted (bytes ++ take n piece)))
    full = ⊎_elim (λ (e : n ≡ length piece). inl e) (λ (f : (20 ≤ taken) × (taken ≡ all)). inr (subst (λ (k : ℕ). 20 ≤ k) h.count f.0, sym h.count ∙ f.1 ∙ h.wants)) stops

    front : bytes ++ take n piece ≡ taken_of (bytes ++ piece)
    front = takes_front bytes piece n full h.within

-- what a stream takes of these bytes begins with those that it took of a front with a whole header
pub taken_begins : (a b : List ℕ) → 20 ≤ length a → length a ≤ wanted a → taken_of (a ++ b) ≡ a ++ take (wanted a - length a) b
taken_begins a b long within =
    let e : wanted (a ++ b) ≡ length a + (wanted a - length a) = (let w = same_wanted a b long in omega (arith, w, within)) in
    ap (λ (n : ℕ). take n (a ++ b)) e ∙ take-append-add a b (wanted a - length a)

-- ---- levels that begin

-- the body of a good header begins after it
body_begins : (d : Dictionary) (most : Levels) (bytes more : List ℕ) → length bytes < 20 → 20 ≤ length (bytes ++ more) → HasGoodHeader d (filled (bytes ++ more)) → OpensLevel d most bytes more
body_begins d most bytes more short long good = record {
  header = good;
  level = record { rules = good.command.rules; start = 20; end = length (filled (bytes ++ more)); depth = 0 };
  is_open = levels.body good.c good.command (record { header = good.header; head = good.is_header; select = good.select; is_command = good.is_command });
  following = short;
  within = long;
}

-- what a stream takes of a piece in which the header ends
module _ (d : Dictionary) (most : Levels) (bytes piece : List ℕ) (k : ℕ) where
  abbrev start : List ℕ
  start = bytes ++ take k piece

  abbrev following : List ℕ
  following = take (wanted start - length start) (drop k piece)

  parts : start ++ following ≡ bytes ++ (take k piece ++ following)
  parts = append_assoc bytes (take k piece) following

  module _ (short : length bytes < 20) (size : length start ≡ 20) (good : BeginsGood d start) where
    long : 20 ≤ length start
    long = good.0

    start_within : length start ≤ wanted start
    start_within = let least = least_wanted start in omega (arith, size, least)

    is_taken : taken_of (bytes ++ piece) ≡ start ++ following
    is_taken = ap taken_of (sym (rest_of bytes piece k)) ∙ taken_begins start (drop k piece) long start_within

    is_after : take k piece ++ following ≡ drop (length bytes) (taken_of (bytes ++ piece))
    is_after = sym (drop-append_seam bytes (take k piece ++ following)) ∙ ap (drop (length bytes)) (sym parts ∙ sym is_taken)

    whole_size : length (start ++ following) ≡ length start + length following
    whole_size = length-append start following

    whole_within : length (start ++ following) ≤ wanted (start ++ following)
    whole_within =
        let s = whole_size in let l = length-take (wanted start - length start) (drop k piece) in let w = same_wanted start following long in
        omega (arith, s, l, w, start_within)

    whole_wants : wanted (start ++ following) ≡ number (take 3 (drop 1 (start ++ following)))
    whole_wants = sound_wants (start ++ following) (let s = whole_size in omega (arith, long, s)) (same_sound start following long ∙ good.1)

    whole_good : HasGoodHeader d (filled (start ++ following))
    whole_good = subst (HasGoodHeader d) (ap (λ (n : ℕ). (start ++ following) ++ replicate (n - length (start ++ following)) 0) whole_wants)
        (however_on (HasGoodHeader d) start following long good.2 (zeros_to_end (start ++ following)) (ends_with_zeros (start ++ following) whole_within))

    pub start_opens : OpensLevel d most bytes (drop (length bytes) (taken_of (bytes ++ piece)))
    start_opens = subst (OpensLevel d most bytes) is_after
        (body_begins d most bytes (take k piece ++ following) short (let s = whole_size in let e = ap length parts in omega (arith, long, s, e))
        (subst (λ (t : List ℕ). HasGoodHeader d (filled t)) parts whole_good))

-- a level that begins after more bytes begins after fewer
module _ (d : Dictionary) (most : Levels) (a b rest : List ℕ) where
  abbrev new : List ℕ
  new = drop (length (a ++ b)) (taken_of ((a ++ b) ++ rest))

  joined : (a ++ b) ++ new ≡ a ++ (b ++ new)
  joined = append_assoc a b new

  module _ (long : 20 ≤ length (a ++ b)) (within : length (a ++ b) ≤ wanted (a ++ b)) where
    is_all : taken_of ((a ++ b) ++ rest) ≡ (a ++ b) ++ new
    is_all =
        let e = taken_begins (a ++ b) rest long within in
        e ∙ ap (λ (t : List ℕ). (a ++ b) ++ t) (sym (ap (drop (length (a ++ b))) e ∙ drop-append_seam (a ++ b) (take (wanted (a ++ b) - length (a ++ b)) rest)))

    is_more : b ++ new ≡ drop (length a) (taken_of ((a ++ b) ++ rest))
    is_more = sym (drop-append_seam a (b ++ new)) ∙ ap (drop (length a)) (sym joined ∙ sym is_all)

    pub opens_sooner : OpensLevel d most (a ++ b) new → OpensLevel d most a (drop (length a) (taken_of ((a ++ b) ++ rest)))
    opens_sooner opens = subst (OpensLevel d most a) is_more (record {
      header = subst (λ (t : List ℕ). HasGoodHeader d (filled t)) joined opens.header;
      level = opens.level;
      is_open = subst (λ (t : List ℕ). IsOpen d most (filled t) opens.level) joined opens.is_open;
      following = (let s = length-append a b in let less = opens.following in omega (arith, s, less));
      within = subst (λ (t : List ℕ). opens.level.start ≤ length t) joined opens.within;
    })

-- ---- bytes of the header

front_more : (a piece : List ℕ) → length a ≤ 20 → take 20 (a ++ piece) ≡ a ++ take (length (take 20 (a ++ piece)) - length a) piece
front_more a piece le =
    let e : 20 ≡ length a + (20 - length a) = omega (arith, le) in
    let f : take 20 (a ++ piece) ≡ a ++ take (20 - length a) piece = ap (λ (n : ℕ). take n (a ++ piece)) e ∙ take-append-add a piece (20 - length a) in
    let size : length (take (20 - length a) piece) ≡ length (take 20 (a ++ piece)) - length a = (let l = ap length f in let m = length-append a (take (20 - length a) piece) in omega (arith, l, m)) in
    f ∙ ap (λ (t : List ℕ). a ++ t) (prefix (20 - length a) piece ∙ ap (λ (n : ℕ). take n piece) size)

pub front_size : (front : Front) → front.count ≤ 20 → length (front_bytes front) ≤ 20
front_size front le = let size = length-take front.count front.bytes in omega (arith, size, le)

module _ (front after : Front) (piece : List ℕ) (more : front_bytes after ≡ take 20 (front_bytes front ++ piece)) (within : length (front_bytes front) ≤ 20) where
  after_size : length (front_bytes after) ≡ length (take 20 (front_bytes front ++ piece))
  after_size = ap length more

  pub front_grows : length (front_bytes front) ≤ length (front_bytes after)
  front_grows = let a = after_size in let t = length-take 20 (front_bytes front ++ piece) in let l = length-append (front_bytes front) piece in omega (arith, a, t, l, within)

  pub front_taken : length (front_bytes after) - length (front_bytes front) ≤ length piece
  front_taken = let a = after_size in let t = length-take 20 (front_bytes front ++ piece) in let l = length-append (front_bytes front) piece in omega (arith, a, t, l, within)

  pub front_takes_all : length (front_bytes after) < 20 → length (front_bytes after) - length (front_bytes front) ≡ length piece
  front_takes_all less = let a = after_size in let t = length-take 20 (front_bytes front ++ piece) in let l = length-append (front_bytes front) piece in omega (arith, a, t, l, within, less)

  same_front : (bytes : List ℕ) → front_bytes front ≡ bytes → front_bytes after ≡ bytes ++ take (length (front_bytes after) - length (front_bytes front)) piece
  same_front bytes kept =
      let joined = more ∙ front_more (front_bytes front) piece within in
      let e : length (take 20 (front_bytes front ++ piece)) - length (front_bytes front) ≡ length (front_bytes after) - length (front_bytes front) =
      ap (λ (n : ℕ). n - length (front_bytes front)) (sym after_size) in
      joined ∙ ap (λ (n : ℕ). front_bytes front ++ take n piece) e ∙ ap (λ (t : List ℕ). t ++ take (length (front_bytes after) - length (front_bytes front)) piece) kept

  pub header_taken : (d : Dictionary) (u : Unknown) (most : Levels) (taken all : ℕ) (idle : Body) (bytes : List ℕ) → HasTaken d u most taken all idle (Header front) bytes
      → (wants : ℕ) (body : Body) (stage : Stage) → (wants ≡ wanted (front_bytes after)) × (wants < 2 ^ 32)
      → HasReadUnless (BeginsGood d (front_bytes after)) d u most (front_bytes after) body stage → ¬ IsSpentStage stage
      → HasTaken d u most (length (front_bytes after)) wants body stage (bytes ++ take (length (front_bytes after) - length (front_bytes front)) piece)
  header_taken d u most taken all idle bytes h wants body stage (is, few) reads live =
      let (short, kept) = h.read in
      let same = same_front bytes kept in
      subst (λ (t : List ℕ). HasTaken d u most (length (front_bytes after)) wants body stage t) same (record {
        sound = h.sound;
        count = refl;
        wants = is;
        few = few;
        within = (let a = after_size in let t = length-take 20 (front_bytes front ++ piece) in let l = least_wanted (front_bytes after) in omega (arith, a, t, l));
        read = unless_read (BeginsGood d (front_bytes after)) d u most (front_bytes after) body stage live reads;
      })

  pub header_opens : (d : Dictionary) (u : Unknown) (most : Levels) (taken all : ℕ) (idle : Body) (bytes : List ℕ) → HasTaken d u most taken all idle (Header front) bytes
      → BeginsGood d (front_bytes after) → OpensLevel d most bytes (drop (length bytes) (taken_of (bytes ++ piece)))
  header_opens d u most taken all idle bytes h good =
      let (short, kept) = h.read in
      let (long, is, however) = good in
      let same = same_front bytes kept in
      let size : length (front_bytes after) ≡ 20 = (let a = after_size in let t = length-take 20 (front_bytes front ++ piece) in omega (arith, a, t, long)) in
      start_opens d most bytes piece (length (front_bytes after) - length (front_bytes front)) short (ap length (sym same) ∙ size) (subst (BeginsGood d) same good)

  pub header_now : (d : Dictionary) (u : Unknown) (most : Levels) (taken all : ℕ) (idle : Body) (bytes : List ℕ) → HasTaken d u most taken all idle (Header front) bytes
      → (k now wants : ℕ) (body : Body) (stage : Stage) → k ≡ length (front_bytes after) - length (front_bytes front) → now ≡ length (front_bytes after)
      → (wants ≡ wanted (front_bytes after)) × (wants < 2 ^ 32) → HasReadUnless (BeginsGood d (front_bytes after)) d u most (front_bytes after) body stage
      → ¬ IsSpentStage stage → HasTaken d u most now wants body stage (bytes ++ take k piece)
  header_now d u most taken all idle bytes h k now wants body stage is_k is_now wanting reads live =
      subst (λ (n : ℕ). HasTaken d u most n wants body stage (bytes ++ take k piece)) (sym is_now)
      (subst (λ (n : ℕ). HasTaken d u most (length (front_bytes after)) wants body stage (bytes ++ take n piece)) (sym is_k)
      (header_taken d u most taken all idle bytes h wants body stage wanting reads live))

-- ---- bytes after the header

pub after_header : (d : Dictionary) (u : Unknown) (most : Levels) (taken all : ℕ) (body : Body) (stage : Stage) (bytes : List ℕ) → ((front : Front) → stage ≢ Header front)
    → ¬ IsSpentStage stage → HasTaken d u most taken all body stage bytes → 20 ≤ taken
after_header d u most taken all body (Header front) bytes none live h = absurd (none front refl)
after_header d u most taken all body InBody bytes none live h = let (long, is, less, however) = h.read in let c = h.count in omega (arith, long, c)
after_header d u most taken all body (Over answer) bytes none live h = let (long, whole, however) = h.read in let c = h.count in omega (arith, long, c)
after_header d u most taken all body NoMemory bytes none live h = absurd (live tt)

module _ (d : Dictionary) (u : Unknown) (most : Levels) (taken all : ℕ) (before : Body) (old : Stage) (bytes piece : List ℕ) (h : HasTaken d u most taken all before old bytes) where
  pub taken_within : taken ≤ all
  taken_within = let c = h.count in let w = h.wants in let l = h.within in omega (arith, c, w, l)

  module _ (long : 20 ≤ taken) (n : ℕ) (le : n ≤ length piece) (room : n ≤ all - taken) where
    long_bytes : 20 ≤ length bytes
    long_bytes = let c = h.count in omega (arith, long, c)

    now_size : length (bytes ++ take n piece) ≡ taken + n
    now_size = let c = h.count in let a = length-append bytes (take n piece) in let t = length-take n piece in omega (arith, c, a, t, le)

    now_wants : wanted (bytes ++ take n piece) ≡ all
    now_wants = same_wanted bytes (take n piece) long_bytes ∙ sym h.wants

    now_within : length (bytes ++ take n piece) ≤ wanted (bytes ++ take n piece)
    now_within = let t = taken_within in let s = now_size in let w = now_wants in omega (arith, t, s, w, room)

    pub may_read : MayRead d u most bytes before old taken (take n piece)
    may_read = record {
      long = long_bytes;
      read = h.read;
      from_end = h.count;
      within = (let w = now_within in let e = same_wanted bytes (take n piece) long_bytes in omega (arith, w, e));
      few = (let f = h.few in let w = h.wants in omega (arith, f, w));
    }

    module _ (Memory : Type 0) (body : Body) (stage : Stage) (reads : HasReadUnless Memory d u most (bytes ++ take n piece) body stage) where
      pub body_taken : ¬ IsSpentStage stage → HasTaken d u most (taken + n) all body stage (bytes ++ take n piece)
      body_taken live = record {
        sound = h.sound;
        count = sym now_size;
        wants = sym now_wants;
        few = h.few;
        within = now_within;
        read = unless_read Memory d u most (bytes ++ take n piece) body stage live reads;
      }

    pub body_opens : (n < length piece → all - taken ≤ n) → OpensAfter d most taken (bytes ++ take n piece) → OpensLevel d most bytes (drop (length bytes) (taken_of (bytes ++ piece)))
    body_opens least (is, however) = subst (OpensLevel d most bytes) rest (record {
      header = subst (HasGoodHeader d) fills there.0;
      level = begins.level;
      is_open = subst (λ (t : List ℕ). IsOpen d most t begins.level) fills begins.is_open;
      following = (let b = begins.following in let c = h.count in omega (arith, b, c));
      within = begins.within;
    })
      where
        size_now : 20 ≤ length (bytes ++ take n piece)
        size_now = let s = now_size in omega (arith, s, long)

        full : n < length piece → length (bytes ++ take n piece) ≡ wanted (bytes ++ take n piece)
        full less = let s = now_size in let w = now_wants in let m = least less in let t = taken_within in omega (arith, s, w, m, t, room)

        stops : (n ≡ length piece) ⊎ ((20 ≤ length (bytes ++ take n piece)) × (length (bytes ++ take n piece) ≡ wanted (bytes ++ take n piece)))
        stops = ⊎_elim (λ (less : n < length piece). inr (size_now, full less)) (λ (more : length piece ≤ n). inl (omega (arith, more, le))) (cases_lt n (length piece))

        rest : take n piece ≡ drop (length bytes) (taken_of (bytes ++ piece))
        rest = sym (drop-append_seam bytes (take n piece)) ∙ ap (drop (length bytes)) (takes_front bytes piece n stops now_within)

        there : HasGoodHeader d ((bytes ++ take n piece) ++ zeros_to_end (bytes ++ take n piece))
            × BeginsLevel d most ((bytes ++ take n piece) ++ zeros_to_end (bytes ++ take n piece)) taken (length (bytes ++ take n piece))
        there = however (zeros_to_end (bytes ++ take n piece)) (ends_with_zeros (bytes ++ take n piece) now_within)

        begins : BeginsLevel d most ((bytes ++ take n piece) ++ zeros_to_end (bytes ++ take n piece)) taken (length (bytes ++ take n piece))
        begins = there.1

        fills : (bytes ++ take n piece) ++ zeros_to_end (bytes ++ take n piece) ≡ filled (bytes ++ take n piece)
        fills = ap (λ (k : ℕ). (bytes ++ take n piece) ++ replicate (k - length (bytes ++ take n piece)) 0) (sound_wants (bytes ++ take n piece) size_now is)

-- ---- faults of a stream

abbrev SpentError : {T : Type 0} → Result T StreamFault → Type 0
SpentError (Ok x) = ⊥
SpentError (Err fault.NoMemory) = ⊥
SpentError (Err fault.Spent) = ⊤

pub not_spent_error : {T : Type 0} (r : Result T StreamFault) (e : StreamFault) → r ≡ Err e → e ≡ fault.NoMemory → r ≡ Err fault.Spent → ⊥
not_spent_error r e is memory other = subst SpentError (sym other ∙ is ∙ ap (λ (x : StreamFault). Err x) memory) tt
