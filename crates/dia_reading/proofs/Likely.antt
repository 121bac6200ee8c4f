-- Bytes that begin like a message.
use Rattle.std.proofs.Common.{◌≡◌, ◌≢◌, ℕ, ◌+◌, ◌-◌, ◌<◌, ◌≤◌, List, ◌++◌, length, take, drop, Result, Ok, Err, Option, Some, None, refl, sym, subst, ap, ◌∙◌, arith}
use Rattle.std.specs.Prelude.{◌↔◌, slice_index, IfSome, IfNone, IsTrue, is_some}
use Rattle.std.proofs.Math.ListN.{get_or-append}
use Rattle.std.proofs.Math.Seq.{take-append_seam}
use Rattle.std.proofs.lemmas.List.{drop-append-le, drop-take, length-append, length-drop, length-take, length-take-le, take-append-drop, take-append-le}
use Rattle.dia_wire.specs.declared.header.Header.{Header}
use Rattle.dia_wire.specs.declared.header.HeadFault.{HeadFault}
use Rattle.dia_wire.specs.declared.header.HeadFault.TheVariants.{Short, Version, Length}
use Rattle.dia_wire.specs.Number.{number}
use Rattle.dia_wire.specs.Wire.{BeginsMessage, IsBadLength, IsHead, IsMessageLength}
use Rattle.dia_wire.proofs.OneHeader.{one_header}
use Rattle.dia_streams.proofs.Fronts.{bad_length, bad_version, message_long}
use Rattle.dia_reading.specs.Messages.{AreAvps, AreCommandFlags, BeginsAvp, BeginsLike, IsLikely, IsSound}

-- a message begins with a header that is read without a fault
pub no_message : (bytes : List ℕ) (n : ℕ) (r : Result (Header × ℕ) HeadFault) → ((x : Header × ℕ) → r ≡ Ok x → ⊥) → ((r ≡ Err Short) ↔ (length bytes < 20))
    → ((r ≡ Err Version) ↔ ((20 ≤ length bytes) × (slice_index bytes 0 ≢ 1)))
    → ((r ≡ Err Length) ↔ ((20 ≤ length bytes) × (slice_index bytes 0 ≡ 1) × (¬ IsMessageLength (number (take 3 (drop 1 bytes))))))
    → ¬ BeginsMessage bytes n
no_message bytes n (Ok x) none short version len = absurd (none x refl)
no_message bytes n (Err Short) none short version len = λ (m : BeginsMessage bytes n). let few = short.0 refl in let long = message_long bytes n m in absurd (omega (arith, few, long))
no_message bytes n (Err Version) none short version len = (bad_version bytes (version.0 refl)).1 n
no_message bytes n (Err Length) none short version len = (bad_length bytes (len.0 refl)).1 n

pub message_of : (bytes : List ℕ) (n : ℕ) → BeginsLike bytes n → BeginsMessage bytes n
message_of bytes n like = (like.header, like.is_head, record { no_less = omega (arith, like.least); aligned = like.aligned })

-- what bytes that begin like a message say of the header that was read
pub record Says (bytes : List ℕ) (h : Header) (m n : ℕ) : Type 0 where
  pub same : n ≡ m
  pub least : 28 ≤ m
  pub most : m ≤ 65532
  pub flags : AreCommandFlags h.flags
  pub avp : BeginsAvp (drop 20 bytes) (m - 20)

pub says : (bytes : List ℕ) (h : Header) (m n : ℕ) → IsHead h m (take 20 bytes) → BeginsLike bytes n → Says bytes h m n
says bytes h m n head like =
    let o = one_header like.header h n m (take 20 bytes) like.is_head head in record {
      same = o.1;
      least = subst (λ (k : ℕ). 28 ≤ k) o.1 like.least;
      most = subst (λ (k : ℕ). k ≤ 65532) o.1 like.most;
      flags = subst (λ (k : Header). AreCommandFlags k.flags) o.0 like.flags;
      avp = subst (λ (k : ℕ). BeginsAvp (drop 20 bytes) (k - 20)) o.1 like.avp;
    }

pub likely_or_not : (bytes : List ℕ) (o : Option ℕ) → IfSome o (λ n. BeginsLike bytes n) → IfNone o ((n : ℕ) → ¬ BeginsLike bytes n) → IsTrue (is_some o) ↔ IsLikely bytes
likely_or_not bytes (Some n) some none = (λ yes. (n, some), λ likely. refl)
likely_or_not bytes None some none = (λ yes. absurd cc, λ (likely : IsLikely bytes). absurd (none likely.0 likely.1))

-- ---- what follows the first bytes

module _ (xs more : List ℕ) (room : ℕ) where
  -- the flags and the length of an AVP don't change
  same_flags : 8 ≤ length xs → slice_index (xs ++ more) 4 ≡ slice_index xs 4
  same_flags whole = get_or-append xs more 0 4 (omega (arith, whole))

  same_length : 8 ≤ length xs → number (take 3 (drop 5 (xs ++ more))) ≡ number (take 3 (drop 5 xs))
  same_length whole = ap (λ (f : List ℕ). number (take 3 f)) (drop-append-le 5 xs more (omega (arith, whole)))
      ∙ ap number (take-append-le 3 (drop 5 xs) more (omega (arith, whole, length-drop 5 xs)))

  avp_on : BeginsAvp xs room → BeginsAvp (xs ++ more) room
  avp_on s = record {
    whole = omega (arith, s.whole, length-append xs more);
    fits = λ bad. s.fits (subst (λ (f : ℕ). IsBadLength f (number (take 3 (drop 5 xs))) room) (same_flags s.whole)
        (subst (λ (f : ℕ). IsBadLength (slice_index (xs ++ more) 4) f room) (same_length s.whole) bad));
  }

  avp_back : 8 ≤ length xs → BeginsAvp (xs ++ more) room → BeginsAvp xs room
  avp_back whole s = record {
    whole = whole;
    fits = λ bad. s.fits (subst (λ (f : ℕ). IsBadLength f (number (take 3 (drop 5 (xs ++ more)))) room) (sym (same_flags whole))
        (subst (λ (f : ℕ). IsBadLength (slice_index xs 4) f room) (sym (same_length whole)) bad));
  }

-- bytes that begin like a message are at least those of a header and of the head of an AVP
pub like_long : (bytes : List ℕ) (n : ℕ) → BeginsLike bytes n → 28 ≤ length bytes
like_long bytes n like = let w = like.avp.whole in omega (arith, w, length-drop 20 bytes)

module _ (a b : List ℕ) (n : ℕ) where
  pub like_on : BeginsLike a n → BeginsLike (a ++ b) n
  like_on like =
      let long : 20 ≤ length a = omega (arith, like_long a n like) in record {
        header = like.header;
        is_head = subst (IsHead like.header n) (sym (take-append-le 20 a b long)) like.is_head;
        flags = like.flags;
        aligned = like.aligned;
        least = like.least;
        most = like.most;
        avp = subst (λ (f : List ℕ). BeginsAvp f (n - 20)) (sym (drop-append-le 20 a b long)) (avp_on (drop 20 a) b (n - 20) like.avp);
      }

  pub like_back : 28 ≤ length a → BeginsLike (a ++ b) n → BeginsLike a n
  like_back whole like =
      let long : 20 ≤ length a = omega (arith, whole) in record {
        header = like.header;
        is_head = subst (IsHead like.header n) (take-append-le 20 a b long) like.is_head;
        flags = like.flags;
        aligned = like.aligned;
        least = like.least;
        most = like.most;
        avp = avp_back (drop 20 a) b (n - 20) (omega (arith, whole, length-drop 20 a)) (subst (λ (f : List ℕ). BeginsAvp f (n - 20)) (drop-append-le 20 a b long) like.avp);
      }

-- ---- sound messages at the front

one_length : (bytes : List ℕ) (m n : ℕ) → BeginsLike bytes m → BeginsLike bytes n → n ≡ m
one_length bytes m n a b = (one_header b.header a.header n m (take 20 bytes) b.is_head a.is_head).1

body_of : (n : ℕ) (bytes : List ℕ) → 20 ≤ n → drop 20 (take n bytes) ≡ take (n - 20) (drop 20 bytes)
body_of n bytes long =
    let whole : n ≡ 20 + (n - 20) = omega (arith, long) in
    ap (λ (k : ℕ). drop 20 (take k bytes)) whole ∙ drop-take 20 (n - 20) bytes

pub sound_like : (bytes : List ℕ) (n : ℕ) → IsSound (take n bytes) → BeginsLike bytes (length (take n bytes))
sound_like bytes n s =
    subst (λ (f : List ℕ). BeginsLike f (length (take n bytes))) (take-append-drop n bytes) (like_on (take n bytes) (drop n bytes) (length (take n bytes)) s.begins)

-- whether it is sound is seen from the bytes that its Message Length says
pub is_sound : (bytes : List ℕ) (n : ℕ) → BeginsLike bytes n → n ≤ length bytes → AreAvps (take (n - 20) (drop 20 bytes)) → IsSound (take n bytes)
is_sound bytes n like within avps =
    let size : length (take n bytes) ≡ n = length-take-le n bytes within in
    let whole = subst (λ (f : List ℕ). BeginsLike f n) (sym (take-append-drop n bytes)) like in record {
      begins = subst (BeginsLike (take n bytes)) (sym size) (like_back (take n bytes) (drop n bytes) n (omega (arith, size, like.least)) whole);
      avps = subst AreAvps (sym (body_of n bytes (omega (arith, like.least)))) avps;
    }

-- the bytes of a sound message are as many as its Message Length says
pub sound_front : (bytes : List ℕ) (m n : ℕ) → BeginsLike bytes m → IsSound (take n bytes) → (m ≤ length bytes) × (take m bytes ≡ take n bytes)
sound_front bytes m n like s =
    let size : length (take n bytes) ≡ m = one_length bytes m (length (take n bytes)) like (sound_like bytes n s) in (
      omega (arith, size, length-take n bytes),
      ap (λ (k : ℕ). take k bytes) (sym size) ∙ ap (take (length (take n bytes))) (sym (take-append-drop n bytes)) ∙ take-append_seam (take n bytes) (drop n bytes),
    )

pub sound_avps : (bytes : List ℕ) (m n : ℕ) → BeginsLike bytes m → IsSound (take n bytes) → (m ≤ length bytes) × AreAvps (take (m - 20) (drop 20 bytes))
sound_avps bytes m n like s =
    let front = sound_front bytes m n like s in
    (front.0, subst AreAvps (ap (drop 20) (sym front.1) ∙ body_of m bytes (omega (arith, like.least))) s.avps)

pub IfNone-always : {X : Type 0} (o : Option X) (P : Type 0) → P → IfNone o P
IfNone-always (Some x) P h = tt
IfNone-always None P h = h
