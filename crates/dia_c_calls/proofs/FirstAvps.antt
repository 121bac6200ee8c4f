-- The AVPs of a level are tried in their order, and groups are passed over.
use Rattle.std.proofs.Common.{◌≡◌, ◌≢◌, ℕ, ◌+◌, ◌^◌, ◌<◌, List, length, take, drop, Option, Some, None, Result, Ok, refl, sym, subst, arith, inl, inr}
use Rattle.std.specs.Prelude.{◌↔◌, IfSome}
use Rattle.dia_wire.specs.declared.Header.{Header}
use Rattle.dia_wire.specs.declared.avp_key.Key.{Key}
use Rattle.dia_wire.specs.Wire.{PlainAvp, BeginsWith, BeginsWithNone, IsHead, IsMessageLength, key_of}
use Rattle.dia_book.specs.Dictionary.{Dictionary}
use Rattle.dia_run.specs.Rows.{Level, after, inside, known_avp}
use Rattle.dia_c_calls.specs.declared.avp_records.MessageAvp.{MessageAvp}
use Rattle.dia_c_calls.specs.Avps.{avp_record}
use Rattle.dia_c_calls.specs.declared.verdict.Verdict.{Verdict}
use Rattle.dia_c_calls.specs.FirstAvps.{HasNoneIn, HasNoneOf, IsFirstIn, IsFirstOf, IsOwn}
use Rattle.dia_c_calls.specs.HeldOffsets.{front, later}
use Rattle.dia_c_calls.proofs.ListedAvps.{length-level, row_record}
use Rattle.dia_c_calls.proofs.PathsToBytes.{at_front, bounds, none_in}

-- the AVPs of a level that have the key are those of what is left of it
pub record IsLeftOf (d : Dictionary) (whole : Level) (key : Key) (level : Level) : Type 0 where
  pub bounded : level.place + length level.bytes < 2 ^ 63
  pub same_depth : level.depth ≡ whole.depth
  pub same : (place : ℕ) (v : PlainAvp) → IsOwn d whole key place v ↔ IsOwn d level key place v

module _ (d : Dictionary) (whole : Level) (key : Key) where
  pub begun : whole.place + length whole.bytes < 2 ^ 63 → IsLeftOf d whole key whole
  begun small = record { bounded = small; same_depth = refl; same = λ place v. (λ h. h, λ h. h) }

  module _ (level : Level) (u : IsLeftOf d whole key level) where
    -- no AVP of the level is left
    pub none_left : BeginsWithNone level.bytes → HasNoneOf d whole key
    none_left none place v h = let own = (u.same place v).0 h in none_in d level none place level.depth v own.within

    module _ (v : PlainAvp) (rest : List ℕ) (begins : BeginsWith v level.bytes rest) where
      -- one with another key is passed
      pub passed : (next : Level) → next ≡ after level v rest → key_of v ≢ key → IsLeftOf d whole key next
      passed next is_next other =
          subst (IsLeftOf d whole key) (sym is_next) (record {
            bounded = omega (arith, u.bounded, length-level v level.bytes rest begins);
            same_depth = u.same_depth;
            same = λ place w. (
              λ h. let own = (u.same place w).0 h in elim (at_front d level v rest begins place level.depth w own.within) [
                | inl (is_place, is_depth, is_v) ↦ absurd (other (subst (λ (x : PlainAvp). key_of x ≡ key) is_v own.keyed))
                | inr (inl next_one) ↦ record { within = next_one; keyed = own.keyed }
                | inr (inr (grouped, inner)) ↦ let b = bounds d (inside level v) place level.depth w inner in absurd (omega (arith, b.2))
              ],
              λ h. (u.same place w).1 (record { within = later v rest begins h.within; keyed = h.keyed }),
            );
          })

      -- the first one is found
      pub found : (a : MessageAvp) → key_of v ≡ key → a ≡ row_record d level v → IsFirstOf d whole key a
      found a keyed is = record {
        place = level.place;
        v = v;
        own = (u.same level.place v).1 (record { within = front rest begins refl refl; keyed = keyed });
        first = λ other w h. let own = (u.same other w).0 h in (bounds d level other level.depth w own.within).0;
        is = subst (λ (n : ℕ). a ≡ avp_record level.place n v (known_avp d v)) u.same_depth is;
      }

-- ---- the body of a message

module _ (d : Dictionary) (bytes body : List ℕ) (key : Key) (h : Header) (head : IsHead h (length bytes) (take 20 bytes)) (long : IsMessageLength (length bytes)) (is_body : body ≡ drop 20 bytes) where
  pub found_in_message : (result : Option MessageAvp) → IfSome result (IsFirstOf d (record { depth = 0; place = 20; bytes = body }) key)
      → IfSome result (IsFirstIn d bytes key.code key.vendor)
  found_in_message None first = tt
  found_in_message (Some a) first = ((h, head, long), subst (λ (b : List ℕ). IsFirstOf d (record { depth = 0; place = 20; bytes = b }) key a) is_body first)

  pub none_in_message : (result : Option MessageAvp) → (result ≡ None → HasNoneOf d (record { depth = 0; place = 20; bytes = body }) key)
      → ◌≡◌ {A = Result (Option MessageAvp) Verdict} (Ok result) (Ok None) → HasNoneIn d bytes key.code key.vendor
  none_in_message result none is =
      let nothing : result ≡ None = cc in
      ((h, head, long), subst (λ (b : List ℕ). HasNoneOf d (record { depth = 0; place = 20; bytes = b }) key) is_body (none nothing))
