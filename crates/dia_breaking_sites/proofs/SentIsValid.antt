-- What the sender's side sends is valid under its own dictionary; and but for Filled and Listed, all that is valid is sent.
use Rattle.std.proofs.Common.{◌≢◌, ℕ, zero, suc, List, map, refl, inl}
use Rattle.dia_wire.specs.declared.Key.{Key}
use Rattle.dia_wire.specs.Wire.{PlainAvp, key_of}
use Rattle.dia_book.specs.declared.DRule.{DRule}
use Rattle.dia_book.specs.Dictionary.{Dictionary}
use Rattle.dia_terms.specs.declared.Levels.TheVariants as levels
use Rattle.dia_valid.specs.Valid.{known, IsLevel, Fits, Placed, IsValidOf}
use Rattle.dia_terms.specs.declared.sends.Sends.{Sends}
use Rattle.dia_terms.specs.declared.sends.Sends.TheVariants as sends
use Rattle.dia_breaking_sites.specs.Sent.{own_policy, StandAsSent, IsSentLevel, IsSentWithin, AreBytes, IsSent}
use Rattle.dia_breaking_sites.proofs.Members.{all_map}
use Rattle.dia_breaking_sites.proofs.SafeLevels.{body_more}

placed : (who : Sends) (rules : List DRule) (keys : List Key) → StandAsSent who rules keys → Placed rules keys
placed who rules keys h = h.0

fits : (d : Dictionary) (who : Sends) (n : ℕ) (v : PlainAvp) → IsSentWithin d who n v → Fits d (own_policy who) n v
fits d who zero v h = h
fits d who (suc n) v h =
    body_more (own_policy who) (IsSentLevel who (IsSentWithin d who n)) (IsLevel (Fits d (own_policy who) n)) v (known d (key_of v))
    (λ rules l. (l.0, l.1, placed who rules (map key_of l.0) l.2, all_map (IsSentWithin d who n) (Fits d (own_policy who) n) l.0 (λ w k. fits d who n w k) l.3)) h

stand : (who : Sends) (rules : List DRule) (keys : List Key) → who ≢ sends.Filled → who ≢ sends.Listed → Placed rules keys → StandAsSent who rules keys
stand sends.Any rules keys filled listed h = (h, inl refl)
stand sends.Known rules keys filled listed h = (h, inl refl)
stand sends.Filled rules keys filled listed h = absurd (filled refl)
stand sends.Listed rules keys filled listed h = absurd (listed refl)

sent : (d : Dictionary) (who : Sends) (n : ℕ) (v : PlainAvp) → who ≢ sends.Filled → who ≢ sends.Listed → Fits d (own_policy who) n v → IsSentWithin d who n v
sent d who zero v filled listed h = h
sent d who (suc n) v filled listed h =
    body_more (own_policy who) (IsLevel (Fits d (own_policy who) n)) (IsSentLevel who (IsSentWithin d who n)) v (known d (key_of v))
    (λ rules l. (l.0, l.1, stand who rules (map key_of l.0) filled listed l.2, all_map (Fits d (own_policy who) n) (IsSentWithin d who n) l.0 (λ w k. sent d who n w filled listed k) l.3)) h

pub sent_valid : (d : Dictionary) (who : Sends) (bytes : List ℕ) (c : ℕ) → IsSent d who bytes c → IsValidOf d (own_policy who) levels.Any bytes c
sent_valid d who bytes c s = record {
  header = s.header;
  avps = s.avps;
  command = s.command;
  message = s.message;
  no_error_request = s.no_error_request;
  no_repeated_answer = s.no_repeated_answer;
  select = s.select;
  is_command = s.is_command;
  proxiable = s.proxiable;
  placed = placed who s.command.rules (map key_of s.avps) s.stand;
  fit = (s.sent.0, all_map (IsSentWithin d who s.sent.0) (Fits d (own_policy who) s.sent.0) s.avps (λ v h. fits d who s.sent.0 v h) s.sent.1);
}

pub valid_sent : (d : Dictionary) (who : Sends) (bytes : List ℕ) (c : ℕ) → who ≢ sends.Filled → who ≢ sends.Listed → AreBytes bytes → IsValidOf d (own_policy who) levels.Any bytes c
    → IsSent d who bytes c
valid_sent d who bytes c filled listed are s = record {
  header = s.header;
  avps = s.avps;
  command = s.command;
  are_bytes = are;
  message = s.message;
  no_error_request = s.no_error_request;
  no_repeated_answer = s.no_repeated_answer;
  select = s.select;
  is_command = s.is_command;
  proxiable = s.proxiable;
  stand = stand who s.command.rules (map key_of s.avps) filled listed s.placed;
  sent = (s.fit.0, all_map (Fits d (own_policy who) s.fit.0) (IsSentWithin d who s.fit.0) s.avps (λ v h. sent d who s.fit.0 v filled listed h) s.fit.1);
}
