-- Each sender sends what the one before it sends.
use Rattle.std.proofs.Common.{ℕ, zero, suc, List, map, Option, Some, None, refl, inl, inr, false, true}
use Rattle.std.specs.Prelude.{◌≡◌, ◌⊎◌, IsTrue, MatchOption}
use Rattle.dia_wire.specs.declared.Key.{Key}
use Rattle.dia_wire.specs.Wire.{PlainAvp, key_of}
use Rattle.dia_data.specs.Leaf.{IsLeaf}
use Rattle.dia_book.specs.declared.DRule.{DRule}
use Rattle.dia_book.specs.Dictionary.{Dictionary, DictEntry, PlainDefinition}
use Rattle.dia_terms.specs.declared.sends.Sends.{Sends}
use Rattle.dia_terms.specs.declared.sends.Sends.TheVariants as sends
use Rattle.dia_valid.specs.Valid.{known, IsAccepted, MHolds}
use Rattle.dia_breaking_sites.specs.Sent.{own_policy, is_open, wider, AreListed, StandAsSent, IsSentLevel, IsSentWithin, IsSent}
use Rattle.dia_breaking_sites.proofs.Members.{all_map}
use Rattle.dia_breaking_sites.proofs.SafeLevels.{Body, data_more}

stand_wider : (who : Sends) (rules : List DRule) (keys : List Key) → StandAsSent who rules keys → StandAsSent (wider who) rules keys
stand_wider sends.Any rules keys h = h
stand_wider sends.Known rules keys h = (h.0, inl refl)
stand_wider sends.Filled rules keys h = (h.0, inl refl)
stand_wider sends.Listed rules keys h = (h.0, by h.1)
  where
    by : IsTrue (is_open sends.Listed rules) ⊎ AreListed rules keys → IsTrue (is_open sends.Filled rules) ⊎ AreListed rules keys
    by (inl never) = absurd (let e : false ≡ true = never in cc)
    by (inr listed) = inr listed

-- what isn't known is accepted with the same flags
accepted : (who : Sends) (flags : ℕ) → IsAccepted (own_policy who) flags → IsAccepted (own_policy (wider who)) flags
accepted sends.Any flags h = h
accepted sends.Known flags h = absurd h
accepted sends.Filled flags h = h
accepted sends.Listed flags h = h

body_wider : (who : Sends) (P Q : List DRule → List ℕ → Type 0) (v : PlainAvp) (o : Option DictEntry) → ((rules : List DRule) → P rules v.bytes → Q rules v.bytes) → Body (own_policy who) P v o
    → Body (own_policy (wider who)) Q v o
body_wider who P Q v None f h = accepted who v.flags h
body_wider who P Q v (Some e) f h = (h.0, data_more P Q v.bytes (IsLeaf e.format v.bytes) e.group f h.1)

avp_wider : (d : Dictionary) (who : Sends) (n : ℕ) (v : PlainAvp) → IsSentWithin d who n v → IsSentWithin d (wider who) n v
avp_wider d who zero v h = body_wider who (λ rules bytes. ⊥) (λ rules bytes. ⊥) v (known d (key_of v)) (λ rules none. none) h
avp_wider d who (suc n) v h =
    body_wider who (IsSentLevel who (IsSentWithin d who n)) (IsSentLevel (wider who) (IsSentWithin d (wider who) n)) v (known d (key_of v))
    (λ rules l. (l.0, l.1, stand_wider who rules (map key_of l.0) l.2, all_map (IsSentWithin d who n) (IsSentWithin d (wider who) n) l.0 (λ w k. avp_wider d who n w k) l.3)) h

pub sent_wider : (d : Dictionary) (who : Sends) (bytes : List ℕ) (c : ℕ) → IsSent d who bytes c → IsSent d (wider who) bytes c
sent_wider d who bytes c s = record {
  header = s.header;
  avps = s.avps;
  command = s.command;
  are_bytes = s.are_bytes;
  message = s.message;
  no_error_request = s.no_error_request;
  no_repeated_answer = s.no_repeated_answer;
  select = s.select;
  is_command = s.is_command;
  proxiable = s.proxiable;
  stand = stand_wider who s.command.rules (map key_of s.avps) s.stand;
  sent = (s.sent.0, all_map (IsSentWithin d who s.sent.0) (IsSentWithin d (wider who) s.sent.0) s.avps (λ v h. avp_wider d who s.sent.0 v h) s.sent.1);
}
