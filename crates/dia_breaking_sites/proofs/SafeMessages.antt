-- Where B selects definitions at safe sites, each message that is sent is valid under B.
use Rattle.std.proofs.Common.{◌≡◌, ℕ, suc, ◌+◌, ◌*◌, ◌%◌, ◌<◌, ◌≤◌, ◌^◌, List, [], ◌∷◌, ◌++◌, length, map, Some, sym, ap, subst, ◌∙◌, arith, inl, inr}
use Rattle.std.specs.Prelude.{◌⊎◌, IsSome, slice_get}
use Rattle.std.proofs.lemmas.List.{length-append}
use Rattle.std.proofs.lemmas.Option.{same_Some}
use Rattle.dia_wire.specs.declared.Header.{Header}
use Rattle.dia_wire.specs.Lengths.{three_bytes}
use Rattle.dia_wire.specs.Number.{number, IsField}
use Rattle.dia_wire.specs.Wire.{PlainAvp, key_of, SpellsAll, IsHead, IsMessage}
use Rattle.dia_book.specs.Dictionary.{Dictionary, PlainDefinition, definitions, selected}
use Rattle.dia_terms.specs.declared.Unknown.{Unknown}
use Rattle.dia_terms.specs.declared.Levels.TheVariants as levels
use Rattle.dia_valid.specs.Valid.{class_of, AllowsP, Placed, IsValid, IsValidOf}
use Rattle.dia_terms.specs.declared.sends.Sends.{Sends}
use Rattle.dia_breaking_sites.specs.Sent.{StandAsSent, AreBytes, IsSent}
use Rattle.dia_breaking_sites.specs.Sites.{Site, IsLevelOf, HasSite, AboutLevels, AreAsked, AreSafe}
use Rattle.dia_breaking_sites.specs.Selection.{max_body, AboutFlags, IsMetAt, IsMet, AreMet, IsSelected, IsAsked, AreValidWhere}
use Rattle.dia_breaking_sites.proofs.Members.{all_parts}
use Rattle.dia_breaking_sites.proofs.SafeLevels.{some_of, levels_of_b}

-- ---- fields

below_three_bytes : (a : List ℕ) → length a ≡ 3 → AreBytes a → number a < three_bytes
below_three_bytes [] e h = absurd (omega (arith, e))
below_three_bytes (x ∷ []) e h = absurd (omega (arith, e))
below_three_bytes (x ∷ y ∷ []) e h = absurd (omega (arith, e))
below_three_bytes (x ∷ y ∷ z ∷ []) e h = let less : x * 65536 + (y * 256 + (z * 1 + 0)) < 16777216 = omega (arith, h.0, h.1.0, h.1.1.0) in less
below_three_bytes (x ∷ y ∷ z ∷ w ∷ more) e h = absurd (let f : suc (suc (suc (suc (length more)))) ≡ 3 = e in omega (arith, f))

below_four_bytes : (a : List ℕ) → length a ≡ 4 → AreBytes a → number a < 2 ^ 32
below_four_bytes [] e h = absurd (omega (arith, e))
below_four_bytes (x ∷ []) e h = absurd (omega (arith, e))
below_four_bytes (x ∷ y ∷ []) e h = absurd (omega (arith, e))
below_four_bytes (x ∷ y ∷ z ∷ []) e h = absurd (omega (arith, e))
below_four_bytes (x ∷ y ∷ z ∷ w ∷ []) e h =
    let less : x * 16777216 + (y * 65536 + (z * 256 + (w * 1 + 0))) < 4294967296 = omega (arith, h.0, h.1.0, h.1.1.0, h.1.1.1.0) in less
below_four_bytes (x ∷ y ∷ z ∷ w ∷ v ∷ more) e h = absurd (let f : suc (suc (suc (suc (suc (length more))))) ≡ 4 = e in omega (arith, f))

field_three : (x : ℕ) (a : List ℕ) → IsField 3 x a → AreBytes a → x < three_bytes
field_three x a f h = subst (λ (n : ℕ). n < three_bytes) f.value (below_three_bytes a f.width h)

field_four : (x : ℕ) (a : List ℕ) → IsField 4 x a → AreBytes a → x < 2 ^ 32
field_four x a f h = subst (λ (n : ℕ). n < 2 ^ 32) f.value (below_four_bytes a f.width h)

abbrev IsByte : ℕ → Type 0
IsByte byte = byte < 256

-- what the bytes of a header say of its numbers
record Numbers (h : Header) (n : ℕ) (b : List ℕ) : Type 0 where
  size : length b ≡ 20
  len : n < three_bytes
  code : h.code < three_bytes
  app : h.app < 2 ^ 32

numbers : (h : Header) (n : ℕ) (b : List ℕ) → IsHead h n b → AreBytes b → Numbers h n b
numbers h n b s are =
    let all = subst AreBytes s.parts are in
    let fourth = all_parts IsByte ((1 ∷ s.len) ++ (h.flags ∷ s.code) ++ s.app ++ s.hop) s.e2e all in
    let third = all_parts IsByte ((1 ∷ s.len) ++ (h.flags ∷ s.code) ++ s.app) s.hop fourth.0 in
    let second = all_parts IsByte ((1 ∷ s.len) ++ (h.flags ∷ s.code)) s.app third.0 in
    let first = all_parts IsByte (1 ∷ s.len) (h.flags ∷ s.code) second.0 in
    let a = length-append ((1 ∷ s.len) ++ (h.flags ∷ s.code) ++ s.app ++ s.hop) s.e2e in
    let c = length-append ((1 ∷ s.len) ++ (h.flags ∷ s.code) ++ s.app) s.hop in
    let d = length-append ((1 ∷ s.len) ++ (h.flags ∷ s.code)) s.app in
    let e = length-append (1 ∷ s.len) (h.flags ∷ s.code) in
    record {
      size = ap length s.parts ∙ omega (arith, a, c, d, e, s.length_field.width, s.code_field.width, s.app_field.width, s.hop_field.width, s.e2e_field.width);
      len = field_three n s.len s.length_field first.0.1;
      code = field_three h.code s.code s.code_field first.1.1;
      app = field_four h.app s.app s.app_field second.1;
    }

-- ---- the body

aligned : (vs : List PlainAvp) (b : List ℕ) → SpellsAll vs b → length b % 4 ≡ 0
aligned [] b h = ap (λ (x : List ℕ). length x % 4) h
aligned (v ∷ vs) b (front, rest, s, p, all) =
    let e : length b ≡ length front + length rest = ap length p ∙ length-append front rest in
    omega (arith, e, s.aligned, aligned vs rest all)

-- the bytes of a message are those of its header and of its body
message_bytes : (h : Header) (vs : List PlainAvp) (b : List ℕ) (m : IsMessage h vs b) → AreBytes b → AreBytes m.head × AreBytes m.body
message_bytes h vs b m are = all_parts IsByte m.head m.body (subst AreBytes m.parts are)

-- an application has 32 bits
pub small_app : (d : Dictionary) (who : Sends) (bytes : List ℕ) (c : ℕ) (s : IsSent d who bytes c) → s.header.app < 2 ^ 32
small_app d who bytes c s = (numbers s.header (length bytes) s.message.head s.message.is_head (message_bytes s.header s.avps bytes s.message s.are_bytes).0).app

body_fits : (h : Header) (vs : List PlainAvp) (b : List ℕ) (m : IsMessage h vs b) → AreBytes b → length m.body ≤ max_body
body_fits h vs b m are =
    let n = numbers h (length b) m.head m.is_head (message_bytes h vs b m are).0 in
    let whole : length b ≡ 20 + length m.body = ap length m.parts ∙ length-append m.head m.body ∙ ap (λ (k : ℕ). k + length m.body) n.size in
    let less : length b < 16777216 = n.len in
    let e = aligned vs m.body m.is_body in
    omega (arith, whole, less, e)

-- ---- messages

module _ (da db : Dictionary) (who : Sends) (u : Unknown) (Asked : AboutLevels) (Refuses : Type 0) (Forbids : AboutFlags) (sites : List Site) (safe : AreSafe da db who u Asked sites) where
  -- where B selects a definition whose site has the message's level
  valid_at : (bytes : List ℕ) (c number : ℕ) (other : PlainDefinition) (s : IsSent da who bytes c) → selected db s.header.code (class_of s.header.flags) s.header.app ≡ Some number
      → slice_get (definitions db) number ≡ Some other → AllowsP other.head s.header.flags → HasSite sites s.command other max_body → AreAsked da db Asked s.command other s.avps
      → IsValidOf db u levels.Any bytes number
  valid_at bytes c number other s select is_other allowed (site, within, is_a, is_b, enough) asked =
      let room : length s.message.body ≤ site.room = omega (arith, body_fits s.header s.avps bytes s.message s.are_bytes, enough) in
      let level : IsLevelOf da who site.a.rules site.room s.avps = record {
        bytes = s.message.body;
        are_bytes = (message_bytes s.header s.avps bytes s.message s.are_bytes).1;
        spelled = s.message.is_body;
        has_room = room;
        stand = subst (λ (x : PlainDefinition). StandAsSent who x.rules (map key_of s.avps)) (sym is_a) s.stand;
        sent = s.sent;
      } in
      let first : AreAsked da db Asked site.a other s.avps = subst (λ (x : PlainDefinition). AreAsked da db Asked x other s.avps) (sym is_a) asked in
      let both : AreAsked da db Asked site.a site.b s.avps = subst (λ (x : PlainDefinition). AreAsked da db Asked site.a x s.avps) (sym is_b) first in
      let r = levels_of_b da db who u Asked sites safe site s.avps within level both in
      record {
        header = s.header;
        avps = s.avps;
        command = other;
        message = s.message;
        no_error_request = s.no_error_request;
        no_repeated_answer = s.no_repeated_answer;
        select = select;
        is_command = is_other;
        proxiable = allowed;
        placed = subst (λ (x : PlainDefinition). Placed x.rules (map key_of s.avps)) is_b r.0;
        fit = r.1;
      }

  valid_by : (bytes : List ℕ) (c number : ℕ) (s : IsSent da who bytes c) → IsAsked da db Asked Refuses Forbids s.header s.command s.avps
      → selected db s.header.code (class_of s.header.flags) s.header.app ≡ Some number → IsMetAt db sites Forbids s.command number → IsValid db u levels.Any bytes
  valid_by bytes c number s asked select m = (number, by (m.each s.header.flags s.proxiable))
    where
      here : IsSelected db s.header m.other
      here = (number, select, m.is_other)

      allowed : (AllowsP m.other.head s.header.flags × HasSite sites s.command m.other max_body) → IsValidOf db u levels.Any bytes number
      allowed (p, site) = valid_at bytes c number m.other s select m.is_other p site (asked.levels m.other here)

      by : (AllowsP m.other.head s.header.flags × HasSite sites s.command m.other max_body) ⊎ ((¬ AllowsP m.other.head s.header.flags) × Forbids m.other s.header.flags)
          → IsValidOf db u levels.Any bytes number
      by (inl h) = allowed h
      by (inr h) = absurd (h.0 (asked.proxiable m.other here h.1))

  -- B selects a definition for the message; where it is reported that B refuses some header, this is assumed
  valid_of : (bytes : List ℕ) (c : ℕ) (s : IsSent da who bytes c) → IsAsked da db Asked Refuses Forbids s.header s.command s.avps
      → IsMet db sites Refuses Forbids s.command s.header.code (class_of s.header.flags) s.header.app → IsValid db u levels.Any bytes
  valid_of bytes c s asked m =
      let n = some_of (selected db s.header.code (class_of s.header.flags) s.header.app) (by m.selects) in
      valid_by bytes c n.0 s asked n.1 (m.each n.0 n.1)
    where
      by : IsSome (selected db s.header.code (class_of s.header.flags) s.header.app) ⊎ Refuses → IsSome (selected db s.header.code (class_of s.header.flags) s.header.app)
      by (inl some) = some
      by (inr refused) = asked.selects refused

  pub valid : (c : ℕ) (command : PlainDefinition) → slice_get (definitions da) c ≡ Some command → AreMet da db sites Refuses Forbids c command → AreValidWhere da db who u Asked Refuses Forbids c
  valid c command at met bytes s asked =
      let n = numbers s.header (length bytes) s.message.head s.message.is_head (message_bytes s.header s.avps bytes s.message s.are_bytes).0 in
      let own : s.command ≡ command = same_Some s.command command (sym s.is_command ∙ at) in
      let m = met s.header.code (class_of s.header.flags) s.header.app n.code n.app s.select in
      valid_of bytes c s asked (subst (λ (x : PlainDefinition). IsMet db sites Refuses Forbids x s.header.code (class_of s.header.flags) s.header.app) (sym own) m)
