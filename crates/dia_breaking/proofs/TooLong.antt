-- A command whose least level is longer than a message is not sent; nor is one that is a group.
use Rattle.std.proofs.Common.{◌≡◌, ℕ, suc, ◌+◌, ◌*◌, ◌%◌, ◌^◌, ◌<◌, ◌≤◌, List, [], ◌∷◌, ◌++◌, length, Some, None, sym, ap, subst, ◌∙◌, arith}
use Rattle.std.specs.Prelude.{slice_get}
use Rattle.std.proofs.lemmas.Option.{same_Some}
use Rattle.std.proofs.lemmas.List.{length-append}
use Rattle.dia_wire.specs.declared.Header.{Header}
use Rattle.dia_wire.specs.Lengths.{three_bytes}
use Rattle.dia_wire.specs.Number.{number}
use Rattle.dia_wire.specs.Wire.{PlainAvp, SpellsAll, IsHead, IsMessage}
use Rattle.dia_book.specs.declared.DefHead.{DefHead}
use Rattle.dia_book.specs.declared.DefHead.TheVariants.{Group, Command, Error}
use Rattle.dia_book.specs.Dictionary.{Dictionary, PlainDefinition, definitions}
use Rattle.dia_terms.specs.declared.Unknown.{Unknown}
use Rattle.dia_terms.specs.declared.Sends.{Sends}
use Rattle.dia_valid.specs.Valid.{AllowsP}
use Rattle.dia_breaking_sites.specs.Sent.{AreBytes}
use Rattle.dia_breaking_sites.specs.Selection.{max_body}
use Rattle.dia_breaking_sites.proofs.Members.{all_parts}
use Rattle.dia_breaking.specs.Headers.{head_in}
use Rattle.dia_breaking.specs.Corrected.{IsUnsent}
use Rattle.dia_breaking.specs.Sides.{sides}

-- ---- how long a message is

abbrev IsByte : ℕ → Type 0
IsByte byte = byte < 256

below_three_bytes : (a : List ℕ) → length a ≡ 3 → AreBytes a → number a < three_bytes
below_three_bytes [] e h = absurd (omega (arith, e))
below_three_bytes (x ∷ []) e h = absurd (omega (arith, e))
below_three_bytes (x ∷ y ∷ []) e h = absurd (omega (arith, e))
below_three_bytes (x ∷ y ∷ z ∷ []) e h = let less : x * 65536 + (y * 256 + (z * 1 + 0)) < 16777216 = omega (arith, h.0, h.1.0, h.1.1.0) in less
below_three_bytes (x ∷ y ∷ z ∷ w ∷ more) e h = absurd (let f : suc (suc (suc (suc (length more)))) ≡ 3 = e in omega (arith, f))

-- its length has three bytes
head_says : (h : Header) (n : ℕ) (b : List ℕ) → IsHead h n b → AreBytes b → n < three_bytes
head_says h n b s are =
    let all = subst AreBytes s.parts are in
    let fourth = all_parts IsByte ((1 ∷ s.len) ++ (h.flags ∷ s.code) ++ s.app ++ s.hop) s.e2e all in
    let third = all_parts IsByte ((1 ∷ s.len) ++ (h.flags ∷ s.code) ++ s.app) s.hop fourth.0 in
    let second = all_parts IsByte ((1 ∷ s.len) ++ (h.flags ∷ s.code)) s.app third.0 in
    let first = all_parts IsByte (1 ∷ s.len) (h.flags ∷ s.code) second.0 in
    subst (λ (k : ℕ). k < three_bytes) s.length_field.value (below_three_bytes s.len s.length_field.width first.0.1)

below_four_bytes : (a : List ℕ) → length a ≡ 4 → AreBytes a → number a < 2 ^ 32
below_four_bytes [] e h = absurd (omega (arith, e))
below_four_bytes (x ∷ []) e h = absurd (omega (arith, e))
below_four_bytes (x ∷ y ∷ []) e h = absurd (omega (arith, e))
below_four_bytes (x ∷ y ∷ z ∷ []) e h = absurd (omega (arith, e))
below_four_bytes (x ∷ y ∷ z ∷ w ∷ []) e h =
    let less : x * 16777216 + (y * 65536 + (z * 256 + (w * 1 + 0))) < 4294967296 = omega (arith, h.0, h.1.0, h.1.1.0, h.1.1.1.0) in less
below_four_bytes (x ∷ y ∷ z ∷ w ∷ v ∷ more) e h = absurd (let f : suc (suc (suc (suc (suc (length more))))) ≡ 4 = e in omega (arith, f))

-- an application in four
pub app_says : (h : Header) (vs : List PlainAvp) (b : List ℕ) (m : IsMessage h vs b) → AreBytes b → h.app < 2 ^ 32
app_says h vs b m are =
    let s = m.is_head in
    let all = subst AreBytes s.parts (all_parts IsByte m.head m.body (subst AreBytes m.parts are)).0 in
    let fourth = all_parts IsByte ((1 ∷ s.len) ++ (h.flags ∷ s.code) ++ s.app ++ s.hop) s.e2e all in
    let third = all_parts IsByte ((1 ∷ s.len) ++ (h.flags ∷ s.code) ++ s.app) s.hop fourth.0 in
    let second = all_parts IsByte ((1 ∷ s.len) ++ (h.flags ∷ s.code)) s.app third.0 in
    subst (λ (k : ℕ). k < 2 ^ 32) s.app_field.value (below_four_bytes s.app s.app_field.width second.1)

pub head_takes : (h : Header) (n : ℕ) (b : List ℕ) → IsHead h n b → length b ≡ 20
head_takes h n b s =
    let front = 1 ∷ s.len in
    let middle = h.flags ∷ s.code in
    omega (
      arith,
      ap length s.parts,
      length-append (front ++ middle ++ s.app ++ s.hop) s.e2e,
      length-append (front ++ middle ++ s.app) s.hop,
      length-append (front ++ middle) s.app,
      length-append front middle,
      s.length_field.width,
      s.code_field.width,
      s.app_field.width,
      s.hop_field.width,
      s.e2e_field.width,
    )

aligned : (vs : List PlainAvp) (b : List ℕ) → SpellsAll vs b → length b % 4 ≡ 0
aligned [] b h = ap (λ (x : List ℕ). length x % 4) h
aligned (v ∷ vs) b (front, rest, s, p, all) =
    let e : length b ≡ length front + length rest = ap length p ∙ length-append front rest in
    omega (arith, e, s.aligned, aligned vs rest all)

message_within : (h : Header) (vs : List PlainAvp) (b : List ℕ) (m : IsMessage h vs b) → AreBytes b → length b ≤ 20 + max_body
message_within h vs b m are =
    let parts = all_parts IsByte m.head m.body (subst AreBytes m.parts are) in
    let less : length b < 16777216 = head_says h (length b) m.head m.is_head parts.0 in
    let whole : length b ≡ 20 + length m.body = ap length m.parts ∙ length-append m.head m.body ∙ ap (λ (k : ℕ). k + length m.body) (head_takes h (length b) m.head m.is_head) in
    let e = aligned vs m.body m.is_body in
    omega (arith, whole, less, e)

pub body_bytes : (h : Header) (vs : List PlainAvp) (b : List ℕ) (m : IsMessage h vs b) → AreBytes b → AreBytes m.body
body_bytes h vs b m are = (all_parts IsByte m.head m.body (subst AreBytes m.parts are)).1

pub body_within : (h : Header) (vs : List PlainAvp) (b : List ℕ) (m : IsMessage h vs b) → AreBytes b → length m.body ≤ max_body
body_within h vs b m are =
    let whole : length b ≡ 20 + length m.body = ap length m.parts ∙ length-append m.head m.body ∙ ap (λ (k : ℕ). k + length m.body) (head_takes h (length b) m.head m.is_head) in
    let within : length b ≤ 20 + max_body = message_within h vs b m are in
    omega (arith, whole, within)

-- ---- groups

pub no_message_of_group : (da db : Dictionary) (who : Sends) (u : Unknown) (c : ℕ) (x : PlainDefinition) → slice_get (definitions da) c ≡ Some x → None ≡ head_in x.head → IsUnsent (sides da db who u) c
no_message_of_group da db who u c x at is bytes s = by x.head is (subst (λ (y : PlainDefinition). AllowsP y.head s.header.flags) (same_Some s.command x (sym s.is_command ∙ at)) s.proxiable)
  where
    by : (h : DefHead) → None ≡ head_in h → AllowsP h s.header.flags → ⊥
    by (Group key) e p = p
    by (Command code class app p) e q = absurd (let f : None ≡ Some (record { code = code; class = class; app = app; p = p }) = e in cc)
    by (Error p) e q = absurd cc
