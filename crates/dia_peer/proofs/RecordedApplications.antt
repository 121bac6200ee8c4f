-- What the AVPs of a valid CER or CEA name, in the words of the table.
use Rattle.std.proofs.Common.{◌≡◌, ℕ, ◌-◌, List, length, take, drop, Option, Some, None, ◌⊎◌, inl, inr, ⊎_elim, refl, sym, ap, subst, ◌∙◌, arith}
use Rattle.std.specs.Prelude.{◌↔◌, IsTrue, IsSome}
use Rattle.std.specs.Option.{option_map}
use Rattle.std.proofs.lemmas.List.{take_all, length-drop}
use Rattle.std.proofs.lemmas.Option.{same_Some, none-some}
use Rattle.dia_wire.specs.declared.Key.{Key}
use Rattle.dia_wire.specs.Number.{number}
use Rattle.dia_wire.specs.Wire.{PlainAvp, key_of}
use Rattle.dia_peer.specs.declared.config.Kind.{Kind}
use Rattle.dia_peer.specs.declared.config.Kind.TheVariants.{Auth, Acct}
use Rattle.dia_peer.specs.declared.named_apps.NamedApps.{NamedApps}
use Rattle.dia_peer.specs.Core.{Pair, pair, are_in_order}
use Rattle.dia_peer.specs.Messages.{NamesPair, Advertises, AreAdvertised, HasResult}
use Rattle.dia_peer.specs.Incoming.{kind_of, named_by, NamesApplication, Records, SaidBy, IsResult, is_vendor_specific, Has, pairs_named}
use Rattle.dia_peer.proofs.Sets.{IsIn, to_in, of_in, same_fields}
use Rattle.dia_peer.proofs.LevelWalks.{said, into_said}
use Rattle.dia_peer.proofs.ApplicationNumbers.{from_listed, into_listed}
use Rattle.dia_peer.proofs.ValidMessageAvps.{both_same, kind_cases, the_key}

-- what follows a header
pub rest_of : (b : List ℕ) → take (length b - 20) (drop 20 b) ≡ drop 20 b
rest_of b = take_all (length b - 20) (drop 20 b) (omega (arith, length-drop 20 b))

-- ---- one AVP

abbrev NamesHere : PlainAvp → Pair → Type 0
NamesHere v p = (number v.bytes ≡ p.id) × (((p.kind ≡ Auth) × (key_of v ≡ record { code = 258; vendor = 0 })) ⊎ ((p.kind ≡ Acct) × (key_of v ≡ record { code = 259; vendor = 0 })))

names_at : (v : PlainAvp) (kind : Kind) (code : ℕ) → key_of v ≡ the_key code 0 → kind_of (the_key code 0) ≡ Some kind → named_by v ≡ Some (pair kind (number v.bytes))
names_at v kind code is known = ap (λ (k : Key). option_map (λ (x : Kind). pair x (number v.bytes)) (kind_of k)) is ∙ ap (option_map (λ (x : Kind). pair x (number v.bytes))) known

some_kind : (v : PlainAvp) (p : Pair) (o : Option Kind) → option_map (λ (x : Kind). pair x (number v.bytes)) o ≡ Some p → IsSome o
some_kind v p None is = absurd (none-some p is)
some_kind v p (Some k) is = refl

names_to : (v : PlainAvp) (p : Pair) → NamesApplication v p → NamesHere v p
names_to v p n =
    ⊎_elim (λ e. (let q : pair Auth (number v.bytes) ≡ p = same_Some (pair Auth (number v.bytes)) p (sym (names_at v Auth 258 e refl) ∙ n) in
    (ap (λ (x : Pair). x.id) q, inl (sym (ap (λ (x : Pair). x.kind) q), e))))
    (λ e. (let q : pair Acct (number v.bytes) ≡ p = same_Some (pair Acct (number v.bytes)) p (sym (names_at v Acct 259 e refl) ∙ n) in
    (ap (λ (x : Pair). x.id) q, inr (sym (ap (λ (x : Pair). x.kind) q), e))))
    (kind_cases (key_of v) (some_kind v p (kind_of (key_of v)) n))

names_from : (v : PlainAvp) (p : Pair) → NamesHere v p → NamesApplication v p
names_from v p (n, inl (k, e)) = names_at v Auth 258 e refl ∙ ap (λ (x : Pair). Some x) (same_fields (pair Auth (number v.bytes)) p (sym k) n)
names_from v p (n, inr (k, e)) = names_at v Acct 259 e refl ∙ ap (λ (x : Pair). Some x) (same_fields (pair Acct (number v.bytes)) p (sym k) n)

in_named : (avps : List PlainAvp) (p : Pair) → SaidBy NamesApplication avps p → NamesPair avps p
in_named avps p s = let (v, m, n) = said NamesApplication avps p s in let h = names_to v p n in (v, of_in avps v m, h.0, h.1)

into_named : (avps : List PlainAvp) (p : Pair) → NamesPair avps p → SaidBy NamesApplication avps p
into_named avps p (v, m, n, k) = into_said NamesApplication avps p v (to_in avps v m) (names_from v p (n, k))

-- ---- a body

advertises : (avps : List PlainAvp) (p : Pair) → SaidBy Records avps p → Advertises avps p
advertises avps p s = by (said Records avps p s)
  where
    by : (v : PlainAvp) × IsIn avps v × Records v p → Advertises avps p
    by (v, m, inl n) = let h = names_to v p n in inl (v, of_in avps v m, h.0, h.1)
    by (v, m, inr (is, (inner, all, s'))) = inr (v, inner, of_in avps v m, both_same (key_of v) 260 is, all, in_named inner p s')

into_records : (avps : List PlainAvp) (p : Pair) → Advertises avps p → SaidBy Records avps p
into_records avps p (inl (v, m, n, k)) = into_said Records avps p v (to_in avps v m) (inl (names_from v p (n, k)))
into_records avps p (inr (v, inner, m, key, all, names)) =
    into_said Records avps p v (to_in avps v m) (inr (subst (λ (k : Key). IsTrue (is_vendor_specific k)) (sym key) refl, (inner, all, into_named inner p names)))

-- the list of what was found is what the AVPs advertise
pub advertised : (n : NamedApps) (avps : List PlainAvp) → ((p : Pair) → Has n p ↔ SaidBy Records avps p) → IsTrue (are_in_order (pairs_named n)) → AreAdvertised avps (pairs_named n)
advertised n avps has ordered = (
  λ p. (
    λ m. advertises avps p ((has p).0 (of_in _ p.id (from_listed n.auth.keys n.acct.keys p (to_in (pairs_named n) p m)))),
    λ a. of_in (pairs_named n) p (into_listed n.auth.keys n.acct.keys p (to_in _ p.id ((has p).1 (into_records avps p a)))),
  ),
  ordered,
)

pub has_result : (avps : List PlainAvp) (n : ℕ) → SaidBy IsResult avps n → HasResult avps n
has_result avps n s = let (v, m, is) = said IsResult avps n s in (v, of_in avps v m, both_same (key_of v) 268 is.0, is.1)
