-- AVPs that break nothing by themselves.
use Rattle.std.proofs.Common.{◌≡◌, ℕ, zero, suc, ◌<◌, List, [], ◌∷◌, Option, Some, None, refl, sym, subst, inl, inr}
use Rattle.std.specs.Prelude.{◌⊎◌, option_and_then, MatchOption, IsSome, ⊤}
use Rattle.std.proofs.lemmas.Option.{none-some}
use Rattle.dia_wire.specs.declared.Key.{Key}
use Rattle.dia_wire.specs.Wire.{PlainAvp, key_of, SpellsAll}
use Rattle.dia_data.specs.Leaf.{IsLeaf}
use Rattle.dia_book.specs.declared.DRule.{DRule}
use Rattle.dia_book.specs.Dictionary.{Dictionary, DictEntry, PlainDefinition}
use Rattle.dia_terms.specs.declared.Unknown.{Unknown}
use Rattle.dia_terms.specs.declared.sends.Sends.{Sends}
use Rattle.dia_terms.specs.declared.sends.Sends.TheVariants as senders
use Rattle.dia_valid.specs.Valid.{Fits as AvpFits, IsAccepted, IsLevel, MHolds, known}
use Rattle.dia_valid.specs.Valid.{group_at}
use Rattle.dia_valid.specs.Valid.{HasFlags}
use Rattle.dia_breaking_sites.specs.Sent.{own_policy, AreBytes, IsSentAvp, IsSentLevel, IsSentWithin}
use Rattle.dia_breaking_sites.specs.Sites.{FitsAlone}
use Rattle.dia_breaking_sites.proofs.Members.{IsIn, in_contains, in_all, all_parts}
use Rattle.dia_breaking_avps.specs.declared.breaking.HeadBreak.{HeadBreak}
use Rattle.dia_breaking_avps.specs.declared.breaking.DataBreak.{DataBreak}
use Rattle.dia_breaking_avps.specs.declared.breaking.DataBreak.TheVariants.{Fits, Groups, Data, LeastLevel, EightBytes, Undecided}
use Rattle.dia_breaking_avps.specs.Sent.{IsSentData}
use Rattle.dia_breaking_avps.specs.Breaks.{IsHeadBreak, IsDataBreak, IsSilentData, AcceptsFlags}
use Rattle.dia_breaking_avps.specs.Laws.{FitKeyAlone, KeysFitAlone}
use Rattle.dia_breaking_avps.proofs.FirstAvps.{data_bytes}

-- ---- what is sent

only_any : (who : Sends) (flags : ℕ) → IsAccepted (own_policy who) flags → who ≡ senders.Any
only_any senders.Any flags h = refl
only_any senders.Known flags h = absurd h
only_any senders.Filled flags h = absurd h
only_any senders.Listed flags h = absurd h

-- the AVP is as the entry says, where P says which data a group may have
abbrev Body : Unknown → (List DRule → List ℕ → Type 0) → PlainAvp → Option DictEntry → Type 0
Body u P v o = MatchOption o (IsAccepted u v.flags) (λ e. MHolds e.rule v.flags × MatchOption e.group (IsLeaf e.format v.bytes) (λ group. P group.rules v.bytes))

flags_in : (u : Unknown) (P : List DRule → List ℕ → Type 0) (v : PlainAvp) (o : Option DictEntry) → Body u P v o → MatchOption o (IsAccepted u v.flags) (λ e. MHolds e.rule v.flags)
flags_in u P v None h = h
flags_in u P v (Some e) h = h.0

group_in : (P : List DRule → List ℕ → Type 0) (Q : List DRule → List ℕ → Type 0) → ((rules : List DRule) (bytes : List ℕ) → P rules bytes → Q rules bytes) → (X : Type 0) (bytes : List ℕ) (o : Option PlainDefinition)
    → MatchOption o X (λ group. P group.rules bytes) → MatchOption o X (λ group. Q group.rules bytes)
group_in P Q f X bytes None h = h
group_in P Q f X bytes (Some x) h = f x.rules bytes h

data_in : (who : Sends) (P Q : List DRule → List ℕ → Type 0) → ((rules : List DRule) (bytes : List ℕ) → P rules bytes → Q rules bytes) → (v : PlainAvp) (o : Option DictEntry) → Body (own_policy who) P v o
    → MatchOption o (who ≡ senders.Any) (λ e. MatchOption e.group (IsLeaf e.format v.bytes) (λ group. Q group.rules v.bytes))
data_in who P Q f v None h = only_any who v.flags h
data_in who P Q f v (Some e) h = group_in P Q f (IsLeaf e.format v.bytes) v.bytes e.group h.1

pub sent_flags : (d : Dictionary) (who : Sends) (n : ℕ) (v : PlainAvp) → IsSentWithin d who n v → HasFlags d (own_policy who) (key_of v) v.flags
sent_flags d who zero v h = flags_in (own_policy who) (λ rules bytes. ⊥) v (known d (key_of v)) h
sent_flags d who (suc n) v h = flags_in (own_policy who) (IsSentLevel who (IsSentWithin d who n)) v (known d (key_of v)) h

pub sent_data : (d : Dictionary) (who : Sends) (n : ℕ) (v : PlainAvp) → IsSentWithin d who n v → IsSentData d who (key_of v) v.bytes
sent_data d who zero v h =
    data_in who (λ rules bytes. ⊥) (λ rules bytes. (n : ℕ) × IsSentLevel who (IsSentWithin d who n) rules bytes) (λ rules bytes bad. absurd bad) v (known d (key_of v)) h
sent_data d who (suc n) v h =
    data_in who (IsSentLevel who (IsSentWithin d who n)) (λ rules bytes. (n : ℕ) × IsSentLevel who (IsSentWithin d who n) rules bytes) (λ rules bytes level. (n, level)) v (known d (key_of v)) h

-- ---- what fits

module _ (da db : Dictionary) (u : Unknown) (v : PlainAvp) where
  abbrev Inner : ℕ → List DRule → List ℕ → Type 0
  Inner n rules bytes = IsSome (group_at da v) ⊎ IsLevel (AvpFits db u n) rules bytes

  of_entry : (e : DictEntry) → MHolds e.rule v.flags → (o : Option PlainDefinition) → e.group ≡ o → MatchOption o (IsLeaf e.format v.bytes) (λ group. (n : ℕ) × IsLevel (AvpFits db u n) group.rules v.bytes)
      → (n : ℕ) × (MHolds e.rule v.flags × MatchOption o (IsLeaf e.format v.bytes) (λ group. Inner n group.rules v.bytes))
  of_entry e m None is leaf = (0, (m, leaf))
  of_entry e m (Some x) is level = (level.0, (m, inr level.1))

  pub of_data : (o : Option DictEntry) → MatchOption o (IsAccepted u v.flags) (λ e. MHolds e.rule v.flags)
      → MatchOption o ⊤ (λ e. MatchOption e.group (IsLeaf e.format v.bytes) (λ group. (n : ℕ) × IsLevel (AvpFits db u n) group.rules v.bytes)) → (n : ℕ) × Body u (Inner n) v o
  of_data None flags h = (0, flags)
  of_data (Some e) flags h = of_entry e flags e.group refl h

  of_group : IsSome (group_at da v) → (x : PlainDefinition) (o : Option DictEntry) → option_and_then (λ e. e.group) o ≡ Some x → MatchOption o (IsAccepted u v.flags) (λ e. MHolds e.rule v.flags)
      → Body u (Inner 0) v o
  of_group both x None is flags = absurd (none-some x is)
  of_group both x (Some e) is flags = (
    flags,
    subst (λ (o : Option PlainDefinition). MatchOption o (IsLeaf e.format v.bytes) (λ group. Inner 0 group.rules v.bytes)) (sym is) (inl both),
  )

  fits_alone : (who : Sends) (r : DataBreak) → AcceptsFlags da db who u (key_of v) → IsDataBreak da db who u (key_of v) r → IsSilentData r → AreBytes v.bytes → IsSentAvp da who v → FitsAlone da db u v
  fits_alone who Fits flags all silent are (n, sent) =
      of_data (known db (key_of v)) (flags v.flags (sent_flags da who n v sent)) (all v.bytes are (sent_data da who n v sent))
  fits_alone who (Groups a b) flags ((x, is_x, at_x), (y, is_y, at_y)) silent are (n, sent) =
      (0, of_group (subst (λ (o : Option PlainDefinition). IsSome o) (sym is_x) refl) y (known db (key_of v)) is_y (flags v.flags (sent_flags da who n v sent)))
  fits_alone who (Data w) flags h silent are sent = absurd silent
  fits_alone who LeastLevel flags h silent are sent = absurd silent
  fits_alone who EightBytes flags h silent are sent = absurd silent
  fits_alone who Undecided flags h silent are sent = absurd silent

pub key_alone : (da db : Dictionary) (who : Sends) (u : Unknown) (key : Key) (head : Option HeadBreak) (r : DataBreak) → IsHeadBreak da db who u key head → IsDataBreak da db who u key r
    → (head ≡ None) × IsSilentData r → FitKeyAlone da db who u key
key_alone da db who u key head r is_head is_data (none, silent) v same are sent =
    fits_alone da db u v who r
    (subst (λ (k : Key). AcceptsFlags da db who u k) (sym same) (subst (λ (o : Option HeadBreak). IsHeadBreak da db who u key o) none is_head))
    (subst (λ (k : Key). IsDataBreak da db who u k r) (sym same) is_data) silent are sent

-- ---- levels

member_bytes : (avps : List PlainAvp) (bytes : List ℕ) (v : PlainAvp) → SpellsAll avps bytes → AreBytes bytes → IsIn v avps → AreBytes v.bytes
member_bytes [] bytes v h are i = absurd i
member_bytes (w ∷ avps) bytes v (front, rest, s, parts, later) are (inl e) =
    subst (λ (x : PlainAvp). AreBytes x.bytes) (sym e) (data_bytes (λ byte. byte < 256) w front s (all_parts (λ byte. byte < 256) front rest (subst AreBytes parts are)).0)
member_bytes (w ∷ avps) bytes v (front, rest, s, parts, later) are (inr i) =
    member_bytes avps rest v later (all_parts (λ byte. byte < 256) front rest (subst AreBytes parts are)).1 i

pub keys_alone : KeysFitAlone
keys_alone da db who u rules room avps v level is alone =
    let sent = level.sent in
    alone v refl (member_bytes avps level.bytes v level.spelled level.are_bytes (in_contains avps v is)) (sent.0, in_all (IsSentWithin da who sent.0) avps v sent.1 (in_contains avps v is))
