-- The parts of a masked message.
use Rattle.std.proofs.Common.{◌≡◌, ◌≢◌, ℕ, ◌-◌, ◌<◌, ◌≤◌, Bool, true, false, List, ◌++◌, Option, Some, None, Result, Ok, Err, length, min, take, drop, refl, sym, ap, subst, ◌∙◌, append_assoc}
use Rattle.std.specs.Prelude.{◌⊎◌, OnOk, is_some, option_map, option_and_then, slice_get, slice_index}
use Rattle.dia_wire.specs.declared.avp_key.Key.{Key}
use Rattle.dia_wire.specs.Number.{number}
use Rattle.dia_wire.specs.Wire.{PlainAvp, key_of, BeginsMessage, IsMessageLength}
use Rattle.dia_data.specs.Plain.{PlainFormat}
use Rattle.dia_book.specs.Dictionary.{Dictionary, DictEntry, PlainDefinition, entry_of, group_place}
use Rattle.dia_valid.specs.Valid.{group_at}
use Rattle.dia_mask.specs.declared.choice.Choice.{Choice}
use Rattle.dia_mask.specs.Replaced.{IsNewData, Numbering}
use Rattle.dia_mask.specs.Choosing.{masks}
use Rattle.dia_mask.specs.Masked.{Adds, IsLeafMasked, IsMasked, IsMessageMasked, IsNoAvpMasked, bad_header, body_of, head, is_masked, message, no_header, short, zeros}

-- ---- which AVPs are groups

mapped : {A B : Type 0} (n : B) (g : Option A) → is_some (option_map (λ (_ : A). n) g) ≡ is_some g
mapped n None = refl
mapped n (Some g) = refl

group_placed : (n : ℕ) (o : Option DictEntry) → is_some (option_and_then (λ (x : DictEntry). option_map (λ _. n) x.group) o) ≡ is_some (option_and_then (λ (x : DictEntry). x.group) o)
group_placed n None = refl
group_placed n (Some x) = mapped n x.group

abbrev grouped : Dictionary → Option ℕ → Bool
grouped d o = is_some (option_and_then (λ (x : DictEntry). x.group) (option_and_then (λ (i : ℕ). slice_get d.entries i) o))

pub known_group : (d : Dictionary) (v : PlainAvp) (e : ℕ) (found : Option ℕ) → found ≡ group_place d e → entry_of d (key_of v) ≡ Some e → is_some found ≡ is_some (group_at d v)
known_group d v e found is known = ap is_some is ∙ group_placed _ (slice_get d.entries e) ∙ ap (grouped d) (sym known)

pub unknown_group : (d : Dictionary) (v : PlainAvp) → entry_of d (key_of v) ≡ None → false ≡ is_some (group_at d v)
unknown_group d v known = ap (grouped d) (sym known)

pub some_group : (o : Option PlainDefinition) → true ≡ is_some o → (g : PlainDefinition) × (o ≡ Some g)
some_group None is = absurd cc
some_group (Some g) is = (g, refl)

pub none_group : (o : Option PlainDefinition) → false ≡ is_some o → o ≡ None
none_group None is = refl
none_group (Some g) is = absurd cc

-- ---- what is added

pub on_ok_map : {E A B : Type 0} (r : Result (Unit {0}) E) → (A → B) → OnOk r A → OnOk r B
on_ok_map (Ok u) f h = f h
on_ok_map (Err e) f h = tt

-- whether an AVP is masked, by the entry of its key
pub masked_as : (choice : Choice) (d : Dictionary) (v : PlainAvp) (key : Key) (entry : Option ℕ) (b t : Bool) → b ≡ masks choice entry → entry ≡ entry_of d key → key ≡ key_of v
    → b ≡ t → is_masked choice d v ≡ t
masked_as choice d v key entry b t is known same answer = sym (is ∙ ap (masks choice) (known ∙ ap (entry_of d) same)) ∙ answer

pub leaf_put : (numbers : Numbering) (masked : Bool) (format : Option PlainFormat) (bytes padding old new : List ℕ) → masked ≡ true
    → (other : List ℕ) × IsNewData numbers format bytes other × (new ≡ (old ++ other) ++ zeros (length padding)) → Adds (IsLeafMasked numbers masked format bytes padding) old new
leaf_put numbers masked format bytes padding old new is (other, replaced, added) = (
  other ++ zeros (length padding),
  subst (λ (b : Bool). IsLeafMasked numbers b format bytes padding (other ++ zeros (length padding))) (sym is) (other, replaced, refl),
  added ∙ append_assoc old other (zeros (length padding)),
)

pub leaf_stays : (numbers : Numbering) (masked : Bool) (format : Option PlainFormat) (bytes padding old new : List ℕ) → masked ≡ false → new ≡ (old ++ bytes) ++ padding
    → Adds (IsLeafMasked numbers masked format bytes padding) old new
leaf_stays numbers masked format bytes padding old new is added =
    (bytes ++ padding, subst (λ (b : Bool). IsLeafMasked numbers b format bytes padding (bytes ++ padding)) (sym is) refl, added ∙ append_assoc old bytes padding)

pub no_head : (level old new : List ℕ) → length level < 8 → new ≡ old ++ zeros (length level) → Adds (IsNoAvpMasked level) old new
no_head level old new few added = (zeros (length level), short few refl, added)

pub head_left : (level old new : List ℕ) → 8 ≤ length level → new ≡ (old ++ take 8 level) ++ zeros (length level - 8) → Adds (IsNoAvpMasked level) old new
head_left level old new many added = (take 8 level ++ zeros (length level - 8), head many refl, added ∙ append_assoc old (take 8 level) (zeros (length level - 8)))

module _ (choice : Choice) (numbers : Numbering) (d : Dictionary) (bytes : List ℕ) where
  pub message_masked : (n : ℕ) (old with_head with_body new : List ℕ) → BeginsMessage bytes n → with_head ≡ old ++ take 20 bytes
      → Adds (IsMasked choice numbers d (body_of bytes n)) with_head with_body → new ≡ with_body ++ zeros (length bytes - min (length bytes) n)
      → Adds (IsMessageMasked choice numbers d bytes) old new
  message_masked n old with_head with_body new begins is_head (body, masked, is_body) is =
      let rest = zeros (length bytes - min (length bytes) n) in (
        take 20 bytes ++ (body ++ rest),
        message n body begins masked refl,
        is ∙ ap (λ (t : List ℕ). t ++ rest) (is_body ∙ ap (λ (t : List ℕ). t ++ body) is_head)
            ∙ ap (λ (t : List ℕ). t ++ rest) (append_assoc old (take 20 bytes) body)
            ∙ append_assoc old (take 20 bytes ++ body) rest
            ∙ ap (λ (t : List ℕ). old ++ t) (append_assoc (take 20 bytes) body rest),
      )

  pub header_left : (old new : List ℕ) → 20 ≤ length bytes → (slice_index bytes 0 ≢ 1) ⊎ (¬ IsMessageLength (number (take 3 (drop 1 bytes))))
      → new ≡ (old ++ take 20 bytes) ++ zeros (length bytes - 20) → Adds (IsMessageMasked choice numbers d bytes) old new
  header_left old new long bad is =
      (take 20 bytes ++ zeros (length bytes - 20), bad_header long bad refl, is ∙ append_assoc old (take 20 bytes) (zeros (length bytes - 20)))

  pub all_left : (old new : List ℕ) → length bytes < 20 → new ≡ old ++ bytes → Adds (IsMessageMasked choice numbers d bytes) old new
  all_left old new few is = (bytes, no_header few refl, is)
