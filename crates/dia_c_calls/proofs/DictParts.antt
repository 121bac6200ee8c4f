-- The commands of a dictionary are its last definitions, and its AVPs its entries.
use Rattle.std.proofs.Common.{◌≡◌, ℕ, zero, suc, ◌+◌, ◌<◌, List, [], ◌∷◌, Option, Some, length, refl, subst, sym, ◌∙◌, arith}
use Rattle.std.specs.Prelude.{IfSome, min, slice_get}
use Rattle.dia_wire.specs.declared.Key.{Key}
use Rattle.dia_terms.specs.declared.MRule.{MRule}
use Rattle.dia_data.specs.Plain.{PlainFormat, name_of}
use Rattle.dia_book.specs.Dictionary.{Dictionary, DictEntry, PlainDefinition, definitions, groups}
use Rattle.dia_book.proofs.NumberedGroups.{slice_get-append_right}
use Rattle.dia_c_calls.specs.Avps.{format_number, in_array}
use Rattle.dia_c_calls.specs.DictParts.{IsAvpAt, mandatory_number}

pub command_there : (d : Dictionary) (i : ℕ) (c : PlainDefinition) → slice_get (definitions d) (length (groups d) + i) ≡ Some c → slice_get d.commands i ≡ Some c
command_there d i c at = sym (slice_get-append_right (groups d) d.commands i) ∙ at

there : {X : Type 0} (xs : List X) (i : ℕ) → i < length xs → (x : X) × (slice_get xs i ≡ Some x)
there [] i h = absurd (omega arith)
there (x ∷ xs) zero h = (x, refl)
there (x ∷ xs) (suc i) h = there xs i (omega arith)

at_some : {X : Type 0} (P : X → Type 0) (o : Option X) (x : X) → o ≡ Some x → IfSome o P → P x
at_some P o x is h = subst (λ t. IfSome t P) is h

-- the record of an entry, from what is asked of it
pub avp_there : (d : Dictionary) (i : ℕ) (key : Key) (name : List ℕ) (format : PlainFormat) (rule : MRule) (count : ℕ) (bytes : List ℕ) → i < length d.entries
    → IfSome (slice_get d.entries i) (λ e. key ≡ e.key) → IfSome (slice_get d.entries i) (λ e. name ≡ e.name)
    → IfSome (slice_get d.entries i) (λ e. format ≡ e.format) → IfSome (slice_get d.entries i) (λ e. rule ≡ e.rule)
    → count ≡ min (length name) 128 → bytes ≡ in_array name
    → IsAvpAt d i (record { name_count = count; code = key.code; vendor = key.vendor; format = format_number (name_of format); mandatory = mandatory_number rule; name = bytes })
avp_there d i key name format rule count bytes within keyed named formatted ruled is_count is_bytes =
    let found = there d.entries i within in
    let e = found.0 in
    let k = at_some (λ (x : DictEntry). key ≡ x.key) (slice_get d.entries i) e found.1 keyed in
    let n = at_some (λ (x : DictEntry). name ≡ x.name) (slice_get d.entries i) e found.1 named in
    let f = at_some (λ (x : DictEntry). format ≡ x.format) (slice_get d.entries i) e found.1 formatted in
    let r = at_some (λ (x : DictEntry). rule ≡ x.rule) (slice_get d.entries i) e found.1 ruled in
    (e, found.1, rw (is_count, is_bytes, n, k, f, r) refl)
