-- Levels that differ only in padding and in data of which the format says the same: a level and what replaces it are such levels.
use Rattle.std.proofs.Common.{◌≡◌, ℕ, ◌+◌, ◌-◌, ◌%◌, ◌<◌, ◌≤◌, Bool, true, false, List, [], ◌∷◌, ◌++◌, Option, Some, None, length, take, drop, get_or, refl, sym, ap, subst, ◌∙◌, append_assoc, arith, inl, inr}
use Rattle.std.specs.Prelude.{◌⊎◌, ◌↔◌, IsSome}
use Rattle.std.specs.Option.{option_map}
use Rattle.std.proofs.lemmas.List.{length-append, length-take, length-drop, length-replicate, take_at, drop-take, get_or-take}
use Rattle.dia_wire.specs.Number.{number, IsField}
use Rattle.dia_wire.specs.Wire.{PlainAvp, HasVendorFlag, IsVendorField, key_of, head_length, avp_length, Spells, BeginsWith, BeginsWithNone}
use Rattle.dia_wire.proofs.Fields.{big_from-number}
use Rattle.dia_wire.proofs.Spelling.{Opened, at_least_8, begins_at, opened, rounded, rounded-le}
use Rattle.dia_data.specs.declared.accept.Leaf.{Leaf}
use Rattle.dia_data.specs.Plain.{PlainFormat}
use Rattle.dia_data.specs.Leaf.{IsLeafAnswer}
use Rattle.dia_book.specs.Dictionary.{Dictionary, DictEntry, PlainDefinition}
use Rattle.dia_valid.specs.Valid.{group_at, known}
use Rattle.dia_mask.specs.declared.choice.Choice.{Choice}
use Rattle.dia_mask.proofs.SaidAgain.{new_said}
use Rattle.dia_mask.specs.Replaced.{IsSameSaid, Numbering}
use Rattle.dia_mask.specs.Masked.{IsAround, IsLeafMasked, IsMasked, IsNoAvpMasked, format_at, group, head, is_masked, leaf, no_avp, short, zeros}

-- the AVP with other data
abbrev pub with_data : PlainAvp → List ℕ → PlainAvp
with_data v bytes = record { code = v.code; flags = v.flags; vendor = v.vendor; bytes = bytes }

-- the format says of other data what it says of the AVP's
abbrev pub SaysAlike : Dictionary → PlainAvp → List ℕ → Type 0
SaysAlike d v bytes = (e : DictEntry) (says : Leaf) → known d (key_of v) ≡ Some e → IsLeafAnswer says e.format v.bytes ↔ IsLeafAnswer says e.format bytes

pub data AreAlike (d : Dictionary) : List ℕ → List ℕ → Type 0 where
  no_avps : {level other : List ℕ} → length level ≡ length other → BeginsWithNone level → BeginsWithNone other → AreAlike d level other
  leaves : {level other : List ℕ} (v : PlainAvp) (bytes rest more : List ℕ) → BeginsWith v level rest → BeginsWith (with_data v bytes) other more → length v.bytes ≡ length bytes
      → group_at d v ≡ None → SaysAlike d v bytes → AreAlike d rest more → AreAlike d level other
  groups : {level other : List ℕ} (v : PlainAvp) (bytes rest more : List ℕ) (g : PlainDefinition) → BeginsWith v level rest → BeginsWith (with_data v bytes) other more
      → length v.bytes ≡ length bytes → group_at d v ≡ Some g → AreAlike d v.bytes bytes → AreAlike d rest more → AreAlike d level other

pub flip : (d : Dictionary) (level other : List ℕ) → AreAlike d level other → AreAlike d other level
flip d level other (no_avps size none none') = no_avps (sym size) none' none
flip d level other (leaves v bytes rest more begins begins' size is_leaf says next) =
    leaves (with_data v bytes) v.bytes more rest begins' begins (sym size) is_leaf (λ e s h. let p = says e s h in (p.1, p.0)) (flip d rest more next)
flip d level other (groups v bytes rest more g begins begins' size is_group inner next) =
    groups (with_data v bytes) v.bytes more rest g begins' begins (sym size) is_group (flip d v.bytes bytes inner) (flip d rest more next)

-- ---- lengths

pub front_size : (v : PlainAvp) (level rest : List ℕ) → BeginsWith v level rest → length level ≡ rounded (avp_length v) + length rest
front_size v level rest (front, s, parts) = ap length parts ∙ length-append front rest ∙ ap (λ (n : ℕ). n + length rest) (opened v front [] s).front_length

pub same_sizes : (v : PlainAvp) (bytes level other rest more : List ℕ) → BeginsWith v level rest → BeginsWith (with_data v bytes) other more → length v.bytes ≡ length bytes
    → length rest ≡ length more → length level ≡ length other
same_sizes v bytes level other rest more begins begins' size after =
    front_size v level rest begins ∙ ap (λ (n : ℕ). rounded (head_length v.vendor + n) + length rest) size
    ∙ ap (λ (n : ℕ). rounded (head_length v.vendor + length bytes) + n) after ∙ sym (front_size (with_data v bytes) other more begins')

pub alike_size : (d : Dictionary) (level other : List ℕ) → AreAlike d level other → length level ≡ length other
alike_size d level other (no_avps size none none') = size
alike_size d level other (leaves v bytes rest more begins begins' size is_leaf says next) =
    same_sizes v bytes level other rest more begins begins' size (alike_size d rest more next)
alike_size d level other (groups v bytes rest more g begins begins' size is_group inner next) =
    same_sizes v bytes level other rest more begins begins' size (alike_size d rest more next)

-- ---- where no AVP begins

same_length_field : (xs ys : List ℕ) → take 8 xs ≡ take 8 ys → number (take 3 (drop 5 xs)) ≡ number (take 3 (drop 5 ys))
same_length_field xs ys eight = ap number (sym (drop-take 5 3 xs) ∙ ap (λ (t : List ℕ). drop 5 t) eight ∙ drop-take 5 3 ys)

no_vendor : IsSome {T = ℕ} None → ⊥
no_vendor h = absurd cc

-- an AVP begins where the Length fits
not_none : (level : List ℕ) (len : ℕ) (o : Option ℕ) → (HasVendorFlag (get_or level 4 0) ↔ IsSome o) → BeginsWithNone level → 8 ≤ length level → head_length o ≤ len
    → rounded len ≤ length level → number (take 3 (drop 5 level)) ≡ len → ⊥
not_none level len None agrees none long fits room is =
    none _ _ (begins_at level _ len 8 _ None refl (big_from-number 3 (drop 5 level) (omega (arith, length-drop 5 level, long)) ∙ is) refl
    (inr ((λ f. no_vendor (agrees.0 f)), refl)) (inr ((λ f. no_vendor (agrees.0 f)), refl)) long fits room)
not_none level len (Some m) agrees none long fits room is =
    none _ _ (begins_at level _ len 12 _ _ refl (big_from-number 3 (drop 5 level) (omega (arith, length-drop 5 level, long)) ∙ is) refl
    (inl (agrees.1 refl, refl)) (inl (agrees.1 refl, refl)) long fits room)

-- whether an AVP begins is decided by the first 8 bytes and the length
pub none_too : (level new : List ℕ) → length level ≡ length new → take 8 level ≡ take 8 new → 8 ≤ length level → BeginsWithNone level → BeginsWithNone new
none_too level new size eight long none v rest (front, s, parts) =
    let o : Opened v front new = subst (Opened v front) (sym parts) (opened v front rest s) in
    let flags : get_or level 4 0 ≡ v.flags = sym (get_or-take 8 level 4 0 (omega arith)) ∙ ap (λ (t : List ℕ). get_or t 4 0) eight ∙ get_or-take 8 new 4 0 (omega arith) ∙ o.flags in
    let len : number (take 3 (drop 5 level)) ≡ avp_length v = same_length_field level new eight
    ∙ sym (big_from-number 3 (drop 5 new) (omega (arith, length-drop 5 new, long, size))) ∙ o.len in
    let whole : length new ≡ length front + length rest = ap length parts ∙ length-append front rest in
    let fits : rounded (avp_length v) ≤ length level = omega (arith, size, whole, o.front_length) in
    not_none level (avp_length v) v.vendor (subst (λ (f : ℕ). HasVendorFlag f ↔ IsSome v.vendor) (sym flags) s.agrees) none long (omega arith) fits len

few_none : (new : List ℕ) → length new < 8 → BeginsWithNone new
few_none new few v rest begins = omega (arith, few, front_size v new rest begins, rounded-le (avp_length v), at_least_8 v.vendor)

none_masked : (d : Dictionary) (level new : List ℕ) → BeginsWithNone level → IsNoAvpMasked level new → AreAlike d level new
none_masked d level new none (head long is) =
    let size : length new ≡ length level = ap length is ∙ length-append (take 8 level) (zeros (length level - 8)) ∙ omega (arith, long, length-take 8 level, length-replicate {A = ℕ} (length level - 8) 0) in
    let eight : take 8 new ≡ take 8 level = ap (take 8) is ∙ take_at (take 8 level) (zeros (length level - 8)) 8 (omega (arith, long, length-take 8 level)) in
    no_avps (sym size) none (none_too level new (sym size) (sym eight) long none)
none_masked d level new none (short few is) =
    let size : length new ≡ length level = ap length is ∙ length-replicate {A = ℕ} (length level) 0 in
    no_avps (sym size) none (few_none new (omega (arith, few, size)))

no_more : (level : List ℕ) → (length level ≡ 0) ⊎ BeginsWithNone level → BeginsWithNone level
no_more level (inl empty) = few_none level (omega (arith, empty))
no_more level (inr none) = none

-- ---- an AVP with other data and padding

vendor_size : (vendor : Option ℕ) (bytes : List ℕ) → IsVendorField vendor bytes → 8 + length bytes ≡ head_length vendor
vendor_size None bytes h = rw h refl
vendor_size (Some n) bytes h = rw h.width refl

abbrev pub head_of : {v : PlainAvp} {b : List ℕ} → Spells v b → List ℕ
head_of {v} s = (s.code ++ (v.flags ∷ s.len)) ++ s.vendor

pub head_size : (v : PlainAvp) (b : List ℕ) (s : Spells v b) → length (head_of s) ≡ head_length v.vendor
head_size v b s =
    omega (arith, length-append (s.code ++ (v.flags ∷ s.len)) s.vendor, length-append s.code (v.flags ∷ s.len), s.code_field.width, s.length_field.width, vendor_size v.vendor s.vendor s.vendor_field)

pub replaced_begins : (v : PlainAvp) (level rest lead padding other pad more new : List ℕ) → BeginsWith v level rest → IsAround v level rest lead padding
    → length other ≡ length v.bytes → length pad ≡ length padding → new ≡ lead ++ ((other ++ pad) ++ more) → BeginsWith (with_data v other) new more
replaced_begins v level rest lead padding other pad more new (front, s, parts) around size pad_size is =
    let h = head_of s in
    let wide : length h ≡ head_length v.vendor = head_size v front s in
    let split : level ≡ h ++ ((v.bytes ++ s.padding) ++ rest) = parts ∙ ap (λ (t : List ℕ). t ++ rest) (s.parts ∙ append_assoc h v.bytes s.padding) ∙ append_assoc h (v.bytes ++ s.padding) rest in
    let same : lead ≡ h = sym (take_at lead (v.bytes ++ (padding ++ rest)) (head_length v.vendor) around.head_long) ∙ ap (take (head_length v.vendor)) (sym around.parts ∙ split)
    ∙ take_at h ((v.bytes ++ s.padding) ++ rest) (head_length v.vendor) wide in
    let all : length front ≡ (head_length v.vendor + length v.bytes) + length s.padding = ap length s.parts
    ∙ length-append (h ++ v.bytes) s.padding ∙ ap (λ (n : ℕ). n + length s.padding) (length-append h v.bytes ∙ ap (λ (n : ℕ). n + length v.bytes) wide) in
    let whole : length level ≡ length front + length rest = ap length parts ∙ length-append front rest in
    let whole' : length level ≡ head_length v.vendor + (length v.bytes + (length padding + length rest)) = ap length around.parts ∙ length-append lead (v.bytes ++ (padding ++ rest))
    ∙ omega (arith, around.head_long, length-append v.bytes (padding ++ rest), length-append padding rest) in
    let pads : length pad ≡ length s.padding = omega (arith, all, whole, whole', pad_size) in
    let front' = (h ++ other) ++ pad in
    let long : length front' ≡ length front = omega (arith, length-append (h ++ other) pad, length-append h other, wide, size, pads, all) in
    let spells : Spells (with_data v other) front' = record {
      code = s.code;
      len = s.len;
      vendor = s.vendor;
      padding = pad;
      parts = refl;
      code_field = s.code_field;
      length_field = subst (λ (n : ℕ). IsField 3 (head_length v.vendor + n) s.len) (sym size) s.length_field;
      vendor_field = s.vendor_field;
      agrees = s.agrees;
      short_padding = omega (arith, pads, s.short_padding);
      aligned = subst (λ (n : ℕ). n % 4 ≡ 0) (sym long) s.aligned;
    } in (
      front',
      spells,
      is ∙ ap (λ (t : List ℕ). t ++ ((other ++ pad) ++ more)) same ∙ sym (append_assoc h (other ++ pad) more) ∙ ap (λ (t : List ℕ). t ++ more) (sym (append_assoc h other pad)),
    )

-- ---- masked levels

said_size : (format : Option PlainFormat) (bytes other : List ℕ) → IsSameSaid format bytes other → length other ≡ length bytes
said_size None bytes other size = size
said_size (Some format) bytes other h = h.0

said_alike : (d : Dictionary) (v : PlainAvp) (other : List ℕ) → IsSameSaid (format_at d v) v.bytes other → SaysAlike d v other
said_alike d v other h e says is = (subst (λ (o : Option DictEntry). IsSameSaid (option_map (λ (x : DictEntry). x.format) o) v.bytes other) is h).1 says

-- what stands in the place of the data and the padding of a leaf
record IsLeafAlike (d : Dictionary) (v : PlainAvp) (padding new : List ℕ) : Type 0 where
  other : List ℕ
  pad : List ℕ
  parts : new ≡ other ++ pad
  size : length other ≡ length v.bytes
  pad_size : length pad ≡ length padding
  says : SaysAlike d v other

leaf_alike : (numbers : Numbering) (d : Dictionary) (v : PlainAvp) (padding new : List ℕ) (masked : Bool) → IsLeafMasked numbers masked (format_at d v) v.bytes padding new → IsLeafAlike d v padding new
leaf_alike numbers d v padding new false is = record { other = v.bytes; pad = padding; parts = is; size = refl; pad_size = refl; says = λ e says h. (λ x. x, λ x. x) }
leaf_alike numbers d v padding new true (other, replaced, is) = record {
  other = other;
  pad = zeros (length padding);
  parts = is;
  size = said_size (format_at d v) v.bytes other (new_said numbers (format_at d v) v.bytes other replaced);
  pad_size = length-replicate {A = ℕ} (length padding) 0;
  says = said_alike d v other (new_said numbers (format_at d v) v.bytes other replaced);
}

pub masked_alike : (choice : Choice) (numbers : Numbering) (d : Dictionary) (level new : List ℕ) → IsMasked choice numbers d level new → AreAlike d level new
masked_alike choice numbers d level new (no_avp none masked) = none_masked d level new (no_more level none) masked
masked_alike choice numbers d level new (leaf v rest lead padding both more begins around is_leaf masked next is) =
    let l = leaf_alike numbers d v padding both (is_masked choice d v) masked in
    leaves v l.other rest more begins
    (replaced_begins v level rest lead padding l.other l.pad more new begins around l.size l.pad_size (is ∙ ap (λ (t : List ℕ). lead ++ (t ++ more)) l.parts))
    (sym l.size) is_leaf l.says (masked_alike choice numbers d rest more next)
masked_alike choice numbers d level new (group v rest lead padding members more g begins around is_group inner next is) =
    let alike = masked_alike choice numbers d v.bytes members inner in
    let size = alike_size d v.bytes members alike in
    groups v members rest more g begins
    (replaced_begins v level rest lead padding members padding more new begins around (sym size) refl (is ∙ ap (λ (t : List ℕ). lead ++ t) (sym (append_assoc members padding more))))
    size is_group alike (masked_alike choice numbers d rest more next)
