-- What a walk finds is a fault of the message.
use Rattle.std.proofs.Common.{◌≡◌, ℕ, ◌+◌, ◌-◌, ◌≤◌, List, [], ◌∷◌, ◌++◌, length, take, drop, Option, Some, None, refl, sym, ap, subst, ◌∙◌, arith, append_assoc}
use Rattle.std.proofs.Math.Seq.{take-add}
use Rattle.std.proofs.lemmas.List.{length-take, length-drop, length-append, take_all, take_at, drop_at, drop-drop, append-nil}
use Rattle.std.proofs.lemmas.Option.{same_Some, none-some}
use Rattle.dia_wire.specs.Wire.{PlainAvp, head_length, avp_length, padded_length, IsVendorField, Spells, SpellsAll, BeginsWith, BeginsWithNone}
use Rattle.dia_wire.proofs.Spelling.{opened, rounded-le}
use Rattle.dia_wire.proofs.OneHeader.{head_says}
use Rattle.dia_book.specs.Dictionary.{Dictionary, IsDictionary, PlainDefinition}
use Rattle.dia_check.proofs.FaultlessLevels.{opens}
use Rattle.dia_terms.specs.declared.Unknown.{Unknown}
use Rattle.dia_terms.specs.declared.Levels.{Levels}
use Rattle.dia_check.specs.Levels.{IsMember, MayOpen, between}
use Rattle.dia_check.specs.Levels as levels
use Rattle.dia_check.specs.Faults.{Occurs, Looks, HasGoodHeader, avp_length as bad_length, avp as at_avp, missing_at_end}
use Rattle.dia_check.specs.UnderWay.{Lies}
use Rattle.dia_check.specs.Walks.{Found, Rest, following, inside, whole, IsFine, Walks, ended, missing, broken, wrong, leaf, group, bad_group}
use Rattle.dia_valid.specs.Valid.{group_at}

-- ---- parts of bytes

pub length-between : (bytes : List ℕ) (a b : ℕ) → a ≤ b → b ≤ length bytes → length (between bytes a b) ≡ b - a
length-between bytes a b le within = omega (arith, le, within, length-take (b - a) (drop a bytes), length-drop a bytes)

pub between-split : (bytes : List ℕ) (a b c : ℕ) → a ≤ b → b ≤ c → between bytes a c ≡ between bytes a b ++ between bytes b c
between-split bytes a b c le le' =
    let e : c - a ≡ (b - a) + (c - b) = omega (arith, le, le') in
    let f : a + (b - a) ≡ b = omega (arith, le) in
    ap (λ (n : ℕ). take n (drop a bytes)) e ∙ take-add (b - a) (c - b) (drop a bytes)
    ∙ ap (λ (t : List ℕ). take (b - a) (drop a bytes) ++ take (c - b) t) (drop-drop (b - a) a bytes ∙ ap (λ (n : ℕ). drop n bytes) f)

-- the first part of what lies between, by its length, and what follows it
pub first_part : (bytes x y : List ℕ) (a b c : ℕ) → a ≤ b → b ≤ c → c ≤ length bytes → between bytes a c ≡ x ++ y → length x ≡ b - a → between bytes a b ≡ x
first_part bytes x y a b c le le' within is size =
    sym (take_at (between bytes a b) (between bytes b c) (b - a) (length-between bytes a b le (omega (arith, le', within))))
    ∙ ap (take (b - a)) (sym (between-split bytes a b c le le') ∙ is) ∙ take_at x y (b - a) size

pub second_part : (bytes x y : List ℕ) (a b c : ℕ) → a ≤ b → b ≤ c → c ≤ length bytes → between bytes a c ≡ x ++ y → length x ≡ b - a → between bytes b c ≡ y
second_part bytes x y a b c le le' within is size =
    sym (drop_at (between bytes a b) (between bytes b c) (b - a) (length-between bytes a b le (omega (arith, le', within))))
    ∙ ap (drop (b - a)) (sym (between-split bytes a b c le le') ∙ is) ∙ drop_at x y (b - a) size

pub nothing_between : (bytes : List ℕ) (a : ℕ) → between bytes a a ≡ []
nothing_between bytes a = let e : a - a ≡ 0 = omega arith in ap (λ (n : ℕ). take n (drop a bytes)) e

-- ---- spellings

spells_more : (vs : List PlainAvp) (v : PlainAvp) (a b : List ℕ) → SpellsAll vs a → Spells v b → SpellsAll (vs ++ v ∷ []) (a ++ b)
spells_more [] v a b h s = (b, [], s, ap (λ (t : List ℕ). t ++ b) h ∙ sym (append-nil b), refl)
spells_more (w ∷ vs) v a b (front, rest, first, parts, others) s =
    (front, rest ++ b, first, ap (λ (t : List ℕ). t ++ b) parts ∙ append_assoc front rest b, spells_more vs v rest b others s)

vendor_size : (vendor : Option ℕ) (bytes : List ℕ) → IsVendorField vendor bytes → 8 + length bytes ≡ head_length vendor
vendor_size None bytes h = rw h refl
vendor_size (Some n) bytes h = rw h.width refl

-- where the data lies in a spelling
data_in : (v : PlainAvp) (front : List ℕ) → Spells v front → (head : List ℕ) × (tail : List ℕ) × (front ≡ head ++ (v.bytes ++ tail)) × (length head ≡ head_length v.vendor)
data_in v front s = (
  (s.code ++ (v.flags ∷ s.len)) ++ s.vendor,
  s.padding,
  s.parts ∙ append_assoc ((s.code ++ (v.flags ∷ s.len)) ++ s.vendor) v.bytes s.padding,
  omega (arith, length-append (s.code ++ (v.flags ∷ s.len)) s.vendor, length-append s.code (v.flags ∷ s.len), s.code_field.width, s.length_field.width, vendor_size v.vendor s.vendor s.vendor_field),
)

module _ (d : Dictionary) (u : Unknown) (most : Levels) (bytes : List ℕ) (good : HasGoodHeader d bytes) where
  pub looks : (s : Rest) → Lies d u most bytes good s → Looks d most bytes s.level
  looks s l = record { good = good; open_level = l.open_level }

  pub member : (s : Rest) (v : PlainAvp) (rest : List ℕ) → Lies d u most bytes good s → BeginsWith v s.bytes rest → IsMember bytes s.level s.earlier v s.at
  member s v rest l begins = record { inside = l.from; before = l.before; rest = rest; here = subst (λ (t : List ℕ). BeginsWith v t rest) (sym l.here) begins }

  pub lies_after : (s : Rest) (v : PlainAvp) (rest : List ℕ) → Lies d u most bytes good s → BeginsWith v s.bytes rest → Lies d u most bytes good (following s v rest)
  lies_after s v rest l (front, spells, parts) =
      let o = opened v front [] spells in
      let whole : length s.bytes ≡ length front + length rest = ap length parts ∙ length-append front rest in
      let next = s.at + padded_length v in
      let up : s.at ≤ next = omega arith in
      let to : next ≤ s.level.end = omega (arith, l.size, whole, o.front_length) in
      let width : length front ≡ next - s.at = omega (arith, o.front_length) in
      let is = l.here ∙ parts in
      let first = first_part bytes front rest s.at next s.level.end up to l.within is width in
      record {
        open_level = l.open_level;
        from = omega (arith, l.from);
        before = subst (SpellsAll (s.earlier ++ v ∷ [])) (ap (λ (t : List ℕ). between bytes s.level.start s.at ++ t) (sym first)
            ∙ sym (between-split bytes s.level.start s.at next l.from up)) (spells_more s.earlier v (between bytes s.level.start s.at) front l.before spells);
        here = second_part bytes front rest s.at next s.level.end up to l.within is width;
        size = omega (arith, l.size, whole, o.front_length);
        within = l.within;
      }

  pub lies_inside : (s : Rest) (v : PlainAvp) (rest : List ℕ) (g : PlainDefinition) → Lies d u most bytes good s
      → BeginsWith v s.bytes rest → group_at d v ≡ Some g → MayOpen most s.level.depth → Lies d u most bytes good (inside s v g)
  lies_inside s v rest g l begins is_group may =
      let (front, spells, parts) = begins in
      let o = opened v front [] spells in
      let (head, tail, split, wide) = data_in v front spells in
      let whole : length s.bytes ≡ length front + length rest = ap length parts ∙ length-append front rest in
      let from = s.at + head_length v.vendor in
      let to = s.at + avp_length v in
      let round = rounded-le (avp_length v) in
      let last : to ≤ s.level.end = omega (arith, l.size, whole, o.front_length, round) in
      let is : between bytes s.at s.level.end ≡ head ++ ((v.bytes ++ tail) ++ rest) = l.here ∙ parts ∙ ap (λ (t : List ℕ). t ++ rest) split ∙ append_assoc head (v.bytes ++ tail) rest in
      let rest_is = second_part bytes head ((v.bytes ++ tail) ++ rest) s.at from s.level.end (omega arith) (omega (arith, last)) l.within is (omega (arith, wide)) in
      record {
        open_level = levels.group s.level s.earlier v s.at g l.open_level (member s v rest l begins) is_group may;
        from = omega arith;
        before = nothing_between bytes from;
        here = first_part bytes v.bytes (tail ++ rest) from to s.level.end (omega arith) last l.within (rest_is ∙ append_assoc v.bytes tail rest) (omega arith);
        size = omega arith;
        within = omega (arith, last, l.within);
      }

  -- ---- what is found occurs

  at_some : (P : Found → Type 0) (f : Option Found) (g h : Found) → f ≡ Some h → f ≡ Some g → P h → P g
  at_some P f g h is same p = subst P (same_Some h g (sym is ∙ same)) p

  pub found_occurs : (may : (s : Rest) (v : PlainAvp) (g : PlainDefinition) → IsFine d u most s v → group_at d v ≡ Some g
      → MayOpen most s.level.depth) (s : Rest) (f : Option Found) (g : Found) → Walks d u most s f → f ≡ Some g → Lies d u most bytes good s
      → Occurs d u most bytes g.spot g.reason g.subject
  found_occurs may s f g (ended done none is) same l = absurd (none-some g (sym is ∙ same))
  found_occurs may s f g (missing i rule done first is) same l =
      let done_size : length s.bytes ≡ 0 = ap length done in
      let at_end : s.at ≡ s.level.end = omega (arith, l.size, done_size) in
      at_some (λ (h : Found). Occurs d u most bytes h.spot h.reason h.subject) f g _ is same
      (missing_at_end s.level s.earlier i rule (looks s l) (subst (λ (n : ℕ). SpellsAll s.earlier (between bytes s.level.start n)) at_end l.before) first)
  found_occurs may s f g (broken some none is) same l =
      at_some (λ (h : Found). Occurs d u most bytes h.spot h.reason h.subject) f g _ is same
      (bad_length s.level s.earlier s.at (looks s l) l.from (omega (arith, l.size, some)) l.before (subst BeginsWithNone (sym l.here) none))
  found_occurs may s f g (wrong v rest r t begins first is) same l =
      at_some (λ (h : Found). Occurs d u most bytes h.spot h.reason h.subject) f g _ is same
      (at_avp s.level s.earlier v s.at r t (record { looks = looks s l; member = member s v rest l begins }) first.wrong)
  found_occurs may s f g (leaf v rest begins fine is_leaf more) same l = found_occurs may (following s v rest) f g more same (lies_after s v rest l begins)
  found_occurs may s f g (group v rest def begins fine is_group inner more) same l = found_occurs may (following s v rest) f g more same (lies_after s v rest l begins)
  found_occurs may s f g (bad_group v rest def h begins fine is_group inner is) same l =
      at_some (λ (k : Found). Occurs d u most bytes k.spot k.reason k.subject) f g h is same
      (found_occurs may (inside s v def) (Some h) h inner refl (lies_inside s v rest def l begins is_group (may s v def fine is_group)))

-- ---- the whole body

module _ (d : Dictionary) (sound : IsDictionary d) (u : Unknown) (most : Levels) where
  pub body_lies : (bytes : List ℕ) (good : HasGoodHeader d bytes) → Lies d u most bytes good (whole good.command.rules bytes)
  body_lies bytes good =
      let says = head_says good.header (length bytes) bytes good.is_header in
      record {
        open_level = levels.body good.c good.command (record { header = good.header; head = good.is_header; select = good.select; is_command = good.is_command });
        from = omega arith;
        before = nothing_between bytes 20;
        here = let e = length-drop 20 bytes in take_all (length bytes - 20) (drop 20 bytes) (omega (arith, e));
        size = omega (arith, length-drop 20 bytes, says.0);
        within = omega arith;
      }

  pub walks_occurs : (bytes : List ℕ) (good : HasGoodHeader d bytes) (f : Found) → Walks d u most (whole good.command.rules bytes) (Some f) → Occurs d u most bytes f.spot f.reason f.subject
  walks_occurs bytes good f h = found_occurs d u most bytes good (opens d sound u most) (whole good.command.rules bytes) (Some f) f h refl (body_lies bytes good)
