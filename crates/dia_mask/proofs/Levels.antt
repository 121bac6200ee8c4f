-- A level that is masked AVP by AVP, with the levels around it that wait, the outermost first.
use Rattle.std.proofs.Common.{◌≡◌, ℕ, ◌+◌, ◌-◌, ◌*◌, ◌<◌, ◌≤◌, List, [], ◌∷◌, ◌++◌, Some, None, length, take, drop, refl, sym, ap, subst, ◌∙◌, append_assoc, arith}
use Rattle.std.specs.Prelude.{◌⊎◌, sum_by}
use Rattle.std.proofs.lemmas.List.{append-nil, length-append, take-append-drop, drop-drop, drop_at}
use Rattle.std.proofs.lemmas.List.Sums.{sum_by-append}
use Rattle.dia_wire.specs.Wire.{PlainAvp, head_length, avp_length, padded_length, BeginsWith, BeginsWithNone}
use Rattle.dia_wire.proofs.Spelling.{at_least_8, opened, rounded-le}
use Rattle.dia_book.specs.Dictionary.{Dictionary, PlainDefinition}
use Rattle.dia_valid.specs.Valid.{group_at}
use Rattle.dia_mask.specs.declared.choice.Choice.{Choice}
use Rattle.dia_mask.specs.declared.message.Waiting.{Waiting}
use Rattle.dia_mask.specs.Replaced.{Numbering}
use Rattle.dia_mask.specs.Masked.{Adds, IsAround, IsLeafMasked, IsMasked, IsNoAvpMasked, format_at, group, is_masked, leaf, no_avp}

-- ---- lengths

length-level : (v : PlainAvp) (level rest : List ℕ) → BeginsWith v level rest → length level ≡ padded_length v + length rest
length-level v level rest (front, s, parts) = ap length parts ∙ length-append front rest ∙ ap (λ (n : ℕ). n + length rest) (opened v front [] s).front_length

-- an AVP and what follows it are no longer than the level
pub room : (v : PlainAvp) (level rest : List ℕ) → BeginsWith v level rest → avp_length v + length rest ≤ length level
room v level rest begins = omega (arith, length-level v level rest begins, rounded-le (avp_length v))

-- what is left to read, and how many levels wait
abbrev pub left_to_read : List ℕ → List Waiting → ℕ
left_to_read rest outer = 2 * (length rest + sum_by (λ w. length w.rest.now) outer) + length outer

shorter : (v : PlainAvp) (level rest : List ℕ) → BeginsWith v level rest → length rest + length v.bytes < length level
shorter v level rest begins = omega (arith, room v level rest begins, at_least_8 v.vendor)

pub less_after_avp : (v : PlainAvp) (level rest : List ℕ) (outer : List Waiting) → BeginsWith v level rest → left_to_read rest outer < left_to_read level outer
less_after_avp v level rest outer begins = omega (arith, shorter v level rest begins)

pub less_inside : (v : PlainAvp) (level : List ℕ) (next : Waiting) (outer waiting : List Waiting) → BeginsWith v level next.rest.now → waiting ≡ outer ++ next ∷ []
    → left_to_read v.bytes waiting < left_to_read level outer
less_inside v level next outer waiting begins is =
    rw is (omega (arith, sum_by-append (λ (w : Waiting). length w.rest.now) outer (next ∷ []), shorter v level next.rest.now begins, length-append outer (next ∷ [])))

pub less_after_level : (level : List ℕ) (outer waiting : List Waiting) (next : Waiting) → outer ≡ waiting ++ next ∷ [] → left_to_read next.rest.now waiting < left_to_read level outer
less_after_level level outer waiting next is = rw is (omega (arith, sum_by-append (λ (w : Waiting). length w.rest.now) waiting (next ∷ []), length-append waiting (next ∷ [])))

-- ---- the parts of an AVP

cut : (xs : List ℕ) (n : ℕ) → xs ≡ take n xs ++ drop n xs
cut xs n = sym (take-append-drop n xs)

three_parts : (xs bytes rest : List ℕ) (h e k : ℕ) → bytes ≡ take (length bytes) (drop h xs) → e ≡ h + length bytes → drop k (drop e xs) ≡ rest
    → xs ≡ take h xs ++ (bytes ++ (take k (drop e xs) ++ rest))
three_parts xs bytes rest h e k is end after =
    let tail : drop (length bytes) (drop h xs) ≡ drop e xs = drop-drop (length bytes) h xs ∙ ap (λ (n : ℕ). drop n xs) (sym end) in
    let data_first : drop h xs ≡ bytes ++ drop e xs = cut (drop h xs) (length bytes) ∙ ap (λ (b : List ℕ). b ++ drop (length bytes) (drop h xs)) (sym is)
    ∙ ap (λ (b : List ℕ). bytes ++ b) tail in
    let padding_first : drop e xs ≡ take k (drop e xs) ++ rest = cut (drop e xs) k ∙ ap (λ (b : List ℕ). take k (drop e xs) ++ b) after in
    cut xs h ∙ ap (λ (b : List ℕ). take h xs ++ b) (data_first ∙ ap (λ (b : List ℕ). bytes ++ b) padding_first)

-- the bytes before the data of an AVP, and those between the data and what follows
pub around : (v : PlainAvp) (level rest : List ℕ) → BeginsWith v level rest
    → IsAround v level rest (take (avp_length v - length v.bytes) level) (take (length level - length rest - avp_length v) (drop (avp_length v) level))
around v level rest (front, s, parts) =
    let begins : BeginsWith v level rest = (front, s, parts) in
    let o = opened v front rest s in
    let h : avp_length v - length v.bytes ≡ head_length v.vendor = omega arith in
    let fits = room v level rest begins in
    let size : length level ≡ length front + length rest = ap length parts ∙ length-append front rest in
    let up_to : avp_length v + (length level - length rest - avp_length v) ≡ length front = omega (arith, fits, size) in
    let after : drop (length level - length rest - avp_length v) (drop (avp_length v) level) ≡ rest =
    drop-drop (length level - length rest - avp_length v) (avp_length v) level ∙ ap (λ (n : ℕ). drop n level) up_to
    ∙ ap (λ (xs : List ℕ). drop (length front) xs) parts ∙ drop_at front rest (length front) refl in
    let long : length (take (avp_length v - length v.bytes) level) ≡ head_length v.vendor = length_of_head v level rest fits in
    let bytes : v.bytes ≡ take (length v.bytes) (drop (avp_length v - length v.bytes) level) =
    subst (λ (n : ℕ). v.bytes ≡ take (length v.bytes) (drop n level)) (sym h) (subst (λ (xs : List ℕ). v.bytes ≡ take (length v.bytes) (drop (head_length v.vendor) xs)) (sym parts) o.bytes) in
    record {
      parts = three_parts level v.bytes rest (avp_length v - length v.bytes) (avp_length v) (length level - length rest - avp_length v) bytes (omega arith) after;
      head_long = long;
    }
  where
    length_of_head : (v : PlainAvp) (level rest : List ℕ) → avp_length v + length rest ≤ length level → length (take (avp_length v - length v.bytes) level) ≡ head_length v.vendor
    length_of_head v level rest fits = Rattle.std.proofs.lemmas.List.length-take-le (avp_length v - length v.bytes) level (omega (arith, fits)) ∙ omega arith

-- ---- the walk

module _ (choice : Choice) (numbers : Numbering) (d : Dictionary) where
  -- the bytes that replace a level, and then what is left of the levels around it
  abbrev pub Owes : List Waiting → List ℕ → List ℕ → Type 0
  Owes [] level new = IsMasked choice numbers d level new
  Owes (w ∷ ws) level new = (inner : List ℕ) × (more : List ℕ) × Owes ws level inner × IsMasked choice numbers d w.rest.now more × (new ≡ inner ++ (w.padding.now ++ more))

  -- what precedes the bytes of a level precedes all
  Owes-front : (ws : List Waiting) (level next front new : List ℕ) → ((t : List ℕ) → IsMasked choice numbers d next t → IsMasked choice numbers d level (front ++ t))
      → Owes ws next new → Owes ws level (front ++ new)
  Owes-front [] level next front new f h = f new h
  Owes-front (w ∷ ws) level next front new f (inner, more, h, rest, parts) = (
    front ++ inner,
    more,
    Owes-front ws level next front inner f h,
    rest,
    ap (λ (t : List ℕ). front ++ t) parts ∙ sym (append_assoc front inner (w.padding.now ++ more)),
  )

  -- a group that is entered: its members come first, and then what follows it
  Owes-group : (ws : List Waiting) (w : Waiting) (level head new : List ℕ) (v : PlainAvp) (g : PlainDefinition) → BeginsWith v level w.rest.now
      → IsAround v level w.rest.now head w.padding.now → group_at d v ≡ Some g → Owes (ws ++ w ∷ []) v.bytes new → Owes ws level (head ++ new)
  Owes-group [] w level head new v g begins is_around grouped (members, more, h, rest, parts) =
      group v w.rest.now head w.padding.now members more g begins is_around grouped h rest (ap (λ (t : List ℕ). head ++ t) parts)
  Owes-group (q ∷ ws) w level head new v g begins is_around grouped (inner, more, h, rest, parts) = (
    head ++ inner,
    more,
    Owes-group ws w level head inner v g begins is_around grouped h,
    rest,
    ap (λ (t : List ℕ). head ++ t) parts ∙ sym (append_assoc head inner (q.padding.now ++ more)),
  )

  -- the end of a level: what is left of the one around it comes next
  Owes-end : (ws : List Waiting) (w : Waiting) (level last new : List ℕ) → IsMasked choice numbers d level last → Owes ws w.rest.now new
      → Owes (ws ++ w ∷ []) level (last ++ (w.padding.now ++ new))
  Owes-end [] w level last new ended h = (last, new, ended, h, refl)
  Owes-end (q ∷ ws) w level last new ended (inner, more, h, rest, parts) =
      (last ++ (w.padding.now ++ inner), more, Owes-end ws w level last inner ended h, rest, regrouped)
    where
      regrouped : last ++ (w.padding.now ++ new) ≡ (last ++ (w.padding.now ++ inner)) ++ (q.padding.now ++ more)
      regrouped = ap (λ (t : List ℕ). last ++ (w.padding.now ++ t)) parts
          ∙ ap (λ (t : List ℕ). last ++ t) (sym (append_assoc w.padding.now inner (q.padding.now ++ more)))
          ∙ sym (append_assoc last (w.padding.now ++ inner) (q.padding.now ++ more))

  -- the bytes that were added, and those that are owed, replace the whole level
  pub record IsUnderWay (whole before now : List ℕ) (ws : List Waiting) (level : List ℕ) : Type 0 where
    pub added : List ℕ
    pub are : now ≡ before ++ added
    pub goes_on : (new : List ℕ) → Owes ws level new → IsMasked choice numbers d whole (added ++ new)

  pub started : (whole before : List ℕ) (ws : List Waiting) → ws ≡ [] → IsUnderWay whole before before ws whole
  started whole before ws none = record {
    added = [];
    are = sym (append-nil before);
    goes_on = λ new h. subst (λ (qs : List Waiting). Owes qs whole new) none h;
  }

  longer : (before added more now : List ℕ) → now ≡ before ++ added → now ++ more ≡ before ++ (added ++ more)
  longer before added more now are = ap (λ (t : List ℕ). t ++ more) are ∙ append_assoc before added more

  pub leaf_added : (whole before now after : List ℕ) (ws : List Waiting) (level rest head padding : List ℕ) (v : PlainAvp) → IsUnderWay whole before now ws level
      → BeginsWith v level rest → IsAround v level rest head padding → group_at d v ≡ None
      → Adds (IsLeafMasked numbers (is_masked choice d v) (format_at d v) v.bytes padding) (now ++ head) after → IsUnderWay whole before after ws rest
  leaf_added whole before now after ws level rest head padding v u begins is_around no_group (middle, masked, is) = record {
    added = u.added ++ (head ++ middle);
    are = is ∙ append_assoc now head middle ∙ longer before u.added (head ++ middle) now u.are;
    goes_on = λ new h. subst (IsMasked choice numbers d whole) (sym (append_assoc u.added (head ++ middle) new))
        (u.goes_on ((head ++ middle) ++ new) (Owes-front ws level rest (head ++ middle) new
        (λ t k. leaf v rest head padding middle t begins is_around no_group masked k (append_assoc head middle t)) h));
  }

  pub group_entered : (whole before now after : List ℕ) (ws all : List Waiting) (w : Waiting) (level head : List ℕ) (v : PlainAvp) (g : PlainDefinition)
      → IsUnderWay whole before now ws level → BeginsWith v level w.rest.now → IsAround v level w.rest.now head w.padding.now → group_at d v ≡ Some g
      → after ≡ now ++ head → all ≡ ws ++ w ∷ [] → IsUnderWay whole before after all v.bytes
  group_entered whole before now after ws all w level head v g u begins is_around grouped is is_all = record {
    added = u.added ++ head;
    are = is ∙ longer before u.added head now u.are;
    goes_on = λ new h. subst (IsMasked choice numbers d whole) (sym (append_assoc u.added head new))
        (u.goes_on (head ++ new) (Owes-group ws w level head new v g begins is_around grouped (subst (λ (qs : List Waiting). Owes qs v.bytes new) is_all h)));
  }

  pub level_ended : (whole before now middle after : List ℕ) (all ws : List Waiting) (w : Waiting) (level : List ℕ) → IsUnderWay whole before now all level
      → (length level ≡ 0) ⊎ BeginsWithNone level → Adds (IsNoAvpMasked level) now middle → after ≡ middle ++ w.padding.now → all ≡ ws ++ w ∷ []
      → IsUnderWay whole before after ws w.rest.now
  level_ended whole before now middle after all ws w level u none (last, masked, is) is_after is_all = record {
    added = u.added ++ (last ++ w.padding.now);
    are = is_after ∙ ap (λ (t : List ℕ). t ++ w.padding.now) is ∙ append_assoc now last w.padding.now ∙ longer before u.added (last ++ w.padding.now) now u.are;
    goes_on = λ new h. subst (IsMasked choice numbers d whole)
        (ap (λ (t : List ℕ). u.added ++ t) (sym (append_assoc last w.padding.now new)) ∙ sym (append_assoc u.added (last ++ w.padding.now) new))
        (u.goes_on (last ++ (w.padding.now ++ new)) (subst (λ (qs : List Waiting). Owes qs level (last ++ (w.padding.now ++ new))) (sym is_all)
        (Owes-end ws w level last new (no_avp none masked) h)));
  }

  pub all_ended : (whole before now after : List ℕ) (ws : List Waiting) (level : List ℕ) → IsUnderWay whole before now ws level → length ws ≡ 0
      → (length level ≡ 0) ⊎ BeginsWithNone level → Adds (IsNoAvpMasked level) now after → Adds (IsMasked choice numbers d whole) before after
  all_ended whole before now after (w ∷ ws) level u no_more none added = absurd (omega arith)
  all_ended whole before now after [] level u no_more none (last, masked, is) =
      (u.added ++ last, u.goes_on last (no_avp none masked), is ∙ longer before u.added last now u.are)
