-- The faults of a message have the order of their places.
use Rattle.std.proofs.Common.{◌≡◌, ℕ, ◌+◌, ◌≤◌, List, [], ◌∷◌, ◌++◌, length, map, refl, sym, subst, arith}
use Rattle.std.specs.List.{AllByRecursion}
use Rattle.std.proofs.lemmas.List.{length-drop}
use Rattle.dia_wire.specs.declared.Header.{Header}
use Rattle.dia_wire.specs.Wire.{avp_length, head_length, padded_length}
use Rattle.dia_wire.proofs.Spelling.{rounded-le}
use Rattle.dia_book.specs.Dictionary.{Dictionary, PlainDefinition}
use Rattle.dia_terms.specs.declared.Unknown.{Unknown}
use Rattle.dia_terms.specs.declared.Levels.{Levels}
use Rattle.dia_check.specs.declared.open_levels.Wrong.{Wrong}
use Rattle.dia_check.specs.Levels.{Level}
use Rattle.dia_check.specs.Walks.{Found, Rest, following, inside, whole}
use Rattle.dia_check.proofs.FirstFaults.{begun_room}
use Rattle.dia_faults.specs.Levels.{IsListing, at, at_end}
use Rattle.dia_faults.specs.Levels as levels
use Rattle.dia_faults.specs.Messages.{AreAll, AreInOrder, HasBits, HasBody, HasProxiable}
use Rattle.dia_faults.specs.Messages as messages

-- from one place up to another, in order
abbrev LieIn : ℕ → ℕ → List Found → Type 0
LieIn low high fs = AllByRecursion (λ f. (low ≤ f.spot.place) × (f.spot.place ≤ high)) fs

abbrev Spans : ℕ → ℕ → List Found → Type 0
Spans low high fs = LieIn low high fs × AreInOrder fs

wider : (low high l h : ℕ) (fs : List Found) → l ≤ low → high ≤ h → LieIn low high fs → LieIn l h fs
wider low high l h [] le le' all = tt
wider low high l h (f ∷ fs) le le' ((a, b), all) = ((omega (arith, le, a), omega (arith, le', b)), wider low high l h fs le le' all)

spans_wider : (low high l h : ℕ) (fs : List Found) → l ≤ low → high ≤ h → Spans low high fs → Spans l h fs
spans_wider low high l h fs le le' (all, order) = (wider low high l h fs le le' all, order)

all_append : (P : Found → Type 0) (xs ys : List Found) → AllByRecursion P xs → AllByRecursion P ys → AllByRecursion P (xs ++ ys)
all_append P [] ys a b = b
all_append P (x ∷ xs) ys (here, a) b = (here, all_append P xs ys a b)

all_after : (place mid high : ℕ) (ys : List Found) → place ≤ mid → LieIn mid high ys → AllByRecursion (λ g. place ≤ g.spot.place) ys
all_after place mid high [] le all = tt
all_after place mid high (y ∷ ys) le ((a, b), all) = (omega (arith, le, a), all_after place mid high ys le all)

order_append : (low mid high : ℕ) (xs ys : List Found) → Spans low mid xs → Spans mid high ys → AreInOrder (xs ++ ys)
order_append low mid high [] ys first second = second.1
order_append low mid high (x ∷ xs) ys (((a, b), all), (here, order)) second =
    (all_append (λ g. x.spot.place ≤ g.spot.place) xs ys here (all_after x.spot.place mid high ys b second.0), order_append low mid high xs ys (all, order) second)

both : (low mid high : ℕ) (xs ys : List Found) → low ≤ mid → mid ≤ high → Spans low mid xs → Spans mid high ys → Spans low high (xs ++ ys)
both low mid high xs ys le le' first second = (
  all_append (λ f. (low ≤ f.spot.place) × (f.spot.place ≤ high)) xs ys (wider low mid low high xs (omega arith) le' first.0) (wider mid high low high ys le (omega arith) second.0),
  order_append low mid high xs ys first second,
)

at_one_place : (place : ℕ) (fs : List Found) → AllByRecursion (λ f. f.spot.place ≡ place) fs → Spans place place fs
at_one_place place [] all = (tt, tt)
at_one_place place (f ∷ fs) (here, all) =
    let rest = at_one_place place fs all in
    (((omega (arith, here), omega (arith, here)), rest.0), (all_after f.spot.place place place fs (omega (arith, here)) rest.0, rest.1))

at_here : (place : ℕ) (ws : List Wrong) → AllByRecursion (λ f. f.spot.place ≡ place) (map (at place) ws)
at_here place [] = tt
at_here place (w ∷ ws) = (refl, at_here place ws)

end_here : (level : Level) (ws : List Wrong) → AllByRecursion (λ f. f.spot.place ≡ level.end) (map (at_end level) ws)
end_here level [] = tt
end_here level (w ∷ ws) = (refl, end_here level ws)

module _ (d : Dictionary) (u : Unknown) (most : Levels) where
  spans : (s : Rest) (fs : List Found) → IsListing d u most s fs → s.at + length s.bytes ≡ s.level.end → Spans s.at s.level.end fs
  spans s fs (levels.IsListing.ended wrongs empty is parts) size =
      subst (Spans s.at s.level.end) (sym parts)
      (spans_wider s.level.end s.level.end s.at s.level.end (map (at_end s.level) wrongs) (omega (arith, size)) (omega arith) (at_one_place s.level.end (map (at_end s.level) wrongs) (end_here s.level wrongs)))
  spans s fs (levels.IsListing.broken some none parts) size =
      subst (Spans s.at s.level.end) (sym parts) (((omega arith, omega (arith, size)), tt), (tt, tt))
  spans s fs (levels.IsListing.leaf v rest own after begins is_own opened more parts) size =
      let room = begun_room d u most s v rest begins in
      subst (Spans s.at s.level.end) (sym parts)
      (both s.at s.at s.level.end (map (at s.at) own) after (omega arith) (omega (arith, size)) (at_one_place s.at (map (at s.at) own) (at_here s.at own))
      (spans_wider (s.at + padded_length v) s.level.end s.at s.level.end after (omega arith) (omega arith) (spans (following s v rest) after more (omega (arith, size, room)))))
  spans s fs (levels.IsListing.group v rest own g members after begins is_own opened inner more parts) size =
      let room = begun_room d u most s v rest begins in let round = rounded-le (avp_length v) in
      subst (Spans s.at s.level.end) (sym parts)
      (both s.at s.at s.level.end (map (at s.at) own) (members ++ after) (omega arith) (omega (arith, size)) (at_one_place s.at (map (at s.at) own) (at_here s.at own))
      (both s.at (s.at + padded_length v) s.level.end members after (omega arith) (omega (arith, size, room))
      (spans_wider (s.at + head_length v.vendor) (s.at + avp_length v) s.at (s.at + padded_length v) members (omega arith) (omega (arith, round)) (spans (inside s v g) members inner (omega arith)))
      (spans (following s v rest) after more (omega (arith, size, room)))))

  module _ (bytes : List ℕ) (long : 20 ≤ length bytes) where
    proxiable_spans : (command : PlainDefinition) (h : Header) (p : List Found) → HasProxiable command h p → Spans 4 4 p
    proxiable_spans command h p (messages.HasProxiable.fine allows) = (tt, tt)
    proxiable_spans command h p (messages.HasProxiable.wrong bad) = (((omega arith, omega arith), tt), (tt, tt))

    body_spans : (h : Header) (fs : List Found) → HasBody d u most bytes h fs → Spans 4 (length bytes) fs
    body_spans h fs (messages.HasBody.no_command none select) = (((omega arith, omega (arith, long)), tt), (tt, tt))
    body_spans h fs (messages.HasBody.no_application some select) = (((omega arith, omega (arith, long)), tt), (tt, tt))
    body_spans h fs (messages.HasBody.body c command p members select is_command is_p listing parts) =
        let size = length-drop 20 bytes in
        subst (Spans 4 (length bytes)) (sym parts)
        (both 4 4 (length bytes) p members (omega arith) (omega (arith, long)) (proxiable_spans command h p is_p)
        (spans_wider 20 (length bytes) 4 (length bytes) members (omega arith) (omega arith) (spans (whole command.rules bytes) members listing (omega (arith, size, long)))))

    bits_spans : (h : Header) (bits : List Found) → HasBits h bits → Spans 4 4 bits
    bits_spans h bits (messages.HasBits.fine e t) = (tt, tt)
    bits_spans h bits (messages.HasBits.wrong bad) = (((omega arith, omega arith), tt), (tt, tt))

  pub in_order : (bytes : List ℕ) (fs : List Found) → AreAll d u most bytes fs → AreInOrder fs
  in_order bytes fs (messages.AreAll.version long bad) = (tt, tt)
  in_order bytes fs (messages.AreAll.message_length long version bad) = (tt, tt)
  in_order bytes fs (messages.AreAll.whole_message h bits others sized is is_bits rest parts) =
      subst AreInOrder (sym parts) (order_append 4 4 (length bytes) bits others (bits_spans bytes sized.long h bits is_bits) (body_spans bytes sized.long h others rest))
