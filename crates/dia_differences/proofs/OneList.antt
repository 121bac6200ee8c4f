-- Two dictionaries have one list of differences.
use Rattle.std.proofs.Common.{◌≡◌, ℕ, zero, suc, ◌<◌, List, ◌++◌, length, Option, Some, None, sym, ap, ◌∙◌, inl, inr, arith}
use Rattle.std.specs.Prelude.{IfSome, IsSome, slice_get}
use Rattle.dia_book.specs.declared.definition.DRule.{DRule}
use Rattle.dia_book.specs.Dictionary.{Dictionary}
use Rattle.dia_differences.specs.declared.owner.Owner.{Owner}
use Rattle.dia_differences.specs.declared.owner.Owner.TheVariants as owners
use Rattle.dia_differences.specs.Owners.{rules_of}
use Rattle.dia_valid.proofs.Members.{at_some, there_is}
use Rattle.dia_differences.specs.declared.lines.AvpField.{AvpField}
use Rattle.dia_differences.specs.declared.lines.AvpField.TheVariants as avps
use Rattle.dia_differences.specs.declared.lines.HeadField.{HeadField}
use Rattle.dia_differences.specs.declared.lines.HeadField.TheVariants as heads
use Rattle.dia_differences.specs.declared.lines.What.{What}
use Rattle.dia_differences.specs.declared.lines.What.TheVariants as kinds
use Rattle.dia_differences.specs.declared.sides.Side.{Side}
use Rattle.dia_differences.specs.declared.sides.Side.TheVariants as sides
use Rattle.dia_differences.specs.Partners.{Matches, matches_of}
use Rattle.dia_differences.specs.Matching.{At, IsSameAt, IsSameField, IsSameHeadField, partner_of, rule_place}
use Rattle.dia_differences.specs.Lines.{AddedAvp, AddedAvpAt, AddedCommand, AddedCommandAt, AllRules, AreDifferences, AvpAt, AvpLines, AvpsAdded, AvpsOfFirst, CommandAt, CommandLines, CommandsAdded, CommandsOfFirst, Each, FieldLine, FieldLines, HeadLine, HeadLines, Only, OtherRules, OwnRules, RuleLine, RuleLines, Then, Unless, place_of}

abbrev IsOne : (List What → Type 0) → Type 0
IsOne R = (xs ys : List What) → R xs → R ys → xs ≡ ys

one_only : (w : What) → IsOne (Only w)
one_only w xs ys e f = e ∙ sym f

one_unless : (P : Type 0) (w : What) → IsOne (Unless P w)
one_unless P w xs ys (inl h) (inl k) = h.1 ∙ sym k.1
one_unless P w xs ys (inl h) (inr k) = absurd (k.0 h.0)
one_unless P w xs ys (inr h) (inl k) = absurd (h.0 k.0)
one_unless P w xs ys (inr h) (inr k) = h.1 ∙ sym k.1

one_then : (R S : List What → Type 0) → IsOne R → IsOne S → IsOne (Then R S)
one_then R S f g xs ys (x1, x2, r1, s1, e) (y1, y2, r2, s2, k) =
    e ∙ ap (λ (zs : List What). zs ++ x2) (f x1 y1 r1 r2) ∙ ap (λ (zs : List What). y1 ++ zs) (g x2 y2 s1 s2) ∙ sym k

one_each : (R : ℕ → List What → Type 0) (n : ℕ) → ((i : ℕ) → i < n → IsOne (R i)) → IsOne (Each n R)
one_each R zero h = λ xs ys e f. e ∙ sym f
one_each R (suc n) h = one_then (Each n R) (R n) (one_each R n (λ i less. h i (omega arith))) (h n (omega arith))

one_rules : (rules : List DRule) (L : ℕ → DRule → List What → Type 0) → ((i : ℕ) (r : DRule) → IsOne (L i r)) → IsOne (Each (length rules) (λ i ws. IfSome (slice_get rules i) (λ r. L i r ws)))
one_rules rules L h = one_each (λ i ws. IfSome (slice_get rules i) (λ r. L i r ws)) (length rules) (λ i less xs ys e f.
    let (r, at) = there_is rules i less in
    h i r xs ys (at_some (λ (s : DRule). L i s xs) (slice_get rules i) r e at) (at_some (λ (s : DRule). L i s ys) (slice_get rules i) r f at))

-- ---- rules

one_rule_line : (own other : Owner) (i : ℕ) (r : DRule) (others : List DRule) (o : Option ℕ) → IsOne (RuleLine own other i r others o)
one_rule_line own other i r others None = one_only (kinds.Rule sides.First (place_of own i))
one_rule_line own other i r others (Some j) = one_unless (IsSameAt r i others j) (kinds.RuleChange (place_of own i) (place_of other j))

one_rule_lines : (a b : Dictionary) (m : Matches) (own other : Owner) → IsOne (RuleLines a b m own other)
one_rule_lines a b m own other =
    one_then (OwnRules a b m.avps own other) (OtherRules a b m.avps_back own other)
    (one_rules (rules_of a own) (λ i r. RuleLine own other i r (rules_of b other) (rule_place a b m.avps other r)) (λ i r. one_rule_line own other i r (rules_of b other) (rule_place a b m.avps other r)))
    (one_rules (rules_of b other) (λ j r ws. Unless (IsSome (rule_place b a m.avps_back own r)) (kinds.NewRule own (place_of other j)) ws)
    (λ j r. one_unless (IsSome (rule_place b a m.avps_back own r)) (kinds.NewRule own (place_of other j))))

one_alone : (w : What) (side : Side) (own : Owner) (count : ℕ) → IsOne (Then (Only w) (AllRules side own count))
one_alone w side own count =
    one_then (Only w) (AllRules side own count) (one_only w) (one_each (λ i. Only (kinds.Rule side (place_of own i))) count (λ i less. one_only (kinds.Rule side (place_of own i))))

-- ---- AVPs and commands

one_five : (A B C D E : List What → Type 0) → IsOne A → IsOne B → IsOne C → IsOne D → IsOne E → IsOne (Then (Then (Then (Then A B) C) D) E)
one_five A B C D E a b c d e = one_then (Then (Then (Then A B) C) D) E (one_then (Then (Then A B) C) D (one_then (Then A B) C (one_then A B a b) c) d) e

one_avp : (a b : Dictionary) (m : Matches) (i : ℕ) (o : Option ℕ) → IsOne (AvpLines a b m i o)
one_avp a b m i None = one_alone (kinds.Avp sides.First i) sides.First (owners.Avp i) (length (rules_of a (owners.Avp i)))
one_avp a b m i (Some j) =
    let L : AvpField → List What → Type 0 = FieldLine a b i j in
    let one : (field : AvpField) → IsOne (L field) = λ field. one_unless (At (IsSameField field) a.entries b.entries i j) (kinds.AvpField i j field) in
    one_then (FieldLines a b i j) (RuleLines a b m (owners.Avp i) (owners.Avp j))
    (one_five (L avps.Name) (L avps.Code) (L avps.Vendor) (L avps.Format) (L avps.MRule) (one avps.Name) (one avps.Code) (one avps.Vendor) (one avps.Format) (one avps.MRule))
    (one_rule_lines a b m (owners.Avp i) (owners.Avp j))

one_added_avp : (b : Dictionary) (j : ℕ) (o : Option ℕ) → IsOne (AddedAvp b j o)
one_added_avp b j None = one_alone (kinds.Avp sides.Second j) sides.Second (owners.Avp j) (length (rules_of b (owners.Avp j)))
one_added_avp b j (Some i) = λ xs ys e f. e ∙ sym f

one_command : (a b : Dictionary) (m : Matches) (i : ℕ) (o : Option ℕ) → IsOne (CommandLines a b m i o)
one_command a b m i None = one_alone (kinds.Command sides.First i) sides.First (owners.Command i) (length (rules_of a (owners.Command i)))
one_command a b m i (Some j) =
    let L : HeadField → List What → Type 0 = HeadLine a b i j in
    let one : (field : HeadField) → IsOne (L field) = λ field. one_unless (At (IsSameHeadField field) a.commands b.commands i j) (kinds.HeadField i j field) in
    one_then (HeadLines a b i j) (RuleLines a b m (owners.Command i) (owners.Command j))
    (one_five (L heads.Name) (L heads.Code) (L heads.Class) (L heads.Application) (L heads.Proxiable) (one heads.Name) (one heads.Code) (one heads.Class) (one heads.Application) (one heads.Proxiable))
    (one_rule_lines a b m (owners.Command i) (owners.Command j))

one_added_command : (b : Dictionary) (j : ℕ) (o : Option ℕ) → IsOne (AddedCommand b j o)
one_added_command b j None = one_alone (kinds.Command sides.Second j) sides.Second (owners.Command j) (length (rules_of b (owners.Command j)))
one_added_command b j (Some i) = λ xs ys e f. e ∙ sym f

-- ---- all

pub one_list : (a b : Dictionary) (xs ys : List What) → AreDifferences a b xs → AreDifferences a b ys → xs ≡ ys
one_list a b =
    let m = matches_of a b in
    let n = length a.entries in
    let k = length a.commands in
    one_then (Then (Then (AvpsOfFirst a b m) (AvpsAdded b n m.avps_back)) (CommandsOfFirst a b m)) (CommandsAdded b k m.commands_back)
    (one_then (Then (AvpsOfFirst a b m) (AvpsAdded b n m.avps_back)) (CommandsOfFirst a b m)
    (one_then (AvpsOfFirst a b m) (AvpsAdded b n m.avps_back)
    (one_each (AvpAt a b m) n (λ i less. one_avp a b m i (partner_of m.avps i (length b.entries))))
    (one_each (AddedAvpAt b n m.avps_back) (length b.entries) (λ j less. one_added_avp b j (partner_of m.avps_back j n))))
    (one_each (CommandAt a b m) k (λ i less. one_command a b m i (partner_of m.commands i (length b.commands)))))
    (one_each (AddedCommandAt b k m.commands_back) (length b.commands) (λ j less. one_added_command b j (partner_of m.commands_back j k)))
