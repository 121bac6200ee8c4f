use Rattle.std.proofs.Common.{◌≡◌, ℕ, ◌+◌, ◌<◌, ◌≤◌, List, length, sym, ap, subst, ◌∙◌, arith, inl, inr}
use Rattle.dia_valid.specs.Rules.{rules_in}
use Rattle.dia_breaking_levels.specs.declared.line.Line.{Line}
use Rattle.dia_breaking_levels.specs.declared.offers.Offer.{Offer}
use Rattle.dia_breaking_levels.specs.Exact.{IsOrderAt, unless_long}
use Rattle.dia_breaking_levels.specs.Offers.{weight, node_at, weight_at, IsOneWithin}
use Rattle.dia_breaking_levels.specs.Places.{place}
use Rattle.dia_breaking_levels.proofs.LineTurns.{place_least, listed_line, other_line, found_listed, least_listed, found_other, least_other, none_other, other_least}
use Rattle.dia_breaking_levels.proofs.level.Level.line_at.Goals as goal

found_in : (nodes same : List Offer) (from first to last : ℕ) (o : Offer) → nodes ≡ same → from ≡ first → to ≡ last → IsOneWithin nodes from to o → IsOneWithin same first last o
found_in nodes same from first to last o e f t (inl none) = inl none
found_in nodes same from first to last o e f t (inr w) =
    let low = w.1 in
    let high = w.2 in
    inr (w.0, omega (arith, low, f), omega (arith, high, t), w.3 ∙ ap (λ (ns : List Offer). node_at ns w.0) e)

pub returns-then-place-list : goal.returns-then-place-list
returns-then-place-list g c = λ outer held offered.
    let self = c.args.self.now in
    let f = self.floor in
    let a = rules_in (g.A.Book.meaning self.a.book.now) self.a.def in
    let b = rules_in (g.B.Book.meaning self.b.book.now) self.b.def in
    let listed = g.C.Costs.listed_length self.costs.now in
    let other = g.C.Costs.other_length self.costs.now in
    let y = c.args.y in
    let first = c.requires.first in
    let second = c.requires.second in
    let offers = c.args.offers.now in
    let o = c.least_between-listed.result in
    let low : (i : ℕ) → length a + 1 ≤ i → i < length a + 1 + place a y + 1 → weight o ≤ weight_at offers.nodes.items i = λ i from to.
    subst (λ (ns : List Offer). weight o ≤ weight_at ns i) c.deref.ensures.value
    (c.least_between-listed.ensures.least i (omega (arith, from, c.len-size.ensures, c.requires.offers.0)) (omega (arith, to, c.len-size.ensures, c.requires.offers.0, c.place-place.ensures))) in
    let found : IsOneWithin offers.nodes.items (length a + 1) (length a + 1 + place a y + 1) o =
    found_in _ offers.nodes.items _ (length a + 1) _ (length a + 1 + place a y + 1) o c.deref.ensures.value (omega (arith, c.len-size.ensures, c.requires.offers.0))
    (omega (arith, c.len-size.ensures, c.requires.offers.0, c.place-place.ensures))
    c.least_between-listed.ensures.attained in
    let kind = found_listed f listed other a b y outer first second offers held offered o (place_least a y) found in
    let least = least_listed f listed other a b y outer first second offers held offered o low in
    subst (λ (l : Line). IsOrderAt f listed other a b outer y (unless_long l)) (sym c.line_with-line.ensures)
    (listed_line f listed other a b y outer first second o kind least (none_other f listed other a b y outer first second offers held offered o
    (omega (arith, c.if-place-list.true, c.place-place.ensures, ap length c.list.ensures))))

pub returns-then-other-line : goal.returns-then-other-line
returns-then-other-line g c = λ outer held offered.
    let self = c.args.self.now in
    let f = self.floor in
    let a = rules_in (g.A.Book.meaning self.a.book.now) self.a.def in
    let b = rules_in (g.B.Book.meaning self.b.book.now) self.b.def in
    let listed = g.C.Costs.listed_length self.costs.now in
    let other = g.C.Costs.other_length self.costs.now in
    let y = c.args.y in
    let first = c.requires.first in
    let second = c.requires.second in
    let offers = c.args.offers.now in
    let o = c.least_between-listed.result in
    let low : (i : ℕ) → length a + 1 ≤ i → i < length a + 1 + place a y + 1 → weight o ≤ weight_at offers.nodes.items i = λ i from to.
    subst (λ (ns : List Offer). weight o ≤ weight_at ns i) c.deref.ensures.value
    (c.least_between-listed.ensures.least i (omega (arith, from, c.len-size.ensures, c.requires.offers.0)) (omega (arith, to, c.len-size.ensures, c.requires.offers.0, c.place-place.ensures))) in
    let found : IsOneWithin offers.nodes.items (length a + 1) (length a + 1 + place a y + 1) o =
    found_in _ offers.nodes.items _ (length a + 1) _ (length a + 1 + place a y + 1) o c.deref.ensures.value (omega (arith, c.len-size.ensures, c.requires.offers.0))
    (omega (arith, c.len-size.ensures, c.requires.offers.0, c.place-place.ensures))
    c.least_between-listed.ensures.attained in
    let kind = found_listed f listed other a b y outer first second offers held offered o (place_least a y) found in
    let least = least_listed f listed other a b y outer first second offers held offered o low in
    let lt = c.if-other-line.true in
    let one = ap (λ (l : Line). l.length) c.line_with-line.ensures in
    let two = ap (λ (l : Line). l.length) c.line_with-other.ensures in
    let last : length a ≤ place a y = omega (arith, c.if-place-list.false, c.place-place.ensures, ap length c.list.ensures) in
    subst (λ (l : Line). IsOrderAt f listed other a b outer y (unless_long l)) (sym c.line_with-other.ensures)
    (other_line f listed other a b y outer first second o offers.other least (found_other f listed other a b y outer first second offers held offered last)
    (least_other f listed other a b y outer first second offers held offered)
    (omega (arith, lt, one, two)))

pub returns-else-other-line : goal.returns-else-other-line
returns-else-other-line g c = λ outer held offered.
    let self = c.args.self.now in
    let f = self.floor in
    let a = rules_in (g.A.Book.meaning self.a.book.now) self.a.def in
    let b = rules_in (g.B.Book.meaning self.b.book.now) self.b.def in
    let listed = g.C.Costs.listed_length self.costs.now in
    let other = g.C.Costs.other_length self.costs.now in
    let y = c.args.y in
    let first = c.requires.first in
    let second = c.requires.second in
    let offers = c.args.offers.now in
    let o = c.least_between-listed.result in
    let low : (i : ℕ) → length a + 1 ≤ i → i < length a + 1 + place a y + 1 → weight o ≤ weight_at offers.nodes.items i = λ i from to.
    subst (λ (ns : List Offer). weight o ≤ weight_at ns i) c.deref.ensures.value
    (c.least_between-listed.ensures.least i (omega (arith, from, c.len-size.ensures, c.requires.offers.0)) (omega (arith, to, c.len-size.ensures, c.requires.offers.0, c.place-place.ensures))) in
    let found : IsOneWithin offers.nodes.items (length a + 1) (length a + 1 + place a y + 1) o =
    found_in _ offers.nodes.items _ (length a + 1) _ (length a + 1 + place a y + 1) o c.deref.ensures.value (omega (arith, c.len-size.ensures, c.requires.offers.0))
    (omega (arith, c.len-size.ensures, c.requires.offers.0, c.place-place.ensures))
    c.least_between-listed.ensures.attained in
    let kind = found_listed f listed other a b y outer first second offers held offered o (place_least a y) found in
    let least = least_listed f listed other a b y outer first second offers held offered o low in
    let le = c.if-other-line.false in
    let one = ap (λ (l : Line). l.length) c.line_with-line.ensures in
    let two = ap (λ (l : Line). l.length) c.line_with-other.ensures in
    subst (λ (l : Line). IsOrderAt f listed other a b outer y (unless_long l)) (sym c.line_with-line.ensures)
    (listed_line f listed other a b y outer first second o kind least (other_least f listed other a b y outer first second offers held offered _ (omega (arith, le, one, two))))
