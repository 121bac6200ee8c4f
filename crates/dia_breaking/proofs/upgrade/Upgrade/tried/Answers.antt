use Rattle.std.proofs.Common.{ℕ, List, Option, ◌++◌, ◌≤◌, refl, sym, ap, subst, ◌∙◌, inl, inr}
use Rattle.std.specs.Prelude.{IfSome}
use Rattle.std.specs.Option.{option_map}
use Rattle.std.specs.Borrow.{Bor}
use Rattle.dia_data.specs.declared.Format.{Format}
use Rattle.dia_data.specs.declared.accept.Leaf.TheVariants.{Fine}
use Rattle.dia_data.specs.Leaf.{IsLeafAnswer}
use Rattle.dia_data.specs.Plain.{PlainFormat, plain_format}
use Rattle.dia_breaking_shortest.specs.Bytes.{least_avp}
use Rattle.dia_breaking.specs.Tried.{data_of, most_tried}
use Rattle.dia_breaking.proofs.Tried.{takes_fine, takes_none}
use Rattle.dia_breaking.proofs.upgrade.Upgrade.tried.Goals as goal

pub returns : goal.returns
returns g c =
    let up = c.args.self.now in
    let least = least_avp (g.A.Book.meaning up.lengths.book.now) up.lengths.least c.args.key in
    let has = sym c.format_of.ensures ∙ ap (option_map (λ (f : Bor Format). plain_format f.now)) c.in-Some.is in
    let bytes = c.deref.ensures.value ∙ c.in_ok-push_least.ensures ∙ ap (λ (front : List ℕ). front ++ least) c.new-bytes.ensures.items in
    record {
      recorded = refl;
      exact = inr (
        refl,
        inr (takes_fine (g.B.Book.meaning up.b.now) c.args.key (plain_format c.in-Some.format.now) has c.shortest_head-head.result c.deref.result.now least
            c.shortest_head-head.ensures bytes c.if-is_refused.ensures),
      );
    }

pub returns-then-is_refused : goal.returns-then-is_refused
returns-then-is_refused g c =
    let up = c.args.self.now in
    let least = least_avp (g.A.Book.meaning up.lengths.book.now) up.lengths.least c.args.key in
    let has = sym c.format_of.ensures ∙ ap (option_map (λ (f : Bor Format). plain_format f.now)) c.in-Some.is in
    let bytes = c.deref.ensures.value ∙ c.in_ok-push_least.ensures ∙ ap (λ (front : List ℕ). front ++ least) c.new-bytes.ensures.items in
    record {
      recorded = refl;
      exact = inl (
        refl,
        (
          subst (λ (n : ℕ). n ≤ most_tried) c.listed.ensures c.if-listed-gt-MOST_TRIED.false,
          takes_none (g.B.Book.meaning up.b.now) c.args.key (plain_format c.in-Some.format.now) has c.shortest_head-head.result c.deref.result.now least c.shortest_head-head.ensures bytes
              c.if-is_refused.ensures,
        ),
      );
    }

pub returns-in_default : goal.returns-in_default
returns-in_default g c =
    let up = c.args.self.now in
    let least = least_avp (g.A.Book.meaning up.lengths.book.now) up.lengths.least c.args.key in
    let has = sym c.format_of.ensures ∙ ap (option_map (λ (f : Bor Format). plain_format f.now)) c.in_default.is in
    record {
      recorded = refl;
      exact = inr (refl, inr (subst (λ (o : Option PlainFormat). IfSome o (λ f. IsLeafAnswer Fine f (data_of c.args.key least))) (sym has) tt));
    }
