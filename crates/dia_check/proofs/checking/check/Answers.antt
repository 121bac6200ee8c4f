use Rattle.std.proofs.Common.{ℕ, List, [], arith, subst, ⊎_elim}
use Rattle.std.proofs.lemmas.Bool.{both_ways}
use Rattle.std.proofs.lemmas.List.{take_all}
use Rattle.dia_check.specs.Faults.{IsAnswer}
use Rattle.dia_check.specs.Streams.{Denotes}
use Rattle.dia_check.proofs.CheckAnswers.{valid_answer}
use Rattle.dia_check.proofs.WholeMessages.{is_refused, of_all, on_all, opens_good, whole_taken}
use Rattle.dia_check.proofs.checking.check.Goals as goal

pub apart-requires : goal.apart-requires
apart-requires g c sized =
    ⊎_elim (λ all. absurd (both_ways c.takes_all.result c.if-takes_all.false (c.takes_all.ensures.1 all))) (λ refused. refused)
    (whole_taken c.args.bytes.now sized _ (λ p h. (h (g.B.Book.meaning c.args.book.now) c.args.unknown c.args.levels [] c.new-stream.ensures.empty).0)
    c.feed-fed.result c.feed-fed.ensures.taken (λ spent. c.new-stream.ensures.fresh (c.feed-fed.ensures.spent.0 spent)))

pub returns-then-takes_all-clause-answer : goal.returns-then-takes_all-clause-answer
returns-then-takes_all-clause-answer g c =
    let d = g.B.Book.meaning c.args.book.now in
    let all = c.takes_all.ensures.0 c.if-takes_all.true in
    let (p, e, h) = of_all c.args.bytes.now _ c.feed-fed.result all c.feed-fed.ensures.taken in
    c.finish.ensures.answer (on_all c.args.bytes.now _ c.feed-fed.result all c.feed-fed.ensures.goes_on) d c.args.unknown c.args.levels c.args.bytes.now
    (subst (λ (b : List ℕ). Denotes g.B.Book.meaning c.feed-fed.new.self d c.args.unknown c.args.levels b) (take_all p.taken c.args.bytes.now (omega (arith, e)))
    (h d c.args.unknown c.args.levels [] c.new-stream.ensures.empty).1)

pub returns-then-takes_all-clause-valid : goal.returns-then-takes_all-clause-valid
returns-then-takes_all-clause-valid g c n valid =
    let d = g.B.Book.meaning c.args.book.now in
    let answer : IsAnswer d c.args.unknown c.args.levels c.args.bytes.now c.finish.result = returns-then-takes_all-clause-answer g c in
    valid_answer d (g.met.B.Book.sound c.args.book.now) c.args.unknown c.args.levels c.args.bytes.now c.finish.result n answer valid

pub returns-clause-answer : goal.returns-clause-answer
returns-clause-answer g c = c.apart.ensures.answer (g.B.Book.meaning c.args.book.now) c.args.unknown c.args.levels

pub returns-clause-valid : goal.returns-clause-valid
returns-clause-valid g c n valid =
    let d = g.B.Book.meaning c.args.book.now in
    valid_answer d (g.met.B.Book.sound c.args.book.now) c.args.unknown c.args.levels c.args.bytes.now c.apart.result n (c.apart.ensures.answer d c.args.unknown c.args.levels) valid

pub returns-clause-no_memory : goal.returns-clause-no_memory
returns-clause-no_memory g c memory =
    let (refused, sized) = c.apart.ensures.no_memory memory in (
      sized,
      opens_good c.args.bytes.now sized (g.B.Book.meaning c.args.book.now) c.args.levels
          (c.feed-fed.ensures.no_memory (is_refused c.feed-fed.result refused) (g.B.Book.meaning c.args.book.now) c.args.unknown c.args.levels [] c.new-stream.ensures.empty),
    )
