use Rattle.std.proofs.Common.{◌≡◌, ◌^◌, List, [], ◌∷◌, ◌++◌, map, ap, ◌∙◌, arith}
use Rattle.std.proofs.lemmas.List.{map-append, nil_from_length}
use Rattle.dia_learn.specs.declared.taking.Level.{Level}
use Rattle.dia_learn.specs.Open.{plain_open}
use Rattle.dia_learn.proofs.Waiting.{all_wait, less_to_read, none_waits, one_fits, one_read, to_read}
use Rattle.dia_learn.proofs.seen.Seen.take_levels.Goals as goal

pub loop-level-init : goal.loop-level-init
loop-level-init g c =
    let is : map plain_open c.push.new.self.items ≡ (c.args.level.place, c.args.level.bytes.now) ∷ [] =
    ap (λ (xs : List Level). map plain_open xs) (c.in_ok-push.ensures.items ∙ ap (λ (xs : List Level). xs ++ c.args.level ∷ []) c.new-open.ensures.items) in
    let size = ap to_read is in let low = c.requires in (
      omega (arith, size, low),
      λ ls kept. ([], kept, all_wait (g.B.Book.meaning c.args.book.now) c.args.level.place c.args.level.bytes.now (map plain_open c.push.new.self.items) is),
    )

pub take_level-requires : goal.take_level-requires
take_level-requires g c =
    one_fits c.in-Some.level.place c.in-Some.level.bytes.now (map plain_open c.loop-level.open.items) (map plain_open c.pop.new.self.items) (2 ^ 32)
    (ap (λ (xs : List Level). map plain_open xs) c.in-Some.ensures.items ∙ map-append plain_open c.pop.new.self.items (c.in-Some.level ∷ [])) c.loop-level.invariant.0

pub loop-level-smaller : goal.loop-level-smaller
loop-level-smaller g c =
    let (avps, reads, takes, waits) = c.in_ok-take_level.ensures in
    less_to_read (g.B.Book.meaning c.args.book.now) avps c.in-Some.level.place c.in-Some.level.bytes.now (map plain_open c.loop-level.open.items) (map plain_open c.take_level.new.open.items)
    (map plain_open c.pop.new.self.items) reads (ap (λ (xs : List Level). map plain_open xs) c.in-Some.ensures.items ∙ map-append plain_open c.pop.new.self.items (c.in-Some.level ∷ [])) waits

pub loop-level-preserved : goal.loop-level-preserved
loop-level-preserved g c =
    let d = g.B.Book.meaning c.args.book.now in
    let (avps, reads, takes, waits) = c.in_ok-take_level.ensures in
    let before = map plain_open c.loop-level.open.items in
    let after = map plain_open c.take_level.new.open.items in
    let popped = map plain_open c.pop.new.self.items in
    let level = c.in-Some.level in
    let was : map plain_open c.loop-level.open.items ≡ map plain_open c.pop.new.self.items ++ (c.in-Some.level.place, c.in-Some.level.bytes.now) ∷ [] =
    ap (λ (xs : List Level). map plain_open xs) c.in-Some.ensures.items ∙ map-append plain_open c.pop.new.self.items (c.in-Some.level ∷ []) in
    let less = less_to_read d avps level.place level.bytes.now before after popped reads was waits in
    let low = c.loop-level.invariant.0 in (
      omega (arith, less, low),
      λ ls kept.
          let (done, now, covers) = c.loop-level.invariant.1 ls kept in
          (record { place = level.place; avps = avps } ∷ done, takes (done ++ ls) now, one_read d c.args.level.place c.args.level.bytes.now done before after popped level.place level.bytes.now avps reads was waits covers),
    )

pub returns : goal.returns
returns g c = λ ls kept.
    let none = nil_from_length c.loop-level.open.items (omega (arith, c.in_default.ensures.cases, c.loop-level.open.ok.0)) in
    let (done, now, covers) = c.loop-level.invariant.1 ls kept in
    (done, none_waits (g.B.Book.meaning c.args.book.now) c.args.level.place c.args.level.bytes.now done (map plain_open c.loop-level.open.items) (ap (λ (xs : List Level). map plain_open xs) none) covers, now)
