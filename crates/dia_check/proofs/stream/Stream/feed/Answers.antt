use Rattle.std.proofs.Common.{◌≡◌, ℕ, ◌+◌, ◌-◌, false, List, ◌++◌, length, take, drop, refl, ap, subst, ◌∙◌, arith, inl, inr, ⊎_elim}
use Rattle.std.proofs.lemmas.Bool.{both_ways, eq-eqb, eqb-true}
use Rattle.std.proofs.lemmas.List.{append_assoc, length-append, length-drop, take_rest}
use Rattle.std.proofs.lemmas.Result.{err_from_is_err_and}
use Rattle.dia_check.specs.Streaming.{OpensLevel, taken_of}
use Rattle.dia_check.specs.Streams.{Denotes}
use Rattle.dia_check.proofs.StreamStages.{least_wanted, not_spent_error, opens_sooner, rest_of, take_plus, takes}
use Rattle.dia_check.proofs.stream.Stream.feed.Goals as goal

pub returns-then-is_spent-clause-spent : goal.returns-then-is_spent-clause-spent
returns-then-is_spent-clause-spent g c = (λ q. c.is_spent.ensures.0 c.if-is_spent.true, λ s. refl)

pub returns-then-is_spent-clause-err : goal.returns-then-is_spent-clause-err
returns-then-is_spent-clause-err g c = c.is_spent.ensures.0 c.if-is_spent.true

pub take_header-requires : goal.take_header-requires
take_header-requires g c = λ s. both_ways c.is_spent.result c.if-is_spent.false (c.is_spent.ensures.1 s)

pub returns-in_err-head-clause-no_memory : goal.returns-in_err-head-clause-no_memory
returns-in_err-head-clause-no_memory g c q d u most bytes occurs = c.in_err-head.ensures.no_memory d u most bytes occurs

pub returns-in_err-head-clause-spent : goal.returns-in_err-head-clause-spent
returns-in_err-head-clause-spent g c =
    let p = err_from_is_err_and c.from_residual.result c.from_residual.ensures.1 in
    (λ q. absurd (not_spent_error c.from_residual.result p.0 p.1 (p.2 ∙ c.in_err-head.ensures.err.0) q), λ s. absurd (both_ways c.is_spent.result c.if-is_spent.false (c.is_spent.ensures.1 s)))

pub returns-in_err-head-clause-err : goal.returns-in_err-head-clause-err
returns-in_err-head-clause-err g c = let p = err_from_is_err_and c.from_residual.result c.from_residual.ensures.1 in rw p.1 c.in_err-head.ensures.err.1

pub returns-then-self-lt-HEADER_LENGTH-clause-taken : goal.returns-then-self-lt-HEADER_LENGTH-clause-taken
returns-then-self-lt-HEADER_LENGTH-clause-taken g c d u most bytes occurs =
    let mid = c.take_header.new.self in
    let now = c.in_ok-head.ensures.taken d u most bytes occurs in
    let all = c.in_ok-head.ensures.all c.if-self-lt-HEADER_LENGTH.true in (
      takes d u most mid.taken mid.wanted mid.body mid.stage bytes c.args.piece.now c.in_ok-head.head false now.taken (omega (arith, all)) (inl all) (
        λ is. absurd cc,
        λ e. absurd (let least = least_wanted (bytes ++ take c.in_ok-head.head c.args.piece.now) in let w =
            now.taken.wants in let less = c.if-self-lt-HEADER_LENGTH.true in omega (arith, least, w, less, e)),
      ),
      now,
    )

pub returns-then-self-lt-HEADER_LENGTH-clause-goes_on : goal.returns-then-self-lt-HEADER_LENGTH-clause-goes_on
returns-then-self-lt-HEADER_LENGTH-clause-goes_on g c = c.in_ok-head.ensures.goes_on

pub returns-then-self-lt-HEADER_LENGTH-clause-spent : goal.returns-then-self-lt-HEADER_LENGTH-clause-spent
returns-then-self-lt-HEADER_LENGTH-clause-spent g c = (λ q. absurd cc, λ s. absurd (both_ways c.is_spent.result c.if-is_spent.false (c.is_spent.ensures.1 s)))

pub take_body-requires-clause-header : goal.take_body-requires-clause-header
take_body-requires-clause-header g c = let e = c.if-self-lt-HEADER_LENGTH.false in omega (arith, e)

pub take_body-requires-clause-not_spent : goal.take_body-requires-clause-not_spent
take_body-requires-clause-not_spent g c = c.in_ok-head.ensures.goes_on

pub returns-in_err-body-clause-no_memory : goal.returns-in_err-body-clause-no_memory
returns-in_err-body-clause-no_memory g c q d u most bytes occurs =
    let now = c.in_ok-head.ensures.taken d u most bytes occurs in
    let head = c.in_ok-head.head in
    let piece = c.args.piece.now in
    let front = take head piece in
    let count = now.taken.count in let least = c.if-self-lt-HEADER_LENGTH.false in
    let opens = subst (λ (p : List ℕ). OpensLevel d most (bytes ++ front) (drop (length (bytes ++ front)) (taken_of ((bytes ++ front) ++ p))))
    (take_rest piece head) (c.in_err-body.ensures.no_memory d u most (bytes ++ front) now) in
    subst (λ (t : List ℕ). OpensLevel d most bytes (drop (length bytes) (taken_of t))) (rest_of bytes piece head)
    (opens_sooner d most bytes front (drop head piece) (omega (arith, count, least)) now.taken.within opens)

pub returns-in_err-body-clause-spent : goal.returns-in_err-body-clause-spent
returns-in_err-body-clause-spent g c =
    let p = err_from_is_err_and c.from_residual-in_err-body.result c.from_residual-in_err-body.ensures.1 in (
      λ q. absurd (not_spent_error c.from_residual-in_err-body.result p.0 p.1 (p.2 ∙ c.in_err-body.ensures.err.0) q),
      λ s. absurd (both_ways c.is_spent.result c.if-is_spent.false (c.is_spent.ensures.1 s)),
    )

pub returns-in_err-body-clause-err : goal.returns-in_err-body-clause-err
returns-in_err-body-clause-err g c = let p = err_from_is_err_and c.from_residual-in_err-body.result c.from_residual-in_err-body.ensures.1 in rw p.1 c.in_err-body.ensures.err.1

pub returns-clause-taken : goal.returns-clause-taken
returns-clause-taken g c d u most bytes occurs =
    let new = c.take_body.new.self in
    let head = c.in_ok-head.head in
    let body = c.in_ok-body.body in
    let piece = c.args.piece.now in
    let mid = c.in_ok-head.ensures.taken d u most bytes occurs in
    let slice = take (length piece - head) (drop head piece) in
    let cut : slice ≡ drop head piece = take_rest piece head in
    let parts : (bytes ++ take head piece) ++ take body slice ≡ bytes ++ take (head + body) piece = ap (λ (p : List ℕ). (bytes ++ take head piece) ++ take body p) cut
    ∙ append_assoc bytes (take head piece) (take body (drop head piece))
    ∙ ap (λ (t : List ℕ). bytes ++ t) (take_plus head body piece) in
    let now = subst (λ (b : List ℕ). Denotes g.B.Book.meaning new d u most b) parts (c.in_ok-body.ensures.taken d u most (bytes ++ take head piece) mid) in
    let a = c.in_ok-head.ensures.within in let b = c.in_ok-body.ensures.within in let l = length-drop head piece in let k = ap length cut in
    let before = mid.taken.count in let count = now.taken.count in let long = c.if-self-lt-HEADER_LENGTH.false in
    let size = length-append (bytes ++ take head piece) (take body slice) in let same = ap length parts in
    let stops = ⊎_elim (λ (e : body ≡ length slice). inl (omega (arith, e, k, l, a)))
    (λ (e : new.taken ≡ new.wanted). inr (omega (arith, before, count, long, size, same), e)) c.in_ok-body.ensures.all in
    (takes d u most new.taken new.wanted new.body new.stage bytes piece (head + body) _ now.taken (omega (arith, a, b, k, l)) stops (eqb-true new.taken new.wanted, eq-eqb new.taken new.wanted), now)

pub returns-clause-goes_on : goal.returns-clause-goes_on
returns-clause-goes_on g c = c.in_ok-body.ensures.goes_on

pub returns-clause-spent : goal.returns-clause-spent
returns-clause-spent g c = (λ q. absurd cc, λ s. absurd (both_ways c.is_spent.result c.if-is_spent.false (c.is_spent.ensures.1 s)))

pub returns-clause-within : goal.returns-clause-within
returns-clause-within g c =
    let a = c.in_ok-head.ensures.within in let b = c.in_ok-body.ensures.within in
    let k = ap length (take_rest c.args.piece.now c.in_ok-head.head) in let l = length-drop c.in_ok-head.head c.args.piece.now in
    omega (arith, a, b, k, l)
