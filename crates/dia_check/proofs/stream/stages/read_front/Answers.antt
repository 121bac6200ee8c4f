use Rattle.std.proofs.Common.{◌≡◌, ℕ, ◌≤◌, List, ◌++◌, length, take, Err, refl, ap, subst, sym, arith, inl, inr}
use Rattle.std.proofs.lemmas.List.{length-take}
use Rattle.dia_wire.specs.declared.Header.{Header}
use Rattle.dia_wire.specs.Wire.{IsHead, IsMessageLength}
use Rattle.dia_check.specs.declared.stream.front.Front.{Front}
use Rattle.dia_check.specs.Front.{front_bytes}
use Rattle.dia_check.specs.Faults.{HasLength}
use Rattle.dia_check.proofs.HeaderAnswers.{has_length}
use Rattle.dia_check.proofs.StreamMessages.{begun_reads, ends_with_zeros, header_on, length_on, length_sound, short_wants, unsound, unsound_wants, zeros_to_end}
use Rattle.dia_check.proofs.stream.stages.read_front.Goals as goal

-- the front is the whole header of a message of this length
whole : (front : Front) (b : List ℕ) (h : Header) (n : ℕ) → b ≡ front_bytes front → front.count ≤ 20 → IsHead h n (take 20 b) → IsMessageLength n
    → IsHead h n (take 20 (front_bytes front)) × HasLength (front_bytes front) n × (length (front_bytes front) ≡ 20)
whole front b h n same within is sound =
    let head = subst (λ (x : List ℕ). IsHead h n (take 20 x)) same is in
    let sized = has_length h n (front_bytes front) head sound in
    (head, sized, (let long = sized.long in let size = length-take front.count front.bytes in omega (arith, long, size, within)))

pub begin-requires : goal.begin-requires
begin-requires g c =
    let bytes = front_bytes c.args.front in
    let (head, sized, size) = whole c.args.front _ c.in-Ok.header c.in-Ok.length c.as_slice.ensures c.args.front.within c.in-Ok.ensures.head c.in-Ok.ensures.long in
    let (is, e) = length_sound bytes c.in-Ok.length sized in
    let least = sized.sound.no_less in
    let end : length (bytes ++ zeros_to_end bytes) ≡ c.in-Ok.length = (let w = ends_with_zeros bytes (omega (arith, e, least, size)) in omega (arith, w, e)) in
    ∣ (
      bytes ++ zeros_to_end bytes,
      omega (arith, end),
      subst (HasLength (bytes ++ zeros_to_end bytes)) (sym end) (length_on bytes (zeros_to_end bytes) c.in-Ok.length sized),
      header_on bytes (zeros_to_end bytes) c.in-Ok.header c.in-Ok.length (omega (arith, size)) head end,
      sym end,
    ) ∣₁

pub returns-in-Ok-clause-wants : goal.returns-in-Ok-clause-wants
returns-in-Ok-clause-wants g c =
    let (head, sized, size) = whole c.args.front _ c.in-Ok.header c.in-Ok.length c.as_slice.ensures c.args.front.within c.in-Ok.ensures.head c.in-Ok.ensures.long in
    let (is, e) = length_sound (front_bytes c.args.front) c.in-Ok.length sized in
    (sym e, omega arith)

pub returns-in-Ok-clause-read : goal.returns-in-Ok-clause-read
returns-in-Ok-clause-read g c u most =
    let bytes = front_bytes c.args.front in
    let (head, sized, size) = whole c.args.front _ c.in-Ok.header c.in-Ok.length c.as_slice.ensures c.args.front.within c.in-Ok.ensures.head c.in-Ok.ensures.long in
    begun_reads (g.B.Book.meaning c.args.book.now) (g.met.B.Book.sound c.args.book.now) u most bytes size c.in-Ok.length sized c.begin.new.body c.begin.result (λ more end. c.begin.ensures u most (bytes ++ more)
    (subst (HasLength (bytes ++ more)) (sym end) (length_on bytes more c.in-Ok.length sized))
    (header_on bytes more c.in-Ok.header c.in-Ok.length (omega (arith, size)) head end) (sym end))

pub returns-in-Err-Short-clause-wants : goal.returns-in-Err-Short-clause-wants
returns-in-Err-Short-clause-wants g c =
    let short = rw c.as_slice.ensures at (c.in-Err-Short.ensures.short.0 (ap Err c.in-Err-Short.field-0-is)) in
    (sym (short_wants (front_bytes c.args.front) short), omega arith)

pub returns-in-Err-Short-clause-read : goal.returns-in-Err-Short-clause-read
returns-in-Err-Short-clause-read g c u most = (rw c.as_slice.ensures at (c.in-Err-Short.ensures.short.0 (ap Err c.in-Err-Short.field-0-is)), refl)

pub returns-in-Err-Version-clause-wants : goal.returns-in-Err-Version-clause-wants
returns-in-Err-Version-clause-wants g c =
    let (long, bad) = rw c.as_slice.ensures at (c.in-Err-Version.ensures.version.0 (ap Err c.in-Err-Version.field-0-is)) in
    (sym (unsound_wants (front_bytes c.args.front) long (unsound (front_bytes c.args.front) (inl bad))), omega arith)

pub returns-in-Err-Length-clause-wants : goal.returns-in-Err-Length-clause-wants
returns-in-Err-Length-clause-wants g c =
    let (long, version, bad) = rw c.as_slice.ensures at (c.in-Err-Length.ensures.length_fault.0 (ap Err c.in-Err-Length.field-0-is)) in
    (sym (unsound_wants (front_bytes c.args.front) long (unsound (front_bytes c.args.front) (inr bad))), omega arith)
