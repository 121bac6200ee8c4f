use Rattle.std.proofs.Common.{◌≡◌, ◌+◌, ◌%◌, ◌^◌, true, List, length, Some, ap, subst, ◌∙◌, arith}
use Rattle.std.specs.List.{list_all}
use Rattle.dia_directions.specs.declared.waiting.Waiting.{Waiting}
use Rattle.dia_directions.specs.Bytes.{part_bytes, run_bytes}
use Rattle.dia_directions.specs.Order.{IsRun, byte_at, is_from, left}
use Rattle.dia_directions.specs.Reassemblies.{order_of}
use Rattle.dia_directions.specs.Waits.{all_placed, all_then}
use Rattle.dia_directions.proofs.Gathering.{resumed, some_byte}
use Rattle.dia_directions.proofs.Left.{length-left_less}
use Rattle.dia_directions.proofs.reassembly.Reassembly.resume.Goals as goal

pub overflow_add-from : goal.overflow_add-from
overflow_add-from c = omega (arith, c.in_ok-run.ensures.bounded)

pub returns-clause-resumes : goal.returns-clause-resumes
returns-clause-resumes c =
    let old = c.args.self.now in
    let m = c.in-Some.missing in
    let run = run_bytes c.in_ok-run.run'.pieces.items in
    let low : list_all (is_from m) (all_placed old.next old.waiting.items) ≡ true =
    subst (λ (ws : List Waiting). list_all (is_from m) (all_placed old.next ws) ≡ true) c.deref.ensures.value c.in-Some.ensures.least in
    let some = some_byte (byte_at (all_placed old.next c.deref.result.now) m) c.in-Some.ensures.some in
    let found : byte_at (all_placed old.next old.waiting.items) m ≡ Some some.0 =
    subst (λ (ws : List Waiting). byte_at (all_placed old.next ws) m ≡ Some some.0) c.deref.ensures.value some.1 in
    let is : IsRun (all_then ((old.next + m) % 2 ^ 32) old.waiting.items (part_bytes c.none.result)) run =
    subst (λ (ws : List Waiting). IsRun (all_then ((old.next + m) % 2 ^ 32) ws (part_bytes c.none.result)) run) c.deref-2.ensures.value c.in_ok-run.ensures.is_run in
    resumed old.next m c.in_ok-run.run'.size old.waiting.items run (part_bytes c.none.result) (order_of c.pass.new.self) (omega arith) low (some.0, found) is c.none.ensures c.in_ok-run.ensures.size
    (c.pass.ensures.next ∙ (let same : c.from.result ≡ m = c.from.ensures in ap (λ k. (old.next + (k + c.in_ok-run.run'.size)) % 2 ^ 32) same))
    (c.pass.ensures.waiting ∙ (let same : c.from.result ≡ m = c.from.ensures in ap (λ k. left (k + c.in_ok-run.run'.size) (all_placed old.next old.waiting.items)) same))

pub returns-clause-shorter : goal.returns-clause-shorter
returns-clause-shorter c =
    let old = c.args.self.now in
    let m = c.in-Some.missing in
    let some = some_byte (byte_at (all_placed old.next c.deref.result.now) m) c.in-Some.ensures.some in
    let found : byte_at (all_placed old.next old.waiting.items) m ≡ Some some.0 =
    subst (λ (ws : List Waiting). byte_at (all_placed old.next ws) m ≡ Some some.0) c.deref.ensures.value some.1 in
    omega (arith, ap length c.pass.ensures.waiting, length-left_less (c.from.result + c.in_ok-run.run'.size) m some.0 (all_placed old.next old.waiting.items) (omega (arith, c.from.ensures)) found)
