use Rattle.std.proofs.Common.{◌≡◌, ◌+◌, ◌%◌, ◌^◌, ap, ◌∙◌, arith, rules}
use Rattle.std.proofs.lemmas.Fn.{filter_same}
use Rattle.std.specs.List.{list_all}
use Rattle.dia_directions.specs.Order.{is_left}
use Rattle.dia_directions.specs.Waits.{all_placed, counted, placed_of}
use Rattle.dia_directions.proofs.Left.{all_placed-left, list_all-left}
use Rattle.dia_directions.proofs.reassembly.Reassembly.pass.Goals as goal

pub returns-clause-waiting : goal.returns-clause-waiting
returns-clause-waiting c =
    let old = c.args.self.now in
    let n = c.args.size in
    let after : (old.next + n % 4294967296) % 4294967296 ≡ (old.next + n) % 2 ^ 32 = omega arith in
    ap (λ next. all_placed next c.retain.new.self.items) after
    ∙ ap (λ ws. all_placed ((old.next + n) % 2 ^ 32) ws) (filter_same _ (λ w. is_left n (placed_of old.next w)) _ (λ x b f' k. search rules) _ _ c.retain.ensures.filtered)
    ∙ all_placed-left old.next n old.waiting.items (omega arith)

pub invariant_of-self : goal.invariant_of-self
invariant_of-self c =
    let old = c.args.self.now in
    let n = c.args.size in
    let after : (old.next + n % 4294967296) % 4294967296 ≡ (old.next + n) % 2 ^ 32 = omega arith in
    record {
      ahead = ap (λ next. list_all (is_left 0) (all_placed next c.retain.new.self.items)) after
          ∙ ap (λ ws. list_all (is_left 0) (all_placed ((old.next + n) % 2 ^ 32) ws)) (filter_same _ (λ w. is_left n (placed_of old.next w)) _ (λ x b f' k. search rules) _ _ c.retain.ensures.filtered)
          ∙ ap (λ ps. list_all (is_left 0) ps) (all_placed-left old.next n old.waiting.items (omega arith))
          ∙ list_all-left n (all_placed old.next old.waiting.items);
      sized = c.size_of-self.ensures ∙ ap counted c.deref.ensures.value;
    }
