use Rattle.std.proofs.Common.{◌<◌, ◌-◌, List, ℕ, length, sym, subst, inl, inr, arith}
use Rattle.std.specs.Prelude.{◌⊎◌, slice_index}
use Rattle.std.proofs.lemmas.List.{take_rest}
use Rattle.dia_segments.specs.Ipv6.{plain_payload}
use Rattle.dia_segments.proofs.Extended.{IsLeft, IsLeft-more, IsLeft-short}
use Rattle.dia_segments.proofs.extensions.pass_extensions.Goals as goal
use Rattle.dia_segments.proofs.extensions.pass_extensions.Goals.{then-rest-length-via-then-rest-length, then-rest-length-via-else-rest-length+then-rest-length-2}

pub returns-then-rest-length : goal.returns-then-rest-length
returns-then-rest-length c =
    let few : (length c.loop-length.rest.bytes.now < c.in-Some.length) ⊎ (c.loop-length.rest.size < c.in-Some.length) =
    elim c.then-rest-length.branch [ then-rest-length-via-then-rest-length w ↦ inl (omega arith) | then-rest-length-via-else-rest-length+then-rest-length-2 w ↦ inr (omega arith) ] in
    IsLeft-short (plain_payload c.args.payload) (plain_payload c.loop-length.rest) c.in-Some.length c.loop-length.invariant.left (sym c.in-Some.ensures.length) few

pub loop-length-preserved : goal.loop-length-preserved
loop-length-preserved c =
    let rest = c.loop-length.rest in
    let n = c.in-Some.length in
    record {
      left = subst (λ (b : List ℕ). IsLeft (plain_payload c.args.payload) (record { protocol = slice_index rest.bytes.now 0; bytes = b; size = rest.size - n }))
          (sym (take_rest rest.bytes.now n))
          (IsLeft-more (plain_payload c.args.payload) (plain_payload rest) n c.loop-length.invariant.left (sym c.in-Some.ensures.length) c.in-Some.ensures.some (omega arith) (omega arith));
      fits = omega arith;
    }
