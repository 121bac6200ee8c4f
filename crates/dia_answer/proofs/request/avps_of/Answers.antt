use Rattle.std.proofs.Common.{◌-◌, length, map, take, drop, subst}
use Rattle.std.proofs.lemmas.List.{take_rest}
use Rattle.dia_answer.specs.Requests.{AreFront, AreRequestAvps}
use Rattle.dia_answer.proofs.Fronts.{IfOk-map, plain_held, read_body}
use Rattle.dia_answer.proofs.request.avps_of.Goals as goal

pub returns-in_default : goal.returns-in_default
returns-in_default c =
    let bytes = c.args.bytes.now in record {
      avps = IfOk-map (λ v. AreFront (map plain_held v.items) (take (length bytes - 20) (drop 20 bytes))) (λ v. AreRequestAvps c.args.reason (map plain_held v.items) bytes)
          (λ v h. read_body c.args.reason (map plain_held v.items) bytes c.in_default.not-Version c.in_default.not-Length (subst (AreFront (map plain_held v.items)) (take_rest bytes 20) h))
          c.front_of.result c.front_of.ensures.avps;
    }
