use Rattle.dia_data.proofs.Schemes.{scheme_from_front, front_from_scheme}
use Rattle.dia_data.proofs.accept.names_scheme.Goals as goal

pub returns-then-bytes-scheme : goal.returns-then-bytes-scheme
returns-then-bytes-scheme c =
    let scheme = c.args.scheme.now in
    let bytes = c.args.bytes.now in
    let same = c.eq_ignore_ascii_case.ensures.test in
    (λ t. scheme_from_front scheme bytes c.if-bytes-scheme.true (same.0 t), λ n. same.1 (front_from_scheme scheme bytes n).1)
