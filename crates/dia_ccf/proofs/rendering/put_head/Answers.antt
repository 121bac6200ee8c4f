use Rattle.std.proofs.Common.{◌++◌, cond, eqb, [], codes, string_bytes, sym, ap, ◌∙◌, append_assoc}
use Rattle.std.specs.Fmt.{decimal}
use Rattle.std.proofs.lemmas.Result.{IfOk-equal}
use Rattle.dia_ccf.specs.CanonicalText.{head_text}
use Rattle.dia_ccf.proofs.rendering.put_head.Goals as goal

pub returns-in_ok-write-in-Group : goal.returns-in_ok-write-in-Group
returns-in_ok-write-in-Group c =
    let was = string_bytes c.args.text.now in
    let vendor = cond (eqb c.in-Group.vendor 0) [] (codes " " ++ decimal c.in-Group.vendor) in
    IfOk-equal c.put_group_vendor.result _ _ (was ++ head_text c.args.head) c.put_group_vendor.ensures
    (ap (λ t. t ++ vendor) c.in_ok-write-in-Group.ensures.bytes
    ∙ append_assoc was (codes "AVP Header: " ++ decimal c.in-Group.code) vendor
    ∙ ap (λ h. was ++ head_text h) (sym c.in-Group.is))

pub returns-in-Error : goal.returns-in-Error
returns-in-Error c =
    let was = string_bytes c.args.text.now in
    IfOk-equal c.write-in-Error.result _ _ (was ++ head_text c.args.head) c.write-in-Error.ensures.bytes
    (ap (λ t. was ++ (codes "Diameter Header: code, ERR" ++ t)) c.error_proxy.ensures
    ∙ ap (λ h. was ++ head_text h) (sym c.in-Error.is))
