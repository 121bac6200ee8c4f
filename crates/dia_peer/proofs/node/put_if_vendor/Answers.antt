use Rattle.std.proofs.Common.{◌≡◌, ℕ, List, [], ◌∷◌, ◌++◌, Option, Some, ap, ◌∙◌, sym}
use Rattle.std.specs.List.{cons_option}
use Rattle.dia_wire.specs.Wire.{PlainAvp}
use Rattle.dia_peer.specs.declared.config.App.{App}
use Rattle.dia_peer.specs.Drafts.{drafted}
use Rattle.dia_peer.specs.Messages.{avp, avp32, app_code, spelled, vendor_app}
use Rattle.dia_peer.proofs.node.put_if_vendor.Goals as goal

vendor_is : (a : App) (o : Option ℕ) (v : ℕ) → o ≡ Some v → avp 260 64 (spelled (avp32 266 v) ++ spelled (avp32 (app_code a.kind) a.id)) ∷ [] ≡ cons_option (vendor_app (record a { vendor = o })) []
vendor_is a o v e = sym (ap (λ (x : Option ℕ). cons_option (vendor_app (record a { vendor = x })) []) e)

pub returns : goal.returns
returns c =
    let app = c.args.app.now in let v = c.in-Some.vendor in let old = drafted c.args.draft.now in
    let first : c.push_number.new.out.items ≡ spelled (avp32 266 v) = c.in_ok-push_number.ensures ∙ ap (λ (xs : List ℕ). xs ++ spelled (avp32 266 v)) c.new-bytes.ensures.items in
    let both : c.deref.result.now ≡ spelled (avp32 266 v) ++ spelled (avp32 (app_code app.kind) app.id) =
    c.deref.ensures.value ∙ c.in_ok-push_number-2.ensures ∙ (λ i. first i ++ spelled (avp32 (c.app_code.ensures i) app.id)) in
    c.in_ok-put.ensures ∙ (λ i. old ++ avp 260 64 (both i) ∷ []) ∙ ap (λ (vs : List PlainAvp). old ++ vs) (vendor_is app app.vendor v c.in-Some.is)
