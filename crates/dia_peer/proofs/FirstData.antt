-- The first AVP of a code in a level that is read AVP by AVP.
use Rattle.std.proofs.Common.{◌≡◌, ℕ, Bool, true, false, cond, List, ◌<◌, length, drop, Option, Some, None, refl, sym, ap, ◌∙◌, arith}
use Rattle.std.specs.Prelude.{◌==◌, ◌↔◌, IsSome, IfSome}
use Rattle.std.specs.Option.{option_and_then}
use Rattle.std.proofs.lemmas.Bool.{cond_both}
use Rattle.std.proofs.lemmas.List.{length-drop}
use Rattle.dia_wire.specs.Wire.{PlainAvp, key_of, SpellsAll, BeginsWith, BeginsWithNone}
use Rattle.dia_wire.specs.Number.{number}
use Rattle.dia_peer.specs.Values.{has_code, first_data, number_of, IsValue, IsNumber}
use Rattle.dia_peer.proofs.Sets.{eq_same}
use Rattle.dia_peer.proofs.ResultCode.{never}
use Rattle.dia_peer.proofs.LevelWalks.{first_is, none_left, shorter}

-- what is left of the level has the first AVP of the code that the level has
abbrev pub Leads : ℕ → List PlainAvp → List ℕ → Type 0
Leads code avps left = (vs : List PlainAvp) × SpellsAll vs left × (first_data code avps ≡ first_data code vs)

pub leads_on : (code : ℕ) (avps : List PlainAvp) (v : PlainAvp) (level left : List ℕ) → Leads code avps level → BeginsWith v level left → false ≡ has_code code (key_of v) → Leads code avps left
leads_on code avps v level left (vs, all, same) begins other =
    let (more, is, rest) = first_is vs v level left all begins in
    (more, rest, same ∙ ap (first_data code) is ∙ ap (λ (b : Bool). cond b (Some v.bytes) (first_data code more)) (sym other))

pub leads_here : (code : ℕ) (avps : List PlainAvp) (v : PlainAvp) (level left : List ℕ) → Leads code avps level → BeginsWith v level left → true ≡ has_code code (key_of v) → Some v.bytes ≡ first_data code avps
leads_here code avps v level left (vs, all, same) begins here =
    let (more, is, rest) = first_is vs v level left all begins in
    sym (same ∙ ap (first_data code) is ∙ ap (λ (b : Bool). cond b (Some v.bytes) (first_data code more)) (sym here))

pub leads_nowhere : (code : ℕ) (avps : List PlainAvp) (level : List ℕ) → Leads code avps level → BeginsWithNone level → None ≡ first_data code avps
leads_nowhere code avps level (vs, all, same) none = sym (same ∙ ap (first_data code) (none_left vs level all none))

-- fewer bytes than a header's have no AVP after it
pub none_in_short : (code : ℕ) (avps : List PlainAvp) (b : List ℕ) → length b < 20 → SpellsAll avps (drop 20 b) → None ≡ first_data code avps
none_in_short code avps b few all =
    let size = length-drop 20 b in
    sym (ap (first_data code) (none_left avps (drop 20 b) all (λ v rest begins. (let h = shorter v (drop 20 b) rest begins in absurd (omega (arith, few, size, h))))))

-- ---- numbers

pub is_number : (bytes : List ℕ) (r : Option ℕ) → (IsSome r ↔ (length bytes ≡ 4)) → IfSome r (λ n. n ≡ number bytes) → r ≡ number_of bytes
is_number bytes (Some n) some value = ap Some value ∙ sym (ap (λ (k : ℕ). cond (k == 4) (Some (number bytes)) None) (some.0 refl))
is_number bytes None some value = cond_both (length bytes == 4) (Some (number bytes)) None (λ o. None ≡ o) (λ t. never (some.1 (eq_same (length bytes) 4 t))) (λ f. refl)

pub number_is : (code : ℕ) (met : Option (List ℕ)) (value : Option (List ℕ)) (r : Option ℕ) → IsValue code met value → r ≡ option_and_then number_of value → IsNumber code met r
number_is code None value r h e = e ∙ ap (option_and_then number_of) h
number_is code (Some message) value r h e = λ avps all. e ∙ ap (option_and_then number_of) (h avps all)
