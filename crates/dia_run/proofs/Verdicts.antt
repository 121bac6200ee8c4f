-- Two verdicts on a message, and whether it is refuted.
use Rattle.std.proofs.Common.{Result, Ok, Err, refl}
use Rattle.std.specs.Prelude.{◌↔◌, IsErr, IsOk}
use Rattle.std.proofs.lemmas.Bool.{false≢true}

pub refuted : {A E : Type 0} (V W : Type 0) (x y : Result A E) → (IsOk x ↔ V) → (IsOk y ↔ W) → IsOk x × IsErr y → V × ¬ W
refuted V W x (Ok found) on_x on_y (ok, err) = absurd (false≢true err)
refuted V W x (Err e) on_x on_y (ok, err) = (on_x.0 ok, λ valid. absurd (false≢true (on_y.1 valid)))

pub unrefuted : {A E : Type 0} (V W : Type 0) (x y : Result A E) → (IsOk x ↔ V) → (IsOk y ↔ W) → ¬ (IsOk x × IsErr y) → ¬ (V × ¬ W)
unrefuted V W x (Ok found) on_x on_y none (valid, invalid) = invalid (on_y.0 refl)
unrefuted V W x (Err e) on_x on_y none (valid, invalid) = none (on_x.1 valid, refl)
