-- Devices that didn't fail.
use Rattle.std.proofs.Common.{◌≡◌, Result, Ok, Err, ◌↔◌}

pub not_failed : {V E : Type 0} (v : V) (e : E) (P : Type 0) → (◌≡◌ {A = Result V E} (Ok v) (Err e)) ↔ P → ¬ P
not_failed v e P device was = let z : Ok v ≡ Err e = device.1 was in cc
