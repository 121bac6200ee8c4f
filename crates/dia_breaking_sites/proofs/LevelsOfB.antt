-- Levels that are as B's rules say, and whose AVPs fit B by themselves, are levels of B's at every depth.
use Rattle.std.proofs.Common.{ℕ, zero, suc, List, map}
use Rattle.std.specs.List.{AllByRecursion}
use Rattle.dia_wire.specs.Wire.{PlainAvp, key_of}
use Rattle.dia_book.specs.Dictionary.{Dictionary, PlainDefinition}
use Rattle.dia_terms.specs.declared.Unknown.{Unknown}
use Rattle.dia_terms.specs.declared.sends.Sends.{Sends}
use Rattle.dia_valid.specs.Valid.{Fits, Placed}
use Rattle.dia_breaking_sites.specs.Sent.{IsSentLevel, IsSentWithin}
use Rattle.dia_breaking_sites.specs.Sites.{AreAsked, IsReadAlone, LevelsAreRead, same, inside}
use Rattle.dia_breaking_sites.proofs.Members.{contains_in, in_all}
use Rattle.dia_breaking_sites.proofs.SafeLevels.{common, one_fits}

module _ (da db : Dictionary) (who : Sends) (u : Unknown) where
  -- a level with at most n levels of groups in it
  abbrev IsRead : ℕ → Type 0
  IsRead n = (x y : PlainDefinition) (avps : List PlainAvp) → AllByRecursion (IsSentWithin da who n) avps → AreAsked da db (IsReadAlone da db u) x y avps
      → Placed y.rules (map key_of avps) × ((m : ℕ) × AllByRecursion (Fits db u m) avps)

  reads : (n : ℕ) → IsRead n
  reads zero x y avps sent asked =
      let own = asked x y avps same in
      (own.0, common db u avps (λ v i. one_fits da db who u (λ rules bytes. ⊥) v (λ g h is_g is_h bad. absurd bad) (in_all (IsSentWithin da who zero) avps v sent i) (own.1 v (contains_in avps v i))))
  reads (suc n) x y avps sent asked =
      let own = asked x y avps same in (
        own.0,
        common db u avps (λ v i.
            let here = contains_in avps v i in
            one_fits da db who u (IsSentLevel who (IsSentWithin da who n)) v
            (λ g h is_g is_h (next, spelled, stand, all).
            let r = reads n g h next all (λ a b deep lies. asked a b deep (inside v g h next here is_g is_h spelled lies)) in
            (r.1.0, (next, spelled, r.0, r.1.1)))
            (in_all (IsSentWithin da who (suc n)) avps v sent i) (own.1 v here)),
      )

pub levels_read : LevelsAreRead
levels_read da db who u x y avps (n, sent) asked = reads da db who u n x y avps sent asked
