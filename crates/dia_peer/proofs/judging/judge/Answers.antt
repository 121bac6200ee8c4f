use Rattle.std.proofs.Common.{◌≡◌, ℕ, zero, suc, ◌<◌, false, List, length, ap, subst, refl, arith, rules}
use Rattle.std.specs.Prelude.{All, ◌==◌}
use Rattle.std.specs.List.{AllByRecursion}
use Rattle.std.specs.Str.{IsUtf8}
use Rattle.std.proofs.lemmas.List.Elements.{recursion_from_All}
use Rattle.dia_peer.specs.declared.config.Ip.{Ip}
use Rattle.dia_peer.specs.declared.config.App.{App}
use Rattle.dia_peer.specs.Core.{IsIp, AreDistinct, MayHold}
use Rattle.dia_peer.proofs.judging.judge.Goals as goal

some : (n m : ℕ) → false ≡ (n == 0) → n ≡ m → 0 < m
some zero m h e = absurd cc
some (suc n) m h e = omega (arith, e)

pub returns-then-are_distinct-clause-ok : goal.returns-then-are_distinct-clause-ok
returns-then-are_distinct-clause-ok c =
    let config = c.args.config.now in (
      record {
        host = search rules;
        realm = search rules;
        product = (
          subst IsUtf8 c.as_str-product.ensures.value c.as_str-product.utf8,
          (let size = ap length c.as_str-product.ensures.value in let f = c.if-product-gt-NAME_LIMIT.false in
              omega (arith, size, f)),
        );
        addresses = (
          some _ _ c.if-is_empty.ensures config.addresses.ok.0,
          (let size = config.addresses.ok.0 in let e = c.len.ensures in let f = c.if-len-gt-ADDRESS_LIMIT.false in omega (arith, size, e, f)),
          recursion_from_All IsIp config.addresses.items (subst (λ (xs : List Ip). All IsIp xs) c.deref-3.ensures.value c.know_their_lengths.ensures),
        );
        apps = record {
          some = some _ _ c.if-is_empty-2.ensures config.apps.ok.0;
          few = (let size = config.apps.ok.0 in let e = c.len-else-is_empty-2.ensures in let f = c.if-len-gt-APP_LIMIT.false in omega (arith, size, e, f));
          numbers = subst (λ (xs : List App). AllByRecursion (λ (a : App). a.id < 4294967296) xs) c.deref-4.ensures.value c.know_their_numbers.ensures;
          distinct = subst AreDistinct c.deref-5.ensures.value (c.if-are_distinct.ensures.0 refl);
        };
      },
      subst (MayHold c.args.manner) c.deref-else-len-gt-APP_LIMIT.ensures.value (c.if-not-may_be_used.ensures.0 refl),
    )
