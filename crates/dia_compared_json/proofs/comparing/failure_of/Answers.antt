use Rattle.std.proofs.Common.{refl}
use Rattle.dia_compat.specs.TableText.{plain_pair}
use Rattle.dia_compared_json.proofs.comparing.failure_of.Goals as goal

pub returns : goal.returns
returns g c = record {
  p = plain_pair c.pair_at-names.result.now;
  fails = c.args.fails.now;
  is_pair = c.pair_at-names.ensures;
  are_all = c.requires.are_all;
  not_none = c.requires.not_none;
  is_text = c.in_ok-text.ensures;
  is_exit = refl;
}
