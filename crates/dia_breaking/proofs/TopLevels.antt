-- The level of a command's message is the one at which its walk starts.
use Rattle.std.proofs.Common.{◌≡◌, ℕ, false, List, [], Option, refl, ap, subst, arith}
use Rattle.std.specs.Option.{option_map_or}
use Rattle.dia_book.specs.declared.DRule.{DRule}
use Rattle.dia_book.specs.Dictionary.{Dictionary, PlainDefinition, IsDictionary}
use Rattle.dia_terms.specs.declared.Unknown.{Unknown}
use Rattle.dia_terms.specs.declared.Sends.{Sends}
use Rattle.dia_valid.specs.Rules.{rules_in}
use Rattle.dia_breaking_sites.specs.Sent.{IsSent}
use Rattle.dia_breaking_shortest.specs.Floors.{AreFloors}
use Rattle.dia_breaking_ways.specs.Walks.{plain_exits}
use Rattle.dia_breaking_ways.specs.declared.graph.Step.{Step}
use Rattle.dia_breaking_ways.specs.declared.graph.Reach.{Reach}
use Rattle.dia_breaking.specs.declared.start.Start.{Start}
use Rattle.dia_breaking.specs.Exits.{AreExits}
use Rattle.dia_breaking.specs.LevelCosts.{PicksShortest}
use Rattle.dia_breaking.specs.TheLines.{AreFacts, Facts, IsStartOf, costs_in}
use Rattle.dia_breaking.specs.Sides.{sides}
use Rattle.dia_breaking.proofs.ReadLevels.{AtLevel}
use Rattle.dia_breaking.proofs.TooLong.{body_bytes, body_within}

module _ (da db : Dictionary) (who : Sends) (u : Unknown) (made : Facts) (start : Start) (c : ℕ) (sa : IsDictionary da) (facts : AreFacts (sides da db who u) made)
    (floors : AreFloors da who (costs_in (sides da db who u) made).listed) (is_start : IsStartOf da db made.recording (costs_in (sides da db who u) made) c start)
    (shortest : PicksShortest da db (costs_in (sides da db who u) made)) (steps : List Step) (reached : List (Option Reach)) (bytes : List ℕ) (sent : IsSent da who bytes c) (other : PlainDefinition) where
  rules : rules_in da c ≡ sent.command.rules
  rules = ap (λ (o : Option PlainDefinition). option_map_or (λ (y : PlainDefinition). y.rules) o []) sent.is_command

  pub top_level : AtLevel da db who u made.lengths made.others made.recording made.outlooks facts.is_recording facts.are_outlooks sa shortest floors (plain_exits start.exits) steps reached sent.command other
      sent.command other sent.avps
  top_level = record {
    number = 0;
    def = c;
    stage = record { way = 0; wild = false; exits = plain_exits start.exits };
    exits = is_start.exits;
    is_stage = refl;
    stage_exits = is_start.exits_are;
    at_def = sent.is_command;
    is_read = (refl, refl, refl);
    are_exits = subst (λ (rs : List DRule). AreExits made.recording (costs_in (sides da db who u) made) rs is_start.exits) rules is_start.are_exits;
    within = omega arith;
    level = record {
      bytes = sent.message.body;
      are_bytes = body_bytes sent.header sent.avps bytes sent.message sent.are_bytes;
      spelled = sent.message.is_body;
      has_room = let fits = body_within sent.header sent.avps bytes sent.message sent.are_bytes in omega (arith, fits);
      stand = sent.stand;
      sent = sent.sent;
    };
  }
