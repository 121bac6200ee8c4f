-- How a parse takes the options and inputs of a row, and the slots that match them.
use Rattle.std.proofs.Common.{◌≡◌, ◌∙◌, ◌&&◌, Bool, true, false, List, [], ◌∷◌, ◌++◌, Some, refl, sym, ap, subst, codes, map}
use Rattle.std.specs.Borrow.{Bor}
use Rattle.std.specs.List.{list_any}
use Rattle.std.specs.Str.{bytes_eq}
use Rattle.clap.specs.Simple.{Shape, filled_from, help_rule}
use Rattle.clap.specs.ValueTests.{accepts}
use Rattle.clap.specs.Walk.{Rule, Text, texts}
use Rattle.clap.specs.declared.builder.value_parser.ValueParser.TheVariants as vp
use Rattle.clap.proofs.WalkLemmas.{list_any-map}
use Rattle.dia_terms.specs.declared.Sends.{Sends}
use Rattle.dia_terms.specs.declared.Sends.TheVariants.{Any, Known, Filled, Listed}
use Rattle.dia_terms.specs.declared.Unknown.{Unknown}
use Rattle.dia_terms.specs.declared.Unknown.TheVariants.{Kept, Refused}
use Rattle.dia_cli.specs.Asking.{line_shape}
use Rattle.dia_cli.specs.Rows.{CommandRow, input_rule, row_shape}
use Rattle.dia_cli.specs.Slots.{Slot, policy_given, sender_given}
use Rattle.dia_cli.specs.Words.{policy_word, sends_word}
use Rattle.dia_cli.proofs.Forms.Ends.{HasFineDefaults, IsRow, lacks}
use Rattle.dia_cli.proofs.Forms.Fits.{MatchOptions, defaults_pass, option_built, options_fit}
use Rattle.dia_cli.proofs.Forms.Steps.{values_of}
use Rattle.dia_cli.proofs.Forms.Walked.{leaf_of}
use Rattle.dia_cli.proofs.Forms.Walks.{FitInputs, Passes, are_apart, following}

abbrev among : List Text → Text → Bool
among names word = list_any (λ (name : Text). bytes_eq name word) names

accepts_is : (names : Bor (List (Bor Text))) (word : Text) → accepts false (vp.Names names) word ≡ among (texts names.now) word
accepts_is names word = list_any-map (λ (name : Text). bytes_eq name word) (λ (name : Bor Text). name.now) names.now

-- the command of a row, as a parse reads it
abbrev pub shape : Bor (List (Bor Text)) → Bor (List (Bor Text)) → CommandRow → Shape
shape policies senders row = leaf_of (line_shape policies senders) (row_shape policies senders row)

module _ (policies senders : Bor (List (Bor Text))) (two : texts policies.now ≡ policy_word Kept ∷ policy_word Refused ∷ [])
    (four : texts senders.now ≡ sends_word Any ∷ sends_word Known ∷ sends_word Filled ∷ sends_word Listed ∷ []) where
  pub policy_passes : (unknown : Unknown) → Passes (Some (vp.Names policies)) (policy_given unknown)
  policy_passes Kept = refl
  policy_passes Refused = accepts_is policies (codes "refused") ∙ ap (λ (names : List Text). among names (codes "refused")) two

  pub sender_passes : (sends : Sends) → Passes (Some (vp.Names senders)) (sender_given sends)
  sender_passes Any = refl
  sender_passes Known = accepts_is senders (codes "known") ∙ ap (λ (names : List Text). among names (codes "known")) four
  sender_passes Filled = accepts_is senders (codes "filled") ∙ ap (λ (names : List Text). among names (codes "filled")) four
  sender_passes Listed = accepts_is senders (codes "listed") ∙ ap (λ (names : List Text). among names (codes "listed")) four

  pub row_fits : (row : CommandRow) (options inputs : List Slot) → (shape policies senders row).rules ≡ map (option_built policies senders) row.options ++ filled_from 1 (map input_rule row.inputs ++ help_rule ∷ [])
      → MatchOptions policies senders row.options options → FitInputs (shape policies senders row) 1 inputs → are_apart (options ++ inputs) [] ≡ true
      → list_any (λ (a : Rule). a.required && lacks (values_of a.id (following (options ++ inputs) []))) (shape policies senders row).rules ≡ false
      → (shape policies senders row).arg_required_else_help ≡ false → (shape policies senders row).subcommand_required ≡ false → IsRow (shape policies senders row) options inputs
  row_fits row options inputs rules matches fit apart given no_help no_subcommand = record {
    options_fit = options_fit policies senders (shape policies senders row) row.options (filled_from 1 (map input_rule row.inputs ++ help_rule ∷ [])) options rules matches;
    inputs_fit = fit;
    apart = apart;
    defaults = subst HasFineDefaults (sym rules)
        (defaults_pass policies senders row.options row.inputs (
          accepts_is policies (codes "kept") ∙ ap (λ (names : List Text). among names (codes "kept")) two,
          accepts_is senders (codes "any") ∙ ap (λ (names : List Text). among names (codes "any")) four,
        ));
    given = given;
    no_help = no_help;
    no_subcommand = no_subcommand;
  }
