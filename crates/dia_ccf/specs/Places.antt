-- Where the parts of a source are in the text.
use Rattle.std.specs.Prelude.{◌≡◌, ℕ, ◌<◌, List, [], ◌∷◌, ◌++◌, drop}
use Rattle.std.specs.List.{All, AllPairs}
use Rattle.dia_ccf.specs.declared.source.Decl.{Decl}
use Rattle.dia_ccf.specs.declared.source.Rule.{Rule}
use Rattle.dia_ccf.specs.declared.source.Def.{Def}
use Rattle.dia_ccf.specs.declared.source.Source.{Source}
use Rattle.dia_ccf.specs.Plain.{PlainDef, plain_rule, plain_decl, plain_def}
use Rattle.dia_ccf.specs.Tokens.{Token, Less, Greater, Assign, tokens}
use Rattle.dia_ccf.specs.Grammar.{Tokens, ◌then◌, one, either, name, head, rule, declaration}
use Rattle.dia_ccf.specs.Faults.{place_of}

-- the tokens of the text from token k up to token m are of the class
abbrev pub Spans : List ℕ → ℕ → Tokens → ℕ → Type 0
Spans text k class m = (front : List Token) × (drop k (tokens text) ≡ front ++ drop m (tokens text)) × class front

-- the name of a definition
abbrev pub opened : List ℕ → Tokens
opened text = either (one Less then name text then one Greater) (name text)

-- a definition up to its rules
abbrev pub heading : PlainDef → Tokens
heading d = opened d.name then one Assign then one Less then head d.head then one Greater

abbrev pub DeclOccurs : List ℕ → Decl → Type 0
DeclOccurs text d = (k : ℕ) × (m : ℕ) × Spans text k (declaration (plain_decl d)) m × (place_of text k ≡ d.at)

-- the rules follow each other from token k up to token m
abbrev pub RulesStand : List ℕ → ℕ → List Rule → ℕ → Type 0
RulesStand text k [] m = k ≡ m
RulesStand text k (r ∷ rules) m = (next : ℕ) × Spans text k (rule (plain_rule r)) next × (place_of text k ≡ r.at) × RulesStand text next rules m

abbrev pub DefOccurs : List ℕ → Def → Type 0
DefOccurs text d = (k : ℕ) × (m : ℕ) × (end : ℕ) × Spans text k (heading (plain_def d)) m × (place_of text k ≡ d.at) × RulesStand text m d.rules.items end

-- each part is at its place, and each list is in the order of the text
pub record IsPlaced (text : List ℕ) (source : Source) : Type 0 where
  pub avps : All (DeclOccurs text) source.avps.items
  pub groups : All (DefOccurs text) source.groups.items
  pub commands : All (DefOccurs text) source.commands.items
  pub avps_rise : AllPairs (λ a b. a.at < b.at) source.avps.items
  pub groups_rise : AllPairs (λ a b. a.at < b.at) source.groups.items
  pub commands_rise : AllPairs (λ a b. a.at < b.at) source.commands.items

-- each part is at its place, before another one
pub record IsPlacedBefore (text : List ℕ) (at : ℕ) (source : Source) : Type 0 where
  pub placed : IsPlaced text source
  pub avps : All (λ d. d.at < at) source.avps.items
  pub groups : All (λ d. d.at < at) source.groups.items
  pub commands : All (λ d. d.at < at) source.commands.items
