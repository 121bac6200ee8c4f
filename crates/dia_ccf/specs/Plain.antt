-- Sources as plain values.
use Rattle.std.specs.Prelude.{ℕ, List, map, Option, string_bytes}
use Rattle.std.specs.Option.{option_map}
use Rattle.dia_terms.specs.declared.FormatName.{FormatName}
use Rattle.dia_terms.specs.declared.MRule.{MRule}
use Rattle.dia_ccf.specs.declared.source.Head.{Head}
use Rattle.dia_terms.specs.declared.RuleKind.{RuleKind}
use Rattle.dia_ccf.specs.declared.source.Qual.{Qual}
use Rattle.dia_ccf.specs.declared.source.Decl.{Decl}
use Rattle.dia_ccf.specs.declared.source.Rule.{Rule}
use Rattle.dia_ccf.specs.declared.source.Def.{Def}
use Rattle.dia_ccf.specs.declared.source.Source.{Source}

pub record PlainDecl : Type 0 where
  pub name : List ℕ
  pub code : ℕ
  pub vendor : ℕ
  pub format : FormatName
  pub values : Option (List (ℕ × ℕ))
  pub rule : MRule

pub record PlainRule : Type 0 where
  pub kind : RuleKind
  pub name : Option (List ℕ)
  pub qual : Option Qual

pub record PlainDef : Type 0 where
  pub name : List ℕ
  pub head : Head
  pub rules : List PlainRule

pub record PlainSource : Type 0 where
  pub avps : List PlainDecl
  pub groups : List PlainDef
  pub commands : List PlainDef

abbrev pub plain_decl : Decl → PlainDecl
plain_decl d = record { name = string_bytes d.name; code = d.code; vendor = d.vendor; format = d.format; values = option_map (λ v. v.items) d.values; rule = d.rule }

abbrev pub plain_rule : Rule → PlainRule
plain_rule r = record { kind = r.kind; name = option_map (λ n. string_bytes n) r.name; qual = r.qual }

abbrev pub plain_def : Def → PlainDef
plain_def d = record { name = string_bytes d.name; head = d.head; rules = map plain_rule d.rules.items }

abbrev pub plain_source : Source → PlainSource
plain_source s = record { avps = map plain_decl s.avps.items; groups = map plain_def s.groups.items; commands = map plain_def s.commands.items }
