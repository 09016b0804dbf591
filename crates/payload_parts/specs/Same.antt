-- When the parts of two definitions are the same.
use Rattle.std.specs.Prelude.{◌≡◌}
use Rattle.commit_payloads.specs.declared.definition.Definition.{Definition}

pub record SameHead (a b : Definition) : Type 0 where
  pub name : a.name ≡ b.name
  pub text : a.text ≡ b.text
  pub body : a.body ≡ b.body
  pub columns : a.columns ≡ b.columns

pub record SameTail (a b : Definition) : Type 0 where
  pub expectations : a.expectations ≡ b.expectations
  pub flows : a.flows ≡ b.flows
  pub keys : a.keys ≡ b.keys
  pub sequence : a.sequence ≡ b.sequence
