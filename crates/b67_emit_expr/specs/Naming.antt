-- A name by itself in an expression.
use Rattle.std.specs.Prelude.{◌⊎◌, ℕ, ◌≤◌}
use Rattle.algol_tree.specs.declared.tree.Kind.{Kind}
use Rattle.algol_tree.specs.declared.tree.Named.{Named}
use Rattle.algol_tree.specs.Scopes.{Scopes}
use Rattle.b67_segment.specs.Operators.{size}
use Rattle.b67_segment.specs.Building.{Built}
use Rattle.b67_templates.specs.Contexts.{Context}
use Rattle.b67_templates.specs.Code.{NameAt, PlaceAt}
use Rattle.b67_templates.specs.Emitting.{Emitted}
use Rattle.b67_templates.specs.Fitting.{ReadFits, CallFits, PlaceFits}
use Rattle.b67_emitter.specs.declared.names.Names.{Names}
use Rattle.b67_emitter.specs.Values.{meanings}

-- In a program of which this is told of names, the name is that of a variable or a parameter by name, or of a typed procedure.
abbrev pub NameMeans : Names → Scopes → ℕ → Kind → Named → Type 0
NameMeans s scopes level kind n = ReadFits scopes (meanings s) level kind n ⊎ CallFits scopes (meanings s) level kind n

-- the name has code at that level: it fits there or further out, in whatever program names have this meaning
pub record NameHasCode (s : Names) (level : ℕ) (n : Named) : Type 0 where
  pub scopes : Scopes
  pub own : ℕ
  pub kind : Kind
  pub outer : own ≤ level
  pub fits : NameMeans s scopes own kind n

-- From the first builder to the second the reading of the variable or the parameter was appended, or the procedure's call.
pub record NameEmitted (s : Names) (level : ℕ) (before after : Built) (n : Named) : Type 0 where
  pub code :
      (scopes : Scopes) (context : Context) (kind : Kind) → NameMeans s scopes context.level kind n →
      Emitted before after (λ qs. NameAt scopes context qs level kind n (size before.operators) (size after.operators))

-- ---- on the left of an assignment

-- an assignment at that level or further out can store through the name, in whatever program names have this meaning
pub record NameHasPlace (s : Names) (level : ℕ) (n : Named) : Type 0 where
  pub scopes : Scopes
  pub own : ℕ
  pub kind : Kind
  pub outer : own ≤ level
  pub fits : PlaceFits scopes (meanings s) own kind n

-- From the first builder to the second the reference of the variable or the result was appended, or that of the parameter by name and EVAL.
pub record PlaceEmitted (s : Names) (level : ℕ) (before after : Built) (n : Named) : Type 0 where
  pub code :
      (scopes : Scopes) (context : Context) (kind : Kind) → PlaceFits scopes (meanings s) context.level kind n →
      Emitted before after (λ qs. PlaceAt scopes context qs level n kind (size before.operators) (size after.operators))
