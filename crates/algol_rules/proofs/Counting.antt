-- The tokens of names with expressions, and of bodies.
use Rattle.std.proofs.Common.{◌≡◌, ◌+◌, refl, ◌∙◌, ap, arith, List, [], ◌∷◌}
use Rattle.algol_tree.specs.declared.tree.Named.{Named}
use Rattle.algol_tree.specs.declared.tree.EventName.{EventName}
use Rattle.algol_tree.specs.Plain as tree
use Rattle.algol_tree.specs.Plain.{PExprs, none, more}
use Rattle.algol_tree.specs.Counts as counts
use Rattle.algol_tree.specs.Image.{variable, call, exprs, body, decls, stmts}
use Rattle.algol_tree.specs.declared.tree.Variable.{Variable}
use Rattle.algol_tree.specs.declared.tree.Call.{Call}
use Rattle.algol_tree.specs.declared.tree.Body.{Body}
use Rattle.algol_tree.proofs.Images.{body_is, call_is, variable_is}
use Rattle.algol_rules.specs.Opened.{levels_opened, further_events}

subscripted_counts : (n : Named) (es : PExprs) → counts.variable_tokens (tree.subscripted n es) ≡ levels_opened es + counts.exprs_tokens es
subscripted_counts n none = refl
subscripted_counts n (more e es) = omega arith

called_counts : (n : Named) (es : PExprs) → counts.call_tokens (tree.called n es) ≡ levels_opened es + counts.exprs_tokens es
called_counts n none = refl
called_counts n (more e es) = omega arith

pub variable_counts : (v : Variable) → counts.variable_tokens (variable v) ≡ levels_opened (exprs v.subs) + counts.exprs_tokens (exprs v.subs)
variable_counts v = ap counts.variable_tokens (variable_is v) ∙ subscripted_counts v.name (exprs v.subs)

pub call_counts : (c : Call) → counts.call_tokens (call c) ≡ levels_opened (exprs c.actuals) + counts.exprs_tokens (exprs c.actuals)
call_counts c = ap counts.call_tokens (call_is c) ∙ called_counts c.name (exprs c.actuals)

pub body_counts : (b : Body) → counts.body_tokens (body b) ≡ 1 + counts.decls_tokens (decls b.decls) + counts.stmts_tokens (stmts b.stmts)
body_counts b = ap counts.body_tokens (body_is b)

pub ruleset counting = (variable_counts, call_counts, body_counts)

-- the first one has no comma before it
pub events_count : (e : EventName) (es : List EventName) → counts.events_tokens (e ∷ es) ≡ counts.event_tokens e + further_events es
events_count e [] = omega arith
events_count e (f ∷ es) = let more : counts.events_tokens (f ∷ es) ≡ counts.event_tokens f + further_events es = events_count f es in omega (arith, more)

pub ruleset events = events_count
