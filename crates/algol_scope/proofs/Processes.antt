-- PROCESS: a name, a task's name, and actuals.
use Rattle.std.proofs.Common.{◌≡◌, List, [], ◌∷◌, ◌++◌, map, Option}
use Rattle.algol_tree.specs.declared.tree.Named.{Named}
use Rattle.algol_tree.specs.Plain.{PExprs}
use Rattle.algol_tree.specs.Surroundings.{Surroundings, formals_at}
use Rattle.algol_tree.specs.Sites.{inside_actuals}
use Rattle.algol_known.specs.declared.known.Seen.TheVariants as seens
use Rattle.algol_sorts.specs.declared.sort.Sort.{Sort}
use Rattle.algol_known.specs.declared.around.Around.{Around}
use Rattle.algol_scope.specs.declared.findings.Findings.{Findings}
use Rattle.algol_known.specs.Seeing.{Sees, mode_of}
use Rattle.algol_scope.specs.Noting.{ActualsPass, ScopeWalks, at_name, process_parts, task_parts}
use Rattle.algol_scope.proofs.Walking.{finds_then}

pub walks_process : (k : Around) (old one two new : Findings) (n : Named) (task : Option Named) (modes : List Sort) (es : PExprs) →
    ScopeWalks k seens.All old one (λ a. at_name n a ∷ []) → ScopeWalks k seens.All one two (task_parts task) →
    ((a : Surroundings) → Sees k seens.All a → modes ≡ map mode_of (formals_at a n)) → ActualsPass k seens.All two new modes es →
    ScopeWalks k seens.All old new (process_parts n task es)
walks_process k old one two new n task modes es v w m p =
    record {
      finds =
          λ blocks a s.
          finds_then blocks old one new (at_name n a ∷ []) (task_parts task a ++ inside_actuals es (formals_at a n) a) (v.finds blocks a s)
          (finds_then blocks one two new (task_parts task a) (inside_actuals es (formals_at a n) a) (w.finds blocks a s)
          (p.finds blocks a (formals_at a n) s (m a s)));
    }
