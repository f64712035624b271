-- Laws of declarations that are actions.
use Rattle.std.proofs.Common.{arith, ◌≡◌, ◌<◌, ◌+◌, ℕ, List, ◌∷◌, ◌++◌, ap, subst, ◌∙◌, Bool, true, false, Result, Ok, Err, IfOk}
use Rattle.std.proofs.lemmas.List.{append_assoc}
use Rattle.std.specs.Borrow.{Bor}
use Rattle.algol_tree.specs.Plain as tree
use Rattle.algol_tree.specs.Plain.{PDecl}
use Rattle.algol_tree.specs.Scopes.{Scopes}
use Rattle.algol_tree.specs.declared.tree.Decl.{Decl}
use Rattle.algol_meaning.specs.Statements.{decl_items, decls_items, settle_items}
use Rattle.algol_meaning.specs.SeenTree.{decl, decls}
use Rattle.algol_rest.specs.SeenStatement.{following, weigh, decl_size, decls_size, Advances}
use Rattle.algol_rest.specs.declared.statement.Next.{Next}
use Rattle.algol_rest.specs.declared.statement.Next.TheVariants as next
use Rattle.algol_rest.specs.declared.statement.Work.{Work}

pub decl_takes : (d : PDecl) (w : ℕ) → w < decl_size d + w
decl_takes (tree.simple kind ns) w = omega (arith)
decl_takes (tree.files ns) w = omega (arith)
decl_takes (tree.events ns) w = omega (arith)
decl_takes (tree.tasks ns) w = omega (arith)
decl_takes (tree.labels ns) w = omega (arith)
decl_takes (tree.arrays kind ns ps) w = omega (arith)
decl_takes (tree.forward h) w = omega (arith)
decl_takes (tree.procedure h s) w = omega (arith)

module _ (sc : Scopes) (d : Decl) (ds : Bor (List Decl)) (k : List Next) where
  declared :
      settle_items sc (decls_items (decls (d ∷ ds.now)) ++ following k)
      ≡ settle_items sc (decl_items (decl d) ++ (decls_items (decls ds.now) ++ following k))
  declared = ap (settle_items sc) (append_assoc (decl_items (decl d)) (decls_items (decls ds.now)) (following k))

  fewer : (w : ℕ) → w < decl_size (decl d) + (1 + decls_size (decls ds.now) + weigh k) → w < 1 + (1 + decl_size (decl d) + decls_size (decls ds.now)) + weigh k
  fewer w l = omega (arith, l)

  by_found :
      (found : Bool) (w : Work)
      → Advances sc (settle_items sc (decl_items (decl d) ++ (decls_items (decls ds.now) ++ following k))) (decl_size (decl d) + (1 + decls_size (decls ds.now) + weigh k)) found w
      → Advances sc (settle_items sc (decls_items (decls (d ∷ ds.now)) ++ following k)) (1 + decls_size (decls (d ∷ ds.now)) + weigh k) found w
  by_found false w a = (declared ∙ a.0, a.1, fewer (weigh w.todo) a.2)
  by_found true w a = declared ∙ a

  by_waiting :
      (mid : List Next) (found : Bool) (w : Work) → mid ≡ next.Decls ds ∷ k
      → Advances sc (settle_items sc (decl_items (decl d) ++ following mid)) (decl_size (decl d) + weigh mid) found w
      → Advances sc (settle_items sc (decls_items (decls (d ∷ ds.now)) ++ following k)) (1 + decls_size (decls (d ∷ ds.now)) + weigh k) found w
  by_waiting mid found w q a =
      by_found found w
      (subst (λ (m : List Next). Advances sc (settle_items sc (decl_items (decl d) ++ following m)) (decl_size (decl d) + weigh m) found w) q a)

  -- the declarations after this one wait while its actions are done
  pub next_decl :
      {E : Type 0} (r : Result Bool E) (mid : List Next) (w : Work) → mid ≡ next.Decls ds ∷ k
      → IfOk r (λ (found : Bool). Advances sc (settle_items sc (decl_items (decl d) ++ following mid)) (decl_size (decl d) + weigh mid) found w)
      → IfOk r (λ (found : Bool). Advances sc (settle_items sc (decls_items (decls (d ∷ ds.now)) ++ following k)) (1 + decls_size (decls (d ∷ ds.now)) + weigh k) found w)
  next_decl (Ok found) mid w q a = by_waiting mid found w q a
  next_decl (Err e) mid w q a = a
