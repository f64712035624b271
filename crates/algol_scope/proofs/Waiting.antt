-- The walk over an expression of which some right operands wait while what stands before them is gone over.
use Rattle.std.proofs.Common.{rules, arith, ◌≡◌, ◌<◌, ℤ, Bool, List, [], ◌∷◌, ◌++◌, length, refl, ap, sym, ◌∙◌, append_assoc, append-nil, subst}
use Rattle.std.specs.List.{flat_map}
use Rattle.std.specs.Borrow.{Bor}
use Rattle.std.specs.declared.boxed.Box.{Box}
use Rattle.std.specs.declared.alloc.Global.{Global}
use Rattle.algol_tree.specs.declared.token.Spot.{Spot}
use Rattle.algol_tree.specs.declared.tree.Variable.{Variable}
use Rattle.algol_tree.specs.declared.tree.Call.{Call}
use Rattle.algol_tree.specs.declared.tree.Op.{Op}
use Rattle.algol_tree.specs.declared.tree.Expr.{Expr, size-Expr}
use Rattle.algol_tree.specs.declared.tree.Expr as expressions
use Rattle.algol_tree.specs.declared.tree.Expr.TheVariants as expression
use Rattle.algol_tree.specs.Plain as tree
use Rattle.algol_tree.specs.Plain.{PExpr}
use Rattle.algol_tree.specs.Image.{expr, exprs, call}
use Rattle.algol_tree.specs.Blocks.{Block}
use Rattle.algol_tree.specs.Surroundings.{Surroundings, formals_at}
use Rattle.algol_tree.specs.Sites.{Site, sites, inside_list, inside_actuals}
use Rattle.algol_tree.specs.Cells.{cells_at}
use Rattle.algol_tree.specs.Couples.{known_at}
use Rattle.algol_tree.proofs.Images.{call_is}
use Rattle.algol_known.specs.declared.known.Seen.{Seen}
use Rattle.algol_known.specs.declared.around.Around.{Around}
use Rattle.algol_known.proofs.Plain.{expr_variable, expr_two, expr_if}
use Rattle.algol_scope.specs.declared.findings.Findings.{Findings}
use Rattle.algol_scope.specs.Noting.{ScopeWalks, at_name, faults_at}
use Rattle.algol_scope.proofs.Walking.{Leads, Follows, again, adds_none, finds_then, follows_step, leads_end, walks_of}

-- ---- what waits, the next one last

abbrev pub waiting_parts : List (Bor Expr) → Surroundings → List Site
waiting_parts [] a = []
waiting_parts (r ∷ rs) a = waiting_parts rs a ++ sites (expr r.now) a

-- the expression at hand, and then what waits
abbrev pub left_over : Expr → List (Bor Expr) → Surroundings → List Site
left_over e rs a = sites (expr e) a ++ waiting_parts rs a

one_more : (rs : List (Bor Expr)) (r : Bor Expr) (a : Surroundings) → waiting_parts (rs ++ r ∷ []) a ≡ sites (expr r.now) a ++ waiting_parts rs a
one_more [] r a = sym (append-nil (sites (expr r.now) a))
one_more (x ∷ rs) r a =
    ap (λ z. z ++ sites (expr x.now) a) (one_more rs r a) ∙ append_assoc (sites (expr r.now) a) (waiting_parts rs a) (sites (expr x.now) a)

-- ---- each of them is less deep than the whole

abbrev pub Under : Expr → List (Bor Expr) → Type 0
Under e [] = Unit {0}
Under e (r ∷ rs) = (size-Expr r.now < size-Expr e) × Under e rs

under_append : (e : Expr) (rs : List (Bor Expr)) (r : Bor Expr) → Under e rs → size-Expr r.now < size-Expr e → Under e (rs ++ r ∷ [])
under_append e [] r u h = (h, tt)
under_append e (x ∷ rs) r u h = (u.0, under_append e rs r u.1 h)

pub under_more : (e : Expr) (rs new : List (Bor Expr)) (r : Bor Expr) → new ≡ rs ++ r ∷ [] → Under e rs → size-Expr r.now < size-Expr e → Under e new
under_more e rs new r is u h = subst (Under e) (sym is) (under_append e rs r u h)

under_split : (e : Expr) (rs : List (Bor Expr)) (r : Bor Expr) → Under e (rs ++ r ∷ []) → (size-Expr r.now < size-Expr e) × Under e rs
under_split e [] r u = (u.0, tt)
under_split e (x ∷ rs) r u = let k = under_split e rs r u.1 in (k.0, (u.0, k.1))

pub under_last : (e : Expr) (old rs : List (Bor Expr)) (r : Bor Expr) → old ≡ rs ++ r ∷ [] → Under e old → (size-Expr r.now < size-Expr e) × Under e rs
under_last e old rs r is u = under_split e rs r (subst (Under e) is u)

-- ---- how far the walk has come

module _ (k : Around) (seen : Seen) (old : Findings) where
  module _ (now : Findings) (all : Surroundings → List Site) where
    abbrev Stands : Findings → PExpr → List (Bor Expr) → Type 0
    Stands f p rs = Follows k seen old f all (λ a. sites p a ++ waiting_parts rs a)

    -- what stands in an expression with one part
    goes_in : (p q : PExpr) (rs : List (Bor Expr)) (e d : Expr) → expr e ≡ p → expr d ≡ q →
        ((blocks : List Block) (a : Surroundings) (xs : List Site) →
        (flat_map (faults_at blocks) (sites q a ++ xs) ≡ flat_map (faults_at blocks) (sites p a ++ xs)) ×
        ((flat_map (cells_at blocks) (sites q a ++ xs) ≡ flat_map (cells_at blocks) (sites p a ++ xs)) ×
        (flat_map (known_at blocks) (sites q a ++ xs) ≡ flat_map (known_at blocks) (sites p a ++ xs)))) →
        Stands now (expr e) rs → Stands now (expr d) rs
    goes_in p q rs e d h i same l =
        let P : PExpr → Type 0 = λ z. Stands now z rs in
        let moved : P p = subst P h l in
        let inner : P q = record {
          leads = λ blocks a s new f.
              let eq = same blocks a (waiting_parts rs a) in
              moved.leads blocks a s new (again blocks now new (sites q a ++ waiting_parts rs a) (sites p a ++ waiting_parts rs a) eq.0 eq.1.0 eq.1.1 f);
        } in
        subst P (sym i) inner

    pub goes_in_paren : (rs : List (Bor Expr)) (e d : Expr) (x : Box Expr Global) (spot : Spot) → e ≡ expression.Paren x spot → d ≡ x.value →
        Stands now (expr e) rs → Stands now (expr d) rs
    goes_in_paren rs e d x spot h i l =
        let image : expr (expression.Paren x spot) ≡ tree.paren (expr x.value) spot = search (rules, expressions.the_lemmas) in
        goes_in (tree.paren (expr d) spot) (expr d) rs e d (ap expr h ∙ image ∙ ap (λ z. tree.paren (expr z) spot) (sym i)) refl (λ blocks a xs. (refl, (refl, refl))) l

    pub goes_in_plus : (rs : List (Bor Expr)) (e d : Expr) (x : Box Expr Global) (spot : Spot) → e ≡ expression.Plus x spot → d ≡ x.value →
        Stands now (expr e) rs → Stands now (expr d) rs
    goes_in_plus rs e d x spot h i l =
        let image : expr (expression.Plus x spot) ≡ tree.plus (expr x.value) spot = search (rules, expressions.the_lemmas) in
        goes_in (tree.plus (expr d) spot) (expr d) rs e d (ap expr h ∙ image ∙ ap (λ z. tree.plus (expr z) spot) (sym i)) refl (λ blocks a xs. (refl, (refl, refl))) l

    pub goes_in_neg : (rs : List (Bor Expr)) (e d : Expr) (x : Box Expr Global) (spot : Spot) → e ≡ expression.Neg x spot → d ≡ x.value →
        Stands now (expr e) rs → Stands now (expr d) rs
    goes_in_neg rs e d x spot h i l =
        let image : expr (expression.Neg x spot) ≡ tree.neg (expr x.value) spot = search (rules, expressions.the_lemmas) in
        goes_in (tree.neg (expr d) spot) (expr d) rs e d (ap expr h ∙ image ∙ ap (λ z. tree.neg (expr z) spot) (sym i)) refl (λ blocks a xs. (refl, (refl, refl))) l

    pub goes_in_not : (rs : List (Bor Expr)) (e d : Expr) (x : Box Expr Global) (spot : Spot) → e ≡ expression.Not x spot → d ≡ x.value →
        Stands now (expr e) rs → Stands now (expr d) rs
    goes_in_not rs e d x spot h i l =
        let image : expr (expression.Not x spot) ≡ tree.not (expr x.value) spot = search (rules, expressions.the_lemmas) in
        goes_in (tree.not (expr d) spot) (expr d) rs e d (ap expr h ∙ image ∙ ap (λ z. tree.not (expr z) spot) (sym i)) refl (λ blocks a xs. (refl, (refl, refl))) l

    -- the left one of two, while the right one waits
    pub goes_left : (rs new : List (Bor Expr)) (r : Bor Expr) (e d : Expr) (op : Op) (x y : Box Expr Global) → e ≡ expression.Two op x y → d ≡ x.value → r.now ≡ y.value →
        new ≡ rs ++ r ∷ [] → Stands now (expr e) rs → Stands now (expr d) new
    goes_left rs new r e d op x y h i j is l =
        let P : PExpr → Type 0 = λ z. Stands now z rs in
        let moved : P (tree.two op (expr d) (expr r.now)) = subst P (expr_two e op x y d r.now h i j) l in
        record {
          leads = λ blocks a s last f.
              let same : sites (expr d) a ++ waiting_parts new a ≡ (sites (expr d) a ++ sites (expr r.now) a) ++ waiting_parts rs a =
              ap (λ z. sites (expr d) a ++ waiting_parts z a) is ∙ ap (λ z. sites (expr d) a ++ z) (one_more rs r a)
              ∙ sym (append_assoc (sites (expr d) a) (sites (expr r.now) a) (waiting_parts rs a)) in
              moved.leads blocks a s last
              (again blocks now last (sites (expr d) a ++ waiting_parts new a) (sites (tree.two op (expr d) (expr r.now)) a ++ waiting_parts rs a)
              (ap (flat_map (faults_at blocks)) same) (ap (flat_map (cells_at blocks)) same) (ap (flat_map (known_at blocks)) same) f);
        }

    -- the last part of an IF, after the others
    pub goes_last : (one two : Findings) (rs : List (Bor Expr)) (e u v w : Expr) (c x y : Box Expr Global) (spot : Spot) → e ≡ expression.If c x y spot → u ≡ c.value →
        v ≡ x.value → w ≡ y.value → ScopeWalks k seen now one (sites (expr u)) → ScopeWalks k seen one two (sites (expr v)) → Stands now (expr e) rs → Stands two (expr w) rs
    goes_last one two rs e u v w c x y spot h i j m walked passed l =
        let P : PExpr → Type 0 = λ z. Stands now z rs in
        let moved : P (tree.if (expr u) (expr v) (expr w) spot) = subst P (expr_if e c x y spot u v w h i j m) l in
        record {
          leads = λ blocks a s last f.
              let same : (sites (expr u) a ++ sites (expr v) a) ++ (sites (expr w) a ++ waiting_parts rs a) ≡ ((sites (expr u) a ++ sites (expr v) a) ++ sites (expr w) a) ++ waiting_parts rs a =
              sym (append_assoc (sites (expr u) a ++ sites (expr v) a) (sites (expr w) a) (waiting_parts rs a)) in
              moved.leads blocks a s last
              (again blocks now last ((sites (expr u) a ++ sites (expr v) a) ++ (sites (expr w) a ++ waiting_parts rs a))
              (sites (tree.if (expr u) (expr v) (expr w) spot) a ++ waiting_parts rs a)
              (ap (flat_map (faults_at blocks)) same) (ap (flat_map (cells_at blocks)) same) (ap (flat_map (known_at blocks)) same)
              (finds_then blocks now two last (sites (expr u) a ++ sites (expr v) a) (sites (expr w) a ++ waiting_parts rs a)
              (finds_then blocks now one two (sites (expr u) a) (sites (expr v) a) (walked.finds blocks a s) (passed.finds blocks a s)) f));
        }

    -- an expression of which nothing is left
    pub comes_back_as : (new last : Findings) (rs : List (Bor Expr)) (e : Expr) → ScopeWalks k seen now new (sites (expr e)) → Stands now (expr e) rs → last ≡ new →
        Follows k seen old last all (waiting_parts rs)
    comes_back_as new last rs e w l is =
        let P : Findings → Type 0 = λ z. Follows k seen old z all (waiting_parts rs) in
        subst P (sym is) (follows_step k seen old now new all (sites (expr e)) (waiting_parts rs) l w)

    -- the one that waits least
    pub taken_up : (new : Findings) (rs qs : List (Bor Expr)) (r : Bor Expr) → rs ≡ qs ++ r ∷ [] → ScopeWalks k seen now new (sites (expr r.now)) →
        Follows k seen old now all (waiting_parts rs) → Follows k seen old new all (waiting_parts qs)
    taken_up new rs qs r is w l =
        let moved : Stands now (expr r.now) qs = record {
          leads = λ blocks a s.
              let P : List Site → Type 0 = λ z. Leads blocks old (all a) now z in
              subst P (ap (λ z. waiting_parts z a) is ∙ one_more qs r a) (l.leads blocks a s);
        } in
        follows_step k seen old now new all (sites (expr r.now)) (waiting_parts qs) moved w

    pub none_waits : (rs : List (Bor Expr)) → rs ≡ [] → Follows k seen old now all (waiting_parts rs) → ScopeWalks k seen old now all
    none_waits rs is l = record {
      finds = λ blocks a s.
          let P : List (Bor Expr) → Type 0 = λ z. Leads blocks old (all a) now (waiting_parts z a) in
          leads_end blocks old now (all a) (subst P is (l.leads blocks a s));
    }

pub none_left : (rs : List (Bor Expr)) → length rs ≡ 0 → rs ≡ []
none_left [] h = refl
none_left (r ∷ rs) h = absurd (omega (arith, h))

-- ---- expressions with no part

module _ (k : Around) (seen : Seen) (old : Findings) where
  walks_none : (e : Expr) (p : PExpr) → expr e ≡ p → ((blocks : List Block) (a : Surroundings) →
      ([] ≡ flat_map (faults_at blocks) (sites p a)) × (([] ≡ flat_map (cells_at blocks) (sites p a)) × ([] ≡ flat_map (known_at blocks) (sites p a)))) →
      ScopeWalks k seen old old (sites (expr e))
  walks_none e p h same = walks_of k seen old old (expr e) p h (record {
    finds = λ blocks a s. let eq = same blocks a in again blocks old old [] (sites p a) eq.0 eq.1.0 eq.1.1 (adds_none old);
  })

  pub walks_number : (e : Expr) (z : ℤ) (spot : Spot) → e ≡ expression.Number z spot → ScopeWalks k seen old old (sites (expr e))
  walks_number e z spot h =
      let image : expr (expression.Number z spot) ≡ tree.number z spot = search (rules, expressions.the_lemmas) in
      walks_none e (tree.number z spot) (ap expr h ∙ image) (λ blocks a. (refl, (refl, refl)))

  pub walks_truth : (e : Expr) (b : Bool) (spot : Spot) → e ≡ expression.Truth b spot → ScopeWalks k seen old old (sites (expr e))
  walks_truth e b spot h =
      let image : expr (expression.Truth b spot) ≡ tree.truth b spot = search (rules, expressions.the_lemmas) in
      walks_none e (tree.truth b spot) (ap expr h ∙ image) (λ blocks a. (refl, (refl, refl)))

  pub walks_variable : (new : Findings) (e : Expr) (v : Variable) → e ≡ expression.Variable v →
      ScopeWalks k seen old new (λ a. at_name v.name a ∷ inside_list (exprs v.subs) a) → ScopeWalks k seen old new (sites (expr e))
  walks_variable new e v h w = walks_of k seen old new (expr e) (tree.variable (tree.subscripted v.name (exprs v.subs))) (expr_variable e v h) (record {
    finds = λ blocks a s.
        again blocks old new (at_name v.name a ∷ inside_list (exprs v.subs) a) (sites (tree.variable (tree.subscripted v.name (exprs v.subs))) a) refl refl refl (w.finds blocks a s);
  })

  pub walks_called : (new : Findings) (e : Expr) (d : Call) → e ≡ expression.Call d →
      ScopeWalks k seen old new (λ a. at_name d.name a ∷ inside_actuals (exprs d.actuals) (formals_at a d.name) a) → ScopeWalks k seen old new (sites (expr e))
  walks_called new e d h w =
      let image : expr (expression.Call d) ≡ tree.call (call d) = search (rules, expressions.the_lemmas) in
      walks_of k seen old new (expr e) (tree.call (tree.called d.name (exprs d.actuals))) (ap expr h ∙ image ∙ ap (λ z. tree.call z) (call_is d)) (record {
        finds = λ blocks a s.
            again blocks old new (at_name d.name a ∷ inside_actuals (exprs d.actuals) (formals_at a d.name) a) (sites (tree.call (tree.called d.name (exprs d.actuals))) a)
            refl refl refl (w.finds blocks a s);
      })
