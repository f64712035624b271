-- Statements of each form.
use Rattle.std.proofs.Common.{◌≡◌, ℕ, ◌+◌, ◌<◌, Bool, true, false, List, [], ◌∷◌, ◌++◌, length, drop, get_or, drop-cons, Option, Some, None, refl, ap, sym, ◌∙◌, subst, add-one, suc, append-nil}
use Rattle.std.specs.List.{flat_map}
use Rattle.std.specs.Prelude.{not, is_some}
use Rattle.std.specs.declared.boxed.Box.{Box}
use Rattle.std.specs.declared.alloc.Global.{Global}
use Rattle.algol_tree.specs.declared.token.Spot.{Spot}
use Rattle.algol_tree.specs.declared.tree.Named.{Named}
use Rattle.b67_deeds.specs.declared.EventAct.{EventAct}
use Rattle.algol_tree.specs.declared.tree.EventName.{EventName}
use Rattle.algol_tree.specs.declared.tree.PhraseText.{PhraseText}
use Rattle.algol_tree.specs.declared.refusal.Code.TheVariants as codes
use Rattle.algol_tree.specs.declared.refusal.Fault.{Fault}
use Rattle.algol_tree.specs.declared.tree.Stmt.{Stmt}
use Rattle.algol_tree.specs.declared.tree.Expr.{Expr}
use Rattle.algol_tree.specs.declared.tree.Call.{Call}
use Rattle.algol_tree.specs.declared.tree.Variable.{Variable}
use Rattle.algol_tree.specs.Plain as tree
use Rattle.algol_tree.specs.Plain.{PExpr, PExprs, PStmt, PStmts, PBody}
use Rattle.algol_tree.specs.Image.{expr, exprs, stmt, stmts, call, variable, branched}
use Rattle.algol_tree.specs.Blocks.{Block, blocks_in_stmts}
use Rattle.algol_tree.specs.Surroundings.{Surroundings, declared_as, formals_at}
use Rattle.algol_tree.specs.Sites.{Site, here_stmt, inside_list, inside_actuals, sites, sites_in_stmts}
use Rattle.algol_tree.specs.Sorts.{Declared}
use Rattle.algol_tree.specs.Cells.{cells_at}
use Rattle.algol_tree.specs.Couples.{Known, known_at, known_by}
use Rattle.algol_tree.specs.Names.{if_so}
use Rattle.algol_tree.specs.Accepted.{broken}
use Rattle.algol_tree.proofs.Images.{call_is, variable_is}
use Rattle.algol_scope.specs.declared.resolver.Resolver.{Resolver}
use Rattle.algol_scope.specs.Noting.{at_name, faults_at, process_parts}
use Rattle.algol_scope.specs.Stating.{Visits, no_blocks, stmt_parts, stmt_blocks}
use Rattle.algol_scope.proofs.Visiting.{visits_then, visits_as, visits_none}

-- ---- statements with no statement in them

pub visits_assign : (old one two new : Resolver) (v : Variable) (e : Expr) (listed : Bool) → Visits old one (λ blocks a. at_name v.name a ∷ []) no_blocks →
    Visits one two (λ blocks. inside_list (exprs v.subs)) no_blocks → Visits two new (λ blocks. sites (expr e)) no_blocks →
    Visits old new (stmt_parts (tree.assign (variable v) (expr e)) listed) no_blocks
visits_assign old one two new v e listed x y z =
    let P : tree.PVariable → Type 0 = λ w. Visits old new (stmt_parts (tree.assign w (expr e)) listed) no_blocks in
    subst P (sym (variable_is v))
    (visits_as old new (λ blocks a. at_name v.name a ∷ (inside_list (exprs v.subs) a ++ sites (expr e) a))
    (stmt_parts (tree.assign (tree.subscripted v.name (exprs v.subs)) (expr e)) listed) no_blocks no_blocks (λ blocks a. refl) (λ blocks a. refl)
    (λ blocks a. refl) (λ spots. refl)
    (visits_then old one new (λ blocks a. at_name v.name a ∷ []) (λ blocks a. inside_list (exprs v.subs) a ++ sites (expr e) a) no_blocks no_blocks x
    (visits_then one two new (λ blocks. inside_list (exprs v.subs)) (λ blocks. sites (expr e)) no_blocks no_blocks y z)))

pub visits_call : (old new : Resolver) (c : Call) (listed : Bool) →
    Visits old new (λ blocks a. at_name c.name a ∷ inside_actuals (exprs c.actuals) (formals_at a c.name) a) no_blocks →
    Visits old new (stmt_parts (tree.call_of (call c)) listed) no_blocks
visits_call old new c listed x =
    let P : tree.PCall → Type 0 = λ w. Visits old new (stmt_parts (tree.call_of w) listed) no_blocks in
    subst P (sym (call_is c))
    (visits_as old new (λ blocks a. at_name c.name a ∷ inside_actuals (exprs c.actuals) (formals_at a c.name) a)
    (stmt_parts (tree.call_of (tree.called c.name (exprs c.actuals))) listed) no_blocks no_blocks (λ blocks a. refl) (λ blocks a. refl) (λ blocks a. refl)
    (λ spots. refl) x)

pub visits_write : (old mid new : Resolver) (n : Named) (es : PExprs) (listed : Bool) (spot : Spot) (ps : List PhraseText) →
    Visits old mid (λ blocks a. at_name n a ∷ []) no_blocks → Visits mid new (λ blocks. inside_list es) no_blocks →
    Visits old new (stmt_parts (tree.write n spot ps es) listed) no_blocks
visits_write old mid new n es listed spot ps x y =
    visits_as old new (λ blocks a. at_name n a ∷ inside_list es a) (stmt_parts (tree.write n spot ps es) listed) no_blocks no_blocks (λ blocks a. refl)
    (λ blocks a. refl) (λ blocks a. refl) (λ spots. refl)
    (visits_then old mid new (λ blocks a. at_name n a ∷ []) (λ blocks. inside_list es) no_blocks no_blocks x y)

pub visits_counting : (old one two three new : Resolver) (v : Named) (x y z : PExpr) (s : PStmt) (listed : Bool) →
    Visits old one (λ blocks a. at_name v a ∷ []) no_blocks → Visits one two (λ blocks. sites x) no_blocks → Visits two three (λ blocks. sites y) no_blocks →
    Visits three new (λ blocks. sites z) no_blocks →
    Visits old new (λ blocks a. here_stmt (tree.for v x y z s) listed a ∷ (sites x a ++ sites y a ++ sites z a)) no_blocks
visits_counting old one two three new v x y z s listed p q r t =
    visits_as old new (λ blocks a. (at_name v a ∷ (sites x a ++ sites y a)) ++ sites z a)
    (λ blocks a. here_stmt (tree.for v x y z s) listed a ∷ (sites x a ++ sites y a ++ sites z a)) no_blocks no_blocks (λ blocks a. refl) (λ blocks a. refl)
    (λ blocks a. refl) (λ spots. refl)
    (visits_then old three new (λ blocks a. at_name v a ∷ (sites x a ++ sites y a)) (λ blocks. sites z) no_blocks no_blocks
    (visits_then old one three (λ blocks a. at_name v a ∷ []) (λ blocks a. sites x a ++ sites y a) no_blocks no_blocks p
    (visits_then one two three (λ blocks. sites x) (λ blocks. sites y) no_blocks no_blocks q r))
    t)

-- ---- PROCESS: the names of the procedure and of the task

two_unknown : (x y : Bool) (s t : Spot) (rest : List Fault) →
    broken codes.UnknownName (if_so x s ++ (if_so y t ++ [])) ++ rest ≡ broken codes.UnknownName (if_so x s ++ []) ++ (broken codes.UnknownName (if_so y t ++ []) ++ rest)
two_unknown true true s t rest = refl
two_unknown true false s t rest = refl
two_unknown false true s t rest = refl
two_unknown false false s t rest = refl

two_known : (x y : Option Declared) (s t : Spot) (rest : List Known) →
    (known_by s x ++ (known_by t y ++ [])) ++ rest ≡ (known_by s x ++ []) ++ ((known_by t y ++ []) ++ rest)
two_known None None s t rest = refl
two_known None (Some y) s t rest = refl
two_known (Some x) None s t rest = refl
two_known (Some x) (Some y) s t rest = refl

process_faults : (blocks : List Block) (n : Named) (task : Option Named) (es : PExprs) (listed : Bool) (a : Surroundings) →
    flat_map (faults_at blocks) (process_parts n task es a) ≡ flat_map (faults_at blocks) (stmt_parts (tree.process (tree.called n es) task) listed blocks a)
process_faults blocks n None es listed a = refl
process_faults blocks n (Some t) es listed a =
    let rest : List Fault = flat_map (faults_at blocks) (inside_actuals es (formals_at a n) a) in
    let x : Bool = not (is_some (declared_as a n)) in
    let y : Bool = not (is_some (declared_as a t)) in
    ap (λ z. z ++ ((broken codes.UnknownName (if_so y t.spot ++ []) ++ []) ++ rest)) (append-nil (broken codes.UnknownName (if_so x n.spot ++ [])))
    ∙ ap (λ z. broken codes.UnknownName (if_so x n.spot ++ []) ++ (z ++ rest)) (append-nil (broken codes.UnknownName (if_so y t.spot ++ [])))
    ∙ sym (two_unknown x y n.spot t.spot rest)
    ∙ sym (ap (λ z. z ++ rest) (append-nil (broken codes.UnknownName (if_so x n.spot ++ (if_so y t.spot ++ [])))))

process_known : (blocks : List Block) (n : Named) (task : Option Named) (es : PExprs) (listed : Bool) (a : Surroundings) →
    flat_map (known_at blocks) (process_parts n task es a) ≡ flat_map (known_at blocks) (stmt_parts (tree.process (tree.called n es) task) listed blocks a)
process_known blocks n None es listed a = refl
process_known blocks n (Some t) es listed a =
    sym (two_known (declared_as a n) (declared_as a t) n.spot t.spot (flat_map (known_at blocks) (inside_actuals es (formals_at a n) a)))

process_cells : (blocks : List Block) (n : Named) (task : Option Named) (es : PExprs) (listed : Bool) (a : Surroundings) →
    flat_map (cells_at blocks) (process_parts n task es a) ≡ flat_map (cells_at blocks) (stmt_parts (tree.process (tree.called n es) task) listed blocks a)
process_cells blocks n None es listed a = refl
process_cells blocks n (Some t) es listed a = refl

pub visits_process : (old new : Resolver) (c : Call) (task : Option Named) (listed : Bool) →
    Visits old new (λ blocks. process_parts c.name task (exprs c.actuals)) no_blocks → Visits old new (stmt_parts (tree.process (call c) task) listed) no_blocks
visits_process old new c task listed x =
    let P : tree.PCall → Type 0 = λ w. Visits old new (stmt_parts (tree.process w task) listed) no_blocks in
    subst P (sym (call_is c))
    (visits_as old new (λ blocks. process_parts c.name task (exprs c.actuals)) (stmt_parts (tree.process (tree.called c.name (exprs c.actuals)) task) listed)
    no_blocks no_blocks (λ blocks a. process_faults blocks c.name task (exprs c.actuals) listed a)
    (λ blocks a. process_cells blocks c.name task (exprs c.actuals) listed a) (λ blocks a. process_known blocks c.name task (exprs c.actuals) listed a)
    (λ spots. refl) x)

-- ---- statements with statements in them

pub visits_labelled : (old mid new : Resolver) (n : Named) (s : PStmt) (listed : Bool) → Visits old mid (λ blocks a. at_name n a ∷ []) no_blocks →
    Visits mid new (stmt_parts s listed) (stmt_blocks s) → Visits old new (stmt_parts (tree.label n s) listed) (stmt_blocks s)
visits_labelled old mid new n s listed x y =
    visits_as old new (λ blocks a. at_name n a ∷ stmt_parts s listed blocks a) (stmt_parts (tree.label n s) listed) (stmt_blocks s) (stmt_blocks s)
    (λ blocks a. refl) (λ blocks a. refl) (λ blocks a. refl) (λ spots. refl)
    (visits_then old mid new (λ blocks a. at_name n a ∷ []) (stmt_parts s listed) no_blocks (stmt_blocks s) x y)

pub visits_guarded : (old mid new : Resolver) (c : PExpr) (s : PStmt) → Visits old mid (λ blocks. sites c) no_blocks →
    Visits mid new (stmt_parts s false) (stmt_blocks s) → Visits old new (λ blocks a. sites c a ++ stmt_parts s false blocks a) (stmt_blocks s)
visits_guarded old mid new c s x y = visits_then old mid new (λ blocks. sites c) (stmt_parts s false) no_blocks (stmt_blocks s) x y

pub visits_until : (old mid new : Resolver) (s : PStmt) (c : PExpr) (listed : Bool) → Visits old mid (stmt_parts s false) (stmt_blocks s) →
    Visits mid new (λ blocks. sites c) no_blocks → Visits old new (stmt_parts (tree.until s c) listed) (stmt_blocks s)
visits_until old mid new s c listed x y =
    visits_as old new (λ blocks a. stmt_parts s false blocks a ++ sites c a) (stmt_parts (tree.until s c) listed) (λ spots. stmt_blocks s spots ++ [])
    (stmt_blocks s) (λ blocks a. refl) (λ blocks a. refl) (λ blocks a. refl) (λ spots. append-nil (stmt_blocks s spots))
    (visits_then old mid new (stmt_parts s false) (λ blocks. sites c) (stmt_blocks s) no_blocks x y)

pub visits_while : (old new : Resolver) (c : PExpr) (s : PStmt) (listed : Bool) →
    Visits old new (λ blocks a. sites c a ++ stmt_parts s false blocks a) (stmt_blocks s) → Visits old new (stmt_parts (tree.while c s) listed) (stmt_blocks (tree.while c s))
visits_while old new c s listed x =
    visits_as old new (λ blocks a. sites c a ++ stmt_parts s false blocks a) (stmt_parts (tree.while c s) listed) (stmt_blocks s) (stmt_blocks s)
    (λ blocks a. refl) (λ blocks a. refl) (λ blocks a. refl) (λ spots. refl) x

pub visits_thru : (old new : Resolver) (c : PExpr) (s : PStmt) (listed : Bool) →
    Visits old new (λ blocks a. sites c a ++ stmt_parts s false blocks a) (stmt_blocks s) → Visits old new (stmt_parts (tree.thru c s) listed) (stmt_blocks (tree.thru c s))
visits_thru old new c s listed x =
    visits_as old new (λ blocks a. sites c a ++ stmt_parts s false blocks a) (stmt_parts (tree.thru c s) listed) (stmt_blocks s) (stmt_blocks s)
    (λ blocks a. refl) (λ blocks a. refl) (λ blocks a. refl) (λ spots. refl) x

pub visits_then_only : (old new : Resolver) (c : PExpr) (s : PStmt) (b : Option (Box Stmt Global)) (listed : Bool) → b ≡ None →
    Visits old new (λ blocks a. sites c a ++ stmt_parts s false blocks a) (stmt_blocks s) →
    Visits old new (stmt_parts (branched c s b) listed) (stmt_blocks (branched c s b))
visits_then_only old new c s b listed h x =
    let P : Option (Box Stmt Global) → Type 0 = λ z. Visits old new (stmt_parts (branched c s z) listed) (stmt_blocks (branched c s z)) in
    subst P (sym h)
    (visits_as old new (λ blocks a. sites c a ++ stmt_parts s false blocks a) (stmt_parts (tree.if_then c s) listed) (stmt_blocks s) (stmt_blocks s)
    (λ blocks a. refl) (λ blocks a. refl) (λ blocks a. refl) (λ spots. refl) x)

pub visits_else : (old mid new : Resolver) (c : PExpr) (x y : PStmt) (listed : Bool) → Visits old mid (λ blocks a. sites c a ++ stmt_parts x false blocks a) (stmt_blocks x) →
    Visits mid new (stmt_parts y false) (stmt_blocks y) → Visits old new (stmt_parts (tree.if_else c x y) listed) (stmt_blocks (tree.if_else c x y))
visits_else old mid new c x y listed v w =
    visits_as old new (λ blocks a. (sites c a ++ stmt_parts x false blocks a) ++ stmt_parts y false blocks a) (stmt_parts (tree.if_else c x y) listed)
    (λ spots. stmt_blocks x spots ++ stmt_blocks y spots) (stmt_blocks (tree.if_else c x y))
    (λ blocks a. refl) (λ blocks a. refl) (λ blocks a. refl) (λ spots. refl)
    (visits_then old mid new (λ blocks a. sites c a ++ stmt_parts x false blocks a) (stmt_parts y false) (stmt_blocks x) (stmt_blocks y) v w)

pub visits_branches : (old mid new : Resolver) (c : PExpr) (x : PStmt) (b : Option (Box Stmt Global)) (box : Box Stmt Global) (y : Stmt) (listed : Bool) → b ≡ Some box → y ≡ box.value →
    Visits old mid (λ blocks a. sites c a ++ stmt_parts x false blocks a) (stmt_blocks x) → Visits mid new (stmt_parts (stmt y) false) (stmt_blocks (stmt y)) →
    Visits old new (stmt_parts (branched c x b) listed) (stmt_blocks (branched c x b))
visits_branches old mid new c x b box y listed h k v w =
    let P : Option (Box Stmt Global) → Type 0 = λ z. Visits old new (stmt_parts (branched c x z) listed) (stmt_blocks (branched c x z)) in
    let Q : Stmt → Type 0 = λ z. Visits mid new (stmt_parts (stmt z) false) (stmt_blocks (stmt z)) in
    subst P (sym h) (visits_else old mid new c x (stmt box.value) listed v (subst Q k w))

pub visits_for : (old mid new : Resolver) (v : Named) (x y z : PExpr) (s : PStmt) (listed : Bool) →
    Visits old mid (λ blocks a. here_stmt (tree.for v x y z s) listed a ∷ (sites x a ++ sites y a ++ sites z a)) no_blocks →
    Visits mid new (stmt_parts s false) (stmt_blocks s) → Visits old new (stmt_parts (tree.for v x y z s) listed) (stmt_blocks s)
visits_for old mid new v x y z s listed u w =
    visits_as old new (λ blocks a. here_stmt (tree.for v x y z s) listed a ∷ ((sites x a ++ sites y a ++ sites z a) ++ stmt_parts s false blocks a))
    (stmt_parts (tree.for v x y z s) listed) (stmt_blocks s) (stmt_blocks s)
    (λ blocks a. refl) (λ blocks a. refl) (λ blocks a. refl)
    (λ spots. refl)
    (visits_then old mid new (λ blocks a. here_stmt (tree.for v x y z s) listed a ∷ (sites x a ++ sites y a ++ sites z a)) (stmt_parts s false) no_blocks (stmt_blocks s) u w)

pub visits_case : (old mid new : Resolver) (e : PExpr) (ss : PStmts) (listed : Bool) → Visits old mid (λ blocks. sites e) no_blocks →
    Visits mid new (λ blocks. sites_in_stmts blocks ss false) (blocks_in_stmts ss) → Visits old new (stmt_parts (tree.case e ss) listed) (blocks_in_stmts ss)
visits_case old mid new e ss listed x y =
    visits_as old new (λ blocks a. sites e a ++ sites_in_stmts blocks ss false a) (stmt_parts (tree.case e ss) listed) (blocks_in_stmts ss) (blocks_in_stmts ss)
    (λ blocks a. refl) (λ blocks a. refl) (λ blocks a. refl) (λ spots. refl)
    (visits_then old mid new (λ blocks. sites e) (λ blocks. sites_in_stmts blocks ss false) no_blocks (blocks_in_stmts ss) x y)

pub visits_go_to : (old new : Resolver) (n : Named) (listed : Bool) → Visits old new (λ blocks a. at_name n a ∷ []) no_blocks →
    Visits old new (stmt_parts (tree.go_to n) listed) no_blocks
visits_go_to old new n listed x =
    visits_as old new (λ blocks a. at_name n a ∷ []) (stmt_parts (tree.go_to n) listed) no_blocks no_blocks (λ blocks a. refl) (λ blocks a. refl)
    (λ blocks a. refl) (λ spots. refl) x

pub visits_event : (old new : Resolver) (act : EventAct) (e : EventName) (listed : Bool) → Visits old new (λ blocks a. at_name e.name a ∷ []) no_blocks →
    Visits old new (stmt_parts (tree.event act e) listed) no_blocks
visits_event old new act e listed x =
    visits_as old new (λ blocks a. at_name e.name a ∷ []) (stmt_parts (tree.event act e) listed) no_blocks no_blocks (λ blocks a. refl) (λ blocks a. refl)
    (λ blocks a. refl) (λ spots. refl) x

-- ---- a list of statements

-- a walk that has come so far: with the rest it goes through all
pub record Heads (old now : Resolver) (all : List Block → Surroundings → List Site) (inner : List Spot → List Block) (rest : List Block → Surroundings → List Site)
    (left : List Spot → List Block) : Type 0 where
  pub heads : (last : Resolver) → Visits now last rest left → Visits old last all inner

pub heads_start : (old : Resolver) (ss items : List Stmt) (listed : Bool) → items ≡ ss →
    Heads old old (λ blocks. sites_in_stmts blocks (stmts ss) listed) (blocks_in_stmts (stmts ss)) (λ blocks. sites_in_stmts blocks (stmts items) listed)
    (blocks_in_stmts (stmts items))
heads_start old ss items listed e =
    let P : List Stmt → Type 0 =
    λ z. Heads old old (λ blocks. sites_in_stmts blocks (stmts ss) listed) (blocks_in_stmts (stmts ss)) (λ blocks. sites_in_stmts blocks (stmts z) listed) (blocks_in_stmts (stmts z)) in
    subst P (sym e) (record { heads = λ last v. v })

pub heads_item : (old now new : Resolver) (all : List Block → Surroundings → List Site) (inner : List Spot → List Block) (ss : List Stmt) (i : ℕ) (s : Stmt) (listed : Bool) →
    i < length ss → s ≡ get_or ss i s →
    Heads old now all inner (λ blocks. sites_in_stmts blocks (stmts (drop i ss)) listed) (blocks_in_stmts (stmts (drop i ss))) →
    Visits now new (stmt_parts (stmt s) listed) (stmt_blocks (stmt s)) →
    Heads old new all inner (λ blocks. sites_in_stmts blocks (stmts (drop (i + 1) ss)) listed) (blocks_in_stmts (stmts (drop (i + 1) ss)))
heads_item old now new all inner ss i s listed h same l v =
    rw add-one
    (let at : drop i ss ≡ s ∷ drop (suc i) ss = drop-cons ss i s h ∙ ap (λ z. z ∷ drop (suc i) ss) (sym same) in
    let P : List Stmt → Type 0 = λ z. Heads old now all inner (λ blocks. sites_in_stmts blocks (stmts z) listed) (blocks_in_stmts (stmts z)) in
    let moved : P (s ∷ drop (suc i) ss) = subst P at l in
    record {
      heads =
          λ last w.
          moved.heads last
          (visits_then now new last (stmt_parts (stmt s) listed) (λ blocks. sites_in_stmts blocks (stmts (drop (suc i) ss)) listed) (stmt_blocks (stmt s))
          (blocks_in_stmts (stmts (drop (suc i) ss))) v w);
    })

pub heads_end : (old now : Resolver) (all : List Block → Surroundings → List Site) (inner : List Spot → List Block) (ss : List Stmt) (listed : Bool) → ss ≡ [] →
    Heads old now all inner (λ blocks. sites_in_stmts blocks (stmts ss) listed) (blocks_in_stmts (stmts ss)) → Visits old now all inner
heads_end old now all inner ss listed h l =
    let P : List Stmt → Type 0 = λ z. Heads old now all inner (λ blocks. sites_in_stmts blocks (stmts z) listed) (blocks_in_stmts (stmts z)) in
    let moved : P [] = subst P h l in
    moved.heads now (visits_none now)

-- ---- the statement that this is

pub visits_of : (old new : Resolver) (s : Stmt) (p : PStmt) → stmt s ≡ p → ((listed : Bool) → Visits old new (stmt_parts p listed) (stmt_blocks p)) →
    (listed : Bool) → Visits old new (stmt_parts (stmt s) listed) (stmt_blocks (stmt s))
visits_of old new s p e h listed =
    let P : PStmt → Type 0 = λ z. Visits old new (stmt_parts z listed) (stmt_blocks z) in subst P (sym e) (h listed)
