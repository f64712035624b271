-- Walks over statements and declarations, by their shapes.
use Rattle.std.proofs.Common.{rules, ◌≡◌, ℕ, ◌+◌, ◌<◌, ◌≤◌, List, [], ◌∷◌, ◌++◌, length, drop, get_or, map, Bool, true, false, Option, Some, None, refl, ap, sym, ◌∙◌, subst, arith}
use Rattle.std.specs.Prelude.{not, ◌==◌, option_copied}
use Rattle.std.specs.Borrow.{Bor}
use Rattle.std.specs.declared.boxed.Box.{Box}
use Rattle.std.specs.declared.alloc.Global.{Global}
use Rattle.algol_tree.specs.declared.tree.Body.{Body}
use Rattle.algol_tree.specs.declared.tree.Call.{Call}
use Rattle.algol_tree.specs.declared.tree.Decl.{Decl}
use Rattle.algol_tree.specs.declared.tree.Decl as decls'
use Rattle.algol_tree.specs.declared.tree.Decl.TheVariants as declared
use Rattle.algol_tree.specs.declared.token.Spot.{Spot}
use Rattle.b67_deeds.specs.declared.EventAct.{EventAct}
use Rattle.algol_tree.specs.declared.tree.EventName.{EventName}
use Rattle.algol_tree.specs.declared.tree.Expr.{Expr}
use Rattle.algol_tree.specs.declared.tree.Heading.{Heading}
use Rattle.algol_tree.specs.declared.tree.Kind.{Kind}
use Rattle.algol_tree.specs.declared.tree.Kind.TheVariants as kinds
use Rattle.algol_tree.specs.declared.tree.Named.{Named}
use Rattle.algol_tree.specs.declared.tree.Pair.{Pair}
use Rattle.algol_tree.specs.declared.tree.PhraseText.{PhraseText}
use Rattle.algol_tree.specs.declared.tree.Variable.{Variable}
use Rattle.algol_tree.specs.declared.tree.Stmt.{Stmt}
use Rattle.algol_tree.specs.declared.tree.Stmt as stmts'
use Rattle.algol_tree.specs.declared.tree.Stmt.TheVariants as shapes
use Rattle.algol_tree.specs.Image.{body, call, decl, decls, expr, exprs, pairs, stmt, stmts, variable}
use Rattle.algol_tree.specs.Plain as tree
use Rattle.algol_tree.specs.Plain.{PBody, PDecl, PDecls, PExpr, PStmt, PStmts}
use Rattle.algol_tree.specs.Blocks.{Begin, of_statement, of_procedure, Block}
use Rattle.algol_tree.specs.Surroundings.{Surroundings, body_of}
use Rattle.algol_tree.specs.Sites.{has_decls, sites_in_pairs}
use Rattle.algol_tree.specs.Accepted.{noted_all}
use Rattle.algol_tree.proofs.Images.{assign_is, block_is, body_is, call_of_is, decl_of_events, decl_of_files, decl_of_labels, decl_of_tasks, empty_is, event_is, for_is, forward_is, go_to_is, if_else_is, label_is, procedure_is, process_is, simple_is, stmt_of_if_then, stmt_of_thru, stmt_of_until, stmt_of_while, write_is}
use Rattle.algol_frames.specs.declared.scopes.Scopes.{Scopes}
use Rattle.algol_told.specs.Telling.{TellsAll}
use Rattle.algol_sites.specs.declared.place.Place.{Place}
use Rattle.algol_sites.specs.Headings.{forward_site, missing, referring}
use Rattle.algol_sites.specs.Noting.{noted_along, noted_at}
use Rattle.b67_list.proofs.Lists.{drop_past, drop_read}
use Rattle.algol_check.specs.declared.checker.Checker.{Checker}
use Rattle.algol_check.specs.Walking.{IsCounted, IsTyped, WalksBody, WalksGuarded, WalksStmt, WalksStmts}
use Rattle.algol_check.specs.Announced.{bodies_for, body_at, body_for}
use Rattle.algol_check.specs.Declaring.{PlaceEnters, EntersProcedure, BlockOpens, WalksDecl, WalksDecls, decls_in}
use Rattle.algol_check.proofs.Bodied.{arrays_walk, body_walks, decls_end, decls_more, forward_walks, labels_walk, procedure_walks, quiet_walks}
use Rattle.algol_check.proofs.Bodies.{announced_at}
use Rattle.algol_check.proofs.Stated.{block_walks, case_walks, empty_walks, for_walks, if_else_walks, if_then_walks, stmts_end, stmts_more, thru_walks, until_walks, while_walks}

-- ---- what holds where nothing fails

-- ---- the plain trees

case_is : (e : Expr) (ss : List Stmt) → stmt (shapes.Case e ss) ≡ tree.case (expr e) (stmts ss)
case_is e ss = search (rules, stmts'.the_lemmas)

-- ---- lists

-- a body has declarations where its list is not empty
pub listed_as : (ds : List Decl) (n : ℕ) → n ≡ length ds → not (n == 0) ≡ has_decls (decls ds)
listed_as [] n e = ap (λ (k : ℕ). not (k == 0)) e
listed_as (d ∷ ds) n e = ap (λ (k : ℕ). not (k == 0)) e ∙ (let h : (length (d ∷ ds) == 0) ≡ false = grind arith in ap not h)

-- ---- the plain trees of declarations and of statements without statements in them

arrays_is : (kind : Kind) (ns : List Named) (ps : List Pair) → decl (declared.Arrays kind ns ps) ≡ tree.arrays kind ns (pairs ps)
arrays_is kind ns ps = search (rules, decls'.the_lemmas)

pub announced_here : (ds es : List Decl) (i : ℕ) (d : Decl) (body' : Option (Bor Heading)) (slice items : List (Option (Bor Heading))) → i < length ds → d ≡ get_or ds i d →
    option_copied body' ≡ body_at (map option_copied slice) i → slice ≡ items → map option_copied items ≡ bodies_for (decls es) → es ≡ ds →
    body_for (decl d) (decls (drop (i + 1) ds)) ≡ option_copied body'
announced_here ds es i d body' slice items h e f s b q =
    sym (announced_at ds i d h e) ∙ ap (λ (xs : List Decl). body_at (bodies_for (decls xs)) i) (sym q) ∙ ap (λ os. body_at os i) (sym b)
    ∙ ap (λ (xs : List (Option (Bor Heading))). body_at (map option_copied xs) i) (sym s) ∙ sym f

module _ (scopes : Scopes) where
  -- ---- the same in other words

  pub stmt_as : (c d : Checker) (s : Stmt) (p : PStmt) (begin : Begin) (listed : Bool) → stmt s ≡ p → WalksStmt scopes c d p begin listed → WalksStmt scopes c d (stmt s) begin listed
  stmt_as c d s p begin listed e w = let P : PStmt → Type 0 = λ x. WalksStmt scopes c d x begin listed in subst P (sym e) w

  pub inner_as : (c d : Checker) (s : Stmt) (x : Box Stmt Global) (begin : Begin) (listed : Bool) → s ≡ x.value → WalksStmt scopes c d (stmt s) begin listed →
      WalksStmt scopes c d (stmt x.value) begin listed
  inner_as c d s x begin listed e w = let P : Stmt → Type 0 = λ y. WalksStmt scopes c d (stmt y) begin listed in subst P e w

  -- after a change of the faults only
  pub after_faults : (c d e : Checker) (s : PStmt) (begin : Begin) (listed : Bool) → d ≡ record c { faults = d.faults } → WalksStmt scopes d e s begin listed →
      WalksStmt scopes (record c { faults = d.faults }) e s begin listed
  after_faults c d e s begin listed r w = let P : Checker → Type 0 = λ x. WalksStmt scopes x e s begin listed in subst P r w

  -- ---- statements

  pub label_arm : (s : Stmt) (n : Named) (x : Box Stmt Global) (y : Stmt) (c d : Checker) (begin : Begin) (listed : Bool) → s ≡ shapes.Label n x → y ≡ x.value →
      WalksStmt scopes c d (tree.label n (stmt y)) begin listed → WalksStmt scopes c d (stmt s) begin listed
  label_arm s n x y c d begin listed is inner w =
      stmt_as c d s (tree.label n (stmt y)) begin listed (ap stmt is ∙ label_is n x ∙ ap (λ (z : Stmt). tree.label n (stmt z)) (sym inner)) w

  opens_alike : (opened : Bool) (p q r : Place) → BlockOpens opened p q → r.block ≡ q.block → r.around.items ≡ q.around.items → BlockOpens opened p r
  opens_alike true p q r h b o = o ∙ h
  opens_alike false p q r h b o = (b ∙ h.0, o ∙ h.1)

  pub block_ends : (b : Body) (c d e g : Checker) (opened : Bool) (begin : Begin) (listed : Bool) →
      d ≡ record c { place = d.place } → BlockOpens opened c.place d.place → PlaceEnters c.place d.place (body b) begin → WalksBody scopes d e (body b) → g ≡ record e { place = g.place } →
      ((before : Place) → BlockOpens opened before e.place → (g.place.block ≡ before.block) × (g.place.around.items ≡ before.around.items)) →
      WalksStmt scopes c g (tree.block (body b)) begin listed
  block_ends b c d e g opened begin listed r o en w u ends =
      let ended = ends c.place (opens_alike opened c.place d.place e.place o w.stays.block w.stays.outer) in
      let P : Checker → Type 0 = λ x. WalksBody scopes x e (body b) in
      let Q : Checker → Type 0 = λ x. WalksStmt scopes c x (tree.block (body b)) begin listed in
      subst Q (sym u) (block_walks scopes c d.place e g.place (body b) begin listed en (subst P r w) ended.0 ended.1)

  pub block_arm : (s : Stmt) (b : Body) (c d : Checker) (begin : Begin) (listed : Bool) → s ≡ shapes.Block b → WalksStmt scopes c d (tree.block (body b)) begin listed →
      WalksStmt scopes c d (stmt s) begin listed
  block_arm s b c d begin listed is w = stmt_as c d s (tree.block (body b)) begin listed (ap stmt is ∙ block_is b) w

  pub if_then_arm : (s : Stmt) (e : Expr) (x : Box Stmt Global) (o : Option (Box Stmt Global)) (y : Stmt) (c d : Checker) (begin : Begin) (listed : Bool) →
      s ≡ shapes.If e x o → o ≡ None → y ≡ x.value → WalksGuarded scopes c d kinds.Truth (expr e) (stmt y) → WalksStmt scopes c d (stmt s) begin listed
  if_then_arm s e x o y c d begin listed is none inner g =
      stmt_as c d s (tree.if_then (expr e) (stmt x.value)) begin listed (ap stmt (is ∙ ap (shapes.If e x) none) ∙ stmt_of_if_then e x)
      (if_then_walks scopes c d g.faults (expr e) (stmt x.value) begin listed g.typed (inner_as (record c { faults = g.faults }) d y x of_statement false inner g.walks))

  pub if_else_arm : (s : Stmt) (e : Expr) (x : Box Stmt Global) (o : Option (Box Stmt Global)) (y : Box Stmt Global) (v w : Stmt) (c d f : Checker)
      (begin : Begin) (listed : Bool) → s ≡ shapes.If e x o → o ≡ Some y → v ≡ x.value → w ≡ y.value → WalksGuarded scopes c d kinds.Truth (expr e) (stmt v) →
      WalksStmt scopes d f (stmt w) of_statement false → WalksStmt scopes c f (stmt s) begin listed
  if_else_arm s e x o y v w c d f begin listed is some first second g n =
      stmt_as c f s (tree.if_else (expr e) (stmt x.value) (stmt y.value)) begin listed (ap stmt (is ∙ ap (shapes.If e x) some) ∙ if_else_is e x y)
      (if_else_walks scopes c d f g.faults (expr e) (stmt x.value) (stmt y.value) begin listed g.typed
      (inner_as (record c { faults = g.faults }) d v x of_statement false first g.walks) (inner_as d f w y of_statement false second n))

  pub while_arm : (s : Stmt) (e : Expr) (x : Box Stmt Global) (y : Stmt) (c d : Checker) (begin : Begin) (listed : Bool) →
      s ≡ shapes.While e x → y ≡ x.value → WalksGuarded scopes c d kinds.Truth (expr e) (stmt y) → WalksStmt scopes c d (stmt s) begin listed
  while_arm s e x y c d begin listed is inner g =
      stmt_as c d s (tree.while (expr e) (stmt x.value)) begin listed (ap stmt is ∙ stmt_of_while e x)
      (while_walks scopes c d g.faults (expr e) (stmt x.value) begin listed g.typed (inner_as (record c { faults = g.faults }) d y x of_statement false inner g.walks))

  pub thru_arm : (s : Stmt) (e : Expr) (x : Box Stmt Global) (y : Stmt) (c d : Checker) (begin : Begin) (listed : Bool) →
      s ≡ shapes.Thru e x → y ≡ x.value → WalksGuarded scopes c d kinds.Number (expr e) (stmt y) → WalksStmt scopes c d (stmt s) begin listed
  thru_arm s e x y c d begin listed is inner g =
      stmt_as c d s (tree.thru (expr e) (stmt x.value)) begin listed (ap stmt is ∙ stmt_of_thru e x)
      (thru_walks scopes c d g.faults (expr e) (stmt x.value) begin listed g.typed (inner_as (record c { faults = g.faults }) d y x of_statement false inner g.walks))

  pub until_ends : (s : PStmt) (e : PExpr) (c d f : Checker) (begin : Begin) (listed : Bool) → WalksStmt scopes c d s of_statement false → f ≡ record d { faults = f.faults } →
      IsTyped scopes d f.faults kinds.Truth e → WalksStmt scopes c f (tree.until s e) begin listed
  until_ends s e c d f begin listed w r t =
      let P : Checker → Type 0 = λ x. WalksStmt scopes c x (tree.until s e) begin listed in subst P (sym r) (until_walks scopes c d f.faults s e begin listed w t)

  pub until_arm : (s : Stmt) (x : Box Stmt Global) (e : Expr) (y : Stmt) (c d : Checker) (begin : Begin) (listed : Bool) →
      s ≡ shapes.Until x e → y ≡ x.value → WalksStmt scopes c d (tree.until (stmt y) (expr e)) begin listed → WalksStmt scopes c d (stmt s) begin listed
  until_arm s x e y c d begin listed is inner w =
      stmt_as c d s (tree.until (stmt y) (expr e)) begin listed
      (ap stmt is ∙ stmt_of_until x e ∙ ap (λ (z : Stmt). tree.until (stmt z) (expr e)) (sym inner)) w

  pub for_ends : (v : Named) (x s l : PExpr) (b : PStmt) (c d e : Checker) (begin : Begin) (listed : Bool) → d ≡ record c { faults = d.faults } →
      IsCounted scopes c d.faults v x s l → WalksStmt scopes d e b of_statement false → WalksStmt scopes c e (tree.for v x s l b) begin listed
  for_ends v x s l b c d e begin listed r h w = for_walks scopes c e d.faults v x s l b begin listed h (after_faults c d e b of_statement false r w)

  pub for_arm : (s : Stmt) (v : Named) (a' b' l : Expr) (x : Box Stmt Global) (y : Stmt) (c d : Checker) (begin : Begin) (listed : Bool) →
      s ≡ shapes.For v a' b' l x → y ≡ x.value → WalksStmt scopes c d (tree.for v (expr a') (expr b') (expr l) (stmt y)) begin listed → WalksStmt scopes c d (stmt s) begin listed
  for_arm s v a' b' l x y c d begin listed is inner w =
      stmt_as c d s (tree.for v (expr a') (expr b') (expr l) (stmt y)) begin listed
      (ap stmt is ∙ for_is v a' b' l x ∙ ap (λ (z : Stmt). tree.for v (expr a') (expr b') (expr l) (stmt z)) (sym inner)) w

  -- the rest of the cases was walked after the number
  pub case_ends : (e : PExpr) (ss : PStmts) (c d f : Checker) (begin : Begin) (listed : Bool) → d ≡ record c { faults = d.faults } → IsTyped scopes c d.faults kinds.Number e →
      WalksStmts scopes d f ss false → WalksStmt scopes c f (tree.case e ss) begin listed
  case_ends e ss c d f begin listed r t w =
      let P : Checker → Type 0 = λ x. WalksStmts scopes x f ss false in case_walks scopes c f d.faults e ss begin listed t (subst P r w)

  pub case_arm : (s : Stmt) (e : Expr) (ss us : List Stmt) (c d : Checker) (begin : Begin) (listed : Bool) →
      s ≡ shapes.Case e ss → us ≡ ss → WalksStmt scopes c d (tree.case (expr e) (stmts us)) begin listed → WalksStmt scopes c d (stmt s) begin listed
  case_arm s e ss us c d begin listed is same w =
      stmt_as c d s (tree.case (expr e) (stmts us)) begin listed (ap stmt is ∙ case_is e ss ∙ ap (λ (xs : List Stmt). tree.case (expr e) (stmts xs)) (sym same)) w

  -- ---- lists of statements

  -- What is walked from here through the rest is walked from the start through all.
  abbrev pub Remains : Checker → Checker → List Stmt → List Stmt → Bool → Type 0
  Remains start now all rest listed = (end : Checker) → WalksStmts scopes now end (stmts rest) listed → WalksStmts scopes start end (stmts all) listed

  pub remains_all : (c : Checker) (ss ts : List Stmt) (listed : Bool) → ts ≡ ss → Remains c c ss (drop 0 ts) listed
  remains_all c ss ts listed e = λ end w. let P : List Stmt → Type 0 = λ xs. WalksStmts scopes c end (stmts xs) listed in subst P e w

  pub remains_less : (start now next : Checker) (all ss : List Stmt) (i : ℕ) (s : Stmt) (listed : Bool) → i < length ss → s ≡ get_or ss i s → WalksStmt scopes now next (stmt s) of_statement listed →
      Remains start now all (drop i ss) listed → Remains start next all (drop (i + 1) ss) listed
  remains_less start now next all ss i s listed h e w r = λ end v.
      let P : List Stmt → Type 0 = λ xs. WalksStmts scopes now end (stmts xs) listed in
      r end (subst P (sym (drop_read ss i s h e)) (stmts_more scopes now next end (stmt s) (stmts (drop (i + 1) ss)) listed w v))

  pub remains_none : (start now : Checker) (all ss : List Stmt) (i : ℕ) (listed : Bool) → length ss ≤ i → Remains start now all (drop i ss) listed → WalksStmts scopes start now (stmts all) listed
  remains_none start now all ss i listed h r =
      let P : List Stmt → Type 0 = λ xs. WalksStmts scopes now now (stmts xs) listed in r now (subst P (sym (drop_past ss i h)) (stmts_end scopes now listed))

  pub stmts_as : (c d : Checker) (us ss : List Stmt) (x y : Bool) → us ≡ ss → x ≡ y → WalksStmts scopes c d (stmts us) x → WalksStmts scopes c d (stmts ss) y
  stmts_as c d us ss x y e k w =
      let P : List Stmt → Type 0 = λ zs. WalksStmts scopes c d (stmts zs) x in
      let Q : Bool → Type 0 = λ z. WalksStmts scopes c d (stmts ss) z in
      subst Q k (subst P e w)

  -- ---- statements without statements in them

  pub empty_arm : (s : Stmt) (c : Checker) (begin : Begin) (listed : Bool) → s ≡ shapes.Empty → WalksStmt scopes c c (stmt s) begin listed
  empty_arm s c begin listed is = stmt_as c c s tree.empty begin listed (ap stmt is ∙ empty_is) (empty_walks scopes c begin listed)

  pub assign_arm : (s : Stmt) (v : Variable) (e : Expr) (c d : Checker) (begin : Begin) (listed : Bool) → s ≡ shapes.Assign v e →
      WalksStmt scopes c d (tree.assign (variable v) (expr e)) begin listed → WalksStmt scopes c d (stmt s) begin listed
  assign_arm s v e c d begin listed is w = stmt_as c d s (tree.assign (variable v) (expr e)) begin listed (ap stmt is ∙ assign_is v e) w

  pub call_arm : (s : Stmt) (k : Call) (c d : Checker) (begin : Begin) (listed : Bool) → s ≡ shapes.Call k →
      WalksStmt scopes c d (tree.call_of (call k)) begin listed → WalksStmt scopes c d (stmt s) begin listed
  call_arm s k c d begin listed is w = stmt_as c d s (tree.call_of (call k)) begin listed (ap stmt is ∙ call_of_is k) w

  pub go_to_arm : (s : Stmt) (n : Named) (c d : Checker) (begin : Begin) (listed : Bool) → s ≡ shapes.GoTo n →
      WalksStmt scopes c d (tree.go_to n) begin listed → WalksStmt scopes c d (stmt s) begin listed
  go_to_arm s n c d begin listed is w = stmt_as c d s (tree.go_to n) begin listed (ap stmt is ∙ go_to_is n) w

  pub process_arm : (s : Stmt) (k : Call) (task : Option Named) (c d : Checker) (begin : Begin) (listed : Bool) → s ≡ shapes.Process k task →
      WalksStmt scopes c d (tree.process (call k) task) begin listed → WalksStmt scopes c d (stmt s) begin listed
  process_arm s k task c d begin listed is w = stmt_as c d s (tree.process (call k) task) begin listed (ap stmt is ∙ process_is k task) w

  pub event_arm : (s : Stmt) (act : EventAct) (e : EventName) (c d : Checker) (begin : Begin) (listed : Bool) → s ≡ shapes.Event act e →
      WalksStmt scopes c d (tree.event act e) begin listed → WalksStmt scopes c d (stmt s) begin listed
  event_arm s act e c d begin listed is w = stmt_as c d s (tree.event act e) begin listed (ap stmt is ∙ event_is act e) w

  pub write_arm : (s : Stmt) (n : Named) (spot : Spot) (ps qs : List PhraseText) (es fs : List Expr) (c d : Checker) (begin : Begin) (listed : Bool) → s ≡ shapes.Write n spot ps es →
      qs ≡ ps → fs ≡ es → WalksStmt scopes c d (tree.write n spot qs (exprs fs)) begin listed → WalksStmt scopes c d (stmt s) begin listed
  write_arm s n spot ps qs es fs c d begin listed is p e w =
      stmt_as c d s (tree.write n spot qs (exprs fs)) begin listed
      (ap stmt is ∙ write_is n spot ps es ∙ ap (λ xs. tree.write n spot xs (exprs es)) (sym p) ∙ ap (λ (xs : List Expr). tree.write n spot qs (exprs xs)) (sym e)) w

  -- ---- lists of declarations

  abbrev pub RemainsDecls : Checker → Checker → List Decl → List Decl → Type 0
  RemainsDecls start now all rest = (end : Checker) → WalksDecls scopes now end (decls rest) → WalksDecls scopes start end (decls all)

  pub decls_remain : (c : Checker) (ds es : List Decl) → es ≡ ds → RemainsDecls c c ds (drop 0 es)
  decls_remain c ds es e = λ end w. let P : List Decl → Type 0 = λ xs. WalksDecls scopes c end (decls xs) in subst P e w

  pub decls_less : (start now next : Checker) (all ds : List Decl) (i : ℕ) (d : Decl) → i < length ds → d ≡ get_or ds i d →
      WalksDecl scopes now next (decl d) (decls (drop (i + 1) ds)) → RemainsDecls start now all (drop i ds) → RemainsDecls start next all (drop (i + 1) ds)
  decls_less start now next all ds i d h e w r = λ end v.
      let P : List Decl → Type 0 = λ xs. WalksDecls scopes now end (decls xs) in
      r end (subst P (sym (drop_read ds i d h e)) (decls_more scopes now next end (decl d) (decls (drop (i + 1) ds)) w v))

  decls_none : (start now : Checker) (all ds : List Decl) (i : ℕ) → length ds ≤ i → RemainsDecls start now all (drop i ds) → WalksDecls scopes start now (decls all)
  decls_none start now all ds i h r =
      let P : List Decl → Type 0 = λ xs. WalksDecls scopes now now (decls xs) in r now (subst P (sym (drop_past ds i h)) (decls_end scopes now))

  -- ---- declarations

  decl_as : (c d : Checker) (x : Decl) (p : PDecl) (later : PDecls) → decl x ≡ p → WalksDecl scopes c d p later → WalksDecl scopes c d (decl x) later
  decl_as c d x p later e w = let P : PDecl → Type 0 = λ y. WalksDecl scopes c d y later in subst P (sym e) w

  pub simple_arm : (x : Decl) (kind : Kind) (ns : List Named) (c : Checker) (later : PDecls) → x ≡ declared.Simple kind ns → WalksDecl scopes c c (decl x) later
  simple_arm x kind ns c later is =
      decl_as c c x (tree.simple kind ns) later (ap decl is ∙ simple_is kind ns) (quiet_walks scopes c (tree.simple kind ns) later (λ blocks a first. (refl, (refl, refl))))

  pub files_arm : (x : Decl) (ns : List Named) (c : Checker) (later : PDecls) → x ≡ declared.Files ns → WalksDecl scopes c c (decl x) later
  files_arm x ns c later is =
      decl_as c c x (tree.files ns) later (ap decl is ∙ decl_of_files ns) (quiet_walks scopes c (tree.files ns) later (λ blocks a first. (refl, (refl, refl))))

  pub events_arm : (x : Decl) (ns : List Named) (c : Checker) (later : PDecls) → x ≡ declared.Events ns → WalksDecl scopes c c (decl x) later
  events_arm x ns c later is =
      decl_as c c x (tree.events ns) later (ap decl is ∙ decl_of_events ns) (quiet_walks scopes c (tree.events ns) later (λ blocks a first. (refl, (refl, refl))))

  pub tasks_arm : (x : Decl) (ns : List Named) (c : Checker) (later : PDecls) → x ≡ declared.Tasks ns → WalksDecl scopes c c (decl x) later
  tasks_arm x ns c later is =
      decl_as c c x (tree.tasks ns) later (ap decl is ∙ decl_of_tasks ns) (quiet_walks scopes c (tree.tasks ns) later (λ blocks a first. (refl, (refl, refl))))

  pub labels_arm : (x : Decl) (ns ms : List Named) (c d : Checker) (later : PDecls) → x ≡ declared.Labels ns → ms ≡ ns → d ≡ record c { labels = d.labels } →
      d.labels.items ≡ c.labels.items ++ map (λ (n : Named). n.spot) ms → WalksDecl scopes c d (decl x) later
  labels_arm x ns ms c d later is e r l =
      decl_as c d x (tree.labels ms) later (ap decl is ∙ decl_of_labels ns ∙ ap (λ (xs : List Named). tree.labels xs) (sym e)) (labels_walk scopes c d ms later r l)

  pub arrays_arm : (x : Decl) (kind : Kind) (ns : List Named) (ps qs : List Pair) (c d : Checker) (later : PDecls) → x ≡ declared.Arrays kind ns ps → qs ≡ ps →
      d ≡ record c { faults = d.faults } →
      ((blocks : List Block) (a : Surroundings) → TellsAll scopes (sites_in_pairs (pairs qs) a) →
      d.faults.first ≡ noted_along blocks c.faults.first (sites_in_pairs (pairs qs) a)) → WalksDecl scopes c d (decl x) later
  arrays_arm x kind ns ps qs c d later is q r h =
      decl_as c d x (tree.arrays kind ns (pairs qs)) later
      (ap decl is ∙ arrays_is kind ns ps ∙ ap (λ (xs : List Pair). tree.arrays kind ns (pairs xs)) (sym q)) (arrays_walk scopes c d kind ns (pairs qs) later r h)

  pub forward_arm : (x : Decl) (h : Heading) (o : Option Heading) (c d : Checker) (later : PDecls) → x ≡ declared.Forward h → d ≡ record c { faults = d.faults } →
      body_for (decl x) later ≡ o →
      ((blocks : List Block) (a : Surroundings) (later' : PDecls) → body_of h.name.name later' ≡ o → d.faults.first ≡ noted_at blocks c.faults.first (forward_site h later' a)) →
      WalksDecl scopes c d (decl x) later
  forward_arm x h o c d later is r e n =
      let announced : body_of h.name.name later ≡ o = sym (ap (λ (p : PDecl). body_for p later) (ap decl is ∙ forward_is h)) ∙ e in
      decl_as c d x (tree.forward h) later (ap decl is ∙ forward_is h) (forward_walks scopes c d h later r (λ blocks a. n blocks a later announced))

  pub procedure_ends : (h : Heading) (s : PStmt) (c d e f g : Checker) (later : PDecls) → d ≡ record c { faults = d.faults } →
      d.faults.first ≡ noted_all (noted_all c.faults.first (missing h.specs h.params)) (referring h.specs h.values) →
      e ≡ record d { place = e.place } → EntersProcedure d.place e.place h → WalksStmt scopes e f s of_procedure false → g ≡ record f { place = g.place } →
      ((before : Place) → f.place.around.items ≡ before.around.items ++ before.block ∷ [] → (g.place.block ≡ before.block) × (g.place.around.items ≡ before.around.items)) →
      WalksDecl scopes c g (tree.procedure h s) later
  procedure_ends h s c d e f g later r n t en w u p =
      let placed = p d.place (w.stays.outer ∙ en.outer) in
      procedure_walks scopes c d e f g h s later r n t en w u placed.0 placed.1

  pub procedure_arm : (x : Decl) (h : Heading) (s : Box Stmt Global) (y : Stmt) (c d : Checker) (later : PDecls) → x ≡ declared.Procedure h s → y ≡ s.value →
      WalksDecl scopes c d (tree.procedure h (stmt y)) later → WalksDecl scopes c d (decl x) later
  procedure_arm x h s y c d later is inner w =
      decl_as c d x (tree.procedure h (stmt y)) later (ap decl is ∙ procedure_is h s ∙ ap (λ (z : Stmt). tree.procedure h (stmt z)) (sym inner)) w

  -- ---- bodies

  pub body_arm : (b : Body) (c d e : Checker) (ds : List Decl) (i : ℕ) → ds ≡ b.decls → length ds ≤ i → RemainsDecls c d ds (drop i ds) →
      WalksStmts scopes d e (stmts b.stmts) (has_decls (decls_in (body b))) → WalksBody scopes c e (body b)
  body_arm b c d e ds i p hi rd walked =
      let P : Bool → Type 0 = λ x. WalksStmts scopes d e (stmts b.stmts) x in
      let is_listed : has_decls (decls_in (body b)) ≡ has_decls (decls ds) =
      ap (λ (x : PBody). has_decls (decls_in x)) (body_is b) ∙ ap (λ (xs : List Decl). has_decls (decls xs)) (sym p) in
      let Q : PBody → Type 0 = λ x. WalksBody scopes c e x in
      let same : body b ≡ tree.body b.spot (decls ds) (stmts b.stmts) = body_is b ∙ ap (λ (xs : List Decl). tree.body b.spot (decls xs) (stmts b.stmts)) (sym p) in
      subst Q (sym same) (body_walks scopes c d e b.spot (decls ds) (stmts b.stmts) (decls_none c d ds ds i hi rd) (subst P is_listed walked))
