-- The labels that the blocks of a text declare, as they are gathered from each form of statement as it is matched.
use Rattle.std.proofs.Common.{rules, ◌≡◌, ℕ, ◌+◌, ◌≤◌, Bool, true, false, List, [], ◌∷◌, ◌++◌, length, refl, sym, ap, ◌∙◌, subst, append_assoc, append-nil, arith}
use Rattle.std.specs.Prelude.{◌==◌, Option, None, Some, map}
use Rattle.std.specs.List.{AllByRecursion}
use Rattle.std.specs.declared.boxed.Box.{Box}
use Rattle.std.specs.declared.alloc.Global.{Global}
use Rattle.std.proofs.lemmas.Bool.{ne_eqb}
use Rattle.std.proofs.lemmas.List.{map-append}
use Rattle.algol_tree.specs.declared.token.Spot.{Spot}
use Rattle.algol_tree.specs.declared.tree.Body.{Body}
use Rattle.algol_tree.specs.declared.tree.Decl.{Decl, out-Decl, roll-Decl, roll-out-Decl, the_lemmas}
use Rattle.algol_tree.specs.declared.tree.Decl.TheOpen.{Decl-F}
use Rattle.algol_tree.specs.declared.tree.Decl.TheVariants as declarations
use Rattle.algol_tree.specs.declared.tree.Expr.{Expr}
use Rattle.algol_tree.specs.declared.tree.Named.{Named}
use Rattle.algol_tree.specs.declared.tree.Stmt.{Stmt}
use Rattle.algol_tree.specs.declared.tree.Stmt.TheVariants as shapes
use Rattle.algol_tree.specs.Blocks.{number_at}
use Rattle.algol_tree.specs.Image.{decl, decls, expr, stmt, stmts}
use Rattle.algol_tree.specs.Plain as tree
use Rattle.algol_tree.specs.Plain.{PStmt, PStmts, PDecl, PDecls}
use Rattle.b67_ops.specs.declared.TheConstants.{MOST_LEVEL, OUTER_LEVEL}
use Rattle.b67_templates.specs.Labels.{labels_in}
use Rattle.b67_emit_stmt.specs.declared.draft.Known.{Known}
use Rattle.b67_emit_stmt.specs.Fits.{EmittedStmtFits, EmittedStmtsFit}
use Rattle.b67_emit_stmt.specs.Places.{Place, inside}
use Rattle.b67_emit_stmt.proofs.Gathered.{if_then_as}
use Rattle.b67_emit_stmt.proofs.Shapes.{block_as, if_else_as}
use Rattle.algol_scope.proofs.Bodies.{labels_is}
use Rattle.b67_list.proofs.Lists.{each_both}
use Rattle.b67_emit_text.specs.declared.entries.Declared.{Declared}
use Rattle.b67_emit_text.specs.Entries.{AreLow, AllLow, DeclaredLabel, IsLeveled, entries_in_stmt, entries_in_stmts, entries_of, entry_of, own_entries}

-- first those of one part, and then those of another
pub joined : (old mid new xs ys all : List DeclaredLabel) → all ≡ xs ++ ys → mid ≡ old ++ xs → new ≡ mid ++ ys → new ≡ old ++ all
joined old mid new xs ys all are first second = second ∙ ap (λ (l : List DeclaredLabel). l ++ ys) first ∙ append_assoc old xs ys ∙ ap (λ (l : List DeclaredLabel). old ++ l) (sym are)

-- the same where others are left
pub carried : (old before after first rest all : List DeclaredLabel) → after ≡ before ++ first → before ++ (first ++ rest) ≡ old ++ all → after ++ rest ≡ old ++ all
carried old before after first rest all one h = ap (λ (l : List DeclaredLabel). l ++ rest) one ∙ append_assoc before first rest ∙ h

-- ---- blocks

same_there : (spot : Spot) (ds : List Decl) (ss : PStmts) (level : ℕ) → (length ds == 0) ≡ true →
    entries_in_stmt level (tree.block (tree.body spot (decls ds) ss)) ≡ entries_in_stmts level ss
same_there spot [] ss level h = refl
same_there spot (d ∷ ds) ss level h =
    let other : (length (d ∷ ds) == 0) ≡ false = ne_eqb (length (d ∷ ds)) 0 (λ e. omega arith) in
    absurd (let clash : true ≡ false = sym h ∙ other in cc)

more_there : (spot : Spot) (ds : List Decl) (ss : PStmts) (level : ℕ) → (length ds == 0) ≡ false →
    entries_in_stmt level (tree.block (tree.body spot (decls ds) ss)) ≡ entries_of (level + 1) (decls ds) ss
more_there spot [] ss level h = absurd (let clash : true ≡ false = h in cc)
more_there spot (d ∷ ds) ss level h = refl

low_same : (spot : Spot) (ds : List Decl) (ss : PStmts) (level : ℕ) → (length ds == 0) ≡ true → AreLow level (tree.block (tree.body spot (decls ds) ss)) → AllLow level ss
low_same spot [] ss level h low = low
low_same spot (d ∷ ds) ss level h low =
    let other : (length (d ∷ ds) == 0) ≡ false = ne_eqb (length (d ∷ ds)) 0 (λ e. omega arith) in
    absurd (let clash : true ≡ false = sym h ∙ other in cc)

low_more : (spot : Spot) (ds : List Decl) (ss : PStmts) (level : ℕ) → (length ds == 0) ≡ false → AreLow level (tree.block (tree.body spot (decls ds) ss)) →
    (level + 1 ≤ MOST_LEVEL) × AllLow (level + 1) ss
low_more spot [] ss level h low = absurd (let clash : true ≡ false = h in cc)
low_more spot (d ∷ ds) ss level h low = low

module _ (s : Stmt) (b : Body) (ss : List Stmt) (is : s ≡ shapes.Block b) (same : ss ≡ b.stmts) (level : ℕ) (t : Bool) (n : ℕ) (e : t ≡ (n == 0)) (m : n ≡ length b.decls) where
  tested : t ≡ (length b.decls == 0)
  tested = e ∙ ap (λ i. i == 0) m

  block_is : stmt s ≡ tree.block (tree.body b.spot (decls b.decls) (stmts ss))
  block_is = block_as s b ss is same

  low_there : AreLow level (stmt s) → AreLow level (tree.block (tree.body b.spot (decls b.decls) (stmts ss)))
  low_there low = let L : PStmt → Type 0 = λ x. AreLow level x in subst L block_is low

  pub compound_low : t ≡ true → AreLow level (stmt s) → AllLow level (stmts ss)
  compound_low h low = low_same b.spot b.decls (stmts ss) level (sym tested ∙ h) (low_there low)

  pub inner_low : t ≡ false → AreLow level (stmt s) → (level + 1 ≤ MOST_LEVEL) × AllLow (level + 1) (stmts ss)
  inner_low h low = low_more b.spot b.decls (stmts ss) level (sym tested ∙ h) (low_there low)

  pub compound_entries : t ≡ true → (old new : List DeclaredLabel) → new ≡ old ++ entries_in_stmts level (stmts ss) → new ≡ old ++ entries_in_stmt level (stmt s)
  compound_entries h old new k =
      k ∙ ap (λ (l : List DeclaredLabel). old ++ l) (sym (ap (entries_in_stmt level) block_is ∙ same_there b.spot b.decls (stmts ss) level (sym tested ∙ h)))

  pub inner_entries : t ≡ false → (ds : List Decl) → ds ≡ b.decls → (old new : List DeclaredLabel) → new ≡ old ++ entries_of (level + 1) (decls ds) (stmts ss) →
      new ≡ old ++ entries_in_stmt level (stmt s)
  inner_entries h ds are old new k =
      k ∙ ap (λ (l : List Decl). old ++ entries_of (level + 1) (decls l) (stmts ss)) are
      ∙ ap (λ (l : List DeclaredLabel). old ++ l) (sym (ap (entries_in_stmt level) block_is ∙ more_there b.spot b.decls (stmts ss) level (sym tested ∙ h)))

-- an IF with both branches
pub both_entries : (s p q : Stmt) (e : Expr) (x : Box Stmt Global) (o : Option (Box Stmt Global)) (y : Box Stmt Global) → s ≡ shapes.If e x o → o ≡ Some y → p ≡ x.value →
    q ≡ y.value → (level : ℕ) (old mid new : List DeclaredLabel) → mid ≡ old ++ entries_in_stmt level (stmt p) → new ≡ mid ++ entries_in_stmt level (stmt q) →
    new ≡ old ++ entries_in_stmt level (stmt s)
both_entries s p q e x o y is some first second level old mid new h k =
    joined old mid new (entries_in_stmt level (stmt p)) (entries_in_stmt level (stmt q)) (entries_in_stmt level (stmt s))
    (ap (entries_in_stmt level) (if_else_as s p q e x o y is some first second)) h k

-- ---- a statement that has what another has, or nothing

pub low_as : (level : ℕ) (p q : PStmt) → p ≡ q → AreLow level p → AreLow level q
low_as level p q is low = let L : PStmt → Type 0 = λ x. AreLow level x in subst L is low

pub entries_as : (level : ℕ) (p q : PStmt) → p ≡ q → (old new : List DeclaredLabel) → new ≡ old ++ entries_in_stmt level q → new ≡ old ++ entries_in_stmt level p
entries_as level p q is old new h = h ∙ ap (λ (x : PStmt). old ++ entries_in_stmt level x) (sym is)

pub entries_none : (level : ℕ) (p q : PStmt) → p ≡ q → entries_in_stmt level q ≡ [] → (old : List DeclaredLabel) → old ≡ old ++ entries_in_stmt level p
entries_none level p q is none old = sym (append-nil old) ∙ ap (λ (l : List DeclaredLabel). old ++ l) (sym (ap (entries_in_stmt level) is ∙ none))

pub both_low : (s p q : Stmt) (e : Expr) (x : Box Stmt Global) (o : Option (Box Stmt Global)) (y : Box Stmt Global) → s ≡ shapes.If e x o → o ≡ Some y → p ≡ x.value →
    q ≡ y.value → (level : ℕ) → AreLow level (stmt s) → AreLow level (stmt p) × AreLow level (stmt q)
both_low s p q e x o y is some first second level low = let L : PStmt → Type 0 = λ z. AreLow level z in subst L (if_else_as s p q e x o y is some first second) low

pub first_low : (s p : Stmt) (e : Expr) (x : Box Stmt Global) (o : Option (Box Stmt Global)) → s ≡ shapes.If e x o → p ≡ x.value → (level : ℕ) → AreLow level (stmt s) → AreLow level (stmt p)
first_low s p e x o is first level low = by o is
  where
    by : (o : Option (Box Stmt Global)) → s ≡ shapes.If e x o → AreLow level (stmt p)
    by None is = low_as level (stmt s) (tree.if_then (expr e) (stmt p)) (if_then_as s e x None p is refl first) low
    by (Some y) is = (both_low s p y.value e x (Some y) y is refl first refl level low).0

-- one more is gathered
pub pushed_there : (old mid : List Declared) (d : Declared) → mid ≡ old ++ (d ∷ []) → map entry_of mid ≡ map entry_of old ++ (entry_of d ∷ [])
pushed_there old mid d h = ap (map entry_of) h ∙ map-append entry_of old (d ∷ [])

-- ---- declarations

pub labels_more : (d : Decl) (left rest : List Decl) (ns : List Named) → left ≡ d ∷ rest → d ≡ declarations.Labels ns → labels_in (decls left) ≡ ns ++ labels_in (decls rest)
labels_more d left rest ns is labels = ap (λ (l : List Decl). labels_in (decls l)) is ∙ ap (λ (e : PDecl). labels_in (tree.decls e (decls rest))) (labels_is d ns labels)

none_more : (x : Decl-F Decl Stmt Body) (ds : PDecls) → ((ns : List Named) → roll-Decl x ≡ declarations.Labels ns → ⊥) → labels_in (tree.decls (decl (roll-Decl x)) ds) ≡ labels_in ds
none_more (Decl-F.Simple kind ns) ds other = search (rules, the_lemmas)
none_more (Decl-F.Files ns) ds other = search (rules, the_lemmas)
none_more (Decl-F.Events ns) ds other = search (rules, the_lemmas)
none_more (Decl-F.Tasks ns) ds other = search (rules, the_lemmas)
none_more (Decl-F.Labels ns) ds other = absurd (other ns (declarations.rolls-Labels ns))
none_more (Decl-F.Arrays kind ns pairs) ds other = search (rules, the_lemmas)
none_more (Decl-F.Forward h) ds other = search (rules, the_lemmas)
none_more (Decl-F.Procedure h s) ds other = search (rules, the_lemmas)

pub labels_same : (d : Decl) (left rest : List Decl) → left ≡ d ∷ rest → ((ns : List Named) → d ≡ declarations.Labels ns → ⊥) → labels_in (decls left) ≡ labels_in (decls rest)
labels_same d left rest is other =
    ap (λ (l : List Decl). labels_in (decls l)) is ∙ ap (λ (e : Decl). labels_in (tree.decls (decl e) (decls rest))) (sym (roll-out-Decl d))
    ∙ none_more (out-Decl d) (decls rest) (λ ns e. other ns (sym (roll-out-Decl d) ∙ e))

-- entries of some names, and of others
pub own_both : (level : ℕ) (ss : PStmts) (ms ns : List Named) → own_entries level ss (ms ++ ns) ≡ own_entries level ss ms ++ own_entries level ss ns
own_both level ss [] ns = refl
own_both level ss (m ∷ ms) ns = ap (λ (l : List DeclaredLabel). record { level = level; name = m; stmts = ss } ∷ l) (own_both level ss ms ns)

-- ---- levels

-- what fits is low
module _ (s : Known) (sc : Place) where
  abbrev at : ℕ → Place
  at block = inside block sc

  mutual
    pub fit_low : (level block : ℕ) (x : PStmt) → EmittedStmtFits (at block) s level x → AreLow level x
    fit_low level block tree.empty fit = tt
    fit_low level block (tree.label n x) fit = fit_low level block x fit.1
    fit_low level block (tree.assign v e) fit = tt
    fit_low level block (tree.call_of c) fit = tt
    fit_low level block (tree.go_to n) fit = tt
    fit_low level block (tree.block (tree.body spot tree.no_decls ss)) fit = fit_all_low level block ss fit
    fit_low level block (tree.block (tree.body spot (tree.decls d ds) ss)) fit = (fit.0.0, fit_all_low (level + 1) (number_at sc.scopes.blocks spot) ss fit.4)
    fit_low level block (tree.if_then c x) fit = fit_low level block x fit.1
    fit_low level block (tree.if_else c x y) fit = (fit_low level block x fit.1, fit_low level block y fit.2)
    fit_low level block (tree.while c b) fit = fit_low level block b fit.1
    fit_low level block (tree.until b c) fit = fit_low level block b fit.0
    fit_low level block (tree.for v a t l b) fit = fit_low level block b fit.4
    fit_low level block (tree.thru e b) fit = fit_low level block b fit.1
    fit_low level block (tree.case e ss) fit = fit_all_low level block ss fit.1
    fit_low level block (tree.process c task) fit = tt
    fit_low level block (tree.event act e) fit = tt
    fit_low level block (tree.write n spot phrases es) fit = tt

    pub fit_all_low : (level block : ℕ) (xs : PStmts) → EmittedStmtsFit (at block) s level xs → AllLow level xs
    fit_all_low level block tree.no_stmts fit = tt
    fit_all_low level block (tree.stmts x xs) fit = (fit_low level block x fit.0, fit_all_low level block xs fit.1)

own_leveled : (level : ℕ) (ss : PStmts) (ns : List Named) → OUTER_LEVEL ≤ level → level ≤ MOST_LEVEL → AllByRecursion IsLeveled (own_entries level ss ns)
own_leveled level ss [] outer most = tt
own_leveled level ss (n ∷ ns) outer most = ((outer, most), own_leveled level ss ns outer most)

mutual
  stmt_leveled : (level : ℕ) (x : PStmt) → OUTER_LEVEL ≤ level → level ≤ MOST_LEVEL → AreLow level x → AllByRecursion IsLeveled (entries_in_stmt level x)
  stmt_leveled level tree.empty outer most low = tt
  stmt_leveled level (tree.label n x) outer most low = stmt_leveled level x outer most low
  stmt_leveled level (tree.assign v e) outer most low = tt
  stmt_leveled level (tree.call_of c) outer most low = tt
  stmt_leveled level (tree.go_to n) outer most low = tt
  stmt_leveled level (tree.block (tree.body spot tree.no_decls ss)) outer most low = stmts_leveled level ss outer most low
  stmt_leveled level (tree.block (tree.body spot (tree.decls d ds) ss)) outer most low =
      each_both IsLeveled (own_entries (level + 1) ss (labels_in (tree.decls d ds))) (entries_in_stmts (level + 1) ss)
      (own_leveled (level + 1) ss (labels_in (tree.decls d ds)) (omega (arith, outer)) low.0) (stmts_leveled (level + 1) ss (omega (arith, outer)) low.0 low.1)
  stmt_leveled level (tree.if_then c x) outer most low = stmt_leveled level x outer most low
  stmt_leveled level (tree.if_else c x y) outer most low =
      each_both IsLeveled (entries_in_stmt level x) (entries_in_stmt level y) (stmt_leveled level x outer most low.0) (stmt_leveled level y outer most low.1)
  stmt_leveled level (tree.while c b) outer most low = stmt_leveled level b outer most low
  stmt_leveled level (tree.until b c) outer most low = stmt_leveled level b outer most low
  stmt_leveled level (tree.for v a t l b) outer most low = stmt_leveled level b outer most low
  stmt_leveled level (tree.thru e b) outer most low = stmt_leveled level b outer most low
  stmt_leveled level (tree.case e ss) outer most low = stmts_leveled level ss outer most low
  stmt_leveled level (tree.process c task) outer most low = tt
  stmt_leveled level (tree.event act e) outer most low = tt
  stmt_leveled level (tree.write n spot phrases es) outer most low = tt

  stmts_leveled : (level : ℕ) (xs : PStmts) → OUTER_LEVEL ≤ level → level ≤ MOST_LEVEL → AllLow level xs → AllByRecursion IsLeveled (entries_in_stmts level xs)
  stmts_leveled level tree.no_stmts outer most low = tt
  stmts_leveled level (tree.stmts x xs) outer most low =
      each_both IsLeveled (entries_in_stmt level x) (entries_in_stmts level xs) (stmt_leveled level x outer most low.0) (stmts_leveled level xs outer most low.1)

-- the levels of all entries of a text
pub entries_leveled : (level : ℕ) (ds : PDecls) (ss : PStmts) → OUTER_LEVEL ≤ level → level ≤ MOST_LEVEL → AllLow level ss → AllByRecursion IsLeveled (entries_of level ds ss)
entries_leveled level ds ss outer most low =
    each_both IsLeveled (own_entries level ss (labels_in ds)) (entries_in_stmts level ss) (own_leveled level ss (labels_in ds) outer most) (stmts_leveled level ss outer most low)
