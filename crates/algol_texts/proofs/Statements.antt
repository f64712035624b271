-- The text of each block of a program that breaks no rule keeps to it, and its calls fit: statement by statement, with the blocks in them.
use Rattle.std.proofs.Common.{◌≡◌, ℕ, ◌+◌, ◌≤◌, ◌==◌, ◌&&◌, not, Bool, true, false, List, [], ◌∷◌, ◌++◌, map, length, is_some, Option, Some, None, sym, ap, ◌∙◌, subst}
use Rattle.std.specs.List.{AllByRecursion}
use Rattle.algol_tree.specs.declared.TheConstants.{MOST_LEVEL}
use Rattle.algol_tree.specs.declared.token.Spot.{Spot}
use Rattle.algol_tree.specs.declared.tree.Named.{Named}
use Rattle.algol_tree.specs.Blocks.{Block, Begin, of_statement, of_procedure, decls_of, stmts_of, blocks_of, blocks_in_decl, blocks_in_decls, blocks_in_stmts, procedure_block, block_numbered, number_at, around}
use Rattle.algol_tree.specs.Cells.{level_of}
use Rattle.algol_tree.specs.Classes.{Class, is_label, is_procedure}
use Rattle.algol_tree.specs.Counted.{exprs_count}
use Rattle.algol_tree.specs.Names.{if_so}
use Rattle.algol_tree.specs.Plain as tree
use Rattle.algol_tree.specs.Plain.{PExprs, PStmt, PStmts, PDecl, PDecls}
use Rattle.algol_tree.specs.Scopes.{Scopes}
use Rattle.algol_tree.specs.Sites.{Site, sites, inside_list, inside_actuals, here_stmt, inside_stmt, inside_decl, sites_in_stmts, sites_in_decls, has_decls}
use Rattle.algol_tree.specs.Sorts.{Declared}
use Rattle.algol_tree.specs.Surroundings.{Surroundings, formals_at, knowing, knowing_all, inside_begin, inside_procedure}
use Rattle.algol_tree.specs.Types.{read_type}
use Rattle.algol_tree.proofs.Spots.{not_so}
use Rattle.algol_paths.specs.Blocks.{IsInner}
use Rattle.algol_calls.specs.Fits as fits
use Rattle.algol_calls.specs.Fits.{sorts_wanted, ActualsFit, has_variable}
use Rattle.algol_front_laws.specs.Uses.{use_by_name}
use Rattle.algol_told.proofs.Lists.{all_append, all_left, all_right}
use Rattle.b67_list.proofs.Lists.{append_none_left, append_none_right}
use Rattle.b67_list.proofs.Truths.{and_first}
use Rattle.algol_texts.proofs.Parameters.{HasParameter}
use Rattle.algol_texts.proofs.Good.{IsGood, AreGood}
use Rattle.algol_texts.proofs.Callees.{the_block, IsFine, AreFine, DeclaresCallee, AreCallees, are_callees}
use Rattle.algol_texts.proofs.Around.{HasAll, IsAround, knows_one, knows_all, enters, enters_procedure}
use Rattle.algol_texts.proofs.Uses.{label_is, its_known, name_right, seen, labelled}
use Rattle.algol_texts.proofs.Expressions.{wrong_by, counted_as, call_fits, event_in, in_expr, in_list, in_actuals}
use Rattle.algol_texts.proofs.Bounds.{AreEarly, early_inside, early_procedure, in_pairs}
use Rattle.algol_texts.proofs.Items.{InText, AllInText, HasBounds, HaveBounds, IsTextOf, is_text}
use Rattle.algol_texts.proofs.Lefts.{left_in, left_element, control_in, task_in}

abbrev IsNoBlock : PStmt → Type 0
IsNoBlock (tree.block b) = ⊥
IsNoBlock t = Unit {0}

-- the block of a BEGIN that is a statement
is_inner : (sc : Scopes) (spot : Spot) (outer : List Spot) (ds : PDecls) (ss : PStmts) → IsFine sc.blocks (the_block spot outer ds ss) → (j : ℕ) →
    map (number_at sc.blocks) outer ≡ j ∷ around sc.blocks j → IsInner sc j (tree.body spot ds ss)
is_inner sc spot outer ds ss f j e =
    record {
      known = f.there;
      around_is = ap (λ (z : Block). map (number_at sc.blocks) z.outer) f.it_is ∙ e;
      decls_are = ap (λ (z : Block). z.decls) f.it_is;
      stmts_are = ap (λ (z : Block). z.stmts) f.it_is;
      nameless = ap (λ (z : Block). z.name) f.it_is;
      parameters = ap (λ (z : Block). z.parameters) f.it_is;
      result = ap (λ (z : Block). z.result) f.it_is;
      low = subst (λ (z : Block). level_of z ≤ MOST_LEVEL) (sym f.it_is) f.low;
    }

module _ (sc : Scopes) where
  abbrev Fine : List Block → Type 0
  Fine bs = AreFine sc.blocks bs

  abbrev Good : List Site → Type 0
  Good xs = AreGood sc xs

  abbrev Texts : List Block → Type 0
  Texts bs = AllByRecursion (IsTextOf sc) bs

  abbrev stmt_sites : PStmt → Begin → Bool → Surroundings → List Site
  stmt_sites t begin listed a = here_stmt t listed a ∷ inside_stmt sc.blocks t begin listed a

  front : (xs ys : List Site) → Good (xs ++ ys) → Good xs
  front xs ys g = all_left (IsGood sc) xs ys g

  back : (xs ys : List Site) → Good (xs ++ ys) → Good ys
  back xs ys g = all_right (IsGood sc) xs ys g

  fine_front : (bs cs : List Block) → Fine (bs ++ cs) → Fine bs
  fine_front bs cs f = all_left (IsFine sc.blocks) bs cs f

  fine_back : (bs cs : List Block) → Fine (bs ++ cs) → Fine cs
  fine_back bs cs f = all_right (IsFine sc.blocks) bs cs f

  joined : (bs cs : List Block) → Texts bs → Texts cs → Texts (bs ++ cs)
  joined bs cs g h = all_append (IsTextOf sc) bs cs g h

  -- `j`: the block in which it stands. The body of a procedure is the text of the procedure's block.
  abbrev IsTextIn : Begin → ℕ → PStmt → Type 0
  IsTextIn of_statement j t = InText sc j t
  IsTextIn of_procedure j t = HaveBounds sc j (decls_of t) × AllInText sc j (stmts_of t)

  text_in : (begin : Begin) (j : ℕ) (t : PStmt) → IsNoBlock t → InText sc j t → IsTextIn begin j t
  text_in of_statement j t p i = i
  text_in of_procedure j (tree.block b) p i = absurd p
  text_in of_procedure j t p i = (tt, ((i.0, tt), (i.1, tt)))

  -- the place is at the begin of the procedure, whose block has the declarations of its body
  abbrev IsBegun : Begin → ℕ → PStmt → Surroundings → Type 0
  IsBegun of_statement j t a = Unit {0}
  IsBegun of_procedure j t a = AreEarly a.depth a.known × ((block_numbered sc.blocks j).decls ≡ decls_of t)

  -- the block of a BEGIN with declarations, at its begin
  begins : (j : ℕ) (outer : List Spot) (spot : Spot) (ds : PDecls) (ss : PStmts) (a : Surroundings) → IsFine sc.blocks (the_block spot outer ds ss) → IsAround sc.blocks j outer a →
      IsAround sc.blocks (number_at sc.blocks spot) (spot ∷ outer) (record { block = number_at sc.blocks spot; depth = a.depth + 1; known = a.known })
  begins j outer spot ds ss a f r =
      let none : HasAll sc.blocks a.known (number_at sc.blocks spot) =
      subst (λ (z : Block). AllByRecursion (HasParameter a.known (number_at sc.blocks spot)) z.parameters) (sym f.it_is) tt in
      enters sc.blocks j outer spot [] a f.there (ap (λ (z : Block). map (number_at sc.blocks) z.outer) f.it_is) tt none r

  abbrev untyped : Class → Bool
  untyped c = is_procedure c && not (is_some (read_type c))

  -- what a process runs
  started_fits : (j : ℕ) (outer : List Spot) (a : Surroundings) (r : IsAround sc.blocks j outer a) (n : Named) (es : PExprs) (task : Option Named) (listed : Bool) →
      IsGood sc (here_stmt (tree.process (tree.called n es) task) listed a) → Good (inside_actuals es (formals_at a n) a) → fits.IsCallee sc n × ActualsFit sc es (sorts_wanted sc n)
  started_fits j outer a r n es task listed g h =
      let u = g.uses.0 in
      let named = name_right sc j outer a r (use_by_name a n) n u untyped (append_none_left (wrong_by sc j outer a r untyped n) _ g.right) in
      call_fits sc j outer a r g.once n es u (and_first (is_procedure u.declared.class) (not (is_some (read_type u.declared.class))) named)
      (λ k c.
      let its : if_so (not (length k.params == exprs_count es)) n.spot ≡ [] = rw c at g.counted in
      counted_as (length k.params) (exprs_count es) (not_so (not (length k.params == exprs_count es)) n.spot its))
      h

  mutual
    in_stmt : (j : ℕ) (outer : List Spot) (a : Surroundings) (t : PStmt) (begin : Begin) (listed : Bool) → IsAround sc.blocks j outer a → IsBegun begin j t a → Good (stmt_sites t begin listed a) →
        Fine (blocks_of t begin outer) → IsTextIn begin j t × Texts (blocks_of t begin outer)
    in_stmt j outer a tree.empty g l r y h f = (text_in g j tree.empty tt (tt, tt), tt)
    in_stmt j outer a (tree.label n t) g l r y h f =
        let nested = in_stmt j outer a t of_statement l r tt h.1 f in
        (text_in g j (tree.label n t) tt nested.0, nested.1)
    in_stmt j outer a (tree.assign (tree.subscripted n tree.none) e) g l r y h f =
        let left = left_in sc j outer a r h.0.once n e l h.0 in
        let value = in_expr sc j outer a r h.0.once e h.1 in
        (text_in g j (tree.assign (tree.subscripted n tree.none) e) tt ((left.0, tt, value.0), (left.1, value.1)), tt)
    in_stmt j outer a (tree.assign (tree.subscripted n (tree.more x xs)) e) g l r y h f =
        let left = left_element sc j outer a r h.0.once n x xs e l h.0 in
        let subscripts = in_list sc j outer a r h.0.once (tree.more x xs) (front (inside_list (tree.more x xs) a) (sites e a) h.1) in
        let value = in_expr sc j outer a r h.0.once e (back (inside_list (tree.more x xs) a) (sites e a) h.1) in
        (text_in g j (tree.assign (tree.subscripted n (tree.more x xs)) e) tt ((left.0, subscripts.0, value.0), ((left.1, subscripts.1.0, subscripts.1.1), value.1)), tt)
    in_stmt j outer a (tree.call_of (tree.called n es)) g l r y h f =
        let u = h.0.uses.0 in
        let named = name_right sc j outer a r (use_by_name a n) n u is_procedure h.0.right in
        let fit =
        call_fits sc j outer a r h.0.once n es u named
        (λ k c.
        let its : if_so (not (length k.params == exprs_count es)) n.spot ≡ [] = rw c at h.0.counted in
        counted_as (length k.params) (exprs_count es) (not_so (not (length k.params == exprs_count es)) n.spot its))
        h.1 in
        (text_in g j (tree.call_of (tree.called n es)) tt ((seen sc j outer a r h.0.once n u, in_actuals sc j outer a r h.0.once es (formals_at a n) h.1), fit), tt)
    in_stmt j outer a (tree.go_to n) g l r y h f =
        let u = h.0.uses.0 in
        let its = its_known sc j outer a r (use_by_name a n) n u in
        let there = label_is sc.blocks u.declared.block u.declared.name u.declared.sort u.declared.class its.means (name_right sc j outer a r (use_by_name a n) n u is_label h.0.right) in
        (text_in g j (tree.go_to n) tt (seen sc j outer a r h.0.once n u, labelled sc j outer a r h.0.once n u there), tt)
    in_stmt j outer a (tree.block (tree.body spot tree.no_decls ss)) of_statement l r y h f = in_stmts j outer a ss false r h.1 f
    in_stmt j outer a (tree.block (tree.body spot (tree.decls d ds) ss)) of_statement l r y h f =
        let k = number_at sc.blocks spot in
        let inner : List Spot = spot ∷ outer in
        let c : Surroundings = inside_begin sc.blocks (tree.body spot (tree.decls d ds) ss) a in
        let after : Surroundings = knowing_all sc.blocks (tree.decls d ds) c in
        let declared = sites_in_decls sc.blocks (tree.decls d ds) c c.known in
        let stated = sites_in_stmts sc.blocks ss true after in
        let its : Block = the_block spot outer (tree.decls d ds) ss in
        let begun : IsAround sc.blocks k inner c = begins j outer spot (tree.decls d ds) ss a f.0 r in
        let fine_decls = fine_front (blocks_in_decls (tree.decls d ds) inner) (blocks_in_stmts ss inner) f.1 in
        let fine_stmts = fine_back (blocks_in_decls (tree.decls d ds) inner) (blocks_in_stmts ss inner) f.1 in
        let part = front declared stated h.1 in
        let called : AreCallees sc.blocks k (tree.decls d ds) =
        are_callees sc k inner begun.chain_is (tree.decls d ds) c c.known (λ name e. subst (λ (z : Block). has_variable z.decls name ≡ true) (sym f.0.it_is) e) fine_decls part in
        let bounds = in_decls k inner c (tree.decls d ds) c.known begun begun (early_inside sc j outer a r) called part fine_decls in
        let nested = in_stmts k inner after ss true (knows_all sc.blocks k inner (tree.decls d ds) c called begun) (back declared stated h.1) fine_stmts in
        ((is_inner sc spot outer (tree.decls d ds) ss f.0 j r.chain_is, tt), (is_text sc its f.0 bounds.0 nested.0, joined (blocks_in_decls (tree.decls d ds) inner) (blocks_in_stmts ss inner) bounds.1 nested.1))
    in_stmt j outer a (tree.block (tree.body spot ds ss)) of_procedure l r y h f =
        let after : Surroundings = knowing_all sc.blocks ds a in
        let declared = sites_in_decls sc.blocks ds a a.known in
        let stated = sites_in_stmts sc.blocks ss (has_decls ds) after in
        let fine_decls = fine_front (blocks_in_decls ds outer) (blocks_in_stmts ss outer) f in
        let fine_stmts = fine_back (blocks_in_decls ds outer) (blocks_in_stmts ss outer) f in
        let part = front declared stated h.1 in
        let called : AreCallees sc.blocks j ds =
        are_callees sc j outer r.chain_is ds a a.known (λ name e. subst (λ (z : PDecls). has_variable z name ≡ true) (sym y.1) e) fine_decls part in
        let bounds = in_decls j outer a ds a.known r r y.0 called part fine_decls in
        let nested = in_stmts j outer after ss (has_decls ds) (knows_all sc.blocks j outer ds a called r) (back declared stated h.1) fine_stmts in
        ((bounds.0, nested.0), joined (blocks_in_decls ds outer) (blocks_in_stmts ss outer) bounds.1 nested.1)
    in_stmt j outer a (tree.if_then c x) g l r y h f =
        let condition = in_expr sc j outer a r h.0.once c (front (sites c a) (stmt_sites x of_statement false a) h.1) in
        let nested = in_stmt j outer a x of_statement false r tt (back (sites c a) (stmt_sites x of_statement false a) h.1) f in
        (text_in g j (tree.if_then c x) tt ((condition.0, nested.0.0), (condition.1, nested.0.1)), nested.1)
    in_stmt j outer a (tree.if_else c x z) g l r y h f =
        let two = front (sites c a ++ stmt_sites x of_statement false a) (stmt_sites z of_statement false a) h.1 in
        let condition = in_expr sc j outer a r h.0.once c (front (sites c a) (stmt_sites x of_statement false a) two) in
        let first = in_stmt j outer a x of_statement false r tt (back (sites c a) (stmt_sites x of_statement false a) two) (fine_front (blocks_of x of_statement outer) (blocks_of z of_statement outer) f) in
        let other =
        in_stmt j outer a z of_statement false r tt (back (sites c a ++ stmt_sites x of_statement false a) (stmt_sites z of_statement false a) h.1)
        (fine_back (blocks_of x of_statement outer) (blocks_of z of_statement outer) f) in (
          text_in g j (tree.if_else c x z) tt ((condition.0, first.0.0, other.0.0), (condition.1, first.0.1, other.0.1)),
          joined (blocks_of x of_statement outer) (blocks_of z of_statement outer) first.1 other.1,
        )
    in_stmt j outer a (tree.while c x) g l r y h f =
        let condition = in_expr sc j outer a r h.0.once c (front (sites c a) (stmt_sites x of_statement false a) h.1) in
        let nested = in_stmt j outer a x of_statement false r tt (back (sites c a) (stmt_sites x of_statement false a) h.1) f in
        (text_in g j (tree.while c x) tt ((condition.0, nested.0.0), (condition.1, nested.0.1)), nested.1)
    in_stmt j outer a (tree.until x c) g l r y h f =
        let nested = in_stmt j outer a x of_statement false r tt (front (stmt_sites x of_statement false a) (sites c a) h.1) f in
        let condition = in_expr sc j outer a r h.0.once c (back (stmt_sites x of_statement false a) (sites c a) h.1) in
        (text_in g j (tree.until x c) tt ((nested.0.0, condition.0), (nested.0.1, condition.1)), nested.1)
    in_stmt j outer a (tree.for v x s z t) g l r y h f =
        let three = front (sites x a ++ sites s a ++ sites z a) (stmt_sites t of_statement false a) h.1 in
        let two = front (sites x a ++ sites s a) (sites z a) three in
        let control = control_in sc j outer a r h.0.once v h.0.uses.0 h.0.assignable in
        let first = in_expr sc j outer a r h.0.once x (front (sites x a) (sites s a) two) in
        let step = in_expr sc j outer a r h.0.once s (back (sites x a) (sites s a) two) in
        let last = in_expr sc j outer a r h.0.once z (back (sites x a ++ sites s a) (sites z a) three) in
        let nested = in_stmt j outer a t of_statement false r tt (back (sites x a ++ sites s a ++ sites z a) (stmt_sites t of_statement false a) h.1) f in (
          text_in g j (tree.for v x s z t) tt
              ((control.0, first.0, step.0, last.0, nested.0.0), (control.1, first.1, step.1, last.1, nested.0.1)),
          nested.1,
        )
    in_stmt j outer a (tree.thru e x) g l r y h f =
        let count = in_expr sc j outer a r h.0.once e (front (sites e a) (stmt_sites x of_statement false a) h.1) in
        let nested = in_stmt j outer a x of_statement false r tt (back (sites e a) (stmt_sites x of_statement false a) h.1) f in
        (text_in g j (tree.thru e x) tt ((count.0, nested.0.0), (count.1, nested.0.1)), nested.1)
    in_stmt j outer a (tree.case e ss) g l r y h f =
        let selector = in_expr sc j outer a r h.0.once e (front (sites e a) (sites_in_stmts sc.blocks ss false a) h.1) in
        let nested = in_stmts j outer a ss false r (back (sites e a) (sites_in_stmts sc.blocks ss false a) h.1) f in
        (text_in g j (tree.case e ss) tt ((selector.0, nested.0.0), (selector.1, nested.0.1)), nested.1)
    in_stmt j outer a (tree.process (tree.called n es) None) g l r y h f =
        let u = h.0.uses.0 in
        let fit = started_fits j outer a r n es None l h.0 h.1 in
        let actuals = in_actuals sc j outer a r h.0.once es (formals_at a n) h.1 in
        (text_in g j (tree.process (tree.called n es) None) tt ((seen sc j outer a r h.0.once n u, actuals, tt), (fit.0, fit.1, tt)), tt)
    in_stmt j outer a (tree.process (tree.called n es) (Some task)) g l r y h f =
        let u = h.0.uses.0 in
        let fit = started_fits j outer a r n es (Some task) l h.0 h.1 in
        let its = task_in sc j outer a r h.0.once task h.0.uses.1.0 (append_none_right (wrong_by sc j outer a r untyped n) _ h.0.right) in
        let actuals = in_actuals sc j outer a r h.0.once es (formals_at a n) h.1 in
        (text_in g j (tree.process (tree.called n es) (Some task)) tt ((seen sc j outer a r h.0.once n u, actuals, seen sc j outer a r h.0.once task h.0.uses.1.0), (fit.0, fit.1, its)), tt)
    in_stmt j outer a (tree.event act e) g l r y h f =
        let u = h.0.uses.0 in
        (text_in g j (tree.event act e) tt (seen sc j outer a r h.0.once e.name u, event_in sc j outer a r h.0.once e u h.0.right), tt)
    in_stmt j outer a (tree.write n spot phrases es) g l r y h f =
        (text_in g j (tree.write n spot phrases es) tt (in_list sc j outer a r h.0.once es h.1), tt)

    pub in_stmts : (j : ℕ) (outer : List Spot) (a : Surroundings) (ss : PStmts) (listed : Bool) → IsAround sc.blocks j outer a → Good (sites_in_stmts sc.blocks ss listed a) → Fine (blocks_in_stmts ss outer) →
        AllInText sc j ss × Texts (blocks_in_stmts ss outer)
    in_stmts j outer a tree.no_stmts l r h f = ((tt, tt), tt)
    in_stmts j outer a (tree.stmts t ss) l r h f =
        let first = in_stmt j outer a t of_statement l r tt (front (stmt_sites t of_statement l a) (sites_in_stmts sc.blocks ss l a) h) (fine_front (blocks_of t of_statement outer) (blocks_in_stmts ss outer) f) in
        let more = in_stmts j outer a ss l r (back (stmt_sites t of_statement l a) (sites_in_stmts sc.blocks ss l a) h) (fine_back (blocks_of t of_statement outer) (blocks_in_stmts ss outer) f) in
        (((first.0.0, more.0.0), (first.0.1, more.0.1)), joined (blocks_of t of_statement outer) (blocks_in_stmts ss outer) first.1 more.1)

    -- `first`: what is known at the begin of the block, and so in its bounds
    pub in_decls : (j : ℕ) (outer : List Spot) (a : Surroundings) (ds : PDecls) (first : List Declared) → IsAround sc.blocks j outer a → IsAround sc.blocks j outer (record a { known = first }) →
        AreEarly a.depth first → AreCallees sc.blocks j ds → Good (sites_in_decls sc.blocks ds a first) → Fine (blocks_in_decls ds outer) → HaveBounds sc j ds × Texts (blocks_in_decls ds outer)
    in_decls j outer a tree.no_decls first r e y c h f = (tt, tt)
    in_decls j outer a (tree.decls d ds) first r e y c h f =
        let b : Surroundings = knowing sc.blocks d ds a in
        let known = knows_one sc.blocks j outer d ds a c.0 r in
        let one = in_decl j outer b d ds first known e y c.0 (front (inside_decl sc.blocks d b first) (sites_in_decls sc.blocks ds b first) h.1) (fine_front (blocks_in_decl d outer) (blocks_in_decls ds outer) f) in
        let more = in_decls j outer b ds first known e y c.1 (back (inside_decl sc.blocks d b first) (sites_in_decls sc.blocks ds b first) h.1) (fine_back (blocks_in_decl d outer) (blocks_in_decls ds outer) f) in
        ((one.0, more.0), joined (blocks_in_decl d outer) (blocks_in_decls ds outer) one.1 more.1)

    -- the place is after the declaration
    in_decl : (j : ℕ) (outer : List Spot) (a : Surroundings) (d : PDecl) (later : PDecls) (first : List Declared) → IsAround sc.blocks j outer a → IsAround sc.blocks j outer (record a { known = first }) →
        AreEarly a.depth first → DeclaresCallee sc.blocks j d later → Good (inside_decl sc.blocks d a first) → Fine (blocks_in_decl d outer) → HasBounds sc j d × Texts (blocks_in_decl d outer)
    in_decl j outer a (tree.arrays kind ns pairs) later first r e y c h f = (in_pairs sc j outer (record a { known = first }) e y pairs h, tt)
    in_decl j outer a (tree.procedure g t) later first r e y c h f =
        let k = number_at sc.blocks g.name.spot in
        let inner : List Spot = g.name.spot ∷ outer in
        let i : Surroundings = inside_procedure sc.blocks g a in
        let begun : IsAround sc.blocks k inner i = enters_procedure sc.blocks j outer g a c r in
        let nested = in_stmt k inner i t of_procedure false begun (early_procedure sc j outer a r g c, ap (λ (z : Block). z.decls) f.0.it_is) h f.1 in
        (tt, (is_text sc (procedure_block g t outer) f.0 nested.0.0 nested.0.1, nested.1))
    in_decl j outer a (tree.simple kind ns) later first r e y c h f = (tt, tt)
    in_decl j outer a (tree.files ns) later first r e y c h f = (tt, tt)
    in_decl j outer a (tree.events ns) later first r e y c h f = (tt, tt)
    in_decl j outer a (tree.tasks ns) later first r e y c h f = (tt, tt)
    in_decl j outer a (tree.labels ns) later first r e y c h f = (tt, tt)
    in_decl j outer a (tree.forward g) later first r e y c h f = (tt, tt)
