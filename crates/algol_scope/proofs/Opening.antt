-- Blocks that begin and end.
use Rattle.std.proofs.Common.{◌≡◌, ℕ, ◌+◌, ◌<◌, Bool, true, false, List, [], ◌∷◌, ◌++◌, length, filter, None, refl, ap, sym, ◌∙◌, subst, arith, length-append, suc}
use Rattle.std.specs.Prelude.{min, not, if◌then◌else◌}
use Rattle.std.specs.Bool.{◌==◌}
use Rattle.algol_tree.specs.declared.token.Spot.{Spot}
use Rattle.algol_tree.specs.declared.tree.Body.{Body}
use Rattle.algol_tree.specs.declared.tree.Decl.{Decl}
use Rattle.algol_tree.specs.declared.tree.Stmt.{Stmt}
use Rattle.algol_tree.specs.Plain as tree
use Rattle.algol_tree.specs.Plain.{PDecl, PDecls, PStmt, PStmts, PBody}
use Rattle.algol_tree.specs.Image.{body, decls, stmts}
use Rattle.algol_tree.specs.Sorts.{Declared, same_name}
use Rattle.algol_tree.specs.Blocks.{Block, number_at, block_numbered, blocks_in_body, blocks_in_decls, blocks_in_stmts}
use Rattle.algol_tree.specs.Surroundings.{Surroundings, knowing_all}
use Rattle.algol_tree.specs.Sites.{Site, has_decls, sites_in_body, sites_in_decls, sites_in_stmts}
use Rattle.algol_tree.specs.Names.{name_is_one_of, result_names_of}
use Rattle.algol_tree.proofs.Images.{body_is}
use Rattle.algol_known.specs.declared.known.Seen.TheVariants as seens
use Rattle.algol_known.specs.declared.around.Around.{Around}
use Rattle.algol_scope.specs.declared.findings.Findings.{Findings}
use Rattle.algol_known.specs.declared.known.Names.{Names}
use Rattle.algol_scope.specs.Noting.{ScopeFinds}
use Rattle.algol_scope.proofs.Walking.{adds_none}
use Rattle.algol_known.specs.declared.around.Procedure.{Procedure}
use Rattle.algol_frames.specs.declared.found.Block as begun_block
use Rattle.algol_scope.specs.declared.resolver.Resolver.{Resolver}
use Rattle.algol_known.specs.Naming.{is_typed}
use Rattle.algol_known.specs.Looking.{level_within}
use Rattle.algol_known.specs.Seeing.{KnownOpens, Extends, block_begun}
use Rattle.algol_known.proofs.Plain.{not_empty}
use Rattle.algol_scope.specs.Stating.{AreBefore, WalkStands, WalkSettles, WalkComes, Visits, WalkEnters, Fills, stated_block_of, stmt_parts, stmt_blocks}
use Rattle.algol_scope.proofs.Visiting.{before_more, comes_then, extends_then, numbered_left, numbered_right, visits_as}

not_same : (m n : ℕ) → m < n → (m == n) ≡ false
not_same m n h = grind arith

own_none : (n : ℕ) (ds : List Declared) → AreBefore n ds → filter (λ (d : Declared). d.block == n) ds ≡ []
own_none n [] b = refl
own_none n (d ∷ ds) b =
    ap (λ (x : Bool). if x then d ∷ filter (λ (d : Declared). d.block == n) ds else filter (λ (d : Declared). d.block == n) ds) (not_same d.block n b.0)
    ∙ own_none n ds b.1

one_more : (xs ys : List begun_block.Block) (x : begun_block.Block) → ys ≡ xs ++ x ∷ [] → length ys ≡ length xs + 1
one_more xs ys x h = ap (λ z. length z) h ∙ length-append xs (x ∷ [])

-- A block that begins: the walk stands among its declarations.
pub settles_open : (blocks : List Block) (old mid : Resolver) (a : Surroundings) (spots : List Spot) (spot : Spot) (blk : Block) (x : begun_block.Block) →
    WalkStands old a spots → KnownOpens old.around mid.around (length old.blocks.items) → mid.blocks.items ≡ old.blocks.items ++ x ∷ [] →
    number_at blocks spot ≡ length old.blocks.items → block_numbered blocks (length old.blocks.items) ≡ blk →
    ((q : List ℕ) → is_typed mid.around.innermost.typed q ≡ name_is_one_of (result_names_of blk) q) →
    WalkSettles blocks mid (block_begun (number_at blocks spot) a) (spot ∷ spots) a.known
settles_open blocks old mid a spots spot blk x s o begins at is typed =
    let n : ℕ = length old.blocks.items in
    let count : length mid.blocks.items ≡ n + 1 = one_more old.blocks.items mid.blocks.items x begins in
    let P : ℕ → Type 0 = λ z. WalkSettles blocks mid (block_begun z a) (spot ∷ spots) a.known in
    subst P (sym at)
    (record {
      stands =
          record {
            sees = o.sees seens.All a s.sees;
            known = before_more n (length mid.blocks.items) a.known (omega (arith, count)) s.known;
            block = omega (arith, count);
            outer = (let e = s.outer in let f : suc (length spots) ≡ a.depth + 1 + 1 = omega (arith, e) in f);
          };
      holds = o.holds a (own_none n a.known s.known);
      bounds = o.sees seens.BeforeDeclarations a s.sees;
      typed = λ q. typed q ∙ ap (λ (b : Block). name_is_one_of (result_names_of b) q) (sym is);
    })

-- the level of a block that has just begun
pub level_open : (old mid : Resolver) (a : Surroundings) (spots : List Spot) (blk : Block) → WalkStands old a spots →
    mid.around.outer.items ≡ old.around.outer.items ++ old.around.innermost ∷ [] → blk.outer ≡ spots → level_within mid.around ≡ min (length blk.outer + 2) 255
level_open old mid a spots blk s o b =
    let e : length mid.around.outer.items ≡ length blk.outer =
    ap (λ z. length z) o ∙ length-append old.around.outer.items (old.around.innermost ∷ []) ∙ ap (λ z. z + 1) s.sees.depth ∙ sym s.outer
    ∙ ap (λ z. length z) (sym b) in
    ap (λ z. min (z + 2) 255) e

abbrev block_with : Spot → ℕ → Bool → begun_block.Block
block_with spot level is = record { spot = spot; level = level; is_procedure = is }

pub begun_as : (spot : Spot) (level : ℕ) (is : Bool) (blk : Block) → spot ≡ blk.spot → level ≡ min (length blk.outer + 2) 255 → is ≡ not (same_name blk.name []) →
    record { spot = spot; level = level; is_procedure = is } ≡ stated_block_of blk
begun_as spot level is blk s l p =
    ap (λ z. block_with z level is) s ∙ ap (λ z. block_with blk.spot z is) l ∙ ap (λ z. block_with blk.spot (min (length blk.outer + 2) 255) z) p

-- ---- BEGIN

empty_is : (n : ℕ) → (0 == 0) ≡ false → ⊥
empty_is n h = cc

compound : (old new : Resolver) (spot : Spot) (ds : List Decl) (ss : PStmts) (listed : Bool) → (length ds == 0) ≡ true →
    Visits old new (λ blocks. sites_in_stmts blocks ss false) (blocks_in_stmts ss) →
    Visits old new (stmt_parts (tree.block (tree.body spot (decls ds) ss)) listed) (stmt_blocks (tree.block (tree.body spot (decls ds) ss)))
compound old new spot [] ss listed h v =
    visits_as old new (λ blocks. sites_in_stmts blocks ss false) (stmt_parts (tree.block (tree.body spot tree.no_decls ss)) listed) (blocks_in_stmts ss)
    (stmt_blocks (tree.block (tree.body spot tree.no_decls ss))) (λ blocks a. refl) (λ blocks a. refl) (λ blocks a. refl) (λ spots. refl) v
compound old new spot (d ∷ ds) ss listed h v = absurd (not_empty (length ds) h)

pub visits_compound : (old new : Resolver) (b : Body) (all : List Stmt) → all ≡ b.stmts → (n : ℕ) (listed : Bool) (answer : Bool) → n ≡ length b.decls →
    answer ≡ (n == 0) → answer ≡ true → Visits old new (λ blocks. sites_in_stmts blocks (stmts all) false) (blocks_in_stmts (stmts all)) →
    Visits old new (stmt_parts (tree.block (body b)) listed) (stmt_blocks (tree.block (body b)))
visits_compound old new b all whole n listed answer count e h u =
    let V : List Stmt → Type 0 = λ z. Visits old new (λ blocks. sites_in_stmts blocks (stmts z) false) (blocks_in_stmts (stmts z)) in
    let v : V b.stmts = subst V whole u in
    let P : PBody → Type 0 = λ z. Visits old new (stmt_parts (tree.block z) listed) (stmt_blocks (tree.block z)) in
    subst P (sym (body_is b)) (compound old new b.spot b.decls (stmts b.stmts) listed (ap (λ z. z == 0) (sym count) ∙ sym e ∙ h) v)

-- the block around is the innermost again
pub record Closes (old mid ful new : Resolver) : Type 0 where
  pub innermost : new.around.innermost ≡ old.around.innermost
  pub outer : new.around.outer.items ≡ old.around.outer.items
  pub procedures : new.around.procedures ≡ ful.around.procedures
  pub findings : new.findings ≡ ful.findings
  pub blocks : new.blocks ≡ ful.blocks

pub extends_same : (ps qs rs : List Procedure) → rs ≡ qs → Extends ps qs → Extends ps rs
extends_same ps qs rs h x = let P : List Procedure → Type 0 = λ z. Extends ps z in subst P (sym h) x

pub extends_from : (ps qs rs : List Procedure) → ps ≡ qs → Extends qs rs → Extends ps rs
extends_from ps qs rs h x = let P : List Procedure → Type 0 = λ z. Extends z rs in subst P (sym h) x

pub comes_closed : (blocks : List Block) (old ful new : Resolver) (xs : List Site) (bs : List Block) → new.findings ≡ ful.findings → new.blocks ≡ ful.blocks →
    WalkComes blocks old ful xs bs → WalkComes blocks old new xs bs
comes_closed blocks old ful new xs bs f b c =
    record {
      finds = (let P : Findings → Type 0 = λ z. ScopeFinds blocks old.findings xs z in subst P (sym f) c.finds);
      begins = (let e : new.blocks.items ≡ ful.blocks.items = cc in e ∙ c.begins);
    }

pub opens_comes : (blocks : List Block) (old mid : Resolver) (blk : Block) → mid.findings ≡ old.findings → mid.blocks.items ≡ old.blocks.items ++ stated_block_of blk ∷ [] →
    WalkComes blocks old mid [] (blk ∷ [])
opens_comes blocks old mid blk f b =
    record {
      finds = (let P : Findings → Type 0 = λ z. ScopeFinds blocks old.findings [] z in subst P (sym f) (adds_none old.findings));
      begins = b;
    }

begun_decls : (old mid ful new : Resolver) (spot : Spot) (d : Decl) (ds : List Decl) (ss : PStmts) (listed : Bool) →
    KnownOpens old.around mid.around (length old.blocks.items) → ((q : List ℕ) → is_typed mid.around.innermost.typed q ≡ false) →
    mid.blocks.items ≡ old.blocks.items ++ record { spot = spot; level = level_within mid.around; is_procedure = false } ∷ [] → mid.findings ≡ old.findings →
    Fills mid ful (λ blocks. sites_in_body blocks (tree.body spot (decls (d ∷ ds)) ss)) (blocks_in_body (tree.body spot (decls (d ∷ ds)) ss)) → Closes old mid ful new →
    Visits old new (stmt_parts (tree.block (tree.body spot (decls (d ∷ ds)) ss)) listed) (stmt_blocks (tree.block (tree.body spot (decls (d ∷ ds)) ss)))
begun_decls old mid ful new spot d ds ss listed o t begins f fills closes =
    let b : PBody = tree.body spot (decls (d ∷ ds)) ss in
    record {
      keeps =
          record {
            innermost = closes.innermost;
            outer = closes.outer;
            procedures =
                extends_same old.around.procedures.items ful.around.procedures.items new.around.procedures.items
                (let e : new.around.procedures.items ≡ ful.around.procedures.items = (let p = closes.procedures in cc) in e)
                (extends_from old.around.procedures.items mid.around.procedures.items ful.around.procedures.items
                (let e : old.around.procedures.items ≡ mid.around.procedures.items = (let p = o.procedures in cc) in e) fills.procedures);
          };
      comes =
          λ blocks a spots s n.
          let blk : Block =
          record { spot = spot; outer = spots; name = []; parameters = []; result = None; decls = decls (d ∷ ds); stmts = ss } in
          let opened : mid.blocks.items ≡ old.blocks.items ++ stated_block_of blk ∷ [] =
          begins
          ∙ ap (λ z. old.blocks.items ++ z ∷ []) (begun_as spot (level_within mid.around) false blk refl (level_open old mid a spots blk s o.outer refl) refl) in
          let settled =
          settles_open blocks old mid a spots spot blk (stated_block_of blk) s o opened n.0 n.1.0 t in
          let come =
          fills.comes blocks (block_begun (number_at blocks spot) a) (spot ∷ spots) settled
          (numbered_right blocks old mid (blk ∷ []) (blocks_in_body b (spot ∷ spots)) opened n) in
          comes_closed blocks old ful new (stmt_parts (tree.block b) listed blocks a) (stmt_blocks (tree.block b) spots) closes.findings closes.blocks
          (record {
            finds =
                (comes_then blocks old mid ful [] (sites_in_body blocks b (block_begun (number_at blocks spot) a)) (blk ∷ []) (blocks_in_body b (spot ∷ spots))
                (opens_comes blocks old mid blk f opened) come).finds;
            begins =
                (comes_then blocks old mid ful [] (sites_in_body blocks b (block_begun (number_at blocks spot) a)) (blk ∷ []) (blocks_in_body b (spot ∷ spots))
                (opens_comes blocks old mid blk f opened) come).begins;
          });
    }

by_decls : (old mid ful new : Resolver) (spot : Spot) (ds : List Decl) (ss : PStmts) (listed : Bool) → (length ds == 0) ≡ false →
    KnownOpens old.around mid.around (length old.blocks.items) → ((q : List ℕ) → is_typed mid.around.innermost.typed q ≡ false) →
    mid.blocks.items ≡ old.blocks.items ++ record { spot = spot; level = level_within mid.around; is_procedure = false } ∷ [] → mid.findings ≡ old.findings →
    Fills mid ful (λ blocks. sites_in_body blocks (tree.body spot (decls ds) ss)) (blocks_in_body (tree.body spot (decls ds) ss)) → Closes old mid ful new →
    Visits old new (stmt_parts (tree.block (tree.body spot (decls ds) ss)) listed) (stmt_blocks (tree.block (tree.body spot (decls ds) ss)))
by_decls old mid ful new spot [] ss listed h o t begins f fills closes = absurd (empty_is 0 h)
by_decls old mid ful new spot (d ∷ ds) ss listed h o t begins f fills closes = begun_decls old mid ful new spot d ds ss listed o t begins f fills closes

pub visits_block : (old mid ful new : Resolver) (b : Body) (n : ℕ) (listed : Bool) (answer : Bool) → n ≡ length b.decls → answer ≡ (n == 0) → answer ≡ false →
    KnownOpens old.around mid.around (length old.blocks.items) → mid.around.innermost.typed ≡ None →
    mid.blocks.items ≡ old.blocks.items ++ record { spot = b.spot; level = level_within mid.around; is_procedure = false } ∷ [] → mid.findings ≡ old.findings →
    Fills mid ful (λ blocks. sites_in_body blocks (body b)) (blocks_in_body (body b)) → Closes old mid ful new →
    Visits old new (stmt_parts (tree.block (body b)) listed) (stmt_blocks (tree.block (body b)))
visits_block old mid ful new b n listed answer count e h o t begins f fills closes =
    let P : PBody → Type 0 = λ z. Visits old new (stmt_parts (tree.block z) listed) (stmt_blocks (tree.block z)) in
    let Q : PBody → Type 0 = λ z. Fills mid ful (λ blocks. sites_in_body blocks z) (blocks_in_body z) in
    subst P (sym (body_is b))
    (by_decls old mid ful new b.spot b.decls (stmts b.stmts) listed (ap (λ z. z == 0) (sym count) ∙ sym e ∙ h) o
    (λ q. ap (λ z. is_typed z q) t) begins f (subst Q (body_is b) fills) closes)

-- what closing a block gives back
pub closed : (old mid ful : Resolver) (around : Around) → mid.around.outer.items ≡ old.around.outer.items ++ old.around.innermost ∷ [] →
    ful.around.outer.items ≡ mid.around.outer.items →
    ((names : Names) (rest : List Names) →
    ful.around.outer.items ≡ rest ++ names ∷ [] → (around.innermost ≡ names) × (around.outer.items ≡ rest)) → around.procedures ≡ ful.around.procedures →
    Closes old mid ful (record ful { around = around })
closed old mid ful around o k give same =
    let back = give old.around.innermost old.around.outer.items (k ∙ o) in
    record { innermost = back.0; outer = back.1; procedures = same; findings = refl; blocks = refl }

-- ---- a body: its declarations, and its statements

pub fills_body : (old mid new : Resolver) (b : Body) (items : List Decl) → items ≡ b.decls → (all : List Stmt) → all ≡ b.stmts →
    WalkEnters old mid (λ blocks. sites_in_decls blocks (decls items)) (blocks_in_decls (decls items)) (λ blocks. knowing_all blocks (decls items)) →
    ((listed : Bool) → Visits mid new (λ blocks. sites_in_stmts blocks (stmts all) listed) (blocks_in_stmts (stmts all))) →
    Fills old new (λ blocks. sites_in_body blocks (body b)) (blocks_in_body (body b))
fills_body old mid new b items same all whole enters u =
    let V : List Stmt → Type 0 = λ z. (listed : Bool) → Visits mid new (λ blocks. sites_in_stmts blocks (stmts z) listed) (blocks_in_stmts (stmts z)) in
    let v : V b.stmts = subst V whole u in
    let E : List Decl → Type 0 = λ z. WalkEnters old mid (λ blocks. sites_in_decls blocks (decls z)) (blocks_in_decls (decls z)) (λ blocks. knowing_all blocks (decls z)) in
    let e : E b.decls = subst E same enters in
    let P : PBody → Type 0 = λ z. Fills old new (λ blocks. sites_in_body blocks z) (blocks_in_body z) in
    let ds : PDecls = decls b.decls in
    let ss : PStmts = stmts b.stmts in
    let w = v (has_decls ds) in
    subst P (sym (body_is b))
    (record {
      outer = w.keeps.outer ∙ e.outer;
      procedures = extends_then old.around.procedures.items mid.around.procedures.items new.around.procedures.items e.procedures w.keeps.procedures;
      comes =
          λ blocks a spots s n.
          let one = e.comes blocks a spots a.known s (numbered_left blocks (length old.blocks.items) (blocks_in_decls ds spots) (blocks_in_stmts ss spots) n) in
          let settled = e.settles blocks a spots a.known s (numbered_left blocks (length old.blocks.items) (blocks_in_decls ds spots) (blocks_in_stmts ss spots) n) in
          comes_then blocks old mid new (sites_in_decls blocks ds a a.known) (sites_in_stmts blocks ss (has_decls ds) (knowing_all blocks ds a))
          (blocks_in_decls ds spots) (blocks_in_stmts ss spots) one
          (w.comes blocks (knowing_all blocks ds a) spots settled.stands
          (numbered_right blocks old mid (blocks_in_decls ds spots) (blocks_in_stmts ss spots) one.begins n));
    })
