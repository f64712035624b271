-- In a tree whose places are in order no two blocks begin at one place.
use Rattle.std.proofs.Common.{◌≡◌, ◌+◌, ◌⊎◌, inl, inr, Bool, true, false, List, [], ◌∷◌, ◌++◌, map, Some, refl, ap, sym, ◌∙◌, subst, arith, suc}
use Rattle.std.proofs.lemmas.List.{map-append}
use Rattle.std.specs.Prelude.{if◌then◌else◌, slice_get}
use Rattle.algol_tree.specs.declared.token.Spot.{Spot}
use Rattle.algol_tree.specs.Plain as tree
use Rattle.algol_tree.specs.Plain.{PStmt, PStmts, PDecl, PDecls, PBody, PProgram}
use Rattle.algol_tree.specs.Blocks.{Begin, of_statement, of_procedure, Block, begin_block, begin_outer, blocks_of, blocks_in_body, blocks_in_decl, blocks_in_decls, blocks_in_stmts, blocks_of_program, number_at, outer_block, same_spot}
use Rattle.algol_tree.specs.Accepted.{is_before}
use Rattle.algol_tree.specs.Ascending.{Ascends, IsInOrder, spots_of_body, spots_of_decl, spots_of_decls, spots_of_stmt, spots_of_stmts, spots_of_names, spots_of_expr}
use Rattle.algol_tree.specs.Names.{specified}
use Rattle.algol_tree.proofs.Spots.{before_apart, before_on, same_spot_itself}
use Rattle.algol_sites.specs.Placing.{AreFound, BlockIsFound, StandApart}

-- ---- some of the places of a list, in their order

abbrev AreAmong : List Spot → List Spot → Type 0
AreAmong [] ys = Unit {0}
AreAmong (x ∷ xs) [] = ⊥
AreAmong (x ∷ xs) (y ∷ ys) = ((x ≡ y) × AreAmong xs ys) ⊎ AreAmong (x ∷ xs) ys

one_more : (y : Spot) (xs ys : List Spot) → AreAmong xs ys → AreAmong xs (y ∷ ys)
one_more y [] ys h = tt
one_more y (x ∷ xs) ys h = inr h

behind : (zs xs ys : List Spot) → AreAmong xs ys → AreAmong xs (zs ++ ys)
behind [] xs ys h = h
behind (z ∷ zs) xs ys h = one_more z xs (zs ++ ys) (behind zs xs ys h)

ahead : (xs ys zs : List Spot) → AreAmong xs ys → AreAmong xs (ys ++ zs)
ahead [] ys zs h = tt
ahead (x ∷ xs) [] zs h = absurd h
ahead (x ∷ xs) (y ∷ ys) zs (inl h) = inl (h.0, ahead xs ys zs h.1)
ahead (x ∷ xs) (y ∷ ys) zs (inr h) = inr (ahead (x ∷ xs) ys zs h)

both : (xs ys zs ws : List Spot) → AreAmong xs ys → AreAmong zs ws → AreAmong (xs ++ zs) (ys ++ ws)
both [] ys zs ws h k = behind ys zs ws k
both (x ∷ xs) [] zs ws h k = absurd h
both (x ∷ xs) (y ∷ ys) zs ws (inl h) k = inl (h.0, both xs ys zs ws h.1 k)
both (x ∷ xs) (y ∷ ys) zs ws (inr h) k = inr (both (x ∷ xs) ys zs ws h k)

-- ---- each place before all that follow

abbrev IsBeforeAll : Spot → List Spot → Type 0
IsBeforeAll s [] = Unit {0}
IsBeforeAll s (t ∷ ts) = (is_before s t ≡ true) × IsBeforeAll s ts

abbrev AreOrdered : List Spot → Type 0
AreOrdered [] = Unit {0}
AreOrdered (s ∷ ss) = IsBeforeAll s ss × AreOrdered ss

all_through : (s t : Spot) (ts : List Spot) → is_before s t ≡ true → IsBeforeAll t ts → IsBeforeAll s ts
all_through s t [] h k = tt
all_through s t (x ∷ ts) h k = (before_on s t x h k.0, all_through s t ts h k.1)

ordered : (ss : List Spot) → Ascends ss → AreOrdered ss
ordered [] h = tt
ordered (s ∷ []) h = (tt, tt)
ordered (s ∷ t ∷ ts) h = let k = ordered (t ∷ ts) h.1 in ((h.0, all_through s t ts h.0 k.0), k)

before_among : (s : Spot) (xs ys : List Spot) → IsBeforeAll s ys → AreAmong xs ys → IsBeforeAll s xs
before_among s [] ys h k = tt
before_among s (x ∷ xs) [] h k = absurd k
before_among s (x ∷ xs) (y ∷ ys) h (inl k) =
    (let P : Spot → Type 0 = λ z. is_before s z ≡ true in subst P (sym k.0) h.0, before_among s xs ys h.1 k.1)
before_among s (x ∷ xs) (y ∷ ys) h (inr k) = before_among s (x ∷ xs) ys h.1 k

ordered_among : (xs ys : List Spot) → AreOrdered ys → AreAmong xs ys → AreOrdered xs
ordered_among [] ys h k = tt
ordered_among (x ∷ xs) [] h k = absurd k
ordered_among (x ∷ xs) (y ∷ ys) h (inl k) =
    (let P : Spot → Type 0 = λ z. IsBeforeAll z xs in subst P (sym k.0) (before_among y xs ys h.0 k.1), ordered_among xs ys h.1 k.1)
ordered_among (x ∷ xs) (y ∷ ys) h (inr k) = ordered_among (x ∷ xs) ys h.1 k

-- ---- blocks in order are each found

abbrev spots_at : List Block → List Spot
spots_at bs = map (λ (b : Block). b.spot) bs

found_first : (b : Block) (bs : List Block) (same : Bool) → same ≡ true → slice_get (b ∷ bs) (if same then 0 else number_at bs b.spot + 1) ≡ Some b
found_first b bs true e = refl
found_first b bs false e = absurd (let clash : false ≡ true = e in cc)

found_later : (b x : Block) (bs : List Block) (same : Bool) → same ≡ false → BlockIsFound bs x → slice_get (b ∷ bs) (if same then 0 else number_at bs x.spot + 1) ≡ Some x
found_later b x bs true e h = absurd (let clash : true ≡ false = e in cc)
found_later b x bs false e h = let next : number_at bs x.spot + 1 ≡ suc (number_at bs x.spot) = omega arith in ap (slice_get (b ∷ bs)) next ∙ h

more_found : (b : Block) (bs xs : List Block) → IsBeforeAll b.spot (spots_at xs) → AreFound bs xs → AreFound (b ∷ bs) xs
more_found b bs [] h f = tt
more_found b bs (x ∷ xs) h f = (found_later b x bs (same_spot b.spot x.spot) (before_apart b.spot x.spot h.0) f.0, more_found b bs xs h.1 f.1)

all_found : (bs : List Block) → AreOrdered (spots_at bs) → AreFound bs bs
all_found [] h = tt
all_found (b ∷ bs) h = (found_first b bs (same_spot b.spot b.spot) (same_spot_itself b.spot), more_found b bs bs h.0 (all_found bs h.1))

-- ---- the places of blocks are among those of the tree

both_at : (xs ys : List Block) (zs ws : List Spot) → AreAmong (spots_at xs) zs → AreAmong (spots_at ys) ws → AreAmong (spots_at (xs ++ ys)) (zs ++ ws)
both_at xs ys zs ws h k =
    let P : List Spot → Type 0 = λ ss. AreAmong ss (zs ++ ws) in
    subst P (sym (map-append (λ (b : Block). b.spot) xs ys)) (both (spots_at xs) zs (spots_at ys) ws h k)

abbrev spots_in : PBody → List Spot
spots_in (tree.body spot ds ss) = spots_of_decls ds ++ spots_of_stmts ss

begin_among : (begin : Begin) (b : PBody) (outer : List Spot) (bs : List Block) → AreAmong (spots_at bs) (spots_in b) →
    AreAmong (spots_at (begin_block begin b outer ++ bs)) (spots_of_body b)
begin_among of_procedure (tree.body spot ds ss) outer bs h = one_more spot (spots_at bs) (spots_of_decls ds ++ spots_of_stmts ss) h
begin_among of_statement (tree.body spot tree.no_decls ss) outer bs h = one_more spot (spots_at bs) (spots_of_decls tree.no_decls ++ spots_of_stmts ss) h
begin_among of_statement (tree.body spot (tree.decls d ds) ss) outer bs h = inl (refl, h)

mutual
  stmt_among : (s : PStmt) (begin : Begin) (outer : List Spot) → AreAmong (spots_at (blocks_of s begin outer)) (spots_of_stmt s)
  stmt_among tree.empty begin outer = tt
  stmt_among (tree.label n s) begin outer =
      one_more n.spot (spots_at (blocks_of s of_statement outer)) (spots_of_stmt s) (stmt_among s of_statement outer)
  stmt_among (tree.assign v e) begin outer = tt
  stmt_among (tree.call_of c) begin outer = tt
  stmt_among (tree.go_to n) begin outer = tt
  stmt_among (tree.block b) begin outer =
      begin_among begin b outer (blocks_in_body b (begin_outer begin b outer)) (body_among b (begin_outer begin b outer))
  stmt_among (tree.if_then c x) begin outer =
      behind (spots_of_expr c) (spots_at (blocks_of x of_statement outer)) (spots_of_stmt x) (stmt_among x of_statement outer)
  stmt_among (tree.if_else c x y) begin outer =
      both_at (blocks_of x of_statement outer) (blocks_of y of_statement outer) (spots_of_expr c ++ spots_of_stmt x) (spots_of_stmt y)
      (behind (spots_of_expr c) (spots_at (blocks_of x of_statement outer)) (spots_of_stmt x) (stmt_among x of_statement outer))
      (stmt_among y of_statement outer)
  stmt_among (tree.while c b) begin outer =
      behind (spots_of_expr c) (spots_at (blocks_of b of_statement outer)) (spots_of_stmt b) (stmt_among b of_statement outer)
  stmt_among (tree.until b c) begin outer =
      ahead (spots_at (blocks_of b of_statement outer)) (spots_of_stmt b) (spots_of_expr c) (stmt_among b of_statement outer)
  stmt_among (tree.for v x s l b) begin outer =
      let heads = spots_of_expr x ++ spots_of_expr s ++ spots_of_expr l in
      one_more v.spot (spots_at (blocks_of b of_statement outer)) (heads ++ spots_of_stmt b)
      (behind heads (spots_at (blocks_of b of_statement outer)) (spots_of_stmt b) (stmt_among b of_statement outer))
  stmt_among (tree.thru e b) begin outer =
      behind (spots_of_expr e) (spots_at (blocks_of b of_statement outer)) (spots_of_stmt b) (stmt_among b of_statement outer)
  stmt_among (tree.case e ss) begin outer =
      behind (spots_of_expr e) (spots_at (blocks_in_stmts ss outer)) (spots_of_stmts ss) (stmts_among ss outer)
  stmt_among (tree.process c task) begin outer = tt
  stmt_among (tree.event act e) begin outer = tt
  stmt_among (tree.write n spot ps es) begin outer = tt

  stmts_among : (ss : PStmts) (outer : List Spot) → AreAmong (spots_at (blocks_in_stmts ss outer)) (spots_of_stmts ss)
  stmts_among tree.no_stmts outer = tt
  stmts_among (tree.stmts s ss) outer =
      both_at (blocks_of s of_statement outer) (blocks_in_stmts ss outer) (spots_of_stmt s) (spots_of_stmts ss) (stmt_among s of_statement outer) (stmts_among ss outer)

  decl_among : (d : PDecl) (outer : List Spot) → AreAmong (spots_at (blocks_in_decl d outer)) (spots_of_decl d)
  decl_among (tree.simple kind ns) outer = tt
  decl_among (tree.files ns) outer = tt
  decl_among (tree.events ns) outer = tt
  decl_among (tree.tasks ns) outer = tt
  decl_among (tree.labels ns) outer = tt
  decl_among (tree.arrays kind ns ps) outer = tt
  decl_among (tree.forward h) outer = tt
  decl_among (tree.procedure h s) outer =
      let inner = blocks_of s of_procedure (h.name.spot ∷ outer) in
      let named = spots_of_names h.params ++ spots_of_names h.values ++ spots_of_names (specified h) in
      inl (refl, behind named (spots_at inner) (spots_of_stmt s) (stmt_among s of_procedure (h.name.spot ∷ outer)))

  decls_among : (ds : PDecls) (outer : List Spot) → AreAmong (spots_at (blocks_in_decls ds outer)) (spots_of_decls ds)
  decls_among tree.no_decls outer = tt
  decls_among (tree.decls d ds) outer =
      both_at (blocks_in_decl d outer) (blocks_in_decls ds outer) (spots_of_decl d) (spots_of_decls ds) (decl_among d outer) (decls_among ds outer)

  body_among : (b : PBody) (outer : List Spot) → AreAmong (spots_at (blocks_in_body b outer)) (spots_in b)
  body_among (tree.body spot ds ss) outer =
      both_at (blocks_in_decls ds outer) (blocks_in_stmts ss outer) (spots_of_decls ds) (spots_of_stmts ss) (decls_among ds outer) (stmts_among ss outer)

pub stand_apart : (p : PProgram) → IsInOrder p → StandApart (blocks_of_program p)
unfolding blocks_of_program
stand_apart (tree.program (tree.body spot ds ss)) h =
    let b = tree.body spot ds ss in
    let bs = blocks_in_body b (spot ∷ []) in
    all_found (outer_block b ∷ bs) (ordered_among (spots_at (outer_block b ∷ bs)) (spots_of_body b) (ordered (spots_of_body b) h) (inl (refl, body_among b (spot ∷ []))))
