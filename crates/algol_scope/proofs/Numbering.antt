-- The blocks of a tree whose places ascend have each their own number.
use Rattle.std.proofs.Common.{◌≡◌, ℕ, ◌+◌, Bool, true, List, [], ◌∷◌, ◌++◌, map, length, Option, Some, None, refl, ap, sym, ◌∙◌, subst, arith, append_assoc, append-nil, length-append, slice_get}
use Rattle.std.specs.Prelude.{if◌then◌else◌}
use Rattle.std.proofs.lemmas.List.{map-append}
use Rattle.algol_tree.specs.declared.token.Spot.{Spot}
use Rattle.algol_tree.specs.Plain as tree
use Rattle.algol_tree.specs.Plain.{PExpr, PExprs, PStmt, PStmts, PDecl, PDecls, PBody, PProgram}
use Rattle.algol_tree.specs.Blocks.{Block, Begin, of_statement, of_procedure, own_block, own_outer, blocks_of, blocks_in_stmts, blocks_in_decl, blocks_in_decls, blocks_in_body, blocks_of_program, number_at}
use Rattle.algol_tree.specs.Ascending.{IsAhead, Ascends, IsInOrder, spots_of, spots_of_expr, spots_of_exprs, spots_of_names, spots_of_heading, spots_of_pairs, spots_of_stmt, spots_of_stmts, spots_of_decl, spots_of_decls, spots_of_body}
use Rattle.algol_tree.specs.Accepted.{is_before}
use Rattle.algol_tree.specs.Names.{specified}
use Rattle.algol_tree.proofs.Spots.{before_apart, before_on, same_spot_itself}
use Rattle.algol_scope.specs.Stating.{AreNumbered}

-- ---- places that stand before all others

abbrev IsFirst : Spot → List Spot → Type 0
IsFirst s [] = Unit {0}
IsFirst s (x ∷ xs) = (is_before s x ≡ true) × IsFirst s xs

abbrev Sorted : List Spot → Type 0
Sorted [] = Unit {0}
Sorted (x ∷ xs) = IsFirst x xs × Sorted xs

first_ahead : (s x : Spot) (xs : List Spot) → is_before s x ≡ true → IsAhead x xs → Ascends xs → IsFirst s xs
first_ahead s x [] e h a = tt
first_ahead s x (y ∷ ys) e h a = (before_on s x y e h, first_ahead s y ys (before_on s x y e h) a.0 a.1)

first_of_all : (s : Spot) (xs : List Spot) → IsAhead s xs → Ascends xs → IsFirst s xs
first_of_all s [] h a = tt
first_of_all s (x ∷ xs) h a = (h, first_ahead s x xs h a.0 a.1)

ascends_sorted : (xs : List Spot) → Ascends xs → Sorted xs
ascends_sorted [] a = tt
ascends_sorted (x ∷ xs) a = (first_of_all x xs a.0 a.1, ascends_sorted xs a.1)

-- ---- some of the places, in their order

-- before the first places stands what is before all, and they ascend where all do
record Sub (xs ys : List Spot) : Type 0 where
  pub first : (s : Spot) → IsFirst s ys → IsFirst s xs
  pub sorted : Sorted ys → Sorted xs

sub_none : Sub [] []
sub_none = record { first = λ s f. tt; sorted = λ s. tt }

sub_take : (x : Spot) (xs ys : List Spot) → Sub xs ys → Sub (x ∷ xs) (x ∷ ys)
sub_take x xs ys m = record { first = λ s f. (f.0, m.first s f.1); sorted = λ s. (m.first x s.0, m.sorted s.1) }

sub_skip : (y : Spot) (xs ys : List Spot) → Sub xs ys → Sub xs (y ∷ ys)
sub_skip y xs ys m = record { first = λ s f. m.first s f.1; sorted = λ s. m.sorted s.1 }

sub_behind : (us xs ys : List Spot) → Sub xs ys → Sub xs (us ++ ys)
sub_behind [] xs ys m = m
sub_behind (u ∷ us) xs ys m = sub_skip u xs (us ++ ys) (sub_behind us xs ys m)

-- the first places are some of the others, whatever stands after both
record Among (xs us : List Spot) : Type 0 where
  pub sub : (ys vs : List Spot) → Sub ys vs → Sub (xs ++ ys) (us ++ vs)

none : (us : List Spot) → Among [] us
none us = record { sub = λ ys vs h. sub_behind us ys vs h }

take : (x : Spot) (xs us : List Spot) → Among xs us → Among (x ∷ xs) (x ∷ us)
take x xs us m = record { sub = λ ys vs h. sub_take x (xs ++ ys) (us ++ vs) (m.sub ys vs h) }

skip : (u : Spot) (xs us : List Spot) → Among xs us → Among xs (u ∷ us)
skip u xs us m = record { sub = λ ys vs h. sub_skip u (xs ++ ys) (us ++ vs) (m.sub ys vs h) }

among_behind : (xs ws us : List Spot) → Among xs us → Among xs (ws ++ us)
among_behind xs ws us m =
    record {
      sub =
          λ ys vs h.
          let P : List Spot → Type 0 = λ z. Sub (xs ++ ys) z in
          subst P (sym (append_assoc ws us vs)) (sub_behind ws (xs ++ ys) (us ++ vs) (m.sub ys vs h));
    }

among_ahead : (xs us ws : List Spot) → Among xs us → Among xs (us ++ ws)
among_ahead xs us ws m =
    record {
      sub =
          λ ys vs h.
          let P : List Spot → Type 0 = λ z. Sub (xs ++ ys) z in
          subst P (sym (append_assoc us ws vs)) (m.sub ys (ws ++ vs) (sub_behind ws ys vs h));
    }

among_append : (xs zs us ws : List Spot) → Among xs us → Among zs ws → Among (xs ++ zs) (us ++ ws)
among_append xs zs us ws m n =
    record {
      sub =
          λ ys vs h.
          let P : List Spot → Type 0 = λ z. Sub z (us ++ (ws ++ vs)) in
          let Q : List Spot → Type 0 = λ z. Sub ((xs ++ zs) ++ ys) z in
          subst Q (sym (append_assoc us ws vs))
          (subst P (sym (append_assoc xs zs ys)) (m.sub (zs ++ ys) (ws ++ vs) (n.sub ys vs h)));
    }

sorted_among : (xs us : List Spot) → Among xs us → Sorted us → Sorted xs
sorted_among xs us m s =
    let P : List Spot → Type 0 = λ z. Sub z us in
    let Q : List Spot → Type 0 = λ z. Sub (xs ++ []) z in
    let h : Sub xs us = subst P (append-nil xs) (subst Q (append-nil us) (m.sub [] [] sub_none)) in
    h.sorted s

-- ---- the places of blocks are among those of the tree

abbrev places : List Block → List Spot
places bs = map (λ (b : Block). b.spot) bs

places_append : (bs cs : List Block) → places (bs ++ cs) ≡ places bs ++ places cs
places_append bs cs = map-append (λ (b : Block). b.spot) bs cs

both : (bs cs : List Block) (us vs : List Spot) → Among (places bs) us → Among (places cs) vs → Among (places (bs ++ cs)) (us ++ vs)
both bs cs us vs m n =
    let P : List Spot → Type 0 = λ z. Among z (us ++ vs) in
    subst P (sym (places_append bs cs)) (among_append (places bs) (places cs) us vs m n)

mutual
  in_stmt : (s : PStmt) (begin : Begin) (outer : List Spot) → Among (places (blocks_of s begin outer)) (spots_of_stmt s)
  in_stmt tree.empty begin outer = none []
  in_stmt (tree.label n s) begin outer = skip n.spot (places (blocks_of s of_statement outer)) (spots_of_stmt s) (in_stmt s of_statement outer)
  in_stmt (tree.assign v e) begin outer = none (spots_of_stmt (tree.assign v e))
  in_stmt (tree.call_of c) begin outer = none (spots_of_stmt (tree.call_of c))
  in_stmt (tree.go_to n) begin outer = none (n.spot ∷ [])
  in_stmt (tree.block b) of_statement outer = in_begin b outer
  in_stmt (tree.block b) of_procedure outer = in_body b outer
  in_stmt (tree.if_then c x) begin outer =
      among_behind (places (blocks_of x of_statement outer)) (spots_of_expr c) (spots_of_stmt x) (in_stmt x of_statement outer)
  in_stmt (tree.if_else c x y) begin outer =
      both (blocks_of x of_statement outer) (blocks_of y of_statement outer) (spots_of_expr c ++ spots_of_stmt x) (spots_of_stmt y)
      (among_behind (places (blocks_of x of_statement outer)) (spots_of_expr c) (spots_of_stmt x) (in_stmt x of_statement outer))
      (in_stmt y of_statement outer)
  in_stmt (tree.while c b) begin outer =
      among_behind (places (blocks_of b of_statement outer)) (spots_of_expr c) (spots_of_stmt b) (in_stmt b of_statement outer)
  in_stmt (tree.until b c) begin outer =
      among_ahead (places (blocks_of b of_statement outer)) (spots_of_stmt b) (spots_of_expr c) (in_stmt b of_statement outer)
  in_stmt (tree.for v x s l b) begin outer =
      let bs = places (blocks_of b of_statement outer) in
      skip v.spot bs (((spots_of_expr x ++ spots_of_expr s) ++ spots_of_expr l) ++ spots_of_stmt b)
      (among_behind bs ((spots_of_expr x ++ spots_of_expr s) ++ spots_of_expr l) (spots_of_stmt b) (in_stmt b of_statement outer))
  in_stmt (tree.thru e b) begin outer =
      among_behind (places (blocks_of b of_statement outer)) (spots_of_expr e) (spots_of_stmt b) (in_stmt b of_statement outer)
  in_stmt (tree.case e ss) begin outer =
      among_behind (places (blocks_in_stmts ss outer)) (spots_of_expr e) (spots_of_stmts ss) (in_stmts ss outer)
  in_stmt (tree.process c task) begin outer = none (spots_of_stmt (tree.process c task))
  in_stmt (tree.event act e) begin outer = none (e.name.spot ∷ [])
  in_stmt (tree.write n spot phrases es) begin outer = none (n.spot ∷ spots_of_exprs es)

  in_begin : (b : PBody) (outer : List Spot) → Among (places (own_block b outer ++ blocks_in_body b (own_outer b outer))) (spots_of_body b)
  in_begin (tree.body spot tree.no_decls ss) outer = skip spot (places (blocks_in_stmts ss outer)) (spots_of_stmts ss) (in_stmts ss outer)
  in_begin (tree.body spot (tree.decls d ds) ss) outer =
      let inner : List Spot = spot ∷ outer in
      take spot (places ((blocks_in_decl d inner ++ blocks_in_decls ds inner) ++ blocks_in_stmts ss inner))
      ((spots_of_decl d ++ spots_of_decls ds) ++ spots_of_stmts ss)
      (both (blocks_in_decl d inner ++ blocks_in_decls ds inner) (blocks_in_stmts ss inner) (spots_of_decl d ++ spots_of_decls ds) (spots_of_stmts ss)
      (both (blocks_in_decl d inner) (blocks_in_decls ds inner) (spots_of_decl d) (spots_of_decls ds) (in_decl d inner) (in_decls ds inner))
      (in_stmts ss inner))

  in_stmts : (ss : PStmts) (outer : List Spot) → Among (places (blocks_in_stmts ss outer)) (spots_of_stmts ss)
  in_stmts tree.no_stmts outer = none []
  in_stmts (tree.stmts s ss) outer =
      both (blocks_of s of_statement outer) (blocks_in_stmts ss outer) (spots_of_stmt s) (spots_of_stmts ss) (in_stmt s of_statement outer)
      (in_stmts ss outer)

  in_decl : (d : PDecl) (outer : List Spot) → Among (places (blocks_in_decl d outer)) (spots_of_decl d)
  in_decl (tree.simple kind ns) outer = none (spots_of_names ns)
  in_decl (tree.files ns) outer = none (spots_of_names ns)
  in_decl (tree.events ns) outer = none (spots_of_names ns)
  in_decl (tree.tasks ns) outer = none (spots_of_names ns)
  in_decl (tree.labels ns) outer = none (spots_of_names ns)
  in_decl (tree.arrays kind ns ps) outer = none (spots_of_names ns ++ spots_of_pairs ps)
  in_decl (tree.forward h) outer = none (spots_of_heading h)
  in_decl (tree.procedure h s) outer =
      let rest : List Spot = (spots_of_names h.params ++ spots_of_names h.values) ++ spots_of_names (specified h) in
      take h.name.spot (places (blocks_of s of_procedure (h.name.spot ∷ outer))) (rest ++ spots_of_stmt s)
      (among_behind (places (blocks_of s of_procedure (h.name.spot ∷ outer))) rest (spots_of_stmt s) (in_stmt s of_procedure (h.name.spot ∷ outer)))

  in_decls : (ds : PDecls) (outer : List Spot) → Among (places (blocks_in_decls ds outer)) (spots_of_decls ds)
  in_decls tree.no_decls outer = none []
  in_decls (tree.decls d ds) outer =
      both (blocks_in_decl d outer) (blocks_in_decls ds outer) (spots_of_decl d) (spots_of_decls ds) (in_decl d outer) (in_decls ds outer)

  in_body : (b : PBody) (outer : List Spot) → Among (places (blocks_in_body b outer)) (spots_of_body b)
  in_body (tree.body spot ds ss) outer =
      skip spot (places (blocks_in_decls ds outer ++ blocks_in_stmts ss outer)) (spots_of_decls ds ++ spots_of_stmts ss)
      (both (blocks_in_decls ds outer) (blocks_in_stmts ss outer) (spots_of_decls ds) (spots_of_stmts ss) (in_decls ds outer) (in_stmts ss outer))

in_program : (p : PProgram) → Among (places (blocks_of_program p)) (spots_of p)
unfolding blocks_of_program
in_program (tree.program (tree.body spot ds ss)) =
    take spot (places (blocks_in_decls ds (spot ∷ []) ++ blocks_in_stmts ss (spot ∷ []))) (spots_of_decls ds ++ spots_of_stmts ss)
    (both (blocks_in_decls ds (spot ∷ [])) (blocks_in_stmts ss (spot ∷ [])) (spots_of_decls ds) (spots_of_stmts ss) (in_decls ds (spot ∷ []))
    (in_stmts ss (spot ∷ [])))

-- ---- numbers

abbrev block_or : Option Block → Block
block_or (Some b) = b
block_or None =
    record {
      spot = record { line = 0; column = 0 };
      outer = [];
      name = [];
      parameters = [];
      result = None;
      decls = tree.no_decls;
      stmts = tree.no_stmts;
    }

pub at_length : (pre suf : List Block) (b : Block) → slice_get (pre ++ b ∷ suf) (length pre) ≡ Some b
at_length [] suf b = refl
at_length (p ∷ pre) suf b = at_length pre suf b

first_of : (s : Spot) (pre suf : List Block) (b : Block) → IsFirst s (places (pre ++ b ∷ suf)) → is_before s b.spot ≡ true
first_of s [] suf b f = f.0
first_of s (p ∷ pre) suf b f = first_of s pre suf b f.1

number_here : (pre suf : List Block) (b : Block) → Sorted (places (pre ++ b ∷ suf)) → number_at (pre ++ b ∷ suf) b.spot ≡ length pre
number_here [] suf b s = ap (λ (x : Bool). if x then 0 else number_at suf b.spot + 1) (same_spot_itself b.spot)
number_here (p ∷ pre) suf b s =
    let one : length pre + 1 ≡ length (p ∷ pre) = omega arith in
    ap (λ (x : Bool). if x then 0 else number_at (pre ++ b ∷ suf) b.spot + 1) (before_apart p.spot b.spot (first_of p.spot pre suf b s.0))
    ∙ ap (λ z. z + 1) (number_here pre suf b s.1) ∙ one

numbered : (pre suf : List Block) → Sorted (places (pre ++ suf)) → AreNumbered (pre ++ suf) (length pre) suf
numbered pre [] s = tt
numbered pre (b ∷ suf) s =
    let e : (pre ++ b ∷ []) ++ suf ≡ pre ++ b ∷ suf = append_assoc pre (b ∷ []) suf in
    let n : length (pre ++ b ∷ []) ≡ length pre + 1 = length-append pre (b ∷ []) in
    let S : List Block → Type 0 = λ z. Sorted (places z) in
    let P : List Block → Type 0 = λ z. AreNumbered z (length (pre ++ b ∷ [])) suf in
    let Q : ℕ → Type 0 = λ z. AreNumbered (pre ++ b ∷ suf) z suf in
    (number_here pre suf b s, (ap block_or (at_length pre suf b), subst Q n (subst P e (numbered (pre ++ b ∷ []) suf (subst S (sym e) s)))))

pub in_order : (p : PProgram) → IsInOrder p → AreNumbered (blocks_of_program p) 0 (blocks_of_program p)
in_order p h =
    numbered [] (blocks_of_program p) (sorted_among (places (blocks_of_program p)) (spots_of p) (in_program p) (ascends_sorted (spots_of p) h))
