-- A block that is no procedure's stands in the text of one before it: that block is next around it, and has as many tokens at least.
use Rattle.std.proofs.Common.{◌≡◌, refl, sym, ap, ◌∙◌, subst, ℕ, zero, suc, ◌+◌, ◌<◌, ◌≤◌, Bool, true, false, List, [], ◌∷◌, ◌++◌, length, map, Some, None, arith, add-one, append_assoc}
use Rattle.b67_list.proofs.Lists.{first_same, get_within}
use Rattle.b67_list.proofs.Numbers.{none_some}
use Rattle.b67_list.proofs.Truths.{true_false}
use Rattle.b67_rows.proofs.Prelude.{if◌then◌else◌, not, slice_get, Block, block_numbered, number_at, around, stmt_tokens, stmts_tokens, decls_tokens, PStmt, PStmts, PDecls, PBody, Scopes, Spot, Named, Item, items, event_items, decls_items, ending, items_of, BlockIsSeen, IsSeenAround, IsInner, is_procedure, InStmt, InStmts, InItems, InDeclared, some_same}
use Rattle.algol_tree.specs.declared.tree.Heading.{Heading}
use Rattle.algol_tree.specs.Blocks.{same_spot, of_statement, of_procedure, procedure_block, blocks_of, blocks_in_decl, blocks_in_decls, blocks_in_stmts, blocks_in_body, spot_of, outer_block}
use Rattle.algol_tree.specs.Plain as tree
use Rattle.algol_tree.specs.Sorts.{same_name}
use Rattle.algol_tree.proofs.Spots.{same_spot_is}
use Rattle.algol_tree.proofs.Trees.{block_is, got_numbered}
use Rattle.algol_paths.specs.Laws.{ItemsKeepToText}
use Rattle.b67_templates.specs.Names.{DeclsNamed, StmtNamed, StmtsNamed, BodyNamed}
use Rattle.b67_templates.specs.Nested.{AreNested}

-- the tokens of a block's own declarations and statements
abbrev pub own_tokens : Block → ℕ
own_tokens b = decls_tokens b.decls + stmts_tokens b.stmts

-- ---- the statements of a text

module _ (P : Named → Type 0) (Q : PBody → Type 0) (R : Named → Type 0) where
  in_stmts : (ss : PStmts) (k : List Item) → InItems P Q (items ss k) → InStmts P Q ss
  in_stmts tree.no_stmts k i = tt
  in_stmts (tree.stmts s ss) k i = (i.0, in_stmts ss k i.1)

  first_stmts : (ss : PStmts) (k : List Item) → InDeclared P Q R (items ss k) → InStmts P Q ss
  first_stmts tree.no_stmts k i = tt
  first_stmts (tree.stmts s ss) k i = (i.0, in_stmts ss k i.1)

  after_events : (ns : List Named) (k : List Item) → InDeclared P Q R (event_items ns ++ k) → InDeclared P Q R k
  after_events [] k i = i
  after_events (n ∷ ns) k i = after_events ns k i

  -- those of a block, after what its declarations make
  text_stmts : (ds : PDecls) (ss : PStmts) (k : List Item) → InDeclared P Q R (decls_items ds ++ items ss k) → InStmts P Q ss
  text_stmts tree.no_decls ss k i = first_stmts ss k i
  text_stmts (tree.decls (tree.arrays kind ns pairs) ds) ss k i = text_stmts ds ss k i.1
  text_stmts (tree.decls (tree.events ns) ds) ss k i =
      text_stmts ds ss k
      (after_events ns (decls_items ds ++ items ss k) (subst (λ (m : List Item). InDeclared P Q R m) (append_assoc (event_items ns) (decls_items ds) (items ss k)) i))
  text_stmts (tree.decls (tree.tasks ns) ds) ss k i =
      text_stmts ds ss k
      (after_events ns (decls_items ds ++ items ss k) (subst (λ (m : List Item). InDeclared P Q R m) (append_assoc (event_items ns) (decls_items ds) (items ss k)) i))
  text_stmts (tree.decls _ ds) ss k i = text_stmts ds ss k i

-- ---- blocks by their numbers

not_empty : {X : Type 0} {A : Type 0} (y : X) (ys : List X) → [] ≡ y ∷ ys → A
not_empty y ys e = cc

-- the number of a place is that of a block which stands there
spot_there : (cs : List Block) (s : Spot) → number_at cs s < length cs → (block_numbered cs (number_at cs s)).spot ≡ s
spot_there [] s h = absurd (omega (arith, h))
spot_there (c ∷ cs) s h = by (spot_there cs s) (same_spot c.spot s) refl h
  where
    by : (number_at cs s < length cs → (block_numbered cs (number_at cs s)).spot ≡ s) → (t : Bool) → same_spot c.spot s ≡ t → (if t then 0 else number_at cs s + 1) < length (c ∷ cs) →
        (block_numbered (c ∷ cs) (if t then 0 else number_at cs s + 1)).spot ≡ s
    by later true e h = same_spot_is c.spot s e
    by later false e h = ap (λ (m : ℕ). (block_numbered (c ∷ cs) m).spot) (add-one (number_at cs s)) ∙ later (omega (arith, h))

-- so the block that is next around another has the number of its place
next_number : (bs : List Block) (j k : ℕ) → j < length bs → around bs k ≡ j ∷ around bs j → number_at bs ((block_numbered bs j).spot) ≡ j
next_number bs j k known e = by ((block_numbered bs k).outer) e
  where
    by : (spots : List Spot) → map (number_at bs) spots ≡ j ∷ around bs j → number_at bs ((block_numbered bs j).spot) ≡ j
    by [] f = not_empty j (around bs j) f
    by (s ∷ spots) f =
        let first : number_at bs s ≡ j = first_same (number_at bs s) j (map (number_at bs) spots) (around bs j) f in
        ap (λ (m : ℕ). number_at bs ((block_numbered bs m).spot)) (sym first) ∙ ap (number_at bs) (spot_there bs s (omega (arith, first, known))) ∙ first

module _ (bs : List Block) where
  -- from this number on these are the blocks
  abbrev pub There : ℕ → List Block → Type 0
  There n [] = Unit {0}
  There n (c ∷ cs) = (slice_get bs n ≡ Some c) × There (suc n) cs

  there_front : (n : ℕ) (xs ys : List Block) → There n (xs ++ ys) → There n xs
  there_front n [] ys h = tt
  there_front n (x ∷ xs) ys h = (h.0, there_front (suc n) xs ys h.1)

  there_back : (n m : ℕ) (xs ys : List Block) → m ≡ length xs + n → There n (xs ++ ys) → There m ys
  there_back n m [] ys e h = let same : n ≡ m = omega (arith, e) in subst (λ (k : ℕ). There k ys) same h
  there_back n m (x ∷ xs) ys e h = there_back (suc n) m xs ys (omega (arith, e)) h.1

  -- the block with this number stands in the text of one before it
  pub record Inside (k : ℕ) : Type 0 where
    pub outer : ℕ
    pub before : outer < k
    pub around_is : around bs k ≡ outer ∷ around bs outer
    pub fewer : own_tokens (block_numbered bs k) ≤ own_tokens (block_numbered bs outer)

  -- so do these, from this number on, that are no procedures'
  abbrev pub AreInside : ℕ → List Block → Type 0
  AreInside n [] = Unit {0}
  AreInside n (c ∷ cs) = (is_procedure c ≡ false → Inside n) × AreInside (suc n) cs

  inside_both : (n m : ℕ) (xs ys : List Block) → m ≡ length xs + n → AreInside n xs → AreInside m ys → AreInside n (xs ++ ys)
  inside_both n m [] ys e h k = let same : m ≡ n = omega (arith, e) in subst (λ (i : ℕ). AreInside i ys) same k
  inside_both n m (x ∷ xs) ys e h k = (h.0, inside_both (suc n) m xs ys (omega (arith, e)) h.1 k)

  inside_at : (cs : List Block) (n k m : ℕ) (c : Block) → m ≡ k + n → AreInside n cs → slice_get cs k ≡ Some c → is_procedure c ≡ false → Inside m
  inside_at [] n k m c e h there none = none_some there
  inside_at (d ∷ cs) n zero m c e h there none = let same : n ≡ m = omega (arith, e) in subst Inside same (h.0 (ap is_procedure (some_same there) ∙ none))
  inside_at (d ∷ cs) n (suc k) m c e h there none = inside_at cs (suc n) k m c (omega (arith, e)) h.1 there none

  -- what stands from the number n on stands in the text of the block j, where those are the places of the blocks around it
  record InText (j n : ℕ) (outer : List Spot) : Type 0 where
    known : j < length bs
    before : j < n
    outer_is : outer ≡ (block_numbered bs j).spot ∷ (block_numbered bs j).outer

  further : (j n m : ℕ) (outer : List Spot) → n ≤ m → InText j n outer → InText j m outer
  further j n m outer h t = record { known = t.known; before = omega (arith, t.before, h); outer_is = t.outer_is }

  -- what stands in a block
  own_text : (n : ℕ) (c : Block) → slice_get bs n ≡ Some c → InText n (suc n) (c.spot ∷ c.outer)
  own_text n c e =
      record {
        known = get_within bs n c e;
        before = omega arith;
        outer_is = ap (λ (b : Block). b.spot ∷ b.outer) (sym (block_is bs n c e));
      }

there_on : (x : Block) (bs cs : List Block) (n : ℕ) → There bs n cs → There (x ∷ bs) (suc n) cs
there_on x bs [] n h = tt
there_on x bs (c ∷ cs) n h = (h.0, there_on x bs cs (suc n) h.1)

there_all : (cs : List Block) → There cs 0 cs
there_all [] = tt
there_all (c ∷ cs) = (refl, there_on c cs cs 0 (there_all cs))

-- ---- texts

module _ (sc : Scopes) (nested : AreNested sc) where
  abbrev bs : List Block
  bs = sc.blocks

  -- the statements of the block with number j keep to its text
  abbrev Stated : ℕ → PStmts → Type 0
  Stated j ss = InStmts (BlockIsSeen sc j) (IsInner sc j) ss

  own_stated : (n : ℕ) (c : Block) → slice_get bs n ≡ Some c → Stated n c.stmts
  own_stated n c e =
      text_stmts (BlockIsSeen sc n) (IsInner sc n) (IsSeenAround sc n) c.decls c.stmts (ending c)
      (subst (λ (b : Block). ItemsKeepToText sc n (items_of b)) (block_is bs n c e) (nested.each n (get_within bs n c e)).items)

  own_few : (n : ℕ) (c : Block) → slice_get bs n ≡ Some c → stmts_tokens c.stmts ≤ own_tokens (block_numbered bs n)
  own_few n c e = omega (arith, ap own_tokens (block_is bs n c e))

  -- the block of a statement
  inner_inside : (j n : ℕ) (c : Block) → InText bs j n c.outer → slice_get bs n ≡ Some c → (b : PBody) → IsInner sc j b → own_tokens c ≤ own_tokens (block_numbered bs j) → Inside bs n
  inner_inside j n c t there b i few =
      record {
        outer = j;
        before = t.before;
        around_is =
            ap (λ (x : Block). map (number_at bs) x.outer) (block_is bs n c there) ∙ ap (map (number_at bs)) t.outer_is
            ∙ ap (λ (m : ℕ). m ∷ around bs j) (next_number bs j (number_at bs (spot_of b)) t.known i.around_is);
        fewer = omega (arith, ap own_tokens (block_is bs n c there), few);
      }

  -- what stands in declarations, and then what stands in statements
  body_inside : (ds : PDecls) (ss : PStmts) (j n : ℕ) (outer : List Spot) → InText bs j n outer →
      (There bs n (blocks_in_decls ds outer) → AreInside bs n (blocks_in_decls ds outer)) →
      ((m : ℕ) → InText bs j m outer → There bs m (blocks_in_stmts ss outer) → AreInside bs m (blocks_in_stmts ss outer)) →
      There bs n (blocks_in_decls ds outer ++ blocks_in_stmts ss outer) → AreInside bs n (blocks_in_decls ds outer ++ blocks_in_stmts ss outer)
  body_inside ds ss j n outer t in_decls in_text h =
      let m : ℕ = length (blocks_in_decls ds outer) + n in
      inside_both bs n m (blocks_in_decls ds outer) (blocks_in_stmts ss outer) refl (in_decls (there_front bs n (blocks_in_decls ds outer) (blocks_in_stmts ss outer) h))
      (in_text m (further bs j n m outer (omega arith) t) (there_back bs n m (blocks_in_decls ds outer) (blocks_in_stmts ss outer) refl h))

  -- a procedure's block, what stands in it, and what comes after it
  procedure_inside : (h : Heading) (s : PStmt) (rest : List Block) (n : ℕ) (outer : List Spot) → same_name h.name.name [] ≡ false →
      (slice_get bs n ≡ Some (procedure_block h s outer) → There bs (suc n) (blocks_of s of_procedure (h.name.spot ∷ outer)) → AreInside bs (suc n) (blocks_of s of_procedure (h.name.spot ∷ outer))) →
      ((m : ℕ) → There bs m rest → AreInside bs m rest) → There bs n (blocks_in_decl (tree.procedure h s) outer ++ rest) → AreInside bs n (blocks_in_decl (tree.procedure h s) outer ++ rest)
  procedure_inside h s rest n outer named inner later t =
      let m : ℕ = length (blocks_in_decl (tree.procedure h s) outer) + n in
      let front : There bs n (blocks_in_decl (tree.procedure h s) outer) = there_front bs n (blocks_in_decl (tree.procedure h s) outer) rest t in
      inside_both bs n m (blocks_in_decl (tree.procedure h s) outer) rest refl
      ((λ none. true_false (ap not named) none), inner front.0 front.1)
      (later m (there_back bs n m (blocks_in_decl (tree.procedure h s) outer) rest refl t))

  mutual
    stmt_inside : (s : PStmt) (j n : ℕ) (outer : List Spot) → InText bs j n outer → StmtNamed s → InStmt (BlockIsSeen sc j) (IsInner sc j) s → stmt_tokens s ≤ own_tokens (block_numbered bs j) →
        There bs n (blocks_of s of_statement outer) → AreInside bs n (blocks_of s of_statement outer)
    stmt_inside (tree.label l s) j n outer t named i few h = stmt_inside s j n outer t named i (omega (arith, few)) h
    stmt_inside (tree.block (tree.body spot tree.no_decls ss)) j n outer t named i few h = stmts_inside ss j n outer t named.1 i (omega (arith, few)) h
    stmt_inside (tree.block (tree.body spot (tree.decls d ds) ss)) j n outer t named i few h =
        let c : Block = record { spot = spot; outer = outer; name = []; parameters = []; result = None; decls = tree.decls d ds; stmts = ss } in (
          (λ none. inner_inside j n c t h.0 (tree.body spot (tree.decls d ds) ss) i (omega (arith, few))),
          body_inside (tree.decls d ds) ss n (suc n) (spot ∷ outer) (own_text bs n c h.0) (decls_inside (tree.decls d ds) (suc n) (spot ∷ outer) named.0)
              (λ m u. stmts_inside ss n m (spot ∷ outer) u named.1 (own_stated n c h.0) (own_few n c h.0)) h.1,
        )
    stmt_inside (tree.if_then c x) j n outer t named i few h = stmt_inside x j n outer t named i.1 (omega (arith, few)) h
    stmt_inside (tree.if_else c x y) j n outer t named i few h =
        let xs : List Block = blocks_of x of_statement outer in
        let ys : List Block = blocks_of y of_statement outer in
        let m : ℕ = length xs + n in
        inside_both bs n m xs ys refl (stmt_inside x j n outer t named.0 i.1 (omega (arith, few)) (there_front bs n xs ys h))
        (stmt_inside y j m outer (further bs j n m outer (omega arith) t) named.1 i.2 (omega (arith, few)) (there_back bs n m xs ys refl h))
    stmt_inside (tree.while c b) j n outer t named i few h = stmt_inside b j n outer t named i.1 (omega (arith, few)) h
    stmt_inside (tree.until b c) j n outer t named i few h = stmt_inside b j n outer t named i.0 (omega (arith, few)) h
    stmt_inside (tree.for v a s l b) j n outer t named i few h = stmt_inside b j n outer t named i.4 (omega (arith, few)) h
    stmt_inside (tree.thru e b) j n outer t named i few h = stmt_inside b j n outer t named i.1 (omega (arith, few)) h
    stmt_inside (tree.case e ss) j n outer t named i few h = stmts_inside ss j n outer t named i.1 (omega (arith, few)) h
    stmt_inside tree.empty j n outer t named i few h = tt
    stmt_inside (tree.assign v e) j n outer t named i few h = tt
    stmt_inside (tree.call_of c) j n outer t named i few h = tt
    stmt_inside (tree.go_to l) j n outer t named i few h = tt
    stmt_inside (tree.process c task) j n outer t named i few h = tt
    stmt_inside (tree.event act e) j n outer t named i few h = tt
    stmt_inside (tree.write l spot phrases es) j n outer t named i few h = tt

    stmts_inside : (ss : PStmts) (j n : ℕ) (outer : List Spot) → InText bs j n outer → StmtsNamed ss → Stated j ss → stmts_tokens ss ≤ own_tokens (block_numbered bs j) →
        There bs n (blocks_in_stmts ss outer) → AreInside bs n (blocks_in_stmts ss outer)
    stmts_inside tree.no_stmts j n outer t named i few h = tt
    stmts_inside (tree.stmts s ss) j n outer t named i few h =
        let xs : List Block = blocks_of s of_statement outer in
        let ys : List Block = blocks_in_stmts ss outer in
        let m : ℕ = length xs + n in
        inside_both bs n m xs ys refl (stmt_inside s j n outer t named.0 i.0 (omega (arith, few)) (there_front bs n xs ys h))
        (stmts_inside ss j m outer (further bs j n m outer (omega arith) t) named.1 i.1 (omega (arith, few)) (there_back bs n m xs ys refl h))

    decls_inside : (ds : PDecls) (n : ℕ) (outer : List Spot) → DeclsNamed ds → There bs n (blocks_in_decls ds outer) → AreInside bs n (blocks_in_decls ds outer)
    decls_inside tree.no_decls n outer named h = tt
    decls_inside (tree.decls (tree.procedure g (tree.block (tree.body spot ds' ss))) ds) n outer named h =
        let s : PStmt = tree.block (tree.body spot ds' ss) in
        let c : Block = procedure_block g s outer in
        procedure_inside g s (blocks_in_decls ds outer) n outer named.0.0
        (λ there inner. body_inside ds' ss n (suc n) (g.name.spot ∷ outer) (own_text bs n c there) (decls_inside ds' (suc n) (g.name.spot ∷ outer) named.0.1.0)
        (λ m u. stmts_inside ss n m (g.name.spot ∷ outer) u named.0.1.1 (own_stated n c there) (own_few n c there)) inner)
        (λ m. decls_inside ds m outer named.1) h
    decls_inside (tree.decls (tree.procedure g s) ds) n outer named h =
        procedure_inside g s (blocks_in_decls ds outer) n outer named.0.0
        (λ there inner. stmt_inside s n (suc n) (g.name.spot ∷ outer) (own_text bs n (procedure_block g s outer) there) named.0.1 (own_stated n (procedure_block g s outer) there).0
        (omega (arith, own_few n (procedure_block g s outer) there)) inner)
        (λ m. decls_inside ds m outer named.1) h
    decls_inside (tree.decls (tree.simple kind ns) ds) n outer named h = decls_inside ds n outer named.1 h
    decls_inside (tree.decls (tree.files ns) ds) n outer named h = decls_inside ds n outer named.1 h
    decls_inside (tree.decls (tree.events ns) ds) n outer named h = decls_inside ds n outer named.1 h
    decls_inside (tree.decls (tree.tasks ns) ds) n outer named h = decls_inside ds n outer named.1 h
    decls_inside (tree.decls (tree.labels ns) ds) n outer named h = decls_inside ds n outer named.1 h
    decls_inside (tree.decls (tree.arrays kind ns pairs) ds) n outer named h = decls_inside ds n outer named.1 h
    decls_inside (tree.decls (tree.forward g) ds) n outer named h = decls_inside ds n outer named.1 h

  -- each of them is, where these are the blocks of a program
  pub blocks_inside : (b : PBody) → bs ≡ outer_block b ∷ blocks_in_body b (spot_of b ∷ []) → BodyNamed b → (k : ℕ) → suc k < length bs → is_procedure (block_numbered bs (suc k)) ≡ false → Inside bs (suc k)
  blocks_inside (tree.body spot ds ss) e named k known none =
      let c : Block = outer_block (tree.body spot ds ss) in
      let rest : List Block = blocks_in_decls ds (spot ∷ []) ++ blocks_in_stmts ss (spot ∷ []) in
      let first : slice_get bs 0 ≡ Some c = ap (λ (cs : List Block). slice_get cs 0) e in
      inside_at bs rest 1 k (suc k) (block_numbered bs (suc k)) (omega arith)
      (body_inside ds ss 0 1 (spot ∷ []) (own_text bs 0 c first) (decls_inside ds 1 (spot ∷ []) named.0)
      (λ m u. stmts_inside ss 0 m (spot ∷ []) u named.1 (own_stated 0 c first) (own_few 0 c first))
      (subst (λ (cs : List Block). There cs 1 rest) (sym e) (there_all (c ∷ rest)).1))
      (ap (λ (cs : List Block). slice_get cs (suc k)) (sym e) ∙ got_numbered bs (suc k) known) none
