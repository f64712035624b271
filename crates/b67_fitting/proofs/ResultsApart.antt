-- No parameter of a typed procedure has the procedure's name, where no name is declared twice in a block.
use Rattle.std.proofs.Common.{◌≡◌, ℕ, ◌+◌, Bool, true, false, List, [], ◌∷◌, ◌++◌, map, Option, Some, None, is_some, refl, sym, ap, subst, ◌∙◌, if◌then◌else◌}
use Rattle.std.specs.List.{AllByRecursion}
use Rattle.algol_tree.specs.declared.token.Spot.{Spot}
use Rattle.algol_tree.specs.declared.tree.Heading.{Heading}
use Rattle.algol_tree.specs.declared.tree.Kind.{Kind}
use Rattle.algol_tree.specs.declared.tree.Named.{Named}
use Rattle.algol_tree.specs.Blocks.{Block, Begin, of_statement, of_procedure, begin_block, begin_outer, blocks_of, blocks_in_stmts, blocks_in_decls, blocks_in_body, procedure_block}
use Rattle.algol_tree.specs.Names.{if_so, name_is_one_of, repeated, result_names, specified, is_announced_by, twice_here, twice_in_heading, declared_twice}
use Rattle.algol_tree.specs.Plain as tree
use Rattle.algol_tree.specs.Plain.{PStmt, PStmts, PDecls, PBody}
use Rattle.algol_tree.specs.Sites.{Site, sites, here_stmt, inside_stmt, inside_decl, sites_in_stmts, sites_in_decls, sites_in_body, has_decls}
use Rattle.algol_tree.specs.Sorts.{Parameter, Declared, same_name, is_named_in, sort_in}
use Rattle.algol_tree.specs.Surroundings.{Surroundings, declared_as, knowing, knowing_all, inside, inside_procedure}
use Rattle.algol_tree.proofs.Names.{same_name_is, same_name_itself}
use Rattle.algol_tree.proofs.Spots.{not_so}
use Rattle.b67_templates.specs.Cells.{Simple, found_from}
use Rattle.b67_list.proofs.Lists.{append_none_left, append_none_right, each_back, each_both, each_front, each_map}

-- ---- one heading

-- a name that is seen already is none of a list that repeats no name
pub none_named : (seen : List (List ℕ)) (ns : List Named) (name : List ℕ) → name_is_one_of seen name ≡ true → repeated seen ns ≡ [] →
    AllByRecursion (λ (n : Named). same_name n.name name ≡ false) ns
none_named seen [] name s e = tt
none_named seen (n ∷ ns) name s e =
    (by (same_name n.name name) refl, none_named (n.name ∷ seen) ns name (either (same_name n.name name)) (append_none_right (if_so (name_is_one_of seen n.name) n.spot) (repeated (n.name ∷ seen) ns) e))
  where
    by : (b : Bool) → same_name n.name name ≡ b → b ≡ false
    by false f = refl
    by true f =
        let other : name_is_one_of seen n.name ≡ false = not_so (name_is_one_of seen n.name) n.spot (append_none_left (if_so (name_is_one_of seen n.name) n.spot) (repeated (n.name ∷ seen) ns) e) in
        let clash : true ≡ false = sym s ∙ ap (name_is_one_of seen) (sym (same_name_is n.name name f)) ∙ other in
        clash

    either : (b : Bool) → (if b then true else name_is_one_of seen name) ≡ true
    either true = refl
    either false = s

-- no parameter has the name of a typed procedure
pub result_other : (h : Heading) (kind : Kind) (name : List ℕ) → h.kind ≡ Some kind → same_name h.name.name name ≡ true → twice_in_heading h ≡ [] →
    AllByRecursion (λ (n : Named). same_name n.name name ≡ false) h.params
result_other h kind name typed s e =
    none_named (h.name.name ∷ []) h.params name (ap (λ (b : Bool). if b then true else false) s)
    (subst (λ (o : Option Kind). repeated (if is_some o then h.name.name ∷ [] else []) h.params ≡ []) typed (append_none_left (repeated (result_names h) h.params) (repeated [] (specified h)) e))

-- each of these parameters has another name
abbrev pub AreOther : List ℕ → List Parameter → Type 0
AreOther own ps = AllByRecursion (λ (p : Parameter). same_name p.name own ≡ false) ps

-- so it is with a block that gives a result
abbrev pub IsClear : Block → Type 0
IsClear b = (kind : Kind) → b.result ≡ Some kind → AreOther b.name b.parameters

clear_heading : (h : Heading) (t : PStmt) (outer : List Spot) → twice_in_heading h ≡ [] → IsClear (procedure_block h t outer)
clear_heading h t outer e kind typed =
    each_map (λ (p : Parameter). same_name p.name h.name.name ≡ false) (λ (n : Named). record { name = n.name; sort = sort_in h.specs (is_named_in h.values n.name) n.name }) h.params
    (result_other h kind h.name.name typed (same_name_itself h.name.name) e)

-- so the name is not found among the cells of the same names
pub none_found : (from : ℕ) (own : List ℕ) (ps : List Parameter) (ss : List Simple) → map (λ (p : Parameter). p.name) ps ≡ map (λ (c : Simple). c.name) ss → AreOther own ps → found_from from ss own ≡ None
none_found from own [] [] names o = refl
none_found from own [] (s ∷ ss) names o = cc
none_found from own (p ∷ ps) [] names o = cc
none_found from own (p ∷ ps) (s ∷ ss) names o =
    let name : p.name ≡ s.name = cc in
    let others : map (λ (p : Parameter). p.name) ps ≡ map (λ (c : Simple). c.name) ss = cc in
    ap (λ (b : Bool). if b then Some (record { number = from; cell = s }) else found_from (from + 1) ss own) (ap (λ (n : List ℕ). same_name n own) (sym name) ∙ o.0)
    ∙ none_found (from + 1) own ps ss others o.1

-- ---- all blocks of a text

abbrev pub AreClear : List Block → Type 0
AreClear bs = AllByRecursion IsClear bs

module _ (blocks : List Block) where
  abbrev pub AreOnce : List Site → Type 0
  AreOnce xs = AllByRecursion (λ (x : Site). declared_twice blocks x ≡ []) xs

  front : (xs ys : List Site) → AreOnce (xs ++ ys) → AreOnce xs
  front xs ys o = each_front (λ (x : Site). declared_twice blocks x ≡ []) xs ys o

  back : (xs ys : List Site) → AreOnce (xs ++ ys) → AreOnce ys
  back xs ys o = each_back (λ (x : Site). declared_twice blocks x ≡ []) xs ys o

  both : (bs cs : List Block) → AreClear bs → AreClear cs → AreClear (bs ++ cs)
  both bs cs g h = each_both IsClear bs cs g h

  -- a BEGIN gives no result
  begin_clear : (g : Begin) (b : PBody) (outer : List Spot) → AreClear (begin_block g b outer)
  begin_clear of_statement (tree.body spot tree.no_decls ss) outer = tt
  begin_clear of_statement (tree.body spot (tree.decls d ds) ss) outer = (λ kind e. absurd (let clash : None ≡ Some kind = e in cc), tt)
  begin_clear of_procedure b outer = tt

  mutual
    in_stmt : (t : PStmt) (g : Begin) (listed : Bool) (a : Surroundings) (outer : List Spot) → AreOnce (inside_stmt blocks t g listed a) → AreClear (blocks_of t g outer)
    in_stmt tree.empty g l a outer o = tt
    in_stmt (tree.label n t) g l a outer o = in_stmt t of_statement l a outer o.1
    in_stmt (tree.assign v e) g l a outer o = tt
    in_stmt (tree.call_of c) g l a outer o = tt
    in_stmt (tree.go_to n) g l a outer o = tt
    in_stmt (tree.block b) g l a outer o =
        both (begin_block g b outer) (blocks_in_body b (begin_outer g b outer)) (begin_clear g b outer) (in_body b (inside blocks g b a) (begin_outer g b outer) o)
    in_stmt (tree.if_then c x) g l a outer o = in_stmt x of_statement false a outer ((back (sites c a) (here_stmt x false a ∷ inside_stmt blocks x of_statement false a) o).1)
    in_stmt (tree.if_else c x y) g l a outer o =
        let these = here_stmt x false a ∷ inside_stmt blocks x of_statement false a in
        let those = here_stmt y false a ∷ inside_stmt blocks y of_statement false a in
        both (blocks_of x of_statement outer) (blocks_of y of_statement outer) (in_stmt x of_statement false a outer ((back (sites c a) these (front (sites c a ++ these) those o)).1))
        (in_stmt y of_statement false a outer ((back (sites c a ++ these) those o).1))
    in_stmt (tree.while c x) g l a outer o = in_stmt x of_statement false a outer ((back (sites c a) (here_stmt x false a ∷ inside_stmt blocks x of_statement false a) o).1)
    in_stmt (tree.until x c) g l a outer o = in_stmt x of_statement false a outer ((front (here_stmt x false a ∷ inside_stmt blocks x of_statement false a) (sites c a) o).1)
    in_stmt (tree.for v x y z t) g l a outer o =
        in_stmt t of_statement false a outer ((back (sites x a ++ sites y a ++ sites z a) (here_stmt t false a ∷ inside_stmt blocks t of_statement false a) o).1)
    in_stmt (tree.thru e x) g l a outer o = in_stmt x of_statement false a outer ((back (sites e a) (here_stmt x false a ∷ inside_stmt blocks x of_statement false a) o).1)
    in_stmt (tree.case e ss) g l a outer o = in_stmts ss false a outer (back (sites e a) (sites_in_stmts blocks ss false a) o)
    in_stmt (tree.process c task) g l a outer o = tt
    in_stmt (tree.event act e) g l a outer o = tt
    in_stmt (tree.write n spot phrases es) g l a outer o = tt

    pub in_stmts : (ss : PStmts) (listed : Bool) (a : Surroundings) (outer : List Spot) → AreOnce (sites_in_stmts blocks ss listed a) → AreClear (blocks_in_stmts ss outer)
    in_stmts tree.no_stmts l a outer o = tt
    in_stmts (tree.stmts t ss) l a outer o =
        let these = inside_stmt blocks t of_statement l a in
        let those = sites_in_stmts blocks ss l a in
        both (blocks_of t of_statement outer) (blocks_in_stmts ss outer) (in_stmt t of_statement l a outer (front these those o.1)) (in_stmts ss l a outer (back these those o.1))

    pub in_decls : (ds : PDecls) (a : Surroundings) (first : List Declared) (outer : List Spot) → AreOnce (sites_in_decls blocks ds a first) → AreClear (blocks_in_decls ds outer)
    in_decls tree.no_decls a first outer o = tt
    in_decls (tree.decls (tree.procedure h t) ds) a first outer o =
        let k : Surroundings = knowing blocks (tree.procedure h t) ds a in
        let these = inside_decl blocks (tree.procedure h t) k first in
        let those = sites_in_decls blocks ds k first in
        let twice = append_none_right (if is_announced_by a.block h (declared_as a h.name) then [] else twice_here blocks a (h.name ∷ [])) (twice_in_heading h) o.0 in (
          clear_heading h t outer twice,
          both (blocks_of t of_procedure (h.name.spot ∷ outer)) (blocks_in_decls ds outer)
              (in_stmt t of_procedure false (inside_procedure blocks h k) (h.name.spot ∷ outer) ((front these those o.1).1)) (in_decls ds k first outer (back these those o.1)),
        )
    in_decls (tree.decls d ds) a first outer o =
        let k : Surroundings = knowing blocks d ds a in
        in_decls ds k first outer (back (inside_decl blocks d k first) (sites_in_decls blocks ds k first) o.1)

    in_body : (b : PBody) (a : Surroundings) (outer : List Spot) → AreOnce (sites_in_body blocks b a) → AreClear (blocks_in_body b outer)
    in_body (tree.body spot ds ss) a outer o =
        let these = sites_in_decls blocks ds a a.known in
        let those = sites_in_stmts blocks ss (has_decls ds) (knowing_all blocks ds a) in
        both (blocks_in_decls ds outer) (blocks_in_stmts ss outer) (in_decls ds a a.known outer (front these those o)) (in_stmts ss (has_decls ds) (knowing_all blocks ds a) outer (back these those o))
