-- Where no rule of types is broken, each parameter is specified.
use Rattle.std.proofs.Common.{◌≡◌, ◌⊎◌, inl, inr, ℕ, Bool, true, false, List, [], ◌∷◌, ◌++◌, refl, if◌then◌else◌}
use Rattle.std.specs.List.{flat_map, AllByRecursion}
use Rattle.std.proofs.lemmas.List.Elements.{All-from_recursion}
use Rattle.algol_tree.specs.declared.tree.Heading.{Heading}
use Rattle.algol_tree.specs.declared.tree.Named.{Named}
use Rattle.algol_tree.specs.declared.tree.Spec.{Spec}
use Rattle.algol_tree.specs.declared.tree.Spec.TheVariants as spec
use Rattle.algol_tree.specs.Blocks.{Block, Begin, of_statement, of_procedure}
use Rattle.algol_tree.specs.Checks.{wrong_types}
use Rattle.algol_tree.specs.Classes.{Class, is_simple, is_array, is_event, is_unspecified}
use Rattle.algol_tree.specs.Names.{if_so}
use Rattle.algol_tree.specs.Plain as tree
use Rattle.algol_tree.specs.Plain.{PStmt, PStmts, PDecl, PDecls}
use Rattle.algol_tree.specs.Sites.{Site, declaration, sites, has_decls, here_stmt, inside_stmt, inside_decl, sites_in_stmts, sites_in_decls}
use Rattle.algol_tree.specs.Sorts.{Declared, specified_by, class_by, class_in}
use Rattle.algol_tree.specs.Surroundings.{Surroundings, knowing, knowing_all, inside, inside_procedure}
use Rattle.algol_tree.proofs.Spots.{not_so}
use Rattle.b67_list.proofs.Lists.{append_none_left, append_none_right, each_back, each_front}
use Rattle.b67_fitting.specs.Typing.{HeadingSpecified}
use Rattle.b67_fitting.proofs.Headings.{DeclSpecified, DeclsSpecified, StmtSpecified, StmtsSpecified}

-- a simple one, an array or an event
abbrev IsOneOf : Class → Type 0
IsOneOf c = (is_simple c ≡ true) ⊎ ((is_array c ≡ true) ⊎ (is_event c ≡ true))

of_spec : (s : Spec) → IsOneOf (class_by s)
of_spec (spec.Simple kind ns) = inl refl
of_spec (spec.Arrays kind ns lows) = inr (inl refl)
of_spec (spec.Events ns) = inr (inr refl)

of_specs : (ss : List Spec) (name : List ℕ) → is_unspecified (class_in ss name) ≡ false → IsOneOf (class_in ss name)
of_specs [] name h = absurd (let clash : true ≡ false = h in cc)
of_specs (s ∷ ss) name h = by (specified_by s name) (of_specs ss name) h
  where
    by : (b : Bool) → (is_unspecified (class_in ss name) ≡ false → IsOneOf (class_in ss name)) → is_unspecified (if b then class_by s else class_in ss name) ≡ false →
        IsOneOf (if b then class_by s else class_in ss name)
    by true later g = of_spec s
    by false later g = later g

of_parameters : (h : Heading) (ns : List Named) → flat_map (λ (n : Named). if_so (is_unspecified (class_in h.specs n.name)) n.spot) ns ≡ [] →
    AllByRecursion (λ (n : Named). IsOneOf (class_in h.specs n.name)) ns
of_parameters h [] e = tt
of_parameters h (n ∷ ns) e = (of_specs h.specs n.name (not_so (is_unspecified (class_in h.specs n.name)) n.spot (append_none_left _ _ e)), of_parameters h ns (append_none_right _ _ e))

heading_specified : (h : Heading) → flat_map (λ (n : Named). if_so (is_unspecified (class_in h.specs n.name)) n.spot) h.params ≡ [] → HeadingSpecified h
heading_specified h e = All-from_recursion (λ (n : Named). IsOneOf (class_in h.specs n.name)) h.params (of_parameters h h.params e)

-- `AreTyped`: at none of these parts a rule of types is broken
module _ (blocks : List Block) where
  abbrev pub IsTyped : Site → Type 0
  IsTyped x = wrong_types blocks x ≡ []

  abbrev AreTyped : List Site → Type 0
  AreTyped xs = AllByRecursion IsTyped xs

  abbrev stmt_sites : PStmt → Surroundings → List Site
  stmt_sites s a = here_stmt s false a ∷ inside_stmt blocks s of_statement false a

  mutual
    in_stmt : (s : PStmt) (begin : Begin) (listed : Bool) (a : Surroundings) → AreTyped (inside_stmt blocks s begin listed a) → StmtSpecified s
    in_stmt (tree.label n s) g l a c = in_stmt s of_statement l a c.1
    in_stmt (tree.block (tree.body spot ds ss)) g l a c =
        let start = inside blocks g (tree.body spot ds ss) a in
        let declared = sites_in_decls blocks ds start start.known in
        let stated = sites_in_stmts blocks ss (has_decls ds) (knowing_all blocks ds start) in
        (in_decls ds start start.known (each_front IsTyped declared stated c), in_stmts ss (has_decls ds) (knowing_all blocks ds start) (each_back IsTyped declared stated c))
    in_stmt (tree.if_then e x) g l a c = in_stmt x of_statement false a ((each_back IsTyped (sites e a) (stmt_sites x a) c).1)
    in_stmt (tree.if_else e x y) g l a c =
        let two = each_front IsTyped (sites e a ++ stmt_sites x a) (stmt_sites y a) c in (
          in_stmt x of_statement false a ((each_back IsTyped (sites e a) (stmt_sites x a) two).1),
          in_stmt y of_statement false a ((each_back IsTyped (sites e a ++ stmt_sites x a) (stmt_sites y a) c).1),
        )
    in_stmt (tree.while e x) g l a c = in_stmt x of_statement false a ((each_back IsTyped (sites e a) (stmt_sites x a) c).1)
    in_stmt (tree.until x e) g l a c = in_stmt x of_statement false a ((each_front IsTyped (stmt_sites x a) (sites e a) c).1)
    in_stmt (tree.for v x y z s) g l a c = in_stmt s of_statement false a ((each_back IsTyped (sites x a ++ sites y a ++ sites z a) (stmt_sites s a) c).1)
    in_stmt (tree.thru e x) g l a c = in_stmt x of_statement false a ((each_back IsTyped (sites e a) (stmt_sites x a) c).1)
    in_stmt (tree.case e ss) g l a c = in_stmts ss false a (each_back IsTyped (sites e a) (sites_in_stmts blocks ss false a) c)
    in_stmt _ g l a c = tt

    pub in_stmts : (ss : PStmts) (listed : Bool) (a : Surroundings) → AreTyped (sites_in_stmts blocks ss listed a) → StmtsSpecified ss
    in_stmts tree.no_stmts l a c = tt
    in_stmts (tree.stmts s ss) l a c =
        let these = inside_stmt blocks s of_statement l a in
        let those = sites_in_stmts blocks ss l a in
        (in_stmt s of_statement l a (each_front IsTyped these those c.1), in_stmts ss l a (each_back IsTyped these those c.1))

    pub in_decls : (ds : PDecls) (a : Surroundings) (first : List Declared) → AreTyped (sites_in_decls blocks ds a first) → DeclsSpecified ds
    in_decls tree.no_decls a first c = tt
    in_decls (tree.decls d ds) a first c =
        let after = knowing blocks d ds a in
        let these = inside_decl blocks d after first in
        let those = sites_in_decls blocks ds after first in
        (in_decl d ds a first c.0 (each_front IsTyped these those c.1), in_decls ds after first (each_back IsTyped these those c.1))

    in_decl : (d : PDecl) (ds : PDecls) (a : Surroundings) (first : List Declared) → IsTyped (record { part = declaration d ds; around = a }) →
        AreTyped (inside_decl blocks d (knowing blocks d ds a) first) → DeclSpecified d
    in_decl (tree.forward h) ds a first t c = heading_specified h (append_none_left _ _ (append_none_left _ _ t))
    in_decl (tree.procedure h s) ds a first t c =
        (heading_specified h (append_none_left _ _ t), in_stmt s of_procedure false (inside_procedure blocks h (knowing blocks (tree.procedure h s) ds a)) c.1)
    in_decl _ ds a first t c = tt
