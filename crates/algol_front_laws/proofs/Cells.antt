-- In an accepted tree each declaration that is known at a place has its cell, but for labels and files.
use Rattle.std.proofs.Common.{◌≡◌, ℕ, ◌+◌, Bool, true, false, List, [], ◌∷◌, ◌++◌, Option, Some, None, refl, sym, subst, ap, ◌∙◌}
use Rattle.std.specs.Prelude.{if◌then◌else◌, is_some, not}
use Rattle.std.specs.List.{AllByRecursion}
use Rattle.algol_tree.specs.declared.token.Spot.{Spot}
use Rattle.algol_tree.specs.declared.tree.Named.{Named}
use Rattle.algol_tree.specs.declared.tree.Heading.{Heading}
use Rattle.algol_tree.specs.Plain as tree
use Rattle.algol_tree.specs.Plain.{PDecl, PDecls, PStmt}
use Rattle.algol_tree.specs.Classes.{Class}
use Rattle.algol_tree.specs.Sorts as sort
use Rattle.algol_tree.specs.Sorts.{Declared, Sort, declare, declared_parameters, same_name}
use Rattle.algol_tree.specs.Blocks.{Block, number_at}
use Rattle.algol_tree.specs.Surroundings.{Surroundings, announced, body_of, heading_or, inside_procedure, knowing, made_known}
use Rattle.algol_tree.specs.Sites as site
use Rattle.algol_tree.specs.Sites.{Site, inside_decl, sites_in_decls}
use Rattle.algol_tree.specs.Cells as cells
use Rattle.algol_tree.specs.Cells.{Cell, Content, cells_at, cells_for, result_cells}
use Rattle.algol_tree.specs.Names.{if_so, unknown_in_heading, unknown_names}
use Rattle.b67_list.proofs.Lists.{append_none_left}
use Rattle.algol_front_laws.specs.Declarations.{takes_cell}
use Rattle.algol_told.proofs.Unbroken.{not_unknown}
use Rattle.algol_told.proofs.Lists.{IsIn, all_append, all_right, false_not_true}

-- `all`: the cells of the tree
module _ (blocks : List Block) (all : List Cell) where
  abbrev pub cell : ℕ → Content → Spot → Cell
  cell block content spot = record { block = block; spot = spot; content = content }

  abbrev pub HasCell : Declared → Type 0
  HasCell d = takes_cell d.sort ≡ true → (content : Content) × IsIn all (cell d.block content d.spot)

  -- its cells are cells of the tree, and no name in it is unknown
  pub record Passes (x : Site) : Type 0 where
    pub its_cells : AllByRecursion (IsIn all) (cells_at blocks x)
    pub known : unknown_names x ≡ []

  -- ---- declarations

  names_have : (block depth : ℕ) (content : Content) (s : Sort) (c : Class) (ns : List Named) → AllByRecursion (IsIn all) (cells_for block content ns) →
      AllByRecursion HasCell (declare block depth s c ns)
  names_have block depth content s c [] h = tt
  names_have block depth content s c (n ∷ ns) h = (λ takes. (content, h.0), names_have block depth content s c ns h.1)

  names_need_none : (block depth : ℕ) (s : Sort) (c : Class) → takes_cell s ≡ false → (ns : List Named) → AllByRecursion HasCell (declare block depth s c ns)
  names_need_none block depth s c e [] = tt
  names_need_none block depth s c e (n ∷ ns) = (λ takes. absurd (false_not_true (sym e ∙ takes)), names_need_none block depth s c e ns)

  parameters_have : (block depth : ℕ) (h : Heading) (ns : List Named) → AllByRecursion (IsIn all) (cells_for block cells.parameter ns) →
      AllByRecursion HasCell (declared_parameters block depth (record h { params = ns }))
  parameters_have block depth h [] i = tt
  parameters_have block depth h (n ∷ ns) i = (λ takes. (cells.parameter, i.0), parameters_have block depth h ns i.1)

  -- the declarations after this one
  behind : (d : PDecl) (ds : PDecls) (a : Surroundings) (begun : List Declared) → AllByRecursion Passes (sites_in_decls blocks (tree.decls d ds) a begun) →
      AllByRecursion Passes (sites_in_decls blocks ds (knowing blocks d ds a) begun)
  behind d ds a begun p = all_right Passes (inside_decl blocks d (knowing blocks d ds a) begun) (sites_in_decls blocks ds (knowing blocks d ds a) begun) p.1

  -- the heading with the body has a cell
  body_has : (name : List ℕ) (ds : PDecls) (a : Surroundings) (begun : List Declared) (g : Heading) → body_of name ds ≡ Some g →
      AllByRecursion Passes (sites_in_decls blocks ds a begun) → IsIn all (cell a.block cells.procedure g.name.spot)
  body_has name tree.no_decls a begun g h p = absurd (let clash : None ≡ Some g = h in cc)
  body_has name (tree.decls (tree.procedure k s) ds) a begun g h p =
      decide (same_name k.name.name name) h
      (λ q. body_has name ds (knowing blocks (tree.procedure k s) ds a) begun g q (behind (tree.procedure k s) ds a begun p))
    where
      decide : (b : Bool) → (if b then Some k else body_of name ds) ≡ Some g → (body_of name ds ≡ Some g → IsIn all (cell a.block cells.procedure g.name.spot)) →
          IsIn all (cell a.block cells.procedure g.name.spot)
      decide true q on =
          let same : k ≡ g = cc in
          let P : Heading → Type 0 = λ x. IsIn all (cell a.block cells.procedure x.name.spot) in
          subst P same p.0.its_cells.0
      decide false q on = on q
  body_has name (tree.decls (tree.simple kind ns) ds) a begun g h p =
      body_has name ds (knowing blocks (tree.simple kind ns) ds a) begun g h (behind (tree.simple kind ns) ds a begun p)
  body_has name (tree.decls (tree.files ns) ds) a begun g h p = body_has name ds (knowing blocks (tree.files ns) ds a) begun g h (behind (tree.files ns) ds a begun p)
  body_has name (tree.decls (tree.events ns) ds) a begun g h p = body_has name ds (knowing blocks (tree.events ns) ds a) begun g h (behind (tree.events ns) ds a begun p)
  body_has name (tree.decls (tree.tasks ns) ds) a begun g h p = body_has name ds (knowing blocks (tree.tasks ns) ds a) begun g h (behind (tree.tasks ns) ds a begun p)
  body_has name (tree.decls (tree.labels ns) ds) a begun g h p = body_has name ds (knowing blocks (tree.labels ns) ds a) begun g h (behind (tree.labels ns) ds a begun p)
  body_has name (tree.decls (tree.arrays kind ns ps) ds) a begun g h p =
      body_has name ds (knowing blocks (tree.arrays kind ns ps) ds a) begun g h (behind (tree.arrays kind ns ps) ds a begun p)
  body_has name (tree.decls (tree.forward k) ds) a begun g h p = body_has name ds (knowing blocks (tree.forward k) ds a) begun g h (behind (tree.forward k) ds a begun p)

  forward_has : (h : Heading) (ds : PDecls) (a : Surroundings) (begun : List Declared) →
      AllByRecursion Passes (sites_in_decls blocks (tree.decls (tree.forward h) ds) a begun) →
      IsIn all (cell a.block cells.procedure (announced h ds).name.spot)
  forward_has h ds a begun p = decide (body_of h.name.name ds) refl
    where
      there : is_some (body_of h.name.name ds) ≡ true
      there =
          not_unknown (is_some (body_of h.name.name ds)) h.name.spot
          (append_none_left (if_so (not (is_some (body_of h.name.name ds))) h.name.spot) (unknown_in_heading h) p.0.known)

      decide : (o : Option Heading) → body_of h.name.name ds ≡ o → IsIn all (cell a.block cells.procedure (heading_or h o).name.spot)
      decide None e = absurd (false_not_true (sym (ap (λ (o : Option Heading). is_some o) e) ∙ there))
      decide (Some g) e = body_has h.name.name ds (knowing blocks (tree.forward h) ds a) begun g e (behind (tree.forward h) ds a begun p)

  made_have : (d : PDecl) (ds : PDecls) (a : Surroundings) (begun : List Declared) → AllByRecursion Passes (sites_in_decls blocks (tree.decls d ds) a begun) →
      AllByRecursion HasCell (made_known blocks d ds a)
  made_have (tree.simple kind ns) ds a begun p = names_have a.block a.depth cells.variable _ _ ns p.0.its_cells
  made_have (tree.files ns) ds a begun p = names_need_none a.block a.depth sort.file _ refl ns
  made_have (tree.events ns) ds a begun p = names_have a.block a.depth cells.made _ _ ns p.0.its_cells
  made_have (tree.tasks ns) ds a begun p = names_have a.block a.depth cells.made _ _ ns p.0.its_cells
  made_have (tree.labels ns) ds a begun p = names_need_none a.block a.depth sort.label _ refl ns
  made_have (tree.arrays kind ns pairs) ds a begun p = names_have a.block a.depth cells.made _ _ ns p.0.its_cells
  made_have (tree.forward h) ds a begun p = (λ takes. (cells.procedure, forward_has h ds a begun p), tt)
  made_have (tree.procedure h s) ds a begun p = (λ takes. (cells.procedure, p.0.its_cells.0), tt)

  -- ---- at the sites of a tree

  abbrev pub AllHave : Surroundings → Type 0
  AllHave a = AllByRecursion HasCell a.known

  pub begins : (spot : Spot) (a : Surroundings) → AllHave a → AllHave (record { block = number_at blocks spot; depth = a.depth + 1; known = a.known })
  begins spot a h = h

  pub knows : (d : PDecl) (ds : PDecls) (a : Surroundings) (begun : List Declared) → AllHave a → AllByRecursion Passes (sites_in_decls blocks (tree.decls d ds) a begun) →
      AllHave (knowing blocks d ds a)
  knows d ds a begun h p = all_append HasCell (made_known blocks d ds a) a.known (made_have d ds a begun p) h

  pub enters : (h : Heading) (s : PStmt) (ds : PDecls) (a : Surroundings) → AllHave (knowing blocks (tree.procedure h s) ds a) →
      Passes (record { part = site.declaration (tree.procedure h s) ds; around = a }) → AllHave (inside_procedure blocks h (knowing blocks (tree.procedure h s) ds a))
  enters h s ds a k p =
      let number : ℕ = number_at blocks h.name.spot in
      let its : List Cell = cells_for a.block cells.procedure (h.name ∷ []) ++ result_cells blocks h in
      all_append HasCell (declared_parameters number (a.depth + 1) h) (knowing blocks (tree.procedure h s) ds a).known
      (parameters_have number (a.depth + 1) h h.params (all_right (IsIn all) its (cells_for number cells.parameter h.params) p.its_cells)) k
