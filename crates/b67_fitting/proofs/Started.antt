-- What is known after each declaration of a block, in their order.
use Rattle.std.proofs.Common.{arith, ◌≡◌, inl, inr, ℕ, ◌≤◌, ◌==◌, Bool, true, false, cond, not, List, [], ◌∷◌, ◌++◌, map, filter, length, is_some, Option, Some, None, sym, refl, ap, ◌∙◌, subst, append_assoc, if◌then◌else◌}
use Rattle.std.proofs.lemmas.Bool.{eq-eqb}
use Rattle.std.specs.List.{AllByRecursion}
use Rattle.algol_tree.specs.declared.token.Spot.{Spot}
use Rattle.algol_tree.specs.declared.tree.Heading.{Heading}
use Rattle.algol_tree.specs.declared.tree.Kind.{Kind}
use Rattle.algol_tree.specs.declared.tree.Named.{Named}
use Rattle.algol_tree.specs.Ascending.{spots_of_names, spots_of_pairs, spots_of_decl, spots_of_decls}
use Rattle.algol_tree.specs.Blocks.{Block, block_numbered, number_at, procedure_block}
use Rattle.algol_tree.specs.Cells as cells
use Rattle.algol_tree.specs.Cells.{Cell, cells_for}
use Rattle.algol_tree.specs.Classes as class
use Rattle.algol_tree.specs.Classes.{Class}
use Rattle.algol_tree.specs.Names.{if_so, name_is_one_of, repeated, result_names_of, twice_in_heading, unknown_in_heading}
use Rattle.algol_tree.specs.Plain as tree
use Rattle.algol_tree.specs.Plain.{PPair, PStmt, PDecl, PDecls}
use Rattle.algol_tree.specs.Sites as parts
use Rattle.algol_tree.specs.Sorts as sort
use Rattle.algol_tree.specs.Sorts.{same_name, Sort, Declared, look_up, declare}
use Rattle.algol_tree.specs.Surroundings.{Surroundings, body_of, heading_or, announced, knowing}
use Rattle.algol_tree.proofs.Names.{same_name_is, same_name_itself}
use Rattle.algol_tree.proofs.Trees.{among_behind}
use Rattle.algol_paths.specs.Arrays.{an_array, an_event}
use Rattle.b67_templates.specs.Cells.{Simple, value, of_kind, variables, made_of, parameters_in, parameters_around}
use Rattle.b67_templates.specs.Labels.{labels_in}
use Rattle.b67_templates.specs.Code.{AreDimensions}
use Rattle.b67_list.proofs.Lists.{append_none_left, each_back, each_both}
use Rattle.b67_fitting.specs.Typing.{HeadingSpecified, TypedPairs, IsEventful, TypedDecls, IsDeclared}
use Rattle.b67_fitting.proofs.Aligned.{AreOthers, Aligned, aligned_over, hit}
use Rattle.b67_fitting.proofs.Apart.{IsIn, each_in, in_front, in_back, IsApart, Apart, apart_front, apart_across}
use Rattle.b67_fitting.proofs.Arrayed.{IsMade, event_of, made_names, AreMadePassed, made_begin, made_step, IsThere, array_there, event_there, task_there}
use Rattle.b67_fitting.proofs.TypedBounds.{lows_whole}
use Rattle.b67_fitting.proofs.Declaring.{one_of_front, one_of_back, names_of, names_both, one_front, entry, declared_is, found_one, fresh}
use Rattle.b67_fitting.proofs.Frames.{named_around, variable_cells, made_cells}
use Rattle.b67_fitting.proofs.Known.{given_cells, given_places, variable_spots, headings, IsKnown, known_file, known_variable, known_array, known_event, known_label, known_procedure, around_with, Stands, HasLows}
use Rattle.b67_fitting.proofs.Later.{declared_name, later}

-- ---- names that the block has already

-- these cells are passed: the block has their names, and they stand apart from all of these places
abbrev pub Passed : List (List ℕ) → List Spot → List Simple → List Cell → Type 0
Passed names spots [] [] = Unit {0}
Passed names spots (x ∷ xs) (c ∷ cs) = (name_is_one_of names x.name ≡ true) × AllByRecursion (IsApart c.spot) spots × Passed names spots xs cs
Passed names spots _ _ = ⊥

passed_both : (names : List (List ℕ)) (spots : List Spot) (xs ys : List Simple) (cs ds : List Cell) → Passed names spots xs cs → Passed names spots ys ds → Passed names spots (xs ++ ys) (cs ++ ds)
passed_both names spots [] ys [] ds g h = h
passed_both names spots (x ∷ xs) ys (c ∷ cs) ds g h = (g.0, g.1, passed_both names spots xs ys cs ds g.2 h)
passed_both names spots [] ys (c ∷ cs) ds g h = absurd g
passed_both names spots (x ∷ xs) ys [] ds g h = absurd g

passed_more : (more names : List (List ℕ)) (p q : List Spot) (xs : List Simple) (cs : List Cell) → Passed names (p ++ q) xs cs → Passed (more ++ names) q xs cs
passed_more more names p q [] [] h = tt
passed_more more names p q (x ∷ xs) (c ∷ cs) h = (among_behind more names x.name h.0, each_back (IsApart c.spot) p q h.1, passed_more more names p q xs cs h.2)
passed_more more names p q [] (c ∷ cs) h = absurd h
passed_more more names p q (x ∷ xs) [] h = absurd h

passed_new : (names : List (List ℕ)) (spots : List Spot) (block : ℕ) (kind : Kind) (ns : List Named) → ((n : Named) → IsIn n ns → name_is_one_of names n.name ≡ true) →
    AllByRecursion (λ s. AllByRecursion (IsApart s) spots) (spots_of_names ns) → Passed names spots (of_kind kind ns) (cells_for block cells.variable ns)
passed_new names spots block kind [] f g = tt
passed_new names spots block kind (n ∷ ns) f g = (f n (inl refl), g.0, passed_new names spots block kind ns (λ m i. f m (inr i)) g.1)

-- a name that the block has not is none of theirs
other_named : (names : List (List ℕ)) (name : List ℕ) (x : Simple) → name_is_one_of names name ≡ false → name_is_one_of names x.name ≡ true → same_name x.name name ≡ false
other_named names name x n h = by (same_name x.name name) refl
  where
    by : (b : Bool) → same_name x.name name ≡ b → b ≡ false
    by false e = refl
    by true e =
        let clash : true ≡ false = sym h ∙ ap (name_is_one_of names) (same_name_is x.name name e) ∙ n in
        clash

passed_named : (names : List (List ℕ)) (spots : List Spot) (name : List ℕ) (xs : List Simple) (cs : List Cell) → name_is_one_of names name ≡ false → Passed names spots xs cs →
    AllByRecursion (λ (x : Simple). same_name x.name name ≡ false) xs
passed_named names spots name [] [] n h = tt
passed_named names spots name (x ∷ xs) (c ∷ cs) n h = (other_named names name x n h.0, passed_named names spots name xs cs n h.2)
passed_named names spots name [] (c ∷ cs) n h = absurd h
passed_named names spots name (x ∷ xs) [] n h = absurd h

pub passed_others : (names : List (List ℕ)) (spots : List Spot) (name : List ℕ) (spot : Spot) (xs : List Simple) (cs : List Cell) → name_is_one_of names name ≡ false → IsIn spot spots →
    Passed names spots xs cs → AreOthers name spot xs cs
passed_others names spots name spot [] [] n i h = tt
passed_others names spots name spot (x ∷ xs) (c ∷ cs) n i h =
    (other_named names name x n h.0, each_in (IsApart c.spot) spot spots h.1 i, passed_others names spots name spot xs cs n i h.2)
passed_others names spots name spot [] (c ∷ cs) n i h = absurd h
passed_others names spots name spot (x ∷ xs) [] n i h = absurd h

-- no cell is passed
pub none_passed : (names : List (List ℕ)) (spots : List Spot) (xs : List Simple) (block : ℕ) (ns : List Named) → xs ≡ [] → ns ≡ [] → Passed names spots xs (cells_for block cells.parameter ns)
none_passed names spots xs block ns e f =
    subst (λ (zs : List Simple). Passed names spots zs (cells_for block cells.parameter ns)) (sym e)
    (subst (λ (zs : List Named). Passed names spots [] (cells_for block cells.parameter zs)) (sym f) tt)

named_new : (block depth : ℕ) (s : Sort) (c : Class) (ns : List Named) (n : Named) → IsIn n ns → name_is_one_of (names_of block (declare block depth s c ns)) n.name ≡ true
named_new block depth s c [] n i = absurd i
named_new block depth s c (m ∷ ns) n i =
    subst (λ (b : Bool). name_is_one_of (map (λ (d : Declared). d.name) (cond b (entry block depth s c m ∷ rest) rest)) n.name ≡ true) (sym (eq-eqb block block refl)) (by (same_name m.name n.name) refl (named_new block depth s c ns n) i)
  where
    rest : List Declared
    rest = filter (λ (d : Declared). d.block == block) (declare block depth s c ns)

    by : (b : Bool) → same_name m.name n.name ≡ b → (IsIn n ns → name_is_one_of (names_of block (declare block depth s c ns)) n.name ≡ true) → IsIn n (m ∷ ns) →
        (if b then true else name_is_one_of (names_of block (declare block depth s c ns)) n.name) ≡ true
    by true e later j = refl
    by false e later (inl same) = absurd (let clash : true ≡ false = sym (same_name_itself n.name) ∙ ap (λ (z : Named). same_name z.name n.name) same ∙ e in cc)
    by false e later (inr j) = later j

-- ---- declarations

pub found_body : (name : List ℕ) (ds : PDecls) (g : Heading) → body_of name ds ≡ Some g → IsIn g (headings ds)
found_body name tree.no_decls g h = absurd (let clash : None ≡ Some g = h in cc)
found_body name (tree.decls (tree.procedure f s) ds) g h = by (same_name f.name.name name) (found_body name ds g) h
  where
    by : (b : Bool) → (body_of name ds ≡ Some g → IsIn g (headings ds)) → (if b then Some f else body_of name ds) ≡ Some g → IsIn g (f ∷ headings ds)
    by true later e = inl (let same : g ≡ f = cc in same)
    by false later e = inr (later e)
found_body name (tree.decls d ds) g h = found_body name ds g h

announced_there : (h : Heading) (ds : PDecls) (o : Option Heading) (spot : Spot) → body_of h.name.name ds ≡ o → if_so (not (is_some o)) spot ≡ [] → IsIn (heading_or h o) (headings ds)
announced_there h ds None spot e g = absurd (let clash : spot ∷ [] ≡ [] = g in cc)
announced_there h ds (Some f) spot e g = found_body h.name.name ds f e

-- ---- labels

record IsLabelHit (block depth : ℕ) (ns : List Named) (name : List ℕ) (d : Declared) : Type 0 where
  pub class_is : d.class ≡ class.label
  pub sort_is : d.sort ≡ sort.label
  pub block_is : d.block ≡ block
  pub depth_is : d.depth ≡ depth
  pub name_is : d.name ≡ name
  pub one : Named
  pub one_name : one.name ≡ name
  pub one_spot : one.spot ≡ d.spot
  pub among : IsIn one ns

label_hit : (block depth : ℕ) (ns : List Named) (name : List ℕ) (d : Declared) → look_up (declare block depth sort.label class.label ns) name ≡ Some d → IsLabelHit block depth ns name d
label_hit block depth [] name d h = absurd (let clash : None ≡ Some d = h in cc)
label_hit block depth (n ∷ ns) name d h = by (same_name n.name name) refl (label_hit block depth ns name d) h
  where
    first : Declared
    first = entry block depth sort.label class.label n

    by : (t : Bool) → same_name n.name name ≡ t → (look_up (declare block depth sort.label class.label ns) name ≡ Some d → IsLabelHit block depth ns name d) →
        (if t then Some first else look_up (declare block depth sort.label class.label ns) name) ≡ Some d → IsLabelHit block depth (n ∷ ns) name d
    by true e later g =
        let same : first ≡ d = cc in
        subst (λ (z : Declared). IsLabelHit block depth (n ∷ ns) name z) same
        (record {
          class_is = refl;
          sort_is = refl;
          block_is = refl;
          depth_is = refl;
          name_is = same_name_is n.name name e;
          one = n;
          one_name = same_name_is n.name name e;
          one_spot = refl;
          among = inl refl;
        })
    by false e later g =
        let r = later g in
        record {
          class_is = r.class_is;
          sort_is = r.sort_is;
          block_is = r.block_is;
          depth_is = r.depth_is;
          name_is = r.name_is;
          one = r.one;
          one_name = r.one_name;
          one_spot = r.one_spot;
          among = inr r.among;
        }

module _ (blocks : List Block) where
  -- The procedure's block is one of the program's, in this block, and its heading and the lower bounds of its parameters are found there.
  pub record IsCalleeOf (b : Block) (h : Heading) : Type 0 where
    pub built : HeadingSpecified h
    pub once : twice_in_heading h ≡ []
    pub body : PStmt
    pub body_there : IsIn (procedure_block h body (b.spot ∷ b.outer)) blocks
    pub cells_are : parameters_around blocks (b.spot ∷ b.outer) h.name.spot ≡ parameters_in h
    pub named_are : named_around blocks (b.spot ∷ b.outer) h.name.spot ≡ h.params
    pub lows_are : HasLows blocks b h

  -- so is that of each procedure that the block declares
  abbrev pub HasCallees : Block → PDecls → Type 0
  HasCallees b ds = (h : Heading) → IsIn h (headings ds) → IsCalleeOf b h

  -- the place is in front of these, the last declarations of the block
  pub record IsStarted (b : Block) (a : Surroundings) (ds : PDecls) : Type 0 where
    pub stands : Stands blocks b a
    pub callees : HasCallees b b.decls
    pub passed_variables : List Simple
    pub passed_cells : List Cell
    pub variables_are : variables b.decls ≡ passed_variables ++ variables ds
    pub cells_are : variable_cells a.block b.decls ≡ passed_cells ++ variable_cells a.block ds
    pub passed : Passed (names_of a.block a.known) (spots_of_decls ds) passed_variables passed_cells
    pub given : Passed (names_of a.block a.known) (spots_of_decls ds) (given_cells blocks b) (given_places blocks b)
    pub owned : (h : Heading) → IsIn h (headings ds) → IsIn h (headings b.decls)
    pub held : (s : Spot) → IsIn s (variable_spots ds) → IsIn s (variable_spots b.decls)
    pub made : AreMadePassed a.block (names_of a.block a.known) b.decls ds
    pub labelled : (n : Named) → IsIn n (labels_in ds) → IsIn n (labels_in b.decls)

  pub start : (b : Block) (a : Surroundings) → Stands blocks b a → HasCallees b b.decls → Passed (names_of a.block a.known) (spots_of_decls b.decls) (given_cells blocks b) (given_places blocks b) → IsStarted b a b.decls
  start b a s c q =
      record { stands = s; callees = c; passed_variables = []; passed_cells = []; variables_are = refl; cells_are = refl; passed = tt; given = q; owned = λ h i. i; held = λ t i. i; made = made_begin a.block (names_of a.block a.known) b.decls; labelled = λ name i. i }

  stands_with : (b : Block) (a : Surroundings) (new : List Declared) → Stands blocks b a → ((name : List ℕ) (d : Declared) → look_up new name ≡ Some d → IsKnown blocks a.depth name d) →
      Stands blocks b (record a { known = new ++ a.known })
  stands_with b a new s f = record { there = s.there; block_is = s.block_is; depth_is = s.depth_is; outer = s.outer; around = around_with blocks a new s.around f }

  step_simple : (b : Block) (a : Surroundings) (kind : Kind) (ns : List Named) (ds : PDecls) → IsStarted b a (tree.decls (tree.simple kind ns) ds) →
      IsDeclared blocks (record { part = parts.declaration (tree.simple kind ns) ds; around = a }) → Apart (spots_of_names ns ++ spots_of_decls ds) → IsStarted b (knowing blocks (tree.simple kind ns) ds a) ds
  step_simple b a kind ns ds s c p =
      record {
        stands = stands_with b a new s.stands found;
        callees = s.callees;
        passed_variables = s.passed_variables ++ of_kind kind ns;
        passed_cells = s.passed_cells ++ cells_for a.block cells.variable ns;
        variables_are = rw append_assoc s.variables_are;
        cells_are = rw append_assoc s.cells_are;
        passed =
            subst (λ (names : List (List ℕ)). Passed names (spots_of_decls ds) (s.passed_variables ++ of_kind kind ns) (s.passed_cells ++ cells_for a.block cells.variable ns))
            (sym (names_both a.block new a.known))
            (passed_both (names_of a.block new ++ names_of a.block a.known) (spots_of_decls ds) s.passed_variables (of_kind kind ns) s.passed_cells (cells_for a.block cells.variable ns)
            (passed_more (names_of a.block new) (names_of a.block a.known) (spots_of_names ns) (spots_of_decls ds) s.passed_variables s.passed_cells s.passed)
            (passed_new (names_of a.block new ++ names_of a.block a.known) (spots_of_decls ds) a.block kind ns
            (λ n i. one_front (names_of a.block new) (names_of a.block a.known) n.name (named_new a.block a.depth sort.variable (class.simple kind) ns n i))
            (apart_across (spots_of_names ns) (spots_of_decls ds) p)));
        given =
            subst (λ (names : List (List ℕ)). Passed names (spots_of_decls ds) (given_cells blocks b) (given_places blocks b)) (sym (names_both a.block new a.known))
            (passed_more (names_of a.block new) (names_of a.block a.known) (spots_of_names ns) (spots_of_decls ds) (given_cells blocks b) (given_places blocks b) s.given);
        owned = s.owned;
        held = λ t i. s.held t (in_back t (spots_of_names ns) (variable_spots ds) i);
        made =
            subst (λ (names : List (List ℕ)). AreMadePassed a.block names b.decls ds) (sym (names_both a.block new a.known))
            (made_step a.block (names_of a.block new) (names_of a.block a.known) b.decls (tree.simple kind ns) ds (λ n i. absurd i) p s.made);
        labelled = s.labelled;
      }
    where
      new : List Declared
      new = declare a.block a.depth sort.variable (class.simple kind) ns

      found : (name : List ℕ) (d : Declared) → look_up new name ≡ Some d → IsKnown blocks a.depth name d
      found name d h =
          let r = hit a.block a.depth kind ns (variables ds) (variable_cells a.block ds) name d (apart_front (spots_of_names ns) (spots_of_decls ds) p) h in
          let results = result_names_of (block_numbered blocks a.block) in
          let none = fresh a.block a.depth sort.variable (class.simple kind) ns (results ++ names_of a.block a.known) name d c.once h in
          let others =
          passed_others (names_of a.block a.known) (spots_of_names ns ++ spots_of_decls ds) name d.spot s.passed_variables s.passed_cells (one_of_back results (names_of a.block a.known) name none)
          (in_front d.spot (spots_of_names ns) (spots_of_decls ds) r.inside) s.passed in
          let aligned =
          aligned_over s.passed_variables (of_kind kind ns ++ variables ds) s.passed_cells (cells_for a.block cells.variable ns ++ variable_cells a.block ds) name d.spot (value kind) others r.aligned in
          known_variable kind (record {
            in_block = b;
            there = s.stands.there;
            class_is = r.var.class_is;
            sort_is = r.var.sort_is;
            block_is = r.var.block_is ∙ s.stands.block_is;
            depth_is = r.var.depth_is ∙ s.stands.depth_is;
            within = omega (arith, r.var.depth_is);
            place = inl (record {
              among = s.held d.spot (in_front d.spot (spots_of_names ns) (variable_spots ds) r.inside);
              past =
                  passed_others (names_of a.block a.known) (spots_of_names ns ++ spots_of_decls ds) name d.spot (given_cells blocks b) (given_places blocks b)
                  (one_of_back results (names_of a.block a.known) name none) (in_front d.spot (spots_of_names ns) (spots_of_decls ds) r.inside) s.given;
              other = subst (λ (k : ℕ). name_is_one_of (result_names_of (block_numbered blocks k)) name ≡ false) (sym r.var.block_is) (one_of_front results (names_of a.block a.known) name none);
              aligned =
                  subst (λ (k : ℕ). Aligned (variables b.decls) (variable_cells k b.decls) name d.spot (value kind)) s.stands.block_is
                  (subst (λ (xs : List Simple). Aligned xs (variable_cells a.block b.decls) name d.spot (value kind)) (sym s.variables_are)
                  (subst (λ (cs : List Cell). Aligned (s.passed_variables ++ (of_kind kind ns ++ variables ds)) cs name d.spot (value kind)) (sym s.cells_are) aligned));
            });
          })

  -- a declaration that has no cell of a variable
  step_with : (b : Block) (a : Surroundings) (d : PDecl) (ds : PDecls) (new : List Declared) → IsStarted b a (tree.decls d ds) → variables (tree.decls d ds) ≡ variables ds →
      variable_cells a.block (tree.decls d ds) ≡ variable_cells a.block ds → ((h : Heading) → IsIn h (headings ds) → IsIn h (headings (tree.decls d ds))) →
      ((t : Spot) → IsIn t (variable_spots ds) → IsIn t (variable_spots (tree.decls d ds))) → ((name : List ℕ) (e : Declared) → look_up new name ≡ Some e → IsKnown blocks a.depth name e) →
      ((n : Named) → IsIn n (made_names d) → name_is_one_of (names_of a.block new ++ names_of a.block a.known) n.name ≡ true) → Apart (spots_of_decl d ++ spots_of_decls ds) →
      ((n : Named) → IsIn n (labels_in ds) → IsIn n (labels_in (tree.decls d ds))) → IsStarted b (record a { known = new ++ a.known }) ds
  step_with b a d ds new s v w o t f g p l =
      record {
        stands = stands_with b a new s.stands f;
        callees = s.callees;
        passed_variables = s.passed_variables;
        passed_cells = s.passed_cells;
        variables_are = s.variables_are ∙ ap (λ z. s.passed_variables ++ z) v;
        cells_are = s.cells_are ∙ ap (λ z. s.passed_cells ++ z) w;
        passed =
            subst (λ (names : List (List ℕ)). Passed names (spots_of_decls ds) s.passed_variables s.passed_cells) (sym (names_both a.block new a.known))
            (passed_more (names_of a.block new) (names_of a.block a.known) (spots_of_decl d) (spots_of_decls ds) s.passed_variables s.passed_cells s.passed);
        given =
            subst (λ (names : List (List ℕ)). Passed names (spots_of_decls ds) (given_cells blocks b) (given_places blocks b)) (sym (names_both a.block new a.known))
            (passed_more (names_of a.block new) (names_of a.block a.known) (spots_of_decl d) (spots_of_decls ds) (given_cells blocks b) (given_places blocks b) s.given);
        owned = λ h i. s.owned h (o h i);
        held = λ x i. s.held x (t x i);
        made =
            subst (λ (names : List (List ℕ)). AreMadePassed a.block names b.decls ds) (sym (names_both a.block new a.known))
            (made_step a.block (names_of a.block new) (names_of a.block a.known) b.decls d ds g p s.made);
        labelled = λ n i. s.labelled n (l n i);
      }

  files_known : (a : Surroundings) (ns : List Named) (name : List ℕ) (d : Declared) → look_up (declare a.block a.depth sort.file class.file ns) name ≡ Some d → IsKnown blocks a.depth name d
  files_known a ns name d h =
      let r = declared_is a.block a.depth sort.file class.file ns name d h in
      known_file r.0 r.1

  procedure_known : (b : Block) (a : Surroundings) (ds : PDecls) (g : Heading) → IsStarted b a ds → IsIn g (headings ds) → (name : List ℕ) (d : Declared) →
      look_up (declare a.block a.depth (sort.procedure (number_at blocks g.name.spot)) (class.procedure g) (g.name ∷ [])) name ≡ Some d → IsKnown blocks a.depth name d
  procedure_known b a ds g s i name d h =
      let r = found_one a.block a.depth (sort.procedure (number_at blocks g.name.spot)) (class.procedure g) g.name name d h in
      let callee = s.callees g (s.owned g i) in
      known_procedure g (record {
        in_block = b;
        there = s.stands.there;
        body = callee.body;
        body_there = callee.body_there;
        built = callee.built;
        once = callee.once;
        cells_are = callee.cells_are;
        named_are = callee.named_are;
        named = r.0;
        among = s.owned g i;
        class_is = ap (λ (z : Declared). z.class) (sym r.1);
        sort_is = ap (λ (z : Declared). z.sort) (sym r.1);
        spot_is = ap (λ (z : Declared). z.spot) (sym r.1);
        block_is = ap (λ (z : Declared). z.block) (sym r.1) ∙ s.stands.block_is;
        depth_is = ap (λ (z : Declared). z.depth) (sym r.1) ∙ s.stands.depth_is;
        within = omega (arith, ap (λ (z : Declared). z.depth) (sym r.1));
      })

  -- no variable has such a name: neither those that are passed, nor those that come
  none_simple : (b : Block) (a : Surroundings) (spots : List Spot) (ds : PDecls) (name : List ℕ) (passed : List Simple) (cells_passed : List Cell) → name_is_one_of (names_of a.block a.known) name ≡ false →
      variables b.decls ≡ passed ++ variables ds → Passed (names_of a.block a.known) spots passed cells_passed → AllByRecursion (λ (x : Simple). same_name x.name name ≡ false) (variables ds) →
      AllByRecursion (λ (x : Simple). same_name x.name name ≡ false) (variables b.decls)
  none_simple b a spots ds name passed cells_passed other are those later_ones =
      subst (AllByRecursion (λ (x : Simple). same_name x.name name ≡ false)) (sym are)
      (each_both (λ (x : Simple). same_name x.name name ≡ false) passed (variables ds) (passed_named (names_of a.block a.known) spots name passed cells_passed other those) later_ones)

  array_known : (b : Block) (a : Surroundings) (first : List Declared) (kind : Kind) (ns : List Named) (pairs : List PPair) (ds : PDecls) → IsStarted b a (tree.decls (tree.arrays kind ns pairs) ds) →
      IsDeclared blocks (record { part = parts.declaration (tree.arrays kind ns pairs) ds; around = a }) → AreDimensions pairs × TypedPairs (record a { known = first }) pairs × (1 ≤ length ns) →
      TypedDecls blocks (knowing blocks (tree.arrays kind ns pairs) ds a) first ds → Apart ((spots_of_names ns ++ spots_of_pairs pairs) ++ spots_of_decls ds) → (name : List ℕ) (d : Declared) →
      look_up (declare a.block a.depth sort.array (class.array kind (length pairs)) ns) name ≡ Some d → IsKnown blocks a.depth name d
  array_known b a first kind ns pairs ds s c t behind p name d h =
      let whole = class.array kind (length pairs) in
      let new = declare a.block a.depth sort.array whole ns in
      let names = names_of a.block a.known in
      let results = result_names_of (block_numbered blocks a.block) in
      let own = spots_of_names ns ++ spots_of_pairs pairs in
      let none = fresh a.block a.depth sort.array whole ns (results ++ names) name d c.once h in
      let other = one_of_back results names name none in
      let found = array_there a.block a.depth names b.decls kind ns pairs ds name d p other s.made h in
      let r = found.0 in
      let mine = one_front (names_of a.block new) names name (declared_name a.block a.depth sort.array whole ns name d h) in
      let later_ones =
      later blocks (knowing blocks (tree.arrays kind ns pairs) ds a) first ds behind name (subst (λ (z : List (List ℕ)). name_is_one_of z name ≡ true) (sym (names_both a.block new a.known)) mine) in
      known_array kind (length pairs) (record {
        in_block = b;
        there = s.stands.there;
        class_is = r.class_is;
        sort_is = r.sort_is;
        block_is = r.block_is ∙ s.stands.block_is;
        depth_is = r.depth_is ∙ s.stands.depth_is;
        within = omega (arith, r.depth_is);
        array = record { name = r.one.name; kind = kind; pairs = pairs };
        kind_is = refl;
        rank_is = refl;
        dimensions = t.0;
        whole = lows_whole (record a { known = first }) pairs t.1;
        among = r.among;
        arrayed = subst (λ (k : ℕ). IsMade (made_of b.decls) (made_cells k b.decls) name d.spot (an_array (record { name = r.one.name; kind = kind; pairs = pairs }))) s.stands.block_is r.made;
        lows = found.1;
        other = subst (λ (k : ℕ). name_is_one_of (result_names_of (block_numbered blocks k)) name ≡ false) (sym r.block_is) (one_of_front results names name none);
        past = passed_named names (own ++ spots_of_decls ds) name (given_cells blocks b) (given_places blocks b) other s.given;
        simple = none_simple b a (own ++ spots_of_decls ds) ds name s.passed_variables s.passed_cells other s.variables_are s.passed later_ones;
      })

  -- .. an event or a task
  evented : (b : Block) (a : Surroundings) (first : List Declared) (d : PDecl) (ns : List Named) (ds : PDecls) (class_of : Class) → IsEventful class_of → IsStarted b a (tree.decls d ds) → variables (tree.decls d ds) ≡ variables ds →
      spots_of_decl d ≡ spots_of_names ns → knowing blocks d ds a ≡ record a { known = declare a.block a.depth sort.event class_of ns ++ a.known } →
      repeated (result_names_of (block_numbered blocks a.block) ++ names_of a.block a.known) ns ≡ [] → TypedDecls blocks (knowing blocks d ds a) first ds → (name : List ℕ) (e : Declared) →
      (name_is_one_of (names_of a.block a.known) name ≡ false → IsThere a.block a.depth event_of sort.event class_of b.decls name e) →
      look_up (declare a.block a.depth sort.event class_of ns) name ≡ Some e → IsKnown blocks a.depth name e
  evented b a first d ns ds class_of v s w places same once behind name e there h =
      let new = declare a.block a.depth sort.event class_of ns in
      let names = names_of a.block a.known in
      let results = result_names_of (block_numbered blocks a.block) in
      let own = spots_of_decl d in
      let none = fresh a.block a.depth sort.event class_of ns (results ++ names) name e once h in
      let other = one_of_back results names name none in
      let r = there other in
      let mine = one_front (names_of a.block new) names name (declared_name a.block a.depth sort.event class_of ns name e h) in
      let later_ones =
      later blocks (record a { known = new ++ a.known }) first ds (subst (λ (z : Surroundings). TypedDecls blocks z first ds) same behind) name
      (subst (λ (z : List (List ℕ)). name_is_one_of z name ≡ true) (sym (names_both a.block new a.known)) mine) in
      known_event (record {
        in_block = b;
        there = s.stands.there;
        class_is = subst IsEventful (sym r.class_is) v;
        sort_is = r.sort_is;
        block_is = r.block_is ∙ s.stands.block_is;
        depth_is = r.depth_is ∙ s.stands.depth_is;
        within = omega (arith, r.depth_is);
        among = r.among;
        made =
            subst (λ (k : ℕ). IsMade (made_of b.decls) (made_cells k b.decls) name e.spot (an_event name)) s.stands.block_is
            (subst (λ (z : List ℕ). IsMade (made_of b.decls) (made_cells a.block b.decls) name e.spot (an_event z)) r.name_is r.made);
        other = subst (λ (k : ℕ). name_is_one_of (result_names_of (block_numbered blocks k)) name ≡ false) (sym r.block_is) (one_of_front results names name none);
        past = passed_named names (own ++ spots_of_decls ds) name (given_cells blocks b) (given_places blocks b) other s.given;
        simple = none_simple b a (own ++ spots_of_decls ds) ds name s.passed_variables s.passed_cells other (s.variables_are ∙ ap (λ z. s.passed_variables ++ z) w) s.passed later_ones;
      })

  -- .. a label
  labels_known : (b : Block) (a : Surroundings) (ns : List Named) (ds : PDecls) → IsStarted b a (tree.decls (tree.labels ns) ds) → (name : List ℕ) (d : Declared) →
      look_up (declare a.block a.depth sort.label class.label ns) name ≡ Some d → IsKnown blocks a.depth name d
  labels_known b a ns ds s name d h =
      let r = label_hit a.block a.depth ns name d h in
      known_label (record {
        in_block = b;
        there = s.stands.there;
        class_is = r.class_is;
        sort_is = r.sort_is;
        block_is = r.block_is ∙ s.stands.block_is;
        depth_is = r.depth_is ∙ s.stands.depth_is;
        within = omega (arith, r.depth_is);
        name_is = r.name_is;
        one = r.one;
        one_name = r.one_name;
        one_spot = r.one_spot;
        among = s.labelled r.one (in_front r.one ns (labels_in ds) r.among);
      })

  -- the names of what is made are among those that the block has after them
  made_named : (a : Surroundings) (s : Sort) (c : Class) (ns : List Named) (n : Named) → IsIn n ns →
      name_is_one_of (names_of a.block (declare a.block a.depth s c ns) ++ names_of a.block a.known) n.name ≡ true
  made_named a s c ns n i =
      one_front (names_of a.block (declare a.block a.depth s c ns)) (names_of a.block a.known) n.name (named_new a.block a.depth s c ns n i)

  pub step : (b : Block) (a : Surroundings) (first : List Declared) (d : PDecl) (ds : PDecls) → IsStarted b a (tree.decls d ds) → TypedDecls blocks a first (tree.decls d ds) →
      Apart (spots_of_decl d ++ spots_of_decls ds) → IsStarted b (knowing blocks d ds a) ds
  step b a first (tree.simple kind ns) ds s t p = step_simple b a kind ns ds s t.0 p
  step b a first (tree.files ns) ds s t p =
      step_with b a (tree.files ns) ds (declare a.block a.depth sort.file class.file ns) s refl refl (λ h i. i) (λ x i. i) (files_known a ns) (λ n i. absurd i) p (λ z i. i)
  step b a first (tree.arrays kind ns pairs) ds s t p =
      step_with b a (tree.arrays kind ns pairs) ds (declare a.block a.depth sort.array (class.array kind (length pairs)) ns) s refl refl (λ h i. i) (λ x i. i)
      (array_known b a first kind ns pairs ds s t.0 t.1 t.2 p) (made_named a sort.array (class.array kind (length pairs)) ns) p (λ z i. i)
  step b a first (tree.events ns) ds s t p =
      step_with b a (tree.events ns) ds (declare a.block a.depth sort.event class.event ns) s refl refl (λ h i. i) (λ x i. i)
      (λ name e h. evented b a first (tree.events ns) ns ds class.event (inl refl) s refl refl refl t.0.once t.2 name e
      (λ other. event_there a.block a.depth (names_of a.block a.known) b.decls ns ds name e p other s.made h) h)
      (made_named a sort.event class.event ns) p (λ z i. i)
  step b a first (tree.tasks ns) ds s t p =
      step_with b a (tree.tasks ns) ds (declare a.block a.depth sort.event class.task ns) s refl refl (λ h i. i) (λ x i. i)
      (λ name e h. evented b a first (tree.tasks ns) ns ds class.task (inr refl) s refl refl refl t.0.once t.2 name e
      (λ other. task_there a.block a.depth (names_of a.block a.known) b.decls ns ds name e p other s.made h) h)
      (made_named a sort.event class.task ns) p (λ z i. i)
  step b a first (tree.labels ns) ds s t p =
      step_with b a (tree.labels ns) ds (declare a.block a.depth sort.label class.label ns) s refl refl (λ h i. i) (λ x i. i) (labels_known b a ns ds s) (λ n i. absurd i) p
      (λ n i. in_back n ns (labels_in ds) i)
  step b a first (tree.forward h) ds s t p =
      let g = announced h ds in
      let there = announced_there h ds (body_of h.name.name ds) h.name.spot refl (append_none_left (if_so (not (is_some (body_of h.name.name ds))) h.name.spot) (unknown_in_heading h) t.0.known) in
      step_with b a (tree.forward h) ds (declare a.block a.depth (sort.procedure (number_at blocks g.name.spot)) (class.procedure g) (g.name ∷ [])) s refl refl (λ f i. i) (λ x i. i)
      (procedure_known b a (tree.decls (tree.forward h) ds) g s there) (λ n i. absurd i) p (λ z i. i)
  step b a first (tree.procedure h body) ds s t p =
      step_with b a (tree.procedure h body) ds (declare a.block a.depth (sort.procedure (number_at blocks h.name.spot)) (class.procedure h) (h.name ∷ [])) s refl refl (λ f i. inr i) (λ x i. i)
      (procedure_known b a (tree.decls (tree.procedure h body) ds) h s (inl refl)) (λ n i. absurd i) p (λ z i. i)
