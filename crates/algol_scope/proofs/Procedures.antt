-- Declarations one after the other, and procedures.
use Rattle.std.proofs.Common.{◌≡◌, ℕ, ◌+◌, ◌<◌, true, false, List, [], ◌∷◌, ◌++◌, map, length, drop, get_or, drop-cons, refl, ap, sym, ◌∙◌, subst, append_assoc, append-nil, suc, add-one}
use Rattle.std.specs.List.{flat_map}
use Rattle.algol_tree.specs.declared.token.Spot.{Spot}
use Rattle.algol_tree.specs.declared.tree.Named.{Named}
use Rattle.algol_tree.specs.declared.tree.Heading.{Heading}
use Rattle.algol_tree.specs.declared.tree.Decl.{Decl}
use Rattle.algol_tree.specs.declared.tree.Kind.{Kind}
use Rattle.algol_tree.specs.Plain as tree
use Rattle.algol_tree.specs.Plain.{PDecl, PDecls, PPair, PStmt, PBody}
use Rattle.algol_tree.specs.declared.tree.Body.{Body}
use Rattle.algol_tree.specs.declared.tree.Stmt.{Stmt}
use Rattle.algol_tree.specs.declared.tree.Stmt.TheVariants as forms
use Rattle.algol_tree.specs.Image.{body, decl, decls, stmt}
use Rattle.algol_tree.specs.Classes as classes
use Rattle.algol_tree.specs.Sorts as sort
use Rattle.algol_tree.specs.Sorts.{Declared, Sort, formals_of}
use Rattle.algol_tree.specs.Blocks.{Block, of_procedure, of_statement, blocks_of, blocks_in_body, blocks_in_decl, blocks_in_decls, number_at, procedure_block}
use Rattle.algol_tree.specs.Surroundings.{Surroundings, announced, inside_procedure, knowing, knowing_all}
use Rattle.algol_tree.specs.Sites.{Site, here_stmt, inside_stmt, sites_in_body, sites_in_decls, sites_in_pairs}
use Rattle.algol_tree.specs.Cells as cells
use Rattle.algol_tree.specs.Cells.{cells_at, cells_for, result_cells}
use Rattle.algol_tree.specs.Couples.{known_at, known_in_heading, known_names}
use Rattle.algol_sorts.specs.declared.sort.Sort as said
use Rattle.algol_sorts.specs.declared.sort.Sort.TheVariants as so
use Rattle.algol_known.specs.declared.around.Procedure.{Procedure}
use Rattle.algol_scope.specs.declared.declaration.Ahead.{Ahead}
use Rattle.algol_scope.specs.declared.resolver.Resolver.{Resolver}
use Rattle.algol_known.specs.Looking.{modes_in, procedure_class}
use Rattle.algol_known.specs.Seeing.{Extends, KnownKeeps, mode_of}
use Rattle.algol_scope.specs.Noting.{ScopeFinds, ScopeWalks, content_of, faults_at}
use Rattle.algol_frames.specs.declared.found.Content.{Content}
use Rattle.algol_scope.specs.declared.findings.Findings.{Findings}
use Rattle.algol_frames.specs.declared.found.Content.TheVariants as content
use Rattle.algol_known.specs.declared.known.Seen.TheVariants as seens
use Rattle.algol_scope.specs.Stating.{AreNumbered, WalkEnters, Fills, WalkSettles, Visits, stated_block_of, no_blocks, stmt_blocks, stmt_parts}
use Rattle.algol_scope.specs.Declaring.{AreAhead, IsAhead, IsOf, Makes, Starts, cell_of_procedure, cells_here, decl_parts, decl_site, declared_so, faults_of_decl, known_so, no_cells, no_faults, no_uses, nothing_so, procedure_so, twice_among}
use Rattle.algol_known.specs.Widening.{SortStandsFor}
use Rattle.algol_scope.proofs.Walking.{added, adds_as, adds_none, adds_then, again}
use Rattle.algol_scope.proofs.Visiting.{class_extends, numbered_right, settles_kept}
use Rattle.algol_scope.proofs.Bodies.{block_is, is_block}
use Rattle.algol_scope.proofs.Opening.{Closes, extends_from, extends_same}
use Rattle.algol_scope.proofs.Making.{enters_bounds, enters_made, enters_none, enters_then, makes_then}

-- ---- what stands ahead, with more procedures

pub of_extends : (ps qs : List Procedure) (x : Ahead) (h : Heading) → Extends ps qs → IsOf ps x h → IsOf qs x h
of_extends ps qs x h e i = record { class = class_extends ps qs (procedure_class x.procedure) (classes.procedure h) e i.class; spot = i.spot; kind = i.kind }

is_ahead_extends : (ps qs : List Procedure) (d : PDecl) (later : PDecls) (x : Ahead) → Extends ps qs → IsAhead ps d later x → IsAhead qs d later x
is_ahead_extends ps qs (tree.simple kind ns) later x e i = tt
is_ahead_extends ps qs (tree.files ns) later x e i = tt
is_ahead_extends ps qs (tree.events ns) later x e i = tt
is_ahead_extends ps qs (tree.tasks ns) later x e i = tt
is_ahead_extends ps qs (tree.labels ns) later x e i = tt
is_ahead_extends ps qs (tree.arrays kind ns pairs) later x e i = tt
is_ahead_extends ps qs (tree.forward h) later x e i = (of_extends ps qs x (announced h later) e i.0, i.1)
is_ahead_extends ps qs (tree.procedure h s) later x e i = of_extends ps qs x h e i

pub ahead_extends : (ps qs : List Procedure) (ds : PDecls) (xs : List Ahead) → Extends ps qs → AreAhead ps ds xs → AreAhead qs ds xs
ahead_extends ps qs tree.no_decls [] e a = tt
ahead_extends ps qs tree.no_decls (x ∷ xs) e a = absurd a
ahead_extends ps qs (tree.decls d ds) [] e a = absurd a
ahead_extends ps qs (tree.decls d ds) (x ∷ xs) e a = (is_ahead_extends ps qs d ds x e a.0, ahead_extends ps qs ds xs e a.1)

-- ---- declarations one after the other

-- a walk that has come so far: with the rest it goes through all
pub record Through (old now : Resolver) (all rest : List Decl) (left : List Ahead) : Type 0 where
  pub ahead : AreAhead now.around.procedures.items (decls rest) left
  pub goes : (last : Resolver) →
      WalkEnters now last (λ blocks. sites_in_decls blocks (decls rest)) (blocks_in_decls (decls rest)) (λ blocks. knowing_all blocks (decls rest)) →
      WalkEnters old last (λ blocks. sites_in_decls blocks (decls all)) (blocks_in_decls (decls all)) (λ blocks. knowing_all blocks (decls all))

pub through_start : (old now : Resolver) (ds : List Decl) (found : List Ahead) → AreAhead now.around.procedures.items (decls ds) found →
    Extends old.around.procedures.items now.around.procedures.items → now.around.innermost ≡ old.around.innermost → now.around.outer ≡ old.around.outer →
    now.findings ≡ old.findings → now.blocks ≡ old.blocks → Through old now ds ds found
through_start old now ds found a e i o f b =
    let outer : now.around.outer.items ≡ old.around.outer.items = cc in
    let begins : now.blocks.items ≡ old.blocks.items ++ [] = (let same : now.blocks.items ≡ old.blocks.items = cc in same ∙ sym (append-nil old.blocks.items)) in
    let first : WalkEnters old now (λ blocks a first. []) no_blocks nothing_so =
    record {
      outer = outer;
      procedures = e;
      comes =
          λ blocks a spots first s n.
          record {
            finds =
                (let P : Findings → Type 0 = λ z. ScopeFinds blocks old.findings [] z in
                subst P (sym f) (adds_none old.findings));
            begins = begins;
          };
      settles =
          λ blocks a spots first s n.
          settles_kept blocks old now a spots first [] (record { innermost = i; outer = outer; procedures = e }) begins s;
    } in
    record {
      ahead = a;
      goes =
          λ last w.
          enters_then old now last (λ blocks a first. []) (λ blocks. sites_in_decls blocks (decls ds)) no_blocks (blocks_in_decls (decls ds)) nothing_so
          (λ blocks. knowing_all blocks (decls ds)) first w;
    }

pub through_item : (old now new : Resolver) (all ds : List Decl) (xs : List Ahead) (i : ℕ) (d : Decl) (x : Ahead) → i < length ds → i < length xs →
    d ≡ get_or ds i d → x ≡ get_or xs i x → Through old now all (drop i ds) (drop i xs) →
    ((later : PDecls) → IsAhead now.around.procedures.items (decl d) later x →
    WalkEnters now new (decl_parts (decl d) later) (blocks_in_decl (decl d)) (λ blocks. knowing blocks (decl d) later)) →
    Through old new all (drop (i + 1) ds) (drop (i + 1) xs)
through_item old now new all ds xs i d x h k same known l enter =
    rw add-one
    (let at : drop i ds ≡ d ∷ drop (suc i) ds = drop-cons ds i d h ∙ ap (λ z. z ∷ drop (suc i) ds) (sym same) in
    let at_ahead : drop i xs ≡ x ∷ drop (suc i) xs = drop-cons xs i x k ∙ ap (λ z. z ∷ drop (suc i) xs) (sym known) in
    let P : List Decl → Type 0 = λ z. Through old now all z (drop i xs) in
    let Q : List Ahead → Type 0 = λ z. Through old now all (d ∷ drop (suc i) ds) z in
    let moved : Through old now all (d ∷ drop (suc i) ds) (x ∷ drop (suc i) xs) = subst Q at_ahead (subst P at l) in
    let later : PDecls = decls (drop (suc i) ds) in
    let entered = enter later moved.ahead.0 in
    record {
      ahead =
          ahead_extends now.around.procedures.items new.around.procedures.items later (drop (suc i) xs) entered.procedures moved.ahead.1;
      goes =
          λ last w.
          moved.goes last
          (enters_then now new last (decl_parts (decl d) later) (λ blocks. sites_in_decls blocks later) (blocks_in_decl (decl d)) (blocks_in_decls later)
          (λ blocks. knowing blocks (decl d) later) (λ blocks. knowing_all blocks later) entered w);
    })

pub through_end : (old now : Resolver) (all rest : List Decl) (left : List Ahead) → rest ≡ [] → Through old now all rest left →
    WalkEnters old now (λ blocks. sites_in_decls blocks (decls all)) (blocks_in_decls (decls all)) (λ blocks. knowing_all blocks (decls all))
through_end old now all rest left h l =
    let P : List Decl → Type 0 = λ z. Through old now all z left in
    let moved : P [] = subst P h l in
    moved.goes now (enters_none now)

-- ---- declarations of names

-- what the walk does at declarations of one form
abbrev pub Declares : Resolver → Resolver → PDecl → PDecls → Type 0
Declares old new d later = WalkEnters old new (decl_parts d later) (blocks_in_decl d) (λ blocks. knowing blocks d later)

abbrev pub Cells : Resolver → Resolver → List Named → said.Sort → Content → Type 0
Cells old new ns its content =
    (sort : Sort) (c : classes.Class) (held : cells.Content) → SortStandsFor its sort c → content_of held ≡ content →
    Makes old new (twice_among ns) (cells_here held ns) (known_so (declared_so sort c ns) ns) (declared_so sort c ns)

abbrev pub Bare : Resolver → Resolver → List Named → said.Sort → Type 0
Bare old new ns its =
    (sort : Sort) (c : classes.Class) → SortStandsFor its sort c →
    Makes old new (twice_among ns) no_cells (known_so (declared_so sort c ns) ns) (declared_so sort c ns)

pub declares_simple : (old new : Resolver) (kind : Kind) (ns : List Named) (later : PDecls) → Cells old new ns (so.Variable kind) content.Variable →
    Declares old new (tree.simple kind ns) later
declares_simple old new kind ns later m =
    enters_made old new (tree.simple kind ns) later (twice_among ns) (cells_here cells.variable ns)
    (known_so (declared_so sort.variable (classes.simple kind) ns) ns) (declared_so sort.variable (classes.simple kind) ns)
    (λ blocks a. sym (append-nil (twice_among ns blocks a))) (λ blocks a. refl) (λ blocks a. refl)
    (m sort.variable (classes.simple kind) cells.variable ((λ ps. record { simple = refl; modes = refl; within = tt }), refl) refl)

pub declares_files : (old new : Resolver) (ns : List Named) (later : PDecls) → Bare old new ns so.File → Declares old new (tree.files ns) later
declares_files old new ns later m =
    enters_made old new (tree.files ns) later (twice_among ns) no_cells (known_so (declared_so sort.file classes.file ns) ns)
    (declared_so sort.file classes.file ns) (λ blocks a. sym (append-nil (twice_among ns blocks a))) (λ blocks a. refl) (λ blocks a. refl)
    (m sort.file classes.file ((λ ps. record { simple = refl; modes = refl; within = tt }), refl))

pub declares_labels : (old new : Resolver) (ns : List Named) (later : PDecls) → Bare old new ns so.Label → Declares old new (tree.labels ns) later
declares_labels old new ns later m =
    enters_made old new (tree.labels ns) later (twice_among ns) no_cells (known_so (declared_so sort.label classes.label ns) ns)
    (declared_so sort.label classes.label ns) (λ blocks a. sym (append-nil (twice_among ns blocks a))) (λ blocks a. refl) (λ blocks a. refl)
    (m sort.label classes.label ((λ ps. record { simple = refl; modes = refl; within = tt }), refl))

pub declares_events : (old new : Resolver) (ns : List Named) (later : PDecls) → Cells old new ns so.Event content.Made →
    Declares old new (tree.events ns) later
declares_events old new ns later m =
    enters_made old new (tree.events ns) later (twice_among ns) (cells_here cells.made ns) (known_so (declared_so sort.event classes.event ns) ns)
    (declared_so sort.event classes.event ns) (λ blocks a. sym (append-nil (twice_among ns blocks a))) (λ blocks a. refl) (λ blocks a. refl)
    (m sort.event classes.event cells.made ((λ ps. record { simple = refl; modes = refl; within = tt }), refl) refl)

pub declares_tasks : (old new : Resolver) (ns : List Named) (later : PDecls) → Cells old new ns so.Task content.Made → Declares old new (tree.tasks ns) later
declares_tasks old new ns later m =
    enters_made old new (tree.tasks ns) later (twice_among ns) (cells_here cells.made ns) (known_so (declared_so sort.event classes.task ns) ns)
    (declared_so sort.event classes.task ns) (λ blocks a. sym (append-nil (twice_among ns blocks a))) (λ blocks a. refl) (λ blocks a. refl)
    (m sort.event classes.task cells.made ((λ ps. record { simple = refl; modes = refl; within = tt }), refl) refl)

pub declares_arrays : (old mid new : Resolver) (kind : Kind) (ns : List Named) (ps : List PPair) (count : ℕ) (later : PDecls) → count ≡ length ps →
    Cells old mid ns (so.Array kind count) content.Made →
    ScopeWalks mid.around seens.BeforeDeclarations mid.findings new.findings (sites_in_pairs ps) → new.around ≡ mid.around → new.blocks ≡ mid.blocks →
    Declares old new (tree.arrays kind ns ps) later
declares_arrays old mid new kind ns ps count later counted m w around same =
    let c : classes.Class = classes.array kind (length ps) in
    let P : ℕ → Type 0 = λ z. Cells old mid ns (so.Array kind z) content.Made in
    let its : P (length ps) = subst P counted m in
    enters_then old mid new (λ blocks a first. decl_site (tree.arrays kind ns ps) later a ∷ [])
    (λ blocks a first. sites_in_pairs ps (record a { known = first })) no_blocks no_blocks (declared_so sort.array c ns) nothing_so
    (enters_made old mid (tree.arrays kind ns ps) later (twice_among ns) (cells_here cells.made ns) (known_so (declared_so sort.array c ns) ns)
    (declared_so sort.array c ns) (λ blocks a. sym (append-nil (twice_among ns blocks a))) (λ blocks a. refl) (λ blocks a. refl)
    (its sort.array c cells.made ((λ qs. record { simple = refl; modes = refl; within = tt }), refl) refl))
    (enters_bounds mid new ps w around same)

pub declares_forward : (old mid new : Resolver) (h : Heading) (later : PDecls) →
    Makes old mid (faults_of_decl (tree.forward h) later) no_cells no_uses nothing_so →
    Makes mid new no_faults no_cells (known_so (procedure_so (announced h later)) (h.name ∷ [])) (procedure_so (announced h later)) →
    Declares old new (tree.forward h) later
declares_forward old mid new h later x y =
    let p = procedure_so (announced h later) in
    enters_made old new (tree.forward h) later (λ blocks a. faults_of_decl (tree.forward h) later blocks a ++ []) no_cells (known_so p (h.name ∷ [])) p
    (λ blocks a. append-nil (faults_of_decl (tree.forward h) later blocks a)) (λ blocks a. refl) (λ blocks a. refl)
    (makes_then old mid new (faults_of_decl (tree.forward h) later) no_faults no_cells no_cells no_uses (known_so p (h.name ∷ [])) nothing_so p x y)

-- the declaration that this is
pub declares_of : (old new : Resolver) (d : Decl) (p : PDecl) (x : Ahead) → decl d ≡ p →
    ((later : PDecls) → IsAhead old.around.procedures.items p later x → Declares old new p later) →
    (later : PDecls) → IsAhead old.around.procedures.items (decl d) later x → Declares old new (decl d) later
declares_of old new d p x same h later =
    let P : PDecl → Type 0 = λ z. IsAhead old.around.procedures.items z later x → Declares old new z later in subst P (sym same) (h later)

-- ---- procedures

same_length : (old one : Resolver) → one.blocks ≡ old.blocks → length one.blocks.items ≡ length old.blocks.items
same_length old one h = let e : one.blocks.items ≡ old.blocks.items = cc in ap (λ z. length z) e

pub modes_known : (old one : Resolver) (h : Heading) (x : Ahead) → one.around.procedures ≡ old.around.procedures → IsOf old.around.procedures.items x h →
    modes_in one.around.procedures.items (procedure_class x.procedure) ≡ map mode_of (formals_of h)
modes_known old one h x e of =
    (let same : one.around.procedures.items ≡ old.around.procedures.items = cc in ap (λ z. modes_in z (procedure_class x.procedure)) same)
    ∙ of.class.modes

module _ (old one two ful new : Resolver) (h : Heading) (s : PStmt) (later : PDecls)
    (m : Makes old one (faults_of_decl (tree.procedure h s) later) (cell_of_procedure h) (known_so (procedure_so h) (h.name ∷ [])) (procedure_so h))
    (st : Starts one two h)
    (fi : Fills two ful (λ blocks a. here_stmt s false a ∷ inside_stmt blocks s of_procedure false a) (blocks_of s of_procedure))
    (cl : Closes one two ful new) where
  abbrev inner : List Spot → List Block
  inner spots = blocks_of s of_procedure (h.name.spot ∷ spots)

  abbrev parts : List Block → Surroundings → List Site
  parts blocks a = here_stmt s false a ∷ inside_stmt blocks s of_procedure false a

  record Whole (blocks : List Block) (a : Surroundings) (spots : List Spot) : Type 0 where
    pub finds : ScopeFinds blocks old.findings (decl_site (tree.procedure h s) later a ∷ parts blocks (inside_procedure blocks h (procedure_so h blocks a))) ful.findings
    pub begins : ful.blocks.items ≡ one.blocks.items ++ map stated_block_of (procedure_block h s spots ∷ inner spots)

  whole : (blocks : List Block) (a : Surroundings) (spots : List Spot) (first : List Declared) → WalkSettles blocks old a spots first →
      AreNumbered blocks (length old.blocks.items) (procedure_block h s spots ∷ inner spots) → Whole blocks a spots
  whole blocks a spots first g n =
      let b : Surroundings = procedure_so h blocks a in
      let i : Surroundings = inside_procedure blocks h b in
      let site : Site = decl_site (tree.procedure h s) later a in
      let N : ℕ → Type 0 = λ z. AreNumbered blocks z (procedure_block h s spots ∷ inner spots) in
      let at = subst N (sym (same_length old one m.blocks)) n in
      let start = st.comes blocks b spots first s (m.settles blocks a spots first g) at.0 at.1.0 in
      let fill =
      fi.comes blocks i (h.name.spot ∷ spots) start.1.1
      (numbered_right blocks one two (procedure_block h s spots ∷ []) (inner spots) start.0 at) in
      let head = cells_for (number_at blocks h.name.spot) cells.parameter h.params in
      record {
        finds =
            adds_as old.findings ful.findings (faults_at blocks site ++ flat_map (faults_at blocks) (parts blocks i))
            (faults_at blocks site ++ flat_map (faults_at blocks) (parts blocks i))
            (cell_of_procedure h blocks a ++ ((result_cells blocks h ++ head) ++ flat_map (cells_at blocks) (parts blocks i)))
            (cells_at blocks site ++ flat_map (cells_at blocks) (parts blocks i))
            (known_names b (h.name ∷ []) ++ (known_in_heading h i ++ flat_map (known_at blocks) (parts blocks i)))
            (known_at blocks site ++ flat_map (known_at blocks) (parts blocks i)) refl
            (sym (append_assoc (cell_of_procedure h blocks a) (result_cells blocks h ++ head) (flat_map (cells_at blocks) (parts blocks i)))
            ∙ ap (λ z. z ++ flat_map (cells_at blocks) (parts blocks i)) (sym (append_assoc (cell_of_procedure h blocks a) (result_cells blocks h) head)))
            (sym (append_assoc (known_names b (h.name ∷ [])) (known_in_heading h i) (flat_map (known_at blocks) (parts blocks i))))
            (adds_then old.findings one.findings ful.findings (faults_at blocks site) (flat_map (faults_at blocks) (parts blocks i))
            (cell_of_procedure h blocks a) ((result_cells blocks h ++ head) ++ flat_map (cells_at blocks) (parts blocks i)) (known_names b (h.name ∷ []))
            (known_in_heading h i ++ flat_map (known_at blocks) (parts blocks i)) (m.adds blocks a spots first g)
            (adds_then one.findings two.findings ful.findings [] (flat_map (faults_at blocks) (parts blocks i)) (result_cells blocks h ++ head)
            (flat_map (cells_at blocks) (parts blocks i)) (known_in_heading h i) (flat_map (known_at blocks) (parts blocks i)) start.1.0 fill.finds));
        begins = added stated_block_of one.blocks.items two.blocks.items ful.blocks.items (procedure_block h s spots ∷ []) (inner spots) start.0 fill.begins;
      }

  back : KnownKeeps one.around new.around
  back =
      record {
        innermost = cl.innermost;
        outer = cl.outer;
        procedures =
            extends_same one.around.procedures.items ful.around.procedures.items new.around.procedures.items
            (let e = cl.procedures in let f : new.around.procedures.items ≡ ful.around.procedures.items = cc in f)
            (extends_from one.around.procedures.items two.around.procedures.items ful.around.procedures.items
            (let e = st.procedures in let f : one.around.procedures.items ≡ two.around.procedures.items = cc in f) fi.procedures);
      }

  pub declares_procedure : Declares old new (tree.procedure h s) later
  declares_procedure =
      record {
        outer = cl.outer ∙ m.outer;
        procedures =
            extends_from old.around.procedures.items one.around.procedures.items new.around.procedures.items
            (let e = m.procedures in let f : old.around.procedures.items ≡ one.around.procedures.items = cc in f) back.procedures;
        comes =
            λ blocks a spots first g n.
            let w = whole blocks a spots first g n in
            record {
              finds =
                  (let P : Findings → Type 0 =
                  λ z. ScopeFinds blocks old.findings (decl_parts (tree.procedure h s) later blocks a first) z in
                  subst P (sym cl.findings) w.finds);
              begins =
                  (let e = cl.blocks in
                  let k = m.blocks in
                  let f : new.blocks.items ≡ ful.blocks.items = cc in
                  let j : one.blocks.items ≡ old.blocks.items = cc in
                  f ∙ w.begins ∙ ap (λ z. z ++ map stated_block_of (procedure_block h s spots ∷ inner spots)) j);
            };
        settles =
            λ blocks a spots first g n.
            let w = whole blocks a spots first g n in
            settles_kept blocks one new (procedure_so h blocks a) spots first (procedure_block h s spots ∷ inner spots) back
            (let e = cl.blocks in let f : new.blocks.items ≡ ful.blocks.items = cc in f ∙ w.begins) (m.settles blocks a spots first g);
      }

-- ---- the body of a procedure

inside_other : (blocks : List Block) (s : PStmt) (a : Surroundings) → is_block s ≡ false →
    inside_stmt blocks s of_statement false a ≡ inside_stmt blocks s of_procedure false a
inside_other blocks tree.empty a h = refl
inside_other blocks (tree.label n s) a h = refl
inside_other blocks (tree.assign v e) a h = assigned v
  where
    assigned : (v : tree.PVariable) → inside_stmt blocks (tree.assign v e) of_statement false a ≡ inside_stmt blocks (tree.assign v e) of_procedure false a
    assigned (tree.subscripted n es) = refl
inside_other blocks (tree.call_of c) a h = called c
  where
    called : (c : tree.PCall) → inside_stmt blocks (tree.call_of c) of_statement false a ≡ inside_stmt blocks (tree.call_of c) of_procedure false a
    called (tree.called n es) = refl
inside_other blocks (tree.go_to n) a h = refl
inside_other blocks (tree.block b) a h = absurd (let clash : true ≡ false = h in cc)
inside_other blocks (tree.if_then c x) a h = refl
inside_other blocks (tree.if_else c x y) a h = refl
inside_other blocks (tree.while c b) a h = refl
inside_other blocks (tree.until b c) a h = refl
inside_other blocks (tree.for v x s l b) a h = refl
inside_other blocks (tree.thru e b) a h = refl
inside_other blocks (tree.case e ss) a h = refl
inside_other blocks (tree.process c task) a h = started c
  where
    started : (c : tree.PCall) → inside_stmt blocks (tree.process c task) of_statement false a ≡ inside_stmt blocks (tree.process c task) of_procedure false a
    started (tree.called n es) = refl
inside_other blocks (tree.event act e) a h = refl
inside_other blocks (tree.write n spot phrases es) a h = refl

blocks_other : (s : PStmt) (spots : List Spot) → is_block s ≡ false → blocks_of s of_statement spots ≡ blocks_of s of_procedure spots
blocks_other (tree.block b) spots h = absurd (let clash : true ≡ false = h in cc)
blocks_other _ spots h = refl

pub fills_other : (old new : Resolver) (s : PStmt) → is_block s ≡ false → Visits old new (stmt_parts s false) (stmt_blocks s) →
    Fills old new (λ blocks a. here_stmt s false a ∷ inside_stmt blocks s of_procedure false a) (blocks_of s of_procedure)
fills_other old new s h v =
    record {
      outer = v.keeps.outer;
      procedures = v.keeps.procedures;
      comes =
          λ blocks a spots g n.
          let P : List Site → Type 0 = λ z. ScopeFinds blocks old.findings (here_stmt s false a ∷ z) new.findings in
          let Q : List Block → Type 0 = λ z. new.blocks.items ≡ old.blocks.items ++ map stated_block_of z in
          let R : List Block → Type 0 = λ z. AreNumbered blocks (length old.blocks.items) z in
          let one = v.comes blocks a spots g.stands (subst R (sym (blocks_other s spots h)) n) in
          record { finds = subst P (inside_other blocks s a h) one.finds; begins = subst Q (blocks_other s spots h) one.begins };
    }

pub fills_begin : (old new : Resolver) (b : PBody) → Fills old new (λ blocks. sites_in_body blocks b) (blocks_in_body b) →
    Fills old new (λ blocks a. here_stmt (tree.block b) false a ∷ inside_stmt blocks (tree.block b) of_procedure false a) (blocks_of (tree.block b) of_procedure)
fills_begin old new b f =
    record {
      outer = f.outer;
      procedures = f.procedures;
      comes = λ blocks a spots g n. let one = f.comes blocks a spots g n in record { finds = again blocks old.findings new.findings (sites_in_body blocks b a) (here_stmt (tree.block b) false a ∷ sites_in_body blocks b a) refl refl refl one.finds; begins = one.begins };
    }

pub fills_block : (old new : Resolver) (s : Stmt) (b : Body) → s ≡ forms.Block b → Fills old new (λ blocks. sites_in_body blocks (body b)) (blocks_in_body (body b)) →
    Fills old new (λ blocks a. here_stmt (stmt s) false a ∷ inside_stmt blocks (stmt s) of_procedure false a) (blocks_of (stmt s) of_procedure)
fills_block old new s b h f =
    let P : PStmt → Type 0 = λ z. Fills old new (λ blocks a. here_stmt z false a ∷ inside_stmt blocks z of_procedure false a) (blocks_of z of_procedure) in
    subst P (sym (block_is s b h)) (fills_begin old new (body b) f)
