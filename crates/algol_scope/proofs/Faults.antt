-- What the walk notes, declares and adds at declarations.
use Rattle.std.proofs.Common.{◌≡◌, ℕ, ◌+◌, ◌<◌, Bool, true, false, List, [], ◌∷◌, ◌++◌, map, length, Option, Some, None, refl, ap, sym, ◌∙◌, subst, append-nil, append_assoc}
use Rattle.std.specs.Prelude.{not, is_some, ◌&&◌, ◌||◌, if◌then◌else◌}
use Rattle.std.specs.Bool.{◌==◌}
use Rattle.std.specs.Borrow.{Bor}
use Rattle.algol_tree.specs.declared.token.Spot.{Spot}
use Rattle.algol_tree.specs.declared.tree.Heading.{Heading}
use Rattle.algol_tree.specs.declared.tree.Named.{Named}
use Rattle.algol_tree.specs.declared.refusal.Code.TheVariants as codes
use Rattle.algol_tree.specs.declared.refusal.Fault.{Fault}
use Rattle.algol_tree.specs.Plain as tree
use Rattle.algol_tree.specs.Plain.{PDecl, PDecls, PStmt}
use Rattle.algol_tree.specs.Classes as classes
use Rattle.algol_tree.specs.Sorts as sort
use Rattle.algol_sorts.specs.declared.sort.Sort.TheVariants as so
use Rattle.algol_tree.specs.Sorts.{Declared, Sort, declare, declared_parameters, formals_of, look_up, same_name}
use Rattle.algol_tree.specs.Blocks.{Block, block_numbered, number_at, procedure_block, same_spot}
use Rattle.algol_tree.specs.Surroundings.{Surroundings, announced, body_of, heading_or, inside_procedure}
use Rattle.algol_tree.specs.Cells as cells
use Rattle.algol_tree.specs.Cells.{cells_for, result_cells}
use Rattle.algol_tree.specs.Couples.{known_in_heading, known_names}
use Rattle.algol_tree.specs.Counts.{heading_tokens, stmt_tokens}
use Rattle.algol_tree.specs.Names.{if_so, is_announced_by, name_is_one_of, names_here, result_names, result_names_of, twice_in_heading, unknown_in_heading}
use Rattle.algol_tree.specs.Accepted.{broken, noted_all}
use Rattle.algol_tree.proofs.Names.{same_name_is}
use Rattle.algol_rules.proofs.Order.{noted_all_append}
use Rattle.algol_known.specs.declared.known.Entry.{Entry}
use Rattle.algol_known.specs.declared.known.Seen.TheVariants as seens
use Rattle.algol_known.specs.declared.around.Around.{Around}
use Rattle.algol_known.specs.declared.around.Procedure.{Procedure}
use Rattle.algol_scope.specs.declared.declaration.Ahead.{Ahead}
use Rattle.algol_frames.specs.declared.found.Content.TheVariants as content
use Rattle.algol_scope.specs.declared.findings.Findings.{Findings}
use Rattle.algol_scope.specs.declared.resolver.Resolver.{Resolver}
use Rattle.algol_known.specs.Naming.{IsBare, has_name, is_typed}
use Rattle.algol_known.specs.Looking.{is_announced, level_within, looked_up, modes_in, open_blocks, procedure_class, typed_class}
use Rattle.algol_known.specs.Seeing.{Declares, IsClass, NameIsFound, KnownOpens, Sees, block_begun, mode_of}
use Rattle.algol_scope.specs.Noting.{FindingsAdd, Knows, long_segment}
use Rattle.algol_scope.specs.Stating.{AreBefore, WalkSettles, stated_block_of}
use Rattle.algol_scope.specs.Declaring.{IsAhead, IsOf, Makes, Starts, cell_of_procedure, cells_here, declared_so, faults_of_decl, known_so, no_cells, no_faults, no_uses, nothing_so, procedure_so, result_in, twice_among}
use Rattle.algol_known.specs.Widening.{Admits, Widens, declaring, parameters_so}
use Rattle.algol_frames.proofs.Noting.{noted_broken}
use Rattle.algol_scope.proofs.Making.{AreOf, before_append, has_told, makes_adds, makes_as, makes_knows, makes_then, makes_widens}
use Rattle.algol_known.proofs.Widening.{level_here, widens_one}
use Rattle.algol_scope.proofs.Names.{cell_at}
use Rattle.algol_scope.proofs.Opening.{begun_as, level_open, settles_open}
use Rattle.algol_scope.proofs.Procedures as procedure
use Rattle.algol_scope.proofs.Procedures.{declares_forward}
use Rattle.algol_scope.proofs.Visiting.{keeps_same, settles_kept}
use Rattle.algol_known.proofs.Declaring.{same}
use Rattle.algol_known.specs.declared.known.Class.{Class}

pub or_none : {X : Type 0} (b : Bool) (o : Option X) → o ≡ None → b ≡ (b || is_some o)
or_none true o h = refl
or_none false o h = ap (λ z. is_some z) (sym h)

-- ---- faults only

noted_findings : (old new : Findings) (fs : List Fault) → new.faults.first ≡ noted_all old.faults.first fs → new.cells ≡ old.cells → new.uses ≡ old.uses →
    FindingsAdd old fs [] [] new
noted_findings old new fs f c u =
    record {
      faults = f;
      cells = (let e : new.cells.items ≡ old.cells.items = cc in e ∙ sym (append-nil old.cells.items));
      uses = (let e : new.uses.items ≡ old.uses.items = cc in e ∙ sym (append-nil old.uses.items));
    }

pub makes_notes : (old new : Resolver) (f : List Block → Surroundings → List Fault) → new.around ≡ old.around → new.blocks ≡ old.blocks →
    new.findings.cells ≡ old.findings.cells → new.findings.uses ≡ old.findings.uses →
    ((blocks : List Block) (a : Surroundings) (spots : List Spot) (first : List Declared) → WalkSettles blocks old a spots first →
    new.findings.faults.first ≡ noted_all old.findings.faults.first (f blocks a)) → Makes old new f no_cells no_uses nothing_so
makes_notes old new f around same c u h =
    makes_adds old new f no_cells no_uses around same
    (λ blocks a spots first s. noted_findings old.findings new.findings (f blocks a) (h blocks a spots first s) c u)

-- ---- names of one class

of_block : (sort : Sort) (c : classes.Class) (block depth : ℕ) (ns : List Named) → AreOf block (declare block depth sort c ns)
of_block sort c block depth [] = tt
of_block sort c block depth (n ∷ ns) = (refl, of_block sort c block depth ns)

pub makes_names : (old one two new : Resolver) (sort : Sort) (c : classes.Class) (ns items : List Named) → items ≡ ns →
    Makes old one (twice_among items) no_cells no_uses nothing_so → Widens one.around two.around (declaring sort c items) → two.findings ≡ one.findings →
    two.blocks ≡ one.blocks → Knows two.around two.findings new.findings (λ a. known_names a items) → new.around ≡ two.around → new.blocks ≡ two.blocks →
    Makes old new (twice_among ns) no_cells (known_so (declared_so sort c ns) ns) (declared_so sort c ns)
makes_names old one two new sort c ns items same m w f b k around blocks =
    let P : List Named → Type 0 = λ z. Makes old new (twice_among z) no_cells (known_so (declared_so sort c z) z) (declared_so sort c z) in
    let p = declared_so sort c items in
    subst P same
    (makes_as old new (λ blocks a. twice_among items blocks a ++ []) (twice_among items) no_cells no_cells (known_so p items) (known_so p items) p
    (λ blocks a. append-nil (twice_among items blocks a)) (λ blocks a. refl) (λ blocks a. refl)
    (makes_then old one new (twice_among items) no_faults no_cells no_cells no_uses (known_so p items) nothing_so p m
    (makes_then one two new no_faults no_faults no_cells no_cells no_uses (λ blocks a. known_names a items) p nothing_so
    (makes_widens one two (λ blocks a. declare a.block a.depth sort c items) (λ blocks. w) (λ blocks a. of_block sort c a.block a.depth items) f b)
    (makes_knows two new (λ a. known_names a items) k around blocks))))

pub makes_cells : (old one new : Resolver) (sort : Sort) (c : classes.Class) (ns items : List Named) (held : cells.Content) → items ≡ ns →
    Makes old one (twice_among ns) no_cells (known_so (declared_so sort c ns) ns) (declared_so sort c ns) →
    FindingsAdd one.findings [] (cells_for one.around.innermost.block held items) [] new.findings → new.around ≡ one.around → new.blocks ≡ one.blocks →
    Makes old new (twice_among ns) (cells_here held ns) (known_so (declared_so sort c ns) ns) (declared_so sort c ns)
makes_cells old one new sort c ns items held same m h around blocks =
    let p = declared_so sort c ns in
    let P : List Named → Type 0 = λ z. FindingsAdd one.findings [] (cells_for one.around.innermost.block held z) [] new.findings in
    makes_as old new (λ blocks a. twice_among ns blocks a ++ []) (twice_among ns) (cells_here held ns) (cells_here held ns)
    (λ blocks a. known_so p ns blocks a ++ []) (known_so p ns) p (λ blocks a. append-nil (twice_among ns blocks a)) (λ blocks a. refl)
    (λ blocks a. append-nil (known_so p ns blocks a))
    (makes_then old one new (twice_among ns) no_faults no_cells (cells_here held ns) (known_so p ns) no_uses p nothing_so m
    (makes_adds one new no_faults (cells_here held ns) no_uses around blocks
    (λ blocks a spots first s.
    let Q : ℕ → Type 0 = λ z. FindingsAdd one.findings [] (cells_for z held ns) [] new.findings in
    subst Q s.stands.sees.block (subst P same h))))

-- ---- a procedure's name

pub makes_heading : (old one new : Resolver) (h : Heading) (n : Named) (x : Ahead) (name : List ℕ) (entry : Entry) → IsOf old.around.procedures.items x h →
    h.name.name ≡ n.name → name ≡ n.name →
    entry ≡ record { spot = x.spot; block = old.around.innermost.block; level = level_within old.around; class = typed_class x.kind x.procedure } →
    Declares old.around one.around name entry → one.around.outer ≡ old.around.outer → one.around.procedures ≡ old.around.procedures →
    one.around.innermost.typed ≡ old.around.innermost.typed →
    ((a : Surroundings) → Sees old.around seens.BeforeDeclarations a → Sees one.around seens.BeforeDeclarations a) → one.findings ≡ old.findings →
    one.blocks ≡ old.blocks → Knows one.around one.findings new.findings (λ a. known_names a (n ∷ [])) → new.around ≡ one.around → new.blocks ≡ one.blocks →
    Makes old new no_faults no_cells (known_so (procedure_so h) (n ∷ [])) (procedure_so h)
makes_heading old one new h n x name entry of same called e d o p t before f b k around blocks =
    let dec : List Block → Surroundings → Declared =
    λ blocks a.
    record {
      name = h.name.name;
      spot = h.name.spot;
      block = a.block;
      depth = a.depth;
      sort = sort.procedure (number_at blocks h.name.spot);
      class = classes.procedure h;
    } in
    makes_then old one new no_faults no_faults no_cells no_cells no_uses (λ blocks a. known_names a (n ∷ [])) (procedure_so h) nothing_so
    (makes_widens old one (λ blocks a. dec blocks a ∷ [])
    (λ blocks.
    widens_one old.around one.around name entry (dec blocks) d o p t before (λ a. same ∙ sym called) (λ a. refl)
    (λ a s.
    record {
      spot = ap (λ (z : Entry). z.spot) e ∙ of.spot;
      block = ap (λ (z : Entry). z.block) e ∙ s.block;
      level = ap (λ (z : Entry). z.level) e ∙ level_here old.around seens.All a s;
      class =
          (let P : Class → Type 0 = λ z. IsClass old.around.procedures.items z (classes.procedure h) in
          let its : IsClass old.around.procedures.items (typed_class x.kind x.procedure) (classes.procedure h) =
          record { simple = of.class.simple; modes = of.class.modes; within = of.class.within } in
          subst P (sym (ap (λ (z : Entry). z.class) e)) its);
      sort = ap (λ (z : Entry). z.class.sort) e ∙ ap so.Procedure of.kind;
    }))
    (λ blocks a. (refl, tt)) f b)
    (makes_knows one new (λ a. known_names a (n ∷ [])) k around blocks)

-- ---- the faults of headings

-- one name that the block has before
once : (blocks : List Block) (r : Resolver) (a : Surroundings) (spots : List Spot) (first : List Declared) (n : Named) → WalkSettles blocks r a spots first →
    if_so (has_name r.around.innermost.typed r.around.innermost.declared r.around.innermost.parameters n.name) n.spot ≡
    if_so (name_is_one_of (result_names_of (block_numbered blocks a.block) ++ names_here a) n.name) n.spot ++ []
once blocks r a spots first n s =
    ap (λ z. if_so z n.spot) (sym (has_told blocks r a spots first n.name s))
    ∙ sym (append-nil (if_so (name_is_one_of (result_names_of (block_numbered blocks a.block) ++ names_here a) n.name) n.spot))

four : (o f1 f2 f3 f4 : Option Fault) (us vs ts ws : List Spot) → f1 ≡ noted_all o (broken codes.UnknownName us) → f2 ≡ noted_all f1 (broken codes.UnknownName vs) →
    f3 ≡ noted_all f2 (broken codes.DeclaredTwice ts) → f4 ≡ noted_all f3 (broken codes.DeclaredTwice ws) →
    f4 ≡ noted_all o (broken codes.UnknownName (us ++ vs) ++ broken codes.DeclaredTwice (ts ++ ws))
four o f1 f2 f3 f4 us vs ts ws p q r s =
    s ∙ ap (λ z. noted_all z (broken codes.DeclaredTwice ws)) r ∙ sym (noted_broken f2 codes.DeclaredTwice ts ws)
    ∙ ap (λ z. noted_all z (broken codes.DeclaredTwice (ts ++ ws))) (q ∙ ap (λ z. noted_all z (broken codes.UnknownName vs)) p ∙ sym (noted_broken o codes.UnknownName us vs))
    ∙ sym (noted_all_append o (broken codes.UnknownName (us ++ vs)) (broken codes.DeclaredTwice (ts ++ ws)))

pub forward_faults : (old new : Resolver) (h : Heading) (later : PDecls) (has : Bool) → has ≡ is_some (body_of h.name.name later) → new.around ≡ old.around →
    new.blocks ≡ old.blocks → new.findings.cells ≡ old.findings.cells → new.findings.uses ≡ old.findings.uses → (f1 f2 f3 : Option Fault) →
    f1 ≡ noted_all old.findings.faults.first (broken codes.UnknownName (if_so (not has) h.name.spot)) →
    f2 ≡ noted_all f1 (broken codes.UnknownName (unknown_in_heading h)) →
    f3 ≡ noted_all f2 (broken codes.DeclaredTwice (if_so (has_name old.around.innermost.typed old.around.innermost.declared old.around.innermost.parameters h.name.name) h.name.spot)) →
    new.findings.faults.first ≡ noted_all f3 (broken codes.DeclaredTwice (twice_in_heading h)) →
    Makes old new (faults_of_decl (tree.forward h) later) no_cells no_uses nothing_so
forward_faults old new h later has e around blocks c u f1 f2 f3 p q r s =
    makes_notes old new (faults_of_decl (tree.forward h) later) around blocks c u
    (λ bs a spots first g.
    let o : Option Fault = old.findings.faults.first in
    let us : List Spot = if_so (not (is_some (body_of h.name.name later))) h.name.spot in
    let ts : List Spot = if_so (name_is_one_of (result_names_of (block_numbered bs a.block) ++ names_here a) h.name.name) h.name.spot ++ [] in
    four o f1 f2 f3 new.findings.faults.first us (unknown_in_heading h) ts (twice_in_heading h)
    (p ∙ ap (λ z. noted_all o (broken codes.UnknownName (if_so (not z) h.name.spot))) e) q
    (r ∙ ap (λ z. noted_all f2 (broken codes.DeclaredTwice z)) (once bs old a spots first h.name g)) s
    ∙ ap (λ z. noted_all o (broken codes.UnknownName (us ++ unknown_in_heading h) ++ z)) (sym (append-nil (broken codes.DeclaredTwice (ts ++ twice_in_heading h)))))

-- what is known under the name is the FORWARD of this heading
announced_told : (ps : List Procedure) (h : Heading) (block other : ℕ) (e : Option Entry) (d : Option Declared) → NameIsFound ps e d → block ≡ other →
    is_announced e block h.name.spot ≡ is_announced_by other h d
announced_told ps h block other None None f b = refl
announced_told ps h block other (Some e) (Some d) f b =
    ap (λ z. (z == block) && same_spot e.spot h.name.spot) f.block ∙ ap (λ z. (d.block == z) && same_spot e.spot h.name.spot) b
    ∙ ap (λ z. (d.block == other) && same_spot z h.name.spot) f.spot
announced_told ps h block other None (Some d) f b = absurd f
announced_told ps h block other (Some e) None f b = absurd f

again_told : (x y : Bool) (spot : Spot) → if_so (not x && y) spot ≡ (if x then [] else if_so y spot ++ [])
again_told true y spot = refl
again_told false true spot = refl
again_told false false spot = refl

pub heading_faults : (old new : Resolver) (h : Heading) (s : PStmt) (later : PDecls) → new.around ≡ old.around → new.blocks ≡ old.blocks →
    new.findings.cells ≡ old.findings.cells → new.findings.uses ≡ old.findings.uses → (f1 f2 f3 : Option Fault) (again : Bool) →
    f1 ≡ noted_all old.findings.faults.first (broken codes.UnknownName (unknown_in_heading h)) →
    again ≡ (not (is_announced (looked_up (open_blocks old.around) seens.All h.name.name) old.around.innermost.block h.name.spot) && has_name old.around.innermost.typed old.around.innermost.declared old.around.innermost.parameters h.name.name) →
    f2 ≡ noted_all f1 (broken codes.DeclaredTwice (if_so again h.name.spot)) → f3 ≡ noted_all f2 (broken codes.DeclaredTwice (twice_in_heading h)) →
    new.findings.faults.first ≡ noted_all f3 (broken codes.SegmentTooLong (long_segment (record { spot = h.name.spot; tokens = heading_tokens h + stmt_tokens s }))) →
    Makes old new (faults_of_decl (tree.procedure h s) later) no_cells no_uses nothing_so
heading_faults old new h s later around blocks c u f1 f2 f3 again p e q r t =
    makes_notes old new (faults_of_decl (tree.procedure h s) later) around blocks c u
    (λ bs a spots first g.
    let o : Option Fault = old.findings.faults.first in
    let told : is_announced (looked_up (open_blocks old.around) seens.All h.name.name) old.around.innermost.block h.name.spot ≡ is_announced_by a.block h (look_up a.known h.name.name) =
    announced_told old.around.procedures.items h old.around.innermost.block a.block (looked_up (open_blocks old.around) seens.All h.name.name)
    (look_up a.known h.name.name) (g.stands.sees.names h.name.name) g.stands.sees.block in
    let x : Bool = is_announced_by a.block h (look_up a.known h.name.name) in
    let y : Bool = name_is_one_of (result_names_of (block_numbered bs a.block) ++ names_here a) h.name.name in
    let ts : List Spot = if x then [] else if_so y h.name.spot ++ [] in
    let ls : List Fault = broken codes.SegmentTooLong (long_segment (record { spot = h.name.spot; tokens = heading_tokens h + stmt_tokens s })) in
    let heading : f3 ≡ noted_all o (broken codes.UnknownName (unknown_in_heading h) ++ broken codes.DeclaredTwice (ts ++ twice_in_heading h)) =
    four o o f1 f2 f3 [] (unknown_in_heading h) ts (twice_in_heading h) refl p
    (q
    ∙ ap (λ z. noted_all f1 (broken codes.DeclaredTwice (if_so z h.name.spot)))
    (e ∙ ap (λ z. not z && has_name old.around.innermost.typed old.around.innermost.declared old.around.innermost.parameters h.name.name) told
    ∙ ap (λ z. not x && z) (sym (has_told bs old a spots first h.name.name g)))
    ∙ ap (λ z. noted_all f1 (broken codes.DeclaredTwice z)) (again_told x y h.name.spot))
    r in
    t ∙ ap (λ z. noted_all z ls) heading
    ∙ sym (noted_all_append o (broken codes.UnknownName (unknown_in_heading h) ++ broken codes.DeclaredTwice (ts ++ twice_in_heading h)) ls)
    ∙ ap (λ z. noted_all o z) (append_assoc (broken codes.UnknownName (unknown_in_heading h)) (broken codes.DeclaredTwice (ts ++ twice_in_heading h)) ls)
    ∙ ap (λ z. noted_all o (broken codes.UnknownName (unknown_in_heading h) ++ (broken codes.DeclaredTwice (ts ++ twice_in_heading h) ++ broken codes.SegmentTooLong z)))
    (sym (append-nil (long_segment (record { spot = h.name.spot; tokens = heading_tokens h + stmt_tokens s })))))

-- ---- FORWARD, and a procedure

body_named : (name : List ℕ) (ds : PDecls) (o : Option Heading) → body_of name ds ≡ o → (h : Heading) → h.name.name ≡ name → (heading_or h o).name.name ≡ name
body_named name ds None e h k = k
body_named name ds (Some g) e h k = found ds e
  where
    chosen : (f : Heading) (rest : PDecls) (b : Bool) → same_name f.name.name name ≡ b → (body_of name rest ≡ Some g → g.name.name ≡ name) →
        (if b then Some f else body_of name rest) ≡ Some g → g.name.name ≡ name
    chosen f rest true s behind e = (let same : f ≡ g = cc in ap (λ (z : Heading). z.name.name) (sym same)) ∙ same_name_is f.name.name name s
    chosen f rest false s behind e = behind e

    found : (ds : PDecls) → body_of name ds ≡ Some g → g.name.name ≡ name
    found tree.no_decls e = absurd (let clash : None ≡ Some g = e in cc)
    found (tree.decls (tree.procedure f s) rest) e = chosen f rest (same_name f.name.name name) refl (found rest) e
    found (tree.decls (tree.simple kind ns) rest) e = found rest e
    found (tree.decls (tree.files ns) rest) e = found rest e
    found (tree.decls (tree.events ns) rest) e = found rest e
    found (tree.decls (tree.tasks ns) rest) e = found rest e
    found (tree.decls (tree.labels ns) rest) e = found rest e
    found (tree.decls (tree.arrays kind ns ps) rest) e = found rest e
    found (tree.decls (tree.forward f) rest) e = found rest e

pub forward_made : (old mid new : Resolver) (h : Heading) (later : PDecls) (x : Ahead) → IsAhead old.around.procedures.items (tree.forward h) later x →
    Makes old mid (faults_of_decl (tree.forward h) later) no_cells no_uses nothing_so →
    ((g : Heading) → IsOf mid.around.procedures.items x g → g.name.name ≡ h.name.name →
    Makes mid new no_faults no_cells (known_so (procedure_so g) (h.name ∷ [])) (procedure_so g)) → procedure.Declares old new (tree.forward h) later
forward_made old mid new h later x ahead m make =
    let P : List Procedure → Type 0 = λ z. IsOf z x (announced h later) in
    let same : mid.around.procedures.items ≡ old.around.procedures.items = (let e = m.procedures in cc) in
    declares_forward old mid new h later m
    (make (announced h later) (subst P (sym same) ahead.0) (body_named h.name.name later (body_of h.name.name later) refl h refl))

pub procedure_made : (old one two new : Resolver) (h : Heading) (s : PStmt) (later : PDecls) (x : Ahead) (block : ℕ) → IsOf old.around.procedures.items x h →
    Makes old one (faults_of_decl (tree.procedure h s) later) no_cells no_uses nothing_so →
    ((g : Heading) → IsOf one.around.procedures.items x g → g.name.name ≡ h.name.name →
    Makes one two no_faults no_cells (known_so (procedure_so g) (h.name ∷ [])) (procedure_so g)) → block ≡ two.around.innermost.block →
    new.around ≡ two.around → new.blocks ≡ two.blocks → new.findings.faults ≡ two.findings.faults → new.findings.uses ≡ two.findings.uses →
    new.findings.cells.items ≡ two.findings.cells.items ++ record { block = block; spot = h.name.spot; content = content.Procedure } ∷ [] →
    Makes old new (faults_of_decl (tree.procedure h s) later) (cell_of_procedure h) (known_so (procedure_so h) (h.name ∷ [])) (procedure_so h)
procedure_made old one two new h s later x block of m make b around blocks f u c =
    let P : List Procedure → Type 0 = λ z. IsOf z x h in
    let same : one.around.procedures.items ≡ old.around.procedures.items = (let e = m.procedures in cc) in
    let p = procedure_so h in
    let fs = faults_of_decl (tree.procedure h s) later in
    makes_as old new (λ blocks a. fs blocks a ++ []) fs (cell_of_procedure h) (cell_of_procedure h) (λ blocks a. known_so p (h.name ∷ []) blocks a ++ [])
    (known_so p (h.name ∷ [])) p (λ blocks a. append-nil (fs blocks a)) (λ blocks a. refl) (λ blocks a. append-nil (known_so p (h.name ∷ []) blocks a))
    (makes_then old one new fs no_faults no_cells (cell_of_procedure h) no_uses (λ blocks a. known_so p (h.name ∷ []) blocks a ++ []) nothing_so p m
    (makes_then one two new no_faults no_faults no_cells (cell_of_procedure h) (known_so p (h.name ∷ [])) no_uses p nothing_so (make h (subst P (sym same) of) refl)
    (makes_adds two new no_faults (cell_of_procedure h) no_uses around blocks
    (λ bs a spots first g.
    let Q : ℕ → Type 0 = λ z. FindingsAdd two.findings [] (cells_for z cells.procedure (h.name ∷ [])) [] new.findings in
    subst Q g.stands.sees.block
    (cell_at two.findings new.findings two.around.innermost.block block cells.procedure content.Procedure h.name refl b f u c)))))

pub modes_open : (k m : Around) (procedure : ℕ) (h : Heading) → m.procedures ≡ k.procedures →
    modes_in k.procedures.items (procedure_class procedure) ≡ map mode_of (formals_of h) →
    modes_in m.procedures.items (procedure_class procedure) ≡ map mode_of (formals_of h)
modes_open k m procedure h e modes =
    (let same : m.procedures.items ≡ k.procedures.items = cc in ap (λ z. modes_in z (procedure_class procedure)) same) ∙ modes

of_parameters : (block depth : ℕ) (h : Heading) (ns : List Named) → AreOf block (declared_parameters block depth (record h { params = ns }))
of_parameters block depth h [] = tt
of_parameters block depth h (n ∷ ns) = (refl, of_parameters block depth h ns)

-- the parameters are known in the block that has just begun
admitted : (blocks : List Block) (one two : Resolver) (b : Surroundings) (spots : List Spot) (h : Heading) → IsBare one.around.innermost.declared →
    Admits one.around two.around (parameters_so h) → two.blocks ≡ one.blocks → WalkSettles blocks one b spots b.known →
    WalkSettles blocks two (parameters_so h b) spots (parameters_so h b).known
admitted blocks one two b spots h bare ad same s =
    let count : length two.blocks.items ≡ length one.blocks.items = (let e : two.blocks.items ≡ one.blocks.items = cc in ap (λ z. length z) e) in
    let known : ℕ → Type 0 = λ z. AreBefore z (declared_parameters b.block b.depth h ++ b.known) in
    let block : ℕ → Type 0 = λ z. b.block < z in
    record {
      stands =
          record {
            sees = ad.sees seens.All b bare s.stands.sees s.stands.sees;
            known =
                subst known (sym count)
                (before_append (length one.blocks.items) b.block (declared_parameters b.block b.depth h) b.known (of_parameters b.block b.depth h h.params)
                s.stands.block s.stands.known);
            block = subst block (sym count) s.stands.block;
            outer = s.stands.outer;
          };
      holds = ad.holds b bare s.stands.sees s.holds;
      bounds = ad.sees seens.BeforeDeclarations b bare s.stands.sees s.bounds;
      typed = λ q. ap (λ z. is_typed z q) ad.typed ∙ s.typed q;
    }

pub procedure_starts : (old one two new : Resolver) (h : Heading) (named : Bool) → KnownOpens old.around one.around (length old.blocks.items) →
    (result : Option (Bor (List ℕ))) → one.around.innermost.typed ≡ result → ((q : List ℕ) → is_typed result q ≡ name_is_one_of (result_names h) q) →
    named ≡ not (same_name h.name.name []) →
    one.blocks.items ≡ old.blocks.items ++ record { spot = h.name.spot; level = level_within one.around; is_procedure = named } ∷ [] →
    one.findings ≡ old.findings → Admits one.around two.around (parameters_so h) → two.findings ≡ one.findings → two.blocks ≡ one.blocks →
    ((a : Surroundings) → Sees two.around seens.All a →
    FindingsAdd two.findings [] (result_in two.around.innermost.block h ++ cells_for two.around.innermost.block cells.parameter h.params) (known_in_heading h a) new.findings) →
    new.around ≡ two.around → new.blocks ≡ two.blocks → Starts old new h
procedure_starts old one two new h named o result t typed e begins f ad f2 b2 enter around blocks =
    let procedures : new.around.procedures ≡ old.around.procedures = ap (λ (z : Around). z.procedures) around ∙ ad.procedures ∙ o.procedures in
    let inner : two.around.outer.items ≡ one.around.outer.items = (let x = ad.outer in cc) in
    record {
      outer = ap (λ (z : Around). z.outer.items) around ∙ inner ∙ o.outer;
      procedures = procedures;
      comes =
          λ bs a spots first s g at is.
          let blk : Block = procedure_block h s spots in
          let b : Surroundings = block_begun (number_at bs h.name.spot) a in
          let opened : one.blocks.items ≡ old.blocks.items ++ stated_block_of blk ∷ [] =
          begins
          ∙ ap (λ z. old.blocks.items ++ z ∷ [])
          (begun_as h.name.spot (level_within one.around) named blk refl (level_open old one a spots blk g.stands o.outer refl) e) in
          let settled =
          settles_open bs old one a spots h.name.spot blk (stated_block_of blk) g.stands o opened at is (λ q. ap (λ z. is_typed z q) t ∙ typed q) in
          let inside = admitted bs one two b (h.name.spot ∷ spots) h o.bare ad b2 settled in
          let same : new.blocks.items ≡ two.blocks.items = cc in
          let same2 : two.blocks.items ≡ one.blocks.items = cc in
          let A : Findings → Type 0 =
          λ z. FindingsAdd z [] (result_cells bs h ++ cells_for (number_at bs h.name.spot) cells.parameter h.params) (known_in_heading h (inside_procedure bs h a)) new.findings in
          let B : ℕ → Type 0 =
          λ z. FindingsAdd two.findings [] (result_in z h ++ cells_for z cells.parameter h.params) (known_in_heading h (inside_procedure bs h a)) new.findings in (
            same ∙ same2 ∙ opened,
            (
              subst A (f2 ∙ f) (subst B inside.stands.sees.block (enter (inside_procedure bs h a) inside.stands.sees)),
              settles_kept bs two new (inside_procedure bs h a) (h.name.spot ∷ spots) (inside_procedure bs h a).known []
                  (keeps_same two.around new.around around) (same ∙ sym (append-nil two.blocks.items)) inside,
            ),
          );
    }
