-- Statements and declarations at which no rule is broken, where each parameter is specified.
use Rattle.std.proofs.Common.{◌≡◌, ◌⊎◌, inl, inr, ℕ, ◌+◌, ◌&&◌, not, Bool, true, false, List, [], ◌∷◌, ◌++◌, map, length, is_some, Option, Some, None, refl, sym, ap, subst, if◌then◌else◌}
use Rattle.algol_tree.specs.declared.token.Spot.{Spot}
use Rattle.algol_tree.specs.declared.tree.Heading.{Heading}
use Rattle.algol_tree.specs.declared.tree.Kind.{Kind}
use Rattle.algol_tree.specs.declared.tree.Kind.TheVariants as types
use Rattle.algol_tree.specs.declared.tree.Named.{Named}
use Rattle.algol_tree.specs.Blocks.{Block, Begin, of_statement, of_procedure, number_at}
use Rattle.algol_tree.specs.Checks.{wrong_types, not_assignable}
use Rattle.algol_tree.specs.Classes as class
use Rattle.algol_tree.specs.Classes.{Class, is_simple, is_array, is_file}
use Rattle.algol_tree.specs.Counted.{exprs_count}
use Rattle.algol_tree.specs.Names.{if_so}
use Rattle.algol_tree.specs.Plain as tree
use Rattle.algol_tree.specs.Plain.{PExpr, PExprs, PStmt, PStmts, PDecl, PDecls}
use Rattle.algol_tree.specs.Sites.{sites, has_decls, here_stmt, inside_list, inside_actuals, inside_stmt, inside_decl, sites_in_stmts, sites_in_decls}
use Rattle.algol_tree.specs.Sorts as sort
use Rattle.algol_tree.specs.Sorts.{same_name, Sort, Declared, look_up, declare, is_named_in, sort_in, class_in, declared_parameters}
use Rattle.algol_tree.specs.Surroundings.{Surroundings, class_of, declared_as, formals_of_class, body_of, heading_or, announced, knowing, knowing_all, inside, inside_procedure}
use Rattle.algol_tree.specs.Types.{element_type}
use Rattle.b67_list.proofs.Lists.{append_none_left, append_none_right, each_back, each_front}
use Rattle.b67_fitting.specs.Typing.{HeadingSpecified, IsTasked, is_around, IsLeftSide, TypedStmt, TypedStmts, TypedDecl, TypedDecls}
use Rattle.b67_fitting.proofs.Headings.{DeclSpecified, DeclsSpecified, StmtSpecified, StmtsSpecified}
use Rattle.b67_fitting.specs.Texts.{StmtPlain, StmtsPlain, DeclPlain, DeclsPlain}
use Rattle.b67_fitting.specs.Wholes.{AllWhole, StmtWhole, StmtsWhole, DeclWhole, DeclsWhole}
use Rattle.b67_fitting.proofs.TypedBounds.{typed_pairs}
use Rattle.b67_fitting.proofs.Clean.{IsClean, AreClean, IsPlain, simple, array, file, label, event, task, procedure, KnowsPlain, plain_first, misnamed, label_of, eventful_of, as_many, call_of, task_alone, is_untyped, untyped_of, wrong, wrong_for, wrong_if, wrong_list}
use Rattle.b67_fitting.proofs.Declaring.{found_either, declared_is}
use Rattle.b67_fitting.proofs.Formats.{fitting_line, fitting_phrases}
use Rattle.b67_fitting.proofs.Typed.{HasKind, of_kind, elements, typed, typed_actuals, typed_line}
use Rattle.b67_fitting.proofs.Specified.{IsSpecified, as_value, as_name, as_array, as_event, AreSpecified, specified}

abbrev wrong_control : Class → Named → List Spot
wrong_control (class.simple types.Truth) v = v.spot ∷ []
wrong_control _ v = []

module _ (blocks : List Block) (a : Surroundings) (plain : KnowsPlain a) where
  both_true : (o : Option Kind) (b : Bool) (spot : Spot) → if_so (not (is_some o && b)) spot ≡ [] → (k : Kind) × (o ≡ Some k) × (b ≡ true)
  both_true (Some k) true spot h = (k, refl, refl)
  both_true (Some k) false spot h = absurd (let clash : spot ∷ [] ≡ [] = h in cc)
  both_true None b spot h = absurd (let clash : spot ∷ [] ≡ [] = h in cc)

  -- the left side is a simple variable, or the typed procedure around
  left : (c : Class) (n : Named) (e : PExpr) (listed : Bool) → class_of a n ≡ c → IsPlain c →
      not_assignable blocks (here_stmt (tree.assign (tree.subscripted n tree.none) e) listed a) ≡ [] → (k : Kind) × IsLeftSide blocks a k n
  left c n e listed h (simple kind) g = (kind, inl h)
  left c n e listed h (array kind rank) g = absurd (let clash : n.spot ∷ [] ≡ [] = rw h at g in cc)
  left c n e listed h file g = absurd (let clash : n.spot ∷ [] ≡ [] = rw h at g in cc)
  left c n e listed h label g = absurd (let clash : n.spot ∷ [] ≡ [] = rw h at g in cc)
  left c n e listed h event g = absurd (let clash : n.spot ∷ [] ≡ [] = rw h at g in cc)
  left c n e listed h task g = absurd (let clash : n.spot ∷ [] ≡ [] = rw h at g in cc)
  left c n e listed h (procedure heading p) g =
      let r = both_true heading.kind (is_around blocks heading a) n.spot (rw h at g) in
      (r.0, inr (heading, h, r.1, r.2))

  -- the right side is of its kind
  right : (k : Kind) (n : Named) (e : PExpr) (listed : Bool) → IsLeftSide blocks a k n →
      wrong_types blocks (here_stmt (tree.assign (tree.subscripted n tree.none) e) listed a) ≡ [] → wrong k e a ≡ []
  right k n e listed (inl h) g = rw h at g
  right k n e listed (inr p) g = rw (p.1, p.3, p.2) at g

  assigned : (begin : Begin) (n : Named) (e : PExpr) (listed : Bool) → IsClean blocks (here_stmt (tree.assign (tree.subscripted n tree.none) e) listed a) → HasKind a e →
      TypedStmt blocks begin a (tree.assign (tree.subscripted n tree.none) e)
  assigned begin n e listed c h =
      let l = left (class_of a n) n e listed refl (plain_first a plain n [] c.known) c.assigned in
      (l.0, l.1, of_kind a l.0 e h (right l.0 n e listed l.1 c.typed))

  -- a control variable is a number
  controls : (c : Class) (v : Named) → IsPlain c → misnamed is_simple c v.spot ≡ [] → wrong_control c v ≡ [] → c ≡ class.simple types.Number
  controls c v (simple types.Number) g h = refl
  controls c v (simple types.Truth) g h = absurd (let clash : v.spot ∷ [] ≡ [] = h in cc)
  controls c v (array kind rank) g h = absurd (let clash : v.spot ∷ [] ≡ [] = g in cc)
  controls c v file g h = absurd (let clash : v.spot ∷ [] ≡ [] = g in cc)
  controls c v label g h = absurd (let clash : v.spot ∷ [] ≡ [] = g in cc)
  controls c v event g h = absurd (let clash : v.spot ∷ [] ≡ [] = g in cc)
  controls c v task g h = absurd (let clash : v.spot ∷ [] ≡ [] = g in cc)
  controls c v (procedure heading p) g h = absurd (let clash : v.spot ∷ [] ≡ [] = g in cc)

  looped : (begin : Begin) (v : Named) (x s l : PExpr) (b : PStmt) (listed : Bool) → IsClean blocks (here_stmt (tree.for v x s l b) listed a) → HasKind a x → HasKind a s → HasKind a l → TypedStmt blocks of_statement a b →
      TypedStmt blocks begin a (tree.for v x s l b)
  looped begin v x s l b listed c hx hs hl hb =
      let all = c.typed in
      let three = append_none_left (wrong_control (class_of a v) v ++ wrong types.Number x a ++ wrong types.Number s a) (wrong types.Number l a) all in
      let two = append_none_left (wrong_control (class_of a v) v ++ wrong types.Number x a) (wrong types.Number s a) three in
      let control = append_none_left (wrong_control (class_of a v) v) (wrong types.Number x a) two in (
        controls (class_of a v) v (plain_first a plain v [] c.known) c.assigned control,
        of_kind a types.Number x hx (append_none_right (wrong_control (class_of a v) v) (wrong types.Number x a) two),
        of_kind a types.Number s hs (append_none_right (wrong_control (class_of a v) v ++ wrong types.Number x a) (wrong types.Number s a) three),
        of_kind a types.Number l hl (append_none_right (wrong_control (class_of a v) v ++ wrong types.Number x a ++ wrong types.Number s a) (wrong types.Number l a) all),
        hb,
      )

  -- the task of a process is one, where it has one
  tasked : (n : Named) (es : PExprs) (named : Option Named) (listed : Bool) → IsClean blocks (here_stmt (tree.process (tree.called n es) named) listed a) → IsTasked a named
  tasked n es None listed c = tt
  tasked n es (Some m) listed c =
      task_alone (class_of a m) m.spot (plain_first a plain m _ (append_none_right (if_so (not (is_some (declared_as a n))) n.spot) _ c.known)) (append_none_right (misnamed is_untyped (class_of a n) n.spot) _ c.typed)

  -- of an element the value has the kind of the array
  stored : (begin : Begin) (n : Named) (i : PExpr) (is : PExprs) (e : PExpr) (listed : Bool) → AllWhole (tree.more i is) → AreClean blocks (inside_list (tree.more i is) a) →
      IsClean blocks (here_stmt (tree.assign (tree.subscripted n (tree.more i is)) e) listed a) → HasKind a e → TypedStmt blocks begin a (tree.assign (tree.subscripted n (tree.more i is)) e)
  stored begin n i is e listed w s c h =
      let es = tree.more i is in
      let named = misnamed is_array (class_of a n) n.spot in
      let numbers = wrong_list types.Number es a in
      let value = wrong_for (element_type (class_of a n)) e a in
      let two = append_none_left (named ++ numbers) value c.typed in
      let r = elements blocks a plain n es c.known (append_none_left named numbers two) c.counted in
      (r.0, r.1, typed_line blocks a plain es w s (append_none_right named numbers two), of_kind a r.0 e h (wrong_if r.0 (element_type (class_of a n)) e a (ap element_type r.1) (append_none_right (named ++ numbers) value c.typed)))

-- what is declared is plain
plain_found : (k : Sort) (c : Class) (block depth : ℕ) (ns : List Named) (known : List Declared) → IsPlain c → ((name : List ℕ) (d : Declared) → look_up known name ≡ Some d → IsPlain d.class) →
    (name : List ℕ) (d : Declared) → look_up (declare block depth k c ns ++ known) name ≡ Some d → IsPlain d.class
plain_found k c block depth ns known p f name d h = by (found_either (declare block depth k c ns) known name d h)
  where
    by : (look_up (declare block depth k c ns) name ≡ Some d) ⊎ (look_up known name ≡ Some d) → IsPlain d.class
    by (inl g) = subst IsPlain (sym (declared_is block depth k c ns name d g).0) p
    by (inr g) = f name d g

pub built_body : (name : List ℕ) (h : Heading) (ds : PDecls) → HeadingSpecified h → DeclsSpecified ds → HeadingSpecified (heading_or h (body_of name ds))
built_body name h tree.no_decls p b = p
built_body name h (tree.decls (tree.procedure g s) ds) p b = by (same_name g.name.name name) (built_body name h ds p b.1)
  where
    by : (t : Bool) → HeadingSpecified (heading_or h (body_of name ds)) → HeadingSpecified (heading_or h (if t then Some g else body_of name ds))
    by true later = b.0.0
    by false later = later
built_body name h (tree.decls d ds) p b = built_body name h ds p b.1

-- so are parameters
specified_plain : (h : Heading) (n : Named) → IsSpecified h n → IsPlain (class_in h.specs n.name)
specified_plain h n (as_value k c v s) = subst IsPlain (sym c) (simple k)
specified_plain h n (as_name k c v s) = subst IsPlain (sym c) (simple k)
specified_plain h n (as_array shape c e s) = subst IsPlain (sym c) (array shape.kind (length shape.lows))
specified_plain h n (as_event c e s) = subst IsPlain (sym c) event

plain_parameters : (h : Heading) (block depth : ℕ) (ns : List Named) → AreSpecified h ns → (name : List ℕ) (d : Declared) →
    look_up (map (λ (n : Named). record { name = n.name; spot = n.spot; block = block; depth = depth; sort = sort_in h.specs (is_named_in h.values n.name) n.name; class = class_in h.specs n.name }) ns) name ≡ Some d → IsPlain d.class
plain_parameters h block depth [] v name d g = absurd (let clash : None ≡ Some d = g in cc)
plain_parameters h block depth (n ∷ ns) v name d g = by (same_name n.name name) (plain_parameters h block depth ns v.1 name d) g
  where
    first : Declared
    first = record { name = n.name; spot = n.spot; block = block; depth = depth; sort = sort_in h.specs (is_named_in h.values n.name) n.name; class = class_in h.specs n.name }

    others : List Declared
    others = map (λ (n : Named). record { name = n.name; spot = n.spot; block = block; depth = depth; sort = sort_in h.specs (is_named_in h.values n.name) n.name; class = class_in h.specs n.name }) ns

    by : (t : Bool) → (look_up others name ≡ Some d → IsPlain d.class) → (if t then Some first else look_up others name) ≡ Some d → IsPlain d.class
    by true later f =
        let same : first ≡ d = cc in
        subst (λ (z : Declared). IsPlain z.class) same (specified_plain h n v.0)
    by false later f = later f

module _ (blocks : List Block) where
  plain_knowing : (d : PDecl) (ds : PDecls) (a : Surroundings) → DeclSpecified d → DeclsSpecified ds → KnowsPlain a → KnowsPlain (knowing blocks d ds a)
  plain_knowing (tree.simple kind ns) ds a b c plain =
      record { each = plain_found sort.variable (class.simple kind) a.block a.depth ns a.known (simple kind) plain.each }
  plain_knowing (tree.files ns) ds a b c plain = record { each = plain_found sort.file class.file a.block a.depth ns a.known file plain.each }
  plain_knowing (tree.arrays kind ns pairs) ds a b c plain =
      record { each = plain_found sort.array (class.array kind (length pairs)) a.block a.depth ns a.known (array kind (length pairs)) plain.each }
  plain_knowing (tree.forward h) ds a b c plain =
      let g = announced h ds in
      record {
        each = plain_found (sort.procedure (number_at blocks g.name.spot)) (class.procedure g) a.block a.depth (g.name ∷ []) a.known (procedure g (built_body h.name.name h ds b c)) plain.each;
      }
  plain_knowing (tree.procedure h s) ds a b c plain =
      record {
        each = plain_found (sort.procedure (number_at blocks h.name.spot)) (class.procedure h) a.block a.depth (h.name ∷ []) a.known (procedure h b.0) plain.each;
      }
  plain_knowing (tree.events ns) ds a b c plain = record { each = plain_found sort.event class.event a.block a.depth ns a.known event plain.each }
  plain_knowing (tree.tasks ns) ds a b c plain = record { each = plain_found sort.event class.task a.block a.depth ns a.known task plain.each }
  plain_knowing (tree.labels ns) ds a b c plain = record { each = plain_found sort.label class.label a.block a.depth ns a.known label plain.each }

  plain_all : (ds : PDecls) (a : Surroundings) → DeclsSpecified ds → KnowsPlain a → KnowsPlain (knowing_all blocks ds a)
  plain_all tree.no_decls a b plain = plain
  plain_all (tree.decls d ds) a b plain = plain_all ds (knowing blocks d ds a) b.1 (plain_knowing d ds a b.0 b.1 plain)

  plain_inside : (begin : Begin) (spot : Spot) (ds : PDecls) (ss : PStmts) (a : Surroundings) → KnowsPlain a → KnowsPlain (inside blocks begin (tree.body spot ds ss) a)
  plain_inside of_statement spot tree.no_decls ss a plain = plain
  plain_inside of_statement spot (tree.decls d ds) ss a plain = record { each = plain.each }
  plain_inside of_procedure spot ds ss a plain = plain

  plain_procedure : (h : Heading) (a : Surroundings) → HeadingSpecified h → KnowsPlain a → KnowsPlain (inside_procedure blocks h a)
  plain_procedure h a b plain = record { each = λ name d g. by name d (found_either (declared_parameters (number_at blocks h.name.spot) (a.depth + 1) h) a.known name d g) }
    where
      by : (name : List ℕ) (d : Declared) → (look_up (declared_parameters (number_at blocks h.name.spot) (a.depth + 1) h) name ≡ Some d) ⊎ (look_up a.known name ≡ Some d) → IsPlain d.class
      by name d (inl g) = plain_parameters h (number_at blocks h.name.spot) (a.depth + 1) h.params (specified h b) name d g
      by name d (inr g) = plain.each name d g

  mutual
    stated : (begin : Begin) (a : Surroundings) → KnowsPlain a → (s : PStmt) (listed : Bool) → StmtSpecified s → StmtWhole s → StmtPlain s → IsClean blocks (here_stmt s listed a) →
        AreClean blocks (inside_stmt blocks s begin listed a) → TypedStmt blocks begin a s
    stated begin a plain tree.empty listed b w t c i = tt
    stated begin a plain (tree.label n s) listed b w t c i =
        (label_of (class_of a n) n.spot (plain_first a plain n [] c.known) c.typed, stated of_statement a plain s listed b w t i.0 i.1)
    stated begin a plain (tree.assign (tree.subscripted n tree.none) e) listed b w t c i = assigned blocks a plain begin n e listed c (typed blocks a plain e w.1 i)
    stated begin a plain (tree.assign (tree.subscripted n (tree.more e es)) v) listed b w t c i =
        let those = inside_list (tree.more e es) a in
        stored blocks a plain begin n e es v listed w.0 (each_front (IsClean blocks) those (sites v a) i) c (typed blocks a plain v w.1 (each_back (IsClean blocks) those (sites v a) i))
    stated begin a plain (tree.call_of (tree.called n es)) listed b w t c i =
        let f = call_of (class_of a n) n.spot (plain_first a plain n [] c.known) c.typed in
        let many = as_many (class_of a n) f.0 (exprs_count es) n.spot f.1 c.counted in
        let inside = subst (λ (d : Class). AreClean blocks (inside_actuals es (formals_of_class d) a)) f.1 i in
        (f.0, f.1, f.2, typed_actuals blocks a plain f.0 f.0.params (specified f.0 f.2) es w many inside)
    stated begin a plain (tree.go_to n) listed b w t c i = label_of (class_of a n) n.spot (plain_first a plain n [] c.known) c.typed
    stated begin a plain (tree.block (tree.body spot ds ss)) listed b w t c i =
        let start = inside blocks begin (tree.body spot ds ss) a in
        let within = knowing_all blocks ds start in
        let plain_start = plain_inside begin spot ds ss a plain in
        let decl_sites = sites_in_decls blocks ds start start.known in
        let stmt_sites = sites_in_stmts blocks ss (has_decls ds) within in (
          all_declared start start.known plain_start plain_start ds b.0 w.0 t.0 (each_front (IsClean blocks) decl_sites stmt_sites i),
          all_stated within (plain_all ds start b.0 plain_start) ss (has_decls ds) b.1 w.1 t.1 (each_back (IsClean blocks) decl_sites stmt_sites i),
        )
    stated begin a plain (tree.if_then e x) listed b w t c i =
        let front = each_front (IsClean blocks) (sites e a) (here_stmt x false a ∷ inside_stmt blocks x of_statement false a) i in
        let back = each_back (IsClean blocks) (sites e a) (here_stmt x false a ∷ inside_stmt blocks x of_statement false a) i in
        (of_kind a types.Truth e (typed blocks a plain e w.0 front) c.typed, stated of_statement a plain x false b w.1 t back.0 back.1)
    stated begin a plain (tree.if_else e x y) listed b w t c i =
        let these = here_stmt x false a ∷ inside_stmt blocks x of_statement false a in
        let those = here_stmt y false a ∷ inside_stmt blocks y of_statement false a in
        let front = each_front (IsClean blocks) (sites e a ++ these) those i in
        let back = each_back (IsClean blocks) (sites e a ++ these) those i in
        let first = each_front (IsClean blocks) (sites e a) these front in
        let second = each_back (IsClean blocks) (sites e a) these front in
        (of_kind a types.Truth e (typed blocks a plain e w.0 first) c.typed, stated of_statement a plain x false b.0 w.1 t.0 second.0 second.1, stated of_statement a plain y false b.1 w.2 t.1 back.0 back.1)
    stated begin a plain (tree.while e x) listed b w t c i =
        let front = each_front (IsClean blocks) (sites e a) (here_stmt x false a ∷ inside_stmt blocks x of_statement false a) i in
        let back = each_back (IsClean blocks) (sites e a) (here_stmt x false a ∷ inside_stmt blocks x of_statement false a) i in
        (of_kind a types.Truth e (typed blocks a plain e w.0 front) c.typed, stated of_statement a plain x false b w.1 t back.0 back.1)
    stated begin a plain (tree.until x e) listed b w t c i =
        let front = each_front (IsClean blocks) (here_stmt x false a ∷ inside_stmt blocks x of_statement false a) (sites e a) i in
        let back = each_back (IsClean blocks) (here_stmt x false a ∷ inside_stmt blocks x of_statement false a) (sites e a) i in
        (stated of_statement a plain x false b w.0 t front.0 front.1, of_kind a types.Truth e (typed blocks a plain e w.1 back) c.typed)
    stated begin a plain (tree.for v x s l d) listed b w t c i =
        let these = here_stmt d false a ∷ inside_stmt blocks d of_statement false a in
        let three = each_front (IsClean blocks) (sites x a ++ sites s a ++ sites l a) these i in
        let two = each_front (IsClean blocks) (sites x a ++ sites s a) (sites l a) three in
        let back = each_back (IsClean blocks) (sites x a ++ sites s a ++ sites l a) these i in
        looped blocks a plain begin v x s l d listed c
        (typed blocks a plain x w.0 (each_front (IsClean blocks) (sites x a) (sites s a) two))
        (typed blocks a plain s w.1 (each_back (IsClean blocks) (sites x a) (sites s a) two))
        (typed blocks a plain l w.2 (each_back (IsClean blocks) (sites x a ++ sites s a) (sites l a) three))
        (stated of_statement a plain d false b w.3 t back.0 back.1)
    stated begin a plain (tree.thru e x) listed b w t c i =
        let front = each_front (IsClean blocks) (sites e a) (here_stmt x false a ∷ inside_stmt blocks x of_statement false a) i in
        let back = each_back (IsClean blocks) (sites e a) (here_stmt x false a ∷ inside_stmt blocks x of_statement false a) i in
        (of_kind a types.Number e (typed blocks a plain e w.0 front) c.typed, stated of_statement a plain x false b w.1 t back.0 back.1)
    stated begin a plain (tree.case e ss) listed b w t c i =
        (of_kind a types.Number e (typed blocks a plain e w.0 (each_front (IsClean blocks) (sites e a) (sites_in_stmts blocks ss false a) i)) c.typed, all_stated a plain ss false b w.1 t (each_back (IsClean blocks) (sites e a) (sites_in_stmts blocks ss false a) i))
    stated begin a plain (tree.process (tree.called n es) named) listed b w t c i =
        let f = untyped_of (class_of a n) n.spot (plain_first a plain n _ c.known) (append_none_left (misnamed is_untyped (class_of a n) n.spot) _ c.typed) in
        let many = as_many (class_of a n) f.heading (exprs_count es) n.spot f.class_is c.counted in
        let inside = subst (λ (d : Class). AreClean blocks (inside_actuals es (formals_of_class d) a)) f.class_is i in (
          f.heading,
          f.class_is,
          f.built,
          typed_actuals blocks a plain f.heading f.heading.params (specified f.heading f.built) es w many inside,
          f.kind_is,
          tasked blocks a plain n es named listed c,
        )
    stated begin a plain (tree.event act e) listed b w t c i =
        eventful_of e.task (class_of a e.name) e.name.spot (plain_first a plain e.name [] c.known) c.typed
    stated begin a plain (tree.write n spot phrases es) listed b w t c i =
        (fitting_phrases phrases es spot t c.lined c.narrow, fitting_line phrases es spot c.lined, typed_line blocks a plain es w i (append_none_right (misnamed is_file (class_of a n) n.spot) (wrong_list types.Number es a) c.typed))

    pub all_stated : (a : Surroundings) → KnowsPlain a → (ss : PStmts) (listed : Bool) → StmtsSpecified ss → StmtsWhole ss → StmtsPlain ss → AreClean blocks (sites_in_stmts blocks ss listed a) → TypedStmts blocks a ss
    all_stated a plain tree.no_stmts listed b w t i = tt
    all_stated a plain (tree.stmts s ss) listed b w t i =
        let inside = inside_stmt blocks s of_statement listed a in
        let others = sites_in_stmts blocks ss listed a in
        (stated of_statement a plain s listed b.0 w.0 t.0 i.0 (each_front (IsClean blocks) inside others i.1), all_stated a plain ss listed b.1 w.1 t.1 (each_back (IsClean blocks) inside others i.1))

    pub all_declared : (a : Surroundings) (first : List Declared) → KnowsPlain a → KnowsPlain (record a { known = first }) → (ds : PDecls) → DeclsSpecified ds → DeclsWhole ds → DeclsPlain ds →
        AreClean blocks (sites_in_decls blocks ds a first) → TypedDecls blocks a first ds
    all_declared a first plain at_begin tree.no_decls b w t i = tt
    all_declared a first plain at_begin (tree.decls d ds) b w t i =
        let behind = knowing blocks d ds a in
        let plain_behind = plain_knowing d ds a b.0 b.1 plain in
        let within = inside_decl blocks d behind first in
        let others = sites_in_decls blocks ds behind first in (
          record { known = i.0.known; once = i.0.once },
          declared behind first plain_behind at_begin d b.0 w.0 t.0 (each_front (IsClean blocks) within others i.1),
          all_declared behind first plain_behind at_begin ds b.1 w.1 t.1 (each_back (IsClean blocks) within others i.1),
        )

    declared : (a : Surroundings) (first : List Declared) → KnowsPlain a → KnowsPlain (record a { known = first }) → (d : PDecl) → DeclSpecified d → DeclWhole d → DeclPlain d →
        AreClean blocks (inside_decl blocks d a first) → TypedDecl blocks a first d
    declared a first plain at_begin (tree.simple kind ns) b w t i = tt
    declared a first plain at_begin (tree.files ns) b w t i = tt
    declared a first plain at_begin (tree.arrays kind ns pairs) b w t i = (w.0.0, typed_pairs blocks (record a { known = first }) at_begin pairs w.0.1 i, w.1)
    declared a first plain at_begin (tree.forward h) b w t i = b
    declared a first plain at_begin (tree.procedure h s) b w t i = (b.0, stated of_procedure (inside_procedure blocks h a) (plain_procedure h a b.0 plain) s false b.1 w.1 t i.0 i.1, w.0)
    declared a first plain at_begin _ b w t i = tt
