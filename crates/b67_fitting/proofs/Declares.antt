-- The parts of typed statements and declarations are listed.
use Rattle.algol_tree.specs.declared.tree.EventName.{EventName}
use Rattle.std.proofs.Common.{◌≡◌, ◌⊎◌, inl, inr, ℕ, ◌-◌, ℤ, Bool, true, false, List, [], ◌∷◌, ◌++◌, map, is_some, if◌then◌else◌, None, Some, Option, refl, sym, ap, ◌∙◌, subst, append-nil}
use Rattle.std.proofs.lemmas.List.{map-append}
use Rattle.std.specs.List.{flat_map, AllByRecursion}
use Rattle.algol_tree.specs.declared.token.Spot.{Spot}
use Rattle.algol_tree.specs.declared.tree.Heading.{Heading}
use Rattle.algol_tree.specs.declared.tree.Kind.{Kind}
use Rattle.algol_tree.specs.declared.tree.Kind.TheVariants as types
use Rattle.algol_tree.specs.declared.tree.Named.{Named}
use Rattle.algol_tree.specs.Ascending.{spots_of_names, spots_of_expr, spots_of_exprs, spots_of_heading, spots_of_pairs, spots_of_stmt, spots_of_decl, spots_of_decls}
use Rattle.algol_tree.specs.Blocks.{Block, procedure_block, block_numbered, number_at, blocks_in_decl, blocks_in_decls}
use Rattle.algol_tree.specs.Cells as cells
use Rattle.algol_tree.specs.Cells.{Cell, Content, cells_for, cells_at, has_cell}
use Rattle.algol_tree.specs.Classes as class
use Rattle.algol_tree.specs.Classes.{Class, Formal}
use Rattle.algol_tree.specs.Counted.{exprs_count}
use Rattle.algol_tree.specs.Couples.{Known, known_by, known_names}
use Rattle.algol_tree.specs.Names.{specified}
use Rattle.algol_tree.specs.Plain as tree
use Rattle.algol_tree.specs.Plain.{PExpr, PExprs, PPair, PStmt, PStmts, PDecls}
use Rattle.algol_tree.specs.Scopes.{Use, use_by, left_use, left_uses, used, names_in_stmt, stmt_uses}
use Rattle.algol_tree.specs.Sites as parts
use Rattle.algol_tree.specs.Sites.{Part, Site, here, sites, is_of_value, actual_part, inside_expr, inside_actuals, here_stmt, inside_list, sites_in_pairs}
use Rattle.algol_tree.specs.Sorts as sort
use Rattle.algol_tree.specs.Sorts.{Sort, Declared, formals_of}
use Rattle.algol_tree.specs.Surroundings.{Surroundings, class_of, class_of_declared, formals_of_class, formals_at, declared_as, knowing, knowing_all, inside_procedure}
use Rattle.algol_tree.specs.Types.{taken_by}
use Rattle.algol_paths.specs.Arrays.{Lows, or_lows, lows_among, lows_declared}
use Rattle.b67_list.proofs.Lists.{append_none_right}
use Rattle.b67_fitting.specs.Typing.{IsArrayActual, IsEventActual, TypedPairs, TypedDecls, HasElements, TypedExpr, TypedActual, TypedActuals, TypedLine}
use Rattle.b67_fitting.proofs.ActualCells.{actual_cell, cell_given, cells_in, cells_among as cells_in_list, cells_given, cells_in_pairs}
use Rattle.b67_fitting.proofs.ActualPlaces.{others_of, begins, no_part, both_places, places_inside}
use Rattle.b67_fitting.proofs.Actuals.{name_alone, event_name}
use Rattle.b67_fitting.proofs.Among.{Among, nothing, skip, keep, none_among, join}
use Rattle.b67_fitting.proofs.Apart.{IsIn, in_each, in_map, in_front, in_back, Apart, apart_back}
use Rattle.b67_fitting.proofs.Arrayed.{none_lows, from_first, AreLastLows, last_lows}
use Rattle.b67_fitting.proofs.Frames.{each_own_for, control_cell, named_of, result_cell}
use Rattle.b67_fitting.proofs.Given.{AreLastNamed, last_named, found_named, named_is}
use Rattle.b67_fitting.proofs.Parameters.{AreLast, last_step, found_last, around_is}
use Rattle.b67_fitting.proofs.Known.{Stands}
use Rattle.b67_fitting.proofs.Listed.{AllThere, own_places, reads_in, lefts_in, IsFair, IsGiving, IsDeclaring, IsProcedure, Listed, over, passed, site, given, both}
use Rattle.b67_fitting.proofs.Made.{places_in, all_places}
use Rattle.b67_fitting.proofs.Meant.{IsArrayAs, of_block, of_parameter, arrayed_of}
use Rattle.b67_fitting.proofs.Passing.{leading}
use Rattle.b67_fitting.proofs.Started.{IsCalleeOf, HasCallees, IsStarted, step}
use Rattle.b67_fitting.proofs.Typed.{actual_part_is}

-- the block of a BEGIN with these declarations and statements
abbrev pub begun : Spot → List Spot → PDecls → PStmts → Block
begun spot outer ds ss = record { spot = spot; outer = outer; name = []; parameters = []; result = None; decls = ds; stmts = ss }

-- ---- at one place

-- the places of events are those of their names
event_places : (es : List EventName) → spots_of_names (map (λ (e : EventName). e.name) es) ++ [] ≡ map (λ (e : EventName). e.name.spot) es
event_places [] = refl
event_places (e ∷ es) = ap (λ zs. e.name.spot ∷ zs) (event_places es)

module _ (blocks : List Block) (k : ℕ) (b : Block) (a : Surroundings) (stands : Stands blocks b a) (here_is : a.block ≡ k) where
  fair_expr : (e : PExpr) → IsFair blocks (here e a)
  fair_expr e = record { uses = refl; knows = refl; cells = refl; reads = refl; lefts = refl; in_block = b; stands = stands }

  pub listed_call : (n : Named) (es : PExprs) (h : Heading) → class_of a n ≡ class.procedure h →
      Listed blocks k (spots_of_exprs es) (cells_given a es (formals_of h)) [] (inside_actuals es (formals_of h) a) →
      Listed blocks k (spots_of_exprs es) (cells_given a es (formals_at a n)) [] (inside_actuals es (formals_at a n) a)
  listed_call n es h e l =
      subst (λ (c : Class). Listed blocks k (spots_of_exprs es) (cells_given a es (formals_of_class c)) [] (inside_actuals es (formals_of_class c) a)) (sym e) l

  abbrev cells_if : Bool → PExpr → List Cell
  cells_if t e = if t then actual_cell a.block e ∷ [] else []

  -- an actual that has no cell
  fair_actual : (e : PExpr) (f : Formal) → has_cell e (Some f) a ≡ false → IsFair blocks (record { part = parts.actual e (Some f); around = a })
  fair_actual e f none = record { uses = refl; knows = refl; cells = ap (λ (t : Bool). cells_if t e) none; reads = refl; lefts = refl; in_block = b; stands = stands }

  -- one that has
  giving_actual : (e : PExpr) (f : Formal) → has_cell e (Some f) a ≡ true → IsGiving blocks k (record { part = parts.actual e (Some f); around = a }) (actual_cell a.block e)
  giving_actual e f some = record { uses = refl; knows = refl; cells = ap (λ (t : Bool). cells_if t e) some; owns = here_is; content_is = refl; reads = refl; lefts = refl }

  -- an array has none
  none_for_array : (e : PExpr) (f : Formal) (m : Kind) (rank : ℕ) → f.class ≡ class.array m rank → has_cell e (Some f) a ≡ false
  none_for_array e f m rank c = ap (λ (z : Class). has_cell e (Some (record { class = z; by_value = f.by_value })) a) c

  fair_name : (n : Named) → IsFair blocks (record { part = parts.name n; around = a })
  fair_name n = record { uses = refl; knows = refl; cells = refl; reads = refl; lefts = refl; in_block = b; stands = stands }

  listed_array : (f : Formal) (e : PExpr) → IsArrayActual a f e → {spots : List Spot} {own : List Cell} {xs : List Site} → Listed blocks k spots own [] xs →
      Listed blocks k (spots_of_expr e ++ spots) (cell_given a e (Some f) ++ cells_in a e ++ own) []
      (record { part = parts.actual e (Some f); around = a } ∷ record { part = actual_part e (Some f); around = a } ∷ (inside_expr e a ++ xs))
  listed_array f (tree.variable (tree.subscripted n tree.none)) t {spots} {own} {xs} l =
      let e = tree.variable (tree.subscripted n tree.none) in
      let none = none_for_array e f t.0 t.1 t.2 in
      subst (λ (z : Bool). Listed blocks k (n.spot ∷ spots) (cells_if z e ++ [] ++ own) [] (record { part = parts.actual e (Some f); around = a } ∷ record { part = actual_part e (Some f); around = a } ∷ xs))
      (sym none)
      (site k (record { part = parts.actual e (Some f); around = a }) (fair_actual e f none)
      (subst (λ (p : Part). Listed blocks k (n.spot ∷ spots) own [] (record { part = p; around = a } ∷ xs)) (sym (name_alone n f t.0 t.1 t.2))
      (site k (record { part = parts.name n; around = a }) (fair_name n) l)))
  listed_array f e t l = absurd t

  -- an event has none either
  none_for_event : (e : PExpr) (f : Formal) → f.class ≡ class.event → has_cell e (Some f) a ≡ false
  none_for_event e f c = ap (λ (z : Class). has_cell e (Some (record { class = z; by_value = f.by_value })) a) c

  listed_event : (f : Formal) (e : PExpr) → IsEventActual a f e → {spots : List Spot} {own : List Cell} {xs : List Site} → Listed blocks k spots own [] xs →
      Listed blocks k (spots_of_expr e ++ spots) (cell_given a e (Some f) ++ cells_in a e ++ own) []
      (record { part = parts.actual e (Some f); around = a } ∷ record { part = actual_part e (Some f); around = a } ∷ (inside_expr e a ++ xs))
  listed_event f (tree.variable (tree.subscripted n tree.none)) t {spots} {own} {xs} l =
      let e = tree.variable (tree.subscripted n tree.none) in
      let none = none_for_event e f t.0 in
      subst (λ (z : Bool). Listed blocks k (n.spot ∷ spots) (cells_if z e ++ [] ++ own) [] (record { part = parts.actual e (Some f); around = a } ∷ record { part = actual_part e (Some f); around = a } ∷ xs))
      (sym none)
      (site k (record { part = parts.actual e (Some f); around = a }) (fair_actual e f none)
      (subst (λ (p : Part). Listed blocks k (n.spot ∷ spots) own [] (record { part = p; around = a } ∷ xs)) (sym (event_name n f t.0))
      (site k (record { part = parts.name n; around = a }) (fair_name n) l)))
  listed_event f e t l = absurd t

  -- an actual of a simple parameter, with a cell or without
  listed_simple : (f : Formal) (e : PExpr) (spots : List Spot) (own : List Cell) (xs : List Site) →
      Listed blocks k (spots_of_expr e ++ spots) (cells_in a e ++ own) [] (record { part = actual_part e (Some f); around = a } ∷ (inside_expr e a ++ xs)) → Among (places_in blocks xs) spots →
      Listed blocks k (spots_of_expr e ++ spots) (cell_given a e (Some f) ++ cells_in a e ++ own) []
      (record { part = parts.actual e (Some f); around = a } ∷ record { part = actual_part e (Some f); around = a } ∷ (inside_expr e a ++ xs))
  listed_simple f e spots own xs l m = by (has_cell e (Some f) a) refl
    where
      x : Site
      x = record { part = parts.actual e (Some f); around = a }

      p : Site
      p = record { part = actual_part e (Some f); around = a }

      later : Among (places_in blocks (p ∷ (inside_expr e a ++ xs))) (others_of e ++ spots)
      later =
          subst (λ (cs : List Cell). Among (own_places (cs ++ flat_map (cells_at blocks) (inside_expr e a ++ xs))) (others_of e ++ spots)) (sym (no_part blocks e (Some f) a))
          (both_places blocks (inside_expr e a) xs (places_inside blocks a e) m)

      by : (t : Bool) → has_cell e (Some f) a ≡ t → Listed blocks k (spots_of_expr e ++ spots) (cells_if t e ++ cells_in a e ++ own) [] (x ∷ p ∷ (inside_expr e a ++ xs))
      by false none = site k x (fair_actual e f none) l
      by true some =
          subst (λ (z : List Spot). Listed blocks k (z ++ spots) (actual_cell a.block e ∷ (cells_in a e ++ own)) [] (x ∷ p ∷ (inside_expr e a ++ xs))) (sym (begins e))
          (given k x (actual_cell a.block e) (giving_actual e f some) later
          (subst (λ (z : List Spot). Listed blocks k (z ++ spots) (cells_in a e ++ own) [] (p ∷ (inside_expr e a ++ xs))) (begins e) l))

  -- an actual in front of the others, of a simple parameter, an array or an event
  listed_actual : (f : Formal) (e : PExpr) → TypedActual a f e → ((m : Kind) → TypedExpr a m e → Listed blocks k (spots_of_expr e) (cells_in a e) [] (sites e a)) →
      {spots : List Spot} {own : List Cell} {xs : List Site} → Listed blocks k spots own [] xs →
      Listed blocks k (spots_of_expr e ++ spots) (cell_given a e (Some f) ++ cells_in a e ++ own) []
      (record { part = parts.actual e (Some f); around = a } ∷ record { part = actual_part e (Some f); around = a } ∷ (inside_expr e a ++ xs))
  listed_actual f e (inr (inl t)) valued l = listed_array f e t l
  listed_actual f e (inr (inr t)) valued l = listed_event f e t l
  listed_actual f e (inl t) valued {spots} {own} {xs} l =
      let those : Listed blocks k (spots_of_expr e ++ spots) (cells_in a e ++ own) [] (here e a ∷ (inside_expr e a ++ xs)) = both k (valued t.0 t.2) l in
      listed_simple f e spots own xs
      (subst (λ (p : Part). Listed blocks k (spots_of_expr e ++ spots) (cells_in a e ++ own) [] (record { part = p; around = a } ∷ (inside_expr e a ++ xs)))
      (sym (actual_part_is e (Some f) (ap is_of_value t.1))) those)
      (all_places blocks l)

  mutual
    pub listed_expr : (m : Kind) (e : PExpr) → TypedExpr a m e → Listed blocks k (spots_of_expr e) (cells_in a e) [] (sites e a)
    listed_expr m (tree.number z spot) t = site k (here (tree.number z spot) a) (fair_expr (tree.number z spot)) (passed k spot (over k))
    listed_expr m (tree.truth b spot) t = site k (here (tree.truth b spot) a) (fair_expr (tree.truth b spot)) (passed k spot (over k))
    listed_expr m (tree.variable (tree.subscripted n tree.none)) t =
        site k (here (tree.variable (tree.subscripted n tree.none)) a) (fair_expr (tree.variable (tree.subscripted n tree.none))) (over k)
    listed_expr m (tree.variable (tree.subscripted n (tree.more e es))) t =
        site k (here (tree.variable (tree.subscripted n (tree.more e es))) a) (fair_expr (tree.variable (tree.subscripted n (tree.more e es)))) (listed_line (tree.more e es) t.1)
    listed_expr m (tree.call (tree.called n es)) t =
        site k (here (tree.call (tree.called n es)) a) (fair_expr (tree.call (tree.called n es))) (listed_call n es t.0 t.1 (listed_actuals (formals_of t.0) es t.4))
    listed_expr m (tree.tested x es spot) t =
        subst (λ (zs : List Spot). Listed blocks k (spot ∷ zs) [] [] (here (tree.tested x es spot) a ∷ [])) (event_places es)
        (passed k spot (site k (here (tree.tested x es spot) a) (fair_expr (tree.tested x es spot)) (over k)))
    listed_expr m (tree.paren e spot) t = site k (here (tree.paren e spot) a) (fair_expr (tree.paren e spot)) (passed k spot (listed_expr m e t))
    listed_expr m (tree.plus e spot) t = site k (here (tree.plus e spot) a) (fair_expr (tree.plus e spot)) (passed k spot (listed_expr types.Number e t.1))
    listed_expr m (tree.neg e spot) t = site k (here (tree.neg e spot) a) (fair_expr (tree.neg e spot)) (passed k spot (listed_expr types.Number e t.1))
    listed_expr m (tree.not e spot) t = site k (here (tree.not e spot) a) (fair_expr (tree.not e spot)) (passed k spot (listed_expr types.Truth e t.1))
    listed_expr m (tree.two op x y) t =
        site k (here (tree.two op x y) a) (fair_expr (tree.two op x y)) (both k (listed_expr (taken_by op) x t.1) (listed_expr (taken_by op) y t.2))
    listed_expr m (tree.if c x y spot) t =
        site k (here (tree.if c x y spot) a) (fair_expr (tree.if c x y spot)) (passed k spot (both k (both k (listed_expr types.Truth c t.0) (listed_expr m x t.1)) (listed_expr m y t.2)))

    pub listed_actuals : (fs : List Formal) (es : PExprs) → TypedActuals a fs es → Listed blocks k (spots_of_exprs es) (cells_given a es fs) [] (inside_actuals es fs a)
    listed_actuals [] tree.none t = over k
    listed_actuals (f ∷ fs) (tree.more e es) t = listed_actual f e t.0 (λ m h. listed_expr m e h) (listed_actuals fs es t.1)
    listed_actuals [] (tree.more e es) t = absurd t
    listed_actuals (f ∷ fs) tree.none t = absurd t

    pub listed_line : (es : PExprs) → TypedLine a es → Listed blocks k (spots_of_exprs es) (cells_in_list a es) [] (inside_list es a)
    listed_line tree.none t = over k
    listed_line (tree.more e es) t = both k (listed_expr types.Number e t.0) (listed_line es t.1)

  pub listed_pairs : (ps : List PPair) → TypedPairs a ps → Listed blocks k (spots_of_pairs ps) (cells_in_pairs a ps) [] (sites_in_pairs ps a)
  listed_pairs [] t = over k
  listed_pairs (p ∷ ps) t =
      site k (record { part = parts.bound p.high; around = a }) (record { uses = refl; knows = refl; cells = refl; reads = refl; lefts = refl; in_block = b; stands = stands })
      (both k (listed_expr types.Number p.high t.1) (listed_pairs ps t.2))

  pub fair_stmt : (s : PStmt) (listed : Bool) → stmt_uses s a ≡ flat_map (used a) (names_in_stmt s) → reads_in (parts.statement s listed) ≡ names_in_stmt s → lefts_in (parts.statement s listed) ≡ [] →
      IsFair blocks (here_stmt s listed a)
  fair_stmt s listed u r l = record { uses = u; knows = refl; cells = refl; reads = r; lefts = l; in_block = b; stands = stands }

  abbrev IsArraySort : Sort → Type 0
  IsArraySort s = (s ≡ sort.array) ⊎ ((found : List ℤ) × (s ≡ sort.formal_array found))

  left_kept : (u : Use) (s : Sort) → IsArraySort s → left_use u s ≡ u
  left_kept u s (inl e) = ap (left_use u) e
  left_kept u s (inr e) = ap (left_use u) e.1

  -- the name of an array is used on the left as elsewhere
  left_same : (n : Named) (o : Option Declared) → ((d : Declared) → o ≡ Some d → IsArraySort d.sort) → left_uses (use_by a n o) ≡ use_by a n o ++ []
  left_same n None f = refl
  left_same n (Some d) f =
      let u : Use = record { spot = n.spot; block = d.block; up = a.depth - d.depth; sort = d.sort } in
      ap (λ (z : Use). z ∷ []) (left_kept u d.sort (f d refl))

  array_sort : (name : List ℕ) (d : Declared) (m : Kind) (rank : ℕ) → IsArrayAs blocks a.depth name d m rank → IsArraySort d.sort
  array_sort name d m rank (of_block h) = inl h.sort_is
  array_sort name d m rank (of_parameter shape h e f) = inr (shape.lows, h.sort_is)

  pub fair_element : (n : Named) (e : PExpr) (es : PExprs) (v : PExpr) (m : Kind) (listed : Bool) → HasElements a m n (tree.more e es) →
      IsFair blocks (here_stmt (tree.assign (tree.subscripted n (tree.more e es)) v) listed a)
  fair_element n e es v m listed h =
      fair_stmt (tree.assign (tree.subscripted n (tree.more e es)) v) listed
      (left_same n (declared_as a n)
      (λ d is. array_sort n.name d m (exprs_count (tree.more e es)) (arrayed_of blocks a.depth n.name d m (exprs_count (tree.more e es)) (sym (ap class_of_declared is) ∙ h) (stands.around.each n.name d is)))) refl refl

-- ---- declarations

abbrev places : List Known → List Spot
places ks = map (λ (k : Known). k.spot) ks

known_among : (n : Named) (o : Option Declared) → Among (places (known_by n.spot o)) (n.spot ∷ [])
known_among n None = skip n.spot nothing
known_among n (Some d) = keep n.spot nothing

pub names_among : (a : Surroundings) (ns : List Named) → Among (places (known_names a ns)) (spots_of_names ns)
names_among a [] = nothing
names_among a (n ∷ ns) =
    subst (λ (z : List Spot). Among z (n.spot ∷ spots_of_names ns)) (sym (map-append (λ (k : Known). k.spot) (known_by n.spot (declared_as a n)) (known_names a ns)))
    (join (known_among n (declared_as a n)) (names_among a ns))

both_among : (xs ys : List Known) {p q : List Spot} → Among (places xs) p → Among (places ys) q → Among (places (xs ++ ys)) (p ++ q)
both_among xs ys {p} {q} g h = subst (λ (z : List Spot). Among z (p ++ q)) (sym (map-append (λ (k : Known). k.spot) xs ys)) (join g h)

cells_among : (block : ℕ) (x : Content) (ns : List Named) → AllByRecursion (λ (c : Cell). IsIn c.spot (spots_of_names ns)) (cells_for block x ns)
cells_among block x ns = each ns (λ s i. i)
  where
    each : (ms : List Named) → ((s : Spot) → IsIn s (spots_of_names ms) → IsIn s (spots_of_names ns)) → AllByRecursion (λ (c : Cell). IsIn c.spot (spots_of_names ns)) (cells_for block x ms)
    each [] f = tt
    each (m ∷ ms) f = (f m.spot (inl refl), each ms (λ s i. f s (inr i)))

variable_places : (block : ℕ) (ns : List Named) → Among (own_places (cells_for block cells.variable ns)) (spots_of_names ns)
variable_places block [] = nothing
variable_places block (n ∷ ns) = keep n.spot (variable_places block ns)

made_places : (block : ℕ) (ns : List Named) → Among (own_places (cells_for block cells.made ns)) (spots_of_names ns)
made_places block [] = nothing
made_places block (n ∷ ns) = keep n.spot (made_places block ns)

result_is : (o : Option Kind) (n : Named) (block : ℕ) → (if is_some o then cells_for block cells.result (n ∷ []) else []) ≡ result_cell o block n.spot
result_is None n block = refl
result_is (Some kind) n block = refl

module _ (blocks : List Block) where
  pub declares_simple : (a : Surroundings) (kind : Kind) (ns : List Named) (ds : PDecls) →
      IsDeclaring blocks a.block (record { part = parts.declaration (tree.simple kind ns) ds; around = a }) (spots_of_names ns) (cells_for a.block cells.variable ns)
  declares_simple a kind ns ds =
      record {
        uses = refl;
        knows = names_among (knowing blocks (tree.simple kind ns) ds a) ns;
        cells = refl;
        owns = each_own_for a.block cells.variable ns;
        among = cells_among a.block cells.variable ns;
        places = variable_places a.block ns;
        reads = refl;
        lefts = refl;
      }

  pub declares_arrays : (a : Surroundings) (kind : Kind) (ns : List Named) (pairs : List PPair) (ds : PDecls) →
      IsDeclaring blocks a.block (record { part = parts.declaration (tree.arrays kind ns pairs) ds; around = a }) (spots_of_names ns) (cells_for a.block cells.made ns)
  declares_arrays a kind ns pairs ds =
      record {
        uses = refl;
        knows = names_among (knowing blocks (tree.arrays kind ns pairs) ds a) ns;
        cells = refl;
        owns = each_own_for a.block cells.made ns;
        among = cells_among a.block cells.made ns;
        places = made_places a.block ns;
        reads = refl;
        lefts = refl;
      }

  pub declares_events : (a : Surroundings) (ns : List Named) (ds : PDecls) →
      IsDeclaring blocks a.block (record { part = parts.declaration (tree.events ns) ds; around = a }) (spots_of_names ns) (cells_for a.block cells.made ns)
  declares_events a ns ds =
      record {
        uses = refl;
        knows = names_among (knowing blocks (tree.events ns) ds a) ns;
        cells = refl;
        owns = each_own_for a.block cells.made ns;
        among = cells_among a.block cells.made ns;
        places = made_places a.block ns;
        reads = refl;
        lefts = refl;
      }

  pub declares_tasks : (a : Surroundings) (ns : List Named) (ds : PDecls) →
      IsDeclaring blocks a.block (record { part = parts.declaration (tree.tasks ns) ds; around = a }) (spots_of_names ns) (cells_for a.block cells.made ns)
  declares_tasks a ns ds =
      record {
        uses = refl;
        knows = names_among (knowing blocks (tree.tasks ns) ds a) ns;
        cells = refl;
        owns = each_own_for a.block cells.made ns;
        among = cells_among a.block cells.made ns;
        places = made_places a.block ns;
        reads = refl;
        lefts = refl;
      }

  pub declares_labels : (a : Surroundings) (ns : List Named) (ds : PDecls) → IsDeclaring blocks a.block (record { part = parts.declaration (tree.labels ns) ds; around = a }) (spots_of_names ns) []
  declares_labels a ns ds =
      record { uses = refl; knows = names_among (knowing blocks (tree.labels ns) ds a) ns; cells = refl; owns = tt; among = tt; places = none_among (spots_of_names ns); reads = refl; lefts = refl }

  pub declares_files : (a : Surroundings) (ns : List Named) (ds : PDecls) → IsDeclaring blocks a.block (record { part = parts.declaration (tree.files ns) ds; around = a }) (spots_of_names ns) []
  declares_files a ns ds =
      record { uses = refl; knows = names_among (knowing blocks (tree.files ns) ds a) ns; cells = refl; owns = tt; among = tt; places = none_among (spots_of_names ns); reads = refl; lefts = refl }

  pub declares_forward : (a : Surroundings) (h : Heading) (ds : PDecls) → IsDeclaring blocks a.block (record { part = parts.declaration (tree.forward h) ds; around = a }) (spots_of_heading h) []
  declares_forward a h ds =
      record {
        uses = refl;
        knows =
            subst (λ (z : List Spot). Among z (spots_of_heading h)) (append-nil (places (known_names (knowing blocks (tree.forward h) ds a) (h.name ∷ []))))
            (join (names_among (knowing blocks (tree.forward h) ds a) (h.name ∷ [])) (none_among (spots_of_names h.params ++ spots_of_names h.values ++ spots_of_names (specified h))));
        cells = refl;
        owns = tt;
        among = tt;
        places = none_among (spots_of_heading h);
        reads = refl;
        lefts = refl;
      }

  pub declares_procedure : (a : Surroundings) (h : Heading) (s : PStmt) (ds : PDecls) (outer : List Spot) → named_of blocks (procedure_block h s outer) ≡ h.params →
      IsProcedure blocks a.block (record { part = parts.declaration (tree.procedure h s) ds; around = a }) (procedure_block h s outer)
      (spots_of_names h.params ++ spots_of_names h.values ++ spots_of_names (specified h))
  declares_procedure a h s ds outer e =
      let behind = knowing blocks (tree.procedure h s) ds a in
      let within = inside_procedure blocks h behind in
      record {
        uses = refl;
        knows =
            both_among (known_names behind (h.name ∷ [])) (known_names within h.params ++ known_names within h.values ++ known_names within (specified h)) (names_among behind (h.name ∷ []))
            (both_among (known_names within h.params ++ known_names within h.values) (known_names within (specified h))
            (both_among (known_names within h.params) (known_names within h.values) (names_among within h.params) (names_among within h.values)) (names_among within (specified h)));
        cells =
            ap (λ z. control_cell a.block h.name.spot ∷ (z ++ cells_for (number_at blocks h.name.spot) cells.parameter h.params)) (result_is h.kind h.name (number_at blocks h.name.spot))
            ∙ ap (λ (ns : List Named). control_cell a.block h.name.spot ∷ (result_cell h.kind (number_at blocks h.name.spot) h.name.spot ++ cells_for (number_at blocks h.name.spot) cells.parameter ns)) (sym e);
        among =
            subst (λ (ns : List Named). AllByRecursion (λ (n : Named). IsIn n.spot (spots_of_names h.params ++ spots_of_names h.values ++ spots_of_names (specified h))) ns) (sym e)
            (in_each (λ (n : Named). IsIn n.spot (spots_of_names h.params ++ spots_of_names h.values ++ spots_of_names (specified h))) h.params
            (λ n i. in_front n.spot (spots_of_names h.params ++ spots_of_names h.values) (spots_of_names (specified h))
            (in_front n.spot (spots_of_names h.params) (spots_of_names h.values) (in_map (λ (m : Named). m.spot) n h.params i))));
        given =
            subst (λ (ns : List Named). Among (spots_of_names ns) (spots_of_names h.params ++ spots_of_names h.values ++ spots_of_names (specified h))) (sym e)
            (leading (spots_of_names h.params) (spots_of_names h.values) (spots_of_names (specified h)));
        reads = refl;
        lefts = refl;
      }

  -- where a parameter stands
  parameter_among : (h : Heading) (s : PStmt) (p : Spot) → IsIn p (spots_of_names h.params) → IsIn p (spots_of_decl (tree.procedure h s))
  parameter_among h s p i =
      let params = spots_of_names h.params in
      let values = spots_of_names h.values in
      let specs = spots_of_names (specified h) in
      inr (in_front p (params ++ values ++ specs) (spots_of_stmt s) (in_front p (params ++ values) specs (in_front p params values i)))

  or_none : (o : Option Lows) → or_lows o None ≡ o
  or_none None = refl
  or_none (Some found) = refl

  -- its lower bounds are found there
  found_lows : (all : PDecls) (h : Heading) (s : PStmt) (ds : PDecls) → Apart (spots_of_decl (tree.procedure h s) ++ spots_of_decls ds) → AreLastLows all (tree.decls (tree.procedure h s) ds) →
      (p : Spot) → IsIn p (spots_of_names h.params) → lows_declared all p ≡ lows_among h.specs h.params p
  found_lows all h s ds a l p i =
      let own = spots_of_decl (tree.procedure h s) in
      let here = parameter_among h s p i in
      l p (in_front p own (spots_of_decls ds) here) ∙ ap (or_lows (lows_among h.specs h.params p)) (none_lows ds p (from_first own (spots_of_decls ds) p a here)) ∙ or_none (lows_among h.specs h.params p)

  -- the blocks of the procedures
  pub callees : (ds : PDecls) (a : Surroundings) (first : List Declared) (b : Block) → TypedDecls blocks a first ds → AllThere blocks (blocks_in_decls ds (b.spot ∷ b.outer)) → block_numbered blocks (number_at blocks b.spot) ≡ b →
      Apart (spots_of_decls ds) → AreLast b.decls ds → AreLastNamed b.decls ds → AreLastLows b.decls ds → HasCallees blocks b ds
  callees tree.no_decls a first b t f e p l m q h i = absurd i
  callees (tree.decls (tree.procedure g s) ds) a first b t f e p l m q h (inl same) =
      subst (IsCalleeOf blocks b) (sym same)
      (record {
        built = t.1.0;
        once = append_none_right _ _ t.0.once;
        body = s;
        body_there = f (procedure_block g s (b.spot ∷ b.outer)) (inl refl);
        cells_are = around_is blocks b g.name.spot e ∙ found_last b.decls g ds s l;
        named_are = named_is blocks b g.name.spot e ∙ found_named b.decls g ds s m;
        lows_are = found_lows b.decls g s ds p q;
      })
  callees (tree.decls (tree.procedure g s) ds) a first b t f e p l m q h (inr i) =
      callees ds (knowing blocks (tree.procedure g s) ds a) first b t.2
      (λ c j. f c (in_back c (blocks_in_decl (tree.procedure g s) (b.spot ∷ b.outer)) (blocks_in_decls ds (b.spot ∷ b.outer)) j)) e
      (apart_back (spots_of_decl (tree.procedure g s)) (spots_of_decls ds) p) (last_step b.decls (tree.procedure g s) ds p l) (last_named b.decls (tree.procedure g s) ds p m) (last_lows b.decls (tree.procedure g s) ds p q) h i
  callees (tree.decls (tree.simple kind ns) ds) a first b t f e p l m q h i =
      callees ds (knowing blocks (tree.simple kind ns) ds a) first b t.2 f e (apart_back (spots_of_names ns) (spots_of_decls ds) p) (last_step b.decls (tree.simple kind ns) ds p l) (last_named b.decls (tree.simple kind ns) ds p m) (last_lows b.decls (tree.simple kind ns) ds p q) h i
  callees (tree.decls (tree.arrays kind ns pairs) ds) a first b t f e p l m q h i =
      callees ds (knowing blocks (tree.arrays kind ns pairs) ds a) first b t.2 f e (apart_back (spots_of_names ns ++ spots_of_pairs pairs) (spots_of_decls ds) p) (last_step b.decls (tree.arrays kind ns pairs) ds p l)
      (last_named b.decls (tree.arrays kind ns pairs) ds p m) (last_lows b.decls (tree.arrays kind ns pairs) ds p q) h i
  callees (tree.decls (tree.files ns) ds) a first b t f e p l m q h i =
      callees ds (knowing blocks (tree.files ns) ds a) first b t.2 f e (apart_back (spots_of_names ns) (spots_of_decls ds) p) (last_step b.decls (tree.files ns) ds p l) (last_named b.decls (tree.files ns) ds p m) (last_lows b.decls (tree.files ns) ds p q) h i
  callees (tree.decls (tree.events ns) ds) a first b t f e p l m q h i =
      callees ds (knowing blocks (tree.events ns) ds a) first b t.2 f e (apart_back (spots_of_names ns) (spots_of_decls ds) p) (last_step b.decls (tree.events ns) ds p l) (last_named b.decls (tree.events ns) ds p m) (last_lows b.decls (tree.events ns) ds p q) h i
  callees (tree.decls (tree.tasks ns) ds) a first b t f e p l m q h i =
      callees ds (knowing blocks (tree.tasks ns) ds a) first b t.2 f e (apart_back (spots_of_names ns) (spots_of_decls ds) p) (last_step b.decls (tree.tasks ns) ds p l) (last_named b.decls (tree.tasks ns) ds p m) (last_lows b.decls (tree.tasks ns) ds p q) h i
  callees (tree.decls (tree.labels ns) ds) a first b t f e p l m q h i =
      callees ds (knowing blocks (tree.labels ns) ds a) first b t.2 f e (apart_back (spots_of_names ns) (spots_of_decls ds) p) (last_step b.decls (tree.labels ns) ds p l) (last_named b.decls (tree.labels ns) ds p m) (last_lows b.decls (tree.labels ns) ds p q) h i
  callees (tree.decls (tree.forward g) ds) a first b t f e p l m q h i =
      callees ds (knowing blocks (tree.forward g) ds a) first b t.2 f e (apart_back (spots_of_heading g) (spots_of_decls ds) p) (last_step b.decls (tree.forward g) ds p l) (last_named b.decls (tree.forward g) ds p m) (last_lows b.decls (tree.forward g) ds p q) h i

  pub behind_decls : (b : Block) (a : Surroundings) (first : List Declared) (ds : PDecls) → IsStarted blocks b a ds → TypedDecls blocks a first ds → Apart (spots_of_decls ds) →
      Stands blocks b (knowing_all blocks ds a)
  behind_decls b a first tree.no_decls s t p = s.stands
  behind_decls b a first (tree.decls d ds) s t p =
      behind_decls b (knowing blocks d ds a) first ds (step blocks b a first d ds s t p) t.2 (apart_back (spots_of_decl d) (spots_of_decls ds) p)
