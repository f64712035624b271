-- An array, an event or a task has the same number by its name among those of its block as by its place among the cells that actions make.
use Rattle.std.proofs.Common.{arith, ◌≡◌, ◌⊎◌, inl, inr, ℕ, ◌+◌, Bool, true, false, List, [], ◌∷◌, ◌++◌, map, length, Option, Some, None, refl, sym, ap, ◌∙◌, subst, append_assoc, if◌then◌else◌}
use Rattle.std.specs.List.{AllByRecursion}
use Rattle.algol_tree.specs.declared.token.Spot.{Spot}
use Rattle.algol_tree.specs.declared.tree.Heading.{Heading}
use Rattle.algol_tree.specs.declared.tree.Kind.{Kind}
use Rattle.algol_tree.specs.declared.tree.Named.{Named}
use Rattle.algol_tree.specs.declared.tree.Spec.{Spec}
use Rattle.algol_tree.specs.Ascending.{spots_of_names, spots_of_pairs, spots_of_stmt, spots_of_decl, spots_of_decls}
use Rattle.algol_tree.specs.Blocks.{same_spot}
use Rattle.algol_tree.specs.Cells as cells
use Rattle.algol_tree.specs.Cells.{Cell, cells_for, index_from}
use Rattle.algol_tree.specs.Classes as class
use Rattle.algol_tree.specs.Classes.{Class}
use Rattle.algol_tree.specs.Names.{name_is_one_of, specified}
use Rattle.algol_tree.specs.Plain as tree
use Rattle.algol_tree.specs.Plain.{PPair, PStmt, PDecl, PDecls}
use Rattle.algol_tree.specs.Sorts as sort
use Rattle.algol_tree.specs.Sorts.{same_name, Sort, Declared, look_up, declare}
use Rattle.algol_tree.proofs.Names.{same_name_is}
use Rattle.algol_tree.proofs.Spots.{same_spot_itself}
use Rattle.algol_tree.proofs.Trees.{among_behind}
use Rattle.algol_paths.specs.Arrays.{Made, an_array, an_event, made_in, Lows, shape_in, lows_of, stands_among, lows_in_shape, or_lows, lows_among, lows_declared}
use Rattle.b67_templates.specs.Cells.{made_name, made_of, made_from}
use Rattle.b67_list.proofs.Lists.{each_back, each_front}
use Rattle.b67_fitting.proofs.Apart.{IsIn, each_in, in_back, in_front, in_either, IsApart, Apart, apart_sym, apart_front, apart_from, apart_across}
use Rattle.b67_fitting.proofs.Frames.{made_cells}
use Rattle.b67_fitting.proofs.Lists.{each_of}

-- the places of the arrays
abbrev pub array_spots : PDecls → List Spot
array_spots tree.no_decls = []
array_spots (tree.decls (tree.arrays kind ns pairs) ds) = spots_of_names ns ++ array_spots ds
array_spots (tree.decls d ds) = array_spots ds

-- .. of the arrays, the events and the tasks
abbrev pub made_spots : PDecls → List Spot
made_spots tree.no_decls = []
made_spots (tree.decls (tree.arrays kind ns pairs) ds) = spots_of_names ns ++ made_spots ds
made_spots (tree.decls (tree.events ns) ds) = spots_of_names ns ++ made_spots ds
made_spots (tree.decls (tree.tasks ns) ds) = spots_of_names ns ++ made_spots ds
made_spots (tree.decls d ds) = made_spots ds

pub array_made : (ds : PDecls) (s : Spot) → IsIn s (array_spots ds) → IsIn s (made_spots ds)
array_made tree.no_decls s i = i
array_made (tree.decls (tree.arrays kind ns pairs) ds) s i = by (in_either s (spots_of_names ns) (array_spots ds) i) (array_made ds s)
  where
    by : IsIn s (spots_of_names ns) ⊎ IsIn s (array_spots ds) → (IsIn s (array_spots ds) → IsIn s (made_spots ds)) → IsIn s (spots_of_names ns ++ made_spots ds)
    by (inl j) later = in_front s (spots_of_names ns) (made_spots ds) j
    by (inr j) later = in_back s (spots_of_names ns) (made_spots ds) (later j)
array_made (tree.decls (tree.events ns) ds) s i = in_back s (spots_of_names ns) (made_spots ds) (array_made ds s i)
array_made (tree.decls (tree.tasks ns) ds) s i = in_back s (spots_of_names ns) (made_spots ds) (array_made ds s i)
array_made (tree.decls d ds) s i = array_made ds s i

-- the lower bounds of those with such bounds
abbrev pub own_lows : List PPair → Option Lows
own_lows pairs = Some (record { list = lows_of pairs; formal = false })

-- ---- numbers

pub record IsMade (xs : List Made) (cs : List Cell) (name : List ℕ) (spot : Spot) (made : Made) : Type 0 where
  pub number : ℕ
  pub found : (i : ℕ) → made_from i xs name ≡ Some (record { number = i + number; made = made })
  pub index : (j : ℕ) → index_from j cs spot ≡ Some (j + number)

-- after one of another name, at another place
made_behind : (x : Made) (c : Cell) (xs : List Made) (cs : List Cell) (name : List ℕ) (spot : Spot) (made : Made) → same_name (made_name x) name ≡ false → IsApart c.spot spot →
    IsMade xs cs name spot made → IsMade (x ∷ xs) (c ∷ cs) name spot made
made_behind x c xs cs name spot made g h r =
    record {
      number = r.number + 1;
      found =
          λ i.
          ap (λ (b : Bool). if b then Some (record { number = i; made = x }) else made_from (i + 1) xs name) g ∙ r.found (i + 1)
          ∙ ap (λ (n : ℕ). Some (record { number = n; made = made })) (let same : i + 1 + r.number ≡ i + (r.number + 1) = omega arith in same);
      index =
          λ j.
          ap (λ (b : Bool). if b then Some j else index_from (j + 1) cs spot) h ∙ r.index (j + 1)
          ∙ ap (λ (n : ℕ). Some n) (let same : j + 1 + r.number ≡ j + (r.number + 1) = omega arith in same);
    }

-- these are passed: their block has their names, and they stand apart from all of these places
abbrev pub MadePassed : List (List ℕ) → List Spot → List Made → List Cell → Type 0
MadePassed names spots [] [] = Unit {0}
MadePassed names spots (x ∷ xs) (c ∷ cs) = (name_is_one_of names (made_name x) ≡ true) × AllByRecursion (IsApart c.spot) spots × MadePassed names spots xs cs
MadePassed names spots _ _ = ⊥

made_over : (names : List (List ℕ)) (spots : List Spot) (xs ys : List Made) (cs ds : List Cell) (name : List ℕ) (spot : Spot) (made : Made) → name_is_one_of names name ≡ false →
    IsIn spot spots → MadePassed names spots xs cs → IsMade ys ds name spot made → IsMade (xs ++ ys) (cs ++ ds) name spot made
made_over names spots [] ys [] ds name spot made n i h r = r
made_over names spots (x ∷ xs) ys (c ∷ cs) ds name spot made n i h r =
    made_behind x c (xs ++ ys) (cs ++ ds) name spot made (by (same_name (made_name x) name) refl) (each_in (IsApart c.spot) spot spots h.1 i) (made_over names spots xs ys cs ds name spot made n i h.2 r)
  where
    by : (b : Bool) → same_name (made_name x) name ≡ b → b ≡ false
    by false e = refl
    by true e =
        let clash : true ≡ false = sym h.0 ∙ ap (name_is_one_of names) (same_name_is (made_name x) name e) ∙ n in
        clash
made_over names spots [] ys (c ∷ cs) ds name spot made n i h r = absurd h
made_over names spots (x ∷ xs) ys [] ds name spot made n i h r = absurd h

passed_both : (names : List (List ℕ)) (spots : List Spot) (xs ys : List Made) (cs ds : List Cell) → MadePassed names spots xs cs → MadePassed names spots ys ds →
    MadePassed names spots (xs ++ ys) (cs ++ ds)
passed_both names spots [] ys [] ds g h = h
passed_both names spots (x ∷ xs) ys (c ∷ cs) ds g h = (g.0, g.1, passed_both names spots xs ys cs ds g.2 h)
passed_both names spots [] ys (c ∷ cs) ds g h = absurd g
passed_both names spots (x ∷ xs) ys [] ds g h = absurd g

passed_more : (more names : List (List ℕ)) (p q : List Spot) (xs : List Made) (cs : List Cell) → MadePassed names (p ++ q) xs cs → MadePassed (more ++ names) q xs cs
passed_more more names p q [] [] h = tt
passed_more more names p q (x ∷ xs) (c ∷ cs) h = (among_behind more names (made_name x) h.0, each_back (IsApart c.spot) p q h.1, passed_more more names p q xs cs h.2)
passed_more more names p q [] (c ∷ cs) h = absurd h
passed_more more names p q (x ∷ xs) [] h = absurd h

-- ---- what a declaration makes known

-- the array, or the event, of a name
abbrev pub array_of : Kind → List PPair → Named → Made
array_of kind pairs n = an_array (record { name = n.name; kind = kind; pairs = pairs })

abbrev pub event_of : Named → Made
event_of n = an_event n.name

pub arrays_are : (kind : Kind) (ns : List Named) (pairs : List PPair) → made_in kind ns pairs ≡ map (array_of kind pairs) ns
arrays_are kind [] pairs = refl
arrays_are kind (n ∷ ns) pairs = ap (λ z. array_of kind pairs n ∷ z) (arrays_are kind ns pairs)

-- `make`: what is made of a name
module _ (make : Named → Made) (named : (n : Named) → made_name (make n) ≡ n.name) where
  passed_new : (names : List (List ℕ)) (spots : List Spot) (block : ℕ) (ns : List Named) → ((n : Named) → IsIn n ns → name_is_one_of names n.name ≡ true) →
      AllByRecursion (λ s. AllByRecursion (IsApart s) spots) (spots_of_names ns) → MadePassed names spots (map make ns) (cells_for block cells.made ns)
  passed_new names spots block [] f g = tt
  passed_new names spots block (n ∷ ns) f g = (ap (name_is_one_of names) (named n) ∙ f n (inl refl), g.0, passed_new names spots block ns (λ m i. f m (inr i)) g.1)

  module _ (block depth : ℕ) (s : Sort) (c : Class) where
    pub record IsHit (ns : List Named) (xs : List Made) (cs : List Cell) (name : List ℕ) (d : Declared) : Type 0 where
      pub class_is : d.class ≡ c
      pub sort_is : d.sort ≡ s
      pub block_is : d.block ≡ block
      pub depth_is : d.depth ≡ depth
      pub inside : IsIn d.spot (spots_of_names ns)
      pub one : Named
      pub name_is : one.name ≡ name
      pub made : IsMade (map make ns ++ xs) (cells_for block cells.made ns ++ cs) name d.spot (make one)

    abbrev entry : Named → Declared
    entry n = record { name = n.name; spot = n.spot; block = block; depth = depth; sort = s; class = c }

    abbrev as_cell : Named → Cell
    as_cell n = record { block = block; spot = n.spot; content = cells.made }

    first_hit : (n : Named) (ns : List Named) (xs : List Made) (cs : List Cell) (name : List ℕ) → same_name n.name name ≡ true → IsHit (n ∷ ns) xs cs name (entry n)
    first_hit n ns xs cs name h =
        record {
          class_is = refl;
          sort_is = refl;
          block_is = refl;
          depth_is = refl;
          inside = inl refl;
          one = n;
          name_is = same_name_is n.name name h;
          made = record {
            number = 0;
            found =
                λ i.
                ap (λ (b : Bool). if b then Some (record { number = i; made = make n }) else made_from (i + 1) (map make ns ++ xs) name) (ap (λ z. same_name z name) (named n) ∙ h)
                ∙ ap (λ (m : ℕ). Some (record { number = m; made = make n })) (let same : i ≡ i + 0 = omega arith in same);
            index =
                λ j.
                ap (λ (b : Bool). if b then Some j else index_from (j + 1) (cells_for block cells.made ns ++ cs) n.spot) (same_spot_itself n.spot)
                ∙ ap (λ (m : ℕ). Some m) (let same : j ≡ j + 0 = omega arith in same);
          };
        }

    later_hit : (n : Named) (ns : List Named) (xs : List Made) (cs : List Cell) (name : List ℕ) (d : Declared) → same_name n.name name ≡ false → IsApart n.spot d.spot →
        IsHit ns xs cs name d → IsHit (n ∷ ns) xs cs name d
    later_hit n ns xs cs name d g h r =
        record {
          class_is = r.class_is;
          sort_is = r.sort_is;
          block_is = r.block_is;
          depth_is = r.depth_is;
          inside = inr r.inside;
          one = r.one;
          name_is = r.name_is;
          made =
              made_behind (make n) (as_cell n) (map make ns ++ xs) (cells_for block cells.made ns ++ cs) name d.spot (make r.one) (ap (λ z. same_name z name) (named n) ∙ g) h r.made;
        }

    pub hit : (ns : List Named) (xs : List Made) (cs : List Cell) (name : List ℕ) (d : Declared) → Apart (spots_of_names ns) → look_up (declare block depth s c ns) name ≡ Some d → IsHit ns xs cs name d
    hit [] xs cs name d p h = absurd (let clash : None ≡ Some d = h in cc)
    hit (n ∷ ns) xs cs name d p h = by (same_name n.name name) refl (hit ns xs cs name d p.1) h
      where
        by : (b : Bool) → same_name n.name name ≡ b → (look_up (declare block depth s c ns) name ≡ Some d → IsHit ns xs cs name d) →
            (if b then Some (entry n) else look_up (declare block depth s c ns) name) ≡ Some d → IsHit (n ∷ ns) xs cs name d
        by true e later g =
            let same : entry n ≡ d = cc in
            subst (λ (z : Declared). IsHit (n ∷ ns) xs cs name z) same (first_hit n ns xs cs name e)
        by false e later g =
            let r = later g in
            later_hit n ns xs cs name d e (each_in (IsApart n.spot) d.spot (spots_of_names ns) p.0 r.inside) r

-- ---- lower bounds by the places of names

pub stands_there : (ns : List Named) (s : Spot) → IsIn s (spots_of_names ns) → stands_among ns s ≡ true
stands_there [] s i = absurd i
stands_there (n ∷ ns) s (inl e) =
    ap (λ (t : Spot). stands_among (n ∷ ns) t) e ∙ ap (λ (b : Bool). if b then true else stands_among ns n.spot) (same_spot_itself n.spot)
stands_there (n ∷ ns) s (inr i) = ap (λ (b : Bool). if same_spot n.spot s then true else b) (stands_there ns s i) ∙ either (same_spot n.spot s)
  where
    either : (b : Bool) → (if b then true else true) ≡ true
    either true = refl
    either false = refl

pub stands_elsewhere : (ns : List Named) (s : Spot) → AllByRecursion (λ z. IsApart z s) (spots_of_names ns) → stands_among ns s ≡ false
stands_elsewhere [] s h = refl
stands_elsewhere (n ∷ ns) s h = ap (λ (b : Bool). if b then true else stands_among ns s) h.0 ∙ stands_elsewhere ns s h.1

-- no parameter of these stands there
lows_elsewhere : (specs : List Spec) (ns : List Named) (s : Spot) → AllByRecursion (λ z. IsApart z s) (spots_of_names ns) → lows_among specs ns s ≡ None
lows_elsewhere specs [] s h = refl
lows_elsewhere specs (n ∷ ns) s h = ap (λ (b : Bool). if b then lows_in_shape (shape_in specs n.name) else lows_among specs ns s) h.0 ∙ lows_elsewhere specs ns s h.1

parameters_elsewhere : (h : Heading) (body : PStmt) (s : Spot) → AllByRecursion (λ z. IsApart z s) (spots_of_decl (tree.procedure h body)) → AllByRecursion (λ z. IsApart z s) (spots_of_names h.params)
parameters_elsewhere h body s far =
    let params = spots_of_names h.params in
    let values = spots_of_names h.values in
    let specs = spots_of_names (specified h) in
    each_front (λ z. IsApart z s) params values
    (each_front (λ z. IsApart z s) (params ++ values) specs (each_front (λ z. IsApart z s) (params ++ values ++ specs) (spots_of_stmt body) far.1))

-- none are declared elsewhere
pub none_lows : (ds : PDecls) (s : Spot) → AllByRecursion (λ z. IsApart z s) (spots_of_decls ds) → lows_declared ds s ≡ None
none_lows tree.no_decls s h = refl
none_lows (tree.decls (tree.arrays kind ns pairs) ds) s h =
    let own = spots_of_names ns ++ spots_of_pairs pairs in
    ap (λ (b : Bool). if b then own_lows pairs else lows_declared ds s)
    (stands_elsewhere ns s (each_front (λ z. IsApart z s) (spots_of_names ns) (spots_of_pairs pairs) (each_front (λ z. IsApart z s) own (spots_of_decls ds) h)))
    ∙ none_lows ds s (each_back (λ z. IsApart z s) own (spots_of_decls ds) h)
none_lows (tree.decls (tree.procedure g body) ds) s h =
    let own = spots_of_decl (tree.procedure g body) in
    ap (λ (o : Option Lows). or_lows o (lows_declared ds s)) (lows_elsewhere g.specs g.params s (parameters_elsewhere g body s (each_front (λ z. IsApart z s) own (spots_of_decls ds) h)))
    ∙ none_lows ds s (each_back (λ z. IsApart z s) own (spots_of_decls ds) h)
none_lows (tree.decls d ds) s h = none_lows ds s (each_back (λ z. IsApart z s) (spots_of_decl d) (spots_of_decls ds) h)

-- a place of the first declaration is apart from those of the others
pub from_first : (xs ys : List Spot) (s : Spot) → Apart (xs ++ ys) → IsIn s xs → AllByRecursion (λ z. IsApart z s) ys
from_first [] ys s p i = absurd i
from_first (x ∷ xs) ys s p (inl e) =
    each_of (IsApart x) (λ z. IsApart z s) ys (λ z a. apart_sym s z (ap (λ (t : Spot). same_spot t z) e ∙ a)) (each_back (IsApart x) xs ys p.0)
from_first (x ∷ xs) ys s p (inr i) = from_first xs ys s p.1 i

-- what these declare, of which those are the last, is found among those
abbrev pub AreLastLows : PDecls → PDecls → Type 0
AreLastLows all ds = (s : Spot) → IsIn s (spots_of_decls ds) → lows_declared all s ≡ lows_declared ds s

pub last_lows : (all : PDecls) (d : PDecl) (ds : PDecls) → Apart (spots_of_decl d ++ spots_of_decls ds) → AreLastLows all (tree.decls d ds) → AreLastLows all ds
last_lows all (tree.arrays kind ns pairs) ds p l =
    λ s i.
    let far = each_front (λ z. IsApart z s) (spots_of_names ns) (spots_of_pairs pairs) (apart_from (spots_of_names ns ++ spots_of_pairs pairs) (spots_of_decls ds) s p i) in
    l s (in_back s (spots_of_names ns ++ spots_of_pairs pairs) (spots_of_decls ds) i)
    ∙ ap (λ (b : Bool). if b then own_lows pairs else lows_declared ds s) (stands_elsewhere ns s far)
last_lows all (tree.procedure h body) ds p l =
    λ s i.
    let own = spots_of_decl (tree.procedure h body) in
    l s (in_back s own (spots_of_decls ds) i)
    ∙ ap (λ (o : Option Lows). or_lows o (lows_declared ds s)) (lows_elsewhere h.specs h.params s (parameters_elsewhere h body s (apart_from own (spots_of_decls ds) s p i)))
last_lows all d ds p l = λ s i. l s (in_back s (spots_of_decl d) (spots_of_decls ds) i)

-- ---- in front of the last declarations of a block

-- the names that a declaration declares as arrays, events or tasks
abbrev pub made_names : PDecl → List Named
made_names (tree.arrays kind ns pairs) = ns
made_names (tree.events ns) = ns
made_names (tree.tasks ns) = ns
made_names d = []

pub record AreMadePassed (block : ℕ) (names : List (List ℕ)) (all ds : PDecls) : Type 0 where
  pub passed : List Made
  pub passed_cells : List Cell
  pub made_are : made_of all ≡ passed ++ made_of ds
  pub cells_are : made_cells block all ≡ passed_cells ++ made_cells block ds
  pub apart : MadePassed names (spots_of_decls ds) passed passed_cells
  pub lows : AreLastLows all ds
  pub held : (s : Spot) → IsIn s (made_spots ds) → IsIn s (made_spots all)

pub made_begin : (block : ℕ) (names : List (List ℕ)) (all : PDecls) → AreMadePassed block names all all
made_begin block names all =
    record { passed = []; passed_cells = []; made_are = refl; cells_are = refl; apart = tt; lows = λ s i. refl; held = λ s i. i }

-- after a declaration that makes something of each of its names
step_over : (make : Named → Made) → ((n : Named) → made_name (make n) ≡ n.name) → (block : ℕ) (more names : List (List ℕ)) (all : PDecls) (d : PDecl) (ns : List Named) (ds : PDecls) →
    made_of (tree.decls d ds) ≡ map make ns ++ made_of ds → made_cells block (tree.decls d ds) ≡ cells_for block cells.made ns ++ made_cells block ds →
    ((P : Spot → Type 0) → AllByRecursion P (spots_of_decl d) → AllByRecursion P (spots_of_names ns)) → ((s : Spot) → IsIn s (made_spots ds) → IsIn s (made_spots (tree.decls d ds))) →
    ((n : Named) → IsIn n ns → name_is_one_of (more ++ names) n.name ≡ true) → Apart (spots_of_decl d ++ spots_of_decls ds) → AreLastLows all ds → AreMadePassed block names all (tree.decls d ds) →
    AreMadePassed block (more ++ names) all ds
step_over make named block more names all d ns ds e g own held f p lows s =
    record {
      passed = s.passed ++ map make ns;
      passed_cells = s.passed_cells ++ cells_for block cells.made ns;
      made_are = s.made_are ∙ ap (λ z. s.passed ++ z) e ∙ sym (append_assoc s.passed (map make ns) (made_of ds));
      cells_are = s.cells_are ∙ ap (λ z. s.passed_cells ++ z) g ∙ sym (append_assoc s.passed_cells (cells_for block cells.made ns) (made_cells block ds));
      apart =
          passed_both (more ++ names) (spots_of_decls ds) s.passed (map make ns) s.passed_cells (cells_for block cells.made ns)
          (passed_more more names (spots_of_decl d) (spots_of_decls ds) s.passed s.passed_cells s.apart)
          (passed_new make named (more ++ names) (spots_of_decls ds) block ns f (own (λ z. AllByRecursion (IsApart z) (spots_of_decls ds)) (apart_across (spots_of_decl d) (spots_of_decls ds) p)));
      lows = lows;
      held = λ t i. s.held t (held t i);
    }

pub made_step : (block : ℕ) (more names : List (List ℕ)) (all : PDecls) (d : PDecl) (ds : PDecls) → ((n : Named) → IsIn n (made_names d) → name_is_one_of (more ++ names) n.name ≡ true) →
    Apart (spots_of_decl d ++ spots_of_decls ds) → AreMadePassed block names all (tree.decls d ds) → AreMadePassed block (more ++ names) all ds
made_step block more names all (tree.arrays kind ns pairs) ds f p s =
    step_over (array_of kind pairs) (λ n. refl) block more names all (tree.arrays kind ns pairs) ns ds (ap (λ z. z ++ made_of ds) (arrays_are kind ns pairs)) refl
    (λ P h. each_front P (spots_of_names ns) (spots_of_pairs pairs) h) (λ t i. in_back t (spots_of_names ns) (made_spots ds) i) f p (last_lows all (tree.arrays kind ns pairs) ds p s.lows) s
made_step block more names all (tree.events ns) ds f p s =
    step_over event_of (λ n. refl) block more names all (tree.events ns) ns ds refl refl (λ P h. h) (λ t i. in_back t (spots_of_names ns) (made_spots ds) i) f p
    (last_lows all (tree.events ns) ds p s.lows) s
made_step block more names all (tree.tasks ns) ds f p s =
    step_over event_of (λ n. refl) block more names all (tree.tasks ns) ns ds refl refl (λ P h. h) (λ t i. in_back t (spots_of_names ns) (made_spots ds) i) f p
    (last_lows all (tree.tasks ns) ds p s.lows) s
made_step block more names all d ds f p s =
    record {
      passed = s.passed;
      passed_cells = s.passed_cells;
      made_are = s.made_are;
      cells_are = s.cells_are;
      apart = passed_more more names (spots_of_decl d) (spots_of_decls ds) s.passed s.passed_cells s.apart;
      lows = last_lows all d ds p s.lows;
      held = s.held;
    }

-- what the first of these declarations makes
pub record IsThere (block depth : ℕ) (make : Named → Made) (s : Sort) (c : Class) (all : PDecls) (name : List ℕ) (d : Declared) : Type 0 where
  pub class_is : d.class ≡ c
  pub sort_is : d.sort ≡ s
  pub block_is : d.block ≡ block
  pub depth_is : d.depth ≡ depth
  pub one : Named
  pub name_is : one.name ≡ name
  pub among : IsIn d.spot (made_spots all)
  pub made : IsMade (made_of all) (made_cells block all) name d.spot (make one)

there_by : (make : Named → Made) → ((n : Named) → made_name (make n) ≡ n.name) → (s : Sort) (c : Class) (block depth : ℕ) (names : List (List ℕ)) (all : PDecls) (first : PDecl) (ns : List Named) (ds : PDecls)
    (name : List ℕ) (d : Declared) → made_of (tree.decls first ds) ≡ map make ns ++ made_of ds → made_cells block (tree.decls first ds) ≡ cells_for block cells.made ns ++ made_cells block ds →
    ((t : Spot) → IsIn t (spots_of_names ns) → IsIn t (spots_of_decls (tree.decls first ds))) → ((t : Spot) → IsIn t (spots_of_names ns) → IsIn t (made_spots (tree.decls first ds))) →
    Apart (spots_of_names ns) → name_is_one_of names name ≡ false → AreMadePassed block names all (tree.decls first ds) → look_up (declare block depth s c ns) name ≡ Some d →
    IsThere block depth make s c all name d
there_by make named s c block depth names all first ns ds name d e g here among p n q h =
    let r = hit make named block depth s c ns (made_of ds) (made_cells block ds) name d p h in
    let all_made : IsMade (q.passed ++ (map make ns ++ made_of ds)) (q.passed_cells ++ (cells_for block cells.made ns ++ made_cells block ds)) name d.spot (make r.one) =
    made_over names (spots_of_decls (tree.decls first ds)) q.passed (map make ns ++ made_of ds) q.passed_cells (cells_for block cells.made ns ++ made_cells block ds) name d.spot (make r.one) n (here d.spot r.inside) q.apart r.made in
    record {
      class_is = r.class_is;
      sort_is = r.sort_is;
      block_is = r.block_is;
      depth_is = r.depth_is;
      one = r.one;
      name_is = r.name_is;
      among = q.held d.spot (among d.spot r.inside);
      made =
          subst (λ (xs : List Made). IsMade xs (made_cells block all) name d.spot (make r.one)) (sym (q.made_are ∙ ap (λ z. q.passed ++ z) e))
          (subst (λ (cs : List Cell). IsMade (q.passed ++ (map make ns ++ made_of ds)) cs name d.spot (make r.one)) (sym (q.cells_are ∙ ap (λ z. q.passed_cells ++ z) g)) all_made);
    }

-- an array of the first of these declarations
pub array_there : (block depth : ℕ) (names : List (List ℕ)) (all : PDecls) (kind : Kind) (ns : List Named) (pairs : List PPair) (ds : PDecls) (name : List ℕ) (d : Declared) →
    Apart ((spots_of_names ns ++ spots_of_pairs pairs) ++ spots_of_decls ds) → name_is_one_of names name ≡ false → AreMadePassed block names all (tree.decls (tree.arrays kind ns pairs) ds) →
    look_up (declare block depth sort.array (class.array kind (length pairs)) ns) name ≡ Some d →
    IsThere block depth (array_of kind pairs) sort.array (class.array kind (length pairs)) all name d × (lows_declared all d.spot ≡ own_lows pairs)
array_there block depth names all kind ns pairs ds name d p n s h =
    let own = spots_of_names ns ++ spots_of_pairs pairs in
    let apart = apart_front (spots_of_names ns) (spots_of_pairs pairs) (apart_front own (spots_of_decls ds) p) in
    let here : (t : Spot) → IsIn t (spots_of_names ns) → IsIn t (own ++ spots_of_decls ds) = λ t i. in_front t own (spots_of_decls ds) (in_front t (spots_of_names ns) (spots_of_pairs pairs) i) in
    let r = hit (array_of kind pairs) (λ n. refl) block depth sort.array (class.array kind (length pairs)) ns (made_of ds) (made_cells block ds) name d apart h in (
      there_by (array_of kind pairs) (λ n. refl) sort.array (class.array kind (length pairs)) block depth names all (tree.arrays kind ns pairs) ns ds name d
          (ap (λ z. z ++ made_of ds) (arrays_are kind ns pairs)) refl here (λ t i. in_front t (spots_of_names ns) (made_spots ds) i) apart n s h,
      s.lows d.spot (here d.spot r.inside) ∙ ap (λ (b : Bool). if b then own_lows pairs else lows_declared ds d.spot) (stands_there ns d.spot r.inside),
    )

-- .. an event, or a task
pub event_there : (block depth : ℕ) (names : List (List ℕ)) (all : PDecls) (ns : List Named) (ds : PDecls) (name : List ℕ) (d : Declared) → Apart (spots_of_names ns ++ spots_of_decls ds) →
    name_is_one_of names name ≡ false → AreMadePassed block names all (tree.decls (tree.events ns) ds) → look_up (declare block depth sort.event class.event ns) name ≡ Some d →
    IsThere block depth event_of sort.event class.event all name d
event_there block depth names all ns ds name d p n s h =
    there_by event_of (λ n. refl) sort.event class.event block depth names all (tree.events ns) ns ds name d refl refl (λ t i. in_front t (spots_of_names ns) (spots_of_decls ds) i)
    (λ t i. in_front t (spots_of_names ns) (made_spots ds) i) (apart_front (spots_of_names ns) (spots_of_decls ds) p) n s h

pub task_there : (block depth : ℕ) (names : List (List ℕ)) (all : PDecls) (ns : List Named) (ds : PDecls) (name : List ℕ) (d : Declared) → Apart (spots_of_names ns ++ spots_of_decls ds) →
    name_is_one_of names name ≡ false → AreMadePassed block names all (tree.decls (tree.tasks ns) ds) → look_up (declare block depth sort.event class.task ns) name ≡ Some d →
    IsThere block depth event_of sort.event class.task all name d
task_there block depth names all ns ds name d p n s h =
    there_by event_of (λ n. refl) sort.event class.task block depth names all (tree.tasks ns) ns ds name d refl refl (λ t i. in_front t (spots_of_names ns) (spots_of_decls ds) i)
    (λ t i. in_front t (spots_of_names ns) (made_spots ds) i) (apart_front (spots_of_names ns) (spots_of_decls ds) p) n s h
