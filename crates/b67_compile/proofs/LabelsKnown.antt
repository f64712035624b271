-- Where a block declares a label, that is what is known at its place, and where an array or an array parameter is declared, an array is known;
-- and no two labels of a block have one name.
use Rattle.std.proofs.Common.{arith, ◌≡◌, ◌⊎◌, inl, inr, ℕ, suc, zero, ◌+◌, Bool, true, false, List, [], ◌∷◌, ◌++◌, map, length, Option, Some, None, refl, sym, ap, ◌∙◌, subst, slice_get, if◌then◌else◌}
use Rattle.std.specs.List.{AllByRecursion}
use Rattle.algol_tree.specs.declared.token.Spot.{Spot}
use Rattle.algol_tree.specs.declared.tree.Heading.{Heading}
use Rattle.algol_tree.specs.declared.tree.Kind.{Kind}
use Rattle.algol_tree.specs.declared.tree.Named.{Named}
use Rattle.algol_tree.specs.declared.tree.Spec.{Spec}
use Rattle.algol_tree.specs.declared.tree.Spec.TheVariants as spec
use Rattle.algol_tree.specs.Blocks.{Block, of_statement, of_procedure, blocks_of, blocks_in_stmts, blocks_in_decls, block_numbered, number_at, decls_of, same_spot}
use Rattle.algol_tree.specs.Classes as class
use Rattle.algol_tree.specs.Couples.{Known, known_there}
use Rattle.algol_tree.specs.Names.{name_is_one_of, repeated, result_names_of, names_here, if_so}
use Rattle.algol_tree.specs.Plain as tree
use Rattle.algol_tree.specs.Plain.{PStmt, PStmts, PDecls}
use Rattle.algol_tree.specs.Sites.{Site, sites, has_decls, here_stmt, inside_stmt, sites_in_stmts, inside_decl, sites_in_decls}
use Rattle.algol_tree.specs.Sorts as sort
use Rattle.algol_tree.specs.Sorts.{Declared, same_name, specified_by, class_by, class_in, sort_in, is_named_in, declare}
use Rattle.algol_tree.specs.Surroundings.{Surroundings, made_known, knowing, knowing_all, inside_procedure}
use Rattle.algol_tree.proofs.Names.{same_name_itself}
use Rattle.algol_tree.proofs.Spots.{not_so, same_spot_is}
use Rattle.algol_paths.specs.Arrays.{Lows, Shape, shape_by, shape_in, stands_among, lows_of, lows_in_shape, or_lows, lows_among, lows_declared}
use Rattle.algol_told.proofs.Held as held
use Rattle.algol_told.proofs.Held.{IsHeld, AllHeld, Passes}
use Rattle.b67_templates.specs.Labels.{labels_in, label_from}
use Rattle.b67_fitting.proofs.Declaring.{IsOther, names_of, names_both, one_of_back, all_other}
use Rattle.b67_list.proofs.Lists.{append_none_left, append_none_right, each_back, each_both, each_front}
use Rattle.b67_compile.proofs.LabelsDeclared.{begun_sites}

-- ---- names that differ

-- each of these names differs from those before it, and from all of those that were seen
abbrev pub Fresh : List Named → List Named → Type 0
Fresh seen [] = Unit {0}
Fresh seen (n ∷ ns) = AllByRecursion (IsOther n.name) seen × Fresh (n ∷ seen) ns

abbrev pub shift : List Named → List Named → List Named
shift [] seen = seen
shift (n ∷ ns) seen = shift ns (n ∷ seen)

fresh_both : (seen ns more : List Named) → Fresh seen ns → Fresh (shift ns seen) more → Fresh seen (ns ++ more)
fresh_both seen [] more f g = g
fresh_both seen (n ∷ ns) more f g = (f.0, fresh_both (n ∷ seen) ns more f.1 g)

shift_all : (P : Named → Type 0) (ns seen : List Named) → AllByRecursion P ns → AllByRecursion P seen → AllByRecursion P (shift ns seen)
shift_all P [] seen f g = g
shift_all P (n ∷ ns) seen f g = shift_all P ns (n ∷ seen) f.1 (f.0, g)

-- one of those that come later differs from what was seen
fresh_at : (seen ns : List Named) (i : ℕ) (n : Named) → Fresh seen ns → slice_get ns i ≡ Some n → AllByRecursion (IsOther n.name) seen
fresh_at seen [] i n f h = absurd (let clash : None ≡ Some n = h in cc)
fresh_at seen (m ∷ ns) zero n f h =
    let same : m ≡ n = cc in
    subst (λ (z : Named). AllByRecursion (IsOther z.name) seen) same f.0
fresh_at seen (m ∷ ns) (suc i) n f h = (fresh_at (m ∷ seen) ns i n f.1 h).1

-- so it is the first of its name
pub first_of : (k : ℕ) (seen ns : List Named) (i : ℕ) (n : Named) → Fresh seen ns → slice_get ns i ≡ Some n → label_from k ns n.name ≡ Some (k + i)
first_of k seen [] i n f h = absurd (let clash : None ≡ Some n = h in cc)
first_of k seen (m ∷ ns) zero n f h =
    let same : m ≡ n = cc in
    let on : same_name m.name n.name ≡ true = ap (λ (z : Named). same_name z.name n.name) same ∙ same_name_itself n.name in
    let here : k ≡ k + 0 = omega arith in
    ap (λ (b : Bool). if b then Some k else label_from (k + 1) ns n.name) on ∙ ap (λ (j : ℕ). Some j) here
first_of k seen (m ∷ ns) (suc i) n f h =
    let off : same_name m.name n.name ≡ false = (fresh_at (m ∷ seen) ns i n f.1 h).0 in
    let on : k + 1 + i ≡ k + suc i = omega arith in
    ap (λ (b : Bool). if b then Some k else label_from (k + 1) ns n.name) off ∙ first_of (k + 1) (m ∷ seen) ns i n f.1 h ∙ ap (λ (j : ℕ). Some j) on

-- what has not the names that were seen differs from these
abbrev Covers : List (List ℕ) → List Named → Type 0
Covers names seen = (name : List ℕ) → name_is_one_of names name ≡ false → AllByRecursion (IsOther name) seen

either_off : (a b : Bool) → (if a then true else b) ≡ false → (a ≡ false) × (b ≡ false)
either_off true b h = absurd (let clash : true ≡ false = h in cc)
either_off false b h = (refl, h)

fresh_from : (names : List (List ℕ)) (seen ns : List Named) → Covers names seen → repeated names ns ≡ [] → Fresh seen ns
fresh_from names seen [] c r = tt
fresh_from names seen (n ∷ ns) c r = (
  c n.name (not_so (name_is_one_of names n.name) n.spot (append_none_left (if_so (name_is_one_of names n.name) n.spot) (repeated (n.name ∷ names) ns) r)),
  fresh_from (n.name ∷ names) (n ∷ seen) ns
      (λ name h.
      let both = either_off (same_name n.name name) (name_is_one_of names name) h in
      (both.0, c name both.1))
      (append_none_right (if_so (name_is_one_of names n.name) n.spot) (repeated (n.name ∷ names) ns) r),
)

-- ---- labels

module _ (blocks : List Block) (all : List Known) where
  -- at its place the label is known as one that the block with this number declares
  abbrev pub IsLabelThere : ℕ → ℕ → Named → Type 0
  IsLabelThere block depth n =
      known_there all n.spot ≡ Some (record { name = n.name; spot = n.spot; block = block; depth = depth; sort = sort.label; class = class.label })

  -- there an array is known, or an array parameter
  pub record IsRow (spot : Spot) : Type 0 where
    pub as_one : Declared
    pub known : known_there all spot ≡ Some as_one
    pub kind : Kind
    pub rank : ℕ
    pub class_is : as_one.class ≡ class.array kind rank

  -- wherever these declarations have lower bounds
  abbrev pub AreRows : PDecls → Type 0
  AreRows ds = (spot : Spot) (l : Lows) → lows_declared ds spot ≡ Some l → IsRow spot

  pub record HasLabels (b : Block) : Type 0 where
    pub rows : AreRows b.decls
    pub there : AllByRecursion (IsLabelThere (number_at blocks b.spot) (length b.outer)) (labels_in b.decls)
    pub fresh : Fresh [] (labels_in b.decls)

  -- so they are where they are declared
  labels_held : (block depth : ℕ) (ns : List Named) (known : List Declared) → AllByRecursion (IsHeld blocks all) (declare block depth sort.label class.label ns ++ known) →
      AllByRecursion (IsLabelThere block depth) ns
  labels_held block depth [] known h = tt
  labels_held block depth (n ∷ ns) known h = (h.0, labels_held block depth ns known h.1)

  arrays_held : (block depth : ℕ) (kind : Kind) (rank : ℕ) (ns : List Named) (known : List Declared) → AllByRecursion (IsHeld blocks all) (declare block depth sort.array (class.array kind rank) ns ++ known) →
      (spot : Spot) → stands_among ns spot ≡ true → IsRow spot
  arrays_held block depth kind rank [] known h spot e = absurd (let clash : false ≡ true = e in cc)
  arrays_held block depth kind rank (n ∷ ns) known h spot e = by (same_spot n.spot spot) refl e (arrays_held block depth kind rank ns known h.1 spot)
    where
      by : (b : Bool) → same_spot n.spot spot ≡ b → (if b then true else stands_among ns spot) ≡ true → (stands_among ns spot ≡ true → IsRow spot) → IsRow spot
      by true same g later = record {
        as_one = record { name = n.name; spot = n.spot; block = block; depth = depth; sort = sort.array; class = class.array kind rank };
        known = ap (known_there all) (sym (same_spot_is n.spot spot same)) ∙ h.0;
        kind = kind;
        rank = rank;
        class_is = refl;
      }
      by false same g later = later g

  -- what is specified as an array is one
  shaped : (specs : List Spec) (name : List ℕ) (shape : Shape) → shape_in specs name ≡ Some shape → class_in specs name ≡ class.array shape.kind (length shape.lows)
  shaped [] name shape h = absurd (let clash : None ≡ Some shape = h in cc)
  shaped (s ∷ specs) name shape h = by (specified_by s name) h (shaped specs name shape)
    where
      one : (z : Spec) → shape_by z ≡ Some shape → class_by z ≡ class.array shape.kind (length shape.lows)
      one (spec.Arrays kind ns lows) g =
          let same : record { kind = kind; lows = lows } ≡ shape = cc in
          ap (λ (x : Shape). class.array x.kind (length x.lows)) same
      one (spec.Simple kind ns) g = absurd (let clash : None ≡ Some shape = g in cc)
      one (spec.Events ns) g = absurd (let clash : None ≡ Some shape = g in cc)

      by : (b : Bool) → (if b then shape_by s else shape_in specs name) ≡ Some shape → (shape_in specs name ≡ Some shape → class_in specs name ≡ class.array shape.kind (length shape.lows)) →
          (if b then class_by s else class_in specs name) ≡ class.array shape.kind (length shape.lows)
      by true g later = one s g
      by false g later = later g

  -- the parameters of a heading, as they are known in its procedure
  abbrev parameters : ℕ → ℕ → Heading → List Named → List Declared
  parameters block depth g ns =
      map
      (λ (n : Named).
      record {
        name = n.name;
        spot = n.spot;
        block = block;
        depth = depth;
        sort = sort_in g.specs (is_named_in g.values n.name) n.name;
        class = class_in g.specs n.name;
      })
      ns

  parameters_held : (block depth : ℕ) (g : Heading) (ns : List Named) (known : List Declared) → AllByRecursion (IsHeld blocks all) (parameters block depth g ns ++ known) → (spot : Spot) (l : Lows) →
      lows_among g.specs ns spot ≡ Some l → IsRow spot
  parameters_held block depth g [] known h spot l e = absurd (let clash : None ≡ Some l = e in cc)
  parameters_held block depth g (n ∷ ns) known h spot l e = by (same_spot n.spot spot) refl e (parameters_held block depth g ns known h.1 spot l)
    where
      of_shape : same_spot n.spot spot ≡ true → (o : Option Shape) → shape_in g.specs n.name ≡ o → lows_in_shape o ≡ Some l → IsRow spot
      of_shape same None q k = absurd (let clash : None ≡ Some l = k in cc)
      of_shape same (Some shape) q k = record {
        as_one = record { name = n.name; spot = n.spot; block = block; depth = depth; sort = sort_in g.specs (is_named_in g.values n.name) n.name; class = class_in g.specs n.name };
        known = ap (known_there all) (sym (same_spot_is n.spot spot same)) ∙ h.0;
        kind = shape.kind;
        rank = length shape.lows;
        class_is = shaped g.specs n.name shape q;
      }

      by : (b : Bool) → same_spot n.spot spot ≡ b → (if b then lows_in_shape (shape_in g.specs n.name) else lows_among g.specs ns spot) ≡ Some l → (lows_among g.specs ns spot ≡ Some l → IsRow spot) → IsRow spot
      by true same k later = of_shape same (shape_in g.specs n.name) refl k
      by false same k later = later k

  or_either : (o q : Option Lows) (l : Lows) → or_lows o q ≡ Some l → (o ≡ Some l) ⊎ (q ≡ Some l)
  or_either None q l h = inr h
  or_either (Some x) q l h = inl h

  -- the names that a block has seen are among those that it knows
  abbrev Seen : Surroundings → List Named → Type 0
  Seen a seen = Covers (names_here a) seen

  seen_more : (a : Surroundings) (new : List Declared) (seen : List Named) → Seen a seen → Seen (record a { known = new ++ a.known }) seen
  seen_more a new seen c name h =
      c name (one_of_back (names_of a.block new) (names_of a.block a.known) name (ap (λ (z : List (List ℕ)). name_is_one_of z name) (sym (names_both a.block new a.known)) ∙ h))

  seen_labels : (a : Surroundings) (ns seen : List Named) → Seen a seen → Seen (record a { known = declare a.block a.depth sort.label class.label ns ++ a.known }) (shift ns seen)
  seen_labels a ns seen c name h =
      let parts = all_other a.block a.depth sort.label class.label ns a.known name h in
      shift_all (IsOther name) ns seen parts.0 (c name parts.1)

  -- a block's labels, from a declaration on; what stands in its procedures; and what is known after it
  pub record FromHere (a : Surroundings) (seen : List Named) (ds : PDecls) (outer : List Spot) : Type 0 where
    pub rows : AreRows ds
    pub there : AllByRecursion (IsLabelThere a.block a.depth) (labels_in ds)
    pub fresh : Fresh seen (labels_in ds)
    pub inner : AllByRecursion HasLabels (blocks_in_decls ds outer)
    pub after : AllHeld blocks all (knowing_all blocks ds a)

  abbrev under : PStmt → Surroundings → List Site
  under s a = here_stmt s false a ∷ inside_stmt blocks s of_statement false a

  -- declarations are not deeper than what is before them
  pub same_depth : (ds : PDecls) (a : Surroundings) → a.depth ≡ (knowing_all blocks ds a).depth
  same_depth tree.no_decls a = refl
  same_depth (tree.decls d ds) a = same_depth ds (knowing blocks d ds a)

  -- what stands in a procedure with these surroundings
  abbrev Begun : PStmt → Surroundings → List Spot → Type 0
  Begun s a outer =
      AllByRecursion (IsLabelThere a.block a.depth) (labels_in (decls_of s)) × Fresh [] (labels_in (decls_of s)) × AllByRecursion HasLabels (blocks_of s of_procedure outer) × AreRows (decls_of s)

  procedure_labels : (heading : Heading) (s : PStmt) (ds : PDecls) (a : Surroundings) (seen : List Named) (outer : List Spot) → length outer ≡ a.depth + 1 →
      AllHeld blocks all (inside_procedure blocks heading (knowing blocks (tree.procedure heading s) ds a)) →
      Begun s (inside_procedure blocks heading (knowing blocks (tree.procedure heading s) ds a)) (heading.name.spot ∷ outer) → FromHere (knowing blocks (tree.procedure heading s) ds a) seen ds outer →
      FromHere a seen (tree.decls (tree.procedure heading s) ds) outer
  procedure_labels heading s ds a seen outer e inside_known inner more =
      let depth : a.depth + 1 ≡ length outer = sym e in
      record {
        rows = λ spot l g. either spot l (or_either (lows_among heading.specs heading.params spot) (lows_declared ds spot) l g) more.rows;
        there = more.there;
        fresh = more.fresh;
        inner = (
          record { rows = inner.3; there = subst (λ (n : ℕ). AllByRecursion (IsLabelThere (number_at blocks heading.name.spot) n) (labels_in (decls_of s))) depth inner.0; fresh = inner.1 },
          each_both HasLabels (blocks_of s of_procedure (heading.name.spot ∷ outer)) (blocks_in_decls ds outer) inner.2 more.inner,
        );
        after = more.after;
      }
    where
      either : (spot : Spot) (l : Lows) → (lows_among heading.specs heading.params spot ≡ Some l) ⊎ (lows_declared ds spot ≡ Some l) → AreRows ds → IsRow spot
      either spot l (inl g) rows =
          let after = knowing blocks (tree.procedure heading s) ds a in
          parameters_held (number_at blocks heading.name.spot) (after.depth + 1) heading heading.params after.known inside_known spot l g
      either spot l (inr g) rows = rows spot l g

  mutual
    pub stmt_labels : (s : PStmt) (listed : Bool) (a : Surroundings) (outer : List Spot) → length outer ≡ a.depth + 1 → AllHeld blocks all a → AllByRecursion (Passes blocks all) (inside_stmt blocks s of_statement listed a) →
        AllByRecursion HasLabels (blocks_of s of_statement outer)
    stmt_labels (tree.label n s) listed a outer e h p = stmt_labels s listed a outer e h p.1
    stmt_labels (tree.block (tree.body spot tree.no_decls ss)) listed a outer e h p = stmts_labels ss false a outer e h p
    stmt_labels (tree.block (tree.body spot (tree.decls d ds) ss)) listed a outer e h p =
        let i : Surroundings = record { block = number_at blocks spot; depth = a.depth + 1; known = a.known } in
        let e' : length (spot ∷ outer) ≡ i.depth + 1 = omega (arith, e) in
        let xs = sites_in_decls blocks (tree.decls d ds) i i.known in
        let ys = sites_in_stmts blocks ss true (knowing_all blocks (tree.decls d ds) i) in
        let f = decls_labels (tree.decls d ds) i i.known [] (spot ∷ outer) e' h (λ name off. tt) (each_front (Passes blocks all) xs ys p) in
        let bs = blocks_in_decls (tree.decls d ds) (spot ∷ outer) in
        let cs = blocks_in_stmts ss (spot ∷ outer) in (
          record { rows = f.rows; there = subst (λ (depth : ℕ). AllByRecursion (IsLabelThere (number_at blocks spot) depth) (labels_in (tree.decls d ds))) (sym e) f.there; fresh = f.fresh },
          each_both HasLabels bs cs f.inner (stmts_labels ss true (knowing_all blocks (tree.decls d ds) i) (spot ∷ outer) (e' ∙ ap (λ (n : ℕ). n + 1) (same_depth (tree.decls d ds) i)) f.after (each_back (Passes blocks all) xs ys p)),
        )
    stmt_labels (tree.if_then c x) listed a outer e h p = stmt_labels x false a outer e h (each_back (Passes blocks all) (sites c a) (under x a) p).1
    stmt_labels (tree.if_else c x y) listed a outer e h p =
        each_both HasLabels (blocks_of x of_statement outer) (blocks_of y of_statement outer)
        (stmt_labels x false a outer e h (each_back (Passes blocks all) (sites c a) (under x a) (each_front (Passes blocks all) (sites c a ++ under x a) (under y a) p)).1)
        (stmt_labels y false a outer e h (each_back (Passes blocks all) (sites c a ++ under x a) (under y a) p).1)
    stmt_labels (tree.while c x) listed a outer e h p = stmt_labels x false a outer e h (each_back (Passes blocks all) (sites c a) (under x a) p).1
    stmt_labels (tree.until x c) listed a outer e h p = stmt_labels x false a outer e h (each_front (Passes blocks all) (under x a) (sites c a) p).1
    stmt_labels (tree.for v b s l x) listed a outer e h p = stmt_labels x false a outer e h (each_back (Passes blocks all) (sites b a ++ sites s a ++ sites l a) (under x a) p).1
    stmt_labels (tree.thru c x) listed a outer e h p = stmt_labels x false a outer e h (each_back (Passes blocks all) (sites c a) (under x a) p).1
    stmt_labels (tree.case c ss) listed a outer e h p = stmts_labels ss false a outer e h (each_back (Passes blocks all) (sites c a) (sites_in_stmts blocks ss false a) p)
    stmt_labels s listed a outer e h p = tt

    pub stmts_labels : (ss : PStmts) (listed : Bool) (a : Surroundings) (outer : List Spot) → length outer ≡ a.depth + 1 → AllHeld blocks all a → AllByRecursion (Passes blocks all) (sites_in_stmts blocks ss listed a) →
        AllByRecursion HasLabels (blocks_in_stmts ss outer)
    stmts_labels tree.no_stmts listed a outer e h p = tt
    stmts_labels (tree.stmts s ss) listed a outer e h p =
        let xs = inside_stmt blocks s of_statement listed a in
        let ys = sites_in_stmts blocks ss listed a in
        each_both HasLabels (blocks_of s of_statement outer) (blocks_in_stmts ss outer) (stmt_labels s listed a outer e h (each_front (Passes blocks all) xs ys p.1))
        (stmts_labels ss listed a outer e h (each_back (Passes blocks all) xs ys p.1))

    pub decls_labels : (ds : PDecls) (a : Surroundings) (first : List Declared) (seen : List Named) (outer : List Spot) → length outer ≡ a.depth + 1 → AllHeld blocks all a → Seen a seen →
        AllByRecursion (Passes blocks all) (sites_in_decls blocks ds a first) → FromHere a seen ds outer
    decls_labels tree.no_decls a first seen outer e h c p = record { rows = λ spot l g. absurd (let clash : None ≡ Some l = g in cc); there = tt; fresh = tt; inner = tt; after = h }
    decls_labels (tree.decls (tree.labels ns) ds) a first seen outer e h c p =
        let after = knowing blocks (tree.labels ns) ds a in
        let known = held.knows blocks all (tree.labels ns) ds a first h p in
        let more = decls_labels ds after first (shift ns seen) outer e known (seen_labels a ns seen c) p.1 in
        let own : repeated (result_names_of (block_numbered blocks a.block) ++ names_here a) ns ≡ [] = p.0.once in
        record {
          rows = more.rows;
          there = each_both (IsLabelThere a.block a.depth) ns (labels_in ds) (labels_held a.block a.depth ns a.known known) more.there;
          fresh = fresh_both seen ns (labels_in ds)
              (fresh_from (result_names_of (block_numbered blocks a.block) ++ names_here a) seen ns
              (λ name off. c name (one_of_back (result_names_of (block_numbered blocks a.block)) (names_here a) name off)) own) more.fresh;
          inner = more.inner;
          after = more.after;
        }
    decls_labels (tree.decls (tree.procedure heading (tree.block (tree.body spot inner ss))) ds) a first seen outer e h c p =
        let s : PStmt = tree.block (tree.body spot inner ss) in
        let d = tree.procedure heading s in
        let after = knowing blocks d ds a in
        let known = held.knows blocks all d ds a first h p in
        let within : Surroundings = inside_procedure blocks heading after in
        let xs = sites_in_decls blocks inner within within.known in
        let ys = sites_in_stmts blocks ss (has_decls inner) (knowing_all blocks inner within) in
        let zs = sites_in_decls blocks ds after first in
        let inside_known = held.enters blocks all heading s ds a known p.0 in
        let e' : length (heading.name.spot ∷ outer) ≡ within.depth + 1 = omega (arith, e) in
        let here = each_front (Passes blocks all) (xs ++ ys) zs p.1.1 in
        let f = decls_labels inner within within.known [] (heading.name.spot ∷ outer) e' inside_known (λ name off. tt) (each_front (Passes blocks all) xs ys here) in
        let g = stmts_labels ss (has_decls inner) (knowing_all blocks inner within) (heading.name.spot ∷ outer) (e' ∙ ap (λ (n : ℕ). n + 1) (same_depth inner within)) f.after
        (each_back (Passes blocks all) xs ys here) in
        let more = decls_labels ds after first seen outer e known (seen_more a (made_known blocks d ds a) seen c) (each_back (Passes blocks all) (xs ++ ys) zs p.1.1) in
        procedure_labels heading s ds a seen outer e inside_known
        (f.there, f.fresh, each_both HasLabels (blocks_in_decls inner (heading.name.spot ∷ outer)) (blocks_in_stmts ss (heading.name.spot ∷ outer)) f.inner g, f.rows) more
    decls_labels (tree.decls (tree.procedure heading s) ds) a first seen outer e h c p =
        let d = tree.procedure heading s in
        let after = knowing blocks d ds a in
        let known = held.knows blocks all d ds a first h p in
        let within : Surroundings = inside_procedure blocks heading after in
        let xs = inside_stmt blocks s of_procedure false within in
        let zs = sites_in_decls blocks ds after first in
        let inside_known = held.enters blocks all heading s ds a known p.0 in
        let e' : length (heading.name.spot ∷ outer) ≡ within.depth + 1 = omega (arith, e) in
        let here = subst (AllByRecursion (Passes blocks all)) (sym (begun_sites blocks s within refl)) (each_front (Passes blocks all) xs zs p.1.1) in
        let g = stmt_labels s false within (heading.name.spot ∷ outer) e' inside_known here in
        let more = decls_labels ds after first seen outer e known (seen_more a (made_known blocks d ds a) seen c) (each_back (Passes blocks all) xs zs p.1.1) in
        procedure_labels heading s ds a seen outer e inside_known (tt, tt, g, λ spot l given. absurd (let clash : None ≡ Some l = given in cc)) more
    decls_labels (tree.decls (tree.arrays kind ns pairs) ds) a first seen outer e h c p =
        let d = tree.arrays kind ns pairs in
        let after = knowing blocks d ds a in
        let known = held.knows blocks all d ds a first h p in
        let xs = inside_decl blocks d after first in
        let more = decls_labels ds after first seen outer e known (seen_more a (made_known blocks d ds a) seen c) (each_back (Passes blocks all) xs (sites_in_decls blocks ds after first) p.1) in
        record {
          rows = λ spot l g. chosen spot l (stands_among ns spot) refl g (arrays_held a.block a.depth kind (length pairs) ns a.known known spot) more.rows;
          there = more.there;
          fresh = more.fresh;
          inner = more.inner;
          after = more.after;
        }
      where
        chosen : (spot : Spot) (l : Lows) (b : Bool) → stands_among ns spot ≡ b → (if b then Some (record { list = lows_of pairs; formal = false }) else lows_declared ds spot) ≡ Some l →
            (stands_among ns spot ≡ true → IsRow spot) → AreRows ds → IsRow spot
        chosen spot l true on g row rows = row on
        chosen spot l false off g row rows = rows spot l g
    decls_labels (tree.decls d ds) a first seen outer e h c p =
        let after = knowing blocks d ds a in
        let known = held.knows blocks all d ds a first h p in
        let xs = inside_decl blocks d after first in
        let more = decls_labels ds after first seen outer e known (seen_more a (made_known blocks d ds a) seen c) (each_back (Passes blocks all) xs (sites_in_decls blocks ds after first) p.1) in
        record { rows = more.rows; there = more.there; fresh = more.fresh; inner = more.inner; after = more.after }
