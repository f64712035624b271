-- What is around each place of an accepted program, and what its names mean there: the names that are known there are those of the
-- block of the place and of the blocks around it, each so many up as its depth says. On the left of an assignment the name of a procedure
-- is its result, of the procedure's own block, which is one further in.
use Rattle.algol_tree.proofs.Alone.{named_alone}
use Rattle.algol_tree.specs.declared.tree.EventName.{EventName}
use Rattle.std.proofs.Common.{arith, ◌≡◌, ℕ, ℤ, ◌+◌, ◌-◌, ◌<◌, ◌≤◌, ◌&&◌, not, Bool, true, false, List, [], ◌∷◌, ◌++◌, map, length, is_some, Option, Some, None, refl, sym, ap, ◌∙◌, subst, suc, slice_get}
use Rattle.std.specs.List.{flat_map, AllByRecursion}
use Rattle.algol_tree.specs.declared.token.Spot.{Spot}
use Rattle.algol_tree.specs.declared.tree.Heading.{Heading}
use Rattle.algol_tree.specs.declared.tree.Kind.{Kind}
use Rattle.algol_tree.specs.declared.tree.Named.{Named}
use Rattle.algol_tree.specs.Blocks.{Block, number_at, around}
use Rattle.algol_tree.specs.Checks.{wrong_types, not_assignable}
use Rattle.algol_tree.specs.Classes as class
use Rattle.algol_tree.specs.Classes.{Class, Formal}
use Rattle.algol_tree.specs.Names.{if_so, places_if, unknown_names}
use Rattle.algol_tree.specs.Plain as tree
use Rattle.algol_tree.specs.Plain.{name_alone, PExpr, PExprs, PDecl, PDecls}
use Rattle.algol_tree.specs.Scopes.{Scopes, Use, used, use_by, left_use, left_uses, uses_at, declared_in}
use Rattle.algol_tree.specs.Sites.{Site, sites, here, here_stmt, first_formal, other_formals, wants_value, name_part, actual_part, actual_part_by, inside_expr, inside_list, inside_actuals}
use Rattle.algol_tree.specs.Sorts as sort
use Rattle.algol_tree.specs.Sorts.{Sort, Declared, declare, declared_parameters, is_named_in, sort_in, class_in}
use Rattle.algol_tree.specs.Surroundings.{Surroundings, declared_as, class_of_declared, class_of, formals_at, announced, declare_procedure, knowing, knowing_all, inside_procedure}
use Rattle.algol_tree.proofs.Spots.{not_so}
use Rattle.algol_tree.proofs.Trees.{found_known, use_is}
use Rattle.algol_paths.specs.Blocks.{BlockIsSeen}
use Rattle.algol_paths.specs.Texts.{InExpr, InExprs}
use Rattle.b67_list.proofs.Lists.{append_none_left, append_none_right, each_back, each_both, each_front}
use Rattle.b67_fitting.proofs.Headings.{DeclSpecified, DeclsSpecified}
use Rattle.b67_fitting.proofs.Lists.{each_of, second_so}
use Rattle.b67_fitting.proofs.Numbering.{IsThere}
use Rattle.b67_fitting.proofs.Specified.{IsSpecified, as_value, as_name, as_array, as_event, AreSpecified, specified}
use Rattle.b67_fitting.proofs.Callees.{IsCallee, AreCallees, IsChain, is_among, chain_at}

-- ---- what is known

-- `depth`: how many blocks are around the block j
module _ (blocks : List Block) where
  -- what a name that a block declares can be, as a sort and as a class
  pub data Means (block : ℕ) : Sort → Class → Type 0 where
    a_variable : (kind : Kind) → Means block sort.variable (class.simple kind)
    a_name : (kind : Kind) → Means block sort.by_name (class.simple kind)
    a_file : Means block sort.file class.file
    an_array : (kind : Kind) (count : ℕ) → Means block sort.array (class.array kind count)
    a_formal : (lows : List ℤ) (kind : Kind) (count : ℕ) → Means block (sort.formal_array lows) (class.array kind count)
    an_event : Means block sort.event class.event
    a_formal_event : Means block sort.formal_event class.event
    a_task : Means block sort.event class.task
    a_label : Means block sort.label class.label
    a_procedure : (h : Heading) → IsCallee blocks block h → Means block (sort.procedure (number_at blocks h.name.spot)) (class.procedure h)

  -- The declaration stands in the block j or in one around it, so many up.
  pub record IsKnown (j depth : ℕ) (d : Declared) : Type 0 where
    pub some : d.block < length blocks
    pub deep : length (around blocks d.block) ≡ d.depth
    pub shallow : d.depth ≤ depth
    pub found : slice_get (j ∷ around blocks j) (depth - d.depth) ≡ Some d.block
    pub means : Means d.block d.sort d.class

  -- The place stands in the block j. Its BEGIN and those around it, or the names of their procedures, stand at these places, the innermost
  -- first.
  pub record IsAround (j : ℕ) (outer : List Spot) (a : Surroundings) : Type 0 where
    pub block_is : a.block ≡ j
    pub some : j < length blocks
    pub chain_is : map (number_at blocks) outer ≡ j ∷ around blocks j
    pub chain : IsChain blocks (around blocks j)
    pub deep : length (around blocks j) ≡ a.depth
    pub known : AllByRecursion (IsKnown j a.depth) a.known

  -- the parameters of a procedure are variables of its block, or stand for something else
  means_parameter : (k : ℕ) (h : Heading) (n : Named) → IsSpecified h n → Means k (sort_in h.specs (is_named_in h.values n.name) n.name) (class_in h.specs n.name)
  means_parameter k h n (as_value kind c v s) =
      subst (λ (z : Sort). Means k z (class_in h.specs n.name)) (sym s) (subst (λ (z : Class). Means k sort.variable z) (sym c) (a_variable kind))
  means_parameter k h n (as_name kind c v s) =
      subst (λ (z : Sort). Means k z (class_in h.specs n.name)) (sym s) (subst (λ (z : Class). Means k sort.by_name z) (sym c) (a_name kind))
  means_parameter k h n (as_array shape c a s) =
      subst (λ (z : Sort). Means k z (class_in h.specs n.name)) (sym s)
      (subst (λ (z : Class). Means k (sort.formal_array shape.lows) z) (sym c) (a_formal shape.lows shape.kind (length shape.lows)))
  means_parameter k h n (as_event c a s) =
      subst (λ (z : Sort). Means k z (class_in h.specs n.name)) (sym s) (subst (λ (z : Class). Means k sort.formal_event z) (sym c) a_formal_event)

  parameters_here : (k depth : ℕ) (h : Heading) (ns : List Named) → AreSpecified h ns → k < length blocks → length (around blocks k) ≡ depth →
      AllByRecursion (IsKnown k depth) (map (λ (n : Named). record { name = n.name; spot = n.spot; block = k; depth = depth; sort = sort_in h.specs (is_named_in h.values n.name) n.name; class = class_in h.specs n.name }) ns)
  parameters_here k depth h [] v some deep = tt
  parameters_here k depth h (n ∷ ns) v some deep =
      let none_up : depth - depth ≡ 0 = omega arith in (
        record {
          some = some;
          deep = deep;
          shallow = omega arith;
          found = ap (slice_get (k ∷ around blocks k)) none_up;
          means = means_parameter k h n v.0;
        },
        parameters_here k depth h ns v.1 some deep,
      )

  module _ (j : ℕ) (outer : List Spot) where
    declared_here : (a : Surroundings) → IsAround j outer a → (s : Sort) (c : Class) (ns : List Named) → Means a.block s c →
        AllByRecursion (IsKnown j a.depth) (declare a.block a.depth s c ns)
    declared_here a r s c [] m = tt
    declared_here a r s c (n ∷ ns) m =
        let none_up : a.depth - a.depth ≡ 0 = omega arith in (
          record {
            some = omega (arith, r.block_is, r.some);
            deep = ap (λ (k : ℕ). length (around blocks k)) r.block_is ∙ r.deep;
            shallow = omega arith;
            found = ap (slice_get (j ∷ around blocks j)) none_up ∙ ap Some (sym r.block_is);
            means = m;
          },
          declared_here a r s c ns m,
        )

    knows : (s : Sort) (c : Class) (ns : List Named) (a : Surroundings) → Means a.block s c → IsAround j outer a →
        IsAround j outer (record a { known = declare a.block a.depth s c ns ++ a.known })
    knows s c ns a m r =
        record {
          block_is = r.block_is;
          some = r.some;
          chain_is = r.chain_is;
          chain = r.chain;
          deep = r.deep;
          known = each_both (IsKnown j a.depth) (declare a.block a.depth s c ns) a.known (declared_here a r s c ns m) r.known;
        }

    -- the procedure with this heading
    knows_procedure : (h : Heading) (a : Surroundings) → IsCallee blocks j h → IsAround j outer a →
        IsAround j outer (record a { known = declare_procedure blocks h a ++ a.known })
    knows_procedure h a c r =
        let its = subst (λ (k : ℕ). IsCallee blocks k h) (sym r.block_is) c in
        knows (sort.procedure (number_at blocks h.name.spot)) (class.procedure h) (h.name ∷ []) a (a_procedure h its) r

    -- the place after a declaration, the later ones being these
    pub knows_one : (d : PDecl) (ds : PDecls) (a : Surroundings) → DeclSpecified d → AreCallees blocks j (tree.decls d ds) → IsAround j outer a → IsAround j outer (knowing blocks d ds a)
    knows_one (tree.simple kind ns) ds a b c r = knows sort.variable (class.simple kind) ns a (a_variable kind) r
    knows_one (tree.files ns) ds a b c r = knows sort.file class.file ns a a_file r
    knows_one (tree.arrays kind ns pairs) ds a b c r = knows sort.array (class.array kind (length pairs)) ns a (an_array kind (length pairs)) r
    knows_one (tree.forward h) ds a b c r = knows_procedure (announced h ds) a c.0 r
    knows_one (tree.procedure h t) ds a b c r = knows_procedure h a c.0 r
    knows_one (tree.events ns) ds a b c r = knows sort.event class.event ns a an_event r
    knows_one (tree.tasks ns) ds a b c r = knows sort.event class.task ns a a_task r
    knows_one (tree.labels ns) ds a b c r = knows sort.label class.label ns a a_label r

    -- the place after all of them
    pub knows_all : (ds : PDecls) (a : Surroundings) → DeclsSpecified ds → AreCallees blocks j ds → IsAround j outer a → IsAround j outer (knowing_all blocks ds a)
    knows_all tree.no_decls a b c r = r
    knows_all (tree.decls (tree.simple kind ns) ds) a b c r =
        knows_all ds (knowing blocks (tree.simple kind ns) ds a) b.1 c (knows_one (tree.simple kind ns) ds a b.0 c r)
    knows_all (tree.decls (tree.files ns) ds) a b c r = knows_all ds (knowing blocks (tree.files ns) ds a) b.1 c (knows_one (tree.files ns) ds a b.0 c r)
    knows_all (tree.decls (tree.events ns) ds) a b c r = knows_all ds (knowing blocks (tree.events ns) ds a) b.1 c (knows_one (tree.events ns) ds a b.0 c r)
    knows_all (tree.decls (tree.tasks ns) ds) a b c r = knows_all ds (knowing blocks (tree.tasks ns) ds a) b.1 c (knows_one (tree.tasks ns) ds a b.0 c r)
    knows_all (tree.decls (tree.labels ns) ds) a b c r = knows_all ds (knowing blocks (tree.labels ns) ds a) b.1 c (knows_one (tree.labels ns) ds a b.0 c r)
    knows_all (tree.decls (tree.arrays kind ns pairs) ds) a b c r =
        knows_all ds (knowing blocks (tree.arrays kind ns pairs) ds a) b.1 c (knows_one (tree.arrays kind ns pairs) ds a b.0 c r)
    knows_all (tree.decls (tree.forward h) ds) a b c r = knows_all ds (knowing blocks (tree.forward h) ds a) b.1 c.1 (knows_one (tree.forward h) ds a b.0 c r)
    knows_all (tree.decls (tree.procedure h t) ds) a b c r =
        knows_all ds (knowing blocks (tree.procedure h t) ds a) b.1 c.1 (knows_one (tree.procedure h t) ds a b.0 c r)

    -- the place after a BEGIN or the name of a procedure, at `spot` in the block j
    pub enters : (spot : Spot) (a : Surroundings) → number_at blocks spot < length blocks → around blocks (number_at blocks spot) ≡ map (number_at blocks) outer → IsAround j outer a →
        IsAround (number_at blocks spot) (spot ∷ outer) (record { block = number_at blocks spot; depth = a.depth + 1; known = a.known })
    enters spot a n e r =
        let k = number_at blocks spot in
        let above : around blocks k ≡ j ∷ around blocks j = e ∙ r.chain_is in
        record {
          block_is = refl;
          some = n;
          chain_is = ap (λ z. k ∷ z) (sym e);
          chain = subst (IsChain blocks) (sym above) (refl, r.chain);
          deep = omega (arith, ap length above, r.deep);
          known =
              each_of (IsKnown j a.depth) (IsKnown k (a.depth + 1)) a.known
              (λ d h.
              let one_more : a.depth + 1 - d.depth ≡ suc (a.depth - d.depth) = omega (arith, h.shallow) in
              record {
                some = h.some;
                deep = h.deep;
                shallow = omega (arith, h.shallow);
                found = ap (slice_get (k ∷ around blocks k)) one_more ∙ ap (λ z. slice_get z (a.depth - d.depth)) above ∙ h.found;
                means = h.means;
              })
              r.known;
        }

    -- inside a procedure of the block j
    pub enters_procedure : (h : Heading) (a : Surroundings) → IsCallee blocks j h → IsAround j outer a →
        IsAround (number_at blocks h.name.spot) (h.name.spot ∷ outer) (inside_procedure blocks h a)
    enters_procedure h a c r =
        let k = number_at blocks h.name.spot in
        let inner = enters h.name.spot a c.some (c.around_is ∙ sym r.chain_is) r in
        record {
          block_is = refl;
          some = inner.some;
          chain_is = inner.chain_is;
          chain = inner.chain;
          deep = inner.deep;
          known =
              each_both (IsKnown k (a.depth + 1)) (declared_parameters k (a.depth + 1) h) a.known (parameters_here k (a.depth + 1) h h.params (specified h c.built) inner.some inner.deep)
              inner.known;
        }

-- ---- names that are used

-- No rule of types and of assignments is broken at a part of the tree.
pub record IsKept (blocks : List Block) (x : Site) : Type 0 where
  pub right : wrong_types blocks x ≡ []
  pub assignable : not_assignable blocks x ≡ []

abbrev pub AreKept : List Block → List Site → Type 0
AreKept blocks xs = AllByRecursion (IsKept blocks) xs

-- A part of the tree whose names are known where it stands, and whose uses are found at the places of its names.
pub record IsGood (sc : Scopes) (x : Site) : Type 0 where
  pub there : AllByRecursion (IsThere sc.uses) (uses_at x)
  pub known : unknown_names x ≡ []

abbrev pub AreGood : Scopes → List Site → Type 0
AreGood sc xs = AllByRecursion (IsGood sc) xs

name_good : (sc : Scopes) (n : Named) (value : Bool) (a : Surroundings) → IsGood sc (record { part = name_part n value; around = a }) →
    IsGood sc (here (tree.variable (tree.subscripted n tree.none)) a)
name_good sc n true a g = g
name_good sc n false a g = record { there = g.there; known = g.known }

-- the part of an actual is as its expression
pub actual_good : (sc : Scopes) (e : PExpr) (f : Option Formal) (a : Surroundings) → IsGood sc (record { part = actual_part e f; around = a }) → IsGood sc (here e a)
actual_good sc e f a g = by (name_alone e) refl g
  where
    by : (o : Option Named) → name_alone e ≡ o → IsGood sc (record { part = actual_part_by o e f; around = a }) → IsGood sc (here e a)
    by None h g = g
    by (Some n) h g = subst (λ x. IsGood sc (here x a)) (sym (named_alone e n h)) (name_good sc n (wants_value f) a g)

module _ (sc : Scopes) (j : ℕ) (outer : List Spot) (a : Surroundings) (r : IsAround sc.blocks j outer a) where
  abbrev pub the_use : Named → Declared → Use
  the_use n d = record { spot = n.spot; block = d.block; up = a.depth - d.depth; sort = d.sort }

  pub known_as : (n : Named) (d : Declared) → declared_as a n ≡ Some d → IsKnown sc.blocks j a.depth d
  known_as n d e = found_known (IsKnown sc.blocks j a.depth) a.known n.name d r.known e

  seen_use : (n : Named) (u : Use) → declared_in sc.uses n.spot ≡ Some u → slice_get (j ∷ around sc.blocks j) u.up ≡ Some u.block → BlockIsSeen sc j n
  seen_use n u t f =
      let P : Use → Type 0 = λ v. slice_get (j ∷ around sc.blocks j) v.up ≡ Some v.block in
      subst P (sym (use_is sc n u t)) f

  seen_as : (n : Named) (d : Declared) → declared_as a n ≡ Some d → declared_in sc.uses n.spot ≡ Some (the_use n d) → BlockIsSeen sc j n
  seen_as n d e t = seen_use n (the_use n d) t ((known_as n d e).found)

  seen_by : (n : Named) (o : Option Declared) → declared_as a n ≡ o → if_so (not (is_some o)) n.spot ≡ [] → AllByRecursion (IsThere sc.uses) (use_by a n o) → BlockIsSeen sc j n
  seen_by n None e k t = absurd (let clash : n.spot ∷ [] ≡ [] = k in cc)
  seen_by n (Some d) e k t = seen_as n d e t.0

  -- On the left of an assignment the name of a typed procedure is its result. The place stands in that procedure, so in its block or one
  -- around which that block is.
  abbrev StandsInside : Named → Type 0
  StandsInside n = (h : Heading) → class_of a n ≡ class.procedure h → is_among sc.blocks (number_at sc.blocks h.name.spot) (a.block ∷ around sc.blocks a.block) ≡ true

  left_as : (n : Named) (d : Declared) (s : Sort) (c : Class) → IsKnown sc.blocks j a.depth d → Means sc.blocks d.block s c → class_of a n ≡ c → StandsInside n →
      IsThere sc.uses (left_use (the_use n d) s) → BlockIsSeen sc j n
  left_as n d s c k (a_variable kind) e i t = seen_use n (the_use n d) t k.found
  left_as n d s c k (a_name kind) e i t = seen_use n (the_use n d) t k.found
  left_as n d s c k a_file e i t = seen_use n (the_use n d) t k.found
  left_as n d s c k (an_array kind count) e i t = seen_use n (the_use n d) t k.found
  left_as n d s c k (a_formal lows kind count) e i t = seen_use n (the_use n d) t k.found
  left_as n d s c k an_event e i t = seen_use n (the_use n d) t k.found
  left_as n d s c k a_formal_event e i t = seen_use n (the_use n d) t k.found
  left_as n d s c k a_task e i t = seen_use n (the_use n d) t k.found
  left_as n d s c k a_label e i t = seen_use n (the_use n d) t k.found
  left_as n d s c k (a_procedure h callee) e i t =
      let own = number_at sc.blocks h.name.spot in
      let inside : is_among sc.blocks own (j ∷ around sc.blocks j) ≡ true = subst (λ (m : ℕ). is_among sc.blocks own (m ∷ around sc.blocks m) ≡ true) r.block_is (i h e) in
      let its = chain_at sc.blocks own (j ∷ around sc.blocks j) (refl, r.chain) inside in
      let up_is : a.depth - d.depth - 1 ≡ length (j ∷ around sc.blocks j) - 1 - length (around sc.blocks own) =
      omega (arith, r.deep, k.deep, k.shallow, its.fewer, ap length callee.around_is) in
      seen_use n (record { spot = n.spot; block = own; up = a.depth - d.depth - 1; sort = sort.variable }) t (ap (slice_get (j ∷ around sc.blocks j)) up_is ∙ its.found)

  left_by : (n : Named) (o : Option Declared) → declared_as a n ≡ o → if_so (not (is_some o)) n.spot ≡ [] → StandsInside n → AllByRecursion (IsThere sc.uses) (left_uses (use_by a n o)) →
      BlockIsSeen sc j n
  left_by n None e k i t = absurd (let clash : n.spot ∷ [] ≡ [] = k in cc)
  left_by n (Some d) e k i t =
      let known = known_as n d e in
      left_as n d d.sort d.class known known.means (ap class_of_declared e) i t.0

  abbrev unknown : List Named → List Spot
  unknown ns = places_if (λ (n : Named). not (is_some (declared_as a n))) ns

  pub all_seen : (ns : List Named) → unknown ns ≡ [] → AllByRecursion (IsThere sc.uses) (flat_map (used a) ns) → AllByRecursion (BlockIsSeen sc j) ns
  all_seen [] k t = tt
  all_seen (n ∷ ns) k t =
      let its = if_so (not (is_some (declared_as a n))) n.spot in (
        seen_by n (declared_as a n) refl (append_none_left its (unknown ns) k) (each_front (IsThere sc.uses) (used a n) (flat_map (used a) ns) t),
        all_seen ns (append_none_right its (unknown ns) k) (each_back (IsThere sc.uses) (used a n) (flat_map (used a) ns) t),
      )

  -- a procedure that is assigned to is around the place
  stands_inside : (n : Named) (es : PExprs) (e : PExpr) (listed : Bool) → IsKept sc.blocks (here_stmt (tree.assign (tree.subscripted n es) e) listed a) → StandsInside n
  stands_inside n tree.none e listed kept h c =
      let test : Bool = is_among sc.blocks (number_at sc.blocks h.name.spot) (a.block ∷ around sc.blocks a.block) in
      let its : if_so (not (is_some h.kind && test)) n.spot ≡ [] = rw c at kept.assignable in
      second_so (is_some h.kind) test (not_so (not (is_some h.kind && test)) n.spot its)
  stands_inside n (tree.more x xs) e listed kept h c =
      let its : n.spot ∷ _ ≡ [] = rw c at kept.right in absurd cc

  pub left_seen : (n : Named) (es : PExprs) (e : PExpr) (listed : Bool) → unknown (n ∷ []) ≡ [] → IsKept sc.blocks (here_stmt (tree.assign (tree.subscripted n es) e) listed a) →
      AllByRecursion (IsThere sc.uses) (left_uses (used a n)) → BlockIsSeen sc j n
  left_seen n es e listed k kept t =
      left_by n (declared_as a n) refl (append_none_left (if_so (not (is_some (declared_as a n))) n.spot) [] k) (stands_inside n es e listed kept) t

  -- ---- expressions

  abbrev Good : Site → Type 0
  Good x = IsGood sc x

  abbrev pub KnownAs : (Named → Type 0) → Type 0
  KnownAs P = (n : Named) → unknown (n ∷ []) ≡ [] → AllByRecursion (IsThere sc.uses) (flat_map (used a) (n ∷ [])) → P n

  -- what holds of each name that is known there holds of those of an expression
  module _ (P : Named → Type 0) (known : KnownAs P) where
    names_known : (ns : List Named) → unknown ns ≡ [] → AllByRecursion (IsThere sc.uses) (flat_map (used a) ns) → AllByRecursion P ns
    names_known [] k t = tt
    names_known (n ∷ ns) k t =
        let its = if_so (not (is_some (declared_as a n))) n.spot in (
          known n (ap (λ xs. xs ++ []) (append_none_left its (unknown ns) k)) (each_both (IsThere sc.uses) (used a n) [] (each_front (IsThere sc.uses) (used a n) (flat_map (used a) ns) t) tt),
          names_known ns (append_none_right its (unknown ns) k) (each_back (IsThere sc.uses) (used a n) (flat_map (used a) ns) t),
        )

    mutual
      pub expr_known : (e : PExpr) → AreGood sc (sites e a) → InExpr P e
      expr_known (tree.number z spot) g = tt
      expr_known (tree.truth z spot) g = tt
      expr_known (tree.variable (tree.subscripted n es)) g = (known n g.0.known g.0.there, list_known es g.1)
      expr_known (tree.call (tree.called n es)) g = (known n g.0.known g.0.there, actuals_known es (formals_at a n) g.1)
      expr_known (tree.tested x es spot) g = names_known (map (λ (e : EventName). e.name) es) g.0.known g.0.there
      expr_known (tree.paren e spot) g = expr_known e g.1
      expr_known (tree.plus e spot) g = expr_known e g.1
      expr_known (tree.neg e spot) g = expr_known e g.1
      expr_known (tree.not e spot) g = expr_known e g.1
      expr_known (tree.two op x y) g =
          (expr_known x (each_front Good (sites x a) (sites y a) g.1), expr_known y (each_back Good (sites x a) (sites y a) g.1))
      expr_known (tree.if c x y spot) g =
          let front = each_front Good (sites c a ++ sites x a) (sites y a) g.1 in (
            expr_known c (each_front Good (sites c a) (sites x a) front),
            expr_known x (each_back Good (sites c a) (sites x a) front),
            expr_known y (each_back Good (sites c a ++ sites x a) (sites y a) g.1),
          )

      pub list_known : (es : PExprs) → AreGood sc (inside_list es a) → InExprs P es
      list_known tree.none g = tt
      list_known (tree.more e es) g =
          (expr_known e (each_front Good (sites e a) (inside_list es a) g), list_known es (each_back Good (sites e a) (inside_list es a) g))

      pub actuals_known : (es : PExprs) (fs : List Formal) → AreGood sc (inside_actuals es fs a) → InExprs P es
      actuals_known tree.none fs g = tt
      actuals_known (tree.more e es) fs g =
          let later = inside_actuals es (other_formals fs) a in (
            expr_known e (actual_good sc e (first_formal fs) a g.1.0, each_front Good (inside_expr e a) later g.1.1),
            actuals_known es (other_formals fs) (each_back Good (inside_expr e a) later g.1.1),
          )

  abbrev Seen : Named → Type 0
  Seen n = BlockIsSeen sc j n

  one_seen : KnownAs Seen
  one_seen n k t = (all_seen (n ∷ []) k t).0

  pub in_expr : (e : PExpr) → AreGood sc (sites e a) → InExpr Seen e
  in_expr e g = expr_known Seen one_seen e g

  pub in_list : (es : PExprs) → AreGood sc (inside_list es a) → InExprs Seen es
  in_list es g = list_known Seen one_seen es g

  pub in_actuals : (es : PExprs) (fs : List Formal) → AreGood sc (inside_actuals es fs a) → InExprs Seen es
  in_actuals es fs g = actuals_known Seen one_seen es fs g
