-- What is around each place of a program, and what its names mean there: the names that are known there are those of the block of the place
-- and of the blocks around it, each so many up as its depth says, and all parameters of these blocks are among them.
use Rattle.std.proofs.Common.{arith, ◌≡◌, ℕ, ℤ, ◌+◌, ◌-◌, ◌<◌, ◌≤◌, Bool, true, false, List, [], ◌∷◌, ◌++◌, map, length, Some, None, refl, sym, ap, ◌∙◌, subst, if◌then◌else◌, suc, slice_get}
use Rattle.std.specs.List.{AllByRecursion, Contains}
use Rattle.algol_tree.specs.declared.token.Spot.{Spot}
use Rattle.algol_tree.specs.declared.tree.Heading.{Heading}
use Rattle.algol_tree.specs.declared.tree.Kind.{Kind}
use Rattle.algol_tree.specs.declared.tree.Named.{Named}
use Rattle.algol_tree.specs.Blocks.{Block, block_numbered, number_at, around}
use Rattle.algol_tree.specs.Classes as class
use Rattle.algol_tree.specs.Classes.{Class}
use Rattle.algol_tree.specs.Plain as tree
use Rattle.algol_tree.specs.Plain.{PDecl, PDecls}
use Rattle.algol_tree.specs.Sorts as sort
use Rattle.algol_tree.specs.Sorts.{Sort, is_formal, is_variable, Parameter, same_name, Declared, look_up, declare, is_named_in, sort_in, class_in, parameters_of}
use Rattle.algol_tree.specs.Surroundings.{Surroundings, announced, declare_procedure, knowing, knowing_all, inside_procedure}
use Rattle.algol_tree.proofs.Names.{same_name_is}
use Rattle.algol_told.proofs.Lists.{contains_first, contains_later, all_append, all_weaker, false_not_true}
use Rattle.algol_calls.specs.Fits.{has_parameter, has_variable, has_simple}
use Rattle.algol_calls.proofs.Simple.{parameter_simple}
use Rattle.algol_texts.proofs.Parameters.{HasParameter, more_known, IsGiven, given_value, given_name, given_array, given_event, given, each_named, parameter_known, each_parameter, variable_simple}
use Rattle.algol_texts.proofs.Callees.{AreSpecified, parameters_at, IsCallee, DeclaresCallee, AreCallees, IsChain}

module _ (blocks : List Block) where
  -- what a name that a block declares can be, as a sort and as a class
  pub data Means (block : ℕ) (name : List ℕ) : Sort → Class → Type 0 where
    a_variable : (kind : Kind) → Means block name sort.variable (class.simple kind)
    a_name : (kind : Kind) → Means block name sort.by_name (class.simple kind)
    an_array : (kind : Kind) (count : ℕ) → Means block name sort.array (class.array kind count)
    a_formal_array : (lows : List ℤ) (kind : Kind) → Means block name (sort.formal_array lows) (class.array kind (length lows))
    an_event : Means block name sort.event class.event
    a_task : Means block name sort.event class.task
    a_formal_event : Means block name sort.formal_event class.event
    a_label : Means block name sort.label class.label
    a_file : Means block name sort.file class.file
    a_procedure : (h : Heading) → IsCallee blocks block h → h.name.name ≡ name → Means block name (sort.procedure (number_at blocks h.name.spot)) (class.procedure h)

  -- The declaration stands in the block j or in one around it, so many up. What stands for something else is a parameter, and a
  -- variable has its cell from the entry of its block on.
  pub record IsKnown (j depth : ℕ) (d : Declared) : Type 0 where
    pub deep : length (around blocks d.block) ≡ d.depth
    pub shallow : d.depth ≤ depth
    pub found : slice_get (j ∷ around blocks j) (depth - d.depth) ≡ Some d.block
    pub means : Means d.block d.name d.sort d.class
    pub formal : is_formal d.sort ≡ true → has_parameter (parameters_at blocks d.block) d.name ≡ true
    pub variable : is_variable d.sort ≡ true → has_simple (block_numbered blocks d.block) d.name ≡ true

  -- all parameters of the block k are known; those of each of these
  abbrev pub HasAll : List Declared → ℕ → Type 0
  HasAll known k = AllByRecursion (HasParameter known k) (parameters_at blocks k)

  abbrev pub HaveAll : List Declared → List ℕ → Type 0
  HaveAll known ks = AllByRecursion (HasAll known) ks

  -- The place stands in the block j. Its BEGIN and those around it, or the names of their procedures, stand at these places, the innermost
  -- first.
  pub record IsAround (j : ℕ) (outer : List Spot) (a : Surroundings) : Type 0 where
    pub block_is : a.block ≡ j
    pub some : j < length blocks
    pub chain_is : map (number_at blocks) outer ≡ j ∷ around blocks j
    pub chain : IsChain blocks (around blocks j)
    pub deep : length (around blocks j) ≡ a.depth
    pub known : AllByRecursion (IsKnown j a.depth) a.known
    pub whole : HaveAll a.known (j ∷ around blocks j)

  wider : (new known : List Declared) (ks : List ℕ) → HaveAll known ks → HaveAll (new ++ known) ks
  wider new known ks h =
      all_weaker (HasAll known) (HasAll (new ++ known))
      (λ k g. all_weaker (HasParameter known k) (HasParameter (new ++ known) k) (more_known new known k) (parameters_at blocks k) g) ks h

  -- ---- after a declaration

  module _ (j : ℕ) (outer : List Spot) where
    knows_more : (a : Surroundings) (new : List Declared) → IsAround j outer a → AllByRecursion (IsKnown j a.depth) new → IsAround j outer (record a { known = new ++ a.known })
    knows_more a new r h =
        record {
          block_is = r.block_is;
          some = r.some;
          chain_is = r.chain_is;
          chain = r.chain;
          deep = r.deep;
          known = all_append (IsKnown j a.depth) new a.known h r.known;
          whole = wider new a.known (j ∷ around blocks j) r.whole;
        }

    -- a variable of this name is one of the block
    abbrev HasCell : Surroundings → Sort → Named → Type 0
    HasCell a s n = is_variable s ≡ true → has_simple (block_numbered blocks a.block) n.name ≡ true

    one_here : (a : Surroundings) → IsAround j outer a → (s : Sort) (c : Class) (n : Named) → is_formal s ≡ false → Means a.block n.name s c → HasCell a s n →
        IsKnown j a.depth (record { name = n.name; spot = n.spot; block = a.block; depth = a.depth; sort = s; class = c })
    one_here a r s c n f m v =
        let none_up : a.depth - a.depth ≡ 0 = omega arith in
        record {
          deep = ap (λ (k : ℕ). length (around blocks k)) r.block_is ∙ r.deep;
          shallow = omega arith;
          found = ap (slice_get (j ∷ around blocks j)) none_up ∙ ap Some (sym r.block_is);
          means = m;
          formal = λ e. absurd (false_not_true (sym f ∙ e));
          variable = v;
        }

    all_here : (a : Surroundings) → IsAround j outer a → (s : Sort) (c : Class) (ns : List Named) → is_formal s ≡ false → ((n : Named) → Means a.block n.name s c) →
        AllByRecursion (HasCell a s) ns →
        AllByRecursion (IsKnown j a.depth) (declare a.block a.depth s c ns)
    all_here a r s c [] f m v = tt
    all_here a r s c (n ∷ ns) f m v = (one_here a r s c n f (m n) v.0, all_here a r s c ns f m v.1)

    -- what is no variable
    none_here : (a : Surroundings) (s : Sort) (ns : List Named) → is_variable s ≡ false → AllByRecursion (HasCell a s) ns
    none_here a s [] e = tt
    none_here a s (n ∷ ns) e = (λ h. absurd (false_not_true (sym e ∙ h)), none_here a s ns e)

    knows : (s : Sort) (c : Class) (ns : List Named) (a : Surroundings) → is_formal s ≡ false → ((n : Named) → Means a.block n.name s c) → AllByRecursion (HasCell a s) ns →
        IsAround j outer a → IsAround j outer (record a { known = declare a.block a.depth s c ns ++ a.known })
    knows s c ns a f m v r = knows_more a (declare a.block a.depth s c ns) r (all_here a r s c ns f m v)

    -- simple variables of the block
    variables_here : (a : Surroundings) → IsAround j outer a → (ns : List Named) → AllByRecursion (λ (n : Named). has_variable (block_numbered blocks j).decls n.name ≡ true) ns →
        AllByRecursion (HasCell a sort.variable) ns
    variables_here a r ns h =
        all_weaker (λ (n : Named). has_variable (block_numbered blocks j).decls n.name ≡ true) (HasCell a sort.variable)
        (λ n e g. subst (λ (k : ℕ). has_simple (block_numbered blocks k) n.name ≡ true) (sym r.block_is) (variable_simple (block_numbered blocks j) n.name e)) ns h

    -- the procedure with this heading
    knows_procedure : (h : Heading) (a : Surroundings) → IsCallee blocks j h → IsAround j outer a → IsAround j outer (record a { known = declare_procedure blocks h a ++ a.known })
    knows_procedure h a c r =
        let its = subst (λ (k : ℕ). IsCallee blocks k h) (sym r.block_is) c in
        knows_more a (declare_procedure blocks h a) r
        (one_here a r (sort.procedure (number_at blocks h.name.spot)) (class.procedure h) h.name refl (a_procedure h its refl) (λ e. absurd (false_not_true e)), tt)

    -- the place after a declaration, the later ones being these
    pub knows_one : (d : PDecl) (ds : PDecls) (a : Surroundings) → DeclaresCallee blocks j d ds → IsAround j outer a → IsAround j outer (knowing blocks d ds a)
    knows_one (tree.simple kind ns) ds a c r = knows sort.variable (class.simple kind) ns a refl (λ n. a_variable kind) (variables_here a r ns c) r
    knows_one (tree.files ns) ds a c r = knows sort.file class.file ns a refl (λ n. a_file) (none_here a sort.file ns refl) r
    knows_one (tree.events ns) ds a c r = knows sort.event class.event ns a refl (λ n. an_event) (none_here a sort.event ns refl) r
    knows_one (tree.tasks ns) ds a c r = knows sort.event class.task ns a refl (λ n. a_task) (none_here a sort.event ns refl) r
    knows_one (tree.labels ns) ds a c r = knows sort.label class.label ns a refl (λ n. a_label) (none_here a sort.label ns refl) r
    knows_one (tree.arrays kind ns pairs) ds a c r = knows sort.array (class.array kind (length pairs)) ns a refl (λ n. an_array kind (length pairs)) (none_here a sort.array ns refl) r
    knows_one (tree.forward h) ds a c r = knows_procedure (announced h ds) a c r
    knows_one (tree.procedure h t) ds a c r = knows_procedure h a c r

    -- the place after all of them
    pub knows_all : (ds : PDecls) (a : Surroundings) → AreCallees blocks j ds → IsAround j outer a → IsAround j outer (knowing_all blocks ds a)
    knows_all tree.no_decls a c r = r
    knows_all (tree.decls d ds) a c r = knows_all ds (knowing blocks d ds a) c.1 (knows_one d ds a c.0 r)

    -- ---- in a block of the block j

    deeper : (k : ℕ) (a : Surroundings) (d : Declared) → around blocks k ≡ j ∷ around blocks j → IsKnown j a.depth d → IsKnown k (a.depth + 1) d
    deeper k a d above h =
        let one_more : a.depth + 1 - d.depth ≡ suc (a.depth - d.depth) = omega (arith, h.shallow) in
        record {
          deep = h.deep;
          shallow = omega (arith, h.shallow);
          found = ap (slice_get (k ∷ around blocks k)) one_more ∙ ap (λ z. slice_get z (a.depth - d.depth)) above ∙ h.found;
          means = h.means;
          formal = h.formal;
          variable = h.variable;
        }

    -- the place after a BEGIN or the name of a procedure, at `spot`, with what is new there
    pub enters : (spot : Spot) (new : List Declared) (a : Surroundings) → number_at blocks spot < length blocks → around blocks (number_at blocks spot) ≡ map (number_at blocks) outer →
        AllByRecursion (IsKnown (number_at blocks spot) (a.depth + 1)) new → HasAll (new ++ a.known) (number_at blocks spot) → IsAround j outer a →
        IsAround (number_at blocks spot) (spot ∷ outer) (record { block = number_at blocks spot; depth = a.depth + 1; known = new ++ a.known })
    enters spot new a n e fresh all r =
        let k = number_at blocks spot in
        let above : around blocks k ≡ j ∷ around blocks j = e ∙ r.chain_is in
        record {
          block_is = refl;
          some = n;
          chain_is = ap (λ z. k ∷ z) (sym e);
          chain = subst (IsChain blocks) (sym above) (refl, r.chain);
          deep = omega (arith, ap length above, r.deep);
          known = all_append (IsKnown k (a.depth + 1)) new a.known fresh (all_weaker (IsKnown j a.depth) (IsKnown k (a.depth + 1)) (λ d h. deeper k a d above h) a.known r.known);
          whole = (all, subst (HaveAll (new ++ a.known)) (sym above) (wider new a.known (j ∷ around blocks j) r.whole));
        }

  -- ---- in a procedure

  means_given : (k : ℕ) (name : List ℕ) (s : Sort) (c : Class) → IsGiven s c → Means k name s c
  means_given k name s c (given_value kind) = a_variable kind
  means_given k name s c (given_name kind) = a_name kind
  means_given k name s c (given_array lows kind) = a_formal_array lows kind
  means_given k name s c given_event = a_formal_event

  parameters_known : (k depth : ℕ) (h : Heading) (ns : List Named) → AreSpecified h ns → AllByRecursion (λ (n : Named). has_parameter (parameters_at blocks k) n.name ≡ true) ns →
      length (around blocks k) ≡ depth → AllByRecursion (IsKnown k depth) (map (parameter_known h k depth) ns)
  parameters_known k depth h [] v m deep = tt
  parameters_known k depth h (n ∷ ns) v m deep =
      let none_up : depth - depth ≡ 0 = omega arith in
      let by_value = is_named_in h.values n.name in (
        record {
          deep = deep;
          shallow = omega arith;
          found = ap (slice_get (k ∷ around blocks k)) none_up;
          means = means_given k n.name (sort_in h.specs by_value n.name) (class_in h.specs n.name) (given h.specs by_value n.name v.0);
          formal = λ e. m.0;
          variable = λ e. parameter_simple (block_numbered blocks k) n.name m.0;
        },
        parameters_known k depth h ns v.1 m.1 deep,
      )

  module _ (j : ℕ) (outer : List Spot) where
    pub enters_procedure : (h : Heading) (a : Surroundings) → IsCallee blocks j h → IsAround j outer a →
        IsAround (number_at blocks h.name.spot) (h.name.spot ∷ outer) (inside_procedure blocks h a)
    enters_procedure h a c r =
        let k = number_at blocks h.name.spot in
        let new : List Declared = map (parameter_known h k (a.depth + 1)) h.params in
        let named : AllByRecursion (λ (n : Named). has_parameter (parameters_at blocks k) n.name ≡ true) h.params =
        subst (λ (ps : List Parameter). AllByRecursion (λ (n : Named). has_parameter ps n.name ≡ true) h.params) (sym c.parameters_are) (each_named h h.params) in
        let deep : length (around blocks k) ≡ a.depth + 1 = omega (arith, ap length c.around_is, r.deep) in
        let all : HasAll (new ++ a.known) k =
        subst (λ (ps : List Parameter). AllByRecursion (HasParameter (new ++ a.known) k) ps) (sym c.parameters_are) (each_parameter h k (a.depth + 1) h.params a.known) in
        enters j outer h.name.spot new a c.some (c.around_is ∙ sym r.chain_is) (parameters_known k (a.depth + 1) h h.params c.specified named deep) all r

-- ---- what is found under a name

pub record IsFound (known : List Declared) (name : List ℕ) (d : Declared) : Type 0 where
  pub there : Contains known d
  pub named : d.name ≡ name

pub found_there : (known : List Declared) (name : List ℕ) (d : Declared) → look_up known name ≡ Some d → IsFound known name d
found_there [] name d g = absurd (let clash : None ≡ Some d = g in cc)
found_there (e ∷ known) name d g = by (same_name e.name name) refl (found_there known name d) g
  where
    by : (b : Bool) → same_name e.name name ≡ b → (look_up known name ≡ Some d → IsFound known name d) → (if b then Some e else look_up known name) ≡ Some d → IsFound (e ∷ known) name d
    by true t later f =
        let same : e ≡ d = cc in
        subst (λ (x : Declared). IsFound (e ∷ known) name x) same (record { there = contains_first e known; named = same_name_is e.name name t })
    by false t later f = let its = later f in record { there = contains_later e known d its.there; named = its.named }
