-- What is known at a place of a program: files, variables and parameters whose cells lie in blocks around the place, and arrays, events, labels
-- and procedures that such blocks declare.
use Rattle.std.proofs.Common.{arith, ◌≡◌, ◌⊎◌, inl, inr, ℕ, ◌+◌, ◌≤◌, true, false, List, [], ◌∷◌, ◌++◌, Some, None, length, sym, refl, ◌∙◌, subst}
use Rattle.std.specs.List.{AllByRecursion}
use Rattle.algol_tree.specs.declared.token.Spot.{Spot}
use Rattle.algol_tree.specs.declared.tree.Heading.{Heading}
use Rattle.algol_tree.specs.declared.tree.Kind.{Kind}
use Rattle.algol_tree.specs.declared.tree.Named.{Named}
use Rattle.algol_tree.specs.Ascending.{spots_of_names}
use Rattle.algol_tree.specs.Blocks.{Block, block_numbered, number_at, procedure_block}
use Rattle.algol_tree.specs.Cells as cells
use Rattle.algol_tree.specs.Cells.{Cell, cells_for}
use Rattle.algol_tree.specs.Classes as class
use Rattle.algol_tree.specs.Classes.{Class}
use Rattle.algol_tree.specs.Names.{name_is_one_of, result_names_of, twice_in_heading}
use Rattle.algol_tree.specs.Plain as tree
use Rattle.algol_tree.specs.Plain.{PStmt, PDecls}
use Rattle.algol_tree.specs.Sorts as sort
use Rattle.algol_tree.specs.Sorts.{same_name, Declared, look_up, declared_parameters}
use Rattle.algol_tree.specs.Surroundings.{Surroundings, outermost, inside_procedure}
use Rattle.algol_paths.specs.Arrays.{DeclaredArray, Shape, an_array, an_event, lows_among, lows_declared}
use Rattle.b67_templates.specs.Cells.{Simple, Wanted, value, by_name, array as array_of, event as event_of, variables, made_of, parameters_in, parameters_around}
use Rattle.b67_templates.specs.Labels.{labels_in}
use Rattle.b67_templates.specs.Code.{AreDimensions}
use Rattle.b67_fitting.specs.Wholes.{HaveDimensions}
use Rattle.b67_fitting.specs.Typing.{HeadingSpecified, IsEventful, SpecsWhole}
use Rattle.b67_fitting.proofs.Aligned.{Aligned, AreOthers}
use Rattle.b67_fitting.proofs.Apart.{IsIn, Apart}
use Rattle.b67_fitting.proofs.Arrayed.{made_spots, own_lows, IsMade}
use Rattle.b67_fitting.proofs.TypedBounds.{LowsWhole}
use Rattle.b67_fitting.proofs.Clean.{IsPlain, simple, array, file, label, event, task, procedure, KnowsPlain}
use Rattle.b67_fitting.proofs.Declaring.{found_either}
use Rattle.b67_fitting.proofs.Frames.{named_around, named_of, variable_cells, made_cells}
use Rattle.b67_fitting.proofs.Given.{lows_wanted, IsParameter, by_value, as_one, an_array as given_array, an_event as given_event, IsGiven, given}
use Rattle.b67_fitting.proofs.Specified.{specified}

-- the places of the simple variables, and the headings of the procedures
abbrev pub variable_spots : PDecls → List Spot
variable_spots tree.no_decls = []
variable_spots (tree.decls (tree.simple kind ns) ds) = spots_of_names ns ++ variable_spots ds
variable_spots (tree.decls d ds) = variable_spots ds

abbrev pub headings : PDecls → List Heading
headings tree.no_decls = []
headings (tree.decls (tree.procedure h s) ds) = h ∷ headings ds
headings (tree.decls d ds) = headings ds

module _ (blocks : List Block) where
  -- the cells of the parameters of a block, by their names and by their places
  abbrev pub given_cells : Block → List Simple
  given_cells b = parameters_around blocks b.outer b.spot

  abbrev pub given_places : Block → List Cell
  given_places b = cells_for (number_at blocks b.spot) cells.parameter (named_of blocks b)

  -- By its name and by its place the cell has the same number among those of variables. The block is not of a typed procedure of that
  -- name, and has no parameter of that name.
  pub record IsVariableOf (in_block : Block) (name : List ℕ) (d : Declared) (kind : Kind) : Type 0 where
    pub among : IsIn d.spot (variable_spots in_block.decls)
    pub other : name_is_one_of (result_names_of (block_numbered blocks d.block)) name ≡ false
    pub past : AreOthers name d.spot (given_cells in_block) (given_places in_block)
    pub aligned : Aligned (variables in_block.decls) (variable_cells (number_at blocks in_block.spot) in_block.decls) name d.spot (value kind)

  -- .. among those of parameters. Where the procedure is declared its lower bounds are known.
  pub record IsParameterOf (in_block : Block) (name : List ℕ) (d : Declared) (wanted : Wanted) : Type 0 where
    pub among : IsIn d.spot (spots_of_names (named_of blocks in_block))
    pub aligned : Aligned (given_cells in_block) (given_places in_block) name d.spot wanted
    pub owner : Block
    pub owner_there : IsIn owner blocks
    pub heading : Heading
    pub heading_there : IsIn heading (headings owner.decls)
    pub inside : IsIn d.spot (spots_of_names heading.params)
    pub lows : lows_declared owner.decls d.spot ≡ lows_wanted wanted

  -- The declaration is that of a variable or of a parameter in a block of the program, no deeper than this.
  pub record IsHeld (depth : ℕ) (name : List ℕ) (d : Declared) (kind : Kind) : Type 0 where
    pub in_block : Block
    pub there : IsIn in_block blocks
    pub class_is : d.class ≡ class.simple kind
    pub sort_is : d.sort ≡ sort.variable
    pub block_is : d.block ≡ number_at blocks in_block.spot
    pub depth_is : d.depth ≡ length in_block.outer
    pub within : d.depth ≤ depth
    pub place : IsVariableOf in_block name d kind ⊎ IsParameterOf in_block name d (value kind)

  -- The declaration is that of an array with such elements and so many bounds, in a block of the program. The block has no simple cell of
  -- that name.
  pub record IsRowed (depth : ℕ) (name : List ℕ) (d : Declared) (kind : Kind) (rank : ℕ) : Type 0 where
    pub in_block : Block
    pub there : IsIn in_block blocks
    pub class_is : d.class ≡ class.array kind rank
    pub sort_is : d.sort ≡ sort.array
    pub block_is : d.block ≡ number_at blocks in_block.spot
    pub depth_is : d.depth ≡ length in_block.outer
    pub within : d.depth ≤ depth
    pub array : DeclaredArray
    pub kind_is : array.kind ≡ kind
    pub rank_is : length array.pairs ≡ rank
    pub dimensions : AreDimensions array.pairs
    pub whole : LowsWhole array.pairs
    pub among : IsIn d.spot (made_spots in_block.decls)
    pub arrayed : IsMade (made_of in_block.decls) (made_cells (number_at blocks in_block.spot) in_block.decls) name d.spot (an_array array)
    pub lows : lows_declared in_block.decls d.spot ≡ own_lows array.pairs
    pub other : name_is_one_of (result_names_of (block_numbered blocks d.block)) name ≡ false
    pub past : AllByRecursion (λ (x : Simple). same_name x.name name ≡ false) (given_cells in_block)
    pub simple : AllByRecursion (λ (x : Simple). same_name x.name name ≡ false) (variables in_block.decls)

  -- The declaration is that of a parameter by name of this kind, in a block of the program.
  pub record IsName (depth : ℕ) (name : List ℕ) (d : Declared) (kind : Kind) : Type 0 where
    pub in_block : Block
    pub there : IsIn in_block blocks
    pub class_is : d.class ≡ class.simple kind
    pub sort_is : d.sort ≡ sort.by_name
    pub block_is : d.block ≡ number_at blocks in_block.spot
    pub depth_is : d.depth ≡ length in_block.outer
    pub within : d.depth ≤ depth
    pub place : IsParameterOf in_block name d (by_name kind)

  -- The declaration is that of a parameter of this shape, which stands for an array, in a block of the program.
  pub record IsFormal (depth : ℕ) (name : List ℕ) (d : Declared) (shape : Shape) : Type 0 where
    pub in_block : Block
    pub there : IsIn in_block blocks
    pub class_is : d.class ≡ class.array shape.kind (length shape.lows)
    pub sort_is : d.sort ≡ sort.formal_array shape.lows
    pub block_is : d.block ≡ number_at blocks in_block.spot
    pub depth_is : d.depth ≡ length in_block.outer
    pub within : d.depth ≤ depth
    pub dimensions : HaveDimensions shape.lows
    pub place : IsParameterOf in_block name d (array_of shape)

  -- The declaration is that of an event or of a task, in a block of the program. The block has no simple cell of that name.
  pub record IsEvented (depth : ℕ) (name : List ℕ) (d : Declared) : Type 0 where
    pub in_block : Block
    pub there : IsIn in_block blocks
    pub class_is : IsEventful d.class
    pub sort_is : d.sort ≡ sort.event
    pub block_is : d.block ≡ number_at blocks in_block.spot
    pub depth_is : d.depth ≡ length in_block.outer
    pub within : d.depth ≤ depth
    pub among : IsIn d.spot (made_spots in_block.decls)
    pub made : IsMade (made_of in_block.decls) (made_cells (number_at blocks in_block.spot) in_block.decls) name d.spot (an_event name)
    pub other : name_is_one_of (result_names_of (block_numbered blocks d.block)) name ≡ false
    pub past : AllByRecursion (λ (x : Simple). same_name x.name name ≡ false) (given_cells in_block)
    pub simple : AllByRecursion (λ (x : Simple). same_name x.name name ≡ false) (variables in_block.decls)

  -- The declaration is that of a parameter that stands for an event, in a block of the program.
  pub record IsFormalEvent (depth : ℕ) (name : List ℕ) (d : Declared) : Type 0 where
    pub in_block : Block
    pub there : IsIn in_block blocks
    pub class_is : d.class ≡ class.event
    pub sort_is : d.sort ≡ sort.formal_event
    pub block_is : d.block ≡ number_at blocks in_block.spot
    pub depth_is : d.depth ≡ length in_block.outer
    pub within : d.depth ≤ depth
    pub place : IsParameterOf in_block name d event_of

  -- The declaration is that of a label, in a block of the program.
  pub record IsLabelled (depth : ℕ) (name : List ℕ) (d : Declared) : Type 0 where
    pub in_block : Block
    pub there : IsIn in_block blocks
    pub class_is : d.class ≡ class.label
    pub sort_is : d.sort ≡ sort.label
    pub block_is : d.block ≡ number_at blocks in_block.spot
    pub depth_is : d.depth ≡ length in_block.outer
    pub within : d.depth ≤ depth
    pub name_is : d.name ≡ name
    pub one : Named
    pub one_name : one.name ≡ name
    pub one_spot : one.spot ≡ d.spot
    pub among : IsIn one (labels_in in_block.decls)

  -- The declaration is that of a procedure with this heading and body, in a block of the program.
  pub record IsOwned (depth : ℕ) (name : List ℕ) (d : Declared) (h : Heading) : Type 0 where
    pub in_block : Block
    pub there : IsIn in_block blocks
    pub body : PStmt
    pub body_there : IsIn (procedure_block h body (in_block.spot ∷ in_block.outer)) blocks
    pub built : HeadingSpecified h
    pub once : twice_in_heading h ≡ []
    pub cells_are : parameters_around blocks (in_block.spot ∷ in_block.outer) h.name.spot ≡ parameters_in h
    pub named_are : named_around blocks (in_block.spot ∷ in_block.outer) h.name.spot ≡ h.params
    pub named : same_name h.name.name name ≡ true
    pub among : IsIn h (headings in_block.decls)
    pub class_is : d.class ≡ class.procedure h
    pub sort_is : d.sort ≡ sort.procedure (number_at blocks h.name.spot)
    pub spot_is : d.spot ≡ h.name.spot
    pub block_is : d.block ≡ number_at blocks in_block.spot
    pub depth_is : d.depth ≡ length in_block.outer
    pub within : d.depth ≤ depth

  pub data IsKnown (depth : ℕ) (name : List ℕ) (d : Declared) : Type 0 where
    known_file : d.class ≡ class.file → d.sort ≡ sort.file → IsKnown depth name d
    known_variable : (kind : Kind) → IsHeld depth name d kind → IsKnown depth name d
    known_name : (kind : Kind) → IsName depth name d kind → IsKnown depth name d
    known_array : (kind : Kind) (rank : ℕ) → IsRowed depth name d kind rank → IsKnown depth name d
    known_formal : (shape : Shape) → IsFormal depth name d shape → IsKnown depth name d
    known_event : IsEvented depth name d → IsKnown depth name d
    known_formal_event : IsFormalEvent depth name d → IsKnown depth name d
    known_label : IsLabelled depth name d → IsKnown depth name d
    known_procedure : (h : Heading) → IsOwned depth name d h → IsKnown depth name d

  pub record Around (a : Surroundings) : Type 0 where
    pub each : (name : List ℕ) (d : Declared) → look_up a.known name ≡ Some d → IsKnown a.depth name d

  -- these spots are those of blocks around one another, the innermost first
  abbrev pub AreAround : List Spot → Type 0
  AreAround [] = Unit {0}
  AreAround (spot ∷ spots) = ((b : Block) × IsIn b blocks × (b.spot ≡ spot) × (b.outer ≡ spots)) × AreAround spots

  -- the place is in this block of the program
  pub record Stands (b : Block) (a : Surroundings) : Type 0 where
    pub there : IsIn b blocks
    pub block_is : a.block ≡ number_at blocks b.spot
    pub depth_is : a.depth ≡ length b.outer
    pub outer : AreAround b.outer
    pub around : Around a

  pub around_outermost : Around outermost
  around_outermost = record { each = λ name d h. absurd (let clash : None ≡ Some d = h in cc) }

  -- more that is known in front
  pub around_with : (a : Surroundings) (new : List Declared) → Around a → ((name : List ℕ) (d : Declared) → look_up new name ≡ Some d → IsKnown a.depth name d) →
      Around (record a { known = new ++ a.known })
  around_with a new g f = record { each = λ name d h. by name d (found_either new a.known name d h) }
    where
      by : (name : List ℕ) (d : Declared) → (look_up new name ≡ Some d) ⊎ (look_up a.known name ≡ Some d) → IsKnown a.depth name d
      by name d (inl h) = f name d h
      by name d (inr h) = g.each name d h

  deeper : (depth more : ℕ) (name : List ℕ) (d : Declared) → depth ≤ more → IsKnown depth name d → IsKnown more name d
  deeper depth more name d l (known_file c s) = known_file c s
  deeper depth more name d l (known_variable kind h) =
      known_variable kind (record {
        in_block = h.in_block;
        there = h.there;
        class_is = h.class_is;
        sort_is = h.sort_is;
        block_is = h.block_is;
        depth_is = h.depth_is;
        within = omega (arith, l, h.within);
        place = h.place;
      })
  deeper depth more name d l (known_name kind h) =
      known_name kind (record {
        in_block = h.in_block;
        there = h.there;
        class_is = h.class_is;
        sort_is = h.sort_is;
        block_is = h.block_is;
        depth_is = h.depth_is;
        within = omega (arith, l, h.within);
        place = h.place;
      })
  deeper depth more name d l (known_array kind rank h) =
      known_array kind rank (record {
        in_block = h.in_block;
        there = h.there;
        class_is = h.class_is;
        sort_is = h.sort_is;
        block_is = h.block_is;
        depth_is = h.depth_is;
        within = omega (arith, l, h.within);
        array = h.array;
        kind_is = h.kind_is;
        rank_is = h.rank_is;
        dimensions = h.dimensions;
        whole = h.whole;
        among = h.among;
        arrayed = h.arrayed;
        lows = h.lows;
        other = h.other;
        past = h.past;
        simple = h.simple;
      })
  deeper depth more name d l (known_formal shape h) =
      known_formal shape (record {
        in_block = h.in_block;
        there = h.there;
        class_is = h.class_is;
        sort_is = h.sort_is;
        block_is = h.block_is;
        depth_is = h.depth_is;
        within = omega (arith, l, h.within);
        dimensions = h.dimensions;
        place = h.place;
      })
  deeper depth more name d l (known_event h) =
      known_event (record {
        in_block = h.in_block;
        there = h.there;
        class_is = h.class_is;
        sort_is = h.sort_is;
        block_is = h.block_is;
        depth_is = h.depth_is;
        within = omega (arith, l, h.within);
        among = h.among;
        made = h.made;
        other = h.other;
        past = h.past;
        simple = h.simple;
      })
  deeper depth more name d l (known_formal_event h) =
      known_formal_event (record {
        in_block = h.in_block;
        there = h.there;
        class_is = h.class_is;
        sort_is = h.sort_is;
        block_is = h.block_is;
        depth_is = h.depth_is;
        within = omega (arith, l, h.within);
        place = h.place;
      })
  deeper depth more name d l (known_label h) =
      known_label (record {
        in_block = h.in_block;
        there = h.there;
        class_is = h.class_is;
        sort_is = h.sort_is;
        block_is = h.block_is;
        depth_is = h.depth_is;
        within = omega (arith, l, h.within);
        name_is = h.name_is;
        one = h.one;
        one_name = h.one_name;
        one_spot = h.one_spot;
        among = h.among;
      })
  deeper depth more name d l (known_procedure heading h) =
      known_procedure heading (record {
        in_block = h.in_block;
        there = h.there;
        body = h.body;
        body_there = h.body_there;
        built = h.built;
        once = h.once;
        cells_are = h.cells_are;
        named_are = h.named_are;
        named = h.named;
        among = h.among;
        class_is = h.class_is;
        sort_is = h.sort_is;
        spot_is = h.spot_is;
        block_is = h.block_is;
        depth_is = h.depth_is;
        within = omega (arith, l, h.within);
      })

  -- an inner block knows at its begin what is known around it
  pub around_inner : (a : Surroundings) (block : ℕ) → Around a → Around (record { block = block; depth = a.depth + 1; known = a.known })
  around_inner a block g = record { each = λ name d h. deeper a.depth (a.depth + 1) name d (omega arith) (g.each name d h) }

  -- what stands in a block inside this one
  pub stands_inner : (b c : Block) (a : Surroundings) → Stands b a → IsIn c blocks → c.outer ≡ b.spot ∷ b.outer → Stands c (record { block = number_at blocks c.spot; depth = a.depth + 1; known = a.known })
  stands_inner b c a s i e =
      record {
        there = i;
        block_is = refl;
        depth_is = subst (λ (o : List Spot). a.depth + 1 ≡ length o) (sym e) (let same : a.depth + 1 ≡ length (b.spot ∷ b.outer) = omega (arith, s.depth_is) in same);
        outer = subst AreAround (sym e) ((b, s.there, refl, refl), s.outer);
        around = around_inner a (number_at blocks c.spot) s.around;
      }

  -- the lower bounds of the procedure's parameters are found among the declarations of the block
  abbrev pub HasLows : Block → Heading → Type 0
  HasLows b h = (s : Spot) → IsIn s (spots_of_names h.params) → lows_declared b.decls s ≡ lows_among h.specs h.params s

  pub stands_procedure : (b : Block) (h : Heading) (body : PStmt) (a : Surroundings) → Stands b a → HeadingSpecified h → SpecsWhole h → IsIn h (headings b.decls) → HasLows b h → Apart (spots_of_names h.params) →
      parameters_around blocks (b.spot ∷ b.outer) h.name.spot ≡ parameters_in h → named_around blocks (b.spot ∷ b.outer) h.name.spot ≡ h.params →
      IsIn (procedure_block h body (b.spot ∷ b.outer)) blocks → Stands (procedure_block h body (b.spot ∷ b.outer)) (inside_procedure blocks h a)
  stands_procedure b h body a s u w m l p e f i =
      record {
        there = inner.there;
        block_is = refl;
        depth_is = inner.depth_is;
        outer = inner.outer;
        around = around_with (record { block = k; depth = a.depth + 1; known = a.known }) (declared_parameters k (a.depth + 1) h) inner.around found;
      }
    where
      c : Block
      c = procedure_block h body (b.spot ∷ b.outer)

      k : ℕ
      k = number_at blocks h.name.spot

      inner : Stands c (record { block = k; depth = a.depth + 1; known = a.known })
      inner = stands_inner b c a s i refl

      parameter : (name : List ℕ) (d : Declared) (r : IsGiven k (a.depth + 1) h h.params name d) → IsParameterOf c name d r.wanted
      parameter name d r =
          record {
            among = subst (λ (ns : List Named). IsIn d.spot (spots_of_names ns)) (sym f) r.inside;
            aligned =
                subst (λ (xs : List Simple). Aligned xs (given_places c) name d.spot r.wanted) (sym e)
                (subst (λ (ns : List Named). Aligned (parameters_in h) (cells_for k cells.parameter ns) name d.spot r.wanted) (sym f) r.aligned);
            owner = b;
            owner_there = s.there;
            heading = h;
            heading_there = m;
            inside = r.inside;
            lows = l d.spot r.inside ∙ r.lows;
          }

      known : (name : List ℕ) (d : Declared) (wanted : Wanted) → IsParameter k (a.depth + 1) h d wanted → d.block ≡ k → d.depth ≡ a.depth + 1 → IsParameterOf c name d wanted → IsKnown (a.depth + 1) name d
      known name d wanted (by_value kind class_is sort_is) block_is depth_is place =
          known_variable kind (record {
            in_block = c;
            there = i;
            class_is = class_is;
            sort_is = sort_is;
            block_is = block_is;
            depth_is = depth_is ∙ inner.depth_is;
            within = omega (arith, depth_is);
            place = inr place;
          })
      known name d wanted (as_one kind class_is sort_is) block_is depth_is place =
          known_name kind (record {
            in_block = c;
            there = i;
            class_is = class_is;
            sort_is = sort_is;
            block_is = block_is;
            depth_is = depth_is ∙ inner.depth_is;
            within = omega (arith, depth_is);
            place = place;
          })
      known name d wanted (given_event class_is sort_is) block_is depth_is place =
          known_formal_event (record {
            in_block = c;
            there = i;
            class_is = class_is;
            sort_is = sort_is;
            block_is = block_is;
            depth_is = depth_is ∙ inner.depth_is;
            within = omega (arith, depth_is);
            place = place;
          })
      known name d wanted (given_array shape class_is sort_is dimensions) block_is depth_is place =
          known_formal shape (record {
            in_block = c;
            there = i;
            class_is = class_is;
            sort_is = sort_is;
            block_is = block_is;
            depth_is = depth_is ∙ inner.depth_is;
            within = omega (arith, depth_is);
            dimensions = dimensions;
            place = place;
          })

      found : (name : List ℕ) (d : Declared) → look_up (declared_parameters k (a.depth + 1) h) name ≡ Some d → IsKnown (a.depth + 1) name d
      found name d g =
          let r = given k (a.depth + 1) h h.params (specified h u) w p name d g in
          known name d r.wanted r.parameter r.block_is r.depth_is (parameter name d r)

  eventful_plain : (c : Class) → IsEventful c → IsPlain c
  eventful_plain c (inl e) = subst IsPlain (sym e) event
  eventful_plain c (inr e) = subst IsPlain (sym e) task

  plain_class : (depth : ℕ) (name : List ℕ) (d : Declared) → IsKnown depth name d → IsPlain d.class
  plain_class depth name d (known_file c s) = subst IsPlain (sym c) file
  plain_class depth name d (known_variable k h) = subst IsPlain (sym h.class_is) (simple k)
  plain_class depth name d (known_name k h) = subst IsPlain (sym h.class_is) (simple k)
  plain_class depth name d (known_array k rank h) = subst IsPlain (sym h.class_is) (array k rank)
  plain_class depth name d (known_formal shape h) = subst IsPlain (sym h.class_is) (array shape.kind (length shape.lows))
  plain_class depth name d (known_event h) = eventful_plain d.class h.class_is
  plain_class depth name d (known_formal_event h) = subst IsPlain (sym h.class_is) event
  plain_class depth name d (known_label h) = subst IsPlain (sym h.class_is) label
  plain_class depth name d (known_procedure g h) = subst IsPlain (sym h.class_is) (procedure g h.built)

  pub knows_plain : (a : Surroundings) → Around a → KnowsPlain a
  knows_plain a g = record { each = λ name d h. plain_class a.depth name d (g.each name d h) }
