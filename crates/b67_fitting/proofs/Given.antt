-- The parameters of a procedure as its body knows them: each has the same number by its name as by its place.
use Rattle.std.proofs.Common.{◌≡◌, inl, inr, ℕ, ◌+◌, Bool, true, false, List, [], ◌∷◌, ◌++◌, map, length, Option, Some, None, refl, sym, ap, ◌∙◌, subst, if◌then◌else◌}
use Rattle.algol_tree.specs.declared.token.Spot.{Spot}
use Rattle.algol_tree.specs.declared.tree.Heading.{Heading}
use Rattle.algol_tree.specs.declared.tree.Kind.{Kind}
use Rattle.algol_tree.specs.declared.tree.Named.{Named}
use Rattle.algol_tree.specs.Ascending.{spots_of_names, spots_of_decl, spots_of_decls}
use Rattle.algol_tree.specs.Blocks.{Block, block_numbered, number_at}
use Rattle.algol_tree.specs.Cells as cells
use Rattle.algol_tree.specs.Cells.{Cell, cells_for, index_from}
use Rattle.algol_tree.specs.Classes as class
use Rattle.algol_tree.specs.Plain as tree
use Rattle.algol_tree.specs.Plain.{PStmt, PDecl, PDecls}
use Rattle.algol_tree.specs.Sorts as sort
use Rattle.algol_tree.specs.Sorts.{same_name, Declared, look_up, is_named_in, sort_in, class_in}
use Rattle.algol_tree.proofs.Spots.{same_spot_itself}
use Rattle.algol_paths.specs.Arrays.{Shape, Lows, shape_in, lows_in_shape, lows_among}
use Rattle.b67_templates.specs.Cells.{Simple, Wanted, value, by_name, array, event, found_from, parameters_around}
use Rattle.b67_fitting.specs.Wholes.{HaveDimensions}
use Rattle.b67_fitting.specs.Typing.{SpecsWhole}
use Rattle.b67_fitting.proofs.Aligned.{Aligned, aligned_over}
use Rattle.b67_fitting.proofs.Apart.{IsIn, each_in, in_back, IsApart, Apart, apart_from}
use Rattle.b67_fitting.proofs.Frames.{named_declared, named_around, named_of}
use Rattle.b67_fitting.proofs.Wanting.{wanted_of, wanted_value, wanted_name, wanted_array, wanted_event}
use Rattle.b67_fitting.proofs.Specified.{IsSpecified, as_value, as_name, as_array, as_event, AreSpecified, no_shape, dimensions_in}

-- ---- what is known of them

abbrev pub cell_of : Heading → Named → Simple
cell_of h n = record { name = n.name; wanted = wanted_of h n }

-- what is wanted of such parameters
abbrev pub wants_in : Heading → List Named → List Wanted
wants_in h ns = map (λ (c : Simple). c.wanted) (map (cell_of h) ns)

-- the lower bounds of such a parameter
abbrev pub lows_wanted : Wanted → Option Lows
lows_wanted (array shape) = Some (record { list = shape.lows; formal = true })
lows_wanted _ = None

module _ (block depth : ℕ) (h : Heading) where
  abbrev entry : Named → Declared
  entry n =
      record { name = n.name; spot = n.spot; block = block; depth = depth; sort = sort_in h.specs (is_named_in h.values n.name) n.name; class = class_in h.specs n.name }

  -- a simple parameter has a kind, an array the lower bounds of its specification
  pub data IsParameter (d : Declared) : Wanted → Type 0 where
    by_value : (kind : Kind) → d.class ≡ class.simple kind → d.sort ≡ sort.variable → IsParameter d (value kind)
    as_one : (kind : Kind) → d.class ≡ class.simple kind → d.sort ≡ sort.by_name → IsParameter d (by_name kind)
    an_array : (shape : Shape) → d.class ≡ class.array shape.kind (length shape.lows) → d.sort ≡ sort.formal_array shape.lows → HaveDimensions shape.lows → IsParameter d (array shape)
    an_event : d.class ≡ class.event → d.sort ≡ sort.formal_event → IsParameter d event

  pub record IsGiven (ns : List Named) (name : List ℕ) (d : Declared) : Type 0 where
    pub wanted : Wanted
    pub parameter : IsParameter d wanted
    pub block_is : d.block ≡ block
    pub depth_is : d.depth ≡ depth
    pub inside : IsIn d.spot (spots_of_names ns)
    pub lows : lows_among h.specs ns d.spot ≡ lows_wanted wanted
    pub aligned : Aligned (map (cell_of h) ns) (cells_for block cells.parameter ns) name d.spot wanted

  one_parameter : (n : Named) → IsSpecified h n → SpecsWhole h → IsParameter (entry n) (wanted_of h n)
  one_parameter n (as_value kind c v s) w = subst (IsParameter (entry n)) (sym (wanted_value h n kind c v)) (by_value kind c s)
  one_parameter n (as_name kind c v s) w = subst (IsParameter (entry n)) (sym (wanted_name h n kind c v)) (as_one kind c s)
  one_parameter n (as_array shape c e s) w =
      subst (IsParameter (entry n)) (sym (wanted_array h n shape c e)) (an_array shape c s (dimensions_in h.specs n.name shape w e))
  one_parameter n (as_event c e s) w = subst (IsParameter (entry n)) (sym (wanted_event h n c)) (an_event c s)

  one_lows : (n : Named) → IsSpecified h n → lows_in_shape (shape_in h.specs n.name) ≡ lows_wanted (wanted_of h n)
  one_lows n (as_value kind c v s) = ap lows_in_shape (no_shape h.specs n.name kind c) ∙ sym (ap lows_wanted (wanted_value h n kind c v))
  one_lows n (as_name kind c v s) = ap lows_in_shape (no_shape h.specs n.name kind c) ∙ sym (ap lows_wanted (wanted_name h n kind c v))
  one_lows n (as_array shape c e s) = ap lows_in_shape e ∙ sym (ap lows_wanted (wanted_array h n shape c e))
  one_lows n (as_event c e s) = ap lows_in_shape e ∙ sym (ap lows_wanted (wanted_event h n c))

  pub given : (ns : List Named) → AreSpecified h ns → SpecsWhole h → Apart (spots_of_names ns) → (name : List ℕ) (d : Declared) → look_up (map entry ns) name ≡ Some d → IsGiven ns name d
  given [] v w p name d g = absurd (let clash : None ≡ Some d = g in cc)
  given (n ∷ ns) v w p name d g = by (same_name n.name name) refl (given ns v.1 w p.1 name d) g
    where
      cell : Cell
      cell = record { block = block; spot = n.spot; content = cells.parameter }

      by : (b : Bool) → same_name n.name name ≡ b → (look_up (map entry ns) name ≡ Some d → IsGiven ns name d) → (if b then Some (entry n) else look_up (map entry ns) name) ≡ Some d →
          IsGiven (n ∷ ns) name d
      by true e later f =
          let same : entry n ≡ d = cc in
          subst (λ (z : Declared). IsGiven (n ∷ ns) name z) same
          (record {
            wanted = wanted_of h n;
            parameter = one_parameter n v.0 w;
            block_is = refl;
            depth_is = refl;
            inside = inl refl;
            lows = ap (λ (b : Bool). if b then lows_in_shape (shape_in h.specs n.name) else lows_among h.specs ns n.spot) (same_spot_itself n.spot) ∙ one_lows n v.0;
            aligned =
                λ i j q.
                record {
                  number = i;
                  cell = cell_of h n;
                  found = ap (λ (b : Bool). if b then Some (record { number = i; cell = cell_of h n }) else found_from (i + 1) (map (cell_of h) ns) name) e;
                  wanted_is = refl;
                  index = ap (λ (b : Bool). if b then Some j else index_from (j + 1) (cells_for block cells.parameter ns) n.spot) (same_spot_itself n.spot) ∙ ap Some q;
                };
          })
      by false e later f =
          let r = later f in
          let far : IsApart n.spot d.spot = each_in (IsApart n.spot) d.spot (spots_of_names ns) p.0 r.inside in
          record {
            wanted = r.wanted;
            parameter = r.parameter;
            block_is = r.block_is;
            depth_is = r.depth_is;
            inside = inr r.inside;
            lows = ap (λ (b : Bool). if b then lows_in_shape (shape_in h.specs n.name) else lows_among h.specs ns d.spot) far ∙ r.lows;
            aligned =
                aligned_over (cell_of h n ∷ []) (map (cell_of h) ns) (cell ∷ []) (cells_for block cells.parameter ns) name d.spot r.wanted (e, far, tt) r.aligned;
          }

-- ---- where their names are found

abbrev pub AreLastNamed : PDecls → PDecls → Type 0
AreLastNamed all ds = (s : Spot) → IsIn s (spots_of_decls ds) → named_declared all s ≡ named_declared ds s

pub last_named : (all : PDecls) (d : PDecl) (ds : PDecls) → Apart (spots_of_decl d ++ spots_of_decls ds) → AreLastNamed all (tree.decls d ds) → AreLastNamed all ds
last_named all (tree.procedure g t) ds p l =
    λ s i. l s (in_back s (spots_of_decl (tree.procedure g t)) (spots_of_decls ds) i)
    ∙ ap (λ (b : Bool). if b then g.params else named_declared ds s) ((apart_from (spots_of_decl (tree.procedure g t)) (spots_of_decls ds) s p i).0)
last_named all d ds p l = λ s i. l s (in_back s (spots_of_decl d) (spots_of_decls ds) i)

pub found_named : (all : PDecls) (g : Heading) (ds : PDecls) (t : PStmt) → AreLastNamed all (tree.decls (tree.procedure g t) ds) → named_declared all g.name.spot ≡ g.params
found_named all g ds t l = l g.name.spot (inl refl) ∙ ap (λ (b : Bool). if b then g.params else named_declared ds g.name.spot) (same_spot_itself g.name.spot)

pub named_is : (blocks : List Block) (c : Block) (s : Spot) → block_numbered blocks (number_at blocks c.spot) ≡ c → named_around blocks (c.spot ∷ c.outer) s ≡ named_declared c.decls s
named_is blocks c s e = ap (λ (z : Block). named_declared z.decls s) e

-- ---- all blocks

-- Each block of the program has its number by its place, and without parameters no heading with parameters is found for it.
pub record AreWhole (blocks : List Block) : Type 0 where
  pub numbered : (b : Block) → IsIn b blocks → block_numbered blocks (number_at blocks b.spot) ≡ b
  pub no_cells : (b : Block) → IsIn b blocks → b.parameters ≡ [] → parameters_around blocks b.outer b.spot ≡ []
  pub no_names : (b : Block) → IsIn b blocks → b.parameters ≡ [] → named_of blocks b ≡ []
