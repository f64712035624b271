-- The frames of a process's parts after a store into a cell of one of them: of a variable, whose word in the stack is another one, or of an
-- array, whose word stays.
use Rattle.std.proofs.Common.{◌≡◌, ◌≢◌, ◌⊎◌, inl, inr, refl, sym, ap, ◌∙◌, subst, ℕ, zero, suc, ◌+◌, ◌<◌, ◌≤◌, List, [], ◌∷◌, ◌++◌, length, Option, Some, None, false, arith, length-append, Bool, true}
use Rattle.b67_list.proofs.Lists.{length_set}
use Rattle.b67_list.proofs.Numbered.{numbered_set}
use Rattle.b67_scenes.proofs.Prelude.{slice_get, slice_set, reverse, if◌then◌else◌, numbered, block_numbered, level_of, PProgram, Scopes, scopes_of, same_name, resume, is_evaluation, Cell, NamedCell, Instance, Part, World, instance_at, or_no_instance, with_instance, ancestor, cells_with, Made, KeepsToText, segment_of, IsInSkeleton, referred_in_cells, IsStanding, IsOnPath, IsOwn, newest_own, Word, Place, Code, place, Simple, Wanted, simple_cells, actuals_of, made_of, in_routine, Yields, yields_of, Texts, context_of, ComesTo, Known, newest, SlotsAre, control_words, some_same, parts_weight, same_or_not, numbered_other, HasFacts, IsStandingOrNone, KeepsArrays, Remain, keeps_same, denotes_lasts, Lies, lies_low, lies_around, StayBelow, around_stays, owned_frame, frame_gives, runs_at, as_many_values, StandOn, home_on, Allotted, Layout, AreMade, AreKnown, CellsAre, block_controls, most_around, IsInReach, home_of, Framed, RoutinesStand, ItemsStand, Frame, Waits, Around, Owned, Shape, of_own, of_lent, run_level}
use Rattle.algol_meaning.specs.Rest.{Answer}
use Rattle.b67_standing.specs.Standing.{Gives, pushed}
use Rattle.b67_frames.specs.Frames.{context_at, text_of_part, level_of_part, most_of}
use Rattle.b67_frames.proofs.Knowing.{HasReferred, has_reference, has_actual, referred_denoted, known_lasts, climbs_all}
use Rattle.b67_frames.proofs.Variables.{HasNoValue, ReferencesStay}
use Rattle.b67_frames.proofs.Lying.{below_frame}
use Rattle.b67_scenes.proofs.Ancestors.{AreLaid}
use Rattle.b67_scenes.proofs.Staying.{most_in, IsAsHeavy, same_weight}
use Rattle.algol_standing.specs.Skeleton as skeletons

-- ---- lists

-- another item in the first part of a list, or in the second
pub set_first : {A : Type 0} (first second : List A) (k : ℕ) (y : A) → k < length first → slice_set (first ++ second) k y ≡ slice_set first k y ++ second
set_first [] second k y low = absurd (omega (arith, low))
set_first (z ∷ zs) second zero y low = refl
set_first (z ∷ zs) second (suc k) y low = ap (λ (xs : List _). z ∷ xs) (set_first zs second k y (omega (arith, low)))

pub set_second : {A : Type 0} (first second : List A) (k n : ℕ) (y : A) → k ≡ length first + n → slice_set (first ++ second) k y ≡ first ++ slice_set second n y
set_second [] second k n y e = ap (λ (m : ℕ). slice_set second m y) (omega (arith, e))
set_second (z ∷ zs) second zero n y e = absurd (omega (arith, e))
set_second (z ∷ zs) second (suc k) n y e = ap (λ (xs : List _). z ∷ xs) (set_second zs second k n y (omega (arith, e)))

-- a word is stored in the stack, or none
abbrev pub IsStored : Option Word → Type 0
IsStored None = ⊥
IsStored (Some x) = Unit {0}

abbrev pub put : Option Word → List Word → ℕ → List Word
put None words k = words
put (Some x) words k = slice_set words k x

pub length_put : (o : Option Word) (words : List Word) (k : ℕ) → length (put o words k) ≡ length words
length_put None words k = refl
length_put (Some x) words k = length_set words k x

pub put_first : (o : Option Word) (first second : List Word) (k : ℕ) → (IsStored o → k < length first) → put o (first ++ second) k ≡ put o first k ++ second
put_first None first second k low = refl
put_first (Some x) first second k low = set_first first second k x (low tt)

put_second : (o : Option Word) (first second : List Word) (k n : ℕ) → k ≡ length first + n → put o (first ++ second) k ≡ first ++ put o second n
put_second None first second k n e = refl
put_second (Some x) first second k n e = set_second first second k n x e

put_cells : (o : Option Word) (mark control : Word) (cells : List Word) (n : ℕ) → put o (mark ∷ control ∷ cells) (suc (suc n)) ≡ mark ∷ control ∷ put o cells n
put_cells None mark control cells n = refl
put_cells (Some x) mark control cells n = refl

-- with another cell under a name there are as many
pub length_cells : (cells : List NamedCell) (name : List ℕ) (c : Cell) → length (cells_with cells name c) ≡ length cells
length_cells [] name c = refl
length_cells (x ∷ cells) name c = by_name (same_name x.name name) (length_cells cells name c)
  where
    by_name : (b : Bool) → length (cells_with cells name c) ≡ length cells → length (if b then record x { cell = c } ∷ cells else x ∷ cells_with cells name c) ≡ suc (length cells)
    by_name true e = refl
    by_name false e = ap suc e

-- ---- the world after a store in a cell of an instance

-- where parents stay, static parents do
pub same_ancestors : (w w' : World) → ((j : ℕ) → (instance_at w j).parent ≡ (instance_at w' j).parent) → (up j : ℕ) → ancestor w up j ≡ ancestor w' up j
same_ancestors w w' parents zero j = refl
same_ancestors w w' parents (suc up) j = same_ancestors w w' parents up ((instance_at w j).parent) ∙ ap (λ (k : ℕ). ancestor w' up k) (parents j)

module _ (w : World) (i : ℕ) (x : Instance) (at : numbered w.instances i ≡ Some x) (cells : List NamedCell) where
  abbrev pub changed : Instance
  changed = record x { cells = cells }

  abbrev pub stored_world : World
  stored_world = with_instance w i changed

  pub changed_at : numbered stored_world.instances i ≡ Some changed
  changed_at = numbered_set w.instances i x changed at

  pub others_at : (j : ℕ) → j ≢ i → numbered stored_world.instances j ≡ numbered w.instances j
  others_at j apart = numbered_other w.instances i j changed (λ e. apart (sym e))

  -- what does not look at the cells is the same of each instance
  pub same_of : {A : Type 0} (f : Instance → A) → f changed ≡ f x → (j : ℕ) → f (instance_at w j) ≡ f (instance_at stored_world j)
  same_of f same j = by_number (same_or_not j i)
    where
      by_number : (j ≡ i) ⊎ (j ≢ i) → f (instance_at w j) ≡ f (instance_at stored_world j)
      by_number (inl e) =
          ap (λ (k : ℕ). f (instance_at w k)) e
          ∙ ap (λ (o : Option Instance). f (or_no_instance o)) at
          ∙ sym same
          ∙ ap (λ (o : Option Instance). f (or_no_instance o)) (sym changed_at)
          ∙ ap (λ (k : ℕ). f (instance_at stored_world k)) (sym e)
      by_number (inr n) = ap (λ (o : Option Instance). f (or_no_instance o)) (sym (others_at j n))

  -- with as many cells nothing weighs more or less
  pub as_heavy : length cells ≡ length x.cells → (j : ℕ) → IsAsHeavy w stored_world j
  as_heavy many j =
      record {
        block = sym (same_of (λ (y : Instance). y.block) refl j);
        cells = sym (same_of (λ (y : Instance). length y.cells) many j);
      }

-- ---- the frames after it

-- what a parameter's cell stands for is no value
no_value : {wanted : Wanted} {c : Cell} → HasReferred wanted c → HasNoValue c
no_value (has_reference r e) = subst HasNoValue (sym e) tt
no_value (has_actual kind a wanted e) = subst HasNoValue (sym e) tt

-- The cells of an instance after it: the words of the simple cells are these, references stay, and the arrays have their descriptors and
-- rows. Before they were those cells, with those words.
pub record ChangedCells (ss : List Simple) (rows : List Allotted) (cells before : List NamedCell) (words values : List Word) (declared : List Made) (descriptors : List Word) : Type 0 where
  pub simple : List NamedCell
  pub arrays : List NamedCell
  pub references : ReferencesStay before words simple values
  pub simple_are : CellsAre ss simple values
  pub made : AreMade declared arrays rows descriptors
  pub has : cells ≡ simple ++ arrays

-- The instance's frame lies so high in the stack of process p. A word that is stored lies so far above the frame's two words, at the place k.
-- What is stored: the instance, whose frame lies so high in the stack of process p, has these cells after it. A word that is stored lies so far
-- above the two words of the frame.
pub record CellStore (tree : PProgram) (w : World) (lay : Layout) (p : ℕ) : Type 0 where
  pub i : ℕ
  pub x : Instance
  pub at : numbered w.instances i ≡ Some x
  pub with_cells : List NamedCell
  pub high : ℕ
  pub laid : numbered lay.places i ≡ Some (place p high)
  pub far : ℕ
  pub up : ℕ
  pub place_is : up ≡ high + 2 + far
  pub word : Option Word
  pub many : length with_cells ≡ length x.cells
  pub short : IsStored word → far < length (simple_cells (scopes_of tree) (block_numbered (scopes_of tree).blocks x.block))
  pub keeps : KeepsArrays (scopes_of tree) w (stored_world w i x at with_cells) lay lay i
  pub facts : HasFacts w
  pub fewer : (r : ℕ) → IsInSkeleton (referred_in_cells with_cells) r → IsInSkeleton (referred_in_cells x.cells) r
  pub changes : (simple : List NamedCell) (values : List Word) (arrays : List NamedCell) (declared : List Made) (descriptors : List Word) → CellsAre (simple_cells (scopes_of tree) (block_numbered (scopes_of tree).blocks x.block)) simple values → AreMade declared arrays (lay.rows i) descriptors → x.cells ≡ simple ++ arrays → ChangedCells (simple_cells (scopes_of tree) (block_numbered (scopes_of tree).blocks x.block)) (lay.rows i) with_cells simple values (put word values far) declared descriptors

module _ (tree : PProgram) (code : Code) (texts : Texts) (w : World) (lay : Layout) (p : ℕ) (store : CellStore tree w lay p) where
  open store use {i, x, at, with_cells, high, laid, far, up as k, place_is, word, many, short, keeps, facts, fewer, changes}

  abbrev sc : Scopes
  sc = scopes_of tree

  abbrev w' : World
  w' = stored_world w i x at with_cells

  abbrev ss : List Simple
  ss = simple_cells sc (block_numbered sc.blocks x.block)

  abbrev Before : Part → List Part → List Word → Type 0
  Before part outer words = Frame tree code texts w lay p part outer words

  same_height : (m n : ℕ) → Some (place p m) ≡ Some (place p n) → m ≡ n
  same_height m n e = ap (λ (f : Place). f.at) (some_same e)

  abbrev OwnedBefore : Part → List Part → ℕ → Word → Word → List Word → Type 0
  OwnedBefore part outer low m c cells = Owned tree code texts w lay p part outer low m c cells

  -- a frame of the instance lies there
  frame_high : (part : Part) (outer : List Part) (low : ℕ) (m c : Word) (cells : List Word) (o : OwnedBefore part outer low m c cells) → part.instance ≡ i → low ≡ high
  frame_high part outer low m c cells o e = same_height low high (sym o.framed.laid ∙ ap (λ (j : ℕ). numbered lay.places j) e ∙ laid)

  frame_is : (part : Part) (outer : List Part) (low : ℕ) (m c : Word) (cells : List Word) (o : OwnedBefore part outer low m c cells) → part.instance ≡ i → o.framed.instance ≡ x
  frame_is part outer low m c cells o e = some_same (sym o.framed.is ∙ ap (λ (j : ℕ). numbered w.instances j) e ∙ at)

  frame_values : (part : Part) (outer : List Part) (low : ℕ) (m c : Word) (cells : List Word) (o : OwnedBefore part outer low m c cells) → part.instance ≡ i → length o.framed.values ≡ length ss
  frame_values part outer low m c cells o e =
      as_many_values (simple_cells sc (block_numbered sc.blocks o.framed.instance.block)) o.framed.simple o.framed.values o.framed.simple_are
      ∙ ap (λ (y : Instance). length (simple_cells sc (block_numbered sc.blocks y.block))) (frame_is part outer low m c cells o e)

  frame_cells : (part : Part) (outer : List Part) (low : ℕ) (m c : Word) (cells : List Word) (o : OwnedBefore part outer low m c cells) → part.instance ≡ i → length ss ≤ length cells
  frame_cells part outer low m c cells o e =
      omega (
        arith,
        frame_values part outer low m c cells o e,
        ap length o.framed.cells_is,
        length-append o.framed.values (control_words (block_controls sc o.framed.instance.block o.framed.ats) ++ o.framed.descriptors),
      )

  -- so the cell lies among the words of the parts
  cell_low : (parts : List Part) (words : List Word) → Lies tree code texts w lay p parts i words → (IsStored word → k < length words) × (high + 2 ≤ length words)
  cell_low parts words l =
      let lies : length l.frame.lower + 2 + length l.frame.cells ≤ length words = lies_low tree code texts w lay p parts i words l in
      let height : length l.frame.lower ≡ high = frame_high l.part l.outer (length l.frame.lower) l.frame.mark l.frame.control l.frame.cells l.owned l.instance_is in
      let as_many : length ss ≤ length l.frame.cells = frame_cells l.part l.outer (length l.frame.lower) l.frame.mark l.frame.control l.frame.cells l.owned l.instance_is in
      (λ set. omega (arith, lies, height, as_many, short set, place_is), omega (arith, lies, height))

  -- ---- who stands

  -- the same instances stand, and the same paths lead from them
  stand_later : (j : ℕ) → IsStanding w j → IsStanding w' j
  stand_later j st = record { number = st.number; stack = st.stack; is = st.is; inside = st.inside }

  stand_before : (j : ℕ) → IsStanding w' j → IsStanding w j
  stand_before j st = record { number = st.number; stack = st.stack; is = st.is; inside = st.inside }

  path_later : (a b : ℕ) → IsOnPath w a b → IsOnPath w' a b
  path_later a b skeletons.here = skeletons.here
  path_later a b (skeletons.down {b = c} n path) = skeletons.down (record { number = n.number; stack = n.stack; is = n.is; next = n.next }) (path_later c b path)

  path_before : (a b : ℕ) → IsOnPath w' a b → IsOnPath w a b
  path_before a b skeletons.here = skeletons.here
  path_before a b (skeletons.down {b = c} n path) = skeletons.down (record { number = n.number; stack = n.stack; is = n.is; next = n.next }) (path_before c b path)

  -- an instance is still there, of the same block
  there_later : (j : ℕ) (y : Instance) → numbered w.instances j ≡ Some y → numbered w'.instances j ≡ Some (instance_at w' j)
  there_later j y e = by_number (same_or_not j i)
    where
      itself : (z : Instance) → numbered w'.instances j ≡ Some z → numbered w'.instances j ≡ Some (instance_at w' j)
      itself z there = there ∙ ap (λ (o : Option Instance). Some (or_no_instance o)) (sym there)

      by_number : (j ≡ i) ⊎ (j ≢ i) → numbered w'.instances j ≡ Some (instance_at w' j)
      by_number (inl same) = itself (changed w i x at with_cells) (ap (λ (n : ℕ). numbered w'.instances n) same ∙ changed_at w i x at with_cells)
      by_number (inr apart) = itself y (others_at w i x at with_cells j apart ∙ e)

  stays_there : (j : ℕ) → IsStanding w' j → (y : Instance) × (numbered w'.instances j ≡ Some y) × (y.left ≡ false)
  stays_there j st =
      let old = facts.there j (stand_before j st) in
      (instance_at w' j, there_later j old.0 old.1, sym (same_of w i x at with_cells (λ (y : Instance). y.left) refl j) ∙ ap (λ (o : Option Instance). (or_no_instance o).left) old.1 ∙ old.2)

  stands_there : (j : ℕ) (y : Instance) → numbered w'.instances j ≡ Some y → y.left ≡ false → IsStanding w' j
  stands_there j y is stands = by_number (same_or_not j i)
    where
      by_number : (j ≡ i) ⊎ (j ≢ i) → IsStanding w' j
      by_number (inl e) =
          let same : changed w i x at with_cells ≡ y = some_same (sym (changed_at w i x at with_cells) ∙ ap (λ (n : ℕ). numbered w'.instances n) (sym e) ∙ is) in
          stand_later j (subst (λ (n : ℕ). IsStanding w n) (sym e) (facts.stands i x at (ap (λ (z : Instance). z.left) same ∙ stands)))
      by_number (inr apart) = stand_later j (facts.stands j y (sym (others_at w i x at with_cells j apart) ∙ is) stands)

  parents_there : (j : ℕ) → IsStanding w' j → IsStandingOrNone w' ((instance_at w' j).parent)
  parents_there j st = subst (λ (k' : ℕ). IsStandingOrNone w' k') (same_of w i x at with_cells (λ (y : Instance). y.parent) refl j) (later (facts.parents j (stand_before j st)))
    where
      later : {n : ℕ} → IsStandingOrNone w n → IsStandingOrNone w' n
      later {n} (inl none) = inl none
      later {n} (inr stands) = inr (stand_later n stands)

  cells_there : (j r : ℕ) → IsStanding w' j → IsInSkeleton (referred_in_cells ((instance_at w' j).cells)) r → IsStanding w' r
  cells_there j r st inside = stand_later r (facts.cells j r (stand_before j st) (by_number (same_or_not j i)))
    where
      by_number : (j ≡ i) ⊎ (j ≢ i) → IsInSkeleton (referred_in_cells ((instance_at w j).cells)) r
      by_number (inl e) =
          subst (λ (y : Instance). IsInSkeleton (referred_in_cells y.cells) r) (sym (ap (λ (n : ℕ). instance_at w n) e ∙ ap or_no_instance at))
          (fewer r (subst (λ (y : Instance). IsInSkeleton (referred_in_cells y.cells) r) (ap (λ (n : ℕ). instance_at w' n) e ∙ ap or_no_instance (changed_at w i x at with_cells)) inside))
      by_number (inr apart) = subst (λ (y : Instance). IsInSkeleton (referred_in_cells y.cells) r) (ap or_no_instance (others_at w i x at with_cells j apart)) inside

  facts_later : HasFacts w'
  facts_later =
      record {
        nobody = λ st. facts.nobody (stand_before 0 st);
        there = stays_there;
        stands = stands_there;
        parents = parents_there;
        cells = cells_there;
        on_path = λ a b st path. stand_later b (facts.on_path a b (stand_before a st) (path_before a b path));
      }

  each_keeps : (j : ℕ) → KeepsArrays sc w w' lay lay j
  each_keeps j = by_number (same_or_not j i)
    where
      by_number : (j ≡ i) ⊎ (j ≢ i) → KeepsArrays sc w w' lay lay j
      by_number (inl e) = subst (λ (n : ℕ). KeepsArrays sc w w' lay lay n) (sym e) keeps
      by_number (inr n) = keeps_same sc w w' lay lay j (ap or_no_instance (others_at w i x at with_cells j n)) refl

  -- what stands, stands on
  pub stored_on : StandOn (scopes_of tree) w (stored_world w i x at with_cells) lay lay
  stored_on =
      record {
        before = facts;
        after = facts_later;
        keeps = λ j st later. each_keeps j;
        places = λ j f e. e;
        paths = λ a b st later path. path_later a b path;
      }

  -- .. and what stands later stands on from there
  pub onward_from : (after : World) → after.instances ≡ (stored_world w i x at with_cells).instances → StandOn (scopes_of tree) w after lay lay → StandOn (scopes_of tree) (stored_world w i x at with_cells) after lay lay
  onward_from after same on =
      record {
        before = facts_later;
        after = on.after;
        keeps = λ j st later. keeps_same sc w' after lay lay j (ap (λ (xs : List Instance). or_no_instance (numbered xs j)) same) refl;
        places = λ j f e. e;
        paths = λ a b st later path. on.paths a b (stand_before a st) later (path_before a b path);
      }

  pub laid_from : AreLaid w lay → AreLaid (stored_world w i x at with_cells) lay
  laid_from laid_there j st = laid_there j (stand_before j st)

  stays : StayBelow sc w w' lay lay p high
  stays =
      record {
        on = stored_on;
        instances = λ j there y e mine lies lower.
            others_at w i x at with_cells j (λ (same : j ≡ i). let height : there ≡ high = same_height there high (sym lies ∙ ap (λ (n : ℕ). numbered lay.places n) same ∙ laid) in omega (arith, height, lower)) ∙ e;
        rows = λ j there y e mine lies lower. refl;
      }

  -- a frame after the store, and the parts around it
  pub record Stored (part : Part) (outer : List Part) (words : List Word) (f : Frame tree code texts w lay p part outer words) : Type 0 where
    pub frame : Frame tree code texts (stored_world w i x at with_cells) lay p part outer (put word words k)
    pub low : IsStored word → k < length words
    pub lower : length frame.lower ≡ length f.lower
    pub mark : frame.mark ≡ f.mark
    pub control : frame.control ≡ f.control
    pub cells : length frame.cells ≡ length f.cells
    pub gives : frame.gives ≡ f.gives
    pub around : Around tree code texts (stored_world w i x at with_cells) lay p outer frame.lower frame.mark frame.control frame.gives

  text_so : (part : Part) (outer : List Part) (words : List Word) (f : Before part outer words) → KeepsToText sc ((instance_at w' part.instance).block) part.rest
  text_so part outer words f = subst (λ (b : ℕ). KeepsToText sc b part.rest) (same_of w i x at with_cells (λ (y : Instance). y.block) refl part.instance) f.text

  -- ---- descriptors and references

  reach_remains : (parts : List Part) → Remain sc w w' lay lay (IsInReach w parts) (IsInReach w' parts)
  reach_remains parts = record { stays = λ j path. path_later (newest_own parts) j path; keeps = λ j own. each_keeps j; places = λ j f own laid. laid }

  stand_remains : Remain sc w w' lay lay (IsStanding w) (IsStanding w')
  stand_remains = record { stays = stand_later; keeps = λ j own. each_keeps j; places = λ j f own laid. laid }

  -- what is known of them holds as it did
  pub known_stored : (parts : List Part) (j : ℕ) (known : List Known) → AreKnown (scopes_of tree) w lay (IsInReach w parts) j known →
      AreKnown (scopes_of tree) (stored_world w i x at with_cells) lay (IsInReach (stored_world w i x at with_cells) parts) j known
  known_stored parts j = known_lasts sc w w' lay lay (IsInReach w parts) (IsInReach w' parts) (reach_remains parts) j (climbs_all sc w w' lay lay each_keeps j)

  -- the frame of the instance
  module _ (part : Part) (outer : List Part) (lower : List Word) (m k' : Word) (cells : List Word) (o : OwnedBefore part outer (length lower) m k' cells) (e : part.instance ≡ i) where
    is_x : o.framed.instance ≡ x
    is_x = frame_is part outer (length lower) m k' cells o e

    abbrev Changed_cells : Type 0
    Changed_cells = ChangedCells ss (lay.rows i) with_cells o.framed.simple o.framed.values (put word o.framed.values far) o.framed.declared o.framed.descriptors

    own_cells : Changed_cells
    own_cells =
        changes o.framed.simple o.framed.values o.framed.arrays o.framed.declared o.framed.descriptors
        (subst (λ (y : Instance). CellsAre (simple_cells sc (block_numbered sc.blocks y.block)) o.framed.simple o.framed.values) is_x o.framed.simple_are)
        (subst (λ (j : ℕ). AreMade o.framed.declared o.framed.arrays (lay.rows j) o.framed.descriptors) e o.framed.made)
        (subst (λ (y : Instance). y.cells ≡ o.framed.simple ++ o.framed.arrays) is_x o.framed.has)

    abbrev own_framed : Changed_cells → Framed sc w' lay p part.instance outer (length lower) m k' (put word cells far)
    own_framed c =
        record {
          instance = changed w i x at with_cells;
          is = ap (λ (j : ℕ). numbered w'.instances j) e ∙ changed_at w i x at with_cells;
          own = ap (λ (y : Instance). y.process) (sym is_x) ∙ o.framed.own;
          known = subst (λ (y : Instance). y.block < length sc.blocks) is_x o.framed.known;
          stands = ap (λ (y : Instance). y.left) (sym is_x) ∙ o.framed.stands;
          laid = o.framed.laid;
          simple = c.simple;
          values = put word o.framed.values far;
          simple_are = c.simple_are;
          formals = λ n t there refers.
              let g = o.framed.formals n t (ap (λ (y : Instance). slice_get (simple_cells sc (block_numbered sc.blocks y.block)) n) is_x ∙ there) refers in
              let stay = c.references n g.0 g.1 g.2 g.3 (no_value (referred_denoted sc w lay (IsStanding w) t.wanted g.0.cell g.1 g.4)) in
              (g.0, g.1, stay.0, stay.1, denotes_lasts sc w w' lay lay (IsStanding w) (IsStanding w') stand_remains t.wanted g.0.cell g.1 g.4);
          ats = o.framed.ats;
          each_has_place = subst (λ (y : Instance). length o.framed.ats ≡ length (actuals_of sc (block_numbered sc.blocks y.block))) is_x o.framed.each_has_place;
          arrays = c.arrays;
          declared = o.framed.declared;
          later = o.framed.later;
          order = subst (λ (y : Instance). made_of (block_numbered sc.blocks y.block).decls ≡ o.framed.declared ++ o.framed.later) is_x o.framed.order;
          descriptors = o.framed.descriptors;
          made = subst (λ (j : ℕ). AreMade o.framed.declared c.arrays (lay.rows j) o.framed.descriptors) (sym e) c.made;
          has = c.has;
          cells_is =
              ap (λ (ws : List Word). put word ws far) (subst (λ (y : Instance). cells ≡ o.framed.values ++ (control_words (block_controls sc y.block o.framed.ats) ++ o.framed.descriptors)) is_x o.framed.cells_is)
              ∙ put_first word o.framed.values (control_words (block_controls sc x.block o.framed.ats) ++ o.framed.descriptors) far (λ set. omega (arith, short set, frame_values part outer (length lower) m k' cells o e));
          home = o.framed.home;
          linked = subst (λ (y : Instance). home_of sc w' lay y.parent ≡ Some o.framed.home) is_x (home_on sc w w' lay lay stored_on o.framed.instance.parent o.framed.home o.framed.linked);
          df = o.framed.df;
          mark_is = o.framed.mark_is;
          back = o.framed.back;
          control_is = o.framed.control_is;
          level_is = o.framed.level_is ∙ ap (λ (y : Instance). level_of (block_numbered sc.blocks y.block)) is_x;
        }

  -- one above it
  abbrev other_framed : (part : Part) (outer : List Part) (lower : List Word) (m k' : Word) (cells : List Word) (o : OwnedBefore part outer (length lower) m k' cells) → part.instance ≢ i →
      Framed sc w' lay p part.instance outer (length (put word lower k)) m k' cells
  other_framed part outer lower m k' cells o apart =
      record {
        instance = o.framed.instance;
        is = others_at w i x at with_cells part.instance apart ∙ o.framed.is;
        own = o.framed.own;
        known = o.framed.known;
        laid = o.framed.laid ∙ ap (λ (n : ℕ). Some (place p n)) (sym (length_put word lower k));
        stands = o.framed.stands;
        simple = o.framed.simple;
        values = o.framed.values;
        simple_are = o.framed.simple_are;
        formals = λ n t there refers.
            let g = o.framed.formals n t there refers in
            (g.0, g.1, g.2, g.3, denotes_lasts sc w w' lay lay (IsStanding w) (IsStanding w') stand_remains t.wanted g.0.cell g.1 g.4);
        ats = o.framed.ats;
        each_has_place = o.framed.each_has_place;
        arrays = o.framed.arrays;
        declared = o.framed.declared;
        later = o.framed.later;
        order = o.framed.order;
        descriptors = o.framed.descriptors;
        made = o.framed.made;
        has = o.framed.has;
        cells_is = o.framed.cells_is;
        home = o.framed.home;
        linked = home_on sc w w' lay lay stored_on o.framed.instance.parent o.framed.home o.framed.linked;
        df = o.framed.df;
        mark_is = o.framed.mark_is;
        back = o.framed.back;
        control_is = o.framed.control_is;
        level_is = o.framed.level_is;
      }

  same_block : (j : ℕ) (y : Instance) → numbered w.instances j ≡ Some y → y.block ≡ (instance_at w' j).block
  same_block j y e = sym (ap (λ (o : Option Instance). (or_no_instance o).block) e) ∙ same_of w i x at with_cells (λ (z : Instance). z.block) refl j

  -- a frame above it is of the same shape: that of another instance, or lent
  other_shape : (part : Part) (outer : List Part) (lower : List Word) (m k' : Word) (cells : List Word) (home : Place) (gives : Yields) → high + 2 ≤ length lower →
      Shape tree code texts w lay p part outer (length lower) m k' cells home gives → Shape tree code texts w' lay p part outer (length (put word lower k)) m k' cells home gives
  other_shape part outer lower m k' cells home gives above (of_own o is) =
      let apart : part.instance ≢ i = λ (e : part.instance ≡ i). let height : length lower ≡ high = frame_high part outer (length lower) m k' cells o e in omega (arith, height, above) in
      of_own (record { owns = o.owns; framed = other_framed part outer lower m k' cells o apart; routines = o.routines; items = o.items; making = o.making }) is
  other_shape part outer lower m k' cells home gives above (of_lent l) =
      of_lent (record { evaluates = l.evaluates; asked = l.asked; expression = l.expression; stands = path_later (newest_own outer) part.instance l.stands; none = l.none; linked = l.linked })

  stored_by : (part : Part) (outer : List Part) (words : List Word) (f : Before part outer words) → Around tree code texts w lay p outer f.lower f.mark f.control f.gives →
      (IsOwn outer i → Around tree code texts w' lay p outer (put word f.lower k) f.mark f.control f.gives) → IsOwn (part ∷ outer) i → Stored part outer words f
  stored_by part outer words f a deeper (inl e) =
      let o : OwnedBefore part outer (length f.lower) f.mark f.control f.cells = owned_frame tree code texts w lay p part outer words f e.0 in
      let height : length f.lower ≡ high = frame_high part outer (length f.lower) f.mark f.control f.cells o e.1 in
      let own : Framed sc w' lay p part.instance outer (length f.lower) f.mark f.control (put word f.cells far) =
      own_framed part outer f.lower f.mark f.control f.cells o e.1 (own_cells part outer f.lower f.mark f.control f.cells o e.1) in
      record {
        frame = record {
          lower = f.lower;
          mark = f.mark;
          control = f.control;
          cells = put word f.cells far;
          words_are = ap (λ (ws : List Word). put word ws k) f.words_are
              ∙ put_second word f.lower (f.mark ∷ f.control ∷ f.cells) k (suc (suc far)) (omega (arith, place_is, height))
              ∙ ap (λ (ws : List Word). f.lower ++ ws) (put_cells word f.mark f.control f.cells far);
          instance = own.instance;
          is = own.is;
          known = own.known;
          home = own.home;
          df = own.df;
          mark_is = own.mark_is;
          back = own.back;
          control_is = own.control_is;
          level_is = own.level_is ∙ runs_at part (level_of (block_numbered sc.blocks own.instance.block)) o.owns;
          gives = f.gives;
          text = text_so part outer words f;
          shape = of_own (record {
            owns = o.owns;
            framed = own;
            routines = subst (λ (y : Instance). RoutinesStand tree code texts y.block o.framed.ats) (is_x part outer f.lower f.mark f.control f.cells o e.1) o.routines;
            items = subst (λ (y : Instance). ItemsStand tree code texts y.block) (is_x part outer f.lower f.mark f.control f.cells o e.1) o.items;
            making = o.making;
          })
              (frame_gives tree code texts w lay p part outer words f e.0 ∙ ap (λ (y : Instance). yields_of (block_numbered sc.blocks y.block).result) (ap or_no_instance (ap (λ (j : ℕ). numbered w.instances j) e.1 ∙ at)));
        };
        low = λ set. omega (arith, place_is, height, short set, frame_cells part outer (length f.lower) f.mark f.control f.cells o e.1, below_frame words f.lower f.mark f.control f.cells f.words_are);
        lower = refl;
        mark = refl;
        control = refl;
        cells = length_put word f.cells far;
        gives = refl;
        around = (around_stays tree code texts w w' lay lay p high stays outer f.lower f.mark f.control f.gives (omega (arith, height)) a);
      }
  stored_by part outer words f a deeper (inr o) =
      let lies : (IsStored word → k < length f.lower) × (high + 2 ≤ length f.lower) = cell_low outer f.lower (lies_around tree code texts w lay p outer f.lower f.mark f.control f.gives a i o) in
      record {
        frame = record {
          lower = put word f.lower k;
          mark = f.mark;
          control = f.control;
          cells = f.cells;
          words_are = ap (λ (ws : List Word). put word ws k) f.words_are
              ∙ put_first word f.lower (f.mark ∷ f.control ∷ f.cells) k lies.0;
          instance = instance_at w' part.instance;
          is = there_later part.instance f.instance f.is;
          known = subst (λ (b : ℕ). b < length sc.blocks) (same_block part.instance f.instance f.is) f.known;
          home = f.home;
          df = f.df;
          mark_is = f.mark_is;
          back = f.back;
          control_is = f.control_is;
          level_is = f.level_is ∙ ap (λ (b : ℕ). run_level (is_evaluation part.purpose) (level_of (block_numbered sc.blocks b))) (same_block part.instance f.instance f.is);
          gives = f.gives;
          text = text_so part outer words f;
          shape = other_shape part outer f.lower f.mark f.control f.cells f.home f.gives lies.1 f.shape;
        };
        low = λ set. omega (arith, lies.0 set, below_frame words f.lower f.mark f.control f.cells f.words_are);
        lower = length_put word f.lower k;
        mark = refl;
        control = refl;
        cells = refl;
        gives = refl;
        around = deeper o;
      }

  -- the parts around
  pub around_stored : (parts : List Part) (lower : List Word) (mark control : Word) (wanted : Yields) → Around tree code texts w lay p parts lower mark control wanted → IsOwn parts i →
      Around tree code texts (stored_world w i x at with_cells) lay p parts (put word lower k) mark control wanted
  around_stored [] lower mark control wanted a own = absurd own
  around_stored (part ∷ outer) lower mark control wanted a own =
      let s : Waits tree code texts w lay p part outer lower mark control wanted = a.0 in
      let g : Stored part outer s.below s.frame = stored_by part outer s.below s.frame a.1 (λ o. around_stored outer s.frame.lower s.frame.mark s.frame.control s.frame.gives a.1 o) own in
      let block_is : (instance_at w part.instance).block ≡ (instance_at w' part.instance).block = same_of w i x at with_cells (λ (y : Instance). y.block) refl part.instance in
      let as_high : length s.below ≡ length (put word s.below k) = sym (length_put word s.below k) in (
        record {
          below = put word s.below k;
          words = s.words;
          lower_is = ap (λ (ws : List Word). put word ws k) s.lower_is ∙ put_first word s.below (reverse s.words) k g.low;
          frame = g.frame;
          waits = s.waits;
          pc = s.pc;
          slots = s.slots;
          returns = subst (λ (b : ℕ). (r : Answer) → Gives wanted r →
              ComesTo sc (in_routine g.frame.gives (context_of code texts sc b)) (texts.placed (segment_of sc.blocks b)) (run_level (is_evaluation part.purpose) (level_of (block_numbered sc.blocks b))) (most_around tree b) (resume sc part.rest r) s.pc (pushed wanted r s.slots)) block_is
              (subst (λ (y : Yields). (r : Answer) → Gives wanted r →
              ComesTo sc (context_at tree code texts w lay p part y) (text_of_part tree code texts w lay p part) (level_of_part tree code texts w lay p part) (most_of tree code texts w lay p part) (resume sc part.rest r) s.pc (pushed wanted r s.slots)) (sym g.gives) s.returns);
          few = subst (λ (b : ℕ). length s.slots + 1 ≤ most_around tree b) block_is s.few;
          held = s.held;
          held_are = known_stored (part ∷ outer) part.instance s.held s.held_are;
          words_are = subst (λ (b : ℕ). SlotsAre sc s.held (run_level (is_evaluation part.purpose) (level_of (block_numbered sc.blocks b))) (length g.frame.lower) (length (put word s.below k)) s.slots s.words) block_is
              (subst (λ (n : ℕ). SlotsAre sc s.held (run_level (is_evaluation part.purpose) (level_of (block_numbered sc.blocks ((instance_at w part.instance).block)))) (length g.frame.lower) n s.slots s.words) as_high
              (subst (λ (n : ℕ). SlotsAre sc s.held (run_level (is_evaluation part.purpose) (level_of (block_numbered sc.blocks ((instance_at w part.instance).block)))) n (length s.below) s.slots s.words) (sym g.lower) s.words_are));
          home = s.home;
          df = s.df;
          mark_is = s.mark_is;
          far = ap (λ (n : ℕ). s.df + newest n (length (put word s.below k)) s.slots) g.lower
              ∙ ap (λ (n : ℕ). s.df + newest (length s.frame.lower) n s.slots) (length_put word s.below k)
              ∙ s.far
              ∙ sym (length_put word lower k);
          back = s.back;
          control_is = s.control_is;
          segment_is = s.segment_is ∙ ap (λ (b : ℕ). segment_of sc.blocks b) block_is;
          place_is = s.place_is;
          level_is = s.level_is ∙ ap (λ (b : ℕ). run_level (is_evaluation part.purpose) (level_of (block_numbered sc.blocks b))) block_is;
          cells_are = s.cells_are ∙ sym g.cells;
          light = subst (λ (b : ℕ). length (put word s.below k) + most_around tree b + 3 ≤ parts_weight tree w' (part ∷ outer)) block_is
              (subst (λ (n : ℕ). n + most_in tree w part + 3 ≤ parts_weight tree w' (part ∷ outer)) as_high
              (subst (λ (n : ℕ). length s.below + most_in tree w part + 3 ≤ n) (sym (same_weight tree w w' (part ∷ outer) (λ j own_part. as_heavy w i x at with_cells many j))) s.light));
        },
        g.around,
      )

  -- the innermost frame, and the parts around it
  pub frame_stored : (part : Part) (outer : List Part) (words : List Word) (f : Frame tree code texts w lay p part outer words) → Around tree code texts w lay p outer f.lower f.mark f.control f.gives →
      IsOwn (part ∷ outer) i → Stored part outer words f
  frame_stored part outer words f a own = stored_by part outer words f a (λ o. around_stored outer f.lower f.mark f.control f.gives a o) own
