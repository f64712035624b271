-- Where the frames of a process's parts lie in its stack.
use Rattle.std.proofs.Common.{◌≡◌, ◌⊎◌, inl, inr, refl, sym, ap, ◌∙◌, subst, ℕ, suc, ◌+◌, ◌<◌, ◌≤◌, List, [], ◌∷◌, ◌++◌, length, Some, true, false, arith, append_assoc, append-nil, length-append, Bool, Option}
use Rattle.b67_list.proofs.Lists.{get_front}
use Rattle.b67_list.proofs.Numbers.{none_some}
use Rattle.b67_frames.proofs.Prelude.{if◌then◌else◌, slice_get, reverse, numbered, block_numbered, level_of, PProgram, Scopes, Ask, ask, resume, is_evaluation, Rest, Answer, NamedCell, Instance, Part, World, instance_at, or_no_instance, all_to_make, segment_of, IsStanding, IsOnPath, IsOwn, newest_own, skeleton, Word, Place, Fits_as_rcw, Code, place, Simple, simple_cells, Yields, Texts, Core, Known, SlotsAre, tokens_around, Allotted, Layout, AreMade, Denotes, AreKnown, Refers, most_around, IsInReach, Framed, Frame, FrameStands, Waits, Around, Owned, of_own, of_lent, run_level, level_of_part, IsOfExpression, Lent}
use Rattle.std.specs.Prelude.{◌*◌}
use Rattle.algol_tree.specs.Scopes.{scopes_of}
use Rattle.algol_paths.specs.Laws.{KeepsToText}
use Rattle.b67_templates.specs.Contexts.{yields_of}
use Rattle.b67_templates.specs.Code.{in_routine}
use Rattle.b67_templates.specs.Programs.{context_of}
use Rattle.b67_standing.specs.Standing.{Gives, pushed, ComesTo}
use Rattle.b67_faithful.specs.Weight.{part_weight, parts_weight}
use Rattle.b67_frames.specs.Frames.{Shape}
use Rattle.b67_frames.proofs.Facts.{HasFacts, cell_refers, leads_nowhere}
use Rattle.b67_frames.proofs.Knowing.{Remain, known_lasts}
use Rattle.b67_frames.proofs.Onward.{StandOn, still_keeps, climbs_still, path_still, reach_remains, denotes_on, home_on}
use Rattle.b67_frames.proofs.Expressions.{IsExpressionAsk, expression_asks}

-- the words below a frame end before those of the frame
pub below_frame : (words lower : List Word) (mark control : Word) (cells : List Word) → words ≡ lower ++ mark ∷ control ∷ cells → length lower + 2 + length cells ≡ length words
below_frame words lower mark control cells e = omega (arith, ap length e, length-append lower (mark ∷ control ∷ cells))

-- words that begin with others that begin so
further : (words lower back front rest : List Word) → words ≡ lower ++ back → lower ≡ front ++ rest → words ≡ front ++ (rest ++ back)
further words lower back front rest e f = e ∙ ap (λ (ws : List Word). ws ++ back) f ∙ append_assoc front rest back

-- the instance of one of these parts
abbrev pub IsOfPart : List Part → ℕ → Type 0
IsOfPart [] i = ⊥
IsOfPart (part ∷ parts) i = (part.instance ≡ i) ⊎ IsOfPart parts i

-- the code of a part that has an instance for its own runs at the level of its names
pub runs_at : (part : Part) (level : ℕ) → is_evaluation part.purpose ≡ false → level ≡ run_level (is_evaluation part.purpose) level
runs_at part level owns = sym (ap (λ (b : Bool). run_level b level) owns)

-- the code of any part runs at the level of its names, or one further in
pub runs_deep : (evaluates : Bool) (level : ℕ) → level ≤ run_level evaluates level
runs_deep true level = omega arith
runs_deep false level = omega arith

pub runs_near : (evaluates : Bool) (level : ℕ) → run_level evaluates level ≤ level + 1
runs_near true level = omega arith
runs_near false level = omega arith

module _ (tree : PProgram) (code : Code) (texts : Texts) (w : World) (lay : Layout) (p : ℕ) where
  -- of a part that has an instance for its own
  pub owned_by : (part : Part) (outer : List Part) (at : ℕ) (mark control : Word) (cells : List Word) (home : Place) (gives : Yields) → is_evaluation part.purpose ≡ false →
      Shape tree code texts w lay p part outer at mark control cells home gives → Owned tree code texts w lay p part outer at mark control cells
  owned_by part outer at mark control cells home gives owns (of_own o is) = o
  owned_by part outer at mark control cells home gives owns (of_lent l) = absurd (let clash : true ≡ false = sym l.evaluates ∙ owns in cc)

  -- The frame of an instance of these parts: these words begin with it and with what lies below it.
  pub record Lies (parts : List Part) (i : ℕ) (words : List Word) : Type 0 where
    pub part : Part
    pub outer : List Part
    pub instance_is : part.instance ≡ i
    pub front : List Word
    pub rest : List Word
    pub words_are : words ≡ front ++ rest
    pub frame : Frame tree code texts w lay p part outer front
    pub owned : Owned tree code texts w lay p part outer (length frame.lower) frame.mark frame.control frame.cells
    pub around : Around tree code texts w lay p outer frame.lower frame.mark frame.control frame.gives
    pub inside : (j : ℕ) → IsOwn outer j → IsOwn parts j

  -- a part that asks for what no expression asks for has an instance for its own
  pub asks_as_own : (part : Part) (outer : List Part) (words : List Word) (f : Frame tree code texts w lay p part outer words) (k : Ask) → ask part.rest ≡ k → (IsExpressionAsk k → ⊥) → is_evaluation part.purpose ≡ false
  asks_as_own part outer words f k asks none = by_shape f.shape
    where
      by_shape : Shape tree code texts w lay p part outer (length f.lower) f.mark f.control f.cells f.home f.gives → is_evaluation part.purpose ≡ false
      by_shape (of_own o is) = o.owns
      by_shape (of_lent l) = absurd (none (subst IsExpressionAsk asks (expression_asks part.rest l.expression)))

  -- such a part has the frame for its own
  abbrev pub owned_frame : (part : Part) (outer : List Part) (words : List Word) (f : Frame tree code texts w lay p part outer words) → is_evaluation part.purpose ≡ false →
      Owned tree code texts w lay p part outer (length f.lower) f.mark f.control f.cells
  owned_frame part outer words f owns = owned_by part outer (length f.lower) f.mark f.control f.cells f.home f.gives owns f.shape

  -- so it gives the result of its block
  pub frame_gives : (part : Part) (outer : List Part) (words : List Word) (f : Frame tree code texts w lay p part outer words) → is_evaluation part.purpose ≡ false →
      f.gives ≡ yields_of (block_numbered (scopes_of tree).blocks ((instance_at w part.instance).block)).result
  frame_gives part outer words f owns = by_shape f.shape
    where
      by_shape : Shape tree code texts w lay p part outer (length f.lower) f.mark f.control f.cells f.home f.gives → f.gives ≡ yields_of (block_numbered (scopes_of tree).blocks ((instance_at w part.instance).block)).result
      by_shape (of_own o is) = is ∙ ap (λ (x : Instance). yields_of (block_numbered (scopes_of tree).blocks x.block).result) (sym (ap or_no_instance o.framed.is))
      by_shape (of_lent l) = absurd (let clash : true ≡ false = sym l.evaluates ∙ owns in cc)

  -- the code of a part runs at a level that a control word holds
  pub runs_low : (part : Part) (outer : List Part) (words : List Word) (f : Frame tree code texts w lay p part outer words) → level_of_part tree code texts w lay p part < 32
  runs_low part outer words f =
      let same : level_of_part tree code texts w lay p part ≡ run_level (is_evaluation part.purpose) (level_of (block_numbered (scopes_of tree).blocks f.instance.block)) =
      ap (λ (o : Option Instance). run_level (is_evaluation part.purpose) (level_of (block_numbered (scopes_of tree).blocks ((or_no_instance o).block)))) f.is in
      omega (arith, same, f.level_is, (Fits_as_rcw f.control f.control_is).1.1.1.1.1.0)

  -- that has still the same to make, and stays an expression where it was one
  pub shape_on : (part : Part) (outer : List Part) (at : ℕ) (mark control : Word) (cells : List Word) (home : Place) (gives : Yields) (rest : Rest) → all_to_make part.rest ≡ all_to_make rest →
      (IsOfExpression part.rest → IsOfExpression rest) → Shape tree code texts w lay p part outer at mark control cells home gives →
      Shape tree code texts w lay p (record part { rest = rest }) outer at mark control cells home gives
  shape_on part outer at mark control cells home gives rest e stays (of_own o is) = of_own (record { owns = o.owns; framed = o.framed; routines = o.routines; items = o.items; making = o.making ∙ e }) is
  shape_on part outer at mark control cells home gives rest e stays (of_lent l) =
      of_lent (record { evaluates = l.evaluates; asked = l.asked; expression = stays l.expression; stands = l.stands; none = l.none; linked = l.linked })

  -- it lies lower than the words end
  pub lies_low : (parts : List Part) (i : ℕ) (words : List Word) (l : Lies parts i words) → length (l.frame.lower) + 2 + length (l.frame.cells) ≤ length words
  lies_low parts i words l =
      let whole : length (l.frame.lower) + 2 + length (l.frame.cells) ≡ length l.front = below_frame l.front l.frame.lower l.frame.mark l.frame.control l.frame.cells l.frame.words_are in
      omega (arith, ap length l.words_are, length-append l.front l.rest, whole)

  pub lies_around : (parts : List Part) (lower : List Word) (mark control : Word) (wanted : Yields) → Around tree code texts w lay p parts lower mark control wanted → (i : ℕ) → IsOwn parts i → Lies parts i lower
  lies_around [] lower mark control wanted a i own = absurd own
  lies_around (part ∷ outer) lower mark control wanted a i (inl e) =
      record {
        part = part;
        outer = outer;
        instance_is = e.1;
        front = a.0.below;
        rest = reverse a.0.words;
        words_are = a.0.lower_is;
        frame = a.0.frame;
        owned = owned_frame part outer a.0.below a.0.frame e.0;
        around = a.1;
        inside = λ j o. inr o;
      }
  lies_around (part ∷ outer) lower mark control wanted a i (inr o) =
      let f : Frame tree code texts w lay p part outer a.0.below = a.0.frame in
      let l : Lies outer i a.0.frame.lower = lies_around outer a.0.frame.lower a.0.frame.mark a.0.frame.control a.0.frame.gives a.1 i o in
      record {
        part = l.part;
        outer = l.outer;
        instance_is = l.instance_is;
        front = l.front;
        rest = (l.rest ++ f.mark ∷ f.control ∷ f.cells) ++ reverse a.0.words;
        words_are = further lower a.0.below (reverse a.0.words) l.front (l.rest ++ f.mark ∷ f.control ∷ f.cells) a.0.lower_is
            (further a.0.below f.lower (f.mark ∷ f.control ∷ f.cells) l.front l.rest f.words_are l.words_are);
        frame = l.frame;
        owned = l.owned;
        around = l.around;
        inside = λ j own. inr (l.inside j own);
      }

  -- those of a frame's part and of the parts around it
  pub lies_frame : (part : Part) (outer : List Part) (words : List Word) (f : Frame tree code texts w lay p part outer words) → Around tree code texts w lay p outer f.lower f.mark f.control f.gives →
      (i : ℕ) → IsOwn (part ∷ outer) i → Lies (part ∷ outer) i words
  lies_frame part outer words f a i (inl e) =
      record {
        part = part;
        outer = outer;
        instance_is = e.1;
        front = words;
        rest = [];
        words_are = sym (append-nil words);
        frame = f;
        owned = owned_frame part outer words f e.0;
        around = a;
        inside = λ j o. inr o;
      }
  lies_frame part outer words f a i (inr o) =
      let l : Lies outer i f.lower = lies_around outer f.lower f.mark f.control f.gives a i o in
      record {
        part = l.part;
        outer = l.outer;
        instance_is = l.instance_is;
        front = l.front;
        rest = l.rest ++ f.mark ∷ f.control ∷ f.cells;
        words_are = further words f.lower (f.mark ∷ f.control ∷ f.cells) l.front l.rest f.words_are l.words_are;
        frame = l.frame;
        owned = l.owned;
        around = l.around;
        inside = λ j own. inr (l.inside j own);
      }

  pub lies_in : (part : Part) (outer : List Part) (core : Core) (s : FrameStands tree code texts w lay p part outer core) → Around tree code texts w lay p outer s.frame.lower s.frame.mark s.frame.control s.frame.gives →
      (i : ℕ) → IsOwn (part ∷ outer) i → Lies (part ∷ outer) i core.below
  lies_in part outer core s a = lies_frame part outer core.below s.frame a

  -- ---- which instances stand

  frame_low : (part : Part) (outer : List Part) (lower : List Word) (mark control : Word) (wanted : Yields) (limit : ℕ) → length lower ≤ limit → (s : Waits tree code texts w lay p part outer lower mark control wanted) →
      length (s.frame.lower) < limit
  frame_low part outer lower mark control wanted limit low s =
      omega (arith, low, ap length s.lower_is, length-append s.below (reverse s.words), below_frame s.below s.frame.lower s.frame.mark s.frame.control s.frame.cells s.frame.words_are)

  -- What holds of the instances of own frames that lie so low, and with an instance of what lies on the path from it, holds of all that parts have,
  -- the frames of which lie so low.
  module _ (In : ℕ → Type 0) (limit : ℕ) (nobody : IsStanding w 0 → ⊥)
      (own_in : (part : Part) (outer : List Part) (at : ℕ) (mark control : Word) (cells : List Word) → Owned tree code texts w lay p part outer at mark control cells → at < limit → In part.instance)
      (path_in : (a b : ℕ) → In a → IsOnPath w a b → In b) where
    abbrev IsInOrNone : ℕ → Type 0
    IsInOrNone i = (i ≡ 0) ⊎ In i

    -- an evaluation is above an instance of a part around
    lent_top : (part : Part) (outer : List Part) (cells : List Word) (home : Place) (gives : Yields) → Lent lay (IsInReach w outer) part cells home gives → IsInOrNone (newest_own outer) → In (newest_own outer)
    lent_top part outer cells home gives l (inr top) = top
    lent_top part outer cells home gives l (inl none) =
        let same : newest_own outer ≡ part.instance =
        leads_nowhere (skeleton w) (newest_own outer) part.instance (λ st. nobody (subst (λ (k : ℕ). IsStanding w k) none st)) l.stands in
        none_some (ap (λ (k : ℕ). numbered lay.places k) (sym none ∙ same) ∙ l.linked)

    -- that of an own part is the newest
    own_top : (part : Part) (outer : List Part) → is_evaluation part.purpose ≡ false → In part.instance → In (newest_own (part ∷ outer))
    own_top part outer owns here = subst (λ (b : Bool). In (if b then newest_own outer else part.instance)) (sym owns) here

    top_by : (part : Part) (outer : List Part) (words : List Word) (f : Frame tree code texts w lay p part outer words) → length f.lower < limit → IsInOrNone (newest_own outer) → In (newest_own (part ∷ outer))
    top_by part outer words f low below = by_shape f.shape
      where
        by_shape : Shape tree code texts w lay p part outer (length f.lower) f.mark f.control f.cells f.home f.gives → In (newest_own (part ∷ outer))
        by_shape (of_own o is) = own_top part outer o.owns (own_in part outer (length f.lower) f.mark f.control f.cells o low)
        by_shape (of_lent l) = subst (λ (b : Bool). In (if b then newest_own outer else part.instance)) (sym l.evaluates) (lent_top part outer f.cells f.home f.gives l below)

    pub tops_in : (parts : List Part) (lower : List Word) (mark control : Word) (wanted : Yields) → Around tree code texts w lay p parts lower mark control wanted → length lower ≤ limit → (newest_own parts ≡ 0) ⊎ In (newest_own parts)
    tops_in [] lower mark control wanted a low = inl refl
    tops_in (part ∷ outer) lower mark control wanted a low =
        let lowest : length a.0.frame.lower < limit = frame_low part outer lower mark control wanted limit low a.0 in
        inr (top_by part outer a.0.below a.0.frame lowest (tops_in outer a.0.frame.lower a.0.frame.mark a.0.frame.control a.0.frame.gives a.1 (omega (arith, lowest))))

    module _ (part : Part) (outer : List Part) (words : List Word) (f : Frame tree code texts w lay p part outer words) (a : Around tree code texts w lay p outer f.lower f.mark f.control f.gives) (low : length f.lower < limit) where
      below_top : (newest_own outer ≡ 0) ⊎ In (newest_own outer)
      below_top = tops_in outer f.lower f.mark f.control f.gives a (omega (arith, low))

      pub top_in : In (newest_own (part ∷ outer))
      top_in = top_by part outer words f low below_top

      pub lent_in : Lent lay (IsInReach w outer) part f.cells f.home f.gives → In (newest_own outer)
      lent_in l = lent_top part outer f.cells f.home f.gives l below_top

      pub part_in : In part.instance
      part_in = by_shape f.shape
        where
          by_shape : Shape tree code texts w lay p part outer (length f.lower) f.mark f.control f.cells f.home f.gives → In part.instance
          by_shape (of_own o is) = own_in part outer (length f.lower) f.mark f.control f.cells o low
          by_shape (of_lent l) = path_in (newest_own outer) part.instance (lent_in l) l.stands

  module _ (facts : HasFacts w) where
    -- an own instance stands
    pub owned_stands : (part : Part) (outer : List Part) (at : ℕ) (mark control : Word) (cells : List Word) → Owned tree code texts w lay p part outer at mark control cells → IsStanding w part.instance
    owned_stands part outer at mark control cells o = facts.stands part.instance o.framed.instance o.framed.is o.framed.stands

    module _ (part : Part) (outer : List Part) (words : List Word) (f : Frame tree code texts w lay p part outer words) (a : Around tree code texts w lay p outer f.lower f.mark f.control f.gives) where
      abbrev limit : ℕ
      limit = suc (length f.lower)

      own_stands : (x : Part) (more : List Part) (at : ℕ) (mark control : Word) (cells : List Word) → Owned tree code texts w lay p x more at mark control cells → at < suc (length f.lower) → IsStanding w x.instance
      own_stands x more at mark control cells o low = owned_stands x more at mark control cells o

      path_stands : (i j : ℕ) → IsStanding w i → IsOnPath w i j → IsStanding w j
      path_stands i j st path = facts.on_path i j st path

      pub part_stands : IsStanding w part.instance
      part_stands = part_in (λ i. IsStanding w i) limit facts.nobody own_stands path_stands part outer words f a (omega arith)

-- ---- what a change of the world leaves

-- The instances of process p whose frames lie so low are as they were, with the rows of their arrays. What stands before and after the change stands on.
pub record StayBelow (sc : Scopes) (w w' : World) (lay lay' : Layout) (p limit : ℕ) : Type 0 where
  pub on : StandOn sc w w' lay lay'
  pub instances : (i at : ℕ) (x : Instance) → numbered w.instances i ≡ Some x → x.process ≡ p → numbered lay.places i ≡ Some (place p at) → at < limit → numbered w'.instances i ≡ Some x
  pub rows : (i at : ℕ) (x : Instance) → numbered w.instances i ≡ Some x → x.process ≡ p → numbered lay.places i ≡ Some (place p at) → at < limit → lay'.rows i ≡ lay.rows i

module _ (tree : PProgram) (code : Code) (texts : Texts) (w w' : World) (lay lay' : Layout) (p limit : ℕ) (stay : StayBelow (scopes_of tree) w w' lay lay' p limit) where
  abbrev sc : Scopes
  sc = scopes_of tree

  abbrev on : StandOn (scopes_of tree) w w' lay lay'
  on = stay.on

  abbrev Still : ℕ → Type 0
  Still i = IsStanding w i × IsStanding w' i

  abbrev OldFrame : Part → List Part → List Word → Type 0
  OldFrame part outer words = Frame tree code texts w lay p part outer words

  abbrev OldOwned : Part → List Part → ℕ → Word → Word → List Word → Type 0
  OldOwned part outer at mark control cells = Owned tree code texts w lay p part outer at mark control cells

  -- an own instance stays, and so do its rows
  own_after : (part : Part) (outer : List Part) (at : ℕ) (mark control : Word) (cells : List Word) (o : OldOwned part outer at mark control cells) → at < limit → numbered w'.instances part.instance ≡ Some o.framed.instance
  own_after part outer at mark control cells o low = stay.instances part.instance at o.framed.instance o.framed.is o.framed.own o.framed.laid low

  own_rows : (part : Part) (outer : List Part) (at : ℕ) (mark control : Word) (cells : List Word) (o : OldOwned part outer at mark control cells) → at < limit → lay'.rows part.instance ≡ lay.rows part.instance
  own_rows part outer at mark control cells o low = stay.rows part.instance at o.framed.instance o.framed.is o.framed.own o.framed.laid low

  own_still : (part : Part) (outer : List Part) (at : ℕ) (mark control : Word) (cells : List Word) → OldOwned part outer at mark control cells → at < limit → Still part.instance
  own_still part outer at mark control cells o low = (
    on.before.stands part.instance o.framed.instance o.framed.is o.framed.stands,
    on.after.stands part.instance o.framed.instance (own_after part outer at mark control cells o low) o.framed.stands,
  )

  still_path : (a b : ℕ) → Still a → IsOnPath w a b → Still b
  still_path = path_still sc w w' lay lay' on

  module _ (part : Part) (outer : List Part) (words : List Word) (f : OldFrame part outer words) (a : Around tree code texts w lay p outer f.lower f.mark f.control f.gives) (low : length f.lower < limit) where
    pub here_still : IsStanding w part.instance × IsStanding w' part.instance
    here_still = part_in tree code texts w lay p Still limit on.before.nobody own_still still_path part outer words f a low

    pub top_still : IsStanding w (newest_own (part ∷ outer)) × IsStanding w' (newest_own (part ∷ outer))
    top_still = top_in tree code texts w lay p Still limit on.before.nobody own_still still_path part outer words f a low

    pub lent_still : Lent lay (IsInReach w outer) part f.cells f.home f.gives → IsStanding w (newest_own outer) × IsStanding w' (newest_own outer)
    lent_still = lent_in tree code texts w lay p Still limit on.before.nobody own_still still_path part outer words f a low

    -- it is of the same block
    pub same_block : (instance_at w' part.instance).block ≡ (instance_at w part.instance).block
    same_block = (still_keeps sc w w' lay lay' on part.instance here_still).block

    -- what the parts can come to remains
    pub frame_remains : Remain (scopes_of tree) w w' lay lay' (IsInReach w (part ∷ outer)) (IsInReach w' (part ∷ outer))
    frame_remains = reach_remains sc w w' lay lay' on (part ∷ outer) top_still

    -- what is known of descriptors and references holds as it did
    pub known_after : (known : List Known) → AreKnown (scopes_of tree) w lay (IsInReach w (part ∷ outer)) part.instance known → AreKnown (scopes_of tree) w' lay' (IsInReach w' (part ∷ outer)) part.instance known
    known_after =
        known_lasts sc w w' lay lay' (IsInReach w (part ∷ outer)) (IsInReach w' (part ∷ outer)) frame_remains part.instance
        (climbs_still sc w w' lay lay' on part.instance here_still)

  -- what a parameter stands for that refers only to what stands
  own_formals : (part : Part) (outer : List Part) (at : ℕ) (mark control : Word) (cells : List Word) (o : OldOwned part outer at mark control cells) (low : at < limit) (k : ℕ) (s : Simple) →
      slice_get (simple_cells sc (block_numbered sc.blocks o.framed.instance.block)) k ≡ Some s → Refers s.wanted →
      (c : NamedCell) × (word : Word) × (slice_get o.framed.simple k ≡ Some c) × (slice_get o.framed.values k ≡ Some word) × Denotes sc w' lay' (IsStanding w') s.wanted c.cell word
  own_formals part outer at mark control cells o low k s there refers =
      let g = o.framed.formals k s there refers in
      let among : slice_get o.framed.instance.cells k ≡ Some g.0 = ap (λ (cs : List NamedCell). slice_get cs k) o.framed.has ∙ get_front o.framed.simple o.framed.arrays k g.0 g.2 in (
        g.0,
        g.1,
        g.2,
        g.3,
        denotes_on sc w w' lay lay' on s.wanted g.0.cell g.1
            (cell_refers w' on.after part.instance o.framed.instance (own_after part outer at mark control cells o low) o.framed.stands k g.0 among) g.4,
      )

  abbrev framed_after : (part : Part) (outer : List Part) (at : ℕ) (mark control : Word) (cells : List Word) (o : OldOwned part outer at mark control cells) → at < limit →
      Framed sc w' lay' p part.instance outer at mark control cells
  framed_after part outer at mark control cells o low =
      record {
        instance = o.framed.instance;
        is = own_after part outer at mark control cells o low;
        own = o.framed.own;
        known = o.framed.known;
        laid = on.places part.instance (place p at) o.framed.laid;
        stands = o.framed.stands;
        simple = o.framed.simple;
        values = o.framed.values;
        simple_are = o.framed.simple_are;
        formals = own_formals part outer at mark control cells o low;
        ats = o.framed.ats;
        each_has_place = o.framed.each_has_place;
        arrays = o.framed.arrays;
        declared = o.framed.declared;
        later = o.framed.later;
        order = o.framed.order;
        descriptors = o.framed.descriptors;
        made = subst (λ (rows : List Allotted). AreMade o.framed.declared o.framed.arrays rows o.framed.descriptors) (sym (own_rows part outer at mark control cells o low)) o.framed.made;
        has = o.framed.has;
        cells_is = o.framed.cells_is;
        home = o.framed.home;
        linked = home_on sc w w' lay lay' on o.framed.instance.parent o.framed.home o.framed.linked;
        df = o.framed.df;
        mark_is = o.framed.mark_is;
        back = o.framed.back;
        control_is = o.framed.control_is;
        level_is = o.framed.level_is;
      }

  -- an own frame is one later
  abbrev owned_after : (part : Part) (outer : List Part) (at : ℕ) (mark control : Word) (cells : List Word) (o : OldOwned part outer at mark control cells) → at < limit →
      Owned tree code texts w' lay' p part outer at mark control cells
  owned_after part outer at mark control cells o low =
      record { owns = o.owns; framed = framed_after part outer at mark control cells o low; routines = o.routines; items = o.items; making = o.making }

  shape_after : (part : Part) (outer : List Part) (words : List Word) (f : OldFrame part outer words) → Around tree code texts w lay p outer f.lower f.mark f.control f.gives → length f.lower < limit →
      Shape tree code texts w' lay' p part outer (length f.lower) f.mark f.control f.cells f.home f.gives
  shape_after part outer words f a low = by_shape f.shape
    where
      by_shape : Shape tree code texts w lay p part outer (length f.lower) f.mark f.control f.cells f.home f.gives → Shape tree code texts w' lay' p part outer (length f.lower) f.mark f.control f.cells f.home f.gives
      by_shape (of_own o is) = of_own (owned_after part outer (length f.lower) f.mark f.control f.cells o low) is
      by_shape (of_lent l) =
          let top = lent_still part outer words f a low l in
          of_lent (record {
            evaluates = l.evaluates;
            asked = l.asked;
            expression = l.expression;
            stands = on.paths (newest_own outer) part.instance top.0 top.1 l.stands;
            none = l.none;
            linked = on.places part.instance f.home l.linked;
          })

  abbrev frame_after : (part : Part) (outer : List Part) (words : List Word) (f : OldFrame part outer words) → Around tree code texts w lay p outer f.lower f.mark f.control f.gives → length f.lower < limit →
      Frame tree code texts w' lay' p part outer words
  frame_after part outer words f a low =
      let later = on.after.there part.instance (here_still part outer words f a low).1 in
      let same : f.instance.block ≡ (later.0).block = ap (λ (o : Option Instance). (or_no_instance o).block) (sym f.is) ∙ sym (same_block part outer words f a low) ∙ ap (λ (o : Option Instance). (or_no_instance o).block) later.1 in
      record {
        lower = f.lower;
        mark = f.mark;
        control = f.control;
        cells = f.cells;
        words_are = f.words_are;
        instance = later.0;
        is = later.1;
        known = subst (λ (b : ℕ). b < length sc.blocks) same f.known;
        home = f.home;
        df = f.df;
        mark_is = f.mark_is;
        back = f.back;
        control_is = f.control_is;
        level_is = subst (λ (b : ℕ). f.back.own_level ≡ run_level (is_evaluation part.purpose) (level_of (block_numbered sc.blocks b))) same f.level_is;
        text = subst (λ (b : ℕ). KeepsToText sc b part.rest) (sym (same_block part outer words f a low)) f.text;
        gives = f.gives;
        shape = shape_after part outer words f a low;
      }

  -- the parts whose frames lie so low weigh as much
  weighs_here : (part : Part) (outer : List Part) (words : List Word) (f : OldFrame part outer words) → Around tree code texts w lay p outer f.lower f.mark f.control f.gives → length f.lower < limit →
      part_weight tree w part ≡ part_weight tree w' part
  weighs_here part outer words f a low = by_shape f.shape
    where
      by_shape : Shape tree code texts w lay p part outer (length f.lower) f.mark f.control f.cells f.home f.gives → part_weight tree w part ≡ part_weight tree w' part
      by_shape (of_own o is) =
          ap (λ (x : Instance). 8 + (if is_evaluation part.purpose then 0 else length x.cells) + 4 * tokens_around tree x.block)
          (ap or_no_instance (o.framed.is ∙ sym (own_after part outer (length f.lower) f.mark f.control f.cells o low)))
      by_shape (of_lent l) =
          ap (λ (b : Bool). 8 + (if b then 0 else length ((instance_at w part.instance).cells)) + 4 * tokens_around tree ((instance_at w part.instance).block)) l.evaluates
          ∙ ap (λ (b : ℕ). 8 + 0 + 4 * tokens_around tree b) (sym (same_block part outer words f a low))
          ∙ ap (λ (b : Bool). 8 + (if b then 0 else length ((instance_at w' part.instance).cells)) + 4 * tokens_around tree ((instance_at w' part.instance).block)) (sym l.evaluates)

  pub weight_stays : (parts : List Part) (lower : List Word) (mark control : Word) (wanted : Yields) → length lower ≤ limit → Around tree code texts w lay p parts lower mark control wanted → parts_weight tree w parts ≡ parts_weight tree w' parts
  weight_stays [] lower mark control wanted low a = refl
  weight_stays (part ∷ outer) lower mark control wanted low a =
      let s : Waits tree code texts w lay p part outer lower mark control wanted = a.0 in
      let lowest : length s.frame.lower < limit = frame_low tree code texts w lay p part outer lower mark control wanted limit low s in
      let here : part_weight tree w part ≡ part_weight tree w' part = weighs_here part outer s.below s.frame a.1 lowest in
      let others : parts_weight tree w outer ≡ parts_weight tree w' outer = weight_stays outer s.frame.lower s.frame.mark s.frame.control s.frame.gives (omega (arith, lowest)) a.1 in
      ap (λ (n : ℕ). n + parts_weight tree w outer) here ∙ ap (λ (n : ℕ). part_weight tree w' part + n) others

  -- the parts whose frames lie below stand as they did
  pub around_stays : (parts : List Part) (lower : List Word) (mark control : Word) (wanted : Yields) → length lower ≤ limit → Around tree code texts w lay p parts lower mark control wanted →
      Around tree code texts w' lay' p parts lower mark control wanted
  around_stays [] lower mark control wanted low a = a
  around_stays (part ∷ outer) lower mark control wanted low a =
      let s : Waits tree code texts w lay p part outer lower mark control wanted = a.0 in
      let lowest : length s.frame.lower < limit = frame_low tree code texts w lay p part outer lower mark control wanted limit low s in
      let same : (instance_at w part.instance).block ≡ (instance_at w' part.instance).block = sym (same_block part outer s.below s.frame a.1 lowest) in (
        record {
          below = s.below;
          words = s.words;
          lower_is = s.lower_is;
          frame = frame_after part outer s.below s.frame a.1 lowest;
          waits = s.waits;
          pc = s.pc;
          slots = s.slots;
          returns = subst (λ (b : ℕ). (r : Answer) → Gives wanted r →
              ComesTo sc (in_routine s.frame.gives (context_of code texts sc b)) (texts.placed (segment_of sc.blocks b)) (run_level (is_evaluation part.purpose) (level_of (block_numbered sc.blocks b))) (most_around tree b) (resume sc part.rest r) s.pc (pushed wanted r s.slots)) same s.returns;
          few = subst (λ (b : ℕ). length s.slots + 1 ≤ most_around tree b) same s.few;
          held = s.held;
          held_are = known_after part outer s.below s.frame a.1 lowest s.held s.held_are;
          words_are = subst (λ (b : ℕ). SlotsAre sc s.held (run_level (is_evaluation part.purpose) (level_of (block_numbered sc.blocks b))) (length s.frame.lower) (length s.below) s.slots s.words) same s.words_are;
          home = s.home;
          df = s.df;
          mark_is = s.mark_is;
          far = s.far;
          back = s.back;
          control_is = s.control_is;
          segment_is = s.segment_is ∙ ap (λ (b : ℕ). segment_of sc.blocks b) same;
          place_is = s.place_is;
          level_is = s.level_is ∙ ap (λ (b : ℕ). run_level (is_evaluation part.purpose) (level_of (block_numbered sc.blocks b))) same;
          cells_are = s.cells_are;
          light = subst (λ (b : ℕ). length s.below + most_around tree b + 3 ≤ parts_weight tree w' (part ∷ outer)) same
              (subst (λ (n : ℕ). length s.below + most_around tree ((instance_at w part.instance).block) + 3 ≤ n) (weight_stays (part ∷ outer) lower mark control wanted low a) s.light);
        },
        around_stays outer s.frame.lower s.frame.mark s.frame.control s.frame.gives (omega (arith, lowest)) a.1,
      )

  -- a frame, too, whose mark lies below
  pub record Stayed (part : Part) (outer : List Part) (words : List Word) (f : Frame tree code texts w lay p part outer words) : Type 0 where
    pub frame : Frame tree code texts w' lay' p part outer words
    pub lower : frame.lower ≡ f.lower
    pub mark : frame.mark ≡ f.mark
    pub control : frame.control ≡ f.control
    pub cells : frame.cells ≡ f.cells
    pub gives : frame.gives ≡ f.gives

  pub frame_stays : (part : Part) (outer : List Part) (words : List Word) (f : Frame tree code texts w lay p part outer words) →
      Around tree code texts w lay p outer f.lower f.mark f.control f.gives → length f.lower < limit → Stayed part outer words f
  frame_stays part outer words f a low = record { frame = frame_after part outer words f a low; lower = refl; mark = refl; control = refl; cells = refl; gives = refl }
