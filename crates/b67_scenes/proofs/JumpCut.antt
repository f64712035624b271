-- The way of GO TO down a process's stack: from the innermost part to that of the label's instance, past the frames that are left.
use Rattle.std.proofs.Common.{◌≡◌, inl, inr, refl, sym, ap, ◌∙◌, subst, ℕ, zero, suc, ◌+◌, ◌<◌, ◌≤◌, List, [], ◌∷◌, ◌++◌, length, take, drop, Some, None, Bool, true, false, Ok, arith, append_assoc, append-nil, length-append}
use Rattle.b67_list.proofs.Numbers.{ltb_not_less, number_told}
use Rattle.b67_list.proofs.Truths.{true_false}
use Rattle.b67_scenes.proofs.Prelude.{nat_tests, if◌then◌else◌, ◌==◌, reverse, slice_get, map, numbered, PProgram, Scopes, scopes_of, is_evaluation, own_instances, leave, NamedCell, Instance, Part, Process, World, instance_at, cell_in, by_cell, IsOwn, IsStanding, stack_of, Word, Place, Code, Stacks, stack_limit, place, left_to, Passed, Image, Look, ◌>->◌, look_seen, Below, Yields, Texts, some_same, parts_weight, numbered_other, IsSameBut, FramesClose, KeepsArrays, Remain, denotes_lasts, Begins_with, owned_frame, Layout, ArraysAre, IsInReach, home_of, Framed, Frame, Waits, Around, Owned, Shape, of_own, of_lent}
use Rattle.std.specs.Prelude.{nat_eq, nat_lt}
use Rattle.algol_meaning.specs.Instances.{is_part_of, cut_at}
use Rattle.algol_standing.proofs.Jumping.{target_is}
use Rattle.b67_table.specs.Chains.{chain_broken}
use Rattle.b67_table.specs.GoingTo.{Passing, passing_after, passing}
use Rattle.b67_table.specs.Look.{found}
use Rattle.b67_letters.proofs.Looks.{then_seen}
use Rattle.b67_frames.specs.Lent.{Lent}
use Rattle.b67_frames.proofs.Closing.{IsClosed}
use Rattle.b67_frames.proofs.JumpClosing.{after_one, cells_there, AreClosed, none_closed, own_closed, lent_closed}
use Rattle.b67_frames.proofs.JumpRow.{same_number}
use Rattle.b67_scenes.proofs.FrameBelow as down
use Rattle.b67_scenes.proofs.FrameBelow.{leads_down, begins_below, InnerFrame}
use Rattle.b67_scenes.proofs.Heights.{own_low}
use Rattle.b67_scenes.proofs.JumpWorld.{IsAmong, AreHigh, IsHigh, leave_processes, leave_same}
use Rattle.b67_scenes.proofs.PassedFrames.{IsPassed, ArePassed, passed_further}
use Rattle.b67_scenes.proofs.Staying.{most_in}

-- ---- tests of numbers

eq_not : (m n : ℕ) → n < m → nat_eq m n ≡ false
eq_not m n h = grind (arith, nat_tests)

-- ---- frames that are passed

-- a test that is false at the place of each of these frames
abbrev pub NoFrame : (ℕ → Bool) → List Passed → Type 0
NoFrame is [] = Unit {0}
NoFrame is (f ∷ fs) = (is f.frame ≡ false) × NoFrame is fs

-- ---- the part of an instance

-- another part is further out
part_outer : (part : Part) (outer : List Part) (i : ℕ) → is_part_of part i ≡ false → IsOwn (part ∷ outer) i → IsOwn outer i
part_outer part outer i e (inr later) = later
part_outer part outer i e (inl own) =
    true_false (ap (λ (t : Bool). if t then false else part.instance == i) own.0 ∙ number_told part.instance i own.1) e

-- ---- worlds between

-- In another world the instances of process p whose frames lie so low are as they were; all others may have been left; and the processes are the same.
pub record LieStill (w w' : World) (lay : Layout) (p limit : ℕ) : Type 0 where
  pub instances : (j at : ℕ) (x : Instance) → numbered w.instances j ≡ Some x → x.process ≡ p → numbered lay.places j ≡ Some (place p at) → at < limit → numbered w'.instances j ≡ Some x
  pub same : (j : ℕ) → IsSameBut (instance_at w' j) (instance_at w j)
  pub processes : w'.processes ≡ w.processes

home_still : (sc : Scopes) (w w' : World) (lay : Layout) (j : ℕ) (h : Place) → home_of sc w lay j ≡ Some h → home_of sc w' lay j ≡ Some h
home_still sc w w' lay zero h e = e
home_still sc w w' lay (suc j) h e = e

module _ (sc : Scopes) (w w' : World) (lay : Layout) (p limit : ℕ) (still : LieStill w w' lay p limit) where
  standing_still : (j : ℕ) → IsStanding w j → IsStanding w' j
  standing_still j st =
      record {
        number = st.number;
        stack = st.stack;
        is = ap (λ (qs : List Process). slice_get (record { own = []; evaluations = []; critical = None; live = false } ∷ map stack_of qs) st.number) still.processes ∙ st.is;
        inside = st.inside;
      }

  cells_still : (j : ℕ) → KeepsArrays sc w w' lay lay j
  cells_still j =
      let same : IsSameBut (instance_at w' j) (instance_at w j) = still.same j in
      record {
        block = same.block;
        parent = same.parent;
        arrays = λ name cell is. record { later = cell; is = ap (λ (cells : List NamedCell). cell_in cells name) same.cells ∙ is; bounds = refl };
        events = λ name e is. (e, ap (λ (cells : List NamedCell). cell_in cells name) same.cells ∙ is);
        leads = λ name r. ap (λ (cells : List NamedCell). by_cell (cell_in cells name) r) same.cells;
        rows = λ number a there. there;
      }

  still_remain : Remain sc w w' lay lay (IsStanding w) (IsStanding w')
  still_remain = record { stays = standing_still; keeps = λ j st. cells_still j; places = λ j f st laid. laid }

  -- so their frames are there
  framed_still : {i : ℕ} {outer : List Part} {at : ℕ} {mark control : Word} {cells : List Word} → Framed sc w lay p i outer at mark control cells → at < limit → Framed sc w' lay p i outer at mark control cells
  framed_still {i} {outer} {at} f low =
      record {
        instance = f.instance;
        is = still.instances i at f.instance f.is f.own f.laid low;
        own = f.own;
        known = f.known;
        stands = f.stands;
        laid = f.laid;
        simple = f.simple;
        values = f.values;
        simple_are = f.simple_are;
        formals = λ k s there refers.
            let g = f.formals k s there refers in
            (g.0, g.1, g.2, g.3, denotes_lasts sc w w' lay lay (IsStanding w) (IsStanding w') still_remain s.wanted g.0.cell g.1 g.4);
        ats = f.ats;
        each_has_place = f.each_has_place;
        arrays = f.arrays;
        declared = f.declared;
        later = f.later;
        order = f.order;
        descriptors = f.descriptors;
        made = f.made;
        has = f.has;
        cells_is = f.cells_is;
        home = f.home;
        linked = home_still sc w w' lay f.instance.parent f.home f.linked;
        df = f.df;
        mark_is = f.mark_is;
        back = f.back;
        control_is = f.control_is;
        level_is = f.level_is;
      }

module _ (tree : PProgram) (code : Code) (texts : Texts) (closing : FramesClose) (w : World) (lay : Layout) (p i : ℕ) (stacks : Stacks) (stack : List Word) where
  abbrev sc : Scopes
  sc = scopes_of tree

  abbrev FrameOf : Part → List Part → List Word → Type 0
  FrameOf part outer words = Frame tree code texts w lay p part outer words

  abbrev AroundOf : (part : Part) (outer : List Part) (words : List Word) → FrameOf part outer words → Type 0
  AroundOf part outer words f = Around tree code texts w lay p outer f.lower f.mark f.control f.gives

  -- From the frame of a part, with which these words end: the part of the instance, with its frame; the parts above it, and their frames, to which
  -- the marks lead; and how these are closed in a world in which only higher ones were left.
  pub record Way (part : Part) (outer : List Part) (words : List Word) (f : Frame tree code texts w lay p part outer words) : Type 0 where
    pub target : Part
    pub parts : List Part
    pub above : List Part
    pub cut_is : (before : List Part) → cut_at before (part ∷ outer) i ≡ record { newer = before ++ above; from = target ∷ parts }
    pub owns : is_evaluation target.purpose ≡ false
    pub instance_is : target.instance ≡ i
    pub front : List Word
    pub rest : List Word
    pub words_are : words ≡ front ++ rest
    pub frame : Frame tree code texts w lay p target parts front
    pub around : Around tree code texts w lay p parts frame.lower frame.mark frame.control frame.gives
    pub low : length frame.lower ≤ length f.lower
    pub light : length front + most_in tree w target + 3 ≤ parts_weight tree w (target ∷ parts)
    pub high : AreHigh w lay p (length front) (own_instances above)
    pub passed : List Passed
    pub passes : (steps : ℕ) → length f.lower < steps →
        look_seen stacks (passing steps p (length frame.lower) (record { frame = length f.lower; cells = length f.cells })) ≡ Ok (record { frames = passed; cells = length frame.cells })
    pub are_passed : ArePassed lay p (length f.lower) (part ∷ outer) above passed
    -- the own instances of the part and of those around it, and below which frames these lie
    pub inside : (k : ℕ) → IsOwn (target ∷ parts) k → IsOwn (part ∷ outer) k
    pub others : (k : ℕ) → IsOwn (part ∷ outer) k → (IsAmong (own_instances above) k → ⊥) → IsOwn (target ∷ parts) k
    pub frames : (is : ℕ → Bool) →
        ((next : Part) (more : List Part) (lower : List Word) (mark control : Word) (wanted : Yields) → Around tree code texts w lay p (next ∷ more) lower mark control wanted →
        ((k : ℕ) → IsOwn (target ∷ parts) k → IsOwn (next ∷ more) k) → is (length lower) ≡ false) →
        NoFrame is passed
    pub closes : (w' : World) (limit : ℕ) → LieStill w w' lay p limit → length f.lower < limit → (img : Image) → ArraysAre (scopes_of tree) w' lay img.rows →
        AreClosed (scopes_of tree) lay p stack w' img (own_instances above) passed

  -- ---- it is the part itself

  module _ (part : Part) (outer : List Part) (words : List Word) (f : FrameOf part outer words) (a : AroundOf part outer words f) (e : is_part_of part i ≡ true)
      (light : length words + most_in tree w part + 3 ≤ parts_weight tree w (part ∷ outer)) where
    arrives : (steps : ℕ) → length f.lower < steps →
        look_seen stacks (passing steps p (length f.lower) (record { frame = length f.lower; cells = length f.cells })) ≡ Ok (record { frames = []; cells = length f.cells })
    arrives zero h = absurd (omega (arith, h))
    arrives (suc steps) h =
        ap (λ (t : Bool). look_seen stacks (if t then found (record { frames = []; cells = length f.cells }) else on)) (same_number (length f.lower))
      where
        on : Look Passing
        on =
            if nat_lt (length f.lower) (length f.lower) then chain_broken
            else left_to (place p (length f.lower)) >-> (λ (b : Below).
            passing steps p (length f.lower) (record { frame = b.frame; cells = b.control.caller_cells }) >-> (λ (q : Passing). found (passing_after (record { frame = length f.lower; cells = length f.cells }) q)))

    here : Way part outer words f
    here =
        record {
          target = part;
          parts = outer;
          above = [];
          cut_is = λ before.
              ap (λ (t : Bool). if t then record { newer = before; from = part ∷ outer } else cut_at (before ++ part ∷ []) outer i) e
              ∙ ap (λ (ns : List Part). record { newer = ns; from = part ∷ outer }) (sym (append-nil before));
          owns = (target_is part i e).0;
          instance_is = (target_is part i e).1;
          front = words;
          rest = [];
          words_are = sym (append-nil words);
          frame = f;
          around = a;
          low = omega arith;
          light = light;
          high = tt;
          passed = [];
          passes = arrives;
          are_passed = tt;
          inside = λ k own. own;
          others = λ k own none. own;
          frames = λ is each. tt;
          closes = λ w' limit stay under img are. none_closed sc lay p stack w' img are;
        }

  -- ---- or it is further out

  module _ (inner : InnerFrame tree code texts w lay p stacks) (back : List Word) (whole : stack ≡ inner.words ++ back) where
    open inner use {part, next, parts, words, frame as f, around as a, small}

    abbrev u : Waits tree code texts w lay p next parts f.lower f.mark f.control f.gives
    u = a.0

    abbrev first : Passed
    first = record { frame = length f.lower; cells = length f.cells }

    lower_there : stack ≡ u.below ++ ((reverse u.words ++ f.mark ∷ f.control ∷ f.cells) ++ back)
    lower_there =
        whole
        ∙ ap (λ (ws : List Word). ws ++ back)
        (f.words_are ∙ ap (λ (ws : List Word). ws ++ f.mark ∷ f.control ∷ f.cells) u.lower_is ∙ append_assoc u.below (reverse u.words) (f.mark ∷ f.control ∷ f.cells))
        ∙ append_assoc u.below (reverse u.words ++ f.mark ∷ f.control ∷ f.cells) back

    height : length f.lower ≡ length u.below + length u.words
    height = down.height tree code texts w lay p stacks inner

    lowest : length u.frame.lower + 2 + length u.frame.cells ≡ length u.below
    lowest = down.low tree code texts w lay p stacks inner

    topmost : length f.lower + 2 + length f.cells ≡ length words
    topmost = down.top tree code texts w lay p stacks inner

    below_begins : Begins_with stacks p u.below
    below_begins = begins_below tree code texts w lay p stacks inner

    below_small : length u.below ≤ stack_limit
    below_small = omega (arith, height, topmost, small)

    module _ (e : is_part_of part i ≡ false) (way_on : Way next parts u.below u.frame) where
      abbrev target_at : ℕ
      target_at = length way_on.frame.lower

      below_it : target_at < length f.lower
      below_it = omega (arith, way_on.low, height, lowest)

      abbrev on_with : Passing → Look Passing
      on_with q = found (passing_after first q)

      abbrev go_on : ℕ → Below → Look Passing
      go_on steps b = passing steps p target_at (record { frame = b.frame; cells = b.control.caller_cells }) >-> on_with

      passes_it : (steps : ℕ) → length f.lower < steps → look_seen stacks (passing steps p target_at first) ≡ Ok (record { frames = first ∷ way_on.passed; cells = length way_on.frame.cells })
      passes_it zero h = absurd (omega (arith, h))
      passes_it (suc steps) h =
          ap
          (λ (t : Bool). look_seen stacks (if t then found (record { frames = []; cells = length f.cells }) else (if nat_lt (length f.lower) target_at then chain_broken else left_to (place p (length f.lower)) >-> go_on steps)))
          (eq_not (length f.lower) target_at below_it)
          ∙ ap (λ (t : Bool). look_seen stacks (if t then chain_broken else left_to (place p (length f.lower)) >-> go_on steps)) (ltb_not_less (length f.lower) target_at (omega (arith, below_it)))
          ∙ then_seen stacks (left_to (place p (length f.lower))) (down.below_it tree code texts w lay p stacks inner) (go_on steps)
          (leads_down tree code texts w lay p stacks inner)
          ∙ ap (λ (c : ℕ). look_seen stacks (passing steps p target_at (record { frame = length u.frame.lower; cells = c }) >-> on_with)) u.cells_are
          ∙ then_seen stacks (passing steps p target_at (record { frame = length u.frame.lower; cells = length u.frame.cells })) (record { frames = way_on.passed; cells = length way_on.frame.cells }) on_with
          (way_on.passes steps (omega (arith, h, height, lowest)))

      cut_on : (before : List Part) → cut_at before (part ∷ next ∷ parts) i ≡ record { newer = before ++ part ∷ way_on.above; from = way_on.target ∷ way_on.parts }
      cut_on before =
          ap (λ (t : Bool). if t then record { newer = before; from = part ∷ next ∷ parts } else cut_at (before ++ part ∷ []) (next ∷ parts) i) e
          ∙ way_on.cut_is (before ++ part ∷ [])
          ∙ ap (λ (ns : List Part). record { newer = ns; from = way_on.target ∷ way_on.parts }) (append_assoc before (part ∷ []) way_on.above)

      under : length way_on.front ≤ length f.lower
      under = omega (arith, height, ap length way_on.words_are, length-append way_on.front way_on.rest)

      -- how its frame is closed, and all below it
      abbrev Closes : Type 0
      Closes =
          (w' : World) (limit : ℕ) → LieStill w w' lay p limit → length f.lower < limit → (img : Image) → ArraysAre sc w' lay img.rows →
          AreClosed sc lay p stack w' img (own_instances (part ∷ way_on.above)) (first ∷ way_on.passed)

      abbrev Others : Type 0
      Others = (k : ℕ) → IsOwn (part ∷ next ∷ parts) k → (IsAmong (own_instances (part ∷ way_on.above)) k → ⊥) → IsOwn (way_on.target ∷ way_on.parts) k

      abbrev IsPassedHere : Type 0
      IsPassedHere = IsPassed lay p (length f.lower) (part ∷ next ∷ parts) part (length f.lower)

      passed_on : ArePassed lay p (length f.lower) (part ∷ next ∷ parts) way_on.above way_on.passed
      passed_on =
          passed_further lay p (length u.frame.lower) (length f.lower) part (next ∷ parts) (omega (arith, height, lowest))
          (λ owns. (owned_frame tree code texts w lay p part (next ∷ parts) words f owns).framed.laid) way_on.above way_on.passed way_on.are_passed

      abbrev way_by : AreHigh w lay p (length way_on.front) (own_instances (part ∷ way_on.above)) → IsPassedHere → Others → Closes → Way part (next ∷ parts) words f
      way_by high passed_here others closes =
          record {
            target = way_on.target;
            parts = way_on.parts;
            above = part ∷ way_on.above;
            cut_is = cut_on;
            owns = way_on.owns;
            instance_is = way_on.instance_is;
            front = way_on.front;
            rest = way_on.rest ++ (reverse u.words ++ f.mark ∷ f.control ∷ f.cells);
            words_are =
                f.words_are
                ∙ ap (λ (ws : List Word). ws ++ f.mark ∷ f.control ∷ f.cells) u.lower_is
                ∙ append_assoc u.below (reverse u.words) (f.mark ∷ f.control ∷ f.cells)
                ∙ ap (λ (ws : List Word). ws ++ (reverse u.words ++ f.mark ∷ f.control ∷ f.cells)) way_on.words_are
                ∙ append_assoc way_on.front way_on.rest (reverse u.words ++ f.mark ∷ f.control ∷ f.cells);
            frame = way_on.frame;
            around = way_on.around;
            low = omega (arith, below_it);
            light = way_on.light;
            high = high;
            passed = first ∷ way_on.passed;
            passes = passes_it;
            are_passed = (passed_here, passed_on);
            inside = λ k own. inr (way_on.inside k own);
            others = others;
            frames = λ is each. (each next parts f.lower f.mark f.control f.gives a way_on.inside, way_on.frames is each);
            closes = closes;
          }

      -- its cells in the stack
      lie : take (length f.cells) (drop (length f.lower + 2) stack) ≡ f.cells
      lie = cells_there stack f.lower f.mark f.control f.cells back (whole ∙ ap (λ (ws : List Word). ws ++ back) f.words_are)

      -- an own frame

      module _ (o : Owned tree code texts w lay p part (next ∷ parts) (length f.lower) f.mark f.control f.cells) where
        own_high : IsHigh w lay p (length way_on.front) part.instance
        own_high = record { instance = o.framed.instance; is = o.framed.is; own = o.framed.own; at = length f.lower; laid = o.framed.laid; high = under }

        all_high : AreHigh w lay p (length way_on.front) (own_instances (part ∷ way_on.above))
        all_high =
            subst (λ (t : Bool). AreHigh w lay p (length way_on.front) (if t then own_instances way_on.above else part.instance ∷ own_instances way_on.above)) (sym o.owns) (own_high, way_on.high)

        module _ (w' : World) (limit : ℕ) (stay : LieStill w w' lay p limit) (within : length f.lower < limit) (img : Image) (are : ArraysAre sc w' lay img.rows) where
          shut : IsClosed sc w' lay img part.instance f.cells
          shut = closing sc w' lay img are p part.instance (next ∷ parts) (length f.lower) f.mark f.control f.cells (framed_still sc w w' lay p limit stay o.framed within)

          -- what lies lower is as it was
          lower_stay : LieStill w (leave w' (part.instance ∷ [])) lay p (length f.lower)
          lower_stay =
              record {
                instances = λ j at x there own laid low.
                    numbered_other w'.instances part.instance j (record (instance_at w' part.instance) { left = true }) (λ same. apart j at laid low same)
                    ∙ stay.instances j at x there own laid (omega (arith, low, within));
                same = λ j.
                    let one : IsSameBut (instance_at (leave w' (part.instance ∷ [])) j) (instance_at w' j) = leave_same (part.instance ∷ []) w' j in
                    record { block = one.block ∙ (stay.same j).block; parent = one.parent ∙ (stay.same j).parent; cells = one.cells ∙ (stay.same j).cells };
                processes = leave_processes (part.instance ∷ []) w' ∙ stay.processes;
              }
            where
              apart : (j at : ℕ) → numbered lay.places j ≡ Some (place p at) → at < length f.lower → part.instance ≡ j → ⊥
              apart j at laid low same =
                  let here : length f.lower ≡ at = ap (λ (x : Place). x.at) (some_same (sym o.framed.laid ∙ ap (numbered lay.places) same ∙ laid)) in
                  absurd (omega (arith, here, low))

          later : AreClosed sc lay p stack (leave w' (part.instance ∷ [])) (after_one p (length f.lower) img shut.rows)
              (own_instances way_on.above) way_on.passed
          later =
              way_on.closes (leave w' (part.instance ∷ [])) (length f.lower) lower_stay (omega (arith, height, lowest))
              (after_one p (length f.lower) img shut.rows) shut.are

          closes_own : AreClosed sc lay p stack w' img (own_instances (part ∷ way_on.above)) (first ∷ way_on.passed)
          closes_own =
              subst (λ (t : Bool). AreClosed sc lay p stack w' img (if t then own_instances way_on.above else part.instance ∷ own_instances way_on.above) (first ∷ way_on.passed)) (sym o.owns)
              (own_closed sc lay p stack w' img (length f.lower) f.cells lie way_on.passed part.instance shut
              (own_instances way_on.above) later)

        abbrev AmongAll : Bool → ℕ → Type 0
        AmongAll t k = IsAmong (if t then own_instances way_on.above else part.instance ∷ own_instances way_on.above) k

        others_own : Others
        others_own k (inl own) none = absurd (none (subst (λ (t : Bool). AmongAll t k) (sym o.owns) (inl own.1)))
        others_own k (inr later) none = way_on.others k later (λ among. none (subst (λ (t : Bool). AmongAll t k) (sym o.owns) (inr among)))

        past_own : Way part (next ∷ parts) words f
        past_own = way_by all_high (record { low = omega arith; frame = inl (o.owns, inl (o.owns, refl), o.framed.laid) }) others_own closes_own

      -- one that is lent to an evaluation

      module _ (l : Lent lay (IsInReach w (next ∷ parts)) part f.cells f.home f.gives) where
        lent_high : AreHigh w lay p (length way_on.front) (own_instances (part ∷ way_on.above))
        lent_high =
            subst (λ (t : Bool). AreHigh w lay p (length way_on.front) (if t then own_instances way_on.above else part.instance ∷ own_instances way_on.above)) (sym l.evaluates) way_on.high

        closes_lent : Closes
        closes_lent w' limit stay within img are =
            subst (λ (t : Bool). AreClosed sc lay p stack w' img (if t then own_instances way_on.above else part.instance ∷ own_instances way_on.above) (first ∷ way_on.passed)) (sym l.evaluates)
            (lent_closed sc lay p stack w' img (length f.lower) f.cells lie way_on.passed l.none (own_instances way_on.above)
            (way_on.closes w' limit stay (omega (arith, height, lowest, within)) (after_one p (length f.lower) img img.rows) are))

        others_lent : Others
        others_lent k (inl own) none = true_false l.evaluates own.0
        others_lent k (inr later) none =
            way_on.others k later
            (λ among. none (subst (λ (t : Bool). IsAmong (if t then own_instances way_on.above else part.instance ∷ own_instances way_on.above) k) (sym l.evaluates) among))

        -- no own instance has its frame there
        lent_apart : (k : ℕ) (g : Place) → IsOwn (part ∷ next ∷ parts) k → numbered lay.places k ≡ Some g → g.at ≡ length f.lower → ⊥
        lent_apart k g (inl own) laid at = true_false l.evaluates own.0
        lent_apart k g (inr later) laid at = absurd (omega (arith, at, (own_low tree code texts w lay p (next ∷ parts) f.lower f.mark f.control f.gives a k later g laid).1))

        past_lent : Way part (next ∷ parts) words f
        past_lent = way_by lent_high (record { low = omega arith; frame = inr (l.evaluates, lent_apart) }) others_lent closes_lent

      past : Way part (next ∷ parts) words f
      past = by_shape f.shape
        where
          by_shape : Shape tree code texts w lay p part (next ∷ parts) (length f.lower) f.mark f.control f.cells f.home f.gives → Way part (next ∷ parts) words f
          by_shape (of_own o is) = past_own o
          by_shape (of_lent l) = past_lent l

  -- ---- so far down

  pub way : (outer : List Part) (part : Part) (words : List Word) (f : Frame tree code texts w lay p part outer words) → Around tree code texts w lay p outer f.lower f.mark f.control f.gives → IsOwn (part ∷ outer) i →
      Begins_with stacks p words → length words ≤ stack_limit → (back : List Word) → stack ≡ words ++ back → length words + most_in tree w part + 3 ≤ parts_weight tree w (part ∷ outer) → Way part outer words f
  way [] part words f a own begins small back whole light = by (is_part_of part i) refl
    where
      by : (t : Bool) → is_part_of part i ≡ t → Way part [] words f
      by true e = here part [] words f a e light
      by false e = absurd (part_outer part [] i e own)
  way (next ∷ parts) part words f a own begins small back whole light =
      let inner : InnerFrame tree code texts w lay p stacks = record { part = part; next = next; parts = parts; words = words; frame = f; around = a; begins = begins; small = small } in
      by (is_part_of part i) refl
      (λ within. way parts next a.0.below a.0.frame a.1 within (below_begins inner back whole) (below_small inner back whole)
      ((reverse a.0.words ++ f.mark ∷ f.control ∷ f.cells) ++ back) (lower_there inner back whole) a.0.light)
    where
      by : (t : Bool) → is_part_of part i ≡ t → (IsOwn (next ∷ parts) i → Way next parts a.0.below a.0.frame) → Way part (next ∷ parts) words f
      by true e on = here part (next ∷ parts) words f a e light
      by false e on =
          let inner : InnerFrame tree code texts w lay p stacks = record { part = part; next = next; parts = parts; words = words; frame = f; around = a; begins = begins; small = small } in
          past inner back whole e (on (part_outer part (next ∷ parts) i e own))
