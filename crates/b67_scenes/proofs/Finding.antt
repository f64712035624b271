-- Where the frame of an instance that stands lies, in whatever stack, and how much of it lies below the floor of the process whose stack that is.
use Rattle.std.proofs.Common.{◌≡◌, inl, inr, refl, sym, ap, ◌∙◌, subst, ℕ, ◌+◌, ◌<◌, ◌≤◌, Bool, false, List, [], ◌∷◌, ◌++◌, length, Some, arith, append_assoc, append-nil}
use Rattle.b67_list.proofs.Lists.{get_front}
use Rattle.b67_scenes.proofs.Prelude.{if◌then◌else◌, slice_get, numbered, block_numbered, PProgram, Scopes, scopes_of, is_evaluation, own_instances, some_depends, Instance, Process, Part, State, lives, World, instance_at, stack_forth, IsOk, IsLow, IsInSkeleton, IsStanding, IsOwn, IsWholeInstance, stack_of, Word, Place, Code, word_at, stack_limit, place, Image, made_base, Texts, steps_stay_above, Core, size, HasCore, Above, some_same, get_behind, Near, below_floor, NearFrame, IsNearStack, own_stack, begins_core, Lies, owned_frame, lies_low, lies_around, Layout, FrameStands, Around, Frames, Living, Pictured, living, dead, PicturesBy, CoreReaches, ReachesFor}
use Rattle.b67_rows.proofs.Numbers.{get_within}
use Rattle.b67_frames.proofs.Linked.{Entered, AreEntered, lies_entered}
use Rattle.b67_scenes.specs.Reaches as reaching
use Rattle.b67_scenes.proofs.Staying.{frame_low}
use Rattle.b67_scenes.proofs.Worlds.{IsInStack, own_listed, in_stack}

module _ (tree : PProgram) (code : Code) (texts : Texts) (w : World) (lay : Layout) (img : Image) where
  abbrev sc : Scopes
  sc = scopes_of tree

  -- How much of the frame of an instance of this process lies below the floor, where it lies so high and has so many cells, and the process has this core.
  pub data Shows (q : Process) (i high many : ℕ) (now : Core) : Type 0 where
    -- all of it
    wholly : high + 2 + many ≤ length now.below → Shows q i high many now
    -- its two words, and all cells but those that are made; who comes to one of these, comes to one that is there
    but_made : high + made_base (scopes_of tree) (block_numbered (scopes_of tree).blocks ((instance_at w i).block)) ≤ length now.below → IsLow (scopes_of tree) w i → Shows q i high many now
    -- its two words; it is the newest of its process, and no process that lives depends on it
    two_words : high + 2 ≤ length now.below → (older : List ℕ) → own_instances q.todo ≡ i ∷ older → some_depends w.processes i ≡ false → Shows q i high many now

  -- The instance is one of a process that lives. Its frame lies in the words that the process has where it settles, and those begin with the words below
  -- the floor of the core that it has.
  pub record Found (i : ℕ) : Type 0 where
    pub number : ℕ
    pub process : Process
    pub is : numbered w.processes number ≡ Some process
    pub part : Part
    pub outer : List Part
    pub todo : process.todo ≡ part ∷ outer
    pub own : IsOwn (part ∷ outer) i
    pub core : Core
    pub has : HasCore img number core
    pub small : size core ≤ stack_limit
    pub settled : List Word
    pub to_come : List Word
    pub settles : settled ≡ core.below ++ to_come
    pub lies : Lies tree code texts w lay number (part ∷ outer) i settled
    pub shows : Shows process i (length lies.frame.lower) (length lies.frame.cells) core

  module _ (i : ℕ) (f : Found i) where
    abbrev high : ℕ
    high = length f.lies.frame.lower

    abbrev words : List Word
    words = f.lies.frame.mark ∷ f.lies.frame.control ∷ f.lies.frame.cells

    pub found_laid : numbered lay.places i ≡ Some (place f.number (length f.lies.frame.lower))
    found_laid = ap (λ (j : ℕ). numbered lay.places j) (sym f.lies.instance_is) ∙ f.lies.owned.framed.laid

    -- the process is that of the instance
    pub found_process : (x : Instance) → numbered w.instances i ≡ Some x → x.process ≡ f.number
    found_process x is =
        ap (λ (y : Instance). y.process) (some_same (sym is ∙ ap (λ (j : ℕ). numbered w.instances j) (sym f.lies.instance_is) ∙ f.lies.owned.framed.is)) ∙ f.lies.owned.framed.own

    -- its mark and its control word always lie below the floor
    pub two_below : length f.lies.frame.lower + 2 ≤ length f.core.below
    two_below = by_shown f.shows
      where
        by_shown : Shows f.process i high (length f.lies.frame.cells) f.core → high + 2 ≤ length f.core.below
        by_shown (wholly h) = omega (arith, h)
        by_shown (but_made h is_low) = omega (arith, h)
        by_shown (two_words h older newest free) = h

    settled_word : (n : ℕ) (word : Word) → slice_get words n ≡ Some word → slice_get f.settled (high + n) ≡ Some word
    settled_word n word e =
        ap (λ (ws : List Word). slice_get ws (high + n)) f.lies.words_are
        ∙ get_front f.lies.front f.lies.rest (high + n) word
        (ap (λ (ws : List Word). slice_get ws (high + n)) f.lies.frame.words_are ∙ get_behind f.lies.frame.lower words n (high + n) refl ∙ e)

    -- a word below the floor lies in the stack, where the process has it where it settles
    pub settled_sees : (n : ℕ) (x : Word) → n < length f.core.below → slice_get f.settled n ≡ Some x → word_at img.stacks (place f.number n) ≡ Some x
    settled_sees n x low e =
        let there : (y : Word) × (slice_get f.core.below n ≡ Some y) = get_within f.core.below n low in
        let same : there.0 ≡ x = some_same (sym (get_front f.core.below f.to_come n there.0 there.1) ∙ ap (λ (ws : List Word). slice_get ws n) (sym f.settles) ∙ e) in
        begins_core img f.number f.core f.has n x (there.1 ∙ ap (λ (y : Word). Some y) same)

    -- so does one of the frame
    pub word_sees : (n : ℕ) (word : Word) → slice_get (f.lies.frame.mark ∷ f.lies.frame.control ∷ f.lies.frame.cells) n ≡ Some word → length f.lies.frame.lower + n < length f.core.below →
        word_at img.stacks (place f.number (length f.lies.frame.lower + n)) ≡ Some word
    word_sees n word e low = settled_sees (high + n) word low (settled_word n word e)

    -- what lies below the floor is near to each process whose stack it is, and where somebody depends on that
    pub place_near : (p n : ℕ) → IsNearStack p img f.number → n < length f.core.below → Near p img (place f.number n)
    place_near p n (inl own) low = own_stack own
    place_near p n (inr depended) low = below_floor f.core.registers (record { live = f.has.live; is = f.has.registers }) (omega (arith, low, f.has.is.bottom)) depended

    pub frame_near : (p : ℕ) → IsNearStack p img f.number → NearFrame p img (place f.number (length f.lies.frame.lower))
    frame_near p near = (place_near p high near (omega (arith, two_below)), place_near p (high + 1) near (omega (arith, two_below)))

  -- ---- of a picture

  module _ (by : PicturesBy tree code texts w lay img) (ok : IsOk (scopes_of tree) IsWholeInstance w) (i : ℕ) (h : IsInStack tree code texts w lay img by ok i) where
    -- Its innermost part, which stands at its head.
    pub record StandsThere : Type 0 where
      pub part : Part
      pub outer : List Part
      pub todo : h.process.todo ≡ part ∷ outer
      pub living : Living tree code texts w lay img h.number h.process
      pub stands : FrameStands tree code texts w lay h.number part outer living.settled
      pub around : Around tree code texts w lay h.number outer stands.frame.lower stands.frame.mark stands.frame.control stands.frame.gives
      pub reaches : CoreReaches (scopes_of tree) w lay h.number part living.core living.settled

    module _ (there : StandsThere) where
      open there use {part, outer, todo, living as l, stands as s, around as a, reaches as r}

      abbrev top : ℕ
      top = length s.frame.lower

      -- the frame of an own innermost part is that of its instance
      top_is : is_evaluation part.purpose ≡ false → (at : ℕ) → numbered lay.places part.instance ≡ Some (place h.number at) → at ≡ top
      top_is owns at laid = ap (λ (g : Place). g.at) (some_same (sym laid ∙ (owned_frame tree code texts w lay h.number part outer l.settled.below s.frame owns).framed.laid))

      -- all below it lies below the floor
      top_low : CoreReaches sc w lay h.number part l.core l.settled → top ≤ length l.core.below
      top_low (reaching.all same) = omega (arith, same, frame_low tree code texts w lay h.number part outer l.settled.below s.frame)
      top_low (reaching.low at owns laid enough is_low) = omega (arith, top_is owns at laid, enough)
      top_low (reaching.none_yet at owns laid enough free) = omega (arith, top_is owns at laid, enough)

      shows_top : CoreReaches sc w lay h.number part l.core l.settled → is_evaluation part.purpose ≡ false → part.instance ≡ i → Shows h.process i top (length s.frame.cells) l.core
      shows_top (reaching.all same) owns is = wholly (omega (arith, same, frame_low tree code texts w lay h.number part outer l.settled.below s.frame))
      shows_top (reaching.low at mine laid enough is_low) owns is =
          let here : at ≡ top = top_is mine at laid in
          but_made (omega (arith, enough, here, ap (λ (j : ℕ). made_base sc (block_numbered sc.blocks ((instance_at w j).block))) is))
          (subst (λ (j : ℕ). IsLow sc w j) is is_low)
      shows_top (reaching.none_yet at mine laid enough free) owns is =
          two_words (omega (arith, enough, top_is mine at laid)) (own_instances outer)
          (ap own_instances todo ∙ ap (λ (b : Bool). if b then own_instances outer else part.instance ∷ own_instances outer) owns ∙ ap (λ (j : ℕ). j ∷ own_instances outer) is)
          (ap (λ (j : ℕ). some_depends w.processes j) (sym is) ∙ free)

      abbrev above : Above code l.bound l.count l.core l.settled
      above = steps_stay_above code l.bound l.count l.core l.settled l.has.is l.steps

      abbrev lies_top : is_evaluation part.purpose ≡ false → part.instance ≡ i → Lies tree code texts w lay h.number (part ∷ outer) i l.settled.below
      lies_top owns is =
          record {
            part = part;
            outer = outer;
            instance_is = is;
            front = l.settled.below;
            rest = [];
            words_are = sym (append-nil l.settled.below);
            frame = s.frame;
            owned = owned_frame tree code texts w lay h.number part outer l.settled.below s.frame owns;
            around = a;
            inside = λ j own. inr own;
          }

      abbrev around_it : IsOwn outer i → Lies tree code texts w lay h.number outer i s.frame.lower
      around_it own = lies_around tree code texts w lay h.number outer s.frame.lower s.frame.mark s.frame.control s.frame.gives a i own

      abbrev lies_outer : IsOwn outer i → Lies tree code texts w lay h.number (part ∷ outer) i l.settled.below
      lies_outer own =
          let k : Lies tree code texts w lay h.number outer i s.frame.lower = around_it own in
          let back : List Word = s.frame.mark ∷ s.frame.control ∷ s.frame.cells in
          record {
            part = k.part;
            outer = k.outer;
            instance_is = k.instance_is;
            front = k.front;
            rest = k.rest ++ back;
            words_are = s.frame.words_are ∙ ap (λ (ws : List Word). ws ++ back) k.words_are ∙ append_assoc k.front k.rest back;
            frame = k.frame;
            owned = k.owned;
            around = k.around;
            inside = λ j own. inr (k.inside j own);
          }

      found_at : (own : IsOwn (part ∷ outer) i) (lies : Lies tree code texts w lay h.number (part ∷ outer) i l.settled.below) → Shows h.process i (length lies.frame.lower) (length lies.frame.cells) l.core → Found i
      found_at own lies shows =
          record {
            number = h.number;
            process = h.process;
            is = h.is;
            part = part;
            outer = outer;
            todo = todo;
            own = own;
            core = l.core;
            has = l.has;
            small = l.small;
            settled = l.settled.below;
            to_come = above.cells;
            settles = above.below;
            lies = lies;
            shows = shows;
          }

      found_own : IsOwn (part ∷ outer) i → Found i
      found_own (inl own) = found_at (inl own) (lies_top own.0 own.1) (shows_top r own.0 own.1)
      found_own (inr later) =
          found_at (inr later) (lies_outer later)
          (wholly (omega (arith, top_low r, lies_low tree code texts w lay h.number outer i s.frame.lower (around_it later))))

    by_parts : (parts : List Part) → h.process.todo ≡ parts → (l : Living tree code texts w lay img h.number h.process) → Frames tree code texts w lay h.number parts l.settled →
        ReachesFor sc w lay h.number parts l.core l.settled → IsOwn parts i → Found i
    by_parts [] todo l f r own = absurd f
    by_parts (part ∷ outer) todo l f r own = found_own (record { part = part; outer = outer; todo = todo; living = l; stands = f.0; around = f.1; reaches = r }) own

    -- an instance that has a process in whose stack it is, is found there
    pub found_there : Found i
    found_there = by_picture (by.each h.number h.process h.is)
      where
        by_picture : Pictured tree code texts w lay img h.number h.process → Found i
        by_picture (living alive s l) = by_parts h.process.todo refl l l.frames l.reaches (own_listed h.process.todo i h.inside)
        by_picture (dead ended_is s) =
            absurd (subst (λ (is : List ℕ). IsInSkeleton is i)
            (ok.sound.skeleton_ok.ended h.number (stack_of h.process) (stack_forth w h.number h.process h.is) (ap (λ (x : State). lives x) ended_is)) h.inside)

  -- ---- of all that stand

  module _ (by : PicturesBy tree code texts w lay img) (ok : IsOk (scopes_of tree) IsWholeInstance w) where
    -- each instance that stands is found
    pub find : (i : ℕ) → IsStanding w i → Found i
    find i st = found_there by ok i (in_stack tree code texts w lay img by ok i st)

    -- its two words stand in the stack
    entered_there : (i : ℕ) (f : Found i) → Entered (scopes_of tree) w lay img.stacks i
    entered_there i f =
        lies_entered tree code texts w lay f.number img.stacks (f.part ∷ f.outer) i f.settled (length f.core.below) (λ n x low e. there n x low e) f.lies (two_below i f)
      where
        there : (n : ℕ) (x : Word) → n < length f.core.below → slice_get f.settled n ≡ Some x → word_at img.stacks (place f.number n) ≡ Some x
        there n x low e = settled_sees i f n x low e

    pub entered_of : AreEntered (scopes_of tree) w lay img.stacks
    entered_of i st = entered_there i (find i st)

    -- and are near to each process
    pub standing_near : (p i : ℕ) (st : IsStanding w i) → IsNearStack p img (find i st).number → (g : Place) → numbered lay.places i ≡ Some g → NearFrame p img g
    standing_near p i st near g laid = subst (λ (f : Place). NearFrame p img f) (some_same (sym (found_laid i (find i st)) ∙ laid)) (frame_near i (find i st) p near)
