-- The frames of instances in the stacks, and the links between them.
use Rattle.std.proofs.Common.{◌≡◌, refl, sym, ap, ◌∙◌, subst, ℕ, zero, suc, ◌+◌, ◌-◌, ◌<◌, ◌≤◌, List, [], ◌∷◌, ◌++◌, length, Some, arith, append_assoc, length-append}
use Rattle.b67_list.proofs.Lists.{get_front}
use Rattle.b67_list.proofs.Numbers.{none_some}
use Rattle.b67_frames.proofs.Prelude.{slice_get, reverse, numbered, Block, block_numbered, around, level_of, PProgram, Scopes, Instance, Part, World, instance_at, or_no_instance, ancestor, IsStanding, Word, Place, as_mscw, as_rcw, place_at, Code, Stacks, words_of, word_at, place, Image, read_as, Texts, Core, HasCore, some_same, IsEntered, Links, shown, shown_below, length_around, words_are, get_seam, Layout, IsChained, home_of, FrameIsPlaced, outermost, inside, ArePlaced, Frame, Owned}
use Rattle.algol_tree.specs.Scopes.{scopes_of}
use Rattle.b67_rows.proofs.Displays.{root, onward, shown_top}
use Rattle.b67_frames.proofs.Lying.{Lies}

-- the level of a block, by the blocks around it
pub level_around : (bs : List Block) (i : ℕ) → level_of (block_numbered bs i) ≡ length (around bs i) + 2
level_around bs i = sym (length_around bs i)

-- the stack of process p begins with these words
abbrev pub Begins_with : Stacks → ℕ → List Word → Type 0
Begins_with stacks p words = (n : ℕ) (x : Word) → slice_get words n ≡ Some x → word_at stacks (place p n) ≡ Some x

module _ (sc : Scopes) (w : World) (lay : Layout) (stacks : Stacks) where
  -- The frame of an instance stands in some stack, and is linked to where that of its parent is.
  pub record Entered (i : ℕ) : Type 0 where
    pub at : Place
    pub laid : numbered lay.places i ≡ Some at
    pub home : Place
    pub linked : home_of sc w lay ((instance_at w i).parent) ≡ Some home
    pub there : IsEntered stacks at home (level_of (block_numbered sc.blocks ((instance_at w i).block)))

  -- so do the frames of all that stand
  abbrev pub AreEntered : Type 0
  AreEntered = (i : ℕ) → IsStanding w i → Entered i

  -- The frame of an instance stands in some stack, linked to its home, from which links lead down along the frames of its static parents.
  pub record Linked (i : ℕ) : Type 0 where
    pub at : Place
    pub laid : numbered lay.places i ≡ Some at
    pub home : Place
    pub more : List Place
    pub entered : IsEntered stacks at home (length more + 2)
    pub links : Links stacks home more
    pub level_is : level_of (block_numbered sc.blocks ((instance_at w i).block)) ≡ length more + 2
    pub each : (up : ℕ) → up < length more → slice_get more up ≡ numbered lay.places (ancestor w up ((instance_at w i).parent))

  -- so the frames from that of the instance on
  pub all_linked : (i : ℕ) (l : Linked i) → Links stacks l.at (l.at ∷ l.more)
  all_linked i l = onward l.entered l.links

  pub all_each : (i : ℕ) (l : Linked i) (up : ℕ) → up < suc (length l.more) → slice_get (l.at ∷ l.more) up ≡ numbered lay.places (ancestor w up i)
  all_each i l zero low = sym l.laid
  all_each i l (suc up) low = l.each up (omega (arith, low))

  module _ (placed : ArePlaced sc w lay) (entered : AreEntered) where
    abbrev block : ℕ → ℕ
    block i = (instance_at w i).block

    abbrev parent : ℕ → ℕ
    parent i = (instance_at w i).parent

    -- an outermost one is linked to the system's stack
    from_outermost : (i : ℕ) → Entered i → parent i ≡ 0 → around sc.blocks (block i) ≡ [] → Linked i
    from_outermost i e none alone =
        let level : level_of (block_numbered sc.blocks (block i)) ≡ 2 = level_around sc.blocks (block i) ∙ ap (λ (bs : List ℕ). length bs + 2) alone in
        let home : e.home ≡ place 0 0 = some_same (sym e.linked ∙ ap (home_of sc w lay) none) in
        record {
          at = e.at;
          laid = e.laid;
          home = place 0 0;
          more = [];
          entered = subst (λ (n : ℕ). IsEntered stacks e.at (place 0 0) n) level (subst (λ (h : Place). IsEntered stacks e.at h (level_of (block_numbered sc.blocks (block i)))) home e.there);
          links = root;
          level_is = level;
          each = λ up low. absurd (omega (arith, low));
        }

    -- and another one to the frame of its parent
    from_parent : (i : ℕ) → Entered i → Linked (parent i) → around sc.blocks (block i) ≡ block (parent i) ∷ around sc.blocks (block (parent i)) → Linked i
    from_parent i e l alone =
        let level : level_of (block_numbered sc.blocks (block i)) ≡ suc (length l.more) + 2 =
        omega (arith, level_around sc.blocks (block i), ap length alone, l.level_is, level_around sc.blocks (block (parent i))) in
        let home : e.home ≡ l.at = some_same (sym e.linked ∙ home_is (parent i) l.laid) in
        record {
          at = e.at;
          laid = e.laid;
          home = l.at;
          more = l.at ∷ l.more;
          entered = subst (λ (n : ℕ). IsEntered stacks e.at l.at n) level (subst (λ (h : Place). IsEntered stacks e.at h (level_of (block_numbered sc.blocks (block i)))) home e.there);
          links = all_linked (parent i) l;
          level_is = level;
          each = all_each (parent i) l;
        }
      where
        home_is : (k : ℕ) → numbered lay.places k ≡ Some l.at → home_of sc w lay k ≡ Some l.at
        home_is zero f = none_some f
        home_is (suc k) f = f

    linked_by : (bs : List ℕ) (i : ℕ) → IsStanding w i → around sc.blocks (block i) ≡ bs → Linked i
    linked_by [] i st e = by_placed (placed i st)
      where
        by_placed : FrameIsPlaced sc w lay (instance_at w i) → Linked i
        by_placed (outermost none alone) = from_outermost i (entered i st) none alone
        by_placed (inside one_up next made) = absurd (let clash : block (parent i) ∷ around sc.blocks (block (parent i)) ≡ [] = sym next ∙ e in cc)
    linked_by (b ∷ bs) i st e = by_placed (placed i st) (λ j one h. linked_by bs j one h)
      where
        by_placed : FrameIsPlaced sc w lay (instance_at w i) → ((j : ℕ) → IsStanding w j → around sc.blocks (block j) ≡ bs → Linked j) → Linked i
        by_placed (outermost none alone) again = from_outermost i (entered i st) none alone
        by_placed (inside one_up next made) again =
            let both : block (parent i) ∷ around sc.blocks (block (parent i)) ≡ b ∷ bs = sym next ∙ e in
            let rest : around sc.blocks (block (parent i)) ≡ bs = cc in
            from_parent i (entered i st) (again (parent i) one_up rest) next

    -- so are the frames of all that stand
    pub linked : (i : ℕ) → IsStanding w i → Linked i
    linked i st = linked_by (around sc.blocks (block i)) i st refl

-- what begins with words begins with those before them
pub begins_front : (stacks : Stacks) (p : ℕ) (front back : List Word) → Begins_with stacks p (front ++ back) → Begins_with stacks p front
begins_front stacks p front back b n x e = b n x (get_front front back n x e)

-- so does the stack of a process that has a core
pub begins_core : (img : Image) (p : ℕ) (core : Core) → HasCore img p core → Begins_with img.stacks p core.below
begins_core img p core has n x e =
    ap (λ (k : ℕ). slice_get (words_of img.stacks k) n) (sym has.own)
    ∙ ap (λ (ws : List Word). slice_get ws n) (words_are img p core has)
    ∙ get_front core.below (reverse core.words) n x e

module _ (tree : PProgram) (code : Code) (texts : Texts) (w : World) (lay : Layout) (p : ℕ) where
  abbrev sc : Scopes
  sc = scopes_of tree

  -- the two first words of the frame of a part, among these that end with it
  module _ (part : Part) (outer : List Part) (words : List Word) (f : Frame tree code texts w lay p part outer words) where
    pub mark_lies : slice_get words (length f.lower) ≡ Some f.mark
    mark_lies = ap (λ (ws : List Word). slice_get ws (length f.lower)) f.words_are ∙ get_seam f.lower f.mark (f.control ∷ f.cells) (length f.lower) refl

    pub control_lies : slice_get words (length f.lower + 1) ≡ Some f.control
    control_lies =
        ap (λ (ws : List Word). slice_get ws (length f.lower + 1)) (f.words_are ∙ sym (append_assoc f.lower (f.mark ∷ []) (f.control ∷ f.cells)))
        ∙ get_seam (f.lower ++ f.mark ∷ []) f.control f.cells (length f.lower + 1) (sym (length-append f.lower (f.mark ∷ [])))

  module _ (stacks : Stacks) where
    -- an own frame, the two first words of which are there
    pub owned_entered : (part : Part) (outer : List Part) (at : ℕ) (mark control : Word) (cells : List Word) (o : Owned tree code texts w lay p part outer at mark control cells) →
        word_at stacks (place p at) ≡ Some mark → word_at stacks (place p (at + 1)) ≡ Some control → Entered (scopes_of tree) w lay stacks part.instance
    owned_entered part outer at mark control cells o marked controlled =
        let here : o.framed.instance ≡ instance_at w part.instance = sym (ap or_no_instance o.framed.is) in
        record {
          at = place p at;
          laid = o.framed.laid;
          home = o.framed.home;
          linked = ap (λ (x : Instance). home_of sc w lay x.parent) (sym here) ∙ o.framed.linked;
          there = record {
            df = o.framed.df;
            marked = ap (read_as as_mscw) marked ∙ o.framed.mark_is;
            control = o.framed.back;
            controlled = ap (read_as as_rcw) controlled ∙ o.framed.control_is;
            level_is = o.framed.level_is ∙ ap (λ (x : Instance). level_of (block_numbered sc.blocks x.block)) here;
          };
        }

    -- that of an instance of these parts: the stack has the words below some place, and its two first words lie below that
    pub lies_entered : (parts : List Part) (i : ℕ) (words : List Word) (limit : ℕ) → ((n : ℕ) (x : Word) → n < limit → slice_get words n ≡ Some x → word_at stacks (place p n) ≡ Some x) →
        (l : Lies tree code texts w lay p parts i words) → length l.frame.lower + 2 ≤ limit → Entered (scopes_of tree) w lay stacks i
    lies_entered parts i words limit there l low =
        subst (λ (j : ℕ). Entered sc w lay stacks j) l.instance_is
        (owned_entered l.part l.outer (length l.frame.lower) l.frame.mark l.frame.control l.frame.cells l.owned
        (there (length l.frame.lower) l.frame.mark (omega (arith, low)) (in_words (length l.frame.lower) l.frame.mark (mark_lies l.part l.outer l.front l.frame)))
        (there (length l.frame.lower + 1) l.frame.control (omega (arith, low)) (in_words (length l.frame.lower + 1) l.frame.control (control_lies l.part l.outer l.front l.frame))))
      where
        in_words : (n : ℕ) (x : Word) → slice_get l.front n ≡ Some x → slice_get words n ≡ Some x
        in_words n x e = ap (λ (ws : List Word). slice_get ws n) l.words_are ∙ get_front l.front l.rest n x e

    -- the frame of a part, where these words begin the stack
    module _ (part : Part) (outer : List Part) (words : List Word) (f : Frame tree code texts w lay p part outer words) (b : Begins_with stacks p words) where
      pub mark_there : word_at stacks (place p (length f.lower)) ≡ Some f.mark
      mark_there = b (length f.lower) f.mark (mark_lies part outer words f)

      pub control_there : word_at stacks (place p (length f.lower + 1)) ≡ Some f.control
      control_there = b (length f.lower + 1) f.control (control_lies part outer words f)

-- ---- the display of a frame, and of those down its links

pub shown_chained : (sc : Scopes) (w : World) (lay : Layout) (i level : ℕ) (top : Place) (more : List Place) → numbered lay.places i ≡ Some top → level ≡ length more + 2 →
    ((up : ℕ) → up < length more → slice_get more up ≡ numbered lay.places (ancestor w up ((instance_at w i).parent))) → IsChained sc w lay i level (shown top more)
shown_chained sc w lay i level top more laid is each zero low =
    let here : level - 0 ≡ length more + 2 = omega (arith, is) in
    ap (place_at (shown top more)) here ∙ shown_top top more ∙ sym laid
shown_chained sc w lay i level top more laid is each (suc up) low =
    shown_below top more up (level - suc up) (omega (arith, is, low)) (omega (arith, low))
    ∙ each up (omega (arith, is, low))
