-- The display of a part's frame: below its own place those of the frames down its links.
use Rattle.std.proofs.Common.{◌≡◌, sym, ap, ◌∙◌, subst, ℕ, ◌+◌, ◌-◌, List, ◌∷◌, length, Option, Bool, arith}
use Rattle.b67_frames.proofs.Prelude.{block_numbered, level_of, PProgram, Scopes, Instance, Part, World, or_no_instance, Word, Place, as_mscw, as_rcw, Code, Stacks, place, read_as, Texts, some_same, IsEntered, Links, shown, shown_below, Layout, IsChained, IsInReach, Frame, Owned, of_own, of_lent, run_level, level_of_part, Lent}
use Rattle.algol_tree.specs.Scopes.{scopes_of}
use Rattle.b67_frames.specs.Frames.{Shape, names_at}
use Rattle.b67_frames.proofs.Linked.{Linked, Begins_with, mark_there, control_there, all_linked, all_each, shown_chained}
use Rattle.b67_frames.proofs.Lying.{runs_at}

-- These words, which the stack of process p begins with, end with the frame of a part, and the frame of the part's instance is linked.
module _ (tree : PProgram) (code : Code) (texts : Texts) (w : World) (lay : Layout) (p : ℕ) (stacks : Stacks)
    (part : Part) (outer : List Part) (words : List Word) (f : Frame tree code texts w lay p part outer words)
    (begins : Begins_with stacks p words) (l : Linked (scopes_of tree) w lay stacks part.instance) where
  abbrev sc : Scopes
  sc = scopes_of tree

  abbrev i : ℕ
  i = part.instance

  abbrev top : Place
  top = place p (length f.lower)

  abbrev names : ℕ
  names = names_at tree code texts w lay p part

  -- Its mark leads to a place from which links lead along these frames. Together they are so many as its code runs deep, and a display of
  -- them names the frames of the part's instance and of its static parents.
  pub record Hangs : Type 0 where
    pub home : Place
    pub more : List Place
    pub entered : IsEntered stacks (place p (length f.lower)) home (length more + 2)
    pub links : Links stacks home more
    pub level_is : level_of_part tree code texts w lay p part ≡ length more + 2
    pub chained : IsChained (scopes_of tree) w lay part.instance (names_at tree code texts w lay p part) (shown (place p (length f.lower)) more)

  -- ---- an own frame: those of the static parents

  hangs_own : Owned tree code texts w lay p part outer (length f.lower) f.mark f.control f.cells → Hangs
  hangs_own o =
      record {
        home = l.home;
        more = l.more;
        entered = subst (λ (x : Place). IsEntered stacks x l.home (length l.more + 2)) (some_same (sym l.laid ∙ o.framed.laid)) l.entered;
        links = l.links;
        level_is = sym (runs_at part names o.owns) ∙ l.level_is;
        chained = shown_chained sc w lay i names top l.more o.framed.laid l.level_is l.each;
      }

  -- ---- a frame that is lent: that of its instance, and those of the static parents of that

  module _ (e : Lent lay (IsInReach w outer) part f.cells f.home f.gives) where
    abbrev more : List Place
    more = l.at ∷ l.more

    home_is : f.home ≡ l.at
    home_is = some_same (sym e.linked ∙ l.laid)

    one_more : level_of_part tree code texts w lay p part ≡ length more + 2
    one_more = ap (λ (b : Bool). run_level b names) e.evaluates ∙ omega (arith, l.level_is)

    own_level : f.back.own_level ≡ length more + 2
    own_level =
        f.level_is
        ∙ ap (λ (b : Bool). run_level b (level_of (block_numbered sc.blocks f.instance.block))) e.evaluates
        ∙ ap (λ (x : Option Instance). level_of (block_numbered sc.blocks ((or_no_instance x).block)) + 1) (sym f.is)
        ∙ omega (arith, l.level_is)

    entered_there : IsEntered stacks top f.home (length more + 2)
    entered_there =
        record {
          df = f.df;
          marked = ap (read_as as_mscw) (mark_there tree code texts w lay p stacks part outer words f begins) ∙ f.mark_is;
          control = f.back;
          controlled = ap (read_as as_rcw) (control_there tree code texts w lay p stacks part outer words f begins) ∙ f.control_is;
          level_is = own_level;
        }

    named_chained : IsChained sc w lay i names (shown top more)
    named_chained up low =
        shown_below top more up (names - up) (omega (arith, l.level_is, low)) (omega (arith, low))
        ∙ all_each sc w lay stacks i l up (omega (arith, l.level_is, low))

    hangs_lent : Hangs
    hangs_lent =
        record {
          home = l.at;
          more = more;
          entered = subst (λ (h : Place). IsEntered stacks top h (length more + 2)) home_is entered_there;
          links = all_linked sc w lay stacks i l;
          level_is = one_more;
          chained = named_chained;
        }

  pub hangs : Hangs
  hangs = by_shape f.shape
    where
      by_shape : Shape tree code texts w lay p part outer (length f.lower) f.mark f.control f.cells f.home f.gives → Hangs
      by_shape (of_own o is) = hangs_own o
      by_shape (of_lent e) = hangs_lent e
