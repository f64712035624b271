-- Where a process finds the control word of an actual's code: in the frame of the actual's instance, in whatever stack, and where that code stands.
use Rattle.std.proofs.Common.{◌≡◌, refl, sym, ap, ◌∙◌, subst, ℕ, ◌+◌, List, ◌∷◌, ◌++◌, length, Some, arith, ◌<◌}
use Rattle.b67_list.proofs.Lists.{get_front, get_within}
use Rattle.b67_scenes.proofs.Prelude.{slice_get, block_numbered, level_of, PExpr, PProgram, Scopes, scopes_of, Kind, Instance, instance_at, or_no_instance, segment_of, numbered_small, Word, Place, Fits_pcw, as_sirw, pcw_word, Pcw, Code, word_at, place, cell_word, simple_cells, procedures, actuals_of, made_base, has_place, AreNested, Texts, context_of, control_words, some_same, get_behind, block_few, as_many_values, IsActual, block_controls, IsInReach, Framed}
use Rattle.algol_tree.specs.Plain as forms
use Rattle.algol_meaning.specs.Choice.{is_subscripted}
use Rattle.b67_templates.specs.Cells.{Actual, actual_base}
use Rattle.b67_templates.specs.Code.{RoutineAt}
use Rattle.b67_templates.specs.Fragments.{routine_at}
use Rattle.b67_templates.specs.Programs.{text_of}
use Rattle.b67_frames.proofs.ControlWords.{RoutineThere, routine_there, get_routine, routine_control, fits_there}
use Rattle.b67_scenes.proofs.Finding.{found_laid}
use Rattle.b67_scenes.proofs.Sights.{Seen, seen, cell_below, cell_lies as seen_word}
use Rattle.b67_scenes.proofs.ArrayPlaces.{cell_read}
use Rattle.b67_scenes.proofs.Scene.{Actor}

-- the control word of the code of an actual of the block with this number, where that code begins at this place
abbrev pub routine_of : Scopes → ℕ → PExpr → ℕ → Pcw
routine_of sc j e at = routine_at (has_place e) (segment_of sc.blocks j) at (level_of (block_numbered sc.blocks j) + 1)

-- an actual has a place where it is subscripted
pub same_place : (e : PExpr) → is_subscripted e ≡ has_place e
same_place (forms.number z spot) = refl
same_place (forms.truth b spot) = refl
same_place (forms.variable (forms.subscripted n forms.none)) = refl
same_place (forms.variable (forms.subscripted n (forms.more e es))) = refl
same_place (forms.call c) = refl
same_place (forms.tested test e spot) = refl
same_place (forms.paren e spot) = refl
same_place (forms.plus e spot) = refl
same_place (forms.neg e spot) = refl
same_place (forms.not e spot) = refl
same_place (forms.two op x y) = refl
same_place (forms.if c x y spot) = refl

module _ (tree : PProgram) (code : Code) (texts : Texts) (nested : AreNested (scopes_of tree)) (actor : Actor tree code texts) where
  open actor use {w, lay, img, part, outer, s}

  abbrev sc : Scopes
  sc = scopes_of tree

  module _ (i : ℕ) (e : PExpr) (kind : Kind) (word : Word) (is : IsActual sc w lay (IsInReach w (part ∷ outer)) i e kind word) where
    abbrev actual : Actual
    actual = record { expr = e; kind = kind }

    -- the block in whose text the actual stands
    abbrev block : ℕ
    block = (instance_at w i).block

    -- the place of its code, of which the control word lies in the frame of its instance, below the floor of its process; the word refers to that
    pub record ActualHome : Type 0 where
      pub seen_there : Seen tree code texts actor i
      pub at : ℕ
      pub code_there : RoutineAt sc (context_of code texts sc block) (text_of texts sc block) (level_of (block_numbered sc.blocks block) + 1) actual at
      pub fits : Fits_pcw (routine_of sc block e at)
      pub below : length seen_there.found.lies.frame.lower + is.couple.index < length seen_there.found.core.below
      pub control_lies : word_at img.stacks (place seen_there.found.number (length seen_there.found.lies.frame.lower + is.couple.index)) ≡ Some (pcw_word (routine_of sc block e at))
      pub reads : as_sirw word ≡ Some (record { stack = seen_there.found.number; displacement = length seen_there.found.lies.frame.lower; index = is.couple.index })

    module _ (h : Seen tree code texts actor i) where
      abbrev framed_there : Framed sc w lay h.found.number h.found.lies.part.instance h.found.lies.outer (length h.found.lies.frame.lower) h.found.lies.frame.mark h.found.lies.frame.control h.found.lies.frame.cells
      framed_there = h.found.lies.owned.framed

      abbrev here : Instance
      here = framed_there.instance

      instance_here : instance_at w i ≡ here
      instance_here = ap (instance_at w) (sym h.found.lies.instance_is) ∙ ap or_no_instance framed_there.is

      block_here : block ≡ here.block
      block_here = ap (λ (x : Instance). x.block) instance_here

      abbrev high : ℕ
      high = length h.found.lies.frame.lower

      abbrev ats : List ℕ
      ats = framed_there.ats

      there : slice_get (actuals_of sc (block_numbered sc.blocks here.block)) is.stands.number ≡ Some actual
      there = ap (λ (j : ℕ). slice_get (actuals_of sc (block_numbered sc.blocks j)) is.stands.number) (sym block_here) ∙ is.stands.there

      abbrev Routine : Type 0
      Routine = RoutineThere sc (context_of code texts sc here.block) (text_of texts sc here.block) (level_of (block_numbered sc.blocks here.block) + 1) actual ats is.stands.number

      r : Routine
      r =
          routine_there sc (context_of code texts sc here.block) (text_of texts sc here.block) (level_of (block_numbered sc.blocks here.block) + 1) (actuals_of sc (block_numbered sc.blocks here.block)) ats
          h.found.lies.owned.routines.0 is.stands.number actual there

      abbrev control_of : ℕ → Word
      control_of j = pcw_word (routine_of sc j e r.at)

      abbrev far : ℕ
      far = length (procedures (block_numbered sc.blocks here.block).decls) + is.stands.number

      abbrev many : ℕ
      many = length (simple_cells sc (block_numbered sc.blocks here.block))

      values_long : length framed_there.values ≡ many
      values_long = as_many_values (simple_cells sc (block_numbered sc.blocks here.block)) framed_there.simple framed_there.values framed_there.simple_are

      -- it lies after the values and the control words of procedures
      cells_lie : slice_get h.found.lies.frame.cells (many + far) ≡ Some (control_of here.block)
      cells_lie =
          ap (λ (ws : List Word). slice_get ws (many + far)) framed_there.cells_is
          ∙ get_behind framed_there.values (control_words (block_controls sc here.block ats) ++ framed_there.descriptors) far (many + far) (omega (arith, values_long))
          ∙ get_front (control_words (block_controls sc here.block ats)) framed_there.descriptors far (control_of here.block) (get_routine sc here.block ats is.stands.number actual r.at there r.is)

      index_is : is.couple.index ≡ 2 + (many + far)
      index_is = omega (arith, is.stands.index_is, ap (λ (j : ℕ). actual_base sc (block_numbered sc.blocks j)) block_here)

      low : high + (2 + (many + far)) < length h.found.core.below
      low =
          cell_below tree code texts actor i h (many + far) (get_within h.found.lies.frame.cells (many + far) (control_of here.block) cells_lie)
          (omega (
            arith,
            get_within (actuals_of sc (block_numbered sc.blocks here.block)) is.stands.number actual there,
            ap (λ (j : ℕ). made_base sc (block_numbered sc.blocks j)) block_here,
          ))

      frame_is : is.frame ≡ place h.found.number high
      frame_is = some_same (sym is.laid ∙ found_laid tree code texts w lay img i h.found)

      home_there : ActualHome
      home_there =
          record {
            seen_there = h;
            at = r.at;
            code_there = subst (λ (j : ℕ). RoutineAt sc (context_of code texts sc j) (text_of texts sc j) (level_of (block_numbered sc.blocks j) + 1) actual r.at) (sym block_here) r.code;
            fits = subst (λ (j : ℕ). Fits_pcw (routine_of sc j e r.at)) (sym block_here)
                (fits_there (block_controls sc here.block ats) h.found.lies.owned.routines.1 far (routine_of sc here.block e r.at) (routine_control sc here.block ats is.stands.number actual r.at there r.is));
            below = omega (arith, low, index_is);
            control_lies =
                ap (λ (k : ℕ). word_at img.stacks (place h.found.number (high + k))) index_is
                ∙ seen_word tree code texts actor i h (many + far) (control_of here.block) cells_lie low
                ∙ ap (λ (j : ℕ). Some (control_of j)) (sym block_here);
            reads =
                ap as_sirw is.word_is
                ∙ ap (λ (f : Place). as_sirw (cell_word (record { frame = f; index = is.couple.index }))) frame_is
                ∙ cell_read (record { frame = place h.found.number high; index = is.couple.index }) (omega (arith, numbered_small w.processes h.found.number h.found.process h.found.is, s.by.few))
                (omega (arith, low, h.found.small))
                (omega (
                  arith,
                  index_is,
                  get_within (actuals_of sc (block_numbered sc.blocks here.block)) is.stands.number actual there,
                  block_few sc nested here.block framed_there.known,
                ));
          }

    pub actual_home : ActualHome
    actual_home = home_there (seen tree code texts actor i is.own)
