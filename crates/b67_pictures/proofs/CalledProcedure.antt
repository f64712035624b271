-- The procedure that an entry or a START names: the frame that holds it, and its control word there.
use Rattle.std.proofs.Common.{◌≡◌, sym, ap, ◌∙◌, subst, ℕ, suc, ◌+◌, ◌≤◌, ◌<◌, List, ◌∷◌, ◌++◌, length, Option, Some, true, arith}
use Rattle.b67_list.proofs.Lists.{get_front, get_within as get_below}
use Rattle.b67_pictures.proofs.Prelude.{slice_get, Block, block_numbered, number_at, around, level_of, PProgram, Scopes, scopes_of, use_of, Named, Instance, instance_at, or_no_instance, ancestor, BlockIsSeen, is_procedure, segment_of, Word, Place, pcw_word, Pcw, Couple, Code, Segment, word_at, place, display_at, simple_cells, procedures, made_base, IsProcedure, code_at, LiesNested, Texts, ProgramAt, control_words, segment_low, get_behind, Linked, level_around, as_many_values, IsParent, IsInReach, block_controls, Found, named_parent, named_seen, named_shown, Actor, Seen, names_in}
use Rattle.b67_control.specs.Control.{Fits_pcw}
use Rattle.b67_templates.specs.Nested.{IsDeclared}
use Rattle.b67_rows.proofs.Numbers.{get_within}
use Rattle.b67_rows.proofs.Segmented.{before_whole, procedure_segment, get_mapped}
use Rattle.b67_frames.proofs.ControlWords.{get_control}
use Rattle.b67_frames.proofs.Lying.{Lies}
use Rattle.b67_scenes.proofs.Led.{named_reached}
use Rattle.b67_scenes.proofs.Sights.{cell_below, cell_lies as seen_word}
use Rattle.b67_pictures.proofs.ParentPlaces.{standing_linked, found_linked}

module _ (tree : PProgram) (code : Code) (program : ProgramAt code tree) (nested : LiesNested tree)
    (actor : Actor tree code program.texts) where
  open actor use {w, lay, img, part, outer, core, s}

  module _ (n : Named) (callee : ℕ) (couple : Couple)
      (named : IsProcedure (scopes_of tree) (names_in tree w part) n callee couple) (seen_there : BlockIsSeen (scopes_of tree) ((instance_at w part.instance).block) n) where
    -- The instance that holds it is an ancestor, whose frame lies in whatever stack; the procedure's segment is there, and its control word lies in that frame.
    pub record CalledProcedure : Type 0 where
      pub parent : IsParent (scopes_of tree) w lay part.instance ((use_of (scopes_of tree) n).up) ((use_of (scopes_of tree) n).block)
      pub in_reach : IsInReach w (part ∷ outer) (ancestor w (use_of (scopes_of tree) n).up part.instance)
      pub seen_frame : Seen tree code program.texts actor (ancestor w (use_of (scopes_of tree) n).up part.instance)
      pub linked : Linked (scopes_of tree) w lay img.stacks (ancestor w (use_of (scopes_of tree) n).up part.instance)
      pub u_known : (use_of (scopes_of tree) n).block < length (scopes_of tree).blocks
      pub known : callee < length (scopes_of tree).blocks
      pub around_is : around (scopes_of tree).blocks callee ≡ (instance_at w (ancestor w (use_of (scopes_of tree) n).up part.instance)).block ∷ around (scopes_of tree).blocks ((instance_at w (ancestor w (use_of (scopes_of tree) n).up part.instance)).block)
      pub is_own : is_procedure (block_numbered (scopes_of tree).blocks callee) ≡ true
      pub fits : Fits_pcw (code_at (segment_of (scopes_of tree).blocks callee) 0 (level_of (block_numbered (scopes_of tree).blocks callee)))
      pub segment_there : (x : Segment) × (slice_get code.segments (segment_of (scopes_of tree).blocks callee) ≡ Some x)
      pub entry_lies : word_at img.stacks (record { stack = (linked.at).stack; at = (linked.at).at + couple.index }) ≡ Some (pcw_word (code_at (segment_of (scopes_of tree).blocks callee) 0 (level_of (block_numbered (scopes_of tree).blocks callee))))
      pub shown : display_at core.registers couple.level ≡ Some linked.at
      pub level_low : names_in tree w part ≤ 31
      pub level_new : level_of (block_numbered (scopes_of tree).blocks callee) ≡ level_of (block_numbered (scopes_of tree).blocks ((use_of (scopes_of tree) n).block)) + 1

    abbrev sc : Scopes
    sc = scopes_of tree

    abbrev texts : Texts
    texts = program.texts

    abbrev names : ℕ
    names = names_in tree w part

    abbrev block : ℕ
    block = (instance_at w part.instance).block

    -- ---- the instance that holds the procedure

    abbrev up : ℕ
    up = (use_of sc n).up

    abbrev u : ℕ
    u = (use_of sc n).block

    abbrev h : ℕ
    h = ancestor w up part.instance

    parent : IsParent sc w lay part.instance up u
    parent = named_parent tree code texts actor n seen_there

    in_reach : IsInReach w (part ∷ outer) h
    in_reach = named_reached tree code texts actor n seen_there

    -- its frame, in whatever stack
    seen_frame : Seen tree code texts actor h
    seen_frame = named_seen tree code texts actor n seen_there

    abbrev found : Found tree code texts w lay img h
    found = seen_frame.found

    abbrev lies : Lies tree code texts w lay found.number (found.part ∷ found.outer) h found.settled
    lies = found.lies

    linked : Linked sc w lay img.stacks h
    linked = standing_linked tree code texts w lay img s.by s.ok h parent.stands

    abbrev x : Instance
    x = seen_frame.found.lies.owned.framed.instance

    block_is : x.block ≡ u
    block_is = ap (λ (o : Option Instance). (or_no_instance o).block) (sym lies.owned.framed.is) ∙ ap (λ (k : ℕ). (instance_at w k).block) lies.instance_is ∙ parent.block

    u_known : u < length sc.blocks
    u_known = subst (λ (k : ℕ). k < length sc.blocks) block_is lies.owned.framed.known

    -- ---- the procedure

    declared : IsDeclared sc u named.declared
    declared = (nested.nested.each u u_known).procedure named.number named.declared named.there

    known : callee < length sc.blocks
    known = subst (λ (k : ℕ). k < length sc.blocks) named.callee_is declared.known

    around_u : around sc.blocks callee ≡ u ∷ around sc.blocks u
    around_u = subst (λ (k : ℕ). around sc.blocks k ≡ u ∷ around sc.blocks u) named.callee_is declared.around_is

    around_is : around sc.blocks callee ≡ (instance_at w h).block ∷ around sc.blocks ((instance_at w h).block)
    around_is = subst (λ (k : ℕ). around sc.blocks callee ≡ k ∷ around sc.blocks k) (sym parent.block) around_u

    is_own : is_procedure (block_numbered sc.blocks callee) ≡ true
    is_own = subst (λ (k : ℕ). is_procedure (block_numbered sc.blocks k) ≡ true) named.callee_is declared.procedure

    abbrev b : Block
    b = block_numbered sc.blocks callee

    level_new : level_of b ≡ level_of (block_numbered sc.blocks u) + 1
    level_new = omega (arith, level_around sc.blocks callee, ap length around_u, level_around sc.blocks u)

    abbrev c : Pcw
    c = code_at (segment_of sc.blocks callee) 0 (level_of b)

    fits : Fits_pcw c
    fits = (
      omega (arith, segment_low sc.blocks (callee ∷ around sc.blocks callee) 1023 nested.nested.procedures_few),
      (omega arith, (omega arith, (omega (arith, (nested.nested.each callee known).low), (omega arith, tt)))),
    )

    -- its segment
    segment_there : (x : Segment) × (slice_get code.segments (segment_of sc.blocks callee) ≡ Some x)
    segment_there =
        get_within code.segments (segment_of sc.blocks callee)
        (omega (arith, program.many, procedure_segment sc.blocks callee is_own, before_whole sc.blocks (suc callee)))

    -- ---- its control word

    abbrev far : ℕ
    far = length (simple_cells sc (block_numbered sc.blocks u)) + named.number

    abbrev controls_there : List Word
    controls_there = control_words (block_controls sc x.block lies.owned.framed.ats)

    control_lies : slice_get controls_there named.number ≡ Some (pcw_word c)
    control_lies =
        ap (λ (k : ℕ). slice_get (control_words (block_controls sc k lies.owned.framed.ats)) named.number) block_is
        ∙ get_control sc u lies.owned.framed.ats named.number
        (segment_of sc.blocks (number_at sc.blocks named.declared.spot))
        (get_mapped (λ (m : Named). segment_of sc.blocks (number_at sc.blocks m.spot)) (procedures (block_numbered sc.blocks u).decls) named.number named.declared named.there)
        ∙ ap (λ (k : ℕ). Some (pcw_word (code_at (segment_of sc.blocks k) 0 (level_of (block_numbered sc.blocks u) + 1)))) named.callee_is
        ∙ ap (λ (l : ℕ). Some (pcw_word (code_at (segment_of sc.blocks callee) 0 l))) (sym level_new)

    -- it lies after the values, before the descriptors of arrays
    cells_lie : slice_get lies.frame.cells far ≡ Some (pcw_word c)
    cells_lie =
        ap (λ (ws : List Word). slice_get ws far) lies.owned.framed.cells_is
        ∙ get_behind lies.owned.framed.values (controls_there ++ lies.owned.framed.descriptors) named.number far
        (omega (
          arith,
          as_many_values (simple_cells sc (block_numbered sc.blocks x.block)) lies.owned.framed.simple lies.owned.framed.values lies.owned.framed.simple_are,
          ap (λ (k : ℕ). length (simple_cells sc (block_numbered sc.blocks k))) block_is,
        ))
        ∙ get_front controls_there lies.owned.framed.descriptors named.number (pcw_word c) control_lies

    far_low : 2 + far < made_base sc (block_numbered sc.blocks ((instance_at w h).block))
    far_low =
        omega (
          arith,
          ap (λ (k : ℕ). made_base sc (block_numbered sc.blocks k)) parent.block,
          get_below (procedures (block_numbered sc.blocks u).decls) named.number named.declared named.there,
        )

    below : length lies.frame.lower + (2 + far) < length found.core.below
    below = cell_below tree code texts actor h seen_frame far (get_below lies.frame.cells far (pcw_word c) cells_lie) far_low

    linked_at : linked.at ≡ place found.number (length lies.frame.lower)
    linked_at = found_linked tree code texts w lay img s.by s.ok h parent.stands linked found

    entry_lies : word_at img.stacks (record { stack = (linked.at).stack; at = (linked.at).at + couple.index }) ≡ Some (pcw_word c)
    entry_lies =
        ap (λ (g : Place). word_at img.stacks (record { stack = g.stack; at = g.at + couple.index })) linked_at
        ∙ ap (λ (k : ℕ). word_at img.stacks (place found.number (length lies.frame.lower + k))) index_far
        ∙ seen_word tree code texts actor h seen_frame far (pcw_word c) cells_lie below
      where
        index_far : couple.index ≡ 2 + far
        index_far = omega (arith, named.index_is)

    shown : display_at core.registers couple.level ≡ Some linked.at
    shown = named_shown tree code texts actor n seen_there couple.level (omega (arith, named.level_is)) seen_frame ∙ ap (λ (g : Place). Some g) (sym linked_at)

    -- ---- its reference

    level_low : names ≤ 31
    level_low =
        omega (
          arith,
          ap (λ (o : Option Instance). level_of (block_numbered sc.blocks ((or_no_instance o).block))) s.stands.frame.is,
          (nested.nested.each s.stands.frame.instance.block s.stands.frame.known).low,
        )

    pub called_procedure : CalledProcedure
    called_procedure =
        record {
          parent = parent;
          in_reach = in_reach;
          seen_frame = seen_frame;
          linked = linked;
          u_known = u_known;
          known = known;
          around_is = around_is;
          is_own = is_own;
          fits = fits;
          segment_there = segment_there;
          entry_lies = entry_lies;
          shown = shown;
          level_low = level_low;
          level_new = level_new;
        }
