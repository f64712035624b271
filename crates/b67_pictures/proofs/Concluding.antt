-- The laws of the crate: a code in which a program stands whose blocks lie in one another, and which is short and can be listed, is faithful to it, and
-- its stacks stay own.
use Rattle.b67_pictures.proofs.Prelude.{PProgram, scopes_of, Code, HasNames, AreNested, LiesNested, Texts, ProgramAt, blocks_start, blocks_begin, fragments_are_performed, block_small, TheLaws, the_laws, NestedProgramsAreFaithful, NestedStacksStayOwn}
use Rattle.algol_paths.proofs.Jumps.{jumps_keep_to_their_text}
use Rattle.algol_paths.proofs.Making.{all_is_made_in_order}
use Rattle.algol_paths.proofs.Rests.{rests_keep_to_their_text}
use Rattle.b67_cores.proofs.Making.{cells_are_made}
use Rattle.b67_frames.proofs.ClosedArrays.{frames_close}
use Rattle.b67_pictures.proofs.ArraysMaking.{making_done}
use Rattle.b67_pictures.proofs.TouchingApart.{processes_apart, stacks_apart}
use Rattle.b67_pictures.proofs.ElementActions.{element_read_done, index_done, element_store_done, passing_done}
use Rattle.b67_pictures.proofs.EventActions.{event_made_done, event_deed_done, event_freed_done}
use Rattle.b67_pictures.proofs.Joining.{ArraysAreDone, EventsAreDone, ProcessesAreDone, nested_programs_follow, nested_stacks_stay}
use Rattle.b67_pictures.proofs.StartPicture.{process_started}

abbrev laws : TheLaws
laws = the_laws fragments_are_performed rests_keep_to_their_text all_is_made_in_order

-- what is done with arrays: the picture is kept
arrays_done : (tree : PProgram) (code : Code) (texts : Texts) → AreNested (scopes_of tree) → ArraysAreDone tree code texts
arrays_done tree code texts nested =
    record {
      reading = element_read_done tree code texts laws nested;
      indexing = index_done tree code texts laws nested;
      storing = element_store_done tree code texts laws;
      passing = passing_done tree code texts laws nested;
      making = making_done tree code texts nested laws cells_are_made;
    }

-- what is done with events: it is kept, too
events_done : (tree : PProgram) (code : Code) (texts : Texts) → AreNested (scopes_of tree) → EventsAreDone tree code texts
events_done tree code texts nested =
    record {
      making = event_made_done tree code texts nested laws cells_are_made;
      acting = event_deed_done tree code texts nested laws;
      freeing = event_freed_done tree code texts nested laws;
    }

-- a process is started
processes_done : (tree : PProgram) (code : Code) (at : ProgramAt code tree) → LiesNested tree → HasNames tree → ProcessesAreDone tree code at.texts
processes_done tree code at lies names n gs task actor h =
    process_started tree code at lies (block_small tree names) laws blocks_begin blocks_start actor n gs task h

pub nested_programs_are_faithful : NestedProgramsAreFaithful
nested_programs_are_faithful =
    nested_programs_follow rests_keep_to_their_text all_is_made_in_order jumps_keep_to_their_text frames_close
    processes_apart
    (λ tree code at lies short. arrays_done tree code at.texts lies.nested) (λ tree code at lies. events_done tree code at.texts lies.nested)
    (λ tree code at lies names short. processes_done tree code at lies names)

pub nested_stacks_stay_own : NestedStacksStayOwn
nested_stacks_stay_own =
    nested_stacks_stay rests_keep_to_their_text all_is_made_in_order jumps_keep_to_their_text frames_close
    processes_apart stacks_apart
    (λ tree code at lies short. arrays_done tree code at.texts lies.nested) (λ tree code at lies. events_done tree code at.texts lies.nested)
    (λ tree code at lies names short. processes_done tree code at lies names)
