-- What the files of these proofs name of the crates below, passed on from one place. Declares nothing.
pub use Rattle.std.proofs.lemmas.Bool.Decides.{nat_tests}
pub use Rattle.std.proofs.lemmas.List.{length-map, reverse-append}
pub use Rattle.std.specs.List.{list_any}
pub use Rattle.std.specs.Prelude.{if◌then◌else◌, map, nat_le, not, replicate, reverse, slice_get, slice_set, ◌&&◌, ◌==◌, ◌||◌}
pub use Rattle.b67_list.specs.Numbered.{numbered, set_numbered}
pub use Rattle.b67_deeds.specs.Events.{EventState}
pub use Rattle.b67_deeds.specs.Listed.{IsListed}
pub use Rattle.algol_tree.specs.Blocks.{Block, around, block_numbered, number_at}
pub use Rattle.algol_tree.specs.Cells.{level_of}
pub use Rattle.algol_tree.specs.Plain.{PBody, PExpr, PProgram}
pub use Rattle.algol_tree.specs.Scopes.{Scopes, scopes_of, use_of}
pub use Rattle.algol_tree.specs.Sorts.{Parameter, Sort, same_name}
pub use Rattle.algol_tree.specs.declared.tree.Kind.{Kind}
pub use Rattle.algol_tree.specs.declared.tree.Named.{Named}
pub use Rattle.algol_meaning.specs.Asks.{Ask, ask, resume}
pub use Rattle.algol_meaning.specs.Critical.{is_evaluation, is_this, own_instances, some_depends}
pub use Rattle.algol_meaning.specs.Events.{list_in}
pub use Rattle.algol_meaning.specs.Instances.{fresh_cells, leave}
pub use Rattle.algol_meaning.specs.Rest.{Given}
pub use Rattle.algol_meaning.specs.Statements.{items_of, settle_items}
pub use Rattle.algol_meaning.specs.Value.{ArrayCell, Bounds, Cell, Reference, Value, array, event, number, reference, simple, whole_of}
pub use Rattle.algol_meaning.specs.World.{Instance, NamedCell, Part, Process, State, World, WorldFault, able, ancestor, by_cell, cell_at, cell_in, cells_with, ended, followed, instance_at, is_able, lives, no_process, or_no_instance, or_no_process, process_at, procures, waits_any, waits_for, with_instance, with_process}
pub use Rattle.algol_paths.specs.Arrays.{DeclaredArray, Made, all_to_make}
pub use Rattle.algol_paths.specs.Blocks.{BlockIsSeen, IsInner, IsSeenAround}
pub use Rattle.algol_paths.specs.Laws.{AllIsMadeInOrder, KeepsToText, RestsKeepToTheirText}
pub use Rattle.algol_paths.specs.Segments.{procedures_before, segment_of}
pub use Rattle.algol_paths.specs.Texts.{InRest}
pub use Rattle.algol_calls.specs.Fits.{has_simple}
pub use Rattle.algol_standing.proofs.Pairs.{home_forth, map_back, stack_back, stack_forth}
pub use Rattle.algol_standing.proofs.Seen.{parent_path, top_stands}
pub use Rattle.algol_standing.proofs.Stacks.{numbered_small}
pub use Rattle.algol_standing.proofs.Standing.{home_stands, stands_path}
pub use Rattle.algol_standing.specs.Fitting.{IsOk}
pub use Rattle.algol_standing.specs.Lows.{IsLow}
pub use Rattle.algol_standing.specs.Skeleton.{FirstOf, Home, IsInSkeleton, NextIn, OnPath, Skeleton, SkeletonNext, SkeletonOk, Stack, down, here}
pub use Rattle.algol_standing.specs.Worlds.{IsAmongParts, IsNoBlock, IsOnPath, IsOwn, IsStanding, IsWholeInstance, newest_own, referred_in_cells, skeleton, stack_of}
pub use Rattle.b67_word.specs.Word.{Word, as_whole}
pub use Rattle.b67_word.specs.declared.Place.{Place}
pub use Rattle.b67_control.proofs.ControlLaws.{as_mscw_mscw_word, as_pcw_pcw_word, as_rcw_rcw_word}
pub use Rattle.b67_control.specs.Control.{Fits_pcw, as_irw, as_mscw, as_pcw, as_rcw, as_sirw, event_word, pcw_word}
pub use Rattle.b67_control.specs.Display.{place_at}
pub use Rattle.b67_control.specs.declared.Descriptor.{Descriptor}
pub use Rattle.b67_control.specs.declared.Mscw.{Mscw}
pub use Rattle.b67_control.specs.declared.Pcw.{Pcw}
pub use Rattle.b67_control.specs.declared.Rcw.{Rcw}
pub use Rattle.b67_control.specs.declared.Registers.{Registers}
pub use Rattle.b67_control.specs.declared.Sirw.{Sirw}
pub use Rattle.b67_ops.specs.Intrinsics.{couple_of_intrinsic, intrinsic_number_of}
pub use Rattle.b67_ops.specs.declared.Couple.{Couple}
pub use Rattle.b67_ops.specs.declared.Operator.{Operator}
pub use Rattle.b67_ops.specs.declared.TheConstants.{OUTER_LEVEL}
pub use Rattle.b67_ops.specs.declared.intrinsic.Intrinsic.{Intrinsic}
pub use Rattle.b67_segment.specs.Operators.{Placed}
pub use Rattle.b67_segment.specs.Syllables.{Spells}
pub use Rattle.b67_segment.specs.declared.code.Code.{Code}
pub use Rattle.b67_segment.specs.declared.code.Segment.{Segment}
pub use Rattle.b67_store.specs.Store.{Stacks, stack_at, stack_limit, word_at, words_of, words_or}
pub use Rattle.b67_events.proofs.EventLaws.{one_event}
pub use Rattle.b67_events.proofs.Listed.{same_place_self}
pub use Rattle.b67_events.specs.Events.{Event, closed_from, event_at, is_from, list_of, same_place, waiters_at}
pub use Rattle.b67_table.proofs.Lists.{numbered_within}
pub use Rattle.b67_table.specs.Beginning.{intrinsic_pcw, system_stack}
pub use Rattle.b67_table.specs.Chains.{frame_below, left_to, linked, place}
pub use Rattle.b67_table.specs.Effect.{Effect, gives, interrupts}
pub use Rattle.b67_table.specs.GoingTo.{Passed}
pub use Rattle.b67_table.specs.Image.{Image, critical_in, critical_of, is_live, woken_number}
pub use Rattle.b67_table.specs.Limits.{end_of_code, most_cells, most_processes}
pub use Rattle.b67_table.specs.Linkage.{base_control, control_word, entered_mark}
pub use Rattle.b67_table.specs.Look.{Look, look_seen, read_as, ◌>->◌}
pub use Rattle.b67_table.specs.Outcome.{limit, limited}
pub use Rattle.b67_table.specs.Private.{at_or, display_at, floor, frame}
pub use Rattle.b67_table.specs.Questions.{live_criticals}
pub use Rattle.b67_table.specs.References.{cell_of, cell_place, cell_word, sirw_cell}
pub use Rattle.b67_table.specs.Sound.{Lives}
pub use Rattle.b67_table.specs.Table.{by_registers, operator_at, plain, stack_length}
pub use Rattle.b67_table.specs.Valid.{AwaitsAt}
pub use Rattle.b67_table.specs.declared.Below.{Below}
pub use Rattle.b67_table.specs.declared.InterruptKind.TheVariants.{BadCode}
pub use Rattle.b67_table.specs.declared.ProcessState.{ProcessState}
pub use Rattle.b67_table.specs.declared.ProcessState.TheVariants.{Able, Ended, Procures, WaitsAny, WaitsFor}
pub use Rattle.b67_letters.specs.Letters.{called_by}
pub use Rattle.b67_templates.specs.Cells.{Found, IsFormalArray, IsVariable, Simple, Wanted, actuals_of, found_from, has_place, made_base, made_from, made_of, parameter_cells, procedures, result_cells_of, simple_cells, variables, zero_cells}
pub use Rattle.b67_templates.specs.Code.{in_routine}
pub use Rattle.b67_templates.specs.Contexts.{Context, Yields, yields_of}
pub use Rattle.b67_templates.specs.Fragments.{Has, HasKind, code_at}
pub use Rattle.b67_templates.specs.Nested.{AreNested, AreTold, IsText, LiesNested}
pub use Rattle.b67_templates.specs.Programs.{Texts, context_of}
pub use Rattle.b67_standing.specs.Standing.{AreNumbers, ComesTo, StandsFor, given_slots, operands}
pub use Rattle.b67_standing.specs.Stepping.{Slot, descriptor, intrinsic, mark, operand}
pub use Rattle.b67_cores.proofs.Moving.{slots_length}
pub use Rattle.b67_cores.proofs.Staying.{steps_stay_above}
pub use Rattle.b67_cores.proofs.Taking.{number_read}
pub use Rattle.b67_cores.specs.Cores.{Core, CoreSteps, HasCore, IsCore, size, with_core}
pub use Rattle.b67_cores.specs.Slots.{Known, SlotsAre, ValueIs, newest}
pub use Rattle.b67_cores.specs.Stretches.{Above, BlocksBegin, CoreAt, CoreBegins, FragmentsArePerformed, control_words}
pub use Rattle.b67_faithful.proofs.Choices.{length_set_numbered}
pub use Rattle.b67_faithful.proofs.Contradictions.{some_same}
pub use Rattle.b67_faithful.specs.Faithful.{IsShortSegment}
pub use Rattle.b67_faithful.specs.Weight.{part_weight, parts_weight, tokens_around, weight}
pub use Rattle.b67_rows.proofs.AskedElements.{ArraySeen, IsAsked}
pub use Rattle.b67_rows.proofs.CriticalRow.{FirstDown, IsAmongPlaces}
pub use Rattle.b67_rows.proofs.Displays.{Links, entered_to, linked_seen, shown, shown_top}
pub use Rattle.b67_rows.proofs.EntryRow.{lower_of}
pub use Rattle.b67_rows.proofs.GivenWords.{AreFit, Taken, taken_words}
pub use Rattle.b67_rows.proofs.Growing.{next_within}
pub use Rattle.b67_rows.proofs.Numbers.{most_or_more, numbered_beyond, numbered_other, same_or_not}
pub use Rattle.b67_rows.proofs.Parents.{length_around}
pub use Rattle.b67_rows.proofs.Parting.{IsSameBut}
pub use Rattle.b67_rows.proofs.Rows.{words_are}
pub use Rattle.b67_rows.proofs.Segmented.{segment_low}
pub use Rattle.b67_rows.proofs.Slotted.{Top, top_slot}
pub use Rattle.b67_rows.proofs.StackWords.{get_behind, get_seam, length_stack}
pub use Rattle.b67_rows.proofs.Texted.{block_keeps, block_makes}
pub use Rattle.b67_rows.proofs.Touching.{FrameAt, IsNearStack, Near, NearCell, NearFrame, below_floor, own_stack, system_frame}
pub use Rattle.b67_rows.proofs.TouchingOperators.{StandsNear}
pub use Rattle.b67_rows.proofs.Words.{mark_read, pcw_refers_nothing, reference_read, value_tag}
pub use Rattle.b67_frames.proofs.ArraysKept.{arrays_unchanged, rows_but, rows_other}
pub use Rattle.b67_frames.proofs.Closing.{FramesClose}
pub use Rattle.b67_frames.proofs.Completing.{complete_of, made_many}
pub use Rattle.b67_frames.proofs.ControlWords.{as_many_controls, block_few, controls_many, routines_long}
pub use Rattle.b67_frames.proofs.EventRows.{FindsEvent, by_reference, directly}
pub use Rattle.b67_frames.proofs.EventsKept.{events_unchanged}
pub use Rattle.b67_frames.proofs.EventsLow.{IsElsewhere}
pub use Rattle.b67_frames.proofs.Facts.{HasFacts, IsStandingOrNone, facts_of}
pub use Rattle.b67_frames.proofs.FewElements.{OneSized, TwoSized, one_sized, two_sized}
pub use Rattle.b67_frames.proofs.Formals.{LeadAll, lead_there}
pub use Rattle.b67_frames.proofs.FreshCells.{fresh_are, fresh_lead, simple_many}
pub use Rattle.b67_frames.proofs.Knowing.{KeepsArrays, Remain, denotes_lasts, keeps_same}
pub use Rattle.b67_frames.proofs.Linked.{Begins_with, Linked, all_linked, begins_core, begins_front, control_there, mark_there}
pub use Rattle.b67_frames.proofs.Lying.{Lies, StayBelow, around_stays, frame_gives, lies_around, lies_in, lies_low, owned_frame, runs_at, runs_low, same_block, weight_stays}
pub use Rattle.b67_frames.proofs.MadeArrays.{as_many_values, low_number}
pub use Rattle.b67_frames.proofs.NamedArrays.{up_complete}
pub use Rattle.b67_frames.proofs.Onward.{StandOn, home_on}
pub use Rattle.b67_frames.proofs.OwnCells.{OwnArray, OwnCells, framed_cells, known_array, none_later}
pub use Rattle.b67_frames.proofs.OwnEvents.{OwnEvent}
pub use Rattle.b67_frames.proofs.SeveralRows.{AreFound}
pub use Rattle.b67_frames.proofs.StaticParents.{IsParent}
pub use Rattle.b67_frames.proofs.Subscripts.{CountsBy}
pub use Rattle.b67_frames.proofs.TouchingCalls.{pcw_no_sirw}
pub use Rattle.b67_frames.proofs.TouchingWords.{AllLead, lead_at}
pub use Rattle.b67_frames.proofs.Variables.{Holds_value, cell_front, value_of_cell}
pub use Rattle.b67_frames.proofs.Zeros.{cells_length, zero_word}
pub use Rattle.b67_frames.specs.Arrays.{Allotted, AreKnown, AreMade, AreSized, ArraysAre, Denotes, DescriptorIs, ElementIsIn, HasArray, IsActual, IsArrayOf, Layout, LeadsToVariable, named_from}
pub use Rattle.b67_frames.specs.Events.{EventsAre, HasEvent}
pub use Rattle.b67_frames.specs.Frames.{ArePlaced, Around, CellIs, CellsAre, Frame, FrameStands, Framed, Frames, IsChained, IsComplete, IsInReach, IsNarrow, ItemsStand, Owned, Refers, RoutinesStand, Shape, Waits, block_controls, controls_count, home_of, most_around, of_lent, of_own, run_level}
pub use Rattle.b67_scenes.specs.Depending.{CriticalIs, IsEventAt, TaskIs}
pub use Rattle.b67_scenes.specs.Pictures.{Living, Pictured, PicturesBy, dead, failure_of, innermost_most, living}
pub use Rattle.b67_scenes.specs.Reaches.{CoreReaches, ReachesFor, none_yet}
pub use Rattle.b67_scenes.specs.States.{StateIs}
pub use Rattle.b67_scenes.specs.Waiting.{AreAwaiting, ListIs, WaitsAre}
