-- What the files of these proofs name of the crates below, passed on from one place. Declares nothing.
pub use Rattle.std.proofs.lemmas.Bool.{eq-eqb, eqb-true}
pub use Rattle.std.proofs.lemmas.Bool.Decides.{nat_tests}
pub use Rattle.std.proofs.lemmas.List.{length-reverse, reverse-reverse}
pub use Rattle.std.proofs.lemmas.List.Elements.{recursion_from_All}
pub use Rattle.std.specs.List.{list_any}
pub use Rattle.std.specs.Option.{option_map}
pub use Rattle.std.specs.Prelude.{All, if◌then◌else◌, is_some, map, pos, replicate, reverse, slice_get, slice_set, ◌&&◌, ◌==◌, ◌||◌}
pub use Rattle.b67_list.specs.Numbered.{numbered, set_numbered}
pub use Rattle.b67_num.specs.declared.FaultKind.{FaultKind}
pub use Rattle.b67_num.specs.declared.FaultKind.TheVariants.{InvalidIndex, NotAVariable}
pub use Rattle.b67_deeds.specs.Deeds.{Deed, EventDeed, after_change, answers, deed, is_of_several}
pub use Rattle.b67_deeds.specs.Events.{EventState, caused, joined, left_by}
pub use Rattle.b67_deeds.specs.Listed.{IsListed}
pub use Rattle.b67_deeds.specs.declared.EventAct.{EventAct}
pub use Rattle.b67_deeds.specs.declared.EventTest.{EventTest}
pub use Rattle.b67_deeds.specs.declared.Letter.{Letter}
pub use Rattle.b67_deeds.specs.declared.Letter.TheVariants.{ElementStore, End, Enter, Fault, Leave, Read, Store}
pub use Rattle.algol_tree.specs.Blocks.{Block, around, block_numbered, number_at}
pub use Rattle.algol_tree.specs.Cells.{level_of}
pub use Rattle.algol_tree.specs.Plain.{PBody, PDecls, PPair, PProgram, PStmts}
pub use Rattle.algol_tree.specs.Scopes.{Scopes, scopes_of, use_of}
pub use Rattle.algol_tree.specs.Sorts.{Parameter, Sort, is_formal, is_variable, same_name}
pub use Rattle.algol_tree.specs.declared.TheConstants.{MOST_BLOCK_CELLS}
pub use Rattle.algol_tree.specs.declared.token.Spot.{Spot}
pub use Rattle.algol_tree.specs.declared.tree.Kind.{Kind}
pub use Rattle.algol_tree.specs.declared.tree.Named.{Named}
pub use Rattle.algol_tree.specs.declared.tree.PhraseText.{PhraseText}
pub use Rattle.algol_meaning.specs.Arrays.{subscript_place}
pub use Rattle.algol_meaning.specs.Asks.{Ask, ask, enters, enters_block, event_deed, goes_to, indexes, leaves, located_of, makes_arrays, makes_event, nothing, passes, reads, reads_element, reads_result, resolves, resume, selects, starts, stores, turns, writes}
pub use Rattle.algol_meaning.specs.Choice.{Choice, choice, choice_of, ended_releasing, fails, given_cells, goes, gone_to, here, home, is_subscripted, left_or_ended, left_with, opens, read_of, resolved_of, task_of, wakes_or_waits}
pub use Rattle.algol_meaning.specs.Critical.{first_on_path, is_evaluation, is_this, newest_first, own_instances, referred_by, referred_by_task, referred_in, some_depends}
pub use Rattle.algol_meaning.specs.Events.{all_withdrawn, caused_by_end, change_event, event_at, list_in, same_reference, set_event}
pub use Rattle.algol_meaning.specs.Instances.{cut_at, fresh_cells, leave}
pub use Rattle.algol_meaning.specs.Rest.{Answer, Given, Rest, cell, done, element_of, own, there, value}
pub use Rattle.algol_meaning.specs.Settle.{block_of_sort, settle_actual_place}
pub use Rattle.algol_meaning.specs.Statements.{items_from, items_of, settle_items}
pub use Rattle.algol_meaning.specs.Value.{ArrayCell, Bounds, Cell, Reference, Value, array, event, named, number, simple, truth, whole_of}
pub use Rattle.algol_meaning.specs.World.{Instance, NamedCell, Part, Process, Purpose, State, World, able, ancestor, array_in, by_cell, cell_at, cell_in, cells_with, ended, event_in, followed, instance_at, is_able, lives, name_place, or_no_instance, process_at, procures, set_able, set_all_able, set_cell, value_in, waits_any, waits_for, with_instance, with_process}
pub use Rattle.algol_paths.specs.Arrays.{DeclaredArray, Made, Shape, all_left_to_make, all_to_make, an_array, an_event, shape_of}
pub use Rattle.algol_paths.specs.Blocks.{BlockIsSeen, IsInner, IsSeenAround}
pub use Rattle.algol_paths.specs.Laws.{JumpsKeepToTheirText, KeepsToText, RestsKeepToTheirText}
pub use Rattle.algol_paths.specs.Segments.{is_procedure, segment_of}
pub use Rattle.algol_paths.specs.Texts.{InAnswer, InGivens, InName, InRest}
pub use Rattle.algol_standing.proofs.Criticals.{starts_lie_on_paths}
pub use Rattle.algol_standing.proofs.Firsts.{path_first}
pub use Rattle.algol_standing.proofs.Pairs.{stack_forth}
pub use Rattle.algol_standing.proofs.Seen.{in_either}
pub use Rattle.algol_standing.proofs.Stacks.{numbered_small}
pub use Rattle.algol_standing.proofs.Worlds.{first_world_stands}
pub use Rattle.algol_standing.specs.Fitting.{IsOk}
pub use Rattle.algol_standing.specs.Laws.{referred_by_start}
pub use Rattle.algol_standing.specs.Lows.{CellLow, CellsLow, InstanceLow, IsLow, WorldLow}
pub use Rattle.algol_standing.specs.Skeleton.{Home, IsInSkeleton, Stack}
pub use Rattle.algol_standing.specs.Worlds.{Awaits, IsAmongParts, IsNoBlock, IsOnPath, IsOwn, IsStanding, IsWholeInstance, WaitersAreListed, newest_own, referred_in_cells, skeleton, stack_of}
pub use Rattle.b67_word.specs.Word.{Word}
pub use Rattle.b67_word.specs.declared.Place.{Place}
pub use Rattle.b67_control.proofs.ControlLaws.{as_pcw_pcw_word, as_sirw_other, irw_laws, kind_of_pcw_word, sirw_laws}
pub use Rattle.b67_control.specs.Control.{as_irw, as_pcw, as_sirw, event_word, pcw_word}
pub use Rattle.b67_control.specs.Display.{place_at}
pub use Rattle.b67_control.specs.declared.Descriptor.{Descriptor}
pub use Rattle.b67_control.specs.declared.Irw.{Irw}
pub use Rattle.b67_control.specs.declared.Pcw.{Pcw}
pub use Rattle.b67_control.specs.declared.Registers.{Registers}
pub use Rattle.b67_control.specs.declared.Sirw.{Sirw}
pub use Rattle.b67_ops.specs.declared.BranchKind.TheVariants.{Brun}
pub use Rattle.b67_ops.specs.declared.Couple.{Couple}
pub use Rattle.b67_ops.specs.declared.Operator.{Operator}
pub use Rattle.b67_ops.specs.declared.TheConstants.{OUTER_LEVEL}
pub use Rattle.b67_ops.specs.declared.intrinsic.Intrinsic.{Intrinsic}
pub use Rattle.b67_ops.specs.declared.intrinsic.Intrinsic.TheVariants.{Arrays, GoTo, Start}
pub use Rattle.b67_segment.specs.Operators.{Placed}
pub use Rattle.b67_segment.specs.Syllables.{Spells}
pub use Rattle.b67_segment.specs.declared.code.Code.{Code}
pub use Rattle.b67_segment.specs.declared.code.Segment.{Segment}
pub use Rattle.b67_store.specs.Store.{Row, Rows, Stacks, row_at, stack_at, stack_limit, with_word, word_at, words_of, words_or}
pub use Rattle.b67_events.proofs.EventLaws.{one_event}
pub use Rattle.b67_events.proofs.Listed.{same_place_self, same_place_true}
pub use Rattle.b67_events.specs.Events.{Event, closed_from, event_changed, event_is_among, is_from, is_open, list_of, same_place, unlisted, waiters_at, with_state}
pub use Rattle.b67_table.proofs.Lists.{numbered_within}
pub use Rattle.b67_table.specs.Arrays.{as_indexed, index_in}
pub use Rattle.b67_table.specs.Chains.{place, rebuilt}
pub use Rattle.b67_table.specs.Effect.{gives}
pub use Rattle.b67_table.specs.Ending.{failed}
pub use Rattle.b67_table.specs.Image.{Image, is_live, with_events, with_rows, with_stacks, woken_number}
pub use Rattle.b67_table.specs.Limits.{end_of_code, most_processes, segment_limit}
pub use Rattle.b67_table.specs.Linkage.{arrays_closed, control_word, entered_mark, is_critical}
pub use Rattle.b67_table.specs.Look.{look_seen, valid, ◌>->◌}
pub use Rattle.b67_table.specs.Outcome.{Outcome, faults, limit}
pub use Rattle.b67_table.specs.Private.{at_or, display_at, floor, frame}
pub use Rattle.b67_table.specs.Program.{Change, Program, answer, asked, see, ◌>>=◌}
pub use Rattle.b67_table.specs.Questions.{live_criticals}
pub use Rattle.b67_table.specs.References.{cell_of, cell_place, cell_word, couple_cell, irw_or_sirw, reached_in}
pub use Rattle.b67_table.specs.Rows.{is_result, level_below}
pub use Rattle.b67_table.specs.Runs.{Plains, ProcessActs, go, stay}
pub use Rattle.b67_table.specs.Sound.{Lives, OperatorTouches}
pub use Rattle.b67_table.specs.Starting.{frames_with, named_frames, place_of}
pub use Rattle.b67_table.specs.Table.{operator_at, plain}
pub use Rattle.b67_table.specs.Touches.{IsPrivate}
pub use Rattle.b67_table.specs.Valid.{AwaitsAt}
pub use Rattle.b67_table.specs.Writes.{able_again, told_positions}
pub use Rattle.b67_table.specs.declared.Below.{Below}
pub use Rattle.b67_table.specs.declared.ProcessState.{ProcessState}
pub use Rattle.b67_table.specs.declared.ProcessState.TheVariants.{Ended, Procures, WaitsAny, WaitsFor}
pub use Rattle.b67_table.specs.declared.Reached.{Reached}
pub use Rattle.b67_letters.specs.Letters.{element_or_not, letter, letter_of, operator_letter, stored_letter, told_by}
pub use Rattle.b67_letters.specs.Releases.{registers_releases, released_by, releases}
pub use Rattle.b67_templates.proofs.Few.{actuals_are_few}
pub use Rattle.b67_templates.specs.Cells.{IsDeclaredArray, IsDeclaredEvent, IsProcedure, IsRead, IsVariable, ShapeAgrees, Simple, Wanted, actuals_of, has_place, made_base, made_of, of_formal, of_variable, parameter_cells, parameter_wants, procedures, result_cells_of, simple_cells, variables, zero_cells}
pub use Rattle.b67_templates.specs.Code.{CellsAt, in_routine, stmts_count}
pub use Rattle.b67_templates.specs.Contexts.{Context, Yields, yields_of}
pub use Rattle.b67_templates.specs.Depths.{decls_depth, depth, stmts_depth}
pub use Rattle.b67_templates.specs.Fragments.{Has, HasKind, code_at, operator_for}
pub use Rattle.b67_templates.specs.Names.{HasNames}
pub use Rattle.b67_templates.specs.Nested.{AreNested, AreParameters, LiesNested}
pub use Rattle.b67_templates.specs.Programs.{BodyAt, ProgramAt, Texts, context_of}
pub use Rattle.b67_standing.proofs.OnEvents.{ActsAt}
pub use Rattle.b67_standing.proofs.Starting.{blocks_start}
pub use Rattle.b67_standing.specs.Laws.{BlocksStart, RestsGoOn}
pub use Rattle.b67_standing.specs.Standing.{Acted, ActionAt, ActsOnAt, AreNumbers, CodeGoesOn, ComesTo, ElementReadAt, Gives, IsTask, StartsAt, given_slots, of_element, of_row, operands, pushed, selected, start_begun}
pub use Rattle.b67_standing.specs.Stepping.{PlaceIsFound, Slot, control, descriptor, element, held_at, intrinsic, mark, operand, passed, reference, variable}
pub use Rattle.b67_cores.proofs.Beginnings.{blocks_begin}
pub use Rattle.b67_cores.proofs.Moving.{slots_length}
pub use Rattle.b67_cores.proofs.Placing.{fragments_are_performed}
pub use Rattle.b67_cores.specs.Cores.{Core, CoreStep, CoreSteps, HasCore, IsCore, onward, over, size, with_core}
pub use Rattle.b67_cores.specs.Slots.{Known, SlotIs, SlotsAre, ValueIs, newest}
pub use Rattle.b67_cores.specs.Stretches.{BlocksBegin, CellsAreMade, CoreAt, FragmentsArePerformed, StepsArePerformed, StepsComeToLimit, control_words}
pub use Rattle.b67_faithful.proofs.Choices.{ReleasesNone, length_set_numbered}
pub use Rattle.b67_faithful.proofs.Contradictions.{some_same}
pub use Rattle.b67_faithful.specs.Faithful.{Faithful, HasFormats, IsShortSegment}
pub use Rattle.b67_faithful.specs.Simulation.{AreFew}
pub use Rattle.b67_faithful.specs.Weight.{part_weight, parts_weight, tokens_around, weight}
pub use Rattle.b67_rows.proofs.Asked.{reads_seen, stores_seen}
pub use Rattle.b67_rows.proofs.AskedElements.{IsAsked, array_asked, array_seen}
pub use Rattle.b67_rows.proofs.AskedEntries.{InReferred, enters_seen}
pub use Rattle.b67_rows.proofs.AtOperator.{AtOperator, at_operator}
pub use Rattle.b67_rows.proofs.Cored.{has_now, others_have, registers_now, stack_other, system_stays}
pub use Rattle.b67_rows.proofs.CriticalRow.{FirstDown, IsAmongPlaces}
pub use Rattle.b67_rows.proofs.Described.{whole_array}
pub use Rattle.b67_rows.proofs.Displays.{rebuilt_seen, shown, shown_top}
pub use Rattle.b67_rows.proofs.EntryRow.{lower_of}
pub use Rattle.b67_rows.proofs.GivenWords.{ActualsAre, AreFit, Taken, are_fit, fit_many, none_wanted}
pub use Rattle.b67_rows.proofs.Growing.{numbered_before, numbered_earlier, numbered_last}
pub use Rattle.b67_rows.proofs.IndexRows.{with_one, without_two}
pub use Rattle.b67_rows.proofs.IntrinsicRows.{enter_class, without_call}
pub use Rattle.b67_rows.proofs.LeaveRow.{Leaves, after, leaves_here, left_has, left_others, outer_is}
pub use Rattle.b67_rows.proofs.Numbers.{most_or_more, numbered_beyond, numbered_other, same_or_not}
pub use Rattle.b67_rows.proofs.Parting.{IsSameBut, same_but}
pub use Rattle.b67_rows.proofs.PlaceRow.{place_reached_class}
pub use Rattle.b67_rows.proofs.Reaching.{Reaches, reached_through}
pub use Rattle.b67_rows.proofs.ReachingRows.{value_reached_class, with_top}
pub use Rattle.b67_rows.proofs.ReturnRow.{operand_given, return_action, return_class, return_raw}
pub use Rattle.b67_rows.proofs.Rows.{action_is, action_not_plain, fault_not_plain, words_are}
pub use Rattle.b67_rows.proofs.Segmented.{segment_low}
pub use Rattle.b67_rows.proofs.Slotted.{Top, top_slot}
pub use Rattle.b67_rows.proofs.Spelled.{HasText, HaveTexts}
pub use Rattle.b67_rows.proofs.StackWords.{get_behind}
pub use Rattle.b67_rows.proofs.StartRow.{begins_with, first_stack}
pub use Rattle.b67_rows.proofs.StoreRow.{most_is}
pub use Rattle.b67_rows.proofs.TopRow.{with_other}
pub use Rattle.b67_rows.proofs.Touching.{NearCell}
pub use Rattle.b67_rows.proofs.TouchingNames.{cell_named}
pub use Rattle.b67_rows.proofs.TouchingOperators.{StandsNear}
pub use Rattle.b67_rows.proofs.Unmade.{makes, unmade}
pub use Rattle.b67_rows.proofs.Words.{event_refers_nothing, no_pcw, no_sirw, pcw_refers_nothing, reference_read, value_tag}
pub use Rattle.b67_rows.proofs.Yielding.{result_given}
pub use Rattle.b67_frames.proofs.ArraysKept.{arrays_joined, arrays_unchanged, no_elements, no_rows, rows_there}
pub use Rattle.b67_frames.proofs.Closing.{FramesClose, IsClosed}
pub use Rattle.b67_frames.proofs.Completing.{complete_of, made_many}
pub use Rattle.b67_frames.proofs.ControlWords.{block_few, controls_fit}
pub use Rattle.b67_frames.proofs.ElementRows.{ElementFound, element_found}
pub use Rattle.b67_frames.proofs.EventsKept.{event_before, events_joined, events_left, events_replaced, events_unchanged}
pub use Rattle.b67_frames.proofs.EventsLow.{IsElsewhere, event_outside}
pub use Rattle.b67_frames.proofs.ExitRow.{ended_at, exit_action, exit_class}
pub use Rattle.b67_frames.proofs.Facts.{HasFacts, IsStandingOrNone, facts_of}
pub use Rattle.b67_frames.proofs.Formals.{ActualsLead, AreGivenCells, LeadAll, given_are}
pub use Rattle.b67_frames.proofs.FreshCells.{fresh_are, simple_many}
pub use Rattle.b67_frames.proofs.Hanging.{Hangs, hangs}
pub use Rattle.b67_frames.proofs.Knowing.{KeepsArrays, Remain, denotes_lasts, keeps_same, known_is}
pub use Rattle.b67_frames.proofs.Linked.{Begins_with, Linked, all_each, begins_core, begins_front, level_around}
pub use Rattle.b67_frames.proofs.Lying.{StayBelow, asks_as_own, below_frame, frame_gives, known_after, owned_frame, part_stands, runs_at, runs_deep, runs_low, top_still}
pub use Rattle.b67_frames.proofs.MadeArrays.{as_many_values}
pub use Rattle.b67_frames.proofs.NamedArrays.{IsSeenMade, both_seen, named_leads, up_complete}
pub use Rattle.b67_frames.proofs.NamedEvents.{event_leads}
pub use Rattle.b67_frames.proofs.Onward.{StandOn}
pub use Rattle.b67_frames.proofs.OwnCells.{HasCells, OwnCells, framed_cells}
pub use Rattle.b67_frames.proofs.OwnEvents.{OwnEvent, known_event}
pub use Rattle.b67_frames.proofs.Resumed.{frame_resumed}
pub use Rattle.b67_frames.proofs.Segmenting.{block_small}
pub use Rattle.b67_frames.proofs.StaticParents.{IsParent}
pub use Rattle.b67_frames.proofs.TouchingCalls.{call_names, over_top, under_top}
pub use Rattle.b67_frames.proofs.TouchingWords.{found_low, procedure_fits}
pub use Rattle.b67_frames.proofs.VariablesGiven.{variable_leads}
pub use Rattle.b67_frames.proofs.Zeros.{cells_length, zero_word}
pub use Rattle.b67_frames.specs.Arrays.{Allotted, AreKnown, AreMade, ArraysAre, Denotes, HeldIs, HoldElements, IsElement, IsNamed, Layout, LeadsToEvent, LeadsToVariable, ReferenceLeadsTo, named_from}
pub use Rattle.b67_frames.specs.Events.{EventsAre, HasEvent, event_there}
pub use Rattle.b67_frames.specs.Frames.{ArePlaced, Around, CellsAre, Frame, FrameStands, Framed, IsChained, IsComplete, IsInReach, ItemsStand, Owned, Waits, block_controls, controls_count, home_of, most_around, of_lent, of_own, run_level}
pub use Rattle.b67_frames.specs.Lent.{Lent}
pub use Rattle.b67_scenes.proofs.ActualHomes.{routine_of}
pub use Rattle.b67_scenes.proofs.Ancestors.{AreLaid, all_laid}
pub use Rattle.b67_scenes.proofs.ArrayHomes.{MeantArray, array_home}
pub use Rattle.b67_scenes.proofs.ArrayPlaces.{array_index}
pub use Rattle.b67_scenes.proofs.ArraysGiven.{arrays_given, given_lie}
pub use Rattle.b67_scenes.proofs.Calling.{IsCall, IsEntered, call, entered_with, wholes_of}
pub use Rattle.b67_scenes.proofs.ElementHomes.{ElementHome, at_element, element_home}
pub use Rattle.b67_scenes.proofs.Entries.{Calls}
pub use Rattle.b67_scenes.proofs.EventHomes.{EventHome, cell_there, has_there}
pub use Rattle.b67_scenes.proofs.Finding.{Found, find, found_laid, two_below}
pub use Rattle.b67_scenes.proofs.Freeing.{LivesIn, lives_waiting, numbered_swap}
pub use Rattle.b67_scenes.proofs.Homes.{operator_there}
pub use Rattle.b67_scenes.proofs.Idle.{idle_list, idle_nowhere}
pub use Rattle.b67_scenes.proofs.Indices.{Finds, FirstIndex, LastIndex, first_of_two, has_room, in_place, last_index}
pub use Rattle.b67_scenes.proofs.JumpCut.{Way}
pub use Rattle.b67_scenes.proofs.Kept.{AreAlike, LeavesAlone, alike_but, alike_by}
pub use Rattle.b67_scenes.proofs.Landing.{living_of, steps_none}
pub use Rattle.b67_scenes.proofs.Led.{named_parent, named_seen, named_shown, part_there, reached_stands, scene_placed}
pub use Rattle.b67_scenes.proofs.NameHomes.{ActualNamed, LeadsOn, NameCellHome, NameHome, NameStands, for_actual, for_variable, leads_on, name_stands}
pub use Rattle.b67_scenes.proofs.NamedVariables.{names_variable}
pub use Rattle.b67_scenes.proofs.Narrowing.{made_or_around}
pub use Rattle.b67_scenes.proofs.Paths.{CanClimb}
pub use Rattle.b67_scenes.proofs.Scene.{AbleActor, Actor, InnerActor, OutmostActor, Scene, actor_of, frame_is, outmost_actor, scene_of, shown_frame}
pub use Rattle.b67_scenes.proofs.Sights.{Seen, found_own}
pub use Rattle.b67_scenes.proofs.Stage.{choice_is, comes_to, faulted, faults_so, gives_within, goes_on, limit_beyond, process_is, state_there, weight_of}
pub use Rattle.b67_scenes.proofs.StartCalling.{Refers}
pub use Rattle.b67_scenes.proofs.StartingProcess.{rows_before, started_layout, started_world}
pub use Rattle.b67_scenes.proofs.Staying.{FrameStill, chained_stays, context_in, frame_low, frame_still, known_stays, level_in, most_in, names_in, parts_weigh, same_weight, still_low, text_in, top_stays}
pub use Rattle.b67_scenes.proofs.StoringFrames.{CellStore, ChangedCells, IsStored, changed, changed_at, length_cells, length_put, others_at, put, same_of, stored_on, stored_world}
pub use Rattle.b67_scenes.proofs.StoringOthers.{others_stored}
pub use Rattle.b67_scenes.proofs.Tasks.{EventsStay, critical_stays, event_stays, events_before, events_beside, events_kept, events_same, state_stays, task_stays}
pub use Rattle.b67_scenes.proofs.TheLaws.{TheLaws, the_laws}
pub use Rattle.b67_scenes.proofs.TouchingCells.{IsEntry, Names, procedure_there}
pub use Rattle.b67_scenes.proofs.TouchingScene.{by_names}
pub use Rattle.b67_scenes.proofs.VariableHomes.{VariableHome}
pub use Rattle.b67_scenes.proofs.Waiting.{awaiting_beside, fewer_closed, list_stays, number_by, number_is, still_awaiting, waits_kept, waits_still}
pub use Rattle.b67_scenes.proofs.Worlds.{held_of, narrow_of, own_listed}
pub use Rattle.b67_scenes.specs.Depending.{CriticalIs, IsEventAt, TaskIs}
pub use Rattle.b67_scenes.specs.Pictures.{Living, Pictured, Pictures, PicturesBy, dead, living}
pub use Rattle.b67_scenes.specs.States.{StateIs}
pub use Rattle.b67_scenes.specs.Waiting.{AreAwaiting, ListIs, WaitsAre}
pub use Rattle.b67_pictures.specs.Acting.{Does, MayAct, failed_by, gave, stopped}
pub use Rattle.b67_pictures.specs.Programs.{NestedProgramsAreFaithful, NestedStacksStayOwn}
pub use Rattle.b67_listing.specs.Listings.{IsListable}
pub use Rattle.b67_settling.specs.Local.{NobodyDepends, StacksStayOwn}
