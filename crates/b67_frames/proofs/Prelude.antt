-- What the files of these proofs name of the crates below, passed on from one place. Declares nothing.
pub use Rattle.std.proofs.lemmas.Bool.Decides.{nat_tests}
pub use Rattle.std.proofs.lemmas.Int.{ints}
pub use Rattle.std.proofs.lemmas.List.{length-replicate, length-reverse, reverse-reverse}
pub use Rattle.std.specs.Prelude.{if◌then◌else◌, int_le, int_lt, map, nat_abs, nat_eq, nat_le, nat_lt, negsuc, pos, replicate, reverse, slice_get, slice_set, ◌&&◌, ◌-ℤ◌, ◌==◌}
pub use Rattle.b67_list.specs.Numbered.{numbered, set_numbered}
pub use Rattle.b67_num.specs.declared.FaultKind.TheVariants.{ArraySize, BadGoTo, CoreFull, CriticalBlockExit}
pub use Rattle.b67_deeds.specs.Deeds.{EventDeed}
pub use Rattle.b67_deeds.specs.Events.{EventState}
pub use Rattle.algol_tree.specs.Blocks.{Block, around, block_numbered}
pub use Rattle.algol_tree.specs.Cells.{level_of}
pub use Rattle.algol_tree.specs.Counts.{stmt_tokens}
pub use Rattle.algol_tree.specs.Plain.{PDecls, PExpr, PPair, PProgram, PStmt, PStmts}
pub use Rattle.algol_tree.specs.Scopes.{Scopes, use_of}
pub use Rattle.algol_tree.specs.Sorts.{Parameter, is_formal, is_variable, same_name}
pub use Rattle.algol_tree.specs.declared.TheConstants.{MOST_BLOCK_CELLS}
pub use Rattle.algol_tree.specs.declared.tree.Kind.{Kind}
pub use Rattle.algol_tree.specs.declared.tree.Named.{Named}
pub use Rattle.algol_meaning.specs.Arrays.{bounds_of, elements_of, flat, has_no_room, has_wrong_size, live_elements, new_arrays, size_of, size_of_cell, size_of_cells, size_unless, with_element}
pub use Rattle.algol_meaning.specs.Asks.{Ask, ask, ask_actuals, ask_aim, ask_hole, goes_to, resume}
pub use Rattle.algol_meaning.specs.Critical.{is_evaluation, own_instances, referred_in}
pub use Rattle.algol_meaning.specs.Instances.{leave}
pub use Rattle.algol_meaning.specs.Rest.{Actuals, Aim, Answer, Given, Hole, Rest, argument, evaluating, locating, names, refers, valued}
pub use Rattle.algol_meaning.specs.Value.{ArrayCell, Bounds, Cell, NameCell, Reference, Value, array, event, initial_value, named, reference, simple}
pub use Rattle.algol_meaning.specs.World.{Instance, NamedCell, Part, Process, World, ancestor, by_cell, cell_in, cells_with, followed, instance_at, or_no_instance}
pub use Rattle.algol_meaning.specs.declared.TheConstants.{MOST_ELEMENTS}
pub use Rattle.algol_paths.specs.Arrays.{DeclaredArray, Made, Shape, all_to_make, an_array, an_event, lows_of, made_in, shape_of}
pub use Rattle.algol_paths.specs.Blocks.{BlockIsSeen, IsSeenAround}
pub use Rattle.algol_paths.specs.Segments.{segment_of}
pub use Rattle.algol_standing.proofs.Firsts.{below_in}
pub use Rattle.algol_standing.proofs.Pairs.{AllPairs, numbered_forth}
pub use Rattle.algol_standing.specs.Skeleton.{IsInSkeleton, down, here}
pub use Rattle.algol_standing.specs.Worlds.{IsOnPath, IsOwn, IsStanding, newest_own, skeleton}
pub use Rattle.b67_word.specs.Word.{Word, operand}
pub use Rattle.b67_word.specs.declared.Place.{Place}
pub use Rattle.b67_control.proofs.ControlLaws.{Fits_as_rcw}
pub use Rattle.b67_control.specs.Control.{as_descriptor, as_irw, as_mscw, as_rcw, as_sirw, event_word, pcw_word}
pub use Rattle.b67_control.specs.Display.{place_at}
pub use Rattle.b67_control.specs.declared.Descriptor.{Descriptor}
pub use Rattle.b67_control.specs.declared.Irw.{Irw}
pub use Rattle.b67_control.specs.declared.Pcw.{Pcw}
pub use Rattle.b67_control.specs.declared.Registers.{Registers}
pub use Rattle.b67_control.specs.declared.Sirw.{Sirw}
pub use Rattle.b67_ops.specs.Intrinsics.{couple_of_intrinsic, intrinsic_number_of}
pub use Rattle.b67_ops.specs.declared.Couple.{Couple}
pub use Rattle.b67_ops.specs.declared.TheConstants.{OUTER_LEVEL}
pub use Rattle.b67_ops.specs.declared.intrinsic.Intrinsic.{Intrinsic}
pub use Rattle.b67_ops.specs.declared.intrinsic.Intrinsic.TheVariants.{GoTo}
pub use Rattle.b67_segment.specs.declared.code.Code.{Code}
pub use Rattle.b67_store.proofs.StoreLaws.{changed_others, counts}
pub use Rattle.b67_store.specs.Store.{Row, Rows, Stacks, closed_at, counted_words, least_free, live_words, row_at, row_limit, row_with, with_row_word, with_stack, word_at, words_of, zero_row}
pub use Rattle.b67_events.proofs.EventLaws.{one_event}
pub use Rattle.b67_events.specs.Events.{Event, closed_from, event_at, event_opened, is_from, is_open}
pub use Rattle.b67_table.specs.Arguments.{event_of, finished_at, if_chained, wholes_in}
pub use Rattle.b67_table.specs.Arrays.{Extents, array_word, arrays_made, if_held, one, two}
pub use Rattle.b67_table.specs.Beginning.{system_stack}
pub use Rattle.b67_table.specs.Chains.{place, rebuilt}
pub use Rattle.b67_table.specs.Effect.{Effect, faults, gives}
pub use Rattle.b67_table.specs.GoingTo.{Passed, Passing, Target, frames_left, gone_to, passed_by, passed_frames, passing}
pub use Rattle.b67_table.specs.Image.{Image, with_events, with_registers, with_rows, with_stacks}
pub use Rattle.b67_table.specs.Intrinsics.{extents}
pub use Rattle.b67_table.specs.Limits.{end_of_code, segment_numbers}
pub use Rattle.b67_table.specs.Linkage.{array_closed, arrays_closed, caused_by, closed_by, frame_left, if_not_critical, is_critical, leave_base, leave_other, rows_closed}
pub use Rattle.b67_table.specs.Look.{Look, found, look_seen, read_as, valid, ◌>->◌}
pub use Rattle.b67_table.specs.Moves.{pushed}
pub use Rattle.b67_table.specs.Private.{display_at, frame}
pub use Rattle.b67_table.specs.Program.{Change, Program, Test, answer, asked, changed, close_events, close_row, does, done, effect_of, end_process, event_deed, fault, registers, see, ◌>>=◌}
pub use Rattle.b67_table.specs.Questions.{live_criticals}
pub use Rattle.b67_table.specs.References.{cell_place, cell_word, irw_or_sirw}
pub use Rattle.b67_table.specs.Rows.{enter, exit}
pub use Rattle.b67_table.specs.Table.{raw}
pub use Rattle.b67_letters.proofs.Looks.{see_found}
pub use Rattle.b67_templates.proofs.Few.{actuals_are_few}
pub use Rattle.b67_templates.specs.Arguments.{arguments_in_stmts}
pub use Rattle.b67_templates.specs.Cells.{Actual, Found, FoundMade, IsDeclaredArray, IsDeclaredEvent, IsVariable, ShapeAgrees, Simple, Wanted, actuals_of, found_from, made_base, made_from, made_of, procedures, simple_cells, zero_cells}
pub use Rattle.b67_templates.specs.Code.{AreDimensions}
pub use Rattle.b67_templates.specs.Contexts.{Context, Yields}
pub use Rattle.b67_templates.specs.Depths.{stmts_depth}
pub use Rattle.b67_templates.specs.Fragments.{HasKind}
pub use Rattle.b67_templates.specs.Names.{HasNames}
pub use Rattle.b67_templates.specs.Nested.{AreNested, AreTold}
pub use Rattle.b67_templates.specs.Programs.{Texts}
pub use Rattle.b67_standing.specs.Stepping.{HeldWord, Slot, actual, cell_named, element, intrinsic, mark, passed, variable}
pub use Rattle.b67_cores.proofs.Moving.{slots_length}
pub use Rattle.b67_cores.specs.Cores.{Core, HasCore, stack_of, with_core}
pub use Rattle.b67_cores.specs.Slots.{IsKnown, Known, SlotsAre, ValueIs}
pub use Rattle.b67_cores.specs.Stretches.{control_words}
pub use Rattle.b67_faithful.proofs.Contradictions.{some_same}
pub use Rattle.b67_faithful.specs.Weight.{tokens_around}
pub use Rattle.b67_rows.proofs.AskedEntries.{InReferred}
pub use Rattle.b67_rows.proofs.AtOperator.{AtOperator}
pub use Rattle.b67_rows.proofs.Displays.{IsEntered, Links, shown, shown_below}
pub use Rattle.b67_rows.proofs.Growing.{numbered_last}
pub use Rattle.b67_rows.proofs.IntrinsicRows.{CallsIntrinsic, chained_asked, chained_is, cut_words, entered, entered_asked}
pub use Rattle.b67_rows.proofs.Numbers.{get_set, most_or_more, numbered_other, same_or_not}
pub use Rattle.b67_rows.proofs.Parents.{length_around}
pub use Rattle.b67_rows.proofs.Rows.{raw_is, words_are}
pub use Rattle.b67_rows.proofs.StackWords.{get_behind, get_seam, stack_over}
pub use Rattle.b67_rows.proofs.StoreRow.{most_is}
pub use Rattle.b67_rows.proofs.TopRow.{pushed_do}
pub use Rattle.b67_rows.proofs.Weighing.{decls_small, stmt_small, stmts_small}
pub use Rattle.b67_rows.proofs.Words.{pcw_kind, value_tag}
pub use Rattle.b67_frames.specs.Arrays.{Allotted, AreKnown, AreMade, AreSized, ArrayHasRow, ArraysAre, CellIsMade, Denotes, DescriptorIs, ElementIsIn, HasArray, HeldIs, HoldElements, IsActual, IsArrayOf, IsMadeSo, IsNamed, Layout, LeadsToEvent, LeadsToVariable, Names, ReferenceLeadsTo, a_variable_named, an_array_named, an_event_named, live_rows, named_from, open_rows, row_length, row_numbers_of, rows_of_bounds, rows_of_cell, rows_of_cells}
pub use Rattle.b67_frames.specs.Events.{EventsAre, HasEvent}
pub use Rattle.b67_frames.specs.Frames.{ArePlaced, Around, CellIs, CellsAre, Frame, FrameIsPlaced, FrameStands, Framed, IsChained, IsComplete, IsInReach, Owned, Refers, Waits, block_controls, home_of, inside, level_of_part, most_around, of_lent, of_own, outermost, run_level}
pub use Rattle.b67_frames.specs.Lent.{IsOfExpression, Lent}
