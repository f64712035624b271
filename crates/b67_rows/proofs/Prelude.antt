-- What the files of these proofs name of the crates below, passed on from one place. Declares nothing.
pub use Rattle.std.proofs.lemmas.Bool.Decides.{nat_tests}
pub use Rattle.std.proofs.lemmas.List.{length-reverse, reverse-append}
pub use Rattle.std.specs.List.{AllByRecursion}
pub use Rattle.std.specs.Prelude.{if◌then◌else◌, is_some, nat_eq, nat_le, nat_lt, not, pos, reverse, slice_get, slice_set, ◌&&◌, ◌==◌, ◌||◌}
pub use Rattle.b67_list.specs.Numbered.{numbered, set_numbered}
pub use Rattle.b67_num.specs.declared.FaultKind.{FaultKind}
pub use Rattle.b67_num.specs.declared.FaultKind.TheVariants.{CriticalBlockExit, NotAVariable}
pub use Rattle.b67_deeds.specs.declared.Letter.TheVariants.{Enter, Read, Resolve}
pub use Rattle.algol_tree.specs.Blocks.{Block, around, block_numbered, number_at}
pub use Rattle.algol_tree.specs.Counts.{decls_tokens, expr_tokens, exprs_tokens, pairs_tokens, stmt_tokens, stmts_tokens}
pub use Rattle.algol_tree.specs.Plain.{PBody, PDecls, PExpr, PExprs, PPair, PStmt, PStmts}
pub use Rattle.algol_tree.specs.Scopes.{Scopes, use_of}
pub use Rattle.algol_tree.specs.Sorts.{procedure_in}
pub use Rattle.algol_tree.specs.declared.token.Spot.{Spot}
pub use Rattle.algol_tree.specs.declared.tree.EventName.{EventName}
pub use Rattle.algol_tree.specs.declared.tree.Kind.{Kind}
pub use Rattle.algol_tree.specs.declared.tree.Named.{Named}
pub use Rattle.algol_tree.specs.declared.tree.Op.{Op}
pub use Rattle.algol_meaning.specs.Asks.{Ask, ask, ask_actuals, ask_aim, ask_hole, enters, enters_block, makes_arrays, makes_event, reads, stores}
pub use Rattle.algol_meaning.specs.Rest.{Actuals, Aim, Given, Hole, Item, Rest, acting, aiming, argument, arrays, bounding, broken, calling, checking, choosing, condition, counting, differing, dropping, element, enter, entering, entering_block, evaluating, event, giving, giving_place, going, in_value, index, inside, inside_place, inverted, left, line, locating, looping, names, negated, over, pass, passed, place_index, place_subscript, preparing, read, reading, refers, resolve, right, select, selecting, starting, stepping, store, storing, subscript, tests, turning, valued, within, writing}
pub use Rattle.algol_meaning.specs.Statements.{decls_items, ending, event_items, items, items_of}
pub use Rattle.algol_meaning.specs.Value.{Value, number, truth}
pub use Rattle.algol_meaning.specs.World.{Process, World, ancestor, instance_at}
pub use Rattle.algol_paths.specs.Arrays.{Made, all_left_to_make, all_to_make, an_event, made_in}
pub use Rattle.algol_paths.specs.Blocks.{BlockIsSeen, IsInner, IsSeenAround}
pub use Rattle.algol_paths.specs.Laws.{KeepsToText}
pub use Rattle.algol_paths.specs.Segments.{is_procedure, segment_of}
pub use Rattle.algol_paths.specs.Texts.{InActuals, InAim, InDeclared, InHole, InItems, InRest, InStmt, InStmts}
pub use Rattle.b67_word.specs.Word.{Word}
pub use Rattle.b67_word.specs.declared.Place.{Place}
pub use Rattle.b67_control.proofs.ControlLaws.{as_pcw_other, as_sirw_other, descriptor_laws, irw_laws}
pub use Rattle.b67_control.specs.Control.{as_descriptor, as_irw, as_mscw, as_pcw, as_rcw, as_sirw, event_word}
pub use Rattle.b67_control.specs.Display.{place_at}
pub use Rattle.b67_control.specs.declared.Descriptor.{Descriptor}
pub use Rattle.b67_control.specs.declared.Irw.{Irw}
pub use Rattle.b67_control.specs.declared.Mscw.{Mscw}
pub use Rattle.b67_control.specs.declared.Pcw.{Pcw}
pub use Rattle.b67_control.specs.declared.Rcw.{Rcw}
pub use Rattle.b67_control.specs.declared.Registers.{Registers}
pub use Rattle.b67_control.specs.declared.Sirw.{Sirw}
pub use Rattle.b67_ops.specs.declared.Couple.{Couple}
pub use Rattle.b67_ops.specs.declared.Operator.{Operator}
pub use Rattle.b67_segment.specs.Syllables.{Spells}
pub use Rattle.b67_segment.specs.declared.code.Code.{Code}
pub use Rattle.b67_segment.specs.declared.code.Segment.{Segment}
pub use Rattle.b67_store.proofs.StoreLaws.{opened_others}
pub use Rattle.b67_store.specs.Store.{Stacks, stack_at, with_cut, with_push, with_stack, with_word, word_at, words_of, words_or}
pub use Rattle.b67_table.specs.Arguments.{finished_at, if_chained}
pub use Rattle.b67_table.specs.Arrays.{as_indexed, is_array_descriptor}
pub use Rattle.b67_table.specs.Chains.{chain_broken, control_at, frame_below, left_to, link_of, linked, mark_at, place, rebuilt}
pub use Rattle.b67_table.specs.Effect.{Effect, faults, gives}
pub use Rattle.b67_table.specs.Image.{Image, critical_of, with_registers, with_rows, with_stacks}
pub use Rattle.b67_table.specs.Intrinsics.{intrinsic, intrinsic_row}
pub use Rattle.b67_table.specs.Limits.{end_of_code, most_cells}
pub use Rattle.b67_table.specs.Linkage.{accidental, control_word, entered, entered_mark, if_fits, if_home, is_critical, is_home, leave}
pub use Rattle.b67_table.specs.Look.{Look, at, chained, found, look_seen, read_as, stops, valid, ◌>->◌}
pub use Rattle.b67_table.specs.Moves.{pushed, replaced}
pub use Rattle.b67_table.specs.Names.{intrinsic_numbered}
pub use Rattle.b67_table.specs.Private.{at_or, display_at, floor, frame}
pub use Rattle.b67_table.specs.PrivateRows.{reference}
pub use Rattle.b67_table.specs.Program.{Change, Program, Test, answer, asked, changed, cut, does, done, effect_of, fault, interrupt, registers, save, see, ◌>>=◌}
pub use Rattle.b67_table.specs.Questions.{live_criticals, told}
pub use Rattle.b67_table.specs.References.{Two, cell_in, cell_of, cell_place, cell_word, couple_cell, from_top, invalid, irw_or_sirw, named, no_second, one_sirw, operand_in, reached, reached_in, sirw_cell}
pub use Rattle.b67_table.specs.Rows.{TableRow, cell_or_entry, enter_by, enter_procedure, level_below, not_entered, private_part, store_by, stored, value_or_entry}
pub use Rattle.b67_table.specs.Starting.{on_path}
pub use Rattle.b67_table.specs.Table.{by_row, class_by, operator_at, table}
pub use Rattle.b67_table.specs.declared.Below.{Below}
pub use Rattle.b67_table.specs.declared.Cell.{Cell}
pub use Rattle.b67_table.specs.declared.Entry.{Entry}
pub use Rattle.b67_table.specs.declared.InterruptKind.{InterruptKind}
pub use Rattle.b67_table.specs.declared.InterruptKind.TheVariants.{BadCode, StackUnderflow}
pub use Rattle.b67_table.specs.declared.Reached.{Reached}
pub use Rattle.b67_letters.proofs.Looks.{see_found, then_seen}
pub use Rattle.b67_letters.specs.Letters.{called_by, entered_or, letter, operator_letter, told_by}
pub use Rattle.b67_templates.specs.Arguments.{arguments_in_decls, arguments_in_stmt, arguments_in_stmts}
pub use Rattle.b67_templates.specs.Cells.{Actual, IsOwnActual, Wanted, actuals_among, actuals_given, actuals_in, actuals_in_decls, actuals_in_pairs, actuals_in_stmt, actuals_in_stmts, actuals_of, array, by_name, other, own_actual, procedures, value, wants_of}
pub use Rattle.b67_templates.specs.Depths.{depth}
pub use Rattle.b67_templates.specs.Fragments.{HasKind, operator_for}
pub use Rattle.b67_templates.specs.Nested.{IsText}
pub use Rattle.b67_standing.specs.Stepping.{Slot, operand}
pub use Rattle.b67_cores.specs.Cores.{Core, HasCore, IsCore, stack_of, with_core}
pub use Rattle.b67_cores.specs.Slots.{Known, SlotIs, SlotsAre, ValueIs, newest}
pub use Rattle.b67_footprints.specs.Laws.{HaveOwnStacks, ReachesNoOther}
pub use Rattle.b67_footprints.specs.Reaching.{OperatorReaches}
pub use Rattle.b67_faithful.proofs.Contradictions.{some_same}
pub use Rattle.b67_faithful.proofs.Sources.{reverse_cons}
