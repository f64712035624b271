-- ENTR keeps to what it reaches, whatever it enters.
use Rattle.std.proofs.Common.{◌≡◌, inl, refl, subst, ◌∙◌, ℕ, ◌+◌, ◌-◌, ◌<◌, List, Option, Some, None, Bool, true, false, cond, take, drop, arith}
use Rattle.std.specs.Prelude.{◌&&◌, nat_le, nat_lt}
use Rattle.b67_word.specs.declared.Place.{Place}
use Rattle.b67_word.specs.Word.{Word}
use Rattle.b67_control.specs.declared.Registers.{Registers}
use Rattle.b67_control.specs.declared.Mscw.{Mscw}
use Rattle.b67_control.specs.declared.Pcw.{Pcw}
use Rattle.b67_control.specs.Control.{as_mscw, as_pcw}
use Rattle.b67_ops.specs.declared.Operator.{Operator}
use Rattle.b67_ops.specs.declared.Operator.TheVariants as ops
use Rattle.b67_ops.specs.declared.PlainKind.TheVariants as kinds
use Rattle.b67_ops.specs.declared.intrinsic.Intrinsic.{Intrinsic}
use Rattle.b67_ops.specs.declared.intrinsic.Intrinsic.TheVariants as names
use Rattle.b67_segment.specs.declared.code.Code.{Code}
use Rattle.b67_store.specs.Store.{words_of, word_at}
use Rattle.b67_deeds.specs.declared.EventAct.TheVariants as act
use Rattle.b67_deeds.specs.declared.EventTest.TheVariants as test
use Rattle.b67_deeds.specs.Deeds.{acts}
use Rattle.b67_table.specs.declared.Cell.{Cell}
use Rattle.b67_table.specs.declared.InterruptKind.TheVariants.{InvalidOperand}
use Rattle.b67_table.specs.Image.{Image}
use Rattle.b67_table.specs.Limits.{most_cells}
use Rattle.b67_table.specs.Private.{floor}
use Rattle.b67_table.specs.Chains.{place}
use Rattle.b67_table.specs.Look.{found, at, valid}
use Rattle.b67_table.specs.Names.{intrinsic_numbered}
use Rattle.b67_table.specs.References.{cell_of, reached, invalid}
use Rattle.b67_table.specs.Program.{Change}
use Rattle.b67_table.specs.Linkage.{entering, entry}
use Rattle.b67_table.specs.Intrinsics.{row_of_intrinsic, intrinsic_row, intrinsic}
use Rattle.b67_table.specs.Rows.{enter_procedure, level_below, enter_by, not_entered, marked, enter}
use Rattle.b67_footprints.specs.Reaching.{by_word, by_argument, by_its_argument, OperatorLeadsTo, around, home}
use Rattle.b67_footprints.specs.Keeping.{ChangeKeeps, ProgramKeeps}
use Rattle.b67_footprints.proofs.Lists.{Each, each_map, each_take, LiesFrom, each_after}
use Rattle.b67_footprints.proofs.Going.{Any, LookKeeps, look_then, see_then, look_by, look_there}
use Rattle.b67_footprints.proofs.References.{IsAt, own_at, IsReached, reached_kept, valid_kept}
use Rattle.b67_footprints.proofs.Chains.{entering_kept}
use Rattle.b67_footprints.proofs.Calls.{IsArgument, select_kept, write_kept, make_event_kept, tell_event_kept, on_event_kept, wait_for_any_kept, go_to_kept}
use Rattle.b67_footprints.proofs.Making.{arrays_kept}
use Rattle.b67_footprints.proofs.Starting.{start_kept}

module _ (img : Image) (r : Registers) (p : ℕ) (code : Code) (next : ℕ) where
  abbrev op : Operator
  op = ops.Plain kinds.Entr

  abbrev E : Change → Type 0
  E change = ChangeKeeps img op r p change img

  -- ---- intrinsics

  -- the words above the word above the mark are arguments
  abbrev HasArguments : Type 0
  HasArguments = (n : ℕ) (w : Word) → r.f + 1 < n → IsAt img op r n w → IsArgument img op r p w

  row_kept : (name : Intrinsic) (m : Mscw) (words : List Word) → Each (IsArgument img op r p) words → ProgramKeeps img op r p (row_of_intrinsic name code r next m words)
  row_kept names.GoTo m words i = go_to_kept img op r p tt code next m words
  row_kept names.Select m words i = select_kept img op r p tt code next m words
  row_kept names.Arrays m words i = arrays_kept img op r p code next m words
  row_kept names.Event m words i = make_event_kept img op r p tt code next m words
  row_kept names.Start m words i = start_kept img op r p tt code next m words i
  row_kept names.Write m words i = write_kept img op r p tt code next m words
  row_kept names.Wait m words i = on_event_kept img op r p tt code next m (acts act.Wait) words i
  row_kept names.Cause m words i = on_event_kept img op r p tt code next m (acts act.Cause) words i
  row_kept names.Reset m words i = on_event_kept img op r p tt code next m (acts act.Reset) words i
  row_kept names.Happened m words i = tell_event_kept img op r p tt code next m test.Happened words i
  row_kept names.Procure m words i = on_event_kept img op r p tt code next m (acts act.Procure) words i
  row_kept names.Liberate m words i = on_event_kept img op r p tt code next m (acts act.Liberate) words i
  row_kept names.WaitAny m words i = wait_for_any_kept img op r p tt code next m words i
  row_kept names.CauseAndReset m words i = on_event_kept img op r p tt code next m (acts act.CauseAndReset) words i
  row_kept names.Available m words i = tell_event_kept img op r p tt code next m test.Available words i
  row_kept names.Fix m words i = tell_event_kept img op r p tt code next m test.Fix words i

  named_kept : (o : Option Intrinsic) (m : Mscw) (words : List Word) → Each (IsArgument img op r p) words → ProgramKeeps img op r p (intrinsic_row o code r next m words)
  named_kept None m words i = tt
  named_kept (Some name) m words i = row_kept name m words i

  arguments_are : HasArguments → Each (IsArgument img op r p) (take (r.s - (r.f + 2)) (drop (r.f + 2) (words_of img.stacks r.stack)))
  arguments_are i =
      each_take (IsArgument img op r p) (r.s - (r.f + 2)) (drop (r.f + 2) (words_of img.stacks r.stack))
      (each_map (LiesFrom (words_of img.stacks r.stack) (r.f + 2)) (IsArgument img op r p) (λ w k. i k.at w (omega (arith, k.after)) k.is)
      (drop (r.f + 2) (words_of img.stacks r.stack)) (each_after (r.f + 2) (words_of img.stacks r.stack)))

  intrinsic_kept : HasArguments → (number : ℕ) (m : Mscw) → ProgramKeeps img op r p (intrinsic number code r next m)
  intrinsic_kept i number m =
      (refl, named_kept (intrinsic_numbered number) m (take (r.s - (r.f + 2)) (drop (r.f + 2) (words_of img.stacks r.stack))) (arguments_are i))

  -- ---- procedures

  entry_kept : (df : ℕ) (pcw : Pcw) (o : Option Place) → ((h : Place) → o ≡ Some h → OperatorLeadsTo img op r h) → ProgramKeeps img op r p (entry r next df pcw o)
  entry_kept df pcw o i =
      see_then img op r Any E (entering r next (nat_le (r.s - (r.f + 2)) most_cells) r.f pcw o) _
      (entering_kept img op r next (nat_le (r.s - (r.f + 2)) most_cells) r.f pcw o i) (λ e t. (inl refl, (inl refl, (refl, tt))))

  procedure_kept : (m : Mscw) (pcw : Pcw) (o : Option Place) → ((h : Place) → o ≡ Some h → OperatorLeadsTo img op r h) → (pcw.intrinsic ≡ true → HasArguments)
      → ProgramKeeps img op r p (enter_procedure code r next m pcw o)
  procedure_kept m pcw o i k = by_kind pcw.intrinsic refl
    where
      by_kind : (b : Bool) → pcw.intrinsic ≡ b → ProgramKeeps img op r p (cond b (intrinsic pcw.number code r next m) (entry r next m.df pcw o))
      by_kind true e = intrinsic_kept (k e) pcw.number m
      by_kind false e = entry_kept m.df pcw o i

  enter_by_kept : (m : Mscw) (w : Word) → IsAt img op r (r.f + 1) w → (o : Option Cell) → cell_of r w ≡ o → ProgramKeeps img op r p (enter_by code r next m w o)
  enter_by_kept m w i None e =
      see_then img op r (λ (pcw : Pcw). as_pcw w ≡ Some pcw) E (valid (as_pcw w)) _ (valid_kept img op r (as_pcw w)) (λ pcw is.
      procedure_kept m pcw (level_below r pcw.level) (λ h e. around w pcw refl i is e)
      (λ kind n v after there c named. by_argument w v n refl i (pcw, is, kind) after there named))
  enter_by_kept m w i (Some c) e =
      see_then img op r (IsReached img op r) E (reached (Some c)) _
      (reached_kept img op r tt (Some c) (λ d f. by_word (r.f + 1) w refl i (e ∙ f))) (λ v k.
      see_then img op r (λ (pcw : Pcw). as_pcw v.word ≡ Some pcw) E (valid (as_pcw v.word)) _ (valid_kept img op r (as_pcw v.word)) (λ pcw is.
      procedure_kept m pcw (Some v.cell.frame) (λ h f. let same : v.cell.frame ≡ h = cc in subst (OperatorLeadsTo img op r) same (home v.cell v.word pcw k.names k.there is))
      (λ kind n u after there d named. by_its_argument v.word u n refl k.names k.there (pcw, is, kind) after there named)))

  marked_kept : LookKeeps img op r Any (marked r)
  marked_kept =
      look_by img op r Any (nat_le (floor r) r.f && nat_lt (r.f + 1) r.s) _ invalid (
        own_at img op r r.f,
        look_then img op r Any Any (valid (word_at img.stacks (place r.stack r.f))) _ (look_there img op r Any InvalidOperand (word_at img.stacks (place r.stack r.f)) (λ w e. tt)) (λ v t.
            look_then img op r Any Any (valid (as_mscw v)) not_entered (look_there img op r Any InvalidOperand (as_mscw v) (λ m e. tt)) (λ m u.
            look_by img op r Any m.entered invalid (found m) tt tt)),
      ) tt

  pub enter_kept : ProgramKeeps img (ops.Plain kinds.Entr) r p (enter code r next)
  enter_kept =
      see_then img op r Any E (marked r) _ marked_kept (λ m t.
      see_then img op r (IsAt img op r (r.f + 1)) E (at (place r.stack (r.f + 1)) (λ (o : Option Word). valid o)) _
      (own_at img op r (r.f + 1), valid_kept img op r (word_at img.stacks (place r.stack (r.f + 1)))) (λ w i.
      enter_by_kept m w i (cell_of r w) refl))
