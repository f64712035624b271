-- From the search and what is told of it to the outcomes of the source.
use Rattle.std.proofs.Common.{◌≡◌, refl, sym, ap, subst, ◌∙◌, ℕ, ◌≤◌, Bool, true, false, true≢false, List, length, ◌++◌, Result, Ok, Err, inl, inr, arith}
use Rattle.std.specs.Prelude.{◌⊎◌, ◌||◌, IfOk}
use Rattle.std.specs.List.{All}
use Rattle.std.specs.declared.alloc.AllocError.{AllocError}
use Rattle.algol_tree.specs.Plain.{PProgram}
use Rattle.b67_segment.specs.declared.code.Code.{Code}
use Rattle.b67_schedule.specs.declared.reading.Given.{Given}
use Rattle.b67_faithful.specs.Faithful.{Faithful}
use Rattle.b67_told.specs.declared.Outcome.{Outcome}
use Rattle.b67_told.specs.declared.Told.{Told}
use Rattle.b67_told.specs.Texts.{head_text}
use Rattle.b67_outcomes.specs.declared.found.Found.{Found}
use Rattle.b67_settling.specs.Local.{IsLocal, StacksStayOwn}
use Rattle.b67_outcomes.specs.Finding.{AreAll, AreNoted, IsClosed, IsSearched}
use Rattle.b67_outcomes.specs.Kept.{AreClosed, IsTree}
use Rattle.b67_outcomes.proofs.Histories.{history_one}
use Rattle.b67_outcomes.proofs.Kept.{IsHistoryOf, histories_of, are_kept, kept_so, are_closed, closed_so}
use Rattle.b67_teller.specs.declared.book.Book.{Book}
use Rattle.b67_teller.specs.Books.{GoesAfter, IsConfirmed, IsTooLong, IsLeftOut, IsBook, HasCause, AreTold}
use Rattle.b67_outcomes_all.specs.Outcomes.{IsReplayed, Confirms, IsHistoryTold, TellsOutcomes}
use Rattle.b67_outcomes_all.specs.Outcomes as all
use Rattle.b67_outcomes_all.proofs.Outcomes.{told_are_all}
use Rattle.b67_outcomes_all.proofs.Kept.{histories_told}
use Rattle.b67_list.proofs.Truths.{or_either}
use Rattle.b67_explorer.specs.Cells.{IsLocalThere}
use Rattle.b67_explorer.specs.declared.explored.Explored.{Explored}
use Rattle.b67_explorer.specs.Texts.{IsTextOf}

-- what a replay of a schedule says, of every source that the code is of
abbrev pub Explains : Code → Given → Outcome → Type 0
Explains code given o = (tree : PProgram) → Faithful tree code → IsReplayed tree given o

neither : (a b : Bool) → (a || b) ≡ false → (a ≡ false) × (b ≡ false)
neither false false e = (refl, refl)
neither false true e = absurd (true≢false e)
neither true b e = absurd (true≢false e)

confirms : (tree : PProgram) (code : Code) → Faithful tree code → (x : Told) → IsConfirmed Explains code x → Confirms tree x.schedule x.outcome
confirms tree code f x c = record { replayed = c.explained tree f; own = c.own }

-- what the search has found, and that no state of it was kept twice
pub record IsFound (code : Code) (most : ℕ) (found : Found) : Type 0 where
  pub searched : IsSearched code most found
  pub tree : IsTree code (IsLocalThere code) found
  pub some : 1 ≤ length found.states.items
  pub noted : AreNoted code found
  pub closed : found.cut ≡ false → IsClosed code (IsLocalThere code) found
  pub stacks : StacksStayOwn code

pub assembled : (tree : PProgram) (code : Code) (most : ℕ) (found : Found) (book : Book) (explored : Explored) → Faithful tree code → IsFound code most found
    → (found.cut ≡ false → AreAll code found) → IsBook Explains code book → HasCause Explains code found book
    → (book.cut ≡ false → AreTold code found book.told.items) → IsTextOf found book explored → TellsOutcomes tree most explored.text.items explored.cut
assembled tree code most found book explored f x whole b cause told t =
    let histories = histories_of code found.steps.items found.states.items x.searched.led x.searched.states in
    record {
      telling = record { told = book.told.items; states = length found.states.items; cut = found.cut || book.cut };
      are = record {
        code = code;
        faithful = f;
        confirmed = λ k d within. confirms tree code f _ (b.confirmed k d within);
        different = b.different;
        short = let same = ap (λ (z : List ℕ). length z) b.text in let short = b.short in omega (arith, same, short);
        histories = histories.0;
        kept =
            kept_so code (IsLocalThere code) (IsLocal code) (λ img p local. local x.stacks) histories.0
            (are_kept code (IsLocalThere code) found histories.0 histories.1 x.tree x.some);
        states = sym histories.1.size;
        few = x.searched.few;
        closed = closed_or (found.cut) refl histories.0 histories.1;
        told = told_or (book.cut) refl histories.0 histories.1;
        all = λ e. let both = neither found.cut book.cut e in told_are_all tree code found book.told.items f (whole both.0) (told both.1);
        cause = λ e. by (or_either found.cut book.cut e) histories.0 histories.1;
      };
      text_is = t.text ∙ ap (λ (z : List ℕ). head_text (length book.told.items) (found.cut || book.cut) (length found.states.items) ++ z) b.text;
      cut_is = t.cut;
    }
  where
    left_by : (schedule : List ℕ) → IsLeftOut Explains code book.told.items schedule → IsTooLong code book.told.items schedule ⊎ all.IsFull tree book.told.items schedule
    left_by schedule (inl long) = inl long
    left_by schedule (inr full) =
        inr (record {
          item = full.item;
          schedule_is = full.schedule_is;
          confirmed = confirms tree code f full.item full.confirmed;
          other = full.other;
          long = full.long;
        })

    left_out : (histories : List (List ℕ)) → IsHistoryOf found.steps.items found.states.items histories → book.cut ≡ true
        → all.OneIsLeftOut tree code histories book.told.items
    left_out histories are e =
        let y = cause e in
        let own = are.history y.of_found.place y.of_found.state y.of_found.there in
        record {
          place = y.of_found.place;
          history = own.0;
          there = own.1;
          schedule = y.schedule;
          after = subst (λ (h : List ℕ). GoesAfter h y.schedule)
              (history_one found.steps.items y.of_found.state.number y.of_found.history own.0 y.of_found.is own.2) y.of_found.after;
          left = left_by y.schedule y.left;
        }

    closed_or : (cut : Bool) → found.cut ≡ cut → (histories : List (List ℕ)) → IsHistoryOf found.steps.items found.states.items histories
        → ((found.cut || book.cut ≡ true) × (length found.states.items ≡ most)) ⊎ AreClosed code (IsLocal code) histories
    closed_or true e histories are = inl (ap (λ (z : Bool). z || book.cut) e, x.searched.cause e)
    closed_or false e histories are =
        inr (closed_so code (IsLocalThere code) (IsLocal code) (λ img p local. local x.stacks) histories
        (are_closed code (IsLocalThere code) found histories are (x.closed e)))

    told_or : (cut : Bool) → book.cut ≡ cut → (histories : List (List ℕ)) → IsHistoryOf found.steps.items found.states.items histories
        → All (IsHistoryTold code book.told.items) histories ⊎ all.OneIsLeftOut tree code histories book.told.items
    told_or true e histories are = inr (left_out histories are e)
    told_or false e histories are = inl (histories_told code found book.told.items histories are (told e) x.noted)

    by : (found.cut ≡ true) ⊎ (book.cut ≡ true) → (histories : List (List ℕ)) → IsHistoryOf found.steps.items found.states.items histories
        → (length found.states.items ≡ most) ⊎ all.OneIsLeftOut tree code histories book.told.items
    by (inl e) histories are = inl (x.searched.cause e)
    by (inr e) histories are = inr (left_out histories are e)

-- and so where there is an answer
pub answered : (code : Code) (most : ℕ) (found : Found) (book : Book) (result : Result Explored AllocError) → IsFound code most found
    → (found.cut ≡ false → AreAll code found) → IsBook Explains code book → HasCause Explains code found book
    → (book.cut ≡ false → AreTold code found book.told.items) → IfOk result (IsTextOf found book)
    → IfOk result (λ answer. (tree : PProgram) → Faithful tree code → TellsOutcomes tree most answer.text.items answer.cut)
answered code most found book (Ok explored) x whole b cause told t = λ tree f. assembled tree code most found book explored f x whole b cause told t
answered code most found book (Err e) x whole b cause told t = t
