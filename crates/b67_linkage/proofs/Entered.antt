-- What an entry at the mark at F comes to.
use Rattle.std.proofs.Common.{◌≡◌, refl, sym, ap, subst, ◌∙◌, ℕ, ◌+◌, ◌-◌, ◌<◌, ◌≤◌, Bool, true, false, List, Option, Some, None, Result, Ok, Err, length, IsSome, is_some, set, get_or, slice_get, cond, arith}
use Rattle.std.specs.Prelude.{nat_le}
use Rattle.std.proofs.lemmas.Bool.{le-leb}
use Rattle.std.proofs.lemmas.List.{length-set}
use Rattle.std.proofs.lemmas.Option.{slice_get-get_or}
use Rattle.b67_word.specs.declared.Place.{Place}
use Rattle.b67_word.specs.Word.{Word}
use Rattle.b67_control.specs.declared.Registers.{Registers}
use Rattle.b67_control.specs.declared.Mscw.{Mscw}
use Rattle.b67_control.specs.declared.Pcw.{Pcw}
use Rattle.b67_store.specs.Store.{Stacks, Rows, stack_at, words_of, words_or, word_at, with_word, stack_limit}
use Rattle.b67_store.proofs.StoreLaws.{changed_here}
use Rattle.b67_table.specs.declared.Entry.{Entry}
use Rattle.b67_table.specs.declared.InterruptKind.{InterruptKind}
use Rattle.b67_table.specs.Effect.{Effect}
use Rattle.b67_table.specs.Effect as effects
use Rattle.b67_table.specs.Outcome.{Outcome, limited, gives, limit}
use Rattle.b67_table.specs.Limits.{most_cells}
use Rattle.b67_table.specs.Look.{Look, found, look_seen, ◌>->◌}
use Rattle.b67_table.specs.Chains.{place}
use Rattle.b67_table.specs.Linkage.{entering, entered, entered_mark, control_word}
use Rattle.b67_table.specs.Rows.{marked}
use Rattle.b67_display.proofs.Linking.{after, seen_then}
use Rattle.b67_linkage.specs.declared.LinkFault.{LinkFault}
use Rattle.b67_linkage.specs.declared.LinkFault.TheVariants.{InvalidOperand, StackUnderflow, StackLimit, BrokenChain}
use Rattle.b67_linkage.specs.Held.{HeldCore, held, LookFinds, refused}
use Rattle.b67_linkage.specs.Entering.{after_look, Opening, opening, frame_opened, enters, cells_above}

abbrev pub outcome_of : Effect HeldCore → Outcome HeldCore
outcome_of e = limited (λ (h : HeldCore). h.regs.s) e

-- what stays within the limit is given
pub within : (h : HeldCore) → h.regs.s ≤ stack_limit → outcome_of (effects.gives h) ≡ gives h
within h low = ap (λ (b : Bool). cond b (gives h) limit) (le-leb h.regs.s stack_limit low)

-- what stops a look refuses the call
pub refused_as : {A : Type 0} (look : Result A InterruptKind) (after : A → HeldCore) (fault : LinkFault) → LookFinds look (Err fault)
    → outcome_of (after_look look after) ≡ refused fault
refused_as look next InvalidOperand e = ap (λ x. outcome_of (after_look x next)) e
refused_as look next StackUnderflow e = ap (λ x. outcome_of (after_look x next)) e
refused_as look next BrokenChain e = ap (λ x. outcome_of (after_look x next)) e
refused_as look next StackLimit e = absurd e

module _ (h : HeldCore) (pcw : Pcw) (home : Place) (cells : ℕ) (m : Mscw) where
  abbrev look_in : Look Entry
  look_in = entering h.regs h.regs.place (nat_le cells most_cells) h.regs.f pcw (Some home)

  abbrev opening_by : Entry → Result Opening InterruptKind
  opening_by e = Ok (record { df = m.df; entry = e })

  abbrev opened_by : Entry → Look Opening
  opened_by e = found (record { df = m.df; entry = e })

  abbrev by_mark : Mscw → Look Opening
  by_mark k = entering h.regs h.regs.place (nat_le (cells_above h.regs) most_cells) h.regs.f pcw (Some home) >-> (λ (e : Entry). found (record { df = k.df; entry = e }))

  opening_is : cells ≡ cells_above h.regs → look_seen h.stacks (marked h.regs) ≡ Ok m
      → look_seen h.stacks (opening h.regs pcw home) ≡ after (look_seen h.stacks look_in) opening_by
  opening_is c e =
      seen_then h.stacks (marked h.regs) by_mark
      ∙ ap (λ (r : Result Mscw InterruptKind). after r (λ (k : Mscw). look_seen h.stacks (by_mark k))) e
      ∙ ap (λ (n : ℕ). look_seen h.stacks (entering h.regs h.regs.place (nat_le n most_cells) h.regs.f pcw (Some home) >-> opened_by)) (sym c)
      ∙ seen_then h.stacks look_in opened_by

  found_no_entry : (look : Result Entry InterruptKind) (fault : LinkFault) → LookFinds look (Err fault)
      → LookFinds (after look opening_by) (Err fault)
  found_no_entry look InvalidOperand e = ap (λ (r : Result Entry InterruptKind). after r opening_by) e
  found_no_entry look StackUnderflow e = ap (λ (r : Result Entry InterruptKind). after r opening_by) e
  found_no_entry look BrokenChain e = ap (λ (r : Result Entry InterruptKind). after r opening_by) e
  found_no_entry look StackLimit e = e

  pub no_entry : (fault : LinkFault) → cells ≡ cells_above h.regs → look_seen h.stacks (marked h.regs) ≡ Ok m → LookFinds (look_seen h.stacks look_in) (Err fault)
      → outcome_of (enters h pcw home) ≡ refused fault
  no_entry fault c e f =
      ap (λ (r : Result Opening InterruptKind). outcome_of (after_look r (frame_opened h pcw))) (opening_is c e)
      ∙ refused_as (after (look_seen h.stacks look_in) opening_by) (frame_opened h pcw) fault
      (found_no_entry (look_seen h.stacks look_in) fault f)

  abbrev marked_stacks : Place → Stacks
  marked_stacks p = with_word h.stacks (place h.regs.stack h.regs.f) (entered_mark p m.df)

  abbrev entered_stacks : Place → Stacks
  entered_stacks p = with_word (marked_stacks p) (place h.regs.stack (h.regs.f + 1)) (control_word h.regs h.regs.place pcw.level)

  pub one_entry : (e : Entry) (once twice : Stacks) (rows : Rows) (w : Word) (r : Registers) → h.regs.s ≤ stack_limit → cells ≡ cells_above h.regs
      → look_seen h.stacks (marked h.regs) ≡ Ok m → look_seen h.stacks look_in ≡ Ok e → e.home ≡ home
      → once ≡ marked_stacks home → w ≡ control_word h.regs h.regs.place pcw.level
      → twice ≡ with_word once (place h.regs.stack (h.regs.f + 1)) w → rows ≡ h.rows
      → r ≡ entered h.regs h.regs.s h.regs.f pcw e cells
      → outcome_of (enters h pcw home) ≡ gives (held twice rows r)
  one_entry e once twice rows w r low c k f at o w_is t r_is q =
      let t_is : entered_stacks e.home ≡ twice =
      ap entered_stacks at ∙ ap (λ (z : Stacks). with_word z (place h.regs.stack (h.regs.f + 1)) (control_word h.regs h.regs.place pcw.level)) (sym o)
      ∙ ap (λ (z : Word). with_word once (place h.regs.stack (h.regs.f + 1)) z) (sym w_is) ∙ sym t in
      let q_is : entered h.regs h.regs.s h.regs.f pcw e (cells_above h.regs) ≡ r =
      ap (λ (n : ℕ). entered h.regs h.regs.s h.regs.f pcw e n) (sym c) ∙ sym q in
      ap (λ (x : Result Opening InterruptKind). outcome_of (after_look x (frame_opened h pcw)))
      (opening_is c k ∙ ap (λ (x : Result Entry InterruptKind). after x opening_by) f)
      ∙ within (frame_opened h pcw (record { df = m.df; entry = e })) low
      ∙ ap (λ (z : Stacks). gives (held z h.rows (entered h.regs h.regs.s h.regs.f pcw e (cells_above h.regs)))) t_is
      ∙ ap (λ (z : Rows). gives (held twice z (entered h.regs h.regs.s h.regs.f pcw e (cells_above h.regs)))) (sym r_is)
      ∙ ap (λ (z : Registers). gives (held twice rows z)) q_is

-- the word above the mark is still there once the mark is saved
pub above_stays : (st now : Stacks) (n f : ℕ) (w : Word) → IsSome (stack_at st n) → f + 2 ≤ length (words_of st n) → now ≡ with_word st (place n f) w
    → IsSome (word_at now (place n (f + 1)))
above_stays st now n f w there high e =
    let words_is : words_of now n ≡ set (words_of st n) f w =
    ap (λ (z : Stacks). words_of z n) e ∙ ap words_or (changed_here st n (set (words_of st n) f w) there) in
    let length_is : length (words_of now n) ≡ length (words_of st n) = ap (λ (z : List Word). length z) words_is ∙ length-set (words_of st n) f w in
    ap is_some (slice_get-get_or (words_of now n) (f + 1) w (omega (arith, high, length_is)))
