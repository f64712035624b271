-- What leaving all frames above one comes to.
use Rattle.std.proofs.Common.{◌≡◌, refl, sym, ap, subst, ◌∙◌, ℕ, ◌+◌, ◌≤◌, Bool, List, [], Option, Result, Ok, Err, cond, arith}
use Rattle.std.proofs.lemmas.Bool.{eq-eqb}
use Rattle.b67_word.specs.declared.Place.{Place}
use Rattle.b67_word.specs.Word.{Word}
use Rattle.b67_control.specs.declared.Registers.{Registers}
use Rattle.b67_store.specs.Store.{Stacks, Rows, words_of, with_cut, stack_limit}
use Rattle.b67_table.specs.declared.InterruptKind.{InterruptKind}
use Rattle.b67_table.specs.Outcome.{Outcome, interrupts, gives}
use Rattle.b67_table.specs.Look.{Look, found, look_seen, ◌>->◌}
use Rattle.b67_table.specs.Chains.{rebuilt}
use Rattle.b67_table.specs.GoingTo.{Passing, passed_by}
use Rattle.b67_table.specs.Private.{display_at, at_or}
use Rattle.b67_display.proofs.Linking.{after, seen_then}
use Rattle.b67_linkage.specs.Held.{HeldCore, held}
use Rattle.b67_linkage.specs.Closing.{without_frames}
use Rattle.b67_linkage.specs.Entering.{after_look}
use Rattle.b67_linkage.specs.Leaving.{Cutting, cutting, cut_down, cuts, frame_at, own_frame, down_to, target_cells, target_rows}
use Rattle.b67_linkage.proofs.Entered.{outcome_of, within}

-- the registers of a process in a frame with so many cells, where its stack ends
abbrev pub down_with : Registers → ℕ → ℕ → List (Option Place) → ℕ → ℕ → Registers
down_with r level n display s at = record r { s = s; f = at; ll = level; display = display; cells = n }

module _ (h : HeldCore) (level : ℕ) where
  abbrev target : ℕ
  target = at_or (display_at h.regs level)

  abbrev way : Result Passing InterruptKind
  way = look_seen h.stacks (down_to (own_frame h.regs) h.regs.cells target)

  abbrev shape : Result (List (Option Place)) InterruptKind
  shape = look_seen h.stacks (rebuilt (frame_at h.regs level) level)

  abbrev cut_of : Passing → List (Option Place) → Result Cutting InterruptKind
  cut_of p display = Ok (record { passing = p; display = display })

  abbrev with_shape : Passing → Look Cutting
  with_shape p = rebuilt (frame_at h.regs level) level >-> (λ (display : List (Option Place)). found (record { passing = p; display = display }))

  abbrev both : Result Passing InterruptKind → Result (List (Option Place)) InterruptKind → Result Cutting InterruptKind
  both y z = after y (λ (p : Passing). after z (cut_of p))

  abbrev cells_in : Passing → Result ℕ InterruptKind
  cells_in p = Ok p.cells

  abbrev rows_in : Passing → Result Rows InterruptKind
  rows_in p = Ok (without_frames (words_of h.stacks h.regs.stack) p.frames h.rows)

  by_way : (y : Result Passing InterruptKind) → after y (λ (p : Passing). look_seen h.stacks (with_shape p)) ≡ both y shape
  by_way (Ok p) = seen_then h.stacks (rebuilt (frame_at h.regs level) level) (λ (display : List (Option Place)). found (record { passing = p; display = display }))
  by_way (Err kind) = refl

  cutting_is : look_seen h.stacks (cutting h.regs (frame_at h.regs level) level) ≡ both way shape
  cutting_is =
      seen_then h.stacks (passed_by h.regs (frame_at h.regs level)) with_shape
      ∙ ap (λ (b : Bool). after (look_seen h.stacks (cond b (down_to (own_frame h.regs) h.regs.cells target) (found (record { frames = []; cells = 0 })))) (λ (p : Passing). look_seen h.stacks (with_shape p)))
      (eq-eqb h.regs.stack h.regs.stack refl)
      ∙ by_way way

  cells_seen : look_seen h.stacks (target_cells (own_frame h.regs) h.regs.cells target) ≡ after way cells_in
  cells_seen = seen_then h.stacks (down_to (own_frame h.regs) h.regs.cells target) (λ (p : Passing). found p.cells)

  rows_seen : look_seen h.stacks (target_rows (words_of h.stacks h.regs.stack) h.rows (own_frame h.regs) h.regs.cells target) ≡ after way rows_in
  rows_seen =
      seen_then h.stacks (down_to (own_frame h.regs) h.regs.cells target) (λ (p : Passing). found (without_frames (words_of h.stacks h.regs.stack) p.frames h.rows))

  no_way_by : (y : Result Passing InterruptKind) (z : Result (List (Option Place)) InterruptKind) (kind : InterruptKind) → after y cells_in ≡ Err kind
      → outcome_of (after_look (both y z) (cut_down h level)) ≡ interrupts kind
  no_way_by (Ok p) z kind e = absurd cc
  no_way_by (Err k) z kind e = ap (λ (i : InterruptKind). interrupts i) (let f : Err k ≡ Err kind = e in cc)

  no_shape_by : (y : Result Passing InterruptKind) (z : Result (List (Option Place)) InterruptKind) (n : ℕ) (kind : InterruptKind) → after y cells_in ≡ Ok n → z ≡ Err kind
      → outcome_of (after_look (both y z) (cut_down h level)) ≡ interrupts kind
  no_shape_by (Ok p) z n kind e f = ap (λ (x : Result (List (Option Place)) InterruptKind). outcome_of (after_look (both (Ok p) x) (cut_down h level))) f
  no_shape_by (Err k) z n kind e f = absurd cc

  abbrev down_in : ℕ → List (Option Place) → Registers
  down_in n display = record h.regs { s = target + 2 + n; f = target; ll = level; display = display; cells = n }

  cut_by : (y : Result Passing InterruptKind) (z : Result (List (Option Place)) InterruptKind) (n : ℕ) (d : List (Option Place)) (rows : Rows) → after y cells_in ≡ Ok n
      → z ≡ Ok d → after y rows_in ≡ Ok rows → target + 2 + n ≤ stack_limit
      → outcome_of (after_look (both y z) (cut_down h level)) ≡ gives (held (with_cut h.stacks h.regs.stack (target + 2 + n)) rows (down_in n d))
  cut_by (Err k) z n d rows e f q low = absurd cc
  cut_by (Ok p) z n d rows e f q low =
      let n_is : p.cells ≡ n = cc in
      let rows_is : without_frames (words_of h.stacks h.regs.stack) p.frames h.rows ≡ rows = cc in
      ap (λ (x : Result (List (Option Place)) InterruptKind). outcome_of (after_look (both (Ok p) x) (cut_down h level))) f
      ∙ within (cut_down h level (record { passing = p; display = d })) (subst (λ (k : ℕ). target + 2 + k ≤ stack_limit) (sym n_is) low)
      ∙ ap (λ (k : ℕ). gives (held (with_cut h.stacks h.regs.stack (target + 2 + k)) (without_frames (words_of h.stacks h.regs.stack) p.frames h.rows) (down_in k d))) n_is
      ∙ ap (λ (k : Rows). gives (held (with_cut h.stacks h.regs.stack (target + 2 + n)) k (down_in n d))) rows_is

  abbrev does : Result Cutting InterruptKind → Outcome HeldCore
  does x = outcome_of (after_look x (cut_down h level))

  pub no_way : (kind : InterruptKind) → look_seen h.stacks (target_cells (own_frame h.regs) h.regs.cells target) ≡ Err kind → outcome_of (cuts h level) ≡ interrupts kind
  no_way kind e = ap does cutting_is ∙ no_way_by way shape kind (sym cells_seen ∙ e)

  pub no_shape : (n : ℕ) (kind : InterruptKind) → look_seen h.stacks (target_cells (own_frame h.regs) h.regs.cells target) ≡ Ok n → shape ≡ Err kind
      → outcome_of (cuts h level) ≡ interrupts kind
  no_shape n kind e f = ap does cutting_is ∙ no_shape_by way shape n kind (sym cells_seen ∙ e) f

  pub is_cut : (n : ℕ) (d : List (Option Place)) (rows : Rows) → look_seen h.stacks (target_cells (own_frame h.regs) h.regs.cells target) ≡ Ok n → shape ≡ Ok d
      → look_seen h.stacks (target_rows (words_of h.stacks h.regs.stack) h.rows (own_frame h.regs) h.regs.cells target) ≡ Ok rows → target + 2 + n ≤ stack_limit
      → outcome_of (cuts h level) ≡ gives (held (with_cut h.stacks h.regs.stack (target + 2 + n)) rows (down_in n d))
  is_cut n d rows e f q low = ap does cutting_is ∙ cut_by way shape n d rows (sym cells_seen ∙ e) f (sym rows_seen ∙ q) low
