-- The least number of rows that is free.
use Rattle.std.proofs.Common.{◌≡◌, ◌≢◌, ℕ, suc, ◌+◌, ◌<◌, ◌≤◌, List, [], ◌∷◌, length, set, map, Option, Some, None, refl, ap, sym, subst, ◌∙◌, arith, rules}
use Rattle.std.specs.Prelude.{nat_lt, option_map, false}
use Rattle.std.specs.List.{count_by}
use Rattle.std.specs.List.Sorted.{IsPermutation}
use Rattle.std.proofs.lemmas.List.{length-map, map-set}
use Rattle.b67_store.specs.Numbers.{Numbers}
use Rattle.b67_store.specs.Store.{Rows, least_free, opened_at, counted_words, count_limit, row_limit, zero_row}
use Rattle.b67_store.specs.Table.{IsTable}
use Rattle.b67_store.proofs.Lists.{opened_within, opened_next}
use Rattle.b67_store.proofs.Tables.{placed_again, placed_last}
use Rattle.b67_flat.specs.declared.row_table.HeldRow.{HeldRow}
use Rattle.b67_flat.specs.Flat.{bare, bare_rows, live_in}
use Rattle.b67_flat.proofs.Areas.{opened_mapped}

pub least_mapped : {X Y : Type 0} (f : X → Y) (table : List (Option X)) → least_free (map (option_map f) table) ≡ least_free table
least_mapped f [] = refl
least_mapped f (None ∷ xs) = refl
least_mapped f (Some x ∷ xs) = ap suc (least_mapped f xs)

same_numbers : (xs : List ℕ) → IsPermutation xs xs
same_numbers xs = search rules

-- a number that is at hand, and none below it
pub least_at_hand : (rows : List (Option HeldRow)) (free : Numbers) (counted n : ℕ) (rest : List ℕ) → IsTable (bare_rows rows) free counted → free.numbers ≡ n ∷ rest → count_by (λ k. nat_lt k n) free.numbers ≡ 0 → (n ≡ least_free rows) × (n < row_limit)
least_at_hand rows free counted n rest t e none =
    let moved : IsPermutation free.numbers (n ∷ rest) = subst (λ (ns : List ℕ). IsPermutation free.numbers ns) e (same_numbers free.numbers) in
    let r = placed_again (bare_rows rows) (bare_rows rows) free record { numbers = rest; room = free.room } counted n 0 (zero_row 0 false) refl t moved none refl refl (omega (arith, t.counted_is, t.few_words)) in
    (r.1 ∙ least_mapped _ rows, r.2)

-- and where none is at hand
pub least_at_end : (rows : List (Option HeldRow)) (free : Numbers) (counted n : ℕ) → IsTable (bare_rows rows) free counted → free.numbers ≡ [] → n ≡ length rows → n ≢ row_limit → (n ≡ least_free rows) × (n < row_limit)
least_at_end rows free counted n t none size other =
    let r = placed_last (bare_rows rows) (bare_rows rows) free record { numbers = []; room = n + 1 } counted n 0 (zero_row 0 false) refl t none refl (size ∙ sym (length-map rows _)) (omega arith) other refl (omega (arith, t.counted_is, t.few_words)) in
    (r.0 ∙ least_mapped _ rows, r.1)

-- opening a row at a number at hand
pub taken_again : (rows seen : List (Option HeldRow)) (free after : Numbers) (counted n more : ℕ) (held : HeldRow) → rows ≡ seen → IsTable (bare_rows rows) free counted → IsPermutation free.numbers (n ∷ after.numbers) → count_by (λ k. nat_lt k n) free.numbers ≡ 0 → after.room ≡ free.room → more ≡ live_in (Some held) → counted_words (bare_rows seen) + live_in (Some held) ≤ count_limit → (n < length rows) × ((n ≡ least_free seen) × (n < row_limit)) × (set rows n (Some held) ≡ opened_at seen n held) × IsTable (bare_rows (set rows n (Some held))) after (counted + more)
taken_again rows seen free after counted n more held same t moved none room live few =
    let r = placed_again (bare_rows rows) (bare_rows seen) free after counted n more (bare held) (ap bare_rows same) t moved none room live few in
    let within : n < length rows = omega (arith, r.0, length-map rows (option_map bare)) in (
      within,
      (r.1 ∙ least_mapped bare seen, r.2),
      sym (opened_within rows n held within) ∙ ap (λ (ts : List (Option HeldRow)). opened_at ts n held) same,
      subst (λ (ts : Rows). IsTable ts after (counted + more)) (sym (map-set (option_map bare) rows n (Some held))) r.4,
    )

-- and at the end
pub taken_last : (rows seen : List (Option HeldRow)) (free after : Numbers) (counted n more : ℕ) (held : HeldRow) → rows ≡ seen → IsTable (bare_rows rows) free counted → free.numbers ≡ [] → after.numbers ≡ [] → n ≡ length rows → n + 1 ≤ after.room → n ≢ row_limit → more ≡ live_in (Some held) → counted_words (bare_rows seen) + live_in (Some held) ≤ count_limit → ((n ≡ least_free seen) × (n < row_limit)) × IsTable (bare_rows (opened_at rows n held)) after (counted + more)
taken_last rows seen free after counted n more held same t empty still size room other live few =
    let end : n ≡ length (bare_rows rows) = size ∙ sym (length-map rows (option_map bare)) in
    let r = placed_last (bare_rows rows) (bare_rows seen) free after counted n more (bare held) (ap bare_rows same) t empty still end room other live few in
    ((r.0 ∙ least_mapped bare seen, r.1), subst (λ (ts : Rows). IsTable ts after (counted + more)) (sym (opened_mapped bare rows n held ∙ opened_next (bare_rows rows) n (bare held) end)) r.2)
